-- MESSAGE PARITY ERROR comes right after a message of the target, and of a known process brings something back, but for
-- one that was broken off (6.6.13).
use Rattle.transcript_laws.proofs
use proofs.Names.{ℕ, ◌≡◌, ◌∙◌, ◌⊎◌, inl, inr, Bool, true, false, not, ◌&&◌, ◌%◌, ◌==◌, List, [], ◌∷◌, ◌++◌, Option}
use proofs.Names.{Some, None, refl, sym, ap, ◌||◌, append-nil, same_Some, is_some, if◌then◌else◌, wrong, wrong'}
use proofs.Names.{or_true, counted_on, ProcId, rises, LineSet, changes_phase, is_command, is_data, is_message_in}
use proofs.Names.{is_message_out, is_fault, receiver_in, Change, Connection, Row, Handshakes, got_in, got_out, Got}
use proofs.Names.{MsgIn, MsgOut, fresh_bytes, byte_out, byte_in, byte_else, left_of, is_nil, reading_out, Dialogue}
use proofs.Names.{Reading, is_unknown, ScenarioValue, whole_in, whole_out, message_in, message_out, is_status_phase}
use proofs.Names.{carried_if, Item, process, abort, has_item, Link, last_out, Exchange, plan_anew, plan_after_message}
use proofs.Names.{struck_plan, plan_in_message_out, Cause, Plan, RunState, bus_of, run_state, hearing_of, leaving}
use proofs.Names.{InConnection, in_connection, SamePhase, in_is_known, in_io, not_both, Knows}
use proofs.Names.{reading_in as row_reading_in, IsAboutToSpeak, is_selected, in_phase, message_line, out_in, in_out}
use proofs.Names.{out_line, out_lines, out_no_status, plan_out, by_bool, IsServed, Grows, heard_link, LinkAfter, says}
use proofs.Names.{hears, stays, link_crossed, over_after, link_still, Named, known, said, refused, counted_row}
use proofs.Names.{turn_handshakes, OpenedValue, is_complete, is_completion, with_all_out, with_in, with_in_if}
use proofs.Names.{with_part, with_fault, with_still_row, spoken, broken_off, data_parts, phase_entered, phase_over}
use proofs.Names.{Incoming, Broken, Part, Command, Completion, StatusPhase, are_talk, base_parts, is_known, is_broken}
use proofs.{Fits.Turns.{item_served}, Held.Last.{HeldLast, still_held, over_held}, Opened.Bytes.{OpenedBytes}}
use proofs.Opened.Bytes.{KeepsTalk, still_keeps, turned, CrossingMade, crossed_out, crossed_in, crossed_status}
use proofs.Opened.Bytes.{crossed_else, crossing_made, lines_same, out_same, in_same, begun_same, begun_crossing}
use proofs.{Opened.Rows.{Going, RowMade, made_still, made_crossing, made_turn, knows_before}, Parts.Lists.{over_keeps}}
use proofs.Talks.Named.{TalkNamed, base_talk, in_talk, turn_talk}
use Rattle.due_model.specs.bus_phases.specs.Reading.{reading_in}
use Rattle.bus_transcript.specs.declared.part.Incoming.TheVariants.{Whole}
use Rattle.progress_laws.specs.row_laws.specs.Tells.{of_process, of_abort}
use Rattle.due_model.specs.story_model.specs.HistoryEvents as story_of

-- In MESSAGE IN, with no message half heard, once a byte has crossed; and in a MESSAGE OUT that follows.
pub record IsHeardIn (k : RunState) : Type 0 where
  pub begun : k.exchange.begun ≡ true
  pub here : is_message_in (bus_of k) ≡ true
  pub some : (k.handshakes.requests == 0) ≡ false
  pub half : k.story.bus_state.dialogue.half ≡ []

pub record IsAnswering (k : RunState) : Type 0 where
  pub begun : k.exchange.begun ≡ true
  pub here : is_message_out (bus_of k) ≡ true
  pub cause : k.exchange.plan.cause ≡ Cause.InMessage

abbrev pub Backed : RunState → OpenedValue → Type 0
Backed k o =
    is_known o (bus_of k) ≡ true → (l : Link) → k.story.link ≡ Some l → (is_some l.undo || is_broken o.held) ≡ true

pub record HeldSince (k : RunState) (o : OpenedValue) : Type 0 where
  pub in_held : IsHeardIn k → is_some o.held ≡ true
  pub in_since : IsHeardIn k → (o.since ≡ []) ⊎ ((i : Item) → k.served ≡ Some i → has_item k.story.sent.over i ≡ true)
  pub in_backed : IsHeardIn k → o.since ≡ [] → Backed k o
  pub out_held : IsAnswering k → is_some o.held ≡ true
  pub out_since : IsAnswering k → o.since ≡ []
  pub out_backed : IsAnswering k → Backed k o

-- ---- a byte that leaves no message half heard makes one whole

some_bytes : {A : Type 0} (xs : List ℕ) (b : ℕ) → xs ++ b ∷ [] ≡ [] → A
some_bytes [] b e = absurd (not_nil b [] e)
  where
    not_nil : (x : ℕ) (zs : List ℕ) → x ∷ zs ≡ [] → ⊥
    not_nil x zs z = cc
some_bytes (x ∷ xs) b e = absurd (not_nil x (xs ++ b ∷ []) e)
  where
    not_nil : (x : ℕ) (zs : List ℕ) → x ∷ zs ≡ [] → ⊥
    not_nil x zs z = cc

pub none_half : {A : Type 0} (half : List ℕ) (b : ℕ) → whole_in (got_in (half ++ b ∷ [])) ≡ None
    → is_unknown (reading_in (got_in (half ++ b ∷ []))) ≡ false
    → left_of (got_in (half ++ b ∷ [])) (half ++ b ∷ []) ≡ [] → A
none_half {A = A} half b e f h = go (got_in (half ++ b ∷ [])) e f h
  where
    go : (g : Got MsgIn) → whole_in g ≡ None → is_unknown (reading_in g) ≡ false → left_of g (half ++ b ∷ []) ≡ [] → A
    go (Got.Whole m n) x y z = absurd (not_none m x)
      where
        not_none : (m : MsgIn) → Some m ≡ None → ⊥
        not_none m w = cc
    go Got.More x y z = some_bytes half b z
    go Got.Unknown x y z = wrong y

-- ---- what is known stays known

known_same : (o v : OpenedValue) (b a : LineSet) → v.connection ≡ o.connection
    → are_talk (base_parts v) ≡ are_talk (base_parts o) → is_command b ≡ false → is_command a ≡ false
    → is_known v a ≡ is_known o b
known_same o v b a conn talk nb na = (λ i. not (conn i).reselected || not (talk i) || na i)
    ∙ ap (λ (q : Bool). not o.connection.reselected || not (are_talk (base_parts o)) || q) (sym nb)

record IsMessage (b a : LineSet) : Type 0 where
  before : is_command b ≡ false
  after : is_command a ≡ false

is_message : (b a : LineSet) → SamePhase b a → b.msg ≡ true → IsMessage b a
is_message b a h e =
    record { before = λ i. not (e i) && b.cd && not b.io; after = λ i. not ((h.msg ∙ e) i) && a.cd && not a.io }

pub message_no_command : (b : LineSet) → b.msg ≡ true → is_command b ≡ false
message_no_command b e = λ i. not (e i) && b.cd && not b.io

-- Of a known process of MESSAGE IN the item is a process.
known_process :
    (s : ScenarioValue) (p : List Row) (row : Row) (n : Connection) (g : Going s p row n) (o : OpenedValue) (l : Link)
    → OpenedBytes (run_state s p) n o → TalkNamed (run_state s p) n o → (run_state s p).story.link ≡ Some l
    → (run_state s p).exchange.begun ≡ true → is_message_in (bus_of (run_state s p)) ≡ true
    → is_known o (bus_of (run_state s p)) ≡ true → is_some (carried_if (run_state s p).story l.item) ≡ true
known_process s p row n g o l bytes named el begun here kn = go l.item refl (some n.reselected refl)
  where
    k : RunState
    k = run_state s p

    w : Knows s k n
    w = knows_before s p row n g

    same : w.link ≡ l
    same = same_Some w.link l (sym w.link_is ∙ el)

    served_some : IsServed s k n → is_some k.served ≡ true
    served_some (of_process id pr e f) = ap (λ x. is_some x) e
    served_some (of_abort m a e f x y z phase) = ap (λ x. is_some x) e

    talk : n.reselected ≡ true → (q : Bool) → are_talk (base_parts o) ≡ q → are_talk (base_parts o) ≡ false
    talk re false z = z
    talk re true z =
        wrong' (sym (ap (λ (x : Connection). not x.reselected || not (are_talk (base_parts o)) || is_command (bus_of k))
        bytes.connection_is ∙ ap (λ (q : Bool). not q || not (are_talk (base_parts o)) || is_command (bus_of k)) re
        ∙ ap (λ (q : Bool). not q || is_command (bus_of k)) z
        ∙ message_no_command (bus_of k) (message_line (bus_of k) here)) ∙ kn)

    some : (r : Bool) → n.reselected ≡ r → is_some l.item ≡ true
    some true re = named.named re (talk re (are_talk (base_parts o)) refl) l el
    some false sel = by w.item_is
      where
        by : (w.link.item ≡ k.served) ⊎ ((n.reselected ≡ true) × (w.link.item ≡ None)) → is_some l.item ≡ true
        by (inl z) = ap (λ (x : Link). is_some x.item) (sym same) ∙ ap (λ x. is_some x) z
            ∙ served_some (g.was.facts.served n g.stands g.calm)
        by (inr z) = wrong (sym z.0 ∙ sel)

    no_abort : (i : ℕ) → k.served ≡ Some (abort i) → IsServed s k n
        → is_some (carried_if k.story (Some (abort i))) ≡ true
    no_abort i e (of_process id pr f x) = not_abort id i (sym f ∙ e)
      where
        not_abort : {A : Type 0} (id : ProcId) (i : ℕ) → (let a : Option Item = Some (process id) in a) ≡ Some (abort i)
            → A
        not_abort id i z = absurd cc
    no_abort i e (of_abort m a f x y z re phase) =
        not_both (bus_of k) here (out_lines (bus_of k) (phase begun).0 (λ q. (g.going.goes.phase q).0))

    go : (x : Option Item) → l.item ≡ x → is_some l.item ≡ true → is_some (carried_if k.story x) ≡ true
    go None e z = wrong' (sym (ap (λ y. is_some y) e) ∙ z)
    go (Some (process id)) e z = refl
    go (Some (abort i)) e z = no_abort i (item_served s k n l (abort i) w el e) (g.was.facts.served n g.stands g.calm)

-- ---- row by row

pub since_still :
    (s : ScenarioValue) (p : List Row) (row : Row) (n : Connection) (g : Going s p row n) (o after : OpenedValue)
    → changes_phase g.going.change ≡ false → is_some (receiver_in n g.going.change) ≡ false
    → after ≡ with_still_row o (run_state s p).story.bus_state g.going.change row.kind → HeldLast (run_state s p) o
    → OpenedBytes (run_state s p) n o → TalkNamed (run_state s p) n o → HeldSince (run_state s p) o
    → HeldSince (run_state s (row ∷ p)) after
since_still s p row n g o after ep none e last bytes named h =
    by_bool (is_completion o k.story.bus_state.dialogue.half c)
    (λ z. taken z)
    (λ z. quiet z)
  where
    k : RunState
    k = run_state s p

    j : RunState
    j = run_state s (row ∷ p)

    c : Change
    c = g.going.change

    i : InConnection s k row n c false false (is_fault row.kind)
    i = in_connection s k row n c false false (is_fault row.kind) g.going.goes.row_is ep none refl

    on : bus_of k ≡ c.before
    on = g.going.goes.row_is.bus_is

    lines : SamePhase (bus_of k) (bus_of j)
    lines = lines_same s p row n g ep

    l : Link
    l = (knows_before s p row n g).link

    el : k.story.link ≡ Some l
    el = (knows_before s p row n g).link_is

    link : j.story.link ≡ Some l
    link = link_still s k row n c l g.going.goes.row_is none el

    half : j.story.bus_state.dialogue.half ≡ k.story.bus_state.dialogue.half
    half = ap (λ (x : Dialogue). x.half) i.dialogue_is

    same_requests : is_message_in (bus_of k) ≡ true → j.handshakes.requests ≡ k.handshakes.requests
    same_requests here = (counted_row s p row n c g.inside g.was.stood.standing.devices g.going.goes ep).requests
        ∙ by (rises c.before.req c.after.req) (up c.before.io (rises c.before.req c.after.req)
        (rises c.before.ack c.after.ack) (in_io c.before (ap is_message_in (sym on) ∙ here)) none)
      where
        by : (q : Bool) → q ≡ false
            → (if q then counted_on k.handshakes.requests else k.handshakes.requests) ≡ k.handshakes.requests
        by true z = wrong z
        by false z = refl

        up : (io q r : Bool) → io ≡ true
            → is_some (if io then (if q then Some n.initiator else None) else (if r then Some n.target else None))
            ≡ false → q ≡ false
        up true true r y z = wrong z
        up true false r y z = refl
        up false q r y z = wrong' y

    was_in : IsHeardIn j → IsHeardIn k
    was_in x =
        let here : is_message_in (bus_of k) ≡ true = sym (in_same (bus_of k) (bus_of j) lines) ∙ x.here in
        record {
          begun = sym (begun_same s p row n g ep) ∙ x.begun;
          here = here;
          some = ap (λ (m : ℕ). m == 0) (sym (same_requests here)) ∙ x.some;
          half = sym half ∙ x.half;
        }

    cause : j.exchange.plan.cause ≡ k.exchange.plan.cause
    cause = ap (λ (x : Exchange). x.plan.cause) i.exchange_is ∙ by (is_fault row.kind && not c.before.io)
      where
        by : (q : Bool) → (if q then struck_plan k.exchange.plan else k.exchange.plan).cause ≡ k.exchange.plan.cause
        by true = refl
        by false = refl

    was_out : IsAnswering j → IsAnswering k
    was_out x = record {
      begun = sym (begun_same s p row n g ep) ∙ x.begun;
      here = sym (out_same (bus_of k) (bus_of j) lines) ∙ x.here;
      cause = sym cause ∙ x.cause;
    }

    keeps : KeepsTalk o (with_still_row o k.story.bus_state c row.kind)
    keeps = still_keeps o k.story.bus_state c row

    held : after.held ≡ o.held
    held = ap (λ (x : OpenedValue). x.held) e ∙ keeps.held

    grown : Grows k.story.sent j.story.sent
    grown = (over_after s k row n c false l g.going.goes.row_is none el).grows

    over : ((x : Item) → k.served ≡ Some x → has_item k.story.sent.over x ≡ true) → (x : Item) → j.served ≡ Some x
        → has_item j.story.sent.over x ≡ true
    over f x z = grown.over x (f x (sym i.served_is ∙ z))

    backed : IsMessage (bus_of k) (bus_of j) → are_talk (base_parts after) ≡ are_talk (base_parts o) → Backed k o
        → Backed j after
    backed m talk f kn q eq = ap (λ (x : Option Incoming). is_some q.undo || is_broken x) held
        ∙ f (sym (known_same o after (bus_of k) (bus_of j) (ap (λ (x : OpenedValue). x.connection) e ∙ keeps.connection)
        talk m.before m.after) ∙ kn) q (el ∙ sym link ∙ eq)

    -- nothing but a fault
    quiet : is_completion o k.story.bus_state.dialogue.half c ≡ false → HeldSince j after
    quiet z =
        let is : after ≡ with_fault o (is_fault row.kind && is_some k.story.bus_state.crossed) = e
        ∙ ap (λ (q : Bool). if q then with_part o Completion
        else with_fault o (is_fault row.kind && is_some k.story.bus_state.crossed)) z in
        let since : after.since ≡ o.since = ap (λ (x : OpenedValue). x.since) is in
        let talk : are_talk (base_parts after) ≡ are_talk (base_parts o) = ap
        (λ (x : OpenedValue). are_talk (base_parts x)) is in
        record {
          in_held = λ x. ap (λ (y : Option Incoming). is_some y) held ∙ h.in_held (was_in x);
          in_since = λ x. elim (h.in_since (was_in x)) [ inl w ↦ inl (since ∙ w) | inr w ↦ inr (over w) ];
          in_backed = λ x w. backed (is_message (bus_of k) (bus_of j) lines (message_line (bus_of k) (was_in x).here))
              talk (h.in_backed (was_in x) (sym since ∙ w));
          out_held = λ x. ap (λ (y : Option Incoming). is_some y) held ∙ h.out_held (was_out x);
          out_since = λ x. since ∙ h.out_since (was_out x);
          out_backed = λ x. backed (is_message (bus_of k) (bus_of j) lines (out_line (bus_of k) (was_out x).here)) talk
              (h.out_backed (was_out x));
        }

    -- COMMAND COMPLETE is taken: its process is over
    taken : is_completion o k.story.bus_state.dialogue.half c ≡ true → HeldSince j after
    taken z =
        let parts = completion_parts (rises c.before.ack c.after.ack) (is_message_in c.before)
        (is_complete o.held) (is_nil k.story.bus_state.dialogue.half) (not c.after.atn) z in
        let here : is_message_in (bus_of k) ≡ true = ap is_message_in on ∙ parts.1 in
        let no_out : is_message_out (bus_of j) ≡ false = out_same (bus_of k) (bus_of j) lines
        ∙ out_in (bus_of k) here in
        let completes : story_of.is_completion l c ≡ true =
        (λ t. parts.0 t && parts.1 t && (last.same (out_in (bus_of k) here) l el ∙ parts.2) t && parts.3 t) in
        let is : after ≡ with_part o Completion = e ∙ ap (λ (q : Bool). if q then with_part o Completion
        else with_fault o (is_fault row.kind && is_some k.story.bus_state.crossed)) z in
        record {
          in_held = λ x. ap (λ (y : Option Incoming). is_some y) held ∙ some_complete o.held parts.2;
          in_since = λ x. inr (λ y served. ended completes (was_in x) y (sym i.served_is ∙ served));
          in_backed = λ x w. some_parts o.since Completion (sym (ap (λ (y : OpenedValue). y.since) is) ∙ w);
          out_held = λ x. wrong (sym x.here ∙ no_out);
          out_since = λ x. wrong (sym x.here ∙ no_out);
          out_backed = λ x. wrong (sym x.here ∙ no_out);
        }
      where
        completion_parts : (a b x d f : Bool) → (a && b && x && d && f) ≡ true
            → (a ≡ true) × (b ≡ true) × (x ≡ true) × (f ≡ true)
        completion_parts true true true true f y = (refl, refl, refl, y)
        completion_parts true true true false f y = wrong' y
        completion_parts true true false d f y = wrong' y
        completion_parts true false x d f y = wrong' y
        completion_parts false b x d f y = wrong' y

        some_complete : (x : Option Incoming) → is_complete x ≡ true → is_some x ≡ true
        some_complete None y = wrong' y
        some_complete (Some m) y = refl

        ended : story_of.is_completion l c ≡ true → IsHeardIn k → (y : Item) → k.served ≡ Some y
            → has_item j.story.sent.over y ≡ true
        ended completes x (process id) served = (over_after s k row n c false l g.going.goes.row_is none el).ended ep
            completes id (item_is (process id) served (known_here completes))
          where
            known_here : story_of.is_completion l c ≡ true → is_some l.item ≡ true
            known_here q = by n.reselected refl
              where
                by : (r : Bool) → n.reselected ≡ r → is_some l.item ≡ true
                by true re = named_here (g.was.facts.named n g.stands g.calm re)
                  where
                    complete_last : (a b y d : Bool) → (a && b && y && d) ≡ true → y ≡ true
                    complete_last true true true d w = refl
                    complete_last true true false d w = wrong' w
                    complete_last true false y d w = wrong' w
                    complete_last false b y d w = wrong' w

                    named_here : Named s k n → is_some l.item ≡ true
                    named_here (known m em some nameless) =
                        ap (λ (y : Link). is_some y.item) (same_Some l m (sym el ∙ em)) ∙ some
                    named_here (said pr m naming there names all) = wrong
                        (sym (ap (λ (y : Link). story_of.is_complete y.last) (same_Some m l (sym naming.link_is ∙ el))
                        ∙ complete_last (rises c.before.ack c.after.ack) (is_message_in c.before)
                        (story_of.is_complete l.last) (not c.after.atn) q) ∙ naming.last)
                    named_here (refused pr m naming there cause' names) = not_both (bus_of k) x.here there
                by false sel = served_item (knows_before s p row n g).item_is
                  where
                    served_item : (l.item ≡ k.served) ⊎ ((n.reselected ≡ true) × (l.item ≡ None))
                        → is_some l.item ≡ true
                    served_item (inl w) = ap (λ (y : Option Item). is_some y) (w ∙ served)
                    served_item (inr w) = wrong (sym w.0 ∙ sel)

            item_is : (y : Item) → k.served ≡ Some y → is_some l.item ≡ true → l.item ≡ Some y
            item_is y sv some = by (knows_before s p row n g).item_is
              where
                by : (l.item ≡ k.served) ⊎ ((n.reselected ≡ true) × (l.item ≡ None)) → l.item ≡ Some y
                by (inl w) = w ∙ sv
                by (inr w) = wrong' (sym (ap (λ (v : Option Item). is_some v) w.1) ∙ some)
        ended completes x (abort m) served = no_abort (g.was.facts.served n g.stands g.calm)
          where
            not_abort : {A : Type 0} (id : ProcId) (j : ℕ)
                → (let a : Option Item = Some (process id) in a) ≡ Some (abort j) → A
            not_abort id j z = absurd cc

            no_abort : IsServed s k n → has_item j.story.sent.over (abort m) ≡ true
            no_abort (of_process id pr f q) = not_abort id m (sym f ∙ served)
            no_abort (of_abort m' a f q y z re phase) =
                not_both (bus_of k) x.here (out_lines (bus_of k) (phase x.begun).0 (λ v. (g.going.goes.phase v).0))

        some_parts : {A : Type 0} (xs : List Part) (y : Part) → xs ++ y ∷ [] ≡ [] → A
        some_parts [] y w = absurd (not_nil y [] w)
          where
            not_nil : (v : Part) (zs : List Part) → v ∷ zs ≡ [] → ⊥
            not_nil v zs q = cc
        some_parts (v ∷ xs) y w = absurd (not_nil v (xs ++ y ∷ []) w)
          where
            not_nil : (v : Part) (zs : List Part) → v ∷ zs ≡ [] → ⊥
            not_nil v zs q = cc

-- A byte that crosses.
pub since_crossing : (s : ScenarioValue) (p : List Row) (row : Row) (n : Connection) (g : Going s p row n)
    (o after : OpenedValue) (dev : ℕ) → changes_phase g.going.change ≡ false → receiver_in n g.going.change ≡ Some dev
    → CrossingMade o after (run_state s p).story.bus_state.dialogue.is_last g.going.change.before
    (g.going.change.after.data_bits % 256) (message_out (run_state s p).story.bus_state.dialogue g.going.change true)
    (message_in (run_state s p).story.bus_state.dialogue g.going.change true)
    → OpenedBytes (run_state s p) n o → TalkNamed (run_state s p) n o → HeldSince (run_state s p) o
    → HeldSince (run_state s (row ∷ p)) after
since_crossing s p row n g o after dev ep er made bytes named h =
    go made (link_crossed s k row n c l g.going.goes.row_is there el)
  where
    k : RunState
    k = run_state s p

    j : RunState
    j = run_state s (row ∷ p)

    c : Change
    c = g.going.change

    there : is_some (receiver_in n c) ≡ true
    there = ap (λ (x : Option ℕ). is_some x) er

    l : Link
    l = (knows_before s p row n g).link

    el : k.story.link ≡ Some l
    el = (knows_before s p row n g).link_is

    on : bus_of k ≡ c.before
    on = g.going.goes.row_is.bus_is

    lines : SamePhase (bus_of k) (bus_of j)
    lines = lines_same s p row n g ep

    begun : k.exchange.begun ≡ true
    begun = begun_crossing s p row n g dev er

    i : InConnection s k row n c false true (is_fault row.kind)
    i = in_connection s k row n c false true (is_fault row.kind) g.going.goes.row_is ep there refl

    byte : ℕ
    byte = c.after.data_bits % 256

    -- not in MESSAGE IN, and not in MESSAGE OUT
    neither : is_message_out c.before ≡ false → is_message_in c.before ≡ false → HeldSince j after
    neither x y =
        let no_in : is_message_in (bus_of j) ≡ false = in_same (bus_of k) (bus_of j) lines ∙ ap is_message_in on ∙ y in
        let no_out : is_message_out (bus_of j) ≡ false = out_same (bus_of k) (bus_of j) lines
        ∙ ap is_message_out on ∙ x in
        record {
          in_held = λ z. wrong (sym z.here ∙ no_in);
          in_since = λ z. wrong (sym z.here ∙ no_in);
          in_backed = λ z. wrong (sym z.here ∙ no_in);
          out_held = λ z. wrong (sym z.here ∙ no_out);
          out_since = λ z. wrong (sym z.here ∙ no_out);
          out_backed = λ z. wrong (sym z.here ∙ no_out);
        }

    no_msg : {A : Type 0} (m : MsgOut) → (let a : Option MsgOut = None in a) ≡ Some m → A
    no_msg m z = absurd cc

    no_inc : {A : Type 0} (m : MsgIn) → (let a : Option MsgIn = None in a) ≡ Some m → A
    no_inc m z = absurd cc

    in_none : is_message_in c.before ≡ false → message_in k.story.bus_state.dialogue c true ≡ None
    in_none x =
        ap (λ (q : Bool). if q then whole_in (got_in (k.story.bus_state.dialogue.half ++ byte ∷ [])) else None) x

    out_none : is_message_out c.before ≡ false → message_out k.story.bus_state.dialogue c true ≡ None
    out_none x = ap
        (λ (q : Bool). if q then whole_out (got_out (fresh_bytes k.story.bus_state.dialogue ++ byte ∷ [])) else None) x

    -- ---- MESSAGE OUT: what is held stays

    cause : is_message_out c.before ≡ true → j.exchange.plan.cause ≡ k.exchange.plan.cause
    cause x = ap (λ (y : Exchange). y.plan.cause) i.exchange_is
        ∙ by (is_message_out c.before) k.story.bus_state.dialogue.is_last
        (message_out k.story.bus_state.dialogue c true)
      where
        by : (q anew : Bool) (m : Option MsgOut)
            → (if q then plan_after_message k.exchange.plan anew m else k.exchange.plan).cause ≡ k.exchange.plan.cause
        by true true m = refl
        by true false m = refl
        by false anew m = refl

    out_stays : is_message_out c.before ≡ true → (undo : (q : Link) → j.story.link ≡ Some q → q.undo ≡ l.undo)
        → after.connection ≡ o.connection → after.parts ≡ o.parts → after.since ≡ o.since → after.held ≡ o.held
        → HeldSince j after
    out_stays x undo conn parts since held =
        let no_in : is_message_in (bus_of j) ≡ false = in_same (bus_of k) (bus_of j) lines
        ∙ ap is_message_in on ∙ in_out c.before x in
        let was : IsAnswering j → IsAnswering k = λ z. record {
          begun = begun;
          here = ap is_message_out on ∙ x;
          cause = sym (cause x) ∙ z.cause;
        } in
        let m = is_message (bus_of k) (bus_of j) lines (out_line (bus_of k) (ap is_message_out on ∙ x)) in
        let talk : are_talk (base_parts after) ≡ are_talk (base_parts o) = base_talk after
        ∙ (λ t. are_talk (parts t) && are_talk (since t)) ∙ sym (base_talk o) in
        record {
          in_held = λ z. wrong (sym z.here ∙ no_in);
          in_since = λ z. wrong (sym z.here ∙ no_in);
          in_backed = λ z. wrong (sym z.here ∙ no_in);
          out_held = λ z. ap (λ (y : Option Incoming). is_some y) held ∙ h.out_held (was z);
          out_since = λ z. since ∙ h.out_since (was z);
          out_backed = λ z kn q eq. (λ t. is_some (undo q eq t) || is_broken (held t)) ∙ h.out_backed (was z)
              (sym (known_same o after (bus_of k) (bus_of j) conn talk m.before m.after) ∙ kn) l el;
        }

    -- ---- MESSAGE IN: the message is held

    in_heard : is_message_out c.before ≡ false → is_message_in c.before ≡ true
        → (m : MsgIn) → message_in k.story.bus_state.dialogue c true ≡ Some m
        → after ≡ with_in_if o (message_in k.story.bus_state.dialogue c true)
        → j.story.link ≡ Some (heard_link s k.story l m) → HeldSince j after
    in_heard x y m b f link =
        let no_out : is_message_out (bus_of j) ≡ false = out_same (bus_of k) (bus_of j) lines
        ∙ ap is_message_out on ∙ x in
        let here : is_message_in (bus_of k) ≡ true = ap is_message_in on ∙ y in
        let is : after ≡ with_in o (Whole m) = f ∙ ap (λ (z : Option MsgIn). with_in_if o z) b in
        let talk : are_talk (base_parts after) ≡ are_talk (base_parts o) =
        ap (λ (z : OpenedValue). are_talk (base_parts z)) f
        ∙ in_talk o (message_in k.story.bus_state.dialogue c true) in
        let v = is_message (bus_of k) (bus_of j) lines (message_line (bus_of k) here) in
        let backed : Backed j after = λ kn q eq. ap (λ (z : Link). is_some z.undo || is_broken after.held)
        (same_Some q (heard_link s k.story l m) (sym eq ∙ link))
        ∙ ap (λ (z : Bool). z || is_broken after.held) (known_process s p row n g o l bytes named el begun here (sym
        (known_same o after (bus_of k) (bus_of j) (ap (λ (z : OpenedValue). z.connection) is) talk v.before v.after)
        ∙ kn)) in
        record {
          in_held = λ z. ap (λ (w : OpenedValue). is_some w.held) is;
          in_since = λ z. inl (ap (λ (w : OpenedValue). w.since) is);
          in_backed = λ z w. backed;
          out_held = λ z. wrong (sym z.here ∙ no_out);
          out_since = λ z. wrong (sym z.here ∙ no_out);
          out_backed = λ z. wrong (sym z.here ∙ no_out);
        }

    -- no message is whole: one is half heard
    in_part : is_message_out c.before ≡ false → is_message_in c.before ≡ true
        → message_in k.story.bus_state.dialogue c true ≡ None → HeldSince j after
    in_part x y b =
        let no_out : is_message_out (bus_of j) ≡ false = out_same (bus_of k) (bus_of j) lines
        ∙ ap is_message_out on ∙ x in
        record {
          in_held = λ z. halved z;
          in_since = λ z. halved z;
          in_backed = λ z. halved z;
          out_held = λ z. wrong (sym z.here ∙ no_out);
          out_since = λ z. wrong (sym z.here ∙ no_out);
          out_backed = λ z. wrong (sym z.here ∙ no_out);
        }
      where
        halved : {A : Type 0} → IsHeardIn j → A
        halved z =
            let known = in_is_known k n c (g.was.stood.books.gives n
            g.going.goes.row_is.connection_is g.going.goes.calm) begun on y x g.going.goes.gives in
            none_half k.story.bus_state.dialogue.half byte (sym
            (ap (λ (q : Bool). if q then whole_in (got_in (k.story.bus_state.dialogue.half ++ byte ∷ [])) else None) y)
            ∙ b) (sym (λ t. is_unknown
            (if there t then if x t then reading_out (got_out (k.story.bus_state.dialogue.half ++ byte ∷ []))
            else if y t then reading_in (got_in (k.story.bus_state.dialogue.half ++ byte ∷ [])) else Reading.NoMessage
            else Reading.NoMessage)) ∙ known) (sym (ap (λ (d : Dialogue). d.half) i.dialogue_is
            ∙ (λ t. (if x t then byte_out k.story.bus_state.dialogue byte (not c.after.atn) else if y t
            then byte_in k.story.bus_state.dialogue byte else byte_else k.story.bus_state.dialogue c.before byte).half))
            ∙ z.half)

    go : CrossingMade o after k.story.bus_state.dialogue.is_last c.before byte
        (message_out k.story.bus_state.dialogue c true) (message_in k.story.bus_state.dialogue c true)
        → LinkAfter s k.story l (message_out k.story.bus_state.dialogue c true)
        (message_in k.story.bus_state.dialogue c true) j.story.link
        → HeldSince j after
    go (crossed_out x f) (says m a link) = out_stays x (λ q eq. ap (λ (z : Link). z.undo)
        (same_Some q (record l { last = last_out m l }) (sym eq ∙ link))) (ap (λ (z : OpenedValue). z.connection) f)
        (ap (λ (z : OpenedValue). z.parts) f) (ap (λ (z : OpenedValue). z.since) f) (ap (λ (z : OpenedValue). z.held) f)
    go (crossed_out x f) (hears m a b link) = no_inc m (sym (in_none (in_out c.before x)) ∙ b)
    go (crossed_out x f) (stays a b link) = out_stays x
        (λ q eq. ap (λ (z : Link). z.undo) (same_Some q l (sym eq ∙ link))) (ap (λ (z : OpenedValue). z.connection) f)
        (ap (λ (z : OpenedValue). z.parts) f) (ap (λ (z : OpenedValue). z.since) f) (ap (λ (z : OpenedValue). z.held) f)
    go (crossed_in x y f) (says m a link) = no_msg m (sym (out_none x) ∙ a)
    go (crossed_in x y f) (hears m a b link) = in_heard x y m b f link
    go (crossed_in x y f) (stays a b link) = in_part x y b
    go (crossed_status x y z f) a = neither x y
    go (crossed_else x y z f) a = neither x y

-- ---- a phase is left

still_since : (o : OpenedValue) (spoken_out : List MsgOut) → spoken_out ≡ []
    → (with_all_out (record o { said = [] }) spoken_out).since ≡ o.since
still_since o [] e = refl
still_since o (m ∷ more) e = absurd (not_nil m more e)
  where
    not_nil : (x : MsgOut) (zs : List MsgOut) → x ∷ zs ≡ [] → ⊥
    not_nil x zs z = cc

-- MESSAGE OUT that answers a message follows MESSAGE IN.
pub follows_in : (s : ScenarioValue) (p : List Row) (row : Row) (n : Connection) (g : Going s p row n)
    → changes_phase g.going.change ≡ true
    → is_some (receiver_in n g.going.change) ≡ false → IsAnswering (run_state s (row ∷ p))
    → ((run_state s p).exchange.begun ≡ true) × (is_message_in g.going.change.before ≡ true)
follows_in s p row n g ep none answering = cause_is answering k.exchange.begun refl (is_message_in c.before) refl
  where
    k : RunState
    k = run_state s p

    j : RunState
    j = run_state s (row ∷ p)

    c : Change
    c = g.going.change

    i : InConnection s k row n c true false (is_fault row.kind)
    i = in_connection s k row n c true false (is_fault row.kind) g.going.goes.row_is ep none refl

    out_after : IsAnswering j → is_message_out c.after ≡ true
    out_after z = ap is_message_out (sym i.bus_is) ∙ z.here

    cause_is : IsAnswering j → (b : Bool) → k.exchange.begun ≡ b → (q : Bool) → is_message_in c.before ≡ q
        → (k.exchange.begun ≡ true) × (is_message_in c.before ≡ true)
    cause_is z true b true q = (b, q)
    cause_is z true b false q = wrong' (not_message c.before.cd (sym (made true b) ∙ z.cause))
      where
        made : (x : Bool) → k.exchange.begun ≡ x
            → j.exchange.plan.cause ≡ (if c.before.cd then Cause.InStatus else Cause.InData)
        made x y = ap (λ (w : Exchange). w.plan.cause) i.exchange_is
            ∙ ap (λ (x : Plan). x.cause) (plan_out (hearing_of k row (row_reading_in k.story.bus_state n c false))
            (leaving s k n.target) k.exchange.plan (out_after z) b)
            ∙ ap (λ (w : Bool). if w then Cause.InMessage else if c.before.cd then Cause.InStatus else Cause.InData) q

        not_message : (d : Bool) → (if d then Cause.InStatus else Cause.InData) ≡ Cause.InMessage → false ≡ true
        not_message true w = sym (ap is_in_status w)
          where
            is_in_status : Cause → Bool
            is_in_status Cause.InStatus = true
            is_in_status _ = false
        not_message false w = sym (ap is_in_data w)
          where
            is_in_data : Cause → Bool
            is_in_data Cause.InData = true
            is_in_data _ = false
    cause_is z false b x q =
        wrong' (selected (sym (ap (λ (w : Exchange). w.plan.cause) i.exchange_is ∙ made ∙ before.cause_is) ∙ z.cause))
      where
        before : IsAboutToSpeak s n k.served k.exchange
        before = (g.was.stood.books.speaks n g.going.goes.row_is.connection_is g.going.goes.calm).before_all b

        made : (if not (is_message_out c.after) then record (plan_anew k.exchange.plan) {
          messages = (leaving s k n.target).messages;
          next = (leaving s k n.target).next;
        } else if k.exchange.begun
            then plan_in_message_out (hearing_of k row (row_reading_in k.story.bus_state n c false)) k.exchange.plan
            else plan_anew k.exchange.plan).cause
            ≡ k.exchange.plan.cause
        made = ap (λ (x : Plan). x.cause) (plan_out (hearing_of k row (row_reading_in k.story.bus_state n c false))
            (leaving s k n.target) k.exchange.plan (out_after z) b)

        selected : Cause.Selected ≡ Cause.InMessage → false ≡ true
        selected w = sym (ap is_selected w)

pub since_turn :
    (s : ScenarioValue) (p : List Row) (row : Row) (n : Connection) (g : Going s p row n) (o after : OpenedValue)
    → changes_phase g.going.change ≡ true → is_some (receiver_in n g.going.change) ≡ false → is_fault row.kind ≡ false
    → after ≡ phase_entered
    (phase_over o g.going.change.before (run_state s p).story.bus_state.dialogue.half true) g.going.change.after
    → OpenedBytes (run_state s p) n o → HeldSince (run_state s p) o → HeldSince (run_state s (row ∷ p)) after
since_turn s p row n g o after ep none ef e bytes h = record {
  in_held = λ z. fresh z;
  in_since = λ z. fresh z;
  in_backed = λ z. fresh z;
  out_held = λ z. by_held z (is_nil half) refl;
  out_since = λ z. by_since z (is_nil half) refl;
  out_backed = λ z. by_backed z (is_nil half) refl;
}
  where
    k : RunState
    k = run_state s p

    j : RunState
    j = run_state s (row ∷ p)

    c : Change
    c = g.going.change

    half : List ℕ
    half = k.story.bus_state.dialogue.half

    l : Link
    l = (knows_before s p row n g).link

    el : k.story.link ≡ Some l
    el = (knows_before s p row n g).link_is

    link : j.story.link ≡ Some l
    link = link_still s k row n c l g.going.goes.row_is none el

    on : bus_of k ≡ c.before
    on = g.going.goes.row_is.bus_is

    i : InConnection s k row n c true false (is_fault row.kind)
    i = in_connection s k row n c true false (is_fault row.kind) g.going.goes.row_is ep none refl

    -- no byte has crossed in the new phase
    fresh : {A : Type 0} → IsHeardIn j → A
    fresh z =
        wrong' (sym z.some ∙ ap (λ (x : Handshakes). x.requests == 0) (turn_handshakes s k row n c g.going.goes ep ef))

    out_after : IsAnswering j → is_message_out c.after ≡ true
    out_after z = ap is_message_out (sym i.bus_is) ∙ z.here

    from_in : IsAnswering j → (k.exchange.begun ≡ true) × (is_message_in c.before ≡ true)
    from_in z = follows_in s p row n g ep none z

    was : IsAnswering j → half ≡ [] → IsHeardIn k
    was z none_half_heard =
        let f = from_in z in
        let here : is_message_in (bus_of k) ≡ true = ap is_message_in on ∙ f.1 in
        record {
          begun = f.0;
          here = here;
          some = (g.going.goes.leaves (ap changes_phase g.going.goes.row_is.change_is ∙ ep)).some
              (in_phase (bus_of k) here);
          half = none_half_heard;
        }

    none_said : IsAnswering j → o.said ≡ []
    none_said z = bytes.said (ap is_message_out on ∙ out_in c.before (from_in z).1)

    nil_of_half : is_nil half ≡ true → half ≡ []
    nil_of_half x = by half x
      where
        by : (xs : List ℕ) → is_nil xs ≡ true → xs ≡ []
        by [] w = refl
        by (v ∷ xs) w = wrong' w

    no_status : IsAnswering j → is_status_phase c.after ≡ false
    no_status z = out_no_status c.after (out_after z)

    not_moving : IsAnswering j → (is_command c.before || is_data c.before) ≡ false
    not_moving z = by c.before.msg c.before.cd c.before.io (from_in z).1
      where
        by : (m d x : Bool) → (m && d && x) ≡ true → ((not m && d && not x) || (not m && not d)) ≡ false
        by true d x w = refl
        by false d x w = wrong' w

    held : after.held ≡ (if is_message_in c.before && not (is_nil half) then Some Broken else (spoken o).held)
    held = ap (λ (x : OpenedValue). x.held) e ∙ (turned (phase_over o c.before half true) c.after).held
        ∙ over_held o c.before half

    held_whole : (z : IsAnswering j) → is_nil half ≡ true → after.held ≡ o.held
    held_whole z x = held ∙ (λ t. if (from_in z).1 t && not (x t) then Some Broken else (spoken o).held)
        ∙ still_held o o.said (none_said z)

    held_broken : (z : IsAnswering j) → is_nil half ≡ false → after.held ≡ Some Broken
    held_broken z x = held ∙ (λ t. if (from_in z).1 t && not (x t) then Some Broken else (spoken o).held)

    by_held : IsAnswering j → (q : Bool) → is_nil half ≡ q → is_some after.held ≡ true
    by_held z true x = ap (λ (y : Option Incoming). is_some y) (held_whole z x) ∙ h.in_held (was z (nil_of_half x))
    by_held z false x = ap (λ (y : Option Incoming). is_some y) (held_broken z x)

    since_is : (z : IsAnswering j) → after.since ≡ (broken_off (spoken o) c.before half).since
    since_is z = ap (λ (x : OpenedValue). x.since) e ∙ ap (λ (q : Bool).
        (if q then with_part (phase_over o c.before half true) StatusPhase else phase_over o c.before half true).since)
        (no_status z)
        ∙ ap (λ (xs : List Part). (broken_off (spoken o) c.before half).since ++ xs)
        (no_phase (is_command c.before) (is_data c.before) (not_moving z))
        ∙ append-nil (broken_off (spoken o) c.before half).since
      where
        no_phase : (x y : Bool) → (x || y) ≡ false → (if x
            then Command (broken_off (spoken o) c.before half).bytes (broken_off (spoken o) c.before half).struck true
            ∷ [] else if y then data_parts (not c.before.io) (broken_off (spoken o) c.before half).bytes else []) ≡ []
        no_phase true y w = wrong w
        no_phase false true w = wrong w
        no_phase false false w = refl

    by_since : IsAnswering j → (q : Bool) → is_nil half ≡ q → after.since ≡ []
    by_since z false x =
        since_is z ∙ (λ t. (if (from_in z).1 t && not (x t) then with_in (spoken o) Broken else spoken o).since)
    by_since z true x =
        since_is z ∙ (λ t. (if (from_in z).1 t && not (x t) then with_in (spoken o) Broken else spoken o).since)
        ∙ still_since o o.said (none_said z)
        ∙ before (h.in_since (was z (nil_of_half x))) (g.was.facts.served n g.stands g.calm)
      where
        before : (o.since ≡ []) ⊎ ((y : Item) → k.served ≡ Some y → has_item k.story.sent.over y ≡ true)
            → IsServed s k n → o.since ≡ []
        before (inl y) sv = y
        before (inr f) sv = at sv
          where
            ended : (y : Item) → k.served ≡ Some y → o.since ≡ []
            ended y is =
                let grown = (over_after s k row n c false l g.going.goes.row_is none el).grows.over y (f y is) in
                not_both (bus_of j) ((g.now.facts.items.items.talks n i.connection_is
                (ap (λ (x : LineSet). x.rst) i.bus_is ∙ g.going.goes.row_is.calm) l link).over y
                (i.served_is ∙ is) grown).taken.here z.here

            at : IsServed s k n → o.since ≡ []
            at (of_process id pr is y) = ended (process id) is
            at (of_abort m a is v w y re phase) = ended (abort m) is

    by_backed : (z : IsAnswering j) → (q : Bool) → is_nil half ≡ q → Backed j after
    by_backed z false x kn q eq =
        ap (λ (y : Option Incoming). is_some q.undo || is_broken y) (held_broken z x) ∙ or_true (is_some q.undo)
    by_backed z true x kn q eq =
        let talk : are_talk (base_parts after) ≡ are_talk (base_parts o) =
        ap (λ (y : OpenedValue). are_talk (base_parts y)) e ∙ turn_talk o c half (not_moving z) (no_status z) in
        let conn : after.connection ≡ o.connection = ap (λ (y : OpenedValue). y.connection) e
        ∙ (turned (phase_over o c.before half true) c.after).connection
        ∙ (over_keeps o c.before half true).connection in
        let x' = was z (nil_of_half x) in
        let since : o.since ≡ [] = sym (still_since o o.said (none_said z))
        ∙ sym (λ t. (if (from_in z).1 t && not (x t) then with_in (spoken o) Broken else spoken o).since)
        ∙ sym (since_is z) ∙ by_since z true x in
        ap (λ (y : Option Incoming). is_some q.undo || is_broken y) (held_whole z x)
        ∙ h.in_backed x' since (sym (known_same o after (bus_of k) (bus_of j) conn talk
        (message_no_command (bus_of k) (message_line (bus_of k) x'.here))
        (message_no_command (bus_of j) (out_line (bus_of j) z.here))) ∙ kn) q (el ∙ sym link ∙ eq)

pub since_row :
    (s : ScenarioValue) (p : List Row) (row : Row) (n : Connection) (g : Going s p row n) (o after : OpenedValue)
    → RowMade (run_state s p) row n g.going.change o after → HeldLast (run_state s p) o
    → OpenedBytes (run_state s p) n o → TalkNamed (run_state s p) n o → HeldSince (run_state s p) o
    → HeldSince (run_state s (row ∷ p)) after
since_row s p row n g o after (made_still ep none e) last bytes named h =
    since_still s p row n g o after ep none e last bytes named h
since_row s p row n g o after (made_crossing dev ep er e) last bytes named h = since_crossing s p row n g o after dev ep
    er (crossing_made o after (run_state s p).story.bus_state n g.going.change e) bytes named h
since_row s p row n g o after (made_turn ep none ef e) last bytes named h =
    since_turn s p row n g o after ep none ef e bytes h
