-- A connection that a target began has carried more than messages, or its names are still said, where the lines are
-- those of a message phase; and a data phase is left with a byte at least (6.1.4, 6.1.5, 6.6.7).
use Rattle.transcript_laws.proofs
use proofs.Names.{ℕ, ◌≡◌, ◌∙◌, ◌⊎◌, inl, inr, ◌≤◌, ◌-◌, arith, Bool, true, false, not, ◌&&◌, ◌==◌, ◌%◌, List, [], ◌∷◌}
use proofs.Names.{◌++◌, Option, Some, None, refl, sym, ap, subst, is_some, if◌then◌else◌, wrong, wrong', and_false}
use proofs.Names.{zero_of, counted_on, change_of, rises, LineSet, changes_phase, is_command, is_data, is_message_in}
use proofs.Names.{is_message_out, is_fault, receiver_in, Change, Connection, Row, Handshakes, MsgIn, is_nil}
use proofs.Names.{ScenarioValue, message_in, message_out, is_status_phase, Link, policy_of, run_length, Exchange}
use proofs.Names.{bytes_of_messages, from_byte, Serving, phase_of, phase_entry, with_task, recovery, bus_free}
use proofs.Names.{message_repetition, after_refusal, message_out_leaving, phase_leaving, leaving_by, run_length_if}
use proofs.Names.{is_naming, Cause, Leaving, Messages, Phase, Plan, Task, target_def_of, IsPlain, RunState, bus_of}
use proofs.Names.{item_of, process_item, process_served, run_state, hearing_of, leaving, serving_of, task_if, task_of}
use proofs.Names.{InConnection, in_connection, SamePhase, not_both, AreGiven, OnMessage, OnMessages, IsNoName}
use proofs.Names.{reading_in, run_count, in_phase, out_in, out_phase, plan_left, plan_out, by_bool, IsServed}
use proofs.Names.{names_first, names_left, front_length, Named, known, said, refused, counted_row, turn_handshakes}
use proofs.Names.{answers_all, data_out_phase, task_here, OpenedValue, data_parts, phase_parts, phase_over}
use proofs.{Names.{phase_entered, Part, are_talk, base_parts, parts_now}, Fits.Leavings.{left_asked}}
use proofs.Opened.Bytes.{still_keeps, CrossingMade, crossed_out, crossed_in, crossed_status, crossed_else}
use proofs.Opened.{Bytes.{crossing_made, lines_same, out_same, in_same}, Facts.{OpenedAll}, Rows.{Going, Starts}}
use proofs.{Opened.Rows.{RowMade, made_still, made_crossing, made_turn, plain_before}, Parts.Base.{base_turned}}
use proofs.{Parts.Lists.{broken_parts}, Said.Facts.{same_cause}, Talks.{Named.{talk_more}, Status.{stays_more}}}
use proofs.Talks.Status.{starts_item, same_messages}
use Rattle.progress_laws.specs.row_laws.specs.Tells.{of_process, of_abort}

-- How many bytes have crossed in a data phase of these lines.
abbrev pub crossed_bytes : LineSet → Handshakes → ℕ
crossed_bytes b h = if b.io then h.requests else h.answers

pub record AgainTalk (k : RunState) (n : Connection) (o : OpenedValue) : Type 0 where
  pub into : n.reselected ≡ true → is_message_in (bus_of k) ≡ true
      → (is_naming k.exchange.plan.messages.first ≡ true) ⊎ (are_talk (base_parts o) ≡ false)
  pub out : n.reselected ≡ true → is_message_out (bus_of k) ≡ true
      → ((k.exchange.plan.cause ≡ Cause.InMessage) × (is_naming k.exchange.plan.messages.first ≡ true))
      ⊎ (are_talk (base_parts o) ≡ false)
  pub bytes : n.reselected ≡ true → is_data (bus_of k) ≡ true → (crossed_bytes (bus_of k) k.handshakes == 0) ≡ false
      → is_nil o.bytes ≡ false

-- ---- lines

in_no_data : (b : LineSet) → is_message_in b ≡ true → is_data b ≡ false
in_no_data b e = go b.msg b.cd b.io e
  where
    go : (m d i : Bool) → (m && d && i) ≡ true → (not m && not d) ≡ false
    go true d i z = refl
    go false d i z = wrong' z

out_no_data : (b : LineSet) → is_message_out b ≡ true → is_data b ≡ false
out_no_data b e = go b.msg b.cd b.io e
  where
    go : (m d i : Bool) → (m && d && not i) ≡ true → (not m && not d) ≡ false
    go true d i z = refl
    go false d i z = wrong' z

status_no_data : (b : LineSet) → is_status_phase b ≡ true → is_data b ≡ false
status_no_data b e = go b.msg b.cd b.io e
  where
    go : (m d i : Bool) → (not m && d && i) ≡ true → (not m && not d) ≡ false
    go true d i z = wrong' z
    go false true i z = refl
    go false false i z = wrong' z

data_no_command : (b : LineSet) → is_data b ≡ true → is_command b ≡ false
data_no_command b e = go b.msg b.cd b.io e
  where
    go : (m d i : Bool) → (not m && not d) ≡ true → (not m && d && not i) ≡ false
    go true d i z = wrong' z
    go false true i z = wrong' z
    go false false i z = refl

-- Both of MESSAGE IN, or both of MESSAGE OUT: the phase is the same.
no_turn_in : {A : Type 0} (c : Change) → is_message_in c.before ≡ true → is_message_in c.after ≡ true
    → changes_phase c ≡ true → A
no_turn_in c x y ep = go c.before.msg c.before.cd c.before.io c.after.msg c.after.cd c.after.io x y ep
  where
    go : {A : Type 0} (m d i m' d' i' : Bool) → (m && d && i) ≡ true → (m' && d' && i') ≡ true
        → changes_phase (record c {
          before = record c.before { msg = m; cd = d; io = i };
          after = record c.after { msg = m'; cd = d'; io = i' };
        }) ≡ true → A
    go true true true true true true z w e = wrong' e
    go true true true true true false z w e = wrong' w
    go true true true true false i' z w e = wrong' w
    go true true true false d' i' z w e = wrong' w
    go true true false m' d' i' z w e = wrong' z
    go true false i m' d' i' z w e = wrong' z
    go false d i m' d' i' z w e = wrong' z

no_turn_out : {A : Type 0} (c : Change) → is_message_out c.before ≡ true → is_message_out c.after ≡ true
    → changes_phase c ≡ true → A
no_turn_out c x y ep = go c.before.msg c.before.cd c.before.io c.after.msg c.after.cd c.after.io x y ep
  where
    go : {A : Type 0} (m d i m' d' i' : Bool) → (m && d && not i) ≡ true → (m' && d' && not i') ≡ true
        → changes_phase (record c {
          before = record c.before { msg = m; cd = d; io = i };
          after = record c.after { msg = m'; cd = d'; io = i' };
        }) ≡ true → A
    go true true false true true false z w e = wrong' e
    go true true false true true true z w e = wrong' w
    go true true false true false i' z w e = wrong' w
    go true true false false d' i' z w e = wrong' w
    go true true true m' d' i' z w e = wrong' z
    go true false i m' d' i' z w e = wrong' z
    go false d i m' d' i' z w e = wrong' z

-- ---- the parts of a phase that is left

phase_more : (o after : OpenedValue) (c : Change) (half : List ℕ)
    → after ≡ phase_entered (phase_over o c.before half true) c.after → are_talk (phase_parts o c.before true) ≡ false
    → are_talk (base_parts after) ≡ false
phase_more o after c half e none =
    let before : List Part = parts_now o ++ broken_parts c.before half in
    let end : List Part = if is_status_phase c.after then Part.StatusPhase ∷ [] else [] in
    ap (λ (x : OpenedValue). are_talk (base_parts x)) e ∙ ap are_talk (base_turned o c.before c.after half)
    ∙ talk_more (before ++ phase_parts o c.before true) end
    ∙ ap (λ (q : Bool). q && are_talk end) (talk_more before (phase_parts o c.before true)
    ∙ ap (λ (q : Bool). are_talk before && q) none ∙ and_false (are_talk before))

command_parts : (o : OpenedValue) (b : LineSet) → is_command b ≡ true → are_talk (phase_parts o b true) ≡ false
command_parts o b e = ap (λ (q : Bool). are_talk
    (if q then Part.Command o.bytes o.struck true ∷ [] else if is_data b then data_parts (not b.io) o.bytes else [])) e

data_talk : (out : Bool) (bytes : List ℕ) → is_nil bytes ≡ false → are_talk (data_parts out bytes) ≡ false
data_talk out [] e = wrong e
data_talk out (b ∷ bytes) e = refl

moved_parts : (o : OpenedValue) (b : LineSet) → is_data b ≡ true → is_nil o.bytes ≡ false
    → are_talk (phase_parts o b true) ≡ false
moved_parts o b e some = (λ i. are_talk (if data_no_command b e i then Part.Command o.bytes o.struck true ∷ []
    else if e i then data_parts (not b.io) o.bytes else []))
    ∙ data_talk (not b.io) o.bytes some

nil_more : (bytes : List ℕ) (b : ℕ) → is_nil (bytes ++ b ∷ []) ≡ false
nil_more [] b = refl
nil_more (x ∷ bytes) b = refl

-- ---- names

-- None of the names of a process is missing in what is said.
pub no_name : {A : Type 0} (m : Messages) → OnMessages IsNoName m → is_naming m.first ≡ true → A
no_name m none e = go m.first none.0 e
  where
    go : {A : Type 0} (o : Option MsgIn) → OnMessage IsNoName o → is_naming o ≡ true → A
    go None x z = wrong' z
    go (Some y) x z = wrong (sym z ∙ x)

-- Names that were refused are said again.
refusal_names : (v : Serving) → is_naming v.plan.messages.first ≡ true → (after_refusal v).to ≡ Some Phase.MessageIn
    → is_naming (after_refusal v).messages.first ≡ true
refusal_names v e to = go (is_some v.plan.said.offer) (is_naming v.plan.messages.first) e to
  where
    By : Bool → Bool → Leaving
    By x y =
        if x then phase_entry Phase.Command else if y then message_repetition v.plan
        else with_task v.task (λ t. recovery v.def t (message_repetition v.plan) bus_free)

    is_in : Option Phase → Bool
    is_in (Some Phase.MessageIn) = true
    is_in _ = false

    go : (x y : Bool) → y ≡ true → (By x y).to ≡ Some Phase.MessageIn → is_naming (By x y).messages.first ≡ true
    go true y z w = wrong' (ap is_in w)
    go false true z w = e
    go false false z w = wrong' z

-- ---- a connection begins

pub again_start : (s : ScenarioValue) (p : List Row) (row : Row) (n : Connection) (o : OpenedValue) → Starts s p row n
    → (n.reselected ≡ true → Named s (run_state s (row ∷ p)) n) → AgainTalk (run_state s (row ∷ p)) n o
again_start s p row n o h named = record {
  into = λ re z. at_in re (named re) z;
  out = λ re z. at_out re (named re) z;
  bytes = λ re z w. at_data re (named re) z;
}
  where
    j : RunState
    j = run_state s (row ∷ p)

    unknown : {A : Type 0} → n.reselected ≡ true → (l : Link) → j.story.link ≡ Some l → is_some l.item ≡ true → A
    unknown re l el some =
        wrong' (sym (ap (λ (x : Option Link). is_some (item_of x)) (sym el) ∙ starts_item s p row n h re) ∙ some)

    at_in : n.reselected ≡ true → Named s j n → is_message_in (bus_of j) ≡ true
        → (is_naming j.exchange.plan.messages.first ≡ true) ⊎ (are_talk (base_parts o) ≡ false)
    at_in re (known l e some none) z = unknown re l e some
    at_in re (said pr l naming here names all) z =
        inl (names_first pr l j.exchange.plan.messages j.handshakes.requests names)
    at_in re (refused pr l naming here cause names) z = not_both (bus_of j) z here

    at_out : n.reselected ≡ true → Named s j n → is_message_out (bus_of j) ≡ true
        → ((j.exchange.plan.cause ≡ Cause.InMessage) × (is_naming j.exchange.plan.messages.first ≡ true))
        ⊎ (are_talk (base_parts o) ≡ false)
    at_out re (known l e some none) z = unknown re l e some
    at_out re (said pr l naming here names all) z = not_both (bus_of j) here z
    at_out re (refused pr l naming here cause names) z = inl (cause, names_first pr l j.exchange.plan.messages 0 names)

    at_data : n.reselected ≡ true → Named s j n → is_data (bus_of j) ≡ true → is_nil o.bytes ≡ false
    at_data re (known l e some none) z = unknown re l e some
    at_data re (said pr l naming here names all) z = wrong (sym z ∙ in_no_data (bus_of j) here)
    at_data re (refused pr l naming here cause names) z = wrong (sym z ∙ out_no_data (bus_of j) here)

-- ---- row by row

still_count : (io q r : Bool) (x y a b a' b' : ℕ)
    → is_some (if io then (if q then Some x else None) else if r then Some y else None) ≡ false
    → a' ≡ (if q then counted_on a else a) → b' ≡ (if r then counted_on b else b)
    → ((if io then a' else b') == 0) ≡ false → ((if io then a else b) == 0) ≡ false
still_count true true r x y a b a' b' none e f z = wrong none
still_count true false r x y a b a' b' none e f z = ap (λ (m : ℕ). m == 0) (sym e) ∙ z
still_count false q true x y a b a' b' none e f z = wrong none
still_count false q false x y a b a' b' none e f z = ap (λ (m : ℕ). m == 0) (sym f) ∙ z

-- As a data phase is left a byte has crossed in it.
some_crossed : (s : ScenarioValue) (p : List Row) (row : Row) (n : Connection) (g : Going s p row n)
    → n.reselected ≡ true → (run_state s p).exchange.begun ≡ true
    → changes_phase g.going.change ≡ true → is_data (bus_of (run_state s p)) ≡ true
    → (crossed_bytes (bus_of (run_state s p)) (run_state s p).handshakes == 0) ≡ false
some_crossed s p row n g re b ep here = by_bool (bus_of k).io
    (λ io. ap (λ (q : Bool). (if q then k.handshakes.requests else k.handshakes.answers) == 0) io
    ∙ ap (λ (h : Handshakes). h.requests == 0) pl.handshakes
    ∙ left_asked s p row n (sym pl.begun ∙ b) g.link.link turned)
    (λ io. ap (λ (q : Bool). (if q then k.handshakes.requests else k.handshakes.answers) == 0) io
    ∙ answered (g.was.facts.served n g.stands g.calm) io)
  where
    k : RunState
    k = run_state s p

    pl : IsPlain s p k
    pl = plain_before s p row n g

    turned : changes_phase (change_of p row) ≡ true
    turned = ap changes_phase (sym g.going.change_is) ∙ ep

    not_zero : (run m : ℕ) → 1 ≤ run → m ≡ run → (m == 0) ≡ false
    not_zero run m h e = by_bool (m == 0) (λ z. let zero = zero_of m z in absurd omega (arith, h, e, zero)) (λ z. z)

    answered : IsServed s k n → (bus_of k).io ≡ false → (k.handshakes.answers == 0) ≡ false
    answered (of_abort m a e f x y none phase) io = wrong (sym re ∙ none)
    answered (of_process id pr sv of) io =
        let served : process_served s k ≡ Some pr = ap (process_item s) sv ∙ of in
        let t : Task = task_here s k pr in
        let task : task_of s k ≡ Some t = ap (task_if s k) served in
        let phase : phase_of (bus_of k) ≡ Phase.DataOut = data_out_phase (bus_of k) here io in
        let counts = g.was.sends.counts.counts n g.stands g.calm
        (sym pl.begun ∙ b) (ap phase_of (sym pl.bus) ∙ phase) in
        let run : run_count s p n ≡ run_length (policy_of (target_def_of s n.target)) t = ap
        (run_length_if (policy_of (target_def_of s n.target))) task in
        not_zero (run_length (policy_of (target_def_of s n.target)) t) k.handshakes.answers
        (subst (λ (x : ℕ). 1 ≤ x) run counts.some) (answers_all s p row n g.obeys g.prompt g.was.stood
        g.was.sends.counts g.stands g.calm g.calm_after g.after (sym pl.begun ∙ b) turned pr t served task phase)

pub again_row :
    (s : ScenarioValue) (p : List Row) (row : Row) (n : Connection) (g : Going s p row n) (o after : OpenedValue)
    → RowMade (run_state s p) row n g.going.change o after → OpenedAll (run_state s p) n o
    → (n.reselected ≡ true → (run_state s p).exchange.begun ≡ true) → AgainTalk (run_state s p) n o
    → AgainTalk (run_state s (row ∷ p)) n after
again_row s p row n g o after made all begun_is h = by made
  where
    k : RunState
    k = run_state s p

    j : RunState
    j = run_state s (row ∷ p)

    c : Change
    c = g.going.change

    half : List ℕ
    half = k.story.bus_state.dialogue.half

    on : bus_of k ≡ c.before
    on = g.going.goes.row_is.bus_is

    stays : are_talk (base_parts o) ≡ false → are_talk (base_parts after) ≡ false
    stays z = stays_more s p row n g o after made z

    -- the phase is as before
    same : changes_phase c ≡ false → (n.reselected ≡ true → is_data (bus_of j) ≡ true
        → (crossed_bytes (bus_of j) j.handshakes == 0) ≡ false → is_nil after.bytes ≡ false) → AgainTalk j n after
    same ep bytes = record {
      into = λ re z. elim (h.into re (sym (in_same (bus_of k) (bus_of j) lines) ∙ z)) [
        | inl x ↦ inl (ap (λ (m : Messages). is_naming m.first) messages ∙ x)
        | inr x ↦ inr (stays x)
      ];
      out = λ re z. elim (h.out re (sym (out_same (bus_of k) (bus_of j) lines) ∙ z)) [
        | inl x ↦ inl (same_cause s p row n g ep ∙ x.0, ap (λ (m : Messages). is_naming m.first) messages ∙ x.1)
        | inr x ↦ inr (stays x)
      ];
      bytes = bytes;
    }
      where
        lines : SamePhase (bus_of k) (bus_of j)
        lines = lines_same s p row n g ep

        messages : j.exchange.plan.messages ≡ k.exchange.plan.messages
        messages = same_messages s p row n g ep

    data_before : changes_phase c ≡ false → is_data (bus_of j) ≡ true → is_data (bus_of k) ≡ true
    data_before ep z = let lines = lines_same s p row n g ep in (λ i. not (sym lines.msg i) && not (sym lines.cd i)) ∙ z

    still : changes_phase c ≡ false → is_some (receiver_in n c) ≡ false → after.bytes ≡ o.bytes → AgainTalk j n after
    still ep none e = same ep (λ re z w. ap is_nil e ∙ h.bytes re (data_before ep z) (count w))
      where
        lines : SamePhase (bus_of k) (bus_of j)
        lines = lines_same s p row n g ep

        count : (crossed_bytes (bus_of j) j.handshakes == 0) ≡ false
            → (crossed_bytes (bus_of k) k.handshakes == 0) ≡ false
        count w =
            let r = counted_row s p row n c g.inside g.was.stood.standing.devices g.going.goes ep in
            ap (λ (l : LineSet). crossed_bytes l k.handshakes == 0) on
            ∙ still_count c.before.io (rises c.before.req c.after.req) (rises c.before.ack c.after.ack) n.initiator
            n.target k.handshakes.requests k.handshakes.answers j.handshakes.requests j.handshakes.answers none
            r.requests r.answers (ap (λ (q : Bool). (if q then j.handshakes.requests else j.handshakes.answers) == 0)
            (sym (lines.io ∙ ap (λ (l : LineSet). l.io) on)) ∙ w)

    crossing : changes_phase c ≡ false
        → CrossingMade o after k.story.bus_state.dialogue.is_last c.before (c.after.data_bits % 256)
        (message_out k.story.bus_state.dialogue c true) (message_in k.story.bus_state.dialogue c true)
        → AgainTalk j n after
    crossing ep (crossed_out x f) =
        same ep (λ re z w. wrong (sym (data_before ep z) ∙ out_no_data (bus_of k) (ap is_message_out on ∙ x)))
    crossing ep (crossed_in x y f) =
        same ep (λ re z w. wrong (sym (data_before ep z) ∙ in_no_data (bus_of k) (ap is_message_in on ∙ y)))
    crossing ep (crossed_status x y v f) =
        same ep (λ re z w. wrong (sym (data_before ep z) ∙ status_no_data (bus_of k) (ap is_status_phase on ∙ v)))
    crossing ep (crossed_else x y v f) =
        same ep (λ re z w. ap (λ (q : OpenedValue). is_nil q.bytes) f ∙ nil_more o.bytes (c.after.data_bits % 256))

    -- another phase begins
    turned : changes_phase c ≡ true → is_some (receiver_in n c) ≡ false → is_fault row.kind ≡ false
        → after ≡ phase_entered (phase_over o c.before half true) c.after → AgainTalk j n after
    turned ep none ef e = record {
      into = λ re z. into re z;
      out = λ re z. out re z;
      bytes = λ re z w. wrong (sym
          (ap (λ (y : Handshakes). crossed_bytes (bus_of j) y == 0) (turn_handshakes s k row n c g.going.goes ep ef)
          ∙ zero (bus_of j).io) ∙ w);
    }
      where
        i : InConnection s k row n c true false (is_fault row.kind)
        i = in_connection s k row n c true false (is_fault row.kind) g.going.goes.row_is ep none refl

        zero : (q : Bool) → ((if q then 0 else 0) == 0) ≡ true
        zero true = refl
        zero false = refl

        -- no message phase is left
        more : n.reselected ≡ true → is_message_in c.before ≡ false → is_message_out c.before ≡ false
            → are_talk (base_parts after) ≡ false
        more re no_in no_out = go (is_status_phase c.before) refl (is_command c.before) refl (is_data c.before) refl
          where
            b : k.exchange.begun ≡ true
            b = begun_is re

            other : is_status_phase c.before ≡ false → is_command c.before ≡ false → is_data c.before ≡ false
                → are_talk (base_parts after) ≡ false
            other x y z = lines c.before.msg c.before.cd c.before.io (λ m. ap (λ (l : LineSet). l.cd) (sym on)
                ∙ (g.going.goes.phase (ap (λ (l : LineSet). l.msg) on ∙ m)).0) no_in no_out x y z
              where
                lines : (m d io : Bool) → (m ≡ true → d ≡ true) → (m && d && io) ≡ false → (m && d && not io) ≡ false
                    → (not m && d && io) ≡ false → (not m && d && not io) ≡ false → (not m && not d) ≡ false
                    → are_talk (base_parts after) ≡ false
                lines true true true f u v x y z = wrong u
                lines true true false f u v x y z = wrong v
                lines true false io f u v x y z = wrong' (f refl)
                lines false true true f u v x y z = wrong x
                lines false true false f u v x y z = wrong y
                lines false false io f u v x y z = wrong z

            go : (q : Bool) → is_status_phase c.before ≡ q → (r : Bool) → is_command c.before ≡ r
                → (t : Bool) → is_data c.before ≡ t → are_talk (base_parts after) ≡ false
            go true x r y t z = stays (all.status.status b (ap is_status_phase on ∙ x))
            go false x true y t z = phase_more o after c half e (command_parts o c.before y)
            go false x false y true z =
                let here : is_data (bus_of k) ≡ true = ap is_data on ∙ z in
                phase_more o after c half e
                (moved_parts o c.before z (h.bytes re here (some_crossed s p row n g re b ep here)))
            go false x false y false z = other x y z

        -- MESSAGE IN follows
        into : n.reselected ≡ true → is_message_in (bus_of j) ≡ true
            → (is_naming j.exchange.plan.messages.first ≡ true) ⊎ (are_talk (base_parts after) ≡ false)
        into re x = go (is_message_out c.before) refl (is_message_in c.before) refl
          where
            b : k.exchange.begun ≡ true
            b = begun_is re

            in_after : is_message_in c.after ≡ true
            in_after = ap is_message_in (sym i.bus_is) ∙ x

            v : Serving
            v = serving_of s k n.target

            left : leaving s k n.target ≡ phase_leaving v (bus_of k).atn (phase_of (bus_of k))
            left = λ t. leaving_by v (b t) (bus_of k)

            to : (phase_leaving v (bus_of k).atn (phase_of (bus_of k))).to ≡ Some Phase.MessageIn
            to = ap (λ (y : Leaving). y.to) (sym left) ∙ g.going.lines.whereto
                (ap changes_phase g.going.lines_are ∙ ep) (sym (plain_before s p row n g).begun ∙ b)
                ∙ ap (λ (y : Change). Some (phase_of y.after)) g.going.lines_are
                ∙ ap (λ (y : Phase). Some y) (in_phase c.after in_after)

            messages : j.exchange.plan.messages ≡ (phase_leaving v (bus_of k).atn (phase_of (bus_of k))).messages
            messages = ap (λ (y : Exchange). y.plan.messages) i.exchange_is
                ∙ ap (λ (x : Plan). x.messages) (plan_left (hearing_of k row (reading_in k.story.bus_state n c false))
                (leaving s k n.target) k.exchange.plan (out_in c.after in_after))
                ∙ ap (λ (y : Leaving). y.messages) left

            again : is_message_out (bus_of k) ≡ true → k.exchange.plan.cause ≡ Cause.InMessage
                → is_naming k.exchange.plan.messages.first ≡ true → is_naming j.exchange.plan.messages.first ≡ true
            again here cause naming =
                let is : phase_leaving v (bus_of k).atn (phase_of (bus_of k)) ≡ after_refusal v =
                ap (λ (f : Phase). phase_leaving v (bus_of k).atn f) (out_phase (bus_of k) here)
                ∙ ap (λ (y : Cause). message_out_leaving v y) cause in
                ap (λ (m : Messages). is_naming m.first) messages ∙ ap (λ (y : Leaving). is_naming y.messages.first) is
                ∙ refusal_names v naming (ap (λ (y : Leaving). y.to) (sym is) ∙ to)

            go : (q : Bool) → is_message_out c.before ≡ q → (r : Bool) → is_message_in c.before ≡ r
                → (is_naming j.exchange.plan.messages.first ≡ true) ⊎ (are_talk (base_parts after) ≡ false)
            go true y r z =
                let here : is_message_out (bus_of k) ≡ true = ap is_message_out on ∙ y in
                elim (h.out re here) [ inl w ↦ inl (again here w.0 w.1) | inr w ↦ inr (stays w) ]
            go false y true z = no_turn_in c z in_after ep
            go false y false z = inr (more re z y)

        -- MESSAGE OUT follows
        out : n.reselected ≡ true → is_message_out (bus_of j) ≡ true
            → ((j.exchange.plan.cause ≡ Cause.InMessage) × (is_naming j.exchange.plan.messages.first ≡ true))
            ⊎ (are_talk (base_parts after) ≡ false)
        out re x = go (is_message_in c.before) refl (is_message_out c.before) refl
          where
            b : k.exchange.begun ≡ true
            b = begun_is re

            out_after : is_message_out c.after ≡ true
            out_after = ap is_message_out (sym i.bus_is) ∙ x

            left : is_message_in c.before ≡ true → (j.exchange.plan.cause ≡ Cause.InMessage)
                × (j.exchange.plan.messages ≡ from_byte k.exchange.plan.messages (k.handshakes.requests - 1))
            left z = (cause, messages)
              where
                cause : j.exchange.plan.cause ≡ Cause.InMessage
                cause = ap (λ (y : Exchange). y.plan.cause) i.exchange_is
                    ∙ ap (λ (x : Plan). x.cause) (plan_out (hearing_of k row (reading_in k.story.bus_state n c false))
                    (leaving s k n.target) k.exchange.plan out_after b)
                    ∙ ap (λ (q : Bool). if q then Cause.InMessage
                    else if c.before.cd then Cause.InStatus else Cause.InData) z

                messages : j.exchange.plan.messages ≡ from_byte k.exchange.plan.messages (k.handshakes.requests - 1)
                messages = ap (λ (y : Exchange). y.plan.messages) i.exchange_is ∙ ap (λ (x : Plan). x.messages)
                    (plan_out (hearing_of k row (reading_in k.story.bus_state n c false))
                    (leaving s k n.target) k.exchange.plan out_after b)
                    ∙ ap (λ (q : Bool). if q then from_byte k.exchange.plan.messages (k.handshakes.requests - 1)
                    else k.exchange.plan.messages) z

            asked : (k.handshakes.requests == 0) ≡ false
            asked = ap (λ (x : Handshakes). x.requests == 0) (plain_before s p row n g).handshakes
                ∙ left_asked s p row n (sym (plain_before s p row n g).begun ∙ b) g.link.link
                (ap changes_phase (sym g.going.change_is) ∙ ep)

            named : is_message_in (bus_of k) ≡ true → is_naming k.exchange.plan.messages.first ≡ true → Named s k n
                → is_naming (from_byte k.exchange.plan.messages (k.handshakes.requests - 1)).first ≡ true
            named here naming (known l el some none_named) = no_name k.exchange.plan.messages none_named naming
            named here naming (refused pr l w there cause names) = not_both (bus_of k) here there
            named here naming (said pr l w there names whole) =
                let given : AreGiven (bytes_of_messages k.exchange.plan.messages) half k.handshakes.requests =
                (g.was.stood.books.gives n g.going.goes.row_is.connection_is g.going.goes.calm).in_message_in b here in
                names_first pr l (from_byte k.exchange.plan.messages (k.handshakes.requests - 1)) 0
                (names_left pr l k.exchange.plan.messages k.handshakes.requests asked
                (front_length (bytes_of_messages k.exchange.plan.messages) half k.handshakes.requests given) names)

            again : is_message_in c.before ≡ true → is_naming k.exchange.plan.messages.first ≡ true
                → (j.exchange.plan.cause ≡ Cause.InMessage) × (is_naming j.exchange.plan.messages.first ≡ true)
            again z naming =
                let w = left z in (
                  w.0,
                  ap (λ (m : Messages). is_naming m.first) w.1
                      ∙ named (ap is_message_in on ∙ z) naming (g.was.facts.named n g.stands g.calm re),
                )

            go : (q : Bool) → is_message_in c.before ≡ q → (r : Bool) → is_message_out c.before ≡ r
                → ((j.exchange.plan.cause ≡ Cause.InMessage) × (is_naming j.exchange.plan.messages.first ≡ true))
                ⊎ (are_talk (base_parts after) ≡ false)
            go true y r z =
                elim (h.into re (ap is_message_in on ∙ y)) [ inl w ↦ inl (again y w) | inr w ↦ inr (stays w) ]
            go false y true z = no_turn_out c z out_after ep
            go false y false z = inr (more re y z)

    by : RowMade k row n c o after → AgainTalk j n after
    by (made_still ep none e) =
        still ep none (ap (λ (x : OpenedValue). x.bytes) e ∙ (still_keeps o k.story.bus_state c row).bytes)
    by (made_crossing dev ep er e) = crossing ep (crossing_made o after k.story.bus_state n c e)
    by (made_turn ep none ef e) = turned ep none ef e
