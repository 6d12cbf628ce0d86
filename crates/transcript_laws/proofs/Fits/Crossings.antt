-- A byte that crosses: no phase is left with it and nothing ends; outside the message phases no abort takes one; and a
-- message names the process that is served, or none.
use Rattle.transcript_laws.proofs
use proofs.Names.{ℕ, ◌≡◌, ◌∙◌, ◌⊎◌, inl, inr, ◌<◌, Bool, true, false, not, ◌&&◌, ◌%◌, List, [], ◌∷◌, ◌++◌, length}
use proofs.Names.{Option, Some, None, refl, sym, ap, subst, arith, ◌||◌, same_Some, is_some, is_none, if◌then◌else◌}
use proofs.Names.{wrong, wrong', eq_self, second_false, or_middle, rises, LineSet, is_command, is_message_in}
use proofs.Names.{is_message_out, receiver_in, Change, Connection, Row, got_in, MsgIn, ScenarioValue, RowReading}
use proofs.Names.{message_in, whole_in, Item, process, abort, Link, link_after_name, bytes_of_messages, is_name}
use proofs.Names.{RunState, bus_of, run_state, self_id, heard_next, not_both as not_both_ways, nameless_item, OnMessage}
use proofs.Names.{OnMessages, Knows, IsNoName, same_item_if, out_lines, TalksBy, IsTaken, talk_of, IsServed, on_message}
use proofs.Names.{OpenedValue, are_talk, base_parts, is_known, names_item, fits_in, is_no_abort}
use proofs.{Fits.Turns.{item_served, not_both}, Opened.{Bytes.{OpenedBytes, crosses_is, begun_crossing}, Rows.{Going}}}
use proofs.Opened.Rows.{knows_before}
use Rattle.progress_laws.specs.row_laws.specs.Tells.{of_process, of_abort}
use Rattle.due_model.specs.story_model.specs.HistoryEvents as story_of

some_of : (o : Option ℕ) (dev : ℕ) → o ≡ Some dev → is_some o ≡ true
some_of o dev e = ap (λ (x : Option ℕ). is_some x) e

-- ---- nothing ends with it

not_less : {A : Type 0} (a b : ℕ) → a ≡ b → a < b → A
not_less a b e h = absurd omega (arith, e, h)

third_false : (a x y b : Bool) → y ≡ false → (a && x && y && b) ≡ false
third_false true true true b e = wrong e
third_false true true false b e = refl
third_false true false y b e = refl
third_false false x y b e = refl

pub completes_none :
    (s : ScenarioValue) (p : List Row) (row : Row) (n : Connection) (g : Going s p row n) (l : Link) (dev : ℕ)
    → (run_state s p).story.link ≡ Some l → receiver_in n g.going.change ≡ Some dev
    → story_of.is_completion l g.going.change ≡ false
completes_none s p row n g l dev el er = go (is_message_in c.before) (story_of.is_complete l.last) refl refl
  where
    k : RunState
    k = run_state s p

    c : Change
    c = g.going.change

    up : Bool
    up = rises c.before.ack c.after.ack

    t : TalksBy s (talk_of k) n l
    t = g.was.facts.items.items.talks n g.going.goes.row_is.connection_is g.going.goes.calm l el

    taken : {A : Type 0} → is_message_in c.before ≡ true
        → IsTaken (talk_of k) ⊎ ((is_message_out (bus_of k) ≡ true) × (k.story.bus_state.dialogue.is_last ≡ false)) → A
    taken here (inl z) = not_less k.handshakes.requests (length (bytes_of_messages k.exchange.plan.messages)) z.all
        (g.going.goes.gives here (some_of (receiver_in n c) dev er)).1
    taken here (inr z) = not_both_ways (bus_of k) (ap is_message_in g.going.goes.row_is.bus_is ∙ here) z.0

    go : (x y : Bool) → is_message_in c.before ≡ x → story_of.is_complete l.last ≡ y
        → (up && is_message_in c.before && story_of.is_complete l.last && not c.after.atn) ≡ false
    go false y e f = second_false up (is_message_in c.before) (story_of.is_complete l.last) (not c.after.atn) e
    go true false e f = third_false up (is_message_in c.before) (story_of.is_complete l.last) (not c.after.atn) f
    go true true e f = taken e (t.completes f)

-- ---- COMMAND, data and STATUS

pub no_message_line : (b : LineSet) → (b.msg ≡ true → b.cd ≡ true) → is_message_out b ≡ false → is_message_in b ≡ false
    → b.msg ≡ false
no_message_line b phase out into = go b.msg b.cd b.io phase out into
  where
    go : (m d i : Bool) → (m ≡ true → d ≡ true) → (m && d && not i) ≡ false → (m && d && i) ≡ false → m ≡ false
    go true true true h x y = wrong y
    go true true false h x y = wrong x
    go true false i h x y = wrong' (h refl)
    go false d i h x y = refl

pub takes_none :
    (s : ScenarioValue) (p : List Row) (row : Row) (n : Connection) (g : Going s p row n) (l : Link) (dev : ℕ)
    → (run_state s p).story.link ≡ Some l → receiver_in n g.going.change ≡ Some dev
    → is_message_out g.going.change.before ≡ false → is_no_abort l.item ≡ true
takes_none s p row n g l dev el er no_out = go l.item refl
  where
    k : RunState
    k = run_state s p

    served : (i : ℕ) → k.served ≡ Some (abort i) → IsServed s k n → is_no_abort (Some (abort i)) ≡ true
    served i e (of_process id pr f x) = not_both id i (sym f ∙ e)
    served i e (of_abort m a f x y z none phase) = wrong (sym (ap is_message_out (sym g.going.goes.row_is.bus_is)
        ∙ out_lines (bus_of k) (phase (begun_crossing s p row n g dev er)).0 (λ m. (g.going.goes.phase m).0)) ∙ no_out)

    go : (x : Option Item) → l.item ≡ x → is_no_abort x ≡ true
    go None e = refl
    go (Some (process id)) e = refl
    go (Some (abort i)) e =
        served i (item_served s k n l (abort i) (knows_before s p row n g) el e) (g.was.facts.served n g.stands g.calm)

-- ---- MESSAGE IN

pub self_if : (x : Option Item) → same_item_if x x ≡ true
self_if None = refl
self_if (Some (process id)) = self_id id
self_if (Some (abort j)) = eq_self j

-- What a byte makes whole is a message of the target.
pub whole_on :
    (s : ScenarioValue) (p : List Row) (row : Row) (n : Connection) (g : Going s p row n) (dev : ℕ) (q : MsgIn → Type 0)
    → receiver_in n g.going.change ≡ Some dev → is_message_in g.going.change.before ≡ true
    → OnMessages q (run_state s p).exchange.plan.messages
    → OnMessage q (message_in (run_state s p).story.bus_state.dialogue g.going.change true)
whole_on s p row n g dev q er here on =
    let k : RunState = run_state s p in
    let c : Change = g.going.change in
    let gives = g.was.stood.books.gives n g.going.goes.row_is.connection_is g.going.goes.calm in
    let next = g.going.goes.gives here (some_of (receiver_in n c) dev er) in
    let given = gives.in_message_in next.2 (ap is_message_in g.going.goes.row_is.bus_is ∙ here) in
    subst (λ (x : Option MsgIn). OnMessage q x)
    (λ i. if sym here i then whole_in (got_in (k.story.bus_state.dialogue.half ++ c.after.data_bits % 256 ∷ []))
    else None) (heard_next q k.exchange.plan.messages k.story.bus_state.dialogue.half k.handshakes.requests
    (c.after.data_bits % 256) gives.fit on given next.0 next.1)

-- It names the process that is served, or none.
names_if : (was served next : Option Item) → (next ≡ served) ⊎ (next ≡ None) → (was ≡ served) ⊎ (was ≡ None)
    → (is_none was || is_none next || same_item_if was next) ≡ true
names_if was served next a (inr none) =
    ap (λ (x : Option Item). is_none x || is_none next || same_item_if was next) none
names_if was served next (inr none) (inl x) =
    or_middle (is_none was) (is_none next) (same_item_if was next) (ap (λ (y : Option Item). is_none y) none)
names_if was served next (inl y) (inl x) =
    third_true (is_none was) (is_none next) (same_item_if was next) ((λ i. same_item_if (x i) (y i)) ∙ self_if served)
  where
    third_true : (a b d : Bool) → d ≡ true → (a || b || d) ≡ true
    third_true true b d e = refl
    third_true false true d e = refl
    third_true false false d e = e

abbrev next_item : ScenarioValue → RunState → Link → MsgIn → Option Item
next_item s k l m = (link_after_name k.story.sent s.commands l m).item

-- A process that was selected keeps its item, and one that is not known yet is named, or not.
pub names_fit : (s : ScenarioValue) (p : List Row) (row : Row) (n : Connection) (g : Going s p row n)
    (o : OpenedValue) (l : Link) (dev : ℕ) → OpenedBytes (run_state s p) n o → (run_state s p).story.link ≡ Some l
    → receiver_in n g.going.change ≡ Some dev → is_message_in g.going.change.before ≡ true → (n.reselected ≡ true
    → are_talk (base_parts o) ≡ false → OnMessages IsNoName (run_state s p).exchange.plan.messages)
    → fits_in s (run_state s p).story o l (message_in (run_state s p).story.bus_state.dialogue g.going.change true)
    ≡ true
names_fit s p row n g o l dev h el er here nameless = go (message_in k.story.bus_state.dialogue c true) refl
  where
    k : RunState
    k = run_state s p

    c : Change
    c = g.going.change

    w : Knows s k n
    w = knows_before s p row n g

    same : w.link ≡ l
    same = same_Some w.link l (sym w.link_is ∙ el)

    was : (w.link.item ≡ k.served) ⊎ ((n.reselected ≡ true) × (w.link.item ≡ None))
        → (l.item ≡ k.served) ⊎ (l.item ≡ None)
    was (inl z) = inl (ap (λ (x : Link). x.item) (sym same) ∙ z)
    was (inr z) = inr (ap (λ (x : Link). x.item) (sym same) ∙ z.1)

    keeps : (m : MsgIn) → is_name m ≡ false → same_item_if l.item (next_item s (run_state s p) l m) ≡ true
    keeps m e =
        ap (λ (x : Option Item). same_item_if l.item x) (nameless_item k.story.sent s.commands l m e) ∙ self_if l.item

    plain : (m : MsgIn) → message_in k.story.bus_state.dialogue c true ≡ Some m
        → OnMessages IsNoName k.exchange.plan.messages → is_name m ≡ false
    plain m e on = on_message IsNoName m (message_in k.story.bus_state.dialogue c true) e
        (whole_on s p row n g dev IsNoName er here on)

    after : (m : MsgIn) → message_in k.story.bus_state.dialogue c true ≡ Some m → n.reselected ≡ true
        → (q : Bool) → is_name m ≡ q → (is_none l.item || is_none (next_item s (run_state s p) l m)
        || same_item_if l.item (next_item s (run_state s p) l m)) ≡ true
    after m e re true f = names_if l.item k.served (next_item s (run_state s p) l m) (g.going.goes.names l m re el
        (ap (λ (d : RowReading). d.into) (crosses_is s p row n g true (some_of (receiver_in n c) dev er)) ∙ e) f)
        (was w.item_is)
    after m e re false f = any (is_none l.item) (is_none (next_item s (run_state s p) l m))
        (same_item_if l.item (next_item s (run_state s p) l m)) (keeps m f)
      where
        any : (a b x : Bool) → x ≡ true → (a || b || x) ≡ true
        any true b x z = refl
        any false true x z = refl
        any false false x z = z

    go : (into : Option MsgIn) → message_in k.story.bus_state.dialogue c true ≡ into → fits_in s k.story o l into ≡ true
    go None e = refl
    go (Some m) e = by n.reselected refl (is_known o k.story.bus_state.bus) refl
      where
        no_command : is_command k.story.bus_state.bus ≡ false
        no_command = ap is_command g.going.goes.row_is.bus_is ∙ in_no_command c.before here
          where
            in_no_command : (b : LineSet) → is_message_in b ≡ true → is_command b ≡ false
            in_no_command b z = lines b.msg b.cd b.io z
              where
                lines : (x d i : Bool) → (x && d && i) ≡ true → (not x && d && not i) ≡ false
                lines true d i y = refl
                lines false d i y = wrong' y

        untold : n.reselected ≡ true → is_known o k.story.bus_state.bus ≡ true
            → (q : Bool) → are_talk (base_parts o) ≡ q → are_talk (base_parts o) ≡ false
        untold re kn false f = f
        untold re kn true f = wrong' (sym (ap
            (λ (x : Connection). not x.reselected || not (are_talk (base_parts o)) || is_command k.story.bus_state.bus)
            h.connection_is
            ∙ ap (λ (q : Bool). not q || not (are_talk (base_parts o)) || is_command k.story.bus_state.bus) re
            ∙ ap (λ (q : Bool). not q || is_command k.story.bus_state.bus) f ∙ no_command) ∙ kn)

        by : (r : Bool) → n.reselected ≡ r → (q : Bool) → is_known o k.story.bus_state.bus ≡ q
            → names_item (is_known o k.story.bus_state.bus) l.item (next_item s (run_state s p) l m) ≡ true
        by false sel q kn =
            let yes : is_known o k.story.bus_state.bus ≡ true = ap
            (λ (x : Connection). not x.reselected || not (are_talk (base_parts o)) || is_command k.story.bus_state.bus)
            h.connection_is
            ∙ ap (λ (x : Bool). not x || not (are_talk (base_parts o)) || is_command k.story.bus_state.bus) sel in
            ap (λ (x : Bool). names_item x l.item (next_item s (run_state s p) l m)) yes
            ∙ keeps m (plain m e (w.nameless sel))
        by true re true kn = ap (λ (x : Bool). names_item x l.item (next_item s (run_state s p) l m)) kn
            ∙ keeps m (plain m e (nameless re (untold re kn (are_talk (base_parts o)) refl)))
        by true re false kn =
            ap (λ (x : Bool). names_item x l.item (next_item s (run_state s p) l m)) kn ∙ after m e re (is_name m) refl
