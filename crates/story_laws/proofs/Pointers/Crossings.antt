-- The data pointers of the process that is served, after a row with which a byte of a message crosses.
use Rattle.story_laws.proofs
use proofs.Names.{ℕ, ◌≡◌, ◌⊎◌, inl, inr, ◌+◌, ◌<◌, ◌%◌, Bool, true, false, not, ◌&&◌, ◌∙◌, [], ◌∷◌, ◌++◌, length}
use proofs.Names.{Option, Some, None, refl, sym, ap, subst, true≢false, same_Some, if◌then◌else◌, is_some}
use proofs.Names.{slice_index_or, ProcId, LineSet, changes_phase, is_message_out, is_message_in, is_fault, receiver_in}
use proofs.Names.{Row, Change, Connection, Handshakes, handshakes_after, got_in, got_out, MsgIn, MsgOut, fresh_bytes}
use proofs.Names.{ScenarioValue, Process, out_link, RowReading, row_reading, whole_in, whole_out, CarriedBytes}
use proofs.Names.{carried_of, carried_after_message, with_restored_pointers, carried_if, Item, process, Link, last_in}
use proofs.Names.{last_out, link_after_name, Story, is_parity_error, story_after_in, bytes_of_messages, phase_of}
use proofs.Names.{detected_error, is_name, parity_error, Cause, Next, Phase, RunState, bus_of, carried_here}
use proofs.Names.{run_state_after, reading_is, few_messages, nameless_item, Gives, Knows, RowKind, still, strikes}
use proofs.Names.{crosses, turns, reading_in, IsRowIn, IsSpeaking, GoesOn, by_option, is_marked, OnUndo, run_policy}
use proofs.Names.{run_start, IsUndisturbed, PointersOf, PointersIf, PointersAsked, PointersIn, IsUnnamed}
use proofs.{Names.{ServedPointers, unnamed, named}, Offers.Rows.{request_rises}, Pointers.Begins.{same_process}}
use proofs.Pointers.{Kept.{unnamed_as}, Leavings.{on_command}, Messages.{or_undone, IsHeard, in_half, in_whole}}
use proofs.Pointers.Messages.{in_lost, in_named, refused_on, settled_on, heard_in, refusal_said, rejection_said}
use proofs.Pointers.{Messages.{data_rejects, status_rejects}, Rows.{Meets, Goes, Crosses, crosses_in, crossed_as}}
use proofs.Pointers.Rows.{into_of, out_of, byte_of, told_served, block_crosses, run_crosses, read_crosses, quiet_row}
use proofs.Pointers.{Rows.{in_lines, io_out_false, io_in_false, is_block_phase}, Steps.{message_byte, out_story}}
use proofs.Pointers.{Steps.{in_known, in_unknown, in_none, in_found, in_link}, Stories.{SamePointers}}
use Rattle.row_laws.specs.book_laws.proofs.Reactions.{out_lines}

-- ---- what is heard

message_in_is : (s : ScenarioValue) (k : RunState) (row : Row) (n : Connection) (c : Change) (q : Process) (l : Link)
    → Crosses s k row n c q l → phase_of (bus_of k) ≡ Phase.MessageIn → is_message_in (bus_of k) ≡ true
message_in_is s k row n c q l x e =
    let b = in_lines (bus_of k) e in
    λ i. b.msg i && ((x.meets.of.phase b.msg).0) i && b.io i

message_out_is : (s : ScenarioValue) (k : RunState) (row : Row) (n : Connection) (c : Change) (q : Process) (l : Link)
    → Crosses s k row n c q l → phase_of (bus_of k) ≡ Phase.MessageOut → is_message_out (bus_of k) ≡ true
message_out_is s k row n c q l x e =
    let b = out_lines (bus_of k) e in
    λ i. b.0 i && ((x.meets.of.phase b.0).0) i && not (b.1 i)

-- The byte that crosses is the next of the messages.
given_next : (s : ScenarioValue) (k : RunState) (row : Row) (n : Connection) (c : Change) (q : Process) (l : Link)
    → Crosses s k row n c q l → phase_of (bus_of k) ≡ Phase.MessageIn
    → (c.after.data_bits % 256 ≡ slice_index_or (bytes_of_messages k.exchange.plan.messages) k.handshakes.requests 0)
    × (k.handshakes.requests < length (bytes_of_messages k.exchange.plan.messages)) × (k.exchange.begun ≡ true)
given_next s k row n c q l x e = x.meets.of.gives (ap is_message_in (sym x.meets.of.row_is.bus_is)
    ∙ message_in_is s k row n c q l x e) (ap (λ (z : Option ℕ). is_some z) x.receiver)

hears : (s : ScenarioValue) (k : RunState) (row : Row) (n : Connection) (c : Change) (q : Process) (l : Link)
    → Crosses s k row n c q l → phase_of (bus_of k) ≡ Phase.MessageIn
    → IsHeard k.exchange.plan.messages k.handshakes.requests (into_of k c)
hears s k row n c q l x e =
    let r = x.meets.of.row_is in
    let now = message_in_is s k row n c q l x e in
    let before : is_message_in c.before ≡ true = ap is_message_in (sym r.bus_is) ∙ now in
    let next = given_next s k row n c q l x e in
    let given = x.meets.gives.in_message_in x.begun now in
    subst (λ (o : Option MsgIn). IsHeard k.exchange.plan.messages k.handshakes.requests o) (sym (ap
    (λ (b : Bool). if b then whole_in (got_in (k.story.bus_state.dialogue.half ++ byte_of c ∷ [])) else None) before))
    (heard_in k.exchange.plan.messages k.story.bus_state.dialogue.half k.handshakes.requests
    (byte_of c) x.meets.gives.fit given next.0 next.1)

asked_more : (s : ScenarioValue) (k : RunState) (row : Row) (n : Connection) (c : Change) (q : Process) (l : Link)
    → Crosses s k row n c q l → phase_of (bus_of k) ≡ Phase.MessageIn
    → (run_state_after s k row).handshakes.requests ≡ k.handshakes.requests + 1
asked_more s k row n c q l x e =
    let io : c.before.io ≡ true = ap (λ (y : LineSet). y.io) (sym x.meets.of.row_is.bus_is)
    ∙ (in_lines (bus_of k) e).io in
    let next = given_next s k row n c q l x e in
    ap (λ (y : Handshakes). y.requests) x.in_is.handshakes_is
    ∙ ap (λ (f : Bool). (handshakes_after f (Some n) c row.time k.handshakes).requests) x.fault
    ∙ request_rises n c row.time x.dev k.handshakes x.same_phase io x.receiver
    (length (bytes_of_messages k.exchange.plan.messages)) next.1 (few_messages k.exchange.plan.messages)

data Names (next was : Option Item) (id : ProcId) (m : MsgIn) : Type 0 where
  known : next ≡ Some (process id) → Names next was id m
  lost : next ≡ None → is_name m ≡ true → Names next was id m
  as_before : next ≡ was → is_name m ≡ false → Names next was id m

names_it :
    (s : ScenarioValue) (k : RunState) (row : Row) (n : Connection) (c : Change) (q : Process) (l : Link) (m : MsgIn)
    → Crosses s k row n c q l → phase_of (bus_of k) ≡ Phase.MessageIn → into_of k c ≡ Some m
    → Names (link_after_name k.story.sent s.commands l m).item l.item q.id m
names_it s k row n c q l m x e em = go (is_name m) n.reselected refl refl
  where
    reads : (row_reading k.story.bus_state row).into ≡ Some m
    reads = ap (λ (d : RowReading). d.into)
        (reading_is k row n c true x.meets.of.row_is (ap (λ (z : Option ℕ). is_some z) x.receiver))
        ∙ em

    by : ((link_after_name k.story.sent s.commands l m).item ≡ k.served)
        ⊎ ((link_after_name k.story.sent s.commands l m).item ≡ None)
        → is_name m ≡ true → Names (link_after_name k.story.sent s.commands l m).item l.item q.id m
    by (inl z) f = known (z ∙ x.meets.served)
    by (inr z) f = lost z f

    go : (a b : Bool) → is_name m ≡ a → n.reselected ≡ b
        → Names (link_after_name k.story.sent s.commands l m).item l.item q.id m
    go false b f g = as_before (nameless_item k.story.sent s.commands l m f) f
    go true true f g = by (x.meets.of.names l m g x.link reads f) f
    go true false f g =
        let h = subst (λ (o : Option MsgIn). IsHeard k.exchange.plan.messages k.handshakes.requests o) em
        (hears s k row n c q l x e) in
        absurd (true≢false (sym f ∙ h.nameless (x.meets.knows.nameless g)))

-- ---- MESSAGE IN

-- It stays unnamed.
unnamed_on : (s : ScenarioValue) (k j : RunState) (q : Process) (l : Link) (c : CarriedBytes)
    → Goes s k j q → SamePointers (carried_here j q.id) c → j.story.link ≡ Some l → l.item ≡ None
    → IsUnnamed (run_policy s q) l c k.exchange (bus_of k) (run_start s k q) → ServedPointers s j q
unnamed_on s k j q l c g same el none h =
    unnamed l el none (subst (λ (x : ℕ). IsUnnamed (run_policy s q) l (carried_here j q.id) j.exchange (bus_of j) x)
    (sym g.start) (unnamed_as (run_policy s q) l c (carried_here j q.id) k.exchange j.exchange (bus_of k) (bus_of j)
    (run_start s k q) same g.plan g.begun g.phase h))

-- No message is whole with a byte of a message.
half_story : (s : ScenarioValue) (k : RunState) (row : Row) (n : Connection) (c : Change) (q : Process) (l : Link)
    → Crosses s k row n c q l → c.before.msg ≡ true → out_of k c ≡ None → into_of k c ≡ None
    → SamePointers (carried_here (run_state_after s k row) q.id) (carried_here k q.id)
    × ((run_state_after s k row).story.link ≡ Some l)
half_story s k row n c q l x msg eo em =
    let made = crossed_as s k row n c q l None None x eo em in
    let none = message_byte k.story l (reading_in k.story.bus_state n c true) msg in (
      subst (λ (y : Story). SamePointers (carried_here (run_state_after s k row) q.id) (carried_of y.carried q.id)) none
          made.0,
      made.1 ∙ ap (λ (y : Story). y.link) none ∙ x.link,
    )

no_out : (s : ScenarioValue) (k : RunState) (row : Row) (n : Connection) (c : Change) (q : Process) (l : Link)
    → Crosses s k row n c q l → phase_of (bus_of k) ≡ Phase.MessageIn → out_of k c ≡ None
no_out s k row n c q l x e =
    let io : c.before.io ≡ true = ap (λ (y : LineSet). y.io) (sym x.meets.of.row_is.bus_is)
    ∙ (in_lines (bus_of k) e).io in
    ap
    (λ (b : Bool). if b then whole_out (got_out (fresh_bytes k.story.bus_state.dialogue ++ byte_of c ∷ [])) else None)
    (io_out_false c.before io)

no_in : (s : ScenarioValue) (k : RunState) (row : Row) (n : Connection) (c : Change) (q : Process) (l : Link)
    → Crosses s k row n c q l → phase_of (bus_of k) ≡ Phase.MessageOut → into_of k c ≡ None
no_in s k row n c q l x e =
    let io : c.before.io ≡ false = ap (λ (y : LineSet). y.io) (sym x.meets.of.row_is.bus_is)
    ∙ (out_lines (bus_of k) e).1 in
    ap (λ (b : Bool). if b then whole_in (got_in (k.story.bus_state.dialogue.half ++ byte_of c ∷ [])) else None)
    (io_in_false c.before io)

abbrev told : RunState → ScenarioValue → Link → MsgIn → Link
told k s l m = record (link_after_name k.story.sent s.commands l m) {
  last = last_in m;
  before = l.last;
  undo = carried_if k.story l.item;
}

in_named_crosses : (s : ScenarioValue) (k : RunState) (row : Row) (n : Connection) (c : Change) (q : Process) (l : Link)
    → Crosses s k row n c q l → l.item ≡ Some (process q.id) → phase_of (bus_of k) ≡ Phase.MessageIn
    → PointersIn (run_policy s q) l
    (carried_here k q.id) k.exchange.plan.messages k.exchange.plan.next k.handshakes.requests (run_start s k q)
    → ServedPointers s (run_state_after s k row) q
in_named_crosses s k row n c q l x own e h = by_option (into_of k c) (λ em. let y = half_story s k row n c q l x
    (ap (λ (z : LineSet). z.msg) (sym x.meets.of.row_is.bus_is) ∙ (in_lines (bus_of k) e).msg)
    (no_out s k row n c q l x e) em in more l (carried_here k q.id) y.0 y.1 own (in_half (run_policy s q) l
    (carried_here k q.id) k.exchange.plan.messages k.exchange.plan.next k.handshakes.requests (run_start s k q) (subst
    (λ (o : Option MsgIn). IsHeard k.exchange.plan.messages k.handshakes.requests o) em (hears s k row n c q l x e)) h))
    (λ m em. whole m em (subst (λ (o : Option MsgIn). IsHeard k.exchange.plan.messages k.handshakes.requests o) em
    (hears s k row n c q l x e)) (names_it s k row n c q l m x e em))
  where
    j : RunState
    j = run_state_after s k row

    more : (m : Link) (d : CarriedBytes) → SamePointers (carried_here j q.id) d
        → j.story.link ≡ Some m → m.item ≡ Some (process q.id) → PointersIn
        (run_policy s q) m d k.exchange.plan.messages k.exchange.plan.next (k.handshakes.requests + 1) (run_start s k q)
        → ServedPointers s j q
    more m d same el em p = told_served s k j q m d x.row_in.goes x.begun same el em (subst
        (λ (y : Phase). PointersOf (run_policy s q) m d k.exchange.plan j.handshakes (run_start s k q) y) (sym e) (subst
        (λ (y : ℕ). PointersIn (run_policy s q) m d k.exchange.plan.messages k.exchange.plan.next y (run_start s k q))
        (sym (asked_more s k row n c q l x e)) p))

    undo : carried_if k.story l.item ≡ Some (carried_here k q.id)
    undo = ap (λ (y : Option Item). carried_if k.story y) own

    whole : (m : MsgIn) → into_of k c ≡ Some m → IsHeard k.exchange.plan.messages k.handshakes.requests (Some m)
        → Names (link_after_name k.story.sent s.commands l m).item l.item q.id m → ServedPointers s j q
    whole m em heard names = by names
      where
        made : SamePointers (carried_here j q.id) (carried_of (story_after_in s k.story l (Some m)).carried q.id)
            × (j.story.link ≡ (story_after_in s k.story l (Some m)).link)
        made = crossed_as s k row n c q l None (Some m) x (no_out s k row n c q l x e) em

        link : j.story.link ≡ Some (told k s l m)
        link = made.1 ∙ in_link s k.story l m

        keeps : (link_after_name k.story.sent s.commands l m).item ≡ Some (process q.id) → ServedPointers s j q
        keeps z = more (told k s l m) (carried_after_message (carried_here k q.id) m) (subst
            (λ (y : CarriedBytes). SamePointers (carried_here j q.id) y) (in_known s k.story l m q.id own z) made.0)
            link z (in_whole (run_policy s q) l (told k s l m) (carried_here k q.id) k.exchange.plan.messages
            k.exchange.plan.next k.handshakes.requests (run_start s k q) m heard refl refl undo h)

        by : Names (link_after_name k.story.sent s.commands l m).item l.item q.id m → ServedPointers s j q
        by (known z) = keeps z
        by (as_before z f) = keeps (z ∙ own)
        by (lost z f) =
            let p = in_lost (run_policy s q) l (told k s l m) (carried_here k q.id) k.exchange.plan.messages
            k.exchange.plan.next k.handshakes.requests (run_start s k q) m heard refl refl undo f h in
            unnamed_on s k j q (told k s l m) (carried_here k q.id) x.row_in.goes
            (subst (λ (y : CarriedBytes). SamePointers (carried_here j q.id) y)
            (in_unknown s k.story l m q.id own z) made.0) link z (record {
              begun = x.begun;
              undone = p.undone;
              undisturbed = p.undisturbed;
              next = p.next_is;
              plain = p.plain;
              saved = p.saved;
              phase = inl e;
            })

in_unnamed_crosses :
    (s : ScenarioValue) (k : RunState) (row : Row) (n : Connection) (c : Change) (q : Process) (l : Link)
    → Crosses s k row n c q l → l.item ≡ None → phase_of (bus_of k) ≡ Phase.MessageIn
    → IsUnnamed (run_policy s q) l (carried_here k q.id) k.exchange (bus_of k) (run_start s k q)
    → ServedPointers s (run_state_after s k row) q
in_unnamed_crosses s k row n c q l x own e h = by_option (into_of k c) (λ em. let y = half_story s k row n c q l x
    (ap (λ (z : LineSet). z.msg) (sym x.meets.of.row_is.bus_is) ∙ (in_lines (bus_of k) e).msg)
    (no_out s k row n c q l x e) em in unnamed_on s k j q l (carried_here k q.id) x.row_in.goes y.0 y.1 own h)
    (λ m em. whole m em (subst (λ (o : Option MsgIn). IsHeard k.exchange.plan.messages k.handshakes.requests o) em
    (hears s k row n c q l x e)) (names_it s k row n c q l m x e em))
  where
    j : RunState
    j = run_state_after s k row

    undo : carried_if k.story l.item ≡ None
    undo = ap (λ (y : Option Item). carried_if k.story y) own

    whole : (m : MsgIn) → into_of k c ≡ Some m → IsHeard k.exchange.plan.messages k.handshakes.requests (Some m)
        → Names (link_after_name k.story.sent s.commands l m).item l.item q.id m → ServedPointers s j q
    whole m em heard names = by names
      where
        made : SamePointers (carried_here j q.id) (carried_of (story_after_in s k.story l (Some m)).carried q.id)
            × (j.story.link ≡ (story_after_in s k.story l (Some m)).link)
        made = crossed_as s k row n c q l None (Some m) x (no_out s k row n c q l x e) em

        link : j.story.link ≡ Some (told k s l m)
        link = made.1 ∙ in_link s k.story l m

        disturbed : IsUndisturbed (run_policy s q) l → IsUndisturbed (run_policy s q) (told k s l m)
        disturbed (inl y) = inl y
        disturbed (inr y) = inr (heard.plain h.plain, y.0)

        stays : (link_after_name k.story.sent s.commands l m).item ≡ None → ServedPointers s j q
        stays z = unnamed_on s k j q (told k s l m) (carried_here k q.id) x.row_in.goes
            (subst (λ (y : CarriedBytes). SamePointers (carried_here j q.id) y)
            (in_none s k.story l m q.id own z) made.0) link z (record {
              begun = x.begun;
              undone = subst (λ (y : Option CarriedBytes). OnUndo
                  (λ (u : CarriedBytes). u.moved.saved ≡ run_start s k q) y) (sym undo) tt;
              undisturbed = disturbed h.undisturbed;
              next = h.next;
              plain = h.plain;
              saved = h.saved;
              phase = inl e;
            })

        by : Names (link_after_name k.story.sent s.commands l m).item l.item q.id m → ServedPointers s j q
        by (lost z f) = stays z
        by (as_before z f) = stays (z ∙ own)
        by (known z) = told_served s k j q (told k s l m)
            (carried_after_message (with_restored_pointers (carried_here k q.id)) m) x.row_in.goes x.begun
            (subst (λ (y : CarriedBytes). SamePointers (carried_here j q.id) y) (in_found s k.story l m q.id own z)
            made.0) link z (subst (λ (y : Phase). PointersOf (run_policy s q) (told k s l m)
            (carried_after_message (with_restored_pointers (carried_here k q.id)) m) k.exchange.plan j.handshakes
            (run_start s k q) y) (sym e) (subst (λ (y : ℕ). PointersIn (run_policy s q) (told k s l m)
            (carried_after_message (with_restored_pointers (carried_here k q.id)) m) k.exchange.plan.messages
            k.exchange.plan.next y (run_start s k q)) (sym (asked_more s k row n c q l x e))
            (in_named (run_policy s q) l (told k s l m) (carried_here k q.id) k.exchange.plan.messages
            k.exchange.plan.next k.handshakes.requests (run_start s k q) m heard refl refl undo (record {
              next_is = h.next;
              undisturbed = h.undisturbed;
              plain = h.plain;
              saved = h.saved;
              undone = h.undone;
            }))))

-- ---- MESSAGE OUT

speaking : (s : ScenarioValue) (k : RunState) (row : Row) (n : Connection) (c : Change) (q : Process) (l : Link)
    → Crosses s k row n c q l → phase_of (bus_of k) ≡ Phase.MessageOut
    → IsSpeaking s n k.served k.exchange k.story.bus_state.dialogue
speaking s k row n c q l x e = x.meets.speaks.in_message_out x.begun (message_out_is s k row n c q l x e)

said :
    (s : ScenarioValue) (k : RunState) (row : Row) (n : Connection) (c : Change) (q : Process) (l : Link) (m y : MsgOut)
    → Crosses s k row n c q l → phase_of (bus_of k) ≡ Phase.MessageOut → out_of k c ≡ Some m
    → whole_out (got_out (fresh_bytes k.story.bus_state.dialogue ++ byte_of c ∷ [])) ≡ Some y → m ≡ y
said s k row n c q l m y x e eo w =
    let before : is_message_out c.before ≡ true = ap is_message_out (sym x.meets.of.row_is.bus_is)
    ∙ message_out_is s k row n c q l x e in
    same_Some m y (sym eo ∙ ap
    (λ (b : Bool). if b then whole_out (got_out (fresh_bytes k.story.bus_state.dialogue ++ byte_of c ∷ [])) else None)
    before ∙ w)

next_byte : (s : ScenarioValue) (k : RunState) (row : Row) (n : Connection) (c : Change) (q : Process) (l : Link)
    → Crosses s k row n c q l → phase_of (bus_of k) ≡ Phase.MessageOut
    → byte_of c ≡ Rattle.due_model.specs.dialogue_model.specs.Exchange.next_word k.exchange.speech
next_byte s k row n c q l x e =
    (x.meets.of.says (ap is_message_out (sym x.meets.of.row_is.bus_is) ∙ message_out_is s k row n c q l x e)
    (ap (λ (z : Option ℕ). is_some z) x.receiver)).0

-- Of a message that answers others it is MESSAGE PARITY ERROR, or COMMAND follows.
refusal :
    (s : ScenarioValue) (k : RunState) (row : Row) (n : Connection) (c : Change) (q : Process) (l : Link) (m : MsgOut)
    → Crosses s k row n c q l → phase_of (bus_of k) ≡ Phase.MessageOut → out_of k c ≡ Some m
    → k.exchange.plan.cause ≡ Cause.InMessage → (k.exchange.plan.next ≡ Next.Command) ⊎ (m ≡ MsgOut.ParityError)
refusal s k row n c q l m x e eo cause = go (x.meets.refuses x.begun e cause)
  where
    go : (k.exchange.plan.next ≡ Next.Command) ⊎ (k.exchange.speech.words ≡ parity_error)
        → (k.exchange.plan.next ≡ Next.Command) ⊎ (m ≡ MsgOut.ParityError)
    go (inl z) = inl z
    go (inr z) = inr (said s k row n c q l m MsgOut.ParityError x e eo (refusal_said k.exchange.speech k.exchange.plan
        k.story.bus_state.dialogue (byte_of c) z (speaking s k row n c q l x e).heard (next_byte s k row n c q l x e)))

undo_own : (s : ScenarioValue) (k : RunState) (row : Row) (n : Connection) (c : Change) (q : Process) (l : Link)
    → Crosses s k row n c q l → OnUndo (λ (u : CarriedBytes). u.id ≡ q.id) l.undo
undo_own s k row n c q l x = go l.undo refl
  where
    go : (o : Option CarriedBytes) → l.undo ≡ o → OnUndo (λ (u : CarriedBytes). u.id ≡ q.id) o
    go None e = tt
    go (Some u) e = same_process u.id q.id (sym (x.meets.undoes l u x.link e) ∙ x.meets.served)

abbrev refused_link : Link → MsgOut → Link
refused_link l m = record l { last = last_out m l }

abbrev refused_bytes : RunState → Process → Link → MsgOut → CarriedBytes
refused_bytes k q l m = or_undone (is_parity_error m) l.undo (carried_here k q.id)

heard_out :
    (s : ScenarioValue) (k : RunState) (row : Row) (n : Connection) (c : Change) (q : Process) (l : Link) (m : MsgOut)
    → Crosses s k row n c q l → phase_of (bus_of k) ≡ Phase.MessageOut → out_of k c ≡ Some m
    → SamePointers (carried_here (run_state_after s k row) q.id) (refused_bytes k q l m)
    × ((run_state_after s k row).story.link ≡ Some (refused_link l m))
heard_out s k row n c q l m x e eo =
    let made = crossed_as s k row n c q l (Some m) None x eo (no_in s k row n c q l x e) in (
      subst (λ (y : CarriedBytes). SamePointers (carried_here (run_state_after s k row) q.id) y)
          (out_story k.story l m q.id (undo_own s k row n c q l x)) made.0,
      made.1 ∙ out_link k.story l m,
    )

out_named_crosses :
    (s : ScenarioValue) (k : RunState) (row : Row) (n : Connection) (c : Change) (q : Process) (l : Link)
    → Crosses s k row n c q l → l.item ≡ Some (process q.id) → phase_of (bus_of k) ≡ Phase.MessageOut
    → PointersAsked (run_policy s q) l (carried_here k q.id) k.exchange.plan (run_start s k q) k.exchange.plan.cause
    → ServedPointers s (run_state_after s k row) q
out_named_crosses s k row n c q l x own e h = by_option (out_of k c) (λ eo. let y = half_story s k row n c q l x
    (ap (λ (z : LineSet). z.msg) (sym x.meets.of.row_is.bus_is) ∙ (out_lines (bus_of k) e).0) eo
    (no_in s k row n c q l x e) in more l (carried_here k q.id) y.0 y.1 own h)
    (λ m eo. let y = heard_out s k row n c q l m x e eo in
    more (refused_link l m) (refused_bytes k q l m) y.0 y.1 own (whole m eo k.exchange.plan.cause refl h))
  where
    j : RunState
    j = run_state_after s k row

    more : (m : Link) (d : CarriedBytes) → SamePointers (carried_here j q.id) d
        → j.story.link ≡ Some m → m.item ≡ Some (process q.id)
        → PointersAsked (run_policy s q) m d k.exchange.plan (run_start s k q) k.exchange.plan.cause
        → ServedPointers s j q
    more m d same el em p = told_served s k j q m d x.row_in.goes x.begun same el em (subst
        (λ (y : Phase). PointersOf (run_policy s q) m d k.exchange.plan j.handshakes (run_start s k q) y) (sym e) p)

    talks : IsSpeaking s n k.served k.exchange k.story.bus_state.dialogue
    talks = speaking s k row n c q l x e

    rejected : (m : MsgOut) → out_of k c ≡ Some m → k.exchange.speech.words ≡ detected_error → m ≡ MsgOut.DetectedError
    rejected m eo words = said s k row n c q l m MsgOut.DetectedError x e eo (rejection_said k.exchange.speech
        k.exchange.plan k.story.bus_state.dialogue (byte_of c) words talks.heard (next_byte s k row n c q l x e))

    disturbed : (m : MsgOut) → m ≡ MsgOut.DetectedError → IsUndisturbed (run_policy s q) l
        → IsUndisturbed (run_policy s q) (refused_link l m)
    disturbed m is (inl z) = inl z
    disturbed m is (inr z) = inr (ap (λ (y : MsgOut). last_out y l) is, z.1)

    whole : (m : MsgOut) → out_of k c ≡ Some m → (cause : Cause) → k.exchange.plan.cause ≡ cause
        → PointersAsked (run_policy s q) l (carried_here k q.id) k.exchange.plan (run_start s k q) cause
        → PointersAsked (run_policy s q) (refused_link l m) (refused_bytes k q l m) k.exchange.plan
        (run_start s k q) cause
    whole m eo Cause.Selected ec p =
        settled_on l (refused_link l m) (carried_here k q.id) (run_start s k q) (is_parity_error m) refl p
    whole m eo Cause.InMessage ec p = refused_on (run_policy s q) l (refused_link l m)
        (carried_here k q.id) k.exchange.plan.messages k.exchange.plan.next (run_start s k q) m
        (refusal s k row n c q l m x e eo ec) refl refl refl p
    whole m eo Cause.InData ec p =
        let is : m ≡ MsgOut.DetectedError = rejected m eo
        (data_rejects s n k.served k.exchange k.story.bus_state.dialogue talks ec) in
        (disturbed m is p.0, ap (λ (y : MsgOut). (refused_bytes k q l y).moved.saved) is ∙ p.1)
    whole m eo Cause.InStatus ec p =
        let is : m ≡ MsgOut.DetectedError = rejected m eo
        (status_rejects s n k.served k.exchange k.story.bus_state.dialogue talks ec) in
        ap (λ (y : MsgOut). is_marked (refused_bytes k q l y)) is ∙ p

saved_undone : (start : ℕ) (r : Bool) (o : Option CarriedBytes) (c : CarriedBytes)
    → OnUndo (λ (u : CarriedBytes). u.moved.saved ≡ start) o → c.moved.saved ≡ start
    → (or_undone r o c).moved.saved ≡ start
saved_undone start false o c u e = e
saved_undone start true None c u e = e
saved_undone start true (Some v) c u e = u

out_unnamed_crosses :
    (s : ScenarioValue) (k : RunState) (row : Row) (n : Connection) (c : Change) (q : Process) (l : Link)
    → Crosses s k row n c q l → l.item ≡ None
    → phase_of (bus_of k) ≡ Phase.MessageOut → k.exchange.plan.cause ≡ Cause.InMessage
    → IsUnnamed (run_policy s q) l (carried_here k q.id) k.exchange (bus_of k) (run_start s k q)
    → ServedPointers s (run_state_after s k row) q
out_unnamed_crosses s k row n c q l x own e cause h = go (out_of k c) refl
  where
    j : RunState
    j = run_state_after s k row

    go : (o : Option MsgOut) → out_of k c ≡ o → ServedPointers s j q
    go None eo =
        let y = half_story s k row n c q l x (ap (λ (z : LineSet). z.msg) (sym x.meets.of.row_is.bus_is)
        ∙ (out_lines (bus_of k) e).0) eo (no_in s k row n c q l x e) in
        unnamed_on s k j q l (carried_here k q.id) x.row_in.goes y.0 y.1 own h
    go (Some m) eo =
        let y = heard_out s k row n c q l m x e eo in
        unnamed_on s k j q (refused_link l m) (refused_bytes k q l m) x.row_in.goes y.0 y.1 own
        (record {
          begun = x.begun;
          undone = h.undone;
          undisturbed = disturbed (refusal s k row n c q l m x e eo cause) h.undisturbed;
          next = h.next;
          plain = h.plain;
          saved = saved_undone (run_start s k q) (is_parity_error m) l.undo (carried_here k q.id) h.undone h.saved;
          phase = inr (e, cause);
        })
      where
        disturbed : (k.exchange.plan.next ≡ Next.Command) ⊎ (m ≡ MsgOut.ParityError) → IsUndisturbed (run_policy s q) l
            → IsUndisturbed (run_policy s q) (refused_link l m)
        disturbed (inl z) u = on_command (sym h.next ∙ z)
        disturbed (inr z) (inl u) = inl u
        disturbed (inr z) (inr u) = inr (ap (λ (y : MsgOut). last_out y l) z ∙ u.1, u.1)

-- ---- any row of the phase

crossed_served : (s : ScenarioValue) (k : RunState) (row : Row) (n : Connection) (c : Change) (q : Process) (dev : ℕ)
    → Meets s k row n c q → is_fault row.kind ≡ false → changes_phase c ≡ false → receiver_in n c ≡ Some dev
    → ServedPointers s k q → ServedPointers s (run_state_after s k row) q
crossed_served s k row n c q dev meets ef ep er h = go h
  where
    j : RunState
    j = run_state_after s k row

    by_phase : (l : Link) → Crosses s k row n c q l → l.item ≡ Some (process q.id)
        → (phase : Phase) → phase_of (bus_of k) ≡ phase
        → PointersOf (run_policy s q) l (carried_here k q.id) k.exchange.plan k.handshakes (run_start s k q) phase
        → ServedPointers s j q
    by_phase l x own Phase.Command e p = block_crosses s k row n c q l x own (ap is_block_phase e) h
    by_phase l x own Phase.Status e p = block_crosses s k row n c q l x own (ap is_block_phase e) h
    by_phase l x own Phase.DataOut e p = run_crosses s k row n c q l x own e p
    by_phase l x own Phase.DataIn e p = read_crosses s k row n c q l x own e p
    by_phase l x own Phase.MessageIn e p = in_named_crosses s k row n c q l x own e p
    by_phase l x own Phase.MessageOut e p = out_named_crosses s k row n c q l x own e p

    go : ServedPointers s k q → ServedPointers s j q
    go (unnamed l el none p) = at p.phase
      where
        x : Crosses s k row n c q l
        x = crosses_in s k row n c q l dev meets ef ep er el

        at : (phase_of (bus_of k) ≡ Phase.MessageIn)
            ⊎ ((phase_of (bus_of k) ≡ Phase.MessageOut) × (k.exchange.plan.cause ≡ Cause.InMessage))
            → ServedPointers s j q
        at (inl z) = in_unnamed_crosses s k row n c q l x none z p
        at (inr z) = out_unnamed_crosses s k row n c q l x none z.0 z.1 p
    go (named l el own p) =
        let x = crosses_in s k row n c q l dev meets ef ep er el in
        by_phase l x own (phase_of (bus_of k)) refl (subst (λ (b : Bool). PointersIf b (run_policy s q) l
        (carried_here k q.id) k.exchange.plan k.handshakes (run_start s k q) (phase_of (bus_of k))) x.begun p)

pub phase_served : (s : ScenarioValue) (k : RunState) (row : Row) (n : Connection) (c : Change) (q : Process)
    → Meets s k row n c q → changes_phase c ≡ false → ServedPointers s k q
    → ServedPointers s (run_state_after s k row) q
phase_served s k row n c q meets ep h = go meets.of.row_is.kind
  where
    go : RowKind row n c → ServedPointers s (run_state_after s k row) q
    go (still ef e er) = quiet_row s k row n c q false meets.of.row_is ef ep er h
    go (strikes ef e er) = quiet_row s k row n c q true meets.of.row_is ef ep er h
    go (crosses dev ef e er) = crossed_served s k row n c q dev meets ef ep er h
    go (turns ef e er) = absurd (true≢false (sym e ∙ ep))

-- ---- whoever is served

-- A message names the process that is served, or none.
pub names_or :
    (s : ScenarioValue) (k : RunState) (row : Row) (n : Connection) (c : Change) (now : Bool) (l : Link) (m : MsgIn)
    → IsRowIn k row n c → is_some (receiver_in n c) ≡ now → Knows s k n → GoesOn s k row n c
    → Gives k → k.story.link ≡ Some l → (reading_in k.story.bus_state n c now).into ≡ Some m
    → ((link_after_name k.story.sent s.commands l m).item ≡ k.served)
    ⊎ ((link_after_name k.story.sent s.commands l m).item ≡ None)
names_or s k row n c now l m r en knows g gives el em = go (is_name m) n.reselected refl refl
  where
    reads : (row_reading k.story.bus_state row).into ≡ Some m
    reads = ap (λ (d : RowReading). d.into) (reading_is k row n c now r en) ∙ em

    known_link : knows.link ≡ l
    known_link = same_Some knows.link l (sym knows.link_is ∙ el)

    item : (l.item ≡ k.served) ⊎ (l.item ≡ None)
    item = by knows.item_is
      where
        by : (knows.link.item ≡ k.served) ⊎ ((n.reselected ≡ true) × (knows.link.item ≡ None))
            → (l.item ≡ k.served) ⊎ (l.item ≡ None)
        by (inl z) = inl (ap (λ (x : Link). x.item) (sym known_link) ∙ z)
        by (inr z) = inr (ap (λ (x : Link). x.item) (sym known_link) ∙ z.1)

    stays : is_name m ≡ false → ((link_after_name k.story.sent s.commands l m).item ≡ k.served)
        ⊎ ((link_after_name k.story.sent s.commands l m).item ≡ None)
    stays f = by item
      where
        by : (l.item ≡ k.served) ⊎ (l.item ≡ None)
            → ((link_after_name k.story.sent s.commands l m).item ≡ k.served)
            ⊎ ((link_after_name k.story.sent s.commands l m).item ≡ None)
        by (inl z) = inl (nameless_item k.story.sent s.commands l m f ∙ z)
        by (inr z) = inr (nameless_item k.story.sent s.commands l m f ∙ z)

    -- after a selection no message is a name
    never : n.reselected ≡ false → is_name m ≡ false
    never e = by now en em (is_message_in c.before) refl
      where
        none_message : {A : Type 0} → (let o : Option MsgIn = None in o) ≡ Some m → A
        none_message z = absurd cc

        by : (a : Bool) → is_some (receiver_in n c) ≡ a → (reading_in k.story.bus_state n c a).into ≡ Some m
            → (b : Bool) → is_message_in c.before ≡ b → is_name m ≡ false
        by false x y b f = none_message y
        by true x y false f = none_message (sym (ap
            (λ (q : Bool). if q then whole_in (got_in (k.story.bus_state.dialogue.half ++ byte_of c ∷ [])) else None) f)
            ∙ y)
        by true x y true f =
            let next = g.gives f x in
            let given = gives.in_message_in next.2 (ap is_message_in r.bus_is ∙ f) in
            let heard = heard_in k.exchange.plan.messages k.story.bus_state.dialogue.half k.handshakes.requests
            (byte_of c) gives.fit given next.0 next.1 in
            let is : whole_in (got_in (k.story.bus_state.dialogue.half ++ byte_of c ∷ [])) ≡ Some m = sym (ap
            (λ (q : Bool). if q then whole_in (got_in (k.story.bus_state.dialogue.half ++ byte_of c ∷ [])) else None) f)
            ∙ y in
            (subst (λ (o : Option MsgIn). IsHeard k.exchange.plan.messages k.handshakes.requests o) is heard).nameless
            (knows.nameless e)

    go : (a b : Bool) → is_name m ≡ a → n.reselected ≡ b
        → ((link_after_name k.story.sent s.commands l m).item ≡ k.served)
        ⊎ ((link_after_name k.story.sent s.commands l m).item ≡ None)
    go false b f e = stays f
    go true true f e = g.names l m e el reads f
    go true false f e = absurd (true≢false (sym f ∙ never e))
