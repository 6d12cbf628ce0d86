-- Where COMMAND COMPLETE is said, its process has carried a byte of STATUS: it goes on with each row of a connection.
use Rattle.trace_laws.proofs
use proofs.Names.{inl, inr, ℕ, zero, suc, ◌≡◌, ◌⊎◌, Bool, true, false, not, ◌&&◌, ◌==◌, ◌%◌, ◌∙◌, List, [], ◌∷◌, ◌++◌}
use proofs.Names.{length, Option, Some, None, refl, sym, ap, subst, arith, nat_tests, same_Some, if◌then◌else◌, is_some}
use proofs.Names.{nat_lt, slice_set, wrong, wrong', suc_some, ProcId, LineSet, changes_phase, is_message_in}
use proofs.Names.{is_message_out, receiver_in, Row, Change, Connection, got_in, got_out, MsgIn, MsgOut, fresh_bytes}
use proofs.Names.{ScenarioValue, same_id, carried_id, RowReading, row_reading, whole_in, whole_out, message_in}
use proofs.Names.{message_out, Area, area_with, CarriedBytes, carried_of, carried_after_byte, carried_if, row_events_by}
use proofs.Names.{Item, process, Link, last_out, Story, story_with_carried, is_parity_error, story_after_out}
use proofs.Names.{story_after_in, carried_after_byte_if, story_after_byte, story_in_connection, story_on_bus}
use proofs.Names.{story_by_change, one_message, phase_of, Phase, Plan, RunState, bus_of, carried_here, run_state_after}
use proofs.Names.{reading_is, self_id, id_is, put_own, IsRowIn, reading_in, none_some, out_in, out_phase, in_phase}
use proofs.Names.{LinkAfter, says, hears, heard_link, link_crossed, link_still, KeptPlan, Stays, stays_as, is_attended}
use proofs.{Names.{byte_id, HasStatus, UndoesStatus, CarriesBy}, Statuses.Carried.{areas_next, events_on}}
use Rattle.story_laws.proofs.Items.Row.{stays}

-- ---- a byte that was carried stays

more_some : (bytes : List ℕ) (byte : ℕ) → HasStatus (bytes ++ byte ∷ [])
more_some [] byte = refl
more_some (b ∷ bytes) byte = suc_some (length (bytes ++ byte ∷ []))

set_some : (bytes : List ℕ) (at byte : ℕ) → nat_lt at (length bytes) ≡ true → HasStatus (slice_set bytes at byte)
set_some [] at byte e = absurd (below at e)
  where
    below : (m : ℕ) → nat_lt m 0 ≡ true → ⊥
    below m z = grind (arith, nat_tests)
set_some (b ∷ bytes) zero byte e = suc_some (length bytes)
set_some (b ∷ bytes) (suc at) byte e = suc_some (length (slice_set bytes at byte))

pub taken_some : (a : Area) (byte : ℕ) → HasStatus (area_with a byte).bytes
taken_some a byte = go (nat_lt a.active (length a.bytes)) refl
  where
    go : (q : Bool) → nat_lt a.active (length a.bytes) ≡ q
        → HasStatus (if q then slice_set a.bytes a.active byte else a.bytes ++ byte ∷ [])
    go true e = set_some a.bytes a.active byte e
    go false e = more_some a.bytes byte

abbrev Own : ProcId → ProcId → List ℕ → Type 0
Own id x bytes = same_id x id ≡ true → HasStatus bytes

-- What MESSAGE PARITY ERROR brings back with the row has one, too.
abbrev UndoesIn : RunState → Row → Link → Type 0
UndoesIn k row l = (m : MsgOut) (u : CarriedBytes) → (row_reading k.story.bus_state row).out ≡ Some m
    → is_parity_error m ≡ true → l.undo ≡ Some u → HasStatus u.status.bytes

pub status_kept : (s : ScenarioValue) (k : RunState) (row : Row) (l : Link) (id : ProcId)
    → k.story.link ≡ Some l → UndoesIn k row l → HasStatus (carried_here k id).status.bytes
    → HasStatus (carried_here (run_state_after s k row) id).status.bytes
status_kept s k row l id el undoes h =
    areas_next (Own id) s k row
    (λ m n x er em en ex.
    record {
      status = λ p e cr st f. taken_some (carried_of k.story.carried p).status _;
      undoes =
          λ o u eo parity eu f. undoes o u eo parity (ap (λ (y : Link). y.undo) (same_Some l x (sym el ∙ ex)) ∙ eu);
    })
    (λ x e. subst (λ (y : ProcId). HasStatus (carried_here k y).status.bytes) (sym (id_is x id e)) h)
    id (self_id id)

-- ---- no byte of MESSAGE OUT crosses

out_none : (k : RunState) (row : Row) (n : Connection) (c : Change) (now : Bool) → IsRowIn k row n c
    → is_some (receiver_in n c) ≡ now → (now ≡ false) ⊎ (is_message_out c.before ≡ false)
    → (row_reading k.story.bus_state row).out ≡ None
out_none k row n c now r en other = ap (λ (d : RowReading). d.out) (reading_is k row n c now r en) ∙ go now other
  where
    go : (q : Bool) → (q ≡ false) ⊎ (is_message_out c.before ≡ false)
        → message_out k.story.bus_state.dialogue c q ≡ None
    go false x = refl
    go true (inl x) = wrong x
    go true (inr x) = ap (λ (q : Bool). if q
        then whole_out (got_out (fresh_bytes k.story.bus_state.dialogue ++ c.after.data_bits % 256 ∷ [])) else None) x

pub quiet : (k : RunState) (row : Row) (n : Connection) (c : Change) (now : Bool) (l : Link) → IsRowIn k row n c
    → is_some (receiver_in n c) ≡ now → (now ≡ false) ⊎ (is_message_out c.before ≡ false) → UndoesIn k row l
quiet k row n c now l r en other m u e = none_some m (sym (out_none k row n c now r en other) ∙ e)

-- ---- the phase stays

stays_by : (l : Link) (bytes others : List ℕ) (a q : Plan) (count other : ℕ) (phase : Phase)
    → (HasStatus bytes → HasStatus others) → KeptPlan a q
    → (is_attended phase ≡ true → other ≡ count) → CarriesBy l bytes a count phase → CarriesBy l others q other phase
stays_by l bytes others a q count other Phase.Status f g e h =
    λ some. f (h (ap (λ (x : ℕ). x == 0) (sym (e refl)) ∙ some))
stays_by l bytes others a q count other Phase.MessageIn f g e h = λ m.
    let w = h (sym g.messages ∙ m) in
    (f w.0, counts w.1)
  where
    counts : (count ≡ 0) ⊎ UndoesStatus l.undo → (other ≡ 0) ⊎ UndoesStatus l.undo
    counts (inl z) = inl (e refl ∙ z)
    counts (inr z) = inr z
stays_by l bytes others a q count other Phase.MessageOut f g e h = λ ec m.
    let w = h (sym g.cause ∙ ec) (sym g.messages ∙ m) in
    (f w.0, w.1)
stays_by l bytes others a q count other _ f g e h = tt

-- What is said of the process that is served, with this link.
abbrev pub TalksOf : RunState → Link → ProcId → Type 0
TalksOf k l id =
    CarriesBy l (carried_here k id).status.bytes k.exchange.plan k.handshakes.requests (phase_of (bus_of k))

-- No byte crosses.
pub still_talk : (s : ScenarioValue) (k : RunState) (row : Row) (n : Connection) (c : Change) (l m : Link) (id : ProcId)
    → IsRowIn k row n c → changes_phase c ≡ false → is_some (receiver_in n c) ≡ false
    → k.story.link ≡ Some l → (run_state_after s k row).story.link ≡ Some m
    → (is_attended (phase_of (bus_of k)) ≡ true → (run_state_after s k row).handshakes.requests ≡ k.handshakes.requests)
    → TalksOf k l id → TalksOf (run_state_after s k row) m id
still_talk s k row n c l m id r ep en el em asked h =
    let j : RunState = run_state_after s k row in
    let t = stays_as s k row n c false r ep en in
    subst (λ (x : Link). TalksOf j x id) (same_Some l m (sym (link_still s k row n c l r en el) ∙ em))
    (subst (CarriesBy l (carried_here j id).status.bytes j.exchange.plan j.handshakes.requests)
    (sym t.phase) (stays_by l (carried_here k id).status.bytes
    (carried_here j id).status.bytes k.exchange.plan j.exchange.plan k.handshakes.requests j.handshakes.requests
    (phase_of (bus_of k)) (status_kept s k row l id el (quiet k row n c false l r en (inl refl))) t.plan asked h))

-- ---- a byte of MESSAGE OUT

pub out_talk : (s : ScenarioValue) (k : RunState) (row : Row) (n : Connection) (c : Change) (l m : Link) (id : ProcId)
    → IsRowIn k row n c → changes_phase c ≡ false → is_some (receiver_in n c) ≡ true → is_message_out c.before ≡ true
    → k.story.link ≡ Some l → (run_state_after s k row).story.link ≡ Some m → TalksOf k l id
    → TalksOf (run_state_after s k row) m id
out_talk s k row n c l m id r ep en out el em h = subst
    (CarriesBy m (carried_here j id).status.bytes j.exchange.plan j.handshakes.requests)
    (sym (t.phase ∙ here)) (λ ec e. let w = was (sym t.plan.cause ∙ ec) (sym t.plan.messages ∙ e) in
    (status_kept s k row l id el (brings w.1) w.0, subst UndoesStatus (sym same) w.1))
  where
    j : RunState
    j = run_state_after s k row

    t : Stays s k row n c true
    t = stays_as s k row n c true r ep en

    here : phase_of (bus_of k) ≡ Phase.MessageOut
    here = ap phase_of r.bus_is ∙ out_phase c.before out

    was : CarriesBy l (carried_here k id).status.bytes k.exchange.plan k.handshakes.requests Phase.MessageOut
    was = subst (CarriesBy l (carried_here k id).status.bytes k.exchange.plan k.handshakes.requests) here h

    brings : UndoesStatus l.undo → UndoesIn k row l
    brings w o u eo parity eu = subst UndoesStatus eu w

    in_none : is_message_in c.before ≡ false
    in_none = go c.before.msg c.before.cd c.before.io out
      where
        go : (x d i : Bool) → (x && d && not i) ≡ true → (x && d && i) ≡ false
        go true true true z = wrong' z
        go true true false z = refl
        go true false i z = wrong' z
        go false d i z = wrong' z

    none : message_in k.story.bus_state.dialogue c true ≡ None
    none = ap (λ (q : Bool).
        if q then whole_in (got_in (k.story.bus_state.dialogue.half ++ c.after.data_bits % 256 ∷ [])) else None) in_none

    same : m.undo ≡ l.undo
    same = by (link_crossed s k row n c l r en el)
      where
        by : LinkAfter s k.story l (message_out k.story.bus_state.dialogue c true)
            (message_in k.story.bus_state.dialogue c true) j.story.link
            → m.undo ≡ l.undo
        by (says x e z) = ap (λ (y : Link). y.undo) (same_Some m (record l { last = last_out x l }) (sym em ∙ z))
        by (stays e f z) = ap (λ (y : Link). y.undo) (same_Some m l (sym em ∙ z))
        by (hears x e f z) = none_some x (sym none ∙ f)

-- ---- a byte of MESSAGE IN

pub in_talk : (s : ScenarioValue) (k : RunState) (row : Row) (n : Connection) (c : Change) (l m : Link) (id : ProcId)
    → IsRowIn k row n c → changes_phase c ≡ false → is_some (receiver_in n c) ≡ true
    → is_message_in c.before ≡ true → k.story.link ≡ Some l → (run_state_after s k row).story.link ≡ Some m
    → (k.exchange.plan.messages ≡ one_message MsgIn.CommandComplete → l.item ≡ Some (process id))
    → (k.exchange.plan.messages ≡ one_message MsgIn.CommandComplete → k.handshakes.requests ≡ 0
    → message_in k.story.bus_state.dialogue c true ≡ Some MsgIn.CommandComplete)
    → TalksOf k l id → TalksOf (run_state_after s k row) m id
in_talk s k row n c l m id r ep en into el em named first h = subst
    (CarriesBy m (carried_here j id).status.bytes j.exchange.plan j.handshakes.requests) (sym (t.phase ∙ here))
    (λ e. let f = sym t.plan.messages ∙ e in let w = was f in (
      status_kept s k row l id el (quiet k row n c true l r en (inr (out_in c.before into))) w.0,
      inr (undone f w.0 w.1),
    ))
  where
    j : RunState
    j = run_state_after s k row

    t : Stays s k row n c true
    t = stays_as s k row n c true r ep en

    here : phase_of (bus_of k) ≡ Phase.MessageIn
    here = ap phase_of r.bus_is ∙ in_phase c.before into

    was : CarriesBy l (carried_here k id).status.bytes k.exchange.plan k.handshakes.requests Phase.MessageIn
    was = subst (CarriesBy l (carried_here k id).status.bytes k.exchange.plan k.handshakes.requests) here h

    out : message_out k.story.bus_state.dialogue c true ≡ None
    out = ap (λ (q : Bool).
        if q then whole_out (got_out (fresh_bytes k.story.bus_state.dialogue ++ c.after.data_bits % 256 ∷ []))
        else None) (out_in c.before into)

    own : k.exchange.plan.messages ≡ one_message MsgIn.CommandComplete → HasStatus (carried_here k id).status.bytes
        → UndoesStatus (carried_if k.story l.item)
    own e w = subst (λ (o : Option Item). UndoesStatus (carried_if k.story o)) (sym (named e)) w

    undone : k.exchange.plan.messages ≡ one_message MsgIn.CommandComplete → HasStatus (carried_here k id).status.bytes
        → (k.handshakes.requests ≡ 0) ⊎ UndoesStatus l.undo → UndoesStatus m.undo
    undone e w u = by (link_crossed s k row n c l r en el)
      where
        by : LinkAfter s k.story l (message_out k.story.bus_state.dialogue c true)
            (message_in k.story.bus_state.dialogue c true) j.story.link
            → UndoesStatus m.undo
        by (says x f z) = none_some x (sym out ∙ f)
        by (hears x f g z) = subst UndoesStatus
            (sym (ap (λ (y : Link). y.undo) (same_Some m (heard_link s k.story l x) (sym em ∙ z)))) (own e w)
        by (stays f g z) = subst UndoesStatus (sym (ap (λ (y : Link). y.undo) (same_Some m l (sym em ∙ z)))) (at u)
          where
            at : (k.handshakes.requests ≡ 0) ⊎ UndoesStatus l.undo → UndoesStatus l.undo
            at (inl none) = none_some MsgIn.CommandComplete (sym g ∙ first e none)
            at (inr x) = x

-- ---- a byte of STATUS, and one of COMMAND and data

status_taken : (c : CarriedBytes) (b : LineSet) (byte : ℕ) → phase_of b ≡ Phase.Status
    → HasStatus (carried_after_byte c b byte).status.bytes
status_taken c b byte e = go b.msg b.cd b.io e
  where
    is_status : Phase → Bool
    is_status Phase.Status = true
    is_status _ = false

    go : (x d i : Bool) → (if x then (if i then Phase.MessageIn else Phase.MessageOut)
        else if d then (if i then Phase.Status else Phase.Command) else if i then Phase.DataIn else Phase.DataOut)
        ≡ Phase.Status
        → HasStatus
        (if not x && d && not i then record c { command = area_with c.command byte; block = c.block ++ byte ∷ [] }
        else if not x && not d then record c { moved = area_with c.moved byte }
        else if not x && d && i then record c { status = area_with c.status byte } else c).status.bytes
    go true d true z = wrong' (ap is_status z)
    go true d false z = wrong' (ap is_status z)
    go false true true z = taken_some c.status byte
    go false true false z = wrong' (ap is_status z)
    go false false true z = wrong' (ap is_status z)
    go false false false z = wrong' (ap is_status z)

status_line : (b : LineSet) → phase_of b ≡ Phase.Status → b.msg ≡ false
status_line b e = go b.msg b.cd b.io e
  where
    is_status : Phase → Bool
    is_status Phase.Status = true
    is_status _ = false

    go : (x d i : Bool) → (if x then (if i then Phase.MessageIn else Phase.MessageOut)
        else if d then (if i then Phase.Status else Phase.Command) else if i then Phase.DataIn else Phase.DataOut)
        ≡ Phase.Status → x ≡ false
    go true d true z = wrong' (ap is_status z)
    go true d false z = wrong' (ap is_status z)
    go false d i z = refl

-- The process that the initiator knows takes the byte.
takes_status : (s : ScenarioValue) (k : RunState) (row : Row) (n : Connection) (c : Change) (l : Link) (id : ProcId)
    → IsRowIn k row n c → is_some (receiver_in n c) ≡ true → k.story.link ≡ Some l → l.item ≡ Some (process id)
    → phase_of c.before ≡ Phase.Status → is_message_out c.before ≡ false → is_message_in c.before ≡ false
    → HasStatus (carried_here (run_state_after s k row) id).status.bytes
takes_status s k row n c l id r en el item here out into = events_on (Own id) s changed (row_events_by s k.story d row)
    (λ x e. subst (λ (y : ProcId). HasStatus (carried_of changed.carried y).status.bytes) (sym (id_is x id e))
    (subst (λ (y : CarriedBytes). HasStatus y.status.bytes) (sym path) (status_taken own c.before byte here))) id
    (self_id id)
  where
    d : RowReading
    d = row_reading k.story.bus_state row

    e : RowReading
    e = reading_in k.story.bus_state n c true

    changed : Story
    changed = story_by_change s k.story d row

    own : CarriedBytes
    own = carried_here k id

    byte : ℕ
    byte = c.after.data_bits % 256

    no_message_out : message_out k.story.bus_state.dialogue c true ≡ None
    no_message_out =
        ap (λ (q : Bool). if q then whole_out (got_out (fresh_bytes k.story.bus_state.dialogue ++ byte ∷ [])) else None)
        out

    no_message_in : message_in k.story.bus_state.dialogue c true ≡ None
    no_message_in =
        ap (λ (q : Bool). if q then whole_in (got_in (k.story.bus_state.dialogue.half ++ byte ∷ [])) else None) into

    is : changed ≡ story_after_byte k.story l e
    is = ap (λ (x : RowReading). story_by_change s k.story x row) (reading_is k row n c true r en)
        ∙ ap (λ (q : Bool). if q then record k.story { link = None }
        else story_on_bus s k.story k.story.bus_state.connection (Some n) e row) r.calm
        ∙ ap (λ (x : Option Connection). story_on_bus s k.story x (Some n) e row) r.connection_is
        ∙ ap (λ (x : Option Link). story_in_connection s k.story x e row) el
        ∙ (λ i. if is_some (no_message_out i) then story_after_out k.story l (no_message_out i)
        else if is_some (no_message_in i) then story_after_in s k.story l (no_message_in i)
        else story_after_byte k.story l e)

    path : carried_of changed.carried id ≡ carried_after_byte own c.before byte
    path = ap (λ (x : Story). carried_of x.carried id) is ∙ ap (λ (q : Bool). carried_of (if q then k.story
        else story_with_carried k.story (carried_after_byte_if (carried_if k.story l.item) e)).carried id)
        (status_line c.before here)
        ∙ ap (λ (o : Option Item). carried_of
        (story_with_carried k.story (carried_after_byte_if (carried_if k.story o) e)).carried id) item
        ∙ put_own k.story.carried (carried_after_byte own c.before byte) id
        (byte_id own c.before byte ∙ carried_id k.story.carried id)

pub else_talk : (s : ScenarioValue) (k : RunState) (row : Row) (n : Connection) (c : Change) (l m : Link) (id : ProcId)
    → IsRowIn k row n c → changes_phase c ≡ false → is_some (receiver_in n c) ≡ true → is_message_out c.before ≡ false
    → is_message_in c.before ≡ false → (c.before.msg ≡ true → c.before.cd ≡ true) → k.story.link ≡ Some l
    → (phase_of (bus_of k) ≡ Phase.Status → l.item ≡ Some (process id)) → TalksOf (run_state_after s k row) m id
else_talk s k row n c l m id r ep en out into lines el item = subst
    (CarriesBy m (carried_here j id).status.bytes j.exchange.plan j.handshakes.requests)
    (sym (t.phase ∙ ap phase_of r.bus_is)) (go (phase_of c.before) refl)
  where
    j : RunState
    j = run_state_after s k row

    t : Stays s k row n c true
    t = stays_as s k row n c true r ep en

    is_message : Phase → Bool
    is_message Phase.MessageIn = true
    is_message Phase.MessageOut = true
    is_message _ = false

    no_message : is_message (phase_of c.before) ≡ false
    no_message = by c.before.msg c.before.cd c.before.io out into lines
      where
        by : (x d i : Bool) → (x && d && not i) ≡ false → (x && d && i) ≡ false → (x ≡ true → d ≡ true)
            → is_message (if x then (if i then Phase.MessageIn else Phase.MessageOut)
            else if d then (if i then Phase.Status else Phase.Command) else if i then Phase.DataIn else Phase.DataOut)
            ≡ false
        by true true true a b f = wrong b
        by true true false a b f = wrong a
        by true false i a b f = wrong' (f refl)
        by false true true a b f = refl
        by false true false a b f = refl
        by false false true a b f = refl
        by false false false a b f = refl

    go : (x : Phase) → phase_of c.before ≡ x
        → CarriesBy m (carried_here j id).status.bytes j.exchange.plan j.handshakes.requests x
    go Phase.MessageOut e = wrong' (sym no_message ∙ ap is_message e)
    go Phase.MessageIn e = wrong' (sym no_message ∙ ap is_message e)
    go Phase.Status e = λ some. takes_status s k row n c l id r en el (item (ap phase_of r.bus_is ∙ e)) e out into
    go _ e = tt
