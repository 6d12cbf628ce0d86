-- A fault strikes a byte that crossed in the present phase.
use Rattle.trace_laws.proofs
use proofs.Names.{ℕ, ◌≡◌, Bool, true, false, not, ◌&&◌, ◌∙◌, List, [], ◌∷◌, Option, Some, None, refl, sym, ap, subst}
use proofs.Names.{if◌then◌else◌, is_some, wrong, wrong', ProcId, LineSet, is_command, is_data, is_fault, receiver}
use proofs.Names.{receiver_in, Kind, Drives, Fault, Row, Change, Connection, effect, PARITY_ERROR}
use proofs.Names.{INITIATOR_DETECTED_ERROR, ScenarioValue, carried_id, CarriedBytes, carried_of, carried_after_fault}
use proofs.Names.{carried_if, process, Link, story_with_carried, carried_after_fault_if, story_after_fault, phase_of}
use proofs.Names.{Phase, IsPlain, crossed, crossed_if, RunState, bus_of, carried_here, run_state, run_state_after}
use proofs.Names.{command_is, no_input, is_command_phase, put_own, IsRowIn, some_device, data_in_lines, is_data_phase}
use proofs.{Names.{LinkRow}, Failures.Bytes.{SameFail, same_fail, row_carries}}
use Rattle.story_laws.specs.row_laws.proofs.Lines.Rows as rows

-- ---- it strikes the byte of the last row

pub fault_receives : (s : ScenarioValue) (p : List Row) (row : Row) (n : Connection) → is_fault row.kind ≡ true
    → LinkRow s p n row → is_some (receiver p) ≡ true
fault_receives s p row n f' (rows.opens h b e) = wrong' (sym (ap (λ (w : Row). is_fault w.kind) e) ∙ f')
fault_receives s p row n f' (rows.strikes f bit h b got who e) = some_device (receiver p) row.dev got
fault_receives s p row n f' (rows.hands atn msg cd io y h b un e) =
    wrong' (sym (ap (λ (w : Row). is_fault w.kind) e) ∙ f')
fault_receives s p row n f' (rows.releases atn x msg cd h b un e) =
    wrong' (sym (ap (λ (w : Row). is_fault w.kind) e) ∙ f')
fault_receives s p row n f' (rows.answers atn to msg cd y h b un rose e) =
    wrong' (sym (ap (λ (w : Row). is_fault w.kind) e) ∙ f')
fault_receives s p row n f' (rows.ends_ack_in atn msg cd y h b un z e) =
    wrong' (sym (ap (λ (w : Row). is_fault w.kind) e) ∙ f')
fault_receives s p row n f' (rows.gives atn msg cd h b z e) = wrong' (sym (ap (λ (w : Row). is_fault w.kind) e) ∙ f')
fault_receives s p row n f' (rows.sends atn msg cd x h b z some e) =
    wrong' (sym (ap (λ (w : Row). is_fault w.kind) e) ∙ f')
fault_receives s p row n f' (rows.ends_ack_out atn msg cd x h b e) =
    wrong' (sym (ap (λ (w : Row). is_fault w.kind) e) ∙ f')
fault_receives s p row n f' (rows.answers_pulse req atn to y h b un z rose e) =
    wrong' (sym (ap (λ (w : Row). is_fault w.kind) e) ∙ f')
fault_receives s p row n f' (rows.ends_ack_pulse io req atn x y h b un z e) =
    wrong' (sym (ap (λ (w : Row). is_fault w.kind) e) ∙ f')
fault_receives s p row n f' (rows.drives_pulsed req atn x y h b z e) =
    wrong' (sym (ap (λ (w : Row). is_fault w.kind) e) ∙ f')
fault_receives s p row n f' (rows.sends_pulse req atn x h b z byte e) =
    wrong' (sym (ap (λ (w : Row). is_fault w.kind) e) ∙ f')
fault_receives s p row n f' (rows.offers atn x msg cd h b un e) =
    wrong' (sym (ap (λ (w : Row). is_fault w.kind) e) ∙ f')
fault_receives s p row n f' (rows.asks_first bsy atn msg cd io y h b un first e) =
    wrong' (sym (ap (λ (w : Row). is_fault w.kind) e) ∙ f')
fault_receives s p row n f' (rows.ends_req atn msg cd io x y h b un z e) =
    wrong' (sym (ap (λ (w : Row). is_fault w.kind) e) ∙ f')
fault_receives s p row n f' (rows.asks_next atn msg cd io y h b un z follows e) =
    wrong' (sym (ap (λ (w : Row). is_fault w.kind) e) ∙ f')
fault_receives s p row n f' (rows.leaves atn msg cd io x y h b known un zero follows e) =
    wrong' (sym (ap (λ (w : Row). is_fault w.kind) e) ∙ f')
fault_receives s p row n f' (rows.ends_req_pulse io ack atn x y h b un z e) =
    wrong' (sym (ap (λ (w : Row). is_fault w.kind) e) ∙ f')
fault_receives s p row n f' (rows.changes_pulsed ack atn y z h b un pulsed e) =
    wrong' (sym (ap (λ (w : Row). is_fault w.kind) e) ∙ f')
fault_receives s p row n f' (rows.asks_pulse io ack atn x y h b un z zero byte e) =
    wrong' (sym (ap (λ (w : Row). is_fault w.kind) e) ∙ f')

effect_receives : (p : List Row) → is_some (receiver p) ≡ true → is_some (crossed p) ≡ true
effect_receives [] e = wrong' e
effect_receives (row ∷ p) e = go (is_some (effect (row ∷ p)).receiver) e
  where
    go : (q : Bool) → q ≡ true → is_some (crossed_if q (effect (row ∷ p)).change) ≡ true
    go true z = refl
    go false z = wrong' z

pub fault_crossed : (s : ScenarioValue) (p : List Row) (row : Row) (n : Connection) → IsPlain s p (run_state s p)
    → is_fault row.kind ≡ true → LinkRow s p n row → is_some (run_state s p).story.bus_state.crossed ≡ true
fault_crossed s p row n pl f h =
    ap (λ (o : Option Change). is_some o) pl.crossed ∙ effect_receives p (fault_receives s p row n f h)

-- ---- in the present phase

abbrev pub CrossedHere : RunState → Type 0
CrossedHere k = (g : Change) → k.story.bus_state.crossed ≡ Some g → phase_of g.before ≡ phase_of (bus_of k)

-- ---- what it makes of the process

data_lines : (b : LineSet) → is_data b ≡ is_data_phase (phase_of b)
data_lines b = go b.msg b.cd b.io
  where
    go : (m d i : Bool) → (not m && not d) ≡ is_data_phase (if m then (if i then Phase.MessageIn else Phase.MessageOut)
        else if d then (if i then Phase.Status else Phase.Command) else if i then Phase.DataIn else Phase.DataOut)
    go true true true = refl
    go true true false = refl
    go true false true = refl
    go true false false = refl
    go false true true = refl
    go false true false = refl
    go false false true = refl
    go false false false = refl

-- By the phase.
abbrev pub Struck : CarriedBytes → CarriedBytes → Phase → Type 0
Struck c d Phase.Command = (d.struck ≡ true) × (d.failure ≡ Some PARITY_ERROR)
Struck c d Phase.DataOut = (d.struck ≡ c.struck) × (d.failure ≡ Some PARITY_ERROR)
Struck c d Phase.DataIn = (d.struck ≡ c.struck) × (d.failure ≡ Some INITIATOR_DETECTED_ERROR)
Struck c d _ = SameFail c d

struck_by : (c : CarriedBytes) (b : LineSet) (phase : Phase) → phase_of b ≡ phase
    → Struck c (carried_after_fault c b) phase
struck_by c b phase e =
    go phase e (is_command b) (command_is b ∙ ap is_command_phase e) (is_data b) (data_lines b ∙ ap is_data_phase e)
  where
    go : (f : Phase) → phase_of b ≡ f → (q : Bool) → q ≡ is_command_phase f → (r : Bool) → r ≡ is_data_phase f
        → Struck c (if q then record c { struck = true; failure = Some PARITY_ERROR }
        else if r then record c { failure = Some (if b.io then INITIATOR_DETECTED_ERROR else PARITY_ERROR) } else c) f
    go Phase.Command w true z r y = (refl, refl)
    go Phase.Command w false z r y = wrong' z
    go Phase.DataOut w true z r y = wrong z
    go Phase.DataOut w false z true y =
        (refl, λ i. Some (if no_input b w i then INITIATOR_DETECTED_ERROR else PARITY_ERROR))
    go Phase.DataOut w false z false y = wrong' y
    go Phase.DataIn w true z r y = wrong z
    go Phase.DataIn w false z true y =
        (refl, λ i. Some (if (data_in_lines b w).2 i then INITIATOR_DETECTED_ERROR else PARITY_ERROR))
    go Phase.DataIn w false z false y = wrong' y
    go Phase.MessageOut w true z r y = wrong z
    go Phase.MessageOut w false z true y = wrong y
    go Phase.MessageOut w false z false y = same_fail c
    go Phase.MessageIn w true z r y = wrong z
    go Phase.MessageIn w false z true y = wrong y
    go Phase.MessageIn w false z false y = same_fail c
    go Phase.Status w true z r y = wrong z
    go Phase.Status w false z true y = wrong y
    go Phase.Status w false z false y = same_fail c

struck_as : (c d e : CarriedBytes) (phase : Phase) → SameFail d e → Struck c d phase → Struck c e phase
struck_as c d e Phase.MessageOut w h = record { failure = w.failure ∙ h.failure; struck = w.struck ∙ h.struck }
struck_as c d e Phase.MessageIn w h = record { failure = w.failure ∙ h.failure; struck = w.struck ∙ h.struck }
struck_as c d e Phase.Status w h = record { failure = w.failure ∙ h.failure; struck = w.struck ∙ h.struck }
struck_as c d e _ w h = (w.struck ∙ h.0, w.failure ∙ h.1)

-- Of the process that the initiator knows.
pub fault_fails : (s : ScenarioValue) (k : RunState) (row : Row) (n : Connection) (c : Change) (l : Link) (id : ProcId)
    → IsRowIn k row n c → is_some (receiver_in n c) ≡ false → k.story.link ≡ Some l → l.item ≡ Some (process id)
    → is_fault row.kind ≡ true → is_some k.story.bus_state.crossed ≡ true → CrossedHere k
    → Struck (carried_here k id) (carried_here (run_state_after s k row) id) (phase_of (bus_of k))
fault_fails s k row n c l id r en link item ef some here = by_kind row.kind refl ef
  where
    j : RunState
    j = run_state_after s k row

    own : CarriedBytes
    own = carried_here k id

    by_crossed : (kind : Kind) → row.kind ≡ kind → (bit : ℕ) → kind ≡ Fault bit → (o : Option Change)
        → k.story.bus_state.crossed ≡ o → is_some o ≡ true → Struck own (carried_here j id) (phase_of (bus_of k))
    by_crossed kind ek bit eb None e z = wrong' z
    by_crossed kind ek bit eb (Some g) e z =
        let is : carried_of (story_after_fault k.story l row.kind).carried id ≡ carried_after_fault own g.before =
        (λ i. carried_of (story_after_fault k.story l ((ek ∙ eb) i)).carried id) ∙ (λ i. carried_of
        (story_with_carried k.story (carried_after_fault_if (carried_if k.story (item i)) (e i))).carried id)
        ∙ put_own k.story.carried (carried_after_fault own g.before) id
        (fault_id own g.before ∙ carried_id k.story.carried id) in
        struck_as own (carried_after_fault own g.before) (carried_here j id) (phase_of (bus_of k))
        (subst (λ (x : CarriedBytes). SameFail x (carried_here j id)) is (row_carries s k row n c false l r en link id))
        (struck_by own g.before (phase_of (bus_of k)) (here g e))
      where
        fault_id : (x : CarriedBytes) (b : LineSet) → (carried_after_fault x b).id ≡ x.id
        fault_id x b = go (is_command b) (is_data b)
          where
            go : (q t : Bool) → (if q then record x { struck = true; failure = Some PARITY_ERROR }
                else if t then record x { failure = Some (if b.io then INITIATOR_DETECTED_ERROR else PARITY_ERROR) }
                else x).id ≡ x.id
            go true t = refl
            go false true = refl
            go false false = refl

    by_kind : (kind : Kind) → row.kind ≡ kind → is_fault kind ≡ true
        → Struck own (carried_here j id) (phase_of (bus_of k))
    by_kind (Drives lines) ek z = wrong' z
    by_kind (Fault bit) ek z = by_crossed (Fault bit) ek bit refl k.story.bus_state.crossed refl some
