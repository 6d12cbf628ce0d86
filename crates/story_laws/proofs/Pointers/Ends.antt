-- The data pointers of the process that is served as its connection begins, as it ends, and as RST ends it.
use Rattle.story_laws.proofs
use proofs.Names.{ℕ, zero, suc, ◌≡◌, ◌+◌, ◌*◌, Bool, true, false, not, ◌&&◌, ◌∙◌, List, [], ◌∷◌, Option, Some, None}
use proofs.Names.{refl, sym, ap, subst, arith, true≢false, ◌==◌, list_any, if◌then◌else◌, is_some, plus_none, Event}
use proofs.Names.{ProcId, rises, Row, Connection, command_of, is_write, ScenarioValue, CmdDef, Process, process_of}
use proofs.Names.{process_if, process_by, command_at, sense_block, command_process, sense_process, row_reading}
use proofs.Names.{row_events_by, link_events, bus_free_events, Item, process, has_item, command_item, sense_item}
use proofs.Names.{is_open, Link, LastMessage, plain, Story, by_reset, story_with_over, story_with_end, story_with_ends}
use proofs.Names.{story_after_event, story_after_events, story_on_bus, story_by_change, phase_of, Cause, Phase}
use proofs.Names.{ProcessProgress, progress_in, RunState, bus_of, carried_here, run_state_after, progress_after}
use proofs.Names.{leaving_of, is_writing, self_id, plus_one, is_marked, run_policy, run_start, run_step, PointersOf}
use proofs.Names.{PointersIf, PointersAsked, PointersIn, PointersRefused, calm, restores, saves, saved, closes}
use proofs.Names.{still_calm, restores_again, saves_again, disconnects_again, closes_again, IsWaiting, ServedPointers}
use proofs.{Names.{unnamed, named, disconnects}, Pointers.Stories.{lost_over, over_put, ends_over, over_more}}
use proofs.Pointers.Waits.{SameSaved, ends_same}

-- ---- the connection ends

-- The saved pointer stands at the beginning of the next run; or a reply was shown; or the process is lost.
data Ended (s : ScenarioValue) (k : RunState) (q : Process) : Type 0 where
  stands : (carried_here k q.id).moved.saved ≡ run_start s k q → Ended s k q
  marked : is_marked (carried_here k q.id) ≡ true → Ended s k q
  loses : (l : Link) → k.story.link ≡ Some l → l.item ≡ Some (process q.id) → l.last ≡ plain → Ended s k q

ended : (s : ScenarioValue) (k : RunState) (q : Process) → ServedPointers s k q → Ended s k q
ended s k q (unnamed l el none h) = stands h.saved
ended s k q (named l el own h) = go k.exchange.begun h
  where
    into : PointersIn (run_policy s q) l
        (carried_here k q.id) k.exchange.plan.messages k.exchange.plan.next k.handshakes.requests (run_start s k q)
        → Ended s k q
    into (calm h) = stands h.here.saved
    into (restores em en u e w) = stands e
    into (saves em en u z e) = loses l el own u
    into (saved em en u b z e w) = stands e.saved
    into (disconnects em en e w) = stands e
    into (closes em en e w) = marked e

    refused : PointersRefused (run_policy s q) l
        (carried_here k q.id) k.exchange.plan.messages k.exchange.plan.next (run_start s k q)
        → Ended s k q
    refused (still_calm h) = stands h.here.saved
    refused (restores_again em en u e w) = stands e
    refused (saves_again em en u b e w) = loses l el own u
    refused (disconnects_again em en e w) = stands e
    refused (closes_again em en e w) = marked e

    asked : (cause : Cause)
        → PointersAsked (run_policy s q) l (carried_here k q.id) k.exchange.plan (run_start s k q) cause → Ended s k q
    asked Cause.Selected h = stands h.here.saved
    asked Cause.InMessage h = refused h
    asked Cause.InData h = stands h.1
    asked Cause.InStatus h = marked h

    phase : (x : Phase)
        → PointersOf (run_policy s q) l (carried_here k q.id) k.exchange.plan k.handshakes (run_start s k q) x
        → Ended s k q
    phase Phase.Command h = stands h.here.saved
    phase Phase.DataOut h = stands h.saved
    phase Phase.DataIn h = stands h.saved
    phase Phase.Status h = marked h
    phase Phase.MessageIn h = into h
    phase Phase.MessageOut h = asked k.exchange.plan.cause h

    go : (b : Bool) → PointersIf b (run_policy s q) l
        (carried_here k q.id) k.exchange.plan k.handshakes (run_start s k q) (phase_of (bus_of k))
        → Ended s k q
    go true h = phase (phase_of (bus_of k)) h
    go false h = stands h.here.saved

pub ends_wait : (s : ScenarioValue) (k : RunState) (row : Row) (n : Connection) (q : Process)
    → k.story.bus_state.connection ≡ Some n → (row_reading k.story.bus_state row).next ≡ None
    → (row_reading k.story.bus_state row).change.after.rst ≡ false → ServedPointers s k q
    → IsWaiting s (run_state_after s k row) q
ends_wait s k row n q con next off h = go (ended s k q h)
  where
    j : RunState
    j = run_state_after s k row

    same : SameSaved (carried_here j q.id) (carried_here k q.id)
    same = ends_same s k row n q.id con next

    start : run_start s j q ≡ run_start s k q
    start = ap (λ (x : List ProcessProgress). (progress_in x q.id).runs * run_step s q) (λ i. progress_after s k
        (row_reading k.story.bus_state row) (con i) (next i) (leaving_of s k k.story.bus_state.connection))

    lost : (l : Link) → k.story.link ≡ Some l → l.item ≡ Some (process q.id) → l.last ≡ plain
        → has_item j.story.sent.over (process q.id) ≡ true
    lost l el own last =
        let d = row_reading k.story.bus_state row in
        let c = story_by_change s k.story d row in
        ap (λ (x : List Event). has_item (story_after_events s c x).sent.over (process q.id))
        (ap (λ (x : Bool). if x then (if rises d.change.own.rst d.change.next.rst then Event.Reset row.dev ∷ [] else [])
        else link_events s k.story k.story.link d) off
        ∙ ap (λ (x : Option Link). link_events s k.story x d) el ∙ ap (λ (x : Option Connection).
        if is_some x then Rattle.due_model.specs.story_model.specs.HistoryEvents.connection_events s k.story l d
        else bus_free_events s l l.last) next ∙ ap (λ (x : LastMessage). bus_free_events s l x) last
        ∙ ap (λ (x : Option Item). Rattle.due_model.specs.story_model.specs.HistoryEvents.item_loss_events x) own)
        ∙ lost_over s c q.id

    go : Ended s k q → IsWaiting s j q
    go (stands e) = record { saved = λ o m. same.saved ∙ e ∙ sym start }
    go (marked e) = record { saved = λ o m. absurd (true≢false (sym (same.marked e) ∙ m)) }
    go (loses l el own last) = record { saved = λ o m. absurd (true≢false (sym (lost l el own last) ∙ o)) }

-- ---- RST ends it

write_sense : is_write (command_of sense_block) ≡ false
write_sense = refl

-- An automatic REQUEST SENSE does not write.
pub writer_plain : (s : ScenarioValue) (q : Process) → process_of s q.id ≡ Some q → is_writing q ≡ true
    → q.id.sense ≡ false
writer_plain s q e w = go (command_at s.commands q.id.command) q.id.sense refl e
  where
    go : (c : Option CmdDef) (b : Bool) → q.id.sense ≡ b → process_if s q.id c ≡ Some q → q.id.sense ≡ false
    go None b f g = none_some g
      where
        none_some : (let o : Option Process = None in o) ≡ Some q → q.id.sense ≡ false
        none_some z = absurd cc
    go (Some c) false f g = f
    go (Some c) true f g =
        let is : process_by s q.id c ≡ q = same (process_by s q.id c) g in
        let block : sense_block ≡ q.cdb = sym
        (ap (λ (b : Bool). let y : Process = if b then sense_process s q.id c else command_process s q.id c in y.cdb) f)
        ∙ ap (λ (t : Process). t.cdb) is in
        absurd (true≢false (sym w ∙ ap (λ (x : List ℕ). is_write (command_of x)) (sym block) ∙ write_sense))
      where
        same : (x : Process) → (let o : Option Process = Some x in o) ≡ Some q → x ≡ q
        same x z = cc

abbrev reset_step : ℕ → CmdDef → Story → Story
reset_step m c b =
    if is_open b.sent m && true then story_with_end b (record { command = m; sense = false }) by_reset
    else if true && list_any (λ k. k == m) b.sent.checks then story_with_over b (sense_item m)
    else b

step_sent : (m : ℕ) (c : CmdDef) (b : Story) → (reset_step m c b).sent.sent ≡ b.sent.sent
step_sent m c b = go (is_open b.sent m && true) (list_any (λ k. k == m) b.sent.checks)
  where
    go : (r q : Bool) → (if r then story_with_end b (record { command = m; sense = false }) by_reset
        else if q then story_with_over b (sense_item m) else b).sent.sent ≡ b.sent.sent
    go true q = refl
    go false true = refl
    go false false = refl

step_over : (m : ℕ) (c : CmdDef) (b : Story) → has_item b.sent.sent (command_item m) ≡ true
    → has_item (reset_step m c b).sent.over (command_item m) ≡ true
step_over m c b sent = go (has_item b.sent.over (command_item m)) refl (list_any (λ k. k == m) b.sent.checks)
  where
    was : (r q : Bool) → has_item b.sent.over (command_item m) ≡ true
        → has_item (if r then story_with_end b (record { command = m; sense = false }) by_reset
        else if q then story_with_over b (sense_item m) else b).sent.over (command_item m) ≡ true
    was true q e = over_more (command_item m) b.sent.over (command_item m) e
    was false true e = over_more (sense_item m) b.sent.over (command_item m) e
    was false false e = e

    go : (o : Bool) → has_item b.sent.over (command_item m) ≡ o → (q : Bool)
        → has_item (if (has_item b.sent.sent (command_item m) && not (has_item b.sent.over (command_item m))) && true
        then story_with_end b (record { command = m; sense = false }) by_reset
        else if q then story_with_over b (sense_item m) else b).sent.over (command_item m) ≡ true
    go true e q = was (is_open b.sent m && true) q e
    go false e q = (λ i. has_item
        (if (sent i && not (e i)) && true then story_with_end b (record { command = m; sense = false }) by_reset
        else if q then story_with_over b (sense_item m) else b).sent.over (command_item m))
        ∙ over_put b.sent.over (command_item m) (self_id (record { command = m; sense = false }))

pub reset_over : (commands : List CmdDef) (l i m : ℕ) (c : CmdDef) (b : Story) → m ≡ l + i
    → command_at commands (suc i) ≡ Some c → has_item b.sent.sent (command_item m) ≡ true
    → has_item (story_with_ends (λ c. true) (λ c. true) by_reset l commands b).sent.over (command_item m) ≡ true
reset_over [] l i m c b e f sent = absurd (none_some f)
  where
    none_some : (let o : Option CmdDef = None in o) ≡ Some c → ⊥
    none_some z = cc
reset_over (d ∷ commands) l zero m c b e f sent =
    let is : m ≡ l = e ∙ plus_none l in
    ends_over (λ c. true) (λ c. true) by_reset (l + 1) commands (reset_step l d b) (command_item m)
    (subst (λ (x : ℕ). has_item (reset_step l d b).sent.over (command_item x) ≡ true) (sym is)
    (step_over l d b (subst (λ (x : ℕ). has_item b.sent.sent (command_item x) ≡ true) is sent)))
reset_over (d ∷ commands) l (suc i) m c b e f sent = reset_over commands (l + 1) i m c (reset_step l d b)
    (e ∙ plus_one l i) f (ap (λ (x : List Item). has_item x (command_item m)) (step_sent l d b) ∙ sent)

-- With the row that raises RST a command that was sent is over.
pub command_over : (s : ScenarioValue) (k : RunState) (row : Row) (id : ProcId) (q : Process)
    → process_of s id ≡ Some q → id.sense ≡ false → has_item k.story.sent.sent (process id) ≡ true
    → (row_reading k.story.bus_state row).change.after.rst ≡ true
    → rises (row_reading k.story.bus_state row).change.own.rst (row_reading k.story.bus_state row).change.next.rst
    ≡ true → has_item (run_state_after s k row).story.sent.over (process id) ≡ true
command_over s k row id q own plain_is sent on raised = ap (λ (x : Story). has_item x.sent.over (process id)) made
    ∙ subst (λ (x : ProcId).
    has_item (story_after_event s (record k.story { link = None }) (Event.Reset row.dev)).sent.over (process x) ≡ true)
    (sym id_is) (number id.command refl)
  where
    id_is : id ≡ record { command = id.command; sense = false }
    id_is = λ i. record { command = id.command; sense = plain_is i }

    made : story_after_events s (story_by_change s k.story (row_reading k.story.bus_state row) row)
        (row_events_by s k.story (row_reading k.story.bus_state row) row)
        ≡ story_after_event s (record k.story { link = None }) (Event.Reset row.dev)
    made =
        let d = row_reading k.story.bus_state row in
        ap (λ (x : Bool). story_after_events s
        (if x then record k.story { link = None } else story_on_bus s k.story k.story.bus_state.connection d.next d row)
        (if x then (if rises d.change.own.rst d.change.next.rst then Event.Reset row.dev ∷ [] else [])
        else link_events s k.story k.story.link d)) on
        ∙ ap (λ (x : Bool). story_after_events s (record k.story { link = None })
        (if x then Event.Reset row.dev ∷ [] else [])) raised

    line : (o : Option CmdDef) → process_if s id o ≡ Some q → (c : CmdDef) × (o ≡ Some c)
    line None e = absurd (none_some e)
      where
        none_some : (let o : Option Process = None in o) ≡ Some q → ⊥
        none_some z = cc
    line (Some c) e = (c, refl)

    never_first : (cs : List CmdDef) (c : CmdDef) → command_at cs zero ≡ Some c → ⊥
    never_first [] c e = cc
    never_first (d ∷ cs) c e = cc

    number : (m : ℕ) → id.command ≡ m
        → has_item (story_after_event s (record k.story { link = None }) (Event.Reset row.dev)).sent.over
        (process (record { command = id.command; sense = false })) ≡ true
    number zero e =
        let l = line (command_at s.commands id.command) own in
        absurd (never_first s.commands l.0 (ap (λ (x : ℕ). command_at s.commands x) (sym e) ∙ l.1))
    number (suc i) e =
        let l = line (command_at s.commands id.command) own in
        reset_over s.commands 1 i id.command l.0 (record k.story { link = None })
        (e ∙ first i) (ap (λ (x : ℕ). command_at s.commands x) (sym e) ∙ l.1)
        (subst (λ (x : ProcId). has_item k.story.sent.sent (process x) ≡ true) id_is sent)
      where
        first : (x : ℕ) → suc x ≡ 1 + x
        first x = omega arith

-- And so is a process that writes.
pub rst_over : (s : ScenarioValue) (k : RunState) (row : Row) (q : Process) → process_of s q.id ≡ Some q
    → is_writing q ≡ true → has_item k.story.sent.sent (process q.id) ≡ true
    → (row_reading k.story.bus_state row).change.after.rst ≡ true
    → rises (row_reading k.story.bus_state row).change.own.rst (row_reading k.story.bus_state row).change.next.rst
    ≡ true → has_item (run_state_after s k row).story.sent.over (process q.id) ≡ true
rst_over s k row q own writes sent on raised =
    command_over s k row q.id q own (writer_plain s q own writes) sent on raised
