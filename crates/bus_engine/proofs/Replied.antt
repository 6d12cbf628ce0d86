-- Where each process that ran and ended has carried just the bytes that it moves, what came back to the initiators is
-- the reply: they have room for it (6.4, 7.3).
use Rattle.std.proofs.Common.{ℕ, suc, ◌≡◌, ◌+◌, ◌≤◌, ◌^◌, ◌-◌, Bool, true, false, not, ◌||◌, ◌∙◌, List, [], ◌∷◌, Option}
use Rattle.std.proofs.Common.{Some, None, refl, sym, ap, subst, arith, length, take, take_all, one-add}
use Rattle.std.specs.Prelude.{if◌then◌else◌, ◌==◌, min}
use Rattle.std.proofs.lemmas.Bool.{and_from, eq-eqb, eqb-true}
use Rattle.bus_base.specs.declared.Event.{Event}
use Rattle.bus_base.specs.declared.Event.TheVariants as events
use Rattle.bus_base.specs.declared.ProcId.{ProcId}
use Rattle.bus_base.proofs.Tests.{and_first, and_second, implication, implied, nil_of, plus_none, wrong', middle}
use Rattle.cdb_codec.specs.Cdb as Cdb
use Rattle.cdb_codec.specs.declared.replies.TheConstants.{SENSE_LEN}
use Rattle.cdb_codec.specs.declared.status.TheConstants.{GOOD}
use Rattle.scenario.specs.declared.value.CmdDef.{CmdDef}
use Rattle.scenario.specs.Lookups.{has_target}
use Rattle.scenario.specs.Needs.{is_write, need_of}
use Rattle.scenario.specs.Value.{ScenarioValue}
use Rattle.array_model.specs.ArrayHistory.{array_after, reply_in, reply_of}
use Rattle.array_model.specs.Execution.{Reply}
use Rattle.array_model.specs.Processes.{Process, command_at, process_by, process_if, process_of, same_id}
use Rattle.due_model.specs.story_model.specs.CarriedBytes.{CarriedBytes, carried_of}
use Rattle.due_model.specs.story_model.specs.Outcomes.{ending_of, has_end, reply_bytes_if}
use Rattle.due_model.specs.story_model.specs.Right.{all_carried, carried_by, has_run, is_carried, moved_bytes}
use Rattle.due_model.specs.story_model.specs.Right.{same_bytes}
use Rattle.due_model.specs.story_model.specs.Story.{Ending, Story, by_abort, by_loss, by_reset, by_status, unanswered}
use Rattle.due_model.specs.story_model.specs.Items.{sense_id, command_id}
use Rattle.due_model.specs.RunState.{RunState, array_of}
use Rattle.delivery_laws.specs.book_laws.proofs.Common.Lookups.{id_is}
use Rattle.due_model.specs.story_model.proofs.SameBytes.{bytes_are}
use Rattle.delivery_laws.specs.right_laws.proofs.Ran.Carried.{same_is}
use Rattle.initiator.specs.Causes.{has_status, is_status_of}
use Rattle.initiator.specs.Received.{room_of}
use Rattle.bus_engine.specs.Answers.{are_replied_from, is_good, is_replied, is_reply}
use Rattle.delivery_laws.proofs.Replies.Ends.{HasReply}
use Rattle.bus_engine.proofs.ListedReplies.{AreGiven}
use Rattle.delivery_laws.specs.row_laws.proofs.Common.Tests.{plus_one}
use Rattle.delivery_laws.proofs.Senses.Stopped.{end_status}

-- ---- what came, as far as there is room

took : (s : ScenarioValue) (c : CmdDef) (n : ℕ) (q : Bool) (r : Reply) → length r.bytes ≤ room_of s c q
    → take (room_of s c q) (moved_bytes (process_by s (record { command = n; sense = q }) c) r) ≡ r.bytes
took s c n true r few = take_all SENSE_LEN r.bytes few
took s c n false r few = go (is_write (Cdb.command_of c.cdb)) (r.status == GOOD) few
  where
    sent : List ℕ
    sent = (process_by s (record { command = n; sense = false }) c).sent

    most : ℕ
    most = min (need_of s c) (2 ^ 32 - 1)

    none : length r.bytes ≤ 0 → length r.bytes ≡ 0
    none k = omega (arith, k)

    go : (w g : Bool) → length r.bytes ≤ (if w then 0 else most)
        → take (if w then 0 else most) (if w then (if g then sent else []) else r.bytes) ≡ r.bytes
    go true g k = sym (nil_of r.bytes (none k))
    go false g k = take_all most r.bytes k

-- ---- an end in the history

carried_found : (s : ScenarioValue) (b : Story) (history : List Event) (id : ProcId) (status : ℕ)
    → all_carried s b history ≡ true → has_status history id status ≡ true
    → is_carried s b (events.End id status) ≡ true
carried_found s b [] id status all e = wrong' e
carried_found s b (x ∷ history) id status all e = go (is_status_of id status x) refl e
    (λ z. carried_found s b history id status (and_second (is_carried s b x) (all_carried s b history) all) z)
  where
    here : (y : Event) → is_status_of id status y ≡ true → is_carried s b y ≡ true
        → is_carried s b (events.End id status) ≡ true
    here (events.End p code) z h = subst (λ (k : ℕ). is_carried s b (events.End id k) ≡ true)
        (eqb-true code status (and_second (same_id p id) (code == status) z))
        (subst (λ (k : ProcId). is_carried s b (events.End k code) ≡ true)
        (id_is p id (and_first (same_id p id) (code == status) z)) h)
    here (events.Accept p) z h = wrong' z
    here (events.Refuse p) z h = wrong' z
    here (events.Run p) z h = wrong' z
    here (events.Fail p code) z h = wrong' z
    here (events.Lost p) z h = wrong' z
    here (events.Aborted i t m what) z h = wrong' z
    here (events.Reset dev) z h = wrong' z

    go : (q : Bool) → is_status_of id status x ≡ q → (q || has_status history id status) ≡ true
        → (has_status history id status ≡ true → is_carried s b (events.End id status) ≡ true)
        → is_carried s b (events.End id status) ≡ true
    go true z f rest = here x z (and_first (is_carried s b x) (all_carried s b history) all)
    go false z f rest = rest f

-- It carried what it moves.
moved_is : (s : ScenarioValue) (k : RunState) (id : ProcId) (c : CmdDef) (r : Reply) (status : ℕ)
    → command_at s.commands id.command ≡ Some c → array_after s k.story.history ≡ Some (array_of s k)
    → reply_in (array_of s k).replies id ≡ Some r → has_run k.story.history id ≡ true
    → is_carried s k.story (events.End id status) ≡ true
    → (carried_of k.story.carried id).moved.bytes ≡ moved_bytes (process_by s id c) r
moved_is s k id c r status at plays given ran e =
    let x : CarriedBytes = carried_of k.story.carried id in
    let p : Process = process_by s id c in
    let one = implied (has_run k.story.history id)
    (carried_by x (process_of s id) (reply_of (array_after s k.story.history) id) status) e ran in
    let same : carried_by x (process_of s id) (reply_of (array_after s k.story.history) id) status
    ≡ carried_by x (Some p) (Some r) status =
    (λ i. carried_by x (process_if s id (at i)) (reply_of (plays i) id) status)
    ∙ ap (λ (o : Option Reply). carried_by x (Some p) o status) given in
    bytes_are x.moved.bytes (moved_bytes p r) (middle (same_bytes x.command.bytes p.cdb)
    (same_bytes x.moved.bytes (moved_bytes p r)) (same_bytes x.status.bytes (status ∷ [])) (sym same ∙ one))

-- So what came is the reply.
came_is : (s : ScenarioValue) (k : RunState) (n : ℕ) (q : Bool) (c : CmdDef) (r : Reply) (status : ℕ)
    → command_at s.commands n ≡ Some c → array_after s k.story.history ≡ Some (array_of s k)
    → reply_in (array_of s k).replies (record { command = n; sense = q }) ≡ Some r
    → has_run k.story.history (record { command = n; sense = q }) ≡ true
    → is_carried s k.story (events.End (record { command = n; sense = q }) status) ≡ true
    → length r.bytes ≤ room_of s c q → is_reply s k.story c (record { command = n; sense = q }) ≡ true
came_is s k n q c r status at plays given ran e few =
    let id : ProcId = record { command = n; sense = q } in
    let told : reply_bytes_if (reply_of (array_after s k.story.history) id) ≡ r.bytes =
    (λ i. reply_bytes_if (reply_of (plays i) id)) ∙ ap reply_bytes_if given in
    same_is _ _ (ap (λ (x : List ℕ). take (room_of s c q) x) (moved_is s k id c r status at plays given ran e)
    ∙ took s c n q r few ∙ sym told)

-- ---- what is known of each end

-- An end that the history has is of a process with a reply of its status, and one of an automatic REQUEST SENSE is
-- GOOD.
pub record HaveReplies (s : ScenarioValue) (k : RunState) : Type 0 where
  pub plays : array_after s k.story.history ≡ Some (array_of s k)
  pub given : AreGiven s k.story.history (array_of s k).replies
  pub there : (n : ℕ) (c : CmdDef) → command_at s.commands n ≡ Some c → has_run k.story.history (command_id n) ≡ true
      → has_target s c.target ≡ true
  pub ends : (id : ProcId) (status : ℕ) → has_status k.story.history id status ≡ true → HasReply s k id status
  pub senses : (n : ℕ) (r : Reply) → reply_in (array_of s k).replies (sense_id n) ≡ Some r → r.status ≡ GOOD
  pub told : (n status : ℕ) → ending_of k.story.ended n ≡ Some (by_status status)
      → has_status k.story.history (command_id n) status ≡ true

came_good : (s : ScenarioValue) (k : RunState) (n : ℕ) (q : Bool) (c : CmdDef) (status : ℕ)
    → HaveReplies s k → command_at s.commands n ≡ Some c → all_carried s k.story k.story.history ≡ true
    → has_status k.story.history (record { command = n; sense = q }) status ≡ true
    → ((r : Reply) → reply_in (array_of s k).replies (record { command = n; sense = q }) ≡ Some r
    → status ≡ r.status → (r.status == GOOD) ≡ true)
    → ((r : Reply) → reply_in (array_of s k).replies (record { command = n; sense = q }) ≡ Some r
    → has_run k.story.history (record { command = n; sense = q }) ≡ true → length r.bytes ≤ room_of s c q)
    → is_reply s k.story c (record { command = n; sense = q }) ≡ true
came_good s k n q c status h at all e good few =
    let id : ProcId = record { command = n; sense = q } in
    let r = h.ends id status e in
    let ran = (h.given id r.reply r.reply_is).ran (good r.reply r.reply_is r.status_is) in
    came_is s k n q c r.reply status at h.plays r.reply_is ran (carried_found s k.story k.story.history id status all e)
    (few r.reply r.reply_is ran)

-- ---- a command

ended_good : (s : ScenarioValue) (k : RunState) (n : ℕ) (c : CmdDef) → HaveReplies s k
    → command_at s.commands n ≡ Some c → all_carried s k.story k.story.history ≡ true
    → is_good (ending_of k.story.ended n) ≡ true → is_reply s k.story c (command_id n) ≡ true
ended_good s k n c h at all e = go (ending_of k.story.ended n) refl e
  where
    few : (r : Reply) → reply_in (array_of s k).replies (command_id n) ≡ Some r
        → has_run k.story.history (command_id n) ≡ true → length r.bytes ≤ room_of s c false
    few r given ran = (h.given (command_id n) r given).room refl c at (h.there n c at ran)

    go : (o : Option Ending) → ending_of k.story.ended n ≡ o → is_good o ≡ true
        → is_reply s k.story c (command_id n) ≡ true
    go None z f = wrong' f
    go (Some (by_status status)) z f = came_good s k n false c status h at all (h.told n status z)
        (λ r given same. ap (λ (x : ℕ). x == GOOD) (sym same) ∙ f) few
    go (Some by_loss) z f = wrong' f
    go (Some by_reset) z f = wrong' f
    go (Some by_abort) z f = wrong' f
    go (Some unanswered) z f = wrong' f

sensed_good : (s : ScenarioValue) (k : RunState) (n : ℕ) (c : CmdDef) → HaveReplies s k
    → command_at s.commands n ≡ Some c → all_carried s k.story k.story.history ≡ true
    → has_end k.story.history (sense_id n) ≡ true → is_reply s k.story c (sense_id n) ≡ true
sensed_good s k n c h at all e =
    let w = end_status k.story.history (sense_id n) e in
    came_good s k n true c w.status h at all w.has (λ r given same. eq-eqb r.status GOOD (h.senses n r given))
    (λ r given ran. (h.given (sense_id n) r given).few refl)

replied : (s : ScenarioValue) (k : RunState) (n : ℕ) (c : CmdDef) → HaveReplies s k → command_at s.commands n ≡ Some c
    → all_carried s k.story k.story.history ≡ true → is_replied s k.story n c ≡ true
replied s k n c h at all = and_from (not (is_good (ending_of k.story.ended n)) || is_reply s k.story c (command_id n))
    (not (has_end k.story.history (sense_id n)) || is_reply s k.story c (sense_id n)) (implication
    (is_good (ending_of k.story.ended n)) (is_reply s k.story c (command_id n)) (ended_good s k n c h at all))
    (implication (has_end k.story.history (sense_id n)) (is_reply s k.story c (sense_id n))
    (sensed_good s k n c h at all))

-- ---- all commands

replied_from : (s : ScenarioValue) (k : RunState) (n : ℕ) (commands : List CmdDef) → HaveReplies s k
    → ((m : ℕ) (c : CmdDef) → command_at commands (suc m) ≡ Some c → command_at s.commands (n + m) ≡ Some c)
    → all_carried s k.story k.story.history ≡ true → are_replied_from s k.story n commands ≡ true
replied_from s k n [] h at all = refl
replied_from s k n (c ∷ commands) h at all = and_from
    (is_replied s k.story n c) (are_replied_from s k.story (n + 1) commands)
    (replied s k n c h (ap (λ (x : ℕ). command_at s.commands x) (sym (plus_none n)) ∙ at 0 c refl) all) (replied_from s
    k (n + 1) commands h (λ m d z. ap (λ (x : ℕ). command_at s.commands x) (sym (plus_one n m)) ∙ at (suc m) d z) all)

pub all_replied : (s : ScenarioValue) (k : RunState) → HaveReplies s k → all_carried s k.story k.story.history ≡ true
    → are_replied_from s k.story 1 s.commands ≡ true
all_replied s k h all =
    replied_from s k 1 s.commands h (λ m c z. ap (λ (x : ℕ). command_at s.commands x) (one-add m) ∙ z) all
