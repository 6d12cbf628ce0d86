-- The measure falls with the row that frees the bus: of the phases that were left one is, and those of a reselection
-- where DISCONNECT was said.
use Rattle.measure_laws.proofs
use proofs.Names.{inl, inr, ℕ, suc, ◌≡◌, ◌≢◌, ◌≤◌, ◌<◌, ◌⊎◌, ◌∙◌, Bool, true, false, ◌&&◌, List, [], ◌∷◌, length}
use proofs.Names.{Option, Some, None, refl, sym, ap, subst, arith, same_Some, ◌+◌, ◌-◌, ◌*◌, not, ◌==◌, drop}
use proofs.Names.{if◌then◌else◌, wrong, wrong', and_first, and_second, and_false, Event, ProcId, bus-fault, change_of}
use proofs.Names.{rises, LineSet, is_data, is_message_in, arbitration, call, call_goes_on, connection, connection_after}
use proofs.Names.{is_fault, bus, Kind, Drives, Fault, Row, Agreement, Change, Connection, Call, Calling, MsgIn}
use proofs.Names.{ScenarioValue, Obeys, CmdDef, HostDef, command_at, Process, process_if, process_of, same_bool}
use proofs.Names.{has_ended, Array, data_runs, row_reading, abort_line_at, abort_line_events, bus_free_events}
use proofs.Names.{is_complete, item_abort_events, item_loss_events, row_events_by, Item, command_id, command_item}
use proofs.Names.{is_open, abort, has_item, process, LastMessage, Link, abortive, complete, disconnect, plain, Story}
use proofs.Names.{story_after_events, story_by_change, story_on_bus, Exchange, bytes_of_messages, one_message, phase_of}
use proofs.Names.{answer_bytes, parity_error, Cause, Messages, Next, Phase, run_state_plain, progress_in, IsPrompt}
use proofs.Names.{AreOfDevices, IsPlain, RunState, bus_of, or_start, exchange_after, leaving_of, progress_after}
use proofs.Names.{run_state, served_after, Knows, Ends, RowOf, apart as row_apart, begins, row_ends, goes_on}
use proofs.Names.{under_reset, is_refusing, is_struck_phase, change_plain, least_is, BusStage, after_answer}
use proofs.Names.{after_arbitration, after_takeover, after_withdrawal, awaiting_answer, in_arbitration, in_reset}
use proofs.Names.{on_free_bus, with_both_ids, sides_are, AnyStage, any_apart, linked as any_linked, none_some}
use proofs.Names.{out_lines, by_bool, stage_of_connection, NextStood, link_connection, bsy_stands, is_plain, IsLeaving}
use proofs.Names.{IsServed, Tells, TellsAsLeft, of_abort, of_process, item_is, lost_over, self_item, refuses_later}
use proofs.Names.{ComplaintsBy, Refuses, EndsWell, LastBy, LastGiven, closed, closes, saves, still_stays, to_close}
use proofs.Names.{to_save, EndsHere, ends_low, ends_row, lost_by, lost_in, EndTold, end_told, free_shown, Whole}
use proofs.Names.{standing_next, steps, all_over, aborts_left, bytes_after, command_left, commands_left, future_left}
use proofs.Names.{is_in_data, open_left, resets_left, serves_item, measure, phase_left, reselection_if}
use proofs.Names.{sense_bytes_left, struck_left, after_next, after_refused, after_words, disconnects, phases_in}
use proofs.{Names.{phases_left, for_phase, for_reselection, for_fault, for_reset}, Connections.BeginFalls.{calm_resets}}
use proofs.{Connections.BeginFalls.{command_apart}, Lines.Futures.{but_one_command, command_lowers, command_waits}}
use proofs.Lines.{Futures.{future_falls, open_of}, Lowers.{EndFirst, events_lower, lowers_on, lowers_same, Lowers}}
use proofs.{Lines.Lowers.{aborts_lower}, Phases.Still.{shape}, Resets.Falls.{shape_free}}
use Rattle.progress_laws.specs.bus_laws.specs.Stages.{in_connection}
use Rattle.progress_laws.specs.story_laws.specs.LastTalks.{stays}

-- ---- after the row the bus is free

abbrev call_if : Bool → Call → Option Call → Option Call
call_if q c otherwise = if q then Some c else otherwise

abbrev connection_if_on : Bool → Connection → Option Connection
connection_if_on q n = if q then Some n else None

-- Where no call stood, none that has called stands.
no_calling : (p : List Row) (row : Row) (c : Call) (x : Calling) → call p ≡ None → call (row ∷ p) ≡ Some c
    → c.calling ≡ Some x → ⊥
no_calling p row c x none e f = go (bus (row ∷ p)).sel refl (rises (bus p).sel (bus (row ∷ p)).sel) refl
  where
    is : (q r : Bool) → (bus (row ∷ p)).sel ≡ q → rises (bus p).sel (bus (row ∷ p)).sel ≡ r
        → (if not q then None else call_if r (record { caller = row.dev; at = row.time; calling = None }) None) ≡ Some c
    is q r u v = sym (λ i. if not (u i) then None else call_if (v i)
        (record { caller = row.dev; at = row.time; calling = None }) (call_goes_on (none i) (change_of p row) row))
        ∙ e

    go : (q : Bool) → (bus (row ∷ p)).sel ≡ q → (r : Bool) → rises (bus p).sel (bus (row ∷ p)).sel ≡ r → ⊥
    go false u r v = none_some c (is false r u v)
    go true u false v = none_some c (is true false u v)
    go true u true v = none_some x (ap (λ (o : Call). o.calling) (same_Some _ c (is true true u v)) ∙ f)

pub record IsFreed (p : List Row) : Type 0 where
  pub call_is : call p ≡ None
  pub arbitration_is : arbitration p ≡ None

freed_stage : (s : ScenarioValue) (p : List Row) (row : Row) → call p ≡ None → (bus (row ∷ p)).bsy ≡ false
    → (bus (row ∷ p)).rst ≡ false → connection (row ∷ p) ≡ None → BusStage s (row ∷ p) → IsFreed (row ∷ p)
freed_stage s p row none bsy calm alone (on_free_bus h) =
    record { call_is = h.stands.call_is; arbitration_is = h.stands.arbitration_is }
freed_stage s p row none bsy calm alone (in_arbitration a h) =
    wrong (sym (ap (λ (l : LineSet). l.bsy) h.stands.bus_is) ∙ bsy)
freed_stage s p row none bsy calm alone (after_arbitration c t h) =
    wrong (sym (ap (λ (l : LineSet). l.bsy) h.stands.bus_is) ∙ bsy)
freed_stage s p row none bsy calm alone (with_both_ids m c k t0 t z h) =
    absurd (no_calling p row _ _ none h.stands.call_is refl)
freed_stage s p row none bsy calm alone (awaiting_answer v m c k t0 t1 t2 x h) =
    absurd (no_calling p row _ _ none h.here.stands.call_is refl)
freed_stage s p row none bsy calm alone (after_withdrawal v m c k t0 t1 t2 t3 z h) =
    absurd (no_calling p row _ _ none h.stands.call_is refl)
freed_stage s p row none bsy calm alone (after_answer m c k t0 t1 t2 t3 x h) =
    absurd (no_calling p row _ _ none h.here.stands.call_is refl)
freed_stage s p row none bsy calm alone (after_takeover c k t0 t1 t2 t3 t4 x z f h) =
    absurd (no_calling p row _ _ none h.here.stands.call_is refl)
freed_stage s p row none bsy calm alone (in_reset h) = wrong (sym h.reset ∙ calm)
freed_stage s p row none bsy calm alone (in_connection n f g h) = none_some n (sym alone ∙ f)

bsy_falls : (p : List Row) (row : Row) (n : Connection) → connection p ≡ Some n → connection (row ∷ p) ≡ None
    → (bus (row ∷ p)).bsy ≡ false
bsy_falls p row n con none = by_bool (bus (row ∷ p)).bsy (λ e. none_some n (sym none
    ∙ (λ i. connection_after (con i) (call p) (change_of p row) row) ∙ ap (λ (q : Bool). connection_if_on q n) e))
    (λ e. e)

-- ---- what is left of the phases pays

in_lines : (l : LineSet) → phase_of l ≡ Phase.MessageIn → (l.msg ≡ true → l.cd ≡ true) → is_message_in l ≡ true
in_lines l e known = go l.msg refl l.io refl l.cd refl
  where
    is_in : Phase → Bool
    is_in Phase.MessageIn = true
    is_in _ = false

    at : (m c i : Bool) → l.msg ≡ m → l.cd ≡ c → l.io ≡ i
        → is_in (if m then (if i then Phase.MessageIn else Phase.MessageOut)
        else if c then (if i then Phase.Status else Phase.Command) else if i then Phase.DataIn else Phase.DataOut)
        ≡ true
    at m c i x y z = ap is_in ((λ t. if sym x t then (if sym z t then Phase.MessageIn else Phase.MessageOut)
        else if sym y t then (if sym z t then Phase.Status else Phase.Command)
        else if sym z t then Phase.DataIn else Phase.DataOut) ∙ e)

    go : (m : Bool) → l.msg ≡ m → (i : Bool) → l.io ≡ i → (c : Bool) → l.cd ≡ c → is_message_in l ≡ true
    go true x true z c y = λ t. x t && known x t && z t
    go true x false z c y = wrong' (at true c false x y z)
    go false x true z true y = wrong' (at false true true x y z)
    go false x true z false y = wrong' (at false false true x y z)
    go false x false z true y = wrong' (at false true false x y z)
    go false x false z false y = wrong' (at false false false x y z)

words_apart : {A : Type 0} (h : Option HostDef) (a : Agreement) (w : List ℕ) → w ≡ parity_error → w ≡ answer_bytes h a
    → A
words_apart h a w e f = wrong (sym (ap first_is_nine e) ∙ ap first_is_nine f)
  where
    first_is_nine : List ℕ → Bool
    first_is_nine [] = false
    first_is_nine (b ∷ bytes) = b == 9

words_pay : (refusing : Bool) (k : RunState) (c : Cause) → Refuses refusing k c
    → (c ≡ Cause.InMessage → (k.exchange.plan.next ≡ Next.Command) ⊎ (k.exchange.speech.words ≡ parity_error))
    → 1 ≤ after_words refusing k.exchange.plan c
words_pay refusing k Cause.Selected r later = omega arith
words_pay true k Cause.InMessage r later = omega arith
words_pay false k Cause.InMessage r later = elim (later refl) [
  | inl z ↦ subst (λ (x : Next). 1 ≤ after_refused false (record k.exchange.plan { next = x })) (sym z) (omega arith)
  | inr z ↦ elim r [
    | inl x ↦ wrong' x
    | inr x ↦ words_apart x.0 x.1 k.exchange.speech.words z x.2
  ]
]
words_pay true k Cause.InData r later = omega arith
words_pay false k Cause.InData r later = wrong' r
words_pay true k Cause.InStatus r later = omega arith
words_pay false k Cause.InStatus r later = wrong' r

messages_pay : (m : Messages) (next : Next) → 1 ≤ after_next m next
messages_pay m Next.FreeBus = omega arith
messages_pay m _ = omega arith

pub phases_pay : (refusing : Bool) (k : RunState) (phase : Phase)
    → (phase ≡ Phase.MessageOut → Refuses refusing k k.exchange.plan.cause)
    → (phase ≡ Phase.MessageOut → k.exchange.plan.cause ≡ Cause.InMessage
    → (k.exchange.plan.next ≡ Next.Command) ⊎ (k.exchange.speech.words ≡ parity_error))
    → 1 ≤ phases_in refusing k.exchange.plan phase
phases_pay refusing k Phase.MessageOut r later = words_pay refusing k k.exchange.plan.cause (r refl) (later refl)
phases_pay refusing k Phase.MessageIn r later = messages_pay k.exchange.plan.messages k.exchange.plan.next
phases_pay refusing k _ r later = omega arith

-- ---- what is still to come, as the target lets its process go

pub record LetsGo (s : ScenarioValue) (j k : RunState) : Type 0 where
  pub sent : Lowers k.story.sent j.story.sent
  pub served : j.served ≡ None
  pub still : is_in_data j ≡ false
  pub progress : j.progress ≡ k.progress
  pub resets : resets_left j s.resets ≡ resets_left k s.resets
  pub faults : j.faults ≡ k.faults

open_after : (s : ScenarioValue) (j k : RunState) (m : ℕ) (c : CmdDef) → LetsGo s j k
    → open_of s j m c ≡ open_left s false false (progress_in k.progress (command_id m)).runs c
open_after s j k m c h = λ i. open_left s (serves_item (h.served i) (command_item m)) (h.still i)
    (progress_in (h.progress i) (command_id m)).runs c

other_open : (s : ScenarioValue) (j k : RunState) (m : ℕ) (c : CmdDef) → LetsGo s j k
    → serves_item k.served (command_item m) ≡ false → open_of s j m c ≤ open_of s k m c
other_open s j k m c h e =
    let after = open_after s j k m c h in
    let before : open_of s k m c ≡ open_left s false false (progress_in k.progress (command_id m)).runs c = ap
    (λ (q : Bool). open_left s q (is_in_data k) (progress_in k.progress (command_id m)).runs c) e in
    omega arith

-- No command stays open that was served.
pub none_waits : (s : ScenarioValue) (j k : RunState) → LetsGo s j k
    → ((m : ℕ) → serves_item k.served (command_item m) ≡ true → is_open j.story.sent m ≡ true → ⊥)
    → future_left s j ≤ future_left s k
none_waits s j k h none_open = zero_less _ _ (future_falls s j k 0 (record {
  sent = h.sent;
  «open» = λ m c at o. by m c o (serves_item k.served (command_item m)) refl;
  resets = let e = h.resets in omega arith;
  faults = h.faults;
}))
  where
    zero_less : (a b : ℕ) → a + 64 * 0 ≤ b → a ≤ b
    zero_less a b h = omega arith

    by : (m : ℕ) (c : CmdDef) → is_open j.story.sent m ≡ true → (q : Bool) → serves_item k.served (command_item m) ≡ q
        → open_of s j m c ≤ open_of s k m c
    by m c o true e = absurd (none_open m e o)
    by m c o false e = other_open s j k m c h e

-- The one that was served waits for a reselection.
pub one_waits : (s : ScenarioValue) (j k : RunState) (m : ℕ) (c : CmdDef) → LetsGo s j k
    → command_at s.commands m ≡ Some c → k.served ≡ Some (command_item m) → is_in_data k ≡ false
    → future_left s j ≤ future_left s k + 1024
one_waits s j k m c h at served moves =
    let same : for_fault s * length j.faults ≡ for_fault s * length k.faults = λ i. for_fault s * length (h.faults i) in
    let commands = but_one_command s j k 0 1024 m c at others own in
    let aborts = aborts_lower s k.story.sent j.story.sent 1 s.aborts h.sent in
    subst (λ (w : ℕ).
    commands_left s j 1 s.commands + aborts_left s j.story.sent 1 s.aborts + for_reset * resets_left j s.resets + w
    ≤ future_left s k + 1024) (sym same) (sum (commands_left s j 1 s.commands) (commands_left s k 1 s.commands)
    (aborts_left s j.story.sent 1 s.aborts) (aborts_left s k.story.sent 1 s.aborts) (resets_left j s.resets)
    (resets_left k s.resets) (for_fault s * length k.faults) commands aborts h.resets)
  where
    sum : (c d a b r q f : ℕ) → c + 0 ≤ d + 1024 → a ≤ b → r ≡ q → c + a + 64 * r + f ≤ d + b + 64 * q + f + 1024
    sum c d a b r q f x y z = omega arith

    others : (l : ℕ) (d : CmdDef) → command_at s.commands l ≡ Some d → l ≢ m
        → command_left s j l d ≤ command_left s k l d
    others l d f ne = command_lowers s j k l d h.sent (λ o. other_open s j k l d h
        (ap (λ (x : Option Item). serves_item x (command_item l)) served ∙ command_apart m l ne))

    own : command_left s j m c + 0 ≤ command_left s k m c + 1024
    own = plain _ _ (command_waits s j k 1024 m c h.sent (λ o. wait))
      where
        plain : (a b : ℕ) → a ≤ b → a + 0 ≤ b
        plain a b h = omega arith

        by : (r l y : ℕ) → 1024 * (r - l + 1) + 8 * y + 4096 ≤ 1024 * (r - l + 0) + 8 * y + 4096 + 1024
        by r l y = omega arith

        wait : open_of s j m c ≤ open_of s k m c + 1024
        wait =
            let after = open_after s j k m c h in
            let before : open_of s k m c ≡ open_left s true false (progress_in k.progress (command_id m)).runs c =
            (λ i. open_left s (serves_item (served i) (command_item m))
            (moves i) (progress_in k.progress (command_id m)).runs c)
            ∙ ap (λ (q : Bool). open_left s q false (progress_in k.progress (command_id m)).runs c)
            (self_item (command_item m)) in
            let w = by (data_runs s c) (progress_in k.progress (command_id m)).runs
            (bytes_after s c ((progress_in k.progress (command_id m)).runs + 0)) in
            chain (open_of s j m c) (open_left s false false (progress_in k.progress (command_id m)).runs c)
            (open_left s true false (progress_in k.progress (command_id m)).runs c) (open_of s k m c) after before w
          where
            chain : (a x y b : ℕ) → a ≡ x → b ≡ y → x ≤ y + 1024 → a ≤ b + 1024
            chain a x y b e f h = omega arith

-- ---- the row

ends_of : (s : ScenarioValue) (k : RunState) (row : Row) (n : Connection)
    → k.story.bus_state.connection ≡ Some n → (row_reading k.story.bus_state row).change.after.bsy ≡ false
    → (row_reading k.story.bus_state row).change.after.rst ≡ false → RowOf s k row → Ends s k row n
ends_of s k row n con quiet calm (row_apart e f) = none_some n (sym e ∙ con)
ends_of s k row n con quiet calm (begins m b) = none_some n (sym b.first.connection_is ∙ con)
ends_of s k row n con quiet calm (goes_on m c g) =
    wrong (sym g.row_is.stands ∙ ap (λ (x : Change). x.after.bsy) (sym g.row_is.change_is) ∙ quiet)
ends_of s k row n con quiet calm (row_ends m g) =
    subst (λ (x : Connection). Ends s k row x) (same_Some m n (sym g.connection_is ∙ con)) g
ends_of s k row n con quiet calm (under_reset r e) = wrong (sym r ∙ calm)

-- A fault row leaves the bus as it was.
of_lines : (p : List Row) (row : Row) (n : Connection) → connection p ≡ Some n → (bus (row ∷ p)).bsy ≡ false
    → is_fault row.kind ≡ false
of_lines p row n con quiet = go row.kind refl
  where
    go : (kind : Kind) → row.kind ≡ kind → is_fault row.kind ≡ false
    go (Drives l) e = ap is_fault e
    go (Fault bit) e =
        none_some n (sym (bsy_stands p (ap (λ (l : LineSet). l.bsy) (sym (bus-fault row p bit e)) ∙ quiet)) ∙ con)

-- With the end of a connection an item is lost, or those that an abort ends are; or nothing is told.
end_first : (s : ScenarioValue) (b : Story) (l : Link) (last : LastMessage) → EndFirst s b (bus_free_events s l last)
end_first s b l plain = by l.item
  where
    by : (o : Option Item) → EndFirst s b (item_loss_events o)
    by None = tt
    by (Some (process id)) = (tt, tt)
    by (Some (abort m)) = tt
end_first s b l complete = tt
end_first s b l disconnect = tt
end_first s b l abortive = by l.item
  where
    by : (o : Option Item) → EndFirst s b (item_abort_events s o)
    by None = tt
    by (Some (process id)) = tt
    by (Some (abort m)) =
        elim (abort_line_at s.aborts m) as (λ o. EndFirst s b (abort_line_events o)) [ None ↦ tt | Some a ↦ (tt, tt) ]

-- DISCONNECT was said, where the last message said so; and the command is over, where it said that.
says_disconnect : (l : Link) (m : Messages) (next : Next) (count : ℕ) → LastGiven l m next count → l.last ≡ disconnect
    → disconnects m ≡ true
says_disconnect l m next count (still_stays f o z) e = wrong (sym (ap is_plain z) ∙ ap is_plain e)
says_disconnect l m next count (to_close f x g h c z) e = wrong (sym (ap is_plain z) ∙ ap is_plain e)
says_disconnect l m next count (to_save f g c z) e = wrong (sym (ap is_plain z) ∙ ap is_plain e)
says_disconnect l m next count (closed f ends c z completes) e = by ends
  where
    by : EndsWell m next → disconnects m ≡ true
    by (stays g o) = wrong (sym f ∙ g)
    by (closes g x is (inl w)) = wrong (sym (ap is_complete (completes.1 (is ∙ ap one_message w))) ∙ ap is_complete e)
    by (closes g x is (inr w)) = ap disconnects (is ∙ ap one_message w)
    by (saves g is) = ap disconnects is

says_complete : (l : Link) (m : Messages) (next : Next) (count : ℕ) → LastGiven l m next count → l.last ≡ complete
    → (m ≡ one_message MsgIn.CommandComplete) × (count ≡ 1)
says_complete l m next count (still_stays f o z) e = wrong (sym (ap is_plain z) ∙ ap is_plain e)
says_complete l m next count (to_close f x g h c z) e = wrong (sym (ap is_plain z) ∙ ap is_plain e)
says_complete l m next count (to_save f g c z) e = wrong (sym (ap is_plain z) ∙ ap is_plain e)
says_complete l m next count (closed f ends c z completes) e =
    let is = completes.0 e in
    (is, c ∙ ap (λ (x : Messages). length (bytes_of_messages x)) is)

ended_less : (f g a m : ℕ) → f ≤ g → 1 ≤ a → g + 40 + a ≤ m → suc (f + 40 + 0) ≤ m
ended_less f g a m h e w = omega arith

waited_less : (f g a m : ℕ) → f ≤ g + 1024 → a ≡ 128 + 1024 → g + 40 + a ≤ m → suc (f + 40 + 0) ≤ m
waited_less f g a m h e w = omega arith

pub end_falls : (s : ScenarioValue) (p : List Row) (row : Row) (n : Connection) → Obeys s → IsPrompt s (row ∷ p)
    → Whole s p → connection p ≡ Some n → connection (row ∷ p) ≡ None → (bus p).rst ≡ false
    → (bus (row ∷ p)).rst ≡ false → suc (measure s (row ∷ p)) ≤ measure s p
end_falls s p row n o prompt was con none off calm = go tells.served
  where
    q : List Row
    q = row ∷ p

    j : RunState
    j = run_state s q

    k : RunState
    k = run_state s p

    dv : AreOfDevices p
    dv = was.stood.standing.devices

    lt : row.dev < 8
    lt = (least_is s p row prompt.1).inside

    pj : IsPlain s q j
    pj = run_state_plain s q (lt, dv)

    change : (row_reading k.story.bus_state row).change ≡ change_of p row
    change = change_plain s row p dv lt

    quiet : (bus q).bsy ≡ false
    quiet = bsy_falls p row n con none

    nx : NextStood s p row
    nx = standing_next s p row o prompt was

    after : (row_reading k.story.bus_state row).change.after.rst ≡ false
    after = ap (λ (x : Change). x.after.rst) change ∙ calm

    g : Ends s k row n
    g = ends_of s k row n (was.stood.plain.connection ∙ con)
        (ap (λ (x : Change). x.after.bsy) change ∙ quiet) after nx.row_is

    h : EndsHere s p row n
    h = ends_row s p row n o prompt was.stood g after

    begun : k.exchange.begun ≡ true
    begun = h.plain_is.begun ∙ h.stops.begun_is

    leaving : IsLeaving s p row n
    leaving = record { stands = con; calm = off; calm_after = calm; begun = begun; leaves = inr g.next_is }

    all_tells : TellsAsLeft s p row
    all_tells = (steps s p row o prompt was).tells

    tells : Tells s k n
    tells = all_tells n leaving

    knows : Knows s k n
    knows = was.stood.books.knows n g.connection_is g.calm

    l : Link
    l = knows.link

    told : EndTold k l
    told = end_told s p row n l o prompt was.stood was.places all_tells g after knows.link_is

    lines : is_fault row.kind ≡ false
    lines = of_lines p row n con quiet

    changed : Story
    changed = story_by_change s k.story (row_reading k.story.bus_state row) row

    same_sent : changed.sent ≡ k.story.sent
    same_sent = ap (λ (b : Bool).
        (if b then record k.story { link = None } else story_on_bus s k.story k.story.bus_state.connection
        (row_reading k.story.bus_state row).next (row_reading k.story.bus_state row) row).sent) after
        ∙ (λ i. (story_on_bus s k.story (g.connection_is i) (g.next_is i) (row_reading k.story.bus_state row) row).sent)

    shown : row_events_by s k.story (row_reading k.story.bus_state row) row ≡ bus_free_events s l l.last
    shown = free_shown s k row l knows.link_is after g.next_is

    sent : Lowers k.story.sent j.story.sent
    sent = lowers_on k.story.sent changed.sent j.story.sent (lowers_same k.story.sent changed.sent same_sent)
        (subst (λ (x : List Event). Lowers changed.sent (story_after_events s changed x).sent) (sym shown)
        (events_lower s changed (bus_free_events s l l.last) (end_first s changed l l.last)))

    freed : LetsGo s j k
    freed = record {
      sent = sent;
      served = λ i. served_after s k (g.connection_is i) (g.next_is i);
      still = ap (λ (x : Exchange). x.begun && is_data (bus_of j))
          (λ i. exchange_after s k row (row_reading k.story.bus_state row) (g.connection_is i) (g.next_is i)
          (leaving_of s k k.story.bus_state.connection));
      progress = λ i. progress_after s k (row_reading k.story.bus_state row) (g.connection_is i) (g.next_is i)
          (leaving_of s k k.story.bus_state.connection);
      resets = calm_resets s p row dv lt lines off calm;
      faults = ap (λ (b : Bool). if b then drop 1 k.faults else k.faults) lines;
    }

    called : call p ≡ None
    called = (sides_are s p n (stage_of_connection s p n was.stood con off)).1.stands.call_is

    free : IsFreed q
    free = by nx.stood.here
      where
        by : AnyStage s q → IsFreed q
        by (any_apart x alone) = freed_stage s p row called quiet calm none x
        by (any_linked m x) = none_some m (sym none ∙ link_connection s q m x)

    next_shape : measure s q ≡ future_left s j + 40 + 0
    next_shape = shape_free s j (is_struck_phase s q) (is_refusing s q) (ap (λ (x : LineSet). x.rst) pj.bus ∙ calm)
        (pj.connection ∙ none) (pj.call ∙ free.call_is) (pj.arbitration ∙ free.arbitration_is)

    ahead : ℕ
    ahead = phases_in (is_refusing s p) k.exchange.plan (phase_of (bus_of k))

    before_shape : measure s p ≡ future_left s k + 40 + (phases_left (is_refusing s p) k + phase_left s k n
        + sense_bytes_left (is_in_data k) k.progress k.served + struck_left s (is_struck_phase s p))
    before_shape = shape s k (is_struck_phase s p) (is_refusing s p) n
        (ap (λ (x : LineSet). x.rst) was.stood.plain.bus ∙ off) (was.stood.plain.connection ∙ con)

    enough : future_left s k + 40 + ahead ≤ measure s p
    enough = add (measure s p) (future_left s k) ahead (phases_left (is_refusing s p) k) (phase_left s k n)
        (sense_bytes_left (is_in_data k) k.progress k.served) (struck_left s (is_struck_phase s p)) before_shape
        (ap (λ (b : Bool). if b then ahead else for_reselection + 8 * for_phase) begun)
      where
        add : (m f a l x y z : ℕ) → m ≡ f + 40 + (l + x + y + z) → l ≡ a → f + 40 + a ≤ m
        add m f a l x y z e d = omega arith

    complaints : ComplaintsBy s p k
    complaints = was.complaints n con off begun

    pays : 1 ≤ ahead
    pays = phases_pay (is_refusing s p) k (phase_of (bus_of k)) (λ z. complaints.refuses z)
        (λ z c. refuses_later s p n was.facts.offers con off begun (out_lines (bus_of k) z h.known) c)

    -- No command stays open.
    ended : ((m : ℕ) → serves_item k.served (command_item m) ≡ true → is_open j.story.sent m ≡ true → ⊥)
        → suc (measure s q) ≤ measure s p
    ended none_open = subst (λ (x : ℕ). suc x ≤ measure s p) (sym next_shape) (ended_less (future_left s j)
        (future_left s k) ahead (measure s p) (none_waits s j k freed none_open) pays enough)

    -- The command of the process is open after the row: it says DISCONNECT.
    over_next : (m : ℕ) → is_open j.story.sent m ≡ true → has_item j.story.sent.over (command_item m) ≡ true → ⊥
    over_next m e z = wrong (sym
        (and_second (has_item j.story.sent.sent (command_item m)) (not (has_item j.story.sent.over (command_item m))) e)
        ∙ ap not z)

    lost : (id : ProcId) → k.served ≡ Some (process id) → (phase_of (bus_of k) ≡ Phase.MessageIn → ⊥)
        → has_item j.story.sent.over (process id) ≡ true
    lost id sv other =
        let last = lost_by s p n l id was.stood was.facts.last {row = row} g knows.link_is sv other
        (λ z. lost_in s p row n l id o prompt was.stood was.facts.last g after knows.link_is sv z) begun in
        ap (λ (x : List Event). has_item (story_after_events s changed x).sent.over (process id))
        (shown ∙ ap (λ (x : LastMessage). bus_free_events s l x) last ∙ ap item_loss_events (told.named id sv))
        ∙ lost_over s changed id

    given : (id : ProcId) → k.served ≡ Some (process id) → phase_of (bus_of k) ≡ Phase.MessageIn
        → LastGiven l k.exchange.plan.messages k.exchange.plan.next k.handshakes.requests
    given id sv e =
        subst (λ (x : Phase). LastBy l k.exchange.plan k.handshakes.requests k.story.bus_state.dialogue.is_last x) e
        (((was.facts.last n con off).0 l id knows.link_is sv).begun begun)

    completed : (id : ProcId) → k.served ≡ Some (process id) → phase_of (bus_of k) ≡ Phase.MessageIn → l.last ≡ complete
        → has_item j.story.sent.over (process id) ≡ true
    completed id sv e c =
        let w = says_complete l k.exchange.plan.messages k.exchange.plan.next k.handshakes.requests (given id sv e) c in
        let here : is_message_in (bus_of k) ≡ true = in_lines (bus_of k) e h.known in
        let asked : (k.handshakes.requests == 0) ≡ false = ap (λ (x : ℕ). x == 0) w.1 in
        let low : (bus_of k).req ≡ false = ap (λ (x : LineSet). x.req) was.stood.plain.bus ∙ h.stops.low in
        let b = was.closes n con off in
        let answered = b.counts.given here asked (ap (λ (x : Bool). x && not (bus_of k).ack) low) in
        let at : k.array ≡ Some was.places.array = was.places.array_is in
        let done : has_ended was.places.array id ≡ true =
        ap (λ (a : Option Array). has_ended (or_start s a) id) (sym at)
        ∙ b.ended id sv here w.0 answered (ends_low s p row n o prompt was.stood g after e) in
        sent.over (process id) (all_over s p was.places.array at id done)

    waits : (id : ProcId) (x : Process) → k.served ≡ Some (process id) → process_of s id ≡ Some x
        → id.sense ≡ false → is_open j.story.sent id.command ≡ true → (z : Phase) → phase_of (bus_of k) ≡ z
        → suc (measure s q) ≤ measure s p
    waits id x sv is command opens z e = by z e
      where
        own : process id ≡ command_item id.command
        own = λ i. process (record { command = id.command; sense = command i })

        not_over : has_item j.story.sent.over (process id) ≡ true → suc (measure s q) ≤ measure s p
        not_over y = absurd (over_next id.command opens (ap (has_item j.story.sent.over) (sym own) ∙ y))

        is_in : Phase → Bool
        is_in Phase.MessageIn = true
        is_in _ = false

        other : (y : Phase) → phase_of (bus_of k) ≡ y → is_in y ≡ false → suc (measure s q) ≤ measure s p
        other y f away = not_over (lost id sv (λ w. wrong (sym (ap is_in (sym f ∙ w)) ∙ away)))

        found : (c : Option CmdDef) → command_at s.commands id.command ≡ c → process_if s id c ≡ Some x
            → (d : CmdDef) × (command_at s.commands id.command ≡ Some d)
        found None u v = none_some x v
        found (Some d) u v = (d, u)

        by : (y : Phase) → phase_of (bus_of k) ≡ y → suc (measure s q) ≤ measure s p
        by Phase.MessageIn f = elim (told.closing id sv f) [
          | inl c ↦ not_over (completed id sv f c)
          | inr c ↦
              let d = says_disconnect l k.exchange.plan.messages k.exchange.plan.next k.handshakes.requests
              (given id sv f) c in
              let here : is_message_in (bus_of k) ≡ true = in_lines (bus_of k) f h.known in
              let still : is_in_data k ≡ false = not_data k.exchange.begun (bus_of k) here in
              let amount : ahead ≡ 128 + 1024 = ap (λ (y : Phase). phases_in (is_refusing s p) k.exchange.plan y) f
              ∙ ap (λ (y : Next). after_next k.exchange.plan.messages y) (told.next id sv f)
              ∙ ap (λ (b : Bool). 128 + reselection_if b) d in
              let there = found (command_at s.commands id.command) refl is in
              subst (λ (x : ℕ). suc x ≤ measure s p) (sym next_shape)
              (waited_less (future_left s j) (future_left s k) ahead (measure s p)
              (one_waits s j k id.command there.0 freed there.1 (sv ∙ ap (λ (x : Item). Some x) own) still) amount
              enough)
        ]
          where
            not_data : (b : Bool) (l : LineSet) → is_message_in l ≡ true → (b && is_data l) ≡ false
            not_data b l z =
                ap (λ (m : Bool). b && (not m && not l.cd)) (and_first l.msg l.cd (and_first (l.msg && l.cd) l.io z))
                ∙ and_false b
        by Phase.MessageOut f = other Phase.MessageOut f refl
        by Phase.Command f = other Phase.Command f refl
        by Phase.Status f = other Phase.Status f refl
        by Phase.DataIn f = other Phase.DataIn f refl
        by Phase.DataOut f = other Phase.DataOut f refl

    of_id : (id : ProcId) (x : Process) → k.served ≡ Some (process id) → process_of s id ≡ Some x
        → (b : Bool) → id.sense ≡ b → (c : Bool) → is_open j.story.sent id.command ≡ c → suc (measure s q) ≤ measure s p
    of_id id x sv is true e c f =
        ended (λ m z opens. wrong (sym z ∙ ap (λ (y : Option Item). serves_item y (command_item m)) sv
        ∙ ap (λ (b : Bool). (id.command == m) && same_bool b false) e ∙ and_false (id.command == m)))
    of_id id x sv is false e false f = ended (λ m z opens. let same : process id ≡ command_item m = item_is
        (process id) (command_item m) (ap (λ (y : Option Item). serves_item y (command_item m)) (sym sv) ∙ z) in
        wrong (sym opens ∙ ap (λ (y : Item). is_open j.story.sent (number y)) (sym same) ∙ f))
      where
        number : Item → ℕ
        number (process y) = y.command
        number (abort y) = y
    of_id id x sv is false e true f = waits id x sv is e f (phase_of (bus_of k)) refl

    go : IsServed s k n → suc (measure s q) ≤ measure s p
    go (of_process id x sv is) = of_id id x sv is id.sense refl (is_open j.story.sent id.command) refl
    go (of_abort m a sv line host target re out) =
        ended (λ i z opens. wrong (sym z ∙ ap (λ (y : Option Item). serves_item y (command_item i)) sv))
