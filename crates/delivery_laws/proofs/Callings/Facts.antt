-- A calling of a device that is there ends without an answer only where a fault struck the IDs that it sampled; so an
-- initiator calls in vain for an item no more often than faults struck its callings for it (6.1.3, 6.1.3.1).
use Rattle.delivery_laws.proofs
use proofs.Names.{ℕ, ◌≡◌, ◌⊎◌, inl, inr, ◌<◌, ◌≤◌, ◌+◌, ◌^◌, Bool, true, false, not, ◌&&◌, ◌||◌, ◌∙◌, List, [], ◌∷◌}
use proofs.Names.{Option, Some, None, refl, sym, ap, subst, arith, ◌++◌, cases_eq, not-true, cases_Bool, nat_tests}
use proofs.Names.{same_Some, list_any, if◌then◌else◌, ◌==◌, is_none, is_some, nat_lt, wrong, wrong', and_first}
use proofs.Names.{and_second, none_between, Event, bus_on, drives-other, change_of, rises, falls, LineSet, none, call}
use proofs.Names.{calling_after, caller_goes_on, called_goes_on, connection, drives_two_ids, is_fault, new_calling, bus}
use proofs.Names.{drives, Drives, Row, Change, Connection, Call, Calling, CHECK_CONDITION, row_none, only_rst}
use proofs.Names.{has_target, ScenarioValue, Obeys, CmdDef, command_at, process_if, events_aims, restored_aims}
use proofs.Names.{sent_aims, RowReading, row_reading, row_events_by, Item, process, abort, same_item, count_item}
use proofs.Names.{is_open, command_id, command_item, sense_item, link_of, ending_of, latency_of, Story, Ending}
use proofs.Names.{by_status, by_abort, unanswered, story_with_over, story_with_end, story_with_ends, is_aborted}
use proofs.Names.{is_sense_stopped, story_after_event, story_after_events, story_with_end_if, aim_of}
use proofs.Names.{is_arbitration_entry, retries_of, story_after_calling, story_after_calling_by, story_after_connection}
use proofs.Names.{story_by_change, story_on_bus, story_on_free_bus, story_with_aim, story_with_restored}
use proofs.Names.{story_with_sent, story_with_try, story_without_answer, one_if, run_state_plain, IsLeast, due}
use proofs.Names.{IsPrompt, AreOfDevices, IsPlain, RunState, run_state, initiator_if, ready_of, target_if, target_of}
use proofs.Names.{connected_aims, change_plain, drives_own, least_is, reset_or_calm, by_calm, calling_lines, won_call}
use proofs.Names.{unreset_due, row_of_lines, CalmStanding, BusStage, on_free_bus, in_arbitration, after_arbitration}
use proofs.Names.{with_both_ids, awaiting_answer, after_withdrawal, after_answer, after_takeover, in_reset}
use proofs.Names.{in_connection, none_some, IsDueCall, sel_of_call, Stood, IsNext, item_is, connection_sent, Whole}
use proofs.Names.{whole, target_there, asks_row, reset_sel, struck_out, waits_row, GoesOn, call_goes, apart_of}
use proofs.Names.{is_selecting, is_for_item, is_call_for, is_calling_fault, calling_faults}
use Rattle.progress_laws.specs.bus_laws.proofs.Stages.Next.{by_reset}

-- ---- a row of the caller

-- Before an answer: it releases BSY, with both IDs still true; or it withdraws, a selection time-out delay after it.
data CallerRow (s : ScenarioValue) (p : List Row) (row : Row) : Type 0 where
  asks : (m : Bool) (c i : ℕ) → row.kind ≡ Drives (calling_lines m false (2 ^ c + 2 ^ i + 256)) → CallerRow s p row
  withdraws : (m : Bool) (t : ℕ) → t + 250000000 ≤ row.time → row.kind ≡ Drives (calling_lines m false 0)
      → CallerRow s p row

-- ---- a calling that ends without an answer was withdrawn

-- While it calls and no answer has come, the caller keeps SEL true but as it gives up.
given_up : (s : ScenarioValue) (p : List Row) (row : Row) (b : Call) (x : Calling) → connection p ≡ None
    → (bus p).rst ≡ false → (bus (row ∷ p)).sel ≡ false → row.dev < 8 → CalmStanding s p
    → IsLeast (unreset_due s p) 8 row → call p ≡ Some b → b.calling ≡ Some x → is_some x.answered ≡ false → BusStage s p
    → is_some x.withdrawn ≡ true
given_up s p row b x alone calm low lt always least ek ex un (on_free_bus h) = none_some b (sym h.stands.call_is ∙ ek)
given_up s p row b x alone calm low lt always least ek ex un (in_arbitration a h) =
    none_some b (sym h.stands.call_is ∙ ek)
given_up s p row b x alone calm low lt always least ek ex un (after_arbitration c t h) =
    none_some x (ap (λ (w : Call). w.calling) (same_Some (won_call c t) b (sym h.stands.call_is ∙ ek)) ∙ ex)
given_up s p row b x alone calm low lt always least ek ex un (with_both_ids m c j t0 t z h) =
    wrong (sym (elim (cases_eq row.dev c) [
      | inl same ↦ bus_on (λ y. y.sel) (λ _ _. refl) (row ∷ p) row.dev lt
          (ap (λ (r : Row). (drives (r ∷ p) row.dev).sel) (row_lines (asks_row s p m c j t0 t row always h least same))
          ∙ ap (λ (l : LineSet). l.sel) (drives_own p row.time row.dev _))
      | inr ne ↦ bus_on (λ y. y.sel) (λ _ _. refl) (row ∷ p) c h.caller_below
          (ap (λ (l : LineSet). l.sel) (drives-other row p c (λ e. ne (sym e)) ∙ h.caller))
    ]) ∙ low)
  where
    row_lines : {l : LineSet} → row.kind ≡ Drives l → row ≡ row_of_lines row.time row.dev l
    row_lines e = λ i. record { time = row.time; dev = row.dev; kind = e i }
given_up s p row b x alone calm low lt always least ek ex un (awaiting_answer v m c j t0 t1 t2 y a) =
    wrong (sym (elim (cases_eq row.dev c) [
      | inl same ↦
          bus_on (λ z. z.sel) (λ _ _. refl) (row ∷ p) row.dev lt (ap (λ (r : Row). (drives (r ∷ p) row.dev).sel)
          (row_lines (waits_row s p v m c j t0 t1 t2 y row always a least same).kind_is)
          ∙ ap (λ (l : LineSet). l.sel) (drives_own p row.time row.dev _))
      | inr ne ↦ bus_on (λ z. z.sel) (λ _ _. refl) (row ∷ p) c a.here.caller_below
          (ap (λ (l : LineSet). l.sel) (drives-other row p c (λ e. ne (sym e)) ∙ a.here.caller))
    ]) ∙ low)
  where
    row_lines : {l : LineSet} → row.kind ≡ Drives l → row ≡ row_of_lines row.time row.dev l
    row_lines e = λ i. record { time = row.time; dev = row.dev; kind = e i }
given_up s p row b x alone calm low lt always least ek ex un (after_withdrawal v m c j t0 t1 t2 t3 z h) =
    sym (ap (λ (w : Calling). is_some w.withdrawn)
    (same_Some _ x (ap (λ (w : Call). w.calling) (same_Some _ b (sym h.stands.call_is ∙ ek)) ∙ ex)))
given_up s p row b x alone calm low lt always least ek ex un (after_answer m c j t0 t1 t2 t3 y h) =
    wrong (ap (λ (w : Calling). is_some w.answered)
    (same_Some _ x (ap (λ (w : Call). w.calling) (same_Some _ b (sym h.here.stands.call_is ∙ ek)) ∙ ex)) ∙ un)
given_up s p row b x alone calm low lt always least ek ex un (after_takeover c j t0 t1 t2 t3 t4 y z f h) =
    wrong (ap (λ (w : Calling). is_some w.answered)
    (same_Some _ x (ap (λ (w : Call). w.calling) (same_Some _ b (sym h.here.stands.call_is ∙ ek)) ∙ ex)) ∙ un)
given_up s p row b x alone calm low lt always least ek ex un (in_reset h) = wrong (sym h.reset ∙ calm)
given_up s p row b x alone calm low lt always least ek ex un (in_connection n f g h) = none_some n (sym alone ∙ f)

-- ---- what a row makes of the callings in vain, and of the aims

-- No event is a calling.
ends_tries : (drops stops : CmdDef → Bool) (e : Ending) (m : ℕ) (commands : List CmdDef) (b : Story)
    → (story_with_ends drops stops e m commands b).sent.tries ≡ b.sent.tries
ends_tries drops stops e m [] b = refl
ends_tries drops stops e m (c ∷ commands) b =
    ends_tries drops stops e (m + 1) commands (story_with_end_if drops stops e m c b)
    ∙ go (is_open b.sent m && drops c) (stops c && list_any (λ j. j == m) b.sent.checks)
  where
    go : (r q : Bool) → (if r then story_with_end b (record { command = m; sense = false }) e
        else if q then story_with_over b (sense_item m) else b).sent.tries ≡ b.sent.tries
    go true q = refl
    go false true = refl
    go false false = refl

event_tries : (s : ScenarioValue) (b : Story) (e : Event) → (story_after_event s b e).sent.tries ≡ b.sent.tries
event_tries s b (Event.End id status) = go (not id.sense && status == CHECK_CONDITION)
  where
    go : (q : Bool) → (if q then record (story_with_end b id (by_status status)) {
      sent = record (story_with_end b id (by_status status)).sent { checks = b.sent.checks ++ id.command ∷ [] };
    } else story_with_end b id (by_status status)).sent.tries ≡ b.sent.tries
    go true = refl
    go false = refl
event_tries s b (Event.Aborted host target unit what) =
    ends_tries (is_aborted host target unit what) (is_sense_stopped host target unit what) by_abort 1 s.commands b
event_tries s b (Event.Reset dev) = ends_tries (λ c. true) (λ c. true) Ending.by_reset 1 s.commands b
event_tries s b _ = refl

pub events_tries : (s : ScenarioValue) (b : Story) (shown : List Event)
    → (story_after_events s b shown).sent.tries ≡ b.sent.tries
events_tries s b [] = refl
events_tries s b (e ∷ shown) = event_tries s (story_after_events s b shown) e ∙ events_tries s b shown

restored_tries : (b : Story) (item : Option Item) → (story_with_restored b item).sent.tries ≡ b.sent.tries
restored_tries b None = refl
restored_tries b (Some (process id)) = refl
restored_tries b (Some (abort k)) = refl

sent_tries : (b : Story) (item : Option Item) → (story_with_sent b item).sent.tries ≡ b.sent.tries
sent_tries b None = refl
sent_tries b (Some item) = refl

pub connection_tries : (b : Story) (n : Connection) → (story_after_connection b n).sent.tries ≡ b.sent.tries
connection_tries b n = go n.reselected
  where
    go : (q : Bool) → (if q then record b { link = Some (link_of n None) } else story_with_restored
        (story_with_sent (record b { link = Some (link_of n (aim_of b.aims n.initiator)) }) (aim_of b.aims n.initiator))
        (aim_of b.aims n.initiator)).sent.tries ≡ b.sent.tries
    go true = refl
    go false =
        let c : Story = record b { link = Some (link_of n (aim_of b.aims n.initiator)) } in
        restored_tries (story_with_sent c (aim_of b.aims n.initiator)) (aim_of b.aims n.initiator)
        ∙ sent_tries c (aim_of b.aims n.initiator)

-- One calling in vain more for the item of the call that stands, as SEL falls, or none.
pub data Tried (b c : Story) (d : RowReading) : Type 0 where
  no_more : c.sent.tries ≡ b.sent.tries → Tried b c d
  one_more : (h : Call) (g : Calling) (i : Item) → falls d.change.before.sel d.change.after.sel ≡ true
      → d.change.after.rst ≡ false → b.bus_state.connection ≡ None → b.bus_state.call ≡ Some h
      → h.calling ≡ Some g → is_some g.answered ≡ false → g.reselects ≡ false → aim_of b.aims h.caller ≡ Some i
      → c.sent.tries ≡ i ∷ b.sent.tries → Tried b c d

pub try_tried : (s : ScenarioValue) (b : Story) (dev : ℕ) (i : Item)
    → (story_with_try s b dev (Some i)).sent.tries ≡ i ∷ b.sent.tries
try_tried s b dev i = go _ i
  where
    go : (q : Bool) (x : Item)
        → (if q then story_without_answer (record b { sent = record b.sent { tries = i ∷ b.sent.tries } }) x
        else record b { sent = record b.sent { tries = i ∷ b.sent.tries } }).sent.tries ≡ i ∷ b.sent.tries
    go true (process id) = refl
    go _ _ = refl

none_of : (o : Option ℕ) → is_none o ≡ true → is_some o ≡ false
none_of None e = refl
none_of (Some x) e = wrong' e

calling_tried : (s : ScenarioValue) (b : Story) (d : RowReading) → falls d.change.before.sel d.change.after.sel ≡ true
    → d.change.after.rst ≡ false → b.bus_state.connection ≡ None → (o : Option Call) → b.bus_state.call ≡ o
    → Tried b (story_after_calling s b o) d
calling_tried s b d z off con None e = no_more refl
calling_tried s b d z off con (Some c) e = by c.calling refl
  where
    by : (o : Option Calling) → c.calling ≡ o → Tried b (story_after_calling_by s b c.caller o) d
    by None f = no_more refl
    by (Some g) f =
        elim (cases_Bool (is_none g.answered && not g.reselects)) [
          | inl e ↦ rw e (aimed e (aim_of b.aims c.caller) refl)
          | inr e ↦ rw e (no_more refl)
        ]
      where
        aimed : (is_none g.answered && not g.reselects) ≡ true → (o : Option Item) → aim_of b.aims c.caller ≡ o
            → Tried b (story_with_try s b c.caller o) d
        aimed y None w = no_more refl
        aimed y (Some i) w = one_more c g i z off con e f
            (none_of g.answered (and_first (is_none g.answered) (not g.reselects) y))
            (not-true g.reselects (and_second (is_none g.answered) (not g.reselects) y)) w (try_tried s b c.caller i)

free_tried : (s : ScenarioValue) (b : Story) (d : RowReading) (row : Row) → d.change.after.rst ≡ false
    → b.bus_state.connection ≡ None → Tried b (story_on_free_bus s b d row) d
free_tried s b d row off con = go (is_arbitration_entry b d) (falls d.change.before.sel d.change.after.sel) refl
  where
    go : (q r : Bool) → falls d.change.before.sel d.change.after.sel ≡ r
        → Tried b (if q then story_with_aim s b row else if r then story_after_calling s b b.bus_state.call else b) d
    go true r e = no_more refl
    go false false e = no_more refl
    go false true e = calling_tried s b d e off con b.bus_state.call refl

pub change_tried : (s : ScenarioValue) (b : Story) (d : RowReading) (row : Row) → Tried b (story_by_change s b d row) d
change_tried s b d row = go d.change.after.rst refl
  where
    on_bus : d.change.after.rst ≡ false → (m o : Option Connection) → b.bus_state.connection ≡ m
        → Tried b (story_on_bus s b m o d row) d
    on_bus off None None con = free_tried s b d row off con
    on_bus off None (Some n) con = no_more (connection_tries b n)
    on_bus off (Some m) None con = no_more refl
    on_bus off (Some m) (Some n) con = no_more (λ i. (connection_sent s b b.link d row i).tries)

    go : (q : Bool) → d.change.after.rst ≡ q
        → Tried b (if q then record b { link = None } else story_on_bus s b b.bus_state.connection d.next d row) d
    go true off = no_more refl
    go false off = on_bus off b.bus_state.connection d.next refl

-- The aims, but for that of a device that enters arbitration, with which SEL is false before the row.
aims_on_bus : (s : ScenarioValue) (b : Story) (d : RowReading) (row : Row) → d.change.before.sel ≡ true
    → (story_by_change s b d row).aims ≡ b.aims
aims_on_bus s b d row on = go d.change.after.rst
  where
    begun : (n : Connection) (q : Bool) → (if q then record b { link = Some (link_of n None) } else story_with_restored
        (story_with_sent (record b { link = Some (link_of n (aim_of b.aims n.initiator)) }) (aim_of b.aims n.initiator))
        (aim_of b.aims n.initiator)).aims ≡ b.aims
    begun n true = refl
    begun n false =
        let c : Story = record b { link = Some (link_of n (aim_of b.aims n.initiator)) } in
        restored_aims (story_with_sent c (aim_of b.aims n.initiator)) (aim_of b.aims n.initiator)
        ∙ sent_aims c (aim_of b.aims n.initiator)

    tried : (dev : ℕ) (o : Option Item) → (story_with_try s b dev o).aims ≡ b.aims
    tried dev None = refl
    tried dev (Some i) = by _ i
      where
        by : (q : Bool) (y : Item)
            → (if q then story_without_answer (record b { sent = record b.sent { tries = i ∷ b.sent.tries } }) y
            else record b { sent = record b.sent { tries = i ∷ b.sent.tries } }).aims ≡ b.aims
        by true (process id) = refl
        by _ _ = refl

    called : (o : Option Call) → (story_after_calling s b o).aims ≡ b.aims
    called None = refl
    called (Some h) = by h.calling
      where
        by : (o : Option Calling) → (story_after_calling_by s b h.caller o).aims ≡ b.aims
        by None = refl
        by (Some g) = at (is_none g.answered && not g.reselects)
          where
            at : (q : Bool) → (if q then story_with_try s b h.caller (aim_of b.aims h.caller) else b).aims ≡ b.aims
            at true = tried h.caller (aim_of b.aims h.caller)
            at false = refl

    no_entry : is_arbitration_entry b d ≡ false
    no_entry = (λ i. rises d.change.own.bsy d.change.next.bsy && not (on i) && is_none b.bus_state.connection)
        ∙ none_between (rises d.change.own.bsy d.change.next.bsy) (is_none b.bus_state.connection)

    free : (story_on_free_bus s b d row).aims ≡ b.aims
    free = ap (λ (q : Bool). (if q then story_with_aim s b row
        else if falls d.change.before.sel d.change.after.sel then story_after_calling s b b.bus_state.call else b).aims)
        no_entry ∙ by (falls d.change.before.sel d.change.after.sel)
      where
        by : (q : Bool) → (if q then story_after_calling s b b.bus_state.call else b).aims ≡ b.aims
        by true = called b.bus_state.call
        by false = refl

    on_bus : (m x : Option Connection) → (story_on_bus s b m x d row).aims ≡ b.aims
    on_bus None None = free
    on_bus None (Some n) = begun n n.reselected
    on_bus (Some m) None = refl
    on_bus (Some m) (Some n) = connected_aims s b b.link d row

    go : (q : Bool)
        → (if q then record b { link = None } else story_on_bus s b b.bus_state.connection d.next d row).aims ≡ b.aims
    go true = refl
    go false = on_bus b.bus_state.connection d.next

-- ---- no more callings in vain than faults

abbrev pub is_struck_by : Option Calling → Bool
is_struck_by None = false
is_struck_by (Some g) = g.struck

abbrev pub is_struck_call : Option Call → Bool
is_struck_call None = false
is_struck_call (Some c) = is_struck_by c.calling

-- A fault has struck the call that stands, which is for this item.
abbrev pub is_pending : List (Option Item) → Item → Option Call → Bool
is_pending aims item o = is_struck_call o && is_call_for aims item o

abbrev pub Counts : ScenarioValue → List Row → Item → Type 0
Counts s p item = count_item (run_state s p).story.sent.tries item
    + one_if (is_pending (run_state s p).story.aims item (run_state s p).story.bus_state.call)
    ≤ calling_faults s p item

calling_kept : (caller : ℕ) (x g : Calling) (c : Change) (row : Row) → calling_after caller (Some x) c row ≡ Some g
    → g.reselects ≡ x.reselects
calling_kept caller x g c row e = go (row.dev == caller) (row.dev == x.called) e
  where
    go : (q r : Bool)
        → (if q then Some (caller_goes_on x c row.time) else if r then Some (called_goes_on x c row) else Some x)
        ≡ Some g → g.reselects ≡ x.reselects
    go true r z = ap (λ (y : Calling). y.reselects) (sym (same_Some _ g z))
    go false true z = ap (λ (y : Calling). y.reselects) (sym (same_Some _ g z))
    go false false z = ap (λ (y : Calling). y.reselects) (sym (same_Some _ g z))

-- A calling that was not struck before the row, and is after it, was struck by it.
struck_now : (caller : ℕ) (x g : Calling) (c : Change) (row : Row) → x.struck ≡ false → g.struck ≡ true
    → calling_after caller (Some x) c row ≡ Some g → is_fault row.kind ≡ true
struck_now caller x g c row un on e = go (row.dev == caller) (row.dev == x.called) e
  where
    go : (q r : Bool)
        → (if q then Some (caller_goes_on x c row.time) else if r then Some (called_goes_on x c row) else Some x)
        ≡ Some g → is_fault row.kind ≡ true
    go true r z = wrong' (sym un ∙ ap (λ (y : Calling). y.struck) (same_Some _ g z) ∙ on)
    go false true z = (λ i. sym un i || is_fault row.kind) ∙ ap (λ (y : Calling). y.struck) (same_Some _ g z) ∙ on
    go false false z = wrong' (sym un ∙ ap (λ (y : Calling). y.struck) (same_Some _ g z) ∙ on)

pending_next : (s : ScenarioValue) (p : List Row) (row : Row) (item : Item) → AreOfDevices p → row.dev < 8
    → is_pending (run_state s (row ∷ p)).story.aims item (run_state s (row ∷ p)).story.bus_state.call ≡ true
    → (is_pending (run_state s p).story.aims item (run_state s p).story.bus_state.call ≡ true)
    ⊎ (is_calling_fault (run_state s p) row item ≡ true)
pending_next s p row item dv lt e =
    by_call (call q) refl (ap (λ (o : Option Call). is_pending j.story.aims item o) (sym pl2.call) ∙ e)
  where
    q : List Row
    q = row ∷ p

    k : RunState
    k = run_state s p

    j : RunState
    j = run_state s q

    d : RowReading
    d = row_reading k.story.bus_state row

    pl : IsPlain s p k
    pl = run_state_plain s p dv

    pl2 : IsPlain s q j
    pl2 = run_state_plain s q (lt, dv)

    Was : Type 0
    Was = (is_pending k.story.aims item k.story.bus_state.call ≡ true) ⊎ (is_calling_fault k row item ≡ true)

    by_was : (kk : Call) (g : Calling) → kk.calling ≡ Some g
        → g.struck ≡ true → is_call_for j.story.aims item (Some kk) ≡ true
        → (c : GoesOn p row kk g) → (o : Option Calling) → c.was.calling ≡ o → Was
    by_was kk g f on for c None ex = new (row.dev == c.was.caller && drives_two_ids c.was.caller (change_of p row).next)
        (sym (ap (λ (o : Option Calling). calling_after c.was.caller o (change_of p row) row) ex) ∙ c.goes)
      where
        new : (z : Bool)
            → (if z then Some (new_calling c.was.caller (change_of p row).next row.time) else None) ≡ Some g → Was
        new true z = wrong' (ap (λ (y : Calling). y.struck) (same_Some _ g z) ∙ on)
        new false z = none_some g z
    by_was kk g f on for c (Some x) ex = by x.struck refl
      where
        goes : calling_after c.was.caller (Some x) (change_of p row) row ≡ Some g
        goes = sym (ap (λ (o : Option Calling). calling_after c.was.caller o (change_of p row) row) ex) ∙ c.goes

        aims : j.story.aims ≡ k.story.aims
        aims =
            events_aims s (story_by_change s k.story d row) (row_events_by s k.story d row)
            ∙ aims_on_bus s k.story d row (ap (λ (y : Change). y.before.sel) (change_plain s row p dv lt) ∙ c.sel)

        callk : k.story.bus_state.call ≡ Some c.was
        callk = pl.call ∙ c.was_is

        for_was : is_call_for k.story.aims item (Some c.was) ≡ true
        for_was = (λ i. is_selecting (ex i) && is_for_item (aim_of k.story.aims c.was.caller) item)
            ∙ (λ i. not (sym (calling_kept c.was.caller x g (change_of p row) row goes) i)
            && is_for_item (aim_of (sym aims i) (sym c.caller_is i)) item)
            ∙ (λ i. is_selecting (sym f i) && is_for_item (aim_of j.story.aims kk.caller) item) ∙ for

        by : (z : Bool) → x.struck ≡ z → Was
        by true z = inl ((λ i. is_struck_call (callk i) && is_call_for k.story.aims item (callk i))
            ∙ (λ i. (ap is_struck_by ex ∙ z) i && for_was i))
        by false z = inr ((λ i. struck_now c.was.caller x g (change_of p row) row z on goes i
            && is_call_for k.story.aims item (callk i)) ∙ for_was)

    by_calling : (kk : Call) → call q ≡ Some kk → (o : Option Calling) → kk.calling ≡ o → is_struck_by kk.calling ≡ true
        → is_call_for j.story.aims item (Some kk) ≡ true → Was
    by_calling kk ek None f on for = wrong' (ap is_struck_by (sym f) ∙ on)
    by_calling kk ek (Some g) f on for =
        let c = call_goes p row kk g ek f in
        by_was kk g f (ap is_struck_by (sym f) ∙ on) for c c.was.calling refl

    by_call : (o : Option Call) → call q ≡ o → is_pending j.story.aims item o ≡ true → Was
    by_call None ek z = wrong' z
    by_call (Some kk) ek z = by_calling kk ek kk.calling refl
        (and_first (is_struck_by kk.calling) (is_call_for j.story.aims item (Some kk)) z)
        (and_second (is_struck_by kk.calling) (is_call_for j.story.aims item (Some kk)) z)

-- SEL becomes false, and RST is false after it: so it was before.
falls_both : (a b : Bool) → falls a b ≡ true → (a ≡ true) × (b ≡ false)
falls_both true true z = wrong' z
falls_both true false z = (refl, refl)
falls_both false b z = wrong' z

pub calm_as_sel_falls : (s : ScenarioValue) (p : List Row) (row : Row) → Obeys s → IsPrompt s (row ∷ p)
    → falls (change_of p row).before.sel (change_of p row).after.sel ≡ true → (change_of p row).after.rst ≡ false
    → (bus p).rst ≡ false
calm_as_sel_falls s p row o prompt fall off = go (bus p).rst refl
  where
    go : (z : Bool) → (bus p).rst ≡ z → (bus p).rst ≡ false
    go false e = e
    go true e = wrong (sym (falls_both (bus p).sel (change_of p row).after.sel fall).0
        ∙ reset_sel s p row (whole s p o prompt.0).stood (least_is s p row prompt.1).inside
        ((row_none p row).1 (whole s (row ∷ p) o prompt).stood.standing.lawful.1) e off)

-- The item of a calling that ends without an answer is what its initiator sends next: neither sent nor over.
pub next_of_vain : (s : ScenarioValue) (p : List Row) (row : Row) → Obeys s → IsPrompt s (row ∷ p)
    → (kk : Call) (g : Calling) (i : Item) → falls (change_of p row).before.sel (change_of p row).after.sel ≡ true
    → (change_of p row).after.rst ≡ false → (run_state s p).story.bus_state.connection ≡ None
    → (run_state s p).story.bus_state.call ≡ Some kk → kk.calling ≡ Some g → g.reselects ≡ false
    → aim_of (run_state s p).story.aims kk.caller ≡ Some i → IsNext s (run_state s p).story.sent kk.caller i
next_of_vain s p row o prompt kk g i fall off con call_is f sel aim =
    (w.facts.items.aims alone calm).calls kk ek ((w.stood.called alone calm kk g ek f).host_is ∙ ap not sel) i aim
  where
    w : Whole s p
    w = whole s p o prompt.0

    pl : IsPlain s p (run_state s p)
    pl = run_state_plain s p w.stood.standing.devices

    calm : (bus p).rst ≡ false
    calm = calm_as_sel_falls s p row o prompt fall off

    alone : connection p ≡ None
    alone = sym pl.connection ∙ con

    ek : call p ≡ Some kk
    ek = sym pl.call ∙ call_is

-- ---- in numbers

stays_less : (a b c d e : ℕ) → a ≡ b → b + c ≤ d → a + 0 ≤ d + e
stays_less a b c d e f g = omega (arith, f, g)

stays_pending : (a b d e : ℕ) → a ≡ b → b + 1 ≤ d → a + 1 ≤ d + e
stays_pending a b d e f g = omega (arith, f, g)

grows_both : (a b c d : ℕ) → a ≡ b → b + c ≤ d → a + 1 ≤ d + 1
grows_both a b c d f g = omega (arith, f, g)

tried_less : (a b d e : ℕ) → a ≡ b + 1 → b + 1 ≤ d → a + 0 ≤ d + e
tried_less a b d e f g = omega (arith, f, g)

counts_next : (s : ScenarioValue) (p : List Row) (row : Row) → Obeys s → IsPrompt s (row ∷ p)
    → (item : Item) (t lat : ℕ) → target_of s (Some item) ≡ Some t → latency_of s t ≡ Some lat → Counts s p item
    → Counts s (row ∷ p) item
counts_next s p row o prompt item t lat et el h = by_tried (change_tried s k.story d row)
  where
    q : List Row
    q = row ∷ p

    k : RunState
    k = run_state s p

    j : RunState
    j = run_state s q

    d : RowReading
    d = row_reading k.story.bus_state row

    changed : Story
    changed = story_by_change s k.story d row

    was : Stood s p
    was = (whole s p o prompt.0).stood

    m : IsLeast (due s p) 8 row
    m = least_is s p row prompt.1

    dv : AreOfDevices p
    dv = was.standing.devices

    pl : IsPlain s p k
    pl = run_state_plain s p dv

    pl2 : IsPlain s q j
    pl2 = run_state_plain s q (m.inside, dv)

    c : d.change ≡ change_of p row
    c = change_plain s row p dv m.inside

    tries : j.story.sent.tries ≡ changed.sent.tries
    tries = events_tries s changed (row_events_by s k.story d row)

    before : ℕ
    before = count_item k.story.sent.tries item

    fault : Bool
    fault = is_calling_fault k row item

    on_pending : (z : Bool) → is_pending k.story.aims item k.story.bus_state.call ≡ z
        → before + one_if z ≤ calling_faults s p item
    on_pending z e = subst (λ (x : Bool). before + one_if x ≤ calling_faults s p item) e h

    stays : count_item j.story.sent.tries item ≡ before → Counts s q item
    stays same = go (is_pending j.story.aims item j.story.bus_state.call) refl
      where
        go : (z : Bool) → is_pending j.story.aims item j.story.bus_state.call ≡ z
            → count_item j.story.sent.tries item + one_if z ≤ calling_faults s p item + one_if fault
        go false e = stays_less (count_item j.story.sent.tries item) before
            (one_if (is_pending k.story.aims item k.story.bus_state.call)) (calling_faults s p item)
            (one_if fault) same h
        go true e = elim (pending_next s p row item dv m.inside e) [
          | inl z ↦ stays_pending (count_item j.story.sent.tries item) before (calling_faults s p item)
              (one_if fault) same (on_pending true z)
          | inr z ↦ subst (λ (x : Bool). count_item j.story.sent.tries item + 1 ≤ calling_faults s p item + one_if x)
              (sym z) (grows_both (count_item j.story.sent.tries item) before
              (one_if (is_pending k.story.aims item k.story.bus_state.call)) (calling_faults s p item) same h)
        ]

    -- the calling ended without an answer
    fallen : (kk : Call) (g : Calling) (i : Item) → falls d.change.before.sel d.change.after.sel ≡ true
        → d.change.after.rst ≡ false → k.story.bus_state.connection ≡ None → k.story.bus_state.call ≡ Some kk
        → kk.calling ≡ Some g → is_some g.answered ≡ false → g.reselects ≡ false
        → aim_of k.story.aims kk.caller ≡ Some i → changed.sent.tries ≡ i ∷ k.story.sent.tries → Counts s q item
    fallen kk g i fall off con call_is f un sel aim more = by_item (same_item i item) refl
      where
        plain_fall : falls (change_of p row).before.sel (change_of p row).after.sel ≡ true
        plain_fall = ap (λ (y : Change). falls y.before.sel y.after.sel) (sym c) ∙ fall

        low : (bus q).sel ≡ false
        low = (falls_both (change_of p row).before.sel (change_of p row).after.sel plain_fall).1

        calm_after : (bus q).rst ≡ false
        calm_after = ap (λ (y : Change). y.after.rst) (sym c) ∙ off

        calm : (bus p).rst ≡ false
        calm = calm_as_sel_falls s p row o prompt plain_fall calm_after

        alone : connection p ≡ None
        alone = sym pl.connection ∙ con

        ek : call p ≡ Some kk
        ek = sym pl.call ∙ call_is

        stage_is_apart : BusStage s p
        stage_is_apart = apart_of s p was.here alone

        rst_on : row ≡ row_of_lines row.time row.dev only_rst → (bus q).rst ≡ true
        rst_on z =
            bus_on (λ y. y.rst) (λ _ _. refl) q row.dev m.inside (ap (λ (w : Row). (drives (w ∷ p) row.dev).rst) z
            ∙ ap (λ (l : LineSet). l.rst) (drives_own p row.time row.dev only_rst))

        withdrawn : is_some g.withdrawn ≡ true
        withdrawn = elim (reset_or_calm s p row was.standing calm m) [
          | by_reset z ↦ wrong (sym (rst_on z) ∙ calm_after)
          | by_calm always least ↦ given_up s p row kk g alone calm low m.inside always least ek f un stage_is_apart
        ]

        made : IsDueCall s p kk.caller g
        made = was.called alone calm kk g ek f

        called : target_of s (Some i) ≡ Some g.called
        called = sym
            (λ x. if (made.host_is ∙ ap not sel) x then target_of s (aim x) else initiator_if (ready_of s k kk.caller))
            ∙ made.callee_is

        struck : same_item i item ≡ true → g.struck ≡ true
        struck same =
            let own : target_of s (Some item) ≡ Some g.called =
            ap (λ (y : Item). target_of s (Some y)) (sym (item_is i item same)) ∙ called in
            let place : t ≡ g.called = same_Some t g.called (sym et ∙ own) in
            struck_out s p o prompt.0 alone calm kk g ek f un withdrawn lat (ap (latency_of s) (sym place) ∙ el)

        none_pending : is_pending j.story.aims item j.story.bus_state.call ≡ false
        none_pending = ap (λ (x : Option Call). is_pending j.story.aims item x) pl2.call ∙ go (call q) refl
          where
            go : (x : Option Call) → call q ≡ x → is_pending j.story.aims item x ≡ false
            go None e = refl
            go (Some kj) e = wrong (sym (sel_of_call q kj e) ∙ low)

        count_is : count_item j.story.sent.tries item ≡ (if same_item i item then before + 1 else before)
        count_is = ap (λ (x : List Item). count_item x item) (tries ∙ more)

        done : (u : ℕ) → count_item j.story.sent.tries item ≡ u → u + 0 ≤ calling_faults s p item + one_if fault
            → Counts s q item
        done u e less = subst
            (λ (x : Bool). count_item j.story.sent.tries item + one_if x ≤ calling_faults s p item + one_if fault)
            (sym none_pending) (subst (λ (x : ℕ). x + 0 ≤ calling_faults s p item + one_if fault) (sym e) less)

        by_item : (z : Bool) → same_item i item ≡ z → Counts s q item
        by_item false e = done before (count_is ∙ ap (λ (x : Bool). if x then before + 1 else before) e)
            (stays_less before before (one_if (is_pending k.story.aims item k.story.bus_state.call))
            (calling_faults s p item) (one_if fault) refl h)
        by_item true e =
            let pending : is_pending k.story.aims item k.story.bus_state.call ≡ true =
            (λ x. is_struck_call (call_is x) && is_call_for k.story.aims item (call_is x))
            ∙ (λ x. (ap is_struck_by f ∙ struck e) x && (is_selecting (f x) && is_for_item (aim x) item))
            ∙ (λ x. not (sel x) && e x) in
            done (before + 1) (count_is ∙ ap (λ (x : Bool). if x then before + 1 else before) e)
            (tried_less (before + 1) before (calling_faults s p item) (one_if fault) refl (on_pending true pending))

    by_tried : Tried k.story changed d → Counts s q item
    by_tried (no_more z) = stays (ap (λ (x : List Item). count_item x item) (tries ∙ z))
    by_tried (one_more kk g i fall off con call_is f un sel aim more) =
        fallen kk g i fall off con call_is f un sel aim more

pub tries_counted : (s : ScenarioValue) (p : List Row) → Obeys s → IsPrompt s p → (item : Item) (t lat : ℕ)
    → target_of s (Some item) ≡ Some t → latency_of s t ≡ Some lat → Counts s p item
tries_counted s [] o prompt item t lat et el = omega arith
tries_counted s (row ∷ p) o prompt item t lat et el =
    counts_next s p row o prompt item t lat et el (tries_counted s p o prompt.0 item t lat et el)

-- ---- so a command ends unanswered only where more faults struck its callings than its initiator tries again

less_by : (a b x y : ℕ) → nat_lt a b ≡ true → b + x ≤ y → nat_lt a y ≡ true
less_by a b x y e f = grind (arith, nat_tests)

abbrev pub AreTried : Type 0
AreTried = (s : ScenarioValue) (rows : List Row) (m : ℕ) (c : CmdDef) → AreOfDevices rows
    → command_at s.commands m ≡ Some c → ending_of (run_state s rows).story.ended m ≡ Some unanswered
    → nat_lt (retries_of s.hosts c.host) (count_item (run_state s rows).story.sent.tries (command_item m)) ≡ true

pub unanswered_struck : (s : ScenarioValue) (p : List Row) (m : ℕ) (c : CmdDef)
    → AreTried → Obeys s → IsPrompt s p → command_at s.commands m ≡ Some c
    → has_target s c.target ≡ true → ending_of (run_state s p).story.ended m ≡ Some unanswered
    → nat_lt (retries_of s.hosts c.host) (calling_faults s p (command_item m)) ≡ true
unanswered_struck s p m c tried o prompt at there e =
    let dv : AreOfDevices p = (whole s p o prompt).stood.standing.devices in
    let w = target_there s c.target there in
    let target : target_of s (Some (command_item m)) ≡ Some c.target = λ i. target_if
    (process_if s (command_id m) (at i)) in
    less_by (retries_of s.hosts c.host) (count_item (run_state s p).story.sent.tries (command_item m))
    (one_if (is_pending (run_state s p).story.aims (command_item m) (run_state s p).story.bus_state.call))
    (calling_faults s p (command_item m)) (tried s p m c dv at e)
    (tries_counted s p o prompt (command_item m) c.target w.latency target w.latency_is)
