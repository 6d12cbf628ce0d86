-- Whom a device is due to call stays as it is while it contends; and as it enters arbitration it has whom to call.
use Rattle.progress_laws.proofs
use proofs.Names.{ℕ, ◌≡◌, ◌≢◌, ◌<◌, ◌≤◌, Bool, true, false, not, ◌&&◌, ◌∙◌, List, ◌∷◌, Option, Some, None, refl, sym}
use proofs.Names.{ap, subst, arith, ◌+◌, inl, inr, le-leb, cases_Bool, none-some, if◌then◌else◌, is_none, is_some, max}
use proofs.Names.{none_number, and_more, wrong', change_of, falls, rises, LineSet, arbitration, call, connection}
use proofs.Names.{connection_after, bus, drives, Row, Change, ENTRY_DELAY, ScenarioValue, is_initiator, RowReading}
use proofs.Names.{row_reading, Item, Sent, item_at, Story, aim_of, is_arbitration_entry, story_after_calling}
use proofs.Names.{story_on_bus, story_with_aim, contender_lines, free_due, Due, Ready, is_reached, run_state_plain}
use proofs.Names.{AreOfDevices, RunState, run_state, initiator_if, item_want_time, ready_of, ready_time, target_of}
use proofs.Names.{want_time, FitsBus, GoesApart, KeepsAll, change_plain, entry_keeps, is_at, device_with, set_other}
use proofs.Callees.{Others.{aim_bound, ready_bound}, Rows.{aims_by_change, eight_aims, own_aim}}
use proofs.Quiet.Apart.{IsBound}

-- An initiator wants the bus from the time on at which it has something to send.
abbrev pub WantsAreItems : Type 0
WantsAreItems = (s : ScenarioValue) (sent : Sent) (dev time : ℕ)
    → is_some (item_at s sent dev time) ≡ is_reached (item_want_time s sent dev) time

-- A row before which and after which no connection stands, RST being false.
abbrev pub IsApart : ScenarioValue → List Row → Row → Type 0
IsApart s p row = GoesApart s p row (change_of p row) (bus p) (arbitration p) (call p)

pub row_apart : (s : ScenarioValue) (p : List Row) (row : Row) → AreOfDevices p → row.dev < 8
    → (run_state s p).story.link ≡ None → connection p ≡ None → connection (row ∷ p) ≡ None
    → (bus (row ∷ p)).rst ≡ false → IsApart s p row
row_apart s p row dv lt link before after calm = record {
  devices = dv;
  below = lt;
  stands = record { bus_is = refl; arbitration_is = refl; call_is = refl; connection_is = before };
  link = link;
  change = refl;
  calm = calm;
  alone = sym (λ i. connection_after (before i) (call p) (change_of p row) row) ∙ after;
}

abbrev pub enters_by : List Row → Row → Bool
enters_by p row = rises (drives p row.dev).bsy (change_of p row).next.bsy && not (bus p).sel

-- ---- whom it calls stays

by_wishes : (s : ScenarioValue) (p q : List Row) (c : ℕ) → ready_of s (run_state s q) c ≡ ready_of s (run_state s p) c
    → aim_of (run_state s q).story.aims c ≡ aim_of (run_state s p).story.aims c → IsBound s p c → IsBound s q c
by_wishes s p q c er ea b = record {
  other = b.other;
  is = (λ i. if is_initiator s.hosts c then target_of s (ea i) else initiator_if (er i)) ∙ b.is;
  below = b.below;
  apart = b.apart;
}

pub still_bound : (s : ScenarioValue) (p q : List Row) (c : ℕ) → KeepsAll s p q → IsBound s p c → IsBound s q c
still_bound s p q c k b = by_wishes s p q c (k.wishes.ready c) (λ i. aim_of (k.aims i) c) b

-- ---- a row with which a device enters

entry_aims : (s : ScenarioValue) (p : List Row) (row : Row) → IsApart s p row → enters_by p row ≡ true
    → (run_state s (row ∷ p)).story.aims ≡ (story_with_aim s (run_state s p).story row).aims
entry_aims s p row w ee =
    let k : RunState = run_state s p in
    let b : Story = k.story in
    let d : RowReading = row_reading b.bus_state row in
    let pl = run_state_plain s p w.devices in
    let e : d.change ≡ change_of p row = change_plain s row p w.devices w.below in
    let con = pl.connection ∙ w.stands.connection_is in
    let next = (λ i. connection_after (con i) (pl.call i) (e i) row) ∙ w.alone in
    let ent : is_arbitration_entry b d ≡ true =
    (λ i. rises (e i).own.bsy (e i).next.bsy && not (e i).before.sel && is_none (con i))
    ∙ and_more (rises (drives p row.dev).bsy (change_of p row).next.bsy) (not (bus p).sel) ee in
    aims_by_change s p row ∙ ap
    (λ (q : Bool). (if q then record b { link = None } else story_on_bus s b b.bus_state.connection d.next d row).aims)
    (ap (λ (c : Change). c.after.rst) e ∙ w.calm) ∙ (λ i. (story_on_bus s b (con i) (next i) d row).aims)
    ∙ ap (λ (q : Bool). (if q then story_with_aim s b row
    else if falls d.change.before.sel d.change.after.sel then story_after_calling s b b.bus_state.call else b).aims) ent

pub others_bound : (s : ScenarioValue) (p : List Row) (row : Row) (c : ℕ) → IsApart s p row → enters_by p row ≡ true
    → c ≢ row.dev → IsBound s p c → IsBound s (row ∷ p) c
others_bound s p row c w ee ne b = by_wishes s p (row ∷ p) c ((entry_keeps s p row _ _ _ _ w ee).ready c)
    (ap (λ (x : List (Option Item)). aim_of x c) (entry_aims s p row w ee)
    ∙ set_other (run_state s p).story.aims row.dev c _ ne) b

pub enters_bound : (s : ScenarioValue) (p : List Row) (row : Row) (w : ℕ) → FitsBus s → WantsAreItems → IsApart s p row
    → enters_by p row ≡ true → want_time s (run_state s p) row.dev ≡ Some w → w ≤ row.time → IsBound s (row ∷ p) row.dev
enters_bound s p row w fits wants a ee wish due =
    elim (cases_Bool (is_initiator s.hosts row.dev)) [
      | inl e ↦ by_item e (item_at s k.story.sent row.dev row.time) refl
      | inr e ↦ by_ready e (ready_of s k row.dev) refl
    ]
  where
    k : RunState
    k = run_state s p

    mine : is_initiator s.hosts row.dev ≡ true
        → aim_of (run_state s (row ∷ p)).story.aims row.dev ≡ item_at s k.story.sent row.dev row.time
    mine host = ap (λ (x : List (Option Item)). aim_of x row.dev) (entry_aims s p row a ee)
        ∙ own_aim k.story.aims row.dev
        (if is_initiator s.hosts row.dev then item_at s k.story.sent row.dev row.time else None)
        (subst (λ (m : ℕ). row.dev < m) (sym (eight_aims s p)) a.below)
        ∙ ap (λ (q : Bool). if q then item_at s k.story.sent row.dev row.time else None) host

    by_item : is_initiator s.hosts row.dev ≡ true → (o : Option Item) → item_at s k.story.sent row.dev row.time ≡ o
        → IsBound s (row ∷ p) row.dev
    by_item host (Some item) e = aim_bound s (row ∷ p) row.dev item fits host (mine host ∙ e)
    by_item host None e =
        let wish_is : item_want_time s k.story.sent row.dev ≡ Some w = sym
        (ap (λ (q : Bool). if q then item_want_time s k.story.sent row.dev else ready_time (ready_of s k row.dev)) host)
        ∙ wish in
        wrong' (sym (ap (λ (x : Option Item). is_some x) e) ∙ wants s k.story.sent row.dev row.time
        ∙ ap (λ (x : Option ℕ). is_reached x row.time) wish_is ∙ le-leb w row.time due)

    by_ready : is_initiator s.hosts row.dev ≡ false → (o : Option Ready) → ready_of s k row.dev ≡ o
        → IsBound s (row ∷ p) row.dev
    by_ready host (Some r) e = ready_bound s (row ∷ p) row.dev r fits (a.below, a.devices) host
        ((entry_keeps s p row _ _ _ _ a ee).ready row.dev ∙ e)
    by_ready host None e = absurd (none_number w (sym (ap ready_time e) ∙ sym
        (ap (λ (q : Bool). if q then item_want_time s k.story.sent row.dev else ready_time (ready_of s k row.dev)) host)
        ∙ wish))

-- ---- an entry that is due is wanted by then

pub record IsWanted (w : Option ℕ) (time : ℕ) : Type 0 where
  pub since : ℕ
  pub is : w ≡ Some since
  pub by_then : since ≤ time

pub entry_wanted : (d lat at free : ℕ) (own : LineSet) (w : Option ℕ) (x : Due)
    → free_due (device_with d lat own at) free w ≡ Some x → IsWanted w x.time
entry_wanted d lat at free own None x e = absurd (none-some x e)
entry_wanted d lat at free own (Some w) x e =
    let h = is_at (max (free + ENTRY_DELAY) w + lat) (contender_lines d) x e in
    let k = h.time_is in
    record { since = w; is = refl; by_then = omega arith }
