-- What an initiator sends next was neither sent nor given up, and a command clashes with none that is open.
use Rattle.story_laws.proofs
use proofs.Names.{ℕ, suc, ◌≡◌, ◌+◌, Bool, true, false, not, ◌&&◌, ◌||◌, ◌∙◌, List, [], ◌∷◌, Option, Some, None, refl}
use proofs.Names.{sym, ap, subst, arith, inl, inr, zero, ◌≢◌, ◌<◌, ◌⊎◌, ◌==◌, not-true, eqb-true, cases_eq, same_Some}
use proofs.Names.{list_any, if◌then◌else◌, nat_le, is_some, is_none, slice_set, and_first, and_second, eq_self, wrong}
use proofs.Names.{wrong', plus_none, or_true, and_true, and_false, Event, bus_off, drives-other, change_of, rises}
use proofs.Names.{falls, LineSet, none, is_free, arbitration, arbitration_after, call, call_goes_on, connection}
use proofs.Names.{connection_after, free_since, bus, drives, driven_after, Row, Arbitration, Change, Call}
use proofs.Names.{ScenarioValue, AbortDef, CmdDef, command_at, is_initiator, RowReading, row_reading, row_events_by}
use proofs.Names.{Item, abort, command_item, sense_item, Sent, is_done, abort_from, is_of_host, sense_from, may_send}
use proofs.Names.{open_from, command_from, or_else, item_at, Story, aim_of, is_arbitration_entry, story_with_aim}
use proofs.Names.{story_on_free_bus, story_by_change, run_state_plain, AreOfDevices, RunState, run_state}
use proofs.Names.{run_state_with_events, change_plain, free_by, nothing_shown, on_free, none_some, falls_true, by_bool}
use proofs.Names.{sel_of_call, line_off, drives_next, IsNext, is_sense, IsAimed, AimsFit}
use Rattle.row_laws.specs.ItemFacts.{is_abort, is_command}

abbrev pub IsNextIf : ScenarioValue → Sent → ℕ → Option Item → Type 0
IsNextIf s b dev None = Unit {0}
IsNextIf s b dev (Some item) = IsNext s b dev item

aborts_are : (s : ScenarioValue) (b : Sent) (dev time m : ℕ) (aborts : List AbortDef)
    → IsNextIf s b dev (abort_from b dev time m aborts)
aborts_are s b dev time m [] = tt
aborts_are s b dev time m (a ∷ aborts) =
    go (a.host == dev && nat_le a.at time && not (is_done b (abort m))) refl (aborts_are s b dev time (m + 1) aborts)
  where
    go : (q : Bool) → (a.host == dev && nat_le a.at time && not (is_done b (abort m))) ≡ q
        → IsNextIf s b dev (abort_from b dev time (m + 1) aborts)
        → IsNextIf s b dev (if q then Some (abort m) else abort_from b dev time (m + 1) aborts)
    go true z rest = is_abort m
        (not-true (is_done b (abort m)) (and_second (a.host == dev && nat_le a.at time) (not (is_done b (abort m))) z))
    go false z rest = rest

commands_are : (s : ScenarioValue) (b : Sent) (dev time i : ℕ) (commands : List CmdDef)
    → sense_from s b dev b.checks ≡ None → ((m : ℕ) → command_at commands (suc m) ≡ command_at s.commands (suc (i + m)))
    → IsNextIf s b dev (command_from s b dev time (suc i) commands)
commands_are s b dev time i [] none h = tt
commands_are s b dev time i (c ∷ commands) none h = go (c.host == dev && not (is_done b (command_item (suc i))))
    (may_send s time (open_from b dev 1 s.commands) c) refl refl
    (subst (λ (l : ℕ). IsNextIf s b dev (command_from s b dev time l commands)) (one_more i) (commands_are s b dev time
    (suc i) commands none (λ m. h (suc m) ∙ ap (λ (l : ℕ). command_at s.commands (suc l)) (moved i m))))
  where
    one_more : (l : ℕ) → suc (suc l) ≡ suc l + 1
    one_more l = omega arith

    moved : (l m : ℕ) → l + suc m ≡ suc l + m
    moved l m = omega arith

    go : (q r : Bool) → (c.host == dev && not (is_done b (command_item (suc i)))) ≡ q
        → may_send s time (open_from b dev 1 s.commands) c ≡ r
        → IsNextIf s b dev (command_from s b dev time (suc i + 1) commands) → IsNextIf s b dev
        (if q then if r then Some (command_item (suc i)) else None else command_from s b dev time (suc i + 1) commands)
    go true true z y rest = is_command (suc i) time c (ap (λ (l : ℕ). command_at s.commands (suc l)) (sym (plus_none i))
        ∙ sym (h 0)) (eqb-true c.host dev (and_first (c.host == dev) (not (is_done b (command_item (suc i)))) z))
        (not-true (is_done b (command_item (suc i)))
        (and_second (c.host == dev) (not (is_done b (command_item (suc i)))) z)) y none
    go true false z y rest = tt
    go false r z y rest = rest

wider : (i m : ℕ) (checks : List ℕ) → list_any (λ k. k == i) checks ≡ true → list_any (λ k. k == i) (m ∷ checks) ≡ true
wider i m checks e = ap (λ (q : Bool). (m == i) || q) e ∙ or_true (m == i)

-- Of the first of these checks.
senses_are : (s : ScenarioValue) (b : Sent) (dev : ℕ) (checks : List ℕ)
    → ((i : ℕ) → list_any (λ k. k == i) checks ≡ true → list_any (λ k. k == i) b.checks ≡ true)
    → IsNextIf s b dev (sense_from s b dev checks)
senses_are s b dev [] h = tt
senses_are s b dev (i ∷ checks) h =
    go (senses_are s b dev checks (λ m z. h m (wider m i checks z))) (command_at s.commands i) refl
  where
    there : list_any (λ k. k == i) b.checks ≡ true
    there = h i (ap (λ (q : Bool). q || list_any (λ k. k == i) checks) (eq_self i))

    later : (q : Bool) → IsNextIf s b dev (sense_from s b dev checks)
        → ((is_of_host (command_at s.commands i) dev && not (is_done b (sense_item i))) ≡ q
        → q ≡ true → IsNext s b dev (sense_item i))
        → (is_of_host (command_at s.commands i) dev && not (is_done b (sense_item i))) ≡ q
        → IsNextIf s b dev (if q then Some (sense_item i) else sense_from s b dev checks)
    later true rest own z = own z refl
    later false rest own z = rest

    go : IsNextIf s b dev (sense_from s b dev checks) → (c : Option CmdDef) → command_at s.commands i ≡ c
        → IsNextIf s b dev
        (if is_of_host (command_at s.commands i) dev && not (is_done b (sense_item i)) then Some (sense_item i)
        else sense_from s b dev checks)
    go rest None e = subst (λ (x : Option CmdDef). IsNextIf s b dev
        (if is_of_host x dev && not (is_done b (sense_item i)) then Some (sense_item i) else sense_from s b dev checks))
        (sym e) rest
    go rest (Some c) e = later (is_of_host (command_at s.commands i) dev && not (is_done b (sense_item i))) rest
        (λ z y. is_sense i c e (eqb-true c.host dev (sym (ap (λ (x : Option CmdDef). is_of_host x dev) e)
        ∙ and_first (is_of_host (command_at s.commands i) dev) (not (is_done b (sense_item i))) (z ∙ y))) there
        (not-true (is_done b (sense_item i))
        (and_second (is_of_host (command_at s.commands i) dev) (not (is_done b (sense_item i))) (z ∙ y)))) refl

either_is : (s : ScenarioValue) (b : Sent) (dev : ℕ) (x y : Option Item) → IsNextIf s b dev x
    → (x ≡ None → IsNextIf s b dev y) → IsNextIf s b dev (or_else x y)
either_is s b dev None y h g = g refl
either_is s b dev (Some item) y h g = h

pub next_is : (s : ScenarioValue) (b : Sent) (dev time : ℕ) → IsNextIf s b dev (item_at s b dev time)
next_is s b dev time = either_is s b dev (abort_from b dev time 1 s.aborts)
    (or_else (sense_from s b dev b.checks) (command_from s b dev time 1 s.commands))
    (aborts_are s b dev time 1 s.aborts) (λ _. either_is s b dev (sense_from s b dev b.checks)
    (command_from s b dev time 1 s.commands) (senses_are s b dev b.checks (λ i z. z)) (λ none. commands_are s b dev time
    0 s.commands none (λ m. ap (λ (i : ℕ). command_at s.commands (suc i)) (none_more m))))
  where
    none_more : (m : ℕ) → m ≡ 0 + m
    none_more m = omega arith

-- ---- While a device contends for the bus, and calls, what it entered arbitration for is what it sends next; so a
-- selection begins a connection for an item that was neither sent nor given up.

-- ---- aims

set_own : (all : List (Option Item)) (at : ℕ) (x : Option Item) (i : Item) → aim_of (slice_set all at x) at ≡ Some i
    → x ≡ Some i
set_own [] at x i e = absurd (none_some i e)
set_own (a ∷ all) zero x i e = e
set_own (a ∷ all) (suc at) x i e = set_own all at x i e

pub set_other : (all : List (Option Item)) (at dev : ℕ) (x : Option Item) → dev ≢ at
    → aim_of (slice_set all at x) dev ≡ aim_of all dev
set_other [] at dev x ne = refl
set_other (a ∷ all) zero zero x ne = absurd (ne refl)
set_other (a ∷ all) zero (suc dev) x ne = refl
set_other (a ∷ all) (suc at) zero x ne = refl
set_other (a ∷ all) (suc at) (suc dev) x ne = set_other all at dev x (λ e. ne (ap suc e))

next_of : (s : ScenarioValue) (b : Sent) (dev : ℕ) (x : Option Item) (i : Item) → x ≡ Some i → IsNextIf s b dev x
    → IsNext s b dev i
next_of s b dev None i e h = absurd (none_some i e)
next_of s b dev (Some z) i e h = subst (λ (y : Item). IsNext s b dev y) (same_Some z i e) h

-- ---- a row where no connection stands before it and after it

-- What it leaves of what is sent, and of the aims.
record IsApart (s : ScenarioValue) (p : List Row) (row : Row) : Type 0 where
  sent : (run_state s (row ∷ p)).story.sent
      ≡ (story_on_free_bus s (run_state s p).story (row_reading (run_state s p).story.bus_state row) row).sent
  aims : (run_state s (row ∷ p)).story.aims
      ≡ (story_on_free_bus s (run_state s p).story (row_reading (run_state s p).story.bus_state row) row).aims

apart_is : (s : ScenarioValue) (p : List Row) (row : Row) → AreOfDevices p → row.dev < 8 → connection p ≡ None
    → connection (row ∷ p) ≡ None → (bus (row ∷ p)).rst ≡ false → (run_state s p).story.link ≡ None → IsApart s p row
apart_is s p row dv lt alone none calm link =
    let k = run_state s p in
    let d = row_reading k.story.bus_state row in
    let pl = run_state_plain s p dv in
    let c = change_plain s row p dv lt in
    let off : d.change.after.rst ≡ false = ap (λ (x : Change). x.after.rst) c ∙ calm in
    let next : d.next ≡ None = (λ i. connection_after (pl.connection i) (pl.call i) (c i) row) ∙ none in
    let e : row_events_by s k.story d row ≡ [] = nothing_shown s k.story d row off link in
    let b : story_by_change s k.story d row ≡ story_on_free_bus s k.story d row = on_free s k.story d row off
    (pl.connection ∙ alone) next in
    record {
      sent = ap (λ (x : List Event). (run_state_with_events s k row d x).story.sent) e ∙ ap (λ (y : Story). y.sent) b;
      aims = ap (λ (x : List Event). (run_state_with_events s k row d x).story.aims) e ∙ ap (λ (y : Story). y.aims) b;
    }

record Moves (s : ScenarioValue) (p : List Row) (row : Row) : Type 0 where
  sent : (run_state s (row ∷ p)).story.sent ≡ (run_state s p).story.sent
  own : (drives p row.dev).bsy ≡ false → (driven_after row.kind (drives p row.dev)).bsy ≡ true → (bus p).sel ≡ false
      → is_initiator s.hosts row.dev ≡ true → IsAimed s (run_state s (row ∷ p)) row.dev
  stays : (rises (drives p row.dev).bsy (driven_after row.kind (drives p row.dev)).bsy && not (bus p).sel) ≡ false
      → (run_state s (row ∷ p)).story.aims ≡ (run_state s p).story.aims
  others : (dev : ℕ) → dev ≢ row.dev
      → aim_of (run_state s (row ∷ p)).story.aims dev ≡ aim_of (run_state s p).story.aims dev

moves : (s : ScenarioValue) (p : List Row) (row : Row) → AreOfDevices p → row.dev < 8 → connection p ≡ None
    → IsApart s p row → falls (bus p).sel (bus (row ∷ p)).sel ≡ false → Moves s p row
moves s p row dv lt alone w still = go (is_arbitration_entry b d) refl
  where
    b : Story
    b = (run_state s p).story

    d : RowReading
    d = row_reading b.bus_state row

    c : d.change ≡ change_of p row
    c = change_plain s row p dv lt

    entry : is_arbitration_entry b d
        ≡ (rises (drives p row.dev).bsy (driven_after row.kind (drives p row.dev)).bsy && not (bus p).sel && true)
    entry = λ i. rises (c i).own.bsy (c i).next.bsy && not (c i).before.sel
        && is_none (((run_state_plain s p dv).connection ∙ alone) i)

    fall : falls d.change.before.sel d.change.after.sel ≡ false
    fall = ap (λ (x : Change). falls x.before.sel x.after.sel) c ∙ still

    three : (q r : Bool) → (q && r && true) ≡ (q && r)
    three true r = and_true r
    three false r = refl

    kept : (q : Bool) → is_arbitration_entry b d ≡ q
        → story_on_free_bus s b d row ≡ (if q then story_with_aim s b row else b)
    kept q e = (λ i. free_by s b row (e i) (fall i) b.bus_state.call) ∙ by q
      where
        by : (r : Bool) → free_by s b row r false b.bus_state.call ≡ (if r then story_with_aim s b row else b)
        by true = refl
        by false = refl

    aimed : (q : Bool) → is_arbitration_entry b d ≡ q
        → (run_state s (row ∷ p)).story.aims ≡ (if q then story_with_aim s b row else b).aims
    aimed q e = w.aims ∙ ap (λ (y : Story). y.aims) (kept q e)

    same : (q : Bool) → is_arbitration_entry b d ≡ q → (run_state s (row ∷ p)).story.sent ≡ b.sent
    same q e = w.sent ∙ ap (λ (y : Story). y.sent) (kept q e) ∙ by q
      where
        by : (r : Bool) → (if r then story_with_aim s b row else b).sent ≡ b.sent
        by true = refl
        by false = refl

    go : (q : Bool) → is_arbitration_entry b d ≡ q → Moves s p row
    go true e = record {
      sent = same true e;
      own = λ z y x h i f. subst (λ (v : Sent). IsNext s v row.dev i) (sym (same true e))
          (next_of s b.sent row.dev (if is_initiator s.hosts row.dev then item_at s b.sent row.dev row.time else None) i
          (set_own b.aims row.dev (if is_initiator s.hosts row.dev then item_at s b.sent row.dev row.time else None) i
          (sym (ap (λ (v : List (Option Item)). aim_of v row.dev) (aimed true e)) ∙ f))
          (by (is_initiator s.hosts row.dev)));
      stays = λ z. wrong (sym e ∙ entry
          ∙ three (rises (drives p row.dev).bsy (driven_after row.kind (drives p row.dev)).bsy) (not (bus p).sel) ∙ z);
      others = λ dev ne. ap (λ (v : List (Option Item)). aim_of v dev) (aimed true e) ∙ set_other b.aims row.dev dev
          (if is_initiator s.hosts row.dev then item_at s b.sent row.dev row.time else None) ne;
    }
      where
        by : (r : Bool) → IsNextIf s b.sent row.dev (if r then item_at s b.sent row.dev row.time else None)
        by true = next_is s b.sent row.dev row.time
        by false = tt
    go false e = record {
      sent = same false e;
      own = λ z y x h. wrong' (sym e ∙ entry ∙ (λ i. rises (z i) (y i) && not (x i) && true));
      stays = λ z. aimed false e;
      others = λ dev ne. ap (λ (v : List (Option Item)). aim_of v dev) (aimed false e);
    }

-- ---- the contenders, and the caller

keeps_aim : (s : ScenarioValue) (k j : RunState) (dev : ℕ) → j.story.sent ≡ k.story.sent
    → aim_of j.story.aims dev ≡ aim_of k.story.aims dev → IsAimed s k dev → IsAimed s j dev
keeps_aim s k j dev es ea h i f = subst (λ (v : Sent). IsNext s v dev i) (sym es) (h i (sym ea ∙ f))

-- What the rules say of a row that raises SEL, and what of one under RST.
pub record RisesWell (p : List Row) (row : Row) : Type 0 where
  pub won : rises (drives p row.dev).sel (driven_after row.kind (drives p row.dev)).sel ≡ true
      → (is_some (arbitration p) ≡ true) × ((drives p row.dev).bsy ≡ true)

free_lines : (l : LineSet) → is_free l ≡ true → (l.bsy ≡ false) × (l.sel ≡ false)
free_lines l e = go l.bsy l.sel l.rst e
  where
    go : (q r t : Bool) → not (q || r || t) ≡ true → (q ≡ false) × (r ≡ false)
    go true r t z = wrong' z
    go false true t z = wrong' z
    go false false t z = (refl, refl)

arbitrates : (p : List Row) (row : Row) (a : Arbitration) → arbitration (row ∷ p) ≡ Some a
    → ((b : Arbitration) × (arbitration p ≡ Some b)) ⊎ (is_free (bus p) ≡ true)
arbitrates p row a e = go (arbitration p) refl
  where
    go : (o : Option Arbitration) → arbitration p ≡ o
        → ((b : Arbitration) × (arbitration p ≡ Some b)) ⊎ (is_free (bus p) ≡ true)
    go (Some b) f = inl (b, f)
    go None f = inr (by (is_free (bus p)) (bus (row ∷ p)).bsy (bus (row ∷ p)).sel
        (sym (λ i. arbitration_after (f i) (free_since p) (change_of p row) row) ∙ e))
      where
        first : Arbitration
        first = record { free = free_since p; first = row.time }

        by : (q r t : Bool) → (if q && r && not t then Some first else None) ≡ Some a → q ≡ true
        by true r t z = refl
        by false r t z = absurd (none_some a z)

-- While an arbitration stands SEL is false.
pub no_sel : (p : List Row) (a : Arbitration) → arbitration p ≡ Some a → (bus p).sel ≡ false
no_sel [] a e = absurd (none_some a e)
no_sel (row ∷ p) a e =
    by_bool (bus (row ∷ p)).sel
    (λ f. absurd (none_some a (sym (none_by (arbitration p) (bus (row ∷ p)).sel f) ∙ e)))
    (λ f. f)
  where
    first : Arbitration
    first = record { free = free_since p; first = row.time }

    none_by : (o : Option Arbitration) (q : Bool) → q ≡ true → arbitration_after o (free_since p)
        (record (change_of p row) { after = record (bus (row ∷ p)) { sel = q } }) row ≡ None
    none_by None q z = (λ i. if is_free (bus p) && (bus (row ∷ p)).bsy && not (z i) then Some first else None)
        ∙ by (is_free (bus p)) (bus (row ∷ p)).bsy
      where
        by : (x y : Bool) → (if x && y && false then Some first else None) ≡ None
        by true true = refl
        by true false = refl
        by false y = refl
    none_by (Some b) q z = λ i. if z i || is_free (record (bus (row ∷ p)) { sel = q }) then None else Some b

off_on : (a b : Bool) → a ≡ false → b ≡ true → rises a b ≡ true
off_on a b e f = λ i. not (e i) && f i

-- SEL has risen in the row: its device raised it.
raised_by : (p : List Row) (row : Row) → row.dev < 8 → (bus p).sel ≡ false → (bus (row ∷ p)).sel ≡ true
    → rises (drives p row.dev).sel (driven_after row.kind (drives p row.dev)).sel ≡ true
raised_by p row lt off on =
    by_bool (driven_after row.kind (drives p row.dev)).sel
    (λ e. off_on _ _ (was row.dev lt) e)
    (λ e.
    wrong (sym on ∙ bus_off (λ x. x.sel) (λ _ _. refl) refl (row ∷ p) (λ d l. elim (cases_eq d row.dev) [
      | inl same ↦ ap (λ (m : ℕ). (drives (row ∷ p) m).sel) same ∙ ap (λ (x : LineSet). x.sel) (drives_next p row) ∙ e
      | inr ne ↦ ap (λ (x : LineSet). x.sel) (drives-other row p d ne) ∙ was d l
    ])))
  where
    was : (d : ℕ) → d < 8 → (drives p d).sel ≡ false
    was d l = line_off (λ x. x.sel) (λ _ _. refl) p off d l

-- The call that stands after a row: a new one as SEL rises, or that of before.
pub data Called (p : List Row) (row : Row) (c : Call) : Type 0 where
  new : (bus p).sel ≡ false → c.caller ≡ row.dev → Called p row c
  old : (h : Call) → call p ≡ Some h → c.caller ≡ h.caller → Called p row c

called_is : (p : List Row) (row : Row) (h : Call) → call (row ∷ p) ≡ Some h → Called p row h
called_is p row h e = go (bus p).sel refl (call p) refl
  where
    on : (bus (row ∷ p)).sel ≡ true
    on = sel_of_call (row ∷ p) h e

    after : (q : Bool) → (bus p).sel ≡ q → (o : Option Call) → call p ≡ o
        → (if rises q true then Some (record { caller = row.dev; at = row.time; calling = None })
        else call_goes_on o (change_of p row) row) ≡ Some h
    after q f o g = sym (λ i. if not (on i) then None
        else if rises (f i) (on i) then Some (record { caller = row.dev; at = row.time; calling = None })
        else call_goes_on (g i) (change_of p row) row) ∙ e

    go : (q : Bool) → (bus p).sel ≡ q → (o : Option Call) → call p ≡ o → Called p row h
    go false f o g = new f (sym (ap (λ (c : Call). c.caller) (same_Some _ h (after false f o g))))
    go true f None g = absurd (none_some h (after true f None g))
    go true f (Some x) g = old x g (sym (ap (λ (c : Call). c.caller) (same_Some _ h (after true f (Some x) g))))

low_fall : (a b : Bool) → a ≡ false → falls a b ≡ false
low_fall a b e = ap (λ (q : Bool). q && not b) e

fits_contender : (s : ScenarioValue) (p : List Row) (row : Row) → AreOfDevices p → row.dev < 8 → connection p ≡ None
    → IsApart s p row → AimsFit s p → (dev : ℕ) (a : Arbitration) → dev < 8 → arbitration (row ∷ p) ≡ Some a
    → (drives (row ∷ p) dev).bsy ≡ true → is_initiator s.hosts dev ≡ true → IsAimed s (run_state s (row ∷ p)) dev
fits_contender s p row dv lt alone w h dev a l e on host = elim (arbitrates p row a e) [
  | inl x ↦ stands x.0 x.1
  | inr f ↦ begins (free_lines (bus p) f).0 (free_lines (bus p) f).1
]
  where
    q : List Row
    q = row ∷ p

    k : RunState
    k = run_state s p

    own : dev ≡ row.dev → (driven_after row.kind (drives p row.dev)).bsy ≡ true
    own same = ap (λ (x : LineSet). x.bsy) (sym (drives_next p row)) ∙ ap (λ (u : ℕ). (drives q u).bsy) (sym same) ∙ on

    at : dev ≡ row.dev → IsAimed s (run_state s q) row.dev → IsAimed s (run_state s q) dev
    at same g = subst (λ (u : ℕ). IsAimed s (run_state s q) u) (sym same) g

    by : (bus p).sel ≡ false → ((drives p dev).bsy ≡ true → IsAimed s k dev) → IsAimed s (run_state s q) dev
    by off before =
        let m = moves s p row dv lt alone w (low_fall (bus p).sel (bus q).sel off) in
        elim (cases_eq dev row.dev) [
          | inr ne ↦ keeps_aim s k (run_state s q) dev m.sent (m.others dev ne)
              (before (ap (λ (x : LineSet). x.bsy) (sym (drives-other row p dev ne)) ∙ on))
          | inl same ↦ go m same (drives p row.dev).bsy refl
        ]
      where
        go : Moves s p row → dev ≡ row.dev → (r : Bool) → (drives p row.dev).bsy ≡ r → IsAimed s (run_state s q) dev
        go m same false z = at same (m.own z (own same) off (ap (is_initiator s.hosts) (sym same) ∙ host))
        go m same true z = keeps_aim s k (run_state s q) dev m.sent (ap (λ (v : List (Option Item)). aim_of v dev)
            (m.stays (λ i. rises (z i) (driven_after row.kind (drives p row.dev)).bsy && not (bus p).sel)))
            (before (ap (λ (u : ℕ). (drives p u).bsy) same ∙ z))

    stands : (b : Arbitration) → arbitration p ≡ Some b → IsAimed s (run_state s q) dev
    stands b f = by (no_sel p b f) (λ z. h.contends dev b l f z host)

    begins : (bus p).bsy ≡ false → (bus p).sel ≡ false → IsAimed s (run_state s q) dev
    begins off sel = by sel (λ z. wrong (sym z ∙ line_off (λ x. x.bsy) (λ _ _. refl) p off dev l))

fits_caller : (s : ScenarioValue) (p : List Row) (row : Row) → AreOfDevices p → row.dev < 8 → connection p ≡ None
    → IsApart s p row → RisesWell p row → AimsFit s p → (c : Call) → call (row ∷ p) ≡ Some c
    → is_initiator s.hosts c.caller ≡ true → IsAimed s (run_state s (row ∷ p)) c.caller
fits_caller s p row dv lt alone w rule h c e host = go (called_is p row c e)
  where
    q : List Row
    q = row ∷ p

    k : RunState
    k = run_state s p

    on : (bus q).sel ≡ true
    on = sel_of_call q c e

    m : Moves s p row
    m = moves s p row dv lt alone w (falls_true (bus p).sel (bus q).sel on)

    low : (a b : Bool) → a ≡ true → (rises a b && not (bus p).sel) ≡ false
    low a b z = λ i. rises (z i) b && not (bus p).sel

    by_arbitration : (o : Option Arbitration) → arbitration p ≡ o → is_some o ≡ true → (drives p row.dev).bsy ≡ true
        → is_initiator s.hosts row.dev ≡ true → IsAimed s k row.dev
    by_arbitration None f z on host = wrong' z
    by_arbitration (Some a) f z on host = h.contends row.dev a lt f on host

    go : Called p row c → IsAimed s (run_state s q) c.caller
    go (new off same) =
        let won = rule.won (raised_by p row lt off on) in
        let own = by_arbitration (arbitration p) refl won.0 won.1 (ap (is_initiator s.hosts) (sym same) ∙ host) in
        subst (λ (l : ℕ). IsAimed s (run_state s q) l) (sym same) (keeps_aim s k (run_state s q) row.dev m.sent
        (ap (λ (v : List (Option Item)). aim_of v row.dev) (m.stays (low (drives p row.dev).bsy _ won.1))) own)
    go (old j f same) =
        let sel : (bus p).sel ≡ true = sel_of_call p j f in
        subst (λ (l : ℕ). IsAimed s (run_state s q) l) (sym same)
        (keeps_aim s k (run_state s q) j.caller m.sent (ap (λ (v : List (Option Item)). aim_of v j.caller)
        (m.stays ((λ i. rises (drives p row.dev).bsy (driven_after row.kind (drives p row.dev)).bsy && not (sel i))
        ∙ and_false _))) (h.calls j f (ap (is_initiator s.hosts) (sym same) ∙ host)))

pub aims_apart : (s : ScenarioValue) (p : List Row) (row : Row) → AreOfDevices p → row.dev < 8 → connection p ≡ None
    → connection (row ∷ p) ≡ None → (bus (row ∷ p)).rst ≡ false → (run_state s p).story.link ≡ None → RisesWell p row
    → AimsFit s p → AimsFit s (row ∷ p)
aims_apart s p row dv lt alone none calm link rule h =
    let w = apart_is s p row dv lt alone none calm link in
    record {
      contends = λ dev a l e on host. fits_contender s p row dv lt alone w h dev a l e on host;
      calls = λ c e host. fits_caller s p row dv lt alone w rule h c e host;
    }

-- Where no device drives BSY, and none SEL, nothing is asked.
pub aims_quiet : (s : ScenarioValue) (p : List Row) → ((d : ℕ) → d < 8 → (drives p d).bsy ≡ false) → (bus p).sel ≡ false
    → AimsFit s p
aims_quiet s p off sel = record {
  contends = λ dev a l e on host. wrong (sym on ∙ off dev l);
  calls = λ c e host. wrong (sym (sel_of_call p c e) ∙ sel);
}

-- Nor after a connection, in which no arbitration stands and no call.
pub aims_linked : (s : ScenarioValue) (p : List Row) (row : Row) → row.dev < 8 → arbitration p ≡ None → call p ≡ None
    → (bus p).bsy ≡ true → RisesWell p row → AimsFit s (row ∷ p)
aims_linked s p row lt none uncalled on rule =
    record { contends = λ dev a l e b host. contends a e; calls = λ c e host. calls c (called_is p row c e) e }
  where
    contends : {A : Type 0} (a : Arbitration) → arbitration (row ∷ p) ≡ Some a → A
    contends a e = elim (arbitrates p row a e) [
      | inl x ↦ absurd (none_some x.0 (sym none ∙ x.1))
      | inr f ↦ wrong (sym on ∙ (free_lines (bus p) f).0)
    ]

    calls : {A : Type 0} (c : Call) → Called p row c → call (row ∷ p) ≡ Some c → A
    calls c (new off same) e = wrong' (ap (λ (o : Option Arbitration). is_some o) (sym none)
        ∙ (rule.won (raised_by p row lt off (sel_of_call (row ∷ p) c e))).0)
    calls c (old j f same) e = absurd (none_some j (sym uncalled ∙ f))
