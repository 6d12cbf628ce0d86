-- Initiators begin few connections: each item of a scenario is sent once.
use Rattle.transcript_laws.proofs
use proofs.Names.{ℕ, zero, suc, ◌≡◌, ◌∙◌, ◌+◌, ◌≤◌, Bool, true, false, List, [], ◌∷◌, ◌++◌, length, Option, Some, None}
use proofs.Names.{refl, sym, ap, subst, arith, ◌||◌, or_left, length-append, same_Some, if◌then◌else◌, ⊤, wrong, wrong'}
use proofs.Names.{or_true, plus_none, ProcId, connection, connection_after, Row, ScenarioValue, Obeys, AbortDef, CmdDef}
use proofs.Names.{none_at, command_at, process_if, process_of, row_reading, abort_line_at, Item, process, abort}
use proofs.Names.{same_item, has_item, command_item, sense_item, IsPrompt, IsPlain, RunState, run_state, obeys_fits}
use proofs.Names.{aims_are, IsItem, is_process, change_plain, least_is, none_some, plus_one, items_fresh, item_is}
use proofs.{Names.{own_has, more_has, Whole, whole}, Fits.Sent.{SentAfter, as_before, one_more, row_sends}}
use proofs.Processes.Sent.{has_append}
use Rattle.due_model.specs.array_model.specs.Processes.{Process}
use Rattle.progress_laws.specs.book_laws.specs.Items.{is_abort}

-- ---- lists without repetition

abbrev pub AreOnce : List Item → Type 0
AreOnce [] = ⊤
AreOnce (i ∷ items) = (has_item items i ≡ false) × AreOnce items

abbrev without : Item → List Item → List Item
without i [] = []
without i (x ∷ items) = if same_item x i then items else x ∷ without i items

less_by_one : (i : Item) (items : List Item) → has_item items i ≡ true → length (without i items) + 1 ≡ length items
less_by_one i [] e = wrong' e
less_by_one i (x ∷ items) e = go (same_item x i) e (λ z. less_by_one i items z)
  where
    go : (q : Bool) → (q || has_item items i) ≡ true
        → (has_item items i ≡ true → length (without i items) + 1 ≡ length items)
        → length (if q then items else x ∷ without i items) + 1 ≡ length (x ∷ items)
    go true z rest = omega arith
    go false z rest = let r = rest z in omega (arith, r)

others_stay : (i w : Item) (items : List Item) → same_item i w ≡ false → has_item items w ≡ true
    → has_item (without i items) w ≡ true
others_stay i w [] ne e = wrong' e
others_stay i w (x ∷ items) ne e = go (same_item x i) refl (same_item x w) refl e (λ z. others_stay i w items ne z)
  where
    go : (q : Bool) → same_item x i ≡ q → (r : Bool) → same_item x w ≡ r → (same_item x w || has_item items w) ≡ true
        → (has_item items w ≡ true → has_item (without i items) w ≡ true)
        → has_item (if q then items else x ∷ without i items) w ≡ true
    go true f true g z rest = wrong (sym (ap (λ (y : Item). same_item y w) (sym (item_is x i f)) ∙ g) ∙ ne)
    go true f false g z rest = sym (ap (λ (q : Bool). q || has_item items w) g) ∙ z
    go false f true g z rest = ap (λ (q : Bool). q || has_item (without i items) w) g
    go false f false g z rest = ap (λ (q : Bool). q || has_item (without i items) w) g
        ∙ rest (sym (ap (λ (q : Bool). q || has_item items w) g) ∙ z)

pub few_of : (xs ys : List Item) → AreOnce xs → ((i : Item) → has_item xs i ≡ true → has_item ys i ≡ true)
    → length xs ≤ length ys
few_of [] ys once within = omega arith
few_of (x ∷ xs) ys once within =
    let there = within x (own_has x xs) in
    let one = less_by_one x ys there in
    let rest = few_of xs (without x ys) once.1
    (λ i h. others_stay x i ys (other i h (same_item x i) refl) (within i (more_has x i xs h))) in
    omega (arith, one, rest)
  where
    other : (i : Item) → has_item xs i ≡ true → (q : Bool) → same_item x i ≡ q → same_item x i ≡ false
    other i h false f = f
    other i h true f = wrong (sym (ap (has_item xs) (item_is x i f) ∙ h) ∙ once.0)

-- ---- all items of a scenario

abbrev items_from : ℕ → List CmdDef → List Item
items_from m [] = []
items_from m (c ∷ commands) = command_item m ∷ sense_item m ∷ items_from (m + 1) commands

abbrev aborts_from : ℕ → List AbortDef → List Item
aborts_from m [] = []
aborts_from m (a ∷ aborts) = abort m ∷ aborts_from (m + 1) aborts

abbrev all_items : ScenarioValue → List Item
all_items s = items_from 1 s.commands ++ aborts_from 1 s.aborts

items_count : (m : ℕ) (commands : List CmdDef) → length (items_from m commands) ≡ length commands + length commands
items_count m [] = refl
items_count m (c ∷ commands) = let r = items_count (m + 1) commands in omega (arith, r)

aborts_count : (m : ℕ) (aborts : List AbortDef) → length (aborts_from m aborts) ≡ length aborts
aborts_count m [] = refl
aborts_count m (a ∷ aborts) = let r = aborts_count (m + 1) aborts in omega (arith, r)

pub all_count : (s : ScenarioValue) → length (all_items s) ≡ length s.commands + length s.commands + length s.aborts
all_count s = length-append (items_from 1 s.commands) (aborts_from 1 s.aborts)
    ∙ (λ i. items_count 1 s.commands i + aborts_count 1 s.aborts i)

-- ---- what is sent is among them

command_there : (commands : List CmdDef) (l i m : ℕ) (c : CmdDef) → m ≡ l + i → command_at commands (suc i) ≡ Some c
    → (has_item (items_from l commands) (command_item m) ≡ true)
    × (has_item (items_from l commands) (sense_item m) ≡ true)
command_there [] l i m c e f = none_some c f
command_there (d ∷ commands) l zero m c e f =
    let is : m ≡ l = e ∙ plus_none l in (
      ap (λ (x : ℕ). has_item (items_from l (d ∷ commands)) (command_item x)) is
          ∙ own_has (command_item l) (sense_item l ∷ items_from (l + 1) commands),
      ap (λ (x : ℕ). has_item (items_from l (d ∷ commands)) (sense_item x)) is
          ∙ more_has (command_item l) (sense_item l) (sense_item l ∷ items_from (l + 1) commands)
          (own_has (sense_item l) (items_from (l + 1) commands)),
    )
command_there (d ∷ commands) l (suc i) m c e f =
    let r = command_there commands (l + 1) i m c (e ∙ plus_one l i) f in (
      more_has (command_item l) (command_item m) (sense_item l ∷ items_from (l + 1) commands)
          (more_has (sense_item l) (command_item m) (items_from (l + 1) commands) r.0),
      more_has (command_item l) (sense_item m) (sense_item l ∷ items_from (l + 1) commands)
          (more_has (sense_item l) (sense_item m) (items_from (l + 1) commands) r.1),
    )

abort_there : (aborts : List AbortDef) (l i m : ℕ) (a : AbortDef) → m ≡ l + i → abort_line_at aborts (suc i) ≡ Some a
    → has_item (aborts_from l aborts) (abort m) ≡ true
abort_there [] l i m a e f = none_some a f
abort_there (d ∷ aborts) l zero m a e f =
    ap (λ (x : ℕ). has_item (aborts_from l (d ∷ aborts)) (abort x)) (e ∙ plus_none l)
    ∙ own_has (abort l) (aborts_from (l + 1) aborts)
abort_there (d ∷ aborts) l (suc i) m a e f =
    more_has (abort l) (abort m) (aborts_from (l + 1) aborts) (abort_there aborts (l + 1) i m a (e ∙ plus_one l i) f)

suc_is : (i : ℕ) → suc i ≡ 1 + i
suc_is i = omega arith

process_there : (s : ScenarioValue) (id : ProcId) (x : Process) → process_of s id ≡ Some x
    → has_item (all_items s) (process id) ≡ true
process_there s id x e = has_append (items_from 1 s.commands) (aborts_from 1 s.aborts) (process id)
    ∙ or_left _ (has_item (aborts_from 1 s.aborts) (process id))
    (go id.command refl (command_at s.commands id.command) refl id.sense refl e)
  where
    go : (m : ℕ) → id.command ≡ m → (o : Option CmdDef) → command_at s.commands id.command ≡ o → (q : Bool)
        → id.sense ≡ q → process_if s id o ≡ Some x → has_item (items_from 1 s.commands) (process id) ≡ true
    go m em None eo q es f = none_some x f
    go zero em (Some c) eo q es f = none_some c (sym (none_at s.commands) ∙ ap (command_at s.commands) (sym em) ∙ eo)
    go (suc i) em (Some c) eo false es f =
        (λ t. has_item (items_from 1 s.commands) (process (record { command = id.command; sense = es t })))
        ∙ (command_there s.commands 1 i id.command c (em ∙ suc_is i) (ap (command_at s.commands) (sym em) ∙ eo)).0
    go (suc i) em (Some c) eo true es f =
        (λ t. has_item (items_from 1 s.commands) (process (record { command = id.command; sense = es t })))
        ∙ (command_there s.commands 1 i id.command c (em ∙ suc_is i) (ap (command_at s.commands) (sym em) ∙ eo)).1

abort_there_all : (s : ScenarioValue) (m : ℕ) (a : AbortDef) → abort_line_at s.aborts m ≡ Some a
    → has_item (all_items s) (abort m) ≡ true
abort_there_all s zero a e = none_some a (sym (none_line s.aborts) ∙ e)
  where
    none_line : (aborts : List AbortDef) → abort_line_at aborts zero ≡ None
    none_line [] = refl
    none_line (d ∷ aborts) = refl
abort_there_all s (suc i) a e = has_append (items_from 1 s.commands) (aborts_from 1 s.aborts) (abort (suc i))
    ∙ ap (λ (q : Bool). has_item (items_from 1 s.commands) (abort (suc i)) || q)
    (abort_there s.aborts 1 i (suc i) a (suc_is i) e) ∙ or_true (has_item (items_from 1 s.commands) (abort (suc i)))

item_there : (s : ScenarioValue) (dev : ℕ) (item : Item) → IsItem s dev item → has_item (all_items s) item ≡ true
item_there s dev item (is_process id p e i) = process_there s id p e
item_there s dev item (is_abort m a e i) = abort_there_all s m a e

-- ---- each once

pub record SentOnce (s : ScenarioValue) (sent : List Item) : Type 0 where
  pub once : AreOnce sent
  pub within : (i : Item) → has_item sent i ≡ true → has_item (all_items s) i ≡ true

sent_on : (s : ScenarioValue) (item : Item) (sent : List Item) → has_item sent item ≡ false
    → has_item (all_items s) item ≡ true → SentOnce s sent → SentOnce s (item ∷ sent)
sent_on s item sent new there h = record { once = (new, h.once); within = λ i e. go i (same_item item i) refl e }
  where
    go : (i : Item) (q : Bool) → same_item item i ≡ q → (same_item item i || has_item sent i) ≡ true
        → has_item (all_items s) i ≡ true
    go i true f e = ap (has_item (all_items s)) (sym (item_is item i f)) ∙ there
    go i false f e = h.within i (sym (ap (λ (q : Bool). q || has_item sent i) f) ∙ e)

pub sent_once : (s : ScenarioValue) (p : List Row) → Obeys s → IsPrompt s p → SentOnce s (run_state s p).story.sent.sent
sent_once s [] o prompt = record { once = tt; within = λ i e. wrong' e }
sent_once s (row ∷ p) o prompt = go (sent_once s p o prompt.0) (row_sends s (run_state s p) row)
  where
    k : RunState
    k = run_state s p

    was : Whole s p
    was = whole s p o prompt.0

    pl : IsPlain s p k
    pl = was.stood.plain

    go : SentOnce s k.story.sent.sent
        → SentAfter k.story (row_reading k.story.bus_state row) (run_state s (row ∷ p)).story.sent.sent
        → SentOnce s (run_state s (row ∷ p)).story.sent.sent
    go h (as_before e) = subst (λ (x : List Item). SentOnce s x) (sym e) h
    go h (one_more n item alone next sel aim e) =
        let c = change_plain s row p was.stood.standing.devices (least_is s p row prompt.1).inside in
        let after : connection (row ∷ p) ≡ Some n = sym (λ i. connection_after (pl.connection i) (pl.call i) (c i) row)
        ∙ next in
        let f = items_fresh s p row n o prompt was.stood was.facts.items (sym pl.connection ∙ alone) after sel in
        let new : has_item k.story.sent.sent item ≡ false =
        ap (has_item k.story.sent.sent) (same_Some item f.item (sym aim ∙ f.aim_is)) ∙ f.unsent in
        subst (λ (x : List Item). SentOnce s x) (sym e)
        (sent_on s item k.story.sent.sent new (item_there s n.initiator item (aims_are s p n.initiator item aim)) h)

-- At most 8,256 connections: of 4096 commands, their automatic REQUEST SENSE, and 64 aborts.
pub few_sent : (s : ScenarioValue) (p : List Row) → Obeys s → IsPrompt s p
    → length (run_state s p).story.sent.sent ≤ 8256
few_sent s p o prompt =
    let h = sent_once s p o prompt in
    let few = few_of (run_state s p).story.sent.sent (all_items s) h.once h.within in
    let count = all_count s in
    let fits = obeys_fits s o in
    let commands = fits.few_commands in
    let aborts = fits.few_aborts in
    omega (arith, few, count, commands, aborts)
