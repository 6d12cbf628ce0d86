-- Whose target is absent, of that process no event is shown; and no automatic REQUEST SENSE is lost.
use Rattle.delivery_laws.proofs
use proofs.Names.{inl, inr, ℕ, ◌≡◌, ◌⊎◌, Bool, true, false, ◌||◌, ◌∙◌, List, [], ◌∷◌, ◌++◌, Option, Some, None, refl}
use proofs.Names.{sym, ap, list_any, if◌then◌else◌, wrong, wrong', Event, ProcId, rises, Row, Connection, has_target}
use proofs.Names.{ScenarioValue, Obeys, Process, process_of, same_id, RowReading, row_reading, link_events}
use proofs.Names.{row_events_by, Item, process, sense_id, Link, Story, story_by_change, run_state_plain, IsPrompt}
use proofs.Names.{IsPlain, RunState, bus_of, item_of, run_state, id_is, RowOf, apart, begins, ends, goes_on}
use proofs.Names.{under_reset, least_is, none_some, AllOf, process_in, row_of, Whole, standing_next, whole, AllPay}
use proofs.{Names.{Indebted, indebted, row_pays, has_loss, is_loss_of}, Callings.Present.{served_there}}
use proofs.Senses.Rows.{Coming}
use Rattle.progress_laws.proofs.Debts.Next.{known_served}

-- ---- events of a process

abbrev is_this : Option ProcId → ProcId → Bool
is_this None id = false
is_this (Some d) id = same_id d id

abbrev pub is_about : ProcId → Event → Bool
is_about id e = is_this (process_in e) id

abbrev pub has_about : List Event → ProcId → Bool
has_about h id = list_any (λ e. is_about id e) h

pub any_either : (f : Event → Bool) (shown h : List Event) → list_any (λ e. f e) (shown ++ h) ≡ true
    → (list_any (λ e. f e) shown ≡ true) ⊎ (list_any (λ e. f e) h ≡ true)
any_either f [] h e = inr e
any_either f (x ∷ shown) h e = go (f x) refl e (any_either f shown h)
  where
    go : (q : Bool) → f x ≡ q → (q || list_any (λ y. f y) (shown ++ h)) ≡ true
        → (list_any (λ y. f y) (shown ++ h) ≡ true
        → (list_any (λ y. f y) shown ≡ true) ⊎ (list_any (λ y. f y) h ≡ true))
        → ((f x || list_any (λ y. f y) shown) ≡ true) ⊎ (list_any (λ y. f y) h ≡ true)
    go true z w rest = inl (λ i. z i || list_any (λ y. f y) shown)
    go false z w rest = later (rest w)
      where
        later : (list_any (λ y. f y) shown ≡ true) ⊎ (list_any (λ y. f y) h ≡ true)
            → ((f x || list_any (λ y. f y) shown) ≡ true) ⊎ (list_any (λ y. f y) h ≡ true)
        later (inl y) = inl ((λ i. z i || list_any (λ y. f y) shown) ∙ y)
        later (inr y) = inr y

its_item : (item : Option Item) (id : ProcId) (shown : List Event) → AllOf item shown → has_about shown id ≡ true
    → item ≡ Some (process id)
its_item item id [] own e = wrong' e
its_item item id (x ∷ shown) own e = go (process_in x) refl (is_about id x) refl e (its_item item id shown own.1)
  where
    go : (o : Option ProcId) → process_in x ≡ o → (q : Bool) → is_about id x ≡ q → (q || has_about shown id) ≡ true
        → (has_about shown id ≡ true → item ≡ Some (process id)) → item ≡ Some (process id)
    go o f false g z rest = rest z
    go None f true g z rest = wrong (sym g ∙ ap (λ (y : Option ProcId). is_this y id) f)
    go (Some d) f true g z rest = own.0 d f
        ∙ ap (λ (y : ProcId). Some (process y)) (id_is d id (sym (ap (λ (y : Option ProcId). is_this y id) f) ∙ g))

-- ---- those of a row

shown_there : (s : ScenarioValue) (p : List Row) (row : Row) → Obeys s
    → IsPrompt s (row ∷ p) → (id : ProcId) (q : Process) → process_of s id ≡ Some q
    → has_about (row_events_by s (run_state s p).story (row_reading (run_state s p).story.bus_state row) row) id ≡ true
    → has_target s q.target ≡ true
shown_there s p row o prompt id q own has = go (standing_next s p row o prompt w).row_is
  where
    k : RunState
    k = run_state s p

    d : RowReading
    d = row_reading k.story.bus_state row

    w : Whole s p
    w = whole s p o prompt.0

    pl : IsPlain s p k
    pl = run_state_plain s p w.stood.standing.devices

    item : item_of k.story.link ≡ Some (process id)
    item = its_item (item_of k.story.link) id (row_events_by s k.story d row) (row_of s k.story d row) has

    none : k.story.bus_state.connection ≡ None → has_target s q.target ≡ true
    none e = none_some (process id) (sym (ap (λ (l : Option Link). item_of l) (w.facts.items.items.apart e).0) ∙ item)

    linked : (n : Connection) → k.story.bus_state.connection ≡ Some n → (bus_of k).rst ≡ false
        → has_target s q.target ≡ true
    linked n con calm = served_there s p n o prompt.0 (sym pl.connection ∙ con) id q own
        (known_served s k n (process id) (w.stood.books.knows n con calm) item)

    reset : d.change.after.rst ≡ true → has_target s q.target ≡ true
    reset on = by (rises d.change.own.rst d.change.next.rst) (ap (λ (x : Bool). has_about
        (if x then (if rises d.change.own.rst d.change.next.rst then Event.Reset row.dev ∷ [] else [])
        else link_events s k.story k.story.link d) id) (sym on) ∙ has)
      where
        by : (x : Bool) → has_about (if x then Event.Reset row.dev ∷ [] else []) id ≡ true
            → has_target s q.target ≡ true
        by true z = wrong' z
        by false z = wrong' z

    go : RowOf s k row → has_target s q.target ≡ true
    go (apart e f) = none e
    go (begins n g) = none g.first.connection_is
    go (goes_on n c g) = linked n g.row_is.connection_is g.calm
    go (ends n g) = linked n g.connection_is g.calm
    go (under_reset on e) = reset on

pub about_there : (s : ScenarioValue) (p : List Row) → Obeys s → IsPrompt s p → (id : ProcId) (q : Process)
    → process_of s id ≡ Some q → has_about (run_state s p).story.history id ≡ true → has_target s q.target ≡ true
about_there s [] o prompt id q own e = wrong' e
about_there s (row ∷ p) o prompt id q own e = go (λ z. about_there s p o prompt.0 id q own z) (any_either
    (λ x. is_about id x) (row_events_by s (run_state s p).story (row_reading (run_state s p).story.bus_state row) row)
    (run_state s p).story.history e)
  where
    go : (has_about (run_state s p).story.history id ≡ true → has_target s q.target ≡ true)
        → (has_about (row_events_by s (run_state s p).story (row_reading (run_state s p).story.bus_state row) row) id
        ≡ true) ⊎ (has_about (run_state s p).story.history id ≡ true)
        → has_target s q.target ≡ true
    go before (inl z) = shown_there s p row o prompt id q own z
    go before (inr z) = before z

-- ---- no automatic REQUEST SENSE is lost

pays_losses : {A : Type 0} (s : ScenarioValue) (b : Story) (l : ℕ) (shown : List Event) → AllPay s b shown
    → has_loss shown (sense_id l) ≡ true → A
pays_losses s b l [] well e = wrong' e
pays_losses s b l (Event.Lost id ∷ shown) well e =
    go (same_id id (sense_id l)) refl e (λ z. pays_losses s b l shown well.1 z)
  where
    go : {A : Type 0} (q : Bool) → same_id id (sense_id l) ≡ q → (q || has_loss shown (sense_id l)) ≡ true
        → (has_loss shown (sense_id l) ≡ true → A) → A
    go true f z rest = wrong (ap (λ (x : ProcId). x.sense) (sym (id_is id (sense_id l) f)) ∙ well.0)
    go false f z rest = rest z
pays_losses s b l (Event.Accept id ∷ shown) well e = pays_losses s b l shown well.1 e
pays_losses s b l (Event.Refuse id ∷ shown) well e = pays_losses s b l shown well.1 e
pays_losses s b l (Event.Run id ∷ shown) well e = pays_losses s b l shown well.1 e
pays_losses s b l (Event.Fail id code ∷ shown) well e = pays_losses s b l shown well.1 e
pays_losses s b l (Event.End id status ∷ shown) well e = pays_losses s b l shown well.1 e
pays_losses s b l (Event.Aborted i t m what ∷ shown) well e = pays_losses s b l shown well.1 e
pays_losses s b l (Event.Reset dev ∷ shown) well e = pays_losses s b l shown well.1 e

pub no_sense_lost : {A : Type 0} (s : ScenarioValue) (p : List Row) (m : ℕ) → Obeys s → IsPrompt s p
    → has_loss (run_state s p).story.history (sense_id m) ≡ true → A
no_sense_lost s [] m o prompt e = wrong' e
no_sense_lost s (row ∷ p) m o prompt e =
    go (λ z. no_sense_lost s p m o prompt.0 z) (any_either (λ x. is_loss_of (sense_id m) x)
    (row_events_by s k.story (row_reading k.story.bus_state row) row) k.story.history e)
  where
    k : RunState
    k = run_state s p

    due : Indebted s p
    due = indebted s p o prompt.0

    v : Coming s p row
    v = record {
      lt = (least_is s p row prompt.1).inside;
      was = due.whole;
      next = whole s (row ∷ p) o prompt;
      stood = standing_next s p row o prompt due.whole;
    }

    go : {A : Type 0} → (has_loss k.story.history (sense_id m) ≡ true → A)
        → (has_loss (row_events_by s k.story (row_reading k.story.bus_state row) row) (sense_id m) ≡ true)
        ⊎ (has_loss k.story.history (sense_id m) ≡ true)
        → A
    go before (inl z) = pays_losses s (story_by_change s k.story (row_reading k.story.bus_state row) row) m
        (row_events_by s k.story (row_reading k.story.bus_state row) row)
        (row_pays s p row v.lt v.was v.next v.stood due.books) z
    go before (inr z) = before z
