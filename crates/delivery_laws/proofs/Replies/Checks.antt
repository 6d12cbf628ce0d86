-- A command of which the history has the end with CHECK CONDITION stands among those that ended so (7.3, 7.8).
use Rattle.delivery_laws.proofs
use proofs.Names.{ℕ, inl, inr, ◌≡◌, ◌⊎◌, Bool, true, false, ◌||◌, ◌∙◌, List, [], ◌∷◌, ◌++◌, refl, ap, cases_Bool}
use proofs.Names.{list_any, if◌then◌else◌, ◌==◌, and_first, and_second, eq_self, wrong', Event, ProcId, Row}
use proofs.Names.{CHECK_CONDITION, ScenarioValue, same_id, RowReading, row_reading, row_events_by, Sent, command_id}
use proofs.Names.{Story, by_status, story_after_event, story_after_events, story_with_end, with_check, story_by_change}
use proofs.Names.{run_state, id_is, events_grow, changed, has_status, is_status_of}

abbrev pub IsChecked : ℕ → Sent → Type 0
IsChecked m b = list_any (λ k. k == m) b.checks ≡ true

last_there : (xs : List ℕ) (m : ℕ) → list_any (λ k. k == m) (xs ++ m ∷ []) ≡ true
last_there [] m = ap (λ (q : Bool). q || false) (eq_self m)
last_there (x ∷ xs) m = elim (cases_Bool (x == m)) [ inl e ↦ rw e | inr e ↦ rw e (last_there xs m) ]

-- ---- an event

check_stands : (b : Story) (m status : ℕ) → (status == CHECK_CONDITION) ≡ true
    → IsChecked m (with_check b (command_id m) status).sent
check_stands b m status e = (λ i. list_any (λ k. k == m)
    (if e i then record b { sent = record b.sent { checks = b.sent.checks ++ m ∷ [] } } else b).sent.checks)
    ∙ last_there b.sent.checks m

event_stands : (s : ScenarioValue) (b : Story) (m : ℕ) (e : Event)
    → is_status_of (command_id m) CHECK_CONDITION e ≡ true → IsChecked m (story_after_event s b e).sent
event_stands s b m (Event.End id status) e =
    let same : id ≡ command_id m = id_is id (command_id m)
    (and_first (same_id id (command_id m)) (status == CHECK_CONDITION) e) in
    ap (λ (x : ProcId). list_any (λ k. k == m)
    (with_check (story_with_end b x (by_status status)) x status).sent.checks) same
    ∙ check_stands (story_with_end b (command_id m) (by_status status)) m status
    (and_second (same_id id (command_id m)) (status == CHECK_CONDITION) e)
event_stands s b m _ e = wrong' e

-- ---- the events of a row

shown_stands : (s : ScenarioValue) (b : Story) (m : ℕ) (shown : List Event)
    → has_status shown (command_id m) CHECK_CONDITION ≡ true → IsChecked m (story_after_events s b shown).sent
shown_stands s b m [] e = wrong' e
shown_stands s b m (x ∷ shown) e =
    go (is_status_of (command_id m) CHECK_CONDITION x) refl e (λ z. shown_stands s b m shown z)
  where
    was : Story
    was = story_after_events s b shown

    go : (q : Bool) → is_status_of (command_id m) CHECK_CONDITION x ≡ q
        → (q || has_status shown (command_id m) CHECK_CONDITION) ≡ true
        → (has_status shown (command_id m) CHECK_CONDITION ≡ true → IsChecked m was.sent)
        → IsChecked m (story_after_event s was x).sent
    go true z f rest = event_stands s was m x z
    go false z f rest = (events_grow s was (x ∷ [])).checks m (rest f)

either : (xs ys : List Event) (id : ProcId) (status : ℕ) → has_status (xs ++ ys) id status ≡ true
    → (has_status xs id status ≡ true) ⊎ (has_status ys id status ≡ true)
either [] ys id status e = inr e
either (x ∷ xs) ys id status e =
    elim (cases_Bool (is_status_of id status x)) [
      | inl f ↦ rw f (inl refl)
      | inr f ↦ rw f ((either xs ys id status) (rw f at e))
    ]

-- ---- after any rows

pub checks_stand : (s : ScenarioValue) (p : List Row) (m : ℕ)
    → has_status (run_state s p).story.history (command_id m) CHECK_CONDITION ≡ true
    → IsChecked m (run_state s p).story.sent
checks_stand s [] m e = wrong' e
checks_stand s (row ∷ p) m e = go (either now b.history (command_id m) CHECK_CONDITION e) (λ z. checks_stand s p m z)
  where
    b : Story
    b = (run_state s p).story

    d : RowReading
    d = row_reading b.bus_state row

    c : Story
    c = story_by_change s b d row

    now : List Event
    now = row_events_by s b d row

    go : (has_status now (command_id m) CHECK_CONDITION ≡ true)
        ⊎ (has_status b.history (command_id m) CHECK_CONDITION ≡ true)
        → (has_status b.history (command_id m) CHECK_CONDITION ≡ true → IsChecked m b.sent)
        → IsChecked m (run_state s (row ∷ p)).story.sent
    go (inl z) rest = shown_stands s c m now z
    go (inr z) rest = (events_grow s c now).checks m
        (ap (λ (x : List ℕ). list_any (λ k. k == m) x) (changed s b d row).checks ∙ rest z)
