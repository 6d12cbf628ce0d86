-- The events of a row, where each pays well: those to whom a sense is owed stand in the hold after them; and which
-- sense is owed anew.
use Rattle.progress_laws.proofs
use proofs.Names.{inl, inr, ℕ, ◌≡◌, ◌⊎◌, Bool, true, false, not, ◌&&◌, ◌∙◌, List, [], ◌∷◌, ◌++◌, Option, Some, None}
use proofs.Names.{refl, sym, ap, subst, list_any, if◌then◌else◌, ◌==◌, ⊤, Event, ProcId, CHECK_CONDITION, ScenarioValue}
use proofs.Names.{step_sound, array_step, HasSeats, IsSound, Array, Nexus, ends_checks, Item, Sent, has_item, process}
use proofs.Names.{sense_item, Story, by_abort, by_reset, by_status, is_aborted, is_sense_stopped, story_after_event}
use proofs.Names.{story_after_events, story_with_end, array_after_events, none_some, AreChecked, ends_over}
use proofs.Names.{events_checked, events_grow, in_append, AllOf, IsOf, AreFetched, Debts, IsDebt, PaysWell}
use proofs.{Debts.{Senses.{step_fetches}, Steps.{debt_before, is_checked, same_debt, step_pays}}, Owed.Events.{IfHolds}}
use proofs.Owed.Rows.{AllEndWell}

-- ---- all of them

abbrev pub AllPay : ScenarioValue → Story → List Event → Type 0
AllPay s b [] = ⊤
AllPay s b (event ∷ shown) = PaysWell s (story_after_events s b shown).sent event × AllPay s b shown

pub record Paid (s : ScenarioValue) (b : Story) (o : Option Array) : Type 0 where
  pub checked : AreChecked b.sent
  pub sound : (a : Array) → o ≡ Some a → IsSound s a
  pub debts : (a : Array) → o ≡ Some a → Debts s b.sent a.holds
  pub fetched : (a : Array) → o ≡ Some a → AreFetched a.replies

pub events_pay : (s : ScenarioValue) (b : Story) (o : Option Array) (shown : List Event) → HasSeats s → AllPay s b shown
    → Paid s b o → Paid s (story_after_events s b shown) (array_after_events s o shown)
events_pay s b o [] seats well e = e
events_pay s b o (event ∷ shown) seats well e =
    go (array_after_events s o shown) (events_pay s b o shown seats well.1 e)
  where
    was : Story
    was = story_after_events s b shown

    go : (x : Option Array) → Paid s was x → Paid s (story_after_event s was event) (array_step s event x)
    go None h = record {
      checked = events_checked s b (event ∷ shown) e.checked;
      sound = λ a z. none_some a z;
      debts = λ a z. none_some a z;
      fetched = λ a z. none_some a z;
    }
    go (Some a) h = record {
      checked = events_checked s b (event ∷ shown) e.checked;
      sound = λ y z. step_sound s a y event seats (h.sound a refl) z;
      debts =
          λ y z. subst (λ (w : Option Array). IfHolds (λ holds. Debts s (story_after_event s was event).sent holds) w) z
          (step_pays s was a event (h.sound a refl) h.checked well.0 (h.debts a refl));
      fetched = λ y z. step_fetches s was.sent a y event (h.sound a refl) well.0 z (h.fetched a refl);
    }

-- So a REQUEST SENSE that ends does so with GOOD, and none is lost.
pub paid_ends : (s : ScenarioValue) (b : Story) (shown : List Event) → AllPay s b shown → AllEndWell s b shown
paid_ends s b [] h = tt
paid_ends s b (Event.Accept id ∷ shown) h = (tt, paid_ends s b shown h.1)
paid_ends s b (Event.Refuse id ∷ shown) h = (tt, paid_ends s b shown h.1)
paid_ends s b (Event.Run id ∷ shown) h = (tt, paid_ends s b shown h.1)
paid_ends s b (Event.Fail id code ∷ shown) h = (tt, paid_ends s b shown h.1)
paid_ends s b (Event.End id status ∷ shown) h = ((λ e. (h.0.0 e).0, λ e. (h.0.1 e).0), paid_ends s b shown h.1)
paid_ends s b (Event.Lost id ∷ shown) h = (h.0, paid_ends s b shown h.1)
paid_ends s b (Event.Aborted i t n what ∷ shown) h = (tt, paid_ends s b shown h.1)
paid_ends s b (Event.Reset dev ∷ shown) h = (tt, paid_ends s b shown h.1)

-- ---- which sense is owed anew: that of the process of the connection, which is over then

pub record IsNew (c : Sent) (item : Option Item) (m : ℕ) : Type 0 where
  pub id : ProcId
  pub item_is : item ≡ Some (process id)
  pub over : has_item c.over (process id) ≡ true

event_debt : (s : ScenarioValue) (b : Story) (event : Event) (item : Option Item) (l : ℕ) (q : Nexus)
    → IsOf item event → IsDebt s (story_after_event s b event).sent l q
    → IsNew (story_after_event s b event).sent item l ⊎ IsDebt s b.sent l q
event_debt s b (Event.End id status) item l q own d = go (not id.sense && status == CHECK_CONDITION) refl
  where
    c : Sent
    c = (story_after_event s b (Event.End id status)).sent

    ends : Story
    ends = story_with_end b id (by_status status)

    more : (m : ℕ) → has_item b.sent.over (sense_item m) ≡ true → has_item c.over (sense_item m) ≡ true
    more m z = (events_grow s b (Event.End id status ∷ [])).over (sense_item m) z

    checks : (x : Bool) → (not id.sense && status == CHECK_CONDITION) ≡ x
        → c.checks ≡ (if x then record ends { sent = record ends.sent { checks = ends.sent.checks ++ id.command ∷ [] } }
        else ends).sent.checks
    checks x z =
        λ i. (if z i then record ends { sent = record ends.sent { checks = ends.sent.checks ++ id.command ∷ [] } }
        else ends).sent.checks

    go : (x : Bool) → (not id.sense && status == CHECK_CONDITION) ≡ x → IsNew c item l ⊎ IsDebt s b.sent l q
    go false z = inr (same_debt s b.sent c l q (checks false z) more d)
    go true z = by (in_append l id.command b.sent.checks
        (ap (λ (x : List ℕ). list_any (λ k. k == l) x) (sym (checks true z)) ∙ is_checked c l d.owed))
      where
        by : (list_any (λ k. k == l) b.sent.checks ≡ true) ⊎ (id.command ≡ l) → IsNew c item l ⊎ IsDebt s b.sent l q
        by (inl old) = inr (debt_before s b.sent c l q more old d)
        by (inr new) = inl (record { id = id; item_is = own id refl; over = ends_over s b id status })
event_debt s b (Event.Lost id) item l q own d = inr (same_debt s b.sent (story_after_event s b (Event.Lost id)).sent l q
    refl (λ m z. (events_grow s b (Event.Lost id ∷ [])).over (sense_item m) z) d)
event_debt s b (Event.Aborted i t m what) item l q own d =
    inr (same_debt s b.sent (story_after_event s b (Event.Aborted i t m what)).sent l q
    (ends_checks (is_aborted i t m what) (is_sense_stopped i t m what) by_abort 1 s.commands b)
    (λ j z. (events_grow s b (Event.Aborted i t m what ∷ [])).over (sense_item j) z) d)
event_debt s b (Event.Reset dev) item l q own d = inr (same_debt s b.sent
    (story_after_event s b (Event.Reset dev)).sent l q (ends_checks (λ c. true) (λ c. true) by_reset 1 s.commands b)
    (λ j z. (events_grow s b (Event.Reset dev ∷ [])).over (sense_item j) z) d)
event_debt s b _ item l q own d = inr d

pub new_debt : (s : ScenarioValue) (b : Story) (shown : List Event) (item : Option Item) (m : ℕ) (q : Nexus)
    → AllOf item shown → IsDebt s (story_after_events s b shown).sent m q
    → IsNew (story_after_events s b shown).sent item m ⊎ IsDebt s b.sent m q
new_debt s b [] item m q own d = inr d
new_debt s b (event ∷ shown) item m q own d =
    go (event_debt s was event item m q own.0 d) (λ x. new_debt s b shown item m q own.1 x)
  where
    was : Story
    was = story_after_events s b shown

    later : IsNew was.sent item m ⊎ IsDebt s b.sent m q
        → IsNew (story_after_event s was event).sent item m ⊎ IsDebt s b.sent m q
    later (inl x) = inl
        (record { id = x.id; item_is = x.item_is; over = (events_grow s was (event ∷ [])).over (process x.id) x.over })
    later (inr x) = inr x

    go : IsNew (story_after_event s was event).sent item m ⊎ IsDebt s was.sent m q
        → (IsDebt s was.sent m q → IsNew was.sent item m ⊎ IsDebt s b.sent m q)
        → IsNew (story_after_event s was event).sent item m ⊎ IsDebt s b.sent m q
    go (inl x) before = inl x
    go (inr x) before = later (before x)
