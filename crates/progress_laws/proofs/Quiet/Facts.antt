-- A prompt trace after which nothing is due: the bus is free, and the end obeys every rule.
use Rattle.progress_laws.proofs
use proofs.Names.{ℕ, ◌≡◌, ◌<◌, Bool, true, false, ◌∙◌, List, [], ◌∷◌, Option, Some, None, refl, ap, not, ◌&&◌, ◌||◌}
use proofs.Names.{◌+◌, or_right, AllByRecursion, if◌then◌else◌, ◌==◌, nat_le, true_by_test, not_later, implies}
use proofs.Names.{is_within, LineSet, none, free_since, last_time, Row, BUS_CLEAR_DELAY, stage, OnFreeBus, row_none}
use proofs.Names.{initiator_released, initiator_released_of, target_released, target_released_of, is_cleared, IsLawful}
use proofs.Names.{is_in_order, is_quiet_in_reset, is_reset, only_rst, end_test, judged_rules, keeps_at_end}
use proofs.Names.{obeys_at_end, stands_in_reset, end_row, seen, seen_with, Seen, ScenarioValue, Obeys, latency_of}
use proofs.Names.{free_due, IsPrompt, IsEnded, run_state, want_time, obeys_fits, stage_is, free_due_is, device_with}
use proofs.Names.{own_time, FreeBus, sides_are, link_calm, AnyStage, apart, linked, Stood, link_connection, AreEnds}
use proofs.{Names.{whole}, Callees.{Facts.{AreBound, bound_next, bound_start}, First.{WantsAreItems}}}
use proofs.Quiet.{Acts.{calm_end, moved}, Apart.{free_at_end}, Connections.{ends_there, goes_on}}
use Rattle.due_model.specs.bus_rules.specs.Lawful.{KeepsAll}
use Rattle.due_model.specs.bus_rules.specs.Selection.{is_left}

-- What is known of a prompt trace.
pub record Joined (s : ScenarioValue) (p : List Row) : Type 0 where
  pub stood : Stood s p
  pub ends : AreEnds s p
  pub bound : AreBound s p

pub joined : (s : ScenarioValue) (p : List Row) → WantsAreItems → Obeys s → IsPrompt s p → Joined s p
joined s [] wants o prompt =
    let w = whole s [] o prompt in
    record { stood = w.stood; ends = w.ends; bound = bound_start s }
joined s (row ∷ p) wants o prompt =
    let w = whole s (row ∷ p) o prompt in
    let was = joined s p wants o prompt.0 in
    record {
      stood = w.stood;
      ends = w.ends;
      bound = bound_next s p row (obeys_fits s o) wants prompt was.stood
          ((row_none p row).1 w.stood.standing.lawful.1) was.bound;
    }

-- ---- the bus

pub free_when_ended : (s : ScenarioValue) (p : List Row) → Joined s p → IsEnded s p → FreeBus s p
free_when_ended s p f end = go f.stood.here
  where
    go : AnyStage s p → FreeBus s p
    go (apart h alone) = free_at_end s p end f.stood.standing f.bound.caller alone h
    go (linked n h) =
        let e = sides_are s p n h in
        absurd (goes_on s p n end f.stood.standing
        (ends_there s p n e.0 f.stood.standing e.1 (f.ends n (link_connection s p n h))) (link_calm s p n h) h)

-- ---- the rules at the end

one_of : (q a b : Bool) → a ≡ true → b ≡ true → (if q then a else b) ≡ true
one_of true a b e f = e
one_of false a b e f = f

all_kept : (kept : ℕ → Bool) → ((m : ℕ) → kept m ≡ true) → (rules : List ℕ) → AllByRecursion (λ m. kept m ≡ true) rules
all_kept kept h [] = tt
all_kept kept h (m ∷ rules) = (h m, all_kept kept h rules)

-- Any rule at an end at this time, where these hold that set a latest time.
end_keeps : (v : Seen) (t m : ℕ) → is_in_order v t ≡ true → is_cleared v t ≡ true → is_left v t v.call ≡ true
    → initiator_released v t ≡ true → target_released v t ≡ true → is_quiet_in_reset v t ≡ true
    → keeps_at_end m v t ≡ true
end_keeps v t m order cleared left initiator target quiet =
    true_by_test (not (stands_in_reset m) && is_reset v) (end_test m v t)
    (one_of (m == 1) _ _ order
    (one_of (m == 3) _ _ cleared
    (one_of (m == 7) _ _ left
    (one_of (m == 15) _ _ initiator
    (one_of (m == 16) _ _ target
    (one_of (m == 28) _ _ quiet refl))))))

end_kept : (s : ScenarioValue) (p : List Row) → FreeBus s p → KeepsAll (obeys_at_end p (last_time p))
unfolding seen_with
end_kept s p h =
    let t : ℕ = last_time p in
    let v : Seen = seen p (end_row t) in
    all_kept (obeys_at_end p t) (λ n. end_keeps v t n (not_later t)
    (or_right _ _ (or_right _ _ (ap (λ (l : LineSet). is_within l only_rst) h.stands.bus_is)))
    (ap (is_left v t) h.stands.call_is) (ap (initiator_released_of v t) h.stands.connection_is)
    (ap (target_released_of v t) h.stands.connection_is)
    (ap (λ (q : Bool). implies q (nat_le t (v.times.rst + BUS_CLEAR_DELAY) || is_within v.change.before only_rst))
    (ap (λ (l : LineSet). l.rst) h.stands.bus_is))) judged_rules

pub lawful_when_ended : (s : ScenarioValue) (p : List Row) → Joined s p → IsEnded s p → IsLawful p (last_time p)
lawful_when_ended s p e end = (e.stood.standing.lawful, end_kept s p (free_when_ended s p e end))

-- ---- what is left to do

-- No device of the scenario wants the bus.
pub unwanted_when_ended : (s : ScenarioValue) (p : List Row) → Joined s p → IsEnded s p → (d lat : ℕ) → d < 8
    → latency_of s d ≡ Some lat → want_time s (run_state s p) d ≡ None
unwanted_when_ended s p f end d lat lt there = go (want_time s (run_state s p) d) refl
  where
    h : FreeBus s p
    h = free_when_ended s p f end

    here : stage p ≡ OnFreeBus (free_since p)
    here = stage_is p _ _ _ _ h.stands

    go : (o : Option ℕ) → want_time s (run_state s p) d ≡ o → want_time s (run_state s p) d ≡ None
    go None e = e
    go (Some w) e = absurd (calm_end s p d end f.stood.standing.devices lt (ap (λ (l : LineSet). l.rst) h.stands.bus_is)
        (moved _ _ (free_due_is s p d lat (free_since p) f.stood.standing.devices lt there h.stands.connection_is here
        (h.quiet d lt) ∙ ap (free_due (device_with d lat none (own_time p d)) (free_since p)) e)
        (record { row = _; is = refl })))
