-- To each initiator that stands in a hold its automatic REQUEST SENSE is owed, after every event, where one that ends
-- does so with GOOD and none is lost (7.6).
use Rattle.progress_laws.proofs
use proofs.Names.{ℕ, suc, ◌≡◌, ◌+◌, Bool, true, false, ◌&&◌, ◌∙◌, List, [], ◌∷◌, Some, refl, sym, ap, subst, arith, inl}
use proofs.Names.{inr, eqb-true, or_from, cases_Bool, same_Some, list_any, if◌then◌else◌, ◌==◌, wrong, and_first}
use proofs.Names.{and_true, AbortKind, ScenarioValue, CmdDef, HostDef, Process, command_at, same_bool, Array, Nexus}
use proofs.Names.{UnitState, nexus_of, nexuses_without, same_nexus, unit_state_at, ends_checks, Sent, command_item}
use proofs.Names.{has_item, is_open, same_item, sense_item, Ending, Story, by_abort, is_aborted, is_sense_stopped}
use proofs.Names.{story_with_end, story_with_ends, story_with_over, AreOwed, IsOwed}
use Rattle.due_model.specs.array_model.specs.Steps

-- ---- what stays owed

pub owed_all : (s : ScenarioValue) (b c : Sent) (holds : List Nexus)
    → ((q : Nexus) → IsOwed s b q → IsOwed s c q) → AreOwed s b holds → AreOwed s c holds
owed_all s b c [] f h = tt
owed_all s b c (q ∷ holds) f h = (f q h.0, owed_all s b c holds f h.1)

-- Of those that are left where this nexus goes.
pub owed_without : (s : ScenarioValue) (b c : Sent) (holds : List Nexus) (gone : Nexus)
    → ((q : Nexus) → same_nexus q gone ≡ false → IsOwed s b q → IsOwed s c q) → AreOwed s b holds
    → AreOwed s c (nexuses_without holds gone)
owed_without s b c [] gone f h = tt
owed_without s b c (q ∷ holds) gone f h =
    elim (cases_Bool (same_nexus q gone)) [
      | inl e ↦ rw e (owed_without s b c holds gone f h.1)
      | inr e ↦ rw e (f q e h.0, (owed_without s b c holds gone f h.1))
    ]

-- Of those that are left where this test drops some.
pub owed_kept : (s : ScenarioValue) (b c : Sent) (drops : Nexus → Bool) (holds : List Nexus)
    → ((q : Nexus) → drops q ≡ false → IsOwed s b q → IsOwed s c q) → AreOwed s b holds
    → AreOwed s c (Steps.kept_nexuses drops holds)
owed_kept s b c drops [] f h = tt
owed_kept s b c drops (q ∷ holds) f h =
    elim (cases_Bool (drops q)) [
      | inl e ↦ rw e (owed_kept s b c drops holds f h.1)
      | inr e ↦ rw e (f q e h.0, (owed_kept s b c drops holds f h.1))
    ]

-- ---- an abort, or RST

pub command_apart : (i m : ℕ) → same_item (command_item i) (sense_item m) ≡ false
command_apart i m = elim (cases_Bool (i == m)) [ inl e ↦ rw e | inr e ↦ rw e ]

-- The REQUEST SENSE of a command that the test does not stop is not over by it.
sense_leaves : (drops stops : CmdDef → Bool) (e : Ending) (i : ℕ) (all commands : List CmdDef) (b : Story) (m : ℕ)
    → ((l : ℕ) → command_at commands (suc l) ≡ command_at all (suc (i + l)))
    → ((c : CmdDef) → command_at all m ≡ Some c → stops c ≡ false) → has_item b.sent.over (sense_item m) ≡ false
    → has_item (story_with_ends drops stops e (suc i) commands b).sent.over (sense_item m) ≡ false
sense_leaves drops stops e i all [] b m h keep o = o
sense_leaves drops stops e i all (c ∷ commands) b m h keep o =
    let next : Story =
    if is_open b.sent (suc i) && drops c then story_with_end b (record { command = suc i; sense = false }) e
    else if stops c && list_any (λ l. l == suc i) b.sent.checks then story_with_over b (sense_item (suc i)) else b in
    ap (λ (w : ℕ). has_item (story_with_ends drops stops e w commands next).sent.over (sense_item m)) (sym one_more)
    ∙ sense_leaves drops stops e (suc i) all commands next m
    (λ l. h (suc l) ∙ ap (λ (w : ℕ). command_at all (suc w)) (moved l)) keep
    (go (is_open b.sent (suc i) && drops c) (stops c && list_any (λ l. l == suc i) b.sent.checks) refl)
  where
    one_more : suc (suc i) ≡ suc i + 1
    one_more = omega arith

    moved : (l : ℕ) → i + suc l ≡ suc i + l
    moved l = omega arith

    same : i + 0 ≡ i
    same = omega arith

    here : command_at all (suc i) ≡ Some c
    here = ap (λ (w : ℕ). command_at all (suc w)) (sym same) ∙ sym (h 0)

    apart : (q : Bool) → (suc i == m) ≡ q → stops c ≡ true → (suc i == m) ≡ false
    apart false z d = z
    apart true z d = wrong (sym d ∙ keep c (ap (command_at all) (sym (eqb-true (suc i) m z)) ∙ here))

    go : (q r : Bool) → (stops c && list_any (λ l. l == suc i) b.sent.checks) ≡ r
        → has_item (if q then story_with_end b (record { command = suc i; sense = false }) e
        else if r then story_with_over b (sense_item (suc i)) else b).sent.over (sense_item m) ≡ false
    go true r z = or_from (same_item (command_item (suc i)) (sense_item m)) (has_item b.sent.over (sense_item m))
        (command_apart (suc i) m) o
    go false true z = or_from (same_item (sense_item (suc i)) (sense_item m))
        (has_item b.sent.over (sense_item m)) (and_true (suc i == m)
        ∙ apart (suc i == m) refl (and_first (stops c) (list_any (λ l. l == suc i) b.sent.checks) z)) o
    go false false z = o

none_more : (m : ℕ) → m ≡ 0 + m
none_more m = omega arith

-- What is owed for a command that the test does not stop stays so.
still_owed :
    (s : ScenarioValue) (drops stops : CmdDef → Bool) (e : Ending) (b : Story) (q : Nexus) (w : IsOwed s b.sent q)
    → stops w.def ≡ false → IsOwed s (story_with_ends drops stops e 1 s.commands b).sent q
still_owed s drops stops e b q w keep = record {
  number = w.number;
  def = w.def;
  def_is = w.def_is;
  host_is = w.host_is;
  target_is = w.target_is;
  unit_is = w.unit_is;
  checked = ap (λ (x : List ℕ). list_any (λ k. k == w.number) x) (ends_checks drops stops e 1 s.commands b) ∙ w.checked;
  opens = sense_leaves drops stops e 0 s.commands s.commands b w.number
      (λ k. ap (λ (m : ℕ). command_at s.commands (suc m)) (none_more k))
      (λ c at. ap stops (sym (same_Some w.def c (sym w.def_is ∙ at))) ∙ keep) w.opens;
}

abbrev pub nexus_at : ℕ → ℕ → ℕ → Nexus
nexus_at i t m = record { initiator = i; target = t; unit = m }

pub cleared_holds : (i : ℕ) (lost : List Process) (a : Array) → (Steps.cleared_attentions i lost a).holds ≡ a.holds
cleared_holds i [] a = refl
cleared_holds i (c ∷ lost) a =
    cleared_holds i lost (if c.initiator == i then a else Steps.cleared_attention a (nexus_of c))
    ∙ go (c.initiator == i)
  where
    one : (q : Bool) (x : Array) → x.holds ≡ a.holds → (if q then a else x).holds ≡ a.holds
    one true x e = refl
    one false x e = e

    go : (q : Bool) → (if q then a else Steps.cleared_attention a (nexus_of c)).holds ≡ a.holds
    go true = refl
    go false = one _ _ refl

reset_holds : (hosts : List HostDef) (t m : ℕ) (a : Array) → (Steps.reset_attentions hosts t m a).holds ≡ a.holds
reset_holds [] t m a = refl
reset_holds (h ∷ hosts) t m a =
    reset_holds hosts t m (Steps.reset_attention a (record { initiator = h.dev; target = t; unit = m }))

pub all_reset_holds : (hosts : List HostDef) (units : List UnitState) (is_one : UnitState → Bool) (a : Array)
    → (Steps.unit_reset_attentions hosts units is_one a).holds ≡ a.holds
all_reset_holds hosts [] is_one a = refl
all_reset_holds hosts (u ∷ units) is_one a =
    all_reset_holds hosts units is_one (if is_one u then Steps.reset_attentions hosts u.target u.unit a else a)
    ∙ go (is_one u)
  where
    go : (q : Bool) → (if q then Steps.reset_attentions hosts u.target u.unit a else a).holds ≡ a.holds
    go true = reset_holds hosts u.target u.unit a
    go false = refl

pub aborts_owe : (s : ScenarioValue) (b : Story) (a : Array) (i t m : ℕ) (what : AbortKind) → AreOwed s b.sent a.holds
    → AreOwed s (story_with_ends (is_aborted i t m what) (is_sense_stopped i t m what) by_abort 1 s.commands b).sent
    (Steps.abort_step s a i t m what).holds
aborts_owe s b a i t m AbortKind.All h = owed_without s b.sent _ a.holds (nexus_at i t m)
    (λ q ne w. still_owed s (is_aborted i t m AbortKind.All) (is_sense_stopped i t m AbortKind.All) by_abort b q w
    ((λ j. (w.host_is j == i) && ((w.target_is j == t) && (w.unit_is j == m))) ∙ ne)) h
aborts_owe s b a i t m (AbortKind.Tag tag) h = owed_all s b.sent _ a.holds (λ q w. still_owed s
    (is_aborted i t m (AbortKind.Tag tag)) (is_sense_stopped i t m (AbortKind.Tag tag)) by_abort b q w refl) h
aborts_owe s b a i t m AbortKind.WholeQueue h = subst
    (λ (x : List Nexus). AreOwed s (story_with_ends (is_aborted i t m AbortKind.WholeQueue)
    (is_sense_stopped i t m AbortKind.WholeQueue) by_abort 1 s.commands b).sent x) (sym (cleared_holds i
    (Steps.unit_processes (unit_state_at a.units t m)) (Steps.without_dropped a (λ p. Steps.is_of_unit p t m))))
    (owed_all s b.sent _ a.holds (λ q w. still_owed s (is_aborted i t m AbortKind.WholeQueue)
    (is_sense_stopped i t m AbortKind.WholeQueue) by_abort b q w refl) h)
aborts_owe s b a i t m AbortKind.Device h = subst (λ (x : List Nexus). AreOwed s (story_with_ends
    (is_aborted i t m AbortKind.Device) (is_sense_stopped i t m AbortKind.Device) by_abort 1 s.commands b).sent x)
    (sym (all_reset_holds s.hosts a.units (λ u. u.target == t) (record (Steps.without_dropped a (λ p. p.target == t)) {
      senses = Steps.kept_senses (λ r. r.target == t) a.senses;
      holds = Steps.kept_nexuses (λ r. r.target == t) a.holds;
    }))) (owed_kept s b.sent _ (λ q. q.target == t) a.holds (λ q ne w. still_owed s (is_aborted i t m AbortKind.Device)
    (is_sense_stopped i t m AbortKind.Device) by_abort b q w (ap (λ (x : ℕ). x == t) w.target_is ∙ ne)) h)

pub reset_owes : (s : ScenarioValue) (b : Story) (a : Array) → AreOwed s b.sent (Steps.reset_step s a).holds
reset_owes s b a = subst (λ (x : List Nexus). AreOwed s b.sent x) (sym (all_reset_holds s.hosts a.units (λ u. true)
    (record (Steps.without_dropped a (λ p. true)) { senses = []; holds = [] }))) tt
