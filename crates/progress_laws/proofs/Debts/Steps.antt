-- Event by event those to whom a sense is owed stand in the hold: a command that ends with CHECK CONDITION puts its
-- initiator there, and what takes one away stops its REQUEST SENSE, or is its end (7.6, 7.8).
use Rattle.progress_laws.proofs
use proofs.Names.{inl, inr, ℕ, ◌≡◌, ◌⊎◌, ◌+◌, Bool, true, false, not, ◌&&◌, ◌||◌, ◌∙◌, List, [], ◌∷◌, ◌++◌, Some, refl}
use proofs.Names.{sym, ap, subst, eqb-true, not-true, or_cases, same_Some, list_any, if◌then◌else◌, ◌==◌, is_some}
use proofs.Names.{wrong, and_first, and_second, or_second, and_false, AbortKind, Event, ProcId, command_of}
use proofs.Names.{ABORTED_COMMAND, GOOD, CHECK_CONDITION, ScenarioValue, CmdDef, nexus_put_at, nexuses_without_at}
use proofs.Names.{same_nexus_is, Reply, check_condition, is_request_sense, sense_of, Process, command_at, process_of}
use proofs.Names.{same_bool, in_hold, IsSound, Array, Nexus, guest_at, nexus_of, nexuses_without, same_nexus}
use proofs.Names.{senses_without, unit_state_at, ends_checks, Item, Sent, command_item, has_item, is_open, process}
use proofs.Names.{same_item, sense_item, Ending, Story, by_abort, by_reset, by_status, is_aborted, is_sense_stopped}
use proofs.Names.{story_after_event, story_with_end, story_with_ends, story_with_over, self_nexus, AreChecked}
use proofs.Names.{ends_senses, events_grow, in_append, later, not_grown, more_has, own_has, Debts, IsDebt, NoDebt}
use proofs.{Names.{PaysWell, is_owed, nexus_of_command}, Owed.Events.{IfHolds, OfCommand, accepted, ended_so, failed}}
use proofs.Owed.{Events.{if_none, if_settled, no_check, other_over, refused, run}, Steps.{all_reset_holds}}
use proofs.Owed.Steps.{cleared_holds, command_apart, nexus_at}
use Rattle.due_model.specs.array_model.specs.Steps

-- ---- what is owed after was owed before

pub is_checked : (b : Sent) (m : ℕ) → is_owed b m ≡ true → list_any (λ k. k == m) b.checks ≡ true
is_checked b m e = and_first (list_any (λ k. k == m) b.checks) (not (has_item b.over (sense_item m))) e

pub is_not_over : (b : Sent) (m : ℕ) → is_owed b m ≡ true → has_item b.over (sense_item m) ≡ false
is_not_over b m e = not-true (has_item b.over (sense_item m))
    (and_second (list_any (λ k. k == m) b.checks) (not (has_item b.over (sense_item m))) e)

abbrev Keeps : Sent → Sent → Type 0
Keeps b c = (m : ℕ) → has_item b.over (sense_item m) ≡ true → has_item c.over (sense_item m) ≡ true

owed_before : (b c : Sent) (m : ℕ) → Keeps b c → list_any (λ k. k == m) b.checks ≡ true
    → has_item c.over (sense_item m) ≡ false → is_owed b m ≡ true
owed_before b c m more there opens = λ i. there i
    && not_grown (has_item b.over (sense_item m)) (has_item c.over (sense_item m)) (more m) (ap not opens) i

pub debt_before : (s : ScenarioValue) (b c : Sent) (m : ℕ) (q : Nexus) → Keeps b c
    → list_any (λ k. k == m) b.checks ≡ true → IsDebt s c m q → IsDebt s b m q
debt_before s b c m q more there d = record {
  def = d.def;
  def_is = d.def_is;
  nexus_is = d.nexus_is;
  owed = owed_before b c m more there (is_not_over c m d.owed);
}

pub same_debt : (s : ScenarioValue) (b c : Sent) (m : ℕ) (q : Nexus) → c.checks ≡ b.checks → Keeps b c → IsDebt s c m q
    → IsDebt s b m q
same_debt s b c m q same more d =
    debt_before s b c m q more (ap (λ (x : List ℕ). list_any (λ k. k == m) x) (sym same) ∙ is_checked c m d.owed) d

-- No command ends with CHECK CONDITION, and a REQUEST SENSE is over of one that did.
pub fewer_debts : (s : ScenarioValue) (b c : Sent) (holds kept : List Nexus) → c.checks ≡ b.checks → Keeps b c
    → ((i : ℕ) → has_item c.over (sense_item i) ≡ true
    → (has_item b.over (sense_item i) ≡ true) ⊎ (list_any (λ k. k == i) b.checks ≡ true))
    → ((i : ℕ) (q : Nexus) → IsDebt s c i q → IsDebt s b i q → in_hold holds q ≡ true → in_hold kept q ≡ true)
    → Debts s b holds → Debts s c kept
fewer_debts s b c holds kept same more back keep h = record {
  held = λ i q d. keep i q d (before i q d) (h.held i q (before i q d));
  alone = λ i m q d e. h.alone i m q (before i q d) (before m q e);
  checked =
      λ i o. ap (λ (x : List ℕ). list_any (λ k. k == i) x) same ∙ elim (back i o) [ inl x ↦ h.checked i x | inr x ↦ x ];
}
  where
    before : (i : ℕ) (q : Nexus) → IsDebt s c i q → IsDebt s b i q
    before i q d = same_debt s b c i q same more d

pub same_debts : (s : ScenarioValue) (b c : Sent) (holds : List Nexus) → c.checks ≡ b.checks
    → ((m : ℕ) → has_item c.over (sense_item m) ≡ has_item b.over (sense_item m)) → Debts s b holds → Debts s c holds
same_debts s b c holds same over h =
    fewer_debts s b c holds holds same (λ m z. over m ∙ z) (λ m z. inl (sym (over m) ∙ z)) (λ m q d e z. z) h

pub same_no_debt : (s : ScenarioValue) (b c : Sent) (q : Nexus) → c.checks ≡ b.checks → Keeps b c → NoDebt s b q
    → NoDebt s c q
same_no_debt s b c q same more none n d = none n (same_debt s b c n q same more d)

-- ---- one leaves the hold

stays_held : (holds : List Nexus) (y q : Nexus) → (y ≡ q → ⊥) → in_hold holds q ≡ true
    → in_hold (nexuses_without holds y) q ≡ true
stays_held holds y q apart e = nexuses_without_at holds y q ∙ go (same_nexus y q) refl
  where
    go : (x : Bool) → same_nexus y q ≡ x → (if x then false else in_hold holds q) ≡ true
    go true z = absurd (apart (same_nexus_is y q z))
    go false z = e

-- Others stay where a test drops some.
kept_held : (drops : Nexus → Bool) (holds : List Nexus) (q : Nexus) → drops q ≡ false → in_hold holds q ≡ true
    → in_hold (Steps.kept_nexuses drops holds) q ≡ true
kept_held drops [] q keep e = e
kept_held drops (w ∷ holds) q keep e = go (drops w) refl (same_nexus w q) refl e (kept_held drops holds q keep)
  where
    go : (x : Bool) → drops w ≡ x → (y : Bool) → same_nexus w q ≡ y → (y || in_hold holds q) ≡ true
        → (in_hold holds q ≡ true → in_hold (Steps.kept_nexuses drops holds) q ≡ true)
        → in_hold (if x then Steps.kept_nexuses drops holds else w ∷ Steps.kept_nexuses drops holds) q ≡ true
    go true f true g z more = wrong (sym f ∙ ap drops (same_nexus_is w q g) ∙ keep)
    go true f false g z more = more z
    go false f true g z more = λ i. g i || in_hold (Steps.kept_nexuses drops holds) q
    go false f false g z more = λ i. g i || more z i

-- ---- a process that is over

one_over : (b : Sent) (id : ProcId) → Keeps b (record b { over = process id ∷ b.over })
one_over b id n z = more_has (process id) (sense_item n) b.over z

over_before : (b : Sent) (id : ProcId) (m : ℕ) → id.sense ≡ false → has_item (process id ∷ b.over) (sense_item m) ≡ true
    → has_item b.over (sense_item m) ≡ true
over_before b id m e z =
    or_second (same_item (process id) (sense_item m)) (has_item b.over (sense_item m)) z (other_over id m e)

command_over : (s : ScenarioValue) (b : Sent) (holds : List Nexus) (id : ProcId) → id.sense ≡ false → Debts s b holds
    → Debts s (record b { over = process id ∷ b.over }) holds
command_over s b holds id e h = fewer_debts s b (record b { over = process id ∷ b.over }) holds holds refl
    (one_over b id) (λ n z. inl (over_before b id n e z)) (λ n q d f z. z) h

-- A REQUEST SENSE that was owed.
sense_over : (s : ScenarioValue) (b : Sent) (holds : List Nexus) (id : ProcId) (y : Nexus)
    → id.sense ≡ true → IsDebt s b id.command y → Debts s b holds
    → Debts s (record b { over = process id ∷ b.over }) (nexuses_without holds y)
sense_over s b holds id y e own h =
    fewer_debts s b c holds (nexuses_without holds y) refl (one_over b id) back (λ l q d f z. stays_held holds y q
    (λ same. wrong (sym (over l (h.alone id.command l y own (subst (λ (x : Nexus). IsDebt s b l x) (sym same) f)))
    ∙ is_not_over c l d.owed)) z) h
  where
    c : Sent
    c = record b { over = process id ∷ b.over }

    own_item : process id ≡ sense_item id.command
    own_item = λ i. process (record { command = id.command; sense = e i })

    over : (l : ℕ) → id.command ≡ l → has_item c.over (sense_item l) ≡ true
    over l same = ap (has_item c.over) (ap sense_item (sym same) ∙ sym own_item) ∙ own_has (process id) b.over

    back : (l : ℕ) → has_item c.over (sense_item l) ≡ true
        → (has_item b.over (sense_item l) ≡ true) ⊎ (list_any (λ k. k == l) b.checks ≡ true)
    back l z = elim (or_cases (same_item (process id) (sense_item l)) (has_item b.over (sense_item l)) z) [
      | inl x ↦ inr (ap (λ (m : ℕ). list_any (λ k. k == m) b.checks)
          (sym (eqb-true id.command l (and_first (id.command == l) (same_bool id.sense true) x)))
          ∙ is_checked b id.command own.owed)
      | inr x ↦ inl x
    ]

-- A command ends with CHECK CONDITION.
check_added : (s : ScenarioValue) (b c : Sent) (holds : List Nexus) (id : ProcId) (w : Nexus)
    → id.sense ≡ false → c.over ≡ process id ∷ b.over → c.checks ≡ b.checks ++ id.command ∷ []
    → (def : CmdDef) → command_at s.commands id.command ≡ Some def → nexus_of_command def ≡ w → NoDebt s b w
    → Debts s b holds → Debts s c (w ∷ nexuses_without holds w)
check_added s b c holds id w e over checks def def_is nexus none h = record {
  held = λ i q d. nexus_put_at holds w q ∙ elim (newer i q d) [
    | inl same ↦ placed i q d same (same_nexus w q) refl
    | inr old ↦ kept (same_nexus w q) q (h.held i q old)
  ];
  alone = λ i m q d f. elim (newer i q d) [
    | inl x ↦ elim (newer m q f) [ inl y ↦ sym x ∙ y | inr y ↦ apart i q d x m y ]
    | inr x ↦ elim (newer m q f) [ inl y ↦ apart m q f y i x | inr y ↦ h.alone i m q x y ]
  ];
  checked = λ i z. ap (λ (x : List ℕ). list_any (λ k. k == i) x) checks ∙ later i b.checks (id.command ∷ [])
      (h.checked i (over_before b id i e (ap (λ (x : List Item). has_item x (sense_item i)) (sym over) ∙ z)));
}
  where
    more : Keeps b c
    more i z = ap (λ (x : List Item). has_item x (sense_item i)) over ∙ one_over b id i z

    newer : (i : ℕ) (q : Nexus) → IsDebt s c i q → (id.command ≡ i) ⊎ IsDebt s b i q
    newer i q d = elim (in_append i id.command b.checks
        (ap (λ (x : List ℕ). list_any (λ k. k == i) x) (sym checks) ∙ is_checked c i d.owed)) [
          | inl old ↦ inr (debt_before s b c i q more old d)
          | inr new ↦ inl new
        ]

    own_nexus : (i : ℕ) (q : Nexus) → IsDebt s c i q → id.command ≡ i → w ≡ q
    own_nexus i q d same =
        sym nexus ∙ ap nexus_of_command (same_Some def d.def (sym def_is ∙ ap (command_at s.commands) same ∙ d.def_is))
        ∙ d.nexus_is

    placed : (i : ℕ) (q : Nexus) → IsDebt s c i q → id.command ≡ i → (x : Bool) → same_nexus w q ≡ x
        → (if x then true else in_hold holds q) ≡ true
    placed i q d same true z = refl
    placed i q d same false z = wrong (sym (ap (same_nexus w) (sym (own_nexus i q d same)) ∙ self_nexus w) ∙ z)

    kept : (x : Bool) (q : Nexus) → in_hold holds q ≡ true → (if x then true else in_hold holds q) ≡ true
    kept true q z = refl
    kept false q z = z

    apart : {A : Type 0} (i : ℕ) (q : Nexus) → IsDebt s c i q → id.command ≡ i → (m : ℕ) → IsDebt s b m q → A
    apart i q d same m old = absurd (none m (subst (λ (x : Nexus). IsDebt s b m x) (sym (own_nexus i q d same)) old))

-- A command ends otherwise, and its initiator leaves the hold.
command_fetches : (s : ScenarioValue) (b : Sent) (holds : List Nexus) (id : ProcId) (y : Nexus) → id.sense ≡ false
    → NoDebt s b y → Debts s b holds → Debts s (record b { over = process id ∷ b.over }) (nexuses_without holds y)
command_fetches s b holds id y e none h = fewer_debts s b (record b { over = process id ∷ b.over }) holds
    (nexuses_without holds y) refl (one_over b id) (λ n z. inl (over_before b id n e z))
    (λ n q d f z. stays_held holds y q (λ same. none n (subst (λ (x : Nexus). IsDebt s b n x) (sym same) f)) z) h

ended : (s : ScenarioValue) (b : Story) (a : Array) (id : ProcId) (status : ℕ)
    → IsSound s a → PaysWell s b.sent (Event.End id status) → Debts s b.sent a.holds
    → IfHolds (λ holds. Debts s (story_after_event s b (Event.End id status)).sent holds)
    (Steps.end_step a status (Steps.running_process a id))
ended s b a id status sound well h = ended_so s (λ holds. Debts s c holds) a id status sound after
  where
    c : Sent
    c = (story_after_event s b (Event.End id status)).sent

    ends : Story
    ends = story_with_end b id (by_status status)

    plain : (q : Bool) → (not id.sense && status == CHECK_CONDITION) ≡ q → q ≡ false
        → c ≡ record b.sent { over = process id ∷ b.sent.over }
    plain q z f =
        λ i. (if (z ∙ f) i then record ends { sent = record ends.sent { checks = ends.sent.checks ++ id.command ∷ [] } }
        else ends).sent

    checking : id.sense ≡ false → (status == CHECK_CONDITION) ≡ true
        → c ≡ record b.sent { over = process id ∷ b.sent.over; checks = b.sent.checks ++ id.command ∷ [] }
    checking e f = λ i. (if not (e i) && f i
        then record ends { sent = record ends.sent { checks = ends.sent.checks ++ id.command ∷ [] } } else ends).sent

    sense_plain : id.sense ≡ true → c ≡ record b.sent { over = process id ∷ b.sent.over }
    sense_plain e = plain (not id.sense && status == CHECK_CONDITION) refl (λ i. not (e i) && status == CHECK_CONDITION)

    command_plain : (status == CHECK_CONDITION) ≡ false → c ≡ record b.sent { over = process id ∷ b.sent.over }
    command_plain f =
        plain (not id.sense && status == CHECK_CONDITION) refl ((λ i. not id.sense && f i) ∙ and_false (not id.sense))

    moved : (holds : List Nexus) (x : Sent) → c ≡ x → Debts s x holds → Debts s c holds
    moved holds x e d = subst (λ (y : Sent). Debts s y holds) (sym e) d

    after : (l : Process) (reply : Reply) → OfCommand s id l → (reply.status == status) ≡ true
        → Debts s c (Steps.after_status a l reply).holds
    after l reply of z = by (reply.status == CHECK_CONDITION) refl
        (reply.status == GOOD && is_request_sense (command_of l.cdb)) refl id.sense refl
      where
        same : reply.status ≡ status
        same = eqb-true reply.status status z

        checks : (q : Bool) → (reply.status == CHECK_CONDITION) ≡ q → (status == CHECK_CONDITION) ≡ q
        checks q f = ap (λ (m : ℕ). m == CHECK_CONDITION) (sym same) ∙ f

        nexus : nexus_of_command of.def ≡ nexus_of l
        nexus = λ i. record { initiator = of.host_is i; target = of.target_is i; unit = of.unit_is i }

        none : id.sense ≡ false → NoDebt s b.sent (nexus_of l)
        none e = subst (λ (x : Nexus). NoDebt s b.sent x) nexus ((well.1 e).1 of.def of.def_is)

        by : (q : Bool) → (reply.status == CHECK_CONDITION) ≡ q
            → (t : Bool) → (reply.status == GOOD && is_request_sense (command_of l.cdb)) ≡ t → (x : Bool) → id.sense ≡ x
            → Debts s c (if q then record a {
              senses = (nexus_of l, reply.sense) ∷ senses_without a.senses (nexus_of l);
              holds = nexus_of l ∷ nexuses_without a.holds (nexus_of l);
            } else if t then record a {
              senses = senses_without a.senses (nexus_of l);
              holds = nexuses_without a.holds (nexus_of l);
            } else a).holds
        by true f t g true e = no_check status (well.0 e).0 (checks true f)
        by true f t g false e =
            let is = checking e (checks true f) in
            check_added s b.sent c a.holds id (nexus_of l) e (ap (λ (x : Sent). x.over) is)
            (ap (λ (x : Sent). x.checks) is) of.def of.def_is nexus (none e) h
        by false f true g true e =
            moved (nexuses_without a.holds (nexus_of l)) _ (sense_plain e) (sense_over s b.sent a.holds id
            (nexus_of l) e (record { def = of.def; def_is = of.def_is; nexus_is = nexus; owed = (well.0 e).1 }) h)
        by false f true g false e = moved (nexuses_without a.holds (nexus_of l)) _ (command_plain (checks false f))
            (command_fetches s b.sent a.holds id (nexus_of l) e (none e) h)
        by false f false g true e =
            wrong (sym (λ i. (ap (λ (m : ℕ). m == GOOD) same ∙ (well.0 e).0) i && of.fetches e i) ∙ g)
        by false f false g false e =
            moved a.holds _ (command_plain (checks false f)) (command_over s b.sent a.holds id e h)

-- ---- an abort, or RST

-- A REQUEST SENSE that is over after it was over before it, or is stopped of a command that was checked.
ends_back : (drops stops : CmdDef → Bool) (e : Ending) (i : ℕ) (commands : List CmdDef) (b : Story) (l : ℕ)
    → has_item (story_with_ends drops stops e i commands b).sent.over (sense_item l) ≡ true
    → (has_item b.sent.over (sense_item l) ≡ true) ⊎ (list_any (λ k. k == l) b.sent.checks ≡ true)
ends_back drops stops e i [] b l o = inl o
ends_back drops stops e i (c ∷ commands) b l o = go (is_open b.sent i && drops c)
    (stops c && list_any (λ k. k == i) b.sent.checks) refl (ends_back drops stops e (i + 1) commands next l o)
  where
    next : Story
    next =
        if is_open b.sent i && drops c then story_with_end b (record { command = i; sense = false }) e
        else if stops c && list_any (λ k. k == i) b.sent.checks then story_with_over b (sense_item i)
        else b

    go : (q r : Bool) → (stops c && list_any (λ k. k == i) b.sent.checks) ≡ r
        → (has_item (if q then story_with_end b (record { command = i; sense = false }) e
        else if r then story_with_over b (sense_item i) else b).sent.over (sense_item l) ≡ true)
        ⊎ (list_any (λ k. k == l) (if q then story_with_end b (record { command = i; sense = false }) e
        else if r then story_with_over b (sense_item i) else b).sent.checks ≡ true)
        → (has_item b.sent.over (sense_item l) ≡ true) ⊎ (list_any (λ k. k == l) b.sent.checks ≡ true)
    go true r z (inl x) = inl (or_second (same_item (command_item i) (sense_item l))
        (has_item b.sent.over (sense_item l)) x (command_apart i l))
    go true r z (inr x) = inr x
    go false true z (inl x) =
        elim (or_cases (same_item (sense_item i) (sense_item l)) (has_item b.sent.over (sense_item l)) x) [
          | inl y ↦ inr (ap (λ (m : ℕ). list_any (λ k. k == m) b.sent.checks)
              (sym (eqb-true i l (and_first (i == l) (same_bool true true) y)))
              ∙ and_second (stops c) (list_any (λ k. k == i) b.sent.checks) z)
          | inr y ↦ inl y
        ]
    go false true z (inr x) = inr x
    go false false z h = h

-- What stands in the hold for a sense that it does not stop has to stay.
ends_debts : (s : ScenarioValue) (drops stops : CmdDef → Bool) (e : Ending) (b : Story) (holds kept : List Nexus)
    → AreChecked b.sent → Keeps b.sent (story_with_ends drops stops e 1 s.commands b).sent
    → ((def : CmdDef) (q : Nexus) → stops def ≡ false → nexus_of_command def ≡ q → in_hold holds q ≡ true
    → in_hold kept q ≡ true) → Debts s b.sent holds → Debts s (story_with_ends drops stops e 1 s.commands b).sent kept
ends_debts s drops stops e b holds kept checked more keep h = fewer_debts s b.sent c holds kept
    (ends_checks drops stops e 1 s.commands b) more (λ m z. ends_back drops stops e 1 s.commands b m z)
    (λ m q d f z. keep d.def q (unstopped m q d f (stops d.def) refl) d.nexus_is z) h
  where
    c : Sent
    c = (story_with_ends drops stops e 1 s.commands b).sent

    unstopped : (m : ℕ) (q : Nexus) (d : IsDebt s c m q) → IsDebt s b.sent m q → (x : Bool) → stops d.def ≡ x
        → stops d.def ≡ false
    unstopped m q d f false z = z
    unstopped m q d f true z =
        wrong (sym (ends_senses s drops stops e b m d.def d.def_is z checked (is_checked b.sent m f.owed))
        ∙ is_not_over c m d.owed)

aborted : (s : ScenarioValue) (b : Story) (a : Array) (i t l : ℕ) (what : AbortKind)
    → AreChecked b.sent → Debts s b.sent a.holds
    → Debts s (story_after_event s b (Event.Aborted i t l what)).sent (Steps.abort_step s a i t l what).holds
aborted s b a i t l what checked h = ends_debts s (is_aborted i t l what)
    (is_sense_stopped i t l what) by_abort b a.holds (Steps.abort_step s a i t l what).holds checked
    (λ m z. (events_grow s b (Event.Aborted i t l what ∷ [])).over (sense_item m) z) (stays what) h
  where
    stays : (what : AbortKind) (def : CmdDef) (q : Nexus) → is_sense_stopped i t l what def ≡ false
        → nexus_of_command def ≡ q → in_hold a.holds q ≡ true → in_hold (Steps.abort_step s a i t l what).holds q ≡ true
    stays AbortKind.All def q e is z = stays_held a.holds (nexus_at i t l) q (λ same. wrong
        (sym (ap (λ (x : Nexus). same_nexus x (nexus_at i t l)) (is ∙ sym same) ∙ self_nexus (nexus_at i t l)) ∙ e)) z
    stays (AbortKind.Tag tag) def q e is z = z
    stays AbortKind.WholeQueue def q e is z = ap (λ (x : List Nexus). in_hold x q) (cleared_holds i
        (Steps.unit_processes (unit_state_at a.units t l)) (Steps.without_dropped a (λ p. Steps.is_of_unit p t l)))
        ∙ z
    stays AbortKind.Device def q e is z =
        ap (λ (x : List Nexus). in_hold x q)
        (all_reset_holds s.hosts a.units (λ u. u.target == t)
        (record (Steps.without_dropped a (λ p. p.target == t)) {
          senses = Steps.kept_senses (λ r. r.target == t) a.senses;
          holds = Steps.kept_nexuses
              (λ r. r.target == t) a.holds;
        }))
        ∙ kept_held (λ r. r.target == t) a.holds q (ap (λ (x : Nexus). x.target == t) (sym is) ∙ e) z

-- ---- any event

event_pays : (s : ScenarioValue) (b : Story) (a : Array) (event : Event) → IsSound s a
    → AreChecked b.sent → PaysWell s b.sent event → Debts s b.sent a.holds
    → IfHolds (λ holds. Debts s (story_after_event s b event).sent holds) (Steps.event_step s a event)
event_pays s b a (Event.Accept id) sound checked well h = accepted (λ holds. Debts s b.sent holds) a (process_of s id) h
event_pays s b a (Event.Refuse id) sound checked well h = refused (λ holds. Debts s b.sent holds) a (process_of s id) h
event_pays s b a (Event.Run id) sound checked well h =
    run (λ holds. Debts s b.sent holds) a (is_some (guest_at a.guests id)) (Steps.running_process a id) h
event_pays s b a (Event.Fail id code) sound checked well h = failed (λ holds. Debts s b.sent holds) s a id
    (check_condition (sense_of ABORTED_COMMAND code 0x00)) (Steps.running_process a id) h
event_pays s b a (Event.End id status) sound checked well h = ended s b a id status sound well h
event_pays s b a (Event.Lost id) sound checked well h = if_none
    (λ holds. Debts s (story_after_event s b (Event.Lost id)).sent holds) (Steps.has_ended a id) _
    (command_over s b.sent a.holds id well h)
event_pays s b a (Event.Aborted i t n what) sound checked well h = aborted s b a i t n what checked h
event_pays s b a (Event.Reset dev) sound checked well h = ends_debts s (λ x. true) (λ x. true) by_reset b a.holds
    (Steps.reset_step s a).holds checked (λ m z. (events_grow s b (Event.Reset dev ∷ [])).over (sense_item m) z)
    (λ def q e is z. wrong e) h

pub step_pays : (s : ScenarioValue) (b : Story) (a : Array) (event : Event)
    → IsSound s a → AreChecked b.sent → PaysWell s b.sent event → Debts s b.sent a.holds
    → IfHolds (λ holds. Debts s (story_after_event s b event).sent holds) (Steps.step s event a)
step_pays s b a event sound checked well h = if_settled (λ holds. Debts s (story_after_event s b event).sent holds)
    (Steps.event_step s a event) (event_pays s b a event sound checked well h)
