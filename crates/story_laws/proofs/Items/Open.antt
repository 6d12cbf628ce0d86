-- Open commands of one initiator do not clash, so that names find no command but the one that they name (6.6.17, 7.8).
use Rattle.story_laws.proofs
use proofs.Names.{inl, inr, ℕ, zero, suc, ◌≡◌, ◌⊎◌, ◌+◌, Bool, true, false, not, ◌&&◌, ◌||◌, ◌∙◌, List, [], ◌∷◌, Option}
use proofs.Names.{Some, None, refl, sym, ap, subst, arith, ◌==◌, length, not-true, eqb-true, or_parts, or_cases}
use proofs.Names.{same_Some, list_any, if◌then◌else◌, nat_le, nat_lt, wrong, and_first, and_second, eq_self}
use proofs.Names.{none_between, plus_none, ProcId, ScenarioValue, CmdDef, same_number, tag_number, command_at, Item}
use proofs.Names.{process, abort, same_item, has_item, command_item, sense_item, Sent, is_open, open_from, is_tag_clash}
use proofs.Names.{is_clash, open_limit_of, may_send, is_of_nexus, is_open_sense, named_item_from, id_is, none_some}
use proofs.Names.{IsNext, is_sense, NoClash}
use Rattle.row_laws.specs.ItemFacts.{is_abort, is_command}

-- ---- items

pub item_is : (a b : Item) → same_item a b ≡ true → a ≡ b
item_is (process p) (process q) e = ap process (id_is p q e)
item_is (abort k) (abort l) e = ap abort (eqb-true k l e)
item_is (process p) (abort l) e = wrong (sym e)
item_is (abort k) (process q) e = wrong (sym e)

abbrev or_id : ProcId → Item → ProcId
or_id id (process p) = p
or_id id (abort k) = id

pub same_process : (d q : ProcId) → process d ≡ process q → d ≡ q
same_process d q e = ap (or_id d) e

no_abort : (m : ℕ) (d : ProcId) → abort m ≡ process d → ⊥
no_abort m d e = absurd cc

-- ---- one is sent

pub opened : (b : Sent) (item : Item) (m : ℕ) → is_open (record b { sent = item ∷ b.sent }) m ≡ true
    → (item ≡ command_item m) ⊎ (is_open b m ≡ true)
opened b item m e = elim (or_cases (same_item item (command_item m)) (has_item b.sent (command_item m)) (and_first
    (same_item item (command_item m) || has_item b.sent (command_item m)) (not (has_item b.over (command_item m))) e)) [
      | inl z ↦ inl (item_is item (command_item m) z)
      | inr z ↦ inr ((λ i. z i && not (has_item b.over (command_item m)))
          ∙ and_second (same_item item (command_item m) || has_item b.sent (command_item m))
          (not (has_item b.over (command_item m))) e)
    ]

clash_back : (c d : CmdDef) → is_clash c d ≡ true → is_clash d c ≡ true
clash_back c d e =
    let w = and_first (c.target == d.target && c.unit == d.unit)
    (is_tag_clash (tag_number c.tag) (tag_number d.tag)) e in
    let t : c.target ≡ d.target = eqb-true c.target d.target (and_first (c.target == d.target) (c.unit == d.unit) w) in
    let u : c.unit ≡ d.unit = eqb-true c.unit d.unit (and_second (c.target == d.target) (c.unit == d.unit) w) in
    (λ i. (d.target == t i && d.unit == u i) && is_tag_clash (tag_number d.tag) (tag_number c.tag))
    ∙ (λ i. (eq_self d.target i && eq_self d.unit i) && is_tag_clash (tag_number d.tag) (tag_number c.tag))
    ∙ by (tag_number c.tag) (tag_number d.tag)
    (and_second (c.target == d.target && c.unit == d.unit) (is_tag_clash (tag_number c.tag) (tag_number d.tag)) e)
  where
    by : (x y : Option ℕ) → is_tag_clash x y ≡ true → is_tag_clash y x ≡ true
    by x None z = refl
    by None (Some a) z = refl
    by (Some a) (Some r) z = ap (λ (m : ℕ). r == m) (eqb-true a r z) ∙ eq_self r

free_of : (c : CmdDef) (b : Sent) (dev l : ℕ) (commands : List CmdDef)
    → list_any (λ (d : CmdDef). is_clash c d) (open_from b dev (suc l) commands) ≡ false → (m : ℕ) (d : CmdDef)
    → command_at commands (suc m) ≡ Some d → d.host ≡ dev → is_open b (suc (l + m)) ≡ true → is_clash c d ≡ false
free_of c b dev l [] e m d at h o = absurd (none_some d at)
free_of c b dev l (x ∷ commands) e zero d at h o =
    let same : x ≡ d = same_Some x d at in
    let now : is_open b (suc l) ≡ true = ap (λ (w : ℕ). is_open b (suc w)) (none_more l) ∙ o in
    let own : (x.host == dev) ≡ true = ap (λ (u : ℕ). u == dev) (ap (λ (y : CmdDef). y.host) same ∙ h) ∙ eq_self dev in
    let all = sym (λ i. list_any (λ (y : CmdDef). is_clash c y)
    (if own i && now i then x ∷ open_from b dev (suc l + 1) commands else open_from b dev (suc l + 1) commands)) ∙ e in
    ap (is_clash c) (sym same)
    ∙ (or_parts (is_clash c x) (list_any (λ (y : CmdDef). is_clash c y) (open_from b dev (suc l + 1) commands)) all).0
  where
    none_more : (w : ℕ) → w ≡ w + 0
    none_more w = omega arith
free_of c b dev l (x ∷ commands) e (suc m) d at h o = free_of c b dev (suc l) commands
    (later (x.host == dev && is_open b (suc l)) refl) m d at h (ap (λ (w : ℕ). is_open b (suc w)) (sym (moved l m)) ∙ o)
  where
    moved : (w u : ℕ) → w + suc u ≡ suc w + u
    moved w u = omega arith

    one_more : (w : ℕ) → suc (suc w) ≡ suc w + 1
    one_more w = omega arith

    later : (q : Bool) → (x.host == dev && is_open b (suc l)) ≡ q
        → list_any (λ (y : CmdDef). is_clash c y) (open_from b dev (suc (suc l)) commands) ≡ false
    later q z = ap (λ (w : ℕ). list_any (λ (y : CmdDef). is_clash c y) (open_from b dev w commands)) (one_more l)
        ∙ by q (sym (ap (λ (r : Bool). list_any (λ (y : CmdDef). is_clash c y)
        (if r then x ∷ open_from b dev (suc l + 1) commands else open_from b dev (suc l + 1) commands)) z) ∙ e)
      where
        by : (r : Bool) → list_any (λ (y : CmdDef). is_clash c y)
            (if r then x ∷ open_from b dev (suc l + 1) commands else open_from b dev (suc l + 1) commands) ≡ false
            → list_any (λ (y : CmdDef). is_clash c y) (open_from b dev (suc l + 1) commands) ≡ false
        by true f = (or_parts (is_clash c x)
            (list_any (λ (y : CmdDef). is_clash c y) (open_from b dev (suc l + 1) commands)) f).1
        by false f = f

-- A command that may be sent clashes with no open one of its initiator.
may_free : (s : ScenarioValue) (b : Sent) (dev time : ℕ) (c : CmdDef)
    → may_send s time (open_from b dev 1 s.commands) c ≡ true → (m : ℕ) (d : CmdDef) → command_at s.commands m ≡ Some d
    → d.host ≡ dev → is_open b m ≡ true → is_clash c d ≡ false
may_free s b dev time c e zero d at h o = absurd (none_some d (sym (none_at s.commands) ∙ at))
  where
    none_at : (commands : List CmdDef) → command_at commands 0 ≡ None
    none_at [] = refl
    none_at (x ∷ commands) = refl
may_free s b dev time c e (suc m) d at h o =
    let now = open_from b dev 1 s.commands in
    free_of c b dev 0 s.commands (not-true (list_any (λ (x : CmdDef). is_clash c x) now)
    (and_second (nat_le c.at time && nat_lt (length now) (open_limit_of s.hosts c.host))
    (not (list_any (λ (x : CmdDef). is_clash c x) now)) e)) m d at h
    (ap (λ (i : ℕ). is_open b (suc i)) (none_more m) ∙ o)
  where
    none_more : (i : ℕ) → 0 + i ≡ i
    none_more i = omega arith

pub next_free : (s : ScenarioValue) (b : Sent) (dev : ℕ) (item : Item) → IsNext s b dev item
    → (i : ℕ) → item ≡ command_item i → (c : CmdDef) → command_at s.commands i ≡ Some c → (m : ℕ) (d : CmdDef)
    → command_at s.commands m ≡ Some d → c.host ≡ d.host → is_open b m ≡ true → is_clash c d ≡ false
next_free s b dev _ (is_abort k z) i e c at m d ad h o = absurd (no_abort k _ e)
next_free s b dev _ (is_sense k x ex own there z) i e c at m d ad h o =
    wrong (ap (λ (a : ProcId). a.sense) (same_process _ _ e))
next_free s b dev _ (is_command k time x ex own z may none) i e c at m d ad h o =
    let same : k ≡ i = ap (λ (a : ProcId). a.command) (same_process _ _ e) in
    let it : x ≡ c = same_Some x c (sym ex ∙ ap (command_at s.commands) same ∙ at) in
    ap (λ (y : CmdDef). is_clash y d) (sym it)
    ∙ may_free s b dev time x may m d ad (sym h ∙ ap (λ (y : CmdDef). y.host) (sym it) ∙ own) o

pub sent_clash : (s : ScenarioValue) (b : Sent) (dev : ℕ) (item : Item) → IsNext s b dev item → NoClash s b
    → NoClash s (record b { sent = item ∷ b.sent })
sent_clash s b dev item next h n m c d at ad own on om z = elim (opened b item n on) [
  | inl e ↦ elim (opened b item m om) [
    | inl f ↦ ap (λ (i : ProcId). i.command) (same_process _ _ (sym e ∙ f))
    | inr f ↦ wrong (sym z ∙ next_free s b dev item next n e c at m d ad own f)
  ]
  | inr e ↦ elim (opened b item m om) [
    | inl f ↦ wrong (sym (clash_back c d z) ∙ next_free s b dev item next m f d ad n c at (sym own) e)
    | inr f ↦ h n m c d at ad own e f z
  ]
]

-- One that is over is open no more.
pub fewer_clash : (s : ScenarioValue) (a b : Sent) → ((i : ℕ) → is_open b i ≡ true → is_open a i ≡ true) → NoClash s a
    → NoClash s b
fewer_clash s a b fewer h i m c d at ad own on om z = h i m c d at ad own (fewer i on) (fewer m om) z

-- ---- what names find

-- Among the commands from this one on: the one that is open there and has the tag, or none.
pub record IsNamed (s : ScenarioValue) (b : Sent) (i t u : ℕ) (tag : Option ℕ) (n0 : ℕ) : Type 0 where
  pub def : CmdDef
  pub def_is : command_at s.commands n0 ≡ Some def
  pub nexus : is_of_nexus def i t u ≡ true
  pub opens : is_open b n0 ≡ true
  pub tagged : (x : Option ℕ) → same_number x tag ≡ true → is_tag_clash x (tag_number def.tag) ≡ true
  pub senseless : (m : ℕ) → is_open_sense b m ≡ false

host_of_nexus : (c : CmdDef) (i t u : ℕ) → is_of_nexus c i t u ≡ true → c.host ≡ i
host_of_nexus c i t u e = eqb-true c.host i
    (and_first (c.host == i) (c.target == t) (and_first (c.host == i && c.target == t) (c.unit == u) e))

target_of_nexus : (c : CmdDef) (i t u : ℕ) → is_of_nexus c i t u ≡ true → c.target ≡ t
target_of_nexus c i t u e = eqb-true c.target t
    (and_second (c.host == i) (c.target == t) (and_first (c.host == i && c.target == t) (c.unit == u) e))

unit_of_nexus : (c : CmdDef) (i t u : ℕ) → is_of_nexus c i t u ≡ true → c.unit ≡ u
unit_of_nexus c i t u e = eqb-true c.unit u (and_second (c.host == i && c.target == t) (c.unit == u) e)

hit_is : (s : ScenarioValue) (b : Sent) (i t u : ℕ) (tag : Option ℕ) (n0 m : ℕ) (c : CmdDef)
    → NoClash s b → (w : IsNamed s b i t u tag n0) → command_at s.commands m ≡ Some c
    → (is_of_nexus c i t u && is_open b m && same_number (tag_number c.tag) tag) ≡ true → m ≡ n0
hit_is s b i t u tag n0 m c h w at e =
    let here = and_first (is_of_nexus c i t u && is_open b m) (same_number (tag_number c.tag) tag) e in
    let nexus = and_first (is_of_nexus c i t u) (is_open b m) here in
    let target : c.target ≡ w.def.target = target_of_nexus c i t u nexus ∙ sym (target_of_nexus w.def i t u w.nexus) in
    let unit : c.unit ≡ w.def.unit = unit_of_nexus c i t u nexus ∙ sym (unit_of_nexus w.def i t u w.nexus) in
    h m n0 c w.def at w.def_is (host_of_nexus c i t u nexus ∙ sym (host_of_nexus w.def i t u w.nexus))
    (and_second (is_of_nexus c i t u) (is_open b m) here) w.opens
    ((λ j. (target j == w.def.target && unit j == w.def.unit) && is_tag_clash (tag_number c.tag) (tag_number w.def.tag))
    ∙ (λ j. (eq_self w.def.target j && eq_self w.def.unit j) && w.tagged (tag_number c.tag)
    (and_second (is_of_nexus c i t u && is_open b m) (same_number (tag_number c.tag) tag) e) j))

named_from : (s : ScenarioValue) (b : Sent) (i t u : ℕ) (tag : Option ℕ) (n0 : ℕ)
    → NoClash s b → IsNamed s b i t u tag n0 → (l : ℕ) (commands : List CmdDef)
    → ((m : ℕ) → command_at commands (suc m) ≡ command_at s.commands (suc (l + m)))
    → (named_item_from b i t u tag (suc l) commands ≡ Some (command_item n0))
    ⊎ (named_item_from b i t u tag (suc l) commands ≡ None)
named_from s b i t u tag n0 h w l [] at = inr refl
named_from s b i t u tag n0 h w l (c ∷ commands) at = go (is_of_nexus c i t u && is_open b (suc l)
    && same_number (tag_number c.tag) tag) (is_of_nexus c i t u && is_open_sense b (suc l) && same_number None tag) refl
    ((λ k. is_of_nexus c i t u && w.senseless (suc l) k && same_number None tag)
    ∙ none_between (is_of_nexus c i t u) (same_number None tag))
    (subst (λ (v : ℕ). (named_item_from b i t u tag v commands ≡ Some (command_item n0))
    ⊎ (named_item_from b i t u tag v commands ≡ None)) (one_more l) (named_from s b i t u tag n0 h w (suc l) commands
    (λ m. at (suc m) ∙ ap (λ (v : ℕ). command_at s.commands (suc v)) (moved l m))))
  where
    one_more : (v : ℕ) → suc (suc v) ≡ suc v + 1
    one_more v = omega arith

    moved : (v m : ℕ) → v + suc m ≡ suc v + m
    moved v m = omega arith

    own : command_at s.commands (suc l) ≡ Some c
    own = ap (λ (v : ℕ). command_at s.commands (suc v)) (sym (plus_none l)) ∙ sym (at 0)

    go : (q r : Bool) → (is_of_nexus c i t u && is_open b (suc l) && same_number (tag_number c.tag) tag) ≡ q → r ≡ false
        → (named_item_from b i t u tag (suc l + 1) commands ≡ Some (command_item n0))
        ⊎ (named_item_from b i t u tag (suc l + 1) commands ≡ None)
        → ((if q then Some (command_item (suc l)) else if r then Some (sense_item (suc l))
        else named_item_from b i t u tag (suc l + 1) commands) ≡ Some (command_item n0))
        ⊎ ((if q then Some (command_item (suc l))
        else if r then Some (sense_item (suc l)) else named_item_from b i t u tag (suc l + 1) commands) ≡ None)
    go true r z y rest = inl (ap (λ (v : ℕ). Some (command_item v)) (hit_is s b i t u tag n0 (suc l) c h w own z))
    go false true z y rest = wrong y
    go false false z y rest = rest

pub named_is : (s : ScenarioValue) (b : Sent) (i t u : ℕ) (tag : Option ℕ) (n0 : ℕ) → NoClash s b
    → IsNamed s b i t u tag n0 → (named_item_from b i t u tag 1 s.commands ≡ Some (command_item n0))
    ⊎ (named_item_from b i t u tag 1 s.commands ≡ None)
named_is s b i t u tag n0 h w =
    named_from s b i t u tag n0 h w 0 s.commands (λ m. ap (λ (l : ℕ). command_at s.commands (suc l)) (none_more m))
  where
    none_more : (m : ℕ) → m ≡ 0 + m
    none_more m = omega arith
