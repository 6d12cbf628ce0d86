-- What a step that was taken shows.
use Rattle.std.proofs.Common.{◌≡◌, ℕ, ◌^◌, ◌<◌, ◌≤◌, Bool, true, false, cond, ◌&&◌, Some, None, Result, Ok, Err, refl}
use Rattle.std.proofs.Common.{sym, ap, subst, arith}
use Rattle.std.specs.Prelude.{nat_le, ◌==◌, ◌||◌}
use Rattle.std.proofs.lemmas.Bool.Decides.{nat_tests}
use Rattle.bus_base.specs.declared.events.AbortKind.{AbortKind}
use Rattle.text_words.specs.Words.{Number}
use Rattle.scenario.specs.declared.bounds.TheConstants.{LEAST_FACTOR, FACTOR_LIMIT, TAG_LIMIT, BURST_LIMIT, LEAST_SIZE}
use Rattle.scenario.specs.declared.bounds.TheConstants.{SIZE_LIMIT}
use Rattle.scenario.specs.declared.value.Policy.{Policy}
use Rattle.scenario.specs.declared.value.Tag.{Tag}
use Rattle.scenario.specs.declared.form.PolicyForm.{PolicyForm}
use Rattle.scenario.specs.declared.form.PolicyForm.TheVariants as policies
use Rattle.scenario.specs.declared.form.TagForm.{TagForm}
use Rattle.scenario.specs.declared.form.TagForm.TheVariants as tags
use Rattle.scenario.specs.declared.form.WhatForm.{WhatForm}
use Rattle.scenario.specs.declared.form.WhatForm.TheVariants as whats
use Rattle.scenario.specs.Reading.{◌>>=◌, guard, within, period_in, is_size, size_in, policy_in, tag_in, what_in}
use Rattle.scenario.specs.Writing.{said_policy, said_tag, said_what}
use Rattle.scenario.proofs.PartsAgain.{IsSmall, IsSmallPolicy, IsSmallTag, IsSmallWhat}

pub bind_ok : {A B : Type 0} (r : Result A ℕ) (f : A → Result B ℕ) (y : B) → (r >>= f) ≡ Ok y
    → (x : A) × (r ≡ Ok x) × (f x ≡ Ok y)
bind_ok (Ok x) f y e = (x, refl, e)
bind_ok (Err d) f y e = absurd cc

pub ok_is : {A : Type 0} (x y : A) → ◌≡◌ {A = Result A ℕ} (Ok x) (Ok y) → x ≡ y
ok_is x y e = cc

cond_ok : {A : Type 0} (t : Bool) (x y : A) (r : ℕ) → cond t (Ok x) (Err r) ≡ Ok y → (t ≡ true) × (x ≡ y)
cond_ok true x y r e = (refl, cc)
cond_ok false x y r e = absurd cc

pub guard_ok : (r : ℕ) (t : Bool) (x : Unit {0}) → guard r t ≡ Ok x → t ≡ true
guard_ok r true x e = refl
guard_ok r false x e = absurd cc

-- A number within its limits.
pub within_ok : (u : Number) (least most n : ℕ) → within u least most ≡ Ok n → (u ≡ Some n) × (least ≤ n) × (n ≤ most)
within_ok None least most n e = absurd cc
within_ok (Some m) least most n e =
    let p = cond_ok (nat_le least m && nat_le m most) m n 4 e in
    let test = p.0 in
    let same = p.1 in
    (ap (λ (k : ℕ). Some k) same, grind (arith, nat_tests), grind (arith, nat_tests))

-- A number that was read, and how it is spelled.
pub record IsRead (u : Number) (n : ℕ) : Type 0 where
  pub same : u ≡ Some n
  pub small : IsSmall u

pub read_within : (u : Number) (least most n : ℕ) → within u least most ≡ Ok n → most < 2 ^ 64 → IsRead u n
read_within u least most n e lt =
    let p = within_ok u least most n e in
    record { same = p.0; small = subst IsSmall (sym p.0) (let le = p.2 in omega arith) }

pub read_period : (u : Number) (n : ℕ) → period_in u ≡ Ok n → IsRead u n
unfolding period_in
read_period u n e =
    let a = bind_ok (within u 0 FACTOR_LIMIT) _ n e in
    let g = bind_ok (guard 4 (a.0 == 0 || nat_le LEAST_FACTOR a.0)) _ n a.2 in
    subst (IsRead u) (ok_is a.0 n g.2) (read_within u 0 FACTOR_LIMIT a.0 a.1 (omega arith))

pub read_size : (u : Number) (n : ℕ) → size_in u ≡ Ok n → IsRead u n
unfolding size_in
read_size u n e =
    let a = bind_ok (within u LEAST_SIZE SIZE_LIMIT) _ n e in
    let g = bind_ok (guard 4 (is_size a.0)) _ n a.2 in
    subst (IsRead u) (ok_is a.0 n g.2) (read_within u LEAST_SIZE SIZE_LIMIT a.0 a.1 (omega arith))

pub record IsPolicyRead (f : PolicyForm) (p : Policy) : Type 0 where
  pub same : f ≡ said_policy p
  pub small : IsSmallPolicy f

pub read_policy : (f : PolicyForm) (p : Policy) → policy_in f ≡ Ok p → IsPolicyRead f p
unfolding policy_in
read_policy policies.Never p e = subst (IsPolicyRead policies.Never) (ok_is _ p e) (record { same = refl; small = tt })
read_policy policies.Command p e =
    subst (IsPolicyRead policies.Command) (ok_is _ p e) (record { same = refl; small = tt })
read_policy (policies.Burst k) p e =
    let a = bind_ok (within k 1 BURST_LIMIT) _ p e in
    let r = read_within k 1 BURST_LIMIT a.0 a.1 (omega arith) in
    subst (IsPolicyRead (policies.Burst k)) (ok_is _ p a.2)
    (record { same = ap policies.Burst r.same; small = r.small })
read_policy (policies.NoSave k) p e =
    let a = bind_ok (within k 1 BURST_LIMIT) _ p e in
    let r = read_within k 1 BURST_LIMIT a.0 a.1 (omega arith) in
    subst (IsPolicyRead (policies.NoSave k)) (ok_is _ p a.2)
    (record { same = ap policies.NoSave r.same; small = r.small })

pub record IsTagRead (f : TagForm) (t : Tag) : Type 0 where
  pub same : f ≡ said_tag t
  pub small : IsSmallTag f

pub read_tag : (f : TagForm) (t : Tag) → tag_in f ≡ Ok t → IsTagRead f t
unfolding tag_in
read_tag tags.Untagged t e = subst (IsTagRead tags.Untagged) (ok_is _ t e) (record { same = refl; small = tt })
read_tag (tags.Simple k) t e =
    let a = bind_ok (within k 0 TAG_LIMIT) _ t e in
    let r = read_within k 0 TAG_LIMIT a.0 a.1 (omega arith) in
    subst (IsTagRead (tags.Simple k)) (ok_is _ t a.2) (record { same = ap tags.Simple r.same; small = r.small })
read_tag (tags.Ordered k) t e =
    let a = bind_ok (within k 0 TAG_LIMIT) _ t e in
    let r = read_within k 0 TAG_LIMIT a.0 a.1 (omega arith) in
    subst (IsTagRead (tags.Ordered k)) (ok_is _ t a.2) (record { same = ap tags.Ordered r.same; small = r.small })
read_tag (tags.Head k) t e =
    let a = bind_ok (within k 0 TAG_LIMIT) _ t e in
    let r = read_within k 0 TAG_LIMIT a.0 a.1 (omega arith) in
    subst (IsTagRead (tags.Head k)) (ok_is _ t a.2) (record { same = ap tags.Head r.same; small = r.small })

pub record IsWhatRead (f : WhatForm) (w : AbortKind) : Type 0 where
  pub same : f ≡ said_what w
  pub small : IsSmallWhat f

pub read_what : (f : WhatForm) (w : AbortKind) → what_in f ≡ Ok w → IsWhatRead f w
unfolding what_in
read_what whats.All w e = subst (IsWhatRead whats.All) (ok_is _ w e) (record { same = refl; small = tt })
read_what whats.Queue w e = subst (IsWhatRead whats.Queue) (ok_is _ w e) (record { same = refl; small = tt })
read_what whats.Device w e = subst (IsWhatRead whats.Device) (ok_is _ w e) (record { same = refl; small = tt })
read_what (whats.Tag k) w e =
    let a = bind_ok (within k 0 TAG_LIMIT) _ w e in
    let r = read_within k 0 TAG_LIMIT a.0 a.1 (omega arith) in
    subst (IsWhatRead (whats.Tag k)) (ok_is _ w a.2) (record { same = ap whats.Tag r.same; small = r.small })
