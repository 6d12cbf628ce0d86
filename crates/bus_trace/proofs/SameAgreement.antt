-- Being the same agreement is an equivalence.
use Rattle.std.proofs.Common.{◌≡◌, ◌≢◌, true, arith}
use Rattle.std.proofs.lemmas.Bool.Decides.{nat_tests}
use Rattle.bus_trace.specs.Agreements.{same_agreement}
use Rattle.bus_trace.specs.declared.agreements.Agreement.{Agreement}

pub itself : (a : Agreement) → same_agreement a a ≡ true
itself a = grind (arith, nat_tests)

pub turned : (a b : Agreement) → same_agreement a b ≡ true → same_agreement b a ≡ true
turned a b e = grind (arith, nat_tests)

pub joined : (a b c : Agreement) → same_agreement a b ≡ true → same_agreement b c ≡ true → same_agreement a c ≡ true
joined a b c e f = grind (arith, nat_tests)

pub asynchronous : (a b : Agreement) → a.offset ≡ 0 → b.offset ≡ 0 → same_agreement a b ≡ true
asynchronous a b e f = grind (arith, nat_tests)

pub equal : (a b : Agreement) → a.offset ≢ 0 → same_agreement a b ≡ true → a ≡ b
equal a b n e =
    let period : a.period ≡ b.period = grind (arith, nat_tests) in
    let offset : a.offset ≡ b.offset = grind (arith, nat_tests) in
    λ i. record { period = period i; offset = offset i }
