-- MESSAGE OUT: fewer words are left as REQ rises, and no more as ACK does.
use Rattle.measure_laws.proofs
use proofs.Names.{inl, inr, ℕ, suc, ◌≡◌, ◌≤◌, ◌<◌, ◌⊎◌, ◌∙◌, Bool, true, false, length, refl, ap, arith, eqb-true, ◌+◌}
use proofs.Names.{◌-◌, ◌==◌, if◌then◌else◌, Handshakes, Speech, repeated, words_left}

-- As the words are left by numbers, where REQ has risen in the phase.
abbrev pub said_left : (struck asked : Bool) → (place words : ℕ) → ℕ
said_left struck false place words = if place == 0 then repeated struck words else words - place + repeated struck words
said_left struck true place words = if place == 0 then words - 1 else words - (place + 1) + repeated struck words

pub words_said : (struck asked : Bool) (h : Handshakes) (x : Speech) → (h.requests == 0) ≡ false
    → words_left struck asked h x ≡ said_left struck asked x.place (length x.words)
words_said struck true h x e =
    ap (λ (q : Bool). if q then length x.words else said_left struck true x.place (length x.words)) e
words_said struck false h x e =
    ap (λ (q : Bool). if q then length x.words else said_left struck false x.place (length x.words)) e

not_first : (place words : ℕ) (struck : Bool)
    → said_left struck false (place + 1) words ≡ words - (place + 1) + repeated struck words
not_first place words struck = go ((place + 1) == 0) refl
  where
    go : (q : Bool) → ((place + 1) == 0) ≡ q
        → (if q then repeated struck words else words - (place + 1) + repeated struck words)
        ≡ words - (place + 1) + repeated struck words
    go true e = let z = eqb-true (place + 1) 0 e in absurd (omega (arith, z))
    go false e = refl

-- A byte crosses: ACK rises.
pub says_by : (struck last attends : Bool) (place words : ℕ) → ((place == 0) ≡ true → (last ≡ true) ⊎ (struck ≡ false))
    → said_left (if last then false else struck) false (if attends then place + 1 else 0) words
    ≤ said_left struck true place words
says_by struck last attends place words first = go (place == 0) refl
  where
    less : (l r : Bool) → repeated (if l then false else r) words ≤ repeated r words
    less true true = omega arith
    less true false = omega arith
    less false r = omega arith

    none : (last ≡ true) ⊎ (struck ≡ false) → repeated (if last then false else struck) words ≡ 0
    none (inl e) = ap (λ (l : Bool). repeated (if l then false else struck) words) e
    none (inr e) = ap (λ (x : Bool). repeated (if last then false else x) words) e ∙ both last
      where
        both : (l : Bool) → repeated (if l then false else false) words ≡ 0
        both true = refl
        both false = refl

    after : (a : Bool) → said_left (if last then false else struck) false (if a then place + 1 else 0) words
        ≤ words - (place + 1) + repeated (if last then false else struck) words
    after true = let z = not_first place words (if last then false else struck) in omega (arith, z)
    after false = omega arith

    go : (q : Bool) → (place == 0) ≡ q
        → said_left (if last then false else struck) false (if attends then place + 1 else 0) words
        ≤ (if q then words - 1 else words - (place + 1) + repeated struck words)
    go true e = let a = after attends in let z = none (first e) in let p = eqb-true place 0 e in omega (arith, a, z, p)
    go false e = let a = after attends in let z = less last struck in omega (arith, a, z)

-- REQ rises again.
pub hears_by : (struck : Bool) (place words : ℕ) → ((place == 0) ≡ true → struck ≡ true) → place < words
    → suc (said_left struck true place words) ≤ said_left struck false place words
hears_by struck place words first there = go (place == 0) refl
  where
    go : (q : Bool) → (place == 0) ≡ q → suc (if q then words - 1 else words - (place + 1) + repeated struck words)
        ≤ (if q then repeated struck words else words - place + repeated struck words)
    go true e =
        let z : repeated struck words ≡ words = ap (λ (x : Bool). repeated x words) (first e) in
        omega (arith, z, there)
    go false e = omega (arith, there)
