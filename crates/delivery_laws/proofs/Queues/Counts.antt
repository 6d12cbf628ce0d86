-- How many commands pass a test; no more processes are there than commands that are theirs, and no more commands are
-- open than all initiators together may have open.
use Rattle.delivery_laws.proofs
use proofs.Names.{ℕ, zero, suc, ◌≡◌, ◌<◌, ◌≤◌, ◌+◌, Bool, true, false, not, ◌&&◌, ◌||◌, ◌∙◌, List, [], ◌∷◌, Some, refl}
use proofs.Names.{sym, ap, subst, length, arith, inl, inr, and_from, eqb-true, and_right, cases_Bool, nat_tests}
use proofs.Names.{same_Some, if◌then◌else◌, ◌==◌, ⊤, and_first, and_second, eq_self, plus_none, wrong', and_false}
use proofs.Names.{CmdDef, HostDef, Process, command_at, same_bool, same_id, is_initiator, Sent, is_open, open_from}
use proofs.Names.{open_limit_of, most_open, one_if, none_some, plus_one, AllP}

-- ---- numbers

one_more : (a b : ℕ) → a ≡ b → suc a ≡ 1 + b
one_more a b e = omega (arith, e)

no_more : (a b : ℕ) → a ≡ b → a ≡ 0 + b
no_more a b e = omega (arith, e)

sum_less : (a b c d : ℕ) → a ≤ b → c ≤ d → a + c ≤ b + d
sum_less a b c d e f = omega (arith, e, f)

sum_less_one : (a b c d : ℕ) → a ≤ b → c + 1 ≤ d → a + c + 1 ≤ b + d
sum_less_one a b c d e f = omega (arith, e, f)

one_here : (a b c d : ℕ) → a ≡ 0 → b ≡ 1 → c ≤ d → a + c + 1 ≤ b + d
one_here a b c d e f g = omega (arith, e, f, g)

pub less_again : (a b c : ℕ) → a ≤ b → b ≤ c → a ≤ c
less_again a b c e f = omega (arith, e, f)

zero_less : (a b : ℕ) → a ≡ 0 → a ≤ b
zero_less a b e = omega (arith, e)

sum_of : (a b c d e : ℕ) → a ≡ b + c → b ≤ d → c ≤ e → a ≤ d + e
sum_of a b c d e f g h = omega (arith, f, g, h)

two_sums : (a b c d e f : ℕ) → a ≡ b + c → d ≡ e + f → a + d ≡ (b + e) + (c + f)
two_sums a b c d e f g h = omega (arith, g, h)

next_less : (a b c : ℕ) → a ≤ b → b + 1 ≤ c → suc a ≤ c
next_less a b c e f = omega (arith, e, f)

one_on : (m i l : ℕ) → m ≡ i + suc l → m ≡ i + 1 + l
one_on m i l e = omega (arith, e)

here_at : (m i : ℕ) → m ≡ i + 0 → i ≡ m
here_at m i e = omega (arith, e)

from_one : (m : ℕ) → suc m ≡ 1 + m
from_one m = omega arith

-- ---- counts

abbrev pub count_from : (ℕ → CmdDef → Bool) → ℕ → List CmdDef → ℕ
count_from t m [] = 0
count_from t m (c ∷ commands) = one_if (t m c) + count_from t (m + 1) commands

-- It passes both; or the first alone.
abbrev pub both : (ℕ → CmdDef → Bool) → (ℕ → CmdDef → Bool) → ℕ → CmdDef → Bool
both t u m c = t m c && u m c

abbrev pub less : (ℕ → CmdDef → Bool) → (ℕ → CmdDef → Bool) → ℕ → CmdDef → Bool
less t u m c = t m c && not (u m c)

abbrev pub of_host : ℕ → ℕ → CmdDef → Bool
of_host dev m c = c.host == dev

abbrev pub is_number : ℕ → ℕ → CmdDef → Bool
is_number i m c = m == i

abbrev pub is_open_of : Sent → ℕ → ℕ → CmdDef → Bool
is_open_of b dev m c = c.host == dev && is_open b m

pub open_length : (b : Sent) (dev m : ℕ) (commands : List CmdDef)
    → length (open_from b dev m commands) ≡ count_from (is_open_of b dev) m commands
open_length b dev m [] = refl
open_length b dev m (c ∷ commands) = go (c.host == dev && is_open b m) (open_length b dev (m + 1) commands)
  where
    go : (q : Bool) → length (open_from b dev (m + 1) commands) ≡ count_from (is_open_of b dev) (m + 1) commands
        → length (if q then c ∷ open_from b dev (m + 1) commands else open_from b dev (m + 1) commands)
        ≡ one_if q + count_from (is_open_of b dev) (m + 1) commands
    go true e = one_more (length (open_from b dev (m + 1) commands)) (count_from (is_open_of b dev) (m + 1) commands) e
    go false e = no_more (length (open_from b dev (m + 1) commands)) (count_from (is_open_of b dev) (m + 1) commands) e

one_less : (q r : Bool) → (q ≡ true → r ≡ true) → one_if q ≤ one_if r
one_less false r f = omega arith
one_less true r f = subst (λ (x : Bool). 1 ≤ one_if x) (sym (f refl)) (omega arith)

pub count_less : (t u : ℕ → CmdDef → Bool) (i : ℕ) (commands : List CmdDef)
    → ((m : ℕ) (c : CmdDef) → t m c ≡ true → u m c ≡ true) → count_from t i commands ≤ count_from u i commands
count_less t u i [] f = omega arith
count_less t u i (c ∷ commands) f = sum_less (one_if (t i c)) (one_if (u i c)) (count_from t (i + 1) commands)
    (count_from u (i + 1) commands) (one_less (t i c) (u i c) (f i c)) (count_less t u (i + 1) commands f)

count_none : (t : ℕ → CmdDef → Bool) (l : ℕ) (commands : List CmdDef)
    → ((m : ℕ) (c : CmdDef) → t m c ≡ false) → count_from t l commands ≡ 0
count_none t l [] f = refl
count_none t l (c ∷ commands) f = λ i. one_if (f l c i) + count_none t (l + 1) commands f i

split_one : (q r : Bool) → one_if q ≡ one_if (q && r) + one_if (q && not r)
split_one true true = refl
split_one _ _ = refl

count_split : (t u : ℕ → CmdDef → Bool) (m : ℕ) (commands : List CmdDef)
    → count_from t m commands ≡ count_from (both t u) m commands + count_from (less t u) m commands
count_split t u m [] = refl
count_split t u m (c ∷ commands) = two_sums (one_if (t m c)) (one_if (t m c && u m c)) (one_if (t m c && not (u m c)))
    (count_from t (m + 1) commands) (count_from (both t u) (m + 1) commands) (count_from (less t u) (m + 1) commands)
    (split_one (t m c) (u m c)) (count_split t u (m + 1) commands)

-- Of the commands alone that stand there.
pub count_less_at : (t u : ℕ → CmdDef → Bool) (m : ℕ) (commands : List CmdDef)
    → ((i : ℕ) (c : CmdDef) → command_at commands (suc i) ≡ Some c → t (m + i) c ≡ true → u (m + i) c ≡ true)
    → count_from t m commands ≤ count_from u m commands
count_less_at t u m [] f = omega arith
count_less_at t u m (c ∷ commands) f =
    sum_less (one_if (t m c)) (one_if (u m c)) (count_from t (m + 1) commands) (count_from u (m + 1) commands) (one_less
    (t m c) (u m c) (subst (λ (x : ℕ). t x c ≡ true → u x c ≡ true) (plus_none m) (f 0 c refl))) (count_less_at t u
    (m + 1) commands (λ i d at. subst (λ (x : ℕ). t x d ≡ true → u x d ≡ true) (plus_one m i) (f (suc i) d at)))

past : (m i : ℕ) → m < i → (i == m) ≡ false
past m i h = grind (arith, nat_tests)

later : (m i : ℕ) → m < i → m < i + 1
later m i h = omega (arith, h)

count_past : (t : ℕ → CmdDef → Bool) (m l : ℕ) (commands : List CmdDef) → m < l
    → count_from (both t (is_number m)) l commands ≡ 0
count_past t m l [] h = refl
count_past t m l (c ∷ commands) h =
    λ i. one_if (and_right (t l c) (l == m) (past m l h) i) + count_past t m (l + 1) commands (later m l h) i

one_alone : (a b : ℕ) → a ≤ 1 → b ≡ 0 → a + b ≤ 1
one_alone a b e f = omega (arith, e, f)

none_here : (a b : ℕ) → a ≡ 0 → b ≤ 1 → a + b ≤ 1
none_here a b e f = omega (arith, e, f)

at_most_one : (q : Bool) → one_if q ≤ 1
at_most_one true = omega arith
at_most_one false = omega arith

past_it : (m i : ℕ) → i ≡ m → m < i + 1
past_it m i e = omega (arith, e)

count_single : (t : ℕ → CmdDef → Bool) (m i : ℕ) (commands : List CmdDef)
    → count_from (both t (is_number m)) i commands ≤ 1
count_single t m i [] = omega arith
count_single t m i (c ∷ commands) = go (i == m) refl (count_single t m (i + 1) commands)
  where
    go : (q : Bool) → (i == m) ≡ q → count_from (both t (is_number m)) (i + 1) commands ≤ 1
        → one_if (t i c && i == m) + count_from (both t (is_number m)) (i + 1) commands ≤ 1
    go true e rest = one_alone (one_if (t i c && i == m)) (count_from (both t (is_number m)) (i + 1) commands)
        (at_most_one (t i c && i == m)) (count_past t m (i + 1) commands (past_it m i (eqb-true i m e)))
    go false e rest = none_here (one_if (t i c && i == m)) (count_from (both t (is_number m)) (i + 1) commands)
        (ap one_if (and_right (t i c) (i == m) e)) rest

sum_one : (a b c d : ℕ) → a ≡ b + c → b ≤ 1 → c ≤ d → a ≤ d + 1
sum_one a b c d e f g = omega (arith, e, f, g)

-- All that pass but the one of this number pass there.
pub count_one_more : (t u : ℕ → CmdDef → Bool) (m i : ℕ) (commands : List CmdDef)
    → ((l : ℕ) (c : CmdDef) → command_at commands (suc l) ≡ Some c → less t (is_number m) (i + l) c ≡ true
    → u (i + l) c ≡ true) → count_from t i commands ≤ count_from u i commands + 1
count_one_more t u m i commands f = sum_one (count_from t i commands) (count_from (both t (is_number m)) i commands)
    (count_from (less t (is_number m)) i commands) (count_from u i commands) (count_split t (is_number m) i commands)
    (count_single t m i commands) (count_less_at (less t (is_number m)) u i commands f)

less_first : (t u : ℕ → CmdDef → Bool) (m : ℕ) (c : CmdDef) → less t u m c ≡ true → t m c ≡ true
less_first t u m c e = and_first (t m c) (not (u m c)) e

-- One fewer without a command that passes.
count_without : (t : ℕ → CmdDef → Bool) (l w u : ℕ) (commands : List CmdDef) (c : CmdDef)
    → u ≡ l + w → command_at commands (suc w) ≡ Some c → t u c ≡ true
    → count_from (less t (is_number u)) l commands + 1 ≤ count_from t l commands
count_without t l w u [] c e at h = none_some c at
count_without t l zero u (x ∷ commands) c e at h = one_here (one_if (t l x && not (l == u))) (one_if (t l x))
    (count_from (less t (is_number u)) (l + 1) commands) (count_from t (l + 1) commands) (ap one_if gone)
    (ap one_if here) (count_less (less t (is_number u)) t (l + 1) commands (less_first t (is_number u)))
  where
    here : t l x ≡ true
    here = (λ i. t (here_at u l e i) (same_Some x c at i)) ∙ h

    gone : (t l x && not (l == u)) ≡ false
    gone = (λ i. t l x && not ((ap (λ (m : ℕ). m == u) (here_at u l e) ∙ eq_self u) i)) ∙ and_false (t l x)
count_without t l (suc w) u (x ∷ commands) c e at h = sum_less_one (one_if (t l x && not (l == u)))
    (one_if (t l x)) (count_from (less t (is_number u)) (l + 1) commands) (count_from t (l + 1) commands)
    (one_less (t l x && not (l == u)) (t l x) (less_first t (is_number u) l x))
    (count_without t (l + 1) w u commands c (one_on u l w e) at h)

-- ---- of all initiators

other_host : (a b : ℕ) → not (a == b) ≡ true → (b == a) ≡ false
other_host a b e = grind (arith, nat_tests)

pub hosts_bound : (hosts : List HostDef) (t : ℕ → CmdDef → Bool) (l : ℕ) (commands : List CmdDef)
    → ((m : ℕ) (c : CmdDef) → t m c ≡ true → is_initiator hosts c.host ≡ true)
    → ((dev : ℕ) → count_from (both t (of_host dev)) l commands ≤ open_limit_of hosts dev)
    → count_from t l commands ≤ most_open hosts
hosts_bound [] t l commands there each =
    zero_less (count_from t l commands) 0 (count_none t l commands (λ m c. go m c (t m c) refl))
  where
    go : (m : ℕ) (c : CmdDef) (q : Bool) → t m c ≡ q → q ≡ false
    go m c true e = wrong' (there m c e)
    go m c false e = refl
hosts_bound (h ∷ hosts) t l commands there each = sum_of (count_from t l commands)
    (count_from (both t (of_host h.dev)) l commands) (count_from rest l commands) h.most (most_open hosts)
    (count_split t (of_host h.dev) l commands) (subst (λ (x : ℕ). count_from (both t (of_host h.dev)) l commands ≤ x)
    (ap (λ (q : Bool). if q then h.most else open_limit_of hosts h.dev) (eq_self h.dev)) (each h.dev))
    (hosts_bound hosts rest l commands rest_there rest_each)
  where
    rest : ℕ → CmdDef → Bool
    rest = less t (of_host h.dev)

    rest_there : (m : ℕ) (c : CmdDef) → less t (of_host h.dev) m c ≡ true → is_initiator hosts c.host ≡ true
    rest_there m c e = (λ i. sym (other_host c.host h.dev (and_second (t m c) (not (c.host == h.dev)) e)) i
        || is_initiator hosts c.host) ∙ there m c (and_first (t m c) (not (c.host == h.dev)) e)

    never : (q r : Bool) → ((q && not r) && r) ≡ false
    never true true = refl
    never _ _ = refl

    rest_each :
        (dev : ℕ) → count_from (both (less t (of_host h.dev)) (of_host dev)) l commands ≤ open_limit_of hosts dev
    rest_each dev = go (h.dev == dev) refl
      where
        pass : (m : ℕ) (c : CmdDef) → both (less t (of_host h.dev)) (of_host dev) m c ≡ true
            → both t (of_host dev) m c ≡ true
        pass m c e =
            let one = and_first (t m c && not (c.host == h.dev)) (c.host == dev) e in
            and_from (t m c) (c.host == dev) (and_first (t m c) (not (c.host == h.dev)) one)
            (and_second (t m c && not (c.host == h.dev)) (c.host == dev) e)

        go : (q : Bool) → (h.dev == dev) ≡ q
            → count_from (both (less t (of_host h.dev)) (of_host dev)) l commands ≤ open_limit_of hosts dev
        go true e = zero_less (count_from (both (less t (of_host h.dev)) (of_host dev)) l commands)
            (open_limit_of hosts dev) (count_none (both (less t (of_host h.dev)) (of_host dev)) l commands
            (λ m c. (λ i. (t m c && not (c.host == h.dev)) && c.host == sym (eqb-true h.dev dev e) i)
            ∙ never (t m c) (c.host == h.dev)))
        go false e = less_again (count_from (both (less t (of_host h.dev)) (of_host dev)) l commands)
            (count_from (both t (of_host dev)) l commands) (open_limit_of hosts dev)
            (count_less (both (less t (of_host h.dev)) (of_host dev)) (both t (of_host dev)) l commands pass)
            (subst (λ (x : ℕ). count_from (both t (of_host dev)) l commands ≤ x)
            (ap (λ (q : Bool). if q then h.most else open_limit_of hosts dev) e) (each dev))

-- ---- processes, each once

-- A command that passes is its own.
pub record IsMarked (t : ℕ → CmdDef → Bool) (commands : List CmdDef) (c : Process) : Type 0 where
  pub def : CmdDef
  pub def_is : command_at commands c.id.command ≡ Some def
  pub plain : c.id.sense ≡ false
  pub passes : t c.id.command def ≡ true

abbrev pub IsAnother : Process → Process → Type 0
IsAnother c x = same_id x.id c.id ≡ false

abbrev pub AreOnce : List Process → Type 0
AreOnce [] = ⊤
AreOnce (c ∷ waiting) = AllP (IsAnother c) waiting × AreOnce waiting

other_number : (c x : Process) → c.id.sense ≡ false → x.id.sense ≡ false → IsAnother c x
    → not (x.id.command == c.id.command) ≡ true
other_number c x e f h =
    elim (cases_Bool (x.id.command == c.id.command)) [
      | inl g ↦ rw g (wrong' (sym (rw g at (sym (λ i. x.id.command == c.id.command && same_bool (f i) (e i)) ∙ h))))
      | inr g ↦ rw g
    ]

no_command : {A : Type 0} (commands : List CmdDef) (c : CmdDef) → command_at commands 0 ≡ Some c → A
no_command [] c e = none_some c e
no_command (x ∷ commands) c e = none_some c e

without_one : (t : ℕ → CmdDef → Bool) (commands : List CmdDef) (m : ℕ) (c : CmdDef) → command_at commands m ≡ Some c
    → t m c ≡ true → count_from (less t (is_number m)) 1 commands + 1 ≤ count_from t 1 commands
without_one t commands zero c at h = no_command commands c at
without_one t commands (suc i) c at h = count_without t 1 i (suc i) commands c (from_one i) at h

still_marked : (t : ℕ → CmdDef → Bool) (commands : List CmdDef) (c : Process) (waiting : List Process)
    → c.id.sense ≡ false → AllP (IsAnother c) waiting → AllP (IsMarked t commands) waiting
    → AllP (IsMarked (less t (is_number c.id.command)) commands) waiting
still_marked t commands c [] e h g = tt
still_marked t commands c (x ∷ waiting) e h g = (
  record {
    def = g.0.def;
    def_is = g.0.def_is;
    plain = g.0.plain;
    passes = and_from (t x.id.command g.0.def) (not (x.id.command == c.id.command)) g.0.passes
        (other_number c x e g.0.plain h.0);
  },
  still_marked t commands c waiting e h.1 g.1,
)

pub processes_fit : (t : ℕ → CmdDef → Bool) (commands : List CmdDef) (waiting : List Process)
    → AllP (IsMarked t commands) waiting → AreOnce waiting → length waiting ≤ count_from t 1 commands
processes_fit t commands [] h once = omega arith
processes_fit t commands (c ∷ waiting) h once = next_less (length waiting)
    (count_from (less t (is_number c.id.command)) 1 commands) (count_from t 1 commands) (processes_fit
    (less t (is_number c.id.command)) commands waiting (still_marked t commands c waiting h.0.plain once.0 h.1) once.1)
    (without_one t commands c.id.command h.0.def h.0.def_is h.0.passes)
