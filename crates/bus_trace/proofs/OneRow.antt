-- What one more row changes.
use Rattle.std.proofs.Common.{ap, sym, ◌<◌, ℕ, ◌≡◌, ◌≢◌, ◌==◌, Bool, true, false, List, [], ◌∷◌, ◌++◌, ◌+◌, length}
use Rattle.std.proofs.Common.{get_or, take, reverse, if◌then◌else◌, ◌∙◌, refl, arith}
use Rattle.std.proofs.lemmas.Grind.{take_at_read}
use Rattle.std.proofs.lemmas.List.{reverse-append}
use Rattle.std.proofs.lemmas.Bool.Decides.{nat_tests}
use Rattle.bus_trace.specs.LineSet.{LineSet}
use Rattle.bus_trace.specs.declared.rows.Row.{Row}
use Rattle.bus_trace.specs.declared.rows.Kind.TheVariants.{Drives, Fault}
use Rattle.bus_trace.specs.Trace.{driven_after, drives, bus}
use Rattle.bus_trace.proofs.Buses.{below_same}

-- the other devices drive what they drove
pub drives-other : (row : Row) (rows : List Row) (d : ℕ) → d ≢ row.dev → drives (row ∷ rows) d ≡ drives rows d
drives-other row rows d ne =
    let e : (row.dev == d) ≡ false = grind (arith, nat_tests) in
    λ i. if e i then driven_after row.kind (drives rows d) else drives rows d

-- the device of the row drives what the row says
pub drives-own : (row : Row) (rows : List Row) (lines : LineSet) → row.kind ≡ Drives lines
    → drives (row ∷ rows) row.dev ≡ lines
drives-own row rows lines k =
    let e : (row.dev == row.dev) ≡ true = grind (arith, nat_tests) in
    λ i. if e i then driven_after (k i) (drives rows row.dev) else drives rows row.dev

if_same : (q : Bool) (s : LineSet) → (if q then s else s) ≡ s
if_same true s = refl
if_same false s = refl

-- a fault changes no device's lines
pub drives-fault : (row : Row) (rows : List Row) (code d : ℕ) → row.kind ≡ Fault code
    → drives (row ∷ rows) d ≡ drives rows d
drives-fault row rows code d k =
    let e : drives (row ∷ rows) d ≡ (if row.dev == d then drives rows d else drives rows d) =
    λ i. if row.dev == d then driven_after (k i) (drives rows d) else drives rows d in
    e ∙ if_same (row.dev == d) (drives rows d)

-- nor the bus
pub bus-fault : (row : Row) (rows : List Row) (code : ℕ) → row.kind ≡ Fault code → bus (row ∷ rows) ≡ bus rows
bus-fault row rows code k = below_same (drives (row ∷ rows)) (drives rows) 8 (λ d lt. drives-fault row rows code d k)

-- a trace that is read from its oldest row on: one row more
pub rows_so_far : (xs : List Row) (i : ℕ) (x : Row) → i < length xs → x ≡ get_or xs i x
    → reverse (take (i + 1) xs) ≡ x ∷ reverse (take i xs)
rows_so_far xs i x h e =
    ap (λ (ys : List Row). reverse ys) ((take_at_read xs i x h).1 ∙ ap (λ (y : Row). take i xs ++ y ∷ []) (sym e))
    ∙ reverse-append (take i xs) (x ∷ [])
