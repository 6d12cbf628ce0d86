use Rattle.std.proofs.Common.{◌<◌, ◌≡◌, ℕ, ◌∷◌, get_or, sym, subst, arith}
use Rattle.std.specs.Prelude.{slice_set}
use Rattle.bus_trace.specs.LineSet.{LineSet}
use Rattle.bus_trace.specs.View.{View}
use Rattle.bus_trace.specs.Trace.{drives, IsViewOf}
use Rattle.bus_trace.proofs.Views.{first-below, next-below, driven_with}
use Rattle.bus_trace.proofs.line_view.LineView.bus_with.Goals as goal

pub returns : goal.returns
returns c = λ rows row v at e.
    let all = drives (row ∷ rows) in
    let w = subst (λ (x : View). IsViewOf rows x) (sym c.self.view_is) v in
    let read : (d : ℕ) → d < 8 → (x : LineSet)
    → get_or (slice_set c.self.inside.driven c.args.dev c.args.lines) d x ≡ all d = driven_with
    rows row _ w c.args.dev c.requires at c.args.lines e in
    let a = first-below all _ (read 0 (omega arith) _) in
    let b = next-below all 1 _ _ _ c.with.ensures a (read 1 (omega arith) _) in
    let d = next-below all 2 _ _ _ c.with-2.ensures b (read 2 (omega arith) _) in
    let f = next-below all 3 _ _ _ c.with-3.ensures d (read 3 (omega arith) _) in
    let g = next-below all 4 _ _ _ c.with-4.ensures f (read 4 (omega arith) _) in
    let h = next-below all 5 _ _ _ c.with-5.ensures g (read 5 (omega arith) _) in
    let k = next-below all 6 _ _ _ c.with-6.ensures h (read 6 (omega arith) _) in
    next-below all 7 _ _ _ c.with-7.ensures k (read 7 (omega arith) _)
