use Rattle.std.proofs.Common.{drop}
use Rattle.target_units.proofs.Loading.{IsLoading}
use Rattle.target_units.proofs.loads.load.Given as goal

abbrev pub invariant-loop-one : goal.invariant-loop-one
invariant-loop-one l = IsLoading l.def l.initial.tape l.tape l.loads (drop l.one-index l.loads)
