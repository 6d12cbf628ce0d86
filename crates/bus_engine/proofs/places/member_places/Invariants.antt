use Rattle.std.proofs.Common.{ℕ, ◌≡◌, ◌<◌, [], None, length}
use Rattle.std.specs.Prelude.{slice_index_or}
use Rattle.bus_run.specs.Places.{IsIn}
use Rattle.bus_engine.specs.Members.{IsMember}
use Rattle.bus_engine.proofs.places.member_places.Given as goal

abbrev pub invariant-loop-dev : goal.invariant-loop-dev
invariant-loop-dev l = record {
  count : length l.places.items ≡ l.dev;
  devices : (d : ℕ) → d < l.dev → IsIn IsMember l.scenario [] d (slice_index_or l.places.items d None);
}
