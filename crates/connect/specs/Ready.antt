-- The devices that react: of the bus, with a latency of at most 100 ns, at times below 2^63.
use Rattle.std.specs.Prelude.{ℕ, ◌<◌, ◌≤◌, ◌^◌}
use Rattle.reaction_model.specs.declared.due.Myself.{Myself}

-- The most ns that a device adds to the least delay of a reaction.
abbrev pub latency_limit : ℕ
latency_limit = 100

-- All times of a view and of a device lie below this one.
abbrev pub time_limit : ℕ
time_limit = 2 ^ 63

pub record IsReady (me : Myself) : Type 0 where
  pub dev : me.dev < 8
  pub latency : me.latency ≤ latency_limit
  pub since : me.since < time_limit
