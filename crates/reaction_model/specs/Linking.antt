-- What a device is due to do next, on its way to a connection and under RST.
use Rattle.std.specs.Prelude.{ℕ, ◌+◌, Option, None}
use Rattle.bus_lines.specs.bus_trace.specs.declared.delays.TheConstants.{BUS_SETTLE_DELAY}
use Rattle.bus_lines.specs.bus_trace.specs.LineSet.{LineSet}
use Rattle.reaction_model.specs.declared.due.Due.{Due}
use Rattle.reaction_model.specs.declared.due.Myself.{Myself}
use Rattle.reaction_model.specs.declared.due.Want.{Want}
use Rattle.bus_lines.specs.declared.stage.Stage.{Stage}
use Rattle.bus_lines.specs.declared.stage.Stage.TheVariants.{OnFreeBus, InArbitration, InCalling, InAnswer}
use Rattle.bus_lines.specs.declared.stage.Stage.TheVariants.{InConnection, InReset}
use Rattle.reaction_model.specs.declared.sight.Sight.{Sight}
use Rattle.reaction_model.specs.Reactions.{release_after}
use Rattle.reaction_model.specs.FreeBus.{free_due, arbitration_due}
use Rattle.reaction_model.specs.Calling.{calling_due, answer_due}

-- While RST is true each other device releases all its lines, and does nothing else (6.2.2).
abbrev pub bus_clear : Myself → ℕ → Option Due
bus_clear me since = release_after since me

-- `flip` is the bit that a fault strikes where it samples the IDs. In a connection nothing is due of this.
abbrev pub link_due_by : LineSet → ℕ → ℕ → Myself → Want → Option ℕ → Stage → Option Due
link_due_by bus bsy sel me w flip (OnFreeBus free) = free_due me free w.since
link_due_by bus bsy sel me w flip (InArbitration a) = arbitration_due bus me a w.since
link_due_by bus bsy sel me w flip (InCalling c) = calling_due bsy sel me w flip c
link_due_by bus bsy sel me w flip (InAnswer c calling answered) = answer_due sel me w c calling answered
link_due_by bus bsy sel me w flip (InConnection n) = None
link_due_by bus bsy sel me w flip (InReset since) = bus_clear me since

abbrev pub link_due : Sight → Myself → Want → Option ℕ → Option Due
link_due v me w flip = link_due_by v.bus v.ages.bsy v.ages.sel me w flip v.stage

-- When it samples the IDs, where it is called.
abbrev pub sample_time : Sight → Myself → ℕ
sample_time v me = v.ages.bsy + BUS_SETTLE_DELAY + me.latency
