-- The running terms are those of these rows.
use Rattle.std.specs.Prelude.{◌≡◌, List}
use Rattle.bus_trace.specs.Trace.{IsViewOf}
use Rattle.bus_trace.specs.declared.Row.{Row}
use Rattle.bus_trace.specs.View.{View}
use Rattle.bus_rules.specs.declared.course.Course.{Course}
use Rattle.bus_trace.specs.Terms.{arbitration, call, connection, receiver}
use Rattle.bus_phases.specs.Tables.{IsRaisesOf, AreAgreements}
use Rattle.bus_phases.specs.Phases.{pulses, turned, duty}
use Rattle.bus_phases.specs.Dialogue.{agreed, dialogue}

-- The terms but for what a view of the bus keeps.
pub record IsCourseOf (rows : List Row) (k : Course) : Type 0 where
  pub bsy_raised : IsRaisesOf (λ s. s.bsy) rows k.bsy_raised
  pub rst_raised : IsRaisesOf (λ s. s.rst) rows k.rst_raised
  pub arbitration : k.arbitration ≡ arbitration rows
  pub call : k.call ≡ call rows
  pub connection : k.connection ≡ connection rows
  pub receiver : k.receiver ≡ receiver rows
  pub pulses : k.pulses ≡ pulses rows
  pub turned : k.turned ≡ turned rows
  pub duty : k.duty ≡ duty rows
  pub agreed : AreAgreements (agreed rows) k.agreed
  pub dialogue : k.dialogue ≡ dialogue rows

-- What the running terms keep.
pub record Running : Type 0 where
  pub view : View
  pub course : Course

pub record IsTermsOf (rows : List Row) (t : Running) : Type 0 where
  pub view : IsViewOf rows t.view
  pub course : IsCourseOf rows t.course
