-- A step of a device on its way to a connection: what it makes now, and when it is due next.
use Rattle.std.specs.Prelude.{ℕ, ◌≡◌, Bool, false, not, ◌&&◌, ◌==◌, List, Option, Some, None, is_some, nat_le, nat_lt}
use Rattle.std.specs.Prelude.{if◌then◌else◌}
use Rattle.bus_trace.specs.declared.Row.{Row}
use Rattle.bus_trace.specs.declared.Kind.{Kind}
use Rattle.bus_trace.specs.declared.Kind.TheVariants.{Drives, Fault}
use Rattle.bus_trace.specs.declared.Calling.{Calling}
use Rattle.bus_lines.specs.declared.Stage.{Stage}
use Rattle.bus_lines.specs.declared.Stage.TheVariants.{InCalling, InAnswer, InConnection}
use Rattle.bus_trace.specs.LineSet.{LineSet}
use Rattle.bus_trace.specs.Trace.{drives}
use Rattle.bus_lines.specs.Stage.{stage}
use Rattle.reaction_model.specs.declared.due.Due.{Due}
use Rattle.reaction_model.specs.declared.due.Myself.{Myself}
use Rattle.reaction_model.specs.declared.due.Want.{Want}
use Rattle.reaction_model.specs.declared.sight.Sight.{Sight}
use Rattle.reaction_model.specs.Reactions.{earlier_due, due_where, time_if}
use Rattle.reaction_model.specs.Calling.{is_called}
use Rattle.reaction_model.specs.Linking.{link_due, sample_time}
use Rattle.reaction_model.specs.Ends.{bsy_release}
use Rattle.reaction_model.specs.Sight.{sight}
use Rattle.connect.specs.Links.{myself, want_of, present_link, next_link}
use Rattle.connect.specs.declared.states.Link.{Link}
use Rattle.connect.specs.declared.states.Step.{Step}

-- ---- what is due

-- In a connection that a reselection began the initiator still drives BSY, and releases it when SEL is false (6.1.4).
abbrev pub still_drives_bsy : Myself → Stage → Bool
still_drives_bsy me (InConnection n) = n.initiator == me.dev && me.own.bsy
still_drives_bsy me _ = false

abbrev pub step_due : Sight → Myself → Want → Option ℕ → Option Due
step_due v me w flip = earlier_due (link_due v me w flip) (due_where (still_drives_bsy me v.stage) (bsy_release v me))

-- ---- the row that is made now, or the time of a later one

-- The row that ends a reselection. The target adds to it the first byte of its message.
abbrev pub ends_reselection : Myself → Stage → Bool
ends_reselection me (InAnswer c k answered) = c.caller == me.dev && (k.reselects && is_some k.resumed)
ends_reselection me _ = false

abbrev pub lines_without_byte : Bool → LineSet → LineSet
lines_without_byte ends lines = if ends then record lines { data_bits = 0 } else lines

-- A fault drives nothing.
abbrev pub lines_of : Bool → Kind → Option LineSet
lines_of ends (Drives lines) = Some (lines_without_byte ends lines)
lines_of ends (Fault bit) = None

abbrev pub lines_now : Bool → ℕ → Option Due → Option LineSet
lines_now ends now None = None
lines_now ends now (Some x) = if nat_le x.time now then lines_of ends x.kind else None

abbrev pub time_later : ℕ → Option Due → Option ℕ
time_later now None = None
time_later now (Some x) = time_if (nat_lt now x.time) x.time

-- ---- the sample of the IDs

-- Another device calls this one, and asks for an answer.
abbrev pub is_called_by : Myself → Option Calling → Bool
is_called_by me None = false
is_called_by me (Some k) = k.called == me.dev && is_called k

abbrev pub is_asked : Myself → Stage → Bool
is_asked me (InCalling c) = not (c.caller == me.dev) && is_called_by me c.calling
is_asked me _ = false

abbrev pub is_sampling : Sight → Myself → ℕ → Bool
is_sampling v me now = is_asked me v.stage && nat_le (sample_time v me) now

-- ---- a step

-- The state by what these rows show, and what is due of it; `first` is the first byte that a reselecting target sends.
abbrev pub link_in : List Row → Link → Link
link_in rows link = present_link (drives rows (myself link).dev) link (stage rows)

abbrev pub me_in : List Row → Link → Myself
me_in rows link = myself (link_in rows link)

abbrev pub due_in : List Row → Link → ℕ → Option ℕ → Option Due
due_in rows link first flip =
    step_due (sight rows) (me_in rows link) (record (want_of (link_in rows link)) { first = first }) flip

abbrev pub step_by : Link → Stage → ℕ → Option Due → Bool → Step Link
step_by link s now due sampled = record {
  next = next_link link now s (lines_now (ends_reselection (myself link) s) now due);
  drives = lines_now (ends_reselection (myself link) s) now due;
  wake = time_later now due;
  sampled = sampled;
}

abbrev pub step_from : List Row → Link → ℕ → Option ℕ → Step Link
step_from rows link now flip = step_by link (stage rows) now (step_due (sight rows) (myself link) (want_of link) flip)
    (is_sampling (sight rows) (myself link) now)

-- A row of lines is made exactly where one is due at or before now, and `wake` is the time of one that is due later.
-- The IDs are sampled whether or not a fault strikes them; where one does, its row is the caller's to make, and no
-- lines are.
pub record IsStepOf (rows : List Row) (link : Link) (now : ℕ) (flip : Option ℕ) (s : Step Link) : Type 0 where
  pub drives : (first : ℕ)
      → s.drives ≡ lines_now (ends_reselection (me_in rows link) (stage rows)) now (due_in rows link first flip)
  pub wake : (first : ℕ) → s.wake ≡ time_later now (due_in rows link first flip)
  pub sampled : s.sampled ≡ is_sampling (sight rows) (me_in rows link) now
  pub next : s.next ≡ next_link (link_in rows link) now (stage rows) s.drives
