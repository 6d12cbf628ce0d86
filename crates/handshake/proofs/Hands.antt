-- What a step tells and makes, whatever is due.
use Rattle.std.proofs.Common.{ℕ, ◌≡◌, Bool, true, false, List, Option, Some, None, refl}
use Rattle.std.specs.Prelude.{is_some, nat_le, if◌then◌else◌}
use Rattle.bus_trace.specs.LineSet.{LineSet}
use Rattle.bus_trace.specs.declared.rows.Row.{Row}
use Rattle.bus_trace.specs.declared.rows.Kind.{Kind}
use Rattle.bus_trace.specs.declared.rows.Kind.TheVariants.{Drives, Fault}
use Rattle.bus_trace.specs.Trace.{bus}
use Rattle.bus_lines.specs.Handshakes.{handshakes}
use Rattle.reaction_model.specs.declared.due.Due.{Due}
use Rattle.reaction_model.specs.Sight.{sight}
use Rattle.handshake.specs.declared.end_state.EndState.{EndState}
use Rattle.handshake.specs.declared.hand.Crossed.{Crossed}
use Rattle.handshake.specs.declared.hand.Hand.{Hand}
use Rattle.handshake.specs.Crossings.{untold_crossing}
use Rattle.handshake.specs.Steps.{still_hand, row_hand, hand_by, is_idle, with_byte_count}
use Rattle.handshake.specs.Telling.{is_made, wake_by}

-- What a step goes by, but for what is due.
pub record StepInput : Type 0 where
  pub e : EndState
  pub before : LineSet
  pub now : ℕ
  pub crossed : Option Crossed
  pub idle : Bool

abbrev pub step_input : Bool → List Row → EndState → ℕ → Option ℕ → StepInput
step_input into rows e now flip = record {
  e = with_byte_count e into (handshakes rows);
  before = bus rows;
  now = now;
  crossed = untold_crossing into e.byte_count flip rows;
  idle = is_idle (sight rows) (handshakes rows) e.pace now;
}

abbrev pub row_of : StepInput → Kind → Hand EndState
row_of d kind = row_hand d.e d.before d.now d.crossed d.idle kind

abbrev pub due_of : Bool → StepInput → Due → Hand EndState
due_of q d x = if q then row_of d x.kind else still_hand d.e (Some x.time) d.crossed d.idle

abbrev pub hand_of : StepInput → Option Due → Hand EndState
hand_of d due = hand_by d.e d.before d.now d.crossed d.idle due

-- ---- what it knows and tells, and for what time it waits

pub record IsStepOf (d : StepInput) (time : Option ℕ) (hand : Hand EndState) : Type 0 where
  pub byte_count : hand.next.byte_count ≡ d.e.byte_count
  pub crossed : hand.crossed ≡ d.crossed
  pub wake : hand.wake ≡ time

row_tells : (d : StepInput) (kind : Kind) → IsStepOf d None (row_of d kind)
row_tells d (Drives lines) = record { byte_count = refl; crossed = refl; wake = refl }
row_tells d (Fault bit) = record { byte_count = refl; crossed = refl; wake = refl }

due_tells : (q : Bool) (d : StepInput) (x : Due) → IsStepOf d (if q then None else Some x.time) (due_of q d x)
due_tells true d x = row_tells d x.kind
due_tells false d x = record { byte_count = refl; crossed = refl; wake = refl }

pub step_of : (d : StepInput) (due : Option Due) → IsStepOf d (wake_by d.now due) (hand_of d due)
step_of d None = record { byte_count = refl; crossed = refl; wake = refl }
step_of d (Some x) = due_tells (nat_le x.time d.now) d x

-- ---- it makes a row where one is due, if what is due is a row of lines

abbrev pub is_lines : Kind → Bool
is_lines (Drives lines) = true
is_lines (Fault bit) = false

abbrev pub has_lines : Option Due → Bool
has_lines None = true
has_lines (Some x) = is_lines x.kind

row_makes : (d : StepInput) (kind : Kind) → is_lines kind ≡ true → is_some (row_of d kind).drives ≡ true
row_makes d (Drives lines) l = refl
row_makes d (Fault bit) l = l

due_makes : (q : Bool) (d : StepInput) (x : Due) → is_lines x.kind ≡ true → is_some (due_of q d x).drives ≡ q
due_makes true d x l = row_makes d x.kind l
due_makes false d x l = refl

pub makes : (d : StepInput) (due : Option Due) → has_lines due ≡ true
    → is_some (hand_of d due).drives ≡ is_made d.now due
makes d None l = refl
makes d (Some x) l = due_makes (nat_le x.time d.now) d x l
