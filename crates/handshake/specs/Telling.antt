-- What holds of steps: of the bytes that they tell, of the rows that they make, and of what stands outside a phase.
use Rattle.std.specs.Prelude.{ℕ, ◌≡◌, ◌≤◌, ◌<◌, ◌-◌, ◌^◌, Bool, true, false, List, ◌∷◌, Option, Some, None, is_some}
use Rattle.std.specs.Prelude.{nat_le, if◌then◌else◌}
use Rattle.bus_trace.specs.LineSet.{LineSet, none}
use Rattle.bus_trace.specs.declared.rows.Row.{Row}
use Rattle.bus_trace.specs.declared.rows.Kind.{Kind}
use Rattle.bus_trace.specs.declared.rows.Kind.TheVariants.{Drives, Fault}
use Rattle.bus_trace.specs.declared.connection.Connection.{Connection}
use Rattle.bus_trace.specs.Trace.{bus}
use Rattle.bus_trace.specs.Changes.{change_of}
use Rattle.bus_trace.specs.Phases.{changes_phase}
use Rattle.bus_trace.specs.Terms.{connection}
use Rattle.bus_lines.specs.Effect.{effect}
use Rattle.bus_lines.specs.Handshakes.{Handshakes, handshakes}
use Rattle.reaction_model.specs.declared.due.Due.{Due}
use Rattle.reaction_model.specs.declared.due.Myself.{Myself}
use Rattle.reaction_model.specs.declared.sight.Sight.{Sight}
use Rattle.reaction_model.specs.declared.ends.Pace.{Pace}
use Rattle.reaction_model.specs.declared.ends.Offering.{Offering}
use Rattle.reaction_model.specs.declared.ends.Answering.{Answering}
use Rattle.reaction_model.specs.Ends.{target_due, initiator_due}
use Rattle.handshake.specs.declared.end_state.EndState.{EndState}
use Rattle.handshake.specs.declared.hand.Hand.{Hand}
use Rattle.handshake.specs.Crossings.{is_crossing, crossings, crossed_byte, untold_crossing}
use Rattle.handshake.specs.Steps.{has_more, answering_by}

-- ---- a step of an end, and its next reaction, by the direction of the phase, the rows, what it keeps, the time, the
-- byte that is offered and the bit that a fault strikes

abbrev pub Step : Type 0
Step = Bool → List Row → EndState → ℕ → Option ℕ → Option ℕ → Hand EndState

abbrev pub Reaction : Type 0
Reaction = List Row → EndState → Option ℕ → Option Connection → Option Due

-- ---- a byte that crosses is told once

-- A byte crosses in this row, in a connection and a phase that go on, where fewer than 2 ^ 64 - 1 have crossed before.
pub record CrossesIn (into : Bool) (row : Row) (rows : List Row) : Type 0 where
  pub lines : LineSet
  pub drives : row.kind ≡ Drives lines
  pub crosses : is_crossing into (effect (row ∷ rows)) ≡ true
  pub ends : Connection
  pub stands : connection (row ∷ rows) ≡ Some ends
  pub same_phase : changes_phase (change_of rows row) ≡ false
  pub few : crossings into (handshakes rows) < 2 ^ 64 - 1

-- The step after that row tells it, where the step before knew of no more than had crossed by then.
abbrev pub TellsFirst : Type 0
TellsFirst =
    (into : Bool) (row : Row) (rows : List Row) (count : ℕ) (flip : Option ℕ) →
    CrossesIn into row rows → count ≤ crossings into (handshakes rows) →
    untold_crossing into count flip (row ∷ rows) ≡ Some (crossed_byte (bus (row ∷ rows)) flip)

-- A step knows of all that have crossed.
abbrev pub KnowsCrossings : Step → Type 0
KnowsCrossings step =
    (into : Bool) (rows : List Row) (e : EndState) (now : ℕ) (offered flip : Option ℕ) →
    (step into rows e now offered flip).next.byte_count ≡ crossings into (handshakes rows)

-- So a further step after the same row tells nothing.
abbrev pub TellsNoneAgain : Step → Type 0
TellsNoneAgain step =
    (into : Bool) (rows : List Row) (e : EndState) (now later : ℕ) (offered flip other_offered other_flip : Option ℕ) →
    (step into rows (step into rows e now offered flip).next later other_offered other_flip).crossed ≡ None

-- ---- a row is made where it is due

abbrev pub is_made : ℕ → Option Due → Bool
is_made now None = false
is_made now (Some x) = nat_le x.time now

abbrev pub wake_by : ℕ → Option Due → Option ℕ
wake_by now None = None
wake_by now (Some x) = if nat_le x.time now then None else Some x.time

-- A step makes a row exactly where the next reaction is due by its time.
abbrev pub MakesWhatIsDue : Step → Reaction → Type 0
MakesWhatIsDue step next =
    (into : Bool) (rows : List Row) (e : EndState) (now : ℕ) (offered flip : Option ℕ) →
    is_some (step into rows e now offered flip).drives ≡ is_made now (next rows e offered (connection rows))

-- Where that is due later it waits for its time, and where nothing is due for none.
abbrev pub WaitsForWhatIsDue : Step → Reaction → Type 0
WaitsForWhatIsDue step next =
    (into : Bool) (rows : List Row) (e : EndState) (now : ℕ) (offered flip : Option ℕ) →
    (step into rows e now offered flip).wake ≡ wake_by now (next rows e offered (connection rows))

-- ---- what the device adds to a row, and what it does as it leaves the phase, changes nothing in the phase

abbrev pub kind_without_atn : Kind → Kind
kind_without_atn (Drives lines) = Drives (record lines { atn = false })
kind_without_atn (Fault bit) = Fault bit

abbrev pub without_atn : Option Due → Option Due
without_atn None = None
without_atn (Some x) = Some (record { time = x.time; kind = kind_without_atn x.kind })

-- Whether ATN stands with a byte of MESSAGE OUT, and whether the initiator asks for MESSAGE OUT, changes ATN alone.
abbrev pub AttentionIsApart : Type 0
AttentionIsApart =
    (v : Sight) (h : Handshakes) (me : Myself) (p : Pace) (a : Answering) →
    without_atn (initiator_due true v h me p a)
    ≡ without_atn (initiator_due true v h me p (answering_by a.raised (Some a.byte)))

-- While the target has something to do in the phase, it does the same wherever it goes then, and however long it waits.
abbrev pub LeavingIsApart : Type 0
LeavingIsApart =
    (v : Sight) (h : Handshakes) (me : Myself) (p : Pace) (g : Offering) → has_more v h p g.follows me ≡ true →
    target_due true v h me p g ≡ target_due true v h me p (record g { to = none; wait = 0 })
