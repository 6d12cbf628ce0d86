-- What the target of a connection has to do in the phase, as far as what it does next tells.
use Rattle.std.specs.Prelude.{ℕ, ◌≡◌, Bool, true, false, ◌||◌, List}
use Rattle.bus_trace.specs.LineSet.{LineSet, none}
use Rattle.bus_trace.specs.Trace.{bus}
use Rattle.bus_trace.specs.declared.Row.{Row}
use Rattle.bus_lines.specs.Handshakes.{handshakes}
use Rattle.reaction_model.specs.declared.ends.Offering.{Offering}
use Rattle.due_model.specs.dialogue_model.specs.Ends.{leaving_lines, seek_before}
use Rattle.due_model.specs.dialogue_model.specs.Hearing.{begun}
use Rattle.due_model.specs.dialogue_model.specs.NextPhase as next_phase
use Rattle.due_model.specs.dialogue_model.specs.PhaseBytes.{data_byte, one_if, phase_byte}
use Rattle.due_model.specs.RunSteps.{run_state}
use Rattle.due_model.specs.Sights.{serving_of}
use Rattle.scenario.specs.Value.{ScenarioValue}
use Rattle.target_course.specs.Servings.{serving_with}
use Rattle.target_course.specs.States.{AreAlikeIn, offering_in}
use Rattle.target_course.specs.declared.serving.Serving.{Serving}

-- It goes on in the phase while it drives REQ, where a byte follows, and before the first REQ.
abbrev pub goes_on_in : Bool → Bool → Bool → Bool
goes_on_in asks follows bare = asks || follows || bare

-- Then this byte follows, or none does.
abbrev pub going_on : ℕ → Bool → Offering
going_on byte follows = record { byte = byte; follows = follows; to = none; wait = 0 }

-- Else it leaves the phase.
abbrev pub leaving_offering : next_phase.Serving → Bool → LineSet → Offering
leaving_offering v begun bus = record {
  byte = 0;
  follows = false;
  to = leaving_lines v bus (next_phase.leaving_by v begun bus);
  wait = seek_before v bus;
}

-- ---- by what it decides by, with bytes between which and those of its process nothing that it does next tells

-- At this place of its present run, or with `done` of the next one, these have this byte.
pub record GivesAs (s : ScenarioValue) (rows : List Row) (dev : ℕ) (v : Serving) (done : Bool) (place byte : ℕ) : Type
    0 where
  pub given : List ℕ
  pub byte_is : byte ≡ data_byte v.def.disc v.task given (one_if done) place
  pub alike : AreAlikeIn rows dev (offering_in rows (serving_with v given))
      (offering_in rows (serving_of s (run_state s rows) dev))

-- This byte is driven next, if one is.
pub record DrivesAs (s : ScenarioValue) (rows : List Row) (dev : ℕ) (v : Serving) (driven : Bool) (byte : ℕ) : Type
    0 where
  pub given : List ℕ
  pub byte_is : driven ≡ true → byte
      ≡ phase_byte (serving_with v given) (next_phase.phase_of (bus rows)) v.plan.messages 0 (handshakes rows).requests
  pub alike : AreAlikeIn rows dev (offering_in rows (serving_with v given))
      (offering_in rows (serving_of s (run_state s rows) dev))

-- It leaves the phase so.
pub record LeavesAs (s : ScenarioValue) (rows : List Row) (dev : ℕ) (v : Serving) (g : Offering) : Type 0 where
  pub given : List ℕ
  pub leaves : g ≡ leaving_offering (serving_with v given) (begun rows) (bus rows)
  pub alike : AreAlikeIn rows dev (offering_in rows (serving_with v given))
      (offering_in rows (serving_of s (run_state s rows) dev))
