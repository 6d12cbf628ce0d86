-- A row that changes nothing of the messages.
use Rattle.std.proofs.Common.{ℕ, ◌≡◌, Bool, true, false, refl}
use Rattle.std.specs.Prelude.{not, ◌&&◌, Option, Some, None, is_some, is_none, if◌then◌else◌}
use Rattle.bus_trace.specs.declared.agreements.Agreement.{Agreement}
use Rattle.bus_trace.specs.declared.changes.Change.{Change}
use Rattle.bus_trace.specs.declared.connection.Connection.{Connection}
use Rattle.bus_trace.specs.Phases.{changes_phase}
use Rattle.bus_trace.specs.Terms.{receiver_of}
use Rattle.bus_phases.specs.declared.dialogue.Dialogue.{Dialogue}
use Rattle.bus_phases.specs.Dialogue.{dialogue_after, byte_crosses, phase_begins}
use Rattle.bus_transcript.specs.Rows.{is_silent}

chosen : (r : Option ℕ) (q : Bool) (d e f : Dialogue) → (is_none r && not q) ≡ true
    → f ≡ (if is_some r then d else if q then e else f)
chosen None false d e f is = refl
chosen None true d e f is = absurd (cc)
chosen (Some x) q d e f is = absurd (cc)

pub silent_stays : (before after : Option Connection) (d : Dialogue) (agreed : ℕ → ℕ → Agreement) (c : Change)
    → is_silent before after c ≡ true → d ≡ dialogue_after d before after agreed c
silent_stays (Some m) (Some n) d agreed c is =
    chosen (receiver_of (Some m) c) (changes_phase c) (byte_crosses d c) (phase_begins d) d is
silent_stays None after d agreed c is = absurd (cc)
silent_stays (Some m) None d agreed c is = absurd (cc)
