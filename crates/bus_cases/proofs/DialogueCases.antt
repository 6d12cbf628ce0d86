-- The two ends of a connection on small records, computed. Each decides a condition of `dialogue_model`, or one of
-- `reaction_model` or `bus_rules`, that no whole run decides: what is told before anything stands, what devices of
-- another kind alone do, and which of two comes first.
use Rattle.std.proofs.Common.{ℕ, ◌≡◌, Bool, true, false, List, [], ◌∷◌, refl}
use Rattle.std.specs.Prelude.{Option, Some, None}
use lib.Count.{ones}
use Rattle.due_model.specs.bus_base.specs.declared.ProcId.{ProcId}
use Rattle.due_model.specs.bus_base.specs.declared.Event.TheVariants as events
use Rattle.due_model.specs.bus_trace.specs.LineSet.{set_of}
use Rattle.due_model.specs.bus_trace.specs.View.{union_below}
use Rattle.due_model.specs.bus_trace.specs.declared.Row.{Row}
use Rattle.due_model.specs.bus_trace.specs.declared.Kind.TheVariants.{Drives}
use Rattle.due_model.specs.bus_trace.specs.declared.agreements.Agreement.{Agreement}
use Rattle.due_model.specs.bus_trace.specs.declared.connection.Connection.{Connection}
use Rattle.due_model.specs.bus_trace.specs.Trace.{no_times}
use Rattle.due_model.specs.msg_grammar.specs.declared.message.MsgOut.{MsgOut}
use Rattle.due_model.specs.msg_grammar.specs.declared.message.MsgIn.{MsgIn}
use Rattle.due_model.specs.msg_grammar.specs.Messages.{form_out, form_in}
use Rattle.due_model.specs.bus_lines.specs.declared.effect.RowEffect.{RowEffect}
use Rattle.due_model.specs.bus_lines.specs.declared.stage.Stage.TheVariants.{InConnection}
use Rattle.due_model.specs.bus_lines.specs.Handshakes.{no_handshakes}
use Rattle.due_model.specs.bus_phases.specs.Dialogue.{nothing_spoken}
use Rattle.due_model.specs.bus_phases.specs.Phases.{no_pulses}
use Rattle.due_model.specs.bus_rules.specs.Seen.{seen}
use Rattle.due_model.specs.bus_rules.specs.Transfer.{keeps_offset}
use Rattle.due_model.specs.scenario.specs.declared.value.Tag.TheVariants as tags
use Rattle.due_model.specs.scenario.specs.declared.value.Policy.TheVariants as policies
use Rattle.due_model.specs.reaction_model.specs.declared.ends.Hand.TheVariants.{Initiator}
use Rattle.due_model.specs.reaction_model.specs.Ends.{hand_due}
use Rattle.due_model.specs.dialogue_model.specs.declared.exchange.Arrival.TheVariants as arrivals
use Rattle.due_model.specs.dialogue_model.specs.declared.exchange.Hearing.{Hearing}
use Rattle.due_model.specs.dialogue_model.specs.declared.exchange.Next.TheVariants as nexts
use Rattle.due_model.specs.dialogue_model.specs.declared.exchange.Phase.TheVariants as phases
use Rattle.due_model.specs.dialogue_model.specs.Exchange.{no_plan, no_exchange}
use Rattle.due_model.specs.dialogue_model.specs.NextPhase.{Serving}
use Rattle.due_model.specs.dialogue_model.specs.DataRuns.{run_at}
use Rattle.due_model.specs.dialogue_model.specs.Hearing.{begun, last_hearing, agreed_after, is_within_phase}
use Rattle.due_model.specs.dialogue_model.specs.Wants.{Ready, ready_in, ready_by, is_reached}
use Rattle.due_model.specs.dialogue_model.specs.Events.{is_empty, leaving_events}

abbrev pair : ℕ → ℕ → Agreement
pair period offset = record { period = period; offset = offset }

abbrev link : Connection
link = record { initiator = 7; target = 3; began = 5390; reselected = false }

-- ---- which of two ready processes comes first: whose seek time passes first; of those that of the lower unit

abbrev ready : ℕ → ℕ → Option Ready
ready unit time =
    ready_in false
    (Some (record {
      process = record {
        id = record { command = 1; sense = false };
        initiator = 7;
        target = 3;
        unit = unit;
        tag = tags.Untagged;
        cdb = [];
        sent = [];
        serial = false;
      };
      reply = None;
    }))
    time

abbrev unit_of : Option Ready → Option ℕ
unit_of None = None
unit_of (Some r) = Some r.process.unit

lower_unit_of_one_time : unit_of (ready_by (ready 2 8000 ∷ ready 3 8000 ∷ [])) ≡ Some 2
lower_unit_of_one_time = refl

sooner_than_a_lower_unit : unit_of (ready_by (ready 3 8000 ∷ ready 2 9000 ∷ [])) ≡ Some 3
sooner_than_a_lower_unit = refl

-- ---- the time from which something is wanted

nothing_is_wanted : is_reached None 1000 ≡ false
nothing_is_wanted = refl

wanted_later : is_reached (Some 1000) 999 ≡ false
wanted_later = refl

wanted_at_its_time : is_reached (Some 1000) 1000 ≡ true
wanted_at_its_time = refl

-- ---- data runs: a read of five blocks of 16 bytes, with room for six in the first run

more_room_than_blocks : run_at (policies.NoSave 6) (record {
  writes = false;
  moved = 80;
  blocks = Some 5;
  size = 16;
  runs = 0;
  recoveries = 0;
  in_hold = false;
  whole = true;
  replied = false;
  status = 0;
}) 0 ≡ record { start = 0; end = 80 }
more_room_than_blocks = refl

-- ---- what the target shows

abbrev this : ProcId
this = record { command = 4; sense = false }

-- It serves no process, so STATUS has no reply to begin.
abbrev serving_none : Serving
serving_none = record {
  def = None;
  plan = record no_plan { next = nexts.Status };
  task = None;
  given = [];
  arrival = arrivals.Queued;
}

status_of_no_process : leaving_events serving_none link true true false phases.MessageIn (Some this) ≡ []
status_of_no_process = refl

nothing_is_shown : is_empty [] ≡ true
nothing_is_shown = refl

something_is_shown : is_empty (events.Run this ∷ []) ≡ false
something_is_shown = refl

-- ---- what is told before anything stands

abbrev drive : ℕ → ℕ → ℕ → Row
drive time dev lines = record { time = time; dev = dev; kind = Drives (set_of lines) }

-- All that a row tells but for what it changes.
record Told : Type 0 where
  crosses : Bool
  out : Option MsgOut
  into : Option MsgIn
  fault : Bool
  begun : Bool
  is_last : Bool
  offered : ℕ
  struck : Bool

abbrev told : Hearing → Told
told w = record {
  crosses = w.crosses;
  out = w.out;
  into = w.into;
  fault = w.fault;
  begun = w.begun;
  is_last = w.is_last;
  offered = w.offered;
  struck = w.struck;
}

no_row_tells_anything : told (last_hearing []) ≡ record {
  crosses = false;
  out = None;
  into = None;
  fault = false;
  begun = false;
  is_last = false;
  offered = 0;
  struck = false;
}
no_row_tells_anything = refl

no_phase_without_rows : begun [] ≡ false
no_phase_without_rows = refl

no_phase_without_connection : no_exchange.begun ≡ false
no_phase_without_connection = refl

-- ---- what rows tell: device 7 selects device 0

abbrev selection : List Row
selection =
    drive 5390 7 0x10000
    ∷ drive 5300 0 0x00200
    ∷ drive 4890 7 0x10581
    ∷ drive 4800 7 0x10781
    ∷ drive 3600 7 0x00680
    ∷ drive 1200 7 0x00280
    ∷ []

-- ATN falls, which is no line of a phase.
no_phase_by_another_line : begun (drive 5395 7 0x00000 ∷ selection) ≡ false
unfolding ones union_below form_out form_in
no_phase_by_another_line = refl

-- IDENTIFY stands on the lines as REQ falls, and has crossed before.
crosses_once :
    told
    (last_hearing
    (drive 5910 0 0x02a00
    ∷ drive 5900 7 0x081c0
    ∷ drive 5810 7 0x001c0
    ∷ drive 5810 0 0x06a00
    ∷ drive 5400 0 0x02a00
    ∷ selection))
    ≡ record {
      crosses = false;
      out = None;
      into = None;
      fault = false;
      begun = true;
      is_last = true;
      offered = 1;
      struck = false;
    }
unfolding ones union_below form_out form_in
crosses_once = refl

-- ---- rows within a phase: no connection, phase or agreement begins or ends, and no byte crosses but of DATA

abbrev effect : Option Connection → Option Connection → ℕ → ℕ → Option ℕ → RowEffect
effect before after lines_before lines_after receiver = record {
  change = record {
    before = set_of lines_before;
    after = set_of lines_after;
    own = set_of lines_before;
    next = set_of lines_after;
  };
  before = before;
  after = after;
  receiver = receiver;
  fault = false;
}

abbrev is_within : Option Connection → Option Connection → ℕ → ℕ → Option ℕ → Bool
is_within before after lines_before lines_after receiver =
    is_within_phase (effect before after lines_before lines_after receiver)

byte_of_data : is_within (Some link) (Some link) 0x01201 0x05201 (Some 7) ≡ true
byte_of_data = refl

no_byte_of_a_command : is_within (Some link) (Some link) 0x0ca00 0x08a00 None ≡ true
no_byte_of_a_command = refl

byte_of_a_command : is_within (Some link) (Some link) 0x04a00 0x0ca00 (Some 3) ≡ false
byte_of_a_command = refl

connection_begins : is_within None (Some link) 0x10601 0x10200 None ≡ false
connection_begins = refl

connection_ends : is_within (Some link) None 0x01200 0x01200 None ≡ false
connection_ends = refl

bsy_falls : is_within (Some link) (Some link) 0x01200 0x01000 None ≡ false
bsy_falls = refl

rst_rises : is_within (Some link) (Some link) 0x01200 0x21200 None ≡ false
rst_rises = refl

phase_begins : is_within (Some link) (Some link) 0x01200 0x01a00 None ≡ false
phase_begins = refl

-- ---- agreements: each pair had one of 50 and 8, and the messages of the connection say 25 and 4

abbrev agreed : ℕ → ℕ → Agreement
agreed i t = pair 50 8

abbrev agreement_at : ℕ → Agreement
agreement_at lines_after =
    agreed_after (effect (Some link) (Some link) 0x01200 lines_after None) (nothing_spoken (pair 25 4)) agreed 7 3

agreed_before_its_end : agreement_at 0x01200 ≡ pair 50 8
agreed_before_its_end = refl

agreed_at_its_end : agreement_at 0x00000 ≡ pair 25 4
agreed_at_its_end = refl

-- RST ends all agreements.
agreed_in_a_reset : agreement_at 0x20000 ≡ pair 0 0
agreed_in_a_reset = refl

-- ---- the initiator answers no REQ before the target has begun a phase

no_phase_to_answer :
    hand_due false 0 None
    (record { bus = set_of 0x14200; ages = no_times; stage = InConnection link })
    no_handshakes
    (record { dev = 7; latency = 0; own = set_of 0x10000; since = 5390 })
    (record {
      pulsed = false;
      offset = 0;
      times = record { period = 0; assertion = 0; negation = 0; set_up = 0; hold = 0 };
      lag = 0;
    })
    (Initiator (record { byte = 0xc0; attends = false; speaks = false; raised = 0 }))
    ≡ None
no_phase_to_answer = refl

-- ---- rule 21: REQ rises under an offset, after so many pulses that no ACK has answered

abbrev may_ask : ℕ → ℕ → Bool
may_ask offset unanswered =
    keeps_offset
    (record (seen [] (drive 9000 3 0x05200)) {
      change = record {
        before = set_of 0x01200;
        after = set_of 0x05200;
        own = set_of 0x01200;
        next = set_of 0x05200;
      };
      connection = Some link;
      agreement = pair 50 offset;
      pulses = record no_pulses { req = unanswered };
    })

-- 255 is no limit.
pulse_256_without_limit : may_ask 255 255 ≡ true
pulse_256_without_limit = refl

pulse_254_of_254 : may_ask 254 253 ≡ true
pulse_254_of_254 = refl

pulse_255_of_254 : may_ask 254 254 ≡ false
pulse_255_of_254 = refl
