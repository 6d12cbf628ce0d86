-- What rows tell the two ends of a connection, computed: a selection, MESSAGE OUT with bytes that are begun anew, and
-- MESSAGE IN with a byte that a fault strikes; and a reselection.
use Rattle.story_model.specs.bus_trace.specs.LineSet.{set_of}
use Rattle.story_model.specs.bus_trace.specs.View.{union_below}
use Rattle.story_model.specs.bus_trace.specs.declared.Row.{Row}
use Rattle.story_model.specs.bus_trace.specs.declared.Kind.TheVariants.{Drives, Fault}
use Rattle.std.proofs.Common.{ℕ, ◌≡◌, Bool, true, false, List, [], ◌∷◌, reverse, drop, Option, Some, None, refl}
use lib.Count.{ones}
use Rattle.story_model.specs.msg_grammar.specs.declared.message.MsgOut.{MsgOut}
use Rattle.story_model.specs.msg_grammar.specs.declared.message.MsgOut.TheVariants as to_target
use Rattle.story_model.specs.msg_grammar.specs.declared.message.MsgIn.{MsgIn}
use Rattle.story_model.specs.msg_grammar.specs.declared.message.MsgIn.TheVariants as to_initiator
use Rattle.story_model.specs.msg_grammar.specs.Messages.{form_out, form_in}
use Rattle.dialogue_model.specs.declared.exchange.Hearing.{Hearing}
use Rattle.dialogue_model.specs.Hearing.{begun, last_hearing}

abbrev drive : ℕ → ℕ → ℕ → Row
drive time dev lines = record { time = time; dev = dev; kind = Drives (set_of lines) }

abbrev strike : ℕ → ℕ → ℕ → Row
strike time dev bit = record { time = time; dev = dev; kind = Fault bit }

-- All that it tells but for what it changes.
record Told : Type 0 where
  crosses : Bool
  out : Option MsgOut
  into : Option MsgIn
  fault : Bool
  begun : Bool
  is_last : Bool
  offered : ℕ
  struck : Bool

abbrev told : Hearing → Told
told w = record {
  crosses = w.crosses;
  out = w.out;
  into = w.into;
  fault = w.fault;
  begun = w.begun;
  is_last = w.is_last;
  offered = w.offered;
  struck = w.struck;
}

-- ---- device 7 selects device 0

abbrev selection : List Row
selection =
    drive 1200 7 0x00280 ∷ drive 3600 7 0x00680 ∷ drive 4800 7 0x10781 ∷ drive 4890 7 0x10581 ∷ drive 5300 0 0x00200
    ∷ drive 5390 7 0x10000 ∷ drive 5400 0 0x02a00 ∷ drive 5810 0 0x06a00 ∷ drive 5810 7 0x00001 ∷ drive 5900 7 0x08001
    ∷ drive 5910 0 0x02a00 ∷ drive 5910 7 0x00000 ∷ drive 5920 0 0x06a00 ∷ drive 5920 7 0x001c0 ∷ drive 6010 7 0x081c0
    ∷ drive 6020 0 0x02a00 ∷ drive 6020 7 0x00000 ∷ drive 6030 0 0x03a00 ∷ drive 6840 0 0x03b00 ∷ drive 6900 0 0x07b00
    ∷ strike 6900 7 0 ∷ drive 6900 7 0x18000 ∷ drive 6910 0 0x03a00 ∷ drive 6910 7 0x10000 ∷ drive 6920 0 0x02a00 ∷ []

-- All rows but the last so many, the newest first.
abbrev all_but : ℕ → List Row → List Row
all_but n rows = drop n (reverse rows)

not_begun : begun (all_but 19 selection) ≡ false
unfolding ones union_below form_out form_in
not_begun = refl

begins_with_phase : begun (all_but 18 selection) ≡ true
unfolding ones union_below form_out form_in
begins_with_phase = refl

-- MESSAGE OUT begins.
phase_begins : told (last_hearing (all_but 18 selection)) ≡ record {
  crosses = false;
  out = None;
  into = None;
  fault = false;
  begun = false;
  is_last = false;
  offered = 0;
  struck = false;
}
unfolding ones union_below form_out form_in
phase_begins = refl

-- REQ rises: the first byte is asked for.
first_request : told (last_hearing (all_but 17 selection)) ≡ record {
  crosses = false;
  out = None;
  into = None;
  fault = false;
  begun = true;
  is_last = false;
  offered = 0;
  struck = false;
}
unfolding ones union_below form_out form_in
first_request = refl

-- The first byte of an extended message, with ATN false: the last.
half_message : told (last_hearing (all_but 15 selection)) ≡ record {
  crosses = true;
  out = None;
  into = None;
  fault = false;
  begun = true;
  is_last = false;
  offered = 1;
  struck = false;
}
unfolding ones union_below form_out form_in
half_message = refl

-- IDENTIFY, alone: the byte before it was the last.
begun_anew : told (last_hearing (all_but 10 selection)) ≡ record {
  crosses = true;
  out = Some (to_target.Identify true 0);
  into = None;
  fault = false;
  begun = true;
  is_last = true;
  offered = 2;
  struck = false;
}
unfolding ones union_below form_out form_in
begun_anew = refl

-- MESSAGE IN begins.
phase_turns : told (last_hearing (all_but 7 selection)) ≡ record {
  crosses = false;
  out = None;
  into = None;
  fault = false;
  begun = true;
  is_last = true;
  offered = 2;
  struck = false;
}
unfolding ones union_below form_out form_in
phase_turns = refl

-- COMMAND COMPLETE crosses as REQ rises.
complete : told (last_hearing (all_but 5 selection)) ≡ record {
  crosses = true;
  out = None;
  into = Some to_initiator.CommandComplete;
  fault = false;
  begun = true;
  is_last = false;
  offered = 0;
  struck = false;
}
unfolding ones union_below form_out form_in
complete = refl

-- A fault strikes it.
struck_byte : told (last_hearing (all_but 4 selection)) ≡ record {
  crosses = false;
  out = None;
  into = None;
  fault = true;
  begun = true;
  is_last = false;
  offered = 1;
  struck = false;
}
unfolding ones union_below form_out form_in
struck_byte = refl

-- The initiator acknowledges it, with ATN.
attends : told (last_hearing (all_but 3 selection)) ≡ record {
  crosses = false;
  out = None;
  into = None;
  fault = false;
  begun = true;
  is_last = false;
  offered = 1;
  struck = true;
}
unfolding ones union_below form_out form_in
attends = refl

-- MESSAGE OUT begins again.
turns_back : told (last_hearing (all_but 0 selection)) ≡ record {
  crosses = false;
  out = None;
  into = None;
  fault = false;
  begun = true;
  is_last = false;
  offered = 1;
  struck = true;
}
unfolding ones union_below form_out form_in
turns_back = refl

-- ---- device 0 reselects device 7

abbrev reselection : List Row
reselection =
    drive 1200 0 0x00201 ∷ drive 3600 0 0x00601 ∷ drive 4800 0 0x01781 ∷ drive 4890 0 0x01581 ∷ drive 5300 7 0x00200
    ∷ drive 5400 0 0x01781 ∷ drive 5490 0 0x03a80 ∷ drive 5500 7 0x00000 ∷ drive 5900 0 0x07a80 ∷ []

no_connection : begun (all_but 3 reselection) ≡ false
unfolding ones union_below form_out form_in
no_connection = refl

begins_with_reselection : begun (all_but 2 reselection) ≡ true
unfolding ones union_below form_out form_in
begins_with_reselection = refl

-- IDENTIFY crosses as REQ rises for the first time.
reconnects : told (last_hearing (all_but 0 reselection)) ≡ record {
  crosses = true;
  out = None;
  into = Some (to_initiator.Identify 0);
  fault = false;
  begun = true;
  is_last = false;
  offered = 0;
  struck = false;
}
unfolding ones union_below form_out form_in
reconnects = refl
