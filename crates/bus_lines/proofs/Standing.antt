-- The stage, the effect of the last row and the handshakes of the phase, computed: on a selection of device 0 by device
-- 7, IDENTIFY and the first bytes of a DATA IN phase; and on a reselection of device 7 by device 0.
use Rattle.std.proofs.Common.{ℕ, ◌≡◌, Bool, true, false, List, [], ◌∷◌, length, replicate, Option, Some, None, refl}
use lib.Count.{ones}
use Rattle.bus_trace.specs.LineSet.{none, set_of}
use Rattle.bus_trace.specs.View.{union_below}
use Rattle.bus_trace.specs.declared.Row.{Row}
use Rattle.bus_trace.specs.declared.selection.Call.{Call}
use Rattle.bus_trace.specs.declared.selection.Calling.{Calling}
use Rattle.bus_trace.specs.declared.connection.Connection.{Connection}
use Rattle.bus_lines.specs.declared.handshakes.Request.{Request}
use Rattle.bus_lines.specs.declared.stage.Stage.TheVariants.{OnFreeBus, InArbitration, InCalling, InAnswer}
use Rattle.bus_lines.specs.declared.stage.Stage.TheVariants.{InConnection, InReset}
use Rattle.bus_lines.specs.Stage.{stage}
use Rattle.bus_lines.specs.Effect.{effect, no_effect}
use Rattle.bus_lines.specs.Handshakes.{handshakes, no_handshakes, room_by}
use Rattle.bus_lines.specs.Handshakes as pulses
use Rattle.bus_trace.proofs.Sample.{row, fault}

-- ---- a selection

abbrev entered : List Row
entered = row 1200 7 0x00280 ∷ []

abbrev won : List Row
won = row 3600 7 0x00680 ∷ entered

abbrev called : List Row
called = row 4890 7 0x10581 ∷ row 4800 7 0x10781 ∷ won

abbrev answered : List Row
answered = row 5290 0 0x00200 ∷ called

abbrev joined : List Row
joined = row 5380 7 0x10000 ∷ answered

abbrev calling : Calling
calling = record {
  called = 0;
  reselects = false;
  at = 4800;
  released = Some 4890;
  withdrawn = None;
  resumed = None;
  answered = None;
  struck = false;
}

abbrev call_to_0 : Option Calling → Call
call_to_0 k = record { caller = 7; at = 3600; calling = k }

abbrev link : Connection
link = record { initiator = 7; target = 0; began = 5380; reselected = false }

free_stage : stage [] ≡ OnFreeBus 0
unfolding union_below
free_stage = refl

entered_stage : stage entered ≡ InArbitration (record { free = 0; first = 1200 })
unfolding union_below
entered_stage = refl

won_stage : stage won ≡ InCalling (call_to_0 None)
unfolding union_below
won_stage = refl

called_stage : stage called ≡ InCalling (call_to_0 (Some calling))
unfolding union_below ones
called_stage = refl

answered_stage : stage answered ≡ InAnswer (call_to_0 (Some (record calling { answered = Some 5290 })))
    (record calling { answered = Some 5290 }) 5290
unfolding union_below ones
answered_stage = refl

joined_stage : stage joined ≡ InConnection link
unfolding union_below ones
joined_stage = refl

reset_stage : stage (row 5390 3 0x20000 ∷ joined) ≡ InReset 5390
unfolding union_below ones
reset_stage = refl

left_stage : stage (row 5400 0 0x00000 ∷ joined) ≡ OnFreeBus 5400
unfolding union_below ones
left_stage = refl

nothing_done : effect [] ≡ no_effect
nothing_done = refl

joined_effect
    : effect joined
    ≡ record {
      change = record { before = set_of 0x10781; after = set_of 0x10200; own = set_of 0x10581; next = set_of 0x10000 };
      before = None;
      after = Some link;
      receiver = None;
      fault = false;
    }
unfolding union_below ones
joined_effect = refl

-- ---- IDENTIFY, from the initiator

abbrev asked : List Row
asked = row 5780 7 0x001c0 ∷ row 5780 0 0x06a00 ∷ row 5380 0 0x02a00 ∷ joined

abbrev sent : List Row
sent = row 5870 7 0x081c0 ∷ asked

asked_once : handshakes asked ≡ record no_handshakes {
  requests = 1;
  last_req = 5780;
  reach = 1;
  waiting = record { time = 5780; struck = false } ∷ [];
}
unfolding union_below ones
asked_once = refl

sent_once : handshakes sent ≡ record {
  requests = 1;
  answers = 1;
  last_req = 5780;
  last_ack = 5870;
  struck = false;
  reach = 1;
  relieved = Some 5870;
  waiting = [];
}
unfolding union_below ones
sent_once = refl

-- The target receives with ACK.
sent_effect
    : effect sent
    ≡ record {
      change = record { before = set_of 0x06bc0; after = set_of 0x0ebc0; own = set_of 0x001c0; next = set_of 0x081c0 };
      before = Some link;
      after = Some link;
      receiver = Some 0;
      fault = false;
    }
unfolding union_below ones
sent_effect = refl

-- ---- DATA IN, under an offset of 2: a fault strikes the first byte

abbrev turned : List Row
turned = row 6670 0 0x01307 ∷ row 5870 0 0x01200 ∷ row 5870 7 0x00000 ∷ row 5870 0 0x02a00 ∷ sent

abbrev first_byte : List Row
first_byte = row 6725 0 0x05307 ∷ turned

abbrev struck : List Row
struck = fault 6725 7 3 ∷ first_byte

abbrev second_byte : List Row
second_byte = row 6925 0 0x05300 ∷ row 6825 0 0x01300 ∷ struck

abbrev taken : List Row
taken = row 7030 7 0x08000 ∷ row 6990 7 0x00000 ∷ row 6930 7 0x08000 ∷ second_byte

begun_anew : handshakes turned ≡ no_handshakes
unfolding union_below ones
begun_anew = refl

-- The initiator receives with REQ.
first_effect
    : effect first_byte
    ≡ record {
      change = record { before = set_of 0x01307; after = set_of 0x05307; own = set_of 0x01307; next = set_of 0x05307 };
      before = Some link;
      after = Some link;
      receiver = Some 7;
      fault = false;
    }
unfolding union_below ones
first_effect = refl

struck_effect
    : effect struck
    ≡ record {
      change = record { before = set_of 0x05307; after = set_of 0x05307; own = none; next = none };
      before = Some link;
      after = Some link;
      receiver = None;
      fault = true;
    }
unfolding union_below ones
struck_effect = refl

struck_once : handshakes struck ≡ record no_handshakes {
  requests = 1;
  last_req = 6725;
  struck = true;
  reach = 1;
  waiting = record { time = 6725; struck = true } ∷ [];
}
unfolding union_below ones
struck_once = refl

asked_twice : handshakes second_byte
    ≡ record no_handshakes {
      requests = 2;
      last_req = 6925;
      reach = 2;
      waiting = record { time = 6725; struck = true } ∷ record { time = 6925; struck = false } ∷ [];
    }
unfolding union_below ones
asked_twice = refl

-- ACK answers the oldest request; room came with the first of the two.
answered_twice : handshakes taken ≡ record {
  requests = 2;
  answers = 2;
  last_req = 6925;
  last_ack = 7030;
  struck = false;
  reach = 2;
  relieved = Some 6930;
  waiting = [];
}
unfolding union_below ones
answered_twice = refl

room_under_2 : room_by 2 (handshakes taken) ≡ 6930
unfolding union_below ones
room_under_2 = refl

room_under_3 : room_by 3 (handshakes taken) ≡ 0
unfolding union_below ones
room_under_3 = refl

-- ---- the handshakes of a phase, on small records

abbrev asked_at : ℕ → Bool → Request
asked_at time struck = record { time = time; struck = struck }

-- Three requests, the last of which is struck, and two answers: the first of these made room.
answered_in_turn : pulses.answered 950
    (pulses.answered 900 (pulses.newest_struck (pulses.asked 800 (pulses.asked 700 (pulses.asked 600 no_handshakes)))))
    ≡ record {
      requests = 3;
      answers = 2;
      last_req = 800;
      last_ack = 950;
      struck = true;
      reach = 3;
      relieved = Some 900;
      waiting = asked_at 800 true ∷ [];
    }
answered_in_turn = refl

asked_again : pulses.asked 990 (pulses.answered 950 (pulses.newest_struck (pulses.asked 600 no_handshakes))) ≡ record {
  requests = 2;
  answers = 1;
  last_req = 990;
  last_ack = 950;
  struck = false;
  reach = 1;
  relieved = None;
  waiting = asked_at 990 false ∷ [];
}
asked_again = refl

struck_before_any : pulses.newest_struck no_handshakes ≡ no_handshakes
struck_before_any = refl

-- No more than 255 are remembered.
remembers_255 : length (pulses.opened 5 (replicate 254 (asked_at 4 false))) ≡ 255
remembers_255 = refl

remembers_no_more : pulses.opened 5 (replicate 255 (asked_at 4 false)) ≡ replicate 255 (asked_at 4 false)
remembers_no_more = refl

-- ---- a reselection

abbrev rejoined : List Row
rejoined = row 5470 0 0x01200 ∷ row 5380 0 0x01781 ∷ row 5290 7 0x00200 ∷ row 4890 0 0x01581 ∷ row 4800 0 0x01781
    ∷ row 3600 0 0x00601 ∷ row 1200 0 0x00201 ∷ []

rejoined_stage : stage rejoined ≡ InConnection (record { initiator = 7; target = 0; began = 5470; reselected = true })
unfolding union_below ones
rejoined_stage = refl
