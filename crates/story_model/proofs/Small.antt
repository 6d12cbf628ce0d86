-- The budget, valid commands and room, computed on scenarios of one read of five blocks, and at a tape; and an
-- agreement.
use Rattle.std.proofs.Common.{ℕ, ◌≡◌, true, false, List, [], ◌∷◌, reverse, refl}
use lib.Count.{ones}
use Rattle.bus_phases.specs.bus_base.specs.declared.events.Pick.TheVariants as picks
use Rattle.array_model.specs.scenario.specs.declared.value.CmdDef.{CmdDef}
use Rattle.array_model.specs.scenario.specs.declared.value.FaultDef.{FaultDef}
use Rattle.array_model.specs.scenario.specs.declared.value.ResetDef.{ResetDef}
use Rattle.array_model.specs.scenario.specs.declared.value.Policy.{Policy}
use Rattle.array_model.specs.scenario.specs.declared.value.Policy.TheVariants as policies
use Rattle.array_model.specs.scenario.specs.declared.value.Tag.TheVariants as tags
use Rattle.array_model.specs.scenario.specs.declared.value.Payload.TheVariants as payloads
use Rattle.array_model.specs.scenario.specs.Value.{ScenarioValue}
use Rattle.array_model.specs.scenario.specs.Needs.{need_of}
use Rattle.bus_phases.specs.bus_trace.specs.LineSet.{line_of}
use Rattle.bus_phases.specs.bus_trace.specs.View.{union_below}
use Rattle.bus_phases.specs.msg_grammar.specs.Messages.{form_out, form_in}
use Rattle.story_model.specs.CurrentAgreement.{current_agreement}
use Rattle.story_model.proofs.Cases.{negotiation_run_rows}
use Rattle.story_model.specs.Budget.{budget, data_runs}
use Rattle.story_model.specs.Outcomes.{is_valid, is_roomy}

-- READ(6) of five blocks from this one on.
abbrev read : ℕ → CmdDef
read lba = record {
  host = 7;
  target = 0;
  unit = 0;
  at = 0;
  tag = tags.Untagged;
  cdb = 8 ∷ 0 ∷ 0 ∷ lba ∷ 5 ∷ 0 ∷ [];
  payload = payloads.Nothing;
}

abbrev with_policy : Policy → List FaultDef → List ResetDef → ℕ → ScenarioValue
with_policy policy faults resets depth = record {
  version = 1;
  hosts = record { dev = 7; latency = 0; most = 2; retries = 0; period = 50; offset = 0; lag = 0; offers = false } ∷ [];
  targets = record {
    dev = 0;
    latency = 0;
    retries = 0;
    disc = policy;
    pick = picks.First;
    seek = 0;
    period = 50;
    offset = 0;
    begins = false;
  } ∷ [];
  units = record { target = 0; unit = 0; blocks = 8; size = 16; depth = depth } ∷ [];
  fills = [];
  tapes = [];
  loads = [];
  commands = read 0 ∷ [];
  aborts = [];
  resets = resets;
  faults = faults;
}

-- 1024 * (2 * 80 + 128) + 32768 * (runs + 8) + 8192 * 2
one_run : budget (with_policy policies.Never [] [] 1) ≡ 606208
unfolding need_of ones
one_run = refl

two_blocks_a_run : budget (with_policy (policies.Burst 2) [] [] 1) ≡ 671744
unfolding need_of ones
two_blocks_a_run = refl

two_blocks_and_all : budget (with_policy (policies.NoSave 2) [] [] 1) ≡ 638976
unfolding need_of ones
two_blocks_and_all = refl

all_at_once : budget (with_policy (policies.NoSave 5) [] [] 1) ≡ 606208
unfolding need_of ones
all_at_once = refl

-- 1024 * (288 + 144) + 32768 * (9 + 4) + 8192 * 2
fault_and_reset :
    budget (with_policy policies.Never (record { at = 5; bit = 0 } ∷ []) (record { dev = 7; at = 5 } ∷ []) 1) ≡ 884736
unfolding need_of ones
fault_and_reset = refl

last_blocks : is_valid (with_policy policies.Never [] [] 1) (read 3) ≡ true
unfolding ones
last_blocks = refl

past_the_last : is_valid (with_policy policies.Never [] [] 1) (read 4) ≡ false
unfolding ones
past_the_last = refl

room_for_two : is_roomy (with_policy policies.Never [] [] 2) ≡ true
room_for_two = refl

room_for_one : is_roomy (with_policy policies.Never [] [] 1) ≡ false
room_for_one = refl

-- ---- beside a tape

abbrev beside_a_tape : ℕ → ScenarioValue
beside_a_tape depth = record (with_policy (policies.Burst 2) [] [] 2) {
  version = 3;
  tapes = record { target = 0; unit = 1; objects = 4; size = 16; depth = depth } ∷ [];
}

abbrev at_tape : List ℕ → CmdDef
at_tape cdb =
    record { host = 7; target = 0; unit = 1; at = 0; tag = tags.Untagged; cdb = cdb; payload = payloads.Nothing }

-- It ends GOOD wherever the tape stands.
rewind : is_valid (beside_a_tape 2) (at_tape (1 ∷ 0 ∷ 0 ∷ 0 ∷ 0 ∷ 0 ∷ [])) ≡ true
unfolding ones
rewind = refl

-- It may meet a filemark.
tape_read : is_valid (beside_a_tape 2) (at_tape (8 ∷ 1 ∷ 0 ∷ 0 ∷ 1 ∷ 0 ∷ [])) ≡ false
unfolding ones
tape_read = refl

beside_it : is_valid (beside_a_tape 2) (read 3) ≡ true
unfolding ones
beside_it = refl

tape_has_room : is_roomy (beside_a_tape 2) ≡ true
tape_has_room = refl

tape_is_full : is_roomy (beside_a_tape 1) ≡ false
tape_is_full = refl

-- One run moves all, whatever the policy.
one_run_at_tape : data_runs (beside_a_tape 2) (at_tape (8 ∷ 1 ∷ 0 ∷ 0 ∷ 3 ∷ 0 ∷ [])) ≡ 1
unfolding need_of ones
one_run_at_tape = refl

-- A struck answer is sent again; factor 50 and offset 8 are agreed on.
agreed_on : current_agreement (reverse negotiation_run_rows) 7 0 ≡ record { period = 50; offset = 8 }
unfolding ones union_below line_of form_out form_in
agreed_on = refl

none_with_another : current_agreement (reverse negotiation_run_rows) 6 0 ≡ record { period = 0; offset = 0 }
unfolding ones union_below line_of form_out form_in
none_with_another = refl
