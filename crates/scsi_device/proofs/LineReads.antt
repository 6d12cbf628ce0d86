-- What one line of a scenario shows that has no reason.
use Rattle.std.proofs.Common.{ℕ, ◌≡◌, ◌≤◌, ◌<◌, ◌-◌, ◌^◌, ◌∙◌, Bool, true, false, not, List, [], ◌∷◌, length, Option}
use Rattle.std.proofs.Common.{Some, None, Result, Ok, Err, subst, arith}
use Rattle.std.specs.Prelude.{is_some, nat_lt, if◌then◌else◌}
use Rattle.std.proofs.lemmas.Bool.Decides.{nat_tests}
use Rattle.due_model.specs.cdb_codec.specs.Cdb.{is_len}
use Rattle.text_words.specs.Words.{Number}
use Rattle.scenario.specs.declared.bounds.TheConstants.{LATENCY_LIMIT, OPEN_LIMIT, RETRY_LIMIT, HOST_OFFSET_LIMIT}
use Rattle.scenario.specs.declared.bounds.TheConstants.{TARGET_OFFSET_LIMIT, LAG_LIMIT, SEEK_LIMIT, BLOCK_LIMIT}
use Rattle.scenario.specs.declared.bounds.TheConstants.{LEAST_SIZE, SIZE_LIMIT, DEPTH_LIMIT, OBJECT_LIMIT, FAULT_LIMIT}
use Rattle.scenario.specs.declared.value.HostDef.{HostDef}
use Rattle.scenario.specs.declared.value.TargetDef.{TargetDef}
use Rattle.scenario.specs.declared.value.UnitDef.{UnitDef}
use Rattle.scenario.specs.declared.value.FillDef.{FillDef}
use Rattle.scenario.specs.declared.value.TapeDef.{TapeDef}
use Rattle.scenario.specs.declared.value.LoadDef.{LoadDef}
use Rattle.scenario.specs.declared.value.CmdDef.{CmdDef}
use Rattle.scenario.specs.declared.value.AbortDef.{AbortDef}
use Rattle.scenario.specs.declared.value.ResetDef.{ResetDef}
use Rattle.scenario.specs.declared.value.FaultDef.{FaultDef}
use Rattle.scenario.specs.Value.{ScenarioValue}
use Rattle.scenario.specs.Lookups.{has_target, has_device, unit_of, tape_of, has_fill, loads_at}
use Rattle.scenario.specs.Needs.{need_of, sent_of}
use Rattle.scenario.specs.Forms.{Said, CmdSaid, initiator_line, target_line, unit_line, fill_line, tape_line}
use Rattle.scenario.specs.Forms.{load_line, abort_line, reset_line, fault_line}
use Rattle.scenario.specs.Reasons.{is_block_in}
use Rattle.scenario.specs.Reading.{guard, found, is_block_of, fill_def, within, in_8, period_in, policy_in, time_in}
use Rattle.scenario.specs.Reading.{tag_in, what_in, size_in, is_size, is_block, are_ends, is_payload, has_room}
use Rattle.scenario.specs.Reading.{has_abort_room, host_def, target_def, unit_def, tape_def, load_of, fits_tape}
use Rattle.scenario.specs.Reading.{load_def, cmd_def, full_cmd_def, abort_def, reset_def, fault_def}
use Rattle.scenario.proofs.Steps.{bind_ok, ok_is, guard_ok, within_ok}
use Rattle.scsi_device.proofs.Finds.{none_is}
use Rattle.std.proofs.lemmas.Bool.{not-true}

-- ---- what is said of a line alone

pub record IsHostWithin (h : HostDef) : Type 0 where
  pub below : h.dev < 8
  pub latency : h.latency ≤ 100
  pub lag : h.lag ≤ 10000
  pub most : h.most ≤ 32
  pub few : h.retries ≤ 16

pub record IsTargetWithin (t : TargetDef) : Type 0 where
  pub below : t.dev < 8
  pub latency : t.latency ≤ 100
  pub few : t.retries ≤ 16
  pub seek : t.seek ≤ 1000000000

pub record IsUnitWithin (u : UnitDef) : Type 0 where
  pub target : u.target < 8
  pub unit : u.unit < 8
  pub some_blocks : 1 ≤ u.blocks
  pub most_blocks : u.blocks ≤ 4294967296
  pub least_size : 16 ≤ u.size
  pub most_size : u.size ≤ 2048
  pub some_depth : 1 ≤ u.depth
  pub most_depth : u.depth ≤ 256

pub record IsTapeWithin (t : TapeDef) : Type 0 where
  pub target : t.target < 8
  pub unit : t.unit < 8
  pub some_objects : 1 ≤ t.objects
  pub most_objects : t.objects ≤ 65536
  pub least_size : 16 ≤ t.size
  pub most_size : t.size ≤ 2048
  pub some_depth : 1 ≤ t.depth
  pub most_depth : t.depth ≤ 256

pub record IsCommandWithin (c : CmdDef) : Type 0 where
  pub host : c.host < 8
  pub target : c.target < 8
  pub unit : c.unit < 8
  pub time : c.at ≤ 1000000000000
  pub some_block : 1 ≤ length c.cdb
  pub most_block : length c.cdb ≤ 10

pub record IsAbortWithin (a : AbortDef) : Type 0 where
  pub host : a.host < 8
  pub target : a.target < 8
  pub unit : a.unit < 8
  pub time : a.at ≤ 1000000000000

-- ---- numbers

pub within_of : (u : Number) (least most n : ℕ) → within u least most ≡ Ok n → (least ≤ n) × (n ≤ most)
within_of u least most n e = let w = within_ok u least most n e in (w.1, w.2)

size_within : (u : Number) (n : ℕ) → size_in u ≡ Ok n → (16 ≤ n) × (n ≤ 2048)
unfolding size_in
size_within u n e =
    let a = bind_ok (within u LEAST_SIZE SIZE_LIMIT) _ n e in
    let g = bind_ok (guard 4 (is_size a.0)) _ n a.2 in
    subst (λ (m : ℕ). (16 ≤ m) × (m ≤ 2048)) (ok_is a.0 n g.2) (within_of u 16 2048 a.0 a.1)

six_or_ten : (q r : Bool) (n : ℕ) → is_len (if q then Some 6 else if r then Some 10 else None) n ≡ true
    → (1 ≤ n) × (n ≤ 10)
six_or_ten true r n e = (grind (arith, nat_tests), grind (arith, nat_tests))
six_or_ten false true n e = (grind (arith, nat_tests), grind (arith, nat_tests))
six_or_ten false false n e = absurd cc

block_length : (cdb : List ℕ) → is_block cdb ≡ true → (1 ≤ length cdb) × (length cdb ≤ 10)
block_length [] e = absurd cc
block_length (b ∷ bytes) e = six_or_ten (nat_lt b 32) (nat_lt b 64) (length (b ∷ bytes)) e

-- ---- the lines, each taken whole: the forms of most have no name outside the crate that reads them

abbrev pub host_by : ScenarioValue → Said → Result HostDef ℕ
host_by s (initiator_line f) = host_def s f
host_by s _ = Err 0

-- An initiator or a target is new.
pub host_read : (s : ScenarioValue) (x : Said) (h : HostDef) → host_by s x ≡ Ok h
    → IsHostWithin h × (has_device s h.dev ≡ false)
unfolding host_def
host_read s (initiator_line f) h e =
    let b1 = bind_ok (in_8 f.device) _ h e in
    let b2 = bind_ok (within f.latency 0 LATENCY_LIMIT) _ h b1.2 in
    let b3 = bind_ok (within f.«open» 1 OPEN_LIMIT) _ h b2.2 in
    let b4 = bind_ok (within f.retries 0 RETRY_LIMIT) _ h b3.2 in
    let b5 = bind_ok (period_in f.period) _ h b4.2 in
    let b6 = bind_ok (within f.offset 0 HOST_OFFSET_LIMIT) _ h b5.2 in
    let b7 = bind_ok (within f.lag 0 LAG_LIMIT) _ h b6.2 in
    let b8 = bind_ok (guard 5 (not (has_device s b1.0))) _ h b7.2 in
    let w1 = within_of f.device 0 7 b1.0 b1.1 in
    let w2 = within_of f.latency 0 100 b2.0 b2.1 in
    let w3 = within_of f.«open» 1 32 b3.0 b3.1 in
    let w4 = within_of f.retries 0 16 b4.0 b4.1 in
    let w7 = within_of f.lag 0 10000 b7.0 b7.1 in
    subst (λ (x : HostDef). IsHostWithin x × (has_device s x.dev ≡ false)) (ok_is _ h b8.2) (
      record { below = let w = w1.1 in omega arith; latency = w2.1; lag = w7.1; most = w3.1; few = w4.1 },
      not-true (has_device s b1.0) (guard_ok 5 _ b8.0 b8.1),
    )
host_read s _ h e = absurd cc

abbrev pub target_by : ScenarioValue → Said → Result TargetDef ℕ
target_by s (target_line f) = target_def s f
target_by s _ = Err 0

pub target_read : (s : ScenarioValue) (x : Said) (t : TargetDef) → target_by s x ≡ Ok t
    → IsTargetWithin t × (has_device s t.dev ≡ false)
unfolding target_def
target_read s (target_line f) t e =
    let b1 = bind_ok (in_8 f.device) _ t e in
    let b2 = bind_ok (within f.latency 0 LATENCY_LIMIT) _ t b1.2 in
    let b3 = bind_ok (within f.retries 0 RETRY_LIMIT) _ t b2.2 in
    let b4 = bind_ok (policy_in f.disc) _ t b3.2 in
    let b5 = bind_ok (within f.seek 0 SEEK_LIMIT) _ t b4.2 in
    let b6 = bind_ok (period_in f.period) _ t b5.2 in
    let b7 = bind_ok (within f.offset 0 TARGET_OFFSET_LIMIT) _ t b6.2 in
    let b8 = bind_ok (guard 5 (not (has_device s b1.0))) _ t b7.2 in
    let w1 = within_of f.device 0 7 b1.0 b1.1 in
    let w2 = within_of f.latency 0 100 b2.0 b2.1 in
    let w3 = within_of f.retries 0 16 b3.0 b3.1 in
    let w5 = within_of f.seek 0 1000000000 b5.0 b5.1 in
    subst (λ (x : TargetDef). IsTargetWithin x × (has_device s x.dev ≡ false)) (ok_is _ t b8.2) (
      record { below = let w = w1.1 in omega arith; latency = w2.1; few = w3.1; seek = w5.1 },
      not-true (has_device s b1.0) (guard_ok 5 _ b8.0 b8.1),
    )
target_read s _ t e = absurd cc

-- A unit is new, and its target is known.
pub record IsUnitRead (s : ScenarioValue) (u : UnitDef) : Type 0 where
  pub limits : IsUnitWithin u
  pub new : unit_of s u.target u.unit ≡ None
  pub known : has_target s u.target ≡ true

abbrev pub unit_by : ScenarioValue → Said → Result UnitDef ℕ
unit_by s (unit_line f) = unit_def s f
unit_by s _ = Err 0

pub unit_read : (s : ScenarioValue) (x : Said) (u : UnitDef) → unit_by s x ≡ Ok u → IsUnitRead s u
unfolding unit_def
unit_read s (unit_line f) u e =
    let b1 = bind_ok (in_8 f.target) _ u e in
    let b2 = bind_ok (in_8 f.unit) _ u b1.2 in
    let b3 = bind_ok (within f.blocks 1 BLOCK_LIMIT) _ u b2.2 in
    let b4 = bind_ok (size_in f.size) _ u b3.2 in
    let b5 = bind_ok (within f.depth 1 DEPTH_LIMIT) _ u b4.2 in
    let b6 = bind_ok (guard 5 (not (is_some (unit_of s b1.0 b2.0)))) _ u b5.2 in
    let b7 = bind_ok (guard 6 (has_target s b1.0)) _ u b6.2 in
    let w1 = within_of f.target 0 7 b1.0 b1.1 in
    let w2 = within_of f.unit 0 7 b2.0 b2.1 in
    let w3 = within_of f.blocks 1 4294967296 b3.0 b3.1 in
    let w4 = size_within f.size b4.0 b4.1 in
    let w5 = within_of f.depth 1 256 b5.0 b5.1 in
    subst (IsUnitRead s) (ok_is _ u b7.2) (record {
      limits = record {
        target = let w = w1.1 in omega arith;
        unit = let w = w2.1 in omega arith;
        some_blocks = w3.0;
        most_blocks = w3.1;
        least_size = w4.0;
        most_size = w4.1;
        some_depth = w5.0;
        most_depth = w5.1;
      };
      new = none_is (unit_of s b1.0 b2.0) (not-true _ (guard_ok 5 _ b6.0 b6.1));
      known = guard_ok 6 _ b7.0 b7.1;
    })
unit_read s _ u e = absurd cc

-- A tape is new, too, and its target is known.
pub record IsTapeRead (s : ScenarioValue) (t : TapeDef) : Type 0 where
  pub limits : IsTapeWithin t
  pub new : unit_of s t.target t.unit ≡ None
  pub known : has_target s t.target ≡ true

abbrev pub tape_by : ScenarioValue → Said → Result TapeDef ℕ
tape_by s (tape_line f) = tape_def s f
tape_by s _ = Err 0

pub tape_read : (s : ScenarioValue) (x : Said) (t : TapeDef) → tape_by s x ≡ Ok t → IsTapeRead s t
unfolding tape_def
tape_read s (tape_line f) t e =
    let b1 = bind_ok (in_8 f.target) _ t e in
    let b2 = bind_ok (in_8 f.unit) _ t b1.2 in
    let b3 = bind_ok (within f.objects 1 OBJECT_LIMIT) _ t b2.2 in
    let b4 = bind_ok (size_in f.size) _ t b3.2 in
    let b5 = bind_ok (within f.depth 1 DEPTH_LIMIT) _ t b4.2 in
    let b6 = bind_ok (guard 5 (not (is_some (unit_of s b1.0 b2.0)))) _ t b5.2 in
    let b7 = bind_ok (guard 6 (has_target s b1.0)) _ t b6.2 in
    let w1 = within_of f.target 0 7 b1.0 b1.1 in
    let w2 = within_of f.unit 0 7 b2.0 b2.1 in
    let w3 = within_of f.objects 1 65536 b3.0 b3.1 in
    let w4 = size_within f.size b4.0 b4.1 in
    let w5 = within_of f.depth 1 256 b5.0 b5.1 in
    subst (IsTapeRead s) (ok_is _ t b7.2) (record {
      limits = record {
        target = let w = w1.1 in omega arith;
        unit = let w = w2.1 in omega arith;
        some_objects = w3.0;
        most_objects = w3.1;
        least_size = w4.0;
        most_size = w4.1;
        some_depth = w5.0;
        most_depth = w5.1;
      };
      new = none_is (unit_of s b1.0 b2.0) (not-true _ (guard_ok 5 _ b6.0 b6.1));
      known = guard_ok 6 _ b7.0 b7.1;
    })
tape_read s _ t e = absurd cc

-- A command is of an initiator, and goes to a device that is none.
pub record IsCommandRead (s : ScenarioValue) (c : CmdDef) : Type 0 where
  pub limits : IsCommandWithin c
  pub known : are_ends s c.host c.target ≡ true

cmd_read : (s : ScenarioValue) (f : CmdSaid) (c : CmdDef) → cmd_def s f ≡ Ok c → IsCommandRead s c
unfolding cmd_def
cmd_read s f c e =
    let b1 = bind_ok (in_8 f.host) _ c e in
    let b2 = bind_ok (in_8 f.target) _ c b1.2 in
    let b3 = bind_ok (in_8 f.unit) _ c b2.2 in
    let b4 = bind_ok (time_in f.at) _ c b3.2 in
    let b5 = bind_ok (tag_in f.tag) _ c b4.2 in
    let b6 = bind_ok (guard 4 (is_block f.cdb)) _ c b5.2 in
    let b7 = bind_ok (guard 6 (are_ends s b1.0 b2.0)) _ c b6.2 in
    let w1 = within_of f.host 0 7 b1.0 b1.1 in
    let w2 = within_of f.target 0 7 b2.0 b2.1 in
    let w3 = within_of f.unit 0 7 b3.0 b3.1 in
    let w4 = within_of f.at 0 1000000000000 b4.0 b4.1 in
    let w6 = block_length f.cdb (guard_ok 4 _ b6.0 b6.1) in
    subst (IsCommandRead s) (ok_is _ c b7.2) (record {
      limits = record {
        host = let w = w1.1 in omega arith;
        target = let w = w2.1 in omega arith;
        unit = let w = w3.1 in omega arith;
        time = w4.1;
        some_block = w6.0;
        most_block = w6.1;
      };
      known = guard_ok 6 _ b7.0 b7.1;
    })

-- It sends what its payload says, and there is room for it.
pub record IsFullCommandRead (s : ScenarioValue) (needs : ℕ) (c : CmdDef) : Type 0 where
  pub is : IsCommandRead s c
  pub sends : is_payload (sent_of s c) c.payload ≡ true
  pub room : has_room s needs (need_of s c) ≡ true

pub full_cmd_read : (s : ScenarioValue) (needs : ℕ) (f : CmdSaid) (c : CmdDef) → full_cmd_def s needs f ≡ Ok c
    → IsFullCommandRead s needs c
unfolding full_cmd_def
full_cmd_read s needs f c e =
    let b = bind_ok (cmd_def s f) _ c e in
    let u = bind_ok (guard 7 (is_payload (sent_of s b.0) (b.0).payload)) _ c b.2 in
    let v = bind_ok (guard 8 (has_room s needs (need_of s b.0))) _ c u.2 in
    subst (IsFullCommandRead s needs) (ok_is b.0 c v.2)
    (record { is = cmd_read s f b.0 b.1; sends = guard_ok 7 _ u.0 u.1; room = guard_ok 8 _ v.0 v.1 })

-- An abort is of an initiator, too, and goes to a device that is none, and there is room for it.
pub record IsAbortRead (s : ScenarioValue) (a : AbortDef) : Type 0 where
  pub limits : IsAbortWithin a
  pub known : are_ends s a.host a.target ≡ true
  pub room : has_abort_room s ≡ true

abbrev pub abort_by : ScenarioValue → Said → Result AbortDef ℕ
abort_by s (abort_line f) = abort_def s f
abort_by s _ = Err 0

pub abort_read : (s : ScenarioValue) (x : Said) (a : AbortDef) → abort_by s x ≡ Ok a → IsAbortRead s a
unfolding abort_def
abort_read s (abort_line f) a e =
    let b1 = bind_ok (in_8 f.host) _ a e in
    let b2 = bind_ok (in_8 f.target) _ a b1.2 in
    let b3 = bind_ok (in_8 f.unit) _ a b2.2 in
    let b4 = bind_ok (time_in f.at) _ a b3.2 in
    let b5 = bind_ok (what_in f.what) _ a b4.2 in
    let b6 = bind_ok (guard 6 (are_ends s b1.0 b2.0)) _ a b5.2 in
    let b7 = bind_ok (guard 8 (has_abort_room s)) _ a b6.2 in
    let w1 = within_of f.host 0 7 b1.0 b1.1 in
    let w2 = within_of f.target 0 7 b2.0 b2.1 in
    let w3 = within_of f.unit 0 7 b3.0 b3.1 in
    let w4 = within_of f.at 0 1000000000000 b4.0 b4.1 in
    subst (IsAbortRead s) (ok_is _ a b7.2) (record {
      limits = record {
        host = let w = w1.1 in omega arith;
        target = let w = w2.1 in omega arith;
        unit = let w = w3.1 in omega arith;
        time = w4.1;
      };
      known = guard_ok 6 _ b6.0 b6.1;
      room = guard_ok 8 _ b7.0 b7.1;
    })
abort_read s _ a e = absurd cc

abbrev pub fill_by : ScenarioValue → Said → Result FillDef ℕ
fill_by s (fill_line f) = fill_def s f
fill_by s _ = Err 0

found_is : {X : Type 0} (o : Option X) (u : X) → found o ≡ Ok u → o ≡ Some u
found_is None u e = absurd cc
found_is (Some v) u e = cc

-- A fill is of a block of its unit.
pub fill_read : (s : ScenarioValue) (x : Said) (d : FillDef) → fill_by s x ≡ Ok d
    → is_block_in (unit_of s d.target d.unit) d.lba d.bytes ≡ true
unfolding fill_def
fill_read s (fill_line f) d e =
    let b1 = bind_ok (in_8 f.target) _ d e in
    let b2 = bind_ok (in_8 f.unit) _ d b1.2 in
    let b3 = bind_ok (within f.lba 0 (2 ^ 64 - 1)) _ d b2.2 in
    let b4 = bind_ok (guard 5 (not (has_fill s.fills b1.0 b2.0 b3.0))) _ d b3.2 in
    let b5 = bind_ok (found (unit_of s b1.0 b2.0)) _ d b4.2 in
    let b6 = bind_ok (guard 7 (is_block_of b5.0 b3.0 f.bytes)) _ d b5.2 in
    subst (λ (x : FillDef). is_block_in (unit_of s x.target x.unit) x.lba x.bytes ≡ true) (ok_is _ d b6.2)
    ((λ i. is_block_in (found_is (unit_of s b1.0 b2.0) b5.0 b5.1 i) b3.0 f.bytes) ∙ guard_ok 7 _ b6.0 b6.1)
fill_read s _ d e = absurd cc

-- A load is of an object that fits on its tape, after those that stand there.
pub record IsLoadRead (s : ScenarioValue) (l : LoadDef) : Type 0 where
  pub tape : TapeDef
  pub there : tape_of s l.target l.unit ≡ Some tape
  pub fits : fits_tape tape (loads_at s.loads l.target l.unit) l.what ≡ true

abbrev pub load_by : ScenarioValue → Said → Result LoadDef ℕ
load_by s (load_line f) = load_def s f
load_by s _ = Err 0

pub load_read : (s : ScenarioValue) (x : Said) (l : LoadDef) → load_by s x ≡ Ok l → IsLoadRead s l
unfolding load_def
load_read s (load_line f) l e =
    let b1 = bind_ok (in_8 f.target) _ l e in
    let b2 = bind_ok (in_8 f.unit) _ l b1.2 in
    let b3 = bind_ok (found (tape_of s b1.0 b2.0)) _ l b2.2 in
    let b4 = bind_ok (guard 7 (fits_tape b3.0 (loads_at s.loads b1.0 b2.0) (load_of f.what))) _ l b3.2 in
    subst (IsLoadRead s) (ok_is _ l b4.2) (record {
      tape = b3.0;
      there = found_is (tape_of s b1.0 b2.0) b3.0 b3.1;
      fits = guard_ok 7 _ b4.0 b4.1;
    })
load_read s _ l e = absurd cc

abbrev pub reset_by : ScenarioValue → Said → Result ResetDef ℕ
reset_by s (reset_line f) = reset_def s f
reset_by s _ = Err 0

pub reset_read : (s : ScenarioValue) (x : Said) (r : ResetDef) → reset_by s x ≡ Ok r → r.at ≤ 1000000000000
unfolding reset_def
reset_read s (reset_line f) r e =
    let b1 = bind_ok (in_8 f.device) _ r e in
    let b2 = bind_ok (time_in f.at) _ r b1.2 in
    let b3 = bind_ok (guard 6 (has_device s b1.0)) _ r b2.2 in
    let b4 = bind_ok (guard 8 (has_abort_room s)) _ r b3.2 in
    subst (λ (x : ResetDef). x.at ≤ 1000000000000) (ok_is _ r b4.2) (within_of f.at 0 1000000000000 b2.0 b2.1).1
reset_read s _ r e = absurd cc

abbrev pub fault_by : ScenarioValue → Said → Result FaultDef ℕ
fault_by s (fault_line f) = fault_def s f
fault_by s _ = Err 0

pub fault_read : (s : ScenarioValue) (x : Said) (y : FaultDef) → fault_by s x ≡ Ok y
    → (y.at ≤ 1000000000000) × (y.bit ≤ 8)
unfolding fault_def
fault_read s (fault_line f) y e =
    let b1 = bind_ok (time_in f.at) _ y e in
    let b2 = bind_ok (within f.bit 0 8) _ y b1.2 in
    let b3 = bind_ok (guard 8 (nat_lt (length s.faults) FAULT_LIMIT)) _ y b2.2 in
    subst (λ (d : FaultDef). (d.at ≤ 1000000000000) × (d.bit ≤ 8)) (ok_is _ y b3.2)
    ((within_of f.at 0 1000000000000 b1.0 b1.1).1, (within_of f.bit 0 8 b2.0 b2.1).1)
fault_read s _ y e = absurd cc
