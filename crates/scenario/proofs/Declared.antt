-- What a line that was taken declares says the line again.
use Rattle.std.proofs.Common.{◌≡◌, ℕ, ◌-◌, ◌^◌, Bool, true, false, not, cond, length, Option, Some, None, Ok, refl, sym}
use Rattle.std.proofs.Common.{ap, subst, ◌∙◌, arith}
use Rattle.std.specs.Prelude.{nat_lt, ◌==◌, ◌||◌, is_some}
use Rattle.std.proofs.lemmas.Bool.Decides.{nat_tests}
use Rattle.scenario.specs.declared.bounds.TheConstants.{TIME_LIMIT, LATENCY_LIMIT, OPEN_LIMIT, RETRY_LIMIT}
use Rattle.scenario.specs.declared.bounds.TheConstants.{HOST_OFFSET_LIMIT, TARGET_OFFSET_LIMIT, LAG_LIMIT, SEEK_LIMIT}
use Rattle.scenario.specs.declared.bounds.TheConstants.{BLOCK_LIMIT, DEPTH_LIMIT, FAULT_LIMIT, OBJECT_LIMIT}
use Rattle.scenario.specs.declared.value.HostDef.{HostDef}
use Rattle.scenario.specs.declared.value.TargetDef.{TargetDef}
use Rattle.scenario.specs.declared.value.UnitDef.{UnitDef}
use Rattle.scenario.specs.declared.value.FillDef.{FillDef}
use Rattle.scenario.specs.declared.value.TapeDef.{TapeDef}
use Rattle.scenario.specs.declared.value.LoadDef.{LoadDef}
use Rattle.scenario.specs.declared.value.CmdDef.{CmdDef}
use Rattle.scenario.specs.declared.value.AbortDef.{AbortDef}
use Rattle.scenario.specs.declared.value.ResetDef.{ResetDef}
use Rattle.scenario.specs.declared.value.FaultDef.{FaultDef}
use Rattle.scenario.specs.declared.form.HostForm.{HostForm}
use Rattle.scenario.specs.declared.form.TargetForm.{TargetForm}
use Rattle.scenario.specs.declared.form.UnitForm.{UnitForm}
use Rattle.scenario.specs.declared.form.TapeForm.{TapeForm}
use Rattle.scenario.specs.declared.form.AbortForm.{AbortForm}
use Rattle.scenario.specs.declared.form.ResetForm.{ResetForm}
use Rattle.scenario.specs.declared.form.FaultForm.{FaultForm}
use Rattle.scenario.specs.Value.{ScenarioValue}
use Rattle.scenario.specs.Lookups.{has_target, has_device, unit_of, tape_of, has_fill, loads_at}
use Rattle.scenario.specs.Needs.{need_of, sent_of}
use Rattle.scenario.specs.Parts.{PayloadSaid, no_bytes, these_bytes, bytes_from, ObjectSaid, block_object, mark_object}
use Rattle.scenario.specs.Forms.{Said, FillSaid, LoadSaid, CmdSaid, initiator_line, target_line, unit_line, fill_line}
use Rattle.scenario.specs.Forms.{tape_line, load_line, cmd_line, abort_line, reset_line, fault_line}
use Rattle.scenario.specs.Reading.{guard, within, in_8, time_in, period_in, size_in, policy_in, tag_in, what_in}
use Rattle.scenario.specs.Reading.{is_block, answer_or, host_def, target_def, unit_def, found, is_block_of, fill_def}
use Rattle.scenario.specs.Reading.{are_ends, payload_of, cmd_def, is_payload, has_room, full_cmd_def, has_abort_room}
use Rattle.scenario.specs.Reading.{abort_def, reset_def, fault_def, fits_flag, tape_def, load_of, fits_tape, load_def}
use Rattle.scenario.specs.Writing.{said_flag, said_host, said_target, said_unit, said_fill, said_payload, said_cmd}
use Rattle.scenario.specs.Writing.{said_abort, said_reset, said_fault, said_tape, said_object, said_load, IsHex}
use Rattle.scenario.proofs.PartsAgain.{IsSpelledObject, IsSpelledPayload}
use Rattle.scenario.proofs.FormsAgain.{IsVersion, IsSpelled}
use Rattle.scenario.proofs.Steps.{bind_ok, ok_is, read_within, read_period, read_size, read_policy, read_tag, read_what}

-- In each version, YN that fits is the one that is written.
flag_again : (version : ℕ) (otherwise : Bool) (o : Option Bool) → IsVersion version
    → fits_flag version o ≡ true → said_flag version (answer_or otherwise o) ≡ o
flag_again version otherwise None v f = go (version == 1) refl (version == 2) refl (version == 3) refl v f where
  go : (p : Bool) → (version == 1) ≡ p → (q : Bool) → (version == 2) ≡ q → (r : Bool) → (version == 3) ≡ r
      → (p || (q || r)) ≡ true → nat_lt version 2 ≡ true → cond p None (Some otherwise) ≡ None
  go true a q b r c e g = refl
  go false a true b r c e g = absurd (grind (arith, nat_tests))
  go false a false b true c e g = absurd (grind (arith, nat_tests))
  go false a false b false c e g = absurd cc
flag_again version otherwise (Some answer) v f = go (version == 1) f where
  go : (p : Bool) → not p ≡ true → cond p None (Some answer) ≡ Some answer
  go true g = absurd cc
  go false g = refl

-- The same, where YN stands in all texts but text 1.
pub record IsFlagged (version : ℕ) (x y : Said) : Type 0 where
  pub same : IsVersion version → x ≡ y
  pub spelled : IsSpelled y

-- What is declared by a line that is spelled says that line.
pub record IsDeclared (x y : Said) : Type 0 where
  pub same : x ≡ y
  pub spelled : IsSpelled y

pub host_declared : (s : ScenarioValue) (version : ℕ) (f : HostForm) (def : HostDef) → fits_flag version f.offers ≡ true
    → host_def s f ≡ Ok def → IsFlagged version (said_host version def) (initiator_line f)
unfolding host_def
host_declared s version f def fits e =
    let a = bind_ok (in_8 f.device) _ def e in
    let b = bind_ok (within f.latency 0 LATENCY_LIMIT) _ def a.2 in
    let c = bind_ok (within f.«open» 1 OPEN_LIMIT) _ def b.2 in
    let d = bind_ok (within f.retries 0 RETRY_LIMIT) _ def c.2 in
    let p = bind_ok (period_in f.period) _ def d.2 in
    let o = bind_ok (within f.offset 0 HOST_OFFSET_LIMIT) _ def p.2 in
    let l = bind_ok (within f.lag 0 LAG_LIMIT) _ def o.2 in
    let g = bind_ok (guard 5 (not (has_device s a.0))) _ def l.2 in
    let ra = read_within f.device 0 7 a.0 a.1 (omega arith) in
    let rb = read_within f.latency 0 LATENCY_LIMIT b.0 b.1 (omega arith) in
    let rc = read_within f.«open» 1 OPEN_LIMIT c.0 c.1 (omega arith) in
    let rd = read_within f.retries 0 RETRY_LIMIT d.0 d.1 (omega arith) in
    let rp = read_period f.period p.0 p.1 in
    let ro = read_within f.offset 0 HOST_OFFSET_LIMIT o.0 o.1 (omega arith) in
    let rl = read_within f.lag 0 LAG_LIMIT l.0 l.1 (omega arith) in
    record {
      same = λ v. ap (said_host version) (sym (ok_is _ def g.2)) ∙ (λ i. initiator_line (record {
        device = sym ra.same i;
        latency = sym rb.same i;
        «open» = sym rc.same i;
        retries = sym rd.same i;
        period = sym rp.same i;
        offset = sym ro.same i;
        lag = sym rl.same i;
        offers = flag_again version true f.offers v fits i;
      }));
      spelled = (ra.small, rb.small, rc.small, rd.small, rp.small, ro.small, rl.small);
    }

pub target_declared : (s : ScenarioValue) (version : ℕ) (f : TargetForm) (def : TargetDef)
    → fits_flag version f.begins ≡ true → target_def s f ≡ Ok def
    → IsFlagged version (said_target version def) (target_line f)
unfolding target_def
target_declared s version f def fits e =
    let a = bind_ok (in_8 f.device) _ def e in
    let b = bind_ok (within f.latency 0 LATENCY_LIMIT) _ def a.2 in
    let d = bind_ok (within f.retries 0 RETRY_LIMIT) _ def b.2 in
    let k = bind_ok (policy_in f.disc) _ def d.2 in
    let t = bind_ok (within f.seek 0 SEEK_LIMIT) _ def k.2 in
    let p = bind_ok (period_in f.period) _ def t.2 in
    let o = bind_ok (within f.offset 0 TARGET_OFFSET_LIMIT) _ def p.2 in
    let g = bind_ok (guard 5 (not (has_device s a.0))) _ def o.2 in
    let ra = read_within f.device 0 7 a.0 a.1 (omega arith) in
    let rb = read_within f.latency 0 LATENCY_LIMIT b.0 b.1 (omega arith) in
    let rd = read_within f.retries 0 RETRY_LIMIT d.0 d.1 (omega arith) in
    let rk = read_policy f.disc k.0 k.1 in
    let rt = read_within f.seek 0 SEEK_LIMIT t.0 t.1 (omega arith) in
    let rp = read_period f.period p.0 p.1 in
    let ro = read_within f.offset 0 TARGET_OFFSET_LIMIT o.0 o.1 (omega arith) in
    record {
      same = λ v. ap (said_target version) (sym (ok_is _ def g.2)) ∙ (λ i. target_line (record {
        device = sym ra.same i;
        latency = sym rb.same i;
        retries = sym rd.same i;
        disc = sym rk.same i;
        pick = f.pick;
        seek = sym rt.same i;
        period = sym rp.same i;
        offset = sym ro.same i;
        begins = flag_again version false f.begins v fits i;
      }));
      spelled = (ra.small, rb.small, rd.small, rk.small, rt.small, rp.small, ro.small);
    }

pub unit_declared : (s : ScenarioValue) (f : UnitForm) (def : UnitDef) → unit_def s f ≡ Ok def
    → IsDeclared (said_unit def) (unit_line f)
unfolding unit_def
unit_declared s f def e =
    let a = bind_ok (in_8 f.target) _ def e in
    let b = bind_ok (in_8 f.unit) _ def a.2 in
    let c = bind_ok (within f.blocks 1 BLOCK_LIMIT) _ def b.2 in
    let d = bind_ok (size_in f.size) _ def c.2 in
    let q = bind_ok (within f.depth 1 DEPTH_LIMIT) _ def d.2 in
    let g = bind_ok (guard 5 (not (is_some (unit_of s a.0 b.0)))) _ def q.2 in
    let h = bind_ok (guard 6 (has_target s a.0)) _ def g.2 in
    let ra = read_within f.target 0 7 a.0 a.1 (omega arith) in
    let rb = read_within f.unit 0 7 b.0 b.1 (omega arith) in
    let rc = read_within f.blocks 1 BLOCK_LIMIT c.0 c.1 (omega arith) in
    let rd = read_size f.size d.0 d.1 in
    let rq = read_within f.depth 1 DEPTH_LIMIT q.0 q.1 (omega arith) in
    record {
      same = ap said_unit (sym (ok_is _ def h.2)) ∙ (λ i. unit_line (record {
        target = sym ra.same i;
        unit = sym rb.same i;
        blocks = sym rc.same i;
        size = sym rd.same i;
        depth = sym rq.same i;
      }));
      spelled = (ra.small, rb.small, rc.small, rd.small, rq.small);
    }

pub fill_declared : (s : ScenarioValue) (f : FillSaid) (def : FillDef) → IsHex f.bytes → fill_def s f ≡ Ok def
    → IsDeclared (said_fill def) (fill_line f)
unfolding fill_def
fill_declared s f def hex e =
    let a = bind_ok (in_8 f.target) _ def e in
    let b = bind_ok (in_8 f.unit) _ def a.2 in
    let c = bind_ok (within f.lba 0 (2 ^ 64 - 1)) _ def b.2 in
    let g = bind_ok (guard 5 (not (has_fill s.fills a.0 b.0 c.0))) _ def c.2 in
    let u = bind_ok (found (unit_of s a.0 b.0)) _ def g.2 in
    let h = bind_ok (guard 7 (is_block_of u.0 c.0 f.bytes)) _ def u.2 in
    let ra = read_within f.target 0 7 a.0 a.1 (omega arith) in
    let rb = read_within f.unit 0 7 b.0 b.1 (omega arith) in
    let rc = read_within f.lba 0 (2 ^ 64 - 1) c.0 c.1 (omega arith) in
    record {
      same = ap said_fill (sym (ok_is _ def h.2)) ∙ (λ i. fill_line
          (record { target = sym ra.same i; unit = sym rb.same i; lba = sym rc.same i; bytes = f.bytes }));
      spelled = (ra.small, rb.small, rc.small, hex.0, hex.1);
    }

pub tape_declared : (s : ScenarioValue) (f : TapeForm) (def : TapeDef) → tape_def s f ≡ Ok def
    → IsDeclared (said_tape def) (tape_line f)
unfolding tape_def
tape_declared s f def e =
    let a = bind_ok (in_8 f.target) _ def e in
    let b = bind_ok (in_8 f.unit) _ def a.2 in
    let c = bind_ok (within f.objects 1 OBJECT_LIMIT) _ def b.2 in
    let d = bind_ok (size_in f.size) _ def c.2 in
    let q = bind_ok (within f.depth 1 DEPTH_LIMIT) _ def d.2 in
    let g = bind_ok (guard 5 (not (is_some (unit_of s a.0 b.0)))) _ def q.2 in
    let h = bind_ok (guard 6 (has_target s a.0)) _ def g.2 in
    let ra = read_within f.target 0 7 a.0 a.1 (omega arith) in
    let rb = read_within f.unit 0 7 b.0 b.1 (omega arith) in
    let rc = read_within f.objects 1 OBJECT_LIMIT c.0 c.1 (omega arith) in
    let rd = read_size f.size d.0 d.1 in
    let rq = read_within f.depth 1 DEPTH_LIMIT q.0 q.1 (omega arith) in
    record {
      same = ap said_tape (sym (ok_is _ def h.2)) ∙ (λ i. tape_line (record {
        target = sym ra.same i;
        unit = sym rb.same i;
        objects = sym rc.same i;
        size = sym rd.same i;
        depth = sym rq.same i;
      }));
      spelled = (ra.small, rb.small, rc.small, rd.small, rq.small);
    }

object_again : (o : ObjectSaid) → said_object (load_of o) ≡ o
object_again (block_object bytes) = refl
object_again mark_object = refl

pub load_declared : (s : ScenarioValue) (f : LoadSaid) (def : LoadDef) → IsSpelledObject f.what → load_def s f ≡ Ok def
    → IsDeclared (said_load def) (load_line f)
unfolding load_def
load_declared s f def what e =
    let a = bind_ok (in_8 f.target) _ def e in
    let b = bind_ok (in_8 f.unit) _ def a.2 in
    let u = bind_ok (found (tape_of s a.0 b.0)) _ def b.2 in
    let h = bind_ok (guard 7 (fits_tape u.0 (loads_at s.loads a.0 b.0) (load_of f.what))) _ def u.2 in
    let ra = read_within f.target 0 7 a.0 a.1 (omega arith) in
    let rb = read_within f.unit 0 7 b.0 b.1 (omega arith) in
    let ro = object_again f.what in
    record {
      same = ap said_load (sym (ok_is _ def h.2))
          ∙ (λ i. load_line (record { target = sym ra.same i; unit = sym rb.same i; what = ro i }));
      spelled = (ra.small, rb.small, what);
    }

payload_again : (p : PayloadSaid) → said_payload (payload_of p) ≡ p
payload_again no_bytes = refl
payload_again (these_bytes bytes) = refl
payload_again (bytes_from b) = refl

cmd_declared : (s : ScenarioValue) (c : CmdSaid) (def : CmdDef) → IsHex c.cdb → IsSpelledPayload c.payload
    → cmd_def s c ≡ Ok def → IsDeclared (said_cmd def) (cmd_line c)
unfolding cmd_def
cmd_declared s f def hex payload e =
    let a = bind_ok (in_8 f.host) _ def e in
    let b = bind_ok (in_8 f.target) _ def a.2 in
    let c = bind_ok (in_8 f.unit) _ def b.2 in
    let d = bind_ok (time_in f.at) _ def c.2 in
    let t = bind_ok (tag_in f.tag) _ def d.2 in
    let g = bind_ok (guard 4 (is_block f.cdb)) _ def t.2 in
    let h = bind_ok (guard 6 (are_ends s a.0 b.0)) _ def g.2 in
    let ra = read_within f.host 0 7 a.0 a.1 (omega arith) in
    let rb = read_within f.target 0 7 b.0 b.1 (omega arith) in
    let rc = read_within f.unit 0 7 c.0 c.1 (omega arith) in
    let rd = read_within f.at 0 TIME_LIMIT d.0 d.1 (omega arith) in
    let rt = read_tag f.tag t.0 t.1 in
    let rp = payload_again f.payload in
    record {
      same = ap said_cmd (sym (ok_is _ def h.2)) ∙ (λ i. cmd_line (record {
        host = sym ra.same i;
        target = sym rb.same i;
        unit = sym rc.same i;
        at = sym rd.same i;
        tag = sym rt.same i;
        cdb = f.cdb;
        payload = rp i;
      }));
      spelled = (ra.small, rb.small, rc.small, rd.small, rt.small, hex.0, hex.1, payload);
    }

pub full_cmd_declared : (s : ScenarioValue) (needs : ℕ) (c : CmdSaid) (def : CmdDef) → IsHex c.cdb
    → IsSpelledPayload c.payload → full_cmd_def s needs c ≡ Ok def → IsDeclared (said_cmd def) (cmd_line c)
unfolding full_cmd_def
full_cmd_declared s needs c def hex payload e =
    let a = bind_ok (cmd_def s c) _ def e in
    let g = bind_ok (guard 7 (is_payload (sent_of s a.0) (a.0).payload)) _ def a.2 in
    let h = bind_ok (guard 8 (has_room s needs (need_of s a.0))) _ def g.2 in
    subst (λ (x : CmdDef). IsDeclared (said_cmd x) (cmd_line c)) (ok_is _ def h.2)
    (cmd_declared s c a.0 hex payload a.1)

pub abort_declared : (s : ScenarioValue) (f : AbortForm) (def : AbortDef) → abort_def s f ≡ Ok def
    → IsDeclared (said_abort def) (abort_line f)
unfolding abort_def
abort_declared s f def e =
    let a = bind_ok (in_8 f.host) _ def e in
    let b = bind_ok (in_8 f.target) _ def a.2 in
    let c = bind_ok (in_8 f.unit) _ def b.2 in
    let d = bind_ok (time_in f.at) _ def c.2 in
    let w = bind_ok (what_in f.what) _ def d.2 in
    let g = bind_ok (guard 6 (are_ends s a.0 b.0)) _ def w.2 in
    let h = bind_ok (guard 8 (has_abort_room s)) _ def g.2 in
    let ra = read_within f.host 0 7 a.0 a.1 (omega arith) in
    let rb = read_within f.target 0 7 b.0 b.1 (omega arith) in
    let rc = read_within f.unit 0 7 c.0 c.1 (omega arith) in
    let rd = read_within f.at 0 TIME_LIMIT d.0 d.1 (omega arith) in
    let rw2 = read_what f.what w.0 w.1 in
    record {
      same = ap said_abort (sym (ok_is _ def h.2)) ∙ (λ i. abort_line (record {
        host = sym ra.same i;
        target = sym rb.same i;
        unit = sym rc.same i;
        at = sym rd.same i;
        what = sym rw2.same i;
      }));
      spelled = (ra.small, rb.small, rc.small, rd.small, rw2.small);
    }

pub reset_declared : (s : ScenarioValue) (f : ResetForm) (def : ResetDef) → reset_def s f ≡ Ok def
    → IsDeclared (said_reset def) (reset_line f)
unfolding reset_def
reset_declared s f def e =
    let a = bind_ok (in_8 f.device) _ def e in
    let d = bind_ok (time_in f.at) _ def a.2 in
    let g = bind_ok (guard 6 (has_device s a.0)) _ def d.2 in
    let h = bind_ok (guard 8 (has_abort_room s)) _ def g.2 in
    let ra = read_within f.device 0 7 a.0 a.1 (omega arith) in
    let rd = read_within f.at 0 TIME_LIMIT d.0 d.1 (omega arith) in
    record {
      same = ap said_reset (sym (ok_is _ def h.2))
          ∙ (λ i. reset_line (record { device = sym ra.same i; at = sym rd.same i }));
      spelled = (ra.small, rd.small);
    }

pub fault_declared : (s : ScenarioValue) (f : FaultForm) (def : FaultDef) → fault_def s f ≡ Ok def
    → IsDeclared (said_fault def) (fault_line f)
unfolding fault_def
fault_declared s f def e =
    let a = bind_ok (time_in f.at) _ def e in
    let b = bind_ok (within f.bit 0 8) _ def a.2 in
    let h = bind_ok (guard 8 (nat_lt (length s.faults) FAULT_LIMIT)) _ def b.2 in
    let ra = read_within f.at 0 TIME_LIMIT a.0 a.1 (omega arith) in
    let rb = read_within f.bit 0 8 b.0 b.1 (omega arith) in
    record {
      same = ap said_fault (sym (ok_is _ def h.2))
          ∙ (λ i. fault_line (record { at = sym ra.same i; bit = sym rb.same i }));
      spelled = (ra.small, rb.small);
    }
