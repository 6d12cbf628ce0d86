-- What is written is read again: lines.
use Rattle.std.proofs.Common.{◌≡◌, ℕ, ◌<◌, ◌⊎◌, inl, inr, Bool, true, false, List, ◌++◌, length, Option, Some, None}
use Rattle.std.proofs.Common.{refl, sym, ap, subst, arith}
use Rattle.std.specs.Prelude.{codes, ◌==◌, ◌||◌}
use Rattle.text_words.specs.Words.{after}
use Rattle.text_words.specs.Spelling.{hex_text, AreBytes}
use Rattle.text_words.proofs.Again.{after_same, hex_again, bytes_again}
use Rattle.scenario.specs.declared.form.HostForm.{HostForm}
use Rattle.scenario.specs.declared.form.TargetForm.{TargetForm}
use Rattle.scenario.specs.declared.form.UnitForm.{UnitForm}
use Rattle.scenario.specs.declared.form.TapeForm.{TapeForm}
use Rattle.scenario.specs.declared.form.AbortForm.{AbortForm}
use Rattle.scenario.specs.declared.form.ResetForm.{ResetForm}
use Rattle.scenario.specs.declared.form.FaultForm.{FaultForm}
use Rattle.scenario.specs.Parts.{or, numbered_at, exactly_at}
use Rattle.scenario.specs.Forms.{Said, FillSaid, LoadSaid, CmdSaid, scsi_line, initiator_line, target_line, unit_line}
use Rattle.scenario.specs.Forms.{fill_line, tape_line, load_line, tape_at, load_at, cmd_line, abort_line, reset_line}
use Rattle.scenario.specs.Forms.{fault_line, end_line, scsi_at, initiator_at}
use Rattle.scenario.specs.Forms.{target_at, unit_at, fill_at, cmd_at, abort_at, reset_at, fault_at, end_at, form_of}
use Rattle.scenario.specs.Writing.{numbered, flag_text, policy_text, pick_text, tag_text, object_text, payload_text}
use Rattle.scenario.specs.Writing.{what_text, tape_text, load_text}
use Rattle.scenario.specs.Writing.{host_sync_text, initiator_text, target_seek_text, target_disc_text, target_text}
use Rattle.scenario.specs.Writing.{unit_text, fill_text, cmd_tag_text, cmd_text, abort_text, reset_text, fault_text}
use Rattle.scenario.specs.Writing.{said_text}
use Rattle.scenario.proofs.PartsAgain.{IsSmall, IsSmallPolicy, IsSmallTag, IsSpelledPayload, IsSmallWhat}
use Rattle.scenario.proofs.PartsAgain.{numbered_again, numbered_last, offers_again, begins_again, offers_ends}
use Rattle.scenario.proofs.PartsAgain.{begins_ends, policy_again, pick_again, tag_again, hex_last, payload_again}
use Rattle.scenario.proofs.PartsAgain.{what_again, IsSpelledObject, object_again}

-- Its version is 1, 2 or 3.
abbrev pub IsVersion : ℕ → Type 0
IsVersion v = (v == 1 || (v == 2 || v == 3)) ≡ true

-- What has a spelling.
abbrev pub IsSpelled : Said → Type 0
IsSpelled (scsi_line v) = IsVersion v
IsSpelled (initiator_line f) = IsSmall f.device × IsSmall f.latency × IsSmall f.«open» × IsSmall f.retries
    × IsSmall f.period × IsSmall f.offset × IsSmall f.lag
IsSpelled (target_line f) = IsSmall f.device × IsSmall f.latency × IsSmall f.retries × IsSmallPolicy f.disc
    × IsSmall f.seek × IsSmall f.period × IsSmall f.offset
IsSpelled (unit_line f) = IsSmall f.target × IsSmall f.unit × IsSmall f.blocks × IsSmall f.size × IsSmall f.depth
IsSpelled (fill_line f) = IsSmall f.target × IsSmall f.unit × IsSmall f.lba × AreBytes f.bytes × (0 < length f.bytes)
IsSpelled (tape_line f) = IsSmall f.target × IsSmall f.unit × IsSmall f.objects × IsSmall f.size × IsSmall f.depth
IsSpelled (load_line f) = IsSmall f.target × IsSmall f.unit × IsSpelledObject f.what
IsSpelled (cmd_line c) = IsSmall c.host × IsSmall c.target × IsSmall c.unit × IsSmall c.at × IsSmallTag c.tag
    × AreBytes c.cdb × (0 < length c.cdb) × IsSpelledPayload c.payload
IsSpelled (abort_line f) = IsSmall f.host × IsSmall f.target × IsSmall f.unit × IsSmall f.at × IsSmallWhat f.what
IsSpelled (reset_line f) = IsSmall f.device × IsSmall f.at
IsSpelled (fault_line f) = IsSmall f.at × IsSmall f.bit
IsSpelled end_line = Unit {0}

initiator_again : (f : HostForm) → IsSpelled (initiator_line f)
    → initiator_at (initiator_text f) ≡ Some (initiator_line f)
unfolding initiator_at initiator_text host_sync_text
initiator_again f h =
    let r7 : List ℕ = flag_text (codes " offers ") f.offers in
    let r6 : List ℕ = numbered (codes " lag ") f.lag ++ r7 in
    let r5 : List ℕ = numbered (codes " ") f.offset ++ r6 in
    let r4 : List ℕ = numbered (codes " sync ") f.period ++ r5 in
    let r3 : List ℕ = numbered (codes " retries ") f.retries ++ r4 in
    let r2 : List ℕ = numbered (codes " open ") f.«open» ++ r3 in
    let r1 : List ℕ = numbered (codes " latency ") f.latency ++ r2 in
    rw (
      numbered_again (codes "initiator ") f.device r1 h.0 refl,
      numbered_again (codes " latency ") f.latency r2 h.1 refl,
      numbered_again (codes " open ") f.«open» r3 h.2 refl,
      numbered_again (codes " retries ") f.retries r4 h.3 refl,
      numbered_again (codes " sync ") f.period r5 h.4 refl,
      numbered_again (codes " ") f.offset r6 h.5 refl,
      numbered_again (codes " lag ") f.lag r7 h.6 (offers_ends f.offers),
      offers_again f.offers,
    ) refl

target_again : (f : TargetForm) → IsSpelled (target_line f) → target_at (target_text f) ≡ Some (target_line f)
unfolding target_at target_text target_disc_text target_seek_text
target_again f h =
    let r9 : List ℕ = flag_text (codes " begins ") f.begins in
    let r8 : List ℕ = numbered (codes " ") f.offset ++ r9 in
    let r7 : List ℕ = numbered (codes " sync ") f.period ++ r8 in
    let r6 : List ℕ = numbered (codes " seek ") f.seek ++ r7 in
    let r5 : List ℕ = pick_text f.pick ++ r6 in
    let r4 : List ℕ = policy_text f.disc ++ (codes " pick " ++ r5) in
    let r3 : List ℕ = codes " disc " ++ r4 in
    let r2 : List ℕ = numbered (codes " retries ") f.retries ++ r3 in
    let r1 : List ℕ = numbered (codes " latency ") f.latency ++ r2 in
    rw (
      numbered_again (codes "target ") f.device r1 h.0 refl,
      numbered_again (codes " latency ") f.latency r2 h.1 refl,
      numbered_again (codes " retries ") f.retries r3 h.2 refl,
      after_same (codes " disc ") r4,
      policy_again f.disc (codes " pick " ++ r5) h.3 refl,
      after_same (codes " pick ") r5,
      pick_again f.pick r6,
      numbered_again (codes " seek ") f.seek r7 h.4 refl,
      numbered_again (codes " sync ") f.period r8 h.5 refl,
      numbered_again (codes " ") f.offset r9 h.6 (begins_ends f.begins),
      begins_again f.begins,
    ) refl

unit_again : (f : UnitForm) → IsSpelled (unit_line f) → unit_at (unit_text f) ≡ Some (unit_line f)
unfolding unit_at unit_text
unit_again f h =
    let r4 : List ℕ = numbered (codes " depth ") f.depth in
    let r3 : List ℕ = numbered (codes " size ") f.size ++ r4 in
    let r2 : List ℕ = numbered (codes " blocks ") f.blocks ++ r3 in
    let r1 : List ℕ = numbered (codes " ") f.unit ++ r2 in
    rw (
      numbered_again (codes "unit ") f.target r1 h.0 refl,
      numbered_again (codes " ") f.unit r2 h.1 refl,
      numbered_again (codes " blocks ") f.blocks r3 h.2 refl,
      numbered_again (codes " size ") f.size r4 h.3 refl,
      numbered_last (codes " depth ") f.depth h.4,
    ) refl

fill_again : (f : FillSaid) → IsSpelled (fill_line f) → fill_at (fill_text f) ≡ Some (fill_line f)
unfolding fill_at fill_text
fill_again f h =
    let r3 : List ℕ = codes " " ++ hex_text f.bytes in
    let r2 : List ℕ = numbered (codes " ") f.lba ++ r3 in
    let r1 : List ℕ = numbered (codes " ") f.unit ++ r2 in
    rw (
      numbered_again (codes "fill ") f.target r1 h.0 refl,
      numbered_again (codes " ") f.unit r2 h.1 refl,
      numbered_again (codes " ") f.lba r3 h.2 refl,
      after_same (codes " ") (hex_text f.bytes),
      hex_last f.bytes h.3 h.4,
      bytes_again f.bytes h.3,
    ) refl

tape_again : (f : TapeForm) → IsSpelled (tape_line f) → tape_at (tape_text f) ≡ Some (tape_line f)
unfolding tape_at tape_text
tape_again f h =
    let r4 : List ℕ = numbered (codes " depth ") f.depth in
    let r3 : List ℕ = numbered (codes " size ") f.size ++ r4 in
    let r2 : List ℕ = numbered (codes " objects ") f.objects ++ r3 in
    let r1 : List ℕ = numbered (codes " ") f.unit ++ r2 in
    rw (
      numbered_again (codes "tape ") f.target r1 h.0 refl,
      numbered_again (codes " ") f.unit r2 h.1 refl,
      numbered_again (codes " objects ") f.objects r3 h.2 refl,
      numbered_again (codes " size ") f.size r4 h.3 refl,
      numbered_last (codes " depth ") f.depth h.4,
    ) refl

load_again : (f : LoadSaid) → IsSpelled (load_line f) → load_at (load_text f) ≡ Some (load_line f)
unfolding load_at load_text
load_again f h =
    let r3 : List ℕ = object_text f.what in
    let r2 : List ℕ = codes " " ++ r3 in
    let r1 : List ℕ = numbered (codes " ") f.unit ++ r2 in
    rw (
      numbered_again (codes "load ") f.target r1 h.0 refl,
      numbered_again (codes " ") f.unit r2 h.1 refl,
      after_same (codes " ") r3,
      object_again f.what h.2,
    ) refl

cmd_again : (c : CmdSaid) → IsSpelled (cmd_line c) → cmd_at (cmd_text c) ≡ Some (cmd_line c)
unfolding cmd_at cmd_text cmd_tag_text
cmd_again c h =
    let r8 : List ℕ = payload_text c.payload in
    let r7 : List ℕ = hex_text c.cdb ++ (codes " " ++ r8) in
    let r5 : List ℕ = tag_text c.tag ++ (codes " cdb " ++ r7) in
    let r4 : List ℕ = codes " " ++ r5 in
    let r3 : List ℕ = numbered (codes " at ") c.at ++ r4 in
    let r2 : List ℕ = numbered (codes " ") c.unit ++ r3 in
    let r1 : List ℕ = numbered (codes " ") c.target ++ r2 in
    rw (
      numbered_again (codes "cmd ") c.host r1 h.0 refl,
      numbered_again (codes " ") c.target r2 h.1 refl,
      numbered_again (codes " ") c.unit r3 h.2 refl,
      numbered_again (codes " at ") c.at r4 h.3 refl,
      after_same (codes " ") r5,
      tag_again c.tag (codes " cdb " ++ r7) h.4 refl,
      after_same (codes " cdb ") r7,
      hex_again c.cdb (codes " " ++ r8) h.5 h.6 refl,
      after_same (codes " ") r8,
      payload_again c.payload h.7,
      bytes_again c.cdb h.5,
    ) refl

abort_again : (f : AbortForm) → IsSpelled (abort_line f) → abort_at (abort_text f) ≡ Some (abort_line f)
unfolding abort_at abort_text
abort_again f h =
    let r5 : List ℕ = what_text f.what in
    let r4 : List ℕ = codes " " ++ r5 in
    let r3 : List ℕ = numbered (codes " at ") f.at ++ r4 in
    let r2 : List ℕ = numbered (codes " ") f.unit ++ r3 in
    let r1 : List ℕ = numbered (codes " ") f.target ++ r2 in
    rw (
      numbered_again (codes "abort ") f.host r1 h.0 refl,
      numbered_again (codes " ") f.target r2 h.1 refl,
      numbered_again (codes " ") f.unit r3 h.2 refl,
      numbered_again (codes " at ") f.at r4 h.3 refl,
      after_same (codes " ") r5,
      what_again f.what h.4,
    ) refl

reset_again : (f : ResetForm) → IsSpelled (reset_line f) → reset_at (reset_text f) ≡ Some (reset_line f)
unfolding reset_at reset_text
reset_again f h =
    let r1 : List ℕ = numbered (codes " at ") f.at in
    rw (numbered_again (codes "reset ") f.device r1 h.0 refl, numbered_last (codes " at ") f.at h.1) refl

fault_again : (f : FaultForm) → IsSpelled (fault_line f) → fault_at (fault_text f) ≡ Some (fault_line f)
unfolding fault_at fault_text
fault_again f h =
    let r1 : List ℕ = numbered (codes " bit ") f.bit in
    rw (numbered_again (codes "fault at ") f.at r1 h.0 refl, numbered_last (codes " bit ") f.bit h.1) refl

scsi_1 : form_of (codes "scsi 1") ≡ Some (scsi_line 1)
unfolding scsi_at exactly_at after
scsi_1 = refl

scsi_2 : form_of (codes "scsi 2") ≡ Some (scsi_line 2)
unfolding scsi_at exactly_at after
scsi_2 = refl

scsi_3 : form_of (codes "scsi 3") ≡ Some (scsi_line 3)
unfolding scsi_at exactly_at after
scsi_3 = refl

is_version : (v : ℕ) → IsVersion v → (v ≡ 1) ⊎ ((v ≡ 2) ⊎ (v ≡ 3))
is_version v h = go (v == 1) refl (v == 2) refl (v == 3) refl h where
  go : (p : Bool) → (v == 1) ≡ p → (q : Bool) → (v == 2) ≡ q → (r : Bool) → (v == 3) ≡ r → (p || (q || r)) ≡ true
      → (v ≡ 1) ⊎ ((v ≡ 2) ⊎ (v ≡ 3))
  go true e q f r g h = inl (grind (arith, e))
  go false e true f r g h = inr (inl (grind (arith, f)))
  go false e false f true g h = inr (inr (grind (arith, g)))
  go false e false f false g h = absurd cc

scsi_again : (v : ℕ) → IsVersion v → form_of (said_text (scsi_line v)) ≡ Some (scsi_line v)
scsi_again v h = elim (is_version v h) [
  | inl e ↦ subst (λ (w : ℕ). form_of (said_text (scsi_line w)) ≡ Some (scsi_line w)) (sym e) scsi_1
  | inr f ↦ elim f [
    | inl e ↦ subst (λ (w : ℕ). form_of (said_text (scsi_line w)) ≡ Some (scsi_line w)) (sym e) scsi_2
    | inr e ↦ subst (λ (w : ℕ). form_of (said_text (scsi_line w)) ≡ Some (scsi_line w)) (sym e) scsi_3
  ]
]

-- What has a spelling is read from it.
pub form_again : (x : Said) → IsSpelled x → form_of (said_text x) ≡ Some x
unfolding after numbered_at exactly_at scsi_at initiator_at target_at unit_at fill_at tape_at load_at cmd_at abort_at
    reset_at fault_at end_at initiator_text host_sync_text target_text target_disc_text target_seek_text unit_text
    fill_text tape_text load_text cmd_text cmd_tag_text abort_text reset_text fault_text
form_again (scsi_line v) h = scsi_again v h
form_again (initiator_line f) h = ap (λ (o : Option Said). or (or o None) None) (initiator_again f h)
form_again (target_line f) h = ap (λ (o : Option Said). or (or o None) None) (target_again f h)
form_again (unit_line f) h = ap (λ (o : Option Said). or (or o None) None) (unit_again f h)
form_again (fill_line f) h = ap (λ (o : Option Said). or (or o None) None) (fill_again f h)
form_again (tape_line f) h = ap (λ (o : Option Said). or (or o None) None) (tape_again f h)
form_again (load_line f) h = ap (λ (o : Option Said). or o None) (load_again f h)
form_again (cmd_line f) h = ap (λ (o : Option Said). or o None) (cmd_again f h)
form_again (abort_line f) h = ap (λ (o : Option Said). or o None) (abort_again f h)
form_again (reset_line f) h = ap (λ (o : Option Said). or o None) (reset_again f h)
form_again (fault_line f) h = ap (λ (o : Option Said). or o None) (fault_again f h)
form_again end_line h = refl
