-- The steps of reading refuse a line for its lowest reason.
use Rattle.std.proofs.Common.{◌≡◌, ℕ, ◌-◌, ◌^◌, Bool, true, false, cond, not, ◌&&◌, length, Option, Some, None, Result}
use Rattle.std.proofs.Common.{Ok, Err, refl, ap, ◌∙◌}
use Rattle.std.specs.Prelude.{nat_lt, nat_le, ◌==◌, ◌||◌, is_some, is_none}
use Rattle.std.specs.List.{list_all}
use Rattle.bus_base.specs.declared.events.AbortKind.{AbortKind}
use Rattle.bus_base.specs.declared.events.AbortKind.TheVariants as kills
use Rattle.text_words.specs.Words.{Number}
use Rattle.text_words.specs.Lines.{Line}
use Rattle.scenario.specs.declared.bounds.TheConstants.{TIME_LIMIT, LATENCY_LIMIT, OPEN_LIMIT, RETRY_LIMIT}
use Rattle.scenario.specs.declared.bounds.TheConstants.{LEAST_FACTOR, FACTOR_LIMIT, HOST_OFFSET_LIMIT}
use Rattle.scenario.specs.declared.bounds.TheConstants.{TARGET_OFFSET_LIMIT, TAG_LIMIT, LAG_LIMIT, SEEK_LIMIT}
use Rattle.scenario.specs.declared.bounds.TheConstants.{BURST_LIMIT, BLOCK_LIMIT, LEAST_SIZE, SIZE_LIMIT, DEPTH_LIMIT}
use Rattle.scenario.specs.declared.bounds.TheConstants.{FAULT_LIMIT, OBJECT_LIMIT}
use Rattle.scenario.specs.declared.value.Policy.{Policy}
use Rattle.scenario.specs.declared.value.Policy.TheVariants as policies
use Rattle.scenario.specs.declared.form.PolicyForm.{PolicyForm}
use Rattle.scenario.specs.declared.form.PolicyForm.TheVariants as policy_forms
use Rattle.scenario.specs.declared.form.TagForm.{TagForm}
use Rattle.scenario.specs.declared.form.TagForm.TheVariants as tag_forms
use Rattle.scenario.specs.declared.form.WhatForm.{WhatForm}
use Rattle.scenario.specs.declared.form.WhatForm.TheVariants as whats
use Rattle.scenario.specs.declared.value.CmdDef.{CmdDef}
use Rattle.scenario.specs.declared.value.Tag.TheVariants as tags
use Rattle.scenario.specs.Value.{ScenarioValue}
use Rattle.scenario.specs.Lookups.{has_target, has_device, unit_of, tape_of, has_fill, loads_at}
use Rattle.scenario.specs.Needs.{need_of, sent_of}
use Rattle.scenario.specs.Forms.{Said, CmdSaid, scsi_line, initiator_line, target_line, unit_line, fill_line}
use Rattle.scenario.specs.Forms.{tape_line, load_line, cmd_line, abort_line, reset_line, fault_line, end_line, form_of}
use Rattle.scenario.specs.Reading.{Progress, ◌>>=◌, guard, within, period_in, is_size, size_in, policy_in, tag_in}
use Rattle.scenario.specs.Reading.{what_in, is_block, found, is_block_of, are_ends, payload_of, is_payload, has_room}
use Rattle.scenario.specs.Reading.{has_abort_room, host_def, target_def, unit_def, fill_def, cmd_def, full_cmd_def}
use Rattle.scenario.specs.Reading.{tape_def, load_of, fits_tape, load_def}
use Rattle.scenario.specs.Reading.{abort_def, reset_def, fault_def, added, said_after, line_after, formed, fits_version}
use Rattle.scenario.specs.Reading.{in_order, rank, kind_of, is_printable, is_skipped}
use Rattle.scenario.specs.Reasons.{is_in, value, is_period, is_block_size, is_policy, is_tag, is_what, tag_value}
use Rattle.scenario.specs.Reasons.{cmd_value, keeps_limits, fits_on, is_block_in, reason_added, reason_said}
use Rattle.scenario.specs.Reasons.{reason_formed}
use Rattle.scenario.specs.Reasons.{reason_of, refused}

-- ---- Bool

merge : (a b : Bool) (x : Option ℕ) → cond a (cond (not b) (Some 4) x) (Some 4) ≡ cond (not (a && b)) (Some 4) x
merge true true x = refl
merge true false x = refl
merge false b x = refl

turn : (a : Bool) (r : ℕ) (x : Option ℕ) → cond a x (Some r) ≡ cond (not a) (Some r) x
turn true r x = refl
turn false r x = refl

unturn : (a : Bool) (r : ℕ) (x : Option ℕ) → cond (not a) x (Some r) ≡ cond a (Some r) x
unturn true r x = refl
unturn false r x = refl

-- ---- a step with a limit

refused_step : {A B : Type 0} (r : Result A ℕ) (t : Bool) (y : A) (f : A → Result B ℕ) → r ≡ cond t (Ok y) (Err 4)
    → refused (r >>= f) ≡ cond t (refused (f y)) (Some 4)
refused_step r t y f e = ap (λ (s : Result _ ℕ). refused (s >>= f)) e ∙ go t where
  go : (t : Bool) → refused (cond t (Ok y) (Err 4) >>= f) ≡ cond t (refused (f y)) (Some 4)
  go true = refl
  go false = refl

step : {A B : Type 0} (r : Result A ℕ) (t : Bool) (y : A) (f : A → Result B ℕ) (q : Bool) (x : Option ℕ)
    → r ≡ cond t (Ok y) (Err 4) → refused (f y) ≡ cond (not q) (Some 4) x
    → refused (r >>= f) ≡ cond (not (t && q)) (Some 4) x
step r t y f q x e h = refused_step r t y f e ∙ (ap (λ (o : Option ℕ). cond t o (Some 4)) h ∙ merge t q x)

last : {A B : Type 0} (r : Result A ℕ) (t : Bool) (y : A) (f : A → Result B ℕ) (x : Option ℕ)
    → r ≡ cond t (Ok y) (Err 4) → refused (f y) ≡ x → refused (r >>= f) ≡ cond (not t) (Some 4) x
last r t y f x e h = refused_step r t y f e ∙ (ap (λ (o : Option ℕ). cond t o (Some 4)) h ∙ turn t 4 x)

-- The same inside a longer step.
assoc : {A B C : Type 0} (r : Result A ℕ) (g : A → Result B ℕ) (f : B → Result C ℕ)
    → ((r >>= g) >>= f) ≡ (r >>= λ a. g a >>= f)
assoc (Ok a) g f = refl
assoc (Err e) g f = refl

step2 : {A B C : Type 0} (r : Result A ℕ) (t : Bool) (y : A) (g : A → Result B ℕ) (f : B → Result C ℕ)
    (q : Bool) (x : Option ℕ) → r ≡ cond t (Ok y) (Err 4) → refused (g y >>= f) ≡ cond (not q) (Some 4) x
    → refused ((r >>= g) >>= f) ≡ cond (not (t && q)) (Some 4) x
step2 r t y g f q x e h = ap (λ (s : Result _ ℕ). refused s) (assoc r g f) ∙ step r t y (λ a. g a >>= f) q x e h

last2 : {A B C : Type 0} (r : Result A ℕ) (t : Bool) (y : A) (g : A → Result B ℕ) (f : B → Result C ℕ) (x : Option ℕ)
    → r ≡ cond t (Ok y) (Err 4) → refused (g y >>= f) ≡ x → refused ((r >>= g) >>= f) ≡ cond (not t) (Some 4) x
last2 r t y g f x e h = ap (λ (s : Result _ ℕ). refused s) (assoc r g f) ∙ last r t y (λ a. g a >>= f) x e h

guard2 : {B C : Type 0} (r : ℕ) (t : Bool) (g : Unit {0} → Result B ℕ) (f : B → Result C ℕ) (x : Option ℕ)
    → refused (g tt >>= f) ≡ x → refused ((guard r t >>= g) >>= f) ≡ cond (not t) (Some r) x
guard2 r true g f x h = h
guard2 r false g f x h = refl

refused_guard : {A : Type 0} (r : ℕ) (t : Bool) (f : Unit {0} → Result A ℕ) (x : Option ℕ) → refused (f tt) ≡ x
    → refused (guard r t >>= f) ≡ cond (not t) (Some r) x
refused_guard r true f x h = h
refused_guard r false f x h = refl

refused_not : {A : Type 0} (r : ℕ) (t : Bool) (f : Unit {0} → Result A ℕ) (x : Option ℕ) → refused (f tt) ≡ x
    → refused (guard r (not t) >>= f) ≡ cond t (Some r) x
refused_not r true f x h = refl
refused_not r false f x h = h

refused_then : {A B : Type 0} (r : Result A ℕ) (f : A → B) (x : Option ℕ) → refused r ≡ x
    → refused (r >>= λ y. Ok (f y)) ≡ x
refused_then (Ok y) f x h = h
refused_then (Err r) f x h = h

refused_found : {A B : Type 0} (o : Option A) (f : A → Result B ℕ) (t : Option A → Bool)
    → ((u : A) → refused (f u) ≡ cond (not (t (Some u))) (Some 7) None)
    → refused (found o >>= f) ≡ cond (is_none o) (Some 6) (cond (not (t o)) (Some 7) None)
refused_found None f t h = refl
refused_found (Some u) f t h = h u

-- ---- each limit

within_is : (u : Number) (least most : ℕ) → within u least most ≡ cond (is_in u least most) (Ok (value u)) (Err 4)
within_is None least most = refl
within_is (Some n) least most = refl

checked_is : (r : Result ℕ ℕ) (a : Bool) (n : ℕ) (p : ℕ → Bool) → r ≡ cond a (Ok n) (Err 4)
    → (r >>= λ m. guard 4 (p m) >>= λ _. Ok m) ≡ cond (a && p n) (Ok n) (Err 4)
checked_is r a n p e = ap (λ (s : Result ℕ ℕ). s >>= λ m. guard 4 (p m) >>= λ _. Ok m) e ∙ go a where
  then : (b : Bool) → (guard 4 b >>= λ _. Ok n) ≡ cond b (Ok n) (Err 4)
  then true = refl
  then false = refl

  go : (a : Bool) → (cond a (Ok n) (Err 4) >>= λ m. guard 4 (p m) >>= λ _. Ok m) ≡ cond (a && p n) (Ok n) (Err 4)
  go true = then (p n)
  go false = refl

mapped_is : {A B : Type 0} (r : Result A ℕ) (t : Bool) (y : A) (g : A → B) → r ≡ cond t (Ok y) (Err 4)
    → (r >>= λ n. Ok (g n)) ≡ cond t (Ok (g y)) (Err 4)
mapped_is r t y g e = ap (λ (s : Result _ ℕ). s >>= λ n. Ok (g n)) e ∙ go t where
  go : (t : Bool) → (cond t (Ok y) (Err 4) >>= λ n. Ok (g n)) ≡ cond t (Ok (g y)) (Err 4)
  go true = refl
  go false = refl

period_is : (u : Number) → period_in u ≡ cond (is_period u) (Ok (value u)) (Err 4)
unfolding period_in
period_is u = checked_is (within u 0 FACTOR_LIMIT) (is_in u 0 FACTOR_LIMIT) (value u)
    (λ n. n == 0 || nat_le LEAST_FACTOR n) (within_is u 0 FACTOR_LIMIT)

size_is : (u : Number) → size_in u ≡ cond (is_block_size u) (Ok (value u)) (Err 4)
unfolding size_in
size_is u = checked_is (within u LEAST_SIZE SIZE_LIMIT) (is_in u LEAST_SIZE SIZE_LIMIT) (value u) is_size
    (within_is u LEAST_SIZE SIZE_LIMIT)

policy_value : PolicyForm → Policy
policy_value policy_forms.Never = policies.Never
policy_value policy_forms.Command = policies.Command
policy_value (policy_forms.Burst k) = policies.Burst (value k)
policy_value (policy_forms.NoSave k) = policies.NoSave (value k)

policy_is : (p : PolicyForm) → policy_in p ≡ cond (is_policy p) (Ok (policy_value p)) (Err 4)
unfolding policy_in policy_value
policy_is policy_forms.Never = refl
policy_is policy_forms.Command = refl
policy_is (policy_forms.Burst k) =
    mapped_is (within k 1 BURST_LIMIT) (is_in k 1 BURST_LIMIT) (value k) policies.Burst (within_is k 1 BURST_LIMIT)
policy_is (policy_forms.NoSave k) =
    mapped_is (within k 1 BURST_LIMIT) (is_in k 1 BURST_LIMIT) (value k) policies.NoSave (within_is k 1 BURST_LIMIT)

tag_is : (t : TagForm) → tag_in t ≡ cond (is_tag t) (Ok (tag_value t)) (Err 4)
unfolding tag_in
tag_is tag_forms.Untagged = refl
tag_is (tag_forms.Simple k) =
    mapped_is (within k 0 TAG_LIMIT) (is_in k 0 TAG_LIMIT) (value k) tags.Simple (within_is k 0 TAG_LIMIT)
tag_is (tag_forms.Ordered k) =
    mapped_is (within k 0 TAG_LIMIT) (is_in k 0 TAG_LIMIT) (value k) tags.Ordered (within_is k 0 TAG_LIMIT)
tag_is (tag_forms.Head k) =
    mapped_is (within k 0 TAG_LIMIT) (is_in k 0 TAG_LIMIT) (value k) tags.Head (within_is k 0 TAG_LIMIT)

what_value : WhatForm → AbortKind
what_value whats.All = kills.All
what_value (whats.Tag t) = kills.Tag (value t)
what_value whats.Queue = kills.WholeQueue
what_value whats.Device = kills.Device

what_is : (w : WhatForm) → what_in w ≡ cond (is_what w) (Ok (what_value w)) (Err 4)
unfolding what_in what_value
what_is whats.All = refl
what_is (whats.Tag k) =
    mapped_is (within k 0 TAG_LIMIT) (is_in k 0 TAG_LIMIT) (value k) kills.Tag (within_is k 0 TAG_LIMIT)
what_is whats.Queue = refl
what_is whats.Device = refl

guard_is : (t : Bool) → guard 4 t ≡ cond t (Ok tt) (Err 4)
guard_is true = refl
guard_is false = refl

-- ---- each line

-- A command whose numbers are right is the one that the line says.
cmd_is : (s : ScenarioValue) (c : CmdSaid) (f : CmdDef → Result CmdDef ℕ) (x : Option ℕ) → refused (f (cmd_value c)) ≡ x
    → refused (cmd_def s c >>= f) ≡ cond (not (keeps_limits (cmd_line c))) (Some 4)
    (cond (not (are_ends s (value c.host) (value c.target))) (Some 6) x)
unfolding cmd_def
cmd_is s c f x h =
    step2 _ _ _ _ f _ _ (within_is c.host 0 7) (step2 _ _ _ _ f _ _ (within_is c.target 0 7) (step2 _ _ _ _ f _ _
    (within_is c.unit 0 7) (step2 _ _ _ _ f _ _ (within_is c.at 0 TIME_LIMIT) (step2 _ _ _ _ f _ _ (tag_is c.tag)
    (last2 _ _ _ _ f _ (guard_is (is_block c.cdb)) (guard2 6 (are_ends s (value c.host) (value c.target)) _ f x h))))))

lowest_cmd : (d : Progress) (c : CmdSaid) → refused (added d (cmd_line c)) ≡ reason_added d (cmd_line c)
unfolding added reason_added full_cmd_def
lowest_cmd d c = refused_then (full_cmd_def d.scenario d.needs c) _ _
    (cmd_is d.scenario c _ _ (refused_guard 7 (is_payload (sent_of d.scenario (cmd_value c)) (payload_of c.payload)) _ _
    (refused_guard 8 (has_room d.scenario d.needs (need_of d.scenario (cmd_value c))) _ None refl)))

lowest_added : (d : Progress) (x : Said) → refused (added d x) ≡ reason_added d x
unfolding added reason_added host_def target_def unit_def fill_def tape_def load_def cmd_def full_cmd_def abort_def
    reset_def fault_def
lowest_added d (scsi_line v) = refl
lowest_added d (initiator_line f) = refused_then (host_def d.scenario f) _ _
    (step _ _ _ _ _ _ (within_is f.device 0 7) (step _ _ _ _ _ _ (within_is f.latency 0 LATENCY_LIMIT)
    (step _ _ _ _ _ _ (within_is f.«open» 1 OPEN_LIMIT) (step _ _ _ _ _ _ (within_is f.retries 0 RETRY_LIMIT)
    (step _ _ _ _ _ _ (period_is f.period) (step _ _ _ _ _ _ (within_is f.offset 0 HOST_OFFSET_LIMIT) (last _ _ _ _ _
    (within_is f.lag 0 LAG_LIMIT) (refused_not 5 (has_device d.scenario (value f.device)) _ None refl))))))))
lowest_added d (target_line f) = refused_then (target_def d.scenario f) _ _
    (step _ _ _ _ _ _ (within_is f.device 0 7) (step _ _ _ _ _ _ (within_is f.latency 0 LATENCY_LIMIT)
    (step _ _ _ _ _ _ (within_is f.retries 0 RETRY_LIMIT) (step _ _ _ _ _ _ (policy_is f.disc)
    (step _ _ _ _ _ _ (within_is f.seek 0 SEEK_LIMIT) (step _ _ _ _ _ _ (period_is f.period) (last _ _ _ _ _ (within_is
    f.offset 0 TARGET_OFFSET_LIMIT) (refused_not 5 (has_device d.scenario (value f.device)) _ None refl))))))))
lowest_added d (unit_line f) = refused_then (unit_def d.scenario f) _ _ (step _ _ _ _ _ _ (within_is f.target 0 7)
    (step _ _ _ _ _ _ (within_is f.unit 0 7) (step _ _ _ _ _ _ (within_is f.blocks 1 BLOCK_LIMIT) (step _ _ _ _ _ _
    (size_is f.size) (last _ _ _ _ _ (within_is f.depth 1 DEPTH_LIMIT) (refused_not 5 (is_some (unit_of d.scenario
    (value f.target) (value f.unit))) _ _ (refused_guard 6 (has_target d.scenario (value f.target)) _ None refl)))))))
lowest_added d (fill_line f) = refused_then (fill_def d.scenario f) _ _ (step _ _ _ _ _ _ (within_is f.target 0 7)
    (step _ _ _ _ _ _ (within_is f.unit 0 7) (last _ _ _ _ _ (within_is f.lba 0 (2 ^ 64 - 1))
    (refused_not 5 (has_fill d.scenario.fills (value f.target) (value f.unit) (value f.lba)) _ _
    (refused_found (unit_of d.scenario (value f.target) (value f.unit)) _ (λ o. is_block_in o (value f.lba) f.bytes)
    (λ u. refused_guard 7 (is_block_of u (value f.lba) f.bytes) _ None refl))))))
lowest_added d (tape_line f) = refused_then (tape_def d.scenario f) _ _ (step _ _ _ _ _ _ (within_is f.target 0 7)
    (step _ _ _ _ _ _ (within_is f.unit 0 7) (step _ _ _ _ _ _ (within_is f.objects 1 OBJECT_LIMIT) (step _ _ _ _ _ _
    (size_is f.size) (last _ _ _ _ _ (within_is f.depth 1 DEPTH_LIMIT) (refused_not 5 (is_some (unit_of d.scenario
    (value f.target) (value f.unit))) _ _ (refused_guard 6 (has_target d.scenario (value f.target)) _ None refl)))))))
lowest_added d (load_line f) = refused_then (load_def d.scenario f) _ _ (step _ _ _ _ _ _ (within_is f.target 0 7)
    (last _ _ _ _ _ (within_is f.unit 0 7) (refused_found (tape_of d.scenario (value f.target) (value f.unit)) _
    (λ o. fits_on o (loads_at d.scenario.loads (value f.target) (value f.unit)) (load_of f.what))
    (λ t. refused_guard 7 (fits_tape t (loads_at d.scenario.loads (value f.target) (value f.unit)) (load_of f.what)) _
    None refl))))
lowest_added d (cmd_line c) = lowest_cmd d c
lowest_added d (abort_line f) = refused_then (abort_def d.scenario f) _ _ (step _ _ _ _ _ _
    (within_is f.host 0 7) (step _ _ _ _ _ _ (within_is f.target 0 7) (step _ _ _ _ _ _ (within_is f.unit 0 7)
    (step _ _ _ _ _ _ (within_is f.at 0 TIME_LIMIT) (last _ _ _ _ _ (what_is f.what) (refused_guard 6 (are_ends
    d.scenario (value f.host) (value f.target)) _ _ (refused_guard 8 (has_abort_room d.scenario) _ None refl)))))))
lowest_added d (reset_line f) = refused_then (reset_def d.scenario f) _ _
    (step _ _ _ _ _ _ (within_is f.device 0 7) (last _ _ _ _ _ (within_is f.at 0 TIME_LIMIT) (refused_guard 6
    (has_device d.scenario (value f.device)) _ _ (refused_guard 8 (has_abort_room d.scenario) _ None refl))))
lowest_added d (fault_line f) =
    refused_then (fault_def d.scenario f) _ _ (step _ _ _ _ _ _ (within_is f.at 0 TIME_LIMIT) (last _ _ _ _ _
    (within_is f.bit 0 8) (refused_guard 8 (nat_lt (length d.scenario.faults) FAULT_LIMIT) _ None refl)))
lowest_added d end_line = refl

lowest_said : (d : Progress) (x : Said) → refused (said_after d x) ≡ reason_said d x
unfolding said_after reason_said
lowest_said d x = refused_guard 2 (fits_version d.scenario.version x) _ _
    (refused_guard 3 (in_order (rank d.last) (rank (kind_of x))) _ _ (refused_then (added d x) _ _ (lowest_added d x)))

lowest_formed : (d : Progress) (o : Option Said) → refused (formed o >>= λ x. said_after d x) ≡ reason_formed d o
lowest_formed d None = refl
lowest_formed d (Some x) = lowest_said d x

skip : (t : Bool) (d : Progress) (r : Result Progress ℕ) (x : Option ℕ) → refused r ≡ x
    → refused (cond t (Ok d) r) ≡ cond t None x
skip true d r x h = refl
skip false d r x h = h

pub lowest : (d : Progress) (line : Line) → refused (line_after d line) ≡ reason_of d line
unfolding line_after reason_of
lowest d line = refused_guard 1 (list_all is_printable line.text) _ _
    (refused_guard 2 line.ended _ _ (skip (is_skipped line.text) d _ _ (lowest_formed d (form_of line.text))))
