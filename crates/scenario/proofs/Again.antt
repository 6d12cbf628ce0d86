-- What is written is read again: texts.
use Rattle.std.proofs.Common.{◌≡◌, ℕ, ◌+◌, Bool, true, false, cond, ◌&&◌, List, [], ◌∷◌, ◌++◌, Option, Some, None}
use Rattle.std.proofs.Common.{Result, Ok, Err, refl, sym, ap, subst, ◌∙◌, arith, append_assoc}
use Rattle.std.specs.Prelude.{◌==◌, decimal, codes}
use Rattle.std.specs.List.{list_all, flat_map, AllByRecursion}
use Rattle.std.specs.Char.{is_ascii_digit}
use Rattle.std.proofs.lemmas.Bool.Decides.{nat_tests}
use Rattle.std.proofs.lemmas.List.Folds.{list_all-append}
use Rattle.bus_base.specs.declared.events.Pick.{Pick}
use Rattle.bus_base.specs.declared.events.Pick.TheVariants as picks
use Rattle.text_words.specs.Words.{Number, is_hex}
use Rattle.text_words.specs.Lines.{Line, lines_of, onto}
use Rattle.text_words.specs.Spelling.{hex_text, byte_text, AreBytes}
use Rattle.text_words.proofs.Again.{decimal_passes, hex_passes}
use Rattle.scenario.specs.declared.form.PolicyForm.{PolicyForm}
use Rattle.scenario.specs.declared.form.PolicyForm.TheVariants as policies
use Rattle.scenario.specs.declared.form.TagForm.{TagForm}
use Rattle.scenario.specs.declared.form.TagForm.TheVariants as tags
use Rattle.scenario.specs.declared.form.WhatForm.{WhatForm}
use Rattle.scenario.specs.declared.form.WhatForm.TheVariants as whats
use Rattle.scenario.specs.Parts.{PayloadSaid, no_bytes, these_bytes, bytes_from, ObjectSaid, block_object, mark_object}
use Rattle.scenario.specs.Forms.{Said, scsi_line, initiator_line, target_line, unit_line, fill_line, tape_line}
use Rattle.scenario.specs.Forms.{load_line, cmd_line, abort_line, reset_line, fault_line, end_line}
use Rattle.scenario.specs.Reading.{Progress, is_printable, line_after, said_after, read_from, and_then, is_end}
use Rattle.scenario.specs.Reading.{is_skipped, ◌>>=◌}
use Rattle.scenario.specs.Writing.{numbered, flag_text, scsi_text, policy_text, pick_text, tag_text, payload_text}
use Rattle.scenario.specs.Writing.{what_text, host_sync_text, initiator_text, target_seek_text, target_disc_text}
use Rattle.scenario.specs.Writing.{target_text, unit_text, fill_text, cmd_tag_text, cmd_text, abort_text, reset_text}
use Rattle.scenario.specs.Writing.{fault_text, object_text, tape_text, load_text, said_text, said_line, built}
use Rattle.scenario.proofs.PartsAgain.{IsSmall, IsSmallPolicy, IsSmallTag, IsSpelledPayload, IsSmallWhat}
use Rattle.scenario.proofs.PartsAgain.{IsSpelledObject}
use Rattle.scenario.proofs.FormsAgain.{IsSpelled, form_again}
use Rattle.text_words.proofs.FirstFeed.{ended_line}

-- ---- what is written is printable

abbrev Prints : List ℕ → Type 0
Prints xs = list_all is_printable xs ≡ true

passes-weaker : (p q : ℕ → Bool) → ((x : ℕ) → p x ≡ true → q x ≡ true) → (xs : List ℕ) → list_all p xs ≡ true
    → list_all q xs ≡ true
passes-weaker p q f [] h = refl
passes-weaker p q f (x ∷ xs) h = go (p x) refl h (passes-weaker p q f xs) where
  go : (b : Bool) → p x ≡ b → (b && list_all p xs) ≡ true → (list_all p xs ≡ true → list_all q xs ≡ true)
      → (q x && list_all q xs) ≡ true
  go true e h ih = rw (f x e) (ih h)
  go false e h ih = absurd cc

digit_prints : (x : ℕ) → is_ascii_digit x ≡ true → is_printable x ≡ true
digit_prints x h = grind (arith, nat_tests)

hex_prints : (x : ℕ) → is_hex x ≡ true → is_printable x ≡ true
hex_prints x h = grind (arith, nat_tests)

hex_text_prints : (bytes : List ℕ) → AreBytes bytes → Prints (hex_text bytes)
hex_text_prints bytes h = passes-weaker is_hex is_printable hex_prints (hex_text bytes) (hex_passes bytes h)

join : (xs ys : List ℕ) → Prints xs → Prints ys → Prints (xs ++ ys)
join xs ys a b = list_all-append is_printable xs ys ∙ (λ t. a t && b t)

numbered_prints : (text : List ℕ) (u : Number) → Prints text → IsSmall u → Prints (numbered text u)
numbered_prints text None p h = absurd h
numbered_prints text (Some n) p h =
    join text (decimal n) p (passes-weaker is_ascii_digit is_printable digit_prints (decimal n) (decimal_passes n h))

flag_prints : (text : List ℕ) (o : Option Bool) → Prints text → Prints (flag_text text o)
flag_prints text None p = refl
flag_prints text (Some true) p = join text (codes "yes") p refl
flag_prints text (Some false) p = join text (codes "no") p refl

policy_prints : (p : PolicyForm) → IsSmallPolicy p → Prints (policy_text p)
policy_prints policies.Never h = refl
policy_prints policies.Command h = refl
policy_prints (policies.Burst k) h = numbered_prints (codes "burst ") k refl h
policy_prints (policies.NoSave k) h = numbered_prints (codes "nosave ") k refl h

pick_prints : (p : Pick) → Prints (pick_text p)
pick_prints picks.First = refl
pick_prints picks.Last = refl

tag_prints : (t : TagForm) → IsSmallTag t → Prints (tag_text t)
tag_prints tags.Untagged h = refl
tag_prints (tags.Simple n) h = numbered_prints (codes "simple ") n refl h
tag_prints (tags.Ordered n) h = numbered_prints (codes "ordered ") n refl h
tag_prints (tags.Head n) h = numbered_prints (codes "head ") n refl h

object_prints : (o : ObjectSaid) → IsSpelledObject o → Prints (object_text o)
object_prints (block_object bytes) h = hex_text_prints bytes h.0
object_prints mark_object h = refl

payload_prints : (p : PayloadSaid) → IsSpelledPayload p → Prints (payload_text p)
payload_prints no_bytes h = refl
payload_prints (these_bytes bytes) h = join (codes "out hex ") (hex_text bytes) refl (hex_text_prints bytes h.0)
payload_prints (bytes_from b) h = join (codes "out from ") (byte_text b) refl (hex_text_prints (b ∷ []) (h, tt))

what_prints : (w : WhatForm) → IsSmallWhat w → Prints (what_text w)
what_prints whats.All h = refl
what_prints (whats.Tag n) h = numbered_prints (codes "tag ") n refl h
what_prints whats.Queue h = refl
what_prints whats.Device h = refl

scsi_prints : (v : ℕ) → Prints (scsi_text v)
scsi_prints v = go (v == 3) (v == 2) where
  go : (p q : Bool) → Prints (cond p (codes "scsi 3") (cond q (codes "scsi 2") (codes "scsi 1")))
  go true q = refl
  go false true = refl
  go false false = refl

pub said_prints : (x : Said) → IsSpelled x → list_all is_printable (said_text x) ≡ true
unfolding initiator_text host_sync_text target_text target_disc_text target_seek_text unit_text fill_text tape_text
    load_text cmd_text cmd_tag_text abort_text reset_text fault_text
said_prints (scsi_line v) h = scsi_prints v
said_prints (initiator_line f) h =
    let r7 : List ℕ = flag_text (codes " offers ") f.offers in
    let p7 : Prints r7 = flag_prints (codes " offers ") f.offers refl in
    let r6 : List ℕ = numbered (codes " lag ") f.lag ++ r7 in
    let p6 : Prints r6 = join (numbered (codes " lag ") f.lag) r7 (numbered_prints (codes " lag ") f.lag refl h.6) p7 in
    let r5 : List ℕ = numbered (codes " ") f.offset ++ r6 in
    let p5 : Prints r5 = join (numbered (codes " ") f.offset) r6 (numbered_prints (codes " ") f.offset refl h.5) p6 in
    let r4 : List ℕ = numbered (codes " sync ") f.period ++ r5 in
    let p4 : Prints r4 = join (numbered (codes " sync ") f.period) r5
    (numbered_prints (codes " sync ") f.period refl h.4) p5 in
    let r3 : List ℕ = numbered (codes " retries ") f.retries ++ r4 in
    let p3 : Prints r3 = join (numbered (codes " retries ") f.retries) r4
    (numbered_prints (codes " retries ") f.retries refl h.3) p4 in
    let r2 : List ℕ = numbered (codes " open ") f.«open» ++ r3 in
    let p2 : Prints r2 = join (numbered (codes " open ") f.«open») r3
    (numbered_prints (codes " open ") f.«open» refl h.2) p3 in
    let r1 : List ℕ = numbered (codes " latency ") f.latency ++ r2 in
    let p1 : Prints r1 = join (numbered (codes " latency ") f.latency) r2
    (numbered_prints (codes " latency ") f.latency refl h.1) p2 in
    join (numbered (codes "initiator ") f.device) r1 (numbered_prints (codes "initiator ") f.device refl h.0) p1
said_prints (target_line f) h =
    let r10 : List ℕ = flag_text (codes " begins ") f.begins in
    let p10 : Prints r10 = flag_prints (codes " begins ") f.begins refl in
    let r9 : List ℕ = numbered (codes " ") f.offset ++ r10 in
    let p9 : Prints r9 = join (numbered (codes " ") f.offset) r10 (numbered_prints (codes " ") f.offset refl h.6) p10 in
    let r8 : List ℕ = numbered (codes " sync ") f.period ++ r9 in
    let p8 : Prints r8 = join (numbered (codes " sync ") f.period) r9
    (numbered_prints (codes " sync ") f.period refl h.5) p9 in
    let r7 : List ℕ = numbered (codes " seek ") f.seek ++ r8 in
    let p7 : Prints r7 = join (numbered (codes " seek ") f.seek) r8
    (numbered_prints (codes " seek ") f.seek refl h.4) p8 in
    let r6 : List ℕ = pick_text f.pick ++ r7 in
    let p6 : Prints r6 = join (pick_text f.pick) r7 (pick_prints f.pick) p7 in
    let r5 : List ℕ = codes " pick " ++ r6 in
    let p5 : Prints r5 = p6 in
    let r4 : List ℕ = policy_text f.disc ++ r5 in
    let p4 : Prints r4 = join (policy_text f.disc) r5 (policy_prints f.disc h.3) p5 in
    let r3 : List ℕ = codes " disc " ++ r4 in
    let p3 : Prints r3 = p4 in
    let r2 : List ℕ = numbered (codes " retries ") f.retries ++ r3 in
    let p2 : Prints r2 = join (numbered (codes " retries ") f.retries) r3
    (numbered_prints (codes " retries ") f.retries refl h.2) p3 in
    let r1 : List ℕ = numbered (codes " latency ") f.latency ++ r2 in
    let p1 : Prints r1 = join (numbered (codes " latency ") f.latency) r2
    (numbered_prints (codes " latency ") f.latency refl h.1) p2 in
    join (numbered (codes "target ") f.device) r1 (numbered_prints (codes "target ") f.device refl h.0) p1
said_prints (unit_line f) h =
    let r4 : List ℕ = numbered (codes " depth ") f.depth in
    let p4 : Prints r4 = numbered_prints (codes " depth ") f.depth refl h.4 in
    let r3 : List ℕ = numbered (codes " size ") f.size ++ r4 in
    let p3 : Prints r3 = join (numbered (codes " size ") f.size) r4
    (numbered_prints (codes " size ") f.size refl h.3) p4 in
    let r2 : List ℕ = numbered (codes " blocks ") f.blocks ++ r3 in
    let p2 : Prints r2 = join (numbered (codes " blocks ") f.blocks) r3
    (numbered_prints (codes " blocks ") f.blocks refl h.2) p3 in
    let r1 : List ℕ = numbered (codes " ") f.unit ++ r2 in
    let p1 : Prints r1 = join (numbered (codes " ") f.unit) r2 (numbered_prints (codes " ") f.unit refl h.1) p2 in
    join (numbered (codes "unit ") f.target) r1 (numbered_prints (codes "unit ") f.target refl h.0) p1
said_prints (fill_line f) h =
    let r4 : List ℕ = hex_text f.bytes in
    let p4 : Prints r4 = hex_text_prints f.bytes h.3 in
    let r3 : List ℕ = codes " " ++ r4 in
    let p3 : Prints r3 = p4 in
    let r2 : List ℕ = numbered (codes " ") f.lba ++ r3 in
    let p2 : Prints r2 = join (numbered (codes " ") f.lba) r3 (numbered_prints (codes " ") f.lba refl h.2) p3 in
    let r1 : List ℕ = numbered (codes " ") f.unit ++ r2 in
    let p1 : Prints r1 = join (numbered (codes " ") f.unit) r2 (numbered_prints (codes " ") f.unit refl h.1) p2 in
    join (numbered (codes "fill ") f.target) r1 (numbered_prints (codes "fill ") f.target refl h.0) p1
said_prints (tape_line f) h =
    let r4 : List ℕ = numbered (codes " depth ") f.depth in
    let p4 : Prints r4 = numbered_prints (codes " depth ") f.depth refl h.4 in
    let r3 : List ℕ = numbered (codes " size ") f.size ++ r4 in
    let p3 : Prints r3 = join (numbered (codes " size ") f.size) r4
    (numbered_prints (codes " size ") f.size refl h.3) p4 in
    let r2 : List ℕ = numbered (codes " objects ") f.objects ++ r3 in
    let p2 : Prints r2 = join (numbered (codes " objects ") f.objects) r3
    (numbered_prints (codes " objects ") f.objects refl h.2) p3 in
    let r1 : List ℕ = numbered (codes " ") f.unit ++ r2 in
    let p1 : Prints r1 = join (numbered (codes " ") f.unit) r2 (numbered_prints (codes " ") f.unit refl h.1) p2 in
    join (numbered (codes "tape ") f.target) r1 (numbered_prints (codes "tape ") f.target refl h.0) p1
said_prints (load_line f) h =
    let r3 : List ℕ = object_text f.what in
    let p3 : Prints r3 = object_prints f.what h.2 in
    let r2 : List ℕ = codes " " ++ r3 in
    let p2 : Prints r2 = p3 in
    let r1 : List ℕ = numbered (codes " ") f.unit ++ r2 in
    let p1 : Prints r1 = join (numbered (codes " ") f.unit) r2 (numbered_prints (codes " ") f.unit refl h.1) p2 in
    join (numbered (codes "load ") f.target) r1 (numbered_prints (codes "load ") f.target refl h.0) p1
said_prints (cmd_line c) h =
    let r9 : List ℕ = payload_text c.payload in
    let p9 : Prints r9 = payload_prints c.payload h.7 in
    let r8 : List ℕ = codes " " ++ r9 in
    let p8 : Prints r8 = p9 in
    let r7 : List ℕ = hex_text c.cdb ++ r8 in
    let p7 : Prints r7 = join (hex_text c.cdb) r8 (hex_text_prints c.cdb h.5) p8 in
    let r6 : List ℕ = codes " cdb " ++ r7 in
    let p6 : Prints r6 = p7 in
    let r5 : List ℕ = tag_text c.tag ++ r6 in
    let p5 : Prints r5 = join (tag_text c.tag) r6 (tag_prints c.tag h.4) p6 in
    let r4 : List ℕ = codes " " ++ r5 in
    let p4 : Prints r4 = p5 in
    let r3 : List ℕ = numbered (codes " at ") c.at ++ r4 in
    let p3 : Prints r3 = join (numbered (codes " at ") c.at) r4 (numbered_prints (codes " at ") c.at refl h.3) p4 in
    let r2 : List ℕ = numbered (codes " ") c.unit ++ r3 in
    let p2 : Prints r2 = join (numbered (codes " ") c.unit) r3 (numbered_prints (codes " ") c.unit refl h.2) p3 in
    let r1 : List ℕ = numbered (codes " ") c.target ++ r2 in
    let p1 : Prints r1 = join (numbered (codes " ") c.target) r2 (numbered_prints (codes " ") c.target refl h.1) p2 in
    join (numbered (codes "cmd ") c.host) r1 (numbered_prints (codes "cmd ") c.host refl h.0) p1
said_prints (abort_line f) h =
    let r5 : List ℕ = what_text f.what in
    let p5 : Prints r5 = what_prints f.what h.4 in
    let r4 : List ℕ = codes " " ++ r5 in
    let p4 : Prints r4 = p5 in
    let r3 : List ℕ = numbered (codes " at ") f.at ++ r4 in
    let p3 : Prints r3 = join (numbered (codes " at ") f.at) r4 (numbered_prints (codes " at ") f.at refl h.3) p4 in
    let r2 : List ℕ = numbered (codes " ") f.unit ++ r3 in
    let p2 : Prints r2 = join (numbered (codes " ") f.unit) r3 (numbered_prints (codes " ") f.unit refl h.2) p3 in
    let r1 : List ℕ = numbered (codes " ") f.target ++ r2 in
    let p1 : Prints r1 = join (numbered (codes " ") f.target) r2 (numbered_prints (codes " ") f.target refl h.1) p2 in
    join (numbered (codes "abort ") f.host) r1 (numbered_prints (codes "abort ") f.host refl h.0) p1
said_prints (reset_line f) h =
    let r1 : List ℕ = numbered (codes " at ") f.at in
    let p1 : Prints r1 = numbered_prints (codes " at ") f.at refl h.1 in
    join (numbered (codes "reset ") f.device) r1 (numbered_prints (codes "reset ") f.device refl h.0) p1
said_prints (fault_line f) h =
    let r1 : List ℕ = numbered (codes " bit ") f.bit in
    let p1 : Prints r1 = numbered_prints (codes " bit ") f.bit refl h.1 in
    join (numbered (codes "fault at ") f.at) r1 (numbered_prints (codes "fault at ") f.at refl h.0) p1
said_prints end_line h = refl

-- ---- a written line is one line

line_step : (b : ℕ) (text rest : List ℕ) (q : Bool) → is_printable b ≡ q
    → (list_all is_printable text ≡ true → lines_of (text ++ 10 ∷ rest) ≡ ended_line text ∷ lines_of rest)
    → (q && list_all is_printable text) ≡ true
    → lines_of (b ∷ (text ++ 10 ∷ rest)) ≡ ended_line (b ∷ text) ∷ lines_of rest
line_step b text rest true e ih h =
    let other : (b == 10) ≡ false = grind (arith, nat_tests) in
    let start : lines_of (b ∷ (text ++ 10 ∷ rest)) ≡ onto b (lines_of (text ++ 10 ∷ rest)) = rw other refl in
    start ∙ ap (onto b) (ih h)
line_step b text rest false e ih h = absurd cc

pub line_again : (text rest : List ℕ) → list_all is_printable text ≡ true
    → lines_of (text ++ 10 ∷ rest) ≡ ended_line text ∷ lines_of rest
line_again [] rest h = refl
line_again (b ∷ text) rest h = line_step b text rest (is_printable b) refl (line_again text rest) h

scsi_not_skipped : (v : ℕ) → is_skipped (scsi_text v) ≡ false
scsi_not_skipped v = go (v == 3) (v == 2) where
  go : (p q : Bool) → is_skipped (cond p (codes "scsi 3") (cond q (codes "scsi 2") (codes "scsi 1"))) ≡ false
  go true q = refl
  go false true = refl
  go false false = refl

not_skipped : (x : Said) → is_skipped (said_text x) ≡ false
unfolding initiator_text host_sync_text target_text target_disc_text target_seek_text unit_text fill_text tape_text
    load_text cmd_text cmd_tag_text abort_text reset_text fault_text
not_skipped (scsi_line v) = scsi_not_skipped v
not_skipped (initiator_line f) = refl
not_skipped (target_line f) = refl
not_skipped (unit_line f) = refl
not_skipped (fill_line f) = refl
not_skipped (tape_line f) = refl
not_skipped (load_line f) = refl
not_skipped (cmd_line f) = refl
not_skipped (abort_line f) = refl
not_skipped (reset_line f) = refl
not_skipped (fault_line f) = refl
not_skipped end_line = refl

pub line_after_said : (d : Progress) (x : Said) → IsSpelled x → line_after d (ended_line (said_text x)) ≡ said_after d x
unfolding line_after
line_after_said d x h = rw (said_prints x h, not_skipped x, form_again x h) refl

-- ---- texts

abbrev pub AreSpelled : List Said → Type 0
AreSpelled xs = AllByRecursion IsSpelled xs

abbrev done : Progress → Result Progress ℕ
done d = Ok d

ok_is : (d e : Progress) → done d ≡ done e → d ≡ e
ok_is d e h = cc

step_on : (n : ℕ) (r : Result Progress ℕ) (xs : List Said) (lines : List Line) (e : Progress)
    → (r >>= λ d. built d xs) ≡ Ok e → ((d : Progress) → built d xs ≡ Ok e → read_from d (n + 1) lines ≡ Ok e.scenario)
    → and_then n r (λ d. read_from d (n + 1) lines) ≡ Ok e.scenario
step_on n (Ok d) xs lines e h ih = ih d h
step_on n (Err r) xs lines e h ih = absurd cc

-- A text of lines that have a spelling says what these lines say.
pub text_again : (xs : List Said) → AreSpelled xs → (d e : Progress) (n : ℕ) → built d xs ≡ Ok e → is_end e.last ≡ true
    → read_from d n (lines_of (flat_map said_line xs)) ≡ Ok e.scenario
unfolding read_from
text_again [] h d e n b end =
    subst (λ (x : Progress). read_from x n [] ≡ Ok e.scenario) (sym (ok_is d e b)) (rw end refl)
text_again (x ∷ xs) h d e n b end =
    let rest : List ℕ = flat_map said_line xs in
    let parts : flat_map said_line (x ∷ xs) ≡ said_text x ++ 10 ∷ rest = append_assoc (said_text x) (10 ∷ []) rest in
    let cut : lines_of (flat_map said_line (x ∷ xs)) ≡ ended_line (said_text x) ∷ lines_of rest = ap lines_of parts
    ∙ line_again (said_text x) rest (said_prints x h.0) in
    let first : read_from d n (ended_line (said_text x) ∷ lines_of rest)
    ≡ and_then n (said_after d x) (λ (f : Progress). read_from f (n + 1) (lines_of rest)) = ap
    (λ (r : Result Progress ℕ). and_then n r (λ f. read_from f (n + 1) (lines_of rest))) (line_after_said d x h.0) in
    ap (read_from d n) cut ∙ first
    ∙ step_on n (said_after d x) xs (lines_of rest) e b (λ f c. text_again xs h.1 f e (n + 1) c end)
