-- The messages of an initiator name the process of a connection that it began: IDENTIFY, the tag, and after these no
-- name.
use Rattle.transcript_laws.proofs
use proofs.Names.{ℕ, ◌≡◌, ◌∙◌, Bool, true, false, not, ◌&&◌, List, [], ◌∷◌, ◌++◌, Option, Some, None, refl, sym, ap}
use proofs.Names.{◌==◌, append_assoc, is_some, is_none, nat_lt, if◌then◌else◌, wrong', and_first, and_second, eq_self}
use proofs.Names.{ProcId, Connection, MsgOut, ScenarioValue, HostDef, Tag, number_same, same_number, tag_number}
use proofs.Names.{process_of, no_summary, named, unit_out, tag_out, last_abort, departure_out, summary_out, summary_in}
use proofs.Names.{summary_of, OpenedValue, held_part, Incoming, Broken, Part, Departure, Loss, Summary, held_parts}
use proofs.{Names.{base_parts, out_parts, parts_now, summary_by, is_of, name_process}, Said.Out.{tag_messages}}
use proofs.Said.Out.{offers_if}
use Rattle.due_model.specs.array_model.specs.Processes.{Process}
use Rattle.bus_transcript.specs.declared.part.Incoming.TheVariants.{Whole}
use Rattle.due_model.specs.msg_grammar.specs.Grammar.{is_abort}

-- ---- the messages of an initiator among parts

abbrev pub out_if : Part → List MsgOut
out_if (Part.Out m) = m ∷ []
out_if _ = []

abbrev pub outs_of : List Part → List MsgOut
outs_of [] = []
outs_of (part ∷ parts) = out_if part ++ outs_of parts

pub outs_append : (xs ys : List Part) → outs_of (xs ++ ys) ≡ outs_of xs ++ outs_of ys
outs_append [] ys = refl
outs_append (x ∷ xs) ys = ap (λ (m : List MsgOut). out_if x ++ m) (outs_append xs ys)
    ∙ sym (append_assoc (out_if x) (outs_of xs) (outs_of ys))

pub outs_said : (said : List MsgOut) → outs_of (out_parts said) ≡ said
outs_said [] = refl
outs_said (m ∷ said) = ap (λ (x : List MsgOut). m ∷ x) (outs_said said)

-- What is held is no message of an initiator, whether it is void or not.
outs_held : (q : Bool) (held : Option Incoming) → outs_of (if q then [] else held_part held) ≡ []
outs_held true held = refl
outs_held false None = refl
outs_held false (Some (Whole m)) = refl
outs_held false (Some Broken) = refl

pub outs_base : (o : OpenedValue) → outs_of (base_parts o) ≡ outs_of o.parts ++ outs_of o.since
outs_base o = outs_append o.parts (held_parts o ++ o.since) ∙ ap (λ (x : List MsgOut). outs_of o.parts ++ x)
    (outs_append (held_parts o) o.since ∙ ap (λ (x : List MsgOut). x ++ outs_of o.since) (outs_held_now o))
  where
    outs_held_now : (v : OpenedValue) → outs_of (held_parts v) ≡ []
    outs_held_now v = outs_held (Rattle.transcript_laws.specs.Parts.is_void v.said) v.held

pub outs_now : (o : OpenedValue) → outs_of (parts_now o) ≡ outs_of (base_parts o) ++ o.said
outs_now o = outs_append (base_parts o) (out_parts o.said)
    ∙ ap (λ (x : List MsgOut). outs_of (base_parts o) ++ x) (outs_said o.said)

-- ---- messages that are neither a name nor an abort

abbrev pub is_tame : MsgOut → Bool
is_tame m = not (is_abort m)

abbrev pub are_tame : List MsgOut → Bool
are_tame [] = true
are_tame (m ∷ ms) = is_tame m && are_tame ms

abbrev pub is_mild : MsgOut → Bool
is_mild m = not (is_abort m) && is_none (tag_out m)

abbrev pub are_mild : List MsgOut → Bool
are_mild [] = true
are_mild (m ∷ ms) = is_mild m && are_mild ms

pub mild_more : (xs ys : List MsgOut) → are_mild xs ≡ true → are_mild ys ≡ true → are_mild (xs ++ ys) ≡ true
mild_more [] ys e f = f
mild_more (x ∷ xs) ys e f =
    λ i. and_first (is_mild x) (are_mild xs) e i && mild_more xs ys (and_second (is_mild x) (are_mild xs) e) f i

pub mild_front : (xs ys : List MsgOut) → are_mild (xs ++ ys) ≡ true → are_mild xs ≡ true
mild_front [] ys e = refl
mild_front (x ∷ xs) ys e = λ i. and_first (is_mild x) (are_mild (xs ++ ys)) e i
    && mild_front xs ys (and_second (is_mild x) (are_mild (xs ++ ys)) e) i

pub tame_front : (xs ys : List MsgOut) → are_tame (xs ++ ys) ≡ true → are_tame xs ≡ true
tame_front [] ys e = refl
tame_front (x ∷ xs) ys e = λ i. and_first (is_tame x) (are_tame (xs ++ ys)) e i
    && tame_front xs ys (and_second (is_tame x) (are_tame (xs ++ ys)) e) i

pub mild_tame : (xs : List MsgOut) → are_mild xs ≡ true → are_tame xs ≡ true
mild_tame [] e = refl
mild_tame (x ∷ xs) e = λ i. and_first (is_tame x) (is_none (tag_out x)) (and_first (is_mild x) (are_mild xs) e) i
    && mild_tame xs (and_second (is_mild x) (are_mild xs) e) i

pub offers_mild : (negotiates : Bool) (h : Option HostDef) → are_mild (offers_if negotiates h) ≡ true
offers_mild false h = refl
offers_mild true None = refl
offers_mild true (Some h) = go (h.offers && nat_lt 0 h.period)
  where
    go : (q : Bool)
        → are_mild (if q then MsgOut.Sdtr (record { period = h.period; offset = h.offset }) ∷ [] else []) ≡ true
    go true = refl
    go false = refl

-- ---- an opening, and what is said after it

pub record IsOpening (c : Process) (outs : List MsgOut) : Type 0 where
  pub disc : Bool
  pub rest : List MsgOut
  pub is : outs ≡ MsgOut.Identify disc c.unit ∷ tag_messages c.tag rest
  pub mild : are_mild rest ≡ true

tag_more : (tag : Tag) (rest more : List MsgOut) → tag_messages tag rest ++ more ≡ tag_messages tag (rest ++ more)
tag_more Tag.Untagged rest more = refl
tag_more _ rest more = refl

pub opening_more : (c : Process) (outs more : List MsgOut) → IsOpening c outs → are_mild more ≡ true
    → IsOpening c (outs ++ more)
opening_more c outs more h e = record {
  disc = h.disc;
  rest = h.rest ++ more;
  is = ap (λ (x : List MsgOut). x ++ more) h.is
      ∙ ap (λ (x : List MsgOut). MsgOut.Identify h.disc c.unit ∷ x) (tag_more c.tag h.rest more);
  mild = mild_more h.rest more h.mild e;
}

tame_tag : (tag : Tag) (rest : List MsgOut) → are_tame rest ≡ true → are_tame (tag_messages tag rest) ≡ true
tame_tag Tag.Untagged rest e = e
tame_tag _ rest e = e

pub opening_tame : (c : Process) (outs : List MsgOut) → IsOpening c outs → are_tame outs ≡ true
opening_tame c outs h = ap are_tame h.is ∙ tame_tag c.tag h.rest (mild_tame h.rest h.mild)

-- ---- the summary of parts, but for its departure, is that of the messages of the initiator

abbrev pub naming_part : Summary → Summary
naming_part u = record u { departure = Loss }

abbrev pub name_step : Summary → MsgOut → Summary
name_step u m = record (named u (unit_out m) (tag_out m)) { abort = last_abort u.abort m }

abbrev pub name_steps : Summary → List MsgOut → Summary
name_steps u [] = u
name_steps u (m ∷ ms) = name_steps (name_step u m) ms

named_same : (a : Summary) (u t : Option ℕ) (b : Option MsgOut) (d : Departure)
    → naming_part (record (named a u t) { abort = b; departure = d }) ≡ record (named (naming_part a) u t) { abort = b }
named_same a u t b d = go (is_none a.unit) a.awaits_tag
  where
    go : (x y : Bool) → naming_part (record (if x then record a { unit = u; awaits_tag = is_some u }
        else if y then record a { tag = t; awaits_tag = false } else a) { abort = b; departure = d })
        ≡ record (if x then record (naming_part a) { unit = u; awaits_tag = is_some u }
        else if y then record (naming_part a) { tag = t; awaits_tag = false } else naming_part a) { abort = b }
    go true y = refl
    go false true = refl
    go false false = refl

pub names_same : (parts : List Part) (a : Summary)
    → naming_part (summary_of false a parts) ≡ name_steps (naming_part a) (outs_of parts)
names_same [] a = refl
names_same (Part.Out m ∷ parts) a = names_same parts (summary_out false a m)
    ∙ ap (λ (x : Summary). name_steps x (outs_of parts))
    (named_same a (unit_out m) (tag_out m) (last_abort a.abort m) (departure_out m))
names_same (Part.In m ∷ parts) a = names_same parts (summary_in false a m)
names_same (Part.BrokenOff ∷ parts) a = names_same parts (record a { departure = Loss })
names_same (Part.Command bytes struck left ∷ parts) a = names_same parts a
names_same (Part.Data out bytes ∷ parts) a = names_same parts a
names_same (Part.StatusPhase ∷ parts) a = names_same parts a
names_same (Part.Status byte ∷ parts) a = names_same parts a
names_same (Part.Completion ∷ parts) a = names_same parts a

-- ---- no abort among them

tame_step : (b : Option MsgOut) (m : MsgOut) → is_tame m ≡ true → b ≡ None → last_abort b m ≡ None
tame_step b m e f = go (is_abort m) e
  where
    go : (q : Bool) → not q ≡ true → (if q then Some m else b) ≡ None
    go true z = wrong' z
    go false z = f

pub tame_steps : (ms : List MsgOut) (a : Summary) → are_tame ms ≡ true → a.abort ≡ None → (name_steps a ms).abort ≡ None
tame_steps [] a e f = f
tame_steps (m ∷ ms) a e f = tame_steps ms (name_step a m) (and_second (is_tame m) (are_tame ms) e)
    (tame_step a.abort m (and_first (is_tame m) (are_tame ms) e) f)

pub no_abort : (n : Connection) (parts : List Part) → n.reselected ≡ false → are_tame (outs_of parts) ≡ true
    → (summary_by n parts).abort ≡ None
no_abort n parts sel e = ap (λ (q : Bool). (summary_of q no_summary parts).abort) sel
    ∙ ap (λ (x : Summary). x.abort) (names_same parts no_summary) ∙ tame_steps (outs_of parts) no_summary e refl

-- ---- the names of an opening

abbrev known_names : ℕ → Option ℕ → Bool → Summary
known_names unit tag awaits =
    record { unit = Some unit; tag = tag; awaits_tag = awaits; abort = None; departure = Loss }

record AreNames (a : Summary) (unit : ℕ) (tag : Option ℕ) : Type 0 where
  unit_is : a.unit ≡ Some unit
  tag_is : a.tag ≡ tag

mild_step : (unit : ℕ) (tag : Option ℕ) (m : MsgOut) → is_mild m ≡ true
    → name_step (known_names unit tag false) m ≡ known_names unit tag false
mild_step unit tag m e = ap (λ (x : Option MsgOut). record (known_names unit tag false) { abort = x })
    (tame_step None m (and_first (not (is_abort m)) (is_none (tag_out m)) e) refl)

mild_steps : (unit : ℕ) (tag : Option ℕ) (ms : List MsgOut) → are_mild ms ≡ true
    → name_steps (known_names unit tag false) ms ≡ known_names unit tag false
mild_steps unit tag [] e = refl
mild_steps unit tag (m ∷ ms) e =
    ap (λ (x : Summary). name_steps x ms) (mild_step unit tag m (and_first (is_mild m) (are_mild ms) e))
    ∙ mild_steps unit tag ms (and_second (is_mild m) (are_mild ms) e)

nothing : (x : Option ℕ) → is_none x ≡ true → x ≡ None
nothing None e = refl
nothing (Some x) e = wrong' e

-- The tag would be the next message.
awaited_step : (unit : ℕ) (m : MsgOut) → is_mild m ≡ true
    → name_step (known_names unit None true) m ≡ known_names unit None false
awaited_step unit m e = λ i. record {
  unit = Some unit;
  tag = nothing (tag_out m) (and_second (not (is_abort m)) (is_none (tag_out m)) e) i;
  awaits_tag = false;
  abort = tame_step None m (and_first (not (is_abort m)) (is_none (tag_out m)) e) refl i;
  departure = Loss;
}

untagged_steps : (unit : ℕ) (ms : List MsgOut) → are_mild ms ≡ true
    → AreNames (name_steps (known_names unit None true) ms) unit None
untagged_steps unit [] e = record { unit_is = refl; tag_is = refl }
untagged_steps unit (m ∷ ms) e =
    let is : name_steps (name_step (known_names unit None true) m) ms ≡ known_names unit None false =
    ap (λ (x : Summary). name_steps x ms) (awaited_step unit m (and_first (is_mild m) (are_mild ms) e))
    ∙ mild_steps unit None ms (and_second (is_mild m) (are_mild ms) e) in
    record { unit_is = ap (λ (x : Summary). x.unit) is; tag_is = ap (λ (x : Summary). x.tag) is }

opening_steps : (unit : ℕ) (tag : Tag) (disc : Bool) (rest : List MsgOut) → are_mild rest ≡ true
    → AreNames (name_steps no_summary (MsgOut.Identify disc unit ∷ tag_messages tag rest)) unit (tag_number tag)
opening_steps unit Tag.Untagged disc rest e = untagged_steps unit rest e
opening_steps unit (Tag.Simple n) disc rest e =
    let is = mild_steps unit (Some n) rest e in
    record { unit_is = ap (λ (x : Summary). x.unit) is; tag_is = ap (λ (x : Summary). x.tag) is }
opening_steps unit (Tag.Ordered n) disc rest e =
    let is = mild_steps unit (Some n) rest e in
    record { unit_is = ap (λ (x : Summary). x.unit) is; tag_is = ap (λ (x : Summary). x.tag) is }
opening_steps unit (Tag.Head n) disc rest e =
    let is = mild_steps unit (Some n) rest e in
    record { unit_is = ap (λ (x : Summary). x.unit) is; tag_is = ap (λ (x : Summary). x.tag) is }

-- ---- they name the process

pub name_by : (s : ScenarioValue) (n : Connection) (parts : List Part) (id : ProcId) (c : Process)
    → process_of s id ≡ Some c → c.initiator ≡ n.initiator → c.target ≡ n.target
    → (summary_by n parts).unit ≡ Some c.unit → (summary_by n parts).tag ≡ tag_number c.tag
    → name_process s n parts id ≡ true
name_by s n parts id c of initiator target unit tag =
    ap (λ (o : Option Process). is_of (Rattle.bus_transcript.specs.Rows.name_of n (summary_by n parts)) o) of
    ∙ (λ i. (n.initiator == initiator i && n.target == target i)
    && (same_number (unit i) (Some c.unit) && same_number (tag i) (tag_number c.tag)))
    ∙ (λ i. (eq_self n.initiator i && eq_self n.target i) && (eq_self c.unit i && number_same (tag_number c.tag) i))

pub opening_names : (s : ScenarioValue) (n : Connection) (parts : List Part) (id : ProcId) (c : Process)
    → n.reselected ≡ false → process_of s id ≡ Some c → c.initiator ≡ n.initiator → c.target ≡ n.target
    → IsOpening c (outs_of parts) → name_process s n parts id ≡ true
opening_names s n parts id c sel of initiator target h =
    let a = opening_steps c.unit c.tag h.disc h.rest h.mild in
    let is : naming_part (summary_by n parts)
    ≡ name_steps no_summary (MsgOut.Identify h.disc c.unit ∷ tag_messages c.tag h.rest) =
    ap (λ (q : Bool). naming_part (summary_of q no_summary parts)) sel
    ∙ names_same parts no_summary ∙ ap (name_steps no_summary) h.is in
    name_by s n parts id c of initiator target (ap (λ (x : Summary). x.unit) is ∙ a.unit_is)
    (ap (λ (x : Summary). x.tag) is ∙ a.tag_is)
