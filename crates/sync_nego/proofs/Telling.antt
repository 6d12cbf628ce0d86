-- What the rows of a trace tell of an agreement is what their exchange tells.
use Rattle.std.proofs.Common.{ℕ, ◌≡◌, Bool, true, false, List, [], ◌∷◌, ◌++◌, Option, Some, None, refl, sym, ap, subst}
use Rattle.std.proofs.Common.{◌∙◌, arith}
use Rattle.std.specs.Prelude.{not, ◌==◌, ◌&&◌, ◌||◌, ◌%◌, is_some, if◌then◌else◌}
use Rattle.std.proofs.lemmas.Bool.Decides.{nat_tests}
use Rattle.bus_trace.specs.LineSet.{LineSet}
use Rattle.bus_trace.specs.declared.Row.{Row}
use Rattle.bus_trace.specs.declared.changes.Change.{Change}
use Rattle.bus_trace.specs.declared.connection.Connection.{Connection}
use Rattle.bus_trace.specs.declared.agreements.Agreement.{Agreement}
use Rattle.bus_trace.specs.Changes.{change_of}
use Rattle.bus_trace.specs.Terms.{call, connection, connection_after, receiver_of}
use Rattle.bus_trace.specs.Phases.{is_message_out, is_message_in, is_command, changes_phase}
use Rattle.msg_grammar.specs.declared.message.Got.{Got}
use Rattle.msg_grammar.specs.declared.message.Got.TheVariants.{Whole, More, Unknown}
use Rattle.msg_grammar.specs.declared.message.MsgOut.{MsgOut}
use Rattle.msg_grammar.specs.declared.message.MsgIn.{MsgIn}
use Rattle.msg_grammar.specs.Messages.{got_out, got_in}
use Rattle.bus_trace.specs.Agreements.{same_agreement}
use Rattle.dialogue_model.specs.story_model.specs.CurrentAgreement.{current_agreement, current_agreement_in}
use Rattle.dialogue_model.specs.bus_phases.specs.declared.words.End.{End}
use Rattle.dialogue_model.specs.bus_phases.specs.declared.spoken.Heard.{Heard}
use Rattle.dialogue_model.specs.bus_phases.specs.declared.dialogue.Dialogue.{Dialogue}
use Rattle.dialogue_model.specs.bus_phases.specs.Dialogue.{asynchronous, heard_out, heard_in, heard_if_begun}
use Rattle.dialogue_model.specs.bus_phases.specs.Dialogue.{heard_with_command, fresh_bytes, byte_out, byte_in}
use Rattle.dialogue_model.specs.bus_phases.specs.Dialogue.{byte_else}
use Rattle.dialogue_model.specs.bus_phases.specs.Dialogue.{byte_crosses, phase_begins, dialogue_on, dialogue_after}
use Rattle.dialogue_model.specs.bus_phases.specs.Dialogue.{closed_agreement, closed_agreement_by, opened, agreed}
use Rattle.dialogue_model.specs.bus_phases.specs.Dialogue.{dialogue}
use Rattle.sync_nego.specs.Exchange.{Turn, connects, begins_phase, in_command, told, told_agreement, side}
use Rattle.sync_nego.proofs.Following.{holds_what_is_told}
use Rattle.sync_nego.specs.Rows.{anew_if, out_turns, begins_if, in_turns, byte_turns, dialogue_turns, resets_if}
use Rattle.sync_nego.specs.Rows.{is_of_pair, ends_all, row_turns, turns}

-- ---- a byte

record IsTold (d : Dialogue) (ts : List Turn) : Type 0 where
  heard : d.heard ≡ (told ts).heard
  at_phase : d.at_phase ≡ (told ts).at_phase

anew : (q : Bool) (d : Dialogue) (ts : List Turn) → IsTold d ts
    → (if q then d.at_phase else d.heard) ≡ (told (anew_if q ts)).heard
anew true d ts h = h.at_phase
anew false d ts h = h.heard

anew_phase : (q : Bool) (ts : List Turn) → (told (anew_if q ts)).at_phase ≡ (told ts).at_phase
anew_phase true ts = refl
anew_phase false ts = refl

said_out : (g : Got MsgOut) (ts : List Turn) → heard_out (told ts).heard g ≡ (told (out_turns g ts)).heard
said_out (Whole m n) ts = refl
said_out More ts = refl
said_out Unknown ts = refl

said_out_phase : (g : Got MsgOut) (ts : List Turn) → (told (out_turns g ts)).at_phase ≡ (told ts).at_phase
said_out_phase (Whole m n) ts = refl
said_out_phase More ts = refl
said_out_phase Unknown ts = refl

told_out : (d : Dialogue) (ts : List Turn) (byte : ℕ) (last : Bool) → IsTold d ts
    → IsTold (byte_out d byte last) (out_turns (got_out (fresh_bytes d ++ byte ∷ [])) (anew_if d.is_last ts))
told_out d ts byte last h = record {
  heard = (λ i. heard_out (anew d.is_last d ts h i) (got_out (fresh_bytes d ++ byte ∷ [])))
      ∙ said_out (got_out (fresh_bytes d ++ byte ∷ [])) (anew_if d.is_last ts);
  at_phase = h.at_phase ∙ sym (anew_phase d.is_last ts)
      ∙ sym (said_out_phase (got_out (fresh_bytes d ++ byte ∷ [])) (anew_if d.is_last ts));
}

begun : (half : List ℕ) (ts : List Turn) → heard_if_begun half (told ts).heard ≡ (told (begins_if half ts)).heard
begun [] ts = refl
begun (b ∷ bytes) ts = refl

begun_phase : (half : List ℕ) (ts : List Turn) → (told (begins_if half ts)).at_phase ≡ (told ts).at_phase
begun_phase [] ts = refl
begun_phase (b ∷ bytes) ts = refl

said_in : (g : Got MsgIn) (ts : List Turn) → heard_in (told ts).heard g ≡ (told (in_turns g ts)).heard
said_in (Whole m n) ts = refl
said_in More ts = refl
said_in Unknown ts = refl

said_in_phase : (g : Got MsgIn) (ts : List Turn) → (told (in_turns g ts)).at_phase ≡ (told ts).at_phase
said_in_phase (Whole m n) ts = refl
said_in_phase More ts = refl
said_in_phase Unknown ts = refl

told_in : (d : Dialogue) (ts : List Turn) (byte : ℕ) → IsTold d ts
    → IsTold (byte_in d byte) (in_turns (got_in (d.half ++ byte ∷ [])) (begins_if d.half ts))
told_in d ts byte h = record {
  heard = (λ i. heard_in (heard_if_begun d.half (h.heard i)) (got_in (d.half ++ byte ∷ [])))
      ∙ (λ i. heard_in (begun d.half ts i) (got_in (d.half ++ byte ∷ [])))
      ∙ said_in (got_in (d.half ++ byte ∷ [])) (begins_if d.half ts);
  at_phase = h.at_phase ∙ sym (begun_phase d.half ts)
      ∙ sym (said_in_phase (got_in (d.half ++ byte ∷ [])) (begins_if d.half ts));
}

told_else : (q : Bool) (d : Dialogue) (ts : List Turn) (byte : ℕ) → IsTold d ts → IsTold
    (if q then record d { heard = heard_with_command d.heard byte; begun = true } else record d { begun = true })
    (if q then in_command byte ∷ ts else ts)
told_else true d ts byte h = record { heard = λ i. heard_with_command (h.heard i) byte; at_phase = h.at_phase }
told_else false d ts byte h = record { heard = h.heard; at_phase = h.at_phase }

told_byte : (out in_ : Bool) (d : Dialogue) (ts : List Turn) (s : LineSet) (byte : ℕ) (last : Bool) → IsTold d ts
    → IsTold (if out then byte_out d byte last else if in_ then byte_in d byte else byte_else d s byte)
    (if out then out_turns (got_out (fresh_bytes d ++ byte ∷ [])) (anew_if d.is_last ts)
    else if in_ then in_turns (got_in (d.half ++ byte ∷ [])) (begins_if d.half ts)
    else if is_command s then in_command byte ∷ ts else ts)
told_byte true in_ d ts s byte last h = told_out d ts byte last h
told_byte false true d ts s byte last h = told_in d ts byte h
told_byte false false d ts s byte last h = told_else (is_command s) d ts byte h

told_crossing : (d : Dialogue) (ts : List Turn) (c : Change) → IsTold d ts
    → IsTold (byte_crosses d c) (byte_turns d c ts)
told_crossing d ts c h = told_byte (is_message_out c.before) (is_message_in c.before) d ts c.before
    (c.after.data_bits % 256) (not c.after.atn) h

told_row : (crosses changes : Bool) (d : Dialogue) (ts : List Turn) (c : Change) → IsTold d ts
    → IsTold (if crosses then byte_crosses d c else if changes then phase_begins d else d)
    (if crosses then byte_turns d c ts else if changes then begins_phase ∷ ts else ts)
told_row true changes d ts c h = told_crossing d ts c h
told_row false true d ts c h = record { heard = h.heard; at_phase = h.heard }
told_row false false d ts c h = h

told_dialogue : (d : Dialogue) (n : Connection) (ts : List Turn) (c : Change) → IsTold d ts
    → IsTold (dialogue_on d (Some n) c) (dialogue_turns d n c ts)
told_dialogue d n ts c h = told_row (is_some (receiver_of (Some n) c)) (changes_phase c) d ts c h

-- ---- a row

-- In a connection of the two the exchange is what its messages say; else it tells what was agreed before.
abbrev Agrees : Bool → Dialogue → Agreement → List Turn → Type 0
Agrees true d a ts = IsTold d ts
Agrees false d a ts = told_agreement ts ≡ a

abbrev AgreesIn : Option Connection → ℕ → ℕ → Dialogue → Agreement → List Turn → Type 0
AgreesIn None i t d a ts = told_agreement ts ≡ a
AgreesIn (Some n) i t d a ts = Agrees (is_of_pair n i t) d a ts

abbrev agreed_on : Change → Option Connection → Dialogue → ℕ → ℕ → Agreement → Agreement
agreed_on c before d i t was =
    if c.after.rst then asynchronous else closed_agreement_by before c.after.bsy d.heard.now i t was

reset : (q : Bool) (ts : List Turn) (a : Agreement) → told_agreement ts ≡ a
    → told_agreement (resets_if q ts) ≡ (if q then asynchronous else a)
reset true ts a h = refl
reset false ts a h = h

reset_twice : (q r : Bool) (ts : List Turn) (a : Agreement) → told_agreement ts ≡ a
    → told_agreement (resets_if (q || r) ts) ≡ (if q then asynchronous else if r then asynchronous else a)
reset_twice true r ts a h = refl
reset_twice false true ts a h = refl
reset_twice false false ts a h = h

swapped : (n : Connection) (i t : ℕ) → (i == n.initiator && t == n.target) ≡ is_of_pair n i t
swapped n i t = grind (arith, nat_tests)

first_is : (n : Connection) (i t : ℕ) → is_of_pair n i t ≡ true → n.initiator ≡ i
first_is n i t e = grind (arith, nat_tests)

second_is : (n : Connection) (i t : ℕ) → is_of_pair n i t ≡ true → n.target ≡ t
second_is n i t e = grind (arith, nat_tests)

begins : (q : Bool) (n : Connection) (i t : ℕ) (f : ℕ → ℕ → Agreement) (rst : Bool) (ts : List Turn)
    → is_of_pair n i t ≡ q → told_agreement ts ≡ f i t
    → Agrees q (opened (f n.initiator n.target)) (if rst then asynchronous else f i t)
    (if q then connects ∷ ts else resets_if rst ts)
begins true n i t f rst ts e h =
    let same : f n.initiator n.target ≡ told_agreement ts = ap (λ (x : ℕ). f x n.target) (first_is n i t e)
    ∙ ap (λ (x : ℕ). f i x) (second_is n i t e) ∙ sym h in
    record {
      heard = ap (λ (a : Agreement). (opened a).heard) same;
      at_phase = ap (λ (a : Agreement). (opened a).at_phase) same;
    }
begins false n i t f rst ts e h = reset rst ts (f i t) h

goes_on : (q : Bool) (n : Connection) (d : Dialogue) (c : Change) (i t : ℕ) (a : Agreement) (ts : List Turn)
    → Agrees q d a ts → Agrees q (dialogue_on d (Some n) c) (if c.after.rst then asynchronous else a)
    (if q then dialogue_turns d n c ts else resets_if c.after.rst ts)
goes_on true n d c i t a ts h = told_dialogue d n ts c h
goes_on false n d c i t a ts h = reset c.after.rst ts a h

closes : (q : Bool) (n : Connection) (d : Dialogue) (c : Change) (i t : ℕ) (a : Agreement) (ts : List Turn)
    → Agrees q d a ts → told_agreement (if q then resets_if c.after.rst ts else resets_if (ends_all None d n c t) ts)
    ≡ (if c.after.rst then asynchronous
    else if q then d.heard.now.agreement else if t == n.target && d.heard.now.device_reset then asynchronous else a)
closes true n d c i t a ts h =
    reset c.after.rst ts d.heard.now.agreement (sym (ap (λ (x : Heard). x.now.agreement) h.heard))
closes false n d c i t a ts h = reset_twice c.after.rst (t == n.target && d.heard.now.device_reset) ts a h

ended : (n : Connection) (d : Dialogue) (c : Change) (i t : ℕ) (a : Agreement) (ts : List Turn)
    → Agrees (is_of_pair n i t) d a ts → told_agreement (row_turns (Some n) None d c i t ts)
    ≡ (if c.after.rst then asynchronous else closed_agreement n d.heard.now i t a)
ended n d c i t a ts h = closes (is_of_pair n i t) n d c i t a ts h
    ∙ ap (λ (q : Bool). if c.after.rst then asynchronous else if q then d.heard.now.agreement
    else if t == n.target && d.heard.now.device_reset then asynchronous else a) (sym (swapped n i t))

stands : (bsy : Bool) (n : Connection) (d : Dialogue) (f : ℕ → ℕ → Agreement) (c : Change) (i t : ℕ) (ts : List Turn)
    → Agrees (is_of_pair n i t) d (f i t) ts
    → AgreesIn (if bsy then Some n else None) i t (dialogue_after d (Some n) (if bsy then Some n else None) f c)
    (if c.after.rst then asynchronous else closed_agreement_by (Some n) bsy d.heard.now i t (f i t))
    (row_turns (Some n) (if bsy then Some n else None) d c i t ts)
stands true n d f c i t ts h = goes_on (is_of_pair n i t) n d c i t (f i t) ts h
stands false n d f c i t ts h = ended n d c i t (f i t) ts h

one_more :
    (before after : Option Connection) (d : Dialogue) (f : ℕ → ℕ → Agreement) (c : Change) (i t : ℕ) (ts : List Turn)
    → ((n : Connection) → before ≡ Some n → after ≡ (if c.after.bsy then Some n else None))
    → AgreesIn before i t d (f i t) ts
    → AgreesIn after i t (dialogue_after d before after f c) (agreed_on c before d i t (f i t))
    (row_turns before after d c i t ts)
one_more None None d f c i t ts link h = reset c.after.rst ts (f i t) h
one_more None (Some n) d f c i t ts link h = begins (is_of_pair n i t) n i t f c.after.rst ts refl h
one_more (Some n) after d f c i t ts link h = subst (λ (a : Option Connection). AgreesIn a i t
    (dialogue_after d (Some n) a f c) (agreed_on c (Some n) d i t (f i t)) (row_turns (Some n) a d c i t ts))
    (sym (link n refl)) (stands c.after.bsy n d f c i t ts h)

agrees : (rows : List Row) (i t : ℕ) → AgreesIn (connection rows) i t (dialogue rows) (agreed rows i t) (turns rows i t)
agrees [] i t = refl
agrees (row ∷ rows) i t = one_more (connection rows) (connection (row ∷ rows))
    (dialogue rows) (agreed rows) (change_of rows row) i t (turns rows i t)
    (λ n e. ap (λ (b : Option Connection). connection_after b (call rows) (change_of rows row) row) e) (agrees rows i t)

-- ---- the law

given_by : (n : Option Connection) (d : Dialogue) (rows : List Row) (i t : ℕ) (ts : List Turn) → d ≡ dialogue rows
    → AgreesIn n i t d (agreed rows i t) ts → current_agreement_in n rows i t ≡ told_agreement ts
given_by None d rows i t ts e h = sym h
given_by (Some n) d rows i t ts e h = go (is_of_pair n i t) h
  where
    go : (q : Bool) → Agrees q d (agreed rows i t) ts
        → (if q then (dialogue rows).heard.now.agreement else agreed rows i t) ≡ told_agreement ts
    go true k = sym (ap (λ (x : Dialogue). x.heard.now.agreement) e) ∙ ap (λ (x : Heard). x.now.agreement) k.heard
    go false k = sym k

pub given_is_told : (rows : List Row) (i t : ℕ) → current_agreement rows i t ≡ told_agreement (turns rows i t)
given_is_told rows i t = given_by (connection rows) (dialogue rows) rows i t (turns rows i t) refl (agrees rows i t)

pub holds_given : (renews : Bool) (end : End) (own : Agreement) (rows : List Row) (i t : ℕ)
    → same_agreement (side renews end own (turns rows i t)).nego.agreed (current_agreement rows i t) ≡ true
holds_given renews end own rows i t = subst
    (λ (a : Agreement). same_agreement (side renews end own (turns rows i t)).nego.agreed a ≡ true)
    (sym (given_is_told rows i t)) (holds_what_is_told renews end own (turns rows i t))
