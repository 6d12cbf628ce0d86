-- What the rows tell, one row more.
use Rattle.std.proofs.Common.{ℕ, ◌≡◌, Bool, true, false, List, ◌∷◌, Option, Some, None, refl, sym, ◌∙◌}
use Rattle.std.specs.Prelude.{◌||◌, is_some, is_none, if◌then◌else◌}
use Rattle.std.proofs.lemmas.Bool.{and_parts, not-true}
use Rattle.story_model.specs.bus_trace.specs.declared.Row.{Row}
use Rattle.story_model.specs.bus_trace.specs.declared.agreements.Agreement.{Agreement}
use Rattle.story_model.specs.bus_trace.specs.declared.changes.Change.{Change}
use Rattle.story_model.specs.bus_trace.specs.declared.connection.Connection.{Connection}
use Rattle.story_model.specs.bus_trace.specs.Phases.{changes_phase, is_data}
use Rattle.story_model.specs.bus_trace.specs.Terms.{receiver_of}
use Rattle.reaction_model.specs.bus_lines.specs.declared.effect.RowEffect.{RowEffect}
use Rattle.reaction_model.specs.bus_lines.specs.BusView.{BusViewValue, IsBusViewOf}
use Rattle.reaction_model.specs.bus_lines.specs.Effect.{effect}
use Rattle.reaction_model.specs.bus_lines.specs.Handshakes.{Handshakes, handshakes}
use Rattle.story_model.specs.bus_phases.specs.declared.agreements.Agreements.{Agreements}
use Rattle.story_model.specs.bus_phases.specs.declared.dialogue.Dialogue.{Dialogue}
use Rattle.story_model.specs.bus_phases.specs.declared.spoken.Spoken.{Spoken}
use Rattle.story_model.specs.bus_phases.specs.Dialogue.{asynchronous, byte_crosses, closed_agreement_by, dialogue_after}
use Rattle.story_model.specs.bus_phases.specs.Dialogue.{phase_begins, takes_data, agreed}
use Rattle.story_model.specs.bus_phases.specs.Tables.{AreAgreements}
use Rattle.story_model.specs.bus_phases.proofs.Agreeing.{agreeing}
use Rattle.dialogue_model.specs.declared.exchange.Hearing.{Hearing}
use Rattle.dialogue_model.specs.Hearing.{agreed_after, begun_after, hearing_by, is_within_phase}
use Rattle.dialogue_model.specs.Observer.{ObserverValue, IsObserverOf}

-- ---- a row within a phase

record IsWithinPhase (e : RowEffect) : Type 0 where
  before : is_some e.before ≡ true
  after : is_some e.after ≡ true
  bsy : e.change.after.bsy ≡ true
  rst : e.change.after.rst ≡ false
  phase : changes_phase e.change ≡ false
  byte : (is_none e.receiver || is_data e.change.before) ≡ true

within : (e : RowEffect) → is_within_phase e ≡ true → IsWithinPhase e
within e h =
    let all = and_parts _ _ h in
    let phase = and_parts _ _ all.0 in
    let rst = and_parts _ _ phase.0 in
    let bsy = and_parts _ _ rst.0 in
    let ends = and_parts _ _ bsy.0 in
    record {
      before = ends.0;
      after = ends.1;
      bsy = bsy.1;
      rst = not-true _ rst.1;
      phase = not-true _ phase.1;
      byte = all.1;
    }

-- A byte of DATA says nothing.
data_byte : (d : Dialogue) (c : Change) → is_data c.before ≡ true → byte_crosses d c ≡ takes_data d true
data_byte d c h =
    let both = and_parts _ _ h in
    let msg = not-true _ both.0 in
    let cd = not-true _ both.1 in
    λ i. byte_crosses d (record c { before = record c.before { msg = msg i; cd = cd i } })

no_message : (d : Dialogue) (c : Change) (r : Option ℕ)
    → changes_phase c ≡ false → (is_none r || is_data c.before) ≡ true
    → (if is_some r then byte_crosses d c else if changes_phase c then phase_begins d else d) ≡ takes_data d (is_some r)
no_message d c None ep h = λ i. if ep i then phase_begins d else d
no_message d c (Some x) ep h = data_byte d c h

same_messages : (d : Dialogue) (b a : Option Connection) (f : ℕ → ℕ → Agreement) (c : Change) (r : Option ℕ)
    → is_some b ≡ true → is_some a ≡ true → changes_phase c ≡ false → (is_none r || is_data c.before) ≡ true
    → r ≡ receiver_of b c → takes_data d (is_some r) ≡ dialogue_after d b a f c
same_messages d None a f c r eb ea ep h er = absurd cc
same_messages d (Some m) None f c r eb ea ep h er = absurd cc
same_messages d (Some m) (Some n) f c r eb ea ep h er = sym (no_message d c r ep h)
    ∙ (λ i. if is_some (er i) then byte_crosses d c else if changes_phase c then phase_begins d else d)

pub keeps_messages : (d : Dialogue) (f : ℕ → ℕ → Agreement) (e : RowEffect)
    → is_within_phase e ≡ true → e.receiver ≡ receiver_of e.before e.change
    → takes_data d (is_some e.receiver) ≡ dialogue_after d e.before e.after f e.change
keeps_messages d f e h er =
    let w = within e h in
    same_messages d e.before e.after f e.change e.receiver w.before w.after w.phase w.byte er

stays_agreed : (n : Option Connection) (s : Spoken) (i t : ℕ) (was : Agreement)
    → was ≡ closed_agreement_by n true s i t was
stays_agreed None s i t was = refl
stays_agreed (Some n) s i t was = refl

pub keeps_agreements : (f : ℕ → ℕ → Agreement) (e : RowEffect) (s : Spoken) (a : Agreements) → is_within_phase e ≡ true
    → AreAgreements f a → AreAgreements (agreed_after e s f) a
keeps_agreements f e s a h are =
    let w = within e h in
    agreeing f (agreed_after e s f) a (λ i t. stays_agreed e.before s i t (f i t)
    ∙ (λ j. if sym w.rst j then asynchronous else closed_agreement_by e.before (sym w.bsy j) s i t (f i t))) are

same_begun : (was : Bool) (b a : Option Connection) (c : Change) → is_some b ≡ true → is_some a ≡ true
    → changes_phase c ≡ false → was ≡ begun_after was b a c
same_begun was None a c eb ea ep = absurd cc
same_begun was (Some m) None c eb ea ep = absurd cc
same_begun was (Some m) (Some n) c eb ea ep = λ i. sym ep i || was

pub keeps_begun : (was : Bool) (e : RowEffect) → is_within_phase e ≡ true
    → was ≡ begun_after was e.before e.after e.change
keeps_begun was e h =
    let w = within e h in
    same_begun was e.before e.after e.change w.before w.after w.phase

-- ---- all of it

pub goes_on : (rows : List Row) (row : Row) (o : ObserverValue) (v : BusViewValue)
    (k : Handshakes) (e : RowEffect) (x : Hearing) (w : Bool) (g : Agreements) (d : Dialogue)
    → IsObserverOf rows o → IsBusViewOf (row ∷ rows) v → k ≡ handshakes rows → e ≡ effect (row ∷ rows)
    → x ≡ hearing_by o.dialogue o.begun k.requests k.struck e → w ≡ begun_after o.begun e.before e.after e.change
    → AreAgreements (agreed_after e o.dialogue.heard.now (agreed rows)) g
    → d ≡ dialogue_after o.dialogue e.before e.after (agreed rows) e.change
    → IsObserverOf (row ∷ rows) (record { view = v; agreed = g; dialogue = d; begun = w; hearing = x })
goes_on rows row o v k e x w g d h hv ek ee ex ew hg ed = record {
  view_is = hv;
  agreed_are = agreeing (agreed_after e o.dialogue.heard.now (agreed rows)) (agreed (row ∷ rows)) g
      (λ i t. λ j. agreed_after (ee j) (h.dialogue_is j).heard.now (agreed rows) i t) hg;
  dialogue_is = ed ∙ (λ i. dialogue_after (h.dialogue_is i) (ee i).before (ee i).after (agreed rows) (ee i).change);
  begun_is = ew ∙ (λ i. begun_after (h.begun_is i) (ee i).before (ee i).after (ee i).change);
  hearing_is = ex ∙ (λ i. hearing_by (h.dialogue_is i) (h.begun_is i) (ek i).requests (ek i).struck (ee i));
}
