-- What a target makes of whole messages, and of the opening.
use Rattle.book_laws.proofs
use proofs.Names.{ℕ, ◌≡◌, ◌<◌, zero, suc, Bool, true, false, not, ◌&&◌, ◌∙◌, [], ◌++◌, Option, Some, None, refl, ap}
use proofs.Names.{arith, if◌then◌else◌, nat_lt, is_none, eq_self, AbortKind, form_out, out_bytes, FitsOut, MsgOut}
use proofs.Names.{AbortDef, HostDef, Tag, Process, nothing_heard, said_with, process_opening, abort_opening}
use proofs.Names.{abort_bytes, tag_bytes, offer_if, Said, is_process_named, is_abort_named, is_kind, is_unit, same_tag}
use proofs.{Names.{Understanding, nothing_understood, understood}, Common.Lists.{understood_append}}

abbrev after : Said → Understanding
after said = record { said = said; half = [] }

identified : (disc : Bool) (lun : ℕ) (said : Said) → lun < 8
    → understood (after said) (out_bytes (MsgOut.Identify disc lun)) ≡ after (said_with (MsgOut.Identify disc lun) said)
unfolding form_out
identified true zero said lt = refl
identified disc (suc (suc (suc (suc (suc (suc (suc (suc n)))))))) said lt = absurd omega (arith, lt)
identified _ _ said lt = refl

-- A message that was heard whole.
pub hears_message : (m : MsgOut) (said : Said) → FitsOut m
    → understood (after said) (out_bytes m) ≡ after (said_with m said)
unfolding form_out
hears_message (MsgOut.Identify disc lun) said fits = identified disc lun said fits
hears_message _ said fits = refl

-- ---- the opening

hears_tag : (tag : Tag) (said : Said) → said.tag ≡ Tag.Untagged
    → (h : Said) × (understood (after said) (tag_bytes tag) ≡ after h) × (h.unit ≡ said.unit)
    × (same_tag h.tag tag ≡ true) × (h.aborts ≡ said.aborts)
unfolding form_out
hears_tag Tag.Untagged said e = (said, refl, refl, ap (λ (x : Tag). same_tag x Tag.Untagged) e, refl)
hears_tag (Tag.Simple n) said e = (said_with (MsgOut.SimpleTag n) said, refl, refl, eq_self n, refl)
hears_tag (Tag.Ordered n) said e = (said_with (MsgOut.OrderedTag n) said, refl, refl, eq_self n, refl)
hears_tag (Tag.Head n) said e = (said_with (MsgOut.HeadTag n) said, refl, refl, eq_self n, refl)

hears_offer : (negotiates : Bool) (h : Option HostDef) (said : Said)
    → (x : Said) × (understood (after said) (offer_if negotiates h) ≡ after x) × (x.unit ≡ said.unit)
    × (x.tag ≡ said.tag) × (x.aborts ≡ said.aborts)
unfolding form_out
hears_offer false h said = (said, refl, refl, refl, refl)
hears_offer true None said = (said, refl, refl, refl, refl)
hears_offer true (Some h) said = go (h.offers && nat_lt 0 h.period)
  where
    go : (q : Bool) → (x : Said) × (understood (after said)
        (if q then out_bytes (MsgOut.Sdtr (record { period = h.period; offset = h.offset })) else []) ≡ after x)
        × (x.unit ≡ said.unit) × (x.tag ≡ said.tag) × (x.aborts ≡ said.aborts)
    go true = (said_with (MsgOut.Sdtr (record { period = h.period; offset = h.offset })) said, refl, refl, refl, refl)
    go false = (said, refl, refl, refl, refl)

-- The opening of a process names its unit and its tag, and aborts nothing.
pub opening_heard : (h : Option HostDef) (negotiates : Bool) (c : Process) → c.unit < 8
    → (x : Said) × (understood nothing_understood (process_opening h negotiates (Some c)) ≡ after x)
    × (is_process_named x (Some c) ≡ true)
opening_heard h negotiates c lt =
    let m : MsgOut = MsgOut.Identify (not c.id.sense) c.unit in
    let one : Said = said_with m nothing_heard in
    let two = hears_tag c.tag one refl in
    let three = hears_offer negotiates h two.0 in (
      three.0,
      understood_append nothing_understood (out_bytes m) (tag_bytes c.tag ++ offer_if negotiates h)
          ∙ ap (λ (x : Understanding). understood x (tag_bytes c.tag ++ offer_if negotiates h))
          (hears_message m nothing_heard lt) ∙ understood_append (after one) (tag_bytes c.tag) (offer_if negotiates h)
          ∙ ap (λ (x : Understanding). understood x (offer_if negotiates h)) two.1 ∙ three.1,
      (λ i. is_none ((three.4 ∙ two.4) i) && is_unit ((three.2 ∙ two.2) i) c.unit && same_tag (three.3 i) c.tag)
          ∙ (λ i. eq_self c.unit i && two.3 i),
    )

-- The opening of an abort names its unit, and what it aborts.
abort_said : (what : AbortKind) (said : Said)
    → (x : Said) × (understood (after said) (abort_bytes what) ≡ after x) × (x.unit ≡ said.unit)
    × (is_kind x.aborts what ≡ true)
unfolding form_out
abort_said AbortKind.All said = (said_with MsgOut.Abort said, refl, refl, refl)
abort_said (AbortKind.Tag n) said =
    (said_with MsgOut.AbortTag (said_with (MsgOut.SimpleTag n) said), refl, refl, eq_self n)
abort_said AbortKind.WholeQueue said = (said_with MsgOut.ClearQueue said, refl, refl, refl)
abort_said AbortKind.Device said = (said_with MsgOut.DeviceReset said, refl, refl, refl)

pub abort_heard : (a : AbortDef) → a.unit < 8
    → (x : Said) × (understood nothing_understood (abort_opening (Some a)) ≡ after x)
    × (is_abort_named x (Some a) ≡ true)
abort_heard a lt =
    let m : MsgOut = MsgOut.Identify false a.unit in
    let one : Said = said_with m nothing_heard in
    let two = abort_said a.what one in (
      two.0,
      understood_append nothing_understood (out_bytes m) (abort_bytes a.what)
          ∙ ap (λ (x : Understanding). understood x (abort_bytes a.what)) (hears_message m nothing_heard lt)
          ∙ two.1,
      (λ i. is_unit (two.2 i) a.unit && is_kind two.0.aborts a.what) ∙ (λ i. eq_self a.unit i && two.3 i),
    )
