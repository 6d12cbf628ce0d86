-- That the initiator knows the process after a reselection, or its names are said, goes on with each row (6.1.4, 6.6.7,
-- 6.6.13).
use Rattle.story_laws.proofs
use proofs.Names.{ℕ, ◌≡◌, Bool, true, false, not, ◌&&◌, ◌∙◌, Option, Some, None, refl, sym, subst, if◌then◌else◌, wrong}
use proofs.Names.{LineSet, Connection, Handshakes, MsgIn, MsgOut, ScenarioValue, Process, CarriedBytes, is_complete}
use proofs.Names.{Sent, Link, last_in, last_out, Exchange, struck_plan, is_name, SamePhase, in_io, in_same, out_same}
use proofs.Names.{struck, OnMessage, IsNoName, IsFoundBy, Names, IsNaming, NamedBy, known, said, refused}
use proofs.Named.Story.{after_name, after_byte}

-- ---- what is kept is known otherwise

pub named_as : (s : ScenarioValue) (n : Connection) (b b' : Sent)
    (o o' : Option Link) (x x' : Exchange) (h h' : Handshakes) (v v' : LineSet)
    → b ≡ b' → o ≡ o' → x ≡ x' → h ≡ h' → v ≡ v' → NamedBy s n b' o' x' h' v' → NamedBy s n b o x h v
named_as s n b b' o o' x x' h h' v v' eb eo ex eh ev e =
    subst (λ (z : Sent). NamedBy s n z o x h v) (sym eb) (subst (λ (z : Option Link). NamedBy s n b' z x h v) (sym eo)
    (subst (λ (z : Exchange). NamedBy s n b' o' z h v) (sym ex) (subst (λ (z : Handshakes). NamedBy s n b' o' x' z v)
    (sym eh) (subst (λ (z : LineSet). NamedBy s n b' o' x' h' z) (sym ev) e))))

pub naming_as : (s : ScenarioValue) (n : Connection) (b b' : Sent) (o' : Option Link)
    (c : Process) (l l' : Link) (x x' : Exchange) (o : Option Link)
    → b' ≡ b → o' ≡ Some l' → l'.initiator ≡ l.initiator → l'.target ≡ l.target → is_complete l'.last ≡ false
    → is_complete l'.before ≡ false → x'.begun ≡ true → x'.plan.next ≡ x.plan.next → IsNaming s n b o c l x
    → IsNaming s n b' o' c l' x'
naming_as s n b b' o' c l l' x x' o eb eo ei et last before begun next e = record {
  link_is = eo;
  initiator_is = ei ∙ e.initiator_is;
  target_is = et ∙ e.target_is;
  begun_is = begun;
  next_is = next ∙ e.next_is;
  last = last;
  before = before;
  found = subst (λ (z : Sent). IsFoundBy s n z c) (sym eb) e.found;
}

-- ---- no byte crosses

-- The link stays, and what is sent as long as no command ends.
pub named_still : (s : ScenarioValue) (n : Connection) (b b' : Sent)
    (o o' : Option Link) (x : Exchange) (h h' : Handshakes) (v v' : LineSet)
    → SamePhase v v' → o' ≡ o → ((l : Link) → o ≡ Some l → is_complete l.last ≡ false → b' ≡ b)
    → (v.io ≡ true → h'.requests ≡ h.requests) → NamedBy s n b o x h v → NamedBy s n b' o' x h' v'
named_still s n b b' o o' x h h' v v' same eo eb count (known l e i q) = known l (eo ∙ e) i q
named_still s n b b' o o' x h h' v v' same eo eb count (said p l k m names heard) =
    let c = count (in_io v m) in
    said p l (naming_as s n b b' o' p l l x x o (eb l k.link_is k.last)
    (eo ∙ k.link_is) refl refl k.last k.before k.begun_is refl k) (in_same v v' same ∙ m)
    (subst (λ (z : ℕ). Names p l x.plan.messages z) (sym c) names) (λ z. heard (sym c ∙ z))
named_still s n b b' o o' x h h' v v' same eo eb count (refused p l k m c names) =
    refused p l (naming_as s n b b' o' p l l x x o (eb l k.link_is k.last)
    (eo ∙ k.link_is) refl refl k.last k.before k.begun_is refl k) (out_same v v' same ∙ m) c names

pub named_struck : (s : ScenarioValue) (n : Connection) (b : Sent) (o : Option Link) (x : Exchange)
    (h : Handshakes) (v : LineSet) (io : Bool) → NamedBy s n b o x h v → NamedBy s n b o
    (record { begun = x.begun; speech = x.speech; plan = if true && not io then struck_plan x.plan else x.plan }) h v
named_struck s n b o x h v true f = f
named_struck s n b o x h v false (known l e i q) = known l e i q
named_struck s n b o x h v false (said p l f m names heard) = said p l
    (naming_as s n b b o p l l x (struck x) o refl f.link_is refl refl f.last f.before f.begun_is refl f) m names heard
named_struck s n b o x h v false (refused p l f m c names) = refused p l
    (naming_as s n b b o p l l x (struck x) o refl f.link_is refl refl f.last f.before f.begun_is refl f) m c names

-- ---- a byte crosses

nameless_item : (s : ScenarioValue) (b : Sent) (l : Link) (undo : Option CarriedBytes) (m : MsgIn) → is_name m ≡ false
    → (after_name s b l undo (Some m)).item ≡ l.item
nameless_item s b l undo (MsgIn.Identify lun) e = wrong e
nameless_item s b l undo (MsgIn.SimpleTag tag) e = wrong e
nameless_item s b l undo _ e = refl

pub byte_item :
    (s : ScenarioValue) (b : Sent) (l : Link) (undo : Option CarriedBytes) (o : Option MsgOut) (m : Option MsgIn)
    → OnMessage IsNoName m → (after_byte s b l undo o m).item ≡ l.item
byte_item s b l undo (Some o) m h = refl
byte_item s b l undo None None h = refl
byte_item s b l undo None (Some m) h = nameless_item s b l undo m h

-- A name is said.
pub name_ends : (s : ScenarioValue) (b : Sent) (l : Link) (undo : Option CarriedBytes) (m : Option MsgIn)
    → ((after_name s b l undo m).initiator ≡ l.initiator) × ((after_name s b l undo m).target ≡ l.target)
name_ends s b l undo None = (refl, refl)
name_ends s b l undo (Some MsgIn.CommandComplete) = (refl, refl)
name_ends s b l undo (Some MsgIn.SavePointer) = (refl, refl)
name_ends s b l undo (Some MsgIn.RestorePointers) = (refl, refl)
name_ends s b l undo (Some MsgIn.Disconnect) = (refl, refl)
name_ends s b l undo (Some (MsgIn.Identify lun)) = (refl, refl)
name_ends s b l undo (Some (MsgIn.SimpleTag tag)) = (refl, refl)
name_ends s b l undo (Some (MsgIn.Sdtr offer)) = (refl, refl)
name_ends s b l undo (Some MsgIn.Reject) = (refl, refl)

abbrev pub IsNoEnd : MsgIn → Type 0
IsNoEnd m = is_complete (last_in m) ≡ false

pub name_last : (s : ScenarioValue) (b : Sent) (l : Link) (undo : Option CarriedBytes) (m : Option MsgIn)
    → OnMessage IsNoEnd m → is_complete l.last ≡ false → is_complete l.before ≡ false
    → (is_complete (after_name s b l undo m).last ≡ false) × (is_complete (after_name s b l undo m).before ≡ false)
name_last s b l undo None h e f = (e, f)
name_last s b l undo (Some m) h e f = (h, e)

pub out_last : (m : MsgOut) (l : Link) → is_complete l.before ≡ false → is_complete (last_out m l) ≡ false
out_last MsgOut.ParityError l e = e
out_last _ l e = refl
