-- A row changes what the process of the link carries, and nothing of another.
use Rattle.transcript_laws.proofs
use proofs.Names.{ℕ, ◌≡◌, ◌∙◌, Bool, true, false, List, [], ◌∷◌, ◌++◌, Option, Some, None, refl, sym, ap, subst, ◌%◌}
use proofs.Names.{if◌then◌else◌, wrong', Event, ProcId, LineSet, is_command, is_data, Change, PARITY_ERROR}
use proofs.Names.{INITIATOR_DETECTED_ERROR, MsgIn, id_turned, same_id, carried_id, RowReading, CarriedBytes, area_with}
use proofs.Names.{carried_of, with_carried, with_restored_pointers, carried_after_message, carried_after_byte}
use proofs.Names.{carried_after_fault, is_status_phase, carried_if, Item, process, abort, Story, story_with_carried}
use proofs.Names.{story_with_restored, carried_after_message_if, carried_after_byte_if, carried_after_fault_if}
use proofs.Names.{with_command_byte, put_own, put_other, IsBlank, AreAlike, has_refusal, has_answer, IsMarked}
use proofs.Standing.Open.{alike_self, alike_put, put_each}

-- ---- one process

abbrev pub changed : (CarriedBytes → CarriedBytes) → List CarriedBytes → Option Item → List CarriedBytes
changed f all None = all
changed f all (Some (process id)) = with_carried all (f (carried_of all id))
changed f all (Some (abort j)) = all

-- It stays the same process.
abbrev pub KeepsId : (CarriedBytes → CarriedBytes) → Type 0
KeepsId f = (c : CarriedBytes) → (f c).id ≡ c.id

pub changed_own : (f : CarriedBytes → CarriedBytes) (all : List CarriedBytes) (o : Option Item) (id : ProcId)
    → KeepsId f → o ≡ Some (process id) → carried_of (changed f all o) id ≡ f (carried_of all id)
changed_own f all o id same e = ap (λ (x : Option Item). carried_of (changed f all x) id) e
    ∙ put_own all (f (carried_of all id)) id (same (carried_of all id) ∙ carried_id all id)

pub changed_other : (f : CarriedBytes → CarriedBytes) (all : List CarriedBytes) (o : Option Item) (id x : ProcId)
    → KeepsId f → o ≡ Some (process id) → same_id x id ≡ false → carried_of (changed f all o) x ≡ carried_of all x
changed_other f all o id x same e but = ap (λ (y : Option Item). carried_of (changed f all y) x) e
    ∙ put_other all (f (carried_of all id)) id x (same (carried_of all id) ∙ carried_id all id) (id_turned x id but)

-- What holds of all still holds.
pub changed_each : (P : CarriedBytes → Type 0) (f : CarriedBytes → CarriedBytes)
    (all : List CarriedBytes) (o : Option Item) (x : ProcId)
    → KeepsId f → ((c : CarriedBytes) → P c → P (f c)) → P (carried_of all x) → P (carried_of (changed f all o) x)
changed_each P f all None x same g h = h
changed_each P f all (Some (abort j)) x same g h = h
changed_each P f all (Some (process id)) x same g h =
    put_each P all (f (carried_of all id)) x (λ p. g (carried_of all id)
    (subst (λ (y : ProcId). P (carried_of all y)) (same (carried_of all id) ∙ carried_id all id) p)) h

pub changed_alike : (f : CarriedBytes → CarriedBytes) (all : List CarriedBytes) (o : Option Item) (x : ProcId)
    → KeepsId f → ((c : CarriedBytes) → AreAlike c (f c)) → AreAlike (carried_of all x) (carried_of (changed f all o) x)
changed_alike f all None x same g = alike_self _ _ refl
changed_alike f all (Some (abort j)) x same g = alike_self _ _ refl
changed_alike f all (Some (process id)) x same g =
    alike_put all (f (carried_of all id)) (subst (λ (y : ProcId). AreAlike (carried_of all y) (f (carried_of all id)))
    (sym (same (carried_of all id) ∙ carried_id all id)) (g (carried_of all id))) x

-- ---- what leaves the marks and the saved status pointer as they are

pub record KeepsMarks (c d : CarriedBytes) : Type 0 where
  pub id : d.id ≡ c.id
  pub refused : d.refused ≡ c.refused
  pub shown : d.shown ≡ c.shown
  pub saved : d.status.saved ≡ c.status.saved

pub marks_kept : (history : List Event) (c d : CarriedBytes) → KeepsMarks c d → IsMarked history c → IsMarked history d
marks_kept history c d h m = record {
  refused = h.refused ∙ m.refused ∙ ap (λ (x : ProcId). has_refusal history x) (sym h.id);
  shown = h.shown ∙ m.shown ∙ ap (λ (x : ProcId). has_answer history x) (sym h.id);
  apart = λ e. h.shown ∙ m.apart (sym h.refused ∙ e);
  saved = h.saved ∙ m.saved;
}

-- ---- a message

abbrev pub after_message : MsgIn → CarriedBytes → CarriedBytes
after_message m c = carried_after_message c m

pub message_marks : (m : MsgIn) (c : CarriedBytes) → KeepsMarks c (after_message m c)
message_marks MsgIn.CommandComplete c = record { id = refl; refused = refl; shown = refl; saved = refl }
message_marks _ c = record { id = refl; refused = refl; shown = refl; saved = refl }

pub message_alike : (m : MsgIn) (c : CarriedBytes) → AreAlike c (after_message m c)
message_alike MsgIn.CommandComplete c = record { status = refl; refused = refl; shown = refl }
message_alike _ c = record { status = refl; refused = refl; shown = refl }

pub message_blank : (m : MsgIn) (c : CarriedBytes) → IsBlank c → IsBlank (after_message m c)
message_blank MsgIn.SavePointer c h = record { block = h.block; struck = h.struck; active = h.active; saved = h.saved }
message_blank MsgIn.RestorePointers c h = record { block = refl; struck = refl; active = h.saved; saved = h.saved }
message_blank _ c h = h

-- The pointers are restored as the target names its process.
pub restored_blank : (c : CarriedBytes) → c.status.saved ≡ 0 → IsBlank (with_restored_pointers c)
restored_blank c e = record { block = refl; struck = refl; active = e; saved = e }

-- ---- a byte, and a fault

abbrev pub after_byte : LineSet → ℕ → CarriedBytes → CarriedBytes
after_byte lines byte c = carried_after_byte c lines byte

-- By its phase.
pub command_byte : (lines : LineSet) (byte : ℕ) (c : CarriedBytes) → is_command lines ≡ true
    → after_byte lines byte c ≡ record c { command = area_with c.command byte; block = c.block ++ byte ∷ [] }
command_byte lines byte c e = λ i. if e i then with_command_byte c byte
    else if is_data lines then record c { moved = area_with c.moved byte }
    else if is_status_phase lines then record c { status = area_with c.status byte } else c

pub data_byte : (lines : LineSet) (byte : ℕ) (c : CarriedBytes) → is_command lines ≡ false → is_data lines ≡ true
    → after_byte lines byte c ≡ record c { moved = area_with c.moved byte }
data_byte lines byte c e f = λ i. if e i then with_command_byte c byte
    else if f i then record c { moved = area_with c.moved byte }
    else if is_status_phase lines then record c { status = area_with c.status byte } else c

pub status_byte : (lines : LineSet) (byte : ℕ) (c : CarriedBytes) → is_command lines ≡ false → is_data lines ≡ false
    → is_status_phase lines ≡ true → after_byte lines byte c ≡ record c { status = area_with c.status byte }
status_byte lines byte c e f g = λ i. if e i then with_command_byte c byte
    else if f i then record c { moved = area_with c.moved byte }
    else if g i then record c { status = area_with c.status byte } else c

pub byte_marks : (lines : LineSet) (byte : ℕ) (c : CarriedBytes) → KeepsMarks c (after_byte lines byte c)
byte_marks lines byte c = go (is_command lines) (is_data lines) (is_status_phase lines)
  where
    go : (q r v : Bool)
        → KeepsMarks c (if q then record c { command = area_with c.command byte; block = c.block ++ byte ∷ [] }
        else if r then record c { moved = area_with c.moved byte }
        else if v then record c { status = area_with c.status byte } else c)
    go true r v = record { id = refl; refused = refl; shown = refl; saved = refl }
    go false true v = record { id = refl; refused = refl; shown = refl; saved = refl }
    go false false true = record { id = refl; refused = refl; shown = refl; saved = refl }
    go false false false = record { id = refl; refused = refl; shown = refl; saved = refl }

-- Outside STATUS.
pub byte_alike : (lines : LineSet) (byte : ℕ) (c : CarriedBytes) → is_status_phase lines ≡ false
    → AreAlike c (after_byte lines byte c)
byte_alike lines byte c e = go (is_command lines) (is_data lines) (is_status_phase lines) e
  where
    go : (q r v : Bool) → v ≡ false
        → AreAlike c (if q then record c { command = area_with c.command byte; block = c.block ++ byte ∷ [] }
        else if r then record c { moved = area_with c.moved byte }
        else if v then record c { status = area_with c.status byte } else c)
    go true r v z = record { status = refl; refused = refl; shown = refl }
    go false true v z = record { status = refl; refused = refl; shown = refl }
    go false false true z = wrong' (sym z)
    go false false false z = record { status = refl; refused = refl; shown = refl }

-- Outside COMMAND and STATUS.
pub byte_blank : (lines : LineSet) (byte : ℕ) (c : CarriedBytes) → is_command lines ≡ false
    → is_status_phase lines ≡ false → IsBlank c → IsBlank (after_byte lines byte c)
byte_blank lines byte c f e h = go (is_command lines) (is_data lines) (is_status_phase lines) f e
  where
    go : (q r v : Bool) → q ≡ false → v ≡ false
        → IsBlank (if q then record c { command = area_with c.command byte; block = c.block ++ byte ∷ [] }
        else if r then record c { moved = area_with c.moved byte }
        else if v then record c { status = area_with c.status byte } else c)
    go true r v y z = wrong' (sym y)
    go false true v y z = record { block = h.block; struck = h.struck; active = h.active; saved = h.saved }
    go false false true y z = wrong' (sym z)
    go false false false y z = h

abbrev pub after_fault : LineSet → CarriedBytes → CarriedBytes
after_fault lines c = carried_after_fault c lines

pub fault_marks : (lines : LineSet) (c : CarriedBytes) → KeepsMarks c (after_fault lines c)
fault_marks lines c = go (is_command lines) (is_data lines)
  where
    go : (q r : Bool) → KeepsMarks c (if q then record c { struck = true; failure = Some PARITY_ERROR }
        else if r then record c { failure = Some (if lines.io then INITIATOR_DETECTED_ERROR else PARITY_ERROR) } else c)
    go true r = record { id = refl; refused = refl; shown = refl; saved = refl }
    go false true = record { id = refl; refused = refl; shown = refl; saved = refl }
    go false false = record { id = refl; refused = refl; shown = refl; saved = refl }

pub fault_alike : (lines : LineSet) (c : CarriedBytes) → AreAlike c (after_fault lines c)
fault_alike lines c = go (is_command lines) (is_data lines)
  where
    go : (q r : Bool) → AreAlike c (if q then record c { struck = true; failure = Some PARITY_ERROR }
        else if r then record c { failure = Some (if lines.io then INITIATOR_DETECTED_ERROR else PARITY_ERROR) } else c)
    go true r = record { status = refl; refused = refl; shown = refl }
    go false true = record { status = refl; refused = refl; shown = refl }
    go false false = record { status = refl; refused = refl; shown = refl }

pub fault_blank : (lines : LineSet) (c : CarriedBytes) → is_command lines ≡ false → IsBlank c
    → IsBlank (after_fault lines c)
fault_blank lines c e h = go (is_command lines) (is_data lines) e
  where
    go : (q r : Bool) → q ≡ false → IsBlank (if q then record c { struck = true; failure = Some PARITY_ERROR }
        else if r then record c { failure = Some (if lines.io then INITIATOR_DETECTED_ERROR else PARITY_ERROR) } else c)
    go true r z = wrong' (sym z)
    go false true z = record { block = h.block; struck = h.struck; active = h.active; saved = h.saved }
    go false false z = h

-- ---- the story

-- It changes what is carried, and nothing else.
pub record ChangesBy (f : CarriedBytes → CarriedBytes) (b c : Story) (o : Option Item) : Type 0 where
  pub carried : c.carried ≡ changed f b.carried o
  pub sent : c.sent ≡ b.sent
  pub link : c.link ≡ b.link

pub by_byte : (b : Story) (d : RowReading) (o : Option Item)
    → ChangesBy (after_byte d.change.before (d.change.after.data_bits % 256)) b
    (story_with_carried b (carried_after_byte_if (carried_if b o) d)) o
by_byte b d None = record { carried = refl; sent = refl; link = refl }
by_byte b d (Some (process id)) = record { carried = refl; sent = refl; link = refl }
by_byte b d (Some (abort j)) = record { carried = refl; sent = refl; link = refl }

pub by_fault : (b : Story) (c : Change) (o : Option Item)
    → ChangesBy (after_fault c.before) b (story_with_carried b (carried_after_fault_if (carried_if b o) (Some c))) o
by_fault b c None = record { carried = refl; sent = refl; link = refl }
by_fault b c (Some (process id)) = record { carried = refl; sent = refl; link = refl }
by_fault b c (Some (abort j)) = record { carried = refl; sent = refl; link = refl }

abbrev pub unchanged : CarriedBytes → CarriedBytes
unchanged c = c

pub by_none : (b : Story) (o : Option Item)
    → ChangesBy unchanged b (story_with_carried b (carried_after_fault_if (carried_if b o) None)) o
by_none b None = record { carried = refl; sent = refl; link = refl }
by_none b (Some (process id)) = record { carried = refl; sent = refl; link = refl }
by_none b (Some (abort j)) = record { carried = refl; sent = refl; link = refl }

pub by_message : (b : Story) (m : MsgIn) (o : Option Item)
    → ChangesBy (after_message m) b (story_with_carried b (carried_after_message_if (carried_if b o) m)) o
by_message b m None = record { carried = refl; sent = refl; link = refl }
by_message b m (Some (process id)) = record { carried = refl; sent = refl; link = refl }
by_message b m (Some (abort j)) = record { carried = refl; sent = refl; link = refl }

pub by_name : (b : Story) (o : Option Item) → ChangesBy with_restored_pointers b (story_with_restored b o) o
by_name b None = record { carried = refl; sent = refl; link = refl }
by_name b (Some (process id)) = record { carried = refl; sent = refl; link = refl }
by_name b (Some (abort j)) = record { carried = refl; sent = refl; link = refl }
