-- The account of a process goes on as what it has carried does: with each part, and with each byte.
use Rattle.transcript_laws.proofs
use proofs.Names.{ℕ, zero, suc, ◌≡◌, ◌∙◌, Bool, true, false, not, ◌&&◌, ◌==◌, ◌+◌, List, [], ◌∷◌, ◌++◌, Some, refl, sym}
use proofs.Names.{ap, arith, length, eqb-true, nat_tests, slice_set, nat_lt, if◌then◌else◌, wrong, wrong', and_false}
use proofs.Names.{nothing_below, next_some, MsgIn, MsgOut, is_nil, CarriedBytes, bytes_with, area_with}
use proofs.Names.{with_restored_pointers, carried_after_message, marked_refused, marked_shown, AccountValue, with_item}
use proofs.Names.{with_block, with_cdb, is_whole, arrived, restored, account_after, Part, Process, first_byte}
use proofs.Names.{IsAccountOf}
use Rattle.bus_transcript.specs.declared.item.Item.{Item}

-- ---- what changes nothing of it

-- The same but for its items, the data pointers and the process's name.
pub record IsSame (a b : AccountValue) : Type 0 where
  pub block : b.block ≡ a.block
  pub struck : b.struck ≡ a.struck
  pub first : b.status_first ≡ a.status_first
  pub status : b.process.status ≡ a.process.status
  pub shown : b.process.shown ≡ a.process.shown

pub same_account : (a b : AccountValue) (c : CarriedBytes) → IsSame a b → IsAccountOf a c → IsAccountOf b c
same_account a b c h g = record {
  block = h.block ∙ g.block;
  struck = h.struck ∙ g.struck;
  first = h.first ∙ g.first;
  saved = g.saved;
  status = h.status ∙ g.status;
  begun = g.begun;
  shown = λ e. h.shown ∙ g.shown e;
}

self_same : (a b : AccountValue) → b ≡ a → IsSame a b
self_same a b e = record {
  block = ap (λ (x : AccountValue). x.block) e;
  struck = ap (λ (x : AccountValue). x.struck) e;
  first = ap (λ (x : AccountValue). x.status_first) e;
  status = ap (λ (x : AccountValue). x.process.status) e;
  shown = ap (λ (x : AccountValue). x.process.shown) e;
}

same_if : (q : Bool) (a b c : AccountValue) → IsSame a b → IsSame a c → IsSame a (if q then b else c)
same_if true a b c x y = x
same_if false a b c x y = y

item_same : (a : AccountValue) (item : Item) → IsSame a (with_item a item)
item_same a item = record { block = refl; struck = refl; first = refl; status = refl; shown = refl }

-- ---- messages

pub out_step : (a : AccountValue) (m : MsgOut) → IsSame a (account_after a (Part.Out m))
out_step a m = item_same a (Item.Out m)

pub broken_step : (a : AccountValue) → IsSame a (account_after a Part.BrokenOff)
broken_step a = self_same a a refl

zero_is : (m : ℕ) → m ≡ 0 → (m == 0) ≡ true
zero_is m e = λ i. e i == 0

restored_step : (a : AccountValue) (c : CarriedBytes) → IsAccountOf a c
    → IsAccountOf (restored a) (with_restored_pointers c)
restored_step a c h = record {
  block = refl;
  struck = refl;
  first = sym (zero_is c.status.saved h.saved);
  saved = h.saved;
  status = h.status;
  begun = ap (λ (q : Bool). is_nil c.status.bytes && not q) (zero_is c.status.saved h.saved)
      ∙ and_false (is_nil c.status.bytes);
  shown = h.shown;
}

in_item : (a : AccountValue) (m : MsgIn) (c : CarriedBytes) → IsAccountOf a c → IsAccountOf (with_item a (Item.In m)) c
in_item a m c h = same_account a (with_item a (Item.In m)) c (item_same a (Item.In m)) h

pub in_step : (a : AccountValue) (m : MsgIn) (c : CarriedBytes) → IsAccountOf a c
    → IsAccountOf (account_after a (Part.In m)) (carried_after_message c m)
in_step a MsgIn.CommandComplete c h = in_item a MsgIn.CommandComplete c h
in_step a MsgIn.SavePointer c h = record {
  block = h.block;
  struck = h.struck;
  first = h.first;
  saved = h.saved;
  status = h.status;
  begun = h.begun;
  shown = h.shown;
}
in_step a MsgIn.RestorePointers c h =
    let g = restored_step (with_item a (Item.In MsgIn.RestorePointers)) c (in_item a MsgIn.RestorePointers c h) in
    record {
      block = g.block;
      struck = g.struck;
      first = g.first;
      saved = g.saved;
      status = g.status;
      begun = g.begun;
      shown = g.shown;
    }
in_step a MsgIn.Disconnect c h = in_item a MsgIn.Disconnect c h
in_step a (MsgIn.Identify lun) c h = in_item a (MsgIn.Identify lun) c h
in_step a (MsgIn.SimpleTag tag) c h = in_item a (MsgIn.SimpleTag tag) c h
in_step a (MsgIn.Sdtr offer) c h = in_item a (MsgIn.Sdtr offer) c h
in_step a MsgIn.Reject c h = in_item a MsgIn.Reject c h

-- ---- COMMAND and data

cdb_same : (a : AccountValue) (bytes : List ℕ) → IsSame a (with_cdb a bytes)
cdb_same a [] = self_same a a refl
cdb_same a (b ∷ bytes) = item_same a (Item.Cdb (b ∷ bytes))

pub same_on : (a b c : AccountValue) → IsSame a b → IsSame b c → IsSame a c
same_on a b c x y = record {
  block = y.block ∙ x.block;
  struck = y.struck ∙ x.struck;
  first = y.first ∙ x.first;
  status = y.status ∙ x.status;
  shown = y.shown ∙ x.shown;
}

pub command_step : (a : AccountValue) (bytes : List ℕ) (struck left : Bool)
    → IsSame (with_block a bytes struck) (account_after a (Part.Command bytes struck left))
command_step a bytes struck left =
    let c : AccountValue = with_cdb (with_block a bytes struck) bytes in
    same_on (with_block a bytes struck) c (arrived c left) (cdb_same (with_block a bytes struck) bytes)
    (same_if (left && is_whole c.block c.struck) c (with_item c (Item.Arrive c.process.name)) c
    (item_same c (Item.Arrive c.process.name)) (self_same c c refl))

pub data_step : (a : AccountValue) (out : Bool) (bytes : List ℕ) → IsSame a (account_after a (Part.Data out bytes))
data_step a out bytes = record { block = refl; struck = refl; first = refl; status = refl; shown = refl }

pub completion_step : (a : AccountValue) → IsSame a (account_after a Part.Completion)
completion_step a = item_same a (Item.End a.process.name a.process.status)

-- ---- STATUS

record StaysBut (a b : AccountValue) : Type 0 where
  block : b.block ≡ a.block
  struck : b.struck ≡ a.struck
  first : b.status_first ≡ a.status_first
  status : b.process.status ≡ a.process.status

abbrev shown_by : AccountValue → Bool → AccountValue
shown_by a q =
    if q then a else record (with_item a (Item.Ready a.process.name)) { process = record a.process { shown = true } }

shows : (a : AccountValue) (q : Bool) → a.process.shown ≡ q → (shown_by a q).process.shown ≡ true
shows a true e = e
shows a false e = refl

stays : (a : AccountValue) (q : Bool) → StaysBut a (shown_by a q)
stays a true = record { block = refl; struck = refl; first = refl; status = refl }
stays a false = record { block = refl; struck = refl; first = refl; status = refl }

-- Its first STATUS phase has come.
pub shown_step : (a : AccountValue) (c : CarriedBytes) → IsAccountOf a c
    → IsAccountOf (account_after a Part.StatusPhase) (marked_shown c)
shown_step a c h =
    let g = stays a a.process.shown in
    record {
      block = g.block ∙ h.block;
      struck = g.struck ∙ h.struck;
      first = g.first ∙ h.first;
      saved = h.saved;
      status = g.status ∙ h.status;
      begun = h.begun;
      shown = λ e. shows a a.process.shown refl;
    }

-- Or it was refused, or it has come before.
pub told_step : (a : AccountValue) (c : CarriedBytes) → (c.refused ≡ false → c.shown ≡ true) → IsAccountOf a c
    → IsAccountOf (account_after a Part.StatusPhase) c
told_step a c e h =
    let g = stays a a.process.shown in
    record {
      block = g.block ∙ h.block;
      struck = g.struck ∙ h.struck;
      first = g.first ∙ h.first;
      saved = h.saved;
      status = g.status ∙ h.status;
      begun = h.begun;
      shown = λ r. shows a a.process.shown refl ∙ sym (e r);
    }

pub refused_step : (a : AccountValue) (c : CarriedBytes) → IsAccountOf a c → IsAccountOf a (marked_refused c)
refused_step a c h = record {
  block = h.block;
  struck = h.struck;
  first = h.first;
  saved = h.saved;
  status = h.status;
  begun = h.begun;
  shown = λ e. wrong e;
}

-- ---- a byte of STATUS

new_bytes : (m byte : ℕ) → bytes_with [] m byte ≡ byte ∷ []
new_bytes m byte = ap (λ (q : Bool). if q then slice_set [] m byte else byte ∷ []) (nothing_below m)

set_first : (x byte : ℕ) (xs : List ℕ) → first_byte (bytes_with (x ∷ xs) 0 byte) ≡ Some byte
set_first x byte xs = here (nat_lt 0 (length (x ∷ xs))) (grind (arith, nat_tests))
  where
    here : (q : Bool) → q ≡ true
        → first_byte (if q then slice_set (x ∷ xs) 0 byte else (x ∷ xs) ++ byte ∷ []) ≡ Some byte
    here true f = refl
    here false f = wrong' f

set_other : (x byte : ℕ) (xs : List ℕ) (m : ℕ) → (m == 0) ≡ false → first_byte (bytes_with (x ∷ xs) m byte) ≡ Some x
set_other x byte xs zero e = wrong e
set_other x byte xs (suc m) e = here (nat_lt (suc m) (length (x ∷ xs)))
  where
    here : (q : Bool) → first_byte (if q then slice_set (x ∷ xs) (suc m) byte else (x ∷ xs) ++ byte ∷ []) ≡ Some x
    here true = refl
    here false = refl

filled : (x byte : ℕ) (xs : List ℕ) (m : ℕ) → is_nil (bytes_with (x ∷ xs) m byte) ≡ false
filled x byte xs zero = here (nat_lt zero (length (x ∷ xs)))
  where
    here : (q : Bool) → is_nil (if q then slice_set (x ∷ xs) zero byte else (x ∷ xs) ++ byte ∷ []) ≡ false
    here true = refl
    here false = refl
filled x byte xs (suc m) = here (nat_lt (suc m) (length (x ∷ xs)))
  where
    here : (q : Bool) → is_nil (if q then slice_set (x ∷ xs) (suc m) byte else (x ∷ xs) ++ byte ∷ []) ≡ false
    here true = refl
    here false = refl

some_bytes : (bytes : List ℕ) (m byte : ℕ) → is_nil (bytes_with bytes m byte) ≡ false
some_bytes [] m byte = ap is_nil (new_bytes m byte)
some_bytes (x ∷ xs) m byte = filled x byte xs m

status_by : (c : Process) (q : Bool) (active byte : ℕ) (bytes : List ℕ) → q ≡ (active == 0)
    → c.status ≡ first_byte bytes → (is_nil bytes && not (active == 0)) ≡ false
    → (if q then record c { status = Some byte } else c).status ≡ first_byte (bytes_with bytes active byte)
status_by c true active byte [] e z b = ap first_byte (sym (new_bytes active byte))
status_by c true active byte (x ∷ xs) e z b =
    sym (ap (λ (m : ℕ). first_byte (bytes_with (x ∷ xs) m byte)) (eqb-true active 0 (sym e)) ∙ set_first x byte xs)
status_by c false active byte [] e z b = wrong (ap (λ (r : Bool). not r) e ∙ b)
status_by c false active byte (x ∷ xs) e z b = z ∙ sym (set_other x byte xs active (sym e))

shown_stays : (c : Process) (q : Bool) (byte : ℕ) → (if q then record c { status = Some byte } else c).shown ≡ c.shown
shown_stays c true byte = refl
shown_stays c false byte = refl

-- It is the first where the status pointer is 0.
pub status_step : (a : AccountValue) (c : CarriedBytes) (byte : ℕ) → IsAccountOf a c
    → IsAccountOf (account_after a (Part.Status byte)) (record c { status = area_with c.status byte })
status_step a c byte h = record {
  block = h.block;
  struck = h.struck;
  first = sym (next_some c.status.active);
  saved = h.saved;
  status = status_by a.process a.status_first c.status.active byte c.status.bytes h.first h.status h.begun;
  begun = ap (λ (q : Bool). q && not (c.status.active + 1 == 0)) (some_bytes c.status.bytes c.status.active byte);
  shown = λ e. shown_stays a.process a.status_first byte ∙ h.shown e;
}
