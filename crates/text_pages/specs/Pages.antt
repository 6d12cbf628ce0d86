-- Putting text: what a sink and the page before it hold.
use Rattle.std.specs.Prelude.{◌≡◌, ℕ, ◌≤◌, List, ◌++◌, take, Bool, true, false, Option, Some, IfSome}
use Rattle.bus_base.specs.Faults.{HasRisen}
use Rattle.text_pages.specs.declared.pages.Page.{Page}

-- Where the text stands that was put so far: the bytes that the sink took, where they are told; how many
-- of its writes have failed; the bytes on the page, which come next; and whether a write of the page failed.
pub record Place : Type 0 where
  pub written : Option (List ℕ)
  pub faults : ℕ
  pub held : List ℕ
  pub failed : Bool

abbrev pub place : Option (List ℕ) → ℕ → Page → Place
place written faults page = record { written = written; faults = faults; held = page.bytes.items; failed = page.failed }

-- A piece was written: whole where no write has failed, and a front of it by the write that failed, which
-- raised the count of faults; after it nothing is written.
abbrev pub IsSent : Bool → Bool → Option (List ℕ) → Option (List ℕ) → ℕ → ℕ → List ℕ → Type 0
IsSent false false old new before after piece = IfSome old (λ xs. new ≡ Some (xs ++ piece))
IsSent false true old new before after piece =
    IfSome old (λ xs. (k : ℕ) × (new ≡ Some (xs ++ take k piece))) × HasRisen before after
IsSent true true old new before after piece = new ≡ old
IsSent true false old new before after piece = ⊥

-- A sink took more bytes, and with `rest` after them they are those that stood on the page before and this
-- text.
abbrev pub Takes : Option (List ℕ) → Option (List ℕ) → List ℕ → List ℕ → List ℕ → Type 0
Takes old new held rest text =
    IfSome old (λ xs. (taken : List ℕ) × (new ≡ Some (xs ++ taken)) × (taken ++ rest ≡ held ++ text))

-- The text follows what was put before; from the write on that fails, which raises the count of faults, all
-- is lost.
abbrev pub IsPut : Bool → Bool → Place → Place → List ℕ → Type 0
IsPut false false old new text = Takes old.written new.written old.held new.held text
IsPut false true old new text =
    ((rest : List ℕ) × Takes old.written new.written old.held rest text) × HasRisen old.faults new.faults
IsPut true true old new text = new.written ≡ old.written
IsPut true false old new text = ⊥

-- This text was put.
pub record Puts (old new : Place) (text : List ℕ) : Type 0 where
  pub bytes : IsPut old.failed new.failed old new text
  pub never_falls : old.faults ≤ new.faults

-- This text was put to a sink by way of a page. It is given what tells the bytes of a sink and what counts its faults,
-- the sink before and after, and the page before and after.
abbrev pub Prints : {K : Type 0} → (K → Option (List ℕ)) → (K → ℕ) → K → K → Page → Page → List ℕ → Type 0
Prints bytes faults old new page rest text =
    Puts (place (bytes old) (faults old) page) (place (bytes new) (faults new) rest) text
