-- Readers that read the same, whatever comes.
use Rattle.std.proofs.Common.{◌≡◌, ℕ, ◌+◌, Bool, true, false, List, [], ◌∷◌, ◌++◌, take, drop, append-nil, append_assoc}
use Rattle.std.proofs.Common.{refl, sym, ap, ◌∙◌, Some, None, Option, Result, Ok, Err}
use Rattle.std.specs.Prelude.{OnOk}
use Rattle.std.specs.declared.alloc.AllocError.{AllocError}
use Rattle.std.specs.Option.{is_some}
use Rattle.std.proofs.Math.Seq.{take-add}
use Rattle.std.proofs.lemmas.List.{take-append-drop}
use Rattle.vcd_text.specs.declared.dump.Dump.{Dump}
use Rattle.vcd_text.specs.declared.reader.VcdReader.{VcdReader}
use Rattle.vcd_text.specs.Tokens.{is_space}
use Rattle.vcd_text.specs.Reading.{stepped, token_ended, spaced, taken_by, taken, read_by, over, read_of}
use Rattle.vcd_text.specs.Kept.{token_made, StandsFor, Breaks, Keeps, ReadsAs}
use Rattle.vcd_text.proofs.KeptTokens.{gives_breaks}
use Rattle.vcd_text.proofs.Pieces.{taken_append, taken_bad, byte_inner, byte_space, word_free_by}

-- ---- what was read of a token

pub ended_made : (r : VcdReader) (w : List ℕ) → token_ended r w ≡ stepped r (token_made r.dump w)
ended_made r [] = refl
ended_made r (b ∷ bytes) = refl

read_word : (bad : Option ℕ) (r : VcdReader) (x y : List ℕ)
    → read_by bad (record r { word = x }) ≡ read_by bad (record r { word = y })
read_word None r x y = refl
read_word (Some line) r x y = refl

read_made : (made : Option Dump) (r : VcdReader) (x y : List ℕ)
    → read_by (stepped (record r { word = x }) made).bad (stepped (record r { word = x }) made)
    ≡ read_by (stepped (record r { word = y }) made).bad (stepped (record r { word = y }) made)
read_made None r x y = refl
read_made (Some d) r x y = read_word r.bad (record r { dump = d }) x y

over_open : (r : VcdReader) → r.bad ≡ None → read_of r ≡ read_by (token_ended r r.word).bad (token_ended r r.word)
over_open r fine = ap (λ (bad : Option ℕ). read_by (over bad r).bad (over bad r)) fine

read_ended : (r : VcdReader) (x : List ℕ) → r.bad ≡ None
    → read_of (record r { word = x }) ≡ read_by (stepped (record r { word = x }) (token_made r.dump x)).bad
    (stepped (record r { word = x }) (token_made r.dump x))
read_ended r x fine = over_open (record r { word = x }) fine
    ∙ ap (λ (s : VcdReader). read_by s.bad s) (ended_made (record r { word = x }) x)

-- ---- a kept token stands for the whole one

at_end : (d : Dump) (x : List ℕ) → token_made d x ≡ token_made d (x ++ [])
at_end d x = ap (token_made d) (sym (append-nil x))

longer : (d : Dump) (x y : List ℕ) (b : ℕ) → StandsFor d x y → StandsFor d (x ++ b ∷ []) (y ++ b ∷ [])
longer d x y b same rest = ap (token_made d) (append_assoc x (b ∷ []) rest) ∙ same (b ∷ rest)
    ∙ ap (token_made d) (sym (append_assoc y (b ∷ []) rest))

space_same : (r : VcdReader) (x y : List ℕ) (b : ℕ) → token_made r.dump x ≡ token_made r.dump y
    → spaced (token_ended (record r { word = x }) x) b ≡ spaced (token_ended (record r { word = y }) y) b
space_same r x y b same = ap (λ (s : VcdReader). spaced s b) (ended_made (record r { word = x }) x)
    ∙ ap (λ (made : Option Dump). spaced (stepped (record r { word = x }) made) b) same
    ∙ word_free_by r x y (token_made r.dump y) b
    ∙ ap (λ (s : VcdReader). spaced s b) (sym (ended_made (record r { word = y }) y))

pub stands_reads : (rest : List ℕ) (r : VcdReader) (x y : List ℕ) → r.bad ≡ None → StandsFor r.dump x y
    → read_of (taken (record r { word = x }) rest) ≡ read_of (taken (record r { word = y }) rest)
stands_reads [] r x y fine same = read_ended r x fine ∙ ap
    (λ (made : Option Dump). read_by (stepped (record r { word = x }) made).bad (stepped (record r { word = x }) made))
    (at_end r.dump x ∙ same [] ∙ sym (at_end r.dump y))
    ∙ read_made (token_made r.dump y) r x y ∙ sym (read_ended r y fine)
stands_reads (b ∷ rest) r x y fine same =
    go (is_space b) refl (stands_reads rest r (x ++ b ∷ []) (y ++ b ∷ []) fine (longer r.dump x y b same))
  where
    go : (q : Bool) → is_space b ≡ q → read_of (taken (record r { word = x ++ b ∷ [] }) rest)
        ≡ read_of (taken (record r { word = y ++ b ∷ [] }) rest)
        → read_of (taken (taken_by r.bad (record r { word = x }) b) rest)
        ≡ read_of (taken (taken_by r.bad (record r { word = y }) b) rest)
    go true is more = ap (λ (s : VcdReader). read_of (taken s rest)) (byte_space (record r { word = x }) b fine is
        ∙ space_same r x y b (at_end r.dump x ∙ same [] ∙ sym (at_end r.dump y))
        ∙ sym (byte_space (record r { word = y }) b fine is))
    go false is more = ap (λ (s : VcdReader). read_of (taken s rest)) (byte_inner (record r { word = x }) b fine is)
        ∙ more ∙ ap (λ (s : VcdReader). read_of (taken s rest)) (sym (byte_inner (record r { word = y }) b fine is))

-- ---- a token that breaks the form

bad_reads : (rest : List ℕ) (r : VcdReader) (line : ℕ) → r.bad ≡ Some line → read_of (taken r rest) ≡ Err line
bad_reads rest r line is = ap read_of (taken_bad rest r line is)
    ∙ ap (λ (bad : Option ℕ). read_by (over bad r).bad (over bad r)) is ∙ ap (λ (bad : Option ℕ). read_by bad r) is

breaks_reads : (rest : List ℕ) (r : VcdReader) (x : List ℕ) → r.bad ≡ None → Breaks r.dump x
    → read_of (taken (record r { word = x }) rest) ≡ Err r.line
breaks_reads [] r x fine broken = read_ended r x fine ∙ ap
    (λ (made : Option Dump). read_by (stepped (record r { word = x }) made).bad (stepped (record r { word = x }) made))
    (at_end r.dump x ∙ broken [])
breaks_reads (b ∷ rest) r x fine broken = go (is_space b) refl (breaks_reads rest r (x ++ b ∷ []) fine
    (λ more. ap (token_made r.dump) (append_assoc x (b ∷ []) more) ∙ broken (b ∷ more)))
  where
    go : (q : Bool) → is_space b ≡ q → read_of (taken (record r { word = x ++ b ∷ [] }) rest) ≡ Err r.line
        → read_of (taken (taken_by r.bad (record r { word = x }) b) rest) ≡ Err r.line
    go true is more =
        let none : token_made r.dump x ≡ None = at_end r.dump x ∙ broken [] in
        ap (λ (s : VcdReader). read_of (taken s rest))
        (byte_space (record r { word = x }) b fine is ∙ ap (λ (s : VcdReader). spaced s b)
        (ended_made (record r { word = x }) x ∙ ap (stepped (record r { word = x })) none))
        ∙ bad_reads rest (spaced (stepped (record r { word = x }) None) b) r.line refl
    go false is more =
        ap (λ (s : VcdReader). read_of (taken s rest)) (byte_inner (record r { word = x }) b fine is) ∙ more

-- ---- what a reader has taken

gives_stands : (ok : Bool) (d : Dump) (kept token : List ℕ) → ok ≡ true → Keeps ok d kept token → StandsFor d kept token
gives_stands true d kept token is h = h
gives_stands false d kept token is h = cc

pub grown_alive : (r : VcdReader) (w text : List ℕ) (ok : Bool) → r.bad ≡ None → ok ≡ true
    → Keeps ok r.dump w (r.word ++ text) → ReadsAs (record r { word = w }) (record r { word = r.word ++ text })
grown_alive r w text ok fine is kept rest =
    stands_reads rest r w (r.word ++ text) fine (gives_stands ok r.dump w (r.word ++ text) is kept)

pub grown_dead : (r : VcdReader) (w text : List ℕ) (ok : Bool)
    → r.bad ≡ None → ok ≡ false → Keeps ok r.dump w (r.word ++ text)
    → ReadsAs (record r { word = w; bad = Some r.line }) (record r { word = r.word ++ text })
grown_dead r w text ok fine is kept rest = bad_reads rest (record r { word = w; bad = Some r.line }) r.line refl
    ∙ sym (breaks_reads rest r (r.word ++ text) fine (gives_breaks ok r.dump w (r.word ++ text) is kept))

-- the token has ended
kept_word : (s r : VcdReader) (w : List ℕ) (made : Option Dump) → s ≡ stepped (record r { word = w }) made
    → s ≡ stepped (record r { word = s.word }) made
kept_word s r w None e =
    e ∙ ap (λ (x : List ℕ). record r { word = x; bad = Some r.line }) (sym (ap (λ (t : VcdReader). t.word) e))
kept_word s r w (Some d) e =
    e ∙ ap (λ (x : List ℕ). record r { word = x; dump = d }) (sym (ap (λ (t : VcdReader). t.word) e))

alive : (r s : VcdReader) (w text : List ℕ) → StandsFor r.dump w (r.word ++ text)
    → s ≡ token_ended (record r { word = w }) w → s ≡ token_ended (record r { word = s.word }) (r.word ++ text)
alive r s w text kept now =
    let same : token_made r.dump w ≡ token_made r.dump (r.word ++ text) = at_end r.dump w
    ∙ kept [] ∙ sym (at_end r.dump (r.word ++ text)) in
    kept_word s r w (token_made r.dump (r.word ++ text))
    (now ∙ ended_made (record r { word = w }) w ∙ ap (stepped (record r { word = w })) same)
    ∙ sym (ended_made (record r { word = s.word }) (r.word ++ text))

pub ended_alive : (res : Result (Unit {0}) AllocError) (r s : VcdReader) (w text : List ℕ) (ok : Bool)
    → ok ≡ true → Keeps ok r.dump w (r.word ++ text) → OnOk res (s ≡ token_ended (record r { word = w }) w)
    → OnOk res (s ≡ token_ended (record r { word = s.word }) (r.word ++ text))
ended_alive (Ok done) r s w text ok is kept now =
    alive r s w text (gives_stands ok r.dump w (r.word ++ text) is kept) now
ended_alive (Err e) r s w text ok is kept now = tt

pub ended_dead : (r : VcdReader) (w text : List ℕ) (ok : Bool) → ok ≡ false → Keeps ok r.dump w (r.word ++ text)
    → record r { word = w; bad = Some r.line } ≡ token_ended (record r { word = w }) (r.word ++ text)
ended_dead r w text ok is kept =
    let none : token_made r.dump (r.word ++ text) ≡ None = at_end r.dump (r.word ++ text)
    ∙ gives_breaks ok r.dump w (r.word ++ text) is kept [] in
    sym (ended_made (record r { word = w }) (r.word ++ text) ∙ ap (stepped (record r { word = w })) none)

pub reads_itself : (n r : VcdReader) → n ≡ r → ReadsAs n r
reads_itself n r same rest = ap (λ (s : VcdReader). read_of (taken s rest)) same

pub reads_through : (n m r : VcdReader) → ReadsAs n m → m ≡ r → ReadsAs n r
reads_through n m r first same rest = first rest ∙ ap (λ (s : VcdReader). read_of (taken s rest)) same

-- a piece more
pub reads_after : (r s n : VcdReader) (front piece : List ℕ) → ReadsAs s (taken r front) → ReadsAs n (taken s piece)
    → ReadsAs n (taken r (front ++ piece))
reads_after r s n front piece before now rest = now rest ∙ ap read_of (sym (taken_append piece rest s))
    ∙ before (piece ++ rest) ∙ ap read_of (taken_append piece rest (taken r front))
    ∙ ap (λ (t : VcdReader). read_of (taken t rest)) (sym (taken_append front piece r))

-- a part of a piece more
pub reads_more : (r s n : VcdReader) (piece : List ℕ) (at more : ℕ) → ReadsAs s (taken r (take at piece))
    → ReadsAs n (taken s (take more (drop at piece))) → ReadsAs n (taken r (take (at + more) piece))
reads_more r s n piece at more before now = reads_through n (taken r (take at piece ++ take more (drop at piece)))
    (taken r (take (at + more) piece)) (reads_after r s n (take at piece) (take more (drop at piece)) before now)
    (ap (taken r) (sym (take-add at more piece)))

-- after a token that breaks the form none is looked at
some_line : (bad : Option ℕ) → is_some bad ≡ true → (line : ℕ) × (bad ≡ Some line)
some_line (Some line) h = (line, refl)
some_line None h = cc

pub reads_bad : (r s : VcdReader) (piece : List ℕ) (at : ℕ) → ReadsAs s (taken r (take at piece)) → is_some s.bad ≡ true
    → ReadsAs s (taken r piece)
reads_bad r s piece at before bad rest =
    let line = some_line s.bad bad in
    bad_reads rest s line.0 line.1 ∙ sym (bad_reads (drop at piece ++ rest) s line.0 line.1)
    ∙ before (drop at piece ++ rest) ∙ ap read_of (taken_append (drop at piece) rest (taken r (take at piece)))
    ∙ ap (λ (t : VcdReader). read_of (taken t rest))
    (sym (taken_append (take at piece) (drop at piece) r) ∙ ap (taken r) (take-append-drop at piece))
