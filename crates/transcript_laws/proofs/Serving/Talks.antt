-- While nothing but messages has come in a connection, its account is as it began, and shows no event.
use Rattle.transcript_laws.proofs
use proofs.Names.{ℕ, ◌≡◌, ◌∙◌, ◌==◌, Bool, true, false, ◌&&◌, not, List, [], ◌∷◌, ◌++◌, Option, refl, sym, ap}
use proofs.Names.{and_parts, if◌then◌else◌, wrong', and_false, Event, ProcId, LineSet, is_command, is_data}
use proofs.Names.{is_message_in, MsgIn, is_nil, CarriedBytes, is_status_phase, AccountValue, account_of, after_in}
use proofs.Names.{account_after, account_after_all, OpenedValue, with_in, data_parts, phase_parts, phase_over}
use proofs.Names.{phase_entered, Part, Process, is_talk, are_talk, held_parts, base_parts, out_parts, parts_now}
use proofs.Names.{IsAsBegun, IsServing, IsBlank, first_byte, IsAccountOf, IsKeptOf, account_base}
use proofs.{Parts.{Base.{base_in, base_turned}, Lists.{broken_parts}, Shown.{talk_more}}, Serving.Steps.{no_block}}
use proofs.Serving.TurnSteps.{outs_talk, broken_talk}
use Rattle.bus_transcript.specs.declared.part.Incoming.TheVariants.{Whole}

-- ---- the account

record IsUntouched (a : AccountValue) (was : Bool) (st : Option ℕ) : Type 0 where
  block : a.block ≡ []
  struck : a.struck ≡ false
  first : a.status_first ≡ true
  shown : a.process.shown ≡ was
  status : a.process.status ≡ st

in_untouched : (a : AccountValue) (was : Bool) (st : Option ℕ) (m : MsgIn) → IsUntouched a was st
    → IsUntouched (after_in a m) was st
in_untouched a was st MsgIn.SavePointer h =
    record { block = h.block; struck = h.struck; first = h.first; shown = h.shown; status = h.status }
in_untouched a was st MsgIn.RestorePointers h =
    record { block = refl; struck = refl; first = refl; shown = h.shown; status = h.status }
in_untouched a was st _ h = h

part_untouched : (a : AccountValue) (was : Bool) (st : Option ℕ) (part : Part) → is_talk part ≡ true
    → IsUntouched a was st → IsUntouched (account_after a part) was st
part_untouched a was st (Part.Out m) e h =
    record { block = h.block; struck = h.struck; first = h.first; shown = h.shown; status = h.status }
part_untouched a was st (Part.In m) e h = in_untouched _ was st m
    (record { block = h.block; struck = h.struck; first = h.first; shown = h.shown; status = h.status })
part_untouched a was st Part.BrokenOff e h = h
part_untouched a was st _ e h = wrong' e

all_untouched : (a : AccountValue) (was : Bool) (st : Option ℕ) (parts : List Part) → are_talk parts ≡ true
    → IsUntouched a was st → IsUntouched (account_after_all a parts) was st
all_untouched a was st [] e h = h
all_untouched a was st (part ∷ parts) e h =
    let both = and_parts (is_talk part) (are_talk parts) e in
    all_untouched (account_after a part) was st parts both.1 (part_untouched a was st part both.0 h)

talk_account : (t : Process) (parts : List Part) (was : Bool) (st : Option ℕ) (c : CarriedBytes)
    → are_talk parts ≡ true → IsAsBegun t was st → IsBlank c → st ≡ first_byte c.status.bytes
    → (c.refused ≡ false → was ≡ c.shown) → IsAccountOf (account_after_all (account_of t []) parts) c
talk_account t parts was st c talk b blank status shown =
    let h = all_untouched (account_of t []) was st parts talk
    (record { block = refl; struck = refl; first = refl; shown = b.shown; status = b.status }) in
    record {
      block = h.block ∙ sym blank.block;
      struck = h.struck ∙ sym blank.struck;
      first = h.first ∙ (λ i. sym blank.active i == 0);
      saved = blank.saved;
      status = h.status ∙ status;
      begun = ap (λ (m : ℕ). is_nil c.status.bytes && not (m == 0)) blank.active ∙ and_false (is_nil c.status.bytes);
      shown = λ e. h.shown ∙ shown e;
    }

-- ---- lists of messages

pub talk_append : (xs ys : List Part) → are_talk xs ≡ true → are_talk ys ≡ true → are_talk (xs ++ ys) ≡ true
talk_append [] ys e f = f
talk_append (x ∷ xs) ys e f =
    let both = and_parts (is_talk x) (are_talk xs) e in
    λ i. both.0 i && talk_append xs ys both.1 f i

pub talk_first : (xs ys : List Part) → are_talk (xs ++ ys) ≡ true → are_talk xs ≡ true
talk_first [] ys e = refl
talk_first (x ∷ xs) ys e =
    let both = and_parts (is_talk x) (are_talk (xs ++ ys)) e in
    λ i. both.0 i && talk_first xs ys both.1 i

-- ---- the process is known from then on

-- As an initiator begins a connection, or once the names of a reselected process were said.
pub talk_serves : (o : OpenedValue) (id : ProcId) (now back : CarriedBytes) (history : List Event) (c : Process)
    → are_talk (base_parts o) ≡ true → IsBlank now → IsKeptOf c now → IsBlank back → IsKeptOf c back
    → IsServing o false id now back [] history c.shown c.status
talk_serves o id now back history c talk blank kept blank' kept' = record {
  account = λ q b. no_block (account_base o q) now
      (talk_account q (base_parts o) c.shown c.status now talk b blank kept.status kept.shown);
  void = λ m q held none empty b. talk_account q o.parts c.shown c.status back
      (talk_first o.parts (held_parts o ++ o.since) talk) b blank' kept'.status kept'.shown;
  told = λ refused q b r. (talk_more refused (account_of q []) (base_parts o) talk).shown;
}

-- ---- messages alone, row by row

pub talk_in : (o : OpenedValue) (m : MsgIn) → o.said ≡ [] → are_talk (base_parts o) ≡ true
    → are_talk (base_parts (with_in o (Whole m))) ≡ true
talk_in o m e talk = ap are_talk (base_in o (Whole m) e) ∙ talk_append (base_parts o) (Part.In m ∷ []) talk refl

-- With no COMMAND, no byte of data and no STATUS.
pub talk_turned : (o : OpenedValue) (l after : LineSet) (half : List ℕ) → is_command l ≡ false
    → o.bytes ≡ [] → is_status_phase after ≡ false → are_talk (base_parts o) ≡ true
    → are_talk (base_parts (phase_entered (phase_over o l half true) after)) ≡ true
talk_turned o l after half no_command empty no_status talk = ap are_talk (base_turned o l after half)
    ∙ talk_append ((parts_now o ++ broken_parts l half) ++ phase_parts o l true)
    (if is_status_phase after then Part.StatusPhase ∷ [] else [])
    (talk_append (parts_now o ++ broken_parts l half) (phase_parts o l true) (talk_append (parts_now o)
    (broken_parts l half) (talk_append (base_parts o) (out_parts o.said) talk (outs_talk o.said))
    (broken_talk (is_message_in l && not (is_nil half)))) (phase_talk (is_data l)))
    (ap (λ (q : Bool). are_talk (if q then Part.StatusPhase ∷ [] else [])) no_status)
  where
    phase_talk : (r : Bool) → are_talk (if is_command l then Part.Command o.bytes o.struck true ∷ []
        else if r then data_parts (not l.io) o.bytes else []) ≡ true
    phase_talk true = ap (λ (q : Bool). are_talk
        (if q then Part.Command o.bytes o.struck true ∷ [] else data_parts (not l.io) o.bytes)) no_command
        ∙ ap (λ (bytes : List ℕ). are_talk (data_parts (not l.io) bytes)) empty
    phase_talk false =
        ap (λ (q : Bool). are_talk (if q then Part.Command o.bytes o.struck true ∷ [] else [])) no_command
