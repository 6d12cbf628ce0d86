-- What the contract of the program says over a source that never fails and a sink that has not failed.
use Rattle.std.proofs.Common.{ℕ, ◌≡◌, ◌↔◌, List, [], Option, Some, None, map, String, string_bytes, subst, ap, arith}
use Rattle.std.specs.declared.alloc.Global.{Global}
use Rattle.bus_base.specs.Faults.{HasRisen}
use Rattle.bus_cli.specs.Lines.{writing}
use Rattle.bus_cli.specs.Words.{word_of}
use Rattle.bus_cli.specs.Ends.{Says, MeetsInput, TellsInput}
use Rattle.bus_cli.specs.declared.status.Status.{Status}
use Rattle.bus_cli.specs.declared.status.Status.TheVariants as statuses
use Rattle.bus_cli.specs.declared.words.Word.{Word}
use Rattle.scsibus_main_c.specs.Words.{words_in}
use Rattle.scsibus_main_c.specs.Calls.{asked, IsAnswer}

-- A count that stands at 0 has not risen.
not_risen : HasRisen 0 0 → ⊥
not_risen h = omega (arith, h)

-- the same for a count that is 0 before and after
not_risen_at : (old new : ℕ) → old ≡ 0 → new ≡ 0 → HasRisen old new → ⊥
not_risen_at old new is_old is_new h =
    not_risen (subst (λ (n : ℕ). HasRisen 0 n) is_new (subst (λ (n : ℕ). HasRisen n new) is_old h))

pub same_words : (parts : List (String Global)) (words : List ℕ) → map string_bytes parts ≡ words_in words
    → word_of (map string_bytes parts) ≡ asked words
same_words parts words is = ap (λ (it : List (List ℕ)). word_of it) is

pub answered : (asks : Option Word) (words input : List ℕ) (status : Status) (text before : List ℕ) (old new : ℕ)
    → asks ≡ asked words → before ≡ [] → old ≡ 0 → new ≡ 0 → ((status ≡ statuses.Words) ↔ (asks ≡ None))
    → (status ≡ statuses.Read → HasRisen 0 0) → (status ≡ statuses.Write → HasRisen old new)
    → TellsInput asks status (Some input) → Says asks status (Some input) (writing before (Some text) old new)
    → ((HasRisen 0 0 → ⊥) → MeetsInput asks status (Some input)) → IsAnswer words input status text
answered asks words input status text before old new is_asked is_before is_old is_new usage read write tells says
    meets =
    let said_from_none = subst
    (λ (it : List ℕ). Says asks status (Some input) (writing it (Some text) old new)) is_before says in
    let said_from_0 = subst
    (λ (it : ℕ). Says asks status (Some input) (writing [] (Some text) it new)) is_old said_from_none in
    let said = subst (λ (it : ℕ). Says asks status (Some input) (writing [] (Some text) 0 it)) is_new said_from_0 in
    record {
      usage = subst (λ (it : Option Word). (status ≡ statuses.Words) ↔ (it ≡ None)) is_asked usage;
      says = subst (λ (it : Option Word). Says it status (Some input) (writing [] (Some text) 0 0)) is_asked said;
      meets = subst (λ (it : Option Word). MeetsInput it status (Some input)) is_asked (meets not_risen);
      tells = subst (λ (it : Option Word). TellsInput it status (Some input)) is_asked tells;
      reads = λ is. not_risen (read is);
      writes = λ is. not_risen_at old new is_old is_new (write is);
    }
