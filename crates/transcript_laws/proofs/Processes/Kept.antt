-- The processes that are kept stay, but for that of the connection that is over, which is put in its place.
use Rattle.transcript_laws.proofs
use proofs.Names.{◌≡◌, ◌∙◌, Bool, true, false, List, ◌++◌, length, Some, ap, if◌then◌else◌, ProcId, ScenarioValue}
use proofs.Names.{CarriedBytes, carried_of, Item, process, has_item, AccountValue, name_sent, Key, with_last}
use proofs.{Names.{same_nexus, Name, Process, IsKept, nexus_of, IsAccountOf, IsKeptOf}, Processes.Last.{is_last}}
use proofs.Processes.Sent.{name_before}
use Rattle.bus_transcript.specs.Processes.{process_of}
use Rattle.due_model.specs.array_model.specs.Processes as array_of

-- The account of a connection is what is kept of its process.
pub account_kept : (a : AccountValue) (c : CarriedBytes) → IsAccountOf a c → IsKeptOf a.process c
account_kept a c h = record { status = h.status; shown = h.shown }

-- What is sent and named later changes nothing of it.
pub kept_later : (s : ScenarioValue) (last : List (Key × Process)) (sent more : List Item)
    (names later : List Name) (carried : List CarriedBytes) (id : ProcId)
    → length names ≡ length sent → has_item sent (process id) ≡ true → IsKept s last sent names carried id
    → IsKept s last (sent ++ more) (names ++ later) carried id
kept_later s last sent more names later carried id count has h = record {
  definition = h.definition;
  definition_is = h.definition_is;
  process = h.process;
  last_is = h.last_is;
  named = name_before sent more names later id count has ∙ h.named;
  kept = h.kept;
}

-- Nor does what others carry, and what changes neither the status nor the marks.
pub kept_carried : (s : ScenarioValue) (last : List (Key × Process)) (sent : List Item)
    (names : List Name) (before after : List CarriedBytes) (id : ProcId)
    → ((c : Process) → IsKeptOf c (carried_of before id) → IsKeptOf c (carried_of after id))
    → IsKept s last sent names before id → IsKept s last sent names after id
kept_carried s last sent names before after id same h = record {
  definition = h.definition;
  definition_is = h.definition_is;
  process = h.process;
  last_is = h.last_is;
  named = h.named;
  kept = same h.process h.kept;
}

-- A process of another nexus is put.
pub kept_other : (s : ScenarioValue) (last : List (Key × Process)) (sent : List Item)
    (names : List Name) (carried : List CarriedBytes) (id : ProcId) (c : Process)
    → ((d : array_of.Process) → array_of.process_of s id ≡ Some d → same_nexus c.name (nexus_of d) ≡ false)
    → IsKept s last sent names carried id → IsKept s (with_last last c) sent names carried id
kept_other s last sent names carried id c other h = record {
  definition = h.definition;
  definition_is = h.definition_is;
  process = h.process;
  last_is = is_last last c (nexus_of h.definition) ∙ ap
      (λ (q : Bool). if q then Some c else process_of last (nexus_of h.definition)) (other h.definition h.definition_is)
      ∙ h.last_is;
  named = h.named;
  kept = h.kept;
}

-- Its own is put.
pub kept_own : (s : ScenarioValue) (last : List (Key × Process)) (sent : List Item) (names : List Name)
    (carried : List CarriedBytes) (id : ProcId) (c : Process) (d : array_of.Process)
    → array_of.process_of s id ≡ Some d → same_nexus c.name (nexus_of d) ≡ true → name_sent sent names id ≡ Some c.name
    → IsKeptOf c (carried_of carried id) → IsKept s (with_last last c) sent names carried id
kept_own s last sent names carried id c d is own named kept = record {
  definition = d;
  definition_is = is;
  process = c;
  last_is = is_last last c (nexus_of d) ∙ ap (λ (q : Bool). if q then Some c else process_of last (nexus_of d)) own;
  named = named;
  kept = kept;
}
