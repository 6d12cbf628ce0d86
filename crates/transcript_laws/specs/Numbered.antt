-- The names of the connections that initiators began are apart: of one nexus each has its own number, but for aborts,
-- which have 0.
use Rattle.std.specs.Prelude.{◌+◌, ◌≤◌, ◌≡◌, ◌==◌, true, false, List, [], ◌∷◌, length, Some, ⊤}
use Rattle.bus_transcript.specs.declared.item.Name.{Name}
use Rattle.bus_transcript.specs.declared.process.Process.{Process}
use Rattle.bus_transcript.specs.Events.{same_name}
use Rattle.bus_transcript.specs.Keys.{Key}
use Rattle.bus_transcript.specs.Processes.{process_of, same_nexus}

abbrev pub OnNames : (Name → Type 0) → List Name → Type 0
OnNames q [] = ⊤
OnNames q (name ∷ names) = q name × OnNames q names

-- Two names of processes are not the same.
abbrev pub AreOther : Name → Name → Type 0
AreOther a b = (a.number == 0) ≡ false → (b.number == 0) ≡ false → same_name a b ≡ false

abbrev pub AreDistinct : List Name → Type 0
AreDistinct [] = ⊤
AreDistinct (name ∷ names) = OnNames (λ m. AreOther name m) names × AreDistinct names

-- The last process of the nexus has a number no less.
pub record HasLast (last : List (Key × Process)) (name : Name) : Type 0 where
  pub process : Process
  pub last_is : process_of last name ≡ Some process
  pub number : name.number ≤ process.name.number

-- What is kept of each nexus is a process of it, and no number is beyond the count of names.
pub record AreNumbered (last : List (Key × Process)) (names : List Name) : Type 0 where
  pub keyed : (name : Name) (c : Process) → process_of last name ≡ Some c → same_nexus c.name name ≡ true
  pub counted : (name : Name) (c : Process) → process_of last name ≡ Some c → c.name.number ≤ length names + 1
  pub has_last : OnNames (λ name. (name.number == 0) ≡ false → HasLast last name) names
  pub distinct : AreDistinct names
