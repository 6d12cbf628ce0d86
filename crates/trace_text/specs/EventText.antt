-- The text of a history: a line for each event.
use Rattle.std.specs.Prelude.{ℕ, List, [], ◌∷◌, ◌++◌, codes, decimal, if◌then◌else◌}
use Rattle.text_words.specs.Spelling.{byte_text}
use Rattle.text_pages.specs.AbortText.{abort_text}
use Rattle.bus_base.specs.declared.ProcId.{ProcId}
use Rattle.bus_base.specs.declared.Event.{Event}
use Rattle.bus_base.specs.declared.Event.TheVariants as events

-- the number of a command, with `S` after it for its automatic REQUEST SENSE
abbrev pub process_text : ProcId → List ℕ
process_text p = decimal p.command ++ (if p.sense then 83 ∷ [] else [])

abbrev pub event_words : Event → List ℕ
event_words (events.Accept p) = codes "accept " ++ process_text p
event_words (events.Run p) = codes "run " ++ process_text p
event_words (events.End p status) = codes "end " ++ (process_text p ++ (32 ∷ [] ++ byte_text status))
event_words (events.Refuse p) = codes "refuse " ++ process_text p
event_words (events.Fail p code) = codes "fail " ++ (process_text p ++ (32 ∷ [] ++ byte_text code))
event_words (events.Lost p) = codes "lost " ++ process_text p
event_words (events.Aborted initiator target unit what) = codes "abort " ++ (decimal initiator
    ++ (32 ∷ [] ++ (decimal target ++ (32 ∷ [] ++ (decimal unit ++ (32 ∷ [] ++ abort_text what))))))
event_words (events.Reset dev) = codes "reset " ++ decimal dev

-- its words and a line feed
abbrev pub event_text : Event → List ℕ
event_text event = event_words event ++ 10 ∷ []
