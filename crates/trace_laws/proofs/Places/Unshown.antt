-- As a reselection begins, the process that its target has ready has shown no reply: it waits or runs in the plain disk
-- array, which has given it none.
use Rattle.trace_laws.proofs
use proofs.Names.{◌≡◌, ◌∙◌, List, Option, None, sym, ap, is_some, connection, Row, Connection, ScenarioValue, reply_in}
use proofs.Names.{Reply, Item, run_state_plain, AreOfDevices, RunState, or_start, run_state, ready_among, seek_of}
use proofs.{Names.{is_served_by, IsAtRest, PlaceFacts, AreRepliesShown, IsUnshown}, Places.Ready.{MayBeReady}}
use proofs.Places.Ready.{ready_runs}

pub unshown_ready : (s : ScenarioValue) (p : List Row) (n : Connection) → AreOfDevices p → PlaceFacts s p
    → AreRepliesShown s (run_state s p) → connection p ≡ None → IsUnshown s (run_state s p) n
unshown_ready s p n dv h shown alone re r ready =
    sym (shown r.process.id) ∙ (λ i. is_some (reply_in (or_start s (h.array_is i)).replies r.process.id))
    ∙ ap (λ (x : Option Reply). is_some x) may.runs.runs.reply
  where
    k : RunState
    k = run_state s p

    rests : IsAtRest h.array r.process.id
    rests = h.rests r.process.id (ap (λ (y : Option Item). is_served_by y r.process.id)
        (h.unserved ((run_state_plain s p dv).connection ∙ alone)))

    may : MayBeReady s h.array r
    may = ready_runs s h.array k.current_since (seek_of s.targets n.target) n.target r h.sound rests
        ((λ i. ready_among (or_start s (sym h.array_is i)) k.current_since (seek_of s.targets n.target) n.target)
        ∙ ready)
