-- An initiator by its parts.
use Rattle.std.proofs.Common.{ℕ, ◌≡◌, ◌≢◌, ◌==◌, ◌∙◌, ◌<◌, ◌≤◌, Bool, true, false, List, [], ◌∷◌, sym, subst, Option}
use Rattle.std.proofs.Common.{Some, None}
use Rattle.std.specs.Prelude.{if◌then◌else◌, not, ◌&&◌}
use Rattle.std.proofs.lemmas.Bool.Decides.{nat_tests}
use native.Mathlib.Omega.{arith}
use Rattle.bus_trace.specs.declared.Row.{Row}
use Rattle.bus_trace.specs.declared.connection.Connection.{Connection}
use Rattle.bus_trace.specs.Terms.{connection}
use Rattle.scenario.specs.Value.{ScenarioValue}
use Rattle.story_model.specs.Links.{Link}
use Rattle.story_model.specs.TraceHistory.{aim_of, retries_of}
use Rattle.scenario.specs.declared.value.HostDef.{HostDef}
use Rattle.initiator_books.specs.scsi_device.specs.Lines.{IsHostLine}
use Rattle.initiator_books.specs.Intents.{IntentValue, IsInitiator, IsIntentOf}
use Rattle.due_model.specs.Defs.{opening}
use Rattle.due_model.specs.LastingState.{has_negotiated}
use Rattle.due_model.specs.RunState.{RunState, item_of}
use Rattle.due_model.specs.RunSteps.{run_state, is_for_process, may_negotiate}
use Rattle.due_model.specs.Sights.{sending_of}
use Rattle.due_model.specs.Telling.{id_of}
use Rattle.scenario.specs.declared.value.CmdDef.{CmdDef}
use Rattle.due_model.specs.array_model.specs.Processes.{command_at}
use Rattle.due_model.specs.array_model.specs.Seats.{is_initiator as is_host}
use Rattle.due_model.specs.dialogue_model.specs.Sending.{byte_to_send}
use Rattle.due_model.specs.Plain.{AreOfDevices, IsPlain}
use Rattle.initiator_books.specs.scsi_device.specs.Lines.{IsCommandLine}
use Rattle.initiator.specs.Hosts.{HostValue, IsHostAfter, HasHeard}
use Rattle.initiator_books.specs.scsi_device.specs.Itself.{ItselfValue, IsItselfOf}
use Rattle.initiator_books.specs.declared.endings.CommandEnd.{CommandEnd}
use Rattle.initiator_books.specs.Endings.{AreEndingsOf}
use Rattle.initiator.specs.OwnBytes.{own_bytes, sending_from}
use Rattle.initiator_books.specs.Wishes.{IsItemIf}
use Rattle.initiator.proofs.OwnedLinks.{IsOwnedIf}
use Rattle.initiator.proofs.Sendings.{sendings_are}
use Rattle.initiator.proofs.TransferRows.{process_is, pointers_are, link_owned, own_is}
use Rattle.initiator_books.specs.OwnLinks.{own_link}
use Rattle.initiator.specs.Speeches.{first_words}
use Rattle.initiator.specs.States.{IsOwnConnection, AreSameBytes}
use Rattle.initiator.specs.Transfers.{active_of, active_at, process_of_link}
use Rattle.std.proofs.lemmas.Bool.{eqb-true, ne_eqb}
use Rattle.bus_base.proofs.Tests.{and_second}

-- What it says first in a connection that it begins, where it knows whether the two may negotiate.
pub first_is : (s : ScenarioValue) (rows : List Row) (dev target : ℕ) (x : Bool) (n : Connection)
    → (n.initiator == dev) ≡ true → n.target ≡ target → n.reselected ≡ false
    → x ≡ (is_for_process (aim_of (run_state s rows).story.aims dev)
    && not (has_negotiated (run_state s rows).negotiated dev target))
    → opening s dev x (aim_of (run_state s rows).story.aims dev) ≡ first_words s rows n
first_is s rows dev target x n own called first e =
    let k : RunState = run_state s rows in
    let same : dev ≡ n.initiator = sym (eqb-true n.initiator dev own) in
    (λ i. opening s dev (e i) (aim_of k.story.aims dev)) ∙ (λ i. opening s (same i)
    (is_for_process (aim_of k.story.aims (same i)) && not (has_negotiated k.negotiated (same i) (sym called i)))
    (aim_of k.story.aims (same i)))
    ∙ (λ i. if sym first i then []
    else opening s n.initiator (may_negotiate k n (aim_of k.story.aims n.initiator)) (aim_of k.story.aims n.initiator))

-- It is the initiator that its line names, and has its limit of tries.
pub is_initiator : (s : ScenarioValue) (h : HostDef) (dev retries : ℕ) → IsHostLine s h → dev ≡ h.dev
    → retries ≡ h.retries → IsInitiator s dev retries
is_initiator s h dev retries line e r = record {
  below = subst (λ (n : ℕ). n < 8) (sym e) line.below;
  is_one = (λ i. is_host s.hosts (e i)) ∙ line.is_one;
  retries_are = r ∙ line.retries_are ∙ (λ i. retries_of s.hosts (sym e i));
  few = below_255 retries h.retries r line.few;
}
  where
    below_255 : (n k : ℕ) → n ≡ k → k ≤ 16 → n < 255
    below_255 n k e h = omega (arith, e, h)

-- ---- what it sends

item_owned : (s : ScenarioValue) (dev : ℕ) (l : Option Link) → IsOwnedIf s dev l → IsItemIf s dev (item_of l)
item_owned s dev None h = tt
item_owned s dev (Some l) h = h.item

-- In a connection of its own it sends what the scenario has it send.
pub host_sends : (s : ScenarioValue) (rows : List Row) (v : HostValue)
    → ((m : ℕ) (c : CmdDef) → command_at s.commands m ≡ Some c → IsCommandLine s c) → IsPlain s rows (run_state s rows)
    → AreOfDevices rows → IsHostAfter s rows v → (n : Connection) → IsOwnConnection rows v.def.dev n
    → AreSameBytes (sending_from v.bytes (process_of_link v.transfers.link)
    (active_at v.transfers.held (process_of_link v.transfers.link))) (sending_of s (run_state s rows))
host_sends s rows v lines p d h n o = λ bus q.
    (λ i. byte_to_send bus q (sending_from (h.bytes_are i) (serves i) (place i)))
    ∙ sendings_are s k v.def.dev (item_of k.story.link) lines mine bus q
  where
    k : RunState
    k = run_state s rows

    linked : own_link v.transfers.dev (connection rows) k.story.link ≡ k.story.link
    linked = (λ i. own_link (h.transfers_dev i) (connection rows) k.story.link) ∙ own_is rows v.def.dev n k.story.link o

    serves : process_of_link v.transfers.link ≡ id_of (item_of k.story.link)
    serves = process_is s rows v.transfers h.transfers_are ∙ (λ i. id_of (item_of (linked i)))

    place : active_at v.transfers.held (process_of_link v.transfers.link) ≡ active_of k (id_of (item_of k.story.link))
    place = pointers_are s rows v.transfers p d h.transfers_are ∙ (λ i. active_of k (id_of (item_of (linked i))))

    owned : IsOwnedIf s v.transfers.dev k.story.link
    owned = subst (λ (l : Option Link). IsOwnedIf s v.transfers.dev l) linked (link_owned s rows v.transfers.dev p d)

    mine : IsItemIf s v.def.dev (item_of k.story.link)
    mine = item_owned s v.def.dev k.story.link (subst (λ (z : ℕ). IsOwnedIf s z k.story.link) h.transfers_dev owned)

-- It has heard a row, and the rest goes on by the row.
pub host_goes_on : (s : ScenarioValue) (rows : List Row) (row : Row) (v m : HostValue)
    (itself : ItselfValue) (intent : IntentValue) (ends : List CommandEnd)
    → m.def ≡ v.def → m.bytes ≡ v.bytes → itself.dev ≡ v.itself.dev → intent.dev ≡ v.intent.dev
    → intent.retries ≡ v.intent.retries → IsItselfOf s (row ∷ rows) itself → IsIntentOf s (row ∷ rows) intent
    → AreEndingsOf s (row ∷ rows) v.def.dev ends → IsHostAfter s rows v → HasHeard s rows row m
    → IsHostAfter s (row ∷ rows) (record m { itself = itself; intent = intent; endings = ends })
host_goes_on s rows row v m itself intent ends def bytes itself_dev intent_dev retries itself_is intent_is endings_are h
    w = record {
      line = subst (λ (z : HostDef). IsHostLine s z) (sym def) h.line;
      itself_dev = itself_dev ∙ h.itself_dev ∙ (λ i. (sym def i).dev);
      intent_dev = intent_dev ∙ h.intent_dev ∙ (λ i. (sym def i).dev);
      intent_retries = retries ∙ h.intent_retries ∙ (λ i. (sym def i).retries);
      negotiations_dev = w.negotiations_dev;
      transfers_dev = w.transfers_dev;
      itself_is = itself_is;
      intent_is = intent_is;
      negotiations_are = w.negotiations_are;
      speech_is = w.speech_is;
      transfers_are = w.transfers_are;
      received_is = w.received_is;
      endings_are = subst (λ (z : HostDef). AreEndingsOf s (row ∷ rows) z.dev ends) (sym def) endings_are;
      bytes_are = bytes ∙ h.bytes_are ∙ (λ i. own_bytes s (sym def i).dev);
    }
