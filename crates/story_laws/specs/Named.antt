-- After a reselection the target says the names of the process that it serves, again where one was struck, until the
-- initiator knows it (6.1.4, 6.6.7, 6.6.13, 6.6.17).
use Rattle.std.specs.Prelude.{ℕ, ◌≡◌, true, false, ◌==◌, List, length, Option, Some, is_some}
use Rattle.due_model.specs.bus_trace.specs.LineSet.{LineSet}
use Rattle.due_model.specs.bus_trace.specs.declared.Row.{Row}
use Rattle.due_model.specs.bus_trace.specs.declared.connection.Connection.{Connection}
use Rattle.due_model.specs.bus_trace.specs.Phases.{is_message_out, is_message_in}
use Rattle.due_model.specs.bus_trace.specs.Terms.{connection}
use Rattle.due_model.specs.bus_trace.specs.Trace.{bus}
use Rattle.due_model.specs.bus_lines.specs.Handshakes.{Handshakes}
use Rattle.due_model.specs.msg_grammar.specs.declared.message.MsgIn.{MsgIn}
use Rattle.due_model.specs.scenario.specs.Value.{ScenarioValue}
use Rattle.due_model.specs.array_model.specs.Processes.{Process, process_of}
use Rattle.due_model.specs.array_model.specs.Order.{tag_number}
use Rattle.due_model.specs.story_model.specs.HistoryEvents.{is_complete}
use Rattle.due_model.specs.story_model.specs.Items.{process, Sent, has_item}
use Rattle.due_model.specs.story_model.specs.Links.{Link, named_item}
use Rattle.due_model.specs.dialogue_model.specs.declared.exchange.Messages.{Messages}
use Rattle.due_model.specs.dialogue_model.specs.Exchange.{Exchange, bytes_of_messages, one_message}
use Rattle.due_model.specs.dialogue_model.specs.Wants.{Ready}
use Rattle.due_model.specs.dialogue_model.specs.Words.{naming_messages, tag_named}
use Rattle.due_model.specs.RunState.{RunState, bus_of}
use Rattle.due_model.specs.RunSteps.{run_state}
use Rattle.due_model.specs.Wants.{ready_of}
use Rattle.row_laws.specs.book_laws.specs.Giving.{OnMessages}
use Rattle.row_laws.specs.book_laws.specs.Knowing.{IsNoName}
use Rattle.due_model.specs.dialogue_model.specs.declared.exchange.Cause.TheVariants as causes
use Rattle.due_model.specs.dialogue_model.specs.declared.exchange.Next.TheVariants as nexts

-- ---- the process that is reselected

-- It is of the scenario, no automatic REQUEST SENSE, and open.
pub record IsReadyCommand (s : ScenarioValue) (k : RunState) (r : Ready) : Type 0 where
  pub process_is : process_of s r.process.id ≡ Some r.process
  pub command : r.process.id.sense ≡ false
  pub sent : has_item k.story.sent.sent (process r.process.id) ≡ true
  pub open_is : has_item k.story.sent.over (process r.process.id) ≡ false

pub record AreFound (s : ScenarioValue) (k : RunState) (n : Connection) : Type 0 where
  pub ready : (r : Ready) → ready_of s k n.target ≡ Some r → IsReadyCommand s k r

-- The names of the process find one.
abbrev pub IsFoundBy : ScenarioValue → Connection → Sent → Process → Type 0
IsFoundBy s n sent c = (l : Link) → l.initiator ≡ n.initiator → l.target ≡ n.target → l.unit ≡ c.unit
    → is_some (named_item sent s.commands l (tag_number c.tag)) ≡ true

-- ---- its names

-- They are said from the first on, or from the second, and so many bytes of them have crossed: after IDENTIFY the
-- initiator knows the unit.
pub data Names (c : Process) (l : Link) (messages : Messages) (count : ℕ) : Type 0 where
  all : messages ≡ naming_messages c → ((count == 0) ≡ false → l.unit ≡ c.unit) → Names c l messages count
  tag_alone : (m : MsgIn) → tag_named c.tag ≡ Some m → messages ≡ one_message m → l.unit ≡ c.unit
      → Names c l messages count

pub record IsNaming (s : ScenarioValue) (n : Connection) (sent : Sent) (link : Option Link) (c : Process) (l : Link)
    (x : Exchange) : Type 0 where
  pub link_is : link ≡ Some l
  pub initiator_is : l.initiator ≡ n.initiator
  pub target_is : l.target ≡ n.target
  pub begun_is : x.begun ≡ true
  pub next_is : x.plan.next ≡ nexts.GoOn
  pub last : is_complete l.last ≡ false
  pub before : is_complete l.before ≡ false
  pub found : IsFoundBy s n sent c

-- The initiator knows the process, and no names follow; or they are said; or MESSAGE PARITY ERROR is, after which they
-- are said again.
pub data NamedBy (s : ScenarioValue) (n : Connection) (sent : Sent) (link : Option Link) (x : Exchange) (h : Handshakes)
    (b : LineSet) : Type 0 where
  known : (l : Link) → link ≡ Some l → is_some l.item ≡ true → OnMessages IsNoName x.plan.messages
      → NamedBy s n sent link x h b
  said : (c : Process) (l : Link) → IsNaming s n sent link c l x
      → is_message_in b ≡ true → Names c l x.plan.messages h.requests
      → (h.requests ≡ length (bytes_of_messages x.plan.messages) → is_some l.item ≡ true) → NamedBy s n sent link x h b
  refused : (c : Process) (l : Link) → IsNaming s n sent link c l x → is_message_out b ≡ true
      → x.plan.cause ≡ causes.InMessage → Names c l x.plan.messages 0 → NamedBy s n sent link x h b

abbrev pub Named : ScenarioValue → RunState → Connection → Type 0
Named s k n = NamedBy s n k.story.sent k.story.link k.exchange k.handshakes (bus_of k)

abbrev pub NamedFacts : ScenarioValue → List Row → Type 0
NamedFacts s rows = (n : Connection) → connection rows ≡ Some n → (bus rows).rst ≡ false → n.reselected ≡ true
    → Named s (run_state s rows) n
