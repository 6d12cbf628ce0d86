-- What a row of a connection makes of its link, and that no command is sent or ends with it before COMMAND COMPLETE
-- (6.6.5).
use Rattle.story_laws.proofs
use proofs.Names.{◌≡◌, Bool, true, false, not, ◌&&◌, ◌∙◌, [], ◌∷◌, Option, Some, None, refl, ap, if◌then◌else◌, is_some}
use proofs.Names.{is_none, Event, rises, changes_phase, is_message_in, receiver_in, Kind, Drives, Fault, Row, Change}
use proofs.Names.{Connection, MsgIn, MsgOut, ScenarioValue, restored_sent, RowReading, message_in, message_out}
use proofs.Names.{CarriedBytes, carried_if, queue_events, phase_events, is_complete, is_completion, end_events}
use proofs.Names.{connection_events, link_events, row_events_by, Item, Sent, Link, last_out, last_in, link_after_name}
use proofs.Names.{Story, story_after_events, story_with_carried, story_with_restored, is_parity_error, story_after_out}
use proofs.Names.{carried_after_message_if, story_after_in, carried_after_byte_if, story_after_byte}
use proofs.Names.{carried_after_fault_if, story_after_fault, story_in_connection, story_on_bus, story_by_change}
use proofs.{Names.{RunState, run_state_after, reading_is, link_after, IsRowIn, reading_in}, Items.Row.{AllQuiet}}
use proofs.Items.Row.{quiet_events, queue_quiet, status_quiet}

-- ---- the link

-- After a message of MESSAGE IN, and after a byte.
abbrev pub after_name : ScenarioValue → Sent → Link → Option CarriedBytes → Option MsgIn → Link
after_name s sent l undo None = l
after_name s sent l undo (Some m) =
    record (link_after_name sent s.commands l m) { last = last_in m; before = l.last; undo = undo }

abbrev pub after_byte : ScenarioValue → Sent → Link → Option CarriedBytes → Option MsgOut → Option MsgIn → Link
after_byte s sent l undo (Some o) m = record l { last = last_out o l }
after_byte s sent l undo None m = after_name s sent l undo m

abbrev pub link_by : ScenarioValue → Story → Link → Bool → Option MsgOut → Option MsgIn → Link
link_by s b l true o m = after_byte s b.sent l (carried_if b l.item) o m
link_by s b l false o m = l

pub record SameSent (a b : Story) : Type 0 where
  pub link : a.link ≡ b.link
  pub sent : a.sent ≡ b.sent

carried_same : (b : Story) (c : Option CarriedBytes) → SameSent (story_with_carried b c) b
carried_same b None = record { link = refl; sent = refl }
carried_same b (Some c) = record { link = refl; sent = refl }

fault_same : (b : Story) (l : Link) (kind : Kind) → SameSent (story_after_fault b l kind) b
fault_same b l (Drives lines) = record { link = refl; sent = refl }
fault_same b l (Fault bit) = carried_same b (carried_after_fault_if (carried_if b l.item) b.bus_state.crossed)

byte_same : (b : Story) (l : Link) (d : RowReading) → SameSent (story_after_byte b l d) b
byte_same b l d = go d.change.before.msg
  where
    go : (q : Bool) → SameSent (if q then b else story_with_carried b (carried_after_byte_if (carried_if b l.item) d)) b
    go true = record { link = refl; sent = refl }
    go false = carried_same b (carried_after_byte_if (carried_if b l.item) d)

pub record LinkOn (s : ScenarioValue) (b after : Story) (link : Link) : Type 0 where
  pub link_is : after.link ≡ Some link
  pub sent_is : after.sent ≡ b.sent

pub link_on : (s : ScenarioValue) (b : Story) (l : Link) (d : RowReading) (row : Row) → b.link ≡ Some l
    → LinkOn s b (story_in_connection s b (Some l) d row) (link_by s b l d.crosses d.out d.into)
link_on s b l d row e = go d.crosses d.out d.into
  where
    same : (after : Story) → SameSent after b → LinkOn s b after l
    same after z = record { link_is = z.link ∙ e; sent_is = z.sent }

    go : (q : Bool) (o : Option MsgOut) (m : Option MsgIn)
        → LinkOn s b (if q then (if is_some o then story_after_out b l o else if is_some m then story_after_in s b l m
        else story_after_byte b l d) else story_after_fault b l row.kind) (link_by s b l q o m)
    go false o m = same (story_after_fault b l row.kind) (fault_same b l row.kind)
    go true (Some o) m =
        let z = carried_same (record b { link = Some (record l { last = last_out o l }) })
        (if is_parity_error o then l.undo else None) in
        record { link_is = z.link; sent_is = z.sent }
    go true None None = same (story_after_byte b l d) (byte_same b l d)
    go true None (Some m) =
        let next : Link = record
        (link_after_name b.sent s.commands l m) { last = last_in m; before = l.last; undo = carried_if b l.item } in
        let base : Story =
        if is_none l.item then story_with_restored b (link_after_name b.sent s.commands l m).item else b in
        let z = carried_same (record base { link = Some next })
        (carried_after_message_if (carried_if base (link_after_name b.sent s.commands l m).item) m) in
        record {
          link_is = z.link;
          sent_is = z.sent ∙ based (is_none l.item) (link_after_name b.sent s.commands l m).item;
        }
      where
        based : (q : Bool) (item : Option Item) → (if q then story_with_restored b item else b).sent ≡ b.sent
        based true item = restored_sent b item
        based false item = refl

-- ---- events

connection_early : (s : ScenarioValue) (b : Story) (l : Link) (d : RowReading) → is_complete l.last ≡ false
    → AllQuiet (connection_events s b l d)
connection_early s b l d e = go (changes_phase d.change) (is_completion l d.change)
    (none (rises d.change.before.ack d.change.after.ack && is_message_in d.change.before) (is_complete l.last)
    (not d.change.after.atn) e)
  where
    none : (a q z : Bool) → q ≡ false → (a && q && z) ≡ false
    none true true z f = absurd cc
    none true false z f = refl
    none false q z f = refl

    go : (q r : Bool) → r ≡ false → AllQuiet (if q then phase_events s b (carried_if b l.item) d.change
        else if r then end_events (carried_if b l.item) else [])
    go true r f = status_quiet (carried_if b l.item) d.change.after
        (queue_events s b (carried_if b l.item) d.change.before) (queue_quiet s b (carried_if b l.item) d.change.before)
    go false true f = absurd cc
    go false false f = tt

-- ---- a row

pub link_is_after : (s : ScenarioValue) (k : RunState) (row : Row) (n : Connection) (c : Change) (now : Bool) (l : Link)
    → IsRowIn k row n c → is_some (receiver_in n c) ≡ now → k.story.link ≡ Some l
    → (run_state_after s k row).story.link ≡ Some (link_by s k.story l now
    (message_out k.story.bus_state.dialogue c now) (message_in k.story.bus_state.dialogue c now))
link_is_after s k row n c now l h en e = link_after s k row n c now h en
    ∙ ap (λ (x : Option Link). (story_in_connection s k.story x (reading_in k.story.bus_state n c now) row).link) e
    ∙ (link_on s k.story l (reading_in k.story.bus_state n c now) row e).link_is

-- No command is sent with it, and none ends.
pub sent_is_after : (s : ScenarioValue) (k : RunState) (row : Row) (n : Connection) (c : Change) (now : Bool) (l : Link)
    → IsRowIn k row n c → is_some (receiver_in n c) ≡ now → k.story.link ≡ Some l → is_complete l.last ≡ false
    → (run_state_after s k row).story.sent ≡ k.story.sent
sent_is_after s k row n c now l h en e last =
    let d : RowReading = reading_in k.story.bus_state n c now in
    let base : Story = story_in_connection s k.story (Some l) d row in
    ap
    (λ (x : RowReading). (story_after_events s (story_by_change s k.story x row) (row_events_by s k.story x row)).sent)
    (reading_is k row n c now h en)
    ∙ (λ i. (story_after_events s
    (if h.calm i then record k.story { link = None } else story_on_bus s k.story (h.connection_is i) (Some n) d row)
    (if h.calm i then (if rises c.own.rst c.next.rst then Event.Reset row.dev ∷ [] else [])
    else link_events s k.story (e i) d)).sent)
    ∙ (λ i. (story_after_events s (story_in_connection s k.story (e i) d row) (connection_events s k.story l d)).sent)
    ∙ quiet_events s base (connection_events s k.story l d) (connection_early s k.story l d last)
    ∙ (link_on s k.story l d row e).sent_is
