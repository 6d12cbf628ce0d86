-- The connection that stands belongs to an item of its initiator, and what it can undo is of a process of that one.
use Rattle.std.proofs.Common.{ℕ, suc, zero, ◌≡◌, ◌+◌, ◌≤◌, Bool, true, false, List, [], ◌∷◌, ◌++◌, ◌∙◌, refl, sym, ap}
use Rattle.std.proofs.Common.{subst, arith, length, Option, Some, None}
use Rattle.std.specs.Prelude.{if◌then◌else◌, not, ◌&&◌, ◌==◌, is_some, is_none, nat_lt, ⊤}
use Rattle.std.specs.List.{list_any}
use Rattle.std.proofs.lemmas.Bool.Decides.{nat_tests}
use Rattle.bus_base.specs.declared.ProcId.{ProcId}
use Rattle.bus_base.specs.declared.Event.{Event}
use Rattle.bus_base.specs.declared.Event.TheVariants as events
use Rattle.bus_trace.specs.declared.Row.{Row}
use Rattle.bus_trace.specs.declared.changes.Change.{Change}
use Rattle.bus_trace.specs.declared.connection.Connection.{Connection}
use Rattle.bus_trace.specs.declared.selection.Call.{Call}
use Rattle.bus_trace.specs.Terms.{connection_after}
use Rattle.msg_grammar.specs.declared.message.MsgOut.{MsgOut}
use Rattle.msg_grammar.specs.declared.message.MsgIn.{MsgIn}
use Rattle.msg_grammar.specs.declared.message.MsgIn.TheVariants as to_initiator
use Rattle.cdb_codec.specs.declared.status.TheConstants.{CHECK_CONDITION}
use Rattle.scenario.specs.declared.value.CmdDef.{CmdDef}
use Rattle.scenario.specs.Value.{ScenarioValue}
use Rattle.due_model.specs.array_model.specs.Processes.{command_at}
use Rattle.due_model.specs.array_model.specs.Order.{same_number, tag_number}
use Rattle.story_model.specs.BusState.{RowReading, row_reading}
use Rattle.story_model.specs.Items.{Item, process, abort, Sent, command_item, sense_item, is_open, is_of_host}
use Rattle.story_model.specs.Links.{Link, link_of, last_out, last_in, is_open_sense, named_item_from, link_after_name}
use Rattle.story_model.specs.CarriedBytes.{CarriedBytes}
use Rattle.story_model.specs.Story.{Story, Ending, by_abort, by_reset, by_status, story_with_end, story_with_over}
use Rattle.story_model.specs.Story.{story_with_ends, is_aborted, is_sense_stopped, story_after_event}
use Rattle.story_model.specs.Story.{story_after_events}
use Rattle.story_model.specs.HistoryEvents.{carried_if}
use Rattle.story_model.specs.TraceHistory.{aim_of, is_parity_error, carried_after_message_if, carried_after_byte_if}
use Rattle.story_model.specs.TraceHistory.{story_with_restored, story_with_sent, story_after_connection}
use Rattle.story_model.specs.TraceHistory.{story_with_carried, story_after_out, story_after_message, story_after_name}
use Rattle.story_model.specs.TraceHistory.{story_after_in, story_after_byte, story_after_fault, story_after_crossing}
use Rattle.story_model.specs.TraceHistory.{story_in_connection, story_on_bus, story_by_change}
use Rattle.due_model.specs.RunSteps.{run_state, events_of_row}
use Rattle.due_model.specs.Plain.{AreOfDevices}
use Rattle.initiator_books.specs.Wishes.{IsItemIf, AreAims}
use Rattle.story_model.proofs.CarriedLists.{carried_id}
use Rattle.initiator_books.proofs.WishRows.{aims_are}
use Rattle.initiator_books.proofs.Mines.{step}
use Rattle.story_model.proofs.StorySteps.{restored_link, sent_link, byte_link, out_link, events_link, carried_link}
use Rattle.story_model.proofs.StorySteps.{event_link, fault_link}

-- ---- what each device last entered arbitration for, whatever its number

past : (aims : List (Option Item)) (d : ℕ) → length aims ≤ d → aim_of aims d ≡ None
past [] zero l = refl
past [] (suc d) l = refl
past (a ∷ aims) zero l = absurd (omega (arith, l))
past (a ∷ aims) (suc d) l = past aims d (omega (arith, l))

pub aim_own : (s : ScenarioValue) (aims : List (Option Item)) (d : ℕ) → AreAims s aims → IsItemIf s d (aim_of aims d)
aim_own s aims d a = go (nat_lt d 8) refl
  where
    go : (q : Bool) → nat_lt d 8 ≡ q → IsItemIf s d (aim_of aims d)
    go true e = a.own_items d (grind (arith, nat_tests))
    go false e =
        let far : 8 ≤ d = grind (arith, nat_tests) in
        let eight = a.eight in
        subst (λ (x : Option Item). IsItemIf s d x) (sym (past aims d (omega (arith, far, eight)))) tt

-- ---- whose the item of a link is, and what it can undo

abbrev pub IsCarriedOf : ScenarioValue → ℕ → Option CarriedBytes → Type 0
IsCarriedOf s dev None = ⊤
IsCarriedOf s dev (Some k) = is_of_host (command_at s.commands k.id.command) dev ≡ true

pub record IsOwned (s : ScenarioValue) (dev : ℕ) (l : Link) : Type 0 where
  pub initiator : l.initiator ≡ dev
  pub item : IsItemIf s dev l.item
  pub undo : IsCarriedOf s dev l.undo

abbrev pub IsOwnedIf : ScenarioValue → ℕ → Option Link → Type 0
IsOwnedIf s dev None = ⊤
IsOwnedIf s dev (Some l) = IsOwned s dev l

abbrev pub IsOwnedOn : ScenarioValue → Option Connection → Option Link → Type 0
IsOwnedOn s None l = ⊤
IsOwnedOn s (Some n) l = IsOwnedIf s n.initiator l

pub carried_own : (s : ScenarioValue) (dev : ℕ) (b : Story) (item : Option Item) → IsItemIf s dev item
    → IsCarriedOf s dev (carried_if b item)
carried_own s dev b None h = tt
carried_own s dev b (Some (process id)) h =
    (λ i. is_of_host (command_at s.commands (carried_id b.carried id i).command) dev) ∙ h
carried_own s dev b (Some (abort n)) h = tt

-- ---- the process that a target names is one of its pair

named_own : (s : ScenarioValue) (b : Sent) (dev target unit : ℕ) (tag : Option ℕ) (k : ℕ) (commands : List CmdDef)
    → ((j n : ℕ) → n ≡ j + k → command_at s.commands n ≡ command_at commands (suc j))
    → IsItemIf s dev (named_item_from b dev target unit tag k commands)
named_own s b dev target unit tag k [] h = tt
named_own s b dev target unit tag k (c ∷ commands) h = go (c.host == dev) refl
    (named_own s b dev target unit tag (k + 1) commands (λ j n e. h (suc j) n (omega (arith, e))))
  where
    here : (c.host == dev) ≡ true → is_of_host (command_at s.commands k) dev ≡ true
    here e = (λ i. is_of_host (h zero k (omega arith) i) dev) ∙ e

    pick : (c.host == dev) ≡ true → IsItemIf s dev (named_item_from b dev target unit tag (k + 1) commands)
        → (p q : Bool) → IsItemIf s dev (if p then Some (command_item k)
        else if q then Some (sense_item k) else named_item_from b dev target unit tag (k + 1) commands)
    pick e x true q = here e
    pick e x false true = here e
    pick e x false false = x

    go : (o : Bool) → (c.host == dev) ≡ o → IsItemIf s dev (named_item_from b dev target unit tag (k + 1) commands)
        → IsItemIf s dev
        (if (o && c.target == target && c.unit == unit) && is_open b k && same_number (tag_number c.tag) tag
        then Some (command_item k)
        else if (o && c.target == target && c.unit == unit) && is_open_sense b k && same_number None tag
        then Some (sense_item k) else named_item_from b dev target unit tag (k + 1) commands)
    go true e x = pick e x ((c.target == target && c.unit == unit) && is_open b k && same_number (tag_number c.tag) tag)
        ((c.target == target && c.unit == unit) && is_open_sense b k && same_number None tag)
    go false e x = x

named_first : (s : ScenarioValue) (b : Sent) (dev i target unit : ℕ) (tag : Option ℕ) → i ≡ dev
    → IsItemIf s dev (named_item_from b i target unit tag 1 s.commands)
named_first s b dev i target unit tag e =
    subst (λ (x : ℕ). IsItemIf s dev (named_item_from b x target unit tag 1 s.commands)) (sym e) (named_own s b dev
    target unit tag 1 s.commands (λ j n z. ap (λ (x : ℕ). command_at s.commands x) (omega (arith, z))))

-- After its name: of the same initiator, and of an item of that one.
pub record IsNamed (s : ScenarioValue) (dev : ℕ) (next : Link) : Type 0 where
  pub initiator : next.initiator ≡ dev
  pub item : IsItemIf s dev next.item

pub named : (s : ScenarioValue) (b : Sent) (dev : ℕ) (l : Link) (m : MsgIn) → IsOwned s dev l
    → IsNamed s dev (link_after_name b s.commands l m)
named s b dev l (to_initiator.Identify lun) h =
    record { initiator = h.initiator; item = named_first s b dev l.initiator l.target lun None h.initiator }
named s b dev l (to_initiator.SimpleTag n) h =
    record { initiator = h.initiator; item = named_first s b dev l.initiator l.target l.unit (Some n) h.initiator }
named s b dev l to_initiator.CommandComplete h = record { initiator = h.initiator; item = h.item }
named s b dev l to_initiator.SavePointer h = record { initiator = h.initiator; item = h.item }
named s b dev l to_initiator.RestorePointers h = record { initiator = h.initiator; item = h.item }
named s b dev l to_initiator.Disconnect h = record { initiator = h.initiator; item = h.item }
named s b dev l (to_initiator.Sdtr a) h = record { initiator = h.initiator; item = h.item }
named s b dev l to_initiator.Reject h = record { initiator = h.initiator; item = h.item }

-- ---- the link after a row

pub begun_link : (b : Story) (n : Connection) (l : Link) (item : Option Item)
    → (story_with_restored (story_with_sent (record b { link = Some l }) item) item).link ≡ Some l
begun_link b n l item =
    restored_link (story_with_sent (record b { link = Some l }) item) item ∙ sent_link (record b { link = Some l }) item

message_link : (s : ScenarioValue) (b : Story) (l : Link) (m : MsgIn) → (story_after_message s b l m).link ≡ Some l
message_link s b l m = carried_link (record b { link = Some l }) (carried_after_message_if (carried_if b l.item) m)

pub name_link : (s : ScenarioValue) (b : Story) (l next : Link) (m : MsgIn) → (story_after_name s b l next m).link
    ≡ Some (record next { last = last_in m; before = l.last; undo = carried_if b l.item })
name_link s b l next m = message_link s (if is_none l.item then story_with_restored b next.item else b)
    (record next { last = last_in m; before = l.last; undo = carried_if b l.item }) m

owned_by : (s : ScenarioValue) (dev : ℕ) (x : Option Link) (l : Link) → x ≡ Some l → IsOwned s dev l → IsOwnedIf s dev x
owned_by s dev x l e h = subst (λ (y : Option Link). IsOwnedIf s dev y) (sym e) h

crossing_owned : (s : ScenarioValue) (b : Story) (dev : ℕ) (l : Link) (d : RowReading) → b.link ≡ Some l
    → IsOwned s dev l → IsOwnedIf s dev (story_after_crossing s b l d).link
crossing_owned s b dev l d at h = go d.out d.into
  where
    go : (out : Option MsgOut) (into : Option MsgIn)
        → IsOwnedIf s dev (if is_some out then story_after_out b l out
        else if is_some into then story_after_in s b l into else story_after_byte b l d).link
    go (Some m) into =
        owned_by s dev _ _ (out_link b l m) (record { initiator = h.initiator; item = h.item; undo = h.undo })
    go None (Some m) =
        let x = named s b.sent dev l m h in
        owned_by s dev _ _ (name_link s b l (link_after_name b.sent s.commands l m) m)
        (record { initiator = x.initiator; item = x.item; undo = carried_own s dev b l.item h.item })
    go None None = owned_by s dev _ l (byte_link b l d ∙ at) h

connected_owned : (s : ScenarioValue) (b : Story) (dev : ℕ) (l : Option Link) (d : RowReading) (row : Row) → b.link ≡ l
    → IsOwnedIf s dev l → IsOwnedIf s dev (story_in_connection s b l d row).link
connected_owned s b dev None d row at h = subst (λ (x : Option Link). IsOwnedIf s dev x) (sym at) tt
connected_owned s b dev (Some l) d row at h = go d.crosses
  where
    go : (q : Bool) → IsOwnedIf s dev (if q then story_after_crossing s b l d else story_after_fault b l row.kind).link
    go true = crossing_owned s b dev l d at h
    go false = owned_by s dev _ l (fault_link b l row.kind ∙ at) h

begins_owned : (s : ScenarioValue) (b : Story) (n : Connection) → AreAims s b.aims
    → IsOwnedIf s n.initiator (story_after_connection b n).link
begins_owned s b n a = go n.reselected
  where
    go : (r : Bool)
        → IsOwnedIf s n.initiator (if r then record b { link = Some (link_of n None) } else story_with_restored
        (story_with_sent (record b { link = Some (link_of n (aim_of b.aims n.initiator)) }) (aim_of b.aims n.initiator))
        (aim_of b.aims n.initiator)).link
    go true = record { initiator = refl; item = tt; undo = tt }
    go false = owned_by s n.initiator _ _ (begun_link b n (link_of n (aim_of b.aims n.initiator))
        (aim_of b.aims n.initiator)) (record { initiator = refl; item = aim_own s b.aims n.initiator a; undo = tt })

-- ---- a connection that goes on is the same

pub same_connection : (old : Option Connection) (c : Option Call) (change : Change) (row : Row) (m n : Connection)
    → old ≡ Some m → connection_after old c change row ≡ Some n → m ≡ n
same_connection old c change row m n x y = go change.after.bsy ((λ i. connection_after (sym x i) c change row) ∙ y)
  where
    go : (q : Bool) → (if q then Some m else None) ≡ Some n → m ≡ n
    go true e = cc
    go false e = cc

change_owned : (s : ScenarioValue) (b : Story) (row : Row)
    → AreAims s b.aims → IsOwnedOn s b.bus_state.connection b.link
    → IsOwnedOn s (row_reading b.bus_state row).next (story_by_change s b (row_reading b.bus_state row) row).link
change_owned s b row a h = go (row_reading b.bus_state row).change.after.rst
  where
    nothing : (n : Option Connection) → IsOwnedOn s n None
    nothing None = tt
    nothing (Some n) = tt

    on_bus : (m n : Option Connection) → b.bus_state.connection ≡ m → (row_reading b.bus_state row).next ≡ n
        → IsOwnedOn s m b.link → IsOwnedOn s n (story_on_bus s b m n (row_reading b.bus_state row) row).link
    on_bus None None x y z = tt
    on_bus None (Some n) x y z = begins_owned s b n a
    on_bus (Some m) None x y z = tt
    on_bus (Some m) (Some n) x y z = subst (λ (o : Connection). IsOwnedIf s o.initiator
        (story_in_connection s b b.link (row_reading b.bus_state row) row).link)
        (same_connection b.bus_state.connection b.bus_state.call (row_reading b.bus_state row).change row m n x y)
        (connected_owned s b m.initiator b.link (row_reading b.bus_state row) row refl z)

    go : (q : Bool)
        → IsOwnedOn s (row_reading b.bus_state row).next (if q then record b { link = None } else story_on_bus s b
        b.bus_state.connection (row_reading b.bus_state row).next (row_reading b.bus_state row) row).link
    go true = nothing (row_reading b.bus_state row).next
    go false = on_bus b.bus_state.connection (row_reading b.bus_state row).next refl refl h

-- ---- events leave it

-- What an event that ends commands leaves.
pub record IsLeft (b c : Story) : Type 0 where
  pub link : c.link ≡ b.link
  pub carried : c.carried ≡ b.carried

left_twice : (a b c : Story) → IsLeft a b → IsLeft b c → IsLeft a c
left_twice a b c x y = record { link = y.link ∙ x.link; carried = y.carried ∙ x.carried }

pub ends_left : (drops stops : CmdDef → Bool) (e : Ending) (n : ℕ) (commands : List CmdDef) (b : Story)
    → IsLeft b (story_with_ends drops stops e n commands b)
unfolding step
ends_left drops stops e n [] b = record { link = refl; carried = refl }
ends_left drops stops e n (c ∷ commands) b = left_twice b (step drops stops e n c b)
    (story_with_ends drops stops e (n + 1) commands (step drops stops e n c b))
    (go (is_open b.sent n && drops c) (stops c && list_any (λ k. k == n) b.sent.checks))
    (ends_left drops stops e (n + 1) commands (step drops stops e n c b))
  where
    go : (p q : Bool) → IsLeft b (if p then story_with_end b (record { command = n; sense = false }) e
        else if q then story_with_over b (sense_item n) else b)
    go true q = record { link = refl; carried = refl }
    go false true = record { link = refl; carried = refl }
    go false false = record { link = refl; carried = refl }

pub end_left : (b : Story) (id : ProcId) (status : ℕ) (q : Bool)
    → IsLeft b (if q then record (story_with_end b id (by_status status)) {
      sent = record (story_with_end b id (by_status status)).sent { checks = b.sent.checks ++ id.command ∷ [] };
    } else story_with_end b id (by_status status))
end_left b id status true = record { link = refl; carried = refl }
end_left b id status false = record { link = refl; carried = refl }

-- ---- after all rows

pub links_are : (s : ScenarioValue) (rows : List Row) → AreOfDevices rows
    → IsOwnedOn s (run_state s rows).story.bus_state.connection (run_state s rows).story.link
links_are s [] h = tt
links_are s (row ∷ rows) h =
    let b : Story = (run_state s rows).story in
    let d : RowReading = row_reading b.bus_state row in
    subst (λ (x : Option Link). IsOwnedOn s d.next x)
    (sym (events_link s (story_by_change s b d row) (events_of_row s rows row)))
    (change_owned s b row (aims_are s rows h.1) (links_are s rows h.1))
