-- The data pointers of the process that is served as its connection begins; and whose bytes MESSAGE PARITY ERROR would
-- bring back.
use Rattle.story_laws.proofs
use proofs.Names.{◌≡◌, ◌⊎◌, inl, inr, ◌*◌, Bool, true, false, not, ◌&&◌, ◌∙◌, List, Option, Some, None, refl, sym, ap}
use proofs.Names.{subst, same_Some, if◌then◌else◌, is_some, ProcId, is_message_in, receiver_in, Row, Change, Connection}
use proofs.Names.{ScenarioValue, Tag, Process, carried_id, byte_link, out_link, events_link, first_link as begun_link}
use proofs.Names.{fault_link, RowReading, row_reading, Area, CarriedBytes, carried_of, with_restored_pointers}
use proofs.Names.{carried_if, row_events_by, Item, process, abort, has_item, Link, link_of, link_after_name, Story}
use proofs.Names.{aim_of, story_with_restored, story_with_sent, story_after_connection, story_in_connection}
use proofs.Names.{story_on_bus, story_by_change, Exchange, phase_of, Ready, naming_messages, Messages, ProcessProgress}
use proofs.Names.{progress_in, RunState, bus_of, carried_here, run_state_after, progress_after, leaving_of}
use proofs.Names.{exchange_after, first_exchange, served_after, item_if, messages_if, ready_of, put_own, link_after}
use proofs.Names.{OnMessages, Knows, IsFirstRow, IsRowIn, reading_in, none_some, in_phase, StoryWay, story_way}
use proofs.Names.{is_marked, run_policy, run_start, run_step, IsPlainIn, PointersIf, IsWaiting, ServedPointers, unnamed}
use proofs.{Names.{named, UndoesServed, IsServedAnew}, Pointers.{Steps.{in_link}, Stories.{SamePointers, events_same}}}
use Rattle.row_laws.proofs.Common.StoryWays as ways

-- ---- the first row

first_story : (s : ScenarioValue) (k : RunState) (row : Row) (n : Connection) → IsFirstRow k row n
    → story_by_change s k.story (row_reading k.story.bus_state row) row ≡ story_after_connection k.story n
first_story s k row n h =
    let d = row_reading k.story.bus_state row in
    ap (λ (q : Bool). if q then record k.story { link = None }
    else story_on_bus s k.story k.story.bus_state.connection d.next d row) h.calm
    ∙ (λ i. story_on_bus s k.story (h.connection_is i) (h.next_is i) d row)

first_link : (s : ScenarioValue) (k : RunState) (row : Row) (n : Connection) → IsFirstRow k row n
    → (run_state_after s k row).story.link
    ≡ Some (link_of n (if n.reselected then None else aim_of k.story.aims n.initiator))
first_link s k row n h =
    let d = row_reading k.story.bus_state row in
    events_link s (story_by_change s k.story d row) (row_events_by s k.story d row)
    ∙ ap (λ (x : Story). x.link) (first_story s k row n h) ∙ begun_link k.story n

first_carried : (s : ScenarioValue) (k : RunState) (row : Row) (n : Connection) (id : ProcId) → IsFirstRow k row n
    → SamePointers (carried_here (run_state_after s k row) id)
    (carried_of (story_after_connection k.story n).carried id)
first_carried s k row n id h =
    let d = row_reading k.story.bus_state row in
    subst (λ (x : Story). SamePointers (carried_here (run_state_after s k row) id) (carried_of x.carried id))
    (first_story s k row n h) (events_same s (story_by_change s k.story d row) (row_events_by s k.story d row) id)

pub first_made : (s : ScenarioValue) (k : RunState) (row : Row) (n : Connection) → IsFirstRow k row n
    → (run_state_after s k row).exchange ≡ first_exchange s k n (aim_of k.story.aims n.initiator)
first_made s k row n h = λ i. exchange_after s k row (row_reading k.story.bus_state row) (h.connection_is i)
    (h.next_is i) (leaving_of s k k.story.bus_state.connection)

pub first_served : (s : ScenarioValue) (k : RunState) (row : Row) (n : Connection) → IsFirstRow k row n
    → (run_state_after s k row).served
    ≡ (if n.reselected then item_if (ready_of s k n.target) else aim_of k.story.aims n.initiator)
first_served s k row n h = λ i. served_after s k (h.connection_is i) (h.next_is i)

first_start : (s : ScenarioValue) (k : RunState) (row : Row) (n : Connection) (q : Process) → IsFirstRow k row n
    → run_start s (run_state_after s k row) q ≡ run_start s k q
first_start s k row n q h =
    ap (λ (x : List ProcessProgress). (progress_in x q.id).runs * run_step s q) (λ i. progress_after s k
    (row_reading k.story.bus_state row) (h.connection_is i) (h.next_is i) (leaving_of s k k.story.bus_state.connection))

-- The names of a process end no connection.
plain_names : (c : Process) → OnMessages IsPlainIn (naming_messages c)
plain_names c = go c.tag
  where
    go : (t : Tag) → OnMessages IsPlainIn (naming_messages (record c { tag = t }))
    go Tag.Untagged = (refl, tt)
    go _ = (refl, refl)

pub none_item : {A : Type 0} (id : ProcId) → (let o : Option Item = None in o) ≡ Some (process id) → A
none_item id e = absurd cc

pub same_process : (a b : ProcId) → (let o : Option Item = Some (process a) in o) ≡ Some (process b) → a ≡ b
same_process a b e = cc

pub begins_served : (s : ScenarioValue) (k : RunState) (row : Row) (n : Connection) (q : Process) → IsFirstRow k row n
    → (n.reselected ≡ true → is_message_in (row_reading k.story.bus_state row).change.after ≡ true) → IsServedAnew s k n
    → (run_state_after s k row).served ≡ Some (process q.id) → IsWaiting s k q
    → ServedPointers s (run_state_after s k row) q
begins_served s k row n q h names anew served waits = go n.reselected refl (sym (first_served s k row n h) ∙ served)
  where
    j : RunState
    j = run_state_after s k row

    begun : j.exchange.begun ≡ n.reselected
    begun = ap (λ (x : Exchange). x.begun) (first_made s k row n h)

    start : run_start s j q ≡ run_start s k q
    start = first_start s k row n q h

    selected : n.reselected ≡ false → aim_of k.story.aims n.initiator ≡ Some (process q.id) → ServedPointers s j q
    selected e aim =
        let open_is = anew.selects e q.id aim in
        let from : (carried_here k q.id).moved.saved ≡ run_start s k q = waits.saved open_is.0 open_is.1 in
        let there : carried_of (story_after_connection k.story n).carried q.id
        ≡ with_restored_pointers (carried_here k q.id) =
        (λ i. carried_of (if e i then record k.story { link = Some (link_of n None) } else story_with_restored
        (story_with_sent (record k.story { link = Some (link_of n (aim i)) }) (aim i)) (aim i)).carried q.id)
        ∙ put_own k.story.carried (with_restored_pointers (carried_here k q.id)) q.id
        (carried_id k.story.carried q.id) in
        let moved : (carried_here j q.id).moved ≡ (with_restored_pointers (carried_here k q.id)).moved =
        (first_carried s k row n q.id h).moved ∙ ap (λ (x : CarriedBytes). x.moved) there in
        let l : Link = link_of n (aim_of k.story.aims n.initiator) in
        named l (first_link s k row n h
        ∙ ap (λ (x : Bool). Some (link_of n (if x then None else aim_of k.story.aims n.initiator))) e) aim
        (subst (λ (x : Bool). PointersIf x (run_policy s q) l (carried_here j q.id) j.exchange.plan j.handshakes
        (run_start s j q) (phase_of (bus_of j))) (sym (begun ∙ e)) (record {
          here = record {
            active = ap (λ (x : Area). x.active) moved ∙ from ∙ sym start;
            saved = ap (λ (x : Area). x.saved) moved ∙ from ∙ sym start;
          };
          undone = tt;
        }))

    again : n.reselected ≡ true → (r : Option Ready) → ready_of s k n.target ≡ r → item_if r ≡ Some (process q.id)
        → ServedPointers s j q
    again e None er f = none_item q.id f
    again e (Some r) er f =
        let id : r.process.id ≡ q.id = same_process r.process.id q.id f in
        let open_is = anew.reselects e r er in
        let from : (carried_here k q.id).moved.saved ≡ run_start s k q = waits.saved
        (ap (λ (x : ProcId). has_item k.story.sent.over (process x)) (sym id) ∙ open_is.0)
        (ap (λ (x : ProcId). is_marked (carried_here k x)) (sym id) ∙ open_is.1) in
        let there : carried_of (story_after_connection k.story n).carried q.id ≡ carried_here k q.id = ap
        (λ (x : Bool). carried_of (if x then record k.story { link = Some (link_of n None) }
        else story_with_restored (story_with_sent (record k.story {
          link = Some (link_of n (aim_of k.story.aims n.initiator));
        }) (aim_of k.story.aims n.initiator)) (aim_of k.story.aims n.initiator)).carried q.id) e in
        let made = first_made s k row n h in
        unnamed (link_of n None) (first_link s k row n h
        ∙ ap (λ (x : Bool). Some (link_of n (if x then None else aim_of k.story.aims n.initiator))) e) refl (record {
          begun = begun ∙ e;
          undone = tt;
          undisturbed = inr (refl, refl);
          next = ap (λ (x : Exchange). x.plan.next) made
              ∙ ap (λ (x : Bool). (Rattle.due_model.specs.dialogue_model.specs.Planning.first_plan x
              (not n.reselected && Rattle.due_model.specs.RunSteps.may_negotiate k n (aim_of k.story.aims n.initiator))
              (Rattle.due_model.specs.RunSteps.naming_of s k n)).next) e;
          plain = subst (λ (x : Messages). OnMessages IsPlainIn x) (sym (ap (λ (x : Exchange). x.plan.messages) made
              ∙ ap (λ (x : Bool). (Rattle.due_model.specs.dialogue_model.specs.Planning.first_plan x
              (not x && Rattle.due_model.specs.RunSteps.may_negotiate k n (aim_of k.story.aims n.initiator))
              (if x then messages_if (ready_of s k n.target)
              else Rattle.due_model.specs.dialogue_model.specs.Exchange.no_messages)).messages) e ∙ ap messages_if er))
              (plain_names r.process);
          saved = ap (λ (x : Area). x.saved) (first_carried s k row n q.id h).moved
              ∙ ap (λ (x : CarriedBytes). x.moved.saved) there ∙ from ∙ sym start;
          phase = inl (in_phase (row_reading k.story.bus_state row).change.after (names e));
        })

    go : (b : Bool) → n.reselected ≡ b
        → (if n.reselected then item_if (ready_of s k n.target) else aim_of k.story.aims n.initiator)
        ≡ Some (process q.id) → ServedPointers s j q
    go false e f = selected e
        (sym (ap (λ (x : Bool). if x then item_if (ready_of s k n.target) else aim_of k.story.aims n.initiator) e) ∙ f)
    go true e f = again e (ready_of s k n.target) refl
        (sym (ap (λ (x : Bool). if x then item_if (ready_of s k n.target) else aim_of k.story.aims n.initiator) e) ∙ f)

-- ---- what would be brought back

pub begins_undoes : (s : ScenarioValue) (k : RunState) (row : Row) (n : Connection) → IsFirstRow k row n
    → UndoesServed (run_state_after s k row)
begins_undoes s k row n h l u el eu =
    let is = same_Some (link_of n (if n.reselected then None else aim_of k.story.aims n.initiator)) l
    (sym (first_link s k row n h) ∙ el) in
    none_some u (ap (λ (x : Link). x.undo) is ∙ eu)

pub goes_undoes : (s : ScenarioValue) (k : RunState) (row : Row) (n : Connection) (c : Change) (now : Bool)
    → IsRowIn k row n c → is_some (receiver_in n c) ≡ now → Knows s k n → (run_state_after s k row).served ≡ k.served
    → UndoesServed k → UndoesServed (run_state_after s k row)
goes_undoes s k row n c now r en knows served h l u el eu = served
    ∙ go (story_way s k.story knows.link d row) (sym (link_after s k row n c now r en
    ∙ ap (λ (x : Option Link). (story_in_connection s k.story x d row).link) knows.link_is) ∙ el)
  where
    d : RowReading
    d = reading_in k.story.bus_state n c now

    same : knows.link ≡ l → k.served ≡ Some (process u.id)
    same e = h knows.link u knows.link_is (ap (λ (x : Link). x.undo) e ∙ eu)

    -- of what the process has carried
    told : (item : Option Item) → knows.link.item ≡ item → carried_if k.story item ≡ Some u
        → k.served ≡ Some (process u.id)
    told None e f = none_some u f
    told (Some (abort x)) e f = none_some u f
    told (Some (process x)) e f = by knows.item_is
      where
        id : x ≡ u.id
        id = sym (carried_id k.story.carried x)
            ∙ ap (λ (y : CarriedBytes). y.id) (same_Some (carried_of k.story.carried x) u f)

        by : (knows.link.item ≡ k.served) ⊎ ((n.reselected ≡ true) × (knows.link.item ≡ None))
            → k.served ≡ Some (process u.id)
        by (inl z) = sym z ∙ e ∙ ap (λ (y : ProcId). Some (process y)) id
        by (inr z) = none_item x (sym z.1 ∙ e)

    go : {after : Story} → StoryWay s k.story knows.link d row after → after.link ≡ Some l
        → k.served ≡ Some (process u.id)
    go (ways.stays _) e =
        same (same_Some knows.link l (sym (fault_link k.story knows.link row.kind ∙ knows.link_is) ∙ e))
    go (ways.says o _ _) e = h knows.link u knows.link_is (ap (λ (x : Link). x.undo) (same_Some (record knows.link {
      last = Rattle.due_model.specs.story_model.specs.Links.last_out o knows.link;
    }) l (sym (out_link k.story knows.link o) ∙ e)) ∙ eu)
    go (ways.carries _ _ _) e = same (same_Some knows.link l (sym (byte_link k.story knows.link d ∙ knows.link_is) ∙ e))
    go (ways.hears m _ _ _) e = told knows.link.item refl
        (ap (λ (x : Link). x.undo) (same_Some (record (link_after_name k.story.sent s.commands knows.link m) {
          last = Rattle.due_model.specs.story_model.specs.Links.last_in m;
          before = knows.link.last;
          undo = carried_if k.story knows.link.item;
        }) l (sym (in_link s k.story knows.link m) ∙ e)) ∙ eu)
