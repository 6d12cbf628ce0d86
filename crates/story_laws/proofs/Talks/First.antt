-- What holds of the process of a connection holds as it begins.
use Rattle.story_laws.proofs
use proofs.Names.{inr, ◌≡◌, Bool, true, false, not, ◌&&◌, ◌∙◌, List, [], ◌∷◌, Option, Some, None, refl, sym, ap, subst}
use proofs.Names.{same_Some, if◌then◌else◌, wrong, wrong', Event, rises, Row, Connection, MsgIn, ScenarioValue, Tag}
use proofs.Names.{tag_number, Process, events_link, row_reading, link_events, row_events_by, Item, process, abort}
use proofs.Names.{has_item, Sent, Link, link_of, Story, story_after_events, aim_of, story_with_restored}
use proofs.Names.{story_with_sent, story_after_connection, story_on_bus, story_by_change, Exchange, no_messages}
use proofs.Names.{first_plan, Ready, tag_named, naming_messages, Messages, Next, RunState, run_state_after}
use proofs.Names.{array_after_events, messages_if, item_if, first_exchange, may_negotiate, exchange_after, served_after}
use proofs.Names.{leaving_of, ready_of, first_requests, OnMessage, OnMessages, IsFirstRow, Begins, by_bool, IsQueued}
use proofs.Names.{plans_well, is_sense_item, talk_of, IsNameOf, last_well, TalksBy, Talks}

-- ---- what the row makes of what is sent, of the array and of the link

-- The item that is sent with it, if it begins a selection.
abbrev pub sent_with : Sent → Option Item → Sent
sent_with b None = b
sent_with b (Some item) = record b { sent = item ∷ b.sent }

pub record FirstSent (s : ScenarioValue) (k : RunState) (row : Row) (n : Connection) : Type 0 where
  pub sent : (run_state_after s k row).story.sent
      ≡ (if n.reselected then k.story.sent else sent_with k.story.sent (aim_of k.story.aims n.initiator))
  pub array : (run_state_after s k row).array ≡ k.array
  pub served : (run_state_after s k row).served
      ≡ (if n.reselected then item_if (ready_of s k n.target) else aim_of k.story.aims n.initiator)
  pub link : (run_state_after s k row).story.link
      ≡ Some (link_of n (if n.reselected then None else aim_of k.story.aims n.initiator))

pub first_sent : (s : ScenarioValue) (k : RunState) (row : Row) (n : Connection) → IsFirstRow k row n
    → k.story.link ≡ None → FirstSent s k row n
first_sent s k row n h none = record {
  sent = ap (λ (x : List Event).
      (story_after_events s (story_by_change s k.story (row_reading k.story.bus_state row) row) x).sent) shown
      ∙ changed ∙ made;
  array = ap (λ (x : List Event). array_after_events s k.array x) shown;
  served = λ i. served_after s k (h.connection_is i) (h.next_is i);
  link = events_link s (story_by_change s k.story (row_reading k.story.bus_state row) row)
      (row_events_by s k.story (row_reading k.story.bus_state row) row)
      ∙ by_change (λ b. b.link) ∙ linked;
}
  where
    by_change : {A : Type 0} (f : Story → A)
        → f (story_by_change s k.story (row_reading k.story.bus_state row) row) ≡ f (story_after_connection k.story n)
    by_change f = ap (λ (q : Bool). f (if q then record k.story { link = None } else story_on_bus s k.story
        k.story.bus_state.connection (row_reading k.story.bus_state row).next (row_reading k.story.bus_state row) row))
        h.calm
        ∙ (λ i. f (story_on_bus s k.story (h.connection_is i) (h.next_is i) (row_reading k.story.bus_state row) row))

    linked : (story_after_connection k.story n).link
        ≡ Some (link_of n (if n.reselected then None else aim_of k.story.aims n.initiator))
    linked = go n.reselected (aim_of k.story.aims n.initiator)
      where
        restored_link : (b : Story) (item : Option Item) → (story_with_restored b item).link ≡ b.link
        restored_link b None = refl
        restored_link b (Some (process id)) = refl
        restored_link b (Some (abort m)) = refl

        sent_link : (b : Story) (item : Option Item) → (story_with_sent b item).link ≡ b.link
        sent_link b None = refl
        sent_link b (Some item) = refl

        go : (q : Bool) (item : Option Item) → (if q then record k.story { link = Some (link_of n None) }
            else story_with_restored (story_with_sent (record k.story { link = Some (link_of n item) }) item) item).link
            ≡ Some (link_of n (if q then None else item))
        go true item = refl
        go false item = restored_link (story_with_sent (record k.story { link = Some (link_of n item) }) item) item
            ∙ sent_link (record k.story { link = Some (link_of n item) }) item

    shown : row_events_by s k.story (row_reading k.story.bus_state row) row ≡ []
    shown = ap (λ (q : Bool). if q then (if rises (row_reading k.story.bus_state row).change.own.rst
        (row_reading k.story.bus_state row).change.next.rst then Event.Reset row.dev ∷ [] else [])
        else link_events s k.story k.story.link (row_reading k.story.bus_state row)) h.calm
        ∙ ap (λ (x : Option Link). link_events s k.story x (row_reading k.story.bus_state row)) none

    changed : (story_by_change s k.story (row_reading k.story.bus_state row) row).sent
        ≡ (story_after_connection k.story n).sent
    changed = by_change (λ b. b.sent)

    restored : (b : Story) (item : Option Item) → (story_with_restored b item).sent ≡ b.sent
    restored b None = refl
    restored b (Some (process id)) = refl
    restored b (Some (abort m)) = refl

    by_item : (b : Story) (item : Option Item) → (story_with_sent b item).sent ≡ sent_with b.sent item
    by_item b None = refl
    by_item b (Some item) = refl

    made : (story_after_connection k.story n).sent
        ≡ (if n.reselected then k.story.sent else sent_with k.story.sent (aim_of k.story.aims n.initiator))
    made = go n.reselected (aim_of k.story.aims n.initiator)
      where
        go : (q : Bool) (item : Option Item) → (if q then record k.story { link = Some (link_of n None) }
            else story_with_restored (story_with_sent (record k.story { link = Some (link_of n item) }) item) item).sent
            ≡ (if q then k.story.sent else sent_with k.story.sent item)
        go true item = refl
        go false item = restored (story_with_sent (record k.story { link = Some (link_of n item) }) item) item
            ∙ by_item (record k.story { link = Some (link_of n item) }) item

-- ---- the talk

names_well : (c : Process) (next : Next) → plans_well false (naming_messages c) next ≡ true
names_well c next = go c.tag
  where
    go :
        (t : Tag) → plans_well false (record { first = Some (MsgIn.Identify c.unit); second = tag_named t }) next ≡ true
    go Tag.Untagged = refl
    go _ = refl

are_names : (c : Process) → OnMessages (IsNameOf c) (naming_messages c)
are_names c = (refl, go c.tag refl)
  where
    go : (t : Tag) → c.tag ≡ t → OnMessage (IsNameOf c) (tag_named t)
    go Tag.Untagged e = tt
    go _ e = ap tag_number e

fresh_link : (sense : Bool) (n : Connection) (item : Option Item) → last_well sense (link_of n item) ≡ true
fresh_link true n item = refl
fresh_link false n item = refl

none_well : (sense q : Bool)
    → plans_well sense (first_plan false q no_messages).messages (first_plan false q no_messages).next ≡ true
none_well true q = refl
none_well false q = refl

-- It is open, and after a reselection it waits in a queue of the plain disk array.
pub record BeginsOpen (s : ScenarioValue) (k : RunState) (n : Connection) : Type 0 where
  pub fresh : n.reselected ≡ false → (i : Item) → aim_of k.story.aims n.initiator ≡ Some i
      → has_item k.story.sent.over i ≡ false
  pub queued : n.reselected ≡ true → (r : Ready) → ready_of s k n.target ≡ Some r → IsQueued s k.story.sent r.process

pub talks_first : (s : ScenarioValue) (k : RunState) (row : Row) (n : Connection) → Begins s k row n
    → k.story.link ≡ None → BeginsOpen s k n → Talks s (run_state_after s k row) n
talks_first s k row n g none opens m em = by_bool n.reselected
    (λ e. subst (λ (x : Link). TalksBy s (talk_of j) n x) (same_Some (link_of n None) m
    (sym (link ∙ ap (λ (q : Bool). Some (link_of n (if q then None else aim_of k.story.aims n.initiator))) e) ∙ em))
    (reselects e))
    (λ e. subst (λ (x : Link). TalksBy s (talk_of j) n x) (same_Some (link_of n (aim_of k.story.aims n.initiator)) m
    (sym (link ∙ ap (λ (q : Bool). Some (link_of n (if q then None else aim_of k.story.aims n.initiator))) e) ∙ em))
    (selects e))
  where
    j : RunState
    j = run_state_after s k row

    h : IsFirstRow k row n
    h = g.first

    f : FirstSent s k row n
    f = first_sent s k row n h none

    link : j.story.link ≡ Some (link_of n (if n.reselected then None else aim_of k.story.aims n.initiator))
    link = f.link

    made : j.exchange ≡ first_exchange s k n (aim_of k.story.aims n.initiator)
    made = λ i. exchange_after s k row (row_reading k.story.bus_state row) (h.connection_is i) (h.next_is i)
        (leaving_of s k k.story.bus_state.connection)

    -- in either direction
    over_of : (q : Bool) → n.reselected ≡ q → (i : Item) → has_item j.story.sent.over i ≡ has_item k.story.sent.over i
    over_of q e i = ap (λ (x : Sent). has_item x.over i) (f.sent
        ∙ ap (λ (r : Bool). if r then k.story.sent else sent_with k.story.sent (aim_of k.story.aims n.initiator)) e)
        ∙ by q (aim_of k.story.aims n.initiator)
      where
        by : (r : Bool) (item : Option Item)
            → has_item (if r then k.story.sent else sent_with k.story.sent item).over i ≡ has_item k.story.sent.over i
        by true item = refl
        by false None = refl
        by false (Some item) = refl

    selects : n.reselected ≡ false → TalksBy s (talk_of j) n (link_of n (aim_of k.story.aims n.initiator))
    selects e =
        let served : j.served ≡ aim_of k.story.aims n.initiator = f.served
        ∙ ap (λ (q : Bool). if q then item_if (ready_of s k n.target) else aim_of k.story.aims n.initiator) e in
        let plan = ap (λ (x : Exchange). x.plan) made
        ∙ ap (λ (q : Bool). first_plan q (not q && may_negotiate k n (aim_of k.story.aims n.initiator))
        (if q then messages_if (ready_of s k n.target) else no_messages)) e in
        record {
          planned = (λ i. plans_well (is_sense_item j.served) (plan i).messages (plan i).next)
              ∙ none_well (is_sense_item j.served) (may_negotiate k n (aim_of k.story.aims n.initiator));
          last = fresh_link (is_sense_item j.served) n (aim_of k.story.aims n.initiator);
          completes = λ z. wrong' z;
          over = λ i ei o. wrong (sym o ∙ over_of false e i ∙ opens.fresh e i (sym served ∙ ei));
          closes = λ rs z here id ei. wrong' z;
          selected = λ z. e;
          names = λ r. wrong (sym r ∙ e);
        }

    reselects : n.reselected ≡ true → TalksBy s (talk_of j) n (link_of n None)
    reselects e =
        let r = g.reselects e in
        let c : Process = r.ready.process in
        let q : IsQueued s k.story.sent c = opens.queued e r.ready r.ready_is in
        let served : j.served ≡ Some (process c.id) = f.served
        ∙ ap (λ (x : Bool). if x then item_if (ready_of s k n.target) else aim_of k.story.aims n.initiator) e
        ∙ ap item_if r.ready_is in
        let plan = ap (λ (x : Exchange). x.plan) made
        ∙ ap (λ (x : Bool). first_plan x (not x && may_negotiate k n (aim_of k.story.aims n.initiator))
        (if x then messages_if (ready_of s k n.target) else no_messages)) e
        ∙ ap (λ (x : Option Ready). first_plan true false (messages_if x)) r.ready_is in
        let same : r.process ≡ c = same_Some r.process c (sym r.process_is ∙ q.is) in
        record {
          planned = (λ i. plans_well (is_sense_item (served i)) (plan i).messages (plan i).next)
              ∙ ap (λ (x : Bool). plans_well x (naming_messages c) Next.GoOn) q.command ∙ names_well c Next.GoOn;
          last = fresh_link (is_sense_item j.served) n None;
          completes = λ z. wrong' z;
          over = λ i ei o. wrong (sym o ∙ over_of true e i
              ∙ ap (has_item k.story.sent.over) (same_Some i (process c.id) (sym ei ∙ served)) ∙ q.opens);
          closes = λ rs z here id ei. wrong' z;
          selected = λ z. wrong (sym z ∙ ap is_sense_item served ∙ q.command);
          names = λ rs. record {
            named = c;
            served_is = served;
            is = q.is;
            command = q.command;
            initiator_is = ap (λ (x : Process). x.initiator) (sym same) ∙ r.initiator_is;
            target_is = ap (λ (x : Process). x.target) (sym same) ∙ r.target_is;
            messages = subst (λ (x : Messages). OnMessages (IsNameOf c) x) (sym (λ i. (plan i).messages)) (are_names c);
            unit = inr (record {
              here = g.names e;
              begun = ap (λ (x : Exchange). x.begun) made ∙ e;
              none_asked = first_requests s k row n h;
              first = (λ i. (plan i).messages.first);
              small = r.unit_in;
            });
          };
        }
