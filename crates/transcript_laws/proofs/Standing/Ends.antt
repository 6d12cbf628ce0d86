-- A connection ends with BUS FREE: what stands after it.
use Rattle.transcript_laws.proofs
use proofs.Names.{ℕ, ◌≡◌, ◌∙◌, ◌<◌, ◌==◌, Bool, true, false, not, ◌&&◌, List, [], ◌∷◌, ◌++◌, length, reverse, Option}
use proofs.Names.{Some, None, refl, sym, ap, subst, ◌||◌, eqb-true, append_assoc, append-nil, same_Some, is_some}
use proofs.Names.{is_none, if◌then◌else◌, wrong, wrong', and_first, and_second, Event, ProcId, rises, is_command}
use proofs.Names.{Connection, Row, MsgOut, ScenarioValue, AbortDef, same_number, same_id, ends_keep, events_link}
use proofs.Names.{events_sent, RowReading, row_reading, bus_state_after, CarriedBytes, carried_of, abort_line_at}
use proofs.Names.{abort_line_events, item_abort_events, connection_events, bus_free_events, link_events, Item, process}
use proofs.Names.{abort, has_item, Link, LastMessage, plain, complete, disconnect, abortive, Story, by_abort}
use proofs.Names.{is_aborted, is_sense_stopped, story_after_events, story_on_bus, story_with_history, story_with}
use proofs.Names.{story_by, story, kinds_are, same_kind, is_open_in, events_grow, name_same, account_of, names_begun}
use proofs.Names.{name_sent, Key, kind_of, OpenedValue, process_after, with_process, with_last, same_nexus}
use proofs.Names.{TranscriberValue, name_of, abort_item, with_items, closed_if, under_reset, on_bus, by_change}
use proofs.Names.{transcribed, Name, Part, Process, Departure, Loss, Leave, Abortion, Summary, HasProcess, IsKept}
use proofs.Names.{AreNumbered, are_talk, base_parts, is_known, summary_by, nexus_of, name_process, AreOwnEvents, IsPast}
use proofs.Names.{is_departure, is_abortion, is_line, fits_end, IsAsBegun, IsServing, sent_order, AreKept, no_process}
use proofs.Names.{IsAlone, IsBegun, first, again, IsFrom, anew, kept, Stage, of_abort, of_none, of_process}
use proofs.{Names.{StandsLinked, Standing, account_base, IsKeptOf, IsMarked, shown_items}, Accounts.Items.{parts_name}}
use proofs.{Parts.Shown.{talk_more}, Past.Closings.{account_by, closing_is, closing_shown, departure_items}}
use proofs.Past.Closings.{leaving_items, process_for, connection_items, closed_items, closed_processes}
use proofs.Past.{Others.{free_openly, abort_past}, Own.{Leaves, loses, leaves, IsClosing, first_past, again_past}}
use proofs.Processes.{Apart.{sent_apart}, Kept.{account_kept, kept_later}, Last.{optional_is}, Numbers.{process_at}}
use proofs.{Processes.Sent.{name_own}, Standing.{Buses.{reading_same, buses_alike}, Closed.{nexus_same, new_nexus}}}
use proofs.Standing.Closed.{closed_numbered, closed_opened, parts_left, closed_left, left_closed, closed_names}
use proofs.Standing.{Linked.{story_on, grown_opens}, Out.{four_true}, Over.{over_next, put_kept, IsNamed}}
use proofs.Standing.{Over.{named_process}, Past.{own_number, named_sent, process_new, process_kept, closing}}
use Rattle.bus_transcript.specs.Processes.{process_of}
use Rattle.due_model.specs.array_model.specs.Processes as array_of
use Rattle.bus_transcript.specs.declared.item.Item as item_of
use Rattle.bus_transcript.specs.declared.item.Item.TheVariants as items

-- ---- the row

pub record EndRow (s : ScenarioValue) (rows : List Row) (row : Row)
    (h : StandsLinked s (transcribed rows) (story s rows)) : Type 0 where
  pub off : (row_reading (story s rows).bus_state row).change.after.rst ≡ false
  pub next : (row_reading (story s rows).bus_state row).next ≡ None
  pub fits : fits_end s (story s rows) h.opened h.link (parts_left s rows h.opened) h.link.item ≡ true
  pub less : length (names_begun (transcribed rows).items) < 4294967290
  pub numbered : AreNumbered (transcribed rows).processes (names_begun (transcribed rows).items)
  pub marked : (x : ProcId) → IsMarked (story s rows).history (carried_of (story s rows).carried x)

end_change : (t : TranscriberValue) (d : RowReading) (row : Row) (m : Connection)
    → d.change.after.rst ≡ false → t.bus_state.connection ≡ Some m → d.next ≡ None
    → by_change t d row ≡ with_items (closed_if t t.opened d true) (items.Free row.time ∷ [])
unfolding by_change
end_change t d row m off con next = λ i. if off i then under_reset t d row else on_bus t (con i) (next i) d row

end_story : (s : ScenarioValue) (b : Story) (row : Row) (d : RowReading) (m : Connection) (l : Link)
    → d.change.after.rst ≡ false → b.bus_state.connection ≡ Some m → d.next ≡ None → b.link ≡ Some l
    → story_by s b row d
    ≡ story_with_history (story_after_events s (record b { link = None }) (bus_free_events s l l.last))
    (bus_state_after b.bus_state row d) (bus_free_events s l l.last) b.history
end_story s b row d m l off con next link = ap (λ (shown : List Event). story_with s b row d shown)
    ((λ i. if off i then (if rises d.change.own.rst d.change.next.rst then Event.Reset row.dev ∷ [] else [])
    else link_events s b (link i) d)
    ∙ (λ i. if is_some (next i) then connection_events s b l d else bus_free_events s l l.last))
    ∙ (λ i. story_with_history (story_after_events s
    (if off i then record b { link = None } else story_on_bus s b (con i) (next i) d row) (bus_free_events s l l.last))
    (bus_state_after b.bus_state row d) (bus_free_events s l l.last) b.history)

-- The story before its events.
abbrev apart_story : ScenarioValue → List Row → Story
apart_story s rows = record (story s rows) { link = None }

end_transcript :
    (s : ScenarioValue) (rows : List Row) (row : Row) (h : StandsLinked s (transcribed rows) (story s rows))
    → EndRow s rows row h → by_change (transcribed rows) (row_reading (transcribed rows).bus_state row) row
    ≡ with_items (closed_left s rows h.opened true) (items.Free row.time ∷ [])
end_transcript s rows row h r =
    let w = buses_alike s rows in
    let same = reading_same (transcribed rows).bus_state (story s rows).bus_state row w in
    end_change (transcribed rows) (row_reading (transcribed rows).bus_state row) row h.opened.connection
    (ap (λ (d : RowReading). d.change.after.rst) same ∙ r.off)
    (w.connection ∙ h.connection_is) (ap (λ (d : RowReading). d.next) same ∙ r.next)
    ∙ ap (λ (u : TranscriberValue). with_items u (items.Free row.time ∷ [])) (left_closed s rows row h true)

-- With these events.
end_story_is : (s : ScenarioValue) (rows : List Row) (row : Row) (h : StandsLinked s (transcribed rows) (story s rows))
    (shown : List Event) → EndRow s rows row h → bus_free_events s h.link h.link.last ≡ shown
    → story s (row ∷ rows) ≡ story_on s rows row (story_after_events s (apart_story s rows) shown) shown
end_story_is s rows row h shown r e = end_story s (story s rows) row
    (row_reading (story s rows).bus_state row) h.opened.connection h.link r.off h.connection_is r.next h.link_is
    ∙ ap (λ (list : List Event). story_on s rows row (story_after_events s (apart_story s rows) list) list) e

-- ---- the connection of a process

-- The name and the departure of the connection are those of its process.
record Ended (s : ScenarioValue) (rows : List Row) (h : StandsLinked s (transcribed rows) (story s rows))
    (id : ProcId) : Type 0 where
  plain : is_none (summary_by h.opened.connection (parts_left s rows h.opened)).abort ≡ true
  named : name_process s h.opened.connection (parts_left s rows h.opened) id ≡ true
  departs : is_departure (summary_by h.opened.connection (parts_left s rows h.opened)).departure h.link.last ≡ true

abbrev sum_left : ScenarioValue → List Row → OpenedValue → Summary
sum_left s rows o = summary_by o.connection (parts_left s rows o)

-- Its events as BUS FREE comes.
leaves_by : (s : ScenarioValue) (l : Link) (id : ProcId) (name : Name)
    (sum : Summary) (departure : Departure) (last : LastMessage)
    → sum.departure ≡ departure → l.last ≡ last → is_departure departure last ≡ true → l.item ≡ Some (process id)
    → Leaves id name (leaving_items true name sum) (bus_free_events s l l.last)
leaves_by s l id name sum Loss plain e f g is = subst (λ (shown : List Event). Leaves id name
    (leaving_items true name sum) shown) (sym (ap (λ (x : LastMessage). bus_free_events s l x) f
    ∙ ap (λ (o : Option Item). bus_free_events s (record l { item = o }) plain) is))
    (loses (ap (λ (x : Departure). departure_items name x sum.abort) e))
leaves_by s l id name sum Leave complete e f g is = subst (λ (shown : List Event). Leaves id name
    (leaving_items true name sum) shown) (sym (ap (λ (x : LastMessage). bus_free_events s l x) f))
    (leaves (ap (λ (x : Departure). departure_items name x sum.abort) e))
leaves_by s l id name sum Leave disconnect e f g is = subst (λ (shown : List Event). Leaves id name
    (leaving_items true name sum) shown) (sym (ap (λ (x : LastMessage). bus_free_events s l x) f))
    (leaves (ap (λ (x : Departure). departure_items name x sum.abort) e))
leaves_by s l id name sum Loss complete e f g is = wrong' g
leaves_by s l id name sum Loss disconnect e f g is = wrong' g
leaves_by s l id name sum Loss abortive e f g is = wrong' g
leaves_by s l id name sum Leave plain e f g is = wrong' g
leaves_by s l id name sum Leave abortive e f g is = wrong' g
leaves_by s l id name sum Abortion plain e f g is = wrong' g
leaves_by s l id name sum Abortion _ e f g is = wrong' g

-- They change nothing that is carried, and no mark.
leaves_carried :
    (s : ScenarioValue) (b : Story) (id : ProcId) (name : Name) (list : List item_of.Item) (shown : List Event)
    → Leaves id name list shown → (story_after_events s b shown).carried ≡ b.carried
leaves_carried s b id name list shown (loses e) = refl
leaves_carried s b id name list shown (leaves e) = refl

leaves_marked : (id : ProcId) (name : Name) (list : List item_of.Item) (shown history : List Event) (c : CarriedBytes)
    → Leaves id name list shown → IsMarked history c → IsMarked (shown ++ history) c
leaves_marked id name list shown history c (loses e) m =
    record { refused = m.refused; shown = m.shown; apart = m.apart; saved = m.saved }
leaves_marked id name list shown history c (leaves e) m = m

not_some : (o : Option MsgOut) → is_none o ≡ true → is_some o ≡ false
not_some None e = refl
not_some (Some m) e = wrong' e

-- The connection that is over, by who began it: what was sent before it, and what its process was.
process_over : (s : ScenarioValue) (rows : List Row) (row : Row) (h : StandsLinked s (transcribed rows) (story s rows))
    (id : ProcId) (back : CarriedBytes) (was : Bool) (st : Option ℕ)
    → EndRow s rows row h → Ended s rows h id → h.link.item ≡ Some (process id)
    → IsServing h.opened (is_command (story s rows).bus_state.bus) id
    (carried_of (story s rows).carried id) back h.conn (story s rows).history was st
    → AreOwnEvents id h.conn → AreKept s (transcribed rows) (story s rows) h.sent (λ x. same_id x id)
    → IsFrom s (transcribed rows) (story s rows) h.opened h.sent id was st
    → IsBegun (story s rows) h.opened h.link h.sent → Standing s (row ∷ rows)
process_over s rows row h id back was st r g is serving events_are others from begun = go from begun
  where
    a : OpenedValue
    a = h.opened

    n : Connection
    n = h.opened.connection

    parts : List Part
    parts = parts_left s rows h.opened

    sum : Summary
    sum = summary_by h.opened.connection (parts_left s rows h.opened)

    t : Process
    t = process_for (transcribed rows) h.opened.connection (summary_by h.opened.connection (parts_left s rows h.opened))

    put : Process
    put = (account_by (process_for (transcribed rows) h.opened.connection
        (summary_by h.opened.connection (parts_left s rows h.opened))) (parts_left s rows h.opened)).process

    put_name : (account_by (process_for (transcribed rows) h.opened.connection
        (summary_by h.opened.connection (parts_left s rows h.opened))) (parts_left s rows h.opened)).process.name
        ≡ (process_for (transcribed rows) h.opened.connection
        (summary_by h.opened.connection (parts_left s rows h.opened))).name
    put_name = parts_name (account_of t []) parts

    u : TranscriberValue
    u = closed_left s rows h.opened true

    shown : List Event
    shown = bus_free_events s h.link h.link.last

    c : Story
    c = story_after_events s (record (story s rows) { link = None }) (bus_free_events s h.link h.link.last)

    goes : Leaves id t.name (leaving_items true t.name sum) shown
    goes = leaves_by s h.link id t.name sum sum.departure h.link.last refl refl g.departs is

    order : sent_order c ≡ sent_order (story s rows)
    order = ap (λ (list : List Item). reverse list) (events_sent s (apart_story s rows) shown)

    shown_same : (refused : List Name) (q : Process)
        → shown_items refused (account_by q parts).items ≡ shown_items refused (account_base a q).items
    shown_same refused q = closing_shown refused a (story s rows).bus_state.bus (story s rows).bus_state.dialogue.half q

    is_closing : IsAsBegun t was st → IsClosing a (is_command (story s rows).bus_state.bus) id
        (carried_of (story s rows).carried id) back h.conn h.old was st n t parts true sum shown
    is_closing b = closing s (transcribed rows)
        (story s rows) h parts true shown id was st back shown_same goes b serving events_are

    processes : u.processes ≡ with_last (transcribed rows).processes put
    processes = closed_processes (transcribed rows) n parts true sum
        ∙ ap (λ (q : Bool). with_process n.reselected q (transcribed rows).processes put) (not_some sum.abort g.plain)

    over : (past : IsPast u.items (sent_order c) (shown ++ (story s rows).history))
        → AreKept s u c (sent_order c) no_process → Standing s (row ∷ rows)
    over past kept_all = over_next s rows row u (items.Free row.time ∷ []) c shown (record {
      transcript_is = end_transcript s rows row h r;
      story_is = end_story_is s rows row h shown r refl;
      opened = closed_opened (transcribed rows) n parts true sum;
      link = events_link s (apart_story s rows) shown;
      numbered = closed_numbered (transcribed rows) n parts true sum r.less r.numbered;
      openly = free_openly row.time;
      past = past;
      marked = λ x. leaves_marked id t.name (leaving_items true t.name sum) shown
          (story s rows).history (carried_of c.carried x) goes
          (subst (λ (all : List CarriedBytes). IsMarked (story s rows).history (carried_of all x))
          (sym (leaves_carried s (apart_story s rows) id t.name (leaving_items true t.name sum) shown goes))
          (r.marked x));
      kept = kept_all;
    })

    named : IsNamed s (name_of n sum) id
    named = named_process s (name_of n sum) id g.named

    -- The history, with its events beside those of the connection.
    told : (sent : List Item)
        → IsPast ((transcribed rows).items ++ connection_items n t parts true sum) sent ((shown ++ h.conn) ++ h.old)
        → IsPast u.items sent (shown ++ (story s rows).history)
    told sent past = subst (λ (list : List item_of.Item). IsPast list sent (shown ++ (story s rows).history))
        (sym (closed_items (transcribed rows) n parts true sum)) (subst
        (λ (list : List Event). IsPast ((transcribed rows).items ++ connection_items n t parts true sum) sent list)
        (append_assoc shown h.conn h.old ∙ ap (λ (list : List Event). shown ++ list) (sym h.history_is)) past)

    names : List Name
    names = names_begun (transcribed rows).items

    opens : (x : ProcId) → is_open_in c.sent x ≡ true → is_open_in (story s rows).sent x ≡ true
    opens x o = grown_opens (apart_story s rows) c (events_grow s (apart_story s rows) shown) x o

    carried : (x : ProcId) → carried_of (story s rows).carried x ≡ carried_of c.carried x
    carried x = ap (λ (all : List CarriedBytes). carried_of all x)
        (sym (leaves_carried s (apart_story s rows) id t.name (leaving_items true t.name sum) shown goes))

    account : IsAsBegun t was st → IsKeptOf put (carried_of (story s rows).carried id)
    account b = account_kept (account_by t parts) (carried_of (story s rows).carried id)
        (closing_is a (story s rows).bus_state.bus (story s rows).bus_state.dialogue.half id
        (carried_of (story s rows).carried id) back h.conn (story s rows).history was st t serving b)

    -- An initiator began it.
    by_first : (item : Item) → n.reselected ≡ false → was ≡ false → st ≡ None → IsAlone s (story s rows) id
        → h.link.item ≡ Some item → sent_order (story s rows) ≡ h.sent ++ item ∷ [] → has_item h.sent item ≡ false
        → Standing s (row ∷ rows)
    by_first item began e f alone i ord fresh = over
        (subst (λ (sent : List Item). IsPast u.items sent (shown ++ (story s rows).history))
        (sym sent_is) (told (h.sent ++ process id ∷ [])
        (first_past a (is_command (story s rows).bus_state.bus) id (carried_of (story s rows).carried id)
        back h.conn h.old was st n t parts true sum shown (transcribed rows).items h.sent began unsent
        (own_number (transcribed rows) n sum began g.plain) (is_closing begins) h.past)))
        (subst (λ (sent : List Item). AreKept s u c sent no_process) (sym sent_is)
        (put_kept s (transcribed rows) u (story s rows) c (h.sent ++ process id ∷ [])
        (names ++ t.name ∷ []) id put processes (closed_names (transcribed rows) n parts true sum
        ∙ ap (λ (q : Bool). names ++ (if q then [] else t.name ∷ [])) began) opens carried (record {
          definition = named.definition;
          definition_is = named.definition_is;
          nexus = of_nexus (nexus_of named.definition) ∙ named.nexus;
          named = name_own h.sent names t.name id h.past.count unsent ∙ ap (λ (x : Name). Some x) (sym put_name);
          kept = account begins;
          others = λ x o but.
              let y = others x o but in
              kept_later s (transcribed rows).processes h.sent (process id ∷ []) names (t.name ∷ [])
              (story s rows).carried x h.past.count (named_sent h.sent names x y.process.name y.named) y;
          apart = λ x d o but is_d. of_nexus (nexus_of d)
              ∙ nexus_same (name_of n sum) (nexus_of named.definition) (nexus_of d) named.nexus
              ∙ alone x named.definition d o but named.definition_is is_d;
        })))
      where
        same : item ≡ process id
        same = same_Some item (process id) (sym i ∙ is)

        sent_is : sent_order c ≡ h.sent ++ process id ∷ []
        sent_is = order ∙ ord ∙ ap (λ (x : Item). h.sent ++ x ∷ []) same

        unsent : has_item h.sent (process id) ≡ false
        unsent = ap (λ (x : Item). has_item h.sent x) (sym same) ∙ fresh

        begins : IsAsBegun t was st
        begins = process_new (transcribed rows) n sum was st began e f

        of_nexus : (x : Name) → same_nexus put.name x ≡ same_nexus (name_of n sum) x
        of_nexus x = ap (λ (y : Name). same_nexus y x) put_name ∙ (λ j. same_nexus (process_after (began j)
            (is_some sum.abort) (process_of (transcribed rows).processes (name_of n sum)) (name_of n sum)).name x)
            ∙ new_nexus (is_some sum.abort) (process_of (transcribed rows).processes (name_of n sum)) (name_of n sum) x

    -- A target did.
    by_again : n.reselected ≡ true
        → (x : HasProcess s (transcribed rows).processes h.sent (names_begun (transcribed rows).items) id)
        → IsAsBegun x.process was st → sent_order (story s rows) ≡ h.sent → Standing s (row ∷ rows)
    by_again re x y ord = over
        (subst (λ (sent : List Item). IsPast u.items sent (shown ++ (story s rows).history)) (sym (order ∙ ord))
        (told h.sent (again_past a (is_command (story s rows).bus_state.bus) id (carried_of (story s rows).carried id)
        back h.conn h.old was st n t parts true sum shown (transcribed rows).items h.sent re
        (named_sent h.sent names id t.name called) called (is_closing begins) h.past)))
        (subst (λ (sent : List Item). AreKept s u c sent no_process) (sym (order ∙ ord)) (put_kept s (transcribed rows)
        u (story s rows) c h.sent names id put processes (closed_names (transcribed rows) n parts true sum
        ∙ ap (λ (q : Bool). names ++ (if q then [] else t.name ∷ [])) re ∙ append-nil names) opens carried (record {
          definition = x.definition;
          definition_is = x.definition_is;
          nexus = of_nexus;
          named = called ∙ ap (λ (z : Name). Some z) (sym put_name);
          kept = account begins;
          others = others;
          apart = λ z d o but is_d. apart z d o but is_d (same_nexus put.name (nexus_of d)) refl;
        })))
      where
        own_is : t ≡ x.process
        own_is = process_kept s (transcribed rows) n sum id x.definition x.process re g.named x.definition_is x.last_is

        called : name_sent h.sent (names_begun (transcribed rows).items) id ≡ Some t.name
        called = x.named ∙ ap (λ (z : Process). Some z.name) (sym own_is)

        begins : IsAsBegun t was st
        begins = subst (λ (z : Process). IsAsBegun z was st) (sym own_is) y

        same_named : put.name ≡ x.process.name
        same_named = put_name ∙ ap (λ (z : Process). z.name) own_is

        of_nexus : same_nexus put.name (nexus_of x.definition) ≡ true
        of_nexus = ap (λ (z : Name). same_nexus z (nexus_of x.definition)) same_named
            ∙ r.numbered.keyed (nexus_of x.definition) x.process x.last_is

        apart : (z : ProcId) (d : array_of.Process) → is_open_in (story s rows).sent z ≡ true → same_id z id ≡ false
            → array_of.process_of s z ≡ Some d → (q : Bool) → same_nexus put.name (nexus_of d) ≡ q → q ≡ false
        apart z d o but is_d false e = refl
        apart z d o but is_d true e =
            let w = others z o but in
            let last : process_of (transcribed rows).processes (nexus_of d) ≡ Some w.process =
            ap (λ (v : array_of.Process). process_of (transcribed rows).processes (nexus_of v))
            (same_Some d w.definition (sym is_d ∙ w.definition_is)) ∙ w.last_is in
            let same : w.process ≡ x.process = same_Some w.process x.process
            (sym last ∙ process_at (transcribed rows).processes put.name (nexus_of x.definition) (nexus_of d) of_nexus e
            ∙ x.last_is) in
            let number = h.past.numbers id x.process.name x.named in
            sym (name_same x.process.name)
            ∙ sent_apart h.sent names z id x.process.name x.process.name r.numbered.distinct
            (w.named ∙ ap (λ (v : Process). Some v.name) same) x.named but number number

    go : IsFrom s (transcribed rows) (story s rows) h.opened h.sent id was st
        → IsBegun (story s rows) h.opened h.link h.sent → Standing s (row ∷ rows)
    go (anew began e f alone) (first item began' i ord fresh) = by_first item began e f alone i ord fresh
    go (anew began e f alone) (again re ord) = wrong (sym re ∙ began)
    go (kept re x y) (first item began i ord fresh) = wrong (sym re ∙ began)
    go (kept re x y) (again re' ord) = by_again re x y ord

-- ---- the connection of an abort

abort_same : (aborts : Bool) (o : Option Process) (name : Name) (m : MsgOut)
    → abort_item (process_after false aborts o name).name m ≡ abort_item name m
abort_same aborts None name m = refl
abort_same aborts (Some c) name m = refl

-- It is that of its line.
line_is : (n : Connection) (sum : Summary) (m : MsgOut) (a : AbortDef) → is_line n sum (Some m) (Some a) ≡ true
    → abort_item (name_of n sum) m ≡ items.Abort a.host a.target (Some a.unit) a.what
line_is n sum m a e =
    let four = four_true (n.initiator == a.host) (n.target == a.target)
    (same_number sum.unit (Some a.unit)) (same_kind (kind_of m sum.tag) a.what) e in
    λ i. items.Abort (eqb-true n.initiator a.host four.0 i) (eqb-true n.target a.target four.1 i)
    (optional_is sum.unit (Some a.unit) four.2 i) (kinds_are (kind_of m sum.tag) a.what four.3 i)

-- The summary ends with an abort, and the line is there.
record Aborts (s : ScenarioValue) (rows : List Row) (h : StandsLinked s (transcribed rows) (story s rows)) (m : ℕ) :
    Type 0 where
  message : MsgOut
  line : AbortDef
  departs : (sum_left s rows h.opened).departure ≡ Abortion
  last : h.link.last ≡ abortive
  message_is : (sum_left s rows h.opened).abort ≡ Some message
  line_at : abort_line_at s.aborts m ≡ Some line
  same : is_line h.opened.connection (sum_left s rows h.opened) (Some message) (Some line) ≡ true

abort_over :
    (s : ScenarioValue) (rows : List Row) (row : Row) (h : StandsLinked s (transcribed rows) (story s rows)) (l : ℕ)
    → EndRow s rows row h → Aborts s rows h l → h.opened.connection.reselected ≡ false
    → h.link.item ≡ Some (abort l) → h.conn ≡ [] → are_talk (base_parts h.opened) ≡ true
    → AreKept s (transcribed rows) (story s rows) h.sent no_process → IsBegun (story s rows) h.opened h.link h.sent
    → Standing s (row ∷ rows)
abort_over s rows row h l r g began is none talk kept_all begun = go begun
  where
    v : OpenedValue
    v = h.opened

    n : Connection
    n = h.opened.connection

    parts : List Part
    parts = parts_left s rows h.opened

    sum : Summary
    sum = summary_by h.opened.connection (parts_left s rows h.opened)

    t : Process
    t = process_for (transcribed rows) h.opened.connection (summary_by h.opened.connection (parts_left s rows h.opened))

    put : Process
    put = (account_by (process_for (transcribed rows) h.opened.connection
        (summary_by h.opened.connection (parts_left s rows h.opened))) (parts_left s rows h.opened)).process

    u : TranscriberValue
    u = closed_left s rows h.opened true

    a : AbortDef
    a = g.line

    shown : List Event
    shown = Event.Aborted g.line.host g.line.target g.line.unit g.line.what ∷ []

    c : Story
    c = story_after_events s (record (story s rows) { link = None })
        (Event.Aborted g.line.host g.line.target g.line.unit g.line.what ∷ [])

    shown_is : bus_free_events s h.link h.link.last
        ≡ Event.Aborted g.line.host g.line.target g.line.unit g.line.what ∷ []
    shown_is =
        ap (λ (x : LastMessage). bus_free_events s h.link x) g.last ∙ ap (λ (o : Option Item). item_abort_events s o) is
        ∙ ap (λ (o : Option AbortDef). abort_line_events o) g.line_at

    keeps : ((story_after_events s (record (story s rows) { link = None })
        (Event.Aborted g.line.host g.line.target g.line.unit g.line.what ∷ [])).carried ≡ (story s rows).carried)
        × ((story_after_events s (record (story s rows) { link = None })
        (Event.Aborted g.line.host g.line.target g.line.unit g.line.what ∷ [])).link ≡ None)
    keeps = ends_keep (is_aborted a.host a.target a.unit a.what)
        (is_sense_stopped a.host a.target a.unit a.what) by_abort 1 s.commands (apart_story s rows)

    order : sent_order c ≡ sent_order (story s rows)
    order = ap (λ (list : List Item). reverse list) (events_sent s (apart_story s rows) shown)

    item_is : leaving_items true t.name sum ≡ items.Abort g.line.host g.line.target (Some g.line.unit) g.line.what ∷ []
    item_is = (λ i. departure_items t.name (g.departs i) (g.message_is i))
        ∙ (λ i. abort_item (process_after (began i) (is_some sum.abort)
        (process_of (transcribed rows).processes (name_of n sum)) (name_of n sum)).name g.message ∷ [])
        ∙ ap (λ (x : item_of.Item). x ∷ [])
        (abort_same (is_some sum.abort) (process_of (transcribed rows).processes (name_of n sum))
        (name_of n sum) g.message ∙ line_is n sum g.message g.line g.same)

    processes : u.processes ≡ (transcribed rows).processes
    processes = closed_processes (transcribed rows) n parts true sum
        ∙ (λ i. with_process (began i) (is_some (g.message_is i)) (transcribed rows).processes put)

    names : List Name
    names = names_begun (transcribed rows).items

    begun_names : names_begun u.items ≡ names_begun (transcribed rows).items ++ t.name ∷ []
    begun_names = closed_names (transcribed rows) n parts true sum
        ∙ ap (λ (q : Bool). names ++ (if q then [] else t.name ∷ [])) began

    past : IsPast u.items (h.sent ++ abort l ∷ []) (shown ++ (story s rows).history)
    past = subst (λ (list : List item_of.Item). IsPast list (h.sent ++ abort l ∷ []) (shown ++ (story s rows).history))
        (sym (closed_items (transcribed rows) n parts true sum))
        (subst (λ (list : List Event). IsPast ((transcribed rows).items ++ connection_items n t parts true sum)
        (h.sent ++ abort l ∷ []) (shown ++ list)) (sym (h.history_is ∙ ap (λ (list : List Event). list ++ h.old) none))
        (abort_past n t parts true sum l shown (transcribed rows).items h.sent h.old began
        (λ refused q. closing_shown refused v (story s rows).bus_state.bus (story s rows).bus_state.dialogue.half q
        ∙ (talk_more refused (account_of q []) (base_parts v) talk).shown) (tt, tt)
        (λ refused sent list. ap (λ (xs : List item_of.Item). shown_items refused xs) item_is) h.past))

    at_end : (x : ProcId) → is_open_in c.sent x ≡ true
        → IsKept s u.processes (h.sent ++ abort l ∷ []) (names_begun u.items) c.carried x
    at_end x o =
        let y = kept_all x (grown_opens (apart_story s rows) c (events_grow s (apart_story s rows) shown) x o) refl in
        subst (λ (last : List (Key × Process)). IsKept s last
        (h.sent ++ abort l ∷ []) (names_begun u.items) c.carried x) (sym processes)
        (subst (λ (list : List Name). IsKept s (transcribed rows).processes (h.sent ++ abort l ∷ []) list c.carried x)
        (sym begun_names) (subst (λ (all : List CarriedBytes). IsKept s (transcribed rows).processes
        (h.sent ++ abort l ∷ []) (names ++ t.name ∷ []) all x) (sym keeps.0)
        (kept_later s (transcribed rows).processes h.sent (abort l ∷ []) names (t.name ∷ [])
        (story s rows).carried x h.past.count (named_sent h.sent names x y.process.name y.named) y)))

    go : IsBegun (story s rows) h.opened h.link h.sent → Standing s (row ∷ rows)
    go (again re ord) = wrong (sym re ∙ began)
    go (first item began' i ord fresh) =
        let same : item ≡ abort l = same_Some item (abort l) (sym i ∙ is) in
        let sent_is : sent_order c ≡ h.sent ++ abort l ∷ [] = order ∙ ord ∙ ap (λ (x : Item). h.sent ++ x ∷ []) same in
        over_next s rows row u (items.Free row.time ∷ []) c shown (record {
          transcript_is = end_transcript s rows row h r;
          story_is = end_story_is s rows row h shown r shown_is;
          opened = closed_opened (transcribed rows) n parts true sum;
          link = keeps.1;
          numbered = closed_numbered (transcribed rows) n parts true sum r.less r.numbered;
          openly = free_openly row.time;
          past = subst (λ (sent : List Item). IsPast u.items sent (shown ++ (story s rows).history)) (sym sent_is) past;
          marked = λ x.
              let m = subst (λ (all : List CarriedBytes). IsMarked (story s rows).history (carried_of all x))
              (sym keeps.0) (r.marked x) in
              record { refused = m.refused; shown = m.shown; apart = m.apart; saved = m.saved };
          kept = subst (λ (sent : List Item). AreKept s u c sent no_process) (sym sent_is) (λ x o no. at_end x o);
        })

-- ---- what stands

aborts_by : (s : ScenarioValue) (rows : List Row) (h : StandsLinked s (transcribed rows) (story s rows))
    (l : ℕ) (departure : Departure) (last : LastMessage) (o : Option MsgOut) (line : Option AbortDef)
    → (sum_left s rows h.opened).departure ≡ departure → h.link.last ≡ last
    → (sum_left s rows h.opened).abort ≡ o → abort_line_at s.aborts l ≡ line → is_abortion departure last ≡ true
    → is_line h.opened.connection (sum_left s rows h.opened) o line ≡ true → Aborts s rows h l
aborts_by s rows h l Abortion abortive (Some m) (Some a) e f i z abortion line =
    record { message = m; line = a; departs = e; last = f; message_is = i; line_at = z; same = line }
aborts_by s rows h l Abortion abortive None line' e f i z abortion line = wrong' line
aborts_by s rows h l Abortion abortive (Some m) None e f i z abortion line = wrong' line
aborts_by s rows h l Loss last o line' e f i z abortion line = wrong' abortion
aborts_by s rows h l Leave last o line' e f i z abortion line = wrong' abortion
aborts_by s rows h l Abortion plain o line' e f i z abortion line = wrong' abortion
aborts_by s rows h l Abortion complete o line' e f i z abortion line = wrong' abortion
aborts_by s rows h l Abortion disconnect o line' e f i z abortion line = wrong' abortion

pub end_next : (s : ScenarioValue) (rows : List Row) (row : Row) (h : StandsLinked s (transcribed rows) (story s rows))
    → EndRow s rows row h → Standing s (row ∷ rows)
end_next s rows row h r = go h.stage
  where
    v : OpenedValue
    v = h.opened

    sum : Summary
    sum = summary_by h.opened.connection (parts_left s rows h.opened)

    by_item : (o : Option Item) → h.link.item ≡ o → h.opened.connection.reselected ≡ true
        → are_talk (base_parts h.opened) ≡ true → is_command (story s rows).bus_state.bus ≡ false
        → ((m : ℕ) → h.link.item ≡ Some (abort m) → ⊥)
        → fits_end s (story s rows) h.opened h.link (parts_left s rows h.opened) o ≡ true → Standing s (row ∷ rows)
    by_item None e re talk no_command unaborted f = wrong' f
    by_item (Some (abort m)) e re talk no_command unaborted f = absurd (unaborted m e)
    by_item (Some (process id)) e re talk no_command unaborted f =
        let four = four_true (is_none sum.abort) (name_process s v.connection (parts_left s rows v) id)
        (is_departure sum.departure h.link.last) (is_known v (story s rows).bus_state.bus) f in
        wrong' (sym (λ i. not (re i) || not (talk i) || no_command i) ∙ four.3)

    go : Stage s (transcribed rows) (story s rows) h.opened h.link h.sent h.conn → Standing s (row ∷ rows)
    go (of_abort m began is undo none talk kept_all) =
        let f = sym (ap (λ (o : Option Item). fits_end s (story s rows) v h.link (parts_left s rows v) o) is)
        ∙ r.fits in
        let two = and_first (is_abortion sum.departure h.link.last
        && is_line v.connection sum sum.abort (abort_line_at s.aborts m)) (are_talk (parts_left s rows v)) f in
        abort_over s rows row h m r (aborts_by s rows h m sum.departure h.link.last sum.abort
        (abort_line_at s.aborts m) refl refl refl refl (and_first (is_abortion sum.departure h.link.last)
        (is_line v.connection sum sum.abort (abort_line_at s.aborts m)) two) (and_second
        (is_abortion sum.departure h.link.last) (is_line v.connection sum sum.abort (abort_line_at s.aborts m)) two))
        began is none talk kept_all h.begun
    go (of_none re none talk no_command no_status unaborted blanks undone kept_all) =
        by_item h.link.item refl re talk no_command unaborted r.fits
    go (of_process id back was st is undone own known serving events_are talks from others) =
        let four = four_true (is_none sum.abort) (name_process s v.connection (parts_left s rows v) id)
        (is_departure sum.departure h.link.last) (is_known v (story s rows).bus_state.bus)
        (sym (ap (λ (o : Option Item). fits_end s (story s rows) v h.link (parts_left s rows v) o) is) ∙ r.fits) in
        process_over s rows row h id back was st r
        (record { plain = four.0; named = four.1; departs = four.2 }) is serving events_are others from h.begun
