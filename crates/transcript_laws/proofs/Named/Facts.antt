-- The process of a connection that a target began has the name that its messages give, once more than messages has come
-- in it.
use Rattle.transcript_laws.proofs
use proofs.Names.{◌≡◌, ◌∙◌, Bool, true, false, ◌&&◌, List, [], ◌∷◌, ◌++◌, Option, Some, None, refl, sym, ap, subst}
use proofs.Names.{◌||◌, not, same_Some, is_some, is_none, if◌then◌else◌, wrong, wrong', nil_of, or_true, ProcId}
use proofs.Names.{LineSet, changes_phase, is_message_in, connection, is_fault, receiver_in, bus, Connection, Row}
use proofs.Names.{Handshakes, no_handshakes, MsgIn, ScenarioValue, Obeys, process_of, row_reading, Item, process, abort}
use proofs.Names.{Link, aim_of, no_messages, bytes_of_messages, first_plan, naming_messages, is_naming, Plan}
use proofs.Names.{run_state_plain, IsPrompt, IsPlain, RunState, bus_of, process_item, run_state, exchange_after}
use proofs.Names.{leaving_of, served_after, item_if, may_negotiate, messages_if, ready_of, obeys_fits, units_are}
use proofs.Names.{in_connection, AreGiven, OnMessage, IsNoName, half_after, Begins, IsReadyFor, by_bool, beginning}
use proofs.Names.{items_found, Whole, no_summary, OpenedValue, opened_connection, transcribed, are_talk, base_parts}
use proofs.{Names.{out_parts, parts_now, summary_by, name_process, is_named}, Fits.Named.{Standing, standing}}
use proofs.{Fits.Named.{item_is_served, served_process}, Named.Heard.{ins_of, heard_names, AreNames, again_abort}}
use proofs.Named.{Heard.{names_of_parts, none_said, says_name, repeats_name}, Parts.{ins_held, since_made, names_now}}
use proofs.Named.{Rows.{AgainNames, saying, refused, known, told_now, again_still, again_crossing}, Turns.{again_turn}}
use proofs.Opened.{Bytes.{KeepsTalk, still_keeps, crossing_made}, Rows.{Going, Starts, Holds, RowMade, made_still}}
use proofs.{Opened.Rows.{made_crossing, made_turn, always}, Said.Facts.{SaidNames, NoNames, mild_said, speaking}}
use proofs.Said.{Facts.{names_hold}, Naming.{outs_of, outs_now, are_tame, mild_more, mild_tame, name_by}}
use proofs.{Said.Out.{unit_small}, Serving.TurnSteps.{outs_talk}, Talks.Named.{talk_more}}
use Rattle.due_model.specs.array_model.specs.Processes.{Process}

pub record NamesAgain (s : ScenarioValue) (k : RunState) (n : Connection) (o : OpenedValue) : Type 0 where
  pub names : SaidNames s k n o
  pub since : ins_of o.since ≡ []
  pub again : n.reselected ≡ true → (id : ProcId) (q : Process) → k.served ≡ Some (process id)
      → process_of s id ≡ Some q → AgainNames q k o

-- ---- a reselection begins

names_first : (s : ScenarioValue) (p : List Row) (row : Row) (n : Connection) → Starts s p row n → Whole s (row ∷ p)
    → connection (row ∷ p) ≡ Some n → (bus (row ∷ p)).rst ≡ false → (run_state s (row ∷ p)).exchange.begun ≡ true
    → (is_message_in (bus_of (run_state s (row ∷ p))) ≡ true → (run_state s (row ∷ p)).handshakes ≡ no_handshakes)
    → n.reselected ≡ true → (id : ProcId) (q : Process) → (run_state s (row ∷ p)).served ≡ Some (process id)
    → process_of s id ≡ Some q → AgainNames q (run_state s (row ∷ p)) (opened_connection n)
names_first s p row n h now con calm begun fresh re id q sv of =
    saying (ap (λ (x : Plan). x.next) plan) here
    (none_said (ap (λ (x : Plan). x.messages) plan ∙ ap messages_if r.ready_is ∙ ap naming_messages same) count
    (given.half_is ∙ ap (half_after []) (nil_of given.before (sym given.count_is ∙ count))) refl refl)
  where
    k : RunState
    k = run_state s p

    j : RunState
    j = run_state s (row ∷ p)

    pl : IsPlain s (row ∷ p) j
    pl = run_state_plain s (row ∷ p) now.stood.standing.devices

    b : Begins s k row n
    b = beginning s k row n h.alone h.next h.off now.rows_are.1

    r : IsReadyFor s k n
    r = b.reselects re

    plan : j.exchange.plan ≡ first_plan true false (messages_if (ready_of s k n.target))
    plan = (λ i. (exchange_after s k row (row_reading k.story.bus_state row)
        (h.alone i) (h.next i) (leaving_of s k k.story.bus_state.connection)).plan)
        ∙ ap (λ (x : Bool). first_plan x (not x && may_negotiate k n (aim_of k.story.aims n.initiator))
        (if x then messages_if (ready_of s k n.target) else no_messages)) re

    served : j.served ≡ item_if (ready_of s k n.target)
    served = (λ i. served_after s k (h.alone i) (h.next i))
        ∙ ap (λ (x : Bool). if x then item_if (ready_of s k n.target) else aim_of k.story.aims n.initiator) re

    -- the process that it has ready is the one that is served
    same : r.ready.process ≡ q
    same = same_Some r.ready.process q (sym ((items_found s p n h.was.facts.items).ready r.ready r.ready_is).process_is
        ∙ ap (process_item s) (sym (ap item_if r.ready_is) ∙ sym served ∙ sv) ∙ of)

    here : is_message_in (bus_of j) ≡ true
    here = b.names re

    count : j.handshakes.requests ≡ 0
    count = ap (λ (x : Handshakes). x.requests) (fresh here)

    given : AreGiven (bytes_of_messages j.exchange.plan.messages) j.story.bus_state.dialogue.half j.handshakes.requests
    given = (now.stood.books.gives n (pl.connection ∙ con) (ap (λ (x : LineSet). x.rst) pl.bus ∙ calm)).in_message_in
        begun here

-- ---- row by row

again_row :
    (s : ScenarioValue) (p : List Row) (row : Row) (n : Connection) (g : Going s p row n) (o after : OpenedValue)
    → RowMade (run_state s p) row n g.going.change o after → NamesAgain s (run_state s p) n o
    → n.reselected ≡ true → (id : ProcId) (q : Process) → process_of s id ≡ Some q → AgainNames q (run_state s p) o
    → AgainNames q (run_state s (row ∷ p)) after
again_row s p row n g o after made h re id q of was = by made
  where
    by : RowMade (run_state s p) row n g.going.change o after → AgainNames q (run_state s (row ∷ p)) after
    by (made_still ep none e) = again_still s p row n g o after q ep none (subst (λ (x : OpenedValue). KeepsTalk o x)
        (sym e) (still_keeps o (run_state s p).story.bus_state g.going.change row)) was
    by (made_crossing dev ep er e) = again_crossing s p row n g o after q dev
        (unit_small s id q (units_are s (obeys_fits s g.obeys)) of) ep er
        (crossing_made o after (run_state s p).story.bus_state n g.going.change e) h.since was
    by (made_turn ep none ef e) = again_turn s p row n g o after q ep none ef e h.names.all
        (speaking s p row n g o h.names.all) (h.names.again re).opened h.since
        (since_made (run_state s p) row n g.going.change o after made h.since) was

served_same : (s : ScenarioValue) (p : List Row) (row : Row) (n : Connection) → Going s p row n
    → (run_state s (row ∷ p)).served ≡ (run_state s p).served
served_same s p row n g = (in_connection s (run_state s p) row n g.going.change (changes_phase g.going.change)
    (is_some (receiver_in n g.going.change)) (is_fault row.kind) g.going.goes.row_is refl refl refl).served_is

pub again_hold : (s : ScenarioValue) → Holds s (NamesAgain s)
again_hold s = record {
  begins = λ p row n starts now con calm b out fresh. record {
    names = (names_hold s).begins p row n starts now con calm b out fresh;
    since = refl;
    again = λ re. names_first s p row n starts now con calm (b ∙ re) fresh re;
  };
  goes_on = λ p row n g o after made h. record {
    names = (names_hold s).goes_on p row n g o after made h.names;
    since = since_made (run_state s p) row n g.going.change o after made h.since;
    again = λ re id q sv of. again_row s p row n g o after made h re id q of
        (h.again re id q (sym (served_same s p row n g) ∙ sv) of);
  };
}

-- ---- its name

-- More than messages has come: no names follow.
no_names : {A : Type 0} (x : Option MsgIn) → OnMessage IsNoName x → is_naming x ≡ true → A
no_names None h e = wrong' e
no_names (Some m) h e = wrong (sym e ∙ h)

record NamesOf (s : ScenarioValue) (n : Connection) (o : OpenedValue) (id : ProcId) : Type 0 where
  abort : (summary_by n (parts_now o)).abort ≡ None
  name : (are_talk (parts_now o) || name_process s n (parts_now o) id) ≡ true

again_names : (s : ScenarioValue) (p : List Row) (n : Connection) (o : OpenedValue) (id : ProcId) (q : Process)
    → Standing s p n o → ins_of o.since ≡ [] → n.reselected ≡ true → (run_state s p).served ≡ Some (process id)
    → process_of s id ≡ Some q → AgainNames q (run_state s p) o → NamesOf s n o id
again_names s p n o id q h since re sv of was = record {
  abort = again_abort n (parts_now o) re (ap are_tame (outs_now o) ∙ mild_tame (outs_of (base_parts o) ++ o.said)
      (mild_more (outs_of (base_parts o)) o.said mild.mild (mild_said s (run_state s p) n o h.speaking mild.opened)));
  name = by was;
}
  where
    k : RunState
    k = run_state s p

    mild : NoNames k o
    mild = h.names.again re

    talking : is_naming k.exchange.plan.messages.first ≡ true
        → (are_talk (parts_now o) || name_process s n (parts_now o) id) ≡ true
    talking e = by_bool (are_talk (base_parts o)) (λ z. ap (λ (x : Bool). x || name_process s n (parts_now o) id)
        (talk_more (base_parts o) (out_parts o.said) ∙ (λ i. z i && outs_talk o.said i)))
        (λ z. no_names k.exchange.plan.messages.first (h.names.all.named.nameless re z).0 e)

    by : AgainNames q k o → (are_talk (parts_now o) || name_process s n (parts_now o) id) ≡ true
    by (saying e here says) = talking (says_name q k.exchange.plan.messages k.handshakes.requests
        k.story.bus_state.dialogue.half (ins_of o.parts) (ins_held o) says)
    by (refused e here c repeats) = talking (repeats_name q k.exchange.plan.messages (ins_of o.parts) repeats)
    by (known nameless t) =
        let told = subst (λ (x : List MsgIn). AreNames (heard_names no_summary x) q)
        (sym (names_now o)) (told_now s q k n o h.speaking mild.opened since t) in
        let name = names_of_parts n q (parts_now o) re told in
        let ends = h.names.ends id q sv of in
        ap (λ (x : Bool). are_talk (parts_now o) || x) (name_by s n (parts_now o) id q of ends.0 ends.1 name.0 name.1)
        ∙ or_true (are_talk (parts_now o))

pub named_again : (s : ScenarioValue) (p : List Row) (n : Connection) (o : OpenedValue) (l : Link)
    → Obeys s → IsPrompt s p → connection p ≡ Some n → (bus p).rst ≡ false → (transcribed p).opened ≡ Some o
    → (run_state s p).story.link ≡ Some l → n.reselected ≡ true → is_named s o l.item ≡ true
named_again s p n o l obeys prompt con calm there el re = go l.item refl
  where
    h : Standing s p n o
    h = standing s p n o obeys prompt con calm there

    kept : NamesAgain s (run_state s p) n o
    kept = always s (NamesAgain s) obeys (again_hold s) p prompt n con calm o there

    by : (id : ProcId) → (run_state s p).served ≡ Some (process id) → is_named s o (Some (process id)) ≡ true
    by id sv =
        let own = served_process s (run_state s p) n id h.served sv in
        let w = again_names s p n o id own.own h kept.since re sv own.own_is (kept.again re id own.own sv own.own_is) in
        ap (λ (x : Connection). is_none (summary_by x (parts_now o)).abort
        && (are_talk (parts_now o) || name_process s x (parts_now o) id)) h.names.all.bytes.connection_is
        ∙ (λ i. is_none (w.abort i) && w.name i)

    go : (x : Option Item) → l.item ≡ x → is_named s o l.item ≡ true
    go None e = ap (is_named s o) e
    go (Some (abort m)) e = ap (is_named s o) e
    go (Some (process id)) e = ap (is_named s o) e ∙ by id (item_is_served s p n o l (process id) h el e)
