-- What is asked of a row, that the processes stand where they should after it, from the laws of items and of requests.
use Rattle.trace_laws.proofs
use proofs.Names.{inl, inr, ◌≡◌, ◌⊎◌, ◌<◌, Bool, true, false, not, ◌&&◌, ◌∙◌, List, ◌∷◌, Option, Some, None, refl, sym}
use proofs.Names.{ap, if◌then◌else◌, is_some, wrong, wrong', ProcId, change_of, rises, falls, LineSet, changes_phase}
use proofs.Names.{is_message_out, call, connection, connection_after, connection_of, is_fault, bus, Row, Change}
use proofs.Names.{Connection, ScenarioValue, Obeys, Array, events_sent, RowReading, row_reading, is_completion}
use proofs.Names.{row_events_by, Sent, process, Link, Story, story_in_connection, story_on_bus, story_by_change}
use proofs.Names.{phase_of, Cause, Next, Phase, IsPrompt, RunState, bus_of, run_state, is_command_phase, aims_are}
use proofs.Names.{is_out_phase, Speaks, GoesOn, Begins, Ends, change_plain, least_is, some_none, is_status, Stood}
use proofs.Names.{is_in_message, ItemFacts, OfferFacts, Offers, IsHeardOut, opens, repeats, answers_it, detects}
use proofs.Names.{is_detected, rst_raised, items_fresh, free_keeps, inside_sent, parity_said, all_said}
use proofs.Places.{Asks.{PlaceOwed}, Ends.{IsEndAsked}, First.{IsSelectedFor}, Next.{SendsNone, IsResetAsked}}
use proofs.Places.{Stays.{IsStayAsked}, TurnRows.{TellsOf}}
use Rattle.due_model.specs.dialogue_model.specs.declared.exchange.Said.{Said}

-- ---- what is sent

on_bus_sent : (s : ScenarioValue) (b : Story) (m o : Option Connection) (d : RowReading) (row : Row)
    → (m ≡ None → o ≡ None) → (story_on_bus s b m o d row).sent.sent ≡ b.sent.sent
on_bus_sent s b None None d row f = (free_keeps s b d row).2
on_bus_sent s b None (Some n) d row f = some_none n (f refl)
on_bus_sent s b (Some m) None d row f = refl
on_bus_sent s b (Some m) (Some n) d row f = go b.link
  where
    go : (l : Option Link) → (story_in_connection s b l d row).sent.sent ≡ b.sent.sent
    go None = refl
    go (Some l) = ap (λ (x : Sent). x.sent) (inside_sent s b l d row)

-- Only a row with which a connection begins sends something.
pub sends_none : (s : ScenarioValue) (k : RunState) (row : Row)
    → (k.story.bus_state.connection ≡ None → (row_reading k.story.bus_state row).next ≡ None)
    ⊎ ((row_reading k.story.bus_state row).change.after.rst ≡ true)
    → SendsNone s k row
sends_none s k row f =
    events_sent s (story_by_change s k.story d row) (row_events_by s k.story d row) ∙ go f d.change.after.rst refl
  where
    d : RowReading
    d = row_reading k.story.bus_state row

    go : (k.story.bus_state.connection ≡ None → d.next ≡ None) ⊎ (d.change.after.rst ≡ true)
        → (q : Bool) → d.change.after.rst ≡ q → (if q then record k.story { link = None }
        else story_on_bus s k.story k.story.bus_state.connection d.next d row).sent.sent ≡ k.story.sent.sent
    go g true e = refl
    go (inl g) false e = on_bus_sent s k.story k.story.bus_state.connection d.next d row g
    go (inr g) false e = wrong (sym g ∙ e)

-- ---- a request is answered where COMMAND follows

answers_at : (k : RunState) (s : ScenarioValue) (n : Connection) → Speaks s k n → k.exchange.begun ≡ true
    → is_message_out (bus_of k) ≡ true → k.story.bus_state.dialogue.is_last ≡ true → Offers k
    → k.exchange.plan.cause ≡ Cause.InMessage → is_some k.exchange.plan.said.offer ≡ true
    → k.exchange.plan.next ≡ Next.Command
answers_at k s n sp b m last of c some = go (of.out b m)
  where
    go : IsHeardOut k.exchange k.story.bus_state.dialogue → k.exchange.plan.next ≡ Next.Command
    go (opens e ao av v q) = wrong' (ap is_in_message (sym e ∙ c))
    go (repeats before e one w q) =
        let none = ap (λ (z : Said). z.offer)
        (all_said k.exchange k.story.bus_state.dialogue _ (sp.in_message_out b m).heard last one.words_are
        ∙ parity_said) in
        wrong' (ap is_some (sym none) ∙ some)
    go (answers_it a e command one q) = command
    go (detects e one q) = wrong' (sym (ap is_detected c) ∙ e)

out_lines : (m d o : Bool) → (m ≡ true → d ≡ true)
    → is_out_phase (if m then (if o then Phase.MessageIn else Phase.MessageOut)
    else if d then (if o then Phase.Status else Phase.Command) else if o then Phase.DataIn else Phase.DataOut) ≡ true
    → (m ≡ true) × ((m && d && not o) ≡ true)
out_lines true true true f e = wrong' e
out_lines true true false f e = (refl, refl)
out_lines true false o f e = wrong' (f refl)
out_lines false true true f e = wrong' e
out_lines false true false f e = wrong' e
out_lines false false true f e = wrong' e
out_lines false false false f e = wrong' e

-- ---- what is still owed

-- By what is told: the process that is served, as another phase begins and as its connection ends; and how the
-- initiator takes COMMAND COMPLETE.
pub record PlaceLeft (s : ScenarioValue) (k : RunState) (row : Row) (a : Array) : Type 0 where
  pub tells : (n : Connection) (c : Change) → GoesOn s k row n c → changes_phase c ≡ true → k.exchange.begun ≡ true
      → (id : ProcId) → k.served ≡ Some (process id) → TellsOf s k id
  pub unnamed : (n : Connection) (c : Change) (l : Link) → GoesOn s k row n c
      → changes_phase c ≡ true → k.story.link ≡ Some l → l.item ≡ None
      → (is_status (phase_of c.after) ≡ false) × (is_command_phase (phase_of c.before) ≡ false)
  pub stays : (n : Connection) (c : Change) (l : Link) → GoesOn s k row n c → changes_phase c ≡ false
      → k.story.link ≡ Some l → IsStayAsked s k c l
  pub drives : (n : Connection) (c : Change) (l : Link) → GoesOn s k row n c → is_completion l c ≡ true
      → is_fault row.kind ≡ false
  pub ends : (n : Connection) (l : Link) → Ends s k row n → (row_reading k.story.bus_state row).change.after.rst ≡ false
      → k.story.link ≡ Some l → IsEndAsked k l a

pub places_owed : (s : ScenarioValue) (p : List Row) (row : Row) (a : Array) → Obeys s → IsPrompt s (row ∷ p)
    → Stood s p → ItemFacts s p → OfferFacts s p → PlaceLeft s (run_state s p) row a → PlaceOwed s (run_state s p) row a
places_owed s p row a o prompt was items offers left = record {
  selects = selects;
  sends = sends_none s k row;
  turns = λ n c l g e link. record {
    tells = left.tells n c g e;
    unnamed = left.unnamed n c l g e link;
    offers = λ ph cause some. asked n c g e ph cause some;
  };
  stays = left.stays;
  drives = left.drives;
  ends = left.ends;
  reset = resets;
}
  where
    k : RunState
    k = run_state s p

    d : RowReading
    d = row_reading k.story.bus_state row

    q : List Row
    q = row ∷ p

    lt : row.dev < 8
    lt = (least_is s p row prompt.1).inside

    c : d.change ≡ change_of p row
    c = change_plain s row p was.standing.devices lt

    reads : d.next ≡ connection q
    reads = λ i. connection_after (was.plain.connection i) (was.plain.call i) (c i) row

    selects : (n : Connection) → Begins s k row n → n.reselected ≡ false → IsSelectedFor s k n
    selects n b e =
        let fresh = items_fresh s p row n o prompt was items
        (sym was.plain.connection ∙ b.first.connection_is) (sym reads ∙ b.first.next_is) e in
        record {
          item = fresh.item;
          aim_is = fresh.aim_is;
          unsent = fresh.unsent;
          item_is = aims_are s p n.initiator fresh.item fresh.aim_is;
        }

    asked : (n : Connection) (x : Change) → GoesOn s k row n x → changes_phase x ≡ true
        → phase_of (bus_of k) ≡ Phase.MessageOut → k.exchange.plan.cause ≡ Cause.InMessage
        → is_some k.exchange.plan.said.offer ≡ true → k.exchange.plan.next ≡ Next.Command
    asked n x g e ph cause some =
        let lines = out_lines (bus_of k).msg (bus_of k).cd (bus_of k).io (λ z. (g.phase z).0) (ap is_out_phase ph) in
        let con = g.row_is.connection_is in
        answers_at k s n (was.books.speaks n con g.calm) (g.phase lines.0).1 lines.1
        ((g.leaves (ap changes_phase g.row_is.change_is ∙ e)).out ph) (offers n (sym was.plain.connection ∙ con)
        (sym (ap (λ (y : LineSet). y.rst) was.plain.bus) ∙ g.calm)) cause some

    -- under RST
    no_beginning : (bus q).rst ≡ true → connection p ≡ None → connection q ≡ None
    no_beginning on none = (λ i. connection_after (none i) (call p) (change_of p row) row)
        ∙ (λ i. if falls (bus p).sel (bus q).sel && (bus q).bsy && not (on i) then connection_of (call p) row.time
        else None) ∙ off (falls (bus p).sel (bus q).sel) (bus q).bsy
      where
        off : (x y : Bool) → (if x && y && false then connection_of (call p) row.time else None) ≡ None
        off true true = refl
        off true false = refl
        off false y = refl

    resets : d.change.after.rst ≡ true → IsResetAsked k row
    resets on = record {
      was = λ e. by e (bus p).rst refl;
      none_begins = λ none. reads ∙ no_beginning rst (sym was.plain.connection ∙ none);
    }
      where
        rst : (bus q).rst ≡ true
        rst = ap (λ (x : Change). x.after.rst) (sym c) ∙ on

        by : rises d.change.own.rst d.change.next.rst ≡ false → (r : Bool) → (bus p).rst ≡ r → (bus_of k).rst ≡ true
        by e true z = ap (λ (y : LineSet). y.rst) was.plain.bus ∙ z
        by e false z =
            wrong (sym (rst_raised p row lt z rst) ∙ ap (λ (x : Change). rises x.own.rst x.next.rst) (sym c) ∙ e)
