-- Of a prompt trace: what is asked of each row of a connection about COMMAND, and what counts of it after the row.
use Rattle.story_laws.proofs
use proofs.Names.{◌≡◌, ◌<◌, Bool, true, false, ◌&&◌, ◌∙◌, List, [], ◌∷◌, length, Some, None, refl, sym, ap, subst}
use proofs.Names.{same_Some, if◌then◌else◌, is_some, wrong, wrong', change_of, LineSet, is_command, is_message_in}
use proofs.Names.{connection, connection_after, receiver_in, receiver_of, bus, Row, Change, Connection, Handshakes}
use proofs.Names.{ScenarioValue, Obeys, Process, row_reading, run_state_plain, IsLeast, due, IsPrompt, RunState}
use proofs.Names.{process_here, carried_here, run_state, obeys_fits, units_are, aims_are, GoesOn, RowOf}
use proofs.Names.{row_apart as apart, begins, goes_on, under_reset, change_plain, least_is, HasCommands, commands_are}
use proofs.Names.{none_some, ConnectionRow, connection_row, stage_of_connection, going_row, RowFacts, stays, ends_here}
use proofs.Names.{Stood, NextStood, link_phase, OfferFacts, CommandBooks, CommandFacts, AnswersAtCommand, CommandAsked}
use proofs.Commands.{Facts.{pointer_in, command_kept}, First.{first_keeps}, Next.{goes_keeps}}
use proofs.Offers.Facts.{answers_at_command}
use Rattle.row_laws.specs.book_laws.specs.Traces.{ends}

pub command_start : (s : ScenarioValue) → CommandFacts s []
command_start s = record { books = λ n e calm. none_some n e }

pub command_asks : (s : ScenarioValue) (p : List Row) (row : Row) → Obeys s → IsPrompt s (row ∷ p) → Stood s p
    → CommandFacts s p → (n : Connection) → connection p ≡ Some n → (bus p).rst ≡ false → (bus (row ∷ p)).rst ≡ false
    → CommandAsked s p row
command_asks s p row o prompt was facts n con calm after = record {
  pointer = λ pr e cr here. pointer r.facts pr e (sym crossing ∙ cr) (ap is_command (sym was.plain.bus) ∙ here);
  command = command_kept s p row n gr was m.inside h r calm con;
}
  where
    gr : HasCommands s
    gr = commands_are s o

    m : IsLeast (due s p) 8 row
    m = least_is s p row prompt.1

    k : RunState
    k = run_state s p

    h : CommandBooks s k n
    h = facts.books n con calm

    r : ConnectionRow s p row n
    r = connection_row s p row n o prompt was con calm after

    crossing : (row_reading k.story.bus_state row).crosses ≡ is_some (receiver_in n (change_of p row))
    crossing = λ i. is_some
        (receiver_of ((was.plain.connection ∙ con) i) (change_plain s row p was.standing.devices m.inside i))

    pointer : RowFacts s p row n → (pr : Process) → process_here s k ≡ Some pr
        → is_some (receiver_in n (change_of p row)) ≡ true → is_command (bus p) ≡ true
        → (carried_here k pr.id).command.active < length pr.cdb
    pointer (ends_here g) pr e cr here = wrong' (sym g.carries ∙ cr)
    pointer (stays g) pr e cr here =
        let change : g.change ≡ change_of p row = sym g.row_is.change_is
        ∙ change_plain s row p was.standing.devices m.inside in
        pointer_in s p row n gr was h r g change calm con
        (ap (λ (c : Change). is_some (receiver_in n c)) change ∙ cr) here pr e

-- The initiator answers a request only where COMMAND follows.
pub answers_then : (s : ScenarioValue) (p : List Row) (n : Connection) → Stood s p → OfferFacts s p
    → connection p ≡ Some n → (bus p).rst ≡ false → AnswersAtCommand (run_state s p)
answers_then s p n was offers con calm into attends unstruck =
    let dv = was.standing.devices in
    let pl = run_state_plain s p dv in
    let here : is_message_in (bus p) ≡ true = ap is_message_in (sym pl.bus) ∙ into in
    let begun_is =
    (link_phase s p n (stage_of_connection s p n was con calm) (first (bus p).msg (bus p).cd (bus p).io here)).1 in
    answers_at_command s p n dv offers con calm begun_is here (ap (λ (l : LineSet). l.atn) (sym pl.bus) ∙ attends)
    (ap (λ (x : Handshakes). x.struck) (sym pl.handshakes) ∙ unstruck)
  where
    first : (m d i : Bool) → (m && d && i) ≡ true → m ≡ true
    first true d i z = refl
    first false d i z = wrong' z

pub command_next : (s : ScenarioValue) (p : List Row) (row : Row) → Obeys s → IsPrompt s (row ∷ p) → Stood s p
    → OfferFacts s p → NextStood s p row → CommandFacts s p → CommandFacts s (row ∷ p)
command_next s p row o prompt was offers nx facts = record { books = λ x e calm. go x e calm nx.row_is }
  where
    q : List Row
    q = row ∷ p

    m : IsLeast (due s p) 8 row
    m = least_is s p row prompt.1

    k : RunState
    k = run_state s p

    goes_on_by : (x : Connection) → connection q ≡ Some x → (bus q).rst ≡ false → connection p ≡ Some x
        → (bus p).rst ≡ false → CommandBooks s (run_state s q) x
    goes_on_by x e after con calm =
        let r = connection_row s p row x o prompt was con calm after in
        let w = going_row s p row x was.standing.devices m.inside con e after nx.row_is r.facts in
        goes_keeps s p row x (units_are s (obeys_fits s o)) (commands_are s o) was nx m.inside
        (answers_then s p x was offers con calm) (facts.books x con calm) r w.lines
        (subst (λ (c : Change). GoesOn s k row x c) (sym w.lines_are) w.goes) con calm e after

    go : (x : Connection) → connection q ≡ Some x → (bus q).rst ≡ false → RowOf s k row
        → CommandBooks s (run_state s q) x
    go x e calm (apart a b) = none_some x (sym b ∙ nx.stood.plain.connection ∙ e)
    go x e calm (begins n b) = subst (λ (y : Connection). CommandBooks s (run_state s q) y)
        (same_Some n x (sym b.first.next_is ∙ nx.stood.plain.connection ∙ e)) (first_keeps s k row n (aims_are s p) b)
    go x e calm (goes_on n c g) =
        let next : (row_reading k.story.bus_state row).next ≡ Some n =
        (λ i. connection_after (g.row_is.connection_is i) k.story.bus_state.call (g.row_is.change_is i) row)
        ∙ ap (λ (y : Bool). if y then Some n else None) g.row_is.stands in
        let same : n ≡ x = same_Some n x (sym next ∙ nx.stood.plain.connection ∙ e) in
        goes_on_by x e calm (sym was.plain.connection ∙ g.row_is.connection_is ∙ ap (λ (y : Connection). Some y) same)
        (ap (λ (l : LineSet). l.rst) (sym was.plain.bus) ∙ g.calm)
    go x e calm (ends n g) = none_some x (sym g.next_is ∙ nx.stood.plain.connection ∙ e)
    go x e calm (under_reset on f) = wrong (sym on ∙ ap (λ (l : LineSet). l.rst) nx.stood.plain.bus ∙ calm)
