-- What the target of a connection has been told in it, after each kind of row.
use Rattle.story_laws.proofs
use proofs.Names.{ℕ, ◌≡◌, Bool, true, false, not, ◌&&◌, ◌||◌, ◌%◌, ◌∙◌, List, [], ◌∷◌, ◌++◌, Option, None, refl, sym}
use proofs.Names.{ap, subst, ◌<◌, Some, same_Some, if◌then◌else◌, is_some, wrong, wrong', or_other, ProcId, LineSet}
use proofs.Names.{changes_phase, is_command, is_message_out, is_message_in, is_fault, receiver_in, connection}
use proofs.Names.{connection_after, bus, Row, Change, Connection, has_group_len, got_out, got_in, MsgOut, fresh_bytes}
use proofs.Names.{Dialogue, ScenarioValue, Obeys, bytes_are, RowReading, row_reading, whole_out, whole_in, aim_of}
use proofs.Names.{Exchange, plan_after_message, struck_plan, phase_of, Hearing, Phase, Plan, is_item_named}
use proofs.Names.{is_opening_named, IsLeast, due, IsPrompt, RunState, bus_of, carried_here, first_exchange}
use proofs.Names.{exchange_after, item_if, leaving_of, run_state, served_after, hearing_of, ready_of, obeys_fits}
use proofs.Names.{units_are, command_is, Instructions, instructions, instructions_after, instructions_on, is_opening}
use proofs.Names.{is_opening_in, no_instructions, is_command_phase, AreUnits, block_own, InConnection, in_connection}
use proofs.Names.{same_phase_is, opening_named, LeavesWhole, Knows, IsFirstRow, IsRowIn, reading_in, RowKind, still}
use proofs.Names.{strikes, crosses, turns, Begins, GoesOn, RowOf, row_apart as apart, begins, goes_on, under_reset}
use proofs.Names.{least_is, commands_are, none_some, out_lines, ConnectionRow, GoingRow, connection_row, going_row}
use proofs.Names.{Goes, Stood, NextStood, OfferFacts, CommandBooks, Serves, StandsIn, TakesBlock, dialogue_of}
use proofs.{Names.{CommandFacts, KnownIn, Instructed, InstructedFacts}, Commands.Asks.{answers_then}}
use proofs.Commands.{Blocks.{takes_block}, Facts.{same_process, served_process}, Messages.{crossed_else, same_item}}
use proofs.Commands.{Messages.{tells}, Next.{out_unstruck, turns_as}, Stays.{phase_same}, Turns.{same_blocks}}
use proofs.Instructed.{Leavings.{LeavesTold, leaves_told}, Steps.{SameStage, byte_told, same_told, told_byte}}
use proofs.Instructed.Steps.{told_none, told_with, with_byte}
use Rattle.row_laws.specs.book_laws.specs.Traces.{ends}

-- ---- the first row

pub begins_told : (s : ScenarioValue) (p : List Row) (row : Row) (n : Connection) → Begins s (run_state s p) row n
    → Instructed s (run_state s (row ∷ p)) (instructions s (row ∷ p)) n
begins_told s p row n b = go n.reselected refl
  where
    k : RunState
    k = run_state s p

    j : RunState
    j = run_state s (row ∷ p)

    f : IsFirstRow k row n
    f = b.first

    told : instructions s (row ∷ p) ≡ (record no_instructions { known = n.reselected })
    told = λ i. instructions_after (f.connection_is i) (f.next_is i)
        (hearing_of k row (row_reading k.story.bus_state row)) k.exchange.plan (instructions s p)

    made : j.exchange ≡ first_exchange s k n (aim_of k.story.aims n.initiator)
    made = λ i. exchange_after s k row (row_reading k.story.bus_state row) (f.connection_is i) (f.next_is i)
        (leaving_of s k k.story.bus_state.connection)

    served : j.served ≡ (if n.reselected then item_if (ready_of s k n.target) else aim_of k.story.aims n.initiator)
    served = λ i. served_after s k (f.connection_is i) (f.next_is i)

    begun : j.exchange.begun ≡ n.reselected
    begun = ap (λ (x : Exchange). x.begun) made

    go : (q : Bool) → n.reselected ≡ q → Instructed s j (instructions s (row ∷ p)) n
    go true e =
        let a = b.reselects e in
        let serves : Serves s j = record {
          id = a.ready.process.id;
          served_is = served
              ∙ ap (λ (q : Bool). if q then item_if (ready_of s k n.target) else aim_of k.story.aims n.initiator) e
              ∙ ap item_if a.ready_is;
          process = a.process;
          process_is = a.process_is;
        } in
        record {
          served = λ z. serves;
          selected = λ z. wrong (sym e ∙ z);
          again = λ z. (ap (λ (x : Instructions). x.known) told ∙ e, serves);
        }
    go false e =
        let unknown : (instructions s (row ∷ p)).known ≡ false = ap (λ (x : Instructions). x.known) told ∙ e in
        let unbegun : j.exchange.begun ≡ false = begun ∙ e in
        let opens : is_opening j ≡ true =
        (λ i. not (unbegun i) || is_opening_in (phase_of (bus_of j)) j.exchange.plan.cause) in
        record {
          served = λ z. wrong (sym opens ∙ z);
          selected = λ z. record {
            unbegun = λ x. unknown;
            stage = λ x. wrong' (sym unbegun ∙ x);
            named = λ x v. wrong (sym opens ∙ x);
            carried = λ x y v. wrong' (sym unbegun ∙ x);
            block = λ x v. wrong' (sym unknown ∙ x);
          };
          again = λ z. wrong' (sym e ∙ z);
        }

-- ---- no byte crosses, and no phase is left

plan_stays : (q : Bool) (l : Plan)
    → ((if q then struck_plan l else l).next ≡ l.next) × ((if q then struck_plan l else l).cause ≡ l.cause)
plan_stays true l = (refl, refl)
plan_stays false l = (refl, refl)

pub stay_told : (s : ScenarioValue) (p : List Row) (row : Row) (n : Connection) (c : Change)
    → IsRowIn (run_state s p) row n c → changes_phase c ≡ false
    → receiver_in n c ≡ None → Instructed s (run_state s p) (instructions s p) n
    → Instructed s (run_state s (row ∷ p)) (instructions s (row ∷ p)) n
stay_told s p row n c r ep er h = subst (λ (x : Instructions). Instructed s j x n)
    (sym (told_with s p row n c false r none
    ∙ told_none (hearing_of k row (reading_in k.story.bus_state n c false)) k.exchange.plan (instructions s p) ep refl))
    (same_told s k j (instructions s p) n stage (λ z id. (same_blocks s k row n c r none at.served_is).block_is id) h)
  where
    k : RunState
    k = run_state s p

    j : RunState
    j = run_state s (row ∷ p)

    none : is_some (receiver_in n c) ≡ false
    none = ap (λ (z : Option ℕ). is_some z) er

    at : InConnection s k row n c false false (is_fault row.kind)
    at = in_connection s k row n c false false (is_fault row.kind) r ep none refl

    stage : SameStage k j
    stage =
        let two = plan_stays (is_fault row.kind && not c.before.io) k.exchange.plan in
        record {
          served_is = at.served_is;
          begun_is = ap (λ (x : Exchange). x.begun) at.exchange_is;
          phase_is =
              ap phase_of at.bus_is ∙ phase_same c.before c.after (same_phase_is c ep) ∙ ap phase_of (sym r.bus_is);
          next_is = ap (λ (x : Exchange). x.plan.next) at.exchange_is ∙ two.0;
          cause_is = ap (λ (x : Exchange). x.plan.cause) at.exchange_is ∙ two.1;
        }

-- ---- a byte crosses

plan_said : (q last : Bool) (m : Option MsgOut) (l : Plan)
    → ((if q then plan_after_message l last m else l).next ≡ l.next)
    × ((if q then plan_after_message l last m else l).cause ≡ l.cause)
plan_said true true m l = (refl, refl)
plan_said true false m l = (refl, refl)
plan_said false last m l = (refl, refl)

-- The lines of COMMAND.
record CommandLines (b : LineSet) : Type 0 where
  phase : phase_of b ≡ Phase.Command
  out : is_message_out b ≡ false
  into : is_message_in b ≡ false
  msg : b.msg ≡ false

command_lines : (b : LineSet) → is_command b ≡ true → CommandLines b
command_lines b e = go b.msg b.cd b.io e refl refl refl
  where
    lines : (m d i : Bool) → b.msg ≡ m → b.cd ≡ d → b.io ≡ i
        → phase_of b ≡ (if m then (if i then Phase.MessageIn else Phase.MessageOut)
        else if d then (if i then Phase.Status else Phase.Command) else if i then Phase.DataIn else Phase.DataOut)
    lines m d i em ed ei = λ x. if em x then (if ei x then Phase.MessageIn else Phase.MessageOut)
        else if ed x then (if ei x then Phase.Status else Phase.Command)
        else if ei x then Phase.DataIn else Phase.DataOut

    go : (m d i : Bool) → (not m && d && not i) ≡ true → b.msg ≡ m → b.cd ≡ d → b.io ≡ i → CommandLines b
    go true d i z em ed ei = wrong' z
    go false false i z em ed ei = wrong' z
    go false true true z em ed ei = wrong' z
    go false true false z em ed ei = record {
      phase = lines false true false em ed ei;
      out = λ x. em x && b.cd && not b.io;
      into = λ x. em x && b.cd && b.io;
      msg = em;
    }

pub cross_told : (s : ScenarioValue) (p : List Row) (row : Row) (n : Connection) (c : Change)
    → IsRowIn (run_state s p) row n c → is_fault row.kind ≡ false → changes_phase c ≡ false
    → is_some (receiver_in n c) ≡ true → (run_state s p).exchange.begun ≡ true → Knows s (run_state s p) n
    → CommandBooks s (run_state s p) n → Instructed s (run_state s p) (instructions s p) n
    → Instructed s (run_state s (row ∷ p)) (instructions s (row ∷ p)) n
cross_told s p row n c r ef ep er begun knows books h = subst (λ (x : Instructions). Instructed s j x n)
    (sym (told_with s p row n c true r er)) (go (is_command c.before) refl)
  where
    k : RunState
    k = run_state s p

    j : RunState
    j = run_state s (row ∷ p)

    i : Instructions
    i = instructions s p

    d : Dialogue
    d = dialogue_of k

    byte : ℕ
    byte = c.after.data_bits % 256

    reading : RowReading
    reading = reading_in k.story.bus_state n c true

    here : Hearing
    here = hearing_of k row reading

    at : InConnection s k row n c false true false
    at = in_connection s k row n c false true false r ep er ef

    stage : SameStage k j
    stage =
        let two = plan_said (is_message_out c.before) d.is_last reading.out k.exchange.plan in
        record {
          served_is = at.served_is;
          begun_is = ap (λ (x : Exchange). x.begun) at.exchange_is;
          phase_is =
              ap phase_of at.bus_is ∙ phase_same c.before c.after (same_phase_is c ep) ∙ ap phase_of (sym r.bus_is);
          next_is = ap (λ (x : Exchange). x.plan.next) at.exchange_is ∙ two.0;
          cause_is = ap (λ (x : Exchange). x.plan.cause) at.exchange_is ∙ two.1;
        }

    in_command : is_command c.before ≡ true → Instructed s j (with_byte i byte) n
    in_command e =
        let lines = command_lines c.before e in
        let phase : phase_of (bus_of k) ≡ Phase.Command = ap phase_of r.bus_is ∙ lines.phase in
        let takes : TakesBlock s k n = subst (λ (x : Phase). StandsIn s k n x) phase (books.begun begun) in
        let no_out : reading.out ≡ None = ap
        (λ (q : Bool). if q then whole_out (got_out (fresh_bytes d ++ byte ∷ [])) else None) lines.out in
        let no_in : reading.into ≡ None = ap
        (λ (q : Bool). if q then whole_in (got_in (d.half ++ byte ∷ [])) else None) lines.into in
        let told = tells s k row n c knows.link _ r er knows.link_is
        (crossed_else s k.story knows.link reading no_out no_in) in
        byte_told s k j i n byte stage begun phase takes.1.selected (λ v. told.block_is v.id ∙ takes_block k.story
        knows.link reading v.id (same_item s k n knows takes.1.selected ∙ v.served_is) e lines.msg) h

    unknown : is_command c.before ≡ true → i.known ≡ false
    unknown e =
        let phase : phase_of (bus_of k) ≡ Phase.Command = ap phase_of r.bus_is ∙ (command_lines c.before e).phase in
        let takes : TakesBlock s k n = subst (λ (x : Phase). StandsIn s k n x) phase (books.begun begun) in
        subst (λ (x : Phase). KnownIn i.known k.exchange.plan x) phase ((h.selected takes.1.selected).stage begun)

    go : (q : Bool) → is_command c.before ≡ q → Instructed s j (instructions_on here k.exchange.plan i) n
    go true e = subst (λ (x : Instructions). Instructed s j x n)
        (sym (told_byte here k.exchange.plan i ep refl e (unknown e))) (in_command e)
    go false e = subst (λ (x : Instructions). Instructed s j x n)
        (sym (told_none here k.exchange.plan i ep e)) (same_told s k j i n stage (λ z id. wrong'
        (sym e ∙ ap is_command (sym r.bus_is) ∙ command_is (bus_of k) ∙ ap is_command_phase (sym stage.phase_is ∙ z)))
        h)

-- ---- Of a prompt trace: what the target of a connection has been told in it.

-- ---- the row leaves a phase

pub left_told : (s : ScenarioValue) (p : List Row) (row : Row) (n : Connection) → Obeys s
    → Stood s p → NextStood s p row → row.dev < 8 → OfferFacts s p → CommandBooks s (run_state s p) n
    → (g : Goes s p row n) → GoesOn s (run_state s p) row n g.change → connection p ≡ Some n → (bus p).rst ≡ false
    → connection (row ∷ p) ≡ Some n → (bus (row ∷ p)).rst ≡ false → changes_phase g.change ≡ true
    → LeavesTold s (run_state s p) n g.change
left_told s p row n o was nx lt offers books g w con calm con' calm' ep = record {
  turns = turns_as s p row n u was nx lt (answers_then s p n was offers con calm) books g w con calm con' calm' ep;
  named = λ b e ec.
      let named = opening_named s k n u (was.books.speaks n here quiet) b
      (out_lines (bus_of k) e (λ z. (w.phase z).0)) ((leaves ep).out e) in
      or_other k.exchange.plan.struck (is_item_named s k.exchange.plan.said k.served) (out_unstruck s k n e
      (g.over ep (sym was.plain.begun ∙ b))) (sym (ap (is_opening_named s k.exchange.plan k.served) ec) ∙ named);
  whole = λ b e unstruck v.
      let whole = ((leaves ep).command v.process (served_process s k v) e).1 in
      let own = block_own s k v.process was.books.carry (served_process s k v)
      ((commands_are s o).group k v.process (served_process s k v)) whole in
      subst (λ (x : ProcId). (has_group_len (carried_here k x).block ≡ true)
      × ((carried_here k x).block ≡ v.process.cdb)) (same_process s k v) (
        whole unstruck,
        bytes_are (carried_here k v.process.id).block v.process.cdb (or_other k.exchange.plan.struck _ unstruck own),
      );
}
  where
    u : AreUnits s
    u = units_are s (obeys_fits s o)

    k : RunState
    k = run_state s p

    here : k.story.bus_state.connection ≡ Some n
    here = was.plain.connection ∙ con

    quiet : (bus_of k).rst ≡ false
    quiet = ap (λ (l : LineSet). l.rst) was.plain.bus ∙ calm

    leaves : changes_phase g.change ≡ true → LeavesWhole s k n
    leaves z = w.leaves (ap changes_phase g.row_is.change_is ∙ z)

-- ---- any row

pub instructed_start : (s : ScenarioValue) → InstructedFacts s []
instructed_start s n e calm = none_some n e

pub instructed_next : (s : ScenarioValue) (p : List Row) (row : Row) → Obeys s → IsPrompt s (row ∷ p) → Stood s p
    → NextStood s p row → OfferFacts s p → CommandFacts s p → InstructedFacts s p → InstructedFacts s (row ∷ p)
instructed_next s p row o prompt was nx offers commands told x e calm = go nx.row_is
  where
    q : List Row
    q = row ∷ p

    m : IsLeast (due s p) 8 row
    m = least_is s p row prompt.1

    k : RunState
    k = run_state s p

    goes_on_by : connection p ≡ Some x → (bus p).rst ≡ false → Instructed s (run_state s q) (instructions s q) x
    goes_on_by con quiet = by g.lines.row_is.kind
      where
        r : ConnectionRow s p row x
        r = connection_row s p row x o prompt was con quiet calm

        g : GoingRow s p row x
        g = going_row s p row x was.standing.devices m.inside con e calm nx.row_is r.facts

        w : GoesOn s k row x g.lines.change
        w = subst (λ (c : Change). GoesOn s k row x c) (sym g.lines_are) g.goes

        books : CommandBooks s k x
        books = commands.books x con quiet

        here : Instructed s k (instructions s p) x
        here = told x con quiet

        by : RowKind row x g.lines.change → Instructed s (run_state s q) (instructions s q) x
        by (still ef ep er) = stay_told s p row x g.lines.change w.row_is ep er here
        by (strikes ef ep er) = stay_told s p row x g.lines.change w.row_is ep er here
        by (crosses dev ef ep er) =
            let cr = ap (λ (z : Option ℕ). is_some z) er in
            cross_told s p row x g.lines.change w.row_is ef ep cr (was.plain.begun ∙ g.lines.begun_is cr)
            (was.books.knows x (was.plain.connection ∙ con) (ap (λ (l : LineSet). l.rst) was.plain.bus ∙ quiet)) books
            here
        by (turns ef ep er) =
            leaves_told s p row x g.lines.change w.row_is w.phase ef ep (ap (λ (z : Option ℕ). is_some z) er)
            (left_told s p row x o was nx m.inside offers books g.lines w con quiet e calm ep) books here

    go : RowOf s k row → Instructed s (run_state s q) (instructions s q) x
    go (apart a b) = none_some x (sym b ∙ nx.stood.plain.connection ∙ e)
    go (begins n b) = subst (λ (y : Connection). Instructed s (run_state s q) (instructions s q) y)
        (same_Some n x (sym b.first.next_is ∙ nx.stood.plain.connection ∙ e)) (begins_told s p row n b)
    go (goes_on n c g) =
        let next : (row_reading k.story.bus_state row).next ≡ Some n =
        (λ i. connection_after (g.row_is.connection_is i) k.story.bus_state.call (g.row_is.change_is i) row)
        ∙ ap (λ (y : Bool). if y then Some n else None) g.row_is.stands in
        let same : n ≡ x = same_Some n x (sym next ∙ nx.stood.plain.connection ∙ e) in
        goes_on_by (sym was.plain.connection ∙ g.row_is.connection_is ∙ ap (λ (y : Connection). Some y) same)
        (ap (λ (l : LineSet). l.rst) (sym was.plain.bus) ∙ g.calm)
    go (ends n g) = none_some x (sym g.next_is ∙ nx.stood.plain.connection ∙ e)
    go (under_reset on f) = wrong (sym on ∙ ap (λ (l : LineSet). l.rst) nx.stood.plain.bus ∙ calm)
