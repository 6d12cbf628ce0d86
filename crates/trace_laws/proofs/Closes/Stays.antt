-- The process whose COMMAND COMPLETE was taken with ATN false has ended in the plain disk array (6.6.5, 7.3).
use Rattle.trace_laws.proofs
use proofs.Names.{ℕ, ◌≡◌, Bool, true, false, ◌||◌, ◌==◌, ◌∙◌, Option, Some, None, refl, sym, ap, ◌<◌, not, ◌&&◌, List}
use proofs.Names.{◌∷◌, subst, same_Some, if◌then◌else◌, wrong, wrong', Event, ProcId, change_of, rises, LineSet}
use proofs.Names.{is_message_in, connection, bus, Row, Change, Connection, MsgIn, ScenarioValue, Obeys, Reply, same_id}
use proofs.Names.{has_ended, running_process, RunningProcess, Array, settled_array, is_complete, is_completion, Link}
use proofs.Names.{LastMessage, plain, complete, one_message, phase_of, Messages, Next, Phase, IsPrompt, RunState}
use proofs.Names.{bus_of, run_state, self_id, is_in_phase, GoesOn, change_plain, least_is, none_some, in_phase, risen}
use proofs.Names.{not_unless, by_bool, running_id, ConnectionRow, connection_row, Stood, NextStood, awaits, IsServed}
use proofs.Names.{of_process, of_abort, ServedFacts, in_move, alternating, Alternates, frees, LastFacts, LastBy}
use proofs.Names.{LastGiven, still_stays, to_close, to_save, closed, IsCompleting, CloseFacts}
use Rattle.due_model.specs.array_model.specs.Steps

-- Where END is a step, the process has ended after it.
pub ended_after : (s : ScenarioValue) (a b : Array) (id : ProcId) (status : ℕ)
    → Steps.step s (Event.End id status) a ≡ Some b → has_ended b id ≡ true
ended_after s a b id status e = by (running_process a id) refl
  where
    by : (o : Option RunningProcess) → running_process a id ≡ o → has_ended b id ≡ true
    by None z =
        none_some b (sym (ap (λ (x : Option RunningProcess). Steps.settled_array_if (Steps.end_step a status x)) z) ∙ e)
    by (Some r) z = of_reply r.reply refl
      where
        of_reply : (o : Option Reply) → r.reply ≡ o → has_ended b id ≡ true
        of_reply None w = none_some b (sym ((λ i. Steps.settled_array_if (Steps.end_step a status (z i)))
            ∙ ap (λ (x : Option Reply). Steps.settled_array_if (Steps.end_step_with a r.process status x)) w) ∙ e)
        of_reply (Some reply) w =
            by_bool (reply.status == status) (λ f. let is : settled_array next ≡ b = same_Some (settled_array next) b
            (sym (ap (λ (x : Bool). Steps.settled_array_if (if x then Some next else None)) f) ∙ shown) in
            ap (λ (x : Array). has_ended x id) (sym is)
            ∙ (λ i. (ap (λ (y : ProcId). same_id y id) (running_id a id r z) ∙ self_id id) i
            || has_ended (Steps.after_status a r.process reply) id)) (λ f. none_some b
            (sym (ap (λ (x : Bool). Steps.settled_array_if (if x then Some next else None)) f) ∙ shown))
          where
            next : Array
            next = Steps.array_without (Steps.after_status a r.process reply) r.process.id

            shown : Steps.settled_array_if (if reply.status == status then Some next else None) ≡ Some b
            shown = sym ((λ i. Steps.settled_array_if (Steps.end_step a status (z i)))
                ∙ ap (λ (x : Option Reply). Steps.settled_array_if (Steps.end_step_with a r.process status x)) w)
                ∙ e

-- ---- As the initiator takes COMMAND COMPLETE, it is the only message that is said, once, and the bus is freed after
-- it; and ATN stays false after it (6.6.5).

-- ---- the last message

pub complete_is : (x : LastMessage) → is_complete x ≡ true → x ≡ complete
complete_is complete e = refl
complete_is _ e = wrong' e

not_plain : {A : Type 0} (x : LastMessage) → x ≡ plain → x ≡ complete → A
not_plain x e f = wrong' (ap is_complete (sym e ∙ f))

pub closed_one : (l : Link) (m : Messages) (next : Next) (count : ℕ) → LastGiven l m next count → l.last ≡ complete
    → (m ≡ one_message MsgIn.CommandComplete) × (next ≡ Next.FreeBus)
closed_one l m next count (still_stays f all last) e = not_plain l.last last e
closed_one l m next count (to_close f x one end zero last) e = not_plain l.last last e
closed_one l m next count (to_save f both at last) e = not_plain l.last last e
closed_one l m next count (closed f ends full last told) e = (told.0 e, frees next f)

-- ---- the row

pub record Taking (k : RunState) (c : Change) (l : Link) : Type 0 where
  pub rose : rises c.before.ack c.after.ack ≡ true
  pub here : is_message_in c.before ≡ true
  pub last : l.last ≡ complete
  pub calm : c.after.atn ≡ false

pub taking : (k : RunState) (c : Change) (l : Link) → is_completion l c ≡ true → Taking k c l
taking k c l e =
    let h = parts (rises c.before.ack c.after.ack) (is_message_in c.before) (is_complete l.last) c.after.atn e in
    record { rose = h.0; here = h.1; last = complete_is l.last h.2; calm = h.3 }
  where
    parts : (x y z t : Bool) → (x && y && z && not t) ≡ true → (x ≡ true) × (y ≡ true) × (z ≡ true) × (t ≡ false)
    parts true true true false q = (refl, refl, refl, refl)
    parts true true true true q = wrong' q
    parts true true false t q = wrong' q
    parts true false z t q = wrong' q
    parts false y z t q = wrong' q

-- What is said then.
pub said_then : (s : ScenarioValue) (p : List Row) (row : Row) (n : Connection) (c : Change) (l : Link) → Stood s p
    → ServedFacts s p → LastFacts s p → GoesOn s (run_state s p) row n c → (run_state s p).story.link ≡ Some l
    → is_completion l c ≡ true → IsCompleting (run_state s p) × ((run_state s p).exchange.plan.next ≡ Next.FreeBus)
said_then s p row n c l was served facts g link done = by (served n con off)
  where
    k : RunState
    k = run_state s p

    con : connection p ≡ Some n
    con = sym was.plain.connection ∙ g.row_is.connection_is

    off : (bus p).rst ≡ false
    off = sym (ap (λ (x : LineSet). x.rst) was.plain.bus) ∙ g.calm

    t : Taking k c l
    t = taking k c l done

    lines : is_message_in (bus_of k) ≡ true
    lines = ap is_message_in g.row_is.bus_is ∙ t.here

    here : phase_of (bus_of k) ≡ Phase.MessageIn
    here = in_phase (bus_of k) lines

    begun : k.exchange.begun ≡ true
    begun = (g.phase (message_line (bus_of k).msg (bus_of k).cd (bus_of k).io lines)).1
      where
        message_line : (m d o : Bool) → (m && d && o) ≡ true → m ≡ true
        message_line true d o e = refl
        message_line false d o e = wrong' e

    by : IsServed s k n → IsCompleting k × (k.exchange.plan.next ≡ Next.FreeBus)
    by (of_process id pr e f) = closed_one l k.exchange.plan.messages k.exchange.plan.next k.handshakes.requests
        (subst (λ (x : Phase). LastBy l k.exchange.plan k.handshakes.requests k.story.bus_state.dialogue.is_last x) here
        (((facts n con off).0 l id link e).begun begun)) t.last
    by (of_abort m a e line host target re alone) = wrong (ap is_in_phase (sym here ∙ (alone begun).0))

-- ---- once, and ATN after it

both : (a b : Bool) → a ≡ true → b ≡ false → (a && not b) ≡ true
both a b e f = λ i. e i && not (f i)

-- ACK rises where a byte awaits it.
pub awaited : (c : Change) → Alternates c.before c.after → rises c.before.ack c.after.ack ≡ true
    → awaits c.before ≡ true
awaited c a rose = both c.before.req c.before.ack (a.answers rose) (risen c.before.ack c.after.ack rose)

pub alternates_at : (s : ScenarioValue) (p : List Row) (row : Row) (n : Connection) (c : Change) → row.dev < 8
    → Stood s p → NextStood s p row → GoesOn s (run_state s p) row n c → is_message_in c.before ≡ true
    → Alternates c.before c.after
alternates_at s p row n c lt was next g here =
    let k = run_state s p in
    let pl = was.plain in
    let is : c ≡ change_of p row = sym g.row_is.change_is ∙ change_plain s row p was.standing.devices lt in
    subst (λ (x : Change). Alternates x.before x.after) (sym is)
    (alternating p row n next.obeys (sym pl.connection ∙ g.row_is.connection_is)
    (sym (ap (λ (x : LineSet). x.rst) pl.bus) ∙ g.calm) (sym (ap (λ (x : Change). x.after.rst) is) ∙ g.row_is.calm)
    (sym (ap (λ (x : Change). is_message_in x.before) is) ∙ here))

pub attends_after : (s : ScenarioValue) (p : List Row) (row : Row) (n : Connection) (c : Change)
    → Obeys s → IsPrompt s (row ∷ p) → Stood s p → CloseFacts s p → GoesOn s (run_state s p) row n c
    → is_message_in c.before ≡ true → IsCompleting (run_state s p) → ((run_state s p).handshakes.answers == 0) ≡ false
    → c.after.atn ≡ c.before.atn
attends_after s p row n c o prompt was h g here m some = ap (λ (x : Change). x.after.atn) is
    ∙ (in_move s p row n (sym (ap (λ (x : Change). is_message_in x.before) is) ∙ here) r.link).attends
    (sym (ap awaits was.plain.bus) ∙ not_unless (awaits (bus_of k)) (k.handshakes.answers == 0)
    (λ z. (h n con off).counts.asked (ap is_message_in g.row_is.bus_is ∙ here) m z) some)
    ∙ sym (ap (λ (x : Change). x.before.atn) is)
  where
    k : RunState
    k = run_state s p

    is : c ≡ change_of p row
    is = sym g.row_is.change_is ∙ change_plain s row p was.standing.devices (least_is s p row prompt.1).inside

    con : connection p ≡ Some n
    con = sym was.plain.connection ∙ g.row_is.connection_is

    off : (bus p).rst ≡ false
    off = sym (ap (λ (x : LineSet). x.rst) was.plain.bus) ∙ g.calm

    r : ConnectionRow s p row n
    r = connection_row s p row n o prompt was con off (sym (ap (λ (x : Change). x.after.rst) is) ∙ g.row_is.calm)

pub once_taken : (s : ScenarioValue) (p : List Row) (row : Row) (n : Connection) (c : Change) (l : Link)
    → row.dev < 8 → Stood s p → NextStood s p row → ServedFacts s p → LastFacts s p → CloseFacts s p
    → GoesOn s (run_state s p) row n c → (run_state s p).story.link ≡ Some l → is_completion l c ≡ true
    → ((run_state s p).handshakes.answers == 0) ≡ true
once_taken s p row n c l lt was next served facts h g link done =
    let k = run_state s p in
    let pl = was.plain in
    let t = taking k c l done in
    (h n (sym pl.connection ∙ g.row_is.connection_is) (sym (ap (λ (x : LineSet). x.rst) pl.bus) ∙ g.calm)).counts.asked
    (ap is_message_in g.row_is.bus_is ∙ t.here) (said_then s p row n c l was served facts g link done).0
    (ap awaits g.row_is.bus_is ∙ awaited c (alternates_at s p row n c lt was next g t.here) t.rose)
