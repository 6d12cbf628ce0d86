-- After a reselection the initiator knows the process, or its names are said, after any rows of a prompt trace; so it
-- knows it as another phase begins (6.1.4, 6.6.7).
use Rattle.story_laws.proofs
use proofs.Names.{ℕ, ◌≡◌, ◌<◌, ◌≤◌, Bool, true, false, not, ◌&&◌, ◌==◌, ◌∙◌, List, [], ◌∷◌, length, length-append}
use proofs.Names.{Option, Some, None, refl, sym, ap, subst, arith, nat_tests, same_Some, if◌then◌else◌, is_some, nat_lt}
use proofs.Names.{wrong, wrong', or_true, LineSet, changes_phase, is_data, is_message_in, connection, connection_after}
use proofs.Names.{bus, Row, Change, Connection, Handshakes, ScenarioValue, Obeys, Process, row_reading, Sent, Link}
use proofs.Names.{link_of, aim_of, follows_by, bytes_of_messages, no_messages, phase_of, follows_in, first_plan}
use proofs.Names.{naming_messages, Phase, Plan, run_state_plain, IsPrompt, IsPlain, AreOfDevices, RunState, bus_of}
use proofs.Names.{item_of, agreement_of, run_state, exchange_after, leaving_of, may_negotiate, messages_if, serving_of}
use proofs.Names.{ready_of, is_data_out, Gives, is_in_phase, is_out_phase, IsOver, Begins, change_plain, least_is}
use proofs.Names.{BeginsConnection, by_selection, by_reselection, AnyStage, apart, linked, none_some, in_phase}
use proofs.Names.{out_phase, link_none, connection_row, going_row, stage_of_connection, RowKindOf, begins_now, goes_now}
use proofs.Names.{row_kind, RowFacts, stays, ends_here, IsFirst, Stood, NextStood, link_connection, link_phase}
use proofs.Names.{OfferFacts, AreFound, IsFoundBy, Names, all, known, said, refused, Named, NamedFacts}
use proofs.{Items.Facts.{beginning}, Named.{Bytes.{names_some}, First.{found_by, first_sent, first_link}}}
use proofs.Named.Turns.{named_on}

-- ---- before any row

pub named_start : (s : ScenarioValue) → NamedFacts s []
named_start s n e calm = absurd (none_some n e)

-- ---- a reselection begins

zero_bytes : {A : Type 0} (i m : ℕ) → 0 < i → m ≡ 0 → m ≡ i → A
zero_bytes i m lt z e = absurd (omega arith)

named_first : (s : ScenarioValue) (p : List Row) (row : Row) (n : Connection) → AreOfDevices p → row.dev < 8
    → Stood s p → NextStood s p row → connection p ≡ None → connection (row ∷ p) ≡ Some n → (bus (row ∷ p)).rst ≡ false
    → n.reselected ≡ true → IsFirst s p row n → AreFound s (run_state s p) n → Named s (run_state s (row ∷ p)) n
named_first s p row n dv lt was next alone e calm re f found = go f.begins
  where
    q : List Row
    q = row ∷ p

    k : RunState
    k = run_state s p

    pl : IsPlain s q (run_state s q)
    pl = run_state_plain s q (lt, dv)

    old : IsPlain s p k
    old = run_state_plain s p dv

    con : k.story.bus_state.connection ≡ None
    con = old.connection ∙ alone

    begun_with : (row_reading k.story.bus_state row).next ≡ Some n
    begun_with = (λ i. connection_after (old.connection i) (old.call i) (change_plain s row p dv lt i) row) ∙ e

    b : Begins s k row n
    b = beginning s k row n con begun_with (ap (λ (x : Change). x.after.rst) (change_plain s row p dv lt) ∙ calm)
        next.row_is

    no_link : k.story.link ≡ None
    no_link = by was.here
      where
        by : AnyStage s p → k.story.link ≡ None
        by (linked m h) = absurd (none_some m (sym alone ∙ link_connection s p m h))
        by (apart h z) = link_none s p h alone

    plan : (run_state s q).exchange.plan ≡ first_plan true false (messages_if (ready_of s k n.target))
    plan = (λ i. (exchange_after s k row (row_reading k.story.bus_state row)
        (con i) (begun_with i) (leaving_of s k k.story.bus_state.connection)).plan)
        ∙ ap (λ (r : Bool). first_plan r (not r && may_negotiate k n (aim_of k.story.aims n.initiator))
        (if r then messages_if (ready_of s k n.target) else no_messages)) re

    go : BeginsConnection q n → Named s (run_state s q) n
    go (by_selection h) = wrong (sym re ∙ sym f.begun_is ∙ h.begun_is)
    go (by_reselection y h) =
        let r = b.reselects re in
        let ready = found.ready r.ready r.ready_is in
        let same : r.ready.process ≡ r.process = same_Some r.ready.process r.process
        (sym ready.process_is ∙ r.process_is) in
        let l : Link = link_of n None in
        let messages : (run_state s q).exchange.plan.messages ≡ naming_messages r.ready.process =
        ap (λ (x : Plan). x.messages) plan ∙ ap messages_if r.ready_is in
        let names : Names r.ready.process l (run_state s q).exchange.plan.messages (run_state s q).handshakes.requests =
        all messages (λ z. wrong (ap (λ (x : ℕ). x == 0) (sym asked) ∙ z)) in
        said r.ready.process l (record {
          link_is = first_link s k row n b.first re;
          initiator_is = refl;
          target_is = refl;
          begun_is = pl.begun ∙ h.begun_is;
          next_is = ap (λ (x : Plan). x.next) plan;
          last = refl;
          before = refl;
          found = subst (λ (z : Sent). IsFoundBy s n z r.ready.process) (sym (first_sent s k row n b.first no_link re))
              (found_by s k.story.sent n r.ready.process ready.process_is ready.command ready.sent ready.open_is
              (ap (λ (x : Process). x.initiator) same ∙ r.initiator_is)
              (ap (λ (x : Process). x.target) same ∙ r.target_is));
        }) (ap is_message_in (pl.bus ∙ h.linked.stands.bus_is)) names (λ z. zero_bytes
        (length (bytes_of_messages (run_state s q).exchange.plan.messages)) (run_state s q).handshakes.requests
        (names_some r.ready.process l (run_state s q).exchange.plan.messages (run_state s q).handshakes.requests names)
        asked z)
      where
        asked : (run_state s q).handshakes.requests ≡ 0
        asked = ap (λ (z : Handshakes). z.requests) (pl.handshakes ∙ h.handshakes_are)

-- ---- any row

-- A reselection is for a process that its names find (`AreFound`).
pub named_next : (s : ScenarioValue) (p : List Row) (row : Row) → Obeys s → IsPrompt s (row ∷ p) → Stood s p
    → NextStood s p row → OfferFacts s p → ((n : Connection) → connection p ≡ None → connection (row ∷ p) ≡ Some n
    → n.reselected ≡ true → AreFound s (run_state s p) n) → NamedFacts s p → NamedFacts s (row ∷ p)
named_next s p row o prompt was next offers found h n after calm re = go (row_kind s p row n o prompt was after calm)
  where
    lt : row.dev < 8
    lt = (least_is s p row prompt.1).inside

    k : RunState
    k = run_state s p

    go : RowKindOf s p row n → Named s (run_state s (row ∷ p)) n
    go (begins_now alone f) =
        named_first s p row n was.standing.devices lt was next alone after calm re f (found n alone after re)
    go (goes_now con off) =
        let r = connection_row s p row n o prompt was con off calm in
        let g = going_row s p row n was.standing.devices lt con after calm next.row_is r.facts in
        let stage = stage_of_connection s (row ∷ p) n next.stood after calm in
        let books = was.books in
        let standing = was.plain.connection ∙ con in
        let quiet = ap (λ (l : LineSet). l.rst) was.plain.bus ∙ off in
        let is = g.lines_are in
        let knows = books.knows n standing quiet in
        named_on s k row n g.change g.goes (λ z. ap (λ (x : Change). x.after.cd) g.change_is
        ∙ (link_phase s (row ∷ p) n stage (ap (λ (x : Change). x.after.msg) (sym g.change_is) ∙ z)).0)
        (books.speaks n standing quiet) (books.gives n standing quiet) (offers n con off)
        (λ ep b. g.lines.whereto (ap changes_phase is ∙ ep) (sym was.plain.begun ∙ b)
        ∙ ap (λ (x : Change). Some (phase_of x.after)) is) (h n con off re) knows.link knows.link_is

-- ---- what is asked of a row

both_counts : (i m : ℕ) → nat_lt i m ≡ false → i ≤ m → i ≡ m
both_counts i m e h = grind (arith, nat_tests)

-- In MESSAGE IN with ATN false no byte follows, so all have crossed.
all_given : (s : ScenarioValue) (k : RunState) (n : Connection) → Gives k → k.exchange.begun ≡ true
    → is_message_in (bus_of k) ≡ true → (bus_of k).atn ≡ false → IsOver s k n
    → k.handshakes.requests ≡ length (bytes_of_messages k.exchange.plan.messages)
all_given s k n gv b m a over =
    both_counts k.handshakes.requests (length (bytes_of_messages k.exchange.plan.messages)) none within
  where
    no_data : is_data (bus_of k) ≡ false
    no_data = by (bus_of k).msg (bus_of k).cd (bus_of k).io m
      where
        by : (q r i : Bool) → (q && r && i) ≡ true → (not q && not r) ≡ false
        by true r i z = refl
        by false r i z = wrong' z

    none : nat_lt k.handshakes.requests (length (bytes_of_messages k.exchange.plan.messages)) ≡ false
    none = sym
        ((λ i. follows_by (serving_of s k n.target) (b i && no_data i && nat_lt 0 (agreement_of k).offset) (bus_of k)
        k.handshakes) ∙ (λ i. follows_in (serving_of s k n.target) k.handshakes (a i) (in_phase (bus_of k) m i))
        ∙ ap (λ (q : Bool). q && nat_lt k.handshakes.requests (length (bytes_of_messages k.exchange.plan.messages)))
        (or_true (k.handshakes.requests == 0))) ∙ over.follows

    within : k.handshakes.requests ≤ length (bytes_of_messages k.exchange.plan.messages)
    within =
        let given = gv.in_message_in b m in
        let all_bytes = ap (λ (z : List ℕ). length z) given.bytes_are in
        let two = length-append given.before given.rest in
        let count = given.count_is in
        omega arith

-- As a phase is left after a reselection the initiator knows the process, but after MESSAGE OUT, and after MESSAGE IN
-- with ATN true.
pub named_asks : (s : ScenarioValue) (p : List Row) (row : Row) (n : Connection) → Obeys s
    → IsPrompt s (row ∷ p) → Stood s p → NamedFacts s p → connection p ≡ Some n → (bus p).rst ≡ false
    → (bus (row ∷ p)).rst ≡ false → changes_phase (row_reading (run_state s p).story.bus_state row).change ≡ true
    → n.reselected ≡ true → is_out_phase (phase_of (bus_of (run_state s p))) ≡ false
    → (is_in_phase (phase_of (bus_of (run_state s p))) && (bus_of (run_state s p)).atn) ≡ false
    → is_some (item_of (run_state s p).story.link) ≡ true
named_asks s p row n o prompt was h con off calm turning re out into = go (h n con off re)
  where
    k : RunState
    k = run_state s p

    over : k.exchange.begun ≡ true → RowFacts s p row n → IsOver s k n
    over b (stays g) = g.over (ap changes_phase (sym g.row_is.change_is) ∙ turning) (sym was.plain.begun ∙ b)
    over b (ends_here f) = f.over

    go : Named s k n → is_some (item_of k.story.link) ≡ true
    go (known l e i q) = ap (λ (x : Option Link). is_some (item_of x)) e ∙ i
    go (said pr l nm m names heard) =
        let quiet : (bus_of k).atn ≡ false =
        sym (ap (λ (z : Phase). is_in_phase z && (bus_of k).atn) (in_phase (bus_of k) m)) ∙ into in
        let gives = was.books.gives n (was.plain.connection ∙ con) (ap (λ (z : LineSet). z.rst) was.plain.bus ∙ off) in
        ap (λ (x : Option Link). is_some (item_of x)) nm.link_is ∙ heard (all_given s k n gives nm.begun_is m quiet
        (over nm.begun_is (connection_row s p row n o prompt was con off calm).facts))
    go (refused pr l nm m cause names) = wrong (sym (ap is_out_phase (out_phase (bus_of k) m)) ∙ out)

-- In DATA OUT it knows it.
pub named_at_run : (s : ScenarioValue) (p : List Row) (n : Connection) → NamedFacts s p → connection p ≡ Some n
    → (bus p).rst ≡ false → phase_of (bus_of (run_state s p)) ≡ Phase.DataOut → n.reselected ≡ true
    → is_some (item_of (run_state s p).story.link) ≡ true
named_at_run s p n h con off here re = go (h n con off re)
  where
    k : RunState
    k = run_state s p

    go : Named s k n → is_some (item_of k.story.link) ≡ true
    go (known l e i q) = ap (λ (x : Option Link). is_some (item_of x)) e ∙ i
    go (said pr l nm m names heard) = wrong' (sym (ap is_data_out (in_phase (bus_of k) m)) ∙ ap is_data_out here)
    go (refused pr l nm m cause names) = wrong' (sym (ap is_data_out (out_phase (bus_of k) m)) ∙ ap is_data_out here)
