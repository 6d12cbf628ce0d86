-- The last message of the opening of an abort is an abort message (6.6.1 to 6.6.4).
use Rattle.story_laws.proofs
use proofs.Names.{ℕ, zero, suc, ◌≡◌, ◌<◌, Bool, true, false, not, ◌∙◌, List, [], ◌∷◌, ◌++◌, Option, Some, None, refl}
use proofs.Names.{sym, ap, subst, arith, ◌&&◌, ◌%◌, same_Some, if◌then◌else◌, is_some, wrong, wrong', AbortKind, ProcId}
use proofs.Names.{change_of, changes_phase, is_message_out, is_message_in, is_fault, connection, connection_after}
use proofs.Names.{receiver_in, bus, Row, Change, Connection, struck_same, Handshakes, handshakes_after, is_abort}
use proofs.Names.{form_out, got_out, out_bytes, MsgOut, fresh_bytes, byte_out, byte_in, byte_else, is_nil, Dialogue}
use proofs.Names.{ScenarioValue, Obeys, AbortDef, Tag, events_link, whole_out, RowReading, row_reading, message_out}
use proofs.Names.{message_in, abort_line_at, row_events_by, abort, Item, process, Link, abortive, last_out, LastMessage}
use proofs.Names.{plain, link_of, Story, aim_of, story_on_bus, story_by_change, story_after_connection}
use proofs.Names.{story_with_restored, story_with_sent, Exchange, next_word, attends_with, no_messages, phase_of}
use proofs.Names.{first_plan, Ready, abort_bytes, abort_opening, tag_named, Cause, Messages, Next, Phase}
use proofs.Names.{run_state_plain, IsPrompt, IsPlain, AreOfDevices, RunState, bus_of, run_state, run_state_after}
use proofs.Names.{exchange_after, leaving_of, may_negotiate, messages_if, ready_of, obeys_fits, units_are, AreUnits}
use proofs.Names.{in_connection, reading_is, requests_stay, in_io, says_byte, says_more, OnMessage, OnMessages, Knows}
use proofs.Names.{Understanding, nothing_understood, understood, understood_byte, RowKind, still, strikes, crosses}
use proofs.Names.{turns, AreWordsHeard, AreWordsFor, IsSpeaking, GoesOn, change_plain, least_is, BeginsConnection}
use proofs.Names.{by_selection, by_reselection, none_some, out_lines, ConnectionRow, GoingRow, connection_row}
use proofs.Names.{going_row, stage_of_connection, RowKindOf, begins_now, goes_now, row_kind, IsFirst, Stood, NextStood}
use proofs.Names.{link_phase, IsPlainIn, frees_bus, IsServed, of_process, of_abort, ServedFacts, EndsWell, LastBy}
use proofs.{Names.{LastTalk, LastTalks, AbortTalks, LastFacts}, Items.Row.{LinkAfter, says, hears, link_crossed}}
use proofs.{Items.Row.{link_still}, Last.{Bytes.{first_given}, Rows.{LastRow, still_last, cross_out, cross_in}}}
use proofs.{Last.{Rows.{cross_else}, Turns.{turn_last}}, Talks.OutMessages.{next_half}, Undone.Facts.{in_of}}
use Rattle.row_laws.specs.book_laws.specs.Speaking.{opens}
use Rattle.story_laws.specs.LastTalks.{stays}
use Rattle.story_laws.proofs.Items.Row as rows

abbrev pub is_abort_message : Option MsgOut → Bool
is_abort_message None = false
is_abort_message (Some m) = is_abort m

-- The last byte makes such a message whole.
abbrev EndsAbort : List ℕ → List ℕ → Type 0
EndsAbort half [] = ⊥
EndsAbort half (b ∷ []) = is_abort_message (whole_out (got_out (half ++ b ∷ []))) ≡ true
EndsAbort half (b ∷ (c ∷ bytes)) = EndsAbort (next_half half b) (c ∷ bytes)

named : (lun c : ℕ) (bytes : List ℕ) → lun < 8 → EndsAbort [] (c ∷ bytes)
    → EndsAbort [] (out_bytes (MsgOut.Identify false lun) ++ c ∷ bytes)
unfolding form_out
named zero c bytes lt h = h
named (suc zero) c bytes lt h = h
named (suc (suc zero)) c bytes lt h = h
named (suc (suc (suc zero))) c bytes lt h = h
named (suc (suc (suc (suc zero)))) c bytes lt h = h
named (suc (suc (suc (suc (suc zero))))) c bytes lt h = h
named (suc (suc (suc (suc (suc (suc zero)))))) c bytes lt h = h
named (suc (suc (suc (suc (suc (suc (suc zero))))))) c bytes lt h = h
named (suc (suc (suc (suc (suc (suc (suc (suc n)))))))) c bytes lt h = absurd omega (arith, lt)

kind_ends : (what : AbortKind) → EndsAbort [] (abort_bytes what)
unfolding form_out
kind_ends AbortKind.All = refl
kind_ends (AbortKind.Tag n) = refl
kind_ends AbortKind.WholeQueue = refl
kind_ends AbortKind.Device = refl

opening_ends : (unit : ℕ) (what : AbortKind) → unit < 8
    → EndsAbort [] (out_bytes (MsgOut.Identify false unit) ++ abort_bytes what)
opening_ends unit AbortKind.All lt = named unit 0x06 [] lt (kind_ends AbortKind.All)
opening_ends unit (AbortKind.Tag n) lt = named unit 0x20 (n ∷ (0x0D ∷ [])) lt (kind_ends (AbortKind.Tag n))
opening_ends unit AbortKind.WholeQueue lt = named unit 0x0E [] lt (kind_ends AbortKind.WholeQueue)
opening_ends unit AbortKind.Device lt = named unit 0x0C [] lt (kind_ends AbortKind.Device)

ends_at : (h : Understanding) (xs : List ℕ) (b : ℕ) → EndsAbort h.half (xs ++ b ∷ [])
    → is_abort_message (whole_out (got_out ((understood h xs).half ++ b ∷ []))) ≡ true
ends_at h [] b e = e
ends_at h (x ∷ []) b e = e
ends_at h (x ∷ (y ∷ xs)) b e = ends_at (understood_byte h x) (y ∷ xs) b e

words_end : (s : ScenarioValue) (n : Connection) (m : ℕ) (a : AbortDef) (x : Exchange) (c : Cause) → AreUnits s
    → abort_line_at s.aborts m ≡ Some a → c ≡ Cause.Selected → AreWordsFor s n (Some (abort m)) x c
    → EndsAbort [] x.speech.words
words_end s n m a x _ u line e (opens w) = subst (λ (y : List ℕ). EndsAbort [] y) (sym (w ∙ ap abort_opening line))
    (opening_ends a.unit a.what (u.aborts m a line))
words_end s n m a x _ u line e _ = absurd cc

-- So it is with the last byte of the opening.
pub last_aborts : (s : ScenarioValue) (n : Connection) (m : ℕ) (a : AbortDef) (x : Exchange) (d : Dialogue) (byte : ℕ)
    → AreUnits s → abort_line_at s.aborts m ≡ Some a → x.plan.cause ≡ Cause.Selected
    → IsSpeaking s n (Some (abort m)) x d → byte ≡ next_word x.speech → attends_with x.speech ≡ false
    → is_abort_message (whole_out (got_out (fresh_bytes d ++ byte ∷ []))) ≡ true
last_aborts s n m a x d byte u line cause w e last = go h.rest refl
  where
    h : AreWordsHeard x.speech x.plan d
    h = w.heard

    half : fresh_bytes d ≡ (understood nothing_understood h.before).half
    half = ap (λ (y : Understanding). y.half) h.anew

    more : attends_with x.speech ≡ not (is_nil h.rest)
    more = says_more x.speech x.plan d h

    go : (r : List ℕ) → h.rest ≡ r → is_abort_message (whole_out (got_out (fresh_bytes d ++ byte ∷ []))) ≡ true
    go (c ∷ r) er = wrong (sym (more ∙ ap (λ (y : List ℕ). not (is_nil y)) er) ∙ last)
    go [] er =
        let all : x.speech.words ≡ h.before ++ h.byte ∷ [] = h.words_are
        ∙ ap (λ (y : List ℕ). h.before ++ h.byte ∷ y) er in
        (λ i. is_abort_message (whole_out (got_out (half i ++ (e ∙ says_byte x.speech x.plan d h) i ∷ []))))
        ∙ ends_at nothing_understood h.before h.byte
        (subst (λ (y : List ℕ). EndsAbort [] y) all (words_end s n m a x x.plan.cause u line cause w.words_for))

pub abort_last : (l : Link) (m : MsgOut) → is_abort m ≡ true → last_out m l ≡ abortive
abort_last l MsgOut.Abort e = refl
abort_last l MsgOut.AbortTag e = refl
abort_last l MsgOut.ClearQueue e = refl
abort_last l MsgOut.DeviceReset e = refl
abort_last l _ e = wrong' e

-- ---- The last message of a connection, after any rows of a prompt trace.

pub last_start : (s : ScenarioValue) → LastFacts s []
last_start s n e calm = none_some n e

-- ---- the first row of a connection

abbrev pub last_or : Option Link → LastMessage
last_or None = plain
last_or (Some l) = l.last

abbrev before_or : Option Link → LastMessage
before_or None = plain
before_or (Some l) = l.before

first_link : (b : Story) (n : Connection)
    → (last_or (story_after_connection b n).link ≡ plain) × (before_or (story_after_connection b n).link ≡ plain)
first_link b n = go n.reselected (aim_of b.aims n.initiator)
  where
    go : (q : Bool) (item : Option Item) → (last_or (if q then record b { link = Some (link_of n None) }
        else story_with_restored (story_with_sent (record b { link = Some (link_of n item) }) item) item).link ≡ plain)
        × (before_or (if q then record b { link = Some (link_of n None) }
        else story_with_restored (story_with_sent (record b { link = Some (link_of n item) }) item) item).link ≡ plain)
    go true item = (refl, refl)
    go false None = (refl, refl)
    go false (Some (process id)) = (refl, refl)
    go false (Some (abort x)) = (refl, refl)

no_ends : (r : Option Ready) → OnMessages IsPlainIn (messages_if r)
no_ends None = (tt, tt)
no_ends (Some r) = (refl, tagged r.process.tag)
  where
    tagged : (t : Tag) → OnMessage IsPlainIn (tag_named t)
    tagged Tag.Untagged = tt
    tagged _ = refl

last_begins : (s : ScenarioValue) (p : List Row) (row : Row) (n : Connection) → AreOfDevices p → row.dev < 8
    → connection p ≡ None → connection (row ∷ p) ≡ Some n → (bus (row ∷ p)).rst ≡ false → IsFirst s p row n
    → (l : Link) → (run_state s (row ∷ p)).story.link ≡ Some l → LastTalk (run_state s (row ∷ p)) l
last_begins s p row n dv lt alone after calm f l el = go f.begins
  where
    k : RunState
    k = run_state s p

    q : List Row
    q = row ∷ p

    j : RunState
    j = run_state s q

    pl : IsPlain s p k
    pl = run_state_plain s p dv

    ql : IsPlain s q j
    ql = run_state_plain s q (lt, dv)

    change : (row_reading k.story.bus_state row).change ≡ change_of p row
    change = change_plain s row p dv lt

    con : k.story.bus_state.connection ≡ None
    con = pl.connection ∙ alone

    next : (row_reading k.story.bus_state row).next ≡ Some n
    next = (λ i. connection_after (pl.connection i) (pl.call i) (change i) row) ∙ after

    link : j.story.link ≡ (story_after_connection k.story n).link
    link = events_link s (story_by_change s k.story (row_reading k.story.bus_state row) row)
        (row_events_by s k.story (row_reading k.story.bus_state row) row)
        ∙ ap (λ (x : Bool).
        (if x then record k.story { link = None } else story_on_bus s k.story k.story.bus_state.connection
        (row_reading k.story.bus_state row).next (row_reading k.story.bus_state row) row).link)
        (ap (λ (x : Change). x.after.rst) change ∙ calm)
        ∙ (λ i. (story_on_bus s k.story (con i) (next i) (row_reading k.story.bus_state row) row).link)

    last : l.last ≡ plain
    last = ap last_or (sym el ∙ link) ∙ (first_link k.story n).0

    before : l.before ≡ plain
    before = ap before_or (sym el ∙ link) ∙ (first_link k.story n).1

    exchange : j.exchange ≡ exchange_after s k row (row_reading k.story.bus_state row) None (Some n)
        (leaving_of s k k.story.bus_state.connection)
    exchange = λ i. exchange_after s k row (row_reading k.story.bus_state row) (con i) (next i)
        (leaving_of s k k.story.bus_state.connection)

    go : BeginsConnection q n → LastTalk j l
    go (by_selection h) =
        record { before = before; unbegun = λ b. last; begun = λ b. wrong (sym b ∙ ql.begun ∙ h.begun_is) }
    go (by_reselection y h) =
        let re : n.reselected ≡ true = sym f.begun_is ∙ h.begun_is in
        let messages : j.exchange.plan.messages ≡ messages_if (ready_of s k n.target) =
        ap (λ (x : Exchange). x.plan.messages) exchange
        ∙ ap (λ (r : Bool). (first_plan r (not r && may_negotiate k n (aim_of k.story.aims n.initiator))
        (if r then messages_if (ready_of s k n.target) else no_messages)).messages) re in
        let next_is : j.exchange.plan.next ≡ Next.GoOn = ap (λ (x : Exchange). x.plan.next) exchange
        ∙ ap (λ (r : Bool). (first_plan r (not r && may_negotiate k n (aim_of k.story.aims n.initiator))
        (if r then messages_if (ready_of s k n.target) else no_messages)).next) re in
        let ends : EndsWell j.exchange.plan.messages j.exchange.plan.next = stays (ap frees_bus next_is)
        (subst (λ (m : Messages). OnMessages IsPlainIn m) (sym messages) (no_ends (ready_of s k n.target))) in
        let on : phase_of (bus_of j) ≡ Phase.MessageIn = ap phase_of (ql.bus ∙ h.linked.stands.bus_is) in
        record {
          before = before;
          unbegun = λ b. last;
          begun = λ b. subst (LastBy l j.exchange.plan j.handshakes.requests j.story.bus_state.dialogue.is_last)
              (sym on) (first_given l j.exchange.plan.messages j.exchange.plan.next j.handshakes.requests ends
              (ap (λ (x : Handshakes). x.requests) (ql.handshakes ∙ h.handshakes_are)) last);
        }

-- ---- a row of a connection

goes_last : (s : ScenarioValue) (p : List Row) (row : Row) (n : Connection) → AreUnits s → AreOfDevices p → Stood s p
    → NextStood s p row → ConnectionRow s p row n → (g : GoingRow s p row n) → connection (row ∷ p) ≡ Some n
    → (bus (row ∷ p)).rst ≡ false → LastTalks (run_state s p) → LastTalks (run_state s (row ∷ p))
goes_last s p row n u dv was next r g after calm h m id em ej = go g.goes.row_is.kind
  where
    k : RunState
    k = run_state s p

    j : RunState
    j = run_state_after s k row

    c : Change
    c = g.change

    pl : IsPlain s p k
    pl = run_state_plain s p dv

    of : GoesOn s k row n c
    of = g.goes

    knows : Knows s k n
    knows = was.books.knows n of.row_is.connection_is of.calm

    l : Link
    l = knows.link

    served : k.served ≡ Some (process id)
    served = sym (in_connection s k row n c (changes_phase c) (is_some (receiver_in n c))
        (is_fault row.kind) of.row_is refl refl refl).served_is
        ∙ ej

    was_so : LastTalk k l
    was_so = h l id knows.link_is served

    row_is : is_fault row.kind ≡ false → LastRow s k row n c l id
    row_is ef = record {
      units = u;
      goes = of;
      speaks = was.books.speaks n of.row_is.connection_is of.calm;
      gives = was.books.gives n of.row_is.connection_is of.calm;
      link_is = knows.link_is;
      served_is = served;
      lines = ef;
    }

    here : phase_of (bus_of k) ≡ Phase.MessageIn → is_message_in c.before ≡ true
    here e = ap is_message_in (sym of.row_is.bus_is) ∙ in_of (bus_of k) e (λ z. (of.phase z).0)

    go : RowKind row n c → LastTalk j m
    go (still ef ep er) =
        let none : is_some (receiver_in n c) ≡ false = ap (λ (z : Option ℕ). is_some z) er in
        let i = in_connection s k row n c false false (is_fault row.kind) of.row_is ep none refl in
        still_last s k row n c l m of.row_is ep none knows.link_is em
        (λ e. ap (λ (x : Handshakes). x.requests) i.handshakes_is
        ∙ ap (λ (q : Bool). (handshakes_after q (Some n) c row.time k.handshakes).requests) ef
        ∙ requests_stay n c row.time k.handshakes ep (in_io c.before (here e)) er) was_so
    go (strikes ef ep er) =
        let none : is_some (receiver_in n c) ≡ false = ap (λ (z : Option ℕ). is_some z) er in
        let i = in_connection s k row n c false false (is_fault row.kind) of.row_is ep none refl in
        still_last s k row n c l m of.row_is ep none knows.link_is em
        (λ e. ap (λ (x : Handshakes). x.requests) i.handshakes_is
        ∙ ap (λ (q : Bool). (handshakes_after q (Some n) c row.time k.handshakes).requests) ef
        ∙ struck_same c.before.io k.handshakes) was_so
    go (crosses dev ef ep er) = by (is_message_out c.before) refl (is_message_in c.before) refl
      where
        there : is_some (receiver_in n c) ≡ true
        there = ap (λ (z : Option ℕ). is_some z) er

        begun : k.exchange.begun ≡ true
        begun = of.begun (ap (λ (x : RowReading). x.crosses) (reading_is k row n c true of.row_is there))

        by : (q : Bool) → is_message_out c.before ≡ q → (t : Bool) → is_message_in c.before ≡ t → LastTalk j m
        by true e t f = cross_out s k row n c l m id (row_is ef) ep there begun e em was_so
        by false e true f = cross_in s k row n c l m id dev (row_is ef) ep er begun f em was_so
        by false e false f = cross_else s k row n c l m id (row_is ef) ep there begun e f em was_so
    go (turns ef ep er) =
        let stage = stage_of_connection s (row ∷ p) n next.stood after calm in
        turn_last s k row n c l m id
        (record {
          row_is = row_is ef;
          turns = ep;
          silent = er;
          known = λ z. ap (λ (x : Change). x.after.cd) g.change_is
              ∙ (link_phase s (row ∷ p) n stage (ap (λ (x : Change). x.after.msg) (sym g.change_is) ∙ z)).0;
          whereto = λ b. g.lines.whereto (ap changes_phase g.lines_are ∙ ep) (sym pl.begun ∙ b)
              ∙ ap (λ (x : Change). Some (phase_of x.after)) g.lines_are;
        }) em was_so

-- ---- the same of an abort

goes_abort : (s : ScenarioValue) (p : List Row) (row : Row) (n : Connection) → AreUnits s → AreOfDevices p
    → Stood s p → (g : GoingRow s p row n) → IsServed s (run_state s p) n → AbortTalks (run_state s p)
    → AbortTalks (run_state s (row ∷ p))
goes_abort s p row n u dv was g serves h m x em ej bj lj = go g.goes.row_is.kind
  where
    k : RunState
    k = run_state s p

    j : RunState
    j = run_state_after s k row

    c : Change
    c = g.change

    d : Dialogue
    d = k.story.bus_state.dialogue

    byte : ℕ
    byte = c.after.data_bits % 256

    of : GoesOn s k row n c
    of = g.goes

    knows : Knows s k n
    knows = was.books.knows n of.row_is.connection_is of.calm

    l : Link
    l = knows.link

    served : k.served ≡ Some (abort x)
    served = sym (in_connection s k row n c (changes_phase c) (is_some (receiver_in n c))
        (is_fault row.kind) of.row_is refl refl refl).served_is
        ∙ ej

    quiet : changes_phase c ≡ false → is_some (receiver_in n c) ≡ false → m.last ≡ abortive
    quiet ep none =
        let i = in_connection s k row n c false false (is_fault row.kind) of.row_is ep none refl in
        ap (λ (y : Link). y.last) (same_Some m l (sym em ∙ link_still s k row n c l of.row_is none knows.link_is))
        ∙ h l x knows.link_is served (sym (ap (λ (y : Exchange). y.begun) i.exchange_is) ∙ bj)
        (sym (ap (λ (y : Dialogue). y.is_last) i.dialogue_is) ∙ lj)

    no_process : {A : Type 0} (id : ProcId) → k.served ≡ Some (process id) → A
    no_process id e = wrong' (ap is_abort (sym e ∙ served))
      where
        is_abort : Option Item → Bool
        is_abort None = false
        is_abort (Some (process y)) = false
        is_abort (Some (abort y)) = true

    crossed : changes_phase c ≡ false → is_some (receiver_in n c) ≡ true → IsServed s k n → m.last ≡ abortive
    crossed ep there (of_process id pr e f) = no_process id e
    crossed ep there (of_abort y a e line host target re alone) =
        let begun : k.exchange.begun ≡ true = of.begun
        (ap (λ (z : RowReading). z.crosses) (reading_is k row n c true of.row_is there)) in
        let at = alone begun in
        let here : is_message_out c.before ≡ true = ap is_message_out (sym of.row_is.bus_is)
        ∙ out_lines (bus_of k) at.0 (λ z. (of.phase z).0) in
        by_last begun at.1 here y a e line
      where
        by_last : k.exchange.begun ≡ true → k.exchange.plan.cause ≡ Cause.Selected → is_message_out c.before ≡ true
            → (y : ℕ) (a : AbortDef) → k.served ≡ Some (abort y) → abort_line_at s.aborts y ≡ Some a → m.last ≡ abortive
        by_last begun cause here y a e line =
            let i = in_connection s k row n c false true (is_fault row.kind) of.row_is ep there refl in
            let last : not c.after.atn ≡ true = sym
            (ap (λ (z : Dialogue). z.is_last) i.dialogue_is ∙ (λ z. (if here z then byte_out d byte (not c.after.atn)
            else if is_message_in c.before then byte_in d byte else byte_else d c.before byte).is_last)) ∙ lj in
            let said : message_out d c true ≡ whole_out (got_out (fresh_bytes d ++ byte ∷ [])) =
            λ z. if here z then whole_out (got_out (fresh_bytes d ++ byte ∷ [])) else None in
            let speaking : IsSpeaking s n (Some (abort y)) k.exchange d = subst
            (λ (z : Option Item). IsSpeaking s n z k.exchange d) e
            ((was.books.speaks n of.row_is.connection_is of.calm).in_message_out begun
            (ap is_message_out of.row_is.bus_is ∙ here)) in
            let aborts : is_abort_message (message_out d c true) ≡ true = ap is_abort_message said
            ∙ last_aborts s n y a k.exchange d byte u line cause speaking
            (of.says here there).0 (sym (of.says here there).1 ∙ flip c.after.atn last) in
            by (link_crossed s k row n c l of.row_is there knows.link_is) aborts
          where
            flip : (q : Bool) → not q ≡ true → q ≡ false
            flip true z = wrong' z
            flip false z = refl

            by : LinkAfter s k.story l (message_out d c true) (message_in d c true) j.story.link
                → is_abort_message (message_out d c true) ≡ true → m.last ≡ abortive
            by (says y f z) w = ap (λ (v : Link). v.last) (same_Some m (record l { last = last_out y l }) (sym em ∙ z))
                ∙ abort_last l y (sym (ap is_abort_message f) ∙ w)
            by (hears y f v z) w = wrong' (sym (ap is_abort_message f) ∙ w)
            by (rows.stays f v z) w = wrong' (sym (ap is_abort_message f) ∙ w)

    go : RowKind row n c → m.last ≡ abortive
    go (still ef ep er) = quiet ep (ap (λ (z : Option ℕ). is_some z) er)
    go (strikes ef ep er) = quiet ep (ap (λ (z : Option ℕ). is_some z) er)
    go (crosses dev ef ep er) = crossed ep (ap (λ (z : Option ℕ). is_some z) er) serves
    go (turns ef ep er) = wrong' (sym (ap (λ (z : Dialogue). z.is_last) (in_connection s k row n c true false
        (is_fault row.kind) of.row_is ep (ap (λ (z : Option ℕ). is_some z) er) refl).dialogue_is) ∙ lj)

-- ---- any row

pub last_next : (s : ScenarioValue) (p : List Row) (row : Row) → Obeys s → IsPrompt s (row ∷ p) → Stood s p
    → NextStood s p row → ServedFacts s p → ServedFacts s (row ∷ p) → LastFacts s p → LastFacts s (row ∷ p)
last_next s p row o prompt was next serves served h n after calm = go (row_kind s p row n o prompt was after calm)
  where
    dv : AreOfDevices p
    dv = was.standing.devices

    lt : row.dev < 8
    lt = (least_is s p row prompt.1).inside

    -- An abort has begun no phase with the first row.
    first_abort : (run_state s (row ∷ p)).exchange.begun ≡ n.reselected → IsServed s (run_state s (row ∷ p)) n
        → AbortTalks (run_state s (row ∷ p))
    first_abort begun (of_process id pr e f) l m el em b last = wrong' (ap is_abort (sym e ∙ em))
      where
        is_abort : Option Item → Bool
        is_abort None = false
        is_abort (Some (process y)) = false
        is_abort (Some (abort y)) = true
    first_abort begun (of_abort y a e line host target re alone) l m el em b last = wrong (sym b ∙ begun ∙ re)

    go : RowKindOf s p row n → LastTalks (run_state s (row ∷ p)) × AbortTalks (run_state s (row ∷ p))
    go (begins_now alone f) = (
      λ l id el ej. last_begins s p row n dv lt alone after calm f l el,
      first_abort ((run_state_plain s (row ∷ p) (lt, dv)).begun ∙ f.begun_is) (served n after calm),
    )
    go (goes_now con off) =
        let r = connection_row s p row n o prompt was con off calm in
        let g = going_row s p row n dv lt con after calm next.row_is r.facts in
        let w = h n con off in (
          goes_last s p row n (units_are s (obeys_fits s o)) dv was next r g after calm w.0,
          goes_abort s p row n (units_are s (obeys_fits s o)) dv was g (serves n con off) w.1,
        )
