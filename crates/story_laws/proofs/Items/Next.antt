-- Each row of a prompt trace keeps what holds of the items; and after a reselection the names that the target gives are
-- of the process that is served.
use Rattle.story_laws.proofs
use proofs.Names.{inl, inr, ℕ, ◌≡◌, ◌⊎◌, ◌<◌, Bool, true, false, not, ◌&&◌, ◌==◌, ◌%◌, ◌∙◌, List, [], ◌∷◌, ◌++◌, length}
use proofs.Names.{Option, Some, None, refl, sym, ap, subst, ltb-true, same_Some, if◌then◌else◌, is_some, nat_lt}
use proofs.Names.{slice_index_or, wrong, wrong', eq_self, zero_of, change_of, rises, falls, LineSet, changes_phase}
use proofs.Names.{is_command, is_message_in, call, connection, connection_of, connection_after, receiver_in}
use proofs.Names.{receiver_of, bus, Row, Change, Connection, Handshakes, handshakes, got_in, MsgIn, Dialogue}
use proofs.Names.{ScenarioValue, Obeys, CmdDef, same_number, tag_number, Process, process_of, process_if, process_by}
use proofs.Names.{command_at, RowReading, row_reading, message_in, whole_in, Item, process, has_item, command_item}
use proofs.Names.{Sent, is_open, is_tag_clash, Link, is_open_sense, link_after_name, aim_of, story_on_free_bus}
use proofs.Names.{bytes_of_messages, phase_of, is_name, run_state_plain, IsPrompt, AreOfDevices, RunState, bus_of}
use proofs.Names.{run_state, obeys_fits, units_are, AreUnits, heard_next, messages_some, AreGiven, Gives, GivesNext}
use proofs.Names.{Knows, NamesServed, change_plain, least_is, BusStage, link_calm, LinkStage, AnyStage, apart, linked}
use proofs.Names.{none_some, in_phase, by_bool, by_option, less_apart, ConnectionRow, connection_row, GoingRow}
use proofs.Names.{going_row, RowKindOf, begins_now, goes_now, row_kind, stage_of_connection, RowFacts, stays, ends_here}
use proofs.Names.{Goes, made_is, Stood, NextStood, link_connection, link_phase, apart_connection, Planned, IsNext}
use proofs.Names.{AimsFit, Items, ItemFacts, is_sense_item, talk_of, awaits, IsNameOf, HasNames, TalksBy}
use proofs.Items.{Aims.{aims_apart, aims_quiet, aims_linked}, Facts.{aimed_next, beginning, link_stands, rst_raised}}
use proofs.Items.{Facts.{falls_quiet, ends_plain}, First.{items_first, next_unsent}, Open.{IsNamed, named_is}}
use proofs.Items.{Rows.{items_reset, items_apart, items_end, items_on}, Sent.{free_keeps}, Steps.{GivesUp, same_gives}}
use proofs.{Items.Steps.{free_gives, free_still}, Talks.{Bytes.{first_name, on_message}, InMoves.{in_move}}}
use proofs.Talks.{InMoves.{alternating, rises_well}, Rows.{TalkRow, item_served}, Steps.{Alternates, heard_unit}}
use proofs.Talks.Turns.{talks_on}

-- ---- a row of a connection

no_command : {A : Type 0} (l : LineSet) → is_command l ≡ true → is_message_in l ≡ true → A
no_command {A = A} l e f = go l.msg l.cd l.io e f
  where
    go : (m c i : Bool) → (not m && c && not i) ≡ true → (m && c && i) ≡ true → A
    go true c i z w = wrong' z
    go false c i z w = wrong' w

talk_row : (s : ScenarioValue) (p : List Row) (row : Row) (n : Connection) → AreUnits s
    → (lt : row.dev < 8) → Stood s p → NextStood s p row → connection p ≡ Some n
    → (bus p).rst ≡ false → connection (row ∷ p) ≡ Some n → (bus (row ∷ p)).rst ≡ false
    → (r : ConnectionRow s p row n) → (g : GoingRow s p row n) → TalkRow s (run_state s p) row n g.change
talk_row s p row n u lt was next con off after calm r g =
    let k = run_state s p in
    let pl = was.plain in
    let standing = pl.connection ∙ con in
    let quiet = ap (λ (l : LineSet). l.rst) pl.bus ∙ off in
    let c = g.change_is in
    record {
      units = u;
      goes = g.goes;
      speaks = was.books.speaks n standing quiet;
      gives = was.books.gives n standing quiet;
      knows = was.books.knows n standing quiet;
      attends = λ here calm_bus. ap (λ (x : Change). x.after.atn) c
          ∙ (in_move s p row n (ap (λ (x : Change). is_message_in x.before) (sym c) ∙ here) r.link).attends
          (ap (λ (x : Change). awaits x.before) (sym c) ∙ calm_bus)
          ∙ ap (λ (x : Change). x.before.atn) (sym c);
      alternates = λ here. subst (λ (x : Change). Alternates x.before x.after) (sym c)
          (alternating p row n next.obeys con off calm (ap (λ (x : Change). is_message_in x.before) (sym c) ∙ here));
      phase = λ z. ap (λ (x : Change). x.after.cd) c ∙ (link_phase s (row ∷ p) n
          (stage_of_connection s (row ∷ p) n next.stood after calm) (ap (λ (x : Change). x.after.msg) (sym c) ∙ z)).0;
      whereto = λ z b. g.lines.whereto (ap changes_phase g.lines_are ∙ z) (sym pl.begun ∙ b)
          ∙ ap (λ (x : Change). Some (phase_of x.after)) g.lines_are;
    }

-- ---- any row

pub items_next : (s : ScenarioValue) (p : List Row) (row : Row) → Obeys s → IsPrompt s (row ∷ p) → Stood s p
    → NextStood s p row → ItemFacts s p → ItemFacts s (row ∷ p)
items_next s p row o prompt was next h =
    by_bool (bus q).rst
    (λ on. resets on)
    (λ calm.
    by_option (connection q)
    (λ e. free calm e was.here)
    (λ n e. joined calm n e (row_kind s p row n o prompt was e calm)))
  where
    q : List Row
    q = row ∷ p

    k : RunState
    k = run_state s p

    d : RowReading
    d = row_reading k.story.bus_state row

    dv : AreOfDevices p
    dv = was.standing.devices

    lt : row.dev < 8
    lt = (least_is s p row prompt.1).inside

    c : d.change ≡ change_of p row
    c = change_plain s row p dv lt

    reads : d.next ≡ connection q
    reads = λ i. connection_after (was.plain.connection i) (was.plain.call i) (c i) row

    -- under RST
    no_beginning : (bus q).rst ≡ true → connection p ≡ None → connection q ≡ None
    no_beginning on none = (λ i. connection_after (none i) (call p) (change_of p row) row)
        ∙ (λ i. if falls (bus p).sel (bus q).sel && (bus q).bsy && not (on i) then connection_of (call p) row.time
        else None) ∙ off (falls (bus p).sel (bus q).sel) (bus q).bsy
      where
        off : (a b : Bool) → (if a && b && false then connection_of (call p) row.time else None) ≡ None
        off true true = refl
        off true false = refl
        off false b = refl

    resets : (bus q).rst ≡ true → ItemFacts s q
    resets on = record {
      items = items_reset s k row h.items (ap (λ (x : Change). x.after.rst) c ∙ on) (λ none. reads
          ∙ no_beginning on (sym was.plain.connection ∙ none)) (λ off. ap (λ (x : Change). rises x.own.rst x.next.rst) c
          ∙ rst_raised p row lt (ap (λ (l : LineSet). l.rst) (sym was.plain.bus) ∙ off) on);
      aims = λ e off. wrong (sym on ∙ off);
    }

    -- outside a connection
    apart_by : (bus q).rst ≡ false → connection p ≡ None → connection q ≡ None
        → GivesUp k.story.sent (story_on_free_bus s k.story d row).sent → AimsFit s q → ItemFacts s q
    apart_by calm none gone up aims = record {
      items = items_apart s k row h.items (ap (λ (x : Change). x.after.rst) c ∙ calm) (was.plain.connection ∙ none)
          (reads ∙ gone) up (free_keeps s k.story d row).1;
      aims = λ e off. aims;
    }

    still_free : (bus p).sel ≡ false → falls d.change.before.sel d.change.after.sel ≡ false
    still_free e = ap (λ (x : Change). falls x.before.sel x.after.sel) c ∙ ap (λ (x : Bool). x && not (bus q).sel) e

    apart_row : (bus q).rst ≡ false → connection p ≡ None → connection q ≡ None → BusStage s p
        → (r : Bool) → (bus p).rst ≡ r → ItemFacts s q
    apart_row calm none gone stage true on =
        let f = falls_quiet s p row lt next.obeys stage on calm in
        apart_by calm none gone (same_gives k.story.sent (story_on_free_bus s k.story d row).sent
        (free_still s k.story d row (still_free f.sel))) (aims_quiet s q f.no_bsy f.no_sel)
    apart_row calm none gone stage false off =
        let aims = h.aims none off in
        apart_by calm none gone
        (free_gives s k.story d row (λ j x ej ex re i ei. next_unsent s k.story.sent j.caller i (aims.calls j
        (sym was.plain.call ∙ ej) ((was.called none off j x (sym was.plain.call ∙ ej) ex).host_is ∙ ap not re) i ei)))
        (aims_apart s p row dv lt none gone calm (h.items.apart (was.plain.connection ∙ none)).0
        (rises_well p row next.obeys off calm) aims)

    -- its last row
    ended : (bus q).rst ≡ false → connection q ≡ None → (m : Connection) → LinkStage s p m → ItemFacts s q
    ended calm gone m stage =
        let con = link_connection s p m stage in
        let off = link_calm s p m stage in
        let standing = was.plain.connection ∙ con in
        let quiet = ap (λ (l : LineSet). l.rst) was.plain.bus ∙ off in
        let knows : Knows s k m = was.books.knows m standing quiet in
        let t : TalksBy s (talk_of k) m knows.link = h.items.talks m standing quiet knows.link knows.link_is in
        let r = connection_row s p row m o prompt was con off calm in
        let ends = link_stands s p m stage in
        record {
          items = items_end s k row m knows.link h.items (ap (λ (x : Change). x.after.rst) c ∙ calm) standing
              (reads ∙ gone) knows.link_is (λ n sv opens. (
                ends_plain s p row m dv lt con gone r knows.link t n sv opens,
                item_served s k m knows.link (record { command = n; sense = true }) knows knows.link_is
                    (t.selected (ap is_sense_item sv)) sv,
              ));
          aims = λ e rst. aims_linked s p row lt ends.arbitration_is ends.call_is ends.bsy
              (rises_well p row next.obeys off calm);
        }

    free : (bus q).rst ≡ false → connection q ≡ None → AnyStage s p → ItemFacts s q
    free calm gone (linked m stage) = ended calm gone m stage
    free calm gone (apart stage alone) =
        apart_row calm (apart_connection s p row lt next.obeys stage alone calm) gone stage (bus p).rst refl

    -- a connection stands after it
    joined : (bus q).rst ≡ false → (n : Connection) → connection q ≡ Some n → RowKindOf s p row n → ItemFacts s q
    joined calm n e (begins_now none f) = record {
      items = items_first s k row n (beginning s k row n (was.plain.connection ∙ none)
          (reads ∙ e) (ap (λ (x : Change). x.after.rst) c ∙ calm) next.row_is) h.items
          (λ selects i ei. aimed (bus p).rst refl selects i ei);
      aims = λ z rst. none_some n (sym z ∙ e);
    }
      where
        by_stage : AnyStage s p → (bus p).rst ≡ true → (bus p).sel ≡ false
        by_stage (linked m stage) on = wrong (sym on ∙ link_calm s p m stage)
        by_stage (apart stage alone) on = (falls_quiet s p row lt next.obeys stage on calm).sel

        aimed : (r : Bool) → (bus p).rst ≡ r → n.reselected ≡ false
            → (i : Item) → aim_of k.story.aims n.initiator ≡ Some i → IsNext s k.story.sent n.initiator i
        aimed true on selects i ei =
            wrong' (sym (ap (λ (x : Bool). x && not (bus q).sel) (by_stage was.here on)) ∙ (made_is p row n none e).sel)
        aimed false off selects i ei = aimed_next s p row n none e selects (was.called none off) (h.aims none off) i ei
    joined calm n e (goes_now con off) =
        let r = connection_row s p row n o prompt was con off calm in
        let g = going_row s p row n dv lt con e calm next.row_is r.facts in
        let w = talk_row s p row n (units_are s (obeys_fits s o)) lt was next con off e calm r g in
        let t = h.items.talks n (was.plain.connection ∙ con) (ap (λ (l : LineSet). l.rst) was.plain.bus ∙ off) in
        record {
          items = items_on s k row n g.change w.knows.link h.items g.goes.row_is w.knows.link_is
              (opened w (t w.knows.link w.knows.link_is)) (talks_on s k row n g.change w t);
          aims = λ z rst. none_some n (sym z ∙ e);
        }
      where
        opened : {x : Change} → (w : TalkRow s k row n x) → TalksBy s (talk_of k) n w.knows.link
            → is_command x.before ≡ true → (i : Item) → w.knows.link.item ≡ Some i
            → has_item k.story.sent.over i ≡ false
        opened {x = x} w t here i ei = by (has_item k.story.sent.over i) refl w.knows.item_is
          where
            no_item : {A : Type 0} → (let a : Option Item = None in a) ≡ Some i → A
            no_item z = absurd cc

            by : (b : Bool) → has_item k.story.sent.over i ≡ b
                → (w.knows.link.item ≡ k.served) ⊎ ((n.reselected ≡ true) × (w.knows.link.item ≡ None))
                → has_item k.story.sent.over i ≡ false
            by false f z = f
            by true f (inl z) =
                no_command (bus_of k) (ap is_command w.goes.row_is.bus_is ∙ here) (t.over i (sym z ∙ ei) f).taken.here
            by true f (inr z) = no_item (sym z.1 ∙ ei)

-- ---- names

-- A byte of MESSAGE IN that crosses is the next one.
gives_next : (s : ScenarioValue) (p : List Row) (row : Row) (n : Connection) → AreOfDevices p
    → Planned s (run_state s p) → (g : Goes s p row n) → GivesNext (run_state s p) n g.change
gives_next s p row n dv pd g here z =
    let k = run_state s p in
    let pl = run_state_plain s p dv in
    let bytes = bytes_of_messages k.exchange.plan.messages in
    let requests : k.handshakes.requests ≡ (handshakes p).requests = ap
    (λ (w : Handshakes). w.requests) pl.handshakes in
    let some = messages_some k.exchange.plan.messages
    (pd.message (in_phase (bus_of k) (ap is_message_in g.row_is.bus_is ∙ here))) in
    let follows : nat_lt (handshakes p).requests (length bytes) ≡ true = elim (g.follows here z) [
      | inl u ↦ ap (λ (w : ℕ). nat_lt w (length bytes)) (zero_of (handshakes p).requests u) ∙ some
      | inr f ↦ f
    ] in (
      g.offered here z ∙ ap (λ (w : ℕ). slice_index_or bytes w 0) (sym requests),
      ltb-true k.handshakes.requests (length bytes) (ap (λ (w : ℕ). nat_lt w (length bytes)) requests ∙ follows),
      pl.begun ∙ g.begun_is z,
    )

-- The command of the process.
record NamedCommand (s : ScenarioValue) (c : Process) : Type 0 where
  def : CmdDef
  def_is : command_at s.commands c.id.command ≡ Some def
  host : def.host ≡ c.initiator
  target : def.target ≡ c.target
  unit : def.unit ≡ c.unit
  tag : def.tag ≡ c.tag

named_command : (s : ScenarioValue) (t : Process) → process_of s t.id ≡ Some t → t.id.sense ≡ false → NamedCommand s t
named_command s t e f = by_option (command_at s.commands t.id.command)
    (λ z. no_process (sym (ap (λ (x : Option CmdDef). process_if s t.id x) z) ∙ e))
    (λ c z. let same : process_by s (record { command = t.id.command; sense = false }) c ≡ t = same_Some
    (process_by s (record { command = t.id.command; sense = false }) c) t
    ((λ j. process_if s (record { command = t.id.command; sense = sym f j }) (sym z j)) ∙ e) in record {
      def = c;
      def_is = z;
      host = ap (λ (x : Process). x.initiator) same;
      target = ap (λ (x : Process). x.target) same;
      unit = ap (λ (x : Process). x.unit) same;
      tag = ap (λ (x : Process). x.tag) same;
    })
  where
    no_process : {A : Type 0} → (let a : Option Process = None in a) ≡ Some t → A
    no_process z = absurd cc

clashes_self : (x y tag : Option ℕ) → same_number x tag ≡ true → tag ≡ y → is_tag_clash x y ≡ true
clashes_self x y tag e f = ap (is_tag_clash x) (sym f) ∙ go x tag e
  where
    go : (a b : Option ℕ) → same_number a b ≡ true → is_tag_clash a b ≡ true
    go None b z = refl
    go (Some a) None z = wrong' z
    go (Some a) (Some b) z = z

none_clashes : (x y : Option ℕ) → same_number x None ≡ true → is_tag_clash x y ≡ true
none_clashes None y e = refl
none_clashes (Some a) y e = wrong' e

-- What a name of the process finds.
found_by : (s : ScenarioValue) (k : RunState) (n : Connection) (l : Link) (w : HasNames s (talk_of k) n l)
    → Items s k → k.story.link ≡ Some l → l.initiator ≡ n.initiator → l.target ≡ n.target
    → has_item k.story.sent.over (process w.named.id) ≡ false → (m : MsgIn) → is_name m ≡ true
    → IsNameOf w.named m → (link_after_name k.story.sent s.commands l m).unit ≡ w.named.unit
    → ((link_after_name k.story.sent s.commands l m).item ≡ k.served)
    ⊎ ((link_after_name k.story.sent s.commands l m).item ≡ None)
found_by s k n l w h el ei et opens m is of unit = by m is of unit
  where
    b : Sent
    b = k.story.sent

    c : Process
    c = w.named

    it : NamedCommand s c
    it = named_command s c w.is w.command

    own : process c.id ≡ command_item c.id.command
    own = λ i. process (record { command = c.id.command; sense = w.command i })

    open_is : is_open b c.id.command ≡ true
    open_is = λ i. (ap (has_item b.sent) (sym own) ∙ h.served (process c.id) w.served_is) i
        && not ((ap (has_item b.over) (sym own) ∙ opens) i)

    senseless : (x : ℕ) → is_open_sense b x ≡ false
    senseless x =
        by_bool (is_open_sense b x)
        (λ z. wrong (sym (ap is_sense_item (sym w.served_is ∙ (h.senses x z).0)) ∙ w.command))
        (λ z. z)

    named : (u : ℕ) (tag : Option ℕ) → u ≡ c.unit
        → ((x : Option ℕ) → same_number x tag ≡ true → is_tag_clash x (tag_number c.tag) ≡ true)
        → IsNamed s b l.initiator l.target u tag c.id.command
    named u tag eu clash = record {
      def = it.def;
      def_is = it.def_is;
      nexus = (λ i. it.host i == (ei ∙ sym w.initiator_is) i && it.target i == (et ∙ sym w.target_is) i
          && it.unit i == eu i) ∙ (λ i. eq_self c.initiator i && eq_self c.target i && eq_self c.unit i);
      opens = open_is;
      tagged = λ x e. ap (λ (t : Option ℕ). is_tag_clash x t) (ap tag_number it.tag) ∙ clash x e;
      senseless = senseless;
    }

    to : (x : Option Item) → (x ≡ Some (command_item c.id.command)) ⊎ (x ≡ None) → (x ≡ k.served) ⊎ (x ≡ None)
    to x (inl z) = inl (z ∙ ap (λ (y : Item). Some y) (sym own) ∙ sym w.served_is)
    to x (inr z) = inr z

    by : (m : MsgIn) → is_name m ≡ true → IsNameOf c m → (link_after_name b s.commands l m).unit ≡ c.unit
        → ((link_after_name b s.commands l m).item ≡ k.served) ⊎ ((link_after_name b s.commands l m).item ≡ None)
    by (MsgIn.Identify lun) z f u = to _ (named_is s b l.initiator l.target lun None c.id.command h.clash
        (named lun None u (λ x e. none_clashes x (tag_number c.tag) e)))
    by (MsgIn.SimpleTag tag) z f u = to _ (named_is s b l.initiator l.target l.unit (Some tag) c.id.command h.clash
        (named l.unit (Some tag) u (λ x e. clashes_self x (tag_number c.tag) (Some tag) e (sym f))))
    by _ z f u = wrong' z

-- The names that the target gives after a reselection are of the process that is served.
pub items_asks : (s : ScenarioValue) (p : List Row) (row : Row) (n : Connection) → Obeys s → IsPrompt s (row ∷ p)
    → Stood s p → ItemFacts s p → connection p ≡ Some n → (bus p).rst ≡ false → (bus (row ∷ p)).rst ≡ false
    → NamesServed s (run_state s p) row n
items_asks s p row n o prompt was h con off calm l m re el em is =
    by_facts (connection_row s p row n o prompt was con off calm).facts
  where
    k : RunState
    k = run_state s p

    d : Dialogue
    d = k.story.bus_state.dialogue

    standing : k.story.bus_state.connection ≡ Some n
    standing = was.plain.connection ∙ con

    quiet : (bus_of k).rst ≡ false
    quiet = ap (λ (x : LineSet). x.rst) was.plain.bus ∙ off

    knows : Knows s k n
    knows = was.books.knows n standing quiet

    same : knows.link ≡ l
    same = same_Some knows.link l (sym knows.link_is ∙ el)

    t : TalksBy s (talk_of k) n l
    t = h.items.talks n standing quiet l el

    w : HasNames s (talk_of k) n l
    w = t.names re

    by_facts : RowFacts s p row n → ((link_after_name k.story.sent s.commands l m).item ≡ k.served)
        ⊎ ((link_after_name k.story.sent s.commands l m).item ≡ None)
    by_facts (ends_here f) =
        let c = change_plain s row p was.standing.devices (least_is s p row prompt.1).inside in
        none_some m (sym ((λ i. message_in d (c i) (is_some (receiver_of (standing i) (c i))))
        ∙ ap (message_in d (change_of p row)) f.carries) ∙ em)
    by_facts (stays g) = heard (is_some (receiver_in n g.change)) refl (is_message_in g.change.before) refl
      where
        byte : ℕ
        byte = g.change.after.data_bits % 256

        reads : (row_reading k.story.bus_state row).into ≡ message_in d g.change (is_some (receiver_in n g.change))
        reads = λ i. message_in d (g.row_is.change_is i)
            (is_some (receiver_of (g.row_is.connection_is i) (g.row_is.change_is i)))

        heard : (q : Bool) → is_some (receiver_in n g.change) ≡ q → (r : Bool) → is_message_in g.change.before ≡ r
            → ((link_after_name k.story.sent s.commands l m).item ≡ k.served)
            ⊎ ((link_after_name k.story.sent s.commands l m).item ≡ None)
        heard false er r ei = none_some m (sym (reads ∙ ap (message_in d g.change) er) ∙ em)
        heard true er false ei = none_some m (sym (reads ∙ ap (message_in d g.change) er
            ∙ ap (λ (x : Bool). if x then whole_in (got_in (d.half ++ byte ∷ [])) else None) ei) ∙ em)
        heard true er true ei = found_by s k n l w h.items el (ap (λ (x : Link). x.initiator) (sym same)
            ∙ knows.initiator_is) (ap (λ (x : Link). x.target) (sym same) ∙ knows.target_is) unended m is of unit
          where
            next : (byte ≡ slice_index_or (bytes_of_messages k.exchange.plan.messages) k.handshakes.requests 0)
                × (k.handshakes.requests < length (bytes_of_messages k.exchange.plan.messages))
                × (k.exchange.begun ≡ true)
            next = gives_next s p row n was.standing.devices (was.planned n con off) g ei er

            gives : Gives k
            gives = was.books.gives n standing quiet

            given : AreGiven (bytes_of_messages k.exchange.plan.messages) d.half k.handshakes.requests
            given = gives.in_message_in next.2 (ap is_message_in g.row_is.bus_is ∙ ei)

            whole : whole_in (got_in (d.half ++ byte ∷ [])) ≡ Some m
            whole = sym (reads ∙ ap (message_in d g.change) er
                ∙ ap (λ (x : Bool). if x then whole_in (got_in (d.half ++ byte ∷ [])) else None) ei)
                ∙ em

            of : IsNameOf w.named m
            of = on_message (λ x. IsNameOf w.named x) m (whole_in (got_in (d.half ++ byte ∷ []))) whole
                (heard_next (λ x. IsNameOf w.named x) k.exchange.plan.messages d.half k.handshakes.requests byte
                gives.fit w.messages given next.0 next.1)

            unit : (link_after_name k.story.sent s.commands l m).unit ≡ w.named.unit
            unit = elim w.unit [
              | inl e ↦ heard_unit s k.story.sent l m w.named e of
              | inr v ↦ ap (λ (x : MsgIn). (link_after_name k.story.sent s.commands l x).unit)
                  (same_Some m (MsgIn.Identify w.named.unit) (sym whole ∙ first_name k.exchange.plan.messages d.half
                  k.handshakes.requests byte w.named.unit given v.none_asked v.first v.small next.0))
            ]

            unended : has_item k.story.sent.over (process w.named.id) ≡ false
            unended = by_bool (has_item k.story.sent.over (process w.named.id))
                (λ z. less_apart k.handshakes.requests (length (bytes_of_messages k.exchange.plan.messages)) next.1
                (t.over (process w.named.id) w.served_is z).taken.all) (λ z. z)
