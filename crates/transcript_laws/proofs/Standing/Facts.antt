-- The transcript and the story stand together after each row that fits, and so the transcript has the events of the
-- history.
use Rattle.transcript_laws.proofs
use proofs.Names.{◌≡◌, ◌∙◌, ◌<◌, Bool, true, false, not, ◌&&◌, ◌||◌, List, [], ◌∷◌, length, Option, Some, None, refl}
use proofs.Names.{sym, ap, arith, not-true, same_Some, is_some, is_none, if◌then◌else◌, wrong, wrong', and_first}
use proofs.Names.{and_second, or_second, is_nothing, ProcId, rises, is_command, is_message_in, is_message_out}
use proofs.Names.{changes_phase, connection_after, Change, Connection, Row, ScenarioValue, same_id, carried_id}
use proofs.Names.{BusState, RowReading, row_reading, change_by, carried_at, is_status_phase, Item, process, abort}
use proofs.Names.{has_item, Story, aim_of, story, id_is, none_some, by_bool, same_name, names_begun, name_sent}
use proofs.Names.{TellsHistory, OpenedValue, TranscriberValue, transcribed, transcript_of, Name, nexus_of, is_of}
use proofs.Names.{is_known, IsPast, AreApart, is_fresh, shares_nexus, is_alone, is_no_abort, is_broken, fits_out}
use proofs.Names.{fits_in, fits_crossing, fits_turn, fits_still, fits_on, fits_end, fits_linked, fits_first, fits_bus}
use proofs.Names.{ends_all, fits_row, are_named, fit, sent_order, IsAlone, StandsApart, StandsLinked, StandsBy, apart}
use proofs.{Names.{linked, Standing, has_refusal, has_answer}, Past.Histories.{tells_history}}
use proofs.{Processes.Apart.{sent_apart}, Standing.{Apart.{reset_next, lingers_next}, Begins.{Begins, again_next}}}
use proofs.Standing.{Begins.{abort_next, process_next}, Bytes.{byte_next}, Closed.{parts_left}, Crossings.{Crosses}}
use proofs.Standing.{Cuts.{cut_next, unlisted}, Distinct.{distinct_names}, Ends.{end_next}, Free.{free_next}}
use proofs.Standing.{In.{in_next}, Linked.{IsOn}, More.{names_grow, names_end}, Nothing.{standing_first}}
use proofs.Standing.{Out.{out_next}, Past.{standing_past}, Stays.{still_next}, Turns.{turn_next}}
use Rattle.due_model.specs.array_model.specs.Processes as array_of
use Rattle.due_model.specs.story_model.specs.HistoryEvents as story_of

-- ---- a connection begins

alone_is : (s : ScenarioValue) (b : Story) (id : ProcId) → is_alone s b (Some (process id)) ≡ true → IsAlone s b id
alone_is s b id h = λ x d e opens but is_d is_e.
    let fails = unlisted (λ item. shares_nexus s b.sent (array_of.process_of s id) item) b.sent.sent x h
    (and_first (has_item b.sent.sent (process x)) (not (has_item b.sent.over (process x))) opens) in
    sym (λ i. opens i && is_of (nexus_of d) (is_e i))
    ∙ sym (ap (λ (o : Option array_of.Process). shares_nexus s b.sent o (process x)) is_d) ∙ fails

begins_next : (s : ScenarioValue) (rows : List Row) (row : Row) (n : Connection)
    → Standing s rows → StandsApart s (transcribed rows) (story s rows)
    → (row_reading (story s rows).bus_state row).change.after.rst ≡ false
    → (story s rows).bus_state.connection ≡ None → (row_reading (story s rows).bus_state row).next ≡ Some n
    → fits_first s (story s rows) (Some n) (row_reading (story s rows).bus_state row).change ≡ true
    → Standing s (row ∷ rows)
begins_next s rows row n h x off con next fits = by_bool n.reselected
    (λ e. again_next s rows row n e g h.numbered h.marked x)
    (λ e. by_item item refl e (or_second n.reselected (is_fresh b item && is_alone s b item)
    (and_first (n.reselected || (is_fresh b item && is_alone s b item)) (not (is_command c.after)) two) e))
  where
    b : Story
    b = story s rows

    c : Change
    c = (row_reading (story s rows).bus_state row).change

    item : Option Item
    item = aim_of (story s rows).aims n.initiator

    two : ((n.reselected || (is_fresh (story s rows) (aim_of (story s rows).aims n.initiator)
        && is_alone s (story s rows) (aim_of (story s rows).aims n.initiator)))
        && not (is_command (row_reading (story s rows).bus_state row).change.after)) ≡ true
    two = and_first _ (not (is_status_phase (row_reading (story s rows).bus_state row).change.after)) fits

    g : Begins s rows row n
    g = record {
      off = off;
      alone = con;
      next = next;
      no_command = not-true (is_command c.after)
          (and_second (n.reselected || (is_fresh b item && is_alone s b item)) (not (is_command c.after)) two);
      no_status = not-true (is_status_phase c.after)
          (and_second ((n.reselected || (is_fresh b item && is_alone s b item)) && not (is_command c.after))
          (not (is_status_phase c.after)) fits);
    }

    by_item : (o : Option Item) → aim_of (story s rows).aims n.initiator ≡ o → n.reselected ≡ false
        → (is_fresh (story s rows) o && is_alone s (story s rows) o) ≡ true → Standing s (row ∷ rows)
    by_item None e began f = wrong' f
    by_item (Some (process id)) e began f =
        let fresh = and_first (not (has_item b.sent.sent (process id)) && is_none (carried_at b.carried id))
        (is_alone s b (Some (process id))) f in
        process_next s rows row n id began e (not-true (has_item b.sent.sent (process id))
        (and_first (not (has_item b.sent.sent (process id))) (is_none (carried_at b.carried id)) fresh))
        (is_nothing (carried_at b.carried id)
        (and_second (not (has_item b.sent.sent (process id))) (is_none (carried_at b.carried id)) fresh))
        (alone_is s b id (and_second (not (has_item b.sent.sent (process id)) && is_none (carried_at b.carried id))
        (is_alone s b (Some (process id))) f)) g h.numbered h.marked x
    by_item (Some (abort j)) e began f = abort_next s rows row n j began e (not-true (has_item b.sent.sent (abort j))
        (and_first (not (has_item b.sent.sent (abort j))) true f)) g h.numbered h.marked x

-- ---- a connection goes on

goes_next : (s : ScenarioValue) (rows : List Row) (row : Row) → Standing s rows
    → (y : StandsLinked s (transcribed rows) (story s rows)) → IsOn s rows row y.opened.connection
    → fits_on s (story s rows) y.opened y.link (row_reading (story s rows).bus_state row) ≡ true
    → Standing s (row ∷ rows)
goes_next s rows row h y on fits = by_crosses (row_reading (story s rows).bus_state row).crosses
    (changes_phase (row_reading (story s rows).bus_state row).change) refl refl fits
  where
    b : Story
    b = story s rows

    d : RowReading
    d = row_reading (story s rows).bus_state row

    backs : Bool
    backs = not (is_known y.opened (story s rows).bus_state.bus) || is_some y.link.undo || is_broken y.opened.held

    by_phase : Crosses s rows row y.link → (q r : Bool) → is_message_out (story s rows).bus_state.bus ≡ q
        → is_message_in (story s rows).bus_state.bus ≡ r → (if q then fits_out y.opened
        (not (is_known y.opened (story s rows).bus_state.bus) || is_some y.link.undo || is_broken y.opened.held)
        (row_reading (story s rows).bus_state row).out (story s rows).bus_state.dialogue.is_last
        else if r then fits_in s (story s rows) y.opened y.link (row_reading (story s rows).bus_state row).into
        else not (story s rows).bus_state.bus.msg && is_no_abort y.link.item) ≡ true
        → Standing s (row ∷ rows)
    by_phase g true r e f z =
        out_next s rows row y (record { on = on; crossing = g; out = e; numbered = h.numbered; marked = h.marked }) z
    by_phase g false true e f z =
        in_next s rows row y (record { on = on; crossing = g; into = f; numbered = h.numbered; marked = h.marked }) z
    by_phase g false false e f z = byte_next s rows row y (record {
      on = on;
      crossing = g;
      msg = not-true b.bus_state.bus.msg (and_first (not b.bus_state.bus.msg) (is_no_abort y.link.item) z);
      item = and_second (not b.bus_state.bus.msg) (is_no_abort y.link.item) z;
      numbered = h.numbered;
      marked = h.marked;
    })

    by_crosses : (q r : Bool) → (row_reading (story s rows).bus_state row).crosses ≡ q
        → changes_phase (row_reading (story s rows).bus_state row).change ≡ r
        → (if (row_reading (story s rows).bus_state row).crosses
        then fits_crossing s (story s rows) y.opened y.link (row_reading (story s rows).bus_state row)
        else if changes_phase (row_reading (story s rows).bus_state row).change
        then fits_turn (story s rows) y.opened y.link (row_reading (story s rows).bus_state row).change
        else fits_still (story s rows) y.opened y.link (row_reading (story s rows).bus_state row).change) ≡ true
        → Standing s (row ∷ rows)
    by_crosses true r e f z =
        let fits' : fits_crossing s b y.opened y.link d ≡ true =
        sym (ap (λ (q : Bool). if q then fits_crossing s b y.opened y.link d
        else if changes_phase d.change then fits_turn b y.opened y.link d.change
        else fits_still b y.opened y.link d.change) e) ∙ z in
        let last : Bool =
        if is_message_out b.bus_state.bus then fits_out y.opened backs d.out b.bus_state.dialogue.is_last
        else if is_message_in b.bus_state.bus then fits_in s b y.opened y.link d.into
        else not b.bus_state.bus.msg && is_no_abort y.link.item in
        let two = and_first (not (changes_phase d.change) && not (story_of.is_completion y.link d.change)) last fits' in
        by_phase (record {
          crosses = e;
          stays = not-true (changes_phase d.change)
              (and_first (not (changes_phase d.change)) (not (story_of.is_completion y.link d.change)) two);
          incomplete = not-true (story_of.is_completion y.link d.change)
              (and_second (not (changes_phase d.change)) (not (story_of.is_completion y.link d.change)) two);
        }) (is_message_out b.bus_state.bus) (is_message_in b.bus_state.bus) refl refl
        (and_second (not (changes_phase d.change) && not (story_of.is_completion y.link d.change)) last fits')
    by_crosses false true e f z = turn_next s rows row y (record {
      on = on;
      crosses = e;
      turns = f;
      fits = sym (λ i. if e i then fits_crossing s b y.opened y.link d
          else if f i then fits_turn b y.opened y.link d.change else fits_still b y.opened y.link d.change)
          ∙ z;
      numbered = h.numbered;
      marked = h.marked;
    })
    by_crosses false false e f z = still_next s rows row y (record {
      on = on;
      crosses = e;
      stays = f;
      fits = sym (λ i. if e i then fits_crossing s b y.opened y.link d
          else if f i then fits_turn b y.opened y.link d.change else fits_still b y.opened y.link d.change)
          ∙ z;
      numbered = h.numbered;
      marked = h.marked;
    })

-- ---- any row

same_connection : (w : BusState) (row : Row) (m n : Connection) → w.connection ≡ Some m
    → (row_reading w row).next ≡ Some n → n ≡ m
same_connection w row m n con next =
    go (change_by w row).after.bsy (sym (λ i. connection_after (con i) w.call (change_by w row) row) ∙ next)
  where
    go : (q : Bool) → (if q then Some m else None) ≡ Some n → n ≡ m
    go true e = sym (same_Some m n e)
    go false e = none_some n e

standing_next : (s : ScenarioValue) (rows : List Row) (row : Row)
    → fits_row s (transcribed rows) (story s rows) row ≡ true
    → are_named s (transcribed rows).opened (story s rows).link ≡ true
    → length (names_begun (transcribed rows).items) < 4294967290 → Standing s rows → Standing s (row ∷ rows)
standing_next s rows row fits named less h =
    by_rst (row_reading (story s rows).bus_state row).change.after.rst refl h.stands
  where
    t : TranscriberValue
    t = transcribed rows

    b : Story
    b = story s rows

    d : RowReading
    d = row_reading (story s rows).bus_state row

    resets : (row_reading (story s rows).bus_state row).change.after.rst ≡ true
        → (is_none (transcribed rows).opened || (rises (row_reading (story s rows).bus_state row).change.own.rst
        (row_reading (story s rows).bus_state row).change.next.rst && ends_all s (story s rows))) ≡ true
    resets e =
        sym (ap (λ (q : Bool). if q then is_none t.opened || (rises d.change.own.rst d.change.next.rst && ends_all s b)
        else fits_bus s t b b.bus_state.connection d) e) ∙ fits

    stays : (row_reading (story s rows).bus_state row).change.after.rst ≡ false
        → fits_bus s (transcribed rows) (story s rows) (story s rows).bus_state.connection
        (row_reading (story s rows).bus_state row) ≡ true
    stays e =
        sym (ap (λ (q : Bool). if q then is_none t.opened || (rises d.change.own.rst d.change.next.rst && ends_all s b)
        else fits_bus s t b b.bus_state.connection d) e) ∙ fits

    by_apart : StandsApart s (transcribed rows) (story s rows)
        → (row_reading (story s rows).bus_state row).change.after.rst ≡ false → (m n : Option Connection)
        → (story s rows).bus_state.connection ≡ m → (row_reading (story s rows).bus_state row).next ≡ n
        → fits_bus s (transcribed rows) (story s rows) m (row_reading (story s rows).bus_state row) ≡ true
        → Standing s (row ∷ rows)
    by_apart x off (Some m) n con next f =
        lingers_next s rows row m (record { numbered = h.numbered; marked = h.marked; stands = x }) off con
    by_apart x off None None con next f = free_next s rows row off con next h.numbered h.marked x
    by_apart x off None (Some n) con next f = begins_next s rows row n h x off con next
        (sym (ap (λ (o : Option Connection). fits_first s b o d.change) next) ∙ f)

    by_linked : (g : StandsLinked s (transcribed rows) (story s rows))
        → (row_reading (story s rows).bus_state row).change.after.rst ≡ false
        → (n : Option Connection) → (row_reading (story s rows).bus_state row).next ≡ n → Standing s (row ∷ rows)
    by_linked g off n next = go n next
      where
        here : fits_linked s (story s rows) (Some g.opened) (Some g.link)
            (row_reading (story s rows).bus_state row) (is_some (row_reading (story s rows).bus_state row).next)
            ≡ true
        here = sym ((λ i. fits_bus s t b (g.connection_is i) d)
            ∙ (λ i. fits_linked s b (g.opened_is i) (g.link_is i) d (is_some d.next)))
            ∙ stays off

        go : (n : Option Connection) → (row_reading (story s rows).bus_state row).next ≡ n → Standing s (row ∷ rows)
        go None e = end_next s rows row g (record {
          off = off;
          next = e;
          fits = sym (ap (λ (o : Option Connection). if is_some o then fits_on s b g.opened g.link d
              else fits_end s b g.opened g.link (parts_left s rows g.opened) g.link.item) e)
              ∙ here;
          less = less;
          numbered = h.numbered;
          marked = h.marked;
        })
        go (Some n) e = goes_next s rows row h g (record {
          off = off;
          next = e ∙ ap (λ (x : Connection). Some x)
              (same_connection b.bus_state row g.opened.connection n g.connection_is e);
        }) (sym (ap (λ (o : Option Connection). if is_some o then fits_on s b g.opened g.link d
            else fits_end s b g.opened g.link (parts_left s rows g.opened) g.link.item) e) ∙ here)

    by_rst : (q : Bool) → (row_reading (story s rows).bus_state row).change.after.rst ≡ q
        → StandsBy s (transcribed rows) (story s rows) → Standing s (row ∷ rows)
    by_rst true e (apart x) = reset_next s rows row (record { numbered = h.numbered; marked = h.marked; stands = x }) e
    by_rst true e (linked g) =
        let both = or_second (is_none t.opened) (rises d.change.own.rst d.change.next.rst && ends_all s b)
        (resets e) (ap (λ (o : Option OpenedValue). is_none o) g.opened_is) in
        cut_next s rows row g (record {
          on = e;
          rst = and_first (rises d.change.own.rst d.change.next.rst) (ends_all s b) both;
          over = and_second (rises d.change.own.rst d.change.next.rst) (ends_all s b) both;
          named = sym (λ i. are_named s (g.opened_is i) (g.link_is i)) ∙ named;
          less = less;
          numbered = h.numbered;
          marked = h.marked;
        })
    by_rst false e (apart x) = by_apart x e b.bus_state.connection d.next refl refl (stays e)
    by_rst false e (linked g) = by_linked g e d.next refl

-- ---- all rows

pub named_now : (s : ScenarioValue) (rows : List Row) → fit s rows ≡ true
    → are_named s (transcribed rows).opened (story s rows).link ≡ true
named_now s [] e = refl
named_now s (row ∷ rows) e = and_second (fit s rows && fits_row s (transcribed rows) (story s rows) row)
    (are_named s (transcribed (row ∷ rows)).opened (story s (row ∷ rows)).link) e

pub standing : (s : ScenarioValue) (rows : List Row) → fit s rows ≡ true
    → length (names_begun (transcribed rows).items) < 4294967290 → Standing s rows
standing s [] e less = standing_first s
standing s (row ∷ rows) e less =
    let before = and_first (fit s rows && fits_row s (transcribed rows) (story s rows) row)
    (are_named s (transcribed (row ∷ rows)).opened (story s (row ∷ rows)).link) e in
    let old = and_first (fit s rows) (fits_row s (transcribed rows) (story s rows) row) before in
    let grows = names_grow rows row in
    let fewer : length (names_begun (transcribed rows).items) < 4294967290 = omega (arith, less, grows) in
    standing_next s rows row (and_second (fit s rows) (fits_row s (transcribed rows) (story s rows) row) before)
    (named_now s rows old) fewer (standing s rows old fewer)

-- A process that was refused and one that has shown its status are not the same, and so have not the same name.
names_apart : (s : ScenarioValue) (rows : List Row) → Standing s rows
    → IsPast (transcript_of rows) (sent_order (story s rows)) (story s rows).history
    → length (names_begun (transcribed rows).items) < 4294967290
    → AreApart (sent_order (story s rows)) (names_begun (transcript_of rows)) (story s rows).history
names_apart s rows h past less =
    λ x y a b refusal answer named_x named_y. go x y a b refusal answer named_x named_y (same_id x y) refl
  where
    go : (x y : ProcId) (a b : Name) → has_refusal (story s rows).history x ≡ true
        → has_answer (story s rows).history y ≡ true
        → name_sent (sent_order (story s rows)) (names_begun (transcript_of rows)) x ≡ Some a
        → name_sent (sent_order (story s rows)) (names_begun (transcript_of rows)) y ≡ Some b
        → (q : Bool) → same_id x y ≡ q → same_name a b ≡ false
    go x y a b refusal answer named_x named_y true e =
        let m = h.marked x in
        let id = carried_id (story s rows).carried x in
        wrong (sym (m.shown ∙ ap (λ (z : ProcId). has_answer (story s rows).history z) (id ∙ id_is x y e) ∙ answer)
        ∙ m.apart (m.refused ∙ ap (λ (z : ProcId). has_refusal (story s rows).history z) id ∙ refusal))
    go x y a b refusal answer named_x named_y false e = sent_apart (sent_order (story s rows))
        (names_begun (transcript_of rows)) x y a b (distinct_names s rows less h) named_x named_y e
        (past.numbers x a named_x) (past.numbers y b named_y)

pub fit_tells : (s : ScenarioValue) (rows : List Row) → fit s rows ≡ true
    → length (names_begun (transcript_of rows)) < 4294967290 → TellsHistory s rows
fit_tells s rows e less =
    let ends = names_end rows in
    let fewer : length (names_begun (transcribed rows).items) < 4294967290 = omega (arith, less, ends) in
    let h = standing s rows e fewer in
    let past = standing_past s rows h (named_now s rows e) in
    tells_history s rows past (names_apart s rows h past fewer)
