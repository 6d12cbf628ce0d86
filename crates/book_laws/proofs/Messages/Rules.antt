-- The bytes of message phases form messages, and none is half sent as the phase is left (6.6).
use Rattle.book_laws.proofs
use proofs.Names.{ℕ, ◌≡◌, ◌<◌, Bool, true, false, not, ◌&&◌, ◌||◌, ◌∙◌, List, [], ◌∷◌, ◌++◌, Some, refl, sym, ap, subst}
use proofs.Names.{true≢false, zero, suc, ◌+◌, arith, Option, None, inl, inr, cases_Bool, if◌then◌else◌, is_some, ◌%◌}
use proofs.Names.{slice_index_or, nil_of, falls, change_of, LineSet, changes_phase, is_message_out, is_message_in}
use proofs.Names.{is_data, receiver_in, receiver_of, connection, connection_after, connection_of, call, bus, Row}
use proofs.Names.{Change, Connection, got_out, got_in, form_in, dialogue, is_nil, reading_out, reading_of, Reading}
use proofs.Names.{is_unknown, leaves_message_well, is_opening, opens_well, settles_offers, keeps_messages, same_bool}
use proofs.Names.{seen, seen_with, ScenarioValue, row_reading, Story, message_bytes, phase_of, Phase, IsBusStateOf}
use proofs.Names.{run_state_plain, bus_state_is, change_same, AreOfDevices, RunState, bus_of, run_state, IsUnopened}
use proofs.Names.{before_all, in_opening, in_names, Understanding, nothing_understood, understood, half_after, GoesOn}
use proofs.{Names.{Books, Ends}, Given.{Messages.{in_is_whole, in_is_known}, Rows.{in_io}}}
use proofs.Said.Leavings.{out_is_whole, out_is_known}
use Rattle.due_model.specs.bus_phases.specs.Reading.{reading_in}

-- ---- phases by the lines

of_out : (b : LineSet) → is_message_out b ≡ true
    → (b.msg ≡ true) × (phase_of b ≡ Phase.MessageOut) × (is_message_in b ≡ false)
of_out b e = go b.msg b.cd b.io e
  where
    go : (m d i : Bool) → (m && d && not i) ≡ true
        → (m ≡ true) × ((if m then (if i then Phase.MessageIn else Phase.MessageOut)
        else if d then (if i then Phase.Status else Phase.Command) else if i then Phase.DataIn else Phase.DataOut)
        ≡ Phase.MessageOut) × ((m && d && i) ≡ false)
    go true true false z = (refl, refl, refl)
    go _ _ _ z = absurd (true≢false (sym z))

of_in : (b : LineSet) → is_message_in b ≡ true
    → (b.msg ≡ true) × (phase_of b ≡ Phase.MessageIn) × (is_message_out b ≡ false)
of_in b e = go b.msg b.cd b.io e
  where
    go : (m d i : Bool) → (m && d && i) ≡ true
        → (m ≡ true) × ((if m then (if i then Phase.MessageIn else Phase.MessageOut)
        else if d then (if i then Phase.Status else Phase.Command) else if i then Phase.DataIn else Phase.DataOut)
        ≡ Phase.MessageIn) × ((m && d && not i) ≡ false)
    go true true true z = (refl, refl, refl)
    go _ _ _ z = absurd (true≢false (sym z))

-- ---- of what is kept

known_row : (s : ScenarioValue) (k : RunState) (row : Row) (n : Connection) (c : Change) → GoesOn s k row n c
    → Books s k → is_unknown (reading_of k.story.bus_state.dialogue.half (Some n) c) ≡ false
known_row s k row n c g h = go (is_message_out c.before) refl (is_message_in c.before) refl
  where
    half : List ℕ
    half = k.story.bus_state.dialogue.half

    go : (o : Bool) → is_message_out c.before ≡ o → (i : Bool) → is_message_in c.before ≡ i
        → is_unknown (reading_of k.story.bus_state.dialogue.half (Some n) c) ≡ false
    go true eo i ei =
        let begun = (g.phase (ap (λ (b : LineSet). b.msg) g.row_is.bus_is ∙ (of_out c.before eo).0)).1 in
        out_is_known s k n c (h.speaks n g.row_is.connection_is g.calm) begun g.row_is.bus_is eo g.says
    go false eo true ei =
        let begun = (g.phase (ap (λ (b : LineSet). b.msg) g.row_is.bus_is ∙ (of_in c.before ei).0)).1 in
        in_is_known k n c (h.gives n g.row_is.connection_is g.calm) begun g.row_is.bus_is ei eo g.gives
    go false eo false ei = (λ j. is_unknown (if is_some (receiver_in n c)
        then if eo j then reading_out (got_out (k.story.bus_state.dialogue.half ++ c.after.data_bits % 256 ∷ []))
        else if ei j then reading_in (got_in (k.story.bus_state.dialogue.half ++ c.after.data_bits % 256 ∷ []))
        else Reading.NoMessage else Reading.NoMessage))
        ∙ (elim (cases_Bool (is_some (receiver_in n c))) [ inl e ↦ rw e | inr e ↦ rw e ])

half_left : (s : ScenarioValue) (k : RunState) (row : Row) (n : Connection) (c : Change) → GoesOn s k row n c
    → Books s k → changes_phase c ≡ true → (is_message_in c.before && c.before.atn) ≡ false
    → k.story.bus_state.dialogue.half ≡ []
half_left s k row n c g h ep ea = go (is_message_out c.before) refl (is_message_in c.before) refl
  where
    con : k.story.bus_state.connection ≡ Some n
    con = g.row_is.connection_is

    go : (o : Bool) → is_message_out c.before ≡ o → (i : Bool) → is_message_in c.before ≡ i
        → k.story.bus_state.dialogue.half ≡ []
    go true eo i ei =
        let here : is_message_out (bus_of k) ≡ true = ap is_message_out g.row_is.bus_is ∙ eo in
        let o = of_out (bus_of k) here in
        out_is_whole s k n (h.speaks n con g.calm) (g.phase o.0).1 here
        ((g.leaves (ap changes_phase g.row_is.change_is ∙ ep)).out o.1)
    go false eo true ei =
        let here : is_message_in (bus_of k) ≡ true = ap is_message_in g.row_is.bus_is ∙ ei in
        let o = of_in (bus_of k) here in
        let atn : (bus_of k).atn ≡ false = ap (λ (b : LineSet). b.atn) g.row_is.bus_is
        ∙ (λ j. sym ei j && c.before.atn) ∙ ea in
        in_is_whole k (h.gives n con g.calm) (g.phase o.0).1 here
        ((g.leaves (ap changes_phase g.row_is.change_is ∙ ep)).given o.1 atn)
    go false eo false ei =
        h.quiet n con g.calm (ap is_message_out g.row_is.bus_is ∙ eo) (ap is_message_in g.row_is.bus_is ∙ ei)

left_by : (q a half z : Bool) → (q ≡ true → a ≡ false → half ≡ false) → (not (q && half) || (a || z)) ≡ true
left_by false a half z h = refl
left_by true true true z h = refl
left_by true true false z h = refl
left_by true false true z h = absurd (true≢false (h refl refl))
left_by true false false z h = refl

-- ---- the first byte of a connection

name_opens : (lun : ℕ) → lun < 8 → is_opening (reading_in (got_in ((0x80 + lun) ∷ []))) ≡ true
unfolding form_in
name_opens (suc (suc (suc (suc (suc (suc (suc (suc n)))))))) lt = absurd omega (arith, lt)
name_opens _ lt = refl

io_of_out : (b : LineSet) → is_message_out b ≡ true → b.io ≡ false
io_of_out b e = go (b.msg && b.cd) b.io e
  where
    go : (q i : Bool) → (q && not i) ≡ true → i ≡ false
    go true true z = sym z
    go true false z = refl
    go false i z = absurd (true≢false (sym z))

opened_row : (s : ScenarioValue) (k : RunState) (row : Row) (n : Connection) (c : Change) → GoesOn s k row n c
    → Books s k → is_some (receiver_in n c) ≡ true → k.story.bus_state.dialogue.begun ≡ false
    → (is_opening (reading_of k.story.bus_state.dialogue.half (Some n) c) && same_bool n.reselected c.before.io) ≡ true
opened_row s k row n c g h er eb = go (h.opens n g.row_is.connection_is g.calm eb)
  where
    con : k.story.bus_state.connection ≡ Some n
    con = g.row_is.connection_is

    now : (row_reading k.story.bus_state row).crosses ≡ true
    now = (λ i. is_some (receiver_of (g.row_is.connection_is i) (g.row_is.change_is i))) ∙ er

    go : IsUnopened n k.exchange k.story.bus_state.dialogue k.handshakes (bus_of k)
        → (is_opening (reading_of k.story.bus_state.dialogue.half (Some n) c) && same_bool n.reselected c.before.io)
        ≡ true
    go (before_all r b o) = absurd (true≢false (sym (g.begun now) ∙ b))
    go (in_opening r b p q last o) =
        let eo : is_message_out c.before ≡ true = ap is_message_out (sym g.row_is.bus_is) ∙ p in
        let w = (h.speaks n con g.calm).in_message_out b p in
        let none : w.heard.before ≡ [] = nil_of w.heard.before (sym w.heard.place_is ∙ q) in
        let half : k.story.bus_state.dialogue.half ≡ [] = w.half
        ∙ ap (λ (u : Understanding). u.half) (w.heard.anew ∙ ap (understood nothing_understood) none) in
        let byte : c.after.data_bits % 256 ≡ o.first = (g.says eo er).0
        ∙ (λ i. slice_index_or (o.words_are i) (q i) 0) in
        (λ i. is_opening (if er i then if eo i then reading_out (got_out (half i ++ byte i ∷ [])) else if is_message_in
        c.before then reading_in (got_in (half i ++ byte i ∷ [])) else Reading.NoMessage else Reading.NoMessage)
        && same_bool (r i) (io_of_out c.before eo i)) ∙ (λ i. o.opens i && true)
    go (in_names r b p q lun m lt) =
        let ei : is_message_in c.before ≡ true = ap is_message_in (sym g.row_is.bus_is) ∙ p in
        let eo : is_message_out c.before ≡ false = (of_in c.before ei).2 in
        let w = (h.gives n con g.calm).in_message_in b p in
        let none : w.before ≡ [] = nil_of w.before (sym w.count_is ∙ q) in
        let half : k.story.bus_state.dialogue.half ≡ [] = w.half_is ∙ ap (half_after []) none in
        let byte : c.after.data_bits % 256 ≡ 0x80 + lun = (g.gives ei er).0
        ∙ (λ i. slice_index_or (message_bytes (m i) ++ message_bytes k.exchange.plan.messages.second) (q i) 0) in
        (λ i. is_opening (if er i then if eo i then reading_out (got_out (half i ++ byte i ∷ []))
        else if ei i then reading_in (got_in (half i ++ byte i ∷ [])) else Reading.NoMessage else Reading.NoMessage)
        && same_bool (r i) (in_io c.before ei i)) ∙ (λ i. name_opens lun lt i && true)

opened_by : (now begun a : Bool) → (now ≡ true → begun ≡ false → a ≡ true) → (not (now && not begun) || a) ≡ true
opened_by true false a h = h refl refl
opened_by true true a h = refl
opened_by false begun a h = refl

-- ---- of the rows

change_is : (s : ScenarioValue) (rows : List Row) (row : Row) (n : Connection) (c : Change) → AreOfDevices rows
    → row.dev < 8 → GoesOn s (run_state s rows) row n c → c ≡ change_of rows row
change_is s rows row n c dev lt g =
    let plain = run_state_plain s rows dev in
    sym g.row_is.change_is ∙ change_same row rows (run_state s rows).story.bus_state
    (subst (λ (b : Story). IsBusStateOf rows b.bus_state) (sym plain.story) (bus_state_is s rows dev)) lt

pub row_known : (s : ScenarioValue) (rows : List Row) (row : Row) (n : Connection) (c : Change)
    → AreOfDevices rows → row.dev < 8 → Books s (run_state s rows) → GoesOn s (run_state s rows) row n c
    → is_unknown (seen rows row).reading ≡ false
unfolding seen_with
row_known s rows row n c dev lt h g =
    let k = run_state s rows in
    let plain = run_state_plain s rows dev in
    (λ i. is_unknown (reading_of (sym plain.dialogue i).half ((sym plain.connection ∙ g.row_is.connection_is) i)
    (sym (change_is s rows row n c dev lt g) i))) ∙ known_row s k row n c g h

pub row_left : (s : ScenarioValue) (rows : List Row) (row : Row) (n : Connection) (c : Change)
    → AreOfDevices rows → row.dev < 8 → Books s (run_state s rows) → GoesOn s (run_state s rows) row n c
    → leaves_message_well (seen rows row) ≡ true
unfolding seen_with
row_left s rows row n c dev lt h g =
    let k = run_state s rows in
    let plain = run_state_plain s rows dev in
    (λ i. not (changes_phase (sym (change_is s rows row n c dev lt g) i) && not (is_nil (dialogue rows).half))
    || ((is_message_in (sym (change_is s rows row n c dev lt g) i).before
    && (sym (change_is s rows row n c dev lt g) i).before.atn) || falls
    (sym (change_is s rows row n c dev lt g) i).before.bsy (sym (change_is s rows row n c dev lt g) i).after.bsy))
    ∙ left_by (changes_phase c) (is_message_in c.before && c.before.atn)
    (not (is_nil (dialogue rows).half)) (falls c.before.bsy c.after.bsy)
    (λ p a. (λ i. not (is_nil (sym plain.dialogue i).half)) ∙ (λ i. not (is_nil (half_left s k row n c g h p a i))))

pub row_opens : (s : ScenarioValue) (rows : List Row) (row : Row) (n : Connection) (c : Change)
    → AreOfDevices rows → row.dev < 8 → Books s (run_state s rows) → GoesOn s (run_state s rows) row n c
    → opens_well (seen rows row) (connection rows) ≡ true
unfolding seen_with
row_opens s rows row n c dev lt h g =
    let k = run_state s rows in
    let plain = run_state_plain s rows dev in
    let e = change_is s rows row n c dev lt g in
    let con : connection rows ≡ Some n = sym plain.connection ∙ g.row_is.connection_is in
    (λ i. opens_well (seen rows row) (con i))
    ∙ (λ i. not (is_some (receiver_of (con i) (sym e i)) && not (sym plain.dialogue i).begun)
    || (is_opening (reading_of (sym plain.dialogue i).half (con i) (sym e i))
    && same_bool n.reselected (sym e i).before.io))
    ∙ opened_by (is_some (receiver_in n c)) k.story.bus_state.dialogue.begun
    (is_opening (reading_of k.story.bus_state.dialogue.half (Some n) c) && same_bool n.reselected c.before.io)
    (opened_row s k row n c g h)

-- ---- all of the rule

pub row_keeps : (s : ScenarioValue) (rows : List Row) (row : Row) (n : Connection) (c : Change)
    → AreOfDevices rows → row.dev < 8 → Books s (run_state s rows) → GoesOn s (run_state s rows) row n c
    → settles_offers (seen rows row) ≡ true → keeps_messages (seen rows row) ≡ true
unfolding seen_with
row_keeps s rows row n c dev lt h g e = λ i. row_opens s rows row n c dev lt h g i
    && not (row_known s rows row n c dev lt h g i) && row_left s rows row n c dev lt h g i && e i

-- While a connection stands BSY is true.
bsy_stands : (rows : List Row) (n : Connection) → connection rows ≡ Some n → (bus rows).bsy ≡ true
bsy_stands [] n e = absurd (none_some n e)
  where
    none_some : (x : Connection) → (let a : Option Connection = None in a) ≡ Some x → ⊥
    none_some x z = cc
bsy_stands (row ∷ rows) n e = go (connection rows) refl
  where
    none_some : (x : Connection) → (let a : Option Connection = None in a) ≡ Some x → ⊥
    none_some x z = cc

    kept : (q : Bool) (x : Option Connection) → (if q then x else None) ≡ Some n → q ≡ true
    kept true x z = refl
    kept false x z = absurd (none_some n z)

    made : (f b r : Bool) (x : Option Connection) → (if f && b && not r then x else None) ≡ Some n → b ≡ true
    made true true r x z = refl
    made true false r x z = absurd (none_some n z)
    made false b r x z = absurd (none_some n z)

    go : (m : Option Connection) → connection rows ≡ m → (bus (row ∷ rows)).bsy ≡ true
    go None f = made (falls (change_of rows row).before.sel (change_of rows row).after.sel)
        (change_of rows row).after.bsy (change_of rows row).after.rst (connection_of (call rows) row.time)
        (sym (ap (λ (x : Option Connection). connection_after x (call rows) (change_of rows row) row) f) ∙ e)
    go (Some m) f = kept (change_of rows row).after.bsy (Some m)
        (sym (ap (λ (x : Option Connection). connection_after x (call rows) (change_of rows row) row) f) ∙ e)

gone : (q : Bool) (x : Connection) → (if q then Some x else None) ≡ (let a : Option Connection = None in a) → q ≡ false
gone true x z = absurd (some_none x z)
  where
    some_none : (y : Connection) → Some y ≡ (let a : Option Connection = None in a) → ⊥
    some_none y e = cc
gone false x z = refl

left_free : (q half a b : Bool) → (not (q && half) || (a || (true && not false))) ≡ true
left_free true true true b = refl
left_free _ _ _ b = refl

-- With the last row no byte crosses, and the bus is free.
pub end_keeps : (s : ScenarioValue) (rows : List Row) (row : Row) (n : Connection) → AreOfDevices rows → row.dev < 8
    → Ends s (run_state s rows) row n → keeps_messages (seen rows row) ≡ true
unfolding seen_with
end_keeps s rows row n dev lt g =
    let k = run_state s rows in
    let plain = run_state_plain s rows dev in
    let e : (row_reading k.story.bus_state row).change ≡ change_of rows row = change_same row rows k.story.bus_state
    (subst (λ (b : Story). IsBusStateOf rows b.bus_state) (sym plain.story) (bus_state_is s rows dev)) lt in
    let con : connection rows ≡ Some n = sym plain.connection ∙ g.connection_is in
    let none : is_some (receiver_of (connection rows) (change_of rows row)) ≡ false =
    (λ i. is_some (receiver_of (sym plain.connection i) (sym e i))) ∙ g.carries_none in
    let before : (change_of rows row).before.bsy ≡ true = bsy_stands rows n con in
    let after : (change_of rows row).after.bsy ≡ false = gone (change_of rows row).after.bsy n
    ((λ i. connection_after (sym con i) (call rows) (change_of rows row) row)
    ∙ (λ i. connection_after (sym plain.connection i) (sym plain.call i) (sym e i) row) ∙ g.next_is) in
    let opens : opens_well (seen rows row) (connection rows) ≡ true = (λ i. opens_well (seen rows row) (con i))
    ∙ ap (λ (q : Bool). not (q && not (dialogue rows).begun)
    || (is_opening (seen rows row).reading && same_bool n.reselected (change_of rows row).before.io)) none in
    let known : is_unknown (seen rows row).reading ≡ false = ap
    (λ (q : Bool). is_unknown (if q then if is_message_out (change_of rows row).before
    then reading_out (got_out ((dialogue rows).half ++ (change_of rows row).after.data_bits % 256 ∷ []))
    else if is_message_in (change_of rows row).before then reading_in (got_in ((dialogue rows).half
    ++ (change_of rows row).after.data_bits % 256 ∷ [])) else Reading.NoMessage else Reading.NoMessage)) none in
    let leaves : leaves_message_well (seen rows row) ≡ true =
    (λ i. not (changes_phase (change_of rows row) && not (is_nil (dialogue rows).half))
    || ((is_message_in (change_of rows row).before && (change_of rows row).before.atn) || (before i && not (after i))))
    ∙ left_free (changes_phase (change_of rows row)) (not (is_nil (dialogue rows).half))
    (is_message_in (change_of rows row).before && (change_of rows row).before.atn) true in
    let settles : settles_offers (seen rows row) ≡ true = ap
    (λ (q : Bool). not (q && is_data (change_of rows row).before) || not (is_some (dialogue rows).heard.now.offer))
    none in
    λ i. opens i && not (known i) && leaves i && settles i
