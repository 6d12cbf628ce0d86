-- A row with which a connection goes on fits: a byte that crosses, a phase that is left, and any other row.
use Rattle.transcript_laws.proofs
use proofs.Names.{ℕ, ◌≡◌, ◌∙◌, ◌⊎◌, inl, inr, Bool, true, false, not, ◌&&◌, List, [], ◌∷◌, Option, Some, None, refl}
use proofs.Names.{sym, ap, subst, ◌||◌, same_Some, is_some, if◌then◌else◌, wrong, wrong', implication, middle, ProcId}
use proofs.Names.{rises, LineSet, changes_phase, is_command, is_message_in, is_message_out, receiver_in, Change}
use proofs.Names.{Connection, Row, MsgIn, is_nil, ScenarioValue, same_bool, RowReading, row_reading, message_in}
use proofs.Names.{message_out, carried_of, Item, process, Link, LastMessage, plain, one_message, Phase, RunState}
use proofs.Names.{bus_of, run_state, in_is_whole, not_both, Knows, RowKind, still, strikes, crosses, turns, reading_in}
use proofs.Names.{in_phase, out_in, out_lines, by_bool, TalksBy, IsTaken, talk_of, IsServed, LastBy, LastGiven}
use proofs.Names.{still_stays, to_close, to_save, closed, complete_is, CarriesBy, HasStatus, OpenedValue, is_complete}
use proofs.Names.{are_talk, base_parts, is_known, is_broken, fits_out, fits_in, is_no_abort, fits_crossing}
use proofs.Names.{undoes_nothing, arrives_first, gets_known, is_open_item, fits_turn, has_status, fits_still, fits_on}
use proofs.Fits.{Crossings.{completes_none, no_message_line, takes_none, names_fit}, Out.{out_fits}}
use proofs.{Fits.Turns.{talk_leaves, arrives, known_open}, Held.Last.{HeldLast}, Opened.Bytes.{crosses_is}}
use proofs.{Opened.{Facts.{OpenedAll}, Rows.{Going, knows_before}}, Undone.Facts.{UndoesNothing}}
use Rattle.progress_laws.specs.row_laws.specs.Tells.{of_process, of_abort}
use Rattle.due_model.specs.story_model.specs.HistoryEvents as story_of

-- ---- a byte crosses

pub crossing_fits : (s : ScenarioValue) (p : List Row) (row : Row) (n : Connection) (g : Going s p row n)
    (o : OpenedValue) (l : Link) (dev : ℕ) → OpenedAll (run_state s p) n o → (run_state s p).story.link ≡ Some l
    → changes_phase g.going.change ≡ false → receiver_in n g.going.change ≡ Some dev
    → fits_crossing s (run_state s p).story o l (reading_in (run_state s p).story.bus_state n g.going.change true)
    ≡ true
crossing_fits s p row n g o l dev h el ep er = λ i. not (ep i) && not (completes_none s p row n g l dev el er i)
    && by (is_message_out c.before) refl (is_message_in c.before) refl i
  where
    k : RunState
    k = run_state s p

    c : Change
    c = g.going.change

    out : Bool
    out = fits_out o (not (is_known o (bus_of k)) || is_some l.undo || is_broken o.held)
        (message_out k.story.bus_state.dialogue c true) k.story.bus_state.dialogue.is_last

    into : Bool
    into = fits_in s k.story o l (message_in k.story.bus_state.dialogue c true)

    phase : c.before.msg ≡ true → c.before.cd ≡ true
    phase z = ap (λ (x : LineSet). x.cd) (sym g.going.goes.row_is.bus_is)
        ∙ (g.going.goes.phase (ap (λ (x : LineSet). x.msg) g.going.goes.row_is.bus_is ∙ z)).0

    by : (q : Bool) → is_message_out c.before ≡ q → (r : Bool) → is_message_in c.before ≡ r
        → (if is_message_out c.before then out
        else if is_message_in c.before then into else not c.before.msg && is_no_abort l.item) ≡ true
    by true x r y = ap (λ (q : Bool). if q then out
        else if is_message_in c.before then into else not c.before.msg && is_no_abort l.item) x
        ∙ out_fits s p row n g o l dev h.words h.since el er x
    by false x true y =
        (λ i. if x i then out else if y i then into else not c.before.msg && is_no_abort l.item)
        ∙ names_fit s p row n g o l dev h.bytes el er y (λ re z. h.named.nameless re z)
    by false x false y =
        (λ i. if x i then out else if y i then into else not c.before.msg && is_no_abort l.item)
        ∙ (λ i. not (no_message_line c.before phase x y i) && takes_none s p row n g l dev el er x i)

-- ---- a phase is left

pub turn_fits :
    (s : ScenarioValue) (p : List Row) (row : Row) (n : Connection) (g : Going s p row n) (o : OpenedValue) (l : Link)
    → OpenedAll (run_state s p) n o → (run_state s p).story.link ≡ Some l
    → changes_phase g.going.change ≡ true → is_some (receiver_in n g.going.change) ≡ false
    → (is_message_in g.going.change.before ≡ true → is_nil (run_state s p).story.bus_state.dialogue.half ≡ false
    → undoes_nothing (run_state s p).story l l.undo ≡ true) → fits_turn (run_state s p).story o l g.going.change ≡ true
turn_fits s p row n g o l h el ep er undoes =
    λ i. undone i && arrived i && talk_leaves s p row n g o l h.bytes el ep i && open_known i
  where
    k : RunState
    k = run_state s p

    c : Change
    c = g.going.change

    half : List ℕ
    half = k.story.bus_state.dialogue.half

    undone : (not (is_message_in c.before && not (is_nil half)) || undoes_nothing k.story l l.undo) ≡ true
    undone = go (is_message_in c.before) refl (is_nil half) refl
      where
        go : (q : Bool) → is_message_in c.before ≡ q → (r : Bool) → is_nil half ≡ r
            → (not (is_message_in c.before && not (is_nil half)) || undoes_nothing k.story l l.undo) ≡ true
        go false x r y = ap (λ (q : Bool). not (q && not (is_nil half)) || undoes_nothing k.story l l.undo) x
        go true x true y = λ i. not (x i && not (y i)) || undoes_nothing k.story l l.undo
        go true x false y = (λ i. not (x i && not (y i)) || undoes_nothing k.story l l.undo) ∙ undoes x y

    arrived : (not (is_command c.before) || arrives_first k.story l.item) ≡ true
    arrived = implication (is_command c.before) (arrives_first k.story l.item) (λ z. arrives s p row n g l el z)

    open_known : (is_known o (bus_of k) || not (gets_known o c) || is_open_item k.story l.item) ≡ true
    open_known = by_bool n.reselected (λ re. either (is_known o (bus_of k)) (gets_known o c)
        (is_open_item k.story l.item) (λ z. known_open s p row n g o l h.bytes el ep er re z))
        (λ sel. ap (λ (q : Bool). q || not (gets_known o c) || is_open_item k.story l.item)
        (ap (λ (x : Connection). not x.reselected || not (are_talk (base_parts o)) || is_command (bus_of k))
        h.bytes.connection_is ∙ ap (λ (q : Bool). not q || not (are_talk (base_parts o)) || is_command (bus_of k)) sel))
      where
        either : (a b x : Bool) → (b ≡ true → x ≡ true) → (a || not b || x) ≡ true
        either true b x f = refl
        either false true x f = f refl
        either false false x f = refl

-- ---- another row

-- As the initiator answers a byte of MESSAGE IN, COMMAND COMPLETE is told where it is held.
pub still_same :
    (s : ScenarioValue) (p : List Row) (row : Row) (n : Connection) (g : Going s p row n) (o : OpenedValue) (l : Link)
    → HeldLast (run_state s p) o → (run_state s p).story.link ≡ Some l → is_message_in g.going.change.before ≡ true
    → same_bool (story_of.is_complete l.last)
    (is_complete o.held && is_nil (run_state s p).story.bus_state.dialogue.half) ≡ true
still_same s p row n g o l h el here =
    by_bool (story_of.is_complete l.last)
    (λ e. λ i. same_bool (e i) ((sym same ∙ e) i && whole (t.completes e) i))
    (λ e. λ i. same_bool (e i) ((sym same ∙ e) i && is_nil k.story.bus_state.dialogue.half))
  where
    k : RunState
    k = run_state s p

    on : is_message_in (bus_of k) ≡ true
    on = ap is_message_in g.going.goes.row_is.bus_is ∙ here

    t : TalksBy s (talk_of k) n l
    t = g.was.facts.items.items.talks n g.going.goes.row_is.connection_is g.going.goes.calm l el

    same : story_of.is_complete l.last ≡ is_complete o.held
    same = h.same (out_in (bus_of k) on) l el

    whole : IsTaken (talk_of k) ⊎ ((is_message_out (bus_of k) ≡ true) × (k.story.bus_state.dialogue.is_last ≡ false))
        → is_nil k.story.bus_state.dialogue.half ≡ true
    whole (inl z) = ap is_nil (in_is_whole k
        (g.was.stood.books.gives n g.going.goes.row_is.connection_is g.going.goes.calm) z.begun z.here z.all)
    whole (inr z) = not_both (bus_of k) on z.0

not_plain : {A : Type 0} (last : LastMessage) → last ≡ plain → story_of.is_complete last ≡ true → A
not_plain last e z = wrong' (sym (ap story_of.is_complete e) ∙ z)

status_some : (bytes : List ℕ) → HasStatus bytes → not (is_nil bytes) ≡ true
status_some [] e = wrong e
status_some (b ∷ bytes) e = refl

record Completing (s : ScenarioValue) (p : List Row) (n : Connection) : Type 0 where
  begun : (run_state s p).exchange.begun ≡ true
  messages : (run_state s p).exchange.plan.messages ≡ one_message MsgIn.CommandComplete
  id : ProcId
  served : (run_state s p).served ≡ Some (process id)

completing : (s : ScenarioValue) (p : List Row) (row : Row) (n : Connection) (g : Going s p row n) (l : Link)
    → (run_state s p).story.link ≡ Some l → is_message_in g.going.change.before ≡ true
    → story_of.is_complete l.last ≡ true → Completing s p n
completing s p row n g l el here last = go (g.was.facts.served n g.stands g.calm)
  where
    k : RunState
    k = run_state s p

    on : is_message_in (bus_of k) ≡ true
    on = ap is_message_in g.going.goes.row_is.bus_is ∙ here

    t : TalksBy s (talk_of k) n l
    t = g.was.facts.items.items.talks n g.going.goes.row_is.connection_is g.going.goes.calm l el

    begun_if : IsTaken (talk_of k) ⊎ ((is_message_out (bus_of k) ≡ true) × (k.story.bus_state.dialogue.is_last ≡ false))
        → k.exchange.begun ≡ true
    begun_if (inl z) = z.begun
    begun_if (inr z) = not_both (bus_of k) on z.0

    begun : k.exchange.begun ≡ true
    begun = begun_if (t.completes last)

    alone : LastGiven l k.exchange.plan.messages k.exchange.plan.next k.handshakes.requests
        → k.exchange.plan.messages ≡ one_message MsgIn.CommandComplete
    alone (still_stays f m e) = not_plain l.last e last
    alone (to_close f x m y z e) = not_plain l.last e last
    alone (to_save f m y e) = not_plain l.last e last
    alone (closed f m y z w) = w.0 (complete_is l.last last)

    go : IsServed s k n → Completing s p n
    go (of_process id pr is x) = record {
      begun = begun;
      messages = alone
          (subst (λ (x : Phase). LastBy l k.exchange.plan k.handshakes.requests k.story.bus_state.dialogue.is_last x)
          (in_phase (bus_of k) on) (((g.was.facts.last n g.stands g.calm).0 l id el is).begun begun));
      id = id;
      served = is;
    }
    go (of_abort m a f x y z re phase) =
        not_both (bus_of k) on (out_lines (bus_of k) (phase begun).0 (λ q. (g.going.goes.phase q).0))

completion_fits :
    (s : ScenarioValue) (p : List Row) (row : Row) (n : Connection) (g : Going s p row n) (o : OpenedValue) (l : Link)
    → OpenedAll (run_state s p) n o → (run_state s p).story.link ≡ Some l
    → is_message_in g.going.change.before ≡ true → story_of.is_complete l.last ≡ true
    → (is_known o (bus_of (run_state s p)) && has_status (run_state s p).story l.item) ≡ true
completion_fits s p row n g o l h el here last = go n.reselected refl
  where
    k : RunState
    k = run_state s p

    w : Completing s p n
    w = completing s p row n g l el here last

    on : is_message_in (bus_of k) ≡ true
    on = ap is_message_in g.going.goes.row_is.bus_is ∙ here

    more : are_talk (base_parts o) ≡ false
    more = h.status.closes w.begun w.messages (inl on)

    carries : CarriesBy l (carried_of k.story.carried w.id).status.bytes k.exchange.plan k.handshakes.requests
        Phase.MessageIn
    carries = subst (λ (x : Phase). CarriesBy l
        (carried_of k.story.carried w.id).status.bytes k.exchange.plan k.handshakes.requests x) (in_phase (bus_of k) on)
        (g.was.statuses.talks n g.stands g.calm l w.id el w.served w.begun)

    given : not (is_nil (carried_of k.story.carried w.id).status.bytes) ≡ true
    given = status_some (carried_of k.story.carried w.id).status.bytes (carries w.messages).0

    same : Knows s k n → l.item ≡ k.served
    same v = by v.item_is
      where
        is : v.link ≡ l
        is = same_Some v.link l (sym v.link_is ∙ el)

        by : (v.link.item ≡ k.served) ⊎ ((n.reselected ≡ true) × (v.link.item ≡ None)) → l.item ≡ k.served
        by (inl z) = ap (λ (x : Link). x.item) (sym is) ∙ z
        by (inr z) = wrong' (sym (ap (λ (x : Option Item). is_some x) z.1) ∙ ap (λ (x : Link). is_some x.item) is
            ∙ h.named.named z.0 more l el)

    status : has_status k.story l.item ≡ true
    status = ap (has_status k.story) (same (knows_before s p row n g) ∙ w.served) ∙ given

    go : (r : Bool) → n.reselected ≡ r → (is_known o (bus_of k) && has_status k.story l.item) ≡ true
    go true re = λ i. known (are_talk (base_parts o)) more i && status i
      where
        known : (q : Bool) → q ≡ false → (not o.connection.reselected || not q || is_command (bus_of k)) ≡ true
        known true z = wrong z
        known false z = told o.connection.reselected (is_command (bus_of k))
          where
            told : (a b : Bool) → (not a || not false || b) ≡ true
            told true b = refl
            told false b = refl
    go false sel =
        λ i. (ap (λ (x : Connection). not x.reselected || not (are_talk (base_parts o)) || is_command (bus_of k))
        h.bytes.connection_is ∙ ap (λ (q : Bool). not q || not (are_talk (base_parts o)) || is_command (bus_of k)) sel)
        i && status i

pub still_fits :
    (s : ScenarioValue) (p : List Row) (row : Row) (n : Connection) (g : Going s p row n) (o : OpenedValue) (l : Link)
    → OpenedAll (run_state s p) n o → (run_state s p).story.link ≡ Some l
    → fits_still (run_state s p).story o l g.going.change ≡ true
still_fits s p row n g o l h el = λ i. implication (up && is_message_in c.before && not c.after.atn)
    (same_bool (story_of.is_complete l.last) (is_complete o.held && is_nil k.story.bus_state.dialogue.half)) told i
    && implication (story_of.is_completion l c) (is_known o (bus_of k) && has_status k.story l.item) ended i
  where
    k : RunState
    k = run_state s p

    c : Change
    c = g.going.change

    up : Bool
    up = rises c.before.ack c.after.ack

    told : (up && is_message_in c.before && not c.after.atn) ≡ true
        → same_bool (story_of.is_complete l.last) (is_complete o.held && is_nil k.story.bus_state.dialogue.half) ≡ true
    told z = still_same s p row n g o l h.last el (middle up (is_message_in c.before) (not c.after.atn) z)

    both : (a b x y : Bool) → (a && b && x && y) ≡ true → (b ≡ true) × (x ≡ true)
    both true true true y z = (refl, refl)
    both true true false y z = wrong' z
    both true false x y z = wrong' z
    both false b x y z = wrong' z

    ended : story_of.is_completion l c ≡ true → (is_known o (bus_of k) && has_status k.story l.item) ≡ true
    ended z =
        let w = both up (is_message_in c.before) (story_of.is_complete l.last) (not c.after.atn) z in
        completion_fits s p row n g o l h el w.0 w.1

-- ---- any of them

pub going_fits :
    (s : ScenarioValue) (p : List Row) (row : Row) (n : Connection) (g : Going s p row n) (o : OpenedValue) (l : Link)
    → OpenedAll (run_state s p) n o → (run_state s p).story.link ≡ Some l → UndoesNothing s p
    → fits_on s (run_state s p).story o l (row_reading (run_state s p).story.bus_state row) ≡ true
going_fits s p row n g o l h el undoes = go g.going.goes.row_is.kind
  where
    k : RunState
    k = run_state s p

    c : Change
    c = g.going.change

    read : (q : Bool) → is_some (receiver_in n c) ≡ q → fits_on s k.story o l (row_reading k.story.bus_state row)
        ≡ fits_on s k.story o l (reading_in k.story.bus_state n c q)
    read q e = ap (λ (d : RowReading). fits_on s k.story o l d) (crosses_is s p row n g q e)

    quiet : changes_phase c ≡ false → receiver_in n c ≡ None
        → fits_on s k.story o l (row_reading k.story.bus_state row) ≡ true
    quiet ep er = read false (ap (λ (x : Option ℕ). is_some x) er)
        ∙ ap (λ (q : Bool). if q then fits_turn k.story o l c else fits_still k.story o l c) ep
        ∙ still_fits s p row n g o l h el

    go : RowKind row n c → fits_on s k.story o l (row_reading k.story.bus_state row) ≡ true
    go (still ef ep er) = quiet ep er
    go (strikes ef ep er) = quiet ep er
    go (crosses dev ef ep er) =
        read true (ap (λ (x : Option ℕ). is_some x) er) ∙ crossing_fits s p row n g o l dev h el ep er
    go (turns ef ep er) =
        let none = ap (λ (x : Option ℕ). is_some x) er in
        read false none ∙ ap (λ (q : Bool). if q then fits_turn k.story o l c else fits_still k.story o l c) ep
        ∙ turn_fits s p row n g o l h el ep none
        (λ x y. undoes l el (ap is_message_in g.going.goes.row_is.bus_is ∙ x) y)
