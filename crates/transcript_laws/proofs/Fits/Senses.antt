-- While the REQUEST SENSE of a command that ended with CHECK CONDITION is still to be sent, no command is open that
-- clashes with that command: none of its nexus (6.6.17, 7.6, 7.8).
use Rattle.transcript_laws.proofs
use proofs.Names.{inl, inr, ℕ, ◌≡◌, ◌⊎◌, ◌<◌, Bool, true, false, not, ◌&&◌, ◌||◌, ◌∙◌, List, [], ◌∷◌, ◌++◌, Option}
use proofs.Names.{Some, None, refl, sym, ap, subst, ◌==◌, or_parts, same_Some, list_any, if◌then◌else◌, slice_index}
use proofs.Names.{wrong, wrong', and_first, and_second, Event, ProcId, rises, connection, connection_after, Connection}
use proofs.Names.{CHECK_CONDITION, ScenarioValue, Obeys, CmdDef, command_at, ends_checks, RowReading, row_reading}
use proofs.Names.{link_events, row_events_by, Item, Sent, process, abort, same_item, command_item, has_item, is_clash}
use proofs.Names.{is_done, is_open, sense_from, sense_item, Link, Story, by_abort, by_reset, by_status, is_aborted}
use proofs.Names.{is_sense_stopped, story_after_event, story_after_events, story_with_end, story_by_change, IsPrompt}
use proofs.Names.{IsPlain, RunState, bus_of, item_of, run_state, Knows, RowOf, begins, change_plain, least_is, by_bool}
use proofs.Names.{NextStood, IsNext, is_abort, is_sense, is_next_command as is_command, AreChecked, NoClash, aimed_next}
use proofs.Names.{calm_before, next_free, opened, same_process, events_grow, in_append, not_grown, carried_of_item}
use proofs.Names.{change_over, Whole, standing_next, whole, ends_open, known_served, NoEnds, Shown, completes, no_ends}
use proofs.{Names.{row_shown, sense_left, changed}, Fits.Sent.{SentAfter, as_before, one_more, row_sends}}
use Rattle.due_model.specs.bus_trace.specs.declared.Row.{Row}
use Rattle.progress_laws.specs.book_laws.specs.Traces.{apart, ends, goes_on, under_reset}

abbrev is_checked : Sent → ℕ → Bool
is_checked b m = list_any (λ k. k == m) b.checks

abbrev pub SensesAlone : ScenarioValue → Sent → Type 0
SensesAlone s b = (i m : ℕ) (c d : CmdDef) → command_at s.commands i ≡ Some c → command_at s.commands m ≡ Some d
    → c.host ≡ d.host → is_clash d c ≡ true → list_any (λ k. k == i) b.checks ≡ true → is_done b (sense_item i) ≡ false
    → is_open b m ≡ true → ⊥

-- ---- of what is sent and over

-- What is over stays so; and a command that ended with CHECK CONDITION did so before, or was open.
record Onward (a b : Sent) : Type 0 where
  over : (i : Item) → has_item a.over i ≡ true → has_item b.over i ≡ true
  checks : (m : ℕ) → is_checked b m ≡ true → (is_checked a m ≡ true) ⊎ (is_open a m ≡ true)
  checked : AreChecked b

not_over : (a b : Sent) (i : Item) → Onward a b → has_item b.over i ≡ false → has_item a.over i ≡ false
not_over a b i h e = by_bool (has_item a.over i) (λ z. wrong (sym (h.over i z) ∙ e)) (λ z. z)

still_open : (a b : Sent) (sent : List Item) (m : ℕ) → Onward a b → b.sent ≡ sent → is_open b m ≡ true
    → is_open (record a { sent = sent }) m ≡ true
still_open a b sent m h e o =
    let there = and_first (has_item b.sent (command_item m)) (not (has_item b.over (command_item m))) o in
    let opens = and_second (has_item b.sent (command_item m)) (not (has_item b.over (command_item m))) o in
    λ i. (ap (λ (x : List Item). has_item x (command_item m)) (sym e) ∙ there) i
    && not_grown (has_item a.over (command_item m)) (has_item b.over (command_item m)) (h.over (command_item m)) opens i

-- What is checked is over.
not_both : (b : Sent) (m : ℕ) → has_item b.over (command_item m) ≡ true → is_open b m ≡ true → ⊥
not_both b m e o =
    wrong' (sym (ap not e) ∙ and_second (has_item b.sent (command_item m)) (not (has_item b.over (command_item m))) o)

-- Both were open.
both_open : (s : ScenarioValue) (a b : Sent) (i m : ℕ) (c d : CmdDef) → NoClash s a → Onward a b
    → command_at s.commands i ≡ Some c → command_at s.commands m ≡ Some d → c.host ≡ d.host → is_clash d c ≡ true
    → is_checked b i ≡ true → is_open a i ≡ true → is_open a m ≡ true → is_open b m ≡ true → ⊥
both_open s a b i m c d clashes h at ad own clash ch on om o = not_both b m
    (ap (λ (x : ℕ). has_item b.over (command_item x)) (clashes m i d c ad at (sym own) om on clash) ∙ h.checked i ch) o

-- Nothing is sent with the row.
same_alone : (s : ScenarioValue) (a b : Sent) → NoClash s a → Onward a b → b.sent ≡ a.sent → SensesAlone s a
    → SensesAlone s b
same_alone s a b clashes h e was n m c d at ad own clash ch due o =
    let was_open : is_open a m ≡ true = still_open a b a.sent m h e o in
    let two = or_parts (has_item b.sent (sense_item n)) (has_item b.over (sense_item n)) due in
    let undone : is_done a (sense_item n) ≡ false = λ i.
    (ap (λ (x : List Item). has_item x (sense_item n)) (sym e) ∙ two.0) i || not_over a b (sense_item n) h two.1 i in
    elim (h.checks n ch) [
      | inl old ↦ was n m c d at ad own clash old undone was_open
      | inr on ↦ both_open s a b n m c d clashes h at ad own clash ch on was_open o
    ]

-- As an initiator sends a command it has no REQUEST SENSE to send.
sent_none : (s : ScenarioValue) (a : Sent) (dev : ℕ) (item : Item) → IsNext s a dev item
    → (m : ℕ) → item ≡ command_item m → (d : CmdDef) → command_at s.commands m ≡ Some d → (i : ℕ) (c : CmdDef)
    → command_at s.commands i ≡ Some c → c.host ≡ d.host → is_checked a i ≡ true → is_done a (sense_item i) ≡ false → ⊥
sent_none s a dev _ (is_abort k z) m e d ad i c at own ch due = no_process e
  where
    no_process : abort k ≡ command_item m → ⊥
    no_process f = absurd cc
sent_none s a dev _ (is_sense k x ex host there z) m e d ad i c at own ch due =
    wrong (ap (λ (w : ProcId). w.sense) (same_process _ _ e))
sent_none s a dev _ (is_command k time x ex host z may none) m e d ad i c at own ch due =
    let it : x ≡ d = same_Some x d
    (sym ex ∙ ap (command_at s.commands) (ap (λ (w : ProcId). w.command) (same_process _ _ e)) ∙ ad) in
    sense_left s a i c a.checks at due ch
    (ap (λ (y : ℕ). sense_from s a y a.checks) (own ∙ ap (λ (y : CmdDef). y.host) (sym it) ∙ host) ∙ none)

-- One item is.
more_alone : (s : ScenarioValue) (a b : Sent) (dev : ℕ) (item : Item) → NoClash s a → Onward a b → IsNext s a dev item
    → b.sent ≡ item ∷ a.sent → SensesAlone s a → SensesAlone s b
more_alone s a b dev item clashes h next e was n m c d at ad own clash ch due o =
    elim (opened a item m (still_open a b (item ∷ a.sent) m h e o)) [
      | inl new ↦ elim (h.checks n ch) [
        | inl old ↦ sent_none s a dev item next m new d ad n c at own old undone
        | inr on ↦ wrong (sym clash ∙ next_free s a dev item next m new d ad n c at (sym own) on)
      ]
      | inr om ↦ elim (h.checks n ch) [
        | inl old ↦ was n m c d at ad own clash old undone om
        | inr on ↦ both_open s a b n m c d clashes h at ad own clash ch on om o
      ]
    ]
  where
    two : (has_item b.sent (sense_item n) ≡ false) × (has_item b.over (sense_item n) ≡ false)
    two = or_parts (has_item b.sent (sense_item n)) (has_item b.over (sense_item n)) due

    undone : is_done a (sense_item n) ≡ false
    undone = λ i. (or_parts (same_item item (sense_item n)) (has_item a.sent (sense_item n))
        (ap (λ (x : List Item). has_item x (sense_item n)) (sym e) ∙ two.0)).1 i
        || not_over a b (sense_item n) h two.1 i

-- ---- which commands end with CHECK CONDITION

events_checks : (s : ScenarioValue) (b : Story) (shown : List Event) → NoEnds shown
    → (story_after_events s b shown).sent.checks ≡ b.sent.checks
events_checks s b [] none = refl
events_checks s b (Event.Accept id ∷ shown) none = events_checks s b shown none
events_checks s b (Event.Refuse id ∷ shown) none = events_checks s b shown none
events_checks s b (Event.Run id ∷ shown) none = events_checks s b shown none
events_checks s b (Event.Fail id code ∷ shown) none = events_checks s b shown none
events_checks s b (Event.End id status ∷ shown) none = absurd none
events_checks s b (Event.Lost id ∷ shown) none = events_checks s b shown none
events_checks s b (Event.Aborted i t n what ∷ shown) none = ends_checks (is_aborted i t n what)
    (is_sense_stopped i t n what) by_abort 1 s.commands (story_after_events s b shown)
    ∙ events_checks s b shown none
events_checks s b (Event.Reset dev ∷ shown) none =
    ends_checks (λ c. true) (λ c. true) by_reset 1 s.commands (story_after_events s b shown)
    ∙ events_checks s b shown none

end_checks : (s : ScenarioValue) (b : Story) (id : ProcId) (status m : ℕ)
    → is_checked (story_after_event s b (Event.End id status)).sent m ≡ true
    → (is_checked b.sent m ≡ true) ⊎ (process id ≡ command_item m)
end_checks s b id status m e = go id.sense refl (status == CHECK_CONDITION) e
  where
    ended : Story
    ended = story_with_end b id (by_status status)

    go : (q : Bool) → id.sense ≡ q → (r : Bool) → is_checked
        (if not q && r then record ended { sent = record ended.sent { checks = ended.sent.checks ++ id.command ∷ [] } }
        else ended).sent m ≡ true → (is_checked b.sent m ≡ true) ⊎ (process id ≡ command_item m)
    go true z r f = inl f
    go false z false f = inl f
    go false z true f = elim (in_append m id.command b.sent.checks f) [
      | inl x ↦ inl x
      | inr x ↦ inr (λ i. process (record { command = x i; sense = z i }))
    ]

-- Without a link no process ends, and under RST none does.
quiet_ends : (s : ScenarioValue) (b : Story) (d : RowReading) (row : Row) → b.link ≡ None
    → NoEnds (row_events_by s b d row)
quiet_ends s b d row e = go d.change.after.rst (rises d.change.own.rst d.change.next.rst)
  where
    go : (q r : Bool) → NoEnds (if q then (if r then Event.Reset row.dev ∷ [] else []) else link_events s b b.link d)
    go true true = tt
    go true false = tt
    go false r = subst (λ (x : Option Link). NoEnds (link_events s b x d)) (sym e) tt

reset_ends : (s : ScenarioValue) (b : Story) (d : RowReading) (row : Row) → d.change.after.rst ≡ true
    → NoEnds (row_events_by s b d row)
reset_ends s b d row e = subst
    (λ (x : Bool). NoEnds (if x then (if rises d.change.own.rst d.change.next.rst then Event.Reset row.dev ∷ [] else [])
    else link_events s b b.link d)) (sym e) (go (rises d.change.own.rst d.change.next.rst))
  where
    go : (r : Bool) → NoEnds (if r then Event.Reset row.dev ∷ [] else [])
    go true = tt
    go false = tt

-- ---- a row

row_onward : (s : ScenarioValue) (p : List Row) (row : Row) → row.dev < 8
    → Whole s p → NextStood s p row → AreChecked (run_state s (row ∷ p)).story.sent
    → Onward (run_state s p).story.sent (run_state s (row ∷ p)).story.sent
row_onward s p row lt w st checked = record {
  over = λ i z. (events_grow s b shown).over i (change_over s k.story d row i z);
  checks = λ l e. by_row l e st.row_is;
  checked = checked;
}
  where
    k : RunState
    k = run_state s p

    d : RowReading
    d = row_reading k.story.bus_state row

    b : Story
    b = story_by_change s k.story d row

    shown : List Event
    shown = row_events_by s k.story d row

    same : b.sent.checks ≡ k.story.sent.checks
    same = (changed s k.story d row).checks

    quiet : (l : ℕ) → is_checked (story_after_events s b shown).sent l ≡ true → NoEnds shown
        → (is_checked k.story.sent l ≡ true) ⊎ (is_open k.story.sent l ≡ true)
    quiet l e none = inl (ap (λ (x : List ℕ). list_any (λ m. m == l) x) (sym (events_checks s b shown none ∙ same)) ∙ e)

    ended : (l : ℕ) (m : Connection) → is_checked (story_after_events s b shown).sent l ≡ true
        → k.story.bus_state.connection ≡ Some m → (bus_of k).rst ≡ false
        → d.change.after.rst ≡ false → (knows : Knows s k m) → Shown k.story knows.link d shown
        → (is_checked k.story.sent l ≡ true) ⊎ (is_open k.story.sent l ≡ true)
    ended l m e con calm off knows (no_ends none) = quiet l e none
    ended l m e con calm off knows (completes c carried done is) =
        let item : knows.link.item ≡ Some (process c.id) = carried_of_item k.story knows.link.item c carried in
        let served : k.served ≡ Some (process c.id) = known_served s k m
        (process c.id) knows (ap (λ (o : Option Link). item_of o) knows.link_is ∙ item) in
        let opens : has_item k.story.sent.over (process c.id) ≡ false = ends_open
        s p row m c.id lt w st con calm off knows done served in
        elim (end_checks s b c.id (slice_index c.status.bytes 0) l
        (ap (λ (x : List Event). is_checked (story_after_events s b x).sent l) (sym is) ∙ e)) [
          | inl old ↦ inl (ap (λ (x : List ℕ). list_any (λ y. y == l) x) (sym same) ∙ old)
          | inr own ↦
              inr (λ i. (ap (has_item k.story.sent.sent) (sym own) ∙ w.facts.items.items.served (process c.id) served) i
              && not ((ap (has_item k.story.sent.over) (sym own) ∙ opens) i))
        ]

    linked : (l : ℕ) (m : Connection) → is_checked (story_after_events s b shown).sent l ≡ true
        → k.story.bus_state.connection ≡ Some m → (bus_of k).rst ≡ false → (q : Bool) → d.change.after.rst ≡ q
        → (is_checked k.story.sent l ≡ true) ⊎ (is_open k.story.sent l ≡ true)
    linked l m e con calm true on = quiet l e (reset_ends s k.story d row on)
    linked l m e con calm false off =
        let knows : Knows s k m = w.stood.books.knows m con calm in
        ended l m e con calm off knows (row_shown s k.story d row knows.link knows.link_is)

    by_row : (l : ℕ) → is_checked (story_after_events s b shown).sent l ≡ true → RowOf s k row
        → (is_checked k.story.sent l ≡ true) ⊎ (is_open k.story.sent l ≡ true)
    by_row l e (apart z f) = quiet l e (quiet_ends s k.story d row (w.facts.items.items.apart z).0)
    by_row l e (begins m g) = quiet l e (quiet_ends s k.story d row (w.facts.items.items.apart g.first.connection_is).0)
    by_row l e (goes_on m c g) = linked l m e g.row_is.connection_is g.calm d.change.after.rst refl
    by_row l e (ends m g) = linked l m e g.connection_is g.calm d.change.after.rst refl
    by_row l e (under_reset on z) = quiet l e (reset_ends s k.story d row on)

-- ---- after any rows

pub senses_alone : (s : ScenarioValue) (p : List Row) → Obeys s → IsPrompt s p
    → SensesAlone s (run_state s p).story.sent
senses_alone s [] o prompt = λ n m c d at ad own clash ch due opens. wrong' opens
senses_alone s (row ∷ p) o prompt = go (senses_alone s p o prompt.0) (row_sends s k row)
  where
    k : RunState
    k = run_state s p

    was : Whole s p
    was = whole s p o prompt.0

    lt : row.dev < 8
    lt = (least_is s p row prompt.1).inside

    pl : IsPlain s p k
    pl = was.stood.plain

    onward : Onward k.story.sent (run_state s (row ∷ p)).story.sent
    onward = row_onward s p row lt was (standing_next s p row o prompt was)
        (whole s (row ∷ p) o prompt).facts.items.items.checked

    clashes : NoClash s k.story.sent
    clashes = was.facts.items.items.clash

    go : SensesAlone s k.story.sent
        → SentAfter k.story (row_reading k.story.bus_state row) (run_state s (row ∷ p)).story.sent.sent
        → SensesAlone s (run_state s (row ∷ p)).story.sent
    go h (as_before e) = same_alone s k.story.sent (run_state s (row ∷ p)).story.sent clashes onward e h
    go h (one_more n item alone next sel aim e) =
        let c = change_plain s row p was.stood.standing.devices lt in
        let after : connection (row ∷ p) ≡ Some n = sym (λ i. connection_after (pl.connection i) (pl.call i) (c i) row)
        ∙ next in
        let none : connection p ≡ None = sym pl.connection ∙ alone in
        let off = calm_before s p row n o prompt was.stood none after in
        let sends : IsNext s k.story.sent n.initiator item = aimed_next s p row n none after sel
        (was.stood.called none off) (was.facts.items.aims none off) item aim in
        more_alone s k.story.sent (run_state s (row ∷ p)).story.sent n.initiator item clashes onward sends e h
