-- Row by row of a prompt trace: the connection that began for an abort line stands, or its end was told, or RST cut it.
use Rattle.dialogue_laws.proofs
use proofs.Names.{inl, inr, ℕ, ◌≡◌, ◌⊎◌, ◌<◌, Bool, true, false, ◌&&◌, ◌||◌, ◌∙◌, List, [], ◌∷◌, ◌++◌, Option, Some}
use proofs.Names.{None, refl, sym, ap, or_right, cases_Bool, same_Some, if◌then◌else◌, is_some, eq_self, wrong, wrong'}
use proofs.Names.{AbortKind, Event, change_of, rises, LineSet, connection, connection_after, bus, Row, Change}
use proofs.Names.{ScenarioValue, Obeys, AbortDef, events_sent, RowReading, row_reading, abort_line_at}
use proofs.Names.{abort_line_events, bus_free_events, connection_events, item_abort_events, link_events, row_events_by}
use proofs.Names.{Item, Sent, abort, has_item, process, same_item, abortive, aim_of, story_by_change, story_on_bus}
use proofs.Names.{run_state_plain, IsPrompt, IsPlain, RunState, bus_of, run_state, served_after, item_if, same_event}
use proofs.Names.{same_kind, ready_of, obeys_fits, units_are, has_event, Knows, IsOver, Books, RowOf}
use proofs.Names.{apart as row_apart, begins, goes_on, ends, under_reset, change_plain, least_is, none_some}
use proofs.Names.{ConnectionRow, connection_row, RowFacts, ends_here, stays as goes, NextStood, link_phase, IsServed}
use proofs.Names.{of_abort, of_process, item_served, item_is, free_keeps, connection_sent, first_sent, sent_with}
use proofs.Names.{IsHeard, is_heard, Whole, standing_next, whole, is_cut, is_cut_by, is_served_for}
use Rattle.std.proofs.lemmas.Bool.{or_left}

abbrev pub aborted : AbortDef → Event
aborted a = Event.Aborted a.host a.target a.unit a.what

abbrev pub ToldState : ScenarioValue → List Row → ℕ → AbortDef → Type 0
ToldState s p m a = (((run_state s p).served ≡ Some (abort m)) × ((bus p).rst ≡ false))
    ⊎ ((has_event (run_state s p).story.history (aborted a) ≡ true) ⊎ (is_cut s p m ≡ true))

same_kind_self : (x : AbortKind) → same_kind x x ≡ true
same_kind_self (AbortKind.Tag n) = eq_self n
same_kind_self _ = refl

same_self : (a : AbortDef) → same_event (aborted a) (aborted a) ≡ true
same_self a = λ i. eq_self a.host i && eq_self a.target i && eq_self a.unit i && same_kind_self a.what i

-- What the history has it keeps.
has_more : (shown history : List Event) (e : Event) → has_event history e ≡ true → has_event (shown ++ history) e ≡ true
has_more [] history e h = h
has_more (f ∷ shown) history e h =
    or_right (same_event f e) (has_event (shown ++ history) e) (has_more shown history e h)

told_next : (s : ScenarioValue) (p : List Row) (row : Row) (l : ℕ) (a : AbortDef)
    → Obeys s → IsPrompt s (row ∷ p) → abort_line_at s.aborts l ≡ Some a → Whole s p
    → (has_item (run_state s p).story.sent.sent (abort l) ≡ true → ToldState s p l a)
    → has_item (run_state s (row ∷ p)).story.sent.sent (abort l) ≡ true → ToldState s (row ∷ p) l a
told_next s p row l a o prompt at was h sent = go nx.row_is
  where
    q : List Row
    q = row ∷ p

    k : RunState
    k = run_state s p

    d : RowReading
    d = row_reading k.story.bus_state row

    lt : row.dev < 8
    lt = (least_is s p row prompt.1).inside

    pl : IsPlain s p k
    pl = run_state_plain s p was.stood.standing.devices

    c : d.change ≡ change_of p row
    c = change_plain s row p was.stood.standing.devices lt

    reads : d.next ≡ connection q
    reads = λ i. connection_after (pl.connection i) (pl.call i) (c i) row

    nx : NextStood s p row
    nx = standing_next s p row o prompt was

    more : has_event k.story.history (aborted a) ≡ true → has_event (run_state s q).story.history (aborted a) ≡ true
    more e = has_more (row_events_by s k.story d row) k.story.history (aborted a) e

    cut : is_cut s p l ≡ true → is_cut s q l ≡ true
    cut e = or_left (is_cut s p l) (is_cut_by s p row l) e

    past : (has_event k.story.history (aborted a) ≡ true) ⊎ (is_cut s p l ≡ true) → ToldState s q l a
    past (inl e) = inr (inl (more e))
    past (inr e) = inr (inr (cut e))

    sent_is : (run_state s q).story.sent.sent ≡ (story_by_change s k.story d row).sent.sent
    sent_is = events_sent s (story_by_change s k.story d row) (row_events_by s k.story d row)

    -- nothing is sent with the row
    still : (story_by_change s k.story d row).sent.sent ≡ k.story.sent.sent
        → has_item k.story.sent.sent (abort l) ≡ true
    still e = ap (λ (x : List Item). has_item x (abort l)) (sym (sent_is ∙ e)) ∙ sent

    -- RST rises
    cuts : k.served ≡ Some (abort l) → (bus p).rst ≡ false → (bus q).rst ≡ true → ToldState s q l a
    cuts served off on =
        inr (inr (or_right (is_cut s p l) (is_cut_by s p row l)
        ((λ i. is_served_for (served i) (abort l) && rises (off i) (on i)) ∙ self)))
      where
        self : (is_served_for (Some (abort l)) (abort l) && rises false true) ≡ true
        self = ap (λ (x : Bool). x && rises false true) (eq_self l)

    under : (bus q).rst ≡ true → has_item k.story.sent.sent (abort l) ≡ true → ToldState s q l a
    under on e = by (h e)
      where
        by : ToldState s p l a → ToldState s q l a
        by (inl (served, off)) = cuts served off on
        by (inr t) = past t

    on_rst : d.change.after.rst ≡ true → (bus q).rst ≡ true
    on_rst on = ap (λ (x : Change). x.after.rst) (sym c) ∙ on

    reset : d.change.after.rst ≡ true → ToldState s q l a
    reset on = under (on_rst on) (still (ap (λ (x : Bool). (if x then record k.story { link = None }
        else story_on_bus s k.story k.story.bus_state.connection d.next d row).sent.sent) on))

    -- outside a connection nothing is served
    unserved : k.story.bus_state.connection ≡ None → k.served ≡ None
    unserved con = (was.facts.items.items.apart con).1

    not_served : {A : Type 0} → k.served ≡ None → ToldState s p l a
        → ((has_event k.story.history (aborted a) ≡ true) ⊎ (is_cut s p l ≡ true) → A) → A
    not_served none (inl (served, off)) f = none_some (abort l) (sym none ∙ served)
    not_served none (inr t) f = f t

    go : RowOf s k row → ToldState s q l a
    go (row_apart con gone) = by d.change.after.rst refl
      where
        by : (r : Bool) → d.change.after.rst ≡ r → ToldState s q l a
        by true on = reset on
        by false off = not_served (unserved con) (h (still ((λ i.
            (if off i then record k.story { link = None } else story_on_bus s k.story (con i) (gone i) d row).sent.sent)
            ∙ (free_keeps s k.story d row).2))) past
    go (begins m b) = by (has_item k.story.sent.sent (abort l)) refl m.reselected refl
      where
        none : k.served ≡ None
        none = unserved b.first.connection_is

        is : (run_state s q).story.sent
            ≡ (if m.reselected then k.story.sent else sent_with k.story.sent (aim_of k.story.aims m.initiator))
        is = (first_sent s k row m b.first (was.facts.items.items.apart b.first.connection_is).0).sent

        served : (run_state s q).served
            ≡ (if m.reselected then item_if (ready_of s k m.target) else aim_of k.story.aims m.initiator)
        served = λ i. served_after s k (b.first.connection_is i) (b.first.next_is i)

        calm : (bus q).rst ≡ false
        calm = ap (λ (x : Change). x.after.rst) (sym c) ∙ b.first.calm

        fresh : (w : Option Item) → has_item k.story.sent.sent (abort l) ≡ false
            → has_item (sent_with k.story.sent w).sent (abort l) ≡ true → w ≡ Some (abort l)
        fresh None e f = wrong (sym f ∙ e)
        fresh (Some i) e f =
            elim (cases_Bool (same_item i (abort l))) [
              | inl g ↦ ap (λ (y : Item). Some y) (item_is i (abort l) g)
              | inr g ↦ wrong (sym f ∙ ap (λ (y : Bool). y || has_item k.story.sent.sent (abort l)) g ∙ e)
            ]

        by : (x : Bool) → has_item k.story.sent.sent (abort l) ≡ x → (r : Bool) → m.reselected ≡ r → ToldState s q l a
        by true e r re = not_served none (h e) past
        by false e true re = wrong (sym sent ∙ ap (λ (x : Sent). has_item x.sent (abort l)) (is ∙ ap
            (λ (x : Bool). if x then k.story.sent else sent_with k.story.sent (aim_of k.story.aims m.initiator)) re)
            ∙ e)
        by false e false re =
            let w = is ∙ ap
            (λ (x : Bool). if x then k.story.sent else sent_with k.story.sent (aim_of k.story.aims m.initiator)) re in
            let aim = fresh (aim_of k.story.aims m.initiator) e
            (ap (λ (x : Sent). has_item x.sent (abort l)) (sym w) ∙ sent) in
            inl (
              served
                  ∙ ap (λ (x : Bool). if x then item_if (ready_of s k m.target) else aim_of k.story.aims m.initiator) re
                  ∙ aim,
              calm,
            )
    go (goes_on m x g) = by (h (still ((λ i. (if off i then record k.story {
      link = None;
    } else story_on_bus s k.story (g.row_is.connection_is i) (next_is i) d row).sent.sent)
        ∙ ap (λ (y : Sent). y.sent) (connection_sent s k.story k.story.link d row))))
      where
        next_is : d.next ≡ Some m
        next_is = (λ i. connection_after (g.row_is.connection_is i) k.story.bus_state.call (g.row_is.change_is i) row)
            ∙ ap (λ (r : Bool). if r then Some m else None) g.row_is.stands

        off : d.change.after.rst ≡ false
        off = ap (λ (y : Change). y.after.rst) g.row_is.change_is ∙ g.row_is.calm

        by : ToldState s p l a → ToldState s q l a
        by (inl (served, quiet)) = inl (
          (λ i. served_after s k (g.row_is.connection_is i) (next_is i)) ∙ served,
          ap (λ (y : Change). y.after.rst) (sym c) ∙ off,
        )
        by (inr t) = past t
    go (ends m g) = by d.change.after.rst refl
      where
        by : (r : Bool) → d.change.after.rst ≡ r → ToldState s q l a
        by true on = reset on
        by false off = told (h (still (λ i. (if off i then record k.story { link = None }
            else story_on_bus s k.story (g.connection_is i) (g.next_is i) d row).sent.sent)))
          where
            shown : k.served ≡ Some (abort l) → (bus p).rst ≡ false
                → has_event (run_state s q).story.history (aborted a) ≡ true
            shown served quiet = by_item (was.facts.served m con quiet)
              where
                con : connection p ≡ Some m
                con = sym pl.connection ∙ g.connection_is

                r : ConnectionRow s p row m
                r = connection_row s p row m o prompt was.stood con quiet
                    (ap (λ (y : Change). y.after.rst) (sym c) ∙ off)

                books : Books s k
                books = was.stood.books

                here : (bus_of k).rst ≡ false
                here = g.calm

                knows : Knows s k m
                knows = books.knows m g.connection_is here

                facts : RowFacts s p row m → (k.exchange.begun ≡ true) × IsOver s k m
                facts (ends_here w) = (pl.begun ∙ w.begun_is, w.over)
                facts (goes w) = none_some m (sym g.next_is ∙ (λ i. connection_after
                    (w.row_is.connection_is i) k.story.bus_state.call (w.row_is.change_is i) row)
                    ∙ ap (λ (y : Bool). if y then Some m else None) w.row_is.stands)

                by_item : IsServed s k m → has_event (run_state s q).story.history (aborted a) ≡ true
                by_item (of_process id x e f) =
                    wrong' (ap is_abort_item (same_Some (process id) (abort l) (sym e ∙ served)))
                  where
                    is_abort_item : Item → Bool
                    is_abort_item (process y) = false
                    is_abort_item (abort y) = true
                by_item (of_abort y b e line host target re alone) =
                    let f = facts r.facts in
                    let ph = alone f.0 in
                    let heard : IsHeard s k = is_heard s k m (units_are s (obeys_fits s o))
                    (books.speaks m g.connection_is here) f.0 (λ z. ap (λ (v : LineSet). v.cd) pl.bus
                    ∙ (link_phase s p m r.stage (ap (λ (v : LineSet). v.msg) (sym pl.bus) ∙ z)).0) f.1 ph.0 in
                    let last : knows.link.last ≡ abortive = (was.facts.last m con quiet).1
                    knows.link l knows.link_is served f.0 heard.last in
                    let item : knows.link.item ≡ Some (abort l) = item_served s k m knows re ∙ served in
                    let all : row_events_by s k.story d row ≡ aborted a ∷ [] = (λ i.
                    if off i then (if rises d.change.own.rst d.change.next.rst then Event.Reset row.dev ∷ [] else [])
                    else link_events s k.story (knows.link_is i) d)
                    ∙ (λ i. if is_some (g.next_is i) then connection_events s k.story knows.link d
                    else bus_free_events s knows.link (last i))
                    ∙ (λ i. item_abort_events s (item i)) ∙ ap abort_line_events at in
                    ap (λ (y : List Event). has_event (y ++ k.story.history) (aborted a)) all
                    ∙ or_left (same_event (aborted a) (aborted a)) (has_event k.story.history (aborted a)) (same_self a)

            told : ToldState s p l a → ToldState s q l a
            told (inl (served, quiet)) = inr (inl (shown served quiet))
            told (inr t) = past t
    go (under_reset on quiet) = reset on

pub told_states : (s : ScenarioValue) (p : List Row) (m : ℕ) (a : AbortDef) → Obeys s → IsPrompt s p
    → abort_line_at s.aborts m ≡ Some a → has_item (run_state s p).story.sent.sent (abort m) ≡ true → ToldState s p m a
told_states s [] m a o prompt at sent = wrong' sent
told_states s (row ∷ p) m a o prompt at sent =
    told_next s p row m a o prompt at (whole s p o prompt.0) (λ e. told_states s p m a o prompt.0 at e) sent

pub aborts_told : (s : ScenarioValue) (p : List Row) (m : ℕ) (a : AbortDef) → Obeys s
    → IsPrompt s p → connection p ≡ None → abort_line_at s.aborts m ≡ Some a
    → has_item (run_state s p).story.sent.sent (abort m) ≡ true
    → (has_event (run_state s p).story.history (aborted a) ≡ true) ⊎ (is_cut s p m ≡ true)
aborts_told s p m a o prompt apart at sent = by (told_states s p m a o prompt at sent)
  where
    was : Whole s p
    was = whole s p o prompt

    by : ToldState s p m a → (has_event (run_state s p).story.history (aborted a) ≡ true) ⊎ (is_cut s p m ≡ true)
    by (inl (served, off)) = none_some (abort m)
        (sym (was.facts.items.items.apart ((run_state_plain s p was.stood.standing.devices).connection ∙ apart)).1
        ∙ served)
    by (inr t) = t
