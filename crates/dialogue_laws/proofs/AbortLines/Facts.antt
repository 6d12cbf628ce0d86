-- Row by row of a prompt trace: each abort line is sent, dropped or still to be sent; and at its end none is to be
-- sent.
use Rattle.dialogue_laws.proofs
use proofs.Names.{inl, inr, ℕ, zero, suc, ◌≡◌, ◌⊎◌, ◌<◌, ◌≤◌, ◌+◌, Bool, true, false, not, ◌&&◌, ◌||◌, ◌∙◌, List, []}
use proofs.Names.{◌∷◌, ◌++◌, Option, Some, None, refl, sym, ap, subst, arith, ltb-true, ltb-false, cases_Bool}
use proofs.Names.{same_Some, list_any, if◌then◌else◌, ◌==◌, is_none, nat_lt, eq_self, wrong, wrong', Event, change_of}
use proofs.Names.{falls, connection, connection_after, bus, Row, Change, Call, Calling, CHECK_CONDITION, ScenarioValue}
use proofs.Names.{Obeys, AbortDef, CmdDef, RowReading, row_reading, abort_line_at, row_events_by, Item, Sent, abort}
use proofs.Names.{count_item, has_item, is_done, is_open, process, same_item, sense_item, Ending, Story, by_abort}
use proofs.Names.{by_reset, by_status, is_aborted, is_sense_stopped, story_after_event, story_after_events}
use proofs.Names.{story_with_end, story_with_end_if, story_with_ends, story_with_over, aim_of, is_arbitration_entry}
use proofs.Names.{is_counted, retries_of, story_after_calling, story_after_calling_by, story_by_change, story_on_bus}
use proofs.Names.{story_on_free_bus, story_with_aim, story_with_try, story_without_answer, sooner_time, time_if}
use proofs.Names.{abort_since, run_state_plain, IsPrompt, IsPlain, RunState, run_state, item_want_time, own_abort}
use proofs.Names.{own_aborts, ready_of, ready_time, want_time, abort_fits, obeys_fits, IsAbortLine, aims_are, IsItem}
use proofs.Names.{is_abort, is_process, RowOf, apart as row_apart, begins, goes_on, ends, under_reset, change_plain}
use proofs.Names.{least_is, AnyStage, linked, none_some, NextStood, link_connection, falls_quiet, next_unended}
use proofs.Names.{next_unsent, items_fresh, item_is, free_still, connection_sent, first_sent, sent_with, Whole}
use proofs.Names.{standing_next, whole, initiator_there, AbortEnd, IsToSend, was_dropped, was_sent}
use Rattle.progress_laws.specs.link_laws.specs.LinkStages.{apart}

abbrev pub AbortState : ScenarioValue → Sent → ℕ → AbortDef → Type 0
AbortState s b m a = AbortEnd s b m a ⊎ IsToSend s b m a

-- ---- what changes nothing of the line

record Same (m : ℕ) (b c : Sent) : Type 0 where
  sent : has_item c.sent (abort m) ≡ has_item b.sent (abort m)
  over : has_item c.over (abort m) ≡ has_item b.over (abort m)
  tries : count_item c.tries (abort m) ≡ count_item b.tries (abort m)

same_sent : (m : ℕ) (b c : Sent) → c ≡ b → Same m b c
same_sent m b c e = record {
  sent = ap (λ (x : Sent). has_item x.sent (abort m)) e;
  over = ap (λ (x : Sent). has_item x.over (abort m)) e;
  tries = ap (λ (x : Sent). count_item x.tries (abort m)) e;
}

same_then : (m : ℕ) (b c d : Sent) → Same m b c → Same m c d → Same m b d
same_then m b c d h g = record { sent = g.sent ∙ h.sent; over = g.over ∙ h.over; tries = g.tries ∙ h.tries }

stays : (s : ScenarioValue) (b c : Sent) (m : ℕ) (a : AbortDef) → Same m b c → AbortState s b m a → AbortState s c m a
stays s b c m a h (inl (was_sent x y z)) =
    inl (was_sent (h.sent ∙ x) (h.over ∙ y) (subst (λ t. t ≤ retries_of s.hosts a.host) (sym h.tries) z))
stays s b c m a h (inl (was_dropped x y z)) = inl (was_dropped (h.sent ∙ x) (h.over ∙ y) (h.tries ∙ z))
stays s b c m a h (inr g) = inr (record {
  unsent = h.sent ∙ g.unsent;
  kept = h.over ∙ g.kept;
  tried = subst (λ t. t ≤ retries_of s.hosts a.host) (sym h.tries) g.tried;
})

-- ---- events end processes alone

one_end : (q r : Bool) (m i : ℕ) (e : Ending) (b : Story)
    → Same i b.sent (if q then story_with_end b (record { command = m; sense = false }) e
    else if r then story_with_over b (sense_item m) else b).sent
one_end true r m i e b = record { sent = refl; over = refl; tries = refl }
one_end false true m i e b = record { sent = refl; over = refl; tries = refl }
one_end false false m i e b = record { sent = refl; over = refl; tries = refl }

ends_same : (drops stops : CmdDef → Bool) (e : Ending) (m i : ℕ) (commands : List CmdDef) (b : Story)
    → Same i b.sent (story_with_ends drops stops e m commands b).sent
ends_same drops stops e m i [] b = record { sent = refl; over = refl; tries = refl }
ends_same drops stops e m i (c ∷ commands) b =
    let next : Story = story_with_end_if drops stops e m c b in
    same_then i b.sent next.sent (story_with_ends drops stops e (m + 1) commands next).sent
    (one_end (is_open b.sent m && drops c) (stops c && list_any (λ j. j == m) b.sent.checks) m i e b)
    (ends_same drops stops e (m + 1) i commands next)

event_same : (s : ScenarioValue) (m : ℕ) (b : Story) (event : Event) → Same m b.sent (story_after_event s b event).sent
event_same s m b (Event.End id status) = go (not id.sense && status == CHECK_CONDITION)
  where
    over : Story
    over = story_with_end b id (by_status status)

    go : (q : Bool) → Same m b.sent
        (if q then record over { sent = record over.sent { checks = b.sent.checks ++ id.command ∷ [] } } else over).sent
    go true = record { sent = refl; over = refl; tries = refl }
    go false = record { sent = refl; over = refl; tries = refl }
event_same s m b (Event.Aborted host target unit what) =
    ends_same (is_aborted host target unit what) (is_sense_stopped host target unit what) by_abort 1 m s.commands b
event_same s m b (Event.Reset dev) = ends_same (λ c. true) (λ c. true) by_reset 1 m s.commands b
event_same s m b _ = record { sent = refl; over = refl; tries = refl }

events_same : (s : ScenarioValue) (m : ℕ) (b : Story) (shown : List Event)
    → Same m b.sent (story_after_events s b shown).sent
events_same s m b [] = record { sent = refl; over = refl; tries = refl }
events_same s m b (event ∷ shown) = same_then m b.sent (story_after_events s b shown).sent
    (story_after_events s b (event ∷ shown)).sent (events_same s m b shown)
    (event_same s m (story_after_events s b shown) event)

-- ---- a connection begins for an item, or it was called for in vain

-- An item that was neither sent nor dropped, and that its own initiator calls for.
record IsCalled (s : ScenarioValue) (b : Sent) (dev : ℕ) (i : Item) : Type 0 where
  unsent : has_item b.sent i ≡ false
  unended : has_item b.over i ≡ false
  host_is : (m : ℕ) (a : AbortDef) → i ≡ abort m → abort_line_at s.aborts m ≡ Some a → a.host ≡ dev

waits : (s : ScenarioValue) (b : Sent) (m : ℕ) (a : AbortDef) → has_item b.sent (abort m) ≡ false
    → has_item b.over (abort m) ≡ false → AbortState s b m a → IsToSend s b m a
waits s b m a e f (inl (was_sent x y z)) = wrong (sym x ∙ e)
waits s b m a e f (inl (was_dropped x y z)) = wrong (sym y ∙ f)
waits s b m a e f (inr g) = g

sends : (s : ScenarioValue) (b : Sent) (m dev : ℕ) (a : AbortDef) (i : Item) → IsCalled s b dev i → AbortState s b m a
    → AbortState s (record b { sent = i ∷ b.sent }) m a
sends s b m dev a i h st = go (same_item i (abort m)) refl
  where
    go : (q : Bool) → same_item i (abort m) ≡ q → AbortState s (record b { sent = i ∷ b.sent }) m a
    go true e =
        let is = item_is i (abort m) e in
        let w = waits s b m a (ap (has_item b.sent) (sym is) ∙ h.unsent)
        (ap (has_item b.over) (sym is) ∙ h.unended) st in
        inl (was_sent (ap (λ (q : Bool). q || has_item b.sent (abort m)) e) w.kept w.tried)
    go false e = stays s b (record b { sent = i ∷ b.sent }) m a
        (record { sent = ap (λ (q : Bool). q || has_item b.sent (abort m)) e; over = refl; tries = refl }) st

-- With one calling in vain more than it calls again the line is dropped.
own_try : (s : ScenarioValue) (b : Story) (m dev : ℕ) (a : AbortDef) → a.host ≡ dev → IsToSend s b.sent m a
    → AbortState s (story_with_try s b dev (Some (abort m))).sent m a
own_try s b m dev a host w = go (nat_lt (retries_of s.hosts dev) (count_item (abort m ∷ b.sent.tries) (abort m))) refl
  where
    next : Story
    next = record b { sent = record b.sent { tries = abort m ∷ b.sent.tries } }

    counted : count_item (abort m ∷ b.sent.tries) (abort m) ≡ count_item b.sent.tries (abort m) + 1
    counted = ap (λ (q : Bool). if q then count_item b.sent.tries (abort m) + 1 else count_item b.sent.tries (abort m))
        (eq_self m)

    limit : retries_of s.hosts a.host ≡ retries_of s.hosts dev
    limit = ap (retries_of s.hosts) host

    just : (most count : ℕ) → most < count + 1 → count ≤ most → count + 1 ≡ most + 1
    just most count h g = omega (arith, h, g)

    go : (q : Bool) → nat_lt (retries_of s.hosts dev) (count_item (abort m ∷ b.sent.tries) (abort m)) ≡ q → AbortState s
        (if q then record next { sent = record next.sent { over = abort m ∷ next.sent.over } } else next).sent m a
    go true e =
        let past : retries_of s.hosts a.host < count_item b.sent.tries (abort m) + 1 = subst
        (λ (x : ℕ). x < count_item b.sent.tries (abort m) + 1) (sym limit)
        (subst (λ (x : ℕ). retries_of s.hosts dev < x) counted
        (ltb-true (retries_of s.hosts dev) (count_item (abort m ∷ b.sent.tries) (abort m)) e)) in
        inl (was_dropped w.unsent (ap (λ (q : Bool). q || has_item b.sent.over (abort m)) (eq_self m))
        (counted ∙ just (retries_of s.hosts a.host) (count_item b.sent.tries (abort m)) past w.tried))
    go false e = inr (record {
      unsent = w.unsent;
      kept = w.kept;
      tried = subst (λ (x : ℕ). count_item (abort m ∷ b.sent.tries) (abort m) ≤ x) (sym limit)
          (ltb-false (retries_of s.hosts dev) (count_item (abort m ∷ b.sent.tries) (abort m)) e);
    })

tries_one : (s : ScenarioValue) (b : Story) (m dev : ℕ) (a : AbortDef) (i : Item) → abort_line_at s.aborts m ≡ Some a
    → IsCalled s b.sent dev i → AbortState s b.sent m a → AbortState s (story_with_try s b dev (Some i)).sent m a
tries_one s b m dev a (process id) at h st = go
    (is_counted (process id) && nat_lt (retries_of s.hosts dev) (count_item (process id ∷ b.sent.tries) (process id)))
  where
    next : Story
    next = record b { sent = record b.sent { tries = process id ∷ b.sent.tries } }

    go : (q : Bool) → AbortState s (if q then story_without_answer next (process id) else next).sent m a
    go true = stays s b.sent (story_without_answer next (process id)).sent m a
        (record { sent = refl; over = refl; tries = refl }) st
    go false = stays s b.sent next.sent m a (record { sent = refl; over = refl; tries = refl }) st
tries_one s b m dev a (abort k) at h st = by (k == m) refl
  where
    next : Story
    next = record b { sent = record b.sent { tries = abort k ∷ b.sent.tries } }

    other :
        (k == m) ≡ false → (q : Bool) → AbortState s (if q then story_without_answer next (abort k) else next).sent m a
    other e true = stays s b.sent (story_without_answer next (abort k)).sent m a (record {
      sent = refl;
      over = ap (λ (x : Bool). x || has_item b.sent.over (abort m)) e;
      tries =
          ap (λ (x : Bool). if x then count_item b.sent.tries (abort m) + 1 else count_item b.sent.tries (abort m)) e;
    }) st
    other e false = stays s b.sent next.sent m a (record {
      sent = refl;
      over = refl;
      tries =
          ap (λ (x : Bool). if x then count_item b.sent.tries (abort m) + 1 else count_item b.sent.tries (abort m)) e;
    }) st

    by : (q : Bool) → (k == m) ≡ q → AbortState s (story_with_try s b dev (Some (abort k))).sent m a
    by true e =
        let is : abort k ≡ abort m = item_is (abort k) (abort m) e in
        let w = waits s b.sent m a (ap (has_item b.sent.sent) (sym is) ∙ h.unsent)
        (ap (has_item b.sent.over) (sym is) ∙ h.unended) st in
        subst (λ (i : Item). AbortState s (story_with_try s b dev (Some i)).sent m a) (sym is)
        (own_try s b m dev a (h.host_is m a is at) w)
    by false e = other e (nat_lt (retries_of s.hosts dev) (count_item (abort k ∷ b.sent.tries) (abort k)))

free_row : (s : ScenarioValue) (b : Story) (d : RowReading) (row : Row) (m : ℕ) (a : AbortDef)
    → abort_line_at s.aborts m ≡ Some a → ((c : Call) (x : Calling) → b.bus_state.call ≡ Some c → c.calling ≡ Some x
    → x.reselects ≡ false → (i : Item) → aim_of b.aims c.caller ≡ Some i → IsCalled s b.sent c.caller i)
    → AbortState s b.sent m a → AbortState s (story_on_free_bus s b d row).sent m a
free_row s b d row m a at h st = go (is_arbitration_entry b d) (falls d.change.before.sel d.change.after.sel)
  where
    called : (o : Option Call) → b.bus_state.call ≡ o → AbortState s (story_after_calling s b o).sent m a
    called None e = st
    called (Some c) e = by c.calling refl
      where
        by : (g : Option Calling) → c.calling ≡ g → AbortState s (story_after_calling_by s b c.caller g).sent m a
        by None f = st
        by (Some x) f = one (is_none x.answered) x.reselects refl
          where
            aimed : x.reselects ≡ false → (o : Option Item) → aim_of b.aims c.caller ≡ o
                → AbortState s (story_with_try s b c.caller o).sent m a
            aimed z None y = st
            aimed z (Some i) y = tries_one s b m c.caller a i at (h c x e f z i y) st

            one : (q r : Bool) → x.reselects ≡ r
                → AbortState s (if q && not r then story_with_try s b c.caller (aim_of b.aims c.caller) else b).sent m a
            one true false z = aimed z (aim_of b.aims c.caller) refl
            one true true z = st
            one false r z = st

    go : (q r : Bool) → AbortState s
        (if q then story_with_aim s b row else if r then story_after_calling s b b.bus_state.call else b).sent m a
    go true r = st
    go false true = called b.bus_state.call refl
    go false false = st

-- ---- a row

abbrev none_sent : Sent
none_sent = record { sent = []; over = []; checks = []; tries = [] }

owner : (s : ScenarioValue) (dev : ℕ) (i : Item) → IsItem s dev i → (l : ℕ) (a : AbortDef) → i ≡ abort l
    → abort_line_at s.aborts l ≡ Some a → a.host ≡ dev
owner s dev _ (is_process id p z own) l a e at = absurd (not_abort e)
  where
    not_abort : process id ≡ abort l → ⊥
    not_abort f = wrong' (ap (λ (i : Item). is_abort_item i) f)
      where
        is_abort_item : Item → Bool
        is_abort_item (process x) = false
        is_abort_item (abort m) = true
owner s dev _ (is_abort m b z own) l a e at =
    let same : m ≡ l = number e in
    let line : b ≡ a = same_Some b a (sym z ∙ ap (abort_line_at s.aborts) same ∙ at) in
    ap (λ (x : AbortDef). x.host) (sym line) ∙ own
  where
    number_of : Item → ℕ
    number_of (process x) = 0
    number_of (abort k) = k

    number : abort m ≡ abort l → m ≡ l
    number f = ap number_of f

next_state : (s : ScenarioValue) (p : List Row) (row : Row) (l : ℕ) (a : AbortDef) → Obeys s → IsPrompt s (row ∷ p)
    → abort_line_at s.aborts l ≡ Some a → Whole s p → AbortState s (run_state s p).story.sent l a
    → AbortState s (run_state s (row ∷ p)).story.sent l a
next_state s p row l a o prompt at was st = go nx.row_is
  where
    q : List Row
    q = row ∷ p

    k : RunState
    k = run_state s p

    d : RowReading
    d = row_reading k.story.bus_state row

    lt : row.dev < 8
    lt = (least_is s p row prompt.1).inside

    pl : IsPlain s p k
    pl = run_state_plain s p was.stood.standing.devices

    c : d.change ≡ change_of p row
    c = change_plain s row p was.stood.standing.devices lt

    nx : NextStood s p row
    nx = standing_next s p row o prompt was

    by_change : AbortState s (story_by_change s k.story d row).sent l a → AbortState s (run_state s q).story.sent l a
    by_change g = stays s (story_by_change s k.story d row).sent (run_state s q).story.sent l a
        (events_same s l (story_by_change s k.story d row) (row_events_by s k.story d row)) g

    -- nothing is sent, and nothing called for
    calm : (story_by_change s k.story d row).sent ≡ k.story.sent → AbortState s (run_state s q).story.sent l a
    calm e = by_change (stays s k.story.sent (story_by_change s k.story d row).sent l a
        (same_sent l k.story.sent (story_by_change s k.story d row).sent e) st)

    under : d.change.after.rst ≡ true → AbortState s (run_state s q).story.sent l a
    under on = calm (ap (λ (x : Bool). (if x then record k.story { link = None }
        else story_on_bus s k.story k.story.bus_state.connection d.next d row).sent) on)

    free : d.change.after.rst ≡ false → k.story.bus_state.connection ≡ None → d.next ≡ None → AnyStage s p
        → (r : Bool) → (bus p).rst ≡ r → AbortState s (run_state s q).story.sent l a
    free off con gone (linked m h) r e = none_some m (sym con ∙ pl.connection ∙ link_connection s p m h)
    free off con gone (apart stage alone) true e =
        let f = falls_quiet s p row lt nx.obeys stage e (ap (λ (x : Change). x.after.rst) (sym c) ∙ off) in
        let low : falls d.change.before.sel d.change.after.sel ≡ false =
        ap (λ (x : Change). falls x.before.sel x.after.sel) c ∙ ap (λ (x : Bool). x && not (bus q).sel) f.sel in
        calm
        ((λ i. (if off i then record k.story { link = None } else story_on_bus s k.story (con i) (gone i) d row).sent)
        ∙ free_still s k.story d row low)
    free off con gone (apart stage alone) false e =
        let here = sym pl.connection ∙ con in
        let aims = was.facts.items.aims here e in
        by_change (subst (λ (x : Story). AbortState s x.sent l a)
        (sym (λ i. if off i then record k.story { link = None } else story_on_bus s k.story (con i) (gone i) d row))
        (free_row s k.story d row l a at (λ j x ej ex re i ei. let next = aims.calls j (sym pl.call ∙ ej)
        ((was.stood.called here e j x (sym pl.call ∙ ej) ex).host_is ∙ ap not re) i ei in record {
          unsent = next_unsent s k.story.sent j.caller i next;
          unended = next_unended s k.story.sent j.caller i next;
          host_is = owner s j.caller i (aims_are s p j.caller i ei);
        }) st))

    go : RowOf s k row → AbortState s (run_state s q).story.sent l a
    go (row_apart con gone) =
        elim (cases_Bool d.change.after.rst) [
          | inl e ↦ under e
          | inr e ↦ free e con gone was.stood.here (bus p).rst refl
        ]
    go (begins m b) = by m.reselected refl
      where
        none : k.story.link ≡ None
        none = (was.facts.items.items.apart b.first.connection_is).0

        is : (run_state s q).story.sent
            ≡ (if m.reselected then k.story.sent else sent_with k.story.sent (aim_of k.story.aims m.initiator))
        is = (first_sent s k row m b.first none).sent

        by : (r : Bool) → m.reselected ≡ r → AbortState s (run_state s q).story.sent l a
        by true e = stays s k.story.sent (run_state s q).story.sent l a
            (same_sent l k.story.sent (run_state s q).story.sent (is ∙ ap
            (λ (x : Bool). if x then k.story.sent else sent_with k.story.sent (aim_of k.story.aims m.initiator)) e)) st
        by false e =
            let reads : d.next ≡ connection q = λ i. connection_after (pl.connection i) (pl.call i) (c i) row in
            let f = items_fresh s p row m o prompt was.stood was.facts.items
            (sym pl.connection ∙ b.first.connection_is) (sym reads ∙ b.first.next_is) e in
            subst (λ (x : Sent). AbortState s x l a) (sym (is
            ∙ ap (λ (x : Bool). if x then k.story.sent else sent_with k.story.sent (aim_of k.story.aims m.initiator)) e
            ∙ ap (sent_with k.story.sent) f.aim_is)) (sends s k.story.sent l m.initiator a f.item (record {
              unsent = f.unsent;
              unended = f.unended;
              host_is = owner s m.initiator f.item (aims_are s p m.initiator f.item f.aim_is);
            }) st)
    go (goes_on m x g) = by d.change.after.rst refl
      where
        next_is : d.next ≡ Some m
        next_is = (λ i. connection_after (g.row_is.connection_is i) k.story.bus_state.call (g.row_is.change_is i) row)
            ∙ ap (λ (r : Bool). if r then Some m else None) g.row_is.stands

        by : (r : Bool) → d.change.after.rst ≡ r → AbortState s (run_state s q).story.sent l a
        by true on = under on
        by false off = calm ((λ i. (if off i then record k.story { link = None }
            else story_on_bus s k.story (g.row_is.connection_is i) (next_is i) d row).sent)
            ∙ connection_sent s k.story k.story.link d row)
    go (ends m g) = by d.change.after.rst refl
      where
        by : (r : Bool) → d.change.after.rst ≡ r → AbortState s (run_state s q).story.sent l a
        by true on = under on
        by false off = calm (λ i. (if off i then record k.story { link = None }
            else story_on_bus s k.story (g.connection_is i) (g.next_is i) d row).sent)
    go (under_reset on quiet) = under on

pub abort_states : (s : ScenarioValue) (p : List Row) (m : ℕ) (a : AbortDef) → Obeys s → IsPrompt s p
    → abort_line_at s.aborts m ≡ Some a → AbortState s (run_state s p).story.sent m a
abort_states s [] m a o prompt at = inr (record { unsent = refl; kept = refl; tried = omega arith })
abort_states s (row ∷ p) m a o prompt at =
    next_state s p row m a o prompt at (whole s p o prompt.0) (abort_states s p m a o prompt.0 at)

-- ---- at the end

time_none : {A : Type 0} (t : ℕ) → (let o : Option ℕ = Some t in o) ≡ None → A
time_none t e = absurd cc

both_none : (x y : Option ℕ) → sooner_time x y ≡ None → (x ≡ None) × (y ≡ None)
both_none None y e = (refl, e)
both_none (Some x) None e = time_none x e
both_none (Some x) (Some y) e = time_none _ e

untimed : (q : Bool) (t : ℕ) → time_if (not q) t ≡ None → q ≡ true
untimed true t e = refl
untimed false t e = time_none t e

-- Of the lines from number m on.
all_done : (b : Sent) (dev m : ℕ) (lines : List AbortDef) (l : ℕ) (a : AbortDef)
    → abort_since (own_aborts b dev m lines) ≡ None → abort_line_at lines (suc l) ≡ Some a → a.host ≡ dev
    → is_done b (abort (m + l)) ≡ true
all_done b dev m [] l a e at own = none_some a at
all_done b dev m (x ∷ lines) zero a e at own = go (x.host == dev)
    (ap (λ (y : AbortDef). y.host == dev) (same_Some x a at) ∙ ap (λ (h : ℕ). h == dev) own ∙ eq_self dev) e
  where
    here : m + 0 ≡ m
    here = omega arith

    go : (q : Bool) → q ≡ true
        → abort_since (if q then own_abort b m x ∷ own_aborts b dev (m + 1) lines else own_aborts b dev (m + 1) lines)
        ≡ None → is_done b (abort (m + 0)) ≡ true
    go true z f = ap (λ (i : ℕ). is_done b (abort i)) here ∙ untimed (is_done b (abort m)) x.at
        (both_none (time_if (not (is_done b (abort m))) x.at) (abort_since (own_aborts b dev (m + 1) lines)) f).0
    go false z f = wrong' z
all_done b dev m (x ∷ lines) (suc l) a e at own =
    ap (λ (i : ℕ). is_done b (abort i)) there ∙ all_done b dev (m + 1) lines l a (go (x.host == dev) e) at own
  where
    there : m + suc l ≡ m + 1 + l
    there = omega arith

    go : (q : Bool)
        → abort_since (if q then own_abort b m x ∷ own_aborts b dev (m + 1) lines else own_aborts b dev (m + 1) lines)
        ≡ None → abort_since (own_aborts b dev (m + 1) lines) ≡ None
    go true f =
        (both_none (time_if (not (is_done b (abort m))) x.at) (abort_since (own_aborts b dev (m + 1) lines)) f).1
    go false f = f

done_one : (s : ScenarioValue) (b : Sent) (m : ℕ) (a : AbortDef) → item_want_time s b a.host ≡ None
    → abort_line_at s.aborts m ≡ Some a → is_done b (abort m) ≡ true
done_one s b zero a e at = none_some a (sym (none_at s.aborts) ∙ at)
  where
    none_at : (lines : List AbortDef) → abort_line_at lines zero ≡ None
    none_at [] = refl
    none_at (x ∷ lines) = refl
done_one s b (suc l) a e at =
    ap (λ (i : ℕ). is_done b (abort i)) here
    ∙ all_done b a.host 1 s.aborts l a (both_none (abort_since (own_aborts b a.host 1 s.aborts)) _ e).0 at refl
  where
    here : suc l ≡ 1 + l
    here = omega arith

not_waiting : (s : ScenarioValue) (b : Sent) (m : ℕ) (a : AbortDef) → is_done b (abort m) ≡ true → AbortState s b m a
    → AbortEnd s b m a
not_waiting s b m a e (inl h) = h
not_waiting s b m a e (inr w) = wrong (sym e ∙ (λ i. w.unsent i || has_item b.over (abort m)) ∙ w.kept)

-- No initiator wants the bus any more.
abbrev pub AreUnwanted : ScenarioValue → List Row → Type 0
AreUnwanted s p =
    (dev latency : ℕ) → dev < 8 → Rattle.due_model.specs.story_model.specs.Samples.latency_of s dev ≡ Some latency
    → want_time s (run_state s p) dev ≡ None

pub aborts_ended : (s : ScenarioValue) (p : List Row) (m : ℕ) (a : AbortDef) → Obeys s → IsPrompt s p → AreUnwanted s p
    → abort_line_at s.aborts m ≡ Some a → AbortEnd s (run_state s p).story.sent m a
aborts_ended s p m a o prompt quiet at =
    let k : RunState = run_state s p in
    let line : IsAbortLine s a = abort_fits s m a (obeys_fits s o) at in
    let d = initiator_there s a.host line.host_is in
    let want : item_want_time s k.story.sent a.host ≡ None = sym (ap
    (λ (x : Bool). if x then item_want_time s k.story.sent a.host else ready_time (ready_of s k a.host)) line.host_is)
    ∙ quiet a.host d.latency line.host d.latency_is in
    not_waiting s k.story.sent m a (done_one s k.story.sent m a want at) (abort_states s p m a o prompt at)
