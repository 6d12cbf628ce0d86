-- The target of a command that was sent is there; so is that of a command that ended with CHECK CONDITION, which its
-- automatic REQUEST SENSE is for.
use Rattle.measure_laws.proofs
use proofs.Names.{◌⊎◌, inl, inr, ℕ, ◌≡◌, ◌<◌, ◌∙◌, Bool, true, false, ◌&&◌, List, [], ◌∷◌, Option, Some, None, refl}
use proofs.Names.{sym, ap, subst, same_Some, find, list_any, not, ◌||◌, ◌++◌, ◌==◌, if◌then◌else◌, is_some, wrong'}
use proofs.Names.{Event, ProcId, connection, Row, Connection, CHECK_CONDITION, ScenarioValue, Obeys, CmdDef, HostDef}
use proofs.Names.{TargetDef, command_at, command_process, process_by, process_if, process_of, sense_process}
use proofs.Names.{ends_checks, RowReading, row_reading, row_events_by, Item, command_id, command_item, has_item}
use proofs.Names.{process, same_item, Link, link_of, host_latency, target_latency, Story, by_abort, by_reset, by_status}
use proofs.Names.{is_aborted, is_sense_stopped, story_after_event, story_after_events, story_with_end, aim_of}
use proofs.Names.{story_by_change, story_on_bus, story_with_restored, story_with_sent, run_state_plain, target_def_of}
use proofs.Names.{IsPrompt, AreOfDevices, RunState, item_of, process_item, run_state, Begins, IsAimedAt, least_is}
use proofs.Names.{HasDevice, none_some, beginning, item_is, events_grow, in_append, AllOf, process_in, row_of}
use proofs.Names.{free_keeps, restored_sent, sent_grows, connection_sent, Whole, whole, changed}

-- ---- which commands end with CHECK CONDITION

-- Of an event: its own, or none more.
event_checks : (s : ScenarioValue) (b : Story) (e : Event) (m : ℕ)
    → list_any (λ k. k == m) (story_after_event s b e).sent.checks ≡ true
    → (list_any (λ k. k == m) b.sent.checks ≡ true) ⊎ (process_in e ≡ Some (command_id m))
event_checks s b (Event.End id status) m z = go id.sense refl (status == CHECK_CONDITION) z
  where
    c : Story
    c = story_with_end b id (by_status status)

    go : (q : Bool) → id.sense ≡ q → (r : Bool) → list_any (λ k. k == m)
        (if not q && r then record c { sent = record c.sent { checks = c.sent.checks ++ id.command ∷ [] } }
        else c).sent.checks ≡ true → (list_any (λ k. k == m) b.sent.checks ≡ true) ⊎ (Some id ≡ Some (command_id m))
    go true f r y = inl y
    go false f false y = inl y
    go false f true y = elim (in_append m id.command b.sent.checks y) [
      | inl w ↦ inl w
      | inr w ↦ inr (λ i. Some (record { command = w i; sense = f i }))
    ]
event_checks s b (Event.Aborted host target unit what) m z = inl (ap (λ (x : List ℕ). list_any (λ k. k == m) x) (sym
    (ends_checks (is_aborted host target unit what) (is_sense_stopped host target unit what) by_abort 1 s.commands b))
    ∙ z)
event_checks s b (Event.Reset dev) m z = inl
    (ap (λ (x : List ℕ). list_any (λ k. k == m) x) (sym (ends_checks (λ c. true) (λ c. true) by_reset 1 s.commands b))
    ∙ z)
event_checks s b _ m z = inl z

events_check : (s : ScenarioValue) (b : Story) (item : Option Item) (shown : List Event) (m : ℕ)
    → AllOf item shown → list_any (λ k. k == m) (story_after_events s b shown).sent.checks ≡ true
    → (list_any (λ k. k == m) b.sent.checks ≡ true) ⊎ (item ≡ Some (process (command_id m)))
events_check s b item [] m h z = inl z
events_check s b item (e ∷ shown) m h z =
    elim (event_checks s (story_after_events s b shown) e m z) [
      | inl w ↦ events_check s b item shown m h.1 w
      | inr w ↦ inr (h.0 (command_id m) w)
    ]

-- ---- what is sent

-- An item that is sent anew is that for which a connection begins.
record SendsAnew (s : ScenarioValue) (k : RunState) (d : RowReading) (i : Item) : Type 0 where
  n : Connection
  was : k.story.bus_state.connection ≡ None
  next : d.next ≡ Some n
  calm : d.change.after.rst ≡ false
  selects : n.reselected ≡ false
  aim : aim_of k.story.aims n.initiator ≡ Some i

change_sends : (s : ScenarioValue) (k : RunState) (d : RowReading) (row : Row) (i : Item)
    → has_item (story_by_change s k.story d row).sent.sent i ≡ true
    → (has_item k.story.sent.sent i ≡ true) ⊎ SendsAnew s k d i
change_sends s k d row i e = by_rst d.change.after.rst refl e
  where
    b : Story
    b = k.story

    more : (n : Connection) → b.bus_state.connection ≡ None → d.next ≡ Some n → d.change.after.rst ≡ false
        → n.reselected ≡ false → (o : Option Item) → aim_of b.aims n.initiator ≡ o
        → has_item (story_with_sent (record b { link = Some (link_of n o) }) o).sent.sent i ≡ true
        → (has_item b.sent.sent i ≡ true) ⊎ SendsAnew s k d i
    more n was next calm selects None f z = inl z
    more n was next calm selects (Some a) f z = go (same_item a i) refl z
      where
        go : (q : Bool) → same_item a i ≡ q → (q || has_item b.sent.sent i) ≡ true
            → (has_item b.sent.sent i ≡ true) ⊎ SendsAnew s k d i
        go true g y = inr (record {
          n = n;
          was = was;
          next = next;
          calm = calm;
          selects = selects;
          aim = f ∙ ap (λ (x : Item). Some x) (item_is a i g);
        })
        go false g y = inl y

    by_begin : (n : Connection) → b.bus_state.connection ≡ None → d.next ≡ Some n
        → d.change.after.rst ≡ false → (q : Bool) → n.reselected ≡ q
        → has_item (if q then record b { link = Some (link_of n None) } else story_with_restored
        (story_with_sent (record b { link = Some (link_of n (aim_of b.aims n.initiator)) }) (aim_of b.aims n.initiator))
        (aim_of b.aims n.initiator)).sent.sent i ≡ true
        → (has_item b.sent.sent i ≡ true) ⊎ SendsAnew s k d i
    by_begin n was next calm true f z = inl z
    by_begin n was next calm false f z = more n was next calm f (aim_of b.aims n.initiator) refl
        (ap (λ (x : List Item). has_item x i) (sym (restored_sent
        (story_with_sent (record b { link = Some (link_of n (aim_of b.aims n.initiator)) }) (aim_of b.aims n.initiator))
        (aim_of b.aims n.initiator))) ∙ z)

    by_bus : d.change.after.rst ≡ false → (m w : Option Connection) → b.bus_state.connection ≡ m → d.next ≡ w
        → has_item (story_on_bus s b m w d row).sent.sent i ≡ true → (has_item b.sent.sent i ≡ true) ⊎ SendsAnew s k d i
    by_bus calm None None f g z = inl (ap (λ (x : List Item). has_item x i) (sym (free_keeps s b d row).2) ∙ z)
    by_bus calm None (Some n) f g z = by_begin n f g calm n.reselected refl z
    by_bus calm (Some m) None f g z = inl z
    by_bus calm (Some m) (Some n) f g z = inl ((λ j. has_item (sym (connection_sent s b b.link d row) j).sent i) ∙ z)

    by_rst : (q : Bool) → d.change.after.rst ≡ q → has_item
        (if q then record b { link = None } else story_on_bus s b b.bus_state.connection d.next d row).sent.sent i
        ≡ true → (has_item b.sent.sent i ≡ true) ⊎ SendsAnew s k d i
    by_rst true f z = inl z
    by_rst false f z = by_bus f b.bus_state.connection d.next refl refl z

-- ---- the targets that are there

is_there : (s : ScenarioValue) (dev : ℕ) → is_some (target_def_of s dev) ≡ true → HasDevice s dev
is_there s dev e = go (target_def_of s dev) refl e
  where
    go : (o : Option TargetDef) → target_def_of s dev ≡ o → is_some o ≡ true → HasDevice s dev
    go (Some t) f z = record {
      latency = t.latency;
      latency_is = λ i. target_latency (f i) (host_latency (find (λ (h : HostDef). h.dev == dev) s.hosts));
    }
    go None f z = wrong' z

target_of_process : (s : ScenarioValue) (id : ProcId) (c : CmdDef) → (process_by s id c).target ≡ c.target
target_of_process s id c = go id.sense
  where
    go : (q : Bool) → (if q then sense_process s id c else command_process s id c).target ≡ c.target
    go true = refl
    go false = refl

record SentThere (s : ScenarioValue) (k : RunState) : Type 0 where
  sent : (id : ProcId) (c : CmdDef) → has_item k.story.sent.sent (process id) ≡ true
      → command_at s.commands id.command ≡ Some c → HasDevice s c.target
  checked : (i : ℕ) → list_any (λ m. m == i) k.story.sent.checks ≡ true
      → has_item k.story.sent.sent (command_item i) ≡ true

sent_next : (s : ScenarioValue) (p : List Row) (row : Row) → Obeys s → IsPrompt s (row ∷ p)
    → SentThere s (run_state s p) → SentThere s (run_state s (row ∷ p))
sent_next s p row o prompt h = record { sent = sent; checked = checked }
  where
    k : RunState
    k = run_state s p

    j : RunState
    j = run_state s (row ∷ p)

    d : RowReading
    d = row_reading k.story.bus_state row

    b : Story
    b = story_by_change s k.story d row

    shown : List Event
    shown = row_events_by s k.story d row

    w : Whole s p
    w = whole s p o prompt.0

    nx : Whole s (row ∷ p)
    nx = whole s (row ∷ p) o prompt

    lt : row.dev < 8
    lt = (least_is s p row prompt.1).inside

    dv : AreOfDevices p
    dv = w.stood.standing.devices

    anew : (id : ProcId) (c : CmdDef) → SendsAnew s k d (process id) → command_at s.commands id.command ≡ Some c
        → HasDevice s c.target
    anew id c a at =
        let begins : Begins s k row a.n = beginning s k row a.n a.was a.next a.calm nx.rows_are.1 in
        let made : IsAimedAt s k a.n = begins.selects a.selects in
        let same : made.item ≡ process id = same_Some made.item (process id) (sym made.aim_is ∙ a.aim) in
        let found : process_of s id ≡ Some (process_by s id c) = ap (process_if s id) at in
        let target : (process_by s id c).target ≡ a.n.target = made.target_is
        (process_by s id c) (ap (λ (x : Item). process_item s (Some x)) same ∙ found) in
        let con : connection (row ∷ p) ≡ Some a.n = sym (run_state_plain s (row ∷ p) (lt, dv)).connection ∙ a.next in
        subst (HasDevice s) (sym target ∙ target_of_process s id c) (is_there s a.n.target (nx.ends a.n con).target)

    sent : (id : ProcId) (c : CmdDef) → has_item j.story.sent.sent (process id) ≡ true
        → command_at s.commands id.command ≡ Some c → HasDevice s c.target
    sent id c z at = elim (change_sends s k d row (process id)
        (ap (λ (x : List Item). has_item x (process id)) (sym (events_grow s b shown).sent) ∙ z)) [
          | inl y ↦ h.sent id c y at
          | inr a ↦ anew id c a at
        ]

    linked : (l : Option Link) → k.story.link ≡ l → (i : Item) → item_of l ≡ Some i
        → has_item k.story.sent.sent i ≡ true
    linked None f i e = none_some i e
    linked (Some l) f i e = (w.facts.items.items.only.link l f).item i e

    checked : (u : ℕ) → list_any (λ m. m == u) j.story.sent.checks ≡ true
        → has_item j.story.sent.sent (command_item u) ≡ true
    checked u z =
        sent_grows s k row (command_item u)
        (elim (events_check s b (item_of k.story.link) shown u (row_of s k.story d row) z) [
          | inl y ↦
              h.checked u (ap (λ (x : List ℕ). list_any (λ m. m == u) x) (sym (changed s k.story d row).checks) ∙ y)
          | inr y ↦ linked k.story.link refl (command_item u) y
        ])

sent_there : (s : ScenarioValue) (p : List Row) → Obeys s → IsPrompt s p → SentThere s (run_state s p)
sent_there s [] o prompt = record { sent = λ id c z at. wrong' z; checked = λ n z. wrong' z }
sent_there s (row ∷ p) o prompt = sent_next s p row o prompt (sent_there s p o prompt.0)

-- The target of a command that ended with CHECK CONDITION.
pub checked_there : (s : ScenarioValue) (p : List Row) (i : ℕ) (c : CmdDef) → Obeys s → IsPrompt s p
    → list_any (λ m. m == i) (run_state s p).story.sent.checks ≡ true → command_at s.commands i ≡ Some c
    → HasDevice s c.target
checked_there s p i c o prompt e at = let h = sent_there s p o prompt in h.sent (command_id i) c (h.checked i e) at
