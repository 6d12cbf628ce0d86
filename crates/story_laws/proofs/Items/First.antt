-- What holds of the items holds as a connection begins.
use Rattle.story_laws.proofs
use proofs.Names.{inl, inr, ℕ, ◌≡◌, ◌⊎◌, Bool, true, false, not, ◌&&◌, ◌||◌, ◌==◌, ◌∙◌, ◌∷◌, Option, Some, None, sym}
use proofs.Names.{ap, subst, or_parts, or_cases, same_Some, list_any, if◌then◌else◌, wrong', and_first, and_second}
use proofs.Names.{ProcId, Row, Connection, ScenarioValue, command_at, Array, Item, process, abort, same_item, has_item}
use proofs.Names.{is_done, sense_item, Sent, is_open_sense, aim_of, RunState, or_start, array_of, bus_of}
use proofs.Names.{run_state_after, item_if, ready_of, Begins, none_some, some_none, by_bool, IsNext, is_sense, NoClash}
use proofs.{Names.{UnitsP, AreChecked, IsQueued, IsChecked, Items, Talks}, Items.Open.{item_is, same_process}}
use proofs.Items.{Open.{sent_clash}, Rows.{progress_on}, Sent.{more_has, own_has, only_on}, Steps.{ready_queued}}
use proofs.{Items.Steps.{queued_sent}, Talks.First.{sent_with, FirstSent, first_sent, BeginsOpen, talks_first}}
use Rattle.row_laws.specs.ItemFacts.{is_abort, is_command}

-- ---- what an initiator sends next

undone : (s : ScenarioValue) (b : Sent) (dev : ℕ) (item : Item) → IsNext s b dev item → is_done b item ≡ false
undone s b dev _ (is_abort n z) = z
undone s b dev _ (is_sense n c at own there z) = z
undone s b dev _ (is_command n time c at own z may none) = z

pub next_unsent : (s : ScenarioValue) (b : Sent) (dev : ℕ) (item : Item) → IsNext s b dev item
    → has_item b.sent item ≡ false
next_unsent s b dev item h = (or_parts (has_item b.sent item) (has_item b.over item) (undone s b dev item h)).0

pub next_unended : (s : ScenarioValue) (b : Sent) (dev : ℕ) (item : Item) → IsNext s b dev item
    → has_item b.over item ≡ false
next_unended s b dev item h = (or_parts (has_item b.sent item) (has_item b.over item) (undone s b dev item h)).1

next_checked : (s : ScenarioValue) (b : Sent) (dev : ℕ) (item : Item) → IsNext s b dev item
    → (i : ℕ) → item ≡ sense_item i → IsChecked s b i
next_checked s b dev _ (is_abort k z) i e = absurd (no_process e)
  where
    no_process : abort k ≡ sense_item i → ⊥
    no_process f = absurd cc
next_checked s b dev _ (is_sense k c at own there z) i e =
    let same : k ≡ i = ap (λ (d : ProcId). d.command) (same_process _ _ e) in
    record {
      def = c;
      def_is = ap (command_at s.commands) (sym same) ∙ at;
      checked = ap (λ (x : ℕ). list_any (λ m. m == x) b.checks) (sym same) ∙ there;
    }
next_checked s b dev _ (is_command k time c at own z may none) i e =
    wrong' (ap (λ (d : ProcId). d.sense) (same_process _ _ e))

-- ---- the first row

pub begins_open : (s : ScenarioValue) (k : RunState) (n : Connection) → Items s k
    → (n.reselected ≡ false → (i : Item) → aim_of k.story.aims n.initiator ≡ Some i
    → IsNext s k.story.sent n.initiator i) → BeginsOpen s k n
begins_open s k n h next = record {
  fresh = λ e i f. next_unended s k.story.sent n.initiator i (next e i f);
  queued = λ e r f. ready_queued s k (IsQueued s k.story.sent) n.target r h.queued f;
}

opened_sense : (b : Sent) (item : Item) (m : ℕ) → is_open_sense (record b { sent = item ∷ b.sent }) m ≡ true
    → (item ≡ sense_item m) ⊎ (is_open_sense b m ≡ true)
opened_sense b item m e = elim (or_cases (same_item item (sense_item m)) (has_item b.sent (sense_item m)) (and_first
    (same_item item (sense_item m) || has_item b.sent (sense_item m)) (not (has_item b.over (sense_item m))) e)) [
      | inl z ↦ inl (item_is item (sense_item m) z)
      | inr z ↦ inr ((λ i. z i && not (has_item b.over (sense_item m))) ∙ and_second
          (same_item item (sense_item m) || has_item b.sent (sense_item m)) (not (has_item b.over (sense_item m))) e)
    ]

pub items_first : (s : ScenarioValue) (k : RunState) (row : Row) (n : Connection) → Begins s k row n → Items s k
    → (n.reselected ≡ false → (i : Item) → aim_of k.story.aims n.initiator ≡ Some i
    → IsNext s k.story.sent n.initiator i) → Items s (run_state_after s k row)
items_first s k row n g h next = by_bool n.reselected (λ e. reselects e) (λ e. selects e)
  where
    j : RunState
    j = run_state_after s k row

    none : (k.story.link ≡ None) × (k.served ≡ None)
    none = h.apart g.first.connection_is

    f : FirstSent s k row n
    f = first_sent s k row n g.first none.0

    talks : Talks s j n
    talks = talks_first s k row n g none.0 (begins_open s k n h next)

    talking : (m : Connection) → j.story.bus_state.connection ≡ Some m → (bus_of j).rst ≡ false → Talks s j m
    talking m e rst = subst (λ (x : Connection). Talks s j x) (same_Some n m (sym g.first.next_is ∙ e)) talks

    reselects : n.reselected ≡ true → Items s j
    reselects e =
        let same : j.story.sent ≡ k.story.sent = f.sent
        ∙ ap (λ (q : Bool). if q then k.story.sent else sent_with k.story.sent (aim_of k.story.aims n.initiator)) e in
        let r = g.reselects e in
        let served : j.served ≡ Some (process r.ready.process.id) = f.served
        ∙ ap (λ (x : Bool). if x then item_if (ready_of s k n.target) else aim_of k.story.aims n.initiator) e
        ∙ ap item_if r.ready_is in
        let q : IsQueued s k.story.sent r.ready.process = ready_queued s k
        (IsQueued s k.story.sent) n.target r.ready h.queued r.ready_is in
        record {
          apart = λ z. some_none n (sym g.first.next_is ∙ z);
          only = only_on s k row h.only;
          clash = subst (λ (b : Sent). NoClash s b) (sym same) h.clash;
          checked = subst (λ (b : Sent). AreChecked b) (sym same) h.checked;
          checks = subst (λ (b : Sent). (m : ℕ) → has_item b.sent (sense_item m) ≡ true → IsChecked s b m)
              (sym same) h.checks;
          queued = subst (λ (b : Sent). UnitsP (IsQueued s b) (array_of s j).units) (sym same) (subst
              (λ (a : Option Array). UnitsP (IsQueued s k.story.sent) (or_start s a).units) (sym f.array) h.queued);
          served = λ i z. (λ x. has_item (same x).sent (same_Some i (process r.ready.process.id) (sym z ∙ served) x))
              ∙ q.sent;
          senses = λ m z. none_some (sense_item m)
              (sym none.1 ∙ (h.senses m (ap (λ (b : Sent). is_open_sense b m) (sym same) ∙ z)).0);
          progress = progress_on s k row h;
          talks = talking;
        }

    selects : n.reselected ≡ false → Items s j
    selects e =
        let a = g.selects e in
        let item : Item = a.item in
        let same : j.story.sent ≡ record k.story.sent { sent = item ∷ k.story.sent.sent } = f.sent
        ∙ ap (λ (q : Bool). if q then k.story.sent else sent_with k.story.sent (aim_of k.story.aims n.initiator)) e
        ∙ ap (sent_with k.story.sent) a.aim_is in
        let served : j.served ≡ Some item = f.served
        ∙ ap (λ (x : Bool). if x then item_if (ready_of s k n.target) else aim_of k.story.aims n.initiator) e
        ∙ a.aim_is in
        let is : IsNext s k.story.sent n.initiator item = next e item a.aim_is in
        record {
          apart = λ z. some_none n (sym g.first.next_is ∙ z);
          only = only_on s k row h.only;
          clash = subst (λ (b : Sent). NoClash s b) (sym same) (sent_clash s k.story.sent n.initiator item is h.clash);
          checked = subst (λ (b : Sent). AreChecked b) (sym same) (λ m z. h.checked m z);
          checks = subst (λ (b : Sent). (m : ℕ) → has_item b.sent (sense_item m) ≡ true → IsChecked s b m) (sym same)
              (checks item is);
          queued = subst (λ (b : Sent). UnitsP (IsQueued s b) (array_of s j).units) (sym same) (subst
              (λ (x : Option Array). UnitsP (IsQueued s (record k.story.sent { sent = item ∷ k.story.sent.sent }))
              (or_start s x).units) (sym f.array) (queued_sent s k.story.sent (record k.story.sent {
                sent = item ∷ k.story.sent.sent;
              }) (array_of s k).units (λ i z. more_has item i k.story.sent.sent z) (λ i z o. o) h.queued));
          served = λ i z. (λ x. has_item (same x).sent (same_Some i item (sym z ∙ served) x))
              ∙ own_has item k.story.sent.sent;
          senses =
              λ m z. elim (opened_sense k.story.sent item m (ap (λ (b : Sent). is_open_sense b m) (sym same) ∙ z)) [
                | inl y ↦ (served ∙ ap (λ (x : Item). Some x) y, g.first.calm)
                | inr y ↦ none_some (sense_item m) (sym none.1 ∙ (h.senses m y).0)
              ];
          progress = progress_on s k row h;
          talks = talking;
        }
      where
        checks : (item : Item) → IsNext s k.story.sent n.initiator item
            → (m : ℕ) → has_item (item ∷ k.story.sent.sent) (sense_item m) ≡ true
            → IsChecked s (record k.story.sent { sent = item ∷ k.story.sent.sent }) m
        checks item is m z =
            elim (or_cases (same_item item (sense_item m)) (has_item k.story.sent.sent (sense_item m)) z) [
              | inl y ↦ (let c = next_checked s k.story.sent n.initiator item is m (item_is item (sense_item m) y) in
                  record { def = c.def; def_is = c.def_is; checked = c.checked })
              | inr y ↦ (let c = h.checks m y in record { def = c.def; def_is = c.def_is; checked = c.checked })
            ]
