-- As a command or an automatic REQUEST SENSE is sent no other process of its nexus is open (6.6.17, 7.6, 7.8).
use Rattle.transcript_laws.proofs
use proofs.Names.{ℕ, ◌≡◌, ◌∙◌, ◌==◌, Bool, true, false, not, ◌&&◌, List, ◌∷◌, Option, Some, None, refl, sym, ap}
use proofs.Names.{eqb-true, list_any, wrong, wrong', and_first, and_second, eq_self, ProcId, connection, Connection}
use proofs.Names.{Row, ScenarioValue, Obeys, CmdDef, same_number, tag_number, command_at, process_by, process_if}
use proofs.Names.{process_of, Item, Sent, process, abort, command_item, sense_item, is_tag_clash, is_clash, is_done}
use proofs.Names.{sense_id, command_id, is_open_sense, Story, aim_of, IsPrompt, RunState, run_state, is_open_in, IsNext}
use proofs.Names.{is_abort, is_sense, is_next_command as is_command, aimed_next, calm_before, items_fresh, next_free}
use proofs.{Names.{Whole, same_nexus, nexus_of, is_of, shares_nexus, is_alone}, Fits.Senses.{SensesAlone, senses_alone}}
use proofs.Fits.Sent.{none_any}
use Rattle.due_model.specs.array_model.specs.Processes.{Process}

-- ---- commands of one nexus clash

same_clash : (a b : Option ℕ) → same_number a b ≡ true → is_tag_clash a b ≡ true
same_clash None None e = refl
same_clash None (Some b) e = wrong' e
same_clash (Some a) None e = wrong' e
same_clash (Some a) (Some b) e = e

record OfOne (c d : CmdDef) : Type 0 where
  host : c.host ≡ d.host
  clash : is_clash c d ≡ true

of_one : (s : ScenarioValue) (l m : ℕ) (c d : CmdDef)
    → same_nexus (nexus_of (process_by s (command_id l) c)) (nexus_of (process_by s (command_id m) d)) ≡ true
    → OfOne c d
of_one s l m c d e =
    let ends = and_first (c.host == d.host && c.target == d.target)
    (c.unit == d.unit && same_number (tag_number c.tag) (tag_number d.tag)) e in
    let rest = and_second (c.host == d.host && c.target == d.target)
    (c.unit == d.unit && same_number (tag_number c.tag) (tag_number d.tag)) e in
    record {
      host = eqb-true c.host d.host (and_first (c.host == d.host) (c.target == d.target) ends);
      clash = λ i. (and_second (c.host == d.host) (c.target == d.target) ends i
          && and_first (c.unit == d.unit) (same_number (tag_number c.tag) (tag_number d.tag)) rest i)
          && same_clash (tag_number c.tag) (tag_number d.tag)
          (and_second (c.unit == d.unit) (same_number (tag_number c.tag) (tag_number d.tag)) rest) i;
    }

-- ---- no other is open

none_is : (q r : Bool) → (q ≡ true → r ≡ true → ⊥) → (q && r) ≡ false
none_is true true f = absurd (f refl refl)
none_is true false f = refl
none_is false r f = refl

-- Of a command of the scenario.
command_alone : (s : ScenarioValue) (b : Sent) (dev l : ℕ) (c : CmdDef) → IsNext s b dev (command_item l)
    → command_at s.commands l ≡ Some c → ((m : ℕ) → is_open_sense b m ≡ true → ⊥) → (i : Item)
    → shares_nexus s b (process_of s (command_id l)) i ≡ false
command_alone s b dev l c next at senses i =
    ap (λ (o : Option CmdDef). shares_nexus s b (process_if s (command_id l) o) i) at ∙ go i
  where
    y : Process
    y = process_by s (command_id l) c

    by_def : (m : ℕ) (o : Option CmdDef) → command_at s.commands m ≡ o → is_open_in b (command_id m) ≡ true
        → is_of (nexus_of y) (process_if s (command_id m) o) ≡ true → ⊥
    by_def m None e o f = wrong' f
    by_def m (Some d) e o f =
        let w = of_one s l m c d f in
        wrong (sym w.clash ∙ next_free s b dev (command_item l) next l refl c at m d e w.host o)

    by_sense : (id : ProcId) (q : Bool) → id.sense ≡ q → is_open_in b id ≡ true
        → is_of (nexus_of y) (process_of s id) ≡ true → ⊥
    by_sense id true e o f =
        senses id.command (sym (λ t. is_open_in b (record { command = id.command; sense = e t })) ∙ o)
    by_sense id false e o f = by_def id.command (command_at s.commands id.command) refl
        (sym (λ t. is_open_in b (record { command = id.command; sense = e t })) ∙ o)
        (sym (λ t. is_of (nexus_of y) (process_of s (record { command = id.command; sense = e t }))) ∙ f)

    go : (x : Item) → shares_nexus s b (Some y) x ≡ false
    go (process id) =
        none_is (is_open_in b id) (is_of (nexus_of y) (process_of s id)) (λ o f. by_sense id id.sense refl o f)
    go (abort j) = refl

no_tag : (x : Option ℕ) → same_number None x ≡ true → x ≡ None
no_tag None e = refl
no_tag (Some a) e = wrong' e

-- An automatic REQUEST SENSE is untagged: it clashes with all commands of its unit.
sense_clash : (s : ScenarioValue) (l m : ℕ) (c d : CmdDef)
    → same_nexus (nexus_of (process_by s (sense_id l) c)) (nexus_of (process_by s (command_id m) d)) ≡ true → OfOne d c
sense_clash s l m c d e =
    let ends = and_first (c.host == d.host && c.target == d.target)
    (c.unit == d.unit && same_number None (tag_number d.tag)) e in
    let rest = and_second (c.host == d.host && c.target == d.target)
    (c.unit == d.unit && same_number None (tag_number d.tag)) e in
    let target : c.target ≡ d.target = eqb-true c.target d.target
    (and_second (c.host == d.host) (c.target == d.target) ends) in
    let unit : c.unit ≡ d.unit = eqb-true c.unit d.unit
    (and_first (c.unit == d.unit) (same_number None (tag_number d.tag)) rest) in
    let untagged : tag_number d.tag ≡ None = no_tag (tag_number d.tag)
    (and_second (c.unit == d.unit) (same_number None (tag_number d.tag)) rest) in
    record {
      host = sym (eqb-true c.host d.host (and_first (c.host == d.host) (c.target == d.target) ends));
      clash = (λ i. (d.target == target i && d.unit == unit i) && is_tag_clash (untagged i) (tag_number c.tag))
          ∙ (λ i. (eq_self d.target i && eq_self d.unit i) && true);
    }

sense_alone : (s : ScenarioValue) (b : Sent) (l : ℕ) (c : CmdDef) → SensesAlone s b
    → command_at s.commands l ≡ Some c → list_any (λ k. k == l) b.checks ≡ true → is_done b (sense_item l) ≡ false
    → ((m : ℕ) → is_open_sense b m ≡ true → ⊥) → (i : Item) → shares_nexus s b (process_of s (sense_id l)) i ≡ false
sense_alone s b l c apart at there due senses i =
    ap (λ (o : Option CmdDef). shares_nexus s b (process_if s (sense_id l) o) i) at ∙ go i
  where
    y : Process
    y = process_by s (sense_id l) c

    by_def : (m : ℕ) (o : Option CmdDef) → command_at s.commands m ≡ o → is_open_in b (command_id m) ≡ true
        → is_of (nexus_of y) (process_if s (command_id m) o) ≡ true → ⊥
    by_def m None e o f = wrong' f
    by_def m (Some d) e o f = let w = sense_clash s l m c d f in apart l m c d at e (sym w.host) w.clash there due o

    by_sense : (id : ProcId) (q : Bool) → id.sense ≡ q → is_open_in b id ≡ true
        → is_of (nexus_of y) (process_of s id) ≡ true → ⊥
    by_sense id true e o f =
        senses id.command (sym (λ t. is_open_in b (record { command = id.command; sense = e t })) ∙ o)
    by_sense id false e o f = by_def id.command (command_at s.commands id.command) refl
        (sym (λ t. is_open_in b (record { command = id.command; sense = e t })) ∙ o)
        (sym (λ t. is_of (nexus_of y) (process_of s (record { command = id.command; sense = e t }))) ∙ f)

    go : (x : Item) → shares_nexus s b (Some y) x ≡ false
    go (process id) =
        none_is (is_open_in b id) (is_of (nexus_of y) (process_of s id)) (λ o f. by_sense id id.sense refl o f)
    go (abort j) = refl

item_alone : (s : ScenarioValue) (b : Story) (dev : ℕ) (item : Item) → IsNext s b.sent dev item
    → ((m : ℕ) → is_open_sense b.sent m ≡ true → ⊥) → SensesAlone s b.sent → is_alone s b (Some item) ≡ true
item_alone s b dev _ (is_abort n z) senses apart = refl
item_alone s b dev _ (is_sense n c at own there z) senses apart =
    ap not (none_any (λ item. shares_nexus s b.sent (process_of s (sense_id n)) item) b.sent.sent
    (λ i has. sense_alone s b.sent n c apart at there z senses i))
item_alone s b dev _ (is_command n time c at own z may none) senses apart =
    ap not (none_any (λ item. shares_nexus s b.sent (process_of s (command_id n)) item) b.sent.sent
    (λ i has. command_alone s b.sent dev n c (is_command n time c at own z may none) at senses i))

pub begins_alone : (s : ScenarioValue) (p : List Row) (row : Row) (n : Connection) → Obeys s
    → IsPrompt s (row ∷ p) → Whole s p → connection p ≡ None → connection (row ∷ p) ≡ Some n → n.reselected ≡ false
    → is_alone s (run_state s p).story (aim_of (run_state s p).story.aims n.initiator) ≡ true
begins_alone s p row n o prompt was alone after selects =
    let k : RunState = run_state s p in
    let off = calm_before s p row n o prompt was.stood alone after in
    let f = items_fresh s p row n o prompt was.stood was.facts.items alone after selects in
    let next = aimed_next s p row n alone after selects
    (was.stood.called alone off) (was.facts.items.aims alone off) f.item f.aim_is in
    let none = (was.facts.items.items.apart (was.stood.plain.connection ∙ alone)).1 in
    ap (λ (x : Option Item). is_alone s k.story x) f.aim_is ∙ item_alone s k.story n.initiator f.item next
    (λ m e. none_served (sense_item m) (sym none ∙ (was.facts.items.items.senses m e).0)) (senses_alone s p o prompt.0)
  where
    none_served : (i : Item) → (let x : Option Item = None in x) ≡ Some i → ⊥
    none_served i e = cc
