-- Each command of a prompt trace that has ended is settled: it has ended, and after CHECK CONDITION its automatic
-- REQUEST SENSE is over (7.3, 7.8).
use Rattle.std.proofs.Common.{ℕ, zero, suc, ◌≡◌, ◌+◌, Bool, true, false, ◌||◌, ◌∙◌, List, [], ◌∷◌, Option, Some, None}
use Rattle.std.proofs.Common.{refl, sym, ap, map, arith, one-add}
use Rattle.std.specs.Prelude.{if◌then◌else◌, ◌==◌}
use Rattle.std.specs.List.{list_any}
use Rattle.std.proofs.lemmas.Bool.Decides.{nat_tests}
use Rattle.std.proofs.lemmas.Bool.{or_right}
use Rattle.std.proofs.lemmas.Option.{same_Some}
use Rattle.bus_base.proofs.Tests.{eq_self, plus_none, wrong'}
use Rattle.cdb_codec.specs.declared.status.TheConstants.{CHECK_CONDITION, GOOD, QUEUE_FULL}
use Rattle.scenario.specs.declared.value.CmdDef.{CmdDef}
use Rattle.scenario.specs.Value.{ScenarioValue}
use Rattle.scenario.specs.Writing.{Obeys}
use Rattle.array_model.specs.Processes.{command_at}
use Rattle.due_model.specs.story_model.specs.Items.{Sent, has_item, sense_item}
use Rattle.due_model.specs.RunState.{RunState}
use Rattle.due_model.specs.dialogue_model.specs.Wants.{OwnCommand}
use Rattle.due_model.specs.Wants.{own_command, own_commands}
use Rattle.delivery_laws.specs.row_laws.specs.ItemFacts.{Items}
use Rattle.delivery_laws.specs.row_laws.proofs.Common.Impossible.{none_some}
use Rattle.delivery_laws.specs.row_laws.proofs.Common.Tests.{plus_one}
use Rattle.delivery_laws.specs.progress_laws.proofs.Outcomes.Answered.{AreUnwanted, sense_wanted}
use Rattle.initiator.specs.initiator_books.specs.declared.mine.Mine.{Mine}
use Rattle.initiator.specs.initiator_books.specs.Mines.{mine_of, mines_of}
use Rattle.initiator.specs.initiator_books.specs.Openings.{mine_at}
use Rattle.initiator.specs.Outcomes.{is_sense_over}
use Rattle.delivery_laws.proofs.Replies.Senses.{is_known}
use Rattle.delivery_laws.proofs.Senses.Stopped.{is_check}

-- ---- what its initiator keeps of it

apart : (k m : ℕ) → (k == k + suc m) ≡ false
apart k m = grind (arith, nat_tests)

over_kept : (b : Sent) (dev k m : ℕ) (c : CmdDef) (commands : List CmdDef)
    → command_at commands (suc m) ≡ Some c → (c.host == dev) ≡ true → has_item b.over (sense_item (k + m)) ≡ true
    → is_sense_over (mine_at (map (λ (o : OwnCommand). mine_of b.checks o) (own_commands b dev k commands)) (k + m))
    ≡ true
over_kept b dev k m c [] at own over = none_some c at
over_kept b dev k zero c (d ∷ commands) at own over =
    go (d.host == dev) (ap (λ (x : CmdDef). x.host == dev) (same_Some d c at) ∙ own)
  where
    here : (k == k + 0) ≡ true
    here = ap (λ (x : ℕ). k == x) (plus_none k) ∙ eq_self k

    go : (q : Bool) → q ≡ true → is_sense_over (mine_at (map (λ (o : OwnCommand). mine_of b.checks o)
        (if q then own_command b k d ∷ own_commands b dev (k + 1) commands else own_commands b dev (k + 1) commands))
        (k + 0)) ≡ true
    go true e = (λ i. is_sense_over (if here i then Some (mine_of b.checks (own_command b k d))
        else mine_at (map (λ (o : OwnCommand). mine_of b.checks o) (own_commands b dev (k + 1) commands)) (k + 0)))
        ∙ ap (λ (x : ℕ). has_item b.over (sense_item x)) (sym (plus_none k)) ∙ over
    go false e = wrong' e
over_kept b dev k (suc m) c (d ∷ commands) at own over =
    go (d.host == dev) (ap (λ (x : ℕ). is_sense_over (mine_at all x)) (plus_one k m) ∙ over_kept b dev
    (k + 1) m c commands at own (ap (λ (x : ℕ). has_item b.over (sense_item x)) (sym (plus_one k m)) ∙ over))
  where
    all : List Mine
    all = map (λ (o : OwnCommand). mine_of b.checks o) (own_commands b dev (k + 1) commands)

    go : (q : Bool) → is_sense_over (mine_at all (k + suc m)) ≡ true
        → is_sense_over (mine_at (map (λ (o : OwnCommand). mine_of b.checks o)
        (if q then own_command b k d ∷ own_commands b dev (k + 1) commands else own_commands b dev (k + 1) commands))
        (k + suc m)) ≡ true
    go true rest = (λ i. is_sense_over
        (if apart k m i then Some (mine_of b.checks (own_command b k d)) else mine_at all (k + suc m)))
        ∙ rest
    go false rest = rest

-- So its initiator knows that its automatic REQUEST SENSE is over.
pub over_told : (s : ScenarioValue) (b : Sent) (n : ℕ) (c : CmdDef) → command_at s.commands n ≡ Some c
    → has_item b.over (sense_item n) ≡ true → is_sense_over (mine_at (mines_of b c.host s.commands) n) ≡ true
over_told s b zero c at over = absurd (none_first s.commands at)
  where
    no_line : (let o : Option CmdDef = None in o) ≡ Some c → ⊥
    no_line z = absurd cc

    none_first : (commands : List CmdDef) → command_at commands zero ≡ Some c → ⊥
    none_first [] z = no_line z
    none_first (d ∷ commands) z = no_line z
over_told s b (suc m) c at over =
    ap (λ (x : ℕ). is_sense_over (mine_at (mines_of b c.host s.commands) x)) (sym (one-add m))
    ∙ over_kept b c.host 1 m c s.commands at (eq_self c.host)
    (ap (λ (x : ℕ). has_item b.over (sense_item x)) (one-add m) ∙ over)

-- ---- it is over

pub sense_is_done : (s : ScenarioValue) (k : RunState) (n : ℕ) (c : CmdDef) → Obeys s → Items s k → k.served ≡ None
    → AreUnwanted s k → command_at s.commands n ≡ Some c → list_any (λ m. m == n) k.story.sent.checks ≡ true
    → has_item k.story.sent.over (sense_item n) ≡ true
sense_is_done s k n c o items rest quiet at checked = go (has_item k.story.sent.over (sense_item n)) refl
  where
    go : (q : Bool) → has_item k.story.sent.over (sense_item n) ≡ q → has_item k.story.sent.over (sense_item n) ≡ true
    go true e = e
    go false e = sense_wanted s k n c o items rest quiet at checked e

-- ---- by its status

pub settled_status : (status : ℕ) (sensed over : Bool) → is_known status ≡ true
    → ((status == CHECK_CONDITION) ≡ true → over ≡ true)
    → (status == GOOD || status == QUEUE_FULL || sensed || over) ≡ true
settled_status status sensed over known done = go (status == GOOD) (status == QUEUE_FULL) refl refl
  where
    go : (x y : Bool) → (status == GOOD) ≡ x → (status == QUEUE_FULL) ≡ y → (x || y || sensed || over) ≡ true
    go true y e f = refl
    go false true e f = refl
    go false false e f = or_right sensed over (done (is_check status known e f))
