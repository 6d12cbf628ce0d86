-- An initiator that wants nothing, and of which no command is open, has sent each of its commands or given it up; and
-- each automatic REQUEST SENSE.
use Rattle.progress_laws.proofs
use proofs.Names.{ℕ, ◌≡◌, ◌+◌, ◌<◌, Bool, true, false, not, ◌∙◌, List, [], ◌∷◌, Option, Some, None, refl, sym, ap}
use proofs.Names.{arith, nat_tests, if◌then◌else◌, ◌==◌, is_some, ⊤, wrong, ScenarioValue, CmdDef, Item, Sent}
use proofs.Names.{command_item, is_done, is_open, open_limit_of, sense_from, sooner_time, time_if, abort_since}
use proofs.Names.{command_since, may_follow, open_in, item_want_time, own_aborts, own_command, own_commands}

time_none : {A : Type 0} (t : ℕ) → (let a : Option ℕ = Some t in a) ≡ None → A
time_none t e = absurd cc

-- ---- of all commands, counted from n

-- None of them is open.
abbrev pub NoneOpen : Sent → ℕ → List CmdDef → Type 0
NoneOpen b m [] = ⊤
NoneOpen b m (c ∷ commands) = (is_open b m ≡ false) × NoneOpen b (m + 1) commands

-- Those of this device were sent or given up.
abbrev pub DoneBy : Sent → ℕ → ℕ → List CmdDef → Type 0
DoneBy b dev m [] = ⊤
DoneBy b dev m (c ∷ commands) =
    ((c.host == dev) ≡ true → is_done b (command_item m) ≡ true) × DoneBy b dev (m + 1) commands

-- ---- what is wanted

both_none : (a b : Option ℕ) → sooner_time a b ≡ None → (a ≡ None) × (b ≡ None)
both_none None b e = (refl, e)
both_none (Some x) None e = time_none x e
both_none (Some x) (Some y) e = time_none _ e

untimed : (q : Bool) (t : ℕ) → time_if q t ≡ None → q ≡ false
untimed true t e = time_none t e
untimed false t e = refl

own_open : (b : Sent) (dev m : ℕ) (commands : List CmdDef) → NoneOpen b m commands
    → open_in (own_commands b dev m commands) ≡ []
own_open b dev m [] h = refl
own_open b dev m (c ∷ commands) h = go (c.host == dev) (own_open b dev (m + 1) commands h.1)
  where
    go : (q : Bool) → open_in (own_commands b dev (m + 1) commands) ≡ [] → open_in
        (if q then own_command b m c ∷ own_commands b dev (m + 1) commands else own_commands b dev (m + 1) commands)
        ≡ []
    go true more = ap (λ (o : Bool). if o then c ∷ open_in (own_commands b dev (m + 1) commands)
        else open_in (own_commands b dev (m + 1) commands)) h.0
        ∙ more
    go false more = more

-- Beside no open command any may follow whose time has come.
follows_none : (most : ℕ) (c : CmdDef) → 0 < most → may_follow most c.at [] c ≡ true
follows_none most c some = grind (arith, nat_tests)

first_done : (q : Bool) (most : ℕ) (c : CmdDef) (rest : Option ℕ) → 0 < most
    → (if not q then time_if (may_follow most c.at [] c) c.at else rest) ≡ None → (q ≡ true) × (rest ≡ None)
first_done true most c rest some e = (refl, e)
first_done false most c rest some e =
    wrong (sym (follows_none most c some) ∙ untimed (may_follow most c.at [] c) c.at e)

done_by : (b : Sent) (dev most m : ℕ) (commands : List CmdDef) → 0 < most
    → command_since most [] (own_commands b dev m commands) ≡ None → DoneBy b dev m commands
done_by b dev most m [] some e = tt
done_by b dev most m (c ∷ commands) some e = go (c.host == dev) (λ z. done_by b dev most (m + 1) commands some z) e
  where
    go : (q : Bool)
        → (command_since most [] (own_commands b dev (m + 1) commands) ≡ None → DoneBy b dev (m + 1) commands)
        → command_since most []
        (if q then own_command b m c ∷ own_commands b dev (m + 1) commands else own_commands b dev (m + 1) commands)
        ≡ None → (q ≡ true → is_done b (command_item m) ≡ true) × DoneBy b dev (m + 1) commands
    go true more z =
        let w = first_done (is_done b (command_item m)) most c
        (command_since most [] (own_commands b dev (m + 1) commands)) some z in
        (λ _. w.0, more w.1)
    go false more z = (λ y. wrong (sym y), more z)

-- ---- an initiator

pub record HasSentAll (s : ScenarioValue) (b : Sent) (dev : ℕ) : Type 0 where
  pub commands : DoneBy b dev 1 s.commands
  pub sense : sense_from s b dev b.checks ≡ None

no_sense : (o : Option Item) → is_some o ≡ false → o ≡ None
no_sense None e = refl
no_sense (Some i) e = wrong e

-- It has no automatic REQUEST SENSE to send, whatever is open.
pub no_sense_wanted : (s : ScenarioValue) (b : Sent) (dev : ℕ) → item_want_time s b dev ≡ None
    → sense_from s b dev b.checks ≡ None
no_sense_wanted s b dev e =
    let w = both_none (abort_since (own_aborts b dev 1 s.aborts)) _ e in
    let v = both_none (time_if (is_some (sense_from s b dev b.checks)) 0) _ w.1 in
    no_sense (sense_from s b dev b.checks) (untimed (is_some (sense_from s b dev b.checks)) 0 v.0)

pub sent_all : (s : ScenarioValue) (b : Sent) (dev : ℕ) → NoneOpen b 1 s.commands → 0 < open_limit_of s.hosts dev
    → item_want_time s b dev ≡ None → HasSentAll s b dev
sent_all s b dev none some e =
    let w = both_none (abort_since (own_aborts b dev 1 s.aborts)) _ e in
    let v = both_none (time_if (is_some (sense_from s b dev b.checks)) 0) _ w.1 in
    record {
      commands = done_by b dev (open_limit_of s.hosts dev) 1 s.commands some (sym
          (ap (λ (now : List CmdDef). command_since (open_limit_of s.hosts dev) now (own_commands b dev 1 s.commands))
          (own_open b dev 1 s.commands none)) ∙ v.1);
      sense = no_sense_wanted s b dev e;
    }
