-- What holds of each line of a kind as it is read holds of all lines of a scenario that obeys the rules of its text: of
-- initiators and targets, commands and aborts.
use Rattle.row_laws.proofs
use proofs.Names.{ℕ, ◌≡◌, List, [], ◌∷◌, Ok, subst, AllByRecursion, ⊤, bind_ok, ok_is, tape_line, load_line, CmdSaid}
use proofs.Names.{scsi_line, initiator_line, target_line, unit_line, fill_line, cmd_line, abort_line, reset_line}
use proofs.Names.{fault_line, end_line, Said, need_of, sent_of, tape_def, load_def, Progress, guard, is_payload}
use proofs.Names.{has_room, host_def, target_def, unit_def, fill_def, cmd_def, full_cmd_def, abort_def, reset_def}
use proofs.Names.{fault_def, added, said_after, fits_version, in_order, rank, kind_of, nothing, ScenarioValue, saids}
use proofs.Names.{built, Obeys, AbortDef, CmdDef, HostDef, TargetDef, all_more, host_by, target_by, abort_by}

abbrev pub Any : {A : Type 0} → A → Type 0
Any x = ⊤

-- Of each line as it is read.
pub record IsOfEach (h : HostDef → Type 0) (t : TargetDef → Type 0) (c : CmdDef → Type 0) (a : AbortDef → Type 0) : Type
    0 where
  pub host : (s : ScenarioValue) (x : Said) (d : HostDef) → host_by s x ≡ Ok d → h d
  pub target : (s : ScenarioValue) (x : Said) (d : TargetDef) → target_by s x ≡ Ok d → t d
  pub command : (s : ScenarioValue) (f : CmdSaid) (d : CmdDef) → cmd_def s f ≡ Ok d → c d
  pub abort : (s : ScenarioValue) (x : Said) (d : AbortDef) → abort_by s x ≡ Ok d → a d

-- Of all.
pub record IsOfAll (h : HostDef → Type 0) (t : TargetDef → Type 0) (c : CmdDef → Type 0) (a : AbortDef → Type 0)
    (s : ScenarioValue) : Type 0 where
  pub hosts : AllByRecursion h s.hosts
  pub targets : AllByRecursion t s.targets
  pub commands : AllByRecursion c s.commands
  pub aborts : AllByRecursion a s.aborts

-- A command with what it sends and the room that it asks.
full_read : (c : CmdDef → Type 0) → ((s : ScenarioValue) (f : CmdSaid) (d : CmdDef) → cmd_def s f ≡ Ok d → c d)
    → (s : ScenarioValue) (needs : ℕ) (f : CmdSaid) (d : CmdDef) → full_cmd_def s needs f ≡ Ok d → c d
unfolding full_cmd_def
full_read c read s needs f d e =
    let b = bind_ok (cmd_def s f) _ d e in
    let u = bind_ok (guard 7 (is_payload (sent_of s b.0) (b.0).payload)) _ d b.2 in
    let v = bind_ok (guard 8 (has_room s needs (need_of s b.0))) _ d u.2 in
    subst c (ok_is b.0 d v.2) (read s f b.0 b.1)

each_added : (h : HostDef → Type 0) (t : TargetDef → Type 0) (c : CmdDef → Type 0) (a : AbortDef → Type 0)
    → IsOfEach h t c a → (d z : Progress) (x : Said) → added d x ≡ Ok z → IsOfAll h t c a d.scenario
    → IsOfAll h t c a z.scenario
unfolding added need_of sent_of
each_added h t c a read d z (scsi_line v) e w = subst (λ (y : Progress). IsOfAll h t c a y.scenario) (ok_is _ z e)
    (record { hosts = w.hosts; targets = w.targets; commands = w.commands; aborts = w.aborts })
each_added h t c a read d z (initiator_line f) e w =
    let b = bind_ok (host_def d.scenario f) _ z e in
    subst (λ (y : Progress). IsOfAll h t c a y.scenario) (ok_is _ z b.2) (record {
      hosts = all_more h d.scenario.hosts b.0 w.hosts (read.host d.scenario (initiator_line f) b.0 b.1);
      targets = w.targets;
      commands = w.commands;
      aborts = w.aborts;
    })
each_added h t c a read d z (target_line f) e w =
    let b = bind_ok (target_def d.scenario f) _ z e in
    subst (λ (y : Progress). IsOfAll h t c a y.scenario) (ok_is _ z b.2) (record {
      hosts = w.hosts;
      targets = all_more t d.scenario.targets b.0 w.targets (read.target d.scenario (target_line f) b.0 b.1);
      commands = w.commands;
      aborts = w.aborts;
    })
each_added h t c a read d z (unit_line f) e w =
    let b = bind_ok (unit_def d.scenario f) _ z e in
    subst (λ (y : Progress). IsOfAll h t c a y.scenario) (ok_is _ z b.2)
    (record { hosts = w.hosts; targets = w.targets; commands = w.commands; aborts = w.aborts })
each_added h t c a read d z (fill_line f) e w =
    let b = bind_ok (fill_def d.scenario f) _ z e in
    subst (λ (y : Progress). IsOfAll h t c a y.scenario) (ok_is _ z b.2)
    (record { hosts = w.hosts; targets = w.targets; commands = w.commands; aborts = w.aborts })
each_added h t c a read d z (tape_line f) e w =
    let b = bind_ok (tape_def d.scenario f) _ z e in
    subst (λ (y : Progress). IsOfAll h t c a y.scenario) (ok_is _ z b.2)
    (record { hosts = w.hosts; targets = w.targets; commands = w.commands; aborts = w.aborts })
each_added h t c a read d z (load_line f) e w =
    let b = bind_ok (load_def d.scenario f) _ z e in
    subst (λ (y : Progress). IsOfAll h t c a y.scenario) (ok_is _ z b.2)
    (record { hosts = w.hosts; targets = w.targets; commands = w.commands; aborts = w.aborts })
each_added h t c a read d z (cmd_line f) e w =
    let b = bind_ok (full_cmd_def d.scenario d.needs f) _ z e in
    subst (λ (y : Progress). IsOfAll h t c a y.scenario) (ok_is _ z b.2) (record {
      hosts = w.hosts;
      targets = w.targets;
      commands = all_more c d.scenario.commands b.0 w.commands (full_read c read.command d.scenario d.needs f b.0 b.1);
      aborts = w.aborts;
    })
each_added h t c a read d z (abort_line f) e w =
    let b = bind_ok (abort_def d.scenario f) _ z e in
    subst (λ (y : Progress). IsOfAll h t c a y.scenario) (ok_is _ z b.2) (record {
      hosts = w.hosts;
      targets = w.targets;
      commands = w.commands;
      aborts = all_more a d.scenario.aborts b.0 w.aborts (read.abort d.scenario (abort_line f) b.0 b.1);
    })
each_added h t c a read d z (reset_line f) e w =
    let b = bind_ok (reset_def d.scenario f) _ z e in
    subst (λ (y : Progress). IsOfAll h t c a y.scenario) (ok_is _ z b.2)
    (record { hosts = w.hosts; targets = w.targets; commands = w.commands; aborts = w.aborts })
each_added h t c a read d z (fault_line f) e w =
    let b = bind_ok (fault_def d.scenario f) _ z e in
    subst (λ (y : Progress). IsOfAll h t c a y.scenario) (ok_is _ z b.2)
    (record { hosts = w.hosts; targets = w.targets; commands = w.commands; aborts = w.aborts })
each_added h t c a read d z end_line e w = subst (λ (y : Progress). IsOfAll h t c a y.scenario) (ok_is d z e) w

each_after : (h : HostDef → Type 0) (t : TargetDef → Type 0) (c : CmdDef → Type 0) (a : AbortDef → Type 0)
    → IsOfEach h t c a → (d z : Progress) (x : Said) → said_after d x ≡ Ok z → IsOfAll h t c a d.scenario
    → IsOfAll h t c a z.scenario
unfolding said_after
each_after h t c a read d z x e w =
    let v = bind_ok (guard 2 (fits_version d.scenario.version x)) _ z e in
    let o = bind_ok (guard 3 (in_order (rank d.last) (rank (kind_of x)))) _ z v.2 in
    let b = bind_ok (added d x) _ z o.2 in
    let k = each_added h t c a read d b.0 x b.1 w in
    subst (λ (y : Progress). IsOfAll h t c a y.scenario) (ok_is _ z b.2)
    (record { hosts = k.hosts; targets = k.targets; commands = k.commands; aborts = k.aborts })

each_built : (h : HostDef → Type 0) (t : TargetDef → Type 0) (c : CmdDef → Type 0) (a : AbortDef → Type 0)
    → IsOfEach h t c a → (d z : Progress) (xs : List Said) → built d xs ≡ Ok z → IsOfAll h t c a d.scenario
    → IsOfAll h t c a z.scenario
each_built h t c a read d z [] e w = subst (λ (y : Progress). IsOfAll h t c a y.scenario) (ok_is d z e) w
each_built h t c a read d z (x ∷ xs) e w =
    let b = bind_ok (said_after d x) _ z e in
    each_built h t c a read b.0 z xs b.2 (each_after h t c a read d b.0 x b.1 w)

pub each_line : (h : HostDef → Type 0) (t : TargetDef → Type 0) (c : CmdDef → Type 0) (a : AbortDef → Type 0)
    → IsOfEach h t c a → (s : ScenarioValue) → Obeys s → IsOfAll h t c a s
each_line h t c a read s o =
    let b = bind_ok (built nothing (saids s)) _ s o.lawful in
    subst (IsOfAll h t c a) (ok_is b.0.scenario s b.2) (each_built h t c a read nothing b.0 (saids s) b.1
    (record { hosts = tt; targets = tt; commands = tt; aborts = tt }))
