-- The device of each reset line of a scenario that obeys the rules of its text is there.
use Rattle.delivery_laws.proofs
use proofs.Names.{ℕ, ◌≡◌, Bool, true, false, ◌||◌, List, [], ◌∷◌, ◌++◌, Option, Some, None, Ok, cond, refl, subst, inl}
use proofs.Names.{inr, cases_Bool, AllByRecursion, find, list_any, ◌==◌, is_some, wrong', either_stays, bind_ok, ok_is}
use proofs.Names.{guard_ok, tape_line, load_line, Said, scsi_line, initiator_line, target_line, unit_line, fill_line}
use proofs.Names.{cmd_line, abort_line, reset_line, fault_line, end_line, has_device, has_host, has_target, need_of}
use proofs.Names.{sent_of, tape_def, load_def, Progress, guard, in_8, time_in, has_abort_room, host_def, target_def}
use proofs.Names.{unit_def, fill_def, full_cmd_def, abort_def, reset_def, fault_def, added, said_after, fits_version}
use proofs.Names.{in_order, rank, kind_of, nothing, ScenarioValue, saids, built, Obeys, HostDef, ResetDef, TargetDef}
use proofs.Names.{host_latency, latency_of, target_latency, all_more, reset_by}

abbrev Has : ScenarioValue → ResetDef → Type 0
Has s r = has_device s r.dev ≡ true

abbrev pub AreThere : ScenarioValue → Type 0
AreThere s = AllByRecursion (λ (r : ResetDef). Has s r) s.resets

-- ---- a line more

reset_there : (s : ScenarioValue) (x : Said) (r : ResetDef) → reset_by s x ≡ Ok r → Has s r
unfolding reset_def
reset_there s (reset_line f) r e =
    let b1 = bind_ok (in_8 f.device) _ r e in
    let b2 = bind_ok (time_in f.at) _ r b1.2 in
    let b3 = bind_ok (guard 6 (has_device s b1.0)) _ r b2.2 in
    let b4 = bind_ok (guard 8 (has_abort_room s)) _ r b3.2 in
    subst (λ (x : ResetDef). has_device s x.dev ≡ true) (ok_is _ r b4.2) (guard_ok 6 _ b3.0 b3.1)
reset_there s _ r e = absurd cc

any_more : {A : Type 0} (f : A → Bool) (xs ys : List A) → list_any f xs ≡ true → list_any f (xs ++ ys) ≡ true
any_more f [] ys e = wrong' e
any_more f (x ∷ xs) ys e = elim (cases_Bool (f x)) [ inl g ↦ rw g | inr g ↦ rw g ((any_more f xs ys) (rw g at e)) ]

all_to : {A : Type 0} (q w : A → Type 0) (xs : List A) → ((x : A) → q x → w x) → AllByRecursion q xs
    → AllByRecursion w xs
all_to q w [] f h = tt
all_to q w (x ∷ xs) f h = (f x h.0, all_to q w xs f h.1)

there_added : (d z : Progress) (x : Said) → added d x ≡ Ok z → AreThere d.scenario → AreThere z.scenario
unfolding added need_of sent_of
there_added d z (scsi_line v) e w = subst (λ (y : Progress). AreThere y.scenario) (ok_is _ z e) w
there_added d z (initiator_line f) e w =
    let b = bind_ok (host_def d.scenario f) _ z e in
    subst (λ (y : Progress). AreThere y.scenario) (ok_is _ z b.2) (all_to (λ (r : ResetDef). Has d.scenario r)
    (λ (r : ResetDef). Has (record d.scenario { hosts = d.scenario.hosts ++ b.0 ∷ [] }) r) d.scenario.resets
    (λ r h. either_stays (has_host d.scenario r.dev) (has_target d.scenario r.dev)
    (has_host (record d.scenario { hosts = d.scenario.hosts ++ b.0 ∷ [] }) r.dev) (has_target d.scenario r.dev)
    (λ k. any_more (λ (y : HostDef). y.dev == r.dev) d.scenario.hosts (b.0 ∷ []) k) (λ k. k) h) w)
there_added d z (target_line f) e w =
    let b = bind_ok (target_def d.scenario f) _ z e in
    subst (λ (y : Progress). AreThere y.scenario) (ok_is _ z b.2) (all_to (λ (r : ResetDef). Has d.scenario r)
    (λ (r : ResetDef). Has (record d.scenario { targets = d.scenario.targets ++ b.0 ∷ [] }) r) d.scenario.resets
    (λ r h. either_stays (has_host d.scenario r.dev) (has_target d.scenario r.dev) (has_host d.scenario r.dev)
    (has_target (record d.scenario { targets = d.scenario.targets ++ b.0 ∷ [] }) r.dev) (λ k. k)
    (λ k. any_more (λ (y : TargetDef). y.dev == r.dev) d.scenario.targets (b.0 ∷ []) k) h) w)
there_added d z (unit_line f) e w =
    let b = bind_ok (unit_def d.scenario f) _ z e in
    subst (λ (y : Progress). AreThere y.scenario) (ok_is _ z b.2) w
there_added d z (fill_line f) e w =
    let b = bind_ok (fill_def d.scenario f) _ z e in
    subst (λ (y : Progress). AreThere y.scenario) (ok_is _ z b.2) w
there_added d z (tape_line f) e w =
    let b = bind_ok (tape_def d.scenario f) _ z e in
    subst (λ (y : Progress). AreThere y.scenario) (ok_is _ z b.2) w
there_added d z (load_line f) e w =
    let b = bind_ok (load_def d.scenario f) _ z e in
    subst (λ (y : Progress). AreThere y.scenario) (ok_is _ z b.2) w
there_added d z (cmd_line f) e w =
    let b = bind_ok (full_cmd_def d.scenario d.needs f) _ z e in
    subst (λ (y : Progress). AreThere y.scenario) (ok_is _ z b.2) w
there_added d z (abort_line f) e w =
    let b = bind_ok (abort_def d.scenario f) _ z e in
    subst (λ (y : Progress). AreThere y.scenario) (ok_is _ z b.2) w
there_added d z (reset_line f) e w =
    let b = bind_ok (reset_def d.scenario f) _ z e in
    subst (λ (y : Progress). AreThere y.scenario) (ok_is _ z b.2) (all_more
    (λ (r : ResetDef). Has d.scenario r) d.scenario.resets b.0 w (reset_there d.scenario (reset_line f) b.0 b.1))
there_added d z (fault_line f) e w =
    let b = bind_ok (fault_def d.scenario f) _ z e in
    subst (λ (y : Progress). AreThere y.scenario) (ok_is _ z b.2) w
there_added d z end_line e w = subst (λ (y : Progress). AreThere y.scenario) (ok_is d z e) w

-- ---- all lines

there_after : (d z : Progress) (x : Said) → said_after d x ≡ Ok z → AreThere d.scenario → AreThere z.scenario
unfolding said_after
there_after d z x e w =
    let v = bind_ok (guard 2 (fits_version d.scenario.version x)) _ z e in
    let o = bind_ok (guard 3 (in_order (rank d.last) (rank (kind_of x)))) _ z v.2 in
    let b = bind_ok (added d x) _ z o.2 in
    subst (λ (y : Progress). AreThere y.scenario) (ok_is _ z b.2) (there_added d b.0 x b.1 w)

there_built : (d z : Progress) (xs : List Said) → built d xs ≡ Ok z → AreThere d.scenario → AreThere z.scenario
there_built d z [] e w = subst (λ (y : Progress). AreThere y.scenario) (ok_is d z e) w
there_built d z (x ∷ xs) e w =
    let b = bind_ok (said_after d x) _ z e in
    there_built b.0 z xs b.2 (there_after d b.0 x b.1 w)

pub resets_there : (s : ScenarioValue) → Obeys s → AreThere s
resets_there s o =
    let b = bind_ok (built nothing (saids s)) _ s o.lawful in
    subst AreThere (ok_is b.0.scenario s b.2) (there_built nothing b.0 (saids s) b.1 tt)

-- ---- so it has a latency

pub any_found : {A : Type 0} (f : A → Bool) (xs : List A) → list_any f xs ≡ true → is_some (find f xs) ≡ true
any_found f [] e = wrong' e
any_found f (x ∷ xs) e = elim (cases_Bool (f x)) [ inl g ↦ rw g | inr g ↦ rw g ((any_found f xs) (rw g at e)) ]

pub device_there : (s : ScenarioValue) (dev : ℕ) → has_device s dev ≡ true → is_some (latency_of s dev) ≡ true
device_there s dev e =
    elim (cases_Bool (has_host s dev)) [
      | inl g ↦ by_host targets hosts (any_found (λ (h : HostDef). h.dev == dev) s.hosts g)
      | inr g ↦ by_target targets hosts (any_found (λ (t : TargetDef). t.dev == dev) s.targets (rw g at e))
    ]
  where
    hosts : Option HostDef
    hosts = find (λ (h : HostDef). h.dev == dev) s.hosts

    targets : Option TargetDef
    targets = find (λ (t : TargetDef). t.dev == dev) s.targets

    by_host : (x : Option TargetDef) (y : Option HostDef) → is_some y ≡ true
        → is_some (target_latency x (host_latency y)) ≡ true
    by_host None None z = wrong' z
    by_host None (Some h) z = refl
    by_host (Some t) y z = refl

    by_target : (x : Option TargetDef) (y : Option HostDef) → is_some x ≡ true
        → is_some (target_latency x (host_latency y)) ≡ true
    by_target None y z = wrong' z
    by_target (Some t) y z = refl
