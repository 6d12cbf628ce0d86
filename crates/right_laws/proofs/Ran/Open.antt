-- What holds of each process of the plain disk array that was not answered goes on with each event, where it holds of
-- the process that arrives; and a reply that was given stays.
use Rattle.right_laws.proofs
use proofs.Names.{◌≡◌, Bool, true, false, ◌∙◌, List, [], ◌∷◌, Option, Some, None, refl, sym, ap, subst, or_parts}
use proofs.Names.{same_Some, if◌then◌else◌, is_some, wrong, Event, ProcId, ScenarioValue, loss_lists, end_lists}
use proofs.Names.{array_step, reply_in, Reply, Process, process_of, same_id, RunningProcess, UnitState, Array, guest_at}
use proofs.Names.{starting_array, settled_array, without_reply, array_after_events, process_id, self_id, none_some}
use proofs.Names.{no_array, same_after, untouched_at_start, Admits, AdmitsEvent, each_after, replies_to, listed_on}
use proofs.Names.{accepted, Each, OnUnits, OnGuests, Waits, Runs, IsAway, on_running, OnEvents, IfOpen, OnOpen}
use Rattle.due_model.specs.array_model.specs.Steps

-- ---- of each process

map_waits : (x q r : RunningProcess → Type 0) → ((y : RunningProcess) → x y → q y → r y) → (waiting : List Process)
    → Waits x waiting → Waits q waiting → Waits r waiting
map_waits x q r f [] h g = tt
map_waits x q r f (c ∷ waiting) h g = (f (without_reply c) h.0 g.0, map_waits x q r f waiting h.1 g.1)

map_runs : (x q r : RunningProcess → Type 0) → ((y : RunningProcess) → x y → q y → r y) → (o : Option RunningProcess)
    → Runs x o → Runs q o → Runs r o
map_runs x q r f None h g = tt
map_runs x q r f (Some y) h g = f y h g

map_units : (x q r : RunningProcess → Type 0) → ((y : RunningProcess) → x y → q y → r y) → (units : List UnitState)
    → OnUnits x units → OnUnits q units → OnUnits r units
map_units x q r f [] h g = tt
map_units x q r f (u ∷ units) h g =
    ((map_waits x q r f u.waiting h.0.0 g.0.0, map_runs x q r f u.current h.0.1 g.0.1), map_units x q r f units h.1 g.1)

map_guests : (x q r : RunningProcess → Type 0) → ((y : RunningProcess) → x y → q y → r y)
    → (guests : List RunningProcess) → OnGuests x guests → OnGuests q guests → OnGuests r guests
map_guests x q r f [] h g = tt
map_guests x q r f (y ∷ guests) h g = (f y h.0 g.0, map_guests x q r f guests h.1 g.1)

-- By what holds of each beside.
pub each_both : (x q r : RunningProcess → Type 0) (a : Array) → ((y : RunningProcess) → x y → q y → r y) → Each x x a
    → Each q q a → Each r r a
each_both x q r a f h g =
    record { units = map_units x q r f a.units h.units g.units; guests = map_guests x q r f a.guests h.guests g.guests }

pub each_map : (q r : RunningProcess → Type 0) (a : Array) → ((z : RunningProcess) → q z → r z) → Each q q a
    → Each r r a
each_map q r a f h = each_both q q r a (λ z x y. f z x) h h

-- What holds of the process that is found.
guest_has : (q : RunningProcess → Type 0) (guests : List RunningProcess) (id : ProcId) (r : RunningProcess)
    → OnGuests q guests → guest_at guests id ≡ Some r → q r
guest_has q [] id r h e = none_some r e
guest_has q (g ∷ guests) id r h e = go (same_id g.process.id id) e (λ z. guest_has q guests id r h.1 z)
  where
    go : (x : Bool) → (if x then Some g else guest_at guests id) ≡ Some r → (guest_at guests id ≡ Some r → q r) → q r
    go true z rest = subst q (same_Some g r z) h.0
    go false z rest = rest z

pub running_has : (q : RunningProcess → Type 0) (a : Array) (id : ProcId) (r : RunningProcess) → Each q q a
    → Steps.running_process a id ≡ Some r → q r
running_has q a id r h e = go (guest_at a.guests id) refl e
  where
    go : (o : Option RunningProcess) → guest_at a.guests id ≡ o
        → (if is_some o then o else Steps.running_in a.units id) ≡ Some r → q r
    go None z w = on_running q a.units id r h.units w
    go (Some g) z w = guest_has q a.guests id r h.guests (z ∙ w)

-- ---- at the start there is none

none_waits : (q : RunningProcess → Type 0) (waiting : List Process)
    → ((id : ProcId) → Waits (IsAway id) waiting) → Waits q waiting
none_waits q [] h = tt
none_waits q (c ∷ waiting) h = wrong (sym (self_id c.id) ∙ (h c.id).0)

none_runs : (q : RunningProcess → Type 0) (o : Option RunningProcess) → ((id : ProcId) → Runs (IsAway id) o) → Runs q o
none_runs q None h = tt
none_runs q (Some r) h = wrong (sym (self_id r.process.id) ∙ h r.process.id)

none_units : (q : RunningProcess → Type 0) (units : List UnitState)
    → ((id : ProcId) → OnUnits (IsAway id) units) → OnUnits q units
none_units q [] h = tt
none_units q (u ∷ units) h = (
  (none_waits q u.waiting (λ id. (h id).0.0), none_runs q u.current (λ id. (h id).0.1)),
  none_units q units (λ id. (h id).1),
)

pub none_guests : (q : RunningProcess → Type 0) (guests : List RunningProcess)
    → ((id : ProcId) → OnGuests (IsAway id) guests) → OnGuests q guests
none_guests q [] h = tt
none_guests q (g ∷ guests) h = wrong (sym (self_id g.process.id) ∙ (h g.process.id).0)

pub each_none : (q : RunningProcess → Type 0) (a : Array) → ((id : ProcId) → Each (IsAway id) (IsAway id) a)
    → Each q q a
each_none q a h =
    record { units = none_units q a.units (λ id. (h id).units); guests = none_guests q a.guests (λ id. (h id).guests) }

pub open_start : (s : ScenarioValue) (h : ProcId → Type 0) → OnOpen h (settled_array (starting_array s))
open_start s h = each_none (IfOpen h (settled_array (starting_array s))) (settled_array (starting_array s))
    (λ id. (untouched_at_start s id).away)

-- ---- an event

pub none_is : (o : Option Reply) → is_some o ≡ false → o ≡ None
none_is None e = refl
none_is (Some x) e = wrong e

-- A process arrives with it.
abbrev pub IfAccepts : (ProcId → Type 0) → Event → Type 0
IfAccepts h e = (id : ProcId) → e ≡ Event.Accept id → h id

-- It is not answered with the event.
abbrev IfLeft : (ProcId → Type 0) → Array → Event → RunningProcess → Type 0
IfLeft h a e r = reply_in a.replies r.process.id ≡ None → replies_to e r.process.id ≡ false → h r.process.id

answered_admits : (s : ScenarioValue) (h : ProcId → Type 0) (a : Array) (e : Event) (id : ProcId)
    → ((other : ProcId) → other ≡ id → replies_to e other ≡ true) → Admits s (IfLeft h a e) (IfLeft h a e) id
answered_admits s h a e id f = record {
  waits = λ p w none left. wrong (sym (f p.id (process_id s id p w)) ∙ left);
  comes = λ p reply w none left. wrong (sym (f p.id (process_id s id p w)) ∙ left);
  runs = λ r reply same k. k;
  is_guest = λ r reply same k. k;
}

replied : (id other : ProcId) → other ≡ id → same_id id other ≡ true
replied id other e = ap (same_id id) e ∙ self_id id

admits : (s : ScenarioValue) (h : ProcId → Type 0) (a : Array) (e : Event) → IfAccepts h e
    → AdmitsEvent s (IfLeft h a e) (IfLeft h a e) e
admits s h a (Event.Accept id) f = record {
  waits = λ p w none left. subst h (sym (process_id s id p w)) (f id refl);
  comes = λ p reply w none left. subst h (sym (process_id s id p w)) (f id refl);
  runs = λ r reply same k. k;
  is_guest = λ r reply same k. k;
}
admits s h a (Event.Refuse id) f = answered_admits s h a (Event.Refuse id) id (λ other z. replied id other z)
admits s h a (Event.Run id) f = answered_admits s h a (Event.Run id) id (λ other z. replied id other z)
admits s h a (Event.Fail id code) f = answered_admits s h a (Event.Fail id code) id (λ other z. replied id other z)
admits s h a (Event.End id status) f = tt
admits s h a (Event.Lost id) f = tt
admits s h a (Event.Aborted i t n what) f = tt
admits s h a (Event.Reset dev) f = tt

pub open_step : (s : ScenarioValue) (h : ProcId → Type 0) (a b : Array) (e : Event) → IfAccepts h e
    → Steps.step s e a ≡ Some b → OnOpen h a → OnOpen h b
open_step s h a b e f st all =
    each_map (IfLeft h a e) (IfOpen h b) b (λ r g none. go r g none) (each_after s (IfLeft h a e) (IfLeft h a e) a b e
    (admits s h a e f) (each_map (IfOpen h a) (IfLeft h a e) a (λ r g none left. g none) all) st)
  where
    go : (r : RunningProcess) → IfLeft h a e r → reply_in b.replies r.process.id ≡ None → h r.process.id
    go r g none =
        let two = or_parts (replies_to e r.process.id) (is_some (reply_in a.replies r.process.id))
        (sym (listed_on s a b e st r.process.id) ∙ ap is_some none) in
        g (none_is (reply_in a.replies r.process.id) two.1) two.0

pub open_events : (s : ScenarioValue) (h : ProcId → Type 0) (a b : Array) (shown : List Event)
    → OnEvents (IfAccepts h) shown → array_after_events s (Some a) shown ≡ Some b → OnOpen h a → OnOpen h b
open_events s h a b [] f st all = subst (OnOpen h) (same_Some a b st) all
open_events s h a b (e ∷ shown) f st all =
    go (array_after_events s (Some a) shown) refl st (λ c z. open_events s h a c shown f.1 z all)
  where
    go : (o : Option Array) → array_after_events s (Some a) shown ≡ o → array_step s e o ≡ Some b
        → ((c : Array) → array_after_events s (Some a) shown ≡ Some c → OnOpen h c) → OnOpen h b
    go None z w rest = no_array s e b w
    go (Some c) z w rest = open_step s h c b e f.0 w (rest c z)

-- ---- a reply that was given

-- The step of an event, before the choices that follow it.
settles : (o : Option Array) (a b : Array)
    → ((c : Array) → o ≡ Some c → c.replies ≡ a.replies) → Steps.settled_array_if o ≡ Some b → b.replies ≡ a.replies
settles None a b f e = none_some b e
settles (Some c) a b f e = ap (λ (x : Array). x.replies) (sym (same_Some (settled_array c) b e)) ∙ f c refl

pub reply_kept : (s : ScenarioValue) (a b : Array) (e : Event) (id : ProcId) → replies_to e id ≡ false
    → Steps.step s e a ≡ Some b → reply_in b.replies id ≡ reply_in a.replies id
reply_kept s a b (Event.Accept p) id f st = ap (λ (x : List (ProcId × Reply)). reply_in x id)
    (settles (Steps.accept_step a (process_of s p)) a b (λ c z. accepted a c (process_of s p) z) st)
reply_kept s a b (Event.Refuse p) id f st = (same_after s a b (Event.Refuse p) id f st).reply
reply_kept s a b (Event.Run p) id f st = (same_after s a b (Event.Run p) id f st).reply
reply_kept s a b (Event.Fail p code) id f st = (same_after s a b (Event.Fail p code) id f st).reply
reply_kept s a b (Event.End p status) id f st =
    ap (λ (x : List (ProcId × Reply)). reply_in x id) (settles (Steps.end_step a status (Steps.running_process a p)) a b
    (λ c z. end_lists a c status (Steps.running_process a p) z) st)
reply_kept s a b (Event.Lost p) id f st =
    ap (λ (x : List (ProcId × Reply)). reply_in x id) (settles (Steps.loss_step a p) a b (λ c z. loss_lists a c p z) st)
reply_kept s a b (Event.Aborted i t n what) id f st = (same_after s a b (Event.Aborted i t n what) id refl st).reply
reply_kept s a b (Event.Reset dev) id f st = (same_after s a b (Event.Reset dev) id refl st).reply

pub replies_kept : (s : ScenarioValue) (a b : Array) (shown : List Event) (id : ProcId)
    → OnEvents (λ e. replies_to e id ≡ false) shown → array_after_events s (Some a) shown ≡ Some b
    → reply_in b.replies id ≡ reply_in a.replies id
replies_kept s a b [] id f st = ap (λ (x : Array). reply_in x.replies id) (sym (same_Some a b st))
replies_kept s a b (e ∷ shown) id f st =
    go (array_after_events s (Some a) shown) refl st (λ c z. replies_kept s a c shown id f.1 z)
  where
    go : (o : Option Array) → array_after_events s (Some a) shown ≡ o → array_step s e o ≡ Some b
        → ((c : Array) → array_after_events s (Some a) shown ≡ Some c → reply_in c.replies id ≡ reply_in a.replies id)
        → reply_in b.replies id ≡ reply_in a.replies id
    go None z w rest = no_array s e b w
    go (Some c) z w rest = reply_kept s c b e id f.0 w ∙ rest c z
