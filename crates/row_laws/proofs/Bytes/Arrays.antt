-- The plain disk array holds and gives bytes, and senses that fit sense data, after any events whose codes are bytes.
use Rattle.row_laws.proofs
use proofs.Names.{ℕ, ◌≡◌, ◌<◌, Bool, true, false, not, ◌&&◌, ◌||◌, List, [], ◌∷◌, ◌++◌, Option, Some, None, subst}
use proofs.Names.{arith, ◌==◌, same_Some, AllByRecursion, if◌then◌else◌, is_some, is_none, nat_lt, AbortKind, Event}
use proofs.Names.{ProcId, AreBytes, command_of, FitsSense, Sense, ABORTED_COMMAND, GOOD, CHECK_CONDITION, is_tape}
use proofs.Names.{units_of, ScenarioValue, FillDef, HostDef, Load, LoadDef, UnitDef, AreOfBytes, IsOfBytes}
use proofs.Names.{loaded_contents, loaded_objects, object_of, starting_contents, Contents, filled_contents}
use proofs.Names.{blank_contents, with_block, Reply, Execution, execution, is_request_sense, check_condition}
use proofs.Names.{queue_full, sense_of, commands_cleared, choice, Process, process_of, same_id, IsOwnRunning}
use proofs.Names.{AllOwnUnits, AllOwnGuests, RunningProcess, UnitState, Nexus, Array, same_nexus, sense_of_nexus}
use proofs.Names.{senses_without, nexuses_without, is_held, unit_state_at, with_unit, guest_at, without_guest}
use proofs.Names.{with_current, has_no_current, units_after_choice, settled_array, starting_array, starting_units}
use proofs.{Names.{nexus_of, all_more}, Bytes.Executions.{HoldsBytes, block_small, HasByteReply, code_fits}}
use proofs.{Bytes.Executions.{check_small, HasByteContext, gives_bytes}, Common.Impossible.{none_some}}
use Rattle.due_model.specs.array_model.specs.Steps

-- ---- what is kept

abbrev HasReplyIf : Option Reply → Type 0
HasReplyIf None = Unit {0}
HasReplyIf (Some r) = HasByteReply r

abbrev IsByteRunning : RunningProcess → Type 0
IsByteRunning r = HasReplyIf r.reply

abbrev IsByteCurrent : Option RunningProcess → Type 0
IsByteCurrent None = Unit {0}
IsByteCurrent (Some r) = IsByteRunning r

pub record IsByteUnit (u : UnitState) : Type 0 where
  pub contents : HoldsBytes u.contents
  pub current : IsByteCurrent u.current

abbrev IsByteEntry : (Nexus × Sense) → Type 0
IsByteEntry e = FitsSense e.1

abbrev pub IsByteListed : (ProcId × Reply) → Type 0
IsByteListed e = (e.1).status < 256

pub record HasBytes (a : Array) : Type 0 where
  pub units : AllByRecursion IsByteUnit a.units
  pub guests : AllByRecursion IsByteRunning a.guests
  pub senses : AllByRecursion IsByteEntry a.senses
  pub attentions : AllByRecursion IsByteEntry a.attentions
  pub replies : AllByRecursion IsByteListed a.replies

abbrev pub HasBytesIf : Option Array → Type 0
HasBytesIf None = Unit {0}
HasBytesIf (Some a) = HasBytes a

if_so : (q : Bool) (a : Array) → HasBytes a → HasBytesIf (if q then Some a else None)
if_so true a h = h
if_so false a h = tt

-- ---- lists

senses_left : (entries : List (Nexus × Sense)) (x : Nexus) → AllByRecursion IsByteEntry entries
    → AllByRecursion IsByteEntry (senses_without entries x)
senses_left [] x a = tt
senses_left (e ∷ entries) x a = go (same_nexus e.0 x) (senses_left entries x a.1)
  where
    go : (q : Bool) → AllByRecursion IsByteEntry (senses_without entries x)
        → AllByRecursion IsByteEntry (if q then senses_without entries x else e ∷ senses_without entries x)
    go true h = h
    go false h = (a.0, h)

senses_kept : (drops : Nexus → Bool) (entries : List (Nexus × Sense)) → AllByRecursion IsByteEntry entries
    → AllByRecursion IsByteEntry (Steps.kept_senses drops entries)
senses_kept drops [] a = tt
senses_kept drops (e ∷ entries) a = go (drops e.0) (senses_kept drops entries a.1)
  where
    go : (q : Bool) → AllByRecursion IsByteEntry (Steps.kept_senses drops entries) → AllByRecursion IsByteEntry
        (if q then Steps.kept_senses drops entries else e ∷ Steps.kept_senses drops entries)
    go true h = h
    go false h = (a.0, h)

sense_found : (entries : List (Nexus × Sense)) (w : Nexus) (x : Sense) → AllByRecursion IsByteEntry entries
    → sense_of_nexus entries w ≡ Some x → FitsSense x
sense_found [] w x a e = absurd (none_some x e)
sense_found (y ∷ entries) w x a e = go (same_nexus y.0 w) (λ z. sense_found entries w x a.1 z) e
  where
    go : (q : Bool) → (sense_of_nexus entries w ≡ Some x → FitsSense x)
        → (if q then Some y.1 else sense_of_nexus entries w) ≡ Some x → FitsSense x
    go true f z = subst FitsSense (same_Some y.1 x z) a.0
    go false f z = f z

-- Each sense that is stored fits sense data.
abbrev pub StoredFit : List (Nexus × Sense) → Type 0
StoredFit entries = (w : Nexus) (x : Sense) → sense_of_nexus entries w ≡ Some x → FitsSense x

pub stored_fit : (a : Array) → HasBytes a → StoredFit a.senses
stored_fit a h w x e = sense_found a.senses w x h.senses e

unit_put : (units : List UnitState) (new : UnitState) → AllByRecursion IsByteUnit units → IsByteUnit new
    → AllByRecursion IsByteUnit (with_unit units new)
unit_put [] new a b = tt
unit_put (u ∷ units) new a b = go (u.target == new.target && u.unit == new.unit) (unit_put units new a.1 b)
  where
    go : (q : Bool) → AllByRecursion IsByteUnit (with_unit units new)
        → AllByRecursion IsByteUnit (if q then new ∷ units else u ∷ with_unit units new)
    go true e = (b, a.1)
    go false e = (a.0, e)

abbrev IsByteUnitIf : Option UnitState → Type 0
IsByteUnitIf None = Unit {0}
IsByteUnitIf (Some u) = IsByteUnit u

pub unit_found : (units : List UnitState) (t m : ℕ) → AllByRecursion IsByteUnit units
    → IsByteUnitIf (unit_state_at units t m)
unit_found [] t m a = tt
unit_found (u ∷ units) t m a = go (u.target == t && u.unit == m) (unit_found units t m a.1)
  where
    go : (q : Bool) → IsByteUnitIf (unit_state_at units t m)
        → IsByteUnitIf (if q then Some u else unit_state_at units t m)
    go true e = a.0
    go false e = e

-- What holds of a process that runs.
abbrev HoldsIf : (RunningProcess → Type 0) → Option RunningProcess → Type 0
HoldsIf P None = Unit {0}
HoldsIf P (Some r) = P r

guest_holds : (P : RunningProcess → Type 0) (guests : List RunningProcess) (id : ProcId) → AllByRecursion P guests
    → HoldsIf P (guest_at guests id)
guest_holds P [] id a = tt
guest_holds P (g ∷ guests) id a = go (same_id g.process.id id) (guest_holds P guests id a.1)
  where
    go : (q : Bool) → HoldsIf P (guest_at guests id) → HoldsIf P (if q then Some g else guest_at guests id)
    go true e = a.0
    go false e = e

running_holds : (P : RunningProcess → Type 0) (units : List UnitState) (id : ProcId)
    → AllByRecursion (λ (u : UnitState). HoldsIf P u.current) units → HoldsIf P (Steps.running_in units id)
running_holds P [] id a = tt
running_holds P (u ∷ units) id a = go u.current a.0 (running_holds P units id a.1)
  where
    one : (r : RunningProcess) → P r → (q : Bool) → HoldsIf P (Steps.running_in units id) → HoldsIf P
        (if is_some (if q then Some r else None) then (if q then Some r else None) else Steps.running_in units id)
    one r b true e = b
    one r b false e = e

    go : (c : Option RunningProcess) → HoldsIf P c → HoldsIf P (Steps.running_in units id)
        → HoldsIf P (if is_some (Steps.running_if c id) then Steps.running_if c id else Steps.running_in units id)
    go None b e = e
    go (Some r) b e = one r b (same_id r.process.id id) e

process_holds : (P : RunningProcess → Type 0) (a : Array) (id : ProcId) → AllByRecursion P a.guests
    → AllByRecursion (λ (u : UnitState). HoldsIf P u.current) a.units → HoldsIf P (Steps.running_process a id)
process_holds P a id g u = go (guest_at a.guests id) (guest_holds P a.guests id g)
  where
    go : (o : Option RunningProcess) → HoldsIf P o → HoldsIf P (if is_some o then o else Steps.running_in a.units id)
    go None e = running_holds P a.units id u
    go (Some r) e = e

abbrev pub IsOf : ScenarioValue → RunningProcess → Type 0
IsOf s r = process_of s r.process.id ≡ Some r.process

own_guests : (s : ScenarioValue) (guests : List RunningProcess) → AllOwnGuests s guests → AllByRecursion (IsOf s) guests
own_guests s [] a = tt
own_guests s (g ∷ guests) a = (a.0, own_guests s guests a.1)

own_currents : (s : ScenarioValue) (units : List UnitState) → AllOwnUnits s units
    → AllByRecursion (λ (u : UnitState). HoldsIf (IsOf s) u.current) units
own_currents s [] a = tt
own_currents s (u ∷ units) a = (go u.current (a.0).current, own_currents s units a.1)
  where
    go : (c : Option RunningProcess) → IsOwnRunning s u.target u.unit c → HoldsIf (IsOf s) c
    go None e = tt
    go (Some r) e = e.is

byte_currents : (units : List UnitState) → AllByRecursion IsByteUnit units
    → AllByRecursion (λ (u : UnitState). HoldsIf IsByteRunning u.current) units
byte_currents [] a = tt
byte_currents (u ∷ units) a = (go u.current (a.0).current, byte_currents units a.1)
  where
    go : (c : Option RunningProcess) → IsByteCurrent c → HoldsIf IsByteRunning c
    go None e = tt
    go (Some r) e = e

-- ---- the choice

choices : (holds : List Nexus) (units : List UnitState) → AllByRecursion IsByteUnit units
    → AllByRecursion IsByteUnit (units_after_choice holds units)
choices holds [] a = tt
choices holds (u ∷ units) a = (
  go (has_no_current u.current && not (is_held holds u.target u.unit)) (choice u.pick u.waiting),
  choices holds units a.1,
)
  where
    go : (q : Bool) (c : Option Process) → IsByteUnit (if q then with_current u c else u)
    go true None = a.0
    go true (Some c) = record { contents = (a.0).contents; current = tt }
    go false c = a.0

pub settles : (a : Array) → HasBytes a → HasBytes (settled_array a)
settles a h = record {
  units = choices a.holds a.units h.units;
  guests = h.guests;
  senses = h.senses;
  attentions = h.attentions;
  replies = h.replies;
}

-- ---- a command arrives

guests_more : (a : Array) (c : Process) (r : Option Reply) → HasBytes a → HasReplyIf r
    → HasBytes (Steps.with_guest a c r)
guests_more a c r h b = record {
  units = h.units;
  guests = all_more IsByteRunning a.guests (record { process = c; reply = r }) h.guests b;
  senses = h.senses;
  attentions = h.attentions;
  replies = h.replies;
}

units_with : (a : Array) (new : UnitState) → HasBytes a → IsByteUnit new
    → HasBytes (record a { units = with_unit a.units new })
units_with a new h b = record {
  units = unit_put a.units new h.units b;
  guests = h.guests;
  senses = h.senses;
  attentions = h.attentions;
  replies = h.replies;
}

accepts : (a : Array) (o : Option Process) → HasBytes a → HasBytesIf (Steps.accept_step a o)
accepts a None h = tt
accepts a (Some c) h = at (unit_state_at a.units c.target c.unit) (unit_found a.units c.target c.unit h.units)
  where
    either : (u : UnitState) → IsByteUnit u
        → (q : Bool) → HasBytesIf (if q then Some (Steps.with_guest a c None) else Steps.queue_step a c u)
    either u b true = guests_more a c None h tt
    either u b false = if_so (nat_lt (Steps.process_count u) u.depth)
        (record a { units = with_unit a.units (record u { waiting = u.waiting ++ c ∷ [] }) }) (units_with a
        (record u { waiting = u.waiting ++ c ∷ [] }) h (record { contents = b.contents; current = b.current }))

    at : (x : Option UnitState) → IsByteUnitIf x → HasBytesIf (Steps.accept_step_at a c x)
    at None b = guests_more a c None h tt
    at (Some u) b = either u b (is_request_sense (command_of c.cdb))

full_small : HasByteReply queue_full
full_small =
    record { status = omega arith; bytes = tt; sense = code_fits 0x00 0x00 (omega arith) (omega arith) }

listed : (a : Array) (id : ProcId) (r : Reply) → HasBytes a → HasByteReply r → HasBytes (Steps.with_listed_reply a id r)
listed a id r h b = record {
  units = h.units;
  guests = h.guests;
  senses = h.senses;
  attentions = h.attentions;
  replies = (b.status, h.replies);
}

refuses : (a : Array) (o : Option Process) → HasBytes a → HasBytesIf (Steps.refuse_step a o)
refuses a None h = tt
refuses a (Some c) h = at (unit_state_at a.units c.target c.unit)
  where
    at : (x : Option UnitState) → HasBytesIf (Steps.refuse_step_at a c x)
    at None = tt
    at (Some u) = if_so (not (is_request_sense (command_of c.cdb)) && Steps.process_count u == u.depth)
        (Steps.with_listed_reply (Steps.with_guest a c (Some queue_full)) c.id queue_full)
        (listed (Steps.with_guest a c (Some queue_full)) c.id queue_full
        (guests_more a c (Some queue_full) h full_small) full_small)

-- ---- a command runs, fails, ends

guests_replied : (guests : List RunningProcess) (id : ProcId) (r : Reply) → AllByRecursion IsByteRunning guests
    → HasByteReply r → AllByRecursion IsByteRunning (Steps.guests_with_reply guests id r)
guests_replied [] id r a b = tt
guests_replied (g ∷ guests) id r a b = go (same_id g.process.id id) (guests_replied guests id r a.1 b)
  where
    go : (q : Bool) → AllByRecursion IsByteRunning (Steps.guests_with_reply guests id r) → AllByRecursion IsByteRunning
        (if q then record g { reply = Some r } ∷ guests else g ∷ Steps.guests_with_reply guests id r)
    go true e = (b, a.1)
    go false e = (a.0, e)

units_replied : (units : List UnitState) (id : ProcId) (r : Reply) → AllByRecursion IsByteUnit units → HasByteReply r
    → AllByRecursion IsByteUnit (Steps.units_with_reply units id r)
units_replied [] id r a b = tt
units_replied (u ∷ units) id r a b =
    (record { contents = (a.0).contents; current = go u.current (a.0).current }, units_replied units id r a.1 b)
  where
    one : (x : RunningProcess) → IsByteRunning x
        → (q : Bool) → IsByteCurrent (if q then Some (record x { reply = Some r }) else Some x)
    one x e true = b
    one x e false = e

    go : (c : Option RunningProcess) → IsByteCurrent c → IsByteCurrent (Steps.current_with_reply c id r)
    go None e = tt
    go (Some x) e = one x e (same_id x.process.id id)

replied : (a : Array) (id : ProcId) (r : Reply) → HasBytes a → HasByteReply r → HasBytes (Steps.with_reply a id r)
replied a id r h b = record {
  units = units_replied a.units id r h.units b;
  guests = guests_replied a.guests id r h.guests b;
  senses = h.senses;
  attentions = h.attentions;
  replies = (b.status, h.replies);
}

pub context_small : (a : Array) (y : Nexus) (t m : ℕ) → HasBytes a
    → HasByteContext (Steps.context_at a y (unit_state_at a.units t m))
context_small a y t m h = go (unit_state_at a.units t m) (unit_found a.units t m h.units)
  where
    go : (x : Option UnitState) → IsByteUnitIf x → HasByteContext (Steps.context_at a y x)
    go None b = record {
      contents = record { touched = tt; reel = tt };
      stored = λ x e. sense_found a.senses y x h.senses e;
      attention = λ x e. sense_found a.attentions y x h.attentions e;
    }
    go (Some u) b = record {
      contents = b.contents;
      stored = λ x e. sense_found a.senses y x h.senses e;
      attention = λ x e. sense_found a.attentions y x h.attentions e;
    }

reported : (a : Array) (q : Bool) (x : Nexus) → HasBytes a → HasBytes (Steps.without_attention a q x)
reported a true x h = record {
  units = h.units;
  guests = h.guests;
  senses = h.senses;
  attentions = senses_left a.attentions x h.attentions;
  replies = h.replies;
}
reported a false x h = h

contents_put : (a : Array) (x : Option UnitState) (c : Contents) → HasBytes a → IsByteUnitIf x → HoldsBytes c
    → HasBytes (Steps.with_contents a x c)
contents_put a None c h b e = h
contents_put a (Some u) c h b e =
    units_with a (record u { contents = c }) h (record { contents = e; current = b.current })

runs : (a : Array) (guest : Bool) (o : Option RunningProcess) → HasBytes a
    → HoldsIf (λ (r : RunningProcess). AreBytes r.process.cdb × AreBytes r.process.sent) o
    → HasBytesIf (Steps.run_step a guest o)
runs a guest None h b = tt
runs a guest (Some r) h b =
    let u : Option UnitState = unit_state_at a.units r.process.target r.process.unit in
    let done : Execution = execution (Steps.context_at a (nexus_of r.process) u) r.process.cdb r.process.sent in
    let e = gives_bytes (Steps.context_at a (nexus_of r.process) u) r.process.cdb r.process.sent
    (context_small a (nexus_of r.process) r.process.target r.process.unit h) b.0 b.1 in
    if_so (is_none r.reply && (guest || not (is_held a.holds r.process.target r.process.unit)))
    (Steps.after_execution_at a r.process u)
    (replied (Steps.with_contents (Steps.without_attention a done.reported (nexus_of r.process)) u done.contents)
    r.process.id done.reply (contents_put (Steps.without_attention a done.reported (nexus_of r.process)) u done.contents
    (reported a done.reported (nexus_of r.process) h)
    (unit_found a.units r.process.target r.process.unit h.units) e.contents) e.reply)

fails : (s : ScenarioValue) (a : Array) (id : ProcId) (r : Reply) (o : Option RunningProcess) → HasBytes a
    → HasByteReply r → HasBytesIf (Steps.fail_step s a id r o)
fails s a id r (Some x) h b = if_so (is_none x.reply) (Steps.with_reply a id r) (replied a id r h b)
fails s a id r None h b = go (process_of s id)
  where
    came : (q : Bool) (c : Process)
        → HasBytesIf (if q then None else Some (Steps.with_listed_reply (Steps.with_guest a c (Some r)) id r))
    came true c = tt
    came false c = listed (Steps.with_guest a c (Some r)) id r (guests_more a c (Some r) h b) b

    go : (x : Option Process) → HasBytesIf (Steps.fail_step_of_new a id r x)
    go None = tt
    go (Some c) = came (Steps.is_waiting a.units id || Steps.has_ended a id) c

guests_left : (guests : List RunningProcess) (id : ProcId) → AllByRecursion IsByteRunning guests
    → AllByRecursion IsByteRunning (without_guest guests id)
guests_left [] id a = tt
guests_left (g ∷ guests) id a = go (same_id g.process.id id) (guests_left guests id a.1)
  where
    go : (q : Bool) → AllByRecursion IsByteRunning (without_guest guests id)
        → AllByRecursion IsByteRunning (if q then without_guest guests id else g ∷ without_guest guests id)
    go true e = e
    go false e = (a.0, e)

units_left : (units : List UnitState) (id : ProcId) → AllByRecursion IsByteUnit units
    → AllByRecursion IsByteUnit (Steps.units_without units id)
units_left [] id a = tt
units_left (u ∷ units) id a = (
  record {
    contents = (a.0).contents;
    current = elim (is_some (Steps.running_if u.current id)) as (λ q. IsByteCurrent (if q then None else u.current)) [
      | true ↦ tt
      | false ↦ (a.0).current
    ];
  },
  units_left units id a.1,
)

leaves : (a : Array) (id : ProcId) → HasBytes a → HasBytes (Steps.array_without a id)
leaves a id h = record {
  units = units_left a.units id h.units;
  guests = guests_left a.guests id h.guests;
  senses = h.senses;
  attentions = h.attentions;
  replies = h.replies;
}

status_kept : (a : Array) (c : Process) (r : Reply) → HasBytes a → HasByteReply r → HasBytes (Steps.after_status a c r)
status_kept a c r h b = go (r.status == CHECK_CONDITION) (r.status == GOOD && is_request_sense (command_of c.cdb))
  where
    go : (x y : Bool) → HasBytes (if x then record a {
      senses = (nexus_of c, r.sense) ∷ senses_without a.senses (nexus_of c);
      holds = nexus_of c ∷ nexuses_without a.holds (nexus_of c);
    } else if y then record a {
      senses = senses_without a.senses (nexus_of c);
      holds = nexuses_without a.holds (nexus_of c);
    } else a)
    go true y = record {
      units = h.units;
      guests = h.guests;
      senses = (b.sense, senses_left a.senses (nexus_of c) h.senses);
      attentions = h.attentions;
      replies = h.replies;
    }
    go false true = record {
      units = h.units;
      guests = h.guests;
      senses = senses_left a.senses (nexus_of c) h.senses;
      attentions = h.attentions;
      replies = h.replies;
    }
    go false false = h

ends : (a : Array) (status : ℕ) (o : Option RunningProcess) → HasBytes a → HoldsIf IsByteRunning o
    → HasBytesIf (Steps.end_step a status o)
ends a status None h b = tt
ends a status (Some r) h b = go r.reply b
  where
    go : (x : Option Reply) → HasReplyIf x → HasBytesIf (Steps.end_step_with a r.process status x)
    go None e = tt
    go (Some y) e = if_so (y.status == status) (Steps.array_without (Steps.after_status a r.process y) r.process.id)
        (leaves (Steps.after_status a r.process y) r.process.id (status_kept a r.process y h e))

loses : (a : Array) (id : ProcId) → HasBytes a → HasBytesIf (Steps.loss_step a id)
loses a id h = go (Steps.has_ended a id)
  where
    go : (q : Bool) → HasBytesIf (if q then None else Some (Steps.array_without a id))
    go true = tt
    go false = leaves a id h

-- ---- aborts and resets

guests_kept : (drops : Process → Bool) (guests : List RunningProcess) → AllByRecursion IsByteRunning guests
    → AllByRecursion IsByteRunning (Steps.kept_guests drops guests)
guests_kept drops [] a = tt
guests_kept drops (g ∷ guests) a = go (drops g.process) (guests_kept drops guests a.1)
  where
    go : (q : Bool) → AllByRecursion IsByteRunning (Steps.kept_guests drops guests) → AllByRecursion IsByteRunning
        (if q then Steps.kept_guests drops guests else g ∷ Steps.kept_guests drops guests)
    go true e = e
    go false e = (a.0, e)

units_kept : (drops : Process → Bool) (units : List UnitState) → AllByRecursion IsByteUnit units
    → AllByRecursion IsByteUnit (Steps.kept_units drops units)
units_kept drops [] a = tt
units_kept drops (u ∷ units) a =
    (record { contents = (a.0).contents; current = go u.current (a.0).current }, units_kept drops units a.1)
  where
    one : (x : RunningProcess) → IsByteRunning x → (q : Bool) → IsByteCurrent (if q then None else Some x)
    one x e true = tt
    one x e false = e

    go : (c : Option RunningProcess) → IsByteCurrent c → IsByteCurrent (Steps.kept_running drops c)
    go None e = tt
    go (Some x) e = one x e (drops x.process)

dropped : (a : Array) (drops : Process → Bool) → HasBytes a → HasBytes (Steps.without_dropped a drops)
dropped a drops h = record {
  units = units_kept drops a.units h.units;
  guests = guests_kept drops a.guests h.guests;
  senses = h.senses;
  attentions = h.attentions;
  replies = h.replies;
}

of_hosts : (hosts : List HostDef) (t m : ℕ) (a : Array) → HasBytes a → HasBytes (Steps.reset_attentions hosts t m a)
of_hosts [] t m a h = h
of_hosts (x ∷ hosts) t m a h =
    let nexus : Nexus = record { initiator = x.dev; target = t; unit = m } in
    of_hosts hosts t m (Steps.reset_attention a nexus) (record {
      units = h.units;
      guests = h.guests;
      senses = h.senses;
      attentions =
          (code_fits 0x06 0x29 (omega arith) (omega arith), senses_left a.attentions nexus h.attentions);
      replies = h.replies;
    })

of_units : (hosts : List HostDef) (units : List UnitState) (is_one : UnitState → Bool) (a : Array) → HasBytes a
    → HasBytes (Steps.unit_reset_attentions hosts units is_one a)
of_units hosts [] is_one a h = h
of_units hosts (u ∷ units) is_one a h =
    of_units hosts units is_one (if is_one u then Steps.reset_attentions hosts u.target u.unit a else a) (go (is_one u))
  where
    go : (q : Bool) → HasBytes (if q then Steps.reset_attentions hosts u.target u.unit a else a)
    go true = of_hosts hosts u.target u.unit a h
    go false = h

cleared : (by : ℕ) (lost : List Process) (a : Array) → HasBytes a → HasBytes (Steps.cleared_attentions by lost a)
cleared by [] a h = h
cleared by (q ∷ lost) a h =
    cleared by lost (if q.initiator == by then a else Steps.cleared_attention a (nexus_of q)) (go (q.initiator == by))
  where
    told : (y : Bool) → HasBytes (if y then a else record a {
      attentions = (nexus_of q, commands_cleared) ∷ senses_without a.attentions (nexus_of q);
    })
    told true = h
    told false = record {
      units = h.units;
      guests = h.guests;
      senses = h.senses;
      attentions =
          (code_fits 0x06 0x2f (omega arith) (omega arith), senses_left a.attentions (nexus_of q) h.attentions);
      replies = h.replies;
    }

    go : (x : Bool) → HasBytes (if x then a else Steps.cleared_attention a (nexus_of q))
    go true = h
    go false = told (Steps.is_reset_pending (sense_of_nexus a.attentions (nexus_of q)))

aborted : (s : ScenarioValue) (a : Array) (i t m : ℕ) (what : AbortKind) → HasBytes a
    → HasBytes (Steps.abort_step s a i t m what)
aborted s a i t m AbortKind.All h =
    let d = dropped a (λ p. p.initiator == i && Steps.is_of_unit p t m) h in
    record {
      units = d.units;
      guests = d.guests;
      senses = senses_left a.senses (record { initiator = i; target = t; unit = m }) h.senses;
      attentions = d.attentions;
      replies = d.replies;
    }
aborted s a i t m (AbortKind.Tag tag) h =
    dropped a (λ p. p.initiator == i && Steps.is_of_unit p t m && Steps.has_tag p.tag tag) h
aborted s a i t m AbortKind.WholeQueue h = cleared i (Steps.unit_processes (unit_state_at a.units t m))
    (Steps.without_dropped a (λ p. Steps.is_of_unit p t m)) (dropped a (λ p. Steps.is_of_unit p t m) h)
aborted s a i t m AbortKind.Device h =
    let d = dropped a (λ p. p.target == t) h in
    of_units s.hosts a.units (λ u. u.target == t) (record (Steps.without_dropped a (λ p. p.target == t)) {
      senses = Steps.kept_senses (λ q. q.target == t) a.senses;
      holds = Steps.kept_nexuses (λ q. q.target == t) a.holds;
    }) (record {
      units = d.units;
      guests = d.guests;
      senses = senses_kept (λ q. q.target == t) a.senses h.senses;
      attentions = d.attentions;
      replies = d.replies;
    })

resets : (s : ScenarioValue) (a : Array) → HasBytes a → HasBytes (Steps.reset_step s a)
resets s a h =
    let d = dropped a (λ p. true) h in
    of_units s.hosts a.units (λ u. true) (record (Steps.without_dropped a (λ p. true)) { senses = []; holds = [] })
    (record { units = d.units; guests = d.guests; senses = tt; attentions = d.attentions; replies = d.replies })

-- ---- any event

abbrev pub HasByteCode : Event → Type 0
HasByteCode (Event.Fail id code) = code < 256
HasByteCode _ = Unit {0}

-- The processes of a scenario send bytes: their command descriptor block, and what goes with it.
abbrev pub SendsBytes : ScenarioValue → Type 0
SendsBytes s = (id : ProcId) (c : Process) → process_of s id ≡ Some c → AreBytes c.cdb × AreBytes c.sent

sends : (s : ScenarioValue) (o : Option RunningProcess) → SendsBytes s → HoldsIf (IsOf s) o
    → HoldsIf (λ (r : RunningProcess). AreBytes r.process.cdb × AreBytes r.process.sent) o
sends s None f b = tt
sends s (Some r) f b = f r.process.id r.process b

by_event : (s : ScenarioValue) (a : Array) (event : Event) → SendsBytes s → AllOwnUnits s a.units
    → AllOwnGuests s a.guests → HasByteCode event → HasBytes a → HasBytesIf (Steps.event_step s a event)
by_event s a (Event.Accept id) f u g c h = accepts a (process_of s id) h
by_event s a (Event.Refuse id) f u g c h = refuses a (process_of s id) h
by_event s a (Event.Run id) f u g c h = runs a (is_some (guest_at a.guests id)) (Steps.running_process a id) h (sends s
    (Steps.running_process a id) f (process_holds (IsOf s) a id (own_guests s a.guests g) (own_currents s a.units u)))
by_event s a (Event.Fail id code) f u g c h = fails s a id (check_condition (sense_of ABORTED_COMMAND code 0x00))
    (Steps.running_process a id) h
    (check_small (sense_of ABORTED_COMMAND code 0x00) (code_fits ABORTED_COMMAND code (omega arith) c))
by_event s a (Event.End id status) f u g c h = ends a status (Steps.running_process a id) h
    (process_holds IsByteRunning a id h.guests (byte_currents a.units h.units))
by_event s a (Event.Lost id) f u g c h = loses a id h
by_event s a (Event.Aborted i t n what) f u g c h = aborted s a i t n what h
by_event s a (Event.Reset dev) f u g c h = resets s a h

pub step_bytes : (s : ScenarioValue) (a : Array) (event : Event) → SendsBytes s → AllOwnUnits s a.units
    → AllOwnGuests s a.guests → HasByteCode event → HasBytes a → HasBytesIf (Steps.step s event a)
step_bytes s a event f u g c h = go (Steps.event_step s a event) (by_event s a event f u g c h)
  where
    go : (o : Option Array) → HasBytesIf o → HasBytesIf (Steps.settled_array_if o)
    go None e = tt
    go (Some b) e = settles b e

-- ---- the start

filled : (u : UnitDef) (fills : List FillDef) (c : Contents) → AllByRecursion (λ (f : FillDef). AreBytes f.bytes) fills
    → HoldsBytes c → HoldsBytes (filled_contents u fills c)
filled u [] c a h = h
filled u (f ∷ fills) c a h = filled u fills
    (if f.target == u.target && f.unit == u.unit then with_block c f.lba f.bytes else c) a.1
    (go (f.target == u.target && f.unit == u.unit))
  where
    go : (q : Bool) → HoldsBytes (if q then with_block c f.lba f.bytes else c)
    go true = block_small c f.lba f.bytes h a.0
    go false = h

-- What is loaded.
abbrev pub IsByteLoad : Load → Type 0
IsByteLoad (Load.Block bytes) = AreBytes bytes
IsByteLoad Load.Mark = Unit {0}

object_small : (what : Load) → IsByteLoad what → IsOfBytes (object_of what)
object_small (Load.Block bytes) a = a
object_small Load.Mark a = tt

loaded : (u : UnitDef) (defs : List LoadDef) → AllByRecursion (λ (l : LoadDef). IsByteLoad l.what) defs
    → AreOfBytes (loaded_objects u defs)
loaded u [] a = tt
loaded u (l ∷ defs) a = go (l.target == u.target && l.unit == u.unit) (loaded u defs a.1)
  where
    go : (q : Bool) → AreOfBytes (loaded_objects u defs)
        → AreOfBytes (if q then object_of l.what ∷ loaded_objects u defs else loaded_objects u defs)
    go true h = (object_small l.what a.0, h)
    go false h = h

started : (s : ScenarioValue) (units : List UnitDef) → AllByRecursion (λ (f : FillDef). AreBytes f.bytes) s.fills
    → AllByRecursion (λ (l : LoadDef). IsByteLoad l.what) s.loads → AllByRecursion IsByteUnit (starting_units s units)
started s [] a b = tt
started s (u ∷ units) a b =
    (record { contents = go (is_tape s u.target u.unit); current = tt }, started s units a b)
  where
    go : (q : Bool) → HoldsBytes (if q then loaded_contents u s.loads else starting_contents u s.fills)
    go true = record { touched = tt; reel = loaded u s.loads b }
    go false = filled u s.fills (blank_contents u.blocks u.size) a (record { touched = tt; reel = tt })

pub start_bytes : (s : ScenarioValue) → AllByRecursion (λ (f : FillDef). AreBytes f.bytes) s.fills
    → AllByRecursion (λ (l : LoadDef). IsByteLoad l.what) s.loads → HasBytes (starting_array s)
start_bytes s a b =
    record { units = started s (units_of s) a b; guests = tt; senses = tt; attentions = tt; replies = tt }
