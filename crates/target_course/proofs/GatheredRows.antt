-- What came to a target of the data of writes goes on row by row.
use Rattle.std.proofs.Common.{ℕ, zero, suc, ◌≡◌, ◌≢◌, ◌+◌, ◌<◌, ◌≤◌, Bool, true, false, List, [], ◌∷◌, ◌++◌, ◌∙◌, refl}
use Rattle.std.proofs.Common.{sym, subst, arith, length, take, get_or, set, Option, Some, None}
use Rattle.std.specs.Prelude.{if◌then◌else◌, min, not, ◌^◌, ◌-◌, ◌%◌, ◌&&◌, ◌||◌, ◌==◌, nat_lt, slice_set}
use Rattle.std.proofs.lemmas.Bool.{eqb-true, eqb-false, and_parts, lt-ltb, ltb-true, ltb-false}
use Rattle.std.proofs.lemmas.Bool.Decides.{nat_tests}
use Rattle.std.proofs.lemmas.List.{get_or-set_same, get_or-set_other, length-set, length-append, length-take}
use Rattle.std.proofs.lemmas.List.{get_or-take}
use Rattle.std.proofs.lemmas.Option.{same_Some, none-some}
use Rattle.std.proofs.Math.Seq.{take-set-lt}
use Rattle.bus_base.specs.declared.ProcId.{ProcId}
use Rattle.bus_trace.specs.Phases.{changes_phase}
use Rattle.bus_trace.specs.Terms.{connection}
use Rattle.bus_trace.specs.declared.Row.{Row}
use Rattle.bus_trace.specs.declared.connection.Connection.{Connection}
use Rattle.scenario.specs.Needs.{sent_of}
use Rattle.scenario.specs.Value.{ScenarioValue}
use Rattle.scenario.specs.declared.value.CmdDef.{CmdDef}
use Rattle.array_model.specs.ArrayHistory as Play
use Rattle.array_model.specs.Processes.{Process, process_of}
use Rattle.due_model.specs.story_model.specs.BusState.{RowReading, row_reading}
use Rattle.due_model.specs.story_model.specs.Items.{Item, process, abort}
use Rattle.due_model.specs.dialogue_model.specs.Arrivals.{policy_of}
use Rattle.due_model.specs.dialogue_model.specs.DataRuns.{run_at}
use Rattle.due_model.specs.dialogue_model.specs.Hearing.{hearing}
use Rattle.due_model.specs.dialogue_model.specs.NextPhase.{phase_of}
use Rattle.due_model.specs.dialogue_model.specs.declared.exchange.Hearing.{Hearing}
use Rattle.due_model.specs.dialogue_model.specs.declared.exchange.Phase.{Phase}
use Rattle.due_model.specs.dialogue_model.specs.declared.exchange.Phase.TheVariants as phases
use Rattle.due_model.specs.dialogue_model.specs.declared.exchange.Task.{Task}
use Rattle.due_model.specs.Defs.{target_def_of}
use Rattle.due_model.specs.Faithful.{has_ends, is_sent_at, is_true_beginning, is_true_crossing, is_true_hearing}
use Rattle.due_model.specs.Faithful.{is_known_process, is_true_leaving, is_faithful, faithful}
use Rattle.due_model.specs.Plain.{IsPlain, AreOfDevices}
use Rattle.due_model.specs.RunState.{RunState, array_of, bus_of, carried_here, process_item, process_served}
use Rattle.due_model.specs.LastingState.{progress_in}
use Rattle.due_model.specs.RunSteps.{run_state}
use Rattle.due_model.specs.Sights.{hearing_of}
use Rattle.due_model.specs.Tasks.{reply_now, task_with, task_if, task_of}
use Rattle.due_model.specs.Telling.{id_of}
use Rattle.target_units.specs.scsi_device.specs.Writes.{is_data_out, brings_byte}
use Rattle.target_course.specs.Gathered.{Gathering, empty_gathering, gathering_of, gathering_with, bytes_of}
use Rattle.target_course.specs.Gathered.{GatheredValue, gathering_at, gathered_with, most_room, unit_room, empty_unit}
use Rattle.target_course.specs.Gathered.{nothing_gathered, gathered_seen, place_in_run, IsGatheringOf, IsGatheredOf}
use Rattle.target_course.specs.Gathered.{IsSentSo}
use Rattle.target_units.specs.Seated.{is_same_process}
use Rattle.target_course.proofs.ServedEnds.{ends_are}
use Rattle.array_model.proofs.SeatLookups.{same_id_is}

-- ---- a buffer

-- A byte in the place of one that came before, as a buffer keeps them.
pub kept_byte : (owner : Option ProcId) (items : List ℕ) (count place byte : ℕ) → place < count → count ≤ length items
    → (let x : Gathering = record {
      owner = owner;
      bytes = take count (set items place byte);
      room = length (set items place byte);
    } in x) ≡ gathering_with (record { owner = owner; bytes = take count items; room = length items }) place byte
kept_byte owner items count place byte lt most =
    let long : length (take count items) ≡ min count (length items) = length-take count items in
    let t : nat_lt place (length (take count items)) ≡ true = lt-ltb place
    (length (take count items)) (omega (arith, long, lt, most)) in
    (λ i. record {
      owner = owner;
      bytes = take-set-lt count items place byte lt i;
      room = length-set items place byte i;
    })
    ∙ (λ i.
    if sym t i then record { owner = owner; bytes = slice_set (take count items) place byte; room = length items }
    else if place == length (take count items) && nat_lt place (length items) then record {
      owner = owner;
      bytes = take count items ++ byte ∷ [];
      room = length items;
    } else record { owner = owner; bytes = take count items; room = length items })

-- ---- elements

byte_put : (xs : List ℕ) (k n x : ℕ) → k < length xs → get_or (set xs k x) n 0 ≡ (if k == n then x else get_or xs n 0)
byte_put xs k n x l = go (k == n) refl
  where
    go : (y : Bool) → (k == n) ≡ y → get_or (set xs k x) n 0 ≡ (if y then x else get_or xs n 0)
    go true e = (λ i. get_or (set xs k x) (sym (eqb-true k n e) i) 0) ∙ get_or-set_same xs k x 0 l
    go false e = let other : n ≢ k = (λ z. eqb-false k n e (sym z)) in get_or-set_other xs k n x 0 other

added_before : (xs : List ℕ) (n x : ℕ) → n < length xs → get_or (xs ++ x ∷ []) n 0 ≡ get_or xs n 0
added_before [] n x l = absurd (omega (arith, l))
added_before (y ∷ xs) zero x l = refl
added_before (y ∷ xs) (suc n) x l = added_before xs n x (omega (arith, l))

added_last : (xs : List ℕ) (x : ℕ) → get_or (xs ++ x ∷ []) (length xs) 0 ≡ x
added_last [] x = refl
added_last (y ∷ xs) x = added_last xs x

pub unit_put : (v : List Gathering) (k n : ℕ) (x : Gathering) → n < length v
    → gathering_at (set v k x) n ≡ (if k == n then x else gathering_at v n)
unit_put v k n x l = go (k == n) refl
  where
    go : (y : Bool) → (k == n) ≡ y → gathering_at (set v k x) n ≡ (if y then x else gathering_at v n)
    go true e =
        let here : k ≡ n = eqb-true k n e in
        let within : k < length v = (let z = here in omega arith) in
        (λ i. gathering_at (set v k x) (sym here i)) ∙ get_or-set_same v k x (empty_gathering 0) within
    go false e =
        let other : n ≢ k = (λ z. eqb-false k n e (sym z)) in
        get_or-set_other v k n x (empty_gathering 0) other

-- ---- a byte of a process

-- This is what the process of this number, if there is one, sends at this place, as far as places go.
abbrev IsSentAt : ScenarioValue → ProcId → ℕ → ℕ → Type 0
IsSentAt s id place byte = (p : Process) → process_of s id ≡ Some p → place < 2 ^ 64 - 1 → byte ≡ get_or p.sent place 0

abbrev IsOwnedBy : Gathering → ProcId → Type 0
IsOwnedBy g id = (o : ProcId) → g.owner ≡ Some o → o ≡ id

pub own_so : (s : ScenarioValue) (g : Gathering) (id : ProcId) → IsGatheringOf s g
    → IsGatheringOf s (gathering_of g id) × IsOwnedBy (gathering_of g id) id × ((gathering_of g id).room ≡ g.room)
own_so s g id h = go (is_same_process g.owner (Some id)) refl
  where
    mine : (o : Option ProcId) → is_same_process o (Some id) ≡ true → (x : ProcId) → o ≡ Some x → x ≡ id
    mine None e x f = cc
    mine (Some y) e x f = sym (same_Some y x f) ∙ same_id_is y id e

    go : (q : Bool) → is_same_process g.owner (Some id) ≡ q
        → IsGatheringOf s (if q then g else record g { owner = Some id; bytes = [] })
        × IsOwnedBy (if q then g else record g { owner = Some id; bytes = [] }) id
        × ((if q then g else record g { owner = Some id; bytes = [] }).room ≡ g.room)
    go true e = (h, (λ x f. mine g.owner e x f), refl)
    go false e = (
      record { fits = omega arith; small = h.small; sent = λ o p j a b l. absurd (omega (arith, l)) },
      (λ x f. sym (same_Some id x f)),
      refl,
    )

put_so : (s : ScenarioValue) (g : Gathering) (id : ProcId) (place byte : ℕ) → IsOwnedBy g id → IsSentAt s id place byte
    → IsGatheringOf s g → IsGatheringOf s (gathering_with g place byte) × ((gathering_with g place byte).room ≡ g.room)
put_so s g id place byte mine is h =
    go (nat_lt place (length g.bytes)) refl (place == length g.bytes) refl (nat_lt place g.room) refl
  where
    here : (o : ProcId) (p : Process) → g.owner ≡ Some o → process_of s o ≡ Some p → place < 2 ^ 64 - 1
        → byte ≡ get_or p.sent place 0
    here o p e f l = is p ((λ i. process_of s (sym (mine o e) i)) ∙ f) l

    go : (a : Bool) → nat_lt place (length g.bytes) ≡ a
        → (b : Bool) → (place == length g.bytes) ≡ b → (c : Bool) → nat_lt place g.room ≡ c
        → IsGatheringOf s (if a then record g { bytes = slice_set g.bytes place byte }
        else if b && c then record g { bytes = g.bytes ++ byte ∷ [] } else g)
        × ((if a then record g { bytes = slice_set g.bytes place byte }
        else if b && c then record g { bytes = g.bytes ++ byte ∷ [] } else g).room ≡ g.room)
    go true e b f c k =
        let lt : place < length g.bytes = ltb-true place (length g.bytes) e in
        let long : length (set g.bytes place byte) ≡ length g.bytes = length-set g.bytes place byte in
        let fits = h.fits in
        let small = h.small in (
          record {
            fits = omega (arith, long, fits);
            small = h.small;
            sent = λ o p j x y l. byte_put g.bytes place j byte lt
                ∙ each o p j x y (omega (arith, long, l)) (omega (arith, lt, fits, small)) (place == j) refl;
          },
          refl,
        )
      where
        each : (o : ProcId) (p : Process) (j : ℕ) → g.owner ≡ Some o → process_of s o ≡ Some p
            → j < length g.bytes → place < 2 ^ 64 - 1 → (q : Bool) → (place == j) ≡ q
            → (if place == j then byte else get_or g.bytes j 0) ≡ get_or p.sent j 0
        each o p j x y l m true z = (λ i. if z i then byte else get_or g.bytes j 0) ∙ here o p x y m
            ∙ (λ i. get_or p.sent (eqb-true place j z i) 0)
        each o p j x y l m false z = (λ i. if z i then byte else get_or g.bytes j 0) ∙ h.sent o p j x y l
    go false e true f true k =
        let lt : place < g.room = ltb-true place g.room k in
        let end : place ≡ length g.bytes = eqb-true place (length g.bytes) f in
        let long : length (g.bytes ++ byte ∷ []) ≡ length g.bytes + 1 = length-append g.bytes (byte ∷ []) in
        let small = h.small in (
          record {
            fits = omega (arith, long, lt, end);
            small = h.small;
            sent = λ o p j x y l. each o p j x y (omega (arith, long, l)) (omega (arith, lt, small)) end
                (length g.bytes == j) refl;
          },
          refl,
        )
      where
        each : (o : ProcId) (p : Process) (j : ℕ) → g.owner ≡ Some o → process_of s o ≡ Some p → j < length g.bytes + 1
            → place < 2 ^ 64 - 1 → place ≡ length g.bytes → (q : Bool) → (length g.bytes == j) ≡ q
            → get_or (g.bytes ++ byte ∷ []) j 0 ≡ get_or p.sent j 0
        each o p j x y l m end true z =
            let at : length g.bytes ≡ j = eqb-true (length g.bytes) j z in
            (λ i. get_or (g.bytes ++ byte ∷ []) (sym at i) 0) ∙ added_last g.bytes byte ∙ here o p x y m
            ∙ (λ i. get_or p.sent ((end ∙ at) i) 0)
        each o p j x y l m end false z =
            let other : length g.bytes ≢ j = eqb-false (length g.bytes) j z in
            let lt : j < length g.bytes = omega (arith, l, other) in
            added_before g.bytes j byte lt ∙ h.sent o p j x y lt
    go false e true f false k = (h, refl)
    go false e false f c k = (h, refl)

units_so : (s : ScenarioValue) (v : GatheredValue) (unit : ℕ) (id : ProcId) (place byte : ℕ) → IsSentAt s id place byte
    → IsGatheredOf s v → IsGatheredOf s (record v { units = gathered_with v.units unit id place byte })
units_so s v unit id place byte is h = record {
  eight = length-set v.units unit x ∙ h.eight;
  rooms = λ n l. (λ i. (unit_put v.units unit n x (within n l) i).room) ∙ (by n l (unit == n) refl).1;
  each = λ n l. subst (λ (g : Gathering). IsGatheringOf s g) (sym (unit_put v.units unit n x (within n l)))
      (by n l (unit == n) refl).0;
}
  where
    x : Gathering
    x = gathering_with (gathering_of (gathering_at v.units unit) id) place byte

    within : (n : ℕ) → n < 8 → n < length v.units
    within n l = let e = h.eight in omega (arith, e, l)

    by : (n : ℕ) → n < 8 → (q : Bool) → (unit == n) ≡ q
        → IsGatheringOf s (if unit == n then x else gathering_at v.units n)
        × ((if unit == n then x else gathering_at v.units n).room ≡ unit_room s v.dev n)
    by n l true e =
        let here : unit ≡ n = eqb-true unit n e in
        let own = own_so s (gathering_at v.units n) id (h.each n l) in
        let put = put_so s (gathering_of (gathering_at v.units n) id) id place byte own.1 is own.0 in
        subst (λ (z : Bool). IsGatheringOf s (if z then x else gathering_at v.units n)
        × ((if z then x else gathering_at v.units n).room ≡ unit_room s v.dev n)) (sym e)
        (subst (λ (m : ℕ). IsGatheringOf s (gathering_with (gathering_of (gathering_at v.units m) id) place byte)
        × ((gathering_with (gathering_of (gathering_at v.units m) id) place byte).room ≡ unit_room s v.dev n))
        (sym here) (put.0, put.1 ∙ own.2 ∙ h.rooms n l))
    by n l false e = subst (λ (z : Bool). IsGatheringOf s (if z then x else gathering_at v.units n)
        × ((if z then x else gathering_at v.units n).room ≡ unit_room s v.dev n)) (sym e) (h.each n l, h.rooms n l)

-- ---- a byte of DATA OUT crosses to this target

in_data_out : (s : ScenarioValue) (k : RunState) (p : Process) (byte : ℕ) (phase : Phase) → is_data_out phase ≡ true
    → is_true_crossing s k (Some p) byte phase ≡ true → is_sent_at s k p (task_of s k) byte ≡ true
in_data_out s k p byte phases.DataOut e h = h
in_data_out s k p byte phases.DataIn e h = cc
in_data_out s k p byte phases.Command e h = cc
in_data_out s k p byte phases.Status e h = cc
in_data_out s k p byte phases.MessageOut e h = cc
in_data_out s k p byte phases.MessageIn e h = cc

-- A place below the last u64 is that of the run.
below_last : (n place : ℕ) → place ≡ min n (2 ^ 64 - 1) → place < 2 ^ 64 - 1 → n ≡ place
below_last n place e l = omega (arith, e, l)

sent_there : (s : ScenarioValue) (k : RunState) (p : Process) (t : Option Task) (dev place byte : ℕ) → p.target ≡ dev
    → place ≡ place_in_run (policy_of (target_def_of s dev)) t k.handshakes.answers → t ≢ None → place < 2 ^ 64 - 1
    → is_sent_at s k p t byte ≡ true → byte ≡ get_or p.sent place 0
sent_there s k p None dev place byte e at some l h = absurd (some refl)
sent_there s k p (Some t) dev place byte e at some l h = eqb-true byte
    (get_or p.sent ((run_at (policy_of (target_def_of s p.target)) t t.runs).start + k.handshakes.answers) 0) h
    ∙ (λ i. get_or p.sent ((run_at (policy_of (target_def_of s (e i))) t t.runs).start + k.handshakes.answers) 0)
    ∙ (λ i. get_or p.sent
    (below_last ((run_at (policy_of (target_def_of s dev)) t t.runs).start + k.handshakes.answers) place at l i) 0)

-- What is served is this process of the scenario, which is one of this target.
served_so : (s : ScenarioValue) (k : RunState) (served : Option Item) (id : ProcId) (p : Process) → k.served ≡ served
    → Some id ≡ id_of served → process_of s id ≡ Some p → process_served s k ≡ Some p
served_so s k None id p e f g = (let bad : None ≡ Some id = sym f in cc)
served_so s k (Some (abort n)) id p e f g = (let bad : None ≡ Some id = sym f in cc)
served_so s k (Some (process x)) id p e f g =
    (λ i. process_item s (e i)) ∙ (λ i. process_of s (same_Some x id (sym f) i)) ∙ g

crossing_so : (s : ScenarioValue) (k : RunState) (row : Row) (p : Process)
    → is_faithful s k (row_reading k.story.bus_state row) ≡ true → process_served s k ≡ Some p
    → (row_reading k.story.bus_state row).change.after.rst ≡ false
    → (row_reading k.story.bus_state row).crosses ≡ true → is_data_out (phase_of (bus_of k)) ≡ true
    → is_sent_at s k p (task_of s k) ((row_reading k.story.bus_state row).change.after.data_bits % 256) ≡ true
crossing_so s k row p f served calm crosses phase =
    in_data_out s k p (d.change.after.data_bits % 256) (phase_of (bus_of k)) phase (subst
    (λ (z : Option Process). is_true_crossing s k z (d.change.after.data_bits % 256) (phase_of (bus_of k)) ≡ true)
    served (subst (λ (z : Bool).
    (if z then is_true_crossing s k (process_served s k) (d.change.after.data_bits % 256) (phase_of (bus_of k))
    else other) ≡ true) crosses (subst (λ (z : Bool). (z || is_true_hearing s k d) ≡ true) calm (and_parts
    (is_true_beginning s k k.story.bus_state.connection d.next) (d.change.after.rst || is_true_hearing s k d) f).1)))
  where
    d : RowReading
    d = row_reading k.story.bus_state row

    other : Bool
    other =
        if changes_phase d.change && k.exchange.begun
        then is_known_process k (phase_of (bus_of k)) && is_true_leaving s k (process_served s k) (phase_of (bus_of k))
        else true

pub no_task : (s : ScenarioValue) (k : RunState) (p : Process) → process_served s k ≡ Some p → task_of s k ≢ None
no_task s k p e f = none-some (task_with (array_of s k) (progress_in k.progress p.id) p (carried_here k p.id)
    (reply_now (array_of s k) p) (Play.reply_in (array_of s k).replies p.id)) (sym f ∙ (λ i. task_if s k (e i)))

pub gathered_goes_on : (s : ScenarioValue) (rows : List Row) (row : Row) (v : GatheredValue)
    (known : Option ProcId) (unit place : ℕ) (w : Hearing) (before : Option Connection)
    → ((before : List Row) → AreOfDevices before → IsPlain s before (run_state s before))
    → hearing_of (run_state s rows) row (row_reading (run_state s rows).story.bus_state row) ≡ hearing rows row
    → AreOfDevices (row ∷ rows) → w ≡ hearing rows row → before ≡ connection rows
    → faithful s (row ∷ rows) ≡ true → IsSentSo s rows v.dev w known place → IsGatheredOf s v
    → IsGatheredOf s (gathered_seen v known unit place w before)
gathered_goes_on s rows row v None unit place w before plain heard d told b f says h = h
gathered_goes_on s rows row v (Some id) unit place w None plain heard d told b f says h = h
gathered_goes_on s rows row v (Some id) unit place w (Some n) plain heard d told b f says h =
    go (n.target == v.dev) refl (brings_byte w) refl
  where
    k : RunState
    k = run_state s rows

    r : RowReading
    r = row_reading k.story.bus_state row

    same : w ≡ hearing_of k row r
    same = told ∙ sym heard

    two : (faithful s rows ≡ true) × (is_faithful s k r ≡ true)
    two = and_parts (faithful s rows) (is_faithful s k r) f

    ends : has_ends (process_served s k) n ≡ true
    ends = ends_are s rows plain d.1 two.0 n (sym b)

    is : (n.target == v.dev) ≡ true → brings_byte w ≡ true → IsSentAt s id place (w.change.after.data_bits % 256)
    is own brings p e l =
        let so = says n (record { stands = sym b; own = own }) brings in
        let served : process_served s k ≡ Some p = served_so s k k.served id p refl so.0 e in
        let at : p.target ≡ v.dev = eqb-true p.target n.target
        (and_parts (p.initiator == n.initiator) (p.target == n.target) ((λ i. has_ends (sym served i) n) ∙ ends)).1
        ∙ eqb-true n.target v.dev own in
        let last = and_parts (w.crosses && is_data_out (phase_of w.change.before)) (not w.change.after.rst) brings in
        let two_more = and_parts w.crosses (is_data_out (phase_of w.change.before)) last.0 in
        (λ i. (same i).change.after.data_bits % 256)
        ∙ sent_there s k p (task_of s k) v.dev place (r.change.after.data_bits % 256) at so.1 (no_task s k p served) l
        (crossing_so s k row p two.1 served ((λ i. (sym same i).change.after.rst) ∙ calm w.change.after.rst last.1)
        ((λ i. (sym same i).crosses) ∙ two_more.0)
        ((λ i. is_data_out (phase_of (sym same i).change.before)) ∙ two_more.1))
      where
        calm : (q : Bool) → not q ≡ true → q ≡ false
        calm true z = cc
        calm false z = refl

    go : (o : Bool) → (n.target == v.dev) ≡ o → (q : Bool) → brings_byte w ≡ q
        → IsGatheredOf s (if n.target == v.dev && brings_byte w
        then record v { units = gathered_with v.units unit id place (w.change.after.data_bits % 256) } else v)
    go true e true g = subst (λ (z : Bool). IsGatheredOf s (if z && brings_byte w
        then record v { units = gathered_with v.units unit id place (w.change.after.data_bits % 256) } else v))
        (sym e) (subst (λ (z : Bool). IsGatheredOf s
        (if z then record v { units = gathered_with v.units unit id place (w.change.after.data_bits % 256) } else v))
        (sym g) (units_so s v unit id place (w.change.after.data_bits % 256) (is e g) h))
    go true e false g = subst (λ (z : Bool). IsGatheredOf s (if z && brings_byte w
        then record v { units = gathered_with v.units unit id place (w.change.after.data_bits % 256) } else v))
        (sym e) (subst (λ (z : Bool). IsGatheredOf s
        (if z then record v { units = gathered_with v.units unit id place (w.change.after.data_bits % 256) } else v))
        (sym g) h)
    go false e q g = subst (λ (z : Bool). IsGatheredOf s (if z && brings_byte w
        then record v { units = gathered_with v.units unit id place (w.change.after.data_bits % 256) } else v))
        (sym e) h

pub same_target :
    (v : GatheredValue) (known : Option ProcId) (unit place : ℕ) (w : Hearing) (before : Option Connection)
    → (gathered_seen v known unit place w before).dev ≡ v.dev
same_target v None unit place w before = refl
same_target v (Some id) unit place w None = refl
same_target v (Some id) unit place w (Some n) = go (n.target == v.dev && brings_byte w)
  where
    go : (q : Bool)
        → (if q then record v { units = gathered_with v.units unit id place (w.change.after.data_bits % 256) }
        else v).dev ≡ v.dev
    go true = refl
    go false = refl

-- ---- before any row

few_room : (s : ScenarioValue) (dev unit : ℕ) (commands : List CmdDef) → most_room s dev unit commands ≤ 0xffffffff
few_room s dev unit [] = omega arith
few_room s dev unit (c ∷ commands) =
    let one = small (c.target == dev && c.unit == unit) in
    let more = few_room s dev unit commands in
    omega (arith, one, more)
  where
    small : (q : Bool) → (if q then min (sent_of s c) (2 ^ 32 - 1) else 0) ≤ 0xffffffff
    small true = omega arith
    small false = omega arith

pub gathered_starts : (s : ScenarioValue) (dev : ℕ) → IsGatheredOf s (nothing_gathered s dev)
gathered_starts s dev = record { eight = refl; rooms = λ n l. room n l; each = λ n l. empty n l }
  where
    fresh : (n : ℕ) → IsGatheringOf s (empty_unit s dev n)
    fresh n = record {
      fits = omega arith;
      small = few_room s dev n s.commands;
      sent = λ o p j a b l. absurd (omega (arith, l));
    }

    room : (n : ℕ) → n < 8 → (gathering_at (nothing_gathered s dev).units n).room ≡ unit_room s dev n
    room zero l = refl
    room (suc zero) l = refl
    room (suc (suc zero)) l = refl
    room (suc (suc (suc zero))) l = refl
    room (suc (suc (suc (suc zero)))) l = refl
    room (suc (suc (suc (suc (suc zero))))) l = refl
    room (suc (suc (suc (suc (suc (suc zero)))))) l = refl
    room (suc (suc (suc (suc (suc (suc (suc zero))))))) l = refl
    room (suc (suc (suc (suc (suc (suc (suc (suc t)))))))) l = absurd (omega arith)

    empty : (n : ℕ) → n < 8 → IsGatheringOf s (gathering_at (nothing_gathered s dev).units n)
    empty zero l = fresh 0
    empty (suc zero) l = fresh 1
    empty (suc (suc zero)) l = fresh 2
    empty (suc (suc (suc zero))) l = fresh 3
    empty (suc (suc (suc (suc zero)))) l = fresh 4
    empty (suc (suc (suc (suc (suc zero))))) l = fresh 5
    empty (suc (suc (suc (suc (suc (suc zero)))))) l = fresh 6
    empty (suc (suc (suc (suc (suc (suc (suc zero))))))) l = fresh 7
    empty (suc (suc (suc (suc (suc (suc (suc (suc t)))))))) l = absurd (omega arith)

-- ---- what it tells

take_same : (bytes sent : List ℕ) → length bytes ≤ length sent
    → ((j : ℕ) → j < length bytes → get_or bytes j 0 ≡ get_or sent j 0) → bytes ≡ take (length bytes) sent
take_same [] sent l h = refl
take_same (b ∷ bytes) [] l h = absurd (omega (arith, l))
take_same (b ∷ bytes) (x ∷ sent) l h =
    let first : b ≡ x = h 0 (omega arith) in
    let more : bytes ≡ take (length bytes) sent = take_same bytes sent
    (omega (arith, l)) (λ j lt. h (suc j) (omega (arith, lt))) in
    λ i. first i ∷ more i

pub bytes_sent : (s : ScenarioValue) (g : Gathering) (id : ProcId) (count : ℕ) (p : Process) (bytes : List ℕ)
    → IsGatheringOf s g → process_of s id ≡ Some p → bytes ≡ bytes_of g id count → length bytes ≤ length p.sent
    → bytes ≡ take (length bytes) p.sent
bytes_sent s g id count p bytes h e is l = go (is_same_process g.owner (Some id)) refl
  where
    mine : (o : Option ProcId) → is_same_process o (Some id) ≡ true → o ≡ Some id
    mine None f = cc
    mine (Some y) f = λ i. Some (same_id_is y id f i)

    into : (xs : List ℕ) → bytes ≡ xs → (length xs ≤ length p.sent → xs ≡ take (length xs) p.sent)
        → bytes ≡ take (length bytes) p.sent
    into xs f x = subst (λ (z : List ℕ). z ≡ take (length z) p.sent) (sym f)
        (x (subst (λ (z : List ℕ). length z ≤ length p.sent) f l))

    go : (q : Bool) → is_same_process g.owner (Some id) ≡ q → bytes ≡ take (length bytes) p.sent
    go false f = into [] (is ∙ (λ i. if f i then take count g.bytes else [])) (λ x. refl)
    go true f =
        into (take count g.bytes) (is ∙ (λ i. if f i then take count g.bytes else []))
        (λ x.
        take_same (take count g.bytes) p.sent x
        (λ j lt.
        get_or-take count g.bytes j 0 (let k = length-take count g.bytes in omega (arith, lt, k))
        ∙ h.sent id p j (mine g.owner f) e (let k = length-take count g.bytes in omega (arith, lt, k))))
