-- All data of a write have come to a target, row by row.
use Rattle.std.proofs.Common.{ℕ, ◌≡◌, ◌+◌, ◌<◌, ◌≤◌, Bool, true, false, List, [], ◌∷◌, ◌++◌, ◌∙◌, refl, sym, subst}
use Rattle.std.proofs.Common.{arith, length, set, Option, Some, None}
use Rattle.std.specs.Prelude.{if◌then◌else◌, min, not, ◌^◌, ◌-◌, ◌&&◌, ◌||◌, ◌==◌, nat_lt}
use Rattle.std.proofs.lemmas.Bool.{eqb-true, eqb-false, eq-eqb, and_parts, not-true}
use Rattle.std.proofs.lemmas.Bool.Decides.{nat_tests}
use Rattle.std.proofs.lemmas.Option.{same_Some}
use Rattle.std.proofs.lemmas.List.{get_or-set_other}
use Rattle.bus_base.specs.declared.ProcId.{ProcId}
use Rattle.bus_trace.specs.declared.Row.{Row}
use Rattle.bus_trace.specs.declared.connection.Connection.{Connection}
use Rattle.scenario.specs.Value.{ScenarioValue}
use Rattle.array_model.specs.Processes.{Process, process_of}
use Rattle.due_model.specs.dialogue_model.specs.PhaseBytes.{one_if}
use Rattle.due_model.specs.dialogue_model.specs.declared.exchange.Phase.{Phase}
use Rattle.due_model.specs.dialogue_model.specs.declared.exchange.Phase.TheVariants as phases
use Rattle.due_model.specs.LastingState.{progress_in}
use Rattle.due_model.specs.RunState.{RunState}
use Rattle.due_model.specs.RunSteps.{run_state}
use Rattle.target_units.specs.scsi_device.specs.Writes.{Writer, writer_of, is_data_out, writers_with, writers}
use Rattle.target_units.specs.scsi_device.specs.Writes.{is_writer, is_next_byte, start_of_run}
use Rattle.target_course.specs.Gathered.{Gathering, empty_gathering, gathering_of, gathering_with, GatheredValue}
use Rattle.target_course.specs.Gathered.{gathering_at, gathered_with, HasCome, IsRunningIn, IsGatheringOf}
use Rattle.target_course.specs.Gathered.{AreAllGathered}
use Rattle.target_units.specs.Seated.{is_same_process}
use Rattle.target_course.proofs.GatheredRows.{own_so, unit_put}
use Rattle.target_course.proofs.GatheredWhole.{put_grows}
use Rattle.array_model.proofs.SeatLookups.{same_id_is}
use Rattle.array_model.proofs.SeatReplies.{id_self}
use Rattle.target_course.proofs.ProgressRows.{plus_none}

pub is_writer_is : (o : Option ProcId) (id : ProcId) → is_writer o id ≡ true → o ≡ Some id
is_writer_is None id e = cc
is_writer_is (Some w) id e = λ i. Some (same_id_is w id e i)

pub data_out_is : (p : Phase) → is_data_out p ≡ true → p ≡ phases.DataOut
data_out_is phases.DataOut e = refl
data_out_is phases.DataIn e = cc
data_out_is phases.Command e = cc
data_out_is phases.Status e = cc
data_out_is phases.MessageOut e = cc
data_out_is phases.MessageIn e = cc

-- ---- what has come, as the byte of a row is gathered, and before the row counts a run

pub record AreByteGathered (s : ScenarioValue) (rows : List Row) (dev : ℕ) (all : List Writer) (v : GatheredValue)
    (b : Bool) : Type 0 where
  pub owned : (id : ProcId) (p : Process) → process_of s id ≡ Some p → p.target ≡ dev
      → writer_of all p.target p.unit ≡ Some id → (gathering_at v.units p.unit).owner ≡ Some id
  pub made : (id : ProcId) (p : Process) → process_of s id ≡ Some p
      → p.target ≡ dev → writer_of all p.target p.unit ≡ Some id
      → HasCome v p (start_of_run s p (progress_in (run_state s rows).progress id).runs)
  pub present : (p : Process) (n : Connection) → IsRunningIn s rows dev p n
      → (b || nat_lt 0 (run_state s rows).handshakes.answers) ≡ true → writer_of all p.target p.unit ≡ Some p.id
  pub come : (p : Process) (n : Connection) → IsRunningIn s rows dev p n → writer_of all p.target p.unit ≡ Some p.id
      → HasCome v p (start_of_run s p (progress_in (run_state s rows).progress p.id).runs
      + (run_state s rows).handshakes.answers + one_if b)

above : (n : ℕ) → nat_lt 0 n ≡ true → 0 < n
above n h = grind (arith, nat_tests)

pub no_byte : (s : ScenarioValue) (rows : List Row) (v : GatheredValue) → AreAllGathered s rows v
    → AreByteGathered s rows v.dev (writers s rows) v false
no_byte s rows v h = record {
  owned = h.owned;
  made = h.made;
  present = λ p n r b. h.present p n r (above (run_state s rows).handshakes.answers b);
  come = λ p n r w. subst (λ (x : ℕ). HasCome v p x) (plus_none
      (start_of_run s p (progress_in (run_state s rows).progress p.id).runs + (run_state s rows).handshakes.answers))
      (h.come p n r w);
}

owner_put : (g : Gathering) (place byte : ℕ) → (gathering_with g place byte).owner ≡ g.owner
owner_put g place byte = go (nat_lt place (length g.bytes)) (place == length g.bytes && nat_lt place g.room)
  where
    go : (a b : Bool) → (if a then record g { bytes = set g.bytes place byte }
        else if b then record g { bytes = g.bytes ++ byte ∷ [] } else g).owner ≡ g.owner
    go true b = refl
    go false true = refl
    go false false = refl

owner_of : (g : Gathering) (id : ProcId) → (gathering_of g id).owner ≡ Some id
owner_of g id = go (is_same_process g.owner (Some id)) refl
  where
    mine : (o : Option ProcId) → is_same_process o (Some id) ≡ true → o ≡ Some id
    mine None e = cc
    mine (Some y) e = λ i. Some (same_id_is y id e i)

    go : (q : Bool) → is_same_process g.owner (Some id) ≡ q
        → (if q then g else record g { owner = Some id; bytes = [] }).owner ≡ Some id
    go true e = mine g.owner e
    go false e = refl

own_kept : (g : Gathering) (id : ProcId) → g.owner ≡ Some id → gathering_of g id ≡ g
own_kept g id e =
    λ i. if ((λ j. is_same_process (e j) (Some id)) ∙ id_self id) i then g else record g { owner = Some id; bytes = [] }

-- A byte of this process comes to its unit.
pub byte_more :
    (s : ScenarioValue) (rows : List Row) (v : GatheredValue) (p : Process) (n : Connection) (place byte : ℕ)
    → IsRunningIn s rows v.dev p n → p.target ≡ v.dev → process_of s p.id ≡ Some p → length v.units ≡ 8 → p.unit < 8
    → length p.sent ≤ (gathering_at v.units p.unit).room → IsGatheringOf s (gathering_at v.units p.unit) → place
    ≡ min (start_of_run s p (progress_in (run_state s rows).progress p.id).runs + (run_state s rows).handshakes.answers)
    (2 ^ 64 - 1)
    → start_of_run s p 0 ≡ 0 → is_next_byte s (run_state s rows) (writers s rows) p ≡ true → AreAllGathered s rows v
    → AreByteGathered s rows v.dev (writers_with (writers s rows) (Some p))
    (record v { units = gathered_with v.units p.unit p.id place byte }) true
byte_more s rows v p n place byte running at named eight below room is place_is zero_start next h = record {
  owned = λ id q e t w. owned_by id q e t (p.unit == q.unit) refl w;
  made = λ id q e t w. made_by id q e t (p.unit == q.unit) refl w;
  present = λ q m r b. subst (λ (z : Process). writer_of (writers_with (writers s rows) (Some p)) z.target z.unit
      ≡ Some z.id) (one q m r) first;
  come = λ q m r w. subst (λ (z : Process). HasCome (record v { units = gathered_with v.units p.unit p.id place byte })
      z (start_of_run s z (progress_in (run_state s rows).progress z.id).runs + (run_state s rows).handshakes.answers
      + 1)) (one q m r) here;
}
  where
    k : RunState
    k = run_state s rows

    g : Gathering
    g = gathering_at v.units p.unit

    x : ℕ
    x = start_of_run s p (progress_in k.progress p.id).runs + k.handshakes.answers

    one : (q : Process) (m : Connection) → IsRunningIn s rows v.dev q m → p ≡ q
    one q m r = same_Some p q (sym running.served ∙ r.served)

    first : writer_of (writers_with (writers s rows) (Some p)) p.target p.unit ≡ Some p.id
    first = λ i. if eq-eqb p.target p.target refl i && eq-eqb p.unit p.unit refl i then Some p.id
        else writer_of (writers s rows) p.target p.unit

    -- before it
    reached : min x (length p.sent) ≤ length (gathering_of g p.id).bytes
    reached = go (is_writer (writer_of (writers s rows) p.target p.unit) p.id) refl next
      where
        go : (q : Bool) → is_writer (writer_of (writers s rows) p.target p.unit) p.id ≡ q
            → (q || (progress_in k.progress p.id).runs == 0 && k.handshakes.answers == 0) ≡ true
            → min x (length p.sent) ≤ length (gathering_of g p.id).bytes
        go true e f =
            let w : writer_of (writers s rows) p.target p.unit ≡ Some p.id = is_writer_is
            (writer_of (writers s rows) p.target p.unit) p.id e in
            subst (λ (z : Gathering). min x (length p.sent) ≤ length z.bytes)
            (sym (own_kept g p.id (h.owned p.id p named at w))) (h.come p n running w)
        go false e f =
            let two = and_parts ((progress_in k.progress p.id).runs == 0) (k.handshakes.answers == 0) f in
            let none : x ≡ 0 = (λ i. start_of_run s p (eqb-true (progress_in k.progress p.id).runs 0 two.0 i)
            + eqb-true k.handshakes.answers 0 two.1 i) ∙ (λ i. zero_start i + 0) in
            omega (arith, none)

    grown : (length (gathering_of g p.id).bytes ≤ length (gathering_with (gathering_of g p.id) place byte).bytes)
        × (min (x + 1) (length p.sent) ≤ length (gathering_with (gathering_of g p.id) place byte).bytes)
    grown =
        let own = own_so s g p.id is in
        put_grows (gathering_of g p.id) x (length p.sent) place byte reached own.0.fits
        (let e = own.2 in omega (arith, e, room)) own.0.small place_is

    same_unit : (m : ℕ) → m < 8 → gathering_at (gathered_with v.units p.unit p.id place byte) m
        ≡ (if p.unit == m then gathering_with (gathering_of g p.id) place byte else gathering_at v.units m)
    same_unit m l =
        unit_put v.units p.unit m (gathering_with (gathering_of g p.id) place byte) (omega (arith, l, eight))

    there : gathering_at (gathered_with v.units p.unit p.id place byte) p.unit
        ≡ gathering_with (gathering_of g p.id) place byte
    there = same_unit p.unit below
        ∙ (λ i. if eq-eqb p.unit p.unit refl i then gathering_with (gathering_of g p.id) place byte
        else gathering_at v.units p.unit)

    here : HasCome (record v { units = gathered_with v.units p.unit p.id place byte }) p (x + 1)
    here = subst (λ (z : Gathering). min (x + 1) (length p.sent) ≤ length z.bytes) (sym there) grown.1

    writer_is : (q : Process) → q.target ≡ v.dev → (c : Bool) → (p.unit == q.unit) ≡ c
        → writer_of (writers_with (writers s rows) (Some p)) q.target q.unit
        ≡ (if c then Some p.id else writer_of (writers s rows) q.target q.unit)
    writer_is q t c e = λ i. if eq-eqb p.target q.target (at ∙ sym t) i && e i then Some p.id
        else writer_of (writers s rows) q.target q.unit

    -- the unit of another
    elsewhere : (q : Process) → (p.unit == q.unit) ≡ false
        → gathering_at (gathered_with v.units p.unit p.id place byte) q.unit ≡ gathering_at v.units q.unit
    elsewhere q e = get_or-set_other v.units p.unit q.unit (gathering_with (gathering_of g p.id) place byte)
        (empty_gathering 0) (λ z. eqb-false p.unit q.unit e (sym z))

    owned_by : (id : ProcId) (q : Process) → process_of s id ≡ Some q → q.target ≡ v.dev → (c : Bool)
        → (p.unit == q.unit) ≡ c → writer_of (writers_with (writers s rows) (Some p)) q.target q.unit ≡ Some id
        → (gathering_at (gathered_with v.units p.unit p.id place byte) q.unit).owner ≡ Some id
    owned_by id q e t true f w =
        (λ i. (gathering_at (gathered_with v.units p.unit p.id place byte) (sym (eqb-true p.unit q.unit f) i)).owner)
        ∙ (λ i. (there i).owner)
        ∙ owner_put (gathering_of g p.id) place byte ∙ owner_of g p.id ∙ sym (writer_is q t true f) ∙ w
    owned_by id q e t false f w = (λ i. (elsewhere q f i).owner) ∙ h.owned id q e t (sym (writer_is q t false f) ∙ w)

    made_by : (id : ProcId) (q : Process) → process_of s id ≡ Some q → q.target ≡ v.dev → (c : Bool)
        → (p.unit == q.unit) ≡ c → writer_of (writers_with (writers s rows) (Some p)) q.target q.unit ≡ Some id
        → HasCome (record v { units = gathered_with v.units p.unit p.id place byte }) q
        (start_of_run s q (progress_in k.progress id).runs)
    made_by id q e t true f w =
        let ids : p.id ≡ id = same_Some p.id id (sym (writer_is q t true f) ∙ w) in
        let is_one : p ≡ q = same_Some p q (sym named ∙ (λ i. process_of s (ids i)) ∙ e) in
        subst (λ (z : ProcId). HasCome (record v { units = gathered_with v.units p.unit p.id place byte }) q
        (start_of_run s q (progress_in k.progress z).runs)) ids (subst (λ (z : Process). HasCome (record v {
          units = gathered_with v.units p.unit p.id place byte;
        }) z (start_of_run s z (progress_in k.progress p.id).runs)) is_one
        (less (start_of_run s p (progress_in k.progress p.id).runs) (x + 1) (length p.sent)
        (length (gathering_at (gathered_with v.units p.unit p.id place byte) p.unit).bytes) (omega arith) here))
      where
        less : (a b len most : ℕ) → a ≤ b → min b len ≤ most → min a len ≤ most
        less a b len most l m = omega arith
    made_by id q e t false f w = subst
        (λ (z : Gathering). min (start_of_run s q (progress_in k.progress id).runs) (length q.sent) ≤ length z.bytes)
        (sym (elsewhere q f)) (h.made id q e t (sym (writer_is q t false f) ∙ w))
