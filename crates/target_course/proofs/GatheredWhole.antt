-- All data of a write come to a target, from the first byte on.
use Rattle.std.proofs.Common.{ℕ, zero, suc, ◌≡◌, ◌≢◌, ◌+◌, ◌*◌, ◌<◌, ◌≤◌, Bool, true, false, List, [], ◌∷◌, ◌++◌, refl}
use Rattle.std.proofs.Common.{sym, subst, arith, length, set, Option, Some, None}
use Rattle.std.specs.Prelude.{if◌then◌else◌, min, max, ◌^◌, ◌-◌, ◌&&◌, ◌==◌, nat_lt, slice_set}
use Rattle.std.proofs.lemmas.Bool.{eqb-true, eqb-false, eq-eqb, ltb-true, ltb-false}
use Rattle.std.proofs.lemmas.Bool.Decides.{nat_tests}
use Rattle.std.proofs.lemmas.List.{length-set, length-append}
use Rattle.std.proofs.lemmas.Option.{same_Some}
use Rattle.std.proofs.Math.Nat.{add-mul}
use Rattle.bus_base.specs.declared.ProcId.{ProcId}
use Rattle.cdb_codec.specs.Cdb.{command_of}
use Rattle.scenario.specs.Needs.{need_of, sent_of, is_write, sent_count}
use Rattle.scenario.specs.Value.{ScenarioValue}
use Rattle.scenario.specs.declared.value.CmdDef.{CmdDef}
use Rattle.scenario.specs.declared.value.Policy.{Policy}
use Rattle.scenario.specs.declared.value.Policy.TheVariants as policies
use Rattle.array_model.specs.Processes.{Process, command_at, process_by, process_if, process_of, sense_process}
use Rattle.array_model.specs.Processes.{command_process}
use Rattle.due_model.specs.dialogue_model.specs.DataRuns.{run_in}
use Rattle.target_units.specs.scsi_device.specs.Lines.{IsCommandLine}
use Rattle.target_course.specs.Gathered.{Gathering, gathering_with, write_room, most_room, unit_room}

-- ---- a byte more

pub put_grows : (g : Gathering) (x len place byte : ℕ) → min x len ≤ length g.bytes
    → length g.bytes ≤ g.room → len ≤ g.room → g.room ≤ 0xffffffff → place ≡ min x (2 ^ 64 - 1)
    → (length g.bytes ≤ length (gathering_with g place byte).bytes)
    × (min (x + 1) len ≤ length (gathering_with g place byte).bytes)
put_grows g x len place byte h fits room small at =
    go (nat_lt place (length g.bytes)) refl (place == length g.bytes) refl (nat_lt place g.room) refl
  where
    go : (a : Bool) → nat_lt place (length g.bytes) ≡ a
        → (b : Bool) → (place == length g.bytes) ≡ b → (c : Bool) → nat_lt place g.room ≡ c
        → (length g.bytes ≤ length (if a then record g { bytes = slice_set g.bytes place byte }
        else if b && c then record g { bytes = g.bytes ++ byte ∷ [] } else g).bytes)
        × (min (x + 1) len ≤ length (if a then record g { bytes = slice_set g.bytes place byte }
        else if b && c then record g { bytes = g.bytes ++ byte ∷ [] } else g).bytes)
    go true e b f c k =
        let lt : place < length g.bytes = ltb-true place (length g.bytes) e in
        let long : length (set g.bytes place byte) ≡ length g.bytes = length-set g.bytes place byte in
        (omega (arith, long), omega (arith, long, lt, fits, small, at))
    go false e true f true k =
        let lt : place < g.room = ltb-true place g.room k in
        let end : place ≡ length g.bytes = eqb-true place (length g.bytes) f in
        let long : length (g.bytes ++ byte ∷ []) ≡ length g.bytes + 1 = length-append g.bytes (byte ∷ []) in
        (omega (arith, long), omega (arith, long, lt, end, small, at))
    go false e true f false k =
        let past : g.room ≤ place = ltb-false place g.room k in
        let end : place ≡ length g.bytes = eqb-true place (length g.bytes) f in
        (omega arith, omega (arith, past, end, room))
    go false e false f c k =
        let past : length g.bytes ≤ place = ltb-false place (length g.bytes) e in
        let other : place ≢ length g.bytes = eqb-false place (length g.bytes) f in
        (omega arith, omega (arith, past, other, h, room, small, at))

-- ---- runs

abbrev start_at : Policy → Option ℕ → ℕ → ℕ → ℕ → ℕ
start_at policy blocks size moved n = (run_in policy blocks size moved n).start

abbrev end_at : Policy → Option ℕ → ℕ → ℕ → ℕ → ℕ
end_at policy blocks size moved n = (run_in policy blocks size moved n).end

-- Where a run begins does not depend on how many bytes are moved.
pub same_start : (policy : Policy) (blocks : Option ℕ) (size moved other n : ℕ)
    → start_at policy blocks size moved n ≡ start_at policy blocks size other n
same_start policy None size moved other n = refl
same_start policies.Never (Some blocks) size moved other n = refl
same_start policies.Command (Some blocks) size moved other n = refl
same_start (policies.Burst most) (Some blocks) size moved other n = refl
same_start (policies.NoSave most) (Some blocks) size moved other n = refl

-- The first one begins at the first byte.
pub first_start : (policy : Policy) (blocks : Option ℕ) (size moved : ℕ) → start_at policy blocks size moved 0 ≡ 0
first_start policy None size moved = refl
first_start policies.Never (Some blocks) size moved = refl
first_start policies.Command (Some blocks) size moved = refl
first_start (policies.Burst most) (Some blocks) size moved = omega arith
first_start (policies.NoSave most) (Some blocks) size moved = refl

-- All bytes before the next run have come with the last one of this run.
pub next_start : (policy : Policy) (blocks : Option ℕ) (size len n answers : ℕ)
    → end_at policy blocks size len n - start_at policy blocks size len n ≤ answers
    → min (start_at policy blocks size 0 (n + 1)) len ≤ start_at policy blocks size 0 n + answers
next_start policy None size len n answers h = omega arith
next_start policies.Never (Some blocks) size len n answers h = omega arith
next_start policies.Command (Some blocks) size len n answers h = omega arith
next_start (policies.Burst most) (Some blocks) size len n answers h =
    let e : (n + 1) * (most * size) ≡ n * (most * size) + 1 * (most * size) = add-mul n 1 (most * size) in
    let f : 1 * (most * size) ≡ most * size = omega arith in
    omega (arith, e, f, h)
next_start (policies.NoSave most) (Some blocks) size len n answers h = omega arith

-- ---- the room of a unit is enough for each process of the scenario there

room_is : (x y len : ℕ) → x ≤ len → min x y ≤ len
room_is x y len h = omega arith

enough_of : (s : ScenarioValue) (commands : List CmdDef) (n : ℕ) (c : CmdDef) → command_at commands n ≡ Some c
    → write_room s c.target c.unit c ≤ most_room s c.target c.unit commands
enough_of s [] n c e = cc
enough_of s (d ∷ commands) zero c e = cc
enough_of s (d ∷ commands) (suc zero) c e = subst (λ (x : CmdDef). write_room s c.target c.unit c
    ≤ max (write_room s c.target c.unit x) (most_room s c.target c.unit commands)) (sym (same_Some d c e)) (omega arith)
enough_of s (d ∷ commands) (suc (suc n)) c e = let h = enough_of s commands (suc n) c e in omega (arith, h)

sent_below : (s : ScenarioValue) (c : CmdDef) → sent_of s c ≤ need_of s c
unfolding sent_of
sent_below s c = go (is_write (command_of c.cdb))
  where
    go : (q : Bool) → (if q then need_of s c else 0) ≤ need_of s c
    go true = omega arith
    go false = omega arith

pub room_enough : (s : ScenarioValue) (id : ProcId) (p : Process)
    → ((n : ℕ) (c : CmdDef) → command_at s.commands n ≡ Some c → IsCommandLine s c) → process_of s id ≡ Some p
    → (p.unit < 8) × (length p.sent ≤ unit_room s p.target p.unit)
room_enough s id p lines e = go (command_at s.commands id.command) refl e
  where
    own : (c : CmdDef) → command_at s.commands id.command ≡ Some c → (q : Bool) → id.sense ≡ q
        → ((process_by s id c).unit < 8)
        × (length (process_by s id c).sent ≤ unit_room s (process_by s id c).target (process_by s id c).unit)
    own c f true g = subst (λ (z : Bool). ((if z then sense_process s id c else command_process s id c).unit < 8)
        × (length (if z then sense_process s id c else command_process s id c).sent
        ≤ unit_room s (if z then sense_process s id c else command_process s id c).target
        (if z then sense_process s id c else command_process s id c).unit)) (sym g)
        ((lines id.command c f).unit, omega arith)
    own c f false g =
        let line = lines id.command c f in
        let unit = line.unit in
        let long = line.sent in
        let few = line.need in
        let below = sent_below s c in
        let here : write_room s c.target c.unit c ≡ min (sent_of s c) (2 ^ 32 - 1) =
        λ i. if eq-eqb c.target c.target refl i && eq-eqb c.unit c.unit refl i then sent_count s c else 0 in
        let most = enough_of s s.commands id.command c f in
        subst (λ (z : Bool). ((if z then sense_process s id c else command_process s id c).unit < 8)
        × (length (if z then sense_process s id c else command_process s id c).sent
        ≤ unit_room s (if z then sense_process s id c else command_process s id c).target
        (if z then sense_process s id c else command_process s id c).unit)) (sym g)
        (unit, omega (arith, long, few, below, here, most))

    go : (c : Option CmdDef) → command_at s.commands id.command ≡ c → process_if s id c ≡ Some p
        → (p.unit < 8) × (length p.sent ≤ unit_room s p.target p.unit)
    go None f g = cc
    go (Some c) f g = subst (λ (x : Process). (x.unit < 8) × (length x.sent ≤ unit_room s x.target x.unit))
        (same_Some (process_by s id c) p g) (own c f id.sense refl)
