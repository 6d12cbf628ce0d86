-- What is held of the processes of an initiator goes on as they carry on.
use Rattle.std.proofs.Common.{ℕ, suc, zero, ◌≡◌, ◌≢◌, ◌+◌, ◌<◌, ◌≤◌, Bool, true, false, List, [], ◌∷◌, ◌++◌, ◌∙◌, refl}
use Rattle.std.proofs.Common.{sym, subst, arith, length, length-set, replicate, Some}
use Rattle.std.specs.Prelude.{if◌then◌else◌, ◌&&◌, ◌==◌, min, nat_lt, slice_index, slice_index_or, slice_set}
use Rattle.std.proofs.lemmas.Bool.{eqb-true, eqb-false, ne_eqb}
use Rattle.std.proofs.lemmas.Bool.Decides.{nat_tests}
use Rattle.std.proofs.lemmas.List.{get_or-set_same, get_or-set_other, get_or-replicate, length-append, length-replicate}
use Rattle.bus_base.specs.declared.ProcId.{ProcId}
use Rattle.bus_trace.specs.LineSet.{LineSet}
use Rattle.bus_trace.specs.Phases.{is_data, is_command}
use Rattle.msg_grammar.specs.declared.message.MsgIn.{MsgIn}
use Rattle.msg_grammar.specs.declared.message.MsgIn.TheVariants as to_initiator
use Rattle.cdb_codec.specs.declared.sense.TheConstants.{PARITY_ERROR, INITIATOR_DETECTED_ERROR}
use Rattle.scenario.specs.Value.{ScenarioValue}
use Rattle.array_model.specs.Processes.{command_at, same_bool, same_id}
use Rattle.story_model.specs.Items.{is_of_host}
use Rattle.story_model.specs.CarriedBytes.{CarriedBytes, nothing_carried, bytes_with, area_with, with_restored_pointers}
use Rattle.story_model.specs.CarriedBytes.{carried_after_message, carried_after_byte, carried_after_fault}
use Rattle.story_model.specs.CarriedBytes.{is_status_phase, with_carried, carried_of}
use Rattle.io_pointers.specs.declared.pointers.Area.TheVariants as areas
use Rattle.io_pointers.specs.declared.pointers.Place.{Place}
use Rattle.io_pointers.specs.declared.pointers.Pointers.{Pointers}
use Rattle.io_pointers.specs.Pointers.{pointers_of, with_saved_data, with_restored, advanced}
use Rattle.initiator_books.specs.declared.held.Held.{Held}
use Rattle.initiator_books.specs.declared.held.HeldPair.{HeldPair}
use Rattle.initiator_books.specs.HeldPointers.{capped_place, IsHeldOf, nothing_held, held_restored, held_after_message}
use Rattle.initiator_books.specs.HeldPointers.{advanced_within, status_after, held_after_byte, no_pair, half_of}
use Rattle.initiator_books.specs.HeldPointers.{with_half, held_at, with_held, AreHeldOf}
use Rattle.story_model.proofs.CarriedLists.{carried_with}
use Rattle.array_model.proofs.SeatLookups.{same_id_is}
use Rattle.scenario.specs.declared.value.CmdDef.{CmdDef}

-- ---- a pointer goes on by one byte

min_next : (n c : ℕ) (q : Bool) → nat_lt (min n c) c ≡ q → min (n + 1) c ≡ (if q then min n c + 1 else min n c)
min_next n c true e = let below : min n c < c = grind (arith, nat_tests) in omega (arith, below)
min_next n c false e = let past : c ≤ min n c = grind (arith, nat_tests) in omega (arith, past)

abbrev pointers_at : Place → ℕ → ℕ → ℕ → Pointers
pointers_at saved c d t = record { saved = saved; active = record { command = c; payload = d; status = t } }

at_command : (saved : Place) (c d t : ℕ) → pointers_at saved (min (c + 1) 0xffffffff) d t
    ≡ advanced_within (pointers_at saved (min c 0xffffffff) d t) areas.Command
at_command saved c d t = go (nat_lt (min c 0xffffffff) 0xffffffff) refl
  where
    go : (q : Bool) → nat_lt (min c 0xffffffff) 0xffffffff ≡ q → pointers_at saved (min (c + 1) 0xffffffff) d t
        ≡ (if q then advanced (pointers_at saved (min c 0xffffffff) d t) areas.Command
        else pointers_at saved (min c 0xffffffff) d t)
    go true e = λ i. pointers_at saved (min_next c 0xffffffff true e i) d t
    go false e = λ i. pointers_at saved (min_next c 0xffffffff false e i) d t

at_payload : (saved : Place) (c d t : ℕ) → pointers_at saved c (min (d + 1) 0xffffffff) t
    ≡ advanced_within (pointers_at saved c (min d 0xffffffff) t) areas.Payload
at_payload saved c d t = go (nat_lt (min d 0xffffffff) 0xffffffff) refl
  where
    go : (q : Bool) → nat_lt (min d 0xffffffff) 0xffffffff ≡ q → pointers_at saved c (min (d + 1) 0xffffffff) t
        ≡ (if q then advanced (pointers_at saved c (min d 0xffffffff) t) areas.Payload
        else pointers_at saved c (min d 0xffffffff) t)
    go true e = λ i. pointers_at saved c (min_next d 0xffffffff true e i) t
    go false e = λ i. pointers_at saved c (min_next d 0xffffffff false e i) t

at_status : (saved : Place) (c d t : ℕ) → pointers_at saved c d (min (t + 1) 0xffffffff)
    ≡ advanced_within (pointers_at saved c d (min t 0xffffffff)) areas.Status
at_status saved c d t = go (nat_lt (min t 0xffffffff) 0xffffffff) refl
  where
    go : (q : Bool) → nat_lt (min t 0xffffffff) 0xffffffff ≡ q → pointers_at saved c d (min (t + 1) 0xffffffff)
        ≡ (if q then advanced (pointers_at saved c d (min t 0xffffffff)) areas.Status
        else pointers_at saved c d (min t 0xffffffff))
    go true e = λ i. pointers_at saved c d (min_next t 0xffffffff true e i)
    go false e = λ i. pointers_at saved c d (min_next t 0xffffffff false e i)

-- ---- the first byte of the status

capped_zero : (n : ℕ) → (min n 0xffffffff == 0) ≡ (n == 0)
capped_zero n = grind (arith, nat_tests)

first_byte : (bytes : List ℕ) (at byte : ℕ) → at ≤ length bytes
    → slice_index (bytes_with bytes at byte) 0 ≡ (if at == 0 then byte else slice_index bytes 0)
first_byte [] zero byte l = refl
first_byte [] (suc at) byte l = absurd (omega (arith, l))
first_byte (x ∷ bytes) zero byte l = go (nat_lt zero (length (x ∷ bytes))) refl
  where
    go : (q : Bool) → nat_lt zero (length (x ∷ bytes)) ≡ q
        → slice_index (if q then slice_set (x ∷ bytes) zero byte else (x ∷ bytes) ++ byte ∷ []) 0 ≡ byte
    go true e = refl
    go false e = absurd (grind (arith, nat_tests))
first_byte (x ∷ bytes) (suc at) byte l = go (nat_lt (suc at) (length (x ∷ bytes)))
    ∙ (λ i. if sym (ne_eqb (suc at) 0 (λ z. omega (arith, z))) i then byte else x)
  where
    go : (q : Bool) → slice_index (if q then slice_set (x ∷ bytes) (suc at) byte else (x ∷ bytes) ++ byte ∷ []) 0 ≡ x
    go true = refl
    go false = refl

record IsLonger (bytes : List ℕ) (at byte : ℕ) : Type 0 where
  here : at + 1 ≤ length (bytes_with bytes at byte)
  more : length bytes ≤ length (bytes_with bytes at byte)

longer : (bytes : List ℕ) (at byte : ℕ) → at ≤ length bytes → IsLonger bytes at byte
longer bytes at byte l = record { here = one (nat_lt at (length bytes)) refl; more = all (nat_lt at (length bytes)) }
  where
    one : (q : Bool) → nat_lt at (length bytes) ≡ q
        → at + 1 ≤ length (if q then slice_set bytes at byte else bytes ++ byte ∷ [])
    one true e =
        let below : at < length bytes = grind (arith, nat_tests) in
        let same = length-set bytes at byte in
        omega arith
    one false e = let same = length-append bytes (byte ∷ []) in omega arith

    all : (q : Bool) → length bytes ≤ length (if q then slice_set bytes at byte else bytes ++ byte ∷ [])
    all true = let same = length-set bytes at byte in omega arith
    all false = let same = length-append bytes (byte ∷ []) in omega arith

-- ---- one process

pub held_nothing : (id : ProcId) → IsHeldOf (nothing_carried id) nothing_held
held_nothing id =
    record { pointers_are = refl; status_is = refl; active_within = omega arith; saved_within = omega arith }

pub held_restore : (k : CarriedBytes) (v : Held) → IsHeldOf k v → IsHeldOf (with_restored_pointers k) (held_restored v)
held_restore k v h = record {
  pointers_are = λ i. with_restored (h.pointers_are i);
  status_is = h.status_is;
  active_within = h.saved_within;
  saved_within = h.saved_within;
}

pub held_message : (k : CarriedBytes) (v : Held) (m : MsgIn) → IsHeldOf k v
    → IsHeldOf (carried_after_message k m) (held_after_message v m)
held_message k v to_initiator.SavePointer h = record {
  pointers_are = λ i. with_saved_data (h.pointers_are i);
  status_is = h.status_is;
  active_within = h.active_within;
  saved_within = h.saved_within;
}
held_message k v to_initiator.RestorePointers h = record {
  pointers_are = λ i. with_restored (h.pointers_are i);
  status_is = h.status_is;
  active_within = h.saved_within;
  saved_within = h.saved_within;
}
held_message k v to_initiator.CommandComplete h = h
held_message k v to_initiator.Disconnect h = h
held_message k v (to_initiator.Identify lun) h = h
held_message k v (to_initiator.SimpleTag n) h = h
held_message k v (to_initiator.Sdtr a) h = h
held_message k v to_initiator.Reject h = h

pub held_byte : (k : CarriedBytes) (v : Held) (s : LineSet) (byte : ℕ) → IsHeldOf k v
    → IsHeldOf (carried_after_byte k s byte) (held_after_byte v s byte)
held_byte k v s byte h = go (is_command s) (is_data s) (is_status_phase s)
  where
    saved : Place
    saved = capped_place (pointers_of k).saved

    go : (x y z : Bool)
        → IsHeldOf (if x then record k { command = area_with k.command byte; block = k.block ++ byte ∷ [] }
        else if y then record k { moved = area_with k.moved byte }
        else if z then record k { status = area_with k.status byte } else k)
        (if x then record v { pointers = advanced_within v.pointers areas.Command }
        else if y then record v { pointers = advanced_within v.pointers areas.Payload }
        else if z then (let w : Held = record {
          pointers = advanced_within v.pointers areas.Status;
          status = status_after v byte;
        } in w) else v)
    go true y z = record {
      pointers_are = (λ i. advanced_within (h.pointers_are i) areas.Command)
          ∙ sym (at_command saved k.command.active (min k.moved.active 0xffffffff) (min k.status.active 0xffffffff));
      status_is = h.status_is;
      active_within = h.active_within;
      saved_within = h.saved_within;
    }
    go false true z = record {
      pointers_are = (λ i. advanced_within (h.pointers_are i) areas.Payload)
          ∙ sym (at_payload saved (min k.command.active 0xffffffff) k.moved.active (min k.status.active 0xffffffff));
      status_is = h.status_is;
      active_within = h.active_within;
      saved_within = h.saved_within;
    }
    go false false true =
        let more = longer k.status.bytes k.status.active byte h.active_within in
        let here = more.here in
        let all = more.more in
        let within = h.saved_within in
        record {
          pointers_are = (λ i. advanced_within (h.pointers_are i) areas.Status)
              ∙ sym (at_status saved (min k.command.active 0xffffffff) (min k.moved.active 0xffffffff) k.status.active);
          status_is =
              (λ i. if (h.pointers_are i).active.status == 0 then byte else h.status_is i)
              ∙ (λ i. if capped_zero k.status.active i then byte else slice_index k.status.bytes 0)
              ∙ sym (first_byte k.status.bytes k.status.active byte h.active_within);
          active_within = here;
          saved_within = omega (arith, all, within);
        }
    go false false false = h

pub held_fault : (k : CarriedBytes) (v : Held) (s : LineSet) → IsHeldOf k v → IsHeldOf (carried_after_fault k s) v
held_fault k v s h = go (is_command s) (is_data s)
  where
    go : (x y : Bool) → IsHeldOf (if x then record k { struck = true; failure = Some PARITY_ERROR }
        else if y then record k { failure = Some (if s.io then INITIATOR_DETECTED_ERROR else PARITY_ERROR) } else k) v
    go true y = record {
      pointers_are = h.pointers_are;
      status_is = h.status_is;
      active_within = h.active_within;
      saved_within = h.saved_within;
    }
    go false true = record {
      pointers_are = h.pointers_are;
      status_is = h.status_is;
      active_within = h.active_within;
      saved_within = h.saved_within;
    }
    go false false = h

pub held_path : (j k : CarriedBytes) (u v : Held) → j ≡ k → u ≡ v → IsHeldOf k v → IsHeldOf j u
held_path j k u v p q h =
    subst (λ (x : CarriedBytes). IsHeldOf x u) (sym p) (subst (λ (y : Held). IsHeldOf k y) (sym q) h)

-- ---- of all

pub in_range : (commands : List CmdDef) (n dev : ℕ) → is_of_host (command_at commands n) dev ≡ true
    → n < length commands + 1
in_range [] n dev h = cc
in_range (c ∷ commands) zero dev h = cc
in_range (c ∷ commands) (suc zero) dev h = omega arith
in_range (c ∷ commands) (suc (suc n)) dev h = omega (arith, in_range commands (suc n) dev h)

half_same : (p : HeldPair) (q : Bool) (v : Held) → half_of (with_half p q v) q ≡ v
half_same p true v = refl
half_same p false v = refl

half_other : (p : HeldPair) (q r : Bool) (v : Held) → same_bool q r ≡ false → half_of (with_half p q v) r ≡ half_of p r
half_other p true true v e = cc
half_other p true false v e = refl
half_other p false true v e = refl
half_other p false false v e = cc

held_same : (all : List HeldPair) (id : ProcId) (v : Held) → id.command < length all
    → held_at (with_held all id v) id ≡ v
held_same all id v l =
    let pair : HeldPair = with_half (slice_index_or all id.command no_pair) id.sense v in
    (λ i. half_of (get_or-set_same all id.command pair no_pair l i) id.sense)
    ∙ half_same (slice_index_or all id.command no_pair) id.sense v

held_other : (all : List HeldPair) (id other : ProcId) (v : Held) → id.command < length all → same_id id other ≡ false
    → held_at (with_held all id v) other ≡ held_at all other
held_other all id other v l e = go (id.command == other.command) refl e
  where
    pair : HeldPair
    pair = with_half (slice_index_or all id.command no_pair) id.sense v

    go : (q : Bool) → (id.command == other.command) ≡ q → (q && same_bool id.sense other.sense) ≡ false
        → held_at (with_held all id v) other ≡ held_at all other
    go true c f =
        let same : id.command ≡ other.command = eqb-true id.command other.command c in
        (λ i. half_of
        (slice_index_or (slice_set all id.command (with_half (slice_index_or all id.command no_pair) id.sense v))
        (sym same i) no_pair) other.sense)
        ∙ (λ i. half_of
        (get_or-set_same all id.command (with_half (slice_index_or all id.command no_pair) id.sense v) no_pair l i)
        other.sense) ∙ half_other (slice_index_or all id.command no_pair) id.sense other.sense v f
        ∙ (λ i. half_of (slice_index_or all (same i) no_pair) other.sense)
    go false c f =
        let ne : other.command ≢ id.command = (λ z. eqb-false id.command other.command c (sym z)) in
        λ i. half_of (get_or-set_other all id.command other.command
        (with_half (slice_index_or all id.command no_pair) id.sense v) no_pair ne i) other.sense

-- A process of its own carries on.
pub held_on : (s : ScenarioValue) (dev : ℕ) (carried : List CarriedBytes)
    (all : List HeldPair) (id : ProcId) (k : CarriedBytes) (v : Held)
    → k.id ≡ id → is_of_host (command_at s.commands id.command) dev ≡ true → IsHeldOf k v → AreHeldOf s dev carried all
    → AreHeldOf s dev (with_carried carried k) (with_held all id v)
held_on s dev carried all id k v is mine kept h = record {
  long = length-set all id.command _ ∙ h.long;
  held = λ other own. go other own (same_id k.id other) refl;
}
  where
    within : id.command < length all
    within = let n = in_range s.commands id.command dev mine in let l = h.long in omega (arith, n, l)

    go : (other : ProcId) → is_of_host (command_at s.commands other.command) dev ≡ true
        → (q : Bool) → same_id k.id other ≡ q
        → IsHeldOf (carried_of (with_carried carried k) other) (held_at (with_held all id v) other)
    go other own true e =
        let same : other ≡ id = sym (same_id_is k.id other e) ∙ is in
        held_path _ k _ v
        (carried_with carried k other ∙ (λ i. if e i then k else carried_of carried other))
        ((λ i. held_at (with_held all id v) (same i)) ∙ held_same all id v within)
        kept
    go other own false e =
        held_path _ (carried_of carried other) _ (held_at all other)
        (carried_with carried k other ∙ (λ i. if e i then k else carried_of carried other))
        (held_other all id other v within ((λ i. same_id (sym is i) other) ∙ e))
        (h.held other own)

-- A process of another initiator carries on.
pub held_apart : (s : ScenarioValue) (dev : ℕ) (carried : List CarriedBytes) (all : List HeldPair) (k : CarriedBytes)
    → is_of_host (command_at s.commands k.id.command) dev ≡ false → AreHeldOf s dev carried all
    → AreHeldOf s dev (with_carried carried k) all
held_apart s dev carried all k others h =
    record { long = h.long; held = λ other own. go other own (same_id k.id other) refl }
  where
    go : (other : ProcId) → is_of_host (command_at s.commands other.command) dev ≡ true
        → (q : Bool) → same_id k.id other ≡ q → IsHeldOf (carried_of (with_carried carried k) other) (held_at all other)
    go other own true e = (let bad : true ≡ false = sym own
        ∙ (λ i. is_of_host (command_at s.commands (sym (same_id_is k.id other e) i).command) dev) ∙ others in cc)
    go other own false e =
        held_path _ (carried_of carried other) _ (held_at all other)
        (carried_with carried k other ∙ (λ i. if e i then k else carried_of carried other))
        refl
        (h.held other own)

-- What is marked of a process is not held.
pub held_stays :
    (s : ScenarioValue) (dev : ℕ) (carried : List CarriedBytes) (all : List HeldPair) (id : ProcId) (k : CarriedBytes)
    → k.id ≡ id → ((v : Held) → IsHeldOf (carried_of carried id) v → IsHeldOf k v) → AreHeldOf s dev carried all
    → AreHeldOf s dev (with_carried carried k) all
held_stays s dev carried all id k is stays h =
    record { long = h.long; held = λ other own. go other own (same_id k.id other) refl }
  where
    go : (other : ProcId) → is_of_host (command_at s.commands other.command) dev ≡ true
        → (q : Bool) → same_id k.id other ≡ q → IsHeldOf (carried_of (with_carried carried k) other) (held_at all other)
    go other own true e =
        let same : other ≡ id = sym (same_id_is k.id other e) ∙ is in
        held_path _ k _ (held_at all other) (carried_with carried k other
        ∙ (λ i. if e i then k else carried_of carried other)) refl (stays (held_at all other)
        (subst (λ (x : ProcId). IsHeldOf (carried_of carried x) (held_at all other)) same (h.held other own)))
    go other own false e =
        held_path _ (carried_of carried other) _ (held_at all other)
        (carried_with carried k other ∙ (λ i. if e i then k else carried_of carried other))
        refl
        (h.held other own)

-- Before any row.
pub held_starts : (s : ScenarioValue) (dev : ℕ) → AreHeldOf s dev [] (replicate (length s.commands + 1) no_pair)
held_starts s dev = record {
  long = length-replicate (length s.commands + 1) no_pair;
  held = λ id own. held_path _ (nothing_carried id) _ nothing_held refl ((λ i. half_of
      (get_or-replicate (length s.commands + 1) id.command no_pair no_pair (in_range s.commands id.command dev own) i)
      id.sense) ∙ nothing id.sense) (held_nothing id);
}
  where
    nothing : (q : Bool) → half_of no_pair q ≡ nothing_held
    nothing true = refl
    nothing false = refl
