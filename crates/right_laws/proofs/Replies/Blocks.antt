-- Each block of each unit of the plain disk array has as many bytes as the unit's blocks have, after any history (7.3,
-- 7.5).
use Rattle.right_laws.proofs
use proofs.Names.{ℕ, ◌≡◌, ◌⊎◌, inl, inr, cond, ◌-◌, ◌*◌, Bool, true, false, not, ◌&&◌, ◌||◌, ◌==◌, ◌∙◌, List, [], ◌∷◌}
use proofs.Names.{length, Option, Some, None, Ok, Err, Result, refl, sym, ap, subst, eqb-true, and_parts, same_Some}
use proofs.Names.{AllByRecursion, find, if◌then◌else◌, is_none, is_some, wrong, wrong', AbortKind, Event, ProcId}
use proofs.Names.{writes_alike, command_of, tape_command_of, CdbFault, GOOD, CHECK_CONDITION, TapeCommand, plain_unit}
use proofs.Names.{has_target, unit_of, is_tape, tape_of, tape_unit, units_of, is_write, ScenarioValue, Obeys, FillDef}
use proofs.Names.{HostDef, TapeDef, UnitDef, of_all, on_tape, whole_kept, HasWholeReel, IsWholeReel, reel_whole}
use proofs.Names.{choice_keeps, abort_law, device_law, end_law, other_law, reset_law, run_law, history_sound, is_own}
use proofs.Names.{filled_reel, AreWhole, blank_whole, block_whole, array_after, array_step, Contents, filled_contents}
use proofs.Names.{with_block, blank_contents, loaded_contents, loaded_objects, no_contents, starting_contents}
use proofs.Names.{CommandContext, Execution, Reply, check_condition, execution, is_request_sense, good, tape_in, choice}
use proofs.Names.{Process, process_of, same_id, Reel, Seat, contents_of, context_of, seat_of, settled_seat}
use proofs.Names.{settled_seat_if, AllOwnUnits, HasSeats, IsOwnRunning, IsSound, is_of_unit, running_if, step, Tape}
use proofs.Names.{end_of_medium_detected, has_room, write_reply, blocks_taken, Array, Nexus, RunningProcess, UnitState}
use proofs.Names.{guest_at, has_no_current, is_held, settled_array, starting_array, starting_unit, starting_units}
use proofs.Names.{unit_state_at, units_after_choice, with_current, blocks_written, taken_now, taken_with, obeys_fits}
use proofs.Names.{seats_are, FitsBus, IsTapeLine, lines_always, sends, kinds_always, line_filled, start_settled}
use proofs.Names.{AreFilled, AreOfLines, IsOfLine, AreOfKinds, process_id, id_is, IsOf, none_some, zero_times, by_bool}
use proofs.{Names.{by_option, running_id, writer_plain, none_sent}, Given.Replies.{own_guests, own_units}}
use proofs.{Ran.Open.{running_has}, Replies.{Facts.{guest_there}, Same.{SameContext, accept_at, fail_at, place_of}}}
use proofs.Replies.{Same.{refuse_at}, Targeted.{unit_targeted}}
use Rattle.due_model.specs.array_model.specs.Reels as reels
use Rattle.due_model.specs.array_model.specs.Seats
use Rattle.due_model.specs.array_model.specs.Steps

-- ---- contents

filled_whole : (u : UnitDef) (fills : List FillDef) (c : Contents) → AreFilled u fills → c.size ≡ u.size → AreWhole c
    → AreWhole (filled_contents u fills c)
filled_whole u [] c a e h = h
filled_whole u (f ∷ fills) c a e h =
    go (f.target == u.target && f.unit == u.unit) refl (λ d z w. filled_whole u fills d a.1 z w)
  where
    go : (q : Bool) → (f.target == u.target && f.unit == u.unit) ≡ q
        → ((d : Contents) → d.size ≡ u.size → AreWhole d → AreWhole (filled_contents u fills d))
        → AreWhole (filled_contents u fills (if q then with_block c f.lba f.bytes else c))
    go true z rest = rest (with_block c f.lba f.bytes) e (block_whole c f.lba f.bytes ((a.0 z).1 ∙ sym e) h)
    go false z rest = rest c e h

-- ---- a command

-- Each block of a disk, and each one on a tape, has as many bytes as the unit's blocks have.
pub record HasWholeBlocks (c : Contents) : Type 0 where
  pub blocks : AreWhole c
  pub reel : HasWholeReel c

none_whole : HasWholeBlocks no_contents
none_whole = record { blocks = λ lba. refl; reel = tt }

-- ---- a write of a tape that ends GOOD takes all its blocks

tape_writes : (cdb : List ℕ) (n : ℕ) → tape_command_of cdb ≡ Ok (TapeCommand.Write n) → is_write (command_of cdb) ≡ true
tape_writes cdb n is = writes_alike cdb (TapeCommand.Write n) is

same_command : (c d : TapeCommand) → (let r : Result TapeCommand CdbFault = Ok c in r) ≡ Ok d → c ≡ d
same_command c d e = ap or_c e
  where
    or_c : Result TapeCommand CdbFault → TapeCommand
    or_c (Ok x) = x
    or_c (Err fault) = c

bad : {A : Type 0} → CHECK_CONDITION ≡ GOOD → A
bad e = wrong (sym (ap (λ (x : ℕ). x == GOOD) e))

room_taken : (t : Tape) (n : ℕ) → (write_reply t n).status ≡ GOOD → (if has_room t n then n else 0) ≡ n
room_taken t n e = go (n == 0) refl (has_room t n) e
  where
    go : (z : Bool) → (n == 0) ≡ z → (x : Bool)
        → (if z then good [] else if x then good [] else check_condition (end_of_medium_detected n)).status ≡ GOOD
        → (if x then n else 0) ≡ n
    go z f true e = refl
    go true f false e = sym (eqb-true n 0 f)
    go false f false e = bad e

write_taken : (m : CommandContext) (cdb sent : List ℕ) (r : Reel) (n : ℕ) → m.contents.reel ≡ Some r
    → tape_command_of cdb ≡ Ok (TapeCommand.Write n) → (execution m cdb sent).reply.status ≡ GOOD
    → blocks_taken (tape_in m.contents r) (tape_command_of cdb) ≡ n
write_taken m cdb sent r n d is good =
    ap (blocks_taken (tape_in m.contents r)) is ∙ of_all m cdb sent IsTaken (record {
      refused_is = λ sense k e. bad e;
      reported_is = λ sense a e. bad e;
      disk_is = λ c x k g e. none_some r (sym x ∙ d);
      tape_is = λ q c x k e.
          let same : c ≡ TapeCommand.Write n = same_command c (TapeCommand.Write n) (sym k ∙ is) in
          let reel : q ≡ r = same_Some q r (sym x ∙ d) in
          room_taken (tape_in m.contents r) n ((λ i. (on_tape m (sym reel i) (sym same i) sent).reply.status) ∙ e);
    }) good
  where
    IsTaken : Execution → Type 0
    IsTaken x = x.reply.status ≡ GOOD → (if has_room (tape_in m.contents r) n then n else 0) ≡ n

-- ---- what a command writes are whole blocks, where it is carried out

execution_whole : (m : CommandContext) (cdb sent : List ℕ) → HasWholeBlocks m.contents
    → (((execution m cdb sent).reply.status ≡ GOOD) → is_write (command_of cdb) ≡ true
    → length sent ≡ taken_now m.contents cdb) → HasWholeBlocks (execution m cdb sent).contents
execution_whole m cdb sent h f = record {
  blocks = whole_kept m cdb sent h.blocks (λ c n d is w r g good. f good (ap is_write is ∙ w)
      ∙ (λ i. taken_with (d i) m.contents cdb) ∙ ap (λ (x : ℕ). x * m.contents.size)
      (ap (blocks_written m.contents.count) is ∙ (λ i. if g i then (if w i then r i else 0) else 0)));
  reel = reel_whole m cdb sent h.reel (λ r n d is good. f good (tape_writes cdb n is)
      ∙ (λ i. taken_with (d i) m.contents cdb)
      ∙ ap (λ (x : ℕ). x * m.contents.size) (write_taken m cdb sent r n d is good));
}

-- ---- the seats

abbrev pub HasWhole : Array → Type 0
HasWhole a = (t m : ℕ) → HasWholeBlocks (contents_of (unit_state_at a.units t m))

settled_contents : (seat : Seat) → contents_of (settled_seat seat).unit ≡ contents_of seat.unit
settled_contents seat = go seat.unit
  where
    go : (x : Option UnitState) → contents_of (settled_seat (record seat { unit = x })).unit ≡ contents_of x
    go None = refl
    go (Some u) = choice_keeps (Seats.is_any_held seat.hold) u

mapped_contents : (f : UnitState → UnitState) (x : Option UnitState)
    → ((u : UnitState) → (f u).contents ≡ u.contents) → contents_of (Seats.unit_mapped f x) ≡ contents_of x
mapped_contents f None e = refl
mapped_contents f (Some u) e = e u

-- The contents of this seat after an event which leaves it so.
abbrev LeavesSo : Array → ℕ → ℕ → Option Seat → Type 0
LeavesSo b t m o = (after : Seat) → settled_seat_if o ≡ Some after → HasWholeBlocks (contents_of after.unit)

leaves_none : (b : Array) (t m : ℕ) → LeavesSo b t m None
leaves_none b t m after e = none_some after e

leaves_some : (b : Array) (t m : ℕ) (seat : Seat) → HasWholeBlocks (contents_of seat.unit) → LeavesSo b t m (Some seat)
leaves_some b t m seat h after e = subst HasWholeBlocks
    (sym (settled_contents seat) ∙ ap (λ (x : Seat). contents_of x.unit) (same_Some (settled_seat seat) after e)) h

kept_whole : (seat : Seat) (drops : Process → Bool) → HasWholeBlocks (contents_of seat.unit)
    → HasWholeBlocks (contents_of (Seats.seat_kept drops seat).unit)
kept_whole seat drops h = subst HasWholeBlocks (sym (mapped_contents (Seats.unit_kept drops) seat.unit (λ u. refl))) h

aborted_whole : (hosts : List HostDef) (i : ℕ) (what : AbortKind) (seat : Seat) → HasWholeBlocks (contents_of seat.unit)
    → HasWholeBlocks (contents_of (Seats.seat_after_aborted hosts i what seat).unit)
aborted_whole hosts i AbortKind.All seat h = kept_whole seat (λ p. p.initiator == i) h
aborted_whole hosts i (AbortKind.Tag n) seat h =
    kept_whole seat (λ p. p.initiator == i && Rattle.due_model.specs.array_model.specs.Steps.has_tag p.tag n) h
aborted_whole hosts i AbortKind.WholeQueue seat h = kept_whole seat (λ p. true) h
aborted_whole hosts i AbortKind.Device seat h = kept_whole seat (λ p. true) h

-- ---- a process ends

end_whole : (seat : Seat) (id : ProcId) (status : ℕ) (b : Array) (t m : ℕ) → HasWholeBlocks (contents_of seat.unit)
    → LeavesSo b t m (Seats.seat_after_end id status seat)
end_whole seat id status b t m h = go (Seats.running_at seat id)
  where
    stored : (c : Process) (reply : Reply) (x y : Bool)
        → HasWholeBlocks (contents_of (Seats.seat_without (if x then record seat {
          senses = Seats.with_sense_of seat.senses c.initiator (Some reply.sense);
          hold = Seats.with_hold_of seat.hold c.initiator true;
        } else if y then record seat {
          senses = Seats.with_sense_of seat.senses c.initiator None;
          hold = Seats.with_hold_of seat.hold c.initiator false;
        } else seat) c.id).unit)
    stored c reply true y = subst HasWholeBlocks (sym (mapped_contents
        (λ u. Rattle.due_model.specs.array_model.specs.Steps.unit_without u c.id) seat.unit (λ u. refl))) h
    stored c reply false true = subst HasWholeBlocks (sym (mapped_contents
        (λ u. Rattle.due_model.specs.array_model.specs.Steps.unit_without u c.id) seat.unit (λ u. refl))) h
    stored c reply false false = subst HasWholeBlocks (sym (mapped_contents
        (λ u. Rattle.due_model.specs.array_model.specs.Steps.unit_without u c.id) seat.unit (λ u. refl))) h

    by : (c : Process) (o : Option Reply) → LeavesSo b t m (Seats.seat_after_end_with seat c status o)
    by c None = leaves_none b t m
    by c (Some reply) = at (reply.status == status)
      where
        at : (x : Bool)
            → LeavesSo b t m (if x then Some (Seats.seat_without (Seats.seat_after_status seat c reply) c.id) else None)
        at true = leaves_some b t m (Seats.seat_without (Seats.seat_after_status seat c reply) c.id) (stored c reply
            (reply.status == CHECK_CONDITION) (reply.status == GOOD && is_request_sense (command_of c.cdb)))
        at false = leaves_none b t m

    go : (o : Option RunningProcess) → LeavesSo b t m (Seats.seat_after_end_of seat status o)
    go None = leaves_none b t m
    go (Some r) = by r.process r.reply

-- ---- a process runs

current_own : (s : ScenarioValue) (units : List UnitState) (t m : ℕ) (c : Process) (r : RunningProcess)
    → AllOwnUnits s units → process_of s c.id ≡ Some c
    → running_if (Seats.current_of (unit_state_at units t m)) c.id ≡ Some r → r.process ≡ c
current_own s [] t m c r own is e = none_some r e
current_own s (u ∷ units) t m c r own is e =
    go (u.target == t && u.unit == m) e (λ z. current_own s units t m c r own.1 is z)
  where
    inner : (o : Option RunningProcess) → (let a : ℕ = u.target in let b : ℕ = u.unit in IsOwnRunning s a b o)
        → running_if o c.id ≡ Some r → r.process ≡ c
    inner None h z = none_some r z
    inner (Some x) h z = at (same_id x.process.id c.id) refl z
      where
        at : (y : Bool) → same_id x.process.id c.id ≡ y → (if y then Some x else None) ≡ Some r → r.process ≡ c
        at true f w = ap (λ (v : RunningProcess). v.process) (sym (same_Some x r w))
            ∙ same_Some x.process c (sym h.is ∙ ap (process_of s) (id_is x.process.id c.id f) ∙ is)
        at false f w = none_some r w

    go : (x : Bool) → running_if (Seats.current_of (if x then Some u else unit_state_at units t m)) c.id ≡ Some r
        → (running_if (Seats.current_of (unit_state_at units t m)) c.id ≡ Some r → r.process ≡ c) → r.process ≡ c
    go true z rest = inner u.current own.0.current z
    go false z rest = rest z

pub running_own : (s : ScenarioValue) (a : Array) (c : Process) (r : RunningProcess) (t m : ℕ) → IsSound s a
    → process_of s c.id ≡ Some c → Seats.running_at (seat_of a t m) c.id ≡ Some r → r.process ≡ c
running_own s a c r t m sound is e = go (guest_at (Seats.guests_at a.guests t m) c.id) refl e
  where
    go : (o : Option RunningProcess) → guest_at (Seats.guests_at a.guests t m) c.id ≡ o
        → (if is_some o then o else running_if (Seats.current_of (unit_state_at a.units t m)) c.id) ≡ Some r
        → r.process ≡ c
    go None z w = current_own s a.units t m c r sound.units is w
    go (Some g) z w = guest_there s a.guests t m c r sound.guests is (z ∙ w)

run_whole : (s : ScenarioValue) (a b : Array) (c : Process) → IsSound s a → process_of s c.id ≡ Some c
    → HasWholeBlocks (execution (context_of (seat_of a c.target c.unit) c.initiator) c.cdb c.sent).contents
    → LeavesSo b c.target c.unit (Seats.seat_after_run c.id (seat_of a c.target c.unit))
run_whole s a b c sound is h = go (Seats.running_at seat c.id) refl
  where
    seat : Seat
    seat = seat_of a c.target c.unit

    done : (x : Option UnitState)
        → HasWholeBlocks (execution (context_of (record seat { unit = x }) c.initiator) c.cdb c.sent).contents
        → HasWholeBlocks (contents_of (Seats.seat_with_execution (record seat { unit = x }) c
        (execution (context_of (record seat { unit = x }) c.initiator) c.cdb c.sent)).unit)
    done None w = none_whole
    done (Some u) w = w

    by : (r : RunningProcess) → r.process ≡ c → (y : Bool)
        → LeavesSo b c.target c.unit (if y then Some (Seats.seat_with_execution seat r.process
        (execution (context_of seat r.process.initiator) r.process.cdb r.process.sent)) else None)
    by r same false = leaves_none b c.target c.unit
    by r same true = subst (λ (q : Process). LeavesSo b c.target c.unit
        (Some (Seats.seat_with_execution seat q (execution (context_of seat q.initiator) q.cdb q.sent))))
        (sym same) (leaves_some b c.target c.unit
        (Seats.seat_with_execution seat c (execution (context_of seat c.initiator) c.cdb c.sent)) (done seat.unit h))

    go : (o : Option RunningProcess) → Seats.running_at seat c.id ≡ o
        → LeavesSo b c.target c.unit (Seats.seat_after_run_of seat (is_some (guest_at seat.guests c.id)) o)
    go None e = leaves_none b c.target c.unit
    go (Some r) e = by r (running_own s a c r c.target c.unit sound is e)
        (is_none r.reply && (is_some (guest_at seat.guests c.id) || not (Seats.is_any_held seat.hold)))

no_unit : {A : Type 0} (u : UnitState) (d : Option UnitDef) → d ≡ None → IsOfLine d (Some u) → A
no_unit u None e h = absurd h
no_unit u (Some d) e h = absurd (none_is d e)
  where
    none_is : (x : UnitDef) → (let o : Option UnitDef = Some x in o) ≡ None → ⊥
    none_is x z = cc

-- What it sends, where it is carried out, are the bytes of the blocks that it writes.
sent_whole : (s : ScenarioValue) (a : Array) (c : Process) → Obeys s → AreOfLines s a → AreOfKinds s a
    → process_of s c.id ≡ Some c
    → (execution (context_of (seat_of a c.target c.unit) c.initiator) c.cdb c.sent).reply.status ≡ GOOD
    → is_write (command_of c.cdb) ≡ true
    → length c.sent ≡ taken_now (contents_of (unit_state_at a.units c.target c.unit)) c.cdb
sent_whole s a c o lines kinds is good w =
    by_bool (has_target s c.target)
    (λ e. (sends s a c (obeys_fits s o) lines kinds e is (writer_plain s c is w)).bytes good)
    (λ e. none (unit_state_at a.units c.target c.unit) (lines c.target c.unit) e)
  where
    none : (x : Option UnitState) → IsOfLine (unit_of s c.target c.unit) x → has_target s c.target ≡ false
        → length c.sent ≡ taken_now (contents_of x) c.cdb
    none None h e = none_sent s c o is w e ∙ sym (zero_times (blocks_written 0 (command_of c.cdb)))
    none (Some u) h e =
        by_option (unit_of s c.target c.unit)
        (λ z. no_unit u (unit_of s c.target c.unit) z h)
        (λ d z. wrong (sym (unit_targeted s c.target c.unit d o z) ∙ e))

-- ---- an event

running_known : (s : ScenarioValue) (a : Array) (id : ProcId) (r : RunningProcess) → IsSound s a
    → Steps.running_process a id ≡ Some r → is_some (process_of s id) ≡ true
running_known s a id r sound e =
    let own = running_has (IsOf s) a id r
    (record { units = own_units s a.units sound.units; guests = own_guests s a.guests sound.guests }) e in
    ap (λ (x : ProcId). is_some (process_of s x)) (sym (running_id a id r e))
    ∙ ap (λ (x : Option Process). is_some x) own

-- It is of a process of the scenario, but for a loss.
known_event : (s : ScenarioValue) (a b : Array) (e : Event) (id : ProcId) → IsSound s a → step s e a ≡ Some b
    → (e ≡ Event.Accept id) ⊎ (e ≡ Event.Refuse id) ⊎ (e ≡ Event.Run id)
    ⊎ ((code : ℕ) × (e ≡ Event.Fail id code)) ⊎ ((status : ℕ) × (e ≡ Event.End id status))
    → is_some (process_of s id) ≡ true
known_event s a b e id sound st h = go (process_of s id) refl h
  where
    is : (f : Event) → e ≡ f → step s f a ≡ Some b
    is f z = ap (λ (x : Event). step s x a) (sym z) ∙ st

    ran : (f : Array → Option RunningProcess → Option Array) → f a None ≡ None
        → Steps.settled_array_if (f a (Steps.running_process a id)) ≡ Some b → is_some (process_of s id) ≡ true
    ran f none z = by (Steps.running_process a id) refl z
      where
        by : (o : Option RunningProcess) → Steps.running_process a id ≡ o → Steps.settled_array_if (f a o) ≡ Some b
            → is_some (process_of s id) ≡ true
        by None w v = none_some b (sym (ap Steps.settled_array_if none) ∙ v)
        by (Some r) w v = running_known s a id r sound w

    failed : (code : ℕ) (x : Option Process) → process_of s id ≡ x
        → (o : Option RunningProcess) → Steps.running_process a id ≡ o → Steps.settled_array_if
        (Steps.fail_step s a id (check_condition (Rattle.due_model.specs.array_model.specs.Execution.sense_of
        Rattle.due_model.specs.cdb_codec.specs.declared.sense.TheConstants.ABORTED_COMMAND code 0x00)) o) ≡ Some b
        → is_some x ≡ true
    failed code x z (Some r) w v = sym (ap (λ (y : Option Process). is_some y) z) ∙ running_known s a id r sound w
    failed code (Some c) z None w v = refl
    failed code None z None w v = none_some b (sym (ap (λ (y : Option Process). Steps.settled_array_if
        (Steps.fail_step_of_new a id (check_condition (Rattle.due_model.specs.array_model.specs.Execution.sense_of
        Rattle.due_model.specs.cdb_codec.specs.declared.sense.TheConstants.ABORTED_COMMAND code 0x00)) y)) z) ∙ v)

    go : (x : Option Process) → process_of s id ≡ x → (e ≡ Event.Accept id) ⊎ (e ≡ Event.Refuse id)
        ⊎ (e ≡ Event.Run id) ⊎ ((code : ℕ) × (e ≡ Event.Fail id code)) ⊎ ((status : ℕ) × (e ≡ Event.End id status))
        → is_some (process_of s id) ≡ true
    go (Some c) z w = ap (λ (y : Option Process). is_some y) z
    go None z (inl w) = none_some b
        (sym (ap (λ (y : Option Process). Steps.settled_array_if (Steps.accept_step a y)) z) ∙ is (Event.Accept id) w)
    go None z (inr (inl w)) = none_some b
        (sym (ap (λ (y : Option Process). Steps.settled_array_if (Steps.refuse_step a y)) z) ∙ is (Event.Refuse id) w)
    go None z (inr (inr (inl w))) =
        ran (λ x o. Steps.run_step x (is_some (guest_at x.guests id)) o) refl (is (Event.Run id) w)
    go None z (inr (inr (inr (inl w)))) = ap (λ (y : Option Process). is_some y) z
        ∙ failed w.0 None z (Steps.running_process a id) refl (is (Event.Fail id w.0) w.1)
    go None z (inr (inr (inr (inr w)))) = ran (λ x o. Steps.end_step x w.0 o) refl (is (Event.End id w.0) w.1)

without_contents : (units : List UnitState) (id : ProcId) (t m : ℕ)
    → contents_of (unit_state_at (Steps.units_without units id) t m) ≡ contents_of (unit_state_at units t m)
without_contents [] id t m = refl
without_contents (u ∷ units) id t m = go (u.target == t && u.unit == m) (without_contents units id t m)
  where
    go : (x : Bool)
        → contents_of (unit_state_at (Steps.units_without units id) t m) ≡ contents_of (unit_state_at units t m)
        → contents_of (if x then Some (Steps.unit_without u id) else unit_state_at (Steps.units_without units id) t m)
        ≡ contents_of (if x then Some u else unit_state_at units t m)
    go true e = refl
    go false e = e

chosen_contents : (holds : List Nexus) (units : List UnitState) (t m : ℕ)
    → contents_of (unit_state_at (units_after_choice holds units) t m) ≡ contents_of (unit_state_at units t m)
chosen_contents holds [] t m = refl
chosen_contents holds (u ∷ units) t m = go (has_no_current u.current && not (is_held holds u.target u.unit))
    (choice u.pick u.waiting) (chosen_contents holds units t m)
  where
    at : (v : UnitState) → v.target ≡ u.target → v.unit ≡ u.unit → v.contents ≡ u.contents
        → contents_of (unit_state_at (units_after_choice holds units) t m) ≡ contents_of (unit_state_at units t m)
        → contents_of
        (if v.target == t && v.unit == m then Some v else unit_state_at (units_after_choice holds units) t m)
        ≡ contents_of (if u.target == t && u.unit == m then Some u else unit_state_at units t m)
    at v et en ec rest = (λ i. contents_of
        (if et i == t && en i == m then Some v else unit_state_at (units_after_choice holds units) t m))
        ∙ by (u.target == t && u.unit == m)
      where
        by : (x : Bool) → contents_of (if x then Some v else unit_state_at (units_after_choice holds units) t m)
            ≡ contents_of (if x then Some u else unit_state_at units t m)
        by true = ec
        by false = rest

    go : (x : Bool) (c : Option Process)
        → contents_of (unit_state_at (units_after_choice holds units) t m) ≡ contents_of (unit_state_at units t m)
        → (let v : UnitState = if x then with_current u c else u in contents_of
        (if v.target == t && v.unit == m then Some v else unit_state_at (units_after_choice holds units) t m))
        ≡ contents_of (if u.target == t && u.unit == m then Some u else unit_state_at units t m)
    go true None rest = at u refl refl refl rest
    go true (Some c) rest = at (with_current u (Some c)) refl refl refl rest
    go false c rest = at u refl refl refl rest

lost_contents : (a b : Array) (id : ProcId) (t m : ℕ) → Steps.settled_array_if (Steps.loss_step a id) ≡ Some b
    → contents_of (unit_state_at b.units t m) ≡ contents_of (unit_state_at a.units t m)
lost_contents a b id t m e = go (Steps.has_ended a id) e
  where
    go : (x : Bool) → Steps.settled_array_if (if x then None else Some (Steps.array_without a id)) ≡ Some b
        → contents_of (unit_state_at b.units t m) ≡ contents_of (unit_state_at a.units t m)
    go true z = none_some b z
    go false z = ap (λ (x : Array). contents_of (unit_state_at x.units t m))
        (sym (same_Some (settled_array (Steps.array_without a id)) b z))
        ∙ chosen_contents a.holds (Steps.units_without a.units id) t m ∙ without_contents a.units id t m

-- At the seat of the process, or at another.
of_seat : (s : ScenarioValue) (a b : Array) (e : Event) (id : ProcId) (t m : ℕ) → HasSeats s → IsSound s a
    → step s e a ≡ Some b → Seats.is_elsewhere s e t m ≡ Seats.is_of_other_unit (process_of s id) t m
    → is_some (process_of s id) ≡ true → HasWhole a
    → ((c : Process) → process_of s id ≡ Some c → HasWholeBlocks (contents_of (unit_state_at b.units c.target c.unit)))
    → HasWholeBlocks (contents_of (unit_state_at b.units t m))
of_seat s a b e id t m seats sound st place some whole here = by_option (process_of s id)
    (λ z. wrong' (sym (ap (λ (x : Option Process). is_some x) z) ∙ some)) (λ c z. by_bool (is_of_unit c t m)
    (λ x. let w = place_of c t m x in subst (λ (y : ℕ). HasWholeBlocks (contents_of (unit_state_at b.units y m))) w.0
    (subst (λ (y : ℕ). HasWholeBlocks (contents_of (unit_state_at b.units c.target y))) w.1 (here c z)))
    (λ x. subst HasWholeBlocks (sym (ap (λ (y : Seat). contents_of y.unit) (other_law s a b e t m seats sound
    (place ∙ ap (λ (o : Option Process). Seats.is_of_other_unit o t m) z ∙ ap not x) st))) (whole t m)))

left_so : (s : ScenarioValue) (a b : Array) (e : Event) (t m : ℕ) (o : Option Seat)
    → step s e a ≡ Some b → Seats.seat_if (step s e a) t m ≡ settled_seat_if o → LeavesSo b t m o
    → HasWholeBlocks (contents_of (unit_state_at b.units t m))
left_so s a b e t m o st law h = h (seat_of b t m) (sym law ∙ ap (λ (x : Option Array). Seats.seat_if x t m) st)

same_whole : (s : ScenarioValue) (a b : Array) (t m : ℕ) → HasWhole a → SameContext a b t m 0
    → HasWholeBlocks (contents_of (unit_state_at b.units t m))
same_whole s a b t m whole e = subst HasWholeBlocks (sym (ap (λ (c : CommandContext). c.contents) e)) (whole t m)

abort_whole : (s : ScenarioValue) (a b : Array) (i to un : ℕ) (what : AbortKind) (t m : ℕ)
    → HasSeats s → IsSound s a → step s (Event.Aborted i to un what) a ≡ Some b → HasWhole a
    → HasWholeBlocks (contents_of (unit_state_at b.units t m))
abort_whole s a b i to un what t m seats sound st whole = go what st
  where
    other : (w : AbortKind) → step s (Event.Aborted i to un w) a ≡ Some b
        → Seats.is_elsewhere s (Event.Aborted i to un w) t m ≡ true
        → HasWholeBlocks (contents_of (unit_state_at b.units t m))
    other w z away = subst HasWholeBlocks
        (sym (ap (λ (y : Seat). contents_of y.unit) (other_law s a b (Event.Aborted i to un w) t m seats sound away z)))
        (whole t m)

    here : (w : AbortKind) → step s (Event.Aborted i to un w) a ≡ Some b → (to == t && un == m) ≡ true
        → HasWholeBlocks (contents_of (unit_state_at b.units t m))
    here w z place =
        let two = and_parts (to == t) (un == m) place in
        subst (λ (y : ℕ). HasWholeBlocks (contents_of (unit_state_at b.units y m))) (eqb-true to t two.0)
        (subst (λ (y : ℕ). HasWholeBlocks (contents_of (unit_state_at b.units to y)))
        (eqb-true un m two.1) (left_so s a b (Event.Aborted i to un w) to un
        (Some (Seats.seat_after_aborted s.hosts i w (seat_of a to un))) z (abort_law s a i to un w seats sound)
        (leaves_some b to un (Seats.seat_after_aborted s.hosts i w (seat_of a to un))
        (aborted_whole s.hosts i w (seat_of a to un) (whole to un)))))

    placed : (w : AbortKind) → step s (Event.Aborted i to un w) a ≡ Some b
        → Seats.is_elsewhere s (Event.Aborted i to un w) t m ≡ not (to == t && un == m)
        → HasWholeBlocks (contents_of (unit_state_at b.units t m))
    placed w z is = by_bool (to == t && un == m) (λ e. here w z e) (λ e. other w z (is ∙ ap not e))

    go : (w : AbortKind) → step s (Event.Aborted i to un w) a ≡ Some b
        → HasWholeBlocks (contents_of (unit_state_at b.units t m))
    go AbortKind.All z = placed AbortKind.All z refl
    go (AbortKind.Tag x) z = placed (AbortKind.Tag x) z refl
    go AbortKind.WholeQueue z = placed AbortKind.WholeQueue z refl
    go AbortKind.Device z = by_bool (to == t)
        (λ e. subst (λ (y : ℕ). HasWholeBlocks (contents_of (unit_state_at b.units y m)))
        (eqb-true to t e) (left_so s a b (Event.Aborted i to un AbortKind.Device) to m
        (Some (Seats.seat_after_reset s.hosts (seat_of a to m))) z (device_law s a i to un m seats sound) (leaves_some b
        to m (Seats.seat_after_reset s.hosts (seat_of a to m)) (kept_whole (seat_of a to m) (λ p. true) (whole to m)))))
        (λ e. other AbortKind.Device z (ap not e))

whole_step : (s : ScenarioValue) (a b : Array) (e : Event) → Obeys s → IsSound s a → AreOfLines s a
    → AreOfKinds s a → step s e a ≡ Some b → HasWhole a → HasWhole b
whole_step s a b e o sound lines kinds st whole t n = go e st
  where
    seats : HasSeats s
    seats = seats_are s (obeys_fits s o)

    go : (f : Event) → step s f a ≡ Some b → HasWholeBlocks (contents_of (unit_state_at b.units t n))
    go (Event.Accept id) z = same_whole s a b t n whole
        (accept_at s a b id t n 0 seats sound (known_event s a b (Event.Accept id) id sound z (inl refl)) z)
    go (Event.Refuse id) z = same_whole s a b t n whole
        (refuse_at s a b id t n 0 seats sound (known_event s a b (Event.Refuse id) id sound z (inr (inl refl))) z)
    go (Event.Fail id code) z = same_whole s a b t n whole (fail_at s a b id code t n 0 seats sound
        (known_event s a b (Event.Fail id code) id sound z (inr (inr (inr (inl (code, refl)))))) z)
    go (Event.Lost id) z = subst HasWholeBlocks (sym (lost_contents a b id t n z)) (whole t n)
    go (Event.Run id) z = of_seat s a b (Event.Run id) id t n seats sound z refl
        (known_event s a b (Event.Run id) id sound z (inr (inr (inl refl)))) whole
        (λ p is. let own : process_of s p.id ≡ Some p = is_own s id p is in
        let same : id ≡ p.id = sym (process_id s id p is) in
        let runs : step s (Event.Run p.id) a ≡ Some b = ap (λ (x : ProcId). step s (Event.Run x) a) (sym same) ∙ z in
        left_so s a b (Event.Run p.id) p.target p.unit
        (Seats.seat_after_run p.id (seat_of a p.target p.unit)) runs (run_law s a p seats sound own)
        (run_whole s a b p sound own (execution_whole (context_of (seat_of a p.target p.unit) p.initiator) p.cdb p.sent
        (whole p.target p.unit) (sent_whole s a p o lines kinds own))))
    go (Event.End id status) z = of_seat s a b (Event.End id status) id t n seats sound z refl
        (known_event s a b (Event.End id status) id sound z (inr (inr (inr (inr (status, refl)))))) whole
        (λ p is. let own : process_of s p.id ≡ Some p = is_own s id p is in
        let same : id ≡ p.id = sym (process_id s id p is) in left_so s a b
        (Event.End p.id status) p.target p.unit (Seats.seat_after_end p.id status (seat_of a p.target p.unit))
        (ap (λ (x : ProcId). step s (Event.End x status) a) (sym same) ∙ z) (end_law s a p status seats sound own)
        (end_whole (seat_of a p.target p.unit) p.id status b p.target p.unit (whole p.target p.unit)))
    go (Event.Aborted i to un what) z = abort_whole s a b i to un what t n seats sound z whole
    go (Event.Reset dev) z = left_so s a b (Event.Reset dev) t n
        (Some (Seats.seat_after_reset s.hosts (seat_of a t n))) z (reset_law s a dev t n seats sound) (leaves_some b t n
        (Seats.seat_after_reset s.hosts (seat_of a t n)) (kept_whole (seat_of a t n) (λ p. true) (whole t n)))

-- ---- any history

record StartsWhole (s : ScenarioValue) (u : UnitDef) : Type 0 where
  fills : AreFilled u s.fills
  loads : is_tape s u.target u.unit ≡ true → reels.AreWhole u.size (loaded_objects u s.loads)

started_whole : (s : ScenarioValue) (units : List UnitDef) (t m : ℕ) → FitsBus s
    → ((u : UnitDef) → find (λ (v : UnitDef). v.target == t && v.unit == m) units ≡ Some u
    → StartsWhole s u)
    → HasWholeBlocks (contents_of (unit_state_at (starting_units s units) t m))
started_whole s [] t m fits f = none_whole
started_whole s (u ∷ units) t m fits f = go (u.target == t && u.unit == m) refl (λ g. started_whole s units t m fits g)
  where
    go : (x : Bool) → (u.target == t && u.unit == m) ≡ x
        → (((v : UnitDef) → find (λ (w : UnitDef). w.target == t && w.unit == m) units ≡ Some v → StartsWhole s v)
        → HasWholeBlocks (contents_of (unit_state_at (starting_units s units) t m)))
        → HasWholeBlocks
        (contents_of (if x then Some (starting_unit s u) else unit_state_at (starting_units s units) t m))
    go true e rest = at (is_tape s u.target u.unit) refl
      where
        found : cond (u.target == t && u.unit == m) (Some u)
            (find (λ (v : UnitDef). v.target == t && v.unit == m) units) ≡ Some u
        found = ap (λ (x : Bool). cond x (Some u) (find (λ (v : UnitDef). v.target == t && v.unit == m) units)) e

        at : (tape : Bool) → is_tape s u.target u.unit ≡ tape
            → HasWholeBlocks (if tape then loaded_contents u s.loads else starting_contents u s.fills)
        at true k = record { blocks = blank_whole u.blocks u.size; reel = (f u found).loads k }
        at false k = record {
          blocks = filled_whole u s.fills (blank_contents u.blocks u.size) (f u found).fills refl
              (blank_whole u.blocks u.size);
          reel = subst (IsWholeReel (starting_contents u s.fills).size) (sym (filled_reel u s.fills
              (blank_contents u.blocks u.size))) tt;
        }
    go false e rest = rest (λ v z. f v
        (ap (λ (x : Bool). cond x (Some u) (find (λ (w : UnitDef). w.target == t && w.unit == m) units)) e ∙ z))

found_place : (units : List UnitDef) (t m : ℕ) (u : UnitDef)
    → find (λ (v : UnitDef). v.target == t && v.unit == m) units ≡ Some u → (u.target ≡ t) × (u.unit ≡ m)
found_place [] t m u e = no_line u e
  where
    no_line : {A : Type 0} (x : UnitDef) → (let o : Option UnitDef = None in o) ≡ Some x → A
    no_line x z = absurd cc
found_place (v ∷ units) t m u e = go (v.target == t && v.unit == m) refl e (λ z. found_place units t m u z)
  where
    go : (x : Bool) → (v.target == t && v.unit == m) ≡ x
        → cond x (Some v) (find (λ (w : UnitDef). w.target == t && w.unit == m) units) ≡ Some u
        → (find (λ (w : UnitDef). w.target == t && w.unit == m) units ≡ Some u → (u.target ≡ t) × (u.unit ≡ m))
        → (u.target ≡ t) × (u.unit ≡ m)
    go true f z rest =
        let two = and_parts (v.target == t) (v.unit == m) f in
        let same = same_Some v u z in (
          ap (λ (w : UnitDef). w.target) (sym same) ∙ eqb-true v.target t two.0,
          ap (λ (w : UnitDef). w.unit) (sym same) ∙ eqb-true v.unit m two.1,
        )
    go false f z rest = rest z

tape_line_of : (s : ScenarioValue) (lines : List TapeDef) (t m : ℕ) (x : TapeDef)
    → AllByRecursion (λ (y : TapeDef). IsTapeLine s y) lines
    → find (λ (y : TapeDef). y.target == t && y.unit == m) lines ≡ Some x
    → IsTapeLine s x × ((x.target ≡ t) × (x.unit ≡ m))
tape_line_of s [] t m x a e = none_some x e
tape_line_of s (y ∷ lines) t m x a e =
    go (y.target == t && y.unit == m) refl e (λ z. tape_line_of s lines t m x a.1 z)
  where
    go : (q : Bool) → (y.target == t && y.unit == m) ≡ q
        → cond q (Some y) (find (λ (w : TapeDef). w.target == t && w.unit == m) lines) ≡ Some x
        → (find (λ (w : TapeDef). w.target == t && w.unit == m) lines ≡ Some x
        → IsTapeLine s x × ((x.target ≡ t) × (x.unit ≡ m)))
        → IsTapeLine s x × ((x.target ≡ t) × (x.unit ≡ m))
    go true f z rest =
        let two = and_parts (y.target == t) (y.unit == m) f in
        subst (λ (w : TapeDef). IsTapeLine s w × ((w.target ≡ t) × (w.unit ≡ m))) (same_Some y x z)
        (a.0, (eqb-true y.target t two.0, eqb-true y.unit m two.1))
    go false f z rest = rest z

-- The loads of a tape are of its blocks.
loaded_whole : (s : ScenarioValue) (u : UnitDef) → FitsBus s → unit_of s u.target u.unit ≡ Some u
    → is_tape s u.target u.unit ≡ true → reels.AreWhole u.size (loaded_objects u s.loads)
loaded_whole s u fits e tape = by (tape_of s u.target u.unit) refl tape
  where
    by : (o : Option TapeDef) → tape_of s u.target u.unit ≡ o → is_some o ≡ true
        → reels.AreWhole u.size (loaded_objects u s.loads)
    by None z k = wrong' k
    by (Some t) z k =
        let line = tape_line_of s s.tapes u.target u.unit t fits.tapes z in
        let same : tape_unit t ≡ u = same_Some (tape_unit t) u
        (sym line.0.unit_is ∙ (λ i. unit_of s (line.1.0 i) (line.1.1 i)) ∙ e) in
        subst (λ (x : UnitDef). reels.AreWhole x.size (loaded_objects x s.loads)) same line.0.whole

pub whole_start : (s : ScenarioValue) → Obeys s → HasWhole (starting_array s)
whole_start s o t n =
    started_whole s (units_of s) t n (obeys_fits s o) (λ u e. let w = found_place (units_of s) t n u e in
    let at : unit_of s u.target u.unit ≡ Some u = (λ i. unit_of s (w.0 i) (w.1 i)) ∙ e in record {
      fills = line_filled s u (obeys_fits s o) at;
      loads = loaded_whole s u (obeys_fits s o) at;
    })

pub whole_always : (s : ScenarioValue) (history : List Event) (a : Array) → Obeys s → array_after s history ≡ Some a
    → HasWhole a
whole_always s [] a o e =
    subst HasWhole (sym (start_settled s) ∙ same_Some (settled_array (starting_array s)) a e) (whole_start s o)
whole_always s (event ∷ history) a o e = go (array_after s history) refl e (λ b f. whole_always s history b o f)
  where
    go : (x : Option Array) → array_after s history ≡ x → array_step s event x ≡ Some a
        → ((b : Array) → x ≡ Some b → HasWhole b) → HasWhole a
    go None z h before = none_some a h
    go (Some b) z h before = whole_step s b a event o (history_sound s history b (seats_are s (obeys_fits s o)) z)
        (lines_always s history b z) (kinds_always s history b z) h (before b refl)
