-- What the bytes of writes ask of a row follows from where the processes stand in the plain disk array, and from how
-- many bytes of a run were answered.
use Rattle.trace_laws.proofs
use proofs.Names.{inl, inr, ℕ, ◌≡◌, ◌⊎◌, ◌≤◌, ◌+◌, ◌*◌, Bool, true, false, not, ◌&&◌, ◌==◌, ◌∙◌, List, ◌∷◌, Option}
use proofs.Names.{Some, None, refl, sym, ap, subst, arith, nat_tests, ◌-◌, if◌then◌else◌, min, nat_le, nat_lt, wrong}
use proofs.Names.{wrong', eq_self, zero_of, change_of, LineSet, changes_phase, is_data, connection, bus, Row}
use proofs.Names.{Connection, command_of, unit_of, ScenarioValue, Obeys, Policy, UnitDef, write_needs, array_after}
use proofs.Names.{Process, UnitState, guest_at, unit_state_at, policy_of, run_at, run_in, run_length, begun, phase_of}
use proofs.Names.{run_length_if, Phase, Task, target_def_of, progress_in, IsPrompt, RunState, array_of, or_start}
use proofs.Names.{bus_of, carried_here, process_served, run_state, is_writing, reply_now, size_of, task_if, task_of}
use proofs.Names.{task_with, moved_count, block_size, is_data_out, AreOfLines, IsOfLine, by_bool, no_guest, Stood}
use proofs.Names.{is_directed, writes_of, IsAtRest, IsOutside, PlaceFacts, PlacedIf, RunsOpen, IsAnsweredWhole}
use proofs.{Names.{WritesAsked, DataFacts, ResetFacts}, Heard.Places.{places_heard}, Runs.Asks.{answers_all}}
use proofs.Runs.{Facts.{write_no_sense}, Fits.{lines_now, absent_moves}}

-- ---- the size of a block

size_line : (d : Option UnitDef) (u : Option UnitState) → IsOfLine d u → size_of u ≡ block_size d
size_line None None h = refl
size_line None (Some u) h = absurd h
size_line (Some d) None h = absurd h
size_line (Some d) (Some u) h = h.1

-- ---- a run that has a byte

part_none : (step m : ℕ) → (if m == 0 && nat_lt step 0 then step else 0) ≡ 0
part_none step m = go (nat_lt step 0) refl (m == 0)
  where
    go : (q : Bool) → nat_lt step 0 ≡ q → (r : Bool) → (if r && nat_lt step 0 then step else 0) ≡ 0
    go true e r = absurd grind (arith, nat_tests, e)
    go false e true = λ i. if e i then step else 0
    go false e false = refl

least_none : (a : ℕ) → min a 0 ≡ 0
least_none a = omega arith

end_none : (policy : Policy) (blocks : Option ℕ) (size m : ℕ) → (run_in policy blocks size 0 m).end ≡ 0
end_none policy None size m = refl
end_none Policy.Never (Some blocks) size m = refl
end_none Policy.Command (Some blocks) size m = refl
end_none (Policy.Burst most) (Some blocks) size m = least_none (m * (most * size) + most * size)
end_none (Policy.NoSave most) (Some blocks) size m = part_none (most * size) m

none_left : (a b : ℕ) → a ≡ 0 → 1 ≤ a - b → ⊥
none_left a b e h = absurd omega (arith, e, h)

-- A run with a byte moves some.
pub moves_some : (policy : Policy) (t : Task) → 1 ≤ run_length policy t → (t.moved == 0) ≡ false
moves_some policy t h = by_bool (t.moved == 0) (λ e. let none : (run_at policy t t.runs).end ≡ 0 =
    (λ i. (run_in policy t.blocks t.size (zero_of t.moved e i) t.runs).end) ∙ end_none policy t.blocks t.size t.runs in
    absurd (none_left (run_at policy t t.runs).end (run_at policy t t.runs).start none h)) (λ e. e)

-- ---- a process that writes

at_least : (a b : ℕ) → a ≡ b → nat_le b a ≡ true
at_least a b e = grind (arith, nat_tests, e)

pub some_there : (m : ℕ) → 1 ≤ m → (m == 0) ≡ false
some_there m h = grind (arith, nat_tests, h)

-- ---- all of it

pub write_premises : (s : ScenarioValue) (p : List Row) (row : Row) → Obeys s → IsPrompt s (row ∷ p) → Stood s p
    → PlaceFacts s p → DataFacts s p → ResetFacts s p → WritesAsked s p row
write_premises s p row o prompt was h facts resets = record {
  placed = places_heard s p was.standing.devices h;
  guests = λ n q con calm b phase served. no_guest_here n q con calm b phase served;
  resets = resets.reads;
  sizes = λ q served. ap (λ (x : ℕ). x == block_size (unit_of s q.target q.unit)) (size_line
      (unit_of s q.target q.unit) (unit_state_at (array_of s k).units q.target q.unit)
      (lines q.target q.unit))
      ∙ eq_self (block_size (unit_of s q.target q.unit));
  answered =
      λ n q t con calm off after b ep phase struck served task. whole n q t con calm off after b ep phase served task;
}
  where
    k : RunState
    k = run_state s p

    plays : k.array ≡ array_after s k.story.history
    plays = was.plain.array ∙ (λ i. array_after s (sym was.plain.story i).history)

    lines : AreOfLines s (array_of s k)
    lines = lines_now s k.story.history k.array (sym plays)

    out_lines : (b : LineSet) → phase_of b ≡ Phase.DataOut → (is_data b ≡ true) × (b.io ≡ false)
    out_lines b e = of b.msg b.cd b.io e
      where
        no_out : {A : Type 0} (x : Phase) → is_data_out x ≡ false → x ≡ Phase.DataOut → A
        no_out x f z = wrong (sym (ap is_data_out z) ∙ f)

        of : (m c i : Bool) → (if m then (if i then Phase.MessageIn else Phase.MessageOut)
            else if c then (if i then Phase.Status else Phase.Command) else if i then Phase.DataIn else Phase.DataOut)
            ≡ Phase.DataOut → ((not m && not c) ≡ true) × (i ≡ false)
        of false false false e = (refl, refl)
        of true c true e = no_out Phase.MessageIn refl e
        of true c false e = no_out Phase.MessageOut refl e
        of false true true e = no_out Phase.Status refl e
        of false true false e = no_out Phase.Command refl e
        of false false true e = no_out Phase.DataIn refl e

    writes : (n : Connection) (q : Process) → connection p ≡ Some n → (bus p).rst ≡ false → k.exchange.begun ≡ true
        → phase_of (bus_of k) ≡ Phase.DataOut → process_served s k ≡ Some q → is_writing q ≡ true
    writes n q con calm b phase served =
        let at = out_lines (bus_of k) phase in
        sym (λ i. is_directed (at.1 i) (writes_of (served i))) ∙ (was.planned n con calm).serves b at.0

    task_is : (q : Process) → process_served s k ≡ Some q → task_of s k ≡ Some
        (task_with (array_of s k) (progress_in k.progress q.id) q (carried_here k q.id) (reply_now (array_of s k) q)
        (Rattle.due_model.specs.array_model.specs.ArrayHistory.reply_in (array_of s k).replies q.id))
    task_is q served = ap (task_if s k) served

    counted : (n : Connection) (t : Task) → connection p ≡ Some n → (bus p).rst ≡ false
        → k.exchange.begun ≡ true → phase_of (bus_of k) ≡ Phase.DataOut → task_of s k ≡ Some t
        → 1 ≤ run_length (policy_of (target_def_of s n.target)) t
    counted n t con calm b phase task = subst (λ (x : ℕ). 1 ≤ x)
        (ap (run_length_if (policy_of (target_def_of s n.target))) task)
        (facts.counts.counts n con calm (sym was.plain.begun ∙ b) (ap phase_of (sym was.plain.bus) ∙ phase)).some

    no_guest_here : (n : Connection) (q : Process) → connection p ≡ Some n → (bus p).rst ≡ false
        → k.exchange.begun ≡ true → phase_of (bus_of k) ≡ Phase.DataOut → process_served s k ≡ Some q
        → guest_at (array_of s k).guests q.id ≡ None
    no_guest_here n q con calm b phase served =
        (λ i. guest_at (or_start s (h.array_is i)).guests q.id) ∙ go runs.runs.kind
      where
        placed : PlacedIf true h.array q k.exchange.plan k.handshakes (bus_of k).atn Phase.DataOut
        placed =
            subst (λ (x : Phase). PlacedIf true h.array q k.exchange.plan k.handshakes (bus_of k).atn x) phase (subst
            (λ (x : Bool). PlacedIf x h.array q k.exchange.plan k.handshakes (bus_of k).atn (phase_of (bus_of k))) b
            (h.placed n (was.plain.connection ∙ con) (ap (λ (l : LineSet). l.rst) was.plain.bus ∙ calm) q served))

        runs : RunsOpen h.array q
        runs = placed

        t : Task
        t = task_with (array_of s k) (progress_in k.progress q.id) q (carried_here k q.id) (reply_now (array_of s k) q)
            (Rattle.due_model.specs.array_model.specs.ArrayHistory.reply_in (array_of s k).replies q.id)

        w : is_writing q ≡ true
        w = writes n q con calm b phase served

        some : (t.moved == 0) ≡ false
        some = moves_some (policy_of (target_def_of s n.target)) t (counted n t con calm b phase (task_is q served))

        by_outside : IsOutside h.array q → guest_at h.array.guests q.id ≡ None
        by_outside (inl none) =
            let zero : t.moved ≡ 0 = (λ i. moved_count q (reply_now (or_start s (h.array_is i)) q))
            ∙ absent_moves h.array q none (write_needs q.cdb w) in
            wrong (sym (ap (λ (x : ℕ). x == 0) zero) ∙ some)
        by_outside (inr sense) = wrong' (sym (write_no_sense (command_of q.cdb) w) ∙ sense)

        go : IsOutside h.array q ⊎ IsAtRest h.array q.id → guest_at h.array.guests q.id ≡ None
        go (inr rests) = no_guest h.array.guests q.id rests.guests
        go (inl outside) = by_outside outside

    whole : (n : Connection) (q : Process) (t : Task) → connection p ≡ Some n → (bus p).rst ≡ false
        → (bus (row ∷ p)).rst ≡ false → connection (row ∷ p) ≡ Some n → begun p ≡ true
        → changes_phase (change_of p row) ≡ true → phase_of (bus_of k) ≡ Phase.DataOut → process_served s k ≡ Some q
        → task_of s k ≡ Some t → IsAnsweredWhole s k q t
    whole n q t con calm off after b ep phase served task =
        let kb : k.exchange.begun ≡ true = was.plain.begun ∙ b in
        let w : is_writing q ≡ true = writes n q con calm kb phase served in
        let some : 1 ≤ run_length (policy_of (target_def_of s n.target)) t = counted n t con calm kb phase task in
        let all : k.handshakes.answers ≡ run_length (policy_of (target_def_of s n.target)) t = answers_all
        s p row n o prompt was facts.counts con calm off after b ep q t served task phase in
        let target : q.target ≡ n.target = (facts.runs.served n q (was.plain.connection ∙ con)
        (ap (λ (l : LineSet). l.rst) was.plain.bus ∙ calm) served w).target_is in
        record {
          whole = at_least k.handshakes.answers (run_length (policy_of (target_def_of s q.target)) t)
              (all ∙ ap (λ (x : ℕ). run_length (policy_of (target_def_of s x)) t) (sym target));
          some = some_there k.handshakes.answers (subst (λ (x : ℕ). 1 ≤ x) (sym all) some);
          moves = moves_some (policy_of (target_def_of s n.target)) t some;
        }
