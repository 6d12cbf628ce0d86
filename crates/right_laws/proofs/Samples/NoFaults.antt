-- While no connection stands no fault is due but to a called device that samples the IDs.
use Rattle.right_laws.proofs
use proofs.Names.{ℕ, ◌≡◌, ◌<◌, ◌+◌, Bool, true, false, not, ◌&&◌, ◌==◌, ◌∙◌, List, Option, Some, None, refl, sym, ap}
use proofs.Names.{subst, max, and_from, eqb-true, same_Some, ⊤, nat_le, nat_lt, if◌then◌else◌, is_none, wrong', LineSet}
use proofs.Names.{none, same_set, ids_set, has_id_above, arbitration, call, connection, free_since, is_fault, bus}
use proofs.Names.{drives, line_times, since_line, Row, Arbitration, BUS_SETTLE_DELAY, ENTRY_DELAY, BUS_SET_DELAY}
use proofs.Names.{ARBITRATION_DELAY, QUIET_TIME, Call, Calling, stage, stage_by, call_stage, answer_stage, Stage}
use proofs.Names.{OnFreeBus, InArbitration, InCalling, InAnswer, InReset, ScenarioValue, latency_of, answer, answer_due}
use proofs.Names.{answered_due, bsy_takeover, called_due, caller_due, calling_abort, calling_start, is_called}
use proofs.Names.{loser_release, reselection_end, selection_end, unanswered_due, with_calling_mark, withdrawal}
use proofs.Names.{free_due, arbitration_due, entry, later_entry_if, win, bus_clear, link_due_by, due_at, due_where, Due}
use proofs.Names.{Myself, Want, AreOfDevices, run_state, want_of, flip_of, due_in, is_there, own_time, device_with}
use proofs.Names.{unreset_due, none_some, by_bool, by_option, is_asked, ids_at, ids_of, awaited_ids}
use Rattle.due_model.specs.bus_lines.specs.declared.stage.Stage.TheVariants.{InConnection}

-- ---- rows of lines

abbrev pub IsOfLines : Option Due → Type 0
IsOfLines None = ⊤
IsOfLines (Some x) = is_fault x.kind ≡ false

pub lines_if : (q : Bool) (a b : Option Due) → IsOfLines a → IsOfLines b → IsOfLines (if q then a else b)
lines_if true a b x y = x
lines_if false a b x y = y

lines_where : (q : Bool) (o : Option Due) → IsOfLines o → IsOfLines (due_where q o)
lines_where true o x = x
lines_where false o x = tt

pub of_lines : (o : Option Due) (x : Due) → IsOfLines o → o ≡ Some x → is_fault x.kind ≡ false
of_lines o x h e = subst IsOfLines e h

-- ---- on the way to a connection

lines_free : (me : Myself) (free : ℕ) (w : Option ℕ) → IsOfLines (free_due me free w)
lines_free me free None = tt
lines_free me free (Some w) = refl

lines_late : (me : Myself) (a : Arbitration) (w : Option ℕ) → IsOfLines (later_entry_if me a w)
lines_late me a None = tt
lines_late me a (Some w) =
    lines_where (nat_le (max (a.free + ENTRY_DELAY) w + me.latency) (a.first + BUS_SET_DELAY)) (entry me a.free w) refl

lines_loser : (sel : ℕ) (me : Myself) → IsOfLines (loser_release sel me)
lines_loser sel me = lines_if (same_set me.own none) None (due_at (sel + me.latency) none) tt refl

lines_start : (reselects : Bool) (me : Myself) (other : Option ℕ) → IsOfLines (calling_start reselects me other)
lines_start reselects me None = tt
lines_start reselects me (Some other) =
    lines_where (nat_lt other 8 && not (other == me.dev)) (due_at (me.since + QUIET_TIME + me.latency)
    (with_calling_mark reselects (record (ids_set me.dev other) { bsy = true; sel = true }))) refl

lines_caller : (me : Myself) (w : Want) (o : Option Calling) → IsOfLines (caller_due me w o)
lines_caller me w None = lines_start w.reselects me w.callee
lines_caller me w (Some c) = go c.released
  where
    go : (o : Option ℕ) → IsOfLines (unanswered_due me c o)
    go None = refl
    go (Some asked) = lines_if (is_none c.withdrawn) (withdrawal me asked) (calling_abort me) refl refl

lines_answered : (me : Myself) (w : Want) (c : Calling) (answered : ℕ) → IsOfLines (answered_due me w c answered)
lines_answered me w c answered = lines_if (not c.reselects) (selection_end me answered)
    (if is_none c.resumed then bsy_takeover me answered else reselection_end me w.first) refl
    (lines_if (is_none c.resumed) (bsy_takeover me answered) (reselection_end me w.first) refl refl)

-- A fault that is due strikes a called device.
pub record SamplesIds (dev : ℕ) (g : Stage) : Type 0 where
  pub c : Call
  pub k : Calling
  pub stage_is : g ≡ InCalling c
  pub calling_is : c.calling ≡ Some k
  pub called : (k.called == dev) ≡ true
  pub asked : is_called k ≡ true

fault_called : (bsy sel : ℕ) (me : Myself) (flip : Option ℕ) (c : Call) (x : Due)
    → called_due bsy sel me flip c.calling ≡ Some x → is_fault x.kind ≡ true → SamplesIds me.dev (InCalling c)
fault_called bsy sel me flip c x e f = by_option c.calling (λ ek. wrong'
    (sym (of_lines (loser_release sel me) x (lines_loser sel me) (sym (ap (called_due bsy sel me flip) ek) ∙ e)) ∙ f))
    (λ y ek. by_called y ek (y.called == me.dev) (is_called y) refl refl (sym (ap (called_due bsy sel me flip) ek) ∙ e))
  where
    by_called : (y : Calling) → c.calling ≡ Some y → (q r : Bool) → (y.called == me.dev) ≡ q → is_called y ≡ r
        → (if not q then loser_release sel me else if r then answer bsy me flip else None) ≡ Some x
        → SamplesIds me.dev (InCalling c)
    by_called y ek true true eq er z =
        record { c = c; k = y; stage_is = refl; calling_is = ek; called = eq; asked = er }
    by_called y ek true false eq er z = absurd (none_some x z)
    by_called y ek false r eq er z = wrong' (sym (of_lines (loser_release sel me) x (lines_loser sel me) z) ∙ f)

fault_linking : (b : LineSet) (bsy sel : ℕ) (me : Myself) (w : Want) (flip : Option ℕ) (g : Stage) (x : Due)
    → link_due_by b bsy sel me w flip g ≡ Some x → is_fault x.kind ≡ true → SamplesIds me.dev g
fault_linking b bsy sel me w flip (OnFreeBus free) x e f =
    wrong' (sym (of_lines (free_due me free w.since) x (lines_free me free w.since) e) ∙ f)
fault_linking b bsy sel me w flip (InArbitration a) x e f = wrong' (sym (of_lines (arbitration_due b me a w.since) x
    (lines_if me.own.bsy (win b me) (later_entry_if me a w.since) (lines_where (not (has_id_above b me.dev))
    (due_at (me.since + ARBITRATION_DELAY + me.latency) (record me.own { sel = true })) refl) (lines_late me a w.since))
    e) ∙ f)
fault_linking b bsy sel me w flip (InCalling c) x e f = go (c.caller == me.dev) e
  where
    go : (q : Bool) → (if q then caller_due me w c.calling else called_due bsy sel me flip c.calling) ≡ Some x
        → SamplesIds me.dev (InCalling c)
    go true z = wrong' (sym (of_lines (caller_due me w c.calling) x (lines_caller me w c.calling) z) ∙ f)
    go false z = fault_called bsy sel me flip c x z f
fault_linking b bsy sel me w flip (InAnswer c k answered) x e f = wrong'
    (sym (of_lines (answer_due sel me w c k answered) x (lines_if (c.caller == me.dev) (answered_due me w k answered)
    (if k.called == me.dev then None else loser_release sel me) (lines_answered me w k answered)
    (lines_if (k.called == me.dev) None (loser_release sel me) tt (lines_loser sel me))) e) ∙ f)
fault_linking b bsy sel me w flip (InConnection n) x e f = absurd (none_some x e)
fault_linking b bsy sel me w flip (InReset since) x e f = wrong' (sym (of_lines (bus_clear me since) x
    (lines_if (same_set me.own none) None (due_at (since + me.latency) none) tt refl) e) ∙ f)

-- ---- the calling of the stage

abbrev stage_calling : Stage → Option Call
stage_calling (InCalling c) = Some c
stage_calling _ = None

record IsCallOf (p : List Row) (c : Call) : Type 0 where
  call_is : call p ≡ Some c
  unanswered : (x : Calling) → c.calling ≡ Some x → is_none x.answered ≡ true

call_of_stage : (p : List Row) (c : Call) → (bus p).rst ≡ false → connection p ≡ None → stage p ≡ InCalling c
    → IsCallOf p c
call_of_stage p c calm alone e =
    by_call (call p) refl ((λ i. stage_by (sym calm i) t (sym alone i) (call p) (arbitration p) (free_since p)) ∙ e)
  where
    t : ℕ
    t = since_line (λ x. x.rst) p

    same : (y : Call) → (let o : Stage = InCalling y in o) ≡ InCalling c → y ≡ c
    same y z = same_Some y c (ap stage_calling z)

    by_answer : (y : Call) (g : Calling) → call p ≡ Some y → y.calling ≡ Some g → (o : Option ℕ) → g.answered ≡ o
        → answer_stage y g o ≡ InCalling c → IsCallOf p c
    by_answer y g ek eg None ea z = record {
      call_is = ek ∙ ap (λ (x : Call). Some x) (same y z);
      unanswered = λ h eh. ap is_none (ap (λ (x : Calling). x.answered)
          (same_Some h g (sym eh ∙ ap (λ (x : Call). x.calling) (sym (same y z)) ∙ eg)) ∙ ea);
    }
    by_answer y g ek eg (Some a) ea z = none_some c (ap stage_calling z)

    by_calling : (y : Call) → call p ≡ Some y → (o : Option Calling) → y.calling ≡ o → call_stage y o ≡ InCalling c
        → IsCallOf p c
    by_calling y ek None eo z = record {
      call_is = ek ∙ ap (λ (x : Call). Some x) (same y z);
      unanswered = λ h eh. none_some h (sym (ap (λ (x : Call). x.calling) (sym (same y z)) ∙ eo) ∙ eh);
    }
    by_calling y ek (Some g) eo z = by_answer y g ek eo g.answered refl z

    by_arbitration : (o : Option Arbitration) → stage_by false t None None o (free_since p) ≡ InCalling c → IsCallOf p c
    by_arbitration None z = none_some c (ap stage_calling z)
    by_arbitration (Some a) z = none_some c (ap stage_calling z)

    by_call : (o : Option Call) → call p ≡ o
        → stage_by false t None (call p) (arbitration p) (free_since p) ≡ InCalling c → IsCallOf p c
    by_call None eo z = by_arbitration (arbitration p)
        (sym (ap (λ (x : Option Call). stage_by false t None x (arbitration p) (free_since p)) eo) ∙ z)
    by_call (Some y) eo z = by_calling y eo y.calling refl
        (sym (ap (λ (x : Option Call). stage_by false t None x (arbitration p) (free_since p)) eo) ∙ z)

-- ---- so it is awaited

pub no_fault : (s : ScenarioValue) (p : List Row) (d : ℕ) (x : Due) → AreOfDevices p → d < 8 → (bus p).rst ≡ false
    → connection p ≡ None → awaited_ids s (since_line (λ y. y.bsy) p) (call p) ≡ None → unreset_due s p d ≡ Some x
    → is_fault x.kind ≡ false
no_fault s p d x dv lt calm alone none e = by_bool (is_fault x.kind) (λ f. absurd (asked f)) (λ f. f)
  where
    asked : is_fault x.kind ≡ true → ⊥
    asked f =
        let w = is_there s p d x e in
        let me : Myself = device_with d w.0 (drives p d) (own_time p d) in
        let z = fault_linking (bus p) (line_times p).bsy (line_times p).sel me (want_of s (run_state s p) d)
        (flip_of (run_state s p).faults ((line_times p).bsy + BUS_SETTLE_DELAY + w.0)) (stage p) x
        (sym (due_in s p d w.0 (drives p d) (stage p) dv lt w.1 alone refl refl) ∙ e) f in
        let y = call_of_stage p z.c calm alone z.stage_is in
        let at : latency_of s z.k.called ≡ Some w.0 = ap (latency_of s) (eqb-true z.k.called d z.called) ∙ w.1 in
        let is : is_asked z.k ≡ true = and_from (is_called z.k)
        (is_none z.k.answered) z.asked (y.unanswered z.k z.calling_is) in
        none_some _ (sym none ∙ ap (awaited_ids s (since_line (λ v. v.bsy) p)) y.call_is
        ∙ ap (ids_of s (since_line (λ v. v.bsy) p)) z.calling_is
        ∙ (λ i. if is i then ids_at (at i) z.k.called (since_line (λ v. v.bsy) p) else None))
