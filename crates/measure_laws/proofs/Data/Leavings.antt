-- How DATA is left for STATUS or MESSAGE IN: its run is done, or a byte of DATA OUT was struck, and the run is not
-- done.
use Rattle.measure_laws.proofs
use proofs.Names.{ℕ, ◌≡◌, ◌≤◌, ◌<◌, ◌⊎◌, ◌∙◌, inl, inr, Bool, true, false, Option, Some, None, refl, sym, ap, arith}
use proofs.Names.{subst, ltb-true, same_Some, ◌+◌, ◌*◌, ◌==◌, if◌then◌else◌, nat_lt, wrong, Policy, policy_of, runs_in}
use proofs.Names.{runs_in_all, Serving, phase_leaving, Leaving, Phase, Task, none_some, is_data_phase, reselection_if}
use proofs.Turns.Table.{left_of}
use Rattle.progress_laws.specs.link_laws.proofs.LeavingWays as ways

-- More runs are left after the present one.
abbrev pub has_more : Serving → Task → Bool
has_more v t = nat_lt (t.runs + 1) (runs_in_all (policy_of v.def) t)

pub data DataLeaving (v : Serving) (l : Leaving) : Type 0 where
  run_done : (t : Task) → v.task ≡ Some t → l.done ≡ true → left_of l + 128 ≤ 3 * 128 + reselection_if (has_more v t)
      → DataLeaving v l
  run_struck : v.plan.struck ≡ true → l.done ≡ false → left_of l ≤ 4 * 128 → DataLeaving v l

pub no_data : {A : Type 0} (phase : Phase) → is_data_phase phase ≡ false
    → (phase ≡ Phase.DataIn) ⊎ (phase ≡ Phase.DataOut) → A
no_data phase e (inl z) = wrong (sym (ap is_data_phase z) ∙ e)
no_data phase e (inr z) = wrong (sym (ap is_data_phase z) ∙ e)

done : {v : Serving} {l : Leaving} (t : Task) (more : Bool) → ways.DoneRun v t more → l.done ≡ true
    → left_of l + 128 ≤ 3 * 128 + reselection_if more → DataLeaving v l
done {l = l} t more r e h =
    run_done t r.task_is e (subst (λ (q : Bool). left_of l + 128 ≤ 3 * 128 + reselection_if q) (sym r.more_is) h)

leaving : {v : Serving} {attention : Bool} {phase : Phase} {l : Leaving} (next : Phase)
    → ways.Leaves v attention phase l → (phase ≡ Phase.DataIn) ⊎ (phase ≡ Phase.DataOut) → l.to ≡ Some next
    → (next ≡ Phase.MessageOut → ⊥) → DataLeaving v l
leaving next (ways.attended _ _ _) here to other = absurd (other (sym (same_Some Phase.MessageOut next to)))
leaving next (ways.unserved _ _) here to other = none_some next to
leaving next (ways.restores _ _ _ (ways.data_out s)) here to other = run_struck s refl (omega arith)
leaving next (ways.gives_up _ _ (ways.data_out s)) here to other = run_struck s refl (omega arith)
leaving next (ways.saves _ t _ r _) here to other = done t true r refl (omega arith)
leaving next (ways.disconnects _ t _ r _) here to other = done t true r refl (omega arith)
leaving next (ways.ends_runs _ t _ r) here to other = done t false r refl (omega arith)
leaving next (ways.reads _ _ (ways.planned _ _) _) here to other = no_data Phase.MessageIn refl here
leaving next (ways.writes _ _ (ways.planned _ _) _) here to other = no_data Phase.MessageIn refl here
leaving next (ways.moves_none _ _ (ways.planned _ _) _) here to other = no_data Phase.MessageIn refl here
leaving next _ here to other = no_data _ refl here

pub data_leaving : (v : Serving) (attention : Bool) (phase next : Phase)
    → (phase ≡ Phase.DataIn) ⊎ (phase ≡ Phase.DataOut) → (phase_leaving v attention phase).to ≡ Some next
    → (next ≡ Phase.MessageOut → ⊥) → DataLeaving v (phase_leaving v attention phase)
data_leaving v attention phase next = leaving next (ways.leaves v attention phase)

-- ---- nor is it left for DATA

abbrev is_data_next : Option Phase → Bool
is_data_next None = false
is_data_next (Some phase) = is_data_phase phase

leads_out : {v : Serving} {attention : Bool} {phase : Phase} {l : Leaving} → ways.Leaves v attention phase l
    → (phase ≡ Phase.DataIn) ⊎ (phase ≡ Phase.DataOut) → is_data_next l.to ≡ false
leads_out (ways.reads _ _ (ways.planned _ _) _) here = no_data Phase.MessageIn refl here
leads_out (ways.reads _ _ (ways.at_once _ _) _) here = no_data Phase.Command refl here
leads_out (ways.reads _ _ (ways.guest _ _) _) here = no_data Phase.Command refl here
leads_out (ways.writes _ _ (ways.planned _ _) _) here = no_data Phase.MessageIn refl here
leads_out (ways.writes _ _ (ways.at_once _ _) _) here = no_data Phase.Command refl here
leads_out (ways.writes _ _ (ways.guest _ _) _) here = no_data Phase.Command refl here
leads_out _ here = refl

pub data_out_of : (v : Serving) (attention : Bool) (phase : Phase) → (phase ≡ Phase.DataIn) ⊎ (phase ≡ Phase.DataOut)
    → (next : Phase) → (phase_leaving v attention phase).to ≡ Some next → is_data_phase next ≡ false
data_out_of v attention phase here next to = sym (ap is_data_next to) ∙ leads_out (ways.leaves v attention phase) here

-- ---- more runs are left only where its blocks are moved in some

pub record HasMore (policy : Policy) (t : Task) : Type 0 where
  pub moves : (t.moved == 0) ≡ false
  pub blocks : ℕ
  pub blocks_are : t.blocks ≡ Some blocks
  pub few : t.runs + 1 < runs_in policy t.blocks

pub more_left : (policy : Policy) (t : Task) → nat_lt (t.runs + 1) (runs_in_all policy t) ≡ true → HasMore policy t
more_left policy t e = go (t.moved == 0) refl t.blocks refl (ltb-true (t.runs + 1) (runs_in_all policy t) e)
  where
    go : (q : Bool) → (t.moved == 0) ≡ q → (o : Option ℕ) → t.blocks ≡ o
        → t.runs + 1 < (if t.moved == 0 then 0 else runs_in policy t.blocks) → HasMore policy t
    go true f o g z = absurd (nothing (t.runs + 1) (if t.moved == 0 then 0 else runs_in policy t.blocks)
        (λ i. if f i then 0 else runs_in policy t.blocks) z)
      where
        nothing : (a b : ℕ) → b ≡ 0 → a < b → ⊥
        nothing a b h k = omega (arith, h, k)
    go false f None g z = absurd (one t.runs (if t.moved == 0 then 0 else runs_in policy t.blocks)
        (λ i. if f i then 0 else runs_in policy (g i)) z)
      where
        one : (a b : ℕ) → b ≡ 1 → a + 1 < b → ⊥
        one a b h k = omega (arith, h, k)
    go false f (Some blocks) g z = record {
      moves = f;
      blocks = blocks;
      blocks_are = g;
      few = less (t.runs + 1) (if t.moved == 0 then 0 else runs_in policy t.blocks) (runs_in policy t.blocks)
          (λ i. if f i then 0 else runs_in policy t.blocks) z;
    }
      where
        less : (a b c : ℕ) → b ≡ c → a < b → a < c
        less a b c h k = omega (arith, h, k)
