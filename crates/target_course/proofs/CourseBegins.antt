-- The course of a connection as it begins.
use Rattle.std.proofs.Common.{ℕ, ◌≡◌, ◌∙◌, ◌==◌, Bool, true, false, List, ◌∷◌, refl, sym, subst, Option, Some, None}
use Rattle.std.specs.Prelude.{if◌then◌else◌, not, ◌&&◌}
use Rattle.std.proofs.lemmas.Bool.{eqb-true, and_parts}
use Rattle.bus_base.specs.declared.ProcId.{ProcId}
use Rattle.bus_trace.specs.declared.Row.{Row}
use Rattle.bus_trace.specs.declared.connection.Connection.{Connection}
use Rattle.bus_trace.specs.Terms.{connection}
use Rattle.scenario.specs.declared.value.Tag.{Tag}
use Rattle.scenario.specs.declared.value.Tag.TheVariants as tags
use Rattle.scenario.specs.Value.{ScenarioValue}
use Rattle.array_model.specs.Processes.{Process}
use Rattle.array_model.proofs.SeatLookups.{same_id_is}
use Rattle.due_model.specs.story_model.specs.BusState.{RowReading, row_reading}
use Rattle.due_model.specs.story_model.specs.Items.{Item, process, abort}
use Rattle.due_model.specs.story_model.specs.TraceHistory.{aim_of}
use Rattle.due_model.specs.dialogue_model.specs.Wants.{Ready}
use Rattle.due_model.specs.dialogue_model.specs.Words.{naming_messages}
use Rattle.due_model.specs.dialogue_model.specs.Planning.{first_plan}
use Rattle.due_model.specs.Faithful.{faithful, is_faithful, is_true_beginning, has_ends, same_process}
use Rattle.due_model.specs.LastingState.{has_negotiated}
use Rattle.due_model.specs.Plain.{IsPlain}
use Rattle.due_model.specs.RunState.{RunState, item_of, process_item, process_served}
use Rattle.due_model.specs.RunSteps.{run_state, served_after, is_for_process, item_if, may_negotiate, naming_of}
use Rattle.due_model.specs.RunSteps.{messages_if}
use Rattle.due_model.specs.Sights.{hearing_of}
use Rattle.due_model.specs.Wants.{ready_of}
use Rattle.target_units.specs.scsi_device.specs.Heard.{Instructions, no_instructions, instructions, instructions_after}
use Rattle.target_units.specs.scsi_device.specs.Heard.{is_of_scenario}
use Rattle.target_course.specs.declared.course.Name.{Name}
use Rattle.target_course.specs.Plans.{plan_at}
use Rattle.target_course.specs.Courses.{name_of, naming, course_selected, course_reselected, IsTold, IsOfProcess}
use Rattle.target_course.specs.Courses.{HasEnds, IsCourse, IsReadyProcess, IsLabelOf}
use Rattle.target_course.proofs.Heard.{plan_begins}

-- ---- the ends

pub ends_in : (n : Connection) (p : Process) → has_ends (Some p) n ≡ true → HasEnds n p
ends_in n p e =
    let both = and_parts (p.initiator == n.initiator) (p.target == n.target) e in
    record { initiator = eqb-true p.initiator n.initiator both.0; target = eqb-true p.target n.target both.1 }

ends_begin : (s : ScenarioValue) (rows : List Row) (row : Row) (n : Connection) (p : Process)
    → IsPlain s rows (run_state s rows) → IsPlain s (row ∷ rows) (run_state s (row ∷ rows))
    → connection rows ≡ None → connection (row ∷ rows) ≡ Some n → faithful s (row ∷ rows) ≡ true
    → process_served s (run_state s (row ∷ rows)) ≡ Some p → HasEnds n p
ends_begin s rows row n p a b x y f e =
    let k : RunState = run_state s rows in
    let d : RowReading = row_reading k.story.bus_state row in
    let last = and_parts (faithful s rows) (is_faithful s k d) f in
    let first = and_parts (is_true_beginning s k k.story.bus_state.connection d.next) _ last.1 in
    let begun : has_ends (process_item s (served_after s k None (Some n))) n ≡ true =
    (λ i. is_true_beginning s k (sym (a.connection ∙ x) i) (sym (b.connection ∙ y) i)) ∙ first.0 in
    let served : process_served s (run_state s (row ∷ rows)) ≡ process_item s (served_after s k None (Some n)) =
    (λ i. process_item s (served_after s k ((a.connection ∙ x) i) ((b.connection ∙ y) i))) in
    ends_in n p ((λ i. has_ends ((sym e ∙ served) i) n) ∙ begun)

-- ---- the label

label_is : (x y : Option Item) (id : ProcId) → IsLabelOf y id → same_process x y ≡ true → IsLabelOf x id
label_is None y id l e = record { process_is = λ i f. cc; abort_is = λ n f. cc }
label_is (Some (process i)) None id l e = absurd cc
label_is (Some (abort m)) None id l e = absurd cc
label_is (Some (process i)) (Some (abort m)) id l e = absurd cc
label_is (Some (abort m)) (Some (process j)) id l e = absurd cc
label_is (Some (process i)) (Some (process j)) id l e = record {
  process_is = λ z f. let same : i ≡ z = cc in l.process_is j refl ∙ sym (same_id_is i j e) ∙ same;
  abort_is = λ n f. cc;
}
label_is (Some (abort m)) (Some (abort n)) id l e =
    record { process_is = λ z f. cc; abort_is = λ z f. l.abort_is n refl }

-- ---- a selection

pub course_is_selected :
    (s : ScenarioValue) (rows : List Row) (row : Row) (n : Connection) (id : ProcId) (negotiates : Bool)
    → IsPlain s rows (run_state s rows) → IsPlain s (row ∷ rows) (run_state s (row ∷ rows)) → connection rows ≡ None
    → connection (row ∷ rows) ≡ Some n → n.reselected ≡ false → faithful s (row ∷ rows) ≡ true
    → same_process (run_state s (row ∷ rows)).served (item_of (run_state s (row ∷ rows)).story.link) ≡ true
    → IsLabelOf (item_of (run_state s (row ∷ rows)).story.link) id
    → negotiates ≡ not (has_negotiated (run_state s rows).negotiated n.initiator n.target)
    → IsCourse s (row ∷ rows) n (course_selected id negotiates)
course_is_selected s rows row n id negotiates a b x y r f known label z = record {
  label_is = label_is next.served (item_of next.story.link) id label known;
  ends_are = λ p e. ends_begin s rows row n p a b x y f e;
  plan_is = λ i. record (sym planned i) { negotiates = negotiates };
  negotiates_is = λ e. z
      ∙ (λ i. sym (sym (λ j. is_for_process (aimed j)) ∙ e) i && not (has_negotiated k.negotiated n.initiator n.target))
      ∙ (λ i. (sym planned i).negotiates);
  told = λ e. subst (λ (u : Instructions). IsTold u (course_selected id negotiates)) (sym told)
      (record { named = refl; block = refl; known = refl });
  current = λ e. absurd cc;
}
  where
    k : RunState
    k = run_state s rows

    d : RowReading
    d = row_reading k.story.bus_state row

    next : RunState
    next = run_state s (row ∷ rows)

    aim : Option Item
    aim = aim_of k.story.aims n.initiator

    aimed : next.served ≡ aim
    aimed = (λ i. served_after s k ((a.connection ∙ x) i) ((b.connection ∙ y) i))
        ∙ (λ i. if r i then item_if (ready_of s k n.target) else aim)

    planned : plan_at s (row ∷ rows) ≡ first_plan false (may_negotiate k n aim) (naming_of s k n)
    planned = plan_begins s rows row n a b x y
        ∙ (λ i. first_plan (r i) (not (r i) && may_negotiate k n aim) (naming_of s k n))

    told : instructions s (row ∷ rows) ≡ no_instructions
    told = (λ i. instructions_after ((a.connection ∙ x) i) ((b.connection ∙ y) i) (hearing_of k row d) k.exchange.plan
        (instructions s rows)) ∙ (λ i. record no_instructions { known = r i })

-- ---- a reselection

naming_is : (p : Process) → naming_messages p ≡ naming (name_of p)
naming_is p = go p.tag
  where
    go : (tag : Tag) → naming_messages (record p { tag = tag }) ≡ naming (name_of (record p { tag = tag }))
    go tags.Untagged = refl
    go (tags.Simple m) = refl
    go (tags.Ordered m) = refl
    go (tags.Head m) = refl

pub course_is_reselected :
    (s : ScenarioValue) (rows : List Row) (row : Row) (n : Connection) (id : ProcId) (name : Name) (cdb : List ℕ)
    → IsPlain s rows (run_state s rows) → IsPlain s (row ∷ rows) (run_state s (row ∷ rows))
    → connection rows ≡ None → connection (row ∷ rows) ≡ Some n → n.reselected ≡ true
    → faithful s (row ∷ rows) ≡ true → is_of_scenario s (run_state s (row ∷ rows)).served ≡ true
    → ((q : Ready) → ready_of s (run_state s rows) n.target ≡ Some q → IsReadyProcess s q id name cdb)
    → IsCourse s (row ∷ rows) n (course_reselected id name cdb)
course_is_reselected s rows row n id name cdb a b x y r f there ready = go (ready_of s k n.target) refl
  where
    k : RunState
    k = run_state s rows

    d : RowReading
    d = row_reading k.story.bus_state row

    next : RunState
    next = run_state s (row ∷ rows)

    aimed : next.served ≡ item_if (ready_of s k n.target)
    aimed = (λ i. served_after s k ((a.connection ∙ x) i) ((b.connection ∙ y) i))
        ∙ (λ i. if r i then item_if (ready_of s k n.target) else aim_of k.story.aims n.initiator)

    planned : plan_at s (row ∷ rows) ≡ first_plan true false (messages_if (ready_of s k n.target))
    planned = plan_begins s rows row n a b x y
        ∙ (λ i. first_plan (r i) (not (r i) && may_negotiate k n (aim_of k.story.aims n.initiator))
        (if r i then messages_if (ready_of s k n.target) else record { first = None; second = None }))

    told : instructions s (row ∷ rows) ≡ record no_instructions { known = true }
    told = (λ i. instructions_after ((a.connection ∙ x) i) ((b.connection ∙ y) i) (hearing_of k row d) k.exchange.plan
        (instructions s rows)) ∙ (λ i. record no_instructions { known = r i })

    of_process : (q : Ready) → IsReadyProcess s q id name cdb → (p : Process) → q.process ≡ p
        → IsOfProcess (record no_instructions { known = true }) p (course_reselected id name cdb)
    of_process q h p e = record {
      named = λ i. Some ((h.name_is ∙ (λ j. name_of (e j))) i);
      block = h.cdb_is ∙ (λ j. (e j).cdb);
      known = refl;
      since = refl;
    }

    go : (z : Option Ready) → ready_of s k n.target ≡ z → IsCourse s (row ∷ rows) n (course_reselected id name cdb)
    go None e =
        let none : next.served ≡ None = aimed ∙ (λ i. item_if (e i)) in
        let nothing : false ≡ true = (λ i. is_of_scenario s (sym none i)) ∙ there in
        absurd cc
    go (Some q) e =
        let h : IsReadyProcess s q id name cdb = ready q e in
        let served : process_served s next ≡ Some q.process = (λ i. process_item s ((aimed ∙ (λ j. item_if (e j))) i))
        ∙ h.is in
        let plan : plan_at s (row ∷ rows) ≡ first_plan true false (naming name) = planned
        ∙ (λ i. first_plan true false (messages_if (e i)))
        ∙ (λ i. first_plan true false ((naming_is q.process ∙ (λ j. naming (sym h.name_is j))) i)) in
        record {
          label_is = record {
            process_is = λ z g.
                let item : Some (process q.process.id) ≡ Some (process z) = sym (aimed ∙ (λ i. item_if (e i))) ∙ g in
                let same : q.process.id ≡ z = cc in
                h.id_is ∙ same;
            abort_is = λ m g.
                let item : Some (process q.process.id) ≡ Some (abort m) = sym (aimed ∙ (λ i. item_if (e i))) ∙ g in
                cc;
          };
          ends_are = λ p g. ends_begin s rows row n p a b x y f g;
          plan_is = λ i. record (sym plan i) { negotiates = false };
          negotiates_is = λ g. λ i. (sym plan i).negotiates;
          told = λ g. absurd cc;
          current = λ g p m.
              let same : q.process ≡ p = let both : Some q.process ≡ Some p = sym served ∙ m in cc in
              subst (λ (u : Instructions). IsOfProcess u p (course_reselected id name cdb)) (sym told)
              (of_process q h p same);
        }
