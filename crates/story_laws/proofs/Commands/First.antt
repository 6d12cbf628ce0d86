-- A connection begins: nothing of the command counts, and after a selection nothing of the block of its process is
-- taken (6.6.19).
use Rattle.story_laws.proofs
use proofs.Names.{◌≡◌, Bool, true, false, not, ◌&&◌, ◌∙◌, [], Option, Some, None, refl, sym, ap, subst, if◌then◌else◌}
use proofs.Names.{wrong, wrong', ProcId, Row, Connection, no_command, opened, dialogue_after, Dialogue, CommandBytes}
use proofs.Names.{ScenarioValue, events_link, row_reading, row_events_by, Item, process, abort, link_of, agreement_in}
use proofs.Names.{Story, aim_of, story_with_restored, story_with_sent, story_after_connection, story_on_bus}
use proofs.Names.{story_by_change, Exchange, no_messages, phase_of, first_plan, Next, Phase, RunState, bus_of}
use proofs.Names.{run_state_after, first_exchange, exchange_after, served_after, may_negotiate, item_if, messages_if}
use proofs.Names.{leaving_of, ready_of, AimsAreItems, IsFirstRow, Begins, none_some, in_phase, IsNone, IsNoneOrAll}
use proofs.Names.{dialogue_of, Counts, HasNoBlock, UndoesToNone, GivesFor, StandsIn, CommandBooks}
use proofs.Commands.Blocks.{block_in, undo_of, events_block, restored_own}

-- The pointers of its process are restored.
restored_first : (b : Story) (n : Connection) (id : ProcId) → n.reselected ≡ false
    → aim_of b.aims n.initiator ≡ Some (process id) → block_in (story_after_connection b n) id ≡ []
restored_first b n id e f = (λ i. block_in (if e i then record b { link = Some (link_of n None) }
    else story_with_restored (story_with_sent (record b { link = Some (link_of n (f i)) }) (f i)) (f i)) id)
    ∙ restored_own (story_with_sent (record b { link = Some (link_of n (Some (process id))) }) (Some (process id))) id

-- And nothing would be put back.
pub undo_first : (b : Story) (n : Connection) → undo_of (story_after_connection b n).link ≡ None
undo_first b n = go n.reselected (aim_of b.aims n.initiator)
  where
    go : (q : Bool) (item : Option Item) → undo_of (if q then record b { link = Some (link_of n None) }
        else story_with_restored (story_with_sent (record b { link = Some (link_of n item) }) item) item).link ≡ None
    go true item = refl
    go false None = refl
    go false (Some (process id)) = refl
    go false (Some (abort x)) = refl

pub first_keeps : (s : ScenarioValue) (k : RunState) (row : Row) (n : Connection) → AimsAreItems s k → Begins s k row n
    → CommandBooks s (run_state_after s k row) n
first_keeps s k row n aims b = go n.reselected refl
  where
    j : RunState
    j = run_state_after s k row

    f : IsFirstRow k row n
    f = b.first

    made : j.exchange ≡ first_exchange s k n (aim_of k.story.aims n.initiator)
    made = λ i. exchange_after s k row (row_reading k.story.bus_state row) (f.connection_is i) (f.next_is i)
        (leaving_of s k k.story.bus_state.connection)

    served : j.served ≡ (if n.reselected then item_if (ready_of s k n.target) else aim_of k.story.aims n.initiator)
    served = λ i. served_after s k (f.connection_is i) (f.next_is i)

    heard : dialogue_of j ≡ opened (agreement_in k.story.bus_state.agreed n.initiator n.target)
    heard = λ i. dialogue_after k.story.bus_state.dialogue (f.connection_is i) (f.next_is i)
        (λ x y. agreement_in k.story.bus_state.agreed x y) (row_reading k.story.bus_state row).change

    none : (q : CommandBytes → Type 0) → q no_command
        → (Counts q (dialogue_of j).heard) × (Counts q (dialogue_of j).at_phase)
    none q h = subst (λ (d : Dialogue). (Counts q d.heard) × (Counts q d.at_phase)) (sym heard)
        (record { now = h; void = λ x e. none_some x e }, record { now = h; void = λ x e. none_some x e })

    begun : j.exchange.begun ≡ n.reselected
    begun = ap (λ (x : Exchange). x.begun) made

    undo : UndoesToNone j.story.link
    undo l c e g =
        let is : undo_of j.story.link ≡ None =
        ap undo_of (events_link s (story_by_change s k.story (row_reading k.story.bus_state row) row)
        (row_events_by s k.story (row_reading k.story.bus_state row) row)) ∙ ap (λ (q : Bool). undo_of
        (if q then record k.story { link = None } else story_on_bus s k.story k.story.bus_state.connection
        (row_reading k.story.bus_state row).next (row_reading k.story.bus_state row) row).link) f.calm ∙ (λ i. undo_of
        (story_on_bus s k.story (f.connection_is i) (f.next_is i) (row_reading k.story.bus_state row) row).link)
        ∙ undo_first k.story n in
        none_some c (sym (sym (ap undo_of e) ∙ is) ∙ g)

    block : n.reselected ≡ false → HasNoBlock j
    block e id g = events_block s (story_by_change s k.story (row_reading k.story.bus_state row) row)
        (row_events_by s k.story (row_reading k.story.bus_state row) row) id
        ∙ ap (λ (q : Bool). block_in
        (if q then record k.story { link = None } else story_on_bus s k.story k.story.bus_state.connection
        (row_reading k.story.bus_state row).next (row_reading k.story.bus_state row) row) id) f.calm
        ∙ (λ i. block_in
        (story_on_bus s k.story (f.connection_is i) (f.next_is i) (row_reading k.story.bus_state row) row) id)
        ∙ restored_first k.story n id e (sym
        (served ∙ ap (λ (q : Bool). if q then item_if (ready_of s k n.target) else aim_of k.story.aims n.initiator) e)
        ∙ g)

    go : (q : Bool) → n.reselected ≡ q → CommandBooks s j n
    go true e =
        let on : phase_of (bus_of j) ≡ _ = in_phase (bus_of j) (b.names e) in
        let next : j.exchange.plan.next ≡ Next.GoOn = ap (λ (x : Exchange). x.plan.next) made
        ∙ ap (λ (q : Bool). (first_plan q (not q && may_negotiate k n (aim_of k.story.aims n.initiator))
        (if q then messages_if (ready_of s k n.target) else no_messages)).next) e in
        let counts = none IsNoneOrAll refl in
        record {
          serves = λ z. wrong (sym e ∙ z);
          unbegun = λ z. wrong (sym (begun ∙ e) ∙ z);
          begun = λ z. subst (λ (m : Phase). StandsIn s j n m) (sym on) (subst (λ (x : Next). GivesFor s j n x)
              (sym next) (record { now = counts.0.now; given = λ y. counts.0 }));
        }
    go false e =
        let a = b.selects e in
        let counts = none IsNone refl in
        record {
          serves = λ z. record {
            item = a.item;
            served_is = served
                ∙ ap (λ (q : Bool). if q then item_if (ready_of s k n.target) else aim_of k.story.aims n.initiator) e
                ∙ a.aim_is;
            item_is = aims n.initiator a.item a.aim_is;
          };
          unbegun = λ z. record { selected = e; heard = counts.0; at_phase = counts.1; block = block e; undo = undo };
          begun = λ z. wrong' (sym (begun ∙ e) ∙ z);
        }
