-- A connection begins: after a selection its initiator knows the process from the first.
use Rattle.book_laws.proofs
use proofs.Names.{◌≡◌, ◌⊎◌, inl, inr, Bool, true, false, not, ◌&&◌, ◌∙◌, None, refl, sym, ap, subst, true≢false}
use proofs.Names.{if◌then◌else◌, Row, Connection, ScenarioValue, first_link, events_link, row_reading, row_events_by}
use proofs.Names.{link_of, aim_of, story_on_bus, story_by_change, Exchange, no_messages, first_plan, RunState}
use proofs.Names.{run_state_after, first_exchange, exchange_after, served_after, may_negotiate, item_if, messages_if}
use proofs.Names.{leaving_of, ready_of, OnMessages, IsNoName, Knows, IsFirstRow}

pub knows_first : (s : ScenarioValue) (k : RunState) (row : Row) (n : Connection) → IsFirstRow k row n
    → Knows s (run_state_after s k row) n
knows_first s k row n h = record {
  link = link_of n (if n.reselected then None else aim_of k.story.aims n.initiator);
  link_is = events_link s (story_by_change s k.story (row_reading k.story.bus_state row) row)
      (row_events_by s k.story (row_reading k.story.bus_state row) row)
      ∙ ap
      (λ (q : Bool). (if q then record k.story { link = None } else story_on_bus s k.story k.story.bus_state.connection
      (row_reading k.story.bus_state row).next (row_reading k.story.bus_state row) row).link) h.calm
      ∙ (λ i. (story_on_bus s k.story (h.connection_is i) (h.next_is i) (row_reading k.story.bus_state row) row).link)
      ∙ first_link k.story n;
  initiator_is = refl;
  target_is = refl;
  nameless = λ e. subst (λ (x : Exchange). OnMessages IsNoName x.plan.messages) (sym made) (rw e (tt, tt));
  item_is = known n.reselected refl;
}
  where
    made : (run_state_after s k row).exchange ≡ first_exchange s k n (aim_of k.story.aims n.initiator)
    made = λ i. exchange_after s k row (row_reading k.story.bus_state row) (h.connection_is i) (h.next_is i)
        (leaving_of s k k.story.bus_state.connection)

    served : (run_state_after s k row).served
        ≡ (if n.reselected then item_if (ready_of s k n.target) else aim_of k.story.aims n.initiator)
    served = λ i. served_after s k (h.connection_is i) (h.next_is i)

    known : (q : Bool) → n.reselected ≡ q
        → ((if n.reselected then None else aim_of k.story.aims n.initiator) ≡ (run_state_after s k row).served)
        ⊎ ((n.reselected ≡ true) × ((if n.reselected then None else aim_of k.story.aims n.initiator) ≡ None))
    known true e = inr (e, ap (λ (q : Bool). if q then None else aim_of k.story.aims n.initiator) e)
    known false e = inl (ap (λ (q : Bool). if q then None else aim_of k.story.aims n.initiator) e ∙ sym
        (served ∙ ap (λ (q : Bool). if q then item_if (ready_of s k n.target) else aim_of k.story.aims n.initiator) e))
