use Rattle.std.proofs.Common.{◌≡◌, ◌∷◌, ◌∙◌, [], sym, subst, refl}
use Rattle.std.specs.Prelude.{◌==◌, is_some, true}
use Rattle.bus_trace.specs.Terms.{connection}
use Rattle.due_model.specs.dialogue_model.specs.Hearing.{hearing}
use Rattle.initiator.specs.Hosts.{HostValue, IsHostAfter}
use Rattle.initiator.proofs.Hosts.{is_initiator}
use Rattle.initiator.proofs.Still.{linked_goes_on, still_heard, others_tell_nothing}
use Rattle.initiator_books.specs.scsi_device.proofs.OwnRows.{others_rows}
use Rattle.initiator.proofs.host.Host.see_in_others.Goals as goal

pub returns-clause-trace : goal.returns-clause-trace
returns-clause-trace c = λ s rows m n o d stands stays first last calm other none h.
    let row = c.args.row.now in
    let g = subst (λ (z : HostValue). IsHostAfter s rows z) (sym c.self.view_is) h in
    let bus = c.view.ensures.trace (row ∷ rows) o in
    let before = c.kept_is_plain.ensures.rows s rows d.1 in
    let there : is_some (connection rows) ≡ true = (λ i. is_some (stands i)) in
    let quiet = others_tell_nothing c.self.inside.def.dev (hearing rows row) (connection rows) (connection (row ∷ rows))
    m n stands stays ((λ i. let z : HostValue = c.self.view_is i in m.initiator == z.def.dev) ∙ first)
    ((λ i. let z : HostValue = c.self.view_is i in n.initiator == z.def.dev) ∙ last) calm in
    linked_goes_on s rows row _ _ c.self.inside.itself c.see_in_connection.new.self refl refl refl before there
    (sym none) refl c.see_in_connection.ensures.dev c.see_in_connection.ensures.retries
    (others_rows s rows row c.self.inside.itself
    (λ e. other (e ∙ g.itself_dev ∙ (λ i. let z : HostValue = c.self.view_is i in z.def.dev))) g.itself_is)
    (c.see_in_connection.ensures.trace s rows bus d
    (is_initiator s c.self.inside.def _ _ g.line g.intent_dev g.intent_retries) there none g.intent_is) g
    (still_heard s rows row _ (hearing rows row) (connection rows)
    (connection (row ∷ rows)) [] before (c.kept_is_plain.ensures.rows s (row ∷ rows) d)
    (c.hearings_are_plain.ensures.hearing s rows row d.1 d.0) d refl refl refl (sym none) quiet g)
