use Rattle.std.proofs.Common.{◌∷◌, ◌∙◌, sym, subst, List}
use Rattle.due_model.specs.RunSteps.{run_state, events_of_row}
use Rattle.story_model.specs.Items.{Sent}
use Rattle.initiator_books.specs.declared.endings.CommandEnd.{CommandEnd}
use Rattle.initiator_books.specs.Books.{my_book}
use Rattle.initiator_books.specs.Endings.{ends_after_from, AreEndingsOf}
use Rattle.initiator_books.proofs.EndingRows.{endings_go_on}
use Rattle.initiator_books.proofs.PastEndings.{from_is_all, past_have_ended}
use Rattle.initiator_books.proofs.endings.Endings.see.Goals as goal

pub returns-clause-trace : goal.returns-clause-trace
returns-clause-trace c = λ s rows row dev d book past at told h.
    let sent : Sent = (run_state s (row ∷ rows)).story.sent in
    subst (λ (z : List CommandEnd). AreEndingsOf s (row ∷ rows) dev z)
    (sym (c.after_row.ensures ∙ (λ i. ends_after_from c.args.past (book i) c.args.aim c.args.self.now (told i))
    ∙ from_is_all c.args.past (my_book s sent dev) c.args.aim c.args.self.now
    (events_of_row s rows row) (past_have_ended s rows dev sent c.args.self.now c.args.past h past)))
    (endings_go_on s rows row dev c.args.self.now c.args.aim (c.kept_is_plain.ensures.rows s rows d.1) d at h)
