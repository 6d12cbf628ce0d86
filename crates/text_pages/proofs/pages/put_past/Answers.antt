use Rattle.std.proofs.Common.{refl, ap, sym, ◌∙◌, ◌++◌}
use Rattle.text_pages.proofs.Putting.{and_then, held, sent}
use Rattle.text_pages.proofs.pages.put_past.Goals as goal

pub returns-then-has_added : goal.returns-then-has_added
returns-then-has_added g c =
    and_then c.flush.ensures.put (held _ _ _ refl refl refl (c.if-has_added.ensures.added refl))

pub returns : goal.returns
returns g c = and_then c.flush.ensures.put (sent _ _ _ _ c.send-page.ensures.sent c.send-page.ensures.never_falls
    (ap (λ h. h ++ c.args.text.now) (sym c.flush.ensures.clear))
    (c.if-has_added.ensures.kept refl ∙ c.flush.ensures.clear))
