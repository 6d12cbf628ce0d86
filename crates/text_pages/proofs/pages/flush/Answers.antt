use Rattle.std.proofs.Common.{sym, ◌∙◌, append-nil}
use Rattle.text_pages.proofs.Putting.{sent}
use Rattle.text_pages.proofs.pages.flush.Goals as goal

pub returns-clause-put : goal.returns-clause-put
returns-clause-put g c = sent _ _ _ _ c.send-page.ensures.sent c.send-page.ensures.never_falls
    (c.as_slice.ensures ∙ sym (append-nil _)) c.clear.ensures
