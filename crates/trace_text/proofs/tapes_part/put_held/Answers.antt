use Rattle.std.proofs.Common.{◌≡◌, Some, None, MatchOption, subst, ap}
use Rattle.array_model.specs.Reels.{block_at}
use Rattle.trace_text.specs.TapeText.{held_text}
use Rattle.text_pages.proofs.Putting.{put_as}
use Rattle.trace_text.proofs.Reeled.{block_there, mark_there}
use Rattle.trace_text.proofs.tapes_part.put_held.Goals as goal

pub returns-in-None : goal.returns-in-None
returns-in-None g c =
    let objects = c.args.tape.now.tape.reel.objects in
    let none = subst (λ o. MatchOption o (block_at objects c.args.n ≡ None)
    (λ bytes. block_at objects c.args.n ≡ Some bytes.now)) c.in-None.is c.object.ensures in
    put_as _ c.put.ensures (ap held_text (mark_there objects c.args.n none))

pub returns-in-Some : goal.returns-in-Some
returns-in-Some g c =
    let objects = c.args.tape.now.tape.reel.objects in
    let some = subst (λ o. MatchOption o (block_at objects c.args.n ≡ None)
    (λ bytes. block_at objects c.args.n ≡ Some bytes.now)) c.in-Some.is c.object.ensures in
    put_as _ c.put_hex.ensures (ap held_text (block_there objects c.args.n _ some))
