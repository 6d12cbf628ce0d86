use Rattle.std.proofs.Common.{◌∙◌, subst}
use Rattle.cdb_codec.specs.Cdb.{command_of}
use Rattle.array_model.specs.Execution.{is_request_sense}
use Rattle.disk_unit.specs.Held.{held_extent}
use Rattle.disk_unit.specs.Units.{IsAccepted, entry_with}
use Rattle.tape_unit.specs.Drives.{drive_contents, drive_spare}
use Rattle.target_units.specs.Seated.{SeatedState, with_books}
use Rattle.target_units.proofs.SeatSteps.{arrived_by}
use Rattle.target_units.proofs.seated.SeatedUnit.arrive.Goals as goal

pub returns : goal.returns
returns c =
    let s = c.self.inside in
    let next = c.accept.new.self in
    let w : SeatedState = record {
      books = next.books;
      contents = drive_contents next.medium;
      spare = drive_spare next.medium;
      pick = s.pick;
      reply = s.reply;
      since = s.since;
    } in
    arrived_by c.args.self.now w (entry_with
    c.args.id c.args.from c.args.tag c.args.class (held_extent c.args.self.now.contents c.args.cdb.now))
    c.args.cdb.now c.accept.result ((λ i. record {
      books = next.books;
      contents = drive_contents (c.accept.ensures.medium i);
      spare = drive_spare (c.accept.ensures.medium i);
      pick = s.pick;
      reply = s.reply;
      since = s.since;
    }) ∙ (λ i. with_books (c.self.view_is i) next.books))
    (subst (λ (v : SeatedState). IsAccepted (is_request_sense (command_of c.args.cdb.now)) v.books
    (entry_with c.args.id c.args.from c.args.tag c.args.class (held_extent v.contents c.args.cdb.now)) c.args.cdb.now
    next.books c.accept.result) c.self.view_is c.accept.ensures.books)
