use Rattle.std.proofs.Common.{ℕ, refl, subst}
use Rattle.std.specs.Prelude.{Some, take}
use Rattle.disk_unit.specs.Books.{block_at}
use Rattle.tape_unit.specs.Drives.{drive_contents, drive_spare}
use Rattle.target_units.specs.Seated.{SeatedState, IsRun, is_reported_at, taken_at}
use Rattle.target_units.proofs.SeatSteps.{contents_after}
use Rattle.target_units.proofs.seated.SeatedUnit.run_key.Goals as goal

pub returns-clause-exact : goal.returns-clause-exact
returns-clause-exact c =
    let s = c.self.inside in
    let next = c.run-reply.new.self in
    let e = c.run-reply.ensures in
    let the_state : SeatedState = record {
      books = s.unit.books;
      contents = drive_contents s.unit.medium;
      spare = drive_spare s.unit.medium;
      pick = s.pick;
      reply = s.reply;
      since = s.since;
    } in
    let w : SeatedState = record {
      books = next.books;
      contents = drive_contents next.medium;
      spare = drive_spare next.medium;
      pick = s.pick;
      reply = Some c.run-reply.result;
      since = s.since;
    } in
    let ran : IsRun the_state c.args.key (take c.plan-taken.result.out_len c.args.sent.now) w = record {
      books = e.books;
      contents = contents_after (drive_contents s.unit.medium) (drive_contents next.medium)
          (block_at s.unit.books c.args.key) (take c.plan-taken.result.out_len c.args.sent.now)
          (is_reported_at s.unit.books c.args.key) (λ h i. drive_contents (e.reported h i))
          (λ h i. drive_contents (e.unchanged h i)) (λ f h. (e.changed f h).contents);
      pick = refl;
      reply = (λ i. Some (e.reply i));
      since = refl;
      spare = e.lowered;
    } in
    subst (λ (v : SeatedState). IsRun v c.args.key (take (taken_at v c.args.key) c.args.sent.now) w) c.self.view_is
    (subst (λ (n : ℕ). IsRun the_state c.args.key (take n c.args.sent.now) w)
    (λ i. (c.plan-taken.ensures i).out_len) ran)
