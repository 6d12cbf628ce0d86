use Rattle.std.proofs.Common.{◌≡◌, ℕ, ◌+◌, ◌-◌, ◌≤◌, List, length, take, drop, arith}
use Rattle.std.proofs.lemmas.List.{length-drop, take_rest}
use borrow.Rule.Slice.PartMut.{put_mid}
use Rattle.array_model.specs.Contents.{bytes_at}
use Rattle.disk_unit.proofs.Parts.{more_read, length_put}
use Rattle.disk_unit.proofs.transfer.read_bytes.Goals as goal

pub loop-done-preserved : goal.loop-done-preserved
loop-done-preserved g c =
    let all : List ℕ = bytes_at (g.B.Blocks.contents c.args.blocks.now) c.args.lba c.args.count in
    let rest : take (length c.loop-done.into - c.loop-done.done) (drop c.loop-done.done c.loop-done.into)
    ≡ drop c.loop-done.done c.loop-done.into = take_rest c.loop-done.into c.loop-done.done in
    let left : length (drop c.loop-done.done c.loop-done.into) ≡ length c.loop-done.into - c.loop-done.done =
    length-drop c.loop-done.done c.loop-done.into in
    let within : c.read_rest-done.result ≤ length (drop c.loop-done.done c.loop-done.into) =
    (rw (← rest) c.read_rest-done.ensures.within) in
    let low : c.read_rest-done.result ≤ length c.loop-done.into - c.loop-done.done = omega arith in
    let same : length c.read_rest-done.new.into ≡ length (drop c.loop-done.done c.loop-done.into) =
    (rw (← rest) c.read_rest-done.auto.into) in
    let long : length
    (put_mid c.loop-done.done (length c.loop-done.into - c.loop-done.done) c.loop-done.into c.read_rest-done.new.into)
    ≡ length c.loop-done.into = length_put c.loop-done.into c.read_rest-done.new.into
    c.loop-done.done c.loop-done.invariant.in_range (omega arith) in
    let reach : c.args.at + length c.loop-done.into ≤ length all =
    (let a = c.loop-done.auto.into in let p = c.requires.part in omega arith) in
    record {
      in_range = omega arith;
      read = more_read all c.loop-done.into c.read_rest-done.new.into c.args.at c.loop-done.done c.read_rest-done.result
          (length c.loop-done.into - c.loop-done.done) c.loop-done.invariant.in_range c.loop-done.invariant.read low
          reach (rw (← rest) c.read_rest-done.ensures.read);
    }
