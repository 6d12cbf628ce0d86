use Rattle.std.proofs.Common.{◌≡◌, ℕ, ◌+◌, ◌-◌, ◌*◌, take, drop, arith, ap, sym, ◌∙◌}
use Rattle.array_model.specs.Contents.{Contents, with_bytes}
use Rattle.disk_unit.proofs.Parts.{more_written}
use Rattle.disk_unit.proofs.transfer.write_bytes.Goals as goal

pub loop-i-preserved : goal.loop-i-preserved
loop-i-preserved g c =
    let before : Contents = g.B.Blocks.contents c.loop-i.blocks in
    let after : Contents = g.B.Blocks.contents c.write_block.new.self in
    let size : c.size-size.result ≡ before.size = c.size-size.ensures.exact ∙ sym c.loop-i.invariant.size in
    let width : (c.loop-i.i * c.size-size.result + c.size-size.result) - c.loop-i.i * c.size-size.result
    ≡ c.size-size.result = omega arith in
    let same : take ((c.loop-i.i * c.size-size.result + c.size-size.result) - c.loop-i.i * c.size-size.result)
    (drop (c.loop-i.i * c.size-size.result) c.args.sent.now)
    ≡ take c.size-size.result (drop (c.loop-i.i * c.size-size.result) c.args.sent.now) = ap
    (λ (n : ℕ). take n (drop (c.loop-i.i * c.size-size.result) c.args.sent.now)) width in
    record {
      count = ap (λ (k : Contents). k.count) c.write_block.ensures.written ∙ c.loop-i.invariant.count;
      size = ap (λ (k : Contents). k.size) c.write_block.ensures.written ∙ c.loop-i.invariant.size;
      rest = more_written before after (with_bytes (g.B.Blocks.contents c.args.blocks.now) c.args.lba
          c.args.count c.args.sent.now) c.args.lba c.args.count c.loop-i.i c.size-size.result
          (take ((c.loop-i.i * c.size-size.result + c.size-size.result) - c.loop-i.i * c.size-size.result)
          (drop (c.loop-i.i * c.size-size.result) c.args.sent.now)) c.args.sent.now c.loop-i-test.true size same
          c.write_block.ensures.written c.loop-i.invariant.rest;
      room = (let a = c.write_block.ensures.lowered in let b = c.loop-i.invariant.room in omega arith);
    }
