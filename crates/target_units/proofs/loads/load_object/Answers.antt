use Rattle.std.proofs.Common.{ℕ, List, ◌∙◌, ap, length, subst, arith}
use Rattle.scenario.specs.declared.value.Load.{Load}
use Rattle.array_model.specs.Contents.{object_of}
use Rattle.array_model.specs.Reels.{IsWhole}
use Rattle.target_units.specs.Loads.{load_blocks}
use Rattle.target_units.proofs.Loading.{block_loaded, mark_loaded}
use Rattle.target_units.proofs.loads.load_object.Goals as goal

pub load_block-requires : goal.load_block-requires
load_block-requires c =
    let one = ap load_blocks c.in-Block.is in
    record {
      whole = ap (λ (bytes : List ℕ). length bytes) c.as_slice.ensures
          ∙ subst (λ (w : Load). IsWhole c.args.tape.now.tape.size (object_of w)) c.in-Block.is c.requires.whole;
      room = c.requires.room;
      spare = omega (arith, one, c.requires.spare);
    }

pub returns-in-Block-clause-tape : goal.returns-in-Block-clause-tape
returns-in-Block-clause-tape c = (block_loaded c.args.tape.now c.load_block.new.self c.args.what.now c.in-Block.bytes
    c.as_slice.result.now c.in-Block.is c.as_slice.ensures c.requires.whole c.requires.spare c.load_block.ensures).0

pub returns-in-Block-clause-spare : goal.returns-in-Block-clause-spare
returns-in-Block-clause-spare c = (block_loaded c.args.tape.now c.load_block.new.self c.args.what.now c.in-Block.bytes
    c.as_slice.result.now c.in-Block.is c.as_slice.ensures c.requires.whole c.requires.spare c.load_block.ensures).1

pub returns-in-Mark-clause-tape : goal.returns-in-Mark-clause-tape
returns-in-Mark-clause-tape c =
    (mark_loaded c.args.tape.now c.load_mark.new.self c.args.what.now c.in-Mark.is c.load_mark.ensures).0

pub returns-in-Mark-clause-spare : goal.returns-in-Mark-clause-spare
returns-in-Mark-clause-spare c =
    (mark_loaded c.args.tape.now c.load_mark.new.self c.args.what.now c.in-Mark.is c.load_mark.ensures).1
