use Rattle.array_model.proofs.Touched.{blank_plain, length_plain, block_same, read_plain, write_plain, size_kept}
use Rattle.array_model.proofs.plain.contents_are_plain_blocks.Goals as goal

pub returns : goal.returns
returns c = record {
  start = blank_plain;
  all = length_plain;
  block = block_same;
  read = read_plain;
  write = write_plain;
  kept = size_kept;
}
