-- The bytes of replies, and when a command is carried out.
use Rattle.std.proofs.Common.{ℕ, ◌≡◌, ◌+◌, ◌-◌, ◌*◌, ◌≤◌, true, List, [], ◌∙◌, refl, sym, ap, arith}
use Rattle.std.proofs.Common.{length, take, drop, min}
use Rattle.std.specs.Prelude.{◌==◌}
use Rattle.std.proofs.lemmas.List.{drop-take, take-take, length-take}
use Rattle.cdb_codec.specs.declared.status.TheConstants.{GOOD}
use Rattle.cdb_codec.specs.declared.command.Command.{Command}
use Rattle.cdb_codec.specs.declared.replies.TheConstants.{SENSE_LEN, INQUIRY_LEN}
use Rattle.cdb_codec.specs.Blocks.{blocks_moved}
use Rattle.cdb_codec.specs.Replies.{sense_data, inquiry_data}
use Rattle.array_model.specs.Contents.{Contents, block_at}
use Rattle.array_model.specs.Execution.{no_sense, range_execution}
use Rattle.array_model.specs.Execution.{is_good_range, range_of}
use Rattle.disk_unit.specs.Disk.{command_reply, bytes_in, disk_context}
use Rattle.disk_unit.proofs.Parts.{length_bytes}
use Rattle.array_model.proofs.ExecutionFacts.{range_good}
use Rattle.cdb_codec.specs.declared.command.Command.TheVariants as commands

pub take_part : (n at m : ℕ) (bytes : List ℕ) → at + n ≤ m → take n (drop at (take m bytes)) ≡ take n (drop at bytes)
take_part n at m bytes h =
    let k : ℕ = m - at in
    let whole : m ≡ at + k = omega arith in
    (λ i. take n (drop at (take (whole i) bytes)))
    ∙ (λ i. take n (drop-take at k bytes i))
    ∙ take-take n k (drop at bytes) (omega arith)

clipped : (m n : ℕ) (bytes : List ℕ) → length bytes ≡ n → min m n ≡ length (take (min m n) bytes)
clipped m n bytes e =
    let h : length (take (min m n) bytes) ≡ min (min m n) (length bytes) = length-take (min m n) bytes in
    omega arith

moved : (c : Contents) → ((k : ℕ) → length (block_at c k) ≡ c.size) → (lba n r : ℕ) → r ≡ c.size
    → n * r ≡ length (Rattle.array_model.specs.Contents.bytes_at c lba n)
moved c w lba n r e = ap (λ (x : ℕ). n * x) e ∙ sym (length_bytes c w lba n)

pub reply_length : (c : Contents) → ((k : ℕ) → length (block_at c k) ≡ c.size) → (command : Command) (r : ℕ)
    → r ≡ c.size → bytes_in command r ≡ length (command_reply c command).bytes
reply_length c w commands.TestUnitReady r e = refl
reply_length c w (commands.RequestSense room) r e = clipped room SENSE_LEN (sense_data no_sense) refl
reply_length c w (commands.Read6 lba count) r e = moved c w lba (blocks_moved (commands.Read6 lba count)) r e
reply_length c w (commands.Write6 lba count) r e = refl
reply_length c w (commands.Inquiry room) r e = clipped room INQUIRY_LEN (inquiry_data true) refl
reply_length c w commands.ReadCapacity r e = refl
reply_length c w (commands.Read10 lba count) r e = moved c w lba count r e
reply_length c w (commands.Write10 lba count) r e = refl

-- A command without fault is carried out where its blocks are the unit's.
pub carried_out : (c : Contents) (command : Command)
    → is_good_range c.count (range_of command) ≡ ((range_execution (disk_context c) command []).reply.status == GOOD)
carried_out c command = range_good (disk_context c) command []
