-- The text of what is wrong with a block.
use Rattle.std.specs.Prelude.{ℕ, List, codes}
use Rattle.cdb_codec.specs.declared.command.CdbFault.{CdbFault}
use Rattle.cdb_codec.specs.declared.command.CdbFault.TheVariants.{Opcode, Length, Field}

abbrev pub cdb_fault_text : CdbFault → List ℕ
cdb_fault_text Opcode = codes "no operation code that is known"
cdb_fault_text Length = codes "not as many bytes as the operation code's group has"
cdb_fault_text Field = codes "a bit that must be 0 is not"
