use Rattle.std.proofs.Common.{◌∙◌, sym}
use Rattle.array_model.proofs.OperationCodes.{no_sense}
use Rattle.target_units.proofs.parts.is_sense.Goals as goal

pub returns-then-heeds_attention : goal.returns-then-heeds_attention
returns-then-heeds_attention c = no_sense c.args.cdb.now (sym c.heeds_attention.ensures ∙ c.if-heeds_attention.true)
