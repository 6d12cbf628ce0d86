-- Messages whose IDENTIFY, if there is one, names one of the eight logical units.
use Rattle.std.specs.Prelude.{Option, Some, None}
use Rattle.msg_grammar.specs.declared.message.MsgIn.{MsgIn}
use Rattle.msg_grammar.specs.Messages.{FitsIn}
use Rattle.due_model.specs.dialogue_model.specs.declared.exchange.Messages.{Messages}

abbrev pub FitsIf : Option MsgIn → Type 0
FitsIf None = Unit {0}
FitsIf (Some m) = FitsIn m

pub record AreFit (m : Messages) : Type 0 where
  pub first : FitsIf m.first
  pub second : FitsIf m.second
