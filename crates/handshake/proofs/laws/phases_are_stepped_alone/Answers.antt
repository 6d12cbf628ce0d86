use Rattle.handshake.proofs.Apart.{attention, leaving}
use Rattle.handshake.proofs.laws.phases_are_stepped_alone.Goals as goal

pub returns-clause-attention : goal.returns-clause-attention
returns-clause-attention c = attention

pub returns-clause-leaving : goal.returns-clause-leaving
returns-clause-leaving c = leaving
