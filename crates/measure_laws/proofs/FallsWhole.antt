-- The measure falls with each row of a prompt trace: what all kinds of rows do, joined.
use Rattle.measure_laws.proofs
use proofs.{Names.{Falls}, Connections.Edges.{falls_by_edges}, Data.Entered.{falls_data_entered}}
use proofs.{Data.Left.{falls_data_left}, Turns.Edges.{falls_opening, falls_striking, falls_turning, falls_words}}
use proofs.Turns.Leavings.{leaving_by_kinds}

pub falls : Falls
falls = falls_by_edges falls_opening falls_striking
    (leaving_by_kinds falls_words falls_data_left falls_data_entered falls_turning)
