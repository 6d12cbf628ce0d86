use Rattle.delivery_laws.proofs
use proofs.{Names.{◌∷◌}, Openings.{Facts.{offers_settled, opening_told}, Offers.{offer_answered}}}
use proofs.Recoveries.Rows.{prompt_at}
use Rattle.delivery_laws.proofs.laws.openings_are_said.Goals as goal

pub returns-clause-said : goal.returns-clause-said
returns-clause-said c = λ s rows o prompt later before row n split w turns selects out cause.
    opening_told s before row n o (prompt_at s rows later (row ∷ before) prompt split) w turns selects out cause

pub returns-clause-replied : goal.returns-clause-replied
returns-clause-replied c = λ s rows o prompt later before row n offer split w e selected none offers.
    offer_answered s before row n offer o (prompt_at s rows later (row ∷ before) prompt split) w e selected none offers

pub returns-clause-answered : goal.returns-clause-answered
returns-clause-answered c = λ s rows o prompt later before n split con off b low. offers_settled s before n o
    (prompt_at s rows later before prompt split) con off b low
