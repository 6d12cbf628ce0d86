-- Before any row nothing was sent, told or kept.
use Rattle.transcript_laws.proofs
use proofs.Names.{[], refl, wrong', ScenarioValue, none_some, Standing, apart}

pub standing_first : (s : ScenarioValue) → Standing s []
standing_first s = record {
  numbered =
      record { keyed = λ name p e. none_some p e; counted = λ name p e. none_some p e; has_last = tt; distinct = tt };
  marked = λ id. record { refused = refl; shown = refl; apart = λ e. refl; saved = refl };
  stands = apart (record {
    opened_is = refl;
    link_is = refl;
    past = record { count = refl; known = tt; numbers = λ id name e. none_some name e; shown = λ refused h. refl };
    kept = λ id open_is but. wrong' open_is;
  });
}
