use Rattle.std.proofs.Common.{rules, ◌≡◌, sym, subst, w32, FitsSigned, arith}
use Rattle.std.proofs.lemmas.Int.{ints}
use Rattle.cdb_codec.specs.TapeCdb.{FitsSigned24, signed_count_6}
use Rattle.cdb_codec.proofs.Counts.{signed_fits}
use Rattle.cdb_codec.proofs.tape_fields.signed_count_6.Goals as goal

pub returns-clause-fits : goal.returns-clause-fits
returns-clause-fits c =
    let bytes = c.args.bytes.now in
    let is : c.read_i24.result ≡ signed_count_6 bytes = search (rules, c.read_i24.ensures) in
    let fits : FitsSigned24 c.read_i24.result = subst FitsSigned24 (sym is) (signed_fits bytes (λ k. search rules)) in
    let low = fits.0 in
    let high = fits.1 in
    let word : FitsSigned w32 c.read_i24.result = search rules in
    (omega (arith, ints), omega (arith, ints))
