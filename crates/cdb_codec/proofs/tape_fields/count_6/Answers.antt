use Rattle.std.proofs.Common.{rules, ◌≡◌, ◌<◌, ◌^◌, ℕ, sym, subst}
use Rattle.cdb_codec.specs.TapeCdb.{count_6}
use Rattle.cdb_codec.proofs.Counts.{count_fits}
use Rattle.cdb_codec.proofs.tape_fields.count_6.Goals as goal

pub returns-clause-fits : goal.returns-clause-fits
returns-clause-fits c =
    let bytes = c.args.bytes.now in
    let is : c.read_u24.result ≡ count_6 bytes = search (rules, c.read_u24.ensures) in
    subst (λ (n : ℕ). n < 2 ^ 24) (sym is) (count_fits bytes (λ k. search rules))
