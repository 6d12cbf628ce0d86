use Rattle.std.proofs.Common.{ap, ◌∙◌, sym, refl, ℕ, ◌≡◌, ◌&&◌, ◌||◌, Bool, true, false, arith}
use Rattle.std.specs.Prelude.{◌==◌}
use Rattle.std.specs.List.{list_any}
use Rattle.std.specs.Ordering.{nat_cmp}
use Rattle.std.proofs.lemmas.Bool.{ne_eqb}
use Rattle.std.proofs.lemmas.Map.Lookups.{exact_unsigned}
use Rattle.scenario.specs.Value.{ScenarioValue}
use Rattle.scenario.specs.Index.{block_number}
use Rattle.scenario.specs.Lookups.{has_fill}
use Rattle.scenario.proofs.Insert.{any-insert_key, number_same, has-push}
use Rattle.scenario.proofs.index.add_fill.Goals as goal

no_block : (b : Bool) → ((b && false) || false) ≡ false
no_block true = refl
no_block false = refl

pub returns-clause-index : goal.returns-clause-index
returns-clause-index c = λ h.
    let def = c.args.def in
    let fills = c.args.scenario.now.fills in
    let keys = c.args.blocks.now.keys in
    let pushed = λ (t u l : ℕ).
    ap (λ (s : ScenarioValue). has_fill s.fills t u l) c.in_ok-add_fill.ensures ∙ has-push fills def t u l in
    record {
      same = λ t u l low_t low_u low_l.
          let p : ℕ → Bool = λ k. k == block_number t u l in
          ap (list_any p) c.in_ok-insert.ensures.keys
          ∙ any-insert_key p nat_cmp exact_unsigned c.block_number.result keys
          ∙ ap (λ (k : ℕ). p k || list_any p keys) c.block_number.ensures.exact
          ∙ ap (λ (b : Bool). b || list_any p keys)
          (number_same def.target def.unit def.lba t u l c.requires.unit low_u c.block_number.ensures.low low_l)
          ∙ ap (λ (b : Bool). ((def.target == t && def.unit == u) && def.lba == l) || b)
          (h.same t u l low_t low_u low_l) ∙ sym (pushed t u l);
      small = λ t u l high. pushed t u l
          ∙ rw (h.small t u l high, ne_eqb def.lba l (λ e. absurd (omega (arith, c.block_number.ensures.low))))
          (no_block (def.target == t && def.unit == u));
    }
