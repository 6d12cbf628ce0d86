use Rattle.std.proofs.Common.{length, sym, ◌∙◌, ap}
use Rattle.std.specs.Prelude.{map}
use Rattle.vcd_text.specs.CodeLists.{bytes_in}
use Rattle.vcd_text.specs.Codes.{with_code}
use Rattle.vcd_text.proofs.CodeSets.{inserted, longest_more}
use Rattle.vcd_text.proofs.codes.CodeSet.add.Goals as goal

pub returns : goal.returns
returns c = ap (map bytes_in) c.in_ok-insert.ensures.keys ∙ inserted c.self.inside.codes.keys c.in_ok-code.code
    ∙ (λ i. with_code (c.self.view_is i) (c.in_ok-code.ensures.items i))

pub invariant_of-self-2 : goal.invariant_of-self-2
invariant_of-self-2 c = longest_more c.self.inside.codes.keys c.insert.new.self.keys c.in_ok-code.code
    c.self.inside.longest (length c.args.code.now) c.max-self-inside.result c.in_ok-insert.ensures.keys c.self.invariant
    (sym (ap (λ xs. length xs) c.in_ok-code.ensures.items)) c.max-self-inside.ensures
