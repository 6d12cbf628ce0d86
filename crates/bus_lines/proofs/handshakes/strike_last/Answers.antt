use Rattle.std.proofs.Common.{◌≡◌, ◌∙◌, sym, ap, rules, length, List}
use Rattle.bus_lines.specs.declared.handshakes.Request.{Request}
use Rattle.bus_lines.specs.Handshakes.{with_last_struck}
use Rattle.bus_lines.proofs.Lasts.{strikes_end, strikes_nothing}
use Rattle.bus_lines.proofs.handshakes.strike_last.Goals as goal

pub returns-in-Some : goal.returns-in-Some
returns-in-Some c = c.push.ensures.items ∙ sym (strikes_end c.pop.new.self.items c.in-Some.request)
    ∙ ap (λ (x : List Request). with_last_struck x) (sym c.in-Some.ensures.items)

pub returns-then-count-eq0 : goal.returns-then-count-eq0
returns-then-count-eq0 c =
    let e : length c.args.waiting.now.items ≡ 0 = search rules in
    sym (strikes_nothing c.args.waiting.now.items e)
