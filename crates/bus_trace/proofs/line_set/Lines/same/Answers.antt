use Rattle.std.proofs.Common.{subst, sym, IsTrue, ◌↔◌, ◌≡◌, Bool}
use Rattle.bus_trace.proofs.Sets.{same_number, same_set-iff}
use Rattle.bus_trace.proofs.line_set.Lines.same.Goals as goal

pub returns-clause-exact : goal.returns-clause-exact
returns-clause-exact c = same_number c.self.inside.bits c.other.inside.bits c.args.self c.args.other c.self.invariant
    c.other.invariant c.self.view_is c.other.view_is

pub returns-clause-same : goal.returns-clause-same
returns-clause-same c =
    let e = same_number c.self.inside.bits c.other.inside.bits c.args.self
    c.args.other c.self.invariant c.other.invariant c.self.view_is c.other.view_is in
    subst (λ (b : Bool). IsTrue b ↔ (c.args.self ≡ c.args.other)) (sym e) (same_set-iff c.args.self c.args.other)
