-- The state that the view shows is linked exactly to the other end of the connection that stands.
use Rattle.std.proofs.Common.{ℕ, ◌≡◌, Bool, true, false, ◌==◌, Option, None, refl, if◌then◌else◌}
use Rattle.bus_trace.specs.LineSet.{LineSet}
use Rattle.bus_lines.specs.declared.Stage.{Stage}
use Rattle.bus_lines.specs.declared.Stage.TheVariants.{OnFreeBus, InArbitration, InCalling, InAnswer, InConnection}
use Rattle.bus_lines.specs.declared.Stage.TheVariants.{InReset}
use Rattle.connect.specs.Links.{myself, linked_peer, peer_at, link_apart, present_link}
use Rattle.connect.specs.declared.states.Link.{Link}
use Rattle.connect.specs.declared.states.Link.TheVariants as in_state

apart : (own : LineSet) (link : Link) → linked_peer (link_apart own link) ≡ None
apart own (in_state.Idle l) = refl
apart own (in_state.Waiting l) = refl
apart own (in_state.Contending l) = refl
apart own (in_state.Won l) = refl
apart own (in_state.Calling l) = refl
apart own (in_state.Answering l) = refl
apart own (in_state.Linked l) = refl

either : (first second : Bool) (x y z : Link) (p q : Option (ℕ × Bool))
    → linked_peer x ≡ p → linked_peer y ≡ q → linked_peer z ≡ None
    → linked_peer (if first then x else if second then y else z) ≡ (if first then p else if second then q else None)
either true second x y z p q a b c = a
either false true x y z p q a b c = b
either false false x y z p q a b c = c

pub present_peer : (own : LineSet) (link : Link) (s : Stage)
    → linked_peer (present_link own link s) ≡ peer_at (myself link).dev s
present_peer own link (OnFreeBus free) = apart own link
present_peer own link (InArbitration a) = apart own link
present_peer own link (InCalling c) = apart own link
present_peer own link (InAnswer c k answered) = apart own link
present_peer own link (InConnection n) =
    either (n.initiator == (myself link).dev) (n.target == (myself link).dev) _ _ _ _ _ refl refl (apart own link)
present_peer own link (InReset since) = apart own link
