-- The rows with which MESSAGE OUT begins after a selection, and the bus becomes free, obey the rules by the wires.
use Rattle.link_laws.proofs
use proofs.Names.{ℕ, ◌≡◌, ◌≢◌, ◌≤◌, Bool, true, false, Option, None, sym, arith, ne_eqb, nat_tests, or_zero_r, eq_self}
use proofs.Names.{none, Connection, no_pulses, is_pulsed_phase, EndLines, target_side, connected_bus, ends_selected}
use proofs.{Names.{change_to, row_of_lines, ends}, Lines.{Obeys.{target_breaks}, Seen.{Around, seen_linked}}}
use proofs.Lines.Seen.{wire_broken}

pub opening_obeys : (v : Around) (n : Connection) (t : ℕ) → n.initiator ≢ n.target → v.last ≤ t → v.pulses ≡ no_pulses
    → target_breaks v n ends_selected (ends false false true 0 true true false false 0) t ≡ None
opening_obeys v n t ne a p =
    let e = eq_self n.target in let o = ne_eqb n.target n.initiator (λ w. ne (sym w)) in grind (arith, nat_tests)

abbrev pub frees_bus : Around → Connection → EndLines → ℕ → Option ℕ
frees_bus v n e t = wire_broken (seen_linked v (change_to (connected_bus e) none (target_side e) none) n e)
    (row_of_lines t n.target none)

pub freeing_in_obeys : (v : Around) (n : Connection) (msg cd : Bool) (y t : ℕ) → n.initiator ≢ n.target → v.last ≤ t
    → is_pulsed_phase true (connected_bus (ends false false false 0 msg cd true false y)) v.agreement ≡ false
    → frees_bus v n (ends false false false 0 msg cd true false y) t ≡ None
freeing_in_obeys v n msg cd y t ne a c =
    let e = eq_self n.target in
    let o = ne_eqb n.target n.initiator (λ w. ne (sym w)) in
    let u = or_zero_r y in
    grind (arith, nat_tests)

pub freeing_out_obeys : (v : Around) (n : Connection) (msg cd : Bool) (t : ℕ) → n.initiator ≢ n.target → v.last ≤ t
    → is_pulsed_phase true (connected_bus (ends false false false 0 msg cd false false 0)) v.agreement ≡ false
    → frees_bus v n (ends false false false 0 msg cd false false 0) t ≡ None
freeing_out_obeys v n msg cd t ne a c =
    let e = eq_self n.target in let o = ne_eqb n.target n.initiator (λ w. ne (sym w)) in grind (arith, nat_tests)
