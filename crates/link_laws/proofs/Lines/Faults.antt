-- A fault row of the end that received the byte of the row before it obeys the rules by the wires.
use Rattle.link_laws.proofs
use proofs.Names.{ℕ, ◌≡◌, ◌≢◌, Bool, true, false, Option, None, sym, arith, ne_eqb, nat_tests, bit_or, eq_self}
use proofs.Names.{Connection, none_broken, is_of_device, keeps, EndLines, initiator_side, target_side, connected_bus}
use proofs.{Names.{change_to, row_of_fault, ends}, Lines.Seen.{Around, seen_linked, wire_rules, wire_broken}}

abbrev pub fault_breaks_in : Around → Connection → EndLines → ℕ → ℕ → Option ℕ
fault_breaks_in v n e bit t = wire_broken
    (seen_linked v (change_to (connected_bus e) (connected_bus e) (initiator_side e) (initiator_side e)) n e)
    (row_of_fault t n.initiator bit)

abbrev pub fault_breaks_out : Around → Connection → EndLines → ℕ → ℕ → Option ℕ
fault_breaks_out v n e bit t = wire_broken
    (seen_linked v (change_to (connected_bus e) (connected_bus e) (target_side e) (target_side e)) n e)
    (row_of_fault t n.target bit)

pub fault_obeys_in : (v : Around) (n : Connection) (req ack atn msg cd : Bool) (y bit t : ℕ)
    → n.initiator ≢ n.target → v.last ≡ t → is_of_device v.receiver n.initiator ≡ true
    → fault_breaks_in v n (ends false ack atn 0 msg cd true req y) bit t ≡ None
fault_obeys_in v n req ack atn msg cd y bit t ne a b =
    let e = eq_self n.initiator in
    let o = ne_eqb n.initiator n.target ne in
    let w = eq_self y in
    let u = eq_self v.last in
    none_broken (λ k. keeps k (seen_linked v (change_to (connected_bus (ends false ack atn 0 msg cd true req y))
    (connected_bus (ends false ack atn 0 msg cd true req y)) (initiator_side (ends false ack atn 0 msg cd true req y))
    (initiator_side (ends false ack atn 0 msg cd true req y))) n (ends false ack atn 0 msg cd true req y))
    (row_of_fault t n.initiator bit)) wire_rules (
      grind (arith, nat_tests),
      (
        grind (arith, nat_tests),
        (
          grind (arith, nat_tests),
          (
            grind (arith, nat_tests),
            (
              grind (arith, nat_tests),
              (
                grind (arith, nat_tests),
                (
                  grind (arith, nat_tests),
                  (
                    grind (arith, nat_tests),
                    (
                      grind (arith, nat_tests),
                      (
                        grind (arith, nat_tests),
                        (
                          grind (arith, nat_tests),
                          (
                            grind (arith, nat_tests),
                            (
                              grind (arith, nat_tests),
                              (
                                grind (arith, nat_tests),
                                (
                                  grind (arith, nat_tests),
                                  (
                                    grind (arith, nat_tests),
                                    (
                                      grind (arith, nat_tests),
                                      (
                                        grind (arith, nat_tests),
                                        (
                                          grind (arith, nat_tests),
                                          (
                                            grind (arith, nat_tests),
                                            (
                                              grind (arith, nat_tests),
                                              (
                                                grind (arith, nat_tests),
                                                (
                                                  grind (arith, nat_tests),
                                                  (grind (arith, nat_tests), (grind (arith, nat_tests), tt)),
                                                ),
                                              ),
                                            ),
                                          ),
                                        ),
                                      ),
                                    ),
                                  ),
                                ),
                              ),
                            ),
                          ),
                        ),
                      ),
                    ),
                  ),
                ),
              ),
            ),
          ),
        ),
      ),
    )

pub fault_obeys_out : (v : Around) (n : Connection) (req ack atn msg cd : Bool) (x bit t : ℕ)
    → n.initiator ≢ n.target → v.last ≡ t → is_of_device v.receiver n.target ≡ true
    → fault_breaks_out v n (ends false ack atn x msg cd false req 0) bit t ≡ None
fault_obeys_out v n req ack atn msg cd x bit t ne a b =
    let e = eq_self n.target in
    let o = ne_eqb n.target n.initiator (λ z. ne (sym z)) in
    let w = eq_self (bit_or x 0) in
    let u = eq_self v.last in
    none_broken (λ k. keeps k (seen_linked v (change_to (connected_bus (ends false ack atn x msg cd false req 0))
    (connected_bus (ends false ack atn x msg cd false req 0)) (target_side (ends false ack atn x msg cd false req 0))
    (target_side (ends false ack atn x msg cd false req 0))) n (ends false ack atn x msg cd false req 0))
    (row_of_fault t n.target bit)) wire_rules (
      grind (arith, nat_tests),
      (
        grind (arith, nat_tests),
        (
          grind (arith, nat_tests),
          (
            grind (arith, nat_tests),
            (
              grind (arith, nat_tests),
              (
                grind (arith, nat_tests),
                (
                  grind (arith, nat_tests),
                  (
                    grind (arith, nat_tests),
                    (
                      grind (arith, nat_tests),
                      (
                        grind (arith, nat_tests),
                        (
                          grind (arith, nat_tests),
                          (
                            grind (arith, nat_tests),
                            (
                              grind (arith, nat_tests),
                              (
                                grind (arith, nat_tests),
                                (
                                  grind (arith, nat_tests),
                                  (
                                    grind (arith, nat_tests),
                                    (
                                      grind (arith, nat_tests),
                                      (
                                        grind (arith, nat_tests),
                                        (
                                          grind (arith, nat_tests),
                                          (
                                            grind (arith, nat_tests),
                                            (
                                              grind (arith, nat_tests),
                                              (
                                                grind (arith, nat_tests),
                                                (
                                                  grind (arith, nat_tests),
                                                  (grind (arith, nat_tests), (grind (arith, nat_tests), tt)),
                                                ),
                                              ),
                                            ),
                                          ),
                                        ),
                                      ),
                                    ),
                                  ),
                                ),
                              ),
                            ),
                          ),
                        ),
                      ),
                    ),
                  ),
                ),
              ),
            ),
          ),
        ),
      ),
    )
