-- A fault row: the byte of the last row has crossed, so that REQ or ACK is true, and no byte waits to be taken.
use Rattle.row_laws.proofs
use proofs.Names.{ℕ, ◌≡◌, ◌⊎◌, inl, inr, Bool, true, false, not, ◌&&◌, ◌||◌, ◌==◌, ◌∙◌, List, [], ◌∷◌, Some, None, refl}
use proofs.Names.{sym, ap, arith, ◌≤◌, subst, nat_tests, same_Some, if◌then◌else◌, is_some, wrong, wrong', same_self}
use proofs.Names.{change_of, rises, LineSet, call, connection, connection_after, receiver, receiver_in, receiver_of}
use proofs.Names.{bus, drives, last_time, Row, Change, Connection, dialogue, byte_crosses, phase_begins, Dialogue}
use proofs.Names.{is_of_device, ScenarioValue, begun, AreOfDevices, fault_change, EndLines, connected_bus, Linked}
use proofs.{Names.{row_of_fault, change_to, CalmStanding, terms_after, no_rise, linked_fault}, Common.Tests.{none_both}}
use proofs.{Common.Tests.{by_option}, Lines.Driven.{Driven, AfterDriven, goes_on, no_third, same_ends}}
use proofs.Lines.InPhase.{Values, after_hands, after_releases, after_offers, after_asks, after_answers}
use proofs.Lines.InPhase.{after_ends_ack_in, after_ends_req, after_gives, after_sends, after_ends_ack_out}
use proofs.Lines.{InPhase.{after_pulse_of_initiator, after_pulse_of_target}, Rows.{LinkRow, opens, strikes, hands}}
use proofs.Lines.Rows.{releases, answers, ends_ack_in, gives, sends, ends_ack_out, answers_pulse, ends_ack_pulse}
use proofs.Lines.Rows.{drives_pulsed, sends_pulse, offers, asks_first, ends_req, asks_next, leaves, ends_req_pulse}
use proofs.Lines.{Rows.{changes_pulsed, asks_pulse}, Turns.{after_opens, after_leaves}}

is_same : (a b : ℕ) → (a == b) ≡ true → b ≡ a
is_same a b e = grind (arith, nat_tests)

second : (a b : Bool) → (not a && b) ≡ true → b ≡ true
second true b e = wrong' e
second false b e = e

-- The device that received the byte of the last row, and the line with which it crossed.
abbrev Received : Connection → LineSet → ℕ → Type 0
Received n b d = ((d ≡ n.initiator) × (b.req ≡ true)) ⊎ ((d ≡ n.target) × (b.ack ≡ true))

by_change : (n : Connection) (c : Change) (d : ℕ) → is_of_device (receiver_in n c) d ≡ true → Received n c.after d
by_change n c d e = go c.before.io e
  where
    asked : (q : Bool) → rises c.before.req c.after.req ≡ q
        → is_of_device (if q then Some n.initiator else None) d ≡ true → Received n c.after d
    asked true f z = inl (is_same n.initiator d z, second c.before.req c.after.req f)
    asked false f z = wrong' z

    answered : (q : Bool) → rises c.before.ack c.after.ack ≡ q
        → is_of_device (if q then Some n.target else None) d ≡ true → Received n c.after d
    answered true f z = inr (is_same n.target d z, second c.before.ack c.after.ack f)
    answered false f z = wrong' z

    go : (q : Bool) → is_of_device (if q then (if rises c.before.req c.after.req then Some n.initiator else None)
        else (if rises c.before.ack c.after.ack then Some n.target else None)) d ≡ true
        → Received n c.after d
    go true z = asked (rises c.before.req c.after.req) refl z
    go false z = answered (rises c.before.ack c.after.ack) refl z

received : (p : List Row) (n : Connection) (d : ℕ) → connection p ≡ Some n → is_of_device (receiver p) d ≡ true
    → Received n (bus p) d
received [] n d e z = wrong' z
received (row ∷ rows) n d e z =
    by_option (connection rows)
    (λ f. wrong' (sym (λ i. is_of_device (receiver_of (f i) c) d) ∙ z))
    (λ m f.
    let same : m ≡ n = stands m c.after.bsy refl (sym (λ i. connection_after (f i) (call rows) c row) ∙ e) in
    by_change n c d (sym (λ i. is_of_device (receiver_of ((f ∙ (λ j. Some (same j))) i) c) d) ∙ z))
  where
    c : Change
    c = change_of rows row

    stands : (m : Connection) (q : Bool) → c.after.bsy ≡ q → (if q then Some m else None) ≡ Some n → m ≡ n
    stands m true f g = same_Some m n g
    stands m false f g = absurd cc

-- ---- the row

fault_begun : (p : List Row) (n : Connection) (e : EndLines) (t d bit : ℕ) → Linked p n e
    → begun (row_of_fault t d bit ∷ p) ≡ begun p
fault_begun p n e t d bit h =
    (terms_after p (row_of_fault t d bit) n (change_to (connected_bus e) (connected_bus e) (drives p d) (drives p d))
    (fault_change p t d bit (connected_bus e) (drives p d) h.stands.bus_is refl) h.stands.connection_is
    (linked_fault p n e t d bit h).stands.connection_is).begun_is
    ∙ (λ i. not (same_self e.msg i && same_self e.cd i && same_self e.io i) || begun p)

fault_heard : (p : List Row) (n : Connection) (e : EndLines) (t d bit : ℕ) → Linked p n e
    → dialogue (row_of_fault t d bit ∷ p) ≡ dialogue p
fault_heard p n e t d bit h =
    let c : Change = change_to (connected_bus e) (connected_bus e) (drives p d) (drives p d) in
    let none_received : receiver_in n c ≡ None = (λ i. if e.io then (if no_rise e.req i then Some n.initiator else None)
    else (if no_rise e.ack i then Some n.target else None)) ∙ none_both e.io in
    (terms_after p (row_of_fault t d bit) n c
    (fault_change p t d bit (connected_bus e) (drives p d) h.stands.bus_is refl) h.stands.connection_is
    (linked_fault p n e t d bit h).stands.connection_is).dialogue_is
    ∙ (λ i. if is_some (none_received i) then byte_crosses (dialogue p) c
    else if not (same_self e.msg i && same_self e.cd i && same_self e.io i) then phase_begins (dialogue p)
    else dialogue p)

pub after_strikes : (s : ScenarioValue) (p : List Row) (t d bit : ℕ) (n : Connection) (e : EndLines) → Linked p n e
    → begun p ≡ true → is_of_device (receiver p) d ≡ true → d ≡ (if e.io then n.initiator else n.target)
    → Driven s p n e → AfterDriven s (row_of_fault t d bit ∷ p) n
after_strikes s p t d bit n e h b got who v = goes_on e (linked_fault p n e t d bit h) (fault_begun p n e t d bit h ∙ b)
    (go e.io refl (received p n d h.stands.connection_is got))
  where
    q : List Row
    q = row_of_fault t d bit ∷ p

    out : e.io ≡ false → e.ack ≡ true → Driven s q n e
    out ei ea = record {
      first_in = λ a z w r. absurd (no_third e.msg e.cd ((λ i. e.msg && e.cd && sym ei i) ∙ a));
      next_in = λ a z w. absurd (no_third e.msg e.cd ((λ i. e.msg && e.cd && sym ei i) ∙ a));
      first_odd = λ a z w r. wrong (sym a ∙ ei);
      next_odd = λ a z w r x. wrong (sym a ∙ ei);
      said = λ a z w r x. wrong (sym ea ∙ w);
      attends = λ a z w r. wrong (sym ea ∙ w);
      attention = λ a z. v.attention a z ∙ ap (λ (x : Dialogue). not x.is_last) (sym (fault_heard p n e t d bit h));
    }

    into : e.io ≡ true → e.req ≡ true → Driven s q n e
    into ei er = record {
      first_in = λ a z w r. wrong (sym er ∙ z);
      next_in = λ a z w. wrong (sym er ∙ z);
      first_odd = λ a z w r. wrong (sym er ∙ z);
      next_odd = λ a z w r x. wrong (sym er ∙ z);
      said = λ a z w r x. wrong (sym ei ∙ a);
      attends = λ a z w r. absurd (no_third e.msg e.cd ((λ i. e.msg && e.cd && not (sym ei i)) ∙ a));
      attention = λ a z. absurd (no_third e.msg e.cd ((λ i. e.msg && e.cd && not (sym ei i)) ∙ a));
    }

    go : (i : Bool) → e.io ≡ i → Received n (bus p) d → Driven s q n e
    go true ei (inl g) = into ei (sym (ap (λ (l : LineSet). l.req) h.stands.bus_is) ∙ g.1)
    go true ei (inr g) = absurd (h.apart (sym (who ∙ ap (λ (r : Bool). if r then n.initiator else n.target) ei) ∙ g.0))
    go false ei (inl g) = absurd (h.apart (sym g.0 ∙ who ∙ ap (λ (r : Bool). if r then n.initiator else n.target) ei))
    go false ei (inr g) = out ei (sym (ap (λ (l : LineSet). l.ack) h.stands.bus_is) ∙ g.1)

-- ---- Any row of a connection, resets apart: what the two ends drive after it.

-- Once a phase has begun in the connection, whatever its ends drive.
abbrev pub IsDriven : ScenarioValue → List Row → Connection → Type 0
IsDriven s p n = (e : EndLines) → Linked p n e → begun p ≡ true → Driven s p n e

abbrev pub HasValues : ScenarioValue → List Row → Connection → Type 0
HasValues s p n = (e : EndLines) → Linked p n e → begun p ≡ true → Values s p n e

pub driven_by : (s : ScenarioValue) (p : List Row) (n : Connection) (e : EndLines) → Linked p n e → Driven s p n e
    → IsDriven s p n
driven_by s p n e h d f k b = subst (λ (x : EndLines). Driven s p n x) (same_ends p n e f h k) d

pub after_row : (s : ScenarioValue) (p : List Row) (row : Row) (n : Connection) → AreOfDevices p → CalmStanding s p
    → last_time p ≤ row.time → HasValues s p n → IsDriven s p n → LinkRow s p n row → AfterDriven s (row ∷ p) n
after_row s p row n dv always order v d (opens h b e) =
    subst (λ (w : Row). AfterDriven s (w ∷ p) n) (sym e) (after_opens s p row.time n h)
after_row s p row n dv always order v d (strikes f bit h b got who e) = subst (λ (w : Row). AfterDriven s (w ∷ p) n)
    (sym e) (after_strikes s p (last_time p) row.dev bit n f h b got who (d f h b))
after_row s p row n dv always order v d (hands atn msg cd io y h b un e) = subst (λ (w : Row). AfterDriven s (w ∷ p) n)
    (sym e) (after_hands s p row.time n atn msg cd io y dv h b un (d _ h b))
after_row s p row n dv always order v d (releases atn x msg cd h b un e) = subst (λ (w : Row). AfterDriven s (w ∷ p) n)
    (sym e) (after_releases s p row.time n atn x msg cd dv h b un (d _ h b))
after_row s p row n dv always order v d (answers atn to msg cd y h b un rose e) =
    subst (λ (w : Row). AfterDriven s (w ∷ p) n) (sym e) (after_answers s p row.time n atn to msg cd y dv h b)
after_row s p row n dv always order v d (ends_ack_in atn msg cd y h b un z e) = subst
    (λ (w : Row). AfterDriven s (w ∷ p) n) (sym e) (after_ends_ack_in s p row.time n atn msg cd y dv h b un z (d _ h b))
after_row s p row n dv always order v d (gives atn msg cd h b z e) =
    subst (λ (w : Row). AfterDriven s (w ∷ p) n) (sym e) (after_gives s p row.time n atn msg cd dv h b)
after_row s p row n dv always order v d (sends atn msg cd x h b z some e) =
    subst (λ (w : Row). AfterDriven s (w ∷ p) n) (sym e) (after_sends s p row.time n atn msg cd x dv h b)
after_row s p row n dv always order v d (ends_ack_out atn msg cd x h b e) = subst (λ (w : Row). AfterDriven s (w ∷ p) n)
    (sym e) (after_ends_ack_out s p row.time n atn msg cd x dv h b (d _ h b))
after_row s p row n dv always order v d (answers_pulse req atn to y h b un z rose e) = subst (λ (w : Row). AfterDriven s
    (w ∷ p) n) (sym e) (after_pulse_of_initiator s p row.time n true req false atn 0 y true to 0 dv h b (λ i. un) z)
after_row s p row n dv always order v d (ends_ack_pulse io req atn x y h b un z e) = subst (λ (w : Row). AfterDriven s
    (w ∷ p) n) (sym e) (after_pulse_of_initiator s p row.time n io req true atn x y false atn x dv h b (λ i. un) z)
after_row s p row n dv always order v d (drives_pulsed req atn x y h b z e) = subst
    (λ (w : Row). AfterDriven s (w ∷ p) n) (sym e)
    (after_pulse_of_initiator s p row.time n false req false atn x 0 false atn y dv h b (λ i. absurd cc) z)
after_row s p row n dv always order v d (sends_pulse req atn x h b z byte e) = subst
    (λ (w : Row). AfterDriven s (w ∷ p) n) (sym e)
    (after_pulse_of_initiator s p row.time n false req false atn x 0 true atn x dv h b (λ i. absurd cc) z)
after_row s p row n dv always order v d (offers atn x msg cd h b un e) =
    subst (λ (w : Row). AfterDriven s (w ∷ p) n) (sym e) (after_offers s p row.time n atn x msg cd dv h b un (v _ h b))
after_row s p row n dv always order v d (asks_first bsy atn msg cd io y h b un first e) = subst
    (λ (w : Row). AfterDriven s (w ∷ p) n) (sym e) (after_asks s p row.time n bsy atn msg cd io y dv h b (d _ h b))
after_row s p row n dv always order v d (ends_req atn msg cd io x y h b un z e) = subst (λ (w : Row). AfterDriven s
    (w ∷ p) n) (sym e) (after_ends_req s p row.time n atn msg cd io x y dv h b un z (v _ h b) (d _ h b))
after_row s p row n dv always order v d (asks_next atn msg cd io y h b un z follows e) = subst
    (λ (w : Row). AfterDriven s (w ∷ p) n) (sym e) (after_asks s p row.time n false atn msg cd io y dv h b (d _ h b))
after_row s p row n dv always order v d (leaves atn msg cd io x y h b known un zero follows e) = subst
    (λ (w : Row). AfterDriven s (w ∷ p) n) (sym e)
    (after_leaves s p row.time n atn msg cd io x y dv always order h b known (v _ h b))
after_row s p row n dv always order v d (ends_req_pulse io ack atn x y h b un z e) = subst (λ (w : Row). AfterDriven s
    (w ∷ p) n) (sym e) (after_pulse_of_target s p row.time n io true ack atn x y false y dv h b un z)
after_row s p row n dv always order v d (changes_pulsed ack atn y z h b un pulsed e) = subst (λ (w : Row). AfterDriven s
    (w ∷ p) n) (sym e) (after_pulse_of_target s p row.time n true false ack atn 0 y false z dv h b un pulsed)
after_row s p row n dv always order v d (asks_pulse io ack atn x y h b un z zero byte e) = subst
    (λ (w : Row). AfterDriven s (w ∷ p) n) (sym e)
    (after_pulse_of_target s p row.time n io false ack atn x y true y dv h b un z)
