-- What a row of MESSAGE IN does with ATN, REQ and ACK: ATN changes with ACK alone; and what the rules say of REQ and
-- ACK, and of a row that raises SEL.
use Rattle.story_laws.proofs
use proofs.Names.{inl, inr, ℕ, ◌≡◌, ◌⊎◌, Bool, true, false, not, ◌&&◌, ◌||◌, ◌∙◌, List, ◌∷◌, Option, Some, None, refl}
use proofs.Names.{sym, ap, subst, ◌==◌, ◌+◌, and_parts, cases_eq, if◌then◌else◌, is_some, nat_le, wrong, wrong'}
use proofs.Names.{implied, bus_on, bus_off, bus-fault, drives-own, drives-other, change_of, rises, falls, implies}
use proofs.Names.{LineSet, byte_set, is_data, is_message_in, arbitration, connection, raised, bus, drives, driven_after}
use proofs.Names.{last_time, Row, Change, Connection, ARBITRATION_DELAY, all_kept, judged_rules, broken_rule, seen}
use proofs.Names.{seen_with, Seen, ScenarioValue, Serving, phase_of, phase_lines, leaving_by, lines_by, phase_byte}
use proofs.Names.{one_if, Leaving, Phase, run_state, serving_at, EndLines, connected_bus, Linked, ends_selected}
use proofs.Names.{row_of_lines, row_of_fault, offering_with, initiator_moves, target_moves, ends, by_bool, LinkRow}
use proofs.Names.{hands, releases, ends_ack_in, gives, sends, ends_ack_out, answers_pulse, ends_ack_pulse}
use proofs.Names.{drives_pulsed, sends_pulse, offers, asks_first, ends_req, asks_next, leaves, ends_req_pulse}
use proofs.{Names.{changes_pulsed, asks_pulse, line_off, awaits}, Items.Aims.{RisesWell}, Talks.Steps.{Alternates}}
use Rattle.due_model.specs.bus_rules.specs.Rules.{keeps}
use Rattle.row_laws.proofs.Lines.Rows.{opens, strikes, answers}

-- ---- the lines

-- ATN stays where no byte awaits its ACK; and BSY, unless REQ is false.
pub record InMove (p q : List Row) : Type 0 where
  pub attends : awaits (bus p) ≡ false → (bus q).atn ≡ (bus p).atn
  pub stands : ((bus p).req ≡ false) ⊎ ((bus q).bsy ≡ true)

by_ends : (p q : List Row) (n : Connection) (e f : EndLines) → Linked p n e → Linked q n f
    → ((e.req && not e.ack) ≡ false → f.atn ≡ e.atn) → InMove p q
by_ends p q n e f h g same =
    record {
      attends = λ z. ap (λ (l : LineSet). l.atn) g.stands.bus_is ∙ same (ap awaits (sym h.stands.bus_is) ∙ z)
          ∙ sym (ap (λ (l : LineSet). l.atn) h.stands.bus_is);
      stands = inr (ap (λ (l : LineSet). l.bsy) g.stands.bus_is);
    }

not_there : (p q : List Row) (n : Connection) (e : EndLines) → Linked p n e → is_message_in (connected_bus e) ≡ false
    → is_message_in (bus p) ≡ true → InMove p q
not_there p q n e h away z = wrong (sym z ∙ ap is_message_in h.stands.bus_is ∙ away)

-- A target drives no ATN, and the initiator goes on to drive what it did.
phase_quiet : (phase : Phase) → (phase_lines phase).atn ≡ false
phase_quiet Phase.DataOut = refl
phase_quiet _ = refl

lines_quiet : (v : Serving) (io : Bool) (l : Leaving) (to : Option Phase) → (lines_by v io l to).atn ≡ false
lines_quiet v io l None = refl
lines_quiet v io l (Some phase) = go (io && (phase_lines phase).io)
  where
    go : (q : Bool) → (if q then record (phase_lines phase) {
      data_bits = (byte_set (phase_byte v phase l.messages (one_if l.done) 0)).data_bits;
    } else phase_lines phase).atn ≡ false
    go true = phase_quiet phase
    go false = phase_quiet phase

no_attention : (v : Serving) (io : Bool) (l : Leaving) → (lines_by v io l l.to).atn ≡ false
no_attention v io l = lines_quiet v io l l.to

attention_stays : (p : List Row) (t : ℕ) (n : Connection) (e : EndLines) (to : LineSet) → Linked p n e → to.atn ≡ false
    → (bus (row_of_lines t n.target to ∷ p)).atn ≡ (bus p).atn
attention_stays p t n e to h off =
    by_bool (bus p).atn (λ z. bus_on (λ l. l.atn) (λ _ _. refl) q n.initiator h.initiator_below
    (ap (λ (l : LineSet). l.atn) (drives-other (row_of_lines t n.target to) p n.initiator h.apart ∙ h.initiator)
    ∙ sym was ∙ z) ∙ sym z) (λ z. bus_off (λ l. l.atn) (λ _ _. refl) refl q (λ d lt. elim (cases_eq d n.target) [
      | inl same ↦ ap (λ (m : ℕ). (drives q m).atn) same
          ∙ ap (λ (l : LineSet). l.atn) (drives-own (row_of_lines t n.target to) p to refl) ∙ off
      | inr ne ↦ ap (λ (l : LineSet). l.atn) (drives-other (row_of_lines t n.target to) p d ne)
          ∙ line_off (λ l. l.atn) (λ _ _. refl) p z d lt
    ]) ∙ sym z)
  where
    q : List Row
    q = row_of_lines t n.target to ∷ p

    was : (bus p).atn ≡ e.atn
    was = ap (λ (l : LineSet). l.atn) h.stands.bus_is

no_in : (m c : Bool) → (m && c && false) ≡ false
no_in true true = refl
no_in true false = refl
no_in false c = refl

pub in_move : (s : ScenarioValue) (p : List Row) (row : Row) (n : Connection) → is_message_in (bus p) ≡ true
    → LinkRow s p n row → InMove p (row ∷ p)
in_move s p row n z (opens h b e) = not_there p (row ∷ p) n ends_selected h refl z
in_move s p row n z (strikes f bit h b got who e) = subst (λ (w : Row). InMove p (w ∷ p)) (sym e)
    (let same = bus-fault (row_of_fault (last_time p) row.dev bit) p bit refl in record {
      attends = λ x. ap (λ (l : LineSet). l.atn) same;
      stands = inr (ap (λ (l : LineSet). l.bsy) same ∙ ap (λ (l : LineSet). l.bsy) h.stands.bus_is);
    })
in_move s p row n z (hands atn msg cd io y h b un e) =
    let f : EndLines = ends true false atn 0 msg cd io false y in
    subst (λ (w : Row). InMove p (w ∷ p)) (sym e)
    (by_ends p _ n f _ h (initiator_moves p n f false false atn 0 row.time h).linked (λ x. refl))
in_move s p row n z (releases atn x msg cd h b un e) =
    let f : EndLines = ends false false atn x msg cd true false 0 in
    subst (λ (w : Row). InMove p (w ∷ p)) (sym e)
    (by_ends p _ n f _ h (initiator_moves p n f false false atn 0 row.time h).linked (λ x. refl))
in_move s p row n z (answers atn to msg cd y h b un is e) =
    let f : EndLines = ends false false atn 0 msg cd true true y in
    subst (λ (w : Row). InMove p (w ∷ p)) (sym e)
    (by_ends p _ n f _ h (initiator_moves p n f false true to 0 row.time h).linked (λ x. wrong x))
in_move s p row n z (ends_ack_in atn msg cd y h b un w e) =
    let f : EndLines = ends false true atn 0 msg cd true false y in
    subst (λ (w : Row). InMove p (w ∷ p)) (sym e)
    (by_ends p _ n f _ h (initiator_moves p n f false false atn 0 row.time h).linked (λ x. refl))
in_move s p row n z (gives atn msg cd h b w e) =
    not_there p (row ∷ p) n (ends false false atn 0 msg cd false true 0) h (no_in msg cd) z
in_move s p row n z (sends atn msg cd x h b w some e) =
    not_there p (row ∷ p) n (ends false false atn x msg cd false true 0) h (no_in msg cd) z
in_move s p row n z (ends_ack_out atn msg cd x h b e) =
    not_there p (row ∷ p) n (ends false true atn x msg cd false false 0) h (no_in msg cd) z
in_move s p row n z (answers_pulse req atn to y h b un w rose e) =
    not_there p (row ∷ p) n (ends false false atn 0 false false true req y) h refl z
in_move s p row n z (ends_ack_pulse io req atn x y h b un w e) =
    not_there p (row ∷ p) n (ends false true atn x false false io req y) h refl z
in_move s p row n z (drives_pulsed req atn x y h b w e) =
    not_there p (row ∷ p) n (ends false false atn x false false false req 0) h refl z
in_move s p row n z (sends_pulse req atn x h b w byte e) =
    not_there p (row ∷ p) n (ends false false atn x false false false req 0) h refl z
in_move s p row n z (offers atn x msg cd h b un e) =
    let f : EndLines = ends false false atn x msg cd true false 0 in
    subst (λ (w : Row). InMove p (w ∷ p)) (sym e)
    (by_ends p _ n f _ h (target_moves p n f msg cd true false _ row.time h).linked (λ x. refl))
in_move s p row n z (asks_first bsy atn msg cd io y h b un first e) =
    let f : EndLines = ends bsy false atn 0 msg cd io false y in
    subst (λ (w : Row). InMove p (w ∷ p)) (sym e)
    (by_ends p _ n f _ h (target_moves p n f msg cd io true y row.time h).linked (λ x. refl))
in_move s p row n z (ends_req atn msg cd io x y h b un w e) =
    let f : EndLines = ends false true atn x msg cd io true y in
    subst (λ (w : Row). InMove p (w ∷ p)) (sym e)
    (by_ends p _ n f _ h (target_moves p n f msg cd io false _ row.time h).linked (λ x. refl))
in_move s p row n z (asks_next atn msg cd io y h b un w follows e) =
    let f : EndLines = ends false false atn 0 msg cd io false y in
    subst (λ (w : Row). InMove p (w ∷ p)) (sym e)
    (by_ends p _ n f _ h (target_moves p n f msg cd io true y row.time h).linked (λ x. refl))
in_move s p row n z (leaves atn msg cd io x y h b known un zero follows e) =
    let f : EndLines = ends false false atn x msg cd io false y in
    subst (λ (w : Row). InMove p (w ∷ p)) (sym e) (record {
      attends = λ w. attention_stays p row.time n f (offering_with s p n true f).to h
          (no_attention (serving_at s (run_state s p) n.target (phase_of (connected_bus f))) io
          (leaving_by (serving_at s (run_state s p) n.target (phase_of (connected_bus f))) true (connected_bus f)));
      stands = inl (ap (λ (l : LineSet). l.req) h.stands.bus_is);
    })
in_move s p row n z (ends_req_pulse io ack atn x y h b un w e) =
    not_there p (row ∷ p) n (ends false ack atn x false false io true y) h refl z
in_move s p row n z (changes_pulsed ack atn y x h b un pulsed e) =
    not_there p (row ∷ p) n (ends false ack atn 0 false false true false y) h refl z
in_move s p row n z (asks_pulse io ack atn x y h b un w zero byte e) =
    not_there p (row ∷ p) n (ends false ack atn x false false io false y) h refl z

-- ---- the rules

asynchronous : (l : LineSet) (x : Bool) → is_message_in l ≡ true → not (is_data l && x) ≡ true
asynchronous l x e = go l.msg l.cd l.io e
  where
    go : (m c i : Bool) → (m && c && i) ≡ true → not (not m && not c && x) ≡ true
    go true c i z = refl
    go false c i z = wrong' z

pub alternating : (p : List Row) (row : Row) (n : Connection) → broken_rule p row ≡ None
    → connection p ≡ Some n → (bus p).rst ≡ false → (bus (row ∷ p)).rst ≡ false → is_message_in (bus p) ≡ true
    → Alternates (bus p) (bus (row ∷ p))
unfolding seen_with
alternating p row n e con off off' here =
    let v : Seen = seen p row in
    let a = all_kept (λ m. keeps m v row) judged_rules e in
    let last : keeps 18 v row ≡ true = a.1.1.1.1.1.1.1.1.1.1.1.1.1.1.1.1.1.0 in
    let c : Change = change_of p row in
    let r1 = implies (rises c.before.req c.after.req) (not c.before.ack) in
    let r2 = implies (falls c.before.req c.after.req) c.before.ack in
    let r3 = implies (rises c.before.ack c.after.ack) c.before.req in
    let r4 = implies (falls c.before.ack c.after.ack) (not c.before.req) in
    let test : Bool = implies (is_some (connection p) && not (is_data (bus p) && not (v.agreement.offset == 0)))
    ((r1 && r2) && (r3 && r4)) in
    let on : test ≡ true = sym (λ i. if off i || off' i then true else test) ∙ last in
    let all = implied _ ((r1 && r2) && (r3 && r4)) on
    (λ i. is_some (con i) && asynchronous (bus p) (not (v.agreement.offset == 0)) here i) in
    let two = and_parts (r1 && r2) (r3 && r4) all in
    let one = and_parts r1 r2 two.0 in
    let other = and_parts r3 r4 two.1 in
    record {
      asks = λ z. implied _ _ one.0 z;
      ends_asking = λ z. implied _ _ one.1 z;
      answers = λ z. implied _ _ other.0 z;
      ends_answer = λ z. implied _ _ other.1 z;
    }

-- A contender alone raises SEL (6.1.2).
pub rises_well : (p : List Row) (row : Row) → broken_rule p row ≡ None → (bus p).rst ≡ false
    → (bus (row ∷ p)).rst ≡ false → RisesWell p row
unfolding seen_with
rises_well p row e off off' =
    let v : Seen = seen p row in
    let a = all_kept (λ m. keeps m v row) judged_rules e in
    let last : keeps 5 v row ≡ true = a.1.1.1.1.0 in
    let up : Bool = rises (drives p row.dev).sel (driven_after row.kind (drives p row.dev)).sel in
    let contends : Bool = is_some (arbitration p) && (drives p row.dev).bsy in
    let waited : Bool = nat_le (raised (λ l. l.bsy) p row.dev + ARBITRATION_DELAY) row.time in
    let test : Bool = implies up (contends && waited) in
    let on : test ≡ true = sym (λ i. if off i || off' i then true else test) ∙ last in
    record {
      won = λ z.
          let w = and_parts contends waited (implied up (contends && waited) on z) in
          and_parts (is_some (arbitration p)) (drives p row.dev).bsy w.0;
    }
