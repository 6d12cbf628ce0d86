-- In COMMAND the target asks for a byte while the block is not whole (6.1.6, 7.2).
use Rattle.story_laws.proofs
use proofs.Names.{ℕ, ◌≡◌, ◌≢◌, ◌<◌, Bool, true, false, not, ◌&&◌, ◌==◌, ◌∙◌, List, [], ◌∷◌, Option, Some, None, refl}
use proofs.Names.{sym, ap, arith, if◌then◌else◌, wrong, wrong', zero_of, counted_on, bus_two, bus-fault, change_of}
use proofs.Names.{rises, LineSet, none, union, byte_set, changes_phase, is_command, connection, is_fault, bus, drives}
use proofs.Names.{Kind, Drives, Fault, Row, Change, Connection, Handshakes, handshakes, handshakes_after, handshakes_on}
use proofs.Names.{no_handshakes, asked_if, answered_if, newest_struck_if, has_group_len, ScenarioValue, Process}
use proofs.Names.{Serving, phase_lines, phase_leaving, phase_of, has_whole_block, lines_by, phase_byte, one_if, Leaving}
use proofs.Names.{Phase, process_served, carried_here, run_state, serving_at, task_if, drives_own, drives_other}
use proofs.Names.{EndLines, connected_bus, initiator_side, target_side, Linked, row_of_lines, offering_with}
use proofs.{Names.{initiator_moves, target_moves, ends, LinkRow, is_unasked}, Offers.Statuses.{left_req}}
use Rattle.row_laws.proofs.Lines.Rows as rows

-- ---- a byte follows while the block is not whole

pub unwhole : (s : ScenarioValue) (p : List Row) (n : Connection) (pr : Process) (atn msg cd io : Bool) (y : ℕ)
    → process_served s (run_state s p) ≡ Some pr → (not msg && cd && not io) ≡ true
    → (offering_with s p n true (ends false false atn 0 msg cd io false y)).follows ≡ true
    → has_group_len (carried_here (run_state s p) pr.id).block ≡ false
unwhole s p n pr atn true cd io y e c f = wrong' c
unwhole s p n pr atn false false io y e c f = wrong' c
unwhole s p n pr atn false true true y e c f = wrong' c
unwhole s p n pr atn false true false y e c f = go (run_state s p).exchange.plan.struck
    (has_group_len (carried_here (run_state s p) pr.id).block)
    (sym (λ i. not (run_state s p).exchange.plan.struck && not (has_whole_block (task_if s (run_state s p) (e i)))) ∙ f)
  where
    go : (q r : Bool) → (not q && not r) ≡ true → r ≡ false
    go true r z = wrong' z
    go false true z = wrong' z
    go false false z = refl

-- ---- a request is counted

some_more : (m : ℕ) → counted_on m ≡ 0 → m ≡ 0
some_more m e = absurd omega (arith, e)

none_before : (n : Connection) (c : Change) (t : ℕ) (h : Handshakes) → changes_phase c ≡ false
    → (handshakes_on (Some n) c t h).requests ≡ 0 → h.requests ≡ 0
none_before n c t h ep e = go (rises c.before.req c.after.req)
    (rises c.before.ack c.after.ack) (sym (ap (λ (q : Bool). (if q then no_handshakes
    else answered_if (rises c.before.ack c.after.ack) t (asked_if (rises c.before.req c.after.req) t h)).requests) ep)
    ∙ e)
  where
    go : (q r : Bool) → (answered_if r t (asked_if q t h)).requests ≡ 0 → h.requests ≡ 0
    go true true z = some_more h.requests z
    go true false z = some_more h.requests z
    go false true z = z
    go false false z = z

pub unasked_before : (p : List Row) (row : Row) (n : Connection) → connection (row ∷ p) ≡ Some n
    → changes_phase (change_of p row) ≡ false → (handshakes (row ∷ p)).requests ≡ 0 → (handshakes p).requests ≡ 0
unasked_before p row n ec ep e = go row.kind refl
  where
    struck : (q : Bool) → (newest_struck_if q (handshakes p)).requests ≡ 0 → (handshakes p).requests ≡ 0
    struck true z = z
    struck false z = z

    go : (x : Kind) → row.kind ≡ x → (handshakes p).requests ≡ 0
    go (Drives lines) f = none_before n (change_of p row) row.time (handshakes p) ep
        (sym (λ i. (handshakes_after (is_fault (f i)) (ec i) (change_of p row) row.time (handshakes p)).requests) ∙ e)
    go (Fault bit) f = struck (change_of p row).before.io (sym (ap (λ (x : Kind).
        (handshakes_after (is_fault x) (connection (row ∷ p)) (change_of p row) row.time (handshakes p)).requests) f)
        ∙ e)

-- ---- before and after a row

-- Of this much of the block.
pub record WaitsBy (q : List Row) (block : List ℕ) : Type 0 where
  pub fresh : (bus q).req ≡ false → (handshakes q).requests ≡ 0 → block ≡ []
  pub asked : (bus q).req ≡ true → (bus q).ack ≡ false → has_group_len block ≡ false

abbrev pub FollowsBy : ScenarioValue → List Row → Connection → List ℕ → Type 0
FollowsBy s p n block = (atn msg cd io : Bool) (y : ℕ) → (not msg && cd && not io) ≡ true
    → (offering_with s p n true (ends false false atn 0 msg cd io false y)).follows ≡ true → has_group_len block ≡ false

none_in : {A : Type 0} (m c : Bool) → (not m && c && false) ≡ true → A
none_in true c e = wrong' e
none_in false true e = wrong' e
none_in false false e = wrong' e

no_answer : (v : Serving) (io : Bool) (l : Leaving) (o : Option Phase) → (lines_by v io l o).ack ≡ false
no_answer v io l None = refl
no_answer v io l (Some phase) = go (io && (phase_lines phase).io)
  where
    lines : (phase : Phase) → (phase_lines phase).ack ≡ false
    lines Phase.DataOut = refl
    lines _ = refl

    go : (q : Bool) → (if q then record (phase_lines phase) {
      data_bits = (byte_set (phase_byte v phase l.messages (one_if l.done) 0)).data_bits;
    } else phase_lines phase).ack ≡ false
    go true = lines phase
    go false = lines phase

-- The target drives these lines.
left_bus : (p : List Row) (t : ℕ) (n : Connection) (e : EndLines) (l : LineSet) → Linked p n e
    → bus (row_of_lines t n.target l ∷ p) ≡ union (initiator_side e) l
left_bus p t n e l h =
    let q : List Row = row_of_lines t n.target l ∷ p in
    let holds : drives q n.initiator ≡ initiator_side e = drives_other p t n.target l n.initiator h.apart
    ∙ h.initiator in
    let own : drives q n.target ≡ l = drives_own p t n.target l in
    let rest : (d : ℕ) → d < 8 → d ≢ n.initiator → d ≢ n.target → drives q d ≡ none =
    λ d lt n1 n2. drives_other p t n.target l d n2 ∙ h.rest d lt n1 n2 in
    bus_two q n.initiator n.target h.apart h.initiator_below h.target_below rest ∙ (λ i. union (holds i) (own i))

by_initiator : (p : List Row) (row : Row) (n : Connection) (e : EndLines) (bsy ack atn : Bool) (x : ℕ) → Linked p n e
    → row ≡ row_of_lines row.time n.initiator (initiator_side (ends bsy ack atn x e.msg e.cd e.io e.req e.given))
    → bus (row ∷ p) ≡ connected_bus (ends bsy ack atn x e.msg e.cd e.io e.req e.given)
by_initiator p row n e bsy ack atn x h r =
    ap (λ (z : Row). bus (z ∷ p)) r ∙ (initiator_moves p n e bsy ack atn x row.time h).linked.stands.bus_is

by_target : (p : List Row) (row : Row) (n : Connection) (e : EndLines) (msg cd io req : Bool) (y : ℕ) → Linked p n e
    → row ≡ row_of_lines row.time n.target (target_side (ends e.bsy e.ack e.atn e.sent msg cd io req y))
    → bus (row ∷ p) ≡ connected_bus (ends e.bsy e.ack e.atn e.sent msg cd io req y)
by_target p row n e msg cd io req y h r =
    ap (λ (z : Row). bus (z ∷ p)) r ∙ (target_moves p n e msg cd io req y row.time h).linked.stands.bus_is

pub waits_on : (s : ScenarioValue) (p : List Row) (row : Row) (n : Connection) (block next : List ℕ) → LinkRow s p n row
    → is_command (bus p) ≡ true → connection (row ∷ p) ≡ Some n → changes_phase (change_of p row) ≡ false
    → (rises (bus p).ack (bus (row ∷ p)).ack ≡ false → next ≡ block) → FollowsBy s p n block → WaitsBy p block
    → WaitsBy (row ∷ p) next
waits_on s p row n block next link commands ec ep same follows w = go link
  where
    q : List Row
    q = row ∷ p

    less : (handshakes q).requests ≡ 0 → (handshakes p).requests ≡ 0
    less z = unasked_before p row n ec ep z

    -- the lines of these ends
    here : {A : Type 0} (e : EndLines) → Linked p n e → ((not e.msg && e.cd && not e.io) ≡ true → A) → A
    here e h f = f (ap is_command (sym h.stands.bus_is) ∙ commands)

    kept : (a b : LineSet) → bus p ≡ a → bus q ≡ b → rises a.ack b.ack ≡ false → next ≡ block
    kept a b ea eb z = same ((λ i. rises (ea i).ack (eb i).ack) ∙ z)

    -- REQ is false before it and after it
    idle : (a b : LineSet) → bus p ≡ a → bus q ≡ b → a.req ≡ false → b.req ≡ false → rises a.ack b.ack ≡ false
        → WaitsBy q next
    idle a b ea eb ra rb z = record {
      fresh = λ x y. kept a b ea eb z ∙ w.fresh (ap (λ (l : LineSet). l.req) ea ∙ ra) (less y);
      asked = λ x y. wrong (sym x ∙ ap (λ (l : LineSet). l.req) eb ∙ rb);
    }

    -- REQ was true, and is false
    ended : (b : LineSet) → bus q ≡ b → b.req ≡ false → is_unasked p ≡ false → WaitsBy q next
    ended b eb rb un = record {
      fresh = λ x y. wrong (sym (ap (λ (z : ℕ). z == 0) (less y)) ∙ un);
      asked = λ x y. wrong (sym x ∙ ap (λ (l : LineSet). l.req) eb ∙ rb);
    }

    -- REQ is true after it
    asks : (a b : LineSet) → bus p ≡ a → bus q ≡ b → b.req ≡ true → rises a.ack b.ack ≡ false
        → has_group_len block ≡ false → WaitsBy q next
    asks a b ea eb rb z open_is = record {
      fresh = λ x y. wrong (sym (ap (λ (l : LineSet). l.req) eb ∙ rb) ∙ x);
      asked = λ x y. ap has_group_len (kept a b ea eb z) ∙ open_is;
    }

    go : LinkRow s p n row → WaitsBy q next
    go (rows.opens h b e) = wrong' (sym (ap is_command h.stands.bus_is) ∙ commands)
    go (rows.strikes f bit h b got who e) =
        let stays : bus q ≡ bus p = bus-fault row p bit (ap (λ (x : Row). x.kind) e) in
        let kept_is = same (ap (λ (l : LineSet). rises (bus p).ack l.ack) stays ∙ self (bus p).ack) in
        record {
          fresh = λ x y. kept_is ∙ w.fresh (ap (λ (l : LineSet). l.req) (sym stays) ∙ x) (less y);
          asked = λ x y. ap has_group_len kept_is
              ∙ w.asked (ap (λ (l : LineSet). l.req) (sym stays) ∙ x) (ap (λ (l : LineSet). l.ack) (sym stays) ∙ y);
        }
      where
        self : (a : Bool) → rises a a ≡ false
        self true = refl
        self false = refl
    go (rows.hands atn msg cd io y h b un e) = idle _ _ h.stands.bus_is
        (by_initiator p row n (ends true false atn 0 msg cd io false y) false false atn 0 h e) refl refl refl
    go (rows.releases atn x msg cd h b un e) =
        here (ends false false atn x msg cd true false 0) h (λ z. none_in msg cd z)
    go (rows.answers atn to msg cd y h b un raised e) =
        here (ends false false atn 0 msg cd true true y) h (λ z. none_in msg cd z)
    go (rows.ends_ack_in atn msg cd y h b un z e) =
        here (ends false true atn 0 msg cd true false y) h (λ z. none_in msg cd z)
    go (rows.gives atn msg cd h b z e) = asks _ _ h.stands.bus_is
        (by_initiator p row n (ends false false atn 0 msg cd false true 0) false false _ _ h e) refl refl
        (w.asked (ap (λ (l : LineSet). l.req) h.stands.bus_is) (ap (λ (l : LineSet). l.ack) h.stands.bus_is))
    go (rows.sends atn msg cd x h b z some e) =
        let after = by_initiator p row n (ends false false atn x msg cd false true 0) false true atn x h e in
        record {
          fresh = λ y v. wrong (sym (ap (λ (l : LineSet). l.req) after) ∙ y);
          asked = λ y v. wrong (sym (ap (λ (l : LineSet). l.ack) after) ∙ v);
        }
    go (rows.ends_ack_out atn msg cd x h b e) = idle _ _ h.stands.bus_is
        (by_initiator p row n (ends false true atn x msg cd false false 0) false false atn 0 h e) refl refl refl
    go (rows.answers_pulse req atn to y h b un z rose e) =
        here (ends false false atn 0 false false true req y) h (λ z. wrong' z)
    go (rows.ends_ack_pulse io req atn x y h b un z e) =
        here (ends false true atn x false false io req y) h (λ z. wrong' z)
    go (rows.drives_pulsed req atn x y h b z e) =
        here (ends false false atn x false false false req 0) h (λ z. wrong' z)
    go (rows.sends_pulse req atn x h b z byte e) =
        here (ends false false atn x false false false req 0) h (λ z. wrong' z)
    go (rows.offers atn x msg cd h b un e) = here (ends false false atn x msg cd true false 0) h (λ z. none_in msg cd z)
    go (rows.asks_first bsy atn msg cd io y h b un first e) = asks _ _ h.stands.bus_is
        (by_target p row n (ends bsy false atn 0 msg cd io false y) msg cd io true y h e) refl refl
        (ap has_group_len (w.fresh (ap (λ (l : LineSet). l.req) h.stands.bus_is) (zero_of (handshakes p).requests un)))
    go (rows.ends_req atn msg cd io x y h b un z e) =
        ended _ (by_target p row n (ends false true atn x msg cd io true y) msg cd io false _ h e) refl un
    go (rows.asks_next atn msg cd io y h b un z more e) = asks _ _ h.stands.bus_is
        (by_target p row n (ends false false atn 0 msg cd io false y) msg cd io true y h e) refl refl
        (here (ends false false atn 0 msg cd io false y) h (λ v. follows atn msg cd io y v more))
    go (rows.leaves atn msg cd io x y h b known un zero over e) =
        let f : EndLines = ends false false atn x msg cd io false y in
        let v = serving_at s (run_state s p) n.target (phase_of (connected_bus f)) in
        let l = phase_leaving v atn (phase_of (connected_bus f)) in
        ended _ (ap (λ (z : Row). bus (z ∷ p)) e ∙ left_bus p row.time n f (offering_with s p n true f).to h)
        (left_req v io l l.to) un
    go (rows.ends_req_pulse io ack atn x y h b un z e) =
        here (ends false ack atn x false false io true y) h (λ z. wrong' z)
    go (rows.changes_pulsed ack atn y z h b un pulsed e) =
        here (ends false ack atn 0 false false true false y) h (λ z. wrong' z)
    go (rows.asks_pulse io ack atn x y h b un z zero byte e) =
        here (ends false ack atn x false false io false y) h (λ z. wrong' z)

-- ---- a byte crosses as it is asked for

pub asked_now : (s : ScenarioValue) (p : List Row) (row : Row) (n : Connection)
    → LinkRow s p n row → is_command (bus p) ≡ true → rises (bus p).ack (bus (row ∷ p)).ack ≡ true
    → ((bus p).req ≡ true) × ((bus p).ack ≡ false)
asked_now s p row n link commands up = go link
  where
    q : List Row
    q = row ∷ p

    here : {A : Type 0} (e : EndLines) → Linked p n e → ((not e.msg && e.cd && not e.io) ≡ true → A) → A
    here e h f = f (ap is_command (sym h.stands.bus_is) ∙ commands)

    none : {A : Type 0} (a b : LineSet) → bus p ≡ a → bus q ≡ b → rises a.ack b.ack ≡ false → A
    none a b ea eb z = wrong' (sym z ∙ (λ i. rises (sym ea i).ack (sym eb i).ack) ∙ up)

    go : LinkRow s p n row → ((bus p).req ≡ true) × ((bus p).ack ≡ false)
    go (rows.opens h b e) = wrong' (sym (ap is_command h.stands.bus_is) ∙ commands)
    go (rows.strikes f bit h b got who e) =
        none _ _ refl (bus-fault row p bit (ap (λ (x : Row). x.kind) e)) (self (bus p).ack)
      where
        self : (a : Bool) → rises a a ≡ false
        self true = refl
        self false = refl
    go (rows.hands atn msg cd io y h b un e) = none _ _ h.stands.bus_is
        (by_initiator p row n (ends true false atn 0 msg cd io false y) false false atn 0 h e) refl
    go (rows.releases atn x msg cd h b un e) =
        here (ends false false atn x msg cd true false 0) h (λ z. none_in msg cd z)
    go (rows.answers atn to msg cd y h b un raised e) =
        here (ends false false atn 0 msg cd true true y) h (λ z. none_in msg cd z)
    go (rows.ends_ack_in atn msg cd y h b un z e) =
        here (ends false true atn 0 msg cd true false y) h (λ z. none_in msg cd z)
    go (rows.gives atn msg cd h b z e) = none _ _ h.stands.bus_is
        (by_initiator p row n (ends false false atn 0 msg cd false true 0) false false _ _ h e) refl
    go (rows.sends atn msg cd x h b z some e) =
        (ap (λ (l : LineSet). l.req) h.stands.bus_is, ap (λ (l : LineSet). l.ack) h.stands.bus_is)
    go (rows.ends_ack_out atn msg cd x h b e) = none _ _ h.stands.bus_is
        (by_initiator p row n (ends false true atn x msg cd false false 0) false false atn 0 h e) refl
    go (rows.answers_pulse req atn to y h b un z rose e) =
        here (ends false false atn 0 false false true req y) h (λ z. wrong' z)
    go (rows.ends_ack_pulse io req atn x y h b un z e) =
        here (ends false true atn x false false io req y) h (λ z. wrong' z)
    go (rows.drives_pulsed req atn x y h b z e) =
        here (ends false false atn x false false false req 0) h (λ z. wrong' z)
    go (rows.sends_pulse req atn x h b z byte e) =
        here (ends false false atn x false false false req 0) h (λ z. wrong' z)
    go (rows.offers atn x msg cd h b un e) = here (ends false false atn x msg cd true false 0) h (λ z. none_in msg cd z)
    go (rows.asks_first bsy atn msg cd io y h b un first e) =
        none _ _ h.stands.bus_is (by_target p row n (ends bsy false atn 0 msg cd io false y) msg cd io true y h e) refl
    go (rows.ends_req atn msg cd io x y h b un z e) =
        none _ _ h.stands.bus_is (by_target p row n (ends false true atn x msg cd io true y) msg cd io false _ h e) refl
    go (rows.asks_next atn msg cd io y h b un z more e) = none _ _ h.stands.bus_is
        (by_target p row n (ends false false atn 0 msg cd io false y) msg cd io true y h e) refl
    go (rows.leaves atn msg cd io x y h b known un zero over e) =
        let f : EndLines = ends false false atn x msg cd io false y in
        let v = serving_at s (run_state s p) n.target (phase_of (connected_bus f)) in
        let l = phase_leaving v atn (phase_of (connected_bus f)) in
        none _ _ h.stands.bus_is (ap (λ (z : Row). bus (z ∷ p)) e
        ∙ left_bus p row.time n f (offering_with s p n true f).to h) (no_answer v io l l.to)
    go (rows.ends_req_pulse io ack atn x y h b un z e) =
        here (ends false ack atn x false false io true y) h (λ z. wrong' z)
    go (rows.changes_pulsed ack atn y z h b un pulsed e) =
        here (ends false ack atn 0 false false true false y) h (λ z. wrong' z)
    go (rows.asks_pulse io ack atn x y h b un z zero byte e) =
        here (ends false ack atn x false false io false y) h (λ z. wrong' z)
