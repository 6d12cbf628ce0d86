-- The tests of a row say what they are called for.
use Rattle.book_laws.proofs
use proofs.Names.{ℕ, ◌≡◌, ◌+◌, ◌⊎◌, inl, inr, Bool, true, false, not, ◌&&◌, ◌||◌, ◌∙◌, length, Option, Some, None, refl}
use proofs.Names.{sym, ap, true≢false, not-true, eqb-true, ltb-true, cases_Bool, if◌then◌else◌, is_some, is_none, ◌==◌}
use proofs.Names.{◌%◌, nat_lt, slice_index_or, and_first, and_second, or_second, implied, ProcId, rises, changes_phase}
use proofs.Names.{is_command, is_data, is_message_out, is_message_in, is_fault, receiver_in, receiver_of, Row, Change}
use proofs.Names.{Connection, has_group_len, MsgIn, ScenarioValue, same_bool_is, Process, process_of, row_reading}
use proofs.Names.{message_in, Item, process, abort, link_after_name, aim_of, policy_of, run_at, next_word, attends_with}
use proofs.Names.{bytes_of_messages, phase_of, Ready, is_name, Phase, Task, target_def_of, RunState, bus_of, item_of}
use proofs.Names.{process_here, process_served, carried_here, is_writing, task_of, ready_of, SendsOwn, is_in_phase}
use proofs.Names.{is_out_phase, HasPhase, LeavesWhole, IsAtRun, is_of_target, is_aimed_at, is_between, is_ready_for}
use proofs.Names.{is_made_for, is_first_row, is_block_whole, is_phase_whole, leaves_whole, has_phase, says_next}
use proofs.Names.{gives_next, sends_next, is_at_run, same_item_if, names_served, crosses_well, is_of_kind, is_row_in}
use proofs.Names.{is_last_row, is_row_by, is_row_of, RowKind, still, strikes, crosses, turns, IsReadyFor, IsAimedAt}
use proofs.{Names.{Begins, GoesOn, Ends, RowOf, apart, begins, goes_on, ends, under_reset}, Common.Lookups.{id_is}}
use Rattle.due_model.specs.array_model.specs.Processes.{same_bool}

-- ---- small facts

pub none_is : (x : Option Item) → is_none x ≡ true → x ≡ None
none_is None e = refl
none_is (Some item) e = absurd (true≢false (sym e))

pub item_if_is : (a b : Option Item) → same_item_if a b ≡ true → a ≡ b
item_if_is None None e = refl
item_if_is (Some a) None e = wrong a e
  where
    wrong : (x : Item) → same_item_if (Some x) None ≡ true → Some x ≡ None
    wrong (process id) f = absurd (true≢false (sym f))
    wrong (abort n) f = absurd (true≢false (sym f))
item_if_is (Some (process a)) (Some (process b)) e = ap (λ (x : ProcId). Some (process x)) (id_is a b e)
item_if_is (Some (abort n)) (Some (abort m)) e = ap (λ (x : ℕ). Some (abort x)) (eqb-true n m e)
item_if_is _ _ e = absurd (true≢false (sym e))

-- ---- a phase is left

left : (s : ScenarioValue) (k : RunState) (n : Connection) → leaves_whole s k n ≡ true → LeavesWhole s k n
left s k n e =
    let whole = and_first (is_phase_whole s k (phase_of (bus_of k))) _ e in
    let named = and_second (is_phase_whole s k (phase_of (bus_of k))) _ e in
    record {
      out = λ f. sym (ap (is_phase_whole s k) f) ∙ whole;
      some = λ f. not-true (k.handshakes.requests == 0) (and_first (not (k.handshakes.requests == 0))
          ((bus_of k).atn || k.handshakes.requests == length (bytes_of_messages k.exchange.plan.messages))
          (sym (ap (is_phase_whole s k) f) ∙ whole));
      given = λ f a. eqb-true k.handshakes.requests (length (bytes_of_messages k.exchange.plan.messages))
          (or_second (bus_of k).atn (k.handshakes.requests == length (bytes_of_messages k.exchange.plan.messages))
          (and_second (not (k.handshakes.requests == 0))
          ((bus_of k).atn || k.handshakes.requests == length (bytes_of_messages k.exchange.plan.messages))
          (sym (ap (is_phase_whole s k) f) ∙ whole)) a);
      command = λ p ep f.
          let block : is_block_whole k (Some p) ≡ true = sym (ap (is_block_whole k) ep)
          ∙ sym (ap (is_phase_whole s k) f) ∙ whole in (
            and_first (has_group_len p.cdb) _ block,
            λ z. or_second k.exchange.plan.struck _ (and_second (has_group_len p.cdb) _ block) z,
          );
      named = λ r o i. or_second (not n.reselected || is_out_phase (phase_of (bus_of k))
          || (is_in_phase (phase_of (bus_of k)) && (bus_of k).atn)) (is_some (item_of k.story.link)) named
          (λ j. not (r j) || o j || i j);
    }

phase_is : (k : RunState) → has_phase k ≡ true → HasPhase k
phase_is k e f =
    let b = implied (bus_of k).msg ((bus_of k).cd && k.exchange.begun) e f in
    (and_first (bus_of k).cd k.exchange.begun b, and_second (bus_of k).cd k.exchange.begun b)

-- ---- the first row of a connection

pub aimed : (s : ScenarioValue) (k : RunState) (n : Connection)
    → is_aimed_at s n (aim_of k.story.aims n.initiator) ≡ true → IsAimedAt s k n
aimed s k n e = go (aim_of k.story.aims n.initiator) refl
  where
    go : (x : Option Item) → aim_of k.story.aims n.initiator ≡ x → IsAimedAt s k n
    go None f = absurd (true≢false (sym e ∙ ap (is_aimed_at s n) f))
    go (Some item) f = record {
      item = item;
      aim_is = f;
      target_is = λ p g. eqb-true p.target n.target
          (sym (ap (λ (x : Option Process). is_of_target x n.target) g) ∙ sym (ap (is_aimed_at s n) f) ∙ e);
    }

pub made_ready : (s : ScenarioValue) (k : RunState) (n : Connection) → is_ready_for s n (ready_of s k n.target) ≡ true
    → IsReadyFor s k n
made_ready s k n e = go (ready_of s k n.target) refl
  where
    go : (x : Option Ready) → ready_of s k n.target ≡ x → IsReadyFor s k n
    go None f = absurd (true≢false (sym e ∙ ap (is_ready_for s n) f))
    go (Some r) f = by (process_of s r.process.id) refl
      where
        here : is_ready_for s n (Some r) ≡ true
        here = sym (ap (is_ready_for s n) f) ∙ e

        by : (c : Option Process) → process_of s r.process.id ≡ c → IsReadyFor s k n
        by None g = absurd
            (true≢false (sym (and_second (nat_lt r.process.unit 8) (is_between (process_of s r.process.id) n) here)
            ∙ ap (λ (x : Option Process). is_between x n) g))
        by (Some c) g =
            let ends_are : is_between (Some c) n ≡ true = sym (ap (λ (x : Option Process). is_between x n) g)
            ∙ and_second (nat_lt r.process.unit 8) (is_between (process_of s r.process.id) n) here in
            record {
              ready = r;
              ready_is = f;
              unit_in = ltb-true r.process.unit 8
                  (and_first (nat_lt r.process.unit 8) (is_between (process_of s r.process.id) n) here);
              process = c;
              process_is = g;
              initiator_is = eqb-true c.initiator n.initiator
                  (and_first (c.initiator == n.initiator) (c.target == n.target) ends_are);
              target_is =
                  eqb-true c.target n.target (and_second (c.initiator == n.initiator) (c.target == n.target) ends_are);
            }

first_row : (s : ScenarioValue) (k : RunState) (row : Row) (n : Connection) → k.story.bus_state.connection ≡ None
    → (row_reading k.story.bus_state row).next ≡ Some n → (row_reading k.story.bus_state row).change.after.rst ≡ false
    → is_first_row s k row (row_reading k.story.bus_state row) n ≡ true → Begins s k row n
first_row s k row n e f r t =
    let d = row_reading k.story.bus_state row in
    let t4 = and_first (not (is_fault row.kind) && not (is_message_out d.change.after)
    && k.handshakes.requests == 0 && not (rises d.change.before.req d.change.after.req))
    (is_made_for s k n n.reselected && (not n.reselected || is_message_in d.change.after)) t in
    let both = and_second (not (is_fault row.kind) && not (is_message_out d.change.after)
    && k.handshakes.requests == 0 && not (rises d.change.before.req d.change.after.req))
    (is_made_for s k n n.reselected && (not n.reselected || is_message_in d.change.after)) t in
    let made = and_first (is_made_for s k n n.reselected) (not n.reselected || is_message_in d.change.after) both in
    let t3 = and_first (not (is_fault row.kind) && not (is_message_out d.change.after) && k.handshakes.requests == 0)
    (not (rises d.change.before.req d.change.after.req)) t4 in
    let t2 = and_first (not (is_fault row.kind) && not (is_message_out d.change.after))
    (k.handshakes.requests == 0) t3 in
    record {
      first = record {
        connection_is = e;
        next_is = f;
        lines =
            not-true (is_fault row.kind) (and_first (not (is_fault row.kind)) (not (is_message_out d.change.after)) t2);
        calm = r;
        phase = not-true (is_message_out d.change.after)
            (and_second (not (is_fault row.kind)) (not (is_message_out d.change.after)) t2);
        none_asked = eqb-true k.handshakes.requests 0 (and_second
            (not (is_fault row.kind) && not (is_message_out d.change.after)) (k.handshakes.requests == 0) t3);
        asks_none = not-true (rises d.change.before.req d.change.after.req)
            (and_second (not (is_fault row.kind) && not (is_message_out d.change.after) && k.handshakes.requests == 0)
            (not (rises d.change.before.req d.change.after.req)) t4);
      };
      selects = λ z. aimed s k n (sym (ap (is_made_for s k n) z) ∙ made);
      reselects = λ z. made_ready s k n (sym (ap (is_made_for s k n) z) ∙ made);
      names = λ z. implied n.reselected (is_message_in d.change.after)
          (and_second (is_made_for s k n n.reselected) (not n.reselected || is_message_in d.change.after) both) z;
    }

-- ---- a byte crosses

sent : (s : ScenarioValue) (k : RunState) (row : Row) → ((row_reading k.story.bus_state row).crosses ≡ true
    → sends_next k (row_reading k.story.bus_state row).change (process_here s k) ≡ true) → SendsOwn s k row
sent s k row t p e f =
    let c : Change = (row_reading k.story.bus_state row).change in
    let v : ℕ = c.after.data_bits % 256 in
    let here : sends_next k c (Some p) ≡ true = sym (ap (sends_next k c) e) ∙ t f in
    let one = and_first (not (is_command c.before) || (v == slice_index_or p.cdb (carried_here k p.id).command.active 0
    && nat_lt (carried_here k p.id).command.active (length p.cdb))) _ here in
    let two = and_second (not (is_command c.before) || (v == slice_index_or p.cdb (carried_here k p.id).command.active 0
    && nat_lt (carried_here k p.id).command.active (length p.cdb))) _ here in
    record {
      command = λ g.
          let b = implied (is_command c.before) (v == slice_index_or p.cdb (carried_here k p.id).command.active 0
          && nat_lt (carried_here k p.id).command.active (length p.cdb)) one g in (
            eqb-true v (slice_index_or p.cdb (carried_here k p.id).command.active 0)
                (and_first (v == slice_index_or p.cdb (carried_here k p.id).command.active 0)
                (nat_lt (carried_here k p.id).command.active (length p.cdb)) b),
            ltb-true (carried_here k p.id).command.active (length p.cdb)
                (and_second (v == slice_index_or p.cdb (carried_here k p.id).command.active 0)
                (nat_lt (carried_here k p.id).command.active (length p.cdb)) b),
          );
      moved = λ g w.
          let b = or_second (not (is_data c.before) || not (is_writing p))
          (v == slice_index_or p.sent (carried_here k p.id).moved.active 0
          && nat_lt (carried_here k p.id).moved.active (length p.sent)) two (λ i. not (g i) || not (w i)) in (
            eqb-true v (slice_index_or p.sent (carried_here k p.id).moved.active 0)
                (and_first (v == slice_index_or p.sent (carried_here k p.id).moved.active 0)
                (nat_lt (carried_here k p.id).moved.active (length p.sent)) b),
            ltb-true (carried_here k p.id).moved.active (length p.sent)
                (and_second (v == slice_index_or p.sent (carried_here k p.id).moved.active 0)
                (nat_lt (carried_here k p.id).moved.active (length p.sent)) b),
          );
    }

at_run : (s : ScenarioValue) (k : RunState) (n : Connection) (c : Process) (t : Task)
    → is_at_run s k n (Some c) (Some t) Phase.DataOut ≡ true → IsAtRun s k n c t
at_run s k n c t e =
    let two = and_first ((not n.reselected || is_some (item_of k.story.link)) && is_writing c) _ e in
    record {
      named = λ r. implied n.reselected (is_some (item_of k.story.link))
          (and_first (not n.reselected || is_some (item_of k.story.link)) (is_writing c) two) r;
      writes = and_second (not n.reselected || is_some (item_of k.story.link)) (is_writing c) two;
      active_is = eqb-true (carried_here k c.id).moved.active
          ((run_at (policy_of (target_def_of s c.target)) t t.runs).start + k.handshakes.answers)
          (and_second ((not n.reselected || is_some (item_of k.story.link)) && is_writing c) _ e);
    }

-- A message is heard with a byte.
heard_crosses : (k : RunState) (row : Row) (m : MsgIn) → (row_reading k.story.bus_state row).into ≡ Some m
    → (row_reading k.story.bus_state row).crosses ≡ true
heard_crosses k row m e = go (row_reading k.story.bus_state row).crosses refl
  where
    none_some : (let a : Option MsgIn = None in a) ≡ Some m → ⊥
    none_some z = cc

    go : (q : Bool) → (row_reading k.story.bus_state row).crosses ≡ q
        → (row_reading k.story.bus_state row).crosses ≡ true
    go true f = f
    go false f = absurd (none_some
        (sym (ap (λ (q : Bool). message_in k.story.bus_state.dialogue (row_reading k.story.bus_state row).change q) f)
        ∙ e))

-- ---- a row of a connection

kind_is : (row : Row) (n : Connection) (c : Change)
    → is_of_kind (is_fault row.kind) (changes_phase c) (is_some (receiver_in n c)) ≡ true → RowKind row n c
kind_is row n c e = go (is_fault row.kind) refl (changes_phase c) refl (receiver_in n c) refl
  where
    go : (q : Bool) → is_fault row.kind ≡ q → (r : Bool) → changes_phase c ≡ r → (x : Option ℕ) → receiver_in n c ≡ x
        → RowKind row n c
    go false f false g None h = still f g h
    go true f false g None h = strikes f g h
    go false f false g (Some dev) h = crosses dev f g h
    go false f true g None h = turns f g h
    go true f true g x h = absurd (true≢false (sym e ∙ (λ i. is_of_kind (f i) (g i) (is_some (receiver_in n c)))))
    go true f false g (Some dev) h = absurd (true≢false (sym e ∙ (λ i. is_of_kind (f i) (g i) (is_some (h i)))))
    go false f true g (Some dev) h = absurd (true≢false (sym e ∙ (λ i. is_of_kind (f i) (g i) (is_some (h i)))))

row_in : (s : ScenarioValue) (k : RunState) (row : Row) (n : Connection)
    → k.story.bus_state.connection ≡ Some n → (row_reading k.story.bus_state row).change.after.rst ≡ false
    → is_row_in s k row (row_reading k.story.bus_state row) n ≡ true
    → GoesOn s k row n (row_reading k.story.bus_state row).change
row_in s k row n e r t =
    let d = row_reading k.story.bus_state row in
    let c : Change = d.change in
    let t5 = and_first (c.after.bsy && not (bus_of k).rst && has_phase k
    && is_of_kind (is_fault row.kind) (changes_phase c) (is_some (receiver_in n c))
    && (not d.crosses || crosses_well s k n d))
    (not (changes_phase c) || (leaves_whole s k n && (k.exchange.begun || is_message_out c.after))) t in
    let leaving = and_second (c.after.bsy && not (bus_of k).rst && has_phase k
    && is_of_kind (is_fault row.kind) (changes_phase c) (is_some (receiver_in n c))
    && (not d.crosses || crosses_well s k n d))
    (not (changes_phase c) || (leaves_whole s k n && (k.exchange.begun || is_message_out c.after))) t in
    let t4 = and_first (c.after.bsy && not (bus_of k).rst && has_phase k
    && is_of_kind (is_fault row.kind) (changes_phase c) (is_some (receiver_in n c)))
    (not d.crosses || crosses_well s k n d) t5 in
    let crossing = and_second (c.after.bsy && not (bus_of k).rst && has_phase k
    && is_of_kind (is_fault row.kind) (changes_phase c) (is_some (receiver_in n c)))
    (not d.crosses || crosses_well s k n d) t5 in
    let t3 = and_first (c.after.bsy && not (bus_of k).rst && has_phase k)
    (is_of_kind (is_fault row.kind) (changes_phase c) (is_some (receiver_in n c))) t4 in
    let t2 = and_first (c.after.bsy && not (bus_of k).rst) (has_phase k) t3 in
    let now : d.crosses ≡ is_some (receiver_in n c) = ap (λ (x : Option Connection). is_some (receiver_of x c)) e in
    let well : d.crosses ≡ true → crosses_well s k n d ≡ true = λ z. implied d.crosses
    (crosses_well s k n d) crossing z in
    let w4 : d.crosses ≡ true → (says_next k c && gives_next k c && k.exchange.begun && sends_next k c
    (process_here s k) && is_at_run s k n (process_served s k) (task_of s k) (phase_of (bus_of k))) ≡ true =
    λ z. and_first _ (names_served s k n k.story.link d.into) (well z) in
    let w3 : d.crosses ≡ true
    → (says_next k c && gives_next k c && k.exchange.begun && sends_next k c (process_here s k)) ≡ true = λ z. and_first
    _ (is_at_run s k n (process_served s k) (task_of s k) (phase_of (bus_of k))) (w4 z) in
    let wb : d.crosses ≡ true → (says_next k c && gives_next k c && k.exchange.begun) ≡ true = λ z. and_first
    (says_next k c && gives_next k c && k.exchange.begun) (sends_next k c (process_here s k)) (w3 z) in
    let w2 : d.crosses ≡ true → (says_next k c && gives_next k c) ≡ true = λ z. and_first
    (says_next k c && gives_next k c) k.exchange.begun (wb z) in
    record {
      row_is = record {
        connection_is = e;
        change_is = refl;
        bus_is = refl;
        stands = and_first c.after.bsy (not (bus_of k).rst) t2;
        calm = r;
        kind = kind_is row n c (and_second (c.after.bsy && not (bus_of k).rst && has_phase k)
            (is_of_kind (is_fault row.kind) (changes_phase c) (is_some (receiver_in n c))) t4);
      };
      calm = not-true (bus_of k).rst (and_second c.after.bsy (not (bus_of k).rst) t2);
      phase = phase_is k (and_second (c.after.bsy && not (bus_of k).rst) (has_phase k) t3);
      says = λ o z.
          let b = implied (is_message_out c.before) (c.after.data_bits % 256 == next_word k.exchange.speech
          && same_bool c.after.atn (attends_with k.exchange.speech))
          (and_first (says_next k c) (gives_next k c) (w2 (now ∙ z))) o in (
            eqb-true (c.after.data_bits % 256) (next_word k.exchange.speech)
                (and_first (c.after.data_bits % 256 == next_word k.exchange.speech)
                (same_bool c.after.atn (attends_with k.exchange.speech)) b),
            same_bool_is c.after.atn (attends_with k.exchange.speech)
                (and_second (c.after.data_bits % 256 == next_word k.exchange.speech)
                (same_bool c.after.atn (attends_with k.exchange.speech)) b),
          );
      gives = λ o z.
          let count : ℕ = k.handshakes.requests in
          let b = implied (is_message_in c.before)
          (c.after.data_bits % 256 == slice_index_or (bytes_of_messages k.exchange.plan.messages) count 0
          && nat_lt count (length (bytes_of_messages k.exchange.plan.messages)) && k.exchange.begun)
          (and_second (says_next k c) (gives_next k c) (w2 (now ∙ z))) o in
          let a = and_first
          (c.after.data_bits % 256 == slice_index_or (bytes_of_messages k.exchange.plan.messages) count 0
          && nat_lt count (length (bytes_of_messages k.exchange.plan.messages))) k.exchange.begun b in (
            eqb-true (c.after.data_bits % 256)
                (slice_index_or (bytes_of_messages k.exchange.plan.messages) count 0) (and_first
                (c.after.data_bits % 256 == slice_index_or (bytes_of_messages k.exchange.plan.messages) count 0)
                (nat_lt count (length (bytes_of_messages k.exchange.plan.messages))) a),
            ltb-true count (length (bytes_of_messages k.exchange.plan.messages)) (and_second
                (c.after.data_bits % 256 == slice_index_or (bytes_of_messages k.exchange.plan.messages) count 0)
                (nat_lt count (length (bytes_of_messages k.exchange.plan.messages))) a),
            and_second (c.after.data_bits % 256 == slice_index_or (bytes_of_messages k.exchange.plan.messages) count 0
                && nat_lt count (length (bytes_of_messages k.exchange.plan.messages))) k.exchange.begun b,
          );
      names = λ l m g el em nm.
          let named : names_served s k n (Some l) (Some m) ≡ true = (λ i. names_served s k n (sym el i) (sym em i))
          ∙ and_second _ (names_served s k n k.story.link d.into) (well (heard_crosses k row m em)) in
          one_of (link_after_name k.story.sent s.commands l m).item k.served
          (or_second (not n.reselected || not (is_name m))
          (same_item_if (link_after_name k.story.sent s.commands l m).item k.served
          || is_none (link_after_name k.story.sent s.commands l m).item) named (λ i. not (g i) || not (nm i)));
      sends = sent s k row (λ z. and_second (says_next k c && gives_next k c && k.exchange.begun)
          (sends_next k c (process_here s k)) (w3 z));
      runs = λ z p u ep eu ef. at_run s k n p u ((λ i. is_at_run s k n (sym ep i) (sym eu i) (sym ef i))
          ∙ and_second _ (is_at_run s k n (process_served s k) (task_of s k) (phase_of (bus_of k))) (w4 z));
      begun = λ z. and_second (says_next k c && gives_next k c) k.exchange.begun (wb z);
      first = λ z b. or_second k.exchange.begun (is_message_out c.after)
          (and_second (leaves_whole s k n) (k.exchange.begun || is_message_out c.after)
          (implied (changes_phase c) (leaves_whole s k n && (k.exchange.begun || is_message_out c.after)) leaving z)) b;
      leaves = λ z. left s k n (and_first (leaves_whole s k n) (k.exchange.begun || is_message_out c.after)
          (implied (changes_phase c) (leaves_whole s k n && (k.exchange.begun || is_message_out c.after)) leaving z));
    }
  where
    one_of : (a b : Option Item) → (same_item_if a b || is_none a) ≡ true → (a ≡ b) ⊎ (a ≡ None)
    one_of a b f =
        elim (cases_Bool (same_item_if a b)) [
          | inl e ↦ inl (item_if_is a b e)
          | inr e ↦ inr (none_is a (or_second (same_item_if a b) (is_none a) f e))
        ]

last_row : (s : ScenarioValue) (k : RunState) (row : Row) (n : Connection) → k.story.bus_state.connection ≡ Some n
    → (row_reading k.story.bus_state row).next ≡ None → is_last_row s k (row_reading k.story.bus_state row) n ≡ true
    → Ends s k row n
last_row s k row n e f t =
    let d = row_reading k.story.bus_state row in
    let t3 = and_first (not (bus_of k).rst && has_phase k && not d.crosses)
    (not (changes_phase d.change) || leaves_whole s k n) t in
    let t2 = and_first (not (bus_of k).rst && has_phase k) (not d.crosses) t3 in
    record {
      connection_is = e;
      next_is = f;
      calm = not-true (bus_of k).rst (and_first (not (bus_of k).rst) (has_phase k) t2);
      phase = phase_is k (and_second (not (bus_of k).rst) (has_phase k) t2);
      carries_none = not-true d.crosses (and_second (not (bus_of k).rst && has_phase k) (not d.crosses) t3);
      leaves = λ z. left s k n (implied (changes_phase d.change) (leaves_whole s k n)
          (and_second (not (bus_of k).rst && has_phase k && not d.crosses)
          (not (changes_phase d.change) || leaves_whole s k n) t) z);
    }

-- ---- any row

pub row_of : (s : ScenarioValue) (k : RunState) (row : Row) → is_row_of s k row ≡ true → RowOf s k row
row_of s k row t = go (row_reading k.story.bus_state row).change.after.rst refl
  where
    by : (row_reading k.story.bus_state row).change.after.rst ≡ false
        → (m o : Option Connection) → k.story.bus_state.connection ≡ m → (row_reading k.story.bus_state row).next ≡ o
        → is_row_by s k row (row_reading k.story.bus_state row) m o ≡ true → RowOf s k row
    by r None None e f z = apart e f
    by r None (Some n) e f z = begins n (first_row s k row n e f r z)
    by r (Some m) None e f z = ends m (last_row s k row m e f z)
    by r (Some m) (Some n) e f z = goes_on m (row_reading k.story.bus_state row).change (row_in s k row m e r z)

    go : (q : Bool) → (row_reading k.story.bus_state row).change.after.rst ≡ q → RowOf s k row
    go true r = under_reset r (not-true (row_reading k.story.bus_state row).crosses
        (sym (ap (λ (q : Bool). if q then not (row_reading k.story.bus_state row).crosses else is_row_by s k row
        (row_reading k.story.bus_state row) k.story.bus_state.connection (row_reading k.story.bus_state row).next) r)
        ∙ t))
    go false r = by r k.story.bus_state.connection (row_reading k.story.bus_state row).next refl refl
        (sym (ap (λ (q : Bool). if q then not (row_reading k.story.bus_state row).crosses else is_row_by s k row
        (row_reading k.story.bus_state row) k.story.bus_state.connection (row_reading k.story.bus_state row).next) r)
        ∙ t)
