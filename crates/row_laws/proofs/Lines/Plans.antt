-- What the target plans: in MESSAGE IN there is a message, and in a data phase it serves a process whose data go that
-- way.
use Rattle.row_laws.proofs
use proofs.Names.{ℕ, ◌≡◌, ◌≤◌, Bool, true, false, not, ◌&&◌, ◌==◌, ◌∙◌, List, length, length-append, Option, Some, None}
use proofs.Names.{refl, sym, ap, arith, ◌+◌, and_parts, ltb-false, ◌-◌, if◌then◌else◌, is_some, nat_lt, wrong', implies}
use proofs.Names.{LineSet, changes_phase, is_data, is_message_out, is_message_in, receiver_in, Row, Change, Connection}
use proofs.Names.{MsgIn, ScenarioValue, Process, Exchange, plan_anew, plan_after_message, struck_plan, message_bytes}
use proofs.Names.{bytes_of_messages, from_byte, Serving, phase_of, leaving_by, cause_after, plan_in_message_out}
use proofs.Names.{plan_with_byte, Cause, Hearing, Leaving, Messages, Phase, Plan, Task, still_talk, host_of, RunState}
use proofs.Names.{bus_of, process_item, process_served, run_state_after, serving_of, hearing_of, leaving, is_writing}
use proofs.Names.{task_if, task_of, is_data_out, InConnection, in_connection, same_phase_is, Gives, is_in_phase}
use proofs.Names.{HasPhase, LeavesWhole, is_out_phase, RowKind, still, strikes, crosses, turns, IsRowIn, reading_in}
use proofs.Common.{PhaseLines.{in_phase, is_data_phase}, PlanWays.{plan_by}, Tests.{some_count}}
use proofs.Lines.UndoneLeavings.{is_to_message_in}
use Rattle.link_laws.proofs.LeavingWays as ways

abbrev pub is_in_message : Cause → Bool
is_in_message Cause.InMessage = true
is_in_message _ = false

-- Whether a process writes; and whether its data go to the initiator so.
abbrev pub writes_of : Option Process → Option Bool
writes_of None = None
writes_of (Some c) = Some (is_writing c)

abbrev pub is_directed : Bool → Option Bool → Bool
is_directed io None = false
is_directed true (Some writes) = not writes
is_directed false (Some writes) = writes

pub record Planned (s : ScenarioValue) (k : RunState) : Type 0 where
  pub serves : k.exchange.begun ≡ true → is_data (bus_of k) ≡ true
      → is_directed (bus_of k).io (writes_of (process_served s k)) ≡ true
  pub message : phase_of (bus_of k) ≡ Phase.MessageIn → is_some k.exchange.plan.messages.first ≡ true
  pub repeated : k.exchange.begun ≡ true → is_message_out (bus_of k) ≡ true → is_in_message k.exchange.plan.cause ≡ true
      → is_some k.exchange.plan.messages.first ≡ true

-- ---- how a phase is left

abbrev task_writes : Option Task → Option Bool
task_writes None = None
task_writes (Some t) = Some t.writes

abbrev runs_so : Option Phase → Option Bool → Bool
runs_so (Some Phase.DataIn) o = is_directed true o
runs_so (Some Phase.DataOut) o = is_directed false o
runs_so _ o = true

-- To MESSAGE IN with a message, and to a data phase for a process that moves its data so.
abbrev fits : Option Task → Leaving → Bool
fits o l = implies (is_to_message_in l.to) (is_some l.messages.first) && runs_so l.to (task_writes o)

left_fits : {v : Serving} {atn : Bool} {phase : Phase} {l : Leaving} → ways.Leaves v atn phase l
    → (is_out_phase phase ≡ true → is_in_message v.plan.cause ≡ true → is_some v.plan.messages.first ≡ true)
    → fits v.task l ≡ true
left_fits (ways.repeats _ r) h = λ i. h refl (ap is_in_message r.cause) i && true
left_fits (ways.reads _ _ _ r) h =
    ap (λ (o : Option Task). is_directed true (task_writes o)) r.task_is ∙ ap not r.writes_is
left_fits (ways.writes _ _ _ r) h = ap (λ (o : Option Task). is_directed false (task_writes o)) r.task_is ∙ r.writes_is
left_fits _ h = refl

-- A data phase of a process is left to another phase.
data_some : {v : Serving} {atn : Bool} {phase : Phase} {l : Leaving} → ways.Leaves v atn phase l
    → is_data_phase phase ≡ true → is_some v.task ≡ true → is_some l.to ≡ true
data_some (ways.unserved _ none) d some = wrong' (sym (ap (λ (o : Option Task). is_some o) none) ∙ some)
data_some (ways.aborts _ _) d some = wrong' d
data_some (ways.loses_message _) d some = wrong' d
data_some (ways.loses_status _) d some = wrong' d
data_some (ways.frees _ _) d some = wrong' d
data_some _ d some = refl

-- ---- tasks and phases

task_moves : (s : ScenarioValue) (k : RunState) (o : Option Process) → task_writes (task_if s k o) ≡ writes_of o
task_moves s k None = refl
task_moves s k (Some c) = refl

directed_some : (io : Bool) (o : Option Process) → is_directed io (writes_of o) ≡ true → is_some o ≡ true
directed_some io None e = wrong' (sym (elim io as (λ q. is_directed q None ≡ false) [ true ↦ refl | false ↦ refl ]) ∙ e)
directed_some io (Some c) e = refl

-- Of a process that writes the data go to the target.
pub writes_out : (io : Bool) (c : Process) → is_directed io (writes_of (Some c)) ≡ true → is_writing c ≡ true
    → io ≡ false
writes_out true c e w = wrong' (sym (ap not w) ∙ e)
writes_out false c e w = refl

some_task : (s : ScenarioValue) (k : RunState) (o : Option Process) → is_some o ≡ true → is_some (task_if s k o) ≡ true
some_task s k None e = e
some_task s k (Some c) e = refl

data_is : (b : LineSet) → is_data b ≡ true → is_data_phase (phase_of b) ≡ true
data_is b e = go b.msg b.cd b.io e
  where
    go : (m d i : Bool) → (not m && not d) ≡ true
        → is_data_phase (if m then (if i then Phase.MessageIn else Phase.MessageOut)
        else if d then (if i then Phase.Status else Phase.Command) else if i then Phase.DataIn else Phase.DataOut)
        ≡ true
    go true d i z = wrong' z
    go false true i z = wrong' z
    go false false true z = refl
    go false false false z = refl

data_to : (b : LineSet) (o : Option Bool) → is_data b ≡ true → runs_so (Some (phase_of b)) o ≡ is_directed b.io o
data_to b o e = go b.msg b.cd b.io e
  where
    go : (m d i : Bool) → (not m && not d) ≡ true
        → runs_so (Some (if m then (if i then Phase.MessageIn else Phase.MessageOut)
        else if d then (if i then Phase.Status else Phase.Command) else if i then Phase.DataIn else Phase.DataOut)) o
        ≡ is_directed i o
    go true d i z = wrong' z
    go false true i z = wrong' z
    go false false true z = refl
    go false false false z = refl

out_lines : (b : LineSet) → is_out_phase (phase_of b) ≡ true → (b.msg ≡ true → b.cd ≡ true) → is_message_out b ≡ true
out_lines b e h = go b.msg b.cd b.io e h
  where
    go : (m c i : Bool) → is_out_phase (if m then (if i then Phase.MessageIn else Phase.MessageOut)
        else if c then (if i then Phase.Status else Phase.Command) else if i then Phase.DataIn else Phase.DataOut)
        ≡ true → (m ≡ true → c ≡ true) → (m && c && not i) ≡ true
    go true true true z g = wrong' z
    go true true false z g = refl
    go true false i z g = wrong' (g refl)
    go false true true z g = wrong' z
    go false true false z g = wrong' z
    go false false true z g = wrong' z
    go false false false z g = wrong' z

no_out_in : (b : LineSet) → is_message_out b ≡ true → is_in_phase (phase_of b) ≡ true → ⊥
no_out_in b e f = go b.msg b.cd b.io e f
  where
    go : (m c i : Bool) → (m && c && not i) ≡ true
        → is_in_phase (if m then (if i then Phase.MessageIn else Phase.MessageOut)
        else if c then (if i then Phase.Status else Phase.Command) else if i then Phase.DataIn else Phase.DataOut)
        ≡ true → ⊥
    go true true true z g = wrong' z
    go true true false z g = wrong' g
    go true false i z g = wrong' z
    go false c i z g = wrong' z

no_out_data : (b : LineSet) → is_message_out b ≡ true → is_data b ≡ true → ⊥
no_out_data b e f = go b.msg b.cd b.io e f
  where
    go : (m c i : Bool) → (m && c && not i) ≡ true → (not m && not c) ≡ true → ⊥
    go true c i z g = wrong' g
    go false c i z g = wrong' z

-- In DATA OUT the process that is served writes.
pub writes_there : (s : ScenarioValue) (k : RunState) (c : Process) → Planned s k → k.exchange.begun ≡ true
    → process_served s k ≡ Some c → phase_of (bus_of k) ≡ Phase.DataOut → is_writing c ≡ true
writes_there s k c h b e f =
    let w = out_of (bus_of k).msg (bus_of k).cd (bus_of k).io (ap is_data_out f) in
    sym (λ i. is_directed (w.1 i) (writes_of (e i))) ∙ h.serves b w.0
  where
    out_of : (m d i : Bool) → is_data_out (if m then (if i then Phase.MessageIn else Phase.MessageOut)
        else if d then (if i then Phase.Status else Phase.Command) else if i then Phase.DataIn else Phase.DataOut)
        ≡ true → ((not m && not d) ≡ true) × (i ≡ false)
    out_of true d true z = wrong' z
    out_of true d false z = wrong' z
    out_of false true true z = wrong' z
    out_of false true false z = wrong' z
    out_of false false true z = wrong' z
    out_of false false false z = (refl, refl)

-- ---- of refused messages some are left

cause_in : (b : LineSet) → is_in_message (cause_after b) ≡ true → is_message_in b ≡ true
cause_in b e = go (is_message_in b) b.cd refl e
  where
    go : (q c : Bool) → is_message_in b ≡ q
        → is_in_message (if q then Cause.InMessage else if c then Cause.InStatus else Cause.InData) ≡ true
        → is_message_in b ≡ true
    go true c f z = f
    go false true f z = wrong' z
    go false false f z = wrong' z

less_by : (r a b : ℕ) → 1 ≤ r → r ≤ a + b → a ≤ r - 1 → 1 ≤ b
less_by r a b h e l = omega arith

second_some : (o : Option MsgIn) → 1 ≤ length (message_bytes o) → is_some o ≡ true
second_some None h = absurd (omega arith)
second_some (Some m) h = refl

left_some : (m : Messages) (r : ℕ) → is_some m.first ≡ true → (r == 0) ≡ false → r ≤ length (bytes_of_messages m)
    → is_some (from_byte m (r - 1)).first ≡ true
left_some m r some asked within = go (nat_lt (r - 1) (length (message_bytes m.first))) refl
  where
    go : (q : Bool) → nat_lt (r - 1) (length (message_bytes m.first)) ≡ q
        → is_some (if q then m else record { first = m.second; second = None }).first ≡ true
    go true e = some
    go false e =
        let two = length-append (message_bytes m.first) (message_bytes m.second) in
        second_some m.second (less_by r (length (message_bytes m.first)) (length (message_bytes m.second))
        (some_count r asked) (omega arith) (ltb-false (r - 1) (length (message_bytes m.first)) e))

-- ---- a row

planned_as : (s : ScenarioValue) (k j : RunState) → j.exchange.begun ≡ k.exchange.begun
    → j.exchange.plan.messages ≡ k.exchange.plan.messages → j.exchange.plan.cause ≡ k.exchange.plan.cause
    → j.served ≡ k.served → (bus_of j).msg ≡ (bus_of k).msg → (bus_of j).cd ≡ (bus_of k).cd
    → (bus_of j).io ≡ (bus_of k).io → Planned s k → Planned s j
planned_as s k j eb em ec es e1 e2 e3 h = record {
  serves = λ b d. (λ i. is_directed (e3 i) (writes_of (process_item s (es i))))
      ∙ h.serves (sym eb ∙ b) ((λ i. not (sym e1 i) && not (sym e2 i)) ∙ d);
  message = λ e. ap (λ (m : Messages). is_some m.first) em
      ∙ h.message ((λ i. if sym e1 i then (if sym e3 i then Phase.MessageIn else Phase.MessageOut)
      else if sym e2 i then (if sym e3 i then Phase.Status else Phase.Command)
      else if sym e3 i then Phase.DataIn else Phase.DataOut) ∙ e);
  repeated = λ b o c. ap (λ (m : Messages). is_some m.first) em
      ∙ h.repeated (sym eb ∙ b) ((λ i. sym e1 i && sym e2 i && not (sym e3 i)) ∙ o) (ap is_in_message (sym ec) ∙ c);
}

byte_messages : (w : Hearing) (l : Plan)
    → ((plan_with_byte w l).messages ≡ l.messages) × ((plan_with_byte w l).cause ≡ l.cause)
byte_messages w l = go (is_message_out w.change.before) w.is_last
  where
    go : (q r : Bool) → ((if q then plan_after_message l r w.out else l).messages ≡ l.messages)
        × ((if q then plan_after_message l r w.out else l).cause ≡ l.cause)
    go true true = (refl, refl)
    go true false = (refl, refl)
    go false r = (refl, refl)

struck_messages : (q : Bool) (l : Plan)
    → ((if q then struck_plan l else l).messages ≡ l.messages) × ((if q then struck_plan l else l).cause ≡ l.cause)
struck_messages true l = (refl, refl)
struck_messages false l = (refl, refl)

pub planned_on : (s : ScenarioValue) (k : RunState) (row : Row) (n : Connection) (c : Change) → IsRowIn k row n c
    → HasPhase k → Gives k → (k.exchange.begun ≡ false → is_in_message k.exchange.plan.cause ≡ false)
    → (changes_phase c ≡ true → LeavesWhole s k n)
    → (changes_phase c ≡ true → k.exchange.begun ≡ false → is_message_out c.after ≡ true)
    → (changes_phase c ≡ true → k.exchange.begun ≡ true → (leaving s k n.target).to ≡ Some (phase_of c.after))
    → Planned s k → Planned s (run_state_after s k row)
planned_on s k row n c r phase gives selected leaves first whereto h = go r.kind
  where
    j : RunState
    j = run_state_after s k row

    none_crosses : receiver_in n c ≡ None → is_some (receiver_in n c) ≡ false
    none_crosses e = ap (λ (z : Option ℕ). is_some z) e

    within : (now fault : Bool) → changes_phase c ≡ false → InConnection s k row n c false now fault
        → ((still_talk false now fault (host_of s n.initiator) (hearing_of k row (reading_in k.story.bus_state n c now))
        (leaving s k n.target) k.exchange).plan.messages ≡ k.exchange.plan.messages)
        → ((still_talk false now fault (host_of s n.initiator) (hearing_of k row (reading_in k.story.bus_state n c now))
        (leaving s k n.target) k.exchange).plan.cause ≡ k.exchange.plan.cause) → Planned s j
    within now fault ep i em ec =
        let same = same_phase_is c ep in
        planned_as s k j (ap (λ (x : Exchange). x.begun) i.exchange_is)
        (ap (λ (x : Exchange). x.plan.messages) i.exchange_is ∙ em) (ap (λ (x : Exchange). x.plan.cause) i.exchange_is
        ∙ ec) i.served_is (ap (λ (l : LineSet). l.msg) i.bus_is ∙ same.msg ∙ ap (λ (l : LineSet). l.msg) (sym r.bus_is))
        (ap (λ (l : LineSet). l.cd) i.bus_is ∙ same.cd ∙ ap (λ (l : LineSet). l.cd) (sym r.bus_is))
        (ap (λ (l : LineSet). l.io) i.bus_is ∙ same.io ∙ ap (λ (l : LineSet). l.io) (sym r.bus_is)) h

    -- how the phase was left
    fit : k.exchange.begun ≡ true → fits (serving_of s k n.target).task (leaving s k n.target) ≡ true
    fit b =
        ap (λ (q : Bool). fits (serving_of s k n.target).task (leaving_by (serving_of s k n.target) q (bus_of k))) b
        ∙ left_fits (ways.leaves (serving_of s k n.target) (bus_of k).atn (phase_of (bus_of k)))
        (λ e m. h.repeated b (out_lines (bus_of k) e (λ z. (phase z).0)) m)

    turned : changes_phase c ≡ true → InConnection s k row n c true false false → Planned s j
    turned ep i = by (is_message_out c.after) refl k.exchange.begun refl
      where
        w : Hearing
        w = hearing_of k row (reading_in k.story.bus_state n c false)

        says : (q : Bool) → is_message_out c.after ≡ q
            → j.exchange.plan ≡ (if not q then record (plan_anew k.exchange.plan) {
              messages = (leaving s k n.target).messages;
              next = (leaving s k n.target).next;
            } else if k.exchange.begun then plan_in_message_out w k.exchange.plan else plan_anew k.exchange.plan)
        says q e = ap (λ (x : Exchange). x.plan) i.exchange_is
            ∙ plan_by w (leaving s k n.target) k.exchange.plan e refl

        out : k.exchange.begun ≡ true → is_in_message (plan_in_message_out w k.exchange.plan).cause ≡ true
            → is_some (plan_in_message_out w k.exchange.plan).messages.first ≡ true
        out b z =
            let before : is_message_in c.before ≡ true = cause_in c.before z in
            let here : phase_of (bus_of k) ≡ Phase.MessageIn = ap phase_of r.bus_is ∙ in_phase c.before before in
            let g = gives.in_message_in b (ap is_message_in r.bus_is ∙ before) in
            let all = ap (λ (x : List ℕ). length x) g.bytes_are in
            let two = length-append g.before g.rest in
            let count = g.count_is in
            ap (λ (q : Bool). is_some (if q then from_byte k.exchange.plan.messages (k.handshakes.requests - 1)
            else k.exchange.plan.messages).first) before
            ∙ left_some k.exchange.plan.messages k.handshakes.requests (h.message here) ((leaves ep).some here)
            (omega arith)

        by : (q : Bool) → is_message_out c.after ≡ q → (b : Bool) → k.exchange.begun ≡ b → Planned s j
        by true e b f = record {
          serves = λ x d. absurd (no_out_data c.after e (ap is_data (sym i.bus_is) ∙ d));
          message = λ x. absurd (no_out_in c.after e (ap is_in_phase (ap phase_of (sym i.bus_is) ∙ x)));
          repeated = λ x y z. again b f z;
        }
          where
            again : (b : Bool) → k.exchange.begun ≡ b → is_in_message j.exchange.plan.cause ≡ true
                → is_some j.exchange.plan.messages.first ≡ true
            again true f z =
                let p = says true e
                ∙ ap (λ (q : Bool). if q then plan_in_message_out w k.exchange.plan else plan_anew k.exchange.plan) f in
                ap (λ (x : Plan). is_some x.messages.first) p
                ∙ out f (ap (λ (x : Plan). is_in_message x.cause) (sym p) ∙ z)
            again false f z =
                let p = says true e
                ∙ ap (λ (q : Bool). if q then plan_in_message_out w k.exchange.plan else plan_anew k.exchange.plan) f in
                wrong' (sym (selected f) ∙ ap (λ (x : Plan). is_in_message x.cause) (sym p) ∙ z)
        by false e false f = wrong' (sym e ∙ first ep f)
        by false e true f =
            let p = says false e in
            let to = whereto ep f in
            let parts = and_parts
            (implies (is_to_message_in (leaving s k n.target).to) (is_some (leaving s k n.target).messages.first))
            (runs_so (leaving s k n.target).to (task_writes (serving_of s k n.target).task)) (fit f) in
            record {
              serves = λ x d.
                  (λ j. is_directed (i.bus_is j).io (writes_of (process_item s (i.served_is j))))
                  ∙ ap (is_directed c.after.io) (sym (task_moves s k (process_served s k)))
                  ∙ sym (data_to c.after (task_writes (task_of s k)) (ap is_data (sym i.bus_is) ∙ d))
                  ∙ ap (λ (y : Option Phase). runs_so y (task_writes (task_of s k))) (sym to)
                  ∙ parts.1;
              message = λ x.
                  let in_to : is_to_message_in (leaving s k n.target).to ≡ true = ap is_to_message_in
                  (to ∙ ap (λ (y : Phase). Some y) (ap phase_of (sym i.bus_is) ∙ x)) in
                  ap (λ (y : Plan). is_some y.messages.first) p
                  ∙ implied (is_to_message_in (leaving s k n.target).to) _ parts.0 in_to;
              repeated = λ x y z. wrong' (sym e ∙ ap is_message_out (sym i.bus_is) ∙ y);
            }
          where
            implied : (a b : Bool) → implies a b ≡ true → a ≡ true → b ≡ true
            implied true b x y = x
            implied false b x y = wrong' y

    go : RowKind row n c → Planned s j
    go (still ef ep er) =
        within false false ep (in_connection s k row n c false false false r ep (none_crosses er) ef) refl refl
    go (strikes ef ep er) =
        let m = struck_messages (true && not c.before.io) k.exchange.plan in
        within false true ep (in_connection s k row n c false false true r ep (none_crosses er) ef) m.0 m.1
    go (crosses dev ef ep er) =
        let m = byte_messages (hearing_of k row (reading_in k.story.bus_state n c true)) k.exchange.plan in
        within true false ep (in_connection s k row n c false true false r ep (ap (λ (z : Option ℕ). is_some z) er) ef)
        m.0 m.1
    go (turns ef ep er) = turned ep (in_connection s k row n c true false false r ep (none_crosses er) ef)

-- In a data phase of a process the bus is not freed.
pub data_goes_on : (s : ScenarioValue) (k : RunState) (n : Connection) → Planned s k → k.exchange.begun ≡ true
    → is_data (bus_of k) ≡ true → (leaving s k n.target).to ≡ None → ⊥
data_goes_on s k n h b d e =
    let v = serving_of s k n.target in
    let some = data_some (ways.leaves v (bus_of k).atn (phase_of (bus_of k))) (data_is (bus_of k) d)
    (some_task s k (process_served s k) (directed_some (bus_of k).io (process_served s k) (h.serves b d))) in
    wrong'
    (sym (ap (λ (o : Option Phase). is_some o) (sym (ap (λ (q : Bool). (leaving_by v q (bus_of k)).to) b) ∙ e)) ∙ some)
