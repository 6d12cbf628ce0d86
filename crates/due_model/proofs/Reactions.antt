-- What is due of each device is its reaction, by what the plain terms of the rows say.
use Rattle.std.proofs.Common.{ℕ, ◌≡◌, ◌==◌, ◌∙◌, Bool, true, false, List, [], ◌∷◌, refl, sym, ap, Option, Some, None}
use Rattle.std.specs.Prelude.{is_some, if◌then◌else◌}
use Rattle.bus_rules.specs.bus_trace.specs.declared.Row.{Row}
use Rattle.bus_rules.specs.bus_trace.specs.declared.connection.Connection.{Connection}
use Rattle.std.proofs.lemmas.Option.{same_Some}
use Rattle.bus_rules.specs.bus_trace.specs.declared.changes.Change.{Change}
use Rattle.bus_rules.specs.bus_trace.specs.declared.selection.Call.{Call}
use Rattle.bus_rules.specs.bus_trace.specs.Changes.{change_of}
use Rattle.bus_rules.specs.bus_trace.specs.Terms.{call, connection, connection_after, receiver_in, receiver_of}
use Rattle.bus_rules.specs.bus_trace.specs.Terms.{receiver}
use Rattle.dialogue_model.specs.scenario.specs.Value.{ScenarioValue}
use Rattle.dialogue_model.specs.reaction_model.specs.declared.due.Due.{Due}
use Rattle.dialogue_model.specs.reaction_model.specs.declared.sight.Sight.{Sight}
use Rattle.dialogue_model.specs.reaction_model.specs.Linking.{link_due, sample_time}
use Rattle.dialogue_model.specs.reaction_model.specs.Reset.{with_reset}
use Rattle.dialogue_model.specs.reaction_model.specs.Ends as hand
use Rattle.dialogue_model.specs.bus_lines.specs.Handshakes.{handshakes}
use Rattle.dialogue_model.specs.reaction_model.specs.Sight.{sight}
use Rattle.dialogue_model.specs.Hearing.{begun}
use Rattle.due_model.specs.Own.{Own, own_of}
use Rattle.due_model.specs.RunState.{bus_of}
use Rattle.due_model.specs.Sights.{want_of, pace_of, offering_of, answering_of, flip_of}
use Rattle.due_model.specs.Connected.{is_receiver, connected_due}
use Rattle.due_model.specs.Due.{self_of, due_if, device_due, reset_from, stage_due, link_due_of}
use Rattle.due_model.specs.RunSteps.{run_state}
use Rattle.due_model.specs.Next.{due}
use Rattle.due_model.specs.Plain.{crossed, crossed_if}
use Rattle.due_model.specs.PlainDue.{IsThere, IsLinked, myself, sampled_first, under_reset, link_reaction}
use Rattle.due_model.specs.PlainDue.{target_reaction, initiator_reaction}
use Rattle.due_model.proofs.Plains.{run_state_plain}
use Rattle.bus_rules.specs.Order.{is_of_device}

-- What is due of a device that is there, by the rows that it has made itself.
there : (s : ScenarioValue) (rows : List Row) (dev latency : ℕ) → IsThere s rows dev latency
    → due s rows dev ≡ device_due s (run_state s rows) (self_of (run_state s rows) dev latency) (own_of rows dev)
there s rows dev latency h = ap (due_if s (run_state s rows) dev) h.latency_is
    ∙ ap (λ (o : Own). device_due s (run_state s rows) (self_of (run_state s rows) dev latency) o)
    ((run_state_plain s rows h.rows_are).own dev h.below)

-- ---- on the way to a connection

pub linking_is_due : (s : ScenarioValue) (rows : List Row) (dev latency : ℕ) → IsThere s rows dev latency
    → connection rows ≡ None → due s rows dev ≡ under_reset s rows dev latency (link_reaction s rows dev latency)
linking_is_due s rows dev latency h c =
    let k = run_state s rows in
    let me = self_of k dev latency in
    let o = own_of rows dev in
    let p = run_state_plain s rows h.rows_are in
    there s rows dev latency h
    ∙ ap (λ (x : Option Due). with_reset me o.rst (reset_from dev o.released s.resets) x)
    (ap (λ (x : Option Connection). stage_due s k me (bus_of k).rst x) (p.connection ∙ c)
    ∙ go (bus_of k).rst
    ∙ ap (λ (v : Sight). link_due v me (want_of s k dev) (flip_of k.faults (sample_time v me))) p.sight)
  where
    go : (q : Bool) → stage_due s (run_state s rows) (self_of (run_state s rows) dev latency) q None
        ≡ link_due_of s (run_state s rows) (self_of (run_state s rows) dev latency)
    go true = refl
    go false = refl

-- ---- in a connection

-- The receiver of the byte that crossed in the last row, of the connection that stands after it.
by_receiver : (n : Connection) (before : Option Connection) (c : Change) (dev : ℕ)
    → (call : Option Call) (row : Row) → connection_after before call c row ≡ Some n
    → is_receiver n (crossed_if (is_some (receiver_of before c)) c) dev ≡ is_of_device (receiver_of before c) dev
by_receiver n None c dev call row e = refl
by_receiver n (Some m) c dev call row e = go c.after.bsy e
  where
    none_or : (x : Option ℕ) → receiver_in m c ≡ x → is_receiver m (crossed_if (is_some x) c) dev ≡ is_of_device x dev
    none_or None e = refl
    none_or (Some d) e = ap (λ (x : Option ℕ). is_of_device x dev) e

    go : (q : Bool) → (if q then Some m else None) ≡ Some n
        → is_receiver n (crossed_if (is_some (receiver_in m c)) c) dev ≡ is_of_device (receiver_in m c) dev
    go true z =
        ap (λ (x : Connection). is_receiver x (crossed_if (is_some (receiver_in m c)) c) dev) (sym (same_Some m n z))
        ∙ none_or (receiver_in m c) refl
    go false z = cc

receiver_is : (rows : List Row) (n : Connection) (dev : ℕ) → connection rows ≡ Some n
    → is_receiver n (crossed rows) dev ≡ is_of_device (receiver rows) dev
receiver_is [] n dev e = refl
receiver_is (row ∷ rows) n dev e = by_receiver n (connection rows) (change_of rows row) dev (call rows) row e

linked : (s : ScenarioValue) (rows : List Row) (dev latency : ℕ) (n : Connection)
    → IsThere s rows dev latency → IsLinked rows n → due s rows dev
    ≡ under_reset s rows dev latency (connected_due s (run_state s rows) (self_of (run_state s rows) dev latency) n)
linked s rows dev latency n h g =
    let k = run_state s rows in
    let me = self_of k dev latency in
    let o = own_of rows dev in
    let p = run_state_plain s rows h.rows_are in
    let rst : (bus_of k).rst ≡ false = (λ i. (p.bus i).rst) ∙ g.calm in
    there s rows dev latency h ∙ (λ i. with_reset me o.rst (reset_from dev o.released s.resets)
    (stage_due s k me (rst i) ((p.connection ∙ g.stands) i)))

-- By REQ and ACK, at whichever end it is.
end_is_due : (s : ScenarioValue) (rows : List Row) (dev latency : ℕ) (n : Connection) → IsThere s rows dev latency
    → IsLinked rows n → (is_initiator is_target : Bool) → (n.initiator == dev) ≡ is_initiator
    → (n.target == dev) ≡ is_target → due s rows dev ≡ under_reset s rows dev latency
    (sampled_first s rows dev (if is_initiator then hand.initiator_due (begun rows) (sight rows) (handshakes rows)
    (myself s rows dev latency) (pace_of s (run_state s rows) dev) (answering_of s (run_state s rows) dev)
    else if is_target then hand.target_due (begun rows) (sight rows) (handshakes rows) (myself s rows dev latency)
    (pace_of s (run_state s rows) dev) (offering_of s (run_state s rows) dev) else None))
end_is_due s rows dev latency n h g is_initiator is_target i t =
    let k = run_state s rows in
    let me = self_of k dev latency in
    let o = own_of rows dev in
    let p = run_state_plain s rows h.rows_are in
    let q : is_receiver n k.story.bus_state.crossed dev ≡ is_of_device (receiver rows) dev =
    (λ j. is_receiver n (p.crossed j) dev) ∙ receiver_is rows n dev g.stands in
    linked s rows dev latency n h g ∙ (λ j. with_reset me o.rst (reset_from dev o.released s.resets)
    (hand.sample_due (q j) (p.last j) (flip_of k.faults (p.last j))
    (if i j then hand.initiator_due (p.begun j) (p.sight j) (p.handshakes j) me (pace_of s k dev) (answering_of s k dev)
    else if t j then hand.target_due (p.begun j) (p.sight j) (p.handshakes j) me (pace_of s k dev) (offering_of s k dev)
    else None)))

pub target_is_due : (s : ScenarioValue) (rows : List Row) (dev latency : ℕ) (n : Connection)
    → IsThere s rows dev latency → IsLinked rows n → (n.initiator == dev) ≡ false → (n.target == dev) ≡ true
    → due s rows dev ≡ under_reset s rows dev latency (target_reaction s rows dev latency)
target_is_due s rows dev latency n h g i t = end_is_due s rows dev latency n h g false true i t

pub initiator_is_due : (s : ScenarioValue) (rows : List Row) (dev latency : ℕ) (n : Connection)
    → IsThere s rows dev latency → IsLinked rows n → (n.initiator == dev) ≡ true
    → due s rows dev ≡ under_reset s rows dev latency (initiator_reaction s rows dev latency)
initiator_is_due s rows dev latency n h g i = end_is_due s rows dev latency n h g true (n.target == dev) i refl
