-- A byte that crosses is told by the first step after its row, and by no other.
use Rattle.std.proofs.Common.{ℕ, ◌≡◌, ◌≤◌, ◌<◌, ◌-◌, ◌^◌, Bool, true, false, List, ◌∷◌, Option, Some, None, refl, ap}
use Rattle.std.proofs.Common.{◌∙◌, arith}
use Rattle.std.specs.Prelude.{not, ◌&&◌, ◌==◌, is_some, if◌then◌else◌}
use Rattle.std.proofs.lemmas.Bool.Decides.{nat_tests}
use Rattle.bus_base.specs.Faults.{counted_on}
use Rattle.bus_trace.specs.LineSet.{same}
use Rattle.bus_trace.specs.declared.rows.Row.{Row}
use Rattle.bus_trace.specs.declared.changes.Change.{Change}
use Rattle.bus_trace.specs.declared.connection.Connection.{Connection}
use Rattle.bus_trace.specs.Trace.{bus}
use Rattle.bus_trace.specs.Changes.{rises, change_of}
use Rattle.bus_trace.specs.Terms.{connection, receiver_of, is_fault}
use Rattle.bus_lines.specs.Effect.{effect}
use Rattle.bus_lines.specs.Handshakes.{Handshakes, handshakes, handshakes_after, no_handshakes, answered_if, asked_if}
use Rattle.reaction_model.specs.declared.due.Due.{Due}
use Rattle.handshake.specs.declared.end_state.EndState.{EndState}
use Rattle.handshake.specs.declared.hand.Crossed.{Crossed}
use Rattle.handshake.specs.Crossings.{is_crossing, crossings, crossed_byte, untold_crossing}
use Rattle.handshake.specs.Steps.{hand_after}
use Rattle.handshake.specs.Telling.{CrossesIn, TellsFirst}
use Rattle.handshake.proofs.Hands.{step_input, step_of}

-- ---- what a step knew of is no news

no_news : (q : Bool) (count : ℕ) → (q && not (count == count)) ≡ false
no_news true count = grind (arith, nat_tests)
no_news false count = refl

not_again : (into : Bool) (flip : Option ℕ) (rows : List Row)
    → untold_crossing into (crossings into (handshakes rows)) flip rows ≡ None
not_again into flip rows =
    ap (λ (q : Bool). if q then Some (crossed_byte (bus rows) flip) else None)
    (no_news (is_crossing into (effect rows)) (crossings into (handshakes rows)))

pub again : (into : Bool) (rows : List Row) (e : EndState) (now : ℕ) (flip : Option ℕ) (due : Option Due) →
    (later : ℕ) (other : Option ℕ) (next : Option Due) →
    (hand_after into rows (hand_after into rows e now flip due).next later other next).crossed ≡ None
again into rows e now flip due later other next =
    (step_of (step_input into rows (hand_after into rows e now flip due).next later other) next).crossed ∙ ap
    (λ (count : ℕ). untold_crossing into count other rows) (step_of (step_input into rows e now flip) due).byte_count
    ∙ not_again into other rows

-- ---- a byte that crosses is counted

abbrev receiver_by : Bool → Bool → Bool → Connection → Option ℕ
receiver_by io req ack n =
    if io then (if req then Some n.initiator else None) else (if ack then Some n.target else None)

plain_rise : (into io req ack : Bool) (n : Connection) →
    (is_some (receiver_by io req ack n) && same io into) ≡ true → (if into then req else ack) ≡ true
plain_rise true true true ack n e = refl
plain_rise true true false ack n e = e
plain_rise true false req true n e = absurd cc
plain_rise true false req false n e = absurd cc
plain_rise false true true ack n e = absurd cc
plain_rise false true false ack n e = absurd cc
plain_rise false false req true n e = refl
plain_rise false false req false n e = e

abbrev req_rises : Change → Bool
req_rises c = rises c.before.req c.after.req

abbrev ack_rises : Change → Bool
ack_rises c = rises c.before.ack c.after.ack

crossing_rises : (into : Bool) (n : Option Connection) (c : Change) →
    (is_some (receiver_of n c) && same c.before.io into) ≡ true → (if into then req_rises c else ack_rises c) ≡ true
crossing_rises into None c e = absurd cc
crossing_rises into (Some n) c e = plain_rise into c.before.io (req_rises c) (ack_rises c) n e

rise_counts : (into req ack : Bool) (time : ℕ) (h : Handshakes) → (if into then req else ack) ≡ true →
    crossings into (answered_if ack time (asked_if req time h)) ≡ counted_on (crossings into h)
rise_counts true true true time h e = refl
rise_counts true true false time h e = refl
rise_counts true false ack time h e = absurd cc
rise_counts false true true time h e = refl
rise_counts false true false time h e = absurd cc
rise_counts false false true time h e = refl
rise_counts false false false time h e = absurd cc

abbrev risen : Change → ℕ → Handshakes → Handshakes
risen c time h = answered_if (ack_rises c) time (asked_if (req_rises c) time h)

counted : (into : Bool) (row : Row) (rows : List Row) → CrossesIn into row rows →
    crossings into (handshakes (row ∷ rows)) ≡ counted_on (crossings into (handshakes rows))
counted into row rows x =
    let c : Change = change_of rows row in
    let h : Handshakes = handshakes rows in
    (λ i. crossings into (handshakes_after (is_fault (x.drives i)) (x.stands i) c row.time h))
    ∙ ap (λ (q : Bool). crossings into (if q then no_handshakes else risen c row.time h)) x.same_phase
    ∙ rise_counts into (req_rises c) (ack_rises c) row.time h (crossing_rises into (connection rows) c x.crosses)

is_new : (known count : ℕ) → known ≤ count → count < 2 ^ 64 - 1 → not (known == counted_on count) ≡ true
is_new known count below few = grind (arith, nat_tests)

abbrev told_if : Bool → Option ℕ → List Row → Option Crossed
told_if q flip rows = if q then Some (crossed_byte (bus rows) flip) else None

pub first : TellsFirst
first into row rows count flip x below =
    (λ i. told_if (x.crosses i && not (count == counted into row rows x i)) flip (row ∷ rows))
    ∙ ap (λ (q : Bool). told_if q flip (row ∷ rows)) (is_new count _ below x.few)
