-- A row that changes data lines, REQ and ACK alone, and passes the short test, breaks no rule.
use Rattle.std.proofs.Common.{◌⊎◌, inl, inr, ℕ, ◌≡◌, ◌+◌, ◌%◌, ◌++◌, [], Bool, true, false, List, ◌∷◌, Option, Some}
use Rattle.std.proofs.Common.{None, refl, sym, subst, ◌∙◌, arith}
use Rattle.std.specs.Prelude.{not, ◌&&◌, ◌||◌, ◌==◌, is_some, is_none, nat_le, nat_lt, max, if◌then◌else◌}
use Rattle.bus_trace.specs.LineSet.{LineSet, same, same_set, none, has_odd_parity}
use Rattle.bus_trace.specs.declared.Row.{Row}
use Rattle.bus_trace.specs.declared.Kind.{Kind}
use Rattle.bus_trace.specs.declared.Kind.TheVariants.{Drives, Fault}
use Rattle.bus_trace.specs.declared.delays.TheConstants.{SET_UP_TIME, TWO_DESKEW, BUS_SETTLE_DELAY, BUS_CLEAR_DELAY}
use Rattle.bus_trace.specs.declared.delays.TheConstants.{RESET_HOLD_TIME, QUIET_TIME, DATA_RELEASE_DELAY, DESKEW_DELAY}
use Rattle.bus_trace.specs.declared.delays.TheConstants.{TURN_DELAY}
use Rattle.bus_phases.specs.declared.attention.Duty.{Duty}
use Rattle.bus_phases.specs.declared.attention.Duty.TheVariants as duties
use Rattle.bus_rules.specs.declared.course.Course.{Course}
use Rattle.bus_phases.specs.declared.dialogue.Dialogue.{Dialogue}
use Rattle.bus_phases.specs.declared.raises.Raises.{Raises}
use Rattle.bus_trace.specs.declared.agreements.Agreement.{Agreement}
use Rattle.bus_trace.specs.declared.agreements.TransferTimes.{TransferTimes}
use Rattle.bus_phases.specs.declared.pulses.Pulses.{Pulses}
use Rattle.std.proofs.lemmas.Bool.{and_parts, and_from, not-true, and_right}
use Rattle.std.proofs.lemmas.Bool.Decides.{nat_tests}
use Rattle.bus_trace.specs.Trace.{IsViewOf, drives, driven_after, since, since_line}
use Rattle.bus_trace.specs.declared.changes.Change.{Change}
use Rattle.bus_trace.specs.declared.connection.Connection.{Connection}
use Rattle.bus_trace.specs.View.{View}
use Rattle.bus_trace.specs.Trace.{phase_time}
use Rattle.bus_phases.specs.declared.reading.Reading.TheVariants.{NoMessage}
use Rattle.bus_rules.specs.declared.seen.Seen.{Seen}
use Rattle.bus_trace.specs.Changes.{rises, falls, implies, same_phase, same_stage, raises_none, raises_only, is_within}
use Rattle.bus_trace.specs.Changes.{drives_data}
use Rattle.bus_rules.specs.Order.{is_in_order, is_news_of}
use Rattle.bus_rules.specs.FreeBus.{is_entry, enters_well, contends_well}
use Rattle.bus_rules.specs.Selection.{others_release, is_left, keeps_winner_of, keeps_calling_of, keeps_answer_of}
use Rattle.bus_rules.specs.Selection.{keeps_end_of, keeps_time_out_of, hands_over, takes_over}
use Rattle.bus_trace.specs.Terms.{is_fault, free_since, raised, raised_next, arbitration, arbitration_after, call}
use Rattle.bus_trace.specs.Terms.{call_after, call_goes_on, connection, connection_after, receiver_of}
use Rattle.bus_phases.specs.Dialogue.{asynchronous, agreed, closed_agreement_by, dialogue, dialogue_after, byte_crosses}
use Rattle.bus_phases.specs.Dialogue.{byte_out, byte_in, heard_with_command, phase_begins}
use Rattle.bus_rules.specs.Reset.{is_reset, only_rst}
use Rattle.bus_trace.specs.Phases.{is_data, is_command, is_message_out, is_message_in, is_reserved, changes_phase}
use Rattle.bus_phases.specs.Phases.{is_attention_held, duty_if_held, duty_left, duty_after, no_pulses, pulses_on}
use Rattle.bus_phases.specs.Phases.{pulses_after, turned_after}
use Rattle.bus_rules.specs.Connected.{keeps_sides, keeps_lines_of, keeps_data_direction_of, or_new}
use Rattle.bus_rules.specs.Connected.{has_no_initiator_line, has_no_target_line, raises_data, raises_in_turn}
use Rattle.bus_rules.specs.Connected.{initiator_released_of, waits_for_turn, target_released_of, frees_well}
use Rattle.bus_rules.specs.Messages.{negates_atn_well, atn_false_since, is_owed, is_none_or_all, is_unknown, is_opening}
use Rattle.bus_rules.specs.Messages.{same_bool, opens_well, may_take}
use Rattle.bus_rules.specs.Transfer.{alternates, crosses, is_pulsed, is_asynchronous_transfer, data_stand_since}
use Rattle.bus_rules.specs.Transfer.{changes_data, holds_still, is_after, pulses_well, last_crossing}
use Rattle.bus_trace.specs.Agreements.{times_of}
use Rattle.bus_phases.specs.msg_grammar.specs.Messages.{got_out, got_in}
use Rattle.bus_phases.specs.Reading.{reading_of, reading_out, reading_in}
use Rattle.bus_rules.specs.Seen.{seen, seen_with, drives_bsy, initiator_of, initiator_data, target_data}
use Rattle.bus_trace.specs.Changes.{change_of}
use Rattle.bus_trace.proofs.Sets.{same_eq}
use Rattle.bus_rules.specs.Rules.{test, keeps, judged_rules, lowest_broken, broken_rule}
use Rattle.bus_rules.specs.DataRows.{crosses_in, is_calm, is_calm_row, has_settled, is_in_turn, has_turned, stand_since}
use Rattle.bus_rules.specs.DataRows.{may_ask, is_apart, last_pulse, crosses_well, asks_in_turn, answers_in_turn}
use Rattle.bus_rules.specs.DataRows.{target_shakes_well, initiator_shakes_well, asks_by_pulse, answers_by_pulse}
use Rattle.bus_rules.specs.DataRows.{target_pulses_well, initiator_pulses_well, target_moves_well, initiator_moves_well}
use Rattle.bus_rules.specs.DataRows.{turns_well, target_passes, initiator_passes, Standing, standing_after, standing_at}
use Rattle.bus_rules.specs.DataRows.{may_cross, is_move, passes, passes_of, passes_in, duty_in_data}
use Rattle.bus_rules.specs.DataRows.{course_after_transfer}
use Rattle.bus_phases.specs.Dialogue.{takes_data}
use Rattle.bus_phases.specs.Tables.{IsRaisesOf}
use Rattle.bus_rules.specs.Judging.{Running, IsCourseOf, IsTermsOf}
use Rattle.bus_rules.proofs.First.{none_broken}
use Rattle.bus_phases.proofs.Agreeing.{agreeing}
use Rattle.bus_rules.proofs.Courses.{goes_on}
use Rattle.bus_base.proofs.Tests.{or_false, is_nothing, true_by_test}

-- ---- tests

no_rise : (a b : Bool) → a ≡ b → rises a b ≡ false
no_rise true b e = refl
no_rise false true e = absurd cc
no_rise false false e = refl

no_fall : (a b : Bool) → a ≡ b → falls a b ≡ false
no_fall true true e = refl
no_fall true false e = absurd cc
no_fall false b e = refl

-- what implies nothing
never : (p q : Bool) → p ≡ false → implies p q ≡ true
never p q e = λ i. not (e i) || q

always : (p q : Bool) → q ≡ true → implies p q ≡ true
always true q e = e
always false q e = refl

so : (p q : Bool) → implies p q ≡ true → p ≡ true → q ≡ true
so true q e h = e
so false q e h = absurd cc

-- what the test asks of the rows before, of what the row meets
abbrev pub standing_of : Seen → Standing
standing_of s = record {
  last = s.last;
  is_alone = is_none s.call && is_none s.arbitration;
  connection = s.connection;
  times = s.times;
  data_since = s.data_since;
  initiator_bsy = s.initiator_bsy;
  initiator_data = s.initiator_data;
  target_data = s.target_data;
  pulses = s.pulses;
  turned = s.turned;
  duty = s.duty;
  agreement = s.agreement;
  is_open = s.is_open;
  command = s.command;
  begun = s.begun;
}

-- ---- what the test asks of each end

-- the device is an end of the connection, and drives no line of the other end
abbrev keeps_side : Connection → ℕ → LineSet → Bool
keeps_side n dev s = if dev == n.target then has_no_initiator_line s else (dev == n.initiator && has_no_target_line s)

-- what moves does so in its turn, where bytes cross asynchronously
abbrev shakes_well : Connection → Standing → Change → ℕ → Bool
shakes_well n s c time =
    implies (rises c.before.req c.after.req) (asks_in_turn n s c time)
    && implies (falls c.before.req c.after.req) c.before.ack
    && implies (rises c.before.ack c.after.ack) (answers_in_turn s c time)
    && implies (falls c.before.ack c.after.ack) (not c.before.req)
    && implies (changes_data c) (not (holds_still c.before))

-- and by pulses of these times
abbrev pulses_in_turn : Connection → Standing → Change → TransferTimes → ℕ → Bool
pulses_in_turn n s c t time =
    implies (rises c.before.req c.after.req) (asks_by_pulse n s c t time)
    && implies (falls c.before.req c.after.req) (nat_le (s.times.req + t.assertion) time)
    && implies (rises c.before.ack c.after.ack) (answers_by_pulse s c t time)
    && implies (falls c.before.ack c.after.ack) (nat_le (s.times.ack + t.assertion) time)
    && implies (changes_data c) (is_after (last_pulse s.pulses c) t.hold time)

-- and as the phase asks
abbrev moves_well : Connection → Standing → Change → ℕ → Bool
moves_well n s c time =
    if is_data c.before && not (s.agreement.offset == 0) then pulses_in_turn n s c (times_of s.agreement.period) time
    else shakes_well n s c time

-- one end moves one of REQ and ACK
target_moves : (n : Connection) (s : Standing) (c : Change) (time : ℕ) → same c.before.ack c.after.ack ≡ true
    → target_moves_well n s c time ≡ true → moves_well n s c time ≡ true
target_moves n s c time e h = go (is_data c.before && not (s.agreement.offset == 0)) h
  where
    up : rises c.before.ack c.after.ack ≡ false
    up = no_rise c.before.ack c.after.ack (same_eq c.before.ack c.after.ack e)

    down : falls c.before.ack c.after.ack ≡ false
    down = no_fall c.before.ack c.after.ack (same_eq c.before.ack c.after.ack e)

    go : (p : Bool)
        → (if p then target_pulses_well n s c (times_of s.agreement.period) time else target_shakes_well n s c time)
        ≡ true → (if p then pulses_in_turn n s c (times_of s.agreement.period) time else shakes_well n s c time) ≡ true
    go true h =
        let two = and_parts _ _ h in
        and_from _ _ (and_from _ _ (and_from _ _ two.0 (never _ _ up)) (never _ _ down)) two.1
    go false h =
        let two = and_parts _ _ h in
        and_from _ _ (and_from _ _ (and_from _ _ two.0 (never _ _ up)) (never _ _ down)) two.1

initiator_moves : (n : Connection) (s : Standing) (c : Change) (time : ℕ) → same c.before.req c.after.req ≡ true
    → initiator_moves_well s c time ≡ true → moves_well n s c time ≡ true
initiator_moves n s c time e h = go (is_data c.before && not (s.agreement.offset == 0)) h
  where
    up : rises c.before.req c.after.req ≡ false
    up = no_rise c.before.req c.after.req (same_eq c.before.req c.after.req e)

    down : falls c.before.req c.after.req ≡ false
    down = no_fall c.before.req c.after.req (same_eq c.before.req c.after.req e)

    go : (p : Bool)
        → (if p then initiator_pulses_well s c (times_of s.agreement.period) time else initiator_shakes_well s c time)
        ≡ true → (if p then pulses_in_turn n s c (times_of s.agreement.period) time else shakes_well n s c time) ≡ true
    go true h =
        let two = and_parts _ _ h in
        let ack = and_parts _ _ two.0 in
        and_from _ _ (and_from _ _ (and_from _ _ (and_from _ _ (never _ _ up) (never _ _ down)) ack.0) ack.1) two.1
    go false h =
        let two = and_parts _ _ h in
        let ack = and_parts _ _ two.0 in
        and_from _ _ (and_from _ _ (and_from _ _ (and_from _ _ (never _ _ up) (never _ _ down)) ack.0) ack.1) two.1

either_end : (n : Connection) (s : Standing) (c : Change) (row : Row) → passes_in n s c row ≡ true
    → (keeps_side n row.dev c.next && turns_well s (row.dev == n.target) c row.time && moves_well n s c row.time) ≡ true
either_end n s c row e = go (row.dev == n.target) (row.dev == n.initiator) e
  where
    go : (t i : Bool) → (if t then target_passes n s c row.time else (i && initiator_passes s c row.time)) ≡ true
        → ((if t then has_no_initiator_line c.next else (i && has_no_target_line c.next)) && turns_well s t c row.time
        && moves_well n s c row.time) ≡ true
    go true i e =
        let rest = and_parts _ _ e in
        let turn = and_parts _ _ rest.0 in
        let side = and_parts _ _ turn.0 in
        and_from _ _ (and_from _ _ side.1 turn.1) (target_moves n s c row.time side.0 rest.1)
    go false true e =
        let rest = and_parts _ _ e in
        let turn = and_parts _ _ rest.0 in
        let side = and_parts _ _ turn.0 in
        and_from _ _ (and_from _ _ side.1 turn.1) (initiator_moves n s c row.time side.0 rest.1)
    go false false e = absurd cc

-- ---- what the rules ask of such a row

-- REQ rises once the phase has settled, while no MESSAGE OUT is owed and the target alone drives BSY.
abbrev asks_soon : Connection → Standing → Change → ℕ → Bool
asks_soon n s c time = implies (rises c.before.req c.after.req)
    (nat_le (max (phase_time s.times) n.began + BUS_SETTLE_DELAY) time && not (is_owed s.duty) && not s.initiator_bsy)

-- A byte crosses asynchronously.
abbrev is_shaken : Change → ℕ → ℕ → Bool
is_shaken c since time = alternates c && implies (crosses_in c) (nat_le (stand_since c since time + SET_UP_TIME) time)
    && implies (holds_still c.before) (not (changes_data c))

-- A byte crosses by pulses.
abbrev keeps_count : ℕ → Pulses → Change → Bool
keeps_count offset p c = implies (rises c.before.req c.after.req) (may_ask offset p)
    && implies (rises c.before.ack c.after.ack) (nat_lt p.ack p.req)

abbrev is_timed : TransferTimes → Pulses → Change → ℕ → ℕ → ℕ → ℕ → Bool
is_timed t p c req_since ack_since since time = (pulses_well t c.before.req c.after.req req_since p.last_req time
    && pulses_well t c.before.ack c.after.ack ack_since p.last_ack time)
    && (implies (crosses_in c) (nat_le (stand_since c since time + t.set_up) time)
    && implies (changes_data c) (is_after (last_pulse p c) t.hold time))

abbrev is_pulsed_well : Agreement → Pulses → Change → ℕ → ℕ → ℕ → ℕ → Bool
is_pulsed_well a p c req_since ack_since since time =
    keeps_count a.offset p c && is_timed (times_of a.period) p c req_since ack_since since time

-- A DATA phase under an agreement with an offset uses pulses.
abbrev transfers_well : Standing → Change → ℕ → Bool
transfers_well s c time =
    if is_data c.before && not (s.agreement.offset == 0)
    then is_pulsed_well s.agreement s.pulses c s.times.req s.times.ack s.data_since time
    else is_shaken c s.data_since time

first_of_two : (p a b : Bool) → implies p (a && b) ≡ true → (implies p a ≡ true) × (implies p b ≡ true)
first_of_two true a b e = and_parts a b e
first_of_two false a b e = (refl, refl)

-- the test asks it by what moves
by_io : (io r a x : Bool) → implies r (implies io x) ≡ true → implies a (io || x) ≡ true
    → implies (if io then r else a) x ≡ true
by_io true r a x h k = h
by_io false r a x h k = k

none_held : (q : Bool) → implies q false ≡ true → not q ≡ true
none_held true e = e
none_held false e = refl

still_held : (d h : Bool) → implies d (not h) ≡ true → implies h (not d) ≡ true
still_held d true e = none_held d e
still_held d false e = refl

abbrev MovesKept : Connection → Standing → Change → ℕ → Type 0
MovesKept n s c time =
    (asks_soon n s c time ≡ true) × (implies (crosses_in c) (may_cross s c) ≡ true) × (transfers_well s c time ≡ true)

moves_kept : (n : Connection) (s : Standing) (c : Change) (time : ℕ) → moves_well n s c time ≡ true
    → MovesKept n s c time
moves_kept n s c time e = go (is_data c.before && not (s.agreement.offset == 0)) e
  where
    t : TransferTimes
    t = times_of s.agreement.period

    go : (p : Bool)
        → (if p then pulses_in_turn n s c (times_of s.agreement.period) time else shakes_well n s c time) ≡ true
        → (asks_soon n s c time ≡ true) × (implies (crosses_in c) (may_cross s c) ≡ true)
        × ((if p then is_pulsed_well s.agreement s.pulses c s.times.req s.times.ack s.data_since time
        else is_shaken c s.data_since time) ≡ true)
    go true h =
        let lines = and_parts _ _ h in
        let ack_falls = and_parts _ _ lines.0 in
        let ack_rises = and_parts _ _ ack_falls.0 in
        let req = and_parts _ _ ack_rises.0 in
        let r = rises c.before.req c.after.req in
        let a = rises c.before.ack c.after.ack in
        let ask = may_ask s.agreement.offset s.pulses in
        let apart = is_apart t s.times.req s.pulses.last_req time in
        let answer = nat_lt s.pulses.ack s.pulses.req in
        let spaced = is_apart t s.times.ack s.pulses.last_ack time in
        let byte = crosses_well s c t.set_up time in
        let rise = first_of_two r (has_settled n s time && (ask && apart)) (implies c.before.io byte) req.0 in
        let settled = first_of_two r (has_settled n s time) (ask && apart) rise.0 in
        let asked = first_of_two r ask apart settled.1 in
        let reply = first_of_two a (answer && spaced) (c.before.io || byte) ack_rises.1 in
        let answered = first_of_two a answer spaced reply.0 in
        let stands = nat_le (stand_since c s.data_since time + t.set_up) time in
        let crossed = first_of_two (crosses_in c) (may_cross s c) stands
        (by_io c.before.io r a byte rise.1 reply.1) in (
          settled.0,
          crossed.0,
          and_from _ _ (and_from _ _ asked.0 answered.0)
              (and_from _ _ (and_from _ _ (and_from _ _ asked.1 req.1) (and_from _ _ answered.1 ack_falls.1))
              (and_from _ _ crossed.1 lines.1)),
        )
    go false h =
        let lines = and_parts _ _ h in
        let ack_falls = and_parts _ _ lines.0 in
        let ack_rises = and_parts _ _ ack_falls.0 in
        let req = and_parts _ _ ack_rises.0 in
        let r = rises c.before.req c.after.req in
        let a = rises c.before.ack c.after.ack in
        let byte = crosses_well s c SET_UP_TIME time in
        let rise = first_of_two r (has_settled n s time && not c.before.ack) (implies c.before.io byte) req.0 in
        let settled = first_of_two r (has_settled n s time) (not c.before.ack) rise.0 in
        let reply = first_of_two a c.before.req (c.before.io || byte) ack_rises.1 in
        let stands = nat_le (stand_since c s.data_since time + SET_UP_TIME) time in
        let crossed = first_of_two (crosses_in c) (may_cross s c) stands
        (by_io c.before.io r a byte rise.1 reply.1) in (
          settled.0,
          crossed.0,
          and_from _ _ (and_from _ _ (and_from _ _ (and_from _ _ settled.1 req.1) (and_from _ _ reply.0 ack_falls.1))
              crossed.1) (still_held (changes_data c) (holds_still c.before) lines.1),
        )

-- ---- what such a row leaves as it is

-- A DATA phase, or another one in which nothing is told.
abbrev pub Calm : Change → Type 0
Calm c = (is_data c.before ≡ true)
    ⊎ ((c.before.cd ≡ true) × ((c.before.atn && falls c.before.ack c.after.ack) ≡ false) × (crosses_in c ≡ false))

calm_is : (c : Change) → is_calm c ≡ true → Calm c
calm_is c e = go (is_data c.before) refl e
  where
    go : (d : Bool) → is_data c.before ≡ d
        → (d || (c.before.cd && not (c.before.atn && falls c.before.ack c.after.ack) && not (crosses_in c))) ≡ true
        → Calm c
    go true ed h = inl ed
    go false ed h =
        let two = and_parts _ _ h in
        let first = and_parts _ _ two.0 in
        inr (first.0, not-true _ first.1, not-true _ two.1)

no_msg : (c : Change) → is_data c.before ≡ true → c.before.msg ≡ false
no_msg c e = not-true _ (and_parts _ _ e).0

no_cd : (c : Change) → is_data c.before ≡ true → c.before.cd ≡ false
no_cd c e = not-true _ (and_parts _ _ e).1

pub record IsQuiet (c : Change) : Type 0 where
  pub bsy : c.before.bsy ≡ true
  pub sel : c.before.sel ≡ false
  pub rst : c.before.rst ≡ false
  pub calm : Calm c
  pub bsy_after : c.before.bsy ≡ c.after.bsy
  pub sel_after : c.before.sel ≡ c.after.sel
  pub rst_after : c.before.rst ≡ c.after.rst
  pub phase : same_phase c.before c.after ≡ true
  pub io_after : c.before.io ≡ c.after.io
  pub atn_after : c.before.atn ≡ c.after.atn
  pub own_bsy : c.own.bsy ≡ c.next.bsy
  pub own_sel : c.own.sel ≡ c.next.sel
  pub own_rst : c.own.rst ≡ c.next.rst
  pub own_rst_false : c.own.rst ≡ false

pub is_quiet : (c : Change) → is_calm_row c ≡ true → IsQuiet c
is_quiet c e =
    let all = and_parts _ _ e in
    let a = and_parts _ _ all.0 in
    let b = and_parts _ _ a.0 in
    let off = and_parts _ _ b.0 in
    let on = and_parts _ _ off.0 in
    let move = and_parts _ _ b.1 in
    let held = and_parts _ _ move.0 in
    let hold = and_parts _ _ held.0 in
    let first = and_parts _ _ hold.0 in
    let kept = and_parts _ _ held.1 in
    let own = and_parts _ _ a.1 in
    let down = and_parts _ _ own.0 in
    let own_held = and_parts _ _ (and_parts _ _ own.1).0 in
    let own_hold = and_parts _ _ own_held.0 in
    let own_first = and_parts _ _ own_hold.0 in
    record {
      bsy = on.0;
      sel = not-true _ on.1;
      rst = not-true _ off.1;
      calm = calm_is c all.1;
      bsy_after = same_eq _ _ first.0;
      sel_after = same_eq _ _ first.1;
      rst_after = same_eq _ _ hold.1;
      phase = held.1;
      io_after = same_eq _ _ kept.1;
      atn_after = same_eq _ _ move.1;
      own_bsy = same_eq _ _ own_first.0;
      own_sel = same_eq _ _ own_first.1;
      own_rst = same_eq _ _ own_hold.1;
      own_rst_false = not-true _ down.1;
    }

-- ---- rules 1 to 13, 27 and 28

news : (s : Seen) (row : Row) (kind : Kind) → is_fault kind ≡ false → same_set s.change.own s.change.next ≡ false
    → is_news_of s row kind ≡ true
news s row (Drives lines) ek e = λ i. not (e i)
news s row (Fault bit) ek e = absurd cc

free_bus : (s : Seen) (row : Row) → IsQuiet s.change → test 3 s row ≡ true
free_bus s row q =
    let e = q.bsy in
    λ i. implies (not (e i) && not s.change.before.sel) (raises_none s.change || is_entry s)
    && implies (not (e i) && not s.change.before.sel)
    (nat_le row.time (max s.times.bsy s.times.sel + QUIET_TIME) || is_within s.change.before only_rst)

arbitration_kept : (s : Seen) (row : Row) → IsQuiet s.change → s.arbitration ≡ None → test 4 s row ≡ true
arbitration_kept s row q alone =
    let r = no_rise _ _ q.own_bsy in
    λ i. implies (r i && not s.change.before.sel && is_none s.connection) (enters_well s row)
    && implies ((is_some (alone i) && s.change.own.bsy) && not (r i && not s.change.before.sel && is_none s.connection))
    (contends_well s)

turn_kept : (s : Seen) (row : Row) → IsQuiet s.change → test 5 s row ≡ true
turn_kept s row q = never _ _ (no_rise _ _ q.own_sel)

win_kept : (s : Seen) (row : Row) → IsQuiet s.change → test 6 s row ≡ true
win_kept s row q = never _ _ (no_rise _ _ q.own_sel)

losers_off : (s : Seen) (row : Row) → s.call ≡ None → test 7 s row ≡ true
losers_off s row alone = λ i. others_release s row (alone i) && is_left s row.time (alone i)

winner_kept : (s : Seen) (row : Row) → s.call ≡ None → test 8 s row ≡ true
winner_kept s row alone = λ i. keeps_winner_of row (alone i)

calling_kept : (s : Seen) (row : Row) → s.call ≡ None → test 9 s row ≡ true
calling_kept s row alone = λ i. keeps_calling_of s row (alone i)

answer_kept : (s : Seen) (row : Row) → s.call ≡ None → test 10 s row ≡ true
answer_kept s row alone = λ i. keeps_answer_of s row (alone i)

end_kept : (s : Seen) (row : Row) → s.call ≡ None → test 11 s row ≡ true
end_kept s row alone = λ i. keeps_end_of s row (alone i)

time_out_kept : (s : Seen) (row : Row) → s.call ≡ None → test 12 s row ≡ true
time_out_kept s row alone = λ i. keeps_time_out_of s row (alone i)

taken_over : (s : Seen) (row : Row) (n : Connection) → IsQuiet s.change → takes_over s row (Some n) ≡ true
taken_over s row n q = λ i. implies (and_right (n.reselected && row.dev == n.initiator) _ (no_fall _ _ q.own_bsy) i)
    (is_within s.change.next (record none { atn = true }))

freeing_kept : (s : Seen) (row : Row) (n : Connection) → IsQuiet s.change → frees_well s row (Some n) ≡ true
freeing_kept s row n q = λ i. implies (and_right (row.dev == n.target) _ (no_fall _ _ q.own_bsy) i)
    (not s.change.before.req && not s.change.before.ack && raises_none s.change)

reset_kept : (s : Seen) (row : Row) → IsQuiet s.change → test 28 s row ≡ true
reset_kept s row q =
    let own = no_rise _ _ q.own_rst in
    let off = no_fall _ _ q.own_rst in
    λ i. implies (q.rst i || own i) (raises_only only_rst s.change)
    && implies (q.rst i) (nat_le row.time (s.times.rst + BUS_CLEAR_DELAY) || is_within s.change.before only_rst)
    && implies (off i) (nat_le (s.rst_raised + RESET_HOLD_TIME) row.time)

-- ---- the rules of a connection

side_kept : (n : Connection) (dev : ℕ) (s : LineSet) → keeps_side n dev s ≡ true → keeps_sides n dev s ≡ true
side_kept n dev s e = go (dev == n.target) (dev == n.initiator) e
  where
    go : (t i : Bool) → (if t then has_no_initiator_line s else (i && has_no_target_line s)) ≡ true
        → (if t then has_no_initiator_line s else if i then has_no_target_line s else same_set s none) ≡ true
    go true i e = e
    go false true e = e
    go false false e = absurd cc

no_change : (s : Seen) → IsQuiet s.change → changes_phase s.change ≡ false
no_change s q = λ i. not (q.phase i)

crossing : (n : Connection) (c : Change) → is_some (receiver_of (Some n) c) ≡ crosses_in c
crossing n c = go c.before.io (rises c.before.req c.after.req) (rises c.before.ack c.after.ack)
  where
    go : (io r a : Bool)
        → is_some (if io then (if r then Some n.initiator else None) else (if a then Some n.target else None))
        ≡ (if io then r else a)
    go true true a = refl
    go true false a = refl
    go false r true = refl
    go false r false = refl

no_reserved : (c : Change) → Calm c → is_reserved c.before ≡ false
no_reserved c (inl h) = λ i. no_msg c h i && not c.before.cd
no_reserved c (inr h) = and_right c.before.msg (not c.before.cd) (λ i. not (h.0 i))

lines_kept : (s : Seen) (row : Row) (n : Connection) → IsQuiet s.change → keeps_side n row.dev s.change.next ≡ true
    → asks_soon n (standing_of s) s.change row.time ≡ true → keeps_lines_of s row (Some n) ≡ true
lines_kept s row n q side asks =
    let still = no_change s q in
    and_from _ _ (and_from _ _ (side_kept n row.dev s.change.next side)
    (λ i. implies (still i) (not s.change.before.req && not s.change.before.ack)))
    (go (rises s.change.before.req s.change.after.req) asks)
  where
    go : (r : Bool) → implies r (nat_le (max (phase_time s.times) n.began + BUS_SETTLE_DELAY) row.time
        && not (is_owed s.duty) && not s.initiator_bsy) ≡ true
        → implies r (not (changes_phase s.change) && not (is_reserved s.change.before)
        && nat_le (max (phase_time s.times) n.began + BUS_SETTLE_DELAY) row.time) ≡ true
    go true e =
        let soon = (and_parts _ _ (and_parts _ _ e).0).0 in
        λ i. not (no_change s q i) && not (no_reserved s.change q.calm i) && soon i
    go false e = refl

asking_kept : (s : Seen) (n : Connection) (time : ℕ) → asks_soon n (standing_of s) s.change time ≡ true
    → (implies (rises s.change.before.req s.change.after.req) (not s.initiator_bsy) ≡ true)
    × (implies (rises s.change.before.req s.change.after.req && is_owed s.duty) (is_message_out s.change.before) ≡ true)
asking_kept s n time e = go (rises s.change.before.req s.change.after.req) e
  where
    go : (r : Bool) → implies r (nat_le (max (phase_time s.times) n.began + BUS_SETTLE_DELAY) time
        && not (is_owed s.duty) && not s.initiator_bsy) ≡ true
        → (implies r (not s.initiator_bsy) ≡ true)
        × (implies (r && is_owed s.duty) (is_message_out s.change.before) ≡ true)
    go true e =
        let rest = and_parts _ _ e in
        let owed = not-true _ (and_parts _ _ rest.0).1 in
        (rest.1, λ i. implies (owed i) (is_message_out s.change.before))
    go false e = (refl, refl)

reselection_kept : (s : Seen) (row : Row) (n : Connection) → IsQuiet s.change → s.call ≡ None → s.connection ≡ Some n
    → asks_soon n (standing_of s) s.change row.time ≡ true → test 13 s row ≡ true
reselection_kept s row n q alone conn asks = and_from _ _ (and_from _ _ (λ i. hands_over s row (alone i))
    ((λ i. takes_over s row (conn i)) ∙ taken_over s row n q)) (asking_kept s n row.time asks).0

-- ATN stays, and where it is false, no byte of MESSAGE OUT crosses
no_byte_out : (s : Seen) (time : ℕ) → IsQuiet s.change → (io : Bool)
    → (if io then rises s.change.before.req s.change.after.req else rises s.change.before.ack s.change.after.ack)
    ≡ false
    → implies (s.change.before.msg && s.change.before.cd && not io)
    (implies (falls s.change.before.atn s.change.after.atn) (not s.change.before.ack)
    && implies (rises s.change.before.ack s.change.after.ack && not s.change.after.atn)
    (nat_le (atn_false_since s time + TWO_DESKEW) time)) ≡ true
no_byte_out s time q true e = never _ _ (and_right (s.change.before.msg && s.change.before.cd) false refl)
no_byte_out s time q false e =
    always _ _ (and_from _ _ (never _ _ (no_fall _ _ q.atn_after)) (never _ _ (λ i. e i && not s.change.after.atn)))

negation_kept : (s : Seen) (time : ℕ) → IsQuiet s.change → negates_atn_well s time ≡ true
negation_kept s time q = go q.calm
  where
    go : Calm s.change → negates_atn_well s time ≡ true
    go (inl h) = never _ _ (λ i. no_msg s.change h i && s.change.before.cd && not s.change.before.io)
    go (inr h) = no_byte_out s time q s.change.before.io h.2

attention_kept : (s : Seen) (row : Row) (n : Connection) → IsQuiet s.change
    → asks_soon n (standing_of s) s.change row.time ≡ true → test 24 s row ≡ true
attention_kept s row n q asks =
    always _ _ (and_from _ _ (negation_kept s row.time q) (asking_kept s n row.time asks).1)

-- the end whose turn it is
turn_of : (s : Seen) (row : Row) (n : Connection) → keeps_side n row.dev s.change.next ≡ true
    → is_in_turn (row.dev == n.target) s.change ≡ true → raises_in_turn n s row.dev ≡ true
turn_of s row n side e =
    go (raises_data s.change) (row.dev == n.target) (row.dev == n.initiator) s.change.before.io side e
  where
    go : (r t i io : Bool)
        → (if t then has_no_initiator_line s.change.next else (i && has_no_target_line s.change.next)) ≡ true
        → implies r (same t io) ≡ true → implies r (if t then io else if i then not io else true) ≡ true
    go false t i io side e = refl
    go true true i io side e = e
    go true false true io side e = e
    go true false false io side e = absurd cc

other_way : (a b : Bool) → (a || b) ≡ true → (b || a) ≡ true
other_way true true e = refl
other_way true false e = refl
other_way false true e = refl
other_way false false e = absurd cc

turned_kept : (s : Seen) (row : Row) (n : Connection) → IsQuiet s.change → s.connection ≡ Some n
    → has_turned (standing_of s) (row.dev == n.target) s.change row.time ≡ true
    → (initiator_released_of s row.time (Some n) ≡ true) × (waits_for_turn s row (Some n) ≡ true)
    × (target_released_of s row.time (Some n) ≡ true)
turned_kept s row n q conn e =
    let io : s.change.after.io ≡ s.change.before.io = sym q.io_after in
    let rise = no_rise _ _ q.io_after in
    let rest = go s.change.before.io s.turned e in (
      rest.0,
      (λ i. implies
          (io i && (turned_after s.turned (conn i) s.change) && row.dev == n.target && drives_data s.change.next)
          (nat_le ((if rise i then row.time else s.times.io) + TURN_DELAY) row.time))
          ∙ ((λ i. implies
          (s.change.before.io && (s.turned || rise i) && row.dev == n.target && drives_data s.change.next)
          (nat_le (s.times.io + TURN_DELAY) row.time)) ∙ rest.1),
      rest.2,
    )
  where
    released : (not s.initiator_data || nat_le row.time (s.times.io + DATA_RELEASE_DELAY)) ≡ true
        → (nat_le row.time (s.times.io + DATA_RELEASE_DELAY) || not s.initiator_data) ≡ true
    released = other_way (not s.initiator_data) (nat_le row.time (s.times.io + DATA_RELEASE_DELAY))

    go : (io turned : Bool)
        → (if io then (not s.initiator_data || nat_le row.time (s.times.io + DATA_RELEASE_DELAY)) && implies
        (turned && row.dev == n.target && drives_data s.change.next) (nat_le (s.times.io + TURN_DELAY) row.time)
        else (not s.target_data || nat_le row.time (s.times.io + DESKEW_DELAY))) ≡ true
        → (implies io (nat_le row.time (s.times.io + DATA_RELEASE_DELAY) || not s.initiator_data) ≡ true)
        × (implies (io && (turned || false) && row.dev == n.target && drives_data s.change.next)
        (nat_le (s.times.io + TURN_DELAY) row.time) ≡ true)
        × (implies (not io) (nat_le row.time (s.times.io + DESKEW_DELAY) || not s.target_data) ≡ true)
    go true true e = let two = and_parts _ _ e in (released two.0, two.1, refl)
    go true false e = let two = and_parts _ _ e in (released two.0, refl, refl)
    go false turned e = (refl, refl, other_way (not s.target_data) (nat_le row.time (s.times.io + DESKEW_DELAY)) e)

-- ---- bytes

two_of : (p a b : Bool) → implies p a ≡ true → implies p b ≡ true → implies p (a && b) ≡ true
two_of true a b ea eb = and_from a b ea eb
two_of false a b ea eb = refl

under_more : (p d y : Bool) → implies p y ≡ true → implies p (implies d y) ≡ true
under_more true d y e = always d y e
under_more false d y e = refl

with_more : (p d y : Bool) → implies p y ≡ true → implies (p && d) y ≡ true
with_more true d y e = always d y e
with_more false d y e = refl

more_with : (a p y : Bool) → implies p y ≡ true → implies (a && p) y ≡ true
more_with true p y e = e
more_with false p y e = refl

not_without : (p b z : Bool) → implies p b ≡ true → implies (p && not b) z ≡ true
not_without true b z e = never _ _ (λ i. not (e i))
not_without false b z e = refl

stands : (c : Change) (since time : ℕ)
    → (if c.before.data_bits == c.after.data_bits then since else time) ≡ stand_since c since time
stands c since time = go (c.before.data_bits == c.after.data_bits)
  where
    go : (q : Bool) → (if q then since else time) ≡ (if not q then time else since)
    go true = refl
    go false = refl

no_command_phase : (c : Change) → is_data c.before ≡ true → is_command c.before ≡ false
no_command_phase c h = λ i. and_right (not c.before.msg) c.before.cd (no_cd c h) i && not c.before.io

-- no byte of the command crosses
no_command_byte : (c : Change) (may : Bool) → Calm c → implies (crosses_in c) (implies (is_command c.before) may) ≡ true
no_command_byte c may (inl h) = always (crosses_in c) _ (never _ _ (no_command_phase c h))
no_command_byte c may (inr h) = never _ _ h.2

abbrev Crosses : Seen → Type 0
Crosses s = crosses s ≡ crosses_in s.change

messages_kept : (s : Seen) (row : Row) (n : Connection) → IsQuiet s.change → s.connection ≡ Some n
    → s.reading ≡ NoMessage → Crosses s → implies (crosses_in s.change) (may_cross (standing_of s) s.change) ≡ true
    → test 25 s row ≡ true
messages_kept s row n q conn er cr may =
    let p = crosses_in s.change in
    let rest = first_of_two p (has_odd_parity s.change.after && s.begun) (not s.is_open)
    (first_of_two p (has_odd_parity s.change.after && s.begun && not s.is_open) (is_none_or_all s.command) may).0 in
    let begun = first_of_two p (has_odd_parity s.change.after) s.begun rest.0 in
    let still = no_change s q in
    and_from _ _ (and_from _ _ (and_from _ _ ((λ i. opens_well s (conn i))
    ∙ ((λ i. implies (cr i && not s.begun) (is_opening s.reading && same_bool n.reselected s.change.before.io))
    ∙ not_without p s.begun _ begun.1)) (λ i. not (is_unknown (er i)))) (λ i. implies (still i && s.is_half)
    ((is_message_in s.change.before && s.change.before.atn) || falls s.change.before.bsy s.change.after.bsy)))
    ((λ i. implies (cr i && is_data s.change.before) (not s.is_open)) ∙ with_more p _ _ rest.1)

command_kept : (s : Seen) (row : Row) → IsQuiet s.change → Crosses s
    → implies (crosses_in s.change) (may_cross (standing_of s) s.change) ≡ true → test 26 s row ≡ true
command_kept s row q cr may =
    let p = crosses_in s.change in
    let rest =
    (first_of_two p (has_odd_parity s.change.after && s.begun && not s.is_open) (is_none_or_all s.command) may).1 in
    (λ i. implies (cr i) (implies (is_command s.change.before) (may_take s.command (s.change.after.data_bits % 256))
    && implies (is_data s.change.before) (is_none_or_all s.command)))
    ∙ two_of p _ _ (no_command_byte s.change _ q.calm) (under_more p _ _ rest)

parity_kept : (s : Seen) (row : Row) → Crosses s
    → implies (crosses_in s.change) (may_cross (standing_of s) s.change) ≡ true → test 17 s row ≡ true
parity_kept s row cr may =
    let p = crosses_in s.change in
    let first = first_of_two p (has_odd_parity s.change.after && s.begun && not s.is_open)
    (is_none_or_all s.command) may in
    let second = first_of_two p (has_odd_parity s.change.after && s.begun) (not s.is_open) first.0 in
    (λ i. implies (cr i) (has_odd_parity s.change.after))
    ∙ (first_of_two p (has_odd_parity s.change.after) s.begun second.0).0

-- ---- the transfer of a byte

abbrev Transfers : Seen → Row → Type 0
Transfers s row = (test 18 s row ≡ true) × (test 19 s row ≡ true) × (test 20 s row ≡ true) × (test 21 s row ≡ true)
    × (test 22 s row ≡ true)

transfers_kept : (s : Seen) (row : Row) (n : Connection) → IsQuiet s.change → s.connection ≡ Some n → Crosses s
    → transfers_well (standing_of s) s.change row.time ≡ true → Transfers s row
transfers_kept s row n q conn cr e = go (is_data s.change.before && not (s.agreement.offset == 0)) refl e
  where
    pulsed : is_pulsed s ≡ (is_data s.change.before && not (s.agreement.offset == 0))
    pulsed = λ i. is_some (conn i) && (is_data s.change.before && not (s.agreement.offset == 0))

    shaken : is_asynchronous_transfer s ≡ not (is_data s.change.before && not (s.agreement.offset == 0))
    shaken = λ i. is_some (conn i) && not (is_data s.change.before && not (s.agreement.offset == 0))

    st : data_stand_since s row.time ≡ stand_since s.change s.data_since row.time
    st = stands s.change s.data_since row.time

    go : (b : Bool) → (is_data s.change.before && not (s.agreement.offset == 0)) ≡ b
        → (if b then is_pulsed_well s.agreement s.pulses s.change s.times.req s.times.ack s.data_since row.time
        else is_shaken s.change s.data_since row.time) ≡ true
        → Transfers s row
    go false eb h =
        let off : is_pulsed s ≡ false = pulsed ∙ eb in
        let bytes = and_parts _ _ h in
        let turns = and_parts _ _ bytes.0 in (
          always _ _ turns.0,
          (λ i. implies (is_asynchronous_transfer s && cr i) (nat_le (st i + SET_UP_TIME) row.time))
              ∙ more_with (is_asynchronous_transfer s) _ _ turns.1,
          more_with (is_asynchronous_transfer s) _ _ bytes.1,
          never _ _ off,
          never _ _ off,
        )
    go true eb h =
        let off : is_asynchronous_transfer s ≡ false = shaken ∙ (λ i. not (eb i)) in
        let two = and_parts _ _ h in
        let times = times_of s.agreement.period in (
          never _ _ off,
          never _ _ (λ i. off i && crosses s),
          never _ _ (λ i. off i && holds_still s.change.before),
          always _ _ two.0,
          always _ _
              ((λ i. (pulses_well times s.change.before.req s.change.after.req s.times.req s.pulses.last_req row.time
              && pulses_well times s.change.before.ack s.change.after.ack s.times.ack s.pulses.last_ack row.time)
              && (implies (cr i) (nat_le (st i + times.set_up) row.time)
              && implies (changes_data s.change) (is_after (last_crossing s) times.hold row.time))) ∙ two.1),
        )

leaving_kept : (s : Seen) (row : Row) → IsQuiet s.change → test 23 s row ≡ true
leaving_kept s row q =
    let still = no_change s q in
    let falls_not = no_fall _ _ q.bsy_after in
    never _ _ (and_right _ _ (λ i. still i || falls_not i))

-- ---- all rules

not_in_reset : (s : Seen) → IsQuiet s.change → is_reset s ≡ false
not_in_reset s q = λ i. q.rst i || (sym q.rst_after ∙ q.rst) i

abbrev Passes : Seen → Row → Type 0
Passes s row = passes (standing_of s) s.change row ≡ true

in_connection : (s : Seen) (row : Row) (n : Connection) → s.reading ≡ NoMessage → s.connection ≡ Some n → s.call ≡ None
    → s.arbitration ≡ None → is_in_order s row.time ≡ true → is_move s.change row ≡ true → is_calm_row s.change ≡ true
    → passes_in n (standing_of s) s.change row ≡ true → lowest_broken s row ≡ None
in_connection s row n er conn call arbitration order move quiet h =
    let q = is_quiet s.change quiet in
    let r = is_reset s in
    let two = and_parts _ _ move in
    let rest = and_parts _ _ (either_end n (standing_of s) s.change row h) in
    let side = and_parts _ _ rest.0 in
    let turn = and_parts _ _ side.1 in
    let moves = moves_kept n (standing_of s) s.change row.time rest.1 in
    let cr : Crosses s = (λ i. is_some (receiver_of (conn i) s.change)) ∙ crossing n s.change in
    let bytes = transfers_kept s row n q conn cr moves.2 in
    let released = turned_kept s row n q conn turn.1 in
    none_broken (λ m. keeps m s row) judged_rules (
      order,
      (
        news s row row.kind (not-true _ two.0) (not-true _ two.1),
        (
          true_by_test r _ (free_bus s row q),
          (
            true_by_test r _ (arbitration_kept s row q arbitration),
            (
              true_by_test r _ (turn_kept s row q),
              (
                true_by_test r _ (win_kept s row q),
                (
                  true_by_test r _ (losers_off s row call),
                  (
                    true_by_test r _ (winner_kept s row call),
                    (
                      true_by_test r _ (calling_kept s row call),
                      (
                        true_by_test r _ (answer_kept s row call),
                        (
                          true_by_test r _ (end_kept s row call),
                          (
                            true_by_test r _ (time_out_kept s row call),
                            (
                              true_by_test r _ (reselection_kept s row n q call conn moves.0),
                              (
                                true_by_test r _ ((λ i. keeps_lines_of s row
                                    (or_new (conn i) (connection_after s.connection s.call s.change row)))
                                    ∙ lines_kept s row n q side.0 moves.0),
                                (
                                  true_by_test r _ (and_from _ _
                                      ((λ i. keeps_data_direction_of s row (conn i)) ∙ turn_of s row n side.0 turn.0)
                                      ((λ i. initiator_released_of s row.time (conn i)) ∙ released.0)),
                                  (
                                    true_by_test r _ (and_from _ _ ((λ i. waits_for_turn s row (conn i)) ∙ released.1)
                                        ((λ i. target_released_of s row.time (conn i)) ∙ released.2)),
                                    (
                                      true_by_test r _ (parity_kept s row cr moves.1),
                                      (
                                        true_by_test r _ bytes.0,
                                        (
                                          true_by_test r _ bytes.1,
                                          (
                                            true_by_test r _ bytes.2,
                                            (
                                              true_by_test r _ bytes.3,
                                              (
                                                true_by_test r _ bytes.4,
                                                (
                                                  true_by_test r _ (leaving_kept s row q),
                                                  (
                                                    true_by_test r _ (attention_kept s row n q moves.0),
                                                    (
                                                      true_by_test r _ (messages_kept s row n q conn er cr moves.1),
                                                      (
                                                        true_by_test r _ (command_kept s row q cr moves.1),
                                                        (
                                                          true_by_test r _ ((λ i. frees_well s row (conn i))
                                                              ∙ freeing_kept s row n q),
                                                          (
                                                            reset_kept s row q,
                                                            tt,
                                                          ),
                                                        ),
                                                      ),
                                                    ),
                                                  ),
                                                ),
                                              ),
                                            ),
                                          ),
                                        ),
                                      ),
                                    ),
                                  ),
                                ),
                              ),
                            ),
                          ),
                        ),
                      ),
                    ),
                  ),
                ),
              ),
            ),
          ),
        ),
      ),
    )

breaks_none_of : (s : Seen) (row : Row) → s.reading ≡ NoMessage → Passes s row → lowest_broken s row ≡ None
breaks_none_of s row er e = go s.connection refl a.1
  where
    a : ((nat_le s.last row.time && is_move s.change row && is_calm_row s.change
        && (is_none s.call && is_none s.arbitration)) ≡ true)
        × (passes_of (standing_of s) s.change row s.connection ≡ true)
    a = and_parts _ _ e

    go : (n : Option Connection) → s.connection ≡ n → passes_of (standing_of s) s.change row n ≡ true
        → lowest_broken s row ≡ None
    go None en h = absurd cc
    go (Some n) en h =
        let b = and_parts _ _ a.0 in
        let d = and_parts _ _ b.0 in
        let f = and_parts _ _ d.0 in
        let alone = and_parts _ _ b.1 in
        in_connection s row n er en (is_nothing _ alone.0) (is_nothing _ alone.1) f.0 f.1 d.1 h

no_message : (half : List ℕ) (n : Option Connection) (c : Change) → IsQuiet c → reading_of half n c ≡ NoMessage
no_message half n c q = go n q.calm
  where
    either : (x : Bool) → (if x then NoMessage else NoMessage) ≡ NoMessage
    either true = refl
    either false = refl

    go : (m : Option Connection) → Calm c → reading_of half m c ≡ NoMessage
    go m (inl h) = (λ i. if is_some (receiver_of m c) then (if no_msg c h i && c.before.cd && not c.before.io
        then reading_out (got_out (half ++ c.after.data_bits % 256 ∷ [])) else if no_msg c h i && c.before.cd
        && c.before.io then reading_in (got_in (half ++ c.after.data_bits % 256 ∷ [])) else NoMessage) else NoMessage)
        ∙ either (is_some (receiver_of m c))
    go None (inr h) = refl
    go (Some m) (inr h) =
        let none = crossing m c ∙ h.2 in
        λ i. if none i then
        (if is_message_out c.before then reading_out (got_out (half ++ c.after.data_bits % 256 ∷ []))
        else if is_message_in c.before then reading_in (got_in (half ++ c.after.data_bits % 256 ∷ []))
        else NoMessage)
        else NoMessage

parts : (t : Standing) (c : Change) (row : Row) → passes t c row ≡ true
    → (is_calm_row c ≡ true) × (t.is_alone ≡ true) × (passes_of t c row t.connection ≡ true)
parts t c row e =
    let a = and_parts _ _ e in
    let b = and_parts _ _ a.0 in
    let d = and_parts _ _ b.0 in
    (d.1, b.1, a.1)

-- all lines of the bus but REQ, ACK and the data lines stay
pub stage_stays : (t : Standing) (c : Change) (row : Row) → passes t c row ≡ true → same_stage c.before c.after ≡ true
stage_stays t c row e = (and_parts _ _ (and_parts _ _ (and_parts _ _ (parts t c row e).0).0).0).1

-- a row that passes the test breaks no rule
pub breaks_none : (rows : List Row) (row : Row) → passes (standing_after rows) (change_of rows row) row ≡ true
    → broken_rule rows row ≡ None
unfolding seen_with
breaks_none rows row e =
    let quiet = is_quiet (change_of rows row) (parts (standing_after rows) (change_of rows row) row e).0 in
    breaks_none_of (seen rows row) row (no_message (dialogue rows).half (connection rows) (change_of rows row) quiet) e

-- ---- the terms after such a row

raises_stay : (line : LineSet → Bool) (rows : List Row) (row : Row) (r : Raises) → IsRaisesOf line rows r
    → line (drives rows row.dev) ≡ line (driven_after row.kind (drives rows row.dev)) → IsRaisesOf line (row ∷ rows) r
raises_stay line rows row r h e dev lt = h dev lt ∙ sym (go (row.dev == dev) refl)
  where
    go : (b : Bool) → (row.dev == dev) ≡ b
        → (if b then raised_next (line (drives rows dev)) (line (driven_after row.kind (drives rows dev))) row.time
        (raised line rows dev) else raised line rows dev) ≡ raised line rows dev
    go true eb =
        let at : row.dev ≡ dev = grind (arith, nat_tests) in
        let here : line (drives rows dev) ≡ line (driven_after row.kind (drives rows dev)) = subst
        (λ (d : ℕ). line (drives rows d) ≡ line (driven_after row.kind (drives rows d))) at e in
        let still = no_rise _ _ here in
        λ i. if still i then row.time else raised line rows dev
    go false eb = refl

dialogue_moves : (d : Dialogue) (n : Connection) (f : ℕ → ℕ → Agreement) (c : Change) → IsQuiet c
    → takes_data d (crosses_in c) ≡ dialogue_after d (Some n) (Some n) f c
dialogue_moves d n f c q = go q.calm
  where
    phase : changes_phase c ≡ false
    phase = λ i. not (q.phase i)

    go : Calm c → takes_data d (crosses_in c) ≡ dialogue_after d (Some n) (Some n) f c
    go (inl h) =
        let cross = sym (crossing n c) in
        let msg = no_msg c h in
        let out : is_message_out c.before ≡ false = λ i. msg i && c.before.cd && not c.before.io in
        let inward : is_message_in c.before ≡ false = λ i. msg i && c.before.cd && c.before.io in
        let command = no_command_phase c h in
        let byte = c.after.data_bits % 256 in
        let crosses_is : byte_crosses d c ≡ record d { begun = true } =
        λ i. if out i then byte_out d byte (not c.after.atn) else if inward i then byte_in d byte
        else if command i then record d { heard = heard_with_command d.heard byte; begun = true }
        else record d { begun = true } in
        (λ i. if cross i then sym crosses_is i else d) ∙ (λ i. if is_some (receiver_of (Some n) c) then byte_crosses d c
        else if sym phase i then phase_begins d else d)
    go (inr h) =
        let none = sym (crossing n c ∙ h.2) in
        (λ i. if h.2 i then record d { begun = true } else d)
        ∙ (λ i. if none i then byte_crosses d c else if sym phase i then phase_begins d else d)

-- where ACK does not fall while ATN is true, the target learns nothing of ATN
not_heeded : (acked atn after held : Bool) → (atn && acked) ≡ false → (acked && (atn && after && held)) ≡ false
not_heeded false atn after held e = refl
not_heeded true false after held e = refl
not_heeded true true after held e = absurd cc

duty_moves : (u : Duty) (n : Connection) (c : Change) (since time : ℕ) (held : Bool) → IsQuiet c
    → held ≡ is_attention_held c since time → duty_in_data u c held ≡ duty_after u (Some n) c held
duty_moves u n c since time held q eh = go q.calm
  where
    kept : false ≡ falls c.before.atn c.after.atn
    kept = sym (no_fall _ _ q.atn_after)

    phase : false ≡ changes_phase c
    phase = sym (λ i. not (q.phase i))

    go : Calm c → duty_in_data u c held ≡ duty_after u (Some n) c held
    go (inl h) =
        let msg = no_msg c h in
        let inward : false ≡ is_message_in c.before = sym (λ i. msg i && c.before.cd && c.before.io) in
        let out : false ≡ is_message_out c.before = sym (λ i. msg i && c.before.cd && not c.before.io) in
        λ i. if kept i || rises c.before.req c.after.req then duties.Nothing
        else if falls c.before.ack c.after.ack && held
        then (if inward i then duties.Owed else if out i then u else duties.Asked)
        else if phase i then duty_left u else u
    go (inr h) =
        let off : (falls c.before.ack c.after.ack && held) ≡ false = (λ i. falls c.before.ack c.after.ack && eh i)
        ∙ not_heeded (falls c.before.ack c.after.ack) c.before.atn c.after.atn _ h.1 in
        (λ i. if rises c.before.req c.after.req then duties.Nothing else if off i then duties.Asked else u)
        ∙ (λ i. if kept i || rises c.before.req c.after.req then duties.Nothing
        else if sym off i then duty_if_held u c.before else if phase i then duty_left u else u)

pub moved : (rows : List Row) (row : Row) (k : Course) (held : Bool) → IsCourseOf rows k
    → held ≡ is_attention_held (change_of rows row) (since_line (λ s. s.atn) rows) row.time
    → passes (standing_after rows) (change_of rows row) row ≡ true
    → IsCourseOf (row ∷ rows) (course_after_transfer k held (change_of rows row) row.time)
unfolding seen_with
moved rows row k held h eh e = go (connection rows) refl p.2
  where
    c : Change
    c = change_of rows row

    p : (is_calm_row (change_of rows row) ≡ true) × ((is_none (call rows) && is_none (arbitration rows)) ≡ true)
        × (passes_of (standing_after rows) (change_of rows row) row (connection rows) ≡ true)
    p = parts (standing_after rows) (change_of rows row) row e

    q : IsQuiet (change_of rows row)
    q = is_quiet (change_of rows row) p.0

    alone : (is_none (call rows) ≡ true) × (is_none (arbitration rows) ≡ true)
    alone = and_parts _ _ p.1

    no_call : k.call ≡ None
    no_call = h.call ∙ is_nothing _ alone.0

    no_arbitration : k.arbitration ≡ None
    no_arbitration = h.arbitration ∙ is_nothing _ alone.1

    sel : c.after.sel ≡ false
    sel = sym q.sel_after ∙ q.sel

    bsy : c.after.bsy ≡ true
    bsy = sym q.bsy_after ∙ q.bsy

    rst : c.after.rst ≡ false
    rst = sym q.rst_after ∙ q.rst

    arbitration_is : k.arbitration ≡ arbitration_after k.arbitration (free_since rows) c row
    arbitration_is = no_arbitration
        ∙ (sym (λ i. if not (q.bsy i || c.before.sel || c.before.rst) && c.after.bsy && not c.after.sel
        then Some (record { free = free_since rows; first = row.time }) else None)
        ∙ (λ i. arbitration_after (sym no_arbitration i) (free_since rows) c row))

    call_is : k.call ≡ call_after k.call c row
    call_is = no_call ∙ sym (λ i. if not (sel i) then None
        else if rises c.before.sel c.after.sel then Some (record { caller = row.dev; at = row.time; calling = None })
        else call_goes_on k.call c row)

    go : (m : Option Connection) → connection rows ≡ m → passes_of (standing_after rows) c row m ≡ true
        → IsCourseOf (row ∷ rows) (course_after_transfer k held c row.time)
    go None en w = absurd cc
    go (Some n) en w =
        let conn : k.connection ≡ Some n = h.connection ∙ en in
        let back = sym conn in
        let still : false ≡ changes_phase c = sym (λ i. not (q.phase i)) in
        let rise = no_rise _ _ q.io_after in
        goes_on rows row k (free_since rows) held c k.bsy_raised k.rst_raised k.arbitration k.call k.connection
        (receiver_of k.connection c) (pulses_on k.pulses c row.time) k.turned
        (duty_in_data k.duty c held) k.agreed (takes_data k.dialogue (crosses_in c)) h refl refl eh
        (raises_stay (λ s. s.bsy) rows row k.bsy_raised h.bsy_raised q.own_bsy)
        (raises_stay (λ s. s.rst) rows row k.rst_raised h.rst_raised q.own_rst) arbitration_is call_is
        (conn ∙ (sym (λ i. if bsy i then Some n else None) ∙ (λ i. connection_after (back i) k.call c row))) refl
        ((λ i. if still i then no_pulses else pulses_on k.pulses c row.time)
        ∙ (λ i. pulses_after k.pulses (back i) c row.time))
        (sym (or_false k.turned) ∙ ((λ i. k.turned || sym rise i) ∙ (λ i. turned_after k.turned (back i) c)))
        (duty_moves k.duty n c (since_line (λ s. s.atn) rows) row.time held q eh
        ∙ (λ i. duty_after k.duty (back i) c held)) (agreeing (agreed rows) (λ i t. if c.after.rst then asynchronous
        else closed_agreement_by k.connection c.after.bsy k.dialogue.heard.now i t (agreed rows i t)) k.agreed
        (λ i t. sym (λ j. if rst j then asynchronous
        else closed_agreement_by (conn j) (bsy j) k.dialogue.heard.now i t (agreed rows i t))) h.agreed)
        (dialogue_moves k.dialogue n (agreed rows) c q
        ∙ (λ i. dialogue_after k.dialogue (back i) (back i) (agreed rows) c))

-- ---- what stands, by the running terms

pub stands_is : (rows : List Row) (v : View) (k : Course) → IsViewOf rows v → IsCourseOf rows k
    → standing_at (drives rows) v k ≡ standing_after rows
stands_is rows v k w h =
    λ i. record {
      last = w.last_is i;
      is_alone = is_none (h.call i) && is_none (h.arbitration i);
      connection = h.connection i;
      times = w.times_are i;
      data_since = w.data_is i;
      initiator_bsy = drives_bsy (drives rows) (initiator_of (h.call i) (h.connection i));
      initiator_data = initiator_data (drives rows) (h.connection i);
      target_data = target_data (drives rows) (h.connection i);
      pulses = h.pulses i;
      turned = h.turned i;
      duty = h.duty i;
      agreement = (h.dialogue i).heard.now.agreement;
      is_open = is_some (h.dialogue i).heard.now.offer;
      command = (h.dialogue i).heard.now.command;
      begun = (h.dialogue i).begun;
    }

-- the test, by what it was asked
pub passes_is : (rows : List Row) (row : Row) (t : Running)
    → IsTermsOf rows t → (before after own next : LineSet) (passed : Bool)
    → record { before = before; after = after; own = own; next = next } ≡ change_of rows row → passed ≡ passes
    (standing_at (drives rows) t.view t.course) (record { before = before; after = after; own = own; next = next }) row
    → passed ≡ passes (standing_after rows) (change_of rows row) row
passes_is rows row t h before after own next passed ec ep =
    ep ∙ (λ i. passes (stands_is rows t.view t.course h.view h.course i) (ec i) row)

pub passing : (rows : List Row) (row : Row) (t : Running)
    → IsTermsOf rows t → (before after own next : LineSet) (passed : Bool)
    → record { before = before; after = after; own = own; next = next } ≡ change_of rows row → passed ≡ passes
    (standing_at (drives rows) t.view t.course) (record { before = before; after = after; own = own; next = next }) row
    → passed ≡ true → passes (standing_after rows) (change_of rows row) row ≡ true
passing rows row t h before after own next passed ec ep e =
    sym (passes_is rows row t h before after own next passed ec ep) ∙ e
