-- By when a reaction comes: within the longest delay after the latest time that it looks at.
use Rattle.bus_laws.proofs
use proofs.Names.{inl, inr, ℕ, ◌≡◌, ◌<◌, ◌≤◌, ◌+◌, Bool, true, false, not, ◌&&◌, ◌||◌, Option, Some, None, ap, arith}
use proofs.Names.{length, cases_Bool, none-some, if◌then◌else◌, max, nat_lt, nat_le, ◌==◌, is_none, if_less, LineSet}
use proofs.Names.{none, has_id_above, same_set, is_message_out, AreTimesBefore, Fault, Arbitration, BUS_SETTLE_DELAY}
use proofs.Names.{BUS_SET_DELAY, ENTRY_DELAY, Call, Calling, Handshakes, room_by, or_zero, IsBefore, IsCallingBefore}
use proofs.Names.{IsStageBefore, AreHandshakesBefore, Stage, OnFreeBus, InArbitration, InCalling, InAnswer}
use proofs.Names.{InConnection, InReset, loser_release, calling_start, unanswered_due, caller_due, answer, is_called}
use proofs.Names.{called_due, calling_due, answer_due, target_due, initiator_due, sample_due, owes_release, free_due}
use proofs.Names.{arbitration_due, later_entry_if, entry, rose_with_ack, oldest_req_time, next_ack_time, ack_pulse_time}
use proofs.Names.{byte_hold_end, byte_time, link_due_by, due_at, due_where, fault_due, earlier_due, rst_assertion}
use proofs.Names.{with_reset, first_req, has_io_turned, byte_bits, bits_if, hold_end, set_up_end, last_hold_end, Due}
use proofs.{Names.{Myself, Want, Answering, Offering, Pace, Sight}, Resets.Dues.{one_of}, Stages.Dues.{is_at}}

-- ---- what comes before a time

abbrev pub IsDueBefore : ℕ → Option Due → Type 0
IsDueBefore limit o = (x : Due) → o ≡ Some x → x.time < limit

pub none_before : (limit : ℕ) → IsDueBefore limit None
none_before limit x e = absurd (none-some x e)

pub at_before : (limit t : ℕ) (l : LineSet) → t < limit → IsDueBefore limit (due_at t l)
at_before limit t l h x e = let w = (is_at t l x e).time_is in omega arith

pub fault_before : (limit t bit : ℕ) → t < limit → IsDueBefore limit (fault_due t bit)
fault_before limit t bit h x e =
    let same : (let y : Due = record { time = t; kind = Fault bit } in y) ≡ x = cc in
    let w = ap (λ (y : Due). y.time) same in
    omega arith

pub if_before : (limit : ℕ) (q : Bool) (a b : Option Due) → IsDueBefore limit a → IsDueBefore limit b
    → IsDueBefore limit (if q then a else b)
if_before limit true a b f g = f
if_before limit false a b f g = g

pub where_before : (limit : ℕ) (q : Bool) (a : Option Due) → IsDueBefore limit a → IsDueBefore limit (due_where q a)
where_before limit true a f = f
where_before limit false a f = none_before limit

-- ---- an end of a connection

-- The times of the transfer and of a wait are short.
pub record IsShortPace (a : Pace) : Type 0 where
  pub period : a.times.period ≤ 2000
  pub assertion : a.times.assertion ≤ 2000
  pub negation : a.times.negation ≤ 2000
  pub set_up : a.times.set_up ≤ 2000
  pub hold : a.times.hold ≤ 2000
  pub lag : a.lag ≤ 10000

abbrev pub longest : ℕ
longest = 1000100000

pub record AreAllBefore (end : ℕ) (v : Sight) (b : Handshakes) (me : Myself) : Type 0 where
  pub ages : AreTimesBefore end v.ages
  pub handshakes : AreHandshakesBefore end b
  pub since : me.since < end
  pub latency : me.latency ≤ 100

room_before : (end offset : ℕ) (b : Handshakes) → 0 < end → or_zero b.relieved < end → room_by offset b < end
room_before end offset b some h = elim (cases_Bool (b.reach == offset)) [ inl e ↦ rw e h | inr e ↦ rw e some ]

first_req_before : (end : ℕ) (v : Sight) (b : Handshakes) (me : Myself) (g : Offering) → AreAllBefore end v b me
    → IsDueBefore (end + longest) (first_req v me g)
first_req_before end v b me g a =
    let t = a.ages in let m = t.msg in let c = t.cd in let i = t.io in let s = a.since in let l = a.latency in
    if_before (end + longest) (not (has_io_turned v)) _ _
    (at_before (end + longest) _ _ (omega arith))
    (if_before (end + longest) (me.own.data_bits == 0) _ _
    (at_before (end + longest) _ _ (omega arith))
    (at_before (end + longest) _ _ (omega arith)))

pub target_before : (end : ℕ) (begun : Bool) (v : Sight) (b : Handshakes) (me : Myself) (x : Pace) (g : Offering)
    → 0 < end → AreAllBefore end v b me → IsShortPace x → g.wait ≤ 1000000000
    → IsDueBefore (end + longest) (target_due begun v b me x g)
target_before end begun v b me x g some a q wait =
    let t = a.ages in
    let h = a.handshakes in
    let sel = t.sel in
    let req = t.req in
    let ack = t.ack in
    let s = a.since in
    let l = a.latency in
    let lr = h.last_req in
    let la = h.last_ack in
    let rm = room_before end x.offset b some h.relieved in
    let p1 = q.period in
    let p2 = q.assertion in
    let p3 = q.negation in
    let p4 = q.set_up in
    let p5 = q.hold in
    let lim : ℕ = end + longest in
    let he : hold_end b me x < end + 3000 = omega arith in
    let se : set_up_end v b me x < end + 6000 = if_less v.bus.io
    (hold_end b me x + x.times.set_up) 0 (end + 6000) (omega arith) (omega arith) in
    let lh : last_hold_end v b x < end + 3000 = let w = if_less v.bus.io b.last_req b.last_ack end lr la in
    omega arith in
    let nr : (if v.bus.io then max v.ages.ack (me.since + 55) else v.ages.ack) < end + 3000 = if_less v.bus.io
    (max v.ages.ack (me.since + 55)) v.ages.ack (end + 3000) (omega arith) (omega arith) in
    let fr = first_req_before end v b me g a in
    if_before lim (not begun) _ _ (at_before lim _ _ (omega arith))
    (if_before lim x.pulsed _ _ (if_before lim me.own.req _ _ (at_before lim _ _ (omega arith)) (if_before lim
    (b.requests == 0) _ _ fr (if_before lim (v.bus.io && not (me.own.data_bits == bits_if g.follows g.byte)) _ _
    (at_before lim _ _ (omega arith)) (if_before lim g.follows _ _
    (if_before lim (nat_lt (length b.waiting) x.offset) _ _ (at_before lim _ _ (omega arith)) (none_before lim))
    (if_before lim (not (length b.waiting == 0) || v.bus.ack) _ _
    (none_before lim) (at_before lim _ _ (omega arith)))))))
    (if_before lim me.own.req _ _ (if_before lim v.bus.ack _ _ (at_before lim _ _ (omega arith)) (none_before lim))
    (if_before lim v.bus.ack _ _ (none_before lim) (if_before lim (b.requests == 0) _ _ fr
    (if_before lim g.follows _ _ (at_before lim _ _ (omega arith)) (at_before lim _ _ (omega arith)))))))

pub initiator_before : (end : ℕ) (begun : Bool) (v : Sight) (b : Handshakes) (me : Myself) (x : Pace) (g : Answering)
    → 0 < end → AreAllBefore end v b me → IsShortPace x → g.raised < end
    → IsDueBefore (end + longest) (initiator_due begun v b me x g)
initiator_before end begun v b me x g some a q raised =
    let t = a.ages in
    let h = a.handshakes in
    let sel = t.sel in
    let req = t.req in
    let ack = t.ack in
    let atn = t.atn in
    let s = a.since in
    let l = a.latency in
    let lr = h.last_req in
    let la = h.last_ack in
    let old = h.oldest in
    let p1 = q.period in
    let p2 = q.assertion in
    let p3 = q.negation in
    let p4 = q.set_up in
    let p5 = q.hold in
    let p6 = q.lag in
    let lim : ℕ = end + longest in
    let he : byte_hold_end me x g < end + 3000 = omega arith in
    let bt : byte_time b me x g < end + 4000 = if_less (b.answers == 0) (oldest_req_time b + me.latency)
    (max (oldest_req_time b + me.latency) (byte_hold_end me x g)) (end + 4000) (omega arith) (omega arith) in
    let na : next_ack_time v b x < end + 3000 = if_less (b.answers == 0) 0
    (max (b.last_ack + x.times.period) (v.ages.ack + x.times.negation)) (end + 3000) (omega arith) (omega arith) in
    let ap_ : ack_pulse_time v b x < end + 20000 = omega arith in
    let ne : (if rose_with_ack v me then max v.ages.req (v.ages.ack + 90) else v.ages.req) < end + 1000 = if_less
    (rose_with_ack v me) (max v.ages.req (v.ages.ack + 90)) v.ages.req (end + 1000) (omega arith) (omega arith) in
    let pe : (if rose_with_ack v me then max 90 x.times.assertion else x.times.assertion) < 3000 = if_less
    (rose_with_ack v me) (max 90 x.times.assertion) x.times.assertion 3000 (omega arith) (omega arith) in
    let sb : (if is_message_out v.bus then max (me.since + 55) (v.ages.atn + 90) else me.since + 55) < end + 1000 =
    if_less (is_message_out v.bus) (max (me.since + 55) (v.ages.atn + 90))
    (me.since + 55) (end + 1000) (omega arith) (omega arith) in
    let release : IsDueBefore lim (due_at (byte_hold_end me x g) (record me.own { data_bits = 0 })) = at_before lim _ _
    (omega arith) in
    if_before lim me.own.bsy _ _ (at_before lim _ _ (omega arith)) (if_before lim (not begun) _ _ (none_before lim)
    (if_before lim x.pulsed _ _ (if_before lim me.own.ack _ _ (at_before lim _ _ (omega arith)) (if_before lim
    (not (length b.waiting == 0)) _ _ (if_before lim v.bus.io _ _ (at_before lim _ _ (omega arith)) (if_before lim
    (me.own.data_bits == byte_bits g.byte) _ _ (at_before lim _ _ (omega arith)) (at_before lim _ _ (omega arith))))
    (if_before lim (me.own.data_bits == 0) _ _ (none_before lim) release)))
    (if_before lim (owes_release v me) _ _ release (if_before lim me.own.ack _ _
    (if_before lim v.bus.req _ _ (none_before lim) (at_before lim _ _ (omega arith))) (if_before lim
    (not v.bus.req) _ _ (none_before lim) (if_before lim v.bus.io _ _ (at_before lim _ _ (omega arith)) (if_before lim
    (me.own.data_bits == 0) _ _ (at_before lim _ _ (omega arith)) (at_before lim _ _ (omega arith)))))))))

-- ---- on the way to a connection, and under RST

entry_before : (end : ℕ) (me : Myself) (free w : ℕ) → free < end → w < end + 1000000000 → me.latency ≤ 100
    → IsDueBefore (end + longest) (entry me free w)
entry_before end me free w f g l = at_before (end + longest) _ _ (omega arith)

free_before : (end : ℕ) (me : Myself) (free : ℕ) (w : Option ℕ) → free < end → IsBefore (end + 1000000000) w
    → me.latency ≤ 100 → IsDueBefore (end + longest) (free_due me free w)
free_before end me free None f g l = none_before (end + longest)
free_before end me free (Some w) f g l = entry_before end me free w f g l

arbitration_before : (end : ℕ) (bus : LineSet) (me : Myself) (a : Arbitration) (w : Option ℕ)
    → a.free < end → me.since < end → IsBefore (end + 1000000000) w → me.latency ≤ 100
    → IsDueBefore (end + longest) (arbitration_due bus me a w)
arbitration_before end bus me a w f e g l =
    if_before (end + longest) me.own.bsy _ _
    (where_before (end + longest) (not (has_id_above bus me.dev)) _ (at_before (end + longest) _ _ (omega arith)))
    (later w g)
  where
    later : (w : Option ℕ) → IsBefore (end + 1000000000) w → IsDueBefore (end + longest) (later_entry_if me a w)
    later None g = none_before (end + longest)
    later (Some w) g = where_before (end + longest) (nat_le (max (a.free + ENTRY_DELAY) w + me.latency)
        (a.first + BUS_SET_DELAY)) _ (entry_before end me a.free w f g l)

loser_before : (end sel : ℕ) (me : Myself) → sel < end → me.latency ≤ 100
    → IsDueBefore (end + longest) (loser_release sel me)
loser_before end sel me e l = if_before (end + longest) (same_set me.own none) _ _ (none_before (end + longest))
    (at_before (end + longest) _ _ (omega arith))

calling_before : (end bsy sel : ℕ) (me : Myself) (w : Want) (flip : Option ℕ) (c : Call)
    → bsy < end → sel < end → me.since < end → me.latency ≤ 100 → IsCallingBefore end c.calling
    → IsDueBefore (end + longest) (calling_due bsy sel me w flip c)
calling_before end bsy sel me w flip c b e i l h =
    if_before (end + longest) (c.caller == me.dev) _ _ (caller c.calling h) (other c.calling h)
  where
    lim : ℕ
    lim = end + longest

    start : (o : Option ℕ) → IsDueBefore (end + longest) (calling_start w.reselects me o)
    start None = none_before (end + longest)
    start (Some d) =
        where_before (end + longest) (nat_lt d 8 && not (d == me.dev)) _ (at_before (end + longest) _ _ (omega arith))

    unanswered : (g : Calling) (o : Option ℕ) → IsBefore end o → IsDueBefore (end + longest) (unanswered_due me g o)
    unanswered g None z = at_before (end + longest) _ _ (omega arith)
    unanswered g (Some r) z = if_before (end + longest) (is_none g.withdrawn) _ _
        (at_before (end + longest) _ _ (omega arith)) (at_before (end + longest) _ _ (omega arith))

    caller : (o : Option Calling) → IsCallingBefore end o → IsDueBefore (end + longest) (caller_due me w o)
    caller None z = start w.callee
    caller (Some g) z = unanswered g g.released z.released

    sampled : (f : Option ℕ) → IsDueBefore (end + longest) (answer bsy me f)
    sampled None = at_before (end + longest) _ _ (omega arith)
    sampled (Some bit) = fault_before (end + longest) (bsy + BUS_SETTLE_DELAY + me.latency) bit (omega arith)

    other : (o : Option Calling) → IsCallingBefore end o → IsDueBefore (end + longest) (called_due bsy sel me flip o)
    other None z = loser_before end sel me e l
    other (Some g) z = if_before (end + longest) (not (g.called == me.dev)) _ _ (loser_before end sel me e l)
        (if_before (end + longest) (is_called g) _ _ (sampled flip) (none_before (end + longest)))

answer_before : (end sel : ℕ) (me : Myself) (w : Want) (c : Call) (x : Calling) (answered : ℕ)
    → sel < end → me.since < end → me.latency ≤ 100 → answered < end
    → IsDueBefore (end + longest) (answer_due sel me w c x answered)
answer_before end sel me w c x answered e i l a =
    if_before (end + longest) (c.caller == me.dev) _ _
    (if_before (end + longest) (not x.reselects) _ _
    (at_before (end + longest) _ _ (omega arith))
    (if_before (end + longest) (is_none x.resumed) _ _
    (at_before (end + longest) _ _ (omega arith))
    (at_before (end + longest) _ _ (omega arith))))
    (if_before (end + longest) (x.called == me.dev) _ _
    (none_before (end + longest))
    (loser_before end sel me e l))

pub link_before : (end : ℕ) (bus : LineSet) (bsy sel : ℕ) (me : Myself) (w : Want) (flip : Option ℕ) (g : Stage)
    → bsy < end → sel < end → me.since < end → me.latency ≤ 100 → IsBefore (end + 1000000000) w.since
    → IsStageBefore end g → IsDueBefore (end + longest) (link_due_by bus bsy sel me w flip g)
link_before end bus bsy sel me w flip (OnFreeBus free) b e i l h z = free_before end me free w.since z h l
link_before end bus bsy sel me w flip (InArbitration a) b e i l h z = arbitration_before end bus me a w.since z.0 i h l
link_before end bus bsy sel me w flip (InCalling c) b e i l h z = calling_before end bsy sel me w flip c b e i l z.1
link_before end bus bsy sel me w flip (InAnswer c k answered) b e i l h z =
    answer_before end sel me w c k answered e i l z.1.1
link_before end bus bsy sel me w flip (InConnection h) b e i l m z = none_before (end + longest)
link_before end bus bsy sel me w flip (InReset since) b e i l h z = if_before (end + longest) (same_set me.own none) _ _
    (none_before (end + longest)) (at_before (end + longest) _ _ (omega arith))

-- ---- RST round all of it, and the sample of a byte

pub sample_before : (end : ℕ) (q : Bool) (last : ℕ) (flip : Option ℕ) (o : Option Due) → last < end
    → IsDueBefore (end + longest) o → IsDueBefore (end + longest) (sample_due q last flip o)
sample_before end true last None o l f = f
sample_before end true last (Some bit) o l f = fault_before (end + longest) last bit (omega arith)
sample_before end false last flip o l f = f

pub reset_before : (end : ℕ) (me : Myself) (raised : ℕ) (reset : Option ℕ) (o : Option Due)
    → raised < end → me.latency ≤ 100 → IsBefore end reset → IsDueBefore (end + longest) o
    → IsDueBefore (end + longest) (with_reset me raised reset o)
reset_before end me raised reset o r l y f = if_before (end + longest) me.own.rst _ _
    (at_before (end + longest) _ _ (omega arith)) (earlier (rst_assertion reset) o (asserted reset y) f)
  where
    asserted : (t : Option ℕ) → IsBefore end t → IsDueBefore (end + longest) (rst_assertion t)
    asserted None z = none_before (end + longest)
    asserted (Some t) z = at_before (end + longest) _ _ (omega arith)

    earlier : (a b : Option Due) → IsDueBefore (end + longest) a → IsDueBefore (end + longest) b
        → IsDueBefore (end + longest) (earlier_due a b)
    earlier a b f g x e = elim (one_of a b x e) [
      | inl h ↦ f x h
      | inr h ↦ g x h
    ]
