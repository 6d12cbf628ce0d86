-- When two agreements of synchronous data transfer are the same, and the times of a transfer period.
use Rattle.std.specs.Prelude.{ℕ, ◌*◌, Bool, ◌&&◌, ◌||◌, Option, Some, None, nat_lt, ◌==◌, if◌then◌else◌, ◌<◌}
use Rattle.bus_trace.specs.declared.delays.TheConstants.{ASSERTION_PERIOD, NEGATION_PERIOD, SET_UP_TIME, DATA_HOLD}
use Rattle.bus_trace.specs.declared.delays.TheConstants.{FAST_ASSERTION_PERIOD, FAST_NEGATION_PERIOD, FAST_SET_UP_TIME}
use Rattle.bus_trace.specs.declared.delays.TheConstants.{FAST_DATA_HOLD}
use Rattle.bus_trace.specs.declared.agreements.TheConstants.{LEAST_FACTOR, LEAST_SLOW_FACTOR}
use Rattle.bus_trace.specs.declared.agreements.Agreement.{Agreement}
use Rattle.bus_trace.specs.declared.agreements.TransferTimes.{TransferTimes}

-- An agreement on asynchronous data transfer: its REQ/ACK offset is 0, and its period says nothing.
abbrev pub is_asynchronous : Agreement → Bool
is_asynchronous a = a.offset == 0

-- Two agreements are the same: both are asynchronous, or period and offset are equal.
abbrev pub same_agreement : Agreement → Agreement → Bool
same_agreement a b = (is_asynchronous a && is_asynchronous b) || (a.period == b.period && a.offset == b.offset)

-- The times of a fast synchronous data transfer, in ns: a set-up time of a fast deskew delay and a fast cable
-- skew delay, after which data stays for both and a fast hold time.
abbrev pub fast_times : ℕ → TransferTimes
fast_times factor = record {
  period = 4 * factor;
  assertion = FAST_ASSERTION_PERIOD;
  negation = FAST_NEGATION_PERIOD;
  set_up = FAST_SET_UP_TIME;
  hold = FAST_DATA_HOLD;
}

-- The times of a synchronous data transfer that is not fast, in ns: a set-up time of a deskew delay and a cable
-- skew delay, after which data stays for both and a hold time.
abbrev pub slow_times : ℕ → TransferTimes
slow_times factor = record {
  period = 4 * factor;
  assertion = ASSERTION_PERIOD;
  negation = NEGATION_PERIOD;
  set_up = SET_UP_TIME;
  hold = DATA_HOLD;
}

-- The times that go with a transfer period factor, in units of 4 ns: none below 25, those of a fast
-- transfer up to 49, and the others from 50 on.
abbrev pub transfer_times : ℕ → Option TransferTimes
transfer_times factor =
    if nat_lt factor LEAST_FACTOR then None
    else if nat_lt factor LEAST_SLOW_FACTOR then Some (fast_times factor)
    else Some (slow_times factor)

-- The times of a transfer period factor; those of a factor below 25 are those of a transfer that is not fast.
abbrev pub times_or_slow : ℕ → Option TransferTimes → TransferTimes
times_or_slow factor None = slow_times factor
times_or_slow factor (Some t) = t

abbrev pub times_of : ℕ → TransferTimes
times_of factor = times_or_slow factor (transfer_times factor)

-- None of the times of a transfer is 0, but for the period of the factor 0.
pub record AreTimes (t : TransferTimes) : Type 0 where
  pub assertion : 0 < t.assertion
  pub negation : 0 < t.negation
  pub set_up : 0 < t.set_up
  pub hold : 0 < t.hold
