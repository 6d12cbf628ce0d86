-- Lines without BSY, REQ, ACK, and without the data lines, as numbers.
use Rattle.std.proofs.Common.{◌≡◌, ◌-◌, Bool, true, false, ap, arith}
use Rattle.bus_trace.specs.LineSet.{LineSet, number_of, bit_value}

pub bsy_off : (s : LineSet) → s.bsy ≡ true → number_of s - 512 ≡ number_of (record s { bsy = false })
bsy_off s e =
    let v : bit_value s.bsy 512 ≡ 512 = ap (λ (b : Bool). bit_value b 512) e in omega (arith, v)

pub req_off : (s : LineSet) → s.req ≡ true → number_of s - 16384 ≡ number_of (record s { req = false })
req_off s e =
    let v : bit_value s.req 16384 ≡ 16384 = ap (λ (b : Bool). bit_value b 16384) e in omega (arith, v)

pub ack_off : (s : LineSet) → s.ack ≡ true → number_of s - 32768 ≡ number_of (record s { ack = false })
ack_off s e =
    let v : bit_value s.ack 32768 ≡ 32768 = ap (λ (b : Bool). bit_value b 32768) e in omega (arith, v)

pub data_off : (s : LineSet) → number_of s - s.data_bits ≡ number_of (record s { data_bits = 0 })
data_off s = omega arith
