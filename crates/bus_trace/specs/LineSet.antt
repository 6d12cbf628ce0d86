-- A set of the eighteen lines of the bus, as contracts see it.
use Rattle.std.specs.Prelude.{ℕ, ◌+◌, ◌%◌, ◌^◌, Bool, true, false, not, ◌==◌, ◌&&◌, ◌||◌, if◌then◌else◌, nat_lt, nat_le}
use Rattle.std.specs.Int.{bit_at}
use Rattle.std.specs.Int.RustNames.{bit_or, count_ones}

-- the data lines as a number, DB(7-0) below 256 and DB(P) as bit 8, and each other line by itself
pub record LineSet : Type 0 where
  pub data_bits : ℕ
  pub bsy : Bool
  pub sel : Bool
  pub cd : Bool
  pub io : Bool
  pub msg : Bool
  pub req : Bool
  pub ack : Bool
  pub atn : Bool
  pub rst : Bool

-- the set whose lines are the bits of a number
abbrev pub set_of : ℕ → LineSet
set_of n = record {
  data_bits = n % 512;
  bsy = bit_at n 9 == 1;
  sel = bit_at n 10 == 1;
  cd = bit_at n 11 == 1;
  io = bit_at n 12 == 1;
  msg = bit_at n 13 == 1;
  req = bit_at n 14 == 1;
  ack = bit_at n 15 == 1;
  atn = bit_at n 16 == 1;
  rst = bit_at n 17 == 1;
}

-- what a line adds to a number, where it is true
abbrev pub bit_value : Bool → ℕ → ℕ
bit_value true weight = weight
bit_value false weight = 0

-- the number whose bits are the lines of a set
abbrev pub number_of : LineSet → ℕ
number_of s = s.data_bits + bit_value s.bsy 512 + bit_value s.sel 1024 + bit_value s.cd 2048 + bit_value s.io 4096
    + bit_value s.msg 8192 + bit_value s.req 16384 + bit_value s.ack 32768 + bit_value s.atn 65536
    + bit_value s.rst 131072

-- no line
abbrev pub none : LineSet
none = record {
  data_bits = 0;
  bsy = false;
  sel = false;
  cd = false;
  io = false;
  msg = false;
  req = false;
  ack = false;
  atn = false;
  rst = false;
}

-- the lines of either set: the wired OR of the bus
abbrev pub union : LineSet → LineSet → LineSet
union a b = record {
  data_bits = bit_or a.data_bits b.data_bits;
  bsy = a.bsy || b.bsy;
  sel = a.sel || b.sel;
  cd = a.cd || b.cd;
  io = a.io || b.io;
  msg = a.msg || b.msg;
  req = a.req || b.req;
  ack = a.ack || b.ack;
  atn = a.atn || b.atn;
  rst = a.rst || b.rst;
}

-- whether a line is the same in two sets
abbrev pub same : Bool → Bool → Bool
same a b = if a then b else not b

-- whether two sets have the same lines
abbrev pub same_set : LineSet → LineSet → Bool
same_set a b = (a.data_bits == b.data_bits) && same a.bsy b.bsy && same a.sel b.sel && same a.cd b.cd && same a.io b.io
    && same a.msg b.msg && same a.req b.req && same a.ack b.ack && same a.atn b.atn && same a.rst b.rst

-- a line by its number, 1 where it is true: 0 to 7 are DB(0) to DB(7), 8 is DB(P), 9 to 17 are BSY, SEL, C/D, I/O, MSG,
-- REQ, ACK, ATN and RST
unfoldable pub line_of : ℕ → LineSet → ℕ
line_of line s =
    if nat_lt line 9 then bit_at s.data_bits line
    else if line == 9 then bit_value s.bsy 1
    else if line == 10 then bit_value s.sel 1
    else if line == 11 then bit_value s.cd 1
    else if line == 12 then bit_value s.io 1
    else if line == 13 then bit_value s.msg 1
    else if line == 14 then bit_value s.req 1
    else if line == 15 then bit_value s.ack 1
    else if line == 16 then bit_value s.atn 1
    else if line == 17 then bit_value s.rst 1
    else 0

-- DB(7-0) and DB(P) as one number
abbrev pub data_of : LineSet → ℕ
data_of s = s.data_bits

-- whether DB(P) is true with a byte: where its number of ones is even, so that the nine bits have odd parity
abbrev pub parity_of : ℕ → Bool
parity_of byte = count_ones byte % 2 == 0

-- a byte with its parity on the data lines
abbrev pub byte_set : ℕ → LineSet
byte_set byte = record none { data_bits = byte + bit_value (parity_of byte) 256 }

-- whether the nine data lines have odd parity
abbrev pub has_odd_parity : LineSet → Bool
has_odd_parity s = count_ones s.data_bits % 2 == 1

-- the ID bit of a device, without parity
abbrev pub id_set : ℕ → LineSet
id_set dev = record none { data_bits = 2 ^ dev }

-- the ID bits of two devices with their parity, as a selection has them: two ones are even, so DB(P) is true
abbrev pub ids_set : ℕ → ℕ → LineSet
ids_set a b = record none { data_bits = 2 ^ a + 2 ^ b + 256 }

-- how many of DB(7-0) are true
abbrev pub ids_in : LineSet → ℕ
ids_in s = count_ones (s.data_bits % 256)

-- whether the ID bit of a device is true
abbrev pub has_id : LineSet → ℕ → Bool
has_id s dev = bit_at s.data_bits dev == 1

-- whether an ID bit above that of a device is true
abbrev pub has_id_above : LineSet → ℕ → Bool
has_id_above s dev = nat_le (2 ^ (dev + 1)) (s.data_bits % 256)
