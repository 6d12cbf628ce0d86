-- A command gives no more bytes than it moves at the line of its unit, and a write gives none (7.3, 8.2, 9.2).
use Rattle.right_laws.proofs
use proofs.Names.{ℕ, ◌≡◌, ◌≤◌, ◌+◌, ◌*◌, ◌-◌, Bool, true, false, ◌&&◌, ◌∙◌, List, [], length, take, Option, Some, None}
use proofs.Names.{Result, Ok, Err, refl, sym, ap, subst, arith, and_parts, length-take, if◌then◌else◌, min, nat_le}
use proofs.Names.{nat_lt, is_some, writes_alike, blocks_moved, command_of, inquiry_data, sense_data, tape_command_of}
use proofs.Names.{Sense, CdbFault, Command, INQUIRY, INQUIRY_LEN, SENSE_LEN, TapeCommand, plain_need, has_target}
use proofs.Names.{unit_of, is_tape, is_write, moved_by, need_of, need_at, tape_moved_by, ScenarioValue, CmdDef, UnitDef}
use proofs.Names.{of_all, on_tape, HasWholeReel, tape_few, most_at_tape, AreWhole, Contents, bytes_at, no_contents}
use proofs.Names.{is_reeled, CommandContext, Reply, command_execution, execution, invalid_field, is_good_range}
use proofs.Names.{is_opcode, range_of, returned_sense, unit_not_supported, Process, Reel, contents_of, context_at}
use proofs.Names.{Array, UnitState, nexus_of, sense_of_nexus, unit_state_at, length_bytes, replies, none_tape}
use proofs.Names.{absent_reply_by, data_or_refusal, inquiry_room, sense_room, AreOfLines, IsOfLine, AreOfKinds}
use proofs.{Names.{IsOfKind}, Replies.Blocks.{HasWhole, HasWholeBlocks}}

-- What a command may give at the line of its unit, a tape, or a disk or none.
abbrev pub most_given : Bool → List ℕ → Option UnitDef → ℕ
most_given tape cdb o = if is_write (command_of cdb) then 0 else need_at tape cdb o

-- As a disk reads the block.
abbrev disk_most : Result Command CdbFault → Option UnitDef → ℕ
disk_most r o = if is_write r then 0 else moved_by r o

pub none_few : (most : ℕ) → 0 ≤ most
none_few most = omega arith

data_few : (room most : ℕ) (bytes : List ℕ) → length (take (min room most) bytes) ≤ min room most
data_few room most bytes = let long = length-take (min room most) bytes in omega (arith, long)

-- ---- a unit that is absent

inquired_few : (r : Result Command CdbFault) (bytes : List ℕ) (sense : Sense)
    → length (data_or_refusal (inquiry_room r) INQUIRY_LEN bytes sense).bytes ≤ disk_most r None
inquired_few (Ok (Command.Inquiry room)) bytes sense = data_few room INQUIRY_LEN bytes
inquired_few (Ok Command.TestUnitReady) bytes sense = none_few 0
inquired_few (Ok (Command.RequestSense room)) bytes sense = none_few (min room SENSE_LEN)
inquired_few (Ok (Command.Read6 lba count)) bytes sense = none_few 0
inquired_few (Ok (Command.Write6 lba count)) bytes sense = none_few 0
inquired_few (Ok Command.ReadCapacity) bytes sense = none_few 0
inquired_few (Ok (Command.Read10 lba count)) bytes sense = none_few 0
inquired_few (Ok (Command.Write10 lba count)) bytes sense = none_few 0
inquired_few (Err fault) bytes sense = none_few 0

sensed_few : (r : Result Command CdbFault) (bytes : List ℕ) (sense : Sense)
    → length (data_or_refusal (sense_room r) SENSE_LEN bytes sense).bytes ≤ disk_most r None
sensed_few (Ok (Command.RequestSense room)) bytes sense = data_few room SENSE_LEN bytes
sensed_few (Ok Command.TestUnitReady) bytes sense = none_few 0
sensed_few (Ok (Command.Inquiry room)) bytes sense = none_few (min room INQUIRY_LEN)
sensed_few (Ok (Command.Read6 lba count)) bytes sense = none_few 0
sensed_few (Ok (Command.Write6 lba count)) bytes sense = none_few 0
sensed_few (Ok Command.ReadCapacity) bytes sense = none_few 0
sensed_few (Ok (Command.Read10 lba count)) bytes sense = none_few 0
sensed_few (Ok (Command.Write10 lba count)) bytes sense = none_few 0
sensed_few (Err fault) bytes sense = none_few 0

absent_few : (stored : Option Sense) (inquires : Bool) (r : Result Command CdbFault)
    → length (absent_reply_by stored inquires r).bytes ≤ disk_most r None
absent_few stored true r = inquired_few r (inquiry_data false) invalid_field
absent_few stored false r = sensed_few r (sense_data (returned_sense false stored)) unit_not_supported

-- ---- a unit that is there

read_few : (c : Contents) (u : UnitDef) (lba m : ℕ) → c.count ≡ u.blocks → c.size ≡ u.size
    → AreWhole c → (nat_lt lba c.count && nat_le (lba + m) c.count) ≡ true
    → length (bytes_at c lba m) ≤ (if nat_le (lba + m) u.blocks then m * u.size else 0)
read_few c u lba m count size whole e = subst (λ (q : Bool). length (bytes_at c lba m) ≤ (if q then m * u.size else 0))
    (sym inside) (few (length (bytes_at c lba m)) (m * u.size) long)
  where
    few : (a b : ℕ) → a ≡ b → a ≤ b
    few a b f = omega (arith, f)

    long : length (bytes_at c lba m) ≡ m * u.size
    long = length_bytes c whole lba m ∙ ap (λ (x : ℕ). m * x) size

    inside : nat_le (lba + m) u.blocks ≡ true
    inside =
        ap (λ (x : ℕ). nat_le (lba + m) x) (sym count) ∙ (and_parts (nat_lt lba c.count) (nat_le (lba + m) c.count) e).1

-- The unit is the one of this line, and its blocks are whole.
record MeetsLine (m : CommandContext) (u : UnitDef) (tape : Bool) : Type 0 where
  count : m.contents.count ≡ u.blocks
  size : m.contents.size ≡ u.size
  whole : AreWhole m.contents
  reel : HasWholeReel m.contents
  kind : is_reeled m.contents ≡ tape

-- A tape reads a write where a disk does, and gives at most what it needs.
tape_most : (cdb : List ℕ) (c : TapeCommand) (u : UnitDef) → tape_command_of cdb ≡ Ok c
    → most_given true cdb (Some u) ≡ most_at_tape c u
tape_most cdb c u is = λ i. if writes_alike cdb c is i then 0 else tape_moved_by (is i) (Some u)

command_few : (m : CommandContext) (u : UnitDef) {tape : Bool} (c : Command) (sent : List ℕ)
    → MeetsLine m u tape → is_good_range m.contents.count (range_of c) ≡ true
    → length (command_execution m c sent).reply.bytes ≤ disk_most (Ok c) (Some u)
command_few m u (Command.RequestSense room) sent h e =
    data_few room SENSE_LEN (sense_data (returned_sense m.present m.stored))
command_few m u (Command.Read6 lba count) sent h e =
    read_few m.contents u lba (blocks_moved (Command.Read6 lba count)) h.count h.size h.whole e
command_few m u (Command.Inquiry room) sent h e = data_few room INQUIRY_LEN (inquiry_data m.present)
command_few m u Command.ReadCapacity sent h e = omega arith
command_few m u (Command.Read10 lba count) sent h e = read_few m.contents u lba count h.count h.size h.whole e
command_few m u _ sent h e = none_few 0

execution_few : (m : CommandContext) (u : UnitDef) (tape : Bool) (cdb sent : List ℕ) → MeetsLine m u tape
    → length (execution m cdb sent).reply.bytes ≤ most_given tape cdb (Some u)
execution_few m u tape cdb sent h =
    of_all m cdb sent (λ x. length x.reply.bytes ≤ most_given tape cdb (Some u)) (record {
      refused_is = λ sense k. none_few (most_given tape cdb (Some u));
      reported_is = λ sense a. none_few (most_given tape cdb (Some u));
      disk_is = λ c d is g. subst (λ (x : ℕ). length (command_execution m c sent).reply.bytes ≤ x) (sym
          ((λ i. most_given (kind d i) cdb (Some u)) ∙ ap (λ (r : Result Command CdbFault). disk_most r (Some u)) is))
          (command_few m u c sent h g);
      tape_is = λ r c d is. subst (λ (x : ℕ). length (on_tape m r c sent).reply.bytes ≤ x)
          (sym ((λ i. most_given (reel d i) cdb (Some u)) ∙ tape_most cdb c u is))
          (tape_few m r c sent u d h.size h.reel);
    })
  where
    kind : m.contents.reel ≡ None → tape ≡ false
    kind d = sym h.kind ∙ ap (λ (o : Option Reel). is_some o) d

    reel : {r : Reel} → m.contents.reel ≡ Some r → tape ≡ true
    reel d = sym h.kind ∙ ap (λ (o : Option Reel). is_some o) d

-- ---- at its unit of the array

pub given_few : (s : ScenarioValue) (a : Array) (c : Process) → AreOfLines s a → AreOfKinds s a → HasWhole a
    → length (execution (context_at a (nexus_of c) (unit_state_at a.units c.target c.unit)) c.cdb c.sent).reply.bytes
    ≤ most_given (is_tape s c.target c.unit) c.cdb (unit_of s c.target c.unit)
given_few s a c lines kinds whole = go (unit_of s c.target c.unit) refl (unit_state_at a.units c.target c.unit)
    (lines c.target c.unit) (kinds c.target c.unit) (whole c.target c.unit)
  where
    stored : Option Sense
    stored = sense_of_nexus a.senses (nexus_of c)

    attention : Option Sense
    attention = sense_of_nexus a.attentions (nexus_of c)

    absent :
        length (execution (record { present = false; contents = no_contents; stored = stored; attention = attention })
        c.cdb c.sent).reply.bytes ≤ disk_most (command_of c.cdb) None
    absent = subst (λ (r : Reply). length r.bytes ≤ disk_most (command_of c.cdb) None)
        (sym (replies stored attention no_contents refl c.cdb c.sent))
        (absent_few stored (is_opcode c.cdb INQUIRY) (command_of c.cdb))

    go : (o : Option UnitDef) → unit_of s c.target c.unit ≡ o → (x : Option UnitState) → IsOfLine o x
        → IsOfKind (is_tape s c.target c.unit) x → HasWholeBlocks (contents_of x)
        → length (execution (context_at a (nexus_of c) x) c.cdb c.sent).reply.bytes
        ≤ most_given (is_tape s c.target c.unit) c.cdb o
    go None e None h k w =
        subst (λ (tape : Bool). length (execution (context_at a (nexus_of c) None) c.cdb c.sent).reply.bytes
        ≤ most_given tape c.cdb None) (sym (none_tape s c.target c.unit e)) absent
    go None e (Some v) h k w = absurd h
    go (Some u) e None h k w = absurd h
    go (Some u) e (Some v) h k w = execution_few (context_at a (nexus_of c) (Some v)) u (is_tape s c.target c.unit)
        c.cdb c.sent (record { count = h.0; size = h.1; whole = w.blocks; reel = w.reel; kind = k })
