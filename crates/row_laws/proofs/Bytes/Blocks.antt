-- The command of each process of a scenario that obeys the rules of its text has the length of its group; and it, and
-- what the process sends, are bytes.
use Rattle.row_laws.proofs
use proofs.Names.{ℕ, zero, suc, ◌≡◌, Bool, true, false, List, [], ◌∷◌, Option, Some, None, Ok, refl, sym, ap, subst}
use proofs.Names.{◌∙◌, arith, ◌<◌, ◌+◌, same_Some, AllByRecursion, slice_index_or, if◌then◌else◌, ProcId, LineSet}
use proofs.Names.{is_message_out, is_command, AreBytes, has_group_len, bind_ok, ok_is, guard_ok, CmdSaid, sent_of}
use proofs.Names.{guard, in_8, time_in, tag_in, is_block, are_ends, cmd_def, ScenarioValue, IsHex, IsHexPayload, Obeys}
use proofs.Names.{CmdDef, Payload, Process, bytes_from, payload_bytes, command_at, sense_block, process_by, process_if}
use proofs.Names.{process_of, Item, process, abort, Speech, next_word, Sending, byte_to_send, RunState, item_of}
use proofs.{Names.{process_item, process_here, process_served, sending_by, sending_of}, Common.EachLine.{Any}}
use proofs.Common.EachLine.{each_line}

abbrev IsBlock : CmdDef → Type 0
IsBlock c = is_block c.cdb ≡ true

abbrev AreBlocks : ScenarioValue → Type 0
AreBlocks s = AllByRecursion IsBlock s.commands

-- ---- a line

block_read : (s : ScenarioValue) (f : CmdSaid) (c : CmdDef) → cmd_def s f ≡ Ok c → IsBlock c
unfolding cmd_def
block_read s f c e =
    let b1 = bind_ok (in_8 f.host) _ c e in
    let b2 = bind_ok (in_8 f.target) _ c b1.2 in
    let b3 = bind_ok (in_8 f.unit) _ c b2.2 in
    let b4 = bind_ok (time_in f.at) _ c b3.2 in
    let b5 = bind_ok (tag_in f.tag) _ c b4.2 in
    let b6 = bind_ok (guard 4 (is_block f.cdb)) _ c b5.2 in
    let b7 = bind_ok (guard 6 (are_ends s b1.0 b2.0)) _ c b6.2 in
    subst IsBlock (ok_is _ c b7.2) (guard_ok 4 _ b6.0 b6.1)

blocks_of : (s : ScenarioValue) → Obeys s → AreBlocks s
blocks_of s o = (each_line Any Any IsBlock Any
    (record { host = λ x f d e. tt; target = λ x f d e. tt; command = block_read; abort = λ x f d e. tt }) s o).commands

-- ---- a process

group_of : (bytes : List ℕ) → is_block bytes ≡ true → has_group_len bytes ≡ true
group_of [] e = cc
group_of (b ∷ bytes) e = e

at_number : (commands : List CmdDef) (m : ℕ) (c : CmdDef) → AllByRecursion IsBlock commands
    → command_at commands m ≡ Some c → IsBlock c
at_number [] m c a e = cc
at_number (d ∷ commands) zero c a e = cc
at_number (d ∷ commands) (suc zero) c a e = subst IsBlock (same_Some d c e) a.0
at_number (d ∷ commands) (suc (suc m)) c a e = at_number commands (suc m) c a.1 e

block_of_process : (s : ScenarioValue) (id : ProcId) (t : Process) → AreBlocks s → process_of s id ≡ Some t
    → has_group_len t.cdb ≡ true
block_of_process s id t a e = go (command_at s.commands id.command) refl e
  where
    own : (c : CmdDef) (sense : Bool) → IsBlock c
        → has_group_len (process_by s (record { command = id.command; sense = sense }) c).cdb ≡ true
    own c true b = refl
    own c false b = group_of c.cdb b

    go : (c : Option CmdDef) → command_at s.commands id.command ≡ c → process_if s id c ≡ Some t
        → has_group_len t.cdb ≡ true
    go None f g = cc
    go (Some c) f g = sym (ap (λ (q : Process). has_group_len q.cdb) (same_Some (process_by s id c) t g))
        ∙ own c id.sense (at_number s.commands id.command c a f)

-- ---- its bytes

abbrev IsHexLine : CmdDef → Type 0
IsHexLine c = IsHex c.cdb × IsHexPayload c.payload

line_at : (commands : List CmdDef) (m : ℕ) (c : CmdDef) → AllByRecursion IsHexLine commands
    → command_at commands m ≡ Some c → IsHexLine c
line_at [] m c a e = cc
line_at (d ∷ commands) zero c a e = cc
line_at (d ∷ commands) (suc zero) c a e = subst IsHexLine (same_Some d c e) a.0
line_at (d ∷ commands) (suc (suc m)) c a e = line_at commands (suc m) c a.1 e

from_first : (first m : ℕ) → AreBytes (bytes_from first m)
from_first first zero = tt
from_first first (suc m) = (omega arith, from_first (first + 1) m)

payload_small : (x : Payload) (m : ℕ) → IsHexPayload x → AreBytes (payload_bytes x m)
payload_small Payload.Nothing m h = tt
payload_small (Payload.Hex bytes) m h = h.0
payload_small (Payload.From first) m h = from_first first m

pub byte_small : (bytes : List ℕ) (m : ℕ) → AreBytes bytes → slice_index_or bytes m 0 < 256
byte_small [] m h = omega arith
byte_small (b ∷ bytes) zero h = h.0
byte_small (b ∷ bytes) (suc m) h = byte_small bytes m h.1

abbrev pub HasBytes : Process → Type 0
HasBytes c = AreBytes c.cdb × AreBytes c.sent

pub bytes_of_process : (s : ScenarioValue) (id : ProcId) (t : Process) → Obeys s → process_of s id ≡ Some t → HasBytes t
bytes_of_process s id t o e = go (command_at s.commands id.command) refl e
  where
    sense : AreBytes sense_block
    sense = (omega arith, (omega arith, (omega arith, (omega arith, (omega arith, (omega arith, tt))))))

    own : (c : CmdDef) (q : Bool) → IsHexLine c → HasBytes (process_by s (record { command = id.command; sense = q }) c)
    own c true h = (sense, tt)
    own c false h = (h.0.0, payload_small c.payload (sent_of s c) h.1)

    go : (c : Option CmdDef) → command_at s.commands id.command ≡ c → process_if s id c ≡ Some t → HasBytes t
    go None f g = cc
    go (Some c) f g = subst HasBytes (same_Some (process_by s id c) t g)
        (own c id.sense (line_at s.commands id.command c o.commands f))

-- ---- the process of a connection

-- The command of any process that is served has the length of its group; and what a process sends are bytes.
pub record HasCommands (s : ScenarioValue) : Type 0 where
  pub group : (k : RunState) (c : Process) → process_served s k ≡ Some c → has_group_len c.cdb ≡ true
  pub bytes : (k : RunState) (c : Process) → process_here s k ≡ Some c → HasBytes c

pub commands_are : (s : ScenarioValue) → Obeys s → HasCommands s
commands_are s o = record { group = λ k c. served k.served c; bytes = λ k c. here (item_of k.story.link) c }
  where
    served : (i : Option Item) (c : Process) → process_item s i ≡ Some c → has_group_len c.cdb ≡ true
    served None c f = cc
    served (Some (process id)) c f = block_of_process s id c (blocks_of s o) f
    served (Some (abort n)) c f = cc

    here : (i : Option Item) (c : Process) → process_item s i ≡ Some c → HasBytes c
    here None c f = cc
    here (Some (process id)) c f = bytes_of_process s id c o f
    here (Some (abort n)) c f = cc

-- So what the initiator is due to give is a byte, but in MESSAGE OUT.
pub sends_bytes : (s : ScenarioValue) (k : RunState) (bus : LineSet) (x : Speech) → HasCommands s
    → (is_message_out bus ≡ true → next_word x < 256) → byte_to_send bus x (sending_of s k) < 256
sends_bytes s k bus x h words = go (is_message_out bus) (is_command bus) words
  where
    own : (o : Option Process) → process_here s k ≡ o → AreBytes (sending_by k o).cdb × AreBytes (sending_by k o).sent
    own None e = (tt, tt)
    own (Some c) e = h.bytes k c e

    o : Sending
    o = sending_of s k

    go : (a b : Bool) → (a ≡ true → next_word x < 256)
        → (if a then next_word x else if b then slice_index_or o.cdb o.command 0 else slice_index_or o.sent o.moved 0)
        < 256
    go true b w = w refl
    go false true w = byte_small o.cdb o.command (own (process_here s k) refl).0
    go false false w = byte_small o.sent o.moved (own (process_here s k) refl).1
