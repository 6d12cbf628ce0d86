-- What an initiator sends of the process of its connection gives the bytes that the scenario has it send.
use Rattle.std.proofs.Common.{ℕ, suc, zero, ◌≡◌, ◌==◌, ◌∙◌, ◌≤◌, ◌-◌, ◌^◌, min, Bool, true, false, List, [], ◌∷◌, refl}
use Rattle.std.proofs.Common.{length, Option, Some, None, arith}
use Rattle.std.specs.Prelude.{if◌then◌else◌, slice_index_or}
use Rattle.std.proofs.Math.Nat.{min-eq_left}
use Rattle.bus_base.specs.declared.ProcId.{ProcId}
use Rattle.bus_trace.specs.LineSet.{LineSet}
use Rattle.bus_trace.specs.Phases.{is_message_out, is_command}
use Rattle.scenario.specs.declared.value.CmdDef.{CmdDef}
use Rattle.scenario.specs.Needs.{sent_of, sent_count}
use Rattle.scenario.specs.Value.{ScenarioValue}
use Rattle.due_model.specs.array_model.specs.Processes.{payload_bytes, command_at, command_process, sense_block}
use Rattle.due_model.specs.array_model.specs.Processes.{process_by, process_if, sense_process}
use Rattle.due_model.specs.array_model.proofs.SeatLookups.{never_first}
use Rattle.story_model.specs.Items.{Item, process, abort, is_of_host}
use Rattle.due_model.specs.dialogue_model.specs.Exchange.{Speech, next_word}
use Rattle.due_model.specs.dialogue_model.specs.Sending.{byte_to_send}
use Rattle.due_model.specs.RunState.{RunState, process_item, carried_here}
use Rattle.due_model.specs.Sights.{sending_by}
use Rattle.due_model.specs.Telling.{id_of}
use Rattle.initiator_books.specs.scsi_device.specs.Lines.{IsCommandLine}
use Rattle.initiator_books.specs.scsi_device.proofs.Places.{held_place}
use Rattle.initiator_books.specs.scsi_device.proofs.SentBytes.{sent_few}
use Rattle.initiator.specs.OwnBytes.{CommandBytesValue, no_bytes, sense_bytes, bytes_of_command, bytes_if_own}
use Rattle.initiator.specs.OwnBytes.{bytes_of_commands, own_bytes, sending_from}
use Rattle.initiator.specs.States.{AreSameBytes}
use Rattle.initiator.specs.Transfers.{active_of}
use Rattle.initiator_books.specs.Wishes.{IsItemIf}

-- ---- the bytes of a command of its own

bytes_at : (s : ScenarioValue) (dev : ℕ) (commands : List CmdDef) (n : ℕ) (c : CmdDef)
    → command_at commands n ≡ Some c → (c.host == dev) ≡ true
    → slice_index_or (no_bytes ∷ bytes_of_commands s dev commands) n no_bytes ≡ bytes_of_command s c
bytes_at s dev commands zero c e own = absurd (never_first commands c e)
bytes_at s dev [] (suc n) c e own = cc
bytes_at s dev (d ∷ commands) (suc zero) c e own =
    let same : d ≡ c = some_is d c e in
    (λ i. bytes_if_own s dev (same i)) ∙ (λ i. if own i then bytes_of_command s c else no_bytes)
  where
    some_is : (d c : CmdDef) → Some d ≡ Some c → d ≡ c
    some_is d c e = cc
bytes_at s dev (d ∷ commands) (suc (suc n)) c e own = bytes_at s dev commands (suc n) c e own

count_is : (s : ScenarioValue) (c : CmdDef) → IsCommandLine s c → sent_count s c ≡ sent_of s c
count_is s c l = min-eq_left (below (sent_of s c) (sent_few s c l.need))
  where
    below : (n : ℕ) → n ≤ 65536 → n ≤ 2 ^ 32 - 1
    below n h = omega arith

-- ---- the byte at a place, which is held at the last place of 32 bits

abbrev most : ℕ
most = 0xffffffff

byte_is : (bus : LineSet) (p : Speech) (cdb sent : List ℕ) (command moved : ℕ) → length cdb ≤ most → length sent ≤ most
    → byte_to_send bus p (record { cdb = cdb; sent = sent; command = min command most; moved = min moved most })
    ≡ byte_to_send bus p (record { cdb = cdb; sent = sent; command = command; moved = moved })
byte_is bus p cdb sent command moved x y = λ i. if is_message_out bus then next_word p
    else if is_command bus then held_place cdb command most x i else held_place sent moved most y i

block_within : (n : ℕ) → n ≤ 10 → n ≤ most
block_within n h = omega arith

sent_is_within : (n k : ℕ) → n ≡ k → k ≤ 65536 → n ≤ most
sent_is_within n k e h = omega arith

few : (n : ℕ) → n ≡ 6 → n ≤ most
few n e = omega arith

none_within : 0 ≤ most
none_within = omega arith

-- ---- of the process of its connection

of_command : (s : ScenarioValue) (k : RunState) (dev : ℕ) (id : ProcId) (c : CmdDef)
    → IsCommandLine s c → command_at s.commands id.command ≡ Some c → (c.host == dev) ≡ true
    → AreSameBytes (sending_from (own_bytes s dev) (Some id) (active_of k (Some id)))
    (sending_by k (Some (process_by s id c)))
of_command s k dev id c l e own = λ bus p. go bus p id.sense
  where
    command : ℕ
    command = (carried_here k id).command.active

    moved : ℕ
    moved = (carried_here k id).moved.active

    go : (bus : LineSet) (p : Speech) (sense : Bool) → (let v : CommandBytesValue =
        if sense then sense_bytes else slice_index_or (own_bytes s dev) id.command no_bytes in
        byte_to_send bus p (record { cdb = v.cdb; sent = v.sent; command = min command most; moved = min moved most }))
        ≡ byte_to_send bus p (sending_by k (Some (if sense then sense_process s id c else command_process s id c)))
    go bus p true = byte_is bus p sense_block [] command moved (few 6 refl) none_within
    go bus p false = (λ i. byte_to_send bus p (record {
      cdb = (bytes_at s dev s.commands id.command c e own i).cdb;
      sent = (bytes_at s dev s.commands id.command c e own i).sent;
      command = min command most;
      moved = min moved most;
    })) ∙ (λ i. byte_to_send bus p (record {
      cdb = c.cdb;
      sent = payload_bytes c.payload (count_is s c l i);
      command = min command most;
      moved = min moved most;
    }))
        ∙ byte_is bus p c.cdb (payload_bytes c.payload (sent_of s c)) command moved
        (block_within (length c.cdb) l.most_block)
        (sent_is_within (length (payload_bytes c.payload (sent_of s c))) (sent_of s c) l.sent (sent_few s c l.need))

pub sendings_are : (s : ScenarioValue) (k : RunState) (dev : ℕ) (item : Option Item)
    → ((n : ℕ) (c : CmdDef) → command_at s.commands n ≡ Some c → IsCommandLine s c) → IsItemIf s dev item
    → AreSameBytes (sending_from (own_bytes s dev) (id_of item) (active_of k (id_of item)))
    (sending_by k (process_item s item))
sendings_are s k dev None lines own = λ bus p. refl
sendings_are s k dev (Some (abort n)) lines own = λ bus p. refl
sendings_are s k dev (Some (process id)) lines own = go (command_at s.commands id.command) refl own
  where
    go : (d : Option CmdDef) → command_at s.commands id.command ≡ d → is_of_host d dev ≡ true
        → AreSameBytes (sending_from (own_bytes s dev) (Some id) (active_of k (Some id)))
        (sending_by k (process_if s id d))
    go None e own = cc
    go (Some c) e own = of_command s k dev id c (lines id.command c e) e own
