-- What is set aside for what is still to come. All weights are in rows; each is wide on purpose, for what is paid from
-- it is easier to see with room to spare. What follows a thing is paid from that thing's weight, and in advance: an
-- arbitration by whoever frees the bus, a phase by the one before it.
use Rattle.std.specs.Prelude.{ℕ, ◌+◌, ◌*◌}
use Rattle.due_model.specs.scenario.specs.Value.{ScenarioValue}
use Rattle.due_model.specs.story_model.specs.Budget.{longest_need}

-- A free bus: the arbitration that comes next, in which each of eight devices enters once, and what the calling after
-- it needs, whether it is answered or not. With the first entry 16 are left and one for each of the seven devices that
-- are idle.
abbrev pub for_free_bus : ℕ
for_free_bus = 40

-- One calling more that is not answered: what it takes itself, and a free bus after it.
abbrev pub for_calling : ℕ
for_calling = 64

-- A phase of messages, of COMMAND or of STATUS: the row that turns to it, twelve bytes at most (96), and ten rows that
-- may be under way as it begins.
abbrev pub for_phase : ℕ
for_phase = 128

-- A byte: REQ and ACK rise and fall, and the initiator drives it and lets it go; that is six rows, and by pulses none
-- more.
abbrev pub for_byte : ℕ
for_byte = 8

-- A reselection, and all of its connection but the data: four phases at most (MESSAGE IN, DATA, STATUS and MESSAGE IN),
-- and a free bus.
abbrev pub for_reselection : ℕ
for_reselection = 1024

-- The connection in which an item is sent (a command, its automatic REQUEST SENSE, an abort): eight phases at most, a
-- reselection where the command has to wait for its unit, and a free bus.
abbrev pub for_item : ℕ
for_item = 4096

-- What a phase in which a byte was struck calls for: its bytes once more, which are no more than the longest need of a
-- command or those of an automatic REQUEST SENSE, and the messages by which the two ends agree on it.
abbrev pub for_struck_phase : ScenarioValue → ℕ
for_struck_phase s = for_byte * longest_need s s.commands + 8 * for_phase

-- A fault: the phase that it strikes; or the calling that it strikes, which is made again.
abbrev pub for_fault : ScenarioValue → ℕ
for_fault s = for_struck_phase s + 2 * for_calling

-- A reset: the row that raises RST, eight devices that let their lines go under it, and a free bus after it.
abbrev pub for_reset : ℕ
for_reset = 64
