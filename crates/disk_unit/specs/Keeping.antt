-- What a unit keeps for each initiator, as the seat of the plain disk array has it.
use Rattle.std.specs.Prelude.{ℕ, ◌≡◌, ◌<◌, ◌==◌, ◌&&◌, true, false, List, length, None, slice_index_or, if◌then◌else◌}
use Rattle.cdb_codec.specs.declared.status.TheConstants.{GOOD, CHECK_CONDITION}
use Rattle.cdb_codec.specs.Cdb.{command_of}
use Rattle.array_model.specs.scenario.specs.declared.value.HostDef.{HostDef}
use Rattle.array_model.specs.Processes.{Process}
use Rattle.array_model.specs.Execution.{Reply, is_request_sense}
use Rattle.array_model.specs.Seats.{Seat, is_initiator}
use Rattle.disk_unit.specs.Books.{UnitBooks, books_with_sense, books_without_sense}

-- The books have the senses, the attentions and the hold of the seat. A unit has a place for each of eight initiators,
-- and the array tells of a reset the initiators of the scenario alone, so that attentions are said of those.
pub record IsKeptAt (hosts : List HostDef) (seat : Seat) (b : UnitBooks) : Type 0 where
  pub eight_senses : length b.senses ≡ 8
  pub eight_attentions : length b.attentions ≡ 8
  pub eight_held : length b.queue.hold ≡ 8
  pub senses : (dev : ℕ) → dev < 8 → slice_index_or b.senses dev None ≡ seat.senses dev
  pub attentions : (dev : ℕ) → dev < 8 → is_initiator hosts dev ≡ true
      → slice_index_or b.attentions dev None ≡ seat.attentions dev
  pub hold : (dev : ℕ) → dev < 8 → slice_index_or b.queue.hold dev false ≡ seat.hold dev

-- CHECK CONDITION stores its sense and puts the initiator into the hold; a REQUEST SENSE that ends GOOD takes both
-- away.
abbrev pub books_after_status : UnitBooks → Process → Reply → UnitBooks
books_after_status b p reply =
    if reply.status == CHECK_CONDITION then books_with_sense b p.initiator reply.sense
    else if reply.status == GOOD && is_request_sense (command_of p.cdb) then books_without_sense b p.initiator
    else b
