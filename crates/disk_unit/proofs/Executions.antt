-- A disk or a tape and what is kept for an initiator make one execution of the plain disk array.
use Rattle.std.proofs.Common.{ℕ, ◌≡◌, Bool, true, false, List, [], refl, Option, Some, None, ◌∙◌}
use Rattle.std.specs.Prelude.{if◌then◌else◌}
use Rattle.cdb_codec.specs.declared.Sense.{Sense}
use Rattle.cdb_codec.specs.Cdb.{command_of}
use Rattle.array_model.specs.Contents.{Contents}
use Rattle.array_model.specs.Execution.{CommandContext, execution, check_condition, is_request_sense, heeds_attention}
use Rattle.disk_unit.specs.Disk.{disk_context}
use Rattle.disk_unit.specs.Held.{held_execution, held_reply}
use Rattle.disk_unit.specs.Units.{is_reported, reply_with}
use Rattle.array_model.proofs.Executed.{reported_executed}
use Rattle.array_model.proofs.ExecutionFacts.{stored_apart, sent_apart, attention_apart, unreported}

abbrev pub unit_context : Contents → Option Sense → Option Sense → CommandContext
unit_context c stored attention = record { present = true; contents = c; stored = stored; attention = attention }

-- No attention is pending.
plainly : (c : Contents) (stored : Option Sense) (cdb sent : List ℕ) → is_request_sense (command_of cdb) ≡ false
    → execution (unit_context c stored None) cdb sent
    ≡ record { contents = (held_execution c cdb sent).contents; reported = false; reply = held_reply c cdb }
plainly c stored cdb sent h =
    stored_apart (disk_context c) stored cdb sent h
    ∙ (λ i. record {
      contents = (held_execution c cdb sent).contents;
      reported = unreported (disk_context c) cdb sent refl i;
      reply = sent_apart (disk_context c) cdb sent [] i;
    })

pub executed : (c : Contents) (stored attention : Option Sense) (cdb sent : List ℕ)
    → is_request_sense (command_of cdb) ≡ false → execution (unit_context c stored attention) cdb sent ≡ record {
      contents =
          if is_reported attention cdb then c else (held_execution c cdb sent).contents;
      reported = is_reported attention cdb;
      reply = reply_with attention cdb (held_reply c cdb);
    }
executed c stored None cdb sent h = plainly c stored cdb sent h
executed c stored (Some a) cdb sent h = go (heeds_attention cdb) refl
  where
    go : (x : Bool) → heeds_attention cdb ≡ x → execution (unit_context c stored (Some a)) cdb sent ≡ record {
      contents =
          if x then c else (held_execution c cdb sent).contents;
      reported = x;
      reply =
          if x then check_condition a else held_reply c cdb;
    }
    go true e = reported_executed (unit_context c stored (Some a)) cdb sent a refl refl e
    go false e = attention_apart (unit_context c stored (Some a)) cdb sent h e ∙ plainly c stored cdb sent h
