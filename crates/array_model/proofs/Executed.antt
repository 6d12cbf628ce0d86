-- How a command comes out at the unit that it meets, in four ways: a check fails, an attention is reported, a disk
-- carries it out, or a tape does (7.3, 7.9, 8.2.14, 9.2, 10.2). Lemmas split this view, and not the tests of
-- `execution`; a further kind of unit is a further way.
use Rattle.std.proofs.Common.{ℕ, ◌≡◌, true, false, not, ◌&&◌, ◌∙◌, List, Option, Some, None, inl, inr, refl, sym, subst}
use Rattle.std.specs.Prelude.{Result, Ok, Err, if◌then◌else◌}
use Rattle.std.proofs.lemmas.Bool.{cases_Bool}
use Rattle.cdb_codec.specs.Cdb.{command_of}
use Rattle.cdb_codec.specs.declared.Sense.{Sense}
use Rattle.cdb_codec.specs.declared.command.CdbFault.{CdbFault}
use Rattle.cdb_codec.specs.declared.command.CdbFault.TheVariants as faults
use Rattle.cdb_codec.specs.declared.command.Command.{Command}
use Rattle.cdb_codec.specs.declared.tape_command.TapeCommand.{TapeCommand}
use Rattle.cdb_codec.specs.TapeCdb.{tape_command_of}
use Rattle.array_model.specs.Execution.{CommandContext, Execution, Reply, execution, attention_execution, cdb_execution}
use Rattle.array_model.specs.Execution.{command_execution, reply_execution, check_condition, heeds_attention}
use Rattle.array_model.specs.Execution.{needs_unit}
use Rattle.array_model.specs.Execution.{is_good_range, range_of, block_out_of_range, invalid_opcode, invalid_field}
use Rattle.array_model.specs.Execution.{unit_not_supported, unit_execution, reel_execution, tape_in, returned_sense}
use Rattle.array_model.specs.Reels.{Reel}
use Rattle.array_model.specs.TapeExecution.{tape_execution, tape_cdb_execution, unmoved}

pub none_some : {A B : Type 0} (x : A) → (let o : Option A = None in o) ≡ Some x → B
none_some x e = absurd cc

-- The same unit, where this sense is stored for the initiator.
abbrev pub storing : CommandContext → Option Sense → CommandContext
storing m x = record m { stored = x }

-- What reports an attention: nothing else is done (7.9).
abbrev pub report_execution : CommandContext → Sense → Execution
report_execution m sense = record { contents = m.contents; reported = true; reply = check_condition sense }

-- The sense of a fault of the command descriptor block (8.2.14.3).
abbrev pub sense_of_fault : CdbFault → Sense
sense_of_fault faults.Opcode = invalid_opcode
sense_of_fault faults.Length = invalid_field
sense_of_fault faults.Field = invalid_field

-- Its unit is there, if it needs one, and no attention is pending that it heeds: so its command descriptor block is
-- looked at.
pub record Passes (m : CommandContext) (cdb : List ℕ) : Type 0 where
  pub there : (not m.present && needs_unit cdb) ≡ false
  pub calm : (sense : Sense) → m.attention ≡ Some sense → heeds_attention cdb ≡ false

-- The check that fails, with its sense.
pub data IsRefused (m : CommandContext) (cdb : List ℕ) : Sense → Type 0 where
  absent : (not m.present && needs_unit cdb) ≡ true → IsRefused m cdb unit_not_supported
  faulty : (fault : CdbFault) → m.contents.reel ≡ None → Passes m cdb → command_of cdb ≡ Err fault
      → IsRefused m cdb (sense_of_fault fault)
  outside : (c : Command) → m.contents.reel ≡ None → Passes m cdb → command_of cdb ≡ Ok c
      → is_good_range m.contents.count (range_of c) ≡ false → IsRefused m cdb block_out_of_range
  faulty_at_tape : (r : Reel) (fault : CdbFault) → m.contents.reel ≡ Some r → Passes m cdb
      → tape_command_of cdb ≡ Err fault → IsRefused m cdb (sense_of_fault fault)

-- ---- which way it is

-- The unit is absent, and the command needs it.
pub absent_executed : (m : CommandContext) (cdb sent : List ℕ) → (not m.present && needs_unit cdb) ≡ true
    → execution m cdb sent ≡ reply_execution m (check_condition unit_not_supported)
absent_executed m cdb sent e = λ i. if e i then reply_execution m (check_condition unit_not_supported)
    else attention_execution m m.attention cdb sent

-- An attention is pending that it heeds.
pub reported_executed : (m : CommandContext) (cdb sent : List ℕ) (sense : Sense)
    → (not m.present && needs_unit cdb) ≡ false → m.attention ≡ Some sense → heeds_attention cdb ≡ true
    → execution m cdb sent ≡ report_execution m sense
reported_executed m cdb sent sense e a h =
    (λ i. if e i then reply_execution m (check_condition unit_not_supported) else attention_execution m (a i) cdb sent)
    ∙ (λ i. if h i then report_execution m sense else unit_execution m m.contents.reel cdb sent)

passed : (m : CommandContext) (cdb sent : List ℕ) → Passes m cdb
    → execution m cdb sent ≡ unit_execution m m.contents.reel cdb sent
passed m cdb sent p = (λ i. if p.there i then reply_execution m (check_condition unit_not_supported)
    else attention_execution m m.attention cdb sent) ∙ past m.attention refl
  where
    past : (o : Option Sense) → m.attention ≡ o
        → attention_execution m o cdb sent ≡ unit_execution m m.contents.reel cdb sent
    past None e = refl
    past (Some a) e = λ i. if p.calm a e i then report_execution m a else unit_execution m m.contents.reel cdb sent

disk_passed : (m : CommandContext) (cdb sent : List ℕ) → m.contents.reel ≡ None → Passes m cdb
    → execution m cdb sent ≡ cdb_execution m (command_of cdb) sent
disk_passed m cdb sent d p = passed m cdb sent p ∙ (λ i. unit_execution m (d i) cdb sent)

-- Its command descriptor block has a fault.
pub faulty_executed : (m : CommandContext) (cdb sent : List ℕ) (fault : CdbFault) → m.contents.reel ≡ None
    → Passes m cdb → command_of cdb ≡ Err fault
    → execution m cdb sent ≡ reply_execution m (check_condition (sense_of_fault fault))
faulty_executed m cdb sent fault d p e = disk_passed m cdb sent d p ∙ (λ i. cdb_execution m (e i) sent) ∙ by fault
  where
    by : (f : CdbFault) → cdb_execution m (Err f) sent ≡ reply_execution m (check_condition (sense_of_fault f))
    by faults.Opcode = refl
    by faults.Length = refl
    by faults.Field = refl

-- It names blocks that are not the unit's.
pub outside_executed : (m : CommandContext) (cdb sent : List ℕ) (c : Command) → m.contents.reel ≡ None → Passes m cdb
    → command_of cdb ≡ Ok c → is_good_range m.contents.count (range_of c) ≡ false
    → execution m cdb sent ≡ reply_execution m (check_condition block_out_of_range)
outside_executed m cdb sent c d p e g =
    disk_passed m cdb sent d p
    ∙ (λ i. cdb_execution m (e i) sent)
    ∙ (λ i. if g i then command_execution m c sent else reply_execution m (check_condition block_out_of_range))

-- Otherwise a disk carries it out.
pub carried_executed : (m : CommandContext) (cdb sent : List ℕ) (c : Command) → m.contents.reel ≡ None → Passes m cdb
    → command_of cdb ≡ Ok c → is_good_range m.contents.count (range_of c) ≡ true
    → execution m cdb sent ≡ command_execution m c sent
carried_executed m cdb sent c d p e g =
    disk_passed m cdb sent d p
    ∙ (λ i. cdb_execution m (e i) sent)
    ∙ (λ i. if g i then command_execution m c sent else reply_execution m (check_condition block_out_of_range))

-- ---- at a tape

-- What a tape makes of a command of its own.
abbrev pub on_tape : CommandContext → Reel → TapeCommand → List ℕ → Execution
on_tape m r c sent = reel_execution m (tape_execution (tape_in m.contents r) (returned_sense m.present m.stored) c sent)

tape_passed : (m : CommandContext) (cdb sent : List ℕ) (r : Reel) → m.contents.reel ≡ Some r → Passes m cdb
    → execution m cdb sent ≡ reel_execution m
    (tape_cdb_execution (tape_in m.contents r) (returned_sense m.present m.stored) (tape_command_of cdb) sent)
tape_passed m cdb sent r d p = passed m cdb sent p ∙ (λ i. unit_execution m (d i) cdb sent)

-- Where the reel stays nothing is changed.
pub reel_stays : (m : CommandContext) (r : Reel) (reply : Reply) → m.contents.reel ≡ Some r
    → reel_execution m (unmoved (tape_in m.contents r) reply) ≡ reply_execution m reply
reel_stays m r reply d =
    λ i. record { contents = record m.contents { reel = sym d i }; reported = false; reply = reply }

-- The block has a fault, as a tape reads it.
pub tape_faulty_executed : (m : CommandContext) (cdb sent : List ℕ) (r : Reel) (fault : CdbFault)
    → m.contents.reel ≡ Some r → Passes m cdb → tape_command_of cdb ≡ Err fault
    → execution m cdb sent ≡ reply_execution m (check_condition (sense_of_fault fault))
tape_faulty_executed m cdb sent r fault d p e = tape_passed m cdb sent r d p
    ∙ (λ i. reel_execution m (tape_cdb_execution (tape_in m.contents r) (returned_sense m.present m.stored) (e i) sent))
    ∙ by fault ∙ reel_stays m r (check_condition (sense_of_fault fault)) d
  where
    by : (f : CdbFault) → reel_execution m
        (tape_cdb_execution (tape_in m.contents r) (returned_sense m.present m.stored) (Err f) sent)
        ≡ reel_execution m (unmoved (tape_in m.contents r) (check_condition (sense_of_fault f)))
    by faults.Opcode = refl
    by faults.Length = refl
    by faults.Field = refl

-- Otherwise the tape carries it out, or stops where it cannot.
pub tape_executed : (m : CommandContext) (cdb sent : List ℕ) (r : Reel) (c : TapeCommand) → m.contents.reel ≡ Some r
    → Passes m cdb → tape_command_of cdb ≡ Ok c → execution m cdb sent ≡ on_tape m r c sent
tape_executed m cdb sent r c d p e = tape_passed m cdb sent r d p
    ∙ (λ i. reel_execution m (tape_cdb_execution (tape_in m.contents r) (returned_sense m.present m.stored) (e i) sent))

-- ---- the view

-- Whatever sense is stored, and whatever is sent.
abbrev pub AreSame : (Option Sense → List ℕ → Execution) → (Option Sense → List ℕ → Execution) → Type 0
AreSame f g = (x : Option Sense) (sent : List ℕ) → f x sent ≡ g x sent

pub data Executed (m : CommandContext) (cdb : List ℕ) (f : Option Sense → List ℕ → Execution) : Type 0 where
  refused : (sense : Sense) → IsRefused m cdb sense → AreSame f (λ x sent. reply_execution m (check_condition sense))
      → Executed m cdb f
  reported : (sense : Sense) → m.attention ≡ Some sense → heeds_attention cdb ≡ true
      → AreSame f (λ x sent. report_execution m sense) → Executed m cdb f
  at_disk : (c : Command) → m.contents.reel ≡ None → Passes m cdb → command_of cdb ≡ Ok c
      → is_good_range m.contents.count (range_of c) ≡ true
      → AreSame f (λ x sent. command_execution (storing m x) c sent) → Executed m cdb f
  at_tape : (r : Reel) (c : TapeCommand) → m.contents.reel ≡ Some r → Passes m cdb → tape_command_of cdb ≡ Ok c
      → AreSame f (λ x sent. on_tape (storing m x) r c sent) → Executed m cdb f

-- Each execution is one of them.
pub executed : (m : CommandContext) (cdb : List ℕ) → Executed m cdb (λ x sent. execution (storing m x) cdb sent)
executed m cdb =
    elim (cases_Bool (not m.present && needs_unit cdb)) [
      | inl e ↦ refused unit_not_supported (absent e) (λ x sent. absent_executed (storing m x) cdb sent e)
      | inr e ↦ attended e m.attention refl
    ]
  where
    passes : (x : Option Sense) → Passes m cdb → Passes (storing m x) cdb
    passes x p = record { there = p.there; calm = p.calm }

    by_block : m.contents.reel ≡ None → Passes m cdb → (r : Result Command CdbFault) → command_of cdb ≡ r
        → Executed m cdb (λ x sent. execution (storing m x) cdb sent)
    by_block d p (Ok c) e =
        elim (cases_Bool (is_good_range m.contents.count (range_of c))) [
          | inl g ↦ at_disk c d p e g (λ x sent. carried_executed (storing m x) cdb sent c d (passes x p) e g)
          | inr g ↦ refused block_out_of_range (outside c d p e g)
              (λ x sent. outside_executed (storing m x) cdb sent c d (passes x p) e g)
        ]
    by_block d p (Err fault) e = refused (sense_of_fault fault) (faulty fault d p e)
        (λ x sent. faulty_executed (storing m x) cdb sent fault d (passes x p) e)

    on_reel : (r : Reel) → m.contents.reel ≡ Some r → Passes m cdb → (x : Result TapeCommand CdbFault)
        → tape_command_of cdb ≡ x → Executed m cdb (λ x sent. execution (storing m x) cdb sent)
    on_reel r d p (Ok c) e = at_tape r c d p e (λ x sent. tape_executed (storing m x) cdb sent r c d (passes x p) e)
    on_reel r d p (Err fault) e = refused (sense_of_fault fault) (faulty_at_tape r fault d p e)
        (λ x sent. tape_faulty_executed (storing m x) cdb sent r fault d (passes x p) e)

    by_unit : Passes m cdb → (o : Option Reel) → m.contents.reel ≡ o
        → Executed m cdb (λ x sent. execution (storing m x) cdb sent)
    by_unit p None d = by_block d p (command_of cdb) refl
    by_unit p (Some r) d = on_reel r d p (tape_command_of cdb) refl

    attended : (not m.present && needs_unit cdb) ≡ false → (o : Option Sense) → m.attention ≡ o
        → Executed m cdb (λ x sent. execution (storing m x) cdb sent)
    attended there None e =
        by_unit (record { there = there; calm = λ sense f. none_some sense (sym e ∙ f) }) m.contents.reel refl
    attended there (Some a) e =
        elim (cases_Bool (heeds_attention cdb)) [
          | inl h ↦ reported a e h (λ x sent. reported_executed (storing m x) cdb sent a there e h)
          | inr h ↦ by_unit (record { there = there; calm = λ sense f. h }) m.contents.reel refl
        ]

-- A statement about every execution, by the four ways.
pub record OfAll (m : CommandContext) (cdb sent : List ℕ) (Is : Execution → Type 0) : Type 0 where
  pub refused_is : (sense : Sense) → IsRefused m cdb sense → Is (reply_execution m (check_condition sense))
  pub reported_is : (sense : Sense) → m.attention ≡ Some sense → Is (report_execution m sense)
  pub disk_is : (c : Command) → m.contents.reel ≡ None → command_of cdb ≡ Ok c
      → is_good_range m.contents.count (range_of c) ≡ true → Is (command_execution m c sent)
  pub tape_is : (r : Reel) (c : TapeCommand) → m.contents.reel ≡ Some r → tape_command_of cdb ≡ Ok c
      → Is (on_tape m r c sent)

pub of_all : (m : CommandContext) (cdb sent : List ℕ) (Is : Execution → Type 0) → OfAll m cdb sent Is
    → Is (execution m cdb sent)
of_all m cdb sent Is h = by (λ x given. execution (storing m x) cdb given) (executed m cdb)
  where
    by : (f : Option Sense → List ℕ → Execution) → Executed m cdb f → Is (f m.stored sent)
    by f (refused sense k e) = subst Is (sym (e m.stored sent)) (h.refused_is sense k)
    by f (reported sense a k e) = subst Is (sym (e m.stored sent)) (h.reported_is sense a)
    by f (at_disk c d p is g e) = subst Is (sym (e m.stored sent)) (h.disk_is c d is g)
    by f (at_tape r c d p is e) = subst Is (sym (e m.stored sent)) (h.tape_is r c d is)
