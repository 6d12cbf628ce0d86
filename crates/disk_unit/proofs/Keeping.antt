-- What a unit keeps for each initiator is what the seat of the array has, after each event.
use Rattle.std.proofs.Common.{ℕ, zero, suc, ◌≡◌, ◌<◌, Bool, true, false, List, [], ◌∷◌, ◌∙◌, refl, sym, arith, length}
use Rattle.std.proofs.Common.{get_or, set, Option, Some, None}
use Rattle.std.specs.Prelude.{if◌then◌else◌, ◌&&◌, ◌||◌, ◌==◌, is_some}
use Rattle.std.specs.List.{list_any}
use Rattle.std.proofs.lemmas.Bool.{eqb-true, eqb-false}
use Rattle.std.proofs.lemmas.List.{get_or-set_same, get_or-set_other, get_or-replicate, length-set}
use Rattle.bus_base.specs.declared.ProcId.{ProcId}
use Rattle.bus_base.specs.declared.events.Pick.{Pick}
use Rattle.cdb_codec.specs.declared.Sense.{Sense}
use Rattle.cdb_codec.specs.declared.status.TheConstants.{GOOD, CHECK_CONDITION}
use Rattle.cdb_codec.specs.Cdb.{command_of}
use Rattle.array_model.specs.scenario.specs.declared.value.HostDef.{HostDef}
use Rattle.array_model.specs.scenario.specs.Value.{ScenarioValue}
use Rattle.array_model.specs.declared.entries.Entry.{Entry}
use Rattle.array_model.specs.Processes.{Process}
use Rattle.array_model.specs.Execution.{Reply, Execution, is_request_sense, reset_occurred}
use Rattle.array_model.specs.Units.{UnitState, starting_array}
use Rattle.array_model.specs.Steps.{unit_processes}
use Rattle.array_model.specs.Seats
use Rattle.array_model.specs.Seats.{Seat}
use Rattle.tag_queue.specs.Queue.{is_held}
use Rattle.disk_unit.specs.Books
use Rattle.disk_unit.specs.Books.{UnitBooks, IsCleared}
use Rattle.disk_unit.specs.Units.{books_if_reported}
use Rattle.disk_unit.specs.Keeping.{IsKeptAt, books_after_status}
use Rattle.bus_base.proofs.Tests.{or_swapped}

-- ---- one place of eight

pub set_at : {X : Type 0} (xs : List X) (dev other : ℕ) (x y d : X) → length xs ≡ 8 → dev < 8 → get_or xs other d ≡ y
    → get_or (set xs dev x) other d ≡ (if dev == other then x else y)
set_at xs dev other x y d n l h = go (dev == other) refl
  where
    go : (z : Bool) → (dev == other) ≡ z → get_or (set xs dev x) other d ≡ (if z then x else y)
    go true z =
        let e : dev ≡ other = eqb-true dev other z in
        (λ i. get_or (set xs dev x) (sym e i) d) ∙ get_or-set_same xs dev x d (omega (arith, n, l))
    go false z = get_or-set_other xs dev other x d (λ e. eqb-false dev other z (sym e)) ∙ h

pub length_set : {X : Type 0} (xs : List X) (dev : ℕ) (x : X) → length xs ≡ 8 → length (set xs dev x) ≡ 8
length_set xs dev x n = length-set xs dev x ∙ n

-- ---- a sense and the hold of one initiator

pub sense_put : (hosts : List HostDef) (seat : Seat) (b : UnitBooks) (dev : ℕ) (sense : Option Sense) (held : Bool)
    → IsKeptAt hosts seat b → dev < 8 → IsKeptAt hosts (record seat {
      senses = Seats.with_sense_of seat.senses dev sense;
      hold = Seats.with_hold_of seat.hold dev held;
    }) (record b { queue = record b.queue { hold = set b.queue.hold dev held }; senses = set b.senses dev sense })
sense_put hosts seat b dev sense held k l = record {
  eight_senses = length_set b.senses dev sense k.eight_senses;
  eight_attentions = k.eight_attentions;
  eight_held = length_set b.queue.hold dev held k.eight_held;
  senses = λ other m. set_at b.senses dev other sense (seat.senses other) None k.eight_senses l (k.senses other m);
  attentions = k.attentions;
  hold = λ other m. set_at b.queue.hold dev other held (seat.hold other) false k.eight_held l (k.hold other m);
}

pub after_status : (hosts : List HostDef) (seat : Seat) (b : UnitBooks) (p : Process) (reply : Reply)
    → IsKeptAt hosts seat b → p.initiator < 8
    → IsKeptAt hosts (Seats.seat_after_status seat p reply) (books_after_status b p reply)
after_status hosts seat b p reply k l =
    go (reply.status == CHECK_CONDITION) (reply.status == GOOD && is_request_sense (command_of p.cdb))
  where
    go : (x y : Bool) → IsKeptAt hosts (if x then record seat {
      senses = Seats.with_sense_of seat.senses p.initiator (Some reply.sense);
      hold = Seats.with_hold_of seat.hold p.initiator true;
    } else if y then record seat {
      senses = Seats.with_sense_of seat.senses p.initiator None;
      hold = Seats.with_hold_of seat.hold p.initiator false;
    } else seat) (if x then Books.books_with_sense b p.initiator reply.sense
        else if y then Books.books_without_sense b p.initiator else b)
    go true y = sense_put hosts seat b p.initiator (Some reply.sense) true k l
    go false true = sense_put hosts seat b p.initiator None false k l
    go false false = k

-- ---- what concerns the queue or the unit alone

pub left : (hosts : List HostDef) (seat : Seat) (b : UnitBooks) (id : ProcId) (key : ℕ) → IsKeptAt hosts seat b
    → IsKeptAt hosts (Seats.seat_without seat id) (Books.books_without b key)
left hosts seat b id key k = record {
  eight_senses = k.eight_senses;
  eight_attentions = k.eight_attentions;
  eight_held = k.eight_held;
  senses = k.senses;
  attentions = k.attentions;
  hold = k.hold;
}

pub guest : (hosts : List HostDef) (seat : Seat) (b : UnitBooks) (p : Process) (reply : Option Reply)
    → IsKeptAt hosts seat b → IsKeptAt hosts (Seats.seat_with_guest seat p reply) b
guest hosts seat b p reply k = record {
  eight_senses = k.eight_senses;
  eight_attentions = k.eight_attentions;
  eight_held = k.eight_held;
  senses = k.senses;
  attentions = k.attentions;
  hold = k.hold;
}

pub arrived :
    (hosts : List HostDef) (seat : Seat) (b : UnitBooks) (u : Option UnitState) (key : ℕ) (entry : Entry) (cdb : List ℕ)
    → IsKeptAt hosts seat b → IsKeptAt hosts (record seat { unit = u }) (Books.books_with b key entry cdb)
arrived hosts seat b u key entry cdb k = record {
  eight_senses = k.eight_senses;
  eight_attentions = k.eight_attentions;
  eight_held = k.eight_held;
  senses = k.senses;
  attentions = k.attentions;
  hold = k.hold;
}

pub chosen : (hosts : List HostDef) (seat : Seat) (b : UnitBooks) (pick : Pick) → IsKeptAt hosts seat b
    → IsKeptAt hosts (Seats.settled_seat seat) (Books.books_after_choice b pick)
chosen hosts seat b pick k = go (Books.choice_of b pick)
  where
    go : (x : Option ℕ) → IsKeptAt hosts (Seats.settled_seat seat) (Books.books_with_current b x)
    go None = record {
      eight_senses = k.eight_senses;
      eight_attentions = k.eight_attentions;
      eight_held = k.eight_held;
      senses = k.senses;
      attentions = k.attentions;
      hold = k.hold;
    }
    go (Some key) = record {
      eight_senses = k.eight_senses;
      eight_attentions = k.eight_attentions;
      eight_held = k.eight_held;
      senses = k.senses;
      attentions = k.attentions;
      hold = k.hold;
    }

pub replied : (hosts : List HostDef) (seat : Seat) (b : UnitBooks) (id : ProcId) (reply : Reply) → IsKeptAt hosts seat b
    → IsKeptAt hosts (Seats.seat_with_reply seat id reply) b
replied hosts seat b id reply k = record {
  eight_senses = k.eight_senses;
  eight_attentions = k.eight_attentions;
  eight_held = k.eight_held;
  senses = k.senses;
  attentions = k.attentions;
  hold = k.hold;
}

-- ---- a run: a reported attention is gone

pub run : (hosts : List HostDef) (seat : Seat) (b : UnitBooks) (p : Process) (done : Execution)
    → IsKeptAt hosts seat b → p.initiator < 8
    → IsKeptAt hosts (Seats.seat_with_execution seat p done) (books_if_reported b done.reported p.initiator)
run hosts seat b p done k l = go done.reported
  where
    go : (x : Bool) → IsKeptAt hosts (Seats.seat_with_reply (record seat {
      unit = Seats.unit_mapped (Seats.unit_with_contents done.contents) seat.unit;
      attentions =
          if x then Seats.with_sense_of seat.attentions p.initiator None else seat.attentions;
    }) p.id done.reply) (books_if_reported b x p.initiator)
    go true = record {
      eight_senses = k.eight_senses;
      eight_attentions = length_set b.attentions p.initiator None k.eight_attentions;
      eight_held = k.eight_held;
      senses = k.senses;
      attentions = λ other m h. set_at b.attentions p.initiator other None
          (seat.attentions other) None k.eight_attentions l (k.attentions other m h);
      hold = k.hold;
    }
    go false = record {
      eight_senses = k.eight_senses;
      eight_attentions = k.eight_attentions;
      eight_held = k.eight_held;
      senses = k.senses;
      attentions = k.attentions;
      hold = k.hold;
    }

-- ---- aborts and resets

pub aborted : (hosts : List HostDef) (seat : Seat) (b : UnitBooks) (dev : ℕ) → IsKeptAt hosts seat b → dev < 8
    → IsKeptAt hosts (Seats.seat_after_abort dev seat) (Books.books_after_abort b dev)
aborted hosts seat b dev k l = record {
  eight_senses = length_set b.senses dev None k.eight_senses;
  eight_attentions = k.eight_attentions;
  eight_held = length_set b.queue.hold dev false k.eight_held;
  senses = λ other m. set_at b.senses dev other None (seat.senses other) None k.eight_senses l (k.senses other m);
  attentions = k.attentions;
  hold = λ other m. set_at b.queue.hold dev other false (seat.hold other) false k.eight_held l (k.hold other m);
}

pub tag_aborted : (hosts : List HostDef) (seat : Seat) (b : UnitBooks) (dev n : ℕ) → IsKeptAt hosts seat b
    → IsKeptAt hosts (Seats.seat_after_abort_tag dev n seat) (Books.books_after_abort_tag b dev n)
tag_aborted hosts seat b dev n k = record {
  eight_senses = k.eight_senses;
  eight_attentions = k.eight_attentions;
  eight_held = k.eight_held;
  senses = k.senses;
  attentions = k.attentions;
  hold = k.hold;
}

pub cleared : (hosts : List HostDef) (seat : Seat) (b c : UnitBooks) (dev : ℕ)
    → IsKeptAt hosts seat b → IsCleared dev b c → ((other : ℕ) → other < 8
    → Books.is_told dev b.queue.arrived other ≡ Seats.is_told dev (unit_processes seat.unit) other)
    → length c.attentions ≡ 8 → IsKeptAt hosts (Seats.seat_after_clear_queue dev seat) c
cleared hosts seat b c dev k r t n = record {
  eight_senses = (λ i. length (r.senses i)) ∙ k.eight_senses;
  eight_attentions = n;
  eight_held = (λ i. length (r.queue i).hold) ∙ k.eight_held;
  senses = λ other m. (λ i. get_or (r.senses i) other None) ∙ k.senses other m;
  attentions =
      λ other m h. r.attentions other m ∙ (λ i. Seats.attention_if_told (t other m i) (k.attentions other m h i));
  hold = λ other m. (λ i. get_or (r.queue i).hold other false) ∙ k.hold other m;
}

pub reset : (hosts : List HostDef) (seat : Seat) (b : UnitBooks) → IsKeptAt hosts seat b → is_some seat.unit ≡ true
    → IsKeptAt hosts (Seats.seat_after_reset hosts seat) (Books.books_after_reset b)
reset hosts seat b k there = record {
  eight_senses = refl;
  eight_attentions = refl;
  eight_held = refl;
  senses = λ dev l. get_or-replicate 8 dev None None l;
  attentions = λ dev l h.
      get_or-replicate 8 dev (Some reset_occurred) None l
      ∙ (λ i. if sym there i && sym h i then Some reset_occurred else seat.attentions dev);
  hold = λ dev l. get_or-replicate 8 dev false false l;
}

-- ---- the start

pub started : (s : ScenarioValue) (target unit depth keys : ℕ) (blocks : List (List ℕ))
    → IsKeptAt s.hosts (Seats.seat_of (starting_array s) target unit) (Books.empty_books depth keys blocks)
started s target unit depth keys blocks = record {
  eight_senses = refl;
  eight_attentions = refl;
  eight_held = refl;
  senses = λ dev l. get_or-replicate 8 dev None None l;
  attentions = λ dev l h. get_or-replicate 8 dev None None l;
  hold = λ dev l. get_or-replicate 8 dev false false l;
}

-- ---- the hold as a whole

first_below : (f : ℕ → Bool) (n : ℕ) → (f 0 || Seats.is_any_below (λ i. f (suc i)) n) ≡ Seats.is_any_below f (suc n)
first_below f zero = refl
first_below f (suc n) =
    or_swapped (f 0) (f (suc n)) (Seats.is_any_below (λ i. f (suc i)) n)
    ∙ (λ i. f (suc n) || first_below f n i)

any_below : (xs : List Bool) (f : ℕ → Bool) → ((i : ℕ) → i < length xs → get_or xs i false ≡ f i)
    → list_any (λ (x : Bool). x) xs ≡ Seats.is_any_below f (length xs)
any_below [] f h = refl
any_below (x ∷ xs) f h =
    let rest : list_any (λ (y : Bool). y) xs ≡ Seats.is_any_below (λ i. f (suc i)) (length xs) = any_below xs
    (λ i. f (suc i)) (λ i l. h (suc i) (omega (arith, l))) in
    (λ i. h 0 (omega arith) i || rest i) ∙ first_below f (length xs)

pub held : (hosts : List HostDef) (seat : Seat) (b : UnitBooks) → IsKeptAt hosts seat b
    → is_held b.queue.hold ≡ Seats.is_any_held seat.hold
unfolding Seats.is_any_held
held hosts seat b k =
    any_below b.queue.hold seat.hold (λ i l. k.hold i (omega (arith, l, k.eight_held)))
    ∙ (λ i. Seats.is_any_below seat.hold (k.eight_held i))
