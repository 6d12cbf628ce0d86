-- Of the commands that ended with CHECK CONDITION, those that need no automatic REQUEST SENSE any more.
use Rattle.std.proofs.Common.{ℕ, suc, zero, ◌≡◌, ◌+◌, ◌<◌, Bool, true, false, List, [], ◌∷◌, ◌++◌, ◌∙◌, refl, sym}
use Rattle.std.proofs.Common.{arith, length, get_or, take, drop}
use Rattle.std.specs.Prelude.{if◌then◌else◌, not, ◌&&◌, ◌||◌, ◌==◌, map, nat_lt, Some}
use Rattle.std.proofs.lemmas.Bool.{and_parts, and_from}
use Rattle.std.proofs.lemmas.List.{take-append-drop}
use Rattle.bus_base.specs.declared.Event.{Event}
use Rattle.bus_base.specs.declared.Event.TheVariants as events
use Rattle.bus_base.specs.declared.ProcId.{ProcId}
use Rattle.initiator_books.specs.declared.mine.Mine.{Mine}
use Rattle.initiator_books.specs.Books.{BookValue, is_sense_due, my_sense, has_number, queue_with}
use Rattle.initiator_books.specs.Checks.{ChecksValue, is_in, with_check, none_due, IsSettled}
use Rattle.initiator_books.specs.Commands.{CommandsValue}
use Rattle.initiator_books.specs.Mines.{with_sent, with_over, with_status, with_one_try, is_check, sent_at, over_at}
use Rattle.initiator_books.specs.Mines.{tried_at, mine_with_end, is_mine_aborted, is_my_sense_stopped, mine_after_event}
use Rattle.bus_base.proofs.Tests.{or_true}

-- ---- what is settled adds nothing

not_due : (mines : List Mine) (n : ℕ) → not (is_sense_due mines n) ≡ true → is_sense_due mines n ≡ false
not_due mines n h = go (is_sense_due mines n) h
  where
    go : (q : Bool) → not q ≡ true → q ≡ false
    go true r = cc
    go false r = refl

settled_first : (mines : List Mine) (xs ys : List ℕ) → none_due mines xs ≡ true
    → my_sense mines (xs ++ ys) ≡ my_sense mines ys
settled_first mines [] ys h = refl
settled_first mines (n ∷ xs) ys h =
    let p = and_parts (not (is_sense_due mines n)) (none_due mines xs) h in
    (λ i. if not_due mines n p.0 i then Some n else my_sense mines (xs ++ ys)) ∙ settled_first mines xs ys p.1

pub sense_of_rest : (mines : List Mine) (queue : List ℕ) (settled : ℕ) → none_due mines (take settled queue) ≡ true
    → my_sense mines (drop settled queue) ≡ my_sense mines queue
sense_of_rest mines queue settled h = sym (settled_first mines (take settled queue) (drop settled queue) h)
    ∙ (λ i. my_sense mines (take-append-drop settled queue i))

settled_next : (mines : List Mine) (queue : List ℕ) (count : ℕ) → count < length queue
    → none_due mines (take count queue) ≡ true → is_sense_due mines (get_or queue count 0) ≡ false
    → none_due mines (take (suc count) queue) ≡ true
settled_next mines [] count l h now = absurd (omega (arith, l))
settled_next mines (n ∷ queue) zero l h now = λ i. not (now i) && true
settled_next mines (n ∷ queue) (suc count) l h now =
    let p = and_parts (not (is_sense_due mines n)) (none_due mines (take count queue)) h in
    and_from (not (is_sense_due mines n)) (none_due mines (take (suc count) queue)) p.0
    (settled_next mines queue count (omega (arith, l)) p.1 now)

pub settled_more : (mines : List Mine) (queue : List ℕ) (count : ℕ) → count < length queue
    → none_due mines (take count queue) ≡ true → is_sense_due mines (get_or queue count 0) ≡ false
    → none_due mines (take (count + 1) queue) ≡ true
settled_more mines queue count l h now =
    let e : count + 1 ≡ suc count = omega arith in
    (λ i. none_due mines (take (e i) queue)) ∙ settled_next mines queue count l h now

-- ---- what is done to the commands makes no automatic REQUEST SENSE due again

pub record KeepsSenses (f : Mine → Mine) : Type 0 where
  pub number : (m : Mine) → (f m).number ≡ m.number
  pub sense : (m : Mine) → (m.sense_sent || m.sense_over) ≡ true → ((f m).sense_sent || (f m).sense_over) ≡ true

due_kept : (f : Mine → Mine) → KeepsSenses f → (mines : List Mine) (n : ℕ) → is_sense_due mines n ≡ false
    → is_sense_due (map f mines) n ≡ false
due_kept f k [] n h = refl
due_kept f k (m ∷ mines) n h =
    (λ i. if k.number m i == n then not ((f m).sense_sent || (f m).sense_over) else is_sense_due (map f mines) n)
    ∙ go (due_kept f k mines n) (m.number == n) h
  where
    done : (q : Bool) → not q ≡ false → q ≡ true
    done true r = refl
    done false r = cc

    go : (is_sense_due mines n ≡ false → is_sense_due (map f mines) n ≡ false) → (q : Bool)
        → (if q then not (m.sense_sent || m.sense_over) else is_sense_due mines n) ≡ false
        → (if q then not ((f m).sense_sent || (f m).sense_over) else is_sense_due (map f mines) n) ≡ false
    go rest true r = λ i. not (k.sense m (done (m.sense_sent || m.sense_over) r) i)
    go rest false r = rest r

pub none_due_kept : (f : Mine → Mine) → KeepsSenses f → (mines : List Mine) (queue : List ℕ)
    → none_due mines queue ≡ true → none_due (map f mines) queue ≡ true
none_due_kept f k mines [] h = refl
none_due_kept f k mines (n ∷ queue) h =
    let p = and_parts (not (is_sense_due mines n)) (none_due mines queue) h in
    (λ i. not (due_kept f k mines n (not_due mines n p.0) i) && none_due (map f mines) queue)
    ∙ none_due_kept f k mines queue p.1

by_sent : (b : Bool) (m : Mine) → (m.sense_sent || m.sense_over) ≡ true
    → ((with_sent b m).sense_sent || (with_sent b m).sense_over) ≡ true
by_sent true m h = refl
by_sent false m h = h

by_over : (b : Bool) (m : Mine) → (m.sense_sent || m.sense_over) ≡ true
    → ((with_over b m).sense_sent || (with_over b m).sense_over) ≡ true
by_over true m h = or_true m.sense_sent
by_over false m h = h

sent_number : (b : Bool) (m : Mine) → (with_sent b m).number ≡ m.number
sent_number true m = refl
sent_number false m = refl

over_number : (b : Bool) (m : Mine) → (with_over b m).number ≡ m.number
over_number true m = refl
over_number false m = refl

pub sent_keeps : (id : ProcId) → KeepsSenses (λ (m : Mine). sent_at id m)
sent_keeps id =
    record { number = λ m. numbers m (id.command == m.number); sense = λ m h. senses m h (id.command == m.number) }
  where
    numbers : (m : Mine) (q : Bool) → (if q then with_sent id.sense m else m).number ≡ m.number
    numbers m true = sent_number id.sense m
    numbers m false = refl

    senses : (m : Mine) → (m.sense_sent || m.sense_over) ≡ true → (q : Bool)
        → ((if q then with_sent id.sense m else m).sense_sent || (if q then with_sent id.sense m else m).sense_over)
        ≡ true
    senses m h true = by_sent id.sense m h
    senses m h false = h

pub over_keeps : (id : ProcId) → KeepsSenses (λ (m : Mine). over_at id m)
over_keeps id =
    record { number = λ m. numbers m (id.command == m.number); sense = λ m h. senses m h (id.command == m.number) }
  where
    numbers : (m : Mine) (q : Bool) → (if q then with_over id.sense m else m).number ≡ m.number
    numbers m true = over_number id.sense m
    numbers m false = refl

    senses : (m : Mine) → (m.sense_sent || m.sense_over) ≡ true → (q : Bool)
        → ((if q then with_over id.sense m else m).sense_sent || (if q then with_over id.sense m else m).sense_over)
        ≡ true
    senses m h true = by_over id.sense m h
    senses m h false = h

pub tried_keeps : (n : ℕ) → KeepsSenses (λ (m : Mine). tried_at n m)
tried_keeps n = record { number = λ m. numbers m (n == m.number); sense = λ m h. senses m h (n == m.number) }
  where
    numbers : (m : Mine) (q : Bool) → (if q then with_one_try m else m).number ≡ m.number
    numbers m true = refl
    numbers m false = refl

    senses : (m : Mine) → (m.sense_sent || m.sense_over) ≡ true → (q : Bool)
        → ((if q then with_one_try m else m).sense_sent || (if q then with_one_try m else m).sense_over) ≡ true
    senses m h true = h
    senses m h false = h

many_keeps : (drops stops : Mine → Bool) → KeepsSenses (λ (m : Mine). mine_with_end (drops m) (stops m) m)
many_keeps drops stops = record {
  number = λ m. numbers m (m.sent && not m.over && drops m) (stops m && m.checked);
  sense = λ m h. senses m h (m.sent && not m.over && drops m) (stops m && m.checked);
}
  where
    numbers : (m : Mine) (p q : Bool)
        → (if p then record m { over = true } else if q then record m { sense_over = true } else m).number ≡ m.number
    numbers m true q = refl
    numbers m false true = refl
    numbers m false false = refl

    senses : (m : Mine) → (m.sense_sent || m.sense_over) ≡ true → (p q : Bool)
        → ((if p then record m { over = true } else if q then record m { sense_over = true } else m).sense_sent
        || (if p then record m { over = true } else if q then record m { sense_over = true } else m).sense_over) ≡ true
    senses m h true q = h
    senses m h false true = or_true m.sense_sent
    senses m h false false = h

none_keeps : KeepsSenses (λ (m : Mine). m)
none_keeps = record { number = λ m. refl; sense = λ m h. h }

pub event_keeps_senses : (e : Event) → KeepsSenses (λ (m : Mine). mine_after_event e m)
event_keeps_senses (events.Accept id) = none_keeps
event_keeps_senses (events.Refuse id) = none_keeps
event_keeps_senses (events.Run id) = none_keeps
event_keeps_senses (events.Fail id code) = none_keeps
event_keeps_senses (events.End id status) = record {
  number = λ m. numbers m (id.command == m.number) (is_check id status);
  sense = λ m h. senses m h (id.command == m.number) (is_check id status);
}
  where
    numbers : (m : Mine) (p q : Bool) → (if p then with_status q (with_over id.sense m) else m).number ≡ m.number
    numbers m false q = refl
    numbers m true true = over_number id.sense m
    numbers m true false = over_number id.sense m

    senses : (m : Mine) → (m.sense_sent || m.sense_over) ≡ true → (p q : Bool)
        → ((if p then with_status q (with_over id.sense m) else m).sense_sent
        || (if p then with_status q (with_over id.sense m) else m).sense_over) ≡ true
    senses m h false q = h
    senses m h true true = by_over id.sense m h
    senses m h true false = by_over id.sense m h
event_keeps_senses (events.Lost id) = over_keeps id
event_keeps_senses (events.Aborted host target unit what) =
    many_keeps (λ m. is_mine_aborted host target unit what m) (λ m. is_my_sense_stopped host target unit what m)
event_keeps_senses (events.Reset dev) = many_keeps (λ m. true) (λ m. true)

-- ---- the book

pub settled_kept : (f : Mine → Mine) → KeepsSenses f → (v now : CommandsValue) (queue : List ℕ) (room settled : ℕ)
    → now ≡ record v { mines = map f v.mines } → IsSettled v.mines v.limit queue room settled
    → IsSettled now.mines now.limit queue room settled
settled_kept f k v now queue room settled is h = record {
  one_room = (λ i. (is i).limit) ∙ h.one_room;
  within = h.within;
  settled =
      (λ i. none_due (is i).mines (take settled queue)) ∙ none_due_kept f k v.mines (take settled queue) h.settled;
}

pub front_kept : (f : Mine → Mine) → KeepsSenses f → (v now : CommandsValue) (queue numbers : List ℕ) (settled : ℕ)
    → now ≡ record v { mines = map f v.mines } → numbers ≡ queue → none_due v.mines (take settled queue) ≡ true
    → none_due now.mines (take settled numbers) ≡ true
front_kept f k v now queue numbers settled is same h =
    (λ i. none_due (is i).mines (take settled (same i))) ∙ none_due_kept f k v.mines (take settled queue) h

-- One check more.
pub check_put : (mines : List Mine) (k : ChecksValue) (n : ℕ) → has_number mines n ≡ true
    → (with_check k n).queue ≡ queue_with mines k.room k.queue n
check_put mines k n h = go (not (is_in k.queue n) && nat_lt (length k.queue) k.room)
    ∙ (λ i. if sym h i && not (is_in k.queue n) && nat_lt (length k.queue) k.room then k.queue ++ n ∷ [] else k.queue)
  where
    go : (q : Bool)
        → (if q then record k { queue = k.queue ++ n ∷ [] } else k).queue ≡ (if q then k.queue ++ n ∷ [] else k.queue)
    go true = refl
    go false = refl

pub no_check_put : (v : BookValue) (n : ℕ) → has_number v.mines n ≡ false
    → v ≡ record v { queue = queue_with v.mines v.room v.queue n }
no_check_put v n h = λ i. record v {
  queue =
      if sym h i && not (is_in v.queue n) && nat_lt (length v.queue) v.room then v.queue ++ n ∷ [] else v.queue;
}

pub room_with : (v : ChecksValue) (n : ℕ) → (with_check v n).room ≡ v.room
room_with v n = go (not (is_in v.queue n) && nat_lt (length v.queue) v.room)
  where
    go : (q : Bool) → (if q then record v { queue = v.queue ++ n ∷ [] } else v).room ≡ v.room
    go true = refl
    go false = refl
