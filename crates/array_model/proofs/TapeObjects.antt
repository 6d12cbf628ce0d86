-- What stands on a tape after a command, and the bytes that come back: what stood there, or a front of it with what is
-- put behind; and the blocks ahead (10.2.4, 10.2.14, 10.2.15).
use Rattle.std.proofs.Common.{ℕ, zero, suc, ◌≡◌, ◌≤◌, ◌<◌, ◌+◌, ◌-◌, ◌*◌, Bool, true, false, List, [], ◌∷◌, ◌++◌}
use Rattle.std.proofs.Common.{length, take, drop, min, Some, refl, sym, ap, subst, arith, ◌∙◌}
use Rattle.std.specs.Prelude.{nat_abs, nat_le, nat_lt, ◌==◌, ◌&&◌, Ok, if◌then◌else◌}
use Rattle.std.specs.List.{AllByRecursion, list_all}
use Rattle.std.proofs.lemmas.Bool.Decides.{nat_tests}
use Rattle.std.proofs.lemmas.List.{length-append, length-drop, length-take}
use Rattle.std.proofs.Math.Nat.{mul-le-mul_right}
use Rattle.bus_base.proofs.Tests.{all_append}
use Rattle.cdb_codec.proofs.Senses.{data_are_bytes}
use Rattle.cdb_codec.specs.Kinds.{is_tape_write}
use Rattle.cdb_codec.specs.Replies.{FitsSense, sense_data, tape_inquiry_data}
use Rattle.cdb_codec.specs.declared.Sense.{Sense}
use Rattle.cdb_codec.specs.declared.replies.TheConstants.{SENSE_LEN, INQUIRY_LEN}
use Rattle.cdb_codec.specs.declared.status.TheConstants.{GOOD}
use Rattle.cdb_codec.specs.declared.tape_command.TapeCommand.{TapeCommand}
use Rattle.cdb_codec.specs.declared.tape_command.TapeCommand.TheVariants as tapes
use Rattle.cdb_codec.specs.declared.tape_operation.TheConstants.{SPACE_BLOCKS, SPACE_FILEMARKS}
use Rattle.scenario.specs.Needs.{tape_moved_by}
use Rattle.scenario.specs.declared.value.UnitDef.{UnitDef}
use Rattle.array_model.specs.declared.walk.Stop.{Stop}
use Rattle.array_model.specs.declared.walk.Stop.TheVariants as stops
use Rattle.array_model.specs.Reels.{Object, block, filemark, AreWhole, blocks_of, bytes_of, bytes_ahead, filemarks}
use Rattle.array_model.specs.Reels.{over_blocks, over_filemarks, reel_at, reel_with, way_from}
use Rattle.array_model.specs.Replies.{good, check_condition}
use Rattle.array_model.specs.TapeExecution.{Tape, TapeExecution, end_of_medium_detected, has_room, is_forward}
use Rattle.array_model.specs.TapeExecution.{space_execution, stop_reply, tape_execution, walk_execution}
use Rattle.array_model.specs.TapeExecution.{write_execution, write_reply}

-- ---- what stands on it

-- What a command puts behind the position, and how many objects.
pub data IsPut (t : Tape) (sent : List ℕ) : TapeCommand → ℕ → List Object → Type 0 where
  some_blocks : (n : ℕ) → IsPut t sent (tapes.Write n) n (blocks_of t.size n sent)
  some_filemarks : (n : ℕ) → IsPut t sent (tapes.Filemarks n) n (filemarks n)

pub data IsLeft (t : Tape) (sent : List ℕ) (c : TapeCommand) (x : TapeExecution) : Type 0 where
  as_before : x.reel.objects ≡ t.reel.objects → IsLeft t sent c x
  with_more : (n : ℕ) (more : List Object) → IsPut t sent c n more → has_room t n ≡ true → x.reply.status ≡ GOOD
      → x.reel.objects ≡ take t.reel.position t.reel.objects ++ more → IsLeft t sent c x

written : (t : Tape) (sent : List ℕ) (c : TapeCommand) (n : ℕ) (more : List Object) → IsPut t sent c n more
    → IsLeft t sent c (write_execution t n more)
written t sent c n more k = go (n == 0) (has_room t n) refl
  where
    go : (x y : Bool) → has_room t n ≡ y → IsLeft t sent c (record {
      reel = if x then t.reel else if y then reel_with t.reel more else t.reel;
      reply = if x then good [] else if y then good [] else check_condition (end_of_medium_detected n);
    })
    go true y e = as_before refl
    go false true e = with_more n more k e refl refl
    go false false e = as_before refl

spaced : (t : Tape) (code : ℕ) (forward : Bool) (n : ℕ)
    → (space_execution t code forward n).reel.objects ≡ t.reel.objects
spaced t code forward n = go (code == SPACE_BLOCKS) (code == SPACE_FILEMARKS)
  where
    go : (x y : Bool) → (if x then walk_execution t forward n [] (over_blocks (way_from t.reel forward) n)
        else if y then walk_execution t forward n [] (over_filemarks (way_from t.reel forward) n)
        else record { reel = reel_at t.reel (length t.reel.objects); reply = good [] }).reel.objects ≡ t.reel.objects
    go true y = refl
    go false true = refl
    go false false = refl

pub is_left : (t : Tape) (sense : Sense) (c : TapeCommand) (sent : List ℕ)
    → IsLeft t sent c (tape_execution t sense c sent)
is_left t sense tapes.TestUnitReady sent = as_before refl
is_left t sense tapes.Rewind sent = as_before refl
is_left t sense (tapes.RequestSense room) sent = as_before refl
is_left t sense (tapes.Read n) sent = as_before refl
is_left t sense (tapes.Write n) sent = written t sent (tapes.Write n) n (blocks_of t.size n sent) (some_blocks n)
is_left t sense (tapes.Inquiry room) sent = as_before refl
is_left t sense (tapes.Filemarks n) sent = written t sent (tapes.Filemarks n) n (filemarks n) (some_filemarks n)
is_left t sense (tapes.Space code count) sent = as_before (spaced t code (is_forward count) (nat_abs count))

-- A statement about objects that holds of a front of them, and of two lists joined.
pub record OfObjects (Are : List Object → Type 0) : Type 0 where
  pub front : (n : ℕ) (objects : List Object) → Are objects → Are (take n objects)
  pub joined : (a b : List Object) → Are a → Are b → Are (a ++ b)
  pub filemarks_are : (n : ℕ) → Are (filemarks n)

-- It stays, where it holds of what is written.
pub objects_kept : (Are : List Object → Type 0) → OfObjects Are → (t : Tape) (sense : Sense) (c : TapeCommand)
    (sent : List ℕ) → Are t.reel.objects → ((n : ℕ) → c ≡ tapes.Write n
    → (tape_execution t sense c sent).reply.status ≡ GOOD → Are (blocks_of t.size n sent))
    → Are (tape_execution t sense c sent).reel.objects
objects_kept Are k t sense c sent h f = by c (tape_execution t sense c sent) (is_left t sense c sent) f
  where
    put : (c : TapeCommand) (n : ℕ) (more : List Object) → IsPut t sent c n more
        → ((m : ℕ) → c ≡ tapes.Write m → Are (blocks_of t.size m sent)) → Are more
    put _ _ _ (some_blocks n) g = g n refl
    put _ _ _ (some_filemarks n) g = k.filemarks_are n

    by : (c : TapeCommand) (x : TapeExecution) → IsLeft t sent c x
        → ((n : ℕ) → c ≡ tapes.Write n → x.reply.status ≡ GOOD → Are (blocks_of t.size n sent)) → Are x.reel.objects
    by c x (as_before e) g = subst Are (sym e) h
    by c x (with_more n more p room well e) g = subst Are (sym e) (k.joined (take t.reel.position t.reel.objects) more
        (k.front t.reel.position t.reel.objects h) (put c n more p (λ m w. g m w well)))

-- ---- they are no more than it has room for

length_blocks : (size n : ℕ) (bytes : List ℕ) → length (blocks_of size n bytes) ≡ n
length_blocks size zero bytes = refl
length_blocks size (suc n) bytes = ap suc (length_blocks size n (drop size bytes))

length_filemarks : (n : ℕ) → length (filemarks n) ≡ n
length_filemarks zero = refl
length_filemarks (suc n) = ap suc (length_filemarks n)

pub objects_few : (t : Tape) (sense : Sense) (c : TapeCommand) (sent : List ℕ) → length t.reel.objects ≤ t.capacity
    → length (tape_execution t sense c sent).reel.objects ≤ t.capacity
objects_few t sense c sent h = by c (tape_execution t sense c sent) (is_left t sense c sent)
  where
    long : (c : TapeCommand) (n : ℕ) (more : List Object) → IsPut t sent c n more → length more ≡ n
    long _ _ _ (some_blocks n) = length_blocks t.size n sent
    long _ _ _ (some_filemarks n) = length_filemarks n

    within : (n : ℕ) → nat_le (t.reel.position + n) t.capacity ≡ true → t.reel.position + n ≤ t.capacity
    within n e = grind (arith, nat_tests)

    by : (c : TapeCommand) (x : TapeExecution) → IsLeft t sent c x → length x.reel.objects ≤ t.capacity
    by c x (as_before e) = subst (λ (o : List Object). length o ≤ t.capacity) (sym e) h
    by c x (with_more n more p room well e) = subst (λ (o : List Object). length o ≤ t.capacity) (sym e)
        (let front = length-take t.reel.position t.reel.objects in
        let all = length-append (take t.reel.position t.reel.objects) more in
        let some = long c n more p in
        let fits = within n room in
        omega (arith, front, all, some, fits))

-- ---- its blocks stay whole, where what is written has the length of so many

whole_front : (size n : ℕ) (objects : List Object) → AreWhole size objects → AreWhole size (take n objects)
whole_front size zero objects h = tt
whole_front size (suc n) [] h = tt
whole_front size (suc n) (o ∷ objects) h = (h.0, whole_front size n objects h.1)

whole_joined : (size : ℕ) (a b : List Object) → AreWhole size a → AreWhole size b → AreWhole size (a ++ b)
whole_joined size [] b h k = k
whole_joined size (o ∷ a) b h k = (h.0, whole_joined size a b h.1 k)

whole_filemarks : (size n : ℕ) → AreWhole size (filemarks n)
whole_filemarks size zero = tt
whole_filemarks size (suc n) = (tt, whole_filemarks size n)

pub whole_blocks : (size n : ℕ) (bytes : List ℕ) → length bytes ≡ n * size → AreWhole size (blocks_of size n bytes)
whole_blocks size zero bytes e = tt
whole_blocks size (suc n) bytes e =
    let first = length-take size bytes in
    let rest = length-drop size bytes in (
      first ∙ least size (length bytes) n e,
      whole_blocks size n (drop size bytes) (left (length bytes) (length (drop size bytes)) n size rest e),
    )
  where
    left : (all rest n size : ℕ) → rest ≡ all - size → all ≡ suc n * size → rest ≡ n * size
    left all rest n size f g = omega (arith, f, g)

    least : (size all n : ℕ) → all ≡ suc n * size → min size all ≡ size
    least size all n f = grind (arith, f)

of_whole : (size : ℕ) → OfObjects (λ (o : List Object). AreWhole size o)
of_whole size = record {
  front = λ n o h. whole_front size n o h;
  joined = λ a b h k. whole_joined size a b h k;
  filemarks_are = λ n. whole_filemarks size n;
}

pub objects_whole : (t : Tape) (sense : Sense) (c : TapeCommand) (sent : List ℕ) → AreWhole t.size t.reel.objects
    → ((n : ℕ) → c ≡ tapes.Write n → (tape_execution t sense c sent).reply.status ≡ GOOD
    → length sent ≡ n * t.size) → AreWhole t.size (tape_execution t sense c sent).reel.objects
objects_whole t sense c sent h f = objects_kept (λ (o : List Object). AreWhole t.size o) (of_whole t.size) t sense c
    sent h (λ n e well. whole_blocks t.size n sent (f n e well))

-- ---- its blocks stay short, where they are at most so long

abbrev pub IsShort : ℕ → Object → Type 0
IsShort most (block bytes) = length bytes ≤ most
IsShort most filemark = Unit {0}

abbrev pub AreShort : ℕ → List Object → Type 0
AreShort most objects = AllByRecursion (IsShort most) objects

all_front : (P : Object → Type 0) (n : ℕ) (objects : List Object) → AllByRecursion P objects
    → AllByRecursion P (take n objects)
all_front P zero objects h = tt
all_front P (suc n) [] h = tt
all_front P (suc n) (o ∷ objects) h = (h.0, all_front P n objects h.1)

all_behind : (P : Object → Type 0) (n : ℕ) (objects : List Object) → AllByRecursion P objects
    → AllByRecursion P (drop n objects)
all_behind P zero objects h = h
all_behind P (suc n) [] h = tt
all_behind P (suc n) (o ∷ objects) h = all_behind P n objects h.1

all_filemarks : (P : Object → Type 0) → P filemark → (n : ℕ) → AllByRecursion P (filemarks n)
all_filemarks P h zero = tt
all_filemarks P h (suc n) = (h, all_filemarks P h n)

of_each : (P : Object → Type 0) → P filemark → OfObjects (λ (o : List Object). AllByRecursion P o)
of_each P h = record {
  front = λ n o k. all_front P n o k;
  joined = λ a b k m. all_append P a b k m;
  filemarks_are = λ n. all_filemarks P h n;
}

short_blocks : (most size n : ℕ) (bytes : List ℕ) → size ≤ most → AreShort most (blocks_of size n bytes)
short_blocks most size zero bytes h = tt
short_blocks most size (suc n) bytes h =
    let first = length-take size bytes in
    (omega (arith, first, h), short_blocks most size n (drop size bytes) h)

pub objects_short : (t : Tape) (sense : Sense) (c : TapeCommand) (sent : List ℕ) (most : ℕ) → t.size ≤ most
    → AreShort most t.reel.objects → AreShort most (tape_execution t sense c sent).reel.objects
objects_short t sense c sent most few h = objects_kept (λ (o : List Object). AreShort most o)
    (of_each (IsShort most) tt) t sense c sent h (λ n e well. short_blocks most t.size n sent few)

-- ---- its blocks stay bytes, where what is written are

abbrev pub AreBytes : List ℕ → Type 0
AreBytes bytes = AllByRecursion (λ (b : ℕ). b < 256) bytes

abbrev pub IsOfBytes : Object → Type 0
IsOfBytes (block bytes) = AreBytes bytes
IsOfBytes filemark = Unit {0}

abbrev pub AreOfBytes : List Object → Type 0
AreOfBytes objects = AllByRecursion IsOfBytes objects

bytes_front : (n : ℕ) (bytes : List ℕ) → AreBytes bytes → AreBytes (take n bytes)
bytes_front zero bytes h = tt
bytes_front (suc n) [] h = tt
bytes_front (suc n) (b ∷ bytes) h = (h.0, bytes_front n bytes h.1)

bytes_behind : (n : ℕ) (bytes : List ℕ) → AreBytes bytes → AreBytes (drop n bytes)
bytes_behind zero bytes h = h
bytes_behind (suc n) [] h = tt
bytes_behind (suc n) (b ∷ bytes) h = bytes_behind n bytes h.1

blocks_of_bytes : (size n : ℕ) (bytes : List ℕ) → AreBytes bytes → AreOfBytes (blocks_of size n bytes)
blocks_of_bytes size zero bytes h = tt
blocks_of_bytes size (suc n) bytes h =
    (bytes_front size bytes h, blocks_of_bytes size n (drop size bytes) (bytes_behind size bytes h))

bytes_in : (objects : List Object) → AreOfBytes objects → AreBytes (bytes_of objects)
bytes_in [] h = tt
bytes_in (block bytes ∷ objects) h =
    all_append (λ (b : ℕ). b < 256) bytes (bytes_of objects) h.0 (bytes_in objects h.1)
bytes_in (filemark ∷ objects) h = bytes_in objects h.1

-- ---- the bytes that come back

pub data IsGiven (t : Tape) (sense : Sense) : TapeCommand → List ℕ → Type 0 where
  nothing : (c : TapeCommand) → IsGiven t sense c []
  a_sense : (room : ℕ)
      → IsGiven t sense (tapes.RequestSense room) (take (min room SENSE_LEN) (sense_data sense))
  an_inquiry : (room : ℕ)
      → IsGiven t sense (tapes.Inquiry room) (take (min room INQUIRY_LEN) tape_inquiry_data)
  blocks_ahead : (n moved : ℕ) → moved ≤ n → IsGiven t sense (tapes.Read n) (bytes_ahead t.reel moved)

moved_few : (marks : List Bool) (n : ℕ) → (over_blocks marks n).moved ≤ n
moved_few marks zero = omega arith
moved_few [] (suc n) = omega arith
moved_few (true ∷ marks) (suc n) = omega arith
moved_few (false ∷ marks) (suc n) = let rest = moved_few marks n in omega (arith, rest)

stop_gives : (stop : Stop) (forward : Bool) (left : ℕ) (bytes : List ℕ)
    → (stop_reply stop forward left bytes).bytes ≡ bytes
stop_gives stops.Count forward left bytes = refl
stop_gives stops.Filemark forward left bytes = refl
stop_gives stops.Edge forward left bytes = refl

write_gives : (t : Tape) (n : ℕ) → (write_reply t n).bytes ≡ []
write_gives t n = go (n == 0) (has_room t n)
  where
    go : (x y : Bool) → (if x then good [] else if y then good []
        else check_condition (end_of_medium_detected n)).bytes ≡ []
    go true y = refl
    go false true = refl
    go false false = refl

space_gives : (t : Tape) (code : ℕ) (forward : Bool) (n : ℕ) → (space_execution t code forward n).reply.bytes ≡ []
space_gives t code forward n = go (code == SPACE_BLOCKS) (code == SPACE_FILEMARKS)
  where
    go : (x y : Bool) → (if x then walk_execution t forward n [] (over_blocks (way_from t.reel forward) n)
        else if y then walk_execution t forward n [] (over_filemarks (way_from t.reel forward) n)
        else record { reel = reel_at t.reel (length t.reel.objects); reply = good [] }).reply.bytes ≡ []
    go true y = stop_gives (over_blocks (way_from t.reel forward) n).stop forward
        (n - (over_blocks (way_from t.reel forward) n).moved) []
    go false true = stop_gives (over_filemarks (way_from t.reel forward) n).stop forward
        (n - (over_filemarks (way_from t.reel forward) n).moved) []
    go false false = refl

pub is_given : (t : Tape) (sense : Sense) (c : TapeCommand) (sent : List ℕ)
    → IsGiven t sense c (tape_execution t sense c sent).reply.bytes
is_given t sense tapes.TestUnitReady sent = nothing tapes.TestUnitReady
is_given t sense tapes.Rewind sent = nothing tapes.Rewind
is_given t sense (tapes.RequestSense room) sent = a_sense room
is_given t sense (tapes.Read n) sent =
    let moved : ℕ = (over_blocks (way_from t.reel true) n).moved in
    subst (λ (bytes : List ℕ). IsGiven t sense (tapes.Read n) bytes)
    (sym (stop_gives (over_blocks (way_from t.reel true) n).stop true (n - moved) (bytes_ahead t.reel moved)))
    (blocks_ahead n moved (moved_few (way_from t.reel true) n))
is_given t sense (tapes.Write n) sent = subst (λ (bytes : List ℕ). IsGiven t sense (tapes.Write n) bytes)
    (sym (write_gives t n)) (nothing (tapes.Write n))
is_given t sense (tapes.Inquiry room) sent = an_inquiry room
is_given t sense (tapes.Filemarks n) sent = subst (λ (bytes : List ℕ). IsGiven t sense (tapes.Filemarks n) bytes)
    (sym (write_gives t n)) (nothing (tapes.Filemarks n))
is_given t sense (tapes.Space code count) sent =
    subst (λ (bytes : List ℕ). IsGiven t sense (tapes.Space code count) bytes)
    (sym (space_gives t code (is_forward count) (nat_abs count))) (nothing (tapes.Space code count))

-- ---- at most what the command needs comes back, where the blocks are whole; and of a write nothing

-- What a command may give at the line of its unit.
abbrev pub most_at_tape : TapeCommand → UnitDef → ℕ
most_at_tape c u = if is_tape_write (Ok c) then 0 else tape_moved_by (Ok c) (Some u)

whole_behind : (size n : ℕ) (objects : List Object) → AreWhole size objects → AreWhole size (drop n objects)
whole_behind size zero objects h = h
whole_behind size (suc n) [] h = tt
whole_behind size (suc n) (o ∷ objects) h = whole_behind size n objects h.1

whole_few : (size n : ℕ) (objects : List Object) → AreWhole size objects
    → length (bytes_of (take n objects)) ≤ n * size
whole_few size zero objects h = omega arith
whole_few size (suc n) [] h = omega arith
whole_few size (suc n) (block bytes ∷ objects) h =
    let rest = whole_few size n objects h.1 in
    let here = h.0 in
    let all = length-append bytes (bytes_of (take n objects)) in
    omega (arith, rest, here, all)
whole_few size (suc n) (filemark ∷ objects) h = let rest = whole_few size n objects h.1 in omega (arith, rest)

pub given_few : (t : Tape) (sense : Sense) (c : TapeCommand) (sent : List ℕ) (u : UnitDef) → t.size ≡ u.size
    → AreWhole t.size t.reel.objects → length (tape_execution t sense c sent).reply.bytes ≤ most_at_tape c u
given_few t sense c sent u size h = by c (tape_execution t sense c sent).reply.bytes (is_given t sense c sent)
  where
    none : (most : ℕ) → 0 ≤ most
    none most = omega arith

    taken : (n : ℕ) (bytes : List ℕ) → length (take n bytes) ≤ n
    taken n bytes = let long = length-take n bytes in omega (arith, long)

    by : (c : TapeCommand) (bytes : List ℕ) → IsGiven t sense c bytes → length bytes ≤ most_at_tape c u
    by _ _ (nothing c) = none (most_at_tape c u)
    by _ _ (a_sense room) = taken (min room SENSE_LEN) (sense_data sense)
    by _ _ (an_inquiry room) = taken (min room INQUIRY_LEN) tape_inquiry_data
    by _ _ (blocks_ahead n moved few) =
        let ahead = whole_few t.size moved (drop t.reel.position t.reel.objects)
        (whole_behind t.size t.reel.position t.reel.objects h) in
        let all : moved * t.size ≤ n * t.size = mul-le-mul_right t.size few in
        let line : n * t.size ≡ n * u.size = ap (λ (x : ℕ). n * x) size in
        omega (arith, ahead, all, line)

-- ---- few bytes come back, where the objects are few and short

short_few : (most : ℕ) (objects : List Object) → AreShort most objects
    → length (bytes_of objects) ≤ length objects * most
short_few most [] h = omega arith
short_few most (block bytes ∷ objects) h =
    let rest = short_few most objects h.1 in
    let here = h.0 in
    let all = length-append bytes (bytes_of objects) in
    omega (arith, rest, here, all)
short_few most (filemark ∷ objects) h = let rest = short_few most objects h.1 in omega (arith, rest)

-- Beside sense and inquiry data these are of blocks that stand there.
pub given_short : (t : Tape) (sense : Sense) (c : TapeCommand) (sent : List ℕ) (most : ℕ)
    → AreShort most t.reel.objects
    → length (tape_execution t sense c sent).reply.bytes ≤ INQUIRY_LEN + length t.reel.objects * most
given_short t sense c sent most h = by c (tape_execution t sense c sent).reply.bytes (is_given t sense c sent)
  where
    taken : (n m : ℕ) (bytes : List ℕ) → n ≤ INQUIRY_LEN → length (take (min m n) bytes) ≤ INQUIRY_LEN
    taken n m bytes few = let long = length-take (min m n) bytes in omega (arith, long, few)

    by : (c : TapeCommand) (bytes : List ℕ) → IsGiven t sense c bytes
        → length bytes ≤ INQUIRY_LEN + length t.reel.objects * most
    by _ _ (nothing c) = omega arith
    by _ _ (a_sense room) =
        let few = taken SENSE_LEN room (sense_data sense) (omega arith) in omega (arith, few)
    by _ _ (an_inquiry room) =
        let few = taken INQUIRY_LEN room tape_inquiry_data (omega arith) in omega (arith, few)
    by _ _ (blocks_ahead n moved less) =
        let behind : List Object = drop t.reel.position t.reel.objects in
        let few = short_few most (take moved behind)
        (all_front (IsShort most) moved behind (all_behind (IsShort most) t.reel.position t.reel.objects h)) in
        let front = length-take moved behind in
        let back : length behind ≡ length t.reel.objects - t.reel.position
        = length-drop t.reel.position t.reel.objects in
        let some : length (take moved behind) * most ≤ length t.reel.objects * most
        = mul-le-mul_right most (omega (arith, front, back)) in
        omega (arith, few, some)

-- ---- bytes in, bytes out

pub record GivesOfBytes (x : TapeExecution) : Type 0 where
  pub objects : AreOfBytes x.reel.objects
  pub bytes : AreBytes x.reply.bytes

tested : (bytes : List ℕ) → list_all (λ (b : ℕ). nat_lt b 256) bytes ≡ true → AreBytes bytes
tested [] e = tt
tested (b ∷ bytes) e = go (nat_lt b 256) refl e (λ z. tested bytes z)
  where
    below : (a : ℕ) → nat_lt a 256 ≡ true → a < 256
    below a z = grind (arith, nat_tests)

    go : (q : Bool) → nat_lt b 256 ≡ q → (q && list_all (λ (c : ℕ). nat_lt c 256) bytes) ≡ true
        → (list_all (λ (c : ℕ). nat_lt c 256) bytes ≡ true → AreBytes bytes) → AreBytes (b ∷ bytes)
    go true f z more = (below b f, more z)
    go false f z more = absurd cc

inquiry_bytes : AreBytes tape_inquiry_data
inquiry_bytes = tested tape_inquiry_data refl

pub given_bytes : (t : Tape) (sense : Sense) (c : TapeCommand) (sent : List ℕ) → AreOfBytes t.reel.objects
    → FitsSense sense → AreBytes sent → GivesOfBytes (tape_execution t sense c sent)
given_bytes t sense c sent h fits a = record {
  objects = objects_kept (λ (o : List Object). AreOfBytes o) (of_each IsOfBytes tt) t sense c sent h
      (λ n e well. blocks_of_bytes t.size n sent a);
  bytes = by c (tape_execution t sense c sent).reply.bytes (is_given t sense c sent);
}
  where
    by : (c : TapeCommand) (bytes : List ℕ) → IsGiven t sense c bytes → AreBytes bytes
    by _ _ (nothing c) = tt
    by _ _ (a_sense room) = bytes_front (min room SENSE_LEN) (sense_data sense) (data_are_bytes sense fits)
    by _ _ (an_inquiry room) = bytes_front (min room INQUIRY_LEN) tape_inquiry_data inquiry_bytes
    by _ _ (blocks_ahead n moved less) =
        let behind : List Object = drop t.reel.position t.reel.objects in
        bytes_in (take moved behind) (all_front IsOfBytes moved behind
        (all_behind IsOfBytes t.reel.position t.reel.objects h))
