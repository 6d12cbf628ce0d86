-- What stands ahead of the position, and what a walk over it reads.
use Rattle.std.proofs.Common.{ℕ, zero, suc, ◌≡◌, ◌+◌, ◌-◌, ◌*◌, ◌≤◌, Bool, true, false, List, [], ◌∷◌, ◌++◌, ◌∙◌, refl}
use Rattle.std.proofs.Common.{sym, ap, subst, arith}
use Rattle.std.proofs.Common.{length, take, drop, append_assoc}
use Rattle.std.specs.Prelude.{min}
use Rattle.std.proofs.lemmas.List.{take-append-drop, take-append-le, drop-append-le, length-append, length-drop}
use Rattle.std.proofs.lemmas.List.{length-take, length-reverse}
use Rattle.std.proofs.Math.Nat.{suc-mul, mul-le-mul_right, mul-le-mul_left}
use Rattle.disk_unit.specs.Plans.{plan_of}
use Rattle.array_model.specs.declared.walk.Stop.{Stop}
use Rattle.array_model.specs.declared.walk.Stop.TheVariants as stops
use Rattle.array_model.specs.Reels.{Object, block, filemark, Reel, filemarks_in, way_from, over_blocks, bytes_of}
use Rattle.array_model.specs.Reels.{bytes_from, bytes_ahead}
use Rattle.array_model.specs.Reels.{AreWhole}
use Rattle.array_model.specs.declared.walk.Walk.{Walk}
use Rattle.array_model.specs.TapeExecution.{Tape, stop_reply, read_execution}
use Rattle.tape_unit.specs.Tape.{stop_plan}

-- ---- how many there are

pub length_filemarks : (objects : List Object) → length (filemarks_in objects) ≡ length objects
length_filemarks [] = refl
length_filemarks (object ∷ objects) = ap suc (length_filemarks objects)

pub length_ahead : (r : Reel) → length (way_from r true) ≡ length r.objects - r.position
length_ahead r =
    length-drop r.position (filemarks_in r.objects) ∙ (λ i. length_filemarks r.objects i - r.position)

pub length_behind : (r : Reel) → length (way_from r false) ≡ min r.position (length r.objects)
length_behind r =
    length-reverse (take r.position (filemarks_in r.objects))
    ∙ length-take r.position (filemarks_in r.objects) ∙ (λ i. min r.position (length_filemarks r.objects i))

filemarks_drop : (p : ℕ) (objects : List Object) → drop p (filemarks_in objects) ≡ filemarks_in (drop p objects)
filemarks_drop zero objects = refl
filemarks_drop (suc p) [] = refl
filemarks_drop (suc p) (object ∷ objects) = filemarks_drop p objects

whole_drop : (size p : ℕ) (objects : List Object) → AreWhole size objects → AreWhole size (drop p objects)
whole_drop size zero objects w = w
whole_drop size (suc p) [] w = tt
whole_drop size (suc p) (object ∷ objects) w = whole_drop size p objects w.1

pub moved_within : (marks : List Bool) (n : ℕ) → (over_blocks marks n).moved ≤ length marks
moved_within marks zero = omega arith
moved_within [] (suc n) = omega arith
moved_within (true ∷ marks) (suc n) = omega arith
moved_within (false ∷ marks) (suc n) = omega (arith, moved_within marks n)

-- ---- bytes

walked : (size n : ℕ) (objects : List Object) → AreWhole size objects
    → length (bytes_of (take (over_blocks (filemarks_in objects) n).moved objects))
    ≡ (over_blocks (filemarks_in objects) n).moved * size
walked size zero objects w = omega arith
walked size (suc n) [] w = omega arith
walked size (suc n) (filemark ∷ objects) w = omega arith
walked size (suc n) (block bytes ∷ objects) w =
    let k : ℕ = (over_blocks (filemarks_in objects) n).moved in
    let rest : length (bytes_of (take k objects)) ≡ k * size = walked size n objects w.1 in
    let both : length (bytes ++ bytes_of (take k objects)) ≡ length bytes + length (bytes_of (take k objects))
    = length-append bytes (bytes_of (take k objects)) in
    let one : length bytes ≡ size = w.0 in
    let more : suc k * size ≡ k * size + size = suc-mul k size in
    omega arith

-- A walk over blocks reads those that it moves over.
pub length_read : (size : ℕ) (r : Reel) (n : ℕ) → AreWhole size r.objects
    → length (bytes_ahead r (over_blocks (way_from r true) n).moved) ≡ (over_blocks (way_from r true) n).moved * size
length_read size r n w =
    let P : List Bool → Type 0 = λ marks. length (bytes_ahead r (over_blocks marks n).moved)
    ≡ (over_blocks marks n).moved * size in
    subst P (sym (filemarks_drop r.position r.objects)) (walked size n (drop r.position r.objects)
    (whole_drop size r.position r.objects w))

bytes_append : (xs ys : List Object) → bytes_of (xs ++ ys) ≡ bytes_of xs ++ bytes_of ys
bytes_append [] ys = refl
bytes_append (filemark ∷ xs) ys = bytes_append xs ys
bytes_append (block bytes ∷ xs) ys =
    ap (λ (l : List ℕ). bytes ++ l) (bytes_append xs ys) ∙ sym (append_assoc bytes (bytes_of xs) (bytes_of ys))

bytes_split : (r : Reel) (k : ℕ) → bytes_from r ≡ bytes_ahead r k ++ bytes_of (drop k (drop r.position r.objects))
bytes_split r k =
    ap bytes_of (sym (take-append-drop k (drop r.position r.objects)))
    ∙ bytes_append (take k (drop r.position r.objects)) (drop k (drop r.position r.objects))

pub read_fits : (r : Reel) (k m : ℕ) → m ≤ length (bytes_ahead r k) → m ≤ length (bytes_from r)
read_fits r k m l =
    let rest : List ℕ = bytes_of (drop k (drop r.position r.objects)) in
    let e : length (bytes_from r) ≡ length (bytes_ahead r k ++ rest) = ap length (bytes_split r k) in
    let both : length (bytes_ahead r k ++ rest) ≡ length (bytes_ahead r k) + length rest
    = length-append (bytes_ahead r k) rest in
    omega arith

pub read_part : (r : Reel) (k at m : ℕ) → at + m ≤ length (bytes_ahead r k)
    → take m (drop at (bytes_from r)) ≡ take m (drop at (bytes_ahead r k))
read_part r k at m l =
    let rest : List ℕ = bytes_of (drop k (drop r.position r.objects)) in
    let left : length (drop at (bytes_ahead r k)) ≡ length (bytes_ahead r k) - at = length-drop at (bytes_ahead r k) in
    (λ i. take m (drop at (bytes_split r k i)))
    ∙ (λ i. take m (drop-append-le at (bytes_ahead r k) rest (omega arith) i))
    ∙ take-append-le m (drop at (bytes_ahead r k)) rest (omega arith)

-- ---- how a walk ends

pub stop_plan_of : (stop : Stop) (forward : Bool) (left n : ℕ) (bytes : List ℕ) → length bytes ≡ n
    → stop_plan stop forward left n ≡ plan_of (stop_reply stop forward left bytes) 0
stop_plan_of stops.Count forward left n bytes e =
    λ i. record (plan_of (stop_reply stops.Count forward left []) 0) { in_len = sym e i }
stop_plan_of stops.Filemark forward left n bytes e =
    λ i. record (plan_of (stop_reply stops.Filemark forward left []) 0) { in_len = sym e i }
stop_plan_of stops.Edge forward left n bytes e =
    λ i. record (plan_of (stop_reply stops.Edge forward left []) 0) { in_len = sym e i }

pub stop_bytes : (stop : Stop) (forward : Bool) (left : ℕ) (bytes : List ℕ)
    → (stop_reply stop forward left bytes).bytes ≡ bytes
stop_bytes stops.Count forward left bytes = refl
stop_bytes stops.Filemark forward left bytes = refl
stop_bytes stops.Edge forward left bytes = refl

-- ---- bytes of blocks

pub bytes_few : (n size : ℕ) → n ≤ 65536 → size ≤ 2048 → n * size ≤ 134217728
bytes_few n size l h = omega (arith, mul-le-mul_right size l, mul-le-mul_left 65536 h)

-- ---- what READ gives

pub read_bytes_are : (t : Tape) (n : ℕ) → (read_execution t n (over_blocks (way_from t.reel true) n)).reply.bytes
    ≡ bytes_ahead t.reel (over_blocks (way_from t.reel true) n).moved
read_bytes_are t n =
    let w : Walk = over_blocks (way_from t.reel true) n in
    stop_bytes w.stop true (n - w.moved) (bytes_ahead t.reel w.moved)

pub read_reaches :
    (t : Tape) (n m : ℕ) → m ≤ length (read_execution t n (over_blocks (way_from t.reel true) n)).reply.bytes
    → m ≤ length (bytes_from t.reel)
read_reaches t n m l =
    let k : ℕ = (over_blocks (way_from t.reel true) n).moved in
    let same : length (read_execution t n (over_blocks (way_from t.reel true) n)).reply.bytes
    ≡ length (bytes_ahead t.reel k) = ap length (read_bytes_are t n) in
    read_fits t.reel k m (omega (arith, same, l))

pub read_gives : (t : Tape) (n at m : ℕ)
    → at + m ≤ length (read_execution t n (over_blocks (way_from t.reel true) n)).reply.bytes
    → take m (drop at (bytes_from t.reel))
    ≡ take m (drop at (read_execution t n (over_blocks (way_from t.reel true) n)).reply.bytes)
read_gives t n at m l =
    let k : ℕ = (over_blocks (way_from t.reel true) n).moved in
    let same : length (read_execution t n (over_blocks (way_from t.reel true) n)).reply.bytes
    ≡ length (bytes_ahead t.reel k) = ap length (read_bytes_are t n) in
    read_part t.reel k at m (omega (arith, same, l)) ∙ (λ i. take m (drop at (sym (read_bytes_are t n) i)))

pub plan_of_read : (t : Tape) (n size : ℕ) (w : Walk) → w ≡ over_blocks (way_from t.reel true) n → size ≡ t.size
    → AreWhole t.size t.reel.objects → stop_plan w.stop true (n - w.moved) (w.moved * size)
    ≡ plan_of (read_execution t n (over_blocks (way_from t.reel true) n)).reply 0
plan_of_read t n size w e s whole = (λ i. stop_plan (e i).stop true (n - (e i).moved) ((e i).moved * s i))
    ∙ (let k : Walk = over_blocks (way_from t.reel true) n in stop_plan_of k.stop true (n - k.moved) (k.moved * t.size)
    (bytes_ahead t.reel k.moved) (length_read t.size t.reel n whole))
