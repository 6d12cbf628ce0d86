-- The loads of a tape, put on it one after the other.
use Rattle.std.proofs.Common.{ℕ, ◌≡◌, ◌≤◌, ◌+◌, Bool, true, false, List, [], ◌∷◌, ◌++◌, ◌∙◌, refl, sym, subst, length}
use Rattle.std.proofs.Common.{◌-◌, take, arith, append-nil, append_assoc, length-append}
use Rattle.std.specs.Prelude.{◌==◌, ◌&&◌, if◌then◌else◌}
use Rattle.std.proofs.lemmas.List.{take_all}
use Rattle.scenario.specs.declared.value.Load.{Load}
use Rattle.scenario.specs.declared.value.Load.TheVariants as loads
use Rattle.scenario.specs.declared.value.LoadDef.{LoadDef}
use Rattle.scenario.specs.declared.value.TapeDef.{TapeDef}
use Rattle.scenario.specs.declared.value.UnitDef.{UnitDef}
use Rattle.scenario.specs.Lookups.{tape_unit}
use Rattle.array_model.specs.Contents.{loaded_contents, loaded_objects, object_of}
use Rattle.array_model.specs.Execution.{tape_contents}
use Rattle.array_model.specs.Reels.{AreWhole, IsWhole, Object, block, filemarks}
use Rattle.array_model.specs.TapeExecution.{Tape, with_reel}
use Rattle.tape_unit.specs.Stored.{Store, with_blocks, with_tape}
use Rattle.tape_unit.specs.Tape.{blank_tape, with_objects}
use Rattle.target_units.specs.Loads.{AreLoaded, blocks_loaded, is_loaded_by, load_blocks}

-- With those that are left all of them stand on the tape, and they are whole, and have room and memory.
pub record IsLoading (t : TapeDef) (initial now : Store) (all left : List LoadDef) : Type 0 where
  pub whole : AreWhole now.tape.size (loaded_objects (tape_unit t) left)
  pub room : length now.tape.reel.objects + length (loaded_objects (tape_unit t) left) ≤ now.tape.capacity
  pub spare : blocks_loaded t left ≤ now.spare
  pub tape : with_objects now.tape (loaded_objects (tape_unit t) left)
      ≡ with_objects initial.tape (loaded_objects (tape_unit t) all)
  pub spent : initial.spare + blocks_loaded t left ≡ now.spare + blocks_loaded t all

-- ---- the first of those that are left

first_loaded : (u : UnitDef) (l : LoadDef) (rest : List LoadDef)
    → loaded_objects u (l ∷ rest) ≡ loaded_objects u (l ∷ []) ++ loaded_objects u rest
first_loaded u l rest = go (l.target == u.target && l.unit == u.unit)
  where
    go : (y : Bool)
        → (if y then object_of l.what ∷ loaded_objects u rest else loaded_objects u rest)
        ≡ (if y then object_of l.what ∷ [] else []) ++ loaded_objects u rest
    go true = refl
    go false = refl

whole_parts : (size : ℕ) (one more : List Object) → AreWhole size (one ++ more)
    → AreWhole size one × AreWhole size more
whole_parts size [] more h = (tt, h)
whole_parts size (object ∷ one) more h =
    let rest = whole_parts size one more h.1 in
    ((h.0, rest.0), rest.1)

-- It is whole, and has room and memory.
pub record Fits (t : TapeDef) (now : Store) (l : LoadDef) : Type 0 where
  pub whole : AreWhole now.tape.size (loaded_objects (tape_unit t) (l ∷ []))
  pub room : length now.tape.reel.objects + length (loaded_objects (tape_unit t) (l ∷ [])) ≤ now.tape.capacity
  pub spare : blocks_loaded t (l ∷ []) ≤ now.spare

pub one_fits : (t : TapeDef) (initial now : Store) (all left : List LoadDef) (l : LoadDef) (rest : List LoadDef)
    → left ≡ l ∷ rest → IsLoading t initial now all left → Fits t now l
one_fits t initial now all left l rest is h =
    let u : UnitDef = tape_unit t in
    let split : loaded_objects u left ≡ loaded_objects u (l ∷ []) ++ loaded_objects u rest =
    (λ i. loaded_objects u (is i)) ∙ first_loaded u l rest in
    let long : length (loaded_objects u left)
    ≡ length (loaded_objects u (l ∷ [])) + length (loaded_objects u rest) = (λ i. length (split i))
    ∙ length-append (loaded_objects u (l ∷ [])) (loaded_objects u rest) in
    let blocks : blocks_loaded t left
    ≡ (if is_loaded_by t l then load_blocks l.what else 0) + blocks_loaded t rest = λ i. blocks_loaded t (is i) in
    record {
      whole = (whole_parts now.tape.size (loaded_objects u (l ∷ [])) (loaded_objects u rest)
          (subst (λ (objects : List Object). AreWhole now.tape.size objects) split h.whole)).0;
      room = omega (arith, long, h.room);
      spare = omega (arith, blocks, h.spare);
    }

pub loading_more : (t : TapeDef) (initial old new : Store) (all left : List LoadDef) (l : LoadDef) (rest : List LoadDef)
    → left ≡ l ∷ rest → new.tape ≡ with_objects old.tape (loaded_objects (tape_unit t) (l ∷ []))
    → old.spare ≡ new.spare + blocks_loaded t (l ∷ []) → IsLoading t initial old all left
    → IsLoading t initial new all rest
loading_more t initial old new all left l rest is moved taken h =
    let u : UnitDef = tape_unit t in
    let one : List Object = loaded_objects u (l ∷ []) in
    let split : loaded_objects u left ≡ one ++ loaded_objects u rest =
    (λ i. loaded_objects u (is i)) ∙ first_loaded u l rest in
    let long : length (loaded_objects u left) ≡ length one + length (loaded_objects u rest) = (λ i. length (split i))
    ∙ length-append one (loaded_objects u rest) in
    let stand : length (old.tape.reel.objects ++ one) ≡ length old.tape.reel.objects + length one =
    length-append old.tape.reel.objects one in
    let blocks : blocks_loaded t left
    ≡ (if is_loaded_by t l then load_blocks l.what else 0) + blocks_loaded t rest = λ i. blocks_loaded t (is i) in
    subst (λ (x : Tape). IsLoading t initial (record { tape = x; spare = new.spare }) all rest) (sym moved) (record {
      whole = (whole_parts old.tape.size one (loaded_objects u rest)
          (subst (λ (objects : List Object). AreWhole old.tape.size objects) split h.whole)).1;
      room = omega (arith, long, stand, h.room);
      spare = omega (arith, blocks, taken, h.spare);
      tape = (λ i. with_reel old.tape (record {
        objects = append_assoc old.tape.reel.objects one (loaded_objects u rest) i;
        position = old.tape.reel.position;
      })) ∙ (λ i. with_objects old.tape (sym split i)) ∙ h.tape;
      spent = omega (arith, blocks, taken, h.spent);
    })

-- ---- none is left

none_more : (t : Tape) → with_objects t [] ≡ t
none_more t = λ i. with_reel t (record { objects = append-nil t.reel.objects i; position = t.reel.position })

pub loaded_all : (t : TapeDef) (initial now : Store) (all left : List LoadDef) → left ≡ []
    → IsLoading t initial now all left → now.tape ≡ with_objects initial.tape (loaded_objects (tape_unit t) all)
loaded_all t initial now all left none h =
    sym (none_more now.tape) ∙ (λ i. with_objects now.tape (loaded_objects (tape_unit t) (sym none i))) ∙ h.tape

pub spent_all : (t : TapeDef) (initial now : Store) (all left : List LoadDef) → left ≡ []
    → IsLoading t initial now all left → initial.spare ≡ now.spare + blocks_loaded t all
spent_all t initial now all left none h =
    let blocks : blocks_loaded t left ≡ 0 = λ i. blocks_loaded t (none i) in
    omega (arith, blocks, h.spent)

-- ---- one load

pub block_loaded : (old new : Store) (what : Load) (bytes given : List ℕ) → what ≡ loads.Block bytes → given ≡ bytes
    → IsWhole old.tape.size (object_of what) → load_blocks what ≤ old.spare → new ≡ with_blocks old 1 given
    → (new.tape ≡ with_objects old.tape (object_of what ∷ [])) × (old.spare ≡ new.spare + load_blocks what)
block_loaded old new what bytes given is same whole room moved =
    let long : length bytes ≡ old.tape.size = subst (λ (w : Load). IsWhole old.tape.size (object_of w)) is whole in
    let all : take old.tape.size given ≡ bytes = (λ i. take old.tape.size (same i))
    ∙ take_all old.tape.size bytes (omega (arith, long)) in
    let one : load_blocks what ≡ 1 = λ i. load_blocks (is i) in
    let left : new.spare ≡ old.spare - 1 = λ i. (moved i).spare in (
      (λ i. (moved i).tape) ∙ (λ i. with_objects old.tape (block (all i) ∷ []))
          ∙ (λ i. with_objects old.tape (object_of (sym is i) ∷ [])),
      omega (arith, one, left, room),
    )

pub mark_loaded : (old new : Store) (what : Load) → what ≡ loads.Mark
    → new ≡ with_tape old (with_objects old.tape (filemarks 1))
    → (new.tape ≡ with_objects old.tape (object_of what ∷ [])) × (old.spare ≡ new.spare + load_blocks what)
mark_loaded old new what is moved =
    let none : load_blocks what ≡ 0 = λ i. load_blocks (is i) in
    let left : new.spare ≡ old.spare = λ i. (moved i).spare in (
      (λ i. (moved i).tape) ∙ (λ i. with_objects old.tape (object_of (sym is i) ∷ [])),
      omega (arith, none, left),
    )

pub not_loaded : (t : TapeDef) (l : LoadDef) (tape : Tape) → is_loaded_by t l ≡ false
    → tape ≡ with_objects tape (loaded_objects (tape_unit t) (l ∷ []))
not_loaded t l tape e =
    sym (none_more tape) ∙ (λ i. with_objects tape (if sym e i then object_of l.what ∷ [] else []))

pub is_loaded : (t : TapeDef) (l : LoadDef) → is_loaded_by t l ≡ true
    → loaded_objects (tape_unit t) (l ∷ []) ≡ object_of l.what ∷ []
is_loaded t l e = λ i. if e i then object_of l.what ∷ [] else []

pub own_blocks : (t : TapeDef) (l : LoadDef) → is_loaded_by t l ≡ true
    → blocks_loaded t (l ∷ []) ≡ load_blocks l.what + 0
own_blocks t l e = λ i. (if e i then load_blocks l.what else 0) + 0

pub no_blocks : (t : TapeDef) (l : LoadDef) → is_loaded_by t l ≡ false → blocks_loaded t (l ∷ []) ≡ 0 + 0
no_blocks t l e = λ i. (if e i then load_blocks l.what else 0) + 0

-- ---- all of them, on a blank tape

-- A tape of this line, without an object, and with memory for the blocks of its loads and for so many more.
abbrev pub IsBlank : TapeDef → List LoadDef → ℕ → Store → Type 0
IsBlank t defs written made =
    made ≡ record { tape = blank_tape t.objects t.size; spare = blocks_loaded t defs + written }

pub record AllFit (t : TapeDef) (defs : List LoadDef) (made : Store) : Type 0 where
  pub whole : AreWhole made.tape.size (loaded_objects (tape_unit t) defs)
  pub room : length made.tape.reel.objects + length (loaded_objects (tape_unit t) defs) ≤ made.tape.capacity
  pub spare : blocks_loaded t defs ≤ made.spare

pub all_fit : (t : TapeDef) (defs : List LoadDef) (written : ℕ) (made : Store) → AreLoaded t defs
    → IsBlank t defs written made → AllFit t defs made
all_fit t defs written made h is = subst (λ (s : Store). AllFit t defs s) (sym is) (record {
  whole = h.whole;
  room = omega (arith, h.few);
  spare = omega arith;
})

pub loaded_is : (t : TapeDef) (defs : List LoadDef) (written : ℕ) (made new : Store) → IsBlank t defs written made
    → new.tape ≡ with_objects made.tape (loaded_objects (tape_unit t) defs)
    → tape_contents new.tape ≡ loaded_contents (tape_unit t) defs
loaded_is t defs written made new is moved =
    (λ i. tape_contents (moved i)) ∙ (λ i. tape_contents (with_objects (is i).tape (loaded_objects (tape_unit t) defs)))

pub spare_left : (t : TapeDef) (defs : List LoadDef) (written : ℕ) (made new : Store) → IsBlank t defs written made
    → made.spare ≡ new.spare + blocks_loaded t defs → written ≤ new.spare
spare_left t defs written made new is spent =
    let all : made.spare ≡ blocks_loaded t defs + written = λ i. (is i).spare in
    omega (arith, all, spent)
