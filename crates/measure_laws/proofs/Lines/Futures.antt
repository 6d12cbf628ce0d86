-- What is still to come of commands, compared command by command: it falls where each falls or stays, and where one of
-- them pays.
use Rattle.measure_laws.proofs
use proofs.Names.{ℕ, zero, suc, ◌≡◌, ◌≢◌, ◌≤◌, ◌<◌, ◌∙◌, Bool, true, false, List, [], ◌∷◌, refl, sym, subst, arith}
use proofs.Names.{Some, length, None, same_Some, ◌+◌, ◌*◌, if◌then◌else◌, ScenarioValue, CmdDef, command_at, Sent}
use proofs.Names.{command_id, command_item, has_item, is_open, progress_in, RunState, none_some, aborts_left}
use proofs.Names.{command_left, commands_left, future_left, is_in_data, open_left, resets_left, sense_left, serves_item}
use proofs.{Names.{unsent_left, for_fault, for_reset}, Lines.Lowers.{Lowers, aborts_lower, left_by, one_lowers}}

-- ---- a list of commands

-- What is left of a command while it is open.
abbrev pub open_of : ScenarioValue → RunState → ℕ → CmdDef → ℕ
open_of s k m c =
    open_left s (serves_item k.served (command_item m)) (is_in_data k) (progress_in k.progress (command_id m)).runs c

-- No command of the list has more left, by its number.
abbrev pub NoneMore : ScenarioValue → RunState → RunState → ℕ → List CmdDef → Type 0
NoneMore s j k m commands = (i : ℕ) (c : CmdDef) → command_at commands (suc i) ≡ Some c
    → command_left s j (m + i) c ≤ command_left s k (m + i) c

next_none : (s : ScenarioValue) (j k : RunState) (l : ℕ) (c : CmdDef) (commands : List CmdDef)
    → NoneMore s j k l (c ∷ commands) → NoneMore s j k (l + 1) commands
next_none s j k l c commands h i d at =
    let moved : l + suc i ≡ l + 1 + i = omega arith in
    subst (λ (m : ℕ). command_left s j m d ≤ command_left s k m d) moved (h (suc i) d at)

here_none : (s : ScenarioValue) (j k : RunState) (i : ℕ) (c : CmdDef) (commands : List CmdDef)
    → NoneMore s j k i (c ∷ commands) → command_left s j i c ≤ command_left s k i c
here_none s j k i c commands h =
    let same : i + 0 ≡ i = omega arith in
    subst (λ (m : ℕ). command_left s j m c ≤ command_left s k m c) same (h 0 c refl)

pub none_more : (s : ScenarioValue) (j k : RunState) (m : ℕ) (commands : List CmdDef) → NoneMore s j k m commands
    → commands_left s j m commands ≤ commands_left s k m commands
none_more s j k m [] h = omega arith
none_more s j k m (c ∷ commands) h =
    let one = here_none s j k m c commands h in
    let rest = none_more s j k (m + 1) commands (next_none s j k m c commands h) in
    omega arith

-- But for one of them, m, which has e more and g less.
abbrev pub OneBut : ScenarioValue → RunState → RunState → ℕ → ℕ → List CmdDef → Type 0
OneBut s j k m l commands = (i : ℕ) (c : CmdDef) → command_at commands (suc i) ≡ Some c → l + i ≢ m
    → command_left s j (l + i) c ≤ command_left s k (l + i) c

next_but : (s : ScenarioValue) (j k : RunState) (m l : ℕ) (c : CmdDef) (commands : List CmdDef)
    → OneBut s j k m l (c ∷ commands) → OneBut s j k m (l + 1) commands
next_but s j k m l c commands h i d at ne =
    let moved : l + suc i ≡ l + 1 + i = omega arith in
    subst (λ (x : ℕ). command_left s j x d ≤ command_left s k x d) moved (h (suc i) d at (λ e. ne (sym moved ∙ e)))

-- Those after it.
after_but : (s : ScenarioValue) (j k : RunState) (m l : ℕ) (commands : List CmdDef) → m < l → OneBut s j k m l commands
    → NoneMore s j k l commands
after_but s j k m l commands lt h i c at = h i c at (λ e. absurd (omega arith))

swap_two : (a b c d g e : ℕ) → a + g ≤ b + e → c ≤ d → a + c + g ≤ b + d + e
swap_two a b c d g e h f = omega arith

swap_rest : (a b c d g e : ℕ) → a ≤ b → c + g ≤ d + e → a + c + g ≤ b + d + e
swap_rest a b c d g e h f = omega arith

pub one_but : (s : ScenarioValue) (j k : RunState) (g e l i : ℕ) (c : CmdDef) (commands : List CmdDef)
    → command_at commands (suc i) ≡ Some c → OneBut s j k (l + i) l commands
    → command_left s j (l + i) c + g ≤ command_left s k (l + i) c + e
    → commands_left s j l commands + g ≤ commands_left s k l commands + e
one_but s j k g e l i c [] at h own = none_some c at
one_but s j k g e l zero c (x ∷ commands) at h own =
    let same : l + 0 ≡ l = omega arith in
    let is : x ≡ c = same_Some x c at in
    let one = subst (λ (m : ℕ). command_left s j m x + g ≤ command_left s k m x + e) same
    (subst (λ (d : CmdDef). command_left s j (l + 0) d + g ≤ command_left s k (l + 0) d + e) (sym is) own) in
    let rest = none_more s j k (l + 1) commands
    (after_but s j k (l + 0) (l + 1) commands (omega arith) (next_but s j k (l + 0) l x commands h)) in
    swap_two (command_left s j l x) (command_left s k l x) (commands_left s j (l + 1) commands)
    (commands_left s k (l + 1) commands) g e one rest
one_but s j k g e l (suc i) c (x ∷ commands) at h own =
    let moved : l + suc i ≡ l + 1 + i = omega arith in
    let same : l + 0 ≡ l = omega arith in
    let one = subst (λ (m : ℕ). command_left s j m x ≤ command_left s k m x) same
    (h 0 x refl (λ z. absurd (omega arith))) in
    let rest = one_but s j k g e (l + 1) i c commands at
    (subst (λ (m : ℕ). OneBut s j k m (l + 1) commands) moved (next_but s j k (l + suc i) l x commands h))
    (subst (λ (m : ℕ). command_left s j m c + g ≤ command_left s k m c + e) moved own) in
    swap_rest (command_left s j l x) (command_left s k l x) (commands_left s j (l + 1) commands)
    (commands_left s k (l + 1) commands) g e one rest

-- ---- all commands of the scenario, counted from 1

pub all_commands : (s : ScenarioValue) (j k : RunState)
    → ((l : ℕ) (c : CmdDef) → command_at s.commands l ≡ Some c → command_left s j l c ≤ command_left s k l c)
    → commands_left s j 1 s.commands ≤ commands_left s k 1 s.commands
all_commands s j k h = none_more s j k 1 s.commands
    (λ i c at. subst (λ (m : ℕ). command_left s j m c ≤ command_left s k m c) (one_more i) (h (suc i) c at))
  where
    one_more : (i : ℕ) → suc i ≡ 1 + i
    one_more i = omega arith

pub but_one_command : (s : ScenarioValue) (j k : RunState) (g e m : ℕ) (c : CmdDef) → command_at s.commands m ≡ Some c
    → ((w : ℕ) (d : CmdDef) → command_at s.commands w ≡ Some d → w ≢ m → command_left s j w d ≤ command_left s k w d)
    → command_left s j m c + g ≤ command_left s k m c + e
    → commands_left s j 1 s.commands + g ≤ commands_left s k 1 s.commands + e
but_one_command s j k g e zero c at h own = none_some c (sym (none_at s.commands) ∙ at)
  where
    none_at : (commands : List CmdDef) → command_at commands 0 ≡ None
    none_at [] = refl
    none_at (x ∷ commands) = refl
but_one_command s j k g e (suc i) c at h own = one_but s j k g e 1 i c s.commands at
    (λ l d there ne. subst (λ (m : ℕ). command_left s j m d ≤ command_left s k m d)
    (one_more l) (h (suc l) d there (λ z. ne (sym (one_more l) ∙ z ∙ one_more i))))
    (subst (λ (m : ℕ). command_left s j m c + g ≤ command_left s k m c + e) (one_more i) own)
  where
    one_more : (i : ℕ) → suc i ≡ 1 + i
    one_more i = omega arith

-- ---- what events leave of a command

open_many : (s : ScenarioValue) (k : RunState) (m : ℕ) (c : CmdDef) → 4096 ≤ open_of s k m c
open_many s k m c = omega arith

pub command_lowers : (s : ScenarioValue) (j k : RunState) (m : ℕ) (c : CmdDef) → Lowers k.story.sent j.story.sent
    → (is_open j.story.sent m ≡ true → open_of s j m c ≤ open_of s k m c) → command_left s j m c ≤ command_left s k m c
command_lowers s j k m c h less =
    one_lowers s k.story.sent j.story.sent (open_of s j m c) (open_of s k m c) m c h (open_many s k m c) less

left_more : (s : ScenarioValue) (b : Sent) (y e m : ℕ) (c : CmdDef) → left_by s b (y + e) m c ≤ left_by s b y m c + e
left_more s b y e m c = go (has_item b.over (command_item m)) (has_item b.sent (command_item m))
  where
    go : (r q : Bool) → (if r then sense_left b m else if q then y + e else unsent_left s b m c)
        ≤ (if r then sense_left b m else if q then y else unsent_left s b m c) + e
    go true q = omega arith
    go false true = omega arith
    go false false = omega arith

-- The same where its target lets it go: e more.
pub command_waits : (s : ScenarioValue) (j k : RunState) (e m : ℕ) (c : CmdDef)
    → Lowers k.story.sent j.story.sent → (is_open j.story.sent m ≡ true → open_of s j m c ≤ open_of s k m c + e)
    → command_left s j m c ≤ command_left s k m c + e
command_waits s j k e m c h less =
    let one = one_lowers s k.story.sent j.story.sent (open_of s j m c)
    (open_of s k m c + e) m c h (many (open_of s k m c) e (open_many s k m c)) less in
    let two = left_more s k.story.sent (open_of s k m c) e m c in
    chain (command_left s j m c) (left_by s k.story.sent (open_of s k m c + e) m c) (command_left s k m c + e) one two
  where
    many : (x e : ℕ) → 4096 ≤ x → 4096 ≤ x + e
    many x e h = omega arith

    chain : (a b c : ℕ) → a ≤ b → b ≤ c → a ≤ c
    chain a b c h g = omega arith

-- ---- all of it

-- A row whose events end items, with which no command that stays open has more left, and g of the resets are paid.
pub record FallsBy (s : ScenarioValue) (j k : RunState) (g : ℕ) : Type 0 where
  pub sent : Lowers k.story.sent j.story.sent
  pub «open» : (m : ℕ) (c : CmdDef) → command_at s.commands m ≡ Some c → is_open j.story.sent m ≡ true
      → open_of s j m c ≤ open_of s k m c
  pub resets : resets_left j s.resets + g ≤ resets_left k s.resets
  pub faults : j.faults ≡ k.faults

sum_falls : (c d a b r q g f : ℕ) → c ≤ d → a ≤ b → r + g ≤ q → c + a + 64 * r + f + 64 * g ≤ d + b + 64 * q + f
sum_falls c d a b r q g f x y z = omega arith

pub future_falls : (s : ScenarioValue) (j k : RunState) (g : ℕ) → FallsBy s j k g
    → future_left s j + 64 * g ≤ future_left s k
future_falls s j k g h =
    let commands = all_commands s j k (λ n c at. command_lowers s j k n c h.sent (λ o. h.«open» n c at o)) in
    let aborts = aborts_lower s k.story.sent j.story.sent 1 s.aborts h.sent in
    let same : for_fault s * length j.faults ≡ for_fault s * length k.faults = λ i. for_fault s * length (h.faults i) in
    subst (λ (x : ℕ). commands_left s j 1 s.commands + aborts_left s j.story.sent 1 s.aborts
    + for_reset * resets_left j s.resets + x + 64 * g ≤ future_left s k) (sym same)
    (sum_falls (commands_left s j 1 s.commands) (commands_left s k 1 s.commands) (aborts_left s j.story.sent 1 s.aborts)
    (aborts_left s k.story.sent 1 s.aborts) (resets_left j s.resets) (resets_left k s.resets) g
    (for_fault s * length k.faults) commands aborts h.resets)
