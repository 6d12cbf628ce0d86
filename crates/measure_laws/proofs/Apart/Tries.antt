-- What a calling that is not answered leaves of what is still to come: one try of its item, or the item itself, is
-- over.
use Rattle.measure_laws.proofs
use proofs.Names.{ℕ, zero, suc, ◌≡◌, ◌≤◌, ◌∙◌, Bool, true, false, ◌&&◌, List, [], ◌∷◌, Option, Some, refl, sym, ap}
use proofs.Names.{subst, arith, nat_tests, same_Some, list_any, not, ◌||◌, ◌+◌, ◌-◌, ◌*◌, ◌==◌, if◌then◌else◌, nat_lt}
use proofs.Names.{plus_none, ScenarioValue, AbortDef, CmdDef, command_at, data_runs, abort_line_at, Item, Sent, abort}
use proofs.Names.{command_id, command_item, count_item, has_item, is_done, process, same_item, sense_item, Story}
use proofs.Names.{is_counted, retries_of, story_with_try, story_without_answer, ProcessProgress, progress_in, none_some}
use proofs.Names.{plus_one, item_is, self_item, abort_left, aborts_left, bytes_after, open_left, sense_left}
use proofs.Names.{serves_item, unsent_left, for_byte, for_calling, for_item, for_reselection}
use proofs.Apart.Future.{command_by, commands_by}

-- ---- what is sent after it

-- It may be tried again, or is given up.
abbrev pub sent_if : Bool → Sent → Item → Sent
sent_if true b i = record b { over = i ∷ b.over; tries = i ∷ b.tries }
sent_if false b i = record b { tries = i ∷ b.tries }

abbrev pub gives_up_at : ScenarioValue → Sent → ℕ → Item → Bool
gives_up_at s b dev i = is_counted i && nat_lt (retries_of s.hosts dev) (count_item (i ∷ b.tries) i)

pub try_sent : (s : ScenarioValue) (b : Story) (dev : ℕ) (i : Item)
    → (story_with_try s b dev (Some i)).sent ≡ sent_if (gives_up_at s b.sent dev i) b.sent i
try_sent s b dev i = go (gives_up_at s b.sent dev i) i
  where
    next : Item → Story
    next x = record b { sent = record b.sent { tries = x ∷ b.sent.tries } }

    go : (q : Bool) (x : Item) → (if q then story_without_answer (next x) x else next x).sent ≡ sent_if q b.sent x
    go true (process id) = refl
    go true (abort k) = refl
    go false x = refl

-- ---- numbers

abbrev count_more : Bool → ℕ → ℕ
count_more e t = if e then t + 1 else t

fewer : (e : Bool) (r t x : ℕ) → for_calling * (r + 1 - count_more e t) + x ≤ for_calling * (r + 1 - t) + x
fewer true r t x = omega arith
fewer false r t x = omega arith

paid : (r t x : ℕ) → nat_lt r (t + 1) ≡ false → for_calling * (r + 1 - (t + 1)) + x + 64 ≤ for_calling * (r + 1 - t) + x
paid r t x e = grind (arith, nat_tests)

same : (a : ℕ) → a ≤ a
same a = omega arith

sum_le : (a b c d : ℕ) → a ≤ b → c ≤ d → a + c ≤ b + d
sum_le a b c d f g = omega (arith, f, g)

first_pays : (a b c d : ℕ) → a + 64 ≤ b → c ≤ d → a + c + 64 ≤ b + d
first_pays a b c d f g = omega (arith, f, g)

rest_pays : (a b c d : ℕ) → a ≤ b → c + 64 ≤ d → a + c + 64 ≤ b + d
rest_pays a b c d f g = omega (arith, f, g)

-- ---- a command

sense_most : (b : Sent) (i : ℕ) → sense_left b i ≤ 4096
sense_most b i = go (list_any (λ m. m == i) b.checks && not (is_done b (sense_item i)))
  where
    go : (q : Bool) → (let x : ℕ = if q then for_item else 0 in x) ≤ 4096
    go true = omega arith
    go false = omega arith

-- A sense that is over is not to come.
sense_less : (b : Sent) (i : Item) (l : ℕ) → sense_left (sent_if true b i) l ≤ sense_left b l
sense_less b i l = go (list_any (λ m. m == l) b.checks) (has_item b.sent (sense_item l)) (same_item i (sense_item l))
    (has_item b.over (sense_item l))
  where
    go : (c x y z : Bool) → (let v : ℕ = if c && not (x || (y || z)) then for_item else 0 in v)
        ≤ (let v : ℕ = if c && not (x || z) then for_item else 0 in v)
    go false x y z = omega arith
    go true true y z = omega arith
    go true false false z = same _
    go true false true true = omega arith
    go true false true false = omega arith

abbrev rest_of : ScenarioValue → CmdDef → ℕ
rest_of s c = 2 * for_item + for_reselection * (data_runs s c + 1) + for_byte * bytes_after s c 0

command_le : (s : ScenarioValue) (b : Sent) (served : Option Item) (moves : Bool) (made : List ProcessProgress)
    (q : Bool) (i : Item) (l : ℕ) (c : CmdDef) → has_item b.sent i ≡ false → has_item b.over i ≡ false
    → command_by s (sent_if q b i) served moves made l c ≤ command_by s b served moves made l c
command_le s b served moves made false i l c unsent opens =
    go (has_item b.over (command_item l)) (has_item b.sent (command_item l))
  where
    go : (x y : Bool) → (let v : ℕ = if x then sense_left (sent_if false b i) l
        else if y then open_left s (serves_item served (command_item l)) moves (progress_in made (command_id l)).runs c
        else unsent_left s (sent_if false b i) l c in v) ≤ (let v : ℕ = if x then sense_left b l
        else if y then open_left s (serves_item served (command_item l)) moves (progress_in made (command_id l)).runs c
        else unsent_left s b l c in v)
    go true y = same _
    go false true = same _
    go false false = fewer (same_item i (command_item l)) (retries_of s.hosts c.host)
        (count_item b.tries (command_item l)) (rest_of s c)
command_le s b served moves made true i l c unsent opens = by (same_item i (command_item l)) refl
  where
    kept : (x y : Bool) → (let v : ℕ = if x then sense_left (sent_if true b i) l
        else if y then open_left s (serves_item served (command_item l)) moves (progress_in made (command_id l)).runs c
        else unsent_left s (sent_if true b i) l c in v) ≤ (let v : ℕ = if x then sense_left b l
        else if y then open_left s (serves_item served (command_item l)) moves (progress_in made (command_id l)).runs c
        else unsent_left s b l c in v)
    kept true y = sense_less b i l
    kept false true = same _
    kept false false = fewer (same_item i (command_item l)) (retries_of s.hosts c.host)
        (count_item b.tries (command_item l)) (rest_of s c)

    by : (e : Bool) → same_item i (command_item l) ≡ e
        → command_by s (sent_if true b i) served moves made l c ≤ command_by s b served moves made l c
    by false e =
        subst (λ (x : Bool). (let v : ℕ = if x || has_item b.over (command_item l) then sense_left (sent_if true b i) l
        else if has_item b.sent (command_item l)
        then open_left s (serves_item served (command_item l)) moves (progress_in made (command_id l)).runs c
        else unsent_left s (sent_if true b i) l c in v) ≤ command_by s b served moves made l c) (sym e)
        (kept (has_item b.over (command_item l)) (has_item b.sent (command_item l)))
    by true e = whole
      where
        it : i ≡ command_item l
        it = item_is i (command_item l) e

        before : command_by s b served moves made l c ≡ unsent_left s b l c
        before = λ j. if (ap (has_item b.over) (sym it) ∙ opens) j then sense_left b l
            else if (ap (has_item b.sent) (sym it) ∙ unsent) j
            then open_left s (serves_item served (command_item l)) moves (progress_in made (command_id l)).runs c
            else unsent_left s b l c

        after : command_by s (sent_if true b i) served moves made l c ≡ sense_left (sent_if true b i) l
        after = ap (λ (x : Bool). if x || has_item b.over (command_item l) then sense_left (sent_if true b i) l
            else if has_item b.sent (command_item l)
            then open_left s (serves_item served (command_item l)) moves (progress_in made (command_id l)).runs c
            else unsent_left s (sent_if true b i) l c) e

        small : (x y z : ℕ) → x ≤ 4096 → x ≤ y + (2 * for_item + z)
        small x y z h = omega (arith, h)

        runs : ℕ
        runs = for_reselection * (data_runs s c + 1) + for_byte * bytes_after s c 0

        assoc : (y r m : ℕ) → y + (2 * for_item + (r + m)) ≡ y + (2 * for_item + r + m)
        assoc y r m = omega arith

        whole : command_by s (sent_if true b i) served moves made l c ≤ command_by s b served moves made l c
        whole = subst (λ x. x ≤ command_by s b served moves made l c) (sym after) (subst
            (λ x. sense_left (sent_if true b i) l ≤ x) (sym before) (subst (λ x. sense_left (sent_if true b i) l ≤ x)
            (assoc (for_calling * (retries_of s.hosts c.host + 1 - count_item b.tries (command_item l)))
            (for_reselection * (data_runs s c + 1)) (for_byte * bytes_after s c 0))
            (small (sense_left (sent_if true b i) l)
            (for_calling * (retries_of s.hosts c.host + 1 - count_item b.tries (command_item l))) runs
            (sense_most (sent_if true b i) l))))

-- The command that was called for: 64 less.
command_pays : (s : ScenarioValue) (b : Sent) (served : Option Item) (moves : Bool) (made : List ProcessProgress)
    (q : Bool) (i : Item) (l : ℕ) (c : CmdDef) → has_item b.sent i ≡ false → has_item b.over i ≡ false
    → i ≡ command_item l → (q ≡ false → nat_lt (retries_of s.hosts c.host) (count_item b.tries i + 1) ≡ false)
    → command_by s (sent_if q b i) served moves made l c + 64 ≤ command_by s b served moves made l c
command_pays s b served moves made q i l c unsent opens it few =
    subst (λ x. command_by s (sent_if q b i) served moves made l c + 64 ≤ x) (sym before) (by q few)
  where
    own : same_item i (command_item l) ≡ true
    own = ap (λ (x : Item). same_item i x) (sym it) ∙ self_item i

    before : command_by s b served moves made l c ≡ unsent_left s b l c
    before = λ j. if (ap (has_item b.over) (sym it) ∙ opens) j then sense_left b l
        else if (ap (has_item b.sent) (sym it) ∙ unsent) j
        then open_left s (serves_item served (command_item l)) moves (progress_in made (command_id l)).runs c
        else unsent_left s b l c

    tries : ℕ
    tries = count_item b.tries (command_item l)

    small : (x y r m : ℕ) → x ≤ 4096 → x + 64 ≤ y + (2 * for_item + r + m)
    small x y r m h = omega (arith, h)

    by : (q : Bool) → (q ≡ false → nat_lt (retries_of s.hosts c.host) (count_item b.tries i + 1) ≡ false)
        → command_by s (sent_if q b i) served moves made l c + 64 ≤ unsent_left s b l c
    by true f = subst (λ x. x + 64 ≤ unsent_left s b l c)
        (sym (ap (λ (x : Bool). if x || has_item b.over (command_item l) then sense_left (sent_if true b i) l
        else if has_item b.sent (command_item l)
        then open_left s (serves_item served (command_item l)) moves (progress_in made (command_id l)).runs c
        else unsent_left s (sent_if true b i) l c) own))
        (small (sense_left (sent_if true b i) l) (for_calling * (retries_of s.hosts c.host + 1 - tries))
        (for_reselection * (data_runs s c + 1)) (for_byte * bytes_after s c 0) (sense_most (sent_if true b i) l))
    by false f = subst (λ x. x + 64 ≤ unsent_left s b l c)
        (sym (λ j. if (ap (has_item b.over) (sym it) ∙ opens) j then sense_left (sent_if false b i) l
        else if (ap (has_item b.sent) (sym it) ∙ unsent) j
        then open_left s (serves_item served (command_item l)) moves (progress_in made (command_id l)).runs c
        else (for_calling * (retries_of s.hosts c.host + 1 - count_more (own j) tries) + rest_of s c)))
        (paid (retries_of s.hosts c.host) tries (rest_of s c)
        (ap (λ (x : Item). nat_lt (retries_of s.hosts c.host) (count_item b.tries x + 1)) (sym it) ∙ f refl))

-- ---- all commands

pub commands_le : (s : ScenarioValue) (b : Sent) (served : Option Item) (moves : Bool) (made : List ProcessProgress)
    (q : Bool) (i : Item) (m : ℕ) (commands : List CmdDef) → has_item b.sent i ≡ false → has_item b.over i ≡ false
    → commands_by s (sent_if q b i) served moves made m commands ≤ commands_by s b served moves made m commands
commands_le s b served moves made q i m [] unsent opens = omega arith
commands_le s b served moves made q i m (c ∷ commands) unsent opens = sum_le
    (command_by s (sent_if q b i) served moves made m c) (command_by s b served moves made m c)
    (commands_by s (sent_if q b i) served moves made (m + 1) commands)
    (commands_by s b served moves made (m + 1) commands) (command_le s b served moves made q i m c unsent opens)
    (commands_le s b served moves made q i (m + 1) commands unsent opens)

pub commands_pay : (s : ScenarioValue) (b : Sent) (served : Option Item) (moves : Bool)
    (made : List ProcessProgress) (q : Bool) (i : Item) (m l : ℕ) (commands : List CmdDef) (c : CmdDef)
    → has_item b.sent i ≡ false → has_item b.over i ≡ false → command_at commands (suc m) ≡ Some c
    → i ≡ command_item (l + m) → (q ≡ false → nat_lt (retries_of s.hosts c.host) (count_item b.tries i + 1) ≡ false)
    → commands_by s (sent_if q b i) served moves made l commands + 64 ≤ commands_by s b served moves made l commands
commands_pay s b served moves made q i m l [] c unsent opens at it few = none_some c at
commands_pay s b served moves made q i zero l (d ∷ commands) c unsent opens at it few = first_pays
    (command_by s (sent_if q b i) served moves made l d) (command_by s b served moves made l d) (commands_by s
    (sent_if q b i) served moves made (l + 1) commands) (commands_by s b served moves made (l + 1) commands)
    (command_pays s b served moves made q i l d unsent opens (it ∙ ap command_item (plus_none l)) (λ z.
    ap (λ (x : CmdDef). nat_lt (retries_of s.hosts x.host) (count_item b.tries i + 1)) (same_Some d c at) ∙ few z))
    (commands_le s b served moves made q i (l + 1) commands unsent opens)
commands_pay s b served moves made q i (suc m) l (d ∷ commands) c unsent opens at it few = rest_pays
    (command_by s (sent_if q b i) served moves made l d) (command_by s b served moves made l d) (commands_by s
    (sent_if q b i) served moves made (l + 1) commands) (commands_by s b served moves made (l + 1) commands)
    (command_le s b served moves made q i l d unsent opens) (commands_pay s b served moves made q i m
    (l + 1) commands c unsent opens at (it ∙ ap command_item (plus_one l m)) few)

-- ---- aborts

abbrev abort_by : ScenarioValue → AbortDef → Bool → ℕ → ℕ
abort_by s a done t = if done then 0 else for_calling * (retries_of s.hosts a.host + 1 - t) + for_item

abort_le : (s : ScenarioValue) (b : Sent) (q : Bool) (i : Item) (m : ℕ) (a : AbortDef)
    → abort_left s (sent_if q b i) m a ≤ abort_left s b m a
abort_le s b true i m a = by (has_item b.sent (abort m)) (same_item i (abort m)) (has_item b.over (abort m))
  where
    by : (x e y : Bool) → abort_by s a (x || (e || y)) (count_more e (count_item b.tries (abort m)))
        ≤ abort_by s a (x || y) (count_item b.tries (abort m))
    by true e y = omega arith
    by false true y = omega arith
    by false false true = omega arith
    by false false false = fewer false (retries_of s.hosts a.host) (count_item b.tries (abort m)) for_item
abort_le s b false i m a = by (is_done b (abort m)) (same_item i (abort m))
  where
    by : (x e : Bool)
        → abort_by s a x (count_more e (count_item b.tries (abort m))) ≤ abort_by s a x (count_item b.tries (abort m))
    by true e = omega arith
    by false e = fewer e (retries_of s.hosts a.host) (count_item b.tries (abort m)) for_item

given_pays : (r t : ℕ) → 0 + 64 ≤ for_calling * (r + 1 - t) + for_item
given_pays r t = omega arith

-- The abort that was called for.
abort_pays : (s : ScenarioValue) (b : Sent) (q : Bool) (i : Item) (m : ℕ) (a : AbortDef) → is_done b (abort m) ≡ false
    → i ≡ abort m → (q ≡ false → nat_lt (retries_of s.hosts a.host) (count_item b.tries i + 1) ≡ false)
    → abort_left s (sent_if q b i) m a + 64 ≤ abort_left s b m a
abort_pays s b q i m a new it few = subst (λ x. abort_left s (sent_if q b i) m a + 64 ≤ x)
    (sym (ap (λ (x : Bool). abort_by s a x (count_item b.tries (abort m))) new)) (by q few)
  where
    own : same_item i (abort m) ≡ true
    own = ap (λ (x : Item). same_item i x) (sym it) ∙ self_item i

    or_yes : (x y : Bool) → (x || (true || y)) ≡ true
    or_yes true y = refl
    or_yes false y = refl

    by : (q : Bool) → (q ≡ false → nat_lt (retries_of s.hosts a.host) (count_item b.tries i + 1) ≡ false)
        → abort_left s (sent_if q b i) m a + 64 ≤ abort_by s a false (count_item b.tries (abort m))
    by true f = subst (λ x. x + 64 ≤ abort_by s a false (count_item b.tries (abort m)))
        (sym ((λ j. abort_by s a (has_item b.sent (abort m) || (own j || has_item b.over (abort m)))
        (count_item (i ∷ b.tries) (abort m))) ∙ ap (λ (x : Bool). abort_by s a x (count_item (i ∷ b.tries) (abort m)))
        (or_yes (has_item b.sent (abort m)) (has_item b.over (abort m)))))
        (given_pays (retries_of s.hosts a.host) (count_item b.tries (abort m)))
    by false f = subst (λ x. x + 64 ≤ abort_by s a false (count_item b.tries (abort m)))
        (sym (λ j. abort_by s a (new j) (count_more (own j) (count_item b.tries (abort m)))))
        (paid (retries_of s.hosts a.host) (count_item b.tries (abort m)) for_item
        (ap (λ (x : Item). nat_lt (retries_of s.hosts a.host) (count_item b.tries x + 1)) (sym it) ∙ f refl))

pub aborts_le : (s : ScenarioValue) (b : Sent) (q : Bool) (i : Item) (m : ℕ) (aborts : List AbortDef)
    → aborts_left s (sent_if q b i) m aborts ≤ aborts_left s b m aborts
aborts_le s b q i m [] = omega arith
aborts_le s b q i m (a ∷ aborts) = sum_le (abort_left s (sent_if q b i) m a) (abort_left s b m a)
    (aborts_left s (sent_if q b i) (m + 1) aborts) (aborts_left s b (m + 1) aborts) (abort_le s b q i m a)
    (aborts_le s b q i (m + 1) aborts)

pub aborts_pay : (s : ScenarioValue) (b : Sent) (q : Bool) (i : Item) (m l : ℕ) (aborts : List AbortDef) (a : AbortDef)
    → is_done b i ≡ false → abort_line_at aborts (suc m) ≡ Some a → i ≡ abort (l + m)
    → (q ≡ false → nat_lt (retries_of s.hosts a.host) (count_item b.tries i + 1) ≡ false)
    → aborts_left s (sent_if q b i) l aborts + 64 ≤ aborts_left s b l aborts
aborts_pay s b q i m l [] a new at it few = none_some a at
aborts_pay s b q i zero l (d ∷ aborts) a new at it few =
    let here : i ≡ abort l = it ∙ ap (λ x. abort x) (plus_none l) in
    first_pays (abort_left s (sent_if q b i) l d) (abort_left s b l d) (aborts_left s (sent_if q b i) (l + 1) aborts)
    (aborts_left s b (l + 1) aborts) (abort_pays s b q i l d (ap (is_done b) (sym here) ∙ new) here (λ z.
    ap (λ (x : AbortDef). nat_lt (retries_of s.hosts x.host) (count_item b.tries i + 1)) (same_Some d a at) ∙ few z))
    (aborts_le s b q i (l + 1) aborts)
aborts_pay s b q i (suc m) l (d ∷ aborts) a new at it few = rest_pays (abort_left s (sent_if q b i) l d)
    (abort_left s b l d) (aborts_left s (sent_if q b i) (l + 1) aborts) (aborts_left s b (l + 1) aborts)
    (abort_le s b q i l d) (aborts_pay s b q i m (l + 1) aborts a new at (it ∙ ap (λ x. abort x) (plus_one l m)) few)
