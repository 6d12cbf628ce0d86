-- A connection begins: a selection is paid by its item, which is sent now; a reselection by that its target serves the
-- command again.
use Rattle.measure_laws.proofs
use proofs.Names.{ℕ, zero, suc, ◌≡◌, ◌≤◌, ◌∙◌, Bool, true, false, ◌&&◌, List, [], ◌∷◌, Some, refl, sym, ap, subst}
use proofs.Names.{arith, list_any, ◌+◌, ◌-◌, ◌*◌, not, ◌||◌, ◌==◌, if◌then◌else◌, wrong, wrong', ScenarioValue}
use proofs.Names.{AbortDef, CmdDef, data_runs, abort_line_at, Item, Sent, abort, command_item, count_item, has_item}
use proofs.Names.{is_done, same_item, sense_item, retries_of, none_some, plus_one, own_has, abort_left, aborts_left}
use proofs.{Names.{bytes_after, open_left, sense_left, unsent_left}, Lines.Lowers.{left_by}}

-- ---- an item is sent

abbrev pub sent_more : Sent → Item → Sent
sent_more b item = record b { sent = item ∷ b.sent }

done_more : (b : Sent) (item i : Item) → is_done b i ≡ true → is_done (sent_more b item) i ≡ true
done_more b item i e = go (same_item item i) (has_item b.sent i) (has_item b.over i) e
  where
    go : (q r t : Bool) → (r || t) ≡ true → ((q || r) || t) ≡ true
    go true r t z = refl
    go false r t z = z

own_done : (b : Sent) (item : Item) → is_done (sent_more b item) item ≡ true
own_done b item = ap (λ (q : Bool). q || has_item b.over item) (own_has item b.sent)

sense_more : (b : Sent) (item : Item) (i : ℕ) → sense_left (sent_more b item) i ≤ sense_left b i
sense_more b item i = go (list_any (λ m. m == i) b.checks) (is_done b (sense_item i))
    (is_done (sent_more b item) (sense_item i)) (done_more b item (sense_item i))
  where
    go : (x u v : Bool) → (u ≡ true → v ≡ true) → (if x && not v then 4096 else 0) ≤ (if x && not u then 4096 else 0)
    go false u v f = omega arith
    go true u true f = omega arith
    go true true false f = wrong' (f refl)
    go true false false f = omega arith

-- A command other than the item.
pub other_sent : (s : ScenarioValue) (b : Sent) (item : Item) (x y m : ℕ) (c : CmdDef)
    → same_item item (command_item m) ≡ false → x ≤ y → left_by s (sent_more b item) x m c ≤ left_by s b y m c
other_sent s b item x y m c e less =
    go (has_item b.over (command_item m)) (same_item item (command_item m)) e (has_item b.sent (command_item m))
  where
    go : (a q : Bool) → q ≡ false → (r : Bool)
        → (if a then sense_left (sent_more b item) m else if q || r then x else unsent_left s (sent_more b item) m c)
        ≤ (if a then sense_left b m else if r then y else unsent_left s b m c)
    go true q z r = sense_more b item m
    go false false z true = less
    go false false z false = omega arith
    go false true z r = wrong z

-- The command itself, which was neither sent nor over, and has made no run.
pub command_sent : (s : ScenarioValue) (b : Sent) (y m : ℕ) (c : CmdDef)
    → has_item b.over (command_item m) ≡ false → has_item b.sent (command_item m) ≡ false
    → left_by s (sent_more b (command_item m)) (open_left s true false 0 c) m c + 5120 ≤ left_by s b y m c
command_sent s b y m c over sent =
    let own = own_has (command_item m) b.sent in
    let after : left_by s (sent_more b (command_item m)) (open_left s true false 0 c) m c ≡ open_left s true false 0 c =
    λ i. if over i then sense_left (sent_more b (command_item m)) m
    else if own i then open_left s true false 0 c else unsent_left s (sent_more b (command_item m)) m c in
    let before : left_by s b y m c ≡ unsent_left s b m c = λ i. if over i then sense_left b m
    else if sent i then y else unsent_left s b m c in
    let w : open_left s true false 0 c + 5120 ≤ unsent_left s b m c = by
    (64 * (retries_of s.hosts c.host + 1 - count_item b.tries (command_item m))) (data_runs s c) (bytes_after s c 0) in
    omega arith
  where
    by : (a r y : ℕ) → 1024 * (r - 0 + 0) + 8 * y + 4096 + 5120 ≤ a + (2 * 4096 + 1024 * (r + 1) + 8 * y)
    by a r y = omega arith

-- Its automatic REQUEST SENSE.
pub sense_sent : (s : ScenarioValue) (b : Sent) (x y l : ℕ) (c : CmdDef) → has_item b.over (command_item l) ≡ true
    → list_any (λ m. m == l) b.checks ≡ true → is_done b (sense_item l) ≡ false
    → left_by s (sent_more b (sense_item l)) x l c + 4096 ≤ left_by s b y l c
sense_sent s b x y l c over checked undone =
    let after : left_by s (sent_more b (sense_item l)) x l c ≡ 0 =
    (λ i. if over i then sense_left (sent_more b (sense_item l)) l
    else if has_item (sense_item l ∷ b.sent) (command_item l) then x
    else unsent_left s (sent_more b (sense_item l)) l c)
    ∙ (λ i. if checked i && not (own_done b (sense_item l) i) then 4096 else 0) in
    let before : left_by s b y l c ≡ 4096 =
    (λ i. if over i then sense_left b l else if has_item b.sent (command_item l) then y else unsent_left s b l c)
    ∙ (λ i. if checked i && not (undone i) then 4096 else 0) in
    omega arith

-- ---- aborts

pub aborts_sent : (s : ScenarioValue) (b : Sent) (item : Item) (m : ℕ) (aborts : List AbortDef)
    → aborts_left s (sent_more b item) m aborts ≤ aborts_left s b m aborts
aborts_sent s b item m [] = omega arith
aborts_sent s b item m (a ∷ aborts) =
    let rest = aborts_sent s b item (m + 1) aborts in
    let one = go (is_done b (abort m)) (is_done (sent_more b item) (abort m)) (done_more b item (abort m)) in
    omega arith
  where
    x : ℕ
    x = 64 * (retries_of s.hosts a.host + 1 - count_item b.tries (abort m)) + 4096

    go : (u v : Bool) → (u ≡ true → v ≡ true) → (if v then 0 else x) ≤ (if u then 0 else x)
    go u true f = omega arith
    go true false f = wrong' (f refl)
    go false false f = omega arith

pub abort_sent : (s : ScenarioValue) (b : Sent) (l i : ℕ) (a : AbortDef) (aborts : List AbortDef)
    → abort_line_at aborts (suc i) ≡ Some a → is_done b (abort (l + i)) ≡ false
    → aborts_left s (sent_more b (abort (l + i))) l aborts + 4096 ≤ aborts_left s b l aborts
abort_sent s b l i a [] at undone = none_some a at
abort_sent s b l zero a (x ∷ aborts) at undone =
    let same : l + 0 ≡ l = omega arith in
    let rest = aborts_sent s b (abort l) (l + 1) aborts in
    let open_ : is_done b (abort l) ≡ false = ap (λ (m : ℕ). is_done b (abort m)) (sym same) ∙ undone in
    let before : abort_left s b l x ≡ 64 * (retries_of s.hosts x.host + 1 - count_item b.tries (abort l)) + 4096 =
    λ i. if open_ i then 0 else 64 * (retries_of s.hosts x.host + 1 - count_item b.tries (abort l)) + 4096 in
    let after : abort_left s (sent_more b (abort l)) l x ≡ 0 = λ i. if own_done b (abort l) i then 0
    else 64 * (retries_of s.hosts x.host + 1 - count_item b.tries (abort l)) + 4096 in
    subst (λ (m : ℕ). aborts_left s (sent_more b (abort m)) l (x ∷ aborts) + 4096 ≤ aborts_left s b l (x ∷ aborts))
    (sym same) (add (abort_left s (sent_more b (abort l)) l x) (abort_left s b l x)
    (64 * (retries_of s.hosts x.host + 1 - count_item b.tries (abort l)))
    (aborts_left s (sent_more b (abort l)) (l + 1) aborts) (aborts_left s b (l + 1) aborts) after before rest)
  where
    add : (a b x c d : ℕ) → a ≡ 0 → b ≡ x + 4096 → c ≤ d → a + c + 4096 ≤ b + d
    add a b x c d e f g = omega arith
abort_sent s b l (suc i) a (x ∷ aborts) at undone =
    let moved = plus_one l i in
    let rest = abort_sent s b (l + 1) i a aborts at (ap (λ (m : ℕ). is_done b (abort m)) (sym moved) ∙ undone) in
    let one = go (is_done b (abort l)) (is_done (sent_more b (abort (l + suc i))) (abort l))
    (done_more b (abort (l + suc i)) (abort l)) in
    add (abort_left s (sent_more b (abort (l + suc i))) l x) (abort_left s b l x)
    (aborts_left s (sent_more b (abort (l + suc i))) (l + 1) aborts) (aborts_left s b (l + 1) aborts) one
    (subst (λ (m : ℕ). aborts_left s (sent_more b (abort m)) (l + 1) aborts + 4096 ≤ aborts_left s b (l + 1) aborts)
    (sym moved) rest)
  where
    w : ℕ
    w = 64 * (retries_of s.hosts x.host + 1 - count_item b.tries (abort l)) + 4096

    go : (u v : Bool) → (u ≡ true → v ≡ true) → (if v then 0 else w) ≤ (if u then 0 else w)
    go u true f = omega arith
    go true false f = wrong' (f refl)
    go false false f = omega arith

    add : (a b c d : ℕ) → a ≤ b → c + 4096 ≤ d → a + c + 4096 ≤ b + d
    add a b c d e f = omega arith
