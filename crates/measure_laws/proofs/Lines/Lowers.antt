-- What events leave of the scenario's lines: they only end items, so what is still to come of commands and aborts falls
-- with them or stays.
use Rattle.measure_laws.proofs
use proofs.Names.{inl, inr, ℕ, ◌≡◌, ◌≤◌, ◌⊎◌, ◌∙◌, Bool, true, false, List, [], ◌∷◌, refl, sym, ap, arith, ◌&&◌}
use proofs.Names.{list_any, ◌+◌, ◌-◌, ◌*◌, ◌==◌, ◌||◌, ◌++◌, not, if◌then◌else◌, ⊤, wrong, wrong', Event, ProcId}
use proofs.Names.{CHECK_CONDITION, ScenarioValue, AbortDef, CmdDef, Item, Sent, abort, command_item, count_item}
use proofs.Names.{has_item, is_done, is_open, process, sense_item, Ending, Story, by_abort, by_reset, by_status}
use proofs.Names.{is_aborted, is_sense_stopped, story_after_event, story_after_events, story_with_end, story_with_ends}
use proofs.Names.{story_with_over, with_check, retries_of, not_unless, in_append, more_has, aborts_left, sense_left}
use proofs.Names.{unsent_left}

-- ---- what is sent and tried stays, what is over stays so, and who newly ended with CHECK CONDITION was not over

pub record Lowers (a b : Sent) : Type 0 where
  pub sent : b.sent ≡ a.sent
  pub tries : b.tries ≡ a.tries
  pub over : (i : Item) → has_item a.over i ≡ true → has_item b.over i ≡ true
  pub checks : (m : ℕ) → list_any (λ k. k == m) b.checks ≡ true
      → (list_any (λ k. k == m) a.checks ≡ true) ⊎ (has_item a.over (command_item m) ≡ false)

pub lowers_same : (a b : Sent) → b ≡ a → Lowers a b
lowers_same a b e = record {
  sent = ap (λ (x : Sent). x.sent) e;
  tries = ap (λ (x : Sent). x.tries) e;
  over = λ i z. ap (λ (x : Sent). has_item x.over i) e ∙ z;
  checks = λ n z. inl (ap (λ (x : Sent). list_any (λ k. k == n) x.checks) (sym e) ∙ z);
}

pub lowers_on : (a b c : Sent) → Lowers a b → Lowers b c → Lowers a c
lowers_on a b c h g = record {
  sent = g.sent ∙ h.sent;
  tries = g.tries ∙ h.tries;
  over = λ i z. g.over i (h.over i z);
  checks = λ n z. elim (g.checks n z) [
    | inl x ↦ h.checks n x
    | inr x ↦ inr
        (not_unless (has_item a.over (command_item n)) (has_item b.over (command_item n)) (h.over (command_item n)) x)
  ];
}

over_lowers : (a : Sent) (item : Item) → Lowers a (record a { over = item ∷ a.over })
over_lowers a item = record { sent = refl; tries = refl; over = λ i z. more_has item i a.over z; checks = λ n z. inl z }

-- ---- an event; one that ends a command is the first that does

abbrev pub EndsFirst : Story → Event → Type 0
EndsFirst b (Event.End id status) = id.sense ≡ false → has_item b.sent.over (process id) ≡ false
EndsFirst b _ = ⊤

end_lowers : (b : Story) (id : ProcId) (status : ℕ) → (id.sense ≡ false → has_item b.sent.over (process id) ≡ false)
    → Lowers b.sent (with_check (story_with_end b id (by_status status)) id status).sent
end_lowers b id status first = go id.sense refl (status == CHECK_CONDITION)
  where
    ended : Story
    ended = story_with_end b id (by_status status)

    plain : Lowers b.sent ended.sent
    plain = over_lowers b.sent (process id)

    go : (q : Bool) → id.sense ≡ q → (r : Bool) → Lowers b.sent
        (if not q && r then record ended { sent = record ended.sent { checks = ended.sent.checks ++ id.command ∷ [] } }
        else ended).sent
    go true z r = plain
    go false z false = plain
    go false z true = record {
      sent = refl;
      tries = refl;
      over = plain.over;
      checks = λ n f. elim (in_append n id.command b.sent.checks f) [
        | inl x ↦ inl x
        | inr x ↦ inr ((λ i. has_item b.sent.over (process (record { command = sym x i; sense = sym z i }))) ∙ first z)
      ];
    }

one_end : (q r : Bool) (m : ℕ) (e : Ending) (b : Story)
    → Lowers b.sent (if q then story_with_end b (record { command = m; sense = false }) e
    else if r then story_with_over b (sense_item m) else b).sent
one_end true r m e b = over_lowers b.sent (command_item m)
one_end false true m e b = over_lowers b.sent (sense_item m)
one_end false false m e b = lowers_same b.sent b.sent refl

ends_lower : (drops stops : CmdDef → Bool) (e : Ending) (m : ℕ) (commands : List CmdDef) (b : Story)
    → Lowers b.sent (story_with_ends drops stops e m commands b).sent
ends_lower drops stops e m [] b = lowers_same b.sent b.sent refl
ends_lower drops stops e m (c ∷ commands) b =
    let next : Story = if is_open b.sent m && drops c then story_with_end b (record { command = m; sense = false }) e
    else if stops c && list_any (λ k. k == m) b.sent.checks then story_with_over b (sense_item m) else b in
    lowers_on b.sent next.sent (story_with_ends drops stops e (m + 1) commands next).sent
    (one_end (is_open b.sent m && drops c) (stops c && list_any (λ k. k == m) b.sent.checks) m e b)
    (ends_lower drops stops e (m + 1) commands next)

pub event_lowers : (s : ScenarioValue) (b : Story) (event : Event) → EndsFirst b event
    → Lowers b.sent (story_after_event s b event).sent
event_lowers s b (Event.End id status) h = end_lowers b id status h
event_lowers s b (Event.Lost id) h = over_lowers b.sent (process id)
event_lowers s b (Event.Aborted host target unit what) h =
    ends_lower (is_aborted host target unit what) (is_sense_stopped host target unit what) by_abort 1 s.commands b
event_lowers s b (Event.Reset dev) h = ends_lower (λ c. true) (λ c. true) by_reset 1 s.commands b
event_lowers s b _ h = lowers_same b.sent b.sent refl

-- All events of a row.
abbrev pub EndFirst : ScenarioValue → Story → List Event → Type 0
EndFirst s b [] = ⊤
EndFirst s b (event ∷ shown) = EndsFirst (story_after_events s b shown) event × EndFirst s b shown

pub events_lower : (s : ScenarioValue) (b : Story) (shown : List Event) → EndFirst s b shown
    → Lowers b.sent (story_after_events s b shown).sent
events_lower s b [] h = lowers_same b.sent b.sent refl
events_lower s b (event ∷ shown) h = lowers_on b.sent (story_after_events s b shown).sent
    (story_after_events s b (event ∷ shown)).sent (events_lower s b shown h.1)
    (event_lowers s (story_after_events s b shown) event h.0)

-- ---- what is left of a command, by what is sent and what is left of it while it is open

abbrev pub left_by : ScenarioValue → Sent → ℕ → ℕ → CmdDef → ℕ
left_by s b there m c =
    if has_item b.over (command_item m) then sense_left b m
    else if has_item b.sent (command_item m) then there
    else unsent_left s b m c

done_more : (a b : Sent) (i : Item) → Lowers a b → is_done a i ≡ true → is_done b i ≡ true
done_more a b i h e =
    ap (λ (x : List Item). has_item x i || has_item b.over i) h.sent
    ∙ go (has_item a.sent i) (has_item a.over i) (has_item b.over i) (h.over i) e
  where
    go : (q r t : Bool) → (r ≡ true → t ≡ true) → (q || r) ≡ true → (q || t) ≡ true
    go true r t f z = refl
    go false r t f z = f z

-- The automatic REQUEST SENSE of a command that is over.
pub sense_lowers : (a b : Sent) (i : ℕ) → Lowers a b → has_item a.over (command_item i) ≡ true
    → sense_left b i ≤ sense_left a i
sense_lowers a b i h o = go (list_any (λ m. m == i) a.checks) (list_any (λ m. m == i) b.checks)
    (is_done a (sense_item i)) (is_done b (sense_item i)) checked (done_more a b (sense_item i) h)
  where
    checked : list_any (λ m. m == i) b.checks ≡ true → list_any (λ m. m == i) a.checks ≡ true
    checked z = elim (h.checks i z) [
      | inl x ↦ x
      | inr x ↦ wrong (sym o ∙ x)
    ]

    go : (x y u v : Bool) → (y ≡ true → x ≡ true) → (u ≡ true → v ≡ true)
        → (if y && not v then 4096 else 0) ≤ (if x && not u then 4096 else 0)
    go x false u v f g = omega arith
    go x true u true f g = omega arith
    go true true true false f g = wrong' (g refl)
    go true true false false f g = omega arith
    go false true u false f g = wrong' (f refl)

sense_few : (b : Sent) (i : ℕ) → sense_left b i ≤ 4096
sense_few b i = go (list_any (λ m. m == i) b.checks && not (is_done b (sense_item i)))
  where
    go : (q : Bool) → (if q then 4096 else 0) ≤ 4096
    go true = omega arith
    go false = omega arith

unsent_many : (s : ScenarioValue) (b : Sent) (m : ℕ) (c : CmdDef) → 4096 ≤ unsent_left s b m c
unsent_many s b m c = omega arith

-- A command: what is left of it while it is open, y before and x after.
pub one_lowers : (s : ScenarioValue) (a b : Sent) (x y m : ℕ) (c : CmdDef) → Lowers a b → 4096 ≤ y
    → (is_open b m ≡ true → x ≤ y) → left_by s b x m c ≤ left_by s a y m c
one_lowers s a b x y m c h many less = go (has_item a.over (command_item m)) refl
    (has_item b.over (command_item m)) refl (has_item a.sent (command_item m)) refl
  where
    same : unsent_left s b m c ≡ unsent_left s a m c
    same = ap (λ (z : List Item). unsent_left s (record b { tries = z }) m c) h.tries

    few : sense_left b m ≤ 4096
    few = sense_few b m

    go : (d : Bool) → has_item a.over (command_item m) ≡ d → (q : Bool) → has_item b.over (command_item m) ≡ q
        → (r : Bool) → has_item a.sent (command_item m) ≡ r → left_by s b x m c ≤ left_by s a y m c
    go d ep q eq r er = over (λ i. has_item (h.sent i) (command_item m)) d ep q eq r er
      where
        over : has_item b.sent (command_item m) ≡ has_item a.sent (command_item m)
            → (d : Bool) → has_item a.over (command_item m) ≡ d → (q : Bool) → has_item b.over (command_item m) ≡ q
            → (r : Bool) → has_item a.sent (command_item m) ≡ r → left_by s b x m c ≤ left_by s a y m c
        over es d ep q eq r er =
            subst2 (by d q r (λ z. h.over (command_item m) (ep ∙ z)) ep eq er (es ∙ er))
          where
            shape_b : left_by s b x m c ≡ (if q then sense_left b m else if r then x else unsent_left s b m c)
            shape_b = λ i. if eq i then sense_left b m else if (es ∙ er) i then x else unsent_left s b m c

            shape_a : left_by s a y m c ≡ (if d then sense_left a m else if r then y else unsent_left s a m c)
            shape_a = λ i. if ep i then sense_left a m else if er i then y else unsent_left s a m c

            subst2 : (if q then sense_left b m else if r then x else unsent_left s b m c)
                ≤ (if d then sense_left a m else if r then y else unsent_left s a m c)
                → left_by s b x m c ≤ left_by s a y m c
            subst2 z = let u = shape_b in let v = shape_a in omega arith

            by : (d q r : Bool) → (d ≡ true → has_item b.over (command_item m) ≡ true)
                → has_item a.over (command_item m) ≡ d → has_item b.over (command_item m) ≡ q
                → has_item a.sent (command_item m) ≡ r → has_item b.sent (command_item m) ≡ r
                → (if q then sense_left b m else if r then x else unsent_left s b m c)
                ≤ (if d then sense_left a m else if r then y else unsent_left s a m c)
            by true true r f u v w t = sense_lowers a b m h u
            by true false r f u v w t = wrong (sym (f refl) ∙ v)
            by false true true f u v w t = let k = few in omega arith
            by false true false f u v w t = let k = few in let l = (unsent_many s a m c) in omega arith
            by false false true f u v w t = less (λ i. t i && not (v i))
            by false false false f u v w t = let k = same in omega arith

-- ---- aborts

pub aborts_lower : (s : ScenarioValue) (a b : Sent) (m : ℕ) (aborts : List AbortDef) → Lowers a b
    → aborts_left s b m aborts ≤ aborts_left s a m aborts
aborts_lower s a b m [] h = omega arith
aborts_lower s a b m (d ∷ aborts) h =
    let rest = aborts_lower s a b (m + 1) aborts h in
    let one = go (is_done a (abort m)) (is_done b (abort m)) (done_more a b (abort m) h) in
    omega arith
  where
    same : 64 * (retries_of s.hosts d.host + 1 - count_item b.tries (abort m)) + 4096
        ≡ 64 * (retries_of s.hosts d.host + 1 - count_item a.tries (abort m)) + 4096
    same = ap (λ (z : List Item). 64 * (retries_of s.hosts d.host + 1 - count_item z (abort m)) + 4096) h.tries

    go : (u v : Bool) → (u ≡ true → v ≡ true)
        → (if v then 0 else 64 * (retries_of s.hosts d.host + 1 - count_item b.tries (abort m)) + 4096)
        ≤ (if u then 0 else 64 * (retries_of s.hosts d.host + 1 - count_item a.tries (abort m)) + 4096)
    go u true f = omega arith
    go true false f = wrong' (f refl)
    go false false f = let k = same in omega arith
