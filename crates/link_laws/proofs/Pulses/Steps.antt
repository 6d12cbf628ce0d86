-- The pulses of a phase, from row to row.
use Rattle.link_laws.proofs
use proofs.Names.{◌⊎◌, inl, inr, ℕ, ◌≡◌, ◌≤◌, ◌<◌, ◌+◌, ◌^◌, Bool, true, false, ◌==◌, ◌∙◌, List, [], ◌∷◌, ◌++◌, length}
use proofs.Names.{drop, Option, Some, None, refl, ap, subst, arith, ltb-true, nat_tests, if◌then◌else◌, nat_lt}
use proofs.Names.{next_some, zero_of, counted_on, times_of, times_or_slow, fast_times, slow_times, push_length}
use proofs.Names.{Handshakes, opened, asked, answered, no_handshakes, first_of, or_now, Request, Reached, PulseFacts}
use proofs.Names.{target_time, NoSooner}

pub count_more : (r : ℕ) → r + 1 < 2 ^ 64 → counted_on r ≡ r + 1
count_more r h = grind (arith, nat_tests)

-- One more byte of a run is asked for.
pub more_asked : (r run : ℕ) → nat_lt r run ≡ true → run < 2 ^ 64 → r + 1 < 2 ^ 64
more_asked r run e short = let less = ltb-true r run e in omega arith

-- ---- the requests that wait

pub opened_is : (t : ℕ) (w : List Request) → length w < 255 → opened t w ≡ w ++ record { time = t; struck = false } ∷ []
opened_is t w h =
    let e : nat_lt (length w) 255 ≡ true = lt_test (length w) 255 h in
    ap (λ (q : Bool). if q then w ++ record { time = t; struck = false } ∷ [] else w) e
  where
    lt_test : (a b : ℕ) → a < b → nat_lt a b ≡ true
    lt_test a b h = grind (arith, nat_tests)

pub first_stays : (w : List Request) (r : Request) → (length w == 0) ≡ false → first_of (w ++ r ∷ []) ≡ first_of w
first_stays [] r h = absurd cc
first_stays (q ∷ w) r h = refl

pub first_new : (w : List Request) (r : Request) → (length w == 0) ≡ true → first_of (w ++ r ∷ []) ≡ Some r
first_new [] r h = refl
first_new (q ∷ w) r h = let u = zero_of (length (q ∷ w)) h in absurd (omega arith)

pub one_less : (w : List Request) → (length w == 0) ≡ false → length (drop 1 w) + 1 ≡ length w
one_less [] h = absurd cc
one_less (q ∷ w) h = omega arith

-- ---- the facts

pub pulse_first : (t last assertion offset ack_time raised : ℕ) → nat_lt 0 offset ≡ true → last ≡ t
    → PulseFacts (asked t no_handshakes) t ack_time raised assertion offset last true false
pulse_first t last assertion offset ack_time raised off same = record {
  asked = refl;
  counts = refl;
  within = omega arith;
  reached = refl;
  few = grind (arith, nat_tests);
  req_stands = refl;
  ack_stands = λ z. absurd cc;
  ack_first = λ z. absurd cc;
  raised_is = λ z. absurd cc;
  req_past = omega arith;
  ack_past = omega arith;
  all_answered = λ z. absurd cc;
}

pub req_rises_facts : (h : Handshakes) (req_time ack_time raised assertion offset last t : ℕ) (ack : Bool)
    → PulseFacts h req_time ack_time raised assertion offset last false ack → length h.waiting < offset → offset < 256
    → h.requests + 1 < 2 ^ 64 → last ≤ t → PulseFacts (asked t h) t ack_time raised assertion offset t true ack
req_rises_facts h req_time ack_time raised assertion offset last t ack f room byte short order =
    let same : counted_on h.requests ≡ h.requests + 1 = count_more h.requests short in
    let wait : opened t h.waiting ≡ h.waiting ++ record { time = t; struck = false } ∷ [] = opened_is t h.waiting
    (omega arith) in
    let long : length (opened t h.waiting) ≡ length h.waiting + 1 = ap (λ (x : List Request). length x) wait
    ∙ push_length h.waiting (record { time = t; struck = false }) in
    let count = f.counts in
    let ack_past = f.ack_past in
    record {
      asked = ap (λ (x : ℕ). x == 0) same ∙ next_some h.requests;
      counts = omega arith;
      within = omega arith;
      reached = refl;
      few = omega arith;
      req_stands = refl;
      ack_stands = f.ack_stands;
      ack_first = f.ack_first;
      raised_is = f.raised_is;
      req_past = omega arith;
      ack_past = omega arith;
      all_answered = λ z. absurd (omega arith);
    }

pub req_falls_facts : (h : Handshakes) (req_time ack_time raised assertion offset last t : ℕ) (ack : Bool)
    → PulseFacts h req_time ack_time raised assertion offset last true ack → req_time + assertion ≤ t → last ≤ t
    → PulseFacts h t ack_time raised assertion offset t false ack
req_falls_facts h req_time ack_time raised assertion offset last t ack f held order =
    let stands = f.req_stands in
    let req_past = f.req_past in
    let ack_past = f.ack_past in
    record {
      asked = f.asked;
      counts = f.counts;
      within = f.within;
      reached = f.reached;
      few = f.few;
      req_stands = omega arith;
      ack_stands = f.ack_stands;
      ack_first = f.ack_first;
      raised_is = f.raised_is;
      req_past = omega arith;
      ack_past = omega arith;
      all_answered = f.all_answered;
    }

-- A row that changes neither REQ nor ACK.
pub still_facts : (h : Handshakes) (req_time ack_time raised assertion offset last t : ℕ) (req ack : Bool)
    → PulseFacts h req_time ack_time raised assertion offset last req ack → last ≤ t
    → PulseFacts h req_time ack_time raised assertion offset t req ack
still_facts h req_time ack_time raised assertion offset last t req ack f order =
    let req_past = f.req_past in
    let ack_past = f.ack_past in
    record {
      asked = f.asked;
      counts = f.counts;
      within = f.within;
      reached = f.reached;
      few = f.few;
      req_stands = f.req_stands;
      ack_stands = f.ack_stands;
      ack_first = f.ack_first;
      raised_is = f.raised_is;
      req_past = omega arith;
      ack_past = omega arith;
      all_answered = f.all_answered;
    }

fewer : (o : Option ℕ) (t a b reach : ℕ) → Reached o a reach → b + 1 ≡ a → Reached (or_now o t) b reach
fewer None t a b reach h e = omega arith
fewer (Some w) t a b reach h e = omega arith

pub ack_rises_facts : (h : Handshakes) (req_time ack_time raised assertion offset last t : ℕ) (req : Bool)
    → PulseFacts h req_time ack_time raised assertion offset last req false → (length h.waiting == 0) ≡ false → last ≤ t
    → PulseFacts (answered t h) req_time t t assertion offset t req true
ack_rises_facts h req_time ack_time raised assertion offset last t req f some order =
    let w = f.within in
    let count = f.counts in
    let less = one_less h.waiting some in
    let same : counted_on h.answers ≡ h.answers + 1 = count_more h.answers (omega arith) in
    let req_past = f.req_past in
    record {
      asked = f.asked;
      counts = omega arith;
      within = w;
      reached = fewer h.relieved t (length h.waiting) (length (drop 1 h.waiting)) h.reach f.reached less;
      few = f.few;
      req_stands = f.req_stands;
      ack_stands = λ z. refl;
      ack_first = λ z. ap (λ (x : ℕ). x == 0) same ∙ next_some h.answers;
      raised_is = λ z. refl;
      req_past = omega arith;
      ack_past = omega arith;
      all_answered = λ z. omega arith;
    }

pub ack_falls_facts : (h : Handshakes) (req_time ack_time raised assertion offset last t : ℕ) (req : Bool)
    → PulseFacts h req_time ack_time raised assertion offset last req true → ack_time + assertion ≤ t → last ≤ t
    → PulseFacts h req_time t raised assertion offset t req false
ack_falls_facts h req_time ack_time raised assertion offset last t req f held order =
    let req_past = f.req_past in
    let ack_past = f.ack_past in
    record {
      asked = f.asked;
      counts = f.counts;
      within = f.within;
      reached = f.reached;
      few = f.few;
      req_stands = f.req_stands;
      ack_stands = λ z. let stands = f.ack_stands z in omega arith;
      ack_first = λ z. absurd cc;
      raised_is = f.raised_is;
      req_past = omega arith;
      ack_past = omega arith;
      all_answered = f.all_answered;
    }

-- Times are short: a byte is held for as long as a pulse lasts, or longer.
pub assertion_short : (period : ℕ) → (times_of period).assertion ≤ (times_of period).hold
assertion_short period = go (nat_lt period 25) (nat_lt period 50)
  where
    go : (a b : Bool) → (times_or_slow period
        (if a then None else if b then Some (fast_times period) else Some (slow_times period))).assertion
        ≤ (times_or_slow period
        (if a then None else if b then Some (fast_times period) else Some (slow_times period))).hold
    go true b = omega arith
    go false true = omega arith
    go false false = omega arith

-- ---- what is due after a row of the other end

pub none_no_sooner : (t : ℕ) → NoSooner t None
none_no_sooner t x e = absurd cc

pub some_no_sooner : (t a : ℕ) → t ≤ a → NoSooner t (Some a)
some_no_sooner t a h x e = let w : a ≡ x = cc in omega arith

pub of_no_sooner : (t a : ℕ) → NoSooner t (Some a) → t ≤ a
of_no_sooner t a f = f a refl

-- Where only room, ACK and what hangs on them change.
pub target_after : (pulses changes follows room room' held held' : Bool) (a b c c' d d' t : ℕ)
    → NoSooner t (target_time pulses changes follows room held a b c d)
    → (room' ≡ true → ((room ≡ true) × (c' ≡ c)) ⊎ (t ≤ c')) → (held' ≡ false → ((held ≡ false) × (d' ≡ d)) ⊎ (t ≤ d'))
    → NoSooner t (target_time pulses changes follows room' held' a b c' d')
target_after true changes follows room room' held held' a b c c' d d' t f g k = f
target_after false true follows room room' held held' a b c c' d d' t f g k = f
target_after false false true room true held held' a b c c' d d' t f g k =
    elim (g refl) [
      | inl z ↦
          some_no_sooner t c' (let w = of_no_sooner t c (subst (λ q. NoSooner t (if q then Some c else None)) z.0 f) in
          let u = z.1 in omega arith)
      | inr z ↦ some_no_sooner t c' z
    ]
target_after false false true room false held held' a b c c' d d' t f g k = none_no_sooner t
target_after false false false room room' held true a b c c' d d' t f g k = none_no_sooner t
target_after false false false room room' held false a b c c' d d' t f g k =
    elim (k refl) [
      | inl z ↦
          some_no_sooner t d' (let w = of_no_sooner t d (subst (λ q. NoSooner t (if q then None else Some d)) z.0 f) in
          let u = z.1 in omega arith)
      | inr z ↦ some_no_sooner t d' z
    ]
