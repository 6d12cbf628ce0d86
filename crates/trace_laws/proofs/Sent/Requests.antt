-- What a row of DATA IN does with REQ, ACK and ATN, and which requests wait for ACK after it (6.1.5.1, 6.1.5.2, 6.2.1).
use Rattle.trace_laws.proofs
use proofs.Names.{ℕ, ◌≡◌, Bool, true, false, not, ◌||◌, ◌∙◌, List, [], ◌∷◌, ◌++◌, length, refl, sym, ap, subst, drop}
use proofs.Names.{if◌then◌else◌, is_some, nat_lt, wrong, wrong', or_true, or_false, rises, Change, Handshakes, answered}
use proofs.Names.{answered_if, asked, asked_if, first_of, is_struck, with_last_struck, opened, newest_struck, Request}
use proofs.Names.{counted_some, awaits, any_struck, IsNewest, WaitsFor}

-- Neither rises; REQ does; or ACK does, with ATN where the byte was struck that it answers, the newest or, by pulses,
-- the oldest.
pub data InStep (h : Handshakes) (pulsed : Bool) (c : Change) : Type 0 where
  rests : rises c.before.req c.after.req ≡ false → rises c.before.ack c.after.ack ≡ false → c.after.atn ≡ c.before.atn
      → (pulsed ≡ false → awaits c.after ≡ awaits c.before) → InStep h pulsed c
  asks : rises c.before.req c.after.req ≡ true → rises c.before.ack c.after.ack ≡ false → c.after.atn ≡ c.before.atn
      → (pulsed ≡ false → (awaits c.before ≡ false) × (awaits c.after ≡ true)) → InStep h pulsed c
  answers : pulsed ≡ false → rises c.before.req c.after.req ≡ false → rises c.before.ack c.after.ack ≡ true
      → c.after.atn ≡ (h.struck || c.before.atn) → (awaits c.before ≡ true) × (awaits c.after ≡ false)
      → InStep h pulsed c
  answers_oldest : pulsed ≡ true → rises c.before.req c.after.req ≡ false → rises c.before.ack c.after.ack ≡ true
      → c.after.atn ≡ (is_struck (first_of h.waiting) || c.before.atn) → InStep h pulsed c

abbrev pub hands_after : Change → ℕ → Handshakes → Handshakes
hands_after c t h = answered_if (rises c.before.ack c.after.ack) t (asked_if (rises c.before.req c.after.req) t h)

hands_by : (c : Change) (t : ℕ) (h : Handshakes) (r a : Bool) → rises c.before.req c.after.req ≡ r
    → rises c.before.ack c.after.ack ≡ a → hands_after c t h ≡ answered_if a t (asked_if r t h)
hands_by c t h r a er ea = λ i. answered_if (ea i) t (asked_if (er i) t h)

-- ---- which wait

newest : (t : ℕ) (h : Handshakes) → h.waiting ≡ [] → IsNewest (asked t h)
newest t h e = record { asked = counted_some h.requests; alone = ap (λ (ws : List Request). opened t ws) e }

pub waits_on : (h : Handshakes) (pulsed : Bool) (c : Change) (t : ℕ) → InStep h pulsed c → pulsed ≡ false
    → WaitsFor h (awaits c.before) → WaitsFor (hands_after c t h) (awaits c.after)
waits_on h pulsed c t (rests er ea at f) u w = subst (λ (x : Handshakes). WaitsFor x (awaits c.after))
    (sym (hands_by c t h false false er ea)) (subst (WaitsFor h) (sym (f u)) w)
waits_on h pulsed c t (asks er ea at f) u w =
    let g = f u in
    subst (λ (x : Handshakes). WaitsFor x (awaits c.after)) (sym (hands_by c t h true false er ea))
    (subst (WaitsFor (asked t h)) (sym g.1) (newest t h (subst (WaitsFor h) g.0 w)))
waits_on h pulsed c t (answers v er ea at g) u w = subst (λ (x : Handshakes). WaitsFor x (awaits c.after)) (sym
    (hands_by c t h false true er ea)) (subst (WaitsFor (answered t h)) (sym g.1) (none (subst (WaitsFor h) g.0 w)))
  where
    none : IsNewest h → drop 1 h.waiting ≡ []
    none x = ap (λ (ws : List Request). drop 1 ws) x.alone
waits_on h pulsed c t (answers_oldest v er ea at) u w = wrong (sym v ∙ u)

first_opened : (t : ℕ) (ws : List Request) → is_some (first_of (opened t ws)) ≡ true
first_opened t [] = refl
first_opened t (r ∷ ws) = go (nat_lt (length (r ∷ ws)) 255)
  where
    go : (q : Bool)
        → is_some (first_of (if q then (r ∷ ws) ++ record { time = t; struck = false } ∷ [] else r ∷ ws)) ≡ true
    go true = refl
    go false = refl

-- A request with which REQ has risen waits.
pub asked_waits : (h : Handshakes) (pulsed : Bool) (c : Change) (t : ℕ) → InStep h pulsed c
    → rises c.before.req c.after.req ≡ true → is_some (first_of (hands_after c t h).waiting) ≡ true
asked_waits h pulsed c t (rests er ea at f) z = wrong' (sym er ∙ z)
asked_waits h pulsed c t (asks er ea at f) z =
    ap (λ (x : Handshakes). is_some (first_of x.waiting)) (hands_by c t h true false er ea) ∙ first_opened t h.waiting
asked_waits h pulsed c t (answers v er ea at g) z = wrong' (sym er ∙ z)
asked_waits h pulsed c t (answers_oldest v er ea at) z = wrong' (sym er ∙ z)

-- ---- which were struck

with_new : (t : ℕ) (ws : List Request) → any_struck (ws ++ record { time = t; struck = false } ∷ []) ≡ any_struck ws
with_new t [] = refl
with_new t (r ∷ ws) = λ i. r.struck || with_new t ws i

opened_struck : (t : ℕ) (ws : List Request) → any_struck (opened t ws) ≡ any_struck ws
opened_struck t ws = go (nat_lt (length ws) 255)
  where
    go : (q : Bool) → any_struck (if q then ws ++ record { time = t; struck = false } ∷ [] else ws) ≡ any_struck ws
    go true = with_new t ws
    go false = refl

one_answered : (r atn : Bool) → ((r || atn) || false) ≡ (atn || (r || false))
one_answered true true = refl
one_answered true false = refl
one_answered false true = refl
one_answered false false = refl

oldest_answered : (ws : List Request) (atn : Bool)
    → ((is_struck (first_of ws) || atn) || any_struck (drop 1 ws)) ≡ (atn || any_struck ws)
oldest_answered [] true = refl
oldest_answered [] false = refl
oldest_answered (r ∷ ws) atn = go r.struck atn (any_struck ws)
  where
    go : (x y z : Bool) → ((x || y) || z) ≡ (y || (x || z))
    go true true z = refl
    go true false z = refl
    go false true z = refl
    go false false z = refl

-- Where ATN is true or a struck byte waits it is so after the row, and only there.
pub struck_on : (h : Handshakes) (pulsed : Bool) (c : Change) (t : ℕ)
    → InStep h pulsed c → (pulsed ≡ false → WaitsFor h (awaits c.before))
    → (c.after.atn || any_struck (hands_after c t h).waiting) ≡ (c.before.atn || any_struck h.waiting)
struck_on h pulsed c t (rests er ea at f) w = λ i. at i || any_struck (hands_by c t h false false er ea i).waiting
struck_on h pulsed c t (asks er ea at f) w = (λ i. at i || any_struck (hands_by c t h true false er ea i).waiting)
    ∙ ap (λ (q : Bool). c.before.atn || q) (opened_struck t h.waiting)
struck_on h pulsed c t (answers v er ea at g) w =
    (λ i. at i || any_struck (hands_by c t h false true er ea i).waiting) ∙ go (subst (WaitsFor h) g.0 (w v))
  where
    go : IsNewest h
        → ((h.struck || c.before.atn) || any_struck (drop 1 h.waiting)) ≡ (c.before.atn || any_struck h.waiting)
    go x =
        ap (λ (ws : List Request). (h.struck || c.before.atn) || any_struck (drop 1 ws)) x.alone
        ∙ one_answered h.struck c.before.atn
        ∙ ap (λ (ws : List Request). c.before.atn || any_struck ws) (sym x.alone)
struck_on h pulsed c t (answers_oldest v er ea at) w =
    (λ i. at i || any_struck (hands_by c t h false true er ea i).waiting) ∙ oldest_answered h.waiting c.before.atn

-- ---- a fault strikes the newest

pub waits_struck : (h : Handshakes) (q : Bool) → WaitsFor h q → WaitsFor (newest_struck h) q
waits_struck h true w = record {
  asked = w.asked;
  alone = ap with_last_struck w.alone ∙ (λ i. record { time = h.last_req; struck = ap not (sym w.asked) i } ∷ []);
}
waits_struck h false w = ap with_last_struck w

pub first_struck : (ws : List Request) → is_some (first_of ws) ≡ true → is_some (first_of (with_last_struck ws)) ≡ true
first_struck [] e = e
first_struck (r ∷ []) e = refl
first_struck (r ∷ (q ∷ ws)) e = refl

pub last_struck : (ws : List Request) → is_some (first_of ws) ≡ true → any_struck (with_last_struck ws) ≡ true
last_struck [] e = wrong' e
last_struck (r ∷ []) e = refl
last_struck (r ∷ (q ∷ ws)) e = (λ i. r.struck || last_struck (q ∷ ws) refl i) ∙ or_true r.struck

-- ---- none waits

pub none_struck : (h : Handshakes) (atn : Bool) → h.waiting ≡ [] → (atn || any_struck h.waiting) ≡ atn
none_struck h atn e = ap (λ (ws : List Request). atn || any_struck ws) e ∙ or_false atn
