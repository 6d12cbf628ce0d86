-- A calling from row to row, and the IDs that are sampled of it.
use Rattle.right_laws.proofs
use proofs.Names.{ℕ, ◌≡◌, Bool, true, false, not, ◌&&◌, ◌==◌, ◌∙◌, List, ◌∷◌, Option, Some, None, refl, sym, ap, subst}
use proofs.Names.{and_right, and_left, same_Some, if◌then◌else◌, is_some, is_none, change_of, rises, call, call_goes_on}
use proofs.Names.{calling_after, caller_goes_on, called_goes_on, when, is_fault, bus, Row, Change, Call, Calling}
use proofs.Names.{ScenarioValue, Sample, latency_of, samples_with_ids, samples_with_ids_of, samples_with_ids_after}
use proofs.Names.{with_sample, none_some, by_bool, by_option, sel_of_call, is_asked, ids_at, ids_of, awaited_ids}
use Rattle.std.proofs.lemmas.Bool.{or_left}

-- ---- a calling goes on

pub record Follows (g h : Calling) : Type 0 where
  pub called : h.called ≡ g.called
  pub answered : is_some g.answered ≡ true → is_some h.answered ≡ true
  pub withdrawn : is_some g.withdrawn ≡ true → is_some h.withdrawn ≡ true
  pub struck : g.struck ≡ true → h.struck ≡ true

when_some : (q : Bool) (t : ℕ) (o : Option ℕ) → is_some o ≡ true → is_some (when q t o) ≡ true
when_some true t o e = refl
when_some false t o e = e

caller_follows : (g : Calling) (c : Change) (t : ℕ) → Follows g (caller_goes_on g c t)
caller_follows g c t = record {
  called = refl;
  answered = λ e. e;
  withdrawn = λ e. when_some (not (c.own.data_bits == 0) && c.next.data_bits == 0) t g.withdrawn e;
  struck = λ e. e;
}

called_follows : (g : Calling) (c : Change) (row : Row) → Follows g (called_goes_on g c row)
called_follows g c row = record {
  called = refl;
  answered = λ e. when_some (rises c.own.bsy c.next.bsy) row.time g.answered e;
  withdrawn = λ e. e;
  struck = λ e. or_left g.struck (is_fault row.kind) e;
}

self_follows : (g : Calling) → Follows g g
self_follows g = record { called = refl; answered = λ e. e; withdrawn = λ e. e; struck = λ e. e }

pub calling_follows : (caller : ℕ) (g h : Calling) (c : Change) (row : Row)
    → calling_after caller (Some g) c row ≡ Some h → Follows g h
calling_follows caller g h c row e = go (row.dev == caller) (row.dev == g.called) e
  where
    go : (q r : Bool)
        → (if q then Some (caller_goes_on g c row.time) else if r then Some (called_goes_on g c row) else Some g)
        ≡ Some h → Follows g h
    go true r z = subst (λ (x : Calling). Follows g x) (same_Some _ h z) (caller_follows g c row.time)
    go false true z = subst (λ (x : Calling). Follows g x) (same_Some _ h z) (called_follows g c row)
    go false false z = subst (λ (x : Calling). Follows g x) (same_Some _ h z) (self_follows g)

-- Where a device is called after a row, SEL was true before it, and the call stood.
pub record GoesOn (p : List Row) (row : Row) (c : Call) (h : Calling) : Type 0 where
  pub was : Call
  pub was_is : call p ≡ Some was
  pub caller_is : c.caller ≡ was.caller
  pub sel : (bus p).sel ≡ true
  pub goes : calling_after was.caller was.calling (change_of p row) row ≡ Some h

pub call_goes : (p : List Row) (row : Row) (c : Call) (h : Calling) → call (row ∷ p) ≡ Some c → c.calling ≡ Some h
    → GoesOn p row c h
call_goes p row c h e f = by_bool (bus p).sel (λ before. by_call before (call p) refl (sym (λ i. if not (on i) then None
    else if rises (before i) (on i) then Some (record { caller = row.dev; at = row.time; calling = None })
    else call_goes_on (call p) (change_of p row) row) ∙ e))
    (λ before. let new : (record { caller = row.dev; at = row.time; calling = None }) ≡ c = same_Some _ c
    (sym (λ i. if not (on i) then None else if rises (before i) (on i) then Some (record {
      caller = row.dev;
      at = row.time;
      calling = None;
    }) else call_goes_on (call p) (change_of p row) row) ∙ e) in none_some h (ap (λ (x : Call). x.calling) new ∙ f))
  where
    q : List Row
    q = row ∷ p

    on : (bus q).sel ≡ true
    on = sel_of_call q c e

    by_call : (bus p).sel ≡ true → (o : Option Call) → call p ≡ o → call_goes_on o (change_of p row) row ≡ Some c
        → GoesOn p row c h
    by_call before None none z = none_some c z
    by_call before (Some y) some z =
        let same : (record y { calling = calling_after y.caller y.calling (change_of p row) row }) ≡ c = same_Some
        _ c z in
        record {
          was = y;
          was_is = some;
          caller_is = ap (λ (x : Call). x.caller) (sym same);
          sel = before;
          goes = ap (λ (x : Call). x.calling) same ∙ f;
        }

-- What is asked of a calling that has been answered, withdrawn or struck.
not_some : (o : Option ℕ) → is_some o ≡ true → is_none o ≡ false
not_some o e = ap not e

pub answered_unasked : (h : Calling) → is_some h.answered ≡ true → is_asked h ≡ false
answered_unasked h e =
    and_right (is_some h.released && is_none h.withdrawn && not h.struck) (is_none h.answered) (not_some h.answered e)

pub withdrawn_unasked : (h : Calling) → is_some h.withdrawn ≡ true → is_asked h ≡ false
withdrawn_unasked h e = and_left (is_some h.released && is_none h.withdrawn && not h.struck)
    (is_none h.answered) (and_left (is_some h.released && is_none h.withdrawn) (not h.struck)
    (and_right (is_some h.released) (is_none h.withdrawn) (not_some h.withdrawn e)))

pub struck_unasked : (h : Calling) → h.struck ≡ true → is_asked h ≡ false
struck_unasked h e = and_left (is_some h.released && is_none h.withdrawn && not h.struck) (is_none h.answered)
    (and_right (is_some h.released && is_none h.withdrawn) (not h.struck) (ap not e))

pub unreleased_unasked : (h : Calling) → is_some h.released ≡ false → is_asked h ≡ false
unreleased_unasked h e =
    and_left (is_some h.released && is_none h.withdrawn && not h.struck) (is_none h.answered) (and_left
    (is_some h.released && is_none h.withdrawn) (not h.struck) (and_left (is_some h.released) (is_none h.withdrawn) e))

-- ---- the IDs

-- None are sampled of such a call, now or later.
pub ids_none : (s : ScenarioValue) (o : Option Call) (bsy : ℕ)
    → ((c : Call) (h : Calling) → o ≡ Some c → c.calling ≡ Some h → is_asked h ≡ false) → awaited_ids s bsy o ≡ None
ids_none s None bsy f = refl
ids_none s (Some c) bsy f = by_option c.calling (λ e. ap (ids_of s bsy) e) (λ h e. ap (ids_of s bsy) e
    ∙ ap (λ (q : Bool). if q then ids_at (latency_of s h.called) h.called bsy else None) (f c h refl e))

pub ids_unsampled : (s : ScenarioValue) (o : Option Call) (time : ℕ) (xs : List Sample)
    → ((c : Call) (h : Calling) → o ≡ Some c → c.calling ≡ Some h → is_some h.answered ≡ true)
    → samples_with_ids s o time xs ≡ xs
ids_unsampled s None time xs f = refl
ids_unsampled s (Some c) time xs f = by_option c.calling
    (λ e. ap (λ (o : Option Calling). samples_with_ids_of s o time xs) e)
    (λ h e. ap (λ (o : Option Calling). samples_with_ids_of s o time xs) e
    ∙ ap (λ (q : Bool). if q then samples_with_ids_after (latency_of s h.called) h.called time xs else xs)
    (not_some h.answered (f c h refl e)))

abbrev pub with_awaited : Option Sample → List Sample → List Sample
with_awaited None xs = xs
with_awaited (Some a) xs = with_sample a xs

-- Where the sample of the IDs is put down, it is awaited from then on.
pub ids_sampled : (s : ScenarioValue) (o : Option ℕ) (dev time : ℕ) (xs : List Sample)
    → samples_with_ids_after o dev time xs ≡ with_awaited (ids_at o dev time) xs
ids_sampled s None dev time xs = refl
ids_sampled s (Some lat) dev time xs = refl
