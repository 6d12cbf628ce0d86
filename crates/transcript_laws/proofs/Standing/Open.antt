-- What is open after a row was open before it, and what is kept of it stays.
use Rattle.transcript_laws.proofs
use proofs.Names.{ℕ, ◌≡◌, ◌∙◌, Bool, true, false, List, Option, sym, ap, subst, if◌then◌else◌, ProcId, Connection}
use proofs.Names.{ScenarioValue, same_id, carried_with, CarriedBytes, carried_of, with_carried, Item, Story, id_is}
use proofs.Names.{is_open_in, by_bool, names_begun, name_sent, Key, OpenedValue, TranscriberValue, Name, Process}
use proofs.Names.{HasProcess, nexus_of, AreKept, AreAlike, IsFrom, anew, kept, first_byte, IsKeptOf}
use Rattle.bus_transcript.specs.Processes.{process_of}

-- ---- what is carried

pub alike_self : (c d : CarriedBytes) → c ≡ d → AreAlike c d
alike_self c d e = record {
  status = ap (λ (x : CarriedBytes). x.status.bytes) e;
  refused = ap (λ (x : CarriedBytes). x.refused) e;
  shown = ap (λ (x : CarriedBytes). x.shown) e;
}

pub alike_on : (a b c : CarriedBytes) → AreAlike a b → AreAlike b c → AreAlike a c
alike_on a b c h g = record { status = h.status ∙ g.status; refused = h.refused ∙ g.refused; shown = h.shown ∙ g.shown }

pub alike_turned : (a b : CarriedBytes) → AreAlike a b → AreAlike b a
alike_turned a b h = record { status = sym h.status; refused = sym h.refused; shown = sym h.shown }

pub alike_kept : (t : Process) (u c : CarriedBytes) → AreAlike u c → IsKeptOf t u → IsKeptOf t c
alike_kept t u c h g =
    record { status = g.status ∙ ap first_byte h.status; shown = λ e. g.shown (h.refused ∙ e) ∙ h.shown }

-- One that is alike is put.
pub alike_put : (all : List CarriedBytes) (c : CarriedBytes) → AreAlike (carried_of all c.id) c
    → (x : ProcId) → AreAlike (carried_of all x) (carried_of (with_carried all c) x)
alike_put all c h x = by_bool (same_id c.id x) (λ e. alike_on (carried_of all x) (carried_of all c.id)
    (carried_of (with_carried all c) x) (alike_self _ _ (ap (λ (y : ProcId). carried_of all y) (sym (id_is c.id x e))))
    (alike_on (carried_of all c.id) c (carried_of (with_carried all c) x) h
    (alike_self _ _ (sym (carried_with all c x ∙ ap (λ (q : Bool). if q then c else carried_of all x) e)))))
    (λ e. alike_self _ _ (sym (carried_with all c x ∙ ap (λ (q : Bool). if q then c else carried_of all x) e)))

-- What holds of all holds where one is put of which it holds.
pub put_each : (P : CarriedBytes → Type 0) (all : List CarriedBytes) (c : CarriedBytes) (x : ProcId)
    → (P (carried_of all c.id) → P c) → P (carried_of all x) → P (carried_of (with_carried all c) x)
put_each P all c x f h = by_bool (same_id c.id x)
    (λ e. subst P (sym (carried_with all c x ∙ ap (λ (q : Bool). if q then c else carried_of all x) e))
    (f (subst (λ (y : ProcId). P (carried_of all y)) (sym (id_is c.id x e)) h)))
    (λ e. subst P (sym (carried_with all c x ∙ ap (λ (q : Bool). if q then c else carried_of all x) e)) h)

-- ---- what is kept

-- The processes and names are the same, and no other is open.
pub record SameBooks (t t' : TranscriberValue) (b b' : Story) : Type 0 where
  pub processes : t'.processes ≡ t.processes
  pub names : names_begun t'.items ≡ names_begun t.items
  pub opens : (x : ProcId) → is_open_in b'.sent x ≡ true → is_open_in b.sent x ≡ true

pub has_on : (s : ScenarioValue) (t t' : TranscriberValue) (b b' : Story) (sent : List Item) (id : ProcId)
    → SameBooks t t' b b' → HasProcess s t.processes sent (names_begun t.items) id
    → HasProcess s t'.processes sent (names_begun t'.items) id
has_on s t t' b b' sent id e h = record {
  definition = h.definition;
  definition_is = h.definition_is;
  process = h.process;
  last_is = ap (λ (l : List (Key × Process)). process_of l (nexus_of h.definition)) e.processes ∙ h.last_is;
  named = ap (λ (names : List Name). name_sent sent names id) e.names ∙ h.named;
}

pub kept_on : (s : ScenarioValue) (t t' : TranscriberValue) (b b' : Story) (sent : List Item) (but : ProcId → Bool)
    → SameBooks t t' b b' → ((x : ProcId) → but x ≡ false → AreAlike (carried_of b.carried x) (carried_of b'.carried x))
    → AreKept s t b sent but → AreKept s t' b' sent but
kept_on s t t' b b' sent but e alike h = λ x o no.
    let k = h x (e.opens x o) no in
    record {
      definition = k.definition;
      definition_is = k.definition_is;
      process = k.process;
      last_is = ap (λ (l : List (Key × Process)). process_of l (nexus_of k.definition)) e.processes ∙ k.last_is;
      named = ap (λ (names : List Name). name_sent sent names x) e.names ∙ k.named;
      kept = alike_kept k.process (carried_of b.carried x) (carried_of b'.carried x) (alike x no) k.kept;
    }

pub from_on : (s : ScenarioValue) (t t' : TranscriberValue) (b b' : Story)
    (v k' : OpenedValue) (sent : List Item) (id : ProcId) (was : Bool) (st : Option ℕ)
    → SameBooks t t' b b' → k'.connection ≡ v.connection → IsFrom s t b v sent id was st
    → IsFrom s t' b' k' sent id was st
unfolding has_on
from_on s t t' b b' v k' sent id was st e con (anew began f g alone) = anew
    (ap (λ (n : Connection). n.reselected) con ∙ began) f g (λ x d d' o but i j. alone x d d' (e.opens x o) but i j)
from_on s t t' b b' v k' sent id was st e con (kept re h begun) = kept (ap (λ (n : Connection). n.reselected) con ∙ re)
    (has_on s t t' b b' sent id e h) (record { shown = begun.shown; status = begun.status })
