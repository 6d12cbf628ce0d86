-- What of the items other laws ask for.
use Rattle.story_laws.proofs
use proofs.Names.{ℕ, ◌≡◌, Bool, true, false, not, ◌&&◌, ◌∙◌, List, ◌∷◌, Option, Some, None, refl, sym, ap, same_Some}
use proofs.Names.{if◌then◌else◌, wrong', ProcId, change_of, falls, LineSet, call, connection, connection_of}
use proofs.Names.{connection_after, bus, Row, Connection, ScenarioValue, Obeys, CarriedBytes, carried_or_nothing, Item}
use proofs.Names.{has_item, process, Link, aim_of, phase_of, Ready, IsLeast, due, IsPrompt, RunState, bus_of, item_of}
use proofs.Names.{carried_here, run_state, ready_of, obeys_fits, seats_are, units_are, is_in_phase, Knows, least_is}
use proofs.Names.{from_stage, obeys_latencies, AnyStage, apart, linked, none_some, in_phase, by_bool, made_for, made_is}
use proofs.Names.{Stood, link_connection, is_marked, IsQueued, ItemFacts, TalksBy, talk_of, DataPremises, IsFresh}
use proofs.{Names.{AreSent, IsServedOpen, AreFound}, Items.{Facts.{aimed_next, falls_quiet}, First.{next_unsent}}}
use proofs.Items.{First.{next_unended}, Steps.{ready_queued}}

-- ---- as a connection begins

-- RST is false before the row, and after it.
pub calm_after : (p : List Row) (row : Row) (n : Connection) → connection p ≡ None → connection (row ∷ p) ≡ Some n
    → (bus (row ∷ p)).rst ≡ false
calm_after p row n alone e =
    by_bool (bus (row ∷ p)).rst (λ f. none_some n (sym ((λ i. connection_after (alone i) (call p) (change_of p row) row)
    ∙ (λ i. if falls (bus p).sel (bus (row ∷ p)).sel && (bus (row ∷ p)).bsy && not (f i)
    then connection_of (call p) row.time else None) ∙ off (falls (bus p).sel (bus (row ∷ p)).sel) (bus (row ∷ p)).bsy)
    ∙ e)) (λ f. f)
  where
    off : (a b : Bool) → (if a && b && false then connection_of (call p) row.time else None) ≡ None
    off true true = refl
    off true false = refl
    off false b = refl

pub calm_before : (s : ScenarioValue) (p : List Row) (row : Row) (n : Connection) → Obeys s → IsPrompt s (row ∷ p)
    → Stood s p → connection p ≡ None → connection (row ∷ p) ≡ Some n → (bus p).rst ≡ false
calm_before s p row n o prompt was alone e = go was.here (bus p).rst refl
  where
    m : IsLeast (due s p) 8 row
    m = least_is s p row prompt.1

    go : AnyStage s p → (q : Bool) → (bus p).rst ≡ q → (bus p).rst ≡ false
    go stage false f = f
    go (linked x h) true f = none_some x (sym alone ∙ link_connection s p x h)
    go (apart h none) true f =
        let g = from_stage s p row (obeys_latencies s o) was.standing h none m in
        let quiet = falls_quiet s p row m.inside g.obeys h f (calm_after p row n alone e) in
        wrong' (sym (ap (λ (x : Bool). x && not (bus (row ∷ p)).sel) quiet.sel) ∙ (made_is p row n alone e).sel)

-- A selection is made for an item that was neither sent nor given up.
pub items_fresh : (s : ScenarioValue) (p : List Row) (row : Row) (n : Connection) → Obeys s → IsPrompt s (row ∷ p)
    → Stood s p → ItemFacts s p → connection p ≡ None → connection (row ∷ p) ≡ Some n → n.reselected ≡ false
    → IsFresh (run_state s p) n
items_fresh s p row n o prompt was h alone e selects =
    let off = calm_before s p row n o prompt was alone e in
    let f = obeys_fits s o in
    let made = (made_for s p row.time n (units_are s f) (seats_are s f) was.standing.devices
    (was.called alone off) (made_is p row n alone e).made).selects selects in
    let next = aimed_next s p row n alone e selects (was.called alone off) (h.aims alone off) made.item made.aim_is in
    record {
      item = made.item;
      aim_is = made.aim_is;
      unsent = next_unsent s (run_state s p).story.sent n.initiator made.item next;
      unended = next_unended s (run_state s p).story.sent n.initiator made.item next;
    }

-- A reselection is made for a command of the scenario that is open.
pub items_ready : (s : ScenarioValue) (p : List Row) (t : ℕ) (r : Ready) → ItemFacts s p
    → ready_of s (run_state s p) t ≡ Some r → IsQueued s (run_state s p).story.sent r.process
items_ready s p t r h e = ready_queued s (run_state s p) (IsQueued s (run_state s p).story.sent) t r h.items.queued e

pub items_found : (s : ScenarioValue) (p : List Row) (n : Connection) → ItemFacts s p → AreFound s (run_state s p) n
items_found s p n h = record {
  ready = λ r e.
      let q = items_ready s p n.target r h e in
      record { process_is = q.is; command = q.command; sent = q.sent; open_is = q.opens };
}

-- ---- after any rows

pub items_sent : (s : ScenarioValue) (p : List Row) → ItemFacts s p → AreSent (run_state s p)
items_sent s p h = record {
  link = λ i e. linked_item (run_state s p).story.link refl i e;
  served = h.items.served;
  carried = h.items.only.carried;
  progress = h.items.progress;
}
  where
    linked_item : (o : Option Link) → (run_state s p).story.link ≡ o → (i : Item) → item_of o ≡ Some i
        → has_item (run_state s p).story.sent.sent i ≡ true
    linked_item None f i e = none_some i e
    linked_item (Some l) f i e = (h.items.only.link l f).item i e

pub items_open : (s : ScenarioValue) (p : List Row) (n : Connection) → Stood s p → ItemFacts s p → connection p ≡ Some n
    → (bus p).rst ≡ false → IsServedOpen (run_state s p)
items_open s p n was h con off = record { sent = h.items.served; open_is = λ i e other. opened i e other }
  where
    k : RunState
    k = run_state s p

    standing : k.story.bus_state.connection ≡ Some n
    standing = was.plain.connection ∙ con

    quiet : (bus_of k).rst ≡ false
    quiet = ap (λ (x : LineSet). x.rst) was.plain.bus ∙ off

    knows : Knows s k n
    knows = was.books.knows n standing quiet

    t : TalksBy s (talk_of k) n knows.link
    t = h.items.talks n standing quiet knows.link knows.link_is

    opened : (i : Item) → k.served ≡ Some i → is_in_phase (phase_of (bus_of k)) ≡ false
        → has_item k.story.sent.over i ≡ false
    opened i e other =
        by_bool (has_item k.story.sent.over i)
        (λ z. wrong' (sym other ∙ ap is_in_phase (in_phase (bus_of k) (t.over i e z).taken.here)))
        (λ z. z)

-- ---- What the laws of items give of what is asked of a row beside.

-- The process of a reselection has shown no reply yet.
abbrev pub IsUnshown : ScenarioValue → RunState → Connection → Type 0
IsUnshown s k n =
    n.reselected ≡ true → (r : Ready) → ready_of s k n.target ≡ Some r → is_marked (carried_here k r.process.id) ≡ false

pub data_premises : (s : ScenarioValue) (p : List Row) (row : Row)
    → Obeys s → IsPrompt s (row ∷ p) → Stood s p → ItemFacts s p
    → ((n : Connection) → connection p ≡ None → connection (row ∷ p) ≡ Some n → IsUnshown s (run_state s p) n)
    → DataPremises s p row
data_premises s p row o prompt was items unshown = record {
  anew = λ n alone next. record {
    selects = λ sel id aim. fresh n (items_fresh s p row n o prompt was items alone next sel) id aim;
    reselects = λ re r ready. ((items_ready s p n.target r items ready).opens, unshown n alone next re r ready);
  };
  sent = λ id e. (items_sent s p items).served (process id) e;
}
  where
    k : RunState
    k = run_state s p

    fresh : (n : Connection) → IsFresh k n → (id : ProcId) → aim_of k.story.aims n.initiator ≡ Some (process id)
        → (has_item k.story.sent.over (process id) ≡ false) × (is_marked (carried_here k id) ≡ false)
    fresh n f id aim =
        let same : f.item ≡ process id = same_Some f.item (process id) (sym f.aim_is ∙ aim) in
        let unsent : has_item k.story.sent.sent (process id) ≡ false =
        ap (λ (x : Item). has_item k.story.sent.sent x) (sym same) ∙ f.unsent in (
          ap (λ (x : Item). has_item k.story.sent.over x) (sym same) ∙ f.unended,
          ap (λ (x : Option CarriedBytes). is_marked (carried_or_nothing x id))
              ((items_sent s p items).carried id unsent),
        )
