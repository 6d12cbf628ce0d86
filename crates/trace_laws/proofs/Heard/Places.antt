-- What the seam of what a target hears asks of the place of its process follows from where the process stands.
use Rattle.trace_laws.proofs
use proofs.Names.{◌≡◌, true, not, ◌&&◌, inl, inr, ◌⊎◌, Bool, false, ◌∙◌, List, ◌∷◌, Option, Some, None, refl, sym, ap}
use proofs.Names.{subst, same_Some, is_none, if◌then◌else◌, is_some, wrong, wrong', ProcId, change_of, LineSet}
use proofs.Names.{connection, connection_after, Row, Change, Connection, Handshakes, ScenarioValue, Obeys, reply_in}
use proofs.Names.{Reply, Process, process_of, running_process, Array, RunningProcess, guest_at, RowReading, row_reading}
use proofs.Names.{Item, process, abort, has_item, aim_of, phase_of, Ready, Next, Phase, Plan, run_state_plain}
use proofs.Names.{ProcessProgress, progress_in, IsPrompt, AreOfDevices, IsPlain, RunState, array_of, or_start, bus_of}
use proofs.Names.{process_item, process_served, run_state, item_if, leaving_of, progress_after, served_after, ready_of}
use proofs.Names.{ready_among, seek_of, is_new, is_beginning, is_answered, is_unanswered, is_uncounted, IsFirstRow}
use proofs.Names.{Begins, IsReadyFor, RowOf, apart, begins, goes_on, ends, under_reset, change_plain, least_is}
use proofs.Names.{none_some, by_bool, by_option, not_waiting, not_running, no_guest, Stood, NextStood, ArePlaced}
use proofs.Names.{BeginsPlaced, IsPlacedIn, ItemFacts, no_progress, frees_bus, IsUntouched, IsAtRest, PlaceFacts}
use proofs.{Names.{PlacedIf, PlacedIn, PlacedBefore, RunsOpen, AnsweredOpen, items_fresh}, Heard.Rows.{begun_of}}
use proofs.Places.{First.{rest_first, shown_first}, Ready.{MayBeReady, ready_runs}}
use Rattle.due_model.specs.array_model.proofs.SoundArrays.{id_is}

pub new_heard : (a : Array) (c : Process) → IsUntouched a c.id → is_new a c ≡ true
new_heard a c h =
    λ i. not (not_waiting a.units c.id h.away.units i) && is_none (not_running a c.id h.away i) && is_none (h.reply i)

-- ---- Where a process stands in the plain disk array its target hears: in a connection by the phase, and as a
-- connection begins.

-- ---- by the phase

runs_unanswered : (a : Array) (c : Process) → RunsOpen a c
    → (is_unanswered (running_process a c.id) ≡ true) × (is_none (reply_in a.replies c.id) ≡ true)
runs_unanswered a c h = (ap is_unanswered h.runs.running_is, ap (λ (x : Option Reply). is_none x) h.runs.reply)

given_answered : (a : Array) (c : Process) → AnsweredOpen a c.id
    → (is_answered (running_process a c.id) ≡ true) × (is_some (reply_in a.replies c.id) ≡ true)
given_answered a c h = (
  ap is_answered h.answered.running_is ∙ ap (λ (x : Option Reply). is_some x) h.answered.reply_is,
  ap (λ (x : Option Reply). is_some x) h.answered.given,
)

before_in : (a : Array) (c : Process) (plan : Plan) (h : Handshakes) (atn : Bool)
    → PlacedIn a c plan h atn Phase.MessageIn → (frees_bus plan.next ≡ true) ⊎ PlacedBefore a c plan.messages plan.next
before_in a c plan h atn (inl w) = inr w
before_in a c plan h atn (inr w) = inl (ap frees_bus w.next_is)

placed_in : (a : Array) (c : Process) (plan : Plan) (h : Handshakes) (atn : Bool) (phase : Phase)
    → PlacedIn a c plan h atn phase → IsPlacedIn a c phase plan.next
placed_in a c plan h atn Phase.MessageOut w =
    record { new = λ e. wrong' e; unanswered = λ e. wrong' e; answered = λ e. wrong' e }
placed_in a c plan h atn Phase.Command w =
    record { new = λ e. new_heard a c w; unanswered = λ e. wrong' e; answered = λ e. wrong' e }
placed_in a c plan h atn Phase.Status w =
    record { new = λ e. wrong' e; unanswered = λ e. wrong' e; answered = λ e. given_answered a c w }
placed_in a c plan h atn Phase.DataIn w =
    record { new = λ e. wrong' e; unanswered = λ e. runs_unanswered a c w; answered = λ e. wrong' e }
placed_in a c plan h atn Phase.DataOut w =
    record { new = λ e. wrong' e; unanswered = λ e. runs_unanswered a c w; answered = λ e. wrong' e }
placed_in a c plan h atn Phase.MessageIn w = by plan.next refl (before_in a c plan h atn w)
  where
    by : (x : Next) → plan.next ≡ x → (frees_bus plan.next ≡ true) ⊎ PlacedBefore a c plan.messages plan.next
        → IsPlacedIn a c Phase.MessageIn plan.next
    by Next.GoOn e (inl z) = wrong' (sym (ap frees_bus e) ∙ z)
    by Next.GoOn e (inr z) = subst (λ (x : Next). IsPlacedIn a c Phase.MessageIn x) (sym e) (record {
      new = λ f. wrong' f;
      unanswered = λ f. runs_unanswered a c (subst (λ (x : Next). PlacedBefore a c plan.messages x) e z);
      answered = λ f. wrong' f;
    })
    by Next.Status e (inl z) = wrong' (sym (ap frees_bus e) ∙ z)
    by Next.Status e (inr z) = subst (λ (x : Next). IsPlacedIn a c Phase.MessageIn x) (sym e) (record {
      new = λ f. wrong' f;
      unanswered = λ f. wrong' f;
      answered = λ f. given_answered a c (subst (λ (x : Next). PlacedBefore a c plan.messages x) e z);
    })
    by Next.Command e z = subst (λ (x : Next). IsPlacedIn a c Phase.MessageIn x) (sym e)
        (record { new = λ f. wrong' f; unanswered = λ f. wrong' f; answered = λ f. wrong' f })
    by Next.FreeBus e z = subst (λ (x : Next). IsPlacedIn a c Phase.MessageIn x) (sym e)
        (record { new = λ f. wrong' f; unanswered = λ f. wrong' f; answered = λ f. wrong' f })

pub places_heard : (s : ScenarioValue) (p : List Row) → AreOfDevices p → PlaceFacts s p → ArePlaced s p
places_heard s p dv h n con calm past q served = subst
    (λ (a : Array). IsPlacedIn a q (phase_of (bus_of k)) k.exchange.plan.next) (ap (or_start s) (sym h.array_is))
    (placed_in h.array q k.exchange.plan k.handshakes (bus_of k).atn (phase_of (bus_of k))
    (subst (λ (b : Bool). PlacedIf b h.array q k.exchange.plan k.handshakes (bus_of k).atn (phase_of (bus_of k)))
    (begun_of k past) (h.placed n (pl.connection ∙ con) (ap (λ (l : LineSet). l.rst) pl.bus ∙ calm) q served)))
  where
    k : RunState
    k = run_state s p

    pl : IsPlain s p k
    pl = run_state_plain s p dv

-- ---- as a connection begins

uncounted : (r : ProcessProgress) (id : ProcId) → r ≡ no_progress id → is_uncounted r ≡ true
uncounted r id e = ap is_uncounted e

begun_here : (s : ScenarioValue) (p : List Row) (row : Row) (n : Connection) → Obeys s → IsPrompt s (row ∷ p)
    → Stood s p → NextStood s p row → ItemFacts s p → (h : PlaceFacts s p) → (before : connection p ≡ None)
    → connection (row ∷ p) ≡ Some n → (b : Begins s (run_state s p) row n) → (q : Process)
    → process_served s (run_state s (row ∷ p)) ≡ Some q → is_beginning s (run_state s (row ∷ p)) n (Some q) ≡ true
begun_here s p row n o prompt was nx items h alone after b q served = by_bool n.reselected (λ e.
    (λ i. if e i then is_none (guest_at (array_of s j).guests q.id) && is_none (reply_in (array_of s j).replies q.id)
    else is_new (array_of s j) q && is_uncounted (progress_in j.progress q.id)) ∙ again e) (λ e.
    (λ i. if e i then is_none (guest_at (array_of s j).guests q.id) && is_none (reply_in (array_of s j).replies q.id)
    else is_new (array_of s j) q && is_uncounted (progress_in j.progress q.id)) ∙ anew e)
  where
    k : RunState
    k = run_state s p

    j : RunState
    j = run_state s (row ∷ p)

    f : IsFirstRow k row n
    f = b.first

    d : RowReading
    d = row_reading k.story.bus_state row

    array_is : array_of s j ≡ h.array
    array_is = ap (or_start s) (shown_first s k row n h f (items.items.apart f.connection_is).0)

    served_is : j.served ≡ (if n.reselected then item_if (ready_of s k n.target) else aim_of k.story.aims n.initiator)
    served_is = λ i. served_after s k (f.connection_is i) (f.next_is i)

    rests : (id : ProcId) → IsAtRest h.array id
    rests id = rest_first s k row n h f id

    progress_is : j.progress ≡ k.progress
    progress_is = λ i. progress_after s k d (f.connection_is i) d.next (leaving_of s k k.story.bus_state.connection)

    anew : n.reselected ≡ false → (is_new (array_of s j) q && is_uncounted (progress_in j.progress q.id)) ≡ true
    anew e = go fresh.item refl
      where
        fresh : Rattle.story_laws.specs.Items.IsFresh k n
        fresh = items_fresh s p row n o prompt was items alone after e

        item_is : j.served ≡ Some fresh.item
        item_is = served_is
            ∙ ap (λ (r : Bool). if r then item_if (ready_of s k n.target) else aim_of k.story.aims n.initiator) e
            ∙ fresh.aim_is

        go : (x : Item) → fresh.item ≡ x
            → (is_new (array_of s j) q && is_uncounted (progress_in j.progress q.id)) ≡ true
        go (abort m) z = none_some q (ap (process_item s) (sym (item_is ∙ ap (λ (y : Item). Some y) z)) ∙ served)
        go (process id) z =
            let of : process_of s id ≡ Some q = ap (process_item s) (sym (item_is ∙ ap (λ (y : Item). Some y) z))
            ∙ served in
            let unsent : has_item k.story.sent.sent (process q.id) ≡ false =
            ap (λ (y : ProcId). has_item k.story.sent.sent (process y)) (id_is s id q of)
            ∙ ap (λ (y : Item). has_item k.story.sent.sent y) (sym z) ∙ fresh.unsent in
            let new : is_new (array_of s j) q ≡ true = ap (λ (a : Array). is_new a q) array_is
            ∙ new_heard h.array q (h.unsent q.id unsent) in
            let none : is_uncounted (progress_in j.progress q.id) ≡ true =
            ap (λ (l : List ProcessProgress). is_uncounted (progress_in l q.id)) progress_is
            ∙ uncounted (progress_in k.progress q.id) q.id (items.items.progress q.id unsent) in
            λ i. new i && none i

    again : n.reselected ≡ true
        → (is_none (guest_at (array_of s j).guests q.id) && is_none (reply_in (array_of s j).replies q.id)) ≡ true
    again e =
        let of : IsReadyFor s k n = b.reselects e in
        let r : Ready = of.ready in
        let among : ready_among h.array k.current_since (seek_of s.targets n.target) n.target ≡ Some r =
        (λ i. ready_among (or_start s (sym h.array_is i)) k.current_since (seek_of s.targets n.target) n.target)
        ∙ of.ready_is in
        let may : MayBeReady s h.array r = ready_runs s h.array k.current_since
        (seek_of s.targets n.target) n.target r h.sound (rests r.process.id) among in
        let item : j.served ≡ Some (process r.process.id) = served_is
        ∙ ap (λ (x : Bool). if x then item_if (ready_of s k n.target) else aim_of k.story.aims n.initiator) e
        ∙ ap item_if of.ready_is in
        let same : r.process ≡ q = same_Some r.process q
        (sym may.process_is ∙ ap (process_item s) (sym item) ∙ served) in
        let guest : is_none (guest_at (array_of s j).guests q.id) ≡ true =
        ap (λ (a : Array). is_none (guest_at a.guests q.id)) array_is
        ∙ ap (λ (x : Option RunningProcess). is_none x) (no_guest h.array.guests q.id (rests q.id).guests) in
        let reply : is_none (reply_in (array_of s j).replies q.id) ≡ true =
        ap (λ (a : Array). is_none (reply_in a.replies q.id)) array_is
        ∙ ap (λ (x : Process). is_none (reply_in h.array.replies x.id)) (sym same)
        ∙ ap (λ (x : Option Reply). is_none x) may.runs.runs.reply in
        λ i. guest i && reply i

pub begins_placed : (s : ScenarioValue) (p : List Row) (row : Row) → Obeys s → IsPrompt s (row ∷ p) → Stood s p
    → NextStood s p row → ItemFacts s p → PlaceFacts s p → BeginsPlaced s p row
begins_placed s p row o prompt was nx items h n alone after off =
    by_option (process_served s j)
    (λ e. ap (is_beginning s j n) e)
    (λ q e. ap (is_beginning s j n) e ∙ begun_here s p row n o prompt was nx items h alone after (of nx.row_is) q e)
  where
    k : RunState
    k = run_state s p

    j : RunState
    j = run_state s (row ∷ p)

    c : (row_reading k.story.bus_state row).change ≡ change_of p row
    c = change_plain s row p was.standing.devices (least_is s p row prompt.1).inside

    next : (row_reading k.story.bus_state row).next ≡ Some n
    next = (λ i. connection_after (was.plain.connection i) (was.plain.call i) (c i) row) ∙ after

    none : k.story.bus_state.connection ≡ None
    none = was.plain.connection ∙ alone

    of : RowOf s k row → Begins s k row n
    of (apart e f) = none_some n (sym f ∙ next)
    of (begins m b) = subst (λ (x : Connection). Begins s k row x) (same_Some m n (sym b.first.next_is ∙ next)) b
    of (goes_on m x g) = none_some m (sym none ∙ g.row_is.connection_is)
    of (ends m g) = none_some m (sym none ∙ g.connection_is)
    of (under_reset e f) = wrong (sym e ∙ ap (λ (x : Change). x.after.rst) c ∙ off)
