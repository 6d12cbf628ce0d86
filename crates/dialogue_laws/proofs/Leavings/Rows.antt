-- A row of a prompt trace with which a phase that has begun is left: for the phase, or for BUS FREE, that the target is
-- due to go to.
use Rattle.dialogue_laws.proofs
use proofs.Names.{inl, inr, ℕ, ◌≡◌, ◌⊎◌, Bool, true, false, not, ◌&&◌, ◌||◌, ◌∙◌, List, [], ◌∷◌, Option, Some, None}
use proofs.Names.{refl, sym, ap, and_parts, same_Some, if◌then◌else◌, is_some, wrong, or_true, Event, change_of, rises}
use proofs.Names.{LineSet, changes_phase, is_message_in, is_message_out, connection, connection_after, is_fault}
use proofs.Names.{receiver_in, bus, Row, Agreement, Change, Connection, ScenarioValue, Obeys, HostDef, RowReading}
use proofs.Names.{row_reading, Exchange, plan_anew, speech_of, leaving_by, phase_leaving, phase_of, cause_after}
use proofs.Names.{plan_in_message_out, words_after, answer_bytes, detected_error, parity_error, Hearing, Leaving, Phase}
use proofs.Names.{Plan, run_state_plain, host_of, IsPrompt, IsPlain, RunState, bus_of, process_served, events_of_row}
use proofs.Names.{leaving_of, progress_after, progress_by_leaving, run_state, hearing_of, leaving, serving_of}
use proofs.Names.{events_of_ends, events_of_ends_in, initiator_events, is_true_telling, same_events, target_events}
use proofs.Names.{InConnection, in_connection, reading_is, is_out_phase, IsOver, RowKind, crosses, reading_in, still}
use proofs.Names.{strikes, turns, change_plain, least_is, none_some, out_phase, plan_out, ConnectionRow, connection_row}
use proofs.Names.{stage_of_connection, RowFacts, ends_here, stays, link_phase, IsLeaving, out_is, Whole, whole}
use proofs.Names.{phase_if, present_phase}

-- What the initiator says in MESSAGE OUT after a phase with these lines, the last byte to it struck or not.
abbrev pub words_by : Option HostDef → LineSet → Bool → Agreement → List ℕ
words_by h b struck asked =
    if not (is_message_in b) then detected_error else if struck then parity_error else answer_bytes h asked

-- What is known of the row.
pub record PhaseEnd (s : ScenarioValue) (p : List Row) (row : Row) (n : Connection) : Type 0 where
  pub was : Whole s p
  pub whole_now : Whole s (row ∷ p)
  pub known : (bus_of (run_state s p)).msg ≡ true → (bus_of (run_state s p)).cd ≡ true
  pub over : IsOver s (run_state s p) n
  pub leaves : leaving s (run_state s p) n.target
      ≡ phase_leaving (serving_of s (run_state s p) n.target) (bus_of (run_state s p)).atn
      (phase_of (bus_of (run_state s p)))
  pub whereto : (leaving s (run_state s p) n.target).to ≡ present_phase (row ∷ p)
  pub told : same_events (target_events s (run_state s p) n (is_some (present_phase (row ∷ p)))) (events_of_row s p row)
      ≡ true
  pub plan : (next : Phase) → present_phase (row ∷ p) ≡ Some next → is_out_phase next ≡ false
      → (run_state s (row ∷ p)).exchange.plan ≡ record (plan_anew (run_state s p).exchange.plan) {
        messages = (leaving s (run_state s p) n.target).messages;
        next = (leaving s (run_state s p) n.target).next;
      }
  pub progress : (next : Phase) → present_phase (row ∷ p) ≡ Some next → (run_state s (row ∷ p)).progress
      ≡ progress_by_leaving (run_state s p) (process_served s (run_state s p)) (leaving s (run_state s p) n.target)
  pub stands : (next : Phase) → present_phase (row ∷ p) ≡ Some next
      → (connection (row ∷ p) ≡ Some n) × (changes_phase (change_of p row) ≡ true)
  pub says : present_phase (row ∷ p) ≡ Some Phase.MessageOut
      → ((run_state s (row ∷ p)).exchange.plan.cause ≡ cause_after (bus_of (run_state s p)))
      × ((run_state s (row ∷ p)).exchange.speech.words ≡ words_by (host_of s n.initiator) (bus_of (run_state s p))
      (run_state s p).handshakes.struck (run_state s p).exchange.speech.asked)

by_turn : (row : Row) (n : Connection) (c : Change) → RowKind row n c → changes_phase c ≡ true
    → (is_fault row.kind ≡ false) × (receiver_in n c ≡ None)
by_turn row n c (still g e r) f = wrong (sym f ∙ e)
by_turn row n c (strikes g e r) f = wrong (sym f ∙ e)
by_turn row n c (crosses dev g e r) f = wrong (sym f ∙ e)
by_turn row n c (turns g e r) f = (g, r)

pub phase_end : (s : ScenarioValue) (p : List Row) (row : Row) (n : Connection) → Obeys s → IsPrompt s (row ∷ p)
    → IsLeaving s p row n → PhaseEnd s p row n
phase_end s p row n o prompt w = by r.facts
  where
    q : List Row
    q = row ∷ p

    k : RunState
    k = run_state s p

    d : RowReading
    d = row_reading k.story.bus_state row

    was : Whole s p
    was = whole s p o prompt.0

    now : Whole s q
    now = whole s q o prompt

    pl : IsPlain s p k
    pl = run_state_plain s p was.stood.standing.devices

    ql : IsPlain s q (run_state s q)
    ql = run_state_plain s q now.stood.standing.devices

    standing : k.story.bus_state.connection ≡ Some n
    standing = pl.connection ∙ w.stands

    c : d.change ≡ change_of p row
    c = change_plain s row p was.stood.standing.devices (least_is s p row prompt.1).inside

    off : d.change.after.rst ≡ false
    off = ap (λ (x : Change). x.after.rst) c ∙ w.calm_after

    reads : d.next ≡ connection q
    reads = λ i. connection_after (pl.connection i) (pl.call i) (c i) row

    r : ConnectionRow s p row n
    r = connection_row s p row n o prompt was.stood w.stands w.calm w.calm_after

    known : (bus_of k).msg ≡ true → (bus_of k).cd ≡ true
    known z =
        ap (λ (x : LineSet). x.cd) pl.bus ∙ (link_phase s p n r.stage (ap (λ (x : LineSet). x.msg) (sym pl.bus) ∙ z)).0

    leaves : leaving s k n.target ≡ phase_leaving (serving_of s k n.target) (bus_of k).atn (phase_of (bus_of k))
    leaves = λ i. leaving_by (serving_of s k n.target) (w.begun i) (bus_of k)

    true_row : is_true_telling s k row d ≡ true
    true_row = (and_parts (Rattle.due_model.specs.Telling.telling s p) (is_true_telling s k row d) now.told).1

    -- what the ends show is what the target shows
    ends_are : (x : Option Connection) → d.next ≡ x → (changes_phase d.change || not (is_some x)) ≡ true
        → events_of_ends s k row d ≡ target_events s k n (is_some x)
    ends_are x e t =
        (λ i. if off i then (if rises d.change.own.rst d.change.next.rst then Event.Reset row.dev ∷ [] else [])
        else events_of_ends_in s k (standing i) d)
        ∙ (λ i. if changes_phase d.change || not (is_some (e i)) then target_events s k n (is_some (e i))
        else initiator_events k k.story.link d)
        ∙ ap (λ (y : Bool). if y then target_events s k n (is_some x) else initiator_events k k.story.link d) t

    told_by : (x : Option Connection) → d.next ≡ x → (changes_phase d.change || not (is_some x)) ≡ true
        → same_events (target_events s k n (is_some x)) (events_of_row s p row) ≡ true
    told_by x e t = ap (λ (y : List Event). same_events y (events_of_row s p row)) (sym (ends_are x e t)) ∙ true_row

    none_next : {A : Type 0} (next : Phase) → (let a : Option Phase = None in a) ≡ Some next → A
    none_next next e = absurd cc

    by : RowFacts s p row n → PhaseEnd s p row n
    by (ends_here g) =
        let free : present_phase q ≡ None = ap (λ (x : Option Connection). phase_if x (bus q)) g.stopped in
        record {
          was = was;
          whole_now = now;
          known = known;
          over = g.over;
          leaves = leaves;
          whereto = g.whereto ∙ sym free;
          told = ap (λ (x : Option Phase). same_events (target_events s k n (is_some x)) (events_of_row s p row)) free
              ∙ told_by None (reads ∙ g.stopped) (or_true (changes_phase d.change));
          plan = λ next e. none_next next (sym free ∙ e);
          progress = λ next e. none_next next (sym free ∙ e);
          stands = λ next e. none_next next (sym free ∙ e);
          says = λ e. none_next Phase.MessageOut (sym free ∙ e);
        }
    by (stays g) = record {
      was = was;
      whole_now = now;
      known = known;
      over = g.over turned begun_is;
      leaves = leaves;
      whereto = g.whereto turned begun_is ∙ sym here;
      told = ap (λ (x : Option Phase). same_events (target_events s k n (is_some x)) (events_of_row s p row)) here
          ∙ told_by (Some n) next_is (ap (λ (x : Bool). x || false) (ap changes_phase g.row_is.change_is ∙ turned));
      plan = plan;
      progress = progress;
      stands = λ next e. (sym reads ∙ next_is, ap changes_phase (sym c ∙ g.row_is.change_is) ∙ turned);
      says = says;
    }
      where
        next_is : d.next ≡ Some n
        next_is = (λ i. connection_after (g.row_is.connection_is i) k.story.bus_state.call (g.row_is.change_is i) row)
            ∙ ap (λ (x : Bool). if x then Some n else None) g.row_is.stands

        begun_is : Rattle.due_model.specs.dialogue_model.specs.Hearing.begun p ≡ true
        begun_is = sym pl.begun ∙ w.begun

        turned : changes_phase g.change ≡ true
        turned = go w.leaves
          where
            go : (changes_phase d.change ≡ true) ⊎ (d.next ≡ None) → changes_phase g.change ≡ true
            go (inl e) = ap changes_phase (sym g.row_is.change_is) ∙ e
            go (inr e) = none_some n (sym e ∙ next_is)

        two : (is_fault row.kind ≡ false) × (receiver_in n g.change ≡ None)
        two = by_turn row n g.change g.row_is.kind turned

        i : InConnection s k row n g.change true false false
        i = in_connection s k row n g.change true false false g.row_is turned
            (ap (λ (x : Option ℕ). is_some x) two.1) two.0

        lines : bus q ≡ g.change.after
        lines = sym ql.bus ∙ i.bus_is

        here : present_phase q ≡ Some (phase_of g.change.after)
        here = (λ j. phase_if ((sym reads ∙ next_is) j) (lines j))

        hearing : Hearing
        hearing = hearing_of k row (reading_in k.story.bus_state n g.change false)

        l : Leaving
        l = leaving s k n.target

        plan : (next : Phase) → present_phase q ≡ Some next → is_out_phase next ≡ false
            → (run_state s q).exchange.plan
            ≡ record (plan_anew k.exchange.plan) { messages = l.messages; next = l.next }
        plan next e other = ap (λ (x : Exchange). x.plan) i.exchange_is ∙ go (is_message_out g.change.after) refl
          where
            same : phase_of g.change.after ≡ next
            same = same_Some (phase_of g.change.after) next (sym here ∙ e)

            go : (x : Bool) → is_message_out g.change.after ≡ x
                → (if not x then record (plan_anew k.exchange.plan) { messages = l.messages; next = l.next }
                else if hearing.begun then plan_in_message_out hearing k.exchange.plan else plan_anew k.exchange.plan)
                ≡ record (plan_anew k.exchange.plan) { messages = l.messages; next = l.next }
            go false z = refl
            go true z = wrong (sym (ap is_out_phase (out_phase g.change.after z)) ∙ ap is_out_phase same ∙ other)

        progress : (next : Phase) → present_phase q ≡ Some next
            → (run_state s q).progress ≡ progress_by_leaving k (process_served s k) l
        progress next e = (λ j. progress_after s k
            (reading_is k row n g.change false g.row_is (ap (λ (x : Option ℕ). is_some x) two.1) j)
            (standing j) (next_is j) (leaving_of s k (standing j)))
            ∙ (λ j. if turned j && w.begun j then progress_by_leaving k (process_served s k) l else k.progress)

        says : present_phase q ≡ Some Phase.MessageOut
            → ((run_state s q).exchange.plan.cause ≡ cause_after (bus_of k)) × ((run_state s q).exchange.speech.words
            ≡ words_by (host_of s n.initiator) (bus_of k) k.handshakes.struck k.exchange.speech.asked)
        says e = (
          ap (λ (x : Exchange). x.plan.cause) i.exchange_is
              ∙ ap (λ (x : Plan). x.cause) (plan_out hearing l k.exchange.plan out w.begun)
              ∙ ap cause_after (sym g.row_is.bus_is),
          ap (λ (x : Exchange). x.speech.words) i.exchange_is ∙ (λ j. (if out j && w.begun j
              then speech_of k.exchange.speech (words_after (host_of s n.initiator) hearing k.exchange.speech.asked)
              else record k.exchange.speech { place = 0 }).words)
              ∙ ap (λ (x : LineSet). words_by (host_of s n.initiator) x k.handshakes.struck k.exchange.speech.asked)
              (sym g.row_is.bus_is),
        )
          where
            con : connection q ≡ Some n
            con = sym reads ∙ next_is

            lines_known : g.change.after.msg ≡ true → g.change.after.cd ≡ true
            lines_known z = ap (λ (x : LineSet). x.cd) (sym lines)
                ∙ (link_phase s q n (stage_of_connection s q n now.stood con w.calm_after)
                (ap (λ (x : LineSet). x.msg) lines ∙ z)).0

            out : is_message_out g.change.after ≡ true
            out = out_is g.change.after lines_known
                ∙ ap is_out_phase (same_Some (phase_of g.change.after) Phase.MessageOut (sym here ∙ e))
