-- As another phase begins, what the rows tell of the process that is served is what its target knows.
use Rattle.trace_laws.proofs
use proofs.Names.{inl, inr, ℕ, ◌≡◌, ◌⊎◌, ◌<◌, Bool, true, false, ◌∙◌, List, Option, Some, None, sym, ap, subst, not}
use proofs.Names.{◌&&◌, ◌∷◌, refl, not-true, is_some, if◌then◌else◌, wrong', wrong, ProcId, change_of, rises, LineSet}
use proofs.Names.{changes_phase, is_message_out, is_message_in, connection, is_fault, bus, drives, Kind, Drives, Fault}
use proofs.Names.{Row, Change, Connection, has_group_len, PARITY_ERROR, ScenarioValue, Obeys, has_ended, Array}
use proofs.Names.{row_reading, RowReading, is_complete, is_completion, process, Link, phase_of, Serving, phase_entry}
use proofs.Names.{phase_leaving, message_out_leaving, after_messages, leaving_by, Cause, Leaving, Phase}
use proofs.Names.{run_state_plain, IsPrompt, IsPlain, AreOfDevices, RunState, bus_of, item_of, process_item}
use proofs.Names.{carried_here, or_start, run_state, serving_of, leaving, is_command_phase, reading_is, Knows, GoesOn}
use proofs.Names.{Ends, change_plain, fault_change, least_is, change_to, no_rise, none_some, out_phase, is_status}
use proofs.Names.{connection_row, stage_of_connection, RowFacts, stays, ends_here, Stood, NextStood, link_unbegun}
use proofs.Names.{PlaceFacts, AreRepliesShown, code_if, FailsIn, Tells, TellsAsLeft, whole_block, TellFacts, CloseFacts}
use proofs.{Closes.{Asks.{CompletesAsGiven, stay_asked}, Ends.{taken_in, lost_in, lost_by}}, Places.Asks.{places_asked}}
use proofs.Places.{EndTells.{end_told, end_begun}, Ends.{IsEndAsked}, Joins.{PlaceLeft, places_owed}}
use proofs.Places.{Leavings.{Repeats, commands, again, leaves, from_refusal}, Rows.{places_next}, TurnRows.{TellsOf}}
use Rattle.due_model.specs.array_model.proofs.SoundArrays.{id_is}

coded : (q : Bool) (failure : Option ℕ) → failure ≡ code_if q PARITY_ERROR → q ≡ true → is_some failure ≡ true
coded true failure e f = ap is_some e
coded false failure e f = wrong' f

pub turn_tells : (s : ScenarioValue) (p : List Row) (row : Row) (n : Connection) (c : Change) (id : ProcId)
    → row.dev < 8 → Stood s p → PlaceFacts s p → AreRepliesShown s (run_state s p) → TellsAsLeft s p row
    → GoesOn s (run_state s p) row n c → changes_phase c ≡ true → (run_state s p).exchange.begun ≡ true
    → (run_state s p).served ≡ Some (process id) → TellsOf s (run_state s p) id
turn_tells s p row n c id lt was h shown left g ep begun served = record {
  replies = shown id;
  whole = λ e. whole_block (carried_here k id) k.exchange.plan.struck (fails e).0 (λ z. whole_of e z);
  code = λ e z. coded k.exchange.plan.struck (carried_here k id).failure (fails e).1 z;
}
  where
    k : RunState
    k = run_state s p

    turning : changes_phase (row_reading k.story.bus_state row).change ≡ true
    turning = ap changes_phase g.row_is.change_is ∙ ep

    tells : Tells s k n
    tells = left n (record {
      stands = sym was.plain.connection ∙ g.row_is.connection_is;
      calm = sym (ap (λ (x : LineSet). x.rst) was.plain.bus) ∙ g.calm;
      calm_after = sym (ap (λ (x : Change). x.after.rst) (change_plain s row p was.standing.devices lt))
          ∙ ap (λ (x : Change). x.after.rst) g.row_is.change_is ∙ g.row_is.calm;
      begun = begun;
      leaves = inl turning;
    })

    knows : Knows s k n
    knows = was.books.knows n g.row_is.connection_is g.calm

    -- In COMMAND the initiator knows it.
    item : phase_of (bus_of k) ≡ Phase.Command → item_of k.story.link ≡ Some (process id)
    item e = ap item_of knows.link_is ∙ by knows.item_is
      where
        by : (knows.link.item ≡ k.served) ⊎ ((n.reselected ≡ true) × (knows.link.item ≡ None))
            → knows.link.item ≡ Some (process id)
        by (inl z) = z ∙ served
        by (inr z) = elim (tells.naming (ap item_of knows.link_is ∙ z.1)) [
          | inl x ↦ wrong' (ap is_command_phase (sym x.0) ∙ ap is_command_phase e)
          | inr x ↦ wrong' (ap is_command_phase (sym x.0) ∙ ap is_command_phase e)
        ]

    fails : phase_of (bus_of k) ≡ Phase.Command → ((carried_here k id).struck ≡ k.exchange.plan.struck)
        × ((carried_here k id).failure ≡ code_if k.exchange.plan.struck PARITY_ERROR)
    fails e = subst (λ (x : Phase). FailsIn k.exchange.plan (bus_of k).atn (carried_here k id) x) e
        (tells.failure id (item e))

    whole_of : phase_of (bus_of k) ≡ Phase.Command → k.exchange.plan.struck ≡ false
        → has_group_len (carried_here k id).block ≡ true
    whole_of e z =
        let own = h.of_scenario id served in
        ap (λ (x : ProcId). has_group_len (carried_here k x).block) (sym (id_is s id own.0 own.1))
        ∙ ((g.leaves turning).command own.0 (ap (process_item s) served ∙ own.1) e).1 z

-- ---- Until the initiator knows the process neither COMMAND is left nor STATUS begins; and no fault row lets it take a
-- message (6.6.7, 6.6.13).

-- ---- a fault row

-- The row with which the initiator takes COMMAND COMPLETE is no fault row.
pub takes_by_lines : (s : ScenarioValue) (p : List Row) (row : Row) (n : Connection) (c : Change) (l : Link)
    → row.dev < 8 → AreOfDevices p → GoesOn s (run_state s p) row n c → is_completion l c ≡ true
    → is_fault row.kind ≡ false
takes_by_lines s p row n c l lt dv g e = go row.kind refl
  where
    is : c ≡ change_of p row
    is = sym g.row_is.change_is ∙ change_plain s row p dv lt

    first : (x y z t : Bool) → (x && y && z && not t) ≡ true → x ≡ true
    first true y z t q = refl
    first false y z t q = wrong' q

    rose : rises c.before.ack c.after.ack ≡ true
    rose = first (rises c.before.ack c.after.ack) (is_message_in c.before) (is_complete l.last) c.after.atn e

    go : (x : Kind) → row.kind ≡ x → is_fault row.kind ≡ false
    go (Drives lines) f = ap is_fault f
    go (Fault bit) f =
        let o : LineSet = drives p row.dev in
        let same : c ≡ change_to (bus p) (bus p) o o = is
        ∙ (λ i. change_of p (record { time = row.time; dev = row.dev; kind = f i }))
        ∙ fault_change p row.time row.dev bit (bus p) o refl refl in
        wrong (sym rose ∙ ap (λ (x : Change). rises x.before.ack x.after.ack) same ∙ no_rise (bus p).ack)

-- ---- the names of a reselection

abbrev not_status : Option Phase → Bool
not_status None = true
not_status (Some p) = not (is_status p)

pub unnamed_turn : (s : ScenarioValue) (p : List Row) (row : Row) (n : Connection) (c : Change) (l : Link)
    → Obeys s → IsPrompt s (row ∷ p) → Stood s p → NextStood s p row → TellsAsLeft s p row
    → GoesOn s (run_state s p) row n c → changes_phase c ≡ true → (run_state s p).story.link ≡ Some l → l.item ≡ None
    → (is_status (phase_of c.after) ≡ false) × (is_command_phase (phase_of c.before) ≡ false)
unnamed_turn s p row n c l o prompt was next left g ep link none = by_begun k.exchange.begun refl
  where
    k : RunState
    k = run_state s p

    v : Serving
    v = serving_of s k n.target

    lt : row.dev < 8
    lt = (least_is s p row prompt.1).inside

    pl2 : IsPlain s (row ∷ p) (run_state s (row ∷ p))
    pl2 = run_state_plain s (row ∷ p) (lt, was.standing.devices)

    con : connection p ≡ Some n
    con = sym was.plain.connection ∙ g.row_is.connection_is

    off : (bus p).rst ≡ false
    off = sym (ap (λ (x : LineSet). x.rst) was.plain.bus) ∙ g.calm

    calm : (bus (row ∷ p)).rst ≡ false
    calm = sym (ap (λ (x : Change). x.after.rst) (change_plain s row p was.standing.devices lt))
        ∙ ap (λ (x : Change). x.after.rst) g.row_is.change_is ∙ g.row_is.calm

    before : phase_of c.before ≡ phase_of (bus_of k)
    before = ap phase_of (sym g.row_is.bus_is)

    whereto : k.exchange.begun ≡ true → RowFacts s p row n → (leaving s k n.target).to ≡ Some (phase_of c.after)
    whereto b (stays f) =
        let is : f.change ≡ c = sym f.row_is.change_is ∙ g.row_is.change_is in
        f.whereto (ap changes_phase is ∙ ep) (sym was.plain.begun ∙ b) ∙ ap (λ (x : Change). Some (phase_of x.after)) is
    whereto b (ends_here f) =
        let some : (row_reading k.story.bus_state row).next ≡ Some n = ap
        (λ (x : RowReading). x.next) (reading_is k row n c _ g.row_is refl) in
        none_some n (sym f.stopped ∙ sym pl2.connection ∙ some)

    after_is : (x : Leaving) → x.to ≡ Some (phase_of c.after) → not_status x.to ≡ true
        → is_status (phase_of c.after) ≡ false
    after_is x e f = not-true (is_status (phase_of c.after)) (ap not_status (sym e) ∙ f)

    repeats : Repeats v (message_out_leaving v Cause.InMessage)
        → (message_out_leaving v Cause.InMessage).to ≡ Some (phase_of c.after) → is_status (phase_of c.after) ≡ false
    repeats (commands e f) to = after_is (phase_entry Phase.Command) (ap (λ (x : Leaving). x.to) (sym f) ∙ to) refl
    repeats (again e f h) to = after_is (message_out_leaving v Cause.InMessage) to (ap not_status e)
    repeats (leaves e) to = none_some (phase_of c.after) (sym e ∙ to)

    by_begun : (q : Bool) → k.exchange.begun ≡ q
        → (is_status (phase_of c.after) ≡ false) × (is_command_phase (phase_of c.before) ≡ false)
    by_begun true b = elim (tells.naming (ap item_of link ∙ none)) [
      | inl x ↦ (
        repeats (from_refusal v) (ap (λ (y : Cause). (message_out_leaving v y).to) (sym x.1)
            ∙ ap (λ (y : Phase). (phase_leaving v (bus_of k).atn y).to) (sym x.0) ∙ to),
        ap is_command_phase (before ∙ x.0),
      )
      | inr x ↦ (
        after_is (phase_entry Phase.MessageOut)
            (ap (λ (y : Bool). (if y then phase_entry Phase.MessageOut else after_messages v v.plan.next).to) (sym x.1)
            ∙ ap (λ (y : Phase). (phase_leaving v (bus_of k).atn y).to) (sym x.0) ∙ to) refl,
        ap is_command_phase (before ∙ x.0),
      )
    ]
      where
        tells : Tells s k n
        tells = left n (record {
          stands = con;
          calm = off;
          calm_after = calm;
          begun = b;
          leaves = inl (ap changes_phase g.row_is.change_is ∙ ep);
        })

        to : (phase_leaving v (bus_of k).atn (phase_of (bus_of k))).to ≡ Some (phase_of c.after)
        to = ap (λ (q : Bool). (leaving_by v q (bus_of k)).to) (sym b)
            ∙ whereto b (connection_row s p row n o prompt was con off calm).facts
    by_begun false b =
        let m : is_message_out c.after ≡ true = ap (λ (x : Change). is_message_out x.after) (sym g.row_is.change_is)
        ∙ g.first (ap changes_phase g.row_is.change_is ∙ ep) b in (
          ap is_status (out_phase c.after m),
          ap (λ (x : LineSet). is_command_phase (phase_of x)) (sym g.row_is.bus_is ∙ was.plain.bus
              ∙ link_unbegun s p n (stage_of_connection s p n was con off) (sym was.plain.begun ∙ b)),
        )

-- ---- After a row of a prompt trace the process that a target serves stands in the plain disk array where the phase
-- says.

-- ---- of a row

-- As a connection ends.
pub end_asked : (s : ScenarioValue) (p : List Row) (row : Row) (n : Connection) (l : Link)
    → Obeys s → IsPrompt s (row ∷ p) → Stood s p → TellFacts s p
    → (places : PlaceFacts s p) → CloseFacts s p → TellsAsLeft s p row → Ends s (run_state s p) row n
    → (row_reading (run_state s p).story.bus_state row).change.after.rst ≡ false → (run_state s p).story.link ≡ Some l
    → IsEndAsked (run_state s p) l places.array
end_asked s p row n l o prompt was facts places closes tells g calm link =
    let t = end_told s p row n l o prompt was places tells g calm link in
    record {
      named = t.named;
      next = t.next;
      closing = t.closing;
      taken = λ id e f m. ap (λ (x : Array). has_ended x id) (sym (ap (or_start s) places.array_is))
          ∙ taken_in s p row n id o prompt was closes g calm e f m;
      lost = λ id e f. lost_by s p n l id was facts.last g link e f
          (λ z. lost_in s p row n l id o prompt was facts.last g calm link e z)
          (end_begun s p row n o prompt was g calm);
    }

pub place_row : (s : ScenarioValue) (p : List Row) (row : Row) → Obeys s → IsPrompt s (row ∷ p) → Stood s p
    → NextStood s p row → TellFacts s p → AreRepliesShown s (run_state s p) → PlaceFacts s p → CloseFacts s p
    → TellsAsLeft s p row → CompletesAsGiven s (run_state s p) row → PlaceFacts s (row ∷ p)
place_row s p row o prompt was next facts shown places closes tells given = places_next s p row o prompt was next places
    (places_asked s p row a was (places_owed s p row a o prompt was facts.items facts.offers left))
  where
    k : RunState
    k = run_state s p

    inside : row.dev < 8
    inside = (least_is s p row prompt.1).inside

    a : Array
    a = places.array

    left : PlaceLeft s k row a
    left = record {
      tells = λ n c g e b id served. turn_tells s p row n c id inside was places shown tells g e b served;
      unnamed = λ n c l g e link none. unnamed_turn s p row n c l o prompt was next tells g e link none;
      stays = λ n c l g e link. stay_asked s p row n c l o prompt was next facts closes given g e link;
      drives = λ n c l g e. takes_by_lines s p row n c l inside was.standing.devices g e;
      ends = λ n l g calm link. end_asked s p row n l o prompt was facts places closes tells g calm link;
    }
