-- What a row of a prompt trace shows is what the target of its connection rests on.
use Rattle.trace_laws.proofs
use proofs.Names.{◌≡◌, Bool, true, false, ◌∙◌, List, [], ◌∷◌, Option, Some, None, refl, sym, ap, ℕ, ◌==◌, eqb-true}
use proofs.Names.{if◌then◌else◌, is_some, wrong, Event, ProcId, rises, connection, bus, Row, Change, Connection}
use proofs.Names.{ScenarioValue, Obeys, array_step, Reply, after_status, array_without, end_step, end_step_with}
use proofs.Names.{running_process, settled_array_if, Array, RunningProcess, RowReading, row_reading, link_events, Link}
use proofs.Names.{IsLeast, due, IsPrompt, RunState, or_start, array_after_events, run_state, change_plain, least_is}
use proofs.Names.{link_calm, AnyStage, linked, none_some, begins_now, goes_now, row_kind, under_rst, Stood}
use proofs.Names.{AttendedFacts, Shows, ShowsAfterReset, CommandFacts, InstructedFacts, AttendanceAsked, EndsAsGiven}
use proofs.{Names.{HasGiven, HasReplyGiven}, Attended.Rows.{shows_in}}
use Rattle.story_laws.specs.link_laws.specs.LinkStages.{apart}

-- A connection in which RST was true does not outlast it.
pub not_after_reset : (s : ScenarioValue) (p : List Row) (row : Row) (n : Connection) → Obeys s → IsPrompt s (row ∷ p)
    → Stood s p → connection p ≡ Some n → (bus p).rst ≡ true → (bus (row ∷ p)).rst ≡ false → connection (row ∷ p) ≡ None
not_after_reset s p row n o prompt was con on off = go (connection (row ∷ p)) refl
  where
    go : (x : Option Connection) → connection (row ∷ p) ≡ x → connection (row ∷ p) ≡ None
    go None e = e
    go (Some m) e = elim (row_kind s p row m o prompt was e off) [
      | begins_now alone f ↦ none_some n (sym alone ∙ con)
      | goes_now again calm ↦ wrong (sym on ∙ calm)
    ]

-- Under RST no connection has a link.
link_gone : (s : ScenarioValue) (p : List Row) → Stood s p → (bus p).rst ≡ true → (run_state s p).story.link ≡ None
link_gone s p was on = go was.here
  where
    go : AnyStage s p → (run_state s p).story.link ≡ None
    go (linked n h) = wrong (sym on ∙ link_calm s p n h)
    go (apart h alone) = (under_rst s p h on).link

after_reset : (s : ScenarioValue) (p : List Row) (row : Row) (n : Connection) → Obeys s → IsPrompt s (row ∷ p)
    → Stood s p → connection p ≡ Some n → (bus p).rst ≡ true → (bus (row ∷ p)).rst ≡ false → ShowsAfterReset s p row
after_reset s p row n o prompt was con on off =
    let k : RunState = run_state s p in
    let d : RowReading = row_reading k.story.bus_state row in
    let m : IsLeast (due s p) 8 row = least_is s p row prompt.1 in
    let calm : d.change.after.rst ≡ false =
    ap (λ (x : Change). x.after.rst) (change_plain s row p was.standing.devices m.inside) ∙ off in
    record {
      ends = not_after_reset s p row n o prompt was con on off;
      none = ap
          (λ (q : Bool). if q then (if rises d.change.own.rst d.change.next.rst then Event.Reset row.dev ∷ [] else [])
          else link_events s k.story k.story.link d) calm
          ∙ ap (λ (x : Option Link). link_events s k.story x d) (link_gone s p was on);
    }

-- ---- a process ends

pub none_array : {A : Type 0} → (let o : Option Array = None in is_some o) ≡ true → A
none_array e = absurd cc

-- The plain disk array permits its end only with the status of its reply.
ends_as : (s : ScenarioValue) (o : Option Array) (id : ProcId) (status : ℕ) → HasReplyGiven (or_start s o) id
    → is_some (array_step s (Event.End id status) o) ≡ true → HasGiven (or_start s o) id status
ends_as s None id status h e = none_array e
ends_as s (Some a) id status h e = go (running_process a id) refl e
  where
    by_status : (r : RunningProcess) (reply : Reply) → running_process a id ≡ Some r
        → r.reply ≡ Some reply → (q : Bool) → (reply.status == status) ≡ q → is_some
        (settled_array_if (if q then Some (array_without (after_status a r.process reply) r.process.id) else None))
        ≡ true → HasGiven a id status
    by_status r reply f g true z e =
        record { reply = reply; given = h r reply f g; status_is = eqb-true reply.status status z }
    by_status r reply f g false z e = none_array e

    by_reply : (r : RunningProcess) → running_process a id ≡ Some r → (x : Option Reply) → r.reply ≡ x
        → is_some (settled_array_if (end_step_with a r.process status x)) ≡ true → HasGiven a id status
    by_reply r f None g e = none_array e
    by_reply r f (Some reply) g e = by_status r reply f g (reply.status == status) refl e

    go : (x : Option RunningProcess) → running_process a id ≡ x
        → is_some (settled_array_if (end_step a status x)) ≡ true → HasGiven a id status
    go None f e = none_array e
    go (Some r) f e = by_reply r f r.reply refl e

ends_given : (s : ScenarioValue) (p : List Row) (row : Row) → AttendanceAsked s p row → EndsAsGiven s p row
ends_given s p row asked n id status con calm served shows =
    let k : RunState = run_state s p in
    ends_as s k.array id status (asked.replies n id con calm served)
    (ap (λ (shown : List Event). is_some (array_after_events s k.array shown)) (sym shows) ∙ asked.allowed)

-- Of a scenario that obeys the rules of its text.
pub attended_row : (s : ScenarioValue) (p : List Row) (row : Row) → Obeys s → IsPrompt s (row ∷ p) → Stood s p
    → CommandFacts s p → InstructedFacts s p → AttendanceAsked s p row → AttendedFacts s p → Shows s p row
attended_row s p row o prompt was commands told asked facts = record {
  inside = λ n con calm off. shows_in s p row n (record {
    obeys = o;
    prompt = prompt;
    stood = was;
    commands = commands;
    told = told;
    facts = facts;
    ends = ends_given s p row asked;
    stands = con;
    calm = calm;
    calm_after = off;
  });
  after_reset = λ n con on off. after_reset s p row n o prompt was con on off;
}
