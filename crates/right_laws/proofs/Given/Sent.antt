-- As a write runs that ends GOOD, all that it sends has come, and its unit keeps the size of its blocks.
use Rattle.right_laws.proofs
use proofs.Names.{ℕ, ◌≡◌, ◌≤◌, true, false, ◌==◌, ◌∙◌, List, ◌∷◌, length, Option, Some, None, refl, sym, ap, arith}
use proofs.Names.{same_Some, wrong, Event, LineSet, connection, bus, Row, Change, Connection, GOOD, ScenarioValue}
use proofs.Names.{Obeys, step_sound, array_step, reply_in, shows_run, Reply, Process, process_of, step, Array}
use proofs.Names.{row_reading, row_events_by, process, IsPrompt, IsPlain, RunState, or_start, process_item}
use proofs.Names.{process_served, run_state, array_after_events, reply_now, obeys_fits, seats_are, is_of_size, writers}
use proofs.Names.{run_replies, accept_same, change_plain, least_is, none_some, IsWhole, ends_badly, sends_all}
use proofs.Names.{sends_none, bytes_come, Whole, row_attendance, whole, write_premises, SendsAtRun}
use proofs.Ran.{Crossings.{GoesSo, here_goes, known_served}, Sent.{answer_of}, Shown.{IsAnswer, RunsAs, runs_alone}}
use proofs.Ran.Shown.{runs_arrived, row_runs}

-- ---- the reply of a process that runs is the one that it would have before the row

pub runs_so : (s : ScenarioValue) (a b : Array) (q : Process) (shown : List Event) → Obeys s
    → Rattle.due_model.specs.array_model.specs.SoundArray.IsSound s a → process_of s q.id ≡ Some q → RunsAs q.id shown
    → array_after_events s (Some a) shown ≡ Some b → reply_in b.replies q.id ≡ Some (reply_now a q)
runs_so s a b q shown o sound own (runs_alone e) after =
    run_replies s a b q sound own (sym (ap (array_after_events s (Some a)) e) ∙ after)
runs_so s a b q shown o sound own (runs_arrived e) after =
    go (step s (Event.Accept q.id) a) refl (sym (ap (array_after_events s (Some a)) e) ∙ after)
  where
    seats : Rattle.due_model.specs.array_model.specs.SoundArray.HasSeats s
    seats = seats_are s (obeys_fits s o)

    go : (m : Option Array) → step s (Event.Accept q.id) a ≡ m
        → array_step s (Event.Run q.id) (step s (Event.Accept q.id) a) ≡ Some b
        → reply_in b.replies q.id ≡ Some (reply_now a q)
    go None f z = none_some b (sym (ap (array_step s (Event.Run q.id)) f) ∙ z)
    go (Some m) f z = run_replies s m b q (step_sound s a m (Event.Accept q.id) seats sound f) own
        (sym (ap (array_step s (Event.Run q.id)) f) ∙ z)
        ∙ ap (λ (r : Reply). Some r) (accept_same s a m q seats sound own f)

-- ---- the row

none_sent : (a b : ℕ) → a ≡ 0 → a ≤ b
none_sent a b e = omega (arith, e)

pub sends_at_run : (s : ScenarioValue) (p : List Row) (row : Row) → Obeys s → IsPrompt s (row ∷ p)
    → SendsAtRun s (run_state s p) row
sends_at_run s p row o prompt q reply is w good =
    by (here_goes s k row answer.link q.id (λ e. (was.facts.items.items.apart e).0) next.rows_are.1 answer.here)
  where
    k : RunState
    k = run_state s p

    was : Whole s p
    was = whole s p o prompt.0

    next : Whole s (row ∷ p)
    next = whole s (row ∷ p) o prompt

    shown : List Event
    shown = row_events_by s k.story (row_reading k.story.bus_state row) row

    answer : IsAnswer k (row_reading k.story.bus_state row) q.id
    answer = answer_of s k row q.id is.runs

    runs_with : RunsAs q.id shown
    runs_with = row_runs s k row q.id is.runs

    pl : IsPlain s p k
    pl = was.stood.plain

    now : reply_in next.places.array.replies q.id ≡ Some (reply_now was.places.array q)
    now = runs_so s was.places.array next.places.array q shown o was.places.sound is.process_is runs_with
        (sym (λ i. array_after_events s (was.places.array_is i) shown) ∙ next.places.array_is)

    same : reply_now was.places.array q ≡ reply
    same = same_Some (reply_now was.places.array q) reply
        (sym now ∙ (λ i. reply_in (or_start s (sym next.places.array_is i)).replies q.id) ∙ is.reply_is)

    ran : shows_run shown ≡ true
    ran = go runs_with
      where
        go : RunsAs q.id shown → shows_run shown ≡ true
        go (runs_alone e) = ap shows_run e
        go (runs_arrived e) = ap shows_run e

    by : GoesSo s k row → (length q.sent ≤ bytes_come s k q) × (is_of_size s k q ≡ true)
    by v = (
      came ((row_attendance s p row o prompt).whole n q con calm off ran served_is),
      (write_premises s p row o prompt was.stood was.places was.sends was.resets).sizes q served_is,
    )
      where
        n : Connection
        n = v.connection

        con : connection p ≡ Some n
        con = sym pl.connection ∙ v.goes.row_is.connection_is

        calm : (bus p).rst ≡ false
        calm = ap (λ (l : LineSet). l.rst) (sym pl.bus) ∙ v.goes.calm

        off : (bus (row ∷ p)).rst ≡ false
        off = ap (λ (x : Change). x.after.rst)
            (sym (change_plain s row p was.stood.standing.devices (least_is s p row prompt.1).inside))
            ∙ answer.here.calm

        served : k.served ≡ Some (process q.id)
        served = known_served s k row n v.change answer.link q.id was.stood.books v.goes answer.here.link_is
            answer.here.item_is

        served_is : process_served s k ≡ Some q
        served_is = ap (process_item s) served ∙ is.process_is

        came : IsWhole s k (writers s p) q → length q.sent ≤ bytes_come s k q
        came (ends_badly e) = wrong (sym (ap (λ (r : Reply). r.status == GOOD) same ∙ good)
            ∙ (λ i. (reply_now (or_start s (sym was.places.array_is i)) q).status == GOOD) ∙ e)
        came (sends_none e) = none_sent (length q.sent) (bytes_come s k q) e
        came (sends_all h) = h.came
