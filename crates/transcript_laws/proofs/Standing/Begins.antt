-- What stands once a connection has begun.
use Rattle.transcript_laws.proofs
use proofs.Names.{ℕ, ◌≡◌, ◌∙◌, Bool, true, false, not, ◌&&◌, ◌||◌, List, [], ◌∷◌, Option, Some, None, refl, sym, ap}
use proofs.Names.{subst, reverse-append, if◌then◌else◌, ProcId, is_command, Change, Connection, Row, ScenarioValue}
use proofs.Names.{id_turned, same_id, carried_id, carried_with, RowReading, row_reading, bus_state_after, CarriedBytes}
use proofs.Names.{nothing_carried, carried_at, carried_or_nothing, carried_of, with_carried, with_restored_pointers}
use proofs.Names.{is_status_phase, process, abort, has_item, link_of, Story, aim_of, story_with_history, story, put_own}
use proofs.Names.{none_some, names_begun, opened_connection, same_nexus, TranscriberValue, with_bus, by_change}
use proofs.Names.{transcribed, Process, IsKept, AreNumbered, are_talk, base_parts, nexus_of, is_known, IsServing}
use proofs.Names.{sent_order, StandsApart, again, first, of_abort, of_none, of_process, anew, IsAlone, StandsBy, linked}
use proofs.{Names.{Standing, IsKeptOf, IsMarked}, Processes.Sent.{has_reverse}, Serving.Talks.{talk_serves}}
use proofs.Standing.{Buses.{reading_same, buses_alike}, First.{first_story, again_story, sent_story, first_crosses}}
use proofs.Standing.First.{first_change}
use Rattle.due_model.specs.array_model.specs.Processes as array_of

-- What is asked of the row.
pub record Begins (s : ScenarioValue) (rows : List Row) (row : Row) (n : Connection) : Type 0 where
  pub off : (row_reading (story s rows).bus_state row).change.after.rst ≡ false
  pub alone : (story s rows).bus_state.connection ≡ None
  pub next : (row_reading (story s rows).bus_state row).next ≡ Some n
  pub no_command : is_command (row_reading (story s rows).bus_state row).change.after ≡ false
  pub no_status : is_status_phase (row_reading (story s rows).bus_state row).change.after ≡ false

-- The transcript after it.
change_is : (s : ScenarioValue) (rows : List Row) (row : Row) (n : Connection) → Begins s rows row n
    → by_change (transcribed rows) (row_reading (transcribed rows).bus_state row) row
    ≡ record (transcribed rows) { opened = Some (opened_connection n) }
change_is s rows row n h =
    let same = reading_same (transcribed rows).bus_state (story s rows).bus_state row (buses_alike s rows) in
    first_change (transcribed rows) (row_reading (transcribed rows).bus_state row) row n
    (ap (λ (x : RowReading). x.change.after.rst) same ∙ h.off) ((buses_alike s rows).connection ∙ h.alone)
    (ap (λ (x : RowReading). x.next) same ∙ h.next)

no_crossing : {A : Type 0} (s : ScenarioValue) (rows : List Row) (row : Row) (n : Connection)
    → Begins s rows row n → (c : Change)
    → (bus_state_after (story s rows).bus_state row (row_reading (story s rows).bus_state row)).crossed ≡ Some c → A
no_crossing s rows row n h c e =
    none_some c (sym (ap (λ (q : Bool). if q then Some (row_reading (story s rows).bus_state row).change else None)
    (first_crosses (story s rows).bus_state row h.alone)) ∙ e)

-- ---- a target began it

pub again_next : (s : ScenarioValue) (rows : List Row) (row : Row) (n : Connection) → n.reselected ≡ true
    → Begins s rows row n → AreNumbered (transcribed rows).processes (names_begun (transcribed rows).items)
    → ((id : ProcId) → IsMarked (story s rows).history (carried_of (story s rows).carried id))
    → StandsApart s (transcribed rows) (story s rows) → Standing s (row ∷ rows)
again_next s rows row n re g numbered marked h = record {
  numbered = subst (λ (x : TranscriberValue). AreNumbered x.processes (names_begun x.items))
      (sym (change_is s rows row n g)) numbered;
  marked = λ id. subst (λ (x : Story). IsMarked x.history (carried_of x.carried id)) (sym story_is) (marked id);
  stands = subst (λ (x : TranscriberValue). StandsBy s (with_bus x row (row_reading (transcribed rows).bus_state row))
      (story s (row ∷ rows))) (sym (change_is s rows row n g))
      (subst (λ (x : Story). StandsBy s (with_bus (record (transcribed rows) { opened = Some (opened_connection n) })
      row (row_reading (transcribed rows).bus_state row)) x) (sym story_is) (linked (record {
        opened = opened_connection n;
        link = link_of n None;
        opened_is = refl;
        link_is = refl;
        connection_is = g.next;
        sent = sent_order b;
        old = b.history;
        conn = [];
        history_is = refl;
        past = h.past;
        begun = again re refl;
        stage = of_none re refl refl g.no_command g.no_status (λ j e. none_some (abort j) e)
            (λ id e. none_some (process id) e) (λ u e. none_some u e) (λ id o but. h.kept id o but);
        bytes = λ e. refl;
        said = λ e. refl;
        crossed = λ c e. no_crossing s rows row n g c e;
        undone = λ u e f. none_some u e;
      })));
}
  where
    b : Story
    b = story s rows

    story_is : story s (row ∷ rows) ≡ story_with_history (record (story s rows) {
      link = Some (link_of n None);
    }) (bus_state_after (story s rows).bus_state row (row_reading (story s rows).bus_state row)) []
        (story s rows).history
    story_is =
        first_story s (story s rows) row (row_reading (story s rows).bus_state row) n g.off g.alone g.next h.link_is
        ∙ ap (λ (x : Story). story_with_history x
        (bus_state_after (story s rows).bus_state row (row_reading (story s rows).bus_state row)) []
        (story s rows).history) (again_story (story s rows) n re)

-- ---- an initiator began it, for an abort

pub abort_next : (s : ScenarioValue) (rows : List Row) (row : Row) (n : Connection) (m : ℕ) → n.reselected ≡ false
    → aim_of (story s rows).aims n.initiator ≡ Some (abort m) → has_item (story s rows).sent.sent (abort m) ≡ false
    → Begins s rows row n → AreNumbered (transcribed rows).processes (names_begun (transcribed rows).items)
    → ((id : ProcId) → IsMarked (story s rows).history (carried_of (story s rows).carried id))
    → StandsApart s (transcribed rows) (story s rows) → Standing s (row ∷ rows)
abort_next s rows row n m began aim fresh g numbered marked h = record {
  numbered = subst (λ (x : TranscriberValue). AreNumbered x.processes (names_begun x.items))
      (sym (change_is s rows row n g)) numbered;
  marked = λ id. subst (λ (x : Story). IsMarked x.history (carried_of x.carried id)) (sym story_is) (marked id);
  stands = subst (λ (x : TranscriberValue). StandsBy s (with_bus x row (row_reading (transcribed rows).bus_state row))
      (story s (row ∷ rows))) (sym (change_is s rows row n g))
      (subst (λ (x : Story). StandsBy s (with_bus (record (transcribed rows) { opened = Some (opened_connection n) })
      row (row_reading (transcribed rows).bus_state row)) x) (sym story_is) (linked (record {
        opened = opened_connection n;
        link = link_of n (Some (abort m));
        opened_is = refl;
        link_is = refl;
        connection_is = g.next;
        sent = sent_order b;
        old = b.history;
        conn = [];
        history_is = refl;
        past = h.past;
        begun = first (abort m) began refl (reverse-append (abort m ∷ []) b.sent.sent)
            (has_reverse b.sent.sent (abort m) ∙ fresh);
        stage = of_abort m began refl refl refl refl (λ id o but. h.kept id o but);
        bytes = λ e. refl;
        said = λ e. refl;
        crossed = λ c e. no_crossing s rows row n g c e;
        undone = λ u e f. none_some u e;
      })));
}
  where
    b : Story
    b = story s rows

    story_is : story s (row ∷ rows) ≡ story_with_history (record (story s rows) {
      link = Some (link_of n (Some (abort m)));
      sent = record (story s rows).sent { sent = abort m ∷ (story s rows).sent.sent };
    }) (bus_state_after (story s rows).bus_state row (row_reading (story s rows).bus_state row)) []
        (story s rows).history
    story_is =
        first_story s (story s rows) row (row_reading (story s rows).bus_state row) n g.off g.alone g.next h.link_is
        ∙ ap (λ (x : Story). story_with_history x
        (bus_state_after (story s rows).bus_state row (row_reading (story s rows).bus_state row)) []
        (story s rows).history) (sent_story (story s rows) n (abort m) began aim)

-- ---- an initiator began it, for a process

-- It begins with nothing, and so the transcript has nothing of it.
abbrev nothing_known : Process
nothing_known = record {
  name = record { initiator = 0; target = 0; unit = None; tag = None; number = 0 };
  saved = 0;
  status = None;
  shown = false;
}

abbrev begun_carried : Story → ProcId → CarriedBytes
begun_carried b id = with_restored_pointers (carried_of b.carried id)

begun_own : (b : Story) (id : ProcId) → carried_at b.carried id ≡ None
    → carried_of (with_carried b.carried (begun_carried b id)) id ≡ with_restored_pointers (nothing_carried id)
begun_own b id none = put_own b.carried (begun_carried b id) id (carried_id b.carried id)
    ∙ ap (λ (o : Option CarriedBytes). with_restored_pointers (carried_or_nothing o id)) none

begun_marked : (b : Story) (id x : ProcId) → ((y : ProcId) → IsMarked b.history (carried_of b.carried y))
    → IsMarked b.history (carried_of (with_carried b.carried (begun_carried b id)) x)
begun_marked b id x marked = subst (λ (c : CarriedBytes). IsMarked b.history c)
    (sym (carried_with b.carried (begun_carried b id) x)) (go (same_id (carried_of b.carried id).id x))
  where
    go : (q : Bool) → IsMarked b.history (if q then begun_carried b id else carried_of b.carried x)
    go true = record {
      refused = (marked id).refused;
      shown = (marked id).shown;
      apart = (marked id).apart;
      saved = (marked id).saved;
    }
    go false = marked x

begun_other : (b : Story) (id x : ProcId) → same_id x id ≡ false
    → carried_of (with_carried b.carried (begun_carried b id)) x ≡ carried_of b.carried x
begun_other b id x e = carried_with b.carried (begun_carried b id) x
    ∙ ap (λ (q : Bool). if q then begun_carried b id else carried_of b.carried x)
    (ap (λ (y : ProcId). same_id y x) (carried_id b.carried id) ∙ id_turned x id e)

pub process_next : (s : ScenarioValue) (rows : List Row) (row : Row) (n : Connection) (id : ProcId)
    → n.reselected ≡ false → aim_of (story s rows).aims n.initiator ≡ Some (process id)
    → has_item (story s rows).sent.sent (process id) ≡ false
    → carried_at (story s rows).carried id ≡ None → IsAlone s (story s rows) id → Begins s rows row n
    → AreNumbered (transcribed rows).processes (names_begun (transcribed rows).items)
    → ((x : ProcId) → IsMarked (story s rows).history (carried_of (story s rows).carried x))
    → StandsApart s (transcribed rows) (story s rows) → Standing s (row ∷ rows)
process_next s rows row n id began aim fresh none alone g numbered marked h = record {
  numbered = subst (λ (x : TranscriberValue). AreNumbered x.processes (names_begun x.items))
      (sym (change_is s rows row n g)) numbered;
  marked = λ x. subst (λ (y : Story). IsMarked y.history (carried_of y.carried x)) (sym story_is)
      (begun_marked b id x marked);
  stands = subst (λ (x : TranscriberValue). StandsBy s (with_bus x row (row_reading (transcribed rows).bus_state row))
      (story s (row ∷ rows))) (sym (change_is s rows row n g))
      (subst (λ (x : Story). StandsBy s (with_bus (record (transcribed rows) { opened = Some (opened_connection n) })
      row (row_reading (transcribed rows).bus_state row)) x) (sym story_is) (linked (record {
        opened = opened_connection n;
        link = link_of n (Some (process id));
        opened_is = refl;
        link_is = refl;
        connection_is = g.next;
        sent = sent_order b;
        old = b.history;
        conn = [];
        history_is = refl;
        past = h.past;
        begun = first (process id) began refl (reverse-append (process id ∷ []) b.sent.sent)
            (has_reverse b.sent.sent (process id) ∙ fresh);
        stage = of_process id (nothing_carried id) false None refl (λ u e. none_some u e) refl known serving tt
            (λ e. refl) (anew began refl refl alone') kept;
        bytes = λ e. refl;
        said = λ e. refl;
        crossed = λ c e. no_crossing s rows row n g c e;
        undone = λ u e f. none_some u e;
      })));
}
  where
    b : Story
    b = story s rows

    serving : IsServing (opened_connection n) (is_command (row_reading (story s rows).bus_state row).change.after) id
        (carried_of (with_carried (story s rows).carried (begun_carried (story s rows) id)) id) (nothing_carried id) []
        (story s rows).history false None
    serving = subst (λ (q : Bool). IsServing (opened_connection n) q id
        (carried_of (with_carried (story s rows).carried (begun_carried (story s rows) id)) id)
        (nothing_carried id) [] (story s rows).history false None) (sym g.no_command)
        (subst (λ (c : CarriedBytes). IsServing (opened_connection n) false id c (nothing_carried id) []
        (story s rows).history false None) (sym (begun_own (story s rows) id none))
        (talk_serves (opened_connection n) id (with_restored_pointers (nothing_carried id)) (nothing_carried id)
        (story s rows).history nothing_known refl (record { block = refl; struck = refl; active = refl; saved = refl })
        (record { status = refl; shown = λ e. refl }) (record {
          block = refl;
          struck = refl;
          active = refl;
          saved = refl;
        }) (record { status = refl; shown = λ e. refl })))

    known : is_known (opened_connection n) (row_reading (story s rows).bus_state row).change.after ≡ true
    known = ap (λ (q : Bool). not q || not (are_talk (base_parts (opened_connection n)))
        || is_command (row_reading (story s rows).bus_state row).change.after) began

    alone' : (x : ProcId) (d e : array_of.Process) → (has_item (process id ∷ (story s rows).sent.sent) (process x)
        && not (has_item (story s rows).sent.over (process x))) ≡ true
        → same_id x id ≡ false → array_of.process_of s id ≡ Some d → array_of.process_of s x ≡ Some e
        → same_nexus (nexus_of d) (nexus_of e) ≡ false
    alone' x d e o but = alone x d e (sym (ap (λ (q : Bool). (q || has_item (story s rows).sent.sent (process x))
        && not (has_item (story s rows).sent.over (process x))) (id_turned x id but)) ∙ o) but

    kept : (x : ProcId) → (has_item (process id ∷ (story s rows).sent.sent) (process x)
        && not (has_item (story s rows).sent.over (process x))) ≡ true → same_id x id ≡ false
        → IsKept s (transcribed rows).processes (sent_order (story s rows)) (names_begun (transcribed rows).items)
        (with_carried (story s rows).carried (begun_carried (story s rows) id)) x
    kept x o but =
        let k = h.kept x (sym (ap (λ (q : Bool). (q || has_item (story s rows).sent.sent (process x))
        && not (has_item (story s rows).sent.over (process x))) (id_turned x id but)) ∙ o) refl in
        record {
          definition = k.definition;
          definition_is = k.definition_is;
          process = k.process;
          last_is = k.last_is;
          named = k.named;
          kept = subst (λ (c : CarriedBytes). IsKeptOf k.process c) (sym (begun_other (story s rows) id x but)) k.kept;
        }

    story_is : story s (row ∷ rows) ≡ story_with_history (record (story s rows) {
      link = Some (link_of n (Some (process id)));
      sent = record (story s rows).sent { sent = process id ∷ (story s rows).sent.sent };
      carried = with_carried (story s rows).carried (begun_carried (story s rows) id);
    }) (bus_state_after (story s rows).bus_state row (row_reading (story s rows).bus_state row)) []
        (story s rows).history
    story_is =
        first_story s (story s rows) row (row_reading (story s rows).bus_state row) n g.off g.alone g.next h.link_is
        ∙ ap (λ (x : Story). story_with_history x
        (bus_state_after (story s rows).bus_state row (row_reading (story s rows).bus_state row)) []
        (story s rows).history) (sent_story (story s rows) n (process id) began aim)
