-- What a connection leaves in the transcript as it is over, and that the names stay apart.
use Rattle.transcript_laws.proofs
use proofs.Names.{ℕ, ◌≡◌, ◌∙◌, ◌<◌, Bool, true, false, List, [], ◌∷◌, ◌++◌, length, Option, Some, None, refl, sym, ap}
use proofs.Names.{subst, append-nil, is_at, is_some, if◌then◌else◌, LineSet, Connection, Row, ScenarioValue}
use proofs.Names.{row_reading, story, by_key, account_of, names_begun, Key, key_of, key_cmp, OpenedValue, settled}
use proofs.Names.{phase_over, process_after, with_process, with_last, same_nexus, TranscriberValue, name_of, closed_by}
use proofs.Names.{closed_with, closed_if, transcribed, Name, Part, Process, Summary, AreNumbered, summary_by}
use proofs.{Names.{closing_parts, StandsLinked}, Accounts.Items.{parts_name}, Parts.Lists.{over_keeps}}
use proofs.Past.Closings.{account_by, process_for, connection_items, closed_items, closed_processes}
use proofs.{Past.{Events.{names_append}, Own.{connection_names}}, Processes.{Last.{nexus_is}, Numbers.{first_numbered}}}
use proofs.{Processes.Numbers.{again_numbered, abort_numbered}, Standing.Buses.{reading_same, buses_alike}}
use proofs.Standing.Distinct.{zero_number}
use Rattle.bus_transcript.specs.Processes.{process_of}
use Rattle.bus_transcript.specs.declared.item.Item as item_of

-- ---- one nexus

pub nexus_same : (a b c : Name) → same_nexus a b ≡ true → same_nexus a c ≡ same_nexus b c
nexus_same a b c e = sym (by_key a c) ∙ ap (λ (x : Key). is_at (key_cmp x) (key_of c)) (nexus_is a b e) ∙ by_key b c

-- A process that begins is of the nexus that its connection names.
pub new_nexus : (aborts : Bool) (o : Option Process) (name c : Name)
    → same_nexus (process_after false aborts o name).name c ≡ same_nexus name c
new_nexus aborts None name c = refl
new_nexus aborts (Some t) name c = refl

-- ---- the names

pub closed_names : (t : TranscriberValue) (n : Connection) (parts : List Part) (free : Bool) (sum : Summary)
    → names_begun (closed_by t n parts free sum).items
    ≡ names_begun t.items ++ (if n.reselected then [] else (process_for t n sum).name ∷ [])
closed_names t n parts free sum =
    ap (λ (list : List item_of.Item). names_begun list) (closed_items t n parts free sum)
    ∙ names_append t.items (connection_items n (process_for t n sum) parts free sum)
    ∙ ap (λ (list : List Name). names_begun t.items ++ list) (connection_names n (process_for t n sum) parts free sum)

pub closed_numbered : (t : TranscriberValue) (n : Connection) (parts : List Part) (free : Bool) (sum : Summary)
    → length (names_begun t.items) < 4294967290 → AreNumbered t.processes (names_begun t.items)
    → AreNumbered (closed_by t n parts free sum).processes (names_begun (closed_by t n parts free sum).items)
closed_numbered t n parts free sum less h = subst
    (λ (last : List (Key × Process)). AreNumbered last (names_begun (closed_by t n parts free sum).items))
    (sym (closed_processes t n parts free sum)) (subst (λ (names : List Name). AreNumbered
    (with_process n.reselected (is_some sum.abort) t.processes (account_by (process_for t n sum) parts).process) names)
    (sym (closed_names t n parts free sum)) (go n.reselected (is_some sum.abort) refl refl))
  where
    name : (account_by (process_for t n sum) parts).process.name ≡ (process_for t n sum).name
    name = parts_name (account_of (process_for t n sum) []) parts

    is : (q r : Bool) → n.reselected ≡ q → is_some sum.abort ≡ r
        → (process_for t n sum).name ≡ (process_after q r (process_of t.processes (name_of n sum)) (name_of n sum)).name
    is q r e f = λ i. (process_after (e i) (f i) (process_of t.processes (name_of n sum)) (name_of n sum)).name

    go : (q r : Bool) → n.reselected ≡ q → is_some sum.abort ≡ r → AreNumbered
        (with_process n.reselected (is_some sum.abort) t.processes (account_by (process_for t n sum) parts).process)
        (names_begun t.items ++ (if n.reselected then [] else (process_for t n sum).name ∷ []))
    go q r e f = subst (λ (x : Bool). AreNumbered
        (with_process x (is_some sum.abort) t.processes (account_by (process_for t n sum) parts).process)
        (names_begun t.items ++ (if x then [] else (process_for t n sum).name ∷ []))) (sym e) (subst
        (λ (x : Bool). AreNumbered (with_process q x t.processes (account_by (process_for t n sum) parts).process)
        (names_begun t.items ++ (if q then [] else (process_for t n sum).name ∷ []))) (sym f) (by q r e f))
      where
        by : (q r : Bool) → n.reselected ≡ q → is_some sum.abort ≡ r
            → AreNumbered (with_process q r t.processes (account_by (process_for t n sum) parts).process)
            (names_begun t.items ++ (if q then [] else (process_for t n sum).name ∷ []))
        by true true e f = subst (λ (names : List Name). AreNumbered
            (with_last t.processes (account_by (process_for t n sum) parts).process) names)
            (sym (append-nil (names_begun t.items))) (again_numbered t.processes (names_begun t.items) (name_of n sum)
            (account_by (process_for t n sum) parts).process true (name ∙ is true true e f) h)
        by true false e f = subst (λ (names : List Name). AreNumbered
            (with_last t.processes (account_by (process_for t n sum) parts).process) names)
            (sym (append-nil (names_begun t.items))) (again_numbered t.processes (names_begun t.items) (name_of n sum)
            (account_by (process_for t n sum) parts).process false (name ∙ is true false e f) h)
        by false true e f = abort_numbered t.processes (names_begun t.items)
            (process_for t n sum).name (ap (λ (x : Name). x.number) (is false true e f)
            ∙ zero_number (process_of t.processes (name_of n sum)) (name_of n sum)) h
        by false false e f =
            subst (λ (x : Name). AreNumbered (with_last t.processes (account_by (process_for t n sum) parts).process)
            (names_begun t.items ++ x ∷ [])) name (first_numbered t.processes (names_begun t.items) (name_of n sum)
            (account_by (process_for t n sum) parts).process less (name ∙ is false false e f) h)

-- ---- the transcript

pub closed_opened : (t : TranscriberValue) (n : Connection) (parts : List Part) (free : Bool) (sum : Summary)
    → (closed_by t n parts free sum).opened ≡ None
unfolding closed_by
closed_opened t n parts free sum = refl

-- The parts of the connection that stands, as it ends with the row.
abbrev pub parts_left : ScenarioValue → List Row → OpenedValue → List Part
parts_left s rows o = closing_parts o (story s rows).bus_state.bus (story s rows).bus_state.dialogue.half

abbrev pub closed_left : ScenarioValue → List Row → OpenedValue → Bool → TranscriberValue
closed_left s rows o free =
    closed_by (transcribed rows) o.connection (parts_left s rows o) free (summary_by o.connection (parts_left s rows o))

phase_closed : (t : TranscriberValue) (o : OpenedValue) (lines : LineSet) (half : List ℕ) (free : Bool)
    → closed_with t (settled (phase_over o lines half false) false) free
    ≡ closed_by t o.connection (closing_parts o lines half) free (summary_by o.connection (closing_parts o lines half))
phase_closed t o lines half free = λ i. closed_by t
    ((over_keeps o lines half false).connection i) (closing_parts o lines half) free
    (summary_by ((over_keeps o lines half false).connection i) (closing_parts o lines half))

pub left_closed : (s : ScenarioValue) (rows : List Row) (row : Row)
    (h : StandsLinked s (transcribed rows) (story s rows)) (free : Bool)
    → closed_if (transcribed rows) (transcribed rows).opened (row_reading (transcribed rows).bus_state row) free
    ≡ closed_left s rows h.opened free
left_closed s rows row h free =
    let w = buses_alike s rows in
    let same = reading_same (transcribed rows).bus_state (story s rows).bus_state row w in
    ap (λ (o : Option OpenedValue). closed_if (transcribed rows) o (row_reading (transcribed rows).bus_state row) free)
    h.opened_is
    ∙ (λ i. closed_with (transcribed rows)
    (settled (phase_over h.opened (same i).change.before (w.half i) false) false) free)
    ∙ phase_closed (transcribed rows) h.opened (story s rows).bus_state.bus (story s rows).bus_state.dialogue.half free
