-- The names in the transcript of any rows are apart, that of the connection that stands among them.
use Rattle.transcript_laws.proofs
use proofs.Names.{◌≡◌, ◌∙◌, ◌<◌, Bool, true, false, List, [], ◌∷◌, ◌++◌, length, Option, Some, None, refl, sym, ap}
use proofs.Names.{subst, append-nil, is_some, if◌then◌else◌, Connection, Row, ScenarioValue, story, by_bool}
use proofs.Names.{names_begun, OpenedValue, process_after, TranscriberValue, name_of, finished_if, transcribed}
use proofs.Names.{transcript_of, Name, Process, Summary, AreDistinct, AreNumbered, parts_now, summary_by, StandsBy}
use proofs.{Names.{apart, linked, Standing}, Past.{Closings.{process_for, connection_items}, Events.{names_append}}}
use proofs.{Past.Own.{connection_names}, Processes.Numbers.{first_numbered, abort_numbered}}
use proofs.Standing.Past.{standing_items}
use Rattle.bus_transcript.specs.Processes.{process_of}
use Rattle.bus_transcript.specs.declared.item.Item as item_of

-- ---- with the connection that stands

pub zero_number : (o : Option Process) (name : Name) → (process_after false true o name).name.number ≡ 0
zero_number None name = refl
zero_number (Some c) name = refl

one_more : (t : TranscriberValue) (n : Connection) (sum : Summary) → n.reselected ≡ false
    → length (names_begun t.items) < 4294967290 → AreNumbered t.processes (names_begun t.items)
    → AreDistinct (names_begun t.items ++ (process_for t n sum).name ∷ [])
one_more t n sum began less h =
    by_bool (is_some sum.abort) (λ e. (abort_numbered t.processes (names_begun t.items) (process_for t n sum).name
    (ap (λ (x : Name). x.number) (is true e) ∙ zero_number (process_of t.processes (name_of n sum)) (name_of n sum))
    h).distinct) (λ e. (first_numbered t.processes (names_begun t.items) (name_of n sum) (process_for t n sum) less
    (is false e) h).distinct)
  where
    is : (q : Bool) → is_some sum.abort ≡ q → (process_for t n sum).name
        ≡ (process_after false q (process_of t.processes (name_of n sum)) (name_of n sum)).name
    is q e = λ i. (process_after (began i) (e i) (process_of t.processes (name_of n sum)) (name_of n sum)).name

-- ---- all names

pub distinct_names : (s : ScenarioValue) (rows : List Row) → length (names_begun (transcribed rows).items) < 4294967290
    → Standing s rows → AreDistinct (names_begun (transcript_of rows))
distinct_names s rows less h = go h.stands
  where
    t : TranscriberValue
    t = transcribed rows

    by_kind : (v : OpenedValue) (q : Bool) → v.connection.reselected ≡ q
        → AreDistinct (names_begun (transcribed rows).items ++ (if q then []
        else (process_for (transcribed rows) v.connection (summary_by v.connection (parts_now v))).name ∷ []))
    by_kind v true e = subst AreDistinct (sym (append-nil (names_begun (transcribed rows).items))) h.numbered.distinct
    by_kind v false e =
        one_more (transcribed rows) v.connection (summary_by v.connection (parts_now v)) e less h.numbered

    names : (v : OpenedValue) → names_begun (finished_if (transcribed rows) (Some v)).items
        ≡ names_begun (transcribed rows).items ++ (if v.connection.reselected then []
        else (process_for (transcribed rows) v.connection (summary_by v.connection (parts_now v))).name ∷ [])
    names v =
        let sum : Summary = summary_by v.connection (parts_now v) in
        let c : Process = process_for t v.connection sum in
        ap (λ (list : List item_of.Item). names_begun list) (standing_items t v)
        ∙ names_append t.items (connection_items v.connection c (parts_now v) false sum)
        ∙ ap (λ (list : List Name). names_begun t.items ++ list)
        (connection_names v.connection c (parts_now v) false sum)

    go : StandsBy s (transcribed rows) (story s rows) → AreDistinct (names_begun (transcript_of rows))
    go (apart x) = subst (λ (o : Option OpenedValue). AreDistinct (names_begun (finished_if t o).items))
        (sym x.opened_is) h.numbered.distinct
    go (linked x) =
        subst (λ (o : Option OpenedValue). AreDistinct (names_begun (finished_if t o).items)) (sym x.opened_is)
        (subst AreDistinct (sym (names x.opened)) (by_kind x.opened x.opened.connection.reselected refl))
