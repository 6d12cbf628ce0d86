-- A row after which the transcript shows no connection: what stands after it.
use Rattle.transcript_laws.proofs
use proofs.Names.{◌≡◌, ◌∙◌, Bool, true, false, List, [], ◌∷◌, ◌++◌, Option, Some, None, refl, sym, ap, subst}
use proofs.Names.{append-nil, wrong', Event, ProcId, Row, ScenarioValue, same_id, row_reading, CarriedBytes, carried_of}
use proofs.Names.{Item, Story, story, id_is, is_open_in, names_begun, name_sent, Key, with_last, same_nexus}
use proofs.Names.{TranscriberValue, with_items, by_change, with_bus, transcribed, Name, Process, IsKept, AreNumbered}
use proofs.Names.{nexus_of, is_of, IsPast, sent_order, AreKept, no_process, StandsBy, apart, Standing, IsKeptOf}
use proofs.{Names.{IsMarked}, Past.{Events.{names_append}, Others.{IsOpenly, openly_past}}}
use proofs.{Processes.Kept.{kept_carried, kept_other, kept_own}, Standing.Linked.{story_on}}
use Rattle.due_model.specs.array_model.specs.Processes as array_of
use Rattle.bus_transcript.specs.declared.item.Item as item_of

-- ---- the row

-- It leaves this transcript, with items that are no events, and this story.
pub record IsOver (s : ScenarioValue) (rows : List Row) (row : Row) (u : TranscriberValue) (more : List item_of.Item)
    (c : Story) (shown : List Event) : Type 0 where
  pub transcript_is : by_change (transcribed rows) (row_reading (transcribed rows).bus_state row) row
      ≡ with_items u more
  pub story_is : story s (row ∷ rows) ≡ story_on s rows row c shown
  pub opened : u.opened ≡ None
  pub link : c.link ≡ None
  pub numbered : AreNumbered u.processes (names_begun u.items)
  pub openly : IsOpenly more []
  pub past : IsPast u.items (sent_order c) (shown ++ (story s rows).history)
  pub marked : (x : ProcId) → IsMarked (shown ++ (story s rows).history) (carried_of c.carried x)
  pub kept : AreKept s u c (sent_order c) no_process

pub over_next : (s : ScenarioValue) (rows : List Row) (row : Row) (u : TranscriberValue) (more : List item_of.Item)
    (c : Story) (shown : List Event) → IsOver s rows row u more c shown → Standing s (row ∷ rows)
over_next s rows row u more c shown g = record {
  numbered = subst (λ (z : TranscriberValue). AreNumbered z.processes (names_begun z.items)) (sym g.transcript_is)
      (subst (λ (names : List Name). AreNumbered u.processes names) (sym names) g.numbered);
  marked = λ id. subst (λ (z : Story). IsMarked z.history (carried_of z.carried id)) (sym g.story_is) (g.marked id);
  stands = subst (λ (z : TranscriberValue). StandsBy s (with_bus z row (row_reading (transcribed rows).bus_state row))
      (story s (row ∷ rows))) (sym g.transcript_is) (subst
      (λ (z : Story). StandsBy s (with_bus (with_items u more) row (row_reading (transcribed rows).bus_state row)) z)
      (sym g.story_is) (apart (record {
        opened_is = g.opened;
        link_is = g.link;
        past = openly_past u.items more (sent_order c) [] (shown ++ (story s rows).history) g.openly tt g.past;
        kept = λ x o no.
            let k = g.kept x o no in
            record {
              definition = k.definition;
              definition_is = k.definition_is;
              process = k.process;
              last_is = k.last_is;
              named = ap (λ (list : List Name). name_sent (sent_order c) list x) names ∙ k.named;
              kept = k.kept;
            };
      })));
}
  where
    names : names_begun (u.items ++ more) ≡ names_begun u.items
    names = names_append u.items more ∙ ap (λ (list : List Name). names_begun u.items ++ list) g.openly.names
        ∙ append-nil (names_begun u.items)

-- ---- what is kept

-- The process of the connection that is over is put; those of the others have another nexus.
pub record IsPut (s : ScenarioValue) (t : TranscriberValue) (b : Story) (sent : List Item) (names : List Name)
    (id : ProcId) (c : Process) : Type 0 where
  pub definition : array_of.Process
  pub definition_is : array_of.process_of s id ≡ Some definition
  pub nexus : same_nexus c.name (nexus_of definition) ≡ true
  pub named : name_sent sent names id ≡ Some c.name
  pub kept : IsKeptOf c (carried_of b.carried id)
  pub others : (x : ProcId) → is_open_in b.sent x ≡ true → same_id x id ≡ false
      → IsKept s t.processes sent names b.carried x
  pub apart : (x : ProcId) (d : array_of.Process) → is_open_in b.sent x ≡ true → same_id x id ≡ false
      → array_of.process_of s x ≡ Some d → same_nexus c.name (nexus_of d) ≡ false

pub put_kept : (s : ScenarioValue) (t u : TranscriberValue) (b c : Story) (sent : List Item)
    (names : List Name) (id : ProcId) (z : Process) → u.processes ≡ with_last t.processes z
    → names_begun u.items ≡ names → ((x : ProcId) → is_open_in c.sent x ≡ true → is_open_in b.sent x ≡ true)
    → ((x : ProcId) → carried_of b.carried x ≡ carried_of c.carried x) → IsPut s t b sent names id z
    → AreKept s u c sent no_process
put_kept s t u b c sent names id z processes begun opens carried g = λ x o no. here x o (same_id x id) refl
  where
    at_end : (x : ProcId) → IsKept s (with_last t.processes z) sent names b.carried x
        → IsKept s u.processes sent (names_begun u.items) c.carried x
    at_end x f = subst (λ (last : List (Key × Process)). IsKept s last sent (names_begun u.items) c.carried x)
        (sym processes) (subst (λ (list : List Name). IsKept s (with_last t.processes z) sent list c.carried x)
        (sym begun) (kept_carried s (with_last t.processes z) sent names b.carried c.carried x
        (λ q h. subst (λ (y : CarriedBytes). IsKeptOf q y) (carried x) h) f))

    here : (x : ProcId) → is_open_in c.sent x ≡ true → (q : Bool) → same_id x id ≡ q
        → IsKept s u.processes sent (names_begun u.items) c.carried x
    here x o true e =
        subst (λ (y : ProcId). IsKept s u.processes sent (names_begun u.items) c.carried y) (sym (id_is x id e)) (at_end
        id (kept_own s t.processes sent names b.carried id z g.definition g.definition_is g.nexus g.named g.kept))
    here x o false e = at_end x (kept_other s t.processes sent names b.carried x z (λ d i. g.apart x d (opens x o) e i)
        (g.others x (opens x o) e))

-- ---- the process that a name means

pub record IsNamed (s : ScenarioValue) (name : Name) (id : ProcId) : Type 0 where
  pub definition : array_of.Process
  pub definition_is : array_of.process_of s id ≡ Some definition
  pub nexus : same_nexus name (nexus_of definition) ≡ true

pub named_process : (s : ScenarioValue) (name : Name) (id : ProcId) → is_of name (array_of.process_of s id) ≡ true
    → IsNamed s name id
named_process s name id e = go (array_of.process_of s id) refl e
  where
    go : (o : Option array_of.Process) → array_of.process_of s id ≡ o → is_of name o ≡ true → IsNamed s name id
    go None f z = wrong' z
    go (Some d) f z = record { definition = d; definition_is = f; nexus = z }
