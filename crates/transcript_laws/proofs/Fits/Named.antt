-- The process of a connection that an initiator began has the name that its messages give.
use Rattle.transcript_laws.proofs
use proofs.Names.{◌≡◌, ◌∙◌, ◌⊎◌, inl, inr, Bool, true, false, ◌&&◌, List, [], ◌++◌, Option, Some, None, refl, sym, ap}
use proofs.Names.{subst, ◌||◌, same_Some, is_none, wrong, or_true, ProcId, LineSet, is_message_out, connection, bus}
use proofs.Names.{Connection, Row, MsgOut, ScenarioValue, Obeys, process_of, Item, process, abort, Link, IsPrompt}
use proofs.Names.{IsPlain, RunState, bus_of, run_state, obeys_fits, units_are, Knows, none_some, stage_of_connection}
use proofs.Names.{link_unbegun, IsServed, Whole, whole, OpenedValue, transcribed, are_talk, base_parts, out_parts}
use proofs.{Names.{parts_now, summary_by, name_process, is_named}, Opened.Rows.{always}, Said.Facts.{SaidNames}}
use proofs.Said.Facts.{OutNames, unsaid, told, Speaking, mild_said, opening_is, words_front, names_hold}
use proofs.Said.Naming.{outs_of, outs_now, are_tame, tame_front, IsOpening, opening_more, opening_tame, no_abort}
use proofs.{Said.{Naming.{opening_names}, Words.{said_of}}, Serving.TurnSteps.{outs_talk}, Talks.Named.{talk_more}}
use Rattle.due_model.specs.array_model.specs.Processes.{Process}
use Rattle.progress_laws.specs.row_laws.specs.Tells.{of_process, of_abort}

-- ---- a prompt trace, at a connection that stands

pub record Standing (s : ScenarioValue) (p : List Row) (n : Connection) (o : OpenedValue) : Type 0 where
  pub was : Whole s p
  pub names : SaidNames s (run_state s p) n o
  pub speaking : Speaking s (run_state s p) n o
  pub knows : Knows s (run_state s p) n
  pub served : IsServed s (run_state s p) n
  pub unbegun : (run_state s p).exchange.begun ≡ false → is_message_out (bus_of (run_state s p)) ≡ false

pub standing : (s : ScenarioValue) (p : List Row) (n : Connection) (o : OpenedValue) → Obeys s → IsPrompt s p
    → connection p ≡ Some n → (bus p).rst ≡ false → (transcribed p).opened ≡ Some o → Standing s p n o
standing s p n k o prompt con calm there =
    let was = whole s p o prompt in
    let pl : IsPlain s p (run_state s p) = was.stood.plain in
    let names : SaidNames s (run_state s p) n k = always s (SaidNames s) o (names_hold s) p prompt n con calm k there in
    let here = pl.connection ∙ con in
    let off = ap (λ (b : LineSet). b.rst) pl.bus ∙ calm in
    record {
      was = was;
      names = names;
      speaking = record {
        units = units_are s (obeys_fits s o);
        bytes = names.all.bytes.said;
        words = names.all.words;
        speaks = (was.stood.books.speaks n here off).in_message_out;
      };
      knows = was.stood.books.knows n here off;
      served = was.facts.served n con calm;
      unbegun = λ b. ap is_message_out
          (pl.bus ∙ link_unbegun s p n (stage_of_connection s p n was.stood con calm) (sym pl.begun ∙ b));
    }

-- What is served.
pub item_is_served : (s : ScenarioValue) (p : List Row) (n : Connection) (o : OpenedValue) (l : Link) (item : Item)
    → Standing s p n o → (run_state s p).story.link ≡ Some l → l.item ≡ Some item → (run_state s p).served ≡ Some item
item_is_served s p n o l item h el e = go h.knows.item_is
  where
    same : h.knows.link ≡ l
    same = same_Some h.knows.link l (sym h.knows.link_is ∙ el)

    go : (h.knows.link.item ≡ (run_state s p).served) ⊎ ((n.reselected ≡ true) × (h.knows.link.item ≡ None))
        → (run_state s p).served ≡ Some item
    go (inl z) = sym z ∙ ap (λ (x : Link). x.item) same ∙ e
    go (inr z) = none_some item (sym z.1 ∙ ap (λ (x : Link). x.item) same ∙ e)

pub record ServedProcess (s : ScenarioValue) (id : ProcId) : Type 0 where
  pub own : Process
  pub own_is : process_of s id ≡ Some own

pub served_process : (s : ScenarioValue) (k : RunState) (n : Connection) (id : ProcId) → IsServed s k n
    → k.served ≡ Some (process id) → ServedProcess s id
served_process s k n id (of_process x q e f) sv =
    record { own = q; own_is = ap (process_of s) (number (same_Some (process id) (process x) (sym sv ∙ e))) ∙ f }
  where
    id_in : Item → ProcId
    id_in (process y) = y
    id_in (abort j) = id

    number : process id ≡ process x → id ≡ x
    number z = ap id_in z
served_process s k n id (of_abort m a e f x y z phase) sv = none (same_Some (process id) (abort m) (sym sv ∙ e))
  where
    none : {A : Type 0} → process id ≡ abort m → A
    none w = absurd cc

-- ---- after a selection

pub record NamesOf (s : ScenarioValue) (n : Connection) (o : OpenedValue) (id : ProcId) : Type 0 where
  pub abort : (summary_by n (parts_now o)).abort ≡ None
  pub name : (are_talk (parts_now o) || name_process s n (parts_now o) id) ≡ true

selected_names : (s : ScenarioValue) (p : List Row) (n : Connection) (o : OpenedValue) (id : ProcId) (q : Process)
    → Standing s p n o → n.reselected ≡ false → (run_state s p).served ≡ Some (process id) → process_of s id ≡ Some q
    → OutNames q (run_state s p) o → NamesOf s n o id
selected_names s p n o id q h sel sv of (told a b) =
    let all : IsOpening q (outs_of (parts_now o)) = subst (λ (x : List MsgOut). IsOpening q x) (sym (outs_now o))
    (opening_more q (outs_of (base_parts o)) o.said a (mild_said s (run_state s p) n o h.speaking b)) in
    let ends = h.names.ends id q sv of in
    record {
      abort = no_abort n (parts_now o) sel (opening_tame q (outs_of (parts_now o)) all);
      name =
          ap (λ (x : Bool). are_talk (parts_now o) || x) (opening_names s n (parts_now o) id q sel of ends.0 ends.1 all)
          ∙ or_true (are_talk (parts_now o));
    }
selected_names s p n o id q h sel sv of (unsaid a t f) = record {
  abort = no_abort n (parts_now o) sel
      (ap are_tame (outs_now o ∙ ap (λ (x : List MsgOut). x ++ o.said) a) ∙ tame (is_message_out (bus_of k)) refl);
  name = ap (λ (x : Bool). x || name_process s n (parts_now o) id)
      (talk_more (base_parts o) (out_parts o.said) ∙ (λ i. t i && outs_talk o.said i));
}
  where
    k : RunState
    k = run_state s p

    spoken : (b : Bool) → k.exchange.begun ≡ b → is_message_out (bus_of k) ≡ true → are_tame o.said ≡ true
    spoken false b out = wrong (sym out ∙ h.unbegun b)
    spoken true b out =
        let sp = h.speaking.speaks b out in
        let front = words_front k n o h.speaking.words out sp.heard in
        tame_front o.said front.more (ap are_tame (sym front.is) ∙ opening_tame q (said_of [] k.exchange.speech.words)
        (opening_is s n k.exchange k.exchange.plan.cause k.served id q h.speaking.units sp.words_for (f b).1 sv of))

    tame : (b : Bool) → is_message_out (bus_of k) ≡ b → are_tame o.said ≡ true
    tame false out = ap are_tame (h.speaking.bytes out)
    tame true out = spoken k.exchange.begun refl out

pub named_selected : (s : ScenarioValue) (p : List Row) (n : Connection) (o : OpenedValue) (l : Link) → Standing s p n o
    → (run_state s p).story.link ≡ Some l → n.reselected ≡ false → is_named s o l.item ≡ true
named_selected s p n o l h el sel = go l.item refl
  where
    by : (id : ProcId) → (run_state s p).served ≡ Some (process id) → is_named s o (Some (process id)) ≡ true
    by id sv =
        let own = served_process s (run_state s p) n id h.served sv in
        let w = selected_names s p n o id own.own h sel sv own.own_is (h.names.selected sel id own.own sv own.own_is) in
        ap (λ (x : Connection). is_none (summary_by x (parts_now o)).abort
        && (are_talk (parts_now o) || name_process s x (parts_now o) id)) h.names.all.bytes.connection_is
        ∙ (λ i. is_none (w.abort i) && w.name i)

    go : (x : Option Item) → l.item ≡ x → is_named s o l.item ≡ true
    go None e = ap (is_named s o) e
    go (Some (abort j)) e = ap (is_named s o) e
    go (Some (process id)) e = ap (is_named s o) e ∙ by id (item_is_served s p n o l (process id) h el e)
