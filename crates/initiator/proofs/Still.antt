-- A row of a connection that tells an initiator nothing leaves what it hears as it was.
use Rattle.std.proofs.Common.{ℕ, ◌≡◌, ◌≢◌, Bool, true, false, List, [], ◌∷◌, ◌∙◌, refl, sym, subst, Option, Some, None}
use Rattle.std.specs.Prelude.{if◌then◌else◌, not, ◌&&◌, ◌||◌, ◌==◌, is_some}
use Rattle.bus_base.specs.declared.Event.{Event}
use Rattle.bus_trace.specs.declared.Row.{Row}
use Rattle.bus_trace.specs.declared.connection.Connection.{Connection}
use Rattle.bus_trace.specs.Phases.{changes_phase, is_data}
use Rattle.bus_trace.specs.Terms.{connection}
use Rattle.scenario.specs.declared.value.HostDef.{HostDef}
use Rattle.scenario.specs.Value.{ScenarioValue}
use Rattle.story_model.specs.BusState.{row_reading}
use Rattle.story_model.specs.Links.{Link}
use Rattle.story_model.specs.TraceHistory.{aim_of}
use Rattle.due_model.specs.dialogue_model.specs.declared.exchange.Hearing.{Hearing}
use Rattle.due_model.specs.dialogue_model.specs.Exchange.{Speech}
use Rattle.due_model.specs.dialogue_model.specs.Hearing.{hearing}
use Rattle.due_model.specs.dialogue_model.specs.Speaking.{speech_in_phase, speech_with_byte, speech_after}
use Rattle.due_model.specs.dialogue_model.specs.Events.{is_empty}
use Rattle.due_model.specs.Plain.{IsPlain, AreOfDevices}
use Rattle.due_model.specs.RunState.{item_of}
use Rattle.due_model.specs.RunSteps.{run_state, events_of_row}
use Rattle.due_model.specs.Sights.{hearing_of}
use Rattle.due_model.specs.Telling.{id_of}
use Rattle.initiator_books.specs.declared.endings.CommandEnd.{CommandEnd}
use Rattle.initiator_books.specs.declared.mine.Mine.{Mine}
use Rattle.initiator_books.specs.declared.mine.OwnItem.{OwnItem}
use Rattle.initiator_books.specs.declared.own_link.OwnLink.{OwnLink}
use Rattle.initiator_books.specs.Books.{my_book}
use Rattle.initiator_books.specs.Endings.{AreEndingsOf}
use Rattle.initiator.specs.Hosts.{HostValue, IsHostAfter, HasHeard, hears_nothing}
use Rattle.initiator_books.specs.Intents.{IntentValue, IsIntentOf}
use Rattle.initiator_books.specs.Intents.{aims_at_process}
use Rattle.initiator_books.specs.OwnLinks.{own_link}
use Rattle.initiator.specs.Received.{BufferPairValue, AreReceived, received_after}
use Rattle.initiator.specs.Speeches.{speech_by, IsSpeechOf, IsOpeningOf}
use Rattle.initiator.specs.Transfers.{TransfersValue, transfers_after, transfers_after_crossing, transfers_in_link}
use Rattle.initiator.specs.Transfers.{transfers_on_bus, IsTransfersOf}
use Rattle.initiator_books.specs.scsi_device.specs.Itself.{ItselfValue, IsItselfOf}
use Rattle.initiator_books.proofs.EndingRows.{endings_stay}
use Rattle.initiator.proofs.Hosts.{host_goes_on}
use Rattle.initiator.proofs.NegotiationRows.{negotiations_go_on}
use Rattle.initiator.proofs.ReceivedRows.{quiet, received_goes_on}
use Rattle.initiator.proofs.Speeches.{speeches_go_on}
use Rattle.initiator.proofs.TransferRows.{transfers_go_on}
use Rattle.std.proofs.lemmas.Bool.{or_right, or_left}
use Rattle.bus_base.proofs.Tests.{and_second, not_first}

-- ---- what the test says

no_byte : (r a b c d : Bool) → (not r && ((not a && not b) || not (c || d))) ≡ true → (a || b) ≡ true → c ≡ false
no_byte true a b c d e x = cc
no_byte false true b false d e x = refl
no_byte false true b true d e x = cc
no_byte false false true false d e x = refl
no_byte false false true true d e x = cc
no_byte false false false c d e x = cc

no_phase : (r a b c d : Bool) → (not r && ((not a && not b) || not (c || d))) ≡ true → (a || b) ≡ true → d ≡ false
no_phase true a b c d e x = cc
no_phase false true b false false e x = refl
no_phase false true b false true e x = cc
no_phase false true b true d e x = cc
no_phase false false true false false e x = refl
no_phase false false true false true e x = cc
no_phase false false true true d e x = cc
no_phase false false false c d e x = cc

-- ---- what stays

still_speech : (h : HostDef) (opening : List ℕ) (w : Hearing) (m n : Connection) (p : Speech)
    → hears_nothing h.dev w (Some m) (Some n) ≡ true → speech_by h opening w (Some m) (Some n) p ≡ p
still_speech h opening w m n p e = go (n.initiator == h.dev) refl
  where
    go : (q : Bool) → (n.initiator == h.dev) ≡ q → (if q then speech_after (Some h) w p else p) ≡ p
    go false x = refl
    go true x =
        let own : (m.initiator == h.dev || n.initiator == h.dev) ≡ true = or_right
        (m.initiator == h.dev) (n.initiator == h.dev) x in
        let byte : w.crosses ≡ false = no_byte w.change.after.rst (m.initiator == h.dev)
        (n.initiator == h.dev) w.crosses (changes_phase w.change) e own in
        let phase : changes_phase w.change ≡ false = no_phase w.change.after.rst
        (m.initiator == h.dev) (n.initiator == h.dev) w.crosses (changes_phase w.change) e own in
        λ i. if phase i then speech_in_phase (Some h) w p else if byte i then speech_with_byte w p else p

still_link : (mines : List Mine) (h : Hearing) (l : Option OwnLink) (v : TransfersValue) → h.crosses ≡ false
    → transfers_in_link mines h l v ≡ v
still_link mines h None v e = refl
still_link mines h (Some l) v e = λ i. if e i then transfers_after_crossing mines h.change h.out h.into l v else v

still_transfers : (mines : List Mine) (aim : Option OwnItem) (h : Hearing) (m n : Connection) (v : TransfersValue)
    → hears_nothing v.dev h (Some m) (Some n) ≡ true → transfers_after mines aim h (Some m) (Some n) v ≡ v
still_transfers mines aim h m n v e = (λ i. if not_first h.change.after.rst _ e i then record v { link = None }
    else transfers_on_bus mines aim h (Some m) (Some n) v) ∙ go (n.initiator == v.dev) refl
  where
    go : (q : Bool) → (n.initiator == v.dev) ≡ q → (if q then transfers_in_link mines h v.link v else v) ≡ v
    go false x = refl
    go true x = still_link mines h v.link v (no_byte h.change.after.rst (m.initiator == v.dev) (n.initiator == v.dev)
        h.crosses (changes_phase h.change) e (or_right (m.initiator == v.dev) (n.initiator == v.dev) x))

still_received : (dev : ℕ) (w : Hearing) (m n : Connection) (l : Option Link) (v : List BufferPairValue) (place : ℕ)
    → hears_nothing dev w (Some m) (Some n) ≡ true
    → received_after v (id_of (item_of (own_link dev (Some m) l))) place w (Some n) ≡ v
still_received dev w m n l v place e = go (m.initiator == dev) refl
  where
    go : (q : Bool) → (m.initiator == dev) ≡ q
        → received_after v (id_of (item_of (if q then l else None))) place w (Some n) ≡ v
    go false x = refl
    go true x =
        let byte : w.crosses ≡ false = no_byte w.change.after.rst (m.initiator == dev) (n.initiator == dev) w.crosses
        (changes_phase w.change) e (or_left (m.initiator == dev) (n.initiator == dev) x) in
        quiet v (id_of (item_of l)) place w (Some n)
        (λ i. byte i && is_data w.change.before && is_some (Some n) && not w.change.after.rst)

-- ---- the rows

pub still_heard : (s : ScenarioValue) (rows : List Row) (row : Row) (v : HostValue)
    (w : Hearing) (before after : Option Connection) (shown : List Event)
    → IsPlain s rows (run_state s rows) → IsPlain s (row ∷ rows) (run_state s (row ∷ rows))
    → hearing_of (run_state s rows) row (row_reading (run_state s rows).story.bus_state row) ≡ hearing rows row
    → AreOfDevices (row ∷ rows) → w ≡ hearing rows row → before ≡ connection rows → after ≡ connection (row ∷ rows)
    → shown ≡ events_of_row s rows row → (is_empty shown && hears_nothing v.def.dev w before after) ≡ true
    → IsHostAfter s rows v → HasHeard s rows row v
still_heard s rows row v w before after (x ∷ shown) p q heard d told b a events e h = cc
still_heard s rows row v w None after [] p q heard d told b a events e h = cc
still_heard s rows row v w (Some m) None [] p q heard d told b a events e h = cc
still_heard s rows row v w (Some m) (Some n) [] p q heard d told b a events e h =
    record {
      negotiations_dev = h.negotiations_dev;
      transfers_dev = h.transfers_dev;
      negotiations_are = negotiations_go_on s rows row v.negotiations (aims_at_process s rows v.negotiations.dev)
          (Some m) (Some n) [] p q b a refl events h.negotiations_are;
      speech_is =
          subst (λ (z : Speech). IsSpeechOf s (row ∷ rows) v.def.dev z) (still_speech v.def [] (hearing rows row) m n
          v.speech (subst (λ (z : Hearing). hears_nothing v.def.dev z (Some m) (Some n) ≡ true) told e)) (speeches_go_on
          s rows row v.def [] v.speech p q heard h.line.host_is began h.speech_is (Some m) (Some n) b a);
      transfers_are = subst (λ (z : TransfersValue). IsTransfersOf s (row ∷ rows) z)
          (still_transfers (my_book s (run_state s rows).story.sent v.transfers.dev).mines v.intent.wish.aim w m
          n v.transfers (subst (λ (z : ℕ). hears_nothing z w (Some m) (Some n) ≡ true) (sym h.transfers_dev) e))
          (transfers_go_on s rows row v.transfers _ (my_book s (run_state s rows).story.sent v.transfers.dev)
          v.intent.wish.aim w (Some m) (Some n) refl p q heard d told b a refl (h.intent_is.wish_is.aim_is
          ∙ (λ i. aim_of (run_state s rows).story.aims ((h.intent_dev ∙ sym h.transfers_dev) i))) h.transfers_are);
      received_is = λ u. subst (λ (z : List BufferPairValue). AreReceived s (row ∷ rows) v.def.dev z)
          (still_received v.def.dev w m n (run_state s rows).story.link v.received _ e) (received_goes_on s rows
          row v.def.dev v.received (id_of (item_of (own_link v.def.dev (Some m) (run_state s rows).story.link))) _ w
          (Some n) p q heard d told a (λ i. id_of (item_of (own_link v.def.dev (b i) (run_state s rows).story.link)))
          refl u (h.received_is (and_second _ _ u)));
    }
  where
    began : IsOpeningOf s rows row v.def.dev []
    began k none some own first = (let bad : None ≡ Some m = sym none ∙ sym b in cc)

-- A row in a connection that shows no event, and that it has heard.
pub linked_goes_on :
    (s : ScenarioValue) (rows : List Row) (row : Row) (v m : HostValue) (itself : ItselfValue) (intent : IntentValue)
    → m.def ≡ v.def → m.bytes ≡ v.bytes → m.endings ≡ v.endings → IsPlain s rows (run_state s rows)
    → is_some (connection rows) ≡ true → [] ≡ events_of_row s rows row → itself.dev ≡ v.itself.dev
    → intent.dev ≡ v.intent.dev → intent.retries ≡ v.intent.retries → IsItselfOf s (row ∷ rows) itself
    → IsIntentOf s (row ∷ rows) intent → IsHostAfter s rows v → HasHeard s rows row m
    → IsHostAfter s (row ∷ rows) (record m { itself = itself; intent = intent })
linked_goes_on s rows row v m itself intent def bytes ends p stands none itself_dev intent_dev retries itself_is
    intent_is h w = host_goes_on s rows row v m itself intent m.endings def bytes itself_dev intent_dev retries
    itself_is intent_is (subst (λ (z : List CommandEnd). AreEndingsOf s (row ∷ rows) v.def.dev z) (sym ends)
    (endings_stay s rows row v.def.dev v.endings p stands none h.endings_are)) h w

-- ---- what the tests say of the rows

-- In a connection of others a row tells nothing while RST is false.
pub others_tell_nothing : (dev : ℕ) (w : Hearing) (before after : Option Connection) (m n : Connection)
    → before ≡ Some m → after ≡ Some n → (m.initiator == dev) ≡ false → (n.initiator == dev) ≡ false
    → w.change.after.rst ≡ false → hears_nothing dev w before after ≡ true
others_tell_nothing dev w before after m n b a x y calm =
    (λ i. hears_nothing dev w (b i) (a i))
    ∙ (λ i. not (calm i) && ((not (x i) && not (y i)) || not (w.crosses || changes_phase w.change)))
