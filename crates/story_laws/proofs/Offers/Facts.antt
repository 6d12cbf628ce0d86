-- Whose synchronous data transfer request is open after any rows of a prompt trace; and rule 25 of it: none as data
-- cross (6.6.21).
use Rattle.story_laws.proofs
use proofs.Names.{inl, inr, ◌≡◌, ◌⊎◌, ◌<◌, Bool, true, false, not, ◌&&◌, ◌||◌, ◌∙◌, List, [], ◌∷◌, Option, Some, None}
use proofs.Names.{refl, sym, ap, subst, if◌then◌else◌, is_some, wrong, wrong', change_of, LineSet, changes_phase}
use proofs.Names.{is_data, is_message_out, is_message_in, connection, connection_after, receiver_of, receiver_in, bus}
use proofs.Names.{Row, Change, Connection, Handshakes, handshakes, opened, dialogue, dialogue_after, Dialogue, End}
use proofs.Names.{settles_offers, seen, seen_with, ScenarioValue, Obeys, Tag, row_reading, agreement_in, aim_of}
use proofs.Names.{no_messages, begun, phase_of, first_plan, Ready, parity_error, tag_named, Cause, Messages, Next}
use proofs.Names.{run_state_plain, IsPrompt, IsPlain, AreOfDevices, RunState, bus_of, run_state, exchange_after}
use proofs.Names.{leaving_of, may_negotiate, messages_if, ready_of, OnMessage, OnMessages, change_plain, least_is}
use proofs.Names.{BeginsConnection, by_selection, by_reselection, none_some, attention_row, connection_row, going_row}
use proofs.Names.{link_low, stage_of_connection, RowKindOf, begins_now, goes_now, row_kind, RowFacts, stays, ends_here}
use proofs.Names.{IsFirst, Stood, NextStood, link_phase, is_in_message, Attention, IsNoRequest, no_request, is_detected}
use proofs.Names.{IsHeardOut, opens, repeats, answers_it, detects, offer_now, Offers, OfferFacts}
use proofs.Offers.{Steps.{offers_on}, Turns.{asked_at_command}}

-- ---- before any row

pub offers_start : (s : ScenarioValue) → OfferFacts s []
offers_start s n e calm = absurd (none_some n e)

-- ---- the first row of a connection

no_names : (r : Option Ready) → OnMessages IsNoRequest (messages_if r)
no_names None = (tt, tt)
no_names (Some r) = (refl, tagged r.process.tag)
  where
    tagged : (t : Tag) → OnMessage IsNoRequest (tag_named t)
    tagged Tag.Untagged = tt
    tagged _ = refl

offers_first : (s : ScenarioValue) (p : List Row) (row : Row) (n : Connection) → AreOfDevices p → row.dev < 8
    → connection p ≡ None → connection (row ∷ p) ≡ Some n → IsFirst s p row n → Offers (run_state s (row ∷ p))
offers_first s p row n dv lt alone e f = go f.begins
  where
    q : List Row
    q = row ∷ p

    k : RunState
    k = run_state s p

    pl : IsPlain s q (run_state s q)
    pl = run_state_plain s q (lt, dv)

    was : IsPlain s p k
    was = run_state_plain s p dv

    con : k.story.bus_state.connection ≡ None
    con = was.connection ∙ alone

    next : (row_reading k.story.bus_state row).next ≡ Some n
    next = (λ i. connection_after (was.connection i) (was.call i) (change_plain s row p dv lt i) row) ∙ e

    heard : (run_state s q).story.bus_state.dialogue
        ≡ opened (agreement_in k.story.bus_state.agreed n.initiator n.target)
    heard = λ i. dialogue_after k.story.bus_state.dialogue (con i) (next i)
        (λ j u. agreement_in k.story.bus_state.agreed j u) (row_reading k.story.bus_state row).change

    none : offer_now (run_state s q).story.bus_state.dialogue ≡ None
    none = ap offer_now heard

    planned : n.reselected ≡ true → (run_state s q).exchange.plan.messages ≡ messages_if (ready_of s k n.target)
    planned re = (λ i. (exchange_after s k row (row_reading k.story.bus_state row)
        (con i) (next i) (leaving_of s k k.story.bus_state.connection)).plan.messages)
        ∙ ap (λ (r : Bool). (first_plan r (not r && may_negotiate k n (aim_of k.story.aims n.initiator))
        (if r then messages_if (ready_of s k n.target) else no_messages)).messages) re

    go : BeginsConnection q n → Offers (run_state s q)
    go (by_selection h) =
        let idle = pl.begun ∙ h.begun_is in
        record {
          unbegun = λ b. (none, ap (λ (d : Dialogue). d.heard.void) heard);
          settled = λ b m. wrong (sym b ∙ idle);
          out = λ b m. wrong (sym b ∙ idle);
          into = λ b m. wrong (sym b ∙ idle);
          why = λ b m. wrong (sym b ∙ idle);
          asks = λ b m. wrong (sym b ∙ idle);
        }
    go (by_reselection y h) =
        let on = pl.bus ∙ h.linked.stands.bus_is in
        let re : n.reselected ≡ true = sym f.begun_is ∙ h.begun_is in
        record {
          unbegun = λ b. (none, ap (λ (d : Dialogue). d.heard.void) heard);
          settled = λ b m. none;
          out = λ b m. wrong' (sym (ap is_message_out on) ∙ m);
          into = λ b m. no_request
              (subst (λ (z : Messages). OnMessages IsNoRequest z) (sym (planned re)) (no_names (ready_of s k n.target)))
              none (inl (ap (λ (z : Handshakes). z.requests) (pl.handshakes ∙ h.handshakes_are)));
          why = λ b m a. wrong' (sym (ap (λ (l : LineSet). l.atn) on) ∙ a);
          asks = λ b m t. absurd (none_end (sym none ∙ t));
        }
      where
        none_end : (let a : Option End = None in a) ≡ Some End.Target → ⊥
        none_end z = cc

-- ---- any row

pub offers_next : (s : ScenarioValue) (p : List Row) (row : Row) → Obeys s → IsPrompt s (row ∷ p) → Stood s p
    → NextStood s p row → OfferFacts s p → OfferFacts s (row ∷ p)
offers_next s p row o prompt was next h n after calm = go (row_kind s p row n o prompt was after calm)
  where
    lt : row.dev < 8
    lt = (least_is s p row prompt.1).inside

    k : RunState
    k = run_state s p

    go : RowKindOf s p row n → Offers (run_state s (row ∷ p))
    go (begins_now alone f) = offers_first s p row n was.standing.devices lt alone after f
    go (goes_now con off) =
        let r = connection_row s p row n o prompt was con off calm in
        let g = going_row s p row n was.standing.devices lt con after calm next.row_is r.facts in
        let stage = stage_of_connection s (row ∷ p) n next.stood after calm in
        let books = was.books in
        let standing = was.plain.connection ∙ con in
        let quiet = ap (λ (l : LineSet). l.rst) was.plain.bus ∙ off in
        let is = g.lines_are in
        let att = attention_row s p row n (link_low s p n r.stage) after r.link in
        let at : Attention k.handshakes k.story.bus_state.dialogue k.exchange.begun n g.change = subst
        (λ (x : Change). Attention k.handshakes k.story.bus_state.dialogue k.exchange.begun n x) (sym g.change_is)
        (subst (λ (x : Handshakes). Attention x k.story.bus_state.dialogue k.exchange.begun n (change_of p row))
        (sym was.plain.handshakes)
        (subst (λ (x : Dialogue). Attention (handshakes p) x k.exchange.begun n (change_of p row))
        (sym was.plain.dialogue) (subst (λ (x : Bool). Attention (handshakes p) (dialogue p) x n (change_of p row))
        (sym was.plain.begun) att))) in
        offers_on s k row n g.change g.goes (λ z. ap (λ (x : Change). x.after.cd) g.change_is
        ∙ (link_phase s (row ∷ p) n stage (ap (λ (x : Change). x.after.msg) (sym g.change_is) ∙ z)).0)
        (books.speaks n standing quiet) (books.gives n standing quiet) at
        (λ ep b. g.lines.over (ap changes_phase is ∙ ep) (sym was.plain.begun ∙ b))
        (λ ep b. g.lines.whereto (ap changes_phase is ∙ ep) (sym was.plain.begun ∙ b)
        ∙ ap (λ (x : Change). Some (phase_of x.after)) is) (h n con off)

-- ---- rule 25

implied : (q r d : Bool) → (q ≡ true → d ≡ true → r ≡ true) → (not (q && d) || r) ≡ true
implied true r true f = f refl refl
implied true r false f = refl
implied false r d f = refl

-- No request is open as data cross.
pub offers_asks : (s : ScenarioValue) (p : List Row) (row : Row) (n : Connection) → Obeys s → IsPrompt s (row ∷ p)
    → Stood s p → OfferFacts s p → connection p ≡ Some n → (bus p).rst ≡ false → (bus (row ∷ p)).rst ≡ false
    → settles_offers (seen p row) ≡ true
unfolding seen_with
offers_asks s p row n o prompt was h con off calm =
    (λ i. not (is_some (receiver_of (con i) (change_of p row)) && is_data (bus p))
    || not (is_some (dialogue p).heard.now.offer))
    ∙ implied (is_some (receiver_in n (change_of p row))) (not (is_some (dialogue p).heard.now.offer))
    (is_data (bus p)) settled
  where
    data_lines : (m c : Bool) → (not m && not c) ≡ true → m ≡ false
    data_lines true c e = wrong' e
    data_lines false c e = refl

    settled : is_some (receiver_in n (change_of p row)) ≡ true → is_data (bus p) ≡ true
        → not (is_some (dialogue p).heard.now.offer) ≡ true
    settled there d =
        let open_to = h n con off in
        let at = (open_to.settled (was.plain.begun ∙ begun_there there)
        (ap (λ (l : LineSet). l.msg) was.plain.bus ∙ data_lines (bus p).msg (bus p).cd d)) in
        (λ i. not (is_some (sym was.plain.dialogue i).heard.now.offer)) ∙ ap (λ (z : Option End). not (is_some z)) at
      where
        by_facts : RowFacts s p row n → is_some (receiver_in n (change_of p row)) ≡ true → begun p ≡ true
        by_facts (stays g) z = g.begun_is (ap (λ (x : Change). is_some (receiver_in n x))
            (sym g.row_is.change_is ∙ change_plain s row p was.standing.devices (least_is s p row prompt.1).inside) ∙ z)
        by_facts (ends_here f) z = wrong (sym z ∙ f.carries)

        begun_there : is_some (receiver_in n (change_of p row)) ≡ true → begun p ≡ true
        begun_there z = by_facts (connection_row s p row n o prompt was con off calm).facts z

-- ---- for the pointers

-- In MESSAGE IN the initiator raises ATN for a byte that was not struck only where COMMAND follows.
pub answers_at_command : (s : ScenarioValue) (p : List Row) (n : Connection) → AreOfDevices p → OfferFacts s p
    → connection p ≡ Some n → (bus p).rst ≡ false → begun p ≡ true → is_message_in (bus p) ≡ true → (bus p).atn ≡ true
    → (handshakes p).struck ≡ false → (run_state s p).exchange.plan.next ≡ Next.Command
answers_at_command s p n dv h con off b m a unstruck =
    go ((h n con off).why (pl.begun ∙ b) here (ap (λ (l : LineSet). l.atn) pl.bus ∙ a)).1
  where
    pl : IsPlain s p (run_state s p)
    pl = run_state_plain s p dv

    here : is_message_in (bus_of (run_state s p)) ≡ true
    here = ap is_message_in pl.bus ∙ m

    go : ((run_state s p).handshakes.struck ≡ true)
        ⊎ (offer_now (run_state s p).story.bus_state.dialogue ≡ Some End.Target)
        → (run_state s p).exchange.plan.next ≡ Next.Command
    go (inl z) = wrong (sym z ∙ ap (λ (x : Handshakes). x.struck) pl.handshakes ∙ unstruck)
    go (inr t) = asked_at_command _ _ (run_state s p).story.bus_state.dialogue (run_state s p).handshakes.requests
        ((h n con off).into (pl.begun ∙ b) here) t

-- In MESSAGE OUT that follows MESSAGE IN it answers a request only where COMMAND follows.
pub refuses_later : (s : ScenarioValue) (p : List Row) (n : Connection) → OfferFacts s p
    → connection p ≡ Some n → (bus p).rst ≡ false → (run_state s p).exchange.begun ≡ true
    → is_message_out (bus_of (run_state s p)) ≡ true → (run_state s p).exchange.plan.cause ≡ Cause.InMessage
    → ((run_state s p).exchange.plan.next ≡ Next.Command) ⊎ ((run_state s p).exchange.speech.words ≡ parity_error)
refuses_later s p n h con off b m c = go ((h n con off).out b m)
  where
    go : IsHeardOut (run_state s p).exchange (run_state s p).story.bus_state.dialogue
        → ((run_state s p).exchange.plan.next ≡ Next.Command) ⊎ ((run_state s p).exchange.speech.words ≡ parity_error)
    go (opens e ao av v q) = wrong' (ap is_in_message (sym e ∙ c))
    go (repeats before e one w q) = inr one.words_are
    go (answers_it a e next one q) = inl next
    go (detects e one q) = wrong' (sym (ap is_detected c) ∙ e)
