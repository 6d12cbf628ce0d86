-- The first byte of a connection begins an IDENTIFY.
use Rattle.book_laws.proofs
use proofs.Names.{ℕ, ◌≡◌, Bool, true, false, not, ◌&&◌, ◌∙◌, [], Option, Some, None, refl, sym, ap, subst, true≢false}
use proofs.Names.{if◌then◌else◌, is_some, ◌==◌, ◌%◌, LineSet, changes_phase, is_command, is_message_out, is_message_in}
use proofs.Names.{receiver_in, Row, Change, Connection, struck_same, Handshakes, handshakes_after, opened}
use proofs.Names.{dialogue_after, byte_out, byte_in, byte_crosses, heard_with_command, phase_begins, Dialogue}
use proofs.Names.{ScenarioValue, row_reading, Item, agreement_in, aim_of, Speech, Exchange, speech_of, no_messages}
use proofs.Names.{struck_plan, first_plan, words_after, Ready, Hearing, Leaving, still_talk, host_of, opening, RunState}
use proofs.Names.{bus_of, run_state_after, first_exchange, exchange_after, messages_if, may_negotiate, leaving_of}
use proofs.Names.{hearing_of, leaving, ready_of, in_phase, out_phase, AreUnits, IsUnopened, before_all, in_opening}
use proofs.Names.{in_names, OpensBy, Opens, LeavesWhole, AimsAreItems, RowKind, still, strikes, crosses, turns}
use proofs.{Names.{reading_in, Begins, GoesOn}, Common.InConnection.{dialogue_by, InConnection, in_connection}}
use proofs.{Common.InConnection.{SamePhase, same_phase_is}, Given.{Messages.{first_requests}, Rows.{requests_stay}}}
use proofs.{Given.Rows.{in_io, in_same}, Said.{First.{opening_is}, Rows.{out_same}}}

-- ---- what is kept is known otherwise

opens_as : (n : Connection) (x x' : Exchange) (d d' : Dialogue) (h : Handshakes) (b b' : LineSet) → x ≡ x' → d ≡ d'
    → b ≡ b' → OpensBy n x' d' h b' → OpensBy n x d h b
opens_as n x x' d d' h b b' ex ed eb g = subst (λ (z : Exchange). OpensBy n z d h b) (sym ex)
    (subst (λ (z : Dialogue). OpensBy n x' z h b) (sym ed) (subst (λ (z : LineSet). OpensBy n x' d' h z) (sym eb) g))

-- ---- the first row

pub opens_first : (s : ScenarioValue) (k : RunState) (row : Row) (n : Connection) → AreUnits s → AimsAreItems s k
    → Begins s k row n → Opens (run_state_after s k row) n
opens_first s k row n u aims b =
    let k' = run_state_after s k row in
    let h = b.first in
    opens_as n k'.exchange (first_exchange s k n (aim_of k.story.aims n.initiator)) k'.story.bus_state.dialogue
    (opened (agreement_in k.story.bus_state.agreed n.initiator n.target)) k'.handshakes (bus_of k') (bus_of k')
    (λ i. exchange_after s k row (row_reading k.story.bus_state row) (h.connection_is i) (h.next_is i)
    (leaving_of s k k.story.bus_state.connection)) (λ i. dialogue_after k.story.bus_state.dialogue (h.connection_is i)
    (h.next_is i) (λ j v. agreement_in k.story.bus_state.agreed j v) (row_reading k.story.bus_state row).change) refl
    (λ z. go n.reselected refl)
  where
    go : (q : Bool) → n.reselected ≡ q → IsUnopened n (first_exchange s k n (aim_of k.story.aims n.initiator))
        (opened (agreement_in k.story.bus_state.agreed n.initiator n.target)) (run_state_after s k row).handshakes
        (bus_of (run_state_after s k row))
    go true e =
        let r = b.reselects e in
        in_names e e (b.names e) (first_requests s k row n b.first) r.ready.process.unit
        ((rw e) ∙ ap (λ (z : Option Ready). (messages_if z).first) r.ready_is) r.unit_in
    go false e =
        let a = b.selects e in
        let o = opening_is s n.initiator (may_negotiate k n (aim_of k.story.aims n.initiator)) a.item u
        (aims n.initiator a.item a.aim_is) in
        let words : (first_exchange s k n (aim_of k.story.aims n.initiator)).speech.words
        ≡ opening s n.initiator (may_negotiate k n (aim_of k.story.aims n.initiator)) (Some a.item) =
        ap (λ (q : Bool). if q then [] else opening s n.initiator
        (may_negotiate k n (aim_of k.story.aims n.initiator)) (aim_of k.story.aims n.initiator)) e ∙ ap
        (λ (z : Option Item). opening s n.initiator (may_negotiate k n (aim_of k.story.aims n.initiator)) z) a.aim_is in
        before_all e e (record { first = o.first; rest = o.rest; words_are = words ∙ o.some; opens = o.opens })

-- ---- a row of a connection

byte_begins : (d : Dialogue) (c : Change) → (byte_crosses d c).begun ≡ true
byte_begins d c = go (is_message_out c.before) (is_message_in c.before) (is_command c.before)
  where
    go : (o i m : Bool) → (if o then byte_out d (c.after.data_bits % 256) (not c.after.atn)
        else if i then byte_in d (c.after.data_bits % 256)
        else if m then record d { heard = heard_with_command d.heard (c.after.data_bits % 256); begun = true }
        else record d { begun = true }).begun ≡ true
    go true i m = refl
    go false true m = refl
    go false false true = refl
    go false false false = refl

opens_still : (n : Connection) (c : Change) (x : Exchange) (d : Dialogue) (h h' : Handshakes)
    → SamePhase c.before c.after → (c.before.io ≡ true → h'.requests ≡ h.requests) → OpensBy n x d h c.before
    → OpensBy n x d h' c.after
opens_still n c x d h h' same e g z = go (g z)
  where
    go : IsUnopened n x d h c.before → IsUnopened n x d h' c.after
    go (before_all r b o) = before_all r b o
    go (in_opening r b p q l o) = in_opening r b (out_same c.before c.after same ∙ p) q l o
    go (in_names r b p q lun m lt) =
        in_names r b (in_same c.before c.after same ∙ p) (e (in_io c.before p) ∙ q) lun m lt

opens_struck : (n : Connection) (x : Exchange) (d : Dialogue) (h : Handshakes) (b : LineSet) (io : Bool)
    → OpensBy n x d h b → OpensBy n
    (record { begun = x.begun; speech = x.speech; plan = if true && not io then struck_plan x.plan else x.plan }) d h b
opens_struck n x d h b true g z = g z
opens_struck n x d h b false g z = go (g z)
  where
    go : IsUnopened n x d h b
        → IsUnopened n (record { begun = x.begun; speech = x.speech; plan = struck_plan x.plan }) d h b
    go (before_all r a o) = before_all r a o
    go (in_opening r a p q l o) = in_opening r a p q l o
    go (in_names r a p q lun m lt) = in_names r a p q lun m lt

-- A phase is left after a byte at least; the first one is that of the opening.
opens_turn :
    (s : ScenarioValue) (k : RunState) (n : Connection) (c : Change) (w : Hearing) (l : Leaving) (h' : Handshakes)
    → w.begun ≡ k.exchange.begun → w.change ≡ c → LeavesWhole s k n
    → (k.exchange.begun ≡ false → is_message_out c.after ≡ true) → Opens k n
    → OpensBy n (still_talk true false false (host_of s n.initiator) w l k.exchange)
    (phase_begins k.story.bus_state.dialogue) h' c.after
opens_turn s k n c w l h' ew ec leaves first g z = go (g z)
  where
    by : (q r : Bool) → r ≡ false
        → (if q && r then speech_of k.exchange.speech (words_after (host_of s n.initiator) w k.exchange.speech.asked)
        else record k.exchange.speech { place = 0 }) ≡ record k.exchange.speech { place = 0 }
    by true true e = absurd (true≢false e)
    by true false e = refl
    by false r e = refl

    still_spoken : k.exchange.begun ≡ false
        → (still_talk true false false (host_of s n.initiator) w l k.exchange).speech
        ≡ record k.exchange.speech { place = 0 }
    still_spoken b = by (is_message_out w.change.after) w.begun (ew ∙ b)

    go : IsUnopened n k.exchange k.story.bus_state.dialogue k.handshakes (bus_of k)
        → IsUnopened n (still_talk true false false (host_of s n.initiator) w l k.exchange)
        (phase_begins k.story.bus_state.dialogue) h' c.after
    go (before_all r b o) =
        let spoken : (still_talk true false false (host_of s n.initiator) w l k.exchange).speech
        ≡ record k.exchange.speech { place = 0 } = still_spoken b in
        in_opening r refl (first b) (ap (λ (v : Speech). v.place) spoken) refl (record {
          first = o.first;
          rest = o.rest;
          words_are = ap (λ (v : Speech). v.words) spoken ∙ o.words_are;
          opens = o.opens;
        })
    go (in_opening r b p q last o) = absurd (true≢false (sym (leaves.out (out_phase (bus_of k) p)) ∙ last))
    go (in_names r b p q lun m lt) =
        absurd (true≢false (sym (ap (λ (v : ℕ). v == 0) q) ∙ leaves.some (in_phase (bus_of k) p)))

pub opens_on : (s : ScenarioValue) (k : RunState) (row : Row) (n : Connection) (c : Change) → GoesOn s k row n c
    → Opens k n → Opens (run_state_after s k row) n
opens_on s k row n c g h = go g.row_is.kind
  where
    was : OpensBy n k.exchange k.story.bus_state.dialogue k.handshakes c.before
    was = subst (λ (z : LineSet). OpensBy n k.exchange k.story.bus_state.dialogue k.handshakes z) g.row_is.bus_is h

    to : (phase now fault : Bool) → InConnection s k row n c phase now fault
        → OpensBy n (still_talk phase now fault (host_of s n.initiator)
        (hearing_of k row (reading_in k.story.bus_state n c now)) (leaving s k n.target) k.exchange)
        (dialogue_by phase now c k.story.bus_state.dialogue) (run_state_after s k row).handshakes c.after
        → Opens (run_state_after s k row) n
    to phase now fault i = opens_as n (run_state_after s k row).exchange
        (still_talk phase now fault (host_of s n.initiator) (hearing_of k row (reading_in k.story.bus_state n c now))
        (leaving s k n.target) k.exchange) (run_state_after s k row).story.bus_state.dialogue
        (dialogue_by phase now c k.story.bus_state.dialogue) (run_state_after s k row).handshakes
        (bus_of (run_state_after s k row)) c.after i.exchange_is i.dialogue_is i.bus_is

    none_crosses : receiver_in n c ≡ None → is_some (receiver_in n c) ≡ false
    none_crosses e = ap (λ (z : Option ℕ). is_some z) e

    go : RowKind row n c → Opens (run_state_after s k row) n
    go (still ef ep er) =
        let i = in_connection s k row n c false false false g.row_is ep (none_crosses er) ef in
        to false false false i (opens_still n c k.exchange k.story.bus_state.dialogue k.handshakes
        (run_state_after s k row).handshakes (same_phase_is c ep) (λ io. ap (λ (z : Handshakes). z.requests)
        (i.handshakes_is ∙ ap (λ (q : Bool). handshakes_after q (Some n) c row.time k.handshakes) ef)
        ∙ requests_stay n c row.time k.handshakes ep io er) was)
    go (strikes ef ep er) =
        let i = in_connection s k row n c false false true g.row_is ep (none_crosses er) ef in
        to false false true i (opens_struck n k.exchange k.story.bus_state.dialogue (run_state_after s k row).handshakes
        c.after c.before.io (opens_still n c k.exchange k.story.bus_state.dialogue k.handshakes
        (run_state_after s k row).handshakes (same_phase_is c ep) (λ io. ap (λ (z : Handshakes). z.requests)
        (i.handshakes_is ∙ ap (λ (q : Bool). handshakes_after q (Some n) c row.time k.handshakes) ef)
        ∙ struck_same c.before.io k.handshakes) was))
    go (crosses dev ef ep er) = to false true false
        (in_connection s k row n c false true false g.row_is ep (ap (λ (z : Option ℕ). is_some z) er) ef)
        (λ z. absurd (true≢false (sym (byte_begins k.story.bus_state.dialogue c) ∙ z)))
    go (turns ef ep er) =
        let turn = ap changes_phase (same_change g.row_is.change_is) ∙ ep in
        to true false false (in_connection s k row n c true false false g.row_is ep (none_crosses er) ef)
        (opens_turn s k n c (hearing_of k row (reading_in k.story.bus_state n c false))
        (leaving s k n.target) (run_state_after s k row).handshakes refl refl (g.leaves turn)
        (λ z. sym (ap (λ (y : Change). is_message_out y.after) (same_change g.row_is.change_is)) ∙ g.first turn z) h)
      where
        same_change : (row_reading k.story.bus_state row).change ≡ c → (row_reading k.story.bus_state row).change ≡ c
        same_change e = e
