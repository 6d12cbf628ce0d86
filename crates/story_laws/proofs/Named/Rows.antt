-- Any row of a connection after a reselection: that the initiator knows the process, or its names are said (6.1.4,
-- 6.6.7, 6.6.13).
use Rattle.story_laws.proofs
use proofs.Names.{ℕ, ◌≡◌, ◌+◌, Bool, true, false, ◌&&◌, ◌%◌, ◌∙◌, [], ◌∷◌, ◌++◌, Option, Some, None, refl, sym, ap}
use proofs.Names.{subst, if◌then◌else◌, is_some, wrong', LineSet, changes_phase, is_message_out, is_message_in}
use proofs.Names.{receiver_in, receiver_of, Row, Change, Connection, handshakes_on, got_in, got_out, MsgIn, MsgOut}
use proofs.Names.{fresh_bytes, ScenarioValue, Tag, Process, whole_in, whole_out, message_in, message_out, carried_if}
use proofs.Names.{is_complete, Item, Sent, Link, last_out, Exchange, plan_anew, plan_after_message, request_after}
use proofs.Names.{speech_after_byte, speech_after_request, phase_of, tag_named, Messages, Phase, Plan, still_talk}
use proofs.Names.{host_of, RunState, hearing_of, leaving, same_phase_is, heard_next, byte_messages, in_io, few_messages}
use proofs.Names.{in_same, heard_byte, out_same, OnMessage, OnMessages, Gives, is_in_phase, IsNoName, reading_in}
use proofs.Names.{GoesOn, out_in, in_out, Names, all, tag_alone, NamedBy, known, said, refused}
use proofs.Named.{Bytes.{names_on, names_of_link}, Steps.{named_as, naming_as, byte_item, name_ends, IsNoEnd}}
use proofs.{Named.{Steps.{name_last, out_last}, Story.{after_name, after_byte, link_by}}, Offers.Rows.{request_rises}}

-- ---- names end no command

tag_no_end : (t : Tag) → OnMessage IsNoEnd (tag_named t)
tag_no_end Tag.Untagged = tt
tag_no_end _ = refl

names_no_end : (c : Process) (l : Link) (messages : Messages) (count : ℕ) → Names c l messages count
    → OnMessages IsNoEnd messages
names_no_end c l messages count (all e u) =
    subst (λ (m : Messages). OnMessages IsNoEnd m) (sym e) (refl, tag_no_end c.tag)
names_no_end c l messages count (tag_alone m em es u) = subst (λ (x : Messages). OnMessages IsNoEnd x) (sym es)
    (subst (λ (o : Option MsgIn). OnMessage IsNoEnd o) em (tag_no_end c.tag), tt)

-- ---- lines

pub in_lines : (b : LineSet) → (b.msg ≡ true → b.cd ≡ true) → is_in_phase (phase_of b) ≡ true → is_message_in b ≡ true
in_lines b h e = go b.msg b.cd b.io h e
  where
    go : (m c i : Bool) → (m ≡ true → c ≡ true)
        → is_in_phase (if m then (if i then Phase.MessageIn else Phase.MessageOut)
        else if c then (if i then Phase.Status else Phase.Command) else if i then Phase.DataIn else Phase.DataOut)
        ≡ true → (m && c && i) ≡ true
    go true true true h z = refl
    go true true false h z = wrong' z
    go true false i h z = wrong' (h refl)
    go false true true h z = wrong' z
    go false true false h z = wrong' z
    go false false true h z = wrong' z
    go false false false h z = wrong' z

-- ---- a byte crosses

kept : (q : Bool) (l : Plan)
    → ((if q then plan_anew l else l).cause ≡ l.cause) × ((if q then plan_anew l else l).messages ≡ l.messages)
    × ((if q then plan_anew l else l).next ≡ l.next)
kept true l = (refl, refl, refl)
kept false l = (refl, refl, refl)

pub crosses_on : (s : ScenarioValue) (k : RunState) (row : Row) (n : Connection) (c : Change) (dev : ℕ) (b' : Sent)
    (o' : Option Link) → GoesOn s k row n c → Gives k → changes_phase c ≡ false → receiver_in n c ≡ Some dev
    → ((l : Link) → k.story.link ≡ Some l → is_complete l.last ≡ false → b' ≡ k.story.sent)
    → ((l : Link) → k.story.link ≡ Some l → o' ≡ Some (link_by s k.story l true
    (message_out k.story.bus_state.dialogue c true) (message_in k.story.bus_state.dialogue c true)))
    → NamedBy s n k.story.sent k.story.link k.exchange k.handshakes c.before
    → NamedBy s n b' o' (still_talk false true false (host_of s n.initiator)
    (hearing_of k row (reading_in k.story.bus_state n c true)) (leaving s k n.target) k.exchange)
    (handshakes_on (Some n) c row.time k.handshakes) c.after
crosses_on s k row n c dev b' o' g gv ep er eb eo h = go h
  where
    there : is_some (receiver_in n c) ≡ true
    there = ap (λ (z : Option ℕ). is_some z) er

    -- a message of MESSAGE IN is one of those that are planned
    heard : (q : MsgIn → Type 0) → OnMessages q k.exchange.plan.messages → (r : Bool) → is_message_in c.before ≡ r
        → OnMessage q (message_in k.story.bus_state.dialogue c true)
    heard q z true f =
        let y = g.gives f there in
        let given = gv.in_message_in
        (g.begun ((λ i. is_some (receiver_of (g.row_is.connection_is i) (g.row_is.change_is i))) ∙ there))
        (ap is_message_in g.row_is.bus_is ∙ f) in
        subst (λ (v : Bool). OnMessage q
        (if v then whole_in (got_in (k.story.bus_state.dialogue.half ++ c.after.data_bits % 256 ∷ [])) else None))
        (sym f) (heard_next q k.exchange.plan.messages k.story.bus_state.dialogue.half k.handshakes.requests
        (c.after.data_bits % 256) gv.fit z given y.0 y.1)
    heard q z false f = subst (λ (v : Bool). OnMessage q
        (if v then whole_in (got_in (k.story.bus_state.dialogue.half ++ c.after.data_bits % 256 ∷ [])) else None))
        (sym f) tt

    go : NamedBy s n k.story.sent k.story.link k.exchange k.handshakes c.before
        → NamedBy s n b' o' (still_talk false true false (host_of s n.initiator)
        (hearing_of k row (reading_in k.story.bus_state n c true)) (leaving s k n.target) k.exchange)
        (handshakes_on (Some n) c row.time k.handshakes) c.after
    go (known l e i q) = known (link_by s k.story l true (message_out k.story.bus_state.dialogue c true)
        (message_in k.story.bus_state.dialogue c true)) (eo l e) (ap (λ (z : Option Item). is_some z)
        (byte_item s k.story.sent l (carried_if k.story l.item) (message_out k.story.bus_state.dialogue c true)
        (message_in k.story.bus_state.dialogue c true) (heard IsNoName q (is_message_in c.before) refl))
        ∙ i) (subst (λ (m : Messages). OnMessages IsNoName m) (sym (byte_messages (is_message_out c.before)
        k.story.bus_state.dialogue.is_last (message_out k.story.bus_state.dialogue c true) k.exchange.plan)) q)
    go (said p l nm m names z) =
        let e : is_message_out c.before ≡ false = out_in c.before m in
        let y = g.gives m there in
        let given = gv.in_message_in nm.begun_is (ap is_message_in g.row_is.bus_is ∙ m) in
        let undo = carried_if k.story l.item in
        let on = names_on s k.story.sent l undo n p k.exchange.plan.messages
        k.story.bus_state.dialogue.half k.handshakes.requests
        (c.after.data_bits % 256) gv.fit given y.0 y.1 nm.initiator_is nm.target_is nm.found names in
        let into : message_in k.story.bus_state.dialogue c true
        ≡ whole_in (got_in (k.story.bus_state.dialogue.half ++ c.after.data_bits % 256 ∷ [])) = λ i.
        if m i then whole_in (got_in (k.story.bus_state.dialogue.half ++ c.after.data_bits % 256 ∷ [])) else None in
        let link : o' ≡ Some (after_name s k.story.sent l undo
        (whole_in (got_in (k.story.bus_state.dialogue.half ++ c.after.data_bits % 256 ∷ [])))) = eo l nm.link_is
        ∙ (λ i. Some (after_byte s k.story.sent l undo
        (if e i then whole_out (got_out (fresh_bytes k.story.bus_state.dialogue ++ c.after.data_bits % 256 ∷ []))
        else None) (into i))) in
        let message = whole_in (got_in (k.story.bus_state.dialogue.half ++ c.after.data_bits % 256 ∷ [])) in
        let l' : Link = after_name s k.story.sent l undo message in
        let same = name_ends s k.story.sent l undo message in
        let last = name_last s k.story.sent l undo message (subst (λ (v : Option MsgIn). OnMessage IsNoEnd v) into
        (heard IsNoEnd (names_no_end p l k.exchange.plan.messages k.handshakes.requests names)
        (is_message_in c.before) refl)) nm.last nm.before in
        let count : (handshakes_on (Some n) c row.time k.handshakes).requests ≡ k.handshakes.requests + 1 =
        request_rises n c row.time dev k.handshakes ep
        (in_io c.before m) er _ y.1 (few_messages k.exchange.plan.messages) in
        let next : Exchange = record k.exchange {
          speech = record k.exchange.speech {
            asked = request_after k.exchange.speech.asked (message_in k.story.bus_state.dialogue c true);
          };
        } in
        named_as s n b' b' o' o' (still_talk false true false (host_of s n.initiator)
        (hearing_of k row (reading_in k.story.bus_state n c true)) (leaving s k n.target) k.exchange) next
        (handshakes_on (Some n) c row.time k.handshakes)
        (handshakes_on (Some n) c row.time k.handshakes) c.after c.after refl refl (λ i. record {
          begun = k.exchange.begun;
          speech =
              if e i then speech_after_byte k.exchange.speech
              else speech_after_request k.exchange.speech (message_in k.story.bus_state.dialogue c true);
          plan =
              if e i then plan_after_message k.exchange.plan k.story.bus_state.dialogue.is_last
              (message_out k.story.bus_state.dialogue c true) else k.exchange.plan;
        }) refl refl
        (said p l' (naming_as s n k.story.sent b' o' p l l' k.exchange next k.story.link (eb l nm.link_is nm.last)
        link same.0 same.1 last.0 last.1 nm.begun_is refl nm) (in_same c.before c.after (same_phase_is c ep) ∙ m)
        (subst (λ (v : ℕ). Names p l' k.exchange.plan.messages v) (sym count) on.names) (λ v. on.heard (sym count ∙ v)))
    go (refused p l nm m cause names) =
        let e : is_message_in c.before ≡ false = in_out c.before m in
        let undo = carried_if k.story l.item in
        let link : o' ≡ Some (after_byte s k.story.sent l undo (message_out k.story.bus_state.dialogue c true) None) =
        eo l nm.link_is ∙ (λ i. Some (after_byte s k.story.sent l undo (message_out k.story.bus_state.dialogue c true)
        (if e i then whole_in (got_in (k.story.bus_state.dialogue.half ++ c.after.data_bits % 256 ∷ [])) else None))) in
        let next : Exchange = heard_byte k.exchange k.story.bus_state.dialogue.is_last
        (whole_out (got_out (fresh_bytes k.story.bus_state.dialogue ++ c.after.data_bits % 256 ∷ []))) in
        let same = kept k.story.bus_state.dialogue.is_last k.exchange.plan in
        named_as s n b' b' o' o' (still_talk false true false (host_of s n.initiator)
        (hearing_of k row (reading_in k.story.bus_state n c true)) (leaving s k n.target) k.exchange) next
        (handshakes_on (Some n) c row.time k.handshakes)
        (handshakes_on (Some n) c row.time k.handshakes) c.after c.after refl refl (λ i. record {
          begun = k.exchange.begun;
          speech =
              if m i then speech_after_byte k.exchange.speech
              else speech_after_request k.exchange.speech (message_in k.story.bus_state.dialogue c true);
          plan =
              if m i then plan_after_message k.exchange.plan k.story.bus_state.dialogue.is_last
              (if m i then whole_out (got_out (fresh_bytes k.story.bus_state.dialogue ++ c.after.data_bits % 256 ∷ []))
              else None) else k.exchange.plan;
        }) refl refl (by (message_out k.story.bus_state.dialogue c true) link next same)
      where
        by : (message : Option MsgOut)
            → o' ≡ Some (after_byte s k.story.sent l (carried_if k.story l.item) message None) → (next : Exchange)
            → (next.plan.cause ≡ k.exchange.plan.cause)
            × (next.plan.messages ≡ k.exchange.plan.messages) × (next.plan.next ≡ k.exchange.plan.next)
            → NamedBy s n b' o' (record next { begun = k.exchange.begun })
            (handshakes_on (Some n) c row.time k.handshakes) c.after
        by (Some message) link next same =
            let l' : Link = record l { last = last_out message l } in
            refused p l'
            (naming_as s n k.story.sent b' o' p l l' k.exchange (record next { begun = k.exchange.begun }) k.story.link
            (eb l nm.link_is nm.last) link refl refl (out_last message l nm.before) nm.before nm.begun_is same.2 nm)
            (out_same c.before c.after (same_phase_is c ep) ∙ m) (same.0 ∙ cause)
            (subst (λ (z : Messages). Names p l' z 0) (sym same.1)
            (names_of_link p l l' k.exchange.plan.messages 0 refl names))
        by None link next same = refused p l (naming_as s n k.story.sent b' o' p l l k.exchange (record next {
          begun = k.exchange.begun;
        }) k.story.link (eb l nm.link_is nm.last) link refl refl nm.last nm.before nm.begun_is same.2 nm)
            (out_same c.before c.after (same_phase_is c ep) ∙ m) (same.0 ∙ cause)
            (subst (λ (z : Messages). Names p l z 0) (sym same.1) names)
