-- COMMAND COMPLETE is said only after STATUS in the same connection.
use Rattle.transcript_laws.proofs
use proofs.Names.{ℕ, ◌≡◌, ◌∙◌, ◌-◌, ◌⊎◌, inl, inr, Bool, true, false, not, ◌&&◌, ◌%◌, List, [], ◌∷◌, ◌++◌, Option, Some}
use proofs.Names.{None, refl, sym, ap, subst, is_some, if◌then◌else◌, wrong, wrong', and_false, LineSet, changes_phase}
use proofs.Names.{is_message_in, is_message_out, is_fault, receiver_in, Change, Connection, Row, MsgIn, ScenarioValue}
use proofs.Names.{events_link, RowReading, row_reading, message_in, message_out, is_status_phase, row_events_by, Link}
use proofs.Names.{link_of, Story, aim_of, story_on_bus, story_by_change, story_after_connection, story_with_restored}
use proofs.Names.{story_with_sent, Exchange, from_byte, one_message, plan_after_message, struck_plan, phase_of}
use proofs.Names.{phase_leaving, leaving_by, is_naming, Cause, Leaving, Messages, Phase, Plan, RunState, bus_of}
use proofs.Names.{item_of, run_state, hearing_of, leaving, serving_of, InConnection, in_connection, byte_messages}
use proofs.Names.{not_both, reading_in, in_phase, out_in, out_lines, plan_left, plan_out, IsServed, names_first, LastBy}
use proofs.Names.{LastGiven, Named, known, said, refused, Completes, in_status, refused_again, completes_from}
use proofs.Names.{left_alone, OpenedValue, is_completion, with_part, with_fault, phase_entered, phase_over, phase_parts}
use proofs.{Names.{Part, are_talk, base_parts, out_parts, parts_now}, Held.Since.{follows_in}}
use proofs.Opened.Bytes.{CrossingMade, crossed_out, crossed_in, crossed_status, crossed_else, crossing_made, lines_same}
use proofs.Opened.{Bytes.{out_same, in_same, begun_same}, Rows.{Going, Starts, RowMade, made_still, made_crossing}}
use proofs.{Opened.Rows.{made_turn, plain_before, knows_before}, Parts.Base.{base_more, base_turned}}
use proofs.{Parts.Lists.{broken_parts}, Talks.Named.{talk_more, base_talk, in_talk}}
use Rattle.progress_laws.specs.row_laws.specs.Tells.{of_process, of_abort}

pub record StatusTalk (k : RunState) (o : OpenedValue) : Type 0 where
  pub status : k.exchange.begun ≡ true → is_status_phase (bus_of k) ≡ true → are_talk (base_parts o) ≡ false
  pub closes : k.exchange.begun ≡ true → k.exchange.plan.messages ≡ one_message MsgIn.CommandComplete
      → (is_message_in (bus_of k) ≡ true)
      ⊎ ((is_message_out (bus_of k) ≡ true) × (k.exchange.plan.cause ≡ Cause.InMessage))
      → are_talk (base_parts o) ≡ false

-- ---- more than messages stays more

part_more : (o : OpenedValue) (part : Part) → are_talk (base_parts o) ≡ false
    → are_talk (base_parts (with_part o part)) ≡ false
part_more o part z = ap are_talk (base_more o part) ∙ talk_more (base_parts o) (part ∷ [])
    ∙ ap (λ (q : Bool). q && are_talk (part ∷ [])) z

pub stays_more :
    (s : ScenarioValue) (p : List Row) (row : Row) (n : Connection) (g : Going s p row n) (o after : OpenedValue)
    → RowMade (run_state s p) row n g.going.change o after → are_talk (base_parts o) ≡ false
    → are_talk (base_parts after) ≡ false
stays_more s p row n g o after (made_still ep none e) z = ap (λ (x : OpenedValue). are_talk (base_parts x)) e
    ∙ go (is_completion o (run_state s p).story.bus_state.dialogue.half g.going.change)
  where
    go : (q : Bool) → are_talk (base_parts (if q then with_part o Part.Completion
        else with_fault o (is_fault row.kind && is_some (run_state s p).story.bus_state.crossed))) ≡ false
    go true = part_more o Part.Completion z
    go false = z
stays_more s p row n g o after (made_crossing dev ep er e) z =
    go (crossing_made o after (run_state s p).story.bus_state n g.going.change e)
  where
    c : Change
    c = g.going.change

    go : CrossingMade o after (run_state s p).story.bus_state.dialogue.is_last c.before
        (c.after.data_bits % 256) (message_out (run_state s p).story.bus_state.dialogue c true)
        (message_in (run_state s p).story.bus_state.dialogue c true)
        → are_talk (base_parts after) ≡ false
    go (crossed_out x f) =
        base_talk after ∙ ap (λ (y : OpenedValue). are_talk y.parts && are_talk y.since) f ∙ sym (base_talk o) ∙ z
    go (crossed_in x y f) = ap (λ (y : OpenedValue). are_talk (base_parts y)) f
        ∙ in_talk o (message_in (run_state s p).story.bus_state.dialogue c true) ∙ z
    go (crossed_status x y w f) =
        ap (λ (y : OpenedValue). are_talk (base_parts y)) f ∙ part_more o (Part.Status (c.after.data_bits % 256)) z
    go (crossed_else x y w f) =
        base_talk after ∙ ap (λ (y : OpenedValue). are_talk y.parts && are_talk y.since) f ∙ sym (base_talk o) ∙ z
stays_more s p row n g o after (made_turn ep none ef e) z =
    let c : Change = g.going.change in
    let half : List ℕ = (run_state s p).story.bus_state.dialogue.half in
    let end : List Part = if is_status_phase c.after then Part.StatusPhase ∷ [] else [] in
    ap (λ (x : OpenedValue). are_talk (base_parts x)) e ∙ ap are_talk (base_turned o c.before c.after half)
    ∙ talk_more ((parts_now o ++ broken_parts c.before half) ++ phase_parts o c.before true) end
    ∙ ap (λ (q : Bool). q && are_talk end)
    (talk_more (parts_now o ++ broken_parts c.before half) (phase_parts o c.before true) ∙ ap
    (λ (q : Bool). q && are_talk (phase_parts o c.before true)) (talk_more (parts_now o) (broken_parts c.before half)
    ∙ ap (λ (q : Bool). q && are_talk (broken_parts c.before half))
    (talk_more (base_parts o) (out_parts o.said) ∙ ap (λ (q : Bool). q && are_talk (out_parts o.said)) z)))

-- STATUS begins.
status_more : (o : OpenedValue) (c : Change) (half : List ℕ) → is_status_phase c.after ≡ true
    → are_talk (base_parts (phase_entered (phase_over o c.before half true) c.after)) ≡ false
status_more o c half e = ap are_talk (base_turned o c.before c.after half)
    ∙ ap (λ (q : Bool). are_talk (((parts_now o ++ broken_parts c.before half) ++ phase_parts o c.before true)
    ++ (if q then Part.StatusPhase ∷ [] else []))) e
    ∙ talk_more ((parts_now o ++ broken_parts c.before half) ++ phase_parts o c.before true) (Part.StatusPhase ∷ [])
    ∙ and_false (are_talk ((parts_now o ++ broken_parts c.before half) ++ phase_parts o c.before true))

status_lines : (b : LineSet) → phase_of b ≡ Phase.Status → is_status_phase b ≡ true
status_lines b e = go b.msg b.cd b.io (ap is_status e)
  where
    is_status : Phase → Bool
    is_status Phase.Status = true
    is_status _ = false

    go : (m d i : Bool) → is_status (if m then (if i then Phase.MessageIn else Phase.MessageOut)
        else if d then (if i then Phase.Status else Phase.Command) else if i then Phase.DataIn else Phase.DataOut)
        ≡ true → (not m && d && i) ≡ true
    go true d true z = wrong' z
    go true d false z = wrong' z
    go false true true z = refl
    go false true false z = wrong' z
    go false false true z = wrong' z
    go false false false z = wrong' z

-- ---- a connection begins

again_item : (b : Story) (n : Connection) → n.reselected ≡ true
    → is_some (item_of (story_after_connection b n).link) ≡ false
again_item b n re =
    ap (λ (q : Bool). is_some (item_of (if q then record b { link = Some (link_of n None) } else story_with_restored
    (story_with_sent (record b { link = Some (link_of n (aim_of b.aims n.initiator)) }) (aim_of b.aims n.initiator))
    (aim_of b.aims n.initiator)).link)) re

pub starts_item : (s : ScenarioValue) (p : List Row) (row : Row) (n : Connection) → Starts s p row n
    → n.reselected ≡ true → is_some (item_of (run_state s (row ∷ p)).story.link) ≡ false
starts_item s p row n h re =
    let k : RunState = run_state s p in
    let d : RowReading = row_reading k.story.bus_state row in
    ap (λ (x : Option Link). is_some (item_of x))
    (events_link s (story_by_change s k.story d row) (row_events_by s k.story d row))
    ∙ ap (λ (q : Bool). is_some (item_of (if q then record k.story { link = None }
    else story_on_bus s k.story k.story.bus_state.connection d.next d row).link)) h.off
    ∙ (λ i. is_some (item_of (story_on_bus s k.story (h.alone i) (h.next i) d row).link)) ∙ again_item k.story n re

no_name : {A : Type 0} (m : Messages) → m ≡ one_message MsgIn.CommandComplete → is_naming m.first ≡ true → A
no_name m e z = wrong' (sym (ap (λ (x : Messages). is_naming x.first) e) ∙ z)

not_status : (b : LineSet) → (is_message_in b ≡ true) ⊎ (is_message_out b ≡ true) → is_status_phase b ≡ false
not_status b (inl e) = go b.msg b.cd b.io e
  where
    go : (m d i : Bool) → (m && d && i) ≡ true → (not m && d && i) ≡ false
    go true d i z = refl
    go false d i z = wrong' z
not_status b (inr e) = go b.msg b.cd b.io e
  where
    go : (m d i : Bool) → (m && d && not i) ≡ true → (not m && d && i) ≡ false
    go true d i z = refl
    go false d i z = wrong' z

pub status_starts : (s : ScenarioValue) (p : List Row) (row : Row) (n : Connection) (o : OpenedValue)
    → Starts s p row n → (run_state s (row ∷ p)).exchange.begun ≡ n.reselected
    → (n.reselected ≡ true → Named s (run_state s (row ∷ p)) n) → StatusTalk (run_state s (row ∷ p)) o
status_starts s p row n o h begun named = record {
  status = λ b z. at_status (sym begun ∙ b) (named (sym begun ∙ b)) z;
  closes = λ b m w. at_closes (sym begun ∙ b) (named (sym begun ∙ b)) m;
}
  where
    j : RunState
    j = run_state s (row ∷ p)

    unknown : {A : Type 0} → n.reselected ≡ true → (l : Link) → j.story.link ≡ Some l → is_some l.item ≡ true → A
    unknown re l el some =
        wrong' (sym (ap (λ (x : Option Link). is_some (item_of x)) (sym el) ∙ starts_item s p row n h re) ∙ some)

    at_status : n.reselected ≡ true → Named s j n → is_status_phase (bus_of j) ≡ true → are_talk (base_parts o) ≡ false
    at_status re (known l el some nameless) z = unknown re l el some
    at_status re (said pr l naming here names all) z = wrong (sym z ∙ not_status (bus_of j) (inl here))
    at_status re (refused pr l naming here cause names) z = wrong (sym z ∙ not_status (bus_of j) (inr here))

    at_closes : n.reselected ≡ true → Named s j n → j.exchange.plan.messages ≡ one_message MsgIn.CommandComplete
        → are_talk (base_parts o) ≡ false
    at_closes re (known l el some nameless) m = unknown re l el some
    at_closes re (said pr l naming here names all) m =
        no_name j.exchange.plan.messages m (names_first pr l j.exchange.plan.messages j.handshakes.requests names)
    at_closes re (refused pr l naming here cause names) m =
        no_name j.exchange.plan.messages m (names_first pr l j.exchange.plan.messages 0 names)

-- ---- row by row

-- The messages that are planned stay while the phase does.
pub same_messages : (s : ScenarioValue) (p : List Row) (row : Row) (n : Connection) (g : Going s p row n)
    → changes_phase g.going.change ≡ false
    → (run_state s (row ∷ p)).exchange.plan.messages ≡ (run_state s p).exchange.plan.messages
same_messages s p row n g ep = go (is_some (receiver_in n c)) refl
  where
    k : RunState
    k = run_state s p

    c : Change
    c = g.going.change

    go : (now : Bool) → is_some (receiver_in n c) ≡ now
        → (run_state s (row ∷ p)).exchange.plan.messages ≡ k.exchange.plan.messages
    go true er = ap (λ (x : Exchange). x.plan.messages)
        (in_connection s k row n c false true (is_fault row.kind) g.going.goes.row_is ep er refl).exchange_is
        ∙ byte_messages (is_message_out c.before) (hearing_of k row (reading_in k.story.bus_state n c true)).is_last
        (hearing_of k row (reading_in k.story.bus_state n c true)).out k.exchange.plan
    go false er = ap (λ (x : Exchange). x.plan.messages)
        (in_connection s k row n c false false (is_fault row.kind) g.going.goes.row_is ep er refl).exchange_is
        ∙ struck (is_fault row.kind && not c.before.io)
      where
        struck : (q : Bool)
            → (if q then struck_plan k.exchange.plan else k.exchange.plan).messages ≡ k.exchange.plan.messages
        struck true = refl
        struck false = refl

pub status_row :
    (s : ScenarioValue) (p : List Row) (row : Row) (n : Connection) (g : Going s p row n) (o after : OpenedValue)
    → RowMade (run_state s p) row n g.going.change o after → StatusTalk (run_state s p) o
    → StatusTalk (run_state s (row ∷ p)) after
status_row s p row n g o after made h = by made
  where
    k : RunState
    k = run_state s p

    j : RunState
    j = run_state s (row ∷ p)

    c : Change
    c = g.going.change

    on : bus_of k ≡ c.before
    on = g.going.goes.row_is.bus_is

    stays : are_talk (base_parts o) ≡ false → are_talk (base_parts after) ≡ false
    stays z = stays_more s p row n g o after made z

    -- the phase goes on
    same : (now : Bool) → changes_phase c ≡ false → is_some (receiver_in n c) ≡ now → StatusTalk j after
    same now ep er =
        let i = in_connection s k row n c false now (is_fault row.kind) g.going.goes.row_is ep er refl in
        let lines = lines_same s p row n g ep in
        let plan : (j.exchange.plan.messages ≡ k.exchange.plan.messages)
        × (j.exchange.plan.cause ≡ k.exchange.plan.cause) =
        (same_messages s p row n g ep, ap (λ (x : Exchange). x.plan.cause) i.exchange_is ∙ cause now) in
        record {
          status = λ b z. stays (h.status (sym (begun_same s p row n g ep) ∙ b)
              ((λ t. not (sym lines.msg t) && sym lines.cd t && sym lines.io t) ∙ z));
          closes = λ b m w. stays (h.closes (sym (begun_same s p row n g ep) ∙ b) (sym plan.0 ∙ m) (elim w [
            | inl x ↦ inl (sym (in_same (bus_of k) (bus_of j) lines) ∙ x)
            | inr x ↦ inr (sym (out_same (bus_of k) (bus_of j) lines) ∙ x.0, sym plan.1 ∙ x.1)
          ]));
        }
      where
        cause : (q : Bool) → (if q then (if is_message_out c.before
            then plan_after_message k.exchange.plan (hearing_of k row (reading_in k.story.bus_state n c q)).is_last
            (hearing_of k row (reading_in k.story.bus_state n c q)).out else k.exchange.plan)
            else if is_fault row.kind && not c.before.io then struck_plan k.exchange.plan else k.exchange.plan).cause
            ≡ k.exchange.plan.cause
        cause true =
            said_cause (is_message_out c.before) (hearing_of k row (reading_in k.story.bus_state n c true)).is_last
          where
            said_cause : (q anew : Bool) → (if q then plan_after_message k.exchange.plan anew
                (hearing_of k row (reading_in k.story.bus_state n c true)).out else k.exchange.plan).cause
                ≡ k.exchange.plan.cause
            said_cause true true = refl
            said_cause true false = refl
            said_cause false anew = refl
        cause false = struck (is_fault row.kind && not c.before.io)
          where
            struck :
                (q : Bool) → (if q then struck_plan k.exchange.plan else k.exchange.plan).cause ≡ k.exchange.plan.cause
            struck true = refl
            struck false = refl

    -- another phase begins
    turned : changes_phase c ≡ true → is_some (receiver_in n c) ≡ false → is_fault row.kind ≡ false
        → after ≡ phase_entered (phase_over o c.before k.story.bus_state.dialogue.half true) c.after
        → StatusTalk j after
    turned ep none ef e = record {
      status = λ b z. ap (λ (x : OpenedValue). are_talk (base_parts x)) e
          ∙ status_more o c k.story.bus_state.dialogue.half (ap is_status_phase (sym i.bus_is) ∙ z);
      closes = λ b m w. stays (elim w [ inl x ↦ gives x m | inr x ↦ answers x.0 x.1 b m ]);
    }
      where
        i : InConnection s k row n c true false (is_fault row.kind)
        i = in_connection s k row n c true false (is_fault row.kind) g.going.goes.row_is ep none refl

        begun_before : (q : Bool) → k.exchange.begun ≡ q → is_message_in (bus_of j) ≡ true → k.exchange.begun ≡ true
        begun_before true b x = b
        begun_before false b x = not_both (bus_of j) x (ap is_message_out i.bus_is
            ∙ ap (λ (y : Change). is_message_out y.after) (sym g.going.goes.row_is.change_is)
            ∙ g.going.goes.first (ap changes_phase g.going.goes.row_is.change_is ∙ ep) b)

        -- MESSAGE IN follows
        gives : is_message_in (bus_of j) ≡ true → j.exchange.plan.messages ≡ one_message MsgIn.CommandComplete
            → are_talk (base_parts o) ≡ false
        gives x m = from (completes_from (serving_of s k n.target) (bus_of k).atn (phase_of (bus_of k)) to messages)
          where
            b : k.exchange.begun ≡ true
            b = begun_before k.exchange.begun refl x

            in_after : is_message_in c.after ≡ true
            in_after = ap is_message_in (sym i.bus_is) ∙ x

            left : leaving s k n.target ≡ phase_leaving (serving_of s k n.target) (bus_of k).atn (phase_of (bus_of k))
            left = λ t. leaving_by (serving_of s k n.target) (b t) (bus_of k)

            to : (phase_leaving (serving_of s k n.target) (bus_of k).atn (phase_of (bus_of k))).to
                ≡ Some Phase.MessageIn
            to = ap (λ (y : Leaving). y.to) (sym left) ∙ g.going.lines.whereto
                (ap changes_phase g.going.lines_are ∙ ep) (sym (plain_before s p row n g).begun ∙ b)
                ∙ ap (λ (y : Change). Some (phase_of y.after)) g.going.lines_are
                ∙ ap (λ (y : Phase). Some y) (in_phase c.after in_after)

            messages : (phase_leaving (serving_of s k n.target) (bus_of k).atn (phase_of (bus_of k))).messages
                ≡ one_message MsgIn.CommandComplete
            messages = ap (λ (y : Leaving). y.messages) (sym left)
                ∙ sym (ap (λ (y : Exchange). y.plan.messages) i.exchange_is
                ∙ ap (λ (x : Plan). x.messages) (plan_left (hearing_of k row (reading_in k.story.bus_state n c false))
                (leaving s k n.target) k.exchange.plan (out_in c.after in_after)))
                ∙ m

            from : Completes (serving_of s k n.target) (phase_of (bus_of k)) → are_talk (base_parts o) ≡ false
            from (in_status f) = h.status b (status_lines (bus_of k) f)
            from (refused_again f ec em) =
                h.closes b em (inr (out_lines (bus_of k) f (λ z. (g.going.goes.phase z).0), ec))

        -- MESSAGE OUT follows
        answers : is_message_out (bus_of j) ≡ true → j.exchange.plan.cause ≡ Cause.InMessage → j.exchange.begun ≡ true
            → j.exchange.plan.messages ≡ one_message MsgIn.CommandComplete → are_talk (base_parts o) ≡ false
        answers x ec bj m = h.closes f.0 whole (inl here)
          where
            f : (k.exchange.begun ≡ true) × (is_message_in c.before ≡ true)
            f = follows_in s p row n g ep none (record { begun = bj; here = x; cause = ec })

            here : is_message_in (bus_of k) ≡ true
            here = ap is_message_in on ∙ f.1

            l : Link
            l = (knows_before s p row n g).link

            out_after : is_message_out c.after ≡ true
            out_after = ap is_message_out (sym i.bus_is) ∙ x

            left : from_byte k.exchange.plan.messages (k.handshakes.requests - 1) ≡ one_message MsgIn.CommandComplete
            left = sym (ap (λ (y : Exchange). y.plan.messages) i.exchange_is
                ∙ ap (λ (x : Plan). x.messages) (plan_out (hearing_of k row (reading_in k.story.bus_state n c false))
                (leaving s k n.target) k.exchange.plan out_after f.0)
                ∙ ap (λ (q : Bool). if q then from_byte k.exchange.plan.messages (k.handshakes.requests - 1)
                else k.exchange.plan.messages) f.1) ∙ m

            given : IsServed s k n → LastGiven l k.exchange.plan.messages k.exchange.plan.next k.handshakes.requests
            given (of_process id pr is y) = subst (λ (y : Phase). LastBy l k.exchange.plan
                k.handshakes.requests k.story.bus_state.dialogue.is_last y) (in_phase (bus_of k) here)
                (((g.was.facts.last n g.stands g.calm).0 l id (knows_before s p row n g).link_is is).begun f.0)
            given (of_abort m' a is v w y re phase) =
                not_both (bus_of k) here (out_lines (bus_of k) (phase f.0).0 (λ z. (g.going.goes.phase z).0))

            whole : k.exchange.plan.messages ≡ one_message MsgIn.CommandComplete
            whole = left_alone l k.exchange.plan.messages k.exchange.plan.next k.handshakes.requests
                (k.handshakes.requests - 1) (given (g.was.facts.served n g.stands g.calm)) left

    by : RowMade k row n c o after → StatusTalk j after
    by (made_still ep none e) = same false ep none
    by (made_crossing dev ep er e) = same true ep (ap (λ (x : Option ℕ). is_some x) er)
    by (made_turn ep none ef e) = turned ep none ef e
