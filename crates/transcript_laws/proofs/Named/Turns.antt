-- After a reselection the messages of the target tell the names of the process that it serves, as a phase is left
-- (6.2.1, 6.6.7, 6.6.13).
use Rattle.transcript_laws.proofs
use proofs.Names.{ℕ, ◌≡◌, ◌∙◌, Bool, true, false, not, List, [], ◌∷◌, ◌++◌, Option, Some, None, refl, sym, ap, subst}
use proofs.Names.{◌-◌, ◌==◌, is_some, if◌then◌else◌, wrong, wrong', LineSet, changes_phase, is_message_in}
use proofs.Names.{is_message_out, is_fault, receiver_in, Change, Connection, Row, Handshakes, out_bytes, MsgIn, MsgOut}
use proofs.Names.{is_nil, Dialogue, ScenarioValue, policy_of, Exchange, from_byte, plan_anew, Serving, phase_of}
use proofs.Names.{phase_entry, phase_leaving, message_repetition, message_out_leaving, after_messages, next_data_phase}
use proofs.Names.{with_task, Cause, Leaving, Messages, Next, Phase, Plan, Said, Task, RunState, bus_of, run_state}
use proofs.Names.{serving_of, hearing_of, leaving, InConnection, in_connection, OnMessages, LeavesWhole, is_out_phase}
use proofs.Names.{is_in_phase, IsNoName, reading_in, in_phase, out_phase, in_out, out_in, plan_left, by_bool}
use proofs.Names.{stage_of_connection, link_phase, is_in_message, IsHeardOut, repeats, answers_it, detects, is_detected}
use proofs.Names.{is_command_next, in_lines, refusal_is, all_said, parity_said, left_is, out_by_phase, turn_handshakes}
use proofs.{Names.{no_summary, OpenedValue, phase_entered, phase_over, is_void, base_parts}, Held.Since.{IsHeardIn}}
use proofs.{Held.Since.{IsAnswering, follows_in}, Named.Heard.{ins_of, heard_names, AreNames, Says, Repeats}}
use proofs.Named.{Heard.{says_again, names_said, repeats_from, repeats_name, settled_half}, Parts.{ins_held}}
use proofs.Named.{Parts.{base_names, turned_names, in_turned, void_turned}, Rows.{AreTold, AgainNames, saying, refused}}
use proofs.{Named.Rows.{known, told_now}, Opened.{Facts.{OpenedAll}, Rows.{Going, plain_before}}, Said.Facts.{Speaking}}
use proofs.{Said.{Facts.{IsOpened}, Out.{said_one}, Words.{said_of}}, Talks.Named.{known_plan}}
use Rattle.due_model.specs.array_model.specs.Processes.{Process}
use Rattle.progress_laws.specs.row_laws.specs.Offers.{opens}

-- ---- how MESSAGE IN and MESSAGE OUT are left

-- After the names the target says none.
after_names : (v : Serving) → OnMessages IsNoName (after_messages v Next.GoOn).messages
after_names v = go v.task
  where
    go : (t : Option Task)
        → OnMessages IsNoName (with_task t (λ t. phase_entry (next_data_phase (policy_of v.def) t t.runs))).messages
    go None = (tt, tt)
    go (Some t) = (tt, tt)

-- Names are answered by MESSAGE PARITY ERROR alone.
says_error : (k : RunState) → IsHeardOut k.exchange k.story.bus_state.dialogue → k.exchange.plan.cause ≡ Cause.InMessage
    → k.exchange.plan.next ≡ Next.GoOn → k.exchange.speech.words ≡ out_bytes MsgOut.ParityError
says_error k (opens e ao av v q) c next = wrong' (ap is_in_message (sym e ∙ c))
says_error k (repeats before e one w q) c next = one.words_are
says_error k (answers_it a e command one q) c next = wrong (ap is_command_next (sym command ∙ next))
says_error k (detects e one q) c next = wrong' (sym (ap is_detected c) ∙ e)

-- ---- as another phase begins

pub again_turn : (s : ScenarioValue) (p : List Row) (row : Row)
    (n : Connection) (g : Going s p row n) (o after : OpenedValue) (q : Process)
    → changes_phase g.going.change ≡ true → is_some (receiver_in n g.going.change) ≡ false → is_fault row.kind ≡ false
    → after ≡ phase_entered
    (phase_over o g.going.change.before (run_state s p).story.bus_state.dialogue.half true) g.going.change.after
    → OpenedAll (run_state s p) n o → Speaking s (run_state s p) n o → IsOpened (run_state s p) → ins_of o.since ≡ []
    → ins_of after.since ≡ [] → AgainNames q (run_state s p) o → AgainNames q (run_state s (row ∷ p)) after
again_turn s p row n g o after q ep none ef e all sp op since since' was = by was
  where
    k : RunState
    k = run_state s p

    j : RunState
    j = run_state s (row ∷ p)

    c : Change
    c = g.going.change

    half : List ℕ
    half = k.story.bus_state.dialogue.half

    l : Leaving
    l = leaving s k n.target

    i : InConnection s k row n c true false (is_fault row.kind)
    i = in_connection s k row n c true false (is_fault row.kind) g.going.goes.row_is ep none refl

    on : bus_of k ≡ c.before
    on = g.going.goes.row_is.bus_is

    leaves : LeavesWhole s k n
    leaves = g.going.goes.leaves (ap changes_phase g.going.goes.row_is.change_is ∙ ep)

    no_requests : j.handshakes.requests ≡ 0
    no_requests = ap (λ (x : Handshakes). x.requests) (turn_handshakes s k row n c g.going.goes ep ef)

    no_half : j.story.bus_state.dialogue.half ≡ []
    no_half = ap (λ (x : Dialogue). x.half) i.dialogue_is

    -- no byte has crossed in the new phase
    fresh : {A : Type 0} → IsHeardIn j → A
    fresh z = wrong' (sym z.some ∙ ap (λ (x : ℕ). x == 0) no_requests)

    there : c.after.msg ≡ true → c.after.cd ≡ true
    there z = ap (λ (x : Change). x.after.cd) g.going.change_is
        ∙ (link_phase s (row ∷ p) n (stage_of_connection s (row ∷ p) n g.now.stood g.after g.calm_after)
        (ap (λ (x : Change). x.after.msg) (sym g.going.change_is) ∙ z)).0

    whereto : l.to ≡ Some (phase_of c.after)
    whereto = g.going.lines.whereto (ap changes_phase g.going.lines_are ∙ ep)
        (sym (plain_before s p row n g).begun ∙ op.begun)
        ∙ ap (λ (x : Change). Some (phase_of x.after)) g.going.lines_are

    left : l ≡ phase_leaving (serving_of s k n.target) c.before.atn (phase_of c.before)
    left = left_is s k n c on op.begun

    -- the plan after it
    entered : is_message_out c.after ≡ false
        → j.exchange.plan ≡ record (plan_anew k.exchange.plan) { messages = l.messages; next = l.next }
    entered x = ap (λ (y : Exchange). y.plan) i.exchange_is
        ∙ plan_left (hearing_of k row (reading_in k.story.bus_state n c false)) l k.exchange.plan x

    asked : is_message_out c.after ≡ true → is_message_in c.before ≡ true
        → j.exchange.plan ≡ record (plan_anew k.exchange.plan) {
          cause = Cause.InMessage;
          messages = from_byte k.exchange.plan.messages (k.handshakes.requests - 1);
        }
    asked x y = ap (λ (v : Exchange). v.plan) i.exchange_is
        ∙ (λ t. if not (x t) then record (plan_anew k.exchange.plan) { messages = l.messages; next = l.next }
        else if op.begun t then record (plan_anew k.exchange.plan) {
          cause =
              if y t then Cause.InMessage else if c.before.cd then Cause.InStatus else Cause.InData;
          messages =
              if y t then from_byte k.exchange.plan.messages (k.handshakes.requests - 1) else k.exchange.plan.messages;
        } else plan_anew k.exchange.plan)

    all_names : ins_of after.parts ++ ins_held after ≡ ins_of (base_parts o)
    all_names = turned_names o after c.before c.after half e since'

    -- ---- MESSAGE IN is left

    silent : is_message_in c.before ≡ true → o.said ≡ []
    silent y = all.bytes.said (ap is_message_out on ∙ out_in c.before y)

    in_parts : is_message_in c.before ≡ true → ins_of after.parts ≡ settled_half (ins_of o.parts) (ins_held o) half
    in_parts y = in_turned o after c.before c.after half e y (silent y) since

    refuses : is_message_in c.before ≡ true → k.exchange.plan.next ≡ Next.GoOn
        → Says q k.exchange.plan.messages k.handshakes.requests half (ins_of o.parts) (ins_held o)
        → is_message_out c.after ≡ true → AgainNames q j after
    refuses y en says x =
        let plan = asked x y in
        refused (ap (λ (v : Plan). v.next) plan ∙ en) (ap is_message_out i.bus_is ∙ x) (ap (λ (v : Plan). v.cause) plan)
        (subst (λ (v : Messages). Repeats q v (ins_of after.parts)) (sym (ap (λ (v : Plan). v.messages) plan))
        (subst (λ (v : List MsgIn). Repeats q (from_byte k.exchange.plan.messages (k.handshakes.requests - 1)) v)
        (sym (in_parts y)) (repeats_from q k.exchange.plan.messages k.handshakes.requests half (ins_of o.parts)
        (ins_held o) (leaves.some (ap phase_of on ∙ in_phase c.before y)) says)))

    tells : is_message_in c.before ≡ true → k.exchange.plan.next ≡ Next.GoOn
        → Says q k.exchange.plan.messages k.handshakes.requests half (ins_of o.parts) (ins_held o)
        → is_message_out c.after ≡ false → (a : Bool) → c.before.atn ≡ a → AgainNames q j after
    tells y en says x true a =
        wrong (sym (sym (out_by_phase c.after there) ∙ ap goes_out (sym whereto ∙ ap (λ (z : Leaving). z.to)
        (left ∙ (λ t. phase_leaving (serving_of s k n.target) (a t) (in_phase c.before y t)))) ∙ refl_out) ∙ x)
      where
        goes_out : Option Phase → Bool
        goes_out None = false
        goes_out (Some v) = is_out_phase v

        refl_out : goes_out (phase_leaving (serving_of s k n.target) true Phase.MessageIn).to ≡ true
        refl_out = refl
    tells y en says x false a =
        let full = leaves.given (ap phase_of on ∙ in_phase c.before y) (ap (λ (z : LineSet). z.atn) on ∙ a) in
        let is : l ≡ after_messages (serving_of s k n.target) Next.GoOn = left
        ∙ (λ t. phase_leaving (serving_of s k n.target) (a t) (in_phase c.before y t))
        ∙ ap (after_messages (serving_of s k n.target)) en in
        known (subst (λ (z : Messages). OnMessages IsNoName z)
        (sym (ap (λ (z : Plan). z.messages) (entered x) ∙ ap (λ (z : Leaving). z.messages) is))
        (after_names (serving_of s k n.target))) (record {
          full = subst (λ (v : List MsgIn). AreNames (heard_names no_summary v) q)
              (sym (all_names ∙ base_names o since (ap is_void (silent y)))) (names_said q k.exchange.plan.messages
              k.handshakes.requests half (ins_of o.parts) (ins_held o) full says);
          heard = λ z. fresh z;
          answered = λ z. wrong (sym z.here ∙ ap is_message_out i.bus_is ∙ x);
        })

    -- ---- MESSAGE OUT is left

    repeated : is_message_out c.before ≡ true → k.exchange.plan.next ≡ Next.GoOn
        → k.exchange.plan.cause ≡ Cause.InMessage → Repeats q k.exchange.plan.messages (ins_of o.parts)
        → AgainNames q j after
    repeated x en ec repeats_here =
        let here : is_message_out (bus_of k) ≡ true = ap is_message_out on ∙ x in
        let last = leaves.out (ap phase_of on ∙ out_phase c.before x) in
        let error = says_error k ((g.was.facts.offers n g.stands g.calm).out op.begun here) ec en in
        let said : o.said ≡ MsgOut.ParityError ∷ [] = all.words.whole here last
        ∙ ap (λ (y : List ℕ). said_of [] y) error ∙ said_one MsgOut.ParityError tt in
        let offer : k.exchange.plan.said.offer ≡ None = ap (λ (z : Said). z.offer)
        (all_said k.exchange k.story.bus_state.dialogue _ (sp.speaks op.begun here).heard last error ∙ parity_said) in
        let is : l ≡ message_repetition k.exchange.plan = left
        ∙ ap (λ (z : Phase). phase_leaving (serving_of s k n.target) c.before.atn z) (out_phase c.before x)
        ∙ ap (λ z. message_out_leaving (serving_of s k n.target) z) ec ∙ refusal_is
        (serving_of s k n.target) offer (repeats_name q k.exchange.plan.messages (ins_of o.parts) repeats_here) in
        let into : is_message_in c.after ≡ true = in_lines c.after there
        (ap goes_in (sym whereto ∙ ap (λ (z : Leaving). z.to) is)) in
        let plan = entered (out_in c.after into)
        ∙ (λ t. record (plan_anew k.exchange.plan) { messages = (is t).messages; next = (is t).next }) in
        let parts = void_turned o after c.before c.after half e (in_out c.before x) said since in
        saying (ap (λ (z : Plan). z.next) plan ∙ en) (ap is_message_in i.bus_is ∙ into)
        (says_again q j.exchange.plan.messages (ins_of after.parts)
        (ins_held after) j.story.bus_state.dialogue.half j.handshakes.requests
        (subst (λ (v : Messages). Repeats q v (ins_of after.parts)) (sym (ap (λ (z : Plan). z.messages) plan))
        (subst (λ (v : List MsgIn). Repeats q k.exchange.plan.messages v) (sym parts.0) repeats_here)) no_requests
        no_half parts.1)
      where
        goes_in : Option Phase → Bool
        goes_in None = false
        goes_in (Some v) = is_in_phase v

    -- ---- no names follow

    stay : OnMessages IsNoName k.exchange.plan.messages → AreTold q k o → AgainNames q j after
    stay nameless t = known (known_plan s p row n g true false ep none nameless) (record {
      full = subst (λ (v : List MsgIn). AreNames (heard_names no_summary v) q) (sym all_names)
          (told_now s q k n o sp op since t);
      heard = λ z. fresh z;
      answered = λ z. answered z (is_nil half) refl;
    })
      where
        nil_half : (xs : List ℕ) → is_nil xs ≡ true → xs ≡ []
        nil_half [] w = refl
        nil_half (x ∷ xs) w = wrong' w

        answered : IsAnswering j → (r : Bool) → is_nil half ≡ r
            → AreNames (heard_names no_summary (ins_of after.parts)) q
        answered z true r =
            let f = follows_in s p row n g ep none z in
            let here : is_message_in (bus_of k) ≡ true = ap is_message_in on ∙ f.1 in
            subst (λ (v : List MsgIn). AreNames (heard_names no_summary v) q)
            (sym (in_parts f.1 ∙ ap (λ (x : Bool). if x then ins_of o.parts else ins_of o.parts ++ ins_held o) r))
            (t.heard (record {
              begun = f.0;
              here = here;
              some = leaves.some (in_phase (bus_of k) here);
              half = nil_half half r;
            }))
        answered z false r =
            let f = follows_in s p row n g ep none z in
            subst (λ (v : List MsgIn). AreNames (heard_names no_summary v) q) (sym
            (in_parts f.1 ∙ ap (λ (x : Bool). if x then ins_of o.parts else ins_of o.parts ++ ins_held o) r)) t.full

    by : AgainNames q k o → AgainNames q j after
    by (saying en here says) =
        by_bool (is_message_out c.after)
        (λ x. refuses y en says x)
        (λ x. tells y en says x c.before.atn refl)
      where
        y : is_message_in c.before ≡ true
        y = ap is_message_in (sym on) ∙ here
    by (refused en here ec repeats_here) = repeated (ap is_message_out (sym on) ∙ here) en ec repeats_here
    by (known nameless t) = stay nameless t
