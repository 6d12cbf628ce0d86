-- In the connection of an abort nothing but messages comes, and none was said before its opening.
use Rattle.transcript_laws.proofs
use proofs.Names.{ℕ, ◌≡◌, ◌∙◌, Bool, true, false, List, [], ◌∷◌, ◌++◌, Option, Some, None, refl, sym, ap, is_some}
use proofs.Names.{wrong', LineSet, changes_phase, is_command, is_message_in, is_message_out, is_fault, receiver_in}
use proofs.Names.{Change, Connection, Row, ScenarioValue, abort, Cause, run_state_plain, IsPlain, RunState, bus_of}
use proofs.Names.{run_state, InConnection, in_connection, is_selected, connected_bus, ends_selected, in_out, out_lines}
use proofs.Names.{out_no_status, stage_of_connection, link_phase, link_unbegun, IsServed, OpenedValue, phase_entered}
use proofs.{Names.{phase_over, are_talk, base_parts}, Fits.Turns.{not_both}, Opened.Bytes.{begun_crossing}}
use proofs.Opened.{Facts.{OpenedAll}, Rows.{Going, RowMade, made_still, made_crossing, made_turn, plain_before}}
use proofs.Said.{Facts.{outs_same, outs_turned, opened_turned, first_out, unsaid_same, first_talk}, Naming.{outs_of}}
use Rattle.progress_laws.specs.row_laws.specs.Tells.{of_process, of_abort}

pub record IsUnsaid (o : OpenedValue) : Type 0 where
  pub outs : outs_of (base_parts o) ≡ []
  pub talk : are_talk (base_parts o) ≡ true

abbrev pub AbortTalk : RunState → OpenedValue → Type 0
AbortTalk k o = (m : ℕ) → k.served ≡ Some (abort m) → IsUnsaid o

pub abort_row :
    (s : ScenarioValue) (p : List Row) (row : Row) (n : Connection) (g : Going s p row n) (o after : OpenedValue)
    → RowMade (run_state s p) row n g.going.change o after → OpenedAll (run_state s p) n o → AbortTalk (run_state s p) o
    → AbortTalk (run_state s (row ∷ p)) after
abort_row s p row n g o after made h was m sv = by made
  where
    k : RunState
    k = run_state s p

    j : RunState
    j = run_state s (row ∷ p)

    c : Change
    c = g.going.change

    on : bus_of k ≡ c.before
    on = g.going.goes.row_is.bus_is

    i : InConnection s k row n c (changes_phase c) (is_some (receiver_in n c)) (is_fault row.kind)
    i = in_connection s k row n c (changes_phase c) (is_some (receiver_in n c))
        (is_fault row.kind) g.going.goes.row_is refl refl refl

    served : k.served ≡ Some (abort m)
    served = sym i.served_is ∙ sv

    u : IsUnsaid o
    u = was m served

    selected_lines : k.exchange.begun ≡ false → bus_of k ≡ connected_bus ends_selected
    selected_lines b =
        (plain_before s p row n g).bus ∙ link_unbegun s p n g.link.stage (sym (plain_before s p row n g).begun ∙ b)

    -- once a phase has begun it is MESSAGE OUT
    out : k.exchange.begun ≡ true → is_message_out (bus_of k) ≡ true
    out b = go (g.was.facts.served n g.stands g.calm)
      where
        go : IsServed s k n → is_message_out (bus_of k) ≡ true
        go (of_process id pr e f) = not_both id m (sym e ∙ served)
        go (of_abort x a e f y z re phase) = out_lines (bus_of k) (phase b).0 (λ q. (g.going.goes.phase q).0)

    -- and that of the opening
    opening : (x : RunState) → IsServed s x n → x.served ≡ Some (abort m) → x.exchange.begun ≡ true
        → x.exchange.plan.cause ≡ Cause.Selected
    opening x (of_process id pr e f) y b = not_both id m (sym e ∙ y)
    opening x (of_abort q a e f y z re phase) w b = (phase b).1

    out_after : j.exchange.begun ≡ true → is_message_out (bus_of j) ≡ true
    out_after b = go (g.now.facts.served n g.after g.calm_after)
      where
        ql : IsPlain s (row ∷ p) j
        ql = run_state_plain s (row ∷ p) g.now.stood.standing.devices

        phase_is : (bus_of j).msg ≡ true → (bus_of j).cd ≡ true
        phase_is z = ap (λ (x : LineSet). x.cd) ql.bus
            ∙ (link_phase s (row ∷ p) n (stage_of_connection s (row ∷ p) n g.now.stood g.after g.calm_after)
            (ap (λ (x : LineSet). x.msg) (sym ql.bus) ∙ z)).0

        go : IsServed s j n → is_message_out (bus_of j) ≡ true
        go (of_process id pr e f) = not_both id m (sym e ∙ sv)
        go (of_abort x a e f y z re phase) = out_lines (bus_of j) (phase b).0 phase_is

    no_in : (b : Bool) → k.exchange.begun ≡ b → is_message_in c.before ≡ false
    no_in true b = in_out c.before (ap is_message_out (sym on) ∙ out b)
    no_in false b = ap is_message_in (sym on) ∙ ap is_message_in (selected_lines b)

    crossing : (x : Option ℕ) → receiver_in n c ≡ x → is_some (receiver_in n c) ≡ true → is_message_out c.before ≡ true
    crossing None e er = wrong' (sym (ap (λ (y : Option ℕ). is_some y) e) ∙ er)
    crossing (Some dev) e er = ap is_message_out (sym on) ∙ out (begun_crossing s p row n g dev e)

    same : changes_phase c ≡ false → IsUnsaid after
    same ep = record {
      outs = outs_same k row n c o after made ep ∙ u.outs;
      talk = unsaid_same s p row n g o after made ep (no_in k.exchange.begun refl)
          (λ er. crossing (receiver_in n c) refl er) ∙ u.talk;
    }

    turn : changes_phase c ≡ true → is_some (receiver_in n c) ≡ false
        → after ≡ phase_entered (phase_over o c.before k.story.bus_state.dialogue.half true) c.after
        → (b : Bool) → k.exchange.begun ≡ b → IsUnsaid after
    turn ep none e true b =
        let w = opened_turned s p row n g ep none b in
        wrong' (sym (w.cause (out_after w.begun))
        ∙ ap is_selected (opening j (g.now.facts.served n g.after g.calm_after) sv w.begun))
    turn ep none e false b =
        let first = first_out s p row n g ep none b in
        let silent : o.said ≡ [] = h.bytes.said (ap is_message_out (selected_lines b)) in
        record {
          outs = outs_turned o after c k.story.bus_state.dialogue.half e ∙ (λ t. u.outs t ++ silent t);
          talk = first_talk o after c k.story.bus_state.dialogue.half e
              (ap is_command (sym on) ∙ ap is_command (selected_lines b)) (no_in false b)
              (h.bytes.unbegun b) (out_no_status c.after (ap is_message_out (sym i.bus_is) ∙ first.0))
              ∙ u.talk;
        }

    by : RowMade k row n c o after → IsUnsaid after
    by (made_still ep none e) = same ep
    by (made_crossing dev ep er e) = same ep
    by (made_turn ep none ef e) = turn ep none e k.exchange.begun refl
