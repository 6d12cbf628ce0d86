-- The code of the failure of the process that is served goes on with each row in which a phase stays.
use Rattle.trace_laws.proofs
use proofs.Names.{inl, inr, ℕ, ◌≡◌, ◌⊎◌, Bool, true, false, ◌∙◌, List, Some, None, refl, sym, ap, subst, same_Some}
use proofs.Names.{if◌then◌else◌, is_some, wrong, wrong', ProcId, LineSet, changes_phase, is_fault, receiver_in, Kind}
use proofs.Names.{Drives, Fault, Row, Change, Connection, ScenarioValue, CarriedBytes, carried_of, carried_if, process}
use proofs.Names.{Link, story_after_fault, story_with_carried, carried_after_fault_if, Exchange, phase_of, Phase, Plan}
use proofs.Names.{RunState, bus_of, carried_here, run_state_after, is_message, InConnection, in_connection, IsRowIn}
use proofs.Names.{is_marked, UndoesAnswers, link_still, same_phase_of, answers_stay, FailsBy, FailTalk}
use proofs.Failures.{Bytes.{SameFail, clear_as, row_carries, still_fails}, Faults.{CrossedHere, Struck, fault_fails}}
use proofs.Failures.Rows.{fails_as, plan_struck, IsLine, fails_struck}

pub record FailRow (s : ScenarioValue) (k : RunState) (row : Row) (n : Connection) (c : Change) (l : Link)
    (id : ProcId) : Type 0 where
  pub row_is : IsRowIn k row n c
  pub link_is : k.story.link ≡ Some l
  pub item_is : (l.item ≡ Some (process id)) ⊎ ((l.item ≡ None) × (is_message (phase_of (bus_of k)) ≡ true))
  pub undoes : UndoesAnswers k row

pub count_as : (l : Link) (c : CarriedBytes) (a : Plan) (words : List ℕ) (count other : ℕ) (phase : Phase)
    → (phase ≡ Phase.MessageIn → other ≡ count) → FailsBy l c a words count phase → FailsBy l c a words other phase
count_as l c a words count other Phase.MessageIn e h =
    subst (λ (x : ℕ). FailsBy l c a words x Phase.MessageIn) (sym (e refl)) h
count_as l c a words count other _ e h = h

line_of : (b : LineSet) → IsLine b.io (phase_of b)
line_of b = go b.msg b.cd b.io
  where
    go : (m d i : Bool) → IsLine i (if m then (if i then Phase.MessageIn else Phase.MessageOut)
        else if d then (if i then Phase.Status else Phase.Command) else if i then Phase.DataIn else Phase.DataOut)
    go true d true = refl
    go true d false = refl
    go false true true = refl
    go false true false = refl
    go false false true = refl
    go false false false = refl

-- ---- lines change

pub still_fail : (s : ScenarioValue) (k : RunState) (row : Row) (n : Connection) (c : Change) (l m : Link) (id : ProcId)
    → FailRow s k row n c l id → is_fault row.kind ≡ false → changes_phase c ≡ false
    → is_some (receiver_in n c) ≡ false → (run_state_after s k row).story.link ≡ Some m
    → (phase_of (bus_of k) ≡ Phase.MessageIn → (run_state_after s k row).handshakes.requests ≡ k.handshakes.requests)
    → FailTalk k l (carried_here k id)
    → FailTalk (run_state_after s k row) m (carried_here (run_state_after s k row) id)
still_fail s k row n c l m id g ef ep en em asked h =
    subst (λ (x : Link). FailTalk j x d) (same_Some l m (sym (link_still s k row n c l g.row_is en g.link_is) ∙ em))
    (record {
      unbegun = λ b. let w = h.unbegun (sym begun ∙ b) in (clear_as own d same w.0, w.1);
      begun =
          λ b. subst (λ (x : Exchange). FailsBy l d x.plan x.speech.words j.handshakes.requests (phase_of (bus_of j)))
          (sym i.exchange_is) (subst (FailsBy l d k.exchange.plan k.exchange.speech.words j.handshakes.requests)
          (sym phase) (count_as l d k.exchange.plan k.exchange.speech.words k.handshakes.requests j.handshakes.requests
          (phase_of (bus_of k)) asked (fails_as l own d k.exchange.plan k.exchange.speech.words k.handshakes.requests
          (phase_of (bus_of k)) same answer (h.begun (sym begun ∙ b)))));
    })
  where
    j : RunState
    j = run_state_after s k row

    own : CarriedBytes
    own = carried_here k id

    d : CarriedBytes
    d = carried_here j id

    i : InConnection s k row n c false false false
    i = in_connection s k row n c false false false g.row_is ep en ef

    begun : j.exchange.begun ≡ k.exchange.begun
    begun = ap (λ (x : Exchange). x.begun) i.exchange_is

    phase : phase_of (bus_of j) ≡ phase_of (bus_of k)
    phase = ap phase_of i.bus_is ∙ same_phase_of c ep ∙ ap phase_of (sym g.row_is.bus_is)

    same : SameFail own d
    same = still_fails s k row n c l g.row_is en g.link_is ef id

    answer : is_marked d ≡ is_marked own
    answer = answers_stay s k row n c false l g.row_is en g.link_is g.undoes (λ z. wrong' (sym ep ∙ z)) id

-- ---- a fault strikes

message_struck : (c d : CarriedBytes) (phase : Phase) → is_message phase ≡ true → SameFail c d → Struck c d phase
message_struck c d Phase.MessageOut e h = h
message_struck c d Phase.MessageIn e h = h
message_struck c d _ e h = wrong' e

pub struck_fail :
    (s : ScenarioValue) (k : RunState) (row : Row) (n : Connection) (c : Change) (l m : Link) (id : ProcId)
    → FailRow s k row n c l id → is_fault row.kind ≡ true → changes_phase c ≡ false
    → is_some (receiver_in n c) ≡ false → is_some k.story.bus_state.crossed ≡ true
    → CrossedHere k → (run_state_after s k row).story.link ≡ Some m → k.exchange.begun ≡ true
    → (phase_of (bus_of k) ≡ Phase.MessageIn → (run_state_after s k row).handshakes.requests ≡ k.handshakes.requests)
    → FailTalk k l (carried_here k id)
    → FailTalk (run_state_after s k row) m (carried_here (run_state_after s k row) id)
struck_fail s k row n c l m id g ef ep en some here em bk asked h =
    subst (λ (x : Link). FailTalk j x d) (same_Some l m (sym (link_still s k row n c l g.row_is en g.link_is) ∙ em))
    (record {
      unbegun = λ b. wrong (sym (begun ∙ bk) ∙ b);
      begun = λ b. subst (λ (x : Exchange). FailsBy l d x.plan x.speech.words j.handshakes.requests
          (phase_of (bus_of j))) (sym i.exchange_is)
          (subst (FailsBy l d (plan_struck c.before.io k.exchange.plan) k.exchange.speech.words j.handshakes.requests)
          (sym phase) (count_as l d (plan_struck c.before.io k.exchange.plan) k.exchange.speech.words
          k.handshakes.requests j.handshakes.requests (phase_of (bus_of k)) asked (fails_struck l own d
          k.exchange.plan k.exchange.speech.words k.handshakes.requests c.before.io (phase_of (bus_of k))
          (subst (λ (x : LineSet). IsLine x.io (phase_of (bus_of k))) g.row_is.bus_is (line_of (bus_of k)))
          (struck g.item_is) answer (h.begun bk))));
    })
  where
    j : RunState
    j = run_state_after s k row

    own : CarriedBytes
    own = carried_here k id

    d : CarriedBytes
    d = carried_here j id

    i : InConnection s k row n c false false true
    i = in_connection s k row n c false false true g.row_is ep en ef

    begun : j.exchange.begun ≡ k.exchange.begun
    begun = ap (λ (x : Exchange). x.begun) i.exchange_is

    phase : phase_of (bus_of j) ≡ phase_of (bus_of k)
    phase = ap phase_of i.bus_is ∙ same_phase_of c ep ∙ ap phase_of (sym g.row_is.bus_is)

    answer : is_marked d ≡ is_marked own
    answer = answers_stay s k row n c false l g.row_is en g.link_is g.undoes (λ z. wrong' (sym ep ∙ z)) id

    unknown : l.item ≡ None → SameFail own d
    unknown e = subst (λ (x : CarriedBytes). SameFail x d) (go row.kind)
        (row_carries s k row n c false l g.row_is en g.link_is id)
      where
        go : (kind : Kind) → carried_of (story_after_fault k.story l kind).carried id ≡ own
        go (Drives lines) = refl
        go (Fault bit) = λ z. carried_of (story_with_carried k.story
            (carried_after_fault_if (carried_if k.story (e z)) k.story.bus_state.crossed)).carried id

    struck : (l.item ≡ Some (process id)) ⊎ ((l.item ≡ None) × (is_message (phase_of (bus_of k)) ≡ true))
        → Struck own d (phase_of (bus_of k))
    struck (inl e) = fault_fails s k row n c l id g.row_is en g.link_is e ef some here
    struck (inr e) = message_struck own d (phase_of (bus_of k)) e.1 (unknown e.0)
