-- A command of a prompt trace that has ended is without the sense of its CHECK CONDITION only where its automatic
-- REQUEST SENSE was stopped (7.8).
use Rattle.delivery_laws.proofs
use proofs.Names.{ℕ, ◌≡◌, Bool, true, false, ◌&&◌, ◌||◌, ◌∙◌, List, [], ◌∷◌, Option, Some, None, refl, sym, ap, subst}
use proofs.Names.{inl, inr, and_from, eqb-true, eq-eqb, or_left, cases_Bool, if◌then◌else◌, ◌==◌, is_some, eq_self}
use proofs.Names.{wrong, wrong', Event, ProcId, Row, Sense, CHECK_CONDITION, GOOD, QUEUE_FULL, ScenarioValue, Obeys}
use proofs.Names.{CmdDef, array_after, reply_of, command_at, same_id, Array, command_id, has_item, sense_id, sense_item}
use proofs.Names.{Outcome, ended_check, ended_full, ended_good, ending_of, has_end, is_end_of, outcome_if, outcome_of}
use proofs.Names.{reply_bytes, reply_bytes_if, sense_in, sense_of_end, Ending, Story, by_abort, by_loss, by_reset}
use proofs.Names.{by_status, unanswered, story, prompt_plain, IsEnded, IsPrompt, IsPlain, RunState, array_of, or_start}
use proofs.Names.{run_state, Items, whole, WantsAreItems, Indebted, indebted, AreUnwanted, sense_wanted, Joined}
use proofs.Names.{free_when_ended, joined, unwanted_when_ended, all_joined, has_sense_stop, has_status, is_status_of}
use proofs.{Outcomes.Delivered.{HaveCauses}, Replies.{Checks.{IsChecked, checks_stand}, Ends.{HasReply, all_ended}}}
use proofs.Replies.{Ends.{end_found, end_reply}, Senses.{AreTold, all_told, is_filled, is_known}}

-- ---- the ending behind a CHECK CONDITION without sense

record Senseless (s : ScenarioValue) (h : List Event) (m : ℕ) (o : Option Ending) : Type 0 where
  status : ℕ
  ending_is : o ≡ Some (by_status status)
  bad : (status == GOOD) ≡ false
  unfull : (status == QUEUE_FULL) ≡ false
  none : is_some (sense_of_end s h (sense_id m)) ≡ false

abbrev is_senseless : Option Outcome → Bool
is_senseless (Some (ended_check None)) = true
is_senseless _ = false

senseless : (s : ScenarioValue) (h : List Event) (m : ℕ) (o : Option Ending) → is_senseless (outcome_if s h m o) ≡ true
    → Senseless s h m o
senseless s h m (Some (by_status status)) e = go (status == GOOD) refl (status == QUEUE_FULL) refl
    (reply_bytes s h (command_id m)) (sense_of_end s h (sense_id m)) refl e
  where
    go : (q : Bool) → (status == GOOD) ≡ q → (r : Bool) → (status == QUEUE_FULL) ≡ r
        → (bytes : List ℕ) (x : Option Sense) → sense_of_end s h (sense_id m) ≡ x
        → is_senseless (Some (if q then ended_good bytes else if r then ended_full else ended_check x)) ≡ true
        → Senseless s h m (Some (by_status status))
    go true f r g bytes x y z = wrong' z
    go false f true g bytes x y z = wrong' z
    go false f false g bytes (Some sense) y z = wrong' z
    go false f false g bytes None y z =
        record { status = status; ending_is = refl; bad = f; unfull = g; none = ap (λ (w : Option Sense). is_some w) y }
senseless s h m _ e = wrong' e

pub is_check : (status : ℕ) → is_known status ≡ true → (status == GOOD) ≡ false → (status == QUEUE_FULL) ≡ false
    → (status == CHECK_CONDITION) ≡ true
is_check status known g q = go (status == GOOD) (status == CHECK_CONDITION) (status == QUEUE_FULL) known g q
  where
    go : (x y z : Bool) → (x || (y || z)) ≡ true → x ≡ false → z ≡ false → y ≡ true
    go true y z e f h = wrong f
    go false true z e f h = refl
    go false false true e f h = wrong h
    go false false false e f h = wrong' e

-- ---- an end in the history has its status

pub record HasStatus (history : List Event) (id : ProcId) : Type 0 where
  pub status : ℕ
  pub has : has_status history id status ≡ true

pub end_status : (history : List Event) (id : ProcId) → has_end history id ≡ true → HasStatus history id
end_status [] id e = wrong' e
end_status (x ∷ history) id e = go (is_end_of id x) refl e (λ z. end_status history id z)
  where
    later : HasStatus history id → HasStatus (x ∷ history) id
    later h = record { status = h.status; has = or_other (is_status_of id h.status x) h.has }
      where
        or_other : (q : Bool) → has_status history id h.status ≡ true → (q || has_status history id h.status) ≡ true
        or_other true z = refl
        or_other false z = z

    here : (y : Event) → is_end_of id y ≡ true → HasStatus (y ∷ history) id
    here (Event.End p code) z = record {
      status = code;
      has = or_left (same_id p id && code == code) (has_status history id code)
          (and_from (same_id p id) (code == code) z (eq_self code));
    }
    here _ z = wrong' z

    go : (q : Bool) → is_end_of id x ≡ q → (q || has_end history id) ≡ true
        → (has_end history id ≡ true → HasStatus history id) → HasStatus (x ∷ history) id
    go true z f rest = here x z
    go false z f rest = later (rest f)

sense_given : (bytes : List ℕ) → is_filled bytes ≡ true → is_some (sense_in bytes) ≡ true
sense_given [] e = wrong' e
sense_given (b ∷ bytes) e = refl

-- ---- the trace

sense_done : (s : ScenarioValue) (k : RunState) (m : ℕ) (c : CmdDef) → Obeys s → Items s k
    → k.served ≡ None → AreUnwanted s k → command_at s.commands m ≡ Some c → IsChecked m k.story.sent
    → has_item k.story.sent.over (sense_item m) ≡ true
sense_done s k m c o items rest quiet at checked =
    elim (cases_Bool (has_item k.story.sent.over (sense_item m))) [
      | inl f ↦ f
      | inr f ↦ sense_wanted s k m c o items rest quiet at checked f
    ]

abbrev pub AreStopped : Type 0
AreStopped = (s : ScenarioValue) (rows : List Row) (m : ℕ) (c : CmdDef)
    → command_at s.commands m ≡ Some c → has_item (run_state s rows).story.sent.over (sense_item m) ≡ true
    → has_end (run_state s rows).story.history (sense_id m) ≡ false
    → has_sense_stop (run_state s rows).story.history m c ≡ true

-- Of a command that ended with a status other than GOOD and QUEUE FULL: its reply has that status, which is CHECK
-- CONDITION; its automatic REQUEST SENSE is over; and where that has ended it brought bytes.
pub record IsFetched (s : ScenarioValue) (p : List Row) (m status : ℕ) : Type 0 where
  pub replied : HasReply s (run_state s p) (command_id m) status
  pub check : (status == CHECK_CONDITION) ≡ true
  pub over : has_item (run_state s p).story.sent.over (sense_item m) ≡ true
  pub brought : has_end (run_state s p).story.history (sense_id m) ≡ true
      → is_some (sense_of_end s (run_state s p).story.history (sense_id m)) ≡ true

pub is_replied : (s : ScenarioValue) (p : List Row) (m status : ℕ) → HaveCauses → Obeys s
    → IsPrompt s p → ending_of (run_state s p).story.ended m ≡ Some (by_status status)
    → HasReply s (run_state s p) (command_id m) status
is_replied s p m status causes o prompt e = end_reply s (run_state s p)
    (command_id m) status ((whole s p o prompt).statuses.areas.areas (command_id m))
    (end_found s (run_state s p) (run_state s p).story.history (command_id m) status
    (all_ended s p o prompt (all_joined s p o prompt)) (causes.status s p m status e))

pub fetched : (s : ScenarioValue) (p : List Row) (m status : ℕ) (c : CmdDef) → WantsAreItems
    → HaveCauses → Obeys s → IsPrompt s p → IsEnded s p → command_at s.commands m ≡ Some c
    → ending_of (run_state s p).story.ended m ≡ Some (by_status status) → (status == GOOD) ≡ false
    → (status == QUEUE_FULL) ≡ false → IsFetched s p m status
fetched s p m status c wants causes o prompt end at e bad unfull =
    record { replied = is_replied s p m status causes o prompt e; check = check_is; over = over; brought = brought }
  where
    k : RunState
    k = run_state s p

    pl : IsPlain s p k
    pl = prompt_plain s p prompt

    f : Joined s p
    f = joined s p wants o prompt

    h : Indebted s p
    h = indebted s p o prompt

    plays : array_after s k.story.history ≡ Some (array_of s k)
    plays = (λ i. array_after s (pl.story i).history) ∙ sym pl.array ∙ h.whole.places.array_is
        ∙ ap (λ (a : Array). Some a) (sym (ap (or_start s) h.whole.places.array_is))

    told : AreTold (array_of s k).replies
    told = all_told s k.story.history (array_of s k) o plays

    reply_for : (id : ProcId) (status : ℕ) → has_status k.story.history id status ≡ true → HasReply s k id status
    reply_for id status has = end_reply s k id status (h.whole.statuses.areas.areas id)
        (end_found s k k.story.history id status (all_ended s p o prompt (all_joined s p o prompt)) has)

    has : has_status k.story.history (command_id m) status ≡ true
    has = causes.status s p m status e

    known : is_known status ≡ true
    known =
        let r = reply_for (command_id m) status has in
        ap is_known r.status_is ∙ (told (command_id m) r.reply r.reply_is).known

    check_is : (status == CHECK_CONDITION) ≡ true
    check_is = is_check status known bad unfull

    check : has_status k.story.history (command_id m) CHECK_CONDITION ≡ true
    check = subst (λ (x : ℕ). has_status k.story.history (command_id m) x ≡ true)
        (eqb-true status CHECK_CONDITION check_is) has

    rest : k.served ≡ None
    rest = (h.whole.facts.items.items.apart (pl.connection ∙ (free_when_ended s p f end).stands.connection_is)).1

    over : has_item k.story.sent.over (sense_item m) ≡ true
    over = sense_done s k m c o h.whole.facts.items.items rest
        (λ dev latency lt there. unwanted_when_ended s p f end dev latency lt there) at (checks_stand s p m check)

    -- its bytes are a sense
    brought : has_end k.story.history (sense_id m) ≡ true → is_some (sense_of_end s k.story.history (sense_id m)) ≡ true
    brought ended =
        let v = end_status k.story.history (sense_id m) ended in
        let r = reply_for (sense_id m) v.status v.has in
        let good : (r.reply.status == GOOD) ≡ true = eq-eqb r.reply.status GOOD
        (h.books.fetched m r.reply r.reply_is) in
        let bytes : reply_bytes s k.story.history (sense_id m) ≡ r.reply.bytes =
        (λ i. reply_bytes_if (reply_of (plays i) (sense_id m))) ∙ ap reply_bytes_if r.reply_is in
        ap (λ (q : Bool). is_some (if q then sense_in (reply_bytes s k.story.history (sense_id m)) else None)) ended
        ∙ ap (λ (x : List ℕ). is_some (sense_in x)) bytes
        ∙ sense_given r.reply.bytes ((told (sense_id m) r.reply r.reply_is).filled refl good)

pub sense_stopped : (s : ScenarioValue) (p : List Row) (m : ℕ) (c : CmdDef) → WantsAreItems
    → HaveCauses → AreStopped → Obeys s → IsPrompt s p → IsEnded s p → command_at s.commands m ≡ Some c
    → outcome_of s (story s p) m ≡ Some (ended_check None) → has_sense_stop (run_state s p).story.history m c ≡ true
sense_stopped s p m c wants causes stops o prompt end at e =
    elim (cases_Bool (has_end k.story.history (sense_id m))) [
      | inl g ↦ wrong (sym (f.brought g) ∙ w.none)
      | inr g ↦ stops s p m c at f.over g
    ]
  where
    k : RunState
    k = run_state s p

    w : Senseless s k.story.history m (ending_of k.story.ended m)
    w = senseless s k.story.history m (ending_of k.story.ended m)
        (ap is_senseless (ap (λ (b : Story). outcome_of s b m) (prompt_plain s p prompt).story ∙ e))

    f : IsFetched s p m w.status
    f = fetched s p m w.status c wants causes o prompt end at w.ending_is w.bad w.unfull
