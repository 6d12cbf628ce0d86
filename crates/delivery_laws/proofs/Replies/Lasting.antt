-- In a prompt trace a process is answered once: one that ran has the reply that it got then.
use Rattle.delivery_laws.proofs
use proofs.Names.{ℕ, ◌≡◌, Bool, true, false, ◌||◌, ◌∙◌, List, [], ◌∷◌, ◌++◌, Option, Some, None, refl, sym, ap, subst}
use proofs.Names.{inl, inr, eqb-true, cases_Bool, same_Some, list_any, if◌then◌else◌, is_some, ⊤, ◌==◌, and_first}
use proofs.Names.{and_second, wrong', Event, ProcId, Row, command_of, Sense, ScenarioValue, Obeys, abort_lists}
use proofs.Names.{reset_lists, history_sound, array_after, array_step, reply_in, Reply, aborted_reply, execution}
use proofs.Names.{is_request_sense, queue_full, Process, process_of, same_id, IsSound, Array, Nexus, RunningProcess}
use proofs.Names.{guest_at, nexus_of, unit_state_at, row_reading, row_events_by, Sent, Story, story_after_events}
use proofs.Names.{story_by_change, prompt_plain, IsPrompt, IsPlain, RunState, array_after_events, run_state, same_event}
use proofs.Names.{obeys_fits, seats_are, self_id, has_event, least_is, none_some, reply_at, running_id, Whole}
use proofs.{Names.{standing_next, whole, running_own, HasRun}, Senses.Events.{Book, IfBooks, Tells, kept_reply}}
use proofs.Senses.Rows.{AllTell, Coming, row_tells}
use Rattle.due_model.specs.array_model.proofs.SoundArrays.{id_is}
use Rattle.due_model.specs.array_model.specs.Steps
use Rattle.delivery_laws.proofs.Senses.Events as books

-- ---- an event answers no process anew

abbrev Fresh : Array → Event → Type 0
Fresh a (Event.Run id) = reply_in a.replies id ≡ None
Fresh a (Event.Refuse id) = reply_in a.replies id ≡ None
Fresh a (Event.Fail id code) = reply_in a.replies id ≡ None
Fresh a _ = ⊤

told_fresh : (b : Sent) (a : Array) (e : Event) → Tells b a e → Fresh a e
told_fresh b a (Event.Run id) h = h.0
told_fresh b a (Event.Refuse id) h = h
told_fresh b a (Event.Fail id code) h = h
told_fresh b a _ h = tt

abbrev AreFresh : ScenarioValue → List Event → Type 0
AreFresh s [] = ⊤
AreFresh s (e ∷ h) = ((a : Array) → array_after s h ≡ Some a → Fresh a e) × AreFresh s h

plays_on : (s : ScenarioValue) (o : Option Array) (shown h : List Event) → o ≡ array_after s h
    → array_after_events s o shown ≡ array_after s (shown ++ h)
plays_on s o [] h e = e
plays_on s o (x ∷ shown) h e = ap (array_step s x) (plays_on s o shown h e)

fresh_both : (s : ScenarioValue) (b : Story) (o : Option Array) (shown h : List Event) → o ≡ array_after s h
    → AllTell s b o shown → AreFresh s h → AreFresh s (shown ++ h)
fresh_both s b o [] h e tell g = g
fresh_both s b o (x ∷ shown) h e tell g = (
  λ a z. told_fresh (story_after_events s b shown).sent a x (tell.0 a (plays_on s o shown h e ∙ z)),
  fresh_both s b o shown h e tell.1 g,
)

all_fresh : (s : ScenarioValue) (p : List Row) → Obeys s → IsPrompt s p → AreFresh s (run_state s p).story.history
all_fresh s [] o prompt = tt
all_fresh s (row ∷ p) o prompt =
    let k : RunState = run_state s p in
    let w : Whole s p = whole s p o prompt.0 in
    let pl : IsPlain s p k = prompt_plain s p prompt.0 in
    let v : Coming s p row = record {
      lt = (least_is s p row prompt.1).inside;
      was = w;
      next = whole s (row ∷ p) o prompt;
      stood = standing_next s p row o prompt w;
    } in
    fresh_both s (story_by_change s k.story (row_reading k.story.bus_state row) row) k.array
    (row_events_by s k.story (row_reading k.story.bus_state row) row) k.story.history
    (pl.array ∙ (λ i. array_after s (sym pl.story i).history)) (row_tells s p row v) (all_fresh s p o prompt.0)

-- ---- so what is listed stays

event_keeps : (s : ScenarioValue) (a : Array) (e : Event) (id : ProcId) (y : Reply)
    → IsSound s a → Fresh a e → reply_in a.replies id ≡ Some y
    → IfBooks (λ (x : List (Nexus × Sense)) (z : List (ProcId × Reply)). reply_in z id ≡ Some y)
    (Steps.event_step s a e)
event_keeps s a (Event.Accept p) id y sound fresh h =
    books.accepted (λ x z. reply_in z id ≡ Some y) a (process_of s p) h
event_keeps s a (Event.Refuse p) id y sound fresh h = books.refused (λ x z. reply_in z id ≡ Some y) a (process_of s p)
    (λ q e f. kept_reply a.replies q.id queue_full id y (ap (reply_in a.replies) (id_is s p q e) ∙ fresh) h)
event_keeps s a (Event.Run p) id y sound fresh h = books.run (λ x z. reply_in z id ≡ Some y) a
    (is_some (guest_at a.guests p)) (Steps.running_process a p) (λ r e. kept_reply a.replies r.process.id
    (reply_at a r.process (unit_state_at a.units r.process.target r.process.unit)) id y
    (ap (reply_in a.replies) (running_id a p r e) ∙ fresh) h)
event_keeps s a (Event.Fail p code) id y sound fresh h = books.failed (λ x z. reply_in z id ≡ Some y) s a p
    (aborted_reply code) (Steps.running_process a p) (kept_reply a.replies p (aborted_reply code) id y fresh h)
event_keeps s a (Event.End p status) id y sound fresh h =
    books.ended (λ x z. reply_in z id ≡ Some y) a p status (λ r reply e f g. h)
event_keeps s a (Event.Lost p) id y sound fresh h = books.lost (λ x z. reply_in z id ≡ Some y) a p h
event_keeps s a (Event.Aborted i t n what) id y sound fresh h =
    ap (λ (z : List (ProcId × Reply)). reply_in z id) (abort_lists s a i t n what) ∙ h
event_keeps s a (Event.Reset dev) id y sound fresh h =
    ap (λ (z : List (ProcId × Reply)). reply_in z id) (reset_lists s a) ∙ h

step_keeps : (s : ScenarioValue) (a d : Array) (e : Event) (id : ProcId) (y : Reply) → IsSound s a → Fresh a e
    → Steps.step s e a ≡ Some d → reply_in a.replies id ≡ Some y → reply_in d.replies id ≡ Some y
step_keeps s a d e id y sound fresh st h = subst (IfBooks (λ x z. reply_in z id ≡ Some y)) st
    (books.settled (λ x z. reply_in z id ≡ Some y) (Steps.event_step s a e) (event_keeps s a e id y sound fresh h))

-- ---- one that ran

run_lists : (s : ScenarioValue) (a d : Array) (id : ProcId) (c : Process) → IsSound s a
    → process_of s id ≡ Some c → Steps.step s (Event.Run id) a ≡ Some d → reply_in d.replies id
    ≡ Some (execution (Steps.context_at a (nexus_of c) (unit_state_at a.units c.target c.unit)) c.cdb c.sent).reply
run_lists s a d id c sound is st = subst (IfBooks f) st (books.settled f (Steps.event_step s a (Event.Run id))
    (books.run f a (is_some (guest_at a.guests id)) (Steps.running_process a id) now))
  where
    answer : Process → Reply
    answer q = (execution (Steps.context_at a (nexus_of q) (unit_state_at a.units q.target q.unit)) q.cdb q.sent).reply

    f : List (Nexus × Sense) → List (ProcId × Reply) → Type 0
    f x z = reply_in z id ≡ Some (answer c)

    now : (r : RunningProcess) → Steps.running_process a id ≡ Some r → f a.senses
        ((r.process.id, reply_at a r.process (unit_state_at a.units r.process.target r.process.unit)) ∷ a.replies)
    now r e = ap (λ (q : Bool). if q then Some (answer r.process) else reply_in a.replies id)
        (ap (λ (x : ProcId). same_id x id) (running_id a id r e) ∙ self_id id)
        ∙ ap (λ (q : Process). Some (answer q)) (same_Some r.process c (sym (running_own s a id r sound e) ∙ is))

no_cons : {A : Type 0} (x : Event) (h : List Event) → (let l : List Event = [] in l) ≡ x ∷ h → A
no_cons x h e = absurd (never e)
  where
    never : (let l : List Event = [] in l) ≡ x ∷ h → ⊥
    never z = cc

head_is : (x y : Event) (h g : List Event) → x ∷ h ≡ y ∷ g → x ≡ y
head_is x y h g e = cc

tail_is : (x y : Event) (h g : List Event) → x ∷ h ≡ y ∷ g → h ≡ g
tail_is x y h g e = cc

run_lasts : (s : ScenarioValue) (h : List Event) (a : Array) (id : ProcId) (reply : Reply)
    (later earlier : List Event) (was : Array) (t : Process) → Obeys s → AreFresh s h → array_after s h ≡ Some a
    → h ≡ later ++ Event.Run id ∷ earlier → array_after s earlier ≡ Some was → process_of s id ≡ Some t → reply
    ≡ (execution (Steps.context_at was (nexus_of t) (unit_state_at was.units t.target t.unit)) t.cdb t.sent).reply
    → reply_in a.replies id ≡ Some reply
run_lasts s [] a id reply [] earlier was t o fresh plays split before is own = no_cons (Event.Run id) earlier split
run_lasts s [] a id reply (x ∷ later) earlier was t o fresh plays split before is own =
    no_cons x (later ++ Event.Run id ∷ earlier) split
run_lasts s (e ∷ h) a id reply [] earlier was t o fresh plays split before is own =
    run_lists s was a id t (history_sound s earlier was (seats_are s (obeys_fits s o)) before) is
    ((λ i. array_step s (sym (head_is e (Event.Run id) h earlier split) i)
    (sym (ap (array_after s) (tail_is e (Event.Run id) h earlier split) ∙ before) i)) ∙ plays)
    ∙ ap (λ (x : Reply). Some x) (sym own)
run_lasts s (e ∷ h) a id reply (x ∷ later) earlier was t o fresh plays split before is own =
    go (array_after s h) refl plays (λ b z. run_lasts s h b id reply later earlier was t o fresh.1 z
    (tail_is e x h (later ++ Event.Run id ∷ earlier) split) before is own)
  where
    go : (b : Option Array) → array_after s h ≡ b → array_step s e b ≡ Some a
        → ((c : Array) → array_after s h ≡ Some c → reply_in c.replies id ≡ Some reply)
        → reply_in a.replies id ≡ Some reply
    go None z st rest = none_some a st
    go (Some b) z st rest =
        step_keeps s b a e id reply (history_sound s h b (seats_are s (obeys_fits s o)) z) (fresh.0 b z) st (rest b z)

pub ran_lasts : (s : ScenarioValue) (p : List Row) (a : Array) (id : ProcId) (reply : Reply) → Obeys s → IsPrompt s p
    → array_after s (run_state s p).story.history ≡ Some a → HasRun s (run_state s p).story.history id reply
    → reply_in a.replies id ≡ Some reply
ran_lasts s p a id reply o prompt plays w = run_lasts s (run_state s p).story.history a id reply w.later w.earlier
    w.array w.process o (all_fresh s p o prompt) plays w.split w.array_is w.process_is w.reply_is

-- ---- one that failed, or was refused

-- An event that this test names lists this reply.
abbrev Lists : ScenarioValue → (Event → Bool) → ProcId → Reply → Type 0
Lists s f id reply = (a d : Array) (e : Event) → IsSound s a → f e ≡ true → Steps.step s e a ≡ Some d
    → reply_in d.replies id ≡ Some reply

fail_lists : (s : ScenarioValue) (id : ProcId) (code : ℕ)
    → Lists s (λ e. same_event e (Event.Fail id code)) id (aborted_reply code)
fail_lists s id code a d (Event.Fail p x) sound e st = subst (IfBooks f) st (books.settled f
    (Steps.event_step s a (Event.Fail p x)) (books.failed f s a p (aborted_reply x) (Steps.running_process a p) now))
  where
    f : List (Nexus × Sense) → List (ProcId × Reply) → Type 0
    f y z = reply_in z id ≡ Some (aborted_reply code)

    now : reply_in ((p, aborted_reply x) ∷ a.replies) id ≡ Some (aborted_reply code)
    now = ap (λ (q : Bool). if q then Some (aborted_reply x) else reply_in a.replies id)
        (and_first (same_id p id) (x == code) e)
        ∙ ap (λ (y : ℕ). Some (aborted_reply y)) (eqb-true x code (and_second (same_id p id) (x == code) e))
fail_lists s id code a d _ sound e st = wrong' e

refuse_lists : (s : ScenarioValue) (id : ProcId) → Lists s (λ e. same_event e (Event.Refuse id)) id queue_full
refuse_lists s id a d (Event.Refuse p) sound e st = subst (IfBooks f) st
    (books.settled f (Steps.event_step s a (Event.Refuse p)) (books.refused f a (process_of s p) now))
  where
    f : List (Nexus × Sense) → List (ProcId × Reply) → Type 0
    f y z = reply_in z id ≡ Some queue_full

    now : (q : Process) → process_of s p ≡ Some q → is_request_sense (command_of q.cdb) ≡ false
        → reply_in ((q.id, queue_full) ∷ a.replies) id ≡ Some queue_full
    now q is other = ap (λ (x : Bool). if x then Some queue_full else reply_in a.replies id)
        (ap (λ (x : ProcId). same_id x id) (id_is s p q is) ∙ e)
refuse_lists s id a d _ sound e st = wrong' e

listed_lasts : (s : ScenarioValue) (h : List Event) (a : Array) (id : ProcId) (reply : Reply) (f : Event → Bool)
    → Obeys s → AreFresh s h → Lists s f id reply → array_after s h ≡ Some a → list_any (λ e. f e) h ≡ true
    → reply_in a.replies id ≡ Some reply
listed_lasts s [] a id reply f o fresh lists plays has = wrong' has
listed_lasts s (e ∷ h) a id reply f o fresh lists plays has =
    go (array_after s h) refl plays (λ b z has. listed_lasts s h b id reply f o fresh.1 lists z has)
  where
    go : (b : Option Array) → array_after s h ≡ b → array_step s e b ≡ Some a
        → ((c : Array) → array_after s h ≡ Some c → list_any (λ x. f x) h ≡ true → reply_in c.replies id ≡ Some reply)
        → reply_in a.replies id ≡ Some reply
    go None z st rest = none_some a st
    go (Some b) z st rest =
        elim (cases_Bool (f e)) [
          | inl g ↦ lists b a e sound g st
          | inr g ↦ step_keeps s b a e id reply sound (fresh.0 b z) st (rest b z (rw g at has))
        ]
      where
        sound : IsSound s b
        sound = history_sound s h b (seats_are s (obeys_fits s o)) z

pub failed_lasts : (s : ScenarioValue) (p : List Row) (a : Array) (id : ProcId) (code : ℕ)
    → Obeys s → IsPrompt s p → array_after s (run_state s p).story.history ≡ Some a
    → has_event (run_state s p).story.history (Event.Fail id code) ≡ true
    → reply_in a.replies id ≡ Some (aborted_reply code)
failed_lasts s p a id code o prompt plays has = listed_lasts s (run_state s p).story.history a id (aborted_reply code)
    (λ e. same_event e (Event.Fail id code)) o (all_fresh s p o prompt) (fail_lists s id code) plays has

pub refused_lasts : (s : ScenarioValue) (p : List Row) (a : Array) (id : ProcId)
    → Obeys s → IsPrompt s p → array_after s (run_state s p).story.history ≡ Some a
    → has_event (run_state s p).story.history (Event.Refuse id) ≡ true → reply_in a.replies id ≡ Some queue_full
refused_lasts s p a id o prompt plays has = listed_lasts s (run_state s p).story.history a id queue_full
    (λ e. same_event e (Event.Refuse id)) o (all_fresh s p o prompt) (refuse_lists s id) plays has
