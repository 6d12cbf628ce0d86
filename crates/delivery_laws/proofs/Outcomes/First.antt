-- Of a prompt trace: how a command ended is told by the first row that ends it; and it ended unanswered exactly where
-- its initiator called for it in vain more often than it tries again (6.1.3.1).
use Rattle.delivery_laws.proofs
use proofs.Names.{ℕ, ◌≡◌, ◌+◌, Bool, true, false, not, ◌&&◌, ◌||◌, ◌∙◌, List, [], ◌∷◌, Option, Some, None, refl, sym}
use proofs.Names.{ap, subst, arith, inl, inr, not-true, cases_Bool, nat_tests, same_Some, if◌then◌else◌, ◌==◌, is_none}
use proofs.Names.{is_some, nat_lt, eq_self, wrong, wrong', and_true, and_second, none_between, or_none_second}
use proofs.Names.{plus_none, Event, change_of, falls, rises, Row, Change, Connection, Call, Calling, ScenarioValue}
use proofs.Names.{Obeys, CmdDef, command_at, same_bool, RowReading, row_reading, Item, abort, command_id, command_item}
use proofs.Names.{count_item, has_item, process, same_item, ending_of, Ending, Story, by_abort, by_loss, by_reset}
use proofs.Names.{by_status, is_aborted, story_after_events, unanswered, aim_of, is_arbitration_entry, retries_of}
use proofs.Names.{row_events, story, story_after_calling, story_after_calling_by, story_by_change, story_on_bus}
use proofs.Names.{story_on_free_bus, story_with_aim, story_with_try, story_without_answer, one_if, prompt_plain}
use proofs.Names.{IsPrompt, RunState, run_state, change_plain, least_is, IsNext, is_abort, is_sense, item_is}
use proofs.Names.{events_grow, connection_sent, whole, AreEnded, are_ended, change_keeps, ended_if, ending_after}
use proofs.Names.{event_ends, events_keep, unended_connection, unended_linked, with_ending_at, is_for_item}
use proofs.Names.{calls_in_vain, event_ending, events_ending, first_ending, first_of, is_end_in_vain, is_tried_out}
use proofs.{Names.{is_unheard, is_unheard_call, was_sent}, Callings.Facts.{connection_tries, events_tries}}
use proofs.Callings.Facts.{next_of_vain, try_tried}
use Rattle.progress_laws.specs.row_laws.specs.ItemFacts.{is_command}
use Rattle.initiator.specs.initiator_books.proofs.StoryEnds as ends

-- ---- an event

first_then : (o : Option Ending) (e : Ending) → ends.first_of o e ≡ first_of o (Some e)
first_then None e = refl
first_then (Some x) e = refl

first_none : (o : Option Ending) → o ≡ first_of o None
first_none None = refl
first_none (Some x) = refl

first_both : (o x y : Option Ending) → first_of (first_of o x) y ≡ first_of o (first_of x y)
first_both None x y = refl
first_both (Some e) x y = refl

ended_then : (q : Bool) (o : Option Ending) (e : Ending) → ended_if q o e ≡ first_of o (if q then Some e else None)
ended_then true o e = first_then o e
ended_then false o e = first_none o

of_command : (x q : Bool) → (not x && q) ≡ (q && same_bool x false)
of_command true true = refl
of_command true false = refl
of_command false true = refl
of_command false false = refl

ending_then : (e : Event) (c : CmdDef) (sent : Bool) (m : ℕ) (old : Option Ending)
    → ending_after e (Some c) sent m old ≡ first_of old (event_ending sent m c e)
ending_then (Event.End id status) c sent m old = ended_then (not id.sense && id.command == m) old (by_status status)
    ∙ (λ i. first_of old (if of_command id.sense (id.command == m) i then Some (by_status status) else None))
ending_then (Event.Lost id) c sent m old = ended_then (not id.sense && id.command == m) old by_loss
    ∙ (λ i. first_of old (if of_command id.sense (id.command == m) i then Some by_loss else None))
ending_then (Event.Aborted host target unit what) c sent m old =
    ended_then (sent && is_aborted host target unit what c) old by_abort
ending_then (Event.Reset dev) c sent m old =
    ended_then (sent && true) old by_reset ∙ (λ i. first_of old (if and_true sent i then Some by_reset else None))
ending_then _ c sent m old = first_none old

shown_ending : (s : ScenarioValue) (b : Story) (m : ℕ) (c : CmdDef) (shown : List Event) → AreEnded b
    → command_at s.commands m ≡ Some c → ending_of (story_after_events s b shown).ended m
    ≡ first_of (ending_of b.ended m) (events_ending (has_item b.sent.sent (command_item m)) m c shown)
shown_ending s b m c [] h at = first_none (ending_of b.ended m)
shown_ending s b m c (e ∷ shown) h at =
    let x : Story = story_after_events s b shown in
    event_ends s x e m (events_keep s b shown h) ∙ (λ i. ending_after e (at i)
    (has_item ((events_grow s b shown).sent i) (command_item m)) m (shown_ending s b m c shown h at i))
    ∙ ending_then e c (has_item b.sent.sent (command_item m)) m
    (first_of (ending_of b.ended m) (events_ending (has_item b.sent.sent (command_item m)) m c shown))
    ∙ first_both (ending_of b.ended m) (events_ending (has_item b.sent.sent (command_item m)) m c shown)
    (event_ending (has_item b.sent.sent (command_item m)) m c e)

-- ---- a row before its events

-- Nobody called for the command in vain; or its initiator did once more.
data Called (s : ScenarioValue) (b x : Story) (d : RowReading) (m : ℕ) : Type 0 where
  none_called : is_end_in_vain b d (command_item m) ≡ false
      → count_item x.sent.tries (command_item m) ≡ count_item b.sent.tries (command_item m)
      → ending_of x.ended m ≡ ending_of b.ended m → Called s b x d m
  called_in_vain : (c : Call) (g : Calling) → falls d.change.before.sel d.change.after.sel ≡ true
      → d.change.after.rst ≡ false → b.bus_state.connection ≡ None
      → b.bus_state.call ≡ Some c → c.calling ≡ Some g → g.reselects ≡ false
      → aim_of b.aims c.caller ≡ Some (command_item m) → is_end_in_vain b d (command_item m) ≡ true
      → count_item x.sent.tries (command_item m) ≡ count_item b.sent.tries (command_item m) + 1 → ending_of x.ended m
      ≡ ended_if (nat_lt (retries_of s.hosts c.caller) (count_item b.sent.tries (command_item m) + 1))
      (ending_of b.ended m) unanswered
      → Called s b x d m

-- Another item than the command's: its tries are no calls for the command, and it ends not with it.
other_try : (s : ScenarioValue) (b : Story) (dev m : ℕ) (i : Item) → same_item i (command_item m) ≡ false
    → ending_of (story_with_try s b dev (Some i)).ended m ≡ ending_of b.ended m
other_try s b dev m (abort k) e = go _
  where
    go : (q : Bool) → ending_of
        (if q then story_without_answer (record b { sent = record b.sent { tries = abort k ∷ b.sent.tries } }) (abort k)
        else record b { sent = record b.sent { tries = abort k ∷ b.sent.tries } }).ended m ≡ ending_of b.ended m
    go true = refl
    go false = refl
other_try s b dev m (process id) e = go _
  where
    go : (q : Bool) → ending_of (if q
        then story_without_answer (record b { sent = record b.sent { tries = process id ∷ b.sent.tries } }) (process id)
        else record b { sent = record b.sent { tries = process id ∷ b.sent.tries } }).ended m ≡ ending_of b.ended m
    go true = with_ending_at b.ended id unanswered m
        ∙ (λ i. ended_if ((of_command id.sense (id.command == m) ∙ e) i) (ending_of b.ended m) unanswered)
    go false = refl

this_try : (s : ScenarioValue) (b : Story) (dev m : ℕ)
    → ending_of (story_with_try s b dev (Some (command_item m))).ended m ≡ ended_if
    (nat_lt (retries_of s.hosts dev) (count_item b.sent.tries (command_item m) + 1)) (ending_of b.ended m) unanswered
this_try s b dev m = (λ i. ending_of (if nat_lt (retries_of s.hosts dev)
    (if same i then count_item b.sent.tries (command_item m) + 1 else count_item b.sent.tries (command_item m))
    then story_without_answer next (command_item m) else next).ended m)
    ∙ go (nat_lt (retries_of s.hosts dev) (count_item b.sent.tries (command_item m) + 1))
  where
    next : Story
    next = record b { sent = record b.sent { tries = command_item m ∷ b.sent.tries } }

    same : same_item (command_item m) (command_item m) ≡ true
    same = ap (λ (q : Bool). q && true) (eq_self m)

    go : (q : Bool) → ending_of (if q then story_without_answer next (command_item m) else next).ended m
        ≡ ended_if q (ending_of b.ended m) unanswered
    go true = with_ending_at b.ended (command_id m) unanswered m
        ∙ (λ i. ended_if (eq_self m i) (ending_of b.ended m) unanswered)
    go false = refl

free_called : (s : ScenarioValue) (b : Story) (d : RowReading) (row : Row) (m : ℕ) → d.change.after.rst ≡ false
    → b.bus_state.connection ≡ None → d.next ≡ None → Called s b (story_on_free_bus s b d row) d m
free_called s b d row m off con free = go d.change.before.sel refl
  where
    parts : (fall unheard : Bool) → falls d.change.before.sel d.change.after.sel ≡ fall
        → is_unheard_call b.aims (command_item m) b.bus_state.call ≡ unheard
        → is_end_in_vain b d (command_item m) ≡ (fall && unheard)
    parts fall unheard e f = λ i. (not (off i) && (is_none (con i) && is_none (free i))) && (e i && f i)

    still : falls d.change.before.sel d.change.after.sel ≡ false → is_end_in_vain b d (command_item m) ≡ false
    still e = parts false (is_unheard_call b.aims (command_item m) b.bus_state.call) e refl

    unheard_not : falls d.change.before.sel d.change.after.sel ≡ true
        → is_unheard_call b.aims (command_item m) b.bus_state.call ≡ false → is_end_in_vain b d (command_item m) ≡ false
    unheard_not e f = parts true false e f

    -- as SEL falls
    called : falls d.change.before.sel d.change.after.sel ≡ true → (o : Option Call) → b.bus_state.call ≡ o
        → Called s b (story_after_calling s b o) d m
    called e None f = none_called (unheard_not e (ap (is_unheard_call b.aims (command_item m)) f)) refl refl
    called e (Some c) f = by c.calling refl
      where
        by : (o : Option Calling) → c.calling ≡ o → Called s b (story_after_calling_by s b c.caller o) d m
        by None g = none_called (unheard_not e (ap (is_unheard_call b.aims (command_item m)) f
            ∙ (λ i. is_unheard (g i) && is_for_item (aim_of b.aims c.caller) (command_item m)))) refl refl
        by (Some x) g =
            elim (cases_Bool (is_none x.answered && not x.reselects)) [
              | inl f ↦ rw f (aimed f (aim_of b.aims c.caller) refl)
              | inr f ↦ rw f (none_called (unheard_not e (test false f)) refl refl)
            ]
          where
            test : (q : Bool) → (is_none x.answered && not x.reselects) ≡ q
                → is_unheard_call b.aims (command_item m) b.bus_state.call
                ≡ (q && is_for_item (aim_of b.aims c.caller) (command_item m))
            test q y = ap (is_unheard_call b.aims (command_item m)) f
                ∙ (λ i. is_unheard (g i) && is_for_item (aim_of b.aims c.caller) (command_item m))
                ∙ (λ i. y i && is_for_item (aim_of b.aims c.caller) (command_item m))

            aimed : (is_none x.answered && not x.reselects) ≡ true → (a : Option Item) → aim_of b.aims c.caller ≡ a
                → Called s b (story_with_try s b c.caller a) d m
            aimed y None z = none_called
                (unheard_not e (test true y ∙ ap (λ (w : Option Item). is_for_item w (command_item m)) z)) refl refl
            aimed y (Some i) z = by_item (same_item i (command_item m)) refl
              where
                by_item : (q : Bool) → same_item i (command_item m) ≡ q
                    → Called s b (story_with_try s b c.caller (Some i)) d m
                by_item false w = none_called
                    (unheard_not e (test true y ∙ ap (λ (v : Option Item). is_for_item v (command_item m)) z ∙ w))
                    (ap (λ (l : List Item). count_item l (command_item m)) (try_tried s b c.caller i)
                    ∙ (λ j. if w j then count_item b.sent.tries (command_item m) + 1
                    else count_item b.sent.tries (command_item m))) (other_try s b c.caller m i w)
                by_item true w =
                    let this : i ≡ command_item m = item_is i (command_item m) w in
                    called_in_vain c x e off con f g (not-true x.reselects
                    (and_second (is_none x.answered) (not x.reselects) y)) (z ∙ ap (λ (v : Item). Some v) this)
                    (parts true true e (test true y ∙ ap (λ (v : Option Item). is_for_item v (command_item m)) z ∙ w))
                    (ap (λ (l : List Item). count_item l (command_item m)) (try_tried s b c.caller i)
                    ∙ (λ j. if w j then count_item b.sent.tries (command_item m) + 1
                    else count_item b.sent.tries (command_item m)))
                    (ap (λ (v : Item). ending_of (story_with_try s b c.caller (Some v)).ended m) this
                    ∙ this_try s b c.caller m)

    by_fall : (q : Bool) → falls d.change.before.sel d.change.after.sel ≡ q
        → Called s b (if q then story_after_calling s b b.bus_state.call else b) d m
    by_fall false e = none_called (still e) refl refl
    by_fall true e = called e b.bus_state.call refl

    -- an arbitration begins only while SEL is false
    entry : (sel : Bool) → d.change.before.sel ≡ sel → (q : Bool) → is_arbitration_entry b d ≡ q
        → Called s b (if q then story_with_aim s b row
        else if falls d.change.before.sel d.change.after.sel then story_after_calling s b b.bus_state.call else b) d m
    entry sel e false f = by_fall (falls d.change.before.sel d.change.after.sel) refl
    entry false e true f = none_called (still (λ i. falls (e i) d.change.after.sel)) refl refl
    entry true e true f = wrong (sym f ∙ no_entry)
      where
        no_entry : is_arbitration_entry b d ≡ false
        no_entry = (λ i. rises d.change.own.bsy d.change.next.bsy && not (e i) && is_none b.bus_state.connection)
            ∙ none_between (rises d.change.own.bsy d.change.next.bsy) (is_none b.bus_state.connection)

    go : (sel : Bool) → d.change.before.sel ≡ sel → Called s b (story_on_free_bus s b d row) d m
    go sel e = entry sel e (is_arbitration_entry b d) refl

no_end : (a b c : Bool) → a ≡ false → (a && (b && c)) ≡ false
no_end true b c e = wrong e
no_end false b c e = refl

change_called : (s : ScenarioValue) (b : Story) (d : RowReading) (row : Row) (w : ℕ)
    → Called s b (story_by_change s b d row) d w
change_called s b d row w = go d.change.after.rst refl
  where
    apart : (not d.change.after.rst && (is_none b.bus_state.connection && is_none d.next)) ≡ false
        → is_end_in_vain b d (command_item w) ≡ false
    apart e = no_end (not d.change.after.rst && (is_none b.bus_state.connection && is_none d.next))
        (falls d.change.before.sel d.change.after.sel) (is_unheard_call b.aims (command_item w) b.bus_state.call) e

    off_three : (a b : Bool) → (a && (false && b)) ≡ false
    off_three true b = refl
    off_three false b = refl

    off_last : (a b : Bool) → (a && (b && false)) ≡ false
    off_last true true = refl
    off_last _ _ = refl

    on_bus : d.change.after.rst ≡ false → (x y : Option Connection) → b.bus_state.connection ≡ x → d.next ≡ y
        → Called s b (story_on_bus s b x y d row) d w
    on_bus off None None e f = free_called s b d row w off e f
    on_bus off None (Some n) e f = none_called
        (apart ((λ i. not d.change.after.rst && (is_none b.bus_state.connection && is_none (f i)))
        ∙ off_last (not d.change.after.rst) (is_none b.bus_state.connection)))
        (ap (λ (l : List Item). count_item l (command_item w)) (connection_tries b n))
        (ap (λ (l : List (ℕ × Ending)). ending_of l w) (unended_connection b n).ended)
    on_bus off (Some m) None e f =
        none_called (apart ((λ i. not d.change.after.rst && (is_none (e i) && is_none d.next))
        ∙ off_three (not d.change.after.rst) (is_none d.next))) refl refl
    on_bus off (Some m) (Some n) e f = none_called
        (apart ((λ i. not d.change.after.rst && (is_none (e i) && is_none d.next))
        ∙ off_three (not d.change.after.rst) (is_none d.next)))
        (λ i. count_item (connection_sent s b b.link d row i).tries (command_item w))
        (ap (λ (l : List (ℕ × Ending)). ending_of l w) (unended_linked s b m (Some n) d row).ended)

    go : (q : Bool) → d.change.after.rst ≡ q
        → Called s b (if q then record b { link = None } else story_on_bus s b b.bus_state.connection d.next d row) d w
    go true on = none_called (apart (λ i. not (on i) && (is_none b.bus_state.connection && is_none d.next))) refl refl
    go false off = on_bus off b.bus_state.connection d.next refl refl

-- ---- all rows of a prompt trace

pub record IsTold (s : ScenarioValue) (p : List Row) (m : ℕ) (c : CmdDef) : Type 0 where
  pub tries : count_item (story s p).sent.tries (command_item m) ≡ calls_in_vain s p (command_item m)
  pub ending : ending_of (story s p).ended m ≡ first_ending s p m c
  pub tried : is_tried_out s p m c ≡ true → ending_of (story s p).ended m ≡ Some unanswered

-- The item of a calling in vain is the command: its initiator calls, and it has not ended.
record IsUntried (s : ScenarioValue) (b : Story) (dev m : ℕ) (c : CmdDef) : Type 0 where
  host_is : c.host ≡ dev
  opens : ending_of b.ended m ≡ None

open_ending : (o : Option Ending) → is_some o ≡ false → o ≡ None
open_ending None e = refl
open_ending (Some x) e = wrong e

untried : (s : ScenarioValue) (b : Story) (dev m : ℕ) (c : CmdDef) (item : Item) → AreEnded b
    → command_at s.commands m ≡ Some c → IsNext s b.sent dev item → item ≡ command_item m → IsUntried s b dev m c
untried s b dev m c _ h at (is_abort k z) e = absurd (never e)
  where
    never : abort k ≡ command_item m → ⊥
    never f = cc
untried s b dev m c _ h at (is_sense k x ex own there z) e = wrong (ap (λ (i : Item). is_plain i) e)
  where
    is_plain : Item → Bool
    is_plain (process id) = id.sense
    is_plain (abort l) = false
untried s b dev m c _ h at (is_command k time x ex own z may none) e =
    let same : k ≡ m = ap number e in
    record {
      host_is = ap (λ (y : CmdDef). y.host) (same_Some c x (sym at ∙ ap (command_at s.commands) (sym same) ∙ ex)) ∙ own;
      opens = open_ending (ending_of b.ended m) (sym (h.over m)
          ∙ or_none_second (has_item b.sent.sent (command_item m)) (has_item b.sent.over (command_item m))
          (ap (λ (l : ℕ). has_item b.sent.sent (command_item l) || has_item b.sent.over (command_item l)) (sym same)
          ∙ z));
    }
  where
    number : Item → ℕ
    number (process id) = id.command
    number (abort l) = l

nothing : (q : Bool) (o : Option Ending) → (q ≡ true → o ≡ Some unanswered)
    → o ≡ first_of o (if q then Some unanswered else None)
nothing true o h = h refl ∙ ap (λ (x : Option Ending). first_of x (Some unanswered)) (sym (h refl))
nothing false o h = first_none o

told_next : (s : ScenarioValue) (p : List Row) (row : Row) (w : ℕ) (c : CmdDef) → Obeys s → IsPrompt s (row ∷ p)
    → command_at s.commands w ≡ Some c → IsTold s p w c → IsTold s (row ∷ p) w c
told_next s p row w c o prompt at was = by (change_called s b d row w)
  where
    k : RunState
    k = run_state s p

    b : Story
    b = story s p

    d : RowReading
    d = row_reading b.bus_state row

    x : Story
    x = story_by_change s b d row

    shown : List Event
    shown = row_events s b row

    plain : k.story ≡ b
    plain = (prompt_plain s p prompt.0).story

    kept : AreEnded b
    kept = subst (λ (y : Story). AreEnded y) plain (are_ended s p)

    sent : Bool
    sent = was_sent s (row ∷ p) w

    sent_is : has_item x.sent.sent (command_item w) ≡ sent
    sent_is = ap (λ (l : List Item). has_item l (command_item w)) (sym (events_grow s x shown).sent)

    tries_is : count_item (story s (row ∷ p)).sent.tries (command_item w) ≡ count_item x.sent.tries (command_item w)
    tries_is = ap (λ (l : List Item). count_item l (command_item w)) (events_tries s x shown)

    before : ℕ
    before = calls_in_vain s p (command_item w)

    more : ℕ
    more = calls_in_vain s (row ∷ p) (command_item w)

    out : Bool
    out = is_tried_out s (row ∷ p) w c

    after : ending_of (story s (row ∷ p)).ended w ≡ first_of (ending_of x.ended w) (events_ending sent w c shown)
    after = shown_ending s x w c shown (change_keeps s b d row kept) at
        ∙ ap (λ (q : Bool). first_of (ending_of x.ended w) (events_ending q w c shown)) sent_is

    made : count_item x.sent.tries (command_item w) ≡ more
        → ending_of x.ended w ≡ first_of (ending_of b.ended w) (if out then Some unanswered else None)
        → (out ≡ true → ending_of x.ended w ≡ Some unanswered) → IsTold s (row ∷ p) w c
    made e f g = record {
      tries = tries_is ∙ e;
      ending = after ∙ ap (λ (y : Option Ending). first_of y (events_ending sent w c shown))
          (f ∙ ap (λ (y : Option Ending). first_of y (if out then Some unanswered else None)) was.ending)
          ∙ first_both (first_ending s p w c) (if out then Some unanswered else None) (events_ending sent w c shown);
      tried = λ z. after ∙ ap (λ (y : Option Ending). first_of y (events_ending sent w c shown)) (g z);
    }

    same_more : is_end_in_vain b d (command_item w) ≡ false → more ≡ before
    same_more e = ap (λ (q : Bool). before + one_if q) e ∙ plus_none before

    one_more : is_end_in_vain b d (command_item w) ≡ true → more ≡ before + 1
    one_more e = ap (λ (q : Bool). before + one_if q) e

    by : Called s b x d w → IsTold s (row ∷ p) w c
    by (none_called e f g) =
        let out_is : out ≡ is_tried_out s p w c = ap (λ (m : ℕ). nat_lt (retries_of s.hosts c.host) m) (same_more e) in
        made (f ∙ was.tries ∙ sym (same_more e))
        (g ∙ nothing out (ending_of b.ended w) (λ z. was.tried (sym out_is ∙ z))) (λ z. g ∙ was.tried (sym out_is ∙ z))
    by (called_in_vain q g fall off con call_is calling_is sel aim e f h) =
        let change : d.change ≡ change_of p row = ap (λ (y : Story). (row_reading y.bus_state row).change) (sym plain)
        ∙ change_plain s row p (whole s p o prompt.0).stood.standing.devices (least_is s p row prompt.1).inside in
        let next : IsNext s k.story.sent q.caller (command_item w) = next_of_vain s p row o prompt q g
        (command_item w) (ap (λ (y : Change). falls y.before.sel y.after.sel) (sym change) ∙ fall)
        (ap (λ (y : Change). y.after.rst) (sym change) ∙ off) (ap (λ (y : Story). y.bus_state.connection) plain ∙ con)
        (ap (λ (y : Story). y.bus_state.call) plain ∙ call_is) calling_is sel
        (ap (λ (y : Story). aim_of y.aims q.caller) plain ∙ aim) in
        let u : IsUntried s b q.caller w c = untried s b q.caller w c (command_item w) kept at
        (subst (λ (y : Story). IsNext s y.sent q.caller (command_item w)) plain next) refl in
        let count : count_item b.sent.tries (command_item w) + 1 ≡ more = ap (λ (m : ℕ). m + 1) was.tries
        ∙ sym (one_more e) in
        let test : nat_lt (retries_of s.hosts q.caller) (count_item b.sent.tries (command_item w) + 1) ≡ out =
        λ i. nat_lt (retries_of s.hosts (sym u.host_is i)) (count i) in
        let now : ending_of x.ended w ≡ first_of (ending_of b.ended w) (if out then Some unanswered else None) = h
        ∙ (λ i. ended_if (test i) (ending_of b.ended w) unanswered) ∙ ended_then out (ending_of b.ended w) unanswered in
        made (f ∙ count) now (λ z. now ∙ (λ i. first_of (u.opens i) (if z i then Some unanswered else None)))

pub all_told : (s : ScenarioValue) (p : List Row) (m : ℕ) (c : CmdDef) → Obeys s → IsPrompt s p
    → command_at s.commands m ≡ Some c → IsTold s p m c
all_told s [] m c o prompt at =
    record { tries = refl; ending = refl; tried = λ e. absurd (none_less (retries_of s.hosts c.host) e) }
  where
    none_less : (r : ℕ) → nat_lt r 0 ≡ true → ⊥
    none_less r e = grind (arith, nat_tests)
all_told s (row ∷ p) m c o prompt at = told_next s p row m c o prompt at (all_told s p m c o prompt.0 at)
