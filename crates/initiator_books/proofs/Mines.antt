-- What an initiator keeps of its own commands goes on by what is sent, what is over, and by events.
use Rattle.std.proofs.Common.{ℕ, ◌≡◌, ◌+◌, ◌<◌, Bool, true, false, List, [], ◌∷◌, ◌∙◌, refl, sym, ap, arith}
use Rattle.std.specs.Prelude.{if◌then◌else◌, ◌&&◌, ◌||◌, ◌==◌, ◌++◌, map}
use Rattle.std.proofs.lemmas.Bool.{ne_eqb, eq-eqb}
use Rattle.std.specs.List.{list_any}
use Rattle.bus_base.specs.declared.ProcId.{ProcId}
use Rattle.bus_base.specs.declared.AbortKind.{AbortKind}
use Rattle.bus_base.specs.declared.AbortKind.TheVariants as aborts
use Rattle.bus_base.specs.declared.Event.{Event}
use Rattle.bus_base.specs.declared.Event.TheVariants as events
use Rattle.scenario.specs.declared.value.CmdDef.{CmdDef}
use Rattle.scenario.specs.Value.{ScenarioValue}
use Rattle.story_model.specs.Items.{Sent, process, command_item, sense_item, has_item, count_item, is_open}
use Rattle.story_model.specs.Story.{Story, Ending, by_status, by_abort, by_reset, story_with_over, story_with_end}
use Rattle.story_model.specs.Story.{story_with_ends, is_aborted, is_sense_stopped, story_after_event, story_with_end_if}
use Rattle.due_model.specs.Wants.{own_command, own_commands}
use Rattle.initiator_books.specs.declared.mine.Mine.{Mine}
use Rattle.initiator_books.specs.Mines.{capped, mine_of, mines_of, with_sent, with_over, with_one_try, with_checked}
use Rattle.initiator_books.specs.Mines.{with_status, is_check, sent_at, over_at, tried_at, mine_with_end}
use Rattle.initiator_books.specs.Mines.{is_mine_aborted, is_my_sense_stopped, mine_after_event}
use Rattle.initiator_books.proofs.Queues.{any_with}

abbrev mine : Sent → ℕ → CmdDef → Mine
mine b m c = mine_of b.checks (own_command b m c)

abbrev pub mines_from : Sent → ℕ → ℕ → List CmdDef → List Mine
mines_from b dev n commands = map (mine_of b.checks) (own_commands b dev n commands)

-- ---- what is done to each is done to the list

pub mines_go_on : (b d : Sent) (f : Mine → Mine) (dev n : ℕ) (commands : List CmdDef)
    → ((m : ℕ) (c : CmdDef) → mine d m c ≡ f (mine b m c))
    → mines_from d dev n commands ≡ map f (mines_from b dev n commands)
mines_go_on b d f dev n [] h = refl
mines_go_on b d f dev n (c ∷ commands) h = go (mines_go_on b d f dev (n + 1) commands h) (c.host == dev)
  where
    go : mines_from d dev (n + 1) commands ≡ map f (mines_from b dev (n + 1) commands) → (q : Bool)
        → map (mine_of d.checks)
        (if q then own_command d n c ∷ own_commands d dev (n + 1) commands else own_commands d dev (n + 1) commands)
        ≡ map f (map (mine_of b.checks)
        (if q then own_command b n c ∷ own_commands b dev (n + 1) commands else own_commands b dev (n + 1) commands))
    go r true = λ i. h n c i ∷ r i
    go r false = r

pub mines_stay : (b d : Sent) (dev n : ℕ) (commands : List CmdDef)
    → ((m : ℕ) (c : CmdDef) → mine d m c ≡ mine b m c) → mines_from d dev n commands ≡ mines_from b dev n commands
mines_stay b d dev n [] h = refl
mines_stay b d dev n (c ∷ commands) h = go (mines_stay b d dev (n + 1) commands h) (c.host == dev)
  where
    go : mines_from d dev (n + 1) commands ≡ mines_from b dev (n + 1) commands → (q : Bool) → map (mine_of d.checks)
        (if q then own_command d n c ∷ own_commands d dev (n + 1) commands else own_commands d dev (n + 1) commands)
        ≡ map (mine_of b.checks)
        (if q then own_command b n c ∷ own_commands b dev (n + 1) commands else own_commands b dev (n + 1) commands)
    go r true = λ i. h n c i ∷ r i
    go r false = r

-- ---- one process is sent, or is over, or was called for in vain

one_sent : (b : Sent) (n : ℕ) (senses : Bool) (m : ℕ) (c : CmdDef)
    → mine (record b { sent = process (record { command = n; sense = senses }) ∷ b.sent }) m c
    ≡ sent_at (record { command = n; sense = senses }) (mine b m c)
one_sent b n true m c = go (n == m)
  where
    go : (q : Bool) → mine_of b.checks (record {
      number = m;
      def = c;
      sent = q && false || has_item b.sent (command_item m);
      over = has_item b.over (command_item m);
      sense_sent = q && true || has_item b.sent (sense_item m);
      sense_over = has_item b.over (sense_item m);
      tries = count_item b.tries (command_item m);
    }) ≡ (if q then with_sent true (mine b m c) else mine b m c)
    go true = refl
    go false = refl
one_sent b n false m c = go (n == m)
  where
    go : (q : Bool) → mine_of b.checks (record {
      number = m;
      def = c;
      sent = q && true || has_item b.sent (command_item m);
      over = has_item b.over (command_item m);
      sense_sent = q && false || has_item b.sent (sense_item m);
      sense_over = has_item b.over (sense_item m);
      tries = count_item b.tries (command_item m);
    }) ≡ (if q then with_sent false (mine b m c) else mine b m c)
    go true = refl
    go false = refl

one_over : (b : Sent) (n : ℕ) (senses : Bool) (m : ℕ) (c : CmdDef)
    → mine (record b { over = process (record { command = n; sense = senses }) ∷ b.over }) m c
    ≡ over_at (record { command = n; sense = senses }) (mine b m c)
one_over b n true m c = go (n == m)
  where
    go : (q : Bool) → mine_of b.checks (record {
      number = m;
      def = c;
      sent = has_item b.sent (command_item m);
      over = q && false || has_item b.over (command_item m);
      sense_sent = has_item b.sent (sense_item m);
      sense_over = q && true || has_item b.over (sense_item m);
      tries = count_item b.tries (command_item m);
    }) ≡ (if q then with_over true (mine b m c) else mine b m c)
    go true = refl
    go false = refl
one_over b n false m c = go (n == m)
  where
    go : (q : Bool) → mine_of b.checks (record {
      number = m;
      def = c;
      sent = has_item b.sent (command_item m);
      over = q && true || has_item b.over (command_item m);
      sense_sent = has_item b.sent (sense_item m);
      sense_over = q && false || has_item b.over (sense_item m);
      tries = count_item b.tries (command_item m);
    }) ≡ (if q then with_over false (mine b m c) else mine b m c)
    go true = refl
    go false = refl

pub all_sent : (b : Sent) (id : ProcId) (dev : ℕ) (commands : List CmdDef)
    → mines_of (record b { sent = process id ∷ b.sent }) dev commands
    ≡ map (λ (m : Mine). sent_at id m) (mines_of b dev commands)
all_sent b id dev commands = mines_go_on b (record b { sent = process id ∷ b.sent })
    (λ (m : Mine). sent_at id m) dev 1 commands (λ m c. one_sent b id.command id.sense m c)

pub all_over : (b : Sent) (id : ProcId) (dev : ℕ) (commands : List CmdDef)
    → mines_of (record b { over = process id ∷ b.over }) dev commands
    ≡ map (λ (m : Mine). over_at id m) (mines_of b dev commands)
all_over b id dev commands = mines_go_on b (record b { over = process id ∷ b.over })
    (λ (m : Mine). over_at id m) dev 1 commands (λ m c. one_over b id.command id.sense m c)

-- An unanswered calling counts for a command alone; an abort concerns none of them.
pub capped_more : (n : ℕ) → capped (n + 1) ≡ capped (capped n + 1)
capped_more n = omega arith

one_try : (b : Sent) (n m : ℕ) (c : CmdDef)
    → mine (record b { tries = command_item n ∷ b.tries }) m c ≡ tried_at n (mine b m c)
one_try b n m c = go (n == m)
  where
    go : (q : Bool) → record (mine b m c) {
      tries =
          capped (if q && true then count_item b.tries (command_item m) + 1 else count_item b.tries (command_item m));
    } ≡ (if q then with_one_try (mine b m c) else mine b m c)
    go true = λ i. record (mine b m c) { tries = capped_more (count_item b.tries (command_item m)) i }
    go false = refl

pub all_tried : (b : Sent) (n dev : ℕ) (commands : List CmdDef)
    → mines_of (record b { tries = command_item n ∷ b.tries }) dev commands
    ≡ map (λ (m : Mine). tried_at n m) (mines_of b dev commands)
all_tried b n dev commands = mines_go_on b (record b { tries = command_item n ∷ b.tries })
    (λ (m : Mine). tried_at n m) dev 1 commands (λ m c. one_try b n m c)

-- ---- every command that two tests name, in turn

unfoldable pub step : (CmdDef → Bool) → (CmdDef → Bool) → Ending → ℕ → CmdDef → Story → Story
step drops stops e n c b =
    story_with_end_if drops stops e n c b

other_over : (b : Sent) (n : ℕ) (senses : Bool) (m : ℕ) (d : CmdDef) → (n == m) ≡ false
    → mine (record b { over = process (record { command = n; sense = senses }) ∷ b.over }) m d ≡ mine b m d
other_over b n senses m d e =
    one_over b n senses m d ∙ ap (λ (q : Bool). if q then with_over senses (mine b m d) else mine b m d) e

this_over : (b : Sent) (n : ℕ) (senses : Bool) (d : CmdDef)
    → mine (record b { over = process (record { command = n; sense = senses }) ∷ b.over }) n d
    ≡ with_over senses (mine b n d)
this_over b n senses d = one_over b n senses n d
    ∙ ap (λ (q : Bool). if q then with_over senses (mine b n d) else mine b n d) (eq-eqb n n refl)

step_other : (drops stops : CmdDef → Bool) (e : Ending) (n : ℕ) (c : CmdDef) (b : Story) (m : ℕ) (d : CmdDef)
    → (n == m) ≡ false → mine (step drops stops e n c b).sent m d ≡ mine b.sent m d
unfolding step
step_other drops stops e n c b m d h =
    go (is_open b.sent n && drops c) (stops c && list_any (λ k. k == n) b.sent.checks)
  where
    go : (p q : Bool) → mine (if p then story_with_end b (record { command = n; sense = false }) e
        else if q then story_with_over b (sense_item n) else b).sent m d ≡ mine b.sent m d
    go true q = other_over b.sent n false m d h
    go false true = other_over b.sent n true m d h
    go false false = refl

pub step_checks : (drops stops : CmdDef → Bool) (e : Ending) (n : ℕ) (c : CmdDef) (b : Story)
    → (step drops stops e n c b).sent.checks ≡ b.sent.checks
unfolding step
step_checks drops stops e n c b = go (is_open b.sent n && drops c) (stops c && list_any (λ k. k == n) b.sent.checks)
  where
    go : (p q : Bool) → (if p then story_with_end b (record { command = n; sense = false }) e
        else if q then story_with_over b (sense_item n) else b).sent.checks ≡ b.sent.checks
    go true q = refl
    go false true = refl
    go false false = refl

-- Tests of a command, and of what is kept of it.
record AreTests (tests : CmdDef → Bool) (of_mine : Mine → Bool) : Type 0 where
  same : (b : Sent) (m : ℕ) (c : CmdDef) → of_mine (mine b m c) ≡ tests c

step_this : (drops stops : CmdDef → Bool) (f g : Mine → Bool) → AreTests drops f → AreTests stops g
    → (e : Ending) (n : ℕ) (c : CmdDef) (b : Story) → mine (step drops stops e n c b).sent n c
    ≡ mine_with_end (f (mine b.sent n c)) (g (mine b.sent n c)) (mine b.sent n c)
unfolding step
step_this drops stops f g x y e n c b =
    go (is_open b.sent n && drops c) (stops c && list_any (λ k. k == n) b.sent.checks)
    ∙ (λ i. mine_with_end (sym (x.same b.sent n c) i) (sym (y.same b.sent n c) i) (mine b.sent n c))
  where
    go : (p q : Bool) → mine (if p then story_with_end b (record { command = n; sense = false }) e
        else if q then story_with_over b (sense_item n) else b).sent n c
        ≡ (if p then record (mine b.sent n c) { over = true }
        else if q then record (mine b.sent n c) { sense_over = true } else mine b.sent n c)
    go true q = this_over b.sent n false c
    go false true = this_over b.sent n true c
    go false false = refl

-- What is done to a command leaves those before it, and those after it.
earlier : (drops stops : CmdDef → Bool) (e : Ending) (commands : List CmdDef) (b : Story) (n m : ℕ) (d : CmdDef) → m < n
    → mine (story_with_ends drops stops e n commands b).sent m d ≡ mine b.sent m d
unfolding step
earlier drops stops e [] b n m d h = refl
earlier drops stops e (c ∷ commands) b n m d h =
    earlier drops stops e commands (step drops stops e n c b) (n + 1) m d (omega (arith, h))
    ∙ step_other drops stops e n c b m d (ne_eqb n m (λ z. omega (arith, z, h)))

later : (drops stops : CmdDef → Bool) (e : Ending) (k : ℕ) (c : CmdDef) (b : Story) (dev n : ℕ) (commands : List CmdDef)
    → k < n → mines_from (step drops stops e k c b).sent dev n commands ≡ mines_from b.sent dev n commands
later drops stops e k c b dev n [] h = refl
later drops stops e k c b dev n (d ∷ commands) h =
    go (later drops stops e k c b dev (n + 1) commands (omega (arith, h))) (d.host == dev)
  where
    go : mines_from (step drops stops e k c b).sent dev (n + 1) commands ≡ mines_from b.sent dev (n + 1) commands
        → (q : Bool) → map (mine_of (step drops stops e k c b).sent.checks)
        (if q then own_command (step drops stops e k c b).sent n d
        ∷ own_commands (step drops stops e k c b).sent dev (n + 1) commands
        else own_commands (step drops stops e k c b).sent dev (n + 1) commands)
        ≡ map (mine_of b.sent.checks) (if q then own_command b.sent n d ∷ own_commands b.sent dev (n + 1) commands
        else own_commands b.sent dev (n + 1) commands)
    go r true = λ i. step_other drops stops e k c b n d (ne_eqb k n (λ z. omega (arith, z, h))) i ∷ r i
    go r false = r

all_over_by : (drops stops : CmdDef → Bool) (f g : Mine → Bool) → AreTests drops f
    → AreTests stops g → (e : Ending) (dev n : ℕ) (commands : List CmdDef) (b : Story)
    → mines_from (story_with_ends drops stops e n commands b).sent dev n commands
    ≡ map (λ (m : Mine). mine_with_end (f m) (g m) m) (mines_from b.sent dev n commands)
unfolding step
all_over_by drops stops f g x y e dev n [] b = refl
all_over_by drops stops f g x y e dev n (c ∷ commands) b =
    go (all_over_by drops stops f g x y e dev (n + 1) commands (step drops stops e n c b)
    ∙ (λ i. map (λ (m : Mine). mine_with_end (f m) (g m) m)
    (later drops stops e n c b dev (n + 1) commands (omega arith) i))) (c.host == dev)
  where
    this : mine (story_with_ends drops stops e (n + 1) commands (step drops stops e n c b)).sent n c
        ≡ mine_with_end (f (mine b.sent n c)) (g (mine b.sent n c)) (mine b.sent n c)
    this = earlier drops stops e commands (step drops stops e n c b) (n + 1) n c (omega arith)
        ∙ step_this drops stops f g x y e n c b

    go :
        mines_from (story_with_ends drops stops e (n + 1) commands (step drops stops e n c b)).sent dev (n + 1) commands
        ≡ map (λ (m : Mine). mine_with_end (f m) (g m) m) (mines_from b.sent dev (n + 1) commands) → (q : Bool)
        → map (mine_of (story_with_ends drops stops e (n + 1) commands (step drops stops e n c b)).sent.checks)
        (if q then own_command (story_with_ends drops stops e (n + 1) commands (step drops stops e n c b)).sent n c
        ∷ own_commands (story_with_ends drops stops e (n + 1) commands (step drops stops e n c b)).sent dev
        (n + 1) commands else own_commands
        (story_with_ends drops stops e (n + 1) commands (step drops stops e n c b)).sent dev (n + 1) commands)
        ≡ map (λ (m : Mine). mine_with_end (f m) (g m) m)
        (map (mine_of b.sent.checks) (if q then own_command b.sent n c ∷ own_commands b.sent dev (n + 1) commands
        else own_commands b.sent dev (n + 1) commands))
    go r true = λ i. this i ∷ r i
    go r false = r

-- ---- an event

aborted_same : (host target unit : ℕ) (what : AbortKind)
    → AreTests (is_aborted host target unit what) (λ o. is_mine_aborted host target unit what o)
aborted_same host target unit aborts.All = record { same = λ b m c. refl }
aborted_same host target unit (aborts.Tag n) = record { same = λ b m c. refl }
aborted_same host target unit aborts.WholeQueue = record { same = λ b m c. refl }
aborted_same host target unit aborts.Device = record { same = λ b m c. refl }

stopped_same : (host target unit : ℕ) (what : AbortKind)
    → AreTests (is_sense_stopped host target unit what) (λ o. is_my_sense_stopped host target unit what o)
stopped_same host target unit aborts.All = record { same = λ b m c. refl }
stopped_same host target unit (aborts.Tag n) = record { same = λ b m c. refl }
stopped_same host target unit aborts.WholeQueue = record { same = λ b m c. refl }
stopped_same host target unit aborts.Device = record { same = λ b m c. refl }

all_same : AreTests (λ c. true) (λ o. true)
all_same = record { same = λ b m c. refl }

map_same : (mines : List Mine) → mines ≡ map (λ (m : Mine). m) mines
map_same [] = refl
map_same (m ∷ mines) = λ i. m ∷ map_same mines i

end_checks : (b : Sent) (id : ProcId) (status m : ℕ) (c : CmdDef)
    → mine (record b { over = process id ∷ b.over; checks = b.checks ++ id.command ∷ [] }) m c
    ≡ (if id.command == m then with_checked (with_over id.sense (mine b m c)) else mine b m c)
end_checks b id status m c =
    (λ i. record (one_over b id.command id.sense m c i) { checked = any_with b.checks id.command m i })
    ∙ go (id.command == m) (list_any (λ k. k == m) b.checks)
  where
    go : (p q : Bool) → record (if p then with_over id.sense (mine b m c) else mine b m c) {
      checked = q || p;
    } ≡ (if p then record (with_over id.sense (mine b m c)) { checked = true } else record (mine b m c) { checked = q })
    go true true = refl
    go true false = refl
    go false true = refl
    go false false = refl

pub mines_after_event : (s : ScenarioValue) (b : Story) (e : Event) (dev : ℕ)
    → mines_of (story_after_event s b e).sent dev s.commands
    ≡ map (λ (m : Mine). mine_after_event e m) (mines_of b.sent dev s.commands)
mines_after_event s b (events.Accept id) dev = map_same (mines_of b.sent dev s.commands)
mines_after_event s b (events.Refuse id) dev = map_same (mines_of b.sent dev s.commands)
mines_after_event s b (events.Run id) dev = map_same (mines_of b.sent dev s.commands)
mines_after_event s b (events.Fail id code) dev = map_same (mines_of b.sent dev s.commands)
mines_after_event s b (events.End id status) dev = go (is_check id status)
  where
    go : (q : Bool) → mines_of (if q then record (story_with_end b id (by_status status)) {
      sent = record (story_with_end b id (by_status status)).sent { checks = b.sent.checks ++ id.command ∷ [] };
    } else story_with_end b id (by_status status)).sent dev s.commands
        ≡ map (λ (m : Mine). if id.command == m.number then with_status q (with_over id.sense m) else m)
        (mines_of b.sent dev s.commands)
    go true = mines_go_on b.sent (record b.sent {
      over = process id ∷ b.sent.over;
      checks = b.sent.checks ++ id.command ∷ [];
    }) _ dev 1 s.commands (λ m c. end_checks b.sent id status m c)
    go false = all_over b.sent id dev s.commands
mines_after_event s b (events.Lost id) dev = all_over b.sent id dev s.commands
mines_after_event s b (events.Aborted host target unit what) dev = all_over_by (is_aborted host target unit what)
    (is_sense_stopped host target unit what) (λ o. is_mine_aborted host target unit what o)
    (λ o. is_my_sense_stopped host target unit what o) (aborted_same host target unit what)
    (stopped_same host target unit what) by_abort dev 1 s.commands b
mines_after_event s b (events.Reset d) dev =
    all_over_by (λ c. true) (λ c. true) (λ o. true) (λ o. true) all_same all_same by_reset dev 1 s.commands b
