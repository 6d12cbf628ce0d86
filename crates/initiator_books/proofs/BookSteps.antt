-- The book of an initiator goes on by what is sent, what is over, what was called for in vain, and by events.
use Rattle.std.proofs.Common.{ℕ, ◌≡◌, ◌+◌, Bool, true, false, List, [], ◌∷◌, ◌++◌, ◌∙◌, refl, sym, ap, arith, length}
use Rattle.std.specs.Prelude.{if◌then◌else◌, not, ◌&&◌, ◌||◌, ◌==◌, nat_lt, map}
use Rattle.std.specs.List.{list_any}
use Rattle.bus_base.specs.declared.ProcId.{ProcId}
use Rattle.bus_base.specs.declared.Event.{Event}
use Rattle.bus_base.specs.declared.Event.TheVariants as events
use Rattle.scenario.specs.declared.value.CmdDef.{CmdDef}
use Rattle.scenario.specs.declared.value.AbortDef.{AbortDef}
use Rattle.scenario.specs.Value.{ScenarioValue}
use Rattle.story_model.specs.Items.{Sent, process, abort, command_item, sense_item, has_item, count_item, is_done}
use Rattle.story_model.specs.Items.{is_open, open_limit_of}
use Rattle.story_model.specs.Story.{Story, Ending, by_status, by_abort, by_reset, story_with_over, story_with_end}
use Rattle.story_model.specs.Story.{story_with_ends, is_aborted, is_sense_stopped, story_after_event}
use Rattle.story_model.proofs.StorySteps.{ends_checks}
use Rattle.due_model.specs.Wants.{own_command}
use Rattle.initiator_books.specs.declared.mine.Mine.{Mine}
use Rattle.initiator_books.specs.declared.mine.MyAbort.{MyAbort}
use Rattle.initiator_books.specs.Mines.{mine_of, mines_of, capped, my_abort, my_aborts, with_sent, with_over}
use Rattle.initiator_books.specs.Mines.{with_one_try, with_status, is_check, sent_at, over_at, tried_at, mine_with_end}
use Rattle.initiator_books.specs.Mines.{is_mine_aborted, is_my_sense_stopped, mine_after_event}
use Rattle.initiator_books.specs.Books.{has_number, queue_with, queue_from, my_book, book_with_sent, book_with_over}
use Rattle.initiator_books.specs.Books.{book_with_try, done_at, book_with_done, abort_tried_at, book_with_abort_try}
use Rattle.initiator_books.specs.Books.{book_after_event}
use Rattle.initiator_books.proofs.Mines.{mines_stay, all_sent, all_over, all_tried, mines_after_event, step}
use Rattle.initiator_books.proofs.Mines.{capped_more}

-- ---- numbers stay

same_numbers : (f : Mine → Mine) → ((m : Mine) → (f m).number ≡ m.number) → (mines : List Mine) (n : ℕ)
    → has_number (map f mines) n ≡ has_number mines n
same_numbers f h [] n = refl
same_numbers f h (m ∷ mines) n = λ i. h m i == n || same_numbers f h mines n i

sent_number : (id : ProcId) (m : Mine) → (sent_at id m).number ≡ m.number
sent_number id m = go (id.command == m.number) id.sense
  where
    go : (q sense : Bool) → (if q then with_sent sense m else m).number ≡ m.number
    go true true = refl
    go true false = refl
    go false sense = refl

over_number : (id : ProcId) (m : Mine) → (over_at id m).number ≡ m.number
over_number id m = go (id.command == m.number) id.sense
  where
    go : (q sense : Bool) → (if q then with_over sense m else m).number ≡ m.number
    go true true = refl
    go true false = refl
    go false sense = refl

tried_number : (n : ℕ) (m : Mine) → (tried_at n m).number ≡ m.number
tried_number n m = go (n == m.number)
  where
    go : (q : Bool) → (if q then with_one_try m else m).number ≡ m.number
    go true = refl
    go false = refl

end_number : (drops stops : Bool) (m : Mine) → (mine_with_end drops stops m).number ≡ m.number
end_number drops stops m = go (m.sent && not m.over && drops) (stops && m.checked)
  where
    go : (p q : Bool)
        → (if p then record m { over = true } else if q then record m { sense_over = true } else m).number ≡ m.number
    go true q = refl
    go false true = refl
    go false false = refl

pub event_number : (e : Event) (m : Mine) → (mine_after_event e m).number ≡ m.number
event_number (events.Accept id) m = refl
event_number (events.Refuse id) m = refl
event_number (events.Run id) m = refl
event_number (events.Fail id code) m = refl
event_number (events.End id status) m = go (id.command == m.number) (is_check id status) id.sense
  where
    go : (q check sense : Bool) → (if q then with_status check (with_over sense m) else m).number ≡ m.number
    go true true true = refl
    go true true false = refl
    go true false true = refl
    go true false false = refl
    go false check sense = refl
event_number (events.Lost id) m = over_number id m
event_number (events.Aborted host target unit what) m =
    end_number (is_mine_aborted host target unit what m) (is_my_sense_stopped host target unit what m) m
event_number (events.Reset dev) m = end_number true true m

-- ---- the queue

queue_same : (mines others : List Mine) (room : ℕ) → ((n : ℕ) → has_number others n ≡ has_number mines n)
    → (checks queue : List ℕ) → queue_from others room queue checks ≡ queue_from mines room queue checks
queue_same mines others room h [] queue = refl
queue_same mines others room h (n ∷ checks) queue =
    queue_same mines others room h checks (queue_with others room queue n) ∙ (λ i. queue_from mines room
    (if h n i && not (list_any (λ k. k == n) queue) && nat_lt (length queue) room then queue ++ n ∷ [] else queue)
    checks)

queue_more : (mines : List Mine) (room : ℕ) (checks queue : List ℕ) (n : ℕ)
    → queue_from mines room queue (checks ++ n ∷ []) ≡ queue_with mines room (queue_from mines room queue checks) n
queue_more mines room [] queue n = refl
queue_more mines room (k ∷ checks) queue n = queue_more mines room checks (queue_with mines room queue k) n

-- ---- aborts

pub aborts_go_on : (b d : Sent) (f : MyAbort → MyAbort) (dev k : ℕ) (aborts : List AbortDef)
    → ((n : ℕ) (a : AbortDef) → my_abort d n a ≡ f (my_abort b n a))
    → my_aborts d dev k aborts ≡ map f (my_aborts b dev k aborts)
aborts_go_on b d f dev k [] h = refl
aborts_go_on b d f dev k (a ∷ aborts) h = go (aborts_go_on b d f dev (k + 1) aborts h) (a.host == dev)
  where
    go : my_aborts d dev (k + 1) aborts ≡ map f (my_aborts b dev (k + 1) aborts) → (q : Bool)
        → (if q then my_abort d k a ∷ my_aborts d dev (k + 1) aborts else my_aborts d dev (k + 1) aborts)
        ≡ map f (if q then my_abort b k a ∷ my_aborts b dev (k + 1) aborts else my_aborts b dev (k + 1) aborts)
    go r true = λ i. h k a i ∷ r i
    go r false = r

aborts_stay : (b d : Sent) (dev k : ℕ) (aborts : List AbortDef)
    → ((n : ℕ) (a : AbortDef) → my_abort d n a ≡ my_abort b n a) → my_aborts d dev k aborts ≡ my_aborts b dev k aborts
aborts_stay b d dev k [] h = refl
aborts_stay b d dev k (a ∷ aborts) h = go (aborts_stay b d dev (k + 1) aborts h) (a.host == dev)
  where
    go : my_aborts d dev (k + 1) aborts ≡ my_aborts b dev (k + 1) aborts → (q : Bool)
        → (if q then my_abort d k a ∷ my_aborts d dev (k + 1) aborts else my_aborts d dev (k + 1) aborts)
        ≡ (if q then my_abort b k a ∷ my_aborts b dev (k + 1) aborts else my_aborts b dev (k + 1) aborts)
    go r true = λ i. h k a i ∷ r i
    go r false = r

-- ---- what every command that two tests name leaves

step_aborts : (drops stops : CmdDef → Bool) (e : Ending) (n : ℕ) (c : CmdDef) (b : Story) (m : ℕ) (a : AbortDef)
    → my_abort (step drops stops e n c b).sent m a ≡ my_abort b.sent m a
unfolding step
step_aborts drops stops e n c b m a = go (is_open b.sent n && drops c) (stops c && list_any (λ k. k == n) b.sent.checks)
  where
    go : (p q : Bool) → my_abort (if p then story_with_end b (record { command = n; sense = false }) e
        else if q then story_with_over b (sense_item n) else b).sent m a ≡ my_abort b.sent m a
    go true q = refl
    go false true = refl
    go false false = refl

ends_aborts :
    (drops stops : CmdDef → Bool) (e : Ending) (n : ℕ) (commands : List CmdDef) (b : Story) (m : ℕ) (a : AbortDef)
    → my_abort (story_with_ends drops stops e n commands b).sent m a ≡ my_abort b.sent m a
unfolding step
ends_aborts drops stops e n [] b m a = refl
ends_aborts drops stops e n (c ∷ commands) b m a =
    ends_aborts drops stops e (n + 1) commands (step drops stops e n c b) m a ∙ step_aborts drops stops e n c b m a

-- ---- the book

-- What changes marks alone.
marks_go_on : (s : ScenarioValue) (b d : Sent) (dev : ℕ) (f : Mine → Mine)
    → mines_of d dev s.commands ≡ map f (mines_of b dev s.commands) → ((m : Mine) → (f m).number ≡ m.number)
    → ((n : ℕ) (a : AbortDef) → my_abort d n a ≡ my_abort b n a) → d.checks ≡ b.checks
    → my_book s d dev ≡ record (my_book s b dev) { mines = map f (mines_of b dev s.commands) }
marks_go_on s b d dev f e h a c =
    let room : ℕ = length s.commands + 1 in
    (λ i. record {
      mines = e i;
      aborts = aborts_stay b d dev 1 s.aborts a i;
      queue = queue_from (e i) room [] (c i);
      room = room;
      most = open_limit_of s.hosts dev;
    })
    ∙ (λ i. record {
      mines = map f (mines_of b dev s.commands);
      aborts = my_aborts b dev 1 s.aborts;
      queue = queue_same (mines_of b dev s.commands) (map f (mines_of b dev s.commands)) room
          (λ n. same_numbers f h (mines_of b dev s.commands) n) b.checks [] i;
      room = room;
      most = open_limit_of s.hosts dev;
    })

or_or : (p q r : Bool) → ((p || q) || r) ≡ (p || (q || r))
or_or true q r = refl
or_or false q r = refl

over_or : (p q r : Bool) → (q || (p || r)) ≡ (p || (q || r))
over_or true true r = refl
over_or true false r = refl
over_or false true r = refl
over_or false false r = refl

abort_step : (s : ScenarioValue) (b d : Sent) (dev : ℕ) (f : MyAbort → MyAbort)
    → ((m : ℕ) (a : AbortDef) → my_abort d m a ≡ f (my_abort b m a))
    → ((m : ℕ) (c : CmdDef) → mine_of d.checks (own_command d m c) ≡ mine_of b.checks (own_command b m c))
    → d.checks ≡ b.checks → my_book s d dev ≡ record (my_book s b dev) { aborts = map f (my_aborts b dev 1 s.aborts) }
abort_step s b d dev f a m c =
    let room : ℕ = length s.commands + 1 in
    let marks : mines_of d dev s.commands ≡ mines_of b dev s.commands = mines_stay b d dev 1 s.commands m in
    λ i. record {
      mines = marks i;
      aborts = aborts_go_on b d f dev 1 s.aborts a i;
      queue = queue_from (marks i) room [] (c i);
      room = room;
      most = open_limit_of s.hosts dev;
    }

done_one : (b : Sent) (n m : ℕ) (a : AbortDef) (q : Bool)
    → record (my_abort b m a) { done = q || is_done b (abort m) }
    ≡ (if q then record (my_abort b m a) { done = true } else my_abort b m a)
done_one b n m a true = refl
done_one b n m a false = refl

tried_one : (b : Sent) (m : ℕ) (a : AbortDef) (q : Bool) → record (my_abort b m a) {
  tries = capped (if q then count_item b.tries (abort m) + 1 else count_item b.tries (abort m));
} ≡ (if q then record (my_abort b m a) { tries = capped ((my_abort b m a).tries + 1) } else my_abort b m a)
tried_one b m a true = λ i. record (my_abort b m a) { tries = capped_more (count_item b.tries (abort m)) i }
tried_one b m a false = refl

pub book_sent : (s : ScenarioValue) (b : Sent) (dev : ℕ) (id : ProcId)
    → my_book s (record b { sent = process id ∷ b.sent }) dev ≡ book_with_sent (my_book s b dev) id
book_sent s b dev id = marks_go_on s b (record b { sent = process id ∷ b.sent }) dev (λ m. sent_at id m)
    (all_sent b id dev s.commands) (λ m. sent_number id m) (λ n a. refl) refl

pub book_over : (s : ScenarioValue) (b : Sent) (dev : ℕ) (id : ProcId)
    → my_book s (record b { over = process id ∷ b.over }) dev ≡ book_with_over (my_book s b dev) id
book_over s b dev id = marks_go_on s b (record b { over = process id ∷ b.over }) dev (λ m. over_at id m)
    (all_over b id dev s.commands) (λ m. over_number id m) (λ n a. refl) refl

pub book_try : (s : ScenarioValue) (b : Sent) (dev n : ℕ)
    → my_book s (record b { tries = command_item n ∷ b.tries }) dev ≡ book_with_try (my_book s b dev) n
book_try s b dev n = marks_go_on s b (record b { tries = command_item n ∷ b.tries }) dev (λ m. tried_at n m)
    (all_tried b n dev s.commands) (λ m. tried_number n m) (λ n a. refl) refl

pub book_after : (s : ScenarioValue) (b : Story) (e : Event) (dev : ℕ)
    → my_book s (story_after_event s b e).sent dev ≡ book_after_event (my_book s b.sent dev) e
book_after s b (events.Accept id) dev = marks_go_on s b.sent b.sent dev (λ m. m)
    (mines_after_event s b (events.Accept id) dev) (λ m. refl) (λ n a. refl) refl
book_after s b (events.Refuse id) dev = marks_go_on s b.sent b.sent dev (λ m. m)
    (mines_after_event s b (events.Refuse id) dev) (λ m. refl) (λ n a. refl) refl
book_after s b (events.Run id) dev =
    marks_go_on s b.sent b.sent dev (λ m. m) (mines_after_event s b (events.Run id) dev) (λ m. refl) (λ n a. refl) refl
book_after s b (events.Fail id code) dev = marks_go_on s b.sent b.sent dev (λ m. m)
    (mines_after_event s b (events.Fail id code) dev) (λ m. refl) (λ n a. refl) refl
book_after s b (events.Lost id) dev = marks_go_on s b.sent (story_after_event s b (events.Lost id)).sent dev
    (λ m. mine_after_event (events.Lost id) m) (mines_after_event s b (events.Lost id) dev)
    (λ m. event_number (events.Lost id) m) (λ n a. refl) refl
book_after s b (events.Aborted host target unit what) dev = marks_go_on s b.sent
    (story_after_event s b (events.Aborted host target unit what)).sent dev (λ m. mine_after_event
    (events.Aborted host target unit what) m) (mines_after_event s b (events.Aborted host target unit what) dev)
    (λ m. event_number (events.Aborted host target unit what) m) (λ n a. ends_aborts
    (is_aborted host target unit what) (is_sense_stopped host target unit what) by_abort 1 s.commands b n a)
    (ends_checks (is_aborted host target unit what) (is_sense_stopped host target unit what) by_abort 1 s.commands b)
book_after s b (events.Reset d) dev = marks_go_on s b.sent (story_after_event s b (events.Reset d)).sent dev
    (λ m. mine_after_event (events.Reset d) m) (mines_after_event s b (events.Reset d) dev)
    (λ m. event_number (events.Reset d) m) (λ n a. ends_aborts (λ c. true) (λ c. true) by_reset 1 s.commands b n a)
    (ends_checks (λ c. true) (λ c. true) by_reset 1 s.commands b)
book_after s b (events.End id status) dev = go (is_check id status) refl
  where
    go : (q : Bool) → is_check id status ≡ q → my_book s (story_after_event s b (events.End id status)).sent dev
        ≡ book_after_event (my_book s b.sent dev) (events.End id status)
    go true e =
        let room : ℕ = length s.commands + 1 in
        let mines : List Mine = mines_of b.sent dev s.commands in
        let f : Mine → Mine = λ m. mine_after_event (events.End id status) m in
        let d : Sent = record b.sent { over = process id ∷ b.sent.over; checks = b.sent.checks ++ id.command ∷ [] } in
        let marks : mines_of d dev s.commands ≡ map f mines =
        (λ i. mines_of (if sym e i then record (story_with_end b id (by_status status)) {
          sent = record (story_with_end b id (by_status status)).sent { checks = b.sent.checks ++ id.command ∷ [] };
        } else story_with_end b id (by_status status)).sent dev s.commands)
        ∙ mines_after_event s b (events.End id status) dev in
        (λ i. my_book s (if e i then record (story_with_end b id (by_status status)) {
          sent = record (story_with_end b id (by_status status)).sent { checks = b.sent.checks ++ id.command ∷ [] };
        } else story_with_end b id (by_status status)).sent dev)
        ∙ (λ i. record {
          mines = marks i;
          aborts = aborts_stay b.sent d dev 1 s.aborts (λ n a. refl) i;
          queue = (ap (λ (m : List Mine). queue_from m room [] (b.sent.checks ++ id.command ∷ [])) marks ∙ queue_same
              mines (map f mines) room (λ n. same_numbers f (λ m. event_number (events.End id status) m) mines n)
              (b.sent.checks ++ id.command ∷ []) [] ∙ queue_more mines room b.sent.checks [] id.command) i;
          room = room;
          most = open_limit_of s.hosts dev;
        }) ∙ (λ i. record {
          mines = map f mines;
          aborts = my_aborts b.sent dev 1 s.aborts;
          queue =
              if sym e i then queue_with mines room (queue_from mines room [] b.sent.checks) id.command
              else queue_from mines room [] b.sent.checks;
          room = room;
          most = open_limit_of s.hosts dev;
        })
    go false e =
        let room : ℕ = length s.commands + 1 in
        let mines : List Mine = mines_of b.sent dev s.commands in
        let f : Mine → Mine = λ m. mine_after_event (events.End id status) m in
        let d : Sent = record b.sent { over = process id ∷ b.sent.over } in
        let marks : mines_of d dev s.commands ≡ map f mines =
        (λ i. mines_of (if sym e i then record (story_with_end b id (by_status status)) {
          sent = record (story_with_end b id (by_status status)).sent { checks = b.sent.checks ++ id.command ∷ [] };
        } else story_with_end b id (by_status status)).sent dev s.commands)
        ∙ mines_after_event s b (events.End id status) dev in
        (λ i. my_book s (if e i then record (story_with_end b id (by_status status)) {
          sent = record (story_with_end b id (by_status status)).sent { checks = b.sent.checks ++ id.command ∷ [] };
        } else story_with_end b id (by_status status)).sent dev)
        ∙ marks_go_on s b.sent d dev f marks (λ m. event_number (events.End id status) m) (λ n a. refl) refl
        ∙ (λ i. record {
          mines = map f mines;
          aborts = my_aborts b.sent dev 1 s.aborts;
          queue =
              if sym e i then queue_with mines room (queue_from mines room [] b.sent.checks) id.command
              else queue_from mines room [] b.sent.checks;
          room = room;
          most = open_limit_of s.hosts dev;
        })

-- ---- an abort is sent, or given up

pub book_abort_sent : (s : ScenarioValue) (b : Sent) (dev n : ℕ)
    → my_book s (record b { sent = abort n ∷ b.sent }) dev ≡ book_with_done (my_book s b dev) n
book_abort_sent s b dev n = abort_step s b (record b { sent = abort n ∷ b.sent }) dev (λ a. done_at n a) (λ m a.
    (λ i. record (my_abort b m a) { done = or_or (n == m) (has_item b.sent (abort m)) (has_item b.over (abort m)) i })
    ∙ done_one b n m a (n == m)) (λ m c. refl) refl

pub book_abort_over : (s : ScenarioValue) (b : Sent) (dev n : ℕ)
    → my_book s (record b { over = abort n ∷ b.over }) dev ≡ book_with_done (my_book s b dev) n
book_abort_over s b dev n = abort_step s b (record b { over = abort n ∷ b.over }) dev (λ a. done_at n a) (λ m a.
    (λ i. record (my_abort b m a) { done = over_or (n == m) (has_item b.sent (abort m)) (has_item b.over (abort m)) i })
    ∙ done_one b n m a (n == m)) (λ m c. refl) refl

pub book_abort_try : (s : ScenarioValue) (b : Sent) (dev n : ℕ)
    → my_book s (record b { tries = abort n ∷ b.tries }) dev ≡ book_with_abort_try (my_book s b dev) n
book_abort_try s b dev n = abort_step s b (record b { tries = abort n ∷ b.tries }) dev (λ a. abort_tried_at n a)
    (λ m a. tried_one b m a (n == m)) (λ m c. refl) refl

-- An automatic REQUEST SENSE is called for without limit, and its callings are not counted.
no_sense : (b : Sent) (n m : ℕ) (c : CmdDef)
    → mine_of b.checks (own_command (record b { tries = sense_item n ∷ b.tries }) m c)
    ≡ mine_of b.checks (own_command b m c)
no_sense b n m c = go (n == m)
  where
    go : (q : Bool) → record (mine_of b.checks (own_command b m c)) {
      tries =
          capped (if q && false then count_item b.tries (command_item m) + 1 else count_item b.tries (command_item m));
    } ≡ mine_of b.checks (own_command b m c)
    go true = refl
    go false = refl

pub book_sense_try : (s : ScenarioValue) (b : Sent) (dev n : ℕ)
    → my_book s (record b { tries = sense_item n ∷ b.tries }) dev ≡ my_book s b dev
book_sense_try s b dev n =
    let d : Sent = record b { tries = sense_item n ∷ b.tries } in
    let marks : mines_of d dev s.commands ≡ mines_of b dev s.commands = mines_stay b d dev 1 s.commands
    (λ m c. no_sense b n m c) in
    λ i. record {
      mines = marks i;
      aborts = aborts_stay b d dev 1 s.aborts (λ m a. refl) i;
      queue = queue_from (marks i) (length s.commands + 1) [] b.checks;
      room = length s.commands + 1;
      most = open_limit_of s.hosts dev;
    }
