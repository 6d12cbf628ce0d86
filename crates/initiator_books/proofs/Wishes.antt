-- What an initiator wants goes on by what each row does.
use Rattle.std.proofs.Common.{inl, inr, ℕ, suc, zero, ◌≡◌, ◌≢◌, ◌<◌, Bool, true, false, List, [], ◌∷◌, ◌∙◌, refl, sym}
use Rattle.std.proofs.Common.{ap, subst, arith, Option, Some, None, length, length-set}
use Rattle.std.specs.Prelude.{if◌then◌else◌, not, ◌&&◌, ◌==◌, slice_set, slice_index_or, is_some, is_none, nat_lt, ⊤}
use Rattle.std.proofs.lemmas.Bool.{eqb-false, cases_eq, eq-eqb, eqb-true}
use Rattle.std.proofs.lemmas.Bool.Decides.{nat_tests}
use Rattle.std.proofs.lemmas.Grind.{common_steps, elements}
use Rattle.bus_trace.specs.declared.Row.{Row}
use Rattle.bus_trace.specs.declared.connection.Connection.{Connection}
use Rattle.bus_trace.specs.declared.selection.Call.{Call}
use Rattle.bus_trace.specs.declared.selection.Calling.{Calling}
use Rattle.bus_trace.specs.Changes.{rises, falls}
use Rattle.scenario.specs.Value.{ScenarioValue}
use Rattle.story_model.specs.BusState.{RowReading}
use Rattle.story_model.specs.Items.{Item, process, abort, command_item, Sent, count_item, item_at}
use Rattle.story_model.specs.Story.{Story}
use Rattle.story_model.specs.TraceHistory.{aim_of, retries_of, is_counted, story_without_answer, story_with_try}
use Rattle.story_model.specs.TraceHistory.{story_after_calling, story_after_calling_by, story_with_restored}
use Rattle.story_model.specs.TraceHistory.{story_with_sent, story_after_connection, story_with_carried, story_after_out}
use Rattle.story_model.specs.TraceHistory.{story_after_message, story_after_name, story_after_in, story_after_byte}
use Rattle.story_model.specs.TraceHistory.{story_after_crossing, story_after_fault, story_in_connection, story_with_aim}
use Rattle.story_model.specs.TraceHistory.{story_on_free_bus, story_on_bus, story_by_change, is_parity_error}
use Rattle.story_model.specs.TraceHistory.{carried_after_message_if, carried_after_byte_if, carried_after_fault_if}
use Rattle.story_model.specs.HistoryEvents.{carried_if}
use Rattle.story_model.specs.CarriedBytes.{CarriedBytes}
use Rattle.msg_grammar.specs.declared.message.MsgOut.{MsgOut}
use Rattle.msg_grammar.specs.declared.message.MsgIn.{MsgIn}
use Rattle.bus_trace.specs.declared.Kind.{Kind}
use Rattle.bus_trace.specs.declared.Kind.TheVariants.{Drives, Fault}
use Rattle.story_model.specs.Links.{Link, link_of, last_out, last_in, link_after_name}
use Rattle.initiator_books.specs.declared.mine.OwnItem.{OwnItem}
use Rattle.initiator_books.specs.declared.mine.OwnItem.TheVariants as own
use Rattle.initiator_books.specs.Mines.{capped}
use Rattle.initiator_books.specs.Books.{my_book, my_item, item_if, book_with_over, book_with_done}
use Rattle.initiator_books.specs.Wishes.{IsItemOf, IsItemIf, tries_in, abort_tries_in, Wish, IsWishBy, AreAims}
use Rattle.initiator_books.specs.Wishes.{command_tried, abort_tried, book_after_try, book_after_send, is_unanswered}
use Rattle.initiator_books.specs.Wishes.{is_call_in_vain, wish_after_connection, wish_with_entry, wish_on_free_bus}
use Rattle.initiator_books.specs.Wishes.{wish_on_bus, wish_by_change}
use Rattle.due_model.specs.dialogue_model.specs.Wants.{item_by}
use Rattle.due_model.specs.Wants.{book_of}
use Rattle.initiator_books.proofs.Books.{item_is}
use Rattle.initiator_books.proofs.BookSteps.{book_sent, book_over, book_try, book_abort_sent, book_abort_over}
use Rattle.initiator_books.proofs.BookSteps.{book_abort_try, book_sense_try}
use Rattle.initiator_books.proofs.Foreign.{others_sent, others_over, others_try, own_item, tries_are, abort_tries_are}
use Rattle.story_model.proofs.StorySteps.{restored_aims, sent_aims, restored_sent, calling_aims}
use Rattle.array_model.specs.Seats.{is_initiator}

-- ---- what each device last entered arbitration for

aim_at : (aims : List (Option Item)) (d : ℕ) → aim_of aims d ≡ slice_index_or aims d None
aim_at [] zero = refl
aim_at [] (suc d) = refl
aim_at (a ∷ aims) zero = refl
aim_at (a ∷ aims) (suc d) = aim_at aims d ∙ grind (arith, common_steps, elements)

-- ---- unanswered callings

no_more : (r n : ℕ) → r < 255 → nat_lt r (capped n) ≡ nat_lt r n
no_more r n h = grind (arith, nat_tests)

try_if : ScenarioValue → Story → Item → Bool → Story
try_if s next item true = story_without_answer next item
try_if s next item false = next

tried_command : (s : ScenarioValue) (b : Story) (dev n : ℕ) → retries_of s.hosts dev < 255
    → IsItemOf s dev (command_item n) → my_book s (story_with_try s b dev (Some (command_item n))).sent dev
    ≡ book_after_try (retries_of s.hosts dev) (my_book s b.sent dev) (Some (own.Command n))
tried_command s b dev n few h =
    let r : ℕ = retries_of s.hosts dev in
    let d : Sent = record b.sent { tries = command_item n ∷ b.sent.tries } in
    let count : ℕ = count_item d.tries (command_item n) in
    let known : nat_lt r (tries_in (my_book s d dev).mines n) ≡ nat_lt r count =
    ap (λ (x : ℕ). nat_lt r x) (tries_are d dev s.commands n h) ∙ no_more r count few in
    go (nat_lt r count) refl
    ∙ (λ i. if sym known i then book_with_over (my_book s d dev) (record { command = n; sense = false })
    else my_book s d dev) ∙ (λ i. command_tried r (book_try s b.sent dev n i) n)
  where
    go : (q : Bool) → nat_lt (retries_of s.hosts dev) (count_item (command_item n ∷ b.sent.tries) (command_item n)) ≡ q
        → my_book s
        (if q then story_without_answer (record b { sent = record b.sent { tries = command_item n ∷ b.sent.tries } })
        (command_item n) else record b { sent = record b.sent { tries = command_item n ∷ b.sent.tries } }).sent dev
        ≡ (if q then book_with_over (my_book s (record b.sent { tries = command_item n ∷ b.sent.tries }) dev) (record {
          command = n;
          sense = false;
        }) else my_book s (record b.sent { tries = command_item n ∷ b.sent.tries }) dev)
    go true e = book_over s (record b.sent { tries = command_item n ∷ b.sent.tries }) dev
        (record { command = n; sense = false })
    go false e = refl

tried_abort : (s : ScenarioValue) (b : Story) (dev n : ℕ) → retries_of s.hosts dev < 255 → IsItemOf s dev (abort n)
    → my_book s (story_with_try s b dev (Some (abort n))).sent dev
    ≡ book_after_try (retries_of s.hosts dev) (my_book s b.sent dev) (Some (own.Abort n))
tried_abort s b dev n few h =
    let r : ℕ = retries_of s.hosts dev in
    let d : Sent = record b.sent { tries = abort n ∷ b.sent.tries } in
    let count : ℕ = count_item d.tries (abort n) in
    let known : nat_lt r (abort_tries_in (my_book s d dev).aborts n) ≡ nat_lt r count =
    ap (λ (x : ℕ). nat_lt r x) (abort_tries_are d dev s.aborts n h) ∙ no_more r count few in
    go (nat_lt r count)
    ∙ (λ i. if sym known i then book_with_done (my_book s d dev) n else my_book s d dev)
    ∙ (λ i. abort_tried r (book_abort_try s b.sent dev n i) n)
  where
    go : (q : Bool) → my_book s
        (if q then story_without_answer (record b { sent = record b.sent { tries = abort n ∷ b.sent.tries } }) (abort n)
        else record b { sent = record b.sent { tries = abort n ∷ b.sent.tries } }).sent dev
        ≡ (if q then book_with_done (my_book s (record b.sent { tries = abort n ∷ b.sent.tries }) dev) n
        else my_book s (record b.sent { tries = abort n ∷ b.sent.tries }) dev)
    go true = book_abort_over s (record b.sent { tries = abort n ∷ b.sent.tries }) dev n
    go false = refl

-- Of its own.
tried : (s : ScenarioValue) (b : Story) (dev : ℕ) (i : Option OwnItem) → retries_of s.hosts dev < 255
    → IsItemIf s dev (item_if i) → my_book s (story_with_try s b dev (item_if i)).sent dev
    ≡ book_after_try (retries_of s.hosts dev) (my_book s b.sent dev) i
tried s b dev None few h = refl
tried s b dev (Some (own.Command n)) few h = tried_command s b dev n few h
tried s b dev (Some (own.Sense n)) few h = book_sense_try s b.sent dev n
tried s b dev (Some (own.Abort n)) few h = tried_abort s b dev n few h

-- Of another.
without_answer_over : (b : Story) (item : Item)
    → (story_without_answer b item).sent ≡ record b.sent { over = item ∷ b.sent.over }
without_answer_over b (process id) = refl
without_answer_over b (abort k) = refl

others_tried : (s : ScenarioValue) (b : Story) (d dev : ℕ) (item : Option Item) → d ≢ dev → IsItemIf s d item
    → my_book s (story_with_try s b d item).sent dev ≡ my_book s b.sent dev
others_tried s b d dev None ne h = refl
others_tried s b d dev (Some item) ne h =
    go (is_counted item && nat_lt (retries_of s.hosts d) (count_item (item ∷ b.sent.tries) item))
    ∙ others_try s b.sent d dev item ne h
  where
    go : (q : Bool) → my_book s
        (if q then story_without_answer (record b { sent = record b.sent { tries = item ∷ b.sent.tries } }) item
        else record b { sent = record b.sent { tries = item ∷ b.sent.tries } }).sent dev
        ≡ my_book s (record b.sent { tries = item ∷ b.sent.tries }) dev
    go true = (λ i. my_book s
        (without_answer_over (record b { sent = record b.sent { tries = item ∷ b.sent.tries } }) item i) dev)
        ∙ others_over s (record b.sent { tries = item ∷ b.sent.tries }) d dev item ne h
    go false = refl

-- The caller of a call is a device of the bus.
abbrev pub IsCaller : Option Call → Type 0
IsCaller None = ⊤
IsCaller (Some c) = c.caller < 8

called_book : (s : ScenarioValue) (b : Story) (dev : ℕ) (w : Wish) (c : Option Call)
    → retries_of s.hosts dev < 255 → AreAims s b.aims → dev < 8 → IsCaller c → IsWishBy s dev b w
    → (if is_call_in_vain dev c then book_after_try (retries_of s.hosts dev) w.book w.aim else w.book)
    ≡ my_book s (story_after_calling s b c).sent dev
called_book s b dev w None few a lt ok h = h.book_is
called_book s b dev w (Some c) few a lt ok h = by_calling c.calling
  where
    r : ℕ
    r = retries_of s.hosts dev

    own_try : my_book s (story_with_try s b dev (aim_of b.aims dev)).sent dev
        ≡ book_after_try (retries_of s.hosts dev) w.book w.aim
    own_try =
        (λ i. my_book s (story_with_try s b dev (sym h.aim_is i)).sent dev)
        ∙ tried s b dev w.aim few (subst (λ (x : Option Item). IsItemIf s dev x) (sym h.aim_is) (a.own_items dev lt))
        ∙ (λ i. book_after_try (retries_of s.hosts dev) (sym h.book_is i) w.aim)

    by_calling : (k : Option Calling)
        → (if c.caller == dev && is_unanswered k then book_after_try (retries_of s.hosts dev) w.book w.aim else w.book)
        ≡ my_book s (story_after_calling_by s b c.caller k).sent dev
    by_calling None = none (c.caller == dev)
      where
        none : (q : Bool) → (if q && false then book_after_try (retries_of s.hosts dev) w.book w.aim else w.book)
            ≡ my_book s b.sent dev
        none true = h.book_is
        none false = h.book_is
    by_calling (Some k) = go (c.caller == dev) refl (is_none k.answered && not k.reselects)
      where
        same : (x y : ℕ) → (x == y) ≡ true → x ≡ y
        same x y e = grind (arith, nat_tests)

        other : (x y : ℕ) → (x == y) ≡ false → x ≢ y
        other x y e z = no (sym e ∙ eq-eqb x y z)
          where
            no : false ≡ true → ⊥
            no q = cc

        go : (q : Bool) → (c.caller == dev) ≡ q → (p : Bool)
            → (if q && p then book_after_try (retries_of s.hosts dev) w.book w.aim else w.book)
            ≡ my_book s (if p then story_with_try s b c.caller (aim_of b.aims c.caller) else b).sent dev
        go true e true = sym own_try ∙ (λ i. my_book s
            (story_with_try s b (sym (same c.caller dev e) i) (aim_of b.aims (sym (same c.caller dev e) i))).sent dev)
        go true e false = h.book_is
        go false e true = h.book_is ∙ sym
            (others_tried s b c.caller dev (aim_of b.aims c.caller) (other c.caller dev e) (a.own_items c.caller ok))
        go false e false = h.book_is

-- ---- a device enters arbitration

at_set : (aims : List (Option Item)) (i : ℕ) (x : Option Item) → length aims ≡ 8 → i < 8
    → slice_index_or (slice_set aims i x) i None ≡ x
at_set aims i x long lt = grind (arith, common_steps, elements)

at_other : (aims : List (Option Item)) (i d : ℕ) (x : Option Item) → i ≢ d
    → slice_index_or (slice_set aims i x) d None ≡ slice_index_or aims d None
at_other aims i d x ne = grind (arith, common_steps, elements)

aim_set : (aims : List (Option Item)) (i : ℕ) (x : Option Item) → length aims ≡ 8 → i < 8
    → aim_of (slice_set aims i x) i ≡ x
aim_set aims i x long lt = aim_at (slice_set aims i x) i ∙ at_set aims i x long lt

aim_other : (aims : List (Option Item)) (i d : ℕ) (x : Option Item) → i ≢ d
    → aim_of (slice_set aims i x) d ≡ aim_of aims d
aim_other aims i d x ne = aim_at (slice_set aims i x) d ∙ at_other aims i d x ne ∙ sym (aim_at aims d)

item_if_host : (s : ScenarioValue) (b : Sent) (d time : ℕ) (q : Bool)
    → IsItemIf s d (if q then item_at s b d time else None)
item_if_host s b d time true = own_item s b d time
item_if_host s b d time false = tt

pub entered : (s : ScenarioValue) (aims : List (Option Item)) (b : Sent) (d time : ℕ) → AreAims s aims → d < 8
    → AreAims s (slice_set aims d (if is_initiator s.hosts d then item_at s b d time else None))
entered s aims b d time a lt = record {
  eight = length-set _ _ _ ∙ a.eight;
  own_items = λ e below. elim (cases_eq d e) [
    | inl same ↦ subst (λ (z : ℕ). IsItemIf s z
        (aim_of (slice_set aims d (if is_initiator s.hosts d then item_at s b d time else None)) z)) same
        (subst (λ (z : Option Item). IsItemIf s d z) (sym (aim_set aims d _ a.eight lt))
        (item_if_host s b d time (is_initiator s.hosts d)))
    | inr ne ↦ subst (λ (z : Option Item). IsItemIf s e z) (sym (aim_other aims d e _ ne)) (a.own_items e below)
  ];
}

abbrev pub IsItemLaw : Type 0
IsItemLaw =
    (s : ScenarioValue) (sent : Sent) (dev time : ℕ) → item_at s sent dev time ≡ item_by (book_of s sent dev) time

entry_own : IsItemLaw → (s : ScenarioValue) (b : Story) (dev time : ℕ) (w : Wish) → is_initiator s.hosts dev ≡ true
    → AreAims s b.aims → dev < 8 → IsWishBy s dev b w → item_if (my_item w.book time)
    ≡ aim_of (slice_set b.aims dev (if is_initiator s.hosts dev then item_at s b.sent dev time else None)) dev
entry_own items s b dev time w host a lt h =
    (λ i. item_if (my_item (h.book_is i) time))
    ∙ item_is s b.sent dev time
    ∙ sym (items s b.sent dev time)
    ∙ (λ i. if sym host i then item_at s b.sent dev time else None)
    ∙ sym (aim_set b.aims dev (if is_initiator s.hosts dev then item_at s b.sent dev time else None) a.eight lt)

-- ---- a connection begins

sends : (s : ScenarioValue) (b : Story) (dev : ℕ) (i : Option OwnItem)
    → my_book s (story_with_sent b (item_if i)).sent dev ≡ book_after_send (my_book s b.sent dev) i
sends s b dev None = refl
sends s b dev (Some (own.Command n)) = book_sent s b.sent dev (record { command = n; sense = false })
sends s b dev (Some (own.Sense n)) = book_sent s b.sent dev (record { command = n; sense = true })
sends s b dev (Some (own.Abort n)) = book_abort_sent s b.sent dev n

others_send : (s : ScenarioValue) (b : Story) (d dev : ℕ) (item : Option Item) → d ≢ dev → IsItemIf s d item
    → my_book s (story_with_sent b item).sent dev ≡ my_book s b.sent dev
others_send s b d dev None ne h = refl
others_send s b d dev (Some item) ne h = others_sent s b.sent d dev item ne h

connection_wish : (s : ScenarioValue) (b : Story) (dev : ℕ) (w : Wish) (n : Connection) → AreAims s b.aims
    → n.initiator < 8 → IsWishBy s dev b w → IsWishBy s dev (story_after_connection b n) (wish_after_connection dev w n)
connection_wish s b dev w n a lt h = go n.reselected (n.initiator == dev) refl
  where
    aim : Option Item
    aim = aim_of b.aims n.initiator

    go : (p q : Bool) → (n.initiator == dev) ≡ q
        → IsWishBy s dev (if p then record b { link = Some (link_of n None) } else story_with_restored
        (story_with_sent (record b { link = Some (link_of n (aim_of b.aims n.initiator)) }) (aim_of b.aims n.initiator))
        (aim_of b.aims n.initiator))
        (if p then w else if q then record w { book = book_after_send w.book w.aim } else w)
    go true q e = record { book_is = h.book_is; aim_is = h.aim_is }
    go false true e =
        let c : Story = record b { link = Some (link_of n (aim_of b.aims n.initiator)) } in
        let mine : aim_of b.aims n.initiator ≡ item_if w.aim = (λ i. aim_of b.aims (eqb-true n.initiator dev e i))
        ∙ sym h.aim_is in
        record {
          book_is = (λ i. book_after_send (h.book_is i) w.aim) ∙ sym (sends s c dev w.aim)
              ∙ (λ i. my_book s (story_with_sent c (sym mine i)).sent dev) ∙ (λ i. my_book s
              (sym (restored_sent (story_with_sent c (aim_of b.aims n.initiator)) (aim_of b.aims n.initiator)) i) dev);
          aim_is = h.aim_is ∙ (λ i. aim_of ((sym (sent_aims c (aim_of b.aims n.initiator))
              ∙ sym (restored_aims (story_with_sent c (aim_of b.aims n.initiator)) (aim_of b.aims n.initiator))) i)
              dev);
        }
    go false false e =
        let c : Story = record b { link = Some (link_of n (aim_of b.aims n.initiator)) } in
        record {
          book_is = h.book_is ∙ sym (others_send s c n.initiator dev (aim_of b.aims n.initiator)
              (eqb-false n.initiator dev e) (a.own_items n.initiator lt))
              ∙ (λ i. my_book s
              (sym (restored_sent (story_with_sent c (aim_of b.aims n.initiator)) (aim_of b.aims n.initiator)) i) dev);
          aim_is = h.aim_is ∙ (λ i. aim_of ((sym (sent_aims c (aim_of b.aims n.initiator))
              ∙ sym (restored_aims (story_with_sent c (aim_of b.aims n.initiator)) (aim_of b.aims n.initiator))) i)
              dev);
        }

-- ---- in a connection nothing is sent, and no device enters arbitration

-- What was sent and what was aimed at are the same.
pub record IsKept (b c : Story) : Type 0 where
  pub sent : c.sent ≡ b.sent
  pub aims : c.aims ≡ b.aims

kept_carried : (b : Story) (k : Option CarriedBytes) → IsKept b (story_with_carried b k)
kept_carried b None = record { sent = refl; aims = refl }
kept_carried b (Some k) = record { sent = refl; aims = refl }

kept_out : (b : Story) (l : Link) (m : Option MsgOut) → IsKept b (story_after_out b l m)
kept_out b l None = record { sent = refl; aims = refl }
kept_out b l (Some m) =
    let c : Story = record b { link = Some (record l { last = last_out m l }) } in
    let x = kept_carried c (if is_parity_error m then l.undo else None) in
    record { sent = x.sent; aims = x.aims }

kept_message : (s : ScenarioValue) (b : Story) (l : Link) (m : MsgIn) → IsKept b (story_after_message s b l m)
kept_message s b l m =
    let c : Story = record b { link = Some l } in
    let x = kept_carried c (carried_after_message_if (carried_if b l.item) m) in
    record { sent = x.sent; aims = x.aims }

kept_name : (s : ScenarioValue) (b : Story) (l next : Link) (m : MsgIn) → IsKept b (story_after_name s b l next m)
kept_name s b l next m = go (is_none l.item)
  where
    go : (q : Bool) → IsKept b (story_after_message s (if q then story_with_restored b next.item else b)
        (record next { last = last_in m; before = l.last; undo = carried_if b l.item }) m)
    go true =
        let x = kept_message s (story_with_restored b next.item)
        (record next { last = last_in m; before = l.last; undo = carried_if b l.item }) m in
        record { sent = x.sent ∙ restored_sent b next.item; aims = x.aims ∙ restored_aims b next.item }
    go false = kept_message s b (record next { last = last_in m; before = l.last; undo = carried_if b l.item }) m

kept_in : (s : ScenarioValue) (b : Story) (l : Link) (m : Option MsgIn) → IsKept b (story_after_in s b l m)
kept_in s b l None = record { sent = refl; aims = refl }
kept_in s b l (Some m) = kept_name s b l (link_after_name b.sent s.commands l m) m

kept_byte : (b : Story) (l : Link) (d : RowReading) → IsKept b (story_after_byte b l d)
kept_byte b l d = go d.change.before.msg
  where
    go : (q : Bool) → IsKept b (if q then b else story_with_carried b (carried_after_byte_if (carried_if b l.item) d))
    go true = record { sent = refl; aims = refl }
    go false = kept_carried b (carried_after_byte_if (carried_if b l.item) d)

kept_crossing : (s : ScenarioValue) (b : Story) (l : Link) (d : RowReading) → IsKept b (story_after_crossing s b l d)
kept_crossing s b l d = go (is_some d.out) (is_some d.into)
  where
    go : (p q : Bool) → IsKept b
        (if p then story_after_out b l d.out else if q then story_after_in s b l d.into else story_after_byte b l d)
    go true q = kept_out b l d.out
    go false true = kept_in s b l d.into
    go false false = kept_byte b l d

kept_fault : (b : Story) (l : Link) (k : Kind) → IsKept b (story_after_fault b l k)
kept_fault b l (Drives lines) = record { sent = refl; aims = refl }
kept_fault b l (Fault bit) = kept_carried b (carried_after_fault_if (carried_if b l.item) b.bus_state.crossed)

pub kept_connected : (s : ScenarioValue) (b : Story) (l : Option Link) (d : RowReading) (row : Row)
    → IsKept b (story_in_connection s b l d row)
kept_connected s b None d row = record { sent = refl; aims = refl }
kept_connected s b (Some l) d row = go d.crosses
  where
    go : (q : Bool) → IsKept b (if q then story_after_crossing s b l d else story_after_fault b l row.kind)
    go true = kept_crossing s b l d
    go false = kept_fault b l row.kind

kept_wish : (s : ScenarioValue) (b c : Story) (dev : ℕ) (w : Wish) → IsKept b c → IsWishBy s dev b w
    → IsWishBy s dev c w
kept_wish s b c dev w k h = record {
  book_is = h.book_is ∙ (λ i. my_book s (sym k.sent i) dev);
  aim_is = h.aim_is ∙ (λ i. aim_of (sym k.aims i) dev);
}

-- ---- a row

abbrev pub HasInitiator : Option Connection → Type 0
HasInitiator None = ⊤
HasInitiator (Some n) = n.initiator < 8

free_wish : IsItemLaw → (s : ScenarioValue) (b : Story) (dev : ℕ) (w : Wish) (d : RowReading) (row : Row)
    → is_initiator s.hosts dev ≡ true → retries_of s.hosts dev < 255 → AreAims s b.aims → dev < 8
    → row.dev < 8 → IsCaller b.bus_state.call → IsWishBy s dev b w → b.bus_state.connection ≡ None
    → IsWishBy s dev (story_on_free_bus s b d row)
    (wish_on_free_bus dev (retries_of s.hosts dev) b.bus_state.call w d.change None row.dev row.time)
free_wish items s b dev w d row host few a lt rlt ok h e = subst
    (λ (q : Bool). IsWishBy s dev (if q then story_with_aim s b row
    else if falls d.change.before.sel d.change.after.sel then story_after_calling s b b.bus_state.call else b)
    (wish_on_free_bus dev (retries_of s.hosts dev) b.bus_state.call w d.change None row.dev row.time))
    (λ i. rises d.change.own.bsy d.change.next.bsy && not d.change.before.sel && is_none (sym e i))
    (go (rises d.change.own.bsy d.change.next.bsy && not d.change.before.sel && true)
    (falls d.change.before.sel d.change.after.sel))
  where
    entry : (q : Bool) → (row.dev == dev) ≡ q
        → IsWishBy s dev (story_with_aim s b row) (if q then record w { aim = my_item w.book row.time } else w)
    entry true x = record {
      book_is = h.book_is;
      aim_is = entry_own items s b dev row.time w host a lt h ∙ (λ i. aim_of
          (slice_set b.aims (sym (eqb-true row.dev dev x) i) (if is_initiator s.hosts (sym (eqb-true row.dev dev x) i)
          then item_at s b.sent (sym (eqb-true row.dev dev x) i) row.time else None)) dev);
    }
    entry false x = record {
      book_is = h.book_is;
      aim_is = h.aim_is ∙ sym (aim_other b.aims row.dev dev
          (if is_initiator s.hosts row.dev then item_at s b.sent row.dev row.time else None) (eqb-false row.dev dev x));
    }

    calling : IsWishBy s dev (story_after_calling s b b.bus_state.call) (if is_call_in_vain dev b.bus_state.call
        then record w { book = book_after_try (retries_of s.hosts dev) w.book w.aim } else w)
    calling = by_test (is_call_in_vain dev b.bus_state.call) (called_book s b dev w b.bus_state.call few a lt ok h)
      where
        aims : item_if w.aim ≡ aim_of (story_after_calling s b b.bus_state.call).aims dev
        aims = h.aim_is ∙ (λ i. aim_of (sym (calling_aims s b b.bus_state.call) i) dev)

        by_test : (q : Bool) → (if q then book_after_try (retries_of s.hosts dev) w.book w.aim else w.book)
            ≡ my_book s (story_after_calling s b b.bus_state.call).sent dev
            → IsWishBy s dev (story_after_calling s b b.bus_state.call)
            (if q then record w { book = book_after_try (retries_of s.hosts dev) w.book w.aim } else w)
        by_test true x = record { book_is = x; aim_is = aims }
        by_test false x = record { book_is = x; aim_is = aims }

    go : (p q : Bool) → IsWishBy s dev
        (if p then story_with_aim s b row else if q then story_after_calling s b b.bus_state.call else b)
        (if p then wish_with_entry dev w row.dev row.time
        else if q then (if is_call_in_vain dev b.bus_state.call then record w {
          book = book_after_try (retries_of s.hosts dev) w.book w.aim;
        } else w) else w)
    go true q = entry (row.dev == dev) refl
    go false true = calling
    go false false = h

pub change_wish : IsItemLaw → (s : ScenarioValue) (b : Story) (dev : ℕ) (w : Wish) (d : RowReading) (row : Row)
    → is_initiator s.hosts dev ≡ true → retries_of s.hosts dev < 255 → AreAims s b.aims → dev < 8
    → row.dev < 8 → IsCaller b.bus_state.call → HasInitiator d.next → IsWishBy s dev b w
    → IsWishBy s dev (story_by_change s b d row) (wish_by_change dev
    (retries_of s.hosts dev) b.bus_state.call w d.change b.bus_state.connection d.next row.dev row.time)
change_wish items s b dev w d row host few a lt rlt ok ends h = go d.change.after.rst
  where
    on_bus : (m n : Option Connection) → b.bus_state.connection ≡ m → HasInitiator n
        → IsWishBy s dev (story_on_bus s b m n d row)
        (wish_on_bus dev (retries_of s.hosts dev) b.bus_state.call w d.change m n row.dev row.time)
    on_bus None None e x = free_wish items s b dev w d row host few a lt rlt ok h e
    on_bus None (Some n) e x = connection_wish s b dev w n a x h
    on_bus (Some m) None e x = record { book_is = h.book_is; aim_is = h.aim_is }
    on_bus (Some m) (Some n) e x =
        kept_wish s b (story_in_connection s b b.link d row) dev w (kept_connected s b b.link d row) h

    go : (q : Bool)
        → IsWishBy s dev (if q then record b { link = None } else story_on_bus s b b.bus_state.connection d.next d row)
        (if q then w else wish_on_bus dev (retries_of s.hosts dev) b.bus_state.call w d.change b.bus_state.connection
        d.next row.dev row.time)
    go true = record { book_is = h.book_is; aim_is = h.aim_is }
    go false = on_bus b.bus_state.connection d.next refl ends
