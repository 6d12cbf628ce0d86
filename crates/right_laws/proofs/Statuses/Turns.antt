-- What a process has carried of its status, as a phase of its connection is left for another (6.4, 6.6.5, 6.6.10,
-- 6.6.19).
use Rattle.right_laws.proofs
use proofs.Names.{ℕ, ◌≡◌, inl, inr, arith, ◌-◌, Bool, true, false, not, ◌&&◌, ◌==◌, ◌∙◌, List, ◌∷◌, length, Option}
use proofs.Names.{Some, None, refl, sym, ap, subst, true≢false, ◌≤◌, if◌then◌else◌, is_some, nat_lt, wrong, wrong'}
use proofs.Names.{ProcId, same_self, rises, LineSet, same, changes_phase, is_message_out, is_message_in, is_fault}
use proofs.Names.{receiver_in, Row, Change, Connection, Handshakes, no_handshakes, handshakes_after, answered_if}
use proofs.Names.{asked_if, MsgIn, ScenarioValue, reply_in, row_reading, CarriedBytes, is_complete, Link, plain}
use proofs.Names.{complete, is_status_next as is_to_status, Exchange, one_message, bytes_of_messages, plan_anew}
use proofs.Names.{from_byte, message_bytes, Serving, phase_of, phase_leaving, leaving_by, cause_after}
use proofs.Names.{plan_in_message_out, plan_in_phase, Cause, Leaving, Messages, Next, Phase, Plan, IsPlain, RunState}
use proofs.Names.{bus_of, carried_here, run_state, run_state_after, serving_of, leaving, hearing_of, InConnection}
use proofs.Names.{in_connection, OnMessage, LeavesWhole, Knows, IsOver, IsRowIn, reading_in, GoesOn, in_phase}
use proofs.Names.{out_phase, out_lines, plan_left, plan_out, by_bool, stage_of_connection, link_phase, is_to_message_in}
use proofs.Names.{IsPlainIn, frees_bus, PlacedIn, PlacedBefore, PlacedAsked, from_ends, stays_out, front_length}
use proofs.Names.{not_out, LastFacts, LastGiven, still_stays, to_close, to_save, closed, LastBy, EndsWell, stays}
use proofs.Names.{closes, saves, command_not_out, Load, load, HasOne, IsReady, StatusSays, StatusAsked, StatusBy}
use proofs.Ran.{Crossings.{IsPlaced, placed_here}, Facts.{undoes_of, here_is}, Undone.{loads_stay_in}}
use proofs.Statuses.{Areas.{area_stays}, First.{status_follows}, Leavings.{is_ending, is_status_next, FromIn}}
use proofs.Statuses.Leavings.{completes, repeats, restores, others, from_in, ToStatus, again, goes_on, gives_up}
use proofs.Statuses.{Leavings.{after_block, after_data_in, after_data_out, to_status}, Same.{one_as, ready_as, says_as}}
use proofs.Statuses.{Same.{status_lines, freeing}, Stays.{Going, knows_of}}

-- ---- what MESSAGE OUT refuses

-- Of messages that end well those that are left say no more.
left_says : (c : CarriedBytes) (l : Link) (m : Messages) (next : Next) (count : ℕ)
    → LastGiven l m next count → (count == 0) ≡ false → StatusSays c m next
    → (next ≡ Next.Status → count - 1 ≡ 0) → StatusSays c (from_byte m (count - 1)) next
left_says c l m next count last some h few = record {
  completes = λ e. ends (from_ends l m next count last some) e;
  again = λ e. let w = h.again e in ((λ i. from_byte (w.0 i) (few e i)), w.1);
}
  where
    ends_whole : (x : Messages) → x ≡ m → x ≡ one_message MsgIn.CommandComplete → HasOne c
    ends_whole x e z = h.completes (sym e ∙ z)

    -- which of them is the last
    ends : EndsWell (from_byte m (count - 1)) next → from_byte m (count - 1) ≡ one_message MsgIn.CommandComplete
        → HasOne c
    ends w e = by (nat_lt (count - 1) (length (message_bytes m.first))) refl
      where
        second : (x : Option MsgIn) → m.second ≡ x → is_ending (record { first = x; second = None }) ≡ true → HasOne c
        second x z y = go last
          where
            ending : (o : Option MsgIn) → is_ending (record { first = o; second = None }) ≡ true
                → o ≡ Some MsgIn.CommandComplete
            ending (Some MsgIn.CommandComplete) v = refl
            ending None v = wrong' v
            ending (Some MsgIn.SavePointer) v = wrong' v
            ending (Some MsgIn.RestorePointers) v = wrong' v
            ending (Some MsgIn.Disconnect) v = wrong' v
            ending (Some MsgIn.Reject) v = wrong' v
            ending (Some (MsgIn.Identify lun)) v = wrong' v
            ending (Some (MsgIn.SimpleTag n)) v = wrong' v
            ending (Some (MsgIn.Sdtr a)) v = wrong' v

            is : m.second ≡ Some MsgIn.CommandComplete
            is = z ∙ ending x y

            no_message : {A : Type 0} → (let o : Option MsgIn = None in o) ≡ Some MsgIn.CommandComplete → A
            no_message v = absurd cc

            plain_end : {A : Type 0} → complete ≡ plain → A
            plain_end v = wrong (ap is_complete v)

            disconnects :
                {A : Type 0} → (let o : Option MsgIn = Some MsgIn.Disconnect in o) ≡ Some MsgIn.CommandComplete → A
            disconnects v = wrong' (ap (λ (o : Option MsgIn). is_ending (record { first = o; second = None })) v)

            of_ends : EndsWell m next → HasOne c
            of_ends (stays f all) = plain_end (subst (OnMessage IsPlainIn) is all.1)
            of_ends (closes f k one end) = no_message (sym (ap (λ (q : Messages). q.second) one) ∙ is)
            of_ends (saves f both) = disconnects (sym (ap (λ (q : Messages). q.second) both) ∙ is)

            go : LastGiven l m next count → HasOne c
            go (still_stays f all tells) = plain_end (subst (OnMessage IsPlainIn) is all.1)
            go (to_close f k one end zero tells) = no_message (sym (ap (λ (q : Messages). q.second) one) ∙ is)
            go (to_save f both at tells) = disconnects (sym (ap (λ (q : Messages). q.second) both) ∙ is)
            go (closed f end full told by) = of_ends end

        by : (q : Bool) → nat_lt (count - 1) (length (message_bytes m.first)) ≡ q → HasOne c
        by true z = ends_whole (from_byte m (count - 1))
            (ap (λ (q : Bool). if q then m else record { first = m.second; second = None }) z) e
        by false z = second m.second refl
            (ap is_ending (sym (ap (λ (q : Bool). if q then m else record { first = m.second; second = None }) z) ∙ e))

less_none : (x : ℕ) → x ≤ 1 → x - 1 ≡ 0
less_none x e = omega arith

-- ---- lines that stay

lines_stay : (c : Change) → c.after.msg ≡ c.before.msg → c.after.cd ≡ c.before.cd → c.after.io ≡ c.before.io
    → changes_phase c ≡ false
lines_stay c e f g =
    (λ i. not (same c.before.msg (e i) && same c.before.cd (f i) && same c.before.io (g i)))
    ∙ (λ i. not (same_self c.before.msg i && same_self c.before.cd i && same_self c.before.io i))

status_stays : (c : Change) → (c.before.msg ≡ false) × (c.before.cd ≡ true) × (c.before.io ≡ true)
    → (c.after.msg ≡ false) × (c.after.cd ≡ true) × (c.after.io ≡ true) → changes_phase c ≡ false
status_stays c x y = lines_stay c (y.0 ∙ sym x.0) (y.1 ∙ sym x.1) (y.2 ∙ sym x.2)

-- ---- a phase is left

pub talk_turns : (s : ScenarioValue) (p : List Row) (row : Row) (n : Connection) (id : ProcId) (h : Going s p row n id)
    → is_fault row.kind ≡ false → changes_phase h.going.change ≡ true → receiver_in n h.going.change ≡ None
    → LastFacts s p → ((run_state s p).exchange.begun ≡ true → StatusBy (carried_here (run_state s p) id)
    (run_state s p).exchange.plan (run_state s p).handshakes.requests (phase_of (bus_of (run_state s p))))
    → StatusBy (carried_here (run_state s (row ∷ p)) id) (run_state s (row ∷ p)).exchange.plan
    (run_state s (row ∷ p)).handshakes.requests (phase_of (bus_of (run_state s (row ∷ p))))
talk_turns s p row n id h ef ep er lasts talk =
    subst (StatusBy d j.exchange.plan j.handshakes.requests) (sym (ap phase_of i.bus_is)) (by (phase_of c.after) refl)
  where
    k : RunState
    k = run_state s p

    j : RunState
    j = run_state_after s k row

    c : Change
    c = h.going.change

    b : CarriedBytes
    b = carried_here k id

    d : CarriedBytes
    d = carried_here j id

    g : GoesOn s k row n c
    g = h.going.goes

    r : IsRowIn k row n c
    r = g.row_is

    none : is_some (receiver_in n c) ≡ false
    none = ap (λ (z : Option ℕ). is_some z) er

    knows : Knows s k n
    knows = knows_of s p row n id h

    pl : IsPlain s p k
    pl = h.given.known.was.plain

    i : InConnection s k row n c true false false
    i = in_connection s k row n c true false false r ep none ef

    w : Rattle.due_model.specs.dialogue_model.specs.declared.exchange.Hearing.Hearing
    w = hearing_of k row (reading_in k.story.bus_state n c false)

    v : Serving
    v = serving_of s k n.target

    plan : j.exchange.plan ≡ plan_in_phase w (leaving s k n.target) k.exchange.plan
    plan = ap (λ (x : Exchange). x.plan) i.exchange_is

    asked : j.handshakes.requests ≡ 0
    asked = ap (λ (x : Handshakes). x.requests) i.handshakes_is
        ∙ ap (λ (q : Bool). (handshakes_after q (Some n) c row.time k.handshakes).requests) ef
        ∙ ap (λ (q : Bool). (if q then no_handshakes else answered_if (rises c.before.ack c.after.ack) row.time
        (asked_if (rises c.before.req c.after.req) row.time k.handshakes)).requests) ep

    some_asked : {A : Type 0} → (j.handshakes.requests == 0) ≡ false → A
    some_asked z = wrong (sym (ap (λ (x : ℕ). x == 0) asked) ∙ z)

    same : load d ≡ load b
    same = loads_stay_in s k row n c false r none (λ z. wrong' z) (undoes_of s p row h.given.known) id

    area : d.status ≡ b.status
    area = area_stays s k row n c knows.link id r none knows.link_is

    change_is : changes_phase (row_reading k.story.bus_state row).change ≡ true
    change_is = ap changes_phase r.change_is ∙ ep

    leaves : LeavesWhole s k n
    leaves = g.leaves change_is

    over : k.exchange.begun ≡ true → IsOver s k n
    over q = h.going.lines.over (ap changes_phase h.going.lines_are ∙ ep) (sym pl.begun ∙ q)

    whereto : k.exchange.begun ≡ true → (leaving s k n.target).to ≡ Some (phase_of c.after)
    whereto q = h.going.lines.whereto (ap changes_phase h.going.lines_are ∙ ep) (sym pl.begun ∙ q)
        ∙ ap (λ (x : Change). Some (phase_of x.after)) h.going.lines_are

    leaving_is : k.exchange.begun ≡ true → leaving s k n.target ≡ phase_leaving v (bus_of k).atn (phase_of (bus_of k))
    leaving_is q = λ z. leaving_by v (q z) (bus_of k)

    known_lines : c.after.msg ≡ true → c.after.cd ≡ true
    known_lines z =
        let stage = stage_of_connection s (row ∷ p) n h.given.known.next.stood h.after h.calm in
        ap (λ (x : Change). x.after.cd) h.going.change_is
        ∙ (link_phase s (row ∷ p) n stage (ap (λ (x : Change). x.after.msg) (sym h.going.change_is) ∙ z)).0

    -- the first phase is MESSAGE OUT
    first_out : k.exchange.begun ≡ false → is_message_out c.after ≡ true
    first_out q = sym (ap (λ (x : Change). is_message_out x.after) r.change_is) ∙ g.first change_is q

    is_out : Phase → Bool
    is_out Phase.MessageOut = true
    is_out _ = false

    begun_unless : {A : Type 0} → is_out (phase_of c.after) ≡ false → k.exchange.begun ≡ false → A
    begun_unless e q = wrong (sym (ap is_out (out_phase c.after (first_out q))) ∙ e)

    -- STATUS was given
    given_one : k.exchange.begun ≡ true → phase_of (bus_of k) ≡ Phase.Status → HasOne b
    given_one q e =
        (subst (StatusBy b k.exchange.plan k.handshakes.requests) e (talk q)).1
        (sym (status_follows s k n.target e (status_lines (bus_of k) e).1) ∙ (over q).follows)

    -- ---- MESSAGE OUT follows

    asked_of : k.exchange.begun ≡ true → is_message_out c.after ≡ true
        → StatusAsked d (plan_in_message_out w k.exchange.plan) (cause_after c.before)
    asked_of q out = go (is_message_in c.before) refl c.before.cd refl
      where
        go : (x : Bool) → is_message_in c.before ≡ x → (y : Bool) → c.before.cd ≡ y
            → StatusAsked d (plan_in_message_out w k.exchange.plan)
            (if x then Cause.InMessage else if y then Cause.InStatus else Cause.InData)
        go true e y f =
            let here : phase_of (bus_of k) ≡ Phase.MessageIn = ap phase_of r.bus_is ∙ in_phase c.before e in
            let t = subst (StatusBy b k.exchange.plan k.handshakes.requests) here (talk q) in
            let lines : is_message_in (bus_of k) ≡ true = ap is_message_in r.bus_is ∙ e in
            let bytes = front_length (bytes_of_messages k.exchange.plan.messages) k.story.bus_state.dialogue.half
            k.handshakes.requests ((h.given.known.was.books.gives n r.connection_is g.calm).in_message_in q lines) in
            let last : LastGiven knows.link k.exchange.plan.messages k.exchange.plan.next k.handshakes.requests = subst
            (λ (x : Phase). LastBy knows.link k.exchange.plan k.handshakes.requests k.story.bus_state.dialogue.is_last
            x) here (((lasts n h.con h.off).0 knows.link id knows.link_is h.served).begun q) in
            says_as b d (from_byte k.exchange.plan.messages (k.handshakes.requests - 1))
            (plan_in_message_out w k.exchange.plan).messages k.exchange.plan.next k.exchange.plan.next same
            (λ z. if e z then from_byte k.exchange.plan.messages (k.handshakes.requests - 1)
            else k.exchange.plan.messages) refl (left_says b knows.link k.exchange.plan.messages k.exchange.plan.next
            k.handshakes.requests last (leaves.some here) t.0 (λ z. less_none k.handshakes.requests
            (subst (λ (m : Messages). k.handshakes.requests ≤ length (bytes_of_messages m)) (t.0.again z).0 bytes)))
        go false e false f = tt
        go false e true f = one_as b d same (of_phase c.before.msg refl c.before.io refl)
          where
            of_phase : (m : Bool) → c.before.msg ≡ m → (o : Bool) → c.before.io ≡ o → HasOne b
            of_phase true em true eo = wrong (sym (λ z. em z && f z && eo z) ∙ e)
            of_phase true em false eo = absurd (same_out em eo)
              where
                same_out : c.before.msg ≡ true → c.before.io ≡ false → ⊥
                same_out x y = true≢false (sym ep ∙ stays_out c (λ z. x z && f z && not (y z)) out)
            of_phase false em true eo = given_one q (ap phase_of r.bus_is
                ∙ (λ z. if em z then (if eo z then Phase.MessageIn else Phase.MessageOut)
                else if f z then (if eo z then Phase.Status else Phase.Command)
                else if eo z then Phase.DataIn else Phase.DataOut))
            of_phase false em false eo =
                let command : phase_of (bus_of k) ≡ Phase.Command = ap phase_of r.bus_is
                ∙ (λ z. if em z then (if eo z then Phase.MessageIn else Phase.MessageOut)
                else if f z then (if eo z then Phase.Status else Phase.Command)
                else if eo z then Phase.DataIn else Phase.DataOut) in
                absurd (command_not_out v (bus_of k).atn
                (ap (λ (x : Phase). (phase_leaving v (bus_of k).atn x).to) (sym command)
                ∙ ap (λ (x : Leaving). x.to) (sym (leaving_is q)) ∙ whereto q
                ∙ ap (λ (x : Phase). Some x) (out_phase c.after out)))

    in_out : phase_of c.after ≡ Phase.MessageOut → StatusBy d j.exchange.plan j.handshakes.requests Phase.MessageOut
    in_out e = by_bool k.exchange.begun (λ q. subst (λ (x : Plan). StatusAsked d x x.cause)
        (sym (plan ∙ plan_out w (leaving s k n.target) k.exchange.plan out q)) (asked_of q out))
        (λ q. subst (λ (x : Plan). StatusAsked d x x.cause)
        (sym (plan ∙ plan_out w (leaving s k n.target) k.exchange.plan out q))
        (subst (StatusAsked d (plan_anew k.exchange.plan))
        (sym ((h.given.known.was.books.speaks n r.connection_is g.calm).before_all q).cause_is) tt))
      where
        out : is_message_out c.after ≡ true
        out = out_lines c.after e known_lines

    -- ---- MESSAGE IN follows

    in_message : phase_of c.after ≡ Phase.MessageIn → StatusBy d j.exchange.plan j.handshakes.requests Phase.MessageIn
    in_message e = (go k.exchange.begun refl, λ z some. some_asked some)
      where
        l : Leaving
        l = phase_leaving v (bus_of k).atn (phase_of (bus_of k))

        planned : k.exchange.begun ≡ true → (j.exchange.plan.messages ≡ l.messages) × (j.exchange.plan.next ≡ l.next)
        planned q =
            let is : j.exchange.plan ≡ record (plan_anew k.exchange.plan) {
              messages = (leaving s k n.target).messages;
              next = (leaving s k n.target).next;
            } = plan ∙ plan_left w (leaving s k n.target) k.exchange.plan (not_out c.after e) in (
              ap (λ (x : Plan). x.messages) is ∙ ap (λ (x : Leaving). x.messages) (leaving_is q),
              ap (λ (x : Plan). x.next) is ∙ ap (λ (x : Leaving). x.next) (leaving_is q),
            )

        to : k.exchange.begun ≡ true → is_to_message_in l.to ≡ true
        to q = ap (λ (x : Leaving). is_to_message_in x.to) (sym (leaving_is q))
            ∙ ap is_to_message_in (whereto q ∙ ap (λ (x : Phase). Some x) e)

        no_status : {A : Type 0} (x : Next) → is_status_next x ≡ false → x ≡ Next.Status → A
        no_status x z y = wrong (sym (ap is_status_next y) ∙ z)

        no_end : {A : Type 0} → one_message MsgIn.RestorePointers ≡ one_message MsgIn.CommandComplete → A
        no_end z = wrong' (ap is_ending z)

        -- COMMAND COMPLETE is said before the bus is freed
        freed : j.exchange.plan.messages ≡ one_message MsgIn.CommandComplete → frees_bus j.exchange.plan.next ≡ true
        freed z = go j.story.link refl
          where
            linked : Knows s j n
            linked =
                h.given.known.next.stood.books.knows n (i.connection_is) (ap (λ (x : LineSet). x.rst) i.bus_is ∙ r.calm)

            go : (o : Option Link) → j.story.link ≡ o → frees_bus j.exchange.plan.next ≡ true
            go o f = freeing linked.link j.exchange.plan.messages j.exchange.plan.next j.handshakes.requests
                (subst (λ (x : Phase). LastBy linked.link j.exchange.plan j.handshakes.requests
                j.story.bus_state.dialogue.is_last x) (ap phase_of i.bus_is ∙ e)
                (((h.given.last n h.after h.calm).0 linked.link id linked.link_is (i.served_is ∙ h.served)).begun
                (ap (λ (x : Exchange). x.begun) i.exchange_is))) z

        says : k.exchange.begun ≡ true → FromIn v l (phase_of (bus_of k))
            → StatusSays d j.exchange.plan.messages j.exchange.plan.next
        says q (completes f) = record {
          completes = λ z. one_as b d same (given_one q f);
          again = λ z. no_status l.next (next_status f) (sym (planned q).1 ∙ z);
        }
          where
            either : (x : Bool) → is_status_next (Rattle.due_model.specs.dialogue_model.specs.NextPhase.unless_attention
                x (Rattle.due_model.specs.dialogue_model.specs.NextPhase.disconnection
                (one_message MsgIn.CommandComplete))).next ≡ false
            either true = refl
            either false = refl

            next_status : phase_of (bus_of k) ≡ Phase.Status → is_status_next l.next ≡ false
            next_status z =
                ap (λ (x : Phase). is_status_next (phase_leaving v (bus_of k).atn x).next) z ∙ either (bus_of k).atn
        says q (repeats f cause em en) =
            let t = subst (StatusAsked b k.exchange.plan) cause
            (subst (StatusBy b k.exchange.plan k.handshakes.requests) f (talk q)) in
            says_as b d k.exchange.plan.messages j.exchange.plan.messages k.exchange.plan.next j.exchange.plan.next same
            ((planned q).0 ∙ em) ((planned q).1 ∙ en) t
        says q (restores f cause em en) =
            let t = subst (StatusAsked b k.exchange.plan) cause
            (subst (StatusBy b k.exchange.plan k.handshakes.requests) f (talk q)) in
            record {
              completes = λ z. no_end (sym em ∙ sym (planned q).0 ∙ z);
              again = λ z. ((planned q).0 ∙ em, inr (one_as b d same t));
            }
        says q (others x) = record {
          completes =
              λ z. wrong (sym (freed z) ∙ ap frees_bus (planned q).1 ∙ x.ends (ap is_ending (sym (planned q).0 ∙ z)));
          again = λ z. no_status l.next x.status (sym (planned q).1 ∙ z);
        }

        go : (q : Bool) → k.exchange.begun ≡ q → StatusSays d j.exchange.plan.messages j.exchange.plan.next
        go true q = says q (from_in v (bus_of k).atn (phase_of (bus_of k)) (to q))
        go false q = begun_unless (ap is_out e) q

    -- ---- STATUS follows

    in_status : phase_of c.after ≡ Phase.Status → StatusBy d j.exchange.plan j.handshakes.requests Phase.Status
    in_status e = (λ z. go k.exchange.begun refl, λ z. some_asked z)
      where
        before : phase_of (bus_of k) ≡ Phase.Status → ⊥
        before z = true≢false
            (sym ep ∙ status_stays c (status_lines c.before (ap phase_of (sym r.bus_is) ∙ z)) (status_lines c.after e))

        ready : k.exchange.begun ≡ true → ToStatus v (bus_of k).atn (phase_of (bus_of k)) → IsReady d
        ready q x = by_way x
          where
            place : IsPlaced s k h.given.known.places.array id
            place = placed_here s k row n c id h.given.known.places g h.served q

            at : (phase : Phase) → phase_of (bus_of k) ≡ phase
                → PlacedIn h.given.known.places.array place.process k.exchange.plan k.handshakes (bus_of k).atn phase
            at phase z = subst (λ (y : Phase). PlacedIn h.given.known.places.array place.process k.exchange.plan
                k.handshakes (bus_of k).atn y) z place.placed

            unanswered : reply_in h.given.known.places.array.replies place.process.id ≡ None → IsReady d
            unanswered z = inl (ap (λ (y : Load). y.status) same ∙ h.given.facts.empty id
                ((λ t. is_some (reply_in (here_is s p row h.given.known t).replies (sym place.id_is t)))
                ∙ ap is_some z))

            by_way : ToStatus v (bus_of k).atn (phase_of (bus_of k)) → IsReady d
            by_way (again f next atn) = ready_as b d area
                ((subst (StatusBy b k.exchange.plan k.handshakes.requests) f (talk q)).1 next (leaves.some f))
            by_way (goes_on f next) = of_place (at Phase.MessageIn f)
              where
                of_place : PlacedIn h.given.known.places.array place.process k.exchange.plan k.handshakes
                    (bus_of k).atn Phase.MessageIn
                    → IsReady d
                of_place (inl z) = unanswered (subst
                    (λ (y : Next). PlacedBefore h.given.known.places.array place.process k.exchange.plan.messages y)
                    next z).runs.reply
                of_place (inr z) = wrong (ap frees_bus (sym z.next_is ∙ next))
            by_way (gives_up f cause) = unanswered
                (subst (λ (y : Cause). PlacedAsked h.given.known.places.array place.process k.exchange.plan y) cause
                (at Phase.MessageOut f)).runs.reply
            by_way (after_block f) = unanswered (at Phase.Command f).reply
            by_way (after_data_in f) = unanswered (at Phase.DataIn f).runs.reply
            by_way (after_data_out f) = unanswered (at Phase.DataOut f).runs.reply

        go : (q : Bool) → k.exchange.begun ≡ q → IsReady d
        go true q = ready q (to_status v (bus_of k).atn (phase_of (bus_of k)) before
            (ap (λ (x : Leaving). is_to_status x.to) (sym (leaving_is q))
            ∙ ap is_to_status (whereto q ∙ ap (λ (x : Phase). Some x) e)))
        go false q = begun_unless (ap is_out e) q

    by : (phase : Phase) → phase_of c.after ≡ phase
        → StatusBy d j.exchange.plan j.handshakes.requests (phase_of c.after)
    by Phase.MessageOut e = subst (StatusBy d j.exchange.plan j.handshakes.requests) (sym e) (in_out e)
    by Phase.MessageIn e = subst (StatusBy d j.exchange.plan j.handshakes.requests) (sym e) (in_message e)
    by Phase.Status e = subst (StatusBy d j.exchange.plan j.handshakes.requests) (sym e) (in_status e)
    by _ e = subst (StatusBy d j.exchange.plan j.handshakes.requests) (sym e) tt
