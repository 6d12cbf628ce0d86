-- The last message of a connection goes on with each row of it.
use Rattle.story_laws.proofs
use proofs.Names.{ℕ, ◌≡◌, ◌<◌, Bool, true, false, not, ◌&&◌, ◌+◌, ◌%◌, ◌∙◌, [], ◌∷◌, ◌++◌, length, Option, Some, None}
use proofs.Names.{refl, sym, ap, subst, same_Some, if◌then◌else◌, is_some, slice_index_or, wrong, wrong', ProcId}
use proofs.Names.{LineSet, changes_phase, is_message_out, is_message_in, is_fault, receiver_in, Row, Change, Connection}
use proofs.Names.{Handshakes, handshakes_after, is_abort, got_in, got_out, MsgIn, MsgOut, fresh_bytes, byte_out}
use proofs.Names.{byte_in, byte_else, Dialogue, ScenarioValue, whole_in, whole_out, message_in, message_out, Item}
use proofs.Names.{process, Link, plain, last_in, last_out, Exchange, plan_after_message, struck_plan, bytes_of_messages}
use proofs.Names.{phase_of, Phase, Plan, RunState, bus_of, run_state_after, AreUnits, in_connection, in_io}
use proofs.Names.{few_messages, AreGiven, Gives, IsRowIn, Speaks, IsSpeaking, GoesOn, none_some, out_in, out_phase}
use proofs.{Names.{in_phase, by_bool, EndsWellIf, LastBy, LastTalk}, Items.Row.{LinkAfter, says, hears, stays}}
use proofs.{Items.Row.{heard_link, link_crossed, link_still}, Last.Bytes.{Hears, Given, given_on, out_last, ends_if}}
use proofs.{Last.Bytes.{given_as}, Offers.Rows.{request_rises}, Talks.OutMessages.{NoAbort, out_is_no_abort}}
use proofs.{Talks.OutMessages.{last_is_whole}, Undone.Answers.{same_phase_of}}

-- ---- the plan in a phase

pub record KeptPlan (l q : Plan) : Type 0 where
  pub cause : q.cause ≡ l.cause
  pub messages : q.messages ≡ l.messages
  pub next : q.next ≡ l.next

plan_kept : (l : Plan) (now out last fault : Bool) (m : Option MsgOut)
    → KeptPlan l (if now then (if out then plan_after_message l last m else l) else if fault then struck_plan l else l)
plan_kept l true true true fault m = record { cause = refl; messages = refl; next = refl }
plan_kept l true true false fault m = record { cause = refl; messages = refl; next = refl }
plan_kept l true false last fault m = record { cause = refl; messages = refl; next = refl }
plan_kept l false out last true m = record { cause = refl; messages = refl; next = refl }
plan_kept l false out last false m = record { cause = refl; messages = refl; next = refl }

-- ---- outside the message phases

last_there : (l : Link) (a : Plan) (count : ℕ) (last : Bool) (b : LineSet) → b.msg ≡ false
    → LastBy l a count last (phase_of b) → l.last ≡ plain
last_there l a count last b e h = go b.cd b.io
    (subst (λ (m : Bool). LastBy l a count last (if m then (if b.io then Phase.MessageIn else Phase.MessageOut)
    else if b.cd then (if b.io then Phase.Status else Phase.Command) else if b.io then Phase.DataIn else Phase.DataOut))
    e h)
  where
    go : (d i : Bool) → LastBy l a count last
        (if d then (if i then Phase.Status else Phase.Command) else if i then Phase.DataIn else Phase.DataOut)
        → l.last ≡ plain
    go true true w = w
    go true false w = w
    go false true w = w
    go false false w = w

pub last_here : (l : Link) (a : Plan) (count : ℕ) (last : Bool) (b : LineSet) → b.msg ≡ false → l.last ≡ plain
    → LastBy l a count last (phase_of b)
last_here l a count last b e h = subst
    (λ (m : Bool). LastBy l a count last (if m then (if b.io then Phase.MessageIn else Phase.MessageOut)
    else if b.cd then (if b.io then Phase.Status else Phase.Command) else if b.io then Phase.DataIn else Phase.DataOut))
    (sym e) (go b.cd b.io)
  where
    go : (d i : Bool) → LastBy l a count last
        (if d then (if i then Phase.Status else Phase.Command) else if i then Phase.DataIn else Phase.DataOut)
    go true true = h
    go true false = h
    go false true = h
    go false false = h

no_message_phase : (b : LineSet) → is_message_out b ≡ false → is_message_in b ≡ false
    → (b.msg ≡ true → b.cd ≡ true) → b.msg ≡ false
no_message_phase b e f known = go b.msg b.cd b.io e f known
  where
    go : (m d i : Bool) → (m && d && not i) ≡ false → (m && d && i) ≡ false → (m ≡ true → d ≡ true) → m ≡ false
    go true true true x y z = wrong y
    go true true false x y z = wrong x
    go true false i x y z = wrong' (z refl)
    go false d i x y z = refl

-- ---- the phase stays

pub record LastRow (s : ScenarioValue) (k : RunState) (row : Row) (n : Connection) (c : Change) (l : Link)
    (id : ProcId) : Type 0 where
  pub units : AreUnits s
  pub goes : GoesOn s k row n c
  pub speaks : Speaks s k n
  pub gives : Gives k
  pub link_is : k.story.link ≡ Some l
  pub served_is : k.served ≡ Some (process id)
  pub lines : is_fault row.kind ≡ false

pub record Stays (s : ScenarioValue) (k : RunState) (row : Row) (n : Connection) (c : Change) (now : Bool) : Type
    0 where
  pub begun : (run_state_after s k row).exchange.begun ≡ k.exchange.begun
  pub phase : phase_of (bus_of (run_state_after s k row)) ≡ phase_of (bus_of k)
  pub plan : KeptPlan k.exchange.plan (run_state_after s k row).exchange.plan

pub stays_as : (s : ScenarioValue) (k : RunState) (row : Row) (n : Connection) (c : Change) (now : Bool)
    → IsRowIn k row n c → changes_phase c ≡ false → is_some (receiver_in n c) ≡ now → Stays s k row n c now
stays_as s k row n c now r ep en =
    let i = in_connection s k row n c false now (is_fault row.kind) r ep en refl in
    record {
      begun = ap (λ (x : Exchange). x.begun) i.exchange_is;
      phase = ap phase_of i.bus_is ∙ same_phase_of c ep ∙ ap phase_of (sym r.bus_is);
      plan = subst (λ (x : Plan). KeptPlan k.exchange.plan x) (sym (ap (λ (x : Exchange). x.plan) i.exchange_is))
          (plan_kept k.exchange.plan now (is_message_out c.before) k.story.bus_state.dialogue.is_last
          (is_fault row.kind && not c.before.io) (message_out k.story.bus_state.dialogue c now));
    }

-- No byte crosses.
pub still_last : (s : ScenarioValue) (k : RunState) (row : Row) (n : Connection) (c : Change) (l m : Link)
    → IsRowIn k row n c → changes_phase c ≡ false → is_some (receiver_in n c) ≡ false
    → k.story.link ≡ Some l → (run_state_after s k row).story.link ≡ Some m
    → (phase_of (bus_of k) ≡ Phase.MessageIn → (run_state_after s k row).handshakes.requests ≡ k.handshakes.requests)
    → LastTalk k l → LastTalk (run_state_after s k row) m
still_last s k row n c l m r ep en el em asked h =
    subst (λ (x : Link). LastTalk j x) (same_Some l m (sym (link_still s k row n c l r en el) ∙ em))
    (record {
      before = h.before;
      unbegun = λ b. h.unbegun (sym t.begun ∙ b);
      begun = λ b. subst (LastBy l j.exchange.plan j.handshakes.requests j.story.bus_state.dialogue.is_last)
          (sym t.phase) (go (phase_of (bus_of k)) refl (h.begun (sym t.begun ∙ b)));
    })
  where
    j : RunState
    j = run_state_after s k row

    t : Stays s k row n c false
    t = stays_as s k row n c false r ep en

    last : j.story.bus_state.dialogue.is_last ≡ k.story.bus_state.dialogue.is_last
    last = ap (λ (d : Dialogue). d.is_last)
        (in_connection s k row n c false false (is_fault row.kind) r ep en refl).dialogue_is

    go : (f : Phase) → phase_of (bus_of k) ≡ f
        → LastBy l k.exchange.plan k.handshakes.requests k.story.bus_state.dialogue.is_last f
        → LastBy l j.exchange.plan j.handshakes.requests j.story.bus_state.dialogue.is_last f
    go Phase.MessageOut e w =
        (λ z. w.0 (sym last ∙ z), ends_if k.exchange.plan j.exchange.plan t.plan.cause t.plan.messages t.plan.next w.1)
    go Phase.MessageIn e w = given_as l k.exchange.plan.messages j.exchange.plan.messages k.exchange.plan.next
        j.exchange.plan.next k.handshakes.requests j.handshakes.requests t.plan.messages t.plan.next (asked e) w
    go _ e w = w

-- ---- a byte crosses

pub cross_out : (s : ScenarioValue) (k : RunState) (row : Row) (n : Connection) (c : Change) (l m : Link) (id : ProcId)
    → LastRow s k row n c l id → changes_phase c ≡ false → is_some (receiver_in n c) ≡ true → k.exchange.begun ≡ true
    → is_message_out c.before ≡ true → (run_state_after s k row).story.link ≡ Some m → LastTalk k l
    → LastTalk (run_state_after s k row) m
cross_out s k row n c l m id g ep en b here em h = go (link_crossed s k row n c l g.goes.row_is en g.link_is)
  where
    j : RunState
    j = run_state_after s k row

    d : Dialogue
    d = k.story.bus_state.dialogue

    byte : ℕ
    byte = c.after.data_bits % 256

    t : Stays s k row n c true
    t = stays_as s k row n c true g.goes.row_is ep en

    phase : phase_of (bus_of k) ≡ Phase.MessageOut
    phase = ap phase_of g.goes.row_is.bus_is ∙ out_phase c.before here

    speaking : IsSpeaking s n k.served k.exchange d
    speaking = g.speaks.in_message_out b (ap is_message_out g.goes.row_is.bus_is ∙ here)

    said : message_out d c true ≡ whole_out (got_out (fresh_bytes d ++ byte ∷ []))
    said = λ x. if here x then whole_out (got_out (fresh_bytes d ++ byte ∷ [])) else None

    last : j.story.bus_state.dialogue.is_last ≡ not c.after.atn
    last = ap (λ (x : Dialogue). x.is_last)
        (in_connection s k row n c false true (is_fault row.kind) g.goes.row_is ep en refl).dialogue_is
        ∙ (λ x. (if here x then byte_out d byte (not c.after.atn)
        else if is_message_in c.before then byte_in d byte else byte_else d c.before byte).is_last)

    no_abort : (x : MsgOut) → message_out d c true ≡ Some x → is_abort x ≡ false
    no_abort x e = subst NoAbort (sym said ∙ e) (out_is_no_abort s n id k.exchange d byte g.units
        (subst (λ (y : Option Item). IsSpeaking s n y k.exchange d) g.served_is speaking) (g.goes.says here en).0)

    unfinished : message_out d c true ≡ None → not c.after.atn ≡ true → l.last ≡ plain
    unfinished e f = by_bool c.after.atn (λ z. wrong' (sym (ap not z) ∙ f))
        (λ z. wrong' (ap (λ (y : Option MsgOut). is_some y) (sym e ∙ said) ∙ last_is_whole s n k.served k.exchange d
        byte speaking (g.goes.says here en).0 (sym (g.goes.says here en).1 ∙ z)))

    was : (d.is_last ≡ true → l.last ≡ plain) × EndsWellIf k.exchange.plan k.exchange.plan.cause
    was = subst (LastBy l k.exchange.plan k.handshakes.requests d.is_last) phase (h.begun b)

    to : (x : Link) → j.story.link ≡ Some x → x.before ≡ plain
        → (not c.after.atn ≡ true → x.last ≡ plain) → LastTalk j m
    to x z before f =
        subst (λ (y : Link). LastTalk j y) (same_Some x m (sym z ∙ em))
        (record {
          before = before;
          unbegun = λ u. wrong (sym (t.begun ∙ b) ∙ u);
          begun = λ u. subst (LastBy x j.exchange.plan j.handshakes.requests j.story.bus_state.dialogue.is_last)
              (sym (t.phase ∙ phase)) ((
                λ q. f (sym last ∙ q),
                ends_if k.exchange.plan j.exchange.plan t.plan.cause t.plan.messages t.plan.next was.1,
              ));
        })

    go : LinkAfter s k.story l (message_out d c true) (message_in d c true) j.story.link → LastTalk j m
    go (says x e z) = to (record l { last = last_out x l }) z h.before (λ q. out_last l x (no_abort x e) h.before)
    go (stays e f z) = to l z h.before (unfinished e)
    go (hears x e f z) = to (heard_link s k.story l x) z (in_none x f) (λ q. in_none x f)
      where
        in_none : {A : Type 0} (x : MsgIn) → message_in d c true ≡ Some x → A
        in_none x w = none_some x (sym (ap (λ (q : Bool). if q then whole_in (got_in (d.half ++ byte ∷ [])) else None)
            (by_bool (is_message_in c.before) (λ z. wrong (sym here ∙ out_in c.before z)) (λ z. z))) ∙ w)

pub cross_in :
    (s : ScenarioValue) (k : RunState) (row : Row) (n : Connection) (c : Change) (l m : Link) (id : ProcId) (dev : ℕ)
    → LastRow s k row n c l id → changes_phase c ≡ false → receiver_in n c ≡ Some dev → k.exchange.begun ≡ true
    → is_message_in c.before ≡ true → (run_state_after s k row).story.link ≡ Some m → LastTalk k l
    → LastTalk (run_state_after s k row) m
cross_in s k row n c l m id dev g ep er b here em h = record {
  before = after.before;
  unbegun = λ u. wrong (sym (t.begun ∙ b) ∙ u);
  begun = λ u. subst (LastBy m j.exchange.plan j.handshakes.requests j.story.bus_state.dialogue.is_last)
      (sym (t.phase ∙ phase))
      (given_as m k.exchange.plan.messages j.exchange.plan.messages k.exchange.plan.next j.exchange.plan.next
      (k.handshakes.requests + 1) j.handshakes.requests t.plan.messages t.plan.next count after.given);
}
  where
    j : RunState
    j = run_state_after s k row

    d : Dialogue
    d = k.story.bus_state.dialogue

    byte : ℕ
    byte = c.after.data_bits % 256

    en : is_some (receiver_in n c) ≡ true
    en = ap (λ (x : Option ℕ). is_some x) er

    t : Stays s k row n c true
    t = stays_as s k row n c true g.goes.row_is ep en

    phase : phase_of (bus_of k) ≡ Phase.MessageIn
    phase = ap phase_of g.goes.row_is.bus_is ∙ in_phase c.before here

    next : (byte ≡ slice_index_or (bytes_of_messages k.exchange.plan.messages) k.handshakes.requests 0)
        × (k.handshakes.requests < length (bytes_of_messages k.exchange.plan.messages)) × (k.exchange.begun ≡ true)
    next = g.goes.gives here en

    given : AreGiven (bytes_of_messages k.exchange.plan.messages) d.half k.handshakes.requests
    given = g.gives.in_message_in b (ap is_message_in g.goes.row_is.bus_is ∙ here)

    count : j.handshakes.requests ≡ k.handshakes.requests + 1
    count = ap (λ (x : Handshakes). x.requests)
        (in_connection s k row n c false true (is_fault row.kind) g.goes.row_is ep en refl).handshakes_is
        ∙ ap (λ (q : Bool). (handshakes_after q (Some n) c row.time k.handshakes).requests) g.lines
        ∙ request_rises n c row.time dev k.handshakes ep (in_io c.before here) er
        (length (bytes_of_messages k.exchange.plan.messages)) next.1 (few_messages k.exchange.plan.messages)

    reads : message_in d c true ≡ whole_in (got_in (d.half ++ byte ∷ []))
    reads = λ x. if here x then whole_in (got_in (d.half ++ byte ∷ [])) else None

    out_none : message_out d c true ≡ None
    out_none =
        ap (λ (q : Bool). if q then whole_out (got_out (fresh_bytes d ++ byte ∷ [])) else None) (out_in c.before here)

    hears_as : (x : Link) → j.story.link ≡ Some x → Hears l x (whole_in (got_in (d.half ++ byte ∷ [])))
        → Hears l m (whole_in (got_in (d.half ++ byte ∷ [])))
    hears_as x z w =
        subst (λ (y : Link). Hears l y (whole_in (got_in (d.half ++ byte ∷ [])))) (same_Some x m (sym z ∙ em)) w

    heard : LinkAfter s k.story l (message_out d c true) (message_in d c true) j.story.link
        → Hears l m (whole_in (got_in (d.half ++ byte ∷ [])))
    heard (says x e z) = none_some x (sym out_none ∙ e)
    heard (stays e f z) =
        hears_as l z (record { none = λ w. (refl, refl); some = λ x w. none_some x (sym (sym reads ∙ f) ∙ w) })
    heard (hears x e f z) =
        hears_as (heard_link s k.story l x) z
        (record {
          none = λ w. none_some x (sym w ∙ sym reads ∙ f);
          some = λ y w. (ap last_in (same_Some x y (sym (sym reads ∙ f) ∙ w)), refl);
        })

    after : Given m k.exchange.plan.messages k.exchange.plan.next (k.handshakes.requests + 1)
    after = given_on l m k.exchange.plan.messages k.exchange.plan.next d.half k.handshakes.requests byte g.gives.fit
        given next.0 next.1 (heard (link_crossed s k row n c l g.goes.row_is en g.link_is)) (record {
          before = h.before;
          given = subst (LastBy l k.exchange.plan k.handshakes.requests d.is_last) phase (h.begun b);
        })

pub cross_else : (s : ScenarioValue) (k : RunState) (row : Row) (n : Connection) (c : Change) (l m : Link) (id : ProcId)
    → LastRow s k row n c l id → changes_phase c ≡ false → is_some (receiver_in n c) ≡ true → k.exchange.begun ≡ true
    → is_message_out c.before ≡ false → is_message_in c.before ≡ false → (run_state_after s k row).story.link ≡ Some m
    → LastTalk k l → LastTalk (run_state_after s k row) m
cross_else s k row n c l m id g ep en b out into em h = go (link_crossed s k row n c l g.goes.row_is en g.link_is)
  where
    j : RunState
    j = run_state_after s k row

    d : Dialogue
    d = k.story.bus_state.dialogue

    t : Stays s k row n c true
    t = stays_as s k row n c true g.goes.row_is ep en

    off : (bus_of k).msg ≡ false
    off = no_message_phase (bus_of k) (ap is_message_out g.goes.row_is.bus_is ∙ out)
        (ap is_message_in g.goes.row_is.bus_is ∙ into) (λ z. (g.goes.phase z).0)

    last : l.last ≡ plain
    last = last_there l k.exchange.plan k.handshakes.requests d.is_last (bus_of k) off (h.begun b)

    go : LinkAfter s k.story l (message_out d c true) (message_in d c true) j.story.link → LastTalk j m
    go (says x e z) = none_some x (sym
        (ap (λ (q : Bool). if q then whole_out (got_out (fresh_bytes d ++ c.after.data_bits % 256 ∷ [])) else None) out)
        ∙ e)
    go (hears x e f z) = none_some x
        (sym (ap (λ (q : Bool). if q then whole_in (got_in (d.half ++ c.after.data_bits % 256 ∷ [])) else None) into)
        ∙ f)
    go (stays e f z) =
        subst (λ (y : Link). LastTalk j y) (same_Some l m (sym z ∙ em))
        (record {
          before = h.before;
          unbegun = λ u. last;
          begun = λ u. subst (LastBy l j.exchange.plan j.handshakes.requests j.story.bus_state.dialogue.is_last)
              (sym t.phase) (last_here l j.exchange.plan j.handshakes.requests j.story.bus_state.dialogue.is_last
              (bus_of k) off last);
        })
