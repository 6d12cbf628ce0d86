-- What holds of the process of a connection goes on as a phase is left; and so with each row with which the connection
-- goes on.
use Rattle.story_laws.proofs
use proofs.Names.{inl, ℕ, ◌≡◌, Bool, true, false, not, ◌==◌, ◌∙◌, Option, Some, None, refl, sym, ap, subst, ◌&&◌}
use proofs.Names.{length, same_Some, if◌then◌else◌, is_some, ◌-◌, nat_lt, wrong, wrong', LineSet, changes_phase}
use proofs.Names.{is_message_in, is_message_out, is_fault, receiver_in, Row, Change, Connection, MsgIn, ScenarioValue}
use proofs.Names.{Process, Link, Exchange, from_byte, plan_anew, message_bytes, phase_of, Serving, phase_entry}
use proofs.Names.{phase_leaving, leaving_by, after_messages, cause_after, plan_in_phase, Hearing, Leaving, Messages}
use proofs.Names.{Next, Phase, Plan, RunState, bus_of, run_state_after, hearing_of, leaving, serving_of, serving_at}
use proofs.Names.{InConnection, in_connection, left_messages, IsOfOthers, OnMessages, LeavesWhole, RowKind, still}
use proofs.Names.{strikes, crosses, turns, IsRowIn, reading_in, in_phase, out_phase, plans_well, is_sense_item}
use proofs.{Names.{frees_bus, Talk, talk_of, IsNameOf, TalksBy, Talks, IsTaken}, Items.Row.{over_after, link_still}}
use proofs.Talks.{Bytes.{in_talk, out_talk, else_talk}, LastMessages.{leaves_well, from_well, sense_stays}}
use proofs.Talks.{Rows.{TalkRow, stays_talk}, Steps.{TurnsTo, turns_by}}

-- ---- how a phase is left

pub others_named : (c : Process) → IsOfOthers (IsNameOf c)
others_named c = record { complete = tt; save = tt; restore = tt; disconnect = tt; sdtr = λ a. tt; reject = tt }

pub from_named : (q : MsgIn → Type 0) (m : Messages) (i : ℕ) → OnMessages q m → OnMessages q (from_byte m i)
from_named q m i h = go (nat_lt i (length (message_bytes m.first)))
  where
    go : (x : Bool) → OnMessages q (if x then m else record { first = m.second; second = None })
    go true = h
    go false = (h.1, tt)

pub is_out : (b : LineSet) → (b.msg ≡ true → b.cd ≡ true) → phase_of b ≡ Phase.MessageOut → is_message_out b ≡ true
is_out b cd e = go b.msg b.cd b.io cd e
  where
    go : (m d i : Bool) → (m ≡ true → d ≡ true) → (if m then (if i then Phase.MessageIn else Phase.MessageOut)
        else if d then (if i then Phase.Status else Phase.Command) else if i then Phase.DataIn else Phase.DataOut)
        ≡ Phase.MessageOut → (m && d && not i) ≡ true
    go true true false f z = refl
    go true true true f z = absurd cc
    go true false i f z = wrong' (f refl)
    go false true true f z = absurd cc
    go false true false f z = absurd cc
    go false false true f z = absurd cc
    go false false false f z = absurd cc

pub frees : (next : Next) → frees_bus next ≡ true → next ≡ Next.FreeBus
frees Next.FreeBus e = refl
frees _ e = wrong' e

-- With COMMAND COMPLETE taken and ATN false the bus is freed; with ATN true MESSAGE OUT follows.
pub taken_leaves : (s : ScenarioValue) (k : RunState) (dev : ℕ) → IsTaken (talk_of k)
    → (leaving s k dev).to ≡ (if (bus_of k).atn then Some Phase.MessageOut else None)
taken_leaves s k dev t =
    (λ i. (leaving_by (serving_of s k dev) (t.begun i) (bus_of k)).to)
    ∙ (λ i. (phase_leaving (serving_at s k dev (phase_of (bus_of k))) (bus_of k).atn (in_phase (bus_of k) t.here i)).to)
    ∙ go (bus_of k).atn k.exchange.plan.next (frees k.exchange.plan.next t.next_is)
  where
    v : Serving
    v = serving_at s k dev (phase_of (bus_of k))

    go : (q : Bool) (next : Next) → next ≡ Next.FreeBus
        → (if q then phase_entry Phase.MessageOut else after_messages v next).to
        ≡ (if q then Some Phase.MessageOut else None)
    go true next e = refl
    go false next e = ap (λ (x : Next). (after_messages v x).to) e

-- ---- what is planned

turn_planned : (sense : Bool) (w : Hearing) (l : Leaving) (a : Plan)
    → plans_well sense a.messages a.next ≡ true → plans_well sense l.messages l.next ≡ true
    → plans_well sense (plan_in_phase w l a).messages (plan_in_phase w l a).next ≡ true
turn_planned sense w l a was next = go (is_message_out w.change.after) w.begun (is_message_in w.change.before)
  where
    refused : Bool → Plan
    refused z = record (plan_anew a) {
      cause = cause_after w.change.before;
      messages =
          if z then from_byte a.messages (w.offered - 1) else a.messages;
    }

    go : (q r z : Bool) → plans_well sense (if not q then record (plan_anew a) { messages = l.messages; next = l.next }
        else if r then refused z else plan_anew a).messages
        (if not q then record (plan_anew a) { messages = l.messages; next = l.next }
        else if r then refused z else plan_anew a).next ≡ true
    go false r z = next
    go true true true = from_well sense a.messages a.next (w.offered - 1) was
    go true true false = was
    go true false z = was

turn_named : (c : Process) (w : Hearing) (l : Leaving) (x : Plan) → OnMessages (IsNameOf c) x.messages
    → OnMessages (IsNameOf c) l.messages → OnMessages (IsNameOf c) (plan_in_phase w l x).messages
turn_named c w l x was next = go (is_message_out w.change.after) w.begun (is_message_in w.change.before)
  where
    refused : Bool → Plan
    refused z = record (plan_anew x) {
      cause = cause_after w.change.before;
      messages =
          if z then from_byte x.messages (w.offered - 1) else x.messages;
    }

    go : (q r z : Bool)
        → OnMessages (IsNameOf c) (if not q then record (plan_anew x) { messages = l.messages; next = l.next }
        else if r then refused z else plan_anew x).messages
    go false r z = next
    go true true true = from_named (λ m. IsNameOf c m) x.messages (w.offered - 1) was
    go true true false = was
    go true false z = was

-- ---- the turn

turns_talk : (s : ScenarioValue) (k : RunState) (row : Row) (n : Connection) (c : Change) (l : Link)
    → TalkRow s k row n c → k.story.link ≡ Some l → TalksBy s (talk_of k) n l → changes_phase c ≡ true
    → receiver_in n c ≡ None → is_fault row.kind ≡ false → Talks s (run_state_after s k row) n
turns_talk s k row n c l g el h ep er ef m em = subst (λ (x : Link). TalksBy s (talk_of j) n x)
    (same_Some l m (sym (link_still s k row n c l r none el) ∙ em)) (subst (λ (x : Talk). TalksBy s x n l) (sym same)
    (turns_by s (talk_of k) n l c.after j.exchange.plan.messages j.exchange.plan.next j.handshakes.requests w h))
  where
    j : RunState
    j = run_state_after s k row

    r : IsRowIn k row n c
    r = g.goes.row_is

    none : is_some (receiver_in n c) ≡ false
    none = ap (λ (x : Option ℕ). is_some x) er

    i : InConnection s k row n c true false false
    i = in_connection s k row n c true false false r ep none ef

    heard : Hearing
    heard = hearing_of k row (reading_in k.story.bus_state n c false)

    l' : Leaving
    l' = leaving s k n.target

    plan : j.exchange.plan ≡ plan_in_phase heard l' k.exchange.plan
    plan = ap (λ (x : Exchange). x.plan) i.exchange_is

    same : talk_of j ≡ record (talk_of k) {
      messages = j.exchange.plan.messages;
      next = j.exchange.plan.next;
      begun = true;
      bus = c.after;
      requests = j.handshakes.requests;
      is_last = false;
    }
    same = λ x. record {
      served = i.served_is x;
      messages = j.exchange.plan.messages;
      next = j.exchange.plan.next;
      begun = (i.exchange_is x).begun;
      bus = i.bus_is x;
      requests = j.handshakes.requests;
      is_last = (i.dialogue_is x).is_last;
      over = ((over_after s k row n c false l r none el).same (inl ep) x).over;
    }

    whole : LeavesWhole s k n
    whole = g.goes.leaves (ap changes_phase r.change_is ∙ ep)

    w : TurnsTo (talk_of k) l c.after j.exchange.plan.messages j.exchange.plan.next
    w = record {
      planned = (λ x. plans_well (is_sense_item k.served) (plan x).messages (plan x).next)
          ∙ turn_planned (is_sense_item k.served) heard l' k.exchange.plan h.planned
          (leaves_well (is_sense_item k.served) (serving_of s k n.target) k.exchange.begun (bus_of k)
          (λ z. sense_stays s k n.target z) h.planned);
      taken = taken;
      said = λ z. whole.out (out_phase (bus_of k) z);
      names = λ p all. subst (λ (x : Plan). OnMessages (IsNameOf p) x.messages) (sym plan)
          (turn_named p heard l' k.exchange.plan all (left_messages (λ x. IsNameOf p x) (others_named p)
          (serving_of s k n.target) k.exchange.begun (bus_of k) all));
      named = λ p v. wrong (sym (ap (λ (x : ℕ). x == 0) v.none_asked) ∙ whole.some (in_phase (bus_of k) v.here));
    }
      where
        no_phase : {A : Type 0} (x : Phase) → (let a : Option Phase = None in a) ≡ Some x → A
        no_phase x z = absurd cc

        taken : IsTaken (talk_of k) → ((bus_of k).atn ≡ true) × (is_message_out c.after ≡ true)
        taken t = go (bus_of k).atn refl (sym (taken_leaves s k n.target t) ∙ g.whereto ep t.begun)
          where
            go : (q : Bool) → (bus_of k).atn ≡ q
                → (if (bus_of k).atn then Some Phase.MessageOut else None) ≡ Some (phase_of c.after)
                → ((bus_of k).atn ≡ true) × (is_message_out c.after ≡ true)
            go true z e = (
              z,
              is_out c.after g.phase (sym (same_Some Phase.MessageOut (phase_of c.after)
                  (sym (ap (λ (x : Bool). if x then Some Phase.MessageOut else None) z) ∙ e))),
            )
            go false z e =
                no_phase (phase_of c.after) (sym (ap (λ (x : Bool). if x then Some Phase.MessageOut else None) z) ∙ e)

-- ---- any row

pub talks_on : (s : ScenarioValue) (k : RunState) (row : Row) (n : Connection) (c : Change) → TalkRow s k row n c
    → Talks s k n → Talks s (run_state_after s k row) n
talks_on s k row n c g h = go g.goes.row_is.kind
  where
    l : Link
    l = g.knows.link

    el : k.story.link ≡ Some l
    el = g.knows.link_is

    t : TalksBy s (talk_of k) n l
    t = h l el

    crossed : (dev : ℕ) → is_fault row.kind ≡ false → changes_phase c ≡ false → receiver_in n c ≡ Some dev → (o : Bool)
        → is_message_out c.before ≡ o → (i : Bool) → is_message_in c.before ≡ i → Talks s (run_state_after s k row) n
    crossed dev ef ep er true eo i ei = out_talk s k row n c l dev g el t ep er ef eo
    crossed dev ef ep er false eo true ei = in_talk s k row n c l dev g el t ep er ef ei
    crossed dev ef ep er false eo false ei = else_talk s k row n c l dev g el t ep er ef eo ei

    go : RowKind row n c → Talks s (run_state_after s k row) n
    go (still ef ep er) = stays_talk s k row n c l false g el t ep er ef
    go (strikes ef ep er) = stays_talk s k row n c l true g el t ep er ef
    go (crosses dev ef ep er) = crossed dev ef ep er (is_message_out c.before) refl (is_message_in c.before) refl
    go (turns ef ep er) = turns_talk s k row n c l g el t ep er ef
