-- What holds of the process of a connection goes on with a row with which no byte crosses and no phase begins.
use Rattle.story_laws.proofs
use proofs.Names.{inl, inr, ℕ, ◌≡◌, ◌⊎◌, Bool, true, false, not, ◌&&◌, ◌∙◌, Option, Some, None, refl, sym, ap, subst}
use proofs.Names.{same_Some, if◌then◌else◌, is_some, wrong, wrong', ProcId, rises, LineSet, changes_phase}
use proofs.Names.{is_message_in, is_message_out, is_fault, receiver_in, Row, Change, Connection, struck_same}
use proofs.Names.{Handshakes, no_handshakes, handshakes_after, asked_if, answered_if, ScenarioValue, is_complete}
use proofs.Names.{is_completion, Item, process, has_item, Sent, Link, Exchange, struck_plan, phase_of, Plan, RunState}
use proofs.Names.{bus_of, run_state_after, leaving, AreUnits, InConnection, in_connection, SamePhase, same_phase_is}
use proofs.Names.{in_io, answered_same, in_same, out_same, Gives, Knows, IsRowIn, Speaks, GoesOn, none_some, some_none}
use proofs.{Names.{all_four, Talk, talk_of, awaits, TalksBy, Talks}, Items.Row.{OverAfter, over_after, link_still}}
use proofs.Talks.Steps.{Alternates, Completes, StaysPhase, stays_by}

-- What is known of such a row.
pub record TalkRow (s : ScenarioValue) (k : RunState) (row : Row) (n : Connection) (c : Change) : Type 0 where
  pub units : AreUnits s
  pub goes : GoesOn s k row n c
  pub speaks : Speaks s k n
  pub gives : Gives k
  pub knows : Knows s k n
  pub attends : is_message_in c.before ≡ true → awaits c.before ≡ false → c.after.atn ≡ c.before.atn
  pub alternates : is_message_in c.before ≡ true → Alternates c.before c.after
  pub phase : c.after.msg ≡ true → c.after.cd ≡ true
  pub whereto : changes_phase c ≡ true → k.exchange.begun ≡ true → (leaving s k n.target).to ≡ Some (phase_of c.after)

-- ---- the phase stays

-- REQ does not rise where no byte crosses to the initiator.
no_request : (n : Connection) (c : Change) → receiver_in n c ≡ None → is_message_in c.before ≡ true
    → rises c.before.req c.after.req ≡ false
no_request n c er here = go (rises c.before.req c.after.req)
    (sym (ap (λ (q : Bool). if q then (if rises c.before.req c.after.req then Some n.initiator else None)
    else (if rises c.before.ack c.after.ack then Some n.target else None)) (in_io c.before here)) ∙ er)
  where
    go : (q : Bool) → (if q then Some n.initiator else None) ≡ None → q ≡ false
    go true z = some_none n.initiator z
    go false z = refl

pub a_request : (n : Connection) (c : Change) (d : ℕ) → receiver_in n c ≡ Some d → is_message_in c.before ≡ true
    → rises c.before.req c.after.req ≡ true
a_request n c d er here = go (rises c.before.req c.after.req)
    (sym (ap (λ (q : Bool). if q then (if rises c.before.req c.after.req then Some n.initiator else None)
    else (if rises c.before.ack c.after.ack then Some n.target else None)) (in_io c.before here)) ∙ er)
  where
    go : (q : Bool) → (if q then Some n.initiator else None) ≡ Some d → q ≡ true
    go true z = refl
    go false z = none_some d z

requests_after : (fault : Bool) (n : Connection) (c : Change) (t : ℕ) (h : Handshakes) → changes_phase c ≡ false
    → rises c.before.req c.after.req ≡ false → (handshakes_after fault (Some n) c t h).requests ≡ h.requests
requests_after true n c t h ep er = struck_same c.before.io h
requests_after false n c t h ep er = (λ i.
    (if ep i then no_handshakes else answered_if (rises c.before.ack c.after.ack) t (asked_if (er i) t h)).requests)
    ∙ answered_same (rises c.before.ack c.after.ack) t h

still_plan : (fault io : Bool) (l : Plan) → ((if fault && not io then struck_plan l else l).messages ≡ l.messages)
    × ((if fault && not io then struck_plan l else l).next ≡ l.next)
still_plan true true l = (refl, refl)
still_plan true false l = (refl, refl)
still_plan false io l = (refl, refl)

completion_parts : (l : Link) (c : Change) → is_completion l c ≡ true → Completes l c.before c.after
completion_parts l c e =
    go (rises c.before.ack c.after.ack) refl (is_message_in c.before) refl (is_complete l.last) refl c.after.atn refl e
  where
    up : (a b : Bool) → rises a b ≡ true → b ≡ true
    up true b z = wrong' z
    up false b z = z

    go : (q : Bool) → rises c.before.ack c.after.ack ≡ q → (r : Bool) → is_message_in c.before ≡ r
        → (w : Bool) → is_complete l.last ≡ w → (x : Bool) → c.after.atn ≡ x → (q && r && w && not x) ≡ true
        → Completes l c.before c.after
    go true a true b true d false f z =
        record { last = d; here = b; calm = f; answered = up c.before.ack c.after.ack a }
    go true a true b true d true f z = wrong' z
    go true a true b false d x f z = wrong' z
    go true a false b w d x f z = wrong' z
    go false a r b w d x f z = wrong' z

-- The item of the link is served.
pub item_served : (s : ScenarioValue) (k : RunState) (n : Connection) (l : Link) (id : ProcId) → Knows s k n
    → k.story.link ≡ Some l → n.reselected ≡ false → k.served ≡ Some (process id) → l.item ≡ Some (process id)
item_served s k n l id w el rs e = ap (λ (x : Link). x.item) (same_Some l w.link (sym el ∙ w.link_is)) ∙ go w.item_is
  where
    go : (w.link.item ≡ k.served) ⊎ ((n.reselected ≡ true) × (w.link.item ≡ None)) → w.link.item ≡ Some (process id)
    go (inl z) = z ∙ e
    go (inr z) = wrong (sym z.0 ∙ rs)

pub stays_talk : (s : ScenarioValue) (k : RunState) (row : Row) (n : Connection) (c : Change) (l : Link) (fault : Bool)
    → TalkRow s k row n c → k.story.link ≡ Some l → TalksBy s (talk_of k) n l → changes_phase c ≡ false
    → receiver_in n c ≡ None → is_fault row.kind ≡ fault → Talks s (run_state_after s k row) n
stays_talk s k row n c l fault g el h ep er ef m em = subst (λ (x : Link). TalksBy s (talk_of j) n x)
    (same_Some l m (sym (link_still s k row n c l r none el) ∙ em)) (subst (λ (x : Talk). TalksBy s x n l) (sym same)
    (stays_by s (talk_of k) n l c.after j.handshakes.requests j.story.sent.over w h))
  where
    j : RunState
    j = run_state_after s k row

    r : IsRowIn k row n c
    r = g.goes.row_is

    none : is_some (receiver_in n c) ≡ false
    none = ap (λ (x : Option ℕ). is_some x) er

    i : InConnection s k row n c false false fault
    i = in_connection s k row n c false false fault r ep none ef

    o : OverAfter s k row c l
    o = over_after s k row n c false l r none el

    b : bus_of k ≡ c.before
    b = r.bus_is

    phase : SamePhase c.before c.after
    phase = same_phase_is c ep

    plan : (j.exchange.plan.messages ≡ k.exchange.plan.messages) × (j.exchange.plan.next ≡ k.exchange.plan.next)
    plan =
        let w = still_plan fault c.before.io k.exchange.plan in (
          ap (λ (x : Exchange). x.plan.messages) i.exchange_is ∙ w.0,
          ap (λ (x : Exchange). x.plan.next) i.exchange_is ∙ w.1,
        )

    same : talk_of j ≡ record (talk_of k) { bus = c.after; requests = j.handshakes.requests; over = j.story.sent.over }
    same = λ x. record {
      served = i.served_is x;
      messages = plan.0 x;
      next = plan.1 x;
      begun = (i.exchange_is x).begun;
      bus = i.bus_is x;
      requests = j.handshakes.requests;
      is_last = (i.dialogue_is x).is_last;
      over = j.story.sent.over;
    }

    here : is_message_in (bus_of k) ≡ true → is_message_in c.before ≡ true
    here z = ap is_message_in (sym b) ∙ z

    completed : (q : Bool) → is_completion l c ≡ q → (x : Item) → has_item j.story.sent.over x ≡ true
        → (has_item k.story.sent.over x ≡ true) ⊎ Completes l (bus_of k) c.after
    completed true z x e = inr (subst (λ (y : LineSet). Completes l y c.after) (sym b) (completion_parts l c z))
    completed false z x e = inl (ap (λ (y : Sent). has_item y.over x) (sym (o.same (inr z))) ∙ e)

    w : StaysPhase n l (talk_of k) c.after j.handshakes.requests j.story.sent.over
    w = record {
      in_same = in_same c.before c.after phase ∙ ap is_message_in (sym b);
      out_same = out_same c.before c.after phase ∙ ap is_message_out (sym b);
      requests_are = λ z. ap (λ (x : Handshakes). x.requests) i.handshakes_is
          ∙ requests_after (is_fault row.kind) n c row.time k.handshakes ep (no_request n c er (here z));
      over_by = λ x e. completed (is_completion l c) refl x e;
      grows = λ x e. o.grows.over x e;
      ends = λ rs z y a q id e. o.ended ep (all_four (rises c.before.ack c.after.ack) (is_message_in c.before)
          (is_complete l.last) c.after.atn (ap (λ (x : LineSet). rises x.ack c.after.ack) (sym b) ∙ a) (here y) z q) id
          (item_served s k n l id g.knows el rs e);
      attends = λ z a. g.attends (here z) (ap awaits (sym b) ∙ a) ∙ ap (λ (x : LineSet). x.atn) (sym b);
      alternates = λ z. subst (λ (x : LineSet). Alternates x c.after) (sym b) (g.alternates (here z));
      quiet = λ z. ap (λ (x : LineSet). rises x.req c.after.req) b ∙ no_request n c er (here z);
    }
