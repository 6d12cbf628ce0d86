-- The data pointers of the process that is served, after a row with which its connection goes on in the same phase.
use Rattle.story_laws.proofs
use proofs.Names.{ℕ, ◌≡◌, ◌+◌, ◌*◌, ◌<◌, ◌^◌, Bool, true, false, not, ◌&&◌, ◌∙◌, List, [], ◌∷◌, ◌++◌, Option, Some}
use proofs.Names.{None, refl, sym, ap, subst, arith, ◌%◌, if◌then◌else◌, is_some, wrong', counted_on, rises, LineSet}
use proofs.Names.{changes_phase, is_data, is_message_out, is_message_in, is_fault, receiver_in, Row, Change, Connection}
use proofs.Names.{struck_same, Handshakes, no_handshakes, handshakes_on, handshakes_after, asked_if, answered_if}
use proofs.Names.{newest_struck_if, got_in, got_out, MsgIn, MsgOut, fresh_bytes, ScenarioValue, Policy, Process}
use proofs.Names.{byte_link, fault_link, RowReading, whole_in, whole_out, message_in, message_out, Area, CarriedBytes}
use proofs.Names.{carried_of, carried_after_byte, link_events, process, Link, Story, story_after_events}
use proofs.Names.{story_after_out, story_after_in, story_after_byte, story_after_fault, story_in_connection, Exchange}
use proofs.Names.{plan_after_message, struck_plan, phase_of, plan_with_byte, Hearing, Phase, Plan, ProcessProgress}
use proofs.Names.{progress_in, RunState, bus_of, carried_here, run_state_after, progress_after, leaving_of, hearing_of}
use proofs.Names.{is_data_out, InConnection, in_connection, reading_is, same_phase_is, requests_rise, requests_stay}
use proofs.Names.{link_after, Gives, is_in_phase, Knows, IsRowIn, reading_in, Speaks, GoesOn, count_more, none_some}
use proofs.Names.{data_in_lines, not_message_out, not_message_in, run_start, run_policy, PointersOf, PointersBy}
use proofs.Names.{PointersIf, IsInRun, IsUnnamed, ServedPointers, unnamed, named, UndoesServed, RefusesLater}
use proofs.{Commands.Stays.{phase_same}, Pointers.Kept.{SamePlan, AreCountedSo, counted_same, pointers_as, by_as}}
use proofs.Pointers.{Kept.{unnamed_as}, Steps.{fault_story, byte_same, byte_moves, byte_story}, Stories.{SamePointers}}
use proofs.Pointers.Stories.{same_on, events_same, story_row}

-- ---- what is known of the connection

pub record Meets (s : ScenarioValue) (k : RunState) (row : Row) (n : Connection) (c : Change) (q : Process) : Type
    0 where
  pub of : GoesOn s k row n c
  pub speaks : Speaks s k n
  pub gives : Gives k
  pub knows : Knows s k n
  pub served : k.served ≡ Some (process q.id)
  pub undoes : UndoesServed k
  pub refuses : RefusesLater k
  pub short : k.exchange.begun ≡ true → phase_of (bus_of k) ≡ Phase.DataOut → k.handshakes.answers + 1 < 2 ^ 64
  pub short_asked : k.exchange.begun ≡ true → phase_of (bus_of k) ≡ Phase.DataIn → k.handshakes.requests + 1 < 2 ^ 64

-- ---- lines

abbrev pub phase_by : Bool → Bool → Bool → Phase
phase_by m d i =
    if m then (if i then Phase.MessageIn else Phase.MessageOut)
    else if d then (if i then Phase.Status else Phase.Command) else if i then Phase.DataIn else Phase.DataOut

pub record LinesIn (b : LineSet) : Type 0 where
  pub msg : b.msg ≡ true
  pub io : b.io ≡ true

pub in_lines : (b : LineSet) → phase_of b ≡ Phase.MessageIn → LinesIn b
in_lines b e = go b.msg b.cd b.io refl refl (ap is_in_phase e)
  where
    go : (m d i : Bool) → b.msg ≡ m → b.io ≡ i → is_in_phase (phase_by m d i) ≡ true → LinesIn b
    go true d true em ei z = record { msg = em; io = ei }
    go true d false em ei z = wrong' z
    go false true true em ei z = wrong' z
    go false true false em ei z = wrong' z
    go false false true em ei z = wrong' z
    go false false false em ei z = wrong' z

pub run_lines : (b : LineSet) → phase_of b ≡ Phase.DataOut → (b.msg ≡ false) × (b.cd ≡ false) × (b.io ≡ false)
run_lines b e = go b.msg b.cd b.io refl refl refl (ap is_data_out e)
  where
    go : (m d i : Bool) → b.msg ≡ m → b.cd ≡ d → b.io ≡ i → is_data_out (phase_by m d i) ≡ true
        → (b.msg ≡ false) × (b.cd ≡ false) × (b.io ≡ false)
    go true d true em ed ei z = wrong' z
    go true d false em ed ei z = wrong' z
    go false true true em ed ei z = wrong' z
    go false true false em ed ei z = wrong' z
    go false false true em ed ei z = wrong' z
    go false false false em ed ei z = (em, ed, ei)

abbrev pub is_block_phase : Phase → Bool
is_block_phase Phase.Command = true
is_block_phase Phase.Status = true
is_block_phase _ = false

-- COMMAND and STATUS.
block_lines : (b : LineSet) → is_block_phase (phase_of b) ≡ true → (b.msg ≡ false) × (b.cd ≡ true)
block_lines b e = go b.msg b.cd b.io refl refl e
  where
    go : (m d i : Bool) → b.msg ≡ m → b.cd ≡ d → is_block_phase (phase_by m d i) ≡ true
        → (b.msg ≡ false) × (b.cd ≡ true)
    go true d true em ed z = wrong' z
    go true d false em ed z = wrong' z
    go false true i em ed z = (em, ed)
    go false false true em ed z = wrong' z
    go false false false em ed z = wrong' z

-- ---- handshakes

asked_answers : (q : Bool) (t : ℕ) (h : Handshakes) → (asked_if q t h).answers ≡ h.answers
asked_answers true t h = refl
asked_answers false t h = refl

quiet_ack : (q : Bool) (x : ℕ) → (if q then Some x else None) ≡ None → q ≡ false
quiet_ack true x e = none_some x (sym e)
quiet_ack false x e = refl

raised_ack : (q : Bool) (x dev : ℕ) → (if q then Some x else None) ≡ Some dev → q ≡ true
raised_ack true x dev e = refl
raised_ack false x dev e = none_some dev e

pub answers_stay : (n : Connection) (c : Change) (t : ℕ) (h : Handshakes) → changes_phase c ≡ false
    → c.before.io ≡ false → receiver_in n c ≡ None → (handshakes_on (Some n) c t h).answers ≡ h.answers
answers_stay n c t h ep io er =
    let quiet = quiet_ack (rises c.before.ack c.after.ack) n.target
    (sym (ap (λ (q : Bool). if q then (if rises c.before.req c.after.req then Some n.initiator else None)
    else (if rises c.before.ack c.after.ack then Some n.target else None)) io) ∙ er) in
    (λ i.
    (if ep i then no_handshakes else answered_if (quiet i) t (asked_if (rises c.before.req c.after.req) t h)).answers)
    ∙ asked_answers (rises c.before.req c.after.req) t h

pub answers_rise : (n : Connection) (c : Change) (t dev : ℕ) (h : Handshakes) → changes_phase c ≡ false
    → c.before.io ≡ false → receiver_in n c ≡ Some dev → (handshakes_on (Some n) c t h).answers ≡ counted_on h.answers
answers_rise n c t dev h ep io er =
    let raised = raised_ack (rises c.before.ack c.after.ack) n.target dev
    (sym (ap (λ (q : Bool). if q then (if rises c.before.req c.after.req then Some n.initiator else None)
    else (if rises c.before.ack c.after.ack then Some n.target else None)) io) ∙ er) in
    (λ i.
    (if ep i then no_handshakes else answered_if (raised i) t (asked_if (rises c.before.req c.after.req) t h)).answers)
    ∙ ap counted_on (asked_answers (rises c.before.req c.after.req) t h)

pub struck_answers : (q : Bool) (h : Handshakes) → (newest_struck_if q h).answers ≡ h.answers
struck_answers true h = refl
struck_answers false h = refl

-- ---- plans

pub struck_same_plan : (q : Bool) (l : Plan) → SamePlan (if q then struck_plan l else l) l
struck_same_plan true l = record { messages = refl; next = refl; cause = refl }
struck_same_plan false l = record { messages = refl; next = refl; cause = refl }

pub byte_same_plan : (w : Hearing) (l : Plan) → SamePlan (plan_with_byte w l) l
byte_same_plan w l = go (is_message_out w.change.before) w.is_last
  where
    go : (q r : Bool) → SamePlan (if q then plan_after_message l r w.out else l) l
    go true true = record { messages = refl; next = refl; cause = refl }
    go true false = record { messages = refl; next = refl; cause = refl }
    go false r = record { messages = refl; next = refl; cause = refl }

-- ---- the same phase goes on

-- What a row keeps as it goes on.
pub record Goes (s : ScenarioValue) (k j : RunState) (q : Process) : Type 0 where
  pub plan : SamePlan j.exchange.plan k.exchange.plan
  pub begun : j.exchange.begun ≡ k.exchange.begun
  pub phase : phase_of (bus_of j) ≡ phase_of (bus_of k)
  pub start : run_start s j q ≡ run_start s k q

-- Nothing is told of the process.
pub stays_served : (s : ScenarioValue) (k j : RunState) (q : Process) → Goes s k j q
    → SamePointers (carried_here j q.id) (carried_here k q.id) → j.story.link ≡ k.story.link
    → AreCountedSo (phase_of (bus_of k)) k.handshakes j.handshakes → ServedPointers s k q → ServedPointers s j q
stays_served s k j q g c el r (unnamed l e none h) = unnamed l (el ∙ e) none
    (subst (λ (x : ℕ). IsUnnamed (run_policy s q) l (carried_here j q.id) j.exchange (bus_of j) x) (sym g.start)
    (unnamed_as (run_policy s q) l (carried_here k q.id) (carried_here j q.id) k.exchange j.exchange (bus_of k)
    (bus_of j) (run_start s k q) c g.plan g.begun g.phase h))
stays_served s k j q g c el r (named l e own h) = named l (el ∙ e) own
    (subst (λ (x : ℕ). PointersBy (run_policy s q) l (carried_here j q.id) j.exchange j.handshakes (bus_of j) x)
    (sym g.start) (by_as (run_policy s q) l (carried_here k q.id) (carried_here j q.id) k.exchange j.exchange
    k.handshakes j.handshakes (bus_of k) (bus_of j) (run_start s k q) c g.plan g.begun g.phase r h))

-- A message or a byte is told of it.
pub told_served : (s : ScenarioValue) (k j : RunState) (q : Process) (l : Link) (c : CarriedBytes)
    → Goes s k j q → k.exchange.begun ≡ true → SamePointers (carried_here j q.id) c
    → j.story.link ≡ Some l → l.item ≡ Some (process q.id)
    → PointersOf (run_policy s q) l c k.exchange.plan j.handshakes (run_start s k q) (phase_of (bus_of k))
    → ServedPointers s j q
told_served s k j q l c g b same el own h = named l el own
    (subst (λ (x : ℕ). PointersBy (run_policy s q) l (carried_here j q.id) j.exchange j.handshakes (bus_of j) x)
    (sym g.start) (subst (λ (x : Bool). PointersIf x (run_policy s q) l (carried_here j q.id) j.exchange.plan
    j.handshakes (run_start s k q) (phase_of (bus_of j))) (sym (g.begun ∙ b)) (subst (λ (x : Phase). PointersOf
    (run_policy s q) l (carried_here j q.id) j.exchange.plan j.handshakes (run_start s k q) x) (sym g.phase)
    (pointers_as (run_policy s q) l c (carried_here j q.id) k.exchange.plan j.exchange.plan j.handshakes j.handshakes
    (run_start s k q) (phase_of (bus_of k)) same g.plan (counted_same (phase_of (bus_of k)) j.handshakes) h))))

-- ---- a row of the phase

pub record InRow (s : ScenarioValue) (k j : RunState) (row : Row) (n : Connection) (c : Change) (q : Process)
    (now : Bool) (l : Link) : Type 0 where
  pub goes : Goes s k j q
  pub carried : SamePointers (carried_here j q.id)
      (carried_of (story_in_connection s k.story (Some l) (reading_in k.story.bus_state n c now) row).carried q.id)
  pub link : j.story.link ≡ (story_in_connection s k.story (Some l) (reading_in k.story.bus_state n c now) row).link

pub start_same : (s : ScenarioValue) (k j : RunState) (q : Process) → j.progress ≡ k.progress
    → run_start s j q ≡ run_start s k q
start_same s k j q e =
    ap (λ (x : List ProcessProgress). (progress_in x q.id).runs * Rattle.row_laws.specs.DataPointers.run_step s q) e

pub in_row : (s : ScenarioValue) (k : RunState) (row : Row) (n : Connection)
    (c : Change) (q : Process) (now fault : Bool) (l : Link)
    → IsRowIn k row n c → changes_phase c ≡ false → is_some (receiver_in n c) ≡ now → k.story.link ≡ Some l
    → InConnection s k row n c false now fault → SamePlan (run_state_after s k row).exchange.plan k.exchange.plan
    → InRow s k (run_state_after s k row) row n c q now l
in_row s k row n c q now fault l r ep en el i same =
    let d = reading_in k.story.bus_state n c now in
    let story = story_row s k row n c now r en in
    record {
      goes = record {
        plan = same;
        begun = ap (λ (x : Exchange). x.begun) i.exchange_is;
        phase = ap phase_of i.bus_is ∙ phase_same c.before c.after (same_phase_is c ep) ∙ ap phase_of (sym r.bus_is);
        start = start_same s k (run_state_after s k row) q ((λ i. progress_after s k (reading_is k row n c now r en i)
            (r.connection_is i) (reading_is k row n c now r en i).next (leaving_of s k k.story.bus_state.connection))
            ∙ ap (λ (x : Bool). if x && k.exchange.begun then Rattle.due_model.specs.RunSteps.progress_by_leaving k
            (Rattle.due_model.specs.RunState.process_served s k) (leaving_of s k k.story.bus_state.connection)
            else k.progress) ep);
      };
      carried = subst (λ (x : CarriedBytes). SamePointers x
          (carried_of (story_in_connection s k.story (Some l) d row).carried q.id))
          (sym (ap (λ (x : Story). carried_of x.carried q.id) (story
          ∙ (λ i. story_after_events s (story_in_connection s k.story (el i) d row) (link_events s k.story (el i) d)))))
          (events_same s (story_in_connection s k.story (Some l) d row) (link_events s k.story (Some l) d) q.id);
      link =
          link_after s k row n c now r en ∙ ap (λ (x : Option Link). (story_in_connection s k.story x d row).link) el;
    }

-- A row with which no byte crosses.
pub quiet_row :
    (s : ScenarioValue) (k : RunState) (row : Row) (n : Connection) (c : Change) (q : Process) (fault : Bool)
    → IsRowIn k row n c → is_fault row.kind ≡ fault → changes_phase c ≡ false → receiver_in n c ≡ None
    → ServedPointers s k q → ServedPointers s (run_state_after s k row) q
quiet_row s k row n c q fault r ef ep er h = go h
  where
    j : RunState
    j = run_state_after s k row

    i : InConnection s k row n c false false fault
    i = in_connection s k row n c false false fault r ep (ap (λ (z : Option ℕ). is_some z) er) ef

    plan : SamePlan j.exchange.plan k.exchange.plan
    plan = subst (λ (x : Exchange). SamePlan x.plan k.exchange.plan) (sym i.exchange_is)
        (struck_same_plan (fault && not c.before.io) k.exchange.plan)

    requests : (bus_of k).io ≡ true → j.handshakes.requests ≡ k.handshakes.requests
    requests on =
        let io : c.before.io ≡ true = ap (λ (x : LineSet). x.io) (sym r.bus_is) ∙ on in
        ap (λ (x : Handshakes). x.requests) i.handshakes_is ∙ by (is_fault row.kind) io
      where
        by : (f : Bool) → c.before.io ≡ true
            → (handshakes_after f (Some n) c row.time k.handshakes).requests ≡ k.handshakes.requests
        by true io = struck_same c.before.io k.handshakes
        by false io = requests_stay n c row.time k.handshakes ep io er

    answers : phase_of (bus_of k) ≡ Phase.DataOut → j.handshakes.answers ≡ k.handshakes.answers
    answers z =
        let io : c.before.io ≡ false = ap (λ (x : LineSet). x.io) (sym r.bus_is) ∙ (run_lines (bus_of k) z).2 in
        ap (λ (x : Handshakes). x.answers) i.handshakes_is ∙ by (is_fault row.kind) io
      where
        by : (f : Bool) → c.before.io ≡ false
            → (handshakes_after f (Some n) c row.time k.handshakes).answers ≡ k.handshakes.answers
        by true io = struck_answers c.before.io k.handshakes
        by false io = answers_stay n c row.time k.handshakes ep io er

    with_link : (l : Link) → k.story.link ≡ Some l → ServedPointers s j q
    with_link l el =
        let x = in_row s k row n c q false fault l r ep (ap (λ (z : Option ℕ). is_some z) er) el i plan in
        stays_served s k j q x.goes (same_on (carried_here j q.id)
        (carried_of (story_after_fault k.story l row.kind).carried q.id) (carried_here k q.id) x.carried
        (fault_story k.story l row.kind q.id)) (x.link ∙ fault_link k.story l row.kind) (record {
          said = λ z. requests (in_lines (bus_of k) z).io;
          given = λ z. requests (data_in_lines (bus_of k) z).2;
          sent = answers;
        }) h

    go : ServedPointers s k q → ServedPointers s j q
    go (unnamed l el none z) = with_link l el
    go (named l el own z) = with_link l el

-- ---- a byte crosses

-- What the byte makes whole.
abbrev pub into_of : RunState → Change → Option MsgIn
into_of k c = message_in k.story.bus_state.dialogue c true

abbrev pub out_of : RunState → Change → Option MsgOut
out_of k c = message_out k.story.bus_state.dialogue c true

abbrev pub byte_of : Change → ℕ
byte_of c = c.after.data_bits % 256

abbrev pub crossed_story : ScenarioValue → RunState → Link → Connection → Change → Option MsgOut → Option MsgIn → Story
crossed_story s k l n c o m =
    if is_some o then story_after_out k.story l o else if is_some m then story_after_in s k.story l m
    else story_after_byte k.story l (reading_in k.story.bus_state n c true)

no_message_out : (k : RunState) (c : Change) → is_message_out c.before ≡ false → out_of k c ≡ None
no_message_out k c e = ap
    (λ (q : Bool). if q then whole_out (got_out (fresh_bytes k.story.bus_state.dialogue ++ byte_of c ∷ [])) else None) e

no_message_in : (k : RunState) (c : Change) → is_message_in c.before ≡ false → into_of k c ≡ None
no_message_in k c e =
    ap (λ (q : Bool). if q then whole_in (got_in (k.story.bus_state.dialogue.half ++ byte_of c ∷ [])) else None) e

pub io_out_false : (b : LineSet) → b.io ≡ true → is_message_out b ≡ false
io_out_false b e = (λ i. b.msg && b.cd && not (e i)) ∙ go b.msg b.cd
  where
    go : (m c : Bool) → (m && c && false) ≡ false
    go true true = refl
    go true false = refl
    go false c = refl

pub io_in_false : (b : LineSet) → b.io ≡ false → is_message_in b ≡ false
io_in_false b e = (λ i. b.msg && b.cd && e i) ∙ go b.msg b.cd
  where
    go : (m c : Bool) → (m && c && false) ≡ false
    go true true = refl
    go true false = refl
    go false c = refl

-- All that is asked of the row in which a byte crosses.
pub record Crosses (s : ScenarioValue) (k : RunState) (row : Row) (n : Connection) (c : Change) (q : Process)
    (l : Link) : Type 0 where
  pub meets : Meets s k row n c q
  pub dev : ℕ
  pub fault : is_fault row.kind ≡ false
  pub same_phase : changes_phase c ≡ false
  pub receiver : receiver_in n c ≡ Some dev
  pub link : k.story.link ≡ Some l
  pub row_in : InRow s k (run_state_after s k row) row n c q true l
  pub in_is : InConnection s k row n c false true false
  pub begun : k.exchange.begun ≡ true

pub crosses_in :
    (s : ScenarioValue) (k : RunState) (row : Row) (n : Connection) (c : Change) (q : Process) (l : Link) (dev : ℕ)
    → Meets s k row n c q → is_fault row.kind ≡ false → changes_phase c ≡ false → receiver_in n c ≡ Some dev
    → k.story.link ≡ Some l → Crosses s k row n c q l
crosses_in s k row n c q l dev h ef ep er el =
    let r = h.of.row_is in
    let some : is_some (receiver_in n c) ≡ true = ap (λ (z : Option ℕ). is_some z) er in
    let i = in_connection s k row n c false true false r ep some ef in
    let plan : SamePlan (run_state_after s k row).exchange.plan k.exchange.plan = subst
    (λ (x : Exchange). SamePlan x.plan k.exchange.plan) (sym i.exchange_is)
    (byte_same_plan (hearing_of k row (reading_in k.story.bus_state n c true)) k.exchange.plan) in
    record {
      meets = h;
      dev = dev;
      fault = ef;
      same_phase = ep;
      receiver = er;
      link = el;
      row_in = in_row s k row n c q true false l r ep some el i plan;
      in_is = i;
      begun = h.of.begun (ap (λ (d : RowReading). d.crosses) (reading_is k row n c true r some));
    }

-- The story and the link after it, by what the byte makes whole.
pub crossed_as : (s : ScenarioValue) (k : RunState) (row : Row) (n : Connection) (c : Change) (q : Process)
    (l : Link) (o : Option MsgOut) (m : Option MsgIn) → Crosses s k row n c q l → out_of k c ≡ o → into_of k c ≡ m
    → SamePointers (carried_here (run_state_after s k row) q.id) (carried_of (crossed_story s k l n c o m).carried q.id)
    × ((run_state_after s k row).story.link ≡ (crossed_story s k l n c o m).link)
crossed_as s k row n c q l o m x eo em = (
  subst (λ (y : Story). SamePointers (carried_here (run_state_after s k row) q.id) (carried_of y.carried q.id))
      (λ i. crossed_story s k l n c (eo i) (em i)) x.row_in.carried,
  x.row_in.link ∙ (λ i. (crossed_story s k l n c (eo i) (em i)).link),
)

-- In COMMAND and STATUS no data pointer moves.
pub block_crosses :
    (s : ScenarioValue) (k : RunState) (row : Row) (n : Connection) (c : Change) (q : Process) (l : Link)
    → Crosses s k row n c q l → l.item ≡ Some (process q.id) → is_block_phase (phase_of (bus_of k)) ≡ true
    → ServedPointers s k q → ServedPointers s (run_state_after s k row) q
block_crosses s k row n c q l x own e h =
    let r = x.meets.of.row_is in
    let lines = block_lines (bus_of k) e in
    let msg : c.before.msg ≡ false = ap (λ (y : LineSet). y.msg) (sym r.bus_is) ∙ lines.0 in
    let idle : is_data c.before ≡ false =
    (λ i. not (msg i) && not ((ap (λ (y : LineSet). y.cd) (sym r.bus_is) ∙ lines.1) i)) in
    let d = reading_in k.story.bus_state n c true in
    let made = crossed_as s k row n c q l None None x (no_message_out k c (not_message_out c.before msg))
    (no_message_in k c (not_message_in c.before msg)) in
    let there = byte_story k.story l d q.id own msg in
    stays_served s k (run_state_after s k row) q x.row_in.goes (same_on (carried_here (run_state_after s k row) q.id)
    (carried_after_byte (carried_here k q.id) c.before (byte_of c)) (carried_here k q.id)
    (subst (λ (y : CarriedBytes). SamePointers (carried_here (run_state_after s k row) q.id) y) there made.0)
    (byte_same (carried_here k q.id) c.before (byte_of c) idle)) (made.1 ∙ byte_link k.story l d) (record {
      said = λ z. wrong' (sym (ap is_block_phase z) ∙ e);
      given = λ z. wrong' (sym (ap is_block_phase z) ∙ e);
      sent = λ z. wrong' (sym (ap is_block_phase z) ∙ e);
    }) h

-- As a byte of data crosses the active pointer goes on with it.
record Moved (s : ScenarioValue) (k : RunState) (row : Row) (q : Process) (l : Link) : Type 0 where
  carried : CarriedBytes
  same : SamePointers (carried_here (run_state_after s k row) q.id) carried
  link : (run_state_after s k row).story.link ≡ Some l
  active : carried.moved.active ≡ (carried_here k q.id).moved.active + 1
  saved : carried.moved.saved ≡ (carried_here k q.id).moved.saved

moved_on : (s : ScenarioValue) (k : RunState) (row : Row) (n : Connection) (c : Change) (q : Process) (l : Link)
    → Crosses s k row n c q l → l.item ≡ Some (process q.id) → (bus_of k).msg ≡ false → (bus_of k).cd ≡ false
    → Moved s k row q l
moved_on s k row n c q l x own em ed =
    let j = run_state_after s k row in
    let r = x.meets.of.row_is in
    let msg : c.before.msg ≡ false = ap (λ (y : LineSet). y.msg) (sym r.bus_is) ∙ em in
    let cd : c.before.cd ≡ false = ap (λ (y : LineSet). y.cd) (sym r.bus_is) ∙ ed in
    let d = reading_in k.story.bus_state n c true in
    let made = crossed_as s k row n c q l None None x (no_message_out k c (not_message_out c.before msg))
    (no_message_in k c (not_message_in c.before msg)) in
    let c1 = carried_after_byte (carried_here k q.id) c.before (byte_of c) in
    let same : SamePointers (carried_here j q.id) c1 = subst
    (λ (y : CarriedBytes). SamePointers (carried_here j q.id) y) (byte_story k.story l d q.id own msg) made.0 in
    let moved = byte_moves (carried_here k q.id) c.before (byte_of c)
    ((λ i. not (msg i) && cd i && not c.before.io) ∙ refl) (λ i. not (msg i) && not (cd i)) in
    record {
      carried = c1;
      same = same;
      link = made.1 ∙ byte_link k.story l d ∙ x.link;
      active = ap (λ (a : Area). a.active) moved;
      saved = ap (λ (a : Area). a.saved) moved;
    }

run_on : (policy : Policy) (l : Link) (c d : CarriedBytes) (count next start : ℕ) → d.moved.active ≡ c.moved.active + 1
    → d.moved.saved ≡ c.moved.saved → next ≡ count + 1 → IsInRun policy l c count start → IsInRun policy l d next start
run_on policy l c d count next start ea es en h = record {
  plain = h.plain;
  active = ea ∙ ap (λ (y : ℕ). y + 1) h.active ∙ more start count ∙ ap (λ (y : ℕ). start + y) (sym en);
  saved = es ∙ h.saved;
}
  where
    more : (a b : ℕ) → a + b + 1 ≡ a + (b + 1)
    more a b = omega arith

pub run_crosses : (s : ScenarioValue) (k : RunState) (row : Row) (n : Connection) (c : Change) (q : Process) (l : Link)
    → Crosses s k row n c q l → l.item ≡ Some (process q.id) → phase_of (bus_of k) ≡ Phase.DataOut
    → IsInRun (run_policy s q) l (carried_here k q.id) k.handshakes.answers (run_start s k q)
    → ServedPointers s (run_state_after s k row) q
run_crosses s k row n c q l x own e h =
    let j = run_state_after s k row in
    let lines = run_lines (bus_of k) e in
    let io : c.before.io ≡ false = ap (λ (y : LineSet). y.io) (sym x.meets.of.row_is.bus_is) ∙ lines.2 in
    let m = moved_on s k row n c q l x own lines.0 lines.1 in
    let answers : j.handshakes.answers ≡ k.handshakes.answers + 1 =
    ap (λ (y : Handshakes). y.answers) x.in_is.handshakes_is
    ∙ ap (λ (f : Bool). (handshakes_after f (Some n) c row.time k.handshakes).answers) x.fault
    ∙ answers_rise n c row.time x.dev k.handshakes x.same_phase io x.receiver
    ∙ count_more k.handshakes.answers (x.meets.short x.begun e) in
    told_served s k j q l m.carried x.row_in.goes x.begun m.same m.link own
    (subst (λ (y : Phase). PointersOf (run_policy s q) l m.carried k.exchange.plan j.handshakes (run_start s k q) y)
    (sym e) (run_on (run_policy s q) l (carried_here k q.id) m.carried k.handshakes.answers j.handshakes.answers
    (run_start s k q) m.active m.saved answers h))

-- In DATA IN.
pub read_crosses : (s : ScenarioValue) (k : RunState) (row : Row) (n : Connection) (c : Change) (q : Process) (l : Link)
    → Crosses s k row n c q l → l.item ≡ Some (process q.id) → phase_of (bus_of k) ≡ Phase.DataIn
    → IsInRun (run_policy s q) l (carried_here k q.id) k.handshakes.requests (run_start s k q)
    → ServedPointers s (run_state_after s k row) q
read_crosses s k row n c q l x own e h =
    let j = run_state_after s k row in
    let lines = data_in_lines (bus_of k) e in
    let io : c.before.io ≡ true = ap (λ (y : LineSet). y.io) (sym x.meets.of.row_is.bus_is) ∙ lines.2 in
    let m = moved_on s k row n c q l x own lines.0 lines.1 in
    let requests : j.handshakes.requests ≡ k.handshakes.requests + 1 =
    ap (λ (y : Handshakes). y.requests) x.in_is.handshakes_is
    ∙ ap (λ (f : Bool). (handshakes_after f (Some n) c row.time k.handshakes).requests) x.fault
    ∙ requests_rise n c row.time x.dev k.handshakes x.same_phase io x.receiver
    ∙ count_more k.handshakes.requests (x.meets.short_asked x.begun e) in
    told_served s k j q l m.carried x.row_in.goes x.begun m.same m.link own
    (subst (λ (y : Phase). PointersOf (run_policy s q) l m.carried k.exchange.plan j.handshakes (run_start s k q) y)
    (sym e) (run_on (run_policy s q) l (carried_here k q.id) m.carried k.handshakes.requests j.handshakes.requests
    (run_start s k q) m.active m.saved requests h))
