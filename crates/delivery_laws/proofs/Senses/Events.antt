-- Event by event the sense that is owed of a command is that of its own reply: as long as it is owed, it is the one
-- that is stored for its initiator at its unit; so its automatic REQUEST SENSE brings it (7.6, 8.2.14).
use Rattle.delivery_laws.proofs
use proofs.Names.{inl, inr, ℕ, ◌≡◌, ◌⊎◌, Bool, true, false, not, ◌&&◌, ◌||◌, ◌∙◌, List, [], ◌∷◌, ◌++◌, Option, Some}
use proofs.Names.{None, refl, sym, ap, subst, eqb-true, cases_Bool, same_Some, list_any, if◌then◌else◌, ◌==◌, is_none}
use proofs.Names.{is_some, nat_lt, ⊤, wrong, wrong', AbortKind, Event, ProcId, sense_reads_back, command_of, FitsSense}
use proofs.Names.{sense_data, Sense, ABORTED_COMMAND, CHECK_CONDITION, GOOD, ScenarioValue, CmdDef, HostDef}
use proofs.Names.{sense_fetched, same_nexus_is, sense_put_at, senses_without_at, reply_in, CommandContext, Execution}
use proofs.Names.{Reply, check_condition, commands_cleared, execution, is_request_sense, queue_full, returned_sense}
use proofs.Names.{sense_of, Process, command_at, process_of, same_id, sense_block, IsSound, running_process, Array}
use proofs.Names.{Nexus, RunningProcess, UnitState, guest_at, is_held, nexus_of, nexuses_without, same_nexus}
use proofs.Names.{sense_of_nexus, senses_without, unit_state_at, with_unit, ends_checks, Sent, command_id, has_item}
use proofs.Names.{process, sense_id, sense_item, sense_in, Ending, Story, by_abort, by_reset, by_status, is_aborted}
use proofs.Names.{is_sense_stopped, story_after_event, story_with_end, story_with_ends, id_is, self_nexus, StoredFit}
use proofs.Names.{none_some, reply_at, running_id, AreChecked, ends_over, ends_senses, events_grow, in_append}
use proofs.Names.{sense_cdb, debt_before, is_not_over, same_debt, OfCommand, of_command, running_own, nexus_at, Debts}
use proofs.Names.{IsDebt, PaysWell, is_owed, nexus_of_command}
use Rattle.progress_laws.proofs.Debts.Steps.{is_checked}
use Rattle.due_model.specs.array_model.specs.Steps

-- ---- what is kept

-- The reply of the command, CHECK CONDITION, and its sense is stored here.
pub record OwnReply (senses : List (Nexus × Sense)) (replies : List (ProcId × Reply)) (m : ℕ) (q : Nexus) : Type 0 where
  pub reply : Reply
  pub reply_is : reply_in replies (command_id m) ≡ Some reply
  pub check : reply.status ≡ CHECK_CONDITION
  pub stored : sense_of_nexus senses q ≡ Some reply.sense

-- These bytes are its sense.
pub record Brought (replies : List (ProcId × Reply)) (m : ℕ) (bytes : List ℕ) : Type 0 where
  pub reply : Reply
  pub reply_is : reply_in replies (command_id m) ≡ Some reply
  pub check : reply.status ≡ CHECK_CONDITION
  pub sense_is : sense_in bytes ≡ Some reply.sense

pub record OwnSenses (s : ScenarioValue) (b : Sent) (senses : List (Nexus × Sense)) (replies : List (ProcId × Reply)) :
    Type 0 where
  pub owned : (m : ℕ) (q : Nexus) → IsDebt s b m q → OwnReply senses replies m q
  pub brought : (m : ℕ) (r : Reply) → reply_in replies (sense_id m) ≡ Some r → Brought replies m r.bytes

-- A process is answered once; an automatic REQUEST SENSE runs as it is owed; and the one that ends has the reply that
-- is listed.
abbrev pub Tells : Sent → Array → Event → Type 0
Tells b a (Event.Run id) = (reply_in a.replies id ≡ None) × (id.sense ≡ true → is_owed b id.command ≡ true)
Tells b a (Event.Refuse id) = reply_in a.replies id ≡ None
Tells b a (Event.Fail id code) = reply_in a.replies id ≡ None
Tells b a (Event.End id status) = (r : RunningProcess) (reply : Reply) → running_process a id ≡ Some r
    → r.reply ≡ Some reply → reply_in a.replies id ≡ Some reply
Tells b a _ = ⊤

-- ---- the senses and the replies after a step

abbrev pub Book : Type 1
Book = List (Nexus × Sense) → List (ProcId × Reply) → Type 0

abbrev pub IfBooks : Book → Option Array → Type 0
IfBooks f None = ⊤
IfBooks f (Some a) = f a.senses a.replies

pub accepted : (f : Book) (a : Array) (o : Option Process) → f a.senses a.replies → IfBooks f (Steps.accept_step a o)
accepted f a None h = tt
accepted f a (Some c) h = at (unit_state_at a.units c.target c.unit)
  where
    at : (u : Option UnitState) → IfBooks f (Steps.accept_step_at a c u)
    at None = h
    at (Some u) = go (is_request_sense (command_of c.cdb)) (nat_lt (Steps.process_count u) u.depth)
      where
        go : (q x : Bool) → IfBooks f (if q then Some (Steps.with_guest a c None)
            else if x then Some (record a { units = with_unit a.units (record u { waiting = u.waiting ++ c ∷ [] }) })
            else None)
        go true x = h
        go false true = h
        go false false = tt

pub refused : (f : Book) (a : Array) (o : Option Process) → ((c : Process) → o ≡ Some c
    → is_request_sense (command_of c.cdb) ≡ false → f a.senses ((c.id, queue_full) ∷ a.replies))
    → IfBooks f (Steps.refuse_step a o)
refused f a None h = tt
refused f a (Some c) h = at (unit_state_at a.units c.target c.unit)
  where
    at : (u : Option UnitState) → IfBooks f (Steps.refuse_step_at a c u)
    at None = tt
    at (Some u) = go (is_request_sense (command_of c.cdb)) refl (Steps.process_count u == u.depth)
      where
        go : (q : Bool) → is_request_sense (command_of c.cdb) ≡ q → (x : Bool) → IfBooks f
            (if not q && x then Some (Steps.with_listed_reply (Steps.with_guest a c (Some queue_full)) c.id queue_full)
            else None)
        go true e x = tt
        go false e true = h c refl e
        go false e false = tt

executed : (f : Book) (a : Array) (c : Process) (u : Option UnitState) → f a.senses ((c.id, reply_at a c u) ∷ a.replies)
    → f (Steps.after_execution_at a c u).senses (Steps.after_execution_at a c u).replies
executed f a c u h = inner (execution (Steps.context_at a (nexus_of c) u) c.cdb c.sent)
    (execution (Steps.context_at a (nexus_of c) u) c.cdb c.sent).reported u h
  where
    inner : (done : Execution) (x : Bool) (v : Option UnitState) → f a.senses ((c.id, done.reply) ∷ a.replies)
        → f (Steps.with_reply (Steps.with_contents (Steps.without_attention a x (nexus_of c)) v done.contents)
        c.id done.reply).senses (Steps.with_reply
        (Steps.with_contents (Steps.without_attention a x (nexus_of c)) v done.contents) c.id done.reply).replies
    inner done true None e = e
    inner done false None e = e
    inner done true (Some w) e = e
    inner done false (Some w) e = e

pub run : (f : Book) (a : Array) (guest : Bool) (o : Option RunningProcess)
    → ((r : RunningProcess) → o ≡ Some r → f a.senses
    ((r.process.id, reply_at a r.process (unit_state_at a.units r.process.target r.process.unit)) ∷ a.replies))
    → IfBooks f (Steps.run_step a guest o)
run f a guest None h = tt
run f a guest (Some r) h =
    elim (cases_Bool (is_none r.reply && (guest || not (is_held a.holds r.process.target r.process.unit)))) [
      | inl e ↦ rw e (executed f a r.process (unit_state_at a.units r.process.target r.process.unit) (h r refl))
      | inr e ↦ rw e tt
    ]

pub failed : (f : Book) (s : ScenarioValue) (a : Array) (id : ProcId) (reply : Reply) (o : Option RunningProcess)
    → f a.senses ((id, reply) ∷ a.replies) → IfBooks f (Steps.fail_step s a id reply o)
failed f s a id reply (Some r) h = elim (cases_Bool (is_none r.reply)) [ inl e ↦ rw e h | inr e ↦ rw e tt ]
failed f s a id reply None h = new (process_of s id)
  where
    new : (c : Option Process) → IfBooks f (Steps.fail_step_of_new a id reply c)
    new None = tt
    new (Some c) = go (Steps.is_waiting a.units id || Steps.has_ended a id)
      where
        go : (x : Bool) → IfBooks f
            (if x then None else Some (Steps.with_listed_reply (Steps.with_guest a c (Some reply)) id reply))
        go true = tt
        go false = h

pub ended : (f : Book) (a : Array) (id : ProcId) (status : ℕ)
    → ((r : RunningProcess) (reply : Reply) → running_process a id ≡ Some r → r.reply ≡ Some reply
    → (reply.status == status) ≡ true → f (Steps.after_status a r.process reply).senses a.replies)
    → IfBooks f (Steps.end_step a status (running_process a id))
ended f a id status h = go (running_process a id) refl
  where
    same : (r : RunningProcess) (reply : Reply) (q t : Bool) → (if q then record a {
      senses = (nexus_of r.process, reply.sense) ∷ senses_without a.senses (nexus_of r.process);
      holds = nexus_of r.process ∷ nexuses_without a.holds (nexus_of r.process);
    } else if t then record a {
      senses = senses_without a.senses (nexus_of r.process);
      holds = nexuses_without a.holds (nexus_of r.process);
    } else a).replies ≡ a.replies
    same r reply true t = refl
    same r reply false true = refl
    same r reply false false = refl

    by : (r : RunningProcess) → running_process a id ≡ Some r → (o : Option Reply) → r.reply ≡ o
        → IfBooks f (Steps.end_step_with a r.process status o)
    by r e None g = tt
    by r e (Some reply) g = with_status (reply.status == status) refl
      where
        with_status : (q : Bool) → (reply.status == status) ≡ q → IfBooks f
            (if q then Some (Steps.array_without (Steps.after_status a r.process reply) r.process.id) else None)
        with_status true z = subst (λ (x : List (ProcId × Reply)). f (Steps.after_status a r.process reply).senses x)
            (sym (same r reply (reply.status == CHECK_CONDITION)
            (reply.status == GOOD && is_request_sense (command_of r.process.cdb)))) (h r reply e g z)
        with_status false z = tt

    go : (o : Option RunningProcess) → running_process a id ≡ o → IfBooks f (Steps.end_step a status o)
    go None e = tt
    go (Some r) e = by r e r.reply refl

pub lost : (f : Book) (a : Array) (id : ProcId) → f a.senses a.replies → IfBooks f (Steps.loss_step a id)
lost f a id h = elim (cases_Bool (Steps.has_ended a id)) [ inl e ↦ rw e tt | inr e ↦ rw e h ]

pub settled : (f : Book) (o : Option Array) → IfBooks f o → IfBooks f (Steps.settled_array_if o)
settled f None h = tt
settled f (Some a) h = h

-- An attention changes neither.
record SameBooks (a b : Array) : Type 0 where
  senses : b.senses ≡ a.senses
  replies : b.replies ≡ a.replies

hosts_same : (hosts : List HostDef) (t m : ℕ) (a : Array) → SameBooks a (Steps.reset_attentions hosts t m a)
hosts_same [] t m a = record { senses = refl; replies = refl }
hosts_same (h ∷ hosts) t m a =
    let k = hosts_same hosts t m (Steps.reset_attention a (record { initiator = h.dev; target = t; unit = m })) in
    record { senses = k.senses; replies = k.replies }

then_same : (a b c : Array) → SameBooks a b → SameBooks b c → SameBooks a c
then_same a b c h e = record { senses = e.senses ∙ h.senses; replies = e.replies ∙ h.replies }

units_same : (hosts : List HostDef) (units : List UnitState) (is_one : UnitState → Bool) (a : Array)
    → SameBooks a (Steps.unit_reset_attentions hosts units is_one a)
units_same hosts [] is_one a = record { senses = refl; replies = refl }
units_same hosts (u ∷ units) is_one a = then_same a
    (if is_one u then Steps.reset_attentions hosts u.target u.unit a else a) (Steps.unit_reset_attentions hosts
    units is_one (if is_one u then Steps.reset_attentions hosts u.target u.unit a else a)) (go (is_one u))
    (units_same hosts units is_one (if is_one u then Steps.reset_attentions hosts u.target u.unit a else a))
  where
    go : (q : Bool) → SameBooks a (if q then Steps.reset_attentions hosts u.target u.unit a else a)
    go true = hosts_same hosts u.target u.unit a
    go false = record { senses = refl; replies = refl }

cleared_same : (by : ℕ) (gone : List Process) (a : Array) → SameBooks a (Steps.cleared_attentions by gone a)
cleared_same by [] a = record { senses = refl; replies = refl }
cleared_same by (c ∷ gone) a = then_same a (if c.initiator == by then a else Steps.cleared_attention a (nexus_of c))
    (Steps.cleared_attentions by gone (if c.initiator == by then a else Steps.cleared_attention a (nexus_of c)))
    (go (c.initiator == by))
    (cleared_same by gone (if c.initiator == by then a else Steps.cleared_attention a (nexus_of c)))
  where
    one : (q : Bool) (x : Array) → SameBooks a x → SameBooks a (if q then a else x)
    one true x e = record { senses = refl; replies = refl }
    one false x e = e

    go : (q : Bool) → SameBooks a (if q then a else Steps.cleared_attention a (nexus_of c))
    go true = record { senses = refl; replies = refl }
    go false = one (Steps.is_reset_pending (sense_of_nexus a.attentions (nexus_of c))) (record a {
      attentions = (nexus_of c, commands_cleared) ∷ senses_without a.attentions (nexus_of c);
    }) (record { senses = refl; replies = refl })

by_same : (f : Book) (a b : Array) → SameBooks a b → f a.senses a.replies → f b.senses b.replies
by_same f a b same h = subst (λ (x : List (Nexus × Sense)). f x b.replies) (sym same.senses)
    (subst (λ (x : List (ProcId × Reply)). f a.senses x) (sym same.replies) h)

-- ---- one more reply

pub kept_reply : (replies : List (ProcId × Reply)) (id : ProcId) (x : Reply) (m : ProcId) (y : Reply)
    → reply_in replies id ≡ None → reply_in replies m ≡ Some y → reply_in ((id, x) ∷ replies) m ≡ Some y
kept_reply replies id x m y none e =
    elim (cases_Bool (same_id id m)) [
      | inl f ↦ rw f (none_some y (sym none ∙ ap (reply_in replies) (id_is id m f) ∙ e))
      | inr f ↦ rw f e
    ]

one_more : (s : ScenarioValue) (b : Sent) (senses : List (Nexus × Sense))
    (replies : List (ProcId × Reply)) (id : ProcId) (x : Reply)
    → reply_in replies id ≡ None → ((m : ℕ) → id ≡ sense_id m → Brought ((id, x) ∷ replies) m x.bytes)
    → OwnSenses s b senses replies → OwnSenses s b senses ((id, x) ∷ replies)
one_more s b senses replies id x none new h = record {
  owned = λ m q d. owns m q (h.owned m q d);
  brought = λ m r e. go m r (same_id id (sense_id m)) refl e;
}
  where
    owns : (m : ℕ) (q : Nexus) → OwnReply senses replies m q → OwnReply senses ((id, x) ∷ replies) m q
    owns m q w = record {
      reply = w.reply;
      reply_is = kept_reply replies id x (command_id m) w.reply none w.reply_is;
      check = w.check;
      stored = w.stored;
    }

    brings : (m : ℕ) (bytes : List ℕ) → Brought replies m bytes → Brought ((id, x) ∷ replies) m bytes
    brings m bytes w = record {
      reply = w.reply;
      reply_is = kept_reply replies id x (command_id m) w.reply none w.reply_is;
      check = w.check;
      sense_is = w.sense_is;
    }

    go : (m : ℕ) (r : Reply) (q : Bool) → same_id id (sense_id m) ≡ q
        → (if q then Some x else reply_in replies (sense_id m)) ≡ Some r → Brought ((id, x) ∷ replies) m r.bytes
    go m r true z e =
        subst (λ (y : Reply). Brought ((id, x) ∷ replies) m y.bytes) (same_Some x r e) (new m (id_is id (sense_id m) z))
    go m r false z e = brings m r.bytes (h.brought m r e)

-- That of a command.
no_sense_id : {A : Type 0} (id : ProcId) (m : ℕ) → id.sense ≡ false → id ≡ sense_id m → A
no_sense_id id m e f = wrong (sym (ap (λ (x : ProcId). x.sense) f) ∙ e)

command_more : (s : ScenarioValue) (b : Sent) (senses : List (Nexus × Sense)) (replies : List (ProcId × Reply))
    (id : ProcId) (x : Reply) → reply_in replies id ≡ None → id.sense ≡ false → OwnSenses s b senses replies
    → OwnSenses s b senses ((id, x) ∷ replies)
command_more s b senses replies id x none plain h =
    one_more s b senses replies id x none (λ n e. no_sense_id id n plain e) h

-- ---- what an automatic REQUEST SENSE brings

sense_brought : (m : CommandContext) (sent : List ℕ) (x : Sense) → m.stored ≡ Some x → FitsSense x
    → sense_in (execution m sense_block sent).reply.bytes ≡ Some x
sense_brought m sent x e fits =
    (λ i. sense_in (sense_fetched m sent i).reply.bytes)
    ∙ (λ i. sense_in (sense_data (returned_sense m.present (e i))))
    ∙ ap (λ (y : Sense). Some y) (sense_reads_back x fits)

context_stored : (a : Array) (q : Nexus) (u : Option UnitState)
    → (Steps.context_at a q u).stored ≡ sense_of_nexus a.senses q
context_stored a q None = refl
context_stored a q (Some u) = refl

ran : (s : ScenarioValue) (b : Sent) (a : Array) (id : ProcId) (r : RunningProcess) → IsSound s a
    → Tells b a (Event.Run id) → StoredFit a.senses → running_process a id ≡ Some r → OwnSenses s b a.senses a.replies
    → OwnSenses s b a.senses
    ((r.process.id, reply_at a r.process (unit_state_at a.units r.process.target r.process.unit)) ∷ a.replies)
ran s b a id r sound tells fit e h = one_more s b a.senses a.replies r.process.id (reply_at a c u) none new h
  where
    c : Process
    c = r.process

    u : Option UnitState
    u = unit_state_at a.units c.target c.unit

    own : c.id ≡ id
    own = running_id a id r e

    none : reply_in a.replies c.id ≡ None
    none = ap (reply_in a.replies) own ∙ tells.0

    is : process_of s id ≡ Some c
    is = running_own s a id r sound e

    new : (m : ℕ) → c.id ≡ sense_id m → Brought ((c.id, reply_at a c u) ∷ a.replies) m (reply_at a c u).bytes
    new m f = subst (λ (x : ℕ). Brought ((c.id, reply_at a c u) ∷ a.replies) x (reply_at a c u).bytes)
        (ap (λ (x : ProcId). x.command) (sym own ∙ f)) now
      where
        fetches : id.sense ≡ true
        fetches = ap (λ (x : ProcId). x.sense) (sym own ∙ f)

        of : OfCommand s id c
        of = of_command s id c is

        w : OwnReply a.senses a.replies id.command (nexus_of c)
        w = h.owned id.command (nexus_of c) (record {
          def = of.def;
          def_is = of.def_is;
          nexus_is = λ i. record { initiator = of.host_is i; target = of.target_is i; unit = of.unit_is i };
          owed = tells.1 fetches;
        })

        now : Brought ((c.id, reply_at a c u) ∷ a.replies) id.command (reply_at a c u).bytes
        now = record {
          reply = w.reply;
          reply_is = kept_reply a.replies c.id (reply_at a c u) (command_id id.command) w.reply none w.reply_is;
          check = w.check;
          sense_is = (λ i. sense_in
              (execution (Steps.context_at a (nexus_of c) u) (sense_cdb s id c fetches is i) c.sent).reply.bytes)
              ∙ sense_brought (Steps.context_at a (nexus_of c) u) c.sent w.reply.sense
              (context_stored a (nexus_of c) u ∙ w.stored) (fit (nexus_of c) w.reply.sense w.stored);
        }

-- ---- what is stored elsewhere stays

apart_without : (entries : List (Nexus × Sense)) (y q : Nexus)
    → (y ≡ q → ⊥) → sense_of_nexus (senses_without entries y) q ≡ sense_of_nexus entries q
apart_without entries y q apart = senses_without_at entries y q ∙ go (same_nexus y q) refl
  where
    go : (x : Bool) → same_nexus y q ≡ x → (if x then None else sense_of_nexus entries q) ≡ sense_of_nexus entries q
    go true z = absurd (apart (same_nexus_is y q z))
    go false z = refl

apart_put : (entries : List (Nexus × Sense)) (y : Nexus) (sense : Sense) (q : Nexus)
    → (y ≡ q → ⊥) → sense_of_nexus ((y, sense) ∷ senses_without entries y) q ≡ sense_of_nexus entries q
apart_put entries y sense q apart = sense_put_at entries y sense q ∙ go (same_nexus y q) refl
  where
    go : (x : Bool) → same_nexus y q ≡ x
        → (if x then Some sense else sense_of_nexus entries q) ≡ sense_of_nexus entries q
    go true z = absurd (apart (same_nexus_is y q z))
    go false z = refl

kept_at : (drops : Nexus → Bool) (entries : List (Nexus × Sense)) (q : Nexus) → drops q ≡ false
    → sense_of_nexus (Steps.kept_senses drops entries) q ≡ sense_of_nexus entries q
kept_at drops [] q keep = refl
kept_at drops (x ∷ entries) q keep = go (drops x.0) refl (same_nexus x.0 q) refl (kept_at drops entries q keep)
  where
    go : (y : Bool) → drops x.0 ≡ y → (z : Bool) → same_nexus x.0 q ≡ z
        → sense_of_nexus (Steps.kept_senses drops entries) q ≡ sense_of_nexus entries q
        → sense_of_nexus (if y then Steps.kept_senses drops entries else x ∷ Steps.kept_senses drops entries) q
        ≡ (if z then Some x.1 else sense_of_nexus entries q)
    go true f true g more = wrong (sym f ∙ ap drops (same_nexus_is x.0 q g) ∙ keep)
    go true f false g more = more
    go false f z g more = λ i. if g i then Some x.1 else more i

still : (senses kept : List (Nexus × Sense)) (replies : List (ProcId × Reply)) (m : ℕ) (q : Nexus)
    → sense_of_nexus kept q ≡ sense_of_nexus senses q → OwnReply senses replies m q → OwnReply kept replies m q
still senses kept replies m q same w =
    record { reply = w.reply; reply_is = w.reply_is; check = w.check; stored = same ∙ w.stored }

-- What is owed was owed before.
pub fewer_owned : (s : ScenarioValue) (b c : Sent) (senses : List (Nexus × Sense)) (replies : List (ProcId × Reply))
    → ((m : ℕ) (q : Nexus) → IsDebt s c m q → IsDebt s b m q) → OwnSenses s b senses replies
    → OwnSenses s c senses replies
fewer_owned s b c senses replies before h = record { owned = λ m q d. h.owned m q (before m q d); brought = h.brought }

-- ---- a process ends

-- What is owed after it: its own sense, or one that was owed before, of another initiator or at another unit.
data Owes (s : ScenarioValue) (b : Sent) (id : ProcId) (status : ℕ) (x : Nexus) (m : ℕ) (q : Nexus) : Type 0 where
  own : id.command ≡ m → id.sense ≡ false → (status == CHECK_CONDITION) ≡ true → Owes s b id status x m q
  other : IsDebt s b m q → (x ≡ q → ⊥) → Owes s b id status x m q

owes : (s : ScenarioValue) (b : Story) (holds : List Nexus) (id : ProcId) (status : ℕ) (t : Process)
    → OfCommand s id t → PaysWell s b.sent (Event.End id status) → Debts s b.sent holds → (l : ℕ) (q : Nexus)
    → IsDebt s (story_after_event s b (Event.End id status)).sent l q → Owes s b.sent id status (nexus_of t) l q
owes s b holds id status t of well h l q d = go (not id.sense && status == CHECK_CONDITION) refl
  where
    c : Sent
    c = (story_after_event s b (Event.End id status)).sent

    ends : Story
    ends = story_with_end b id (by_status status)

    more : (m : ℕ) → has_item b.sent.over (sense_item m) ≡ true → has_item c.over (sense_item m) ≡ true
    more m z = (events_grow s b (Event.End id status ∷ [])).over (sense_item m) z

    checks : (x : Bool) → (not id.sense && status == CHECK_CONDITION) ≡ x
        → c.checks ≡ (if x then record ends { sent = record ends.sent { checks = ends.sent.checks ++ id.command ∷ [] } }
        else ends).sent.checks
    checks x z =
        λ i. (if z i then record ends { sent = record ends.sent { checks = ends.sent.checks ++ id.command ∷ [] } }
        else ends).sent.checks

    nexus : nexus_of_command of.def ≡ nexus_of t
    nexus = λ i. record { initiator = of.host_is i; target = of.target_is i; unit = of.unit_is i }

    -- the one that ends is owed no more
    apart : IsDebt s b.sent l q → (x : Bool) → id.sense ≡ x → nexus_of t ≡ q → ⊥
    apart old true e same = no_more (sym (ap (has_item c.over) item ∙ ends_over s b id status) ∙ is_not_over c l d.owed)
      where
        no_more : true ≡ false → ⊥
        no_more z = wrong z

        mine : IsDebt s b.sent id.command q
        mine = record { def = of.def; def_is = of.def_is; nexus_is = nexus ∙ same; owed = (well.0 e).1 }

        item : sense_item l ≡ process id
        item = λ i. process (record { command = h.alone l id.command q old mine i; sense = sym e i })
    apart old false e same = (well.1 e).1 of.def of.def_is l
        (record { def = old.def; def_is = old.def_is; nexus_is = old.nexus_is ∙ sym same ∙ sym nexus; owed = old.owed })

    older : IsDebt s b.sent l q → Owes s b.sent id status (nexus_of t) l q
    older old = other old (apart old id.sense refl)

    go : (x : Bool) → (not id.sense && status == CHECK_CONDITION) ≡ x → Owes s b.sent id status (nexus_of t) l q
    go false z = older (same_debt s b.sent c l q (checks false z) more d)
    go true z = by (in_append l id.command b.sent.checks
        (ap (λ (x : List ℕ). list_any (λ k. k == l) x) (sym (checks true z)) ∙ is_checked c l d.owed))
      where
        plain : (x : Bool) → (not x && status == CHECK_CONDITION) ≡ true
            → (x ≡ false) × ((status == CHECK_CONDITION) ≡ true)
        plain true y = wrong' y
        plain false y = (refl, y)

        by : (list_any (λ k. k == l) b.sent.checks ≡ true) ⊎ (id.command ≡ l) → Owes s b.sent id status (nexus_of t) l q
        by (inl old) = older (debt_before s b.sent c l q more old d)
        by (inr new) = own new (plain id.sense z).0 (plain id.sense z).1

ends_own : (s : ScenarioValue) (b : Story) (a : Array) (id : ProcId) (status : ℕ)
    → IsSound s a → Debts s b.sent a.holds → PaysWell s b.sent (Event.End id status)
    → Tells b.sent a (Event.End id status) → OwnSenses s b.sent a.senses a.replies
    → IfBooks (OwnSenses s (story_after_event s b (Event.End id status)).sent)
    (Steps.end_step a status (running_process a id))
ends_own s b a id status sound debts well tells h = ended (OwnSenses s c) a id status after
  where
    c : Sent
    c = (story_after_event s b (Event.End id status)).sent

    after : (r : RunningProcess) (reply : Reply) → running_process a id ≡ Some r → r.reply ≡ Some reply
        → (reply.status == status) ≡ true → OwnSenses s c (Steps.after_status a r.process reply).senses a.replies
    after r reply e f z =
        record { owned = λ m q d. by m q d (owes s b a.holds id status y of well debts m q d); brought = h.brought }
      where
        y : Process
        y = r.process

        of : OfCommand s id y
        of = of_command s id y (running_own s a id r sound e)

        nexus : nexus_of_command of.def ≡ nexus_of y
        nexus = λ i. record { initiator = of.host_is i; target = of.target_is i; unit = of.unit_is i }

        stays : (m : ℕ) (q : Nexus)
            → (nexus_of y ≡ q → ⊥) → sense_of_nexus (Steps.after_status a y reply).senses q ≡ sense_of_nexus a.senses q
        stays m q apart =
            go (reply.status == CHECK_CONDITION) (reply.status == GOOD && is_request_sense (command_of y.cdb))
          where
            go : (x t : Bool) → sense_of_nexus (if x then record a {
              senses = (nexus_of y, reply.sense) ∷ senses_without a.senses (nexus_of y);
              holds = nexus_of y ∷ nexuses_without a.holds (nexus_of y);
            } else if t then record a {
              senses = senses_without a.senses (nexus_of y);
              holds = nexuses_without a.holds (nexus_of y);
            } else a).senses q ≡ sense_of_nexus a.senses q
            go true t = apart_put a.senses (nexus_of y) reply.sense q apart
            go false true = apart_without a.senses (nexus_of y) q apart
            go false false = refl

        same : reply.status ≡ status
        same = eqb-true reply.status status z

        new : (m : ℕ) (q : Nexus) → IsDebt s c m q → id.command ≡ m → id.sense ≡ false
            → (status == CHECK_CONDITION) ≡ true → OwnReply (Steps.after_status a y reply).senses a.replies m q
        new m q d mine plain check = record {
          reply = reply;
          reply_is =
              (λ i. reply_in a.replies (record { command = sym mine i; sense = sym plain i })) ∙ tells r reply e f;
          check = same ∙ eqb-true status CHECK_CONDITION check;
          stored = ap (λ (x : Bool). sense_of_nexus (if x then record a {
            senses = (nexus_of y, reply.sense) ∷ senses_without a.senses (nexus_of y);
            holds = nexus_of y ∷ nexuses_without a.holds (nexus_of y);
          } else if reply.status == GOOD && is_request_sense (command_of y.cdb) then record a {
            senses = senses_without a.senses (nexus_of y);
            holds = nexuses_without a.holds (nexus_of y);
          } else a).senses q) (ap (λ (x : ℕ). x == CHECK_CONDITION) same ∙ check)
              ∙ sense_put_at a.senses (nexus_of y) reply.sense q
              ∙ ap (λ (x : Bool). if x then Some reply.sense else sense_of_nexus a.senses q)
              (ap (same_nexus (nexus_of y)) (sym here) ∙ self_nexus (nexus_of y));
        }
          where
            here : nexus_of y ≡ q
            here = sym nexus ∙ ap nexus_of_command
                (same_Some of.def d.def (sym of.def_is ∙ ap (command_at s.commands) mine ∙ d.def_is))
                ∙ d.nexus_is

        by : (m : ℕ) (q : Nexus) → IsDebt s c m q → Owes s b.sent id status (nexus_of y) m q
            → OwnReply (Steps.after_status a y reply).senses a.replies m q
        by m q d (own mine plain check) = new m q d mine plain check
        by m q d (other old apart) =
            still a.senses (Steps.after_status a y reply).senses a.replies m q (stays m q apart) (h.owned m q old)

-- ---- an abort, or RST

ends_stopped : (s : ScenarioValue) (drops stops : CmdDef → Bool) (e : Ending)
    (b : Story) (senses kept : List (Nexus × Sense)) (replies : List (ProcId × Reply))
    → AreChecked b.sent → ((m : ℕ) → has_item b.sent.over (sense_item m) ≡ true
    → has_item (story_with_ends drops stops e 1 s.commands b).sent.over (sense_item m) ≡ true)
    → ((def : CmdDef) (q : Nexus) → stops def ≡ false → nexus_of_command def ≡ q
    → sense_of_nexus kept q ≡ sense_of_nexus senses q)
    → OwnSenses s b.sent senses replies → OwnSenses s (story_with_ends drops stops e 1 s.commands b).sent kept replies
ends_stopped s drops stops e b senses kept replies checked more keep h = record { owned = owned; brought = h.brought }
  where
    c : Sent
    c = (story_with_ends drops stops e 1 s.commands b).sent

    unstopped : (m : ℕ) (q : Nexus) (d : IsDebt s c m q) → IsDebt s b.sent m q → (x : Bool) → stops d.def ≡ x
        → stops d.def ≡ false
    unstopped m q d f false z = z
    unstopped m q d f true z =
        wrong (sym (ends_senses s drops stops e b m d.def d.def_is z checked (is_checked b.sent m f.owed))
        ∙ is_not_over c m d.owed)

    owned : (m : ℕ) (q : Nexus) → IsDebt s c m q → OwnReply kept replies m q
    owned m q d =
        let old : IsDebt s b.sent m q = same_debt s b.sent c m q (ends_checks drops stops e 1 s.commands b) more d in
        still senses kept replies m q (keep d.def q (unstopped m q d old (stops d.def) refl) d.nexus_is)
        (h.owned m q old)

aborted : (s : ScenarioValue) (b : Story) (a : Array) (i t l : ℕ) (what : AbortKind)
    → AreChecked b.sent → OwnSenses s b.sent a.senses a.replies
    → OwnSenses s (story_after_event s b (Event.Aborted i t l what)).sent (Steps.abort_step s a i t l what).senses
    (Steps.abort_step s a i t l what).replies
aborted s b a i t l what checked h =
    go what (λ m z. (events_grow s b (Event.Aborted i t l what ∷ [])).over (sense_item m) z)
  where
    go : (what : AbortKind) → ((m : ℕ) → has_item b.sent.over (sense_item m) ≡ true
        → has_item (story_after_event s b (Event.Aborted i t l what)).sent.over (sense_item m) ≡ true)
        → OwnSenses s (story_after_event s b (Event.Aborted i t l what)).sent (Steps.abort_step s a i t l what).senses
        (Steps.abort_step s a i t l what).replies
    go AbortKind.All more = ends_stopped s (is_aborted i t l AbortKind.All) (is_sense_stopped i t l AbortKind.All)
        by_abort b a.senses (senses_without a.senses (nexus_at i t l)) a.replies checked more
        (λ def q e is. apart_without a.senses (nexus_at i t l) q (λ same. wrong
        (sym (ap (λ (x : Nexus). same_nexus x (nexus_at i t l)) (is ∙ sym same) ∙ self_nexus (nexus_at i t l)) ∙ e))) h
    go (AbortKind.Tag tag) more = ends_stopped s (is_aborted i t l (AbortKind.Tag tag))
        (is_sense_stopped i t l (AbortKind.Tag tag)) by_abort b a.senses a.senses a.replies checked more
        (λ def q e is. refl) h
    go AbortKind.WholeQueue more = by_same
        (OwnSenses s (story_after_event s b (Event.Aborted i t l AbortKind.WholeQueue)).sent) (Steps.without_dropped a
        (λ p. Steps.is_of_unit p t l)) (Steps.abort_step s a i t l AbortKind.WholeQueue) (cleared_same i
        (Steps.unit_processes (unit_state_at a.units t l)) (Steps.without_dropped a (λ p. Steps.is_of_unit p t l)))
        (ends_stopped s (is_aborted i t l AbortKind.WholeQueue) (is_sense_stopped i t l AbortKind.WholeQueue) by_abort b
        a.senses a.senses a.replies checked more (λ def q e is. refl) h)
    go AbortKind.Device more = by_same (OwnSenses s (story_after_event s b (Event.Aborted i t l AbortKind.Device)).sent)
        kept (Steps.abort_step s a i t l AbortKind.Device) (units_same s.hosts a.units (λ u. u.target == t) kept)
        (ends_stopped s (is_aborted i t l AbortKind.Device) (is_sense_stopped i t l AbortKind.Device)
        by_abort b a.senses (Steps.kept_senses (λ r. r.target == t) a.senses) a.replies checked more
        (λ def q e is. kept_at (λ r. r.target == t) a.senses q (ap (λ (x : Nexus). x.target == t) (sym is) ∙ e)) h)
      where
        kept : Array
        kept = record (Steps.without_dropped a (λ p. p.target == t)) {
          senses = Steps.kept_senses (λ r. r.target == t) a.senses;
          holds = Steps.kept_nexuses (λ r. r.target == t) a.holds;
        }

reset : (s : ScenarioValue) (b : Story) (a : Array) (dev : ℕ)
    → AreChecked b.sent → OwnSenses s b.sent a.senses a.replies
    → OwnSenses s (story_after_event s b (Event.Reset dev)).sent (Steps.reset_step s a).senses
    (Steps.reset_step s a).replies
reset s b a dev checked h = by_same (OwnSenses s (story_after_event s b (Event.Reset dev)).sent) cleared
    (Steps.reset_step s a) (units_same s.hosts a.units (λ u. true) cleared)
    (ends_stopped s (λ x. true) (λ x. true) by_reset b a.senses [] a.replies checked
    (λ m z. (events_grow s b (Event.Reset dev ∷ [])).over (sense_item m) z) (λ def q e is. wrong e) h)
  where
    cleared : Array
    cleared = record (Steps.without_dropped a (λ p. true)) { senses = []; holds = [] }

-- ---- any event

refused_plain : (s : ScenarioValue) (id : ProcId) (c : Process) → process_of s id ≡ Some c
    → is_request_sense (command_of c.cdb) ≡ false → id.sense ≡ false
refused_plain s id c is e =
    elim (cases_Bool id.sense) [ inl f ↦ wrong (sym ((of_command s id c is).fetches f) ∙ e) | inr f ↦ f ]

event_own : (s : ScenarioValue) (b : Story) (a : Array) (event : Event) → IsSound s a → AreChecked b.sent
    → Debts s b.sent a.holds → PaysWell s b.sent event → Tells b.sent a event → StoredFit a.senses
    → OwnSenses s b.sent a.senses a.replies
    → IfBooks (OwnSenses s (story_after_event s b event).sent) (Steps.event_step s a event)
event_own s b a (Event.Accept id) sound checked debts well tells fit h =
    accepted (OwnSenses s b.sent) a (process_of s id) h
event_own s b a (Event.Refuse id) sound checked debts well tells fit h =
    refused (OwnSenses s b.sent) a (process_of s id) (λ c e f. let own : c.id ≡ id = sym (process_own c e) in
    command_more s b.sent a.senses a.replies c.id queue_full
    (ap (reply_in a.replies) own ∙ tells) (ap (λ (x : ProcId). x.sense) own ∙ refused_plain s id c e f) h)
  where
    process_own : (c : Process) → process_of s id ≡ Some c → id ≡ c.id
    process_own c e = sym (Rattle.due_model.specs.array_model.proofs.SoundArrays.id_is s id c e)
event_own s b a (Event.Run id) sound checked debts well tells fit h = run (OwnSenses s b.sent) a
    (is_some (guest_at a.guests id)) (running_process a id) (λ r e. ran s b.sent a id r sound tells fit e h)
event_own s b a (Event.Fail id code) sound checked debts well tells fit h =
    failed (OwnSenses s b.sent) s a id (check_condition (sense_of ABORTED_COMMAND code 0x00)) (running_process a id)
    (command_more s b.sent a.senses a.replies id (check_condition (sense_of ABORTED_COMMAND code 0x00)) tells well h)
event_own s b a (Event.End id status) sound checked debts well tells fit h =
    ends_own s b a id status sound debts well tells h
event_own s b a (Event.Lost id) sound checked debts well tells fit h = lost
    (OwnSenses s (story_after_event s b (Event.Lost id)).sent) a id
    (fewer_owned s b.sent (story_after_event s b (Event.Lost id)).sent a.senses a.replies
    (λ n q d. same_debt s b.sent (story_after_event s b (Event.Lost id)).sent n q refl
    (λ m z. (events_grow s b (Event.Lost id ∷ [])).over (sense_item m) z) d) h)
event_own s b a (Event.Aborted i t n what) sound checked debts well tells fit h = aborted s b a i t n what checked h
event_own s b a (Event.Reset dev) sound checked debts well tells fit h = reset s b a dev checked h

pub step_own : (s : ScenarioValue) (b : Story) (a d : Array) (event : Event) → IsSound s a → AreChecked b.sent
    → Debts s b.sent a.holds → PaysWell s b.sent event → Tells b.sent a event → StoredFit a.senses
    → OwnSenses s b.sent a.senses a.replies
    → Steps.step s event a ≡ Some d → OwnSenses s (story_after_event s b event).sent d.senses d.replies
step_own s b a d event sound checked debts well tells fit h e = subst (IfBooks
    (OwnSenses s (story_after_event s b event).sent)) e (settled (OwnSenses s (story_after_event s b event).sent)
    (Steps.event_step s a event) (event_own s b a event sound checked debts well tells fit h))
