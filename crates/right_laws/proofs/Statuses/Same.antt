-- What is said of the status that a process has carried says the same of what has the same bytes and the same pointer.
use Rattle.right_laws.proofs
use proofs.Names.{ℕ, ◌≡◌, ◌⊎◌, inl, inr, Bool, true, false, ◌==◌, ◌∙◌, Some, refl, sym, ap, subst, true≢false}
use proofs.Names.{if◌then◌else◌, wrong', LineSet, MsgIn, CarriedBytes, Link, is_status_next, one_message, phase_of}
use proofs.Names.{Cause, Messages, Next, Phase, Plan, frees_bus, KeptPlan, LastGiven, still_stays, to_close, to_save}
use proofs.Names.{closed, Load, load, HasOne, IsSmall, IsReady, StatusSays, StatusAsked, StatusBy}

-- ---- what is the same says the same

pub one_as : (c d : CarriedBytes) → load d ≡ load c → HasOne c → HasOne d
one_as c d e h = (h.0, ap (λ (x : Load). x.status) e ∙ h.1)

pub small_as : (c d : CarriedBytes) → load d ≡ load c → IsSmall c → IsSmall d
small_as c d e (inl h) = inl (ap (λ (x : Load). x.status) e ∙ h)
small_as c d e (inr h) = inr (one_as c d e h)

pub ready_as : (c d : CarriedBytes) → d.status ≡ c.status → IsReady c → IsReady d
ready_as c d e (inl h) = inl (ap (λ (a : Rattle.due_model.specs.story_model.specs.CarriedBytes.Area). a.bytes) e ∙ h)
ready_as c d e (inr h) = inr (
  (h.0.0, ap (λ (a : Rattle.due_model.specs.story_model.specs.CarriedBytes.Area). a.bytes) e ∙ h.0.1),
  ap (λ (a : Rattle.due_model.specs.story_model.specs.CarriedBytes.Area). a.active) e ∙ h.1,
)

pub ready_small : (c : CarriedBytes) → IsReady c → IsSmall c
ready_small c (inl h) = inl h
ready_small c (inr h) = inr h.0

pub says_as : (c d : CarriedBytes) (m v : Messages) (x y : Next) → load d ≡ load c → v ≡ m → y ≡ x → StatusSays c m x
    → StatusSays d v y
says_as c d m v x y e em en h = record {
  completes = λ z. one_as c d e (h.completes (sym em ∙ z));
  again = λ z. let w = h.again (sym en ∙ z) in (em ∙ w.0, small_as c d e w.1);
}

pub asked_as : (c d : CarriedBytes) (l q : Plan) → load d ≡ load c → KeptPlan l q → StatusAsked c l l.cause
    → StatusAsked d q q.cause
asked_as c d l q e f h = subst (StatusAsked d q) (sym f.cause) (go l.cause h)
  where
    go : (x : Cause) → StatusAsked c l x → StatusAsked d q x
    go Cause.Selected w = tt
    go Cause.InMessage w = says_as c d l.messages q.messages l.next q.next e f.messages f.next w
    go Cause.InData w = tt
    go Cause.InStatus w = one_as c d e w

-- The row changes nothing of it.
pub same_by : (c d : CarriedBytes) (l q : Plan) (x y : ℕ) (phase : Phase) → load d ≡ load c → d.status ≡ c.status
    → KeptPlan l q → ((phase ≡ Phase.Status) ⊎ (phase ≡ Phase.MessageIn) → y ≡ x) → StatusBy c l x phase
    → StatusBy d q y phase
same_by c d l q x y Phase.Status e f g same h = (
  λ z. ready_as c d f (h.0 (ap (λ (m : ℕ). m == 0) (sym (same (inl refl))) ∙ z)),
  λ z. one_as c d e (h.1 (ap (λ (m : ℕ). m == 0) (sym (same (inl refl))) ∙ z)),
)
same_by c d l q x y Phase.MessageIn e f g same h = (
  says_as c d l.messages q.messages l.next q.next e g.messages g.next h.0,
  λ z some. ready_as c d f (h.1 (sym g.next ∙ z) (ap (λ (m : ℕ). m == 0) (sym (same (inr refl))) ∙ some)),
)
same_by c d l q x y Phase.MessageOut e f g same h = asked_as c d l q e g h
same_by c d l q x y Phase.Command e f g same h = tt
same_by c d l q x y Phase.DataIn e f g same h = tt
same_by c d l q x y Phase.DataOut e f g same h = tt

-- ---- lines

pub status_lines : (b : LineSet) → phase_of b ≡ Phase.Status → (b.msg ≡ false) × (b.cd ≡ true) × (b.io ≡ true)
status_lines b e = go b.msg b.cd b.io refl refl refl (ap (λ (f : Phase). is_status_next (Some f)) e)
  where
    go : (m d i : Bool) → b.msg ≡ m → b.cd ≡ d → b.io ≡ i
        → is_status_next (Some (if m then (if i then Phase.MessageIn else Phase.MessageOut)
        else if d then (if i then Phase.Status else Phase.Command) else if i then Phase.DataIn else Phase.DataOut))
        ≡ true → (b.msg ≡ false) × (b.cd ≡ true) × (b.io ≡ true)
    go true d true em ed ei z = wrong' z
    go true d false em ed ei z = wrong' z
    go false true true em ed ei z = (em, ed, ei)
    go false true false em ed ei z = wrong' z
    go false false true em ed ei z = wrong' z
    go false false false em ed ei z = wrong' z

-- ---- what is said at its end

pub freeing : (l : Link) (m : Messages) (next : Next) (count : ℕ) → LastGiven l m next count
    → m ≡ one_message MsgIn.CommandComplete → frees_bus next ≡ true
freeing l m next count (still_stays f all last) e =
    absurd (no_end ((subst (λ (x : Messages). Rattle.trace_laws.specs.book_laws.specs.Giving.OnMessages (λ y.
    Rattle.due_model.specs.story_model.specs.Links.last_in y ≡ Rattle.due_model.specs.story_model.specs.Links.plain) x)
    e all).0))
  where
    no_end : (let x : Rattle.due_model.specs.story_model.specs.Links.LastMessage =
        Rattle.due_model.specs.story_model.specs.Links.complete in x)
        ≡ Rattle.due_model.specs.story_model.specs.Links.plain
        → ⊥
    no_end z = true≢false (ap Rattle.due_model.specs.story_model.specs.HistoryEvents.is_complete z)
freeing l m next count (to_close f x one end zero last) e = frees next f
  where
    frees : (y : Next) → frees_bus y ≡ true → frees_bus y ≡ true
    frees Next.FreeBus z = refl
    frees _ z = wrong' z
freeing l m next count (to_save f both at last) e = frees next f
  where
    frees : (y : Next) → frees_bus y ≡ true → frees_bus y ≡ true
    frees Next.FreeBus z = refl
    frees _ z = wrong' z
freeing l m next count (closed f ends full last told) e = frees next f
  where
    frees : (y : Next) → frees_bus y ≡ true → frees_bus y ≡ true
    frees Next.FreeBus z = refl
    frees _ z = wrong' z
