-- Where the data pointers stand stays so with what changes neither them nor what is planned.
use Rattle.story_laws.proofs
use proofs.Names.{ℕ, ◌≡◌, ◌⊎◌, inl, inr, ◌+◌, Bool, true, false, ◌∙◌, refl, sym, ap, subst, LineSet, Handshakes, Policy}
use proofs.Names.{Area, CarriedBytes, Link, Exchange, phase_of, Cause, Messages, Next, Phase, Plan, IsAt, OnUndo}
use proofs.Names.{IsCalm, PointersIn, calm, restores, saves, saved, closes, PointersRefused, still_calm, restores_again}
use proofs.Names.{saves_again, disconnects_again, closes_again, IsSettled, PointersAsked, PointersOf, PointersIf}
use proofs.{Names.{PointersBy, IsUnnamed, disconnects}, Pointers.Stories.{SamePointers}}

pub at_as : (a b : Area) (x : ℕ) → a ≡ b → IsAt b x → IsAt a x
at_as a b x e h = subst (λ (y : Area). IsAt y x) (sym e) h

saved_as : (a b : Area) (x : ℕ) → a ≡ b → b.saved ≡ x → a.saved ≡ x
saved_as a b x e h = ap (λ (y : Area). y.saved) e ∙ h

active_as : (a b : Area) (x : ℕ) → a ≡ b → b.active ≡ x → a.active ≡ x
active_as a b x e h = ap (λ (y : Area). y.active) e ∙ h

calm_as : (policy : Policy) (l : Link) (c d : CarriedBytes) (m : Messages) (next : Next) (start : ℕ) → SamePointers d c
    → IsCalm policy l c m next start → IsCalm policy l d m next start
calm_as policy l c d m next start e h =
    record { here = at_as d.moved c.moved start e.moved h.here; undone = h.undone; plain = h.plain }

in_as : (policy : Policy) (l : Link) (c d : CarriedBytes) (m : Messages) (next : Next) (count start : ℕ)
    → SamePointers d c → PointersIn policy l c m next count start → PointersIn policy l d m next count start
in_as policy l c d m next count start f (calm h) = calm (calm_as policy l c d m next start f h)
in_as policy l c d m next count start f (restores em en u e w) =
    restores em en u (saved_as d.moved c.moved start f.moved e) (go w)
  where
    go : (count ≡ 0) ⊎ ((c.moved.active ≡ start) × OnUndo (λ (u : CarriedBytes). u.moved.saved ≡ start) l.undo)
        → (count ≡ 0) ⊎ ((d.moved.active ≡ start) × OnUndo (λ (u : CarriedBytes). u.moved.saved ≡ start) l.undo)
    go (inl z) = inl z
    go (inr z) = inr (active_as d.moved c.moved start f.moved z.0, z.1)
in_as policy l c d m next count start f (saves em en u z e) =
    saves em en u z (active_as d.moved c.moved start f.moved e)
in_as policy l c d m next count start f (saved em en u b z e w) =
    saved em en u b z (at_as d.moved c.moved start f.moved e) w
in_as policy l c d m next count start f (disconnects em en e w) =
    disconnects em en (saved_as d.moved c.moved start f.moved e) w
in_as policy l c d m next count start f (closes em en e w) = closes em en (f.marked e) w

refused_as : (policy : Policy) (l : Link) (c d : CarriedBytes) (m : Messages) (next : Next) (start : ℕ)
    → SamePointers d c → PointersRefused policy l c m next start → PointersRefused policy l d m next start
refused_as policy l c d m next start f (still_calm h) = still_calm (calm_as policy l c d m next start f h)
refused_as policy l c d m next start f (restores_again em en u e w) =
    restores_again em en u (saved_as d.moved c.moved start f.moved e) w
refused_as policy l c d m next start f (saves_again em en u b e w) =
    saves_again em en u b (active_as d.moved c.moved start f.moved e) w
refused_as policy l c d m next start f (disconnects_again em en e w) =
    disconnects_again em en (saved_as d.moved c.moved start f.moved e) w
refused_as policy l c d m next start f (closes_again em en e w) = closes_again em en (f.marked e) w

settled_as : (l : Link) (c d : CarriedBytes) (start : ℕ) → SamePointers d c → IsSettled l c start → IsSettled l d start
settled_as l c d start e h = record { here = at_as d.moved c.moved start e.moved h.here; undone = h.undone }

pub record SamePlan (a b : Plan) : Type 0 where
  pub messages : a.messages ≡ b.messages
  pub next : a.next ≡ b.next
  pub cause : a.cause ≡ b.cause

asked_as : (policy : Policy) (l : Link) (c d : CarriedBytes) (a q : Plan) (start : ℕ) → SamePointers d c → SamePlan q a
    → (cause : Cause) → PointersAsked policy l c a start cause → PointersAsked policy l d q start cause
asked_as policy l c d a q start f e Cause.Selected h = settled_as l c d start f h
asked_as policy l c d a q start f e Cause.InMessage h = subst
    (λ (m : Messages). PointersRefused policy l d m q.next start) (sym e.messages)
    (subst (λ (x : Next). PointersRefused policy l d a.messages x start) (sym e.next)
    (refused_as policy l c d a.messages a.next start f h))
asked_as policy l c d a q start f e Cause.InData h = (h.0, saved_as d.moved c.moved start f.moved h.1)
asked_as policy l c d a q start f e Cause.InStatus h = f.marked h

-- The bytes of this phase that were asked for, or answered, are as many.
pub record AreCountedSo (phase : Phase) (h g : Handshakes) : Type 0 where
  pub said : phase ≡ Phase.MessageIn → g.requests ≡ h.requests
  pub given : phase ≡ Phase.DataIn → g.requests ≡ h.requests
  pub sent : phase ≡ Phase.DataOut → g.answers ≡ h.answers

pub counted_same : (phase : Phase) (h : Handshakes) → AreCountedSo phase h h
counted_same phase h = record { said = λ z. refl; given = λ z. refl; sent = λ z. refl }

pub pointers_as :
    (policy : Policy) (l : Link) (c d : CarriedBytes) (a q : Plan) (h g : Handshakes) (start : ℕ) (phase : Phase)
    → SamePointers d c → SamePlan q a → AreCountedSo phase h g → PointersOf policy l c a h start phase
    → PointersOf policy l d q g start phase
pointers_as policy l c d a q h g start Phase.Command f e r z = settled_as l c d start f z
pointers_as policy l c d a q h g start Phase.DataOut f e r z = record {
  plain = z.plain;
  active =
      active_as d.moved c.moved (start + g.answers) f.moved (z.active ∙ ap (λ (x : ℕ). start + x) (sym (r.sent refl)));
  saved = saved_as d.moved c.moved start f.moved z.saved;
}
pointers_as policy l c d a q h g start Phase.DataIn f e r z = record {
  plain = z.plain;
  active = active_as d.moved c.moved (start + g.requests) f.moved
      (z.active ∙ ap (λ (x : ℕ). start + x) (sym (r.given refl)));
  saved = saved_as d.moved c.moved start f.moved z.saved;
}
pointers_as policy l c d a q h g start Phase.Status f e r z = f.marked z
pointers_as policy l c d a q h g start Phase.MessageIn f e r z = subst
    (λ (m : Messages). PointersIn policy l d m q.next g.requests start) (sym e.messages)
    (subst (λ (y : Next). PointersIn policy l d a.messages y g.requests start) (sym e.next)
    (subst (λ (x : ℕ). PointersIn policy l d a.messages a.next x start) (sym (r.said refl))
    (in_as policy l c d a.messages a.next h.requests start f z)))
pointers_as policy l c d a q h g start Phase.MessageOut f e r z = subst
    (λ (x : Cause). PointersAsked policy l d q start x) (sym e.cause) (asked_as policy l c d a q start f e a.cause z)

-- Whether a phase has begun or not.
pub by_as :
    (policy : Policy) (l : Link) (c d : CarriedBytes) (x y : Exchange) (h g : Handshakes) (b w : LineSet) (start : ℕ)
    → SamePointers d c → SamePlan y.plan x.plan → y.begun ≡ x.begun → phase_of w ≡ phase_of b
    → AreCountedSo (phase_of b) h g → PointersBy policy l c x h b start → PointersBy policy l d y g w start
by_as policy l c d x y h g b w start f e eb ep r v =
    subst (λ (q : Bool). PointersIf q policy l d y.plan g start (phase_of w)) (sym eb)
    (subst (λ (z : Phase). PointersIf x.begun policy l d y.plan g start z) (sym ep) (go x.begun v))
  where
    go : (q : Bool) → PointersIf q policy l c x.plan h start (phase_of b)
        → PointersIf q policy l d y.plan g start (phase_of b)
    go true v = pointers_as policy l c d x.plan y.plan h g start (phase_of b) f e r v
    go false v = settled_as l c d start f v

pub unnamed_as : (policy : Policy) (l : Link) (c d : CarriedBytes) (x y : Exchange) (b w : LineSet) (start : ℕ)
    → SamePointers d c → SamePlan y.plan x.plan → y.begun ≡ x.begun → phase_of w ≡ phase_of b
    → IsUnnamed policy l c x b start → IsUnnamed policy l d y w start
unnamed_as policy l c d x y b w start f e eb ep h = record {
  begun = eb ∙ h.begun;
  undone = h.undone;
  undisturbed = h.undisturbed;
  next = e.next ∙ h.next;
  plain = subst (λ (m : Messages). Rattle.row_laws.specs.book_laws.specs.Giving.OnMessages
      Rattle.row_laws.specs.DataPointers.IsPlainIn m) (sym e.messages) h.plain;
  saved = saved_as d.moved c.moved start f.moved h.saved;
  phase = go h.phase;
}
  where
    go : (phase_of b ≡ Phase.MessageIn) ⊎ ((phase_of b ≡ Phase.MessageOut) × (x.plan.cause ≡ Cause.InMessage))
        → (phase_of w ≡ Phase.MessageIn) ⊎ ((phase_of w ≡ Phase.MessageOut) × (y.plan.cause ≡ Cause.InMessage))
    go (inl z) = inl (ep ∙ z)
    go (inr z) = inr (ep ∙ z.0, e.cause ∙ z.1)
