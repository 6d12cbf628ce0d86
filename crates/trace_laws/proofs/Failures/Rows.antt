-- The code of the failure of the process that is served goes on with each row of a phase.
use Rattle.trace_laws.proofs
use proofs.Names.{inl, inr, ℕ, ◌≡◌, ◌⊎◌, Bool, true, false, not, ◌+◌, ◌∙◌, List, Option, Some, None, refl, sym, ap}
use proofs.Names.{subst, if◌then◌else◌, wrong, wrong', MsgIn, CarriedBytes, Link, struck_plan, parity_error, Cause}
use proofs.Names.{Messages, Next, Phase, Plan, by_option, is_marked, is_short, IsClear, UndoesClear, ClearIn, clear}
use proofs.Names.{ClearOut, still_clear, GivesFailure, RefusesFailure, SaysFailure, FailsBy, restores, restores_again}
use proofs.Failures.{Bytes.{SameFail, clear_as}, Faults.{Struck}}

-- ---- what is carried stays as it was

pub clear_in_as : (l : Link) (c d : CarriedBytes) (m : Messages) (count : ℕ) → SameFail c d → ClearIn l c m count
    → ClearIn l d m count
clear_in_as l c d m count w (clear h u) = clear (clear_as c d w h) u
clear_in_as l c d m count w (restores e (inl z)) = restores e (inl z)
clear_in_as l c d m count w (restores e (inr h)) = restores e (inr (clear_as c d w h))

pub clear_out_as : (l : Link) (c d : CarriedBytes) (m : Messages) (words : List ℕ) → SameFail c d → ClearOut l c m words
    → ClearOut l d m words
clear_out_as l c d m words w (still_clear h u) = still_clear (clear_as c d w h) u
clear_out_as l c d m words w (restores_again e (inl z)) = restores_again e (inl z)
clear_out_as l c d m words w (restores_again e (inr h)) = restores_again e (inr (clear_as c d w h))

gives_as : (l : Link) (c d : CarriedBytes) (f : Plan) (count : ℕ) (next : Next) → SameFail c d
    → is_marked d ≡ is_marked c → GivesFailure l c f count next → GivesFailure l d f count next
gives_as l c d f count Next.Command w a h = clear_in_as l c d f.messages count w h
gives_as l c d f count Next.GoOn w a h = clear_in_as l c d f.messages count w h
gives_as l c d f count Next.Status w a h = a ∙ h
gives_as l c d f count Next.FreeBus w a (inl h) = inl (a ∙ h)
gives_as l c d f count Next.FreeBus w a (inr h) = inr (clear_in_as l c d f.messages count w h)

pub refuses_as : (l : Link) (c d : CarriedBytes) (f : Plan) (words : List ℕ) (next : Next) → SameFail c d
    → is_marked d ≡ is_marked c → RefusesFailure l c f words next → RefusesFailure l d f words next
refuses_as l c d f words Next.Command w a h = clear_out_as l c d f.messages words w h
refuses_as l c d f words Next.GoOn w a h = clear_out_as l c d f.messages words w h
refuses_as l c d f words Next.Status w a h = a ∙ h
refuses_as l c d f words Next.FreeBus w a (inl h) = inl (a ∙ h)
refuses_as l c d f words Next.FreeBus w a (inr h) = inr (clear_out_as l c d f.messages words w h)

says_as : (l : Link) (c d : CarriedBytes) (f : Plan) (words : List ℕ) (cause : Cause) → SameFail c d
    → is_marked d ≡ is_marked c → SaysFailure l c f words cause → SaysFailure l d f words cause
says_as l c d f words Cause.Selected w a h = (clear_as c d w h.0, h.1)
says_as l c d f words Cause.InMessage w a h = refuses_as l c d f words f.next w a h
says_as l c d f words Cause.InData w a h = w.failure ∙ h
says_as l c d f words Cause.InStatus w a h = a ∙ h

-- Where no byte crosses, and no fault strikes; or in COMMAND, data and STATUS.
pub fails_as : (l : Link) (c d : CarriedBytes) (f : Plan) (words : List ℕ) (count : ℕ) (phase : Phase) → SameFail c d
    → is_marked d ≡ is_marked c → FailsBy l c f words count phase → FailsBy l d f words count phase
fails_as l c d f words count Phase.MessageOut w a h = says_as l c d f words f.cause w a h
fails_as l c d f words count Phase.MessageIn w a h = gives_as l c d f count f.next w a h
fails_as l c d f words count Phase.Command w a h = (w.struck ∙ h.0, w.failure ∙ h.1)
fails_as l c d f words count Phase.DataOut w a h = (w.struck ∙ h.0, w.failure ∙ h.1)
fails_as l c d f words count Phase.DataIn w a h = w.struck ∙ h
fails_as l c d f words count Phase.Status w a h = a ∙ h

-- ---- a fault strikes

struck_refuses : (l : Link) (c d : CarriedBytes) (a : Plan) (words : List ℕ) (next : Next)
    → RefusesFailure l c a words next → RefusesFailure l c (struck_plan a) words next
struck_refuses l c d a words Next.Command h = h
struck_refuses l c d a words _ h = h

struck_says : (l : Link) (c : CarriedBytes) (a : Plan) (words : List ℕ) (cause : Cause) → SaysFailure l c a words cause
    → SaysFailure l c (struck_plan a) words cause
struck_says l c a words Cause.InMessage h = struck_refuses l c c a words a.next h
struck_says l c a words _ h = h

-- The target knows of it in the phases to it.
abbrev pub plan_struck : Bool → Plan → Plan
plan_struck io l = if not io then struck_plan l else l

abbrev pub IsLine : Bool → Phase → Type 0
IsLine io Phase.DataIn = io ≡ true
IsLine io Phase.MessageIn = io ≡ true
IsLine io Phase.Status = io ≡ true
IsLine io _ = io ≡ false

pub fails_struck : (l : Link) (c d : CarriedBytes) (f : Plan) (words : List ℕ) (count : ℕ) (io : Bool) (phase : Phase)
    → IsLine io phase → Struck c d phase → is_marked d ≡ is_marked c → FailsBy l c f words count phase
    → FailsBy l d (plan_struck io f) words count phase
fails_struck l c d f words count true Phase.Command line w a h = wrong line
fails_struck l c d f words count false Phase.Command line w a h = w
fails_struck l c d f words count true Phase.DataOut line w a h = wrong line
fails_struck l c d f words count false Phase.DataOut line w a h = (w.0 ∙ h.0, w.1)
fails_struck l c d f words count true Phase.MessageOut line w a h = wrong line
fails_struck l c d f words count false Phase.MessageOut line w a h =
    struck_says l d f words f.cause (says_as l c d f words f.cause w a h)
fails_struck l c d f words count true Phase.DataIn line w a h = w.0 ∙ h
fails_struck l c d f words count false Phase.DataIn line w a h = wrong' line
fails_struck l c d f words count true Phase.MessageIn line w a h = gives_as l c d f count f.next w a h
fails_struck l c d f words count false Phase.MessageIn line w a h = wrong' line
fails_struck l c d f words count true Phase.Status line w a h = a ∙ h
fails_struck l c d f words count false Phase.Status line w a h = wrong' line

-- ---- a byte of MESSAGE IN

-- What it makes of the process, and of what would be brought back.
pub record HearsOf (l m : Link) (c d : CarriedBytes) (heard : Option MsgIn) : Type 0 where
  pub none : heard ≡ None → SameFail c d × (m.undo ≡ l.undo)
  pub some : (x : MsgIn) → heard ≡ Some x → (IsClear c → IsClear d) × (IsClear c → UndoesClear m.undo)
  pub restored : heard ≡ Some MsgIn.RestorePointers → IsClear d
  pub answer : is_marked d ≡ is_marked c

clear_in_on : (l m : Link) (c d : CarriedBytes) (messages : Messages) (count : ℕ) (heard : Option MsgIn)
    → HearsOf l m c d heard → (count ≡ 0 → is_short messages.first ≡ true → heard ≡ messages.first)
    → ClearIn l c messages count → ClearIn m d messages (count + 1)
clear_in_on l m c d messages count heard w first (clear h (inl u)) =
    by_option heard
    (λ e. let v = w.none e in clear (clear_as c d v.0 h) (inl (subst UndoesClear (sym v.1) u)))
    (λ x e. let v = w.some x e in clear (v.0 h) (inl (v.1 h)))
clear_in_on l m c d messages count heard w first (clear h (inr z)) = by messages.first refl z.1
  where
    by : (o : Option MsgIn) → messages.first ≡ o → is_short o ≡ true → ClearIn m d messages (count + 1)
    by None e f = wrong' f
    by (Some x) e f = let v = w.some x (first z.0 z.1 ∙ e) in clear (v.0 h) (inl (v.1 h))
clear_in_on l m c d messages count heard w first (restores e (inl z)) = restores e
    (inr (w.restored (first z (ap (λ (x : Messages). is_short x.first) e) ∙ ap (λ (x : Messages). x.first) e)))
clear_in_on l m c d messages count heard w first (restores e (inr h)) =
    restores e (inr (by_option heard (λ z. clear_as c d (w.none z).0 h) (λ x z. (w.some x z).0 h)))

pub gives_on : (l m : Link) (c d : CarriedBytes) (a : Plan) (count : ℕ) (next : Next) (heard : Option MsgIn)
    → HearsOf l m c d heard → (count ≡ 0 → is_short a.messages.first ≡ true → heard ≡ a.messages.first)
    → GivesFailure l c a count next → GivesFailure m d a (count + 1) next
gives_on l m c d a count Next.Command heard w first h = clear_in_on l m c d a.messages count heard w first h
gives_on l m c d a count Next.GoOn heard w first h = clear_in_on l m c d a.messages count heard w first h
gives_on l m c d a count Next.Status heard w first h = w.answer ∙ h
gives_on l m c d a count Next.FreeBus heard w first (inl h) = inl (w.answer ∙ h)
gives_on l m c d a count Next.FreeBus heard w first (inr h) = inr (clear_in_on l m c d a.messages count heard w first h)

-- ---- a byte of MESSAGE OUT

-- Of a byte that takes nothing back all stays; else what is brought back is clear, where it is.
pub record SaysOf (l m : Link) (c d : CarriedBytes) : Type 0 where
  pub undo : m.undo ≡ l.undo
  pub clears : UndoesClear l.undo → IsClear c → IsClear d
  pub answer : is_marked d ≡ is_marked c

refuses_on : (l m : Link) (c d : CarriedBytes) (a : Plan) (words : List ℕ) (next : Next) → SaysOf l m c d
    → (words ≡ parity_error) ⊎ SameFail c d → RefusesFailure l c a words next → RefusesFailure m d a words next
refuses_on l m c d a words next w said h = go next h
  where
    kept : ClearOut l c a.messages words → ClearOut m d a.messages words
    kept (still_clear f u) = still_clear (w.clears u f) (subst UndoesClear (sym w.undo) u)
    kept (restores_again e (inl z)) = restores_again e (inl z)
    kept (restores_again e (inr f)) = restores_again e (elim said [ inl z ↦ inl z | inr v ↦ inr (clear_as c d v f) ])

    go : (x : Next) → RefusesFailure l c a words x → RefusesFailure m d a words x
    go Next.Command z = kept z
    go Next.GoOn z = kept z
    go Next.Status z = w.answer ∙ z
    go Next.FreeBus (inl z) = inl (w.answer ∙ z)
    go Next.FreeBus (inr z) = inr (kept z)

pub says_on : (l m : Link) (c d : CarriedBytes) (a : Plan) (words : List ℕ) (cause : Cause) → SaysOf l m c d
    → (cause ≡ Cause.InMessage → (words ≡ parity_error) ⊎ SameFail c d) → (cause ≡ Cause.InData → SameFail c d)
    → SaysFailure l c a words cause → SaysFailure m d a words cause
says_on l m c d a words Cause.Selected w f g h = (w.clears h.1 h.0, subst UndoesClear (sym w.undo) h.1)
says_on l m c d a words Cause.InMessage w f g h = refuses_on l m c d a words a.next w (f refl) h
says_on l m c d a words Cause.InData w f g h = (g refl).failure ∙ h
says_on l m c d a words Cause.InStatus w f g h = w.answer ∙ h
