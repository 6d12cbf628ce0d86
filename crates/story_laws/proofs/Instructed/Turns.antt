-- What the target of a connection has been told in it, as a phase is left.
use Rattle.story_laws.proofs
use proofs.Names.{◌≡◌, Bool, true, false, not, ◌&&◌, ◌%◌, ◌∙◌, [], ◌∷◌, ◌++◌, Some, refl, sym, ap, subst, if◌then◌else◌}
use proofs.Names.{wrong, wrong', LineSet, changes_phase, is_command, is_message_out, phase_of, cause_after, Cause}
use proofs.Names.{Hearing, Next, Phase, Plan, Instructions, instructions_on, instructions_with, is_command_phase}
use proofs.Names.{is_opening_in, is_selected, is_out_phase, KnownFor, KnownIn, KnownNext}
use proofs.Instructed.Known.{FitsPhase, known_after}

-- ---- the lines of a phase

-- Messages are of the phases with C/D.
pub out_is : (b : LineSet) → (b.msg ≡ true → b.cd ≡ true) → is_message_out b ≡ is_out_phase (phase_of b)
out_is b known = go b.msg b.cd b.io known
  where
    go : (m d i : Bool) → (m ≡ true → d ≡ true)
        → (m && d && not i) ≡ is_out_phase (if m then (if i then Phase.MessageIn else Phase.MessageOut)
        else if d then (if i then Phase.Status else Phase.Command) else if i then Phase.DataIn else Phase.DataOut)
    go true true true h = refl
    go true true false h = refl
    go true false i h = wrong' (h refl)
    go false true true h = refl
    go false true false h = refl
    go false false true h = refl
    go false false false h = refl

-- ---- what it knows then

known_is : (phase : Phase) (struck : Bool) → known_after false struck phase ≡ (is_command_phase phase && not struck)
known_is Phase.MessageOut struck = refl
known_is _ struck = refl

known_stays : (phase : Phase) (struck : Bool) → known_after true struck phase ≡ true
known_stays Phase.MessageOut struck = refl
known_stays _ struck = refl

pub told_before : (w : Hearing) (l : Plan) (i : Instructions) → i.known ≡ true → instructions_on w l i ≡ i
told_before w l i e = λ j. if e j then i else instructions_with w l i

pub known_turned : (w : Hearing) (l : Plan) (i : Instructions) (phase : Phase) → w.begun ≡ true
    → changes_phase w.change ≡ true → is_command w.change.before ≡ is_command_phase phase
    → (instructions_on w l i).known ≡ known_after i.known l.struck phase
known_turned w l i phase b ep ec = go i.known refl
  where
    go : (q : Bool) → i.known ≡ q → (if q then i else instructions_with w l i).known ≡ known_after q l.struck phase
    go true e = e ∙ sym (known_stays phase l.struck)
    go false e = (λ j. b j && ep j && ec j && not l.struck) ∙ sym (known_is phase l.struck)

opens_in : (phase : Phase) (cause : Cause) → is_opening_in phase cause ≡ (is_out_phase phase && is_selected cause)
opens_in Phase.MessageOut cause = refl
opens_in _ cause = refl

pub opening_turned : (w : Hearing) (l : Plan) (i : Instructions) (phase : Phase) → w.begun ≡ true
    → changes_phase w.change ≡ true → is_message_out w.change.before ≡ is_out_phase phase → i.known ≡ false
    → (instructions_on w l i).opening ≡ (if is_opening_in phase l.cause then Some l.said else i.opening)
opening_turned w l i phase b ep eo e =
    (λ j. (if e j then i else instructions_with w l i).opening)
    ∙ (λ j. if b j && ep j && eo j && is_selected l.cause then Some l.said else i.opening)
    ∙ ap (λ (q : Bool). if q then Some l.said else i.opening) (sym (opens_in phase l.cause))

pub block_turned : (w : Hearing) (l : Plan) (i : Instructions) → changes_phase w.change ≡ true → i.known ≡ false
    → (instructions_on w l i).block ≡ (if is_command w.change.after then [] else i.block)
block_turned w l i ep e = (λ j. (if e j then i else instructions_with w l i).block)
    ∙ (λ j. if ep j then (if is_command w.change.after then [] else i.block)
    else if w.crosses && is_command w.change.before then i.block ++ w.change.after.data_bits % 256 ∷ [] else i.block)

-- ---- the phase that begins

pub enters_known : (known : Bool) (next : Next) (q : Plan) (phase : Phase) → is_out_phase phase ≡ false → q.next ≡ next
    → FitsPhase known next (Some phase) → KnownIn known q phase
enters_known known next q Phase.MessageOut o en h = wrong o
enters_known known next q Phase.MessageIn o en h = subst (λ (x : Next). KnownNext known x) (sym en) h
enters_known known next q Phase.Status o en h = tt
enters_known known next q _ o en h = h

pub refused_known : (b : LineSet) (known after : Bool) (l q : Plan) → (b.msg ≡ true → b.cd ≡ true) → q.next ≡ l.next
    → q.cause ≡ cause_after b → after ≡ known_after known l.struck (phase_of b) → KnownIn known l (phase_of b)
    → KnownFor after q.next q.cause
refused_known b known after l q lines en ec ea h =
    subst (λ (c : Cause). KnownFor after q.next c) (sym ec) (go b.msg b.cd b.io lines ea h)
  where
    go : (m d i : Bool) → (m ≡ true → d ≡ true)
        → after ≡ known_after known l.struck (if m then (if i then Phase.MessageIn else Phase.MessageOut)
        else if d then (if i then Phase.Status else Phase.Command) else if i then Phase.DataIn else Phase.DataOut)
        → KnownIn known l (if m then (if i then Phase.MessageIn else Phase.MessageOut)
        else if d then (if i then Phase.Status else Phase.Command) else if i then Phase.DataIn else Phase.DataOut)
        → KnownFor after q.next (if m && d && i then Cause.InMessage else if d then Cause.InStatus else Cause.InData)
    go true true true z e x =
        subst (λ (r : Bool). KnownNext r q.next) (sym e) (subst (λ (y : Next). KnownNext known y) (sym en) x)
    go true true false z e x = tt
    go true false i z e x = wrong' (z refl)
    go false true true z e x = tt
    go false true false z e x = tt
    go false false true z e x = e ∙ x
    go false false false z e x = e ∙ x
