-- Outside the message phases no message is heard half.
use Rattle.book_laws.proofs
use proofs.Names.{ℕ, ◌≡◌, Bool, true, false, not, ◌&&◌, ◌∙◌, Option, None, refl, sym, ap, subst, inl, inr, cases_Bool}
use proofs.Names.{if◌then◌else◌, is_some, ◌%◌, LineSet, changes_phase, is_command, is_message_out, is_message_in}
use proofs.Names.{receiver_in, Row, Change, Connection, opened, dialogue_after, byte_out, byte_in, byte_else}
use proofs.Names.{heard_with_command, Dialogue, ScenarioValue, row_reading, agreement_in, RunState, bus_of}
use proofs.Names.{run_state_after, IsQuietBy, IsQuiet, RowKind, still, strikes, crosses, turns, IsRowIn, IsFirstRow}
use proofs.Common.InConnection.{dialogue_by, InConnection, in_connection, same_phase_is}

quiet_as : (d d' : Dialogue) (b b' : LineSet) → d ≡ d' → b ≡ b' → IsQuietBy d' b' → IsQuietBy d b
quiet_as d d' b b' ed eb h =
    subst (λ (z : Dialogue). IsQuietBy z b) (sym ed) (subst (λ (z : LineSet). IsQuietBy d' z) (sym eb) h)

pub quiet_first : (s : ScenarioValue) (k : RunState) (row : Row) (n : Connection) → IsFirstRow k row n
    → IsQuiet (run_state_after s k row)
quiet_first s k row n h = quiet_as (run_state_after s k row).story.bus_state.dialogue
    (opened (agreement_in k.story.bus_state.agreed n.initiator n.target)) (bus_of (run_state_after s k row))
    (bus_of (run_state_after s k row)) (λ i. dialogue_after k.story.bus_state.dialogue (h.connection_is i) (h.next_is i)
    (λ j u. agreement_in k.story.bus_state.agreed j u) (row_reading k.story.bus_state row).change) refl (λ o z. refl)

else_half : (d : Dialogue) (b : LineSet) (byte : ℕ) → (byte_else d b byte).half ≡ d.half
else_half d b byte = elim (cases_Bool (is_command b)) [ inl e ↦ rw e | inr e ↦ rw e ]

pub quiet_on : (s : ScenarioValue) (k : RunState) (row : Row) (n : Connection) (c : Change) → IsRowIn k row n c
    → IsQuiet k → IsQuiet (run_state_after s k row)
quiet_on s k row n c r h = go r.kind
  where
    was : IsQuietBy k.story.bus_state.dialogue c.before
    was = subst (λ (z : LineSet). IsQuietBy k.story.bus_state.dialogue z) r.bus_is h

    to : (phase now fault : Bool) → InConnection s k row n c phase now fault
        → IsQuietBy (dialogue_by phase now c k.story.bus_state.dialogue) c.after → IsQuiet (run_state_after s k row)
    to phase now fault i = quiet_as (run_state_after s k row).story.bus_state.dialogue
        (dialogue_by phase now c k.story.bus_state.dialogue)
        (bus_of (run_state_after s k row)) c.after i.dialogue_is i.bus_is

    none_crosses : receiver_in n c ≡ None → is_some (receiver_in n c) ≡ false
    none_crosses e = ap (λ (z : Option ℕ). is_some z) e

    before_out : changes_phase c ≡ false → is_message_out c.after ≡ false → is_message_out c.before ≡ false
    before_out e o = let same = same_phase_is c e in (λ i. sym same.msg i && sym same.cd i && not (sym same.io i)) ∙ o

    before_in : changes_phase c ≡ false → is_message_in c.after ≡ false → is_message_in c.before ≡ false
    before_in e o = let same = same_phase_is c e in (λ i. sym same.msg i && sym same.cd i && sym same.io i) ∙ o

    go : RowKind row n c → IsQuiet (run_state_after s k row)
    go (still ef ep er) = to false false false (in_connection s k row n c false false false r ep (none_crosses er) ef)
        (λ o z. was (before_out ep o) (before_in ep z))
    go (strikes ef ep er) = to false false true (in_connection s k row n c false false true r ep (none_crosses er) ef)
        (λ o z. was (before_out ep o) (before_in ep z))
    go (crosses dev ef ep er) = to false true false
        (in_connection s k row n c false true false r ep (ap (λ (z : Option ℕ). is_some z) er) ef) (λ o z.
        (λ i. (if before_out ep o i then byte_out k.story.bus_state.dialogue (c.after.data_bits % 256) (not c.after.atn)
        else if before_in ep z i then byte_in k.story.bus_state.dialogue (c.after.data_bits % 256)
        else byte_else k.story.bus_state.dialogue c.before (c.after.data_bits % 256)).half)
        ∙ else_half k.story.bus_state.dialogue c.before (c.after.data_bits % 256)
        ∙ was (before_out ep o) (before_in ep z))
    go (turns ef ep er) =
        to true false false (in_connection s k row n c true false false r ep (none_crosses er) ef) (λ o z. refl)
