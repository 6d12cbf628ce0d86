-- What BUS FREE means after the parts of a connection: the last message among them tells it (6.1.1, 6.6).
use Rattle.transcript_laws.proofs
use proofs.Names.{ℕ, ◌≡◌, ◌∙◌, Bool, true, false, not, ◌&&◌, List, [], ◌∷◌, ◌++◌, Option, Some, None, refl, ap, ◌||◌}
use proofs.Names.{append-nil, if◌then◌else◌, wrong, wrong', and_first, and_second, LineSet, is_command, is_data}
use proofs.Names.{is_message_in, Connection, MsgIn, MsgOut, is_nil, LastMessage, plain, complete, disconnect, abortive}
use proofs.Names.{last_in, no_summary, summary_out, summary_in, summary_after, summary_of, OpenedValue, held_part}
use proofs.Names.{data_parts, phase_parts, Incoming, Broken, Part, Loss, Leave, Abortion, Summary, is_talk, out_parts}
use proofs.{Names.{parts_now, summary_by, closing_parts}, Parts.Lists.{over_parts}, Said.Naming.{is_tame, are_tame}}
use Rattle.bus_transcript.specs.declared.part.Incoming.TheVariants.{Whole}
use Rattle.due_model.specs.msg_grammar.specs.Grammar.{is_abort}

-- ---- messages that tell that the connection ends

abbrev pub ends_told : LastMessage → Bool
ends_told complete = true
ends_told disconnect = true
ends_told plain = false
ends_told abortive = false

-- What the message that is held tells of it.
abbrev pub last_held : Option Incoming → LastMessage
last_held (Some (Whole m)) = last_in m
last_held _ = plain

-- ---- parts that are no messages

abbrev pub are_silent : List Part → Bool
are_silent [] = true
are_silent (part ∷ parts) = not (is_talk part) && are_silent parts

pub silent_more : (xs ys : List Part) → are_silent xs ≡ true → are_silent ys ≡ true → are_silent (xs ++ ys) ≡ true
silent_more [] ys e f = f
silent_more (x ∷ xs) ys e f = λ i. and_first (not (is_talk x)) (are_silent xs) e i
    && silent_more xs ys (and_second (not (is_talk x)) (are_silent xs) e) f i

-- ---- the last message

pub summary_more : (again : Bool) (xs ys : List Part) (a : Summary)
    → summary_of again a (xs ++ ys) ≡ summary_of again (summary_of again a xs) ys
summary_more again [] ys a = refl
summary_more again (x ∷ xs) ys a = summary_more again xs ys (summary_after again a x)

silent_departure : (again : Bool) (parts : List Part) (a : Summary) → are_silent parts ≡ true
    → (summary_of again a parts).departure ≡ a.departure
silent_departure again [] a e = refl
silent_departure again (Part.Out m ∷ parts) a e = wrong' e
silent_departure again (Part.In m ∷ parts) a e = wrong' e
silent_departure again (Part.BrokenOff ∷ parts) a e = wrong' e
silent_departure again (Part.Command bytes struck left ∷ parts) a e = silent_departure again parts a e
silent_departure again (Part.Data out bytes ∷ parts) a e = silent_departure again parts a e
silent_departure again (Part.StatusPhase ∷ parts) a e = silent_departure again parts a e
silent_departure again (Part.Status byte ∷ parts) a e = silent_departure again parts a e
silent_departure again (Part.Completion ∷ parts) a e = silent_departure again parts a e

held_departure : (again : Bool) (parts since : List Part) (m : MsgIn) → are_silent since ≡ true
    → (summary_of again no_summary (parts ++ (Part.In m ∷ since))).departure
    ≡ (summary_in again (summary_of again no_summary parts) m).departure
held_departure again parts since m e =
    ap (λ (u : Summary). u.departure) (summary_more again parts (Part.In m ∷ since) no_summary)
    ∙ silent_departure again since (summary_in again (summary_of again no_summary parts) m) e

-- COMMAND COMPLETE and DISCONNECT, where no message came after it.
pub leave_departure : (n : Connection) (parts since : List Part) (held : Option Incoming)
    → ends_told (last_held held) ≡ true → are_silent since ≡ true
    → (summary_by n (parts ++ (held_part held ++ since))).departure ≡ Leave
leave_departure n parts since None e f = wrong' e
leave_departure n parts since (Some Broken) e f = wrong' e
leave_departure n parts since (Some (Whole MsgIn.CommandComplete)) e f =
    held_departure n.reselected parts since MsgIn.CommandComplete f
leave_departure n parts since (Some (Whole MsgIn.Disconnect)) e f =
    held_departure n.reselected parts since MsgIn.Disconnect f
leave_departure n parts since (Some (Whole MsgIn.SavePointer)) e f = wrong' e
leave_departure n parts since (Some (Whole MsgIn.RestorePointers)) e f = wrong' e
leave_departure n parts since (Some (Whole (MsgIn.Identify lun))) e f = wrong' e
leave_departure n parts since (Some (Whole (MsgIn.SimpleTag tag))) e f = wrong' e
leave_departure n parts since (Some (Whole (MsgIn.Sdtr a))) e f = wrong' e
leave_departure n parts since (Some (Whole MsgIn.Reject)) e f = wrong' e

-- A message of the initiator that is no abort.
tame_loss : (again : Bool) (a : Summary) (m : MsgOut) → is_tame m ≡ true → (summary_out again a m).departure ≡ Loss
tame_loss again a m e = go (is_abort m) e
  where
    go : (q : Bool) → not q ≡ true → (if q then Abortion else Loss) ≡ Loss
    go true z = wrong' z
    go false z = refl

loss_stays : (again : Bool) (said : List MsgOut) (a : Summary) → are_tame said ≡ true → a.departure ≡ Loss
    → (summary_of again a (out_parts said)).departure ≡ Loss
loss_stays again [] a e f = f
loss_stays again (m ∷ said) a e f = loss_stays again said (summary_out again a m)
    (and_second (is_tame m) (are_tame said) e) (tame_loss again a m (and_first (is_tame m) (are_tame said) e))

pub loss_departure : (n : Connection) (parts : List Part) (said : List MsgOut) → are_tame said ≡ true
    → (said ≡ [] → ⊥) → (summary_by n (parts ++ out_parts said)).departure ≡ Loss
loss_departure n parts [] e some = absurd (some refl)
loss_departure n parts (m ∷ said) e some =
    ap (λ (u : Summary). u.departure) (summary_more n.reselected parts (out_parts (m ∷ said)) no_summary)
    ∙ loss_stays n.reselected said (summary_out n.reselected (summary_of n.reselected no_summary parts) m)
    (and_second (is_tame m) (are_tame said) e)
    (tame_loss n.reselected (summary_of n.reselected no_summary parts) m (and_first (is_tame m) (are_tame said) e))

-- ---- a connection that ends in a message phase, with no message half heard

no_phase : (o : OpenedValue) (b : LineSet) → (is_command b || is_data b) ≡ false → phase_parts o b false ≡ []
no_phase o b z = by (is_command b) (is_data b) z
  where
    by : (x y : Bool) → (x || y) ≡ false
        → (if x then Part.Command o.bytes o.struck false ∷ [] else if y then data_parts (not b.io) o.bytes else []) ≡ []
    by true y w = wrong w
    by false true w = wrong w
    by false false w = refl

pub closing_now : (o : OpenedValue) (b : LineSet) (half : List ℕ) → (is_command b || is_data b) ≡ false
    → (is_message_in b && not (is_nil half)) ≡ false → closing_parts o b half ≡ parts_now o
closing_now o b half x y =
    over_parts o b half false
    ∙ (λ i. (parts_now o ++ (if y i then Part.BrokenOff ∷ [] else [])) ++ no_phase o b x i)
    ∙ append-nil (parts_now o ++ []) ∙ append-nil (parts_now o)
