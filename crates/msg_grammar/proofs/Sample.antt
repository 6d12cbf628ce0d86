-- The definitions, computed: each message by its bytes (ANSI X3.131-1994, 6.6), and some that are none.
use Rattle.std.proofs.Common.{◌≡◌, ℕ, true, false, List, [], ◌∷◌, Some, None, refl}
use Rattle.std.specs.Prelude.{map}
use Rattle.bus_trace.specs.declared.agreements.Agreement.{Agreement}
use Rattle.msg_grammar.specs.declared.message.Got.TheVariants.{Whole, More, Unknown}
use Rattle.msg_grammar.specs.declared.message.MsgOut.TheVariants as to_target
use Rattle.msg_grammar.specs.declared.message.MsgIn.TheVariants as to_initiator
use Rattle.msg_grammar.specs.Messages.{form_out, form_in, msg_out_of, got_out, msg_in_of, got_in}

offer : Agreement
offer = record { period = 0x32; offset = 0x08 }

-- first bytes alone
alone_out : map (λ b. msg_out_of (b ∷ []))
    (0x05 ∷ 0x06 ∷ 0x07 ∷ 0x08 ∷ 0x09 ∷ 0x0c ∷ 0x0d ∷ 0x0e ∷ 0x80 ∷ 0x87 ∷ 0xc0 ∷ 0xc7 ∷ [])
    ≡ map Some (to_target.DetectedError ∷ to_target.Abort ∷ to_target.Reject ∷ to_target.Nop ∷ to_target.ParityError
    ∷ to_target.DeviceReset ∷ to_target.AbortTag ∷ to_target.ClearQueue ∷ to_target.Identify false 0
    ∷ to_target.Identify false 7 ∷ to_target.Identify true 0 ∷ to_target.Identify true 7 ∷ [])
unfolding form_out
alone_out = refl

none_out : map (λ b. got_out (b ∷ 0x03 ∷ 0x01 ∷ 0x32 ∷ 0x08 ∷ []))
    (0x00 ∷ 0x02 ∷ 0x03 ∷ 0x04 ∷ 0x0a ∷ 0x0b ∷ 0x0f ∷ 0x1f ∷ 0x23 ∷ 0x7f ∷ 0x88 ∷ 0xbf ∷ 0xc8 ∷ 0xff ∷ [])
    ≡ Unknown ∷ Unknown ∷ Unknown ∷ Unknown ∷ Unknown ∷ Unknown ∷ Unknown ∷ Unknown ∷ Unknown ∷ Unknown ∷ Unknown
    ∷ Unknown ∷ Unknown ∷ Unknown ∷ []
unfolding form_out
none_out = refl

alone_in : map (λ b. msg_in_of (b ∷ [])) (0x00 ∷ 0x02 ∷ 0x03 ∷ 0x04 ∷ 0x07 ∷ 0x80 ∷ 0x87 ∷ [])
    ≡ map Some (to_initiator.CommandComplete ∷ to_initiator.SavePointer ∷ to_initiator.RestorePointers
    ∷ to_initiator.Disconnect ∷ to_initiator.Reject ∷ to_initiator.Identify 0 ∷ to_initiator.Identify 7 ∷ [])
unfolding form_in
alone_in = refl

none_in : map (λ b. got_in (b ∷ 0x03 ∷ 0x01 ∷ 0x32 ∷ 0x08 ∷ []))
    (0x05 ∷ 0x06 ∷ 0x08 ∷ 0x0e ∷ 0x21 ∷ 0x22 ∷ 0x23 ∷ 0x7f ∷ 0x88 ∷ 0xc0 ∷ 0xff ∷ [])
    ≡ Unknown ∷ Unknown ∷ Unknown ∷ Unknown ∷ Unknown ∷ Unknown ∷ Unknown ∷ Unknown ∷ Unknown ∷ Unknown ∷ Unknown ∷ []
unfolding form_in
none_in = refl

-- queue tags
tags_out : map (λ b. got_out (b ∷ 0x09 ∷ 0x01 ∷ [])) (0x20 ∷ 0x21 ∷ 0x22 ∷ [])
    ≡ Whole (to_target.SimpleTag 9) 2 ∷ Whole (to_target.HeadTag 9) 2 ∷ Whole (to_target.OrderedTag 9) 2 ∷ []
unfolding form_out
tags_out = refl

tag_in : got_in (0x20 ∷ 0x09 ∷ []) ≡ Whole (to_initiator.SimpleTag 9) 2
unfolding form_in
tag_in = refl

-- a synchronous data transfer request, byte by byte
fronts : List (List ℕ)
fronts = [] ∷ (0x01 ∷ []) ∷ (0x01 ∷ 0x03 ∷ []) ∷ (0x01 ∷ 0x03 ∷ 0x01 ∷ []) ∷ (0x01 ∷ 0x03 ∷ 0x01 ∷ 0x32 ∷ [])
    ∷ (0x01 ∷ 0x03 ∷ 0x01 ∷ 0x32 ∷ 0x08 ∷ []) ∷ (0x01 ∷ 0x02 ∷ []) ∷ (0x01 ∷ 0x03 ∷ 0x03 ∷ []) ∷ []

request_out : map got_out fronts
    ≡ More ∷ More ∷ More ∷ More ∷ More ∷ Whole (to_target.Sdtr offer) 5 ∷ Unknown ∷ Unknown ∷ []
unfolding fronts offer form_out
request_out = refl

request_in : map got_in fronts
    ≡ More ∷ More ∷ More ∷ More ∷ More ∷ Whole (to_initiator.Sdtr offer) 5 ∷ Unknown ∷ Unknown ∷ []
unfolding fronts offer form_in
request_in = refl

whole_out : map msg_out_of fronts ≡ None ∷ None ∷ None ∷ None ∷ None ∷ Some (to_target.Sdtr offer) ∷ None ∷ None ∷ []
unfolding fronts offer form_out
whole_out = refl
