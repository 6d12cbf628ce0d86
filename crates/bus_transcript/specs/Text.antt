-- The text of a transcript: a line for each item.
use Rattle.std.specs.Prelude.{ℕ, ◌%◌, Bool, true, false, List, [], ◌∷◌, ◌++◌, Option, Some, None, codes, decimal}
use Rattle.std.specs.List.{flat_map}
use Rattle.text_words.specs.Spelling.{byte_text, hex_text}
use Rattle.text_pages.specs.AbortText.{abort_text}
use Rattle.msg_grammar.specs.declared.message.MsgOut.{MsgOut}
use Rattle.msg_grammar.specs.declared.message.MsgOut.TheVariants as to_target
use Rattle.msg_grammar.specs.declared.message.MsgIn.{MsgIn}
use Rattle.msg_grammar.specs.declared.message.MsgIn.TheVariants as to_initiator
use Rattle.msg_grammar.specs.Messages.{out_bytes, in_bytes}
use Rattle.bus_transcript.specs.declared.item.Name.{Name}
use Rattle.bus_transcript.specs.declared.item.Item.{Item}
use Rattle.bus_transcript.specs.declared.item.Item.TheVariants as items

-- The unit of an IDENTIFY has three bits.
abbrev pub fitted_out : MsgOut → MsgOut
fitted_out (to_target.Identify disc lun) = to_target.Identify disc (lun % 8)
fitted_out m = m

abbrev pub fitted_in : MsgIn → MsgIn
fitted_in (to_initiator.Identify lun) = to_initiator.Identify (lun % 8)
fitted_in m = m

-- a number, or `-` for none
abbrev pub number_or_dash : Option ℕ → List ℕ
number_or_dash None = 45 ∷ []
number_or_dash (Some n) = decimal n

-- initiator, target, unit, tag and number, with points between them
abbrev pub name_text : Name → List ℕ
name_text name = decimal name.initiator ++ (46 ∷ [] ++ (decimal name.target ++ (46 ∷ []
    ++ (number_or_dash name.unit ++ (46 ∷ [] ++ (number_or_dash name.tag ++ (46 ∷ [] ++ decimal name.number)))))))

-- how a connection began: by selection or by reselection
abbrev pub beginning_text : Bool → List ℕ
beginning_text false = codes " first"
beginning_text true = codes " again"

-- a status byte, or `none`
abbrev pub status_text : Option ℕ → List ℕ
status_text None = codes "none"
status_text (Some byte) = byte_text byte

abbrev pub data_word : Bool → List ℕ
data_word true = codes "dataout "
data_word false = codes "datain "

abbrev pub item_words : Item → List ℕ
item_words (items.Connect at name again) =
    codes "connect " ++ (decimal at ++ (32 ∷ [] ++ (name_text name ++ beginning_text again)))
item_words (items.Unanswered at caller called) =
    codes "unanswered " ++ (decimal at ++ (32 ∷ [] ++ (decimal caller ++ (32 ∷ [] ++ decimal called))))
item_words (items.Out m) = codes "out " ++ hex_text (out_bytes (fitted_out m))
item_words (items.In m) = codes "in " ++ hex_text (in_bytes (fitted_in m))
item_words (items.Cdb bytes) = codes "command " ++ hex_text bytes
item_words (items.Payload out at bytes) = data_word out ++ (decimal at ++ (32 ∷ [] ++ hex_text bytes))
item_words (items.Status byte) = codes "status " ++ byte_text byte
item_words (items.Arrive name) = codes "arrive " ++ name_text name
item_words (items.Ready name) = codes "ready " ++ name_text name
item_words (items.End name status) = codes "end " ++ (name_text name ++ (32 ∷ [] ++ status_text status))
item_words (items.Lost name) = codes "lost " ++ name_text name
item_words (items.Abort initiator target unit kind) = codes "abort " ++ (decimal initiator
    ++ (32 ∷ [] ++ (decimal target ++ (32 ∷ [] ++ (number_or_dash unit ++ (32 ∷ [] ++ abort_text kind))))))
item_words (items.Reset dev) = codes "reset " ++ decimal dev
item_words (items.Free at) = codes "free " ++ decimal at

-- its words and a line feed
abbrev pub item_text : Item → List ℕ
item_text item = item_words item ++ 10 ∷ []

-- these items, the oldest first
abbrev pub transcript_text : List Item → List ℕ
transcript_text list = codes "transcript 1\n" ++ (flat_map item_text list ++ codes "done\n")
