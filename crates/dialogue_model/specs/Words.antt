-- What the two ends of a connection say (6.6).
use Rattle.std.specs.Prelude.{ℕ, max, min, Bool, true, false, not, ◌&&◌, ◌==◌, List, [], ◌++◌, Option, Some, None}
use Rattle.std.specs.Prelude.{nat_lt, if◌then◌else◌}
use Rattle.scenario.specs.bus_base.specs.declared.AbortKind.{AbortKind}
use Rattle.scenario.specs.bus_base.specs.declared.AbortKind.TheVariants as aborts
use Rattle.story_model.specs.bus_trace.specs.declared.agreements.TheConstants.{UNLIMITED_OFFSET}
use Rattle.story_model.specs.bus_trace.specs.declared.agreements.Agreement.{Agreement}
use Rattle.story_model.specs.msg_grammar.specs.declared.message.MsgOut.TheVariants as to_target
use Rattle.story_model.specs.msg_grammar.specs.declared.message.MsgIn.{MsgIn}
use Rattle.story_model.specs.msg_grammar.specs.declared.message.MsgIn.TheVariants as to_initiator
use Rattle.dialogue_model.specs.declared.exchange.Messages.{Messages}
use Rattle.story_model.specs.msg_grammar.specs.Messages.{out_bytes}
use Rattle.scenario.specs.declared.value.HostDef.{HostDef}
use Rattle.scenario.specs.declared.value.TargetDef.{TargetDef}
use Rattle.scenario.specs.declared.value.AbortDef.{AbortDef}
use Rattle.scenario.specs.declared.value.Tag.{Tag}
use Rattle.scenario.specs.declared.value.Tag.TheVariants as tags
use Rattle.story_model.specs.array_model.specs.Processes.{Process}

-- ---- synchronous data transfer requests (6.6.21)

-- The answer to a request has the larger period and the smaller offset; one that has no period of its own answers
-- with offset 0.
abbrev pub agreement_answer : ℕ → ℕ → Agreement → Agreement
agreement_answer period offset heard =
    if period == 0 then record { period = heard.period; offset = 0 }
    else record { period = max period heard.period; offset = min offset heard.offset }

abbrev pub host_answer : Option HostDef → Agreement → Agreement
host_answer None heard = agreement_answer 0 0 heard
host_answer (Some h) heard = agreement_answer h.period h.offset heard

abbrev pub target_answer : Option TargetDef → Agreement → Agreement
target_answer None heard = agreement_answer 0 0 heard
target_answer (Some t) heard = agreement_answer t.period t.offset heard

-- ---- the initiator

abbrev pub offer_by : Option HostDef → List ℕ
offer_by None = []
offer_by (Some h) =
    if h.offers && nat_lt 0 h.period then out_bytes (to_target.Sdtr (record { period = h.period; offset = h.offset }))
    else []

abbrev pub offer_if : Bool → Option HostDef → List ℕ
offer_if true h = offer_by h
offer_if false h = []

abbrev pub tag_bytes : Tag → List ℕ
tag_bytes tags.Untagged = []
tag_bytes (tags.Simple n) = out_bytes (to_target.SimpleTag n)
tag_bytes (tags.Ordered n) = out_bytes (to_target.OrderedTag n)
tag_bytes (tags.Head n) = out_bytes (to_target.HeadTag n)

abbrev pub abort_bytes : AbortKind → List ℕ
abort_bytes aborts.All = out_bytes to_target.Abort
abort_bytes (aborts.Tag n) = out_bytes (to_target.SimpleTag n) ++ out_bytes to_target.AbortTag
abort_bytes aborts.WholeQueue = out_bytes to_target.ClearQueue
abort_bytes aborts.Device = out_bytes to_target.DeviceReset

-- After a selection: IDENTIFY, with the disconnect privilege for a command of its own, its tag, and an offer where
-- synchronous transfer may be negotiated; or IDENTIFY and an abort message.
abbrev pub process_opening : Option HostDef → Bool → Option Process → List ℕ
process_opening h negotiates None = []
process_opening h negotiates (Some p) =
    out_bytes (to_target.Identify (not p.id.sense) p.unit) ++ (tag_bytes p.tag ++ offer_if negotiates h)

abbrev pub abort_opening : Option AbortDef → List ℕ
abort_opening None = []
abort_opening (Some a) = out_bytes (to_target.Identify false a.unit) ++ abort_bytes a.what

-- After a byte of MESSAGE IN with wrong parity it says MESSAGE PARITY ERROR, after the request of a target its
-- answer, and after DATA IN or STATUS with wrong parity INITIATOR DETECTED ERROR.
abbrev pub parity_error : List ℕ
parity_error = out_bytes to_target.ParityError

abbrev pub detected_error : List ℕ
detected_error = out_bytes to_target.DetectedError

abbrev pub answer_bytes : Option HostDef → Agreement → List ℕ
answer_bytes h asked = out_bytes (to_target.Sdtr (host_answer h asked))

-- ---- the target

-- A reselection names the process: IDENTIFY, and SIMPLE QUEUE TAG for a tagged one.
abbrev pub tag_named : Tag → Option MsgIn
tag_named tags.Untagged = None
tag_named (tags.Simple n) = Some (to_initiator.SimpleTag n)
tag_named (tags.Ordered n) = Some (to_initiator.SimpleTag n)
tag_named (tags.Head n) = Some (to_initiator.SimpleTag n)

abbrev pub naming_messages : Process → Messages
naming_messages p = record { first = Some (to_initiator.Identify p.unit); second = tag_named p.tag }

abbrev pub is_name : MsgIn → Bool
is_name (to_initiator.Identify lun) = true
is_name (to_initiator.SimpleTag n) = true
is_name _ = false

abbrev pub is_naming : Option MsgIn → Bool
is_naming None = false
is_naming (Some m) = is_name m

-- An offer without a limit is rejected.
abbrev pub reply_to : Option TargetDef → Agreement → MsgIn
reply_to t offer =
    if offer.offset == UNLIMITED_OFFSET then to_initiator.Reject else to_initiator.Sdtr (target_answer t offer)

abbrev pub request_by : Option TargetDef → Option MsgIn
request_by None = None
request_by (Some t) =
    if t.begins && nat_lt 0 t.period then Some (to_initiator.Sdtr (record { period = t.period; offset = t.offset }))
    else None
