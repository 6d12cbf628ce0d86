-- The numbers that the lines of a scenario name in messages are bytes, where it obeys the rules of its text.
use Rattle.row_laws.proofs
use proofs.Names.{ℕ, ◌≡◌, ◌<◌, Some, Ok, sym, ap, subst, ◌∙◌, arith, ◌==◌, ◌||◌, not, nat_le, AbortKind, Number}
use proofs.Names.{bind_ok, ok_is, within_ok, read_tag, read_what, CmdSaid, initiator_line, target_line, abort_line}
use proofs.Names.{Said, has_device, guard, within, in_8, time_in, period_in, policy_in, tag_in, what_in, is_block}
use proofs.Names.{are_ends, has_abort_room, host_def, target_def, cmd_def, abort_def, ScenarioValue, said_tag}
use proofs.Names.{said_what, Obeys, LATENCY_LIMIT, OPEN_LIMIT, RETRY_LIMIT, HOST_OFFSET_LIMIT, TARGET_OFFSET_LIMIT}
use proofs.Names.{SEEK_LIMIT, LAG_LIMIT, FACTOR_LIMIT, LEAST_FACTOR, TAG_LIMIT, AbortDef, CmdDef, HostDef, Tag}
use proofs.{Names.{TargetDef, host_by, target_by, abort_by}, Common.EachLine.{IsOfAll, each_line}}

abbrev pub IsSmall : ℕ → ℕ → Type 0
IsSmall period offset = (period < 256) × (offset < 256)

abbrev pub IsSmallTag : Tag → Type 0
IsSmallTag Tag.Untagged = Unit {0}
IsSmallTag (Tag.Simple n) = n < 256
IsSmallTag (Tag.Ordered n) = n < 256
IsSmallTag (Tag.Head n) = n < 256

abbrev pub IsSmallKind : AbortKind → Type 0
IsSmallKind (AbortKind.Tag n) = n < 256
IsSmallKind _ = Unit {0}

abbrev pub IsSmallHost : HostDef → Type 0
IsSmallHost h = IsSmall h.period h.offset

abbrev pub IsSmallTarget : TargetDef → Type 0
IsSmallTarget t = IsSmall t.period t.offset

abbrev pub IsSmallCommand : CmdDef → Type 0
IsSmallCommand c = (c.unit < 8) × IsSmallTag c.tag

abbrev pub IsSmallAbort : AbortDef → Type 0
IsSmallAbort a = (a.unit < 8) × IsSmallKind a.what

abbrev pub HasSmallLines : ScenarioValue → Type 0
HasSmallLines s = IsOfAll IsSmallHost IsSmallTarget IsSmallCommand IsSmallAbort s

-- ---- numbers

below : (u : Number) (least most m : ℕ) → within u least most ≡ Ok m → most < 256 → m < 256
below u least most m e lt = let w = (within_ok u least most m e).2 in omega arith

in_eight : (u : Number) (m : ℕ) → in_8 u ≡ Ok m → m < 8
in_eight u m e = let w = (within_ok u 0 7 m e).2 in omega arith

period_below : (u : Number) (i : ℕ) → period_in u ≡ Ok i → i < 256
unfolding period_in
period_below u i e =
    let a = bind_ok (within u 0 FACTOR_LIMIT) _ i e in
    let g = bind_ok (guard 4 (a.0 == 0 || nat_le LEAST_FACTOR a.0)) _ i a.2 in
    subst (λ (m : ℕ). m < 256) (ok_is a.0 i g.2) (below u 0 255 a.0 a.1 (omega arith))

tag_below : (t : Tag) → tag_in (said_tag t) ≡ Ok t → IsSmallTag t
unfolding tag_in
tag_below Tag.Untagged e = tt
tag_below (Tag.Simple n) e =
    let a = bind_ok (within (Some n) 0 TAG_LIMIT) _ (Tag.Simple n) e in
    subst IsSmallTag (ok_is _ (Tag.Simple n) a.2) (below (Some n) 0 255 a.0 a.1 (omega arith))
tag_below (Tag.Ordered n) e =
    let a = bind_ok (within (Some n) 0 TAG_LIMIT) _ (Tag.Ordered n) e in
    subst IsSmallTag (ok_is _ (Tag.Ordered n) a.2) (below (Some n) 0 255 a.0 a.1 (omega arith))
tag_below (Tag.Head n) e =
    let a = bind_ok (within (Some n) 0 TAG_LIMIT) _ (Tag.Head n) e in
    subst IsSmallTag (ok_is _ (Tag.Head n) a.2) (below (Some n) 0 255 a.0 a.1 (omega arith))

kind_below : (w : AbortKind) → what_in (said_what w) ≡ Ok w → IsSmallKind w
unfolding what_in
kind_below AbortKind.All e = tt
kind_below (AbortKind.Tag n) e =
    let a = bind_ok (within (Some n) 0 TAG_LIMIT) _ (AbortKind.Tag n) e in
    subst IsSmallKind (ok_is _ (AbortKind.Tag n) a.2) (below (Some n) 0 255 a.0 a.1 (omega arith))
kind_below AbortKind.WholeQueue e = tt
kind_below AbortKind.Device e = tt

-- ---- a line

host_small : (s : ScenarioValue) (x : Said) (h : HostDef) → host_by s x ≡ Ok h → IsSmallHost h
unfolding host_def
host_small s (initiator_line f) h e =
    let b1 = bind_ok (in_8 f.device) _ h e in
    let b2 = bind_ok (within f.latency 0 LATENCY_LIMIT) _ h b1.2 in
    let b3 = bind_ok (within f.«open» 1 OPEN_LIMIT) _ h b2.2 in
    let b4 = bind_ok (within f.retries 0 RETRY_LIMIT) _ h b3.2 in
    let b5 = bind_ok (period_in f.period) _ h b4.2 in
    let b6 = bind_ok (within f.offset 0 HOST_OFFSET_LIMIT) _ h b5.2 in
    let b7 = bind_ok (within f.lag 0 LAG_LIMIT) _ h b6.2 in
    let b8 = bind_ok (guard 5 (not (has_device s b1.0))) _ h b7.2 in
    subst IsSmallHost (ok_is _ h b8.2) (period_below f.period b5.0 b5.1, below f.offset 0 255 b6.0 b6.1 (omega arith))
host_small s _ h e = absurd cc

target_small : (s : ScenarioValue) (x : Said) (t : TargetDef) → target_by s x ≡ Ok t → IsSmallTarget t
unfolding target_def
target_small s (target_line f) t e =
    let b1 = bind_ok (in_8 f.device) _ t e in
    let b2 = bind_ok (within f.latency 0 LATENCY_LIMIT) _ t b1.2 in
    let b3 = bind_ok (within f.retries 0 RETRY_LIMIT) _ t b2.2 in
    let b4 = bind_ok (policy_in f.disc) _ t b3.2 in
    let b5 = bind_ok (within f.seek 0 SEEK_LIMIT) _ t b4.2 in
    let b6 = bind_ok (period_in f.period) _ t b5.2 in
    let b7 = bind_ok (within f.offset 0 TARGET_OFFSET_LIMIT) _ t b6.2 in
    let b8 = bind_ok (guard 5 (not (has_device s b1.0))) _ t b7.2 in
    subst IsSmallTarget (ok_is _ t b8.2) (period_below f.period b6.0 b6.1, below f.offset 0 254 b7.0 b7.1 (omega arith))
target_small s _ t e = absurd cc

command_small : (s : ScenarioValue) (f : CmdSaid) (c : CmdDef) → cmd_def s f ≡ Ok c → IsSmallCommand c
unfolding cmd_def
command_small s f c e =
    let b1 = bind_ok (in_8 f.host) _ c e in
    let b2 = bind_ok (in_8 f.target) _ c b1.2 in
    let b3 = bind_ok (in_8 f.unit) _ c b2.2 in
    let b4 = bind_ok (time_in f.at) _ c b3.2 in
    let b5 = bind_ok (tag_in f.tag) _ c b4.2 in
    let b6 = bind_ok (guard 4 (is_block f.cdb)) _ c b5.2 in
    let b7 = bind_ok (guard 6 (are_ends s b1.0 b2.0)) _ c b6.2 in
    subst IsSmallCommand (ok_is _ c b7.2)
    (in_eight f.unit b3.0 b3.1, tag_below b5.0 (ap tag_in (sym (read_tag f.tag b5.0 b5.1).same) ∙ b5.1))

abort_small : (s : ScenarioValue) (x : Said) (a : AbortDef) → abort_by s x ≡ Ok a → IsSmallAbort a
unfolding abort_def
abort_small s (abort_line f) a e =
    let b1 = bind_ok (in_8 f.host) _ a e in
    let b2 = bind_ok (in_8 f.target) _ a b1.2 in
    let b3 = bind_ok (in_8 f.unit) _ a b2.2 in
    let b4 = bind_ok (time_in f.at) _ a b3.2 in
    let b5 = bind_ok (what_in f.what) _ a b4.2 in
    let b6 = bind_ok (guard 6 (are_ends s b1.0 b2.0)) _ a b5.2 in
    let b7 = bind_ok (guard 8 (has_abort_room s)) _ a b6.2 in
    subst IsSmallAbort (ok_is _ a b7.2)
    (in_eight f.unit b3.0 b3.1, kind_below b5.0 (ap what_in (sym (read_what f.what b5.0 b5.1).same) ∙ b5.1))
abort_small s _ a e = absurd cc

-- ---- all lines

pub small_lines : (s : ScenarioValue) → Obeys s → HasSmallLines s
small_lines s o = each_line IsSmallHost IsSmallTarget IsSmallCommand IsSmallAbort
    (record { host = host_small; target = target_small; command = command_small; abort = abort_small }) s o
