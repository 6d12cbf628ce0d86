-- What is made obeys the rules of a text.
use Rattle.std.proofs.Common.{◌≡◌, ℕ, zero, suc, ◌+◌, ◌-◌, ◌*◌, ◌/◌, ◌%◌, ◌<◌, ◌≤◌, Bool, true, false, ◌&&◌, List, []}
use Rattle.std.proofs.Common.{◌∷◌, ◌++◌, length, map, Some, Result, Ok, Err, refl, ap, ◌∙◌, arith, length-append}
use Rattle.std.specs.Prelude.{not, nat_lt, nat_le, ◌==◌, codes, decimal, if◌then◌else◌}
use Rattle.std.specs.List.{flat_map, list_any, find, AllByRecursion}
use Rattle.std.specs.Fmt.{digits}
use Rattle.std.proofs.lemmas.Bool.{lt-ltb}
use Rattle.std.proofs.lemmas.Bool.Decides.{nat_tests}
use Rattle.std.proofs.lemmas.List.{map-append, append-nil}
use Rattle.std.proofs.lemmas.Fmt.{length-decimal-le}
use Rattle.std.proofs.lemmas.Grind.{flat_map-append}
use Rattle.cdb_codec.specs.declared.command.Command.{Command}
use Rattle.cdb_codec.specs.declared.command.Command.TheVariants.{Read6, Write6}
use Rattle.cdb_codec.specs.declared.command.CdbFault.{CdbFault}
use Rattle.cdb_codec.specs.Cdb.{cdb_bytes, command_of}
use Rattle.cdb_codec.specs.Blocks.{blocks_of_6}
use Rattle.text_words.specs.Spelling.{hex_text}
use Rattle.scenario.specs.declared.bounds.TheConstants.{LIMIT, COMMAND_LIMIT, NEED_LIMIT, NEEDS_LIMIT}
use Rattle.scenario.specs.declared.value.HostDef.{HostDef}
use Rattle.scenario.specs.declared.value.TargetDef.{TargetDef}
use Rattle.scenario.specs.declared.value.UnitDef.{UnitDef}
use Rattle.scenario.specs.declared.value.CmdDef.{CmdDef}
use Rattle.scenario.specs.declared.value.Tag.TheVariants as tags
use Rattle.scenario.specs.declared.value.Payload.{Payload}
use Rattle.scenario.specs.declared.kind.Kind.{Kind}
use Rattle.scenario.specs.declared.kind.Kind.TheVariants as kinds
use Rattle.scenario.specs.Needs.{block_bytes, moved, moved_by, need_of, is_write, sent_of}
use Rattle.scenario.specs.Forms.{Said, scsi_line, end_line}
use Rattle.scenario.specs.Reading.{Progress, ◌>>=◌, guard, within, in_8, period_in, size_in, policy_in, tag_in}
use Rattle.scenario.specs.Reading.{host_def, target_def, unit_def, is_block, are_ends, payload_of, cmd_def, is_payload}
use Rattle.scenario.specs.Reading.{has_room, full_cmd_def, rank, in_order, added, said_after, nothing}
use Rattle.scenario.specs.Writing.{said_payload, cmd_form, said_host, said_target, said_unit, said_cmd, said_line}
use Rattle.scenario.specs.Writing.{payload_text, cmd_tag_text, cmd_text, saids, text_of, built, told_scenario, IsHex}
use Rattle.scenario.specs.Writing.{IsHexPayload, Obeys, host_sync_text, initiator_text, target_seek_text}
use Rattle.scenario.specs.Writing.{target_disc_text, target_text, unit_text}
use Rattle.scenario.specs.Making.{made_hosts, made_targets, made_unit, made_units, spread, is_writing, transfer, sent}
use Rattle.scenario.specs.Making.{command_at, made_command, made_commands, made}
use Rattle.scenario.proofs.Obeying.{built-append}
use Rattle.bus_base.proofs.Tests.{all_with}

-- ---- a command

spread_small : (seed c : ℕ) → spread seed c < 1024
spread_small seed c = omega arith

cdb_again : (w : Bool) (c q : ℕ) → q < 1024 → command_of (cdb_bytes (transfer w c q)) ≡ Ok (transfer w c q)
cdb_again true c q h =
    let e : q / 65536 % 32 * 65536 + q / 256 % 256 * 256 + q % 256 ≡ q = omega arith in
    ap (λ (l : ℕ). let r : Result Command CdbFault = Ok (Write6 l (1 + c % 2)) in r) e
cdb_again false c q h =
    let e : q / 65536 % 32 * 65536 + q / 256 % 256 * 256 + q % 256 ≡ q = omega arith in
    ap (λ (l : ℕ). let r : Result Command CdbFault = Ok (Read6 l (1 + c % 2)) in r) e

few : (c : ℕ) → blocks_of_6 (1 + c % 2) ≡ 1 + c % 2
few c =
    let some : ((1 + c % 2) == 0) ≡ false = grind (arith, nat_tests) in
    ap (λ (b : Bool). if b then 256 else 1 + c % 2) some

blocks_made : (t c q : ℕ) → q < 1024 → block_bytes (Some (made_unit t)) q (blocks_of_6 (1 + c % 2)) ≡ (1 + c % 2) * 128
blocks_made t c q h =
    let within : nat_le (q + (1 + c % 2)) 2048 ≡ true = grind (arith, nat_tests) in
    ap (λ (n : ℕ). block_bytes (Some (made_unit t)) q n) (few c)
    ∙ ap (λ (b : Bool). if b then (1 + c % 2) * 128 else 0) within

moved_made : (w : Bool) (t c q : ℕ) → q < 1024 → moved (transfer w c q) (Some (made_unit t)) ≡ (1 + c % 2) * 128
moved_made true t c q h = blocks_made t c q h
moved_made false t c q h = blocks_made t c q h

-- ---- what stands on the bus

record IsKnown (t : ℕ) : Type 0 where
  target : list_any (λ (d : TargetDef). d.dev == t) made_targets ≡ true
  unit : find (λ (u : UnitDef). u.target == t && u.unit == 0) made_units ≡ Some (made_unit t)
  host : list_any (λ (h : HostDef). h.dev == t) made_hosts ≡ false

known : (t : ℕ) → t < 3 → IsKnown t
known zero h = record { target = refl; unit = refl; host = refl }
known (suc zero) h = record { target = refl; unit = refl; host = refl }
known (suc (suc zero)) h = record { target = refl; unit = refl; host = refl }
known (suc (suc (suc t))) h = absurd (omega arith)

host_known : (k : ℕ) → k < 2 → list_any (λ (h : HostDef). h.dev == 7 - k) made_hosts ≡ true
host_known zero h = refl
host_known (suc zero) h = refl
host_known (suc (suc k)) h = absurd (omega arith)

need_made : (seed n c q : ℕ) → q < 1024 → need_of (made seed n) (command_at c q) ≡ (1 + c % 2) * 128
unfolding need_of
need_made seed n c q h =
    let k = known (q / 2 % 3) (omega arith) in
    (λ i. if k.target i then moved_by (cdb_again (is_writing q) c q h i) (k.unit i) else 0)
    ∙ moved_made (is_writing q) (q / 2 % 3) c q h

write_only : (w : Bool) (c q n : ℕ) → (if is_write (Ok (transfer w c q)) then n else 0) ≡ (if w then n else 0)
write_only true c q n = refl
write_only false c q n = refl

sent_made : (seed n c q : ℕ) → q < 1024
    → sent_of (made seed n) (command_at c q) ≡ (if is_writing q then (1 + c % 2) * 128 else 0)
unfolding sent_of
sent_made seed n c q h = (λ i. if is_write (cdb_again (is_writing q) c q h i) then need_made seed n c q h i else 0)
    ∙ write_only (is_writing q) c q ((1 + c % 2) * 128)

payload_right : (w : Bool) (c n : ℕ) → 0 < n → is_payload (if w then n else 0) (sent w c) ≡ true
payload_right true c n h = lt-ltb 0 n h
payload_right false c n h = refl

-- ---- a command is taken

block_right : (w : Bool) (c q : ℕ) → is_block (cdb_bytes (transfer w c q)) ≡ true
block_right true c q = refl
block_right false c q = refl

payload_same : (w : Bool) (c : ℕ) → payload_of (said_payload (sent w c)) ≡ sent w c
payload_same true c = refl
payload_same false c = refl

within_is : (n most : ℕ) → n ≤ most → within (Some n) 0 most ≡ Ok n
within_is n most h =
    let low : nat_le 0 n ≡ true = grind (arith, nat_tests) in
    let high : nat_le n most ≡ true = grind (arith, nat_tests) in
    λ i. if low i && high i then Ok n else Err 4

bound : {A B : Type 0} (r : Result A ℕ) (x : A) (f : A → Result B ℕ) (y : Result B ℕ) → r ≡ Ok x → f x ≡ y
    → (r >>= f) ≡ y
bound r x f y is so = ap (λ s. s >>= f) is ∙ so

ends_known : (seed n q : ℕ) → are_ends (made seed n) (7 - q % 2) (q / 2 % 3) ≡ true
ends_known seed n q =
    let k = known (q / 2 % 3) (omega arith) in λ i. host_known (q % 2) (omega arith) i && not (k.host i)

cmd_made : (seed n c q : ℕ) → cmd_def (made seed n) (cmd_form (command_at c q)) ≡ Ok (command_at c q)
unfolding cmd_def tag_in
cmd_made seed n c q = bound (in_8 (Some (7 - q % 2))) (7 - q % 2) _ _ (within_is (7 - q % 2) 7 (omega arith))
    (bound (in_8 (Some (q / 2 % 3))) (q / 2 % 3) _ _ (within_is (q / 2 % 3) 7 (omega arith))
    (bound (within (Some (c % 256)) 0 255 >>= λ t. Ok (tags.Simple t)) (tags.Simple (c % 256)) _ _
    (bound (within (Some (c % 256)) 0 255) (c % 256) _ _ (within_is (c % 256) 255 (omega arith)) refl)
    (bound (guard 4 (is_block (cdb_bytes (transfer (is_writing q) c q)))) tt _ _
    (ap (guard 4) (block_right (is_writing q) c q)) (bound (guard 6 (are_ends (made seed n) (7 - q % 2) (q / 2 % 3))) tt
    _ _ (ap (guard 6) (ends_known seed n q)) (ap (λ (p : Payload). let r : Result CmdDef ℕ = Ok (record {
      host = 7 - q % 2;
      target = q / 2 % 3;
      unit = 0;
      at = 0;
      tag = tags.Simple (c % 256);
      cdb = cdb_bytes (transfer (is_writing q) c q);
      payload = p;
    }) in r) (payload_same (is_writing q) c))))))

count_of : (seed n : ℕ) → length (made_commands seed n) ≡ n
count_of seed zero = refl
count_of seed (suc n) =
    let same = count_of seed n in
    omega (arith, length-append (made_commands seed n) (made_command seed (suc n) ∷ []), same)

full_made : (seed n c q needs : ℕ) → q < 1024 → n < COMMAND_LIMIT → needs + 256 ≤ NEEDS_LIMIT
    → full_cmd_def (made seed n) needs (cmd_form (command_at c q)) ≡ Ok (command_at c q)
unfolding full_cmd_def
full_made seed n c q needs h room fits =
    let sends : is_payload (sent_of (made seed n) (command_at c q)) (sent (is_writing q) c) ≡ true =
    ap (λ (k : ℕ). is_payload k (sent (is_writing q) c)) (sent_made seed n c q h)
    ∙ payload_right (is_writing q) c ((1 + c % 2) * 128) (omega arith) in
    let one : nat_lt (length (made_commands seed n)) COMMAND_LIMIT ≡ true = lt-ltb
    (length (made_commands seed n)) COMMAND_LIMIT (let same = count_of seed n in omega (arith, same, room)) in
    let need = need_made seed n c q h in
    let two : nat_le (need_of (made seed n) (command_at c q)) NEED_LIMIT ≡ true =
    ap (λ (k : ℕ). nat_le k NEED_LIMIT) need ∙ grind (arith, nat_tests) in
    let three : nat_le (needs + need_of (made seed n) (command_at c q)) NEEDS_LIMIT ≡ true =
    ap (λ (k : ℕ). nat_le (needs + k) NEEDS_LIMIT) need ∙ grind (arith, nat_tests) in
    bound (cmd_def (made seed n) (cmd_form (command_at c q))) (command_at c q) _ _ (cmd_made seed n c q)
    (bound (guard 7 (is_payload (sent_of (made seed n) (command_at c q)) (sent (is_writing q) c))) tt _ _
    (ap (guard 7) sends) (bound (guard 8 (has_room (made seed n) needs (need_of (made seed n) (command_at c q)))) tt _ _
    (λ i. guard 8 (one i && (two i && three i))) refl))

-- ---- the commands

last_after : ℕ → Kind
last_after zero = kinds.Unit
last_after (suc n) = kinds.Cmd

needs_after : ℕ → ℕ → ℕ
needs_after seed zero = 0
needs_after seed (suc n) = needs_after seed n + need_of (made seed n) (made_command seed (suc n))

abbrev so_far : ℕ → ℕ → Progress
so_far seed n = record { scenario = made seed n; last = last_after n; needs = needs_after seed n }

needs_few : (seed n : ℕ) → needs_after seed n ≤ 256 * n
unfolding needs_after
needs_few seed zero = omega arith
needs_few seed (suc n) =
    let before = needs_few seed n in
    let need = need_made seed n (suc n) (spread seed (suc n)) (spread_small seed (suc n)) in
    omega (arith, before, need)

cmd_order : (n : ℕ) → in_order (rank (last_after n)) 8 ≡ true
unfolding last_after
cmd_order zero = refl
cmd_order (suc n) = refl

cmd_after : (seed n : ℕ) → n < COMMAND_LIMIT
    → said_after (so_far seed n) (said_cmd (made_command seed (suc n))) ≡ Ok (so_far seed (suc n))
unfolding said_after added last_after needs_after
cmd_after seed n room =
    let few = needs_few seed n in
    bound (guard 3 (in_order (rank (last_after n)) 8)) tt _ _ (ap (guard 3) (cmd_order n))
    (bound (full_cmd_def (made seed n) (needs_after seed n) (cmd_form (made_command seed (suc n)))
    >>= λ def. Ok (record (so_far seed n) {
      scenario = record (made seed n) { commands = made_commands seed n ++ def ∷ [] };
      needs = needs_after seed n + need_of (made seed n) def;
    })) (record (so_far seed n) { scenario = made seed (suc n); needs = needs_after seed (suc n) }) _ _
    (bound (full_cmd_def (made seed n) (needs_after seed n) (cmd_form (made_command seed (suc n))))
    (made_command seed (suc n)) _ _ (full_made seed n (suc n) (spread seed (suc n)) (needs_after seed n)
    (spread_small seed (suc n)) room (omega (arith, few, room))) refl) refl)

commands_after : (seed n : ℕ) → n ≤ COMMAND_LIMIT
    → built (so_far seed 0) (map said_cmd (made_commands seed n)) ≡ Ok (so_far seed n)
commands_after seed zero h = refl
commands_after seed (suc n) h =
    ap (built (so_far seed 0)) (map-append said_cmd (made_commands seed n) (made_command seed (suc n) ∷ []))
    ∙ built-append (map said_cmd (made_commands seed n)) (said_cmd (made_command seed (suc n)) ∷ [])
    (so_far seed 0) (so_far seed n) (commands_after seed n (omega arith))
    ∙ bound (said_after (so_far seed n) (said_cmd (made_command seed (suc n)))) (so_far seed (suc n)) _ _
    (cmd_after seed n (omega arith)) refl

end_order : (n : ℕ) → in_order (rank (last_after n)) 12 ≡ true
unfolding last_after
end_order zero = refl
end_order (suc n) = refl

end_after : (seed n : ℕ) → said_after (so_far seed n) end_line ≡ Ok (record (so_far seed n) { last = kinds.End })
unfolding said_after added
end_after seed n =
    bound (guard 3 (in_order (rank (last_after n)) 12)) tt _ _ (ap (guard 3) (end_order n)) refl

rest_after : (seed n : ℕ) → n ≤ COMMAND_LIMIT
    → built (so_far seed 0) ((map said_cmd (made_commands seed n) ++ []) ++ end_line ∷ [])
    ≡ Ok (record (so_far seed n) { last = kinds.End })
rest_after seed n h = ap (λ (xs : List Said). built (so_far seed 0) (xs ++ end_line ∷ []))
    (append-nil (map said_cmd (made_commands seed n)))
    ∙ built-append (map said_cmd (made_commands seed n)) (end_line ∷ [])
    (so_far seed 0) (so_far seed n) (commands_after seed n h)
    ∙ bound (said_after (so_far seed n) end_line) (record (so_far seed n) { last = kinds.End }) _ _
    (end_after seed n) refl

all_after : (seed n : ℕ) → built nothing (saids (made seed n))
    ≡ built (so_far seed 0) ((map said_cmd (made_commands seed n) ++ []) ++ end_line ∷ [])
unfolding said_after added host_def target_def unit_def period_in size_in policy_in last_after needs_after
all_after seed n = refl

-- ---- the length of the text

decimal_short : (n : ℕ) → n < 1000 → length (decimal n) ≤ 3
decimal_short n h = length-decimal-le 3 n (omega arith) (omega (arith, h)) (omega (arith, h))

cdb_len : (w : Bool) (c q : ℕ) → length (hex_text (cdb_bytes (transfer w c q))) ≡ 12
cdb_len true c q = refl
cdb_len false c q = refl

payload_len : (w : Bool) (c : ℕ) → length (payload_text (said_payload (sent w c))) ≤ 11
payload_len true c = omega arith
payload_len false c = omega arith

line_len : (c q : ℕ) → length (said_line (said_cmd (command_at c q))) ≤ 100
unfolding cmd_text cmd_tag_text
line_len c q =
    let tail = payload_text (said_payload (sent (is_writing q) c)) in
    let hex = hex_text (cdb_bytes (transfer (is_writing q) c q)) in
    let host = decimal (7 - q % 2) in
    let target = decimal (q / 2 % 3) in
    let none = decimal 0 in
    let tag = decimal (c % 256) in
    let e5 = length-append hex (codes " " ++ tail) in
    let e4 = length-append tag (codes " cdb " ++ (hex ++ (codes " " ++ tail))) in
    let rest = codes " " ++ (codes "simple " ++ tag ++ (codes " cdb " ++ (hex ++ (codes " " ++ tail)))) in
    let e3 = length-append none rest in
    let e2 = length-append none (codes " at " ++ none ++ rest) in
    let e1 = length-append target (codes " " ++ none ++ (codes " at " ++ none ++ rest)) in
    let e0 = length-append host (codes " " ++ target ++ (codes " " ++ none ++ (codes " at " ++ none ++ rest))) in
    let whole = length-append (cmd_text (cmd_form (command_at c q))) (10 ∷ []) in
    omega (
      arith,
      whole,
      e0,
      e1,
      e2,
      e3,
      e4,
      e5,
      decimal_short (7 - q % 2) (omega arith),
      decimal_short (q / 2 % 3) (omega arith),
      decimal_short 0 (omega arith),
      decimal_short (c % 256) (omega arith),
      cdb_len (is_writing q) c q,
      payload_len (is_writing q) c,
    )

commands_len : (seed n : ℕ) → length (flat_map said_line (map said_cmd (made_commands seed n))) ≤ 100 * n
commands_len seed zero = omega arith
commands_len seed (suc n) =
    let before = commands_len seed n in
    let one = line_len (suc n) (spread seed (suc n)) in
    let all : flat_map said_line (map said_cmd (made_commands seed (suc n)))
    ≡ flat_map said_line (map said_cmd (made_commands seed n))
    ++ (said_line (said_cmd (made_command seed (suc n))) ++ []) =
    ap (flat_map said_line) (map-append said_cmd (made_commands seed n) (made_command seed (suc n) ∷ []))
    ∙ flat_map-append said_line (map said_cmd (made_commands seed n)) (said_cmd (made_command seed (suc n)) ∷ []) in
    omega (
      arith,
      before,
      one,
      ap (λ (xs : List ℕ). length xs) all,
      length-append (flat_map said_line (map said_cmd (made_commands seed n)))
          (said_line (said_cmd (made_command seed (suc n))) ++ []),
      length-append (said_line (said_cmd (made_command seed (suc n)))) [],
    )

-- the lines before the commands
abbrev front : List Said
front = scsi_line 1 ∷ map (said_host 1) made_hosts ++ (map (said_target 1) made_targets ++ map said_unit made_units)

front_len : length (flat_map said_line front) ≡ 451
unfolding digits initiator_text host_sync_text target_text target_disc_text target_seek_text unit_text
front_len = refl

abbrev rest : ℕ → ℕ → List Said
rest seed n = (map said_cmd (made_commands seed n) ++ []) ++ end_line ∷ []

text_parts : (seed n : ℕ) → text_of (made seed n) ≡ flat_map said_line front ++ flat_map said_line (rest seed n)
text_parts seed n = flat_map-append said_line front (rest seed n)

rest_len : (seed n : ℕ) → length (flat_map said_line (rest seed n)) ≤ 100 * n + 4
rest_len seed n =
    let parts : flat_map said_line (rest seed n)
    ≡ flat_map said_line (map said_cmd (made_commands seed n)) ++ codes "end\n" =
    ap (λ (xs : List Said). flat_map said_line (xs ++ end_line ∷ [])) (append-nil (map said_cmd (made_commands seed n)))
    ∙ flat_map-append said_line (map said_cmd (made_commands seed n)) (end_line ∷ []) in
    omega (
      arith,
      commands_len seed n,
      ap (λ (xs : List ℕ). length xs) parts,
      length-append (flat_map said_line (map said_cmd (made_commands seed n))) (codes "end\n"),
    )

text_len : (seed n : ℕ) → n ≤ COMMAND_LIMIT → length (text_of (made seed n)) ≤ LIMIT
text_len seed n h = omega (
  arith,
  h,
  rest_len seed n,
  front_len,
  ap (λ (xs : List ℕ). length xs) (text_parts seed n),
  length-append (flat_map said_line front) (flat_map said_line (rest seed n)),
)

-- ---- the bytes

block_bytes_small : (w : Bool) (c q : ℕ) → q < 1024 → IsHex (cdb_bytes (transfer w c q))
block_bytes_small true c q h =
    ((omega arith, (omega arith, (omega arith, (omega arith, (omega arith, (omega arith, tt)))))), omega arith)
block_bytes_small false c q h =
    ((omega arith, (omega arith, (omega arith, (omega arith, (omega arith, (omega arith, tt)))))), omega arith)

payload_small : (w : Bool) (c : ℕ) → IsHexPayload (sent w c)
payload_small true c = omega arith
payload_small false c = tt

commands_hex : (seed n : ℕ) → AllByRecursion (λ c. IsHex c.cdb × IsHexPayload c.payload) (made_commands seed n)
commands_hex seed zero = tt
commands_hex seed (suc n) =
    let q = spread seed (suc n) in
    all_with (λ c. IsHex c.cdb × IsHexPayload c.payload)
    (made_commands seed n) (made_command seed (suc n)) (commands_hex seed n)
    (block_bytes_small (is_writing q) (suc n) q (spread_small seed (suc n)), payload_small (is_writing q) (suc n))

pub made_obeys : (seed n : ℕ) → n ≤ COMMAND_LIMIT → Obeys (made seed n)
made_obeys seed n h = record {
  version = refl;
  lawful = ap told_scenario (all_after seed n ∙ rest_after seed n h);
  fills = tt;
  loads = tt;
  commands = commands_hex seed n;
  limit = text_len seed n h;
}
