-- What is shown of disks and of bytes.
use Rattle.std.proofs.Common.{ℕ, ◌≡◌, ◌<◌, ◌+◌, Bool, false, List, [], ◌∷◌, ◌++◌, length, get_or, drop, refl}
use Rattle.std.specs.Prelude.{map, ◌==◌, if◌then◌else◌}
use Rattle.scenario.specs.declared.value.UnitDef.{UnitDef}
use Rattle.text_words.specs.Spelling.{hex_text}
use Rattle.trace_text.specs.ReplyText.{bytes_text}
use Rattle.disk_unit.specs.Sparse.{Store}
use Rattle.run_record.specs.Value.{held_by}
use Rattle.trace_text.specs.BlockText.{disk_text, disks_text}
use Rattle.trace_text.specs.ReportText.{disk_name}
use Rattle.bus_base.proofs.Tests.{dropped, item_next}

pub disk_next : (i : ℕ) (units : List UnitDef) (disks : List Store) (u : UnitDef) (disk : Store)
    → i < length units → i < length disks → disk ≡ get_or disks i disk
    → disks_text (map disk_name (drop i units)) (map held_by (drop i disks))
    ≡ disk_text (get_or units i u).target (get_or units i u).unit disk.contents
    ++ disks_text (map disk_name (drop (i + 1) units)) (map held_by (drop (i + 1) disks))
disk_next i units disks u disk in_units in_disks is_disk =
    let ds = item_next i disks disk in_disks is_disk in
    let us = dropped i units u in_units in
    λ j. disks_text (map disk_name (us j)) (map held_by (ds j))

-- a text that is shown unless a test says otherwise
pub shown : (hidden : Bool) (text : List ℕ) → false ≡ hidden → text ≡ (if hidden then [] else text)
shown hidden text is = λ j. if is j then [] else text

pub bytes_shown : (bytes : List ℕ) → false ≡ (length bytes == 0) → 32 ∷ hex_text bytes ≡ bytes_text bytes
bytes_shown [] is = cc
bytes_shown (b ∷ bytes) is = refl
