-- What is shown of tapes.
use Rattle.std.proofs.Common.{◌≡◌, ℕ, suc, zero, ◌+◌, ◌<◌, List, [], ◌∷◌, ◌++◌, Some, None, length, get_or, drop}
use Rattle.std.proofs.Common.{refl, sym, ap, arith, ◌∙◌}
use Rattle.std.specs.Prelude.{map}
use Rattle.scenario.specs.declared.value.TapeDef.{TapeDef}
use Rattle.array_model.specs.Reels.{Object, block, filemark, block_at}
use Rattle.tape_unit.specs.Stored.{Store}
use Rattle.run_record.specs.Value.{reeled_by}
use Rattle.trace_text.specs.TapeText.{object_text, objects_text, reel_text, tapes_text}
use Rattle.trace_text.specs.ReportText.{tape_name}
use Rattle.bus_base.proofs.Tests.{dropped, item_next}

-- A block stands at the place where its bytes are, and else a filemark.
pub block_there : (objects : List Object) (n : ℕ) (bytes : List ℕ) → block_at objects n ≡ Some bytes
    → block bytes ≡ get_or objects n filemark
block_there [] n bytes is = cc
block_there (block held ∷ objects) zero bytes is = let same : held ≡ bytes = cc in λ i. block (sym same i)
block_there (filemark ∷ objects) zero bytes is = cc
block_there (object ∷ objects) (suc n) bytes is = block_there objects n bytes is

pub mark_there : (objects : List Object) (n : ℕ) → block_at objects n ≡ None → filemark ≡ get_or objects n filemark
mark_there [] n is = refl
mark_there (block held ∷ objects) zero is = cc
mark_there (filemark ∷ objects) zero is = refl
mark_there (object ∷ objects) (suc n) is = mark_there objects n is

pub object_next : (target unit i : ℕ) (objects : List Object) → i < length objects
    → objects_text target unit i (drop i objects)
    ≡ object_text target unit i (get_or objects i filemark) ++ objects_text target unit (i + 1) (drop (i + 1) objects)
object_next target unit i objects below = ap (λ os. objects_text target unit i os) (dropped i objects filemark below)

pub tape_next : (i : ℕ) (lines : List TapeDef) (tapes : List Store) (t : TapeDef) (tape : Store)
    → i < length lines → i < length tapes → tape ≡ get_or tapes i tape
    → tapes_text (map tape_name (drop i lines)) (map reeled_by (drop i tapes))
    ≡ reel_text (get_or lines i t).target (get_or lines i t).unit (Some tape.tape.reel)
    ++ tapes_text (map tape_name (drop (i + 1) lines)) (map reeled_by (drop (i + 1) tapes))
tape_next i lines tapes t tape in_lines in_tapes is_tape =
    let ts = item_next i tapes tape in_tapes is_tape in
    let ls = dropped i lines t in_lines in
    λ j. tapes_text (map tape_name (ls j)) (map reeled_by (ts j))
