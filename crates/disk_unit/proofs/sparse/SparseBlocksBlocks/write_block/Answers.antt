use Rattle.std.proofs.Common.{◌≡◌, ◌<◌, ℕ, List, None, true, false, length, set, sym, ap, subst, ◌∙◌, arith}
use Rattle.std.specs.List.{insert}
use Rattle.std.specs.Global.{Vec}
use Rattle.std.specs.Vec.{vec_capacity}
use Rattle.std.proofs.lemmas.Grind.{common_steps}
use Rattle.array_model.specs.Contents.{with_block, touched_with}
use Rattle.disk_unit.specs.Sparse.{Store, place_in, is_at, touched_of, IsSparse}
use Rattle.disk_unit.proofs.Touched.{at_within, size_at, write_found, write_absent, overwrite_sound, touch_sound}
use Rattle.disk_unit.proofs.Touched.{sized_last}
use Rattle.disk_unit.proofs.sparse.SparseBlocksBlocks.write_block.Goals as goal

pub overwrite-requires-clause-within : goal.overwrite-requires-clause-within
overwrite-requires-clause-within c =
    let s = c.self.inside in
    let at : is_at s.numbers.items c.place_of-place.result c.args.lba ≡ true =
    sym (ap (λ (numbers : List ℕ). is_at numbers c.place_of-place.result c.args.lba) c.as_slice-2.ensures.value)
    ∙ sym c.is_at.ensures ∙ c.if-is_at.true in
    let within : c.place_of-place.result < length s.numbers.items = at_within
    s.numbers.items c.place_of-place.result c.args.lba at in
    let paired = c.self.invariant.paired in
    grind (arith, common_steps)

pub overwrite-requires-clause-whole : goal.overwrite-requires-clause-whole
overwrite-requires-clause-whole c = λ d.
    let s = c.self.inside in
    let at : is_at s.numbers.items c.place_of-place.result c.args.lba ≡ true =
    sym (ap (λ (numbers : List ℕ). is_at numbers c.place_of-place.result c.args.lba) c.as_slice-2.ensures.value)
    ∙ sym c.is_at.ensures ∙ c.if-is_at.true in
    let found : c.place_of-place.result < length s.numbers.items = at_within
    s.numbers.items c.place_of-place.result c.args.lba at in
    let paired = c.self.invariant.paired in
    let within : c.place_of-place.result < length s.blocks.items = omega arith in
    size_at s.size s.blocks.items c.place_of-place.result d c.self.invariant.sized within
    ∙ ap (λ (t : Store). t.contents.size) c.self.view_is ∙ sym c.requires.whole

pub invariant_of-self : goal.invariant_of-self
invariant_of-self c =
    let s = c.self.inside in
    let written = c.overwrite.ensures.written in
    subst (λ (blocks : List (Vec ℕ)). IsSparse s.count s.size s.numbers.items blocks s.pool.items
    (vec_capacity s.numbers) (vec_capacity c.overwrite.new.blocks)) (sym written.2)
    (overwrite_sound s.count s.size s.numbers.items s.blocks.items s.pool.items (vec_capacity s.numbers)
    (vec_capacity s.blocks) _ c.place_of-place.result written.0 c.self.invariant
    (ap length written.1 ∙ c.requires.whole ∙ sym (ap (λ (t : Store). t.contents.size) c.self.view_is))
    c.overwrite.ensures.capacity)

pub with_bytes-requires : goal.with_bytes-requires
with_bytes-requires c =
    let s = c.self.inside in
    let pooled = subst (λ (pool : List (Vec ℕ)). IsSparse s.count s.size s.numbers.items s.blocks.items pool
    (vec_capacity s.numbers) (vec_capacity s.blocks)) c.in-Some.ensures.items c.self.invariant in
    record {
      whole = sized_last s.size c.pop.new.self.items c.in-Some.block pooled.pooled
          ∙ ap (λ (t : Store). t.contents.size) c.self.view_is ∙ sym c.requires.whole;
    }

pub invariant_of-self-in-Some : goal.invariant_of-self-in-Some
invariant_of-self-in-Some c =
    let s = c.self.inside in
    let pooled = subst (λ (pool : List (Vec ℕ)). IsSparse s.count s.size s.numbers.items s.blocks.items pool
    (vec_capacity s.numbers) (vec_capacity s.blocks)) c.in-Some.ensures.items c.self.invariant in
    let place : c.place_of-place.result ≡ place_in s.numbers.items c.args.lba = c.place_of-place.ensures.exact
    ∙ (λ i. place_in (c.as_slice.ensures.value i) (c.from.ensures i)) in
    let at : is_at s.numbers.items (place_in s.numbers.items c.args.lba) c.args.lba ≡ false =
    sym (λ i. is_at (c.as_slice-2.ensures.value i) (place i) c.args.lba) ∙ sym c.is_at.ensures ∙ c.if-is_at.false in
    let numbers : c.insert_within.new.list.items
    ≡ insert s.numbers.items (place_in s.numbers.items c.args.lba) c.args.lba = c.insert_within.ensures.items
    ∙ ap (λ (k : ℕ). insert s.numbers.items k c.args.lba) place in
    let blocks : c.insert_within-in-Some.new.list.items
    ≡ insert s.blocks.items (place_in s.numbers.items c.args.lba) c.with_bytes.result =
    c.insert_within-in-Some.ensures.items ∙ ap (λ (k : ℕ). insert s.blocks.items k c.with_bytes.result) place in
    subst (λ (xs : List ℕ). IsSparse s.count s.size xs c.insert_within-in-Some.new.list.items c.pop.new.self.items
    (vec_capacity c.insert_within.new.list) (vec_capacity c.insert_within-in-Some.new.list))
    (sym numbers) (subst (λ (xs : List (Vec ℕ)). IsSparse s.count s.size
    (insert s.numbers.items (place_in s.numbers.items c.args.lba) c.args.lba) xs c.pop.new.self.items
    (vec_capacity c.insert_within.new.list) (vec_capacity c.insert_within-in-Some.new.list)) (sym blocks)
    (touch_sound s.count s.size s.numbers.items s.blocks.items c.pop.new.self.items (vec_capacity s.numbers)
    (vec_capacity s.blocks) _ _ c.args.lba c.with_bytes.result c.in-Some.block pooled at
    (ap length c.with_bytes.ensures ∙ c.requires.whole ∙ sym (ap (λ (t : Store). t.contents.size) c.self.view_is))
    c.insert_within.ensures.capacity c.insert_within-in-Some.ensures.capacity))

pub returns-then-is_at-clause-written : goal.returns-then-is_at-clause-written
returns-then-is_at-clause-written c =
    let s = c.self.inside in
    let written = c.overwrite.ensures.written in
    let place : c.place_of-place.result ≡ place_in s.numbers.items c.args.lba = c.place_of-place.ensures.exact
    ∙ (λ i. place_in (c.as_slice.ensures.value i) (c.from.ensures i)) in
    let at : is_at s.numbers.items (place_in s.numbers.items c.args.lba) c.args.lba ≡ true =
    sym (λ i. is_at (c.as_slice-2.ensures.value i) (place i) c.args.lba) ∙ sym c.is_at.ensures ∙ c.if-is_at.true in
    let touched : touched_of s.numbers.items c.overwrite.new.blocks.items
    ≡ touched_with (touched_of s.numbers.items s.blocks.items) c.args.lba c.args.from.now =
    ap (touched_of s.numbers.items) (written.2 ∙ ap (λ (k : ℕ). set s.blocks.items k written.0) place)
    ∙ write_found s.numbers.items s.blocks.items c.args.lba written.0 c.self.invariant.paired at
    ∙ ap (touched_with (touched_of s.numbers.items s.blocks.items) c.args.lba) written.1 in
    (λ i. record { count = s.count; size = s.size; touched = touched i; reel = None })
    ∙ ap (λ (t : Store). with_block t.contents c.args.lba c.args.from.now) c.self.view_is

pub returns-in-Some-clause-written : goal.returns-in-Some-clause-written
returns-in-Some-clause-written c =
    let s = c.self.inside in
    let place : c.place_of-place.result ≡ place_in s.numbers.items c.args.lba = c.place_of-place.ensures.exact
    ∙ (λ i. place_in (c.as_slice.ensures.value i) (c.from.ensures i)) in
    let at : is_at s.numbers.items (place_in s.numbers.items c.args.lba) c.args.lba ≡ false =
    sym (λ i. is_at (c.as_slice-2.ensures.value i) (place i) c.args.lba) ∙ sym c.is_at.ensures ∙ c.if-is_at.false in
    let numbers : c.insert_within.new.list.items
    ≡ insert s.numbers.items (place_in s.numbers.items c.args.lba) c.args.lba = c.insert_within.ensures.items
    ∙ ap (λ (k : ℕ). insert s.numbers.items k c.args.lba) place in
    let blocks : c.insert_within-in-Some.new.list.items
    ≡ insert s.blocks.items (place_in s.numbers.items c.args.lba) c.with_bytes.result =
    c.insert_within-in-Some.ensures.items ∙ ap (λ (k : ℕ). insert s.blocks.items k c.with_bytes.result) place in
    let touched : touched_of c.insert_within.new.list.items c.insert_within-in-Some.new.list.items
    ≡ touched_with (touched_of s.numbers.items s.blocks.items) c.args.lba c.args.from.now =
    (λ i. touched_of (numbers i) (blocks i))
    ∙ write_absent s.numbers.items s.blocks.items c.args.lba c.with_bytes.result c.self.invariant.paired at
    ∙ ap (touched_with (touched_of s.numbers.items s.blocks.items) c.args.lba) c.with_bytes.ensures in
    (λ i. record { count = s.count; size = s.size; touched = touched i; reel = None })
    ∙ ap (λ (t : Store). with_block t.contents c.args.lba c.args.from.now) c.self.view_is
