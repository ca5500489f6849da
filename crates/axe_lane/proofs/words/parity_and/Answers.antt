use Rattle.std.proofs.Common.{◌≡◌, ℕ, ◌+◌, ◌*◌, ◌/◌, ◌%◌, ◌<◌, ◌≤◌, length, get_or, take, sym, ap, ◌∙◌, arith, bit_and}
use Rattle.std.specs.Int.RustNames.{count_ones}
use Rattle.std.specs.Simd.Lanes.{chunk, sum_l, zip2}
use Rattle.std.proofs.lemmas.List.{take_all}
use Rattle.std.proofs.lemmas.Nat.{ones_le_self}
use Rattle.std.proofs.lemmas.Simd.{get_or-zip2, length-chunk, length-zip2}
use Rattle.axe_lane.proofs.SumLaws.{ones_of, sum_is, sum_block, sum_more, chunk-zip2, xor_parity, fold_parity, zip_parity}
use Rattle.axe_lane.proofs.VectorLaws.{map-zip2, length-zip2_of}
use Rattle.axe_lane.proofs.words.parity_and.Goals as goal

pub loop-block-preserved : goal.loop-block-preserved
loop-block-preserved c =
    let f : ℕ → ℕ → ℕ = λ x y. count_ones (bit_and x y) in
    let a = c.args.a.now in
    let b = c.args.b.now in
    let n = c.loop-block.block * 8 in
    let m = (c.loop-block.block + 1) * 8 in
    let sums = c.loop-block.sums in
    let common = zip2 bit_and (chunk n 8 a) (chunk n 8 b) in
    let a_room : n + 8 ≤ length a = omega arith in
    let b_room : n + 8 ≤ length b = omega arith in
    let long = length-zip2_of bit_and (chunk n 8 a) (chunk n 8 b) 8 (length-chunk n 8 a a_room) (length-chunk n 8 b b_room) in
    let added : ones_of common ≡ sum_l (chunk n 8 (zip2 f a b)) =
    ap sum_l (map-zip2 count_ones bit_and (chunk n 8 a) (chunk n 8 b) ∙ sym (chunk-zip2 f n 8 a b)) in
    let total : (ones_of sums + ones_of common) % 2 ≡ sum_l (take m (zip2 f a b)) % 2 =
    omega (arith, added, sum_block n 8 m (zip2 f a b) (omega arith), c.loop-block.invariant) in
    ap (λ v. ones_of v % 2) c.with_common_bits-sums.ensures
    ∙ zip_parity sums common (c.loop-block.auto.sums.0 ∙ sym long)
    ∙ total

pub loop-at-init : goal.loop-at-init
loop-at-init c =
    let f : ℕ → ℕ → ℕ = λ x y. count_ones (bit_and x y) in
    let zs = zip2 f c.args.a.now c.args.b.now in
    let last : c.loop-block.block ≡ length c.args.a.now / 8 = omega arith in
    let same : sum_l (take (c.loop-block.block * 8) zs) ≡ sum_l (take (length c.args.a.now / 8 * 8) zs) =
    ap (λ k. sum_l (take (k * 8) zs)) last in
    let total : (count_ones 0 + ones_of c.loop-block.sums) % 2 ≡ sum_l (take (length c.args.a.now / 8 * 8) zs) % 2 =
    omega (arith, ones_le_self 0, same, c.loop-block.invariant) in
    fold_parity c.loop-block.sums 0 ∙ total

pub loop-at-preserved : goal.loop-at-preserved
loop-at-preserved c =
    let f : ℕ → ℕ → ℕ = λ x y. count_ones (bit_and x y) in
    let a = c.args.a.now in
    let b = c.args.b.now in
    let n = c.loop-at.at in
    let common = bit_and (get_or a n 0) (get_or b n 0) in
    let within : n < length (zip2 f a b) = omega (arith, length-zip2 f a b (sym c.requires)) in
    let entry : get_or (zip2 f a b) n 0 ≡ count_ones common = get_or-zip2 f a b n 0 0 0 (omega arith) (omega arith) in
    let total : (count_ones c.loop-at.sum + count_ones common) % 2 ≡ sum_l (take (n + 1) (zip2 f a b)) % 2 =
    omega (arith, entry, sum_more n (n + 1) (zip2 f a b) (omega arith) within, c.loop-at.invariant) in
    xor_parity c.loop-at.sum common ∙ total

pub returns : goal.returns
returns c =
    let f : ℕ → ℕ → ℕ = λ x y. count_ones (bit_and x y) in
    let zs = zip2 f c.args.a.now c.args.b.now in
    let all : length zs ≤ c.loop-at.at = omega (arith, length-zip2 f c.args.a.now c.args.b.now (sym c.requires)) in
    c.loop-at.invariant ∙ ap (λ s. s % 2) (ap sum_l (take_all c.loop-at.at zs all) ∙ sym (sum_is zs))
