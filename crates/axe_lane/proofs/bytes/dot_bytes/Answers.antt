use Rattle.std.proofs.Common.{◌≡◌, ℕ, ◌+◌, ◌*◌, ◌/◌, ◌%◌, ◌<◌, ◌≤◌, length, get_or, take, sym, ap, ◌∙◌, arith, w32}
use Rattle.std.specs.Simd.Lanes.{chunk, products, sum_l}
use Rattle.std.proofs.lemmas.List.{take_all}
use Rattle.std.proofs.lemmas.Nat.{mul-le}
use Rattle.std.proofs.lemmas.Simd.{fold-sum, get_or-zip2, length-zip2, sum_fits}
use Rattle.axe_lane.proofs.SumLaws.{sum_is, sum_block, sum_more, chunk-zip2, products_are_small}
use Rattle.axe_lane.proofs.bytes.dot_bytes.Goals as goal

pub with_products-sums-requires-clause-fits : goal.with_products-sums-requires-clause-fits
with_products-sums-requires-clause-fits c =
    let small = products_are_small (c.loop-block.block * 16) c.args.a.now c.args.b.now (λ i. (c.type_inv.a i).fits) (λ i. (c.type_inv.b i).fits) in
    omega (arith, small, c.loop-block.invariant)

pub loop-block-preserved : goal.loop-block-preserved
loop-block-preserved c =
    let a = c.args.a.now in
    let b = c.args.b.now in
    let n = c.loop-block.block * 16 in
    let m = (c.loop-block.block + 1) * 16 in
    let added : sum_l (chunk n 16 (products a b)) ≡ sum_l (products (chunk n 16 a) (chunk n 16 b)) = ap sum_l (chunk-zip2 (λ x y. x * y) n 16 a b) in
    let total : sum_l c.loop-block.sums + sum_l (products (chunk n 16 a) (chunk n 16 b)) ≡ sum_l (take m (products a b)) =
    omega (arith, added, sum_block n 16 m (products a b) (omega arith), c.loop-block.invariant) in
    c.with_products-sums.ensures ∙ total

pub overflow_add-sum : goal.overflow_add-sum
overflow_add-sum c =
    let small = products_are_small (c.loop-block.block * 16) c.args.a.now c.args.b.now (λ i. (c.type_inv.a i).fits) (λ i. (c.type_inv.b i).fits) in
    sum_fits w32 0 c.loop-block.sums (omega (arith, small, c.loop-block.invariant))

pub loop-at-init : goal.loop-at-init
loop-at-init c =
    let zs = products c.args.a.now c.args.b.now in
    let last : c.loop-block.block ≡ length c.args.a.now / 16 = omega arith in
    let same : sum_l (take (c.loop-block.block * 16) zs) ≡ sum_l (take (length c.args.a.now / 16 * 16) zs) =
    ap (λ k. sum_l (take (k * 16) zs)) last in
    let total : 0 + sum_l c.loop-block.sums ≡ sum_l (take (length c.args.a.now / 16 * 16) zs) = omega (arith, same, c.loop-block.invariant) in
    fold-sum 0 c.loop-block.sums ∙ total

pub overflow_add-sum-in-loop-at : goal.overflow_add-sum-in-loop-at
overflow_add-sum-in-loop-at c =
    let n = c.loop-at.at in
    let x = get_or c.args.a.now n 0 in
    let y = get_or c.args.b.now n 0 in
    let x_small : x < 256 = (c.type_inv.a n).fits in
    let y_small : y < 256 = (c.type_inv.b n).fits in
    let small = products_are_small n c.args.a.now c.args.b.now (λ i. (c.type_inv.a i).fits) (λ i. (c.type_inv.b i).fits) in
    record { fits = omega (arith, small, mul-le x y 255 255 (omega arith) (omega arith), c.loop-at.invariant) }

pub loop-at-preserved : goal.loop-at-preserved
loop-at-preserved c =
    let a = c.args.a.now in
    let b = c.args.b.now in
    let n = c.loop-at.at in
    let times : ℕ → ℕ → ℕ = λ x y. x * y in
    let within : n < length (products a b) = omega (arith, length-zip2 times a b (sym c.requires.fits)) in
    let entry : get_or (products a b) n 0 ≡ get_or a n 0 * get_or b n 0 = get_or-zip2 times a b n 0 0 0 (omega arith) (omega arith) in
    let total : c.loop-at.sum + get_or a n 0 * get_or b n 0 ≡ sum_l (take (n + 1) (products a b)) =
    omega (arith, entry, sum_more n (n + 1) (products a b) (omega arith) within, c.loop-at.invariant) in
    total

pub returns : goal.returns
returns c =
    let zs = products c.args.a.now c.args.b.now in
    let all : length zs ≤ c.loop-at.at = omega (arith, length-zip2 (λ x y. x * y) c.args.a.now c.args.b.now (sym c.requires.fits)) in
    ap (λ s. s % c.args.p) (c.loop-at.invariant ∙ ap sum_l (take_all c.loop-at.at zs all) ∙ sym (sum_is zs))
