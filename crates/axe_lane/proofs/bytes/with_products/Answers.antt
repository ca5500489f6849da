use Rattle.std.proofs.Common.{ℕ, ◌+◌, ◌*◌, sym, ap, map, ◌∙◌, arith, w8, w32}
use Rattle.std.specs.Simd.Lanes.{chunk, sum_l, zip2}
use Rattle.std.proofs.lemmas.Simd.{adds_fit, chunk-fits, length-chunk, sum-zip2}
use Rattle.axe_lane.proofs.SumLaws.{wide_products_fit, wide_products, products_bound}
use Rattle.axe_lane.proofs.VectorLaws.{length-zip2_of}
use Rattle.axe_lane.proofs.bytes.with_products.Goals as goal

pub overflow_mul-result : goal.overflow_mul-result
overflow_mul-result c =
    let at = c.args.at in
    wide_products_fit (chunk at 16 c.args.a.now) (chunk at 16 c.args.b.now)
    (chunk-fits w8 at 16 c.args.a.now c.type_inv.a) (chunk-fits w8 at 16 c.args.b.now c.type_inv.b)

pub overflow_add-result : goal.overflow_add-result
overflow_add-result c =
    let at = c.args.at in
    let left = chunk at 16 c.args.a.now in
    let right = chunk at 16 c.args.b.now in
    let times : ℕ → ℕ → ℕ = λ x y. x * y in
    adds_fit w32 c.args.sums (zip2 times (map (λ x. x) left) (map (λ x. x) right))
    (omega (
      arith,
      ap sum_l (wide_products left right),
      products_bound left right (chunk-fits w8 at 16 c.args.a.now c.type_inv.a) (chunk-fits w8 at 16 c.args.b.now c.type_inv.b),
      length-chunk at 16 c.args.a.now c.requires.a_has_block,
      c.requires.fits,
    ))

pub returns : goal.returns
returns c =
    let at = c.args.at in
    let left = chunk at 16 c.args.a.now in
    let right = chunk at 16 c.args.b.now in
    let times : ℕ → ℕ → ℕ = λ x y. x * y in
    let long = length-zip2_of times left right 16 (length-chunk at 16 c.args.a.now c.requires.a_has_block) (length-chunk at 16 c.args.b.now c.requires.b_has_block) in
    ap (λ ps. sum_l (zip2 (λ x y. x + y) c.args.sums ps)) (wide_products left right)
    ∙ sum-zip2 c.args.sums (zip2 times left right) (c.fits-sums.0 ∙ sym long)
