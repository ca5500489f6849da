use Rattle.std.proofs.Common.{ℕ, List, ap, sym, ◌∙◌}
use Rattle.std.specs.Simd.Lanes.{digits_l, number_l}
use Rattle.axe_lane.proofs.VectorLaws.{pair_products, products_of_pairs}
use Rattle.axe_lane.proofs.bytes.times.Goals as goal

pub returns : goal.returns
returns c =
    let m = c.args.m in
    let v = c.args.v in
    let bytes : ℕ → ℕ → List ℕ = λ by count.
    digits_l 256 count (number_l 65536 (pair_products by 16 (number_l 256 v))) in
    ap (λ by. bytes by 32) c.from.ensures ∙ ap (bytes m) (sym c.fits-v.0)
    ∙ products_of_pairs m 16 v c.fits-v.0 c.fits-v.1 c.requires
