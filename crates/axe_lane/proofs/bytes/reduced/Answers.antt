use Rattle.std.proofs.Common.{ℕ, ◌+◌, ◌-◌, ◌%◌, cond, ltb, ap, ◌∙◌, w8, Fits}
use Rattle.std.proofs.lemmas.Simd.{zip2_splat}
use Rattle.axe_lane.specs.Bytes.{less_where_not_below}
use Rattle.axe_lane.proofs.VectorLaws.{mins, mins-map, map-agree}
use Rattle.axe_lane.proofs.ResidueLaws.{min_is_less}
use Rattle.axe_lane.proofs.bytes.reduced.Goals as goal

pub returns : goal.returns
returns c =
    let v = c.args.v in
    let by = c.args.by in
    let lower : ℕ → ℕ = λ x. (x + (256 - by)) % 256 in
    ap (mins v) (zip2_splat (λ x y. (x + (256 - y)) % 256) v 32 by c.fits-v.0)
    ∙ mins-map lower v
    ∙ map-agree (Fits w8) (λ x. cond (ltb x (lower x)) x (lower x)) (less_where_not_below by) (λ x f. min_is_less by x c.ranges.by.fits f.fits) v c.fits-v.1
