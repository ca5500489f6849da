use Rattle.std.proofs.Common.{ℕ, ◌*◌, ◌%◌, map, ap, ◌∙◌, w8, Fits}
use Rattle.std.proofs.lemmas.Simd.{map-map}
use Rattle.axe_lane.specs.Bytes.{less_where_not_below}
use Rattle.axe_lane.proofs.VectorLaws.{map-agree}
use Rattle.axe_lane.proofs.ResidueLaws.{six_times}
use Rattle.axe_lane.proofs.sums.remainders.Goals as goal

pub returns : goal.returns
returns c =
    let p = c.args.p in
    let v = c.args.v in
    let L : ℕ → ℕ → ℕ = less_where_not_below in
    c.reduced-5.ensures
    ∙ ap (map (L p)) (c.reduced-4.ensures ∙ ap (map (L (2 * p))) (c.reduced-3.ensures ∙ ap (map (L (4 * p))) (c.reduced-below_eight.ensures
    ∙ ap (map (L (8 * p))) (c.reduced-2.ensures ∙ ap (map (L (16 * p))) c.reduced.ensures
    ∙ map-map (L (16 * p)) (L (32 * p)) v)
    ∙ map-map (L (8 * p)) (λ x. L (16 * p) (L (32 * p) x)) v)
    ∙ map-map (L (4 * p)) (λ x. L (8 * p) (L (16 * p) (L (32 * p) x))) v)
    ∙ map-map (L (2 * p)) (λ x. L (4 * p) (L (8 * p) (L (16 * p) (L (32 * p) x)))) v)
    ∙ map-map (L p) (λ x. L (2 * p) (L (4 * p) (L (8 * p) (L (16 * p) (L (32 * p) x))))) v
    ∙ map-agree (Fits w8) (λ x. L p (L (2 * p) (L (4 * p) (L (8 * p) (L (16 * p) (L (32 * p) x)))))) (λ x. x % p)
    (λ x f. six_times p x c.requires.large f.fits) v c.fits-v.1
