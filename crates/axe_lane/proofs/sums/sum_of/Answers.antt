use Rattle.std.proofs.Common.{ℕ, ◌<◌, ◌+◌, ◌*◌, ◌%◌, map, ap, ◌∙◌}
use Rattle.std.specs.Simd.Lanes.{zip2}
use Rattle.std.proofs.Math.Nat.{mod-eq_of_lt}
use Rattle.axe_lane.specs.Bytes.{less_where_not_below}
use Rattle.axe_lane.proofs.LazySums.{is_byte}
use Rattle.axe_lane.proofs.VectorLaws.{map-zip2, zip2-map_right, zip2-agree}
use Rattle.axe_lane.proofs.sums.sum_of.Goals as goal

pub returns : goal.returns
returns g c =
    let p = g.row.P in
    let m = c.args.m in
    let d = c.args.d in
    let s = c.args.s in
    let less : ℕ → ℕ = less_where_not_below (16 * p) in
    let add : ℕ → ℕ → ℕ = λ x y. (x + y) % 256 in
    let sum : ℕ → ℕ → ℕ = λ x y. add x (m * y) in
    c.reduced.ensures
    ∙ ap (map less) (ap (zip2 add d) c.times.ensures ∙ zip2-map_right add (λ y. m * y) d s)
    ∙ map-zip2 less sum d s
    ∙ zip2-agree (λ x. x < 16 * p) (λ y. y < p) (λ x y. less (sum x y)) (λ x y. less (x + m * y))
    (λ x y a b. ap less (mod-eq_of_lt (is_byte p m x y c.requires.prime c.requires.factor a b))) d s c.requires.d_below c.requires.s_below
