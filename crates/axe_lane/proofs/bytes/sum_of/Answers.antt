use Rattle.std.proofs.Common.{ℕ, ◌<◌, ◌+◌, ◌*◌, ◌%◌, get_or, map, ap, ◌∙◌, arith}
use Rattle.std.specs.Simd.Lanes.{zip2}
use Rattle.axe_lane.specs.Bytes.{less_where_not_below}
use Rattle.axe_lane.proofs.VectorLaws.{map-zip2, zip2-map_right, zip2-agree}
use Rattle.axe_lane.proofs.ResidueLaws.{small_primes, multiple_is_byte, reduced_sum}
use Rattle.axe_lane.proofs.bytes.sum_of.Goals as goal

pub times-requires : goal.times-requires
times-requires g c =
    let p = g.row.P in
    let few = small_primes p c.requires.prime in
    λ k d inside.
    multiple_is_byte p c.args.m (get_or c.args.s k d) few.1 c.requires.factor (c.requires.s_below k d inside)

pub overflow_mul-reduced : goal.overflow_mul-reduced
overflow_mul-reduced g c = omega (arith, small_primes g.row.P c.requires.prime)

pub overflow_mul-reduced-2 : goal.overflow_mul-reduced-2
overflow_mul-reduced-2 g c = omega (arith, small_primes g.row.P c.requires.prime)

pub returns : goal.returns
returns g c =
    let p = g.row.P in
    let m = c.args.m in
    let d = c.args.d in
    let s = c.args.s in
    let few = small_primes p c.requires.prime in
    let less = less_where_not_below in
    let add : ℕ → ℕ → ℕ = λ x y. (x + y) % 256 in
    let sum : ℕ → ℕ → ℕ = λ x y. add x (m * y) in
    let once : ℕ → ℕ → ℕ = λ x y. less (4 * p) (sum x y) in
    let twice : ℕ → ℕ → ℕ = λ x y. less (2 * p) (once x y) in
    let thrice : ℕ → ℕ → ℕ = λ x y. less p (twice x y) in
    let sums = ap (zip2 add d) c.times.ensures ∙ zip2-map_right add (λ y. m * y) d s in
    let first = c.reduced.ensures ∙ ap (map (less (4 * p))) sums ∙ map-zip2 (less (4 * p)) sum d s in
    let second = c.reduced-2.ensures ∙ ap (map (less (2 * p))) first ∙ map-zip2 (less (2 * p)) once d s in
    c.reduced-3.ensures ∙ ap (map (less p)) second ∙ map-zip2 (less p) twice d s
    ∙ zip2-agree (λ x. x < p) (λ y. y < p) thrice (λ x y. (x + m * y) % p)
    (λ x y a b. reduced_sum p m x y few.1 c.requires.factor a b) d s c.requires.d_below c.requires.s_below
