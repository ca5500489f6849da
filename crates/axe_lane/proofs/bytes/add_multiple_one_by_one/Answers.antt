use Rattle.std.proofs.Common.{ℕ, ◌+◌, ◌*◌, ◌%◌, ◌<◌, get_or, set, refl, ap, sym, subst, ◌∙◌, arith}
use Rattle.std.specs.List.{All}
use Rattle.std.proofs.lemmas.List.Elements.{All-get_or}
use Rattle.axe_lane.proofs.Progress.{combined_to_more, combined_to_end, All-combined_to}
use Rattle.axe_lane.proofs.ResidueLaws.{small_primes, sum_is_byte, below_mod}
use Rattle.axe_lane.proofs.bytes.add_multiple_one_by_one.Goals as goal

pub loop-at-init : goal.loop-at-init
loop-at-init g c = refl

pub overflow_add-dst : goal.overflow_add-dst
overflow_add-dst g c =
    let p = g.row.P in
    let m = c.args.m in
    let n = c.loop-at.at in
    let few = small_primes p c.requires.prime in
    let x = get_or c.loop-at.dst n 0 in
    let y = get_or c.args.src.now n 0 in
    let combined = subst (All (λ d. d < p)) (sym c.loop-at.invariant)
    (All-combined_to (λ d s. (d + m * s) % p) (λ d. d < p) (λ d s. below_mod p (d + m * s) few.0)
    n c.args.dst.now c.args.src.now c.requires.dst_below) in
    let x_below : x < p = All-get_or (λ d. d < p) c.loop-at.dst n 0 (omega arith) combined in
    let y_below : y < p = All-get_or (λ s. s < p) c.args.src.now n 0 (omega arith) c.requires.src_below in
    record { fits = sum_is_byte p m x y few.1 c.requires.factor x_below y_below }

pub loop-at-preserved : goal.loop-at-preserved
loop-at-preserved g c =
    let f : ℕ → ℕ → ℕ = λ x y. (x + c.args.m * y) % g.row.P in
    let n = c.loop-at.at in
    ap (λ xs. set xs n (f (get_or xs n 0) (get_or c.args.src.now n 0))) c.loop-at.invariant
    ∙ combined_to_more f n c.args.dst.now c.args.src.now (omega arith) c.requires.fits

pub returns : goal.returns
returns g c =
    let f : ℕ → ℕ → ℕ = λ x y. (x + c.args.m * y) % g.row.P in
    c.loop-at.invariant
    ∙ combined_to_end f c.loop-at.at c.args.dst.now c.args.src.now (omega arith) c.requires.fits
