use Rattle.std.proofs.Common.{◌≡◌, ℕ, ◌+◌, ◌*◌, ◌/◌, ◌%◌, ◌<◌, ◌≤◌, length, get_or, set, map, refl, ap, sym, subst, ◌∙◌, arith}
use Rattle.std.specs.Simd.Lanes.{chunk, put_chunk}
use Rattle.std.specs.List.{All}
use Rattle.std.proofs.lemmas.List.Elements.{All-get_or}
use Rattle.std.proofs.lemmas.Simd.{length-chunk}
use Rattle.axe_lane.proofs.Progress.{combined_to, combined_to_block, combined_to_more, combined_to_end, All-combined_to, length-combined_to}
use Rattle.axe_lane.proofs.VectorLaws.{zip2-first}
use Rattle.axe_lane.proofs.ResidueLaws.{small_primes, multiple_is_byte, below_mod}
use Rattle.axe_lane.proofs.bytes.scale.Goals as goal

pub loop-block-init : goal.loop-block-init
loop-block-init g c = refl

pub scale_block-requires-clause-dst_below : goal.scale_block-requires-clause-dst_below
scale_block-requires-clause-dst_below g c =
    let p = g.row.P in
    let m = c.args.m in
    let few = small_primes p c.requires.prime in
    subst (All (λ x. x < p)) (sym c.loop-block.invariant)
    (All-combined_to (λ x y. (m * x) % p) (λ x. x < p) (λ x y. below_mod p (m * x) few.0)
    (c.loop-block.block * 32) c.args.dst.now c.args.dst.now c.requires.dst_below)

pub loop-block-preserved : goal.loop-block-preserved
loop-block-preserved g c =
    let f : ℕ → ℕ → ℕ = λ x y. (c.args.m * x) % g.row.P in
    let n = c.loop-block.block * 32 in
    let d = c.args.dst.now in
    let done = combined_to f n d d in
    let room : n + 32 ≤ length d = omega arith in
    let long : length (chunk n 32 d) ≡ length (chunk n 32 done) =
    length-chunk n 32 d room ∙ sym (length-chunk n 32 done (omega (arith, length-combined_to f n d d))) in
    c.scale_block.ensures
    ∙ ap (λ xs. put_chunk n xs (map (λ x. (c.args.m * x) % g.row.P) (chunk n 32 xs))) c.loop-block.invariant
    ∙ ap (put_chunk n done) (sym (zip2-first (λ x. (c.args.m * x) % g.row.P) (chunk n 32 done) (chunk n 32 d) long))
    ∙ combined_to_block f 32 n ((c.loop-block.block + 1) * 32) d d (omega arith) (omega arith) refl

pub loop-at-init : goal.loop-at-init
loop-at-init g c =
    let f : ℕ → ℕ → ℕ = λ x y. (c.args.m * x) % g.row.P in
    let e : c.loop-block.block ≡ length c.args.dst.now / 32 = omega arith in
    c.loop-block.invariant ∙ ap (λ b. combined_to f (b * 32) c.args.dst.now c.args.dst.now) e

pub overflow_mul-dst : goal.overflow_mul-dst
overflow_mul-dst g c =
    let p = g.row.P in
    let m = c.args.m in
    let n = c.loop-at.at in
    let few = small_primes p c.requires.prime in
    let x = get_or c.loop-at.dst n 0 in
    let combined = subst (All (λ d. d < p)) (sym c.loop-at.invariant)
    (All-combined_to (λ d _. (m * d) % p) (λ d. d < p) (λ d _. below_mod p (m * d) few.0)
    n c.args.dst.now c.args.dst.now c.requires.dst_below) in
    let x_below : x < p = All-get_or (λ d. d < p) c.loop-at.dst n 0 (omega arith) combined in
    record { fits = multiple_is_byte p m x few.1 c.requires.factor x_below }

pub loop-at-preserved : goal.loop-at-preserved
loop-at-preserved g c =
    let f : ℕ → ℕ → ℕ = λ x y. (c.args.m * x) % g.row.P in
    let n = c.loop-at.at in
    ap (λ xs. set xs n (f (get_or xs n 0) 0)) c.loop-at.invariant
    ∙ combined_to_more f n c.args.dst.now c.args.dst.now (omega arith) refl

pub returns : goal.returns
returns g c =
    let d = c.args.dst.now in
    c.loop-at.invariant
    ∙ combined_to_end (λ x y. (c.args.m * x) % g.row.P) c.loop-at.at d d (omega arith) refl
    ∙ zip2-first (λ x. (c.args.m * x) % g.row.P) d d refl
