use Rattle.std.proofs.Common.{◌≡◌, ℕ, ◌+◌, ◌-◌, ◌*◌, ◌%◌, ◌≤◌, length, map, refl, ap, sym, ◌∙◌, arith}
use Rattle.std.specs.Simd.Lanes.{chunk, put_chunk}
use Rattle.std.proofs.lemmas.Simd.{length-chunk}
use Rattle.axe_lane.proofs.Progress.{combined_to, combined_to_block, last_block, length-combined_to}
use Rattle.axe_lane.proofs.VectorLaws.{zip2-first}
use Rattle.axe_lane.proofs.sums.reduce_bytes.Goals as goal

pub loop-block-preserved : goal.loop-block-preserved
loop-block-preserved c =
    let f : ℕ → ℕ → ℕ = λ x y. x % c.args.p in
    let n = c.loop-block.block * 32 in
    let d = c.args.bytes.now in
    let done = combined_to f n d d in
    let room : n + 32 ≤ length d = omega arith in
    let long : length (chunk n 32 d) ≡ length (chunk n 32 done) =
    length-chunk n 32 d room ∙ sym (length-chunk n 32 done (omega (arith, length-combined_to f n d d))) in
    c.reduce_block.ensures
    ∙ ap (λ xs. put_chunk n xs (map (λ x. x % c.args.p) (chunk n 32 xs))) c.loop-block.invariant
    ∙ ap (put_chunk n done) (sym (zip2-first (λ x. x % c.args.p) (chunk n 32 done) (chunk n 32 d) long))
    ∙ combined_to_block f 32 n ((c.loop-block.block + 1) * 32) d d (omega arith) (omega arith) refl

pub returns : goal.returns
returns c =
    let m = length c.args.bytes.now - 32 in
    let d = c.args.bytes.now in
    let f : ℕ → ℕ → ℕ = λ x y. x % c.args.p in
    ap (put_chunk m c.loop-block.bytes)
    (c.remainders-last.ensures ∙ sym (zip2-first (λ x. x % c.args.p) (chunk m 32 d) (chunk m 32 d) refl))
    ∙ last_block f 32 m (c.loop-block.block * 32) d d c.loop-block.bytes c.loop-block.invariant (omega arith) (omega arith) refl
    ∙ zip2-first (λ x. x % c.args.p) d d refl
