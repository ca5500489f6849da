use Rattle.std.proofs.Common.{◌+◌, ◌*◌, ◌%◌, ◌<◌, ap, ◌∙◌, arith}
use Rattle.std.specs.Simd.Lanes.{chunk, put_chunk}
use Rattle.std.proofs.lemmas.List.Elements.{All-take, All-drop, All-replicate}
use Rattle.std.proofs.lemmas.Simd.{zip2_splat_left, length-chunk, Each1-all}
use Rattle.axe_lane.proofs.VectorLaws.{map-agree}
use Rattle.axe_lane.proofs.ResidueLaws.{small_primes}
use Rattle.axe_lane.proofs.bytes.scale_block.Goals as goal

pub sum_of-product-requires-clause-d_below : goal.sum_of-product-requires-clause-d_below
sum_of-product-requires-clause-d_below g c =
    let few = small_primes g.row.P c.requires.prime in
    All-replicate (λ x. x < g.row.P) 32 0 (omega arith)

pub sum_of-product-requires-clause-s_below : goal.sum_of-product-requires-clause-s_below
sum_of-product-requires-clause-s_below g c =
    All-take (λ x. x < g.row.P) 32 _ (All-drop (λ x. x < g.row.P) c.args.at c.args.dst.now c.requires.dst_below)

pub returns : goal.returns
returns g c =
    let m = c.args.m in
    let p = g.row.P in
    let at = c.args.at in
    let lanes = chunk at 32 c.args.dst.now in
    ap (put_chunk at c.args.dst.now)
    (c.sum_of-product.ensures
    ∙ zip2_splat_left (λ x y. (x + m * y) % p) 0 32 lanes (length-chunk at 32 c.args.dst.now c.requires.dst_has_block)
    ∙ map-agree (λ _. Unit {0}) (λ y. (0 + m * y) % p) (λ y. (m * y) % p) (λ y _. ap (λ z. z % p) (omega arith))
    lanes (Each1-all (λ _. Unit {0}) (λ _. tt) lanes))
