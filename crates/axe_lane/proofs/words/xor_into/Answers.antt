use Rattle.std.proofs.Common.{rules, ◌≡◌, ◌+◌, ◌*◌, ◌/◌, length, refl, ap, ◌∙◌, arith, bit_xor}
use Rattle.std.specs.Simd.Lanes.{chunk, put_chunk, zip2}
use Rattle.axe_lane.proofs.Progress.{combined_to, combined_to_block, combined_to_end, last_one, last_pair, last_three}
use Rattle.axe_lane.proofs.words.xor_into.Goals as goal

pub loop-block-init : goal.loop-block-init
loop-block-init c = refl

pub loop-block-preserved : goal.loop-block-preserved
loop-block-preserved c =
    let n = c.loop-block.block * 4 in
    c.xor_block.ensures
    ∙ ap (λ xs. put_chunk n xs (zip2 bit_xor (chunk n 4 xs) (chunk n 4 c.args.src.now))) c.loop-block.invariant
    ∙ combined_to_block bit_xor 4 n ((c.loop-block.block + 1) * 4) c.args.dst.now c.args.src.now (omega arith) (omega arith) c.requires

pub returns-in-0 : goal.returns-in-0
returns-in-0 c =
    c.loop-block.invariant ∙ combined_to_end bit_xor (c.loop-block.block * 4) c.args.dst.now c.args.src.now (omega (arith, c.in-0.is)) c.requires

pub returns-in-1 : goal.returns-in-1
returns-in-1 c =
    let e : c.loop-block.block ≡ length c.args.dst.now / 4 = omega arith in
    last_one bit_xor (length c.args.dst.now / 4 * 4) c.args.dst.now c.args.src.now c.loop-block.dst
    (c.loop-block.invariant ∙ ap (λ b. combined_to bit_xor (b * 4) c.args.dst.now c.args.src.now) e) c.requires (omega (arith, c.in-1.is))

pub returns-in-2 : goal.returns-in-2
returns-in-2 c =
    let e : c.loop-block.block ≡ length c.args.dst.now / 4 = omega arith in
    c.xor_pair.ensures
    ∙ last_pair bit_xor (length c.args.dst.now / 4 * 4) c.args.dst.now c.args.src.now c.loop-block.dst
    (c.loop-block.invariant ∙ ap (λ b. combined_to bit_xor (b * 4) c.args.dst.now c.args.src.now) e) c.requires (omega (arith, c.in-2.is))

pub returns-in_default : goal.returns-in_default
returns-in_default c =
    let e : c.loop-block.block ≡ length c.args.dst.now / 4 = omega arith in
    last_three bit_xor (length c.args.dst.now / 4 * 4) c.args.dst.now c.args.src.now c.loop-block.dst
    (c.loop-block.invariant ∙ ap (λ b. combined_to bit_xor (b * 4) c.args.dst.now c.args.src.now) e) c.requires (search rules) c.xor_pair-in_default.new.dst
    c.xor_pair-in_default.ensures
