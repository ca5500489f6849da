use Rattle.std.proofs.Common.{◌≡◌, ◌+◌, ◌*◌, List, ℕ, length, set, refl, sym, ap, ◌∙◌, arith, bit_xor}
use Rattle.std.specs.Simd.Lanes.{put_chunk, zip2}
use Rattle.std.proofs.lemmas.Simd.{get_or-zip2, length-zip2}
use Rattle.axe_lane.proofs.FiveRows.{chunk-zip2}
use Rattle.axe_lane.proofs.Progress.{put_all, put_block, put_entry}
use Rattle.axe_lane.proofs.words.put_xor.Goals as goal

-- the sum of two lists as long as a third is as long as it
sum_long : (n : ℕ) (a b : List ℕ) → length a ≡ n → length b ≡ n → length (zip2 bit_xor a b) ≡ n
sum_long n a b a_long b_long = length-zip2 bit_xor a b (a_long ∙ sym b_long) ∙ a_long

pub loop-block-init : goal.loop-block-init
loop-block-init c = refl

pub loop-block-preserved : goal.loop-block-preserved
loop-block-preserved c =
    let n = c.loop-block.block * 4 in
    let a = c.args.a.now in
    let b = c.args.b.now in
    let long = sum_long _ a b c.requires.a_fits c.requires.b_fits in
    c.put_xor_block.ensures
    ∙ ap (put_chunk n c.loop-block.dst) (sym (chunk-zip2 bit_xor n 4 a b (c.requires.b_fits ∙ sym c.requires.a_fits)))
    ∙ put_block 4 n ((c.loop-block.block + 1) * 4) c.args.dst.now (zip2 bit_xor a b) c.loop-block.dst c.loop-block.invariant (omega arith) (omega arith) long

pub loop-at-preserved : goal.loop-at-preserved
loop-at-preserved c =
    let n = c.loop-at.at in
    let a = c.args.a.now in
    let b = c.args.b.now in
    let long = sum_long _ a b c.requires.a_fits c.requires.b_fits in
    ap (set c.loop-at.dst n) (sym (get_or-zip2 bit_xor a b n 0 0 0 (omega arith) (omega arith)))
    ∙ put_entry n c.args.dst.now (zip2 bit_xor a b) c.loop-at.dst c.loop-at.invariant (omega arith) long

pub returns : goal.returns
returns c =
    let a = c.args.a.now in
    let b = c.args.b.now in
    c.loop-at.invariant
    ∙ put_all c.loop-at.at c.args.dst.now (zip2 bit_xor a b) (omega arith) (sum_long _ a b c.requires.a_fits c.requires.b_fits)
