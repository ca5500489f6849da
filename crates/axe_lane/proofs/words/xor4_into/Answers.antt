use Rattle.std.proofs.Common.{rules, ◌≡◌, ◌+◌, ◌*◌, ◌/◌, List, ℕ, length, get_or, set, refl, ap, sym, ◌∙◌, arith, bit_xor}
use Rattle.std.specs.Int.Bits.{xor_assoc}
use Rattle.std.specs.Simd.Lanes.{chunk, put_chunk, zip2}
use Rattle.axe_lane.proofs.FiveRows.{four, four_long, chunk-four, get_or-four, one_by_one}
use Rattle.axe_lane.proofs.Progress.{combined_to, combined_to_block, combined_to_end, last_one, last_pair, last_three}
use Rattle.axe_lane.proofs.words.xor4_into.Goals as goal

pub loop-block-init : goal.loop-block-init
loop-block-init c = refl

pub loop-block-preserved : goal.loop-block-preserved
loop-block-preserved c =
    let n = c.loop-block.block * 4 in
    let x = c.args.dst.now in
    let sum : List ℕ = four bit_xor c.args.a.now c.args.b.now c.args.c.now c.args.d.now in
    let long = four_long bit_xor (length x) _ _ _ _ c.requires.a_fits c.requires.b_fits c.requires.c_fits c.requires.d_fits in
    let piece = chunk-four bit_xor (length x) _ _ _ _ c.requires.a_fits c.requires.b_fits c.requires.c_fits c.requires.d_fits n 4 in
    c.xor4_block.ensures
    ∙ ap (λ (s : List ℕ). put_chunk n c.loop-block.dst (zip2 bit_xor (chunk n 4 c.loop-block.dst) s)) (sym piece)
    ∙ ap (λ xs. put_chunk n xs (zip2 bit_xor (chunk n 4 xs) (chunk n 4 sum))) c.loop-block.invariant
    ∙ combined_to_block bit_xor 4 n ((c.loop-block.block + 1) * 4) x sum (omega arith) (omega arith) long

pub returns-in-0 : goal.returns-in-0
returns-in-0 c =
    let x = c.args.dst.now in
    let long = four_long bit_xor (length x) _ _ _ _ c.requires.a_fits c.requires.b_fits c.requires.c_fits c.requires.d_fits in
    c.loop-block.invariant
    ∙ combined_to_end bit_xor (c.loop-block.block * 4) x (four bit_xor c.args.a.now c.args.b.now c.args.c.now c.args.d.now) (omega (arith, c.in-0.is)) long
    ∙ one_by_one bit_xor (λ i j k. sym (xor_assoc i j k)) x c.args.a.now c.args.b.now c.args.c.now c.args.d.now

pub returns-in-1 : goal.returns-in-1
returns-in-1 c =
    let x = c.args.dst.now in
    let n = length x / 4 * 4 in
    let sum : List ℕ = four bit_xor c.args.a.now c.args.b.now c.args.c.now c.args.d.now in
    let long = four_long bit_xor (length x) _ _ _ _ c.requires.a_fits c.requires.b_fits c.requires.c_fits c.requires.d_fits in
    let e : c.loop-block.block ≡ length x / 4 = omega arith in
    let entry = get_or-four bit_xor (length x) _ _ _ _ c.requires.a_fits c.requires.b_fits c.requires.c_fits c.requires.d_fits n (omega (arith, c.in-1.is)) in
    c.xor4_word.ensures
    ∙ ap (λ s. set c.loop-block.dst n (bit_xor (get_or c.loop-block.dst n 0) s)) (sym entry)
    ∙ last_one bit_xor n x sum c.loop-block.dst (c.loop-block.invariant ∙ ap (λ b. combined_to bit_xor (b * 4) x sum) e) long (omega (arith, c.in-1.is))
    ∙ one_by_one bit_xor (λ i j k. sym (xor_assoc i j k)) x c.args.a.now c.args.b.now c.args.c.now c.args.d.now

pub returns-in-2 : goal.returns-in-2
returns-in-2 c =
    let x = c.args.dst.now in
    let n = length x / 4 * 4 in
    let sum : List ℕ = four bit_xor c.args.a.now c.args.b.now c.args.c.now c.args.d.now in
    let long = four_long bit_xor (length x) _ _ _ _ c.requires.a_fits c.requires.b_fits c.requires.c_fits c.requires.d_fits in
    let piece = chunk-four bit_xor (length x) _ _ _ _ c.requires.a_fits c.requires.b_fits c.requires.c_fits c.requires.d_fits n 2 in
    let e : c.loop-block.block ≡ length x / 4 = omega arith in
    c.xor4_pair.ensures
    ∙ ap (λ (s : List ℕ). put_chunk n c.loop-block.dst (zip2 bit_xor (chunk n 2 c.loop-block.dst) s)) (sym piece)
    ∙ last_pair bit_xor n x sum c.loop-block.dst (c.loop-block.invariant ∙ ap (λ b. combined_to bit_xor (b * 4) x sum) e) long (omega (arith, c.in-2.is))
    ∙ one_by_one bit_xor (λ i j k. sym (xor_assoc i j k)) x c.args.a.now c.args.b.now c.args.c.now c.args.d.now

pub returns-in_default : goal.returns-in_default
returns-in_default c =
    let x = c.args.dst.now in
    let n = length x / 4 * 4 in
    let sum : List ℕ = four bit_xor c.args.a.now c.args.b.now c.args.c.now c.args.d.now in
    let long = four_long bit_xor (length x) _ _ _ _ c.requires.a_fits c.requires.b_fits c.requires.c_fits c.requires.d_fits in
    let piece = chunk-four bit_xor (length x) _ _ _ _ c.requires.a_fits c.requires.b_fits c.requires.c_fits c.requires.d_fits n 2 in
    let e : c.loop-block.block ≡ length x / 4 = omega arith in
    let three : length x ≡ n + 3 = search rules in
    let entry = get_or-four bit_xor (length x) _ _ _ _ c.requires.a_fits c.requires.b_fits c.requires.c_fits c.requires.d_fits (n + 2) (omega (arith, three)) in
    let next = c.xor4_pair-in_default.new.dst in
    c.xor4_word-in_default.ensures
    ∙ ap (λ s. set next (n + 2) (bit_xor (get_or next (n + 2) 0) s)) (sym entry)
    ∙ last_three bit_xor n x sum c.loop-block.dst (c.loop-block.invariant ∙ ap (λ b. combined_to bit_xor (b * 4) x sum) e) long three next
    (c.xor4_pair-in_default.ensures ∙ ap (λ (s : List ℕ). put_chunk n c.loop-block.dst (zip2 bit_xor (chunk n 2 c.loop-block.dst) s)) (sym piece))
    ∙ one_by_one bit_xor (λ i j k. sym (xor_assoc i j k)) x c.args.a.now c.args.b.now c.args.c.now c.args.d.now
