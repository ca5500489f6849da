use Rattle.std.proofs.Common.{ℕ, ◌+◌, ◌/◌, ◌%◌, ◌<◌, length, set, refl, ap, ◌∙◌, arith}
use Rattle.std.proofs.lemmas.Grind.{get_or_default_zero}
use Rattle.axe_layer.proofs.NumberDigits.{length-mapped_to, mapped_more, mapped_all}
use Rattle.axe_plane.proofs.bytes.reduce.Goals as goal

pub loop-at-preserved : goal.loop-at-preserved
loop-at-preserved g c =
    let f : ℕ → ℕ = λ byte. (byte / g.row.D) % g.row.P in
    let n = c.loop-at.at in
    let now = c.loop-at.bytes.items in
    let before = c.args.bytes.now.items in
    let long = ap length c.loop-at.invariant ∙ length-mapped_to f n before in
    let within : n < length now = omega (arith, c.loop-at-test.true) in
    ap (λ x. set now n (f x)) (c.index.ensures ∙ get_or_default_zero now n c.index.result.now within)
    ∙ mapped_more f n (n + 1) before now c.loop-at.invariant (omega (arith, long)) refl

pub returns : goal.returns
returns g c =
    let f : ℕ → ℕ = λ byte. (byte / g.row.D) % g.row.P in
    let n = c.loop-at.at in
    let before = c.args.bytes.now.items in
    let long = ap length c.loop-at.invariant ∙ length-mapped_to f n before in
    c.loop-at.invariant ∙ mapped_all f n before (omega (arith, long, c.loop-at-test.false))
