use Rattle.std.proofs.Common.{◌≡◌, ◌<◌, length, map, get_or, arith, ℕ, ap, sym, ◌∙◌}
use Rattle.std.proofs.lemmas.List.{ext_get_or, get_or-map, length-map}
use Rattle.std.proofs.lemmas.Grind.{common_steps}
use Rattle.axe_plane.proofs.bytes.BytePlane.select.Goals as goal

pub returns : goal.returns
returns c =
    let f : ℕ → ℕ = λ index. get_or c.args.self.now.digits index 0 in
    let indices = c.args.indices.now in
    let is : c.loop-at.bytes.items ≡ map f indices =
    ext_get_or 0 c.loop-at.bytes.items (map f indices) (c.loop-at.invariant.long ∙ sym (length-map indices f)) (λ e inside.
    let here : e < length indices = omega (arith, c.loop-at.invariant.long) in
    c.loop-at.invariant.so_far e (omega (arith, c.loop-at-test.false, c.len-at-end.ensures, c.in_ok-bytes.ensures.len))
    ∙ sym (get_or-map f indices e 0 0 here)) in
    let prime : c.self.inside.prime ≡ c.args.self.now.prime = ap (λ s. s.prime) c.self.view_is in
    λ i. record { prime = prime i; digits = is i }

pub loop-at-preserved : goal.loop-at-preserved
loop-at-preserved c = grind (arith, common_steps)
