use Rattle.std.proofs.Common.{◌≡◌, ◌+◌, get_or, ap, ◌∙◌}
use Rattle.axe_algebra.specs.Lists.{listed}
use Rattle.axe_bits.proofs.PieceLaws.{taken_part}
use Rattle.axe_plane.proofs.bytes.BytePlane.part.Goals as goal

pub returns : goal.returns
returns c =
    let digits = c.args.self.now.digits in
    let held : c.self.inside.bytes.items ≡ digits = ap (λ s. s.digits) c.self.view_is in
    let is : c.in_ok-bytes.bytes.items ≡ listed c.args.len (λ j. get_or digits (c.args.start + j) 0) =
    c.in_ok-bytes.ensures.items ∙ taken_part c.args.start c.args.len c.deref.result.now digits (c.deref.ensures.value ∙ held) c.requires in
    let prime : c.self.inside.prime ≡ c.args.self.now.prime = ap (λ s. s.prime) c.self.view_is in
    λ i. record { prime = prime i; digits = is i }
