use Rattle.std.proofs.Common.{ℕ, List, sym, ap, ◌∙◌}
use Rattle.axe_plane.specs.Primes.{byte_prime}
use Rattle.axe_plane.specs.declared.Plane.TheVariants.{Bytes}
use Rattle.axe_plane.proofs.SumLaws.{remainders-of_digits}
use Rattle.axe_plane.proofs.bytes.sums.ByteSums.take.Goals as goal

pub returns-clause-sums : goal.returns-clause-sums
returns-clause-sums c =
    let digits = remainders-of_digits (byte_prime c.plane.inside.prime) c.plane.inside.bytes.items c.plane.invariant in
    rw c.replace.ensures.value
    (ap (λ (x : List ℕ). Bytes (record { prime = c.plane.inside.prime; digits = x })) digits ∙ ap Bytes c.plane.view_is ∙ sym c.in-Bytes.is)
