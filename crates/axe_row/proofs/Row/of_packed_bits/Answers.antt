use Rattle.std.proofs.Common.{rules, List, ℕ, refl, ap, ◌∙◌}
use Rattle.axe_plane.specs.declared.Plane.TheVariants.{Bits}
use Rattle.axe_row.proofs.PackedRows.{one_degree, packed_plane}
use Rattle.axe_row.proofs.Row.of_packed_bits.Goals as goal

pub of_plane-requires-clause-prime : goal.of_plane-requires-clause-prime
of_plane-requires-clause-prime c = one_degree _ c.requires.even

pub of_plane-requires-clause-plane : goal.of_plane-requires-clause-plane
of_plane-requires-clause-plane c =
    packed_plane c.args.field c.args.len c.args.bytes.now (Bits c.in_ok-bits.bits) c.requires.even
    (record { prime = refl; digits_are = c.in_ok-bits.ensures })

pub returns-clause-entries : goal.returns-clause-entries
returns-clause-entries c =
    c.of_plane.ensures.entries ∙ ap (λ (x : List ℕ). record { order = c.args.field; entries = x }) c.in_ok-bits.ensures

pub of_packed-requires : goal.of_packed-requires
of_packed-requires c = search rules

pub returns-clause-well_formed : goal.returns-clause-well_formed
returns-clause-well_formed c = search rules
