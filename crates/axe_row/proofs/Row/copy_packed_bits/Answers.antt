use Rattle.std.proofs.Common.{rules, ◌+◌, ◌/◌, get_or, length, sym, ap, ◌∙◌}
use Rattle.axe_plane.specs.Planes.{digits_of}
use Rattle.axe_plane.specs.declared.Plane.{Plane}
use Rattle.axe_row.specs.HigherPlanes.{linear_of, quadratic_of}
use Rattle.axe_row.proofs.PackedRows.{bit_is_entry}
use Rattle.axe_row.proofs.RowPlanes.{length_of_row}
use Rattle.axe_row.proofs.Row.copy_packed_bits.Goals as goal

pub copy_packed-requires : goal.copy_packed-requires
copy_packed-requires c =
    c.requires.room ∙ ap (λ n. (n + 7) / 8)
    (length_of_row _ c.self.inside.constant (linear_of c.self.inside.field c.self.inside.higher) (quadratic_of c.self.inside.field c.self.inside.higher) _ c.self.view_is ∙ ap (λ (p : Plane). length (digits_of p)) c.in-Bits.is)

pub returns-clause-entries : goal.returns-clause-entries
returns-clause-entries c = λ e.
    c.copy_packed.ensures.digits e ∙ sym (ap (λ (p : Plane). get_or (digits_of p) e 0) c.in-Bits.is)
    ∙ bit_is_entry _ c.self.inside.constant (linear_of c.self.inside.field c.self.inside.higher) (quadratic_of c.self.inside.field c.self.inside.higher) _ e c.self.invariant.planes c.self.view_is c.requires.even

pub returns-clause-long : goal.returns-clause-long
returns-clause-long c = search rules
