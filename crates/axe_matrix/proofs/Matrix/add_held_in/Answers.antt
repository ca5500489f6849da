use Rattle.std.proofs.Common.{◌+◌, ◌/◌, ◌≤◌, ◌∙◌, sym, ap, subst}
use Rattle.axe_field.specs.Order.{Order, order_number, prime_of}
use Rattle.axe_matrix.proofs.HeldTerms.{held_row_fits}
use Rattle.axe_matrix.proofs.Matrix.add_held_in.Goals as goal

pub hold-held-requires : goal.hold-held-requires
hold-held-requires g c = (
  held_row_fits _ _ c.requires.words c.cols.ensures.well_formed.columns_fit,
  (
    ap order_number c.requires.row_field ∙ c.requires.order,
    (
      subst (λ (o : Order). prime_of o ≤ 3) (sym c.requires.row_field) c.requires.characteristic,
      ap (λ n. (n + 63) / 64) c.requires.columns_fit ∙ c.requires.words,
    ),
  ),
)
