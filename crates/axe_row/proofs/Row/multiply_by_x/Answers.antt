use Rattle.std.proofs.Common.{rules, ◌∙◌, arith}
use Rattle.axe_row.proofs.KeptPlanes.{alone_order, kept_planes, kept_view, kept_not_prime}
use Rattle.axe_row.proofs.RowPlanes.{IsRow-of_planes, own_digits, with_length}
use Rattle.axe_row.proofs.MultiplesByX.{degree_along, turned, factor_is, middle_addable, last_addable, top_factor_is_digit, times_x_planes, times_x_entries, row_times_x}
use Rattle.axe_row.proofs.Row.multiply_by_x.Goals as goal

pub add_scaled-requires-clause-factor : goal.add_scaled-requires-clause-factor
add_scaled-requires-clause-factor c =
    (middle_addable _ _ _ _ _ _ _ _ _
    (turned _ _ _ _ _ _ _ _ _ c.degree-degree.ensures (degree_along _ _ _ c.self.view_is c.requires) (kept_planes _ _ _ _ c.self.invariant _ _ _ c.in-Some.is c.deref_mut.ensures.value c.deref_mut.ensures.value) c.rotate.ensures)
    (factor_is _ _ _ 1 _ (c.from.ensures ∙ c.degree-degree.ensures) c.prime.ensures c.plane_matrix-matrix.ensures.value)).factor_is_digit

pub add_scaled-requires-2-clause-factor : goal.add_scaled-requires-2-clause-factor
add_scaled-requires-2-clause-factor c =
    (last_addable _ _ _ _ _ _ _ _ _
    (turned _ _ _ _ _ _ _ _ _ c.degree-degree.ensures (degree_along _ _ _ c.self.view_is c.requires) (kept_planes _ _ _ _ c.self.invariant _ _ _ c.in-Some.is c.deref_mut.ensures.value c.deref_mut.ensures.value) c.rotate.ensures)
    (factor_is _ _ _ 2 _ (c.from.ensures ∙ c.degree-degree.ensures) c.prime.ensures c.plane_matrix-matrix.ensures.value)).factor_is_digit

pub add_scaled-requires-2-clause-fits : goal.add_scaled-requires-2-clause-fits
add_scaled-requires-2-clause-fits c =
    (last_addable _ _ _ _ _ _ _ _ _
    (turned _ _ _ _ _ _ _ _ _ c.degree-degree.ensures (degree_along _ _ _ c.self.view_is c.requires) (kept_planes _ _ _ _ c.self.invariant _ _ _ c.in-Some.is c.deref_mut.ensures.value c.deref_mut.ensures.value) c.rotate.ensures)
    (factor_is _ _ _ 2 _ (c.from.ensures ∙ c.degree-degree.ensures) c.prime.ensures c.plane_matrix-matrix.ensures.value)).fits

pub scale-requires : goal.scale-requires
scale-requires c =
    top_factor_is_digit _ _ _ _ _ _ _ _ _
    (turned _ _ _ _ _ _ _ _ _ c.degree-degree.ensures (degree_along _ _ _ c.self.view_is c.requires) (kept_planes _ _ _ _ c.self.invariant _ _ _ c.in-Some.is c.deref_mut.ensures.value c.deref_mut.ensures.value) c.rotate.ensures)
    (factor_is _ _ _ 0 _ (c.from.ensures ∙ c.degree-degree.ensures) c.prime.ensures c.plane_matrix-matrix.ensures.value)

pub invariant_of-self : goal.invariant_of-self
invariant_of-self c = record {
  planes =
      with_length _ _ _ _ _ (times_x_planes _ _ _ _ _ _ _ _ _ _ _ _ _ _
      (turned _ _ _ _ _ _ _ _ _ c.degree-degree.ensures (degree_along _ _ _ c.self.view_is c.requires) (kept_planes _ _ _ _ c.self.invariant _ _ _ c.in-Some.is c.deref_mut.ensures.value c.deref_mut.ensures.value) c.rotate.ensures)
      (record {
        first = factor_is _ _ _ 0 _ (c.from.ensures ∙ c.degree-degree.ensures) c.prime.ensures c.plane_matrix-matrix.ensures.value;
        second = factor_is _ _ _ 1 _ (c.from.ensures ∙ c.degree-degree.ensures) c.prime.ensures c.plane_matrix-matrix.ensures.value;
        third = factor_is _ _ _ 2 _ (c.from.ensures ∙ c.degree-degree.ensures) c.prime.ensures c.plane_matrix-matrix.ensures.value;
        constant = c.scale.ensures;
        linear = c.add_scaled.ensures;
        quadratic = c.add_scaled-2.ensures;
      }));
  needed = kept_not_prime _ _ _ _ c.self.invariant _ c.in-Some.is;
}

pub returns-clause-multiple : goal.returns-clause-multiple
returns-clause-multiple c =
    row_times_x _ c.self.inside.constant c.deref_mut.result.now.linear c.deref_mut.result.now.quadratic
    c.scale.new.self c.add_scaled.new.self c.add_scaled-2.new.self _
    (kept_view _ c.self.inside.constant _ _ _ _ _ c.self.view_is c.in-Some.is c.deref_mut.ensures.value c.deref_mut.ensures.value)
    (times_x_entries _ _ _ _ _ _ _ _ _ _ _ _ _ _
    (turned _ _ _ _ _ _ _ _ _ c.degree-degree.ensures (degree_along _ _ _ c.self.view_is c.requires) (kept_planes _ _ _ _ c.self.invariant _ _ _ c.in-Some.is c.deref_mut.ensures.value c.deref_mut.ensures.value) c.rotate.ensures)
    (record {
      first = factor_is _ _ _ 0 _ (c.from.ensures ∙ c.degree-degree.ensures) c.prime.ensures c.plane_matrix-matrix.ensures.value;
      second = factor_is _ _ _ 1 _ (c.from.ensures ∙ c.degree-degree.ensures) c.prime.ensures c.plane_matrix-matrix.ensures.value;
      third = factor_is _ _ _ 2 _ (c.from.ensures ∙ c.degree-degree.ensures) c.prime.ensures c.plane_matrix-matrix.ensures.value;
      constant = c.scale.ensures;
      linear = c.add_scaled.ensures;
      quadratic = c.add_scaled-2.ensures;
    }))

pub returns-clause-well_formed : goal.returns-clause-well_formed
returns-clause-well_formed c = IsRow-of_planes _ _ _ _ _ (invariant_of-self c).planes

-- over a field that is not prime all planes are kept
pub unreachable-requires : goal.unreachable-requires
unreachable-requires c = omega (arith, c.requires, alone_order _ _ _ _ _ _ c.self.invariant c.self.view_is c.in_default.is)

pub plane_matrix-matrix-requires : goal.plane_matrix-matrix-requires
plane_matrix-matrix-requires c = search rules

pub overflow_sub-factors : goal.overflow_sub-factors
overflow_sub-factors c = search rules

pub offset_bounds-matrix-from : goal.offset_bounds-matrix-from
offset_bounds-matrix-from c = search rules

pub bounds-matrix-from : goal.bounds-matrix-from
bounds-matrix-from c = search rules

pub add_scaled-requires-clause-prime : goal.add_scaled-requires-clause-prime
add_scaled-requires-clause-prime c =
    (middle_addable _ _ _ _ _ _ _ _ _
    (turned _ _ _ _ _ _ _ _ _ c.degree-degree.ensures (degree_along _ _ _ c.self.view_is c.requires) (kept_planes _ _ _ _ c.self.invariant _ _ _ c.in-Some.is c.deref_mut.ensures.value c.deref_mut.ensures.value) c.rotate.ensures)
    (factor_is _ _ _ 1 _ (c.from.ensures ∙ c.degree-degree.ensures) c.prime.ensures c.plane_matrix-matrix.ensures.value)).prime

pub add_scaled-requires-clause-fits : goal.add_scaled-requires-clause-fits
add_scaled-requires-clause-fits c =
    (middle_addable _ _ _ _ _ _ _ _ _
    (turned _ _ _ _ _ _ _ _ _ c.degree-degree.ensures (degree_along _ _ _ c.self.view_is c.requires) (kept_planes _ _ _ _ c.self.invariant _ _ _ c.in-Some.is c.deref_mut.ensures.value c.deref_mut.ensures.value) c.rotate.ensures)
    (factor_is _ _ _ 1 _ (c.from.ensures ∙ c.degree-degree.ensures) c.prime.ensures c.plane_matrix-matrix.ensures.value)).fits

pub add_scaled-requires-clause-digits : goal.add_scaled-requires-clause-digits
add_scaled-requires-clause-digits c =
    own_digits (turned _ _ _ _ _ _ _ _ _ c.degree-degree.ensures (degree_along _ _ _ c.self.view_is c.requires) (kept_planes _ _ _ _ c.self.invariant _ _ _ c.in-Some.is c.deref_mut.ensures.value c.deref_mut.ensures.value) c.rotate.ensures).middle

pub add_scaled-requires-2-clause-prime : goal.add_scaled-requires-2-clause-prime
add_scaled-requires-2-clause-prime c =
    (last_addable _ _ _ _ _ _ _ _ _
    (turned _ _ _ _ _ _ _ _ _ c.degree-degree.ensures (degree_along _ _ _ c.self.view_is c.requires) (kept_planes _ _ _ _ c.self.invariant _ _ _ c.in-Some.is c.deref_mut.ensures.value c.deref_mut.ensures.value) c.rotate.ensures)
    (factor_is _ _ _ 2 _ (c.from.ensures ∙ c.degree-degree.ensures) c.prime.ensures c.plane_matrix-matrix.ensures.value)).prime

pub add_scaled-requires-2-clause-digits : goal.add_scaled-requires-2-clause-digits
add_scaled-requires-2-clause-digits c =
    own_digits (turned _ _ _ _ _ _ _ _ _ c.degree-degree.ensures (degree_along _ _ _ c.self.view_is c.requires) (kept_planes _ _ _ _ c.self.invariant _ _ _ c.in-Some.is c.deref_mut.ensures.value c.deref_mut.ensures.value) c.rotate.ensures).last
