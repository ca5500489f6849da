use Rattle.std.proofs.Common.{◌∙◌}
use Rattle.axe_row.proofs.FormLaws.{formed, kept_formed, form_addable, values_alone, values_of_three}
use Rattle.axe_row.proofs.KeptPlanes.{linear_is_empty, quadratic_is_empty}
use Rattle.axe_row.proofs.PlaneSums.{addable_after, digits_after}
use Rattle.axe_row.proofs.Row.values_of_form.Goals as goal
use Rattle.axe_row.proofs.Row.values_of_form.Goals.{in-Some, in_default}

pub add_scaled-requires-in-Some-clause-fits : goal.add_scaled-requires-in-Some-clause-fits
add_scaled-requires-in-Some-clause-fits c =
    let all = form_addable _ _ _ _ _ _ _ _
    (kept_formed _ _ _ _ _ _ _ _ _ _ _ _ c.self.invariant c.self.view_is c.in-Some.is
    c.deref.ensures c.deref.ensures c.prime_field-field.ensures c.requires.form
    c.order.ensures.value c.len.ensures c.in_ok-values.ensures) in
    (addable_after _ _ _ _ _ _ c.add_scaled.ensures all.linear).fits

pub add_scaled-requires-in-Some-clause-digits : goal.add_scaled-requires-in-Some-clause-digits
add_scaled-requires-in-Some-clause-digits c = digits_after _ _ _ _ c.add_scaled.ensures

pub add_scaled-requires-in-Some-2-clause-fits : goal.add_scaled-requires-in-Some-2-clause-fits
add_scaled-requires-in-Some-2-clause-fits c =
    let all = form_addable _ _ _ _ _ _ _ _
    (kept_formed _ _ _ _ _ _ _ _ _ _ _ _ c.self.invariant c.self.view_is c.in-Some.is
    c.deref.ensures c.deref-in-Some.ensures c.prime_field-field.ensures c.requires.form
    c.order.ensures.value c.len.ensures c.in_ok-values.ensures) in
    let later = addable_after _ _ _ _ _ _ c.add_scaled.ensures all.quadratic in
    (addable_after _ _ _ _ _ _ c.add_scaled-in-Some.ensures later).fits

pub add_scaled-requires-in-Some-2-clause-digits : goal.add_scaled-requires-in-Some-2-clause-digits
add_scaled-requires-in-Some-2-clause-digits c = digits_after _ _ _ _ c.add_scaled-in-Some.ensures

pub of_plane-requires-clause-plane : goal.of_plane-requires-clause-plane
of_plane-requires-clause-plane c =
    elim c.match-self.branch [
      | in-Some w ↦
          (values_of_three _ _ _ _ _ _ _ _ _ _ _ _
          (kept_formed _ _ _ _ _ _ _ _ _ _ _ _ c.self.invariant c.self.view_is w.in-Some.is
          w.deref.ensures w.deref-in-Some.ensures c.prime_field-field.ensures c.requires.form
          c.order.ensures.value c.len.ensures c.in_ok-values.ensures)
          c.add_scaled.ensures w.add_scaled-in-Some.ensures w.add_scaled-in-Some-2.ensures w.values-is).plane_of
      | in_default w ↦
          (values_alone _ _ _ _ _ _ _ _ _ _ (formed _ _ _ _ _ _ _ _ _ _ c.self.invariant.planes c.self.view_is
          c.prime_field-field.ensures c.requires.form c.order.ensures.value c.len.ensures c.in_ok-values.ensures)
          (linear_is_empty _ _ _ _ c.self.invariant w.in_default.is)
          (quadratic_is_empty _ _ _ _ c.self.invariant w.in_default.is) c.add_scaled.ensures w.values-is).plane_of
    ]

pub returns-clause-values : goal.returns-clause-values
returns-clause-values c =
    elim c.match-self.branch [
      | in-Some w ↦
          c.of_plane.ensures.entries ∙ (values_of_three _ _ _ _ _ _ _ _ _ _ _ _
          (kept_formed _ _ _ _ _ _ _ _ _ _ _ _ c.self.invariant c.self.view_is w.in-Some.is
          w.deref.ensures w.deref-in-Some.ensures c.prime_field-field.ensures c.requires.form
          c.order.ensures.value c.len.ensures c.in_ok-values.ensures)
          c.add_scaled.ensures w.add_scaled-in-Some.ensures w.add_scaled-in-Some-2.ensures w.values-is).row_is
      | in_default w ↦
          c.of_plane.ensures.entries
          ∙ (values_alone _ _ _ _ _ _ _ _ _ _ (formed _ _ _ _ _ _ _ _ _ _ c.self.invariant.planes c.self.view_is
          c.prime_field-field.ensures c.requires.form c.order.ensures.value c.len.ensures c.in_ok-values.ensures)
          (linear_is_empty _ _ _ _ c.self.invariant w.in_default.is)
          (quadratic_is_empty _ _ _ _ c.self.invariant w.in_default.is) c.add_scaled.ensures w.values-is).row_is
    ]
