use Rattle.std.proofs.Common.{◌≡◌, ◌<◌, length, refl, sym, ap, subst, ◌∙◌}
use Rattle.axe_field.specs.Order.{degree_of}
use Rattle.axe_field.specs.Planes.{matrix_of_multiplication}
use Rattle.axe_lane.specs.Bytes.{AreDigits}
use Rattle.axe_plane.specs.Planes.{digits_of}
use Rattle.axe_plane.specs.Tables.{plane_at, prime_of_table}
use Rattle.axe_row.specs.HigherPlanes.{linear_of, quadratic_of}
use Rattle.axe_row.proofs.KeptPlanes.{row_alone, kept_planes, kept_view, linear_is_empty, quadratic_is_empty, no_linear, no_quadratic, first_factor}
use Rattle.axe_row.proofs.PrimeRows.{element_is_digit}
use Rattle.axe_row.proofs.RowPlanes.{prime-positive}
use Rattle.axe_row.specs.Planes.{column}
use Rattle.axe_row.proofs.PlaneSums.{addable_constant, addable_linear, addable_quadratic}
use Rattle.axe_row.proofs.TablePlanes.{IsTableOfRows-of_planes, entry_within, digits_of-plane_at, sum_with_entry, put_alone, empty_put, put_rows, put_tables, table_summands, table_with_sum}
use Rattle.axe_row.proofs.combos.Combos.put_sum.Goals as goal

-- a row of one plane alone
pub put_sum-requires-clause-to : goal.put_sum-requires-clause-to
put_sum-requires-clause-to c =
    let o = c.self.inside.field in
    let h = table_summands _ _ _ _ _ _ _ c.self.inside.constant c.self.inside.linear c.self.inside.quadratic c.row.inside.constant (linear_of c.row.inside.field c.row.inside.higher) (quadratic_of c.row.inside.field c.row.inside.higher)
    (matrix_of_multiplication o c.args.scalar) _ _ c.self.invariant c.row.invariant.planes c.self.view_is c.row.view_is c.requires.field
    c.requires.fits c.requires.element refl c.requires.earlier c.requires.within in
    entry_within _ _ _ _ _ h.tables.constant h.within

pub put_sum-requires-clause-factor : goal.put_sum-requires-clause-factor
put_sum-requires-clause-factor c =
    let o = c.self.inside.field in
    let h = table_summands _ _ _ _ _ _ _ c.self.inside.constant c.self.inside.linear c.self.inside.quadratic c.row.inside.constant (linear_of c.row.inside.field c.row.inside.higher) (quadratic_of c.row.inside.field c.row.inside.higher)
    (matrix_of_multiplication o c.args.scalar) _ _ c.self.invariant c.row.invariant.planes c.self.view_is c.row.view_is c.requires.field
    c.requires.fits c.requires.element refl c.requires.earlier c.requires.within in
    let one : degree_of o ≡ 1 = row_alone _ _ _ _ _ _ _ _ _ c.row.invariant c.self.view_is c.row.view_is c.requires.field c.in_default.is in
    subst (λ p. c.args.scalar < p) (sym h.tables.constant.prime) (element_is_digit o c.args.scalar one h.summands.scalar)

pub put_sum-requires-clause-fits : goal.put_sum-requires-clause-fits
put_sum-requires-clause-fits c =
    let o = c.self.inside.field in
    let h = table_summands _ _ _ _ _ _ _ c.self.inside.constant c.self.inside.linear c.self.inside.quadratic c.row.inside.constant (linear_of c.row.inside.field c.row.inside.higher) (quadratic_of c.row.inside.field c.row.inside.higher)
    (matrix_of_multiplication o c.args.scalar) _ _ c.self.invariant c.row.invariant.planes c.self.view_is c.row.view_is c.requires.field
    c.requires.fits c.requires.element refl c.requires.earlier c.requires.within in
    λ nonzero. h.summands.others.constant.long ∙ sym h.summands.planes.constant.long ∙ ap length (digits_of-plane_at c.self.inside.constant c.args.from)

pub put_sum-requires-clause-digits : goal.put_sum-requires-clause-digits
put_sum-requires-clause-digits c =
    let o = c.self.inside.field in
    let h = table_summands _ _ _ _ _ _ _ c.self.inside.constant c.self.inside.linear c.self.inside.quadratic c.row.inside.constant (linear_of c.row.inside.field c.row.inside.higher) (quadratic_of c.row.inside.field c.row.inside.higher)
    (matrix_of_multiplication o c.args.scalar) _ _ c.self.invariant c.row.invariant.planes c.self.view_is c.row.view_is c.requires.field
    c.requires.fits c.requires.element refl c.requires.earlier c.requires.within in
    subst (AreDigits (prime_of_table c.self.inside.constant)) (digits_of-plane_at c.self.inside.constant c.args.from)
    (subst (λ p. AreDigits p (digits_of (plane_at c.self.inside.constant c.args.from))) (sym h.tables.constant.prime) h.summands.planes.constant.digits)

pub invariant_of-self : goal.invariant_of-self
invariant_of-self c =
    let o = c.self.inside.field in
    let h = table_summands _ _ _ _ _ _ _ c.self.inside.constant c.self.inside.linear c.self.inside.quadratic c.row.inside.constant (linear_of c.row.inside.field c.row.inside.higher) (quadratic_of c.row.inside.field c.row.inside.higher)
    (matrix_of_multiplication o c.args.scalar) _ _ c.self.invariant c.row.invariant.planes c.self.view_is c.row.view_is c.requires.field
    c.requires.fits c.requires.element refl c.requires.earlier c.requires.within in
    let one : degree_of o ≡ 1 = row_alone _ _ _ _ _ _ _ _ _ c.row.invariant c.self.view_is c.row.view_is c.requires.field c.in_default.is in
    let linear = linear_is_empty _ _ _ _ c.row.invariant c.in_default.is in
    let quadratic = quadratic_is_empty _ _ _ _ c.row.invariant c.in_default.is in
    let first = first_factor _ _ one h.summands.scalar in
    let hc = put_alone _ _ c.args.from c.args.scalar c.self.inside.constant (column (matrix_of_multiplication o c.args.scalar) 0) c.row.inside.constant (linear_of c.row.inside.field c.row.inside.higher) (quadratic_of c.row.inside.field c.row.inside.higher) _
    (sym h.tables.constant.prime) (prime-positive o) first linear quadratic
    (sum_with_entry _ _ _ _ _ _ c.put_sum.ensures) in
    let hl = empty_put _ _ _ _ _ c.self.inside.linear (column (matrix_of_multiplication o c.args.scalar) 1) c.row.inside.constant (linear_of c.row.inside.field c.row.inside.higher) (quadratic_of c.row.inside.field c.row.inside.higher) h.tables.linear (no_linear _ _ one) h.earlier h.within in
    let hq = empty_put _ _ _ _ _ c.self.inside.quadratic (column (matrix_of_multiplication o c.args.scalar) 2) c.row.inside.constant (linear_of c.row.inside.field c.row.inside.higher) (quadratic_of c.row.inside.field c.row.inside.higher) h.tables.quadratic (no_quadratic _ _ one) h.earlier h.within in
    put_tables _ _ _ _ _ _ _ _ _ _ _ _ _ _ _ _ _ _ h hc hl hq

pub returns-in_default-clause-sum : goal.returns-in_default-clause-sum
returns-in_default-clause-sum c =
    let o = c.self.inside.field in
    let h = table_summands _ _ _ _ _ _ _ c.self.inside.constant c.self.inside.linear c.self.inside.quadratic c.row.inside.constant (linear_of c.row.inside.field c.row.inside.higher) (quadratic_of c.row.inside.field c.row.inside.higher)
    (matrix_of_multiplication o c.args.scalar) _ _ c.self.invariant c.row.invariant.planes c.self.view_is c.row.view_is c.requires.field
    c.requires.fits c.requires.element refl c.requires.earlier c.requires.within in
    let one : degree_of o ≡ 1 = row_alone _ _ _ _ _ _ _ _ _ c.row.invariant c.self.view_is c.row.view_is c.requires.field c.in_default.is in
    let linear = linear_is_empty _ _ _ _ c.row.invariant c.in_default.is in
    let quadratic = quadratic_is_empty _ _ _ _ c.row.invariant c.in_default.is in
    let first = first_factor _ _ one h.summands.scalar in
    let hc = put_alone _ _ c.args.from c.args.scalar c.self.inside.constant (column (matrix_of_multiplication o c.args.scalar) 0) c.row.inside.constant (linear_of c.row.inside.field c.row.inside.higher) (quadratic_of c.row.inside.field c.row.inside.higher) _
    (sym h.tables.constant.prime) (prime-positive o) first linear quadratic
    (sum_with_entry _ _ _ _ _ _ c.put_sum.ensures) in
    let hl = empty_put _ _ _ _ _ c.self.inside.linear (column (matrix_of_multiplication o c.args.scalar) 1) c.row.inside.constant (linear_of c.row.inside.field c.row.inside.higher) (quadratic_of c.row.inside.field c.row.inside.higher) h.tables.linear (no_linear _ _ one) h.earlier h.within in
    let hq = empty_put _ _ _ _ _ c.self.inside.quadratic (column (matrix_of_multiplication o c.args.scalar) 2) c.row.inside.constant (linear_of c.row.inside.field c.row.inside.higher) (quadratic_of c.row.inside.field c.row.inside.higher) h.tables.quadratic (no_quadratic _ _ one) h.earlier h.within in
    table_with_sum _ _ _ _ _ _ _ c.self.inside.constant c.self.inside.linear c.self.inside.quadratic c.row.inside.constant (linear_of c.row.inside.field c.row.inside.higher) (quadratic_of c.row.inside.field c.row.inside.higher)
    _ _ _ c.self.view_is c.row.view_is c.requires.field
    (put_rows _ _ _ _ _ _ _ _ _ _ _ _ _ _ _ _ _ _ h hc hl hq)

pub returns-in_default-clause-well_formed : goal.returns-in_default-clause-well_formed
returns-in_default-clause-well_formed c = IsTableOfRows-of_planes _ _ _ _ _ _ (invariant_of-self c)

-- a row of three planes
pub put_multiples-requires-clause-to : goal.put_multiples-requires-clause-to
put_multiples-requires-clause-to c =
    let h = table_summands _ _ _ _ _ _ _ _ _ _ _ _ _ _ _ _ c.self.invariant (kept_planes _ _ _ _ c.row.invariant _ _ _ c.in-Some.is c.deref.ensures c.deref-2.ensures) c.self.view_is (kept_view _ c.row.inside.constant _ _ _ _ _ c.row.view_is c.in-Some.is c.deref.ensures c.deref-2.ensures) c.requires.field
    c.requires.fits c.requires.element c.plane_matrix-m.ensures.value c.requires.earlier c.requires.within in
    entry_within _ _ _ _ _ h.tables.constant h.within

pub put_multiples-requires-clause-addable : goal.put_multiples-requires-clause-addable
put_multiples-requires-clause-addable c =
    let h = table_summands _ _ _ _ _ _ _ _ _ _ _ _ _ _ _ _ c.self.invariant (kept_planes _ _ _ _ c.row.invariant _ _ _ c.in-Some.is c.deref.ensures c.deref-2.ensures) c.self.view_is (kept_view _ c.row.inside.constant _ _ _ _ _ c.row.view_is c.in-Some.is c.deref.ensures c.deref-2.ensures) c.requires.field
    c.requires.fits c.requires.element c.plane_matrix-m.ensures.value c.requires.earlier c.requires.within in
    addable_constant _ _ _ _ _ _ _ _ _ _ _ _ h.summands

pub put_multiples-requires-2-clause-to : goal.put_multiples-requires-2-clause-to
put_multiples-requires-2-clause-to c =
    let h = table_summands _ _ _ _ _ _ _ _ _ _ _ _ _ _ _ _ c.self.invariant (kept_planes _ _ _ _ c.row.invariant _ _ _ c.in-Some.is c.deref.ensures c.deref-2.ensures) c.self.view_is (kept_view _ c.row.inside.constant _ _ _ _ _ c.row.view_is c.in-Some.is c.deref.ensures c.deref-2.ensures) c.requires.field
    c.requires.fits c.requires.element c.plane_matrix-m.ensures.value c.requires.earlier c.requires.within in
    entry_within _ _ _ _ _ h.tables.linear h.within

pub put_multiples-requires-2-clause-addable : goal.put_multiples-requires-2-clause-addable
put_multiples-requires-2-clause-addable c =
    let h = table_summands _ _ _ _ _ _ _ _ _ _ _ _ _ _ _ _ c.self.invariant (kept_planes _ _ _ _ c.row.invariant _ _ _ c.in-Some.is c.deref.ensures c.deref-2.ensures) c.self.view_is (kept_view _ c.row.inside.constant _ _ _ _ _ c.row.view_is c.in-Some.is c.deref.ensures c.deref-2.ensures) c.requires.field
    c.requires.fits c.requires.element c.plane_matrix-m.ensures.value c.requires.earlier c.requires.within in
    addable_linear _ _ _ _ _ _ _ _ _ _ _ _ h.summands

pub put_multiples-requires-3-clause-to : goal.put_multiples-requires-3-clause-to
put_multiples-requires-3-clause-to c =
    let h = table_summands _ _ _ _ _ _ _ _ _ _ _ _ _ _ _ _ c.self.invariant (kept_planes _ _ _ _ c.row.invariant _ _ _ c.in-Some.is c.deref.ensures c.deref-2.ensures) c.self.view_is (kept_view _ c.row.inside.constant _ _ _ _ _ c.row.view_is c.in-Some.is c.deref.ensures c.deref-2.ensures) c.requires.field
    c.requires.fits c.requires.element c.plane_matrix-m.ensures.value c.requires.earlier c.requires.within in
    entry_within _ _ _ _ _ h.tables.quadratic h.within

pub put_multiples-requires-3-clause-addable : goal.put_multiples-requires-3-clause-addable
put_multiples-requires-3-clause-addable c =
    let h = table_summands _ _ _ _ _ _ _ _ _ _ _ _ _ _ _ _ c.self.invariant (kept_planes _ _ _ _ c.row.invariant _ _ _ c.in-Some.is c.deref.ensures c.deref-2.ensures) c.self.view_is (kept_view _ c.row.inside.constant _ _ _ _ _ c.row.view_is c.in-Some.is c.deref.ensures c.deref-2.ensures) c.requires.field
    c.requires.fits c.requires.element c.plane_matrix-m.ensures.value c.requires.earlier c.requires.within in
    addable_quadratic _ _ _ _ _ _ _ _ _ _ _ _ h.summands

pub invariant_of-self-2 : goal.invariant_of-self-2
invariant_of-self-2 c =
    let h = table_summands _ _ _ _ _ _ _ _ _ _ _ _ _ _ _ _ c.self.invariant (kept_planes _ _ _ _ c.row.invariant _ _ _ c.in-Some.is c.deref.ensures c.deref-2.ensures) c.self.view_is (kept_view _ c.row.inside.constant _ _ _ _ _ c.row.view_is c.in-Some.is c.deref.ensures c.deref-2.ensures) c.requires.field
    c.requires.fits c.requires.element c.plane_matrix-m.ensures.value c.requires.earlier c.requires.within in
    put_tables _ _ _ _ _ _ _ _ _ _ _ _ _ _ _ _ _ _ h c.put_multiples.ensures c.put_multiples-2.ensures c.put_multiples-3.ensures

pub returns-clause-sum : goal.returns-clause-sum
returns-clause-sum c =
    let h = table_summands _ _ _ _ _ _ _ _ _ _ _ _ _ _ _ _ c.self.invariant (kept_planes _ _ _ _ c.row.invariant _ _ _ c.in-Some.is c.deref.ensures c.deref-2.ensures) c.self.view_is (kept_view _ c.row.inside.constant _ _ _ _ _ c.row.view_is c.in-Some.is c.deref.ensures c.deref-2.ensures) c.requires.field
    c.requires.fits c.requires.element c.plane_matrix-m.ensures.value c.requires.earlier c.requires.within in
    table_with_sum _ _ _ _ _ _ _ c.self.inside.constant c.self.inside.linear c.self.inside.quadratic
    c.row.inside.constant c.deref.result.now.linear c.deref-2.result.now.quadratic _ _ _ c.self.view_is (kept_view _ c.row.inside.constant _ _ _ _ _ c.row.view_is c.in-Some.is c.deref.ensures c.deref-2.ensures) c.requires.field
    (put_rows _ _ _ _ _ _ _ _ _ _ _ _ _ _ _ _ _ _ h c.put_multiples.ensures c.put_multiples-2.ensures c.put_multiples-3.ensures)

pub returns-clause-well_formed : goal.returns-clause-well_formed
returns-clause-well_formed c = IsTableOfRows-of_planes _ _ _ _ _ _ (invariant_of-self-2 c)
