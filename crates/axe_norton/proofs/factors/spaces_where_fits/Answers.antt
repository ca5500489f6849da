use Rattle.std.proofs.Common.{sym, ◌∙◌}
use Rattle.axe_word.specs.Tested.{IsTestedAt}
use Rattle.axe_norton.specs.SmallFactors.{first_unit_row}
use Rattle.axe_norton.proofs.FactorLaws.{fits_by_rows, tested_at}
use Rattle.axe_norton.proofs.MisfitLaws.{basis_like}
use Rattle.axe_norton.proofs.factors.spaces_where_fits.Goals as goal

pub is_seen_not_to_fit-requires-clause-first : goal.is_seen_not_to_fit-requires-clause-first
is_seen_not_to_fit-requires-clause-first c = basis_like c.args.matrix.now (first_unit_row c.args.matrix.now) c.args.first.now c.requires.first

pub returns-then-rows-degree-clause-found : goal.returns-then-rows-degree-clause-found
returns-then-rows-degree-clause-found c =
    let is : IsTestedAt c.args.poly.now c.args.matrix.now c.in_ok-tested.tested =
    tested_at c.args.matrix.now c.args.poly.now _ c.in_ok-tested.tested c.in_ok-value_at.ensures.value c.in_ok-tested.ensures.0 c.in_ok-tested.ensures.1 in (
      (fits_by_rows c.args.matrix.now c.args.poly.now c.in_ok-tested.tested c.requires.field c.degree.ensures.well_formed is).1
          (sym c.rows.ensures.count ∙ c.if-rows-degree.true ∙ c.degree.ensures.value),
      record { tested = c.in_ok-tested.tested; is_tested = is; of_tested = c.of-then-rows-degree.ensures },
    )

pub returns-else-rows-degree-clause-found : goal.returns-else-rows-degree-clause-found
returns-else-rows-degree-clause-found c =
    let is : IsTestedAt c.args.poly.now c.args.matrix.now c.in_ok-tested.tested =
    tested_at c.args.matrix.now c.args.poly.now _ c.in_ok-tested.tested c.in_ok-value_at.ensures.value c.in_ok-tested.ensures.0 c.in_ok-tested.ensures.1 in
    λ fits. c.if-rows-degree.false (c.rows.ensures.count
    ∙ (fits_by_rows c.args.matrix.now c.args.poly.now c.in_ok-tested.tested c.requires.field c.degree.ensures.well_formed is).0 fits ∙ sym c.degree.ensures.value)
