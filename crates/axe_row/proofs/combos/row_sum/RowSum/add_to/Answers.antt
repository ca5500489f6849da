use Rattle.std.proofs.Common.{length, ap, ◌∙◌, arith}
use Rattle.axe_row.specs.Rows.{RowValue}
use Rattle.axe_row.proofs.OperationLaws.{length-sum_with_multiple}
use Rattle.axe_row.proofs.PieceRows.{kept_sums, row_of_sums}
use Rattle.axe_row.proofs.PlacedRows.{same_prime, place_within, kept_with, row_with_placed}
use Rattle.axe_row.proofs.RowPlanes.{IsRow-of_planes}
use Rattle.axe_row.proofs.combos.row_sum.RowSum.add_to.Goals as goal

pub add_to-requires : goal.add_to-requires
add_to-requires c = record {
  prime =
      same_prime _ _ c.args.start _ _ _ _ _ c.row.invariant c.self.invariant c.row.view_is c.self.view_is
      c.requires.field;
  within =
      omega (
        arith,
        place_within _ _ c.args.start _ _ _ _ _ c.row.invariant c.self.invariant c.row.view_is c.self.view_is
            c.requires.field c.requires.within,
      );
}

-- the sum stays
pub invariant_of-self : goal.invariant_of-self
invariant_of-self c = kept_sums _ _ _ c.add_to.ensures.kept c.self.invariant

pub returns-clause-kept : goal.returns-clause-kept
returns-clause-kept c = row_of_sums c.self.inside.field _ _ c.add_to.ensures.kept ∙ c.self.view_is

pub invariant_of-row : goal.invariant_of-row
invariant_of-row c =
    kept_with _ _ c.args.start _ _ _ _ _ c.row.invariant c.self.invariant c.row.view_is c.self.view_is
    c.requires.field _ _ c.add_to.ensures.sum

pub returns-clause-sum : goal.returns-clause-sum
returns-clause-sum c =
    row_with_placed _ _ c.args.start _ _ _ _ _ c.row.invariant c.self.invariant c.row.view_is c.self.view_is
    c.requires.field _ c.add_to.ensures.sum

pub returns-clause-as_long : goal.returns-clause-as_long
returns-clause-as_long c =
    ap (λ (r : RowValue). length r.entries) (returns-clause-sum c) ∙ length-sum_with_multiple _ _ _ _

pub returns-clause-well_formed : goal.returns-clause-well_formed
returns-clause-well_formed c = IsRow-of_planes _ _ _ _ _ (invariant_of-row c).planes
