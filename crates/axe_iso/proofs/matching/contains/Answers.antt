use Rattle.std.proofs.Common.{subst}
use Rattle.axe_algebra.specs.SpansOfLists.{IsRepresentative}
use Rattle.axe_field.specs.NumberFields.{number_field}
use Rattle.axe_row.specs.Rows.{RowValue}
use Rattle.axe_iso.proofs.SkippedPoints.{tells_spanned}
use Rattle.axe_iso.proofs.matching.contains.Goals as goal

pub returns : goal.returns
returns c =
    tells_spanned c.args.space.now c.reduce.ensures.well_formed c.args.vector.now c.reduce.new.row
    (subst (λ (v : RowValue). IsRepresentative (number_field c.args.space.now.order) c.args.space.now.rows v.entries c.reduce.new.row.entries)
    c.in_ok-rest.ensures.copied c.reduce.ensures.representative)
    c.reduce.ensures.same_field c.reduce.ensures.as_long c.reduce.ensures.row_well_formed c.is_zero.result c.is_zero.ensures
