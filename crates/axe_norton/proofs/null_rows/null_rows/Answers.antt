use Rattle.std.proofs.Common.{◌+◌, sym, ◌∙◌, subst, true≢false}
use Rattle.axe_norton.specs.NullRows.{AreFirstPowers}
use Rattle.axe_norton.proofs.NullRowLaws.{null_powers}
use Rattle.axe_norton.proofs.null_rows.null_rows.Goals as goal

pub returns : goal.returns
returns c =
    let m = c.args.matrix.now in
    let u = c.in_ok-vector.vector.entries in
    null_powers m c.args.poly.now u c.in_ok-rows.rows c.in_ok-polynomial_row.field-0 c.requires.square
    c.degree-2.ensures.well_formed
    (subst (λ d. AreFirstPowers m u (d + 1) c.in_ok-rows.rows) c.degree-5.ensures.value c.in_ok-rows.ensures)
    (λ zeros. true≢false (sym (c.is_zero.ensures.1 zeros) ∙ c.if-is_zero.false)) c.in_ok-polynomial_row.ensures
    (c.is_zero-3.ensures.0 c.if-not-is_zero.false)
