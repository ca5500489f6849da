use Rattle.std.proofs.Common.{◌≡◌, None, refl, ap, sym, ◌∙◌, subst, inr}
use Rattle.axe_matrix.specs.Matrices.{MatrixValue, IsMatrix, matrix_product}
use Rattle.axe_echelon.proofs.Exits.{no_memory_late}
use Rattle.axe_action.proofs.QuotientSpans.{test_failed}
use Rattle.axe_action.proofs.subspaces.coordinates_at.Goals as goal

pub columns_at-requires-clause-some_column : goal.columns_at-requires-clause-some_column
columns_at-requires-clause-some_column c = c.requires.some_column

pub columns_at-requires-clause-columns_fit : goal.columns_at-requires-clause-columns_fit
columns_at-requires-clause-columns_fit c = c.requires.columns_fit

pub columns_at-requires-clause-within : goal.columns_at-requires-clause-within
columns_at-requires-clause-within c = c.requires.within

pub combine_to-requires-clause-field : goal.combine_to-requires-clause-field
combine_to-requires-clause-field c = ap (λ (m : MatrixValue). m.order) c.in_ok-action.ensures.columns ∙ c.requires.field

pub combine_to-requires-clause-fits : goal.combine_to-requires-clause-fits
combine_to-requires-clause-fits c = ap (λ (m : MatrixValue). m.cols) c.in_ok-action.ensures.columns ∙ c.requires.as_many

pub returns-in_err-action : goal.returns-in_err-action
returns-in_err-action c = no_memory_late None _ _ c.from_residual.result _ refl c.in_err-action.ensures.columns c.from_residual.ensures.1

pub returns-in_err-combine_to : goal.returns-in_err-combine_to
returns-in_err-combine_to c = no_memory_late None _ _ c.from_residual-in_err-combine_to.result _ refl c.in_err-combine_to.ensures c.from_residual-in_err-combine_to.ensures.1

pub returns-then-not-branch : goal.returns-then-not-branch
returns-then-not-branch c =
    inr (
      refl,
      (
        subst IsMatrix c.in_ok-action.ensures.columns c.in_ok-action.ensures.well_formed,
        λ same. test_failed _ c.in_ok-combine_to.field-0 c.in_ok-combine_to.ensures c.if-not-branch.true
            (subst (λ (m : MatrixValue). matrix_product m c.args.basis.now ≡ c.args.images.now) (sym c.in_ok-action.ensures.columns) same),
      ),
    )

pub returns : goal.returns
returns c = (
  c.in_ok-action.ensures.well_formed,
  c.in_ok-action.ensures.columns,
  c.in_ok-combine_to.ensures.0 c.if-not-branch.false,
)
