-- Rows that are lifted by those of a section: what the product answers, and how many they are.
use Rattle.std.proofs.Common.{◌≡◌, length, None, Result, sym, ap, subst, ◌∙◌}
use Rattle.axe_field.specs.Order.{order_number}
use Rattle.axe_field.specs.NumberFields.{number_field}
use Rattle.axe_row.specs.Refusals.{Answers}
use Rattle.axe_row.specs.declared.refusals.Refusal.{Refusal}
use Rattle.axe_matrix.specs.Matrices.{MatrixValue, matrix_product, product_refusal}
use Rattle.axe_matrix.proofs.ProductLaws.{length-product, product_refusal-none}
use Rattle.axe_spin.specs.Modules.{ModuleValue}
use Rattle.axe_series.specs.Sections.{SectionValue, lifted_rows}
use Rattle.axe_chop.specs.Stages.{IsSection}

-- a product with a matrix that is the given one
pub product_answered : (coordinates rows other : MatrixValue) (result : Result MatrixValue Refusal) → other ≡ rows →
    coordinates.order ≡ rows.order → coordinates.cols ≡ length rows.rows →
    Answers (product_refusal coordinates other) (λ product. product ≡ matrix_product coordinates other) result →
    Answers None (λ product. product ≡ matrix_product coordinates rows) result
product_answered coordinates rows other result same field fits answers =
    subst (λ why. Answers why (λ product. product ≡ matrix_product coordinates rows) result)
    (product_refusal-none coordinates rows (ap order_number field) fits)
    (subst (λ (x : MatrixValue). Answers (product_refusal coordinates x) (λ product. product ≡ matrix_product coordinates x) result) same answers)

-- as many rows are lifted as are given
pub lifted_rows_count : (section : SectionValue) (t : MatrixValue) → length (lifted_rows section t).rows ≡ length t.rows
lifted_rows_count section t = length-product (number_field t.order) section.rows.cols t.rows section.rows.rows

-- a square matrix of vectors of the module, by which the lifted rows of a section with this action are lifted
pub record IsLift (m : ModuleValue) (t : MatrixValue) : Type 0 where
  pub field : t.order ≡ m.order
  pub columns : t.cols ≡ m.dim
  pub count : length t.rows ≡ m.dim

-- the rows of the section, lifted by t
pub record IsLifted (section : SectionValue) (t rows : MatrixValue) : Type 0 where
  pub value : rows ≡ lifted_rows section t
  pub field : rows.order ≡ section.rows.order
  pub columns : rows.cols ≡ section.rows.cols
  pub count : length rows.rows ≡ section.action.dim

pub lifted_by : (section : SectionValue) (t rows : MatrixValue) → IsSection section → IsLift section.action t →
    rows ≡ lifted_rows section t → IsLifted section t rows
lifted_by section t rows is lift value = record {
  value = value;
  field = ap (λ (x : MatrixValue). x.order) value ∙ lift.field ∙ sym is.field;
  columns = ap (λ (x : MatrixValue). x.cols) value;
  count = ap (λ (x : MatrixValue). length x.rows) value ∙ lifted_rows_count section t ∙ lift.count;
}
