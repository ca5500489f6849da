-- The images of the rows of a matrix under a square one, made by one product.
use Rattle.std.specs.Prelude.{◌≡◌, ℕ, ◌<◌, [], length, get_or, None, Ok}
use Rattle.axe_algebra.specs.ListArithmetic.{combination}
use Rattle.axe_field.specs.Order.{Order, order_number}
use Rattle.axe_field.specs.NumberFields.{number_field}
use Rattle.axe_row.specs.Rows.{RowValue}
use Rattle.axe_row.specs.Refusals.{Answers}
use Rattle.axe_matrix.specs.Matrices.{MatrixValue, row_of, product_refusal, matrix_product}
use Rattle.axe_matrix.proofs.ProductLaws.{product_refusal-none, length-product, get_or-product}
use Rattle.axe_action.specs.Coordinates.{row_times}
use mathlib.Core.Path.{sym, ◌∙◌, ap, subst}

-- nothing refuses them
pub images_accepted : (rows g : MatrixValue) → rows.order ≡ g.order → rows.cols ≡ g.cols → length g.rows ≡ g.cols → product_refusal rows g ≡ None
images_accepted rows g field fits square = product_refusal-none rows g (ap order_number field) (fits ∙ sym square)

-- so they are the product
pub images_made : (rows g images : MatrixValue) → rows.order ≡ g.order → rows.cols ≡ g.cols → length g.rows ≡ g.cols →
    Answers (product_refusal rows g) (λ product. product ≡ matrix_product rows g) (Ok images) → images ≡ matrix_product rows g
images_made rows g images field fits square answer =
    subst (λ why. Answers why (λ product. product ≡ matrix_product rows g) (Ok images)) (images_accepted rows g field fits square) answer

-- there are as many as rows
pub images_count : (rows g images : MatrixValue) → images ≡ matrix_product rows g → length images.rows ≡ length rows.rows
images_count rows g images made =
    ap (λ (m : MatrixValue). length m.rows) made ∙ length-product (number_field rows.order) g.cols rows.rows g.rows

-- and row t of them is the image of row t
pub image_row : (rows g images : MatrixValue) (image : RowValue) (t : ℕ) → rows.order ≡ g.order → images ≡ matrix_product rows g →
    t < length rows.rows → image ≡ row_of images t → image.entries ≡ row_times g rows.rows t
image_row rows g images image t field made below is =
    ap (λ (r : RowValue). r.entries) is
    ∙ ap (λ (m : MatrixValue). get_or m.rows t []) made
    ∙ get_or-product (number_field rows.order) g.cols rows.rows g.rows t below
    ∙ ap (λ (o : Order). combination (number_field o) g.cols (get_or rows.rows t []) g.rows) field
