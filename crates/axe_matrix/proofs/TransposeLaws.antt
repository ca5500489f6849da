-- Which matrices have transposes, and identities by their rows.
use Rattle.std.proofs.Common.{◌≡◌, ◌≢◌, ◌==◌, if◌then◌else◌, ℕ, length, Some, None, refl, ap}
use Rattle.std.proofs.lemmas.Bool.{ne_eqb}
use Rattle.std.proofs.lemmas.List.{length-reverse}
use Rattle.axe_algebra.specs.Lists.{listed, unit_row}
use Rattle.axe_algebra.specs.ListArithmetic.{identity}
use Rattle.axe_field.specs.Order.{Order}
use Rattle.axe_row.specs.declared.refusals.Refusal.TheVariants.{NoRows}
use Rattle.axe_matrix.specs.Matrices.{MatrixValue, transpose_refusal, reversed_matrix, identity_matrix}

-- a matrix with a row has a transpose
pub transpose_refusal-none : (m : MatrixValue) → length m.rows ≢ 0 → transpose_refusal m ≡ None
transpose_refusal-none m some = rw (ne_eqb _ _ some) refl

-- with its rows in the opposite order it is refused alike
pub transpose_refusal-reverse : (m : MatrixValue) → transpose_refusal (reversed_matrix m) ≡ transpose_refusal m
transpose_refusal-reverse m = ap (λ (count : ℕ). if count == 0 then Some NoRows else None) (length-reverse m.rows)

-- the rows of the identity matrix are the unit vectors
pub identity_matrix-rows : (o : Order) (n : ℕ) → record { order = o; cols = n; rows = listed n (unit_row n) } ≡ identity_matrix o n
unfolding identity
identity_matrix-rows o n = refl
