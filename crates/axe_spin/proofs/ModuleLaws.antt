-- Matrices that are the generators of a module: how they are found to be, and that they make one.
use Rattle.std.proofs.Common.{◌≡◌, ℕ, ◌+◌, ◌<◌, ◌≤◌, List, [], ◌∷◌, ◌++◌, Option, Some, None, Err, length, take, drop, get_or, refl, sym, ap, ◌∙◌, subst, arith}
use Rattle.std.specs.List.{All}
use Rattle.std.proofs.lemmas.List.{take_all, take_more, length-map, at_drop_more, at_drop_all}
use Rattle.std.proofs.lemmas.List.Elements.{All-nil, All-get_or, All-more, All-map, All-weaker}
use Rattle.axe_algebra.specs.Lists.{IsMatrixOver, IsSquareOver}
use Rattle.axe_field.specs.Order.{Order}
use Rattle.axe_field.specs.NumberFields.{number_field}
use Rattle.axe_row.specs.declared.refusals.Refusal.{Refusal}
use Rattle.axe_matrix.specs.Matrices.{MatrixValue}
use Rattle.axe_echelon.proofs.InverseLaws.{matrix_over}
use Rattle.axe_spin.specs.Limits.{most_generators}
use Rattle.axe_row.specs.Refusals.{first_of, unless_refused}
use Rattle.axe_spin.specs.Modules.{ModuleValue, generator_refusal, generators_refusal, rows_of_each, module_of_matrices}
use Rattle.axe_spin.specs.Generators.{IsGeneratorMatrix, MakeModule}

-- what refuses the value, where there is none
pub refusal_of : {A : Type 0} (refusal : Option Refusal) (value : A) (why : Refusal) → Err why ≡ unless_refused refusal value → refusal ≡ Some why
refusal_of (Some other) value why e = cc
refusal_of None value why e = cc

-- the first so many matrices are generators, and what refuses one of the others refuses them all
pub record AreGenerators (order : Order) (dim : ℕ) (matrices : List MatrixValue) (count : ℕ) : Type 0 where
  pub each : All (IsGeneratorMatrix order dim) (take count matrices)
  pub refusal : generators_refusal order dim matrices ≡ generators_refusal order dim (drop count matrices)

pub AreGenerators-none : (order : Order) (dim : ℕ) (matrices : List MatrixValue) → AreGenerators order dim matrices 0
AreGenerators-none order dim matrices = record {
  each = All-nil (IsGeneratorMatrix order dim);
  refusal = refl;
}

-- the refusal of the others begins with that of the next
next_refusal : (order : Order) (dim : ℕ) (matrices : List MatrixValue) (count : ℕ) (next : MatrixValue) → AreGenerators order dim matrices count →
    count < length matrices → next ≡ get_or matrices count next →
    generators_refusal order dim matrices ≡ first_of (generator_refusal order dim next) (generators_refusal order dim (drop (count + 1) matrices))
next_refusal order dim matrices count next h below is =
    h.refusal ∙ at_drop_more (generators_refusal order dim) matrices count next below ∙
    ap (λ (m : MatrixValue). first_of (generator_refusal order dim m) (generators_refusal order dim (drop (count + 1) matrices))) (sym is)

-- the next is a generator too
pub AreGenerators-more : (order : Order) (dim : ℕ) (matrices : List MatrixValue) (count : ℕ) (next : MatrixValue) → AreGenerators order dim matrices count →
    count < length matrices → next ≡ get_or matrices count next → generator_refusal order dim next ≡ None → IsGeneratorMatrix order dim next →
    AreGenerators order dim matrices (count + 1)
AreGenerators-more order dim matrices count next h below is accepted generator = record {
  each = All-more (IsGeneratorMatrix order dim) matrices count next below h.each (subst (IsGeneratorMatrix order dim) is generator);
  refusal = next_refusal order dim matrices count next h below is ∙
      ap (λ (r : Option Refusal). first_of r (generators_refusal order dim (drop (count + 1) matrices))) accepted;
}

-- the next is refused, and so are they all
pub AreGenerators-refused : (order : Order) (dim : ℕ) (matrices : List MatrixValue) (count : ℕ) (next : MatrixValue) (why : Refusal) →
    AreGenerators order dim matrices count → count < length matrices → next ≡ get_or matrices count next →
    generator_refusal order dim next ≡ Some why → generators_refusal order dim matrices ≡ Some why
AreGenerators-refused order dim matrices count next why h below is refused =
    next_refusal order dim matrices count next h below is ∙
    ap (λ (r : Option Refusal). first_of r (generators_refusal order dim (drop (count + 1) matrices))) refused

-- all of them are generators
pub AreGenerators-all : (order : Order) (dim : ℕ) (matrices : List MatrixValue) (count : ℕ) → AreGenerators order dim matrices count → length matrices ≤ count →
    All (IsGeneratorMatrix order dim) matrices
AreGenerators-all order dim matrices count h all = subst (All (IsGeneratorMatrix order dim)) (take_all count matrices all) h.each

pub AreGenerators-accepted : (order : Order) (dim : ℕ) (matrices : List MatrixValue) (count : ℕ) → AreGenerators order dim matrices count → length matrices ≤ count →
    generators_refusal order dim matrices ≡ None
AreGenerators-accepted order dim matrices count h all = h.refusal ∙ at_drop_all (generators_refusal order dim) matrices count all

-- the answer for matrices, by the field and the dimension of the first and the refusal of one of them
pub module_of_first : (matrices : List MatrixValue) (first : MatrixValue) (order : Order) (dim : ℕ) (refusal : Option Refusal) → 1 ≤ length matrices →
    first ≡ get_or matrices 0 first → order ≡ first.order → dim ≡ first.cols → generators_refusal order dim matrices ≡ refusal →
    module_of_matrices matrices ≡ unless_refused refusal (record { order = order; dim = dim; generators = rows_of_each matrices })
module_of_first [] first order dim refusal some is field columns e = absurd (omega arith)
module_of_first (m ∷ rest) first order dim refusal some is field columns e =
    let orders : m.order ≡ order = ap (λ (x : MatrixValue). x.order) (sym is) ∙ sym field in
    let dims : m.cols ≡ dim = ap (λ (x : MatrixValue). x.cols) (sym is) ∙ sym columns in
    (λ i. unless_refused (generators_refusal (orders i) (dims i) (m ∷ rest)) (record { order = orders i; dim = dims i; generators = rows_of_each (m ∷ rest) })) ∙
    ap (λ (r : Option Refusal). unless_refused r (record { order = order; dim = dim; generators = rows_of_each (m ∷ rest) })) e

-- a generator's rows are a square matrix over the field
pub square_over : (order : Order) (dim : ℕ) (m : MatrixValue) → IsGeneratorMatrix order dim m → IsSquareOver (number_field order) dim m.rows
square_over order dim m h = record {
  length_is = h.rows;
  matrix =
      subst (λ o. IsMatrixOver (number_field o) dim m.rows) h.field
      (subst (λ n. IsMatrixOver (number_field m.order) n m.rows) h.columns (matrix_over m h.well_formed));
}

-- generators make a module
pub MakeModule-of_generators : (order : Order) (dim : ℕ) (matrices : List MatrixValue) → 1 ≤ length matrices → length matrices ≤ most_generators →
    All (IsGeneratorMatrix order dim) matrices → MakeModule order dim matrices
MakeModule-of_generators order dim matrices some few each =
    let nothing : MatrixValue = record { order = order; cols = dim; rows = [] } in
    let first : IsGeneratorMatrix order dim (get_or matrices 0 nothing) = All-get_or (IsGeneratorMatrix order dim) matrices 0 nothing (omega arith) each in
    let count : length (rows_of_each matrices) ≡ length matrices = length-map matrices (λ (m : MatrixValue). m.rows) in
    record {
      each = each;
      well_formed = record {
        over = record {
          positive = omega (arith, first.columns, first.well_formed.some_column);
          square =
              All-map (IsSquareOver (number_field order) dim) (λ (m : MatrixValue). m.rows) matrices
              (All-weaker (IsGeneratorMatrix order dim) (λ (m : MatrixValue). IsSquareOver (number_field order) dim m.rows) (square_over order dim) matrices each);
        };
        dim_fits = omega (arith, first.columns, first.well_formed.columns_fit);
        some_generator = omega (arith, count);
        generators_fit = omega (arith, count);
      };
    }

-- copies of the first matrices, and one more
pub copies_more : (matrices items copies next : List MatrixValue) (index : ℕ) (matrix copy : MatrixValue) → items ≡ matrices → copies ≡ take index matrices →
    index < length items → matrix ≡ get_or items index matrix → copy ≡ matrix → next ≡ copies ++ copy ∷ [] → next ≡ take (index + 1) matrices
copies_more matrices items copies next index matrix copy value are below is same pushed =
    pushed ∙ (λ i. are i ++ (same ∙ is ∙ ap (λ (l : List MatrixValue). get_or l index matrix) value) i ∷ [])
    ∙ sym (take_more matrices index matrix (subst (λ (l : List MatrixValue). index < length l) value below))

-- copies of all
pub copies_all : (matrices items copies : List MatrixValue) (index : ℕ) → items ≡ matrices → copies ≡ take index matrices → length items ≤ index → copies ≡ matrices
copies_all matrices items copies index value are all =
    are ∙ take_all index matrices (subst (λ (l : List MatrixValue). length l ≤ index) value all)

-- they are the generators of the same module
pub module_of_copies : (order : Order) (dim : ℕ) (copies matrices : List MatrixValue) → copies ≡ matrices →
    ◌≡◌ {A = ModuleValue} (record { order = order; dim = dim; generators = rows_of_each copies }) (record { order = order; dim = dim; generators = rows_of_each matrices })
module_of_copies order dim copies matrices e = λ i. record { order = order; dim = dim; generators = rows_of_each (e i) }
