-- Products of generators factor by factor, where a factor is a generator or the product of two that is kept.
use Rattle.std.specs.Prelude.{◌≡◌, ℕ, zero, suc, ◌+◌, ◌<◌, List, [], ◌∷◌, ◌++◌, length, take, drop, get_or}
use Rattle.std.specs.Prelude.{Option, None, Some}
use Rattle.std.specs.Borrow.{Bor}
use Rattle.std.specs.List.{All, Contains}
use Rattle.std.specs.Option.{unwrap_or, option_copied}
use Rattle.std.proofs.Math.Seq.{take-add, take-length}
use Rattle.std.proofs.lemmas.List.Elements.{All-append, All-contains, All-drop, All-take}
use Rattle.axe_algebra.specs.NumberField.{NumberField}
use Rattle.axe_algebra.specs.Field.{Field}
use Rattle.axe_algebra.specs.Vectors.{Matrix, HasShape, multiply}
use Rattle.axe_algebra.specs.Modules.{Module, path_product}
use Rattle.axe_algebra.specs.Bridge.{field_of, matrix_of, module_of}
use Rattle.axe_algebra.specs.Lists.{IsVectorOver, IsSquareOver}
use Rattle.axe_algebra.specs.ListArithmetic.{product}
use Rattle.axe_algebra.proofs.ProductLaws.{multiply_assoc, identity_multiply}
use Rattle.axe_algebra.proofs.ListEntries.{square_shape}
use Rattle.axe_algebra.proofs.ListLaws.{matrix_of_product_of}
use Rattle.axe_algebra.proofs.ListProducts.{product_over, product_length}
use Rattle.axe_field.specs.NumberFields.{number_field}
use Rattle.axe_matrix.specs.Matrices.{MatrixValue, IsMatrix, matrix_product}
use Rattle.axe_matrix.specs.Multiples.{matrix_with_multiple}
use Rattle.axe_matrix.specs.Products.{matrix_with_product}
use Rattle.axe_matrix.proofs.ProductRows.{product_as_multiple}
use Rattle.axe_spin.specs.Modules.{ModuleValue, IsModule, generator_of}
use Rattle.axe_word.specs.declared.products.Kept.{Kept}
use Rattle.axe_word.specs.Products.{IsProductOf}
use Rattle.axe_word.specs.KeptProducts.{IsKeptOf, AreProductsOf, IsFactorAt, IsMultipleAdded}
use Rattle.axe_word.proofs.ValueLaws.{product-one}
use mathlib.Core.Path.{refl, sym, ◌∙◌, ap, subst}
use native.Mathlib.Omega.{arith}

-- the product of one path and another after it
path_product-append : (F : Field) (M : Module F) (p q : List ℕ) → HasShape F M.dimension M.dimension (path_product F M q) →
    path_product F M (p ++ q) ≡ multiply F M.dimension (path_product F M p) (path_product F M q)
unfolding path_product
path_product-append F M [] q shape = sym (identity_multiply F M.dimension M.dimension (path_product F M q) shape)
path_product-append F M (i ∷ p) q shape =
    ap (multiply F M.dimension (M.generator i)) (path_product-append F M p q shape)
    ∙ sym (multiply_assoc F M.dimension M.dimension (M.generator i) (path_product F M p) (path_product F M q))

-- the product of some generators and of others after them
pub product-append : (m : ModuleValue) (p q : List ℕ) (x y next : MatrixValue) → IsProductOf m p x → IsProductOf m q y →
    next ≡ matrix_product x y → IsProductOf m (p ++ q) next
product-append m p q x y next h g is = record {
  field = ap (λ (z : MatrixValue). z.order) is ∙ h.field;
  columns = ap (λ (z : MatrixValue). z.cols) is ∙ g.columns;
  square = subst (IsSquareOver K m.dim) (sym rows) (record {
    length_is = product_length K m.dim x.rows y.rows ∙ h.square.length_is;
    matrix = product_over K m.dim x.rows y.rows (subst (λ k. All (IsVectorOver K k) x.rows) (sym g.square.length_is) h.square.matrix) g.square.matrix;
  });
  product =
      ap (matrix_of K) rows
      ∙ matrix_of_product_of K m.dim m.dim x.rows y.rows g.square.length_is h.square.matrix g.square.matrix
      ∙ ap (λ (a : Matrix F). multiply F m.dim a (matrix_of K y.rows)) h.product
      ∙ ap (multiply F m.dim (path_product F M p)) g.product
      ∙ sym (path_product-append F M p q (subst (HasShape F m.dim m.dim) g.product (square_shape K m.dim y.rows g.square)));
}
  where
    K : NumberField
    K = number_field m.order

    F : Field
    F = field_of K

    M : Module F
    M = module_of K m.dim m.generators

    rows : next.rows ≡ product K m.dim x.rows y.rows
    rows =
        ap (λ (z : MatrixValue). z.rows) is
        ∙ ap (λ o. product (number_field o) y.cols x.rows y.rows) h.field
        ∙ ap (λ k. product K k x.rows y.rows) g.columns

-- one more product that is kept
pub kept-more : (m : ModuleValue) (before : List Kept) (kept : Kept) (x y : MatrixValue) → IsModule m → AreProductsOf m before →
    kept.first < length m.generators → kept.second < length m.generators →
    x ≡ generator_of m kept.first → y ≡ generator_of m kept.second → kept.product ≡ matrix_product x y → IsMatrix kept.product →
    AreProductsOf m (before ++ kept ∷ [])
kept-more m before kept x y is_m all first second x_is y_is is formed =
    All-append (IsKeptOf m) before (kept ∷ []) all (alone (record {
      product = product-append m (kept.first ∷ []) (kept.second ∷ []) x y kept.product
          (product-one m kept.first x (kept.first ∷ []) is_m (below kept.first first) x_is refl refl)
          (product-one m kept.second y (kept.second ∷ []) is_m (below kept.second second) y_is refl refl)
          is;
      well_formed = formed;
    }))
  where
    alone : IsKeptOf m kept → All (IsKeptOf m) (kept ∷ [])
    alone h zero d inside = h
    alone h (suc k) d inside = absurd (omega arith)

    below : (i : ℕ) → i < length m.generators → All (λ number. number < length m.generators) (i ∷ [])
    below i h zero d inside = h
    below i h (suc k) d inside = absurd (omega arith)

-- one and two numbers from an index on
one_of_rest : (xs : List ℕ) (k : ℕ) → k < length xs → take 1 (drop k xs) ≡ get_or xs k 0 ∷ []
one_of_rest [] k inside = absurd (omega arith)
one_of_rest (x ∷ xs) zero inside = refl
one_of_rest (x ∷ xs) (suc k) inside = one_of_rest xs k (omega arith)

two_of_rest : (xs : List ℕ) (k : ℕ) → suc k < length xs → take 2 (drop k xs) ≡ get_or xs k 0 ∷ get_or xs (suc k) 0 ∷ []
two_of_rest [] k inside = absurd (omega arith)
two_of_rest (x ∷ []) zero inside = absurd (omega arith)
two_of_rest (x ∷ y ∷ xs) zero inside = refl
two_of_rest (x ∷ xs) (suc k) inside = two_of_rest xs k (omega arith)

-- a generator is a factor
pub factor-one : (m : ModuleValue) (numbers : List ℕ) (index i : ℕ) (x : MatrixValue) → IsModule m →
    All (λ number. number < length m.generators) numbers → index < length numbers → i ≡ get_or numbers index 0 → x ≡ generator_of m i →
    IsFactorAt m numbers index 1 x
factor-one m numbers index i x is_m each inside i_is is = record {
  some = omega arith;
  within = omega (arith, inside);
  product = product-one m i x (take 1 (drop index numbers)) is_m
      (All-take (λ number. number < length m.generators) 1 (drop index numbers) (All-drop (λ number. number < length m.generators) index numbers each))
      is (i_is ∙ ap (λ xs. get_or xs 0 0) (sym (one_of_rest numbers index inside))) (ap length (one_of_rest numbers index inside));
}

-- so is the product of two that is kept
pub factor-two : (m : ModuleValue) (numbers : List ℕ) (index i j : ℕ) (kept : List Kept) (x : MatrixValue) → AreProductsOf m kept →
    index + 1 < length numbers → i ≡ get_or numbers index 0 → j ≡ get_or numbers (index + 1) 0 →
    Contains kept (record { first = i; second = j; product = x }) → IsFactorAt m numbers index 2 x
factor-two m numbers index i j kept x all inside i_is j_is contains = record {
  some = omega arith;
  within = omega (arith, inside);
  product = subst (λ xs. IsProductOf m xs x)
      (ap (λ k. k ∷ j ∷ []) i_is ∙ ap (λ k. get_or numbers index 0 ∷ k ∷ []) (j_is ∙ ap (λ k. get_or numbers k 0) next)
      ∙ sym (two_of_rest numbers index (omega (arith, inside))))
      (All-contains (IsKeptOf m) kept (record { first = i; second = j; product = x }) all contains).product;
}
  where
    next : index + 1 ≡ suc index
    next = omega arith

-- it is a matrix
pub kept-IsMatrix : (m : ModuleValue) (i j : ℕ) (kept : List Kept) (x : MatrixValue) → AreProductsOf m kept →
    Contains kept (record { first = i; second = j; product = x }) → IsMatrix x
kept-IsMatrix m i j kept x all contains = (All-contains (IsKeptOf m) kept (record { first = i; second = j; product = x }) all contains).well_formed

-- one more factor
pub factors-more : (m : ModuleValue) (numbers : List ℕ) (taken len : ℕ) (x y next : MatrixValue) → IsProductOf m (take taken numbers) x →
    IsFactorAt m numbers taken len y → next ≡ matrix_product x y → IsProductOf m (take (taken + len) numbers) next
factors-more m numbers taken len x y next h factor is =
    subst (λ xs. IsProductOf m xs next) (sym (take-add taken len numbers))
    (product-append m (take taken numbers) (take len (drop taken numbers)) x y next h factor.product is)

-- a multiple of a factor that is the whole product is added
pub added-whole : (m : ModuleValue) (c : ℕ) (numbers : List ℕ) (len : ℕ) (before x after : MatrixValue) → IsFactorAt m numbers 0 len x →
    len ≡ length numbers → after ≡ matrix_with_multiple before c x → IsMultipleAdded m c numbers before after
added-whole m c numbers len before x after factor all is = record {
  matrix = x;
  product = subst (λ xs. IsProductOf m xs x) (ap (λ k. take k numbers) all ∙ take-length numbers) factor.product;
  sum = is;
}

-- a product that is lent where it has been made, and else the factor that it begins with
pub product-lent : (m : ModuleValue) (numbers : List ℕ) (made : Option MatrixValue) (lent : Option (Bor MatrixValue)) (first before : Bor MatrixValue) →
    option_copied lent ≡ made → before ≡ unwrap_or lent first → IsProductOf m numbers (unwrap_or made first.now) → IsProductOf m numbers before.now
product-lent m numbers made lent first before copied is h =
    subst (IsProductOf m numbers)
    (sym (ap (λ (x : Bor MatrixValue). x.now) is ∙ now lent ∙ ap (λ x. unwrap_or x first.now) copied)) h
  where
    now : (x : Option (Bor MatrixValue)) → (unwrap_or x first).now ≡ unwrap_or (option_copied x) first.now
    now None = refl
    now (Some x) = refl

-- a multiple of the product is added where the last factor is multiplied as it is added
pub added-last : (m : ModuleValue) (c : ℕ) (numbers : List ℕ) (taken len : ℕ) (before x y after : MatrixValue) → before.order ≡ m.order → before.cols ≡ m.dim →
    length before.rows ≡ m.dim → IsProductOf m (take taken numbers) x → IsFactorAt m numbers taken len y → taken + len ≡ length numbers →
    after ≡ matrix_with_product before c x y → IsMultipleAdded m c numbers before after
added-last m c numbers taken len before x y after field columns rows_fit h factor all is = record {
  matrix = matrix_product x y;
  product = subst (λ xs. IsProductOf m xs (matrix_product x y)) (ap (λ k. take k numbers) all ∙ take-length numbers)
      (factors-more m numbers taken len x y (matrix_product x y) h factor refl);
  sum = is ∙ product_as_multiple before c x y (h.field ∙ sym field) (factor.product.columns ∙ sym columns) (h.square.length_is ∙ sym rows_fit);
}
