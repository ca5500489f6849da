-- Generated spaces: invariant, with the seed's rows, and the least such.
use Rattle.std.specs.Prelude.{◌≡◌, ◌≢◌, ◌↔◌, ℕ, ◌<◌, ◌+◌, List, [], ◌∷◌, ◌++◌}
use Rattle.axe_algebra.specs.Field.{Field}
use Rattle.axe_algebra.specs.Vectors.{Vector, Matrix, HasLength, HasRowsOfLength, zero_vector, unit_matrix, add_vectors, scale, times}
use Rattle.axe_algebra.specs.Spans.{InSpan, SpanWithin}
use Rattle.axe_algebra.specs.Modules.{Module, HasSquareMatrices, image, AreGenerators, path_product, IsInvariant, IsInvariantSet, IsRowTimesProduct, InGenerated, SpansGenerated}
use Rattle.axe_algebra.proofs.FieldLaws.{inv-mul, one-mul, mul-zero}
use Rattle.axe_algebra.proofs.ProductLaws.{times_times, times_identity, times_length, identity_multiply}
use Rattle.axe_algebra.proofs.Spanning.{span_zero, span_add, span_scale, span_row}
use Rattle.axe_algebra.proofs.Spaces.{IsSpace, space_has_times, space_has_span, span_is_space, stacked, each_stacked, first_in_stacked, second_in_stacked}
use mathlib.Core.Path.{sym, ◌∙◌, ap, subst, fun_ext}
use native.Mathlib.Omega.{arith}

-- the inverse of a nonzero factor takes it away
pub unscaled : (F : Field) (c : F.Element) (v : Vector F) → c ≢ F.zero → scale F (F.inv c) (scale F c v) ≡ v
unscaled F c v nonzero = fun_ext λ j. sym (F.mul_assoc (F.inv c) c (v j)) ∙ ap (λ x. F.mul x (v j)) (inv-mul F c nonzero) ∙ one-mul F (v j)

module _ (F : Field) (M : Module F) where
  -- y times the product of a path and one more generator is the image of y times the product of the path
  pub times-path_then : HasSquareMatrices F M → (y : Vector F) (path : List ℕ) (i : ℕ) → AreGenerators F M path → i < M.count →
      times F M.dimension y (path_product F M (path ++ i ∷ [])) ≡ image F M (times F M.dimension y (path_product F M path)) i
  unfolding path_product
  times-path_then is y [] i all below =
      sym (times_times F M.dimension M.dimension y (M.generator i) (unit_matrix F M.dimension))
      ∙ times_identity F M.dimension (image F M y i) (times_length F M.dimension M.dimension y (M.generator i) (is.square i below).columns)
      ∙ ap (times F M.dimension y) (sym (identity_multiply F M.dimension M.dimension (M.generator i) (is.square i below)))
      ∙ sym (times_times F M.dimension M.dimension y (unit_matrix F M.dimension) (M.generator i))
  times-path_then is y (j ∷ path) i all below =
      sym (times_times F M.dimension M.dimension y (M.generator j) (path_product F M (path ++ i ∷ [])))
      ∙ times-path_then is (image F M y j) path i all.1 below
      ∙ ap (λ (x : Vector F). image F M x i) (times_times F M.dimension M.dimension y (M.generator j) (path_product F M path))

  -- one more generator in a list of numbers of generators
  pub are_generators_then : (path : List ℕ) (i : ℕ) → AreGenerators F M path → i < M.count → AreGenerators F M (path ++ i ∷ [])
  are_generators_then [] i all below = (below, tt)
  are_generators_then (j ∷ path) i all below = (all.0, are_generators_then path i all.1 below)

  -- the image of a row times a product is one
  pub image_of_row_times_product : HasSquareMatrices F M → (k : ℕ) (v : Matrix F) (y : Vector F) (i : ℕ) →
      IsRowTimesProduct F M k v y → i < M.count → IsRowTimesProduct F M k v (image F M y i)
  image_of_row_times_product is k v y i made below = record {
    row = made.row;
    row-below = made.row-below;
    path = made.path ++ i ∷ [];
    generators = are_generators_then made.path i made.generators below;
    equals = ap (λ (x : Vector F). image F M x i) made.equals ∙ sym (times-path_then is (v made.row) made.path i made.generators below);
  }

  pub zero_in_generated : (k : ℕ) (v : Matrix F) → InGenerated F M k v (zero_vector F)
  zero_in_generated k v = record {
    size = 0;
    vectors = v;
    each = λ s below. absurd (omega arith);
    in_span = span_zero F 0 v;
  }

  pub add_in_generated : (k : ℕ) (v : Matrix F) (x y : Vector F) → InGenerated F M k v x → InGenerated F M k v y →
      InGenerated F M k v (add_vectors F x y)
  add_in_generated k v x y p q = record {
    size = p.size + q.size;
    vectors = stacked F p.size p.vectors q.vectors;
    each = each_stacked F (IsRowTimesProduct F M k v) p.size q.size p.vectors q.vectors p.each q.each;
    in_span = span_add F (p.size + q.size) (stacked F p.size p.vectors q.vectors) x y
        (first_in_stacked F p.size q.size p.vectors q.vectors x p.in_span) (second_in_stacked F p.size q.size p.vectors q.vectors y q.in_span);
  }

  pub scale_in_generated : (k : ℕ) (v : Matrix F) (c : F.Element) (x : Vector F) → InGenerated F M k v x → InGenerated F M k v (scale F c x)
  scale_in_generated k v c x p = record {
    size = p.size;
    vectors = p.vectors;
    each = p.each;
    in_span = span_scale F p.size p.vectors c x p.in_span;
  }

  -- the image of a combination is the combination of the images
  pub image-times : (k : ℕ) (c : Vector F) (v : Matrix F) (i : ℕ) → image F M (times F k c v) i ≡ times F k c (λ t. image F M (v t) i)
  image-times k c v i = times_times F M.dimension k c v (M.generator i)

  pub image_in_generated : HasSquareMatrices F M → (k : ℕ) (v : Matrix F) (x : Vector F) (i : ℕ) → InGenerated F M k v x → i < M.count →
      InGenerated F M k v (image F M x i)
  image_in_generated is k v x i p below = record {
    size = p.size;
    vectors = λ s. image F M (p.vectors s) i;
    each = λ s inside. image_of_row_times_product is k v (p.vectors s) i (p.each s inside) below;
    in_span = record {
      coefficients = p.in_span.coefficients;
      combines = ap (λ (x : Vector F). image F M x i) p.in_span.combines ∙ image-times p.size p.in_span.coefficients p.vectors i;
    };
  }

  -- the generated space is an invariant space
  pub generated_is_invariant : HasSquareMatrices F M → (k : ℕ) (v : Matrix F) → IsInvariantSet F M (InGenerated F M k v)
  generated_is_invariant is k v = record {
    zero = zero_in_generated k v;
    sums = add_in_generated k v;
    multiples = scale_in_generated k v;
    images = image_in_generated is k v;
  }

  -- the seed's rows are in the space that they generate
  pub row_in_generated : (k : ℕ) (v : Matrix F) → HasRowsOfLength F M.dimension v → (t : ℕ) → t < k → InGenerated F M k v (v t)
  unfolding path_product
  row_in_generated k v rows t below = record {
    size = 1;
    vectors = λ s. v t;
    each = λ s inside. record {
      row = t;
      row-below = below;
      path = [];
      generators = tt;
      equals = sym (times_identity F M.dimension (v t) (rows t));
    };
    in_span = span_row F 1 (λ s. v t) 0 (omega arith);
  }

  -- an invariant set is a space
  pub invariant_set_is_space : (P : Vector F → Type 0) → IsInvariantSet F M P → IsSpace F P
  invariant_set_is_space P invariant = record { zero = invariant.zero; sums = invariant.sums; multiples = invariant.multiples }

  -- an invariant set with y has y times every product of generators
  pub invariant_set_has_products : HasSquareMatrices F M → (P : Vector F → Type 0) → IsInvariantSet F M P →
      (path : List ℕ) → AreGenerators F M path → (y : Vector F) → HasLength F M.dimension y → P y →
      P (times F M.dimension y (path_product F M path))
  unfolding path_product
  invariant_set_has_products is P invariant [] all y length holds = subst P (sym (times_identity F M.dimension y length)) holds
  invariant_set_has_products is P invariant (i ∷ path) all y length holds =
      subst P (times_times F M.dimension M.dimension y (M.generator i) (path_product F M path))
      (invariant_set_has_products is P invariant path all.1 (image F M y i)
      (times_length F M.dimension M.dimension y (M.generator i) (is.square i all.0).columns) (invariant.images y i holds all.0))

  -- the generated space is the least invariant set with the seed's rows
  pub generated_is_least : HasSquareMatrices F M → (P : Vector F → Type 0) → IsInvariantSet F M P → (k : ℕ) (v : Matrix F) →
      HasRowsOfLength F M.dimension v → ((t : ℕ) → t < k → P (v t)) → (x : Vector F) → InGenerated F M k v x → P x
  generated_is_least is P invariant k v lengths rows x p =
      space_has_span F P (invariant_set_is_space P invariant) p.size p.vectors each x p.in_span
    where
      each : (s : ℕ) → s < p.size → P (p.vectors s)
      each s below = let made = p.each s below in
          subst P (sym made.equals)
          (invariant_set_has_products is P invariant made.path made.generators (v made.row) (lengths made.row) (rows made.row made.row-below))

  -- an invariant span is an invariant set
  pub invariant_span_is_set : (k : ℕ) (v : Matrix F) → IsInvariant F M k v → IsInvariantSet F M (InSpan F k v)
  invariant_span_is_set k v invariant = record {
    zero = span_zero F k v;
    sums = span_add F k v;
    multiples = span_scale F k v;
    images = λ x i within below.
        subst (InSpan F k v) (sym (ap (λ (y : Vector F). image F M y i) within.combines ∙ image-times k within.coefficients v i))
        (space_has_times F (InSpan F k v) (span_is_space F k v) k within.coefficients (λ t. image F M (v t) i)
        (λ t inside. invariant.images t i inside below));
  }

  -- the generated space lies in every invariant span with the seed's rows
  pub generated_within : HasSquareMatrices F M → (k : ℕ) (v : Matrix F) → HasRowsOfLength F M.dimension v → (r : ℕ) (w : Matrix F) →
      IsInvariant F M r w → SpanWithin F k v r w → (x : Vector F) → InGenerated F M k v x → InSpan F r w x
  generated_within is k v lengths r w invariant within =
      generated_is_least is (InSpan F r w) (invariant_span_is_set r w invariant) k v lengths within

  -- rows of the generated space with an invariant span that has the seed's rows span it
  pub spans_generated : HasSquareMatrices F M → (k : ℕ) (v : Matrix F) → HasRowsOfLength F M.dimension v → (r : ℕ) (w : Matrix F) →
      IsInvariant F M r w → SpanWithin F k v r w → ((t : ℕ) → t < r → InGenerated F M k v (w t)) → SpansGenerated F M k v r w
  spans_generated is k v lengths r w invariant within made = record {
    forth = space_has_span F (InGenerated F M k v) (invariant_set_is_space (InGenerated F M k v) (generated_is_invariant is k v)) r w made;
    back = generated_within is k v lengths r w invariant within;
  }

  -- the span of rows that span a generated space is invariant
  pub spans_generated_is_invariant : HasSquareMatrices F M → (k : ℕ) (v : Matrix F) (r : ℕ) (w : Matrix F) → SpansGenerated F M k v r w → IsInvariant F M r w
  spans_generated_is_invariant is k v r w spans = record {
    images = λ t i inside below. spans.back (image F M (w t) i)
        (image_in_generated is k v (w t) i (spans.forth (w t) (span_row F r w t inside)) below);
  }

  -- rows span the generated space exactly when their span is invariant, has the seed's rows, and is generated by these
  pub spans_generated_exactly : HasSquareMatrices F M → (k : ℕ) (v : Matrix F) → HasRowsOfLength F M.dimension v → (r : ℕ) (w : Matrix F) →
      SpansGenerated F M k v r w ↔ (IsInvariant F M r w × SpanWithin F k v r w × ((t : ℕ) → t < r → InGenerated F M k v (w t)))
  spans_generated_exactly is k v lengths r w = (
    (λ spans. (
      spans_generated_is_invariant is k v r w spans,
      (λ t below. spans.back (v t) (row_in_generated k v lengths t below)),
      (λ t below. spans.forth (w t) (span_row F r w t below)),
    )),
    (λ parts. spans_generated is k v lengths r w parts.0 parts.1 parts.2),
  )

  -- a vector is in a space with any nonzero multiple of it
  pub multiple_within : (P : Vector F → Type 0) → IsSpace F P → (c : F.Element) (v : Vector F) → c ≢ F.zero → P (scale F c v) → P v
  multiple_within P space c v nonzero holds = subst P (unscaled F c v nonzero) (space.multiples (F.inv c) (scale F c v) holds)

  -- a nonzero multiple of a vector generates what the vector generates
  pub multiple_generates : HasSquareMatrices F M → (c : F.Element) (v : Vector F) → c ≢ F.zero → HasLength F M.dimension v → (x : Vector F) →
      InGenerated F M 1 (λ t. scale F c v) x ↔ InGenerated F M 1 (λ t. v) x
  multiple_generates is c v nonzero length x = (forth, back)
    where
      lengths : HasLength F M.dimension (scale F c v)
      lengths j past = ap (F.mul c) (length j past) ∙ mul-zero F c

      forth : InGenerated F M 1 (λ t. scale F c v) x → InGenerated F M 1 (λ t. v) x
      forth = generated_is_least is (InGenerated F M 1 (λ t. v)) (generated_is_invariant is 1 (λ t. v)) 1 (λ t. scale F c v) (λ t. lengths)
          (λ t below. scale_in_generated 1 (λ s. v) c v (row_in_generated 1 (λ s. v) (λ s. length) 0 (omega arith))) x

      back : InGenerated F M 1 (λ t. v) x → InGenerated F M 1 (λ t. scale F c v) x
      back = generated_is_least is (InGenerated F M 1 (λ t. scale F c v)) (generated_is_invariant is 1 (λ t. scale F c v)) 1 (λ t. v) (λ t. length)
          (λ t below. multiple_within (InGenerated F M 1 (λ s. scale F c v))
          (invariant_set_is_space (InGenerated F M 1 (λ s. scale F c v)) (generated_is_invariant is 1 (λ s. scale F c v))) c v nonzero
          (row_in_generated 1 (λ s. scale F c v) (λ s. lengths) 0 (omega arith))) x
