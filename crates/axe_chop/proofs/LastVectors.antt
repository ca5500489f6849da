-- Where the last column is no pivot of a submodule: the last unit vector is not in the submodule, and if it generates
-- everything, the last unit vector of the quotient does so there.
use Rattle.std.proofs.Common.{◌≡◌, ℕ, ◌<◌, ◌+◌, ◌-◌, List, length, slice_get, Some, refl, sym, ◌∙◌, ap, ap₂, subst, arith}
use Rattle.std.proofs.lemmas.Option.{slice_get_within, get_or_from_slice_get}
use Rattle.axe_algebra.specs.Field.{Field}
use Rattle.axe_algebra.specs.Vectors.{Vector, Matrix, HasLength, HasRowsOfLength, HasShape, zero_vector, unit_vector, add_vectors, subtract, scale, times}
use Rattle.axe_algebra.specs.Spans.{InSpan}
use Rattle.axe_algebra.specs.Reduced.{IsPivot, IsAscendingListOf, IsZeroAtPivots}
use Rattle.axe_algebra.specs.Modules.{Module, HasSquareMatrices, IsInvariant, IsInvariantSet, InGenerated, VectorGeneratesAll, image}
use Rattle.axe_algebra.specs.Actions.{IsFree, IsQuotientAction, unit_vectors}
use Rattle.axe_algebra.specs.NumberField.{NumberField}
use Rattle.axe_algebra.specs.Bridge.{vector_of, matrix_of, module_of}
use Rattle.axe_algebra.specs.Lists.{unit_row}
use Rattle.axe_algebra.specs.SpansOfLists.{IsSpanned}
use Rattle.axe_algebra.specs.ModulesOfLists.{GeneratesEverything}
use Rattle.axe_algebra.proofs.FieldLaws.{zero-add, mul-zero, add_swap}
use Rattle.axe_algebra.proofs.ProductLaws.{times_zero, times-add_vectors, times-scale, times_length, times_unit, unit_at, unit_off, unit_length}
use Rattle.axe_algebra.proofs.Spanning.{span_zero, span_same, span_add, span_scale}
use Rattle.axe_algebra.proofs.Generated.{zero_in_generated, add_in_generated, scale_in_generated, image_in_generated, row_in_generated, generated_is_least, invariant_span_is_set}
use Rattle.axe_algebra.proofs.ReducedBases.{zero_at_pivots_is_zero}
use Rattle.axe_algebra.proofs.Flags.{subtract_then_add}
use Rattle.axe_algebra.proofs.Quotients.{unit_combination_at, unit_combination_off}
use Rattle.axe_algebra.proofs.Sections.{ActsModulo, lifted_image}
use Rattle.axe_algebra.proofs.ListEntries.{rows_length}
use Rattle.axe_algebra.proofs.ListVectors.{vector_of_unit_row}
use Rattle.axe_algebra.proofs.ListModules.{module_shape}
use Rattle.axe_field.specs.NumberFields.{number_field, gf}
use Rattle.axe_matrix.specs.Matrices.{MatrixValue}
use Rattle.axe_spin.specs.Modules.{ModuleValue, IsModule}
use Rattle.axe_action.specs.Actions.{IsActionModulo}
use Rattle.axe_action.specs.FreeColumns.{IsFreeColumn, AreFreeColumns, rows_to_span}
use Rattle.axe_norton.specs.Spaces.{IsProperSubmodule, LastGenerates}
use Rattle.axe_norton.specs.Verdicts.{Decides}
use Rattle.axe_norton.specs.declared.verdicts.Verdict.TheVariants.{Reducible}
use Rattle.axe_norton.proofs.TruthLaws.{rows_over_field}
use Rattle.axe_norton.proofs.LastLaws.{last_generates_where_outside}
use Rattle.axe_series.specs.Sections.{SectionValue}
use Rattle.axe_chop.proofs.Cutting.{IsOpened, proper_here}
use mathlib.Core.Path.{fun_ext}
use native.Mathlib.Decide.{dec_lt}

-- ---- vectors of a quotient, and their lifts

-- the lift of a vector of the quotient: the combination of the unit vectors of the free columns with its entries
abbrev lift : (F : Field) → Module F → (ℕ → ℕ) → Vector F → Vector F
lift F Q columns y = times F Q.dimension y (unit_vectors F columns)

-- modulo a span, x is the lift of a vector that e generates in the quotient
record IsOverGenerated (F : Field) (k : ℕ) (v : Matrix F) (Q : Module F) (columns : ℕ → ℕ) (e x : Vector F) : Type 0 where
  image_of : Vector F
  long : HasLength F Q.dimension image_of
  generated : InGenerated F Q 1 (λ t. e) image_of
  rest : Vector F
  in_span : InSpan F k v rest
  splits : x ≡ add_vectors F rest (lift F Q columns image_of)

module _ (F : Field) (M : Module F) (is : HasSquareMatrices F M) (k : ℕ) (v : Matrix F) (rows : HasRowsOfLength F M.dimension v)
    (invariant : IsInvariant F M k v) (m : ℕ) (Q : Module F) (action : IsQuotientAction F M k v m Q) where
  abbrev lifted : Vector F → Vector F
  lifted y = lift F Q action.columns y

  free : IsAscendingListOf (IsFree F M.dimension k v) Q.dimension action.columns
  free = subst (λ d. IsAscendingListOf (IsFree F M.dimension k v) d action.columns) (sym action.dimension) action.free

  quotient_square : HasSquareMatrices F Q
  quotient_square = record {
    square = λ i below. subst (λ d. HasShape F d d (Q.generator i)) (sym action.dimension)
        (action.square i (subst (λ c. i < c) action.count below));
  }

  acts : ActsModulo F M k v (unit_vectors F action.columns) Q
  acts = record {
    count = action.count;
    acts = λ i t below inside. subst
        (λ d. InSpan F k v (subtract F (image F M (unit_vector F (action.columns t)) i) (times F d (Q.generator i t) (unit_vectors F action.columns))))
        (sym action.dimension) (action.acts i t below (subst (λ d. t < d) action.dimension inside));
  }

  lifted_at : (y : Vector F) (s : ℕ) → s < Q.dimension → lifted y (action.columns s) ≡ y s
  lifted_at = unit_combination_at F (IsFree F M.dimension k v) Q.dimension action.columns free

  lifted_at_pivots : (y : Vector F) → IsZeroAtPivots F k v (lifted y)
  lifted_at_pivots y j pivot = unit_combination_off F Q.dimension action.columns y j
      (λ t below e. (free.each t below).no_pivot (subst (IsPivot F k v) (sym e) pivot))

  lifted_long : (y : Vector F) → HasLength F M.dimension (lifted y)
  lifted_long y j past = unit_combination_off F Q.dimension action.columns y j
      (λ t below e. let b = (free.each t below).below in omega (arith, b, e, past))

  -- vectors whose lifts are the same modulo the span are the same
  same_lifts : (x y rest : Vector F) → HasLength F Q.dimension x → HasLength F Q.dimension y → InSpan F k v rest →
      lifted x ≡ add_vectors F rest (lifted y) → x ≡ y
  same_lifts x y rest x_long y_long in_span splits = fun_ext λ s. at s (dec_lt s Q.dimension)
    where
      at_pivot : (j : ℕ) → IsPivot F k v j → rest j ≡ F.zero
      at_pivot j pivot =
          sym (F.add-zero (rest j)) ∙ ap (F.add (rest j)) (sym (lifted_at_pivots y j pivot))
          ∙ sym (ap (λ (z : Vector F). z j) splits) ∙ lifted_at_pivots x j pivot

      nothing : rest ≡ zero_vector F
      nothing = zero_at_pivots_is_zero F M.dimension k v rest rows in_span at_pivot

      at : (s : ℕ) → Dec (s < Q.dimension) → x s ≡ y s
      at s (yes below) =
          sym (lifted_at x s below) ∙ ap (λ (z : Vector F). z (action.columns s)) splits
          ∙ ap (λ (z : Vector F). F.add (z (action.columns s)) (lifted y (action.columns s))) nothing
          ∙ zero-add F (lifted y (action.columns s)) ∙ lifted_at y s below
      at s (no past) = x_long s (omega (arith, past)) ∙ sym (y_long s (omega (arith, past)))

  -- what lies over vectors that e generates is invariant
  over_generated_is_invariant : (e : Vector F) → IsInvariantSet F M (IsOverGenerated F k v Q action.columns e)
  over_generated_is_invariant e = record {
    zero = record {
      image_of = zero_vector F;
      long = λ j past. refl;
      generated = zero_in_generated F Q 1 (λ t. e);
      rest = zero_vector F;
      in_span = span_zero F k v;
      splits = sym (times_zero F Q.dimension (unit_vectors F action.columns)) ∙ (fun_ext λ j. sym (zero-add F (lifted (zero_vector F) j)));
    };
    sums = λ x y p q. record {
      image_of = add_vectors F p.image_of q.image_of;
      long = λ j past. ap₂ F.add (p.long j past) (q.long j past) ∙ F.add-zero F.zero;
      generated = add_in_generated F Q 1 (λ t. e) p.image_of q.image_of p.generated q.generated;
      rest = add_vectors F p.rest q.rest;
      in_span = span_add F k v p.rest q.rest p.in_span q.in_span;
      splits = ap₂ (add_vectors F) p.splits q.splits
          ∙ (fun_ext λ j. add_swap F (p.rest j) (lifted p.image_of j) (q.rest j) (lifted q.image_of j))
          ∙ ap (add_vectors F (add_vectors F p.rest q.rest))
          (sym (times-add_vectors F Q.dimension p.image_of q.image_of (unit_vectors F action.columns)));
    };
    multiples = λ c x p. record {
      image_of = scale F c p.image_of;
      long = λ j past. ap (F.mul c) (p.long j past) ∙ mul-zero F c;
      generated = scale_in_generated F Q 1 (λ t. e) c p.image_of p.generated;
      rest = scale F c p.rest;
      in_span = span_scale F k v c p.rest p.in_span;
      splits = ap (scale F c) p.splits ∙ (fun_ext λ j. F.mul-add c (p.rest j) (lifted p.image_of j))
          ∙ ap (add_vectors F (scale F c p.rest)) (sym (times-scale F Q.dimension c p.image_of (unit_vectors F action.columns)));
    };
    images = λ x i p below. moved x i p below;
  }
    where
      moved : (x : Vector F) (i : ℕ) → IsOverGenerated F k v Q action.columns e x → i < M.count →
          IsOverGenerated F k v Q action.columns e (image F M x i)
      moved x i p below = record {
        image_of = image F Q p.image_of i;
        long = times_length F Q.dimension Q.dimension p.image_of (Q.generator i) (quotient_square.square i inside).columns;
        generated = image_in_generated F Q quotient_square 1 (λ t. e) p.image_of i p.generated inside;
        rest = add_vectors F (image F M p.rest i) difference;
        in_span = span_add F k v (image F M p.rest i) difference
            ((invariant_span_is_set F M k v invariant).images p.rest i p.in_span below)
            (lifted_image F M k v (unit_vectors F action.columns) Q acts p.image_of i below);
        splits = ap (λ (z : Vector F). image F M z i) p.splits
            ∙ times-add_vectors F M.dimension p.rest (lifted p.image_of) (M.generator i)
            ∙ ap (add_vectors F (image F M p.rest i)) (sym (subtract_then_add F (image F M (lifted p.image_of) i) after))
            ∙ (fun_ext λ j. sym (F.add_assoc (image F M p.rest i j) (difference j) (after j)));
      }
        where
          inside : i < Q.count
          inside = subst (λ c. i < c) (sym action.count) below

          after : Vector F
          after = lifted (image F Q p.image_of i)

          difference : Vector F
          difference = subtract F (image F M (lifted p.image_of) i) after

  -- a vector of the quotient generates everything there, where its lift generates everything
  pub quotient_generated : (e : Vector F) → HasLength F Q.dimension e → VectorGeneratesAll F M (lifted e) → VectorGeneratesAll F Q e
  quotient_generated e long all y y_long =
      let over : IsOverGenerated F k v Q action.columns e (lifted y) =
      generated_is_least F M is (IsOverGenerated F k v Q action.columns e) (over_generated_is_invariant e) 1 (λ t. lifted e) (λ t. lifted_long e)
      (λ t below. itself) (lifted y) (all (lifted y) (lifted_long y)) in
      subst (InGenerated F Q 1 (λ t. e)) (sym (same_lifts y over.image_of over.rest y_long over.long over.in_span over.splits)) over.generated
    where
      itself : IsOverGenerated F k v Q action.columns e (lifted e)
      itself = record {
        image_of = e;
        long = long;
        generated = row_in_generated F Q 1 (λ t. e) (λ t. long) 0 (omega arith);
        rest = zero_vector F;
        in_span = span_zero F k v;
        splits = fun_ext λ j. sym (zero-add F (lifted e j));
      }

  -- as the last unit vector does, where the last column is no pivot
  pub last_of_quotient : (last : ℕ) → last < M.dimension → M.dimension < last + 2 → IsFree F M.dimension k v last →
      VectorGeneratesAll F M (unit_vector F last) →
      (0 < Q.dimension) × VectorGeneratesAll F Q (unit_vector F (Q.dimension - 1))
  last_of_quotient last below greatest is_free all = at (free.all last is_free)
    where
      at : (t : ℕ) × (t < Q.dimension) × (action.columns t ≡ last) →
          (0 < Q.dimension) × VectorGeneratesAll F Q (unit_vector F (Q.dimension - 1))
      at (t, inside, same) = (
        omega (arith, inside),
        quotient_generated (unit_vector F (Q.dimension - 1)) (unit_length F Q.dimension (Q.dimension - 1) (omega (arith, inside)))
            (subst (VectorGeneratesAll F M) (sym lift_is) all),
      )
        where
          none_after : Dec (t < Q.dimension - 1) → t ≡ Q.dimension - 1
          none_after (yes earlier) =
              let rise = free.ascending t (Q.dimension - 1) earlier (omega (arith, inside)) in
              let end = (free.each (Q.dimension - 1) (omega (arith, inside))).below in
              absurd (omega (arith, rise, end, same, greatest))
          none_after (no later) = omega (arith, inside, later)

          lift_is : lifted (unit_vector F (Q.dimension - 1)) ≡ unit_vector F last
          lift_is =
              times_unit F Q.dimension (Q.dimension - 1) (unit_vectors F action.columns) (omega (arith, inside))
              ∙ ap (λ s. unit_vector F (action.columns s)) (sym (none_after (dec_lt t (Q.dimension - 1)))) ∙ ap (unit_vector F) same

-- ---- the last unit vector of a module

-- the columns that are no pivots of the span end with the last column
pub record EndsWithLast (m : ModuleValue) (space : MatrixValue) (columns : List ℕ) : Type 0 where
  pub free : AreFreeColumns (rows_to_span space) columns
  pub ends : slice_get columns (length columns - 1) ≡ Some (m.dim - 1)

module _ (m : ModuleValue) (space : MatrixValue) (columns : List ℕ) (is_module : IsModule m) (proper : IsProperSubmodule m space)
    (last : EndsWithLast m space columns) where
  abbrev K : NumberField
  K = number_field m.order

  abbrev F : Field
  F = gf m.order

  abbrev M : Module F
  M = module_of K m.dim m.generators

  below_dim : m.dim - 1 < m.dim
  below_dim = omega (arith, is_module.over.positive)

  unit_is : vector_of K (unit_row m.dim (m.dim - 1)) ≡ unit_vector F (m.dim - 1)
  unit_is = vector_of_unit_row K m.dim (m.dim - 1) below_dim

  is_free : IsFree F m.dim (length space.rows) (matrix_of K space.rows) (m.dim - 1)
  is_free =
      subst (λ n. IsFree F n (length space.rows) (matrix_of K space.rows) (m.dim - 1)) proper.columns
      (subst (λ o. IsFree (gf o) space.cols (length space.rows) (matrix_of (number_field o) space.rows) (m.dim - 1)) proper.field
      (subst (IsFreeColumn (rows_to_span space)) (get_or_from_slice_get columns (length columns - 1) (m.dim - 1) 0 last.ends)
      (last.free.each (length columns - 1) (slice_get_within columns (length columns - 1) (m.dim - 1) last.ends))))

  -- it is not in the submodule
  pub last_is_outside : ¬ (IsSpanned K space.rows (unit_row m.dim (m.dim - 1)))
  last_is_outside spanned = is_free.no_pivot (record {
    vector = unit_vector F (m.dim - 1);
    in_span = span_same F (length space.rows) (matrix_of K space.rows) _ _ (sym unit_is) spanned;
    leads = record {
      nonzero = λ e. F.one-not-zero (sym (unit_at F (m.dim - 1)) ∙ e);
      before = λ i earlier. unit_off F (m.dim - 1) i (λ e. omega (arith, e, earlier));
    };
  })

  -- and where it generates everything, the last unit vector of the quotient does so there
  pub last_generates_in_quotient : (quotient : ModuleValue) → IsActionModulo m space quotient → LastGenerates m → LastGenerates quotient
  last_generates_in_quotient quotient modulo generates =
      subst (λ o. GeneratesEverything (number_field o) quotient.dim quotient.generators (unit_row quotient.dim (quotient.dim - 1))) (sym modulo.field)
      (subst (VectorGeneratesAll F (module_of K quotient.dim quotient.generators))
      (sym (vector_of_unit_row K quotient.dim (quotient.dim - 1) (omega (arith, in_quotient.0)))) in_quotient.1)
    where
      in_quotient : (0 < quotient.dim) × VectorGeneratesAll F (module_of K quotient.dim quotient.generators) (unit_vector F (quotient.dim - 1))
      in_quotient =
          last_of_quotient F M (module_shape K m.dim m.generators is_module.over.square) (length space.rows) (matrix_of K space.rows)
          (rows_length K m.dim space.rows (rows_over_field m.order m.dim space proper.field proper.columns proper.well_formed)) proper.invariant
          quotient.dim (module_of K quotient.dim quotient.generators) modulo.acts (m.dim - 1) below_dim (omega arith) is_free
          (subst (VectorGeneratesAll F M) unit_is generates)

-- ---- the quotient by a submodule that words found

module _ (section self : SectionValue) (space : MatrixValue) (opened : IsOpened section self space) (columns : List ℕ)
    (free : AreFreeColumns (rows_to_span space) columns) where
  -- where the last column is no pivot, the last unit vector of the quotient generates everything there: that of the
  -- section is outside the submodule, and so generated everything, as word 0 would have found what it generates
  pub last_of_found : (seed words : ℕ) × Decides self.action seed words (Reducible space) → (n : ℕ) → n ≡ space.cols →
      (lent : List ℕ) → lent ≡ columns → slice_get lent (length lent - 1) ≡ Some (n - 1) → (quotient : ModuleValue) → IsActionModulo section.action space quotient →
      LastGenerates quotient
  last_of_found (seed, words, decided) n same lent lent_is ends quotient modulo =
      last_generates_in_quotient section.action space columns is_module proper last quotient modulo
      (last_generates_where_outside section.action seed words space is_module
      (subst (λ (s : SectionValue). Decides s.action seed words (Reducible space)) (sym opened.same) decided)
      (last_is_outside section.action space columns is_module proper last))
    where
      is_module : IsModule section.action
      is_module = opened.is_section.action_formed

      proper : IsProperSubmodule section.action space
      proper = proper_here section self space opened

      last : EndsWithLast section.action space columns
      last = record {
        free = free;
        ends = subst (λ d. slice_get columns (length columns - 1) ≡ Some (d - 1)) (same ∙ proper.columns)
            (subst (λ (l : List ℕ). slice_get l (length l - 1) ≡ Some (n - 1)) lent_is ends);
      }
