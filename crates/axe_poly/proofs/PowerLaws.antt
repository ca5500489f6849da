-- The rows v, v x, v x^2 and so on as they are inserted into an echelon form, and the minimal polynomial that the first
-- of them that is not new gives.
use Rattle.std.specs.Prelude.{◌≡◌, ℕ, zero, suc, ◌+◌, ◌-◌, ◌<◌, ◌≤◌, List, [], ◌∷◌, ◌++◌, length, get_or, map, Bool}
use Rattle.std.specs.Prelude.{true, false}
use Rattle.std.proofs.lemmas.List.{get_or_append_left, get_or-append-add, length-append, length-map, get_or-map}
use Rattle.std.proofs.lemmas.List.Elements.{All-push, All-map}
use Rattle.axe_algebra.specs.NumberField.{NumberField}
use Rattle.axe_algebra.specs.Field.{Field}
use Rattle.axe_algebra.specs.Vectors.{zero_vector, times}
use Rattle.axe_algebra.specs.Lists.{IsVectorOver, IsMatrixOver, IsSquareOver}
use Rattle.axe_algebra.specs.ListArithmetic.{combination}
use Rattle.axe_algebra.specs.SpansOfLists.{IsIndependent, IsSpanned}
use Rattle.axe_algebra.specs.Bridge.{field_of, vector_of, matrix_of}
use Rattle.axe_algebra.proofs.ProductLaws.{times_none}
use Rattle.axe_row.proofs.CombinationLaws.{length-combination}
use Rattle.axe_algebra.proofs.ListSpans.{appended_length}
use Rattle.axe_field.specs.Arithmetic.{field_neg}
use Rattle.axe_field.specs.Order.{Order, order_number}
use Rattle.axe_field.specs.NumberFields.{number_field}
use Rattle.axe_row.specs.Rows.{RowValue, IsRow}
use Rattle.axe_row.specs.Operations.{IsZeroVector}
use Rattle.axe_matrix.specs.Matrices.{MatrixValue, IsMatrix, vector_product}
use Rattle.axe_echelon.specs.Echelons.{EchelonValue, IsEchelon, AreCoordinates, with_row_where}
use Rattle.axe_echelon.proofs.EliminationLaws.{zero_row_of_vector, full_echelon_spans, room_of_rank}
use Rattle.axe_echelon.proofs.InverseLaws.{spanned_of_not_new}
use Rattle.axe_echelon.proofs.StepLaws.{over_of_row}
use Rattle.axe_polynomial_algebra.specs.PolynomialsOfLists.{degree_of, IsMonicOver}
use Rattle.axe_polynomial_algebra.proofs.MinimalLists.{ArePowerRows, minimal_of_power_rows}
use Rattle.axe_poly.specs.Polys.{PolyValue, IsPoly, poly_with, IsMinimalPolynomialOf}
use Rattle.axe_poly.specs.declared.minimal.CyclicBasis.{CyclicBasis}
use Rattle.axe_poly.specs.Powers.{ArePowers, IsNextPower, IsCyclicBasis, matrix_of_rows, power_less}
use Rattle.axe_poly.proofs.HornerLaws.{square_over}
use mathlib.Core.Path.{refl, sym, ◌∙◌, ap, subst}
use native.Mathlib.Omega.{arith}
use native.Mathlib.Decide.{dec_lt}

-- the last of appended rows
at_last : (rows : List (List ℕ)) (row : List ℕ) (t : ℕ) → t ≡ length rows → get_or (rows ++ row ∷ []) t [] ≡ row
at_last rows row t e =
    (let place : t ≡ length rows + 0 = omega (arith, e) in ap (λ (k : ℕ). get_or (rows ++ row ∷ []) k []) place)
    ∙ get_or-append-add rows (row ∷ []) 0 []

-- a row that the echelon form takes and the matrix of its rows gets: it is the matrix of the rows still
pub rows_more : (e grown : EchelonValue) (rows more : MatrixValue) (power copy : RowValue) (new : Bool) →
    rows ≡ matrix_of_rows e → copy ≡ power → new ≡ true → grown ≡ with_row_where new e copy.entries →
    more ≡ record rows { rows = rows.rows ++ power.entries ∷ [] } → more ≡ matrix_of_rows grown
rows_more e grown rows more power copy new same copied is_new inserted appended =
    appended
    ∙ ap (λ (r : MatrixValue). record r { rows = r.rows ++ power.entries ∷ [] }) same
    ∙ sym (ap matrix_of_rows
    (inserted ∙ ap (λ b. with_row_where b e copy.entries) is_new
    ∙ ap (λ (r : RowValue). with_row_where true e r.entries) copied))

-- one that it doesn't take changes neither
pub rows_kept : (e grown : EchelonValue) (rows : MatrixValue) (copy : RowValue) (new : Bool) →
    rows ≡ matrix_of_rows e → new ≡ false → grown ≡ with_row_where new e copy.entries → rows ≡ matrix_of_rows grown
rows_kept e grown rows copy new same not_new inserted =
    same ∙ sym (ap matrix_of_rows (inserted ∙ ap (λ b. with_row_where b e copy.entries) not_new))

module _ (m : MatrixValue) (v : List ℕ) where
  abbrev K : NumberField
  K = number_field m.order

  -- ---- the rows v, v x, ..

  -- the first of them
  powers_first : (row : List ℕ) → row ≡ v → ArePowers m v ([] ++ row ∷ [])
  powers_first row is = record { first = λ some. is; next = λ t below. absurd (omega (arith, below)) }

  -- those before the last
  powers_before : (rows : List (List ℕ)) (row : List ℕ) → ArePowers m v (rows ++ row ∷ []) → ArePowers m v rows
  powers_before rows row are = record {
    first = λ some. sym (get_or_append_left rows (row ∷ []) [] 0 some)
        ∙ are.first (omega (arith, appended_length K rows row));
    next = λ t below.
        sym (get_or_append_left rows (row ∷ []) [] (suc t) below)
        ∙ are.next t (omega (arith, below, appended_length K rows row))
        ∙ ap (λ (r : List ℕ). combination K m.cols r m.rows)
        (get_or_append_left rows (row ∷ []) [] t (omega (arith, below)));
  }

  -- the last is the one before it times the matrix
  powers_last : (rows : List (List ℕ)) (row : List ℕ) (t : ℕ) → ArePowers m v (rows ++ row ∷ []) → suc t ≡ length rows →
      row ≡ combination K m.cols (get_or rows t []) m.rows
  powers_last rows row t are e =
      sym (at_last rows row (suc t) e) ∙ are.next t (omega (arith, e, appended_length K rows row))
      ∙ ap (λ (r : List ℕ). combination K m.cols r m.rows) (get_or_append_left rows (row ∷ []) [] t (omega (arith, e)))

  -- one more of them
  powers_more : (rows : List (List ℕ)) (row further : List ℕ) → ArePowers m v (rows ++ row ∷ []) →
      further ≡ combination K m.cols row m.rows → ArePowers m v ((rows ++ row ∷ []) ++ further ∷ [])
  powers_more rows row further are is = record {
    first = λ some. get_or_append_left (rows ++ row ∷ []) (further ∷ []) [] 0
        (omega (arith, appended_length K rows row)) ∙ are.first (omega (arith, appended_length K rows row));
    next = λ t below. at t below (dec_lt (suc t) (length (rows ++ row ∷ [])));
  }
    where
      all : List (List ℕ)
      all = rows ++ row ∷ []

      kept : (t : ℕ) → t < length all → get_or (all ++ further ∷ []) t [] ≡ get_or all t []
      kept t below = get_or_append_left all (further ∷ []) [] t below

      at : (t : ℕ) → suc t < length (all ++ further ∷ []) → Dec (suc t < length all) →
          get_or (all ++ further ∷ []) (suc t) [] ≡ combination K m.cols (get_or (all ++ further ∷ []) t []) m.rows
      at t below (yes inside) =
          kept (suc t) inside ∙ are.next t inside
          ∙ ap (λ (r : List ℕ). combination K m.cols r m.rows) (sym (kept t (omega (arith, inside))))
      at t below (no past) =
          at_last all further (suc t) (omega (arith, below, past, appended_length K all further)) ∙ is
          ∙ ap (λ (r : List ℕ). combination K m.cols r m.rows)
          (sym (kept t (omega (arith, below, appended_length K all further))
          ∙ at_last rows row t (omega (arith, below, past, appended_length K all further, appended_length K rows row))))

  -- ---- the echelon form that they are inserted into

  -- it has the first k of them, and `power` is the next
  pub record HasPowers (k : ℕ) (e : EchelonValue) (power : RowValue) : Type 0 where
    pub field : e.order ≡ m.order
    pub columns : e.cols ≡ m.cols
    pub count : length e.rows ≡ k
    pub next_field : power.order ≡ m.order
    pub long : length power.entries ≡ m.cols
    pub powers : ArePowers m v (e.rows ++ power.entries ∷ [])
    pub well_formed : IsEchelon e

  pub no_powers : (e : EchelonValue) (power : RowValue) → e ≡ record { order = m.order; cols = m.cols; rows = [] } →
      IsEchelon e → power.order ≡ m.order → power.entries ≡ v → length v ≡ m.cols → HasPowers 0 e power
  no_powers e power none formed field is long = record {
    field = ap (λ (x : EchelonValue). x.order) none;
    columns = ap (λ (x : EchelonValue). x.cols) none;
    count = ap (λ (x : EchelonValue). length x.rows) none;
    next_field = field;
    long = ap length is ∙ long;
    powers = subst (λ (rows : List (List ℕ)). ArePowers m v (rows ++ power.entries ∷ []))
        (sym (ap (λ (x : EchelonValue). x.rows) none)) (powers_first power.entries is);
    well_formed = formed;
  }

  -- a new one is inserted, and the next is it times the matrix
  pub one_power_more : (k : ℕ) (e grown : EchelonValue) (power copy further : RowValue) (new : Bool) →
      HasPowers k e power → copy ≡ power → new ≡ true → grown ≡ with_row_where new e copy.entries → IsEchelon grown →
      further ≡ vector_product power m → HasPowers (k + 1) grown further
  one_power_more k e grown power copy further new has copied is_new is formed product = record {
    field = ap (λ (x : EchelonValue). x.order) same ∙ has.field;
    columns = ap (λ (x : EchelonValue). x.cols) same ∙ has.columns;
    count = ap (λ (x : EchelonValue). length x.rows) same ∙ appended_length K e.rows power.entries
        ∙ omega (arith, has.count);
    next_field = ap (λ (r : RowValue). r.order) product;
    long = ap (λ (r : RowValue). length r.entries) product ∙ length-combination K m.cols power.entries m.rows;
    powers = subst (λ (rows : List (List ℕ)). ArePowers m v (rows ++ further.entries ∷ []))
        (sym (ap (λ (x : EchelonValue). x.rows) same))
        (powers_more e.rows power.entries further.entries has.powers (ap (λ (r : RowValue). r.entries) product));
    well_formed = formed;
  }
    where
      same : grown ≡ record { order = e.order; cols = e.cols; rows = e.rows ++ power.entries ∷ [] }
      same = is ∙ ap (λ b. with_row_where b e copy.entries) is_new
          ∙ ap (λ (r : RowValue). with_row_where true e r.entries) copied

  module _ (over : IsVectorOver K m.cols v) (nonzero : ¬ (IsZeroVector v)) where
    -- the first of them is new
    some_power : (k r : ℕ) (e : EchelonValue) (power : RowValue) → r ≡ length e.rows → HasPowers k e power →
        IsSpanned K e.rows power.entries → 0 < length e.rows
    some_power k (suc r) e power rows has spanned = omega (arith, rows)
    some_power k zero e power rows has spanned =
        absurd (nonzero (zero_row_of_vector K m.cols v over (ap (vector_of K) (sym is_first) ∙ vanishes)))
      where
        F : Field
        F = field_of K

        is_first : power.entries ≡ v
        is_first = sym (at_last e.rows power.entries 0 rows)
            ∙ has.powers.first (omega (arith, appended_length K e.rows power.entries))

        vanishes : vector_of K power.entries ≡ zero_vector F
        vanishes =
            spanned.combines ∙ ap (λ n. times F n spanned.coefficients (matrix_of K e.rows)) (sym rows)
            ∙ times_none F spanned.coefficients (matrix_of K e.rows)

    next_power : (k : ℕ) (e : EchelonValue) (power : RowValue) → HasPowers k e power →
        IsSpanned K e.rows power.entries → IsNextPower m v e power
    next_power k e power has spanned = record {
      field = has.field;
      columns = has.columns;
      some = some_power k (length e.rows) e power refl has spanned;
      next_field = has.next_field;
      long = has.long;
      powers = has.powers;
      spanned = spanned;
      well_formed = has.well_formed;
    }

    -- one that is not new
    pub power_found : (k : ℕ) (e grown : EchelonValue) (power copy : RowValue) (new : Bool) → HasPowers k e power →
        copy ≡ power → (¬ (IsSpanned (number_field e.order) e.rows copy.entries) → new ≡ true) → new ≡ false →
        grown ≡ with_row_where new e copy.entries → IsNextPower m v grown power
    power_found k e grown power copy new has copied exactly not_new is =
        subst (λ x. IsNextPower m v x power) (sym (is ∙ ap (λ b. with_row_where b e copy.entries) not_new))
        (next_power k e power has
        (subst (λ (r : RowValue). IsSpanned K e.rows r.entries) copied
        (subst (λ o. IsSpanned (number_field o) e.rows copy.entries) has.field
        (spanned_of_not_new e copy.entries new has.well_formed
        (ap (λ (r : RowValue). length r.entries) copied ∙ has.long ∙ sym has.columns) exactly not_new))))

    -- as many as columns span everything
    pub power_at_end : (k : ℕ) (e : EchelonValue) (power : RowValue) → HasPowers k e power → m.cols ≤ k →
        IsNextPower m v e power
    power_at_end k e power has all =
        next_power k e power has
        (subst (λ o. IsSpanned (number_field o) e.rows power.entries) has.field
        (full_echelon_spans e power.entries has.well_formed
        (omega (arith, has.count, has.columns, room_of_rank e has.well_formed)) (has.long ∙ sym has.columns)))

-- ---- the polynomial

-- the negatives of n coefficients, and then 1
module _ (o : Order) (n : ℕ) (c : List ℕ) (over : IsVectorOver (number_field o) n c) where
  abbrev L : NumberField
  L = number_field o

  as_many : length (map (field_neg o) c) ≡ n
  as_many = length-map c (field_neg o) ∙ over.length_is

  less_over : IsVectorOver (number_field o) (suc n) (map (field_neg o) c ++ 1 ∷ [])
  unfolding number_field
  less_over = record {
    length_is = omega (arith, length-append (map (field_neg o) c) (1 ∷ []), as_many);
    elements = All-push (λ a. a < order_number o) (map (field_neg o) c) 1
        (All-map (λ a. a < order_number o) (field_neg o) c
        (λ i d below. L.neg-below (get_or c i d) (over.elements i d below))) L.one-below;
  }

  less_negated : (t : ℕ) → t < n → get_or (map (field_neg o) c ++ 1 ∷ []) t 0 ≡ (number_field o).neg (get_or c t 0)
  unfolding number_field
  less_negated t below =
      get_or_append_left (map (field_neg o) c) (1 ∷ []) 0 t (omega (arith, below, as_many))
      ∙ get_or-map (field_neg o) c t 0 0 (omega (arith, below, over.length_is))

  less_leads : get_or (map (field_neg o) c ++ 1 ∷ []) n 0 ≡ 1
  less_leads =
      (let place : n ≡ length (map (field_neg o) c) + 0 = omega (arith, as_many) in
      ap (λ (k : ℕ). get_or (map (field_neg o) c ++ 1 ∷ []) k 0) place)
      ∙ get_or-append-add (map (field_neg o) c) (1 ∷ []) 0 0

  pub less_is_monic : 0 < n → IsMonicOver (number_field o) (map (field_neg o) c ++ 1 ∷ [])
  less_is_monic some = record {
    elements = less_over.elements;
    positive = omega (arith, some, less_over.length_is);
    leads =
        (let degree : degree_of (map (field_neg o) c ++ 1 ∷ []) ≡ n = omega (arith, less_over.length_is) in
        ap (λ k. get_or (map (field_neg o) c ++ 1 ∷ []) k 0) degree)
        ∙ less_leads;
  }

-- so it is a polynomial
pub less_is_poly : (c : RowValue) (o : Order) (items : List ℕ) → o ≡ c.order → IsRow c → 0 < length c.entries →
    items ≡ map (field_neg c.order) c.entries ++ 1 ∷ [] → IsPoly (poly_with o items)
less_is_poly c o items field over some is =
    subst (λ (list : List ℕ). IsMonicOver (number_field o) list) (sym is)
    (subst (λ p. IsMonicOver (number_field p) (map (field_neg c.order) c.entries ++ 1 ∷ [])) (sym field)
    (less_is_monic c.order (length c.entries) c.entries (over_of_row c.order (length c.entries) c refl over refl) some))

-- the coefficients of the first power that is in the span of those before it give the minimal polynomial
module _ (m : MatrixValue) (v : RowValue) (formed : IsMatrix m) (square : length m.rows ≡ m.cols)
    (over_v : IsVectorOver (number_field m.order) m.cols v.entries) (e : EchelonValue) (next : RowValue)
    (is_next : IsNextPower m v.entries e next) (c : RowValue) (are : AreCoordinates e next.entries c) where
  coordinates_field : c.order ≡ m.order
  coordinates_field = are.field ∙ is_next.field

  coordinates_over : IsVectorOver (number_field m.order) (length e.rows) c.entries
  coordinates_over = subst (λ o. IsVectorOver (number_field o) (length e.rows) c.entries) is_next.field are.over

  combines : next.entries ≡ combination (number_field m.order) m.cols c.entries e.rows
  combines =
      are.combine ∙ ap (λ o. combination (number_field o) e.cols c.entries e.rows) is_next.field
      ∙ ap (λ k. combination (number_field m.order) k c.entries e.rows) is_next.columns

  rows_over : IsMatrixOver (number_field m.order) m.cols e.rows
  rows_over =
      subst (λ k. IsMatrixOver (number_field m.order) k e.rows) is_next.columns
      (subst (λ o. IsMatrixOver (number_field o) e.cols e.rows) is_next.field is_next.well_formed.over)

  pub minimal_of_next : (f : PolyValue) → f ≡ power_less c → IsMinimalPolynomialOf m v f
  minimal_of_next f is = subst (IsMinimalPolynomialOf m v) (sym same) (record {
    field = refl;
    minimal = minimal_of_power_rows K m.cols m.rows v.entries over_m over_v e.rows next.entries c.entries
        (map (field_neg m.order) c.entries ++ 1 ∷ []) rows_over powers
        (subst (λ o. IsIndependent (number_field o) e.rows) is_next.field is_next.well_formed.independent)
        (length e.rows - 1) is_last
        (powers_last m v.entries e.rows next.entries (length e.rows - 1) is_next.powers is_last)
        coordinates_over combines (less_over m.order (length e.rows) c.entries coordinates_over)
        (less_negated m.order (length e.rows) c.entries coordinates_over)
        (less_leads m.order (length e.rows) c.entries coordinates_over);
  })
    where
      K : NumberField
      K = number_field m.order

      is_last : suc (length e.rows - 1) ≡ length e.rows
      is_last = omega (arith, is_next.some)

      same : f ≡ poly_with m.order (map (field_neg m.order) c.entries ++ 1 ∷ [])
      same = is ∙ ap (λ o. poly_with o (map (field_neg o) c.entries ++ 1 ∷ [])) coordinates_field

      over_m : IsSquareOver K m.cols m.rows
      over_m = square_over m m.order m.cols formed refl refl square

      before : ArePowers m v.entries e.rows
      before = powers_before m v.entries e.rows next.entries is_next.powers

      powers : ArePowerRows K m.cols m.rows v.entries over_m over_v e.rows
      powers = record { first = before.first; next = before.next }

  -- and with the rows before it the cyclic basis
  pub basis_of_next : (basis : CyclicBasis) → basis.minimal ≡ power_less c → basis.rows ≡ matrix_of_rows e →
      IsMatrix basis.rows → IsCyclicBasis m v basis
  basis_of_next basis is same rows_formed = record {
    minimal = minimal_of_next basis.minimal is;
    field = ap (λ (r : MatrixValue). r.order) same ∙ is_next.field;
    columns = ap (λ (r : MatrixValue). r.cols) same ∙ is_next.columns;
    count =
        (let as_long : length basis.minimal.coefficients ≡ length (map (field_neg c.order) c.entries ++ 1 ∷ []) =
        ap (λ (f : PolyValue). length f.coefficients) is in
        omega (
          arith,
          as_long,
          ap (λ (r : MatrixValue). length r.rows) same,
          length-append (map (field_neg c.order) c.entries) (1 ∷ []),
          length-map c.entries (field_neg c.order),
          coordinates_over.length_is,
        ));
    powers = subst (λ (r : MatrixValue). ArePowers m v.entries r.rows) (sym same)
        (powers_before m v.entries e.rows next.entries is_next.powers);
    well_formed = rows_formed;
  }
