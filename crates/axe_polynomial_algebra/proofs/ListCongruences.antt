-- Remainders of polynomials that are lists of element numbers, step by step.
use Rattle.std.specs.Prelude.{◌≡◌, ℕ, ◌+◌, ◌-◌, ◌<◌, ◌≤◌, List, length, get_or}
use Rattle.axe_algebra.specs.NumberField.{NumberField}
use Rattle.axe_algebra.specs.Field.{Field}
use Rattle.axe_algebra.specs.Vectors.{Vector, zero_vector}
use Rattle.axe_algebra.specs.Bridge.{field_of, element, vector_of}
use Rattle.axe_algebra.specs.Lists.{AreElements}
use Rattle.axe_algebra.proofs.FieldLaws.{mul-zero}
use Rattle.axe_algebra.proofs.ElementNumbers.{element_zero, element_one, element_add, element_mul, same_number}
use Rattle.axe_algebra.proofs.ElementNumbers.{entry-below, zero-below}
use Rattle.axe_algebra.proofs.ListEntries.{vector_past}
use Rattle.axe_polynomial_algebra.specs.Polynomials
use Rattle.axe_polynomial_algebra.specs.PolynomialsOfLists.{degree_of, IsMonicOver, Divides, IsCongruent}
use Rattle.axe_polynomial_algebra.proofs.ConvolutionLaws.{unit_product_before}
use Rattle.axe_polynomial_algebra.proofs.Dividing.{moved_multiple, moved_multiple-is, moved_multiple_at}
use Rattle.axe_polynomial_algebra.proofs.Congruences
use mathlib.Core.Path.{sym, ◌∙◌, ap, subst, fun_ext}
use native.Mathlib.Omega.{arith}
use native.Mathlib.Decide.{dec_lt}

module _ (K : NumberField) where
  abbrev F : Field
  F = field_of K

  -- a monic list is a monic polynomial
  pub monic_of_list : (f : List ℕ) → IsMonicOver K f → Polynomials.IsMonic F (degree_of f) (vector_of K f)
  monic_of_list f over = record {
    leads = ap (element K) over.leads ∙ element_one K;
    length = λ j past. vector_past K f j (omega (arith, over.positive));
  }

  pub congruent_list_itself : (p f : List ℕ) → IsCongruent K p f f
  congruent_list_itself p f = Congruences.congruent_itself F (vector_of K p) (vector_of K f)

  -- r and c x^k p, told of elements
  pub congruent_by_entries : (p f r s : List ℕ) (k : ℕ) (c : F.Element) →
      ((j : ℕ) → j < k → vector_of K s j ≡ vector_of K r j) →
      ((j : ℕ) → vector_of K s (k + j) ≡ F.add (vector_of K r (k + j)) (F.mul c (vector_of K p j))) →
      IsCongruent K p f r → IsCongruent K p f s
  congruent_by_entries p f r s k c before after congruent =
      subst (Polynomials.IsCongruent F (vector_of K p) (vector_of K f)) (fun_ext λ j. at j (dec_lt j k))
      (Congruences.congruent_with_multiple F (vector_of K p) (vector_of K f) (vector_of K r) k c congruent)
    where
      multiple : Vector F
      multiple = moved_multiple F k c (vector_of K p)

      at : (j : ℕ) → Dec (j < k) → F.add (vector_of K r j) (multiple j) ≡ vector_of K s j
      at j (yes below) =
          ap (λ y. F.add (vector_of K r j) y)
          (ap (λ (y : Vector F). y j) (moved_multiple-is F k c (vector_of K p))
          ∙ ap (F.mul c) (unit_product_before F k (vector_of K p) j below) ∙ mul-zero F c)
          ∙ F.add-zero (vector_of K r j) ∙ sym (before j below)
      at j (no past) =
          let place : k + (j - k) ≡ j = omega arith in
          let i = j - k in
          ap (λ (t : ℕ). F.add (vector_of K r t) (multiple t)) (sym place)
          ∙ ap (F.add (vector_of K r (k + i))) (moved_multiple_at F k c (vector_of K p) i)
          ∙ sym (after i) ∙ ap (λ (t : ℕ). vector_of K s t) place

  -- an entry of r plus c times an entry of p, as elements
  element_of_step : (p r : List ℕ) (c i j : ℕ) → AreElements K p → AreElements K r → c < K.order →
      element K (K.add (get_or r i 0) (K.mul c (get_or p j 0)))
      ≡ F.add (vector_of K r i) (F.mul (element K c) (vector_of K p j))
  element_of_step p r c i j of_p of_r of_c =
      element_add K (get_or r i 0) (K.mul c (get_or p j 0)) (entry-below K r i of_r)
      (K.mul-below c (get_or p j 0) of_c (entry-below K p j of_p))
      ∙ ap (F.add (vector_of K r i)) (element_mul K c (get_or p j 0) of_c (entry-below K p j of_p))

  -- told of numbers
  pub congruent_step : (p f r s : List ℕ) (k c : ℕ) → AreElements K p → AreElements K r → c < K.order →
      ((j : ℕ) → j < k → get_or s j 0 ≡ get_or r j 0) →
      ((j : ℕ) → get_or s (k + j) 0 ≡ K.add (get_or r (k + j) 0) (K.mul c (get_or p j 0))) →
      IsCongruent K p f r → IsCongruent K p f s
  congruent_step p f r s k c of_p of_r of_c before after =
      congruent_by_entries p f r s k (element K c) (λ j below. ap (element K) (before j below))
      (λ j. ap (element K) (after j) ∙ element_of_step p r c (k + j) j of_p of_r of_c)

  -- told of the numbers that change alone
  pub congruent_in_place : (p f r s : List ℕ) (k c : ℕ) → AreElements K p → AreElements K r → c < K.order →
      ((j : ℕ) → j < k → get_or s j 0 ≡ get_or r j 0) →
      ((j : ℕ) → j < length p → get_or s (k + j) 0 ≡ K.add (get_or r (k + j) 0) (K.mul c (get_or p j 0))) →
      ((j : ℕ) → k + length p ≤ j → get_or s j 0 ≡ get_or r j 0) →
      IsCongruent K p f r → IsCongruent K p f s
  congruent_in_place p f r s k c of_p of_r of_c before within after =
      congruent_by_entries p f r s k (element K c) (λ j below. ap (element K) (before j below))
      (λ j. at j (dec_lt j (length p)))
    where
      at : (j : ℕ) → Dec (j < length p) →
          vector_of K s (k + j) ≡ F.add (vector_of K r (k + j)) (F.mul (element K c) (vector_of K p j))
      at j (yes inside) = ap (element K) (within j inside) ∙ element_of_step p r c (k + j) j of_p of_r of_c
      at j (no past) =
          ap (element K) (after (k + j) (omega arith)) ∙ sym (F.add-zero (vector_of K r (k + j)))
          ∙ ap (F.add (vector_of K r (k + j)))
          (sym (mul-zero F (element K c)) ∙ ap (F.mul (element K c)) (sym (vector_past K p j (omega arith))))

  -- congruent to what is congruent
  pub congruent_list_trans : (p f r s : List ℕ) → IsCongruent K p f r → IsCongruent K p r s → IsCongruent K p f s
  congruent_list_trans p f r s =
      Congruences.congruent_trans F (vector_of K p) (vector_of K f) (vector_of K r) (vector_of K s)

  -- a rest without entries other than 0 says that p divides
  pub zero_list_divides : (p f r : List ℕ) → IsCongruent K p f r → ((j : ℕ) → j < length r → get_or r j 0 ≡ 0) →
      Divides K p f
  zero_list_divides p f r congruent zeros =
      Congruences.zero_rest_divides F (vector_of K p) (vector_of K f) (vector_of K r) congruent
      (fun_ext λ j. at j (dec_lt j (length r)))
    where
      at : (j : ℕ) → Dec (j < length r) → vector_of K r j ≡ F.zero
      at j (yes below) = ap (element K) (zeros j below) ∙ element_zero K
      at j (no past) = vector_past K r j (omega arith)

  -- and where p divides, a rest with entries other than 0 below p's degree alone has none
  pub divides_zero_list : (p f r : List ℕ) → IsMonicOver K p → AreElements K r → IsCongruent K p f r →
      ((j : ℕ) → degree_of p ≤ j → j < length r → get_or r j 0 ≡ 0) → Divides K p f → (j : ℕ) → get_or r j 0 ≡ 0
  divides_zero_list p f r of_p of_r congruent small divides j =
      same_number K (get_or r j 0) 0 (entry-below K r j of_r) (zero-below K)
      (ap (λ (y : Vector F). y j) zero_rest ∙ sym (element_zero K))
    where
      at : (j : ℕ) → degree_of p ≤ j → Dec (j < length r) → vector_of K r j ≡ F.zero
      at j past (yes below) = ap (element K) (small j past below) ∙ element_zero K
      at j past (no beyond) = vector_past K r j (omega arith)

      zero_rest : vector_of K r ≡ zero_vector F
      zero_rest =
          (Congruences.divides_by_rest F (degree_of p) (vector_of K p) (vector_of K f) (vector_of K r)
          (monic_of_list p of_p) congruent
          (λ j past. at j past (dec_lt j (length r)))).0 divides
