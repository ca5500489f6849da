-- Images that are postponed, and those of other rows, while a space is enlarged.
use Rattle.std.specs.Prelude.{◌≡◌, ℕ, ◌+◌, ◌<◌, List, [], ◌∷◌, ◌++◌, Option, Some, None, length, slice_index_or}
use Rattle.std.proofs.lemmas.List.{get_or_append_left, get_or_push, length_push}
use Rattle.std.proofs.lemmas.Option.{same_Some}
use Rattle.axe_algebra.specs.SpansOfLists.{IsSpanned}
use Rattle.axe_field.specs.NumberFields.{number_field}
use Rattle.axe_echelon.specs.Echelons.{EchelonValue}
use Rattle.axe_echelon.proofs.FormLaws.{below_or_at}
use Rattle.axe_spin.specs.Modules.{ModuleValue, IsModule}
use Rattle.axe_spin.specs.Spaces.{IsEnlarged, AreImagesSpanned}
use Rattle.axe_spin.specs.Spun.{image_of_row}
use Rattle.axe_spin.specs.Postponed.{AreImagesSpannedBut, AreTakenBut}
use Rattle.axe_spin.proofs.SpaceLaws.{spanned_in_enlarged, image_in_enlarged, images_stay}
use mathlib.Core.Path.{sym, subst}
use native.Mathlib.Decide.{ℕ_discrete}
use native.Mathlib.Omega.{arith}

-- where none is postponed, all images are spanned
pub images_without : (m : ModuleValue) (rows : List (List ℕ)) (postponed : Option ℕ) (r count : ℕ) →
    ((i : ℕ) → i < count → ¬ (postponed ≡ Some i)) → AreImagesSpannedBut m rows postponed r count → AreImagesSpanned m rows r count
images_without m rows postponed r count none images i inside = images i inside (none i inside)

-- the images of one generator more, of which the last is spanned unless it is postponed
pub images_but_more : (m : ModuleValue) (rows : List (List ℕ)) (postponed : Option ℕ) (r count : ℕ) → AreImagesSpannedBut m rows postponed r count →
    (¬ (postponed ≡ Some count) → IsSpanned (number_field m.order) rows (image_of_row m rows r count)) →
    AreImagesSpannedBut m rows postponed r (count + 1)
images_but_more m rows postponed r count images image i less =
    below_or_at (λ i. ¬ (postponed ≡ Some i) → IsSpanned (number_field m.order) rows (image_of_row m rows r i)) count images image i (omega (arith, less))

module _ (m : ModuleValue) (is : IsModule m) where
  -- images but for the postponed one stay spanned
  pub images_but_stay : (old new : EchelonValue) (postponed : Option ℕ) (r count : ℕ) → IsEnlarged m old new → r < length old.rows →
      AreImagesSpannedBut m old.rows postponed r count → AreImagesSpannedBut m new.rows postponed r count
  images_but_stay old new postponed r count enlarged below images i inside other =
      image_in_enlarged m is old new r i enlarged below
      (spanned_in_enlarged m is old new (image_of_row m old.rows r i) enlarged (images i inside other))

  -- one row more is taken
  pub taken_more : (old new : EchelonValue) (list : List (Option ℕ)) (postponed : Option ℕ) (source : ℕ) → length list ≡ source →
      IsEnlarged m old new → source < length old.rows → AreTakenBut m old.rows list →
      AreImagesSpannedBut m new.rows postponed source (length m.generators) → AreTakenBut m new.rows (list ++ postponed ∷ [])
  taken_more old new list postponed source count enlarged within taken last r below =
      below_or_at (λ r. AreImagesSpannedBut m new.rows (slice_index_or (list ++ postponed ∷ []) r None) r (length m.generators)) source
      (λ r before. subst (λ (p : Option ℕ). AreImagesSpannedBut m new.rows p r (length m.generators))
      (sym (get_or_append_left list (postponed ∷ []) None r (omega (arith, before, count))))
      (images_but_stay old new (slice_index_or list r None) r (length m.generators) enlarged (omega (arith, before, within))
      (taken r (omega (arith, before, count)))))
      (subst (λ (p : Option ℕ). AreImagesSpannedBut m new.rows p source (length m.generators)) (sym (get_or_push list postponed None source count)) last)
      r (omega (arith, below, count, length_push list postponed))

  -- the images of one row more are spanned
  pub images_of_rows_more : (old new : EchelonValue) (source : ℕ) → IsEnlarged m old new → source < length old.rows →
      ((r : ℕ) → r < source → AreImagesSpanned m old.rows r (length m.generators)) →
      AreImagesSpanned m new.rows source (length m.generators) →
      (r : ℕ) → r < source + 1 → AreImagesSpanned m new.rows r (length m.generators)
  images_of_rows_more old new source enlarged within done last r below =
      below_or_at (λ r. AreImagesSpanned m new.rows r (length m.generators)) source
      (λ r before. images_stay m is old new r (length m.generators) enlarged (omega (arith, before, within)) (done r before))
      last r (omega (arith, below))

  -- all images are spanned where the postponed one comes to be
  pub images_with : (old new : EchelonValue) (number r count : ℕ) → IsEnlarged m old new → r < length old.rows →
      AreImagesSpannedBut m old.rows (Some number) r count → IsSpanned (number_field m.order) new.rows (image_of_row m new.rows r number) →
      AreImagesSpanned m new.rows r count
  images_with old new number r count enlarged below images image i inside = cases (ℕ_discrete i number)
    where
      cases : Dec (i ≡ number) → IsSpanned (number_field m.order) new.rows (image_of_row m new.rows r i)
      cases (yes e) = subst (λ k. IsSpanned (number_field m.order) new.rows (image_of_row m new.rows r k)) (sym e) image
      cases (no other) = images_but_stay old new (Some number) r count enlarged below images i inside (λ same. other (sym (same_Some number i same)))
