-- Vectors read from the last entry to the first: the map is linear, its own inverse, and keeps dot products.
use Rattle.std.specs.Prelude.{◌≡◌, ℕ, zero, suc, ◌+◌, ◌-◌, ◌<◌, ◌≤◌}
use Rattle.axe_algebra.specs.Field.{Field}
use Rattle.axe_algebra.specs.Vectors.{Vector, Matrix, HasLength, zero_vector, unit_vector, add_vectors, scale, sum, dot}
use Rattle.axe_algebra.specs.Irreducible.{InAnnihilator}
use Rattle.axe_algebra.proofs.FieldLaws.{zero-add}
use Rattle.axe_algebra.proofs.Sums.{sum_more, sum_none, sum_same, sum_split}
use Rattle.axe_algebra.proofs.ProductLaws.{dot-at, unit_at, unit_off}
use Rattle.axe_algebra.proofs.Spaces.{IsSpace}
use Rattle.axe_algebra.proofs.StandardImages.{length_is_space}
use Rattle.axe_algebra.proofs.Annihilators.{annihilator_is_space}
use Rattle.axe_echelon.specs.Mirrored.{mirrored_entry, mirrored, IsOrthogonalMirrored}
use mathlib.Core.Path.{refl, sym, ◌∙◌, ap, ap₂, subst, fun_ext}
use native.Mathlib.Omega.{arith}
use native.Mathlib.Decide.{ℕ_discrete, dec_lt}

module _ (F : Field) where
  -- a sum from the last term to the first
  pub sum_mirrored : (n : ℕ) (f : ℕ → F.Element) → sum F n (λ t. f (n - 1 - t)) ≡ sum F n f
  sum_mirrored zero f = sum_none F (λ t. f (0 - 1 - t)) ∙ sym (sum_none F f)
  sum_mirrored (suc n) f =
      sum_more F n (λ t. f (suc n - 1 - t))
      ∙ ap₂ F.add
      (sum_same F n (λ t. f (suc n - 1 - t)) (λ t. f (suc (n - 1 - t)))
      (λ t below. ap f (let same : suc n - 1 - t ≡ suc (n - 1 - t) = omega arith in same))
      ∙ sum_mirrored n (λ t. f (suc t)))
      (ap f (let last : suc n - 1 - n ≡ 0 = omega arith in last))
      ∙ F.add_comm (sum F n (λ t. f (suc t))) (f 0)
      ∙ sym (ap (λ k. sum F k f) (let one_more : suc n ≡ 1 + n = omega arith in one_more) ∙ sum_split F 1 n f
      ∙ ap₂ F.add (sum_more F 0 f ∙ ap (λ x. F.add x (f 0)) (sum_none F f) ∙ zero-add F (f 0))
      (sum_same F n (λ t. f (1 + t)) (λ t. f (suc t)) (λ t below. ap f (let same : 1 + t ≡ suc t = omega arith in same))))

  module _ (n : ℕ) where
    by_place : (x : Vector F) (j : ℕ) (place : Dec (j < n)) → j < n → mirrored_entry F n x j place ≡ x (n - 1 - j)
    unfolding mirrored_entry
    by_place x j (yes inside) below = refl
    by_place x j (no past) below = absurd (past below)

    by_no_place : (x : Vector F) (j : ℕ) (place : Dec (j < n)) → n ≤ j → mirrored_entry F n x j place ≡ F.zero
    unfolding mirrored_entry
    by_no_place x j (yes inside) above = absurd (omega arith)
    by_no_place x j (no past) above = refl

    pub mirrored_at : (x : Vector F) (j : ℕ) → j < n → mirrored F n x j ≡ x (n - 1 - j)
    unfolding mirrored
    mirrored_at x j below = by_place x j (dec_lt j n) below

    pub mirrored_length : (x : Vector F) → HasLength F n (mirrored F n x)
    unfolding mirrored
    mirrored_length x j above = by_no_place x j (dec_lt j n) above

    -- vectors of length n are equal to the mirrored one where they are so at each place
    pub same_as_mirrored : (x y : Vector F) → HasLength F n y → ((j : ℕ) → j < n → y j ≡ x (n - 1 - j)) → y ≡ mirrored F n x
    same_as_mirrored x y length same = fun_ext λ j. at j (dec_lt j n)
      where
        at : (j : ℕ) → Dec (j < n) → y j ≡ mirrored F n x j
        at j (yes below) = same j below ∙ sym (mirrored_at x j below)
        at j (no past) = length j (omega arith) ∙ sym (mirrored_length x j (omega arith))

    pub mirrored_twice : (x : Vector F) → HasLength F n x → mirrored F n (mirrored F n x) ≡ x
    mirrored_twice x length = sym (same_as_mirrored (mirrored F n x) x length (λ j below.
        sym (mirrored_at x (n - 1 - j) (omega arith) ∙ ap x (let back : n - 1 - (n - 1 - j) ≡ j = omega arith in back))))

    pub mirrored_zero : mirrored F n (zero_vector F) ≡ zero_vector F
    mirrored_zero = sym (same_as_mirrored (zero_vector F) (zero_vector F) (λ j above. refl) (λ j below. refl))

    pub mirrored-add : (x y : Vector F) → mirrored F n (add_vectors F x y) ≡ add_vectors F (mirrored F n x) (mirrored F n y)
    mirrored-add x y = sym (same_as_mirrored (add_vectors F x y) (add_vectors F (mirrored F n x) (mirrored F n y))
        ((length_is_space F n).sums (mirrored F n x) (mirrored F n y) (mirrored_length x) (mirrored_length y))
        (λ j below. ap₂ F.add (mirrored_at x j below) (mirrored_at y j below)))

    pub mirrored-scale : (c : F.Element) (x : Vector F) → mirrored F n (scale F c x) ≡ scale F c (mirrored F n x)
    mirrored-scale c x = sym (same_as_mirrored (scale F c x) (scale F c (mirrored F n x))
        ((length_is_space F n).multiples c (mirrored F n x) (mirrored_length x))
        (λ j below. ap (F.mul c) (mirrored_at x j below)))

    -- the unit vector of the mirrored place
    pub mirrored-unit : (p : ℕ) → p < n → mirrored F n (unit_vector F (n - 1 - p)) ≡ unit_vector F p
    mirrored-unit p inside = sym (same_as_mirrored (unit_vector F (n - 1 - p)) (unit_vector F p)
        (λ j above. unit_off F p j (λ same. omega (arith, same, above)))
        (λ j below. at j below (ℕ_discrete j p)))
      where
        at : (j : ℕ) → j < n → Dec (j ≡ p) → unit_vector F p j ≡ unit_vector F (n - 1 - p) (n - 1 - j)
        at j below (yes same) = ap (unit_vector F p) same ∙ unit_at F p
            ∙ sym (ap (λ k. unit_vector F (n - 1 - p) (n - 1 - k)) same ∙ unit_at F (n - 1 - p))
        at j below (no other) = unit_off F p j (λ same. other (sym same))
            ∙ sym (unit_off F (n - 1 - p) (n - 1 - j) (λ same. other (omega (arith, same))))

    pub dot_mirrored : (x y : Vector F) → dot F n (mirrored F n x) (mirrored F n y) ≡ dot F n x y
    dot_mirrored x y =
        dot-at F n (mirrored F n x) (mirrored F n y)
        ∙ sum_same F n (λ t. F.mul (mirrored F n x t) (mirrored F n y t)) (λ t. F.mul (x (n - 1 - t)) (y (n - 1 - t)))
        (λ t below. ap₂ F.mul (mirrored_at x t below) (mirrored_at y t below))
        ∙ sum_mirrored n (λ t. F.mul (x t) (y t)) ∙ sym (dot-at F n x y)

    -- vectors whose mirrored ones are in a space are a space
    pub mirrored_is_space : (P : Vector F → Type 0) → IsSpace F P → IsSpace F (λ x. P (mirrored F n x))
    mirrored_is_space P space = record {
      zero = subst P (sym mirrored_zero) space.zero;
      sums = λ x y p q. subst P (sym (mirrored-add x y)) (space.sums (mirrored F n x) (mirrored F n y) p q);
      multiples = λ c x p. subst P (sym (mirrored-scale c x)) (space.multiples c (mirrored F n x) p);
    }

    module _ (r : ℕ) (w : Matrix F) where
      pub orthogonal_mirrored_is_space : IsSpace F (IsOrthogonalMirrored F n r w)
      orthogonal_mirrored_is_space = record {
        zero = record { length = (length_is_space F n).zero; orthogonal = within.zero };
        sums = λ x y p q. record {
          length = (length_is_space F n).sums x y p.length q.length;
          orthogonal = within.sums x y p.orthogonal q.orthogonal;
        };
        multiples = λ c x p. record {
          length = (length_is_space F n).multiples c x p.length;
          orthogonal = within.multiples c x p.orthogonal;
        };
      }
        where
          within : IsSpace F (λ x. InAnnihilator F n r w (mirrored F n x))
          within = mirrored_is_space (InAnnihilator F n r w) (annihilator_is_space F n r w)

      -- for rows that are read so, too, these are the vectors that are orthogonal to the rows
      pub orthogonal_of_mirrored : (x : Vector F) → IsOrthogonalMirrored F n r (λ t. mirrored F n (w t)) x → InAnnihilator F n r w x
      orthogonal_of_mirrored x given = record {
        length = given.length;
        orthogonal = λ t below. sym (dot_mirrored (w t) x) ∙ given.orthogonal.orthogonal t below;
      }

      pub mirrored_of_orthogonal : (x : Vector F) → InAnnihilator F n r w x → IsOrthogonalMirrored F n r (λ t. mirrored F n (w t)) x
      mirrored_of_orthogonal x within = record {
        length = within.length;
        orthogonal = record {
          length = mirrored_length x;
          orthogonal = λ t below. dot_mirrored (w t) x ∙ within.orthogonal t below;
        };
      }
