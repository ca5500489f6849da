-- Each nonzero vector is a nonzero multiple of one whose first nonzero entry is 1.
use Rattle.std.specs.Prelude.{◌≡◌, ◌≢◌, ℕ, ◌<◌, ◌⊎◌}
use Rattle.axe_algebra.specs.Field.{Field}
use Rattle.axe_algebra.specs.Vectors.{Vector, HasLength, zero_vector, scale}
use Rattle.axe_algebra.specs.Reduced.{LeadsAt}
use Rattle.axe_algebra.proofs.FieldLaws.{mul-zero, inv-mul, one-mul}
use Rattle.axe_algebra.proofs.Elimination.{is_zero_or_leads}
use mathlib.Core.Logic.{inl, inr}
use mathlib.Core.Path.{sym, ◌∙◌, ap, fun_ext}

-- x is the nonzero multiple c of y, whose first nonzero entry is 1
pub record IsMultipleOfNormal (F : Field) (x : Vector F) : Type 0 where
  pub factor : F.Element
  pub nonzero : factor ≢ F.zero
  pub vector : Vector F
  pub place : ℕ
  pub leads : LeadsAt F vector place
  pub one : vector place ≡ F.one
  pub equals : x ≡ scale F factor vector

module _ (F : Field) where
  pub normal_multiple : (n : ℕ) (x : Vector F) → HasLength F n x → x ≢ zero_vector F → IsMultipleOfNormal F x
  normal_multiple n x length nonzero = cases (is_zero_or_leads F n x length)
    where
      cases : (x ≡ zero_vector F) ⊎ ((j : ℕ) × (j < n) × LeadsAt F x j) → IsMultipleOfNormal F x
      cases (inl zero) = absurd (nonzero zero)
      cases (inr (j, below, leads)) = record {
        factor = x j;
        nonzero = leads.nonzero;
        vector = scale F (F.inv (x j)) x;
        place = j;
        leads = record {
          nonzero = λ e. F.one-not-zero (sym (inv-mul F (x j) leads.nonzero) ∙ e);
          before = λ i ahead. ap (F.mul (F.inv (x j))) (leads.before i ahead) ∙ mul-zero F (F.inv (x j));
        };
        one = inv-mul F (x j) leads.nonzero;
        equals = fun_ext λ i.
            sym (one-mul F (x i)) ∙ ap (λ e. F.mul e (x i)) (sym (F.mul-inv (x j) leads.nonzero)) ∙ F.mul_assoc (x j) (F.inv (x j)) (x i);
      }
