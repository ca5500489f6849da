-- The origins of rows that are being spun.
use Rattle.std.specs.Prelude.{◌≡◌, ℕ, ◌+◌, ◌<◌, List, [], ◌∷◌, ◌++◌, length, get_or, Bool, true, false, if◌then◌else◌}
use Rattle.std.proofs.lemmas.List.{get_or_append_left, get_or_push, length_push}
use Rattle.axe_matrix.specs.Matrices.{MatrixValue}
use Rattle.axe_spin.specs.Modules.{ModuleValue}
use Rattle.axe_spin.specs.Spun.{image_of_row, with_row}
use Rattle.axe_spin.specs.Origins.{IsOriginOf, HaveOrigins}
use Rattle.axe_spin.specs.declared.spinning.Origin.{Origin}
use Rattle.axe_spin.proofs.SpunLaws.{image_of_old}
use mathlib.Core.Path.{sym, ◌∙◌, ap, subst}
use native.Mathlib.Omega.{arith}
use native.Mathlib.Decide.{ℕ_discrete}

-- the first row has none
pub first_row_has_none : (m : ModuleValue) (rows : List (List ℕ)) (v : List ℕ) (origins : List Origin) → rows ≡ v ∷ [] → origins ≡ [] →
    HaveOrigins m rows origins
first_row_has_none m rows v origins rows_are none = record {
  count = ap (λ (x : List (List ℕ)). length x) rows_are ∙ sym (ap (λ (x : List Origin). length x + 1) none);
  each = λ k other below. absurd (omega (arith, below, ap (λ (x : List Origin). length x) none));
}

module _ (m : ModuleValue) (rows : List (List ℕ)) (origins : List Origin) (have : HaveOrigins m rows origins) where
  -- with one row more the origins of the others stay
  origin_stays : (row : List ℕ) (k : ℕ) (origin : Origin) → k < length origins → IsOriginOf m rows k origin → IsOriginOf m (rows ++ row ∷ []) k origin
  origin_stays row k origin below is = record {
    earlier = is.earlier;
    generator-below = is.generator-below;
    image = get_or_append_left rows (row ∷ []) [] (k + 1) (omega (arith, below, have.count)) ∙ is.image
        ∙ sym (image_of_old m rows row origin.source origin.generator (omega (arith, below, have.count, is.earlier)));
  }

  -- the image of one of the rows that is appended has its origin
  pub origins_more : (image : List ℕ) (origin : Origin) → origin.source < length rows → origin.generator < length m.generators →
      image ≡ image_of_row m rows origin.source origin.generator → HaveOrigins m (rows ++ image ∷ []) (origins ++ origin ∷ [])
  origins_more image origin below inside is = record {
    count = omega (arith, length_push rows image, length_push origins origin, have.count);
    each = λ k other small. at k other (omega (arith, small, length_push origins origin)) (ℕ_discrete k (length origins));
  }
    where
      new : (k : ℕ) → k ≡ length origins → IsOriginOf m (rows ++ image ∷ []) k origin
      new k same = record {
        earlier = omega (arith, below, have.count, same);
        generator-below = inside;
        image = get_or_push rows image [] (k + 1) (omega (arith, have.count, same)) ∙ is
            ∙ sym (image_of_old m rows image origin.source origin.generator below);
      }

      at : (k : ℕ) (other : Origin) → k < length origins + 1 → Dec (k ≡ length origins) →
          IsOriginOf m (rows ++ image ∷ []) k (get_or (origins ++ origin ∷ []) k other)
      at k other small (yes same) =
          subst (IsOriginOf m (rows ++ image ∷ []) k) (sym (get_or_push origins origin other k (sym same))) (new k same)
      at k other small (no different) =
          let old : k < length origins = omega (arith, small, different) in
          subst (IsOriginOf m (rows ++ image ∷ []) k) (sym (get_or_append_left origins (origin ∷ []) other k old))
          (origin_stays image k (get_or origins k other) old (have.each k other old))

-- the rows after one was offered, and the origins, which tell of it where it was appended
pub origins_of_new : (m : ModuleValue) (rows new : MatrixValue) (image : List ℕ) (appended : Bool) (origins more : List Origin) (origin : Origin) →
    HaveOrigins m rows.rows origins → origin.source < length rows.rows → origin.generator < length m.generators →
    image ≡ image_of_row m rows.rows origin.source origin.generator → new ≡ (if appended then with_row rows image else rows) → appended ≡ true →
    more ≡ origins ++ origin ∷ [] → HaveOrigins m new.rows more
origins_of_new m rows new image appended origins more origin have below inside is told taken pushed =
    subst (HaveOrigins m new.rows) (sym pushed)
    (subst (λ (x : MatrixValue). HaveOrigins m x.rows (origins ++ origin ∷ []))
    (sym (told ∙ ap (λ (b : Bool). if b then with_row rows image else rows) taken))
    (origins_more m rows.rows origins have image origin below inside is))

pub origins_of_old : (m : ModuleValue) (rows new : MatrixValue) (image : List ℕ) (appended : Bool) (origins : List Origin) → HaveOrigins m rows.rows origins →
    new ≡ (if appended then with_row rows image else rows) → appended ≡ false → HaveOrigins m new.rows origins
origins_of_old m rows new image appended origins have told not_taken =
    subst (λ (x : MatrixValue). HaveOrigins m x.rows origins) (sym (told ∙ ap (λ (b : Bool). if b then with_row rows image else rows) not_taken)) have
