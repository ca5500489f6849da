-- Among forms a module is known as one, or they are all of others.
use Rattle.std.specs.Prelude.{◌≡◌, ℕ, ◌+◌, ◌<◌, List, ◌∷◌, ◌++◌, length, get_or, None}
use Rattle.std.proofs.lemmas.List.{length-append, get_or_append_left, get_or-append-add}
use Rattle.axe_matrix.specs.Matrices.{MatrixValue}
use Rattle.axe_spin.specs.Modules.{ModuleValue}
use Rattle.axe_iso.specs.Forms.{FormValue}
use Rattle.axe_iso.specs.Matches.{IsFirstMatch, IsMatch}
use Rattle.axe_iso.proofs.OneForm.{first_match_is_one, isomorphic_by_match}
use Rattle.axe_series.specs.Runs.{AreOfOthers, IsKnownAs}
use mathlib.Core.Path.{sym, ◌∙◌, ap, subst}
use native.Mathlib.Omega.{arith}
use native.Mathlib.Decide.{dec_lt, ℕ_discrete}

-- a form that is one of a module is none of another
match_or_none : (form : FormValue) (m : ModuleValue) (t : MatrixValue) → IsFirstMatch form m t → ¬ (IsMatch form m None)
match_or_none form m t match none = none (isomorphic_by_match form m t match)

module _ (forms : List FormValue) (m : ModuleValue) where
  -- the form that the module is known as stands at its number
  known_place : (number : ℕ) (t : MatrixValue) (d : FormValue) (known : IsKnownAs forms m number t) →
      get_or forms number d ≡ known.form
  known_place number t d known =
      ap (λ (list : List FormValue). get_or list number d) known.among
      ∙ ap (λ k. get_or (known.earlier ++ known.form ∷ known.later) k d) place
      ∙ get_or-append-add known.earlier (known.form ∷ known.later) 0 d
    where
      place : number ≡ length known.earlier + 0
      place = omega (arith, known.number_is)

  known_inside : (number : ℕ) (t : MatrixValue) (known : IsKnownAs forms m number t) → number < length forms
  known_inside number t known =
      let count : length forms ≡ length known.earlier + length (known.form ∷ known.later) =
      ap length known.among ∙ length-append known.earlier (known.form ∷ known.later) in
      omega (arith, known.number_is)

  -- the forms before it are of others
  known_before : (number : ℕ) (t : MatrixValue) (d : FormValue) (known : IsKnownAs forms m number t) (i : ℕ) →
      i < number → IsMatch (get_or forms i d) m None
  known_before number t d known i before =
      let below : i < length known.earlier = omega (arith, known.number_is) in
      subst (λ (form : FormValue). IsMatch form m None)
      (sym (ap (λ (list : List FormValue). get_or list i d) known.among
      ∙ get_or_append_left known.earlier (known.form ∷ known.later) d i below))
      (known.others i d below)

  -- a module is known as one form
  pub known_is_one : (i j : ℕ) (s t : MatrixValue) → IsKnownAs forms m i s → IsKnownAs forms m j t →
      (i ≡ j) × (s ≡ t)
  known_is_one i j s t first second = at (ℕ_discrete i j) (dec_lt i j)
    where
      at : Dec (i ≡ j) → Dec (i < j) → (i ≡ j) × (s ≡ t)
      at (yes same) _ = (
        same,
        first_match_is_one second.form m s t
            (subst (λ (form : FormValue). IsFirstMatch form m s)
            (sym (known_place i s first.form first) ∙ ap (λ k. get_or forms k first.form) same
            ∙ known_place j t first.form second)
            first.matches)
            second.matches,
      )
      at (no other) (yes early) =
          absurd (match_or_none first.form m s first.matches
          (subst (λ (form : FormValue). IsMatch form m None) (known_place i s first.form first)
          (known_before j t first.form second i early)))
      at (no other) (no late) =
          absurd (match_or_none second.form m t second.matches
          (subst (λ (form : FormValue). IsMatch form m None) (known_place j t first.form second)
          (known_before i s first.form first j (omega arith))))

  -- it is known or new
  pub known_or_other : (number : ℕ) (t : MatrixValue) → IsKnownAs forms m number t → ¬ (AreOfOthers forms m)
  known_or_other number t known others =
      match_or_none known.form m t known.matches
      (subst (λ (form : FormValue). IsMatch form m None) (known_place number t known.form known)
      (others number known.form (known_inside number t known)))
