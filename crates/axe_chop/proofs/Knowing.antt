-- The first of some forms that is one of a module.
use Rattle.std.proofs.Common.{◌≡◌, ℕ, ◌+◌, ◌<◌, ◌≤◌, List, ◌∷◌, ◌++◌, length, get_or, take, drop, sym, ap, subst, ◌∙◌, arith, Some, None}
use Rattle.std.proofs.lemmas.List.{take_all, take-append-drop, drop_more, length-take-le}
use Rattle.std.proofs.lemmas.List.Elements.{All-more}
use Rattle.axe_matrix.specs.Matrices.{MatrixValue}
use Rattle.axe_spin.specs.Modules.{ModuleValue}
use Rattle.axe_iso.specs.Forms.{FormValue}
use Rattle.axe_iso.specs.Matches.{IsMatch}
use Rattle.axe_series.specs.Runs.{AreOfOthers, IsKnownAs}

-- the form of a number
module _ (forms : List FormValue) (m : ModuleValue) (number : ℕ) (form : FormValue) (below : number < length forms)
    (is : form ≡ get_or forms number form) (others : AreOfOthers (take number forms) m) where
  -- none of one more, where it is none
  pub others_more : IsMatch form m None → AreOfOthers (take (number + 1) forms) m
  others_more other =
      All-more (λ form. IsMatch form m None) forms number form below others (subst (λ (f : FormValue). IsMatch f m None) is other)

  -- the first, where it is one
  pub known_here : (t : MatrixValue) → IsMatch form m (Some t) → IsKnownAs forms m number t
  known_here t matches = record {
    earlier = take number forms;
    form = form;
    later = drop (number + 1) forms;
    among = sym (take-append-drop number forms) ∙ ap (λ (rest : List FormValue). take number forms ++ rest)
        (drop_more forms number form below ∙ (λ i. sym is i ∷ drop (number + 1) forms));
    number_is = sym (length-take-le number forms (omega arith));
    others = others;
    matches = matches;
  }

-- none of all
pub others_all : (forms : List FormValue) (m : ModuleValue) (number : ℕ) → AreOfOthers (take number forms) m → length forms ≤ number →
    AreOfOthers forms m
others_all forms m number others all = subst (λ (fs : List FormValue). AreOfOthers fs m) (take_all number forms all) others
