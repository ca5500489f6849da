-- Polynomials as divisors: what is said of their field and their coefficients, and of each in a list.
use Rattle.std.specs.Prelude.{◌≡◌, ℕ, ◌<◌, List, ◌∷◌, ◌++◌, length, get_or}
use Rattle.std.specs.List.{All}
use Rattle.std.proofs.Math.Seq.{get_or-append_seam}
use Rattle.std.proofs.lemmas.List.{length-append}
use Rattle.axe_field.specs.Order.{Order}
use Rattle.axe_poly.specs.Polys.{PolyValue}
use mathlib.Core.Path.{sym, ◌∙◌, ap, subst}
use native.Mathlib.Omega.{arith}

-- what holds of a field and coefficients holds of the field and the coefficients that equal them
pub said_of : (P : Order → List ℕ → Type 0) (o q : Order) (f g : List ℕ) → o ≡ q → f ≡ g → P q g → P o f
said_of P o q f g same listed known = subst (λ k. P k f) (sym same) (subst (λ (x : List ℕ). P q x) (sym listed) known)

-- what holds of all polynomials of a list holds of the next one
pub next_of_all : (P : PolyValue → Type 0) (all done rest next : List PolyValue) (p : PolyValue) → All P all →
    done ++ rest ≡ all → rest ≡ p ∷ next → P p
next_of_all P all done rest next p holds whole is = subst P at (holds (length done) p inside)
  where
    same : all ≡ done ++ p ∷ next
    same = sym whole ∙ ap (λ (l : List PolyValue). done ++ l) is

    at : get_or all (length done) p ≡ p
    at = ap (λ (l : List PolyValue). get_or l (length done) p) same ∙ get_or-append_seam done p next p

    inside : length done < length all
    inside = omega (arith, ap (λ (l : List PolyValue). length l) same, length-append done (p ∷ next))
