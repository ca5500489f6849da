-- Of the items of a list with a decidable property one has the least number, or there is none.
use Rattle.std.specs.Prelude.{◌≡◌, ℕ, ◌<◌, ◌≤◌, ◌⊎◌, List, [], ◌∷◌}
use Rattle.std.specs.List.{Contains}
use Rattle.std.proofs.lemmas.List.Elements.{Contains-append_left, Contains-append_right, Contains-append_cases}
use Rattle.std.proofs.lemmas.List.Elements.{Contains-push, Contains-push_cases}
use mathlib.Core.Logic.{inl, inr}
use mathlib.Core.Path.{sym, ap, subst}
use native.Mathlib.Omega.{arith}
use native.Mathlib.Decide.{dec_lt}

-- x is one of the items with P, and none of these has a smaller number
pub record IsLeastWith {X : Type 0} (P : X → Type 0) (number : X → ℕ) (xs : List X) (x : X) : Type 0 where
  pub among : Contains xs x
  pub has : P x
  pub least : (y : X) → Contains xs y → P y → number x ≤ number y

-- no item of none
pub none_of_none : {X : Type 0} (x : X) → ¬ (Contains [] x)
none_of_none x among = omega (arith, among.1)

-- an item is the first, or one of the rest
pub first_or_later : {X : Type 0} (x : X) (rest : List X) (y : X) → Contains (x ∷ rest) y → (x ≡ y) ⊎ Contains rest y
first_or_later {X = X} x rest y among = cases (Contains-append_cases (x ∷ []) rest y among)
  where
    alone : Contains {X = X} [] y ⊎ (x ≡ y) → x ≡ y
    alone (inl among) = absurd (none_of_none y among)
    alone (inr same) = same

    cases : Contains (x ∷ []) y ⊎ Contains rest y → (x ≡ y) ⊎ Contains rest y
    cases (inl one) = inl (alone (Contains-push_cases [] x y one))
    cases (inr later) = inr later

module _ {X : Type 0} (P : X → Type 0) (number : X → ℕ) where
  -- some item has P and the least number, or none has P
  abbrev pub SomeLeast : List X → Type 0
  SomeLeast xs = ((x : X) × IsLeastWith P number xs x) ⊎ ((x : X) → Contains xs x → ¬ (P x))

  module _ (x : X) (rest : List X) where
    -- the first item where no other has P
    first_alone : P x → ((y : X) → Contains rest y → ¬ (P y)) → IsLeastWith P number (x ∷ rest) x
    first_alone has none = record {
      among = Contains-append_left (x ∷ []) rest x (Contains-push [] x);
      has = has;
      least = λ y among of_y. at y of_y (first_or_later x rest y among);
    }
      where
        at : (y : X) → P y → (x ≡ y) ⊎ Contains rest y → number x ≤ number y
        at y of_y (inl same) = omega (arith, ap number same)
        at y of_y (inr later) = absurd (none y later of_y)

    -- the first item where its number is no greater than the least of the others
    first_least : (z : X) → P x → IsLeastWith P number rest z → number x ≤ number z → IsLeastWith P number (x ∷ rest) x
    first_least z has least within = record {
      among = Contains-append_left (x ∷ []) rest x (Contains-push [] x);
      has = has;
      least = λ y among of_y. at y of_y (first_or_later x rest y among);
    }
      where
        at : (y : X) → P y → (x ≡ y) ⊎ Contains rest y → number x ≤ number y
        at y of_y (inl same) = omega (arith, ap number same)
        at y of_y (inr later) = omega (arith, within, least.least y later of_y)

    -- the least of the others where the first has a greater number, or not P
    later_least : (z : X) → (P x → number z ≤ number x) → IsLeastWith P number rest z → IsLeastWith P number (x ∷ rest) z
    later_least z within least = record {
      among = Contains-append_right (x ∷ []) rest z least.among;
      has = least.has;
      least = λ y among of_y. at y of_y (first_or_later x rest y among);
    }
      where
        at : (y : X) → P y → (x ≡ y) ⊎ Contains rest y → number z ≤ number y
        at y of_y (inl same) = omega (arith, ap number same, within (subst P (sym same) of_y))
        at y of_y (inr later) = least.least y later of_y

    none_with : ¬ (P x) → ((y : X) → Contains rest y → ¬ (P y)) → (y : X) → Contains (x ∷ rest) y → ¬ (P y)
    none_with lacks none y among of_y = at (first_or_later x rest y among)
      where
        at : (x ≡ y) ⊎ Contains rest y → ⊥
        at (inl same) = lacks (subst P (sym same) of_y)
        at (inr later) = none y later of_y

    -- the first item, and what is known of the others
    one_more : Dec (P x) → SomeLeast rest → SomeLeast (x ∷ rest)
    one_more (yes has) (inr none) = inl (x, first_alone has none)
    one_more (no lacks) (inr none) = inr (none_with lacks none)
    one_more (no lacks) (inl (z, least)) = inl (z, later_least z (λ has. absurd (lacks has)) least)
    one_more (yes has) (inl (z, least)) = by_number (dec_lt (number z) (number x))
      where
        by_number : Dec (number z < number x) → SomeLeast (x ∷ rest)
        by_number (yes smaller) = inl (z, later_least z (λ has. omega (arith, smaller)) least)
        by_number (no greater) = inl (x, first_least z has least (omega arith))

  pub some_least : ((x : X) → Dec (P x)) → (xs : List X) → SomeLeast xs
  some_least decide [] = inr (λ x among has. none_of_none x among)
  some_least decide (x ∷ rest) = one_more x rest (decide x) (some_least decide rest)
