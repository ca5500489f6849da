-- Lists of polynomials that ascend by number: the polynomials with a property have one such list, and it is there where
-- the property is decidable and bounds the number.
use Rattle.std.specs.Prelude.{◌≡◌, ℕ, zero, suc, ◌-◌, ◌<◌, ◌≤◌, ◌⊎◌, List, [], ◌∷◌, ◌++◌, length, get_or}
use Rattle.std.specs.List.{AllPairs, Contains}
use Rattle.std.proofs.lemmas.List.{length-append, get_or_append_left, get_or-append_right}
use Rattle.std.proofs.lemmas.List.Elements.{All-nil, All-cons, All-append, All-weaker, All-contains}
use Rattle.std.proofs.lemmas.List.Elements.{Contains-append_left, Contains-append_right}
use Rattle.axe_polynomial_algebra.specs.PolynomialsOfLists.{polynomial_number, ListsByNumber}
use mathlib.Core.Logic.{inl, inr}
use mathlib.Core.Path.{refl, sym, ◌∙◌, ap, ap₂, subst}
use native.Mathlib.Omega.{arith}
use native.Mathlib.Decide.{dec_lt, ℕ_discrete}

-- ---- ascending lists with the same members

module _ {X : Type 0} (number : X → ℕ) where
  abbrev Ascends : List X → Type 0
  Ascends xs = AllPairs (λ x y. number x < number y) xs

  -- a member is the first one or among the others
  first_or_later : (x : X) (xs : List X) (z : X) → Contains (x ∷ xs) z → (x ≡ z) ⊎ Contains xs z
  first_or_later x xs z (zero, below, same) = inl same
  first_or_later x xs z (suc k, below, same) = inr (k, omega (arith, below), same)

  later : (x : X) (xs : List X) (z : X) → Contains xs z → Contains (x ∷ xs) z
  later x xs z (k, below, same) = (suc k, omega (arith, below), same)

  first : (x : X) (xs : List X) → Contains (x ∷ xs) x
  first x xs = (0, omega arith, refl)

  -- the first one is below the others, which ascend
  above_first : (x : X) (xs : List X) (z : X) → Ascends (x ∷ xs) → Contains xs z → number x < number z
  above_first x xs z ascends (k, below, same) =
      subst (λ (y : X). number x < number y) same (ascends 0 (suc k) z (omega arith) (omega (arith, below)))

  rest_ascends : (x : X) (xs : List X) → Ascends (x ∷ xs) → Ascends xs
  rest_ascends x xs ascends i j d before below =
      ascends (suc i) (suc j) d (omega (arith, before)) (omega (arith, below))

  pub same_members : (xs ys : List X) → Ascends xs → Ascends ys → ((z : X) → Contains xs z → Contains ys z) →
      ((z : X) → Contains ys z → Contains xs z) → xs ≡ ys
  same_members [] [] of_xs of_ys forth back = refl
  same_members [] (y ∷ ys) of_xs of_ys forth back =
      absurd (let (k, below, same) = back y (first y ys) in omega (arith, below))
  same_members (x ∷ xs) [] of_xs of_ys forth back =
      absurd (let (k, below, same) = forth x (first x xs) in omega (arith, below))
  same_members (x ∷ xs) (y ∷ ys) of_xs of_ys forth back =
      ap₂ (λ (a : X) (b : List X). a ∷ b) heads
      (same_members xs ys (rest_ascends x xs of_xs) (rest_ascends y ys of_ys)
      (λ z inside. past_first y ys z (first_or_later y ys z (forth z (later x xs z inside)))
      (subst (λ (a : X). number a < number z) heads (above_first x xs z of_xs inside)))
      (λ z inside. past_first x xs z (first_or_later x xs z (back z (later y ys z inside)))
      (subst (λ (a : X). number a < number z) (sym heads) (above_first y ys z of_ys inside))))
    where
      past_first : (a : X) (more : List X) (z : X) → (a ≡ z) ⊎ Contains more z → number a < number z → Contains more z
      past_first a more z (inl same) above = absurd (omega (arith, above, ap number same))
      past_first a more z (inr inside) above = inside

      meet : (y ≡ x) ⊎ Contains ys x → (x ≡ y) ⊎ Contains xs y → x ≡ y
      meet (inl same) _ = sym same
      meet (inr inside) (inl same) = same
      meet (inr inside) (inr other) =
          absurd (omega (arith, above_first y ys x of_ys inside, above_first x xs y of_xs other))

      heads : x ≡ y
      heads = meet (first_or_later y ys x (forth x (first x xs))) (first_or_later x xs y (back y (first y ys)))

  -- two ascending lists, one below the other, together ascend
  pub ascends-append : (xs ys : List X) → Ascends xs → Ascends ys →
      ((i j : ℕ) (d : X) → i < length xs → j < length ys → number (get_or xs i d) < number (get_or ys j d)) →
      Ascends (xs ++ ys)
  ascends-append xs ys of_xs of_ys across i j d before below = cases (dec_lt j (length xs)) (dec_lt i (length xs))
    where
      n : ℕ
      n = length xs

      at_left : (k : ℕ) → k < n → get_or (xs ++ ys) k d ≡ get_or xs k d
      at_left k inside = get_or_append_left xs ys d k inside

      at_right : (k : ℕ) → n ≤ k → get_or (xs ++ ys) k d ≡ get_or ys (k - n) d
      at_right k past = get_or-append_right xs ys n k d refl past

      at : (a b : X) → get_or (xs ++ ys) i d ≡ a → get_or (xs ++ ys) j d ≡ b → number a < number b →
          number (get_or (xs ++ ys) i d) < number (get_or (xs ++ ys) j d)
      at a b left right less = omega (arith, ap number left, ap number right, less)

      cases : Dec (j < n) → Dec (i < n) → number (get_or (xs ++ ys) i d) < number (get_or (xs ++ ys) j d)
      cases (yes inside) _ =
          at (get_or xs i d) (get_or xs j d) (at_left i (omega (arith, before))) (at_left j inside)
          (of_xs i j d before inside)
      cases (no past) (yes inside) =
          at (get_or xs i d) (get_or ys (j - n) d) (at_left i inside) (at_right j (omega (arith, past)))
          (across i (j - n) d inside (omega (arith, past, below, length-append xs ys)))
      cases (no past) (no other) =
          at (get_or ys (i - n) d) (get_or ys (j - n) d) (at_right i (omega (arith, other)))
          (at_right j (omega (arith, past)))
          (of_ys (i - n) (j - n) d (omega (arith, other, before)) (omega (arith, past, below, length-append xs ys)))

pub list_by_number_is_unique : (q : ℕ) (P : List ℕ → Type 0) (polynomials others : List (List ℕ)) →
    ListsByNumber q P polynomials → ListsByNumber q P others → polynomials ≡ others
list_by_number_is_unique q P polynomials others one other =
    same_members (polynomial_number q) polynomials others one.ascending other.ascending
    (λ z inside. other.all z (All-contains P polynomials z one.each inside))
    (λ z inside. one.all z (All-contains P others z other.each inside))

-- ---- none, one more, and two lists together

module _ (q : ℕ) where
  -- where no polynomial has P
  pub lists_none : (P : List ℕ → Type 0) → ((p : List ℕ) → ¬ (P p)) → ListsByNumber q P []
  lists_none P none = record {
    each = All-nil P;
    all = λ p has. absurd (none p has);
    ascending = λ i j d before inside. absurd (omega (arith, inside));
  }

  -- where the same polynomials have P and Q
  pub lists_same : (P Q : List ℕ → Type 0) (polynomials : List (List ℕ)) → ((p : List ℕ) → P p → Q p) →
      ((p : List ℕ) → Q p → P p) → ListsByNumber q P polynomials → ListsByNumber q Q polynomials
  lists_same P Q polynomials forth back of_P = record {
    each = All-weaker P Q forth polynomials of_P.each;
    all = λ p has. of_P.all p (back p has);
    ascending = of_P.ascending;
  }

  -- the polynomials with P and then those with R, which have larger numbers
  pub lists_together : (P R Q : List ℕ → Type 0) (low high : List (List ℕ)) → ((p : List ℕ) → P p → Q p) →
      ((p : List ℕ) → R p → Q p) → ((p : List ℕ) → Q p → P p ⊎ R p) →
      ((p r : List ℕ) → P p → R r → polynomial_number q p < polynomial_number q r) →
      ListsByNumber q P low → ListsByNumber q R high → ListsByNumber q Q (low ++ high)
  lists_together P R Q low high from_P from_R either across of_low of_high = record {
    each = All-append Q low high (All-weaker P Q from_P low of_low.each) (All-weaker R Q from_R high of_high.each);
    all = λ p has. contained p (either p has);
    ascending = ascends-append (polynomial_number q) low high of_low.ascending of_high.ascending
        (λ i j d inside within.
        across (get_or low i d) (get_or high j d) (of_low.each i d inside) (of_high.each j d within));
  }
    where
      contained : (p : List ℕ) → P p ⊎ R p → Contains (low ++ high) p
      contained p (inl has) = Contains-append_left low high p (of_low.all p has)
      contained p (inr has) = Contains-append_right low high p (of_high.all p has)

  -- one polynomial alone
  pub lists_one : (next : List ℕ) → ListsByNumber q (λ p. p ≡ next) (next ∷ [])
  lists_one next = record {
    each = All-cons (λ (p : List ℕ). p ≡ next) next [] refl (All-nil (λ (p : List ℕ). p ≡ next));
    all = λ p is. (0, omega arith, sym is);
    ascending = λ i j d before inside. absurd (omega (arith, before, inside));
  }

  -- one polynomial more, of a larger number
  pub lists_push : (P Q : List ℕ → Type 0) (polynomials : List (List ℕ)) (next : List ℕ) → ((p : List ℕ) → P p → Q p) →
      Q next → ((p : List ℕ) → Q p → P p ⊎ (p ≡ next)) →
      ((p : List ℕ) → P p → polynomial_number q p < polynomial_number q next) → ListsByNumber q P polynomials →
      ListsByNumber q Q (polynomials ++ next ∷ [])
  lists_push P Q polynomials next forth has either below of_P =
      lists_together P (λ p. p ≡ next) Q polynomials (next ∷ []) forth (λ p is. subst Q (sym is) has) either
      (λ p r of_p is. subst (λ y. polynomial_number q p < polynomial_number q y) (sym is) (below p of_p)) of_P
      (lists_one next)

-- ---- the list of the polynomials with a decidable property

-- p has P, and a number below n
record HasBelow (q : ℕ) (P : List ℕ → Type 0) (n : ℕ) (p : List ℕ) : Type 0 where
  pub has : P p
  pub below : polynomial_number q p < n

-- the candidate for a number is the polynomial with P of this number, where there is one
module _ (q : ℕ) (P : List ℕ → Type 0) (decide : (p : List ℕ) → Dec (P p)) (candidate : ℕ → List ℕ)
    (found : (p : List ℕ) → P p → candidate (polynomial_number q p) ≡ p) where
  numbers_below : (n : ℕ) → (polynomials : List (List ℕ)) × ListsByNumber q (HasBelow q P n) polynomials
  numbers_below zero = ([], lists_none q (HasBelow q P 0) (λ p is. omega (arith, is.below)))
  numbers_below (suc n) =
      next (numbers_below n) (decide (candidate n)) (ℕ_discrete (polynomial_number q (candidate n)) n)
    where
      one_more : (p : List ℕ) → HasBelow q P n p → HasBelow q P (suc n) p
      one_more p is = record { has = is.has; below = omega (arith, is.below) }

      below_or_candidate : (p : List ℕ) → HasBelow q P (suc n) p → HasBelow q P n p ⊎ (p ≡ candidate n)
      below_or_candidate p is = cases (dec_lt (polynomial_number q p) n)
        where
          cases : Dec (polynomial_number q p < n) → HasBelow q P n p ⊎ (p ≡ candidate n)
          cases (yes small) = inl (record { has = is.has; below = small })
          cases (no past) =
              let number_is : polynomial_number q p ≡ n = omega (arith, is.below, past) in
              inr (sym (found p is.has) ∙ ap candidate number_is)

      kept : (polynomials : List (List ℕ)) → (P (candidate n) → ¬ (polynomial_number q (candidate n) ≡ n)) →
          ListsByNumber q (HasBelow q P n) polynomials → ListsByNumber q (HasBelow q P (suc n)) polynomials
      kept polynomials none = lists_same q (HasBelow q P n) (HasBelow q P (suc n)) polynomials one_more
          (λ p is. before p is (below_or_candidate p is))
        where
          before : (p : List ℕ) → HasBelow q P (suc n) p → HasBelow q P n p ⊎ (p ≡ candidate n) → HasBelow q P n p
          before p is (inl smaller) = smaller
          before p is (inr same) = cases (dec_lt (polynomial_number q p) n)
            where
              cases : Dec (polynomial_number q p < n) → HasBelow q P n p
              cases (yes small) = record { has = is.has; below = small }
              cases (no past) =
                  let number_is : polynomial_number q p ≡ n = omega (arith, is.below, past) in
                  absurd (none (subst P same is.has) (ap (polynomial_number q) (sym same) ∙ number_is))

      next : (polynomials : List (List ℕ)) × ListsByNumber q (HasBelow q P n) polynomials → Dec (P (candidate n)) →
          Dec (polynomial_number q (candidate n) ≡ n) →
          (polynomials : List (List ℕ)) × ListsByNumber q (HasBelow q P (suc n)) polynomials
      next (polynomials, so_far) (yes has) (yes number_is) = (
        polynomials ++ candidate n ∷ [],
        lists_push q (HasBelow q P n) (HasBelow q P (suc n)) polynomials (candidate n) one_more
            (record { has = has; below = omega (arith, number_is) }) below_or_candidate
            (λ p is. omega (arith, is.below, number_is)) so_far,
      )
      next (polynomials, so_far) (yes has) (no other) =
          (polynomials, kept polynomials (λ _ number_is. other number_is) so_far)
      next (polynomials, so_far) (no lacks) _ = (polynomials, kept polynomials (λ has _. lacks has) so_far)

  pub list_by_number_exists : (bound : ℕ) → ((p : List ℕ) → P p → polynomial_number q p < bound) →
      (polynomials : List (List ℕ)) × ListsByNumber q P polynomials
  list_by_number_exists bound small = whole (numbers_below bound)
    where
      whole : (polynomials : List (List ℕ)) × ListsByNumber q (HasBelow q P bound) polynomials →
          (polynomials : List (List ℕ)) × ListsByNumber q P polynomials
      whole (polynomials, lists) = (
        polynomials,
        lists_same q (HasBelow q P bound) P polynomials (λ p is. is.has)
            (λ p has. record { has = has; below = small p has }) lists,
      )
