-- What is drawn, step by step; drawn words are words over their field.
use Rattle.std.proofs.Common.{◌≡◌, ◌≢◌, ℕ, zero, suc, ◌+◌, ◌-◌, ◌<◌, ◌≤◌, List, [], ◌∷◌, ◌++◌, length, refl, sym, ap, ◌∙◌, subst, arith, add-one, length-append}
use Rattle.std.specs.List.{All}
use Rattle.std.specs.Prelude.{◌==◌, true, false, if◌then◌else◌}
use Rattle.std.proofs.lemmas.Bool.{eq-eqb, eqb-true}
use Rattle.std.proofs.lemmas.List.Elements.{All-nil, All-push}
use Rattle.rand_pcg.specs.Lcg.{Lcg, started, increment_of}
use Rattle.rand_pcg.specs.Pcg.{multiplier_64}
use Rattle.axe_algebra.specs.WordsOfLists.{IsWordOver}
use Rattle.axe_field.specs.Order.{Order, order_number}
use Rattle.axe_field.specs.NumberFields.{number_field}
use Rattle.axe_field.specs.CheckedLaws.{order_number-above}
use Rattle.axe_field.proofs.NumberFields.{number_field-order}
use Rattle.axe_word.specs.Limits.{most_terms, most_numbers}
use Rattle.axe_word.specs.Words.{WordValue, IsWord}
use Rattle.axe_word.specs.Drawing.{draw, draws, drawn_term, drawn_terms, word_from, drawn_word}

-- a draw modulo n is below n
pub draw-below : (n : ℕ) (generator : Lcg) → 1 ≤ n → (draw n generator).0 < n
unfolding draw
draw-below n generator some = omega arith

-- no draws, and one more
pub draws-none : (n : ℕ) (start : Lcg) → draws 0 n start ≡ ([], start)
unfolding draws
draws-none n start = refl

pub draws-more : (count n : ℕ) (start : Lcg) →
    draws (count + 1) n start ≡ ((draws count n start).0 ++ (draw n (draws count n start).1).0 ∷ [], (draw n (draws count n start).1).1)
unfolding draws
draws-more count n start = rw (add-one count) refl

pub length-draws : (count n : ℕ) (start : Lcg) → length (draws count n start).0 ≡ count
unfolding draws
length-draws zero n start = refl
length-draws (suc count) n start =
    omega (arith, length-append (draws count n start).0 ((draw n (draws count n start).1).0 ∷ []), length-draws count n start)

pub draws-below : (count n : ℕ) (start : Lcg) → 1 ≤ n → All (λ number. number < n) (draws count n start).0
unfolding draws
draws-below zero n start some = All-nil (λ number. number < n)
draws-below (suc count) n start some =
    All-push (λ number. number < n) (draws count n start).0 (draw n (draws count n start).1).0 (draws-below count n start some)
    (draw-below n (draws count n start).1 some)

-- a term with this coefficient and the first draws modulo n as its numbers, and the generator after these
pub record IsDrawnUpTo (count coefficient n : ℕ) (start : Lcg) (term : ℕ × List ℕ) (generator : Lcg) : Type 0 where
  pub coefficient_is : term.0 ≡ coefficient
  pub drawn : (term.1, generator) ≡ draws count n start
  pub count_is : length term.1 ≡ count

pub IsDrawnUpTo-none : (coefficient n : ℕ) (start : Lcg) (term : ℕ × List ℕ) → term ≡ (coefficient, []) →
    IsDrawnUpTo 0 coefficient n start term start
IsDrawnUpTo-none coefficient n start term is = record {
  coefficient_is = ap (λ (t : ℕ × List ℕ). t.0) is;
  drawn = ap (λ (t : ℕ × List ℕ). (t.1, start)) is ∙ sym (draws-none n start);
  count_is = ap (λ (t : ℕ × List ℕ). length t.1) is;
}

pub IsDrawnUpTo-more : (count coefficient n : ℕ) (start : Lcg) (term next : ℕ × List ℕ) (generator after : Lcg) (number : ℕ) →
    IsDrawnUpTo count coefficient n start term generator → (number, after) ≡ draw n generator → next ≡ (term.0, term.1 ++ number ∷ []) →
    IsDrawnUpTo (count + 1) coefficient n start next after
IsDrawnUpTo-more count coefficient n start term next generator after number h is next_is = record {
  coefficient_is = ap (λ (t : ℕ × List ℕ). t.0) next_is ∙ h.coefficient_is;
  drawn =
      ap (λ (t : ℕ × List ℕ). (t.1, after)) next_is
      ∙ ap (λ (d : ℕ × Lcg). (term.1 ++ d.0 ∷ [], d.1)) is
      ∙ ap (λ (d : List ℕ × Lcg). (d.0 ++ (draw n d.1).0 ∷ [], (draw n d.1).1)) h.drawn
      ∙ sym (draws-more count n start);
  count_is = omega (arith, ap (λ (t : ℕ × List ℕ). length t.1) next_is, length-append term.1 (number ∷ []), h.count_is);
}

pub IsDrawnUpTo-all : (q k drawn count : ℕ) (generator first start after : Lcg) (term : ℕ × List ℕ) → (drawn, first) ≡ draw (q - 1) generator →
    (count, start) ≡ draw (most_numbers + 1) first → IsDrawnUpTo count (1 + drawn) k start term after → (term, after) ≡ drawn_term q k generator
unfolding drawn_term
IsDrawnUpTo-all q k drawn count generator first start after term coefficient_is count_is h =
    ap (λ c. ((c, term.1), after)) h.coefficient_is
    ∙ ap (λ (d : List ℕ × Lcg). ((1 + drawn, d.0), d.1)) h.drawn
    ∙ ap (λ (d : ℕ × Lcg). let numbers = draws d.0 k d.1 in ((1 + drawn, numbers.0), numbers.1)) count_is
    ∙ ap (λ (d : ℕ × Lcg). let count = draw (most_numbers + 1) d.1 in let numbers = draws count.0 k count.1 in ((1 + d.0, numbers.0), numbers.1)) coefficient_is

-- no drawn terms, and one more
pub drawn_terms-none : (q k : ℕ) (start : Lcg) → drawn_terms 0 q k start ≡ ([], start)
unfolding drawn_terms
drawn_terms-none q k start = refl

pub drawn_terms-more : (count q k : ℕ) (start : Lcg) →
    drawn_terms (count + 1) q k start
    ≡ ((drawn_terms count q k start).0 ++ (drawn_term q k (drawn_terms count q k start).1).0 ∷ [], (drawn_term q k (drawn_terms count q k start).1).1)
unfolding drawn_terms
drawn_terms-more count q k start = rw (add-one count) refl

-- a word of the first drawn terms, and the generator after these
pub record IsWordUpTo (count q k : ℕ) (start : Lcg) (word : WordValue) (generator : Lcg) : Type 0 where
  pub drawn : (word, generator) ≡ drawn_terms count q k start
  pub count_is : length word ≡ count

pub IsWordUpTo-none : (q k : ℕ) (start : Lcg) (word : WordValue) → word ≡ [] → IsWordUpTo 0 q k start word start
IsWordUpTo-none q k start word is = record {
  drawn = ap (λ (w : WordValue). (w, start)) is ∙ sym (drawn_terms-none q k start);
  count_is = ap (λ (w : WordValue). length w) is;
}

pub IsWordUpTo-more : (count q k : ℕ) (start : Lcg) (word next : WordValue) (generator after : Lcg) (term : ℕ × List ℕ) →
    IsWordUpTo count q k start word generator → (term, after) ≡ drawn_term q k generator → next ≡ word ++ term ∷ [] →
    IsWordUpTo (count + 1) q k start next after
IsWordUpTo-more count q k start word next generator after term h is next_is = record {
  drawn =
      ap (λ (w : WordValue). (w, after)) next_is
      ∙ ap (λ (d : (ℕ × List ℕ) × Lcg). (word ++ d.0 ∷ [], d.1)) is
      ∙ ap (λ (d : WordValue × Lcg). (d.0 ++ (drawn_term q k d.1).0 ∷ [], (drawn_term q k d.1).1)) h.drawn
      ∙ sym (drawn_terms-more count q k start);
  count_is = omega (arith, ap (λ (w : WordValue). length w) next_is, length-append word (term ∷ []), h.count_is);
}

pub IsWordUpTo-all : (q k count drawn : ℕ) (generator start after : Lcg) (word : WordValue) → (drawn, start) ≡ draw most_terms generator →
    count ≡ 1 + drawn → IsWordUpTo count q k start word after → word ≡ word_from q k generator
unfolding word_from
IsWordUpTo-all q k count drawn generator start after word is count_is h =
    ap (λ (d : WordValue × Lcg). d.0) h.drawn
    ∙ ap (λ n. (drawn_terms n q k start).0) count_is
    ∙ ap (λ (d : ℕ × Lcg). (drawn_terms (1 + d.0) q k d.1).0) is

-- what holds of every drawn term holds of each term of a drawn word
pub drawn_terms-all : (P : ℕ × List ℕ → Type 0) (count q k : ℕ) (start : Lcg) → ((g : Lcg) → P (drawn_term q k g).0) → All P (drawn_terms count q k start).0
unfolding drawn_terms
drawn_terms-all P zero q k start each = All-nil P
drawn_terms-all P (suc count) q k start each =
    All-push P (drawn_terms count q k start).0 (drawn_term q k (drawn_terms count q k start).1).0 (drawn_terms-all P count q k start each)
    (each (drawn_terms count q k start).1)

pub length-drawn_terms : (count q k : ℕ) (start : Lcg) → length (drawn_terms count q k start).0 ≡ count
unfolding drawn_terms
length-drawn_terms zero q k start = refl
length-drawn_terms (suc count) q k start =
    omega (arith, length-append (drawn_terms count q k start).0 ((drawn_term q k (drawn_terms count q k start).1).0 ∷ []), length-drawn_terms count q k start)

drawn_term-nonzero : (q k : ℕ) (g : Lcg) → (drawn_term q k g).0.0 ≢ 0
unfolding drawn_term
drawn_term-nonzero q k g e = absurd (omega (arith, e))

drawn_term-short : (q k : ℕ) (g : Lcg) → length (drawn_term q k g).0.1 ≤ most_numbers
unfolding drawn_term
drawn_term-short q k g =
    let first = draw (q - 1) g in
    let count = draw (most_numbers + 1) first.1 in
    omega (arith, length-draws count.0 k count.1, draw-below (most_numbers + 1) first.1 (omega arith))

drawn_term-below : (q k : ℕ) (g : Lcg) → 2 ≤ q → (drawn_term q k g).0.0 < q
unfolding drawn_term
drawn_term-below q k g large = omega (arith, draw-below (q - 1) g (omega arith))

drawn_term-numbers : (q k : ℕ) (g : Lcg) → 1 ≤ k → All (λ number. number < k) (drawn_term q k g).0.1
unfolding drawn_term
drawn_term-numbers q k g some =
    let count = draw (most_numbers + 1) (draw (q - 1) g).1 in
    draws-below count.0 k count.1 some

-- the word of some draws is a word
word_from-IsWord : (q k : ℕ) (g : Lcg) → IsWord (word_from q k g)
unfolding word_from
word_from-IsWord q k g =
    let count = draw most_terms g in
    record {
      terms_fit = omega (arith, length-drawn_terms (1 + count.0) q k count.1, draw-below most_terms g (omega arith));
      coefficients = drawn_terms-all (λ (t : ℕ × List ℕ). t.0 ≢ 0) (1 + count.0) q k count.1 (drawn_term-nonzero q k);
      numbers_fit = drawn_terms-all (λ (t : ℕ × List ℕ). length t.1 ≤ most_numbers) (1 + count.0) q k count.1 (drawn_term-short q k);
    }

word_from-over : (o : Order) (k : ℕ) (g : Lcg) → 1 ≤ k → IsWordOver (number_field o) k (word_from (order_number o) k g)
unfolding word_from
word_from-over o k g some =
    let count = draw most_terms g in
    record {
      coefficients =
          subst (λ q. All (λ (t : ℕ × List ℕ). t.0 < q) (drawn_terms (1 + count.0) (order_number o) k count.1).0) (sym (number_field-order o))
          (drawn_terms-all (λ (t : ℕ × List ℕ). t.0 < order_number o) (1 + count.0) (order_number o) k count.1
          (λ h. drawn_term-below (order_number o) k h (order_number-above o)));
      generators = drawn_terms-all (λ (t : ℕ × List ℕ). All (λ number. number < k) t.1) (1 + count.0) (order_number o) k count.1
          (λ h. drawn_term-numbers (order_number o) k h some);
    }

-- what holds of the word without terms, and of each word that is drawn, holds of every word with a number
drawn_word-all : (P : WordValue → Type 0) (seed number q k : ℕ) → P [] → ((g : Lcg) → P (word_from q k g)) → P (drawn_word seed number q k)
unfolding drawn_word
drawn_word-all P seed number q k none each =
    elim (number == 0) as (λ b. P (if b then [] else word_from q k (started 64 multiplier_64 seed (increment_of 64 number)))) [
      | true ↦ none
      | false ↦ each (started 64 multiplier_64 seed (increment_of 64 number))
    ]

-- a word with a number is a word, over the field of its order and with its number of generators
pub drawn_word-IsWord : (seed number q k : ℕ) → IsWord (drawn_word seed number q k)
drawn_word-IsWord seed number q k = drawn_word-all IsWord seed number q k none (word_from-IsWord q k)
  where
    none : IsWord []
    none = record {
      terms_fit = omega arith;
      coefficients = All-nil (λ (t : ℕ × List ℕ). t.0 ≢ 0);
      numbers_fit = All-nil (λ (t : ℕ × List ℕ). length t.1 ≤ most_numbers);
    }

pub drawn_word-over : (seed number q k : ℕ) (o : Order) → order_number o ≡ q → 1 ≤ k → IsWordOver (number_field o) k (drawn_word seed number q k)
drawn_word-over seed number q k o is some =
    drawn_word-all (IsWordOver (number_field o) k) seed number q k none
    (λ g. subst (λ p. IsWordOver (number_field o) k (word_from p k g)) is (word_from-over o k g some))
  where
    none : IsWordOver (number_field o) k []
    none = record {
      coefficients = All-nil (λ (t : ℕ × List ℕ). t.0 < (number_field o).order);
      generators = All-nil (λ (t : ℕ × List ℕ). All (λ number. number < k) t.1);
    }

-- word 0, and the others
pub drawn_word-zero : (seed number q k : ℕ) → number ≡ 0 → drawn_word seed number q k ≡ []
unfolding drawn_word
drawn_word-zero seed number q k is = rw (eq-eqb number 0 is) refl

pub drawn_word-drawn : (seed number q k : ℕ) → number ≢ 0 →
    drawn_word seed number q k ≡ word_from q k (started 64 multiplier_64 seed (increment_of 64 number))
unfolding drawn_word
drawn_word-drawn seed number q k nonzero =
    elim (number == 0) as (λ b. (number == 0) ≡ b → (if b then [] else word_from q k (started 64 multiplier_64 seed (increment_of 64 number))) ≡ word_from q k (started 64 multiplier_64 seed (increment_of 64 number))) [
      | true ↦ λ e. absurd (nonzero (eqb-true number 0 e))
      | false ↦ λ e. refl
    ] refl
