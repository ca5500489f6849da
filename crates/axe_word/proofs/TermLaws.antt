-- When terms make a word.
use Rattle.std.proofs.Common.{◌≡◌, ◌≢◌, ℕ, ◌<◌, ◌≤◌, List, length, get_or, arith}
use Rattle.std.specs.List.{All}
use Rattle.std.proofs.lemmas.List.{get_or-map, length-map}
use Rattle.std.proofs.lemmas.List.Elements.{All-map}
use Rattle.axe_word.specs.Limits.{most_terms, most_numbers}
use Rattle.axe_word.specs.declared.word.Term.{Term}
use Rattle.axe_word.specs.Words.{IsWord}
use Rattle.axe_word.specs.Terms.{word_of_terms, IsTerm}

abbrev value_of_term : Term → ℕ × List ℕ
value_of_term term = (term.coefficient, term.gens.now)

-- what holds of each term of a word holds of each of the terms that make it
from_word : (P : ℕ × List ℕ → Type 0) (terms : List Term) → All P (word_of_terms terms) → All (λ (term : Term). P (value_of_term term)) terms
from_word P terms h k d below =
    let e : get_or (word_of_terms terms) k (value_of_term d) ≡ value_of_term (get_or terms k d) = get_or-map value_of_term terms k d (value_of_term d) below in
    let in_word : k < length (word_of_terms terms) = omega (arith, length-map terms value_of_term) in
    rw e at (h k (value_of_term d) in_word)

-- the terms of a word may stand in one
pub All-IsTerm : (terms : List Term) → IsWord (word_of_terms terms) → All IsTerm terms
All-IsTerm terms h k d below = record {
  nonzero = from_word (λ (t : ℕ × List ℕ). t.0 ≢ 0) terms h.coefficients k d below;
  fits = from_word (λ (t : ℕ × List ℕ). length t.1 ≤ most_numbers) terms h.numbers_fit k d below;
}

-- and so many terms that may make one
pub IsWord-terms : (terms : List Term) → length terms ≤ most_terms → All IsTerm terms → IsWord (word_of_terms terms)
IsWord-terms terms fit each = record {
  terms_fit = omega (arith, length-map terms value_of_term);
  coefficients = All-map (λ (t : ℕ × List ℕ). t.0 ≢ 0) value_of_term terms (λ k d below. (each k d below).nonzero);
  numbers_fit = All-map (λ (t : ℕ × List ℕ). length t.1 ≤ most_numbers) value_of_term terms (λ k d below. (each k d below).fits);
}

pub length-word_of_terms : (terms : List Term) → length (word_of_terms terms) ≡ length terms
length-word_of_terms terms = length-map terms value_of_term

-- a word has no more terms than the limit
pub length-terms : (terms : List Term) → IsWord (word_of_terms terms) → length terms ≤ most_terms
length-terms terms h = omega (arith, length-map terms value_of_term, h.terms_fit)
