-- Words in the generators of a module, term by term.
use Rattle.std.proofs.Common.{◌≡◌, ℕ, ◌<◌, List, [], length, take, get_or, sym, ap, ◌∙◌, subst}
use Rattle.std.specs.List.{All}
use Rattle.std.proofs.Math.Seq.{take-length}
use Rattle.axe_field.proofs.NumberFields.{number_field-order}
use Rattle.axe_spin.specs.Modules.{ModuleValue}
use Rattle.axe_word.specs.Words.{WordValue, IsWordIn, IsTermIn}

-- the term at an index of a word, by its parts
same_term : (word : WordValue) (index coefficient : ℕ) (numbers : List ℕ) → coefficient ≡ (get_or word index (0, [])).0 →
    numbers ≡ (get_or word index (0, [])).1 → (coefficient, numbers) ≡ get_or word index (0, [])
same_term word index coefficient numbers coefficient_is numbers_is = λ i. (coefficient_is i, numbers_is i)

-- it may stand in a word
pub term_of_word : (m : ModuleValue) (word : WordValue) (index coefficient : ℕ) (numbers : List ℕ) → IsWordIn m word → index < length word →
    coefficient ≡ (get_or word index (0, [])).0 → numbers ≡ (get_or word index (0, [])).1 → IsTermIn m (coefficient, numbers)
term_of_word m word index coefficient numbers over inside coefficient_is numbers_is =
    subst (IsTermIn m) (sym (same_term word index coefficient numbers coefficient_is numbers_is)) (record {
      element = subst (λ q. (get_or word index (0, [])).0 < q) (number_field-order m.order) (over.over.coefficients index (0, []) inside);
      numbers = over.over.generators index (0, []) inside;
    })

pub term_at : (m : ModuleValue) (word : WordValue) (index coefficient : ℕ) (numbers : List ℕ) → IsTermIn m (coefficient, numbers) →
    coefficient ≡ (get_or word index (0, [])).0 → numbers ≡ (get_or word index (0, [])).1 → IsTermIn m (get_or word index (0, []))
term_at m word index coefficient numbers h coefficient_is numbers_is = subst (IsTermIn m) (same_term word index coefficient numbers coefficient_is numbers_is) h

-- where every term may, the word is one in the generators
pub word_of_terms-in : (m : ModuleValue) (word : WordValue) (count : ℕ) → All (IsTermIn m) (take count word) → count ≡ length word → IsWordIn m word
word_of_terms-in m word count each all = record {
  over = record {
    coefficients = λ k d below. subst (λ q. (get_or word k d).0 < q) (sym (number_field-order m.order)) (whole k d below).element;
    generators = λ k d below. (whole k d below).numbers;
  };
}
  where
    whole : All (IsTermIn m) word
    whole = subst (All (IsTermIn m)) (ap (λ n. take n word) all ∙ take-length word) each
