-- Words that are drawn: word j of seed s (the draws are those of O'Neill's PCG XSH RR 64/32).
use Rattle.std.specs.Prelude.{◌≡◌, ℕ, zero, suc, ◌+◌, ◌-◌, ◌%◌, ◌==◌, List, [], ◌∷◌, ◌++◌, if◌then◌else◌}
use Rattle.rand_pcg.specs.Lcg.{Lcg, started, increment_of}
use Rattle.rand_pcg.specs.Pcg.{multiplier_64, pcg32}
use Rattle.axe_field.specs.Order.{Order, order_number}
use Rattle.axe_word.specs.Limits.{most_terms, most_numbers}
use Rattle.axe_word.specs.Words.{WordValue}

-- a draw modulo n: the generator's next word modulo n, and the generator after it
unfoldable pub draw : ℕ → Lcg → ℕ × Lcg
draw n generator = ((pcg32 generator).0 % n, (pcg32 generator).1)

-- so many draws modulo n, the first one first, and the generator after them
unfoldable pub draws : ℕ → ℕ → Lcg → List ℕ × Lcg
draws zero n generator = ([], generator)
draws (suc count) n generator =
    let before = draws count n generator in
    let last = draw n before.1 in
    (before.0 ++ last.0 ∷ [], last.1)

-- a drawn term for a field of order q and k generators: the coefficient is 1 more than a draw modulo q - 1, how many
-- numbers there are is the next draw, modulo 7, and the numbers are as many draws modulo k
unfoldable pub drawn_term : ℕ → ℕ → Lcg → (ℕ × List ℕ) × Lcg
drawn_term q k generator =
    let coefficient = draw (q - 1) generator in
    let count = draw (most_numbers + 1) coefficient.1 in
    let numbers = draws count.0 k count.1 in
    ((1 + coefficient.0, numbers.0), numbers.1)

-- so many drawn terms, the first one first, and the generator after them
unfoldable pub drawn_terms : ℕ → ℕ → ℕ → Lcg → WordValue × Lcg
drawn_terms zero q k generator = ([], generator)
drawn_terms (suc count) q k generator =
    let before = drawn_terms count q k generator in
    let last = drawn_term q k before.1 in
    (before.0 ++ last.0 ∷ [], last.1)

-- the word of the draws of a generator: how many terms there are is 1 more than the first draw, modulo 4
unfoldable pub word_from : ℕ → ℕ → Lcg → WordValue
word_from q k generator = let count = draw most_terms generator in (drawn_terms (1 + count.0) q k count.1).0

-- the word of this seed and number for a field of order q and k generators: word 0 has no terms, and every other one
-- is drawn from the generator with the seed as its state and the number as its stream
unfoldable pub drawn_word : ℕ → ℕ → ℕ → ℕ → WordValue
drawn_word seed number q k =
    if number == 0 then [] else word_from q k (started 64 multiplier_64 seed (increment_of 64 number))

-- the number is the order of one of the seven fields
pub record IsOrder (q : ℕ) : Type 0 where
  pub order : Order
  pub is : order_number order ≡ q
