-- Rows that are held by their blocks of 64 entries.
use Rattle.std.proofs.Common.{◌≡◌, ◌≢◌, ◌⊎◌, ℕ, ◌+◌, ◌*◌, ◌/◌, ◌%◌, ◌<◌, ◌≤◌, Option, Some, None, MatchOption, IfSome, List, length, get_or, set, replicate, cond, ltb, refl, sym, ap, ap₂, subst, ◌∙◌, arith, inl, inr, lit<, get_or-set_other, get_or-set_same, below_more}
use Rattle.std.specs.List.{All}
use Rattle.std.specs.Int.{bit_at}
use Rattle.std.proofs.lemmas.Bool.{cases_eq}
use Rattle.std.proofs.lemmas.List.Elements.{All-from_get_or, All-replicate}
use Rattle.std.proofs.lemmas.Nat.Bits.{bit_at-zero}
use Rattle.std.proofs.lemmas.List.{ext_get_or, get_or_past, get_or-replicate, length-replicate, length-set}
use native.Mathlib.Decide.{dec_lt}
use Rattle.axe_algebra.proofs.ListEntries.{listed_at, listed_length}
use Rattle.axe_field.specs.Arithmetic.{field_add, field_mul}
use Rattle.axe_field.specs.CheckedLaws.{field_add_comm, field_add-below, field_add-zero, field_mul-below}
use Rattle.axe_field.specs.NumberFields.{number_field}
use Rattle.axe_field.specs.Order.{Order, Two, Three, Four, Five, Seven, Eight, Nine, IsElement, order_number, prime_of, degree_of}
use Rattle.axe_field.proofs.Laws.{field_mul-zero}
use Rattle.axe_field.proofs.Orders.{zero_is_element}
use Rattle.axe_lane.specs.Entries.{AreZerosBefore}
use Rattle.axe_layer.specs.Bits.{bits, HoldsBits}
use Rattle.axe_layer.proofs.BitLaws.{get_or-bits, get_or-zeros, bit_of-word}
use Rattle.axe_plane.specs.Planes.{digits_of, prime_of_plane}
use Rattle.axe_plane.specs.declared.Plane.{Plane}
use Rattle.axe_plane.specs.declared.Plane.TheVariants.{Bits, Trits, Bytes}
use Rattle.axe_plane.proofs.PlaneLaws.{byte_prime-above}
use Rattle.axe_row.specs.BitBlocks.{elements_of_block, low_at, weight_of, IsBlock, IsBlockWithMultiple}
use Rattle.axe_row.specs.EntryWords.{entries_in_word}
use Rattle.axe_row.specs.FoundEntries.{IsNextEntry}
use Rattle.axe_row.specs.HeldRows.{block_at, entry_of_blocks, entries_of_blocks, AreBlocksOfRow}
use Rattle.axe_row.specs.Operations.{sum_with_multiple, multiple, row_with_multiple, multiple_row}
use Rattle.axe_row.specs.Rows.{RowValue, IsRow}
use Rattle.axe_row.specs.declared.bit_block.BitBlock.{BitBlock}
use Rattle.axe_row.proofs.BlockElements.{element-at, elements-are, zero_block}
use Rattle.axe_row.proofs.BlockLaws.{entry_in_word, length-entries_in_word, sum_in_word}
use Rattle.axe_row.proofs.EntryWordLaws.{three_of_nine}
use Rattle.axe_row.proofs.OperationLaws.{get_or-row_with_multiple, get_or-multiple_row, length-sum_with_multiple, length-multiple}
use Rattle.axe_row.proofs.RowLaws.{same_row}

-- ---- blocks with multiples of others

pub record AreAddedBetween (size scalar start n : ℕ) (initial others blocks : List BitBlock) : Type 0 where
  pub added : (k : ℕ) → start ≤ k → k < n → IsBlockWithMultiple size scalar (block_at initial k) (block_at others k) (block_at blocks k)
  pub kept : (k : ℕ) → (k < start) ⊎ (n ≤ k) → block_at blocks k ≡ block_at initial k

pub AreAddedBetween-none : (size scalar start : ℕ) (initial others : List BitBlock) → AreAddedBetween size scalar start start initial others initial
AreAddedBetween-none size scalar start initial others = record {
  added = λ k above below. absurd (omega arith);
  kept = λ k _. refl;
}

pub AreAddedBetween-more : (size scalar start n : ℕ) (initial others blocks : List BitBlock) (sum : BitBlock) →
    AreAddedBetween size scalar start n initial others blocks → start ≤ n → n < length blocks →
    IsBlockWithMultiple size scalar (block_at blocks n) (block_at others n) sum →
    AreAddedBetween size scalar start (n + 1) initial others (set blocks n sum)
AreAddedBetween-more size scalar start n initial others blocks sum h from inside is = record {
  added = λ k above below. elim (cases_eq k n) [
    | inl same ↦
        let there : block_at (set blocks n sum) k ≡ sum = ap (block_at (set blocks n sum)) same ∙ get_or-set_same blocks n sum _ inside in
        subst (IsBlockWithMultiple size scalar (block_at initial k) (block_at others k)) (sym there)
        (subst (λ j. IsBlockWithMultiple size scalar (block_at initial j) (block_at others j) sum) (sym same)
        (subst (λ b. IsBlockWithMultiple size scalar b (block_at others n) sum) (h.kept n (inr (omega arith))) is))
    | inr other ↦
        subst (IsBlockWithMultiple size scalar (block_at initial k) (block_at others k)) (sym (get_or-set_other blocks n k sum _ other))
        (h.added k above (omega (arith, below, other)))
  ];
  kept = λ k where_is. get_or-set_other blocks n k sum _ (elim where_is [ inl before ↦ (let o : k ≢ n = omega arith in o) | inr past ↦ (let o : k ≢ n = omega arith in o) ])
      ∙ h.kept k (elim where_is [ inl before ↦ inl before | inr past ↦ inr (omega arith) ]);
}

-- ---- words of bits

pub bits_in_word : (n : ℕ) (from digits : List ℕ) → length digits ≡ n → HoldsBits n from → bits n from ≡ digits → (k i : ℕ) → i < 64 →
    bit_at (get_or from k 0) i ≡ get_or digits (k * 64 + i) 0
bits_in_word n from digits long h same k i low =
    let word : (k * 64 + i) / 64 ≡ k = omega arith in
    let place : (k * 64 + i) % 64 ≡ i = omega arith in
    sym (bit_of-word from (k * 64 + i) ∙ ap₂ (λ u v. bit_at (get_or from u 0) v) word place)
    ∙ elim (dec_lt (k * 64 + i) n) [
      | yes inside ↦ sym (get_or-bits n from (k * 64 + i) inside) ∙ ap (λ (d : List ℕ). get_or d (k * 64 + i) 0) same
      | no past ↦ h.unused (k * 64 + i) (omega (arith, past)) ∙ sym (get_or_past digits (k * 64 + i) 0 (omega (arith, past, long)))
    ]

-- ---- words of digits modulo 3

-- a plane modulo 3 is of trits
pub only_trits : (plane : Plane) → prime_of_plane plane ≡ 3 → ((x : List ℕ) → plane ≡ Trits x → ⊥) → ⊥
only_trits (Bits x) three none = absurd (omega (arith, three))
only_trits (Trits x) three none = none x refl
only_trits (Bytes x) three none = absurd (omega (arith, three, byte_prime-above x.prime))

-- ---- the entries that blocks have

module _ (o : Order) (len : ℕ) (blocks : List BitBlock) where
  pub length-entries_of_blocks : length (entries_of_blocks o len blocks) ≡ len
  unfolding entries_of_blocks
  length-entries_of_blocks = listed_length len (entry_of_blocks o blocks)

  entry-at : (e : ℕ) → e < len → get_or (entries_of_blocks o len blocks) e 0 ≡ entry_of_blocks o blocks e
  unfolding entries_of_blocks
  entry-at e inside = listed_at len (entry_of_blocks o blocks) e 0 inside

  module _ (unused : (e : ℕ) → len ≤ e → entry_of_blocks o blocks e ≡ 0) where
    any_entry : (e : ℕ) → get_or (entries_of_blocks o len blocks) e 0 ≡ entry_of_blocks o blocks e
    any_entry e = elim (dec_lt e len) [
      | yes inside ↦ entry-at e inside
      | no past ↦
          get_or_past (entries_of_blocks o len blocks) e 0 (omega (arith, past, length-entries_of_blocks))
          ∙ sym (unused e (omega (arith, past)))
    ]

    numbers_are : (k : ℕ) → elements_of_block o (block_at blocks k) ≡ entries_in_word (entries_of_blocks o len blocks) k
    numbers_are k =
        elements-are o (block_at blocks k) (entries_in_word (entries_of_blocks o len blocks) k)
        (length-entries_in_word (entries_of_blocks o len blocks) k) (λ i low.
        let word : (k * 64 + i) / 64 ≡ k = omega (arith, low) in
        let place : (k * 64 + i) % 64 ≡ i = omega (arith, low) in
        sym (element-at o (block_at blocks k) i low)
        ∙ sym (ap₂ (λ u v. get_or (elements_of_block o (block_at blocks u)) v 0) word place)
        ∙ sym (any_entry (k * 64 + i)) ∙ sym (entry_in_word (entries_of_blocks o len blocks) k i low))

-- the blocks of the row that is seen
pub block_of_row : (o : Order) (len : ℕ) (blocks : List BitBlock) (self : RowValue) → AreBlocksOfRow o len blocks →
    record { order = o; entries = entries_of_blocks o len blocks } ≡ self → (k : ℕ) →
    IsBlock self.order (entries_in_word self.entries k) (block_at blocks k)
block_of_row o len blocks self h view_is k =
    subst (λ (r : RowValue). IsBlock r.order (entries_in_word r.entries k) (block_at blocks k)) view_is
    (record { numbers = numbers_are o len blocks h.unused k; low = h.low k })

pub row_of_blocks : (o : Order) (len : ℕ) (blocks : List BitBlock) (self : RowValue) → AreBlocksOfRow o len blocks →
    record { order = o; entries = entries_of_blocks o len blocks } ≡ self → IsRow self
row_of_blocks o len blocks self h view_is = subst IsRow view_is (record { elements = h.elements })

pub length_of_blocks : (o : Order) (len : ℕ) (blocks : List BitBlock) (self : RowValue) →
    record { order = o; entries = entries_of_blocks o len blocks } ≡ self → length self.entries ≡ len
length_of_blocks o len blocks self view_is =
    sym (ap (λ (r : RowValue). length r.entries) view_is) ∙ length-entries_of_blocks o len blocks

pub characteristic_of_blocks : (o : Order) (len : ℕ) (blocks : List BitBlock) (self : RowValue) → AreBlocksOfRow o len blocks →
    record { order = o; entries = entries_of_blocks o len blocks } ≡ self → prime_of self.order ≤ 3
characteristic_of_blocks o len blocks self h view_is = subst (λ (r : RowValue). prime_of r.order ≤ 3) view_is h.characteristic

-- the block where there is none
nothing_there : (o : Order) → IsBlock o (replicate 64 0) (record { ones = 0; twos = 0; high_ones = 0; high_twos = 0 })
nothing_there o = zero_block o (record { ones = 0; twos = 0; high_ones = 0; high_twos = 0 }) refl refl refl refl

-- blocks that have the words of a row hold it
module _ (r : RowValue) (o : Order) (len : ℕ) (blocks : List BitBlock) (same : o ≡ r.order) (long : length r.entries ≡ len) (count : (len + 63) / 64 ≡ length blocks)
    (has : (k : ℕ) → k < length blocks → IsBlock r.order (entries_in_word r.entries k) (block_at blocks k)) where
  past_blocks : (k : ℕ) → length blocks ≤ k → IsBlock r.order (replicate 64 0) (block_at blocks k)
  past_blocks k past = subst (IsBlock r.order (replicate 64 0)) (sym (get_or_past blocks k _ past)) (nothing_there r.order)

  number_of_row : (e : ℕ) → entry_of_blocks r.order blocks e ≡ get_or r.entries e 0
  number_of_row e = elim (dec_lt (e / 64) (length blocks)) [
    | yes inside ↦
        let there : e / 64 * 64 + e % 64 ≡ e = omega arith in
        ap (λ (xs : List ℕ). get_or xs (e % 64) 0) (has (e / 64) inside).numbers ∙ entry_in_word r.entries (e / 64) (e % 64) (omega arith)
        ∙ ap (λ j. get_or r.entries j 0) there
    | no past ↦
        ap (λ (xs : List ℕ). get_or xs (e % 64) 0) (past_blocks (e / 64) (omega (arith, past))).numbers
        ∙ get_or-replicate {A = ℕ} 64 (e % 64) 0 0 (omega arith) ∙ sym (get_or_past r.entries e 0 (omega (arith, past, count, long)))
  ]

  entry_of_row : (e : ℕ) → entry_of_blocks o blocks e ≡ get_or r.entries e 0
  entry_of_row e = ap (λ q. entry_of_blocks q blocks e) same ∙ number_of_row e

  entries_are : entries_of_blocks o len blocks ≡ r.entries
  entries_are =
      ext_get_or 0 (entries_of_blocks o len blocks) r.entries (length-entries_of_blocks o len blocks ∙ sym long) (λ e inside.
      entry-at o len blocks e (omega (arith, inside, length-entries_of_blocks o len blocks)) ∙ entry_of_row e)

  low_of_row : (k i : ℕ) → i < 64 → low_at (block_at blocks k) i < weight_of r.order
  low_of_row k i low = elim (dec_lt k (length blocks)) [
    | yes inside ↦ (has k inside).low i low
    | no past ↦ (past_blocks k (omega (arith, past))).low i low
  ]

  pub held_row : record { order = o; entries = entries_of_blocks o len blocks } ≡ r
  held_row = same_row (record { order = o; entries = entries_of_blocks o len blocks }) r same entries_are

  pub blocks_hold : prime_of r.order ≤ 3 → IsRow r → AreBlocksOfRow o len blocks
  blocks_hold characteristic row = record {
    characteristic = subst (λ q. prime_of q ≤ 3) (sym same) characteristic;
    count = count;
    elements = subst (λ (x : RowValue). All (IsElement x.order) x.entries) (sym held_row) row.elements;
    unused = λ e past. entry_of_row e ∙ get_or_past r.entries e 0 (omega (arith, past, long));
    low = λ k i low. subst (λ q. low_at (block_at blocks k) i < weight_of q) (sym same) (low_of_row k i low);
  }

-- ---- elements in words

pub entry_element : (o : Order) (entries : List ℕ) → All (IsElement o) entries → (e d : ℕ) → IsElement o d → IsElement o (get_or entries e d)
entry_element o entries all e d small = elim (dec_lt e (length entries)) [
  | yes inside ↦ all e d inside
  | no past ↦ subst (IsElement o) (sym (get_or_past entries e d (omega (arith, past)))) small
]

pub word_elements : (o : Order) (entries : List ℕ) (k : ℕ) → All (IsElement o) entries → All (IsElement o) (entries_in_word entries k)
word_elements o entries k all i d inside =
    let low : i < 64 = omega (arith, inside, length-entries_in_word entries k) in
    subst (IsElement o) (sym (listed_at 64 (λ j. get_or entries (k * 64 + j) 0) i d low)) (entry_element o entries all (k * 64 + i) 0 (zero_is_element o))

pub found_element : (o : Order) (places entries : List ℕ) (k : ℕ) (none : Type 0) (found : Option (ℕ × ℕ)) → All (IsElement o) entries →
    MatchOption found none (λ x. IsNextEntry places (entries_in_word entries k) 0 x.0 x.1) → IfSome found (λ x. IsElement o x.1)
found_element o places entries k none None all h = tt
found_element o places entries k none (Some x) all h =
    subst (IsElement o) (sym h.entry_is) (entry_element o (entries_in_word entries k) (word_elements o entries k all) x.0 0 (zero_is_element o))

-- ---- sums and multiples

pub block_of_sum : (size scalar k : ℕ) (self other : RowValue) (block others sum : BitBlock) → order_number self.order ≡ size → prime_of self.order ≤ 3 →
    IsElement self.order scalar → other.order ≡ self.order → length other.entries ≡ length self.entries → IsRow self → IsRow other →
    IsBlock self.order (entries_in_word self.entries k) block → IsBlock other.order (entries_in_word other.entries k) others →
    IsBlockWithMultiple size scalar block others sum →
    IsBlock self.order (entries_in_word (row_with_multiple self scalar other).entries k) sum
block_of_sum size scalar k self other block others sum is characteristic element field fits row row' first second h =
    subst (λ (xs : List ℕ). IsBlock self.order xs sum) (sym (sum_in_word self.order self.entries other.entries scalar k fits element))
    (h self.order is characteristic element (entries_in_word self.entries k) (entries_in_word other.entries k) (word_elements self.order self.entries k row.elements)
    (word_elements self.order other.entries k (subst (λ o. All (IsElement o) other.entries) field row'.elements)) first
    (subst (λ o. IsBlock o (entries_in_word other.entries k) others) field second))

module _ (o : Order) (c : ℕ) (entries : List ℕ) (element : IsElement o c) where
  -- an entry of a multiple, and 0 past its end
  multiple_at : (j : ℕ) → get_or (multiple (number_field o) c entries) j 0 ≡ field_mul o c (get_or entries j 0)
  multiple_at j = elim (dec_lt j (length entries)) [
    | yes inside ↦ get_or-multiple_row o c entries j inside
    | no past ↦
        get_or_past (multiple (number_field o) c entries) j 0 (omega (arith, past, length-multiple (number_field o) c entries))
        ∙ sym (ap (field_mul o c) (get_or_past entries j 0 (omega (arith, past))) ∙ field_mul-zero o c element)
  ]

  -- a multiple is a sum with zeros
  multiple_in_word : (k : ℕ) → All (IsElement o) entries →
      sum_with_multiple (number_field o) (replicate 64 0) c (entries_in_word entries k) ≡ entries_in_word (multiple (number_field o) c entries) k
  multiple_in_word k all =
      ext_get_or 0 (sum_with_multiple (number_field o) (replicate 64 0) c (entries_in_word entries k)) (entries_in_word (multiple (number_field o) c entries) k)
      (length-sum_with_multiple (number_field o) (replicate 64 0) c (entries_in_word entries k) ∙ length-replicate {A = ℕ} 64 0
      ∙ sym (length-entries_in_word (multiple (number_field o) c entries) k))
      (λ i inside.
      let low : i < 64 = omega (arith, inside, length-sum_with_multiple (number_field o) (replicate 64 0) c (entries_in_word entries k), length-replicate {A = ℕ} 64 0) in
      let product : ℕ = field_mul o c (get_or entries (k * 64 + i) 0) in
      let small : IsElement o product = field_mul-below o c (get_or entries (k * 64 + i) 0) element (entry_element o entries all (k * 64 + i) 0 (zero_is_element o)) in
      get_or-row_with_multiple o (replicate 64 0) c (entries_in_word entries k) i (omega (arith, low, length-replicate {A = ℕ} 64 0))
      ∙ ap₂ (λ x y. field_add o x (field_mul o c y)) (get_or-replicate {A = ℕ} 64 i 0 0 low) (entry_in_word entries k i low)
      ∙ field_add_comm o 0 product (zero_is_element o) small ∙ field_add-zero o product small
      ∙ sym (multiple_at (k * 64 + i)) ∙ sym (entry_in_word (multiple (number_field o) c entries) k i low))

zero_elements_all : (o : Order) → All (IsElement o) (replicate 64 0)
zero_elements_all o = All-replicate (IsElement o) 64 0 (zero_is_element o)

pub block_of_multiple : (size factor scalar k : ℕ) (self : RowValue) (zeros block product : BitBlock) → order_number self.order ≡ size → prime_of self.order ≤ 3 →
    IsElement self.order scalar → IsRow self → IsBlock self.order (replicate 64 0) zeros → IsBlock self.order (entries_in_word self.entries k) block →
    factor ≡ scalar → IsBlockWithMultiple size factor zeros block product → IsBlock self.order (entries_in_word (multiple_row scalar self).entries k) product
block_of_multiple size factor scalar k self zeros block product is characteristic element row none first same h =
    subst (λ (xs : List ℕ). IsBlock self.order xs product) (multiple_in_word self.order scalar self.entries element k row.elements)
    (subst (λ s. IsBlockWithMultiple size s zeros block product) same h self.order is characteristic element (replicate 64 0) (entries_in_word self.entries k)
    (zero_elements_all self.order) (word_elements self.order self.entries k row.elements) none first)

-- a list of blocks of zeros
pub zeros_at : (o : Order) (W k : ℕ) (zeros : BitBlock) → IsBlock o (replicate 64 0) zeros → k < W → IsBlock o (replicate 64 0) (block_at (replicate W zeros) k)
zeros_at o W k zeros is low = subst (IsBlock o (replicate 64 0)) (sym (get_or-replicate {A = BitBlock} W k zeros _ low)) is

-- blocks of a row, of which one is given
pub blocks_with_block : (o : Order) (W at : ℕ) (others : List BitBlock) (block : BitBlock) (entries : List ℕ) → length others ≡ W → at < W →
    ((k : ℕ) → k < W → IsBlock o (entries_in_word entries k) (block_at others k)) → IsBlock o (entries_in_word entries at) block →
    (k : ℕ) → k < W → IsBlock o (entries_in_word entries k) (block_at (set others at block) k)
blocks_with_block o W at others block entries long inside has is k low = elim (cases_eq k at) [
  | inl same ↦
      subst (λ j. IsBlock o (entries_in_word entries j) (block_at (set others at block) j)) (sym same)
      (subst (IsBlock o (entries_in_word entries at)) (sym (get_or-set_same others at block _ (omega (arith, long, inside)))) is)
  | inr other ↦ subst (IsBlock o (entries_in_word entries k)) (sym (get_or-set_other others at k block _ other)) (has k low)
]

-- words at which the other row is 0 stay
word_stays : (self other : RowValue) (scalar k n : ℕ) → IsElement self.order scalar → IsRow self → AreZerosBefore other.entries (n * 64) → k < n →
    entries_in_word (row_with_multiple self scalar other).entries k ≡ entries_in_word self.entries k
word_stays self other scalar k n element row zeros below =
    ext_get_or 0 (entries_in_word sum k) (entries_in_word self.entries k) (length-entries_in_word sum k ∙ sym (length-entries_in_word self.entries k)) (λ i inside.
    let low : i < 64 = omega (arith, inside, length-entries_in_word sum k) in
    entry_in_word sum k i low ∙ stays (k * 64 + i) (omega (arith, low, below)) ∙ sym (entry_in_word self.entries k i low))
  where
    o : Order
    o = self.order

    sum : List ℕ
    sum = (row_with_multiple self scalar other).entries

    stays : (j : ℕ) → j < n * 64 → get_or (row_with_multiple self scalar other).entries j 0 ≡ get_or self.entries j 0
    stays j before = elim (dec_lt j (length self.entries)) [
      | yes inside ↦
          get_or-row_with_multiple self.order self.entries scalar other.entries j inside
          ∙ ap (field_add self.order (get_or self.entries j 0)) (ap (field_mul self.order scalar) (zeros j before) ∙ field_mul-zero self.order scalar element)
          ∙ field_add-zero self.order (get_or self.entries j 0) (row.elements j 0 inside)
      | no past ↦
          get_or_past (row_with_multiple self scalar other).entries j 0
          (omega (arith, past, length-sum_with_multiple (number_field self.order) self.entries scalar other.entries))
          ∙ sym (get_or_past self.entries j 0 (omega (arith, past)))
    ]

pub block_stays : (self other : RowValue) (scalar k n : ℕ) (before after : BitBlock) → IsElement self.order scalar → IsRow self →
    AreZerosBefore other.entries (n * 64) → k < n → after ≡ before → IsBlock self.order (entries_in_word self.entries k) before →
    IsBlock self.order (entries_in_word (row_with_multiple self scalar other).entries k) after
block_stays self other scalar k n before after element row zeros below same is =
    subst (IsBlock self.order (entries_in_word (row_with_multiple self scalar other).entries k)) (sym same)
    (subst (λ (xs : List ℕ). IsBlock self.order xs before) (sym (word_stays self other scalar k n element row zeros below)) is)

-- x, whose number is the prime, is an element of a field that is not prime
pub x_is_element : (o : Order) → degree_of o ≢ 1 → IsElement o (prime_of o)
x_is_element Two higher = absurd (higher refl)
x_is_element Three higher = absurd (higher refl)
x_is_element Four higher = lit< tt
x_is_element Five higher = absurd (higher refl)
x_is_element Seven higher = absurd (higher refl)
x_is_element Eight higher = lit< tt
x_is_element Nine higher = lit< tt

-- ---- the words of the planes of a row

pub no_bit : (w k i : ℕ) → bit_at (get_or (replicate w 0) k 0) i ≡ 0
no_bit w k i = ap (λ x. bit_at x i) (get_or-zeros w k) ∙ bit_at-zero i

-- words of zeros have the digits of a plane that has none
module _ (plane : Plane) (w k i : ℕ) (none : length (digits_of plane) ≡ 0) where
  pub no_bits : bit_at (get_or (replicate w 0) k 0) i ≡ get_or (digits_of plane) (k * 64 + i) 0
  no_bits = no_bit w k i ∙ sym (get_or_past (digits_of plane) (k * 64 + i) 0 (omega (arith, none)))

  pub no_trits : bit_at (get_or (replicate w 0) k 0) i + 2 * bit_at (get_or (replicate w 0) k 0) i ≡ get_or (digits_of plane) (k * 64 + i) 0
  no_trits = omega (arith, no_bit w k i, get_or_past (digits_of plane) (k * 64 + i) 0 (omega (arith, none)))

-- where no power of x but these is there
pub four_has_no_square : (o : Order) → order_number o ≡ 4 → degree_of o ≢ 3
four_has_no_square Two four = absurd (omega (arith, four))
four_has_no_square Three four = absurd (omega (arith, four))
four_has_no_square Four four = λ three. omega (arith, three)
four_has_no_square Five four = absurd (omega (arith, four))
four_has_no_square Seven four = absurd (omega (arith, four))
four_has_no_square Eight four = absurd (omega (arith, four))
four_has_no_square Nine four = absurd (omega (arith, four))

-- over a field of characteristic 3 there is no power of x from x^2 on
pub degree_over_three : (o : Order) → prime_of o ≡ 3 → degree_of o ≤ 2
degree_over_three Two three = omega arith
degree_over_three Three three = omega arith
degree_over_three Four three = omega arith
degree_over_three Five three = omega arith
degree_over_three Seven three = omega arith
degree_over_three Eight three = absurd (omega (arith, three))
degree_over_three Nine three = omega arith

pub three_has_no_square : (o : Order) → prime_of o ≡ 3 → degree_of o ≢ 3
three_has_no_square o three = λ square. omega (arith, degree_over_three o three, square)

pub degree_of_three : (o : Order) → order_number o ≡ 3 → degree_of o ≡ 1
degree_of_three Two three = absurd (omega arith)
degree_of_three Three three = refl
degree_of_three Four three = absurd (omega arith)
degree_of_three Five three = absurd (omega arith)
degree_of_three Seven three = absurd (omega arith)
degree_of_three Eight three = absurd (omega arith)
degree_of_three Nine three = absurd (omega arith)

-- the characteristic that the number of elements tells, as the code finds it
pub three_of_size : (o : Order) (size : ℕ) → order_number o ≡ size → (size ≡ 3) ⊎ ((size ≢ 3) × (size ≡ 9)) → prime_of o ≡ 3
three_of_size o size is (inl three) = of_three o (is ∙ three)
  where
    of_three : (o : Order) → order_number o ≡ 3 → prime_of o ≡ 3
    of_three Two three = absurd (omega arith)
    of_three Three three = refl
    of_three Four three = absurd (omega arith)
    of_three Five three = absurd (omega arith)
    of_three Seven three = absurd (omega arith)
    of_three Eight three = absurd (omega arith)
    of_three Nine three = absurd (omega arith)
three_of_size o size is (inr nine) = three_of_nine o (is ∙ nine.1)

pub two_of_size : (o : Order) (size : ℕ) → order_number o ≡ size → size ≢ 3 → size ≢ 9 → prime_of o ≤ 3 → prime_of o ≡ 2
two_of_size Two size is not_three not_nine low = refl
two_of_size Three size is not_three not_nine low = absurd (not_three (sym is))
two_of_size Four size is not_three not_nine low = refl
two_of_size Five size is not_three not_nine low = absurd (omega (arith, low))
two_of_size Seven size is not_three not_nine low = absurd (omega (arith, low))
two_of_size Eight size is not_three not_nine low = refl
two_of_size Nine size is not_three not_nine low = absurd (not_nine (sym is))

-- all are there over eight elements
pub square_is_there : (o : Order) (n : ℕ) → order_number o ≢ 2 → order_number o ≢ 4 → prime_of o ≡ 2 → cond (ltb 2 (degree_of o)) n 0 ≡ n
square_is_there Two n not_two not_four even = absurd (not_two refl)
square_is_there Three n not_two not_four even = absurd (omega (arith, even))
square_is_there Four n not_two not_four even = absurd (not_four refl)
square_is_there Five n not_two not_four even = absurd (omega (arith, even))
square_is_there Seven n not_two not_four even = absurd (omega (arith, even))
square_is_there Eight n not_two not_four even = refl
square_is_there Nine n not_two not_four even = absurd (omega (arith, even))

-- the block that four words make
pub block_of_words : (o : Order) (block : BitBlock) (a b c d : ℕ) (entries : List ℕ) → block ≡ record { ones = a; twos = b; high_ones = c; high_twos = d } →
    IsBlock o entries (record { ones = a; twos = b; high_ones = c; high_twos = d }) → IsBlock o entries block
block_of_words o block a b c d entries same is = subst (IsBlock o entries) (sym same) is

pub as_many_words : (a b w : ℕ) → (a + 63) / 64 ≡ w → b ≡ a → (b + 63) / 64 ≡ w
as_many_words a b w count same = ap (λ x. (x + 63) / 64) same ∙ count

-- ---- sums and multiples are rows

pub sum_is_row : (self other : RowValue) (scalar : ℕ) → IsElement self.order scalar → other.order ≡ self.order → IsRow self → IsRow other →
    IsRow (row_with_multiple self scalar other)
sum_is_row self other scalar element field row row' =
    let o : Order = self.order in
    let sum : List ℕ = sum_with_multiple (number_field o) self.entries scalar other.entries in
    let all : All (IsElement o) other.entries = subst (λ q. All (IsElement q) other.entries) field row'.elements in
    record {
      elements = All-from_get_or (IsElement o) sum 0 (λ j inside.
          let within : j < length self.entries = omega (arith, inside, length-sum_with_multiple (number_field o) self.entries scalar other.entries) in
          subst (IsElement o) (sym (get_or-row_with_multiple o self.entries scalar other.entries j within))
          (field_add-below o _ _ (entry_element o self.entries row.elements j 0 (zero_is_element o))
          (field_mul-below o scalar _ element (entry_element o other.entries all j 0 (zero_is_element o)))));
    }

pub multiple_is_row : (self : RowValue) (scalar : ℕ) → IsElement self.order scalar → IsRow self → IsRow (multiple_row scalar self)
multiple_is_row self scalar element row =
    let o : Order = self.order in
    record {
      elements = All-from_get_or (IsElement o) (multiple (number_field o) scalar self.entries) 0 (λ j inside.
          let within : j < length self.entries = omega (arith, inside, length-multiple (number_field o) scalar self.entries) in
          subst (IsElement o) (sym (get_or-multiple_row o scalar self.entries j within))
          (field_mul-below o scalar _ element (entry_element o self.entries row.elements j 0 (zero_is_element o))));
    }

-- ---- blocks that are made of words

-- so many blocks, of which those below n have the words of four lists
pub record HaveWordsBelow (count n : ℕ) (u v w z : List ℕ) (blocks : List BitBlock) : Type 0 where
  pub as_many : length blocks ≡ count
  pub words : (k : ℕ) → k < n → block_at blocks k ≡ record { ones = get_or u k 0; twos = get_or v k 0; high_ones = get_or w k 0; high_twos = get_or z k 0 }

pub HaveWordsBelow-more : (count n : ℕ) (u v w z : List ℕ) (blocks : List BitBlock) → HaveWordsBelow count n u v w z blocks → n < count →
    HaveWordsBelow count (n + 1) u v w z
    (set blocks n (record { ones = get_or u n 0; twos = get_or v n 0; high_ones = get_or w n 0; high_twos = get_or z n 0 }))
HaveWordsBelow-more count n u v w z blocks h below = record {
  as_many = length-set blocks n _ ∙ h.as_many;
  words = below_more _ _
      (λ k lower. let other : k ≢ n = omega arith in get_or-set_other blocks n k _ _ other ∙ h.words k lower)
      (get_or-set_same blocks n _ _ (omega (arith, below, h.as_many)));
}

-- two lists of so many words, those below n being the words of two others
pub record HaveLayersBelow (count n : ℕ) (from_ones from_twos ones twos : List ℕ) : Type 0 where
  pub many_ones : length ones ≡ count
  pub many_twos : length twos ≡ count
  pub same_ones : (k : ℕ) → k < n → get_or ones k 0 ≡ get_or from_ones k 0
  pub same_twos : (k : ℕ) → k < n → get_or twos k 0 ≡ get_or from_twos k 0

pub HaveLayersBelow-more : (count n : ℕ) (from_ones from_twos ones twos : List ℕ) → HaveLayersBelow count n from_ones from_twos ones twos → n < count →
    HaveLayersBelow count (n + 1) from_ones from_twos (set ones n (get_or from_ones n 0)) (set twos n (get_or from_twos n 0))
HaveLayersBelow-more count n from_ones from_twos ones twos h below = record {
  many_ones = length-set ones n _ ∙ h.many_ones;
  many_twos = length-set twos n _ ∙ h.many_twos;
  same_ones = below_more _ _
      (λ k lower. let other : k ≢ n = omega arith in get_or-set_other ones n k _ _ other ∙ h.same_ones k lower)
      (get_or-set_same ones n _ _ (omega (arith, below, h.many_ones)));
  same_twos = below_more _ _
      (λ k lower. let other : k ≢ n = omega arith in get_or-set_other twos n k _ _ other ∙ h.same_twos k lower)
      (get_or-set_same twos n _ _ (omega (arith, below, h.many_twos)));
}
