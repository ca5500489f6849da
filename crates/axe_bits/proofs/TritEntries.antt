-- Entries of tables of digits modulo 3, in two tables of bits: what they are after a multiple of a plane was added.
use Rattle.std.proofs.Common.{◌≡◌, ℕ, ◌+◌, ◌-◌, ◌*◌, ◌<◌, ◌≤◌, List, [], ◌++◌, length, get_or, set, take, drop, sym, ap, ap₂, subst, ◌∙◌, arith, lit<}
use Rattle.std.proofs.lemmas.List.{set-get_or}
use Rattle.std.specs.Simd.Lanes.{put_chunk}
use Rattle.axe_lane.specs.Trits.{IsTritSum}
use Rattle.axe_layer.specs.Bits.{bits, HoldsBits}
use Rattle.axe_lane.specs.Bytes.{AreDigits}
use Rattle.axe_layer.specs.Digits.{digits_with_multiple}
use Rattle.axe_bits.specs.FlatTables.{bit_entries, HoldsEntries}
use Rattle.axe_bits.specs.Trits.{trits, trit_entries, HoldLayers, HoldTrits, HoldTritEntries}
use Rattle.axe_layer.proofs.DigitLaws.{digits_with_multiple-none}
use Rattle.axe_bits.proofs.PieceLaws.{written_piece}
use Rattle.axe_bits.proofs.TableLaws.{bit_index, bit_entry-long, bit_entries-after, entries_held, entry_words, AreWordsOf}
use Rattle.axe_bits.proofs.TritLaws.{length-trits}
use Rattle.axe_bits.proofs.TritPlaneLaws.{trits_below}
use Rattle.axe_bits.proofs.TritTables.{trit_index, trit_entry-at, trit_entries-set, HoldTritEntries-set}
use Rattle.axe_bits.proofs.TritWords.{layers_of_planes, layers_of_sum, digits_of_sum, twice_layers}

-- ---- one table of bits

-- the words of a table after those of a plane took the place of an entry
record IsWritten (n w count : ℕ) (words : List ℕ) (self : List (List ℕ)) (to : ℕ) (new : List ℕ) : Type 0 where
  pub held : HoldsEntries n w count words
  pub entries : bit_entries n w count words ≡ set self to (bits (length (get_or self to [])) new)

-- the words v of a vector that has those of before, after w others took the place of those from an index on
abbrev with_piece : (k start w : ℕ) (v new before : List ℕ) → List ℕ
with_piece k start w v new before =
    take k ((take start v ++ (new ++ drop (start + w - start) (drop start v)))
    ++ drop (length (take start v ++ (new ++ drop (start + w - start) (drop start v)))) before)

written_entry : (n w count to start k : ℕ) (words v : List ℕ) (self : List (List ℕ)) (new : List ℕ) →
    HoldsEntries n w count words →
    bit_entries n w count words ≡ self → to < length self → HoldsBits (length (get_or self to [])) new →
    v ≡ words → k ≡ length words → start ≡ to * w → start + w ≤ count * w →
    IsWritten n w count (with_piece k start w v new words) self to new
written_entry n w count to start k words v self new h is inside holds same all at room =
    subst (λ (z : List ℕ). IsWritten n w count z self to new) (sym piece) (record {
      held = entries_held n w count to words new below h fits;
      entries =
          bit_entries-after n w count to words new below h fits ∙ ap (λ (s : List (List ℕ)). set s to (bits n new)) is
          ∙ ap (λ m. set self to (bits m new)) (sym long);
    })
  where
    below : to < count
    below = bit_index n w count to words self is inside

    long : length (get_or self to []) ≡ n
    long = bit_entry-long n w count to words self is inside

    fits : HoldsBits n new
    fits = subst (λ m. HoldsBits m new) long holds

    piece : with_piece k start w v new words ≡ put_chunk (to * w) words new
    piece =
        written_piece k start w v words new same all (omega (arith, h.long)) (fits.long ∙ sym h.wide)
        ∙ ap (λ s. put_chunk s words new) at

-- ---- two tables, to an entry of which two layers are added

-- the words of the layers at one index go together
pub layers_of_entry : (ones twos : List (List ℕ)) (x : ℕ) (o t : List ℕ) → HoldTritEntries ones twos → x < length ones →
    AreWordsOf ones x o → AreWordsOf twos x t → HoldLayers (length (get_or ones x [])) o t
layers_of_entry ones twos x o t h below mine other =
    layers_of_planes _ _ o t _ _ mine.holds other.holds mine.digits other.digits (h.held x below)

-- the index is one of the other table
pub other_index : (ones twos : List (List ℕ)) (x : ℕ) → HoldTritEntries ones twos → x < length ones → x < length twos
other_index ones twos x h below = omega (arith, h.as_many)

module _ (ones twos : List (List ℕ)) (to : ℕ) (o t a b p q : List ℕ) (h : HoldTritEntries ones twos)
    (below : to < length ones) (mine : AreWordsOf ones to o) (other : AreWordsOf twos to t)
    (more : HoldLayers (length (get_or ones to [])) a b)
    (sum : IsTritSum o t a b p q) where
  abbrev n : ℕ
  n = length (get_or ones to [])

  abbrev m : ℕ
  m = length (get_or twos to [])

  same : m ≡ n
  same = (h.held to below).as_long

  row : HoldLayers n o t
  row = layers_of_entry ones twos to o t h below mine other

  whole : HoldLayers n p q
  whole = layers_of_sum n o t a b p q row more sum

  ones_of_entry : HoldsBits (length (get_or ones to [])) p
  ones_of_entry = whole.ones_held

  twos_of_entry : HoldsBits (length (get_or twos to [])) q
  twos_of_entry = subst (λ k. HoldsBits k q) (sym same) whole.twos_held

  together : HoldTrits (bits n p) (bits m q)
  together = subst (λ k. HoldTrits (bits n p) (bits k q)) (sym same) whole.together

  digits : trits (bits n p) (bits m q)
      ≡ digits_with_multiple 3 (get_or (trit_entries ones twos) to []) 1 (trits (bits n a) (bits n b))
  digits =
      ap (λ k. trits (bits n p) (bits k q)) same ∙ digits_of_sum n o t a b p q row more sum
      ∙ ap₂ (λ (i j : List ℕ). digits_with_multiple 3 (trits i j) 1 (trits (bits n a) (bits n b))) mine.digits
      (ap (λ k. bits k t) (sym same) ∙ other.digits)
      ∙ ap (λ (l : List ℕ). digits_with_multiple 3 l 1 (trits (bits n a) (bits n b)))
      (sym (trit_entry-at ones twos to below))

  entries_of_sum : (u v : List (List ℕ)) → u ≡ set ones to (bits (length (get_or ones to [])) p) →
      v ≡ set twos to (bits (length (get_or twos to [])) q) → HoldTritEntries u v
  entries_of_sum u v us vs = rw (us, vs) (HoldTritEntries-set ones twos h to _ _ below together)

  digits_of_entries : (u v : List (List ℕ)) → u ≡ set ones to (bits (length (get_or ones to [])) p) →
      v ≡ set twos to (bits (length (get_or twos to [])) q) →
      trit_entries u v ≡ set (trit_entries ones twos) to
      (digits_with_multiple 3 (get_or (trit_entries ones twos) to []) 1
      (trits (bits (length (get_or ones to [])) a) (bits (length (get_or ones to [])) b)))
  digits_of_entries u v us vs =
      ap₂ trit_entries us vs ∙ trit_entries-set ones twos h to _ _ below ∙ ap (set (trit_entries ones twos) to) digits

-- the words p and q of both tables after the sum, where the tables had these entries
pub record AreAddedEntries (n w count m u many : ℕ) (p q : List ℕ) (ones twos : List (List ℕ)) (to : ℕ)
    (a b : List ℕ) : Type 0 where
  pub ones_held : HoldsEntries n w count p
  pub twos_held : HoldsEntries m u many q
  pub together : HoldTritEntries (bit_entries n w count p) (bit_entries m u many q)
  pub digits : trit_entries (bit_entries n w count p) (bit_entries m u many q) ≡ set (trit_entries ones twos) to
      (digits_with_multiple 3 (get_or (trit_entries ones twos) to []) 1
      (trits (bits (length (get_or ones to [])) a) (bits (length (get_or ones to [])) b)))

pub added_entries : (n w count m u many to start second k l : ℕ) (o t v z p q a b : List ℕ)
    (ones twos : List (List ℕ)) → HoldsEntries n w count o → HoldsEntries m u many t → bit_entries n w count o ≡ ones →
    bit_entries m u many t ≡ twos → HoldTritEntries ones twos → to < length ones →
    HoldLayers (length (get_or ones to [])) a b → v ≡ o → z ≡ t → k ≡ length o → l ≡ length t →
    start ≡ to * w → start + w ≤ count * w → second ≡ to * u → second + u ≤ many * u →
    IsTritSum (take (start + w - start) (drop start v)) (take (second + u - second) (drop second z)) a b p q →
    AreAddedEntries n w count m u many (with_piece k start w v p o) (with_piece l second u z q t) ones twos to a b
added_entries n w count m u many to start second k l o t v z p q a b ones twos ho ht os ts h below more vo zt ko lt
    start_at start_room second_at second_room sum =
    record {
      ones_held = first.held;
      twos_held = other.held;
      together = entries_of_sum ones twos to _ _ a b p q h below mine its more sum _ _ first.entries other.entries;
      digits = digits_of_entries ones twos to _ _ a b p q h below mine its more sum _ _ first.entries other.entries;
    }
  where
    there : to < length twos
    there = other_index ones twos to h below

    mine : AreWordsOf ones to (take (start + w - start) (drop start v))
    mine = entry_words n w count to start o v ones ho os below start_at vo

    its : AreWordsOf twos to (take (second + u - second) (drop second z))
    its = entry_words m u many to second t z twos ht ts there second_at zt

    first : IsWritten n w count (with_piece k start w v p o) ones to p
    first =
        written_entry n w count to start k o v ones p ho os below
        (ones_of_entry ones twos to _ _ a b p q h below mine its more sum) vo ko start_at start_room

    other : IsWritten m u many (with_piece l second u z q t) twos to q
    other =
        written_entry m u many to second l t z twos q ht ts there
        (twos_of_entry ones twos to _ _ a b p q h below mine its more sum) zt lt second_at second_room

-- ---- an entry of digits

-- how long an entry is
pub trit_entry-long : (a b self : List (List ℕ)) (x : ℕ) → trit_entries a b ≡ self → x < length self →
    length (get_or self x []) ≡ length (get_or a x [])
trit_entry-long a b self x is inside =
    ap (λ (s : List (List ℕ)). length (get_or s x [])) (sym is)
    ∙ ap length (trit_entry-at a b x (trit_index a b self x is inside)) ∙ length-trits (get_or a x []) (get_or b x [])

-- which digits it has
pub trit_entry-below : (a b self : List (List ℕ)) (x : ℕ) → HoldTritEntries a b → trit_entries a b ≡ self →
    x < length self → AreDigits 3 (get_or self x [])
trit_entry-below a b self x h is inside =
    let below = trit_index a b self x is inside in
    trits_below (get_or a x []) (get_or b x []) (get_or self x []) (h.held x below)
    (sym (trit_entry-at a b x below) ∙ ap (λ (s : List (List ℕ)). get_or s x []) is)

-- the digits that the words of an entry's layers hold
pub digits_of_entry : (ones twos self : List (List ℕ)) (x : ℕ) (o t : List ℕ) → HoldTritEntries ones twos →
    trit_entries ones twos ≡ self → x < length self → AreWordsOf ones x o → AreWordsOf twos x t →
    trits (bits (length (get_or self x [])) o) (bits (length (get_or self x [])) t) ≡ get_or self x []
digits_of_entry ones twos self x o t h is inside mine other =
    let below = trit_index ones twos self x is inside in
    let long = trit_entry-long ones twos self x is inside in
    ap₂ trits (ap (λ n. bits n o) long ∙ mine.digits)
    (ap (λ n. bits n t) (long ∙ sym (h.held x below).as_long) ∙ other.digits)
    ∙ sym (trit_entry-at ones twos x below) ∙ ap (λ (s : List (List ℕ)). get_or s x []) is

-- ---- a multiple of a plane added to an entry

-- no multiple changes nothing
pub none_added : (ones twos self : List (List ℕ)) (to factor : ℕ) (plane : List ℕ) → HoldTritEntries ones twos →
    trit_entries ones twos ≡ self → to < length self → factor ≡ 0 →
    self ≡ set self to (digits_with_multiple 3 (get_or self to []) factor plane)
none_added ones twos self to factor plane h is inside none =
    sym (set-get_or self to [])
    ∙ ap (set self to)
    (digits_with_multiple-none 3 (get_or self to []) factor plane (lit< tt) none
    (trit_entry-below ones twos self to h is inside))

-- two layers of the plane's length are of the entry's
pub layers_for_entry : (ones twos self : List (List ℕ)) (to : ℕ) (plane a b : List ℕ) → trit_entries ones twos ≡ self →
    to < length self → length plane ≡ length (get_or self to []) → HoldLayers (length plane) a b →
    HoldLayers (length (get_or ones to [])) a b
layers_for_entry ones twos self to plane a b is inside fits held =
    subst (λ n. HoldLayers n a b) (fits ∙ trit_entry-long ones twos self to is inside) held

module _ (ones twos self new : List (List ℕ)) (to factor : ℕ) (plane : List ℕ) (is : trit_entries ones twos ≡ self)
    (inside : to < length self) (fits : length plane ≡ length (get_or self to [])) where
  as_long : length plane ≡ length (get_or ones to [])
  as_long = fits ∙ trit_entry-long ones twos self to is inside

  added : (a b : List ℕ) →
      new ≡ set (trit_entries ones twos) to (digits_with_multiple 3 (get_or (trit_entries ones twos) to []) 1
      (trits (bits (length (get_or ones to [])) a) (bits (length (get_or ones to [])) b))) →
      new ≡ set self to
      (digits_with_multiple 3 (get_or self to []) 1 (trits (bits (length plane) a) (bits (length plane) b)))
  added a b e =
      e
      ∙ ap (λ (s : List (List ℕ)). set s to (digits_with_multiple 3 (get_or s to []) 1
      (trits (bits (length (get_or ones to [])) a) (bits (length (get_or ones to [])) b)))) is
      ∙ ap (λ n. set self to (digits_with_multiple 3 (get_or self to []) 1 (trits (bits n a) (bits n b)))) (sym as_long)

  pub once_added : (a b : List ℕ) → trits (bits (length plane) a) (bits (length plane) b) ≡ plane → 1 ≡ factor →
      new ≡ set (trit_entries ones twos) to (digits_with_multiple 3 (get_or (trit_entries ones twos) to []) 1
      (trits (bits (length (get_or ones to [])) a) (bits (length (get_or ones to [])) b))) →
      new ≡ set self to (digits_with_multiple 3 (get_or self to []) factor plane)
  once_added a b digits once e =
      added a b e ∙ ap (λ (l : List ℕ). set self to (digits_with_multiple 3 (get_or self to []) 1 l)) digits
      ∙ ap (λ m. set self to (digits_with_multiple 3 (get_or self to []) m plane)) once

  -- the layers exchanged are twice the plane
  pub twice_added : (a b : List ℕ) → trits (bits (length plane) a) (bits (length plane) b) ≡ plane → 2 ≡ factor →
      new ≡ set (trit_entries ones twos) to (digits_with_multiple 3 (get_or (trit_entries ones twos) to []) 1
      (trits (bits (length (get_or ones to [])) b) (bits (length (get_or ones to [])) a))) →
      new ≡ set self to (digits_with_multiple 3 (get_or self to []) factor plane)
  twice_added a b digits twice e =
      added b a e ∙ ap (set self to) (twice_layers (length plane) (get_or self to []) a b (sym fits))
      ∙ ap (λ (l : List ℕ). set self to (digits_with_multiple 3 (get_or self to []) 2 l)) digits
      ∙ ap (λ m. set self to (digits_with_multiple 3 (get_or self to []) m plane)) twice
