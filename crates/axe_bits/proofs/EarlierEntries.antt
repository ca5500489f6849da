-- Tables of planes of bits in one flat list that is cut in front of an entry: that entry, and an earlier one.
use Rattle.std.proofs.Common.{◌≡◌, ℕ, ◌+◌, ◌-◌, ◌*◌, ◌<◌, ◌≤◌, List, [], ◌++◌, length, get_or, set, take, drop, refl, sym, ap, ap₂, subst, ◌∙◌, arith}
use Rattle.std.specs.Simd.Lanes.{chunk}
use Rattle.std.proofs.lemmas.Nat.{mul-le}
use Rattle.axe_lane.specs.Trits.{IsTritSum}
use Rattle.axe_layer.specs.Bits.{bits}
use Rattle.axe_layer.specs.Digits.{digits_with_multiple}
use Rattle.axe_bits.specs.FlatTables.{bit_entries, HoldsEntries}
use Rattle.axe_bits.specs.Trits.{trits, trit_entries, HoldLayers, HoldTritEntries}
use Rattle.axe_bits.proofs.PieceLaws.{piece_before}
use Rattle.axe_bits.proofs.TableLaws.{bit_entry-long, entry_words, AreWordsOf}
use Rattle.axe_bits.proofs.TritTables.{length-trit_entries}
use Rattle.axe_bits.proofs.TritEntries.{AreAddedEntries, added_entries, digits_of_entry, layers_of_entry, trit_entry-long}

-- the words of a table, cut where an entry begins, and where an earlier one does
pub record IsCut (n w count from to source start k : ℕ) (words v front back : List ℕ) (self : List (List ℕ)) : Type 0 where
  pub held : HoldsEntries n w count words
  pub view_is : bit_entries n w count words ≡ self
  pub within : to < length self
  pub earlier : from < to
  pub same : v ≡ words
  pub all : k ≡ length words
  pub source_is : source ≡ from * w
  pub start_is : start ≡ to * w
  pub room : start + w ≤ count * w
  pub front_is : front ≡ take start v
  pub back_is : back ≡ drop start v

module _ (n w count from to source start k : ℕ) (words v front back : List ℕ) (self : List (List ℕ))
    (cut : IsCut n w count from to source start k words v front back self) where
  pub before : source + w ≤ start
  before =
      omega (arith, cut.source_is, cut.start_is, mul-le (from + 1) w to w (omega (arith, cut.earlier)) (omega arith))

  -- the piece that is the earlier entry
  pub earlier_piece : take (source + w - source) (drop source front) ≡ chunk (from * w) w words
  earlier_piece =
      piece_before start source w v words front cut.same cut.front_is before (omega (arith, cut.room, cut.held.long))
      ∙ ap (λ s. chunk s w words) cut.source_is

  pub earlier_inside : from < length self
  earlier_inside = omega (arith, cut.earlier, cut.within)

  pub earlier_words : AreWordsOf self from (take (source + w - source) (drop source front))
  earlier_words =
      let wide : source + w - source ≡ w = omega arith in
      subst (AreWordsOf self from)
      (ap (λ m. take m (drop source words)) wide ∙ ap (λ s. chunk s w words) cut.source_is ∙ sym earlier_piece)
      (entry_words n w count from source words words self cut.held cut.view_is earlier_inside cut.source_is refl)

  pub own_words : AreWordsOf self to (take w back)
  own_words =
      let wide : start + w - start ≡ w = omega arith in
      subst (AreWordsOf self to) (ap (λ m. take m (drop start v)) wide ∙ ap (take w) (sym cut.back_is))
      (entry_words n w count to start words v self cut.held cut.view_is cut.within cut.start_is cut.same)

  -- the entries are of one length
  pub lengths : length (get_or self from []) ≡ length (get_or self to [])
  lengths =
      bit_entry-long n w count from words self cut.view_is earlier_inside
      ∙ sym (bit_entry-long n w count to words self cut.view_is cut.within)

  -- the words of the whole, put together at the cut
  pub rejoined : (new : List ℕ) →
      take k ((take start v ++ (new ++ drop (start + w - start) (drop start v)))
      ++ drop (length (take start v ++ (new ++ drop (start + w - start) (drop start v)))) words)
      ≡ take k ((front ++ (new ++ drop w back)) ++ drop (length (front ++ (new ++ drop w back))) words)
  rejoined new =
      let wide : start + w - start ≡ w = omega arith in
      let whole : List ℕ → List ℕ = λ after. take k (after ++ drop (length after) words) in
      ap whole (ap (λ m. take start v ++ (new ++ drop m (drop start v))) wide
      ∙ ap₂ (λ (f b : List ℕ). f ++ (new ++ drop w b)) (sym cut.front_is) (sym cut.back_is))

-- ---- two tables of layers

-- the words of both tables after the layers of an earlier entry were added to an entry
pub record AreAddedLater (n w count m u many from to : ℕ) (p q : List ℕ) (ones twos : List (List ℕ)) : Type 0 where
  pub ones_held : HoldsEntries n w count p
  pub twos_held : HoldsEntries m u many q
  pub together : HoldTritEntries (bit_entries n w count p) (bit_entries m u many q)
  pub digits : trit_entries (bit_entries n w count p) (bit_entries m u many q)
      ≡ set (trit_entries ones twos) to
      (digits_with_multiple 3 (get_or (trit_entries ones twos) to []) 1 (get_or (trit_entries ones twos) from []))

module _ (n w count m u many from to one two to_one to_two k l : ℕ) (o t v z fo bo ft bt : List ℕ)
    (ones twos : List (List ℕ)) (h : HoldTritEntries ones twos)
    (c : IsCut n w count from to one to_one k o v fo bo ones)
    (d : IsCut m u many from to two to_two l t z ft bt twos) where
  abbrev a : List ℕ
  a = take (one + w - one) (drop one fo)

  abbrev b : List ℕ
  b = take (two + u - two) (drop two ft)

  inside : from < length ones
  inside = omega (arith, c.earlier, c.within)

  pub own_layers : HoldLayers (length (get_or ones to [])) (take w bo) (take u bt)
  own_layers =
      layers_of_entry ones twos to _ _ h c.within
      (own_words n w count from to one to_one k o v fo bo ones c)
      (own_words m u many from to two to_two l t z ft bt twos d)

  pub earlier_layers : HoldLayers (length (get_or ones from []))
      (take (one + w - one) (drop one fo)) (take (two + u - two) (drop two ft))
  earlier_layers =
      layers_of_entry ones twos from _ _ h inside
      (earlier_words n w count from to one to_one k o v fo bo ones c)
      (earlier_words m u many from to two to_two l t z ft bt twos d)

  pub added_later : (p q : List ℕ) →
      IsTritSum (take w bo) (take u bt) (take (one + w - one) (drop one fo)) (take (two + u - two) (drop two ft)) p q →
      AreAddedLater n w count m u many from to
      (take k ((fo ++ (p ++ drop w bo)) ++ drop (length (fo ++ (p ++ drop w bo))) o))
      (take l ((ft ++ (q ++ drop u bt)) ++ drop (length (ft ++ (q ++ drop u bt))) t)) ones twos
  added_later p q sum =
      subst (λ (x : List ℕ). AreAddedLater n w count m u many from to x
      (take l ((ft ++ (q ++ drop u bt)) ++ drop (length (ft ++ (q ++ drop u bt))) t)) ones twos)
      (rejoined n w count from to one to_one k o v fo bo ones c p)
      (subst (λ (y : List ℕ). AreAddedLater n w count m u many from to
      (take k ((take to_one v ++ (p ++ drop (to_one + w - to_one) (drop to_one v)))
      ++ drop (length (take to_one v ++ (p ++ drop (to_one + w - to_one) (drop to_one v)))) o)) y ones twos)
      (rejoined m u many from to two to_two l t z ft bt twos d q)
      (record {
        ones_held = all.ones_held;
        twos_held = all.twos_held;
        together = all.together;
        digits =
            all.digits
            ∙ ap (λ (x : List ℕ). set (trit_entries ones twos) to (digits_with_multiple 3 (get_or (trit_entries ones twos) to []) 1 x)) entry;
      }))
    where
      more : HoldLayers (length (get_or ones to [])) a b
      more =
          subst (λ i. HoldLayers i a b) (lengths n w count from to one to_one k o v fo bo ones c) earlier_layers

      piece : (i start : ℕ) (x y : List ℕ) → y ≡ drop start x → take i y ≡ take (start + i - start) (drop start x)
      piece i start x y is =
          let wide : i ≡ start + i - start = omega arith in
          ap (take i) is ∙ ap (λ j. take j (drop start x)) wide

      at_cuts : IsTritSum (take (to_one + w - to_one) (drop to_one v)) (take (to_two + u - to_two) (drop to_two z)) a b p q
      at_cuts =
          subst (λ (x : List ℕ). IsTritSum x (take (to_two + u - to_two) (drop to_two z)) a b p q) (piece w to_one v bo c.back_is)
          (subst (λ (y : List ℕ). IsTritSum (take w bo) y a b p q) (piece u to_two z bt d.back_is) sum)

      all : AreAddedEntries n w count m u many
          (take k ((take to_one v ++ (p ++ drop (to_one + w - to_one) (drop to_one v)))
          ++ drop (length (take to_one v ++ (p ++ drop (to_one + w - to_one) (drop to_one v)))) o))
          (take l ((take to_two z ++ (q ++ drop (to_two + u - to_two) (drop to_two z)))
          ++ drop (length (take to_two z ++ (q ++ drop (to_two + u - to_two) (drop to_two z)))) t)) ones twos to a b
      all =
          added_entries n w count m u many to to_one to_two k l o t v z p q a b ones twos c.held d.held c.view_is d.view_is
          h c.within more c.same d.same c.all d.all c.start_is c.room d.start_is d.room at_cuts

      there : from < length (trit_entries ones twos)
      there = omega (arith, inside, length-trit_entries ones twos)

      long : length (get_or ones to []) ≡ length (get_or (trit_entries ones twos) from [])
      long =
          sym (lengths n w count from to one to_one k o v fo bo ones c)
          ∙ sym (trit_entry-long ones twos (trit_entries ones twos) from refl there)

      entry : trits (bits (length (get_or ones to [])) a) (bits (length (get_or ones to [])) b)
          ≡ get_or (trit_entries ones twos) from []
      entry =
          ap (λ i. trits (bits i a) (bits i b)) long
          ∙ digits_of_entry ones twos (trit_entries ones twos) from a b h refl there
          (earlier_words n w count from to one to_one k o v fo bo ones c)
          (earlier_words m u many from to two to_two l t z ft bt twos d)
