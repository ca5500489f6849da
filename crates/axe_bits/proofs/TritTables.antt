-- Tables of digits modulo 3 in two tables of bits: their entries, and what they are after one was made another.
use Rattle.std.proofs.Common.{◌≡◌, ℕ, ◌+◌, ◌-◌, ◌<◌, ◌≤◌, List, [], length, get_or, set, replicate, sym, ap, ap₂, subst, ◌∙◌, arith, inl, inr, get_or-set_other, get_or-set_same}
use Rattle.std.proofs.lemmas.Bool.{cases_eq, cases_lt}
use Rattle.std.proofs.lemmas.List.{ext_get_or, get_or-replicate, length-replicate, length-set}
use Rattle.axe_algebra.proofs.ListEntries.{listed_length, listed_at}
use Rattle.axe_bits.specs.Combinations.{HaveEntryCopies}
use Rattle.axe_bits.specs.Trits.{trits, HoldTrits, trit_entries, HoldTritEntries}
use Rattle.axe_layer.proofs.BitLaws.{zeros}
use Rattle.axe_bits.proofs.TritZeros.{trits-zeros}

pub length-trit_entries : (a b : List (List ℕ)) → length (trit_entries a b) ≡ length a
unfolding trit_entries
length-trit_entries a b = listed_length (length a) _

pub trit_entry-at : (a b : List (List ℕ)) (x : ℕ) → x < length a →
    get_or (trit_entries a b) x [] ≡ trits (get_or a x []) (get_or b x [])
unfolding trit_entries
trit_entry-at a b x inside = listed_at (length a) _ x [] inside

-- which index is one
pub trit_index : (a b self : List (List ℕ)) (x : ℕ) → trit_entries a b ≡ self → x < length self → x < length a
trit_index a b self x is inside = omega (arith, ap length is, length-trit_entries a b)

-- zeros
pub zero_trit_entries : (count n : ℕ) →
    trit_entries (replicate count (zeros n)) (replicate count (zeros n)) ≡ replicate count (zeros n)
zero_trit_entries count n =
    ext_get_or [] (trit_entries all all) all (length-trit_entries all all) (λ x below.
    let inside : x < length all = omega (arith, length-trit_entries all all) in
    let small : x < count = omega (arith, length-replicate count (zeros n)) in
    let entry : get_or all x [] ≡ zeros n = get_or-replicate count x (zeros n) [] small in
    trit_entry-at all all x inside ∙ ap₂ trits entry entry ∙ trits-zeros n ∙ sym entry)
  where
    all : List (List ℕ)
    all = replicate count (zeros n)

-- ---- an entry made another

module _ (a b : List (List ℕ)) (h : HoldTritEntries a b) (to : ℕ) (u v : List ℕ) (below : to < length a) where
  there : to < length b
  there = omega (arith, h.as_many)

  pub trit_entries-set : trit_entries (set a to u) (set b to v) ≡ set (trit_entries a b) to (trits u v)
  trit_entries-set =
      ext_get_or [] (trit_entries (set a to u) (set b to v)) (set (trit_entries a b) to (trits u v)) long (λ x inside.
      let small : x < length a = omega (arith, length-trit_entries (set a to u) (set b to v), length-set a to u) in
      trit_entry-at (set a to u) (set b to v) x (omega (arith, length-set a to u)) ∙ at x small)
    where
      long : length (trit_entries (set a to u) (set b to v)) ≡ length (set (trit_entries a b) to (trits u v))
      long =
          length-trit_entries (set a to u) (set b to v) ∙ length-set a to u ∙ sym (length-trit_entries a b)
          ∙ sym (length-set (trit_entries a b) to (trits u v))

      at : (x : ℕ) → x < length a →
          trits (get_or (set a to u) x []) (get_or (set b to v) x [])
          ≡ get_or (set (trit_entries a b) to (trits u v)) x []
      at x small = elim (cases_eq x to) [
        | inl same ↦
            rw same (ap₂ trits (get_or-set_same a to u [] below) (get_or-set_same b to v [] there)
            ∙ sym (get_or-set_same (trit_entries a b) to (trits u v) [] (omega (arith, length-trit_entries a b))))
        | inr other ↦
            ap₂ trits (get_or-set_other a to x u [] other) (get_or-set_other b to x v [] other)
            ∙ sym (get_or-set_other (trit_entries a b) to x (trits u v) [] other ∙ trit_entry-at a b x small)
      ]

  pub HoldTritEntries-set : HoldTrits u v → HoldTritEntries (set a to u) (set b to v)
  HoldTritEntries-set held = record {
    as_many = length-set b to v ∙ h.as_many ∙ sym (length-set a to u);
    held = λ x inside. elim (cases_eq x to) [
      | inl same ↦ rw (same, get_or-set_same a to u [] below, get_or-set_same b to v [] there) held
      | inr other ↦
          let small : x < length a = omega (arith, length-set a to u) in
          rw (get_or-set_other a to x u [] other, get_or-set_other b to x v [] other) (h.held x small)
    ];
  }

-- ---- entries made copies of earlier ones

module _ (start count : ℕ) (a b c d : List (List ℕ)) (h : HoldTritEntries a b) (within : start + count ≤ length a)
    (ones : HaveEntryCopies start count a c) (twos : HaveEntryCopies start count b d) where
  of_other : (x : ℕ) → x < length a → x < length b
  of_other x inside = omega (arith, h.as_many, inside)

  same : (x y : ℕ) → get_or c x [] ≡ get_or a y [] → get_or d x [] ≡ get_or b y [] → y < length a →
      HoldTrits (get_or c x []) (get_or d x [])
  same x y of of' inside = rw (of, of') (h.held y inside)

  pub HoldTritEntries-copies : HoldTritEntries c d
  HoldTritEntries-copies = record {
    as_many = twos.as_many ∙ h.as_many ∙ sym ones.as_many;
    held = λ x here.
        let inside : x < length a = omega (arith, here, ones.as_many) in
        elim (cases_lt start x) [
          | inl past ↦ elim (cases_lt x (start + count)) [
            | inl below ↦
                let i : ℕ = x - start in
                let is : start + i ≡ x = omega (arith, past) in
                let positive : 0 < i = omega (arith, past) in
                let small : i < count = omega (arith, past, below) in
                subst (λ k. HoldTrits (get_or c k []) (get_or d k [])) is
                (same (start + i) i (ones.copies i positive small) (twos.copies i positive small) (omega (arith, inside)))
            | inr beyond ↦
                let late : start + count ≤ x = omega (arith, beyond) in
                same x x (ones.later x late inside) (twos.later x late (of_other x inside)) inside
          ]
          | inr before ↦
              let early : x ≤ start = omega (arith, before) in
              same x x (ones.earlier x early) (twos.earlier x early) inside
        ];
  }

  -- entry x after is entry y before
  entry : (x y : ℕ) → x < length a → y < length a → get_or c x [] ≡ get_or a y [] → get_or d x [] ≡ get_or b y [] →
      get_or (trit_entries c d) x [] ≡ get_or (trit_entries a b) y []
  entry x y here inside of of' =
      trit_entry-at c d x (omega (arith, here, ones.as_many)) ∙ ap₂ trits of of' ∙ sym (trit_entry-at a b y inside)

  pub trit_entries-copies : 1 ≤ count → HaveEntryCopies start count (trit_entries a b) (trit_entries c d)
  trit_entries-copies some = record {
    as_many = length-trit_entries c d ∙ ones.as_many ∙ sym (length-trit_entries a b);
    copies = λ i positive below.
        entry (start + i) i (omega (arith, below, within)) (omega (arith, below, within)) (ones.copies i positive below)
        (twos.copies i positive below);
    earlier = λ x early.
        let inside : x < length a = omega (arith, early, some, within) in
        entry x x inside inside (ones.earlier x early) (twos.earlier x early);
    later = λ x late here.
        let inside : x < length a = omega (arith, here, length-trit_entries a b) in
        entry x x inside inside (ones.later x late inside) (twos.later x late (of_other x inside));
  }
