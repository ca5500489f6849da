-- A header as pieces of four bytes.
use Rattle.std.proofs.Common.{◌≡◌, ℕ, ◌+◌, ◌<◌, ◌≤◌, List, [], ◌∷◌, ◌++◌, length, get_or, take, drop, All, refl, sym, ap, ◌∙◌, inl, inr, append_assoc, arith}
use Rattle.std.specs.Int.{w32, to_le_bytes, from_le_bytes}
use Rattle.std.proofs.lemmas.Bool.{cases_lt}
use Rattle.std.proofs.lemmas.List.{get_or_past, take-append-drop, drop-drop, length-take, length-drop, get_or-take, get_or-drop}
use Rattle.std.proofs.lemmas.Nat.{le_bytes_4}
use Rattle.axe_file.specs.Packed.{header_length, order_offset, rows_offset, columns_offset}

abbrev pub IsBytes : List ℕ → Type 0
IsBytes bytes = (i : ℕ) → get_or bytes i 0 < 256

pub bytes_fit : (bytes : List ℕ) → All (λ byte. byte < 256) bytes → IsBytes bytes
bytes_fit bytes h i =
    elim (cases_lt i (length bytes)) [
      | inl lt ↦ h i 0 lt
      | inr le ↦ rw get_or_past (omega arith)
    ]

pub four : (xs : List ℕ) → 4 ≤ length xs → take 4 xs ≡ get_or xs 0 0 ∷ get_or xs 1 0 ∷ get_or xs 2 0 ∷ get_or xs 3 0 ∷ []
four [] h = absurd (omega arith)
four (a ∷ []) h = absurd (omega arith)
four (a ∷ b ∷ []) h = absurd (omega arith)
four (a ∷ b ∷ c ∷ []) h = absurd (omega arith)
four (a ∷ b ∷ c ∷ d ∷ xs) h = refl

-- these four bytes from a place on
pub four_at : (bytes : List ℕ) (at a b c d : ℕ) → at + 4 ≤ length bytes → get_or bytes at 0 ≡ a → get_or bytes (at + 1) 0 ≡ b → get_or bytes (at + 2) 0 ≡ c
    → get_or bytes (at + 3) 0 ≡ d
    → take 4 (drop at bytes) ≡ a ∷ b ∷ c ∷ d ∷ []
four_at bytes at a b c d long ea eb ec ed =
    let xs = drop at bytes in
    let first : get_or xs 0 0 ≡ a = get_or-drop at bytes 0 0 ∙ ap (λ (n : ℕ). get_or bytes n 0) (omega arith) ∙ ea in
    let second : get_or xs 1 0 ≡ b = get_or-drop at bytes 1 0 ∙ eb in
    let third : get_or xs 2 0 ≡ c = get_or-drop at bytes 2 0 ∙ ec in
    let fourth : get_or xs 3 0 ≡ d = get_or-drop at bytes 3 0 ∙ ed in
    four xs (omega (arith, length-drop at bytes)) ∙ (λ i. first i ∷ second i ∷ third i ∷ fourth i ∷ [])

pub number_back : (bytes : List ℕ) (at : ℕ) → at + 4 ≤ length bytes → IsBytes bytes
    → to_le_bytes w32 (from_le_bytes w32 (take 4 (drop at bytes))) ≡ take 4 (drop at bytes)
number_back bytes at long fits =
    le_bytes_4 (take 4 (drop at bytes)) _ (omega (arith, length-take 4 (drop at bytes), length-drop at bytes))
    (λ i. elim (cases_lt i 4) [
      | inl lt ↦ let e : get_or (take 4 (drop at bytes)) i 0 ≡ get_or bytes (at + i) 0 =
          get_or-take 4 (drop at bytes) i 0 lt ∙ get_or-drop at bytes i 0 in rw e (fits (at + i))
      | inr le ↦ rw (get_or_past (take 4 (drop at bytes)) i 0 (omega (arith, length-take 4 (drop at bytes)))) (omega arith)
    ]) refl

next_four : (bytes : List ℕ) (at to : ℕ) → at + 4 ≡ to → drop at bytes ≡ take 4 (drop at bytes) ++ drop to bytes
next_four bytes at to e =
    sym (take-append-drop 4 (drop at bytes)) ∙ ap (λ (xs : List ℕ). take 4 (drop at bytes) ++ xs) (drop-drop 4 at bytes ∙ ap (λ (n : ℕ). drop n bytes) e)

pub in_fours : (bytes a b c d : List ℕ) → take 4 bytes ≡ a → take 4 (drop 4 bytes) ≡ b → take 4 (drop rows_offset bytes) ≡ c
    → take 4 (drop columns_offset bytes) ≡ d
    → bytes ≡ (a ++ b ++ c ++ d) ++ drop header_length bytes
in_fours bytes a b c d ea eb ec ed =
    let tail12 : drop columns_offset bytes ≡ d ++ drop header_length bytes =
    next_four bytes columns_offset header_length refl ∙ ap (λ (xs : List ℕ). xs ++ drop header_length bytes) ed in
    let tail8 : drop rows_offset bytes ≡ c ++ (d ++ drop header_length bytes) =
    next_four bytes rows_offset columns_offset refl ∙ ap (λ (xs : List ℕ). xs ++ drop columns_offset bytes) ec ∙ ap (λ (xs : List ℕ). c ++ xs) tail12 in
    let tail4 : drop 4 bytes ≡ b ++ (c ++ (d ++ drop header_length bytes)) =
    next_four bytes order_offset rows_offset refl ∙ ap (λ (xs : List ℕ). xs ++ drop rows_offset bytes) eb ∙ ap (λ (xs : List ℕ). b ++ xs) tail8 in
    let all : bytes ≡ a ++ (b ++ (c ++ (d ++ drop header_length bytes))) =
    sym (take-append-drop 4 bytes) ∙ ap (λ (xs : List ℕ). xs ++ drop 4 bytes) ea ∙ ap (λ (xs : List ℕ). a ++ xs) tail4 in
    all ∙ sym (simp append_assoc)
