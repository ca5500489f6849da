-- Files of numbers, read one after the other.
use Rattle.std.proofs.Common.{◌≡◌, refl, sym, ◌∙◌, ap, ℕ, zero, suc, ◌+◌, ◌-◌, ◌<◌, List, [], ◌∷◌, ◌++◌, append_assoc, subst, map, get_or, length, Result, Ok, Err, inl, inr, arith}
use Rattle.std.specs.List.{range_with_len}
use Rattle.std.proofs.lemmas.List.{length-append}
use Rattle.std.proofs.lemmas.List.FromFn.{get_or-map-range_with_len, length-map-range_with_len}
use Rattle.axe_matrix.specs.Matrices.{MatrixValue}
use Rattle.axe_folder.specs.Files.{Files}
use Rattle.axe_fault.specs.Causes.{Problem}
use Rattle.axe_plan.specs.declared.reading.Spelling.{Spelling}
use Rattle.axe_plan.specs.Inputs.{and_then, spelled_in, all_spelled_in, numbered, numbered_names}
use Rattle.axe_plan.specs.Outcome.{IsOneOf}
use Rattle.axe_fault.specs.declared.fault.Fault.{Fault}
use Rattle.axe_plan.specs.Meanings.{Is}
use Rattle.axe_plan.specs.Outcome.{Agrees}
use Rattle.axe_plan.proofs.Sequences.{AreAmong, fault_carries}

-- the names of so many files, from a number on
abbrev pub names_from : List ℕ → ℕ → ℕ → List (List ℕ)
names_from name first count = map (numbered name) (range_with_len first count)

pub first_of_names : (name : List ℕ) (i count : ℕ) → i < count →
    names_from name (i + 1) (count - i) ≡ numbered name (i + 1) ∷ names_from name (i + 1 + 1) (count - (i + 1))
first_of_names name i count below =
    ap (names_from name (i + 1)) (let e : count - i ≡ suc (count - (i + 1)) = omega arith in e)

-- matrices that are there, and after them those of the files of these names
abbrev pub read_after : Spelling → Files → List MatrixValue → List (List ℕ) → Result (List MatrixValue) Problem
read_after spelling files before names = and_then (all_spelled_in spelling files names) (λ rest. Ok (before ++ rest))

pub read_more : (spelling : Spelling) (files : Files) (before : List MatrixValue) (name : List ℕ) (names : List (List ℕ)) (m : MatrixValue) → spelled_in spelling files name ≡ Ok m →
    read_after spelling files before (name ∷ names) ≡ read_after spelling files (before ++ m ∷ []) names
read_more spelling files before name names m e =
    ap (λ first. and_then (and_then first (λ a. and_then (all_spelled_in spelling files names) (λ rest. Ok (a ∷ rest)))) (λ rest. Ok (before ++ rest))) e ∙ cases (all_spelled_in spelling files names)
  where
    cases : (rest : Result (List MatrixValue) Problem) →
        and_then (and_then rest (λ rest. Ok (m ∷ rest))) (λ rest. Ok (before ++ rest)) ≡ and_then rest (λ rest. Ok ((before ++ m ∷ []) ++ rest))
    cases (Ok rest) = ap Ok (sym (append_assoc before (m ∷ []) rest))
    cases (Err problem) = refl

pub read_problem : (spelling : Spelling) (files : Files) (before : List MatrixValue) (name : List ℕ) (names : List (List ℕ)) (problem : Problem) → spelled_in spelling files name ≡ Err problem →
    read_after spelling files before (name ∷ names) ≡ Err problem
read_problem spelling files before name names problem e =
    ap (λ first. and_then (and_then first (λ a. and_then (all_spelled_in spelling files names) (λ rest. Ok (a ∷ rest)))) (λ rest. Ok (before ++ rest))) e

-- one more matrix was read
pub length_of_more : (before after : List MatrixValue) (m : MatrixValue) (count : ℕ) → after ≡ before ++ m ∷ [] → length before ≡ count →
    length after ≡ count + 1
length_of_more before after m count pushed many = omega (arith, ap (λ (read : List MatrixValue). length read) pushed, length-append before (m ∷ []))

-- each of the files is one of them
one_at : (names : List (List ℕ)) (i : ℕ) → i < length names → IsOneOf names (get_or names i [])
one_at [] i below = absurd (omega arith)
one_at (first ∷ names) zero below = inl refl
one_at (first ∷ names) (suc i) below = inr (one_at names i (omega arith))

pub file_among : (name : List ℕ) (i count : ℕ) → i < count → AreAmong (numbered name (i + 1) ∷ []) (numbered_names name count)
file_among name i count below = record { each = at }
  where
    is : get_or (numbered_names name count) i [] ≡ numbered name (i + 1)
    is = get_or-map-range_with_len (numbered name) 1 count i (i + 1) [] below (omega arith)

    found : IsOneOf (numbered_names name count) (numbered name (i + 1))
    found = subst (IsOneOf (numbered_names name count)) is
        (one_at (numbered_names name count) i (omega (arith, length-map-range_with_len (numbered name) 1 count)))

    at : (file : List ℕ) → IsOneOf (numbered name (i + 1) ∷ []) file → IsOneOf (numbered_names name count) file
    at file (inl e) = subst (IsOneOf (numbered_names name count)) (sym e) found
    at file (inr none) = absurd none

-- the reading of one more of the files, from a folder that still has these files
pub read_next : (spelling : Spelling) (files now : Files) (before after : List MatrixValue) (name file : List ℕ) (i count : ℕ) (m : MatrixValue) → i < count → now ≡ files →
    file ≡ numbered name (i + 1) → all_spelled_in spelling files (numbered_names name count) ≡ read_after spelling files before (names_from name (i + 1) (count - i)) →
    spelled_in spelling now file ≡ Ok m → after ≡ before ++ m ∷ [] →
    all_spelled_in spelling files (numbered_names name count) ≡ read_after spelling files after (names_from name (i + 1 + 1) (count - (i + 1)))
read_next spelling files now before after name file i count m below same is so_far e pushed =
    so_far ∙ ap (read_after spelling files before) (first_of_names name i count below)
    ∙ read_more spelling files before (numbered name (i + 1)) (names_from name (i + 1 + 1) (count - (i + 1))) m (sym (λ j. spelled_in spelling (same j) (is j)) ∙ e)
    ∙ ap (λ (read : List MatrixValue). read_after spelling files read (names_from name (i + 1 + 1) (count - (i + 1)))) (sym pushed)

-- a fault of one of the files is a fault of them all
pub fault_of_next : {U : Type 0} (spelling : Spelling) (files now : Files) (before : List MatrixValue) (name file : List ℕ) (i count : ℕ) (other : U → List MatrixValue) (fault : Fault) →
    i < count → now ≡ files → file ≡ numbered name (i + 1) →
    all_spelled_in spelling files (numbered_names name count) ≡ read_after spelling files before (names_from name (i + 1) (count - i)) →
    Agrees (file ∷ []) (λ (m : MatrixValue). m) (Err fault) (Is (spelled_in spelling now file)) →
    Agrees (numbered_names name count) other (Err fault) (Is (all_spelled_in spelling files (numbered_names name count)))
fault_of_next spelling files now before name file i count other fault below same is so_far right =
    fault_carries (numbered name (i + 1) ∷ []) (numbered_names name count) (λ (m : MatrixValue). m) other fault
    (Is (spelled_in spelling files (numbered name (i + 1)))) (Is (all_spelled_in spelling files (numbered_names name count))) (file_among name i count below)
    (λ problem e. so_far ∙ ap (read_after spelling files before) (first_of_names name i count below)
    ∙ read_problem spelling files before (numbered name (i + 1)) (names_from name (i + 1 + 1) (count - (i + 1))) problem e)
    (coe 0 1 (j. Agrees (is j ∷ []) (λ (m : MatrixValue). m) (Err fault) (Is (spelled_in spelling (same j) (is j)))) right)
