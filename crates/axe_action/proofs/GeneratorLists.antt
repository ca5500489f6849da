-- Generators that are made one by one, and the module that they make.
use Rattle.std.specs.Prelude.{◌≡◌, ◌≢◌, ℕ, ◌+◌, ◌<◌, ◌≤◌, List, [], ◌∷◌, ◌++◌, length, get_or, Option, None, Result, Ok, Err}
use Rattle.std.specs.List.{All}
use Rattle.std.proofs.lemmas.Bool.{eq-eqb, ne_eqb}
use Rattle.std.proofs.lemmas.List.{length-append, length-map, map-append, append_assoc, get_or_append_left, get_or-append-add, ext_get_or}
use Rattle.std.proofs.lemmas.List.Elements.{All-nil, All-head, All-tail, All-push}
use Rattle.axe_field.specs.Order.{Order, order_number}
use Rattle.axe_row.specs.declared.refusals.Refusal.{Refusal}
use Rattle.axe_matrix.specs.Matrices.{MatrixValue}
use Rattle.axe_matrix.proofs.MatrixLaws.{same_matrix}
use Rattle.axe_spin.specs.Limits.{most_generators}
use Rattle.axe_row.specs.Refusals.{first_of, unless_refused}
use Rattle.axe_spin.specs.Modules.{ModuleValue, IsModule, generator_of, generator_refusal, generators_refusal, rows_of_each, module_of_matrices}
use Rattle.axe_spin.specs.Generators.{IsGeneratorMatrix}
use mathlib.Core.Path.{refl, sym, ◌∙◌, ap, subst}
use native.Mathlib.Omega.{arith}
use native.Mathlib.Decide.{ℕ_discrete}

-- so many generators over a field and of a dimension, the rows of number i with P i
pub record AreNewGenerators (order : Order) (dim : ℕ) (P : ℕ → List (List ℕ) → Type 0) (count : ℕ) (matrices : List MatrixValue) : Type 0 where
  pub each : All (IsGeneratorMatrix order dim) matrices
  pub as_many : length matrices ≡ count
  pub made : (i : ℕ) → i < count → P i (get_or (rows_of_each matrices) i [])

-- none
pub generators_none : (order : Order) (dim : ℕ) (P : ℕ → List (List ℕ) → Type 0) (matrices : List MatrixValue) → matrices ≡ [] →
    AreNewGenerators order dim P 0 matrices
generators_none order dim P matrices is = subst (AreNewGenerators order dim P 0) (sym is) (record {
  each = All-nil (IsGeneratorMatrix order dim);
  as_many = refl;
  made = λ i below. absurd (omega arith);
})

-- one more
pub generators_more : (order : Order) (dim : ℕ) (P : ℕ → List (List ℕ) → Type 0) (count : ℕ) (matrices next : List MatrixValue) (m : MatrixValue) →
    AreNewGenerators order dim P count matrices → next ≡ matrices ++ m ∷ [] → IsGeneratorMatrix order dim m → P count m.rows →
    AreNewGenerators order dim P (count + 1) next
generators_more order dim P count matrices next m are is generator made = subst (AreNewGenerators order dim P (count + 1)) (sym is) (record {
  each = All-push (IsGeneratorMatrix order dim) matrices m are.each generator;
  as_many = omega (arith, length-append matrices (m ∷ []), are.as_many);
  made = λ i below. at i below (ℕ_discrete i count);
})
  where
    lists : rows_of_each (matrices ++ m ∷ []) ≡ rows_of_each matrices ++ m.rows ∷ []
    lists = map-append (λ (m : MatrixValue). m.rows) matrices (m ∷ [])

    many : length (rows_of_each matrices) ≡ count
    many = length-map matrices (λ (m : MatrixValue). m.rows) ∙ are.as_many

    at : (i : ℕ) → i < count + 1 → Dec (i ≡ count) → P i (get_or (rows_of_each (matrices ++ m ∷ [])) i [])
    at i below (no other) = subst (P i)
        (sym (ap (λ (l : List (List (List ℕ))). get_or l i []) lists ∙ get_or_append_left (rows_of_each matrices) (m.rows ∷ []) [] i (omega (arith, many))))
        (are.made i (omega arith))
    at i below (yes same) =
        let place : i ≡ length (rows_of_each matrices) + 0 = omega (arith, many) in
        subst (P i)
        (sym (ap (λ (l : List (List (List ℕ))). get_or l i []) lists
        ∙ ap (λ k. get_or (rows_of_each matrices ++ m.rows ∷ []) k []) place
        ∙ get_or-append-add (rows_of_each matrices) (m.rows ∷ []) 0 []))
        (subst (λ k. P k m.rows) (sym same) made)

-- where each is determined, the list of their rows is
pub generators_are : (order : Order) (dim : ℕ) (f : ℕ → List (List ℕ)) (count : ℕ) (matrices : List MatrixValue) (lists : List (List (List ℕ))) →
    AreNewGenerators order dim (λ i rows. rows ≡ f i) count matrices → length lists ≡ count → ((i : ℕ) → i < count → get_or lists i [] ≡ f i) →
    rows_of_each matrices ≡ lists
generators_are order dim f count matrices lists are many same =
    let long : length (rows_of_each matrices) ≡ count = length-map matrices (λ (m : MatrixValue). m.rows) ∙ are.as_many in
    ext_get_or [] (rows_of_each matrices) lists (long ∙ sym many) (λ i below. are.made i (omega (arith, long)) ∙ sym (same i (omega (arith, long))))

-- nothing refuses generators
generator_accepted : (order : Order) (dim : ℕ) (m : MatrixValue) → IsGeneratorMatrix order dim m → generator_refusal order dim m ≡ None
generator_accepted order dim m h =
    let some : length m.rows ≢ 0 = λ none. omega (arith, none, h.rows, h.columns, h.well_formed.some_column) in
    rw (
      ne_eqb (length m.rows) 0 some,
      eq-eqb (length m.rows) m.cols (h.rows ∙ sym h.columns),
      eq-eqb (order_number m.order) (order_number order) (ap order_number h.field),
      eq-eqb m.cols dim h.columns,
    ) refl

generators_accepted : (order : Order) (dim : ℕ) (matrices : List MatrixValue) → All (IsGeneratorMatrix order dim) matrices →
    generators_refusal order dim matrices ≡ None
generators_accepted order dim [] each = refl
generators_accepted order dim (m ∷ rest) each =
    ap (λ (r : Option Refusal). first_of r (generators_refusal order dim rest)) (generator_accepted order dim m (All-head (IsGeneratorMatrix order dim) m rest each))
    ∙ generators_accepted order dim rest (All-tail (IsGeneratorMatrix order dim) m rest each)

-- some generators make the module with their rows
pub module_of_generators : (order : Order) (dim : ℕ) (matrices : List MatrixValue) → 1 ≤ length matrices → All (IsGeneratorMatrix order dim) matrices →
    module_of_matrices matrices ≡ Ok (record { order = order; dim = dim; generators = rows_of_each matrices })
module_of_generators order dim [] some each = absurd (omega arith)
module_of_generators order dim (m ∷ rest) some each =
    let first : IsGeneratorMatrix order dim m = All-head (IsGeneratorMatrix order dim) m rest each in
    (λ i. unless_refused (generators_refusal (first.field i) (first.columns i) (m ∷ rest))
    (record { order = first.field i; dim = first.columns i; generators = rows_of_each (m ∷ rest) }))
    ∙ ap (λ (r : Option Refusal). unless_refused r (record { order = order; dim = dim; generators = rows_of_each (m ∷ rest) }))
    (generators_accepted order dim (m ∷ rest) each)

pub module_of_made : (order : Order) (dim : ℕ) (P : ℕ → List (List ℕ) → Type 0) (count : ℕ) (matrices : List MatrixValue) (result : Result ModuleValue Refusal) →
    AreNewGenerators order dim P count matrices → 1 ≤ count → result ≡ module_of_matrices matrices →
    result ≡ Ok (record { order = order; dim = dim; generators = rows_of_each matrices })
module_of_made order dim P count matrices result are some is = is ∙ module_of_generators order dim matrices (omega (arith, are.as_many)) are.each

-- so such a list is not refused
pub made_not_refused : (order : Order) (dim : ℕ) (P : ℕ → List (List ℕ) → Type 0) (count : ℕ) (matrices : List MatrixValue) (refusal : Refusal) →
    AreNewGenerators order dim P count matrices → 1 ≤ count → Err refusal ≡ module_of_matrices matrices → ⊥
made_not_refused order dim P count matrices refusal are some is =
    different (record { order = order; dim = dim; generators = rows_of_each matrices }) (module_of_made order dim P count matrices (Err refusal) are some is)
  where
    different : (m : ModuleValue) → Err refusal ≡ Ok m → ⊥
    different m same = cc

-- where all generators of a module were taken, there is one, and there are no more than the limit
pub all_taken : (taken gens count : ℕ) → gens ≡ count → gens ≤ taken → taken ≤ gens → taken ≡ count
all_taken taken gens count same many few = omega arith

pub some_made : (m : ModuleValue) (order : Order) (dim : ℕ) (P : ℕ → List (List ℕ) → Type 0) (count gens : ℕ) (matrices : List MatrixValue) → IsModule m →
    AreNewGenerators order dim P count matrices → gens ≡ length m.generators → gens ≤ count → 1 ≤ length matrices
some_made m order dim P count gens matrices h are same many = omega (arith, are.as_many, h.some_generator)

pub made_fit : (m : ModuleValue) (order : Order) (dim : ℕ) (P : ℕ → List (List ℕ) → Type 0) (count gens : ℕ) (matrices : List MatrixValue) → IsModule m →
    AreNewGenerators order dim P count matrices → gens ≡ length m.generators → count ≤ gens → length matrices ≤ most_generators
made_fit m order dim P count gens matrices h are same few = omega (arith, are.as_many, h.generators_fit)

-- ---- the generators of a module, taken from it one by one

-- the matrices are the generators of a module, in their order
pub record AreGeneratorsOf (m : ModuleValue) (matrices : List MatrixValue) : Type 0 where
  pub lists : rows_of_each matrices ≡ m.generators
  pub each : All (IsGeneratorMatrix m.order m.dim) matrices

module _ (m : ModuleValue) (done rest : List MatrixValue) (are : AreGeneratorsOf m (done ++ rest)) where
  -- where none is left, all were taken
  pub generators_whole : rest ≡ [] → length done ≡ length m.generators
  generators_whole none =
      let all : length (rows_of_each (done ++ rest)) ≡ length (done ++ rest) = length-map (done ++ rest) (λ (x : MatrixValue). x.rows) in
      let same : length (rows_of_each (done ++ rest)) ≡ length m.generators = ap (λ (l : List (List (List ℕ))). length l) are.lists in
      let left : length rest ≡ 0 = ap (λ (l : List MatrixValue). length l) none in
      omega (arith, all, same, left, length-append done rest)

  module _ (g : MatrixValue) (next : List MatrixValue) (is : rest ≡ g ∷ next) where
    -- the next one
    pub next_below : length done < length m.generators
    next_below =
        let all : length (rows_of_each (done ++ rest)) ≡ length (done ++ rest) = length-map (done ++ rest) (λ (x : MatrixValue). x.rows) in
        let same : length (rows_of_each (done ++ rest)) ≡ length m.generators = ap (λ (l : List (List (List ℕ))). length l) are.lists in
        let left : length rest ≡ length (g ∷ next) = ap (λ (l : List MatrixValue). length l) is in
        omega (arith, all, same, left, length-append done rest)

    pub next_generator : IsGeneratorMatrix m.order m.dim g
    next_generator = subst (IsGeneratorMatrix m.order m.dim) at (are.each (length done) g inside)
      where
        inside : length done < length (done ++ rest)
        inside =
            let left : length rest ≡ length (g ∷ next) = ap (λ (l : List MatrixValue). length l) is in
            omega (arith, left, length-append done rest)

        at : get_or (done ++ rest) (length done) g ≡ g
        at =
            let place : length done ≡ length done + 0 = omega arith in
            ap (λ (l : List MatrixValue). get_or (done ++ l) (length done) g) is
            ∙ ap (λ k. get_or (done ++ g ∷ next) k g) place
            ∙ get_or-append-add done (g ∷ next) 0 g

    pub next_is : g ≡ generator_of m (length done)
    next_is = same_matrix g (generator_of m (length done)) next_generator.field next_generator.columns (sym at)
      where
        many : length (rows_of_each done) ≡ length done
        many = length-map done (λ (x : MatrixValue). x.rows)

        lists : m.generators ≡ rows_of_each done ++ g.rows ∷ rows_of_each next
        lists =
            sym are.lists ∙ ap (λ (l : List MatrixValue). rows_of_each (done ++ l)) is
            ∙ map-append (λ (x : MatrixValue). x.rows) done (g ∷ next)

        at : get_or m.generators (length done) [] ≡ g.rows
        at =
            let place : length done ≡ length (rows_of_each done) + 0 = omega (arith, many) in
            ap (λ (l : List (List (List ℕ))). get_or l (length done) []) lists
            ∙ ap (λ k. get_or (rows_of_each done ++ g.rows ∷ rows_of_each next) k []) place
            ∙ get_or-append-add (rows_of_each done) (g.rows ∷ rows_of_each next) 0 []

    -- and those that are left
    pub generators_left : AreGeneratorsOf m ((done ++ g ∷ []) ++ next)
    generators_left = subst (AreGeneratorsOf m) (ap (λ (l : List MatrixValue). done ++ l) is ∙ sym (append_assoc done (g ∷ []) next)) are

-- one more, made of the next one
pub generators_next : (order : Order) (dim : ℕ) (P : ℕ → List (List ℕ) → Type 0) (done : List MatrixValue) (g : MatrixValue) (matrices next : List MatrixValue)
    (made : MatrixValue) → AreNewGenerators order dim P (length done) matrices → next ≡ matrices ++ made ∷ [] → IsGeneratorMatrix order dim made →
    P (length done) made.rows → AreNewGenerators order dim P (length (done ++ g ∷ [])) next
generators_next order dim P done g matrices next made are is generator holds =
    let grown : length done + 1 ≡ length (done ++ g ∷ []) = omega (arith, length-append done (g ∷ [])) in
    subst (λ count. AreNewGenerators order dim P count next) grown
    (generators_more order dim P (length done) matrices next made are is generator holds)

-- where none is left, there was one
pub some_yielded : (m : ModuleValue) (done rest : List MatrixValue) → IsModule m → AreGeneratorsOf m (done ++ rest) → rest ≡ [] → 1 ≤ length done
some_yielded m done rest h left none = omega (arith, h.some_generator, generators_whole m done rest left none)

-- as many were made as there are
pub all_made : (m : ModuleValue) (order : Order) (dim : ℕ) (P : ℕ → List (List ℕ) → Type 0) (done rest matrices : List MatrixValue) → IsModule m →
    AreGeneratorsOf m (done ++ rest) → AreNewGenerators order dim P (length done) matrices → rest ≡ [] → 1 ≤ length matrices
all_made m order dim P done rest matrices h left are none =
    omega (arith, are.as_many, h.some_generator, generators_whole m done rest left none)

pub all_fit : (m : ModuleValue) (order : Order) (dim : ℕ) (P : ℕ → List (List ℕ) → Type 0) (done rest matrices : List MatrixValue) → IsModule m →
    AreGeneratorsOf m (done ++ rest) → AreNewGenerators order dim P (length done) matrices → rest ≡ [] → length matrices ≤ most_generators
all_fit m order dim P done rest matrices h left are none =
    omega (arith, are.as_many, h.generators_fit, generators_whole m done rest left none)
