-- Chains of sections of a module: on the rows of each the module acts by its action, modulo the rows before.
use Rattle.std.specs.Prelude.{◌≡◌, ℕ, zero, suc, ◌<◌, ◌+◌, List, [], ◌∷◌, ◌++◌, length, ⊤}
use Rattle.std.proofs.lemmas.List.{length-append, append_assoc, append-nil, get_or_append_left, get_or-append-add}
use Rattle.axe_algebra.specs.NumberField.{NumberField}
use Rattle.axe_algebra.specs.Vectors.{Vector, Matrix}
use Rattle.axe_algebra.specs.Modules.{Module}
use Rattle.axe_algebra.specs.Bridge.{field_of, vector_of, matrix_of, module_of}
use Rattle.axe_algebra.specs.Blocks.{block_start, block_size}
use Rattle.axe_algebra.specs.Lists.{IsMatrixOver}
use Rattle.axe_algebra.specs.ModulesOfLists.{IsInvariant}
use Rattle.axe_algebra.proofs.Sections.{ActsModulo}
use Rattle.axe_algebra.specs.Spans.{InSpan}
use Rattle.axe_algebra.proofs.Exchange.{span_of_same_rows}
use Rattle.axe_field.specs.NumberFields.{number_field}
use Rattle.axe_spin.specs.Modules.{ModuleValue, IsModule}
use Rattle.axe_series.specs.Sections.{SectionValue, rows_of_sections}
use Rattle.axe_series.proofs.AppendedRows.{IsWithin, over_appended, within_refl, within_appended}
use Rattle.axe_series.proofs.ActingRows.{ActsOn, acts_on_same_rows, acts_within, invariant_with_section}
use mathlib.Core.Path.{refl, sym, ◌∙◌, ap, subst}
use native.Mathlib.Omega.{arith}

-- the section is over the module's field, its action is a module, and it has as many rows, which are vectors of the module,
-- as its action's dimension
pub record IsSectionOf (m : ModuleValue) (s : SectionValue) : Type 0 where
  pub field : s.action.order ≡ m.order
  pub is_module : IsModule s.action
  pub rows_field : s.rows.order ≡ m.order
  pub columns : s.rows.cols ≡ m.dim
  pub size : length s.rows.rows ≡ s.action.dim
  pub over : IsMatrixOver (number_field m.order) m.dim s.rows.rows

-- the module acts on the section's rows by its action, modulo the rows before
abbrev pub ActsBySection : ModuleValue → List (List ℕ) → SectionValue → Type 0
ActsBySection m before s = ActsOn (number_field m.order) m.dim m.generators before s.rows.rows s.action.dim s.action.generators

-- each of the sections is one modulo the rows before it
abbrev pub IsChain : ModuleValue → List (List ℕ) → List SectionValue → Type 0
IsChain m before [] = ⊤
IsChain m before (s ∷ rest) = IsSectionOf m s × ActsBySection m before s × IsChain m (before ++ s.rows.rows) rest

-- their dimensions
abbrev pub sizes_of : List SectionValue → List ℕ
sizes_of [] = []
sizes_of (s ∷ rest) = s.action.dim ∷ sizes_of rest

-- the action of the section of a number
abbrev pub action_at : ModuleValue → List SectionValue → ℕ → ModuleValue
action_at m [] b = m
action_at m (s ∷ rest) zero = s.action
action_at m (s ∷ rest) (suc b) = action_at m rest b

module _ (m : ModuleValue) where
  abbrev K : NumberField
  K = number_field m.order

  -- modulo other rows that span more
  pub chain_within : (before others : List (List ℕ)) (sections : List SectionValue) → IsWithin K before others → IsChain m before sections →
      IsChain m others sections
  chain_within before others [] within chain = chain
  chain_within before others (s ∷ rest) within (is, acts, chain) = (
    is,
    acts_within K m.dim m.generators before others s.rows.rows s.action.dim s.action.generators within acts,
    chain_within (before ++ s.rows.rows) (others ++ s.rows.rows) rest
        (within_appended K before s.rows.rows others s.rows.rows within (within_refl K s.rows.rows)) chain,
  )

  -- one chain after another
  pub chain_appended : (before : List (List ℕ)) (first second : List SectionValue) → IsChain m before first →
      IsChain m (before ++ rows_of_sections first) second → IsChain m before (first ++ second)
  chain_appended before [] second chain after = subst (λ (rows : List (List ℕ)). IsChain m rows second) (append-nil before) after
  chain_appended before (s ∷ rest) second (is, acts, chain) after = (
    is,
    acts,
    chain_appended (before ++ s.rows.rows) rest second chain
        (subst (λ (rows : List (List ℕ)). IsChain m rows second) (sym (append_assoc before s.rows.rows (rows_of_sections rest))) after),
  )

  pub rows_appended : (first second : List SectionValue) → rows_of_sections (first ++ second) ≡ rows_of_sections first ++ rows_of_sections second
  rows_appended [] second = refl
  rows_appended (s ∷ rest) second =
      ap (λ (rows : List (List ℕ)). s.rows.rows ++ rows) (rows_appended rest second)
      ∙ sym (append_assoc s.rows.rows (rows_of_sections rest) (rows_of_sections second))

  -- the rows of a chain are vectors of the module
  pub chain_over : (before : List (List ℕ)) (sections : List SectionValue) → IsChain m before sections → IsMatrixOver K m.dim (rows_of_sections sections)
  chain_over before [] chain = λ i d below. absurd (omega arith)
  chain_over before (s ∷ rest) (is, acts, chain) =
      over_appended K m.dim s.rows.rows (rows_of_sections rest) is.over (chain_over (before ++ s.rows.rows) rest chain)

  -- the rows before a chain with all of its rows have an invariant span
  pub chain_invariant : (before : List (List ℕ)) (sections : List SectionValue) → IsChain m before sections → IsInvariant K m.dim m.generators before →
      IsInvariant K m.dim m.generators (before ++ rows_of_sections sections)
  chain_invariant before [] chain invariant = subst (IsInvariant K m.dim m.generators) (sym (append-nil before)) invariant
  chain_invariant before (s ∷ rest) (is, acts, chain) invariant =
      subst (IsInvariant K m.dim m.generators) (append_assoc before s.rows.rows (rows_of_sections rest))
      (chain_invariant (before ++ s.rows.rows) rest chain
      (invariant_with_section K m.dim m.generators before s.rows.rows s.action.dim s.action.generators is.size acts invariant))

  -- nothing is invariant
  pub nothing_invariant : IsInvariant K m.dim m.generators []
  nothing_invariant = record { images = λ t i inside below. absurd (omega arith) }

  pub sizes_length : (sections : List SectionValue) → length (sizes_of sections) ≡ length sections
  sizes_length [] = refl
  sizes_length (s ∷ rest) = ap suc (sizes_length rest)

  -- the sizes add up to the number of the rows
  pub sizes_add_up : (before : List (List ℕ)) (sections : List SectionValue) → IsChain m before sections →
      block_start (sizes_of sections) (length (sizes_of sections)) ≡ length (rows_of_sections sections)
  sizes_add_up before [] chain = refl
  sizes_add_up before (s ∷ rest) (is, acts, chain) =
      let further : block_start (sizes_of rest) (length (sizes_of rest)) ≡ length (rows_of_sections rest) = sizes_add_up (before ++ s.rows.rows) rest chain in
      let size : length s.rows.rows ≡ s.action.dim = is.size in
      omega (arith, further, size, length-append s.rows.rows (rows_of_sections rest))

  -- what is true of each of the sections of a chain
  pub action_dimension : (sections : List SectionValue) (b : ℕ) → b < length sections → (action_at m sections b).dim ≡ block_size (sizes_of sections) b
  action_dimension [] b below = absurd (omega arith)
  action_dimension (s ∷ rest) zero below = refl
  action_dimension (s ∷ rest) (suc b) below = action_dimension rest b (omega arith)

  pub action_field : (before : List (List ℕ)) (sections : List SectionValue) → IsChain m before sections → (b : ℕ) → b < length sections →
      (action_at m sections b).order ≡ m.order
  action_field before [] chain b below = absurd (omega arith)
  action_field before (s ∷ rest) (is, acts, chain) zero below = is.field
  action_field before (s ∷ rest) (is, acts, chain) (suc b) below = action_field (before ++ s.rows.rows) rest chain b (omega arith)

  pub action_is_module : (before : List (List ℕ)) (sections : List SectionValue) → IsChain m before sections → (b : ℕ) → b < length sections →
      IsModule (action_at m sections b)
  action_is_module before [] chain b below = absurd (omega arith)
  action_is_module before (s ∷ rest) (is, acts, chain) zero below = is.is_module
  action_is_module before (s ∷ rest) (is, acts, chain) (suc b) below = action_is_module (before ++ s.rows.rows) rest chain b (omega arith)

  -- the module that a section's action is
  abbrev pub module_at : List SectionValue → ℕ → Module (field_of K)
  module_at sections b = module_of K (action_at m sections b).dim (action_at m sections b).generators

  -- on the rows of its place in all rows the module acts by it, modulo the rows before this place
  pub acts_at_start : (before rows further : List (List ℕ)) (dim : ℕ) (action : List (List (List ℕ))) → length rows ≡ dim →
      ActsOn K m.dim m.generators before rows dim action →
      ActsModulo (field_of K) (module_of K m.dim m.generators) (length before) (matrix_of K (before ++ (rows ++ further)))
      (λ s. matrix_of K (before ++ (rows ++ further)) (length before + s)) (module_of K dim action)
  acts_at_start before rows further dim action size acts =
      acts_on_same_rows (field_of K) (module_of K m.dim m.generators) (length before) (matrix_of K (before ++ (rows ++ further))) (matrix_of K rows)
      (λ s. matrix_of K (before ++ (rows ++ further)) (length before + s)) (module_of K dim action) same
      (record {
        count = acts.count;
        acts = λ i t below inside.
            span_of_first_rows (length before) (matrix_of K before) (matrix_of K (before ++ (rows ++ further))) first _ (acts.acts i t below inside);
      })
    where
      span_of_first_rows : (k : ℕ) (v w : Matrix (field_of K)) → ((t : ℕ) → t < k → v t ≡ w t) → (x : Vector (field_of K)) → InSpan (field_of K) k v x → InSpan (field_of K) k w x
      span_of_first_rows k v w same_rows x = span_of_same_rows (field_of K) k v w x same_rows

      first : (t : ℕ) → t < length before → matrix_of K before t ≡ matrix_of K (before ++ (rows ++ further)) t
      first t below = ap (vector_of K) (sym (get_or_append_left before (rows ++ further) [] t below))

      same : (t : ℕ) → t < dim → matrix_of K rows t ≡ matrix_of K (before ++ (rows ++ further)) (length before + t)
      same t below =
          ap (vector_of K) (sym (get_or_append_left rows further [] t (omega (arith, size))))
          ∙ ap (vector_of K) (sym (get_or-append-add before (rows ++ further) t []))

  pub acts_at : (before : List (List ℕ)) (sections : List SectionValue) → IsChain m before sections → (b : ℕ) → b < length sections →
      ActsModulo (field_of K) (module_of K m.dim m.generators) (length before + block_start (sizes_of sections) b) (matrix_of K (before ++ rows_of_sections sections))
      (λ s. matrix_of K (before ++ rows_of_sections sections) (length before + block_start (sizes_of sections) b + s)) (module_at sections b)
  acts_at before [] chain b below = absurd (omega arith)
  acts_at before (s ∷ rest) (is, acts, chain) zero below =
      let none : length before ≡ length before + block_start (sizes_of (s ∷ rest)) zero = omega arith in
      subst (λ c. ActsModulo (field_of K) (module_of K m.dim m.generators) c (matrix_of K (before ++ rows_of_sections (s ∷ rest)))
      (λ t. matrix_of K (before ++ rows_of_sections (s ∷ rest)) (c + t)) (module_at (s ∷ rest) zero)) none
      (acts_at_start before s.rows.rows (rows_of_sections rest) s.action.dim s.action.generators is.size acts)
  acts_at before (s ∷ rest) (is, acts, chain) (suc b) below =
      let size : length s.rows.rows ≡ s.action.dim = is.size in
      let start : length (before ++ s.rows.rows) + block_start (sizes_of rest) b ≡ length before + block_start (sizes_of (s ∷ rest)) (suc b) =
      omega (arith, size, length-append before s.rows.rows) in
      subst (λ c. ActsModulo (field_of K) (module_of K m.dim m.generators) c (matrix_of K (before ++ rows_of_sections (s ∷ rest)))
      (λ t. matrix_of K (before ++ rows_of_sections (s ∷ rest)) (c + t)) (module_at rest b)) start
      (subst (λ (rows : List (List ℕ)). ActsModulo (field_of K) (module_of K m.dim m.generators) (length (before ++ s.rows.rows) + block_start (sizes_of rest) b)
      (matrix_of K rows) (λ t. matrix_of K rows (length (before ++ s.rows.rows) + block_start (sizes_of rest) b + t)) (module_at rest b))
      (append_assoc before s.rows.rows (rows_of_sections rest))
      (acts_at (before ++ s.rows.rows) rest chain b (omega arith)))
