-- The generators of a module, as matrices of which a file of the whole module is made.
use Rattle.std.proofs.Common.{◌≡◌, sym, ◌∙◌, ap, ℕ, ◌<◌, List, [], length, get_or, arith}
use Rattle.std.specs.List.{All}
use Rattle.std.proofs.lemmas.List.{length-map, get_or-map}
use Rattle.std.proofs.lemmas.List.FromFn.{fill_by_all}
use Rattle.axe_matrix.specs.Matrices.{MatrixValue}
use Rattle.axe_spin.specs.Generators.{IsGeneratorMatrix}
use Rattle.axe_spin.specs.Modules.{ModuleValue, IsModule, generator_of, rows_of_each}
use Rattle.axe_file.specs.PackedModules.{AreGenerators}
use Rattle.axe_file.proofs.ModuleSpellings.{generators_over}
use Rattle.axe_plan.specs.Outputs.{matrices_of}

-- matrices that are the generators of a module, in their order
module _ (m : ModuleValue) (matrices : List MatrixValue) (lists : rows_of_each matrices ≡ m.generators)
    (each : All (IsGeneratorMatrix m.order m.dim) matrices) where
  many : length matrices ≡ length m.generators
  many = sym (length-map matrices (λ (a : MatrixValue). a.rows)) ∙ ap (λ (l : List (List (List ℕ))). length l) lists

  -- any matrix
  some : MatrixValue
  some = record { order = m.order; cols = m.dim; rows = [] }

  same : (i : ℕ) → i < length m.generators → get_or matrices i some ≡ generator_of m i
  same i below =
      let inside : i < length matrices = omega (arith, below, many) in
      let is : IsGeneratorMatrix m.order m.dim (get_or matrices i some) = each i some inside in
      let rows : (get_or matrices i some).rows ≡ get_or m.generators i [] =
      sym (get_or-map (λ (a : MatrixValue). a.rows) matrices i some [] inside) ∙ ap (λ (l : List (List (List ℕ))). get_or l i []) lists in
      λ j. record { order = is.field j; cols = is.columns j; rows = rows j }

  pub generators_are_those : matrices ≡ matrices_of m
  generators_are_those = fill_by_all (generator_of m) matrices (length m.generators) some many same

  -- a file of the whole module spells them
  pub generators_are_spelled : IsModule m → AreGenerators matrices
  generators_are_spelled is =
      generators_over m.order m.dim matrices (omega (arith, many, is.some_generator)) (omega (arith, many, is.generators_fit))
      (λ i d inside. let g = each i d inside in record { field = g.field; columns = g.columns; rows = g.rows; well_formed = g.well_formed })
