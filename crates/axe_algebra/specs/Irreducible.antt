-- Irreducible modules, isomorphisms and annihilators (Holt and Rees 1994).
use Rattle.std.specs.Prelude.{◌≡◌, ℕ, ◌<◌, ◌⊎◌}
use Rattle.axe_algebra.specs.Field.{Field}
use Rattle.axe_algebra.specs.Vectors.{Vector, Matrix, HasLength, HasRowsOfLength, HasShape, multiply, dot}
use Rattle.axe_algebra.specs.Spans.{IsInvertible, SpansZero, SpansAll}
use Rattle.axe_algebra.specs.Modules.{Module, IsInvariant}

-- every list of rows with an invariant span spans zero or everything
pub record IsIrreducible (F : Field) (M : Module F) : Type 0 where
  pub spans : (k : ℕ) (v : Matrix F) → HasRowsOfLength F M.dimension v → IsInvariant F M k v →
      SpansZero F k v ⊎ SpansAll F M.dimension k v

-- T is an isomorphism from N's generators g' to M's generators g: invertible, with T g'_i = g_i T for every i
pub record IsIsomorphism (F : Field) (M N : Module F) (T : Matrix F) : Type 0 where
  pub dimension : M.dimension ≡ N.dimension
  pub count : M.count ≡ N.count
  pub shape : HasShape F M.dimension M.dimension T
  pub invertible : IsInvertible F M.dimension T
  pub intertwines : (i : ℕ) → i < M.count →
      multiply F M.dimension T (N.generator i) ≡ multiply F M.dimension (M.generator i) T

-- two modules are isomorphic: some matrix is an isomorphism
pub record AreIsomorphic (F : Field) (M N : Module F) : Type 0 where
  pub matrix : Matrix F
  pub isomorphism : IsIsomorphism F M N matrix

-- w is in the annihilator of the span of k rows of v: of length n, and v_t w^T = 0 for each row
pub record InAnnihilator (F : Field) (n k : ℕ) (v : Matrix F) (w : Vector F) : Type 0 where
  pub length : HasLength F n w
  pub orthogonal : (t : ℕ) → t < k → dot F n (v t) w ≡ F.zero
