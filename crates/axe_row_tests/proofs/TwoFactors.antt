-- What holds of each of two factors holds of each of four that are these, each of them twice.
use Rattle.std.proofs.Common.{ℕ, zero, suc, ◌<◌, [], ◌∷◌, get_or, arith}

pub each_of_twice_two : (P : ℕ → Type 0) (a b : ℕ) → P a → P b → (k : ℕ) → k < 4 → P (get_or (a ∷ b ∷ b ∷ a ∷ []) k 0)
each_of_twice_two P a b first second zero within = first
each_of_twice_two P a b first second (suc zero) within = second
each_of_twice_two P a b first second (suc (suc zero)) within = second
each_of_twice_two P a b first second (suc (suc (suc zero))) within = first
each_of_twice_two P a b first second (suc (suc (suc (suc k)))) within = absurd (omega (arith, within))
