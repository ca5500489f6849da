-- What holds of each of two rows holds of the rows of the list of both.
use Rattle.std.proofs.Common.{ℕ, zero, suc, ◌<◌, [], ◌∷◌, get_or, arith}

pub each_of_two : {A : Type 0} (P : A → Type 0) (a b : A) → P a → P b → (k : ℕ) (d : A) → k < 2 → P (get_or (a ∷ b ∷ []) k d)
each_of_two P a b first second zero d within = first
each_of_two P a b first second (suc zero) d within = second
each_of_two P a b first second (suc (suc k)) d within = absurd (omega (arith, within))
