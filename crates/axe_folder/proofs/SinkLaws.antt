-- What writes add to what a writer holds, where that is known.
use Rattle.std.proofs.Common.{◌≡◌, ℕ, Option, Some, None, List, ◌++◌, length, take, ap, ◌∙◌, arith}
use Rattle.std.proofs.lemmas.List.{take_all}
use Rattle.std.specs.Io.KnownBytes.{Appends, Keeps}

-- before the first write nothing has changed
pub keeps-self : (held : Option (List ℕ)) → Keeps held held
keeps-self None = tt
keeps-self (Some xs) = λ _. xs

-- two writes that took nothing, one after the other
pub keeps-kept : (first middle last : Option (List ℕ)) → Keeps first middle → Keeps middle last → Keeps first last
keeps-kept None middle last a b = tt
keeps-kept (Some f) None last a b = absurd a
keeps-kept (Some f) (Some m) None a b = absurd b
keeps-kept (Some f) (Some m) (Some l) a b = b ∙ a

-- a write that took all of its bytes, after one that took nothing
pub appends-kept : (first middle last : Option (List ℕ)) (count : ℕ) (bytes : List ℕ) → Keeps first middle → count ≡ length bytes → Appends middle last (take count bytes) → Appends first last bytes
appends-kept None middle last count bytes kept all added = tt
appends-kept (Some f) None last count bytes kept all added = absurd kept
appends-kept (Some f) (Some m) None count bytes kept all added = absurd added
appends-kept (Some f) (Some m) (Some l) count bytes kept all added =
    added ∙ ap (λ xs. xs ++ take count bytes) kept ∙ ap (λ xs. f ++ xs) (take_all count bytes (omega (arith, all)))
