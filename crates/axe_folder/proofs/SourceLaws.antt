-- What reads take from a source, what a turn of a bounded read makes of one, and what all turns make of it.
use Rattle.std.proofs.Common.{◌≡◌, ℕ, ◌+◌, ◌<◌, ◌≤◌, Bool, false, eqb, eqb-true, Option, Some, None, IfSome, List, [], ◌++◌, length, take, Result, Ok, Err, Vec, ap, sym, ◌∙◌, subst, append_assoc, append-nil, length-append, arith}
use Rattle.std.specs.Bool.{⊤}
use Rattle.std.specs.Result.{IsErrAnd}
use Rattle.std.proofs.lemmas.List.{take-append-le, length-take-le}
use Rattle.std.proofs.lemmas.Bool.{false≢true}
use Rattle.std.specs.Io.KnownBytes.{Consumes, Keeps, IsAtEnd}
use Rattle.axe_folder.specs.declared.fault.FolderFault.{FolderFault}
use Rattle.axe_folder.specs.declared.fault.FolderFault.TheVariants.{Missing, TooLong, Device, Memory}
use Rattle.axe_folder.specs.Reading.{ReadsPiece, ReadsWithin}

-- two reads, one after the other
pub consumes-append : (first middle last : Option (List ℕ)) (xs ys : List ℕ) → Consumes first middle xs → Consumes middle last ys → Consumes first last (xs ++ ys)
consumes-append None middle last xs ys a b = tt
consumes-append (Some f) None last xs ys a b = absurd a
consumes-append (Some f) (Some m) None xs ys a b = absurd b
consumes-append (Some f) (Some m) (Some l) xs ys a b = a ∙ ap (λ rest. xs ++ rest) b ∙ sym (append_assoc xs ys l)

-- what was taken, and the piece after it
pub consumes-more : (first middle last : Option (List ℕ)) (bytes piece more : List ℕ) → Consumes first middle bytes → Consumes middle last piece → more ≡ bytes ++ piece → Consumes first last more
consumes-more first middle last bytes piece more taken next is =
    subst (λ xs. Consumes first last xs) (sym is) (consumes-append first middle last bytes piece taken next)

-- before the first read nothing is taken
pub consumes-nothing : (source : Option (List ℕ)) (bytes : List ℕ) → bytes ≡ [] → Consumes source source bytes
consumes-nothing None bytes none = tt
consumes-nothing (Some xs) bytes none = sym (ap (λ b. b ++ xs) none)

-- a read that fails takes nothing
consumes-none : (old new : Option (List ℕ)) → Keeps old new → Consumes old new []
consumes-none None new kept = tt
consumes-none (Some xs) None kept = absurd kept
consumes-none (Some xs) (Some ys) kept = sym kept

-- a turn whose read fails has an empty piece: it may have been interrupted
pub ReadsPiece-interrupted : (bytes : List ℕ) (old new : Option (List ℕ)) (limit : ℕ) → Keeps old new → length bytes ≤ limit → ReadsPiece (Ok false) bytes bytes old new limit
ReadsPiece-interrupted bytes old new limit kept within = record {
  piece = [];
  taken = consumes-none old new kept;
  frugal = omega arith;
  outcome = (sym (append-nil bytes), within, λ ended. absurd (false≢true ended));
}

pub ReadsPiece-failed : (bytes : List ℕ) (old new : Option (List ℕ)) (limit : ℕ) → Keeps old new → length bytes ≤ limit → ReadsPiece (Err Device) bytes bytes old new limit
ReadsPiece-failed bytes old new limit kept within =
    record { piece = []; taken = consumes-none old new kept; frugal = omega arith; outcome = tt }

-- a turn whose piece there is no memory for, of at most as many bytes as keep the limit
pub ReadsPiece-unstored : (result : Result Bool FolderFault) (bytes buffer after : List ℕ) (count : ℕ) (old new : Option (List ℕ)) (limit : ℕ)
    → IsErrAnd result (λ fault. fault ≡ Memory) → after ≡ bytes → Consumes old new (take count buffer) → count ≤ length buffer → length bytes + count ≤ limit → ReadsPiece result bytes after old new limit
ReadsPiece-unstored (Ok ended) bytes buffer after count old new limit memory same taken within fits = absurd memory
ReadsPiece-unstored (Err fault) bytes buffer after count old new limit memory same taken within fits =
    subst (λ f. ReadsPiece (Err f) bytes after old new limit) (sym memory) record {
      piece = take count buffer;
      taken = taken;
      frugal = omega (arith, length-take-le count buffer within);
      outcome = tt;
    }

-- a turn whose piece goes past the limit
pub ReadsPiece-too_long : (bytes buffer : List ℕ) (count : ℕ) (old new : Option (List ℕ)) (limit : ℕ)
    → Consumes old new (take count buffer) → count ≤ length buffer → length bytes + length buffer ≤ limit + 1 → limit < length bytes + count → ReadsPiece (Err TooLong) bytes bytes old new limit
ReadsPiece-too_long bytes buffer count old new limit taken within fits past = record {
  piece = take count buffer;
  taken = taken;
  frugal = omega (arith, length-take-le count buffer within);
  outcome = omega (arith, length-take-le count buffer within);
}

-- a turn whose piece is appended from the front of a longer buffer; the source has ended where the piece is empty
pub ReadsPiece-appended : (bytes buffer rest after : List ℕ) (count : ℕ) (old new : Option (List ℕ)) (limit : ℕ)
    → Consumes old new (take count buffer) × (count ≡ 0 → 0 < length buffer → IsAtEnd new) → count ≤ length buffer → 0 < length buffer → length bytes + count ≤ limit
    → after ≡ bytes ++ take count (buffer ++ rest) → ReadsPiece (Ok (eqb count 0)) bytes after old new limit
ReadsPiece-appended bytes buffer rest after count old new limit read within some fits appended =
    let after_is : after ≡ bytes ++ take count buffer = appended ∙ ap (λ piece. bytes ++ piece) (take-append-le count buffer rest within) in
    let more : length after ≡ length bytes + count = ap length after_is ∙ length-append bytes (take count buffer) ∙ ap (λ n. length bytes + n) (length-take-le count buffer within) in
    record {
      piece = take count buffer;
      taken = read.0;
      frugal = omega (arith, length-take-le count buffer within);
      outcome = (after_is, omega (arith, more), λ ended. read.1 (eqb-true count 0 ended) some);
    }

-- a source that was read to its end within the limit
pub ReadsWithin-at_end : {Z : Type 0} (source rest : Option (List ℕ)) (bytes : Vec ℕ Z) (limit : ℕ)
    → Consumes source rest bytes.items → IsAtEnd rest → length bytes.items ≤ limit → IfSome source (λ known. ReadsWithin (Ok bytes) known limit)
ReadsWithin-at_end None rest bytes limit taken end within = tt
ReadsWithin-at_end (Some xs) None bytes limit taken end within = absurd taken
ReadsWithin-at_end (Some xs) (Some ys) bytes limit taken end within =
    let all : xs ≡ bytes.items = taken ∙ ap (λ rest. bytes.items ++ rest) end ∙ append-nil bytes.items in
    (sym all, omega (arith, ap length all))

-- of a source that fails nothing is said
pub says_nothing : (source : Option (List ℕ)) → IfSome source (λ known. ⊤)
says_nothing None = tt
says_nothing (Some xs) = tt

-- a source of which more than the limit was read is longer
longer_source : (source rest : Option (List ℕ)) (bytes : List ℕ) (limit : ℕ) → Consumes source rest bytes → limit < length bytes → IfSome source (λ known. limit < length known)
longer_source None rest bytes limit taken past = tt
longer_source (Some xs) None bytes limit taken past = absurd taken
longer_source (Some xs) (Some ys) bytes limit taken past = omega (arith, ap length taken, length-append bytes ys)

-- a turn that fails, after some bytes
failed_turn : (Z : Type 0) (fault : FolderFault) (source middle rest : Option (List ℕ)) (bytes after : List ℕ) (limit : ℕ)
    → Consumes source middle bytes → ReadsPiece (Err fault) bytes after middle rest limit → IfSome source (λ known. ReadsWithin {Z = Z} (Err fault) known limit)
failed_turn Z Missing source middle rest bytes after limit taken turn = absurd turn.outcome
failed_turn Z TooLong source middle rest bytes after limit taken turn =
    longer_source source rest (bytes ++ turn.piece) limit (consumes-append source middle rest bytes turn.piece taken turn.taken) (omega (arith, turn.outcome, length-append bytes turn.piece))
failed_turn Z Device source middle rest bytes after limit taken turn = says_nothing source
failed_turn Z Memory source middle rest bytes after limit taken turn = says_nothing source

pub ReadsWithin-failed : {Z : Type 0} (result : Result (Vec ℕ Z) FolderFault) (fault : FolderFault) (source middle rest : Option (List ℕ)) (bytes after : List ℕ) (limit : ℕ)
    → IsErrAnd result (λ f. f ≡ fault) → Consumes source middle bytes → ReadsPiece (Err fault) bytes after middle rest limit → IfSome source (λ known. ReadsWithin result known limit)
ReadsWithin-failed (Ok read) fault source middle rest bytes after limit is taken turn = absurd is
ReadsWithin-failed {Z} (Err f) fault source middle rest bytes after limit is taken turn =
    subst (λ f. IfSome source (λ known. ReadsWithin {Z = Z} (Err f) known limit)) (sym is) (failed_turn Z fault source middle rest bytes after limit taken turn)
