-- What a read that fills a buffer promises. Definitions only.
use Rattle.std.specs.Prelude.{ℕ, ◌<◌, List, length, take, Option, Result, MatchResult}
use Rattle.std.specs.Io.KnownBytes.{Consumes, IsAtEnd}

-- The bytes that an input has left before and after the read, where they are known, what the read answers, and the
-- buffer: it holds the next bytes at its start, as many as the answer says, and is full or the input has ended. Where
-- the read fails it holds those that were read until then.
abbrev pub Filled : {E : Type 0} → Option (List ℕ) → Option (List ℕ) → Result ℕ E → List ℕ → Type 0
Filled before after answer buffer =
    MatchResult answer
    (λ n. Consumes before after (take n buffer) × (n < length buffer → IsAtEnd after))
    (λ _. (n : ℕ) × Consumes before after (take n buffer))
