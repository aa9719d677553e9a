-- Text as the list of its bytes, in ASCII: a text between quotes, a number in decimal and in hexadecimal, whose digits
-- are the toolchain's, and what it means that a text is put into a buffer, or written on a page over one. Definitions
-- only.
use Rattle.std.specs.Prelude.{ℕ, zero, suc, ◌+◌, ◌-◌, ◌^◌, ◌≡◌, ◌≤◌, min, cond, ltb, length}
use Rattle.std.specs.Prelude.{List, [] as none, ◌∷◌ as ◌then◌}
use Prim.Native.Char.{code}
use Prim.Native.String.{String, [], ◌∷◌}
use Rattle.std.specs.Borrow.{MutBor}
use Rattle.std.proofs.lemmas.List.Edits.{sets}
use Rattle.io.specs.Digits.{last_digits}
use Rattle.text.specs.declared.Page.{Page}

-- the codes of a text's characters
abbrev pub codes : String → List ℕ
codes [] = none
codes (c ∷ s) = code c then codes s

-- the fewest decimal digits, from 1 to k + 1, that hold n
unfoldable pub width : ℕ → ℕ → ℕ
width zero n = 1
width (suc k) n = cond (ltb n (10 ^ suc k)) (width k n) (suc (suc k))

-- a number below 10^10 in decimal, with no zero in front
unfoldable pub decimal : ℕ → List ℕ
decimal n = last_digits 10 (width 9 n) n

-- a number below 2^32 in eight hexadecimal digits
unfoldable pub hex : ℕ → List ℕ
hex n = last_digits 16 8 n

-- A text was put into a buffer at a place: the buffer before and after, and the place after the text. What lies past
-- the end of the buffer is not written.
pub record Put (before : List ℕ) (at : ℕ) (text : List ℕ) (after : List ℕ) (next : ℕ) : Type 0 where
  pub wrote : after ≡ sets before at text
  pub moved : next ≡ at + length text

-- the greatest place
abbrev pub most : ℕ
most = 2 ^ 64 - 1

-- a page over a lent buffer starts at a place: nothing is written yet
pub record Starts (buffer : MutBor (List ℕ)) (at : ℕ) (page : Page) : Type 0 where
  pub same_buffer : page.out.ghost_name ≡ buffer.ghost_name
  pub nothing_written : page.out.now ≡ buffer.now
  pub at_place : page.at ≡ at

-- A text was written on a page, from its place on, into the same buffer, which ends before the greatest place. What
-- lies past the end of the buffer is not written; the place goes on behind the text, at most to the greatest one.
pub record Written (before : Page) (text : List ℕ) (after : Page) : Type 0 where
  pub same_buffer : after.out.ghost_name ≡ before.out.ghost_name
  pub fits : length before.out.now ≤ most
  pub wrote : after.out.now ≡ sets before.out.now before.at text
  pub moved : after.at ≡ before.at + min (length text) (most - before.at)
