-- `smaller` and `larger` (specs/Number.antt) answer one of their arguments, so they keep whatever holds of both: a bound,
-- a sign, being no NaN; of the smaller also what its own test gives. `clamp` to 0..1 lies there. Assumes nothing.
use mathlib.Core.Bool.{Bool, true, false, not, cond}
use lib.Dec.{T}
use lib.Ieee.{Float, lt, le, is_nan, of_bits}
use Rattle.number.specs.Number.{zero32, one32, smaller, larger, clamp}
use Rattle.number.proofs.Comparing.{not_lt_le}

-- what holds of both holds of the one chosen
pub pick : (P : Float → Type 0) (b : Bool) (x y : Float) → P x → P y → P (cond b x y)
pick P true x y p q = p
pick P false x y p q = q

pub larger_keeps : (P : Float → Type 0) (a b : Float) → P a → P b → P (larger a b)
unfolding larger
larger_keeps P a b p q = pick P (lt a b) b a q p

pub smaller_keeps : (P : Float → Type 0) (a b : Float) → P a → P b → P (smaller a b)
unfolding smaller
smaller_keeps P a b p q = pick P (lt b a) b a q p

-- by the test: the second where it is below the first
pub smaller_by : (P : Float → Type 0) (a b : Float) → (T (lt b a) → P b) → (T (not (lt b a)) → P a) → P (smaller a b)
unfolding smaller
smaller_by P a b h k = go (lt b a) h k
  where
    go : (c : Bool) → (T c → P b) → (T (not c) → P a) → P (cond c b a)
    go true h k = h tt
    go false h k = k tt

-- ---- clamped to 0..1
zero_in : T (le zero32 zero32) × T (le zero32 one32)
unfolding le of_bits
zero_in = (tt, tt)

one_in : T (le zero32 one32) × T (le one32 one32)
unfolding le of_bits
one_in = (tt, tt)

closed_no_nan : T (not (is_nan zero32)) × T (not (is_nan one32))
unfolding is_nan of_bits
closed_no_nan = (tt, tt)

pub clamp_in : (x : Float) → T (not (is_nan x)) → T (le zero32 (clamp x zero32 one32))
    × T (le (clamp x zero32 one32) one32)
unfolding clamp
clamp_in x p =
    go (lt x zero32) (lt one32 x) (not_lt_le x zero32 p closed_no_nan.0) (not_lt_le one32 x closed_no_nan.1 p)
  where
    go : (a b : Bool) → (T (not a) → T (le zero32 x)) → (T (not b) → T (le x one32))
        → T (le zero32 (cond a zero32 (cond b one32 x))) × T (le (cond a zero32 (cond b one32 x)) one32)
    go true b f g = zero_in
    go false true f g = one_in
    go false false f g = (f tt, g tt)
