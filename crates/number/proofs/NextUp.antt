-- The next f32 up (`next_up`, specs/Number.antt) from zero up: it has the next bit pattern, and is the least above.
-- Assumes nothing.
use mathlib.Core.Path.{◌≡◌, refl, sym, ap, ◌∙◌, subst}
use mathlib.Core.Bool.{false}
use Prim.Native.Nat.{ℕ, zero, suc, ◌<◌}
use native.Mathlib.Nat.{le_of_eq, lt_of_le_of_lt}
use native.Mathlib.Omega.{arith}
use lib.Dec.{T}
use lib.IntN.{ℤ}
use lib.Ieee.{Float, fin, binary32, fits, lt, to_bits, of_bits, inf, nan}
use lib.Ieee.Bits.{of_bits-to_bits}
use lib.Ieee.Scale.{finite}
use Rattle.number.specs.Number.{next_up, inf_bits}
use Rattle.number.proofs.Units.{none_is, Is, finite_is, Unit32, plus, pattern_is, says_lt, lt_says}
use Rattle.number.proofs.Patterns.{val, val_next, val_back, bits_are}
use Rattle.number.proofs.Neighbours.{bits_val, after, below_finite}

-- ---- from zero up the next value has the next pattern
zero_pattern : (e : ℤ) → to_bits binary32 (fin false 0 e) ≡ 0
unfolding lib.Ieee.size
zero_pattern e = pattern_is (fin false 0 e) 0 tt (none_is e)

pub next_up_is : (x : Float) → T (finite x) → T (plus x) → next_up x ≡ of_bits binary32 (suc (to_bits binary32 x))
unfolding next_up
next_up_is nan f p = elim f [ ]
next_up_is (inf _) f p = elim f [ ]
next_up_is (fin mathlib.Core.Bool.true _ e) f p = elim p [ ]
next_up_is (fin false zero e) f p = ap (λ (b : ℕ). of_bits binary32 (suc b)) (sym (zero_pattern e))
next_up_is (fin false (suc m) e) f p = refl

pub next_of : (x y : Float) → T (finite x) → T (plus x) → T (fits binary32 y)
    → to_bits binary32 y ≡ suc (to_bits binary32 x) → y ≡ next_up x
next_of x y f p g h = sym (of_bits-to_bits binary32 y g) ∙ ap (of_bits binary32) h ∙ sym (next_up_is x f p)

-- ---- it is the least above: of an x that is u units, short of the largest
module _ (x : Float) (u : ℕ) (f : T (fits binary32 x)) (p : T (plus x)) (i : Unit32 x u)
    (h : suc (to_bits binary32 x) < inf_bits) where
  abbrev b : ℕ
  b = to_bits binary32 x

  abbrev v : ℕ
  v = val (suc b)

  next_is : Is (next_up x) v
  next_is = subst (λ (y : Float). Is y v) (sym (next_up_is x (finite_is x u i.is) p)) (bits_are (suc b) h)

  below_next : u < v
  below_next = lt_of_le_of_lt (le_of_eq (sym (bits_val x u f p i))) (val_next b)

  pub next_up_above : T (lt x (next_up x))
  next_up_above = says_lt x (next_up x) u v i.is next_is below_next

  pub next_up_least : (w : Float) → T (fits binary32 w) → T (lt x w) → T (lt w (next_up x)) → ⊥
  next_up_least w g a c =
      let k = after x w u i.is g (below_finite x w (next_up x) u v i.is next_is a c) a in
      let r = k.1.0 in
      let j = k.1.1 in
      let own = bits_val w r g k.0 j in
      let low = lt_says x w u r i.is j.is a in
      let high = lt_says w (next_up x) r v j.is next_is c in
      let m = val_back b (to_bits binary32 w) (rw (bits_val x u f p i, own) low) in
      let n = val_back (to_bits binary32 w) (suc b) (rw own high) in
      clash b (to_bits binary32 w) m n
    where
      clash : (a b : ℕ) → a < b → b < suc a → ⊥
      clash a b h k = omega arith
