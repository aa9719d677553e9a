-- The next f32 down (`next_down`, specs/Number.antt) from a finite number above zero: the next up from there is that
-- number again, so it is below it, and the greatest below. Assumes nothing.
use mathlib.Core.Path.{◌≡◌, sym, ap, ◌∙◌, subst}
use mathlib.Core.Bool.{Bool, true, false, cond}
use Prim.Native.Nat.{ℕ, suc, ◌-◌, ◌<◌}
use native.Mathlib.Omega.{arith}
use lib.Dec.{T, not_T}
use lib.Ieee.{Float, fin, binary32, fits, lt, le, to_bits, of_bits, inf, nan}
use lib.Ieee.Bits.{is_true, of_bits-fits}
use lib.Ieee.Exact.{HasValue}
use lib.Ieee.Scale.{finite}
use Rattle.number.specs.Number.{zero32, next_up, next_down, inf_bits}
use Rattle.number.proofs.Units.{L, finite_is, Unit32, plus, of_float}
use Rattle.number.proofs.Patterns.{val, bits_plus, bits_are, bits_back}
use Rattle.number.proofs.NoNan.{no_nan_lt}
use Rattle.number.proofs.Neighbours.{bits_lt, some_bits}
use Rattle.number.proofs.Comparing.{not_lt_le}
use Rattle.number.proofs.Signs.{plus_up, above_plus}
use Rattle.number.proofs.NextUp.{next_of, next_up_above, next_up_least}

zero_plus : T (plus zero32)
unfolding of_bits
zero_plus = tt

plus_value : (x : Float) (u : ℕ) → HasValue x false u L → T (plus x)
plus_value nan u v = elim v [ ]
plus_value (inf _) u v = elim v [ ]
plus_value (fin false m e) u v = tt
plus_value (fin true m e) u v = subst (λ (s : Bool). T s) v.0 tt

module _ (x : Float) (u : ℕ) (f : T (fits binary32 x)) (i : Unit32 x u) (a : T (lt zero32 x)) where
  abbrev b : ℕ
  b = to_bits binary32 x

  some : 0 < b
  some = some_bits x f a

  small : b < inf_bits
  small = bits_lt x u f (above_plus zero32 x zero_plus a) i

  under : b - 1 < inf_bits
  under = let s = small in omega arith

  down_is : next_down x ≡ of_bits binary32 (b - 1)
  unfolding next_down
  down_is = ap (λ (c : Bool). cond c (of_bits binary32 (b - 1)) x) (is_true (lt zero32 x) a)

  -- what holds of the number with the pattern before
  by_bits : (P : Float → Type 0) → P (of_bits binary32 (b - 1)) → P (next_down x)
  by_bits P h = subst P (sym down_is) h

  down_fits : T (fits binary32 (next_down x))
  down_fits = by_bits (λ y. T (fits binary32 y)) (of_bits-fits binary32 (b - 1))

  down_plus : T (plus (next_down x))
  down_plus = by_bits (λ y. T (plus y)) (plus_value (of_bits binary32 (b - 1)) (val (b - 1)) (bits_plus (b - 1) under))

  down_finite : T (finite (next_down x))
  down_finite = by_bits (λ y. T (finite y)) (finite_is (of_bits binary32 (b - 1)) (val (b - 1)) (bits_are (b - 1) under))

  down_bits : suc (to_bits binary32 (next_down x)) ≡ b
  down_bits =
      let s = some in
      by_bits (λ y. suc (to_bits binary32 y) ≡ b) (ap suc (bits_back (b - 1) under) ∙ omega arith)

  down_units : (v : ℕ) × Unit32 (next_down x) v
  down_units = of_float (next_down x) down_fits down_finite (plus_up (next_down x) down_plus)

  pub next_up_down : next_up (next_down x) ≡ x
  next_up_down = sym (next_of (next_down x) x down_finite down_plus f (sym down_bits))

  in_order : suc (to_bits binary32 (next_down x)) < inf_bits
  in_order = let s = small in let e = down_bits in omega arith

  pub next_down_below : T (lt (next_down x) x)
  next_down_below =
      subst (λ (z : Float). T (lt (next_down x) z)) next_up_down
      (next_up_above (next_down x) down_units.0 down_fits down_plus down_units.1 in_order)

  pub next_down_greatest : (w : Float) → T (fits binary32 w) → T (lt w x) → T (le w (next_down x))
  next_down_greatest w g l =
      not_lt_le (next_down x) w (no_nan_lt (next_down x) x next_down_below).0 (no_nan_lt w x l).0
      (not_T (lt (next_down x) w) (λ h.
      next_up_least (next_down x) down_units.0 down_fits down_plus down_units.1 in_order w g h
      (subst (λ (z : Float). T (lt w z)) (sym next_up_down) l)))
