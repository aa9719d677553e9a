-- The roots of a quadratic are numbers, the smaller first, where c2 is not zero and the coefficients are at most
-- 2 ^ 22 in size, as a slope's are (the original's `assert!(x1 <= x2)`). Assumes nothing.
use Prim.Native.Nat.{ℕ}
use mathlib.Core.Path.{◌≡◌, refl, sym, subst}
use mathlib.Core.Bool.{Bool, true, false, not, ◌&&◌, cond}
use lib.Dec.{T, lit≤}
use lib.Ieee.{Float, fin, binary32, neg, lt, le, eq, is_nan, fits, of_bits, inf, nan}
use lib.Ieee.Fits.{sub-fits}
use lib.Ieee.Scale.{finite}
use Rattle.std.specs.Prelude.{Option, None, Some, IfSome}
use Rattle.std.proofs.lemmas.Float.{T_from_true}
use Rattle.number.specs.Number.{◌⊕◌, ◌⊖◌, ◌⊗◌, ◌⊘◌, zero32, one32, root_of}
use Rattle.number.proofs.Within.{Within, within_finite, within_more, add_within, sub_within, mul_within}
use Rattle.number.proofs.Comparing.{not_lt_le, lt_le}
use Rattle.number.proofs.SquareRoot.Bounds.{root_within}
use Rattle.polynomial_root.specs.Roots.{two32, stable, in_order, solved}
use Rattle.polynomial_root.proofs.Multiples.{twice_some}
use Rattle.polynomial_root.proofs.Defined.{quotient_no_nan, two_within}

-- two numbers in order
pub record Ordered (a b : Float) : Type 0 where
  pub first : T (not (is_nan a))
  pub second : T (not (is_nan b))
  pub order : T (le a b)

abbrev pub InOrder : Option (Float × Float) → Type 0
InOrder s = IfSome s (λ e. Ordered e.0 e.1)

no_right : (b : Bool) {c : Bool} → c ≡ false → (b && c) ≡ false
no_right true h = h
no_right false h = refl

-- ---- the parts of the definition, and their sizes
abbrev four32 : Float
four32 = of_bits binary32 0x4080_0000

abbrev discriminant : Float → Float → Float → Float
discriminant c0 c1 c2 = c1 ⊗ c1 ⊖ four32 ⊗ c2 ⊗ c0

abbrev sign_of : Float → Float
sign_of c1 = cond (lt c1 zero32) (neg one32) one32

abbrev direct : Float → Float → Float
direct c2 s = s ⊘ (two32 ⊗ c2)

abbrev other : Float → Float → Float → Float
other c0 c2 s = cond (eq s zero32) (direct c2 s) (two32 ⊗ c0 ⊘ s)

four_within : Within 2 four32
unfolding of_bits
four_within = lit≤ tt

sign_within : (c1 : Float) → Within 0 (sign_of c1)
unfolding neg of_bits
sign_within c1 = go (lt c1 zero32)
  where
    go : (b : Bool) → Within 0 (cond b (neg one32) one32)
    go true = lit≤ tt
    go false = lit≤ tt

neg_within : (a : ℕ) (x : Float) → Within a x → Within a (neg x)
unfolding neg
neg_within a nan h = elim h [ ]
neg_within a (inf _) h = elim h [ ]
neg_within a (fin s m e) h = h

module _ (c0 c1 c2 : Float) (f : T (fits binary32 c2)) (w0 : Within 22 c0) (w1 : Within 22 c1) (w2 : Within 22 c2)
    (n : eq c2 zero32 ≡ false) where
  discriminant_within : Within 48 (discriminant c0 c1 c2)
  discriminant_within =
      let a : Within 46 (c1 ⊗ c1) = within_more 44 46 (c1 ⊗ c1) (lit≤ tt) (mul_within 22 22 c1 c1 (lit≤ tt) w1 w1) in
      let b : Within 46 (four32 ⊗ c2 ⊗ c0) =
      mul_within 24 22 (four32 ⊗ c2) c0 (lit≤ tt) (mul_within 2 22 four32 c2 (lit≤ tt) four_within w2) w0 in
      within_more 47 48 (discriminant c0 c1 c2) (lit≤ tt) (sub_within 46 (c1 ⊗ c1) (four32 ⊗ c2 ⊗ c0) (lit≤ tt) a b)

  abbrev s : Float
  s = stable c1 (discriminant c0 c1 c2)

  stable_finite : T (finite s)
  stable_finite =
      let d = discriminant c0 c1 c2 in
      let r = root_within 24 d (lit≤ tt) (sub-fits binary32 (c1 ⊗ c1) (four32 ⊗ c2 ⊗ c0)) discriminant_within in
      let x = mul_within 0 24 (sign_of c1) (root_of d) (lit≤ tt) (sign_within c1) r in
      within_finite 25 s
      (neg_within 25 (c1 ⊕ sign_of c1 ⊗ root_of d)
      (add_within 24 c1 (sign_of c1 ⊗ root_of d) (lit≤ tt) (within_more 22 24 c1 (lit≤ tt) w1) x))

  direct_number : T (not (is_nan (direct c2 s)))
  direct_number =
      quotient_no_nan s (two32 ⊗ c2) stable_finite
      (within_finite 23 (two32 ⊗ c2) (mul_within 1 22 two32 c2 (lit≤ tt) two_within w2))
      (no_right (eq s zero32) (twice_some c2 f w2 n))

  other_number : T (not (is_nan (other c0 c2 s)))
  other_number = go (eq s zero32) refl
    where
      go : (b : Bool) → eq s zero32 ≡ b → T (not (is_nan (cond b (direct c2 s) (two32 ⊗ c0 ⊘ s))))
      go true h = direct_number
      go false h =
          quotient_no_nan (two32 ⊗ c0) s
          (within_finite 23 (two32 ⊗ c0) (mul_within 1 22 two32 c0 (lit≤ tt) two_within w0)) stable_finite
          (no_right (eq (two32 ⊗ c0) zero32) h)

  pub solved_ordered : InOrder (solved c0 c1 c2)
  unfolding solved
  solved_ordered = go (lt (discriminant c0 c1 c2) zero32)
    where
      sort : (a b : Float) → T (not (is_nan a)) → T (not (is_nan b)) → InOrder (Some (in_order a b))
      sort a b p q = pick (lt a b) refl
        where
          pick : (c : Bool) → lt a b ≡ c → InOrder (Some (cond c (a, b) (b, a)))
          pick true h = record { first = p; second = q; order = lt_le a b (T_from_true _ h) }
          pick false h = record {
            first = q;
            second = p;
            order = not_lt_le a b p q (subst (λ (c : Bool). T (not c)) (sym h) tt);
          }

      go : (b : Bool) → InOrder (cond b None (Some (in_order (other c0 c2 s) (direct c2 s))))
      go true = tt
      go false = sort (other c0 c2 s) (direct c2 s) other_number direct_number
