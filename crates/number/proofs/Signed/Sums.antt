-- Sums and differences of finite f32 of either sign, in units of 2 ^ -149: what is handed to `round`, and that a
-- difference has the exact distance of both numbers, rounded. Assumes nothing.
use mathlib.Core.Path.{◌≡◌, refl, sym, ap, ◌∙◌, subst}
use mathlib.Core.Bool.{Bool, true, false, not}
use Prim.Native.Nat.{ℕ, ◌+◌, ◌-◌, ◌*◌, ◌≤◌, ◌<◌}
use native.Mathlib.Nat.{mul-one, mul_comm, mul-pos, mul-lt-mul_of_pos_right, lt_of_mul-lt-mul_right}
use native.Mathlib.Nat.{add-mul, mul-sub}
use native.Mathlib.Omega.{arith}
use lib.Dec.{T, ltb, ltb→lt, lt→ltb}
use lib.Pow.{pow_pos}
use borrow.Author.Tests.{ltb-true, ltb-false}
use lib.Ieee.{Float, fin, binary32, up, down, round, neg, sum, sub, fits, inf, nan}
use lib.Ieee.Exact.{HasValue}
use lib.Ieee.Fits.{down_pos}
use lib.Ieee.Scale.{finite, round_same}
use Rattle.number.specs.Number.{◌⊕◌, ◌⊖◌, units_apart, apart}
use Rattle.number.proofs.Rounding.{rnd}
use Rattle.number.proofs.Units.{L, left, right, same_test}
use Rattle.number.proofs.Sums.{add_opens}
use Rattle.number.proofs.Sums.Rounded.{sum_ff}
use Rattle.number.proofs.Zeros.{by_tests}
use Rattle.number.proofs.Signed.{own_value, value_units, value_minus, value_neg, round_whole}

-- ---- sums
pub ltb_times : (a b p : ℕ) → 0 < p → ltb (a * p) (b * p) ≡ ltb a b
ltb_times a b p P =
    same_test (ltb (a * p) (b * p)) (ltb a b) (λ t. lt→ltb a b (lt_of_mul-lt-mul_right p (ltb→lt (a * p) (b * p) t)))
    (λ t. lt→ltb (a * p) (b * p) (mul-lt-mul_of_pos_right (ltb→lt a b t) P))

-- what a sum of fractions over one number hands to `round`: a sign, and how far the one is from the other turned round,
-- multiplied with the fractions
abbrev pub Summed : Bool → ℕ → Bool → ℕ → Type 0
Summed s a r b =
    (o : Bool)
    × ((p c : ℕ) → 0 < p
    → sum binary32 s (a * p) r (b * p) c ≡ round binary32 o (units_apart s a (not r) b * p) c)

pub summed : (s : Bool) (a : ℕ) (r : Bool) (b : ℕ) → Summed s a r b
unfolding sum
summed s a r b = go s r (ltb a b) (ltb b a) refl (λ p P. ltb_times a b p P) (λ p P. ltb_times b a p P)
  where
    plus_times : (p : ℕ) → a * p + b * p ≡ (a + b) * p
    plus_times p = sym (add-mul a b p)

    take_times : (x y p : ℕ) → x * p - y * p ≡ (x - y) * p
    take_times x y p =
        ap (λ (z : ℕ). z - y * p) (mul_comm x p) ∙ ap (λ (z : ℕ). p * x - z) (mul_comm y p) ∙ sym (mul-sub p x y)
        ∙ mul_comm p (x - y)

    -- one of both differences is zero
    first : (p : ℕ) → ltb a b ≡ false → a * p - b * p ≡ (a - b + (b - a)) * p
    first p e =
        let l : b ≤ a = ltb-false a b e in
        take_times a b p ∙ ap (λ (z : ℕ). z * p) (omega arith)

    second : (p : ℕ) → ltb a b ≡ true → b * p - a * p ≡ (a - b + (b - a)) * p
    second p e =
        let l : a < b = ltb-true a b e in
        take_times b a p ∙ ap (λ (z : ℕ). z * p) (omega arith)

    tests : (s r : Bool) (p c : ℕ) (less more : Bool) → ltb (a * p) (b * p) ≡ less → ltb (b * p) (a * p) ≡ more
        → by_tests s (a * p) r (b * p) c (ltb (a * p) (b * p)) (ltb (b * p) (a * p))
        ≡ by_tests s (a * p) r (b * p) c less more
    tests s r p c less more e f =
        ap (λ (z : Bool). by_tests s (a * p) r (b * p) c z (ltb (b * p) (a * p))) e
        ∙ ap (λ (z : Bool). by_tests s (a * p) r (b * p) c less z) f

    go : (s r less more : Bool) → ltb a b ≡ less → ((p : ℕ) → 0 < p → ltb (a * p) (b * p) ≡ less)
        → ((p : ℕ) → 0 < p → ltb (b * p) (a * p) ≡ more)
        → (o : Bool) × ((p c : ℕ) → 0 < p
        → by_tests s (a * p) r (b * p) c (ltb (a * p) (b * p)) (ltb (b * p) (a * p))
        ≡ round binary32 o (units_apart s a (not r) b * p) c)
    go true true less more l e f = (true, λ p c P. ap (λ (x : ℕ). round binary32 true x c) (plus_times p))
    go false false less more l e f = (false, λ p c P. ap (λ (x : ℕ). round binary32 false x c) (plus_times p))
    go true false true more l e f = (
      false,
      λ p c P. tests true false p c true more (e p P) (f p P) ∙ ap (λ (x : ℕ). round binary32 false x c) (second p l),
    )
    go true false false more l e f = (
      more,
      λ p c P. tests true false p c false more (e p P) (f p P) ∙ ap (λ (x : ℕ). round binary32 more x c) (first p l),
    )
    go false true true more l e f = (
      true,
      λ p c P. tests false true p c true more (e p P) (f p P) ∙ ap (λ (x : ℕ). round binary32 true x c) (second p l),
    )
    go false true false more l e f = (
      false,
      λ p c P. tests false true p c false more (e p P) (f p P) ∙ ap (λ (x : ℕ). round binary32 false x c) (first p l),
    )

-- over another number
pub sum_over : (s : Bool) (a : ℕ) (r : Bool) (b c p : ℕ) → 0 < c → 0 < p
    → sum binary32 s a r b c ≡ sum binary32 s (a * p) r (b * p) (c * p)
sum_over s a r b c p C P =
    let (o, is) = summed s a r b in
    let n = units_apart s a (not r) b in
    ap (λ (x : ℕ). sum binary32 s x r b c) (sym (mul-one a))
    ∙ ap (λ (x : ℕ). sum binary32 s (a * 1) r x c) (sym (mul-one b))
    ∙ is 1 c (pow_pos 0)
    ∙ ap (λ (x : ℕ). round binary32 o x c) (mul-one n)
    ∙ round_same binary32 o n c (n * p) (c * p) C (mul-pos C P) (regroup n c p)
    ∙ sym (is p (c * p) P)
  where
    regroup : (n c p : ℕ) → n * (c * p) ≡ n * p * c
    regroup n c p = omega arith

-- of numbers that are so many units
pub add_units : (x y : Float) (s r : Bool) (u v : ℕ) → HasValue x s u L → HasValue y r v L
    → x ⊕ y ≡ sum binary32 s u r v L
add_units nan y s r u v p q = elim p [ ]
add_units (inf _) y s r u v p q = elim p [ ]
add_units (fin s' m e) nan s r u v p q = elim q [ ]
add_units (fin s' m e) (inf _) s r u v p q = elim q [ ]
add_units (fin s' m e) (fin r' n d) s r u v p q =
    let A = m * up e * down d in
    let B = n * up d * down e in
    let C = down e * down d in
    let K = mul-pos (down_pos e) (down_pos d) in
    add_opens s' m e r' n d
    ∙ ap (λ (b : Bool). sum binary32 b A r' B C) p.0
    ∙ ap (λ (b : Bool). sum binary32 s A b B C) q.0
    ∙ sum_over s A r B C L K (pow_pos 149)
    ∙ ap (λ (x : ℕ). sum binary32 s x r (B * L) (C * L))
    (left (m * up e) (n * up d) (down e) (down d) L u v (down_pos e) (down_pos d) (pow_pos 149) p.1 q.1)
    ∙ ap (λ (x : ℕ). sum binary32 s (u * C) r x (C * L))
    (right (m * up e) (n * up d) (down e) (down d) L u v (down_pos e) (down_pos d) (pow_pos 149) p.1 q.1)
    ∙ ap (sum binary32 s (u * C) r (v * C)) (mul_comm C L)
    ∙ sym (sum_over s u r v L C (pow_pos 149) K)

-- ---- sums and differences that stay finite
module _ (x y : Float) (s r : Bool) (u v : ℕ) (p : HasValue x s u L) (q : HasValue y r v L) where
  add_value : T (finite (x ⊕ y)) → (o : Bool) × HasValue (x ⊕ y) o (rnd (units_apart s u (not r) v) 1) L
  add_value f =
      let (o, is) = summed s u r v in
      let n = units_apart s u (not r) v in
      let e : x ⊕ y ≡ round binary32 o n L =
      add_units x y s r u v p q ∙ sum_over s u r v L 1 (pow_pos 149) (pow_pos 0) ∙ is 1 (L * 1) (pow_pos 0)
      ∙ ap (λ (w : ℕ). round binary32 o w (L * 1)) (mul-one n)
      in (
        o,
        subst (λ (z : Float). HasValue z o (rnd n 1) L) (sym e)
            (round_whole o n (subst (λ (z : Float). T (finite z)) e f)),
      )

-- of two from zero up
pub plus_value : (x y : Float) (u v : ℕ) → HasValue x false u L → HasValue y false v L → T (finite (x ⊕ y))
    → HasValue (x ⊕ y) false (rnd (u + v) 1) L
plus_value x y u v p q f =
    let e : x ⊕ y ≡ round binary32 false (u + v) L = add_units x y false false u v p q ∙ sum_ff u v L in
    subst (λ (z : Float). HasValue z false (rnd (u + v) 1) L) (sym e)
    (round_whole false (u + v) (subst (λ (z : Float). T (finite z)) e f))

-- a difference has the exact distance, rounded
pub sub_value : (x y : Float) (s r : Bool) (u v : ℕ) → HasValue x s u L → HasValue y r v L → T (finite (x ⊖ y))
    → (o : Bool) × HasValue (x ⊖ y) o (rnd (units_apart s u r v) 1) L
unfolding sub
sub_value x y s r u v p q f =
    let (o, is) = add_value x (neg y) s (not r) u v p (value_neg y r v q) f in
    (o, subst (λ (b : Bool). HasValue (x ⊖ y) o (rnd (units_apart s u b v) 1) L) (not_not r) is)
  where
    not_not : (b : Bool) → not (not b) ≡ b
    not_not true = refl
    not_not false = refl

pub sub_apart : (x y : Float) → T (fits binary32 x) → T (finite x) → T (fits binary32 y) → T (finite y)
    → T (finite (x ⊖ y)) → (o : Bool) × HasValue (x ⊖ y) o (rnd (apart x y) 1) L
unfolding apart
sub_apart x y f g h k l =
    let (s, u, p) = own_value x f g in
    let (r, v, q) = own_value y h k in
    let (o, is) = sub_value x y s r u v p q l in
    let e : apart x y ≡ units_apart s u r v =
    rw (value_minus x s u p, value_units x s u p, value_minus y r v q, value_units y r v q) in
    (o, subst (λ (n : ℕ). HasValue (x ⊖ y) o (rnd n 1) L) (sym e) is)
