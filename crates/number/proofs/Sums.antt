-- The sum and the difference of f32 values that are not below zero, in units of 2 ^ -149: each is the exact one,
-- rounded by `rnd`. Assumes nothing.
pub mod Rounded
pub use Rounded.*
use mathlib.Core.Path.{◌≡◌, refl, sym, ap, ◌∙◌, subst}
use mathlib.Core.Bool.{Bool, true, false, not}
use Prim.Native.Nat.{ℕ, ◌+◌, ◌-◌, ◌*◌, ◌≤◌, ◌<◌}
use native.Mathlib.Nat.{le_trans, le_of_eq, zero-mul, add-mul, mul-pos, mul-le-mul_right, le_of_mul-le-mul_right}
use native.Mathlib.Omega.{arith}
use lib.IntN.{ℤ}
use lib.Pow.{pow_pos}
use lib.Ieee.{Float, fin, binary32, up, down, round, sum, add, sub, inf, nan}
use lib.Ieee.Fits.{up_pos, down_pos}
use Rattle.number.proofs.Rounding.{rnd}
use Rattle.number.proofs.Units.{L, Top, Is, size_is, left, right, no_size, none_of}

-- ---- the sum
no_take : (a b : ℕ) → b ≡ 0 → a - b ≡ a + b
no_take a b h = omega arith

no_take' : (a b : ℕ) → a ≡ 0 → b - a ≡ a + b
no_take' a b h = omega arith

pub none_le : (a b : ℕ) → b ≡ 0 → b ≤ a
none_le a b h = omega arith

pub add_is : (x y : Float) (u v : ℕ) → Is x u → Is y v → rnd (u + v) 1 < Top → Is (add binary32 x y) (rnd (u + v) 1)
add_is nan y u v p q h = elim p [ ]
add_is (inf _) y u v p q h = elim p [ ]
add_is (fin s m e) nan u v p q h = elim q [ ]
add_is (fin s m e) (inf _) u v p q h = elim q [ ]
add_is (fin s m e) (fin t n d) u v p q h =
    let A = m * up e * down d in
    let B = n * up d * down e in
    let C = down e * down d in
    let l : A * L ≡ u * C =
    left (m * up e) (n * up d) (down e) (down d) L u v (down_pos e) (down_pos d) (pow_pos 149) (size_is s m e u p)
    (size_is t n d v q) in
    let r : B * L ≡ v * C =
    right (m * up e) (n * up d) (down e) (down d) L u v (down_pos e) (down_pos d) (pow_pos 149) (size_is s m e u p)
    (size_is t n d v q) in
    subst (λ (z : Float). Is z (rnd (u + v) 1)) (sym (add_opens s m e t n d))
    (go s t p q A B C refl refl (mul-pos (down_pos e) (down_pos d))
    (add-mul A B L ∙ ap (λ (z : ℕ). z + B * L) l ∙ ap (λ (z : ℕ). u * C + z) r ∙ sym (add-mul u v C)))
  where
    put : (x y : Float) → x ≡ y → Is y (rnd (u + v) 1) → Is x (rnd (u + v) 1)
    put x y e i = subst (λ (z : Float). Is z (rnd (u + v) 1)) (sym e) i

    both : u ≡ 0 → v ≡ 0 → u + v ≡ 0
    both a b = omega arith

    go : (s t : Bool) → Is (fin s m e) u → Is (fin t n d) v → (A B C : ℕ) → A ≡ m * up e * down d
        → B ≡ n * up d * down e → 0 < C → (A + B) * L ≡ (u + v) * C → Is (sum binary32 s A t B C) (rnd (u + v) 1)
    go false false p q A B C a b K k =
        put (sum binary32 false A false B C) (round binary32 false (A + B) C) (sum_ff A B C)
        (rounded (A + B) C (u + v) K k h)
    go false true p q A B C a b K k =
        let z : B ≡ 0 = b ∙ no_size n (up d) (down e) q.0 in
        put (sum binary32 false A true B C) (round binary32 false (A + B) C)
        (sum_ft A B C (none_le A B z) ∙ ap (λ (x : ℕ). round binary32 false x C) (no_take A B z))
        (rounded (A + B) C (u + v) K k h)
    go true false p q A B C a b K k =
        let z : A ≡ 0 = a ∙ no_size m (up e) (down d) p.0 in
        put (sum binary32 true A false B C) (round binary32 false (A + B) C)
        (sum_tf A B C (none_le B A z) ∙ ap (λ (x : ℕ). round binary32 false x C) (no_take' A B z))
        (rounded (A + B) C (u + v) K k h)
    go true true p q A B C a b K k =
        put (sum binary32 true A true B C) (round binary32 true (A + B) C) (sum_tt A B C)
        (rounded_minus (A + B) C (u + v) K k (both p.1 q.1))

-- ---- the difference u - v for v ≤ u
pub sub_is : (x y : Float) (u v : ℕ) → Is x u → Is y v → v ≤ u → rnd (u - v) 1 < Top
    → Is (sub binary32 x y) (rnd (u - v) 1)
sub_is nan y u v p q o h = elim p [ ]
sub_is (inf _) y u v p q o h = elim p [ ]
sub_is (fin s m e) nan u v p q o h = elim q [ ]
sub_is (fin s m e) (inf _) u v p q o h = elim q [ ]
sub_is (fin s m e) (fin t n d) u v p q o h =
    let A = m * up e * down d in
    let B = n * up d * down e in
    let C = down e * down d in
    let l : A * L ≡ u * C =
    left (m * up e) (n * up d) (down e) (down d) L u v (down_pos e) (down_pos d) (pow_pos 149) (size_is s m e u p)
    (size_is t n d v q) in
    let r : B * L ≡ v * C =
    right (m * up e) (n * up d) (down e) (down d) L u v (down_pos e) (down_pos d) (pow_pos 149) (size_is s m e u p)
    (size_is t n d v q) in
    subst (λ (z : Float). Is z (rnd (u - v) 1)) (sym (sub_opens s m e t n d))
    (go s t p q A B C refl refl (mul-pos (down_pos e) (down_pos d)) l r)
  where
    put : (x y : Float) → x ≡ y → Is y (rnd (u - v) 1) → Is x (rnd (u - v) 1)
    put x y e i = subst (λ (z : Float). Is z (rnd (u - v) 1)) (sym e) i

    none : (u v : ℕ) → u ≡ 0 → u - v ≡ 0
    none u v z = omega arith

    none' : (u v : ℕ) → u ≡ 0 → v ≤ u → v ≡ 0
    none' u v z l = omega arith

    order : (A B C l : ℕ) → 0 < l → A * l ≡ u * C → B * l ≡ v * C → B ≤ A
    order A B C l P a b =
        le_of_mul-le-mul_right (le_trans (le_of_eq b) (le_trans (mul-le-mul_right C o) (le_of_eq (sym a)))) P

    take : (A B C l z w : ℕ) → z + B ≡ A → w + v ≡ u → A * l ≡ u * C → B * l ≡ v * C → z * l ≡ w * C
    take A B C l z w i j a b = omega (arith, ap (λ (x : ℕ). x * l) i, ap (λ (x : ℕ). x * C) j)

    again : (a b : ℕ) → b ≤ a → a - b + b ≡ a
    again a b h = omega arith

    difference : (A B C : ℕ) → A * L ≡ u * C → B * L ≡ v * C → (A - B) * L ≡ (u - v) * C
    difference A B C a b =
        take A B C L (A - B) (u - v) (again A B (order A B C L (pow_pos 149) a b)) (again u v o) a b

    whole : (A B C l : ℕ) → B ≡ 0 → v ≡ 0 → A * l ≡ u * C → (A + B) * l ≡ (u - v) * C
    whole A B C l z y a = ap (λ (x : ℕ). x * l) (drop_it A B z) ∙ a ∙ ap (λ (x : ℕ). x * C) (keep u v y)
      where
        drop_it : (A B : ℕ) → B ≡ 0 → A + B ≡ A
        drop_it A B z = omega arith

        keep : (u v : ℕ) → v ≡ 0 → u ≡ u - v
        keep u v z = omega arith

    back_to : (n : ℕ) (d : ℤ) → n * up d * L ≡ v * down d → v ≡ 0 → n ≡ 0
    back_to n d i z =
        none_of n (up d) L (up_pos d) (pow_pos 149) (i ∙ ap (λ (x : ℕ). x * down d) z ∙ zero-mul (down d))

    go : (s t : Bool) → Is (fin s m e) u → Is (fin t n d) v → (A B C : ℕ) → A ≡ m * up e * down d
        → B ≡ n * up d * down e → 0 < C → A * L ≡ u * C → B * L ≡ v * C
        → Is (sum binary32 s A (not t) B C) (rnd (u - v) 1)
    go false false p q A B C a b K i j =
        put (sum binary32 false A true B C) (round binary32 false (A - B) C)
        (sum_ft A B C (order A B C L (pow_pos 149) i j)) (rounded (A - B) C (u - v) K (difference A B C i j) h)
    go false true p q A B C a b K i j =
        put (sum binary32 false A false B C) (round binary32 false (A + B) C) (sum_ff A B C)
        (rounded (A + B) C (u - v) K (whole A B C L (b ∙ no_size n (up d) (down e) q.0) q.1 i) h)
    go true false p q A B C a b K i j =
        let z : v ≡ 0 = none' u v p.1 o in
        put (sum binary32 true A true B C) (round binary32 true (A + B) C) (sum_tt A B C)
        (rounded_minus (A + B) C (u - v) K (whole A B C L (b ∙ no_size n (up d) (down e) (back_to n d q z)) z i)
        (none u v p.1))
    go true true p q A B C a b K i j =
        let z : A ≡ 0 = a ∙ no_size m (up e) (down d) p.0 in
        put (sum binary32 true A false B C) (round binary32 false (A + B) C)
        (sum_tf A B C (none_le B A z) ∙ ap (λ (x : ℕ). round binary32 false x C) (no_take' A B z))
        (rounded (A + B) C (u - v) K (whole A B C L (b ∙ no_size n (up d) (down e) q.0) q.1 i) h)
