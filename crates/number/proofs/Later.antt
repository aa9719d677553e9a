-- A time with the sign plus, and a step. Where the step is not below zero the computed sum is not below the time, and
-- has the sign plus; where it overflows it is the infinity. Where the step is below zero the sum is not above the time.
-- Assumes nothing.
use mathlib.Core.Path.{◌≡◌, refl, sym, ap, ◌∙◌, subst}
use mathlib.Core.Bool.{Bool, true, false, cond}
use Prim.Native.Nat.{ℕ, zero, suc, ◌+◌, ◌-◌, ◌*◌, ◌^◌, ◌≤◌, ◌<◌}
use native.Mathlib.Nat.{le_trans, le_of_eq, lt_of_not-le, lt_of_le_of_lt, mul-one, mul-le-mul_right, le-add_right}
use native.Mathlib.Nat.{add-mul, mul-pos, le_of_mul-le-mul_right}
use native.Mathlib.Omega.{arith}
use native.Mathlib.Decide.{dec_le, dec_lt}
use lib.Dec.{T, ltb, ltb→lt}
use lib.IntN.{ℤ, pos}
use lib.Pow.{pow_pos}
use lib.Ieee.{Float, nan, inf, fin, binary32, up, down, round, units, odd, sum, add, lt, le, fits, of_bits}
use lib.Ieee.Order.{drop, kept}
use lib.Ieee.Fits.{down_pos, round_is}
use lib.Ieee.Scale.{finite}
use Rattle.number.specs.Number.{zero32}
use Rattle.number.proofs.Numbers.{le_of_not_lt}
use Rattle.number.proofs.Rounding.{rnd, Rep, rnd_mono, rnd_fix}
use Rattle.number.proofs.Units.{L, Top, Is, Unit32, shift, fin_false, of_float, plus, left, right, size_is}
use Rattle.number.proofs.Units.{no_size, says_le}
use Rattle.number.proofs.Sums.{add_is, sub_is, add_opens, sub_opens, sum_ff, sum_ft, sum_ft_over, none_le}
use Rattle.number.proofs.Sums.{round_units, round_over}
use Rattle.number.proofs.Plus.{add_plus}
use Rattle.number.proofs.Comparing.{minus_plus}
use Rattle.number.proofs.Signs.{plus_up}
use Rattle.number.proofs.Sizes.{fits_plus}

-- what is rounded is not below a number that needs no rounding and that it was not below
pub grows : (u v : ℕ) → Rep u → u ≤ rnd (u + v) 1
grows u v r =
    le_trans (le_of_eq (sym (rnd_fix u 1 (pow_pos 0) r)))
    (rnd_mono (u * 1) 1 (u + v) 1 (pow_pos 0) (pow_pos 0)
    (mul-le-mul_right 1 (le_trans (le_of_eq (mul-one u)) (le-add_right u v))))

abbrev NotBefore : Float → Float → Type 0
NotBefore t s = T (le t (add binary32 t s)) × T (plus (add binary32 t s))

later : (t s : Float) (u v : ℕ) → T (plus t) → Unit32 t u → Is s v → rnd (u + v) 1 < Top → NotBefore t s
later t s u v k p q h = (
  says_le t (add binary32 t s) u (rnd (u + v) 1) p.is (add_is t s u v p.is q h) (grows u v p.rep),
  add_plus t s u v p.is q k,
)

-- ---- with overflow, and with an infinite step
le_inf : (t : Float) → T (finite t) → T (le t (inf false))
unfolding le
le_inf nan f = elim f [ ]
le_inf (inf _) f = elim f [ ]
le_inf (fin s m e) f = tt

-- the sum as one rounding
add_round : (x y : Float) (u v : ℕ) → T (plus x) → Is x u → Is y v
    → (num : ℕ) × (den : ℕ) × (0 < den) × (num * L ≡ (u + v) * den)
    × (add binary32 x y ≡ round binary32 false num den)
add_round nan y u v k p q = elim k [ ]
add_round (inf _) y u v k p q = elim p [ ]
add_round (fin false m e) nan u v k p q = elim q [ ]
add_round (fin false m e) (inf _) u v k p q = elim q [ ]
add_round (fin true m e) y u v k p q = elim k [ ]
add_round (fin false m e) (fin t n d) u v k p q =
    let A = m * up e * down d in
    let B = n * up d * down e in
    let C = down e * down d in
    let l : A * L ≡ u * C =
    left (m * up e) (n * up d) (down e) (down d) L u v (down_pos e) (down_pos d) (pow_pos 149) p
    (size_is t n d v q) in
    let r : B * L ≡ v * C =
    right (m * up e) (n * up d) (down e) (down d) L u v (down_pos e) (down_pos d) (pow_pos 149) p
    (size_is t n d v q) in (
      A + B,
      C,
      mul-pos (down_pos e) (down_pos d),
      add-mul A B L ∙ ap (λ (z : ℕ). z + B * L) l ∙ ap (λ (z : ℕ). u * C + z) r ∙ sym (add-mul u v C),
      add_opens false m e t n d ∙ go t q,
    )
  where
    no_take : (a b : ℕ) → b ≡ 0 → a - b ≡ a + b
    no_take a b h = omega arith

    go : (t : Bool) → Is (fin t n d) v
        → sum binary32 false (m * up e * down d) t (n * up d * down e) (down e * down d)
        ≡ round binary32 false (m * up e * down d + n * up d * down e) (down e * down d)
    go false q = sum_ff (m * up e * down d) (n * up d * down e) (down e * down d)
    go true q =
        let z : n * up d * down e ≡ 0 = no_size n (up d) (down e) q.0 in
        sum_ft (m * up e * down d) (n * up d * down e) (down e * down d)
        (none_le (m * up e * down d) (n * up d * down e) z)
        ∙ ap (λ (x : ℕ). round binary32 false x (down e * down d)) (no_take (m * up e * down d) (n * up d * down e) z)

pub add_over : (x y : Float) (u v : ℕ) → T (plus x) → Is x u → Is y v → Top ≤ rnd (u + v) 1
    → add binary32 x y ≡ inf false
add_over x y u v k p q h =
    let r = add_round x y u v k p q in
    r.4
    ∙ round_over false r.0 r.1 (le_trans h (le_of_eq (sym (round_units r.0 r.1 (u + v) r.2 r.3))))

no_nan : T (le zero32 nan) → ⊥
unfolding le of_bits
no_nan h = h

no_minus : T (le zero32 (inf true)) → ⊥
unfolding le of_bits
no_minus h = h

add_inf : (t : Float) → T (finite t) → add binary32 t (inf false) ≡ inf false
unfolding add
add_inf nan k = elim k [ ]
add_inf (inf _) k = elim k [ ]
add_inf (fin s m e) k = refl

-- the law for a walk: t a finite time of sign plus, s any step that is not below zero, an infinite one too
pub later_any : (t s : Float) → T (fits binary32 t) → T (finite t) → T (plus t) → T (fits binary32 s)
    → T (le zero32 s) → T (le t (add binary32 t s)) × T (plus (add binary32 t s))
later_any t s f k p g y = go s g y
  where
    a : (u : ℕ) × Unit32 t u
    a = of_float t f k (plus_up t p)

    steps : (s : Float) (v : ℕ) → Is s v → Dec (rnd (a.0 + v) 1 < Top) → NotBefore t s
    steps s v q (yes l) = later t s a.0 v p a.1 q l
    steps s v q (no n) =
        subst (λ (x : Float). T (le t x) × T (plus x))
        (sym (add_over t s a.0 v p a.1.is q (le_of_not_lt n))) (le_inf t k, tt)

    go : (s : Float) → T (fits binary32 s) → T (le zero32 s) → NotBefore t s
    go nan g y = absurd (no_nan y)
    go (inf true) g y = absurd (no_minus y)
    go (inf false) g y = subst (λ (x : Float). T (le t x) × T (plus x)) (sym (add_inf t k)) (le_inf t k, tt)
    go (fin s m e) g y =
        let b = of_float (fin s m e) g tt y in steps (fin s m e) b.0 b.1.is (dec_lt (rnd (a.0 + b.0) 1) Top)

-- ---- a step below zero
-- what is rounded with the sign minus is not above what has the sign plus
module _ (m : ℕ) (e : ℤ) where
  odd_under : (d q k l : ℕ) → T (le (odd d true q k l) (fin false m e))
  unfolding odd
  odd_under d zero k l = minus_plus 0 (pos 0) m e
  odd_under d (suc q) k l = minus_plus _ _ m e

  units_under : (q k : ℕ) → T (le (units binary32 true q k) (fin false m e))
  unfolding units
  units_under q k = go (ltb (q * 2 ^ k) (2 ^ 277))
    where
      go : (b : Bool) → T (le (cond b (odd 25 true q k 149) (inf true)) (fin false m e))
      go true = odd_under 25 q k 149
      go false = unfold le in tt

  round_under : (a c : ℕ) → T (le (round binary32 true a c) (fin false m e))
  round_under a c =
      subst (λ (z : Float). T (le z (fin false m e))) (sym (round_is binary32 true a c))
      (units_under (kept 24 (a * L) c) (drop 24 (a * L) c))

-- what is rounded is not above a number that needs no rounding and that it was not above
shrinks : (u v : ℕ) → Rep u → rnd (u - v) 1 ≤ u
shrinks u v r =
    le_trans (rnd_mono (u - v) 1 (u * 1) 1 (pow_pos 0) (pow_pos 0) (mul-le-mul_right 1 (omega (arith, mul-one u))))
    (le_of_eq (rnd_fix u 1 (pow_pos 0) r))

pub earlier : (t s : Float) → T (fits binary32 t) → T (finite t) → T (plus t) → T (fits binary32 s) → T (finite s)
    → T (lt s zero32) → T (le (add binary32 t s) t)
unfolding lt of_bits
earlier nan s f k p g j h = elim k [ ]
earlier (inf _) s f k p g j h = elim k [ ]
earlier (fin false m e) nan f k p g j h = elim j [ ]
earlier (fin false m e) (inf _) f k p g j h = elim j [ ]
earlier (fin true m e) s f k p g j h = elim p [ ]
earlier (fin false m e) (fin false n d) f k p g j h =
    absurd (none (n * up d) (down d) (ltb→lt (n * up d * 1) (0 * 1 * down d) h))
  where
    none : (a b : ℕ) → a * 1 < 0 * 1 * b → ⊥
    none a b h = omega arith
earlier (fin false m e) (fin true n d) f k p g j h = go (dec_le B A)
  where
    t : Float
    t = fin false m e

    i : Unit32 t (m * 2 ^ shift e)
    i = fin_false m e f

    o : Unit32 (fin false n d) (n * 2 ^ shift d)
    o = fin_false n d (fits_plus true n d g)

    u : ℕ
    u = m * 2 ^ shift e

    v : ℕ
    v = n * 2 ^ shift d

    A : ℕ
    A = m * up e * down d

    B : ℕ
    B = n * up d * down e

    C : ℕ
    C = down e * down d

    less : B ≤ A → v ≤ u
    less l =
        le_of_mul-le-mul_right
        (le_trans (le_of_eq (sym (right (m * up e) (n * up d) (down e) (down d) L u v (down_pos e) (down_pos d)
        (pow_pos 149) i.is o.is)))
        (le_trans (mul-le-mul_right L l) (le_of_eq (left (m * up e) (n * up d) (down e) (down d) L u v (down_pos e)
        (down_pos d) (pow_pos 149) i.is o.is))))
        (mul-pos (down_pos e) (down_pos d))

    go : Dec (B ≤ A) → T (le (add binary32 t (fin true n d)) t)
    go (yes l) =
        let w = rnd (u - v) 1 in
        let small : w ≤ u = shrinks u v i.rep in
        subst (λ (z : Float). T (le z t)) (sub_opens false m e false n d ∙ sym (add_opens false m e true n d))
        (says_le _ t w u (sub_is t (fin false n d) u v i.is o.is (less l) (lt_of_le_of_lt small i.under))
        i.is small)
    go (no l) =
        subst (λ (z : Float). T (le z t)) (sym (add_opens false m e true n d ∙ sum_ft_over A B C (lt_of_not-le l)))
        (round_under m e (B - A) C)
