-- One halving of a span of f32 times between 0 and 1, in units of 2 ^ -149: the computed midpoint and window, the
-- halved span, and that nothing lies between the ends where the computed window repeats. Assumes nothing.
use mathlib.Core.Path.{◌≡◌, refl, sym, subst}
use mathlib.Core.Logic.{◌⊎◌, inl, inr}
use mathlib.Core.Bool.{true, false}
use Prim.Native.Nat.{ℕ, ◌+◌, ◌-◌, ◌*◌, ◌^◌, ◌≤◌, ◌<◌}
use native.Mathlib.Nat.{le_refl, le_trans, le_of_eq, le_of_lt, lt_of_lt_of_le, lt_of_le_of_lt, lt_irrefl, add_comm}
use native.Mathlib.Nat.{mul-le-mul_right}
use native.Mathlib.Omega.{arith}
use lib.Dec.{T, ltb→lt, leb→le, eqb→eq, lit<, lit≤}
use lib.Pow.{pow_pos}
use lib.Ieee.{Float, nan, inf, fin, binary32, add, lt, le, eq, fits, of_bits}
use lib.Ieee.Scale.{finite}
use Rattle.number.specs.Number.{zero32, one32, midpoint, window}
use Rattle.number.proofs.Rounding.{rnd, Rep, rnd_mono, rnd_fix, rnd_rep, rnd_less}
use Rattle.number.proofs.Middle.{mid, mid_between, mid_third, Third}
use Rattle.number.proofs.Units.{L, Top, Is, Unit32, lt_is, le_is, eq_is, of_float, one_is}
use Rattle.number.proofs.Neighbours.{after, below_finite}
use Rattle.number.proofs.Sums.{add_is, sub_is}
use Rattle.number.proofs.Products.{half_is}

-- ---- a span, in units
pub record Span (lo hi : Float) (u v : ℕ) : Type 0 where
  pub low : Unit32 lo u
  pub high : Unit32 hi v
  pub order : u < v
  pub top : v ≤ L

low_finite : (lo hi : Float) → T (le zero32 lo) → T (lt lo hi) → T (finite lo)
unfolding le of_bits
low_finite nan hi z l = absurd z
low_finite (inf true) hi z l = absurd z
low_finite (inf false) nan z l = absurd l
low_finite (inf false) (inf t) z l = absurd l
low_finite (inf false) (fin t n d) z l = absurd l
low_finite (fin s m e) hi z l = tt

pub high_finite : (x w : Float) (u : ℕ) → Is x u → T (lt x w) → T (le w one32) → T (finite w)
unfolding le of_bits
high_finite nan w u p a b = elim p [ ]
high_finite (inf _) w u p a b = elim p [ ]
high_finite (fin s m e) nan u p a b = a
high_finite (fin s m e) (inf true) u p a b = a
high_finite (fin s m e) (inf false) u p a b = b
high_finite (fin s m e) (fin t n d) u p a b = tt

pub span_of : (lo hi : Float) → T (fits binary32 lo) → T (fits binary32 hi) → T (le zero32 lo) → T (lt lo hi)
    → T (le hi one32) → (u : ℕ) × (v : ℕ) × Span lo hi u v
span_of lo hi f g z l o =
    let a = of_float lo f (low_finite lo hi z l) z in
    let i = a.1.is in
    let b = (after lo hi a.0 i g (high_finite lo hi a.0 i l o) l).1 in
    let j = b.1.is in (
      a.0,
      b.0,
      record {
        low = a.1;
        high = b.1;
        order = ltb→lt a.0 b.0 (subst T (lt_is lo hi a.0 b.0 i j) l);
        top = leb→le b.0 L (subst T (le_is hi one32 b.0 L j one_is) o);
      },
    )

-- ---- what is rounded stays below 2 ^ 150
rep_150 : Rep (2 ^ 150)
rep_150 = (1, 150, lit< tt, refl)

rnd_small : (n : ℕ) → n ≤ 2 ^ 150 → rnd n 1 < Top
rnd_small n h =
    lt_of_le_of_lt (le_trans (rnd_mono n 1 (2 ^ 150) 1 (pow_pos 0) (pow_pos 0) (mul-le-mul_right 1 h))
    (le_of_eq (rnd_fix (2 ^ 150) 1 (pow_pos 0) rep_150))) (lit< tt)

two_top : (u v l : ℕ) → u < v → v ≤ l → v + u ≤ l * 2
two_top u v l a b = omega arith

pub mid_at : (lo hi : Float) (u v : ℕ) → Span lo hi u v → Unit32 (midpoint lo hi) (mid (u + v))
mid_at lo hi u v s =
    let b = mid_between u v s.low.rep s.high.rep (le_of_lt s.order) in
    let t : mid (u + v) < Top = lt_of_le_of_lt b.1 s.high.under in
    let a : Is (add binary32 hi lo) (rnd (v + u) 1) =
    add_is hi lo v u s.high.is s.low.is (rnd_small (v + u) (two_top u v L s.order s.top)) in
    let a' : Is (add binary32 hi lo) (rnd (u + v) 1) =
    subst (λ (x : ℕ). Is (add binary32 hi lo) (rnd x 1)) (add_comm v u) a in
    record { is = half_is (add binary32 hi lo) (rnd (u + v) 1) a' t; rep = rnd_rep (rnd (u + v) 1) 2; under = t }

pub window_at : (lo hi : Float) (u v : ℕ) → Is lo u → Is hi v → u ≤ v → v ≤ L → Is (window lo hi) (rnd (v - u) 1)
window_at lo hi u v p q o t = sub_is hi lo v u q p o (rnd_small (v - u) (le_trans (less u v L t) (lit≤ tt)))
  where
    less : (u v l : ℕ) → v ≤ l → v - u ≤ l
    less u v l h = omega arith

third_left : (u v m : ℕ) → Third u v m → u ≤ m → m ≤ v → (m - u) * 3 ≤ (v - u) * 2
third_left u v m t a b = omega arith

third_right : (u v m : ℕ) → Third u v m → u ≤ m → m ≤ v → (v - m) * 3 ≤ (v - u) * 2
third_right u v m t a b = omega arith

-- ---- one halving, to either side
abbrev pub Split : Float → Float → Float → Float → Type 0
Split lo hi lo' hi' = ((lo' ≡ midpoint lo hi) × (hi' ≡ hi)) ⊎ ((lo' ≡ lo) × (hi' ≡ midpoint lo hi))

-- the halved span in units
pub record Step (lo' hi' : Float) (u v u' v' : ℕ) : Type 0 where
  pub low : Unit32 lo' u'
  pub high : Unit32 hi' v'
  pub from : u ≤ u'
  pub order : u' ≤ v'
  pub to : v' ≤ v
  pub shrinks : (r : ℕ) → Rep r → u < r → r < v → (v' - u') * 3 ≤ (v - u) * 2

pub step_at : (lo hi lo' hi' : Float) (u v : ℕ) → Span lo hi u v → Split lo hi lo' hi'
    → (u' : ℕ) × (v' : ℕ) × Step lo' hi' u v u' v'
step_at lo hi lo' hi' u v s h = go h
  where
    b : (u ≤ mid (u + v)) × (mid (u + v) ≤ v)
    b = mid_between u v s.low.rep s.high.rep (le_of_lt s.order)

    third : (r : ℕ) → Rep r → u < r → r < v → Third u v (mid (u + v))
    third r k x y = mid_third u v r s.low.rep s.high.rep k x y

    go : Split lo hi lo' hi' → (u' : ℕ) × (v' : ℕ) × Step lo' hi' u v u' v'
    go (inl (p, q)) = (
      mid (u + v),
      v,
      record {
        low = subst (λ (x : Float). Unit32 x (mid (u + v))) (sym p) (mid_at lo hi u v s);
        high = subst (λ (x : Float). Unit32 x v) (sym q) s.high;
        from = b.0;
        order = b.1;
        to = le_refl v;
        shrinks = λ r k x y. third_right u v (mid (u + v)) (third r k x y) b.0 b.1;
      },
    )
    go (inr (p, q)) = (
      u,
      mid (u + v),
      record {
        low = subst (λ (x : Float). Unit32 x u) (sym p) s.low;
        high = subst (λ (x : Float). Unit32 x (mid (u + v))) (sym q) (mid_at lo hi u v s);
        from = le_refl u;
        order = b.0;
        to = b.1;
        shrinks = λ r k x y. third_left u v (mid (u + v)) (third r k x y) b.0 b.1;
      },
    )

-- where the computed window repeats, nothing lies between
pub neighbours : (lo hi lo' hi' : Float) (u v : ℕ) → Span lo hi u v → Split lo hi lo' hi'
    → T (eq (window lo' hi') (window lo hi)) → (w : Float) → T (fits binary32 w) → T (lt lo' w) → T (lt w hi') → ⊥
neighbours lo hi lo' hi' u v s h e w f a b =
    let t = step_at lo hi lo' hi' u v s h in
    let u' = t.0 in
    let v' = t.1 in
    let k = t.2 in
    let r = (after lo' w u' k.low.is f (below_finite lo' w hi' u' v' k.low.is k.high.is a b) a).1 in
    let x : u' < r.0 = ltb→lt u' r.0 (subst T (lt_is lo' w u' r.0 k.low.is r.1.is) a) in
    let y : r.0 < v' = ltb→lt r.0 v' (subst T (lt_is w hi' r.0 v' r.1.is k.high.is) b) in
    let c = k.shrinks r.0 r.1.rep (lt_of_le_of_lt k.from x) (lt_of_lt_of_le y k.to) in
    let o : rnd (v' - u') 1 < rnd (v - u) 1 = rnd_less (v' - u') (v - u) c (some u v s.order) in
    let i : rnd (v' - u') 1 ≡ rnd (v - u) 1 =
    eqb→eq (rnd (v' - u') 1) (rnd (v - u) 1)
    (subst T (eq_is (window lo' hi') (window lo hi) (rnd (v' - u') 1) (rnd (v - u) 1)
    (window_at lo' hi' u' v' k.low.is k.high.is k.order (le_trans k.to s.top))
    (window_at lo hi u v s.low.is s.high.is (le_of_lt s.order) s.top)) e) in
    lt_irrefl (rnd (v - u) 1) (subst (λ (z : ℕ). z < rnd (v - u) 1) i o)
  where
    some : (u v : ℕ) → u < v → 0 < v - u
    some u v h = omega arith
