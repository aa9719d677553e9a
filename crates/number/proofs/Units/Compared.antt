-- A float that is not below zero as a whole number of units of 2 ^ -149: `Is x u`. Either zero is 0 units.
-- Comparisons of such floats are those of the whole numbers. Assumes nothing.
use mathlib.Core.Path.{◌≡◌, refl, sym, ap, ◌∙◌, subst}
use mathlib.Core.Logic.{◌⊎◌, inl, inr}
use mathlib.Core.Bool.{Bool, true, false, ◌&&◌, ◌||◌}
use Prim.Native.Nat.{ℕ, ◌+◌, ◌*◌, ◌^◌, ◌≤◌, ◌<◌}
use native.Mathlib.Nat.{le_of_eq, le_of_lt, lt_of_lt_of_le, lt_of_le_of_lt, eq-or-lt_of_le, mul_assoc, mul_comm}
use native.Mathlib.Nat.{mul_right_comm, mul-pos, mul-lt-mul_of_pos_right, lt_of_mul-lt-mul_right}
use native.Mathlib.Nat.{eq_of_mul-eq-mul_right, zero-mul}
use native.Mathlib.Omega.{arith}
use lib.IntN.{ℤ}
use lib.Dec.{T, leb, ltb, eqb, leb→le, le→leb, ltb→lt, lt→ltb, eqb→eq}
use lib.Pow.{pow_pos}
use lib.Ieee.{Float, nan, inf, fin, up, down, lt, le, eq}
use lib.Ieee.Scale.{finite}
use lib.Ieee.Fits.{down_pos, eq→eqb}
use Rattle.number.proofs.Numbers.{zero_size}

abbrev pub L : ℕ
L = 2 ^ 149

abbrev pub Is : Float → ℕ → Type 0
Is nan u = ⊥
Is (inf s) u = ⊥
Is (fin false m e) u = m * up e * L ≡ u * down e
Is (fin true m e) u = (m ≡ 0) × (u ≡ 0)

-- ---- tests
pub same_test : (a b : Bool) → (T a → T b) → (T b → T a) → a ≡ b
same_test true true p q = refl
same_test true false p q = absurd (p tt)
same_test false true p q = absurd (q tt)
same_test false false p q = refl

-- ---- a / de of L units against b / dd
module _ (a b de dd l u v : ℕ) (D : 0 < de) (E : 0 < dd) (K : 0 < l) (p : a * l ≡ u * de) (q : b * l ≡ v * dd) where
  pub left : a * dd * l ≡ u * (de * dd)
  left = mul_right_comm a dd l ∙ ap (λ (x : ℕ). x * dd) p ∙ mul_assoc u de dd

  pub right : b * de * l ≡ v * (de * dd)
  right =
      mul_right_comm b de l ∙ ap (λ (x : ℕ). x * de) q ∙ mul_assoc v dd de ∙ ap (λ (x : ℕ). v * x) (mul_comm dd de)

  cross_lt : a * dd < b * de → u < v
  cross_lt h =
      lt_of_mul-lt-mul_right (de * dd)
      (lt_of_le_of_lt (le_of_eq (sym left)) (lt_of_lt_of_le (mul-lt-mul_of_pos_right h K) (le_of_eq right)))

  lt_cross : u < v → a * dd < b * de
  lt_cross h =
      lt_of_mul-lt-mul_right l (lt_of_le_of_lt (le_of_eq left)
      (lt_of_lt_of_le (mul-lt-mul_of_pos_right h (mul-pos D E)) (le_of_eq (sym right))))

  cross_eq : a * dd ≡ b * de → u ≡ v
  cross_eq h = eq_of_mul-eq-mul_right (de * dd) (mul-pos D E) u v (sym left ∙ ap (λ (x : ℕ). x * l) h ∙ right)

  eq_cross : u ≡ v → a * dd ≡ b * de
  eq_cross h = eq_of_mul-eq-mul_right l K (a * dd) (b * de) (left ∙ ap (λ (x : ℕ). x * (de * dd)) h ∙ sym right)

  ltb_cross : ltb (a * dd) (b * de) ≡ ltb u v
  ltb_cross =
      same_test (ltb (a * dd) (b * de)) (ltb u v) (λ t. lt→ltb u v (cross_lt (ltb→lt (a * dd) (b * de) t)))
      (λ t. lt→ltb (a * dd) (b * de) (lt_cross (ltb→lt u v t)))

  eqb_cross : eqb (a * dd) (b * de) ≡ eqb u v
  eqb_cross =
      same_test (eqb (a * dd) (b * de)) (eqb u v) (λ t. eq→eqb (cross_eq (eqb→eq (a * dd) (b * de) t)))
      (λ t. eq→eqb (eq_cross (eqb→eq u v t)))

pub finite_is : (x : Float) (u : ℕ) → Is x u → T (finite x)
finite_is nan u i = elim i [ ]
finite_is (inf _) u i = elim i [ ]
finite_is (fin s m e) u i = tt

-- no significand is no units
pub none_is : (e : ℤ) → Is (fin false 0 e) 0
none_is e = zero_size (up e) L ∙ sym (zero-mul (down e))

-- the magnitude of either sign
pub size_is : (s : Bool) (m : ℕ) (e : ℤ) (u : ℕ) → Is (fin s m e) u → m * up e * L ≡ u * down e
size_is false m e u h = h
size_is true m e u h =
    ap (λ (x : ℕ). x * up e * L) h.0 ∙ none_is e ∙ ap (λ (x : ℕ). x * down e) (sym h.1)

no_ltb : (a : ℕ) → ltb a 0 ≡ false
no_ltb a = same_test (ltb a 0) false (λ t. none a (ltb→lt a 0 t)) (λ t. absurd t)
  where
    none : (a : ℕ) → a < 0 → ⊥
    none a h = omega arith

and_true : (a : Bool) → (a && true) ≡ a
and_true true = refl
and_true false = refl

and_same : (a : Bool) → (a && a) ≡ a
and_same true = refl
and_same false = refl

pub no_size : (m a b : ℕ) → m ≡ 0 → m * a * b ≡ 0
no_size m a b e = ap (λ (x : ℕ). x * a * b) e ∙ zero_size a b

-- ---- the comparisons
pub lt_is : (x y : Float) (u v : ℕ) → Is x u → Is y v → lt x y ≡ ltb u v
unfolding lt
lt_is nan y u v p q = elim p [ ]
lt_is (inf _) y u v p q = elim p [ ]
lt_is (fin false m e) nan u v p q = elim q [ ]
lt_is (fin false m e) (inf _) u v p q = elim q [ ]
lt_is (fin true m e) nan u v p q = elim q [ ]
lt_is (fin true m e) (inf _) u v p q = elim q [ ]
lt_is (fin false m e) (fin false n d) u v p q =
    ltb_cross (m * up e) (n * up d) (down e) (down d) L u v (down_pos e) (down_pos d) (pow_pos 149) p q
lt_is (fin false m e) (fin true n d) u v p q = sym (no_ltb u) ∙ ap (λ (x : ℕ). ltb u x) (sym q.1)
lt_is (fin true m e) (fin false n d) u v p q =
    ap (λ (x : ℕ). ltb 0 (x * up e * down d + n * up d * down e)) p.0
    ∙ ap (λ (x : ℕ). ltb x (0 * up e * down d + n * up d * down e)) (sym (zero_size (up e) (down d)))
    ∙ ap (λ (x : ℕ). ltb (0 * up e * down d) x) (drop (up e) (down d) (n * up d * down e))
    ∙ ltb_cross (0 * up e) (n * up d) (down e) (down d) L 0 v (down_pos e) (down_pos d) (pow_pos 149)
    (size_is true 0 e 0 (refl, refl)) q
    ∙ ap (λ (x : ℕ). ltb x v) (sym p.1)
  where
    drop : (a b c : ℕ) → 0 * a * b + c ≡ c
    drop a b c = omega arith
lt_is (fin true m e) (fin true n d) u v p q =
    ap (λ (x : ℕ). ltb (n * up d * down e) (x * up e * down d)) p.0
    ∙ ap (λ (x : ℕ). ltb (n * up d * down e) x) (zero_size (up e) (down d)) ∙ no_ltb (n * up d * down e)
    ∙ sym (no_ltb u) ∙ ap (λ (x : ℕ). ltb u x) (sym q.1)

pub eq_is : (x y : Float) (u v : ℕ) → Is x u → Is y v → eq x y ≡ eqb u v
unfolding eq
eq_is nan y u v p q = elim p [ ]
eq_is (inf _) y u v p q = elim p [ ]
eq_is (fin false m e) nan u v p q = elim q [ ]
eq_is (fin false m e) (inf _) u v p q = elim q [ ]
eq_is (fin true m e) nan u v p q = elim q [ ]
eq_is (fin true m e) (inf _) u v p q = elim q [ ]
eq_is (fin false m e) (fin false n d) u v p q =
    and_true (eqb (m * up e * down d) (n * up d * down e))
    ∙ eqb_cross (m * up e) (n * up d) (down e) (down d) L u v (down_pos e) (down_pos d) (pow_pos 149) p q
eq_is (fin false m e) (fin true n d) u v p q =
    ap (λ (x : ℕ). eqb (m * up e * down d) (n * up d * down e) && eqb (m * up e * down d) x)
    (sym (no_size n (up d) (down e) q.0))
    ∙ and_same (eqb (m * up e * down d) (n * up d * down e))
    ∙ eqb_cross (m * up e) (n * up d) (down e) (down d) L u v (down_pos e) (down_pos d) (pow_pos 149) p
    (size_is true n d v q)
eq_is (fin true m e) (fin false n d) u v p q =
    ap (λ (x : ℕ). eqb (m * up e * down d) (n * up d * down e) && eqb x 0) (no_size m (up e) (down d) p.0)
    ∙ and_true (eqb (m * up e * down d) (n * up d * down e))
    ∙ eqb_cross (m * up e) (n * up d) (down e) (down d) L u v (down_pos e) (down_pos d) (pow_pos 149)
    (size_is true m e u p) q
eq_is (fin true m e) (fin true n d) u v p q =
    and_true (eqb (m * up e * down d) (n * up d * down e))
    ∙ eqb_cross (m * up e) (n * up d) (down e) (down d) L u v (down_pos e) (down_pos d) (pow_pos 149)
    (size_is true m e u p) (size_is true n d v q)

pub le_is : (x y : Float) (u v : ℕ) → Is x u → Is y v → le x y ≡ leb u v
unfolding le
le_is x y u v p q =
    ap (λ (b : Bool). b || eq x y) (lt_is x y u v p q) ∙ ap (λ (b : Bool). ltb u v || b) (eq_is x y u v p q)
    ∙ same_test (ltb u v || eqb u v) (leb u v) (λ t. le→leb u v (to (ltb u v) (eqb u v) (ltb→lt u v) (eqb→eq u v) t))
    (λ t. from (eq-or-lt_of_le (leb→le u v t)))
  where
    to : (a b : Bool) → (T a → u < v) → (T b → u ≡ v) → T (a || b) → u ≤ v
    to true b f g t = le_of_lt (f tt)
    to false b f g t = le_of_eq (g t)

    or_l : (a b : Bool) → T a → T (a || b)
    or_l true b t = tt
    or_l false b t = absurd t

    or_r : (a b : Bool) → T b → T (a || b)
    or_r true b t = tt
    or_r false b t = t

    from : (u ≡ v) ⊎ (u < v) → T (ltb u v || eqb u v)
    from (inl e) = or_r (ltb u v) (eqb u v) (eq→eqb e)
    from (inr l) = or_l (ltb u v) (eqb u v) (lt→ltb u v l)

-- ---- a test to a fact of the units, and back
pub lt_says : (x y : Float) (u v : ℕ) → Is x u → Is y v → T (lt x y) → u < v
lt_says x y u v p q t = ltb→lt u v (subst T (lt_is x y u v p q) t)

pub says_lt : (x y : Float) (u v : ℕ) → Is x u → Is y v → u < v → T (lt x y)
says_lt x y u v p q h = subst T (sym (lt_is x y u v p q)) (lt→ltb u v h)

pub le_says : (x y : Float) (u v : ℕ) → Is x u → Is y v → T (le x y) → u ≤ v
le_says x y u v p q t = leb→le u v (subst T (le_is x y u v p q) t)

pub says_le : (x y : Float) (u v : ℕ) → Is x u → Is y v → u ≤ v → T (le x y)
says_le x y u v p q h = subst T (sym (le_is x y u v p q)) (le→leb u v h)
