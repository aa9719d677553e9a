-- What the definition of the square root comes to, with no word of the search or of the code: of all f32 from zero up
-- none is nearer to the exact root than the one answered, on a tie its pattern is even, and it is the only one of
-- which this holds. Everything is a comparison of whole-number squares. Assumes nothing.
use mathlib.Core.Path.{◌≡◌, sym, ap, ◌∙◌, subst}
use mathlib.Core.Logic.{◌⊎◌, inl, inr}
use mathlib.Core.Bool.{true, false, not, true≢false}
use Prim.Native.Nat.{ℕ, ◌+◌, ◌-◌, ◌*◌, ◌%◌, ◌^◌, ◌≤◌, ◌<◌}
use native.Mathlib.Nat.{le_refl, le_trans, le_of_eq, lt_of_lt_of_le, lt_irrefl, lt_of_not-le, le_antisymm}
use native.Mathlib.Nat.{eq-or-lt_of_le, add-le-add, add-sub_cancel, mul-le-mul}
use native.Mathlib.Omega.{arith}
use native.Mathlib.Decide.{dec_le}
use lib.Dec.{T}
use lib.Ieee.{Float, fin, binary32, lt, fits, of_bits, to_bits, inf, nan}
use lib.Ieee.Bits.{of_bits-fits, of_bits-to_bits}
use lib.Ieee.Exact.{HasValue}
use Rattle.number.specs.Number.{zero32, is_finite, inf_bits, units_of, twice_middle, twice_root_squared, root_at_least}
use Rattle.number.specs.Number.{root_of}
use Rattle.number.proofs.Numbers.{square_back}
use Rattle.number.proofs.Units.{L, plus, shift, fin_false}
use Rattle.number.proofs.Patterns.{val, val_lt, val_le, val_back, val_le_back, bits_back, bits_plus}
use Rattle.number.proofs.Neighbours.{bits_lt}
use Rattle.number.proofs.SquareRoot.Nearest.{units_bits, middle_is, reached, reached_tie, missed, missed_tie}
use Rattle.number.proofs.SquareRoot.Bits as bits
use Rattle.number.proofs.SquareRoot.Found.{Found, found, found_root}

-- With r and y for the sizes of two f32, b for the pattern of the first, and n for the square of twice the exact
-- root: the exact root is no nearer to y than to r. Their middle is not past the root on r's side, and where it is
-- the root itself, b is even.
pub record NotNearer (n r y b : ℕ) : Type 0 where
  pub below : y < r → (r + y) * (r + y) ≤ n
  pub above : r < y → n ≤ (r + y) * (r + y)
  pub tie : (y ≡ r → ⊥) → (r + y) * (r + y) ≡ n → b % 2 ≡ 0

-- ---- by patterns: b is reached and b + 1 is not
module _ (x : Float) (b c : ℕ) (B : b < inf_bits) (C : c < inf_bits)
    (t : T (root_at_least x b)) (f : T (not (root_at_least x (b + 1)))) where
  abbrev both : ℕ
  both = val b + val c

  abbrev n : ℕ
  n = twice_root_squared x

  under : c < b → both ≤ twice_middle b
  under h = le_trans (sum (val_le c (b - 1) (omega arith))) (le_of_eq (sym (middle_is b B)))
    where
      sum : val c ≤ val (b - 1) → both ≤ val (b - 1) + val b
      sum u = omega arith

  over : b < c → twice_middle (b + 1) ≤ both
  over h =
      le_trans (le_of_eq (middle_is (b + 1) (omega arith) ∙ ap (λ (k : ℕ). val k + val (b + 1)) (add-sub_cancel b 1)))
      (add-le-add (le_refl (val b)) (val_le (b + 1) c (omega arith)))

  below_all : c < b → both * both ≤ n
  below_all h = le_trans (mul-le-mul (under h) (under h)) (reached x b t).1

  above_all : b < c → n ≤ both * both
  above_all h = le_trans (missed x (b + 1) (omega arith) f) (mul-le-mul (over h) (over h))

  tie_below : c < b → both * both ≡ n → b % 2 ≡ 0
  tie_below h e =
      reached_tie x b t
      (le_antisymm (reached x b t).1 (le_trans (le_of_eq (sym e)) (mul-le-mul (under h) (under h))))

  tie_above : b < c → both * both ≡ n → b % 2 ≡ 0
  tie_above h e =
      even (missed_tie x (b + 1) (omega arith) f
      (le_antisymm (le_trans (mul-le-mul (over h) (over h)) (le_of_eq e)) (missed x (b + 1) (omega arith) f)))
    where
      even : ((b + 1) % 2 ≡ 0 → ⊥) → b % 2 ≡ 0
      even g = omega arith

  not_nearer : NotNearer n (val b) (val c) b
  not_nearer = record {
    below = λ h. below_all (val_back c b h);
    above = λ h. above_all (val_back b c h);
    tie = λ d e. elim (other (dec_le (val b) (val c)) d) [
      | inl l ↦ tie_below (val_back c b l) e
      | inr l ↦ tie_above (val_back b c l) e
    ];
  }
    where
      other : Dec (val b ≤ val c) → (val c ≡ val b → ⊥) → (val c < val b) ⊎ (val b < val c)
      other (yes h) d = elim (eq-or-lt_of_le h) [ inl e ↦ absurd (d (sym e)) | inr l ↦ inr l ]
      other (no h) d = inl (lt_of_not-le h)

-- ---- the f32 from zero up
pub record FromZero (y : Float) : Type 0 where
  pub fit : T (fits binary32 y)
  pub sign : T (plus y)
  pub real : T (is_finite y)

from_lt : (y : Float) → FromZero y → to_bits binary32 y < inf_bits
unfolding is_finite
from_lt y k = go y k.fit k.sign k.real
  where
    go : (y : Float) → T (fits binary32 y) → T (plus y) → T (is_finite y) → to_bits binary32 y < inf_bits
    go nan f p h = elim p [ ]
    go (inf _) f p h = elim h [ ]
    go (fin true m e) f p h = elim p [ ]
    go (fin false m e) f p h = bits_lt (fin false m e) (m * 2 ^ shift e) f tt (fin_false m e f)

from_units : (y : Float) → FromZero y → val (to_bits binary32 y) ≡ units_of y
from_units y k =
    sym (units_bits (to_bits binary32 y) (from_lt y k)) ∙ ap units_of (of_bits-to_bits binary32 y k.fit)

value_plus : (y : Float) (u : ℕ) → HasValue y false u L → T (plus y) × T (is_finite y)
unfolding is_finite
value_plus nan u v = elim v [ ]
value_plus (inf _) u v = elim v [ ]
value_plus (fin false m e) u v = (tt, tt)
value_plus (fin true m e) u v = absurd (true≢false v.0)

differ : (b c : ℕ) → b < c → val c ≡ val b → ⊥
differ b c l e = lt_irrefl (val b) (lt_of_lt_of_le (val_lt b c l) (le_of_eq e))

-- of two neighbours one is odd
even_once : (b c : ℕ) → b < c → c - 1 ≤ b → b % 2 ≡ 0 → c % 2 ≡ 0 → ⊥
even_once b c l k p q = omega arith

next_even : (b c : ℕ) → b < c → c ≤ b + 1 → c % 2 ≡ 0 → (b + 1) % 2 ≡ 0
next_even b c l k p = omega arith

-- ---- the root
module _ (x : Float) (f : T (fits binary32 x)) (a : T (lt zero32 x)) (h : T (is_finite x)) where
  abbrev r : Found x
  r = found x f a h

  pub under_top : r.b < inf_bits
  under_top = let l = bits.bits_lt r.p r.k r.b r.low r.high r.short r.bits in omega arith

  pub is_root : root_of x ≡ of_bits binary32 r.b
  is_root = found_root x r a h

  root_pattern : to_bits binary32 (root_of x) ≡ r.b
  root_pattern = ap (to_bits binary32) is_root ∙ bits_back r.b under_top

  root_units : units_of (root_of x) ≡ val r.b
  root_units = ap units_of is_root ∙ units_bits r.b under_top

  at_root : T (root_at_least x r.b)
  at_root = bits.is_reached r.p r.k r.b r.low r.high r.short r.bits x r.scale

  past_root : T (not (root_at_least x (r.b + 1)))
  past_root = bits.not_passed r.p r.k r.b r.low r.high r.short r.bits x r.scale

  pub root_from : FromZero (root_of x)
  root_from = subst FromZero (sym is_root) (record {
    fit = of_bits-fits binary32 r.b;
    sign = (value_plus (of_bits binary32 r.b) (val r.b) (bits_plus r.b under_top)).0;
    real = (value_plus (of_bits binary32 r.b) (val r.b) (bits_plus r.b under_top)).1;
  })

  -- no f32 is nearer to the exact root
  pub none_nearer : (y : Float) → FromZero y
      → NotNearer (twice_root_squared x) (units_of (root_of x)) (units_of y) (to_bits binary32 (root_of x))
  none_nearer y k =
      let n = twice_root_squared x in
      let c = to_bits binary32 y in
      subst (λ (s : ℕ). NotNearer n s (units_of y) (to_bits binary32 (root_of x))) (sym root_units)
      (subst (λ (b : ℕ). NotNearer n (val r.b) (units_of y) b) (sym root_pattern)
      (subst (λ (s : ℕ). NotNearer n (val r.b) s r.b) (from_units y k)
      (not_nearer x r.b c under_top (from_lt y k) at_root past_root)))

  -- and it is the only one
  module _ (s : Float) (k : FromZero s)
      (best : (y : Float) → FromZero y
      → NotNearer (twice_root_squared x) (units_of s) (units_of y) (to_bits binary32 s)) where
    abbrev c : ℕ
    c = to_bits binary32 s

    own : NotNearer (twice_root_squared x) (val c) (val r.b) c
    own =
        subst (λ (u : ℕ). NotNearer (twice_root_squared x) u (val r.b) c) (sym (from_units s k))
        (subst (λ (u : ℕ). NotNearer (twice_root_squared x) (units_of s) u c) root_units (best (root_of x) root_from))

    -- a smaller one: the middle below the root is the root itself, so both patterns would be even
    not_less : c < r.b → ⊥
    not_less l =
        let b = r.b in
        let n = twice_root_squared x in
        let both = val c + val b in
        let t = (reached x b at_root).1 in
        let m : twice_middle b ≡ val (b - 1) + val b = middle_is b under_top in
        let o : both ≤ twice_middle b = le_trans (sum (val_le c (b - 1) (omega arith))) (le_of_eq (sym m)) in
        let g : n ≤ both * both = own.above (val_lt c b l) in
        let e : twice_middle b * twice_middle b ≡ n = le_antisymm t (le_trans g (mul-le-mul o o)) in
        let d : both * both ≡ n = le_antisymm (le_trans (mul-le-mul o o) t) g in
        let q = own.tie (differ c b l) d in
        let z = reached_tie x b at_root e in
        let w : twice_middle b ≤ both = square_back (twice_middle b) both (le_of_eq (e ∙ sym d)) in
        even_once c b l (val_le_back (b - 1) c (less (le_trans (le_of_eq (sym m)) w))) q z
      where
        sum : val c ≤ val (r.b - 1) → val c + val r.b ≤ val (r.b - 1) + val r.b
        sum u = omega arith

        less : val (r.b - 1) + val r.b ≤ val c + val r.b → val (r.b - 1) ≤ val c
        less u = omega arith

    -- a larger one: the middle above the root is the root itself, and then its pattern is odd
    not_more : r.b < c → ⊥
    not_more l =
        let b = r.b in
        let n = twice_root_squared x in
        let both = val c + val b in
        let C = from_lt s k in
        let B : b + 1 < inf_bits = omega arith in
        let t = missed x (b + 1) B past_root in
        let m : twice_middle (b + 1) ≡ val b + val (b + 1) =
        middle_is (b + 1) B ∙ ap (λ (k : ℕ). val k + val (b + 1)) (add-sub_cancel b 1) in
        let o : twice_middle (b + 1) ≤ both = le_trans (le_of_eq m) (sum (val_le (b + 1) c (omega arith))) in
        let g : both * both ≤ n = own.below (val_lt b c l) in
        let e : twice_middle (b + 1) * twice_middle (b + 1) ≡ n = le_antisymm (le_trans (mul-le-mul o o) g) t in
        let d : both * both ≡ n = le_antisymm g (le_trans t (mul-le-mul o o)) in
        let q = own.tie (λ (e : val b ≡ val c). differ b c l (sym e)) d in
        let z = missed_tie x (b + 1) B past_root e in
        let w : both ≤ twice_middle (b + 1) = square_back both (twice_middle (b + 1)) (le_of_eq (d ∙ sym e)) in
        z (next_even b c l (val_le_back c (b + 1) (less (le_trans w (le_of_eq m)))) q)
      where
        sum : val (r.b + 1) ≤ val c → val r.b + val (r.b + 1) ≤ val c + val r.b
        sum u = omega arith

        less : val c + val r.b ≤ val r.b + val (r.b + 1) → val c ≤ val (r.b + 1)
        less u = omega arith

    pub root_unique : s ≡ root_of x
    root_unique =
        sym (of_bits-to_bits binary32 s k.fit) ∙ ap (of_bits binary32) (same (dec_le c r.b)) ∙ sym is_root
      where
        same : Dec (c ≤ r.b) → c ≡ r.b
        same (yes l) = elim (eq-or-lt_of_le l) [ inl e ↦ e | inr g ↦ absurd (not_less g) ]
        same (no l) = absurd (not_more (lt_of_not-le l))
