-- The largest of several numbers: the larger of two is below neither, a NaN is passed over, and from a number of sign
-- plus on the sign stays plus. Two f32 of sign plus of which neither is below the other are equal. Assumes nothing.
use mathlib.Core.Path.{◌≡◌, refl, subst}
use mathlib.Core.Bool.{Bool, true, false, not, cond}
use Prim.Native.Nat.{ℕ, ◌*◌, ◌^◌, ◌≤◌}
use native.Mathlib.Nat.{le_antisymm}
use lib.Dec.{T, T_not, not_T, nltb→le}
use lib.Ieee.{Float, inf, fin, binary32, lt, fits, nan}
use Rattle.number.specs.Number.{larger}
use Rattle.number.proofs.Units.{plus, shift, fin_false, same_float, Is, lt_is}
use Rattle.number.proofs.Signs.{above_plus}
use Rattle.number.proofs.Transitive.{lt_trans, lt_self}

-- y is not below x; so it is where one of them is a NaN
abbrev pub NotBelow : Float → Float → Type 0
NotBelow x y = T (not (lt y x))

-- the larger of two is not below the second
pub larger_reaches : (x y : Float) → NotBelow y (larger x y)
unfolding larger
larger_reaches x y = go (lt x y) (not_T (lt y y) (lt_self y)) (λ t. t)
  where
    go : (b : Bool) → NotBelow y y → (T (not b) → NotBelow y x) → NotBelow y (cond b y x)
    go true p q = p
    go false p q = q tt

-- nor below what the first is not below
pub larger_stays : (x y z : Float) → NotBelow z x → NotBelow z (larger x y)
unfolding larger
larger_stays x y z h = go (lt x y) (λ t. not_T (lt y z) (λ u. T_not (lt x z) h (lt_trans x y z t u)))
  where
    go : (b : Bool) → (T b → NotBelow z y) → NotBelow z (cond b y x)
    go true p = p tt
    go false p = h

-- ---- from a number of sign plus on
pub larger_plus : (x y : Float) → T (plus x) → T (plus (larger x y))
unfolding larger
larger_plus x y p = go (lt x y) (above_plus x y p)
  where
    go : (b : Bool) → (T b → T (plus y)) → T (plus (cond b y x))
    go true q = q tt
    go false q = p

-- ---- of sign plus, and neither below the other
pub plus_level : (x y : Float) → T (fits binary32 x) → T (fits binary32 y) → T (plus x) → T (plus y) → NotBelow x y
    → NotBelow y x → x ≡ y
unfolding lt
plus_level nan y f g p q h k = elim p [ ]
plus_level (inf false) nan f g p q h k = elim q [ ]
plus_level (inf false) (inf true) f g p q h k = elim q [ ]
plus_level (inf false) (fin true n d) f g p q h k = elim q [ ]
plus_level (inf true) y f g p q h k = elim p [ ]
plus_level (fin false m e) nan f g p q h k = elim q [ ]
plus_level (fin false m e) (inf true) f g p q h k = elim q [ ]
plus_level (fin false m e) (fin true n d) f g p q h k = elim q [ ]
plus_level (fin true m e) y f g p q h k = elim p [ ]
plus_level (inf false) (inf false) f g p q h k = refl
plus_level (inf false) (fin false n d) f g p q h k = absurd h
plus_level (fin false m e) (inf false) f g p q h k = absurd k
plus_level (fin false m e) (fin false n d) f g p q h k =
    let x = fin false m e in
    let y = fin false n d in
    let u = m * 2 ^ shift e in
    let v = n * 2 ^ shift d in
    let i = fin_false m e f in
    let j = fin_false n d g in
    let a : u ≤ v = nltb→le v u (subst (λ (b : Bool). T (not b)) (lt_is y x v u j.is i.is) h) in
    let b : v ≤ u = nltb→le u v (subst (λ (b : Bool). T (not b)) (lt_is x y u v i.is j.is) k) in
    same_float x y u f g p q i.is (subst (λ (w : ℕ). Is y w) (le_antisymm b a) j.is)
