-- The roots of quadratics, the roots in 0..t of polynomials of degree three at most, the two finders as a caller meets
-- them, and what their answers promise (docs/01-scope.md, "Roots", "What callers hand over", "Refusal numbers";
-- polynomial_root.rs: `quadratic_root`, `newton`, `cubic_roots_in_range_zero_to_t`). Definitions only.
use Rattle.std.specs.Prelude.{ℕ, zero, suc, ◌+◌, ◌≤◌, ◌<◌, Bool, cond, not, ◌&&◌, ◌||◌, [], ◌∷◌, Float}
use Rattle.std.specs.Prelude.{Option, None, Some, Result, Ok, Err}
use mathlib.Core.{Path.◌≡◌, Logic.◌⊎◌}
use lib.{Dec.T, Dec.ltb, ListN.set, ListN.length, ListN.get_or}
use Rattle.std.specs.Float.{nan, binary32}
use Rattle.std.specs.Float.Ieee.{is_nan, neg, lt, le, eq, of_bits}
use Rattle.number.specs.Number.{◌⊕◌, ◌⊖◌, ◌⊗◌, ◌⊘◌, zero32, one32, size, smaller, larger, clamp, written, root_of}
use Rattle.number.specs.Number.{is_finite, between, in_bound, zero_to_bound, above_zero_to_one, refusal, admitted, numbered}
use Rattle.number.specs.declared.refusal.Refusal.{Refusal}
use Rattle.polynomial_root.specs.declared.{answer.Roots.Roots, cubic.Cubic.Cubic, span.End.End}

-- no root
abbrev pub none : Roots
none = record { count = 0; roots = zero32 ∷ zero32 ∷ zero32 ∷ [] }

-- a refusal, by its number
abbrev pub refused : {A : Type 0} → ℕ → Result A Refusal
refused n = Err (numbered n)

-- by a refusal number: the answer, or the refusal
abbrev pub or_refused : ℕ → Result Roots Refusal → Result Roots Refusal
or_refused n a = admitted n a (refused n)

-- one root more, in the next place of three; a full answer stands
unfoldable pub push : Roots → Float → Roots
push a r =
    cond (ltb a.count 3) (record { count = a.count + 1; roots = set a.roots a.count (written r) }) a

abbrev pub two32 : Float
two32 = of_bits binary32 0x4000_0000

-- minus the sum of c1 and the discriminant's root with the sign of c1, a zero's plus: nothing cancels in it
abbrev pub stable : Float → Float → Float
stable c1 d = neg (c1 ⊕ cond (lt c1 zero32) (neg one32) one32 ⊗ root_of d)

abbrev pub in_order : Float → Float → Float × Float
in_order a b = cond (lt a b) (a, b) (b, a)

-- none or two, the smaller first, a double root twice: one from the sum s, the other from the product of the two
unfoldable pub solved : Float → Float → Float → Option (Float × Float)
solved c0 c1 c2 =
    let d = c1 ⊗ c1 ⊖ of_bits binary32 0x4080_0000 ⊗ c2 ⊗ c0 in
    let s = stable c1 d in
    let one = s ⊘ (two32 ⊗ c2) in
    cond (lt d zero32) None (Some (in_order (cond (eq s zero32) one (two32 ⊗ c0 ⊘ s)) one))

-- ---- Newton's steps
abbrev pub three32 : Float
three32 = of_bits binary32 0x4040_0000

abbrev pub cubic_of : Float → Float → Float → Float → Cubic
cubic_of c0 c1 c2 c3 = record { c0 = c0; c1 = c1; c2 = c2; c3 = c3 }

-- the value and the slope at r of c0 + c1 x + c2 x² + c3 x³
abbrev pub value_at : Cubic → Float → Float
value_at p r = ((p.c3 ⊗ r ⊕ p.c2) ⊗ r ⊕ p.c1) ⊗ r ⊕ p.c0

abbrev pub slope_at : Cubic → Float → Float
slope_at p r = p.c1 ⊕ two32 ⊗ p.c2 ⊗ r ⊕ three32 ⊗ p.c3 ⊗ r ⊗ r

-- the step from r along the tangent, held to 0..t
abbrev pub stepped : Cubic → Float → Float → Float
stepped p t r = clamp (r ⊖ value_at p r ⊘ slope_at p r) zero32 t

abbrev pub both_zero : Float → Float → Bool
both_zero a b = eq a zero32 && eq b zero32

-- at most k more steps from r; they stop where the value's size is below epsilon
unfoldable pub descend : Cubic → Float → Float → ℕ → Float → Result Float Refusal
descend p t epsilon zero r = Ok r
descend p t epsilon (suc k) r =
    cond (lt (size (value_at p r)) epsilon) (Ok r)
    (cond (both_zero (value_at p r) (slope_at p r)) (refused 8) (descend p t epsilon k (stepped p t r)))

abbrev pub newton_steps : ℕ
newton_steps = 20

-- from a guess in 0..t
unfoldable pub started : Cubic → Float → Float → Float → Result Float Refusal
started p t epsilon r = cond (between zero32 t r) (descend p t epsilon newton_steps r) (refused 7)

-- ---- the root in a span of 0..t, whose ends have a place and the value there
abbrev pub end_at : Cubic → Float → End
end_at p x = record { x = x; f = value_at p x }

-- a search that is not refused has found its root
abbrev pub found : Result Float Refusal → Result (Option Float) Refusal
found (Ok r) = Ok (Some r)
found (Err n) = Err n

-- none where both values lie on one side of zero; a span of one point is its own root where the value is zero; else
-- Newton's steps from where the straight line through the two ends meets zero
unfoldable pub span_root : Cubic → Float → Float → End → End → Result (Option Float) Refusal
span_root p t epsilon a b =
    cond ((lt a.f zero32 && lt b.f zero32) || (lt zero32 a.f && lt zero32 b.f)) (Ok None)
    (cond (eq a.x b.x) (Ok (cond (eq a.f zero32) (Some a.x) None))
    (cond (both_zero a.f b.f) (refused 6)
    (found (started p t epsilon ((a.f ⊗ b.x ⊖ b.f ⊗ a.x) ⊘ (a.f ⊖ b.f))))))

-- ---- degree two at most
-- a coefficient counts as zero where its size is below 2 ^ -23
abbrev pub vanishes : Float → Bool
vanishes c = lt (size c) (of_bits binary32 0x3400_0000)

-- two values lie on opposite sides of zero, or one of them is zero
abbrev pub opposite : Float → Float → Bool
opposite a b = (le a zero32 && le zero32 b) || (le zero32 a && le b zero32)

-- from the values at 0 and at t: no root, refusal 6, or the root r
abbrev pub crossing : Float → Float → Float → Result Roots Refusal
crossing f0 ft r = cond (opposite f0 ft) (cond (both_zero f0 ft) (refused 6) (Ok (push none r))) (Ok none)

-- how far along the range the straight line from f0 to ft meets zero, as a fraction of the range
abbrev pub fraction : Float → Float → Float
fraction f0 ft = f0 ⊘ (f0 ⊖ ft)

-- that fraction times t, held to 0..t
unfoldable pub linear_roots : Float → Float → Float → Result Roots Refusal
linear_roots t f0 ft = crossing f0 ft (clamp (fraction f0 ft ⊗ t) zero32 t)

-- the fraction itself: the original's rule, which is ours at t = 1
abbrev pub fraction_roots : Float → Float → Result Roots Refusal
fraction_roots f0 ft = crossing f0 ft (fraction f0 ft)

-- a root is kept where it lies in 0..t
unfoldable pub keep : Float → Roots → Float → Roots
keep t a r = cond (between zero32 t r) (push a r) a

unfoldable pub kept_roots : Float → Option (Float × Float) → Roots
kept_roots t None = none
kept_roots t (Some (e0, e1)) = keep t (keep t none e0) e1

-- by degree, where c3 counts as zero
unfoldable pub lower_roots : Cubic → Float → Result Roots Refusal
lower_roots p t =
    cond (vanishes p.c2)
    (cond (vanishes p.c1) (Ok (cond (vanishes p.c0) (push none zero32) none)) (linear_roots t p.c0 (value_at p t)))
    (Ok (kept_roots t (solved p.c0 p.c1 p.c2)))

-- ---- degree three
-- the answer with what one more span gave; a refusal ends the search
unfoldable pub joined : Roots → Option Float → Roots
joined a None = a
joined a (Some r) = push a r

unfoldable pub after : Result Roots Refusal → Result (Option Float) Refusal → Result Roots Refusal
after (Err n) f = Err n
after (Ok a) (Err n) = Err n
after (Ok a) (Ok f) = Ok (joined a f)

-- the lower end of 0..t: the value at zero is c0
abbrev pub start : Cubic → End
start p = record { x = zero32; f = p.c0 }

-- the root in a part of 0..t, where the part is there
abbrev pub part_root : Cubic → Float → Float → Bool → End → End → Result (Option Float) Refusal
part_root p t epsilon there a b = cond there (span_root p t epsilon a b) (Ok None)

-- the parts before, between and behind the roots of the slope; without any, 0..t is the one span
unfoldable pub span_roots : Cubic → Float → Float → Option (Float × Float) → Result Roots Refusal
span_roots p t epsilon None = after (Ok none) (span_root p t epsilon (start p) (end_at p t))
span_roots p t epsilon (Some (e0, e1)) =
    let part = part_root p t epsilon in
    let first = part (le zero32 e0) (start p) (end_at p (smaller t e0)) in
    let middle = part (le e0 t && le zero32 e1) (end_at p (larger zero32 e0)) (end_at p (smaller t e1)) in
    let last = part (le e1 t) (end_at p (larger zero32 e1)) (end_at p t) in
    after (after (after (Ok none) first) middle) last

-- by degree; c1 + 2 c2 x + 3 c3 x² is the slope
unfoldable pub cubic_roots : Cubic → Float → Float → Result Roots Refusal
cubic_roots p t epsilon =
    cond (vanishes p.c3) (lower_roots p t)
    (span_roots p t epsilon (solved p.c1 (two32 ⊗ p.c2) (three32 ⊗ p.c3)))

-- ---- the finders: refusals 1 and 2, then the roots
abbrev pub quadratic_refusal : Float → Float → Float → ℕ
quadratic_refusal c0 c1 c2 =
    refusal (is_finite c0 && is_finite c1 && is_finite c2) (in_bound c0 && in_bound c1 && in_bound c2)

-- of the four coefficients, t and epsilon
abbrev pub cubic_refusal : Cubic → Float → Float → ℕ
cubic_refusal p t epsilon =
    refusal
    (is_finite p.c0 && is_finite p.c1 && is_finite p.c2 && is_finite p.c3 && is_finite t && is_finite epsilon)
    (in_bound p.c0 && in_bound p.c1 && in_bound p.c2 && in_bound p.c3 && above_zero_to_one t
    && zero_to_bound epsilon)

unfoldable pub solved_roots : Option (Float × Float) → Roots
solved_roots None = none
solved_roots (Some (a, b)) = push (push none a) b

-- refusal 9: not a quadratic
unfoldable pub quadratic_root : Float → Float → Float → Result Roots Refusal
quadratic_root c0 c1 c2 =
    or_refused (quadratic_refusal c0 c1 c2) (cond (eq c2 zero32) (refused 9) (Ok (solved_roots (solved c0 c1 c2))))

unfoldable pub cubic_roots_in_range : Cubic → Float → Float → Result Roots Refusal
cubic_roots_in_range p t epsilon = or_refused (cubic_refusal p t epsilon) (cubic_roots p t epsilon)

-- ---- what the answers promise beside being the defined ones
-- at most three roots, the count is right, and unused places are zero
pub record Tidy (a : Roots) : Type 0 where
  pub few : a.count ≤ 3
  pub places : length a.roots ≡ 3
  pub unused : (i : ℕ) → a.count ≤ i → i < 3 → get_or a.roots i nan ≡ zero32

-- each answered root has a property
abbrev pub Each : (Float → Type 0) → Roots → Type 0
Each P a = (i : ℕ) → i < a.count → P (get_or a.roots i nan)

-- no answered root is NaN
abbrev pub NoNan : Roots → Type 0
NoNan a = Each (λ r. T (not (is_nan r))) a

-- each answered root lies in 0..t, and so is finite
abbrev pub InRange : Float → Roots → Type 0
InRange t a = Each (λ r. T (between zero32 t r)) a

-- none or two roots, the smaller first
pub record NoneOrTwo (a : Roots) : Type 0 where
  pub number : (a.count ≡ 0) ⊎ (a.count ≡ 2)
  pub order : a.count ≡ 2 → T (le (get_or a.roots 0 nan) (get_or a.roots 1 nan))

-- at t = 1 a linear polynomial has the original's answer
abbrev pub OriginalAtOne : Cubic → Float → Float → Result Roots Refusal → Type 0
OriginalAtOne p t epsilon a =
    cubic_refusal p t epsilon ≡ 0 → T (vanishes p.c3 && vanishes p.c2 && not (vanishes p.c1)) → t ≡ one32
    → a ≡ fraction_roots p.c0 (value_at p t)
