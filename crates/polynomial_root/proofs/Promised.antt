-- What the two root finders promise of every answer: it is tidy; a quadratic's roots are none or two numbers, the
-- smaller first; a cubic's lie in 0..t, and at t = 1 a linear one's is the original's. And no root in the range is
-- dropped, a repeated one neither. Assumes nothing.
use Prim.Native.Nat.{ℕ}
use native.Mathlib.Omega.{arith}
use mathlib.Core.Path.{◌≡◌, refl, sym, ap, subst, ◌∙◌}
use mathlib.Core.Logic.{inl, inr}
use mathlib.Core.Bool.{Bool, true, false, not, cond, ◌&&◌}
use mathlib.Core.List.{[], ◌∷◌}
use lib.Dec.{T, lit≤}
use lib.Ieee.{Float, binary32, eq, is_nan, fits}
use lib.Ieee.Fits.{add-fits}
use Rattle.std.specs.Prelude.{Option, None, Some, Result, Ok, Err, IfOk}
use Rattle.std.proofs.lemmas.Float.{T_from_true}
use Rattle.number.specs.Number.{◌⊗◌, zero32, clamp, between, written}
use Rattle.number.specs.declared.refusal.Refusal.{Refusal}
use Rattle.number.proofs.Answers.{admitted_keeps}
use Rattle.number.proofs.Ranges.{zero_to_one_lem}
use Rattle.number.proofs.Within.{Within, within_more, within_finite}
use Rattle.polynomial_root.specs.Roots.{none, refused, or_refused, push, two32, solved, three32, value_at, both_zero}
use Rattle.polynomial_root.specs.Roots.{vanishes, opposite, fraction, linear_roots, keep, kept_roots, lower_roots}
use Rattle.polynomial_root.specs.Roots.{span_roots, cubic_roots, quadratic_refusal, cubic_refusal, solved_roots, quadratic_root}
use Rattle.polynomial_root.specs.Roots.{cubic_roots_in_range, Tidy, InRange, NoneOrTwo, OriginalAtOne}
use Rattle.polynomial_root.specs.declared.answer.Roots.{Roots}
use Rattle.polynomial_root.specs.declared.cubic.Cubic.{Cubic}
use Rattle.polynomial_root.proofs.Orders.{zero_in_range, written_in_range, clamp_in_range}
use Rattle.polynomial_root.proofs.Defined.{product_no_nan}
use Rattle.polynomial_root.proofs.Places.{Holds, none_holds, push_holds}
use Rattle.polynomial_root.proofs.Gathered.{Solves, solved_holds, kept_holds}
use Rattle.polynomial_root.proofs.Spans.{Allowed, spans_in_range}
use Rattle.polynomial_root.proofs.Admitted.{allowed_quadratic, allowed_cubic}
use Rattle.polynomial_root.proofs.Linear.{fraction_in_range}
use Rattle.polynomial_root.proofs.AtOne.{linear_at_one}
use Rattle.polynomial_root.proofs.Ordered.{InOrder, solved_ordered}
use Rattle.polynomial_root.proofs.Written.{written_number, written_order}

-- ---- a cubic's roots
abbrev In : Float → Float → Type 0
In t r = T (between zero32 t r)

module _ (p : Cubic) (t epsilon : Float) (h : Allowed p t) where
  constant_holds : Holds (In t) (cond (vanishes p.c0) (push none zero32) none)
  constant_holds = go (vanishes p.c0)
    where
      go : (b : Bool) → Holds (In t) (cond b (push none zero32) none)
      go true =
          push_holds (In t) none zero32 (none_holds (In t))
          (written_in_range t h.above zero32 (zero_in_range t h.above))
      go false = none_holds (In t)

  linear_holds : T (fits binary32 p.c0) → IfOk (linear_roots t p.c0 (value_at p t)) (Holds (In t))
  unfolding linear_roots
  linear_holds f = go (opposite a b) (both_zero a b) refl refl
    where
      a : Float
      a = p.c0

      b : Float
      b = value_at p t

      root : Float
      root = clamp (fraction a b ⊗ t) zero32 t

      -- the fraction is a number, so its product with t is one, which the clamp holds to 0..t
      in_range : opposite a b ≡ true → both_zero a b ≡ false → In t root
      in_range i j =
          let x = fraction a b in
          let l = fraction_in_range a b f (add-fits binary32 _ _) (within_finite 20 a h.w0) i j in
          clamp_in_range t h.above (x ⊗ t)
          (product_no_nan x t (within_finite 0 x (zero_to_one_lem x l).2) (within_finite 0 t h.small))

      go : (o z : Bool) → opposite a b ≡ o → both_zero a b ≡ z
          → IfOk (cond o (cond z (refused 6) (Ok (push none root))) (Ok none)) (Holds (In t))
      go true true i j = tt
      go true false i j =
          push_holds (In t) none root (none_holds (In t)) (written_in_range t h.above root (in_range i j))
      go false z i j = none_holds (In t)

  lower_holds : T (fits binary32 p.c0) → IfOk (lower_roots p t) (Holds (In t))
  unfolding lower_roots
  lower_holds f = go (vanishes p.c2) (vanishes p.c1)
    where
      roots : Option (Float × Float)
      roots = solved p.c0 p.c1 p.c2

      go : (y z : Bool)
          → IfOk
          (cond y (cond z (Ok (cond (vanishes p.c0) (push none zero32) none)) (linear_roots t p.c0 (value_at p t)))
          (Ok (kept_roots t roots)))
          (Holds (In t))
      go true true = constant_holds
      go true false = linear_holds f
      go false z = kept_holds (In t) t (λ r i. written_in_range t h.above r (T_from_true _ i)) roots

  pub cubic_holds : T (fits binary32 p.c0) → IfOk (cubic_roots p t epsilon) (Holds (In t))
  unfolding cubic_roots
  cubic_holds f = go (vanishes p.c3)
    where
      slope : Option (Float × Float)
      slope = solved p.c1 (two32 ⊗ p.c2) (three32 ⊗ p.c3)

      go : (x : Bool) → IfOk (cond x (lower_roots p t) (span_roots p t epsilon slope)) (Holds (In t))
      go true = lower_holds f
      go false = spans_in_range p t epsilon h slope

pub cubic_promises : (p : Cubic) (t epsilon : Float) → T (fits binary32 p.c0)
    → IfOk (cubic_roots_in_range p t epsilon) (Holds (In t))
unfolding cubic_roots_in_range
cubic_promises p t epsilon f =
    let n = cubic_refusal p t epsilon in
    admitted_keeps (λ a. IfOk a (Holds (In t))) n (cubic_roots p t epsilon) (refused n)
    (λ e. cubic_holds p t epsilon (allowed_cubic p t epsilon e) f) tt

-- ---- a linear polynomial's, at t = 1
cubic_linear : (p : Cubic) (t epsilon : Float) → T (vanishes p.c3 && vanishes p.c2 && not (vanishes p.c1))
    → cubic_roots p t epsilon ≡ linear_roots t p.c0 (value_at p t)
unfolding cubic_roots lower_roots
cubic_linear p t epsilon = go (vanishes p.c3) (vanishes p.c2) (vanishes p.c1) _ _ _ _
  where
    go : (x y z : Bool) (constant linear square cubic : Result Roots Refusal) → T (x && y && not z)
        → cond x (cond y (cond z constant linear) square) cubic ≡ linear
    go true true true k l s c h = absurd h
    go true true false k l s c h = refl
    go true false z k l s c h = absurd h
    go false y z k l s c h = absurd h

pub cubic_at_one : (p : Cubic) (t epsilon : Float) → T (fits binary32 p.c0)
    → OriginalAtOne p t epsilon (cubic_roots_in_range p t epsilon)
unfolding cubic_roots_in_range
cubic_at_one p t epsilon f e l q =
    ap (λ (n : ℕ). or_refused n (cubic_roots p t epsilon)) e ∙ cubic_linear p t epsilon l
    ∙ ap (λ (end : Float). linear_roots end p.c0 (value_at p t)) q
    ∙ linear_at_one p.c0 (value_at p t) f (add-fits binary32 _ _)

-- so of what is answered
pub cubic_promised : (p : Cubic) (t epsilon : Float) → fits binary32 p.c0 ≡ true → (a : Result Roots Refusal)
    → a ≡ cubic_roots_in_range p t epsilon
    → IfOk a Tidy × IfOk a (InRange t) × OriginalAtOne p t epsilon a
cubic_promised p t epsilon f a e =
    let f : T (fits binary32 p.c0) = T_from_true _ f in
    let h = go a (subst (λ (a : Result Roots Refusal). IfOk a (Holds (In t))) (sym e) (cubic_promises p t epsilon f)) in
    (h.0, h.1, subst (OriginalAtOne p t epsilon) (sym e) (cubic_at_one p t epsilon f))
  where
    go : (a : Result Roots Refusal) → IfOk a (Holds (In t)) → IfOk a Tidy × IfOk a (InRange t)
    go (Ok r) h = (h.tidy, h.each)
    go (Err n) h = (tt, tt)

-- ---- a quadratic's roots
abbrev Number : Float → Type 0
Number r = T (not (is_nan r))

pub record Quadratic (a : Roots) : Type 0 where
  pub numbers : Holds Number a
  pub two : NoneOrTwo a

none_two : NoneOrTwo none
none_two = record { number = inl refl; order = λ e. absurd (never e) }
  where
    never : ◌≡◌ {A = ℕ} 0 2 → ⊥
    never e = omega arith

solved_quadratic : (s : Option (Float × Float)) → InOrder s → Quadratic (solved_roots s)
solved_quadratic s h = record { numbers = solved_holds Number s (solves s h); two = two s h }
  where
    solves : (s : Option (Float × Float)) → InOrder s → Solves Number s
    solves None h = tt
    solves (Some (a, b)) h = (written_number a h.first, written_number b h.second)

    two : (s : Option (Float × Float)) → InOrder s → NoneOrTwo (solved_roots s)
    two None h = unfold solved_roots in none_two
    two (Some (a, b)) h =
        unfold solved_roots push in record { number = inr refl; order = λ e. written_order a b h.order }

pub quadratic_promises : (c0 c1 c2 : Float) → T (fits binary32 c2) → IfOk (quadratic_root c0 c1 c2) Quadratic
unfolding quadratic_root
quadratic_promises c0 c1 c2 f =
    admitted_keeps (λ a. IfOk a Quadratic) n
    (cond (eq c2 zero32) (refused 9) (Ok (solved_roots (solved c0 c1 c2)))) (refused n)
    (λ e. go (eq c2 zero32) refl (allowed_quadratic c0 c1 c2 e)) tt
  where
    n : ℕ
    n = quadratic_refusal c0 c1 c2

    go : (b : Bool) → eq c2 zero32 ≡ b → Within 20 c0 × Within 20 c1 × Within 20 c2
        → IfOk (cond b (refused 9) (Ok (solved_roots (solved c0 c1 c2)))) Quadratic
    go true n w = tt
    go false n w =
        solved_quadratic (solved c0 c1 c2)
        (solved_ordered c0 c1 c2 f (within_more 20 22 c0 (lit≤ tt) w.0) (within_more 20 22 c1 (lit≤ tt) w.1)
        (within_more 20 22 c2 (lit≤ tt) w.2) n)

-- so of the roots that are answered
pub quadratic_promised : (c0 c1 c2 : Float) → fits binary32 c2 ≡ true → {r : Roots} → Ok r ≡ quadratic_root c0 c1 c2
    → Quadratic r
quadratic_promised c0 c1 c2 f e =
    subst (λ (a : Result Roots Refusal). IfOk a Quadratic) (sym e) (quadratic_promises c0 c1 c2 (T_from_true _ f))

-- ---- no root is dropped, though the two be equal
abbrev pub two_roots : Float → Float → Roots
two_roots a b = record { count = 2; roots = written a ∷ written b ∷ zero32 ∷ [] }

pub solved_kept : (a b : Float) → solved_roots (Some (a, b)) ≡ two_roots a b
unfolding solved_roots push
solved_kept a b = refl

pub both_kept : (t a b : Float) → between zero32 t a ≡ true → between zero32 t b ≡ true
    → kept_roots t (Some (a, b)) ≡ two_roots a b
unfolding kept_roots keep push
both_kept t a b p q = rw (p, q)

pub cubic_both_kept : (p : Cubic) (t epsilon a b : Float) → vanishes p.c3 ≡ true → vanishes p.c2 ≡ false
    → solved p.c0 p.c1 p.c2 ≡ Some (a, b) → between zero32 t a ≡ true → between zero32 t b ≡ true
    → cubic_roots p t epsilon ≡ Ok (two_roots a b)
unfolding cubic_roots lower_roots
cubic_both_kept p t epsilon a b v3 v2 s i j = rw (v3, v2, s) (ap Ok (both_kept t a b i j))
