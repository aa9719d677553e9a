-- The halving of a bracket: a time above the threshold below one that is not, both from 0 to 1. It ends within the
-- bracket, at a time above the threshold whose next f32 up is not (docs/GUARANTEES.md, "contact"). Assumes nothing.
use mathlib.Core.Path.{◌≡◌, refl, sym, subst}
use mathlib.Core.Bool.{Bool, true, false, cond}
use Prim.Native.Nat.{ℕ, zero, suc, ◌+◌}
use native.Mathlib.Omega.{arith}
use mathlib.Core.Logic.{inl, inr}
use lib.Dec.{T}
use lib.Ieee.{Float, binary32, add, lt, le, fits}
use lib.Ieee.Fits.{mul-fits}
use Rattle.number.specs.Number.{half32, one32, midpoint, next_lower, next_upper, repeats, Halved, halve}
use Rattle.number.proofs.Halvings.{Ends, begin, ends}
use Rattle.number.proofs.Halvings.Turn.{Inv, next, few}
use Rattle.number.proofs.Plus.{mid_plus}
use Rattle.number.proofs.Signs.{plus_up}
use Rattle.number.proofs.Transitive.{le_le_trans}
use Rattle.number.proofs.Units.{plus}
use Rattle.number.proofs.Units.Compared.{Is, says_le}
use Rattle.number.proofs.Window.{Split, step_at}

-- a time that a walk can stand at: a float of f32 from 0 up, with the sign plus, of so many units
pub record Timely (t : Float) : Type 0 where
  pub units : ℕ
  pub is : Is t units
  pub fit : T (fits binary32 t)
  pub sign : T (plus t)

pub timely_refl : (x : Float) → Timely x → T (le x x)
timely_refl x a = says_le x x a.units a.units a.is a.is (omega arith)

-- the ends of a halving are timely, and lie between the first ones
pub record Held (lo hi : Float) (r : Halved) : Type 0 where
  pub lower : Timely r.lower
  pub upper : Timely r.upper
  pub over : T (le lo r.lower)
  pub under : T (le r.upper hi)

module _ (p : Float → Bool) (n : ℕ) (lo hi : Float) (i : Inv p n lo hi) where
  split_of_lem : (b : Bool) → Split lo hi (cond b (midpoint lo hi) lo) (cond b hi (midpoint lo hi))
  split_of_lem true = inl (refl, refl)
  split_of_lem false = inr (refl, refl)

  either : (P : Float → Type 0) (b : Bool) (x y : Float) → P x → P y → P (cond b x y)
  either P true x y h k = h
  either P false x y h k = k

  fit_middle : T (fits binary32 (midpoint lo hi))
  fit_middle = mul-fits binary32 half32 (add binary32 hi lo)

  sign_middle : T (plus (midpoint lo hi))
  sign_middle = mid_plus lo hi i.u i.v i.span.low.is i.span.high.is i.plus_hi

  -- after one halving
  once : (r : Halved) → r.lower ≡ next_lower p lo hi → r.upper ≡ next_upper p lo hi → Held lo hi r
  once r a b =
      let s = step_at lo hi (next_lower p lo hi) (next_upper p lo hi) i.u i.v i.span
      (split_of_lem (p (midpoint lo hi))) in
      let lower' : Timely (next_lower p lo hi) = record {
        units = s.0;
        is = s.2.low.is;
        fit = either (λ x. T (fits binary32 x)) (p (midpoint lo hi)) (midpoint lo hi) lo fit_middle i.fit_lo;
        sign = either (λ x. T (plus x)) (p (midpoint lo hi)) (midpoint lo hi) lo sign_middle i.plus_lo;
      } in
      let upper' : Timely (next_upper p lo hi) = record {
        units = s.1;
        is = s.2.high.is;
        fit = either (λ x. T (fits binary32 x)) (p (midpoint lo hi)) hi (midpoint lo hi) i.fit_hi fit_middle;
        sign = either (λ x. T (plus x)) (p (midpoint lo hi)) hi (midpoint lo hi) i.plus_hi sign_middle;
      } in
      record {
        lower = subst Timely (sym a) lower';
        upper = subst Timely (sym b) upper';
        over =
            subst (λ (x : Float). T (le lo x)) (sym a)
            (says_le lo (next_lower p lo hi) i.u s.0 i.span.low.is s.2.low.is s.2.from);
        under =
            subst (λ (x : Float). T (le x hi)) (sym b)
            (says_le (next_upper p lo hi) hi s.1 i.v s.2.high.is i.span.high.is s.2.to);
      }

-- all along
held_from : (p : Float → Bool) (k n : ℕ) (lo hi : Float) → n + k ≡ 255 → Inv p n lo hi
    → Held lo hi (halve p k n lo hi)
unfolding halve
held_from p zero n lo hi e i = absurd (few p n lo hi i (omega arith))
held_from p (suc k) n lo hi e i = go (repeats p lo hi) refl (held_from p k (suc n) lo' hi' (omega arith))
  where
    lo' : Float
    lo' = next_lower p lo hi

    hi' : Float
    hi' = next_upper p lo hi

    go : (b : Bool) → repeats p lo hi ≡ b → (Inv p (suc n) lo' hi' → Held lo' hi' (halve p k (suc n) lo' hi'))
        → Held lo hi (elim b as (λ _. Halved) [
          | true ↦ record { lower = lo'; upper = hi'; count = suc n; stopped = true }
          | false ↦ halve p k (suc n) lo' hi'
        ])
    go true t ih = once p n lo hi i (record { lower = lo'; upper = hi'; count = suc n; stopped = true }) refl refl
    go false t ih =
        let j = next p n lo hi i (λ (y : T (repeats p lo hi)). subst T t y) in
        let h = ih j in
        let o = once p n lo hi i (record { lower = lo'; upper = hi'; count = n; stopped = false }) refl refl in
        record {
          lower = h.lower;
          upper = h.upper;
          over = le_le_trans _ _ _ o.over h.over;
          under = le_le_trans _ _ _ h.under o.under;
        }

-- a bracket, and what its halving ends in
pub record Bracket (p : Float → Bool) (lo hi : Float) : Type 0 where
  pub low : Timely lo
  pub high : Timely hi
  pub order : T (lt lo hi)
  pub top : T (le hi one32)
  pub far : p lo ≡ true
  pub near : p hi ≡ false

pub bracket_ends : (p : Float → Bool) (lo hi : Float) → Bracket p lo hi
    → Ends p (halve p 255 0 lo hi) × Held lo hi (halve p 255 0 lo hi)
bracket_ends p lo hi b =
    let i = begin p lo hi b.low.fit b.high.fit b.low.sign (plus_up lo b.low.sign) b.order b.top
    b.far b.near in
    (ends p lo hi i, held_from p 255 0 lo hi refl i)
