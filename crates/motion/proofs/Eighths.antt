-- The factors of 8 of a scaling come to an end: after n of them what is left of a finite f is at most 2 ^ (128 - 3 n),
-- so that after `most_eights`, 42, it is not above 8, and each number is multiplied at most 43 times. Assumes nothing.
use Prim.Native.Nat.{ℕ, zero, suc, ◌+◌, ◌-◌, ◌*◌, ◌^◌, ◌≤◌, ◌<◌}
use native.Mathlib.Nat.{le_of_lt, eq-or-lt_of_le}
use native.Mathlib.Omega.{arith}
use native.Mathlib.Numerals.{add-one}
use mathlib.Core.Path.{◌≡◌, refl, sym, ◌∙◌, subst}
use mathlib.Core.Logic.{inl, inr}
use mathlib.Core.Bool.{Bool, true, false, not}
use lib.Dec.{T, ltb→lt, not_T}
use lib.Ieee.{Float, fin, binary32, up, down, lt, fits, of_bits, inf, nan}
use lib.Ieee.Bits.{is_true, is_false}
use Rattle.number.specs.Number.{◌⊗◌, ◌⊘◌, one32, is_finite}
use Rattle.number.proofs.Units.{fit}
use Rattle.number.proofs.Within.{Within}
use Rattle.number.proofs.Capped.{Capped, capped_start, capped_goes_on}
use Rattle.number.proofs.Quotients.{eighth_within}
use Rattle.motion.specs.declared.factors.Factors.{Factors}
use Rattle.motion.specs.Motion.{eight32, ending, eighths, most_eights, factors_of}

-- n factors of 8 were taken out of a finite number, and f is left
pub record Left (n : ℕ) (f : Float) : Type 0 where
  pub few : n ≤ most_eights
  pub within : Within (128 - 3 * n) f

pub left_start : (f : Float) → T (fits binary32 f) → T (is_finite f) → Left 0 f
unfolding is_finite
left_start nan h k = elim k [ ]
left_start (inf _) h k = elim k [ ]
left_start (fin s m e) h k = record { few = omega arith; within = le_of_lt (fit s m e h).high }

small : (f : Float) → Within 2 f → T (lt eight32 f) → ⊥
unfolding lt of_bits
small nan h k = elim h [ ]
small (inf _) h k = elim h [ ]
small (fin false m e) h k = none (m * up e) (down e) h (ltb→lt (1 * 8 * down e) (m * up e * 1) k)
  where
    none : (m d : ℕ) → m ≤ 2 ^ 2 * d → 1 * 8 * d < m * 1 → ⊥
    none m d h k = omega arith
small (fin true m e) h k = k

module _ (n : ℕ) (f : Float) (h : Left n f) (above : T (lt eight32 f)) where
  pub left_more : n < most_eights
  left_more = elim (eq-or-lt_of_le h.few) [
    | inl e ↦ absurd (small f (subst (λ (k : ℕ). Within (128 - 3 * k) f) e h.within) above)
    | inr l ↦ l
  ]

  pub left_next : Left (n + 1) (f ⊘ eight32)
  unfolding of_bits
  left_next =
      let l = left_more in
      let e : 128 - 3 * n ≡ 128 - 3 * (n + 1) + 3 = omega arith in
      record {
        few = omega arith;
        within = eighth_within (128 - 3 * (n + 1)) f (omega arith) (subst (λ (k : ℕ). Within k f) e h.within);
      }

-- ---- the definition's turns
pub eighths_turn : (k n : ℕ) (f product : Float) → T (lt eight32 f)
    → eighths (suc k) n f product ≡ eighths k (suc n) (f ⊘ eight32) (product ⊗ eight32)
unfolding eighths
eighths_turn k n f product h = rw (is_true (lt eight32 f) h, eighths)

pub eighths_stop : (k n : ℕ) (f product : Float) → T (not (lt eight32 f)) → eighths k n f product ≡ ending n f product
unfolding eighths
eighths_stop zero n f product h = refl
eighths_stop (suc k) n f product h = rw (is_false (lt eight32 f) h, eighths)

-- ---- the loop: what the definition makes of what is left, after n factors, is what it makes of the whole
abbrev run : ℕ → ℕ × Float × Float → Factors
run k s = eighths k s.0 s.1 s.2

abbrev pub Turned : Factors → ℕ → Float → Float → Type 0
Turned end n f product = Capped run most_eights end n (n, f, product)

pub turned_start : (f : Float) → Turned (factors_of f) 0 f one32
unfolding factors_of
turned_start f = capped_start run most_eights (0, f, one32)

module _ (end : Factors) (n : ℕ) (f product : Float) (c : Turned end n f product) where
  pub turned_next : n < most_eights → T (lt eight32 f) → Turned end (n + 1) (f ⊘ eight32) (product ⊗ eight32)
  turned_next more above =
      capped_goes_on run most_eights end n (n, f, product) c more (n + 1, f ⊘ eight32, product ⊗ eight32)
      (λ k. rw add-one (eighths_turn k n f product above))

  pub turned_stop : T (not (lt eight32 f)) → ending n f product ≡ end
  turned_stop stays = sym (eighths_stop (most_eights - n) n f product stays) ∙ c.rest

-- ---- by itself, and soon
pub record Ended (n : ℕ) (r : Factors) : Type 0 where
  pub few : r.eights ≤ n
  pub last : T (not (lt eight32 r.last))

pub eighths_end : (k n : ℕ) (f product : Float) → Left n f → n + k ≡ most_eights
    → Ended most_eights (eighths k n f product)
eighths_end zero n f product h e = rw (eighths_stop zero n f product stays) (record { few = h.few; last = stays })
  where
    full : (n : ℕ) → n + 0 ≡ most_eights → n < most_eights → ⊥
    full n e l = omega arith

    stays : T (not (lt eight32 f))
    stays = not_T (lt eight32 f) (λ above. full n e (left_more n f h above))
eighths_end (suc k) n f product h e =
    go (lt eight32 f) (λ t. t) (λ t. t) (λ l. eighths_end k (suc n) (f ⊘ eight32) (product ⊗ eight32) l (omega arith))
  where
    go : (b : Bool) → (T b → T (lt eight32 f)) → (T (not b) → T (not (lt eight32 f)))
        → (Left (suc n) (f ⊘ eight32) → Ended most_eights (eighths k (suc n) (f ⊘ eight32) (product ⊗ eight32)))
        → Ended most_eights (eighths (suc k) n f product)
    go true above stays rest =
        rw (eighths_turn k n f product (above tt)) (rest (rw (← add-one) (left_next n f h (above tt))))
    go false above stays rest =
        rw (eighths_stop (suc k) n f product (stays tt)) (record { few = h.few; last = stays tt })

pub factors_end : (f : Float) → T (fits binary32 f) → T (is_finite f) → Ended most_eights (factors_of f)
unfolding factors_of
factors_end f h k = eighths_end most_eights 0 f one32 (left_start f h k) (omega arith)
