-- Answers are tidy, and each of their roots has the property that each root had when it was pushed. Assumes nothing.
use Prim.Native.Nat.{ℕ, zero, suc, ◌+◌, ◌≤◌, ◌<◌, zero-le}
use native.Mathlib.Omega.{arith}
use native.Mathlib.Decide.{dec_lt}
use mathlib.Core.Path.{◌≡◌, refl, sym, ◌∙◌, subst}
use lib.ListN.{length, get_or, set, length-set}
use lib.Seq.{get_or-set_same, get_or-set_other}
use lib.Ieee.{Float, nan}
use borrow.Author.Tests.{le-ltb, lt-ltb}
use Rattle.number.specs.Number.{zero32, written}
use Rattle.polynomial_root.specs.Roots.{none, push, Tidy, Each}
use Rattle.polynomial_root.specs.declared.answer.Roots.{Roots}

-- tidy, with a property of each root
pub record Holds (P : Float → Type 0) (a : Roots) : Type 0 where
  pub tidy : Tidy a
  pub each : Each P a

none_tidy : Tidy none
none_tidy = record { few = zero-le; places = refl; unused = zeros }
  where
    zeros : (i : ℕ) → 0 ≤ i → i < 3 → get_or none.roots i nan ≡ zero32
    zeros zero h l = refl
    zeros (suc zero) h l = refl
    zeros (suc (suc zero)) h l = refl
    zeros (suc (suc (suc i))) h l = absurd (omega arith)

pub none_holds : (P : Float → Type 0) → Holds P none
none_holds P = record { tidy = none_tidy; each = λ i h. absurd (omega arith) }

-- ---- a root more
abbrev one_more : Roots → Float → Roots
one_more a r = record { count = a.count + 1; roots = set a.roots a.count (written r) }

push_room : (a : Roots) (r : Float) → a.count < 3 → push a r ≡ one_more a r
unfolding push
push_room a r h = rw (lt-ltb _ _ h)

push_full : (a : Roots) (r : Float) → 3 ≤ a.count → push a r ≡ a
unfolding push
push_full a r h = rw (le-ltb _ _ h)

module _ (P : Float → Type 0) (a : Roots) (r : Float) (h : Holds P a) (room : a.count < 3) where
  place : length (set a.roots a.count (written r)) ≡ 3
  place = length-set a.roots a.count (written r) ∙ h.tidy.places

  in_place : a.count < length a.roots
  in_place = subst (λ (n : ℕ). a.count < n) (sym h.tidy.places) room

  later : (i : ℕ) → a.count + 1 ≤ i → i < 3 → get_or (one_more a r).roots i nan ≡ zero32
  later i l s =
      get_or-set_other a.roots a.count i (written r) nan (λ e. omega arith)
      ∙ h.tidy.unused i (omega arith) s

  each_more : P (written r) → Each P (one_more a r)
  each_more p i l = go (dec_lt i a.count)
    where
      last : ¬ (i < a.count) → i ≡ a.count
      last n = omega arith

      go : Dec (i < a.count) → P (get_or (one_more a r).roots i nan)
      go (yes s) =
          subst P (sym (get_or-set_other a.roots a.count i (written r) nan (λ e. omega arith))) (h.each i s)
      go (no n) =
          subst (λ (k : ℕ). P (get_or (one_more a r).roots k nan)) (sym (last n))
          (subst P (sym (get_or-set_same a.roots a.count (written r) nan in_place)) p)

  more_holds : P (written r) → Holds P (one_more a r)
  more_holds p = record {
    tidy = record { few = omega arith; places = place; unused = later };
    each = each_more p;
  }

pub push_holds : (P : Float → Type 0) (a : Roots) (r : Float) → Holds P a → P (written r) → Holds P (push a r)
push_holds P a r h p = go (dec_lt a.count 3)
  where
    go : Dec (a.count < 3) → Holds P (push a r)
    go (yes l) = rw (push_room a r l) (more_holds P a r h l p)
    go (no n) = rw (push_full a r (omega arith)) h
