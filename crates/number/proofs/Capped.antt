-- A loop with a cap, beside a definition that counts down the turns that are left: after n turns, what the definition
-- makes of the rest is what it makes of the whole. Of any cap, state and end. Assumes nothing.
use Prim.Native.Nat.{ℕ, suc, ◌+◌, ◌-◌, ◌≤◌, ◌<◌, zero-le}
use native.Mathlib.Nat.{sub-zero}
use native.Mathlib.Omega.{arith}
use mathlib.Core.Path.{◌≡◌, sym, ap, ◌∙◌}

module _ {S R : Type 0} (run : ℕ → S → R) (cap : ℕ) where
  -- the loop stands at s after n turns, and what is left leads to the end
  pub record Capped (end : R) (n : ℕ) (s : S) : Type 0 where
    pub small : n ≤ cap
    pub rest : run (cap - n) s ≡ end

  pub capped_start : (s : S) → Capped (run cap s) 0 s
  capped_start s = record { small = zero-le; rest = rw sub-zero }

  module _ (end : R) (n : ℕ) (s : S) (c : Capped end n s) where
    -- no turn is left
    pub capped_spent : (n < cap → ⊥) → run 0 s ≡ end
    capped_spent full =
        let none : 0 ≡ cap - n = omega arith in
        ap (λ (k : ℕ). run k s) none ∙ c.rest

    module _ (more : n < cap) where
      fewer : suc (cap - (n + 1)) ≡ cap - n
      fewer = omega arith

      -- a turn that ends
      pub capped_ends : (r : R) → ((k : ℕ) → run (suc k) s ≡ r) → r ≡ end
      capped_ends r h = sym (h (cap - (n + 1))) ∙ ap (λ (k : ℕ). run k s) fewer ∙ c.rest

      -- a turn that goes on
      pub capped_goes_on : (t : S) → ((k : ℕ) → run (suc k) s ≡ run k t) → Capped end (n + 1) t
      capped_goes_on t h = record {
        small = omega arith;
        rest = sym (h (cap - (n + 1))) ∙ ap (λ (k : ℕ). run k s) fewer ∙ c.rest;
      }
