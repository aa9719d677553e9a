-- What an answer tells of other allowances (docs/01-scope.md, "The allowance"): what a preview can count on.
-- Definitions only.
use Rattle.std.specs.Prelude.{ℕ, ◌≤◌, T, Float}
use mathlib.Core.{Path.◌≡◌, List.List}
use Rattle.std.specs.Float.Ieee.{le}
use Rattle.admission.specs.{declared.Limits.Limits, Admission.full_allowance}
use Rattle.ccd3.specs.declared.SafeTime.{SafeTime}
use Rattle.ccd3.specs.SafeTime.{numbers_of, safe_time_of}

-- an answer in numbers: refusal, kind, time, probes, halvings
abbrev pub five_of : SafeTime → ℕ × ℕ × Float × ℕ × ℕ
five_of s = let n = numbers_of s.answer in (n.0, n.1, n.2, s.probes, s.halvings)

module _ (x₀ dx : List (List Float)) (split : ℕ) (l : Limits) where
  -- with so many probes allowed
  abbrev pub answer_at : ℕ → ℕ × ℕ × Float × ℕ × ℕ
  answer_at allowed = five_of (safe_time_of x₀ dx split l allowed)

  -- the numbers of an answer. Any but a budget (kind 3) is the answer of every larger allowance, counts included; a
  -- budget is one of every smaller allowance, too. Whatever the kinds are, the time of a smaller allowance is not after
  -- its own.
  pub record Grows (allowed refusal kind : ℕ) (time : Float) (probes halvings : ℕ) : Type 0 where
    pub stays : (kind ≡ 3 → ⊥) → 1 ≤ allowed → (more : ℕ) → allowed ≤ more → more ≤ full_allowance
        → answer_at more ≡ (refusal, kind, time, probes, halvings)
    pub budget_before : kind ≡ 3 → (fewer : ℕ) → 1 ≤ fewer → fewer ≤ allowed → (answer_at fewer).1 ≡ 3
    pub never_falls : allowed ≤ full_allowance → (fewer : ℕ) → 1 ≤ fewer → fewer ≤ allowed
        → T (le (answer_at fewer).2 time)

-- of an answer as the library gives it
abbrev pub GrowsFrom : List (List Float) → List (List Float) → ℕ → Limits → ℕ → SafeTime → Type 0
GrowsFrom x₀ dx split l allowed s =
    let n = five_of s in Grows x₀ dx split l allowed n.0 n.1 n.2 n.3 n.4
