-- The outcome of a scaling, case by case, over what the calls of `motion::scaling::scaled_pair` give: by which test it
-- is refused and by which number, and when it is not. Assumes nothing.
use Rattle.std.proofs.Common.{◌≡◌, ◌∙◌, sym, ap, ℕ, true, false, Float, Ok, Err, eq-eqb, ne_eqb, arith}
use Rattle.number.specs.Number.{numbered, answered}
use Rattle.number.specs.declared.refusal.Refusal.{Refusal}
use Rattle.number.specs.declared.refusal.Refusal.TheVariants.{NoFactor, ScaledNotFinite}
use Rattle.number.proofs.Answers.{answered_value, answered_refused, given, refused_by}
use Rattle.admission.specs.Admission.{time_refusal}
use Rattle.motion.specs.declared.record.Pair.{Pair}
use Rattle.motion.specs.Motion.{usable, first_factor, factors_for, scaled_pair, finite_pair, scaling_refusal}
use Rattle.motion.specs.Inner.{outcome}

-- the refusal of one answer is that of another, made with the same number
pub same_refusal : {A B : Type 0} (n : ℕ) (v : A) (w : B) (r : Refusal) → answered n v ≡ Err r → answered n w ≡ Err r
same_refusal n v w r e = let h = refused_by n v r e in sym (answered_refused n w h.0) ∙ ap Err h.1

module _ (p : Pair) (t : Float) where
  abbrev time : ℕ
  time = time_refusal p.x p.dx t

  abbrev all : Float × Pair
  all = ((factors_for p t).product, scaled_pair p t)

  refused_lem : (n : ℕ) → scaling_refusal p t ≡ n → (n ≡ 0 → ⊥) → Err (numbered n) ≡ outcome p t
  refused_lem n e z = rw (← e) (answered_refused (scaling_refusal p t) all (λ h. z (sym e ∙ h)))

  pub by_admission : (r : Refusal) → answered {A = Unit {0}} time tt ≡ Err r → Err r ≡ outcome p t
  unfolding scaling_refusal
  by_admission r e =
      let h = refused_by {A = Unit {0}} time tt r e in
      let same : scaling_refusal p t ≡ time = rw (ne_eqb time 0 h.0) in
      ap Err (sym h.1) ∙ refused_lem time same h.0

  module _ (admitted : answered {A = Unit {0}} time tt ≡ Ok tt) where
    none : time ≡ 0
    none = (given {A = Unit {0}} time tt tt admitted).0

    pub by_use : usable (first_factor p t) ≡ false → Err NoFactor ≡ outcome p t
    unfolding scaling_refusal numbered
    by_use h = refused_lem 4 (rw (eq-eqb time 0 none, h)) (λ e. omega arith)

    module _ (w : usable (first_factor p t) ≡ true) where
      pub by_size : finite_pair (scaled_pair p t) ≡ false → Err ScaledNotFinite ≡ outcome p t
      unfolding scaling_refusal numbered
      by_size h = refused_lem 5 (rw (eq-eqb time 0 none, w, h)) (λ e. omega arith)

      pub by_none : finite_pair (scaled_pair p t) ≡ true → Ok all ≡ outcome p t
      unfolding scaling_refusal
      by_none h = answered_value (scaling_refusal p t) all (rw (eq-eqb time 0 none, w, h))
