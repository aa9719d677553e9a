-- What a call answers, and what it leaves in the points lent to it, by what admits it: where it is refused, it passes
-- the refusal on, and where it is admitted, it gives its value. Assumes nothing.
use Prim.Native.Nat.{ℕ}
use mathlib.Core.Path.{◌≡◌, refl, sym, ap, subst, ◌∙◌}
use mathlib.Core.List.{List}
use lib.Dec.{T}
use lib.Ieee.{Float}
use Rattle.std.specs.Prelude.{Result, Ok, Err, OnOk}
use Rattle.std.specs.Result.{IsErr, IsErrAnd}
use Rattle.std.proofs.lemmas.Result.{err_from_is_err_and, IfOk-from_err}
use Rattle.number.specs.Number.{refusal_of, admitted, answered}
use Rattle.number.specs.declared.refusal.Refusal.{Refusal}
use Rattle.number.proofs.Answers.{Told, taken, refused, answered_value, answered_refused, refusal_is, given, refused_by}
use Rattle.admission.specs.Admission.{finite_points}

-- e is what the exit of a `?` returns
abbrev pub Passes : {A : Type 0} → Result A Refusal → Refusal → Type 0
Passes r e = IsErr r × IsErrAnd r (λ d. d ≡ e)

-- what admits a call of refusal number n: it is refused by e, or not refused
abbrev pub RefusedBy : ℕ → Refusal → Type 0
RefusedBy n e = Err e ≡ answered n (tt {0})

abbrev pub Admits : ℕ → Type 0
Admits n = Ok tt ≡ answered n (tt {0})

module _ {A : Type 0} (n : ℕ) (v : A) where
  pub passed_on : (r : Result A Refusal) (e : Refusal) → RefusedBy n e → Passes r e → r ≡ answered n v
  passed_on r e h p =
      let d = err_from_is_err_and r p.1 in
      let q = refused_by n tt e (sym h) in
      d.1 ∙ ap Err (d.2 ∙ sym q.1) ∙ answered_refused n v q.0

  pub given_on : (w : A) → Admits n → w ≡ v → Ok w ≡ answered n v
  given_on w h e = ap Ok e ∙ answered_value n v (given n tt tt (sym h)).0

-- ---- points that are lent
module _ (n : ℕ) (told : Told n) (gives was : List (List Float)) where
  -- the clauses of a call that leaves x, and answers r
  abbrev pub Lent : Result (Unit {0}) Refusal → List (List Float) → Type 0
  Lent r x = record {
    refusal : refusal_of r ≡ n;
    lent : x ≡ admitted n gives was;
    finite : OnOk r (T (finite_points x));
  }

  pub lent_refused : (r : Result (Unit {0}) Refusal) (e : Refusal) → RefusedBy n e → Passes r e → Lent r was
  lent_refused r e h p = record {
    refusal = ap refusal_of (passed_on n tt r e h p) ∙ refusal_is n tt told;
    lent = refused gives was n n refl (refused_by n tt e (sym h)).0;
    finite = IfOk-from_err r (λ _. T (finite_points was)) p.0;
  }

  pub lent_given : (x : List (List Float)) → Admits n → x ≡ gives → (n ≡ 0 → T (finite_points (admitted n gives was)))
      → Lent (Ok tt) x
  lent_given x h e real =
      let none = (given n (tt {0}) tt (sym h)).0 in
      let is = e ∙ taken gives was n n refl none in
      record {
        refusal = ap refusal_of h ∙ refusal_is n tt told;
        lent = is;
        finite = subst (λ (x : List (List Float)). T (finite_points x)) (sym is) (real none);
      }
