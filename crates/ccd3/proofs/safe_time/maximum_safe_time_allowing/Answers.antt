-- What the definition's walk tells, its promises, and what it tells of other allowances.
use native.Mathlib.Nat.{zero-add}
use mathlib.Core.Path.{◌≡◌, sym, ap, ◌∙◌, subst}
use mathlib.Core.List.{List}
use Prim.Native.Nat.{ℕ}
use lib.Dec.{T}
use lib.ListN.{length}
use lib.Ieee.{Float}
use denote.Struct.Laws.{owed}
use Rattle.geometry.proofs.Handed.{points_fit}
use Rattle.admission.specs.contracts.Limits.{the_type}
use Rattle.admission.specs.declared.Limits.{Limits}
use Rattle.admission.proofs.Limits.TheLaws.{the_laws}
use Rattle.ccd3.specs.declared.SafeTime.{SafeTime}
use Rattle.ccd3.specs.declared.Counted.{Counted}
use Rattle.ccd3.specs.SafeTime.{Walked, told_of, safe_walk, safe_time_of, Promises}
use Rattle.ccd3.specs.Allowance.{GrowsFrom}
use Rattle.ccd3.specs.Inner.{counted_from}
use Rattle.ccd3.proofs.Admitted.{Fitting}
use Rattle.ccd3.proofs.Promises.{safe_time_promised}
use Rattle.ccd3.proofs.Allowance.{safe_time_grows}
use Rattle.ccd3.proofs.safe_time.maximum_safe_time_allowing.Goals as goal

-- the answer, of the whole record
abbrev told : Counted → SafeTime
told k = record { answer = k.ending.answer; probes = k.probes; halvings = k.ending.halvings }

told_all : (w : Walked) → told (counted_from 0 w) ≡ told_of w
told_all w i = record {
  answer = w.ending.answer;
  probes = zero-add (length w.probed) i;
  halvings = w.ending.halvings;
}

-- the clauses, from the equation
record Clauses (x₀ dx : List (List Float)) (split : ℕ) (l : Limits) (allowed : ℕ) (r : SafeTime) : Type 0 where
  answer : r ≡ safe_time_of x₀ dx split l allowed
  promised : Promises x₀ dx split l allowed r
  grows : GrowsFrom x₀ dx split l allowed r

clauses : (x₀ dx : List (List Float)) (split : ℕ) (l : Limits) (allowed : ℕ) → Fitting x₀ l → (k : Counted)
    → k ≡ counted_from 0 (safe_walk x₀ dx split l allowed) → Clauses x₀ dx split l allowed (told k)
unfolding safe_time_of
clauses x₀ dx split l allowed f k e =
    let same : told k ≡ safe_time_of x₀ dx split l allowed = ap told e ∙ told_all (safe_walk x₀ dx split l allowed) in
    record {
      answer = same;
      promised = subst (Promises x₀ dx split l allowed) (sym same) (safe_time_promised x₀ dx split l allowed f);
      grows = subst (GrowsFrom x₀ dx split l allowed) (sym same) (safe_time_grows x₀ dx split l allowed f);
    }

pub returns : goal.returns
returns c =
    let a = c.args in
    let l = owed the_type the_laws a.limits _ c.well_formed.1.1.1.0 in
    let f : Fitting a.x0 a.limits = record {
      points = points_fit a.x0 _ c.well_formed.0;
      offset = subst T (sym l.0.1) tt;
      clearance = subst T (sym l.1.0.1) tt;
      max_t = subst T (sym l.1.1.0.1) tt;
    } in
    let k : Clauses a.x0 a.dx a.split a.limits a.allowance (told c.safe_walk-c.result) =
    clauses a.x0 a.dx a.split a.limits a.allowance f c.safe_walk-c.result c.safe_walk-c.ensures in
    record { answer = k.answer; promised = k.promised; grows = k.grows }
