-- What a verdict says: 0 where every test is passed, 1 just where some number is not finite, 2 just where all are and
-- something lies beyond its range. And what a refusal number makes of a call: what it gives, what is answered, and the
-- number and the value of the answer. Assumes nothing.
use Prim.Native.Nat.{ℕ}
use native.Mathlib.Omega.{arith}
use mathlib.Core.Path.{◌≡◌, refl, sym, ap, ◌∙◌, subst}
use mathlib.Core.Logic.{◌↔◌}
use mathlib.Core.Bool.{Bool, true, false, not, cond}
use lib.Dec.{T, eqb}
use lib.Ieee.{Float}
use lib.Ieee.Bits.{is_true}
use borrow.Author.Rules.{rules}
use borrow.Author.Tests.{eq-eqb, ne_eqb, eqb-true}
use Rattle.std.specs.Prelude.{Result, Ok, Err}
use Rattle.number.specs.Number.{zero32, refusal, refusal_number, numbered, refusal_of, value_of, admitted, answered}
use Rattle.number.specs.declared.refusal.Refusal.{Refusal}

-- ---- the three numbers of a verdict
pub refusal_none : (finite ranged : Bool) → refusal finite ranged ≡ 0 → T finite × T ranged
refusal_none true true e = (tt, tt)
refusal_none true false e = omega arith
refusal_none false true e = omega arith
refusal_none false false e = omega arith

pub refusal_first : (finite ranged : Bool) → (refusal finite ranged ≡ 1) ↔ T (not finite)
refusal_first true true = (λ e. omega arith, λ n. absurd n)
refusal_first true false = (λ e. omega arith, λ n. absurd n)
refusal_first false ranged = (λ e. tt, λ n. refl)

pub refusal_second : (finite ranged : Bool) → (refusal finite ranged ≡ 2) ↔ (T finite × T (not ranged))
refusal_second true true = (λ e. omega arith, λ n. absurd n.1)
refusal_second true false = (λ e. (tt, tt), λ n. refl)
refusal_second false ranged = (λ e. absurd (omega arith), λ n. absurd n.0)

-- where what lies in its range is finite: in its range, admitted
pub ranged_none : (finite ranged : Bool) → (T ranged → T finite) → ranged ≡ true → 0 ≡ refusal finite ranged
ranged_none finite ranged real e = rw (is_true finite (real (subst T (sym e) tt)), e)

-- ---- what it makes of a call
-- once a refusal number has been tested: what an admitted call gives, and what a refused one does
module _ {A : Type 0} (given other : A) where
  pub taken : (n m : ℕ) → m ≡ n → m ≡ 0 → given ≡ admitted n given other
  taken n m e z = rw (eq-eqb n 0 (sym e ∙ z))

  pub refused : (n m : ℕ) → m ≡ n → (m ≡ 0 → ⊥) → other ≡ admitted n given other
  refused n m e z = rw (ne_eqb n 0 (λ p. z (e ∙ p)))

-- what both have, what is given or left has
pub admitted_keeps : {A : Type 0} (P : A → Type 0) (n : ℕ) (given other : A) → (n ≡ 0 → P given) → P other
    → P (admitted n given other)
admitted_keeps P n given other f g = go (eqb n 0) (eqb-true n 0)
  where
    go : (b : Bool) → (b ≡ true → n ≡ 0) → P (cond b given other)
    go true h = f (h refl)
    go false h = g

-- ---- the numbers of the refusals
-- a number that is 0, or names a refusal
abbrev pub Told : ℕ → Type 0
Told n = (n ≡ 0 → ⊥) → refusal_number (numbered n) ≡ n

pub refusal_told : (finite ranged : Bool) → Told (refusal finite ranged)
unfolding refusal_number numbered
refusal_told true true h = absurd (h refl)
refusal_told true false h = refl
refusal_told false ranged h = refl

-- each refusal is the one that its number names, and none has the number 0
pub numbered_number : (r : Refusal) → numbered (refusal_number r) ≡ r
unfolding refusal_number numbered
numbered_number r = search rules

pub number_some : (r : Refusal) → refusal_number r ≡ 0 → ⊥
unfolding refusal_number
number_some r e = search rules

-- ---- what is answered
module _ {A : Type 0} (n : ℕ) (v : A) where
  pub answered_value : n ≡ 0 → Ok v ≡ answered n v
  unfolding answered
  answered_value z = taken (Ok v) (Err (numbered n)) n n refl z

  pub answered_refused : (n ≡ 0 → ⊥) → Err (numbered n) ≡ answered n v
  unfolding answered
  answered_refused z = refused (Ok v) (Err (numbered n)) n n refl z

  -- an answer's number is the number that it was made with
  pub refusal_is : Told n → refusal_of (answered n v) ≡ n
  unfolding refusal_of answered
  refusal_is told = go (eqb n 0) refl
    where
      go : (b : Bool) → eqb n 0 ≡ b → refusal_of (cond b (Ok v) (Err (numbered n))) ≡ n
      go true h = sym (eqb-true n 0 h)
      go false h = told (λ z. cc (eq-eqb n 0 z))

  -- what an answer that is no refusal was made with
  pub given : (w : A) → answered n v ≡ Ok w → (n ≡ 0) × (v ≡ w)
  unfolding answered
  given w = go (eqb n 0) (eqb-true n 0)
    where
      go : (b : Bool) → (b ≡ true → n ≡ 0) → cond b (Ok v) (Err (numbered n)) ≡ Ok w → (n ≡ 0) × (v ≡ w)
      go true h e = (h refl, cc)
      go false h e = absurd (cc)

  -- and what a refusal was made with
  pub refused_by : (r : Refusal) → answered n v ≡ Err r → (n ≡ 0 → ⊥) × (numbered n ≡ r)
  unfolding answered
  refused_by r = go (eqb n 0) refl
    where
      go : (b : Bool) → eqb n 0 ≡ b → cond b (Ok v) (Err (numbered n)) ≡ Err r → (n ≡ 0 → ⊥) × (numbered n ≡ r)
      go true h e = absurd (cc)
      go false h e = (λ z. cc (eq-eqb n 0 z), cc)

-- of a number: its value is the value where that is 0
module _ (n : ℕ) (v : Float) where
  pub value_is : value_of (answered n v) ≡ admitted n v zero32
  unfolding value_of answered
  value_is = go (eqb n 0)
    where
      go : (b : Bool) → value_of (cond b (Ok v) (Err (numbered n))) ≡ cond b v zero32
      go true = refl
      go false = refl

  -- the clauses of a call that answers so
  pub clauses : (r : Result Float Refusal) → Told n → r ≡ answered n v
      → (r ≡ answered n v) × ((refusal_of r ≡ n) × (value_of r ≡ admitted n v zero32))
  clauses r told e = (e, (ap refusal_of e ∙ refusal_is n v told, ap value_of e ∙ value_is))

  -- what an answer that is no refusal was made with
  pub given_value : (r : Result Float Refusal) → r ≡ answered n v → refusal_of r ≡ 0 → (n ≡ 0) × (value_of r ≡ v)
  unfolding refusal_of value_of
  given_value (Ok w) e z = let (none, is) = given n v w (sym e) in (none, sym is)
  given_value (Err r) e z = absurd (number_some r z)
