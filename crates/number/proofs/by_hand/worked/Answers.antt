-- `worked`: each turn writes a digit at half the place of the one before.
use Rattle.std.proofs.Common.{◌≡◌, ℕ, ◌+◌, ◌-◌, ◌*◌, ◌/◌, ◌^◌, ◌≤◌, ◌<◌, refl, sym, ap, ◌∙◌, subst, arith}
use lib.Pow.{pow_mono}
use Rattle.number.specs.declared.by_hand.Sheet.{Sheet}
use Rattle.number.specs.Inner.{OnSheet}
use Rattle.number.proofs.SquareRoot.Sheet.{sheet_blank, twice_short, left_short}
use Rattle.number.proofs.SquareRoot.Worked.{halved}
use Rattle.number.proofs.by_hand.worked.Invariants.{Stands}
use Rattle.number.proofs.by_hand.worked.Goals as goal

module _ (n turns : ℕ) (s : Sheet) (place done : ℕ) (h : Stands n turns s place done) (t : turns ≤ 25)
    (l : done < turns) where
  half_is : place / 2 ≡ 2 ^ (25 - (done + 1))
  half_is = let e = h.at in let f = halved done (omega arith) in omega arith

  twice_half : 2 * (place / 2) ≡ place
  twice_half = let e = h.at in let f = halved done (omega arith) in omega arith

  room : n < 2 ^ 25 → (s.left < 2 ^ 31) × (s.twice + 2 * (place / 2) < 2 ^ 32)
  room b =
      let w : n * 2 ^ 25 < 2 ^ 50 = omega arith in
      let e = h.at in
      let m = pow_mono {i = 25 - done} {j = 25} (omega arith) in (
        omega (arith, left_short (n * 2 ^ 25) place w s h.on),
        omega (arith, twice_half, twice_short (n * 2 ^ 25) place w s h.on),
      )

  next : (r : Sheet) → ((m : ℕ) → OnSheet m (2 * (place / 2)) s → OnSheet m (place / 2) r)
      → Stands n turns r (place / 2) (done + 1)
  next r f = record {
    few = omega arith;
    at = half_is;
    on = f (n * 2 ^ 25) (subst (λ (q : ℕ). OnSheet (n * 2 ^ 25) q s) (sym twice_half) h.on);
  }

pub loop-init : goal.loop-init
loop-init c = record {
  few = omega arith;
  at = refl;
  on = sheet_blank c.args.n (2 ^ 25) c.requires.0;
}

pub digit-s-requires : goal.digit-s-requires
digit-s-requires c =
    let l = c.loop in
    room c.args.n c.args.turns l.s l.place l.counter l.invariant (omega arith) (omega arith) (omega arith)

pub loop-preserved : goal.loop-preserved
loop-preserved c =
    let l = c.loop in
    next c.args.n c.args.turns l.s l.place l.counter l.invariant (omega arith) (omega arith) c.digit-s.result
    c.digit-s.ensures

pub returns : goal.returns
returns c =
    let l = c.loop in
    let e : l.counter ≡ c.args.turns = let f = l.invariant.few in omega arith in
    subst (λ (q : ℕ). OnSheet (c.args.n * 2 ^ 25) q l.s) (l.invariant.at ∙ ap (λ (j : ℕ). 2 ^ (25 - j)) e)
    l.invariant.on
