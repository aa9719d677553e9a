-- A later time has other bits.
use mathlib.Core.Path.{◌≡◌, sym, subst}
use mathlib.Core.Bool.{false}
use lib.Dec.{T, eqb, eqb→eq, not_T}
use lib.Ieee.{Float, binary32, fits, lt, to_bits}
use lib.Ieee.Bits.{is_false}
use Rattle.number.proofs.Transitive.{lt_self}
use Rattle.number.proofs.Units.{same_bits}
use Rattle.ccd3.proofs.walk.stays.Goals as goal

-- numbers of which one is below the other have other bits
other_bits : (x y : Float) → T (fits binary32 x) → T (fits binary32 y) → T (lt x y)
    → eqb (to_bits binary32 y) (to_bits binary32 x) ≡ false
other_bits x y f g h =
    is_false (eqb (to_bits binary32 y) (to_bits binary32 x))
    (not_T (eqb (to_bits binary32 y) (to_bits binary32 x)) (λ t.
    lt_self x (subst (λ (z : Float). T (lt x z))
    (same_bits y x g f (eqb→eq (to_bits binary32 y) (to_bits binary32 x) t)) h)))

pub returns-then-time-next : goal.returns-then-time-next
returns-then-time-next c =
    sym (other_bits c.args.time c.args.next (subst T (sym c.well_formed.0.1) tt) (subst T (sym c.well_formed.1.0.1) tt)
    (subst T (sym c.if-time-next.true) tt))
