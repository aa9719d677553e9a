-- Tables of what each cross pair leaves give the directional step of the definition (specs/SafeTime.antt,
-- specs/Inner.antt): what one pair does to the least time, that both say the same of any list of pairs, and so of the
-- cross pairs of a split of 2 or 3. Assumes nothing.
use mathlib.Core.Path.{◌≡◌, refl, ap, ◌∙◌}
use mathlib.Core.Bool.{Bool, true, false, cond}
use mathlib.Core.List.{List, [], ◌∷◌, flat_map}
use Prim.Native.Nat.{ℕ, zero, suc, ◌≤◌, ◌<◌}
use native.Mathlib.Omega.{arith}
use lib.Dec.{T, not_T, lit<, lit≤}
use lib.Ieee.Bits.{is_false}
use lib.Ieee.{Float, lt, le}
use Rattle.number.specs.Number.{◌⊗◌, zero32, largest32, smaller}
use Rattle.number.proofs.Transitive.{lt_trans, lt_self}
use Rattle.geometry.specs.Geometry.{Cross, cross, count, cross_pairs}
use Rattle.ccd3.specs.declared.Aim.{Aim}
use Rattle.ccd3.specs.SafeTime.{time_to_park, left_of, speed_of, stops, least_over}
use Rattle.ccd3.specs.Inner.{time_left, entry, least_in}

-- ---- one pair, as the loop meets it
module _ (left time : List (List Float)) (dip : Float) where
  pub none_left : (least : Float) → least_in left time dip [] least ≡ least
  unfolding least_in
  none_left least = refl

  module _ (p : Cross) (ps : List Cross) (least : Float) where
    pub pair_stops : le (entry left p) dip ≡ true → least_in left time dip (p ∷ ps) least ≡ zero32
    unfolding least_in
    pair_stops e = rw e

    pub pair_passes : (least' : Float) → least' ≡ smaller least (entry time p) → le (entry left p) dip ≡ false
        → least_in left time dip (p ∷ ps) least ≡ least_in left time dip ps least'
    unfolding least_in
    pair_passes least' l e = rw (e, l)

-- ---- the tables
-- no least time is above the largest f32, from which it starts
abbrev Under : Float → Type 0
Under t = T (lt largest32 t) → ⊥

under_smaller : (least t : Float) → Under least → Under (smaller least t)
unfolding smaller
under_smaller least t h = go (lt t least) (λ u. u)
  where
    go : (b : Bool) → (T b → T (lt t least)) → T (lt largest32 (cond b t least)) → ⊥
    go true f u = h (lt_trans largest32 t least u (f tt))
    go false f u = h u

with_largest : (least : Float) → Under least → smaller least largest32 ≡ least
unfolding smaller
with_largest least h = rw (is_false (lt largest32 least) (not_T (lt largest32 least) h))

module _ (x dx : List (List Float)) (a : Aim) where
  -- the least time with that of one pair more
  abbrev lessened : Float → Float → Float → Float
  lessened least left speed = cond (lt zero32 speed) (smaller least (time_to_park a left speed)) least

  as_smaller : (least left speed : Float) → Under least
      → smaller least (time_left a left speed) ≡ lessened least left speed
  unfolding time_left
  as_smaller least left speed h = go (lt zero32 speed)
    where
      go : (b : Bool)
          → smaller least (cond b (time_to_park a left speed) largest32)
          ≡ cond b (smaller least (time_to_park a left speed)) least
      go true = refl
      go false = with_largest least h

  module _ (left time : List (List Float)) where
    -- the tables have what each of the pairs leaves
    unfoldable pub Tabled : List Cross → Type 0
    Tabled [] = Unit
    Tabled (p ∷ ps) =
        (entry left p ≡ left_of a x dx p) × (entry time p ≡ time_left a (entry left p) (speed_of a x dx p)) × Tabled ps

    abbrev D : Float
    D = a.dip ⊗ a.norm

    alike : (ps : List Cross) → Tabled ps → (least : Float) → Under least
        → least_in left time D ps least ≡ least_over a x dx ps least
    unfolding least_in least_over Tabled
    alike [] h least u = refl
    alike (p ∷ ps) h least u =
        let step : smaller least (entry time p) ≡ lessened least (left_of a x dx p) (speed_of a x dx p) =
        ap (smaller least) h.1
        ∙ as_smaller least (entry left p) (speed_of a x dx p) u
        ∙ ap (λ (r : Float). lessened least r (speed_of a x dx p)) h.0 in
        ap (λ (r : Float). cond (le r D) zero32 (least_in left time D ps (smaller least (entry time p)))) h.0
        ∙ ap (cond (stops a x dx p) zero32)
        (alike ps h.2 (smaller least (entry time p)) (under_smaller least (entry time p) u)
        ∙ ap (least_over a x dx ps) step)

    pub tables_give : (ps : List Cross) → Tabled ps → least_in left time D ps largest32 ≡ least_over a x dx ps largest32
    tables_give ps h = alike ps h largest32 (lt_self largest32)

  -- ---- the tables of a split of 2 or 3
  -- what a pair leaves, where it is on either side of the split
  abbrev Gap : ℕ → ℕ → ℕ → Float → Type 0
  Gap split i j r = i < split → split ≤ j → r ≡ left_of a x dx (cross i j)

  abbrev Time : ℕ → ℕ → ℕ → Float → Float → Type 0
  Time split i j r t = i < split → split ≤ j → t ≡ time_left a r (speed_of a x dx (cross i j))

  abbrev pub table : Float → Float → Float → Float → Float → Float → List (List Float)
  table z r02 r03 r12 r13 r23 =
      (z ∷ z ∷ r02 ∷ r03 ∷ []) ∷ (z ∷ z ∷ r12 ∷ r13 ∷ []) ∷ (z ∷ z ∷ z ∷ r23 ∷ []) ∷ []

  module _ (z : Float) {r02 r03 r12 r13 r23 t02 t03 t12 t13 t23 : Float} where
    pub split_tables : (split : ℕ) → 2 ≤ split → split ≤ 3
        → Gap split 0 2 r02 → Gap split 0 3 r03 → Gap split 1 2 r12 → Gap split 1 3 r13 → Gap split 2 3 r23
        → Time split 0 2 r02 t02 → Time split 0 3 r03 t03 → Time split 1 2 r12 t12 → Time split 1 3 r13 t13
        → Time split 2 3 r23 t23
        → least_in (table z r02 r03 r12 r13 r23) (table z t02 t03 t12 t13 t23) (a.dip ⊗ a.norm) (cross_pairs split)
        largest32
        ≡ least_over a x dx (cross_pairs split) largest32
    unfolding cross_pairs count flat_map Tabled
    split_tables zero l m g02 g03 g12 g13 g23 s02 s03 s12 s13 s23 = absurd (omega arith)
    split_tables (suc zero) l m g02 g03 g12 g13 g23 s02 s03 s12 s13 s23 = absurd (omega arith)
    split_tables (suc (suc zero)) l m g02 g03 g12 g13 g23 s02 s03 s12 s13 s23 =
        tables_give _ _ (cross_pairs 2) (
          g02 (lit< tt) (lit≤ tt),
          s02 (lit< tt) (lit≤ tt),
          (
            g03 (lit< tt) (lit≤ tt),
            s03 (lit< tt) (lit≤ tt),
            (
              g12 (lit< tt) (lit≤ tt),
              s12 (lit< tt) (lit≤ tt),
              (g13 (lit< tt) (lit≤ tt), s13 (lit< tt) (lit≤ tt), tt),
            ),
          ),
        )
    split_tables (suc (suc (suc zero))) l m g02 g03 g12 g13 g23 s02 s03 s12 s13 s23 =
        tables_give _ _ (cross_pairs 3) (
          g03 (lit< tt) (lit≤ tt),
          s03 (lit< tt) (lit≤ tt),
          (
            g13 (lit< tt) (lit≤ tt),
            s13 (lit< tt) (lit≤ tt),
            (g23 (lit< tt) (lit≤ tt), s23 (lit< tt) (lit≤ tt), tt),
          ),
        )
    split_tables (suc (suc (suc (suc n)))) l m g02 g03 g12 g13 g23 s02 s03 s12 s13 s23 = absurd (omega arith)
