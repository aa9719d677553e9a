-- Whether the first smallest squared distance is above a threshold, from the candidates one by one: the first is above
-- it, and no other is at or below it. A NaN among the others is passed over, as in the choice. Assumes nothing.
use mathlib.Core.Path.{◌≡◌, refl, sym, ap, ◌∙◌}
use mathlib.Core.Bool.{Bool, true, false, not, ◌&&◌, cond, false≢true}
use mathlib.Core.List.{List, [], ◌∷◌, ◌++◌, map}
use Rattle.std.specs.List.{fold}
use lib.Dec.{T, T_not, not_T}
use lib.Ieee.{Float, lt, le}
use lib.Ieee.Fits.{and_i, and_l, and_r}
use Rattle.number.proofs.Units.Compared.{same_test}
use Rattle.number.proofs.NoNan.{no_nan_lt}
use Rattle.number.proofs.Comparing.{not_lt_le}
use Rattle.distance.specs.declared.candidate.Nearest.{Nearest}
use Rattle.distance.specs.Distance.{nearer, nearest_from, only}
use Rattle.distance.proofs.Choice.{nearest_append}
use Rattle.number.proofs.Transitive.{lt_trans, le_lt_trans, lt_not_le}

module _ (t : Float) where
  -- the first is above t, and none of the list is at or below it
  abbrev pub clear : Bool → Float → Bool
  clear above x = above && not (le x t)

  -- x is the least so far, y the next
  module _ (x y : Float) where
    taken : T (lt y x) → lt t y ≡ lt t x && not (le y t)
    taken h =
        same_test (lt t y) (lt t x && not (le y t))
        (λ k. and_i (lt t x) (not (le y t)) (lt_trans t y x k h) (not_T (le y t) (lt_not_le t y k)))
        (λ k. decide (lt t y) (not_lt_le t y (no_nan_lt t x (and_l (lt t x) (not (le y t)) k)).0 (no_nan_lt y x h).0)
        (and_r (lt t x) (not (le y t)) k))
      where
        decide : (b : Bool) → (T (not b) → T (le y t)) → T (not (le y t)) → T b
        decide true f g = tt
        decide false f g = T_not (le y t) g (f tt)

    kept : T (not (lt y x)) → lt t x ≡ lt t x && not (le y t)
    kept h =
        same_test (lt t x) (lt t x && not (le y t))
        (λ k. and_i (lt t x) (not (le y t)) k (not_T (le y t) (λ l. T_not (lt y x) h (le_lt_trans y t x l k))))
        (and_l (lt t x) (not (le y t)))

  above_nearer : (a b : Nearest) → lt t (nearer a b).squared ≡ lt t a.squared && not (le b.squared t)
  unfolding nearer
  above_nearer a b =
      go (lt b.squared a.squared) (taken a.squared b.squared) (kept a.squared b.squared)
    where
      go : (c : Bool) → (T c → lt t b.squared ≡ lt t a.squared && not (le b.squared t))
          → (T (not c) → lt t a.squared ≡ lt t a.squared && not (le b.squared t))
          → lt t (cond c b a).squared ≡ lt t a.squared && not (le b.squared t)
      go true f g = f tt
      go false f g = g tt

  above_from : (first : Nearest) (others : List Nearest)
      → lt t (nearest_from first others).squared
      ≡ fold clear (lt t first.squared) (map (λ (n : Nearest). n.squared) others)
  unfolding nearest_from
  above_from first [] = refl
  above_from first (b ∷ rest) =
      above_from (nearer first b) rest
      ∙ ap (λ (z : Bool). fold clear z (map (λ (n : Nearest). n.squared) rest)) (above_nearer first b)

  -- after a comes the interior candidate where it is there
  last_reaches : (a b : Nearest) (there : Bool) → there && le b.squared t ≡ true
      → lt t (nearest_from a (only there b)).squared ≡ false
  unfolding nearest_from only
  last_reaches a b true h = above_nearer a b ∙ rw h (none (lt t a.squared))
    where
      none : (b : Bool) → b && false ≡ false
      none true = refl
      none false = refl
  last_reaches a b false h = absurd (false≢true h)

  last_clears : (a b : Nearest) (there : Bool) → there && le b.squared t ≡ false
      → lt t (nearest_from a (only there b)).squared ≡ lt t a.squared
  unfolding nearest_from only
  last_clears a b true h = above_nearer a b ∙ rw h (same (lt t a.squared))
    where
      same : (b : Bool) → b && true ≡ b
      same true = refl
      same false = refl
  last_clears a b false h = refl

  -- a first candidate, others, and the interior one
  module _ (first : Nearest) (others : List Nearest) (there : Bool) (inner : Nearest) where
    last : lt t (nearest_from (nearest_from first others) (only there inner)).squared
        ≡ lt t (nearest_from first (others ++ only there inner)).squared
    last = ap (λ (n : Nearest). lt t n.squared) (sym (nearest_append first others (only there inner)))

    pub inner_reaches : there && le inner.squared t ≡ true
        → false ≡ lt t (nearest_from first (others ++ only there inner)).squared
    inner_reaches h = sym (last_reaches _ inner there h) ∙ last

    pub inner_clears : there && le inner.squared t ≡ false
        → fold clear (lt t first.squared) (map (λ (n : Nearest). n.squared) others)
        ≡ lt t (nearest_from first (others ++ only there inner)).squared
    inner_clears h = sym (above_from first others) ∙ sym (last_clears _ inner there h) ∙ last
