-- The numbers still to come in a loop that counts, and the cross pairs still to come in two loops over the columns of
-- either side, of any split; which cross pairs there are, and what a fold over them keeps and reaches. Assumes nothing.
use mathlib.Core.Path.{◌≡◌, ap, subst}
use mathlib.Core.Logic.{inl, inr}
use mathlib.Core.List.{List, [], ◌∷◌, ◌++◌, map, flat_map, foldl}
use Prim.Native.Nat.{ℕ, zero, suc, ◌+◌, ◌-◌, ◌≤◌, ◌<◌}
use native.Mathlib.Nat.{eq-or-lt_of_le}
use native.Mathlib.Numerals.{add-one}
use native.Mathlib.Omega.{arith}
use Rattle.geometry.specs.Geometry.{Cross, cross, count, cross_pairs}

pub count_next : (i n : ℕ) → i < n → count i (n - i) ≡ i ∷ count (i + 1) (n - (i + 1))
unfolding count
count_next i n h =
    let one_less : n - i ≡ suc (n - (i + 1)) = omega arith in
    rw (one_less, add-one i)

pub count_done : (i n : ℕ) → n ≤ i → count i (n - i) ≡ []
unfolding count
count_done i n h =
    let none : n - i ≡ 0 = omega arith in
    rw none

module _ (split : ℕ) where
  -- column i against those from j on; the rows from column i on; both, within row i
  abbrev row : ℕ → ℕ → List Cross
  row i j = map (cross i) (count j (4 - j))

  abbrev pub rows : ℕ → List Cross
  rows i = flat_map (λ (k : ℕ). row k split) (count i (split - i))

  abbrev pub rest : ℕ → ℕ → List Cross
  rest i j = row i j ++ rows (i + 1)

  pub row_next : (i j : ℕ) → j < 4 → rest i j ≡ cross i j ∷ rest i (j + 1)
  row_next i j h = ap (λ (js : List ℕ). map (cross i) js ++ rows (i + 1)) (count_next j 4 h)

  pub row_done : (i j : ℕ) → 4 ≤ j → rest i j ≡ rows (i + 1)
  row_done i j h = ap (λ (js : List ℕ). map (cross i) js ++ rows (i + 1)) (count_done j 4 h)

  pub rows_next : (i : ℕ) → i < split → rows i ≡ rest i split
  unfolding flat_map
  rows_next i h = ap (flat_map (λ (k : ℕ). row k split)) (count_next i split h)

  pub rows_done : (i : ℕ) → split ≤ i → rows i ≡ []
  unfolding flat_map
  rows_done i h = ap (flat_map (λ (k : ℕ). row k split)) (count_done i split h)

-- ---- the columns of each cross pair
-- a column before the split, and one from it
abbrev pub Crosses : ℕ → Cross → Type 0
Crosses split p = (p.first < split) × (split ≤ p.second) × (p.second < 4)

abbrev AllCross : ℕ → List Cross → Type 0
AllCross split [] = Unit
AllCross split (p ∷ ps) = Crosses split p × AllCross split ps

module _ (split : ℕ) where
  append_cross : (ps qs : List Cross) → AllCross split ps → AllCross split qs → AllCross split (ps ++ qs)
  append_cross [] qs h k = k
  append_cross (p ∷ ps) qs (h, r) k = (h, append_cross ps qs r k)

  row_cross : (i j n : ℕ) → i < split → split ≤ j → n ≤ 4 - j → AllCross split (map (cross i) (count j n))
  unfolding count
  row_cross i j zero h k l = tt
  row_cross i j (suc n) h k l =
      ((omega arith, omega arith, omega arith), row_cross i (suc j) n h (omega arith) (omega arith))

  rows_cross : (i n : ℕ) → i + n ≤ split → AllCross split (flat_map (λ (k : ℕ). row split k split) (count i n))
  unfolding count flat_map
  rows_cross i zero h = tt
  rows_cross i (suc n) h =
      append_cross (row split i split) _ (row_cross i split (4 - split) (omega arith) (omega arith) (omega arith))
      (rows_cross (suc i) n (omega arith))

-- what each pair's turns keep between two folds, the whole folds keep
pub pairs_match : {A B : Type 0} (R : A → B → Type 0) (f : A → Cross → A) (g : B → Cross → B) (split : ℕ)
    → ((a : A) (b : B) (p : Cross) → Crosses split p → R a b → R (f a p) (g b p))
    → (a : A) (b : B) → R a b → R (foldl f a (cross_pairs split)) (foldl g b (cross_pairs split))
unfolding cross_pairs
pairs_match {A} {B} R f g split h a b r = go (cross_pairs split) a b (rows_cross split 0 split (omega arith)) r
  where
    go : (ps : List Cross) (a : A) (b : B) → AllCross split ps → R a b → R (foldl f a ps) (foldl g b ps)
    go [] a b c r = r
    go (p ∷ ps) a b (k, c) r = go ps (f a p) (g b p) c (h a b p k r)

-- so it is with one fold
pub pairs_keep : {B : Type 0} (P : B → Type 0) (f : B → Cross → B) (split : ℕ)
    → ((b : B) (p : Cross) → Crosses split p → P b → P (f b p))
    → (b : B) → P b → P (foldl f b (cross_pairs split))
pairs_keep {B} P f split h b q = pairs_match (λ (b c : B). P b) f f split (λ b c p k q. h b p k q) b b q

-- ---- each pair of columns on either side of the split is among the cross pairs
data In (p : Cross) : List Cross → Type 0 where
  here : {ps : List Cross} → In p (p ∷ ps)
  after : {q : Cross} {ps : List Cross} → In p ps → In p (q ∷ ps)

in_left : {p : Cross} (ps qs : List Cross) → In p ps → In p (ps ++ qs)
in_left {p = p} [] qs x' = elim x' [ ]
in_left (p ∷ ps) qs here = here
in_left (q ∷ ps) qs (after h) = after (in_left ps qs h)

in_right : {p : Cross} (ps qs : List Cross) → In p qs → In p (ps ++ qs)
in_right [] qs h = h
in_right (q ∷ ps) qs h = after (in_right ps qs h)

in_row : (i j n l : ℕ) → j ≤ l → l < j + n → In (cross i l) (map (cross i) (count j n))
unfolding count
in_row i j zero l h k = absurd (omega arith)
in_row i j (suc n) l h k = elim (eq-or-lt_of_le h) [
  | inl e ↦ subst (λ (m : ℕ). In (cross i m) (map (cross i) (count j (suc n)))) e here
  | inr m ↦ after (in_row i (suc j) n l m (omega arith))
]

in_rows : (split i n k l : ℕ) → i ≤ k → k < i + n → split ≤ l → l < 4
    → In (cross k l) (flat_map (λ (k : ℕ). row split k split) (count i n))
unfolding count flat_map
in_rows split i zero k l h m a b = absurd (omega arith)
in_rows split i (suc n) k l h m a b = elim (eq-or-lt_of_le h) [
  | inl e ↦
      in_left (row split i split) _
      (subst (λ (j : ℕ). In (cross j l) (row split i split)) e (in_row i split (4 - split) l a (omega arith)))
  | inr o ↦ in_right (row split i split) _ (in_rows split (suc i) n k l o (omega arith) a b)
]

-- what one pair's turn brings about and every turn keeps, the whole fold has
pub pairs_reach : {B : Type 0} (P : B → Type 0) (f : B → Cross → B) → ((b : B) (q : Cross) → P b → P (f b q))
    → (split : ℕ) (p : Cross) → Crosses split p → ((b : B) → P (f b p)) → (b : B) → P (foldl f b (cross_pairs split))
unfolding cross_pairs
pairs_reach {B} P f keep split p (h, k, l) turn b =
    go (cross_pairs split) b (in_rows split 0 split p.first p.second (omega arith) (omega arith) k l)
  where
    on : (ps : List Cross) (b : B) → P b → P (foldl f b ps)
    on [] b q = q
    on (r ∷ ps) b q = on ps (f b r) (keep b r q)

    go : (ps : List Cross) (b : B) → In p ps → P (foldl f b ps)
    go [] b x3 = elim x3 [ ]
    go (q ∷ ps) b here = on ps (f b p) (turn b)
    go (q ∷ ps) b (after i) = go ps (f b q) i
