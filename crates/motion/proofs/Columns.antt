-- The largest entry, folded over the columns of points and displacements side by side, and over their places: each is
-- its definition, which reads each place by its number. Assumes nothing.
use Rattle.std.proofs.Common.{◌≡◌, ◌∙◌, ap, refl, ℕ, List, [], map, length, get_or, Float}
use Rattle.std.specs.Float.{nan}
use Rattle.std.specs.List.{fold, zip, range_with_len}
use Rattle.std.proofs.lemmas.List.FromFn.{fill_by_all}
use Rattle.number.specs.Number.{zero32}
use Rattle.geometry.specs.Geometry.{count}
use Rattle.motion.specs.Motion.{larger_entry, larger_column, max_entry}

-- what a list reads at each number below n
read : {A : Type 0} → ℕ → A → List A → List A
read n d xs = map (λ (k : ℕ). get_or xs k d) (range_with_len 0 n)

-- two lists of n, side by side
module _ {A : Type 0} (n : ℕ) (d : A) where
  all_read : (xs : List A) → length xs ≡ n → xs ≡ read n d xs
  unfolding read
  all_read xs h = fill_by_all (λ (k : ℕ). get_or xs k d) xs n d h (λ k l. refl)

  zip_read : (xs ys : List A) → length xs ≡ n → length ys ≡ n → zip xs ys ≡ zip (read n d xs) (read n d ys)
  zip_read xs ys h k =
      ap (λ (zs : List A). zip zs ys) (all_read xs h) ∙ ap (λ (zs : List A). zip (read n d xs) zs) (all_read ys k)

-- the step over two places, and over two columns
abbrev pub entry_step : Float → Float → Float × Float → Float
entry_step t most p = larger_entry t most p.0 p.1

abbrev pub column_step : Float → Float → List Float × List Float → Float
column_step t most p = larger_column t most p.0 p.1

pub column_folded : (t most : Float) (v d : List Float) → length v ≡ 3 → length d ≡ 3
    → fold (entry_step t) most (zip v d) ≡ larger_column t most v d
unfolding read
column_folded t most v d h k = ap (fold (entry_step t) most) (zip_read 3 nan v d h k)

pub entries_folded : (t : Float) (x dx : List (List Float)) → length x ≡ 4 → length dx ≡ 4
    → fold (column_step t) zero32 (zip x dx) ≡ max_entry x dx t
unfolding read max_entry count
entries_folded t x dx h k = ap (fold (column_step t) zero32) (zip_read 4 [] x dx h k)
