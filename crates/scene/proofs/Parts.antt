-- A part of a file and the whole of it: what is read at place j of the rest from place i on is read at i + j of the
-- file. Assumes nothing.
use Rattle.std.proofs.Common.{◌≡◌, ℕ, zero, suc, ◌+◌, List, [], ◌∷◌, ◌&&◌, Bool, true, false}
use Rattle.std.proofs.Common.{drop, map, refl, add-one, sym, ap, ◌∙◌, arith}
use Rattle.std.proofs.lemmas.List.{get_or-drop}
use Rattle.std.proofs.lemmas.List.Folds.{list_all-map, list_all-append}
use Rattle.std.proofs.lemmas.List.FromFn.{map-range_with_len_more}
use Rattle.std.proofs.Math.Nat.{add_assoc, zero-add}
use Rattle.std.specs.List.{list_all, range_with_len}
use Rattle.scene.specs.Scene as Def
use Rattle.scene.specs.Scene.{word, point, pair_at, point_count, displacements_at, is_pair, are_pairs, split_of}
use Rattle.scene.specs.Inner as Inner
use Rattle.scene.specs.Inner.{points_part, displacements_part, pair_part}

pub word_dropped : (s : List ℕ) (i j : ℕ) → word (drop i s) j ≡ word s (i + j)
unfolding word
word_dropped s i j = simp (get_or-drop, add_assoc)

pub word_begins : (s : List ℕ) (i : ℕ) → word (drop i s) 0 ≡ word s i
word_begins s i = word_dropped s i 0 ∙ ap (word s) (whole i)
  where
    whole : (i : ℕ) → i + 0 ≡ i
    whole i = omega arith

pub point_begins : (s : List ℕ) (i : ℕ) → point (drop i s) 0 ≡ point s i
point_begins s i = simp (word_begins, word_dropped)

pub is_pair_begins : (s : List ℕ) (i n : ℕ) → is_pair (drop i s) 0 n ≡ is_pair s i n
unfolding is_pair
is_pair_begins s i n = simp (word_begins, word_dropped)

-- the test of each pair from the first on, and the definition, which goes from the last
turned : (a b : Bool) → (a && (b && true)) ≡ (b && a)
turned true true = refl
turned true false = refl
turned false true = refl
turned false false = refl

module _ (s : List ℕ) (n : ℕ) (e : n ≡ point_count s) where
  abbrev pub test : ℕ → Bool
  test i = is_pair (pair_part s i) 0 n

  tested : (i : ℕ) → test i ≡ is_pair s (pair_at n i) n
  tested i = is_pair_begins s (pair_at (point_count s) i) n ∙ ap (λ (m : ℕ). is_pair s (pair_at m i) n) (sym e)

  one_more : (k : ℕ) → list_all test (range_with_len 0 (k + 1)) ≡ (test k && list_all test (range_with_len 0 k))
  one_more k =
      sym (list_all-map (λ b. b) test (range_with_len 0 (k + 1)))
      ∙ ap (list_all (λ b. b)) (map-range_with_len_more test 0 k k (zero-add k))
      ∙ list_all-append (λ b. b) (map test (range_with_len 0 k)) (test k ∷ [])
      ∙ ap (λ (b : Bool). b && (test k && true)) (list_all-map (λ b. b) test (range_with_len 0 k))
      ∙ turned (list_all test (range_with_len 0 k)) (test k)

  pub each_pair : (k : ℕ) → list_all test (range_with_len 0 k) ≡ are_pairs s n k
  unfolding are_pairs
  each_pair zero = refl
  each_pair (suc k) =
      ap (λ (j : ℕ). list_all test (range_with_len 0 j)) (sym (add-one k))
      ∙ one_more k ∙ rw (tested k, each_pair k)

-- what a pair's own safe time goes by, read of its parts
gathered_part : (s : List ℕ) (b i : ℕ) → Inner.gathered_of (drop b s) (pair_part s i) ≡ Def.gathered s b i
unfolding Def.gathered Def.chosen
gathered_part s b i = simp (word_dropped, add_assoc)

module _ (s : List ℕ) (i : ℕ) where
  pub points_read : Inner.gathered_of (points_part s) (pair_part s i) ≡ Def.points_of s i
  points_read = gathered_part s 4 i

  pub displacements_read : Inner.gathered_of (displacements_part s) (pair_part s i) ≡ Def.displacements_of s i
  displacements_read = gathered_part s (displacements_at (point_count s) + 4) i

  pub split_read : word (pair_part s i) 0 ≡ split_of s i
  unfolding split_of
  split_read = word_begins s (pair_at (point_count s) i)

pub ruleset pair_read = (points_read, displacements_read, split_read)
