-- Text written after text, and what that says of the buffer behind the page. Assumes nothing.
use Prim.Native.Nat.{ℕ, ◌+◌, ◌≤◌}
use native.Mathlib.Omega.{arith}
use mathlib.Core.Path.{◌≡◌, refl, sym, ap, subst, ◌∙◌}
use mathlib.Core.List.{List, [], ◌++◌}
use lib.ListN.{length, drop, length-append}
use lib.Seq.{sets, sets-eq, length-sets}
use Rattle.std.specs.Borrow.{MutBor}
use Rattle.text.specs.Text.{Put, Starts, Written, most}
use Rattle.text.specs.declared.Page.{Page}
use Rattle.text.proofs.Sets.{sets_append, sets_on}

-- one text, and then another where it ended
pub and_then : {p q r : Page} {a b : List ℕ} → Written p a q → Written q b r → Written p (a ++ b) r
and_then {p} {q} {r} {a} {b} v w = record {
  same_buffer = w.same_buffer ∙ v.same_buffer;
  fits = v.fits;
  wrote =
      w.wrote
      ∙ ap (λ (l : List ℕ). sets l q.at b) v.wrote
      ∙ sets_on a b p.out.now p.at q.at v.fits v.moved;
  moved = omega (arith, length-append a b);
}

-- nothing is written
pub nothing : {p : Page} → length p.out.now ≤ most → Written p [] p
nothing h = record { same_buffer = refl; fits = h; wrote = refl; moved = omega arith }

-- the buffer still ends before the greatest place
pub still_fits : {p q : Page} {a : List ℕ} → Written p a q → length q.out.now ≤ most
still_fits {p} {q} {a} w = omega (arith, w.fits, ap length w.wrote, length-sets p.out.now p.at a)

-- another name for the text
pub as_text : {p q : Page} {a b : List ℕ} → a ≡ b → Written p a q → Written p b q
as_text e w = rw e at w

-- the same of a text that is put into a buffer
pub put_and_then : {o o' o'' a b : List ℕ} {i j k : ℕ} → Put o i a o' j → Put o' j b o'' k → Put o i (a ++ b) o'' k
put_and_then {o} {o'} {o''} {a} {b} {i} {j} {k} p q = record {
  wrote =
      q.wrote
      ∙ ap (λ (l : List ℕ). sets l j b) p.wrote
      ∙ ap (λ (n : ℕ). sets (sets o i a) n b) p.moved
      ∙ sets_append a b o i;
  moved = omega (arith, p.moved, q.moved, length-append a b);
}

-- and where nothing is put
pub put_nothing : (o : List ℕ) (i : ℕ) → Put o i [] o i
put_nothing o i = record { wrote = refl; moved = omega arith }

-- what was written on a page from its start on is put into the buffer behind it
pub put : {o : MutBor (List ℕ)} {p q : Page} {a o' : List ℕ} {i j : ℕ} → Starts o i p → Written p a q
    → i + length a ≤ most → o' ≡ q.out.now → j ≡ q.at → Put o.now i a o' j
put {o} {p} {q} {a} {o'} {i} n w h e f = record {
  wrote =
      e
      ∙ w.wrote
      ∙ ap (λ (l : List ℕ). sets l p.at a) n.nothing_written
      ∙ ap (λ (k : ℕ). sets o.now k a) n.at_place;
  moved = omega (arith, w.moved, n.at_place);
}

-- the place after a text that is put at the start is as far as the text is long
pub no_longer : {o o' a : List ℕ} {j n : ℕ} → Put o 0 a o' j → length a ≤ n → j ≤ n
no_longer p h = omega (arith, p.moved)

-- a text at the start of a buffer that holds it: what lies behind it is as it was
pub whole_text : {o o' a : List ℕ} {j : ℕ} → Put o 0 a o' j → j ≤ length o → o' ≡ a ++ drop j o
whole_text {o} {o'} {a} {j} p h =
    p.wrote
    ∙ sets-eq a o 0 (subst (λ (k : ℕ). k ≤ length o) p.moved h)
    ∙ ap (λ (k : ℕ). a ++ drop k o) (sym p.moved)
