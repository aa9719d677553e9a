-- What was read before and what this turn read are together what the input has given.
use Rattle.std.proofs.Common.{◌≡◌, ℕ, ◌+◌, ◌-◌, ◌≤◌, List, ◌++◌, None, Some, Option, length, take, drop}
use Rattle.std.proofs.Common.{rules, sym, ap, subst, ◌∙◌, append_assoc, drop_at, length-take-le, le_refl}
use Rattle.std.proofs.lemmas.Slice.{take-put_mid_below}
use Rattle.std.specs.Io.KnownBytes.{Consumes}
use borrow.Rule.Slice.PartMut.{put_mid, post_of}
use lib.Seq.{take-add, take-append-le}
use Rattle.program_io.proofs.read_full.Goals as goal

-- what two reads give, one after the other
Consumes-trans : (a b c : Option (List ℕ)) (bs cs : List ℕ)
    → Consumes a b bs → Consumes b c cs → Consumes a c (bs ++ cs)
Consumes-trans None b c bs cs p q = tt
Consumes-trans (Some x) None c bs cs p q = absurd p
Consumes-trans (Some x) (Some y) None bs cs p q = absurd q
Consumes-trans (Some x) (Some y) (Some z) bs cs p q = p ∙ ap (λ l. bs ++ l) q ∙ sym (append_assoc bs cs z)

-- the first at + n of a buffer into which part was put at place at
take-put_mid : (at room n : ℕ) (old part : List ℕ) → at ≤ length old → n ≤ length part
    → take at old ++ take n part ≡ take (at + n) (put_mid at room old part)
take-put_mid at room n old part within fits =
    let new = put_mid at room old part in
    let after = post_of at room old in
    let front : take at new ≡ take at old = take-put_mid_below _ _ _ _ _ (le_refl _) within in
    let long : length (take at old) ≡ at = length-take-le at old within in
    let behind : drop at new ≡ part ++ after = drop_at (take at old) (part ++ after) at long in
    let given : take n (drop at new) ≡ take n part = ap (take n) behind ∙ take-append-le n part after fits in
    ap (λ l. l ++ take n part) (sym front) ∙ ap (λ l. take at new ++ l) (sym given) ∙ sym (take-add at n new)

pub loop-at-preserved : goal.loop-at-preserved
loop-at-preserved g c =
    let at = c.loop-at.at in
    let old = c.loop-at.buffer in
    let so_far = c.loop-at.invariant in
    let read = c.in_ok-count.ensures in
    record {
      within = search rules;
      given = subst (Consumes _ _)
          (take-put_mid at (length old - at) c.in_ok-count.count old c.read.new.buf so_far.within read.bound.0)
          (Consumes-trans _ _ _ _ _ so_far.given read.bytes.0);
    }
