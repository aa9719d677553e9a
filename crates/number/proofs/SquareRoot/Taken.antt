-- The argument by its 24 digits and its exponent, as the definition finds them. Assumes nothing.
use mathlib.Core.Path.{◌≡◌, refl, sym, ap, ◌∙◌, subst}
use mathlib.Core.Logic.{◌⊎◌, inl, inr}
use mathlib.Core.Bool.{Bool, true, false, cond, ◌&&◌}
use Prim.Native.Nat.{ℕ, ◌+◌, ◌*◌, ◌/◌, ◌^◌, ◌≤◌, ◌<◌, zero-le}
use native.Mathlib.Nat.{mul_assoc, mul-le-mul_right, not-le_of_lt, mul-div_cancel}
use native.Mathlib.Omega.{arith}
use lib.Dec.{T, leb, le→leb, leb→le, not_T}
use lib.Ieee.Bits.{is_true}
use lib.Ieee.Fits.{and_i, and_l, and_r}
use lib.Pow.{pow-add, pow_mono, pow_pos}
use lib.Ieee.{Float, binary32, lt, fits, of_bits}
use Rattle.number.specs.declared.by_hand.Argument.{Argument}
use Rattle.number.specs.Number.{zero32, is_finite, units_of, root_at_least, last, root_of}
use Rattle.number.specs.ByHand.{binary_digits, argument_of}
use Rattle.number.proofs.Units.{L}
use Rattle.number.proofs.SquareRoot.Nearest.{search_finds}
use Rattle.number.proofs.SquareRoot.Found.{found}

module _ (x : Float) (p k : ℕ) (low : 2 ^ 23 ≤ p) (high : p < 2 ^ 24) (short : k < 300)
    (scale : units_of x * L ≡ p * 2 ^ (k + 125)) where
  abbrev u : ℕ
  u = units_of x

  scaled : u * 2 ^ 24 ≡ p * 2 ^ k
  scaled =
      sym (mul-div_cancel (u * 2 ^ 24) (pow_pos 125))
      ∙ ap (λ (y : ℕ). y / 2 ^ 125)
      (mul_assoc u (2 ^ 24) (2 ^ 125)
      ∙ scale
      ∙ ap (λ (y : ℕ). p * y) (pow-add 2 k 125)
      ∙ sym (mul_assoc p (2 ^ k) (2 ^ 125)))
      ∙ mul-div_cancel (p * 2 ^ k) (pow_pos 125)

  reaches : (c : ℕ) → c ≤ k → T (leb (2 ^ c) (2 * u))
  reaches c h =
      let a = pow_mono {i = c} {j = k} h in
      le→leb (2 ^ c) (2 * u) (omega (arith, scaled, mul-le-mul_right (2 ^ k) low))

  misses : (c : ℕ) → k < c → 2 * u < 2 ^ c
  misses c h =
      let a = pow_mono {i = k + 1} {j = c} (omega arith) in
      let b = pow-add 2 k 1 in
      let z = pow_pos k in
      let m : p + 1 ≤ 2 ^ 24 = omega arith in
      omega (arith, scaled, mul-le-mul_right (2 ^ k) m)

  count_is : binary_digits u ≡ k
  unfolding binary_digits
  count_is =
      search_finds (λ (c : ℕ). leb (2 ^ c) (2 * u)) k reaches
      (λ c h. not_T (leb (2 ^ c) (2 * u)) (λ (t : T (leb (2 ^ c) (2 * u))).
      not-le_of_lt (misses c h) (leb→le (2 ^ c) (2 * u) t)))
      9 0 zero-le (omega arith)

  pub argument_is : T (lt zero32 x) → T (is_finite x) → record { digits = p; exponent = k } ≡ argument_of x
  unfolding argument_of
  argument_is a f =
      sym (ap (λ (c : Bool). cond c (record { digits = u * 2 ^ 24 / 2 ^ binary_digits u; exponent = binary_digits u })
      (record { digits = 0; exponent = 0 }))
      (is_true (lt zero32 x && is_finite x) (and_i (lt zero32 x) (is_finite x) a f))
      ∙ ap (λ (j : ℕ). record { digits = u * 2 ^ 24 / 2 ^ j; exponent = j }) count_is
      ∙ ap (λ (q : ℕ). record { digits = q; exponent = k })
      (ap (λ (y : ℕ). y / 2 ^ k) scaled ∙ mul-div_cancel p (pow_pos k)))

-- ---- where there are no digits
no_argument : (x : Float) → lt zero32 x && is_finite x ≡ false → record { digits = 0; exponent = 0 } ≡ argument_of x
unfolding argument_of
no_argument x e =
    let k = binary_digits (units_of x) in
    sym (ap (λ (c : Bool). cond c (record { digits = units_of x * 2 ^ 24 / 2 ^ k; exponent = k })
    (record { digits = 0; exponent = 0 })) e)

pub not_above_none : (x : Float) → lt zero32 x ≡ false → record { digits = 0; exponent = 0 } ≡ argument_of x
not_above_none x e = no_argument x (ap (λ (c : Bool). c && is_finite x) e)

pub not_finite_none : (x : Float) → is_finite x ≡ false → record { digits = 0; exponent = 0 } ≡ argument_of x
not_finite_none x e = no_argument x (ap (λ (c : Bool). lt zero32 x && c) e ∙ both (lt zero32 x))
  where
    both : (a : Bool) → a && false ≡ false
    both true = refl
    both false = refl

-- ---- what the digits and the exponent are
pub record Taken (x : Float) (a : Argument) : Type 0 where
  pub above : T (lt zero32 x)
  pub finite : T (is_finite x)
  pub low : 2 ^ 23 ≤ a.digits
  pub high : a.digits < 2 ^ 24
  pub short : a.exponent < 300
  pub scale : units_of x * L ≡ a.digits * 2 ^ (a.exponent + 125)

module _ (x : Float) (f : T (fits binary32 x)) where
  found_taken : T (lt zero32 x && is_finite x) → Taken x (argument_of x)
  found_taken t =
      let a = and_l (lt zero32 x) (is_finite x) t in
      let h = and_r (lt zero32 x) (is_finite x) t in
      let r = found x f a h in
      subst (Taken x) (argument_is x r.p r.k r.low r.high r.short r.scale a h)
      (record {
        above = a;
        finite = h;
        low = r.low;
        high = r.high;
        short = r.short;
        scale = r.scale;
      })

  no_root : lt zero32 x && is_finite x ≡ false → zero32 ≡ root_of x
  unfolding root_of
  no_root e = sym (ap (λ (c : Bool). cond c (of_bits binary32 (last (root_at_least x) 31 0)) zero32) e)

  -- there are digits, or the root is zero
  pub taken : Taken x (argument_of x) ⊎ (((argument_of x).digits ≡ 0) × (zero32 ≡ root_of x))
  taken = go (lt zero32 x && is_finite x) refl
    where
      go : (c : Bool) → lt zero32 x && is_finite x ≡ c
          → Taken x (argument_of x) ⊎ (((argument_of x).digits ≡ 0) × (zero32 ≡ root_of x))
      go true e = inl (found_taken (subst T (sym e) tt))
      go false e = inr (sym (ap (λ (a : Argument). a.digits) (no_argument x e)), no_root e)

  pub digits_short : (argument_of x).digits < 2 ^ 24
  digits_short = elim taken [ inl t ↦ t.high | inr z ↦ let e = z.0 in omega arith ]
