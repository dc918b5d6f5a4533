-- The bits of an entry are its pattern. Use where a pitch was looked up. Assumes nothing.
use Prim.Native.Nat.{ℕ, ◌^◌, ◌<◌}
use mathlib.Core.Path.{◌≡◌, refl, sym, ap, ◌∙◌, subst}
use mathlib.Core.Bool.{Bool, true, false, not, cond}
use native.Mathlib.Omega.{arith}
use borrow.Author.Tests.{ltb-true, lt-ltb}
use lib.Dec.{T, ltb}
use lib.Ieee.{Float, nan, inf, fin, binary32, is_nan, to_bits}
use lib.Ieee.Exact.{HasValue}
use lib.Ieee.Bits.{to_bits-of_bits}
use Rattle.quarter_tone.specs.Tones.{pattern_at, tone_at}
use Rattle.quarter_tone.specs.Rule.{units_of}
use Rattle.quarter_tone.specs.Lookup.{tone_of, tone_bits}
use Rattle.std.specs.Prelude.{None, Some}
use Rattle.quarter_tone.proofs.Amid.{amid_value}
use Rattle.quarter_tone.proofs.Nearest.{amid_tone}

has_number : (x : Float) (a c : ℕ) → HasValue x false a c → T (not (is_nan x))
unfolding is_nan
has_number nan a c v = v
has_number (inf s) a c v = tt
has_number (fin s m e) a c v = tt

pub tone_number : (q : ℕ) → q < 256 → T (not (is_nan (tone_at q)))
tone_number q h = has_number (tone_at q) (units_of (pattern_at q)) (2 ^ 149) (amid_value (pattern_at q) (amid_tone q h))

tone_pattern : (q : ℕ) → q < 256 → to_bits binary32 (tone_at q) ≡ pattern_at q
tone_pattern q h = to_bits-of_bits binary32 (pattern_at q) (omega (arith, (amid_tone q h).field.1)) (tone_number q h)

-- what was found is an entry
module _ (q : ℕ) (x : Float) (found : Some x ≡ tone_of q) where
  pub found_entry : (q < 256) × (x ≡ tone_at q)
  unfolding tone_of
  found_entry = go (ltb q 256) refl found
    where
      go : (b : Bool) → ltb q 256 ≡ b → Some x ≡ cond b (Some (tone_at q)) None → (q < 256) × (x ≡ tone_at q)
      go true e f = (ltb-true q 256 e, cc)
      go false e f = let z : ◌≡◌ {A = ℕ} 0 1 = cc in absurd (omega arith)

  pub found_number : T (not (is_nan x))
  found_number = subst (λ (x : Float). T (not (is_nan x))) (sym found_entry.1) (tone_number q found_entry.0)

  pub found_bits : to_bits binary32 x ≡ tone_bits q
  unfolding tone_bits
  found_bits = rw (lt-ltb q 256 found_entry.0) (ap (to_bits binary32) found_entry.1 ∙ tone_pattern q found_entry.0)

pub none_found : (q : ℕ) → None ≡ tone_of q → 0 ≡ tone_bits q
unfolding tone_of tone_bits
none_found q = go (ltb q 256)
  where
    go : (b : Bool) → None ≡ cond b (Some (tone_at q)) None → 0 ≡ cond b (pattern_at q) 0
    go true e = cc
    go false e = refl
