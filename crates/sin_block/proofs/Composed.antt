-- The passes one after another give the sine of each argument. Assumes nothing.
use Prim.Native.Nat.{ℕ, ◌<◌}
use mathlib.Core.Path.{◌≡◌, ap, ◌∙◌}
use mathlib.Core.List.{List}
use lib.ListN.{get_or}
use lib.Ieee.{Float, nan}
use Rattle.ieee.specs.Narrow.{narrow_of}
use Rattle.ieee.specs.Binary64.{◌⊟◌, ◌⊠◌}
use Rattle.trig.specs.Trig.{FRAC·PI·2, reduce2pi, sin_reduced, sin64}
use Rattle.trig.specs.Single.{sinf_of}
use Rattle.blocks.proofs.Block.{Tabled, tabled_at}
use Rattle.sin_block.specs.Quarter.{sine_at}

pub sine_composed : (f : ℕ → Float) (near q wide out : List Float) (n : ℕ)
    → Tabled (λ k. reduce2pi (f k)) nan 0 n near
    → ((k : ℕ) → k < n → sine_at (get_or q k nan) (get_or near k nan ⊟ get_or q k nan ⊠ FRAC·PI·2) ≡ sin_reduced (get_or near k nan))
    → Tabled (λ k. sine_at (get_or q k nan) (get_or near k nan ⊟ get_or q k nan ⊠ FRAC·PI·2)) nan 0 n wide
    → Tabled (λ k. narrow_of (get_or wide k nan)) nan 0 n out
    → Tabled (λ k. sinf_of (f k)) nan 0 n out
unfolding sin64
sine_composed f near q wide out n a b c d = record { at = λ k h l. d.at k h l ∙ ap narrow_of (tabled_at c k l ∙ b k l ∙ ap sin_reduced (tabled_at a k l)) }
