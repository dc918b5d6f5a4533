-- `harness_kit::hit_draws` meets its contract. Assumes nothing.
use borrow.Author.Rules.{rules}
use mathlib.Core.Path.{◌≡◌, sym, ap, ◌∙◌}
use Prim.Native.Nat.{ℕ}
use lib.IntN.{ℤ}
use mir.Facts.{to_z-of_z}
use Rattle.dsl.specs.Kit.{style_at}
use Rattle.dsl.specs.declared.kit.KitStyle.{KitStyle}
use Rattle.std.specs.Prelude.{None, Option, Some}
use Rattle.drum.specs.Drums.{drum_of}
use Rattle.drum.specs.declared.Drum.{Drum}
use Rattle.kit_counts.specs.KitDraws.{kit_draws}
use Rattle.harness_kit.specs.Hits.{hit_draws}
use Rattle.harness_kit.proofs.hit_draws.Goals as goal

some : (at : (Option KitStyle)) (place : ℕ) (style : KitStyle) (drum : Drum) (midi : ℤ) (rate frames r : ℕ) →
    at ≡ style_at place → at ≡ Some style → drum ≡ drum_of midi → r ≡ kit_draws style drum rate frames → r ≡ hit_draws (style_at place) midi rate frames
unfolding hit_draws
some at place style drum midi rate frames r e f g h = h ∙ ap (λ (d : Drum). kit_draws style d rate frames) g ∙ ap (λ (s : (Option KitStyle)). hit_draws s midi rate frames) (sym f ∙ e)

none : (at : (Option KitStyle)) (place : ℕ) (midi : ℤ) (rate frames : ℕ) → at ≡ style_at place → at ≡ None → 18446744073709551615 ≡ hit_draws (style_at place) midi rate frames
unfolding hit_draws
none at place midi rate frames e f = ap (λ (s : (Option KitStyle)). hit_draws s midi rate frames) {x = None} (sym f ∙ e)

pub returns-in-Some : goal.returns-in-Some
returns-in-Some c =
    let a = c.args in
    some c.at.result a.style _ c.drum_of-drum.result a.midi a.rate a.frames c.kit_draws.result c.at.ensures c.in-Some.is
    (c.drum_of-drum.ensures ∙ ap drum_of (to_z-of_z c.ranges.midi)) c.kit_draws.ensures

pub returns-in-None : goal.returns-in-None
returns-in-None c =
    let a = c.args in
    none c.at.result a.style a.midi a.rate a.frames c.at.ensures c.in-None.is
