-- `draws::draw_count` meets its contract. Assumes nothing.
use borrow.Author.Rules.{rules}
use mathlib.Core.Path.{◌≡◌, ap, ◌∙◌}
use native.Mathlib.Omega.{arith}
use Prim.Native.Nat.{ℕ, ◌<◌, ◌≤◌, min}
use Rattle.dsl.specs.declared.kit.KitStyle.{KitStyle}
use Rattle.drum.specs.declared.Drum.{Drum}
use Rattle.kit_counts.specs.KitDraws.{kit_draws}
use Rattle.draws.specs.Draws.{draws_of}
use Rattle.draws.proofs.draw_count.Goals as goal

low : (n k : ℕ) {h : ℕ} → h ≡ k → n < h → n ≡ min n k
low n k e l = omega arith

high : (n h k : ℕ) → h ≡ k → h ≤ n → h ≡ min n k
high n h k e l = omega arith

by_drum : (style : KitStyle) (drum : Drum) (rate n : ℕ) {r : ℕ} {d : Drum} → d ≡ drum → r ≡ kit_draws style d rate n → r ≡ kit_draws style drum rate n
by_drum style drum rate n e h = h ∙ ap (λ (d : Drum). kit_draws style d rate n) e

pub returns-in-Noise : goal.returns-in-Noise
unfolding draws_of
returns-in-Noise c = rw c.in-Noise.is

pub returns-in-Flute : goal.returns-in-Flute
unfolding draws_of
returns-in-Flute c = rw c.in-Flute.is

pub returns-in-Pluck : goal.returns-in-Pluck
unfolding draws_of
returns-in-Pluck c = rw c.in-Pluck.is c.string_period.ensures

pub returns-then-frames-thump : goal.returns-then-frames-thump
unfolding draws_of
returns-then-frames-thump c = rw c.in-Piano.is (low _ _ c.thump_frames-thump.ensures c.if-frames-thump.true)

pub returns-else-frames-thump : goal.returns-else-frames-thump
unfolding draws_of
returns-else-frames-thump c = rw c.in-Piano.is (high _ _ _ c.thump_frames-thump.ensures c.if-frames-thump.false)

pub returns-in-Square : goal.returns-in-Square
unfolding draws_of
returns-in-Square c = rw c.in-Square.is

pub returns-in-Triangle : goal.returns-in-Triangle
unfolding draws_of
returns-in-Triangle c = rw c.in-Triangle.is

pub returns-in-Sawtooth : goal.returns-in-Sawtooth
unfolding draws_of
returns-in-Sawtooth c = rw c.in-Sawtooth.is

pub returns-in-Sine : goal.returns-in-Sine
unfolding draws_of
returns-in-Sine c = rw c.in-Sine.is

pub returns-in-Fm : goal.returns-in-Fm
unfolding draws_of
returns-in-Fm c = rw c.in-Fm.is

pub returns-in-Epiano : goal.returns-in-Epiano
unfolding draws_of
returns-in-Epiano c = rw c.in-Epiano.is

pub returns-in-Organ : goal.returns-in-Organ
unfolding draws_of
returns-in-Organ c = rw c.in-Organ.is

pub returns-in-Strings : goal.returns-in-Strings
unfolding draws_of
returns-in-Strings c = rw c.in-Strings.is

pub returns-in-Brass : goal.returns-in-Brass
unfolding draws_of
returns-in-Brass c = rw c.in-Brass.is

pub returns-in-Mallet : goal.returns-in-Mallet
unfolding draws_of
returns-in-Mallet c = rw c.in-Mallet.is

pub returns-in-Bell : goal.returns-in-Bell
unfolding draws_of
returns-in-Bell c = rw c.in-Bell.is

pub returns-in-Bass : goal.returns-in-Bass
unfolding draws_of
returns-in-Bass c = rw c.in-Bass.is

pub returns-in-Kit : goal.returns-in-Kit
unfolding draws_of
returns-in-Kit c =
    rw c.in-Kit.is (by_drum _ _ _ _ c.first_drum-drum.ensures c.kit_draws.ensures)

pub returns-in-Cowbell : goal.returns-in-Cowbell
unfolding draws_of
returns-in-Cowbell c = rw c.in-Cowbell.is
