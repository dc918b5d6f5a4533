-- THE THEOREM: no score of one wave, a melodic one or the drum kit, draws more than the ceiling. Straight or mapped, at any hop, whatever its other numbers. Assumes nothing.
use Prim.Native.Nat.{ℕ, zero, suc, ◌*◌, ◌≤◌, max}
use mathlib.Core.Path.{◌≡◌, refl}
use mathlib.Core.Bool.{Bool, true, false}
use native.Mathlib.Omega.{arith}
use borrow.Author.Tests.{leb-true}
use lib.Ieee.{Float}
use Rattle.dsl.specs.Domain.{Rate}
use Rattle.dsl.specs.declared.kit.KitStyle.{KitStyle}
use Rattle.dsl.specs.declared.wave.SeqWave.{SeqWave}
use Rattle.dsl.specs.declared.wave.SeqWave.TheVariants.{Square, Triangle, Sawtooth, Sine, Noise, Fm, Pluck, Piano, Epiano, Organ, Strings, Brass, Flute, Mallet, Bell, Bass, Kit, Cowbell}
use Rattle.dsl.specs.declared.note.SeqNote.{SeqNote}
use Rattle.dsl.specs.declared.note.Decoded.{Decoded}
use Rattle.dsl.specs.declared.note.Decoded.TheVariants.{Note}
use Rattle.dsl.proofs.Cases.{by_words}
use Rattle.draws.specs.Draws.{draws_of}
use Rattle.kit_midi.specs.Midi.{first_drum}
use Rattle.kit_counts.proofs.Hits.{kit_most}
use Rattle.score.specs.Score.{Score, rate_in, wave_in, kit_in, note_in, note_count, place, skips, pitch, note_draws, score_draws, draws_before}
use Rattle.score.specs.Refusals.{refusal}
use Rattle.score.proofs.Accepted.{accepted_score}
use Rattle.std.specs.Prelude.{Ok}
use Rattle.score.proofs.Notes.{skipped_draws, sounded_draws, all_within, draws_all}
use Rattle.ceiling.specs.Ceiling.{longest_string, ceiling_of}
use Rattle.ceiling.proofs.Longest.{period_most}

-- a hit of the drum kit draws at most once a frame, whatever its style and drum
pub kit_under : (style : KitStyle) (rate : ℕ) (first : Float) (frames : ℕ) → draws_of Kit style rate first frames ≤ frames
unfolding draws_of
kit_under style rate first frames = kit_most style (first_drum first) rate frames

-- one note: noise and flute draw once a frame, piano and kit no more, and a string is no longer than that of 20 Hz
pub draws_under : (wave : SeqWave) (style : KitStyle) (rate : ℕ) → Rate rate → (first : Float) (frames : ℕ) → draws_of wave style rate first frames ≤ max frames (longest_string rate)
unfolding draws_of
draws_under Square style rate r first frames = omega arith
draws_under Triangle style rate r first frames = omega arith
draws_under Sawtooth style rate r first frames = omega arith
draws_under Sine style rate r first frames = omega arith
draws_under Noise style rate r first frames = omega arith
draws_under Fm style rate r first frames = omega arith
draws_under Pluck style rate r first frames = omega (arith, period_most rate r first)
draws_under Piano style rate r first frames = omega arith
draws_under Epiano style rate r first frames = omega arith
draws_under Organ style rate r first frames = omega arith
draws_under Strings style rate r first frames = omega arith
draws_under Brass style rate r first frames = omega arith
draws_under Flute style rate r first frames = omega arith
draws_under Mallet style rate r first frames = omega arith
draws_under Bell style rate r first frames = omega arith
draws_under Bass style rate r first frames = omega arith
draws_under Kit style rate r first frames = omega (arith, kit_under style rate first frames)
draws_under Cowbell style rate r first frames = omega arith

module _ (s : Score) (r : Rate (rate_in s)) where
  abbrev most : ℕ
  most = max s.n (longest_string (rate_in s))

  sounded_under : (m : SeqNote) (b : Bool) → skips s m ≡ b → note_draws s (Note m) ≤ most
  sounded_under m true past = let none = skipped_draws s m (leb-true s.n (place s m).start past) in omega arith
  sounded_under m false heard =
      let is = sounded_draws s m heard in
      let within = all_within s m heard in
      let few = draws_under (wave_in s) (kit_in s) (rate_in s) r (pitch s m 0) (place s m).sounded in
      omega arith

  note_under : (e : Decoded) → note_draws s e ≤ most
  unfolding note_draws
  note_under = by_words (λ e. note_draws s e ≤ most) (λ m. sounded_under m (skips s m) refl) (λ u. omega arith) (omega arith)

  before_under : (k : ℕ) → draws_before s k ≤ k * most
  unfolding draws_before
  before_under zero = omega arith
  before_under (suc k) = omega (arith, before_under k, note_under (note_in s k))

  pub ceiling : score_draws s ≤ ceiling_of (rate_in s) (note_count s) s.n
  ceiling = let is = draws_all s in omega (arith, before_under (note_count s))

-- of every score that is accepted, whatever it holds
pub accepted_under : (s : Score) → refusal s ≡ Ok tt → score_draws s ≤ ceiling_of (rate_in s) (note_count s) s.n
accepted_under s ok = ceiling s (accepted_score s ok).fit.rate
