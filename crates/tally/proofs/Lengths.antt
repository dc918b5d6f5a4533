-- The tally of a score holds as many frames as its output, after any number of notes. Assumes nothing.
use Prim.Native.Nat.{ℕ, zero, suc}
use mathlib.Core.Path.{◌≡◌, refl, ap, ◌∙◌}
use mathlib.Core.Bool.{Bool, true, false, cond}
use lib.ListN.{length}
use Rattle.rng.specs.SplitMix64.{state_after}
use Rattle.dsl.specs.declared.note.Decoded.{Decoded}
use Rattle.dsl.proofs.Cases.{by_kind}
use Rattle.mix.proofs.Mixing.{silence_length, mixed_length}
use Rattle.outcome.specs.Answer.{frames_in}
use Rattle.score.specs.Score.{Score, rate_in, note_in, place, skips}
use Rattle.tally.specs.Alone.{alone_of}
use Rattle.tally.specs.Tally.{Taken, taken_note, taken, taken_after}

module _ (seed : ℕ) (s : Score) where
  mixed_by : (b : Bool) (t u : Taken) → length u.frames ≡ length t.frames → length (cond b t u).frames ≡ length t.frames
  mixed_by true t u e = refl
  mixed_by false t u e = e

  note_length : (e : Decoded) (t : Taken) → length (taken seed s e t).frames ≡ length t.frames
  unfolding taken
  note_length = by_kind (λ e. (t : Taken) → length (taken seed s e t).frames ≡ length t.frames)
      (λ m t.
      let p = place s m in
      mixed_by (skips s m) t _ (mixed_length p.start (frames_in (alone_of s m (state_after seed t.x))) s.seq.env p.len (rate_in s) p.gain t.frames))
      (λ e none t. ap (λ (u : Taken). length u.frames) (none.other t (taken_note seed s t)))

  pub taken_length : (d k : ℕ) → length (taken_after seed s d k).frames ≡ s.n
  unfolding taken_after
  taken_length d zero = silence_length s.n
  taken_length d (suc k) = note_length (note_in s k) (taken_after seed s d k) ∙ taken_length d k
