-- Note d of a score, whose place p is known: what it does where it is skipped, and what is asked and made of it where it sounds. Assumes nothing.
use Prim.Native.Nat.{ℕ, ◌+◌, ◌^◌, ◌≤◌, ◌<◌}
use mathlib.Core.Path.{◌≡◌, sym, ap, ◌∙◌}
use mathlib.Core.List.{List}
use borrow.Author.Tests.{lt-leb}
use lib.ListN.{length}
use lib.Ieee.{Float}
use Rattle.rng.specs.SplitMix64.{state_after}
use Rattle.rng.proofs.States.{state_none}
use Rattle.dsl.specs.Domain.{Frames}
use Rattle.dsl.specs.Pitch.{reading, pitch_at, reaches}
use Rattle.dsl.specs.declared.note.SeqNote.{SeqNote}
use Rattle.dsl.specs.declared.note.Decoded.{Decoded}
use Rattle.dsl.specs.declared.note.Decoded.TheVariants.{Note}
use Rattle.draws.specs.Draws.{draws_of}
use Rattle.voice.specs.Voice.{note_frames}
use Rattle.mix.specs.Mix.{mixed_at}
use Rattle.score.specs.Score.{Score, rate_in, wave_in, kit_in, place, note_draws}
use Rattle.score_contract.specs.Frames.{samples_in, with_note}
use Rattle.score.specs.declared.place.Place.{Place}
use Rattle.score_note.specs.Drawn.{drawn_from}
use Rattle.score_note.specs.declared.Drawn.{Drawn}
use Rattle.score.proofs.Accepted.{NoteFine, Fit, sounded_reached}
use Rattle.score.proofs.Notes.{len_most, skipped_draws, some_sounded, all_within, sounded_draws}
use Rattle.score_contract.proofs.Notes.{skipped_frames, sounded_frames}

module _ (s : Score) (d : Decoded) (m : SeqNote) (p : Place) (is : d ≡ Note m) (at : p ≡ place s m) where
  pub skipped_note : s.n ≤ p.start → (g : ℕ) → g < 2 ^ 64 → (out : List Float) → (g ≡ state_after g (note_draws s d)) × (out ≡ with_note s d g out)
  skipped_note late g fits out =
      let past = rw at at late in
      rw is (sym (state_none g fits) ∙ ap (state_after g) (skipped_draws s m past), skipped_frames s m past g out)

  -- the same with the draws beside the state
  pub skipped_counted : s.n ≤ p.start → (g : ℕ) → g < 2 ^ 64 → (out : List Float)
      → (record { rng = record { 0 = g }; draws = 0 } ≡ drawn_from g (note_draws s d)) × (out ≡ with_note s d g out)
  skipped_counted late g fits out =
      let past = rw at at late in
      let none = skipped_draws s m past in
      let still = sym (state_none g fits) ∙ ap (state_after g) none in
      rw is ((λ j. record { rng = record { 0 = still j }; draws = none j }), skipped_frames s m past g out)

  module _ (early : p.start < s.n) where
    pub sound_asks : Fit s → NoteFine s m → (0 < p.sounded) × ((p.start + p.sounded ≤ s.n) × (Frames p.len × reaches (reading m.pitch s.seq.hop) (length s.lane) p.sounded))
    sound_asks fit fine =
        let heard = lt-leb _ _ (rw at at early) in
        rw at (some_sounded s m heard, (all_within s m heard, (len_most s m fit.frames, sounded_reached s fit m fine)))

    pub sounded_note : (g r : ℕ) (out after : List Float) → r ≡ state_after g (draws_of (wave_in s) (kit_in s) (rate_in s) (pitch_at (reading m.pitch s.seq.hop) s.lane 0) p.sounded)
        → after ≡ mixed_at p.start (note_frames (rate_in s) s.seq.voice m.gain (pitch_at (reading m.pitch s.seq.hop) s.lane) (λ _. s.seq.duty) g p.sounded)
        s.seq.env p.len (rate_in s) p.gain out
        → (r ≡ state_after g (note_draws s d)) × (after ≡ with_note s d g out)
    unfolding samples_in
    sounded_note g r out after er eo =
        let heard = lt-leb _ _ (rw at at early) in
        rw is ((rw at at er) ∙ ap (state_after g) (sounded_draws s m heard), (rw at at eo) ∙ sounded_frames s m heard g out)

    -- the same with the draws beside the state
    pub sounded_counted : (g : ℕ) (r : Drawn) (out after : List Float) → r ≡ drawn_from g (draws_of (wave_in s) (kit_in s) (rate_in s) (pitch_at (reading m.pitch s.seq.hop) s.lane 0) p.sounded)
        → after ≡ mixed_at p.start (note_frames (rate_in s) s.seq.voice m.gain (pitch_at (reading m.pitch s.seq.hop) s.lane) (λ _. s.seq.duty) g p.sounded)
        s.seq.env p.len (rate_in s) p.gain out
        → (r ≡ drawn_from g (note_draws s d)) × (after ≡ with_note s d g out)
    unfolding samples_in
    sounded_counted g r out after er eo =
        let heard = lt-leb _ _ (rw at at early) in
        rw is ((rw at at er) ∙ ap (drawn_from g) (sounded_draws s m heard), (rw at at eo) ∙ sounded_frames s m heard g out)
