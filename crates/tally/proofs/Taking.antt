-- The tally takes an accepted call's notes one by one, each as a note call plays it. After k notes its draw x is d and the draws of those notes, and its frames are the
-- score's: the way from `Tally` to the score call's own frames. Assumes nothing.
use Prim.Native.Nat.{ℕ, zero, suc, ◌+◌, ◌≤◌, ◌<◌}
use mathlib.Core.Path.{◌≡◌, refl, sym, ap, ◌∙◌}
use mathlib.Core.Bool.{Bool, true, false}
use native.Mathlib.Omega.{arith}
use native.Mathlib.Nat.{add-zero, add_assoc}
use Rattle.rng.specs.SplitMix64.{state_after}
use Rattle.dsl.specs.declared.note.SeqNote.{SeqNote}
use Rattle.dsl.specs.declared.note.Decoded.{Decoded}
use Rattle.dsl.specs.declared.note.Decoded.TheVariants.{Note}
use Rattle.dsl.proofs.Cases.{NoNote, by_kind}
use Rattle.mix.specs.Mix.{silence}
use Rattle.outcome.specs.Answer.{accepted, reported, frames_in}
use Rattle.score.specs.Score.{Score, note_in, note_count, skips, draws_in, note_draws, draws_before}
use Rattle.score_contract.specs.Frames.{samples_in, mix_note, mixed_in, with_note, frames_after}
use Rattle.tally.specs.Alone.{alone_of, Alone}
use Rattle.tally.specs.Tally.{Taken, taken_note, taken, taken_after}

module _ (seed : ℕ) (s : Score) where
  -- a note as the score plays it: x grows by its draws, and its samples are added
  abbrev played : Decoded → Taken → Taken
  played e t = record { x = t.x + note_draws s e; frames = with_note s e (state_after seed t.x) t.frames }

  skipped_note : (m : SeqNote) (t : Taken) → skips s m ≡ true → taken seed s (Note m) t ≡ played (Note m) t
  unfolding taken note_draws with_note draws_in mixed_in
  skipped_note m t e = rw e (λ j. record { x = sym (add-zero t.x) j; frames = t.frames })

  sounded_note : (m : SeqNote) (t : Taken) → skips s m ≡ false → ((g : ℕ) → alone_of s m g ≡ accepted (draws_in s m) (samples_in s m g)) → taken seed s (Note m) t ≡ played (Note m) t
  unfolding taken note_draws with_note mixed_in
  sounded_note m t e alone =
      let r = alone (state_after seed t.x) in
      rw e (λ j. record { x = t.x + reported (r j); frames = mix_note s m (frames_in (r j)) t.frames })

  module _ (m : SeqNote) (alone : skips s m ≡ false → (g : ℕ) → alone_of s m g ≡ accepted (draws_in s m) (samples_in s m g)) (t : Taken) where
    by_start : (b : Bool) → skips s m ≡ b → taken seed s (Note m) t ≡ played (Note m) t
    by_start true e = skipped_note m t e
    by_start false e = sounded_note m t e (alone e)

  no_note : (e : Decoded) → NoNote e → (t : Taken) → taken seed s e t ≡ played e t
  unfolding taken note_draws with_note
  no_note e none t =
      none.other t (taken_note seed s t)
      ∙ (λ j. record {
        x = (sym (add-zero t.x) ∙ ap (λ (d : ℕ). t.x + d) (sym (none.other 0 (draws_in s)))) j;
        frames = sym (none.other t.frames (λ m. mixed_in s m (state_after seed t.x) t.frames)) j;
      })

  module _ (each : Alone s) where
    one_taken : (k : ℕ) → k < note_count s → (e : Decoded) → note_in s k ≡ e → (t : Taken) → taken seed s e t ≡ played e t
    one_taken k lt = by_kind (λ e. note_in s k ≡ e → (t : Taken) → taken seed s e t ≡ played e t) (λ m is t. by_start m (λ heard g. each k m g lt is heard) t (skips s m) refl)
        (λ e none is t. no_note e none t)

    pub all_taken_lem : (d k : ℕ) → k ≤ note_count s → taken_after seed s d k ≡ record { x = d + draws_before s k; frames = frames_after s seed d k }
    unfolding taken_after draws_before frames_after
    all_taken_lem d zero le = λ j. record { x = sym (add-zero d) j; frames = silence s.n }
    all_taken_lem d (suc k) le =
        let e = note_in s k in
        let more : d + draws_before s k + note_draws s e ≡ d + (draws_before s k + note_draws s e) = add_assoc d _ _ in
        one_taken k (omega arith) e refl (taken_after seed s d k) ∙ ap (played e) (all_taken_lem d k (omega arith)) ∙ (λ j. record { x = more j; frames = frames_after s seed d (suc k) })
