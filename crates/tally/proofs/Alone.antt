-- "Its samples are those of a note call": a sounded note of an accepted score, and the note call that plays it alone. Assumes nothing.
use Prim.Native.Nat.{ℕ, ◌+◌, ◌/◌, ◌≤◌, ◌<◌}
use mathlib.Core.Path.{◌≡◌, refl, sym, ap, ◌∙◌}
use mathlib.Core.List.{List}
use mathlib.Core.Bool.{true, false, not}
use native.Mathlib.Omega.{arith}
use borrow.Author.Tests.{le-ltb, eq-eqb, ne_eqb}
use lib.ListN.{length, get_or}
use lib.Ieee.{Float, nan}
use Rattle.laws.specs.Listed.{listed}
use Rattle.laws.proofs.If.{if_false}
use Rattle.laws.proofs.Listed.{listed_length, listed_at}
use Rattle.dsl.specs.Sized.{sized_of, all_sized, pitch_sized}
use Rattle.dsl.specs.Pitch.{value_at, reading, pitch_at, reaches}
use Rattle.dsl.specs.declared.pitch.Pitch.{Pitch}
use Rattle.dsl.specs.declared.pitch.Reading.{Reading}
use Rattle.dsl.specs.declared.pitch.Pitch.TheVariants.{Const, Curve}
use Rattle.dsl.specs.declared.note.SeqNote.{SeqNote}
use Rattle.dsl.proofs.Reach.{reaches_less, reached_within}
use Rattle.draws.specs.Draws.{draws_of}
use Rattle.voice.proofs.Own.{note_same}
use Rattle.outcome.specs.Answer.{accepted}
use Rattle.std.specs.Prelude.{Ok}
use Rattle.outcome.proofs.First.{all_false, inside_is}
use Rattle.note_verdict.specs.NoteRefusals.{note_call_tests, note_call_refusal}
use Rattle.note.specs.NoteCall.{note_result_of}
use Rattle.score.specs.Score.{Score, rate_in, wave_in, kit_in, place, skips, pitch, draws_in}
use Rattle.score.specs.Refusals.{refusal}
use Rattle.score.proofs.Accepted.{NoteFine, sounded_reached, Fit, accepted_score, fine_in}
use Rattle.score.proofs.Notes.{some_sounded, all_within}
use Rattle.score_contract.specs.Frames.{samples_in}
use Rattle.tally.specs.Alone.{alone_handed, alone_of, Alone}
use Rattle.tally.proofs.Values.{all_listed, all_at}

-- a pitch of an accepted score is sized at each frame within its lane
value_sized : (p : Pitch) (lane : List Float) (k : ℕ) → pitch_sized p ≡ true → all_sized lane ≡ true → ((offset : ℕ) → p ≡ Curve offset → offset + k < length lane) →
    sized_of (value_at p lane k) ≡ true
unfolding value_at pitch_sized
value_sized (Const x) lane k h all within = h
value_sized (Curve offset) lane k h all within = all_at lane _ all (within offset refl)

pitch_sized_lem : (r : Reading) (lane : List Float) (len i : ℕ) → pitch_sized r.pitch ≡ true → all_sized lane ≡ true → reaches r (length lane) len → i < len → sized_of (pitch_at r lane i) ≡ true
unfolding pitch_at
pitch_sized_lem r lane len i h all reached lt =
    value_sized r.pitch lane (i / r.hop) h all (λ offset is. reached_within r offset (length lane) i is (reaches_less r (length lane) len (i + 1) reached (omega arith)))

module _ (s : Score) (fit : Fit s) (m : SeqNote) (fine : NoteFine s m) (heard : skips s m ≡ false) where
  abbrev frames : ℕ
  frames = (place s m).sounded

  abbrev pitches : List Float
  pitches = listed (pitch s m) frames

  abbrev duties : List Float
  duties = listed (λ _. s.seq.duty) frames

  some : 0 < frames
  some = some_sounded s m heard

  each : (i : ℕ) → i < frames → sized_of (pitch s m i) ≡ true
  each i h = pitch_sized_lem (reading m.pitch s.seq.hop) s.lane frames i fine.pitch fit.lane (sounded_reached s fit m fine) h

  pub call_fine : note_call_refusal (alone_handed s m) ≡ Ok tt
  unfolding note_call_refusal
  call_fine =
      let ps = listed_length (pitch s m) frames in
      let ds = listed_length (λ _. s.seq.duty) frames in
      let full : length pitches ≡ 0 → ⊥ = λ e. omega (arith, e, ps, some) in
      let few : frames ≤ 16777216 = omega (arith, all_within s m heard, fit.frames.most) in
      all_false (note_call_tests (alone_handed s m)) (
        inside_is _ _ _ fit.rate.least fit.rate.most,
        (
          le-ltb 16777216 frames few,
          (
            ap not fit.knobs,
            (
              le-ltb s.string 9600 fit.stringed,
              (
                ap not fine.gain,
                (
                  ap not (all_listed (pitch s m) frames each),
                  (
                    ap not (all_listed (λ _. s.seq.duty) frames (λ i h. fit.duty)),
                    (ne_eqb _ _ full, (ap not (eq-eqb _ _ (ds ∙ sym ps)), (ap not (eq-eqb _ _ (sym ps)), tt))),
                  ),
                ),
              ),
            ),
          ),
        ),
      )

  drawn : draws_of (wave_in s) (kit_in s) (rate_in s) (get_or pitches 0 nan) frames ≡ draws_in s m
  unfolding draws_in
  drawn = ap (λ (x : Float). draws_of (wave_in s) (kit_in s) (rate_in s) x frames) (listed_at (pitch s m) frames 0 nan some) ∙ if_false _ heard refl

  alone_note : (g : ℕ) → alone_of s m g ≡ accepted (draws_in s m) (samples_in s m g)
  unfolding alone_of note_result_of samples_in
  alone_note g =
      let same = note_same (rate_in s) s.seq.voice m.gain (λ i. get_or pitches i nan) (pitch s m) (λ i. get_or duties i nan) (λ _. s.seq.duty) g frames
      (λ i h. listed_at (pitch s m) frames i nan h) (λ i h. listed_at (λ _. s.seq.duty) frames i nan h) in
      rw call_fine (λ j. accepted (drawn j) (same j))

-- THE THEOREM: each sounded note of an accepted score has the draws and the samples that the note call gives it alone
pub alone : (s : Score) → refusal s ≡ Ok tt → Alone s
alone s ok k m g lt is heard = alone_note s (accepted_score s ok).fit m (fine_in s ok k lt m is) heard g
