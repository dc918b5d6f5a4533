-- What a score, or a note of it, that is not refused is known to be. Use wherever an accepted call leans on the domain. Assumes nothing.
use Prim.Native.Nat.{ℕ, ◌+◌, ◌*◌, ◌%◌, ◌≤◌, ◌<◌}
use mathlib.Core.Path.{◌≡◌, refl, sym, ap, ◌∙◌}
use mathlib.Core.Bool.{true, false, true≢false}
use native.Mathlib.Omega.{arith}
use borrow.Author.Tests.{ltb-false, eqb-true, not-false}
use lib.ListN.{length}
use Rattle.ieee.specs.Numbers.{c0, c1, c1000}
use Rattle.ieee.specs.Order.{within_of}
use Rattle.laws.proofs.Listed.{from_map}
use Rattle.dsl.specs.Domain.{Rate, Frames, numeric}
use Rattle.dsl.specs.Sized.{sized_of, all_sized, pitch_sized}
use Rattle.dsl.specs.Knobs.{knob_list, env_list}
use Rattle.dsl.specs.Note.{of_note}
use Rattle.dsl.specs.Pitch.{reading, passes, reaches}
use Rattle.dsl.specs.declared.note.SeqNote.{SeqNote}
use Rattle.dsl.specs.declared.note.Decoded.{Decoded}
use Rattle.dsl.specs.declared.note.Decoded.TheVariants.{Note}
use Rattle.dsl.proofs.Magnitude.{sized_numeric}
use Rattle.dsl.proofs.Reach.{passes_less}
use Rattle.dsl.proofs.Cases.{NoNote, by_words}
use Rattle.outcome.specs.First.{first_of}
use Rattle.std.specs.Prelude.{Ok}
use Rattle.outcome.proofs.First.{none_holds, or_fine, inside_least, inside_most, each_fine}
use Rattle.score.specs.Score.{Score, rate_in, note_in, note_count, place}
use Rattle.tempo.specs.Judge.{in_domain, in_order}
use Rattle.score.proofs.Standing.{len_least, len_under, sounded_most}
use Rattle.score.specs.Refusals.{call_tests, note_tests, untuned_tests, note_refusal, refusal, Clean}

-- ---- a note
-- a note of a score that is not refused
pub record NoteFine (s : Score) (m : SeqNote) : Type 0 where
  pub step : m.step ≤ 1048575
  pub len : m.len ≤ 1048575
  pub gain : sized_of m.gain ≡ true
  pub pitch : pitch_sized m.pitch ≡ true
  pub number : numeric m.pitch
  pub reached : passes m.pitch s.seq.hop (length s.lane) (place s m).len ≡ false

pub note_fine : (s : Score) (m : SeqNote) → note_refusal s (Note m) ≡ Ok tt → NoteFine s m
unfolding note_refusal
note_fine s m e =
    let (a, (b, (c, (d, (f, _))))) = none_holds (note_tests s m) e in
    record {
      step = ltb-false _ _ a;
      len = ltb-false _ _ b;
      gain = not-false _ c;
      pitch = not-false _ d;
      number = sized_numeric m.pitch (not-false _ d);
      reached = f;
    }

-- words that are no note are refused
pub no_note : (s : Score) (e : Decoded) → NoNote e → note_refusal s e ≡ Ok tt → ⊥
unfolding note_refusal
no_note s e none =
    by_words (λ e. of_note {A = ℕ} 1 (λ m. 0) e ≡ 1 → note_refusal s e ≡ Ok tt → ⊥) (λ m no fine. let z : ◌≡◌ {A = ℕ} 0 1 = no in omega arith)
    (λ u no fine. let (_, (_, (_, (always, _)))) = none_holds (untuned_tests u) fine in true≢false always)
    (λ no fine. let z : ◌≡◌ {A = ℕ} 0 1 = cc in omega arith) e (none.other 1 (λ m. 0))

module _ (s : Score) (clean : Clean s) (k : ℕ) (lt : k < note_count s) where
  pub clean_note : (m : SeqNote) → note_in s k ≡ Note m → NoteFine s m
  clean_note m is = note_fine s m (ap (note_refusal s) (sym is) ∙ clean k lt)

-- the five words of a note are among the words
pub words_within : (s : Score) (k : ℕ) → k < note_count s → k * 5 + 4 < length s.notes
words_within s k h = omega arith

-- ---- a score
-- what is known where no test of the whole call refuses
pub record Fit (s : Score) : Type 0 where
  pub rate : Rate (rate_in s)
  pub frames : Frames s.n
  pub tempo : within_of s.seq.timing.tempo c1 c1000 ≡ true
  pub steps_least : 1 ≤ s.seq.timing.steps_per_beat
  pub steps_most : s.seq.timing.steps_per_beat ≤ 64
  pub points : in_domain s.seq.timing.tempo_map ≡ true
  pub order : in_order s.seq.timing.tempo_map ≡ true
  pub swing : within_of s.seq.timing.swing c0 c1 ≡ true
  pub humanize : within_of s.seq.timing.humanize c0 c1 ≡ true
  pub knobs : all_sized (knob_list s.seq.voice) ≡ true
  pub duty : sized_of s.seq.duty ≡ true
  pub env : all_sized (env_list s.seq.env) ≡ true
  pub buffered : s.n ≤ s.room
  pub stringed : 9600 ≤ s.string
  pub hop_least : 1 ≤ s.seq.hop
  pub hop_most : s.seq.hop ≤ 4096
  pub fives : length s.notes % 5 ≡ 0
  pub lane : all_sized s.lane ≡ true

pub fit : (s : Score) → first_of (call_tests s) ≡ Ok tt → Fit s
fit s e =
    let (rate, (n, (tempo, (steps, (points, (order, (swing, (human, (knobs, (duty, (env, (room, (string, (hop, (words, (lane, _)))))))))))))))) = none_holds (call_tests s) e in
    record {
      rate = record { least = inside_least _ _ _ rate; most = inside_most _ _ _ rate };
      frames = record { most = ltb-false _ _ n };
      tempo = not-false _ tempo;
      steps_least = inside_least _ _ _ steps;
      steps_most = inside_most _ _ _ steps;
      points = not-false _ points;
      order = not-false _ order;
      swing = not-false _ swing;
      humanize = not-false _ human;
      knobs = not-false _ knobs;
      duty = not-false _ duty;
      env = not-false _ env;
      buffered = ltb-false _ _ room;
      stringed = ltb-false _ _ string;
      hop_least = inside_least _ _ _ hop;
      hop_most = inside_most _ _ _ hop;
      fives = eqb-true _ _ (not-false _ words);
      lane = not-false _ lane;
    }

-- of a note that is not refused as many frames as its length, or fewer, can be read
pub frames_reached : (s : Score) → Fit s → (m : SeqNote) → NoteFine s m → (n : ℕ) → n ≤ (place s m).len → n ≤ 16777216 → reaches (reading m.pitch s.seq.hop) (length s.lane) n
frames_reached s fit m fine n le few = record {
  is = refl;
  least = fit.hop_least;
  most = fit.hop_most;
  few = few;
  within = passes_less m.pitch s.seq.hop (length s.lane) _ n fit.hop_least fine.reached le;
}

-- the frames that sound are no more than the length
pub sounded_reached : (s : Score) → Fit s → (m : SeqNote) → NoteFine s m → reaches (reading m.pitch s.seq.hop) (length s.lane) (place s m).sounded
sounded_reached s fit m fine =
    let less = sounded_most s.seq.timing s.n m in
    frames_reached s fit m fine _ less (omega (arith, less, len_under s.seq.timing s.n m fit.frames, fit.frames.most))

pub record Accepted (s : Score) : Type 0 where
  pub fit : Fit s
  pub clean : Clean s

pub accepted_score : (s : Score) → refusal s ≡ Ok tt → Accepted s
unfolding refusal
accepted_score s e =
    let both = or_fine (first_of (call_tests s)) _ e in
    record {
      fit = fit s both.0;
      clean = each_fine (λ k. note_refusal s (note_in s k)) (note_count s) (rw (from_map (note_refusal s) (note_in s) (note_count s) 0) at both.1);
    }

-- ---- note k of an accepted score
module _ (s : Score) (ok : refusal s ≡ Ok tt) (k : ℕ) (lt : k < note_count s) (m : SeqNote) (is : note_in s k ≡ Note m) where
  pub fine_in : NoteFine s m
  fine_in = clean_note s (accepted_score s ok).clean k lt m is

  -- what working out its place asks
  pub place_asks : Frames s.n × numeric m.pitch
  place_asks = ((accepted_score s ok).fit.frames, fine_in.number)

  -- its first pitch can be read
  pub first_reached : reaches (reading m.pitch s.seq.hop) (length s.lane) 1
  first_reached = frames_reached s (accepted_score s ok).fit m fine_in 1 (len_least s.seq.timing s.n m) (omega arith)
