-- No knob moves the noise. The draws of a score depend on its wave, its rate, and of each note on its sounded frames and its first pitch; so lists of calls that differ in
-- knobs, drawbars, duty, envelopes and gains are refused alike, draw alike and end alike. Assumes nothing.
use Prim.Native.Nat.{ℕ, zero, suc, ◌+◌, ◌-◌, ◌*◌, ◌/◌, ◌%◌, ◌^◌, ◌≤◌, ◌<◌}
use mathlib.Core.Path.{◌≡◌, refl, sym, ap, ◌∙◌}
use mathlib.Core.List.{List, [], ◌∷◌, ◌++◌, map}
use mathlib.Core.Bool.{Bool, true, false, cond, not}
use native.Mathlib.Omega.{arith}
use native.Mathlib.Nat.{add-zero, le_refl}
use lib.ListN.{length, get_or}
use lib.Dec.{ltb, eqb}
use lib.Ieee.{Float}
use Rattle.laws.specs.Listed.{listed}
use Rattle.laws.proofs.Listed.{from_map, listed_same}
use Rattle.rng.specs.SplitMix64.{state_after}
use Rattle.dsl.specs.Note.{note_of, of_words}
use Rattle.dsl.specs.Pitch.{reading, pitch_at, passes}
use Rattle.dsl.specs.Sized.{all_sized, pitch_sized}
use Rattle.dsl.specs.declared.pitch.Pitch.{Pitch}
use Rattle.dsl.specs.declared.kit.KitStyle.{KitStyle}
use Rattle.dsl.specs.declared.wave.SeqWave.{SeqWave}
use Rattle.dsl.specs.declared.note.SeqNote.{SeqNote}
use Rattle.dsl.specs.declared.note.Untuned.{Untuned}
use Rattle.dsl.specs.declared.note.Decoded.{Decoded}
use Rattle.dsl.proofs.Cases.{NoNote, by_words, by_kind}
use Rattle.dsl.proofs.Gains.{note, Free, word_free}
use Rattle.groove.specs.Humanize.{seed_of, humanize_draws}
use Rattle.groove.specs.Timing.{human_delay, groove_of}
use Rattle.groove.specs.Mapped.{end_step, human_delay64, mapped_of}
use Rattle.tempo.specs.Map.{points}
use Rattle.draws.specs.Draws.{draws_of}
use Rattle.outcome.specs.Answer.{accepted, unless, reported}
use Rattle.outcome.specs.First.{Test, ◌⇒◌, first_of, or_else, first_refusal, outside}
use Rattle.outcome.specs.declared.answer.Refusal.TheVariants.{Kind, Steps, Size, Reach, Tone, Hop, Words, Lane, NoteBuffer, StringBuffer, Draws}
use Rattle.outcome.specs.Outcome.{Verdict}
use Rattle.std.specs.Prelude.{Ok, Err}
use Rattle.outcome.proofs.First.{first_append}
use Rattle.session.specs.Opened.{station_at}
use Rattle.session.specs.declared.station.Station.{Station}
use Rattle.score.specs.declared.seq.Timing.{Timing}
use Rattle.score.specs.declared.place.Place.{Place}
use Rattle.score.specs.Score.{Score, rate_in, wave_in, kit_in, note_at, note_in, note_count, notes_in, straight_place, mapped_place, place_of, place, skips, pitch, draws_in, note_draws}
use Rattle.score.specs.Score.{draws_before, score_draws}
use Rattle.score.specs.Refusals.{number_tests, voice_tests, lent_tests, list_tests, call_tests, note_refusal, refusal, refusal_at}
use Rattle.score.proofs.Notes.{none_sounded, some_sounded, draws_all}
use Rattle.score_contract.specs.ScoreCall.{Event, score_in}
use Rattle.tally.specs.Tally.{all_taken, tallied, new_draw, tally}
use Rattle.tally.specs.Claim.{Run}
use Rattle.tally.specs.Setting.{sounded_in, first_in, gain_sized, Alike, Reset, Resets, no_calls, more_calls, SameNoise, Unmoved, no_more, both_refused, both_accepted, silent, NoiseKept}
use Rattle.tally.proofs.AllCalls.{one_draw, all_calls}

-- ---- the draws of a note, by its sounded frames and its first pitch
draws_by : SeqWave → KitStyle → ℕ → ℕ → Float → ℕ
draws_by wave kit rate zero first = 0
draws_by wave kit rate (suc frames) first = draws_of wave kit rate first (suc frames)

drawn_some : (wave : SeqWave) (kit : KitStyle) (rate frames : ℕ) (first : Float) → 0 < frames → draws_of wave kit rate first frames ≡ draws_by wave kit rate frames first
unfolding draws_by
drawn_some wave kit rate zero first some = absurd (omega arith)
drawn_some wave kit rate (suc frames) first some = refl

-- with no frame the first pitch is not read
drawn_same : (wave : SeqWave) (kit : KitStyle) (rate frames : ℕ) (first first' : Float) → (0 < frames → first ≡ first') → draws_by wave kit rate frames first ≡ draws_by wave kit rate frames first'
unfolding draws_by
drawn_same wave kit rate zero first first' h = refl
drawn_same wave kit rate (suc frames) first first' h = ap (λ (x : Float). draws_of wave kit rate x (suc frames)) (h (omega arith))

module _ (s : Score) where
  by_start : (m : SeqNote) (b : Bool) → skips s m ≡ b → draws_in s m ≡ draws_by (wave_in s) (kit_in s) (rate_in s) (place s m).sounded (pitch s m 0)
  unfolding draws_in draws_by
  by_start m true e = rw (e, none_sounded s m e)
  by_start m false e = rw e (drawn_some _ _ _ _ _ (some_sounded s m e))

  none_draws : (e : Decoded) → NoNote e → note_draws s e ≡ draws_by (wave_in s) (kit_in s) (rate_in s) (sounded_in s e) (first_in s e)
  unfolding note_draws draws_by
  none_draws e none = none.other 0 (draws_in s) ∙ ap (λ (frames : ℕ). draws_by (wave_in s) (kit_in s) (rate_in s) frames (first_in s e)) (sym (none.other 0 (λ m. (place s m).sounded)))

  note_draws_lem : (e : Decoded) → note_draws s e ≡ draws_by (wave_in s) (kit_in s) (rate_in s) (sounded_in s e) (first_in s e)
  unfolding note_draws
  note_draws_lem = by_kind (λ e. note_draws s e ≡ draws_by (wave_in s) (kit_in s) (rate_in s) (sounded_in s e) (first_in s e)) (λ m. by_start m (skips s m) refl) none_draws

-- ---- alike scores
module _ (s s' : Score) (alike : Alike s s') where
  pub one_same : (k : ℕ) → k < note_count s → note_draws s (note_in s k) ≡ note_draws s' (note_in s' k)
  one_same k h =
      let e = note_in s k in
      let e' = note_in s' k in
      note_draws_lem s e ∙ drawn_same _ _ _ _ _ _ (alike.first k h) ∙ (λ j. draws_by (alike.wave j) (alike.kit j) (alike.rate j) (alike.sounded k h j) (first_in s' e')) ∙ sym (note_draws_lem s' e')

  pub before_same : (k : ℕ) → k ≤ note_count s → draws_before s k ≡ draws_before s' k
  unfolding draws_before
  before_same zero h = refl
  before_same (suc k) h = λ j. before_same k (omega arith) j + one_same k (omega arith) j

-- THE THEOREM: alike scores have the same draws
pub same_draws : (s s' : Score) → Alike s s' → score_draws s ≡ score_draws s'
same_draws s s' alike = draws_all s ∙ before_same s s' alike (note_count s) (le_refl (note_count s)) ∙ ap (draws_before s') alike.notes ∙ sym (draws_all s')

-- ---- scores that differ in knobs, drawbars, duty, envelope and gains
-- a note's gain moves neither its start nor its length
either : {A : Type 0} (f : Place → A) (b : Bool) (x y x' y' : Place) → f x ≡ f x' → f y ≡ f y' → f (cond b x y) ≡ f (cond b x' y')
either f true x y x' y' p q = p
either f false x y x' y' p q = q

module _ (t : Timing) (n step len : ℕ) (p : Pitch) (gain gain' : Float) where
  sounded_by : (place_of t n (note step len p gain)).sounded ≡ (place_of t n (note step len p gain')).sounded
  unfolding place_of straight_place mapped_place groove_of mapped_of human_delay human_delay64 humanize_draws seed_of end_step
  sounded_by = either (λ (x : Place). x.sounded) (eqb (length (points t.tempo_map)) 0) _ _ _ _ refl refl

  len_by : (place_of t n (note step len p gain)).len ≡ (place_of t n (note step len p gain')).len
  unfolding place_of straight_place mapped_place groove_of mapped_of human_delay human_delay64 humanize_draws seed_of end_step
  len_by = either (λ (x : Place). x.len) (eqb (length (points t.tempo_map)) 0) _ _ _ _ refl refl

sounded_free : (s : Score) → Free (sounded_in s)
sounded_free s = record { notes = sounded_by s.seq.timing s.n; others = λ step len gain gain'. refl }

first_free : (s : Score) → Free (first_in s)
first_free s = record { notes = λ step len p gain gain'. refl; others = λ step len gain gain'. refl }

-- ---- a note's refusal, but for its gain
abbrev bare_tests : Score → SeqNote → List Test
bare_tests s m =
    (ltb 1048575 m.step ⇒ Steps)
    ∷ (ltb 1048575 m.len ⇒ Steps)
    ∷ (not (pitch_sized m.pitch) ⇒ Size)
    ∷ (passes m.pitch s.seq.hop (length s.lane) (place s m).len ⇒ Reach)
    ∷ []

abbrev bare_untuned : Untuned → List Test
bare_untuned u = (ltb 1048575 u.step ⇒ Steps) ∷ (ltb 1048575 u.len ⇒ Steps) ∷ (true ⇒ Tone) ∷ []

bare_refusal : Score → Decoded → Verdict
bare_refusal s = of_words (Err Kind) (λ u. first_of (bare_untuned u)) (λ m. first_of (bare_tests s m))

-- where the gain is sized it does not refuse
gain_passes : (s : Score) (e : Decoded) → gain_sized e ≡ true → note_refusal s e ≡ bare_refusal s e
unfolding note_refusal bare_refusal first_of
gain_passes s = by_words (λ e. gain_sized e ≡ true → note_refusal s e ≡ bare_refusal s e) (λ m sized. rw sized) (λ u sized. rw sized) (λ sized. refl)

bare_free : (s : Score) → Free (bare_refusal s)
unfolding bare_refusal
bare_free s = record {
  notes = λ step len p gain gain'. ap (λ (k : ℕ). first_of ((ltb 1048575 step ⇒ Steps) ∷ (ltb 1048575 len ⇒ Steps) ∷ (not (pitch_sized p) ⇒ Size)
      ∷ (passes p s.seq.hop (length s.lane) k ⇒ Reach) ∷ [])) (len_by s.seq.timing s.n step len p gain gain');
  others = λ step len gain gain'. refl;
}

module _ (s s' : Score) (r : Reset s s') where
  -- note k of s is that of s' but for its gain
  note_reset : (k : ℕ) → k < note_count s → note_in s k
      ≡ note_of (get_or s'.notes (k * 5) 0) (get_or s'.notes (k * 5 + 1) 0) (get_or s'.notes (k * 5 + 2) 0) (get_or s'.notes (k * 5 + 3) 0) (get_or s.notes (k * 5 + 4) 0)
  unfolding note_at
  note_reset k h =
      let at : (l : List ℕ) → get_or l (k * 5 + 0) 0 ≡ get_or l (k * 5) 0 = λ l. ap (λ (i : ℕ). get_or l i 0) (add-zero (k * 5)) in
      let step = sym (at s.notes) ∙ r.notes k 0 h (omega arith) ∙ at s'.notes in
      λ j. note_of (step j) (r.notes k 1 h (omega arith) j) (r.notes k 2 h (omega arith) j) (r.notes k 3 h (omega arith) j) (get_or s.notes (k * 5 + 4) 0)

  -- so a reading that the two scores share is the same of both
  reset_read : {A : Type 0} (read read' : Decoded → A) → Free read → ((e : Decoded) → read e ≡ read' e) → (k : ℕ) → k < note_count s → read (note_in s k) ≡ read' (note_in s' k)
  unfolding note_at
  reset_read read read' free same k h = ap read (note_reset k h) ∙ word_free read free _ _ _ _ _ _ ∙ same (note_in s' k)

  sounded_same : (e : Decoded) → sounded_in s e ≡ sounded_in s' e
  sounded_same = by_kind (λ e. sounded_in s e ≡ sounded_in s' e) (λ m j. (place_of (r.timing j) (r.frames j) m).sounded)
      (λ e none. none.other 0 (λ m. (place s m).sounded) ∙ sym (none.other 0 (λ m. (place s' m).sounded)))

  first_same : (e : Decoded) → first_in s e ≡ first_in s' e
  first_same = by_kind (λ e. first_in s e ≡ first_in s' e) (λ m j. pitch_at (reading m.pitch (r.hop j)) (r.lane j) 0)
      (λ e none. none.other _ (λ m. pitch s m 0) ∙ sym (none.other _ (λ m. pitch s' m 0)))

  bare_same : (e : Decoded) → bare_refusal s e ≡ bare_refusal s' e
  unfolding bare_refusal
  bare_same = by_words (λ e. bare_refusal s e ≡ bare_refusal s' e)
      (λ m j. first_of ((ltb 1048575 m.step ⇒ Steps) ∷ (ltb 1048575 m.len ⇒ Steps) ∷ (not (pitch_sized m.pitch) ⇒ Size)
      ∷ (passes m.pitch (r.hop j) (length (r.lane j)) (place_of (r.timing j) (r.frames j) m).len ⇒ Reach) ∷ []))
      (λ u. refl) refl

  count_same : note_count s ≡ note_count s'
  count_same = ap (λ (n : ℕ). n / 5) r.words

  -- THE THEOREM: scores that differ in nothing but knobs, drawbars, duty, envelope and gains are alike
  pub reset_alike : Alike s s'
  reset_alike = record {
    wave = r.wave;
    kit = r.kit;
    rate = λ j. (r.timing j).rate;
    notes = count_same;
    sounded = reset_read (sounded_in s) (sounded_in s') (sounded_free s) sounded_same;
    first = λ k h some. reset_read (first_in s) (first_in s') (first_free s) first_same k h;
  }

  -- ---- they are refused alike
  note_verdict : (k : ℕ) → k < note_count s → note_refusal s (note_in s k) ≡ note_refusal s' (note_in s' k)
  note_verdict k h =
      let h' : k < note_count s' = omega (arith, count_same) in
      gain_passes s _ (r.sized.gains k h) ∙ reset_read (bare_refusal s) (bare_refusal s') (bare_free s) bare_same k h ∙ sym (gain_passes s' _ (r.sized'.gains k h'))

  notes_verdict : first_refusal (map (note_refusal s) (notes_in s)) ≡ first_refusal (map (note_refusal s') (notes_in s'))
  notes_verdict =
      ap first_refusal (from_map (note_refusal s) (note_in s) (note_count s) 0 ∙ listed_same (λ k. note_refusal s (note_in s k)) (λ k. note_refusal s' (note_in s' k)) (note_count s) note_verdict
      ∙ ap (λ (n : ℕ). listed (λ k. note_refusal s' (note_in s' k)) n) count_same ∙ sym (from_map (note_refusal s') (note_in s') (note_count s') 0))

-- the tests of a call, part by part
parts : (s : Score) → first_of (call_tests s) ≡ or_else (first_of (number_tests s.seq.timing s.n)) (or_else (first_of (voice_tests s.seq)) (first_of (lent_tests s ++ list_tests s)))
parts s =
    first_append (number_tests s.seq.timing s.n) (voice_tests s.seq ++ (lent_tests s ++ list_tests s))
    ∙ ap (or_else (first_of (number_tests s.seq.timing s.n))) (first_append (voice_tests s.seq) (lent_tests s ++ list_tests s))

module _ (s s' : Score) (r : Reset s s') where
  call_verdict : first_of (call_tests s) ≡ first_of (call_tests s')
  call_verdict =
      let voices = r.sized.voice ∙ sym r.sized'.voice in
      let middle : or_else (first_of (number_tests s.seq.timing s.n)) (or_else (first_of (voice_tests s.seq)) (first_of (lent_tests s ++ list_tests s)))
      ≡ or_else (first_of (number_tests s'.seq.timing s'.n)) (or_else (first_of (voice_tests s'.seq)) (first_of (lent_tests s' ++ list_tests s')))
      = λ j. or_else (first_of (number_tests (r.timing j) (r.frames j))) (or_else (voices j)
      (first_of ((ltb (r.room j) (r.frames j) ⇒ NoteBuffer) ∷ (ltb (r.string j) 9600 ⇒ StringBuffer) ∷ (outside (r.hop j) 1 4096 ⇒ Hop)
      ∷ (not (eqb (r.words j % 5) 0) ⇒ Words) ∷ (not (all_sized (r.lane j)) ⇒ Lane) ∷ []))) in
      parts s ∙ middle ∙ sym (parts s')

  -- THE THEOREM: the same refusal, or none in both
  pub same_refusal : (d : ℕ) → refusal_at s d ≡ refusal_at s' d
  unfolding refusal_at refusal
  same_refusal d =
      let drawn = same_draws s s' (reset_alike s s' r) in
      λ j. or_else (or_else (call_verdict j) (notes_verdict s s' r j)) (first_of ((ltb (2 ^ 64 - 1) (d + drawn j) ⇒ Draws) ∷ []))

  noise : (seed d k : ℕ) → k < note_count s → SameNoise seed d s s' k
  noise seed d k h =
      let alike = reset_alike s s' r in
      let starts = ap (λ (x : ℕ). d + x) (before_same s s' alike k (omega arith)) in
      record { sounded = alike.sounded k h; starts = starts; state = ap (state_after seed) starts; draws = one_same s s' alike k h }

-- ---- lists of calls
silent_same : (v : Verdict) (D D' : ℕ) (fs fs' : List Float) → D ≡ D' → silent (unless v (accepted D fs)) ≡ silent (unless v (accepted D' fs'))
silent_same (Ok _) D D' fs fs' e = ap (λ (x : ℕ). accepted x []) e
silent_same (Err why) D D' fs fs' e = refl

reports_same : (v : Verdict) (D D' : ℕ) (fs fs' : List Float) → D ≡ D' → reported (unless v (accepted D fs)) ≡ reported (unless v (accepted D' fs'))
reports_same (Ok _) D D' fs fs' e = e
reports_same (Err why) D D' fs fs' e = refl

-- where the next call begins
next_draw : (seed d : ℕ) (s : Score) (v : Verdict) → refusal_at s d ≡ v → new_draw (tallied seed d s) d (all_taken seed s d).x ≡ d + reported (unless v (accepted (score_draws s) []))
unfolding tallied
next_draw seed d s v e = one_draw seed d s ∙ ap (λ (x : ℕ). d + x) (rw e (reports_same v (score_draws s) (score_draws s) _ [] refl))

record Both (seed d : ℕ) (ss ss' : List Score) : Type 0 where
  pub calls : Unmoved seed d ss ss'
  pub answers : map silent (tally seed d ss).results ≡ map silent (tally seed d ss').results
  pub ends : (tally seed d ss).end ≡ (tally seed d ss').end

module _ (seed : ℕ) where
  unmoved_by : (d : ℕ) (s s' : Score) → Reset s s' → {ss ss' : List Score} (v : Verdict) → refusal_at s d ≡ v → Unmoved seed (d + reported (unless v (accepted (score_draws s) []))) ss ss'
      → Unmoved seed d (s ∷ ss) (s' ∷ ss')
  unmoved_by d s s' r (Ok _) e rest = both_accepted s s' e (sym (same_refusal s s' r d) ∙ e) (reset_alike s s' r).notes (noise s s' r seed d) rest
  unmoved_by d s s' r {ss} {ss'} (Err why) e rest =
      let stays : Unmoved seed d ss ss' = rw (add-zero d) at rest in
      both_refused s s' why e (sym (same_refusal s s' r d) ∙ e) stays

  both : (d : ℕ) (ss ss' : List Score) → Resets ss ss' → Both seed d ss ss'
  unfolding tally tallied
  both d [] [] no_calls = record { calls = no_more; answers = refl; ends = refl }
  both d (s ∷ ss) (s' ∷ ss') (more_calls _ _ r rest) =
      let v = refusal_at s d in
      let same = same_refusal s s' r d in
      let drawn = same_draws s s' (reset_alike s s' r) in
      let n = d + reported (unless v (accepted (score_draws s) [])) in
      let here = next_draw seed d s v refl in
      let there = next_draw seed d s' v (sym same) ∙ ap (λ (x : ℕ). d + x) (reports_same v (score_draws s') (score_draws s) [] [] (sym drawn)) in
      let later = both n ss ss' rest in
      let head = silent_same v (score_draws s) (score_draws s') (all_taken seed s d).frames (all_taken seed s' d).frames drawn
      ∙ ap (λ (w : Verdict). silent (unless w (accepted (score_draws s') (all_taken seed s' d).frames))) same in
      let tails = ap (λ (x : ℕ). map silent (tally seed x ss).results) here ∙ later.answers ∙ ap (λ (x : ℕ). map silent (tally seed x ss').results) (sym there) in
      record {
        calls = unmoved_by d s s' r v refl later.calls;
        answers = λ j. head j ∷ tails j;
        ends = ap (λ (x : ℕ). (tally seed x ss).end) here ∙ later.ends ∙ ap (λ (x : ℕ). (tally seed x ss').end) (sym there);
      }
  both d [] (s' ∷ ss') x'' = elim x'' [ ]
  both d (s ∷ ss) [] x3 = elim x3 [ ]

-- THE THEOREM, which a paper cites: of two lists of score calls, on stations opened with one seed at one draw, that differ in nothing but knobs, drawbars, duty, gains and
-- envelopes, all sized, each call is refused with the same number or accepted in both; each note starts from the same draw and state, and draws the same; and both stations end alike.
pub no_knob_moves_noise : (s c : ℕ) (es es' : List Event) (b b' : Station) → Run (station_at s c) es b → Run (station_at s c) es' b' → Resets (map score_in es) (map score_in es')
    → NoiseKept s c es es' b b'
no_knob_moves_noise s c es es' b b' run run' resets =
    let t = both s c (map score_in es) (map score_in es') resets in
    let a = all_calls s c es b run in
    let a' = all_calls s c es' b' run' in
    record {
      calls = t.calls;
      answers = ap (map silent) a.results ∙ t.answers ∙ ap (map silent) (sym a'.results);
      ends = a.station ∙ ap (station_at s) t.ends ∙ sym a'.station;
    }
