-- The notes of a score, one after the other. `Playing` is the loop's invariant. Assumes nothing.
use Prim.Native.Nat.{ℕ, ◌+◌, ◌-◌, ◌^◌, ◌≤◌, ◌<◌}
use mathlib.Core.Path.{◌≡◌, refl, sym, ap, ◌∙◌}
use mathlib.Core.List.{List}
use native.Mathlib.Omega.{arith}
use native.Mathlib.Nat.{zero-add}
use native.Mathlib.Numerals.{add-one}
use lib.ListN.{length, drop}
use lib.Ieee.{Float}
use Rattle.rng.specs.SplitMix64.{state_after}
use Rattle.rng.proofs.States.{state_add, state_none}
use Rattle.mix.specs.Mix.{silence}
use Rattle.score.specs.Score.{Score, note_in, note_count, note_draws, draws_before, score_draws}
use Rattle.score.proofs.Notes.{draws_all}
use Rattle.score_draws.proofs.Adding.{draws_more, draws_one}
use Rattle.score_note.specs.Drawn.{drawn_from}
use Rattle.score_note.specs.declared.Drawn.{Drawn}
use Rattle.score_contract.specs.Frames.{with_note, frames_after, score_frames}

-- the generator's state r is that after the first k notes, from g on
abbrev pub At : Score → ℕ → ℕ → ℕ → Type 0
At s g k r = r ≡ state_after g (draws_before s k)

-- What holds before note k of a loop that began before note i, at the generator's state r₀ and the frames out₀, and ends before note
-- `most`: r is the generator's state, d are the draws from note i on where those before `most` fit 64 bits, and of the buffers what is
-- not free is as it was.
pub record Playing (s : Score) (i r₀ : ℕ) (out₀ buffer₀ string₀ : List Float) (most k r d : ℕ) (out buffer string : List Float) : Type 0 where
  pub within : k ≤ most
  pub state : (g : ℕ) → At s g i r₀ → At s g k r
  pub drawn : draws_before s most < 2 ^ 64 → draws_before s i + d ≡ draws_before s k
  pub frames : (g : ℕ) → At s g i r₀ → out₀ ≡ frames_after s g 0 i → out ≡ frames_after s g 0 k
  pub room : length out ≡ s.n
  pub buffered : length buffer ≡ s.room
  pub stringed : length string ≡ s.string
  pub buffer_kept : drop s.n buffer ≡ drop s.n buffer₀
  pub string_kept : drop 9600 string ≡ drop 9600 string₀

module _ {s : Score} {i r₀ : ℕ} {out₀ buffer₀ string₀ : List Float} {most : ℕ} where
  pub playing_none : i ≤ most → length out₀ ≡ s.n → length buffer₀ ≡ s.room → length string₀ ≡ s.string
      → Playing s i r₀ out₀ buffer₀ string₀ most i r₀ 0 out₀ buffer₀ string₀
  playing_none le len b t = record {
    within = le;
    state = λ g at. at;
    drawn = λ few. omega arith;
    frames = λ g at e. e;
    room = len;
    buffered = b;
    stringed = t;
    buffer_kept = refl;
    string_kept = refl;
  }

  module _ {k r d : ℕ} {out buffer string : List Float} (h : Playing s i r₀ out₀ buffer₀ string₀ most k r d out buffer string) where
    -- the draws with those of note k fit wherever those of all notes do
    pub playing_fits : k < most → {p : Drawn} → p ≡ drawn_from r (note_draws s (note_in s k)) → draws_before s most < 2 ^ 64 → d + p.draws < 2 ^ 64
    playing_fits lt {p} es few =
        let sum : draws_before s k + p.draws ≡ draws_before s (k + 1) = (λ j. draws_before s k + (es j).draws) ∙ draws_one s k in
        let z : k + 1 + (most - (k + 1)) ≡ most = omega arith in
        let less : draws_before s (k + 1) ≤ draws_before s most = rw z at (draws_more s (k + 1) (most - (k + 1))) in
        omega (arith, sum, less, h.drawn few)

    pub playing_more : {p : Drawn} {d' : ℕ} {out' buffer' string' : List Float} → k < most → p ≡ drawn_from r (note_draws s (note_in s k))
        → (draws_before s most < 2 ^ 64 → d' ≡ d + p.draws) → out' ≡ with_note s (note_in s k) r out
        → length out' ≡ length out → length buffer' ≡ length buffer → length string' ≡ length string → drop s.n buffer' ≡ drop s.n buffer → drop 9600 string' ≡ drop 9600 string
        → Playing s i r₀ out₀ buffer₀ string₀ most (k + 1) p.rng.0 d' out' buffer' string'
    unfolding draws_before frames_after
    playing_more {p} lt es ed eo lo lb ls kb ks = record {
      within = omega arith;
      state = λ g at. rw add-one ((λ j. (es j).rng.0) ∙ ap (λ (x : ℕ). state_after x (note_draws s (note_in s k))) (h.state g at)
          ∙ state_add g (draws_before s k) (note_draws s (note_in s k)));
      drawn = λ few.
          let sum : draws_before s k + p.draws ≡ draws_before s (k + 1) = (λ j. draws_before s k + (es j).draws) ∙ draws_one s k in
          omega (arith, sum, ed few, h.drawn few);
      frames = λ g at first. rw add-one (eo ∙ (λ j. with_note s (note_in s k) ((h.state g at ∙ ap (state_after g) (sym (zero-add (draws_before s k)))) j) (h.frames g at first j)));
      room = lo ∙ h.room;
      buffered = lb ∙ h.buffered;
      stringed = ls ∙ h.stringed;
      buffer_kept = kb ∙ h.buffer_kept;
      string_kept = ks ∙ h.string_kept;
    }

    -- at the loop's end
    pub playing_end : most ≤ k → Playing s i r₀ out₀ buffer₀ string₀ most most r d out buffer string
    playing_end end = let z : k ≡ most = omega (arith, h.within) in rw z at h

-- ---- from the first note to the last, that is to note k where k is the count of notes
pub at_start : (s : Score) (g : ℕ) → g < 2 ^ 64 → At s g 0 g
unfolding draws_before
at_start s g fits = sym (state_none g fits)

pub silent_start : (s : Score) (g : ℕ) {out : List Float} → out ≡ silence s.n → out ≡ frames_after s g 0 0
unfolding frames_after
silent_start s g e = e

module _ (s : Score) (g : ℕ) {k : ℕ} where
  pub all_state : {r : ℕ} → At s g k r → k ≡ note_count s → r ≡ state_after g (score_draws s)
  all_state at all = at ∙ ap (λ (k : ℕ). state_after g (draws_before s k)) all ∙ ap (state_after g) (sym (draws_all s))

  pub all_frames : {out : List Float} → out ≡ frames_after s g 0 k → k ≡ note_count s → out ≡ score_frames s g 0
  unfolding score_frames
  all_frames e all = e ∙ ap (frames_after s g 0) all

  pub all_drawn : {p : Drawn} → At s g k p.rng.0 → (draws_before s k < 2 ^ 64 → draws_before s 0 + p.draws ≡ draws_before s k) → score_draws s < 2 ^ 64 → k ≡ note_count s
      → p ≡ drawn_from g (score_draws s)
  unfolding draws_before
  all_drawn {p} at drawn few all =
      let sum : draws_before s k ≡ score_draws s = ap (draws_before s) all ∙ sym (draws_all s) in
      let fits : draws_before s k < 2 ^ 64 = omega (arith, sum, few) in
      let total : p.draws ≡ score_draws s = omega (arith, sum, drawn fits) in
      let state = all_state at all in
      (λ j. record { rng = record { 0 = state j }; draws = total j })
