-- `voice_piano::piano::sound_piano` meets its contract. Assumes nothing.
use Rattle.std.proofs.Common.{◌≡◌, ◌-◌, ◌^◌, ◌<◌, ◌≤◌, length, refl, ap, ◌∙◌, arith, rules}
use Rattle.laws.proofs.Fill.{Filled, filled_none, filled_length, filled_more_parts, filled_frames, filled_state}
use Rattle.dsl.specs.Pitch.{pitch_at}
use Rattle.dsl.proofs.Reach.{reaches_less}
use Rattle.voice_piano.specs.Piano.{Piano, heard, piano_at, sound_frames}
use Rattle.voice_piano.proofs.Sound.{sound_draws}
use Rattle.voice_piano.proofs.piano.sound_piano.Goals as goal

pub loop-i-init : goal.loop-i-init
loop-i-init c = ((refl, refl, refl, refl, refl), filled_none)

pub at-requires : goal.at-requires
at-requires c = reaches_less c.args.pitch _ _ _ c.requires.reaches (omega (arith, filled_length c.loop-i.invariant.1))

pub piano_at-r-requires : goal.piano_at-r-requires
piano_at-r-requires c =
    let v = c.loop-i.invariant in
    record {
      frames = record { most = omega (arith, filled_length v.1, c.requires.frames.most, c.loop-i-test.true) };
      count_bound = c.requires.count_bound;
      x_len = v.0;
    }

pub bounds-out-i : goal.bounds-out-i
bounds-out-i c =
    omega (arith, filled_length c.loop-i.invariant.1, c.loop-i-test.true)

pub loop-i-smaller : goal.loop-i-smaller
loop-i-smaller c =
    omega (arith, filled_length c.loop-i.invariant.1, c.loop-i-test.true)

pub loop-i-preserved : goal.loop-i-preserved
loop-i-preserved c =
    let inv = c.loop-i.invariant.1 in
    let l = c.loop-i-test.true in (
      c.piano_at-r.ensures.x_len_2,
      filled_more_parts inv (omega (
        arith,
        filled_length inv,
      )) (rw c.at.ensures at c.piano_at-r.ensures.sample_value) (rw c.at.ensures at c.piano_at-r.ensures.state_value),
    )

pub shape_of-out : goal.shape_of-out
shape_of-out c = filled_length c.loop-i.invariant.1

pub returns : goal.returns
unfolding sound_frames
returns c =
    let inv = c.loop-i.invariant.1 in
    let all : length c.args.out.now ≤ c.loop-i.i = omega (arith, filled_length inv) in
    let fits : c.args.start.rng.0 < 2 ^ 64 = search rules in
    record {
      out_after = filled_frames inv all (omega arith);
      result_value = ap (λ (s : Piano). s.rng) (filled_state inv all refl) ∙ sound_draws _ _ _ _ _ _ fits;
    }
