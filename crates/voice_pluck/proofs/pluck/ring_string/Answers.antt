-- `voice_pluck::pluck::ring_string` meets its contract: the loop fills `out` by the law `Filled`, whose state is the string and all that goes with it. Assumes nothing.
use Rattle.std.proofs.Common.{◌≡◌, ◌-◌, ◌<◌, length, refl, ap, arith, length-set, rules}
use borrow.Author.Rules.{scaled_Fits}
use Rattle.laws.proofs.Fill.{Filled, filled_none, filled_length, filled_more_parts, filled_frames, filled_state}
use Rattle.voice_pluck.specs.Pluck.{Ring, ring_at, ring_start, ring_frames, ring_after}
use Rattle.voice_pluck.proofs.pluck.ring_string.Goals as goal

pub loop-i-init : goal.loop-i-init
loop-i-init c = (rw c.at_rest-s.ensures filled_none, refl, c.requires.string_nonzero)

pub offset_bounds-string-after : goal.offset_bounds-string-after
offset_bounds-string-after c = let h : c.turn-after.result < length c.loop-i.string = c.turn-after.ensures.1 in search rules

pub bounds-string-after : goal.bounds-string-after
bounds-string-after c = c.turn-after.ensures.1

pub pluck_at-r-requires : goal.pluck_at-r-requires
pluck_at-r-requires c =
    let inv = c.loop-i.invariant in
    record { most = omega (arith, filled_length inv.0, c.requires.frames.most) }

pub offset_bounds-string-spos-in-loop-i : goal.offset_bounds-string-spos-in-loop-i
offset_bounds-string-spos-in-loop-i c =
    let turn = c.loop-i in
    scaled_Fits turn.spos (length c.args.string.now) 4 turn.invariant.2 (omega (arith, c.well_formed.1.1.1.0))

pub bounds-out-i : goal.bounds-out-i
bounds-out-i c = omega (arith, filled_length c.loop-i.invariant.0)

pub loop-i-smaller : goal.loop-i-smaller
loop-i-smaller c = omega (arith, filled_length c.loop-i.invariant.0)

pub loop-i-preserved : goal.loop-i-preserved
unfolding ring_at
loop-i-preserved c =
    let inv = c.loop-i.invariant in
    let frame = c.pluck_at-r.ensures in
    let place = c.turn-after.ensures.0 in (
      filled_more_parts inv.0 (omega (arith, filled_length inv.0)) (rw (frame, place)) (rw (frame, place)),
      rw length-set inv.1,
      omega arith,
    )

pub shape_of-string : goal.shape_of-string
shape_of-string c = c.loop-i.invariant.1

pub shape_of-out : goal.shape_of-out
shape_of-out c = filled_length c.loop-i.invariant.0

pub returns : goal.returns
unfolding ring_frames ring_after
returns c =
    record {
      out_after = filled_frames c.loop-i.invariant.0 (omega (arith, filled_length c.loop-i.invariant.0)) (omega arith);
      string_after = ap (λ (r : Ring). r.string) (filled_state c.loop-i.invariant.0 (omega (arith, filled_length c.loop-i.invariant.0)) (omega arith));
    }
