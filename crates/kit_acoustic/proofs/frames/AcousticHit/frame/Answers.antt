-- `kit_acoustic::frames::AcousticHit::frame` meets its contract: each arm by what its frame function ensures. Assumes nothing.
use Rattle.kit_acoustic.specs.Block.{acoustic_block_by}
use Rattle.kit_acoustic.proofs.frames.AcousticHit.frame.Goals as goal

pub returns-in-Kick : goal.returns-in-Kick
unfolding acoustic_block_by
returns-in-Kick c = rw (c.in-Kick.is, ← c.frame_time-t.ensures) c.kick.ensures

pub returns-in-Snare : goal.returns-in-Snare
unfolding acoustic_block_by
returns-in-Snare c = rw (c.in-Snare.is, ← c.frame_time-t.ensures) c.snare.ensures

pub returns-in-Rim : goal.returns-in-Rim
unfolding acoustic_block_by
returns-in-Rim c = rw (c.in-Rim.is, ← c.frame_time-t.ensures) c.rim.ensures

pub returns-in-Clap : goal.returns-in-Clap
unfolding acoustic_block_by
returns-in-Clap c = rw c.in-Clap.is c.clap.ensures

pub returns-in-ClosedHat : goal.returns-in-ClosedHat
unfolding acoustic_block_by
returns-in-ClosedHat c = rw c.in-ClosedHat.is c.hat.ensures

pub returns-in-OpenHat : goal.returns-in-OpenHat
unfolding acoustic_block_by
returns-in-OpenHat c = rw c.in-OpenHat.is c.hat-in-OpenHat.ensures

pub returns-in-Tom : goal.returns-in-Tom
unfolding acoustic_block_by
returns-in-Tom c = rw (c.in-Tom.is, ← c.frame_time-t.ensures) c.tom.ensures

pub returns-in-Cowbell : goal.returns-in-Cowbell
unfolding acoustic_block_by
returns-in-Cowbell c = rw c.in-Cowbell.is

pub returns-in-Crash : goal.returns-in-Crash
unfolding acoustic_block_by
returns-in-Crash c = rw (c.in-Crash.is, ← c.frame_time-t.ensures) c.crash.ensures

pub returns-in-Ride : goal.returns-in-Ride
unfolding acoustic_block_by
returns-in-Ride c = rw (c.in-Ride.is, ← c.frame_time-t.ensures) c.ride.ensures

pub returns-in-Unmapped : goal.returns-in-Unmapped
unfolding acoustic_block_by
returns-in-Unmapped c = rw c.in-Unmapped.is c.unmapped.ensures
