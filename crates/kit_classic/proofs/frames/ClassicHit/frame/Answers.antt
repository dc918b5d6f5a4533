-- `kit_classic::frames::ClassicHit::frame` meets its contract: each arm by what its frame function ensures. Assumes nothing.
use Rattle.kit_classic.specs.Block.{classic_block_by}
use Rattle.kit_classic.proofs.frames.ClassicHit.frame.Goals as goal

pub returns-in-Kick : goal.returns-in-Kick
unfolding classic_block_by
returns-in-Kick c = rw (c.in-Kick.is, ← c.frame_time-t.ensures) c.kick.ensures

pub returns-in-Snare : goal.returns-in-Snare
unfolding classic_block_by
returns-in-Snare c = rw (c.in-Snare.is, ← c.frame_time-t.ensures) c.snare.ensures

pub returns-in-Rim : goal.returns-in-Rim
unfolding classic_block_by
returns-in-Rim c = rw (c.in-Rim.is, ← c.frame_time-t.ensures) c.rim.ensures

pub returns-in-Clap : goal.returns-in-Clap
unfolding classic_block_by
returns-in-Clap c = rw c.in-Clap.is c.noise.ensures

pub returns-in-ClosedHat : goal.returns-in-ClosedHat
unfolding classic_block_by
returns-in-ClosedHat c = rw c.in-ClosedHat.is c.hiss.ensures

pub returns-in-OpenHat : goal.returns-in-OpenHat
unfolding classic_block_by
returns-in-OpenHat c = rw c.in-OpenHat.is c.hiss-in-OpenHat.ensures

pub returns-in-Tom : goal.returns-in-Tom
unfolding classic_block_by
returns-in-Tom c = rw (c.in-Tom.is, ← c.frame_time-t.ensures) c.tom.ensures

pub returns-in-Cowbell : goal.returns-in-Cowbell
unfolding classic_block_by
returns-in-Cowbell c = rw c.in-Cowbell.is

pub returns-in-Crash : goal.returns-in-Crash
unfolding classic_block_by
returns-in-Crash c = rw c.in-Crash.is c.hiss-in-Crash.ensures

pub returns-in-Ride : goal.returns-in-Ride
unfolding classic_block_by
returns-in-Ride c = rw (c.in-Ride.is, ← c.frame_time-t.ensures) c.ride.ensures

pub returns-in-Unmapped : goal.returns-in-Unmapped
unfolding classic_block_by
returns-in-Unmapped c = rw c.in-Unmapped.is c.noise-in-Unmapped.ensures
