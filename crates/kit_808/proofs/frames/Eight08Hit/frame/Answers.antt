-- `kit_808::frames::Eight08Hit::frame` meets its contract: each arm by what its frame function ensures. Assumes nothing.
use Rattle.kit_808.specs.Block.{eight08_by}
use Rattle.kit_808.proofs.frames.Eight08Hit.frame.Goals as goal

pub returns-in-Kick : goal.returns-in-Kick
unfolding eight08_by
returns-in-Kick c = rw (c.in-Kick.is, ← c.frame_time-t.ensures) c.kick.ensures

pub returns-in-Snare : goal.returns-in-Snare
unfolding eight08_by
returns-in-Snare c = rw (c.in-Snare.is, ← c.frame_time-t.ensures) c.snare.ensures

pub returns-in-Rim : goal.returns-in-Rim
unfolding eight08_by
returns-in-Rim c = rw (c.in-Rim.is, ← c.frame_time-t.ensures) c.rim.ensures

pub returns-in-Clap : goal.returns-in-Clap
unfolding eight08_by
returns-in-Clap c = rw c.in-Clap.is c.clap.ensures

pub returns-in-ClosedHat : goal.returns-in-ClosedHat
unfolding eight08_by
returns-in-ClosedHat c = rw (c.in-ClosedHat.is, ← c.frame_time-t.ensures) c.hat.ensures

pub returns-in-OpenHat : goal.returns-in-OpenHat
unfolding eight08_by
returns-in-OpenHat c = rw (c.in-OpenHat.is, ← c.frame_time-t.ensures) c.hat-in-OpenHat.ensures

pub returns-in-Tom : goal.returns-in-Tom
unfolding eight08_by
returns-in-Tom c = rw (c.in-Tom.is, ← c.frame_time-t.ensures) c.tom.ensures

pub returns-in-Cowbell : goal.returns-in-Cowbell
unfolding eight08_by
returns-in-Cowbell c = rw (c.in-Cowbell.is, ← c.frame_time-t.ensures) c.cowbell.ensures

pub returns-in-Crash : goal.returns-in-Crash
unfolding eight08_by
returns-in-Crash c = rw (c.in-Crash.is, ← c.frame_time-t.ensures) c.crash.ensures

pub returns-in-Ride : goal.returns-in-Ride
unfolding eight08_by
returns-in-Ride c = rw (c.in-Ride.is, ← c.frame_time-t.ensures) c.ride.ensures

pub returns-in-Unmapped : goal.returns-in-Unmapped
unfolding eight08_by
returns-in-Unmapped c = rw c.in-Unmapped.is c.noise.ensures
