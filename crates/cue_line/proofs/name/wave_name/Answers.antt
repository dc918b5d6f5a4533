-- `cue_line::name::wave_name` meets its contract. Assumes nothing.
use borrow.Author.Rules.{rules}
use Rattle.cue_line.proofs.name.wave_name.Goals as goal

pub returns-in-Square : goal.returns-in-Square
returns-in-Square c = rw c.in-Square.is

pub returns-in-Triangle : goal.returns-in-Triangle
returns-in-Triangle c = rw c.in-Triangle.is

pub returns-in-Sawtooth : goal.returns-in-Sawtooth
returns-in-Sawtooth c = rw c.in-Sawtooth.is

pub returns-in-Sine : goal.returns-in-Sine
returns-in-Sine c = rw c.in-Sine.is

pub returns-in-Noise : goal.returns-in-Noise
returns-in-Noise c = rw c.in-Noise.is

pub returns-in-Fm : goal.returns-in-Fm
returns-in-Fm c = rw c.in-Fm.is

pub returns-in-Pluck : goal.returns-in-Pluck
returns-in-Pluck c = rw c.in-Pluck.is

pub returns-in-Piano : goal.returns-in-Piano
returns-in-Piano c = rw c.in-Piano.is

pub returns-in-Epiano : goal.returns-in-Epiano
returns-in-Epiano c = rw c.in-Epiano.is

pub returns-in-Organ : goal.returns-in-Organ
returns-in-Organ c = rw c.in-Organ.is

pub returns-in-Strings : goal.returns-in-Strings
returns-in-Strings c = rw c.in-Strings.is

pub returns-in-Brass : goal.returns-in-Brass
returns-in-Brass c = rw c.in-Brass.is

pub returns-in-Flute : goal.returns-in-Flute
returns-in-Flute c = rw c.in-Flute.is

pub returns-in-Mallet : goal.returns-in-Mallet
returns-in-Mallet c = rw c.in-Mallet.is

pub returns-in-Bell : goal.returns-in-Bell
returns-in-Bell c = rw c.in-Bell.is

pub returns-in-Bass : goal.returns-in-Bass
returns-in-Bass c = rw c.in-Bass.is

pub returns-in-Kit : goal.returns-in-Kit
returns-in-Kit c = rw c.in-Kit.is

pub returns-in-Cowbell : goal.returns-in-Cowbell
returns-in-Cowbell c = rw c.in-Cowbell.is
