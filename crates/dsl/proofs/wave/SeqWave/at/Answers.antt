-- `dsl::wave::SeqWave::at` meets its contract: each arm is one place of the list, and the rest have no wave. Assumes nothing.
use Prim.Native.Nat.{zero-le}
use Rattle.dsl.specs.Wave.{wave_at}
use Rattle.dsl.proofs.Places.{past, none}
use Rattle.dsl.proofs.wave.SeqWave.at.Goals as goal

pub returns-in-0 : goal.returns-in-0
unfolding wave_at
returns-in-0 c = rw c.in-0.is

pub returns-in-1 : goal.returns-in-1
unfolding wave_at
returns-in-1 c = rw c.in-1.is

pub returns-in-2 : goal.returns-in-2
unfolding wave_at
returns-in-2 c = rw c.in-2.is

pub returns-in-3 : goal.returns-in-3
unfolding wave_at
returns-in-3 c = rw c.in-3.is

pub returns-in-4 : goal.returns-in-4
unfolding wave_at
returns-in-4 c = rw c.in-4.is

pub returns-in-5 : goal.returns-in-5
unfolding wave_at
returns-in-5 c = rw c.in-5.is

pub returns-in-6 : goal.returns-in-6
unfolding wave_at
returns-in-6 c = rw c.in-6.is

pub returns-in-7 : goal.returns-in-7
unfolding wave_at
returns-in-7 c = rw c.in-7.is

pub returns-in-8 : goal.returns-in-8
unfolding wave_at
returns-in-8 c = rw c.in-8.is

pub returns-in-9 : goal.returns-in-9
unfolding wave_at
returns-in-9 c = rw c.in-9.is

pub returns-in-10 : goal.returns-in-10
unfolding wave_at
returns-in-10 c = rw c.in-10.is

pub returns-in-11 : goal.returns-in-11
unfolding wave_at
returns-in-11 c = rw c.in-11.is

pub returns-in-12 : goal.returns-in-12
unfolding wave_at
returns-in-12 c = rw c.in-12.is

pub returns-in-13 : goal.returns-in-13
unfolding wave_at
returns-in-13 c = rw c.in-13.is

pub returns-in-14 : goal.returns-in-14
unfolding wave_at
returns-in-14 c = rw c.in-14.is

pub returns-in-15 : goal.returns-in-15
unfolding wave_at
returns-in-15 c = rw c.in-15.is

pub returns-in-16 : goal.returns-in-16
unfolding wave_at
returns-in-16 c = rw c.in-16.is

pub returns-in-17 : goal.returns-in-17
unfolding wave_at
returns-in-17 c = rw c.in-17.is

pub returns-in_default : goal.returns-in_default
returns-in_default c =
    let r = c.in_default.in_default-own.rest in
    let q = r.0.0.0.0.0.0.0.0.0 in
    let h4 = past _ 3 (past _ 2 (past _ 1 (past _ 0 zero-le q.0.0.0.0.0.0.0.0.1) q.0.0.0.0.0.0.0.1) q.0.0.0.0.0.0.1) q.0.0.0.0.0.1 in
    let h8 = past _ 7 (past _ 6 (past _ 5 (past _ 4 h4 q.0.0.0.0.1) q.0.0.0.1) q.0.0.1) q.0.1 in
    let h9 = past _ 8 h8 q.1 in
    let h13 = past _ 12 (past _ 11 (past _ 10 (past _ 9 h9 r.0.0.0.0.0.0.0.0.1) r.0.0.0.0.0.0.0.1) r.0.0.0.0.0.0.1) r.0.0.0.0.0.1 in
    let h17 = past _ 16 (past _ 15 (past _ 14 (past _ 13 h13 r.0.0.0.0.1) r.0.0.0.1) r.0.0.1) r.0.1 in
    none _ (past _ 17 h17 r.1)
