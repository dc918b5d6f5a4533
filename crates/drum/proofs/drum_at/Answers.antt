-- `drum::drum_at` meets its contract: each arm by its keys, and the rest are none of them. Assumes nothing.
use mathlib.Core.Logic.{inl, inr}
use lib.Ieee.{of_int, of_bits, round, size}
use Rattle.drum.specs.Drums.{drum_at, among}
use Rattle.drum.proofs.Numbered.{is_snare, is_closed_hat, is_crash, is_ride, none_1, none_2, none_3, none_6, unmapped}
use Rattle.drum.proofs.drum_at.Goals as goal

pub returns-in-35 : goal.returns-in-35
unfolding drum_at among
returns-in-35 c = rw c.in-35.is

pub returns-in-36 : goal.returns-in-36
unfolding drum_at among
returns-in-36 c = rw c.in-36.is

pub returns-in-38 : goal.returns-in-38
returns-in-38 c = is_snare c.in-38.is

pub returns-in-37 : goal.returns-in-37
unfolding drum_at among
returns-in-37 c = rw c.in-37.is

pub returns-in-39 : goal.returns-in-39
unfolding drum_at among
returns-in-39 c = rw c.in-39.is

pub returns-in-42 : goal.returns-in-42
returns-in-42 c = is_closed_hat c.in-42.is

pub returns-in-46 : goal.returns-in-46
unfolding drum_at among
returns-in-46 c = rw c.in-46.is

pub returns-in-41 : goal.returns-in-41
unfolding drum_at among of_int of_bits round size
returns-in-41 c = rw c.in-41.is

pub returns-in-43 : goal.returns-in-43
unfolding drum_at among of_int of_bits round size
returns-in-43 c = rw c.in-43.is

pub returns-in-45 : goal.returns-in-45
unfolding drum_at among of_int of_bits round size
returns-in-45 c = rw c.in-45.is

pub returns-in-47 : goal.returns-in-47
unfolding drum_at among of_int of_bits round size
returns-in-47 c = rw c.in-47.is

pub returns-in-48 : goal.returns-in-48
unfolding drum_at among of_int of_bits round size
returns-in-48 c = rw c.in-48.is

pub returns-in-50 : goal.returns-in-50
unfolding drum_at among of_int of_bits round size
returns-in-50 c = rw c.in-50.is

pub returns-in-56 : goal.returns-in-56
unfolding drum_at among
returns-in-56 c = rw c.in-56.is

pub returns-in-49 : goal.returns-in-49
returns-in-49 c = is_crash c.in-49.is

pub returns-in-51 : goal.returns-in-51
returns-in-51 c = is_ride c.in-51.is

pub returns-in_default : goal.returns-in_default
returns-in_default c =
    let r = c.in_default.in_default-own.rest in
    let q = r.0.0.0.0.0 in
    let p = q.0.0.0.0.0 in
    unmapped _ (none_2 p.0.0.0.0.0.1 p.0.0.0.0.1) (none_2 (λ e. p.0.0.0.1 (inl e)) (λ e. p.0.0.0.1 (inr e))) (none_1 p.0.0.1) (none_1 p.0.1)
    (none_2 (λ e. p.1 (inl e)) (λ e. p.1 (inr e))) (none_1 q.0.0.0.0.1) (none_6 q.0.0.0.1 q.0.0.1 q.0.1 q.1 r.0.0.0.0.1 r.0.0.0.1) (none_1 r.0.0.1)
    (none_3 r.0.1) (none_3 r.1)
