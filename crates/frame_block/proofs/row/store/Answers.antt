-- `frame_block::row::store` meets its contract. Assumes nothing.
use Rattle.std.proofs.Common.{◌≡◌, ℕ, ◌+◌, ◌≤◌, ◌<◌, List, length, get_or, set, drop, sym, ap, ◌∙◌, arith, length-set}
use Rattle.std.proofs.Math.ListN.{drop_of_length-le}
use Rattle.std.proofs.lemmas.List.{drop_more}
use Rattle.blocks.specs.Stored.{written}
use Rattle.frame_block.proofs.row.store.Goals as goal

-- a value written, and the rest of the row after it
store_more : {Y : Type 0} (x : List Y) (at k : ℕ) (row : List Y) (d : Y) {all : List Y} → k < length row
    → written x (at + k) (drop k row) ≡ all → written (set x (at + k) (get_or row k d)) (at + (k + 1)) (drop (k + 1) row) ≡ all
unfolding written
store_more x at k row d h e =
    let next : at + (k + 1) ≡ at + k + 1 = omega arith in
    rw next (sym (ap (λ l. written x (at + k) l) (drop_more row k d h)) ∙ e)

-- no value is left
store_all : {Y : Type 0} (x : List Y) (at k : ℕ) (row : List Y) {all : List Y} → length row ≤ k → written x (at + k) (drop k row) ≡ all → x ≡ all
unfolding written
store_all x at k row h e = sym (ap (λ l. written x (at + k) l) (drop_of_length-le row h)) ∙ e

pub loop-k-preserved : goal.loop-k-preserved
loop-k-preserved g c = (rw length-set c.loop-k.invariant.0, store_more _ _ _ _ _ (omega arith) c.loop-k.invariant.1)

pub returns : goal.returns
returns g c = store_all _ _ _ _ (omega arith) c.loop-k.invariant.1
