-- Words that are bytes, tested and copied one by one. Assumes nothing.
use Prim.Native.Nat.{ℕ, zero, suc, ◌+◌, ◌≤◌, ◌<◌}
use mathlib.Core.Path.{◌≡◌, sym, ap, ◌∙◌}
use mathlib.Core.List.{List, [], ◌∷◌, ◌++◌, append-nil, append_assoc}
use mathlib.Core.Bool.{true, false, ◌&&◌}
use native.Mathlib.Omega.{arith}
use native.Mathlib.Numerals.{add-one}
use borrow.Author.Tests.{ltb-true, lt-ltb, le-ltb}
use lib.ListN.{length, get_or, set, take, drop, drop_of_length-le}
use lib.Seq.{drop-cons, take-suc, take_all, set_at, length-take-le}
use lib.Dec.{ltb}
use Rattle.board.proofs.Shapes.{and_both}
use Rattle.harness_board.specs.Words.{all_bytes}

-- each of words that are all bytes is one
pub byte_at : (ws : List ℕ) (i : ℕ) → all_bytes ws ≡ true → i < length ws → get_or ws i 0 < 256
unfolding all_bytes
byte_at [] i e h = omega arith
byte_at (w ∷ ws) zero e h = ltb-true w 256 (and_both (ltb w 256) (all_bytes ws) e).0
byte_at (w ∷ ws) (suc i) e h = byte_at ws i (and_both (ltb w 256) (all_bytes ws) e).1 (omega arith)

-- Whether all are bytes, from word i on; those before it are.
module _ (ws : List ℕ) (i : ℕ) (ahead : all_bytes (drop i ws) ≡ all_bytes ws) where
  ahead_one : i < length ws → all_bytes ws ≡ (ltb (get_or ws i 0) 256 && all_bytes (drop (suc i) ws))
  unfolding all_bytes
  ahead_one h = sym ahead ∙ rw (drop-cons ws i 0 h)

  pub ahead_more : i < length ws → get_or ws i 0 ≤ 255 → all_bytes (drop (i + 1) ws) ≡ all_bytes ws
  ahead_more h b = let s : get_or ws i 0 < 256 = omega arith in rw add-one (sym (rw (lt-ltb (get_or ws i 0) 256 s) at (ahead_one h)))

  pub ahead_large : i < length ws → 255 < get_or ws i 0 → false ≡ all_bytes ws
  ahead_large h b = let s : 256 ≤ get_or ws i 0 = omega arith in sym (rw (le-ltb (get_or ws i 0) 256 s) at (ahead_one h))

  pub ahead_end : length ws ≤ i → true ≡ all_bytes ws
  unfolding all_bytes
  ahead_end h = rw (drop_of_length-le ws h) at ahead

-- the first i words are copied
pub copied_more : (ws l₀ l : List ℕ) (i : ℕ) → l ≡ take i ws ++ drop i l₀ → i < length ws → length l₀ ≡ length ws → set l i (get_or ws i 0) ≡ take (i + 1) ws ++ drop (i + 1) l₀
copied_more ws l₀ l i e h n =
    let x = get_or ws i 0 in
    let k : i < length l₀ = omega arith in
    let front : length (take i ws) ≡ i = length-take-le i ws (omega arith) in
    let written : set l i x ≡ take i ws ++ x ∷ drop (suc i) l₀ =
    ap (λ (s : List ℕ). set s i x) (e ∙ ap (λ (s : List ℕ). take i ws ++ s) (drop-cons l₀ i 0 k)) ∙ set_at (take i ws) (get_or l₀ i 0) (drop (suc i) l₀) x i front in
    rw (add-one, take-suc ws i 0 h, append_assoc) written

pub copied_all : (ws l₀ l : List ℕ) (i : ℕ) → l ≡ take i ws ++ drop i l₀ → length ws ≤ i → length l₀ ≡ length ws → l ≡ ws
copied_all ws l₀ l i e h n =
    let k : length l₀ ≤ i = omega arith in
    e ∙ rw (take_all i ws h, drop_of_length-le l₀ k) (append-nil ws)
