-- The samples that wait in a ring of 64 places, the oldest first.
use Rattle.std.specs.Prelude.{ℕ, zero, suc, ◌%◌, List, [], ◌∷◌, cond, get_or, ltb}
use Rattle.board.specs.declared.queue.Queue.{Queue}

-- n samples from place `at` on; place 0 follows place 63
unfoldable pub samples_from : List ℕ → ℕ → ℕ → List ℕ
samples_from places at zero = []
samples_from places at (suc n) = get_or places (at % 64) 0 ∷ samples_from places (suc at) n

-- "a queue of 64 samples": a larger count stands for a full queue
abbrev pub count_of : Queue → ℕ
count_of q = cond (ltb q.count 64) q.count 64

unfoldable pub waiting : Queue → List ℕ
waiting q = samples_from q.places q.oldest (count_of q)
