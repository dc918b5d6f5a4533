-- Which tempo maps a score may carry: what 31 and 32 judge.
use Rattle.std.specs.Prelude.{Bool, true, false, cond, List, [], ◌∷◌, ◌==◌, nat_lt, unsigned_abs}
use Rattle.ieee.specs.Numbers.{c1, c1000}
use Rattle.ieee.specs.Order.{within_of}
use Rattle.beat.specs.Beat.{lt_beat}
use Rattle.tempo.specs.Map.{points}
use Rattle.tempo.specs.declared.map.TempoPoint.{TempoPoint}
use Rattle.tempo.specs.declared.map.TempoMap.{TempoMap}

-- not "a zero denominator, a numerator of magnitude above 1,000,000,000 or a tempo outside 1 to 1,000"
unfoldable pub fine_at : TempoPoint → Bool
fine_at p = cond (p.at.den == 0) false (cond (nat_lt 1000000000 (unsigned_abs p.at.num)) false (within_of p.bpm c1 c1000))

-- whether all pass a test
unfoldable pub all_of : {Y : Type 0} → (Y → Bool) → List Y → Bool
all_of test [] = true
all_of test (y ∷ ys) = cond (test y) (all_of test ys) false

-- not "more than 64 points", and each of them fine
unfoldable pub in_domain : TempoMap → Bool
in_domain m = cond (nat_lt 64 m.count) false (all_of fine_at (points m))

-- whether each passes a test with the next
unfoldable pub chain : {Y : Type 0} → (Y → Y → Bool) → List Y → Bool
chain test [] = true
chain test (x ∷ []) = true
chain test (x ∷ y ∷ ys) = cond (test x y) (chain test (y ∷ ys)) false

-- from a point to the next, as fractions
abbrev pub rises_to : TempoPoint → TempoPoint → Bool
rises_to p q = lt_beat p.at q.at

-- not "a first point not at beat 0"
unfoldable pub begins_at_zero : List TempoPoint → Bool
begins_at_zero [] = true
begins_at_zero (p ∷ ps) = unsigned_abs p.at.num == 0

-- nor "beats that, as fractions, don't strictly rise"
unfoldable pub in_order : TempoMap → Bool
in_order m = cond (begins_at_zero (points m)) (chain rises_to (points m)) false
