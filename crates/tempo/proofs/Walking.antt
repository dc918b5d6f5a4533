-- The loops over the points of a tempo map: what one point does to a walk. Use with `ahead`, the walk from a place on. Assumes nothing.
use Rattle.std.proofs.Common.{◌≡◌, ℕ, suc, ◌<◌, ◌≤◌, min, Bool, true, false, ◌||◌, List, [], ◌∷◌, length, get_or, drop, sym, refl, ap, ◌∙◌, arith, drop_of_length-le, length-take, drop-cons}
use Rattle.std.proofs.Common.{get_or-take}
use lib.Ieee.{Float, le, lt, eq}
use Rattle.ieee.specs.Numbers64.{d0}
use Rattle.beat.specs.Beat.{beat64}
use Rattle.tempo.specs.Map.{points, floored, past, begun, walked, tempo_from, bpm_at}
use Rattle.tempo.specs.Shared.{Shared}
use Rattle.tempo.specs.declared.map.TempoPoint.{TempoPoint}
use Rattle.tempo.specs.declared.map.TempoMap.{TempoMap}
use Rattle.tempo.specs.declared.walk.Walk.{Walk}

-- ---- the points that are looked at
pub count_whole : (m : TempoMap) → length m.points ≡ 64 → 64 < m.count → 64 ≡ length (points m)
count_whole m k h = sym (length-take m.count m.points ∙ least m.count (length m.points) k h)
  where
    least : (c l : ℕ) → l ≡ 64 → 64 < c → min c l ≡ 64
    least c l e h = omega arith

pub count_is : (m : TempoMap) → length m.points ≡ 64 → m.count ≤ 64 → m.count ≡ length (points m)
count_is m k h = sym (length-take m.count m.points ∙ least m.count (length m.points) k h)
  where
    least : (c l : ℕ) → l ≡ 64 → c ≤ 64 → min c l ≡ c
    least c l e h = omega arith

pub some_points : (m : TempoMap) → length m.points ≡ 64 → 0 < m.count → 0 < length (points m)
some_points m k h = rw (length-take m.count m.points) (least m.count (length m.points) k h)
  where
    least : (c l : ℕ) → l ≡ 64 → 0 < c → 0 < min c l
    least c l e h = omega arith

module _ (m : TempoMap) (i : ℕ) (lt : i < length (points m)) where
  within : i < m.count
  within = under (length (points m)) m.count (length m.points) (length-take m.count m.points) lt
    where
      under : (n c l : ℕ) → n ≡ min c l → i < n → i < c
      under n c l e h = omega arith

  pub taken : (d : TempoPoint) → get_or (points m) i d ≡ get_or m.points i d
  taken d = get_or-take m.count m.points i d within

  -- from place i on
  pub ahead_of : (d : TempoPoint) → drop i (points m) ≡ get_or m.points i d ∷ drop (suc i) (points m)
  ahead_of d = drop-cons (points m) i d lt ∙ ap (λ (p : TempoPoint). p ∷ drop (suc i) (points m)) (taken d)

pub past_all : (m : TempoMap) (i : ℕ) → length (points m) ≤ i → drop i (points m) ≡ []
past_all m i h = drop_of_length-le (points m) h

pub begun_is :
    (m : TempoMap) (d : TempoPoint) → 0 < length (points m) → {b : Float} → b ≡ floored (get_or m.points 0 d).bpm → record { next = 1; secs = d0; prev_beat = d0; bpm = b } ≡ begun (points m)
unfolding begun
begun_is m d h e = rw (e, ahead_of m 0 h d)

pub begun_next : (ps : List TempoPoint) → (begun ps).next ≡ 1
unfolding begun
begun_next [] = refl
begun_next (p ∷ ps) = refl

-- ---- seconds
module _ (m : TempoMap) (beat : Float) (w : Walk) where
  -- the walk from w on
  abbrev pub onward : Walk
  onward = walked beat (drop w.next (points m)) w

  module _ {at : Float} (d : TempoPoint) (lt : w.next < length (points m)) (e : at ≡ beat64 (get_or m.points w.next d).at) where
    pub walk_here : le beat at ≡ true → w ≡ onward
    unfolding walked
    walk_here t = rw (ahead_of m w.next lt d, ← e, t)

    pub walk_more : {v : Walk} → le beat at ≡ false → v ≡ past w at (get_or m.points w.next d).bpm → walked beat (drop v.next (points m)) v ≡ onward
    unfolding walked
    walk_more t f = rw (f, ahead_of m w.next lt d, ← e, t)

  pub walk_end : length (points m) ≤ w.next → w ≡ onward
  unfolding walked
  walk_end h = rw (past_all m w.next h)

-- ---- the tempo
module _ (m : TempoMap) (beat : Float) (i : ℕ) (bpm : Float) where
  abbrev pub onward_tempo : Float
  onward_tempo = tempo_from beat (drop i (points m)) bpm

  module _ {at : Float} (d : TempoPoint) (lt' : i < length (points m)) (e : at ≡ beat64 (get_or m.points i d).at) where
    pub tempo_here : lt beat at ≡ true → bpm ≡ onward_tempo
    unfolding tempo_from
    tempo_here t = rw (ahead_of m i lt' d, ← e, t)

    pub tempo_more : {b : Float} → lt beat at ≡ false → b ≡ floored (get_or m.points i d).bpm → tempo_from beat (drop (suc i) (points m)) b ≡ onward_tempo
    unfolding tempo_from
    tempo_more t f = rw (f, ahead_of m i lt' d, ← e, t)

  pub tempo_end : length (points m) ≤ i → bpm ≡ onward_tempo
  unfolding tempo_from
  tempo_end h = rw (past_all m i h)

-- ---- both beats
or_false : (a b : Bool) → (a || b) ≡ false → a ≡ false
or_false true b e = e
or_false false b e = refl

-- what is not at most is not below
not_below : (x y : Float) → le x y ≡ false → lt x y ≡ false
unfolding le
not_below x y e = or_false (lt x y) (eq x y) e

pub shared_start : (ps : List TempoPoint) (from to : Float) {w : Walk} → w ≡ begun ps → Shared ps from to w
unfolding begun bpm_at
shared_start [] from to e = rw e (record { start = refl; end = refl; tempo = refl })
shared_start (p ∷ ps) from to e = rw e (record { start = refl; end = refl; tempo = refl })

module _ (m : TempoMap) (from to : Float) {w : Walk} (h : Shared (points m) from to w) {at : Float} (d : TempoPoint) where
  pub shared_more :
      w.next < length (points m) → at ≡ beat64 (get_or m.points w.next d).at →
      le from at ≡ false → le to at ≡ false → {v : Walk} → v ≡ past w at (get_or m.points w.next d).bpm → Shared (points m) from to v
  shared_more lt e f t is = record {
    start = walk_more m from w d lt e f is ∙ h.start;
    end = walk_more m to w d lt e t is ∙ h.end;
    tempo = rw is (tempo_more m from w.next w.bpm d lt e (not_below from at f) refl) ∙ h.tempo;
  }
