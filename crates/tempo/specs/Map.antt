-- Tempo maps, as `tempo_map_seconds_at` and `tempo_map_bpm_at` of dsl/mod.rs walk them, in f64, operation by operation.
use Rattle.std.specs.Prelude.{suc, cond, List, [], ◌∷◌, take, drop, replicate, pos, from_bits, Float}
use Rattle.std.specs.Float.{binary32}
use Rattle.std.specs.Float.Ieee.{le, lt}
use Rattle.ieee.specs.Numbers64.{d0, d1, d60}
use Rattle.ieee.specs.Binary64.{◌⊞◌, ◌⊟◌, ◌⊠◌, ◌⧄◌}
use Rattle.ieee.specs.Order.{max_of}
use Rattle.beat.specs.Beat.{beat64}
use Rattle.tempo.specs.declared.map.TempoPoint.{TempoPoint}
use Rattle.tempo.specs.declared.map.TempoMap.{TempoMap}
use Rattle.tempo.specs.declared.walk.Walk.{Walk}

-- the points that are looked at: the first `count` places
abbrev pub points : TempoMap → List TempoPoint
points m = take m.count m.points

-- a map of no points
abbrev pub no_map : TempoMap
no_map = record { points = replicate 64 (record { at = record { num = pos 0; den = 1 }; bpm = from_bits binary32 0x42f00000 }); count = 0 }

-- "Degenerate tempos floor at 1 BPM": the tempo as f64, at least 1
abbrev pub floored : Float → Float
floored bpm = max_of bpm d1

-- "secs = 0.0, prev_beat = 0.0, bpm = map[0].bpm": where a walk begins. The map must not be empty.
unfoldable pub begun : List TempoPoint → Walk
begun [] = record { next = 1; secs = d0; prev_beat = d0; bpm = d1 }
begun (p ∷ ps) = record { next = 1; secs = d0; prev_beat = d0; bpm = floored p.bpm }

-- "secs + (beat - prev_beat) * 60.0 / bpm"
abbrev pub seconds_from : Walk → Float → Float
seconds_from w beat = w.secs ⊞ (beat ⊟ w.prev_beat) ⊠ d60 ⧄ w.bpm

-- "secs += (at - prev_beat) * 60.0 / bpm; prev_beat = at; bpm = p.bpm"
abbrev pub past : Walk → Float → Float → Walk
past w at bpm = record { next = suc w.next; secs = seconds_from w at; prev_beat = at; bpm = floored bpm }

-- "for p in &map[1..] { let at = p.at.to_f64(); if beat <= at { break; } .. }"
unfoldable pub walked : Float → List TempoPoint → Walk → Walk
walked beat [] w = w
walked beat (p ∷ ps) w = cond (le beat (beat64 p.at)) w (walked beat ps (past w (beat64 p.at) p.bpm))

-- `tempo_map_seconds_at`
unfoldable pub seconds_at : List TempoPoint → Float → Float
seconds_at ps beat = seconds_from (walked beat (drop 1 ps) (begun ps)) beat

-- "for p in &map[1..] { if beat < p.at.to_f64() { break; } bpm = p.bpm }"
unfoldable pub tempo_from : Float → List TempoPoint → Float → Float
tempo_from beat [] bpm = bpm
tempo_from beat (p ∷ ps) bpm = cond (lt beat (beat64 p.at)) bpm (tempo_from beat ps (floored p.bpm))

-- `tempo_map_bpm_at`
unfoldable pub bpm_at : List TempoPoint → Float → Float
bpm_at ps beat = tempo_from beat (drop 1 ps) (begun ps).bpm
