-- What one walk for two beats has in common.
use Rattle.std.specs.Prelude.{◌≡◌, List, drop, Float}
use Rattle.tempo.specs.Map.{begun, walked, seconds_at, tempo_from, bpm_at}
use Rattle.tempo.specs.declared.map.TempoPoint.{TempoPoint}
use Rattle.tempo.specs.declared.walk.Walk.{Walk}
use Rattle.tempo.specs.declared.walk.Span.{Span}

-- Walking on from w to either beat gives what walking from the first point gives.
pub record Shared (ps : List TempoPoint) (from to : Float) (w : Walk) : Type 0 where
  pub start : walked from (drop w.next ps) w ≡ walked from (drop 1 ps) (begun ps)
  pub end : walked to (drop w.next ps) w ≡ walked to (drop 1 ps) (begun ps)
  pub tempo : tempo_from from (drop w.next ps) w.bpm ≡ bpm_at ps from

-- the tempo at the first beat, and the seconds at both
abbrev pub span_at : List TempoPoint → Float → Float → Span
span_at ps from to = record { bpm = bpm_at ps from; start = seconds_at ps from; end = seconds_at ps to }
