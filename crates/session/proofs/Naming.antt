-- Which station a call names: `named_one` and `named_none` for its callers. Assumes nothing.
use Prim.Native.Nat.{ℕ, ◌≤◌, ◌<◌}
use mathlib.Core.Path.{◌≡◌, refl, ap}
use mathlib.Core.Bool.{Bool, true, false, cond}
use native.Mathlib.Omega.{arith}
use borrow.Author.Tests.{lt-ltb, le-ltb, ltb-true, ltb-false}
use lib.Dec.{ltb}
use Rattle.session.specs.Opened.{station_in}
use Rattle.session.specs.Named.{named_in}
use Rattle.std.specs.Prelude.{None, Some}
use Rattle.session.specs.declared.session.Session.{Session}
use Rattle.session.specs.declared.station.Station.{Station}

module _ (s : Session) (k : ℕ) where
  pub no_station_named : 7 < k → None ≡ named_in s k
  unfolding named_in
  no_station_named h = rw (lt-ltb 7 k h) refl

  pub station_named : k ≤ 7 → {x : Station} → x ≡ station_in s k → Some x ≡ named_in s k
  unfolding named_in
  station_named h e = rw (le-ltb 7 k h) (ap Some e)

  one_by : (b : Bool) → ltb 7 k ≡ b → {x : Station} → cond b None (Some (station_in s k)) ≡ Some x → (k < 8) × (x ≡ station_in s k)
  one_by true q e = absurd (let z : ◌≡◌ {A = ℕ} 0 1 = cc in omega arith)
  one_by false q e = let few = ltb-false 7 k q in (omega arith, cc)

  pub named_one : {x : Station} → named_in s k ≡ Some x → (k < 8) × (x ≡ station_in s k)
  unfolding named_in
  named_one = one_by (ltb 7 k) refl

  none_by : (b : Bool) → ltb 7 k ≡ b → cond b None (Some (station_in s k)) ≡ None → 7 < k
  none_by true q e = ltb-true 7 k q
  none_by false q e = absurd (let z : ◌≡◌ {A = ℕ} 0 1 = cc in omega arith)

  pub named_none : named_in s k ≡ None → 7 < k
  unfolding named_in
  named_none = none_by (ltb 7 k) refl
