-- A call is made with eight seeds and eight counts. Assumes nothing.
use Prim.Native.Nat.{ℕ, ◌%◌}
use mathlib.Core.Path.{◌≡◌, refl, sym, ap}
use mathlib.Core.Bool.{Bool, true, false, cond, true≢false}
use borrow.Author.Tests.{eqb-true}
use lib.Dec.{eqb}
use Rattle.dsl.specs.declared.knobs.Adsr.{Adsr}
use Rattle.dsl.specs.declared.knobs.SeqVoice.{SeqVoice}
use Rattle.std.specs.Prelude.{Option, Some, None}
use Rattle.raw_call.specs.Raw.{Parts, whole_of, parts_with}

abbrev found : Parts → Bool
found (Some (v, a)) = true
found None = false

module _ (seeds counts points : ℕ) where
  abbrev Eights : Type 0
  Eights = (seeds ≡ 8) × (counts ≡ 8)

  whole_eight : (b c : Bool) → eqb seeds 8 ≡ b → eqb counts 8 ≡ c → cond b (cond c (eqb (points % 4) 0) false) false ≡ true → Eights
  whole_eight true true s t e = (eqb-true _ _ s, eqb-true _ _ t)
  whole_eight true false s t e = absurd (true≢false (sym e))
  whole_eight false c s t e = absurd (true≢false (sym e))

  found_whole : (v : Option SeqVoice) (m : Option Adsr) (b : Bool) → whole_of seeds counts points ≡ b → true ≡ found (parts_with v m b) → Eights
  found_whole (Some v) (Some m) true all e = whole_eight (eqb seeds 8) (eqb counts 8) refl refl all
  found_whole (Some v) (Some m) false all e = absurd (true≢false e)
  found_whole (Some v) None b all e = absurd (true≢false e)
  found_whole None m b all e = absurd (true≢false e)

  pub call_eights : (x : Option SeqVoice) (m : Option Adsr) (v : SeqVoice) (a : Adsr) → Some (v, a) ≡ parts_with x m (whole_of seeds counts points) → Eights
  call_eights x m v a is = found_whole x m (whole_of seeds counts points) refl (ap found is)
