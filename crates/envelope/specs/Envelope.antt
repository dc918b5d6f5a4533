-- `adsr_env` of dsp.rs, operation by operation, and `adsr` of render/mod.rs as a reading at a frame.
use Rattle.std.specs.Prelude.{ℕ, cond, Float}
use Rattle.std.specs.Float.Ieee.{lt}
use Rattle.ieee.specs.Numbers.{c0, c1, f32}
use Rattle.ieee.specs.Binary32.{◌⊕◌, ◌⊖◌, ◌⊗◌, ◌⊘◌}
use Rattle.ieee.specs.Order.{max_of, clamp_of}
use Rattle.dsl.specs.declared.knobs.Adsr.{Adsr}

-- the part of a stage that has passed x seconds after its start; a stage of no length has passed whole
unfoldable pub share_of : Float → Float → Float
share_of x stage = cond (lt c0 stage) (x ⊘ stage) c1

-- attack, decay, sustain, and the release from `rel` on
unfoldable pub level_of : Float → Adsr → Float → Float
level_of t env rel =
    cond (lt t env.a) (share_of t env.a)
    (cond (lt t (env.a ⊕ env.d)) (c1 ⊖ (c1 ⊖ env.s) ⊗ share_of (t ⊖ env.a) env.d)
    (cond (lt t rel) env.s
    (cond (lt c0 env.r) (env.s ⊗ (c1 ⊖ clamp_of ((t ⊖ rel) ⊘ env.r) c0 c1)) c0)))

-- the boost of the first moment: punch > 0, a window w > 0 and t < w
unfoldable pub punched_of : Float → Float → Float → Float → Float
punched_of t punch w v = cond (lt c0 punch) (cond (lt c0 w) (cond (lt t w) (v ⊗ (c1 ⊕ punch ⊗ (c1 ⊖ t ⊘ w))) v) v) v

-- `adsr_env` at t seconds
unfoldable pub adsr_env : Float → Adsr → Float → Float
adsr_env t env rel = punched_of t env.punch (env.a ⊕ env.d) (level_of t env rel)

-- the release starts r seconds before the end of the whole length of len frames
unfoldable pub release_start : Adsr → ℕ → ℕ → Float
release_start env len rate = max_of (f32 len ⊘ f32 rate ⊖ env.r) c0

-- "The envelope spans the whole length, sounded or not": `adsr` at frame i of a note of len frames
unfoldable pub adsr_at : Adsr → ℕ → ℕ → ℕ → Float
adsr_at env len rate i = adsr_env (f32 i ⊘ f32 rate) env (release_start env len rate)
