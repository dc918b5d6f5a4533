-- What a sweep has not reached is as it was; and the sines of a table of rows are those of the partials' strings. Assumes nothing.
use Rattle.std.proofs.Common.{◌≡◌, ℕ, ◌+◌, ◌*◌, ◌<◌, List, length, get_or, refl, ap, ◌∙◌, lit<}
use lib.Ieee.{Float, nan}
use Rattle.laws.proofs.Update.{updated_read}
use Rattle.laws.proofs.Sweep.{Swept}
use Rattle.ieee.specs.Binary32.{◌⊗◌}
use Rattle.trig.specs.Single.{sinf_of}
use Rattle.blocks.proofs.Block.{Tabled}
use Rattle.blocks.proofs.Rows.{Rows, rows_through, rows_first}
use Rattle.dsp.specs.Kernels.{TAU, sin_of}
use Rattle.voice_piano.specs.Block.{turns_of, no_partial}
use Rattle.voice_piano.specs.declared.hammer.Partial.{Partial}

pub swept_seen : {S Y : Type 0} {add : S → Y → S} {move : Y → Y} {s₀ : S} {l₀ : List Y} {j : ℕ} {l : List Y} {s : S} → Swept add move s₀ l₀ j l s → (d : Y) → get_or l j d ≡ get_or l₀ j d
swept_seen {move = move} {l₀ = l₀} {j = j} h d = ap (λ k. get_or k j d) h.items.frames ∙ updated_read (λ (i : ℕ). move) 0 j l₀ d

pub partial_sines : (items : List Partial) {count : ℕ} {x s : List Float}
    → Rows 2 (λ j. turns_of (get_or items j no_partial)) nan count x → Tabled (λ j. sinf_of (get_or x j nan)) nan 0 (count * 2) s
    → (j : ℕ) → j < count → (get_or s (j * 2) nan ≡ sin_of (TAU ⊗ (get_or items j no_partial).phase0)) × (get_or s (j * 2 + 1) nan ≡ sin_of (TAU ⊗ (get_or items j no_partial).phase1))
unfolding turns_of
partial_sines items rows sines j h = (rows_first sinf_of rows sines j h (lit< tt), rows_through sinf_of rows sines j 1 h (lit< tt))

pub two_turns : (p : Partial) → length (turns_of p) ≡ 2
unfolding turns_of
two_turns p = refl
