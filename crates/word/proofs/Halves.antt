-- A product modulo P * P from digits to the base P. Assumes nothing.
use Rattle.std.proofs.Common.{◌≡◌, ℕ, ◌+◌, ◌*◌, ◌/◌, ◌%◌, ◌^◌, sym, ap, ◌∙◌, add_assoc, mul_assoc, mul_comm, add-mul, add_comm, mul-add, mul_left_comm}
use native.Mathlib.Nat.{add_left_comm, mod-add-mod, add-mul-mod_self_right}
use lib.Pow.{split}
use lib.Bits.{bit_and, and_mask}
use Rattle.word.proofs.Modulo.{mod_mul_mod}

spread : (P a₁ a₀ b₁ b₀ : ℕ) → (a₁ * b₀ + a₀ * b₁) * P + a₀ * b₀ + a₁ * b₁ * (P * P) ≡ (a₁ * P + a₀) * (b₁ * P + b₀)
spread P a₁ a₀ b₁ b₀ = simp (mul-add, add-mul, mul_assoc, mul_comm, mul_left_comm, add_assoc, add_comm, add_left_comm)

halves : (P a₁ a₀ b₁ b₀ : ℕ) → ((a₁ * b₀ + a₀ * b₁) % (P * P) * P % (P * P) + a₀ * b₀) % (P * P) ≡ (a₁ * P + a₀) * (b₁ * P + b₀) % (P * P)
halves P a₁ a₀ b₁ b₀ =
    let M = P * P in
    ap (λ (n : ℕ). (n + a₀ * b₀) % M) (mod_mul_mod (a₁ * b₀ + a₀ * b₁) P M)
    ∙ mod-add-mod ((a₁ * b₀ + a₀ * b₁) * P) M (a₀ * b₀)
    ∙ sym (add-mul-mod_self_right ((a₁ * b₀ + a₀ * b₁) * P + a₀ * b₀) (a₁ * b₁) M)
    ∙ ap (λ (n : ℕ). n % M) (spread P a₁ a₀ b₁ b₀)

-- at 64 bits, with the halves as the code takes them
pub halves64 : (a b : ℕ)
    → ((a / 2 ^ 32 * bit_and b 0xffff_ffff + bit_and a 0xffff_ffff * (b / 2 ^ 32)) % 2 ^ 64 * 2 ^ 32 % 2 ^ 64 + bit_and a 0xffff_ffff * bit_and b 0xffff_ffff) % 2 ^ 64 ≡ a * b % 2 ^ 64
halves64 a b =
    (λ i. ((a / 2 ^ 32 * and_mask b 32 i + and_mask a 32 i * (b / 2 ^ 32)) % 2 ^ 64 * 2 ^ 32 % 2 ^ 64 + and_mask a 32 i * and_mask b 32 i) % 2 ^ 64)
    ∙ halves (2 ^ 32) (a / 2 ^ 32) (a % 2 ^ 32) (b / 2 ^ 32) (b % 2 ^ 32)
    ∙ (λ i. split a 32 i * split b 32 i % 2 ^ 64)
