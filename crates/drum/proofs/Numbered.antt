-- Which drum a number names, from what an arm of a match knows of the number. Assumes nothing.
use Prim.Native.Nat.{ℕ}
use mathlib.Core.Path.{◌≡◌, refl, sym, ap}
use mathlib.Core.Logic.{inl, inr}
use mathlib.Core.Bool.{false}
use mathlib.Core.List.{[], ◌∷◌}
use borrow.Author.Tests.{ne_eqb}
use types.Run.{OneOf}
use Rattle.laws.proofs.If.{if_false}
use Rattle.drum.specs.Drums.{among, drum_at}
use Rattle.drum.specs.declared.Drum.TheVariants.{Snare, ClosedHat, Crash, Ride, Unmapped}

module _ {n : ℕ} where
  pub is_snare : OneOf (38 ∷ 40 ∷ []) n → Snare ≡ drum_at n
  unfolding drum_at among
  is_snare o = elim o [ inl e ↦ sym (ap drum_at e) | inr e ↦ sym (ap drum_at e) ]

  pub is_closed_hat : OneOf (42 ∷ 44 ∷ []) n → ClosedHat ≡ drum_at n
  unfolding drum_at among
  is_closed_hat o = elim o [ inl e ↦ sym (ap drum_at e) | inr e ↦ sym (ap drum_at e) ]

  pub is_crash : OneOf (49 ∷ 55 ∷ 57 ∷ []) n → Crash ≡ drum_at n
  unfolding drum_at among
  is_crash (inl e) = sym (ap drum_at e)
  is_crash (inr (inl e)) = sym (ap drum_at e)
  is_crash (inr (inr e)) = sym (ap drum_at e)

  pub is_ride : OneOf (51 ∷ 53 ∷ 59 ∷ []) n → Ride ≡ drum_at n
  unfolding drum_at among
  is_ride (inl e) = sym (ap drum_at e)
  is_ride (inr (inl e)) = sym (ap drum_at e)
  is_ride (inr (inr e)) = sym (ap drum_at e)

  -- the number is none of a list
  pub none_1 : {a : ℕ} → (n ≡ a → ⊥) → among (a ∷ []) n ≡ false
  unfolding among
  none_1 {a} p = rw (ne_eqb n a p)

  pub none_2 : {a b : ℕ} → (n ≡ a → ⊥) → (n ≡ b → ⊥) → among (a ∷ b ∷ []) n ≡ false
  unfolding among
  none_2 {a} {b} p q = rw (ne_eqb n a p, ne_eqb n b q)

  pub none_3 : {a b c : ℕ} → (OneOf (a ∷ b ∷ c ∷ []) n → ⊥) → among (a ∷ b ∷ c ∷ []) n ≡ false
  unfolding among
  none_3 {a} {b} {c} p = rw (ne_eqb n a (λ e. p (inl e)), ne_eqb n b (λ e. p (inr (inl e))), ne_eqb n c (λ e. p (inr (inr e))))

  pub none_6 : {a b c d e f : ℕ} → (n ≡ a → ⊥) → (n ≡ b → ⊥) → (n ≡ c → ⊥) → (n ≡ d → ⊥) → (n ≡ e → ⊥) → (n ≡ f → ⊥) → among (a ∷ b ∷ c ∷ d ∷ e ∷ f ∷ []) n ≡ false
  unfolding among
  none_6 {a} {b} {c} {d} {e} {f} p q r s t u = rw (ne_eqb n a p, ne_eqb n b q, ne_eqb n c r, ne_eqb n d s, ne_eqb n e t, ne_eqb n f u)

pub unmapped :
    (n : ℕ) →
    among (35 ∷ 36 ∷ []) n ≡ false →
    among (38 ∷ 40 ∷ []) n ≡ false →
    among (37 ∷ []) n ≡ false →
    among (39 ∷ []) n ≡ false →
    among (42 ∷ 44 ∷ []) n ≡ false →
    among (46 ∷ []) n ≡ false →
    among (41 ∷ 43 ∷ 45 ∷ 47 ∷ 48 ∷ 50 ∷ []) n ≡ false →
    among (56 ∷ []) n ≡ false →
    among (49 ∷ 55 ∷ 57 ∷ []) n ≡ false →
    among (51 ∷ 53 ∷ 59 ∷ []) n ≡ false →
    Unmapped ≡ drum_at n
unfolding drum_at
unmapped n a b c d e f g h i j =
    if_false _ a (if_false _ b (if_false _ c (if_false _ d (if_false _ e (if_false _ f (if_false _ g (if_false _ h (if_false _ i (if_false _ j refl)))))))))
