-- Digits put into spaces from the second place on are a space and the digits. Assumes nothing.
use Rattle.std.proofs.Common.{◌≡◌, ℕ, List, replicate, refl, ◌∙◌}
use lib.Dec.{lit≤}
use Rattle.text_listing.specs.Digits.{last_digits, hex_text}
use Rattle.text_listing.specs.Printed.{put, Room, Printed}
use Rattle.vectors.specs.Numbers.{spaced}

module _ (n : ℕ) where
  pub room_8 : Room (hex_text 8 n) 1 (replicate 9 32)
  unfolding last_digits
  room_8 = record { fits = lit≤ tt }

  pub room_16 : Room (hex_text 16 n) 1 (replicate 17 32)
  unfolding last_digits
  room_16 = record { fits = lit≤ tt }

  put_8 : put (hex_text 8 n) 1 (replicate 9 32) ≡ spaced 8 n
  unfolding put last_digits
  put_8 = refl

  put_16 : put (hex_text 16 n) 1 (replicate 17 32) ≡ spaced 16 n
  unfolding put last_digits
  put_16 = refl

  pub spaced_8 : {next : ℕ} {text : List ℕ} → Printed (hex_text 8 n) 1 (replicate 9 32) next text → text ≡ spaced 8 n
  spaced_8 p = p.bytes ∙ put_8

  pub spaced_16 : {next : ℕ} {text : List ℕ} → Printed (hex_text 16 n) 1 (replicate 17 32) next text → text ≡ spaced 16 n
  spaced_16 p = p.bytes ∙ put_16
