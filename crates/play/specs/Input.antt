-- What `play` makes of its input.
use Rattle.std.specs.Prelude.{ℕ, ◌≤◌, ◌≡◌, List, ◌++◌, length, take, drop}
use Rattle.text_judge.specs.Refusal.{text_refusal}
use Rattle.text.specs.Listing.{listing}

-- The input stands at the start of `score`, as far as it fits, and its listing at the start of the reply, of which the first `written` bytes go out.
pub record InputListed (score reply₀ : List ℕ) (written : ℕ) (reply : List ℕ) : Type 0 where
  pub read : ℕ
  pub within : read ≤ length score
  -- An input that fills `score`, of which more may follow, is one of "input above 65,536 bytes".
  pub full : read ≡ length score → text_refusal (take read score) ≡ 16
  pub whole : written ≡ length (listing (take read score))
  pub bytes : reply ≡ listing (take read score) ++ drop written reply₀

-- What was read are the first `read` bytes of `score`; their listing stands at the start of the reply, of which the first `written` bytes go out.
pub record ReadListed (score : List ℕ) (read : ℕ) (reply₀ : List ℕ) (written : ℕ) (reply : List ℕ) : Type 0 where
  pub within : read ≤ length score
  pub full : read ≡ length score → text_refusal (take read score) ≡ 16
  pub whole : written ≡ length (listing (take read score))
  pub bytes : reply ≡ listing (take read score) ++ drop written reply₀
