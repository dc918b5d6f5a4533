-- What was read and what is written, from the contracts of the read and of the listing. Assumes nothing.
use Prim.Native.Nat.{ℕ, ◌≤◌, ◌<◌}
use mathlib.Core.Path.{◌≡◌, sym}
use mathlib.Core.List.{List, ◌++◌}
use native.Mathlib.Omega.{arith}
use lib.ListN.{length, take, drop}
use lib.Seq.{length-take-le}
use Rattle.programs.specs.Counts.{IsPrefixLen}
use Rattle.text_judge.proofs.Refused.{refusal_long}
use Rattle.text.specs.Listing.{listing}
use Rattle.text.proofs.Most.{listing_most}
use Rattle.play.specs.Input.{InputListed, ReadListed}

module _ (score reply₀ reply : List ℕ) (read : ℕ) {written : ℕ} (within : read ≤ length score) (whole : written ≡ length (listing (take read score))) where
  pub input_listed : 65536 < length score → reply ≡ listing (take read score) ++ drop written reply₀ → InputListed score reply₀ written reply
  input_listed more bytes =
      record {
        read = read;
        within = within;
        full = λ e. let l = length-take-le read score within in sym (refusal_long (take read score) (omega arith));
        whole = whole;
        bytes = bytes;
      }

  -- of a count that was read
  pub read_listed : 65536 < length score → reply ≡ listing (take read score) ++ drop written reply₀ → ReadListed score read reply₀ written reply
  read_listed more bytes =
      record {
        within = within;
        full = λ e. let l = length-take-le read score within in sym (refusal_long (take read score) (omega arith));
        whole = whole;
        bytes = bytes;
      }

  pub written_counts : 32808 ≤ length reply₀ → length reply ≡ length reply₀ → IsPrefixLen written reply
  written_counts room same =
      let most = listing_most (take read score) in
      let fits : written ≤ length reply = omega arith in
      (fits, sym (length-take-le written reply fits))
