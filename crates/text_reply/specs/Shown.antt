-- What is printed of a call.
use Rattle.std.specs.Prelude.{ℕ, List}
use Rattle.outcome.specs.Answer.{Result, refused, accepted}
use Rattle.text_listing.specs.Lines.{listing_of, printed_r}

-- "prints G with the end state and draw count, then one F line a frame"; "A refused score prints one line alone"
abbrev pub shown_at : ℕ → ℕ → Result → List ℕ
shown_at state draw (refused number) = printed_r number
shown_at state draw (accepted draws frames) = listing_of state draw frames
