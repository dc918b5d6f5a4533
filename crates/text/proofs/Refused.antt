-- What 01 says of a text: "A refused score prints one line alone" (`refused_line`), and "A text score past 15 and 16 gives what a list of its one score call gives, from the session
-- that its G line opens" (`past_line`, of a text that `unrefused_read` of text_judge gives). Assumes nothing.
use Prim.Native.Nat.{ℕ, suc}
use mathlib.Core.Path.{◌≡◌, ap}
use mathlib.Core.List.{List, [], ◌∷◌}
use Rattle.tally.specs.Tally.{tally}
use Rattle.text_digits.specs.Read.{got}
use Rattle.text_listing.specs.Lines.{printed_r}
use Rattle.text_read.specs.Text.{Text, seq_in, text_of}
use Rattle.text_judge.specs.Call.{call_of}
use Rattle.text_judge.specs.Refusal.{text_refusal, unless_refused}
use Rattle.text.specs.Listing.{shown, played, played_read, listing}

pub refused_line : (text : List ℕ) (number : ℕ) → text_refusal text ≡ suc number → listing text ≡ printed_r (suc number)
unfolding listing
refused_line text number e = ap (λ (n : ℕ). unless_refused printed_r n (played_read (text_of text))) e

pub past_line : (text : List ℕ) {t : Text} {rest : List ℕ} → text_refusal text ≡ 0 → text_of text ≡ got t rest
    → listing text ≡ shown t.seed (tally t.seed t.draw (call_of (seq_in t) t.notes t.numbers.n ∷ []))
unfolding listing played
past_line text e is = rw (e, is)
