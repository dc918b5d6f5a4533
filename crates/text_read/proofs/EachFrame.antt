-- "(a text score has 1)": the score call of a text has the hop 1, whatever its lines say. Assumes nothing.
use mathlib.Core.Path.{◌≡◌, refl}
use Rattle.text_read.specs.Text.{Text, seq_of, seq_in}
use Rattle.text_read.specs.declared.text.TextScore.{TextScore}

-- THE THEOREM: of a text, as it is defined
pub text_hop : (t : Text) → (seq_in t).hop ≡ 1
text_hop t = refl

-- and of what was read, by the equation that `TextScore::seq` ensures
pub read_hop : (t : TextScore) → (seq_of t.numbers t.env t.sound).hop ≡ 1
read_hop t = refl
