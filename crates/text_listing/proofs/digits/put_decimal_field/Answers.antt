-- `text_listing::digits::put_decimal_field` meets its contract. Assumes nothing.
use mathlib.Core.List.{[], ◌∷◌}
use Rattle.text_listing.proofs.Put.{printed_both}
use borrow.Author.Rules.{rules}
use Rattle.text_listing.proofs.digits.put_decimal_field.Goals as goal

pub returns : goal.returns
returns c =
    printed_both (9 ∷ []) _ c.requires c.put_byte-next.ensures c.put_decimal.ensures
