-- Style 0 to 3: the place in `KitStyle` of the source, counted from 0.
use Rattle.std.specs.Prelude.{ℕ, List, [], ◌∷◌, get_or, None, Option, Some}
use Rattle.dsl.specs.declared.kit.KitStyle.{KitStyle}
use Rattle.dsl.specs.declared.kit.KitStyle.TheVariants.{Classic, Acoustic, Electronic, Eight08}

-- the source's order
abbrev pub styles : List (Option KitStyle)
styles = Some Classic ∷ Some Acoustic ∷ Some Electronic ∷ Some Eight08 ∷ []

unfoldable pub style_at : ℕ → Option KitStyle
style_at place = get_or styles place None
