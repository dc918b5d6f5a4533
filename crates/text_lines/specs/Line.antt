-- Fields and lines, and the lines S, G and E: "Lines end in a newline, fields are parted by tabs".
use Rattle.std.specs.Prelude.{ℕ, List, [], ◌∷◌, ◌++◌, cond, length, drop, get_or, eqb, Float}
use Rattle.std.specs.Float.{binary32}
use Rattle.std.specs.Float.Ieee.{of_bits}
use Rattle.dsl.specs.declared.knobs.Adsr.{Adsr}
use Rattle.text_digits.specs.Read.{Read, got, broken, after, tab, newline, byte, hex, decimal}
use Rattle.text_lines.specs.declared.Numbers.{Numbers}
use Rattle.text_lines.specs.declared.Opening.{Opening}

-- The kinds of a field: "floats are 8 lowercase hexadecimal digits of the f32 bits .. other numbers decimal", of which a number "that doesn't fit 32" bits breaks the form.
abbrev pub float : ℕ
float = 8

abbrev pub word : ℕ
word = 32

unfoldable pub value : ℕ → List ℕ → Read ℕ
value kind s = cond (eqb kind float) (hex 8 s) (decimal 0xffffffff s)

-- a tab and a number
abbrev pub tabbed : (List ℕ → Read ℕ) → List ℕ → Read ℕ
tabbed number s = after (byte tab s) (λ _ rest. number rest)

unfoldable pub field : ℕ → List ℕ → Read ℕ
field kind s = tabbed (value kind) s

-- values put before those that were read
unfoldable pub before : List ℕ → Read (List ℕ) → Read (List ℕ)
before vs (got ws s) = got (vs ++ ws) s
before vs broken = broken

-- a field of each kind
unfoldable pub fields : List ℕ → List ℕ → Read (List ℕ)
fields [] s = got [] s
fields (k ∷ ks) s = after (field k s) (λ v rest. before (v ∷ []) (fields ks rest))

-- what comes of a form that was read, and nothing of a broken one
abbrev pub where_read : {A : Type 0} → Read A → (A → List ℕ → List ℕ) → List ℕ
where_read (got v s) f = f v s
where_read broken f = []

-- the values of the fields before the first that is not of its kind
unfoldable pub leading : List ℕ → List ℕ → List ℕ
leading [] s = []
leading (k ∷ ks) s = where_read (field k s) (λ v rest. v ∷ leading ks rest)

-- what a lent slice holds once some values are stored at its start: after them what it held
abbrev pub stored_in : List ℕ → List ℕ → List ℕ
stored_in vs held = vs ++ drop (length vs) held

-- the fields that end a line
unfoldable pub ending : List ℕ → List ℕ → Read (List ℕ)
ending ks s = after (fields ks s) (λ vs rest. after (byte newline rest) (λ _ next. got vs next))

-- a letter and the fields
unfoldable pub line : ℕ → List ℕ → List ℕ → Read (List ℕ)
line letter ks s = after (byte letter s) (λ _ rest. ending ks rest)

abbrev pub leading_line : ℕ → List ℕ → List ℕ → List ℕ
leading_line letter ks s = where_read (byte letter s) (λ _ rest. leading ks rest)

-- the f32 of a float's bits
abbrev pub float_at : List ℕ → ℕ → Float
float_at vs i = of_bits binary32 (get_or vs i 0)

-- "S rate n tempo steps-per-beat swing humanize"
abbrev pub form_s : List ℕ
form_s = word ∷ word ∷ float ∷ word ∷ float ∷ float ∷ []

abbrev pub numbers_of : List ℕ → Numbers
numbers_of vs = record { rate = get_or vs 0 0; n = get_or vs 1 0; tempo = float_at vs 2; steps_per_beat = get_or vs 3 0; swing = float_at vs 4; humanize = float_at vs 5 }

unfoldable pub line_s : List ℕ → Read Numbers
line_s s = after (line 83 form_s s) (λ vs rest. got (numbers_of vs) rest)

-- "G seed draw": "seeds 16" digits, and a draw that fits 64 bits
unfoldable pub seed_field : List ℕ → Read ℕ
seed_field s = tabbed (hex 16) s

unfoldable pub draw_field : List ℕ → Read ℕ
draw_field s = tabbed (decimal 0xffffffffffffffff) s

unfoldable pub line_g : List ℕ → Read Opening
line_g s =
    after (byte 71 s) (λ _ s₁.
    after (seed_field s₁) (λ seed s₂.
    after (draw_field s₂) (λ draw s₃.
    after (byte newline s₃) (λ _ rest. got (record { seed = seed; draw = draw }) rest))))

-- "E a d s r punch"
abbrev pub form_e : List ℕ
form_e = float ∷ float ∷ float ∷ float ∷ float ∷ []

abbrev pub env_of_bits : List ℕ → Adsr
env_of_bits vs = record { a = float_at vs 0; d = float_at vs 1; s = float_at vs 2; r = float_at vs 3; punch = float_at vs 4 }

unfoldable pub line_e : List ℕ → Read Adsr
line_e s = after (line 69 form_e s) (λ vs rest. got (env_of_bits vs) rest)
