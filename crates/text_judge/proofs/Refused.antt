-- Use for a text by its refusal's number: what the text is where the number is 0 (`unrefused_read`), and 16 of a long one. Assumes nothing.
use Prim.Native.Nat.{ℕ, suc, ◌≤◌, ◌<◌}
use mathlib.Core.Path.{◌≡◌, refl}
use mathlib.Core.List.{List}
use mathlib.Core.Bool.{Bool, true, false, cond}
use native.Mathlib.Omega.{arith}
use borrow.Author.Tests.{lt-ltb, ltb-false}
use lib.Dec.{ltb}
use lib.ListN.{length}
use Rattle.laws.proofs.If.{if_true}
use Rattle.text_digits.specs.Read.{Read, got, broken}
use Rattle.text_read.specs.Notes.{count_of}
use Rattle.text_read.specs.Text.{Text, text_of}
use Rattle.text_judge.specs.Refusal.{form_broken, too_large, text_refusal}

-- a number by tests is 0: the first test is false, and so is the rest 0
not_first : (b : Bool) (n rest : ℕ) → cond b (suc n) rest ≡ 0 → (b ≡ false) × (rest ≡ 0)
not_first true n rest e = absurd (omega arith)
not_first false n rest e = (refl, e)

-- "16 input above 65,536 bytes", before all others
pub refusal_long : (text : List ℕ) → 65536 < length text → 16 ≡ text_refusal text
unfolding text_refusal
refusal_long text h = if_true _ (lt-ltb _ _ h) refl

-- what a text is that is not refused before its score call is made
pub record Unrefused (text : List ℕ) : Type 0 where
  pub said : Text
  pub rest : List ℕ
  pub is : text_of text ≡ got said rest
  pub bytes : length text ≤ 65536
  pub frames : said.numbers.n ≤ 2048
  pub notes : count_of said.notes ≤ 256

neither : (a b : Bool) → cond a true b ≡ false → (a ≡ false) × (b ≡ false)
neither true b e = (e, cc)
neither false b e = (refl, e)

unrefused : (text : List ℕ) (x : Read Text) → text_of text ≡ x → length text ≤ 65536 → form_broken x ≡ false → too_large x ≡ false → Unrefused text
unrefused text broken is few formed small = let z : ◌≡◌ {A = ℕ} 0 1 = cc in absurd (omega arith)
unrefused text (got t rest) is few formed small =
    let within = neither (ltb 2048 t.numbers.n) (ltb 256 (count_of t.notes)) small in
    record {
      said = t;
      rest = rest;
      is = is;
      bytes = few;
      frames = ltb-false 2048 t.numbers.n within.0;
      notes = ltb-false 256 (count_of t.notes) within.1;
    }

pub unrefused_read : (text : List ℕ) → text_refusal text ≡ 0 → Unrefused text
unfolding text_refusal
unrefused_read text e =
    let x = text_of text in
    let few = not_first (ltb 65536 (length text)) 15 (cond (form_broken x) 15 (cond (too_large x) 16 0)) e in
    let formed = not_first (form_broken x) 14 (cond (too_large x) 16 0) few.1 in
    unrefused text x refl (ltb-false 65536 (length text) few.0) formed.0 (not_first (too_large x) 15 0 formed.1).0
