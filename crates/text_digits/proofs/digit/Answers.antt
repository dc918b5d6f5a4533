-- `text_digits::digit` meets its contract. Assumes nothing.
use Rattle.std.proofs.Common.{◌≡◌, ◌-◌, arith}
use Rattle.text_digits.specs.Read.{digit_of}
use Rattle.text_digits.proofs.Reading.{digit_low, digit_high, digit_below, digit_between, digit_above}
use Rattle.text_digits.proofs.digit.Goals as goal
use Rattle.text_digits.proofs.digit.Goals.{in-48-to-57, in-97-to-102}

pub returns-in_default : goal.returns-in_default
returns-in_default c = let e : digit_of c.args.b ≡ 16 = digit_below _ (omega arith) in omega arith

pub returns-in_default-2 : goal.returns-in_default-2
returns-in_default-2 c = let e : digit_of c.args.b ≡ 16 = digit_between _ (omega arith) (omega arith) in omega arith

pub returns-in_default-3 : goal.returns-in_default-3
returns-in_default-3 c = let e : digit_of c.args.b ≡ 16 = digit_above _ (omega arith) in omega arith

pub returns-then-d-base : goal.returns-then-d-base
returns-then-d-base c =
    elim c.if-b-lt58.branch [
      | in-48-to-57 w ↦ let e : digit_of c.args.b ≡ c.args.b - 48 = digit_low _ (omega arith) (omega arith) in (omega arith, omega arith)
      | in-97-to-102 w ↦ let e : digit_of c.args.b ≡ c.args.b - 87 = digit_high _ (omega arith) (omega arith) in (omega arith, omega arith)
    ]

pub returns-else-d-base : goal.returns-else-d-base
returns-else-d-base c =
    elim c.if-b-lt58.branch [
      | in-48-to-57 w ↦ let e : digit_of c.args.b ≡ c.args.b - 48 = digit_low _ (omega arith) (omega arith) in omega arith
      | in-97-to-102 w ↦ let e : digit_of c.args.b ≡ c.args.b - 87 = digit_high _ (omega arith) (omega arith) in omega arith
    ]
