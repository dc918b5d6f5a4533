-- `remainder::rem::rem_f32` meets its contract, one law for each way out. Assumes nothing.
use mathlib.Core.Path.{◌∙◌}
use denote.Floats.{passes}
use Rattle.ieee.proofs.Nans.{is_nan_lem, no_nan, nan_made}
use Rattle.remainder.proofs.Cases.{first_nan, second_nan, case_infinite, case_zero, case_below, case_above, ordered}
use Rattle.remainder.proofs.rem.rem_f32.Goals as goal

pub returns-then-x : goal.returns-then-x
returns-then-x c = first_nan c.args.x c.args.y (is_nan_lem c.args.x c.if-x.true)

pub returns-then-y : goal.returns-then-y
returns-then-y c = second_nan c.args.x c.args.y (is_nan_lem c.args.y c.if-y.true)

pub float_to_bits-bits : goal.float_to_bits-bits
float_to_bits-bits c = no_nan c.args.x c.if-x.false

pub float_to_bits-n : goal.float_to_bits-n
float_to_bits-n c = no_nan c.args.y c.if-y.false

pub returns-then-m-eq2139095040 : goal.returns-then-m-eq2139095040
returns-then-m-eq2139095040 c =
    let a = c.args in
    nan_made ∙ case_infinite a.x a.y (passes _ c.well_formed.0.1) (passes _ c.well_formed.1.0.1) (no_nan a.x c.if-x.false) (no_nan a.y c.if-y.false) c.if-m-eq2139095040.true

pub returns-then-n-eq0 : goal.returns-then-n-eq0
returns-then-n-eq0 c =
    let a = c.args in
    nan_made
    ∙ case_zero a.x a.y (passes _ c.well_formed.0.1) (passes _ c.well_formed.1.0.1) (no_nan a.x c.if-x.false) (no_nan a.y c.if-y.false) c.if-m-eq2139095040.false c.if-n-eq0.true

pub returns-then-m-n : goal.returns-then-m-n
returns-then-m-n c =
    let a = c.args in
    case_below a.x a.y (passes _ c.well_formed.0.1) (passes _ c.well_formed.1.0.1) (no_nan a.x c.if-x.false) (no_nan a.y c.if-y.false)
    c.if-m-eq2139095040.false c.if-m-n.true

pub rem_patterns-requires : goal.rem_patterns-requires
rem_patterns-requires c =
    let a = c.args in
    ordered a.x a.y (passes _ c.well_formed.0.1) (passes _ c.well_formed.1.0.1) (no_nan a.x c.if-x.false) (no_nan a.y c.if-y.false)
    c.if-m-eq2139095040.false c.if-n-eq0.false c.if-m-n.false

pub returns : goal.returns
returns c =
    let a = c.args in
    case_above a.x a.y (passes _ c.well_formed.0.1) (passes _ c.well_formed.1.0.1) (no_nan a.x c.if-x.false) (no_nan a.y c.if-y.false) c.rem_patterns.result
    c.if-m-eq2139095040.false c.if-n-eq0.false c.if-m-n.false c.rem_patterns.ensures
