-- `kit_acoustic::frames::coefficients` meets its contract: each call by what it ensures. Assumes nothing.
use Rattle.kit_acoustic.specs.Acoustic.{coefficients_of}
use Rattle.kit_acoustic.proofs.frames.coefficients.Goals as goal

pub returns : goal.returns
unfolding coefficients_of
returns c =
    rw (
      c.one_pole_step-12.ensures,
      c.one_pole_step-11.ensures,
      c.one_pole_step-10.ensures,
      c.one_pole_step-9.ensures,
      c.one_pole_step-8.ensures,
      c.one_pole_step-7.ensures,
      c.one_pole_step-6.ensures,
      c.one_pole_step-5.ensures,
      c.one_pole_step-4.ensures,
      c.one_pole_step-3.ensures,
      c.one_pole_step-2.ensures,
      c.one_pole_step.ensures,
    )
