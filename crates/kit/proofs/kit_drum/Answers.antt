-- `kit::kit_drum` meets its contract: each style by what it ensures. Assumes nothing.
use Rattle.std.proofs.Common.{rules}
use Rattle.dsl.specs.declared.kit.KitStyle.TheVariants.{Classic, Acoustic, Electronic, Eight08}
use Rattle.kit.specs.Kit.{style_frames}
use Rattle.kit.proofs.Hit.{hit_frames, hit_left}
use Rattle.kit.proofs.kit_drum.Goals as goal

pub kit_drum_classic-requires : goal.kit_drum_classic-requires
kit_drum_classic-requires c = c.requires.frames

pub kit_drum_acoustic-requires : goal.kit_drum_acoustic-requires
kit_drum_acoustic-requires c = c.requires.frames

pub kit_drum_electronic-requires : goal.kit_drum_electronic-requires
kit_drum_electronic-requires c = c.requires.frames

pub kit_drum_808-requires : goal.kit_drum_808-requires
kit_drum_808-requires c = c.requires.frames

pub returns-in-Classic : goal.returns-in-Classic
unfolding style_frames
returns-in-Classic c =
    let drum = c.first_drum-drum.ensures in
    let srf = c.nearest_u32_to_f32-srf.ensures in
    rw c.in-Classic.is (record {
      out_after = hit_frames Classic _ _ _ _ drum srf c.kit_drum_classic.ensures.out_after;
      result_value = hit_left Classic _ _ _ _ c.requires.rate c.requires.frames drum srf c.kit_drum_classic.ensures.result_value;
    })

pub returns-in-Acoustic : goal.returns-in-Acoustic
unfolding style_frames
returns-in-Acoustic c =
    let drum = c.first_drum-drum.ensures in
    let srf = c.nearest_u32_to_f32-srf.ensures in
    rw c.in-Acoustic.is (record {
      out_after = hit_frames Acoustic _ _ _ _ drum srf c.kit_drum_acoustic.ensures.out_after;
      result_value = hit_left Acoustic _ _ _ _ c.requires.rate c.requires.frames drum srf c.kit_drum_acoustic.ensures.result_value;
    })

pub returns-in-Electronic : goal.returns-in-Electronic
unfolding style_frames
returns-in-Electronic c =
    let drum = c.first_drum-drum.ensures in
    let srf = c.nearest_u32_to_f32-srf.ensures in
    rw c.in-Electronic.is (record {
      out_after = hit_frames Electronic _ _ _ _ drum srf c.kit_drum_electronic.ensures.out_after;
      result_value = hit_left Electronic _ _ _ _ c.requires.rate c.requires.frames drum srf c.kit_drum_electronic.ensures.result_value;
    })

pub returns-in-Eight08 : goal.returns-in-Eight08
unfolding style_frames
returns-in-Eight08 c =
    let drum = c.first_drum-drum.ensures in
    let srf = c.nearest_u32_to_f32-srf.ensures in
    rw c.in-Eight08.is (record {
      out_after = hit_frames Eight08 _ _ _ _ drum srf c.kit_drum_808.ensures.out_after;
      result_value = hit_left Eight08 _ _ _ _ c.requires.rate c.requires.frames drum srf c.kit_drum_808.ensures.result_value;
    })
