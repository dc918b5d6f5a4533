-- `voice_piano::wires::wires_at` meets its contract. Assumes nothing.
use Rattle.voice_piano.proofs.Sines.{partial_sines}
use Rattle.std.proofs.Common.{rules}
use Rattle.voice_piano.proofs.wires.wires_at.Goals as goal

pub wires_by-requires : goal.wires_by-requires
wires_by-requires c =
    let t = c.turns.ensures in
    record {
      count_bound = c.requires.count_bound;
      by_index = partial_sines c.args.items t.1 c.sinf_block.ensures.tabled;
    }

pub returns : goal.returns
returns c =
    let l = c.sinf_block.ensures.near_len in
    record {
      x_len_2 = (c.turns.ensures.0, l.0, l.1, l.2, l.3);
      sum_value = c.wires_by.ensures;
    }
