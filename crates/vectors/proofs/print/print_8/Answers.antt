-- `vectors::print::print_8` meets its contract. Assumes nothing.
use Rattle.vectors.proofs.Spaced.{room_8, spaced_8}
use Rattle.vectors.proofs.print.print_8.Goals as goal

pub put_hex_8-requires : goal.put_hex_8-requires
put_hex_8-requires g c = room_8 c.args.n

pub returns-clause-all : goal.returns-clause-all
returns-clause-all g c = rw (spaced_8 c.args.n c.put_hex_8.ensures) at c.print_text.ensures.all

pub returns-clause-part : goal.returns-clause-part
returns-clause-part g c = rw (spaced_8 c.args.n c.put_hex_8.ensures) at c.print_text.ensures.part
