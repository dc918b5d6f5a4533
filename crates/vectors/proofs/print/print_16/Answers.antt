-- `vectors::print::print_16` meets its contract. Assumes nothing.
use Rattle.vectors.proofs.Spaced.{room_16, spaced_16}
use Rattle.vectors.proofs.print.print_16.Goals as goal

pub put_hex_16-requires : goal.put_hex_16-requires
put_hex_16-requires g c = room_16 c.args.n

pub returns-clause-all : goal.returns-clause-all
returns-clause-all g c = rw (spaced_16 c.args.n c.put_hex_16.ensures) at c.print_text.ensures.all

pub returns-clause-part : goal.returns-clause-part
returns-clause-part g c = rw (spaced_16 c.args.n c.put_hex_16.ensures) at c.print_text.ensures.part
