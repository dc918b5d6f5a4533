-- `wave_write::write::put_file` meets its contract. Assumes nothing.
use Rattle.wave_write.proofs.Files.{file_placed}
use borrow.Author.Rules.{rules}
use Rattle.wave_write.proofs.write.put_file.Goals as goal

pub returns : goal.returns
returns c =
    file_placed _ _ c.put_form.ensures c.put_fmt.ensures c.put_fact.ensures c.put_data.ensures c.put_samples.ensures
