use Rattle.preservation.proofs.StoreLaws.{kind_dir}
use Rattle.entries.proofs.apply.rename.Goals as goal

pub put_entry-requires : goal.put_entry-requires
put_entry-requires c = let p = c.requires in (kind_dir p.0 _ p.1, p.2, p.4)
