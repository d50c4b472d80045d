use Rattle.names.proofs.EntryLaws.{entry_put}
use Rattle.names.proofs.put_entry.Goals as goal

pub returns : goal.returns
returns c =
    cc (entry_put c.args.entry.now c.args.inode c.args.name.now c.requires.0 c.requires.1)
