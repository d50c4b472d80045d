use Rattle.entries.proofs.EnterLaws.{parent_file, parent_directory}
use Rattle.entries.proofs.apply.set_parent.Goals as goal

pub returns-then-old-ne-DIRECTORY : goal.returns-then-old-ne-DIRECTORY
returns-then-old-ne-DIRECTORY c = parent_file _ _ _ _ _ c.read-old.ensures c.if-old-ne-DIRECTORY.true

pub returns : goal.returns
returns c = parent_directory _ _ _ _ _ c.read-old.ensures c.if-old-ne-DIRECTORY.false _ _ c.with_parent.ensures c.write_attributes.ensures
