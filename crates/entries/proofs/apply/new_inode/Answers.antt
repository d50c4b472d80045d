use mathlib.Core.Path.{◌∙◌}
use Rattle.entries.proofs.apply.new_inode.Goals as goal

pub returns-in-File : goal.returns-in-File
returns-in-File c = c.with_links.ensures ∙ rw (c.empty.ensures, c.in-File.is)

pub returns-in-Directory : goal.returns-in-Directory
returns-in-Directory c = c.with_parent.ensures ∙ rw (c.with_links-in-Directory.ensures, c.empty-in-Directory.ensures, c.in-Directory.is)
