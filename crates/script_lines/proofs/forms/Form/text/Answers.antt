use Rattle.std.proofs.Common.{refl}
use Rattle.script_lines.proofs.forms.Form.text.Goals as goal

pub returns-in-CreateFile : goal.returns-in-CreateFile
returns-in-CreateFile c = rw c.in-CreateFile.is refl

pub returns-in-CreateDirectory : goal.returns-in-CreateDirectory
returns-in-CreateDirectory c = rw c.in-CreateDirectory.is refl

pub returns-in-Write : goal.returns-in-Write
returns-in-Write c = rw c.in-Write.is refl

pub returns-in-Shorten : goal.returns-in-Shorten
returns-in-Shorten c = rw c.in-Shorten.is refl

pub returns-in-Link : goal.returns-in-Link
returns-in-Link c = rw c.in-Link.is refl

pub returns-in-Unlink : goal.returns-in-Unlink
returns-in-Unlink c = rw c.in-Unlink.is refl

pub returns-in-Rename : goal.returns-in-Rename
returns-in-Rename c = rw c.in-Rename.is refl

pub returns-in-Start : goal.returns-in-Start
returns-in-Start c = rw c.in-Start.is refl

pub returns-in-Step : goal.returns-in-Step
returns-in-Step c = rw c.in-Step.is refl
