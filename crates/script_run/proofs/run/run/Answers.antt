use Rattle.std.proofs.Common.{refl}
use Rattle.script_run.proofs.RunLaws.{line_none, line_calls, line_starts, line_steps}
use Rattle.script_run.proofs.run.run.Goals as goal

pub returns-in_default : goal.returns-in_default
returns-in_default c = line_none _ _ _ c.form_of.ensures c.in_default.is

pub returns-in-CreateFile : goal.returns-in-CreateFile
returns-in-CreateFile c = line_calls _ _ _ c.form_of.ensures _ c.in-Some.is _ _ _ _ _ _ c.create.ensures (rw c.in-CreateFile.is refl) c.reply_to.ensures

pub returns-in-CreateDirectory : goal.returns-in-CreateDirectory
returns-in-CreateDirectory c = line_calls _ _ _ c.form_of.ensures _ c.in-Some.is _ _ _ _ _ _ c.create-in-CreateDirectory.ensures (rw c.in-CreateDirectory.is refl) c.reply_to-in-CreateDirectory.ensures

pub returns-in-Write : goal.returns-in-Write
returns-in-Write c = line_calls _ _ _ c.form_of.ensures _ c.in-Some.is _ _ _ _ _ _ c.write.ensures (rw c.in-Write.is refl) c.reply_to-in-Write.ensures

pub returns-in-Shorten : goal.returns-in-Shorten
returns-in-Shorten c = line_calls _ _ _ c.form_of.ensures _ c.in-Some.is _ _ _ _ _ _ c.shorten.ensures (rw c.in-Shorten.is refl) c.reply_to-in-Shorten.ensures

pub returns-in-Link : goal.returns-in-Link
returns-in-Link c = line_calls _ _ _ c.form_of.ensures _ c.in-Some.is _ _ _ _ _ _ c.link.ensures (rw c.in-Link.is refl) c.reply_to-in-Link.ensures

pub returns-in-Unlink : goal.returns-in-Unlink
returns-in-Unlink c = line_calls _ _ _ c.form_of.ensures _ c.in-Some.is _ _ _ _ _ _ c.unlink.ensures (rw c.in-Unlink.is refl) c.reply_to-in-Unlink.ensures

pub returns-in-Rename : goal.returns-in-Rename
returns-in-Rename c = line_calls _ _ _ c.form_of.ensures _ c.in-Some.is _ _ _ _ _ _ c.rename.ensures (rw c.in-Rename.is refl) c.reply_to-in-Rename.ensures

pub returns-in-Start : goal.returns-in-Start
returns-in-Start c = line_starts _ _ _ c.form_of.ensures _ c.in-Some.is c.in-Start.is _ _ _ _ _ c.start.ensures c.reply_to-in-Start.ensures

pub returns-in-Step : goal.returns-in-Step
returns-in-Step c = line_steps _ _ _ c.form_of.ensures _ c.in-Some.is c.in-Step.is _ _ _ c.num.ensures c.take_steps.ensures
