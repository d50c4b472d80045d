use Rattle.std.proofs.Common.{arith}
use Rattle.text.proofs.PutLaws.{put_same}
use Rattle.script.proofs.ScriptLaws.{printed_line, finished_listable}
use Rattle.script.proofs.print.put_line.Goals as goal

pub put_printed-requires : goal.put_printed-requires
put_printed-requires c = (omega (arith, c.requires.0), finished_listable _ _ _ _ _ _ _ c.requires.3 c.requires.0 c.run-r.ensures, omega (arith, c.requires.1, c.run-r.auto.image), omega (arith, c.requires.2, c.run-r.auto.desk))

pub returns-clause-put : goal.returns-clause-put
returns-clause-put c = put_same _ _ _ _ _ _ (printed_line _ _ c.run-r.result _ _ _ c.run-r.ensures) c.put_printed.ensures
