use Rattle.api.proofs.CodeLaws.{result_is}
use Rattle.api.proofs.code.result.Goals as goal

pub returns : goal.returns
returns c = result_is _ c.requires
