use Rattle.api.proofs.CodeLaws.{done_fits, done_code, refused_code}
use Rattle.api.proofs.code.code.Goals as goal

pub result-requires : goal.result-requires
result-requires c = done_fits _ _ c.requires c.in-Ok.is

pub returns-in-Ok : goal.returns-in-Ok
returns-in-Ok c = done_code _ _ _ c.requires c.in-Ok.is c.result.ensures

pub returns-in-Err : goal.returns-in-Err
returns-in-Err c = refused_code _ _ _ c.in-Err.is c.refused.ensures
