use Rattle.std.proofs.Common.{refl, arith}
use Rattle.script.proofs.ScriptLaws.{laid_fresh}
use Rattle.script.proofs.main.Goals as goal

pub run-requires : goal.run-requires
run-requires c = (omega arith, omega (arith, c.lay_out_desk.auto.buffer), omega (arith, c.read_full-n.ensures.0, c.read_full-n.ensures.1, c.read_full-n.auto.buf), laid_fresh _ _ _ _ c.lay_out_store.result c.lay_out_desk.result refl refl c.lay_out_store.ensures c.lay_out_desk.ensures)
