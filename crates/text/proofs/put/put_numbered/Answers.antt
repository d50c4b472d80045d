use Rattle.text.proofs.PutLaws.{put_on, put_same, decimal_digits, decimal_short}
use mathlib.Core.Path.{◌∙◌}
use native.Mathlib.Omega.{arith}
use Rattle.text.proofs.put.put_numbered.Goals as goal

pub put-requires : goal.put-requires
put-requires c = let d = c.decimal-k in omega (arith, decimal_short c.args.n d.result (omega arith) d.ensures.len, d.ensures.in_bounds, c.put-e.ensures.ends)

pub returns : goal.returns
returns c = let d = c.decimal-k in let n = c.args.n in record { put = put_on _ _ _ _ _ _ _ _ c.put-e.ensures (put_same _ _ _ _ _ _ (d.ensures.digits ∙ decimal_digits n d.result (omega arith) d.ensures.len) c.put.ensures); upper_bound = omega (arith, decimal_short n d.result (omega arith) d.ensures.len, d.ensures.in_bounds, c.put-e.ensures.ends, c.put.ensures.ends) }
