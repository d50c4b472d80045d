use Rattle.text.proofs.PutLaws.{put_same, hex_digits}
use Rattle.io.specs.Digits.{last_digits}
use Prim.Native.Nat.{ℕ}
use mathlib.Core.Path.{ap, ◌∙◌}
use native.Mathlib.Omega.{arith}
use Rattle.text.proofs.put.put_hex.Goals as goal

pub put-requires : goal.put-requires
put-requires c = omega (arith, hex_digits c.args.n c.args.k c.hex-m.result (omega arith) (omega arith) c.requires.3 c.hex-m.ensures.len, c.hex-m.ensures.in_bounds)

pub returns : goal.returns
returns c = let d = c.hex-m in let a = c.args in let e = hex_digits a.n a.k d.result (omega arith) (omega arith) c.requires.3 d.ensures.len in record { put = put_same _ _ _ _ _ _ (d.ensures.digits ∙ ap (λ (m : ℕ). last_digits 16 m a.n) e) c.put.ensures; value = omega (arith, e, d.ensures.in_bounds, c.put.ensures.ends) }
