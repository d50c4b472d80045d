use Rattle.text.proofs.PutLaws.{put_same, put_length, put_none, put_more, no_bytes, some_bytes}
use Rattle.io.specs.Digits.{last_digits}
use Rattle.std.proofs.Common.{rules, ℕ, ap}
use native.Mathlib.Omega.{arith}
use mathlib.Core.Path.{refl, ◌∙◌}
use Rattle.text.proofs.put.put_bytes.Goals as goal

pub returns-then-is_empty : goal.returns-then-is_empty
returns-then-is_empty c = record { put = put_same _ _ _ _ _ _ (no_bytes c.args.bytes.now (search rules)) c.put.ensures; upper_bound = omega (arith, c.put.ensures.ends) }

pub loop-x-init : goal.loop-x-init
loop-x-init c = (omega arith, refl, put_none (last_digits 16 2) _ _ c.args.bytes.now)

pub put_hex-e-requires : goal.put_hex-e-requires
put_hex-e-requires c = (omega arith, omega arith, omega arith, omega (arith, c.type_inv.bytes c.loop-x.x-index, c.from.ensures))

pub loop-x-preserved : goal.loop-x-preserved
loop-x-preserved c = let i = c.loop-x in (
  omega (arith, c.put_hex-e.ensures.value),
  put_length _ _ _ _ _ c.put_hex-e.ensures.put ∙ i.invariant.1,
  put_more (last_digits 16 2) _ _ _ _ _ _ i.x-index c.args.bytes.now (omega arith) i.invariant.2 (put_same _ _ _ _ _ _ (ap (λ (n : ℕ). last_digits 16 2 n) c.from.ensures) c.put_hex-e.ensures.put),
)

pub returns : goal.returns
returns c = let i = c.loop-x in record { put = put_same _ _ _ _ _ _ (some_bytes c.args.bytes.now i.x-index (search rules) (omega arith)) i.invariant.2; upper_bound = omega arith }
