use Rattle.text.proofs.HexLaws.{count_within, bytes_none, bytes_more, taken_bytes, taken_none}
use Rattle.std.proofs.Common.{◌+◌, ◌*◌}
use lib.ListN.{length-set}
use native.Mathlib.Omega.{arith}
use mathlib.Core.Path.{refl}
use Rattle.text.proofs.hex.take_hex.Goals as goal

pub returns-in_default : goal.returns-in_default
returns-in_default c = taken_none _ _ _ c.hex_count.ensures c.in_default.is

pub loop-k-init : goal.loop-k-init
loop-k-init c = let w = count_within _ _ _ _ c.hex_count.ensures c.in-Some.is in (omega arith, w.0, w.1, refl, bytes_none _ _)

pub digit-requires : goal.digit-requires
digit-requires c = (count_within _ _ _ _ c.hex_count.ensures c.in-Some.is).2 (2 * c.loop-k.k) (omega arith)

pub digit-requires-in-loop-k : goal.digit-requires-in-loop-k
digit-requires-in-loop-k c = (count_within _ _ _ _ c.hex_count.ensures c.in-Some.is).2 (2 * c.loop-k.k + 1) (omega arith)

pub loop-k-preserved : goal.loop-k-preserved
loop-k-preserved c = let i = c.loop-k in let a = c.args in (omega arith, i.invariant.1, i.invariant.2, rw length-set i.invariant.3, bytes_more a.s.now a.out.now _ i.k _ _ i.invariant.4 c.digit.ensures c.digit-in-loop-k.ensures)

pub returns : goal.returns
returns c = let i = c.loop-k in taken_bytes _ _ _ c.hex_count.ensures _ i.k _ c.in-Some.is (omega arith) i.invariant.4
