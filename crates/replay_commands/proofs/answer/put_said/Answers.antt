use Rattle.text.proofs.PutLaws.{put_on, put_same, put_length, put_none, put_more}
use Rattle.replay_commands.specs.Line.{number_text}
use Rattle.text.specs.Put.{each}
use Rattle.std.proofs.Common.{arith, ap, refl, List, ℕ}
use lib.Seq.{take_all}
use Rattle.replay_commands.proofs.answer.put_said.Goals as goal

pub loop-n-init : goal.loop-n-init
loop-n-init c = let p = c.put-e.ensures in (omega (arith, p.ends), refl, put_none number_text _ _ c.args.numbers.now)

pub loop-n-preserved : goal.loop-n-preserved
loop-n-preserved c = let i = c.loop-n in let p = c.put_numbered-e.ensures in (
  omega (arith, p.upper_bound),
  omega (arith, put_length _ _ _ _ _ p.put),
  put_more number_text _ _ _ _ _ _ i.n-index c.args.numbers.now (omega arith) i.invariant.2 p.put,
)

pub put_numbered-e-requires : goal.put_numbered-e-requires
put_numbered-e-requires c = omega (arith, put_length _ _ _ _ _ c.put-e.ensures)

pub returns : goal.returns
returns c = let i = c.loop-n in record {
  put = put_on _ _ _ _ _ _ _ _ c.put-e.ensures (put_same _ _ _ _ _ _ (ap (λ (l : List ℕ). each number_text l) (take_all i.n-index c.args.numbers.now (omega arith))) i.invariant.2);
  upper_bound = omega arith;
}
