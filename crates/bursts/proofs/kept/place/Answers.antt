use Rattle.bursts.proofs.KeptLaws.{place_own, place_lowest}
use Rattle.bursts.proofs.kept.place.Goals as goal

pub returns-then-is_open : goal.returns-then-is_open
returns-then-is_open c = λ long m n k. place_own _ _ _ c.requires.1 long m n k _ c.is_open.ensures c.if-is_open.true

pub returns-else-is_open : goal.returns-else-is_open
returns-else-is_open c = λ long m n k. place_lowest _ _ _ c.requires.1 long m n k _ c.is_open.ensures c.if-is_open.false _ c.lowest.ensures
