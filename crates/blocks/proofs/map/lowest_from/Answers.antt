use Rattle.std.proofs.Common.{refl, ◌-◌, rules}
use borrow.Author.Tests.{tests}
use Rattle.std.proofs.lemmas.Iterator.{YieldsList-from_range}
use Rattle.std.proofs.lemmas.Iterator.Search.{find_from_yields_List}
use Rattle.layout.proofs.RangeLaws.{found_listed}
use Rattle.blocks.specs.Map.{lacks}
use Rattle.blocks.proofs.map.lowest_from.Goals as goal

pub returns : goal.returns
returns c =
    found_listed (lacks c.args.map.now) c.args.first (c.args.end - c.args.first) _
    (find_from_yields_List (lacks c.args.map.now) _ _ c.find.result c.find.ensures.ran (YieldsList-from_range c.args.first c.args.end (c.args.end - c.args.first) refl refl)
    (λ x b q k. search (rules, tests)))
