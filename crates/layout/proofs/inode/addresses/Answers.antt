use Rattle.std.proofs.Common.{rules}
use borrow.Author.Tests.{tests}
use Rattle.layout.specs.Inode.{address_of, address_index, addresses_of}
use Rattle.layout.proofs.RangeLaws.{made_table}
use Rattle.layout.proofs.inode.addresses.Goals as goal

pub returns : goal.returns
unfolding addresses_of
returns c = let a = c.args in made_table _ _ (λ k. address_of a.s.now a.n (address_index a.i k)) _ (λ x r q k. search (rules, tests)) 12 c.from_fn.ensures.items
