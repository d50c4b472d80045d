use Rattle.std.proofs.Common.{ℕ, sym, ap, ◌∙◌, eqb, arith, ne_eqb}
use Rattle.image.proofs.CutLaws.{names_other, names_none, names_there}
use Rattle.image.proofs.cut.is_named.Goals as goal
use Rattle.image.proofs.cut.is_named.Goals.{then-kind-ne-DIRECTORY-via-then-kind-ne-DIRECTORY, then-kind-ne-DIRECTORY-via-else-kind-ne-DIRECTORY+then-kth_block-eq0}

pub returns-then-kind-ne-DIRECTORY : goal.returns-then-kind-ne-DIRECTORY
returns-then-kind-ne-DIRECTORY c = elim c.then-kind-ne-DIRECTORY.branch [
  | then-kind-ne-DIRECTORY-via-then-kind-ne-DIRECTORY w ↦ sym (ne_eqb _ _ (λ q. let z = names_other c.args.m.now c.args.n c.args.e c.args.t (λ k. w.if-kind-ne-DIRECTORY.true (c.kind.ensures ∙ k)) in omega (arith, c.requires.4)))
  | then-kind-ne-DIRECTORY-via-else-kind-ne-DIRECTORY+then-kth_block-eq0 w ↦ sym (ne_eqb _ _ (λ q. let z = names_none c.args.m.now c.args.n c.args.e c.args.t (omega arith) (sym w.kth_block.ensures ∙ w.if-kth_block-eq0.true) in omega (arith, c.requires.4)))
]

pub returns : goal.returns
returns c = ap (λ (x : ℕ). eqb x c.args.i) (names_there _ _ _ _ (omega arith) _ _ (λ z. c.if-kth_block-eq0.false (c.kth_block.ensures ∙ z)) c.image_slot-o.ensures.0 c.entry_inode.ensures)
