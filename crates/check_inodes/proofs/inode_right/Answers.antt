use Rattle.check_inodes.proofs.InodeLaws.{inode_stop, inode_named_lem, inode_end, free_right, zero_passed}
use Rattle.bounded.proofs.BoolLaws.{clash}
use Rattle.std.proofs.Common.{sym, ◌∙◌}
use Rattle.check_inodes.proofs.inode_right.Goals as goal
use Rattle.check_inodes.proofs.inode_right.Goals.{then-attributes_right, else-attributes_right}

pub returns-then-attributes_zero : goal.returns-then-attributes_zero
returns-then-attributes_zero c =
    let p = c.requires in
    let a = sym c.attributes_zero.ensures ∙ c.if-attributes_zero.true in
    let e = c.addresses_zero.ensures in
    (e ∙ free_right _ _ _ _ p.1.low a, λ q. zero_passed _ _ 0 _ p.1.low a (sym e ∙ q) _ p.2)

pub returns-then-addresses_right : goal.returns-then-addresses_right
returns-then-addresses_right c =
    elim c.if-attributes_right.branch [
      | then-attributes_right w ↦
          let a = sym c.attributes_right.ensures ∙ w.if-attributes_right.true in
          let y = w.addresses_right.ensures in
          let t = sym w.value-is ∙ c.if-addresses_right.true in
          (inode_end _ _ _ _ a (sym y.0 ∙ t) _ c.zero_tail.ensures, λ q. rw w.map-is (y.1 t))
      | else-attributes_right w ↦ absurd (clash _ c.if-addresses_right.true (w.value-is ∙ w.if-attributes_right.false))
    ]

pub returns-else-addresses_right : goal.returns-else-addresses_right
returns-else-addresses_right c = (
  elim c.if-attributes_right.branch [
    | then-attributes_right w ↦
        c.if-addresses_right.false
        ∙ sym (inode_named_lem _ _ _ _ (sym c.attributes_right.ensures ∙ w.if-attributes_right.true) (sym w.addresses_right.ensures.0 ∙ sym w.value-is ∙ c.if-addresses_right.false))
    | else-attributes_right w ↦ c.if-addresses_right.false ∙ sym (inode_stop _ _ _ _ (sym c.attributes_right.ensures ∙ w.if-attributes_right.false))
  ],
  λ t. absurd (clash _ t c.if-addresses_right.false),
)
