use mathlib.Core.Path.{sym, ◌∙◌}
use native.Mathlib.Omega.{arith}
use Rattle.checker.proofs.EntryLaws.{cut_fits, barred, free_named, file_named, dir_named}
use Rattle.checker.proofs.entries.entry_named.Goals as goal

pub overflow_add-e : goal.overflow_add-e
overflow_add-e c = let a = c.args in omega (arith, cut_fits a.s.now a.n a.d a.t a.o c.requires)

pub slice_bounds-e-end : goal.slice_bounds-e-end
slice_bounds-e-end c = let a = c.args in omega (arith, cut_fits a.s.now a.n a.d a.t a.o c.requires)

pub returns-then-not-legal_entry : goal.returns-then-not-legal_entry
returns-then-not-legal_entry c =
    let a = c.args in
    barred a.s.now a.n a.d a.t a.o c.requires _ _ (c.from-i.ensures ∙ c.entry_inode.ensures) c.legal_entry.ensures c.then-not-legal_entry.either

pub returns-in-0 : goal.returns-in-0
returns-in-0 c =
    let a = c.args in
    free_named a.s.now a.n a.d a.t a.o c.requires _ _ (c.from-i.ensures ∙ c.entry_inode.ensures) c.legal_entry.ensures (sym c.kind.ensures ∙ c.in-0.is)

pub returns-in-2 : goal.returns-in-2
returns-in-2 c =
    let a = c.args in
    dir_named a.s.now a.n a.d a.t a.o c.requires _ _ (c.from-i.ensures ∙ c.entry_inode.ensures) c.legal_entry.ensures
    c.if-not-legal_entry.false c.if-i-lt1.false c.if-n-i.false c.if-i-eq-ROOT.false
    _ (c.from.ensures ∙ c.parent.ensures) (sym c.kind.ensures ∙ c.in-2.is)

pub returns-in_default : goal.returns-in_default
returns-in_default c =
    let a = c.args in
    file_named a.s.now a.n a.d a.t a.o c.requires _ _ (c.from-i.ensures ∙ c.entry_inode.ensures) c.legal_entry.ensures
    c.if-not-legal_entry.false c.if-i-lt1.false c.if-n-i.false c.if-i-eq-ROOT.false
    (λ e. omega (arith, c.kind.ensures)) (λ e. omega (arith, c.kind.ensures))
