use mathlib.Core.Bool.{true}
use borrow.Author.Tests.{not-true, not-false, tests}
use Rattle.layout.specs.Inode.{address_of, address_index}
use Rattle.blocks.specs.Block.{block_at, kth_by, further_of, address_block}
use Rattle.blocks.specs.Free.{long_but}
use Prim.Native.Nat.{ℕ, ◌+◌, ◌*◌, ◌-◌, ◌≤◌}
use mathlib.Core.Path.{subst, ◌≡◌, sym, ap, ◌∙◌}
use native.Mathlib.Omega.{arith}
use lib.ListN.{length}
use Rattle.layout.proofs.InodeLaws.{addresses_none}
use Rattle.blocks.proofs.KthLaws.{kth_direct, kth_none, kth_bare, bare_all, kth_behind}
use Rattle.blocks.proofs.MapLaws.{notes_none, notes_pass, notes_same, notes_then}
use borrow.Author.Rules.{rules}
use Rattle.blocks.proofs.free.note_blocks.Goals as goal

pub returns-then-addresses_zero : goal.returns-then-addresses_zero
returns-then-addresses_zero c =
    let z = addresses_none c.args.s.now c.args.n c.args.i (sym c.addresses_zero.ensures ∙ c.if-addresses_zero.true) in
    let long = long_but c.args.s.now c.args.l c.args.long c.args.i in
    notes_pass (kth_by long c.args.s.now c.args.n c.args.i) 0 44 _ _ (λ k l. let q : 0 + k ≡ k = omega arith in ap (kth_by long c.args.s.now c.args.n c.args.i) q ∙ bare_all long c.args.s.now c.args.n c.args.i z k l) (notes_none _ _)

pub note_each-requires-clause-few : goal.note_each-requires-clause-few
note_each-requires-clause-few c = λ k b l q.
    let e : b ≡ address_of c.args.s.now c.args.n (12 * (c.args.i - 1) + k) = search (rules, tests) in
    rw e (subst (λ (x : ℕ). x ≤ 4096) (kth_direct _ _ _ _ k (omega arith)) (c.requires.2 k (omega arith)))

pub returns-then-not-long_but : goal.returns-then-not-long_but
returns-then-not-long_but c =
    notes_pass _ 12 32 _ _ (λ k l. kth_none _ _ _ _ (12 + k) (sym c.long_but.ensures ∙ not-true _ c.if-not-long_but.true-raw) (omega arith)) (notes_same _ _ 12 _ _ (λ k l. kth_direct _ _ _ _ k l) (c.note_each.ensures (λ k. address_of c.args.s.now c.args.n (address_index c.args.i k)) (record { says = λ k b l r. search (rules, tests) })))

pub returns-then-a-lt1 : goal.returns-then-a-lt1
returns-then-a-lt1 c =
    notes_pass _ 12 32 _ _ (λ k l. kth_bare _ _ _ _ (12 + k) (sym (c.from-a.ensures ∙ c.address.ensures) ∙ omega arith) (omega arith) (omega arith)) (notes_same _ _ 12 _ _ (λ k l. kth_direct _ _ _ _ k l) (c.note_each.ensures (λ k. address_of c.args.s.now c.args.n (address_index c.args.i k)) (record { says = λ k b l r. search (rules, tests) })))

pub note_each-requires-2-clause-asked : goal.note_each-requires-2-clause-asked
note_each-requires-2-clause-asked c =
    let s = c.args.s.now in
    let n = c.args.n in
    let i = c.args.i in
    let p = c.requires in
    let long = long_but s c.args.l c.args.long i in
    let f : c.from-a.result ≡ address_block s n i = c.from-a.ensures ∙ c.address.ensures in
    let l : long ≡ true = sym c.long_but.ensures ∙ not-false _ c.if-not-long_but.false-raw in
    let m = subst (λ (x : ℕ). x ≤ 4096) (kth_direct long s n i 11 (omega arith)) (p.2 11 (omega arith)) in
    let few : n ≤ 256 = p.0.few in
    let low : 1 ≤ c.from-a.result = omega arith in
    let most : c.from-a.result ≤ 4096 = omega (arith, m) in
    let inside : block_at n c.from-a.result + 64 ≤ length s = rw f (p.3 l (λ z. omega arith)) in
    search rules

pub note_each-requires-2-clause-few : goal.note_each-requires-2-clause-few
note_each-requires-2-clause-few c = λ j b q r.
    let s = c.args.s.now in
    let n = c.args.n in
    let i = c.args.i in
    let long = long_but s c.args.l c.args.long i in
    let f : c.from-a.result ≡ address_block s n i = c.from-a.ensures ∙ c.address.ensures in
    let l : long ≡ true = sym c.long_but.ensures ∙ not-false _ c.if-not-long_but.false-raw in
    let e : b ≡ further_of s n c.from-a.result j = search (rules, tests) in
    rw (e, f) (subst (λ (x : ℕ). x ≤ 4096) (kth_behind long s n i j l) (c.requires.2 (12 + j) (omega arith)))

pub returns : goal.returns
returns c =
    let s = c.args.s.now in
    let n = c.args.n in
    let i = c.args.i in
    let e : c.from-a.result ≡ address_block s n i = (c.from-a.ensures ∙ c.address.ensures) in
    let long = long_but s c.args.l c.args.long i in
    let l : long ≡ true = sym c.long_but.ensures ∙ not-false _ c.if-not-long_but.false-raw in
    notes_then (kth_by long s n i) (λ k. address_of s n (address_index i k)) (further_of s n c.from-a.result) 12 32 _ _ _ (λ k q. kth_direct long s n i k q) (λ j q. kth_behind long s n i j l ∙ ap (λ (x : ℕ). further_of s n x j) (sym e)) (c.note_each.ensures (λ k. address_of c.args.s.now c.args.n (address_index c.args.i k)) (record { says = λ k b l r. search (rules, tests) })) (c.note_each-2.ensures (further_of c.args.s.now c.args.n c.from-a.result) (record { says = λ k b l r. search (rules, tests) }))
