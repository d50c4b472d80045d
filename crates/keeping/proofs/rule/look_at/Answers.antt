use Prim.Native.Nat.{ℕ, ◌+◌, ◌-◌, ◌<◌}
use mathlib.Core.Path.{◌≡◌, sym, ap, subst, ◌∙◌}
use mathlib.Core.Bool.{Bool, not}
use mathlib.Core.List.{List}
use native.Mathlib.Omega.{arith}
use lib.ListN.{length}
use Rattle.bounded.specs.Count.{one}
use Rattle.keeping.specs.Keeping.{looked_at}
use Rattle.keeping.specs.Days.{day_bits, NotedFrom, look_flags}
use Rattle.keeping.proofs.LoopLaws.{byte_one, FilledFrom, fill_begin, fill_more, fill_end}
use Rattle.keeping.proofs.MapLaws.{one_noted, looks}
use borrow.Author.Rules.{rules}
use Rattle.keeping.proofs.rule.look_at.Goals as goal

pub loop-i-init : goal.loop-i-init
loop-i-init c = (omega arith, search rules, fill_begin _ _ _)

pub noted-requires : goal.noted-requires
noted-requires c =
    let h = c.requires.copies_fit (c.loop-i.i - 1) (omega arith) in
    let e = c.from-day.ensures in
    omega arith

pub bounds-out-i : goal.bounds-out-i
bounds-out-i c =
    let l = c.loop-i.invariant.2.long in
    let h = c.requires.room in
    omega arith

pub note-requires : goal.note-requires
note-requires c =
    let h = c.requires.copies_fit (c.loop-i.i - 1) (omega arith) in
    let e = c.from-day.ensures in
    omega arith

pub loop-i-preserved : goal.loop-i-preserved
loop-i-preserved c =
    let i = c.loop-i in
    let a = c.args in
    let l = a.days.now in
    let k = i.i - 1 in
    let e : i.i ≡ k + 1 = omega arith in
    let h = c.requires.copies_fit k (omega arith) in
    let d = c.from-day.ensures in
    let b : c.from-day.result < day_bits = omega arith in
    let m = subst (λ (n : ℕ). NotedFrom l n i.map) e i.invariant.1 in
    let f = subst (λ (n : ℕ). FilledFrom (λ j. one (looked_at l j)) (length l) n a.out.now i.out) e i.invariant.2 in (
      omega arith,
      subst (λ (s : List ℕ). NotedFrom l k s) (sym c.note.ensures) (one_noted l k c.from-day.result i.map (omega arith) c.from-day.ensures b m),
      fill_more (λ j. one (looked_at l j)) (length l) k _ a.out.now i.out c.requires.room (omega arith)
          (c.from.ensures ∙ byte_one _ ∙ ap (λ (b : Bool). one (not b)) c.noted.ensures ∙ ap one (looks l k c.from-day.result i.map c.from-day.ensures b m)) f,
    )

pub shape_of-out : goal.shape_of-out
shape_of-out c = c.loop-i.invariant.2.long

pub returns : goal.returns
unfolding look_flags
returns c =
    let i = c.loop-i in
    let a = c.args in
    let l = a.days.now in
    let e : i.i ≡ 0 = omega arith in record {
      noted_from = subst (λ (n : ℕ). NotedFrom l n i.map) e i.invariant.1;
      out_after = fill_end (λ j. one (looked_at l j)) (length l) a.out.now i.out c.requires.room
          (subst (λ (n : ℕ). FilledFrom (λ j. one (looked_at l j)) (length l) n a.out.now i.out) e i.invariant.2);
    }
