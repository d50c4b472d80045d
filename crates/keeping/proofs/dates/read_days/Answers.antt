use Prim.Native.Nat.{ℕ}
use mathlib.Core.Path.{◌≡◌, refl, sym, subst, ◌∙◌}
use native.Mathlib.Omega.{arith}
use lib.ListN.{length, get_or}
use Rattle.bounded.specs.Table.{Tabulated}
use Rattle.bounded.proofs.BoolLaws.{never}
use Rattle.bounded.proofs.BelowLaws.{all_none, all_more, all_stopped, all_done}
use Rattle.bounded.proofs.TableLaws.{filled_none, filled_more}
use Rattle.calendar.proofs.DayLaws.{reckoned_none, reckoned_day}
use Rattle.keeping.specs.Call.{all_dates, day_at}
use Rattle.keeping.proofs.dates.read_days.Invariants.{dated}
use Rattle.keeping.proofs.dates.read_days.Goals as goal

pub loop-i-init : goal.loop-i-init
loop-i-init c = (omega arith, all_none _, filled_none _ _ _ refl)

pub returns-in_default : goal.returns-in_default
unfolding all_dates
returns-in_default c =
    let a = c.args in
    let i = c.loop-i in
    let l = a.dates.now in
    record {
      long = i.invariant.2.long;
      told = all_stopped (dated l) (length l) i.i (omega arith) (reckoned_none (get_or l i.i 0) (sym c.reckon.ensures ∙ c.in_default.is));
      days = never;
    }

pub loop-i-preserved : goal.loop-i-preserved
loop-i-preserved c =
    let a = c.args in
    let i = c.loop-i in
    let l = a.dates.now in
    let r = reckoned_day (get_or l i.i 0) c.in-Some.day (sym c.reckon.ensures ∙ c.in-Some.is) in
    (omega arith, all_more (dated l) i.i i.invariant.1 r.0, filled_more (day_at l) (length a.days.now) i.i _ i.days (omega arith) r.1 i.invariant.2)

pub shape_of-days : goal.shape_of-days
shape_of-days c = c.loop-i.invariant.2.long

pub returns : goal.returns
unfolding all_dates
returns c =
    let a = c.args in
    let i = c.loop-i in
    let l = a.dates.now in
    let e : i.i ≡ length l = omega arith in
    record {
      long = i.invariant.2.long;
      told = all_done (dated l) (length l) i.i (omega arith) (omega arith) i.invariant.1;
      days = λ t. subst (λ (k : ℕ). Tabulated (day_at l) (length a.days.now) k i.days) e i.invariant.2;
    }
