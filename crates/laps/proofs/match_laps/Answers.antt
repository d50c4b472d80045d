use mathlib.Core.Path.{sym, ◌∙◌}
use Rattle.bounded.proofs.BoolLaws.{and-true, and_false_l, and_false_r}
use Rattle.laps.specs.Times.{allowed}
use Rattle.laps.specs.Walk.{lists}
use Rattle.laps.specs.Call.{room_for}
use Rattle.laps.proofs.CallLaws.{room_decides, refused_times, refused_room, done}
use Rattle.laps.proofs.match_laps.Goals as goal

pub returns-then-not-allowed : goal.returns-then-not-allowed
returns-then-not-allowed c = refused_times _ _ _ (and_false_l _ _ (sym c.allowed.ensures ∙ c.if-not-allowed.true))

pub returns-then-not-allowed-2 : goal.returns-then-not-allowed-2
returns-then-not-allowed-2 c = refused_times _ _ _ (and_false_r (allowed c.args.watch.now) _ (sym c.allowed-2.ensures ∙ c.if-not-allowed-2.true))

pub returns-then-not-room_for : goal.returns-then-not-room_for
returns-then-not-room_for c =
    let t = and-true _ _ (sym c.allowed.ensures ∙ c.if-not-allowed.false) (sym c.allowed-2.ensures ∙ c.if-not-allowed-2.false) in
    refused_room _ _ _ t (and_false_l _ _ (sym c.room_for.ensures ∙ c.if-not-room_for.true))

pub returns-then-not-room_for-2 : goal.returns-then-not-room_for-2
returns-then-not-room_for-2 c =
    let a = c.args in
    let t = and-true _ _ (sym c.allowed.ensures ∙ c.if-not-allowed.false) (sym c.allowed-2.ensures ∙ c.if-not-allowed-2.false) in
    refused_room _ _ _ t (and_false_r (room_for a.watch.now a.paired_watch.now a.alone_watch.now) _ (sym c.room_for-2.ensures ∙ c.if-not-room_for-2.true))

pub walk-requires : goal.walk-requires
walk-requires c =
    let a = c.args in
    (room_decides a.watch.now a.mat.now (lists a.paired_watch.now a.paired_mat.now a.alone_watch.now a.alone_mat.now)).to
    (and-true _ _ (sym c.room_for.ensures ∙ c.if-not-room_for.false) (sym c.room_for-2.ensures ∙ c.if-not-room_for-2.false))

pub returns : goal.returns
returns c =
    let t = and-true _ _ (sym c.allowed.ensures ∙ c.if-not-allowed.false) (sym c.allowed-2.ensures ∙ c.if-not-allowed-2.false) in
    let r = and-true _ _ (sym c.room_for.ensures ∙ c.if-not-room_for.false) (sym c.room_for-2.ensures ∙ c.if-not-room_for-2.false) in
    done _ _ _ t r _ _ c.walk.ensures.value c.walk.ensures.alone_mat_after
