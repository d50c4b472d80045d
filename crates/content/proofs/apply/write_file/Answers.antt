use mathlib.Core.Path.{◌∙◌}
use native.Mathlib.Omega.{arith}
use Rattle.preservation.proofs.StoreLaws.{kind_size}
use Rattle.content.specs.Apply.{written}
use Rattle.content.proofs.PlanFacts.{writes}
use Rattle.content.proofs.WriteLaws.{sized_holds}
use Rattle.content.proofs.ReadLaws.{holds_fits}
use Rattle.content.proofs.apply.write_file.Goals as goal

pub extend-requires : goal.extend-requires
extend-requires c =
    let p = c.requires in
    let w = writes _ _ _ _ _ _ p.1 in
    let l = kind_size p.0 _ _ w.file in
    let z = w.size in
    let m = w.most in
    record { sound_store = (p.0, w.file); i_bound = (omega arith, omega arith, w.blocks) }

pub put_file-requires : goal.put_file-requires
put_file-requires c =
    let p = c.requires in
    let a = c.args in
    let w = writes _ _ _ _ _ _ p.1 in
    rw c.extend.ensures (holds_fits (sized_holds _ _ _ _ _ a.xs.now _ p.0 w))

pub returns : goal.returns
unfolding written
returns c = c.put_file.ensures ∙ rw c.extend.ensures
