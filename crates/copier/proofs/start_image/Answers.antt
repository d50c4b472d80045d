use mathlib.Core.Path.{ap, ◌∙◌}
use mathlib.Core.List.{List}
use Prim.Native.Nat.{ℕ}
use native.Mathlib.Omega.{arith}
use Rattle.layout.specs.Sizes.{root_inode, not_complete}
use Rattle.layout.specs.Header.{put_header}
use Rattle.copier.proofs.StartLaws.{image_room, image_done}
use Rattle.copier.proofs.start_image.Goals as goal

pub overflow_cast-fresh-2 : goal.overflow_cast-fresh-2
overflow_cast-fresh-2 c = let p = c.requires in let a = image_room _ _ _ p.1 p.2 in let l = a.few in omega arith

pub write-requires : goal.write-requires
write-requires c = let p = c.requires in let a = image_room _ _ _ p.1 p.2 in let l = a.long in omega arith

pub returns : goal.returns
returns c = let a = c.args in
    c.write.ensures
    ∙ ap (λ (t : List ℕ). put_header t (record { inodes = a.n; blocks = a.b; free_inodes = 0; free_blocks = 0; complete = not_complete; root = root_inode })) (c.fill.ensures.after (λ y e. e))
    ∙ image_done a.m.now a.n a.b c.requires.2
