use mathlib.Core.Path.{◌≡◌, refl, sym, ap}
use mathlib.Core.Bool.{true, not}
use native.Mathlib.Omega.{arith}
use Rattle.blocks.proofs.MapLaws.{map_none}
use Rattle.sound.specs.declared.Form.{Form}
use Rattle.sound.specs.Sound.{blank_of}
use Rattle.checker.proofs.CheckLaws.{inodes_right, entries_right, links_right, body_all, body_headless, frame_sized, dir_fits, parents_closed}
use Rattle.bounded.proofs.BoolLaws.{or_l, or_end}
use Rattle.checker.proofs.body_right.Goals as goal

pub returns-then-not-header_right : goal.returns-then-not-header_right
returns-then-not-header_right c =
    let p = c.requires in
    body_headless c.args.form c.args.s.now p.1 p.2 (grind arith)

pub inodes_right-requires : goal.inodes_right-requires
inodes_right-requires c = let p = c.requires in (frame_sized _ p.0 p.1 p.2, map_none _)

pub entries_right-requires : goal.entries_right-requires
entries_right-requires c =
    let p = c.requires in
    let w = frame_sized _ p.0 p.1 p.2 in
    let l = w.long in
    let t : inodes_right c.args.s.now c.args.n c.args.b ≡ true = grind arith in
    (w.inodes, omega arith, dir_fits _ p.0 p.1 p.2 t, refl)

pub parents_right-requires : goal.parents_right-requires
parents_right-requires c =
    let p = c.requires in
    let w = frame_sized _ p.0 p.1 p.2 in
    let l = w.long in
    let o = p.0.some_inodes in
    let t : inodes_right c.args.s.now c.args.n c.args.b ≡ true = grind arith in
    let u : entries_right c.args.s.now c.args.n ≡ true = grind arith in
    let v : links_right c.args.s.now c.args.n ≡ true = grind arith in
    (omega arith, w.inodes, omega arith, parents_closed _ p.0 p.1 p.2 t u v)

pub returns-in-Store : goal.returns-in-Store
returns-in-Store c =
    let p = c.requires in
    body_all _ _ p.1 p.2 (grind arith) (grind arith) (grind arith) (grind arith) (grind arith) (grind arith) _ (sym (or_l _ _ (ap (λ (f : Form). not (blank_of f)) c.in-Store.is)))

pub returns-in-Image : goal.returns-in-Image
returns-in-Image c =
    let p = c.requires in
    body_all _ _ p.1 p.2 (grind arith) (grind arith) (grind arith) (grind arith) (grind arith) (grind arith) _ (or_end _ _ _ (ap (λ (f : Form). not (blank_of f)) c.in-Image.is) c.blanks_right.ensures)
