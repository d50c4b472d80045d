-- What two effects leave, one after another, is what their composition leaves; and the copy is in the way of one of them, or of none. d is the desk, m the image, n the inode count.
use Rattle.std.specs.Prelude.{Ok}
use Prim.Native.Nat.{ℕ}
use mathlib.Core.Path.{◌≡◌, refl, sym, ap, ap₂, ◌∙◌}
use mathlib.Core.Bool.{Bool, ◌||◌, or_assoc}
use mathlib.Core.List.{List, [], ◌∷◌, ◌++◌}
use Rattle.desk.specs.declared.Desk.{Desk}
use Rattle.desk.specs.Desk.{desk_of}
use Rattle.desk.specs.Next.{locks, locks_any}
use Rattle.sound.specs.Sound.{inodes_in}
use Rattle.files.specs.Effect.{Entry, Effect, does, and_then}
use Rattle.checkpoint.specs.Busy.{any_locked}
use Rattle.checkpoint.specs.Notes.{note_taken, cuts_image, cut_image, cut_entries, clear_marks, set_marks}
use Rattle.checkpoint.specs.Live.{World, left, world_in, leaves_in}
use Rattle.checkpoint.proofs.Call.CallNotes.{MarksAlone, same_copied, same_running, notes_then, cleared_notes, set_all_notes}

-- ---- two lists of entries
cut_append : (m d : List ℕ) (n : ℕ) (ys zs : List Entry) → cut_entries m d n (ys ++ zs) ≡ cut_entries (cut_entries m d n ys) d n zs
unfolding cut_entries
cut_append m d n [] zs = refl
cut_append m d n (y ∷ ys) zs = cut_append (cut_image m d n y.directory y.slot y.inode) d n ys zs

clear_append : (d : List ℕ) (n : ℕ) (ys zs : List Entry) → clear_marks d n (ys ++ zs) ≡ clear_marks (clear_marks d n ys) n zs
unfolding clear_marks
clear_append d n [] zs = refl
clear_append d n (y ∷ ys) zs = clear_append (note_taken d n y.directory y.slot) n ys zs

-- ---- the cut reads no mark
module _ {n : ℕ} {d e : List ℕ} (k : MarksAlone n d e) where
  cut_marks : (m : List ℕ) (ys : List Entry) → cut_entries m e n ys ≡ cut_entries m d n ys
  unfolding cut_entries cut_image cuts_image
  cut_marks m [] = refl
  cut_marks m (y ∷ ys) = rw (same_running k, same_copied k y.directory, same_copied k y.inode) (cut_marks (cut_image m d n y.directory y.slot y.inode) ys)

  -- nor does the test for 14
  pub busy_marks : (is : List ℕ) → any_locked e is ≡ any_locked d is
  busy_marks is = ap (λ (h : Desk). locks_any h is) k.head

-- ---- what is left
pub leaves_then : (w : World) (x y : Effect) → x.made ≡ [] → inodes_in x.store ≡ inodes_in w.store
    → leaves_in w (does (and_then x y)) ≡ leaves_in (world_in (leaves_in w (does x))) (does y)
unfolding set_marks
leaves_then w x y none same =
    let n = inodes_in w.store in
    let d = w.desk in
    let cleared = clear_marks d n x.taken in
    let noted = set_marks cleared n x.made in
    let marks : MarksAlone n d noted = notes_then (cleared_notes d n x.taken) (set_all_notes cleared n x.made) in
    let image : cut_entries w.image d n (x.taken ++ y.taken) ≡ cut_entries (cut_entries w.image d n x.taken) noted (inodes_in x.store) y.taken =
    cut_append w.image d n x.taken y.taken
    ∙ sym (cut_marks marks (cut_entries w.image d n x.taken) y.taken)
    ∙ ap (λ (i : ℕ). cut_entries (cut_entries w.image d n x.taken) noted i y.taken) (sym same) in
    let desk : set_marks (clear_marks d n (x.taken ++ y.taken)) n (x.made ++ y.made) ≡ set_marks (clear_marks noted (inodes_in x.store) y.taken) (inodes_in x.store) y.made =
    ap (λ (zs : List Entry). set_marks (clear_marks d n (x.taken ++ y.taken)) n (zs ++ y.made)) none
    ∙ ap (λ (e : List ℕ). set_marks e n y.made) (clear_append d n x.taken y.taken)
    ∙ ap (λ (zs : List Entry). set_marks (clear_marks (set_marks cleared n zs) n y.taken) n y.made) (sym none)
    ∙ ap (λ (i : ℕ). set_marks (clear_marks noted i y.taken) i y.made) (sym same) in
    ap₂ (left (Ok y.answer) y.store) image desk

-- ---- 14
pub busy_then : (d is js : List ℕ) → any_locked d (is ++ js) ≡ any_locked d is || any_locked d js
unfolding locks_any
busy_then d [] js = refl
busy_then d (i ∷ is) js = ap (λ (b : Bool). locks (desk_of d) i || b) (busy_then d is js) ∙ sym (or_assoc (locks (desk_of d) i) (any_locked d is) (any_locked d js))
