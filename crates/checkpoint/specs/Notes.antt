-- "While the copy runs, create, link and move set the new entry's mark, and unlink and move clear the old one". m is the image, n the inode count, e a directory.
use Rattle.std.specs.Prelude.{ℕ, Bool, not, ◌&&◌, List, [], ◌∷◌, eqb}
use Rattle.bounded.specs.Search.{pick}
use Rattle.desk.specs.Desk.{is_copied, set_mark, clear_mark}
use Rattle.directory.specs.Slot.{clear_entry}
use Rattle.files.specs.Effect.{Entry}
use Rattle.checkpoint.specs.Fit.{is_running}
use Rattle.checkpoint.specs.Image.{slot_names}

-- an entry was made in slot t of e
unfoldable pub note_made : List ℕ → ℕ → ℕ → ℕ → List ℕ
note_made desk n e t = pick (is_running desk) (set_mark desk n e t) desk

-- an entry was taken from slot t of e
unfoldable pub note_taken : List ℕ → ℕ → ℕ → ℕ → List ℕ
note_taken desk n e t = pick (is_running desk) (clear_mark desk n e t) desk

-- "If unlink or move takes inode i from slot s of directory d, d is copied, i is not, d is of kind 2 in the image, and image slot s of d names i, those 16 image bytes become zero"
unfoldable pub cuts_image : List ℕ → List ℕ → ℕ → ℕ → ℕ → ℕ → Bool
cuts_image m desk n e t i = is_running desk && (is_copied desk n e && (not (is_copied desk n i) && eqb (slot_names m n e t) i))

unfoldable pub cut_image : List ℕ → List ℕ → ℕ → ℕ → ℕ → ℕ → List ℕ
cut_image m desk n e t i = pick (cuts_image m desk n e t i) (clear_entry m n e t) m

-- ---- the same for the entries that a call takes out, and those that it makes
unfoldable pub cut_entries : List ℕ → List ℕ → ℕ → List Entry → List ℕ
cut_entries m desk n [] = m
cut_entries m desk n (x ∷ xs) = cut_entries (cut_image m desk n x.directory x.slot x.inode) desk n xs

unfoldable pub clear_marks : List ℕ → ℕ → List Entry → List ℕ
clear_marks desk n [] = desk
clear_marks desk n (x ∷ xs) = clear_marks (note_taken desk n x.directory x.slot) n xs

unfoldable pub set_marks : List ℕ → ℕ → List Entry → List ℕ
set_marks desk n [] = desk
set_marks desk n (x ∷ xs) = set_marks (note_made desk n x.directory x.slot) n xs
