-- The desk as bytes: its header, the copied bytes and the mark words, each read and written. n is the inode count.
use Rattle.std.specs.Prelude.{ℕ, ◌*◌, Bool, ◌&&◌, List, eqb, leb}
use Rattle.octets.specs.Octets.{num_at, put_num, zeroed}
use Rattle.marks.specs.Mark.{marked, with_mark, without_mark}
use Rattle.desk.specs.Sizes.{desk_header_bytes, desk_inode_bytes, copied_at, marks_at}
use Rattle.desk.specs.declared.Desk.{Desk}

-- "0-1 N; 2-3 image block count; 4 state; 6-7 locked inode; 8-9 blocks of it copied so far; 12-15 accepted steps of this copy"
unfoldable pub desk_of : List ℕ → Desk
desk_of desk = record {
  inodes = num_at 2 desk 0;
  blocks = num_at 2 desk 2;
  state = num_at 1 desk 4;
  locked = num_at 2 desk 6;
  transferred = num_at 2 desk 8;
  steps = num_at 4 desk 12;
}

-- bytes 5, 10 and 11 stay
unfoldable pub put_desk : List ℕ → Desk → List ℕ
put_desk desk h =
    put_num 4 (put_num 2 (put_num 2 (put_num 1 (put_num 2 (put_num 2 desk 0 h.inodes) 2 h.blocks) 4 h.state) 6 h.locked) 8 h.transferred) 12 h.steps

-- "the rest 0": bytes 5, 10 and 11
unfoldable pub desk_rest_zero : List ℕ → Bool
desk_rest_zero desk = eqb (num_at 1 desk 5) 0 && eqb (num_at 2 desk 10) 0

-- the copied byte of inode i
unfoldable pub copied_of : List ℕ → ℕ → ℕ
copied_of desk i = num_at 1 desk (copied_at i)

-- inode i, from 1 to n, is copied
unfoldable pub is_copied : List ℕ → ℕ → ℕ → Bool
is_copied desk n i = leb 1 i && (leb i n && eqb (copied_of desk i) 1)

unfoldable pub put_copied : List ℕ → ℕ → ℕ → List ℕ
put_copied desk i v = put_num 1 desk (copied_at i) v

-- the mark word of directory i
unfoldable pub marks_of : List ℕ → ℕ → ℕ → ℕ
marks_of desk n i = num_at 8 desk (marks_at n i)

unfoldable pub put_marks : List ℕ → ℕ → ℕ → ℕ → List ℕ
put_marks desk n i w = put_num 8 desk (marks_at n i) w

-- the mark of slot t of directory i: read, set and cleared
unfoldable pub mark_of : List ℕ → ℕ → ℕ → ℕ → Bool
mark_of desk n i t = marked (marks_of desk n i) t

unfoldable pub set_mark : List ℕ → ℕ → ℕ → ℕ → List ℕ
set_mark desk n i t = put_marks desk n i (with_mark (marks_of desk n i) t)

unfoldable pub clear_mark : List ℕ → ℕ → ℕ → ℕ → List ℕ
clear_mark desk n i t = put_marks desk n i (without_mark (marks_of desk n i) t)

-- no inode copied, no entry marked
unfoldable pub clear_notes : List ℕ → ℕ → List ℕ
clear_notes desk n = zeroed desk desk_header_bytes (desk_inode_bytes * n)
