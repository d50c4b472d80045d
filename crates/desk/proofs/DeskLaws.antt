-- What each reader of the desk gives after each writer, and writers that follow each other. No later proof looks at an offset.
use Prim.Native.Nat.{ℕ, ◌+◌, ◌*◌, ◌-◌, ◌≤◌, ◌<◌}
use mathlib.Core.Path.{◌≡◌, refl, ap, ◌∙◌}
use mathlib.Core.Bool.{true, false}
use mathlib.Core.List.{List}
use mathlib.Core.Logic.{◌≢◌}
use native.Mathlib.Omega.{arith}
use lib.ListN.{length, replicate, get_or-replicate, length-replicate}
use Rattle.bounded.specs.Reflect.{Reflects}
use Rattle.bounded.proofs.ReflectLaws.{r_and, r_le, r_eq}
use Rattle.octets.specs.Octets.{splice, Apart, num_at, to_bytes, put_num, zeroed}
use Rattle.octets.proofs.PartLaws.{length_zeroed, apart_within}
use Rattle.octets.proofs.NumLaws.{num_apart, num_in, zero_num, length_num, num_same, num_other, num_twice, num_swap, num_off, num_stands}
use Rattle.marks.specs.Mark.{marked, with_mark, without_mark}
use Rattle.marks.proofs.MarkLaws.{with_same, with_other, without_other, mark_none}
use Rattle.layout.specs.Sizes.{most_inodes}
use Rattle.desk.specs.Sizes.{desk_header_bytes, desk_inode_bytes, mark_bytes, desk_length, desk_allowed, copied_at, marks_at}
use Rattle.desk.specs.Desk.{desk_of, put_desk, desk_rest_zero, copied_of, put_copied, marks_of, put_marks, mark_of, set_mark, clear_mark, clear_notes}
use Rattle.desk.specs.declared.Desk.{Desk}

-- what the test of a desk's length says
pub desk_allowed_lem : (n k : ℕ) → Reflects (desk_allowed n k) ((1 ≤ n) × ((n ≤ most_inodes) × (k ≡ desk_length n)))
unfolding desk_allowed
desk_allowed_lem n k = r_and (r_le 1 n) (r_and (r_le n most_inodes) (r_eq k (desk_length n)))

-- ---- lengths
pub length_put_desk : (d : List ℕ) (h : Desk) → length (put_desk d h) ≡ length d
unfolding put_desk
length_put_desk d h = simp length_num

pub length_put_copied : (d : List ℕ) (i v : ℕ) → length (put_copied d i v) ≡ length d
unfolding put_copied
length_put_copied d i v = length_num 1 d (copied_at i) v

pub length_put_marks : (d : List ℕ) (n i w : ℕ) → length (put_marks d n i w) ≡ length d
unfolding put_marks
length_put_marks d n i w = length_num 8 d (marks_at n i) w

pub length_set_mark : (d : List ℕ) (n i t : ℕ) → length (set_mark d n i t) ≡ length d
unfolding set_mark
length_set_mark d n i t = length_put_marks d n i (with_mark (marks_of d n i) t)

pub length_clear_mark : (d : List ℕ) (n i t : ℕ) → length (clear_mark d n i t) ≡ length d
unfolding clear_mark
length_clear_mark d n i t = length_put_marks d n i (without_mark (marks_of d n i) t)

pub length_clear_notes : (d : List ℕ) (n : ℕ) → length (clear_notes d n) ≡ length d
unfolding clear_notes
length_clear_notes d n = length_zeroed d desk_header_bytes (desk_inode_bytes * n)

-- ---- one field written over a header
module _ (d : List ℕ) (h : Desk) (v : ℕ) where
  over_inodes : put_num 2 (put_desk d h) 0 v ≡ put_desk d (record { inodes = v; blocks = h.blocks; state = h.state; locked = h.locked; transferred = h.transferred; steps = h.steps })
  unfolding put_desk
  over_inodes =
      rw (num_swap 4 2 12 0 (omega arith), num_swap 2 2 8 0 (omega arith), num_swap 2 2 6 0 (omega arith), num_swap 1 2 4 0 (omega arith), num_swap 2 2 2 0 (omega arith), num_twice)

  over_blocks : put_num 2 (put_desk d h) 2 v ≡ put_desk d (record { inodes = h.inodes; blocks = v; state = h.state; locked = h.locked; transferred = h.transferred; steps = h.steps })
  unfolding put_desk
  over_blocks =
      rw (num_swap 4 2 12 2 (omega arith), num_swap 2 2 8 2 (omega arith), num_swap 2 2 6 2 (omega arith), num_swap 1 2 4 2 (omega arith), num_twice)

  over_state : put_num 1 (put_desk d h) 4 v ≡ put_desk d (record { inodes = h.inodes; blocks = h.blocks; state = v; locked = h.locked; transferred = h.transferred; steps = h.steps })
  unfolding put_desk
  over_state = rw (num_swap 4 1 12 4 (omega arith), num_swap 2 1 8 4 (omega arith), num_swap 2 1 6 4 (omega arith), num_twice)

  over_locked : put_num 2 (put_desk d h) 6 v ≡ put_desk d (record { inodes = h.inodes; blocks = h.blocks; state = h.state; locked = v; transferred = h.transferred; steps = h.steps })
  unfolding put_desk
  over_locked = rw (num_swap 4 2 12 6 (omega arith), num_swap 2 2 8 6 (omega arith), num_twice)

  over_transferred : put_num 2 (put_desk d h) 8 v ≡ put_desk d (record { inodes = h.inodes; blocks = h.blocks; state = h.state; locked = h.locked; transferred = v; steps = h.steps })
  unfolding put_desk
  over_transferred = rw (num_swap 4 2 12 8 (omega arith), num_twice)

  over_steps : put_num 4 (put_desk d h) 12 v ≡ put_desk d (record { inodes = h.inodes; blocks = h.blocks; state = h.state; locked = h.locked; transferred = h.transferred; steps = v })
  unfolding put_desk
  over_steps = rw num_twice

fields : (s : List ℕ) (h : Desk) → put_desk s h ≡ put_num 4 (put_num 2 (put_num 2 (put_num 1 (put_num 2 (put_num 2 s 0 h.inodes) 2 h.blocks) 4 h.state) 6 h.locked) 8 h.transferred) 12 h.steps
unfolding put_desk
fields s h = refl

-- ---- a header is read back
pub desk_put_desk : (d : List ℕ) (h : Desk) → desk_header_bytes ≤ length d → desk_of (put_desk d h) ≡ h
unfolding desk_of
desk_put_desk d h f =
    let n = length_put_desk d h in
    λ i. record {
      inodes = num_stands 2 (put_desk d h) 0 h.inodes (omega arith) (omega arith) (over_inodes d h h.inodes) i;
      blocks = num_stands 2 (put_desk d h) 2 h.blocks (omega arith) (omega arith) (over_blocks d h h.blocks) i;
      state = num_stands 1 (put_desk d h) 4 h.state (omega arith) (omega arith) (over_state d h h.state) i;
      locked = num_stands 2 (put_desk d h) 6 h.locked (omega arith) (omega arith) (over_locked d h h.locked) i;
      transferred = num_stands 2 (put_desk d h) 8 h.transferred (omega arith) (omega arith) (over_transferred d h h.transferred) i;
      steps = num_stands 4 (put_desk d h) 12 h.steps (omega arith) (omega arith) (over_steps d h h.steps) i;
    }

-- ---- beside the header's fields, a header changes nothing
beside : (d : List ℕ) (h : Desk) (k o : ℕ) → Apart o k 0 5 → Apart o k 6 4 → Apart o k 12 4 → num_at k (put_desk d h) o ≡ num_at k d o
unfolding put_desk
beside d h k o a b c =
    rw (
      num_off k 4 o 12 c,
      num_off k 2 o 8 (apart_within o k 6 4 8 2 b (omega arith) (omega arith)),
      num_off k 2 o 6 (apart_within o k 6 4 6 2 b (omega arith) (omega arith)),
      num_off k 1 o 4 (apart_within o k 0 5 4 1 a (omega arith) (omega arith)),
      num_off k 2 o 2 (apart_within o k 0 5 2 2 a (omega arith) (omega arith)),
      num_off k 2 o 0 (apart_within o k 0 5 0 2 a (omega arith) (omega arith)),
    )

pub reserved_put_desk : (d : List ℕ) (h : Desk) → desk_rest_zero (put_desk d h) ≡ desk_rest_zero d
unfolding desk_rest_zero
reserved_put_desk d h = rw (beside d h 1 5 (omega arith) (omega arith) (omega arith), beside d h 2 10 (omega arith) (omega arith) (omega arith))

pub copied_put_desk : (d : List ℕ) (h : Desk) (i : ℕ) → copied_of (put_desk d h) i ≡ copied_of d i
unfolding copied_of
copied_put_desk d h i = beside d h 1 (copied_at i) (omega arith) (omega arith) (omega arith)

pub marks_put_desk : (d : List ℕ) (h : Desk) (n i : ℕ) → marks_of (put_desk d h) n i ≡ marks_of d n i
unfolding marks_of
marks_put_desk d h n i = beside d h 8 (marks_at n i) (omega arith) (omega arith) (omega arith)

pub mark_put_desk : (d : List ℕ) (h : Desk) (n i t : ℕ) → mark_of (put_desk d h) n i t ≡ mark_of d n i t
unfolding mark_of
mark_put_desk d h n i t = rw marks_put_desk

-- ---- past the header, no write changes it
module _ (d : List ℕ) (p : ℕ) (xs : List ℕ) (past : desk_header_bytes ≤ p) where
  desk_past : desk_of (splice d p xs) ≡ desk_of d
  unfolding desk_of
  desk_past =
      cc (
        num_apart 2 d 0 p xs (omega arith),
        num_apart 2 d 2 p xs (omega arith),
        num_apart 1 d 4 p xs (omega arith),
        num_apart 2 d 6 p xs (omega arith),
        num_apart 2 d 8 p xs (omega arith),
        num_apart 4 d 12 p xs (omega arith),
      )

  reserved_past : desk_rest_zero (splice d p xs) ≡ desk_rest_zero d
  unfolding desk_rest_zero
  reserved_past = rw (num_apart 1 d 5 p xs (omega arith), num_apart 2 d 10 p xs (omega arith))

pub desk_put_marks : (d : List ℕ) (n i w : ℕ) → desk_of (put_marks d n i w) ≡ desk_of d
unfolding put_marks put_num
desk_put_marks d n i w = desk_past d (marks_at n i) (to_bytes 8 w) (omega arith)

pub desk_set_mark : (d : List ℕ) (n i t : ℕ) → desk_of (set_mark d n i t) ≡ desk_of d
unfolding set_mark
desk_set_mark d n i t = desk_put_marks d n i (with_mark (marks_of d n i) t)

pub desk_clear_mark : (d : List ℕ) (n i t : ℕ) → desk_of (clear_mark d n i t) ≡ desk_of d
unfolding clear_mark
desk_clear_mark d n i t = desk_put_marks d n i (without_mark (marks_of d n i) t)

pub reserved_put_copied : (d : List ℕ) (i v : ℕ) → desk_rest_zero (put_copied d i v) ≡ desk_rest_zero d
unfolding put_copied put_num
reserved_put_copied d i v = reserved_past d (copied_at i) (to_bytes 1 v) (omega arith)

pub reserved_put_marks : (d : List ℕ) (n i w : ℕ) → desk_rest_zero (put_marks d n i w) ≡ desk_rest_zero d
unfolding put_marks put_num
reserved_put_marks d n i w = reserved_past d (marks_at n i) (to_bytes 8 w) (omega arith)

pub reserved_set_mark : (d : List ℕ) (n i t : ℕ) → desk_rest_zero (set_mark d n i t) ≡ desk_rest_zero d
unfolding set_mark
reserved_set_mark d n i t = reserved_put_marks d n i (with_mark (marks_of d n i) t)

pub reserved_clear_mark : (d : List ℕ) (n i t : ℕ) → desk_rest_zero (clear_mark d n i t) ≡ desk_rest_zero d
unfolding clear_mark
reserved_clear_mark d n i t = reserved_put_marks d n i (without_mark (marks_of d n i) t)

pub reserved_clear_notes : (d : List ℕ) (n : ℕ) → desk_rest_zero (clear_notes d n) ≡ desk_rest_zero d
unfolding clear_notes zeroed
reserved_clear_notes d n = reserved_past d desk_header_bytes (replicate (desk_inode_bytes * n) 0) (omega arith)

-- ---- copied bytes
pub copied_same : (d : List ℕ) (i v : ℕ) → 1 ≤ i → desk_header_bytes + i ≤ length d → copied_of (put_copied d i v) i ≡ v
unfolding copied_of put_copied
copied_same d i v l f = num_same 1 d (copied_at i) v (omega arith) (omega arith)

pub copied_other : (d : List ℕ) (i j v : ℕ) → 1 ≤ i → 1 ≤ j → j ≢ i → copied_of (put_copied d i v) j ≡ copied_of d j
unfolding copied_of put_copied
copied_other d i j v a b h = num_other 1 1 d (copied_at j) (copied_at i) v (omega arith)

pub copied_put_marks : (d : List ℕ) (n i j w : ℕ) → 1 ≤ j → j ≤ n → copied_of (put_marks d n i w) j ≡ copied_of d j
unfolding copied_of put_marks
copied_put_marks d n i j w a b = num_other 1 8 d (copied_at j) (marks_at n i) w (omega arith)

pub copied_set_mark : (d : List ℕ) (n i j t : ℕ) → 1 ≤ j → j ≤ n → copied_of (set_mark d n i t) j ≡ copied_of d j
unfolding set_mark
copied_set_mark d n i j t = copied_put_marks d n i j (with_mark (marks_of d n i) t)

pub copied_clear_mark : (d : List ℕ) (n i j t : ℕ) → 1 ≤ j → j ≤ n → copied_of (clear_mark d n i t) j ≡ copied_of d j
unfolding clear_mark
copied_clear_mark d n i j t = copied_put_marks d n i j (without_mark (marks_of d n i) t)

-- ---- mark words
pub marks_put_copied : (d : List ℕ) (n i j v : ℕ) → 1 ≤ i → i ≤ n → marks_of (put_copied d i v) n j ≡ marks_of d n j
unfolding marks_of put_copied
marks_put_copied d n i j v a b = num_other 8 1 d (marks_at n j) (copied_at i) v (omega arith)

pub marks_same : (d : List ℕ) (n i w : ℕ) → 1 ≤ i → i ≤ n → desk_length n ≤ length d → marks_of (put_marks d n i w) n i ≡ w
unfolding marks_of put_marks
marks_same d n i w a b f = num_same 8 d (marks_at n i) w (omega arith) (omega arith)

pub marks_other : (d : List ℕ) (n i j w : ℕ) → 1 ≤ i → 1 ≤ j → j ≢ i → marks_of (put_marks d n i w) n j ≡ marks_of d n j
unfolding marks_of put_marks
marks_other d n i j w a b h = num_other 8 8 d (marks_at n j) (marks_at n i) w (omega arith)

pub marks_set_mark_same : (d : List ℕ) (n i t : ℕ) → 1 ≤ i → i ≤ n → desk_length n ≤ length d → marks_of (set_mark d n i t) n i ≡ with_mark (marks_of d n i) t
unfolding set_mark
marks_set_mark_same d n i t = marks_same d n i (with_mark (marks_of d n i) t)

pub marks_set_mark_other : (d : List ℕ) (n i j t : ℕ) → 1 ≤ i → 1 ≤ j → j ≢ i → marks_of (set_mark d n i t) n j ≡ marks_of d n j
unfolding set_mark
marks_set_mark_other d n i j t = marks_other d n i j (with_mark (marks_of d n i) t)

pub marks_clear_mark_same : (d : List ℕ) (n i t : ℕ) → 1 ≤ i → i ≤ n → desk_length n ≤ length d → marks_of (clear_mark d n i t) n i ≡ without_mark (marks_of d n i) t
unfolding clear_mark
marks_clear_mark_same d n i t = marks_same d n i (without_mark (marks_of d n i) t)

pub marks_clear_mark_other : (d : List ℕ) (n i j t : ℕ) → 1 ≤ i → 1 ≤ j → j ≢ i → marks_of (clear_mark d n i t) n j ≡ marks_of d n j
unfolding clear_mark
marks_clear_mark_other d n i j t = marks_other d n i j (without_mark (marks_of d n i) t)

-- ---- single marks
pub mark_put_copied : (d : List ℕ) (n i j t v : ℕ) → 1 ≤ i → i ≤ n → mark_of (put_copied d i v) n j t ≡ mark_of d n j t
unfolding mark_of
mark_put_copied d n i j t v a b = ap (λ (w : ℕ). marked w t) (marks_put_copied d n i j v a b)

pub mark_set_mark_same : (d : List ℕ) (n i t : ℕ) → 1 ≤ i → i ≤ n → desk_length n ≤ length d → mark_of (set_mark d n i t) n i t ≡ true
unfolding mark_of
mark_set_mark_same d n i t a b f = ap (λ (w : ℕ). marked w t) (marks_set_mark_same d n i t a b f) ∙ with_same (marks_of d n i) t

pub mark_set_mark_slot : (d : List ℕ) (n i t u : ℕ) → 1 ≤ i → i ≤ n → desk_length n ≤ length d → u ≢ t → mark_of (set_mark d n i t) n i u ≡ mark_of d n i u
unfolding mark_of
mark_set_mark_slot d n i t u a b f h = ap (λ (w : ℕ). marked w u) (marks_set_mark_same d n i t a b f) ∙ with_other (marks_of d n i) t u h

pub mark_set_mark_other : (d : List ℕ) (n i j t u : ℕ) → 1 ≤ i → 1 ≤ j → j ≢ i → mark_of (set_mark d n i t) n j u ≡ mark_of d n j u
unfolding mark_of
mark_set_mark_other d n i j t u a b h = ap (λ (w : ℕ). marked w u) (marks_set_mark_other d n i j t a b h)

pub mark_clear_mark_slot : (d : List ℕ) (n i t u : ℕ) → 1 ≤ i → i ≤ n → desk_length n ≤ length d → t < 64 → u < 64 → u ≢ t → mark_of (clear_mark d n i t) n i u ≡ mark_of d n i u
unfolding mark_of
mark_clear_mark_slot d n i t u a b f l m h = ap (λ (w : ℕ). marked w u) (marks_clear_mark_same d n i t a b f) ∙ without_other (marks_of d n i) t u l m h

pub mark_clear_mark_other : (d : List ℕ) (n i j t u : ℕ) → 1 ≤ i → 1 ≤ j → j ≢ i → mark_of (clear_mark d n i t) n j u ≡ mark_of d n j u
unfolding mark_of
mark_clear_mark_other d n i j t u a b h = ap (λ (w : ℕ). marked w u) (marks_clear_mark_other d n i j t a b h)

-- ---- all notes cleared
module _ (d : List ℕ) (n : ℕ) (fits : desk_length n ≤ length d) where
  cleared : (k a : ℕ) → a + k ≤ desk_inode_bytes * n → num_at k (clear_notes d n) (desk_header_bytes + a) ≡ 0
  unfolding clear_notes zeroed
  cleared k a l =
      let e = length-replicate {A = ℕ} (desk_inode_bytes * n) 0 in
      num_in k d desk_header_bytes (replicate (desk_inode_bytes * n) 0) a (omega arith) (omega arith)
      ∙ zero_num k (replicate (desk_inode_bytes * n) 0) a (λ j b. get_or-replicate (desk_inode_bytes * n) (a + j) 0 0 (omega arith))

  pub copied_clear_notes : (i : ℕ) → 1 ≤ i → i ≤ n → copied_of (clear_notes d n) i ≡ 0
  unfolding copied_of
  copied_clear_notes i a b = cleared 1 (i - 1) (omega arith)

  pub marks_clear_notes : (i : ℕ) → 1 ≤ i → i ≤ n → marks_of (clear_notes d n) n i ≡ 0
  unfolding marks_of
  marks_clear_notes i a b =
      let e : marks_at n i ≡ desk_header_bytes + (n + mark_bytes * (i - 1)) = omega arith in
      ap (num_at 8 (clear_notes d n)) e ∙ cleared 8 (n + mark_bytes * (i - 1)) (omega arith)

  pub mark_clear_notes : (i t : ℕ) → 1 ≤ i → i ≤ n → mark_of (clear_notes d n) n i t ≡ false
  unfolding mark_of
  mark_clear_notes i t a b = ap (λ (w : ℕ). marked w t) (marks_clear_notes i a b) ∙ mark_none t

-- ---- writers that follow each other
