-- What a file call writes in the desk: marks alone, at the places of the entries that it takes and makes. d is the desk, n the inode count.
use Prim.Native.Nat.{ℕ, ◌≤◌, ◌<◌}
use mathlib.Core.Path.{◌≡◌, refl, sym, ap, ◌∙◌, subst}
use mathlib.Core.Logic.{◌≢◌, inl, inr}
use mathlib.Core.Bool.{Bool, true, false, ◌&&◌}
use mathlib.Core.List.{List, [], ◌∷◌}
use native.Mathlib.Decide.{ℕ_discrete}
use native.Mathlib.Omega.{arith}
use borrow.Author.Tests.{leb-true}
use lib.Dec.{eqb, leb}
use lib.ListN.{length}
use Rattle.bounded.specs.Search.{pick}
use Rattle.bounded.proofs.EachLaws.{All, Some}
use Rattle.directory.specs.Slot.{most_slots}
use Rattle.desk.specs.Sizes.{desk_length}
use Rattle.desk.specs.Desk.{desk_of, desk_rest_zero, copied_of, mark_of, set_mark, clear_mark, is_copied}
use Rattle.desk.proofs.DeskLaws.{length_set_mark, length_clear_mark, desk_set_mark, desk_clear_mark, reserved_set_mark, reserved_clear_mark, copied_set_mark, copied_clear_mark, mark_set_mark_same, mark_set_mark_slot, mark_set_mark_other, mark_clear_mark_slot, mark_clear_mark_other}
use Rattle.sound.specs.Place.{place_of}
use Rattle.files.specs.Effect.{Entry, place_in}
use Rattle.files.proofs.Lawful.{Away}
use Rattle.checkpoint.specs.Fit.{is_running}
use Rattle.checkpoint.specs.Notes.{note_made, note_taken, cuts_image, cut_image, cut_entries, clear_marks, set_marks}

-- ---- the copy does not run
cut_idle : (m d : List ℕ) (n : ℕ) (ys : List Entry) → is_running d ≡ false → cut_entries m d n ys ≡ m
unfolding cut_entries cut_image cuts_image
cut_idle m d n [] e = refl
cut_idle m d n (y ∷ ys) e = rw e (cut_idle m d n ys e)

clear_idle : (d : List ℕ) (n : ℕ) (ys : List Entry) → is_running d ≡ false → clear_marks d n ys ≡ d
unfolding clear_marks note_taken
clear_idle d n [] e = refl
clear_idle d n (y ∷ ys) e = rw e (clear_idle d n ys e)

set_idle : (d : List ℕ) (n : ℕ) (ys : List Entry) → is_running d ≡ false → set_marks d n ys ≡ d
unfolding set_marks note_made
set_idle d n [] e = refl
set_idle d n (y ∷ ys) e = rw e (set_idle d n ys e)

pub idle_call : (m d : List ℕ) (n : ℕ) (ys zs : List Entry) → is_running d ≡ false → (cut_entries m d n ys ≡ m) × (set_marks (clear_marks d n ys) n zs ≡ d)
idle_call m d n ys zs e = (cut_idle m d n ys e, ap (λ (x : List ℕ). set_marks x n zs) (clear_idle d n ys e) ∙ set_idle d n zs e)

-- ---- all but the marks stays
pub record MarksAlone (n : ℕ) (d e : List ℕ) : Type 0 where
  pub long : length e ≡ length d
  pub head : desk_of e ≡ desk_of d
  pub reserved : desk_rest_zero e ≡ desk_rest_zero d
  pub copied : (i : ℕ) → 1 ≤ i → i ≤ n → copied_of e i ≡ copied_of d i

notes_stay : (n : ℕ) (d : List ℕ) → MarksAlone n d d
notes_stay n d = record { long = refl; head = refl; reserved = refl; copied = λ i l m. refl }

pub notes_then : {n : ℕ} {d e f : List ℕ} → MarksAlone n d e → MarksAlone n e f → MarksAlone n d f
notes_then a b = record {
  long = b.long ∙ a.long;
  head = b.head ∙ a.head;
  reserved = b.reserved ∙ a.reserved;
  copied = λ i l m. b.copied i l m ∙ a.copied i l m;
}

pub same_copied : {n : ℕ} {d e : List ℕ} → MarksAlone n d e → (i : ℕ) → is_copied e n i ≡ is_copied d n i
unfolding is_copied
same_copied {n} {d} {e} k i = go (leb 1 i) (leb i n) refl refl
  where
    go : (a b : Bool) → leb 1 i ≡ a → leb i n ≡ b → a && (b && eqb (copied_of e i) 1) ≡ a && (b && eqb (copied_of d i) 1)
    go false b x y = refl
    go true false x y = refl
    go true true x y = ap (λ (z : ℕ). eqb z 1) (k.copied i (leb-true 1 i x) (leb-true i n y))

pub same_running : {n : ℕ} {d e : List ℕ} → MarksAlone n d e → is_running e ≡ is_running d
unfolding is_running
same_running k = rw k.head

-- ---- one entry
set_notes : (d : List ℕ) (n a t : ℕ) → MarksAlone n d (note_made d n a t)
unfolding note_made
set_notes d n a t = go (is_running d)
  where
    go : (b : Bool) → MarksAlone n d (pick b (set_mark d n a t) d)
    go false = notes_stay n d
    go true = record { long = length_set_mark d n a t; head = desk_set_mark d n a t; reserved = reserved_set_mark d n a t; copied = λ i l m. copied_set_mark d n a i t l m }

clear_notes_lem : (d : List ℕ) (n a t : ℕ) → MarksAlone n d (note_taken d n a t)
unfolding note_taken
clear_notes_lem d n a t = go (is_running d)
  where
    go : (b : Bool) → MarksAlone n d (pick b (clear_mark d n a t) d)
    go false = notes_stay n d
    go true = record { long = length_clear_mark d n a t; head = desk_clear_mark d n a t; reserved = reserved_clear_mark d n a t; copied = λ i l m. copied_clear_mark d n a i t l m }

-- slot t of directory a, in range
pub record Ranged (n : ℕ) (y : Entry) : Type 0 where
  pub low : 1 ≤ y.directory
  pub high : y.directory ≤ n
  pub small : y.slot < most_slots

module _ (d : List ℕ) (n : ℕ) (y : Entry) (f : desk_length n ≤ length d) (r : Ranged n y) (i t : ℕ) (l : 1 ≤ i) (m : i ≤ n) (u : t < most_slots) where
  -- another slot keeps its mark
  module _ (h : i ≡ y.directory → t ≡ y.slot → ⊥) where
    set_other : mark_of (note_made d n y.directory y.slot) n i t ≡ mark_of d n i t
    unfolding note_made
    set_other = go (is_running d)
      where
        at : Dec (i ≡ y.directory) → mark_of (set_mark d n y.directory y.slot) n i t ≡ mark_of d n i t
        at (yes e) = subst (λ (z : ℕ). mark_of (set_mark d n y.directory y.slot) n z t ≡ mark_of d n z t) (sym e) (mark_set_mark_slot d n y.directory y.slot t r.low r.high f (h e))
        at (no e) = mark_set_mark_other d n y.directory i y.slot t r.low l e

        go : (b : Bool) → mark_of (pick b (set_mark d n y.directory y.slot) d) n i t ≡ mark_of d n i t
        go false = refl
        go true = at (ℕ_discrete i y.directory)

    clear_other : mark_of (note_taken d n y.directory y.slot) n i t ≡ mark_of d n i t
    unfolding note_taken
    clear_other = go (is_running d)
      where
        at : Dec (i ≡ y.directory) → mark_of (clear_mark d n y.directory y.slot) n i t ≡ mark_of d n i t
        at (yes e) =
            let v = r.small in
            subst (λ (z : ℕ). mark_of (clear_mark d n y.directory y.slot) n z t ≡ mark_of d n z t) (sym e) (mark_clear_mark_slot d n y.directory y.slot t r.low r.high f (omega arith) (omega arith) (h e))
        at (no e) = mark_clear_mark_other d n y.directory i y.slot t r.low l e

        go : (b : Bool) → mark_of (pick b (clear_mark d n y.directory y.slot) d) n i t ≡ mark_of d n i t
        go false = refl
        go true = at (ℕ_discrete i y.directory)

  -- its own slot is marked
  set_here : is_running d ≡ true → i ≡ y.directory → t ≡ y.slot → mark_of (note_made d n y.directory y.slot) n i t ≡ true
  unfolding note_made
  set_here e a b = rw (e, a, b) (mark_set_mark_same d n y.directory y.slot r.low r.high f)

-- ---- all entries of a list
pub cleared_notes : (d : List ℕ) (n : ℕ) (ys : List Entry) → MarksAlone n d (clear_marks d n ys)
unfolding clear_marks
cleared_notes d n [] = notes_stay n d
cleared_notes d n (y ∷ ys) = notes_then (clear_notes_lem d n y.directory y.slot) (cleared_notes (note_taken d n y.directory y.slot) n ys)

pub set_all_notes : (d : List ℕ) (n : ℕ) (ys : List Entry) → MarksAlone n d (set_marks d n ys)
unfolding set_marks
set_all_notes d n [] = notes_stay n d
set_all_notes d n (y ∷ ys) = notes_then (set_notes d n y.directory y.slot) (set_all_notes (note_made d n y.directory y.slot) n ys)

-- place q, slot t of i
module _ (n i t : ℕ) (l : 1 ≤ i) (m : i ≤ n) (u : t < most_slots) where
  other_slot : (y : Entry) → Ranged n y → place_of i t ≢ place_in y → i ≡ y.directory → t ≡ y.slot → ⊥
  other_slot y r h a b = h (let z = r.low in omega arith)

  pub cleared_away : (d : List ℕ) (ys : List Entry) → desk_length n ≤ length d → All (Ranged n) ys → Away (place_of i t) ys → mark_of (clear_marks d n ys) n i t ≡ mark_of d n i t
  unfolding clear_marks
  cleared_away d [] f r a = refl
  cleared_away d (y ∷ ys) f r a =
      let e = (clear_notes_lem d n y.directory y.slot).long in
      cleared_away (note_taken d n y.directory y.slot) ys (omega arith) r.1 a.1
      ∙ clear_other d n y f r.0 i t l m u (other_slot y r.0 a.0)

  pub set_away : (d : List ℕ) (ys : List Entry) → desk_length n ≤ length d → All (Ranged n) ys → Away (place_of i t) ys → mark_of (set_marks d n ys) n i t ≡ mark_of d n i t
  unfolding set_marks
  set_away d [] f r a = refl
  set_away d (y ∷ ys) f r a =
      let e = (set_notes d n y.directory y.slot).long in
      set_away (note_made d n y.directory y.slot) ys (omega arith) r.1 a.1
      ∙ set_other d n y f r.0 i t l m u (other_slot y r.0 a.0)

  same_slot : (y : Entry) → Ranged n y → place_of i t ≡ place_in y → (i ≡ y.directory) × (t ≡ y.slot)
  same_slot y r e = let a = r.low in let b = r.small in (omega arith, omega arith)

  -- while the copy runs, the mark of each entry is set
  set_one : (d : List ℕ) (y : Entry) → desk_length n ≤ length d → Ranged n y → is_running d ≡ true → place_of i t ≡ place_in y → mark_of (note_made d n y.directory y.slot) n i t ≡ true
  set_one d y f r g e = let k = same_slot y r e in set_here d n y f r i t l m u g k.0 k.1

  still_set : (d : List ℕ) (ys : List Entry) → desk_length n ≤ length d → All (Ranged n) ys → is_running d ≡ true → mark_of d n i t ≡ true → mark_of (set_marks d n ys) n i t ≡ true
  unfolding set_marks
  still_set d [] f r g e = e
  still_set d (y ∷ ys) f r g e =
      let z = set_notes d n y.directory y.slot in
      let w = z.long in
      still_set (note_made d n y.directory y.slot) ys (omega arith) r.1 (same_running z ∙ g) (go (ℕ_discrete (place_of i t) (place_in y)))
    where
      go : Dec (place_of i t ≡ place_in y) → mark_of (note_made d n y.directory y.slot) n i t ≡ true
      go (no h) = set_other d n y f r.0 i t l m u (other_slot y r.0 h) ∙ e
      go (yes h) = set_one d y f r.0 g h

  pub set_some : (d : List ℕ) (ys : List Entry) → desk_length n ≤ length d → All (Ranged n) ys → is_running d ≡ true → Some (λ y. place_of i t ≡ place_in y) ys → mark_of (set_marks d n ys) n i t ≡ true
  unfolding set_marks
  set_some d [] f r g e = elim e [ ]
  set_some d (y ∷ ys) f r g (inl e) =
      let z = set_notes d n y.directory y.slot in
      let w = z.long in
      still_set (note_made d n y.directory y.slot) ys (omega arith) r.1 (same_running z ∙ g) (set_one d y f r.0 g e)
  set_some d (y ∷ ys) f r g (inr e) =
      let z = set_notes d n y.directory y.slot in
      let w = z.long in
      set_some (note_made d n y.directory y.slot) ys (omega arith) r.1 (same_running z ∙ g) e

-- ---- what a call writes
module _ (d : List ℕ) (n : ℕ) (ys zs : List Entry) (f : desk_length n ≤ length d) (a : All (Ranged n) ys) (b : All (Ranged n) zs) where
  pub call_notes : MarksAlone n d (set_marks (clear_marks d n ys) n zs)
  call_notes = notes_then (cleared_notes d n ys) (set_all_notes (clear_marks d n ys) n zs)

  long : desk_length n ≤ length (clear_marks d n ys)
  long = let e = (cleared_notes d n ys).long in omega arith

  module _ (i t : ℕ) (l : 1 ≤ i) (m : i ≤ n) (u : t < most_slots) where
    pub mark_away : Away (place_of i t) ys → Away (place_of i t) zs → mark_of (set_marks (clear_marks d n ys) n zs) n i t ≡ mark_of d n i t
    mark_away x y = set_away n i t l m u (clear_marks d n ys) zs long b y ∙ cleared_away n i t l m u d ys f a x

    pub mark_made : is_running d ≡ true → Some (λ y. place_of i t ≡ place_in y) zs → mark_of (set_marks (clear_marks d n ys) n zs) n i t ≡ true
    mark_made g x = set_some n i t l m u (clear_marks d n ys) zs long b (same_running (cleared_notes d n ys) ∙ g) x
