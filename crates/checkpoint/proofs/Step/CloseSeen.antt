-- The step that closes the locked inode l, as the theory of a running copy sees it.
use Prim.Native.Nat.{ℕ, ◌*◌, ◌<◌}
use mathlib.Core.Path.{◌≡◌, refl, sym, ap, ◌∙◌}
use mathlib.Core.Logic.{◌≢◌}
use mathlib.Core.Bool.{Bool, true, false}
use mathlib.Core.List.{List}
use native.Mathlib.Decide.{ℕ_discrete}
use native.Mathlib.Omega.{arith}
use Rattle.bounded.proofs.BoolLaws.{clash}
use Rattle.bounded.proofs.CaseLaws.{is_below}
use Rattle.names.specs.Entry.{entry_inode}
use Rattle.names.proofs.EntryLaws.{empty_zeros, empty_inode_lem}
use Rattle.directory.specs.Slot.{most_slots}
use Rattle.desk.specs.declared.Desk.{Desk}
use Rattle.desk.specs.Desk.{desk_of, is_copied}
use Rattle.sound.specs.Place.{dir_of, slot_of, is_slot, entry_at, naming}
use Rattle.sound.proofs.PlaceLaws.{naming_entry, naming_filled}
use Rattle.preservation.proofs.SameLaws.{same_body}
use Rattle.copy_theory.specs.Deed.{Alike, Pasted, elsewhere, skipped, taken, Closed}
use Rattle.checkpoint.specs.Copier.{close, step_image, step_desk}
use Rattle.checkpoint.proofs.Copy.Seen.{shelf_of, seen}
use Rattle.checkpoint.proofs.Copy.SeenLaws.{names_in, names_out, names_below, names_low, entry_in, bytes_in, kind_in, parent_in, size_in, bytes_same, alike, marked_in, marked_same, zero_new}
use Rattle.checkpoint.proofs.Step.PasteLaws.{pasted, pasted_either}
use Rattle.checkpoint.proofs.Step.CloseFacts.{Closing, low, high, desk_closed, copied_closed, marks_closed, in_inode, new_kind, new_size, new_parent, file_same, long_over}
use Rattle.checkpoint.proofs.Step.CloseLaws.{place_else, slot_here, entry_here}

module _ {n b : ℕ} {s m d : List ℕ} (c : Closing n b s m d) where
  abbrev l : ℕ
  l = (desk_of d).locked

  abbrev m' : List ℕ
  m' = step_image s m d n (close l)

  abbrev d' : List ℕ
  d' = step_desk d (close l)

  -- ---- the places
  -- of another directory
  names_else : (q : ℕ) → dir_of q ≢ l → (shelf_of n m').names q ≡ (shelf_of n m).names q
  names_else q z = is_below (most_slots * n) q (λ a. names_in n m' q a ∙ (place_else c q a z).names ∙ sym (names_in n m q a)) (λ a. names_out n m' q a ∙ sym (names_out n m q a))

  entry_else : (q : ℕ) → dir_of q ≢ l → q < most_slots * n → (shelf_of n m).names q ≢ 0 → (shelf_of n m').entry q ≡ (shelf_of n m).entry q
  entry_else q z a e = entry_in n m' q ∙ (place_else c q a z).entry (naming_filled m n q (names_low n m q e)) ∙ sym (entry_in n m q)

  else_pasted : (q : ℕ) → dir_of q ≢ l → Pasted (seen n s m d) (seen n s m' d') l q
  unfolding seen
  else_pasted q z = elsewhere z (names_else q z) (λ e. entry_else q z (names_below n m q e) e)

  -- of l
  module _ (q : ℕ) (z : dir_of q ≡ l) where
    inside : q < most_slots * n
    inside = let h = high c in omega arith

    no_slot : (t : List ℕ) → is_slot t q ≡ false → (shelf_of n t).names q ≡ 0
    no_slot t e = names_in n t q inside ∙ (unfold naming in rw e)

    bare_pasted : is_slot s q ≡ false → Pasted (seen n s m d) (seen n s m' d') l q
    unfolding seen
    bare_pasted e =
        let u = no_slot s e in
        taken z (λ _ f. clash (is_copied d n ((shelf_of n s).names q)) f (ap (is_copied d n) u ∙ zero_new d n)) (no_slot m' (slot_here c q z ∙ e) ∙ sym u) (λ y. absurd (y u))

    module _ (e : is_slot s q ≡ true) where
      abbrev x : List ℕ
      x = entry_at s n q

      abbrev y : List ℕ
      y = pasted d n (dir_of q) (slot_of q) x

      store_names : (shelf_of n s).names q ≡ entry_inode x
      store_names = names_in n s q inside ∙ naming_entry s n q e

      image_names : (shelf_of n m').names q ≡ entry_inode y
      image_names = names_in n m' q inside ∙ naming_entry m' n q (slot_here c q z ∙ e) ∙ ap entry_inode (entry_here c q z e)

      slot_pasted : Pasted (seen n s m d) (seen n s m' d') l q
      unfolding seen
      slot_pasted =
          pasted_either d n (dir_of q) (slot_of q) x
          (λ mark was w. skipped z (marked_in n d q inside ∙ mark) (ap (is_copied d n) store_names ∙ was) (image_names ∙ ap entry_inode w ∙ empty_inode_lem _ empty_zeros))
          (λ not w. taken z (λ mark was. not (sym (marked_in n d q inside) ∙ mark) (ap (is_copied d n) (sym store_names) ∙ was))
          (image_names ∙ ap entry_inode w ∙ sym store_names) (λ _. entry_in n m' q ∙ entry_here c q z e ∙ w ∙ sym (entry_in n s q)))

  slots : (q : ℕ) → Pasted (seen n s m d) (seen n s m' d') l q
  slots q = go (ℕ_discrete (dir_of q) l)
    where
      here : (z : dir_of q ≡ l) (f : Bool) → is_slot s q ≡ f → Pasted (seen n s m d) (seen n s m' d') l q
      here z true e = slot_pasted q z e
      here z false e = bare_pasted q z e

      go : Dec (dir_of q ≡ l) → Pasted (seen n s m d) (seen n s m' d') l q
      go (yes z) = here z (is_slot s q) refl
      go (no z) = else_pasted q z

  -- ---- the inodes
  whole : Alike (shelf_of n s) (shelf_of n m') l
  whole =
      let a = low c in
      let e = high c in
      record {
        kind = kind_in n m' l a e ∙ new_kind c ∙ sym (kind_in n s l a e);
        parent = parent_in n m' l a e ∙ new_parent c ∙ sym (parent_in n s l a e);
        size = size_in n m' l a e ∙ new_size c ∙ sym (size_in n s l a e);
        bytes = λ k. bytes_in n m' l ∙ bytes_same s m' n l (new_size c) (λ u v f. file_same c (sym (kind_in n s l a e) ∙ k) u v (λ y. f (long_over c y))) ∙ sym (bytes_in n s l);
      }

  pub close_closed : Closed (seen n s m d) (seen n s m' d') l
  unfolding seen
  close_closed = record {
    real = c.on;
    was = refl;
    now = ap (λ (v : Desk). v.locked) (desk_closed c);
    store = refl;
    slots = slots;
    whole = whole;
    others = λ i z. alike m m' n b i (λ o q. same_body ((in_inode c).others i o q z)) (λ o q. ((in_inode c).others i o q z).parent) (in_inode c).bytes (λ o q. c.laid.inodes i o q z);
    marked = λ q. marked_same n d d' q (marks_closed c);
    copied = copied_closed c;
  }
