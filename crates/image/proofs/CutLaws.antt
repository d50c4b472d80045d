-- What the code has read of the image's slots, as the definitions say it. m is the image, d the desk, n the inode count, e a directory, t a slot, i an inode.
use Prim.Native.Nat.{ℕ, zero, suc, ◌+◌, ◌-◌, ◌/◌, ◌≤◌}
use mathlib.Core.Path.{◌≡◌, refl, sym, ap, ◌∙◌}
use mathlib.Core.Bool.{Bool, true, false, not, ◌&&◌}
use mathlib.Core.List.{List}
use native.Mathlib.Omega.{arith}
use borrow.Author.Tests.{eq-eqb, ne_eqb}
use lib.Dec.{eqb}
use lib.ListN.{take, drop}
use Rattle.bounded.specs.Search.{pick}
use Rattle.octets.specs.Octets.{zeroed}
use Rattle.octets.proofs.PartLaws.{cut}
use Rattle.layout.specs.Inode.{kind_of, directory_kind}
use Rattle.blocks.specs.Block.{kth_block}
use Rattle.names.specs.Entry.{entry_inode, entry_bytes}
use Rattle.directory.specs.Slot.{slots_in_block, slot_at, entry_of, clear_entry}
use Rattle.desk.specs.declared.Desk.{Desk}
use Rattle.desk.specs.Desk.{desk_of, is_copied}
use Rattle.desk.specs.Next.{runs}
use Rattle.checkpoint.specs.Fit.{is_running}
use Rattle.checkpoint.specs.Image.{has_slot, slot_names}
use Rattle.checkpoint.specs.Notes.{cuts_image, cut_image}

-- ---- the copy runs
module _ (d : List ℕ) (h : Desk) (q : h ≡ desk_of d) where
  pub running_is : runs h ≡ is_running d
  unfolding is_running
  running_is = ap runs q

-- ---- the image's slots
module _ (m : List ℕ) (n e t : ℕ) where
  pub names_other : (kind_of m e ≡ directory_kind → ⊥) → 0 ≡ slot_names m n e t
  unfolding slot_names has_slot
  names_other f = rw (ne_eqb (kind_of m e) directory_kind f) refl

  module _ (k : kind_of m e ≡ directory_kind) where
    pub names_none : kth_block m n e (t / slots_in_block) ≡ 0 → 0 ≡ slot_names m n e t
    unfolding slot_names has_slot
    names_none z = rw (eq-eqb (kind_of m e) directory_kind k, eq-eqb (kth_block m n e (t / slots_in_block)) 0 z) refl

    pub names_there : (o x : ℕ) → (kth_block m n e (t / slots_in_block) ≡ 0 → ⊥) → o ≡ slot_at m n e t → x ≡ entry_inode (take (o + 16 - o) (drop o m)) → x ≡ slot_names m n e t
    unfolding slot_names has_slot entry_of
    names_there o x f p q = rw (eq-eqb (kind_of m e) directory_kind k, ne_eqb (kth_block m n e (t / slots_in_block)) 0 f) (q ∙ ap entry_inode (cut m o 16 ∙ rw p refl))

  -- a slot that names an inode is there
  pub named_there : (i : ℕ) → 1 ≤ i → slot_names m n e t ≡ i → 1 ≤ kth_block m n e (t / slots_in_block)
  unfolding slot_names has_slot
  named_there i l q = go (eqb (kind_of m e) directory_kind) (kth_block m n e (t / slots_in_block)) q
    where
      go : (a : Bool) (c : ℕ) → pick (a && not (eqb c 0)) (entry_inode (entry_of m n e t)) 0 ≡ i → 1 ≤ c
      go true zero p = absurd (omega arith)
      go true (suc c) p = omega arith
      go false c p = absurd (omega arith)

-- ---- the image's entry goes, or stays; h is the desk's header
module _ (m d : List ℕ) (h : Desk) (q : h ≡ desk_of d) (n e t i : ℕ) where
  pub cut_idle : runs h ≡ false → m ≡ cut_image m d n e t i
  unfolding cut_image cuts_image
  cut_idle g = rw (sym (running_is d h q) ∙ g) refl

  module _ (g : runs h ≡ true) where
    pub cut_uncopied : is_copied d n e ≡ false → m ≡ cut_image m d n e t i
    unfolding cut_image cuts_image
    cut_uncopied f = rw (sym (running_is d h q) ∙ g, f) refl

    module _ (f : is_copied d n e ≡ true) where
      pub cut_copied : is_copied d n i ≡ true → m ≡ cut_image m d n e t i
      unfolding cut_image cuts_image
      cut_copied c = rw (sym (running_is d h q) ∙ g, f, c) refl

      module _ (c : is_copied d n i ≡ false) where
        pub cut_other : (slot_names m n e t ≡ i → ⊥) → m ≡ cut_image m d n e t i
        unfolding cut_image cuts_image
        cut_other x = rw (sym (running_is d h q) ∙ g, f, c, ne_eqb (slot_names m n e t) i x) refl

        pub cut_there : (o : ℕ) → slot_names m n e t ≡ i → o ≡ slot_at m n e t → zeroed m o entry_bytes ≡ cut_image m d n e t i
        unfolding cut_image cuts_image clear_entry zeroed
        cut_there o x p = rw (sym (running_is d h q) ∙ g, f, c, eq-eqb (slot_names m n e t) i x, p) refl
