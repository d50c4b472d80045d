-- Laws of the places that a listing looks at, in a sound image. p is a place, e its directory, t its slot.
use Prim.Native.Nat.{ℕ, ◌+◌, ◌*◌, ◌-◌, ◌/◌, ◌%◌, ◌≤◌, ◌<◌}
use mathlib.Core.Path.{◌≡◌, refl, sym, ap, ◌∙◌, subst}
use mathlib.Core.Bool.{Bool, true, false, not}
use mathlib.Core.List.{List, ◌++◌}
use native.Mathlib.Omega.{arith}
use borrow.Author.Tests.{eq-eqb, ne_eqb}
use lib.Dec.{ltb}
use lib.ListN.{take, drop}
use Rattle.octets.proofs.PartLaws.{cut}
use Rattle.layout.specs.Sizes.{most_inodes}
use Rattle.layout.specs.Inode.{kind_of, directory_kind}
use Rattle.layout.specs.Fits.{InodeFits}
use Rattle.names.specs.Entry.{entry_inode, is_empty}
use Rattle.directory.specs.Slot.{most_slots, slots, slot_at, entry_of}
use Rattle.directory.specs.Fits.{DirFits}
use Rattle.sound.specs.Sound.{Sound, inodes_in}
use Rattle.sound.specs.Place.{is_slot, entry_at, filled, naming}
use Rattle.sound.proofs.PlaceLaws.{slot_is, filled_is, naming_entry}
use Rattle.sound.proofs.FactLaws.{inode_fits, dir_fits}
use Rattle.sound.specs.Test.{is_sound}
use Rattle.sound.proofs.SoundLaws.{size_directory, is_sound_lem}
use Rattle.sound.specs.declared.Form.TheVariants.{Image}
use Rattle.script_listing.specs.Listing.{place_text, inode_text, name_text, entry_text}

module _ (s : List ℕ) (n p : ℕ) where
  -- the bytes of the place, as the code cuts them out
  pub cut_entry : (o : ℕ) → o ≡ slot_at s n (p / most_slots + 1) (p % most_slots) → take (o + 16 - o) (drop o s) ≡ entry_at s n p
  unfolding entry_at entry_of
  cut_entry o h = cut s o 16 ∙ rw h refl

  pub no_directory : (kind_of s (p / most_slots + 1) ≡ directory_kind → ⊥) → false ≡ is_slot s p
  unfolding is_slot
  no_directory h = rw (ne_eqb _ directory_kind h) refl

  pub has_slots : kind_of s (p / most_slots + 1) ≡ directory_kind → (k : ℕ) → k ≡ slots s (p / most_slots + 1) → ltb (p % most_slots) k ≡ is_slot s p
  unfolding is_slot
  has_slots h k e = rw (eq-eqb _ directory_kind h, e) refl

  pub no_entry : is_slot s p ≡ false → false ≡ filled s n p
  unfolding filled
  no_entry h = rw h refl

  pub has_entry : is_slot s p ≡ true → (r : Bool) (x : List ℕ) → x ≡ entry_at s n p → r ≡ is_empty x → not r ≡ filled s n p
  unfolding filled
  has_entry h r x g e = rw h (ap not (e ∙ ap is_empty g))

  -- ---- of an entry that stands there
  module _ (f : filled s n p ≡ true) where
    pub filled_slot : is_slot s p ≡ true
    filled_slot = ((filled_is s n p).to f).0

    pub filled_names : naming s n p ≡ entry_inode (entry_at s n p)
    filled_names = naming_entry s n p ((filled_is s n p).to f).0

  pub entry_text_lem : (x : List ℕ) (i : ℕ) → x ≡ entry_at s n p → i ≡ entry_inode x
      → (place_text (p / most_slots + 1) (p % most_slots) i ++ inode_text s i) ++ name_text x ≡ entry_text s n p
  unfolding entry_text
  entry_text_lem x i g h = rw (h, g) refl

-- of an image that is found sound
module _ (s : List ℕ) (n : ℕ) (t : is_sound Image s ≡ true) (c : n ≡ inodes_in s) where
  h : Sound Image s
  h = (is_sound_lem Image s).to t

  pub most_places : most_slots * n ≤ most_slots * most_inodes
  most_places = let f = h.framed in let m = f.most_inodes_lem in omega (arith, c, m)

  module _ (p : ℕ) (l : p < most_slots * n) where
    pub place_inode : InodeFits s n (p / most_slots + 1)
    place_inode = subst (λ (x : ℕ). InodeFits s x (p / most_slots + 1)) (sym c) (inode_fits h (p / most_slots + 1) (omega arith) (omega arith))

    pub place_fits : kind_of s (p / most_slots + 1) ≡ directory_kind → DirFits s n (p / most_slots + 1)
    place_fits k =
        subst (λ (x : ℕ). DirFits s x (p / most_slots + 1)) (sym c)
        (dir_fits h (p / most_slots + 1) (omega arith) (omega arith) (size_directory (h.inodes (p / most_slots + 1) (omega arith) (omega arith)) k))

    -- where a directory has the slot
    pub slot_fits : is_slot s p ≡ true → DirFits s n (p / most_slots + 1) × (p % most_slots < slots s (p / most_slots + 1))
    slot_fits e = let i = (slot_is s p).to e in (place_fits i.0, i.1)

    -- where an entry stands
    pub named_fits : filled s n p ≡ true → (x : List ℕ) (i : ℕ) → x ≡ entry_at s n p → i ≡ entry_inode x → InodeFits s n i
    named_fits f x i g q =
        let j : i ≡ naming s n p = q ∙ ap entry_inode g ∙ sym (filled_names s n p f) in
        let r = bounds f in
        subst (λ (k : ℕ). InodeFits s k i) (sym c) (inode_fits h i (omega arith) (omega arith))
      where
        bounds : filled s n p ≡ true → (1 ≤ naming s n p) × (naming s n p ≤ n)
        bounds f = subst (λ (k : ℕ). p < most_slots * k → filled s k p ≡ true → (1 ≤ naming s k p) × (naming s k p ≤ k)) (sym c) (λ a b. ((h.entries p a b).low, (h.entries p a b).high)) l f
