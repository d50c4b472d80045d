-- The step that closes the locked inode l: the places of the image, and how image and desk lie after it.
use Prim.Native.Nat.{ℕ, ◌+◌, ◌*◌, ◌-◌, ◌/◌, ◌≤◌, ◌<◌}
use mathlib.Core.Path.{◌≡◌, refl, sym, ap, ◌∙◌, subst}
use mathlib.Core.Logic.{◌≢◌, inl, inr}
use mathlib.Core.Bool.{Bool, true, false}
use mathlib.Core.List.{List}
use native.Mathlib.Decide.{ℕ_discrete}
use native.Mathlib.Omega.{arith}
use borrow.Author.Tests.{eq-eqb}
use lib.ListN.{get_or}
use Rattle.bounded.specs.Sum.{sum}
use Rattle.bounded.proofs.BoolLaws.{clash}
use Rattle.bounded.proofs.UpdateLaws.{changed_here, changed_there}
use Rattle.layout.specs.Inode.{kind_of, size_of, free_kind}
use Rattle.blocks.specs.Block.{blocks_used}
use Rattle.names.specs.Entry.{is_empty}
use Rattle.names.proofs.EntryLaws.{empty_zeros}
use Rattle.directory.specs.Slot.{most_slots, slots}
use Rattle.desk.specs.declared.Desk.{Desk}
use Rattle.desk.specs.Desk.{desk_of, is_copied}
use Rattle.sound.specs.Place.{dir_of, slot_of, is_slot, entry_at}
use Rattle.sound.proofs.PlaceLaws.{slot_is, filled_is, naming_entry}
use Rattle.preservation.proofs.SameLaws.{SameInode}
use Rattle.preservation.proofs.KeepLaws.{body_of, SamePlace, place_slot, slot_kept, same_slots, entry_kept}
use Rattle.checkpoint.specs.Copier.{close, step_image, step_desk}
use Rattle.checkpoint.specs.Fit.{image_long}
use Rattle.checkpoint.proofs.Copy.LedgerLaws.{rows_named, rows_differ}
use Rattle.checkpoint.proofs.Copy.Laid.{Frame, frame_kept, Fair, Laid, cost, cost_so_far}
use Rattle.bounded.proofs.SumLaws.{sum_but}
use Rattle.checkpoint.proofs.Step.PasteLaws.{pasted, pasted_either}
use Rattle.checkpoint.proofs.Step.CloseFacts.{Closing, lock, high, full, desk_closed, copied_closed, desk_laid, in_inode, new_kind, new_size, close_row, entry_new, inodes_sound}
use Rattle.checkpoint.proofs.Step.LockLaws.{locked_cost}

module _ {n b : ℕ} {s m d : List ℕ} (c : Closing n b s m d) where
  abbrev l : ℕ
  l = (desk_of d).locked

  abbrev m' : List ℕ
  m' = step_image s m d n (close l)

  abbrev d' : List ℕ
  d' = step_desk d (close l)

  -- ---- a place of another directory
  module _ (p : ℕ) (a : p < most_slots * n) (z : dir_of p ≢ l) where
    dir_else : SameInode m m' n (dir_of p)
    dir_else = (in_inode c).others (dir_of p) (omega arith) (omega arith) z

    slot_else : is_slot m' p ≡ is_slot m p
    slot_else = slot_kept m m' p dir_else.kind (λ _. same_slots dir_else)

    entry_else : entry_at m' n p ≡ entry_at m n p
    unfolding entry_at
    entry_else = entry_kept m m' n (dir_of p) (slot_of p) (dir_else.blocks (slot_of p / 4) (omega arith)) ((in_inode c).bytes _)

    pub place_else : SamePlace m m' n p
    place_else = place_slot m m' n p slot_else (λ _. entry_else)

  -- ---- a place of l
  module _ (p : ℕ) (z : dir_of p ≡ l) where
    pub slot_here : is_slot m' p ≡ is_slot s p
    unfolding slots
    slot_here =
        slot_kept s m' p (ap (kind_of m') z ∙ new_kind c ∙ ap (kind_of s) (sym z))
        (λ _. ap (slots m') z ∙ ap (λ (y : ℕ). 4 * blocks_used y) (new_size c) ∙ ap (slots s) (sym z))

    pub entry_here : is_slot s p ≡ true → entry_at m' n p ≡ pasted d n (dir_of p) (slot_of p) (entry_at s n p)
    unfolding entry_at
    entry_here e = let r = (slot_is s p).to e in rw z (entry_new c (ap (kind_of s) (sym z) ∙ r.0) (slot_of p) (subst (λ (y : ℕ). slot_of p < slots s y) z r.1))

  -- ---- image entries are fair
  fair_store : (p : ℕ) → p < most_slots * n → is_slot s p ≡ true → Fair (entry_at s n p)
  fair_store p a e = go (is_empty (entry_at s n p)) refl
    where
      go : (x : Bool) → is_empty (entry_at s n p) ≡ x → Fair (entry_at s n p)
      go true q = inl q
      go false q =
          let r = (body_of c.sound).entries p a ((filled_is s n p).from (e, q)) in
          let u = naming_entry s n p e in
          inr ((λ y. let w = r.low in omega arith), r.legal)

  fair : (p : ℕ) → p < most_slots * n → is_slot m' p ≡ true → Fair (entry_at m' n p)
  fair p a e = go (ℕ_discrete (dir_of p) l)
    where
      go : Dec (dir_of p ≡ l) → Fair (entry_at m' n p)
      go (no z) = subst Fair (sym (entry_else p a z)) (c.laid.fair p a (sym (slot_else p a z) ∙ e))
      go (yes z) =
          let f = sym (slot_here p z) ∙ e in
          let x = entry_at s n p in
          subst Fair (sym (entry_here p z f))
          (pasted_either d n (dir_of p) (slot_of p) x {P = Fair (pasted d n (dir_of p) (slot_of p) x)}
          (λ _ _ q. inl (ap is_empty q ∙ empty_zeros)) (λ _ q. subst Fair (sym q) (fair_store p a f)))

  -- ---- the frame
  frame : Frame n b m'
  frame = frame_kept (in_inode c).frame c.laid.frame

  blank : (i : ℕ) → 1 ≤ i → i ≤ n → is_copied d' n i ≡ false → kind_of m' i ≡ free_kind
  blank i o q e =
      let z : i ≢ l = λ z. clash (is_copied d' n i) (changed_here z (copied_closed c i)) e in
      ((in_inode c).others i o q z).kind ∙ c.laid.blank i o q (sym (changed_there z (copied_closed c i)) ∙ e)

  -- ---- the steps
  cost_else : (j : ℕ) → j < n → j ≢ l - 1 → cost m' d' n j ≡ cost m d n j
  unfolding cost
  cost_else j a z =
      let g = (lock c).low in
      let y : j + 1 ≢ l = λ y. z (omega arith) in
      rw (changed_there y (copied_closed c (j + 1)), ((in_inode c).others (j + 1) (omega arith) (omega arith) y).size)

  cost_before : cost m d n (l - 1) ≡ 0
  unfolding cost
  cost_before = let g = (lock c).low in let e : l - 1 + 1 ≡ l = omega arith in rw (e, (lock c).new)

  cost_after : cost m' d' n (l - 1) ≡ 2 + blocks_used (size_of s l)
  unfolding cost
  cost_after = let g = (lock c).low in let e : l - 1 + 1 ≡ l = omega arith in rw (e, changed_here refl (copied_closed c l), new_size c)

  none : cost_so_far d' ≡ 0
  unfolding cost_so_far
  none = rw (eq-eqb (desk_of d').locked 0 (ap (λ (v : Desk). v.locked) (desk_closed c)))

  steps : (desk_of d').steps ≡ sum (cost m' d' n) n + cost_so_far d'
  steps =
      let g = (lock c).low in
      let e = high c in
      let u = ap (λ (v : Desk). v.steps) (desk_closed c) in
      let v = c.laid.steps in
      let w = sum_but (cost m d n) (cost m' d' n) n (l - 1) (omega arith) cost_else in
      let x = cost_before in
      let y = cost_after in
      let z = locked_cost d c.on in
      let k = none in
      let f = full c in
      omega arith

  pub close_laid : Laid n b s m' d'
  close_laid =
      let z = ap (λ (v : Desk). v.locked) (desk_closed c) in
      record {
        desk = desk_laid c;
        frame = frame;
        inodes = λ i o q _. inodes_sound c i o q;
        blank = blank;
        opened = λ y. absurd (y z);
        once = rows_differ (image_long s m d) (image_long s m' d') m m' n (close_row c) c.laid.once;
        blanks = λ k a q e o u. ap (λ (y : List ℕ). get_or y o 0) ((in_inode c).bytes k) ∙ c.laid.blanks k a q (sym (rows_named (image_long s m d) (image_long s m' d') m m' n (close_row c) k) ∙ e) o u;
        fair = fair;
        steps = steps;
      }
