-- The step that finishes a copy: a sound image, and nothing that the theory of a running copy sees. s is the store, m the image, d the desk, n and b the counts of inodes and image blocks.
use Prim.Native.Nat.{ℕ, ◌*◌, ◌≤◌, ◌<◌}
use mathlib.Core.Path.{◌≡◌, refl, sym, ap, ◌∙◌, subst}
use mathlib.Core.Logic.{◌≢◌}
use mathlib.Core.Bool.{true}
use mathlib.Core.List.{List}
use native.Mathlib.Omega.{arith}
use lib.ListN.{length, get_or}
use Rattle.bounded.proofs.CaseLaws.{is_below}
use Rattle.layout.specs.Sizes.{most_inodes, most_image_blocks, block_bytes, root_inode, is_complete}
use Rattle.layout.specs.Header.{header_of, header_rest_zero}
use Rattle.blocks.specs.Block.{store_length, block_of}
use Rattle.blocks.specs.Free.{block_free}
use Rattle.directory.specs.Slot.{most_slots}
use Rattle.desk.specs.declared.Desk.{Desk}
use Rattle.desk.specs.Desk.{desk_of}
use Rattle.desk.specs.Next.{finishing}
use Rattle.desk.proofs.DeskLaws.{desk_put_desk, copied_put_desk, mark_put_desk}
use Rattle.sound.specs.Sound.{Sound, inodes_in, blocks_in}
use Rattle.sound.proofs.PlaceLaws.{naming_filled}
use Rattle.sound.specs.declared.Form.TheVariants.{Image}
use Rattle.preservation.proofs.KeepLaws.{Body}
use Rattle.copy_theory.specs.View.{Tidy}
use Rattle.copy_theory.specs.Deed.{Quiet}
use Rattle.checkpoint.specs.Copier.{finish, finish_image, step_desk}
use Rattle.checkpoint.proofs.Copy.Seen.{shelf_of, seen}
use Rattle.checkpoint.proofs.Copy.SeenLaws.{names_in, names_out, names_below, names_low, entry_in, alike, marked_same, copied_like}
use Rattle.checkpoint.proofs.Copy.Laid.{Laid}
use Rattle.checkpoint.proofs.Step.FinishLaws.{done, finish_place, finish_body, finish_blanks}

-- a sound image, by counts that its header tells
record Whole (t : List ℕ) (n b : ℕ) : Type 0 where
  some_inodes : 1 ≤ n
  most_inodes_lem : n ≤ most_inodes
  some_blocks : 1 ≤ b
  most_blocks_lem : b ≤ most_image_blocks
  long : length t ≡ store_length n b
  body : Body t n b
  blanks : (c : ℕ) → 1 ≤ c → c ≤ b → block_free t n c ≡ true → (o : ℕ) → o < block_bytes → get_or (block_of t n c) o 0 ≡ 0

whole_sound : (t : List ℕ) → (header_of t).complete ≡ is_complete → (header_of t).root ≡ root_inode → header_rest_zero t ≡ true → Whole t (inodes_in t) (blocks_in t) → Sound Image t
whole_sound t c r z w = record {
  framed = record { some_inodes = w.some_inodes; most_inodes_lem = w.most_inodes_lem; some_blocks = w.some_blocks; most_blocks_lem = w.most_blocks_lem; long = w.long };
  complete = c;
  root_number = r;
  reserved = z;
  inodes = w.body.inodes;
  once = w.body.once;
  root = w.body.root;
  root_parent = w.body.root_parent;
  entries = w.body.entries;
  links = w.body.links;
  free_inodes = w.body.free_inodes;
  free_blocks = w.body.free_blocks;
  blanks = λ _. w.blanks;
}

module _ {n b : ℕ} {s m d : List ℕ} (h : Laid n b s m d) where
  pub finish_inodes : inodes_in (finish_image m n b) ≡ n
  finish_inodes = (done h).inodes ∙ h.frame.inodes

  pub finish_count : blocks_in (finish_image m n b) ≡ b
  finish_count = (done h).blocks ∙ h.frame.blocks

  -- ---- the image is sound
  pub finish_sound : (desk_of d).locked ≡ 0 → Tidy n (seen n s m d).image → Sound Image (finish_image m n b)
  unfolding seen
  finish_sound none tidy =
      let t = finish_image m n b in
      let f = h.frame in
      let w : Whole t n b = record {
        some_inodes = f.some_inodes;
        most_inodes_lem = f.most_inodes_lem;
        some_blocks = f.some_blocks;
        most_blocks_lem = f.most_blocks_lem;
        long = (done h).long ∙ f.long;
        body = finish_body h none tidy;
        blanks = finish_blanks h none;
      } in
      whole_sound t (done h).complete ((done h).root ∙ f.root) ((done h).reserved ∙ f.reserved)
      (subst (λ (x : ℕ). Whole t x (blocks_in t)) (sym finish_inodes) (subst (Whole t n) (sym finish_count) w))

  -- ---- what is seen stays
  finish_desk : desk_of (step_desk d finish) ≡ finishing (desk_of d)
  finish_desk = let e = h.desk.long in desk_put_desk d (finishing (desk_of d)) (omega arith)

  pub finish_locked : (seen n s (finish_image m n b) (step_desk d finish)).locked ≡ (seen n s m d).locked
  unfolding seen
  finish_locked = ap (λ (v : Desk). v.locked) finish_desk

  names : (q : ℕ) → (shelf_of n (finish_image m n b)).names q ≡ (shelf_of n m).names q
  names q =
      let t = finish_image m n b in
      is_below (most_slots * n) q (λ l. names_in n t q l ∙ (finish_place h q l).names ∙ sym (names_in n m q l)) (λ l. names_out n t q l ∙ sym (names_out n m q l))

  entries : (q : ℕ) → (shelf_of n m).names q ≢ 0 → (shelf_of n (finish_image m n b)).entry q ≡ (shelf_of n m).entry q
  entries q e =
      entry_in n (finish_image m n b) q ∙ (finish_place h q (names_below n m q e)).entry (naming_filled m n q (names_low n m q e)) ∙ sym (entry_in n m q)

  pub finish_quiet : (desk_of d).locked ≡ 0 → Quiet (seen n s m d) (seen n s (finish_image m n b) (step_desk d finish))
  unfolding seen
  finish_quiet none = record {
    store = refl;
    names = names;
    entries = entries;
    inodes = λ i. alike m (finish_image m n b) n b i ((done h).bodies i) ((done h).parents i) (done h).bytes (λ l o. h.inodes i l o (λ z. omega arith));
    marked = λ q. marked_same n d (step_desk d finish) q (mark_put_desk d (finishing (desk_of d)) n);
    copied = λ i. copied_like d (step_desk d finish) n i (λ _ _. copied_put_desk d (finishing (desk_of d)) i);
  }
