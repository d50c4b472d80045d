-- The image just after a start: a header, and zero past it. n is the inode count, k the length.
use Prim.Native.Nat.{ℕ, ◌+◌, ◌*◌, ◌-◌, ◌/◌, ◌%◌, ◌≤◌, ◌<◌}
use mathlib.Core.Path.{◌≡◌, sym, ap, ap₂, ◌∙◌}
use mathlib.Core.Bool.{Bool, true, false, ◌&&◌}
use mathlib.Core.List.{List}
use native.Mathlib.Omega.{arith}
use lib.Dec.{eqb}
use lib.ListN.{length, get_or, replicate, length-replicate}
use Rattle.bounded.proofs.ReflectLaws.{r_fails}
use Rattle.bounded.proofs.RangeLaws.{within, within_in, below_in}
use Rattle.octets.proofs.PartLaws.{get_d_part}
use Rattle.octets.proofs.ZeroLaws.{byte_zeros, num_zeros}
use Rattle.layout.specs.Sizes.{address_count, most_blocks, block_bytes, root_inode, not_complete}
use Rattle.layout.specs.declared.header.Header.{Header}
use Rattle.layout.specs.Header.{header_of, put_header, header_rest_zero}
use Rattle.layout.specs.Inode.{kind_of, spare_of, links_of, size_of, parent_of, address_of, address_index}
use Rattle.blocks.specs.Block.{block_at, block_of, blocks_used, row_by}
use Rattle.blocks.proofs.View.{View, view_of, content_of}
use Rattle.blocks.proofs.FrameLaws.{length_header}
use Rattle.blocks.proofs.KthLaws.{bare_all}
use Rattle.blocks.proofs.ViewLaws.{view_header, header_put}
use Rattle.directory.specs.Slot.{most_slots}
use Rattle.sound.specs.Place.{dir_of, is_slot, naming}
use Rattle.sound.specs.Inode.{InodeSound}
use Rattle.sound.proofs.PlaceLaws.{slot_is}
use Rattle.checkpoint.specs.Fit.{image_blocks}
use Rattle.checkpoint.specs.Copier.{start_image}

-- ---- the image
module _ (n k : ℕ) where
  abbrev zeros : List ℕ
  zeros = replicate k 0

  abbrev head : Header
  head = record { inodes = n; blocks = image_blocks n k; free_inodes = 0; free_blocks = 0; complete = not_complete; root = root_inode }

  pub length_start : length (start_image n k) ≡ k
  unfolding start_image
  length_start = length_header zeros head ∙ length-replicate k 0

  pub start_header : 16 ≤ k → header_of (start_image n k) ≡ head
  unfolding start_image
  start_header l = header_put zeros (let e = length-replicate {A = ℕ} k 0 in omega arith) head

  module _ (i : ℕ) (l : 1 ≤ i) (h : i ≤ n) where
    -- a field that the header's writer leaves as it was
    zero_field : (f g : ℕ → ℕ) → within n f i ≡ within n g i → g i ≡ 0 → f i ≡ 0
    zero_field f g e z = sym (within_in n f i l h) ∙ e ∙ within_in n g i l h ∙ z

    pub start_kind : kind_of (start_image n k) i ≡ 0
    unfolding start_image view_of
    start_kind = zero_field (kind_of (put_header zeros head)) (kind_of zeros) (ap (λ (v : View). v.kind i) (view_header n zeros head)) (unfold kind_of in num_zeros 1 k _)

    pub start_spare : spare_of (start_image n k) i ≡ 0
    unfolding start_image view_of
    start_spare = zero_field (spare_of (put_header zeros head)) (spare_of zeros) (ap (λ (v : View). v.spare i) (view_header n zeros head)) (unfold spare_of in num_zeros 1 k _)

    pub start_links : links_of (start_image n k) i ≡ 0
    unfolding start_image view_of
    start_links = zero_field (links_of (put_header zeros head)) (links_of zeros) (ap (λ (v : View). v.links i) (view_header n zeros head)) (unfold links_of in num_zeros 2 k _)

    pub start_size : size_of (start_image n k) i ≡ 0
    unfolding start_image view_of
    start_size = zero_field (size_of (put_header zeros head)) (size_of zeros) (ap (λ (v : View). v.size i) (view_header n zeros head)) (unfold size_of in num_zeros 2 k _)

    pub start_parent : parent_of (start_image n k) i ≡ 0
    unfolding start_image view_of
    start_parent = zero_field (parent_of (put_header zeros head)) (parent_of zeros) (ap (λ (v : View). v.parent i) (view_header n zeros head)) (unfold parent_of in num_zeros 2 k _)

  pub start_address : (x : ℕ) → x < address_count * n → address_of (start_image n k) n x ≡ 0
  unfolding start_image view_of
  start_address x l =
      sym (below_in (12 * n) (address_of (put_header zeros head) n) x l) ∙ ap (λ (v : View). v.address x) (view_header n zeros head)
      ∙ below_in (12 * n) (address_of zeros n) x l ∙ (unfold address_of in num_zeros 2 k _)

  pub start_byte : (c o : ℕ) → o < block_bytes → get_or (block_of (start_image n k) n c) o 0 ≡ 0
  unfolding start_image view_of block_of content_of
  start_byte c o l =
      let e : block_at n c + o ≡ 16 + 32 * n + (64 * (c - 1) + o) = omega arith in
      get_d_part (put_header zeros head) (block_at n c) 64 o l ∙ ap (λ (x : ℕ). get_or (put_header zeros head) x 0) e
      ∙ ap (λ (v : View). v.content (64 * (c - 1) + o)) (view_header n zeros head) ∙ byte_zeros k (16 + 32 * n + (64 * (c - 1) + o))

  pub start_reserved : header_rest_zero (start_image n k) ≡ true
  unfolding start_image view_of header_rest_zero
  start_reserved =
      ap₂ (λ (a b : ℕ). eqb a 0 && eqb b 0)
      (ap (λ (v : View). v.reserved) (view_header n zeros head) ∙ num_zeros 1 k 9)
      (ap (λ (v : View). v.reserved4) (view_header n zeros head) ∙ num_zeros 4 k 12)

  -- so every inode is free
  pub start_inode : (b i : ℕ) → 1 ≤ i → i ≤ n → InodeSound (start_image n k) n b i
  unfolding blocks_used
  start_inode b i l h =
      let a = start_kind i l h in
      let z = start_size i l h in
      record {
        kind = omega arith;
        spare = start_spare i l h;
        free = λ _. (start_links i l h, (z, start_parent i l h));
        size = omega arith;
        used = λ j _ u. absurd (omega arith);
        rest = λ j u _. bare_all _ (start_image n k) n i (λ x y. start_address (address_index i 0 + x) (omega arith)) j u;
        directory = λ q. absurd (omega arith);
        tail = λ q. absurd (omega arith);
        parent = λ q. absurd (omega arith);
      }

  pub start_row : (long : ℕ → Bool) (x : ℕ) → x < most_blocks * n → row_by long (start_image n k) n x ≡ 0
  unfolding row_by
  start_row long x l = bare_all (long (x / 44 + 1)) (start_image n k) n (x / 44 + 1) (λ y z. start_address (address_index (x / 44 + 1) 0 + y) (omega arith)) (x % 44) (omega arith)

  -- and no place is a slot
  pub start_slot : (p : ℕ) → p < most_slots * n → is_slot (start_image n k) p ≡ false
  start_slot p l = r_fails (slot_is (start_image n k) p) (λ r. let a = start_kind (dir_of p) (omega arith) (omega arith) in let q = r.0 in omega arith)

  pub start_naming : (p : ℕ) → p < most_slots * n → naming (start_image n k) n p ≡ 0
  unfolding naming
  start_naming p l = rw (start_slot p l)
