-- A file gives blocks back: what changes, and that a sound store stays sound, across the edge or not. n and b are the counts of inodes and blocks, i is the file.
use Prim.Native.Nat.{ℕ, ◌+◌, ◌-◌, ◌/◌, ◌%◌, ◌≤◌, ◌<◌}
use mathlib.Core.Path.{◌≡◌, ap, ap₂, ◌∙◌, subst}
use mathlib.Core.Bool.{Bool, true, false, ◌&&◌}
use mathlib.Core.List.{List}
use native.Mathlib.Decide.{dec_lt}
use native.Mathlib.Omega.{arith}
use borrow.Author.Tests.{eq-eqb, lt-ltb, ltb-true, leb-true, le-leb}
use lib.Dec.{eqb, ltb, leb}
use lib.ListN.{get_or}
use Rattle.bounded.specs.Table.{table}
use Rattle.bounded.proofs.TableLaws.{table_ext}
use Rattle.bounded.proofs.BoolLaws.{and_left, and_right, and-true, clash}
use Rattle.layout.specs.Sizes.{block_bytes, most_blocks, most_direct_bytes, most_file_bytes}
use Rattle.layout.specs.declared.header.Header.{Header}
use Rattle.layout.specs.Header.{header_of, more_free}
use Rattle.layout.specs.Inode.{kind_of, size_of, inode_of, put_attributes, with_size, file_kind}
use Rattle.blocks.specs.Block.{block_of, blocks_used, is_long, kth_by, kth_block, bytes_block, put_row}
use Rattle.ledger.specs.Change.{kept}
use Rattle.ledger.proofs.ChangeLaws.{Rewritten, ledger_cut, kept_ext}
use Rattle.ledger.proofs.BytesLaws.{used_limits, used_long, used_up, cut_bytes}
use Rattle.sound.specs.Sound.{Sound}
use Rattle.sound.specs.Counted.{SoundStore}
use Rattle.sound.proofs.SoundLaws.{size_most}
use Rattle.sound.specs.declared.Form.TheVariants.{Store}
use Rattle.preservation.proofs.SameLaws.{InCounts, more_free_lem}
use Rattle.preservation.proofs.KeepLaws.{body_of}
use Rattle.preservation.proofs.StoreLaws.{sized_at, blocks_of_lem}
use Rattle.growth.specs.Extend.{put_size, put_blocks, cut_blocks}
use Rattle.growth.proofs.FileFrame.{InFile}
use Rattle.growth.proofs.ResizeLaws as new
use Rattle.growth.proofs.ResizeLaws.{Resize, unused_stay, resize, resized, resized_sound}

module _ {s : List ℕ} {n b : ℕ} (h : SoundStore s n b) (i : ℕ) (low : 1 ≤ i) (high : i ≤ n) (file : kind_of s i ≡ file_kind) (z : ℕ) (fewer : z ≤ size_of s i)
    (past : (z % block_bytes ≡ 0 → ⊥) → (o : ℕ) → o < block_bytes → z % block_bytes ≤ o → get_or (block_of s n (bytes_block s n i (z / block_bytes))) o 0 ≡ 0) where
  abbrev y : ℕ
  y = size_of s i

  -- the address block is there no longer
  abbrev over : Bool
  over = is_long s i && leb z most_direct_bytes

  abbrev f : ℕ → ℕ
  f = kept over (kth_block s n i) (blocks_used z)

  abbrev row : List ℕ
  row = table f most_blocks

  most : z ≤ most_file_bytes
  most = let e = size_most ((body_of h).inodes i low high) in omega arith

  -- long is by the size
  long_over : is_long s i ≡ true → most_direct_bytes < y
  unfolding is_long
  long_over e = ltb-true most_direct_bytes y (and_right (eqb (kind_of s i) file_kind) (ltb most_direct_bytes y) e)

  over_long : most_direct_bytes < y → is_long s i ≡ true
  unfolding is_long
  over_long l = and-true _ _ (eq-eqb (kind_of s i) file_kind file) (lt-ltb most_direct_bytes y l)

  over_is : over ≡ true → (z ≤ most_direct_bytes) × (most_direct_bytes < y)
  over_is e = (leb-true z most_direct_bytes (and_right (is_long s i) (leb z most_direct_bytes) e), long_over (and_left (is_long s i) (leb z most_direct_bytes) e))

  over_not : over ≡ false → most_direct_bytes < y → most_direct_bytes < z
  over_not e l = go (dec_lt 768 z)
    where
      go : Dec (768 < z) → 768 < z
      go (yes q) = q
      go (no q) = absurd (clash over (and-true (is_long s i) (leb z most_direct_bytes) (over_long l) (le-leb z most_direct_bytes (omega arith))) e)

  down : blocks_used z ≤ blocks_used y
  down = used_up z y fewer

  -- ---- the three writes
  abbrev s₁ : List ℕ
  s₁ = put_attributes s i (with_size (inode_of s n i) z)

  abbrev s₂ : List ℕ
  s₂ = put_row (ltb most_direct_bytes z) s₁ n i row

  abbrev t : List ℕ
  t = more_free s₂ 0 (blocks_used y - blocks_used z)

  sized : Resize s s₁ s₂ n b i z
  sized = resize h (unused_stay s n) i low high z row

  counts : InCounts s₂ t n ((header_of s₂).free_inodes + 0) ((header_of s₂).free_blocks + (blocks_used y - blocks_used z))
  counts = more_free_lem s₂ n (let x = sized.frame.long in let e = (sized_at h).long in omega arith) 0 (blocks_used y - blocks_used z)

  -- ---- the ledger
  abbrev left : ℕ → ℕ
  left = kept over (kth_by (is_long s i) s₁ n i) (blocks_used (size_of s₂ i))

  same : (u : ℕ) → left u ≡ f u
  same u =
      ap (λ (k : ℕ). kept over (kth_by (is_long s i) s₁ n i) k u) (new.has_now h file low high sized)
      ∙ kept_ext over (kth_by (is_long s i) s₁ n i) (kth_block s n i) (blocks_used z) ((used_limits z).0 most) (λ w l. sized.old i w low high l) u

  raw : Rewritten (is_long s) (is_long s₂) (λ j. blocks_used (size_of s₂ j)) s₁ (put_row (is_long s₂ i) s₁ n i (table left most_blocks)) n b i left
  raw =
      let e = new.has_now h file low high sized in
      let d = down in
      ledger_cut (new.before h file low high sized) sized.long i low high (is_long s₂) (λ j. blocks_used (size_of s₂ j))
      (new.flags_stay h file low high sized) (new.counts_stay h file low high sized) (new.long_enough h file low high sized) (new.short_enough h file low high sized)
      over (omega arith) (blocks_of_lem h i low high).few (λ q. let x = used_long y (over_is q).1 in let w = (over_is q).1 in omega arith)

  after : Rewritten (is_long s) (is_long s₂) (λ j. blocks_used (size_of s₂ j)) s₁ s₂ n b i left
  after = subst (λ (x : List ℕ). Rewritten (is_long s) (is_long s₂) (λ j. blocks_used (size_of s₂ j)) s₁ x n b i left)
      (ap₂ (λ (q : Bool) (a : List ℕ). put_row q s₁ n i a) (new.long_now h file low high sized) (table_ext _ _ most_blocks (λ u _. same u))) raw

  -- ---- the block that the new size ends in is one that was there
  tail : (z % block_bytes ≡ 0 → ⊥) → (o : ℕ) → o < block_bytes → z % block_bytes ≤ o → get_or (block_of s₂ n (bytes_block s₂ n i (z / block_bytes))) o 0 ≡ 0
  tail q o l r =
      let w = new.old_block h low high file most sized after f same (z / 64) (omega arith) (omega arith) (cut_bytes (kth_block s n i) y z (z / 64) fewer (omega arith) over over_is over_not) in
      ap (λ (a : ℕ). get_or (block_of s₂ n a) o 0) w.0 ∙ ap (λ (a : List ℕ). get_or a o 0) w.1 ∙ past q o l r

  free_inodes : (header_of s₂).free_inodes + 0 ≡ (header_of s).free_inodes
  free_inodes = ap (λ (x : Header). x.free_inodes + 0) sized.header ∙ omega arith

  free_blocks : (header_of s₂).free_blocks + (blocks_used y - blocks_used z) + blocks_used z ≡ (header_of s).free_blocks + blocks_used y
  free_blocks = let e = ap (λ (x : Header). x.free_blocks) sized.header in let d = down in omega arith

  pub cut_keeps : Sound Store (cut_blocks s n i z)
  unfolding cut_blocks put_blocks put_size
  cut_keeps = resized_sound h low high file most sized after f same tail counts free_inodes free_blocks

  pub cut_file : InFile s (cut_blocks s n i z) n i z
  unfolding cut_blocks put_blocks put_size
  cut_file = resized h low high file most sized after f same tail counts free_inodes free_blocks
