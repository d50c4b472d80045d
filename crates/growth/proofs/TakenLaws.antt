-- A file takes blocks: what changes, and that a sound store stays sound, across the edge or not. n and b are the counts of inodes and blocks, i is the file, m the blocks more.
use Prim.Native.Nat.{ℕ, ◌+◌, ◌*◌, ◌-◌, ◌/◌, ◌%◌, ◌≤◌, ◌<◌}
use mathlib.Core.Path.{◌≡◌, sym, ap, ap₂, ◌∙◌, subst}
use mathlib.Core.Bool.{Bool, false}
use mathlib.Core.List.{List}
use native.Mathlib.Decide.{dec_lt}
use native.Mathlib.Omega.{arith}
use borrow.Author.Tests.{not-true}
use lib.Dec.{ltb}
use lib.ListN.{get_or, replicate, get_or-replicate}
use Rattle.bounded.specs.Table.{table}
use Rattle.bounded.proofs.TableLaws.{table_ext}
use Rattle.bounded.specs.Count.{count_to}
use Rattle.layout.specs.Sizes.{block_bytes, most_blocks, most_direct_bytes, most_file_bytes}
use Rattle.layout.specs.declared.header.Header.{Header}
use Rattle.layout.specs.Header.{header_of, less_free}
use Rattle.layout.specs.Inode.{kind_of, size_of, inode_of, put_attributes, with_size, file_kind}
use Rattle.blocks.specs.Block.{block_of, blocks_used, bytes_place, is_long, kth_by, kth_block, bytes_block, put_row}
use Rattle.blocks.specs.Free.{block_named, block_free}
use Rattle.ledger.specs.Change.{grown}
use Rattle.ledger.specs.Nth.{nth_free}
use Rattle.ledger.proofs.ChangeLaws.{Rewritten, ledger_grown, grown_ext}
use Rattle.ledger.proofs.BytesLaws.{bytes_blocks, used_limits, grown_bytes, grown_new}
use Rattle.ledger.proofs.NthLaws.{nth_is, nth_rising}
use Rattle.sound.specs.Sound.{Sound}
use Rattle.sound.specs.Counted.{SoundStore}
use Rattle.sound.specs.declared.Form.TheVariants.{Store}
use Rattle.preservation.proofs.SameLaws.{SameBlock, InInode, InCounts, put_attributes_lem, less_free_lem}
use Rattle.preservation.proofs.KeepLaws.{Body, body_of}
use Rattle.preservation.proofs.StoreLaws.{sized_at, fits, blocks_of_lem, no_one, free_at}
use Rattle.blocks.proofs.ViewLaws.{inode_fits}
use Rattle.growth.specs.Extend.{file_byte, zero_blocks, put_size, put_blocks, taken}
use Rattle.growth.proofs.ZeroLaws.{Zeroed, zero_blocks_lem}
use Rattle.growth.proofs.FileFrame.{InFile}
use Rattle.growth.proofs.ResizeLaws as new
use Rattle.growth.proofs.ResizeLaws.{Resize, Unused, resize, resized, resized_sound}

module _ {s : List ℕ} {n b : ℕ} (h : SoundStore s n b) (i : ℕ) (low : 1 ≤ i) (high : i ≤ n) (file : kind_of s i ≡ file_kind) (z m : ℕ)
    (more : size_of s i ≤ z) (most : z ≤ most_file_bytes) (count : blocks_used z ≡ blocks_used (size_of s i) + m) (left : m ≤ (header_of s).free_blocks) where
  body : Body s n b
  body = body_of h

  abbrev y : ℕ
  y = size_of s i

  abbrev c : ℕ → ℕ
  c = nth_free (block_free s n) b

  abbrev f : ℕ → ℕ
  f = grown (kth_block s n i) (blocks_used y) m c

  abbrev row : List ℕ
  row = table f most_blocks

  -- ---- the blocks that are taken
  enough : m ≤ count_to (block_free s n) b
  enough = let e = body.free_blocks in omega arith

  c_in : (j : ℕ) → j < m → (1 ≤ c j) × (c j ≤ b)
  c_in j l = let e = enough in let r = nth_is (block_free s n) b j (omega arith) in (r.low, r.high)

  c_free : (j : ℕ) → j < m → block_named s n (c j) ≡ false
  c_free j l = let e = enough in not-true (block_named s n (c j)) (nth_is (block_free s n) b j (omega arith)).passes

  c_rises : (j u : ℕ) → j < u → u < m → c j < c u
  c_rises j u l r = let e = enough in nth_rising (block_free s n) b j u l (omega arith)

  -- ---- the four writes
  abbrev s₀ : List ℕ
  s₀ = zero_blocks s n c m

  abbrev s₁ : List ℕ
  s₁ = put_attributes s₀ i (with_size (inode_of s₀ n i) z)

  abbrev s₂ : List ℕ
  s₂ = put_row (ltb most_direct_bytes z) s₁ n i row

  abbrev t : List ℕ
  t = less_free s₂ 0 m

  zeroed : Zeroed s s₀ n c m
  zeroed =
      let e = (sized_at h).long in
      zero_blocks_lem s n c m (λ j l. let r = c_in j l in let x = r.0 in let w = r.1 in (x, omega arith)) (λ j l. free_at s n (c j) (c_free j l)) c_rises

  unused : Unused s s₀ n
  unused = record {
    frame = zeroed.frame;
    header = zeroed.header;
    inodes = zeroed.inodes;
    used = λ j u l r q.
        let k = (blocks_of_lem h j l r).few in
        zeroed.others (kth_block s n j u) ((blocks_of_lem h j l r).blocks u q).low (λ p d. no_one s n (c p) (c_free p d) j u l r (omega arith));
  }

  sized : Resize s s₁ s₂ n b i z
  sized = resize h unused i low high z row

  counts : InCounts s₂ t n ((header_of s₂).free_inodes - 0) ((header_of s₂).free_blocks - m)
  counts = less_free_lem s₂ n (let x = sized.frame.long in let e = (sized_at h).long in omega arith) 0 m

  -- ---- the ledger
  abbrev was : ℕ → ℕ
  was = kth_by (is_long s i) s₁ n i

  same : (u : ℕ) → grown was (blocks_used y) m c u ≡ f u
  same = grown_ext was (kth_block s n i) (blocks_used y) m c (λ u l. let k = (blocks_of_lem h i low high).few in sized.old i u low high (omega arith))

  raw : Rewritten (is_long s) (is_long s₂) (λ j. blocks_used (size_of s₂ j)) s₁ (put_row (is_long s₂ i) s₁ n i (table (grown was (blocks_used y) m c) most_blocks)) n b i (grown was (blocks_used y) m c)
  raw =
      let e = new.has_now h file low high sized in
      let k = (used_limits z).0 most in
      ledger_grown (new.before h file low high sized) sized.long i low high (is_long s₂) (λ j. blocks_used (size_of s₂ j))
      (new.flags_stay h file low high sized) (new.counts_stay h file low high sized) (new.long_enough h file low high sized) (new.short_enough h file low high sized)
      m c (e ∙ count) (omega arith) c_in
      (λ j l p u r q w d. no_one s n (c j) (c_free j l) p u r q w (sym (sized.old p u r q w) ∙ d))
      c_rises

  after : Rewritten (is_long s) (is_long s₂) (λ j. blocks_used (size_of s₂ j)) s₁ s₂ n b i (grown was (blocks_used y) m c)
  after = subst (λ (x : List ℕ). Rewritten (is_long s) (is_long s₂) (λ j. blocks_used (size_of s₂ j)) s₁ x n b i (grown was (blocks_used y) m c))
      (ap₂ (λ (q : Bool) (a : List ℕ). put_row q s₁ n i a) (new.long_now h file low high sized) (table_ext _ _ most_blocks (λ u _. same u))) raw

  -- ---- the blocks of bytes
  -- one that it had
  old_block : (p : ℕ) → p < bytes_blocks y → (bytes_block s₂ n i p ≡ bytes_block s n i p) × SameBlock s s₂ n (bytes_block s n i p)
  old_block p l = new.old_block h low high file most sized after f same p l (omega arith) (grown_bytes (kth_block s n i) y z m c more (omega arith) p l)

  -- one that is new is zero
  new_block : (p : ℕ) → bytes_blocks y ≤ p → p < bytes_blocks z → block_of s₂ n (bytes_block s₂ n i p) ≡ replicate block_bytes 0
  new_block p l e =
      let r = grown_new (kth_block s n i) y z m c more count p l e in
      let j = r.0 in
      let q : j < m = r.1 in
      ap (block_of s₂ n) (new.bytes_now h low high file most sized after f same p e ∙ r.2)
      ∙ new.bytes_stay h low high file most sized after f same p e (c j) r.2 (c_in j q).0
      ∙ attributes.bytes (c j) ∙ zeroed.zero j q
    where
      attributes : InInode s₀ s₁ n i
      attributes = put_attributes_lem s₀ n i (inode_fits s s₀ n i zeroed.frame.long (fits h i low high)) (with_size (inode_of s₀ n i) z)

  tail : (z % block_bytes ≡ 0 → ⊥) → (o : ℕ) → o < block_bytes → z % block_bytes ≤ o → get_or (block_of s₂ n (bytes_block s₂ n i (z / block_bytes))) o 0 ≡ 0
  tail q o l r = go (dec_lt (z / 64) (bytes_blocks y))
    where
      go : Dec (z / 64 < bytes_blocks y) → get_or (block_of s₂ n (bytes_block s₂ n i (z / 64))) o 0 ≡ 0
      go (yes w) =
          let p : z / 64 ≡ y / 64 = omega arith in
          ap (λ (a : ℕ). get_or (block_of s₂ n a) o 0) (old_block (z / 64) w).0 ∙ ap (λ (a : List ℕ). get_or a o 0) (old_block (z / 64) w).1
          ∙ ap (λ (a : ℕ). get_or (block_of s n (bytes_block s n i a)) o 0) p
          ∙ (body.inodes i low high).tail file (λ d. omega arith) o l (omega arith)
      go (no w) = ap (λ (a : List ℕ). get_or a o 0) (new_block (z / 64) (omega arith) (omega arith)) ∙ get_or-replicate 64 o 0 0 l

  free_inodes : (header_of s₂).free_inodes - 0 ≡ (header_of s).free_inodes
  free_inodes = ap (λ (x : Header). x.free_inodes - 0) sized.header ∙ omega arith

  free_blocks : (header_of s₂).free_blocks - m + blocks_used z ≡ (header_of s).free_blocks + blocks_used y
  free_blocks = let e = ap (λ (x : Header). x.free_blocks) sized.header in omega arith

  pub taken_keeps : Sound Store (taken s n b i z m)
  unfolding taken put_blocks put_size
  taken_keeps = resized_sound h low high file most sized after f same tail counts free_inodes free_blocks

  pub taken_file : InFile s (taken s n b i z m) n i z
  unfolding taken put_blocks put_size
  taken_file = resized h low high file most sized after f same tail counts free_inodes free_blocks

  pub taken_bytes : (x : ℕ) → x < block_bytes * bytes_blocks (size_of s i) → file_byte (taken s n b i z m) n i x ≡ file_byte s n i x
  unfolding taken put_blocks put_size file_byte
  taken_bytes x l =
      let e = counts.inodes i low high in
      let d = old_block (x / 64) (omega arith) in
      let q : bytes_block t n i (x / 64) ≡ bytes_block s₂ n i (x / 64) =
      ap (λ (w : ℕ). kth_block t n i (bytes_place w (x / 64))) e.size
      ∙ e.blocks (bytes_place (size_of s₂ i) (x / 64)) (subst (λ (w : ℕ). bytes_place w (x / 64) < most_blocks) (sym sized.size) (new.place_in h low high file most sized after f same (x / 64) (omega arith))) in
      ap (λ (a : ℕ). get_or (block_of t n a) (x % 64) 0) (q ∙ d.0)
      ∙ ap (λ (a : List ℕ). get_or a (x % 64) 0) (counts.bytes (bytes_block s n i (x / 64)) ∙ d.1)
