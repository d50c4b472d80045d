-- A directory takes a block more: what changes, and that a sound store stays sound. n and b are the counts of inodes and blocks, i is the directory.
use Prim.Native.Nat.{ℕ, ◌+◌, ◌-◌, ◌*◌, ◌/◌, ◌%◌, ◌≤◌, ◌<◌}
use mathlib.Core.Path.{◌≡◌, sym, ap, ◌∙◌, subst}
use mathlib.Core.Logic.{◌≢◌}
use mathlib.Core.Bool.{true}
use mathlib.Core.List.{List}
use native.Mathlib.Decide.{ℕ_discrete, dec_lt}
use native.Mathlib.Omega.{arith}
use lib.ListN.{length, get_or, set, replicate, length-set, get_or-replicate}
use lib.Seq.{get_or-set_same, get_or-set_other}
use Rattle.bounded.specs.Count.{Differ}
use Rattle.bounded.proofs.TableLaws.{length_table, get_or_table}
use Rattle.bounded.proofs.ReflectLaws.{r_fails}
use Rattle.bounded.proofs.CaseLaws.{each_else}
use Rattle.bounded.proofs.DifferLaws.{differ_new}
use Rattle.octets.proofs.PartLaws.{get_d_part}
use Rattle.layout.specs.Sizes.{address_count, block_bytes, most_blocks}
use Rattle.layout.specs.declared.header.Header.{Header}
use Rattle.layout.specs.declared.inode.Inode.{Inode}
use Rattle.layout.specs.Header.{header_of}
use Rattle.layout.specs.Inode.{kind_of, spare_of, links_of, size_of, parent_of, address_of, addresses_of, inode_of, address_index, put_inode, directory_kind, with_blocks}
use Rattle.blocks.specs.Block.{block_at, block_of, zero_block, blocks_used, bytes_place, is_long, kth_block, row_of}
use Rattle.blocks.proofs.KthLaws.{kth_direct, kth_none, row_kth}
use Rattle.blocks.proofs.ViewLaws.{inode_fits}
use Rattle.ledger.proofs.BytesLaws.{used_short, place_used}
use Rattle.layout.specs.Fits.{InodeFits}
use Rattle.names.specs.Entry.{is_empty}
use Rattle.names.proofs.EntryLaws.{empty}
use Rattle.directory.specs.Slot.{slots, entry_of}
use Rattle.sound.specs.Place.{IsDir, dir_of, slot_of, entry_at}
use Rattle.sound.specs.Inode.{InodeSound}
use Rattle.sound.specs.Sound.{Sound}
use Rattle.sound.specs.Counted.{SoundStore}
use Rattle.sound.proofs.FactLaws.{unnamed}
use Rattle.sound.proofs.PlaceLaws.{slot_is}
use Rattle.sound.proofs.SoundLaws.{any_most}
use Rattle.sound.specs.declared.Form.TheVariants.{Store}
use Rattle.preservation.proofs.StoreLaws.{fits, blocks_of_lem, no_one, free_at, dir_short}
use Rattle.preservation.proofs.SameLaws.{same_body, OtherInodes, SameFrame, SameBlock, frame_then, inode_then, zero_block_lem, zero_block_is, put_inode_lem, inode_new, inode_blocks, less_free_lem}
use Rattle.preservation.proofs.KeepLaws.{SamePlace, SameTree, Body, body_of, inode_kept, entry_in, entry_kept, place_slot, place_new, place_kept, slot_kept, changed, sound_kept}
use Rattle.preservation.proofs.AddressLaws.{row_at, unnamed_change}
use Rattle.preservation.proofs.FreeLaws.{FreeBlock}
use Rattle.content.specs.Content.{add_block}

-- block c is the next of inode i in t
pub record Grown (s t : List ℕ) (n i c : ℕ) : Type 0 where
  pub frame : SameFrame s t
  pub others : OtherInodes s t n i
  pub kind : kind_of t i ≡ kind_of s i
  pub spare : spare_of t i ≡ 0
  pub links : links_of t i ≡ links_of s i
  pub size : size_of t i ≡ block_bytes * (blocks_used (size_of s i) + 1)
  pub parent : parent_of t i ≡ parent_of s i
  pub old : (k : ℕ) → k < most_blocks → k ≢ blocks_used (size_of s i) → kth_block t n i k ≡ kth_block s n i k
  pub new : kth_block t n i (blocks_used (size_of s i)) ≡ c
  pub bytes : (a : ℕ) → 1 ≤ a → a ≢ c → SameBlock s t n a
  pub zero : block_of t n c ≡ replicate block_bytes 0
  pub free_inodes : (header_of t).free_inodes ≡ (header_of s).free_inodes
  pub free_blocks : (header_of t).free_blocks ≡ (header_of s).free_blocks - 1

module _ (s : List ℕ) (n b i c : ℕ) (h : SoundStore s n b) (k : IsDir s n i) (u : blocks_used (size_of s i) < address_count) (w : FreeBlock s n b c) where
  abbrev used : ℕ
  used = blocks_used (size_of s i)

  f : InodeFits s n i
  f = fits h i k.low k.high

  inside : block_at n c + block_bytes ≤ length s
  inside = let y = h.blocks in let x = h.inodes in let z = h.sound.framed.long in let a = w.low in let d = w.high in omega arith

  -- its addresses with c
  abbrev row : List ℕ
  row = set (addresses_of s n i) used c

  -- the inode with c
  abbrev new : Inode
  new = with_blocks (inode_of s n i) (block_bytes * (used + 1)) row

  row_long : length row ≡ address_count
  unfolding addresses_of
  row_long = length-set (addresses_of s n i) used c ∙ length_table (λ j. address_of s n (address_index i j)) 12

  row_old : (j : ℕ) → j < address_count → j ≢ used → get_or row j 0 ≡ kth_block s n i j
  unfolding addresses_of
  row_old j a q = get_or-set_other (addresses_of s n i) used j c 0 q ∙ get_or_table (λ j. address_of s n (address_index i j)) 12 j a ∙ sym (kth_direct _ s n i j a)

  row_new : get_or row used 0 ≡ c
  unfolding addresses_of
  row_new = get_or-set_same (addresses_of s n i) used c 0 (let e = length_table (λ j. address_of s n (address_index i j)) 12 in omega arith)

  abbrev zeroed : List ℕ
  zeroed = zero_block s n c

  abbrev put : List ℕ
  put = put_inode zeroed n i new

  pub block_added : Grown s (add_block s n i c) n i c
  unfolding add_block inode_of
  block_added =
      let none = free_at s n c w.free in
      let a = zero_block_lem s n c w.low none in
      let f' = inode_fits s zeroed n i a.frame.long f in
      let b = put_inode_lem zeroed n i f' new row_long in
      let g = inode_new zeroed n i f' new row_long in
      let x = a.frame.long in
      let v = b.frame.long in
      let r = f.area in
      let d = less_free_lem put n (omega arith) 0 1 in
      let q = d.inodes i k.low k.high in
      let e : header_of put ≡ header_of s = b.header ∙ a.header in
      let kind : kind_of (add_block s n i c) i ≡ kind_of s i = q.kind ∙ g.kind in
      record {
        frame = frame_then a.frame (frame_then b.frame d.frame);
        others = λ j x y z. inode_then (a.inodes j x y) (inode_then (b.others j x y z) (d.inodes j x y));
        kind = kind;
        spare = q.spare ∙ g.spare;
        links = q.links ∙ g.links;
        size = q.size ∙ g.size;
        parent = q.parent ∙ g.parent;
        old = λ j x y. elim (dec_lt j address_count) as (λ _. kth_block (add_block s n i c) n i j ≡ kth_block s n i j) [
          | yes z ↦ q.blocks j x ∙ inode_blocks zeroed n i f' new row_long j z ∙ row_old j z y
          | no z ↦ kth_none _ (add_block s n i c) n i j (dir_short (add_block s n i c) i (kind ∙ k.kind)) (omega arith) ∙ sym (kth_none _ s n i j (dir_short s i k.kind) (omega arith))
        ];
        new = q.blocks used (omega arith) ∙ inode_blocks zeroed n i f' new row_long used u ∙ row_new;
        bytes = λ x y z. d.bytes x ∙ b.bytes x ∙ a.others x y z;
        zero = d.bytes c ∙ b.bytes c ∙ zero_block_is s n c w.low none inside;
        free_inodes = d.free_inodes ∙ ap (λ (h : Header). h.free_inodes - 0) e ∙ omega arith;
        free_blocks = d.free_blocks ∙ ap (λ (h : Header). h.free_blocks - 1) e;
      }

-- ---- what follows
module _ (s t : List ℕ) (n i c : ℕ) (g : Grown s t n i c) (u : blocks_used (size_of s i) < address_count) where
  pub grown_used : blocks_used (size_of t i) ≡ blocks_used (size_of s i) + 1
  grown_used = let z = g.size in let w = used_short (size_of t i) (omega arith) in omega arith

  -- four slots more
  pub grown_slots : slots t i ≡ slots s i + 4
  unfolding slots
  grown_slots = let u = grown_used in omega arith

  -- they are empty
  pub grown_empty : (v : ℕ) → slots s i ≤ v → v < slots t i → is_empty (entry_of t n i v) ≡ true
  unfolding slots
  grown_empty v l m =
      let w = grown_used in
      let q : v / 4 ≡ blocks_used (size_of s i) = omega arith in
      let e : block_of t n (kth_block t n i (v / 4)) ≡ replicate 64 0 = ap (λ (x : ℕ). block_of t n (kth_block t n i x)) q ∙ ap (block_of t n) g.new ∙ g.zero in
      (empty (entry_of t n i v)).from
      (λ k h.
      ap (λ (x : List ℕ). get_or x k 0) (entry_in t n i v)
      ∙ get_d_part (block_of t n (kth_block t n i (v / 4))) (16 * (v % 4)) 16 k h
      ∙ ap (λ (x : List ℕ). get_or x (16 * (v % 4) + k) 0) e
      ∙ get_or-replicate 64 (16 * (v % 4) + k) 0 0 (omega arith))

  -- every other place of the row is what it was
  grown_row : (x : ℕ) → x < most_blocks * n → x ≢ most_blocks * (i - 1) + blocks_used (size_of s i) → row_of t n x ≡ row_of s n x
  grown_row x q e = row_at t n x ∙ at (ℕ_discrete (x / 44 + 1) i) ∙ sym (row_at s n x)
    where
      at : Dec (x / 44 + 1 ≡ i) → kth_block t n (x / 44 + 1) (x % 44) ≡ kth_block s n (x / 44 + 1) (x % 44)
      at (yes o) = ap (λ (j : ℕ). kth_block t n j (x % 44)) o ∙ g.old (x % 44) (omega arith) (λ k. e (omega arith)) ∙ ap (λ (j : ℕ). kth_block s n j (x % 44)) (sym o)
      at (no o) = (g.others (x / 44 + 1) (omega arith) (omega arith) o).blocks (x % 44) (omega arith)

-- ---- on a sound store, with a block that no inode has
module _ (s t : List ℕ) (n b i c : ℕ) (h : SoundStore s n b)
    (g : Grown s t n i c) (v : IsDir s n i) (u : blocks_used (size_of s i) < address_count) (free : FreeBlock s n b c) where
  body : Body s n b
  body = body_of h

  -- a block in use is not c, and stays
  pub grown_bytes : (j k : ℕ) → 1 ≤ j → j ≤ n → k < blocks_used (size_of s j) → SameBlock s t n (kth_block s n j k)
  grown_bytes j k a d q =
      let z = (blocks_of_lem h j a d).few in
      g.bytes (kth_block s n j k) ((blocks_of_lem h j a d).blocks k q).low (no_one s n c free.free j k a d (omega arith))

  pub grown_kth : (e k : ℕ) → 1 ≤ e → e ≤ n → k < blocks_used (size_of s e) → k < most_blocks → kth_block t n e k ≡ kth_block s n e k
  grown_kth e k a d q w = elim (ℕ_discrete e i) as (λ _. kth_block t n e k ≡ kth_block s n e k) [
    | yes z ↦ ap (λ (j : ℕ). kth_block t n j k) z ∙ g.old k w (let o = ap (λ (j : ℕ). blocks_used (size_of s j)) z in (λ r. omega arith)) ∙ ap (λ (j : ℕ). kth_block s n j k) (sym z)
    | no z ↦ (g.others e a d z).blocks k w
  ]

  -- every slot that was there holds what it held
  pub grown_entry : (e w : ℕ) → IsDir s n e → w < slots s e → entry_of t n e w ≡ entry_of s n e w
  unfolding slots
  grown_entry e w d q =
      let z = (blocks_of_lem h e d.low d.high).few in
      entry_kept s t n e w (grown_kth e (w / 4) d.low d.high (omega arith) (omega arith)) (grown_bytes e (w / 4) d.low d.high (omega arith))

  -- a place of the inode that grows
  grown_at : (p : ℕ) → dir_of p ≤ n → Grown s t n (dir_of p) c → blocks_used (size_of s (dir_of p)) < address_count → SamePlace s t n p
  unfolding entry_at
  grown_at p a r few = go (ℕ_discrete (kind_of s (dir_of p)) directory_kind) (dec_lt (slot_of p) (slots s (dir_of p))) (dec_lt (slot_of p) (slots t (dir_of p)))
    where
      d : ℕ
      d = dir_of p

      low : 1 ≤ d
      low = omega arith

      more : slots t d ≡ slots s d + 4
      more = grown_slots s t n d c r few

      go : Dec (kind_of s d ≡ directory_kind) → Dec (slot_of p < slots s d) → Dec (slot_of p < slots t d) → SamePlace s t n p
      go (no q) o w = place_slot s t n p (slot_kept s t p r.kind (λ e. absurd (q e))) (λ e. absurd (q ((slot_is s p).to e).0))
      go (yes q) (yes o) w =
          place_slot s t n p ((slot_is t p).from (r.kind ∙ q, (let z = more in omega arith)) ∙ sym ((slot_is s p).from (q, o))) (λ _. grown_entry d (slot_of p) (record { low = low; high = a; kind = q }) o)
      go (yes q) (no o) (yes w) =
          place_new s t n p (r_fails (slot_is s p) (λ e. o e.1)) ((slot_is t p).from (r.kind ∙ q, w)) (grown_empty s t n d c r few (slot_of p) (omega arith) w)
      go (yes q) (no o) (no w) =
          place_slot s t n p (r_fails (slot_is t p) (λ e. w e.1) ∙ sym (r_fails (slot_is s p) (λ e. o e.1))) (λ e. absurd (o ((slot_is s p).to e).1))

  pub grown_tree : SameTree s t n
  grown_tree = record {
    kinds = changed s t n i g.others kind_of g.kind (λ j e. e.kind);
    links = changed s t n i g.others links_of g.links (λ j e. e.links);
    parents = changed s t n i g.others parent_of g.parent (λ j e. e.parent);
    places = λ p q. elim (ℕ_discrete (dir_of p) i) as (λ _. SamePlace s t n p) [
      | yes e ↦ grown_at p (omega arith) (subst (λ (d : ℕ). Grown s t n d c) (sym e) g) (subst (λ (d : ℕ). blocks_used (size_of s d) < address_count) (sym e) u)
      | no e ↦ place_kept s t n p (same_body (g.others (dir_of p) (omega arith) (omega arith) e)) (λ k z w. grown_bytes (dir_of p) k (omega arith) (omega arith) w)
    ];
  }

  -- its blocks, used and not used
  grown_block : (k : ℕ) → k < most_blocks → k < blocks_used (size_of s i) + 1 → (1 ≤ kth_block t n i k) × (kth_block t n i k ≤ b)
  grown_block k a d = go (ℕ_discrete k (blocks_used (size_of s i)))
    where
      go : Dec (k ≡ blocks_used (size_of s i)) → (1 ≤ kth_block t n i k) × (kth_block t n i k ≤ b)
      go (yes e) = let w : kth_block t n i k ≡ c = ap (kth_block t n i) e ∙ g.new in let x = free.low in let y = free.high in (omega arith, omega arith)
      go (no e) =
          let w = g.old k a e in
          let o : k < blocks_used (size_of s i) = omega arith in
          let p = ((body.inodes i v.low v.high).used k a o).0 in
          let q = ((body.inodes i v.low v.high).used k a o).1 in
          (omega arith, omega arith)

  grown_inode : InodeSound t n b i
  grown_inode =
      let r = body.inodes i v.low v.high in
      let w = grown_used s t n i c g u in
      let z = g.size in
      let k = g.kind ∙ v.kind in
      record {
        kind = rw g.kind r.kind;
        spare = g.spare;
        free = λ d. absurd (omega arith);
        size = any_most (kind_of t i) (size_of t i) (omega arith);
        used = λ j a d. grown_block j a (omega arith);
        rest = λ j a d. g.old j a (λ e. omega arith) ∙ r.rest j a (omega arith);
        directory = λ d. omega arith;
        tail = λ d q. absurd (q (omega arith));
        parent = λ d. absurd (omega arith);
      }

  grown_inodes : (j : ℕ) → 1 ≤ j → j ≤ n → InodeSound t n b j
  grown_inodes j a d =
      each_else (InodeSound t n b) i j grown_inode
      (λ e. inode_kept s t n b j (g.others j a d e) (λ k q. grown_bytes j (bytes_place (size_of s j) (size_of s j / block_bytes)) a d (place_used (size_of s j) (size_of s j / 64) (omega arith))) (body.inodes j a d))

  grown_differ : Differ (row_of t n) (most_blocks * n)
  grown_differ =
      differ_new (row_of s n) (row_of t n) (most_blocks * n) (most_blocks * (i - 1) + blocks_used (size_of s i)) c body.once (unnamed s n c free.free)
      (row_kth (is_long t) t n i (blocks_used (size_of s i)) v.low (omega arith) ∙ g.new) (grown_row s t n i c g u)

  pub grown_sound : Sound Store t
  grown_sound =
      let w = unnamed_change s t n b i v.low v.high body.inodes grown_inodes body.once grown_differ (λ j a d q. (g.others j a d q).size) in
      let z = grown_used s t n i c g u in
      let p = body.free_blocks in
      let q = g.free_blocks in
      sound_kept h g.frame grown_tree grown_inodes grown_differ g.free_inodes (omega arith)

pub add_block_sound : (s : List ℕ) (n b i c : ℕ) → SoundStore s n b → IsDir s n i → blocks_used (size_of s i) < address_count → FreeBlock s n b c → Sound Store (add_block s n i c)
add_block_sound s n b i c h k u w = grown_sound s (add_block s n i c) n b i c h (block_added s n b i c h k u w) k u w
