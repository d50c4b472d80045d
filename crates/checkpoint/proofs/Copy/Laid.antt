-- How image and desk lie at every moment of a running copy: what each buffer holds, apart from history. s is the store, m the image, d the desk, n and b the counts of inodes and image blocks.
use Prim.Native.Nat.{ℕ, ◌+◌, ◌*◌, ◌≤◌, ◌<◌}
use mathlib.Core.Path.{◌≡◌, ◌∙◌}
use mathlib.Core.Logic.{◌≢◌, ◌⊎◌}
use mathlib.Core.Bool.{true, false}
use mathlib.Core.List.{List}
use lib.Dec.{eqb}
use lib.ListN.{length, get_or}
use Rattle.bounded.specs.Search.{pick}
use Rattle.bounded.specs.Count.{Differ}
use Rattle.bounded.specs.Sum.{sum}
use Rattle.layout.specs.Sizes.{most_inodes, most_image_blocks, most_blocks, address_place, block_bytes, root_inode, not_complete}
use Rattle.layout.specs.Header.{header_of, header_rest_zero}
use Rattle.layout.specs.Inode.{kind_of, spare_of, links_of, size_of, parent_of, free_kind}
use Rattle.blocks.specs.Block.{store_length, block_of, blocks_used, is_long, kth_by, row_by}
use Rattle.blocks.specs.Free.{named_by}
use Rattle.names.specs.Entry.{is_empty, entry_inode, legal_entry}
use Rattle.directory.specs.Slot.{most_slots}
use Rattle.desk.specs.Sizes.{desk_length, running}
use Rattle.desk.specs.Desk.{desk_of, copied_of, is_copied}
use Rattle.desk.specs.Desk as desk
use Rattle.sound.specs.Place.{is_slot, entry_at}
use Rattle.sound.specs.Inode.{InodeSound}
use Rattle.preservation.proofs.SameLaws.{SameFrame}
use Rattle.checkpoint.specs.Fit.{image_long}
use Rattle.checkpoint.specs.Copier.{copied_block}

-- the desk of a running copy
pub record DeskLaid (n b : ℕ) (d : List ℕ) : Type 0 where
  pub long : length d ≡ desk_length n
  pub inodes : (desk_of d).inodes ≡ n
  pub blocks : (desk_of d).blocks ≡ b
  pub state : (desk_of d).state ≡ running
  pub reserved : desk.desk_rest_zero d ≡ true
  pub bytes : (i : ℕ) → 1 ≤ i → i ≤ n → copied_of d i ≤ 1
  pub high : (desk_of d).locked ≤ n
  -- with nothing locked no block is counted
  pub none : (desk_of d).locked ≡ 0 → (desk_of d).transferred ≡ 0

-- the image's frame
pub record Frame (n b : ℕ) (m : List ℕ) : Type 0 where
  pub some_inodes : 1 ≤ n
  pub most_inodes_lem : n ≤ most_inodes
  pub some_blocks : 1 ≤ b
  pub most_blocks_lem : b ≤ most_image_blocks
  pub long : length m ≡ store_length n b
  pub inodes : (header_of m).inodes ≡ n
  pub blocks : (header_of m).blocks ≡ b
  pub root : (header_of m).root ≡ root_inode
  pub complete : (header_of m).complete ≡ not_complete
  pub reserved : header_rest_zero m ≡ true

pub frame_kept : {n b : ℕ} {m t : List ℕ} → SameFrame m t → Frame n b m → Frame n b t
frame_kept g f = record {
  some_inodes = f.some_inodes;
  most_inodes_lem = f.most_inodes_lem;
  some_blocks = f.some_blocks;
  most_blocks_lem = f.most_blocks_lem;
  long = g.long ∙ f.long;
  inodes = g.inodes ∙ f.inodes;
  blocks = g.blocks ∙ f.blocks;
  root = g.root ∙ f.root;
  complete = g.complete ∙ f.complete;
  reserved = g.reserved ∙ f.reserved;
}

-- the locked inode l, k of whose blocks are copied: no attributes yet, k addresses, and each of these blocks but the address block is as a step would copy it now
pub record Open (n b : ℕ) (s m d : List ℕ) (l k : ℕ) : Type 0 where
  pub low : 1 ≤ l
  pub new : is_copied d n l ≡ false
  pub spare : spare_of m l ≡ 0
  pub links : links_of m l ≡ 0
  pub size : size_of m l ≡ 0
  pub parent : parent_of m l ≡ 0
  pub few : k ≤ blocks_used (size_of s l)
  pub named : (j : ℕ) → j < most_blocks → j < k → (1 ≤ kth_by (is_long s l) m n l j) × (kth_by (is_long s l) m n l j ≤ b)
  pub rest : (j : ℕ) → j < most_blocks → k ≤ j → kth_by (is_long s l) m n l j ≡ 0
  pub blocks : (j : ℕ) → j < k → (is_long s l ≡ true → j ≢ address_place) → block_of m n (kth_by (is_long s l) m n l j) ≡ copied_block s d n l j

-- an image entry: empty, or it names an inode and has a legal name
abbrev pub Fair : List ℕ → Type 0
Fair e = (is_empty e ≡ true) ⊎ ((entry_inode e ≢ 0) × (legal_entry e ≡ true))

-- the steps that inode j + 1 took: locked, each of its blocks, closed
unfoldable pub cost : List ℕ → List ℕ → ℕ → ℕ → ℕ
cost m d n j = pick (is_copied d n (j + 1)) (2 + blocks_used (size_of m (j + 1))) 0

-- the steps that the locked inode has taken so far
unfoldable pub cost_so_far : List ℕ → ℕ
cost_so_far d = pick (eqb (desk_of d).locked 0) 0 (1 + (desk_of d).transferred)

pub record Laid (n b : ℕ) (s m d : List ℕ) : Type 0 where
  pub desk : DeskLaid n b d
  pub frame : Frame n b m
  -- an inode that is not locked is sound by itself, and one that is not copied is blank
  pub inodes : (i : ℕ) → 1 ≤ i → i ≤ n → i ≢ (desk_of d).locked → InodeSound m n b i
  pub blank : (i : ℕ) → 1 ≤ i → i ≤ n → is_copied d n i ≡ false → kind_of m i ≡ free_kind
  pub opened : (desk_of d).locked ≢ 0 → Open n b s m d (desk_of d).locked (desk_of d).transferred
  -- no image block is named twice, and those that none names are zero
  pub once : Differ (row_by (image_long s m d) m n) (most_blocks * n)
  pub blanks : (c : ℕ) → 1 ≤ c → c ≤ b → named_by (image_long s m d) m n c ≡ false → (o : ℕ) → o < block_bytes → get_or (block_of m n c) o 0 ≡ 0
  pub fair : (p : ℕ) → p < most_slots * n → is_slot m p ≡ true → Fair (entry_at m n p)
  -- every accepted step is accounted for
  pub steps : (desk_of d).steps ≡ sum (cost m d n) n + cost_so_far d
