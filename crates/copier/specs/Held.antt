-- What the five things that a step does need. s is the store, m the image, n the inode count, h the desk's header.
use Rattle.std.specs.Prelude.{ℕ, ◌+◌, ◌≤◌, ◌<◌, ◌≡◌, ◌≢◌, true, List, length}
use Rattle.layout.specs.Sizes.{address_count, most_inodes, most_image_blocks}
use Rattle.blocks.specs.Block.{is_long, address_block}
use Rattle.blocks.specs.Free.{long_but}
use Rattle.blocks.specs.Fits.{Sized, BlockFits, RowsFit}
use Rattle.desk.specs.Sizes.{desk_length}
use Rattle.desk.specs.Desk.{desk_of}
use Rattle.desk.specs.declared.Desk.{Desk}
use Rattle.sound.specs.Sound.{blocks_in}
use Rattle.sound.specs.Counted.{SoundStore}
use Rattle.image.specs.Addressed.{Addressed}

-- h is the header of the desk, and a step more can be counted
pub record Held (desk : List ℕ) (n : ℕ) (h : Desk) : Type 0 where
  pub read : h ≡ desk_of desk
  pub long : desk_length n ≤ length desk
  pub steps : h.steps + 1 < 4294967296

-- the locked inode is one of a sound store
pub record Locked (s : List ℕ) (n : ℕ) (h : Desk) : Type 0 where
  pub store : SoundStore s n (blocks_in s)
  pub low : 1 ≤ h.locked
  pub high : h.locked ≤ n

-- the next block of the locked inode may go to block c: that lies inside of m, and so does the block that its address goes to
pub record Target (m : List ℕ) (n : ℕ) (h : Desk) (c : ℕ) : Type 0 where
  pub few : n ≤ most_inodes
  pub most : c ≤ most_image_blocks
  pub block : BlockFits m n c
  pub further : address_count ≤ h.transferred → BlockFits m n (address_block m n h.locked)

-- the image while nothing is locked, and while h's inode is: any bytes that refusal 3 lets through have it
pub record FreeImage (m : List ℕ) (n : ℕ) (h : Desk) : Type 0 where
  pub most : h.blocks ≤ most_image_blocks
  pub addressed : Addressed m n
  pub rows : RowsFit (is_long m) m n

pub record OpenImage (s m : List ℕ) (n : ℕ) (h : Desk) : Type 0 where
  pub sized : Sized m n h.blocks
  pub addressed : Addressed m n
  pub rows : RowsFit (long_but m h.locked (is_long s h.locked)) m n
  pub further : is_long s h.locked ≡ true → address_count ≤ h.transferred → address_block m n h.locked ≢ 0
