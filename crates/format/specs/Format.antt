-- "Laying out, which is not itself a file call, zeroes the buffer, then writes a true header and an empty root, or a desk's N."
use Rattle.std.specs.Prelude.{ℕ, ◌-◌, List, length, replicate, Err, Ok}
use Rattle.bounded.specs.Search.{pick}
use Rattle.layout.specs.Sizes.{most_store_blocks, root_inode, is_complete}
use Rattle.layout.specs.Header.{put_header}
use Rattle.layout.specs.Inode.{put_inode, directory_kind, empty_inode}
use Rattle.blocks.specs.Block.{store_length, allowed}
use Rattle.layout.specs.declared.header.Header.{Header}
use Rattle.layout.specs.declared.inode.Inode.{Inode}
use Rattle.desk.specs.Sizes.{desk_length, idle, desk_allowed}
use Rattle.desk.specs.Desk.{put_desk}
use Rattle.answers.specs.declared.Refusal.TheVariants.{BadBuffer}
use Rattle.answers.specs.Told.{Answer, Told, told}

-- what a layout call leaves: its answer by the paper's numbers, and the buffer's content
pub record LaidOut : Type 0 where
  pub answer : Told
  pub buffer : List ℕ

abbrev pub laid_out : Answer → List ℕ → LaidOut
laid_out r s = record { answer = told r; buffer = s }

-- ---- A store
-- a true header: all inodes but the root are free, and all blocks
unfoldable pub fresh_header : ℕ → ℕ → Header
fresh_header n b = record { inodes = n; blocks = b; free_inodes = n - 1; free_blocks = b; complete = is_complete; root = root_inode }

-- an empty directory that no entry names
unfoldable pub empty_root : Inode
empty_root = empty_inode directory_kind

unfoldable pub fresh_store : ℕ → ℕ → List ℕ
fresh_store n b = put_inode (put_header (replicate (store_length n b) 0) (fresh_header n b)) n root_inode empty_root

unfoldable pub lay_out_store : List ℕ → ℕ → ℕ → LaidOut
lay_out_store s n b = pick (allowed most_store_blocks n b (length s)) (laid_out (Ok 0) (fresh_store n b)) (laid_out (Err BadBuffer) s)

-- ---- A desk
-- its N, and nothing else
unfoldable pub fresh_desk : ℕ → List ℕ
fresh_desk n = put_desk (replicate (desk_length n) 0) (record { inodes = n; blocks = 0; state = idle; locked = 0; transferred = 0; steps = 0 })

unfoldable pub lay_out_desk : List ℕ → ℕ → LaidOut
lay_out_desk desk n = pick (desk_allowed n (length desk)) (laid_out (Ok 0) (fresh_desk n)) (laid_out (Err BadBuffer) desk)
