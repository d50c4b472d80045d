-- The store's bytes after an accepted create, link, unlink or rename. n is the count of inodes.
use Rattle.std.specs.Prelude.{ℕ, ◌+◌, ◌-◌, List, eqb, leb}
use Rattle.bounded.specs.Search.{pick}
use Rattle.layout.specs.Header.{less_free, more_free}
use Rattle.layout.specs.declared.inode.Inode.{Inode}
use Rattle.layout.specs.Inode.{kind_of, links_of, size_of, inode_of, put_inode, put_attributes, put_links, file_kind, directory_kind, empty_inode, zero_inode, with_links, with_parent}
use Rattle.blocks.specs.Block.{blocks_used}
use Rattle.directory.specs.Slot.{put_entry, clear_entry}
use Rattle.entries.specs.declared.Room.{Room}
use Rattle.entries.specs.declared.Kind.{Kind}
use Rattle.entries.specs.declared.Kind.TheVariants.{File, Directory}
use Rattle.entries.specs.Room.{make_room}

-- an entry in the room: the directory takes its block first
unfoldable pub enter : List ℕ → ℕ → ℕ → Room → ℕ → List ℕ → List ℕ
enter s n d r i name = put_entry (make_room s n d r) n d r.slot i name

-- a new inode that the directory d names: empty, with one link; "parent directory (2; 0 for files and root)"
abbrev pub new_inode : Kind → ℕ → Inode
new_inode File d = with_links (empty_inode file_kind) 1
new_inode Directory d = with_parent (with_links (empty_inode directory_kind) 1) d

unfoldable pub created : List ℕ → ℕ → ℕ → List ℕ → Kind → ℕ → Room → List ℕ
created s n d name k i r = less_free (put_inode (enter s n d r i name) n i (new_inode k d)) 1 0

unfoldable pub linked : List ℕ → ℕ → ℕ → List ℕ → ℕ → Room → List ℕ
linked s n d name i r = let t = enter s n d r i name in put_links t i (links_of t i + 1)

-- one link of i less; "Unlinking the last link frees the inode and its blocks."
unfoldable pub drop_link : List ℕ → ℕ → ℕ → List ℕ
drop_link s n i =
    pick (leb (links_of s i) 1)
    (more_free (put_inode s n i zero_inode) 1 (blocks_used (size_of s i)))
    (put_links s i (links_of s i - 1))

unfoldable pub unlinked : List ℕ → ℕ → ℕ → ℕ → ℕ → List ℕ
unlinked s n d t i = drop_link (clear_entry s n d t) n i

-- within a directory
abbrev pub renamed : List ℕ → ℕ → ℕ → List ℕ → ℕ → ℕ → List ℕ
renamed s n d other t i = put_entry s n d t i other

-- "writes a directory's new parent"
unfoldable pub set_parent : List ℕ → ℕ → ℕ → ℕ → List ℕ
set_parent s n i e = pick (eqb (kind_of s i) directory_kind) (put_attributes s i (with_parent (inode_of s n i) e)) s

-- to another directory: it takes its block first, if it needs one; then the old slot is emptied and the new one filled
unfoldable pub moved : List ℕ → ℕ → ℕ → ℕ → List ℕ → ℕ → ℕ → Room → List ℕ
moved s n d e other t i r = set_parent (put_entry (clear_entry (make_room s n e r) n d t) n e r.slot i other) n i e
