-- What a line of a script prints: its answer, and the listing of a finished copy. m is the image, n the inode count, p a place of all slots in a row.
use Rattle.std.specs.Prelude.{ℕ, zero, suc, ◌+◌, ◌*◌, ◌≤◌, Bool, List, [], ◌++◌, eqb, length, Result, Ok, Err}
use Rattle.bounded.specs.Search.{pick}
use Rattle.layout.specs.Header.{header_of}
use Rattle.layout.specs.Inode.{kind_of, size_of, links_of, directory_kind}
use Rattle.names.specs.Entry.{entry_inode, entry_name}
use Rattle.directory.specs.Slot.{most_slots}
use Rattle.desk.specs.Desk.{desk_of}
use Rattle.sound.specs.Sound.{Sound, inodes_in}
use Rattle.sound.specs.declared.Form.TheVariants.{Image}
use Rattle.sound.specs.Place.{dir_of, slot_of, entry_at, filled}
use Rattle.text.specs.Letters.{letters}
use Rattle.text.specs.Put.{decimal_text, pair_text}

-- "Each prints `ok` with the new inode, new size (`wr`, `sh`), steps so far (`st`) or 0; or `no` and the number."
unfoldable pub word_text : Result ℕ ℕ → List ℕ
word_text (Ok v) = letters "ok " ++ decimal_text v
word_text (Err v) = letters "no " ++ decimal_text v

unfoldable pub reply_text : Result ℕ ℕ → List ℕ
reply_text r = word_text r ++ letters "\n"

-- "`image`, N, blocks, free inodes, free blocks, steps"
unfoldable pub counts_text : List ℕ → List ℕ
counts_text m =
    pair_text (letters "image ") (header_of m).inodes (header_of m).blocks ++ pair_text (letters " ") (header_of m).free_inodes (header_of m).free_blocks

unfoldable pub head_text : List ℕ → List ℕ → List ℕ
head_text m desk = (counts_text m ++ (letters " " ++ decimal_text (desk_of desk).steps)) ++ letters "\n"

-- "directory, slot, inode, kind, size, links, name"
unfoldable pub place_text : ℕ → ℕ → ℕ → List ℕ
place_text e t i = pair_text [] e t ++ (letters " " ++ decimal_text i)

unfoldable pub kind_text : ℕ → List ℕ
kind_text k = pick (eqb k directory_kind) (letters " d") (letters " f")

unfoldable pub inode_text : List ℕ → ℕ → List ℕ
inode_text m i = kind_text (kind_of m i) ++ pair_text (letters " ") (size_of m i) (links_of m i)

unfoldable pub name_text : List ℕ → List ℕ
name_text e = (letters " " ++ entry_name e) ++ letters "\n"

unfoldable pub entry_text : List ℕ → ℕ → ℕ → List ℕ
entry_text m n p =
    let i = entry_inode (entry_at m n p) in
    (place_text (dir_of p) (slot_of p) i ++ inode_text m i) ++ name_text (entry_at m n p)

unfoldable pub slot_text : List ℕ → ℕ → ℕ → List ℕ
slot_text m n p = pick (filled m n p) (entry_text m n p) []

-- "then by directory and slot": those of the k places from p on
unfoldable pub entries_from : List ℕ → ℕ → ℕ → ℕ → List ℕ
entries_from m n p zero = []
entries_from m n p (suc k) = slot_text m n p ++ entries_from m n (suc p) k

unfoldable pub listing : List ℕ → List ℕ → List ℕ
listing m desk = head_text m desk ++ entries_from m (inodes_in m) 0 (most_slots * inodes_in m)

-- "The `st` line in which a copy finishes .. is followed by its listing": the answer and, if f, the listing
unfoldable pub printed_text : Result ℕ ℕ → Bool → List ℕ → List ℕ → List ℕ
printed_text r f m desk = reply_text r ++ pick f (listing m desk) []

-- ---- how long these texts can be: a number of 64 bits takes 20 digits, a name 14 bytes
abbrev pub most_reply : ℕ
most_reply = 24

abbrev pub most_head : ℕ
most_head = 111

abbrev pub most_entry_text : ℕ
most_entry_text = 122

-- of an image of n inodes: its first line, and a line for each slot
abbrev pub most_listing : ℕ → ℕ
most_listing n = most_head + most_entry_text * (most_slots * n)

abbrev pub most_printed : ℕ → ℕ
most_printed n = most_reply + most_listing n

-- what a listing asks for: a sound image, and room for its text
pub record Listable (out m : List ℕ) : Type 0 where
  pub sound : Sound Image m
  pub room : most_printed (inodes_in m) ≤ length out
