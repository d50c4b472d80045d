-- The concrete stores and lists of the track cases.
use Rattle.std.specs.Prelude.{ℕ, zero, suc, ◌+◌, List, [], ◌∷◌, ◌++◌, replicate}
use Rattle.blocks.specs.Block.{store_length}
use Rattle.format.specs.Format.{fresh_store, fresh_desk}
use Rattle.entries.specs.declared.Kind.TheVariants.{File, Directory}
use Rattle.files.specs.Effect.{create, write, shorten, link, unlink, rename}
use Rattle.checkpoint.specs.Live.{World}
use Rattle.checkpoint.specs.List.{Event, call, advances, starts}

-- a fresh store of n inodes and b blocks, an image of as many blocks and a fresh desk
unfoldable pub fresh : ℕ → ℕ → World
fresh n b = record { store = fresh_store n b; image = replicate (store_length n b) 0; desk = fresh_desk n }

-- the names `a` and `b`
abbrev pub name_a : List ℕ
name_a = 97 ∷ []

abbrev pub name_b : List ℕ
name_b = 98 ∷ []

-- "Files 2 (64 bytes, block 2) and 3 (empty) in root: after 2 is copied, 2 is shortened to 0 and 10 bytes go to 3"
unfoldable pub reused_block : List Event
reused_block =
    call (create 1 name_a File) ∷ call (create 1 name_b File) ∷ call (write 2 0 (replicate 64 7))
    ∷ starts ∷ advances ∷ advances ∷ advances ∷ advances ∷ advances ∷ advances
    ∷ call (shorten 2 0) ∷ call (write 3 0 (replicate 10 5))
    ∷ advances ∷ advances ∷ advances ∷ advances ∷ []

-- "Copied directory moved to an uncopied one": 2 is copied, 3 is not
unfoldable pub moved_directory : List Event
moved_directory =
    call (create 1 name_a Directory) ∷ call (create 1 name_b Directory)
    ∷ starts ∷ advances ∷ advances ∷ advances ∷ advances ∷ advances
    ∷ call (rename 1 name_a 3 name_a)
    ∷ advances ∷ advances ∷ advances ∷ advances ∷ []

-- "Uncopied file unlinked from a copied directory"
unfoldable pub unlinked_file : List Event
unlinked_file = call (create 1 name_a File) ∷ starts ∷ advances ∷ advances ∷ advances ∷ call (unlink 1 name_a) ∷ advances ∷ []

-- a directory and a child of it
unfoldable pub parent_and_child : List Event
parent_and_child = call (create 1 name_a Directory) ∷ call (create 2 name_b Directory) ∷ []

-- F-3: two files in the root; when the root is copied, 3 gets the name of 2
unfoldable pub replaced_file : List Event
replaced_file =
    call (create 1 name_a File) ∷ call (create 1 name_b File)
    ∷ starts ∷ advances ∷ advances ∷ advances
    ∷ call (rename 1 name_b 1 name_a)
    ∷ advances ∷ advances ∷ advances ∷ []

-- F-3: the root has the directory 2 by the name `a` and the file 4 by the name `b`, 2 has the directory 3, and 3 the file 5 by the name `a`
unfoldable pub taken_names : List Event
taken_names = call (create 1 name_a Directory) ∷ call (create 2 name_b Directory) ∷ call (create 1 name_b File) ∷ call (create 3 name_a File) ∷ []

-- F-1, "Growing and shortening cross the edge both ways and free what they no longer use.": file 2 has 768 bytes in blocks 2 to 13, file 3 has 832 in blocks 14 to 27, of which 25 is its address block. With the root copied, 2 gets 64 bytes more; when
-- twelve of its blocks are copied, 3 is cut to 768.
unfoldable pub over_the_edge : List Event
over_the_edge =
    call (create 1 name_a File) ∷ call (create 1 name_b File) ∷ call (write 2 0 (replicate 768 7)) ∷ call (write 3 0 (replicate 832 5))
    ∷ advances ∷ advances ∷ advances ∷ call (write 2 768 (replicate 64 6))
    ∷ advances ∷ (replicate 12 advances ++ (call (shorten 3 768) ∷ replicate 18 advances))

-- an empty file, and one of ten bytes
unfoldable pub one_file : List Event
one_file = call (create 1 name_a File) ∷ []

unfoldable pub ten_bytes : List Event
ten_bytes = call (create 1 name_a File) ∷ call (write 2 0 (replicate 10 7)) ∷ []

-- k links to file 2 in the root, by the names of one byte from a on
unfoldable pub linked_from : ℕ → ℕ → List Event
linked_from a zero = []
linked_from a (suc k) = call (link 1 (a ∷ []) 2) ∷ linked_from (a + 1) k

-- k entries in the root, of one file
unfoldable pub entered : ℕ → List Event
entered zero = []
entered (suc k) = call (create 1 name_a File) ∷ linked_from 98 k
