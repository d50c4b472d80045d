-- A directory entry: its 16 bytes, starting anywhere in a block.
use Rattle.std.specs.Prelude.{ℕ, ◌+◌, Bool, ◌&&◌, List, ◌++◌, eqb, get_or}
use Rattle.bounded.specs.Below.{all_below}
use Rattle.bounded.specs.Search.{first, on_found}
use Rattle.bounded.specs.Table.{table}
use Rattle.octets.specs.Octets.{part, num_at, to_bytes}
use Rattle.names.specs.Name.{name_bytes, folded, legal_name}

-- "entries of 16 bytes: inode number (2), then the name in 14 bytes"
abbrev pub entry_bytes : ℕ
entry_bytes = 16

-- where the name starts in an entry
abbrev pub name_at : ℕ
name_at = 2

unfoldable pub entry_inode : List ℕ → ℕ
entry_inode e = num_at 2 e 0

-- "An empty entry is 16 zero bytes."
unfoldable pub is_empty : List ℕ → Bool
is_empty e = all_below (λ k. eqb (get_or e k 0) 0) entry_bytes

-- "the name in 14 bytes, zero-filled": the entry e and name agree in byte k of the name, without regard to case
unfoldable pub same_byte : List ℕ → List ℕ → ℕ → Bool
same_byte e name k = eqb (folded (get_or e (name_at + k) 0)) (folded (get_or name k 0))

-- e has the name
unfoldable pub same_name : List ℕ → List ℕ → Bool
same_name e name = all_below (same_byte e name) name_bytes

-- "names are stored as typed": e has the name byte for byte
unfoldable pub spelled : List ℕ → List ℕ → Bool
spelled e name = all_below (λ k. eqb (get_or e (name_at + k) 0) (get_or name k 0)) name_bytes

-- the bytes of e's name: those before its first zero byte
unfoldable pub name_length : List ℕ → ℕ
name_length e = on_found (first (λ k. eqb (get_or e (name_at + k) 0) 0) name_bytes) (λ k. k) name_bytes

unfoldable pub entry_name : List ℕ → List ℕ
entry_name e = part e name_at (name_length e)

-- e holds a legal name, zero-filled
unfoldable pub legal_entry : List ℕ → Bool
legal_entry e = legal_name (entry_name e) && spelled e (entry_name e)

-- the entry that names the inode i by name
unfoldable pub entry_for : ℕ → List ℕ → List ℕ
entry_for i name = to_bytes 2 i ++ table (λ k. get_or name k 0) name_bytes
