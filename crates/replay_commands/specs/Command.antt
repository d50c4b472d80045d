-- What a command line asks for. The command stands before ` => `, or is all of the line, and its fields are parted by single spaces.
use Rattle.std.specs.Prelude.{ℕ, zero, suc, Bool, true, false, ◌&&◌, List, [], ◌∷◌, ◌++◌, eqb, length, take, None, Option, Some}
use Prim.Native.String.{String}
use Rattle.bounded.specs.Below.{all_below}
use Rattle.bounded.specs.Search.{pick, first, on_found}
use Rattle.octets.specs.Octets.{part}
use Rattle.text.specs.Letters.{letters}
use Rattle.text.specs.Pieces.{place_from, piece, pieces, is_word}
use Rattle.text.specs.Number.{number_of, on_number}
use Rattle.text.specs.Hex.{hex_count, take_hex}
use Rattle.replay_commands.specs.declared.Command.{Command}
use Rattle.replay_commands.specs.declared.Command.TheVariants.{New, PokeStore, PokeImage, PokeDesk, LayStore, LayDesk, CheckStore, CheckImage, Read, File, Start, Step, Burst, Ask, Bad}
use Rattle.replay_commands.specs.declared.Call.TheVariants.{LookUp, CreateFile, CreateDirectory, Write, Shorten, Link, Unlink, Rename, RenameNew}

-- ---- The forms: `#` is a number, `*` and `+` are bytes in hex, for the first and the second of two buffers; any other field is itself
pub record Form : Type 0 where
  pub text : String
  -- by what fields 1 to 4 are worth: a number itself, bytes their count
  pub asks : ℕ → ℕ → ℕ → ℕ → Command

abbrev form : String → (ℕ → ℕ → ℕ → ℕ → Command) → Form
form t f = record { text = t; asks = f }

unfoldable pub forms : List Form
forms =
    form "new # # #" (λ inodes blocks image _. New inodes blocks image)
    ∷ form "poke store # #" (λ _ offset byte _. PokeStore offset byte)
    ∷ form "poke image # #" (λ _ offset byte _. PokeImage offset byte)
    ∷ form "poke desk # #" (λ _ offset byte _. PokeDesk offset byte)
    ∷ form "lay store # #" (λ _ inodes blocks _. LayStore inodes blocks)
    ∷ form "lay desk #" (λ _ inodes _ _. LayDesk inodes)
    ∷ form "chk store" (λ _ _ _ _. CheckStore)
    ∷ form "chk image" (λ _ _ _ _. CheckImage)
    ∷ form "lk # *" (λ dir name _ _. File (LookUp dir name))
    ∷ form "mk # * f" (λ dir name _ _. File (CreateFile dir name))
    ∷ form "mk # * d" (λ dir name _ _. File (CreateDirectory dir name))
    ∷ form "rd # # #" (λ inode offset length _. Read inode offset length)
    ∷ form "wr # # *" (λ inode offset bytes _. File (Write inode offset bytes))
    ∷ form "sh # #" (λ inode size _ _. File (Shorten inode size))
    ∷ form "ln # * #" (λ dir name inode _. File (Link dir name inode))
    ∷ form "rm # *" (λ dir name _ _. File (Unlink dir name))
    ∷ form "mv # * # +" (λ dir name to new. File (Rename dir name to new))
    ∷ form "mvo # * # +" (λ dir name to new. File (RenameNew dir name to new))
    ∷ form "go" (λ _ _ _ _. Start)
    ∷ form "st" (λ _ _ _ _. Step)
    ∷ form "bu #" (λ count _ _ _. Burst count)
    ∷ form "ask" (λ _ _ _ _. Ask)
    ∷ []

-- the forms as one text, a form a line
abbrev pub lines_of : List Form → List ℕ
lines_of [] = []
lines_of (f ∷ []) = letters f.text
lines_of (f ∷ (g ∷ fs)) = letters f.text ++ (10 ∷ lines_of (g ∷ fs))

abbrev pub asked_in : List Form → ℕ → ℕ → ℕ → ℕ → ℕ → Command
asked_in [] j a b c d = Bad
asked_in (f ∷ fs) zero a b c d = f.asks a b c d
asked_in (f ∷ fs) (suc j) a b c d = asked_in fs j a b c d

-- what form j asks for
unfoldable pub asked : ℕ → ℕ → ℕ → ℕ → ℕ → Command
asked j a b c d = asked_in forms j a b c d

-- ---- A line and a form
unfoldable pub is_arrow : List ℕ → ℕ → Bool
is_arrow s k = is_word (part s k 4) (letters " => ")

unfoldable pub command_in : List ℕ → List ℕ
command_in s = take (place_from (is_arrow s) 0 (length s)) s

-- what the field s is worth if it is to be p: its number, the count of its bytes, or 0 for a word; a and b are the rooms for bytes
unfoldable pub field_value : List ℕ → List ℕ → ℕ → ℕ → Option ℕ
field_value p s a b =
    pick (is_word p (letters "#")) (number_of s)
    (pick (is_word p (letters "*")) (hex_count s a)
    (pick (is_word p (letters "+")) (hex_count s b) (pick (is_word s p) (Some 0) None)))

unfoldable pub value_at : List ℕ → List ℕ → ℕ → ℕ → ℕ → Option ℕ
value_at form cmd a b k = field_value (piece form 32 k) (piece cmd 32 k) a b

unfoldable pub worth : List ℕ → List ℕ → ℕ → ℕ → ℕ → ℕ
worth form cmd a b k = on_number (value_at form cmd a b k) (λ n. n) 0

abbrev pub has_value : Option ℕ → Bool
has_value (Some n) = true
has_value None = false

-- as many fields, each worth something
unfoldable pub fits : List ℕ → List ℕ → ℕ → ℕ → Bool
fits form cmd a b = eqb (pieces cmd 32) (pieces form 32) && all_below (λ k. has_value (value_at form cmd a b k)) (pieces form 32)

-- the command's field that is to be p
unfoldable pub bytes_at : List ℕ → List ℕ → List ℕ → List ℕ
bytes_at form p cmd = on_found (first (λ k. is_word (piece form 32 k) p) (pieces form 32)) (piece cmd 32) []

-- ---- What a line leaves: the command, and the two buffers' content
pub record Parsed : Type 0 where
  pub command : Command
  pub name : List ℕ
  pub other : List ℕ

abbrev pub parsed : Command → List ℕ → List ℕ → Parsed
parsed r b o = record { command = r; name = b; other = o }

-- the first form that the command fits
unfoldable pub form_of : List ℕ → List ℕ → ℕ → ℕ → Option ℕ
form_of lines cmd a b = first (λ j. fits (piece lines 10 j) cmd a b) (pieces lines 10)

unfoldable pub asked_by : ℕ → List ℕ → List ℕ → ℕ → ℕ → Command
asked_by j form cmd a b = asked j (worth form cmd a b 1) (worth form cmd a b 2) (worth form cmd a b 3) (worth form cmd a b 4)

unfoldable pub parsed_by : List ℕ → List ℕ → List ℕ → List ℕ → Parsed
parsed_by lines cmd b o =
    on_found (form_of lines cmd (length b) (length o))
    (λ j.
    parsed (asked_by j (piece lines 10 j) cmd (length b) (length o))
    (take_hex (bytes_at (piece lines 10 j) (letters "*") cmd) b)
    (take_hex (bytes_at (piece lines 10 j) (letters "+") cmd) o))
    (parsed Bad b o)

unfoldable pub parse_command : List ℕ → List ℕ → List ℕ → Parsed
parse_command cmd b o = parsed_by (lines_of forms) cmd b o
