-- What a line asks for. "Fields are parted by one space and not empty; numbers are 1 to 5 digits; text is the rest of the line".
use Rattle.std.specs.Prelude.{ℕ, Bool, true, false, ◌&&◌, ◌||◌, List, [], ◌∷◌, eqb, leb, ltb, length, None, Option, Some, find}
use Rattle.std.specs.Option.{unwrap_or}
use Prim.Native.String.{String}
use Rattle.bounded.specs.Below.{all_below}
use Rattle.bounded.specs.Search.{pick}
use Rattle.text.specs.Letters.{letters}
use Rattle.text.specs.Pieces.{piece, rest, pieces, is_word}
use Rattle.text.specs.Number.{number_of}
use Rattle.entries.specs.declared.Kind.TheVariants.{File, Directory}
use Rattle.files.specs.Effect.{create, write, shorten, link, unlink, rename}
use Rattle.checkpoint.specs.List.{Event, call, starts}
use Rattle.script_lines.specs.declared.forms.Form.{Form}
use Rattle.script_lines.specs.declared.forms.Form.TheVariants.{CreateFile, CreateDirectory, Write, Shorten, Link, Unlink, Rename, Start, Step}

-- an event of a list: a file call or a start; single steps; nothing that the paper has
pub data Ask : Type 0 where
  event : Event → Ask
  stepping : (count : ℕ) → Ask
  none : Ask

-- ---- A line's fields, counted from 0
abbrev pub space : ℕ
space = 32

abbrev pub field : List ℕ → ℕ → List ℕ
field l k = piece l space k

-- "text is the rest of the line": from field k on
abbrev pub text_from : List ℕ → ℕ → List ℕ
text_from l k = rest l space k

-- "numbers are 1 to 5 digits"
abbrev pub most_digits : ℕ
most_digits = 5

unfoldable pub short_number : List ℕ → Option ℕ
short_number s = pick (leb (length s) most_digits) (number_of s) None

abbrev pub is_value : Option ℕ → Bool
is_value (Some n) = true
is_value None = false

-- the number that field k is
unfoldable pub num : List ℕ → ℕ → ℕ
num l k = unwrap_or (short_number (field l k)) 0

-- ---- The forms: `#` is a number, `*` a name, `~` text; any other field is itself
-- "`mk dir name f|d`, `wr inode offset text`, `sh inode length`, `ln dir name inode`, `rm dir name`, `mv dir name dir name`, `go`, `st count`"
abbrev pub form_text : Form → String
form_text CreateFile = "mk # * f"
form_text CreateDirectory = "mk # * d"
form_text Write = "wr # # ~"
form_text Shorten = "sh # #"
form_text Link = "ln # * #"
form_text Unlink = "rm # *"
form_text Rename = "mv # * # *"
form_text Start = "go"
form_text Step = "st #"

-- what a line of the form asks for
abbrev pub asked : Form → List ℕ → Ask
asked CreateFile l = event (call (create (num l 1) (field l 2) File))
asked CreateDirectory l = event (call (create (num l 1) (field l 2) Directory))
asked Write l = event (call (write (num l 1) (num l 2) (text_from l 3)))
asked Shorten l = event (call (shorten (num l 1) (num l 2)))
asked Link l = event (call (link (num l 1) (field l 2) (num l 3)))
asked Unlink l = event (call (unlink (num l 1) (field l 2)))
asked Rename l = event (call (rename (num l 1) (field l 2) (num l 3) (field l 4)))
asked Start l = event starts
asked Step l = stepping (num l 1)

-- all of them, in the order in which a line is held against them
abbrev pub forms : List Form
forms = CreateFile ∷ CreateDirectory ∷ Write ∷ Shorten ∷ Link ∷ Unlink ∷ Rename ∷ Start ∷ Step ∷ []

-- ---- A line and a form
-- "not empty"
abbrev pub some : List ℕ → Bool
some s = ltb 0 (length s)

-- field k is what the form has there, p
unfoldable pub field_fits : List ℕ → List ℕ → ℕ → Bool
field_fits p l k =
    pick (is_word p (letters "#")) (is_value (short_number (field l k)))
    (pick (is_word p (letters "*")) (some (field l k))
    (pick (is_word p (letters "~")) (some (text_from l k)) (is_word (field l k) p)))

-- no field more, save in text, which is field 3 where a form has it
unfoldable pub end_fits : List ℕ → List ℕ → Bool
end_fits form l = is_word (piece form space 3) (letters "~") || eqb (pieces l space) (pieces form space)

unfoldable pub fits : List ℕ → List ℕ → Bool
fits form l = end_fits form l && all_below (λ k. field_fits (piece form space k) l k) (pieces form space)

-- ---- What a line asks for
-- the first form that it fits
unfoldable pub form_in : List ℕ → Option Form
form_in l = find (λ f. fits (letters (form_text f)) l) forms

abbrev pub asked_by : Option Form → List ℕ → Ask
asked_by (Some f) l = asked f l
asked_by None l = none

unfoldable pub ask_of : List ℕ → Ask
ask_of l = asked_by (form_in l) l
