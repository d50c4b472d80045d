-- "A name is 1 to 14 bytes, none 0 or `/`, and is not `.` or `..`."
use Rattle.std.specs.Prelude.{ℕ, ◌+◌, ◌≤◌, ◌<◌, ◌≡◌, Bool, not, ◌&&◌, List, eqb, leb, length, get_or}
use Rattle.bounded.specs.Below.{all_below}
use Rattle.bounded.specs.Search.{pick}

-- "1 to 14 bytes"
abbrev pub name_bytes : ℕ
name_bytes = 14

-- the bytes of `/` and `.`
abbrev pub slash : ℕ
slash = 47

abbrev pub dot : ℕ
dot = 46

-- F-5: "Comparing names treats the letters A to Z and a to z alike": a capital letter as the small one, any other byte as it is
abbrev pub capital_a : ℕ
capital_a = 65

abbrev pub capital_z : ℕ
capital_z = 90

-- how far a small letter is from its capital
abbrev pub to_small : ℕ
to_small = 32

unfoldable pub folded : ℕ → ℕ
folded x = pick (leb capital_a x && leb x capital_z) (x + to_small) x

-- "none 0 or `/`": byte k is neither
unfoldable pub plain_byte : List ℕ → ℕ → Bool
plain_byte name k = not (eqb (get_or name k 0) 0) && not (eqb (get_or name k 0) slash)

-- "`.` or `..`": at most two bytes, each a dot
unfoldable pub is_dots : List ℕ → Bool
is_dots name = leb (length name) 2 && all_below (λ k. eqb (get_or name k 0) dot) (length name)

unfoldable pub legal_name : List ℕ → Bool
legal_name name =
    leb 1 (length name) && (leb (length name) name_bytes && (all_below (plain_byte name) (length name) && not (is_dots name)))

-- The same as a proposition: "1 to 14 bytes, none 0 or `/`, and is not `.` or `..`".
pub record Legal (name : List ℕ) : Type 0 where
  pub long : 1 ≤ length name
  pub short : length name ≤ name_bytes
  pub plain : (k : ℕ) → k < length name → (get_or name k 0 ≡ 0 → ⊥) × (get_or name k 0 ≡ slash → ⊥)
  pub not_dot : length name ≡ 1 → get_or name 0 0 ≡ dot → ⊥
  pub not_dots : length name ≡ 2 → get_or name 0 0 ≡ dot → get_or name 1 0 ≡ dot → ⊥
