-- Laws of bytes in hex.
use Rattle.std.specs.Prelude.{None, Option, Some}
use Rattle.std.specs.Char.{is_ascii_hexdigit}
use Rattle.std.specs.List.{list_all}
use Prim.Native.Nat.{ℕ, ◌+◌, ◌-◌, ◌*◌, ◌/◌, ◌%◌, ◌≤◌, ◌<◌}
use mathlib.Core.Path.{◌≡◌, refl, sym, ap, ap₂, ◌∙◌}
use mathlib.Core.Bool.{Bool, true, false, not, ◌&&◌, ◌||◌}
use mathlib.Core.List.{List}
use native.Mathlib.Omega.{arith}
use borrow.Author.Tests.{eq-eqb, ne_eqb, le-leb, lt-leb}
use lib.Dec.{eqb, leb}
use lib.ListN.{length, get_or, set}
use Rattle.bounded.specs.Reflect.{Reflects}
use Rattle.bounded.specs.Search.{pick}
use Rattle.bounded.specs.Below.{all_below}
use Rattle.bounded.specs.Table.{table}
use Rattle.bounded.proofs.BoolLaws.{and_right, and_false_l, and_false_r}
use Rattle.bounded.proofs.BelowLaws.{all_at, all_ext}
use Rattle.bounded.proofs.ReflectLaws.{r_le, r_and, r_fails}
use Rattle.text.proofs.ListLaws.{all_is}
use Rattle.bounded.proofs.TableLaws.{length_table, table_more}
use Rattle.octets.specs.Octets.{splice}
use Rattle.octets.proofs.PartLaws.{splice_snoc}
use Rattle.text.specs.Letters.{letters}
use Rattle.text.specs.Pieces.{is_word}
use Rattle.text.specs.Hex.{between, hex_value, hex_digit, hex_byte, is_hex, hex_count, take_hex}

-- ---- digits
between_is : (a x b : ℕ) → Reflects (between a x b) ((a ≤ x) × (x ≤ b))
between_is a x b = r_and (r_le a x) (r_le x b)

is_between : (a x b : ℕ) → a ≤ x → x ≤ b → between a x b ≡ true
is_between a x b l h = (between_is a x b).from (l, h)

outside : (a x b : ℕ) → (a ≤ x → b < x) → between a x b ≡ false
outside a x b h = r_fails (between_is a x b) (λ d. omega (arith, h d.0))

pub decimal_digit : (x : ℕ) → 48 ≤ x → x ≤ 57 → x - 48 ≡ hex_value x
unfolding hex_value
decimal_digit x l h = rw (is_between 48 x 57 l h) refl

pub capital_digit : (x : ℕ) → 65 ≤ x → x ≤ 70 → x - 65 + 10 ≡ hex_value x
unfolding hex_value
capital_digit x l h = rw (outside 48 x 57 (λ _. omega arith), is_between 65 x 70 l h) (omega arith)

pub small_digit : (x : ℕ) → 97 ≤ x → x ≤ 102 → x - 97 + 10 ≡ hex_value x
unfolding hex_value
small_digit x l h = rw (outside 48 x 57 (λ _. omega arith), outside 65 x 70 (λ _. omega arith), is_between 97 x 102 l h) (omega arith)

-- std's test of a digit
tested : (x : ℕ) (a b c : Bool) → Reflects a ((48 ≤ x) × (x ≤ 57)) → Reflects b ((65 ≤ x) × (x ≤ 70)) → Reflects c ((97 ≤ x) × (x ≤ 102))
    → (a || b) || c ≡ not (eqb (pick a (x - 48) (pick b (x - 55) (pick c (x - 87) 16))) 16)
tested x true b c q r t = let h = q.to refl in sym (ap not (ne_eqb (x - 48) 16 (λ e. omega arith)))
tested x false true c q r t = let h = r.to refl in sym (ap not (ne_eqb (x - 55) 16 (λ e. omega arith)))
tested x false false true q r t = let h = t.to refl in sym (ap not (ne_eqb (x - 87) 16 (λ e. omega arith)))
tested x false false false q r t = refl

pub digit_is : (s : List ℕ) (k : ℕ) → is_ascii_hexdigit (get_or s k 0) ≡ hex_digit s k
unfolding hex_digit hex_value
digit_is s k = let x = get_or s k 0 in tested x (between 48 x 57) (between 65 x 70) (between 97 x 102) (between_is 48 x 57) (between_is 65 x 70) (between_is 97 x 102)

-- ---- a text of digits
module _ (s : List ℕ) where
  pub hex_all : (r : Bool) → 1 ≤ length s → length s % 2 ≡ 0 → r ≡ list_all is_ascii_hexdigit s → r ≡ is_hex s
  unfolding is_hex
  hex_all r a b e =
      let same : list_all is_ascii_hexdigit s ≡ all_below (hex_digit s) (length s) = all_is is_ascii_hexdigit s ∙ all_ext (λ k. is_ascii_hexdigit (get_or s k 0)) (hex_digit s) (length s) (λ k l. digit_is s k) in
      rw (le-leb 1 (length s) a, eq-eqb (length s % 2) 0 b) (e ∙ same)

  pub hex_empty : length s ≡ 0 → false ≡ is_hex s
  unfolding is_hex
  hex_empty e = sym (and_false_l (leb 1 (length s)) (eqb (length s % 2) 0 && all_below (hex_digit s) (length s)) (lt-leb 1 (length s) (omega arith)))

  pub hex_odd : (length s % 2 ≡ 0 → ⊥) → false ≡ is_hex s
  unfolding is_hex
  hex_odd h = sym (and_false_r (leb 1 (length s)) _ (and_false_l (eqb (length s % 2) 0) (all_below (hex_digit s) (length s)) (ne_eqb (length s % 2) 0 h)))

-- ---- how many
module _ (s : List ℕ) (room : ℕ) where
  pub count_dash : is_word s (letters "-") ≡ true → Some 0 ≡ hex_count s room
  unfolding hex_count
  count_dash d = rw d refl

module _ (s : List ℕ) (room : ℕ) (d : is_word s (letters "-") ≡ false) where
  pub count_some : is_hex s ≡ true → length s / 2 ≤ room → Some (length s / 2) ≡ hex_count s room
  unfolding hex_count
  count_some h l = rw (d, h, le-leb (length s / 2) room l) refl

  pub count_not : is_hex s ≡ false → None ≡ hex_count s room
  unfolding hex_count
  count_not h = rw (d, h) refl

  pub count_long : room < length s / 2 → None ≡ hex_count s room
  unfolding hex_count
  count_long l = rw (d, and_false_r (is_hex s) (leb (length s / 2) room) (lt-leb _ _ l)) refl

-- as many as there are digits and room for
abbrev Within : List ℕ → ℕ → ℕ → Type 0
Within s room n = (2 * n ≤ length s) × (n ≤ room) × ((k : ℕ) → k < 2 * n → is_ascii_hexdigit (get_or s k 0) ≡ true)

digits_of : (s : List ℕ) → is_hex s ≡ true → (k : ℕ) → k < length s → is_ascii_hexdigit (get_or s k 0) ≡ true
unfolding is_hex
digits_of s h k l =
    digit_is s k ∙ all_at (hex_digit s) (length s) (and_right (eqb (length s % 2) 0) (all_below (hex_digit s) (length s)) (and_right (leb 1 (length s)) (eqb (length s % 2) 0 && all_below (hex_digit s) (length s)) h)) k l

within : (s : List ℕ) (room n : ℕ) (a b c : Bool) → (c ≡ true → length s / 2 ≤ room) → (b ≡ true → (k : ℕ) → k < length s → is_ascii_hexdigit (get_or s k 0) ≡ true)
    → pick a (Some 0) (pick (b && c) (Some (length s / 2)) None) ≡ Some n → Within s room n
within s room n true b d h g e = let z : 0 ≡ n = cc in (omega arith, omega arith, λ k l. absurd (omega arith))
within s room n false true true h g e = let z : length s / 2 ≡ n = cc in (omega arith, omega (arith, h refl), λ k l. g refl k (omega arith))
within s room n false true false h g e = let z : ◌≡◌ {A = ℕ} 0 1 = cc in absurd (omega arith)
within s room n false false d h g e = let z : ◌≡◌ {A = ℕ} 0 1 = cc in absurd (omega arith)

pub count_within : (s : List ℕ) (room n : ℕ) (r : Option ℕ) → r ≡ hex_count s room → r ≡ Some n → Within s room n
unfolding hex_count
count_within s room n r e f = within s room n (is_word s (letters "-")) (is_hex s) (leb (length s / 2) room) (λ t. (r_le (length s / 2) room).to t) (digits_of s) (sym e ∙ f)

-- ---- bytes
pub bytes_none : (s out : List ℕ) → out ≡ splice out 0 (table (hex_byte s) 0)
unfolding table splice
bytes_none s out = refl

byte_is : (s : List ℕ) (k a b : ℕ) → a ≡ hex_value (get_or s (2 * k) 0) → b ≡ hex_value (get_or s (2 * k + 1) 0) → (16 * a + b) % 256 ≡ hex_byte s k
unfolding hex_byte
byte_is s k a b q r = rw (q, r) refl

pub bytes_more : (s out t : List ℕ) (k a b : ℕ) → t ≡ splice out 0 (table (hex_byte s) k) → (a ≡ hex_value (get_or s (2 * k) 0)) × (a < 16) → (b ≡ hex_value (get_or s (2 * k + 1) 0)) × (b < 16)
    → set t k (16 * a + b) ≡ splice out 0 (table (hex_byte s) (k + 1))
bytes_more s out t k a b p q r =
    let z : k ≡ 0 + k = omega arith in
    let m : 16 * a + b ≡ (16 * a + b) % 256 = let l : 16 * a + b < 256 = omega (arith, q.1, r.1) in omega arith in
    let e : 16 * a + b ≡ hex_byte s k = m ∙ byte_is s k a b q.0 r.0 in
    rw p (ap₂ (λ (j y : ℕ). set (splice out 0 (table (hex_byte s) k)) j y) z e) ∙ splice_snoc out 0 (table (hex_byte s) k) k (hex_byte s k) (length_table (hex_byte s) k) ∙ ap (splice out 0) (sym (table_more (hex_byte s) k))

-- ---- what is left in a buffer
module _ (s b : List ℕ) (r : Option ℕ) (e : r ≡ hex_count s (length b)) where
  pub taken_bytes : (n k : ℕ) (t : List ℕ) → r ≡ Some n → k ≡ n → t ≡ splice b 0 (table (hex_byte s) k) → t ≡ take_hex s b
  unfolding take_hex
  taken_bytes n k t f g h = rw (← e, f, ← g) h

  pub taken_none : r ≡ None → b ≡ take_hex s b
  unfolding take_hex
  taken_none f = rw (← e, f) refl
