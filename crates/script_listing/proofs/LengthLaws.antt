-- How long the texts of a line can be.
use Rattle.std.specs.Prelude.{None, Option, Some, Result, Ok, Err}
use Rattle.std.specs.List.{AllWithin, HoldsAt}
use Rattle.std.specs.Option.{MatchOption, unwrap_or}
use Prim.Native.Nat.{ℕ, zero, suc, ◌+◌, ◌*◌, ◌/◌, ◌%◌, ◌≤◌, ◌<◌}
use mathlib.Core.Path.{◌≡◌, refl, sym, ◌∙◌}
use mathlib.Core.Bool.{Bool, true, false}
use mathlib.Core.List.{List, [], ◌∷◌, ◌++◌}
use native.Mathlib.Omega.{arith}
use native.Mathlib.Nat.{le_refl}
use lib.Dec.{eqb, ltb}
use lib.ListN.{length, get_or, length-append}
use Rattle.io.specs.Digits.{last_digits, hex_digit_ascii}
use Rattle.bounded.specs.Search.{pick, first_from, first, on_found}
use Rattle.bounded.proofs.SearchLaws.{found_lowest}
use Rattle.octets.specs.Octets.{part}
use Rattle.octets.proofs.PartLaws.{length_part, length_inside, get_d_part}
use Rattle.layout.specs.Header.{header_of}
use Rattle.layout.specs.Inode.{kind_of, size_of, links_of, directory_kind}
use Rattle.names.specs.Entry.{entry_bytes, name_at, entry_inode, name_length, entry_name}
use Rattle.names.proofs.EntryLaws.{length_of_lem}
use Rattle.names.specs.Name.{name_bytes}
use Rattle.desk.specs.Desk.{desk_of}
use Rattle.directory.specs.Slot.{most_slots}
use Rattle.sound.specs.Sound.{inodes_in}
use Rattle.sound.specs.Place.{dir_of, slot_of, entry_at, filled}
use Rattle.text.specs.Letters.{letters}
use Rattle.text.specs.Put.{places, decimal_text, pair_text}
use Rattle.script_listing.specs.Listing.{word_text, reply_text, counts_text, head_text, place_text, kind_text, inode_text, name_text, entry_text, slot_text, entries_from, listing, printed_text, most_reply, most_head, most_entry_text, most_listing, most_printed}

-- one text after the other
both : (xs ys : List ℕ) (a b : ℕ) → length xs ≤ a → length ys ≤ b → length (xs ++ ys) ≤ a + b
both xs ys a b p q = rw (length-append xs ys) (omega (arith, p, q))

-- ---- numbers
length_digits : (b k n : ℕ) → length (last_digits b k n) ≡ k
length_digits b zero n = refl
length_digits b (suc k) n = length-append (last_digits b k (n / b)) (hex_digit_ascii (n % b) ∷ []) ∙ (let e = length_digits b k (n / b) in omega arith)

places_most : (f n : ℕ) → places f n ≤ suc f
unfolding places
places_most zero n = le_refl 1
places_most (suc f) n = go (ltb n 10) (places_most f (n / 10))
  where
    go : (b : Bool) → places f (n / 10) ≤ suc f → pick b 1 (suc (places f (n / 10))) ≤ suc (suc f)
    go true h = omega arith
    go false h = omega arith

number_most : (n : ℕ) → length (decimal_text n) ≤ 20
unfolding decimal_text
number_most n = let e = length_digits 10 (places 19 n) n in let h = places_most 19 n in omega arith

after : (w : List ℕ) (n : ℕ) → length (w ++ decimal_text n) ≤ length w + 20
after w n = both w (decimal_text n) (length w) 20 (le_refl (length w)) (number_most n)

pair_most : (w : List ℕ) (a b : ℕ) → length (pair_text w a b) ≤ length w + 20 + 21
unfolding pair_text
pair_most w a b = both (w ++ decimal_text a) (letters " " ++ decimal_text b) (length w + 20) 21 (after w a) (after (letters " ") b)

-- ---- the answer
word_most : (r : Result ℕ ℕ) → length (word_text r) ≤ 23
unfolding word_text
word_most (Ok v) = after (letters "ok ") v
word_most (Err v) = after (letters "no ") v

pub reply_most : (r : Result ℕ ℕ) → length (reply_text r) ≤ most_reply
unfolding reply_text
reply_most r = both (word_text r) (letters "\n") 23 1 (word_most r) (le_refl 1)

-- ---- the first line of a listing
counts_most : (m : List ℕ) → length (counts_text m) ≤ 89
unfolding counts_text
counts_most m =
    let h = header_of m in
    both (pair_text (letters "image ") h.inodes h.blocks) (pair_text (letters " ") h.free_inodes h.free_blocks) 47 42
    (pair_most (letters "image ") h.inodes h.blocks)
    (pair_most (letters " ") h.free_inodes h.free_blocks)

pub head_most : (m d : List ℕ) → length (head_text m d) ≤ most_head
unfolding head_text
head_most m d =
    let n = (desk_of d).steps in
    both (counts_text m ++ (letters " " ++ decimal_text n)) (letters "\n") 110 1
    (both (counts_text m) (letters " " ++ decimal_text n) 89 21 (counts_most m) (after (letters " ") n))
    (le_refl 1)

-- ---- an entry
place_most : (e t i : ℕ) → length (place_text e t i) ≤ 62
unfolding place_text
place_most e t i = both (pair_text [] e t) (letters " " ++ decimal_text i) 41 21 (pair_most [] e t) (after (letters " ") i)

kind_length : (k : ℕ) → length (kind_text k) ≤ 2
unfolding kind_text
kind_length k = go (eqb k directory_kind)
  where
    go : (b : Bool) → length (pick b (letters " d") (letters " f")) ≤ 2
    go true = le_refl 2
    go false = le_refl 2

inode_most : (m : List ℕ) (i : ℕ) → length (inode_text m i) ≤ 44
unfolding inode_text
inode_most m i =
    both (kind_text (kind_of m i)) (pair_text (letters " ") (size_of m i) (links_of m i)) 2 42 (kind_length (kind_of m i))
    (pair_most (letters " ") (size_of m i) (links_of m i))

name_short : (e : List ℕ) → name_length e ≤ name_bytes
unfolding name_length first
name_short e = go (first_from (λ k. eqb (get_or e (name_at + k) 0) 0) 0 name_bytes) refl
  where
    go : (g : Option ℕ) → first_from (λ k. eqb (get_or e (name_at + k) 0) 0) 0 name_bytes ≡ g → on_found g (λ k. k) name_bytes ≤ name_bytes
    go (Some k) q = let b = (found_lowest (λ k. eqb (get_or e (name_at + k) 0) 0) 0 name_bytes k q).below in omega arith
    go None q = le_refl name_bytes

-- as the code finds it: the place of the first zero byte among the name's
pub name_length_is : (e : List ℕ) → entry_bytes ≤ length e → (r : Option ℕ)
    → MatchOption r (AllWithin (λ b. b ≡ 0 → ⊥) (part e name_at name_bytes) 0 (length (part e name_at name_bytes)))
    (λ i. (i < length (part e name_at name_bytes)) × HoldsAt (λ b. b ≡ 0) (part e name_at name_bytes) i × AllWithin (λ b. b ≡ 0 → ⊥) (part e name_at name_bytes) 0 i)
    → (unwrap_or r name_bytes ≡ name_length e) × (unwrap_or r name_bytes ≤ name_bytes)
name_length_is e l r h = go r h
  where
    long : length (part e name_at name_bytes) ≡ name_bytes
    long = length_inside e name_at name_bytes (omega arith)

    at : (k : ℕ) → k < name_bytes → get_or (part e name_at name_bytes) k 0 ≡ get_or e (name_at + k) 0
    at k m = get_d_part e name_at name_bytes k m

    go : (r : Option ℕ)
        → MatchOption r (AllWithin (λ b. b ≡ 0 → ⊥) (part e name_at name_bytes) 0 (length (part e name_at name_bytes)))
        (λ i. (i < length (part e name_at name_bytes)) × HoldsAt (λ b. b ≡ 0) (part e name_at name_bytes) i × AllWithin (λ b. b ≡ 0 → ⊥) (part e name_at name_bytes) 0 i)
        → (unwrap_or r name_bytes ≡ name_length e) × (unwrap_or r name_bytes ≤ name_bytes)
    go None f = (sym (length_of_lem e name_bytes (le_refl name_bytes) (λ k m z. let a = long in f k 0 (omega arith) (omega arith) (at k m ∙ z)) (λ m. absurd (omega arith))), le_refl name_bytes)
    go (Some i) f =
        let a = long in
        let b : i < name_bytes = omega (arith, f.0) in
        (sym (length_of_lem e i (omega arith) (λ k m z. f.2 k 0 (omega arith) m (at k (omega arith) ∙ z)) (λ m. sym (at i m) ∙ f.1 0)), omega arith)

name_length_lem : (e : List ℕ) → length (entry_name e) ≤ name_bytes
unfolding entry_name
name_length_lem e = let l = length_part e name_at (name_length e) in let s = name_short e in omega arith

name_most : (e : List ℕ) → length (name_text e) ≤ 16
unfolding name_text
name_most e =
    both (letters " " ++ entry_name e) (letters "\n") 15 1 (both (letters " ") (entry_name e) 1 name_bytes (le_refl 1) (name_length_lem e)) (le_refl 1)

entry_most : (m : List ℕ) (n p : ℕ) → length (entry_text m n p) ≤ most_entry_text
unfolding entry_text
entry_most m n p =
    let i = entry_inode (entry_at m n p) in
    both (place_text (dir_of p) (slot_of p) i ++ inode_text m i) (name_text (entry_at m n p)) 106 16
    (both (place_text (dir_of p) (slot_of p) i) (inode_text m i) 62 44 (place_most (dir_of p) (slot_of p) i) (inode_most m i))
    (name_most (entry_at m n p))

slot_most : (m : List ℕ) (n p : ℕ) → length (slot_text m n p) ≤ most_entry_text
unfolding slot_text
slot_most m n p = go (filled m n p)
  where
    go : (b : Bool) → length (pick b (entry_text m n p) []) ≤ most_entry_text
    go true = entry_most m n p
    go false = omega arith

-- ---- all entries, and a line's whole text
pub entries_most : (m : List ℕ) (n p k : ℕ) → length (entries_from m n p k) ≤ most_entry_text * k
unfolding entries_from
entries_most m n p zero = le_refl 0
entries_most m n p (suc k) = let h = both (slot_text m n p) (entries_from m n (suc p) k) most_entry_text (most_entry_text * k) (slot_most m n p) (entries_most m n (suc p) k) in omega arith

listing_most : (m d : List ℕ) → length (listing m d) ≤ most_listing (inodes_in m)
unfolding listing
listing_most m d = both (head_text m d) (entries_from m (inodes_in m) 0 (most_slots * inodes_in m)) most_head (most_entry_text * (most_slots * inodes_in m)) (head_most m d) (entries_most m (inodes_in m) 0 (most_slots * inodes_in m))

-- f is whether there is a listing, n then its image's inode count
pub printed_most : (r : Result ℕ ℕ) (f : Bool) (m d : List ℕ) (n : ℕ) → (f ≡ true → inodes_in m ≡ n) → length (printed_text r f m d) ≤ most_printed n
unfolding printed_text
printed_most r f m d n h = both (reply_text r) (pick f (listing m d) []) most_reply (most_listing n) (reply_most r) (go f h)
  where
    go : (b : Bool) → (b ≡ true → inodes_in m ≡ n) → length (pick b (listing m d) []) ≤ most_listing n
    go true h = let e = h refl in let l = listing_most m d in omega arith
    go false h = omega arith
