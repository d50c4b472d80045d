-- Laws of the text that a line prints: each branch's words are the definition's.
use Rattle.std.specs.Prelude.{Result, Ok, Err}
use Prim.Native.Nat.{ℕ, zero, suc, ◌+◌, ◌*◌}
use mathlib.Core.Path.{◌≡◌, refl, sym, ap, ◌∙◌}
use mathlib.Core.Bool.{Bool, true, false}
use mathlib.Core.List.{List, ◌++◌, append_assoc, append-nil}
use native.Mathlib.Omega.{arith}
use borrow.Author.Tests.{eq-eqb, ne_eqb}
use Rattle.octets.specs.Octets.{splice}
use Rattle.layout.specs.Header.{header_of}
use Rattle.layout.specs.Inode.{kind_of, size_of, links_of, directory_kind}
use Rattle.layout.specs.declared.header.Header.{Header}
use Rattle.names.specs.Entry.{entry_name}
use Rattle.desk.specs.Desk.{desk_of}
use Rattle.desk.specs.declared.Desk.{Desk}
use Rattle.text.specs.Letters.{letters}
use Rattle.directory.specs.Slot.{most_slots}
use Rattle.sound.specs.Sound.{inodes_in}
use Rattle.sound.specs.Place.{filled}
use Rattle.text.specs.Put.{Put, decimal_text, pair_text}
use Rattle.script_listing.specs.Listing.{word_text, reply_text, counts_text, head_text, kind_text, inode_text, name_text, entry_text, slot_text, entries_from, listing, printed_text}

pub ok_word : (r : Result ℕ ℕ) (v : ℕ) → r ≡ Ok v → letters "ok " ++ decimal_text v ≡ word_text r
unfolding word_text
ok_word r v e = rw e refl

pub no_word : (r : Result ℕ ℕ) (v : ℕ) → r ≡ Err v → letters "no " ++ decimal_text v ≡ word_text r
unfolding word_text
no_word r v e = rw e refl

pub counts_text_lem : (m : List ℕ) (h : Header) → h ≡ header_of m
    → pair_text (letters "image ") h.inodes h.blocks ++ pair_text (letters " ") h.free_inodes h.free_blocks ≡ counts_text m
unfolding counts_text
counts_text_lem m h e = rw e refl

pub head_text_lem : (m d : List ℕ) (h : Desk) → h ≡ desk_of d → (counts_text m ++ (letters " " ++ decimal_text h.steps)) ++ letters "\n" ≡ head_text m d
unfolding head_text
head_text_lem m d h e = rw e refl

pub directory_text : (k : ℕ) → k ≡ directory_kind → letters " d" ≡ kind_text k
unfolding kind_text
directory_text k e = rw (eq-eqb k directory_kind e) refl

pub file_text : (k : ℕ) → (k ≡ directory_kind → ⊥) → letters " f" ≡ kind_text k
unfolding kind_text
file_text k e = rw (ne_eqb k directory_kind e) refl

pub inode_text_lem : (m : List ℕ) (i k z l : ℕ) → k ≡ kind_of m i → z ≡ size_of m i → l ≡ links_of m i → kind_text k ++ pair_text (letters " ") z l ≡ inode_text m i
unfolding inode_text
inode_text_lem m i k z l a b c = rw (a, b, c) refl

pub name_text_lem : (e x : List ℕ) → x ≡ entry_name e → (letters " " ++ x) ++ letters "\n" ≡ name_text e
unfolding name_text
name_text_lem e x h = rw h refl

-- ---- entry by entry
pub slot_entry : (m : List ℕ) (n p : ℕ) → filled m n p ≡ true → entry_text m n p ≡ slot_text m n p
unfolding slot_text
slot_entry m n p e = rw e refl

pub slot_none : (m : List ℕ) (n p o : ℕ) (s : List ℕ) → filled m n p ≡ false → Put s o (slot_text m n p) o s
unfolding slot_text splice
slot_none m n p o s e = rw e (record { ends = omega arith; holds = refl })

pub no_entries : (m : List ℕ) (n o : ℕ) (s : List ℕ) → Put s o (entries_from m n 0 0) o s
unfolding entries_from splice
no_entries m n o s = record { ends = omega arith; holds = refl }

-- one place more
entries_more : (m : List ℕ) (n p k : ℕ) → entries_from m n p k ++ slot_text m n (p + k) ≡ entries_from m n p (suc k)
unfolding entries_from
entries_more m n p zero = let e : p + 0 ≡ p = omega arith in rw e (sym (append-nil (slot_text m n p)))
entries_more m n p (suc k) =
    let e : p + suc k ≡ suc p + k = omega arith in
    append_assoc (slot_text m n p) (entries_from m n (suc p) k) (slot_text m n (p + suc k))
    ∙ ap (◌++◌ (slot_text m n p)) (rw e (entries_more m n (suc p) k))

pub entries_next : (m : List ℕ) (n p : ℕ) → entries_from m n 0 p ++ slot_text m n p ≡ entries_from m n 0 (p + 1)
entries_next m n p =
    let z : 0 + p ≡ p = omega arith in
    let o : suc p ≡ p + 1 = omega arith in
    ap (λ (k : ℕ). entries_from m n 0 p ++ slot_text m n k) (sym z) ∙ entries_more m n 0 p ∙ ap (entries_from m n 0) o

pub count_is : (m : List ℕ) (h : Header) → h ≡ header_of m → h.inodes ≡ inodes_in m
count_is m h e = ap (λ (x : Header). x.inodes) e

pub listing_text : (m d : List ℕ) (n : ℕ) → n ≡ inodes_in m → head_text m d ++ entries_from m n 0 (most_slots * n) ≡ listing m d
unfolding listing
listing_text m d n e = rw e refl

pub printed_listed : (r : Result ℕ ℕ) (f : Bool) (m d : List ℕ) → f ≡ true → reply_text r ++ listing m d ≡ printed_text r f m d
unfolding printed_text
printed_listed r f m d e = rw e refl

pub printed_plain : (r : Result ℕ ℕ) (f : Bool) (m d : List ℕ) → f ≡ false → reply_text r ≡ printed_text r f m d
unfolding printed_text
printed_plain r f m d e = rw e (sym (append-nil (reply_text r)))
