-- Laws of directory entries: names compared as words, the entry that names an inode, empty entries, and the name of an entry.
use Prim.Native.Nat.{ℕ, ◌+◌, ◌-◌, ◌≤◌, ◌<◌}
use mathlib.Core.Path.{◌≡◌, refl, sym, ap, ◌∙◌}
use mathlib.Core.Bool.{true, false, ◌&&◌}
use mathlib.Core.List.{List}
use native.Mathlib.Omega.{arith}
use native.Mathlib.Nat.{zero-add}
use native.Mathlib.Decide.{dec_lt}
use borrow.Author.Tests.{eq-eqb, ne_eqb}
use lib.Dec.{eqb}
use lib.ListN.{length, get_or, replicate, get_or-replicate, length-append, length-replicate, get_or-append, get_or-eq_default}
use lib.Seq.{ext_get_or, get_or-append-add}
use Rattle.bounded.specs.Reflect.{Reflects}
use Rattle.bounded.specs.Table.{table}
use Rattle.bounded.proofs.BoolLaws.{and-true, and_left, and_right}
use Rattle.bounded.proofs.SearchLaws.{first_of}
use Rattle.bounded.proofs.TableLaws.{length_table, get_or_table}
use Rattle.bounded.proofs.ReflectLaws.{r_eq, r_and, r_all, r_says, r_fails, reflects_ext}
use Rattle.octets.specs.Octets.{Octets, part, splice, num_at, to_bytes, put_num, zeroed, pasted}
use Rattle.octets.proofs.PartLaws.{length_inside, part_all, get_d_part, length_zeroed, length_copied, splice_in, splice_out}
use Rattle.octets.proofs.NumLaws.{num_ext, num_zero, zero_num, length_to_bytes, length_num}
use Rattle.names.specs.Name.{name_bytes, folded, legal_name}
use Rattle.names.specs.Entry.{entry_bytes, name_at, entry_inode, is_empty, same_byte, same_name, spelled, name_length, entry_name, legal_entry, entry_for}
use Rattle.names.proofs.NameLaws.{legal_bounds, legal_nonzero}
use Rattle.names.specs.Words.{folds, words_at, same_words}
use Rattle.names.proofs.FoldLaws.{folds_8, folds_6, same_8, same_6, folded_zero}

-- ---- names compared
-- the 14 bytes from o on in s are those from p on in t, without regard to case
abbrev pub Alike : List ℕ → ℕ → List ℕ → ℕ → Type 0
Alike s o t p = (k : ℕ) → k < name_bytes → folded (get_or s (o + k) 0) ≡ folded (get_or t (p + k) 0)

-- their numbers of 8 and of 6 folded bytes are equal
abbrev Words : List ℕ → ℕ → List ℕ → ℕ → Type 0
Words s o t p = (folds 8 (num_at 8 s o) ≡ folds 8 (num_at 8 t p)) × (folds 8 (num_at 6 s (o + 8)) ≡ folds 8 (num_at 6 t (p + 8)))

alike_words : (s : List ℕ) (o : ℕ) (t : List ℕ) (p : ℕ) → Octets s → Octets t → Alike s o t p → Words s o t p
alike_words s o t p hs ht h = (
  folds_8 s t hs ht o p (λ k l. h k (omega arith)),
  folds_6 s t hs ht (o + 8) (p + 8)
      (λ k l.
      let x : o + 8 + k ≡ o + (8 + k) = omega arith in
      let y : p + 8 + k ≡ p + (8 + k) = omega arith in
      rw (x, y) (h (8 + k) (omega arith))),
)

words_alike : (s : List ℕ) (o : ℕ) (t : List ℕ) (p : ℕ) → Octets s → Octets t → Words s o t p → Alike s o t p
words_alike s o t p hs ht w k l = go (dec_lt k 8)
  where
    go : Dec (k < 8) → folded (get_or s (o + k) 0) ≡ folded (get_or t (p + k) 0)
    go (yes h) = same_8 s t hs ht o p w.0 k h
    go (no h) =
        let x : o + k ≡ o + 8 + (k - 8) = omega arith in
        let y : p + k ≡ p + 8 + (k - 8) = omega arith in
        rw (x, y) (same_6 s t hs ht (o + 8) (p + 8) w.1 (k - 8) (omega arith))

pub words_agree : (s : List ℕ) (o : ℕ) (t : List ℕ) (p : ℕ) → Octets s → Octets t → Reflects (same_words (words_at s o) (words_at t p)) (Alike s o t p)
unfolding same_words words_at
words_agree s o t p hs ht =
    r_says (words_alike s o t p hs ht) (alike_words s o t p hs ht)
    (r_and (r_eq (folds 8 (num_at 8 s o)) (folds 8 (num_at 8 t p))) (r_eq (folds 8 (num_at 6 s (o + 8))) (folds 8 (num_at 6 t (p + 8)))))

pub named : (e name : List ℕ) → Reflects (same_name e name) ((k : ℕ) → k < name_bytes → folded (get_or e (name_at + k) 0) ≡ folded (get_or name k 0))
unfolding same_name same_byte
named e name = r_all name_bytes (λ k. r_eq (folded (get_or e (name_at + k) 0)) (folded (get_or name k 0)))

pub same_words_lem : (e name : List ℕ) → Octets e → Octets name → same_words (words_at e 2) (words_at name 0) ≡ same_name e name
same_words_lem e name he hn =
    reflects_ext
    (r_says (λ h k l. h k l ∙ ap (λ (j : ℕ). folded (get_or name j 0)) (zero-add k)) (λ h k l. h k l ∙ ap (λ (j : ℕ). folded (get_or name j 0)) (sym (zero-add k)))
    (words_agree e 2 name 0 he hn))
    (named e name)

pub same_words_two : (a b : List ℕ) → Octets a → Octets b → Reflects (same_words (words_at a 2) (words_at b 2)) ((k : ℕ) → k < name_bytes → folded (get_or a (name_at + k) 0) ≡ folded (get_or b (name_at + k) 0))
same_words_two a b ha hb = words_agree a 2 b 2 ha hb

-- ---- byte for byte
pub spelled_is : (e name : List ℕ) → Reflects (spelled e name) ((k : ℕ) → k < name_bytes → get_or e (name_at + k) 0 ≡ get_or name k 0)
unfolding spelled
spelled_is e name = r_all name_bytes (λ k. r_eq (get_or e (name_at + k) 0) (get_or name k 0))

-- ---- the entry that names an inode
pub length_entry : (i : ℕ) (name : List ℕ) → length (entry_for i name) ≡ entry_bytes
unfolding entry_for
length_entry i name = rw (length-append, length_to_bytes, length_table)

pub entry_inode_lem : (i : ℕ) (name : List ℕ) → entry_inode (entry_for i name) ≡ i
unfolding entry_inode entry_for num_at to_bytes
entry_inode_lem i name = omega arith

pub entry_byte : (i : ℕ) (name : List ℕ) (k : ℕ) → k < name_bytes → get_or (entry_for i name) (name_at + k) 0 ≡ get_or name k 0
unfolding entry_for to_bytes
entry_byte i name k l =
    get_or-append-add (to_bytes 2 i) (table (λ j. get_or name j 0) name_bytes) k 0 ∙ get_or_table (λ j. get_or name j 0) name_bytes k l

pub entry_spelled : (i : ℕ) (name : List ℕ) → spelled (entry_for i name) name ≡ true
entry_spelled i name = (spelled_is (entry_for i name) name).from (entry_byte i name)

-- ---- an empty entry
pub empty : (e : List ℕ) → Reflects (is_empty e) ((k : ℕ) → k < entry_bytes → get_or e k 0 ≡ 0)
unfolding is_empty
empty e = r_all entry_bytes (λ k. r_eq (get_or e k 0) 0)

pub empty_zeros : is_empty (replicate entry_bytes 0) ≡ true
empty_zeros = (empty (replicate entry_bytes 0)).from (λ k l. get_or-replicate entry_bytes k 0 0 l)

pub empty_all : (e : List ℕ) → is_empty e ≡ true → (k : ℕ) → k < entry_bytes → get_or e k 0 ≡ 0
empty_all e h = (empty e).to h

pub empty_inode_lem : (e : List ℕ) → is_empty e ≡ true → entry_inode e ≡ 0
unfolding entry_inode
empty_inode_lem e h = zero_num 2 e 0 (λ j l. empty_all e h (0 + j) (omega arith))

pub filled_not_empty : (i : ℕ) (name : List ℕ) → 0 < i → is_empty (entry_for i name) ≡ false
filled_not_empty i name l =
    r_fails (empty (entry_for i name))
    (λ z.
    let a : entry_inode (entry_for i name) ≡ 0 = empty_inode_lem (entry_for i name) ((empty (entry_for i name)).from z) in
    let b = entry_inode_lem i name in omega arith)

-- as the code tests it: two numbers of 8 bytes
pub empty_words : (e : List ℕ) → is_empty e ≡ eqb (num_at 8 e 0) 0 && eqb (num_at 8 e 8) 0
empty_words e =
    reflects_ext (empty e)
    (r_says
    (λ w k l. both w k l (dec_lt k 8))
    (λ h. (zero_num 8 e 0 (λ j l. h (0 + j) (omega arith)), zero_num 8 e 8 (λ j l. h (8 + j) (omega arith))))
    (r_and (r_eq (num_at 8 e 0) 0) (r_eq (num_at 8 e 8) 0)))
  where
    both : (num_at 8 e 0 ≡ 0) × (num_at 8 e 8 ≡ 0) → (k : ℕ) → k < entry_bytes → Dec (k < 8) → get_or e k 0 ≡ 0
    both w k l (yes h) = rw zero-add at (num_zero 8 e 0 w.0 k h)
    both w k l (no h) = let x : 8 + (k - 8) ≡ k = omega arith in rw x at (num_zero 8 e 8 w.1 (k - 8) (omega arith))

-- ---- the name of an entry
-- it ends before its first zero byte, or after 14 bytes
pub length_of_lem : (e : List ℕ) (n : ℕ) → n ≤ name_bytes → ((k : ℕ) → k < n → get_or e (name_at + k) 0 ≡ 0 → ⊥) → (n < name_bytes → get_or e (name_at + n) 0 ≡ 0) → name_length e ≡ n
unfolding name_length
length_of_lem e n m f z =
    first_of (λ k. eqb (get_or e (name_at + k) 0) 0) name_bytes n m (λ k l. ne_eqb (get_or e (name_at + k) 0) 0 (f k l))
    (λ l. eq-eqb (get_or e (name_at + n) 0) 0 (z l))

pub name_of : (e name : List ℕ) → spelled e name ≡ true → legal_name name ≡ true → entry_bytes ≤ length e → entry_name e ≡ name
unfolding entry_name
name_of e name h g l =
    let b = legal_bounds name g in
    let at = (spelled_is e name).to h in
    let n : name_length e ≡ length name = length_of_lem e (length name) b.1
    (λ k m z. legal_nonzero name g k m (sym (at k (omega arith)) ∙ z))
    (λ m. at (length name) m ∙ get_or-eq_default name 0 (omega arith)) in
    let w : length (part e name_at (length name)) ≡ length name = length_inside e name_at (length name) (omega arith) in
    rw n
    (ext_get_or 0 (part e name_at (length name)) name w
    (λ i m. get_d_part e name_at (length name) i (omega arith) ∙ at i (omega arith)))

pub entry_name_lem : (i : ℕ) (name : List ℕ) → legal_name name ≡ true → entry_name (entry_for i name) ≡ name
entry_name_lem i name h = let n = length_entry i name in name_of (entry_for i name) name (entry_spelled i name) h (omega arith)

pub legal_entry_lem : (i : ℕ) (name : List ℕ) → legal_name name ≡ true → legal_entry (entry_for i name) ≡ true
unfolding legal_entry
legal_entry_lem i name h = rw (entry_name_lem i name h) (and-true (legal_name name) (spelled (entry_for i name) name) h (entry_spelled i name))

pub empty_not_named : (e name : List ℕ) → is_empty e ≡ true → legal_name name ≡ true → same_name e name ≡ false
empty_not_named e name z h =
    let b = legal_bounds name h in
    r_fails (named e name) (λ at. legal_nonzero name h 0 (omega arith) (folded_zero (get_or name 0 0) (sym (at 0 (omega arith)) ∙ ap folded (empty_all e z (name_at + 0) (omega arith)))))

-- the name of a legal entry is legal, and the entry has it
pub entry_legal : (e : List ℕ) → legal_entry e ≡ true → (legal_name (entry_name e) ≡ true) × (spelled e (entry_name e) ≡ true)
unfolding legal_entry
entry_legal e h = (and_left (legal_name (entry_name e)) (spelled e (entry_name e)) h, and_right (legal_name (entry_name e)) (spelled e (entry_name e)) h)

-- ---- what the code makes of a name
-- zero bytes from o on, and a name copied there
pub name_filled : (d : List ℕ) (o : ℕ) (name : List ℕ) → length name ≤ name_bytes → o + name_bytes ≤ length d → ((k : ℕ) → k < name_bytes → get_or d (o + k) 0 ≡ 0) → (k : ℕ) → k < name_bytes → get_or (pasted d o name 0 (length name)) (o + k) 0 ≡ get_or name k 0
unfolding pasted
name_filled d o name l f z k m = rw (part_all name (length name) refl) (go (dec_lt k (length name)))
  where
    go : Dec (k < length name) → get_or (splice d o name) (o + k) 0 ≡ get_or name k 0
    go (yes h) = splice_in d o name k (omega arith) h
    go (no h) = splice_out d o name (o + k) (omega arith) ∙ z k m ∙ sym (get_or-eq_default name 0 (omega arith))

-- the words of a name that is copied to 14 zero bytes
pub words_filled : (name : List ℕ) → length name ≤ name_bytes → words_at (pasted (replicate name_bytes 0) 0 name 0 (length name)) 0 ≡ words_at name 0
unfolding words_at
words_filled name l =
    let filled = pasted (replicate name_bytes 0) 0 name 0 (length name) in
    let at : (k : ℕ) → k < name_bytes → get_or filled (0 + k) 0 ≡ get_or name (0 + k) 0 = λ k m.
    name_filled (replicate name_bytes 0) 0 name l (omega arith) (λ j n. get_or-replicate name_bytes (0 + j) 0 0 (omega arith)) k m
    ∙ ap (λ (j : ℕ). get_or name j 0) (sym (zero-add k)) in
    let a : num_at 8 filled 0 ≡ num_at 8 name 0 = num_ext 8 filled 0 name 0 (λ k m. at k (omega arith)) in
    let b : num_at 6 filled 8 ≡ num_at 6 name 8 = num_ext 6 filled 8 name 8 (λ k m.
    let x : 8 + k ≡ 0 + (8 + k) = omega arith in
    rw x (at (8 + k) (omega arith))) in
    cc (a, b)

-- the bytes of the entry that is zeroed, and then has the inode's number and the name
module _ (e : List ℕ) (i : ℕ) (name : List ℕ) (f : length e ≡ entry_bytes) (l : length name ≤ name_bytes) where
  abbrev zeros : List ℕ
  zeros = zeroed e 0 entry_bytes

  abbrev numbered : List ℕ
  numbered = put_num 2 zeros 0 i

  abbrev whole : List ℕ
  whole = pasted numbered name_at name 0 (length name)

  zero_there : (k : ℕ) → k < name_bytes → get_or numbered (name_at + k) 0 ≡ 0
  unfolding put_num zeroed
  zero_there k m =
      let n = length_to_bytes 2 i in
      let r = length-replicate {A = ℕ} entry_bytes 0 in
      splice_out zeros 0 (to_bytes 2 i) (name_at + k) (omega arith)
      ∙ ap (λ (j : ℕ). get_or zeros j 0) (sym (zero-add (name_at + k)))
      ∙ splice_in e 0 (replicate entry_bytes 0) (name_at + k) (omega arith) (omega arith)
      ∙ get_or-replicate entry_bytes (name_at + k) 0 0 (omega arith)

  length_numbered : length numbered ≡ entry_bytes
  length_numbered = length_num 2 zeros 0 i ∙ length_zeroed e 0 entry_bytes ∙ f

  number_there : (k : ℕ) → k < name_at → get_or whole k 0 ≡ get_or (entry_for i name) k 0
  unfolding pasted put_num entry_for
  number_there k m =
      let n = length_to_bytes 2 i in
      let z : length zeros ≡ entry_bytes = length_zeroed e 0 entry_bytes ∙ f in
      splice_out numbered name_at (part name 0 (length name)) k (omega arith)
      ∙ ap (λ (j : ℕ). get_or numbered j 0) (sym (zero-add k))
      ∙ splice_in zeros 0 (to_bytes 2 i) k (omega arith) (omega arith)
      ∙ sym (get_or-append (to_bytes 2 i) (table (λ j. get_or name j 0) name_bytes) 0 k (omega arith))

  pub entry_put : pasted (put_num 2 (zeroed e 0 entry_bytes) 0 i) name_at name 0 (length name) ≡ entry_for i name
  entry_put = ext_get_or 0 whole (entry_for i name) (same ∙ sym (length_entry i name)) (λ k m. at k (omega (arith, same)) (dec_lt k name_at))
    where
      same : length whole ≡ entry_bytes
      same = length_copied numbered name_at name 0 (length name) ∙ length_numbered

      at : (k : ℕ) → k < entry_bytes → Dec (k < name_at) → get_or whole k 0 ≡ get_or (entry_for i name) k 0
      at k m (yes h) = number_there k h
      at k m (no h) =
          let x : k ≡ name_at + (k - name_at) = omega arith in
          let w = length_numbered in
          rw x (name_filled numbered name_at name l (omega arith) zero_there (k - name_at) (omega arith) ∙ sym (entry_byte i name (k - name_at) (omega arith)))
