-- Inodes: what the code's single writes make.
use Prim.Native.Nat.{ℕ, ◌+◌, ◌*◌, ◌-◌, ◌<◌}
use mathlib.Core.Path.{◌≡◌, sym, ap, ◌∙◌}
use mathlib.Core.Bool.{true}
use mathlib.Core.List.{List}
use native.Mathlib.Nat.{add_assoc}
use native.Mathlib.Omega.{arith}
use borrow.Author.Tests.{eqb-true}
use lib.Dec.{eqb}
use lib.ListN.{get_or}
use Rattle.bounded.specs.Below.{all_below}
use Rattle.bounded.proofs.BelowLaws.{all_at, all_ext}
use Rattle.bounded.proofs.ReflectLaws.{r_eq, r_and, r_says, reflects_ext}
use Rattle.octets.specs.Octets.{splice, num_at, to_bytes, put_num, word_bytes}
use Rattle.octets.proofs.NumLaws.{num_join}
use Rattle.octets.proofs.ZeroLaws.{numbers_zero}
use Rattle.layout.specs.declared.inode.Inode.{Inode}
use Rattle.layout.specs.Inode.{attributes_at, kind_of, spare_of, links_of, size_of, parent_of, attributes_zero, attribute_entry, address_at, address_index, address_of, addresses_zero, put_addresses}

-- the attributes, field by field
pub attribute_chain : (s : List ℕ) (o : ℕ) (v : Inode) →
    put_num 2 (put_num 2 (put_num 2 (put_num 1 (put_num 1 s o v.kind) (o + 1) 0) (o + 2) v.links) (o + 4) v.size) (o + 6) v.parent ≡ splice s o (attribute_entry v)
unfolding put_num to_bytes splice attribute_entry
attribute_chain s o v = simp add_assoc

-- the addresses, from where the code finds their start
pub addresses_put : (s : List ℕ) (n i o : ℕ) (vs : List ℕ) → o ≡ address_at n (12 * (i - 1)) → splice s o (word_bytes vs) ≡ put_addresses s n i vs
unfolding put_addresses
addresses_put s n i o vs e =
    let g : o ≡ address_at n (address_index i 0) = omega arith in
    ap (λ (p : ℕ). splice s p (word_bytes vs)) g

-- ---- zero bytes, as words
-- the word is its fields
fields : (s : List ℕ) (o : ℕ) → num_at 8 s o ≡ num_at 1 s o + 256 * (num_at 1 s (o + 1) + 256 * (num_at 2 s (o + 2) + 65536 * (num_at 2 s (o + 4) + 65536 * num_at 2 s (o + 6))))
fields s o =
    let a : o + 1 + 1 ≡ o + 2 = omega arith in
    let b : o + 2 + 2 ≡ o + 4 = omega arith in
    let d : o + 4 + 2 ≡ o + 6 = omega arith in
    num_join 1 7 s o
    ∙ ap (λ (x : ℕ). num_at 1 s o + 256 * x)
    (num_join 1 6 s (o + 1) ∙ ap (λ (x : ℕ). num_at 1 s (o + 1) + 256 * x)
    (ap (num_at 6 s) a ∙ num_join 2 4 s (o + 2) ∙ ap (λ (x : ℕ). num_at 2 s (o + 2) + 65536 * x)
    (ap (num_at 4 s) b ∙ num_join 2 2 s (o + 4) ∙ ap (λ (x : ℕ). num_at 2 s (o + 4) + 65536 * x) (ap (num_at 2 s) d))))

pub attributes_word : (s : List ℕ) (i o : ℕ) → o ≡ attributes_at i → eqb (num_at 8 s o) 0 ≡ attributes_zero s i
unfolding attributes_zero kind_of spare_of links_of size_of parent_of
attributes_word s i o e =
    let f = fields s (attributes_at i) in
    ap (λ (x : ℕ). eqb (num_at 8 s x) 0) e
    ∙ reflects_ext (r_eq (num_at 8 s (attributes_at i)) 0)
    (r_says (λ t. let a = t.0 in let b = t.1.0 in let c = t.1.1.0 in let d = t.1.1.1.0 in let g = t.1.1.1.1 in omega arith)
    (λ z. (omega arith, (omega arith, (omega arith, (omega arith, omega arith)))))
    (r_and (r_eq (num_at 1 s (attributes_at i)) 0) (r_and (r_eq (num_at 1 s (attributes_at i + 1)) 0) (r_and (r_eq (num_at 2 s (attributes_at i + 2)) 0)
    (r_and (r_eq (num_at 2 s (attributes_at i + 4)) 0) (r_eq (num_at 2 s (attributes_at i + 6)) 0))))))

-- the w addresses from x on, of all in a row
pub addresses_bytes : (s : List ℕ) (n x w o : ℕ) → o ≡ address_at n x → all_below (λ j. eqb (get_or s (o + j) 0) 0) (2 * w) ≡ all_below (λ j. eqb (address_of s n (x + j)) 0) w
unfolding address_of
addresses_bytes s n x w o e =
    sym (numbers_zero 2 s o w)
    ∙ all_ext (λ j. eqb (num_at 2 s (o + 2 * j)) 0) (λ j. eqb (num_at 2 s (address_at n (x + j))) 0) w
    (λ j l. let g : o + 2 * j ≡ address_at n (x + j) = omega arith in ap (λ (y : ℕ). eqb (num_at 2 s y) 0) g)

pub addresses_words : (s : List ℕ) (n i o : ℕ) → o ≡ address_at n (12 * (i - 1)) → all_below (λ j. eqb (get_or s (o + j) 0) 0) 24 ≡ addresses_zero s n i
unfolding addresses_zero
addresses_words s n i o e = addresses_bytes s n (12 * (i - 1)) 12 o e

pub addresses_none : (s : List ℕ) (n i : ℕ) → addresses_zero s n i ≡ true → (k : ℕ) → k < 12 → address_of s n (address_index i 0 + k) ≡ 0
unfolding addresses_zero
addresses_none s n i h k l =
    let e : address_index i 0 + k ≡ address_index i k = omega arith in
    ap (address_of s n) e ∙ eqb-true (address_of s n (address_index i k)) 0 (all_at (λ j. eqb (address_of s n (address_index i j)) 0) 12 h k l)
