-- Parts and splices: every frame law of the layout follows from part_apart and part_in.
use Prim.Native.Nat.{ℕ, zero, suc, ◌+◌, ◌-◌, ◌≤◌, ◌<◌, min}
use mathlib.Core.Path.{◌≡◌, refl, sym, ap, ◌∙◌}
use mathlib.Core.Bool.{Bool}
use mathlib.Core.List.{List, [], ◌∷◌, ◌++◌, append_assoc}
use native.Mathlib.Omega.{arith}
use native.Mathlib.Nat.{add-zero}
use native.Mathlib.Decide.{dec_lt}
use native.Mathlib.Numerals.{add-one}
use lib.ListN.{get_or, set, take, drop, length, replicate, length-set, length-take, length-drop, length-replicate, get_or-eq_default}
use lib.Seq.{set_comm, set-set, sets, sets-eq, drop-drop, get_or-set_same, get_or-set_other, get_or-take, get_or-drop, ext_get_or, take-suc, take-add, drop-cons, take_all}
use borrow.Rule.Slice.PartMut.{put_mid}
use Rattle.octets.specs.Octets.{part, splice, Apart, Octets, zeroed, pasted}

-- ---- ranges of bytes
-- x lies in [o, o + k), or apart from it
pub is_inside : (o k x : ℕ) {P : Type 0} → (o ≤ x → x < o + k → P) → (Apart x 1 o k → P) → P
is_inside o k x {P} f g = go (dec_lt x o) (dec_lt x (o + k))
  where
    go : Dec (x < o) → Dec (x < o + k) → P
    go (yes l) d = g (omega arith)
    go (no l) (yes m) = f (omega arith) m
    go (no l) (no m) = g (omega arith)

-- a range apart from one is apart from what lies in it
pub apart_within : (o k p m q l : ℕ) → Apart o k p m → p ≤ q → q + l ≤ p + m → Apart o k q l
apart_within o k p m q l h a b = omega arith

-- ---- lengths, and single bytes
pub length_splice : (s : List ℕ) (o : ℕ) (xs : List ℕ) → length (splice s o xs) ≡ length s
unfolding splice
length_splice s o [] = refl
length_splice s o (x ∷ xs) = length_splice (set s o x) (o + 1) xs ∙ length-set s o x

pub length_part : (s : List ℕ) (o k : ℕ) → length (part s o k) ≡ min k (length s - o)
unfolding part
length_part s o k = simp (length-take, length-drop)

-- a part that lies inside
pub length_inside : (s : List ℕ) (o k : ℕ) → o + k ≤ length s → length (part s o k) ≡ k
length_inside s o k h = length_part s o k ∙ omega arith

pub get_d_part : (s : List ℕ) (o k j : ℕ) → j < k → get_or (part s o k) j 0 ≡ get_or s (o + j) 0
unfolding part
get_d_part s o k j h = rw (get_or-take, get_or-drop)

-- a part of bytes is bytes
pub octets_part : (s : List ℕ) (o k : ℕ) → Octets s → Octets (part s o k)
octets_part s o k h i = go (dec_lt i k)
  where
    go : Dec (i < k) → get_or (part s o k) i 0 < 256
    go (yes l) = rw (get_d_part s o k i l) (h (o + i))
    go (no l) =
        let n = length_part s o k in
        let z : get_or (part s o k) i 0 ≡ 0 = get_or-eq_default (part s o k) 0 (omega arith) in
        omega arith

pub splice_out : (s : List ℕ) (o : ℕ) (xs : List ℕ) (k : ℕ) → Apart k 1 o (length xs) → get_or (splice s o xs) k 0 ≡ get_or s k 0
unfolding splice
splice_out s o [] k h = refl
splice_out s o (x ∷ xs) k h = splice_out (set s o x) (o + 1) xs k (omega arith) ∙ get_or-set_other s o k x 0 (omega arith)

pub splice_in : (s : List ℕ) (o : ℕ) (xs : List ℕ) (j : ℕ) → o + length xs ≤ length s → j < length xs → get_or (splice s o xs) (o + j) 0 ≡ get_or xs j 0
unfolding splice
splice_in s o [] j f h = omega arith
splice_in s o (x ∷ xs) zero f h = rw (add-zero, splice_out (set s o x) (o + 1) xs o (omega arith), get_or-set_same s o x 0 (omega arith))
splice_in s o (x ∷ xs) (suc j) f h =
    let e : o + suc j ≡ o + 1 + j = omega arith in
    rw e (splice_in (set s o x) (o + 1) xs j (rw length-set (omega arith)) (omega arith))

-- ---- a part after a splice
-- apart from it
pub part_apart : (s : List ℕ) (o k p : ℕ) (xs : List ℕ) → Apart o k p (length xs) → part (splice s p xs) o k ≡ part s o k
part_apart s o k p xs h =
    ext_get_or 0 _ _ (rw (length_part, length_part, length_splice))
    (λ i b.
    let b' : i < min k (length (splice s p xs) - o) = rw length_part at b in
    let hk : i < k = omega arith in
    rw (get_d_part (splice s p xs) o k i hk, get_d_part s o k i hk, splice_out s p xs (o + i) (omega arith)))

-- inside of it
pub part_in : (s : List ℕ) (o : ℕ) (xs : List ℕ) (a k : ℕ) → o + length xs ≤ length s → a + k ≤ length xs → part (splice s o xs) (o + a) k ≡ part xs a k
part_in s o xs a k f h =
    ext_get_or 0 _ _ (rw (length_part, length_part, length_splice) (omega arith))
    (λ i b.
    let b' : i < min k (length (splice s o xs) - (o + a)) = rw length_part at b in
    let hk : i < k = omega arith in
    let e : o + a + i ≡ o + (a + i) = omega arith in
    rw (get_d_part (splice s o xs) (o + a) k i hk, get_d_part xs a k i hk, e, splice_in s o xs (a + i) f (omega arith)))

pub part_all : (s : List ℕ) (k : ℕ) → length s ≡ k → part s 0 k ≡ s
part_all s k e =
    ext_get_or 0 _ _ (rw length_part (omega arith))
    (λ i b.
    let b' : i < min k (length s - 0) = rw length_part at b in
    get_d_part s 0 k i (omega arith) ∙ ap (λ (j : ℕ). get_or s j 0) (omega arith))

-- at the same place
pub part_same : (s : List ℕ) (o : ℕ) (xs : List ℕ) (k : ℕ) → length xs ≡ k → o + k ≤ length s → part (splice s o xs) o k ≡ xs
part_same s o xs k e f =
    let z : o ≡ o + 0 = omega arith in
    ap (λ (p : ℕ). part (splice s o xs) p k) z ∙ part_in s o xs 0 k (omega arith) (omega arith) ∙ part_all xs k e

-- a part of a part
pub part_part : (s : List ℕ) (o k a m : ℕ) → a + m ≤ k → part (part s o k) a m ≡ part s (o + a) m
part_part s o k a m h =
    ext_get_or 0 _ _ (rw (length_part, length_part, length_part) (omega arith))
    (λ i b.
    let b' : i < min m (length (part s o k) - a) = rw length_part at b in
    let hm : i < m = omega arith in
    let e : o + (a + i) ≡ o + a + i = omega arith in
    rw (get_d_part (part s o k) a m i hm, get_d_part s o k (a + i) (omega arith), get_d_part s (o + a) m i hm, e))

-- the first j bytes, and then m more
pub part_join : (xs : List ℕ) (j m : ℕ) → part xs 0 (j + m) ≡ part xs 0 j ++ part xs j m
unfolding part
part_join xs j m = take-add j m xs

-- the byte at o, and the rest up to e
pub part_cons : (s : List ℕ) (o e : ℕ) → o < length s → suc o ≤ e → get_or s o 0 ∷ part s (suc o) (e - suc o) ≡ part s o (e - o)
unfolding part
part_cons s o e l m = let q : e - o ≡ suc (e - suc o) = omega arith in sym (rw (drop-cons s o 0 l, q) refl)

pub part_one : (s : List ℕ) (o : ℕ) → o < length s → get_or s o 0 ∷ [] ≡ part s o (suc o - o)
unfolding part
part_one s o l = let z : 0 ≡ suc o - suc o = omega arith in ap (λ (k : ℕ). get_or s o 0 ∷ take k (drop (suc o) s)) z ∙ part_cons s o (suc o) l (omega arith)

-- ---- two splices
pub splice_append : (s : List ℕ) (o : ℕ) (xs ys : List ℕ) → splice (splice s o xs) (o + length xs) ys ≡ splice s o (xs ++ ys)
unfolding splice
splice_append s o [] ys = rw add-zero
splice_append s o (x ∷ xs) ys =
    let e : o + suc (length xs) ≡ o + 1 + length xs = omega arith in
    rw e (splice_append (set s o x) (o + 1) xs ys)

set_splice : (s : List ℕ) (o : ℕ) (xs : List ℕ) (p y : ℕ) → Apart p 1 o (length xs) → set (splice s o xs) p y ≡ splice (set s p y) o xs
unfolding splice
set_splice s o [] p y h = refl
set_splice s o (x ∷ xs) p y h = set_splice (set s o x) (o + 1) xs p y (omega arith) ∙ rw (set_comm s o p x y (omega arith))

-- apart from each other, in either order
pub splice_comm : (s : List ℕ) (o : ℕ) (xs : List ℕ) (p : ℕ) (ys : List ℕ) → Apart o (length xs) p (length ys) → splice (splice s o xs) p ys ≡ splice (splice s p ys) o xs
unfolding splice
splice_comm s o xs p [] h = refl
splice_comm s o xs p (y ∷ ys) h = rw (set_splice s o xs p y (omega arith)) (splice_comm (set s p y) o xs (p + 1) ys (omega arith))

-- at one place: the second counts
pub splice_twice : (s : List ℕ) (o : ℕ) (xs ys : List ℕ) → length xs ≡ length ys → splice (splice s o xs) o ys ≡ splice s o ys
unfolding splice
splice_twice s o [] ys e = refl
splice_twice s o (x ∷ xs) [] e = let z : ⊥ = omega arith in absurd z
splice_twice s o (x ∷ xs) (y ∷ ys) e =
    rw (set_splice (set s o x) (o + 1) xs o y (omega arith), set-set) (splice_twice (set s o y) (o + 1) xs ys (omega arith))

-- one byte more
pub splice_snoc : (s : List ℕ) (o : ℕ) (xs : List ℕ) (k x : ℕ) → length xs ≡ k → set (splice s o xs) (o + k) x ≡ splice s o (xs ++ (x ∷ []))
unfolding splice
splice_snoc s o xs k x e = rw (← e) (splice_append s o xs (x ∷ []))

-- ---- what the code makes of a part
-- `&s[o..o + k]`
pub cut : (s : List ℕ) (o k : ℕ) → take (o + k - o) (drop o s) ≡ part s o k
unfolding part
cut s o k = let e : o + k - o ≡ k = omega arith in rw e

-- `&s[0..k]`, and the whole where it is no longer
pub front_part : (s : List ℕ) (k : ℕ) → take (k - 0) s ≡ take k s
front_part s k = let e : k - 0 ≡ k = omega arith in ap (λ (m : ℕ). take m s) e

pub front_all : (s : List ℕ) (k : ℕ) → length s ≤ k → s ≡ take k s
front_all s k h = sym (take_all k s h)

-- r is what the test says of a part, as the code cuts it out
pub cut_test : (p : List ℕ → Bool) (s : List ℕ) (o k : ℕ) {r b : Bool} → r ≡ p (take (o + k - o) (drop o s)) → r ≡ b → p (part s o k) ≡ b
cut_test p s o k e h = ap p (sym (cut s o k)) ∙ sym e ∙ h

pub length_cut : (s : List ℕ) (o k : ℕ) → o + k ≤ length s → length (take (o + k - o) (drop o s)) ≡ k
length_cut s o k h = rw (cut, length_part) (omega arith)

splice_sets : (s : List ℕ) (o : ℕ) (ys : List ℕ) → splice s o ys ≡ sets s o ys
unfolding splice
splice_sets s o [] = refl
splice_sets s o (y ∷ ys) = rw add-one (splice_sets (set s o y) (suc o) ys)

-- the whole once a part that was lent, `&mut s[o..o + k]`, has come back with ys
pub lent : (s : List ℕ) (o k : ℕ) (ys : List ℕ) → length ys ≡ k → o + k ≤ length s → put_mid o (o + k - o) s ys ≡ splice s o ys
lent s o k ys e h =
    let q : o + k - o ≡ length ys = omega arith in
    rw (q, splice_sets, sets-eq ys s o (omega arith), append_assoc)
    (rw drop-drop)

-- ---- ranges zeroed and copied: lengths, and one byte more
pub length_zeroed : (s : List ℕ) (o k : ℕ) → length (zeroed s o k) ≡ length s
unfolding zeroed
length_zeroed s o k = length_splice s o (replicate k 0)

pub length_copied : (d : List ℕ) (o : ℕ) (s : List ℕ) (p k : ℕ) → length (pasted d o s p k) ≡ length d
unfolding pasted
length_copied d o s p k = length_splice d o (part s p k)

pub copied_none : (d : List ℕ) (o : ℕ) (s : List ℕ) (p : ℕ) → d ≡ pasted d o s p 0
unfolding pasted part splice
copied_none d o s p = refl

pub part_more : (s : List ℕ) (p k : ℕ) → p + k < length s → part s p (k + 1) ≡ part s p k ++ (get_or s (p + k) 0 ∷ [])
unfolding part
part_more s p k h = rw (add-one, take-suc (drop p s) k 0 (rw length-drop (omega arith)), get_or-drop)

pub copied_more : (d : List ℕ) (o : ℕ) (s : List ℕ) (p k : ℕ) → p + k < length s → set (pasted d o s p k) (o + k) (get_or s (p + k) 0) ≡ pasted d o s p (k + 1)
unfolding pasted
copied_more d o s p k h =
    splice_snoc d o (part s p k) k (get_or s (p + k) 0) (length_inside s p k (omega arith)) ∙ ap (splice d o) (sym (part_more s p k h))

-- k bytes, and then m more
pub copied_join : (d : List ℕ) (o : ℕ) (s : List ℕ) (p k m : ℕ) → p + k ≤ length s → pasted (pasted d o s p k) (o + k) s (p + k) m ≡ pasted d o s p (k + m)
unfolding pasted part
copied_join d o s p k m h =
    let l : k ≡ length (take k (drop p s)) = sym (length_inside s p k h) in
    ap (λ (q : ℕ). splice (splice d o (take k (drop p s))) (o + q) (take m (drop (p + k) s))) l
    ∙ splice_append d o (take k (drop p s)) (take m (drop (p + k) s))
    ∙ ap (λ (t : List ℕ). splice d o (take k (drop p s) ++ take m t)) (sym (drop-drop k p s))
    ∙ ap (splice d o) (sym (take-add k m (drop p s)))

-- a whole list zeroed
pub zeroed_all : (s : List ℕ) (k : ℕ) → length s ≡ k → zeroed s 0 k ≡ replicate k 0
unfolding zeroed
zeroed_all s k e =
    ext_get_or 0 _ _ (length_splice s 0 (replicate k 0) ∙ e ∙ sym (length-replicate k 0))
    (λ i b.
    let n : length (splice s 0 (replicate k 0)) ≡ length s = length_splice s 0 (replicate k 0) in
    let m : length (replicate {A = ℕ} k 0) ≡ k = length-replicate k 0 in
    let q : i ≡ 0 + i = omega arith in
    ap (λ (j : ℕ). get_or (splice s 0 (replicate k 0)) j 0) q ∙ splice_in s 0 (replicate k 0) i (omega arith) (omega arith))
