-- Numbers low byte first, once over the width.
use Prim.Native.Nat.{ℕ, zero, suc, ◌+◌, ◌*◌, ◌-◌, ◌/◌, ◌%◌, ◌^◌, ◌≤◌, ◌<◌}
use mathlib.Core.Path.{◌≡◌, refl, sym, ap, ap₂, ◌∙◌}
use mathlib.Core.List.{List, [], ◌∷◌, ◌++◌}
use native.Mathlib.Omega.{arith}
use native.Mathlib.Nat.{add-zero, zero-add, mul_assoc, pow-succ', one-le-pow, div-add-mod, mod-lt, mod-eq_of_lt, mul-add-mod_self_left, div-div-eq-div-mul}
use native.Mathlib.Decide.{dec_lt}
use lib.ListN.{get_or, length}
use lib.Seq.{ext_get_or}
use Rattle.std.specs.Int.{w16, w32, w64, from_le_bytes, to_le_bytes}
use Rattle.bounded.proofs.CaseLaws.{each_suc}
use Rattle.octets.specs.Octets.{part, splice, Apart, Octets, num_at, to_bytes, put_num, pasted}
use Rattle.octets.proofs.PartLaws.{length_splice, length_inside, get_d_part, splice_out, splice_in, splice_twice, splice_comm, splice_append, part_apart, copied_join}

-- a number of one byte more, whatever the width
pub num_suc : (k : ℕ) (s : List ℕ) (o : ℕ) → num_at (suc k) s o ≡ get_or s o 0 + 256 * num_at k s (o + 1)
unfolding num_at
num_suc zero s o = omega arith
num_suc (suc k) s o = refl

-- a number is what its bytes are
pub num_ext : (k : ℕ) (s : List ℕ) (o : ℕ) (t : List ℕ) (p : ℕ) → ((j : ℕ) → j < k → get_or s (o + j) 0 ≡ get_or t (p + j) 0) → num_at k s o ≡ num_at k t p
unfolding num_at
num_ext zero s o t p h = refl
num_ext (suc k) s o t p h =
    rw (num_suc k s o, num_suc k t p)
    (ap₂ (λ (x y : ℕ). x + 256 * y)
    (ap (λ (j : ℕ). get_or s j 0) (sym (add-zero o)) ∙ h 0 (omega arith) ∙ ap (λ (j : ℕ). get_or t j 0) (add-zero p))
    (num_ext k s (o + 1) t (p + 1) (λ j l.
    let e : o + 1 + j ≡ o + suc j = omega arith in
    let g : p + 1 + j ≡ p + suc j = omega arith in
    ap (λ (i : ℕ). get_or s i 0) e ∙ h (suc j) (omega arith) ∙ ap (λ (i : ℕ). get_or t i 0) (sym g))))

-- not touched by a splice apart from it
pub num_apart : (k : ℕ) (s : List ℕ) (o p : ℕ) (xs : List ℕ) → Apart o k p (length xs) → num_at k (splice s p xs) o ≡ num_at k s o
num_apart k s o p xs h = num_ext k (splice s p xs) o s o (λ j l. splice_out s p xs (o + j) (omega arith))

-- inside of a splice
pub num_in : (k : ℕ) (s : List ℕ) (o : ℕ) (xs : List ℕ) (a : ℕ) → o + length xs ≤ length s → a + k ≤ length xs → num_at k (splice s o xs) (o + a) ≡ num_at k xs a
num_in k s o xs a f h =
    num_ext k (splice s o xs) (o + a) xs a
    (λ j l. ap (λ (i : ℕ). get_or (splice s o xs) i 0) (omega arith) ∙ splice_in s o xs (a + j) f (omega arith))

-- ---- as bytes, and back
pub length_to_bytes : (k v : ℕ) → length (to_bytes k v) ≡ k
unfolding to_bytes
length_to_bytes zero v = refl
length_to_bytes (suc zero) v = refl
length_to_bytes (suc (suc k)) v = ap suc (length_to_bytes (suc k) (v / 256))

num_cons : (k x : ℕ) (xs : List ℕ) → num_at k (x ∷ xs) 1 ≡ num_at k xs 0
num_cons k x xs =
    num_ext k (x ∷ xs) 1 xs 0
    (λ j l.
    let e : 1 + j ≡ suc j = omega arith in
    let g : j ≡ 0 + j = omega arith in
    ap (λ (i : ℕ). get_or (x ∷ xs) i 0) e ∙ ap (λ (i : ℕ). get_or xs i 0) g)

pub num_bytes : (k v : ℕ) → 0 < k → num_at k (to_bytes k v) 0 ≡ v
unfolding to_bytes
num_bytes zero v h = absurd (omega arith)
num_bytes (suc zero) v h = unfold num_at in refl
num_bytes (suc (suc k)) v h =
    let ih : num_at (suc k) (to_bytes (suc k) (v / 256)) 0 ≡ v / 256 = num_bytes (suc k) (v / 256) (omega arith) in
    num_suc (suc k) (v % 256 ∷ to_bytes (suc k) (v / 256)) 0
    ∙ ap (λ (x : ℕ). v % 256 + 256 * x) (num_cons (suc k) (v % 256) (to_bytes (suc k) (v / 256)) ∙ ih)
    ∙ omega arith

-- ---- a number that is put
pub length_num : (k : ℕ) (s : List ℕ) (o v : ℕ) → length (put_num k s o v) ≡ length s
unfolding put_num
length_num k s o v = length_splice s o (to_bytes k v)

pub num_same : (k : ℕ) (s : List ℕ) (o v : ℕ) → 0 < k → o + k ≤ length s → num_at k (put_num k s o v) o ≡ v
unfolding put_num
num_same k s o v h f =
    let n = length_to_bytes k v in
    ap (num_at k (splice s o (to_bytes k v))) (sym (add-zero o)) ∙ num_in k s o (to_bytes k v) 0 (omega arith) (omega arith) ∙ num_bytes k v h

pub num_other : (k m : ℕ) (s : List ℕ) (o p v : ℕ) → Apart o k p m → num_at k (put_num m s p v) o ≡ num_at k s o
unfolding put_num
num_other k m s o p v h = num_apart k s o p (to_bytes m v) (rw (length_to_bytes m v) h)

pub part_other : (m : ℕ) (s : List ℕ) (o k p v : ℕ) → Apart o k p m → part (put_num m s p v) o k ≡ part s o k
unfolding put_num
part_other m s o k p v h = part_apart s o k p (to_bytes m v) (rw (length_to_bytes m v) h)

-- at one place: the second counts
pub num_twice : (k : ℕ) (s : List ℕ) (o v w : ℕ) → put_num k (put_num k s o v) o w ≡ put_num k s o w
unfolding put_num
num_twice k s o v w = splice_twice s o (to_bytes k v) (to_bytes k w) (length_to_bytes k v ∙ sym (length_to_bytes k w))

-- at two places, in either order
pub num_comm : (k m : ℕ) (s : List ℕ) (o p v w : ℕ) → Apart o k p m → put_num m (put_num k s o v) p w ≡ put_num k (put_num m s p w) o v
unfolding put_num
num_comm k m s o p v w h =
    splice_comm s o (to_bytes k v) p (to_bytes m w) (rw (length_to_bytes k v, length_to_bytes m w) h)

-- a read apart from a write and two writes in either order, with the places first
pub num_off : (k m o p : ℕ) → Apart o k p m → (s : List ℕ) (v : ℕ) → num_at k (put_num m s p v) o ≡ num_at k s o
num_off k m o p h s v = num_other k m s o p v h

pub num_swap : (k m o p : ℕ) → Apart o k p m → (s : List ℕ) (v w : ℕ) → put_num m (put_num k s o v) p w ≡ put_num k (put_num m s p w) o v
num_swap k m o p h s v w = num_comm k m s o p v w h

-- a number that changes nothing stands there
pub num_stands : (k : ℕ) (s : List ℕ) (o v : ℕ) → 0 < k → o + k ≤ length s → put_num k s o v ≡ s → num_at k s o ≡ v
num_stands k s o v h f e = ap (λ (t : List ℕ). num_at k t o) (sym e) ∙ num_same k s o v h f

-- ---- bytes that are bytes
pub num_bound : (k : ℕ) (s : List ℕ) (o : ℕ) → Octets s → num_at k s o < 256 ^ k
unfolding num_at
num_bound zero s o h = omega arith
num_bound (suc k) s o h =
    let ih : num_at k s (o + 1) < 256 ^ k = num_bound k s (o + 1) h in
    let b : get_or s o 0 < 256 = h o in
    rw (num_suc k s o, pow-succ' 256 k) (omega arith)

-- equal numbers have equal bytes
pub num_inj : (k : ℕ) (s : List ℕ) (o : ℕ) (t : List ℕ) (p : ℕ) → Octets s → Octets t → num_at k s o ≡ num_at k t p → (j : ℕ) → j < k → get_or s (o + j) 0 ≡ get_or t (p + j) 0
num_inj zero s o t p hs ht e j l = absurd (omega arith)
num_inj (suc k) s o t p hs ht e j l =
    let w : get_or s o 0 + 256 * num_at k s (o + 1) ≡ get_or t p 0 + 256 * num_at k t (p + 1) = sym (num_suc k s o) ∙ e ∙ num_suc k t p in
    let a : get_or s o 0 < 256 = hs o in
    let b : get_or t p 0 < 256 = ht p in
    let low : get_or s o 0 ≡ get_or t p 0 = omega arith in
    let high : num_at k s (o + 1) ≡ num_at k t (p + 1) = omega arith in
    each_suc (λ i. get_or s (o + i) 0 ≡ get_or t (p + i) 0) k
    (rw (add-zero, add-zero) low)
    (λ i m.
    let x : o + suc i ≡ o + 1 + i = omega arith in
    let y : p + suc i ≡ p + 1 + i = omega arith in
    rw (x, y) (num_inj k s (o + 1) t (p + 1) hs ht high i m)) j l

-- a number is 0 exactly if its bytes are
pub num_zero : (k : ℕ) (s : List ℕ) (o : ℕ) → num_at k s o ≡ 0 → (j : ℕ) → j < k → get_or s (o + j) 0 ≡ 0
num_zero zero s o e j l = absurd (omega arith)
num_zero (suc k) s o e j l =
    let w : get_or s o 0 + 256 * num_at k s (o + 1) ≡ 0 = sym (num_suc k s o) ∙ e in
    let low : get_or s o 0 ≡ 0 = omega arith in
    let high : num_at k s (o + 1) ≡ 0 = omega arith in
    each_suc (λ i. get_or s (o + i) 0 ≡ 0) k (rw add-zero low)
    (λ i m. let x : o + suc i ≡ o + 1 + i = omega arith in rw x (num_zero k s (o + 1) high i m)) j l

pub zero_num : (k : ℕ) (s : List ℕ) (o : ℕ) → ((j : ℕ) → j < k → get_or s (o + j) 0 ≡ 0) → num_at k s o ≡ 0
zero_num zero s o h = unfold num_at in refl
zero_num (suc k) s o h =
    let a : get_or s o 0 ≡ 0 = ap (λ (x : ℕ). get_or s x 0) (sym (add-zero o)) ∙ h 0 (omega arith) in
    let b : num_at k s (o + 1) ≡ 0 = zero_num k s (o + 1) (λ j l. let x : o + 1 + j ≡ o + suc j = omega arith in rw x (h (suc j) (omega arith))) in
    num_suc k s o ∙ omega arith

-- a number's bytes are those that it was read from
pub byte_back : (k : ℕ) (d : List ℕ) (o j : ℕ) → Octets d → j < k → get_or (to_bytes k (num_at k d o)) j 0 ≡ get_or d (o + j) 0
unfolding num_at to_bytes
byte_back zero d o j h l = absurd (omega arith)
byte_back (suc zero) d o zero h l = ap (λ (x : ℕ). get_or d x 0) (same o)
  where
    same : (o : ℕ) → o ≡ o + 0
    same o = omega arith
byte_back (suc zero) d o (suc j) h l = absurd (omega arith)
byte_back (suc (suc k)) d o zero h l =
    let b = h o in
    let e : (get_or d o 0 + 256 * num_at (suc k) d (o + 1)) % 256 ≡ get_or d o 0 = omega arith in
    e ∙ ap (λ (x : ℕ). get_or d x 0) (same o)
  where
    same : (o : ℕ) → o ≡ o + 0
    same o = omega arith
byte_back (suc (suc k)) d o (suc j) h l =
    let b = h o in
    let e : (get_or d o 0 + 256 * num_at (suc k) d (o + 1)) / 256 ≡ num_at (suc k) d (o + 1) = omega arith in
    ap (λ (v : ℕ). get_or (to_bytes (suc k) v) j 0) e ∙ byte_back (suc k) d (o + 1) j h (omega arith) ∙ ap (λ (x : ℕ). get_or d x 0) (more o j)
  where
    more : (o j : ℕ) → o + 1 + j ≡ o + suc j
    more o j = omega arith

pub bytes_back : (k : ℕ) (s : List ℕ) (o : ℕ) → Octets s → o + k ≤ length s → to_bytes k (num_at k s o) ≡ part s o k
bytes_back k s o h l =
    ext_get_or 0 _ _ (length_to_bytes k (num_at k s o) ∙ sym (length_inside s o k l))
    (λ i b. let e = length_to_bytes k (num_at k s o) in byte_back k s o i h (omega arith) ∙ sym (get_d_part s o k i (omega arith)))

-- a number that is copied: its bytes are
pub num_copied : (k : ℕ) (d : List ℕ) (o : ℕ) (s : List ℕ) (p j : ℕ) → Octets s → p + (j + k) ≤ length s → put_num k (pasted d o s p j) (o + j) (num_at k s (p + j)) ≡ pasted d o s p (j + k)
unfolding put_num pasted
num_copied k d o s p j h l =
    ap (splice (pasted d o s p j) (o + j)) (bytes_back k s (p + j) h (omega arith))
    ∙ copied_join d o s p j k (omega arith)

-- byte x of a number that is written, of another one, and of one written as it was
pub put_byte : (k : ℕ) (s : List ℕ) (o v x : ℕ) → Apart x 1 o k → get_or (put_num k s o v) x 0 ≡ get_or s x 0
unfolding put_num
put_byte k s o v x a = splice_out s o (to_bytes k v) x (rw (length_to_bytes k v) a)

pub keep_byte : (k : ℕ) (s d : List ℕ) (o x : ℕ) → Octets d → o + k ≤ length s → get_or s x 0 ≡ get_or d x 0 → get_or (put_num k s o (num_at k d o)) x 0 ≡ get_or d x 0
unfolding put_num
keep_byte k s d o x h l e = elim (dec_lt x o) [
  | yes a ↦ put_byte k s o (num_at k d o) x (omega arith) ∙ e
  | no a ↦ elim (dec_lt x (o + k)) [
    | no c ↦ put_byte k s o (num_at k d o) x (omega arith) ∙ e
    | yes c ↦
        let n = length_to_bytes k (num_at k d o) in
        let f : x ≡ o + (x - o) = omega arith in
        ap (λ (y : ℕ). get_or (put_num k s o (num_at k d o)) y 0) f
        ∙ splice_in s o (to_bytes k (num_at k d o)) (x - o) (omega arith) (omega arith)
        ∙ byte_back k d o (x - o) h (omega arith)
        ∙ ap (λ (y : ℕ). get_or d y 0) (sym f)
  ]
]

-- ---- two numbers side by side are one: how the code reads six bytes
pub num_join : (j k : ℕ) (s : List ℕ) (o : ℕ) → num_at (j + k) s o ≡ num_at j s o + 256 ^ j * num_at k s (o + j)
num_join zero k s o =
    let e : 0 + k ≡ k = omega arith in
    let z : num_at 0 s o ≡ 0 = unfold num_at in refl in
    rw (e, add-zero, z) (omega arith)
num_join (suc j) k s o =
    let e : suc j + k ≡ suc (j + k) = omega arith in
    let g : o + suc j ≡ o + 1 + j = omega arith in
    let ih = num_join j k s (o + 1) in
    rw (e, g, num_suc (j + k) s o, num_suc j s o, pow-succ' 256 j, ih, mul_assoc 256 (256 ^ j) (num_at k s (o + 1 + j))) (omega arith)

-- ---- and two that are written side by side
mod_split : (b v : ℕ) → 0 < b → v % (256 * b) ≡ 256 * (v / 256 % b) + v % 256
mod_split b v h =
    let d : b * (v / 256 / b) + v / 256 % b ≡ v / 256 = div-add-mod (v / 256) b in
    let l : v / 256 % b < b = mod-lt (v / 256) h in
    let e : v ≡ 256 * (b * (v / 256 / b)) + (256 * (v / 256 % b) + v % 256) = omega arith in
    let f : v ≡ 256 * b * (v / 256 / b) + (256 * (v / 256 % b) + v % 256) = e ∙ rw (← mul_assoc 256 b (v / 256 / b)) in
    ap (λ (x : ℕ). x % (256 * b)) f ∙ mul-add-mod_self_left (256 * b) (v / 256 / b) (256 * (v / 256 % b) + v % 256) ∙ mod-eq_of_lt (omega arith)

bytes_join : (j m v : ℕ) → to_bytes (suc j) (v % 256 ^ suc j) ++ to_bytes (suc m) (v / 256 ^ suc j) ≡ to_bytes (suc j + suc m) v
unfolding to_bytes
bytes_join zero m v = let e : 1 + suc m ≡ suc (suc m) = omega arith in rw e
bytes_join (suc j) m v =
    let e : suc (suc j) + suc m ≡ suc (suc (suc j + m)) = omega arith in
    let g : suc j + suc m ≡ suc (suc j + m) = omega arith in
    let q : v % (256 * 256 ^ suc j) ≡ 256 * (v / 256 % 256 ^ suc j) + v % 256 = mod_split (256 ^ suc j) v (one-le-pow (suc j) 256 (omega arith)) in
    let lo : v % (256 * 256 ^ suc j) % 256 ≡ v % 256 = omega arith in
    let hi : v % (256 * 256 ^ suc j) / 256 ≡ v / 256 % 256 ^ suc j = omega arith in
    let ih = bytes_join j m (v / 256) in
    rw (e, pow-succ' 256 (suc j), lo, hi, ← div-div-eq-div-mul v 256 (256 ^ suc j)) (ap (λ (l : List ℕ). v % 256 ∷ l) (rw g at ih))

pub put_join : (j m : ℕ) (s : List ℕ) (o v : ℕ) → put_num (suc m) (put_num (suc j) s o (v % 256 ^ suc j)) (o + suc j) (v / 256 ^ suc j) ≡ put_num (suc j + suc m) s o v
unfolding put_num
put_join j m s o v =
    ap (λ (p : ℕ). splice (splice s o (to_bytes (suc j) (v % 256 ^ suc j))) (o + p) (to_bytes (suc m) (v / 256 ^ suc j))) (sym (length_to_bytes (suc j) (v % 256 ^ suc j)))
    ∙ splice_append s o (to_bytes (suc j) (v % 256 ^ suc j)) (to_bytes (suc m) (v / 256 ^ suc j))
    ∙ ap (splice s o) (bytes_join j m v)

-- ---- the library's numbers of two, four and eight bytes
num_part : (k : ℕ) (s : List ℕ) (o : ℕ) → num_at k (part s o k) 0 ≡ num_at k s o
num_part k s o =
    num_ext k (part s o k) 0 s o (λ j l. ap (λ (i : ℕ). get_or (part s o k) i 0) (zero-add j) ∙ get_d_part s o k j l)

pub num_le_2 : (s : List ℕ) (o : ℕ) → from_le_bytes w16 (part s o 2) ≡ num_at 2 s o
unfolding num_at
num_le_2 s o = rw (← num_part 2 s o) (omega arith)

pub num_le_4 : (s : List ℕ) (o : ℕ) → from_le_bytes w32 (part s o 4) ≡ num_at 4 s o
unfolding num_at
num_le_4 s o = rw (← num_part 4 s o) (omega arith)

pub num_le_8 : (s : List ℕ) (o : ℕ) → from_le_bytes w64 (part s o 8) ≡ num_at 8 s o
unfolding num_at
num_le_8 s o = rw (← num_part 8 s o) (omega arith)

pub le_num_2 : (v : ℕ) → v < 2 ^ 16 → to_le_bytes w16 v ≡ to_bytes 2 v
unfolding to_bytes
le_num_2 v h = ap (λ (x : ℕ). v % 256 ∷ x ∷ []) (omega arith)

pub le_num_4 : (v : ℕ) → v < 2 ^ 32 → to_le_bytes w32 v ≡ to_bytes 4 v
unfolding to_bytes
le_num_4 v h =
    let a : v / 65536 ≡ v / 256 / 256 = omega arith in
    let b : v / 16777216 % 256 ≡ v / 256 / 256 / 256 = omega arith in
    rw (a, b)

pub le_num_8 : (v : ℕ) → v < 2 ^ 64 → to_le_bytes w64 v ≡ to_bytes 8 v
unfolding to_bytes
le_num_8 v h =
    let b2 : v / 65536 ≡ v / 256 / 256 = omega arith in
    let b3 : v / 16777216 ≡ v / 256 / 256 / 256 = omega arith in
    let b4 : v / 4294967296 ≡ v / 256 / 256 / 256 / 256 = omega arith in
    let b5 : v / 1099511627776 ≡ v / 256 / 256 / 256 / 256 / 256 = omega arith in
    let b6 : v / 281474976710656 ≡ v / 256 / 256 / 256 / 256 / 256 / 256 = omega arith in
    let b7 : v / 72057594037927936 % 256 ≡ v / 256 / 256 / 256 / 256 / 256 / 256 / 256 = omega arith in
    rw (b2, b3, b4, b5, b6, b7)
