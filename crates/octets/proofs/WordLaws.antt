-- Numbers of two bytes each, one after the other.
use Prim.Native.Nat.{ℕ, zero, suc, ◌+◌, ◌*◌, ◌<◌}
use mathlib.Core.Path.{◌≡◌, refl, sym, ap, ◌∙◌}
use mathlib.Core.List.{List, [], ◌∷◌, ◌++◌}
use native.Mathlib.Omega.{arith}
use native.Mathlib.Numerals.{add-one}
use lib.ListN.{get_or, take, length}
use lib.Seq.{take-suc, length-take-le}
use Rattle.octets.specs.Octets.{splice, num_at, to_bytes, put_num, word_bytes}
use Rattle.octets.proofs.PartLaws.{splice_append}

pub length_words : (vs : List ℕ) → length (word_bytes vs) ≡ 2 * length vs
unfolding word_bytes to_bytes
length_words [] = refl
length_words (v ∷ vs) = let ih = length_words vs in omega arith

pub words_append : (vs ws : List ℕ) → word_bytes (vs ++ ws) ≡ word_bytes vs ++ word_bytes ws
unfolding word_bytes to_bytes
words_append [] ws = refl
words_append (v ∷ vs) ws = rw (words_append vs ws)

-- number j of them
pub word_at : (vs : List ℕ) (j : ℕ) → j < length vs → num_at 2 (word_bytes vs) (2 * j) ≡ get_or vs j 0
unfolding word_bytes to_bytes num_at
word_at [] j h = omega arith
word_at (v ∷ vs) zero h = omega arith
word_at (v ∷ vs) (suc j) h =
    let e : 2 * suc j ≡ suc (suc (2 * j)) = omega arith in
    let g : suc (suc (2 * j)) + 1 ≡ suc (suc (2 * j + 1)) = omega arith in
    rw (e, g) (word_at vs j (omega arith))

-- one number more, by a loop that writes numbers from o on
pub words_more : (s : List ℕ) (o : ℕ) (vs : List ℕ) (k : ℕ) → k < length vs →
    put_num 2 (splice s o (word_bytes (take k vs))) (o + 2 * k) (get_or vs k 0) ≡ splice s o (word_bytes (take (k + 1) vs))
unfolding put_num
words_more s o vs k h =
    let m : length (take k vs) ≡ k = length-take-le k vs (omega arith) in
    let l : 2 * k ≡ length (word_bytes (take k vs)) = sym (length_words (take k vs) ∙ ap (λ (i : ℕ). 2 * i) m) in
    rw (l, splice_append, add-one, take-suc vs k 0, words_append)
    (unfold word_bytes to_bytes in refl)
