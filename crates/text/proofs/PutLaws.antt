-- Laws of text put into a buffer, and of numbers as text.
use Prim.Native.Nat.{ℕ, zero, suc, ◌+◌, ◌-◌, ◌*◌, ◌/◌, ◌^◌, ◌≤◌, ◌<◌, min, max}
use mathlib.Core.Path.{◌≡◌, refl, sym, ap, ap₂, ◌∙◌}
use mathlib.Core.List.{List, [], ◌∷◌, ◌++◌, append_assoc, append-nil}
use native.Mathlib.Nat.{pow-suc, pow-le-pow_right, one-le-pow}
use native.Mathlib.Decide.{dec_lt}
use native.Mathlib.Numerals.{add-one}
use native.Mathlib.Omega.{arith}
use borrow.Author.Tests.{lt-ltb, le-ltb}
use lib.Dec.{ltb, lit<}
use lib.ListN.{length, get_or, take, length-append}
use lib.Seq.{take-suc, take-length}
use borrow.Rule.Slice.PartMut.{put_mid}
use Rattle.io.specs.Digits.{last_digits, IsDigitCount}
use Rattle.bounded.specs.Search.{pick}
use Rattle.octets.specs.Octets.{splice}
use Rattle.octets.proofs.PartLaws.{lent, splice_append, length_splice}
use Rattle.text.specs.Letters.{letters}
use Rattle.text.specs.Put.{Put, places, decimal_text, each, bytes_text}

-- ---- text
pub put_lent : (s : List ℕ) (o : ℕ) (xs ys : List ℕ) → ys ≡ xs → o + length xs ≤ length s → Put s o xs (o + length xs) (put_mid o (o + length xs - o) s ys)
put_lent s o xs ys e l = record { ends = refl; holds = lent s o (length xs) ys (ap length e) l ∙ ap (splice s o) e }

-- one text after the other
pub put_on : (s t u : List ℕ) (o e f : ℕ) (xs ys : List ℕ) → Put s o xs e t → Put t e ys f u → Put s o (xs ++ ys) f u
put_on s t u o e f xs ys p q =
    record {
      ends = rw (length-append xs ys) (omega (arith, p.ends, q.ends));
      holds = q.holds ∙ ap₂ (λ (l : List ℕ) (m : ℕ). splice l m ys) p.holds p.ends ∙ splice_append s o xs ys;
    }

pub put_length : (s t : List ℕ) (o e : ℕ) (xs : List ℕ) → Put s o xs e t → length t ≡ length s
put_length s t o e xs p = ap length p.holds ∙ length_splice s o xs

pub put_same : (s t : List ℕ) (o e : ℕ) (xs ys : List ℕ) → xs ≡ ys → Put s o xs e t → Put s o ys e t
put_same s t o e xs ys h p = record { ends = p.ends ∙ ap (λ (l : List ℕ). o + length l) h; holds = p.holds ∙ ap (splice s o) h }

-- ---- numbers
-- a number below b ^ m takes no more than m digits
no_longer : (b l m n k : ℕ) → 0 < b → l ≤ m → n < b ^ m → IsDigitCount b l n k → k ≤ m
no_longer b l m n k p q r h = go (dec_lt m k)
  where
    go : Dec (m < k) → k ≤ m
    go (yes g) = absurd (let a : b ^ m ≤ b ^ (k - 1) = pow-le-pow_right {n = b} p {i = m} {j = k - 1} (omega arith) in omega (arith, h.2 (omega arith)))
    go (no g) = omega arith

pub decimal_short : (n k : ℕ) → n < 2 ^ 64 → IsDigitCount 10 1 n k → k ≤ 20
decimal_short n k l h = no_longer 10 1 20 n k (omega arith) (omega arith) (omega arith) h

pub hex_digits : (n w k : ℕ) → 1 ≤ w → w ≤ 16 → n < 16 ^ w → IsDigitCount 16 (min (max w 1) 16) n k → k ≡ w
hex_digits n w k a b l h = let z : min (max w 1) 16 ≡ w = omega arith in omega (arith, h.0, no_longer 16 (min (max w 1) 16) w n k (omega arith) (omega arith) l h)

-- one digit, for a number below ten
one_digit : (k n : ℕ) → IsDigitCount 10 1 n k → n < 10 → k ≡ 1
one_digit zero n h l = absurd (let z : 1 ≤ 0 = h.0 in omega arith)
one_digit (suc zero) n h l = refl
one_digit (suc (suc k)) n h l = absurd (let p : 1 ≤ 10 ^ k = one-le-pow k 10 (lit< tt) in let g : 10 ^ (suc (suc k) - 1) ≤ n = h.2 (omega arith) in let e : 10 ^ (suc (suc k) - 1) ≡ 10 ^ k * 10 = same k in omega arith)
  where
    same : (m : ℕ) → 10 ^ (suc (suc m) - 1) ≡ 10 ^ m * 10
    same m = let z : suc (suc m) - 1 ≡ suc m = omega arith in ap (λ (x : ℕ). 10 ^ x) z ∙ pow-suc 10 m

-- the digits of a tenth, for another
fewer : (k n : ℕ) → IsDigitCount 10 1 n (suc k) → 10 ≤ n → IsDigitCount 10 1 (n / 10) k
fewer zero n h l = absurd (let e : 10 ^ 1 ≡ 10 = refl in omega (arith, h.1))
fewer (suc k) n h l =
    let a : n < 10 ^ suc k * 10 = rw (pow-suc 10 (suc k)) at h.1 in
    (omega arith, omega arith, λ m. go m)
  where
    down : (m : ℕ) → 1 < suc m → 10 ^ (suc (suc m) - 1) ≡ 10 ^ (suc m - 1) * 10
    down m g = let z : suc (suc m) - 1 ≡ suc (suc m - 1) = omega arith in ap (λ (x : ℕ). 10 ^ x) z ∙ pow-suc 10 (suc m - 1)

    go : 1 < suc k → 10 ^ (suc k - 1) ≤ n / 10
    go m = let e = down k m in let b : 10 ^ (suc (suc k) - 1) ≤ n = h.2 (omega arith) in omega arith

fewest_places : (f n k : ℕ) → IsDigitCount 10 1 n k → n < 10 ^ suc f → k ≡ places f n
unfolding places
fewest_places zero n k h l = one_digit k n h (let e : 10 ^ 1 ≡ 10 = refl in omega arith)
fewest_places (suc f) n k h l = go k h (fewest_places f (n / 10)) (dec_lt n 10)
  where
    go : (k : ℕ) → IsDigitCount 10 1 n k → ((j : ℕ) → IsDigitCount 10 1 (n / 10) j → n / 10 < 10 ^ suc f → j ≡ places f (n / 10)) → Dec (n < 10) → k ≡ pick (ltb n 10) 1 (suc (places f (n / 10)))
    go k h r (yes s) = rw (lt-ltb n 10 s) (one_digit k n h s)
    go zero h r (no s) = absurd (let z : 1 ≤ 0 = h.0 in omega arith)
    go (suc k) h r (no s) =
        let t : 10 ≤ n = omega arith in
        let b : n < 10 ^ suc f * 10 = rw (pow-suc 10 (suc f)) at l in
        let d : n / 10 < 10 ^ suc f = omega arith in
        rw (le-ltb n 10 t) (ap suc (r k (fewer k n h t) d))

pub decimal_digits : (n k : ℕ) → n < 2 ^ 64 → IsDigitCount 10 1 n k → last_digits 10 k n ≡ decimal_text n
unfolding decimal_text
decimal_digits n k l h = ap (λ (m : ℕ). last_digits 10 m n) (fewest_places 19 n k h (omega arith))

-- ---- each of some numbers
each_append : (f : ℕ → List ℕ) (xs ys : List ℕ) → each f (xs ++ ys) ≡ each f xs ++ each f ys
unfolding each
each_append f [] ys = refl
each_append f (x ∷ xs) ys = ap (◌++◌ (f x)) (each_append f xs ys) ∙ sym (append_assoc (f x) (each f xs) (each f ys))

each_more : (f : ℕ → List ℕ) (s : List ℕ) (k : ℕ) → k < length s → each f (take k s) ++ f (get_or s k 0) ≡ each f (take (k + 1) s)
unfolding each
each_more f s k l = sym (rw (add-one k, take-suc s k 0 l) (each_append f (take k s) (get_or s k 0 ∷ []) ∙ rw append-nil refl))

pub put_none : (f : ℕ → List ℕ) (s : List ℕ) (o : ℕ) (ns : List ℕ) → Put s o (each f (take 0 ns)) o s
unfolding splice each
put_none f s o ns = record { ends = omega arith; holds = refl }

pub put_more : (f : ℕ → List ℕ) (s t u : List ℕ) (o e g k : ℕ) (ns : List ℕ) → k < length ns → Put s o (each f (take k ns)) e t → Put t e (f (get_or ns k 0)) g u → Put s o (each f (take (k + 1) ns)) g u
put_more f s t u o e g k ns l p q = put_same s u o g _ _ (each_more f ns k l) (put_on s t u o e g _ _ p q)

-- ---- bytes
pub no_bytes : (s : List ℕ) → length s ≡ 0 → letters "-" ≡ bytes_text s
unfolding bytes_text
no_bytes [] e = refl
no_bytes (x ∷ xs) e = absurd (omega arith)

pub some_bytes : (s : List ℕ) (k : ℕ) → (length s ≡ 0 → ⊥) → k ≡ length s → each (last_digits 16 2) (take k s) ≡ bytes_text s
unfolding bytes_text
some_bytes [] k h e = absurd (h refl)
some_bytes (x ∷ xs) k h e = ap (each (last_digits 16 2)) (ap (λ (m : ℕ). take m (x ∷ xs)) e ∙ take-length (x ∷ xs))
