-- Laws of the list of a function's values, and of a loop that fills it.
use mathlib.Core.Path.{◌≡◌, refl, sym, ap, ap₂, ◌∙◌}
use mathlib.Core.List.{List, [], ◌∷◌, ◌++◌}
use Prim.Native.Nat.{ℕ, zero, suc, ◌+◌, ◌≤◌, ◌<◌}
use native.Mathlib.Nat.{not-suc-le-zero, le_of_suc-le-suc, zero-add, add-zero, suc-add}
use native.Mathlib.Decide.{ℕ_discrete}
use native.Mathlib.Omega.{arith}
use lib.ListN.{length, get_or, set, length-set}
use lib.Seq.{ext_get_or, get_or-set_same, get_or-set_other}
use Rattle.bounded.specs.Table.{table, Tabulated}

pub length_table : (f : ℕ → ℕ) (n : ℕ) → length (table f n) ≡ n
unfolding table
length_table f zero = refl
length_table f (suc n) = ap suc (length_table (λ k. f (suc k)) n)

pub get_or_table : (f : ℕ → ℕ) (n i : ℕ) → i < n → get_or (table f n) i 0 ≡ f i
unfolding table
get_or_table f zero i l = absurd (not-suc-le-zero l)
get_or_table f (suc n) zero l = refl
get_or_table f (suc n) (suc i) l = get_or_table (λ k. f (suc k)) n i (le_of_suc-le-suc l)

-- functions that are equal below n
pub table_ext : (f g : ℕ → ℕ) (n : ℕ) → ((k : ℕ) → k < n → f k ≡ g k) → table f n ≡ table g n
unfolding table
table_ext f g zero h = refl
table_ext f g (suc n) h = ap₂ (λ (x : ℕ) (l : List ℕ). x ∷ l) (h 0 (omega arith)) (table_ext (λ k. f (suc k)) (λ k. g (suc k)) n (λ k l. h (suc k) (omega arith)))

-- the first j values, and then m more
pub table_append : (f : ℕ → ℕ) (j m : ℕ) → table f (j + m) ≡ table f j ++ table (λ k. f (j + k)) m
unfolding table
table_append f zero m = rw zero-add (table_ext f (λ k. f (0 + k)) m (λ k l. rw zero-add))
table_append f (suc j) m =
    rw suc-add
    (ap (λ (l : List ℕ). f 0 ∷ l) (table_append (λ k. f (suc k)) j m ∙ ap (λ (l : List ℕ). table (λ k. f (suc k)) j ++ l) (table_ext (λ k. f (suc (j + k))) (λ k. f (suc j + k)) m (λ k l. rw suc-add))))

pub table_more : (f : ℕ → ℕ) (k : ℕ) → table f (k + 1) ≡ table f k ++ (f k ∷ [])
table_more f k = table_append f k 1 ∙ ap (λ (l : List ℕ). table f k ++ l) (last f k)
  where
    last : (f : ℕ → ℕ) (k : ℕ) → table (λ j. f (k + j)) 1 ≡ f k ∷ []
    last f k = unfold table in ap (λ (j : ℕ). f j ∷ []) (add-zero k)

-- a loop that fills a list: before it, a turn, after it
module _ (f : ℕ → ℕ) (n : ℕ) where
  pub filled_none : (l : List ℕ) → length l ≡ n → Tabulated f n 0 l
  filled_none l e = record { long = e; each = λ i h. absurd (not-suc-le-zero h) }

  pub filled_more : (k v : ℕ) (l : List ℕ) → k < n → v ≡ f k → Tabulated f n k l → Tabulated f n (k + 1) (set l k v)
  filled_more k v l h e t = record { long = length-set l k v ∙ t.long; each = λ i p. at i p (ℕ_discrete i k) }
    where
      at : (i : ℕ) → i < k + 1 → Dec (i ≡ k) → get_or (set l k v) i 0 ≡ f i
      at i p (yes q) = ap (λ (j : ℕ). get_or (set l k v) j 0) q ∙ get_or-set_same l k v 0 (omega (arith, t.long)) ∙ e ∙ ap f (sym q)
      at i p (no q) = get_or-set_other l k i v 0 q ∙ t.each i (omega arith)

  pub filled_all : (k : ℕ) (l : List ℕ) → n ≤ k → Tabulated f n k l → l ≡ table f n
  filled_all k l h t =
      ext_get_or 0 l (table f n) (t.long ∙ sym (length_table f n))
      (λ i p. t.each i (omega (arith, t.long)) ∙ sym (get_or_table f n i (omega (arith, t.long))))

-- the table of a list's own elements
pub table_list : (l : List ℕ) (k : ℕ) → length l ≡ k → table (λ j. get_or l j 0) k ≡ l
table_list l k e = sym (filled_all (λ j. get_or l j 0) k k l (omega arith) (record { long = e; each = λ j h. refl }))
