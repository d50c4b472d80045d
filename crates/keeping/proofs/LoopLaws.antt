-- Loops and chains: one that fills a list from its end on, and what a test or a fold over a list finds.
use Rattle.std.specs.List.{list_all, filter, fold}
use Rattle.std.specs.Int.{from_bool}
use Rattle.std.proofs.Common.{max, cond}
use Prim.Native.Nat.{ℕ, ◌+◌, ◌≤◌, ◌<◌}
use mathlib.Core.Path.{◌≡◌, refl, sym, ap, ◌∙◌}
use mathlib.Core.Bool.{Bool, true, false, not}
use mathlib.Core.List.{List, [], ◌∷◌, ◌++◌}
use native.Mathlib.Decide.{ℕ_discrete, dec_lt}
use native.Mathlib.Omega.{arith}
use lib.Dec.{leb, ltb}
use lib.ListN.{length, get_or, set, length-set}
use lib.Seq.{ext_get_or, get_or-set_same, get_or-set_other}
use Rattle.octets.specs.Octets.{splice}
use Rattle.octets.proofs.PartLaws.{length_splice, splice_in, splice_out, splice_snoc}
use Rattle.bounded.specs.Below.{all_below, some_below}
use Rattle.bounded.specs.Count.{one}
use Rattle.bounded.specs.Most.{most}
use Rattle.bounded.specs.Search.{pick}
use Rattle.bounded.proofs.ListLaws.{list_all-below, fold-steps}
use Rattle.bounded.proofs.MostLaws.{most_none, most_more}
use Rattle.keeping.specs.Call.{after_asked}
use Rattle.keeping.specs.Days.{up_to, latest_by}
use Rattle.keeping.proofs.TestLaws.{no_more}
use Rattle.bounded.specs.Table.{table}
use Rattle.bounded.proofs.BelowLaws.{all_ext}
use Rattle.bounded.proofs.TableLaws.{length_table, get_or_table, table_more}

pub some_ext : (p q : ℕ → Bool) (n : ℕ) → ((k : ℕ) → k < n → p k ≡ q k) → some_below p n ≡ some_below q n
unfolding some_below
some_ext p q n h = ap not (all_ext (λ k. not (p k)) (λ k. not (q k)) n (λ k l. ap not (h k l)))

-- ---- f's values at the front of a list: none yet, and one more
module _ (f : ℕ → ℕ) (l : List ℕ) where
  pub front_none : l ≡ splice l 0 (table f 0)
  unfolding splice table
  front_none = refl

  pub front_more : (k v : ℕ) → v ≡ f k → set (splice l 0 (table f k)) k v ≡ splice l 0 (table f (k + 1))
  front_more k v e =
      let z : 0 + k ≡ k = omega arith in
      ap (λ (n : ℕ). set (splice l 0 (table f k)) n v) (sym z) ∙ splice_snoc l 0 (table f k) k v (length_table f k)
      ∙ ap (λ (x : ℕ). splice l 0 (table f k ++ (x ∷ []))) e ∙ ap (splice l 0) (sym (table_more f k))

  -- behind them it is as it was
  pub front_rest : (k j : ℕ) → k ≤ j → get_or (splice l 0 (table f k)) j 0 ≡ get_or l j 0
  front_rest k j h = splice_out l 0 (table f k) j (let e = length_table f k in omega arith)

-- ---- a list filled with f's values from the end of n places on: they stand from place i on
pub record FilledFrom (f : ℕ → ℕ) (n i : ℕ) (old new : List ℕ) : Type 0 where
  pub long : length new ≡ length old
  pub from : (j : ℕ) → i ≤ j → j < n → get_or new j 0 ≡ f j
  pub past : (j : ℕ) → n ≤ j → get_or new j 0 ≡ get_or old j 0

module _ (f : ℕ → ℕ) (n : ℕ) where
  pub fill_begin : (l : List ℕ) → FilledFrom f n n l l
  fill_begin l = record { long = refl; from = λ j a b. absurd (omega arith); past = λ j a. refl }

  pub fill_more : (i v : ℕ) (old new : List ℕ) → n ≤ length old → i < n → v ≡ f i → FilledFrom f n (i + 1) old new → FilledFrom f n i old (set new i v)
  fill_more i v old new h l e t = record {
    long = length-set new i v ∙ t.long;
    from = λ j a b. at j a b (ℕ_discrete j i);
    past = λ j a. get_or-set_other new i j v 0 (λ z. omega arith) ∙ t.past j a;
  }
    where
      at : (j : ℕ) → i ≤ j → j < n → Dec (j ≡ i) → get_or (set new i v) j 0 ≡ f j
      at j a b (yes q) = ap (λ (k : ℕ). get_or (set new i v) k 0) q ∙ get_or-set_same new i v 0 (omega (arith, t.long)) ∙ e ∙ ap f (sym q)
      at j a b (no q) = get_or-set_other new i j v 0 q ∙ t.from j (omega arith) b

  -- what stands at the front, and behind it
  pub front_at : (old : List ℕ) (j : ℕ) → n ≤ length old → j < n → get_or (splice old 0 (table f n)) j 0 ≡ f j
  front_at old j h l =
      let e = length_table f n in
      let z : 0 + j ≡ j = omega arith in
      ap (λ (k : ℕ). get_or (splice old 0 (table f n)) k 0) (sym z) ∙ splice_in old 0 (table f n) j (omega arith) (omega arith) ∙ get_or_table f n j l

  pub fill_end : (old new : List ℕ) → n ≤ length old → FilledFrom f n 0 old new → new ≡ splice old 0 (table f n)
  fill_end old new h t =
      ext_get_or 0 new (splice old 0 (table f n)) (t.long ∙ sym (length_splice old 0 (table f n))) (λ j l. at j (dec_lt j n))
    where
      at : (j : ℕ) → Dec (j < n) → get_or new j 0 ≡ get_or (splice old 0 (table f n)) j 0
      at j (yes l) = t.from j (omega arith) l ∙ sym (front_at old j h l)
      at j (no l) = t.past j (omega arith) ∙ sym (front_rest f old n j (omega arith))

-- ---- as the code's chains find them
pub none_over : (cs : List ℕ) (today : ℕ) → list_all (λ d. leb d today) cs ≡ not (after_asked cs today)
unfolding after_asked some_below
none_over cs today =
    list_all-below (λ d. leb d today) 0 cs
    ∙ all_ext (λ j. leb (get_or cs j 0) today) (λ j. not (ltb today (get_or cs j 0))) (length cs) (λ j l. no_more (get_or cs j 0) today)
    ∙ twice (all_below (λ j. not (ltb today (get_or cs j 0))) (length cs))
  where
    twice : (b : Bool) → b ≡ not (not b)
    twice true = refl
    twice false = refl

-- a fold over the elements that pass
fold_passing : (p : ℕ → Bool) (h : ℕ → ℕ → ℕ) (b : ℕ) (xs : List ℕ) → fold h b (filter p xs) ≡ fold (λ m d. cond (p d) (h m d) m) b xs
fold_passing p h b [] = refl
fold_passing p h b (x ∷ xs) = pass (p x) (fold_passing p h (h b x) xs) (fold_passing p h b xs)
  where
    pass : (q : Bool) → fold h (h b x) (filter p xs) ≡ fold (λ m d. cond (p d) (h m d) m) (h b x) xs → fold h b (filter p xs) ≡ fold (λ m d. cond (p d) (h m d) m) b xs
        → fold h b (cond q (x ∷ filter p xs) (filter p xs)) ≡ fold (λ m d. cond (p d) (h m d) m) (cond q (h b x) b) xs
    pass true e f = e
    pass false e f = f

pub latest_folds : (cs : List ℕ) (end : ℕ) → fold max 0 (filter (λ d. leb d end) cs) ≡ latest_by cs end
latest_folds cs end =
    fold_passing (λ d. leb d end) max 0 cs
    ∙ ap (λ (z : ℕ). fold (λ m d. cond (leb d end) (max m d) m) z cs) (most_none (up_to cs end))
    ∙ fold-steps (λ m d. cond (leb d end) (max m d) m) (most (up_to cs end)) 0 cs
    (λ k l. one_more (leb (get_or cs k 0) end) (most (up_to cs end) k) (get_or cs k 0) ∙ most_more (up_to cs end) k _ (most (up_to cs end) k) refl refl)
  where
    one_more : (b : Bool) (m d : ℕ) → cond b (max m d) m ≡ max m (pick b d 0)
    one_more true m d = refl
    one_more false m d = omega arith

-- the same without a branch: a day behind the end counts as 0
pub latest_steps : (cs : List ℕ) (end : ℕ) → fold (λ m d. max m (pick (leb d end) d 0)) 0 cs ≡ latest_by cs end
latest_steps cs end =
    ap (λ (z : ℕ). fold (λ m d. max m (pick (leb d end) d 0)) z cs) (most_none (up_to cs end))
    ∙ fold-steps (λ m d. max m (pick (leb d end) d 0)) (most (up_to cs end)) 0 cs
    (λ k l. most_more (up_to cs end) k _ (most (up_to cs end) k) refl refl)

pub byte_one : (b : Bool) → from_bool b ≡ one b
byte_one true = refl
byte_one false = refl
