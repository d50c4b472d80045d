-- The rule by the map of days and the terms' latest days is the rule.
use Prim.Native.Nat.{ℕ, ◌+◌, ◌*◌, ◌-◌, ◌≤◌, ◌<◌, min}
use mathlib.Core.Path.{◌≡◌, refl, sym, ap, ap₂, ◌∙◌}
use mathlib.Core.Bool.{Bool, true, false, not, ◌&&◌, ◌||◌}
use mathlib.Core.Logic.{⊎_elim}
use mathlib.Core.List.{List}
use native.Mathlib.Decide.{dec_lt}
use native.Mathlib.Omega.{arith}
use borrow.Author.Tests.{le-leb, lt-leb, leb-true, eq-eqb, eqb-true}
use lib.Dec.{eqb, leb}
use lib.ListN.{length, get_or}
use Rattle.bounded.specs.Below.{all_below, some_below}
use Rattle.bounded.specs.Search.{pick}
use Rattle.bounded.specs.Count.{one, count}
use Rattle.bounded.specs.Table.{table}
use Rattle.bounded.proofs.BelowLaws.{all_ext, some_of, some_at}
use Rattle.bounded.proofs.BoolLaws.{same_test, and-true, and_left, and_right, and_false_l, holds_or_fails}
use Rattle.bounded.proofs.CountLaws.{count_ext}
use Rattle.bounded.proofs.MostLaws.{most_within}
use Rattle.bounded.proofs.TableLaws.{length_table, table_ext}
use Rattle.octets.specs.Octets.{splice}
use Rattle.octets.proofs.PartLaws.{splice_twice}
use Rattle.calendar.specs.Date.{within, sunday}
use Rattle.keeping.specs.Keeping.{day_of, copy_count, term_count, first_day, last_day, young_days, looked_at, lies_in, in_time, term_keeps, keeps}
use Rattle.keeping.specs.Call.{kept_count, flags}
use Rattle.keeping.specs.Days.{day_bits, noted, noted_after, NotedFrom, InYears, up_to, latest_by, Latest, look_flags, term_test, copy_test, settled, settled_flags}
use Rattle.keeping.proofs.LoopLaws.{some_ext, front_at}
use Rattle.keeping.proofs.TestLaws.{week_ends}
use Rattle.keeping.proofs.RangeLaws.{copy_in, last_of_term_lem, last_of_week_lem}

module _ (cs ts : List ℕ) where
  -- ---- the k days after d, by the map
  noted_in : (map : List ℕ) (d b : ℕ) → NotedFrom cs 0 map → d ≤ b → b < day_bits → noted_after map d (b - d) ≡ copy_in cs ts (d + 1) b
  unfolding noted_after
  noted_in map d b m l h = same_test _ _ to from
    where
      is : (x : ℕ) → x < day_bits → noted map x ≡ some_below (λ j. leb 0 j && eqb (day_of cs j) x) (copy_count cs)
      is x k = m.each x k

      to : some_below (λ j. noted map (d + 1 + j)) (b - d) ≡ true → copy_in cs ts (d + 1) b ≡ true
      to e =
          let w = some_at (λ j. noted map (d + 1 + j)) (b - d) e in
          let r = w.1 in
          let s = some_at (λ j. leb 0 j && eqb (day_of cs j) (d + 1 + w.0)) (copy_count cs) (sym (is (d + 1 + w.0) (omega arith)) ∙ w.2) in
          let q = eqb-true (day_of cs s.0) (d + 1 + w.0) (and_right (leb 0 s.0) _ s.2) in
          some_of (λ j. within (d + 1) (day_of cs j) b) (copy_count cs) s.0 s.1 (and-true (leb (d + 1) (day_of cs s.0)) (leb (day_of cs s.0) b) (le-leb (d + 1) (day_of cs s.0) (omega arith)) (le-leb (day_of cs s.0) b (omega arith)))

      from : copy_in cs ts (d + 1) b ≡ true → some_below (λ j. noted map (d + 1 + j)) (b - d) ≡ true
      from e =
          let w = some_at (λ j. within (d + 1) (day_of cs j) b) (copy_count cs) e in
          let x = day_of cs w.0 in
          let lo = leb-true (d + 1) x (and_left (leb (d + 1) x) _ w.2) in
          let hi = leb-true x b (and_right (leb (d + 1) x) _ w.2) in
          let q : d + 1 + (x - (d + 1)) ≡ x = omega arith in
          some_of (λ j. noted map (d + 1 + j)) (b - d) (x - (d + 1)) (omega arith)
          (ap (noted map) q ∙ is x (omega arith) ∙ some_of (λ j. leb 0 j && eqb (day_of cs j) x) (copy_count cs) w.0 w.1 (and-true (leb 0 w.0) _ (le-leb 0 w.0 (omega arith)) (eq-eqb x x refl)))

  -- ---- the latest day up to a term's end
  none_later : (x b d : ℕ) → leb (pick (leb x b) x 0) d ≡ not (within (d + 1) x b)
  none_later x b d = elim (dec_lt b x) as (λ _. leb (pick (leb x b) x 0) d ≡ not (within (d + 1) x b)) [
    | yes l ↦ rw (lt-leb x b l) (le-leb 0 d (omega arith) ∙ sym (ap not (and_fails (leb (d + 1) x))))
    | no l ↦ rw (le-leb x b (omega arith)) (elim (dec_lt d x) as (λ _. leb x d ≡ not (leb (d + 1) x && true)) [
      | yes k ↦ rw (lt-leb x d k, le-leb (d + 1) x (omega arith)) refl
      | no k ↦ rw (le-leb x d (omega arith), lt-leb (d + 1) x (omega arith)) refl
    ])
  ]
    where
      and_fails : (a : Bool) → a && false ≡ false
      and_fails true = refl
      and_fails false = refl

  latest_is : (b d : ℕ) → leb (latest_by cs b) d ≡ not (copy_in cs ts (d + 1) b)
  unfolding some_below
  latest_is b d =
      most_within (up_to cs b) (copy_count cs) d
      ∙ all_ext (λ j. leb (up_to cs b j) d) (λ j. not (within (d + 1) (day_of cs j) b)) (copy_count cs) (λ j l. none_later (day_of cs j) b d)
      ∙ sym (twice (all_below (λ j. not (within (d + 1) (day_of cs j) b)) (copy_count cs)))
    where
      twice : (a : Bool) → not (not a) ≡ a
      twice true = refl
      twice false = refl

  -- ---- a term's test
  module _ (today : ℕ) (map latest : List ℕ) (m : NotedFrom cs 0 map) (n : Latest cs ts (term_count ts) latest) (fits : InYears ts) where
    term_is : (i t : ℕ) → t < term_count ts → term_test map (first_day ts t) (last_day ts t) (get_or latest t 0) today (day_of cs i) ≡ term_keeps cs ts today i t
    term_is i t l =
        ⊎_elim
        (λ (h : lies_in cs ts i t ≡ true).
        let d = day_of cs i in
        let b = leb-true d (last_day ts t) (and_right (leb (first_day ts t) d) _ h) in
        let f = fits (2 * t + 1) (omega arith) in
        let w = noted_in map d (min (sunday d) (last_day ts t)) m (week_ends d (last_day ts t) b) (omega arith) in
        ap (λ (x : Bool). lies_in cs ts i t && x)
        (ap₂ ◌||◌ (ap (λ (x : Bool). x && in_time cs ts today t) (ap not w ∙ sym (last_of_week_lem cs ts t i h)))
        (ap (λ (x : ℕ). leb x d) (n.each t l) ∙ latest_is (last_day ts t) d ∙ sym (last_of_term_lem cs ts t i h))))
        (λ (h : lies_in cs ts i t ≡ false). and_false_l _ _ h ∙ sym (and_false_l _ _ h))
        (holds_or_fails (lies_in cs ts i t))

    -- ---- a copy's, where out has the flags of those that are looked at
    copy_is : (out : List ℕ) (i : ℕ) → copy_count cs ≤ length out → i < copy_count cs → settled cs ts today map latest (splice out 0 (look_flags cs)) i ≡ keeps cs ts today i
    unfolding copy_test keeps look_flags
    copy_is out i h l =
        ap₂ ◌&&◌ (ap (λ (x : ℕ). eqb x 1) (front_at (λ j. one (looked_at cs j)) (copy_count cs) out i h l) ∙ is_one (looked_at cs i))
        (ap (λ (x : Bool). leb today (day_of cs i + young_days) || x) (some_ext _ _ (term_count ts) (λ t k. term_is i t k)))
      where
        is_one : (b : Bool) → eqb (one b) 1 ≡ b
        is_one true = refl
        is_one false = refl

    -- ---- all of them
    -- as the walks leave them: which are looked at, then which are kept
    pub walks : (out seen after : List ℕ) (r : ℕ) → copy_count cs ≤ length out → seen ≡ splice out 0 (look_flags cs)
        → r ≡ count (settled cs ts today map latest seen) (copy_count cs) → after ≡ splice seen 0 (settled_flags cs ts today map latest seen (copy_count cs))
        → (r ≡ kept_count cs ts today) × (after ≡ splice out 0 (flags cs ts today))
    unfolding flags look_flags
    walks out seen after r h e f g =
        let first = splice out 0 (look_flags cs) in (
          f ∙ ap (λ (l : List ℕ). count (settled cs ts today map latest l) (copy_count cs)) e ∙ count_ext _ _ (copy_count cs) (λ i l. copy_is out i h l),
          g ∙ ap (λ (l : List ℕ). splice l 0 (settled_flags cs ts today map latest l (copy_count cs))) e
              ∙ splice_twice out 0 (look_flags cs) (settled_flags cs ts today map latest first (copy_count cs)) (length_table _ (copy_count cs) ∙ sym (length_table _ (copy_count cs)))
              ∙ ap (splice out 0) (table_ext _ _ (copy_count cs) (λ i l. ap one (copy_is out i h l))),
        )

-- of no copies none is kept, and nothing is written
pub none_kept : (cs ts : List ℕ) (today : ℕ) (out : List ℕ) → length cs ≡ 0 → (0 ≡ kept_count cs ts today) × (out ≡ splice out 0 (flags cs ts today))
unfolding flags splice count table
none_kept cs ts today out e = rw e (refl, refl)
