-- Day numbers rise with dates, and end with 2049-12-31.
use Rattle.std.specs.Prelude.{None, Some}
use Prim.Native.Nat.{ℕ, ◌+◌, ◌-◌, ◌*◌, ◌/◌, ◌%◌, ◌≤◌, ◌<◌}
use mathlib.Core.Path.{◌≡◌, refl, ap, ap₂}
use mathlib.Core.Bool.{Bool, true, false}
use native.Mathlib.Decide.{dec_lt}
use native.Mathlib.Omega.{arith}
use Rattle.bounded.specs.Search.{pick}
use Rattle.bounded.specs.Sum.{sum}
use Rattle.bounded.specs.Reflect.{Reflects}
use Rattle.bounded.proofs.ReflectLaws.{r_and, r_le}
use Rattle.calendar.specs.Gregorian.{first_year, last_year, months, month_length, length_of, month_start}
use Rattle.calendar.specs.Date.{Date, date_of, within, is_date, month_of, day_number, last_day, reckoned}
use Rattle.calendar.proofs.MonthLaws.{length_most, start_later}

-- ---- what the tests say
abbrev pub Within : ℕ → ℕ → ℕ → Type 0
Within a x b = (a ≤ x) × (x ≤ b)

pub within_decides : (a x b : ℕ) → Reflects (within a x b) (Within a x b)
within_decides a x b = r_and (r_le a x) (r_le x b)

abbrev pub IsDate : Date → Type 0
IsDate d = Within first_year d.year last_year × (Within 1 d.month 12 × Within 1 d.day (month_length d.year d.month))

pub date_decides : (d : Date) → Reflects (is_date d) (IsDate d)
date_decides d = r_and (within_decides _ _ _) (r_and (within_decides _ _ _) (within_decides _ _ _))

-- ---- the month of a date, counted from January 2000, is as long as the date's month
month_is : (d : Date) → IsDate d → length_of (month_of d) ≡ month_length d.year d.month
month_is d h =
    let y = d.year in
    let m = d.month in
    let a : first_year + ((y - first_year) * 12 + (m - 1)) / 12 ≡ y = omega arith in
    let b : ((y - first_year) * 12 + (m - 1)) % 12 + 1 ≡ m = omega arith in
    ap₂ month_length a b

-- ---- the later of two dates has the higher day number
-- months are ordered as their dates are
later_month : (m n : ℕ) → IsDate (date_of m) → IsDate (date_of n) → m < n → month_of (date_of m) ≤ month_of (date_of n)
later_month m n h k l = omega arith

-- and in one month the days are
later_day : (m n : ℕ) → IsDate (date_of m) → IsDate (date_of n) → m < n → month_of (date_of m) ≡ month_of (date_of n) → m % 100 < n % 100
later_day m n h k l e =
    let s = same_month (m / 10000) (n / 10000) (m / 100 % 100) (n / 100 % 100) h.0.0 k.0.0 h.1.0 k.1.0 e in
    parts m n l s.0 s.1
  where
    same_month : (y z a b : ℕ) → first_year ≤ y → first_year ≤ z → Within 1 a 12 → Within 1 b 12 → (y - first_year) * 12 + (a - 1) ≡ (z - first_year) * 12 + (b - 1) → (y ≡ z) × (a ≡ b)
    same_month y z a b hy hz ha hb e = (omega arith, omega arith)

    parts : (m n : ℕ) → m < n → m / 10000 ≡ n / 10000 → m / 100 % 100 ≡ n / 100 % 100 → m % 100 < n % 100
    parts m n l e f = omega arith

pub days_rise : (m n : ℕ) → is_date (date_of m) ≡ true → is_date (date_of n) ≡ true → m < n → day_number (date_of m) < day_number (date_of n)
days_rise m n e f l =
    let h = (date_decides (date_of m)).to e in
    let k = (date_decides (date_of n)).to f in
    go (dec_lt (month_of (date_of m)) (month_of (date_of n))) h.1.1 (month_is (date_of m) h) (later_month m n h k l) (later_day m n h k l)
  where
    go : Dec (month_of (date_of m) < month_of (date_of n)) → Within 1 (m % 100) (month_length (m / 10000) (m / 100 % 100)) → length_of (month_of (date_of m)) ≡ month_length (m / 10000) (m / 100 % 100)
        → month_of (date_of m) ≤ month_of (date_of n) → (month_of (date_of m) ≡ month_of (date_of n) → m % 100 < n % 100) → day_number (date_of m) < day_number (date_of n)
    go (yes s) w a o d = ahead _ _ _ _ (start_later (month_of (date_of m)) (month_of (date_of n)) s) w a
      where
        ahead : (x y j z : ℕ) {p q : ℕ} → x + p ≤ y → Within 1 j q → p ≡ q → x + (j - 1) < y + z
        ahead x y j z a b e = omega arith
    go (no s) w a o d =
        let q : month_of (date_of m) ≡ month_of (date_of n) = omega arith in
        same _ _ _ _ (ap month_start q) (d q) w.0
      where
        same : (x y j z : ℕ) → x ≡ y → j < z → 1 ≤ j → x + (j - 1) < y + (z - 1)
        same x y j z a b e = omega arith

-- ---- the last of them
pub last_day_lem : day_number (date_of 20491231) ≡ last_day
unfolding sum month_length
last_day_lem = refl

pub days_end : (n : ℕ) → is_date (date_of n) ≡ true → day_number (date_of n) ≤ last_day
days_end n e =
    let h = (date_decides (date_of n)).to e in
    let most = length_most (n / 10000) (n / 100 % 100) in
    let z = last_day_lem in
    elim (dec_lt n 20491231) as (λ _. day_number (date_of n) ≤ last_day) [
      | yes l ↦ let r = days_rise n 20491231 e is_last l in omega arith
      | no l ↦ let q : n ≡ 20491231 = omega arith in let r = ap (λ (k : ℕ). day_number (date_of k)) q in omega arith
    ]
  where
    is_last : is_date (date_of 20491231) ≡ true
    is_last = unfold month_length in refl

-- ---- as the code finds them
module _ (n : ℕ) where
  pub no_date : is_date (date_of n) ≡ false → None ≡ reckoned n
  unfolding reckoned
  no_date h = rw h

  pub a_day : (d : ℕ) → is_date (date_of n) ≡ true → d ≡ day_number (date_of n) → Some d ≡ reckoned n
  unfolding reckoned
  a_day d h e = rw (h, e)

  -- the months are 600
  pub month_below : IsDate (date_of n) → month_of (date_of n) < months
  month_below h = omega arith

  -- what an answer says
  pub reckoned_none : reckoned n ≡ None → is_date (date_of n) ≡ false
  unfolding reckoned
  reckoned_none e = go (is_date (date_of n)) e
    where
      go : (b : Bool) → pick b (Some (day_number (date_of n))) None ≡ None → b ≡ false
      go true r = let z : ◌≡◌ {A = ℕ} 0 1 = cc in absurd (omega arith)
      go false r = refl

  pub reckoned_day : (d : ℕ) → reckoned n ≡ Some d → (is_date (date_of n) ≡ true) × (d ≡ day_number (date_of n))
  unfolding reckoned
  reckoned_day d e = go (is_date (date_of n)) e
    where
      go : (b : Bool) → pick b (Some (day_number (date_of n))) None ≡ Some d → (b ≡ true) × (d ≡ day_number (date_of n))
      go true r = (refl, cc)
      go false r = let z : ◌≡◌ {A = ℕ} 0 1 = cc in absurd (omega arith)
