-- Watch times and mat times: which lists are taken, which times may be paired, and what a pairing is.
use Rattle.std.specs.Prelude.{ℕ, suc, ◌+◌, ◌-◌, ◌≤◌, ◌<◌, Bool, ◌&&◌, List, leb, ltb, length, get_or}
use Rattle.bounded.specs.Below.{all_to}

-- "Take two lists of up to 512 times"
abbrev pub most_times : ℕ
most_times = 512

-- "each strictly rising"
abbrev pub Rising : List ℕ → Type 0
Rising l = (i j : ℕ) → i < j → j < length l → get_or l i 0 < get_or l j 0

-- the same as a test: each time but the first is above the one before it
abbrev pub above : List ℕ → ℕ → Bool
above l k = ltb (get_or l (k - 1) 0) (get_or l k 0)

unfoldable pub rising : List ℕ → Bool
rising l = all_to (above l) (length l - 1)

-- the opposite of 26's "too long or not rising"
abbrev pub Allowed : List ℕ → Type 0
Allowed l = (length l ≤ most_times) × Rising l

abbrev pub allowed : List ℕ → Bool
allowed l = leb (length l) most_times && rising l

-- "A watch time and a mat time may be paired when they are at most 50 apart"
abbrev pub most_apart : ℕ
most_apart = 50

abbrev pub Near : ℕ → ℕ → Type 0
Near a b = (a ≤ b + most_apart) × (b ≤ a + most_apart)

abbrev pub near : ℕ → ℕ → Bool
near a b = leb a (b + most_apart) && leb b (a + most_apart)

-- "each is used once, and pairs keep their order": a pairing of k pairs whose places are i or later in
-- w, and j or later in m. Its first pair stands at a and b, the rest stand after both
pub data Pairing (w m : List ℕ) : ℕ → ℕ → ℕ → Type 0 where
  none : {i j : ℕ} → Pairing w m i j 0
  pair : {i j k : ℕ} (a b : ℕ) → i ≤ a → a < length w → j ≤ b → b < length m → Near (get_or w a 0) (get_or m b 0)
      → Pairing w m (a + 1) (b + 1) k → Pairing w m i j (suc k)
