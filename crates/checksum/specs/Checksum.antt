-- The 64-bit FNV-1a checksum: offset basis cbf29ce484222325, prime 100000001b3.
use Rattle.std.specs.Prelude.{ℕ, zero, suc, ◌*◌, ◌%◌, ◌^◌, List, length, bit_xor, slice_index}

abbrev pub basis : ℕ
basis = 14695981039346656037

abbrev pub prime : ℕ
prime = 1099511628211

-- a byte more: xor, then the product in 64 bits
unfoldable pub mixed : ℕ → ℕ → ℕ
mixed h x = bit_xor h x * prime % 2 ^ 64

-- of the first k bytes
unfoldable pub sum_to : List ℕ → ℕ → ℕ
sum_to s zero = basis
sum_to s (suc k) = mixed (sum_to s k) (slice_index s k)

unfoldable pub checksum : List ℕ → ℕ
checksum s = sum_to s (length s)
