-- A closure that tests entries.
use Rattle.std.specs.Prelude.{◌≡◌, ℕ, Bool, List, length}
use Rattle.std.specs.Fn.{FnReturns}
use denote.Ref.{Bor}
use denote.Param.Members.{Shared}
use Rattle.names.specs.Entry.{entry_bytes}

-- what f answers of an entry is what p says of its bytes
pub record Tests {F : Type 0} (g : Shared F (Bor (List ℕ) × Unit {0}) Bool) (f : F) (p : List ℕ → Bool) : Type 0 where
  pub says : (e : Bor (List ℕ)) (b : Bool) → length e.now ≡ entry_bytes → FnReturns g f (e, tt) b → b ≡ p e.now
