-- A test that decides a proposition.
use Rattle.std.specs.Prelude.{◌≡◌, Bool, true}

pub record Reflects (b : Bool) (P : Type 0) : Type 0 where
  pub to : b ≡ true → P
  pub from : P → b ≡ true
