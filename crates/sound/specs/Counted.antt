-- A sound store and its counts of inodes and blocks: what the calls ask for.
use Rattle.std.specs.Prelude.{ℕ, ◌≡◌, List}
use Rattle.sound.specs.Sound.{Sound, inodes_in, blocks_in}
use Rattle.sound.specs.declared.Form.TheVariants.{Store}

pub record SoundStore (s : List ℕ) (n b : ℕ) : Type 0 where
  pub sound : Sound Store s
  pub inodes : n ≡ inodes_in s
  pub blocks : b ≡ blocks_in s
