-- Too few blocks are copied to lack an address block. m is the image, n the inode count.
use Prim.Native.Nat.{ℕ, ◌<◌}
use mathlib.Core.Path.{◌≡◌, refl, sym}
use mathlib.Core.Bool.{Bool, true, false}
use mathlib.Core.List.{List}
use borrow.Author.Tests.{lt-leb}
use lib.Dec.{leb}
use Rattle.bounded.proofs.BoolLaws.{and_false_l}
use Rattle.layout.specs.Sizes.{address_count}
use Rattle.image.specs.Fit.{addresses_lacking}

pub few_copied : (long : Bool) (m : List ℕ) (n l c : ℕ) → c < address_count → false ≡ addresses_lacking long m n l c
few_copied true m n l c h = sym (and_false_l (leb address_count c) _ (lt-leb address_count c h))
few_copied false m n l c h = refl
