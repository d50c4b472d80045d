-- What a moment of the list gives a copy: a name that the slot held, a file's size and bytes, a slot that names an inode throughout. n is the count of inodes.
use Prim.Native.Nat.{ℕ, suc, ◌≤◌}
use mathlib.Core.Path.{◌≡◌, sym, ap, ◌∙◌, subst}
use mathlib.Core.Bool.{true}
use mathlib.Core.List.{List, [], ◌∷◌}
use native.Mathlib.Omega.{arith}
use lib.ListN.{length}
use Rattle.layout.specs.Inode.{kind_of, size_of, file_kind}
use Rattle.names.specs.Entry.{entry_name}
use Rattle.sound.specs.Place.{entry_at, filled, naming}
use Rattle.sound.proofs.PlaceLaws.{naming_filled}
use Rattle.content.specs.Content.{file_bytes}
use Rattle.checkpoint.specs.Live.{World}
use Rattle.checkpoint.specs.List.{Event, next, Moment}
use Rattle.checkpoint.specs.Finished.{count_of, SameContent, HadName, HadBytes, Names, Throughout}
use Rattle.checkpoint.proofs.Run.Moments.{at}
use Rattle.checkpoint.proofs.Run.Lasts.{AlikeIn}

module _ (n : ℕ) (es : List Event) (w v : World) (p : ℕ) where
  -- the slot held the entry at a moment u
  pub had_name : (u : World) → Moment es w u → n ≡ count_of w → n ≡ count_of u → 1 ≤ naming u.store n p → entry_at v.image n p ≡ entry_at u.store n p → HadName es w v.image p
  had_name u h e f l k = record {
    moment = u;
    in_time_lem = h;
    held = subst (λ (m : ℕ). filled u.store m p ≡ true) f (naming_filled u.store n p l);
    name = ap (λ (m : ℕ). entry_name (entry_at v.image m p)) (sym e) ∙ ap entry_name k ∙ ap (λ (m : ℕ). entry_name (entry_at u.store m p)) f;
  }

-- size and bytes, by whatever names the counts have
pub same_content : (n a c : ℕ) (v u : World) (i : ℕ) → n ≡ a → n ≡ c → AlikeIn n u.store v.image i → kind_of u.store i ≡ file_kind → SameContent v.image a u.store c i
same_content n a c v u i e f h k = record {
  size = h.size;
  bytes =
      ap (λ (m : ℕ). file_bytes v.image m i 0 (size_of v.image i)) (sym e) ∙ h.bytes k
      ∙ ap (file_bytes u.store n i 0) (sym h.size) ∙ ap (λ (m : ℕ). file_bytes u.store m i 0 (size_of v.image i)) f;
}

module _ (n : ℕ) (es : List Event) (w v : World) (i : ℕ) where
  pub had_bytes : (u : World) → Moment es w u → n ≡ count_of w → n ≡ count_of u → AlikeIn n u.store v.image i → kind_of u.store i ≡ file_kind → HadBytes es w v.image i
  had_bytes u h e f a k = record { moment = u; in_time_lem = h; kind = k; content = same_content n (count_of w) (count_of u) v u i e f a k }

-- a slot that names i at every moment
pub each_moment : (es : List Event) (w : World) (p i : ℕ) → ((j : ℕ) → j ≤ length es → Names (at es w j) p i) → Throughout es w p i
unfolding Throughout at
each_moment [] w p i h = h 0 (omega arith)
each_moment (e ∷ es) w p i h = (h 0 (omega arith), each_moment es (next e w) p i (λ j l. h (suc j) (omega arith)))
