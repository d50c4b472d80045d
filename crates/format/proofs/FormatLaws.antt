-- What the layout calls' test says, and each way that a call returns.
use Rattle.std.specs.Prelude.{Err, Ok}
use Prim.Native.Nat.{ℕ}
use mathlib.Core.Path.{◌≡◌, refl}
use mathlib.Core.Bool.{true, false}
use mathlib.Core.List.{List}
use lib.ListN.{length}
use Rattle.octets.specs.Octets.{zeroed}
use Rattle.octets.proofs.PartLaws.{zeroed_all}
use Rattle.layout.specs.Sizes.{most_store_blocks, root_inode}
use Rattle.layout.specs.Header.{put_header}
use Rattle.layout.specs.Inode.{put_inode}
use Rattle.blocks.specs.Block.{store_length, allowed}
use Rattle.blocks.proofs.AllowedLaws.{allowed_is}
use Rattle.desk.specs.Sizes.{desk_length, idle, desk_allowed}
use Rattle.desk.specs.Desk.{put_desk}
use Rattle.desk.proofs.DeskLaws.{desk_allowed_lem}
use Rattle.answers.specs.declared.Refusal.TheVariants.{BadBuffer}
use Rattle.format.specs.Format.{laid_out, fresh_header, empty_root, fresh_store, fresh_desk, lay_out_store, lay_out_desk}

-- ---- a store
pub store_refused : (s : List ℕ) (n b : ℕ) → allowed most_store_blocks n b (length s) ≡ false → laid_out (Err BadBuffer) s ≡ lay_out_store s n b
unfolding lay_out_store
store_refused s n b e = rw e

pub store_done : (s : List ℕ) (n b : ℕ) → allowed most_store_blocks n b (length s) ≡ true →
    laid_out (Ok 0) (put_inode (put_header (zeroed s 0 (length s)) (fresh_header n b)) n root_inode empty_root) ≡ lay_out_store s n b
unfolding lay_out_store fresh_store
store_done s n b e =
    let l : length s ≡ store_length n b = ((allowed_is most_store_blocks n b (length s)).to e).long in
    rw (e, zeroed_all s (length s) refl, l)

-- ---- a desk
pub desk_refused : (d : List ℕ) (n : ℕ) → desk_allowed n (length d) ≡ false → laid_out (Err BadBuffer) d ≡ lay_out_desk d n
unfolding lay_out_desk
desk_refused d n e = rw e

pub desk_done : (d : List ℕ) (n : ℕ) → desk_allowed n (length d) ≡ true →
    laid_out (Ok 0) (put_desk (zeroed d 0 (length d)) (record { inodes = n; blocks = 0; state = idle; locked = 0; transferred = 0; steps = 0 })) ≡ lay_out_desk d n
unfolding lay_out_desk fresh_desk
desk_done d n e =
    let r = (desk_allowed_lem n (length d)).to e in
    let l : length d ≡ desk_length n = r.1.1 in
    rw (e, zeroed_all d (length d) refl, l)
