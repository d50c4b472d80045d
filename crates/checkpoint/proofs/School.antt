-- The demands in a school's words: theorems of every list from an accepted start to the finish of its copy.
use Prim.Native.Nat.{ℕ}
use mathlib.Core.Path.{◌≡◌, refl, sym, ap, ◌∙◌, subst}
use mathlib.Core.Bool.{true}
use mathlib.Core.List.{List}
use lib.ListN.{length}
use Rattle.layout.specs.Inode.{kind_of, size_of, file_kind}
use Rattle.sound.specs.Place.{naming}
use Rattle.content.specs.Content.{file_bytes}
use Rattle.checkpoint.specs.Fit.{image_blocks}
use Rattle.checkpoint.specs.Live.{World}
use Rattle.checkpoint.specs.List.{Event, starts, next, accepted, run, Kept}
use Rattle.checkpoint.specs.Finished.{count_of, InCopy}
use Rattle.checkpoint.specs.School.{Unwritten, FileCopied, UnwrittenFiles, StillStores}
use Rattle.checkpoint.proofs.Run.Starts.{Fresher, opens, opened_runs}
use Rattle.checkpoint.proofs.Run.Lists.{Going, runs, counted, going_at}
use Rattle.checkpoint.proofs.Run.Stood.{entry_of, kept_range}
use Rattle.checkpoint.proofs.Run.Finales.{finale}
use Rattle.checkpoint.proofs.Run.Lasts.{last_of}
use Rattle.checkpoint.proofs.Run.Unwritten.{moment_file, kept_untouched}
use Rattle.checkpoint.proofs.Run.Still.{store_copied}
use Rattle.checkpoint.proofs.Demands.{lists}

-- the image's blocks, by its length
abbrev blocks : World → ℕ
blocks v = image_blocks (count_of (next starts v)) (length v.image)

begins : (v : World) → accepted starts v ≡ true → Fresher (count_of (next starts v)) (blocks v) (next starts v)
begins v a = let o = opens v a in opened_runs (count_of (next starts v)) (blocks v) v o (ap count_of o.is) refl

-- ---- a file that nobody wrote
module _ (b : ℕ) (es : List Event) (w : World) (s : Fresher (count_of w) b w) (p : ℕ) (kept : Kept es w p) (copied : InCopy es w (run es w).image p) where
  abbrev i : ℕ
  i = naming w.store (count_of w) p

  file_copied : kind_of w.store i ≡ file_kind → Unwritten es w i → FileCopied w.store (run es w).image (count_of w) p i
  file_copied file u =
      let n = count_of w in
      let g : Going n b w = runs s.runs in
      let r = kept_range n b es w g s.runs.laid.frame.some_inodes p kept in
      let o = entry_of n b w g p r.below r.stands in
      let h = copied.file file in
      let e = counted (going_at n b es w h.moment g h.in_time_lem) in
      let k = moment_file n b es w h.moment g p r.below i o.low o.high refl file (kept_untouched kept) u h.in_time_lem in
      record {
        stands = copied.stands;
        inode = copied.inode;
        kind = ap (kind_of (run es w).image) (sym copied.inode) ∙ copied.kind ∙ file;
        size = h.content.size ∙ k.size;
        bytes =
            h.content.bytes ∙ ap (λ (m : ℕ). file_bytes h.moment.store m i 0 (size_of (run es w).image i)) (sym e)
            ∙ ap (file_bytes h.moment.store n i 0) h.content.size ∙ k.bytes;
      }

pub unwritten_files : UnwrittenFiles
unwritten_files v a es f p i kept e file u =
    let w = next starts v in
    subst (λ (j : ℕ). kind_of w.store j ≡ file_kind → Unwritten es w j → FileCopied w.store (run es w).image (count_of w) p j) e
    (file_copied (blocks v) es w (begins v a) p kept (((lists v a es).finished f).entries p kept)) file u

-- ---- a store that no call changed
pub still_stores : StillStores
still_stores v a es f still =
    let s = begins v a in
    let w = next starts v in
    store_copied (blocks v) es w s.runs (last_of (count_of w) (blocks v) es w s.fresh (finale (count_of w) (blocks v) es w s.runs f)) still
