-- A sound store as a tree with sound names, and back. n and b are the counts of inodes and blocks.
use Prim.Native.Nat.{ℕ, ◌*◌, ◌≤◌, ◌<◌}
use mathlib.Core.Path.{◌≡◌}
use mathlib.Core.Bool.{true}
use mathlib.Core.List.{List}
use native.Mathlib.Omega.{arith}
use Rattle.layout.specs.Inode.{kind_of, links_of, parent_of}
use Rattle.directory.specs.Slot.{most_slots}
use Rattle.sound.specs.Place.{filled, naming}
use Rattle.sound.specs.Entry.{EntrySound, sibling}
use Rattle.sound.specs.Link.{LinkSound}
use Rattle.sound.specs.Counted.{SoundStore}
use Rattle.sound.proofs.PlaceLaws.{slot_is, naming_slot, naming_filled}
use Rattle.preservation.proofs.KeepLaws.{body_of}
use Rattle.preservation.proofs.SameLaws.{OtherInodes}
use Rattle.preservation.proofs.ChangeLaws.{NamesSound, names_of}
use Rattle.preservation.proofs.TreeLaws.{Nodes, ElseNodes, Tree, Above}

abbrev pub nodes_of : List ℕ → ℕ → Nodes
nodes_of s n = record { kind = kind_of s; links = links_of s; parent = parent_of s; naming = naming s n }

pub nodes_else : {s t : List ℕ} {n i : ℕ} → OtherInodes s t n i → ElseNodes n i (nodes_of s n) (nodes_of t n)
nodes_else o = record { kinds = λ j l m z. (o j l m z).kind; links = λ j l m z. (o j l m z).links; parents = λ j l m z. (o j l m z).parent }

-- ---- a sound store
module _ {s : List ℕ} {n b : ℕ} (h : SoundStore s n b) where
  pub names_at : NamesSound s n
  names_at = names_of s n (body_of h).entries

  pub above_at : Above n (nodes_of s n)
  above_at p l o = ((slot_is s p).to (naming_slot s n p o)).0

  pub tree_at : Tree n (nodes_of s n)
  tree_at =
      let c = body_of h in
      record {
        root = c.root;
        root_parent = c.root_parent;
        names = λ p l o. let r = c.entries p l (naming_filled s n p o) in record { high = r.high; used = r.used; not_root = r.not_root; parent = r.parent };
        linked = λ i l m. let r = c.links i l m in record { counted = r.counted; named = r.named; one = r.one; leads = r.leads };
      }

-- ---- and back
module _ (t : List ℕ) (n : ℕ) (a : NamesSound t n) (r : Tree n (nodes_of t n)) where
  pub entries_back : (p : ℕ) → p < most_slots * n → filled t n p ≡ true → EntrySound t n p
  entries_back p l f =
      let o = a.low p l f in
      let w = r.names p l o in
      record {
        legal = a.legal p l f;
        differ = λ u m g. a.differ (sibling p u) p (omega arith) l (omega arith) (omega arith) g f;
        low = o;
        high = w.high;
        used = w.used;
        not_root = w.not_root;
        parent = w.parent;
      }

  pub links_back : (i : ℕ) → 1 ≤ i → i ≤ n → LinkSound t n i
  links_back i l m = let w = r.linked i l m in record { counted = w.counted; named = w.named; one = w.one; leads = w.leads }
