-- What makes a finished image sound, where nothing was left to copy: its tree, names, inodes and counts. s is the store, m the image, d the desk, n and b the counts of inodes and image blocks.
use Prim.Native.Nat.{ℕ, ◌*◌, ◌≤◌, ◌<◌}
use mathlib.Core.Path.{◌≡◌, sym, ap, ◌∙◌, subst}
use mathlib.Core.Logic.{◌≢◌, inl, inr}
use mathlib.Core.Bool.{true, false}
use mathlib.Core.List.{List}
use native.Mathlib.Omega.{arith}
use lib.ListN.{get_or}
use Rattle.bounded.specs.Count.{tally}
use Rattle.bounded.specs.Climb.{Closed}
use borrow.Author.Tests.{not-true}
use Rattle.bounded.proofs.BoolLaws.{clash}
use Rattle.bounded.proofs.CountLaws.{met, unmet}
use Rattle.bounded.proofs.ClimbLaws.{leads_kept}
use Rattle.bounded.proofs.TallyLaws.{tally_same, met_one}
use Rattle.layout.specs.Sizes.{most_blocks, block_bytes, root_inode}
use Rattle.layout.specs.Inode.{kind_of, links_of, parent_of, free_kind, directory_kind}
use Rattle.blocks.specs.Block.{block_of, kth_block}
use Rattle.blocks.specs.Free.{block_named, block_free}
use Rattle.names.specs.Entry.{is_empty, legal_entry}
use Rattle.directory.specs.Slot.{most_slots}
use Rattle.desk.specs.Desk.{desk_of}
use Rattle.sound.specs.Place.{dir_of, entry_at, filled, naming}
use Rattle.sound.specs.Entry.{same_names}
use Rattle.sound.specs.Inode.{InodeSound}
use Rattle.sound.proofs.PlaceLaws.{filled_is, naming_entry}
use Rattle.preservation.proofs.KeepLaws.{Body, SamePlace, place_kept, inode_like, tail_kept}
use Rattle.preservation.proofs.FreeLaws.{same_free}
use Rattle.preservation.proofs.AddressLaws.{same_differ, same_named, same_unnamed}
use Rattle.preservation.proofs.ChangeLaws.{NamesSound}
use Rattle.preservation.proofs.TreeLaws.{Tree, Names, Linked}
use Rattle.preservation.proofs.SoundTreeLaws.{nodes_of, entries_back, links_back}
use Rattle.copy_theory.specs.View.{Tidy}
use Rattle.checkpoint.proofs.Copy.LedgerLaws.{free_named, free_once}
use Rattle.checkpoint.specs.Image.{image_naming}
use Rattle.checkpoint.specs.Copier.{finish_image}
use Rattle.checkpoint.proofs.Copy.Seen.{shelf_of}
use Rattle.checkpoint.proofs.Copy.SeenLaws.{names_in, names_below, entry_in, kind_some, kind_in, parent_in}
use Rattle.checkpoint.proofs.Copy.Laid.{Laid}
use Rattle.checkpoint.proofs.Copy.NamingLaws.{same_naming}
use Rattle.checkpoint.proofs.Step.FinishFacts.{Finished, finished}

module _ {n b : ℕ} {s m d : List ℕ} (h : Laid n b s m d) where
  abbrev t : List ℕ
  t = finish_image m n b

  pub done : Finished m t n b
  done = let f = h.frame in let e = f.long in finished m n b f.most_inodes_lem (omega arith)

  -- ---- the places
  pub finish_place : (p : ℕ) → p < most_slots * n → SamePlace m t n p
  finish_place p l = place_kept m t n p (done.bodies (dir_of p) (omega arith) (omega arith)) (λ k _ _. done.bytes (kth_block m n (dir_of p) k))

  pub finish_blocks : (j : ℕ) → 1 ≤ j → j ≤ n → (k : ℕ) → k < most_blocks → kth_block t n j k ≡ kth_block m n j k
  finish_blocks j l o = (done.bodies j l o).blocks

  pub finish_blanks : (desk_of d).locked ≡ 0 → (c : ℕ) → 1 ≤ c → c ≤ b → block_free t n c ≡ true → (o : ℕ) → o < block_bytes → get_or (block_of t n c) o 0 ≡ 0
  finish_blanks none c l r e o u = ap (λ (x : List ℕ). get_or x o 0) (done.bytes c) ∙ h.blanks c l r (sym (free_named h none c) ∙ sym (same_named m t n finish_blocks c) ∙ not-true (block_named t n c) e) o u

  -- the counts written are true of what the image then names
  counted : (i : ℕ) → 1 ≤ i → i ≤ n → links_of t i ≡ tally (naming t n) (most_slots * n) i
  counted i l o =
      done.links i l o
      ∙ tally_same (naming t n) (image_naming m n) (most_slots * n) (λ q a. same_naming h q a ∙ sym (finish_place q a).names) i

  module _ (none : (desk_of d).locked ≡ 0) (tidy : Tidy n (shelf_of n m)) where
    -- ---- an inode of the image
    module _ (i : ℕ) (l : 1 ≤ i) (o : i ≤ n) where
      kind_now : kind_of t i ≡ (shelf_of n m).kind i
      kind_now = (done.bodies i l o).kind ∙ sym (kind_in n m i l o)

      parent_now : parent_of t i ≡ (shelf_of n m).parent i
      parent_now = done.parents i l o ∙ sym (parent_in n m i l o)

      sound_before : InodeSound m n b i
      sound_before = h.inodes i l o (λ z. omega arith)

    -- ---- an entry of the image
    module _ (p : ℕ) (l : p < most_slots * n) where
      names_now : naming t n p ≡ (shelf_of n m).names p
      names_now = (finish_place p l).names ∙ sym (names_in n m p l)

      some : 1 ≤ naming t n p → (shelf_of n m).names p ≢ 0
      some o z = let e = names_now in omega arith

      -- one that stands has a legal name, and names an inode
      legal : filled t n p ≡ true → (legal_entry (entry_at t n p) ≡ true) × (1 ≤ naming t n p)
      legal f =
          let q = finish_place p l in
          let g = sym q.stands ∙ f in
          let r = (filled_is m n p).to g in
          let e = naming_entry m n p r.0 in
          elim (h.fair p l r.0) as (λ _. (legal_entry (entry_at t n p) ≡ true) × (1 ≤ naming t n p)) [
            | inl z ↦ absurd (clash (is_empty (entry_at m n p)) z r.1)
            | inr z ↦ (ap legal_entry (q.entry g) ∙ z.1, rw q.names (let y = z.0 in omega arith))
          ]

      names : 1 ≤ naming t n p → Names n (nodes_of t n) (naming t n p) (dir_of p)
      names o =
          let z = some o in
          let e = names_now in
          let a : naming t n p ≤ n = rw e (tidy.high p) in
          let k : kind_of t (naming t n p) ≡ (shelf_of n m).kind ((shelf_of n m).names p) = kind_now (naming t n p) o a ∙ ap (shelf_of n m).kind e in
          record {
            high = a;
            used = λ y. tidy.used p z (sym k ∙ y);
            not_root = λ y. tidy.not_root p (sym e ∙ y);
            parent = λ y. parent_now (naming t n p) o a ∙ ap (shelf_of n m).parent e ∙ tidy.home p z (sym k ∙ y);
          }

    differ : (p q : ℕ) → p < most_slots * n → q < most_slots * n → dir_of p ≡ dir_of q → p < q → filled t n p ≡ true → filled t n q ≡ true → same_names t n p q ≡ false
    unfolding same_names
    differ p q l o e a f g =
        let x = finish_place p l in
        let y = finish_place q o in
        rw (x.entry (sym x.stands ∙ f), y.entry (sym y.stands ∙ g), ← entry_in n m p, ← entry_in n m q)
        (tidy.differ p q a e (some p l (legal p l f).1) (some q o (legal q o g).1))

    names_sound : NamesSound t n
    names_sound = record { legal = λ p l f. (legal p l f).0; differ = differ; low = λ p l f. (legal p l f).1 }

    -- ---- the tree
    -- parents of directories are directories
    closed : Closed (λ (x : ℕ). (shelf_of n m).kind x ≡ directory_kind) (shelf_of n m).parent root_inode n
    closed = record {
      within = λ x k. kind_some n m x (λ z. let y = sym k ∙ z in omega arith);
      parent = λ x k r.
          let w = tidy.named x (λ z. let y = sym k ∙ z in omega arith) r in
          let p = w.0 in
          let e : (shelf_of n m).names p ≡ x = w.1 in
          let o = (kind_some n m x (λ z. let y = sym k ∙ z in omega arith)).0 in
          let z : (shelf_of n m).names p ≢ 0 = λ y. omega arith in
          ap (shelf_of n m).kind (ap (shelf_of n m).parent (sym e) ∙ tidy.home p z (ap (shelf_of n m).kind e ∙ k)) ∙ tidy.inside p z;
    }

    -- what the entries say of inode i
    module _ (i : ℕ) (l : 1 ≤ i) (o : i ≤ n) where
      named_at : (kind_of t i ≡ free_kind → ⊥) → (i ≡ root_inode → ⊥) → (p : ℕ) × (p < most_slots * n) × (naming t n p ≡ i)
      named_at k r =
          let w = tidy.named i (λ z. k (kind_now i l o ∙ z)) r in
          let e : (shelf_of n m).names w.0 ≡ i = w.1 in
          let a = names_below n m w.0 (λ z. omega arith) in
          (w.0, a, names_now w.0 a ∙ e)

      linked : Linked n (nodes_of t n) i
      linked =
          record {
            counted = counted i l o;
            named = λ k r. let w = named_at k r in subst (λ (x : ℕ). 1 ≤ x) (sym (counted i l o)) (met (naming t n) (most_slots * n) w.0 i w.1 w.2);
            one = λ k r.
                let w = named_at (λ z. let y = sym k ∙ z in omega arith) r in
                let e : (shelf_of n m).names w.0 ≡ i = sym (names_now w.0 w.1) ∙ w.2 in
                counted i l o
                ∙ met_one (naming t n) (most_slots * n) w.0 i l w.1 w.2
                (λ q a z. sym (tidy.one w.0 q (λ y. omega arith) (e ∙ sym z ∙ names_now q a) (ap (shelf_of n m).kind e ∙ sym (kind_now i l o) ∙ k)));
            leads = λ k.
                let k' = sym (kind_now i l o) ∙ k in
                let w = tidy.leads i k' in
                leads_kept (λ (x : ℕ). (shelf_of n m).kind x ≡ directory_kind) (shelf_of n m).parent (parent_of t) root_inode n closed
                (λ x q. let r = closed.within x q in parent_now x r.0 r.1) w.0 i k' w.1;
          }

      -- no entry names a free inode
      free_unlinked : kind_of m i ≡ free_kind → links_of t i ≡ 0
      free_unlinked k =
          counted i l o
          ∙ unmet (naming t n) (most_slots * n) i
          (λ p a e. let z = names p a (omega arith) in z.used (ap (kind_of t) e ∙ (done.bodies i l o).kind ∙ k))

      inode_now : InodeSound t n b i
      inode_now =
          let r = sound_before i l o in
          let e = done.bodies i l o in
          inode_like m t n b i e (λ k. (free_unlinked k ∙ sym (r.free k).0, done.parents i l o)) (λ _. done.parents i l o) (tail_kept m t n b i e (λ _ _. done.bytes _) r) r

    tree : Tree n (nodes_of t n)
    tree =
        let a = h.frame.some_inodes in
        record {
          root = kind_now root_inode (omega arith) a ∙ tidy.root;
          root_parent = parent_now root_inode (omega arith) a ∙ tidy.root_parent;
          names = names;
          linked = linked;
        }

    pub finish_body : Body t n b
    finish_body = record {
      inodes = inode_now;
      once = same_differ m t n finish_blocks (free_once h none);
      root = tree.root;
      root_parent = tree.root_parent;
      entries = entries_back t n names_sound tree;
      links = links_back t n names_sound tree;
      free_inodes = done.free_inodes ∙ sym (same_free m t n (λ j l o. (done.bodies j l o).kind));
      free_blocks = done.free_blocks ∙ sym (same_unnamed m t n finish_blocks b);
    }
