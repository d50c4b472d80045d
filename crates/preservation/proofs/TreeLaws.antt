-- The tree of inodes over plain functions, and what each change of an entry keeps of it. n is the inode count.
use Prim.Native.Nat.{ℕ, ◌+◌, ◌*◌, ◌-◌, ◌≤◌, ◌<◌}
use mathlib.Core.Path.{◌≡◌, sym, ap, ◌∙◌, subst}
use mathlib.Core.Logic.{◌≢◌}
use native.Mathlib.Decide.{ℕ_discrete}
use native.Mathlib.Omega.{arith}
use Rattle.bounded.specs.Count.{tally}
use Rattle.bounded.specs.Climb.{Leads}
use Rattle.bounded.specs.Update.{upd}
use Rattle.bounded.proofs.CountLaws.{met, met_at, met_once}
use Rattle.bounded.proofs.ClimbLaws.{leads_up, leads_moved, leads_kept}
use Rattle.bounded.proofs.UpdateLaws.{changed, upd_same, upd_other, SameTo, ElseTo, ElseBelow}
use Rattle.bounded.proofs.TallyLaws.{tally_more, tally_filled, tally_rest, tally_same}
use Rattle.bounded.proofs.CaseLaws.{each_else}
use Rattle.layout.specs.Sizes.{root_inode}
use Rattle.layout.specs.Inode.{free_kind, file_kind, directory_kind}
use Rattle.directory.specs.Slot.{most_slots}
use Rattle.sound.specs.Place.{dir_of}

-- what the tree is made of: of each inode its kind, links and parent, and of each place the inode that it names, 0 where there is none
pub record Nodes : Type 0 where
  pub kind : ℕ → ℕ
  pub links : ℕ → ℕ
  pub parent : ℕ → ℕ
  pub naming : ℕ → ℕ

-- an entry in directory d may name the inode i
pub record Names (n : ℕ) (v : Nodes) (i d : ℕ) : Type 0 where
  pub high : i ≤ n
  pub used : v.kind i ≡ free_kind → ⊥
  pub not_root : i ≡ root_inode → ⊥
  pub parent : v.kind i ≡ directory_kind → v.parent i ≡ d

-- what the entries say of inode i
pub record Linked (n : ℕ) (v : Nodes) (i : ℕ) : Type 0 where
  pub counted : v.links i ≡ tally v.naming (most_slots * n) i
  pub named : (v.kind i ≡ free_kind → ⊥) → (i ≡ root_inode → ⊥) → 1 ≤ v.links i
  pub one : v.kind i ≡ directory_kind → (i ≡ root_inode → ⊥) → v.links i ≡ 1
  pub leads : v.kind i ≡ directory_kind → Leads v.parent root_inode i

pub record Tree (n : ℕ) (v : Nodes) : Type 0 where
  pub root : v.kind root_inode ≡ directory_kind
  pub root_parent : v.parent root_inode ≡ 0
  pub names : (p : ℕ) → p < most_slots * n → 1 ≤ v.naming p → Names n v (v.naming p) (dir_of p)
  pub linked : (i : ℕ) → 1 ≤ i → i ≤ n → Linked n v i

-- i is a directory
pub record Dir (n : ℕ) (v : Nodes) (i : ℕ) : Type 0 where
  pub low : 1 ≤ i
  pub high : i ≤ n
  pub kind : v.kind i ≡ directory_kind

-- entries stand in directories
abbrev pub Above : ℕ → Nodes → Type 0
Above n v = (p : ℕ) → p < most_slots * n → 1 ≤ v.naming p → v.kind (dir_of p) ≡ directory_kind

-- every inode but i stays
pub record ElseNodes (n i : ℕ) (v w : Nodes) : Type 0 where
  pub kinds : ElseTo n i v.kind w.kind
  pub links : ElseTo n i v.links w.links
  pub parents : ElseTo n i v.parent w.parent

-- ---- what a tree gives
module _ (n : ℕ) (v : Nodes) (t : Tree n v) where
  -- what is named is counted
  pub counted_some : (p i : ℕ) → p < most_slots * n → 1 ≤ i → v.naming p ≡ i → 1 ≤ v.links i
  counted_some p i l m e =
      let r = t.names p l (omega arith) in
      let h = r.high in
      let c = (t.linked i m (omega arith)).counted in
      omega (arith, met v.naming (most_slots * n) p i l e)

  -- a directory but the root has an entry, in its parent
  pub entry_of : (i : ℕ) → Dir n v i → (i ≡ root_inode → ⊥) → (p : ℕ) × (p < most_slots * n) × (v.naming p ≡ i) × (v.parent i ≡ dir_of p)
  entry_of i d h =
      let c = t.linked i d.low d.high in
      let o = c.one d.kind h in
      let r = met_at v.naming (most_slots * n) i (omega (arith, c.counted)) in
      let p = r.0 in
      let l : p < most_slots * n = r.1 in
      let e : v.naming p ≡ i = r.2 in
      let g : 1 ≤ v.naming p = omega (arith, d.low) in
      (p, l, e, ap v.parent (sym e) ∙ (t.names p l g).parent (ap v.kind e ∙ d.kind))

  -- and no other
  pub entry_one : (i p q : ℕ) → 1 ≤ i → i ≤ n → v.kind i ≡ directory_kind → p < most_slots * n → q < most_slots * n → v.naming p ≡ i → v.naming q ≡ i → p ≡ q
  entry_one i p q a b k l m d e =
      let c = t.linked i a b in
      let r = t.names p l (omega arith) in
      met_once v.naming (most_slots * n) p q i (sym c.counted ∙ c.one k (λ z. r.not_root (d ∙ z))) l m d e

  module _ (a : Above n v) where
    -- the parent is a directory
    pub parent_dir : (i : ℕ) → Dir n v i → (i ≡ root_inode → ⊥) → Dir n v (v.parent i)
    parent_dir i d h =
        let r = entry_of i d h in
        let l : r.0 < most_slots * n = r.1 in
        let e : v.naming r.0 ≡ i = r.2 in
        let g = d.low in
        subst (Dir n v) (sym r.3) (record { low = omega arith; high = omega arith; kind = a r.0 l (omega arith) })

    -- by parents that are the same for all directories, the way up is the same
    pub leads_same : (up : ℕ → ℕ) → ((x : ℕ) → Dir n v x → up x ≡ v.parent x) → (i : ℕ) → Dir n v i → Leads up root_inode i
    leads_same up h i d =
        let r = (t.linked i d.low d.high).leads d.kind in
        leads_kept (Dir n v) v.parent up root_inode n (record { within = λ x e. (e.low, e.high); parent = parent_dir }) h r.0 i d r.1

-- ---- a change of one inode i and of places
module _ (n i : ℕ) (v w : Nodes) (t : Tree n v) (a : Above n v) (low : 1 ≤ i) (high : i ≤ n) (same : ElseNodes n i v w) where
  -- a place that names the same inode, another than i
  names_else : (q : ℕ) → q < most_slots * n → w.naming q ≡ v.naming q → 1 ≤ w.naming q → w.naming q ≢ i → Names n w (w.naming q) (dir_of q)
  names_else q l e o h =
      let r = t.names q l (omega arith) in
      let j = w.naming q in
      let g = r.high in
      let b : w.kind j ≡ v.kind (v.naming q) = same.kinds j o (omega arith) h ∙ ap v.kind e in
      record {
        high = omega arith;
        used = λ z. r.used (sym b ∙ z);
        not_root = λ z. r.not_root (sym e ∙ z);
        parent = λ z. same.parents j o (omega arith) h ∙ ap v.parent e ∙ r.parent (sym b ∙ z);
      }

  -- an inode of the same kind and links that is met as often as before, where its directory leads up
  linked_same : (j : ℕ) → 1 ≤ j → j ≤ n → w.kind j ≡ v.kind j → w.links j ≡ v.links j → tally w.naming (most_slots * n) j ≡ tally v.naming (most_slots * n) j
      → (v.kind j ≡ directory_kind → Leads w.parent root_inode j) → Linked n w j
  linked_same j l m k c e up =
      let r = t.linked j l m in
      record {
        counted = c ∙ r.counted ∙ sym e;
        named = λ z y. subst (λ (x : ℕ). 1 ≤ x) (sym c) (r.named (λ q. z (k ∙ q)) y);
        one = λ z y. c ∙ r.one (sym k ∙ z) y;
        leads = λ z. up (sym k ∙ z);
      }

  -- the root is another than i, the entries name what they may, and the other inodes are met as often as before
  tree_else : i ≢ root_inode → ((q : ℕ) → q < most_slots * n → 1 ≤ w.naming q → Names n w (w.naming q) (dir_of q))
      → ((j : ℕ) → 1 ≤ j → j ≢ i → tally w.naming (most_slots * n) j ≡ tally v.naming (most_slots * n) j)
      → ((j : ℕ) → 1 ≤ j → j ≤ n → j ≢ i → v.kind j ≡ directory_kind → Leads w.parent root_inode j) → Linked n w i → Tree n w
  tree_else not_root names met leads here =
      let z : root_inode ≢ i = λ e. not_root (sym e) in
      record {
        root = same.kinds root_inode (omega arith) (omega arith) z ∙ t.root;
        root_parent = same.parents root_inode (omega arith) (omega arith) z ∙ t.root_parent;
        names = names;
        linked = λ j l m. each_else (Linked n w) i j here (λ q. linked_same j l m (same.kinds j l m q) (same.links j l m q) (met j l q) (leads j l m q));
      }

  -- ---- i keeps its kind and its parent
  module _ (k : w.kind i ≡ v.kind i) (u : w.parent i ≡ v.parent i) where
    kind_all : SameTo n v.kind w.kind
    kind_all j l m = elim (ℕ_discrete j i) as (λ _. w.kind j ≡ v.kind j) [ yes e ↦ ap w.kind e ∙ k ∙ ap v.kind (sym e) | no e ↦ same.kinds j l m e ]

    parent_all : SameTo n v.parent w.parent
    parent_all j l m = elim (ℕ_discrete j i) as (λ _. w.parent j ≡ v.parent j) [ yes e ↦ ap w.parent e ∙ u ∙ ap v.parent (sym e) | no e ↦ same.parents j l m e ]

    names_all : (d x : ℕ) → 1 ≤ x → Names n v x d → Names n w x d
    names_all d x o r =
        let b = kind_all x o r.high in
        record {
          high = r.high;
          used = λ z. r.used (sym b ∙ z);
          not_root = r.not_root;
          parent = λ z. parent_all x o r.high ∙ r.parent (sym b ∙ z);
        }

    -- a place that names what it did
    names_same : (q : ℕ) → q < most_slots * n → 1 ≤ w.naming q → w.naming q ≡ v.naming q → Names n w (w.naming q) (dir_of q)
    names_same q m o b = subst (λ (x : ℕ). Names n w x (dir_of q)) (sym b) (names_all (dir_of q) (v.naming q) (omega arith) (t.names q m (omega arith)))

    leads_all : (j : ℕ) → 1 ≤ j → j ≤ n → v.kind j ≡ directory_kind → Leads w.parent root_inode j
    leads_all j l m z = leads_same n v t a w.parent (λ x d. parent_all x d.low d.high) j (record { low = l; high = m; kind = z })

    -- "link": an empty place names the file i, which has one link more
    pub tree_link : (p : ℕ) → p < most_slots * n → v.naming p ≡ 0 → w.naming p ≡ i → ElseBelow (most_slots * n) p v.naming w.naming
        → v.kind i ≡ file_kind → w.links i ≡ v.links i + 1 → Tree n w
    tree_link p l e f h file c =
        tree_else not_root (λ q m o. at q m o (ℕ_discrete q p)) (tally_rest v.naming w.naming (most_slots * n) p i l h e f) (λ j y z q. leads_all j y z)
        (let r = t.linked i low high in
        record {
          counted = let b = tally_more v.naming w.naming (most_slots * n) p i l h e f low in let g = r.counted in omega arith;
          named = λ _ _. omega arith;
          one = λ x _. let b = sym k ∙ x in absurd (omega arith);
          leads = λ x. let b = sym k ∙ x in absurd (omega arith);
        })
      where
        not_root : i ≢ root_inode
        not_root z = let b : v.kind i ≡ directory_kind = ap v.kind z ∙ t.root in omega arith

        at : (q : ℕ) → q < most_slots * n → 1 ≤ w.naming q → Dec (q ≡ p) → Names n w (w.naming q) (dir_of q)
        at q m o (yes z) =
            subst (λ (x : ℕ). Names n w x (dir_of q)) (sym f ∙ ap w.naming (sym z))
            (record { high = high; used = λ y. let b = sym k ∙ y in omega arith; not_root = not_root; parent = λ y. let b = sym k ∙ y in absurd (omega arith) })
        at q m o (no z) = names_same q m o (h q m z)

    -- "rename" within a directory: every place names what it did
    pub tree_rename : ((q : ℕ) → q < most_slots * n → w.naming q ≡ v.naming q) → i ≢ root_inode → w.links i ≡ v.links i → Tree n w
    tree_rename h not_root c =
        tree_else not_root (λ q m o. names_same q m o (h q m)) (λ j y q. tally_same v.naming w.naming (most_slots * n) h j) (λ j y z q. leads_all j y z)
        (linked_same i low high k c (tally_same v.naming w.naming (most_slots * n) h i) (leads_all i low high))

    -- "unlink" of one of several links: the place names nothing, and i has one link less
    pub tree_less : (p : ℕ) → p < most_slots * n → v.naming p ≡ i → w.naming p ≡ 0 → ElseBelow (most_slots * n) p v.naming w.naming
        → 2 ≤ v.links i → w.links i ≡ v.links i - 1 → Tree n w
    tree_less p l e f h two c =
        tree_else not_root (λ q m o. at q m o (ℕ_discrete q p)) others (λ j y z q. leads_all j y z)
        (let r = t.linked i low high in
        record {
          counted = let b = tally_more w.naming v.naming (most_slots * n) p i l (λ q m z. sym (h q m z)) f e low in let g = r.counted in omega arith;
          named = λ _ _. omega arith;
          one = λ x _. absurd (not_dir x);
          leads = λ x. absurd (not_dir x);
        })
      where
        not_root : i ≢ root_inode
        not_root z = (t.names p l (omega arith)).not_root (e ∙ z)

        not_dir : w.kind i ≡ directory_kind → ⊥
        not_dir z = let b = (t.linked i low high).one (sym k ∙ z) not_root in omega arith

        at : (q : ℕ) → q < most_slots * n → 1 ≤ w.naming q → Dec (q ≡ p) → Names n w (w.naming q) (dir_of q)
        at q m o (yes z) = let b : w.naming q ≡ 0 = ap w.naming z ∙ f in absurd (omega arith)
        at q m o (no z) = names_same q m o (h q m z)

        others : (j : ℕ) → 1 ≤ j → j ≢ i → tally w.naming (most_slots * n) j ≡ tally v.naming (most_slots * n) j
        others j y q = sym (tally_rest w.naming v.naming (most_slots * n) p i l (λ q m z. sym (h q m z)) f e j y q)

  -- "create": an empty place of directory d names i, which was free, and now is a file or a directory with one link
  pub tree_create : (p d : ℕ) → p < most_slots * n → dir_of p ≡ d → v.naming p ≡ 0 → w.naming p ≡ i → ElseBelow (most_slots * n) p v.naming w.naming
      → v.kind d ≡ directory_kind → v.kind i ≡ free_kind → v.links i ≡ 0
      → (w.kind i ≡ free_kind → ⊥) → (w.kind i ≡ directory_kind → w.parent i ≡ d) → w.links i ≡ 1 → Tree n w
  tree_create p d l home e f h dir free none used up c =
      tree_else not_root (λ q m o. at q m o (ℕ_discrete q p)) (tally_rest v.naming w.naming (most_slots * n) p i l h e f) (λ j y z q b. leads_old j (record { low = y; high = z; kind = b }))
      (let r = t.linked i low high in
      record {
        counted = let b = tally_more v.naming w.naming (most_slots * n) p i l h e f low in let o = r.counted in omega arith;
        named = λ _ _. omega arith;
        one = λ _ _. c;
        leads = λ x. leads_up w.parent root_inode i (subst (Leads w.parent root_inode) (sym (up x)) (leads_old d (record { low = omega arith; high = omega arith; kind = dir })));
      })
    where
      not_root : i ≢ root_inode
      not_root z = let b : v.kind i ≡ directory_kind = ap v.kind z ∙ t.root in omega arith

      -- nothing named i
      unnamed : (q : ℕ) → q < most_slots * n → v.naming q ≡ i → ⊥
      unnamed q m z = let b = counted_some n v t q i m low z in omega arith

      at : (q : ℕ) → q < most_slots * n → 1 ≤ w.naming q → Dec (q ≡ p) → Names n w (w.naming q) (dir_of q)
      at q m o (yes z) =
          subst (λ (x : ℕ). Names n w x (dir_of q)) (sym f ∙ ap w.naming (sym z))
          (record { high = high; used = used; not_root = not_root; parent = λ y. up y ∙ sym home ∙ ap dir_of (sym z) })
      at q m o (no z) = let b = h q m z in names_else q m b o (λ x. unnamed q m (sym b ∙ x))

      leads_old : (j : ℕ) → Dir n v j → Leads w.parent root_inode j
      leads_old j = leads_same n v t a w.parent (λ x b. same.parents x b.low b.high (λ z. let g = ap v.kind z in let o = b.kind in omega arith)) j

  -- "unlink" of the last link: the place names nothing, and i, in which no entry stands, is free
  pub tree_last : (p : ℕ) → p < most_slots * n → v.naming p ≡ i → w.naming p ≡ 0 → ElseBelow (most_slots * n) p v.naming w.naming
      → v.links i ≡ 1 → (v.kind i ≡ directory_kind → (q : ℕ) → q < most_slots * n → dir_of q ≡ i → v.naming q ≡ 0)
      → w.kind i ≡ free_kind → w.links i ≡ 0 → Tree n w
  tree_last p l e f h last bare k c =
      tree_else not_root (λ q m o. at q m o (ℕ_discrete q p)) others (λ j y z q b. leads_old j (record { low = y; high = z; kind = b }, q))
      (record { counted = c ∙ sym nowhere; named = λ x _. absurd (x k); one = λ x _. absurd (omega arith); leads = λ x. absurd (omega arith) })
    where
      not_root : i ≢ root_inode
      not_root z = (t.names p l (omega arith)).not_root (e ∙ z)

      others : (j : ℕ) → 1 ≤ j → j ≢ i → tally w.naming (most_slots * n) j ≡ tally v.naming (most_slots * n) j
      others j y q = sym (tally_rest w.naming v.naming (most_slots * n) p i l (λ q m z. sym (h q m z)) f e j y q)

      nowhere : tally w.naming (most_slots * n) i ≡ 0
      nowhere = let b = tally_more w.naming v.naming (most_slots * n) p i l (λ q m z. sym (h q m z)) f e low in let o = (t.linked i low high).counted in omega arith

      at : (q : ℕ) → q < most_slots * n → 1 ≤ w.naming q → Dec (q ≡ p) → Names n w (w.naming q) (dir_of q)
      at q m o (yes z) = let b : w.naming q ≡ 0 = ap w.naming z ∙ f in absurd (omega arith)
      at q m o (no z) = names_else q m (h q m z) o (λ x. let b = met w.naming (most_slots * n) q i m x in let g = nowhere in omega arith)

      -- the directories that stay
      Stays : ℕ → Type 0
      Stays x = Dir n v x × (x ≢ i)

      -- none of them has its entry in i
      stays : (x : ℕ) → Stays x → (x ≡ root_inode → ⊥) → Stays (v.parent x)
      stays x b g =
          let o = parent_dir n v t a x b.0 g in
          let r = entry_of n v t x b.0 g in
          let d = b.0.low in
          let m : v.naming r.0 ≡ x = r.2 in
          (o, λ z. let y = bare (ap v.kind (sym z) ∙ o.kind) r.0 r.1 (sym r.3 ∙ z) in omega arith)

      leads_old : (j : ℕ) → Stays j → Leads w.parent root_inode j
      leads_old j b =
          let r = (t.linked j b.0.low b.0.high).leads b.0.kind in
          leads_kept Stays v.parent w.parent root_inode n (record { within = λ x y. (y.0.low, y.0.high); parent = stays })
          (λ x y. same.parents x y.0.low y.0.high y.1) r.0 j b r.1

  -- "move": place p names nothing, the empty place u of directory e names i, and a directory i has the parent e, to which it does not lead
  pub tree_move : (p u e : ℕ) → p < most_slots * n → u < most_slots * n → dir_of u ≡ e → v.naming p ≡ i → w.naming p ≡ 0 → v.naming u ≡ 0 → w.naming u ≡ i
      → ((q : ℕ) → q < most_slots * n → q ≢ p → q ≢ u → w.naming q ≡ v.naming q)
      → v.kind e ≡ directory_kind → (v.kind i ≡ directory_kind → Leads v.parent i e → ⊥)
      → w.kind i ≡ v.kind i → w.links i ≡ v.links i → (v.kind i ≡ directory_kind → w.parent i ≡ e) → Tree n w
  tree_move p u e l m home was gone free now h dir apart k c up =
      tree_else not_root (λ q b o. at q b o (ℕ_discrete q p) (ℕ_discrete q u)) (λ j y q. tallied j y) (λ j y z q b. leads_old j (record { low = y; high = z; kind = b }))
      (linked_same i low high k c (tallied i low) (λ x. leads_old i (record { low = low; high = high; kind = x })))
    where
      old : Names n v i (dir_of p)
      old = subst (λ (x : ℕ). Names n v x (dir_of p)) was (t.names p l (omega arith))

      not_root : i ≢ root_inode
      not_root = old.not_root

      at : (q : ℕ) → q < most_slots * n → 1 ≤ w.naming q → Dec (q ≡ p) → Dec (q ≡ u) → Names n w (w.naming q) (dir_of q)
      at q b o (yes z) d = let g : w.naming q ≡ 0 = ap w.naming z ∙ gone in absurd (omega arith)
      at q b o (no z) (yes d) =
          subst (λ (x : ℕ). Names n w x (dir_of q)) (sym now ∙ ap w.naming (sym d))
          (record { high = high; used = λ y. old.used (sym k ∙ y); not_root = not_root; parent = λ y. up (sym k ∙ y) ∙ sym home ∙ ap dir_of (sym d) })
      at q b o (no z) (no d) = elim (ℕ_discrete (w.naming q) i) as (λ _. Names n w (w.naming q) (dir_of q)) [
        | yes x ↦ subst (λ (y : ℕ). Names n w y (dir_of q)) (sym x)
            (record {
              high = high;
              used = λ y. old.used (sym k ∙ y);
              not_root = not_root;
              parent = λ y. absurd (z (entry_one n v t i q p low high (sym k ∙ y) b l (sym (h q b z d) ∙ x) was));
            })
        | no x ↦ names_else q b (h q b z d) o x
      ]

      -- by the place that is emptied and the one that is filled
      tallied : (j : ℕ) → 1 ≤ j → tally w.naming (most_slots * n) j ≡ tally v.naming (most_slots * n) j
      tallied j y =
          let f = upd v.naming p 0 in
          let b = tally_filled f v.naming (most_slots * n) p i l (λ q o z. sym (upd_other v.naming p 0 q z)) (upd_same v.naming p 0) was j y in
          let z : u ≢ p = λ x. let g = ap v.naming x in omega arith in
          let d = tally_filled f w.naming (most_slots * n) u i m (λ q o x. middle q o x (ℕ_discrete q p)) (upd_other v.naming p 0 u z ∙ free) now j y in
          omega arith
        where
          middle : (q : ℕ) → q < most_slots * n → q ≢ u → Dec (q ≡ p) → w.naming q ≡ upd v.naming p 0 q
          middle q o x (yes z) = ap w.naming z ∙ gone ∙ sym (upd_same v.naming p 0) ∙ ap (upd v.naming p 0) (sym z)
          middle q o x (no z) = h q o z x ∙ sym (upd_other v.naming p 0 q z)

      -- the parents with that of i changed
      to : ℕ → ℕ
      to = upd v.parent i e

      above : Dir n v e
      above = record { low = omega arith; high = omega arith; kind = dir }

      leads_dir : v.kind i ≡ directory_kind → (j : ℕ) → Dir n v j → Leads w.parent root_inode j
      leads_dir z j b =
          let g = (t.linked j b.low b.high).leads b.kind in
          let o = (t.linked e above.low above.high).leads dir in
          let r = leads_moved v.parent to i e (changed v.parent i e) root_inode (apart z) o j g in
          leads_kept (Dir n v) to w.parent root_inode n (record { within = λ x y. (y.low, y.high); parent = λ x y q. closed x y q (ℕ_discrete x i) })
          (λ x y. agree x y (ℕ_discrete x i)) r.0 j b r.1
        where
          closed : (x : ℕ) → Dir n v x → (x ≡ root_inode → ⊥) → Dec (x ≡ i) → Dir n v (to x)
          closed x y q (yes s) = subst (Dir n v) (sym (ap to s ∙ upd_same v.parent i e)) above
          closed x y q (no s) = subst (Dir n v) (sym (upd_other v.parent i e x s)) (parent_dir n v t a x y q)

          agree : (x : ℕ) → Dir n v x → Dec (x ≡ i) → w.parent x ≡ to x
          agree x y (yes s) = ap w.parent s ∙ up z ∙ sym (upd_same v.parent i e) ∙ ap to (sym s)
          agree x y (no s) = same.parents x y.low y.high s ∙ sym (upd_other v.parent i e x s)

      leads_old : (j : ℕ) → Dir n v j → Leads w.parent root_inode j
      leads_old j b = elim (ℕ_discrete (v.kind i) directory_kind) as (λ _. Leads w.parent root_inode j) [
        | yes z ↦ leads_dir z j b
        | no z ↦ leads_same n v t a w.parent (λ x y. same.parents x y.low y.high (λ q. z (ap v.kind (sym q) ∙ y.kind))) j b
      ]
