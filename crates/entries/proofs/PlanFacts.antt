-- What a plan that is no refusal says of the store: the conditions that it has passed. n and b are the counts of inodes and blocks.
use Rattle.std.specs.Prelude.{Err, None, Ok, Option, Result, Some}
use Prim.Native.Nat.{ℕ}
use mathlib.Core.Path.{◌≡◌, refl, sym, ap, ◌∙◌, subst}
use mathlib.Core.Bool.{Bool, true, false, not, ◌&&◌}
use mathlib.Core.Logic.{◌⊎◌, inl, inr}
use mathlib.Core.List.{List}
use native.Mathlib.Omega.{arith}
use borrow.Author.Tests.{eq-eqb, ne_eqb, eqb-true, eqb-false}
use lib.Dec.{eqb}
use Rattle.bounded.specs.Search.{pick, on_found}
use Rattle.bounded.proofs.BoolLaws.{and_left, and_right, clash}
use Rattle.bounded.proofs.SearchLaws.{pick_else, pick_not, found_none, found_at}
use Rattle.layout.specs.Inode.{kind_of, directory_kind, is_file, is_directory, free_inode}
use Rattle.names.specs.Name.{legal_name}
use Rattle.directory.specs.Slot.{find_slot, inode_at}
use Rattle.answers.proofs.RefusalLaws.{err_not_ok}
use Rattle.answers.specs.declared.Refusal.{Refusal}
use Rattle.answers.specs.declared.Refusal.TheVariants.{NameTaken, IntoItself}
use Rattle.entries.specs.declared.Room.{Room}
use Rattle.entries.specs.Room.{room_in, on_room, creation, removal}
use Rattle.entries.specs.Plan.{look_up_plan, create_plan, link_plan, holds_none, unlink_plan, is_below, rename_within, move_to, rename_to, rename_new_plan, over_of, on_number, on_unlink, over_plan}
use Rattle.answers.specs.Told.{Answer}
use Rattle.entries.specs.declared.RenamePlan.TheVariants.{Move, Rename}
use Rattle.entries.specs.declared.OverPlan.TheVariants.{Over, Same}
use Rattle.entries.specs.declared.CreatePlan.{CreatePlan}
use Rattle.entries.specs.declared.UnlinkPlan.{UnlinkPlan}
use Rattle.entries.specs.declared.RenamePlan.{RenamePlan}
use Rattle.entries.specs.declared.OverPlan.{OverPlan}

-- ---- a room that was looked for, where the outcome is no refusal
module _ {A : Type 0} where
  pub room_had : (f : Result Room Refusal) (g : Room → A) (k : Refusal → A) (z : A) → on_room f g k ≡ z → ((w : Refusal) → k w ≡ z → ⊥) → (r : Room) × (f ≡ Ok r) × (g r ≡ z)
  room_had (Ok r) g k z e h = (r, refl, e)
  room_had (Err w) g k z e h = absurd (h w e)

-- ---- what plans share
-- a new name in the directory d
pub record NewIn (s : List ℕ) (n d : ℕ) (name : List ℕ) : Type 0 where
  pub legal : legal_name name ≡ true
  pub directory : is_directory s n d ≡ true
  pub absent : find_slot s n d name ≡ None

-- no entry of the directory d has the name, but perhaps that in slot t
abbrev pub FreeFor : List ℕ → ℕ → ℕ → List ℕ → ℕ → Type 0
FreeFor s n d name t = (find_slot s n d name ≡ None) ⊎ (find_slot s n d name ≡ Some t)

-- the name in slot t of the directory d, which names i
pub record FoundIn (s : List ℕ) (n d : ℕ) (name : List ℕ) (t i : ℕ) : Type 0 where
  pub legal : legal_name name ≡ true
  pub directory : is_directory s n d ≡ true
  pub found : find_slot s n d name ≡ Some t
  pub inode : i ≡ inode_at s n d t

-- ---- look up
pub looks : (s : List ℕ) (n d : ℕ) (name : List ℕ) (i : ℕ) → look_up_plan s n d name ≡ Ok i → (t : ℕ) × FoundIn s n d name t i
unfolding look_up_plan
looks s n d name i e =
    let z : Answer = Ok i in
    let a = pick_not (legal_name name) (Err _) _ z e (err_not_ok _ _) in
    let c = pick_not (is_directory s n d) (Err _) _ z a.1 (err_not_ok _ _) in
    let f = found_at (find_slot s n d name) _ _ z c.1 (err_not_ok _ _) in
    let q : inode_at s n d f.0 ≡ i = cc f.2 in
    (f.0, record { legal = a.0; directory = c.0; found = f.1; inode = sym q })

-- and back
pub looks_up : (s : List ℕ) (n d : ℕ) (name : List ℕ) (t i : ℕ) → FoundIn s n d name t i → look_up_plan s n d name ≡ Ok i
unfolding look_up_plan
looks_up s n d name t i f = rw (f.legal, f.directory, f.found) (ap Ok (sym f.inode))

-- ---- create
pub record Creates (s : List ℕ) (n b d : ℕ) (name : List ℕ) (i : ℕ) (r : Room) : Type 0 where
  pub new : NewIn s n d name
  pub inode : free_inode s n ≡ Some i
  pub room : room_in s n b d ≡ Ok r

pub creates : (s : List ℕ) (n b d : ℕ) (name : List ℕ) (i : ℕ) (r : Room) → create_plan s n b d name ≡ Ok (creation i r) → Creates s n b d name i r
unfolding create_plan
creates s n b d name i r e =
    let z : Result CreatePlan Refusal = Ok (creation i r) in
    let a = pick_not (legal_name name) (Err _) _ z e (err_not_ok _ _) in
    let c = pick_not (is_directory s n d) (Err _) _ z a.1 (err_not_ok _ _) in
    let f = found_none (find_slot s n d name) _ _ z c.1 (λ t. err_not_ok _ _) in
    let g = found_at (free_inode s n) _ _ z f.1 (err_not_ok _ _) in
    let h = room_had (room_in s n b d) _ _ z g.2 (λ w. err_not_ok w _) in
    let x : creation g.0 h.0 ≡ creation i r = cc h.2 in
    let p = ap (λ (y : CreatePlan). y.inode) x in
    let q = ap (λ (y : CreatePlan). y.room) x in
    record { new = record { legal = a.0; directory = c.0; absent = f.0 }; inode = g.1 ∙ ap Some p; room = h.1 ∙ ap Ok q }

-- ---- link
pub record Links (s : List ℕ) (n b d : ℕ) (name : List ℕ) (i : ℕ) (r : Room) : Type 0 where
  pub new : NewIn s n d name
  pub file : is_file s n i ≡ true
  pub room : room_in s n b d ≡ Ok r

pub links : (s : List ℕ) (n b d : ℕ) (name : List ℕ) (i : ℕ) (r : Room) → link_plan s n b d name i ≡ Ok r → Links s n b d name i r
unfolding link_plan
links s n b d name i r e =
    let z : Result Room Refusal = Ok r in
    let a = pick_not (legal_name name) (Err _) _ z e (err_not_ok _ _) in
    let c = pick_not (is_directory s n d && is_file s n i) (Err _) _ z a.1 (err_not_ok _ _) in
    let f = found_none (find_slot s n d name) _ _ z c.1 (λ t. err_not_ok _ _) in
    record {
      new = record { legal = a.0; directory = and_left (is_directory s n d) (is_file s n i) c.0; absent = f.0 };
      file = and_right (is_directory s n d) (is_file s n i) c.0;
      room = f.1;
    }

-- ---- unlink
pub record Unlinks (s : List ℕ) (n d : ℕ) (name : List ℕ) (t i : ℕ) : Type 0 where
  pub entry : FoundIn s n d name t i
  -- "Directories unlink only when empty"
  pub empty : kind_of s i ≡ directory_kind → holds_none s n i ≡ true

unlink_empty : (s : List ℕ) (n i : ℕ) → eqb (kind_of s i) directory_kind && not (holds_none s n i) ≡ false → kind_of s i ≡ directory_kind → holds_none s n i ≡ true
unlink_empty s n i e k = go (holds_none s n i) refl
  where
    go : (x : Bool) → holds_none s n i ≡ x → x ≡ true
    go true q = refl
    go false q = absurd (clash (eqb (kind_of s i) directory_kind && not (holds_none s n i)) (rw (eq-eqb (kind_of s i) directory_kind k, q) refl) e)

pub unlinks : (s : List ℕ) (n d : ℕ) (name : List ℕ) (t i : ℕ) → unlink_plan s n d name ≡ Ok (removal t i) → Unlinks s n d name t i
unfolding unlink_plan
unlinks s n d name t i e =
    let z : Result UnlinkPlan Refusal = Ok (removal t i) in
    let a = pick_not (legal_name name) (Err _) _ z e (err_not_ok _ _) in
    let c = pick_not (is_directory s n d) (Err _) _ z a.1 (err_not_ok _ _) in
    let f = found_at (find_slot s n d name) _ _ z c.1 (err_not_ok _ _) in
    let g = pick_else (eqb (kind_of s (inode_at s n d f.0)) directory_kind && not (holds_none s n (inode_at s n d f.0))) (Err _) _ z f.2 (err_not_ok _ _) in
    let r : removal f.0 (inode_at s n d f.0) ≡ removal t i = cc g.1 in
    let p = ap (λ (x : UnlinkPlan). x.slot) r in
    let q = ap (λ (x : UnlinkPlan). x.inode) r in
    record {
      entry = record { legal = a.0; directory = c.0; found = f.1 ∙ ap Some p; inode = sym q ∙ ap (inode_at s n d) p };
      empty = unlink_empty s n i (subst (λ (j : ℕ). eqb (kind_of s j) directory_kind && not (holds_none s n j) ≡ false) q g.0);
    }

-- ---- rename
-- the entry in slot t of d, and its new name there, which no other entry has
pub record Renames (s : List ℕ) (n d : ℕ) (name other : List ℕ) (t i : ℕ) : Type 0 where
  pub entry : FoundIn s n d name t i
  pub legal : legal_name other ≡ true
  pub free : FreeFor s n d other t

-- the entry that goes, and its new name in another directory e
pub record Leaves (s : List ℕ) (n d : ℕ) (name : List ℕ) (e : ℕ) (other : List ℕ) (t i : ℕ) : Type 0 where
  pub entry : FoundIn s n d name t i
  pub new : NewIn s n e other

-- with room r there
pub record Moves (s : List ℕ) (n b d e i : ℕ) (r : Room) : Type 0 where
  pub other : d ≡ e → ⊥
  pub outside : is_below s n i e ≡ false
  pub room : room_in s n b e ≡ Ok r

move_not_rename : (u j t i : ℕ) (r : Room) → ◌≡◌ {A = Result RenamePlan Refusal} (Ok (Move u j r)) (Ok (Rename t i)) → ⊥
move_not_rename u j t i r h = let z : ◌≡◌ {A = ℕ} 0 1 = cc in absurd (omega arith)

rename_not_move : (u j t i : ℕ) (r : Room) → ◌≡◌ {A = Result RenamePlan Refusal} (Ok (Rename u j)) (Ok (Move t i r)) → ⊥
rename_not_move u j t i r h = let z : ◌≡◌ {A = ℕ} 0 1 = cc in absurd (omega arith)

own_or_no_move : (c : Bool) (w : Refusal) (u j t i : ℕ) (r : Room) → pick c (Ok (Rename u j)) (Err w) ≡ Ok (Move t i r) → ⊥
own_or_no_move true w u j t i r h = rename_not_move u j t i r h
own_or_no_move false w u j t i r h = err_not_ok w _ h

-- within a directory, and to another
module _ (s : List ℕ) (n b d t i e : ℕ) (other : List ℕ) where
  away_no_rename : (u j : ℕ) → move_to s n b t i e other ≡ Ok (Rename u j) → ⊥
  away_no_rename u j h =
      let z : Result RenamePlan Refusal = Ok (Rename u j) in
      let a = found_none (find_slot s n e other) _ _ z h (λ v. err_not_ok _ _) in
      let c = pick_else (is_below s n i e) (Err _) _ z a.1 (err_not_ok _ _) in
      let f = room_had (room_in s n b e) _ _ z c.1 (λ w. err_not_ok w _) in
      move_not_rename t i u j f.0 f.2

  to_renames : (u j : ℕ) → rename_to s n b d t i e other ≡ Ok (Rename u j) → (d ≡ e) × FreeFor s n e other t × (t ≡ u) × (i ≡ j)
  unfolding rename_to
  to_renames u j h = go (eqb d e) refl h
    where
      within : (f : Option ℕ) → find_slot s n e other ≡ f → on_found f (λ v. pick (eqb v t) (Ok (Rename t i)) (Err NameTaken)) (Ok (Rename t i)) ≡ Ok (Rename u j) → FreeFor s n e other t × (t ≡ u) × (i ≡ j)
      within None q g = (inl q, cc g, cc g)
      within (Some v) q g = own (eqb v t) refl g
        where
          own : (c : Bool) → eqb v t ≡ c → pick c (Ok (Rename t i)) (Err NameTaken) ≡ Ok (Rename u j) → FreeFor s n e other t × (t ≡ u) × (i ≡ j)
          own true z k = (inr (q ∙ ap Some (eqb-true v t z)), cc k, cc k)
          own false z k = absurd (err_not_ok NameTaken _ k)

      go : (c : Bool) → eqb d e ≡ c → pick c (rename_within s n t i e other) (move_to s n b t i e other) ≡ Ok (Rename u j) → (d ≡ e) × FreeFor s n e other t × (t ≡ u) × (i ≡ j)
      go true q g = let a = within (find_slot s n e other) refl g in (eqb-true d e q, a.0, a.1, a.2)
      go false q g = absurd (away_no_rename u j g)

  to_moves : (u j : ℕ) (r : Room) → rename_to s n b d t i e other ≡ Ok (Move u j r) → Moves s n b d e i r × (find_slot s n e other ≡ None) × (t ≡ u) × (i ≡ j)
  unfolding rename_to
  to_moves u j r h = go (eqb d e) refl h
    where
      go : (c : Bool) → eqb d e ≡ c → pick c (rename_within s n t i e other) (move_to s n b t i e other) ≡ Ok (Move u j r) → Moves s n b d e i r × (find_slot s n e other ≡ None) × (t ≡ u) × (i ≡ j)
      go true q g =
          let a = found_none (find_slot s n e other) (λ v. pick (eqb v t) (Ok (Rename t i)) (Err NameTaken)) (Ok (Rename t i)) (Ok (Move u j r)) g (λ v. own_or_no_move (eqb v t) NameTaken t i u j r) in
          absurd (rename_not_move t i u j r a.1)
      go false q g =
          let z : Result RenamePlan Refusal = Ok (Move u j r) in
          let a = found_none (find_slot s n e other) (λ v. Err NameTaken) (pick (is_below s n i e) (Err IntoItself) (on_room (room_in s n b e) (λ x. Ok (Move t i x)) Err)) z g (λ v. err_not_ok NameTaken _) in
          let c = pick_else (is_below s n i e) (Err IntoItself) (on_room (room_in s n b e) (λ x. Ok (Move t i x)) Err) z a.1 (err_not_ok IntoItself _) in
          let f = room_had (room_in s n b e) (λ x. Ok (Move t i x)) Err z c.1 (λ w. err_not_ok w _) in
          let o : f.0 ≡ r = cc f.2 in
          (record { other = eqb-false d e q; outside = c.0; room = f.1 ∙ ap Ok o }, a.0, cc f.2, cc f.2)

module _ (s : List ℕ) (n b d : ℕ) (name : List ℕ) (e : ℕ) (other : List ℕ) where
  -- a plan z that is no refusal: the entry is there, both directories are, and the names are legal
  record There (z : Result RenamePlan Refusal) : Type 0 where
    at : ℕ
    to : rename_to s n b d at (inode_at s n d at) e other ≡ z
    found : find_slot s n d name ≡ Some at
    legal : legal_name name && legal_name other ≡ true
    directories : is_directory s n d && is_directory s n e ≡ true

  renames_there : (z : Result RenamePlan Refusal) → ((w : Refusal) → Err w ≡ z → ⊥) → rename_new_plan s n b d name e other ≡ z → There z
  unfolding rename_new_plan
  renames_there z never h =
      let a = pick_not (legal_name name && legal_name other) (Err _) _ z h (never _) in
      let c = pick_not (is_directory s n d && is_directory s n e) (Err _) _ z a.1 (never _) in
      let f = found_at (find_slot s n d name) _ _ z c.1 (never _) in
      record { at = f.0; to = f.2; found = f.1; legal = a.0; directories = c.0 }

  there_found : {z : Result RenamePlan Refusal} (a : There z) (t i : ℕ) → a.at ≡ t → inode_at s n d a.at ≡ i → FoundIn s n d name t i
  there_found a t i p q = record {
    legal = and_left (legal_name name) (legal_name other) a.legal;
    directory = and_left (is_directory s n d) (is_directory s n e) a.directories;
    found = a.found ∙ ap Some p;
    inode = sym q ∙ ap (inode_at s n d) p;
  }

  pub renames : (t i : ℕ) → rename_new_plan s n b d name e other ≡ Ok (Rename t i) → Renames s n d name other t i × (d ≡ e)
  renames t i h =
      let a = renames_there (Ok (Rename t i)) (λ w. err_not_ok w _) h in
      let c = to_renames s n b d a.at (inode_at s n d a.at) e other t i a.to in (
        record {
          entry = there_found a t i c.2 c.3;
          legal = and_right (legal_name name) (legal_name other) a.legal;
          free = subst (λ (z : ℕ). FreeFor s n z other t) (sym c.0) (subst (FreeFor s n e other) c.2 c.1);
        },
        c.0,
      )

  pub moves : (t i : ℕ) (r : Room) → rename_new_plan s n b d name e other ≡ Ok (Move t i r) → Leaves s n d name e other t i × Moves s n b d e i r
  moves t i r h =
      let a = renames_there (Ok (Move t i r)) (λ w. err_not_ok w _) h in
      let c = to_moves s n b d a.at (inode_at s n d a.at) e other t i r a.to in (
        record {
          entry = there_found a t i c.2 c.3;
          new = record { legal = and_right (legal_name name) (legal_name other) a.legal; directory = and_right (is_directory s n d) (is_directory s n e) a.directories; absent = c.1 };
        },
        subst (λ (j : ℕ). Moves s n b d e j r) c.3 c.0,
      )

-- ---- rename onto a name that another entry has: i is renamed, h has the name
pub record Onto (s : List ℕ) (n d : ℕ) (name : List ℕ) (e : ℕ) (other : List ℕ) (i h : ℕ) : Type 0 where
  pub slot : ℕ
  pub entry : FoundIn s n d name slot i
  pub held : ℕ
  pub goes : unlink_plan s n e other ≡ Ok (removal held h)
  pub outside : (d ≡ e → ⊥) → is_below s n i e ≡ false
  pub alike : kind_of s i ≡ kind_of s h

over_not_same : (j k i : ℕ) → ◌≡◌ {A = Result OverPlan Refusal} (Ok (Over j k)) (Ok (Same i)) → ⊥
over_not_same j k i q = let z : ◌≡◌ {A = ℕ} 0 1 = cc in absurd (omega arith)

same_not_over : (j i h : ℕ) → ◌≡◌ {A = Result OverPlan Refusal} (Ok (Same j)) (Ok (Over i h)) → ⊥
same_not_over j i h q = let z : ◌≡◌ {A = ℕ} 0 1 = cc in absurd (omega arith)

module _ (s : List ℕ) (n d : ℕ) (name : List ℕ) (e : ℕ) (other : List ℕ) where
  -- a plan z that is no refusal
  record Passed (z : Result OverPlan Refusal) : Type 0 where
    mover : ℕ
    holder : ℕ
    onto : Onto s n d name e other mover holder
    plan : pick (eqb mover holder) (Ok (Same mover)) (Ok (Over mover holder)) ≡ z

  passed : (z : Result OverPlan Refusal) → ((w : Refusal) → Err w ≡ z → ⊥) → over_plan s n d name e other ≡ z → Passed z
  unfolding over_plan over_of
  passed z never q = go (look_up_plan s n d name) refl (unlink_plan s n e other) refl q
    where
      go : (p : Answer) → look_up_plan s n d name ≡ p → (u : Result UnlinkPlan Refusal) → unlink_plan s n e other ≡ u
          → on_number p (λ i. on_unlink u (λ t h. over_of s n d i e h) Err) Err ≡ z → Passed z
      go (Err f) a u c g = absurd (never f g)
      go (Ok i) a (Err f) c g = absurd (never f g)
      go (Ok i) a (Ok p) c g =
          let x = looks s n d name i a in
          let y = pick_else (not (eqb d e) && is_below s n i e) (Err _) _ z g (never _) in
          let w = pick_not (eqb (kind_of s i) (kind_of s p.inode)) (Err _) _ z y.1 (never _) in
          record {
            mover = i;
            holder = p.inode;
            onto = record {
              slot = x.0;
              entry = x.1;
              held = p.slot;
              goes = c;
              outside = λ o. sym (ap (λ (v : Bool). not v && is_below s n i e) (ne_eqb d e o)) ∙ y.0;
              alike = eqb-true (kind_of s i) (kind_of s p.inode) w.0;
            };
            plan = w.1;
          }

  pub replaces : (i h : ℕ) → over_plan s n d name e other ≡ Ok (Over i h) → Onto s n d name e other i h × (i ≡ h → ⊥)
  replaces i h q = go (passed (Ok (Over i h)) (λ w. err_not_ok w _) q)
    where
      go : Passed (Ok (Over i h)) → Onto s n d name e other i h × (i ≡ h → ⊥)
      go p =
          let a = pick_else (eqb p.mover p.holder) (Ok (Same p.mover)) (Ok (Over p.mover p.holder)) (Ok (Over i h)) p.plan (same_not_over p.mover i h) in
          let x : p.mover ≡ i = cc a.1 in
          let y : p.holder ≡ h = cc a.1 in
          (subst (λ (j : ℕ). Onto s n d name e other j h) x (subst (Onto s n d name e other p.mover) y p.onto), λ z. eqb-false p.mover p.holder a.0 (x ∙ z ∙ sym y))

  pub both_names : (i : ℕ) → over_plan s n d name e other ≡ Ok (Same i) → Onto s n d name e other i i
  both_names i q = go (passed (Ok (Same i)) (λ w. err_not_ok w _) q)
    where
      at : (j k : ℕ) (c : Bool) → eqb j k ≡ c → pick {A = Result OverPlan Refusal} c (Ok (Same j)) (Ok (Over j k)) ≡ Ok (Same i) → (j ≡ i) × (k ≡ i)
      at j k true z g = let x : j ≡ i = cc g in (x, sym (eqb-true j k z) ∙ x)
      at j k false z g = absurd (over_not_same j k i g)

      go : Passed (Ok (Same i)) → Onto s n d name e other i i
      go p =
          let a = at p.mover p.holder (eqb p.mover p.holder) refl p.plan in
          subst (λ (j : ℕ). Onto s n d name e other j i) a.0 (subst (Onto s n d name e other p.mover) a.1 p.onto)
