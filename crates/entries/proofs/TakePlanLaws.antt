-- Each way that the plans for an entry that is there return: unlink and rename.
use Rattle.std.specs.Prelude.{Err, None, Ok, Some, Result}
use Prim.Native.Nat.{ℕ, ◌+◌, ◌-◌, ◌≤◌, ◌<◌}
use mathlib.Core.Path.{◌≡◌, ap, ◌∙◌}
use mathlib.Core.Bool.{Bool, true, false, not, ◌&&◌}
use mathlib.Core.List.{List}
use borrow.Author.Tests.{eq-eqb, ne_eqb}
use lib.Dec.{eqb}
use lib.ListN.{take, drop}
use Rattle.bounded.specs.Below.{all_below}
use Rattle.bounded.specs.Search.{pick}
use Rattle.bounded.specs.Climb.{leads_b}
use Rattle.bounded.proofs.BoolLaws.{chain_on, chain_off}
use Rattle.bounded.proofs.BelowLaws.{all_more, all_stopped, all_done}
use Rattle.octets.proofs.PartLaws.{cut}
use Rattle.layout.specs.Inode.{kind_of, parent_of, directory_kind, is_directory}
use Rattle.names.specs.Name.{legal_name}
use Rattle.names.specs.Entry.{is_empty}
use Rattle.directory.specs.Slot.{slots, slot_at, slot_empty, entry_of, find_slot, inode_at}
use Rattle.answers.specs.declared.Refusal.{Refusal}
use Rattle.answers.specs.declared.Refusal.TheVariants.{IllegalName, WrongInode, NameAbsent, NameTaken, NotEmpty, IntoItself, KindsDiffer}
use Rattle.entries.specs.declared.Room.{Room}
use Rattle.entries.specs.Room.{room_in, removal}
use Rattle.entries.specs.Plan.{look_up_plan, holds_none, unlink_plan, is_below, rename_within, move_to, rename_to, rename_new_plan, over_of, over_plan}
use Rattle.entries.specs.declared.RenamePlan.TheVariants.{Move, Rename}
use Rattle.entries.specs.declared.OverPlan.TheVariants.{Over, Same}
use Rattle.entries.specs.declared.UnlinkPlan.{UnlinkPlan}
use Rattle.entries.specs.declared.RenamePlan.{RenamePlan}
use Rattle.entries.specs.declared.OverPlan.{OverPlan}

-- the test of slot t's bytes, as the code cuts them out at o
pub empty_read : (s : List ℕ) (n d t o : ℕ) (r : Bool) → o ≡ slot_at s n d t → r ≡ is_empty (take (o + 16 - o) (drop o s)) → r ≡ slot_empty s n d t
unfolding slot_empty entry_of
empty_read s n d t o r e q = q ∙ rw (cut s o 16, e)

-- the loop over all slots of d: t are empty; slot t is not; all are looked at
module _ (s : List ℕ) (n d t : ℕ) where
  pub none_more : (r : Bool) → all_below (slot_empty s n d) t ≡ true → r ≡ slot_empty s n d t → not r ≡ false → all_below (slot_empty s n d) (t + 1) ≡ true
  none_more r a q g = all_more (slot_empty s n d) t a (chain_on r (slot_empty s n d t) q g)

  pub none_stopped : (r : Bool) → t < slots s d → r ≡ slot_empty s n d t → not r ≡ true → false ≡ holds_none s n d
  unfolding holds_none
  none_stopped r l q g = all_stopped (slot_empty s n d) (slots s d) t l (chain_off r (slot_empty s n d t) q g)

  pub none_done : t ≤ slots s d → slots s d ≤ t → all_below (slot_empty s n d) t ≡ true → true ≡ holds_none s n d
  unfolding holds_none
  none_done l m a = all_done (slot_empty s n d) (slots s d) t l m a

-- ---- unlink
-- of the entry in slot t, which names i
abbrev taking : List ℕ → ℕ → ℕ → ℕ → Result UnlinkPlan Refusal
taking s n t i = pick (eqb (kind_of s i) directory_kind && not (holds_none s n i)) (Err NotEmpty) (Ok (removal t i))

module _ (s : List ℕ) (n t i : ℕ) where
  taking_full : kind_of s i ≡ directory_kind → holds_none s n i ≡ false → Err NotEmpty ≡ taking s n t i
  taking_full g h = rw (eq-eqb (kind_of s i) directory_kind g, h)

  taking_empty : kind_of s i ≡ directory_kind → holds_none s n i ≡ true → Ok (removal t i) ≡ taking s n t i
  taking_empty g h = rw (eq-eqb (kind_of s i) directory_kind g, h)

  taking_file : (kind_of s i ≡ directory_kind → ⊥) → Ok (removal t i) ≡ taking s n t i
  taking_file g = rw (ne_eqb (kind_of s i) directory_kind g)

module _ (s : List ℕ) (n d : ℕ) (name : List ℕ) where
  pub unlink_illegal : legal_name name ≡ false → Err IllegalName ≡ unlink_plan s n d name
  unfolding unlink_plan
  unlink_illegal l = rw l

  module _ (l : legal_name name ≡ true) where
    pub unlink_wrong : is_directory s n d ≡ false → Err WrongInode ≡ unlink_plan s n d name
    unfolding unlink_plan
    unlink_wrong k = rw (l, k)

    module _ (k : is_directory s n d ≡ true) where
      pub unlink_absent : find_slot s n d name ≡ None → Err NameAbsent ≡ unlink_plan s n d name
      unfolding unlink_plan
      unlink_absent f = rw (l, k, f)

      module _ (t i : ℕ) (f : find_slot s n d name ≡ Some t) (e : i ≡ inode_at s n d t) where
        unlink_there : taking s n t i ≡ unlink_plan s n d name
        unfolding unlink_plan
        unlink_there = rw (l, k, f) (ap (taking s n t) e)

        pub unlink_full : kind_of s i ≡ directory_kind → holds_none s n i ≡ false → Err NotEmpty ≡ unlink_plan s n d name
        unlink_full g h = taking_full s n t i g h ∙ unlink_there

        pub unlink_file : (kind_of s i ≡ directory_kind → ⊥) → Ok (removal t i) ≡ unlink_plan s n d name
        unlink_file g = taking_file s n t i g ∙ unlink_there

        pub unlink_empty : kind_of s i ≡ directory_kind → holds_none s n i ≡ true → Ok (removal t i) ≡ unlink_plan s n d name
        unlink_empty g h = taking_empty s n t i g h ∙ unlink_there

-- ---- refusal 10
module _ (s : List ℕ) (n i e : ℕ) where
  pub below_file : (kind_of s i ≡ directory_kind → ⊥) → false ≡ is_below s n i e
  unfolding is_below
  below_file g = rw (ne_eqb (kind_of s i) directory_kind g)

  pub below_directory : (r : Bool) → kind_of s i ≡ directory_kind → r ≡ leads_b (parent_of s) i n e → r ≡ is_below s n i e
  unfolding is_below
  below_directory r g q = rw (eq-eqb (kind_of s i) directory_kind g) q

-- ---- the entry in slot t, which names i, is to have another name in its directory e
module _ (s : List ℕ) (n t i e : ℕ) (other : List ℕ) where
  pub within_new : find_slot s n e other ≡ None → Ok (Rename t i) ≡ rename_within s n t i e other
  within_new f = rw f

  pub within_own : (u : ℕ) → find_slot s n e other ≡ Some u → u ≡ t → Ok (Rename t i) ≡ rename_within s n t i e other
  within_own u f r = rw (f, eq-eqb u t r)

  pub within_taken : (u : ℕ) → find_slot s n e other ≡ Some u → (u ≡ t → ⊥) → Err NameTaken ≡ rename_within s n t i e other
  within_taken u f r = rw (f, ne_eqb u t r)

-- ---- it is to go to another directory e
module _ (s : List ℕ) (n b t i e : ℕ) (other : List ℕ) where
  pub move_taken : (u : ℕ) → find_slot s n e other ≡ Some u → Err NameTaken ≡ move_to s n b t i e other
  move_taken u f = rw f

  module _ (f : find_slot s n e other ≡ None) where
    pub move_itself : is_below s n i e ≡ true → Err IntoItself ≡ move_to s n b t i e other
    move_itself g = rw (f, g)

    module _ (g : is_below s n i e ≡ false) where
      pub move_room : (r : Room) → room_in s n b e ≡ Ok r → Ok (Move t i r) ≡ move_to s n b t i e other
      move_room r h = rw (f, g, h)

      pub move_roomless : (w : Refusal) → room_in s n b e ≡ Err w → Err w ≡ move_to s n b t i e other
      move_roomless w h = rw (f, g, h)

-- ---- rename
module _ (s : List ℕ) (n b d e : ℕ) (name other : List ℕ) where
  pub rename_illegal : legal_name name ≡ false → Err IllegalName ≡ rename_new_plan s n b d name e other
  unfolding rename_new_plan
  rename_illegal l = rw l

  module _ (l : legal_name name ≡ true) where
    pub rename_illegal_new : legal_name other ≡ false → Err IllegalName ≡ rename_new_plan s n b d name e other
    unfolding rename_new_plan
    rename_illegal_new m = rw (l, m)

    module _ (m : legal_name other ≡ true) where
      pub rename_wrong : is_directory s n d ≡ false → Err WrongInode ≡ rename_new_plan s n b d name e other
      unfolding rename_new_plan
      rename_wrong k = rw (l, m, k)

      module _ (k : is_directory s n d ≡ true) where
        pub rename_wrong_new : is_directory s n e ≡ false → Err WrongInode ≡ rename_new_plan s n b d name e other
        unfolding rename_new_plan
        rename_wrong_new j = rw (l, m, k, j)

        module _ (j : is_directory s n e ≡ true) where
          pub rename_absent : find_slot s n d name ≡ None → Err NameAbsent ≡ rename_new_plan s n b d name e other
          unfolding rename_new_plan
          rename_absent f = rw (l, m, k, j, f)

          module _ (t i : ℕ) (r : Result RenamePlan Refusal) (f : find_slot s n d name ≡ Some t) (q : i ≡ inode_at s n d t) where
            rename_there : r ≡ rename_to s n b d t i e other → r ≡ rename_new_plan s n b d name e other
            unfolding rename_new_plan
            rename_there h = rw (l, m, k, j, f) (h ∙ ap (λ (x : ℕ). rename_to s n b d t x e other) q)

            pub rename_here : d ≡ e → r ≡ rename_within s n t i e other → r ≡ rename_new_plan s n b d name e other
            unfolding rename_to
            rename_here g h = rename_there (rw (eq-eqb d e g) h)

            pub rename_away : (d ≡ e → ⊥) → r ≡ move_to s n b t i e other → r ≡ rename_new_plan s n b d name e other
            unfolding rename_to
            rename_away g h = rename_there (rw (ne_eqb d e g) h)

-- ---- rename onto a name that another entry has: i is renamed, h has the name
module _ (s : List ℕ) (n d i e h : ℕ) where
  pub below_within : d ≡ e → false ≡ not (eqb d e) && is_below s n i e
  below_within g = rw (eq-eqb d e g)

  pub below_away : (r : Bool) → (d ≡ e → ⊥) → r ≡ is_below s n i e → r ≡ not (eqb d e) && is_below s n i e
  below_away r g q = rw (ne_eqb d e g) q

  pub over_itself : not (eqb d e) && is_below s n i e ≡ true → Err IntoItself ≡ over_of s n d i e h
  unfolding over_of
  over_itself g = rw g

  module _ (g : not (eqb d e) && is_below s n i e ≡ false) where
    pub over_kinds : (kind_of s i ≡ kind_of s h → ⊥) → Err KindsDiffer ≡ over_of s n d i e h
    unfolding over_of
    over_kinds k = rw (g, ne_eqb (kind_of s i) (kind_of s h) k)

    module _ (k : kind_of s i ≡ kind_of s h) where
      pub over_same : i ≡ h → Ok (Same i) ≡ over_of s n d i e h
      unfolding over_of
      over_same q = rw (g, eq-eqb (kind_of s i) (kind_of s h) k, eq-eqb i h q)

      pub over_other : (i ≡ h → ⊥) → Ok (Over i h) ≡ over_of s n d i e h
      unfolding over_of
      over_other q = rw (g, eq-eqb (kind_of s i) (kind_of s h) k, ne_eqb i h q)

module _ (s : List ℕ) (n d e : ℕ) (name other : List ℕ) where
  pub over_unknown : (w : Refusal) → look_up_plan s n d name ≡ Err w → Err w ≡ over_plan s n d name e other
  unfolding over_plan
  over_unknown w f = rw f

  module _ (i : ℕ) (f : look_up_plan s n d name ≡ Ok i) where
    pub over_held : (w : Refusal) → unlink_plan s n e other ≡ Err w → Err w ≡ over_plan s n d name e other
    unfolding over_plan
    over_held w g = rw (f, g)

    pub over_onto : (u h : ℕ) (r : Result OverPlan Refusal) → unlink_plan s n e other ≡ Ok (removal u h) → r ≡ over_of s n d i e h → r ≡ over_plan s n d name e other
    unfolding over_plan
    over_onto u h r g q = rw (f, g) q
