-- The phone app's rename answers by its table: the lap recorder's, but where that has 7 the rows of a name that another entry has, on a sound store.
use Rattle.std.specs.Prelude.{None, Ok, Option, Some, Err, Result}
use mathlib.Core.Path.{◌≡◌, refl, sym, ap, ap₂, ◌∙◌}
use mathlib.Core.Bool.{Bool, true, false, not, ◌&&◌, ◌||◌}
use mathlib.Core.List.{List, [], ◌∷◌}
use Prim.Native.Nat.{ℕ}
use borrow.Author.Tests.{eqb-true, eqb-false, not-true, not-false}
use lib.Dec.{eqb}
use Rattle.bounded.specs.Search.{pick, on_found}
use Rattle.bounded.proofs.BoolLaws.{and_left, and_right}
use Rattle.layout.specs.Inode.{kind_of, directory_kind, is_directory}
use Rattle.names.specs.Name.{legal_name}
use Rattle.directory.specs.Slot.{find_slot, inode_at}
use Rattle.sound.specs.Sound.{inodes_in, blocks_in}
use Rattle.sound.specs.Counted.{SoundStore}
use Rattle.answers.specs.declared.Refusal.TheVariants.{NameTaken, NotEmpty, IntoItself, KindsDiffer, NoBlocks, NoSlot, Busy}
use Rattle.answers.specs.Told.{Told, told}
use Rattle.answers.specs.Order.{Row, row}
use Rattle.entries.specs.Room.{room_in, on_room}
use Rattle.entries.specs.Plan.{holds_none, is_below, look_up_plan, unlink_plan, rename_to, rename_new_plan, over_of, over_plan}
use Rattle.entries.proofs.TakePlanLaws.{over_itself, over_kinds, over_same, over_other, over_held, over_onto}
use Rattle.files.specs.Effect.{rename, changes, Planned, if_taken, watched, do_rename, do_over}
use Rattle.files.proofs.OverLaws.{replaced, over_does}
use Rattle.checkpoint.specs.Busy.{any_locked, unless_busy}
use Rattle.checkpoint.specs.Live.{World, leaves_in, live}
use Rattle.checkpoint.specs.Table.{found, or_zero, no_block, no_slot, slot_for, inode_for, rename_table}
use Rattle.checkpoint.proofs.ConditionLaws.{first_of, Gives, by_pick_if, by_pick, by_absent_if, by_room, by_busy, by_sound, give}
use Rattle.entries.specs.declared.RenamePlan.TheVariants.{Move, Rename}
use Rattle.entries.specs.declared.OverPlan.TheVariants.{Over}
use Rattle.answers.specs.declared.Refusal.{Refusal}
use Rattle.entries.specs.declared.RenamePlan.{RenamePlan}
use Rattle.entries.specs.declared.OverPlan.{OverPlan}

module _ (w : World) (e : ℕ) (name : List ℕ) (f : ℕ) (other : List ℕ) where
  abbrev s : List ℕ
  s = w.store

  abbrev n : ℕ
  n = inodes_in s

  abbrev b : ℕ
  b = blocks_in s

  -- the entry that is renamed
  abbrev t : ℕ
  t = slot_for s e name

  abbrev i : ℕ
  i = inode_for s e name

  -- what a plan for a name that another entry has answers
  abbrev onto : Result OverPlan Refusal → Told
  onto p = (leaves_in w (unless_busy w.desk (do_over s n b e name f other p))).answer

  module _ (k : SoundStore s n b) (legal : legal_name name && legal_name other ≡ true) (dirs : is_directory s n e && is_directory s n f ≡ true) (here : find_slot s n e name ≡ Some t) where
    -- it stands in slot u, for h
    module _ (u : ℕ) (there : find_slot s n f other ≡ Some u) where
      abbrev h : ℕ
      h = inode_at s n f u

      looked_up : look_up_plan s n e name ≡ Ok i
      unfolding look_up_plan
      looked_up = rw (and_left (legal_name name) (legal_name other) legal, and_left (is_directory s n e) (is_directory s n f) dirs, here) refl

      abbrev holds : Bool
      holds = eqb (kind_of s h) directory_kind && not (holds_none s n h)

      full : holds ≡ true → over_plan s n e name f other ≡ Err NotEmpty
      unfolding unlink_plan
      full q = sym (over_held s n e f name other i looked_up NotEmpty (rw (and_right (legal_name name) (legal_name other) legal, and_right (is_directory s n e) (is_directory s n f) dirs, there, q) refl))

      over : (p : Result OverPlan Refusal) → holds ≡ false → p ≡ over_of s n e i f h → over_plan s n e name f other ≡ p
      unfolding unlink_plan
      over p q z = sym (over_onto s n e f name other i looked_up u h p (rw (and_right (legal_name name) (legal_name other) legal, and_right (is_directory s n e) (is_directory s n f) dirs, there, q) refl) z)

      abbrev onto_rows : Bool → Bool → Bool → Bool → List Row
      onto_rows c8 c10 c18 same =
          row c8 NotEmpty
          ∷ row c10 IntoItself
          ∷ row c18 KindsDiffer
          ∷ row false NoBlocks
          ∷ row false NoSlot
          ∷ row (any_locked w.desk (pick (not same) (f ∷ h ∷ watched e f i) (watched e f i))) Busy
          ∷ []

      -- the holder is unlinked, and then it is renamed
      replaces : (q : over_plan s n e name f other ≡ Ok (Over i h)) → onto (over_plan s n e name f other) ≡ first_of (row (any_locked w.desk (f ∷ h ∷ watched e f i)) Busy ∷ []) (told (Ok 0))
      replaces q =
          let y = (replaced s n b e name f other i h k q).renames in
          ap (λ (p : Planned). (leaves_in w (unless_busy w.desk p)).answer) (over_does s n b e name f other i h k q)
          ∙ (by_busy (any_locked w.desk (f ∷ h ∷ y.effect.touches)) w _).first
          ∙ ap₂ (λ (is : List ℕ) (a : ℕ). first_of (row (any_locked w.desk (f ∷ h ∷ is)) Busy ∷ []) (told (Ok a))) y.touches y.answers

      by_onto : (c8 c10 c18 same : Bool) → holds ≡ c8 → not (eqb e f) && is_below s n i f ≡ c10 → not (eqb (kind_of s i) (kind_of s h)) ≡ c18 → eqb i h ≡ same
          → Gives (onto (over_plan s n e name f other)) (onto_rows c8 c10 c18 same) (told (Ok 0))
      by_onto true c10 c18 same p q r z = record { first = ap onto (full p) }
      by_onto false true c18 same p q r z = record { first = ap onto (over _ p (over_itself s n e i f h q)) }
      by_onto false false true same p q r z = record { first = ap onto (over _ p (over_kinds s n e i f h q (eqb-false (kind_of s i) (kind_of s h) (not-true (eqb (kind_of s i) (kind_of s h)) r)))) }
      by_onto false false false true p q r z =
          let a = eqb-true (kind_of s i) (kind_of s h) (not-false (eqb (kind_of s i) (kind_of s h)) r) in
          record { first = ap onto (over _ p (over_same s n e i f h q a (eqb-true i h z))) ∙ (by_busy (any_locked w.desk (watched e f i)) w (changes 0 s (watched e f i) [] [])).first }
      by_onto false false false false p q r z =
          let a = eqb-true (kind_of s i) (kind_of s h) (not-false (eqb (kind_of s i) (kind_of s h)) r) in
          record { first = replaces (over _ p (over_other s n e i f h q a (eqb-false i h z))) }

    -- ---- all
    abbrev answer : Result RenamePlan Refusal → Told
    answer p = (leaves_in w (unless_busy w.desk (if_taken (do_rename s n e f other p) (do_over s n b e name f other (over_plan s n e name f other))))).answer

    abbrev rows : Bool → Option ℕ → List Row
    rows same u =
        let taken = found u && (not same || not (eqb (or_zero u) t)) in
        let h = inode_at s n f (or_zero u) in
        let seen = pick same (e ∷ []) (e ∷ f ∷ i ∷ []) in
        row (taken && (eqb (kind_of s h) directory_kind && not (holds_none s n h))) NotEmpty
        ∷ row (not same && is_below s n i f) IntoItself
        ∷ row (taken && not (eqb (kind_of s i) (kind_of s h))) KindsDiffer
        ∷ row (not taken && (not same && no_block s f)) NoBlocks
        ∷ row (not taken && (not same && no_slot s f)) NoSlot
        ∷ row (any_locked w.desk (pick (taken && not (eqb i h)) (f ∷ h ∷ seen) seen)) Busy
        ∷ []

    -- another entry has the name
    held : (same : Bool) (u : ℕ) → eqb e f ≡ same → find_slot s n f other ≡ Some u → not same || not (eqb u t) ≡ true → Gives (onto (over_plan s n e name f other)) (rows same (Some u)) (told (Ok 0))
    held same u q there taken = rw (taken, ← q) (record { first = (by_onto u there _ _ _ _ refl refl refl refl).first })

    by_plan : Gives (answer (rename_to s n b e t i f other)) (rows (eqb e f) (find_slot s n f other)) (told (Ok 0))
    unfolding rename_to
    by_plan = go (eqb e f) refl (find_slot s n f other) refl
      where
        within : Gives (answer (Ok (Rename t i))) (row (any_locked w.desk (e ∷ [])) Busy ∷ []) (told (Ok 0))
        within = by_busy (any_locked w.desk (e ∷ [])) w _

        at : (u : ℕ) (own : Bool) → eqb e f ≡ true → find_slot s n f other ≡ Some u → eqb u t ≡ own → Gives (answer (pick own (Ok (Rename t i)) (Err NameTaken))) (rows true (Some u)) (told (Ok 0))
        at u true q there z = rw z (record { first = within.first })
        at u false q there z = held true u q there (rw z refl)

        go : (same : Bool) → eqb e f ≡ same → (u : Option ℕ) → find_slot s n f other ≡ u
            → Gives (answer (pick same
            (on_found u (λ j. pick (eqb j t) (Ok (Rename t i)) (Err NameTaken)) (Ok (Rename t i)))
            (on_found u (λ j. Err NameTaken) (pick (is_below s n i f) (Err IntoItself) (on_room (room_in s n b f) (λ r. Ok (Move t i r)) Err)))))
            (rows same u) (told (Ok 0))
        go true q (Some u) there = at u (eqb u t) q there refl
        go true q None there = record { first = within.first }
        go false q (Some u) there = held false u q there refl
        go false q None there = record {
          first = (by_pick answer (is_below s n i f) _ _ {e = IntoItself} refl (by_room answer s f _ _ refl refl (λ r. by_busy (any_locked w.desk (e ∷ f ∷ i ∷ [])) w _))).first;
        }

  pub rename_table_lem : (live (rename e name f other) w).answer ≡ first_of (rename_table w.store w.image w.desk e name f other) (told (Ok 0))
  unfolding rename_new_plan rename_table
  rename_table_lem =
      let h : Result RenamePlan Refusal → Told = λ p. (leaves_in w (unless_busy w.desk (if_taken (do_rename s n e f other p) (do_over s n b e name f other (over_plan s n e name f other))))).answer in
      give _ (rename_table w.store w.image w.desk e name f other) _
      (by_sound (rename e name f other) w refl
      (λ k.
      by_pick_if h (not (legal_name name && legal_name other)) _ _ refl (λ l.
      by_pick_if h (not (is_directory s n e && is_directory s n f)) _ _ refl (λ d.
      by_absent_if h (find_slot s n e name) _ _ refl (λ a. by_plan k (not-false (legal_name name && legal_name other) l) (not-false (is_directory s n e && is_directory s n f) d) a)))))
