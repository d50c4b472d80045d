-- "looked at lowest first, when and only when the condition holds for that call": each call's answer is the first condition of its table that holds. s is the store, m the image, d the desk.
use Rattle.std.specs.Prelude.{Err, None, Ok, Option, Result, Some}
use mathlib.Core.Path.{◌≡◌, refl}
use mathlib.Core.Bool.{Bool, true, false, not, ◌&&◌, ◌||◌}
use mathlib.Core.List.{List, [], ◌∷◌}
use Prim.Native.Nat.{ℕ, ◌+◌, ◌-◌, min, max}
use lib.Dec.{eqb, ltb}
use lib.ListN.{length}
use Rattle.desk.specs.Next.{locks_any}
use Rattle.bounded.specs.Search.{pick, on_found}
use Rattle.layout.specs.Sizes.{most_file_bytes}
use Rattle.layout.specs.Header.{header_of}
use Rattle.layout.specs.Inode.{kind_of, size_of, directory_kind, is_file, is_directory, free_inode}
use Rattle.blocks.specs.Block.{blocks_used}
use Rattle.names.specs.Name.{legal_name}
use Rattle.directory.specs.Slot.{find_slot}
use Rattle.sound.specs.Sound.{inodes_in, blocks_in}
use Rattle.answers.specs.declared.Refusal.TheVariants.{NameTaken, IntoItself, NoBlocks, NoSlot, Busy}
use Rattle.answers.specs.Told.{Answer, Told, told}
use Rattle.answers.specs.Order.{Row, row}
use Rattle.content.specs.Plan.{read_plan, write_plan, shorten_plan}
use Rattle.entries.specs.declared.Kind.{Kind}
use Rattle.entries.specs.Room.{room_in, on_room}
use Rattle.entries.specs.Plan.{holds_none, is_below, look_up_plan, create_plan, link_plan, unlink_plan, rename_to, rename_new_plan}
use Rattle.files.specs.Guard.{guard_of, on_guard}
use Rattle.files.specs.Effect.{look_up, read, create, write, shorten, link, unlink, rename_new, refused, do_look_up, do_read, do_create, do_write, do_shorten, do_link, do_unlink, do_rename, planned, plain_decision}
use Rattle.files.specs.Plain.{leaves, plain, PlainOutcome}
use Rattle.checkpoint.specs.Busy.{any_locked, unless_busy}
use Rattle.checkpoint.specs.Notes.{cut_entries, clear_marks, set_marks}
use Rattle.checkpoint.specs.Live.{World, Outcome, tells, decision, leaves_in, live}
use Rattle.checkpoint.specs.Table.{found, or_zero, no_block, no_slot, slot_for, inode_for, look_up_table, read_table, create_table, write_table, shorten_table, link_table, unlink_table, rename_new_table}
use Rattle.checkpoint.proofs.ConditionLaws.{first_of, Gives, by_pick, by_found, by_absent, by_room, by_own_room, by_busy, by_three, by_store, by_none, give}
use Rattle.answers.specs.declared.Refusal.{Refusal}
use Rattle.entries.specs.declared.Room.{Room}
use Rattle.layout.specs.declared.header.Counts.{Counts}
use Rattle.entries.specs.declared.CreatePlan.{CreatePlan}
use Rattle.entries.specs.declared.RenamePlan.TheVariants.{Move, Rename}
use Rattle.entries.specs.declared.UnlinkPlan.{UnlinkPlan}
use Rattle.entries.specs.declared.RenamePlan.{RenamePlan}

-- ---- the calls on the store alone
module _ (s : List ℕ) where
  pub look_up_table_lem : (e : ℕ) (name : List ℕ) → (plain (look_up e name) s).answer ≡ first_of (look_up_table s e name) (told (Ok (inode_for s e name)))
  unfolding look_up_plan look_up_table
  look_up_table_lem e name =
      let h : Answer → Told = λ p. (leaves s [] (do_look_up s p)).answer in
      give _ (look_up_table s e name) _
      (by_store (look_up e name) s
      (by_pick h (not (legal_name name)) _ _ refl
      (by_pick h (not (is_directory s (inodes_in s) e)) _ _ refl
      (by_absent h (find_slot s (inodes_in s) e name) _ _ refl by_none))))

  pub read_table_lem : (i o : ℕ) (out : List ℕ) → (plain (read i o out) s).answer ≡ first_of (read_table s i o) (told (Ok (min (length out) (size_of s i - o))))
  unfolding read_plan read_table
  read_table_lem i o out =
      let h : Answer → Told = λ p. (leaves s out (do_read s (inodes_in s) i o out p)).answer in
      give _ (read_table s i o) _
      (by_store (read i o out) s
      (by_pick h (not (is_file s (inodes_in s) i)) _ _ refl
      (by_pick h (ltb (size_of s i) o) _ _ refl by_none)))

-- "Look up and read take the store alone": their answer and store are the plain store's, and image and desk stay
module _ (w : World) where
  abbrev alone : PlainOutcome → Outcome
  alone o = tells o.answer o.store w.image w.desk

  pub look_up_alone : (e : ℕ) (name : List ℕ) → live (look_up e name) w ≡ alone (plain (look_up e name) w.store)
  unfolding live decision plain plain_decision locks_any cut_entries clear_marks set_marks
  look_up_alone e name = go (guard_of w.store)
    where
      plan : (p : Answer) → leaves_in w (unless_busy w.desk (do_look_up w.store p)) ≡ alone (leaves w.store [] (do_look_up w.store p))
      plan (Ok i) = refl
      plan (Err f) = refl

      go : (g : Result Counts Refusal) → leaves_in w (on_guard g (λ n b. unless_busy w.desk (planned (look_up e name) w.store n b)) refused) ≡ alone (leaves w.store [] (on_guard g (planned (look_up e name) w.store) refused))
      go (Ok c) = plan (look_up_plan w.store c.inodes e name)
      go (Err f) = refl

  pub read_alone : (i o : ℕ) (out : List ℕ) → live (read i o out) w ≡ alone (plain (read i o out) w.store)
  unfolding live decision plain plain_decision locks_any cut_entries clear_marks set_marks
  read_alone i o out = go (guard_of w.store)
    where
      plan : (n : ℕ) (p : Answer) → leaves_in w (unless_busy w.desk (do_read w.store n i o out p)) ≡ alone (leaves w.store out (do_read w.store n i o out p))
      plan n (Ok k) = refl
      plan n (Err f) = refl

      go : (g : Result Counts Refusal) → leaves_in w (on_guard g (λ n b. unless_busy w.desk (planned (read i o out) w.store n b)) refused) ≡ alone (leaves w.store out (on_guard g (planned (read i o out) w.store) refused))
      go (Ok c) = plan c.inodes (read_plan w.store c.inodes i o (length out))
      go (Err f) = refl

-- the lap recorder's rename of the entry in slot t of e, which names i, to another name in f: 7, 10, 12, 13, 14
abbrev rename_answer : World → ℕ → ℕ → List ℕ → Result RenamePlan Refusal → Told
rename_answer w e f other p = (leaves_in w (unless_busy w.desk (do_rename w.store (inodes_in w.store) e f other p))).answer

module _ (w : World) (e f : ℕ) (other : List ℕ) (t i : ℕ) where
  -- to a name that no other entry has
  abbrev free_rows : Bool → List Row
  free_rows same =
      row (not same && is_below w.store (inodes_in w.store) i f) IntoItself
      ∷ row (not same && no_block w.store f) NoBlocks
      ∷ row (not same && no_slot w.store f) NoSlot
      ∷ row (any_locked w.desk (pick same (e ∷ []) (e ∷ f ∷ i ∷ []))) Busy
      ∷ []

  by_within : Gives (rename_answer w e f other (Ok (Rename t i))) (free_rows true) (told (Ok 0))
  by_within = record { first = (by_busy (any_locked w.desk (e ∷ [])) w _).first }

  by_away : Gives (rename_answer w e f other (pick (is_below w.store (inodes_in w.store) i f) (Err IntoItself)
      (on_room (room_in w.store (inodes_in w.store) (blocks_in w.store) f) (λ r. Ok (Move t i r)) Err))) (free_rows false) (told (Ok 0))
  by_away =
      by_pick (rename_answer w e f other) (is_below w.store (inodes_in w.store) i f) _ _ {e = IntoItself} refl
      (by_room (rename_answer w e f other) w.store f _ _ refl refl (λ r. by_busy (any_locked w.desk (e ∷ f ∷ i ∷ [])) w _))

  by_rename : Gives (rename_answer w e f other (rename_to w.store (inodes_in w.store) (blocks_in w.store) e t i f other))
      (row (found (find_slot w.store (inodes_in w.store) f other) && (not (eqb e f) || not (eqb (or_zero (find_slot w.store (inodes_in w.store) f other)) t))) NameTaken ∷ free_rows (eqb e f)) (told (Ok 0))
  unfolding rename_to
  by_rename = go (eqb e f) (find_slot w.store (inodes_in w.store) f other)
    where
      at : (b : Bool) → Gives (rename_answer w e f other (pick b (Ok (Rename t i)) (Err NameTaken))) (row (not b) NameTaken ∷ free_rows true) (told (Ok 0))
      at true = record { first = by_within.first }
      at false = record { first = refl }

      go : (same : Bool) (u : Option ℕ)
          → Gives (rename_answer w e f other (pick same
          (on_found u (λ j. pick (eqb j t) (Ok (Rename t i)) (Err NameTaken)) (Ok (Rename t i)))
          (on_found u (λ j. Err NameTaken)
          (pick (is_below w.store (inodes_in w.store) i f) (Err IntoItself) (on_room (room_in w.store (inodes_in w.store) (blocks_in w.store) f) (λ r. Ok (Move t i r)) Err)))))
          (row (found u && (not same || not (eqb (or_zero u) t))) NameTaken ∷ free_rows same) (told (Ok 0))
      go true (Some u) = record { first = (at (eqb u t)).first }
      go true None = record { first = by_within.first }
      go false (Some u) = record { first = refl }
      go false None = record { first = by_away.first }

-- ---- the calls on all three buffers
module _ (w : World) where
  pub create_table_lem : (e : ℕ) (name : List ℕ) (k : Kind) → (live (create e name k) w).answer ≡ first_of (create_table w.store w.image w.desk e name) (told (Ok (or_zero (free_inode w.store (inodes_in w.store)))))
  unfolding create_plan create_table
  create_table_lem e name k =
      let h : Result CreatePlan Refusal → Told = λ p. (leaves_in w (unless_busy w.desk (do_create w.store (inodes_in w.store) e name k p))).answer in
      give _ (create_table w.store w.image w.desk e name) _
      (by_three (create e name k) w refl
      (by_pick h (not (legal_name name)) _ _ refl
      (by_pick h (not (is_directory w.store (inodes_in w.store) e)) _ _ refl
      (by_found h (find_slot w.store (inodes_in w.store) e name) _ _ (λ t. refl)
      (by_absent h (free_inode w.store (inodes_in w.store)) _ _ refl
      (by_room h w.store e _ _ refl refl (λ r. by_busy (any_locked w.desk (e ∷ [])) w _)))))))

  pub write_table_lem : (i o : ℕ) (xs : List ℕ) → (live (write i o xs) w).answer ≡ first_of (write_table w.store w.image w.desk i o xs) (told (Ok (max (size_of w.store i) (o + length xs))))
  unfolding write_plan write_table
  write_table_lem i o xs =
      let h : Answer → Told = λ p. (leaves_in w (unless_busy w.desk (do_write w.store (inodes_in w.store) (blocks_in w.store) i o xs p))).answer in
      give _ (write_table w.store w.image w.desk i o xs) _
      (by_three (write i o xs) w refl
      (by_pick h (not (is_file w.store (inodes_in w.store) i)) _ _ refl
      (by_pick h (ltb (size_of w.store i) o || ltb most_file_bytes (o + length xs)) _ _ refl
      (by_pick h (ltb (header_of w.store).free_blocks (blocks_used (max (size_of w.store i) (o + length xs)) - blocks_used (size_of w.store i))) _ _ refl
      (by_busy (any_locked w.desk (i ∷ [])) w _)))))

  pub shorten_table_lem : (i z : ℕ) → (live (shorten i z) w).answer ≡ first_of (shorten_table w.store w.image w.desk i z) (told (Ok z))
  unfolding shorten_plan shorten_table
  shorten_table_lem i z =
      let h : Answer → Told = λ p. (leaves_in w (unless_busy w.desk (do_shorten w.store (inodes_in w.store) i p))).answer in
      give _ (shorten_table w.store w.image w.desk i z) _
      (by_three (shorten i z) w refl
      (by_pick h (not (is_file w.store (inodes_in w.store) i)) _ _ refl
      (by_pick h (ltb (size_of w.store i) z) _ _ refl
      (by_busy (any_locked w.desk (i ∷ [])) w _))))

  pub link_table_lem : (e : ℕ) (name : List ℕ) (i : ℕ) → (live (link e name i) w).answer ≡ first_of (link_table w.store w.image w.desk e name i) (told (Ok 0))
  unfolding link_plan link_table
  link_table_lem e name i =
      let h : Result Room Refusal → Told = λ p. (leaves_in w (unless_busy w.desk (do_link w.store (inodes_in w.store) e name i p))).answer in
      give _ (link_table w.store w.image w.desk e name i) _
      (by_three (link e name i) w refl
      (by_pick h (not (legal_name name)) _ _ refl
      (by_pick h (not (is_directory w.store (inodes_in w.store) e && is_file w.store (inodes_in w.store) i)) _ _ refl
      (by_found h (find_slot w.store (inodes_in w.store) e name) _ _ (λ t. refl)
      (by_own_room h w.store e refl refl (λ r. by_busy (any_locked w.desk (e ∷ i ∷ [])) w _))))))

  pub unlink_table_lem : (e : ℕ) (name : List ℕ) → (live (unlink e name) w).answer ≡ first_of (unlink_table w.store w.image w.desk e name) (told (Ok 0))
  unfolding unlink_plan unlink_table
  unlink_table_lem e name =
      let h : Result UnlinkPlan Refusal → Told = λ p. (leaves_in w (unless_busy w.desk (do_unlink w.store (inodes_in w.store) e p))).answer in
      let i : ℕ = inode_for w.store e name in
      give _ (unlink_table w.store w.image w.desk e name) _
      (by_three (unlink e name) w refl
      (by_pick h (not (legal_name name)) _ _ refl
      (by_pick h (not (is_directory w.store (inodes_in w.store) e)) _ _ refl
      (by_absent h (find_slot w.store (inodes_in w.store) e name) _ _ refl
      (by_pick h (eqb (kind_of w.store i) directory_kind && not (holds_none w.store (inodes_in w.store) i)) _ _ refl
      (by_busy (any_locked w.desk (e ∷ i ∷ [])) w _))))))

  pub rename_new_table_lem : (e : ℕ) (name : List ℕ) (f : ℕ) (other : List ℕ) → (live (rename_new e name f other) w).answer ≡ first_of (rename_new_table w.store w.image w.desk e name f other) (told (Ok 0))
  unfolding rename_new_plan rename_new_table
  rename_new_table_lem e name f other =
      let h : Result RenamePlan Refusal → Told = rename_answer w e f other in
      give _ (rename_new_table w.store w.image w.desk e name f other) _
      (by_three (rename_new e name f other) w refl
      (by_pick h (not (legal_name name && legal_name other)) _ _ refl
      (by_pick h (not (is_directory w.store (inodes_in w.store) e && is_directory w.store (inodes_in w.store) f)) _ _ refl
      (by_absent h (find_slot w.store (inodes_in w.store) e name) _ _ refl
      (by_rename w e f other (slot_for w.store e name) (inode_for w.store e name))))))
