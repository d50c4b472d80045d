-- What the plain store answers: 1 or 2, a plan's refusal, or that it is done; nothing of a desk or a copy.
use Rattle.std.specs.Prelude.{Err, Ok, Result}
use Prim.Native.Nat.{ℕ, ◌+◌, ◌-◌, ◌≤◌, max}
use mathlib.Core.Path.{◌≡◌, refl, sym, ap, ◌∙◌}
use mathlib.Core.Bool.{Bool, true, false, not, ◌&&◌, ◌||◌}
use mathlib.Core.List.{List}
use native.Mathlib.Omega.{arith}
use lib.Dec.{eqb, ltb}
use lib.ListN.{length}
use Rattle.bounded.specs.Search.{pick}
use Rattle.bounded.proofs.BoolLaws.{clash}
use Rattle.bounded.proofs.SearchLaws.{by_pick, by_found}
use Rattle.layout.specs.Sizes.{most_file_bytes, address_count}
use Rattle.layout.specs.Header.{header_of}
use Rattle.layout.specs.Inode.{kind_of, size_of, directory_kind, is_file, is_directory, free_inode}
use Rattle.blocks.specs.Block.{blocks_used}
use Rattle.blocks.specs.Free.{free_block}
use Rattle.names.specs.Name.{legal_name}
use Rattle.directory.specs.Slot.{find_slot, empty_slot, inode_at}
use Rattle.sound.specs.Sound.{inodes_in, blocks_in}
use Rattle.sound.specs.declared.Form.TheVariants.{Store}
use Rattle.sound.specs.Test.{framed_b, is_sound}
use Rattle.answers.specs.declared.Refusal.TheVariants.{BadBuffer, UnsoundStore, BadDesk, NameTaken, NoBlocks, NoSlot, Busy}
use Rattle.answers.specs.Refusal.{refusal_number}
use Rattle.answers.specs.Order.{order, rank_in, rank}
use Rattle.answers.specs.Told.{Answer, Told}
use Rattle.content.specs.Plan.{read_plan, write_plan, shorten_plan}
use Rattle.entries.specs.declared.Kind.{Kind}
use Rattle.entries.specs.declared.Room.{Room}
use Rattle.entries.specs.Room.{room_in, on_room, creation}
use Rattle.entries.specs.Plan.{holds_none, is_below, look_up_plan, create_plan, link_plan, unlink_plan, rename_to, rename_new_plan, on_number, on_unlink, over_of, over_plan}
use Rattle.files.specs.Effect.{Call, look_up, read, create, write, shorten, link, unlink, rename, rename_new, Planned, refused, does, on_planned, and_then, plan_then, if_taken, do_look_up, do_read, do_create, do_write, do_shorten, do_link, do_unlink, do_rename, do_rename_new, do_over, planned, plain_decision, given}
use Rattle.files.specs.Plain.{leaves, plain, PlainOutcome}
use Rattle.files.proofs.PlainLaws.{on_guard_lem}
use Rattle.answers.specs.declared.Refusal.{Refusal}
use Rattle.entries.specs.declared.CreatePlan.{CreatePlan}
use Rattle.entries.specs.declared.RenamePlan.TheVariants.{Move}
use Rattle.entries.specs.declared.OverPlan.TheVariants.{Over}
use Rattle.entries.specs.declared.UnlinkPlan.{UnlinkPlan}
use Rattle.entries.specs.declared.RenamePlan.{RenamePlan}
use Rattle.entries.specs.declared.OverPlan.{OverPlan}

-- ---- by cases
by_room : (P : Result Room Refusal → Type 0) (s : List ℕ) (n b d : ℕ) → ((r : Room) → P (Ok r)) → P (Err NoBlocks) → P (Err NoSlot) → P (room_in s n b d)
unfolding room_in
by_room P s n b d h p q =
    by_found P (empty_slot s n d) (λ t. h _)
    (by_pick P (ltb (blocks_used (size_of s d)) address_count) (by_found P (free_block s n b) (λ c. h _) p) q)

-- ---- the answers of plans: 0 for a plan that is done, or a refusal that is looked at after the guards' and before busy
abbrev ordinary : ℕ → Bool
ordinary k = eqb k 0 || (ltb (rank BadDesk) (rank_in order k) && ltb (rank_in order k) (rank Busy))

-- one of those numbers is not j, which is none
apart : (k j : ℕ) → ordinary k ≡ true → ordinary j ≡ false → k ≡ j → ⊥
apart k j p q e = clash (ordinary k) p (ap ordinary e ∙ q)

abbrev number_in : Planned → ℕ
number_in p = on_planned p (λ x. 0) refusal_number

abbrev Ordinary : Planned → Type 0
Ordinary p = ordinary (number_in p) ≡ true

look_up_ordinary : (s : List ℕ) (n d : ℕ) (name : List ℕ) → Ordinary (do_look_up s (look_up_plan s n d name))
unfolding look_up_plan
look_up_ordinary s n d name =
    let P : Answer → Type 0 = λ x. Ordinary (do_look_up s x) in
    by_pick P (not (legal_name name)) refl
    (by_pick P (not (is_directory s n d)) refl
    (by_found P (find_slot s n d name) (λ t. refl) refl))

read_ordinary : (s : List ℕ) (n i o : ℕ) (out : List ℕ) (k : ℕ) → Ordinary (do_read s n i o out (read_plan s n i o k))
unfolding read_plan
read_ordinary s n i o out k =
    let P : Answer → Type 0 = λ x. Ordinary (do_read s n i o out x) in
    by_pick P (not (is_file s n i)) refl (by_pick P (ltb (size_of s i) o) refl refl)

create_ordinary : (s : List ℕ) (n b d : ℕ) (name : List ℕ) (k : Kind) → Ordinary (do_create s n d name k (create_plan s n b d name))
unfolding create_plan
create_ordinary s n b d name k =
    let P : Result CreatePlan Refusal → Type 0 = λ x. Ordinary (do_create s n d name k x) in
    by_pick P (not (legal_name name)) refl
    (by_pick P (not (is_directory s n d)) refl
    (by_found P (find_slot s n d name) (λ t. refl)
    (by_found P (free_inode s n) (λ i. by_room (λ x. P (on_room x (λ r. Ok (creation i r)) Err)) s n b d (λ r. refl) refl refl)
    refl)))

write_ordinary : (s : List ℕ) (n b i o : ℕ) (xs : List ℕ) (k : ℕ) → Ordinary (do_write s n b i o xs (write_plan s n i o k))
unfolding write_plan
write_ordinary s n b i o xs k =
    let P : Answer → Type 0 = λ x. Ordinary (do_write s n b i o xs x) in
    by_pick P (not (is_file s n i)) refl
    (by_pick P (ltb (size_of s i) o || ltb most_file_bytes (o + k)) refl
    (by_pick P (ltb (header_of s).free_blocks (blocks_used (max (size_of s i) (o + k)) - blocks_used (size_of s i))) refl
    refl))

shorten_ordinary : (s : List ℕ) (n i z : ℕ) → Ordinary (do_shorten s n i (shorten_plan s n i z))
unfolding shorten_plan
shorten_ordinary s n i z =
    let P : Answer → Type 0 = λ x. Ordinary (do_shorten s n i x) in
    by_pick P (not (is_file s n i)) refl (by_pick P (ltb (size_of s i) z) refl refl)

link_ordinary : (s : List ℕ) (n b d : ℕ) (name : List ℕ) (i : ℕ) → Ordinary (do_link s n d name i (link_plan s n b d name i))
unfolding link_plan
link_ordinary s n b d name i =
    let P : Result Room Refusal → Type 0 = λ x. Ordinary (do_link s n d name i x) in
    by_pick P (not (legal_name name)) refl
    (by_pick P (not (is_directory s n d && is_file s n i)) refl
    (by_found P (find_slot s n d name) (λ t. refl)
    (by_room P s n b d (λ r. refl) refl refl)))

unlink_ordinary : (s : List ℕ) (n d : ℕ) (name : List ℕ) → Ordinary (do_unlink s n d (unlink_plan s n d name))
unfolding unlink_plan
unlink_ordinary s n d name =
    let P : Result UnlinkPlan Refusal → Type 0 = λ x. Ordinary (do_unlink s n d x) in
    by_pick P (not (legal_name name)) refl
    (by_pick P (not (is_directory s n d)) refl
    (by_found P (find_slot s n d name)
    (λ t. by_pick P (eqb (kind_of s (inode_at s n d t)) directory_kind && not (holds_none s n (inode_at s n d t))) refl refl)
    refl))

rename_new_ordinary : (s : List ℕ) (n b d : ℕ) (name : List ℕ) (e : ℕ) (other : List ℕ) → Ordinary (do_rename_new s n b d name e other)
unfolding rename_new_plan rename_to
rename_new_ordinary s n b d name e other =
    let P : Result RenamePlan Refusal → Type 0 = λ x. Ordinary (do_rename s n d e other x) in
    by_pick P (not (legal_name name && legal_name other)) refl
    (by_pick P (not (is_directory s n d && is_directory s n e)) refl
    (by_found P (find_slot s n d name)
    (λ t. by_pick P (eqb d e)
    (by_found P (find_slot s n e other) (λ u. by_pick P (eqb u t) refl refl) refl)
    (by_found P (find_slot s n e other) (λ u. refl)
    (by_pick P (is_below s n (inode_at s n d t) e) refl
    (by_room (λ x. P (on_room x (λ r. Ok (Move t (inode_at s n d t) r)) Err)) s n b e (λ r. refl) refl refl))))
    refl))

-- of two that follow each other
then_ordinary : (p : Planned) (f : List ℕ → Planned) → Ordinary p → ((t : List ℕ) → Ordinary (f t)) → Ordinary (plan_then p f)
then_ordinary (refused e) f a h = a
then_ordinary (does x) f a h = go (f x.store) (h x.store)
  where
    go : (q : Planned) → Ordinary q → Ordinary (on_planned q (λ y. does (and_then x y)) refused)
    go (does y) k = refl
    go (refused e) k = k

over_ordinary : (s : List ℕ) (n b d : ℕ) (name : List ℕ) (e : ℕ) (other : List ℕ) → Ordinary (do_over s n b d name e other (over_plan s n d name e other))
unfolding over_plan over_of
over_ordinary s n b d name e other = go (look_up_plan s n d name) (look_up_ordinary s n d name) (unlink_plan s n e other) (unlink_ordinary s n e other)
  where
    P : Result OverPlan Refusal → Type 0
    P x = Ordinary (do_over s n b d name e other x)

    both : (i h : ℕ) → P (Ok (Over i h))
    both i h = then_ordinary (do_unlink s n e (unlink_plan s n e other)) (λ t. do_rename_new t n b d name e other) (unlink_ordinary s n e other) (λ t. rename_new_ordinary t n b d name e other)

    go : (p : Answer) → Ordinary (do_look_up s p) → (u : Result UnlinkPlan Refusal) → Ordinary (do_unlink s n e u) → P (on_number p (λ i. on_unlink u (λ t h. over_of s n d i e h) Err) Err)
    go (Err f) a u c = a
    go (Ok i) a (Err f) c = c
    go (Ok i) a (Ok x) c =
        by_pick P (not (eqb d e) && is_below s n i e) refl
        (by_pick P (not (eqb (kind_of s i) (kind_of s x.inode))) refl
        (by_pick P (eqb i x.inode) refl (both i x.inode)))

rename_ordinary : (s : List ℕ) (n b d : ℕ) (name : List ℕ) (e : ℕ) (other : List ℕ) → Ordinary (planned (rename d name e other) s n b)
rename_ordinary s n b d name e other = go (do_rename_new s n b d name e other) (rename_new_ordinary s n b d name e other)
  where
    go : (p : Planned) → Ordinary p → Ordinary (if_taken p (do_over s n b d name e other (over_plan s n d name e other)))
    go (does x) a = a
    go (refused f) a = by_pick Ordinary (eqb (refusal_number f) (refusal_number NameTaken)) (over_ordinary s n b d name e other) a

ordinary_planned : (c : Call) (s : List ℕ) (n b : ℕ) → Ordinary (planned c s n b)
ordinary_planned (look_up d name) s n b = look_up_ordinary s n d name
ordinary_planned (read i o out) s n b = read_ordinary s n i o out (length out)
ordinary_planned (create d name k) s n b = create_ordinary s n b d name k
ordinary_planned (write i o xs) s n b = write_ordinary s n b i o xs (length xs)
ordinary_planned (shorten i z) s n b = shorten_ordinary s n i z
ordinary_planned (link d name i) s n b = link_ordinary s n b d name i
ordinary_planned (unlink d name) s n b = unlink_ordinary s n d name
ordinary_planned (rename d name e other) s n b = rename_ordinary s n b d name e other
ordinary_planned (rename_new d name e other) s n b = rename_new_ordinary s n b d name e other

-- ---- the plain store's answers
-- no answer of a desk or a copy
pub record Deskless (a : Told) : Type 0 where
  pub third : a.number ≡ 3 → ⊥
  pub fourteenth : a.number ≡ 14 → ⊥
  pub fifteenth : a.number ≡ 15 → ⊥
  pub sixteenth : a.number ≡ 16 → ⊥

-- the plain store is framed and sound
pub record StoreFits (s : List ℕ) : Type 0 where
  pub framed : framed_b Store s ≡ true
  pub sound : is_sound Store s ≡ true

-- what a plain call answers
pub record Plainly (s : List ℕ) (o : PlainOutcome) : Type 0 where
  pub never : Deskless o.answer
  pub first : StoreFits s → o.answer.number ≡ 1 → ⊥
  pub second : StoreFits s → o.answer.number ≡ 2 → ⊥

low : (a : Told) → a.number ≤ 2 → Deskless a
low a h = record { third = λ e. omega arith; fourteenth = λ e. omega arith; fifteenth = λ e. omega arith; sixteenth = λ e. omega arith }

planned_plainly : (s out : List ℕ) (p : Planned) → Ordinary p → Plainly s (leaves s out p)
planned_plainly s out (does x) h = record { never = low _ (omega arith); first = λ f e. omega arith; second = λ f e. omega arith }
planned_plainly s out (refused r) h =
    let k = refusal_number r in
    record {
      never = record { third = apart k 3 h refl; fourteenth = apart k 14 h refl; fifteenth = apart k 15 h refl; sixteenth = apart k 16 h refl };
      first = λ f. apart k 1 h refl;
      second = λ f. apart k 2 h refl;
    }

pub plainly : (c : Call) (s : List ℕ) → Plainly s (plain c s)
unfolding plain plain_decision
plainly c s = rw (on_guard_lem s (planned c s) refused) (go (framed_b Store s) (is_sound Store s) refl refl)
  where
    go : (a b : Bool) → framed_b Store s ≡ a → is_sound Store s ≡ b
        → Plainly s (leaves s (given c) (pick (not a) (refused BadBuffer) (pick (not b) (refused UnsoundStore) (planned c s (inodes_in s) (blocks_in s)))))
    go false b p q = record {
      never = low _ (omega arith);
      first = λ f e. clash false (sym p ∙ f.framed) refl;
      second = λ f e. omega arith;
    }
    go true false p q = record {
      never = low _ (omega arith);
      first = λ f e. omega arith;
      second = λ f e. clash false (sym q ∙ f.sound) refl;
    }
    go true true p q = planned_plainly s (given c) (planned c s (inodes_in s) (blocks_in s)) (ordinary_planned c s (inodes_in s) (blocks_in s))

-- the plain store answers neither 3 nor 14 to 16
pub plain_never : (c : Call) (s : List ℕ) → Deskless (plain c s).answer
plain_never c s = (plainly c s).never
