-- Whom 14 meets: a call that touches the locked inode is one of those that the paper lists. s is the store.
use Rattle.std.specs.Prelude.{Err, Ok, Result}
use Prim.Native.Nat.{ℕ, ◌≤◌}
use mathlib.Core.Path.{◌≡◌, refl, sym, ap, ◌∙◌, subst}
use mathlib.Core.Logic.{inl, inr}
use mathlib.Core.Bool.{Bool, true, false}
use mathlib.Core.List.{List, [], ◌∷◌}
use native.Mathlib.Omega.{arith}
use borrow.Author.Tests.{eqb-true, eqb-false}
use lib.Dec.{eqb}
use lib.ListN.{length}
use Rattle.bounded.specs.Search.{pick}
use Rattle.bounded.proofs.SearchLaws.{by_pick}
use Rattle.bounded.proofs.BoolLaws.{clash, and_left, and_right, or_cases}
use Rattle.bounded.proofs.EachLaws.{Some}
use Rattle.desk.specs.Desk.{desk_of}
use Rattle.desk.specs.Next.{locks, locks_any}
use Rattle.layout.specs.Inode.{file_kind, directory_kind, is_kind, is_directory}
use Rattle.sound.specs.Sound.{Sound, inodes_in, blocks_in}
use Rattle.sound.specs.declared.Form.TheVariants.{Store}
use Rattle.answers.specs.declared.Refusal.{Refusal}
use Rattle.answers.specs.declared.Refusal.TheVariants.{NameTaken}
use Rattle.answers.specs.Refusal.{refusal_number}
use Rattle.layout.proofs.KindLaws.{kind_some}
use Rattle.preservation.proofs.StoreLaws.{sound_store}
use Rattle.preservation.proofs.SlotPlaceLaws.{found_here}
use Rattle.content.specs.Plan.{read_plan, write_plan, shorten_plan}
use Rattle.entries.specs.declared.Kind.{Kind}
use Rattle.entries.specs.Plan.{look_up_plan, create_plan, link_plan, unlink_plan, rename_new_plan, over_plan}
use Rattle.content.proofs.PlanFacts.{shortens, writes}
use Rattle.entries.proofs.PlanFacts.{FoundIn, looks_up, Onto, creates, links, unlinks, renames, moves, replaces, both_names}
use Rattle.files.specs.Effect.{Call, look_up, read, create, write, shorten, link, unlink, rename, rename_new, Effect, Planned, refused, does, if_taken, watched, planned, do_look_up, do_read, do_create, do_write, do_shorten, do_link, do_unlink, do_rename, do_rename_new, do_over}
use Rattle.files.proofs.Lawful.{Each}
use Rattle.files.proofs.OverLaws.{replaced, over_does}
use Rattle.checkpoint.specs.Fit.{is_running}
use Rattle.checkpoint.specs.Busy.{any_locked}
use Rattle.checkpoint.specs.Progress.{Renaming, app, recorder, Hinders}
use Rattle.checkpoint.specs.Progress as paper
use Rattle.answers.specs.Told.{Answer}
use Rattle.entries.specs.declared.Room.{Room}
use Rattle.entries.specs.declared.CreatePlan.{CreatePlan}
use Rattle.entries.specs.declared.RenamePlan.{RenamePlan}
use Rattle.entries.specs.declared.RenamePlan.TheVariants.{Move, Rename}
use Rattle.entries.specs.declared.OverPlan.TheVariants.{Over, Same}
use Rattle.entries.specs.declared.UnlinkPlan.{UnlinkPlan}
use Rattle.entries.specs.declared.OverPlan.{OverPlan}

-- 14 by one of the inodes
pub locked_one : (d is : List ℕ) → any_locked d is ≡ true → (is_running d ≡ true) × Some (λ i. (desk_of d).locked ≡ i) is
unfolding locks_any is_running
locked_one d [] e = absurd (clash false e refl)
locked_one d (i ∷ is) e = elim (or_cases (locks (desk_of d) i) (any_locked d is) e) [
  | inl h ↦ (and_left (is_running d) _ h, inl (eqb-true (desk_of d).locked i (and_right (is_running d) _ h)))
  | inr h ↦ let k = locked_one d is h in (k.0, inr k.1)
]

module _ (s : List ℕ) (h : Sound Store s) where
  abbrev n : ℕ
  n = inodes_in s

  abbrev b : ℕ
  b = blocks_in s

  -- a call whose effect touches l hinders the copy of l, an inode
  abbrev Touches : Call → Effect → Type 0
  Touches c x = (l : ℕ) → Some (λ i. l ≡ i) x.touches → (1 ≤ l) × Hinders s l c

  one_of : (k i l : ℕ) → is_kind s n k i ≡ true → l ≡ i → 1 ≤ l
  one_of k i l t e = let m = kind_some s n k i t in omega arith

  found_one : (d t i l : ℕ) (name : List ℕ) → FoundIn s n d name t i → l ≡ i → 1 ≤ l
  found_one d t i l name f e = let m = (found_here (sound_store h refl) d t name f.directory f.legal f.found).low in let q = f.inode in omega arith

  look : (d : ℕ) (name : List ℕ) (p : Answer) → Each (Touches (look_up d name)) (do_look_up s p)
  look d name (Ok i) = λ l z. absurd z
  look d name (Err e) = tt

  reads : (i o : ℕ) (out : List ℕ) (p : Answer) → Each (Touches (read i o out)) (do_read s n i o out p)
  reads i o out (Ok k) = λ l z. absurd z
  reads i o out (Err e) = tt

  makes : (d : ℕ) (name : List ℕ) (k : Kind) (p : Result CreatePlan Refusal) → create_plan s n b d name ≡ p → Each (Touches (create d name k)) (do_create s n d name k p)
  makes d name k (Err e) q = tt
  makes d name k (Ok c) q = go
    where
      go : (l : ℕ) → Some (λ j. l ≡ j) (d ∷ []) → (1 ≤ l) × Hinders s l (create d name k)
      go l (inl e) = (one_of directory_kind d l (creates s n b d name c.inode c.room q).new.directory e, subst (λ (y : ℕ). Hinders s l (create y name k)) e paper.creates)
      go l (inr h) = elim h [ ]

  puts : (i o : ℕ) (xs : List ℕ) (p : Answer) → write_plan s n i o (length xs) ≡ p → Each (Touches (write i o xs)) (do_write s n b i o xs p)
  puts i o xs (Err e) q = tt
  puts i o xs (Ok z) q = go
    where
      go : (l : ℕ) → Some (λ j. l ≡ j) (i ∷ []) → (1 ≤ l) × Hinders s l (write i o xs)
      go l (inl e) = (one_of file_kind i l (writes s n i o (length xs) z q).file e, subst (λ (y : ℕ). Hinders s l (write y o xs)) e paper.writes)
      go l (inr h) = elim h [ ]

  cuts : (i z : ℕ) (p : Answer) → shorten_plan s n i z ≡ p → Each (Touches (shorten i z)) (do_shorten s n i p)
  cuts i z (Err e) q = tt
  cuts i z (Ok y) q = go
    where
      go : (l : ℕ) → Some (λ j. l ≡ j) (i ∷ []) → (1 ≤ l) × Hinders s l (shorten i z)
      go l (inl e) = (one_of file_kind i l (shortens s n i z y q).file e, subst (λ (y : ℕ). Hinders s l (shorten y z)) e paper.shortens)
      go l (inr h) = elim h [ ]

  adds : (d : ℕ) (name : List ℕ) (i : ℕ) (p : Result Room Refusal) → link_plan s n b d name i ≡ p → Each (Touches (link d name i)) (do_link s n d name i p)
  adds d name i (Err e) q = tt
  adds d name i (Ok r) q = go
    where
      go : (l : ℕ) → Some (λ j. l ≡ j) (d ∷ i ∷ []) → (1 ≤ l) × Hinders s l (link d name i)
      go l (inl e) = (one_of directory_kind d l (links s n b d name i r q).new.directory e, subst (λ (y : ℕ). Hinders s l (link y name i)) e paper.links)
      go l (inr (inl e)) = (one_of file_kind i l (links s n b d name i r q).file e, subst (λ (y : ℕ). Hinders s l (link d name y)) e paper.links_it)
      go l (inr (inr h)) = elim h [ ]

  takes : (d : ℕ) (name : List ℕ) (p : Result UnlinkPlan Refusal) → unlink_plan s n d name ≡ p → Each (Touches (unlink d name)) (do_unlink s n d p)
  takes d name (Err e) q = tt
  takes d name (Ok c) q = go
    where
      go : (l : ℕ) → Some (λ j. l ≡ j) (d ∷ c.inode ∷ []) → (1 ≤ l) × Hinders s l (unlink d name)
      go l (inl e) = (one_of directory_kind d l (unlinks s n d name c.slot c.inode q).entry.directory e, subst (λ (y : ℕ). Hinders s l (unlink y name)) e paper.unlinks)
      go l (inr (inl e)) = let f = (unlinks s n d name c.slot c.inode q).entry in (found_one d c.slot c.inode l name f e, paper.unlinks_it (looks_up s n d name c.slot c.inode f ∙ ap Ok (sym e)))
      go l (inr (inr h)) = elim h [ ]

  -- a rename, by whichever call: within a directory, and to another
  module _ {c : Call} (d : ℕ) (name : List ℕ) (e : ℕ) (other : List ℕ) (r : Renaming d name e other c) where
    in_it : is_directory s n d ≡ true → (l : ℕ) → l ≡ d → (1 ≤ l) × Hinders s l c
    in_it k l q = (one_of directory_kind d l k q, paper.renames (subst (λ (y : ℕ). Renaming y name e other c) (sym q) r))

    into_it : is_directory s n e ≡ true → (l : ℕ) → l ≡ e → (1 ≤ l) × Hinders s l c
    into_it k l q = (one_of directory_kind e l k q, paper.renames_to (subst (λ (y : ℕ). Renaming d name y other c) (sym q) r))

    of_it : (t i : ℕ) → FoundIn s n d name t i → (d ≡ e → ⊥) → (l : ℕ) → l ≡ i → (1 ≤ l) × Hinders s l c
    of_it t i f o l q = (found_one d t i l name f q, paper.moves_it r o (looks_up s n d name t i f ∙ ap Ok (sym q)))

    away : (t i : ℕ) → FoundIn s n d name t i → is_directory s n e ≡ true → (d ≡ e → ⊥) → (l : ℕ) → Some (λ j. l ≡ j) (d ∷ e ∷ i ∷ []) → (1 ≤ l) × Hinders s l c
    away t i f k o l (inl g) = in_it f.directory l g
    away t i f k o l (inr (inl g)) = into_it k l g
    away t i f k o l (inr (inr (inl g))) = of_it t i f o l g
    away t i f k o l (inr (inr (inr h))) = elim h [ ]

    either : (t i : ℕ) → FoundIn s n d name t i → is_directory s n e ≡ true → (l : ℕ) → Some (λ j. l ≡ j) (watched d e i) → (1 ≤ l) × Hinders s l c
    either t i f k l = go (eqb d e) refl
      where
        go : (x : Bool) → eqb d e ≡ x → Some (λ j. l ≡ j) (pick x (d ∷ []) (d ∷ e ∷ i ∷ [])) → (1 ≤ l) × Hinders s l c
        go true q (inl g) = in_it f.directory l g
        go true q (inr h) = elim h [ ]
        go false q g = away t i f k (eqb-false d e q) l g

    moved : (p : Result RenamePlan Refusal) → rename_new_plan s n b d name e other ≡ p → Each (Touches c) (do_rename s n d e other p)
    moved (Err f) q = tt
    moved (Ok (Rename t i)) q = go
      where
        go : (l : ℕ) → Some (λ j. l ≡ j) (d ∷ []) → (1 ≤ l) × Hinders s l c
        go l (inl g) = in_it (renames s n b d name e other t i q).0.entry.directory l g
        go l (inr h) = elim h [ ]
    moved (Ok (Move t i z)) q = let m = moves s n b d name e other t i z q in away t i m.0.entry m.0.new.directory m.1.other

  -- onto a name that another entry has
  module _ (d : ℕ) (name : List ℕ) (e : ℕ) (other : List ℕ) where
    replacing : (i j : ℕ) → Onto s n d name e other i j → (i ≡ j → ⊥) → (xs : List ℕ) → xs ≡ watched d e i → (l : ℕ) → Some (λ k. l ≡ k) (e ∷ j ∷ xs) → (1 ≤ l) × Hinders s l (rename d name e other)
    replacing i j p o xs z l (inl g) = into_it d name e other app (unlinks s n e other p.held j p.goes).entry.directory l g
    replacing i j p o xs z l (inr (inl g)) =
        let f = (unlinks s n e other p.held j p.goes).entry in
        (found_one e p.held j l other f g, paper.replaces_it (looks_up s n d name p.slot i p.entry) (λ q. o (q ∙ g)) (looks_up s n e other p.held j f ∙ ap Ok (sym g)))
    replacing i j p o xs z l (inr (inr g)) =
        either d name e other app p.slot i p.entry (unlinks s n e other p.held j p.goes).entry.directory l (subst (Some (λ k. l ≡ k)) z g)

    onto : (p : Result OverPlan Refusal) → over_plan s n d name e other ≡ p → Each (Touches (rename d name e other)) (do_over s n b d name e other (over_plan s n d name e other))
    onto (Err f) q = subst (λ (p : Result OverPlan Refusal). Each (Touches (rename d name e other)) (do_over s n b d name e other p)) (sym q) tt
    onto (Ok (Same i)) q =
        let p = both_names s n d name e other i q in
        subst (λ (x : Result OverPlan Refusal). Each (Touches (rename d name e other)) (do_over s n b d name e other x)) (sym q)
        (either d name e other app p.slot i p.entry (unlinks s n e other p.held i p.goes).entry.directory)
    onto (Ok (Over i j)) q =
        let r = replaced s n b d name e other i j (sound_store h refl) q in
        let p = replaces s n d name e other i j q in
        subst (Each (Touches (rename d name e other))) (sym (over_does s n b d name e other i j (sound_store h refl) q))
        (replacing i j p.0 p.1 r.renames.effect.touches r.renames.touches)

    either_way : (p : Planned) → Each (Touches (rename d name e other)) p → Each (Touches (rename d name e other)) (if_taken p (do_over s n b d name e other (over_plan s n d name e other)))
    either_way (does x) a = a
    either_way (refused f) a = by_pick (Each (Touches (rename d name e other))) (eqb (refusal_number f) (refusal_number NameTaken)) (onto (over_plan s n d name e other) refl) tt

  pub hinders : (c : Call) → Each (Touches c) (planned c s n b)
  hinders (look_up d name) = look d name (look_up_plan s n d name)
  hinders (read i o out) = reads i o out (read_plan s n i o (length out))
  hinders (create d name k) = makes d name k (create_plan s n b d name) refl
  hinders (write i o xs) = puts i o xs (write_plan s n i o (length xs)) refl
  hinders (shorten i z) = cuts i z (shorten_plan s n i z) refl
  hinders (link d name i) = adds d name i (link_plan s n b d name i) refl
  hinders (unlink d name) = takes d name (unlink_plan s n d name) refl
  hinders (rename d name e other) = either_way d name e other (do_rename_new s n b d name e other) (moved d name e other app (rename_new_plan s n b d name e other) refl)
  hinders (rename_new d name e other) = moved d name e other recorder (rename_new_plan s n b d name e other) refl
