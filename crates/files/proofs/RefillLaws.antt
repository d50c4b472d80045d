-- A place from which a call takes is filled anew by a rename alone, for what is renamed. n and b are the counts of inodes and blocks.
use Rattle.std.specs.Prelude.{Err, Ok, Result}
use Prim.Native.Nat.{ℕ}
use mathlib.Core.Path.{◌≡◌, refl, sym, ap, ◌∙◌, subst}
use mathlib.Core.Logic.{◌≢◌}
use mathlib.Core.List.{List, [], ◌∷◌}
use native.Mathlib.Omega.{arith}
use lib.Dec.{eqb}
use lib.ListN.{length}
use Rattle.bounded.proofs.EachLaws.{All, all_map}
use Rattle.bounded.proofs.SearchLaws.{by_pick}
use Rattle.sound.specs.Counted.{SoundStore}
use Rattle.answers.specs.declared.Refusal.TheVariants.{NameTaken}
use Rattle.answers.specs.Refusal.{refusal_number}
use Rattle.content.specs.Plan.{read_plan, write_plan, shorten_plan}
use Rattle.entries.specs.Plan.{look_up_plan, create_plan, link_plan, unlink_plan, rename_new_plan, over_plan}
use Rattle.entries.proofs.PlanFacts.{looks_up, moves, replaces}
use Rattle.files.specs.Effect.{Call, look_up, read, create, write, shorten, link, unlink, rename, rename_new, Entry, entry, place_in, Effect, Planned, refused, does, if_taken, planned, do_look_up, do_read, do_create, do_write, do_shorten, do_link, do_unlink, do_rename, do_rename_new, do_over}
use Rattle.files.proofs.Lawful.{Stands, Lawful, Each}
use Rattle.files.proofs.LawfulRename.{lawful_rename_new}
use Rattle.files.proofs.OverLaws.{replaced, over_does}
use Rattle.answers.specs.Told.{Answer}
use Rattle.answers.specs.declared.Refusal.{Refusal}
use Rattle.entries.specs.declared.Room.{Room}
use Rattle.entries.specs.declared.CreatePlan.{CreatePlan}
use Rattle.entries.specs.declared.RenamePlan.TheVariants.{Move, Rename}
use Rattle.entries.specs.declared.OverPlan.TheVariants.{Over, Same}
use Rattle.entries.specs.declared.UnlinkPlan.{UnlinkPlan}
use Rattle.entries.specs.declared.RenamePlan.{RenamePlan}
use Rattle.entries.specs.declared.OverPlan.{OverPlan}

-- z is made where the call c, on the store s, has taken an entry out
abbrev pub Refills : Call → List ℕ → ℕ → Entry → Type 0
Refills (look_up d name) s n z = ⊥
Refills (read i o out) s n z = ⊥
Refills (create d name k) s n z = ⊥
Refills (write i o xs) s n z = ⊥
Refills (shorten i k) s n z = ⊥
Refills (link d name i) s n z = ⊥
Refills (unlink d name) s n z = ⊥
Refills (rename d name e other) s n z = look_up_plan s n d name ≡ Ok z.inode
Refills (rename_new d name e other) s n z = ⊥

abbrev pub Refilling : Call → List ℕ → ℕ → Effect → Type 0
Refilling c s n x = All (λ y. All (λ z. place_in y ≡ place_in z → Refills c s n z) x.made) x.taken

-- where every made entry would do
of_all : (P : Entry → Type 0) (ys zs : List Entry) → All P zs → All (λ y. All (λ z. place_in y ≡ place_in z → P z) zs) ys
of_all P [] zs a = tt
of_all P (y ∷ ys) zs a = (all_map _ _ zs (λ z p _. p) a, of_all P ys zs a)

-- a move goes to another directory
other_place : (s t : List ℕ) (n : ℕ) (y z : Entry) → Stands s n y → Stands t n z → y.directory ≢ z.directory → place_in y ≡ place_in z → ⊥
other_place s t n y z a c h e = let l = a.low in let m = c.low in let u = a.small in let v = c.small in h (omega arith)

module _ (s : List ℕ) (n b : ℕ) (k : SoundStore s n b) where
  module _ (d : ℕ) (name : List ℕ) (e : ℕ) (other : List ℕ) where
    -- of the recorder's rename, seen as any call
    apart : (c : Call) → Each (Refilling c s n) (do_rename_new s n b d name e other)
    apart c = go (rename_new_plan s n b d name e other) refl (lawful_rename_new s n b d name e other k)
      where
        go : (p : Result RenamePlan Refusal) → rename_new_plan s n b d name e other ≡ p → Each (Lawful s n) (do_rename s n d e other p) → Each (Refilling c s n) (do_rename s n d e other p)
        go (Ok (Rename t i)) q l = tt
        go (Ok (Move t i r)) q l = (((λ z. absurd (other_place s _ n _ _ l.stood.0 l.stands.0 (moves s n b d name e other t i r q).1.other z)), tt), tt)
        go (Err f) q l = tt

    onto : (p : Result OverPlan Refusal) → over_plan s n d name e other ≡ p → Each (Refilling (rename d name e other) s n) (do_over s n b d name e other (over_plan s n d name e other))
    onto (Err f) q = subst (λ (p : Result OverPlan Refusal). Each (Refilling (rename d name e other) s n) (do_over s n b d name e other p)) (sym q) tt
    onto (Ok (Same i)) q = subst (λ (p : Result OverPlan Refusal). Each (Refilling (rename d name e other) s n) (do_over s n b d name e other p)) (sym q) tt
    onto (Ok (Over i h)) q =
        let y = (replaced s n b d name e other i h k q).renames in
        let p = (replaces s n d name e other i h q).0 in
        let u = looks_up s n d name p.slot i p.entry in
        subst (Each (Refilling (rename d name e other) s n)) (sym (over_does s n b d name e other i h k q))
        (of_all (λ z. look_up_plan s n d name ≡ Ok z.inode) (entry e (replaced s n b d name e other i h k q).slot h ∷ y.effect.taken) y.effect.made (all_map _ _ y.effect.made (λ z m. u ∙ ap Ok (sym m)) y.mover))

  pub refilling : (c : Call) → Each (Refilling c s n) (planned c s n b)
  refilling (look_up d name) = go (look_up_plan s n d name)
    where
      go : (p : Answer) → Each (Refilling (look_up d name) s n) (do_look_up s p)
      go (Ok i) = tt
      go (Err f) = tt
  refilling (read i o out) = go (read_plan s n i o (length out))
    where
      go : (p : Answer) → Each (Refilling (read i o out) s n) (do_read s n i o out p)
      go (Ok m) = tt
      go (Err f) = tt
  refilling (create d name m) = go (create_plan s n b d name)
    where
      go : (p : Result CreatePlan Refusal) → Each (Refilling (create d name m) s n) (do_create s n d name m p)
      go (Ok c) = tt
      go (Err f) = tt
  refilling (write i o xs) = go (write_plan s n i o (length xs))
    where
      go : (p : Answer) → Each (Refilling (write i o xs) s n) (do_write s n b i o xs p)
      go (Ok z) = tt
      go (Err f) = tt
  refilling (shorten i z) = go (shorten_plan s n i z)
    where
      go : (p : Answer) → Each (Refilling (shorten i z) s n) (do_shorten s n i p)
      go (Ok y) = tt
      go (Err f) = tt
  refilling (link d name i) = go (link_plan s n b d name i)
    where
      go : (p : Result Room Refusal) → Each (Refilling (link d name i) s n) (do_link s n d name i p)
      go (Ok r) = tt
      go (Err f) = tt
  refilling (unlink d name) = go (unlink_plan s n d name)
    where
      go : (p : Result UnlinkPlan Refusal) → Each (Refilling (unlink d name) s n) (do_unlink s n d p)
      go (Ok c) = (tt, tt)
      go (Err f) = tt
  refilling (rename d name e other) = go (do_rename_new s n b d name e other) (apart d name e other (rename d name e other))
    where
      go : (p : Planned) → Each (Refilling (rename d name e other) s n) p → Each (Refilling (rename d name e other) s n) (if_taken p (do_over s n b d name e other (over_plan s n d name e other)))
      go (does x) a = a
      go (refused f) a = by_pick (Each (Refilling (rename d name e other) s n)) (eqb (refusal_number f) (refusal_number NameTaken)) (onto d name e other (over_plan s n d name e other) refl) tt
  refilling (rename_new d name e other) = apart d name e other (rename_new d name e other)
