-- A rename over the three buffers: the recorder's first, and where that answers 7 an unlink of the old holder and then that rename again. n and b are the counts of inodes and blocks.
use Rattle.std.specs.Prelude.{Ok, Err}
use Prim.Native.Nat.{ℕ, ◌*◌, ◌<◌}
use mathlib.Core.Path.{◌≡◌, refl, sym, ap, ap₂, ◌∙◌, subst}
use mathlib.Core.Bool.{Bool, true, false, ◌||◌}
use mathlib.Core.List.{List, [], ◌∷◌}
use native.Mathlib.Omega.{arith}
use lib.Dec.{eqb}
use Rattle.bounded.specs.Search.{pick}
use Rattle.bounded.proofs.BoolLaws.{clash}
use Rattle.layout.specs.Inode.{address_of}
use Rattle.blocks.proofs.FrameLaws.{address_apart}
use Rattle.directory.specs.Slot.{slot_at, clear_entry}
use Rattle.directory.proofs.SlotLaws.{slot_low, length_clear}
use Rattle.desk.specs.declared.Desk.{Desk}
use Rattle.desk.specs.Desk.{desk_of}
use Rattle.desk.specs.Next.{locks_any}
use Rattle.sound.specs.Sound.{inodes_in}
use Rattle.sound.specs.Counted.{SoundStore}
use Rattle.answers.specs.declared.Refusal.TheVariants.{NameTaken, Busy}
use Rattle.answers.specs.declared.Refusal.{Refusal}
use Rattle.answers.specs.Refusal.{refusal_number}
use Rattle.answers.proofs.RefusalLaws.{number_range}
use Rattle.answers.specs.Told.{Answer, told}
use Rattle.entries.specs.Plan.{unlink_plan, over_plan}
use Rattle.entries.specs.Apply.{unlinked}
use Rattle.files.specs.Effect.{entry, Effect, changes, and_then, Planned, refused, does, if_taken, watched, do_unlink, do_rename_new, do_over}
use Rattle.files.proofs.OverLaws.{replaced, over_does}
use Rattle.checkpoint.specs.Busy.{any_locked, unless_busy}
use Rattle.checkpoint.specs.Notes.{cuts_image, cut_image, cut_entries, clear_marks, set_marks}
use Rattle.checkpoint.specs.Live.{World, Outcome, left, world_in, refuse, leaves_in}
use Rattle.checkpoint.proofs.Call.CallNotes.{MarksAlone, cleared_notes}
use Rattle.checkpoint.proofs.Call.ThenLaws.{busy_marks, busy_then, leaves_then}
use Rattle.image.specs.Addressed.{Addressed, Readable}
use Rattle.live.specs.Fits.{Fits}
use Rattle.live.proofs.CallLaws.{locked_ends}
use Rattle.entries.specs.declared.OverPlan.TheVariants.{Over}

-- ---- where the recorder's rename answers 7, and where it does not: w are the buffers before it
module _ (w : World) where
  abbrev answers_seven : Outcome → Bool
  answers_seven o = eqb o.answer.number (refusal_number NameTaken)

  -- nothing has changed, and the other plan decides
  record Seven (p : Planned) : Type 0 where
    stays : world_in (leaves_in w (unless_busy w.desk p)) ≡ w
    goes_on : (q : Planned) → leaves_in w (unless_busy w.desk (if_taken p q)) ≡ leaves_in w (unless_busy w.desk q)

  seven : (p : Planned) → answers_seven (leaves_in w (unless_busy w.desk p)) ≡ true → Seven p
  seven (refused f) e = record { stays = refl; goes_on = λ q. rw e refl }
  seven (does x) e = absurd (go (any_locked w.desk x.touches) e)
    where
      go : (c : Bool) → answers_seven (leaves_in w (pick c (refused Busy) (does x))) ≡ true → ⊥
      go true z = clash false z refl
      go false z = clash false z refl

  untaken : (p q : Planned) → answers_seven (leaves_in w (unless_busy w.desk p)) ≡ false → leaves_in w (unless_busy w.desk (if_taken p q)) ≡ leaves_in w (unless_busy w.desk p)
  untaken (refused f) q e = rw e refl
  untaken (does x) q e = refl

  -- v are the buffers after it, and a is what it answers
  module _ (v : World) (p : Planned) (a : Answer) (ends : left a v.store v.image v.desk ≡ leaves_in w (unless_busy w.desk p)) where
    abbrev taken : Bool
    taken = eqb (told a).number (refusal_number NameTaken)

    same_answer : (c : Bool) → taken ≡ c → answers_seven (leaves_in w (unless_busy w.desk p)) ≡ c
    same_answer c e = ap answers_seven (sym ends) ∙ e

    pub taken_stays : taken ≡ true → v ≡ w
    taken_stays e = ap world_in ends ∙ (seven p (same_answer true e)).stays

    pub taken_goes_on : (q : List ℕ → Planned) (o : Outcome) → taken ≡ true → o ≡ leaves_in v (unless_busy v.desk (q v.store)) → o ≡ leaves_in w (unless_busy w.desk (if_taken p (q w.store)))
    taken_goes_on q o e h = h ∙ ap (λ (x : World). leaves_in x (unless_busy x.desk (q x.store))) (taken_stays e) ∙ sym ((seven p (same_answer true e)).goes_on (q w.store))

    pub untaken_ends : (q : Planned) → taken ≡ false → left a v.store v.image v.desk ≡ leaves_in w (unless_busy w.desk (if_taken p q))
    untaken_ends q e = ends ∙ sym (untaken p q (same_answer false e))

-- ---- an image entry cut leaves the addresses
cut_addressed : (m d : List ℕ) (n e t i : ℕ) → Addressed m n → Addressed (cut_image m d n e t i) n
unfolding cut_image clear_entry
cut_addressed m d n e t i a = go (cuts_image m d n e t i)
  where
    cleared : Addressed (clear_entry m n e t) n
    cleared =
        let z = length_clear m n e t in
        let same : (x : ℕ) → x < 12 * n → address_of (clear_entry m n e t) n x ≡ address_of m n x = λ x l. address_apart m (slot_at m n e t) _ n x (let o = slot_low m n e t in omega arith) in
        record {
          few = a.few;
          area = let l = a.area in omega arith;
          most = λ x l. let q = same x l in let r = a.most x l in omega arith;
          inside = λ x l. let q = same x l in let r = a.inside x l in omega arith;
        }

    go : (c : Bool) → Addressed (pick c (clear_entry m n e t) m) n
    go true = cleared
    go false = a

-- ---- the old holder goes
module _ (w : World) (n b d : ℕ) (name : List ℕ) (e : ℕ) (other : List ℕ) (i h : ℕ) (k : SoundStore w.store n b) (q : over_plan w.store n d name e other ≡ Ok (Over i h)) where
  abbrev s : List ℕ
  s = w.store

  abbrev slot : ℕ
  slot = (replaced s n b d name e other i h k q).slot

  abbrev gone : List ℕ
  gone = unlinked s n e slot h

  abbrev takes : Effect
  takes = changes 0 gone (e ∷ h ∷ []) (entry e slot h ∷ []) []

  abbrev renames : Effect
  renames = (replaced s n b d name e other i h k q).renames.effect

  abbrev planned : Planned
  planned = do_over s n b d name e other (over_plan s n d name e other)

  does_both : does (and_then takes renames) ≡ planned
  does_both = sym (over_does s n b d name e other i h k q)

  seen : renames.touches ≡ watched d e i
  seen = (replaced s n b d name e other i h k q).renames.touches

  -- 14: a and c are what the code has asked of the desk, whose header is x
  module _ (x : Desk) (r : x ≡ desk_of w.desk) (a c : Bool) (holder : a ≡ locks_any x (e ∷ h ∷ [])) (any : c ≡ locks_any x (watched d e i)) where
    in_the_way : a || c ≡ locks_any x (and_then takes renames).touches
    in_the_way =
        ap₂ ◌||◌ (holder ∙ ap (λ (y : Desk). locks_any y (e ∷ h ∷ [])) r) (any ∙ ap₂ locks_any r (sym seen))
        ∙ sym (busy_then w.desk (e ∷ h ∷ []) renames.touches)
        ∙ ap (λ (y : Desk). locks_any y (and_then takes renames).touches) (sym r)

    pub over_busy : a || c ≡ true → refuse Busy w.store w.image w.desk ≡ leaves_in w (unless_busy w.desk planned)
    over_busy z = locked_ends w planned (and_then takes renames) does_both x r (sym in_the_way ∙ z)

    module _ (free : a ≡ false) (idle : c ≡ false) where
      holder_free : any_locked w.desk (e ∷ h ∷ []) ≡ false
      holder_free = sym (holder ∙ ap (λ (y : Desk). locks_any y (e ∷ h ∷ [])) r) ∙ free

      rename_free : any_locked w.desk renames.touches ≡ false
      rename_free = sym (any ∙ ap₂ locks_any r (sym seen)) ∙ idle

      -- v are the buffers after the unlink, which answers z
      module _ (v : World) (z : Answer) (ends : left z v.store v.image v.desk ≡ leaves_in w (unless_busy w.desk (do_unlink s n e (unlink_plan s n e other)))) where
        after : v ≡ world_in (leaves_in w (does takes))
        after =
            ap world_in ends
            ∙ ap (λ (p : Planned). world_in (leaves_in w (unless_busy w.desk p))) (replaced s n b d name e other i h k q).unlinks
            ∙ ap (λ (y : Bool). world_in (leaves_in w (pick y (refused Busy) (does takes)))) holder_free

        -- so it is not refused
        pub over_unrefused : (f : Refusal) → z ≡ Err f → ⊥
        over_unrefused f y =
            let e : refusal_number f ≡ 0 =
            ap (λ (u : Answer). (told u).number) (sym y) ∙ ap (λ (o : Outcome). o.answer.number) ends
            ∙ ap (λ (p : Planned). (leaves_in w (unless_busy w.desk p)).answer.number) (replaced s n b d name e other i h k q).unlinks
            ∙ ap (λ (c : Bool). (leaves_in w (pick c (refused Busy) (does takes))).answer.number) holder_free in
            let l = (number_range f).0 in
            omega arith

        counted : n ≡ inodes_in s
        counted = k.inodes

        marks : MarksAlone n w.desk (world_in (leaves_in w (does takes))).desk
        unfolding set_marks
        marks = subst (λ (y : ℕ). MarksAlone n w.desk (clear_marks w.desk y (entry e slot h ∷ []))) counted (cleared_notes w.desk n (entry e slot h ∷ []))

        pub over_fits : Fits w.store w.desk x n b → Readable w.image x n → Fits v.store v.desk x n b × Readable v.image x n
        unfolding cut_entries
        over_fits f g = subst (λ (y : World). Fits y.store y.desk x n b × Readable y.image x n) (sym after) (
          record {
            sound = (replaced s n b d name e other i h k q).sound;
            read = f.read ∙ sym marks.head;
            long = let l = f.long in let y = marks.long in omega arith;
          },
          λ t. subst (λ (y : ℕ). Addressed (cut_image w.image w.desk y e slot h) n) counted (cut_addressed w.image w.desk n e slot h (g t)),
        )

        -- and then it is renamed
        pub over_done : (o : Outcome) → o ≡ leaves_in v (unless_busy v.desk (do_rename_new v.store n b d name e other)) → o ≡ leaves_in w (unless_busy w.desk planned)
        over_done o y =
            let u = world_in (leaves_in w (does takes)) in
            y
            ∙ ap (λ (x : World). leaves_in x (unless_busy x.desk (do_rename_new x.store n b d name e other))) after
            ∙ ap (λ (p : Planned). leaves_in u (unless_busy u.desk p)) (replaced s n b d name e other i h k q).renames.done
            ∙ ap (λ (c : Bool). leaves_in u (pick c (refused Busy) (does renames))) (busy_marks marks renames.touches ∙ rename_free)
            ∙ sym (leaves_then w takes renames refl (sym (replaced s n b d name e other i h k q).sound.inodes ∙ counted))
            ∙ ap (λ (c : Bool). leaves_in w (pick c (refused Busy) (does (and_then takes renames)))) (sym (busy_then w.desk (e ∷ h ∷ []) renames.touches ∙ ap₂ ◌||◌ holder_free rename_free))
            ∙ ap (λ (p : Planned). leaves_in w (unless_busy w.desk p)) does_both
