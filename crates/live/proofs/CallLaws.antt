-- The calls behind the guards: what the guards let through, and each way that a call returns. s is the store, m the image, d the desk, n and b the counts of inodes and blocks.
use Rattle.std.specs.Prelude.{Err, Ok, Result}
use Rattle.std.specs.Result.{IsErrAnd}
use Prim.Native.Nat.{ℕ, ◌+◌, ◌*◌, ◌/◌, ◌%◌, ◌≤◌, ◌<◌}
use mathlib.Core.Path.{◌≡◌, refl, sym, ap, ◌∙◌, subst}
use mathlib.Core.Bool.{Bool, true, false}
use mathlib.Core.List.{List}
use native.Mathlib.Omega.{arith}
use Rattle.bounded.specs.Search.{pick}
use Rattle.layout.specs.Sizes.{most_inodes}
use Rattle.layout.specs.Inode.{address_of}
use Rattle.desk.specs.declared.Desk.{Desk}
use Rattle.desk.specs.Desk.{desk_of}
use Rattle.desk.specs.Next.{locks_any}
use Rattle.sound.specs.Sound.{inodes_in, blocks_in}
use Rattle.answers.specs.declared.Refusal.{Refusal}
use Rattle.answers.specs.Told.{Answer}
use Rattle.answers.proofs.RefusalLaws.{err_not_ok, exit}
use Rattle.answers.specs.declared.Refusal.TheVariants.{Busy}
use Rattle.preservation.proofs.StoreLaws.{uncounted}
use Rattle.files.specs.Effect.{Call, Effect, Planned, refused, does, planned}
use Rattle.files.proofs.Lawful.{Lawful, Each}
use Rattle.files.proofs.LawfulCalls.{lawful}
use Rattle.checkpoint.specs.Busy.{unless_busy}
use Rattle.checkpoint.specs.Notes.{cut_entries, clear_marks, set_marks}
use Rattle.checkpoint.specs.Fit.{desk_fits, image_long, image_fits}
use Rattle.checkpoint.specs.Live.{World, left, refuse, three_guards, leaves_in}
use Rattle.checkpoint.proofs.Copy.FitLaws.{desk_framed_is, image_fits_is, notes_fit_is}
use Rattle.image.specs.Addressed.{Addressed, Readable}
use Rattle.guards.specs.Handed.{handed, watched_by}
use Rattle.guards.proofs.GuardLaws.{passed, desk_passed, opened}
use Rattle.blocks.proofs.LongLaws.{row_direct}
use Rattle.image.proofs.FitLaws.{fits_few}
use Rattle.image.proofs.CutLaws.{running_is}
use Rattle.live.specs.Fits.{Fits, busy_if}
use Rattle.guards.specs.declared.Watched.{Watched}

-- ---- what the guards let through
image_addressed : (s m d : List ℕ) → (desk_of d).inodes ≤ most_inodes → desk_fits d ≡ true → image_fits s m d ≡ true → Addressed m (desk_of d).inodes
image_addressed s m d l w f =
    let e = ((image_fits_is s m d).to f).0 in
    let b = fits_few d w in
    record { few = l; area = omega arith; most = λ x h. let a = direct x h in omega arith; inside = λ x h. let a = direct x h in omega arith }
  where
    direct : (x : ℕ) → x < 12 * (desk_of d).inodes → address_of m (desk_of d).inodes x ≤ (desk_of d).blocks
    direct x h =
        subst (λ (v : ℕ). v ≤ (desk_of d).blocks) (row_direct (image_long s m d) m (desk_of d).inodes x)
        (((image_fits_is s m d).to f).1.1.1.1.1.0 (44 * (x / 12) + x % 12) (omega arith))

pub let_through : (s m d : List ℕ) {n b : ℕ} {h : Desk} (r : Result Watched Refusal) → r ≡ handed (three_guards s m d) (desk_of d) → r ≡ Ok (watched_by n b h) → Fits s d h n b × Readable m h n
let_through s m d {n} {b} {h} r e o =
    let g = opened (three_guards s m d) (desk_of d) r e o in
    let p = passed s m d n b g.0 in
    let f = (desk_framed_is d).to (desk_passed p) in
    let l = f.1.1 in
    let k = (notes_fit_is s m d).to p.notes in
    let i = p.sound.inodes ∙ sym k.1.0 in
    (record { sound = p.sound; read = g.1; long = omega arith }, λ t. subst (Addressed m) (sym i) (image_addressed s m d f.1.0 k.0 (k.1.1 (sym (running_is d h g.1) ∙ t))))

pub uncounted_fits : {s d : List ℕ} {h : Desk} {n b : ℕ} → Fits s d h n b → Fits s d h n (blocks_in s)
uncounted_fits f = record { sound = uncounted f.sound; read = f.read; long = f.long }

-- ---- the laws of what was planned
pub effect_laws : (c : Call) {s d : List ℕ} {h : Desk} {n b : ℕ} → Fits s d h n b → (x : Effect) → does x ≡ planned c s n b → Lawful s n x
effect_laws c {s} {n = n} f x q = subst (Each (Lawful s n)) (sym q) (lawful c f.sound)

-- ---- 14, as the code asks it: k says whether an inode is locked
module _ (k : Result (Unit {0}) Refusal) (b : Bool) (q : k ≡ busy_if b) where
  by_busy : (b : Bool) (e : Refusal) → busy_if b ≡ Err e → (b ≡ true) × (e ≡ Busy)
  by_busy true e z = (refl, sym (cc z))
  by_busy false e z = absurd (err_not_ok e _ (sym z))

  pub is_busy : (e : Refusal) → k ≡ Err e → b ≡ true
  is_busy e z = (by_busy b e (sym q ∙ z)).0

  pub busy_exit : (e : Refusal) → k ≡ Err e → (a : Answer) → IsErrAnd a (λ y. y ≡ e) → (s m d : List ℕ) → left a s m d ≡ refuse Busy s m d
  busy_exit e z a x s m d = ap (λ (r : Answer). left r s m d) (exit a e x ∙ ap Err (by_busy b e (sym q ∙ z)).1)

  pub is_free : (u : Unit {0}) → k ≡ Ok u → b ≡ false
  is_free u z = go b (sym q ∙ z)
    where
      go : (b : Bool) → busy_if b ≡ Ok u → b ≡ false
      go true y = absurd (err_not_ok Busy u y)
      go false y = refl

-- ---- behind the guards: p is what was planned, w what was lent
module _ (w : World) (p : Planned) where
  -- the plan refuses, and the call hands that on
  pub ends_refused : (e : Refusal) (a : Answer) → IsErrAnd a (λ y. y ≡ e) → refused e ≡ p → left a w.store w.image w.desk ≡ leaves_in w (unless_busy w.desk p)
  ends_refused e a x q = ap (λ (r : Answer). left r w.store w.image w.desk) (exit a e x) ∙ ap (λ (z : Planned). leaves_in w (unless_busy w.desk z)) q

  -- it has an effect; h is the desk's header
  module _ (x : Effect) (q : does x ≡ p) (h : Desk) (i : h ≡ desk_of w.desk) where
    by_lock : leaves_in w (pick (locks_any h x.touches) (refused Busy) (does x)) ≡ leaves_in w (unless_busy w.desk p)
    by_lock = ap (λ (y : Desk). leaves_in w (pick (locks_any y x.touches) (refused Busy) (does x))) i ∙ ap (λ (z : Planned). leaves_in w (unless_busy w.desk z)) q

    pub locked_ends : locks_any h x.touches ≡ true → refuse Busy w.store w.image w.desk ≡ leaves_in w (unless_busy w.desk p)
    locked_ends z = ap (λ (b : Bool). leaves_in w (pick b (refused Busy) (does x))) (sym z) ∙ by_lock

    -- k says whether an inode that the effect touches is locked
    pub ends_busy : (k : Result (Unit {0}) Refusal) → k ≡ busy_if (locks_any h x.touches) → (e : Refusal) → k ≡ Err e → (a : Answer) → IsErrAnd a (λ y. y ≡ e) → left a w.store w.image w.desk ≡ leaves_in w (unless_busy w.desk p)
    ends_busy k l e z a y =
        busy_exit k _ l e z a y w.store w.image w.desk ∙ locked_ends (is_busy k _ l e z)

    pub ends_done : (k : Result (Unit {0}) Refusal) → k ≡ busy_if (locks_any h x.touches) → (u : Unit {0}) → k ≡ Ok u → (n : ℕ) → n ≡ inodes_in w.store → (s m d : List ℕ)
        → s ≡ x.store → m ≡ cut_entries w.image w.desk n x.taken → d ≡ set_marks (clear_marks w.desk n x.taken) n x.made
        → left (Ok x.answer) s m d ≡ leaves_in w (unless_busy w.desk p)
    ends_done k l u z n g s m d a b c = rw (a, b, c, g) (ap (λ (y : Bool). leaves_in w (pick y (refused Busy) (does x))) (sym (is_free k _ l u z)) ∙ by_lock)
