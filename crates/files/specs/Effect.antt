-- A file call, and what it does to a sound store: a refusal, or one effect. n and b are the counts of inodes and blocks, which the guard tells.
use Rattle.std.specs.Prelude.{ℕ, List, [], ◌∷◌, ◌++◌, eqb, length, Err, Ok, Result}
use Rattle.bounded.specs.Search.{pick}
use Rattle.octets.specs.Octets.{splice}
use Rattle.sound.specs.Place.{place_of}
use Rattle.answers.specs.declared.Refusal.{Refusal}
use Rattle.answers.specs.declared.Refusal.TheVariants.{NameTaken}
use Rattle.answers.specs.Refusal.{refusal_number}
use Rattle.content.specs.Content.{file_bytes, cut_to}
use Rattle.content.specs.Plan.{read_plan, write_plan, shorten_plan}
use Rattle.content.specs.Apply.{written}
use Rattle.entries.specs.declared.Kind.{Kind}
use Rattle.entries.specs.Plan.{look_up_plan, create_plan, link_plan, unlink_plan, rename_new_plan, over_plan}
use Rattle.entries.specs.Apply.{created, linked, unlinked, renamed, moved}
use Rattle.files.specs.Guard.{guard_of, on_guard}
use Rattle.answers.specs.Told.{Answer}
use Rattle.entries.specs.declared.Room.{Room}
use Rattle.entries.specs.declared.CreatePlan.{CreatePlan}
use Rattle.entries.specs.declared.RenamePlan.TheVariants.{Move, Rename}
use Rattle.entries.specs.declared.OverPlan.TheVariants.{Over, Same}
use Rattle.entries.specs.declared.UnlinkPlan.{UnlinkPlan}
use Rattle.entries.specs.declared.RenamePlan.{RenamePlan}
use Rattle.entries.specs.declared.OverPlan.{OverPlan}

-- "File calls are look up, create, read, write, shorten, link, unlink and rename", with their arguments; a read has its out-buffer as it comes in.
-- F-3: "The lap recorder relied on 7 to keep yesterday's run, so it gets a file call of its own with the old rule."
pub data Call : Type 0 where
  look_up : (d : ℕ) (name : List ℕ) → Call
  read : (i o : ℕ) (out : List ℕ) → Call
  create : (d : ℕ) (name : List ℕ) (k : Kind) → Call
  write : (i o : ℕ) (xs : List ℕ) → Call
  shorten : (i z : ℕ) → Call
  link : (d : ℕ) (name : List ℕ) (i : ℕ) → Call
  unlink : (d : ℕ) (name : List ℕ) → Call
  rename : (d : ℕ) (name : List ℕ) (e : ℕ) (other : List ℕ) → Call
  rename_new : (d : ℕ) (name : List ℕ) (e : ℕ) (other : List ℕ) → Call

-- an entry: a directory's slot, and the inode that it names
pub record Entry : Type 0 where
  pub directory : ℕ
  pub slot : ℕ
  pub inode : ℕ

abbrev pub entry : ℕ → ℕ → ℕ → Entry
entry d t i = record { directory = d; slot = t; inode = i }

abbrev pub place_in : Entry → ℕ
place_in x = place_of x.directory x.slot

-- the answer; store and out-buffer after it; the inodes that refusal 14 looks at; the files whose size and bytes are written; the entries taken out and those made
pub record Effect : Type 0 where
  pub answer : ℕ
  pub store : List ℕ
  pub out : List ℕ
  pub touches : List ℕ
  pub writes : List ℕ
  pub taken : List Entry
  pub made : List Entry

-- it looks, and changes nothing
abbrev pub looks : ℕ → List ℕ → List ℕ → Effect
looks a s out = record { answer = a; store = s; out = out; touches = []; writes = []; taken = []; made = [] }

-- it changes entries, and writes no file
abbrev pub changes : ℕ → List ℕ → List ℕ → List Entry → List Entry → Effect
changes a s touches taken made = record { answer = a; store = s; out = []; touches = touches; writes = []; taken = taken; made = made }

-- it writes or shortens file i
abbrev pub rewrites : ℕ → List ℕ → ℕ → Effect
rewrites a s i = record { answer = a; store = s; out = []; touches = i ∷ []; writes = i ∷ []; taken = []; made = [] }

-- one effect and then another, on the store that the first leaves
abbrev pub and_then : Effect → Effect → Effect
and_then x y = record {
  answer = y.answer;
  store = y.store;
  out = y.out;
  touches = x.touches ++ y.touches;
  writes = x.writes ++ y.writes;
  taken = x.taken ++ y.taken;
  made = x.made ++ y.made;
}

pub data Planned : Type 0 where
  refused : Refusal → Planned
  does : Effect → Planned

abbrev pub on_planned : {A : Type 0} → Planned → (Effect → A) → (Refusal → A) → A
on_planned (does x) f g = f x
on_planned (refused e) f g = g e

-- what is planned, and then what is planned on the store that it leaves; if either is refused, nothing is done. In a replacing rename the
-- second never is (`over_does` in proofs/OverLaws)
abbrev pub plan_then : Planned → (List ℕ → Planned) → Planned
plan_then (does x) f = on_planned (f x.store) (λ y. does (and_then x y)) refused
plan_then (refused e) f = refused e

-- where the one is refused with 7, the other
abbrev pub if_taken : Planned → Planned → Planned
if_taken (does x) q = does x
if_taken (refused e) q = pick (eqb (refusal_number e) (refusal_number NameTaken)) q (refused e)

-- ---- what a plan does to the store s: "Create and look up answer the inode, read its count, write and shorten the new size"
abbrev pub do_look_up : List ℕ → Answer → Planned
do_look_up s (Ok i) = does (looks i s [])
do_look_up s (Err e) = refused e

-- "other out-bytes stay"
abbrev pub do_read : List ℕ → ℕ → ℕ → ℕ → List ℕ → Answer → Planned
do_read s n i o out (Ok k) = does (looks k s (splice out 0 (file_bytes s n i o k)))
do_read s n i o out (Err e) = refused e

abbrev pub do_create : List ℕ → ℕ → ℕ → List ℕ → Kind → Result CreatePlan Refusal → Planned
do_create s n d name k (Ok c) = does (changes c.inode (created s n d name k c.inode c.room) (d ∷ []) [] (entry d c.room.slot c.inode ∷ []))
do_create s n d name k (Err e) = refused e

abbrev pub do_write : List ℕ → ℕ → ℕ → ℕ → ℕ → List ℕ → Answer → Planned
do_write s n b i o xs (Ok z) = does (rewrites z (written s n b i o xs z) i)
do_write s n b i o xs (Err e) = refused e

abbrev pub do_shorten : List ℕ → ℕ → ℕ → Answer → Planned
do_shorten s n i (Ok z) = does (rewrites z (cut_to s n i z) i)
do_shorten s n i (Err e) = refused e

abbrev pub do_link : List ℕ → ℕ → ℕ → List ℕ → ℕ → Result Room Refusal → Planned
do_link s n d name i (Ok r) = does (changes 0 (linked s n d name i r) (d ∷ i ∷ []) [] (entry d r.slot i ∷ []))
do_link s n d name i (Err e) = refused e

abbrev pub do_unlink : List ℕ → ℕ → ℕ → Result UnlinkPlan Refusal → Planned
do_unlink s n d (Ok c) = does (changes 0 (unlinked s n d c.slot c.inode) (d ∷ c.inode ∷ []) (entry d c.slot c.inode ∷ []) [])
do_unlink s n d (Err e) = refused e

-- "A rename within a directory keeps its slot and its mark". A move takes the old entry and makes the new one.
abbrev pub do_rename : List ℕ → ℕ → ℕ → ℕ → List ℕ → Result RenamePlan Refusal → Planned
do_rename s n d e other (Ok (Rename t i)) = does (changes 0 (renamed s n d other t i) (d ∷ []) [] [])
do_rename s n d e other (Ok (Move t i r)) = does (changes 0 (moved s n d e other t i r) (d ∷ e ∷ i ∷ []) (entry d t i ∷ []) (entry e r.slot i ∷ []))
do_rename s n d e other (Err f) = refused f

abbrev pub do_rename_new : List ℕ → ℕ → ℕ → ℕ → List ℕ → ℕ → List ℕ → Planned
do_rename_new s n b d name e other = do_rename s n d e other (rename_new_plan s n b d name e other)

-- what refusal 14 looks at in any rename: the directory, or of a move both and the inode
abbrev pub watched : ℕ → ℕ → ℕ → List ℕ
watched d e i = pick (eqb d e) (d ∷ []) (d ∷ e ∷ i ∷ [])

-- "unlinks this old holder and then renames"; "Blocks and slots are judged as they are once the old holder is gone."
-- "If both names already stand for the same file, nothing changes, but refusals come as for any rename."
abbrev pub do_over : List ℕ → ℕ → ℕ → ℕ → List ℕ → ℕ → List ℕ → Result OverPlan Refusal → Planned
do_over s n b d name e other (Ok (Over i h)) = plan_then (do_unlink s n e (unlink_plan s n e other)) (λ t. do_rename_new t n b d name e other)
do_over s n b d name e other (Ok (Same i)) = does (changes 0 s (watched d e i) [] [])
do_over s n b d name e other (Err f) = refused f

-- ---- a call on a sound store: a refusal of its plan, or what is done
abbrev pub planned : Call → List ℕ → ℕ → ℕ → Planned
planned (look_up d name) s n b = do_look_up s (look_up_plan s n d name)
planned (read i o out) s n b = do_read s n i o out (read_plan s n i o (length out))
planned (create d name k) s n b = do_create s n d name k (create_plan s n b d name)
planned (write i o xs) s n b = do_write s n b i o xs (write_plan s n i o (length xs))
planned (shorten i z) s n b = do_shorten s n i (shorten_plan s n i z)
planned (link d name i) s n b = do_link s n d name i (link_plan s n b d name i)
planned (unlink d name) s n b = do_unlink s n d (unlink_plan s n d name)
planned (rename d name e other) s n b = if_taken (do_rename_new s n b d name e other) (do_over s n b d name e other (over_plan s n d name e other))
planned (rename_new d name e other) s n b = do_rename_new s n b d name e other

-- on any bytes: refusals 1 and 2 come before all others
unfoldable pub plain_decision : Call → List ℕ → Planned
plain_decision c s = on_guard (guard_of s) (planned c s) refused

-- the out-buffer as it comes in, [] for a call that has none
abbrev pub given : Call → List ℕ
given (look_up d name) = []
given (read i o out) = out
given (create d name k) = []
given (write i o xs) = []
given (shorten i z) = []
given (link d name i) = []
given (unlink d name) = []
given (rename d name e other) = []
given (rename_new d name e other) = []
