-- The track cases of any store, by the tables of refusals; and the whole table.
use Rattle.std.specs.Prelude.{Err, None, Ok, Some}
use Prim.Native.Nat.{ℕ, ◌+◌, ◌-◌, ◌≤◌, ◌<◌, max}
use mathlib.Core.Path.{◌≡◌, ap, ◌∙◌}
use mathlib.Core.Bool.{true, false, not, ◌&&◌, ◌||◌}
use mathlib.Core.List.{List}
use native.Mathlib.Omega.{arith}
use borrow.Author.Tests.{lt-ltb, le-ltb, leb-true, eqb-true, ne_eqb}
use lib.Dec.{eqb, leb, ltb}
use lib.ListN.{length, get_or}
use Rattle.bounded.specs.Search.{first}
use Rattle.bounded.proofs.BoolLaws.{fails, and_left, and_right, or_l, or_r, or_right}
use Rattle.bounded.proofs.SearchLaws.{lowest_of, lowest_found, absent_of}
use Rattle.layout.specs.Sizes.{most_file_bytes}
use Rattle.layout.specs.Header.{header_of}
use Rattle.layout.specs.Inode.{kind_of, size_of, file_kind, is_kind, is_file}
use Rattle.blocks.specs.Block.{store_length, blocks_used}
use Rattle.names.specs.Name.{slash, legal_name}
use Rattle.names.proofs.NameLaws.{legal, legal_bounds}
use Rattle.directory.specs.Slot.{slots, slot_empty, empty_slot}
use Rattle.answers.specs.declared.Refusal.TheVariants.{IllegalName, PastEnd, NoSlot, WrongState}
use Rattle.answers.specs.Told.{told}
use Rattle.desk.specs.Desk.{desk_of}
use Rattle.desk.specs.Next.{locks_any}
use Rattle.sound.specs.declared.Form.TheVariants.{Store}
use Rattle.sound.proofs.SoundLaws.{framed, is_sound_lem, size_most}
use Rattle.entries.specs.declared.Kind.{Kind}
use Rattle.files.specs.Effect.{create, write}
use Rattle.checkpoint.specs.Fit.{is_running, image_allowed, blocks_fit, desk_fits, image_fits, notes_fit}
use Rattle.checkpoint.specs.Table.{create_table, write_table, start_table}
use Rattle.checkpoint.specs.Live.{World, live, start}
use Rattle.checkpoint.specs.List.{Ready, outcome}
use Rattle.checkpoint.proofs.TableLaws.{create_table_lem, write_table_lem}
use Rattle.checkpoint.proofs.CopierTables.{start_table_lem}
use Rattle.cases.specs.Cases.{TrackCases, Writes, Creates, inodes}
use Rattle.cases.proofs.Runs.{three_steps, finish, reused_block_lem, moved_directory_lem, unlinked_file_lem, into_child, replaced_file_lem, onto_taken, onto_full, onto_other_kind, into_child_taken, recorder_keeps}
use Rattle.cases.proofs.Edge.{over_the_edge_lem}
use Rattle.cases.proofs.Witness.{fourteen_shown, fifteen_shown, end_shown, past_end_shown, at_size_shown, past_size_shown, last_slot_shown, no_slot_shown, twelfth_block}
use Rattle.checkpoint.proofs.Run.Calls.{image_allowed_lem}

-- a create of a legal name in an empty slot
created : (w : World) (d : ℕ) (name : List ℕ) (k : Kind) (c : Creates w d name) (t : ℕ) → legal_name name ≡ true → empty_slot w.store (inodes w) d ≡ Some t
    → (live (create d name k) w).answer ≡ told (Ok c.inode)
unfolding create_table locks_any
created w d name k c t l u =
    let r = c.ready in
    create_table_lem w d name k
    ∙ rw (r.framed, r.desk, r.sound, r.notes, l, c.directory, c.new, c.free, u, c.idle)

-- ---- names
fourteen_legal : (name : List ℕ) → length name ≡ 14 → ((j : ℕ) → j < 14 → (get_or name j 0 ≡ 0 → ⊥) × (get_or name j 0 ≡ slash → ⊥)) → legal_name name ≡ true
fourteen_legal name e h =
    (legal name).from record {
      long = omega arith;
      short = omega arith;
      plain = λ j l. h j (omega arith);
      not_dot = λ q. absurd (omega arith);
      not_dots = λ q. absurd (omega arith);
    }

fifteen_illegal : (name : List ℕ) → length name ≡ 15 → legal_name name ≡ false
fifteen_illegal name e = fails (legal_name name) (λ t. let b = legal_bounds name t in let c = b.1 in omega arith)

fifteen : (w : World) (d : ℕ) (name : List ℕ) (k : Kind) → Ready w → length name ≡ 15 → (live (create d name k) w).answer ≡ told (Err IllegalName)
unfolding create_table locks_any
fifteen w d name k r e =
    create_table_lem w d name k
    ∙ rw (r.framed, r.desk, r.sound, r.notes, fifteen_illegal name e)

fourteen : (w : World) (d t : ℕ) (name : List ℕ) (k : Kind) (c : Creates w d name) → length name ≡ 14
    → ((j : ℕ) → j < 14 → (get_or name j 0 ≡ 0 → ⊥) × (get_or name j 0 ≡ slash → ⊥)) → empty_slot w.store (inodes w) d ≡ Some t
    → (live (create d name k) w).answer ≡ told (Ok c.inode)
fourteen w d t name k c e h u = created w d name k c t (fourteen_legal name e h) u

-- ---- writes
-- "the limit becomes 2,752 bytes"
file_size : (w : World) (i : ℕ) → Ready w → is_file w.store (inodes w) i ≡ true → size_of w.store i ≤ most_file_bytes
unfolding is_kind
file_size w i r f =
    let s = w.store in
    let n = inodes w in
    let a = and_left (leb 1 i) (leb i n && eqb (kind_of s i) file_kind) f in
    let b = and_left (leb i n) (eqb (kind_of s i) file_kind) (and_right (leb 1 i) (leb i n && eqb (kind_of s i) file_kind) f) in
    size_most (((is_sound_lem Store s).to r.sound).inodes i (leb-true 1 i a) (leb-true i n b))

module _ (w : World) (i o : ℕ) (xs : List ℕ) (h : Writes w i o xs) where
  write_done : o ≤ size_of w.store i → o + length xs ≤ most_file_bytes → (live (write i o xs) w).answer ≡ told (Ok (max (size_of w.store i) (o + length xs)))
  unfolding write_table locks_any
  write_done a b =
      let r = h.ready in
      let z : size_of w.store i ≤ most_file_bytes = file_size w i r h.file in
      let f = h.free (max (size_of w.store i) (o + length xs)) (omega arith) in
      write_table_lem w i o xs
      ∙ rw (
        r.framed,
        r.desk,
        r.sound,
        r.notes,
        h.file,
        le-ltb (size_of w.store i) o a,
        le-ltb most_file_bytes (o + length xs) b,
        le-ltb (header_of w.store).free_blocks (blocks_used (max (size_of w.store i) (o + length xs)) - blocks_used (size_of w.store i)) f,
        h.idle,
      )

  write_refused : ltb (size_of w.store i) o || ltb most_file_bytes (o + length xs) ≡ true → (live (write i o xs) w).answer ≡ told (Err PastEnd)
  unfolding write_table locks_any
  write_refused q =
      let r = h.ready in
      write_table_lem w i o xs
      ∙ rw (r.framed, r.desk, r.sound, r.notes, h.file, q)

  to_2752 : o ≤ size_of w.store i → o + length xs ≡ most_file_bytes → (live (write i o xs) w).answer ≡ told (Ok most_file_bytes)
  to_2752 a b =
      let z : size_of w.store i ≤ most_file_bytes = file_size w i h.ready h.file in
      write_done a (omega arith) ∙ ap (λ (x : ℕ). told (Ok x)) (omega arith)

  to_2753 : o + length xs ≡ most_file_bytes + 1 → (live (write i o xs) w).answer ≡ told (Err PastEnd)
  to_2753 b = write_refused (or_r (ltb (size_of w.store i) o) (ltb most_file_bytes (o + length xs)) (lt-ltb most_file_bytes (o + length xs) (omega arith)))

  at_size : o ≡ size_of w.store i → o + length xs ≤ most_file_bytes → (live (write i o xs) w).answer ≡ told (Ok (o + length xs))
  at_size a b = write_done (omega arith) b ∙ ap (λ (x : ℕ). told (Ok x)) (omega arith)

  past_size : o ≡ size_of w.store i + 1 → (live (write i o xs) w).answer ≡ told (Err PastEnd)
  past_size a = write_refused (or_l (ltb (size_of w.store i) o) (ltb most_file_bytes (o + length xs)) (lt-ltb (size_of w.store i) o (omega arith)))

-- ---- slots
module _ (w : World) (d : ℕ) (name : List ℕ) (k : Kind) (c : Creates w d name) (legal-name : legal_name name ≡ true) (all : slots w.store d ≡ 48) where
  some_slot : (t : ℕ) → t < 48 → slot_empty w.store (inodes w) d t ≡ true → (u : ℕ) × (empty_slot w.store (inodes w) d ≡ Some u)
  unfolding empty_slot first
  some_slot t l e =
      let r = lowest_of (slot_empty w.store (inodes w) d) 0 (slots w.store d) t (omega arith) (omega arith) e in
      (r.0, lowest_found (slot_empty w.store (inodes w) d) 0 (slots w.store d) r.0 r.1)

  none : ((t : ℕ) → t < 48 → slot_empty w.store (inodes w) d t ≡ false) → empty_slot w.store (inodes w) d ≡ None
  unfolding empty_slot first
  none h = absent_of (slot_empty w.store (inodes w) d) 0 (slots w.store d) (λ j a b. h j (omega arith))

  last_slot : (t : ℕ) → t < 48 → slot_empty w.store (inodes w) d t ≡ true → (live (create d name k) w).answer ≡ told (Ok c.inode)
  last_slot t l e = let u = some_slot t l e in created w d name k c u.0 legal-name u.1

  twelve : blocks_used (size_of w.store d) ≡ 12
  unfolding slots
  twelve = omega arith

  no_slot : ((t : ℕ) → t < 48 → slot_empty w.store (inodes w) d t ≡ false) → (live (create d name k) w).answer ≡ told (Err NoSlot)
  unfolding create_table locks_any
  no_slot h =
      let r = c.ready in
      create_table_lem w d name k
      ∙ rw (r.framed, r.desk, r.sound, r.notes, legal-name, c.directory, c.new, c.free, none h, twelve)

blocks_allowed : (d : List ℕ) → is_running d ≡ true → blocks_fit d ≡ true → (1 ≤ (desk_of d).blocks) × ((desk_of d).blocks ≤ 4096)
unfolding is_running blocks_fit
blocks_allowed d h f =
    let q : (desk_of d).state ≡ 1 = eqb-true (desk_of d).state 1 h in
    let g : leb 1 (desk_of d).blocks && leb (desk_of d).blocks 4096 ≡ true = rw (ne_eqb (desk_of d).state 0 (omega arith)) at f in (
      leb-true 1 (desk_of d).blocks (and_left (leb 1 (desk_of d).blocks) (leb (desk_of d).blocks 4096) g),
      leb-true (desk_of d).blocks 4096 (and_right (leb 1 (desk_of d).blocks) (leb (desk_of d).blocks 4096) g),
    )

-- the image of a running copy has a length that a start allows
allowed : (w : World) → Ready w → is_running w.desk ≡ true → image_allowed (inodes w) (length w.image) ≡ true
unfolding notes_fit desk_fits image_fits
allowed w r h =
    let d = w.desk in
    let a : desk_fits d ≡ true = and_left _ _ r.notes in
    let b = and_right (desk_fits d) _ r.notes in
    let c : (desk_of d).inodes ≡ inodes w = eqb-true _ _ (and_left (eqb (desk_of d).inodes (inodes w)) _ b) in
    let e : image_fits w.store w.image d ≡ true = or_right (not (is_running d)) (image_fits w.store w.image d) (ap not h) (and_right (eqb (desk_of d).inodes (inodes w)) _ b) in
    let f : length w.image ≡ store_length (desk_of d).inodes (desk_of d).blocks = eqb-true _ _ (and_left (eqb (length w.image) (store_length (desk_of d).inodes (desk_of d).blocks)) _ e) in
    let g : blocks_fit d ≡ true = and_left (blocks_fit d) _ (and_right (leb (desk_of d).state 3) _ a) in
    let k = blocks_allowed d h g in
    let z = (framed Store w.store).to r.framed in
    image_allowed_lem (inodes w) (desk_of d).blocks (length w.image) (record { some_inodes = z.some_inodes; most_inodes_lem = z.most_inodes_lem; some_blocks = k.0; most_blocks_lem = k.1; long = omega arith })

second_start : (w : World) → Ready w → is_running w.desk ≡ true → (start w.store w.image w.desk).answer ≡ told (Err WrongState)
unfolding start_table
second_start w r h = start_table_lem w.store w.image w.desk ∙ rw (r.framed, r.desk, allowed w r h, r.sound, r.notes, h)

-- ---- the table
pub track_cases : TrackCases
unfolding outcome
track_cases = record {
  three_steps = three_steps;
  finish = finish;
  fourteen = λ w d t name k c l h u. fourteen w d t name k c l h u;
  fifteen = fifteen;
  to_2752 = to_2752;
  to_2753 = to_2753;
  at_size = at_size;
  past_size = past_size;
  last_slot = λ w d t name k c l a b e. last_slot w d name k c l a t b e;
  no_slot = λ w d name k c l a h. no_slot w d name k c l a h;
  fourteen_shown = fourteen_shown;
  fifteen_shown = fifteen_shown;
  end_shown = end_shown;
  past_end_shown = past_end_shown;
  at_size_shown = at_size_shown;
  past_size_shown = past_size_shown;
  last_slot_shown = last_slot_shown;
  no_slot_shown = no_slot_shown;
  twelfth_block = twelfth_block;
  reused_block_lem = reused_block_lem.1;
  reused_block_done = reused_block_lem.0;
  over_the_edge_lem = over_the_edge_lem.1;
  over_the_edge_done = over_the_edge_lem.0;
  moved_directory_lem = moved_directory_lem.1;
  moved_directory_done = moved_directory_lem.0;
  unlinked_file_lem = unlinked_file_lem.1;
  unlinked_file_done = unlinked_file_lem.0;
  second_start = second_start;
  into_child = into_child;
  replaced_file_lem = replaced_file_lem.1;
  replaced_file_done = replaced_file_lem.0;
  onto_taken = onto_taken;
  onto_full = onto_full;
  onto_other_kind = onto_other_kind;
  into_child_taken = into_child_taken;
  recorder_keeps = recorder_keeps;
}
