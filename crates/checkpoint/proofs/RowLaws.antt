-- The rows of each table stand in the order of looking. s is the store, m the image, d the desk.
use mathlib.Core.Path.{◌≡◌, refl}
use mathlib.Core.Bool.{true}
use mathlib.Core.List.{List}
use Prim.Native.Nat.{ℕ}
use Rattle.answers.specs.Order.{is_in_order}
use Rattle.checkpoint.specs.Table.{live_rows, look_up_table, read_table, create_table, write_table, shorten_table, link_table, unlink_table, rename_table, rename_new_table, start_table, step_table, burst_table}

-- ---- each table is in order
module _ (s : List ℕ) where
  pub look_up_in_order : (e : ℕ) (name : List ℕ) → is_in_order 0 (look_up_table s e name) ≡ true
  unfolding look_up_table
  look_up_in_order e name = refl

  pub read_in_order : (i o : ℕ) → is_in_order 0 (read_table s i o) ≡ true
  unfolding read_table
  read_in_order i o = refl

module _ (s m d : List ℕ) where
  pub create_in_order : (e : ℕ) (name : List ℕ) → is_in_order 0 (create_table s m d e name) ≡ true
  unfolding create_table
  create_in_order e name = refl

  pub write_in_order : (i o : ℕ) (xs : List ℕ) → is_in_order 0 (write_table s m d i o xs) ≡ true
  unfolding write_table
  write_in_order i o xs = refl

  pub shorten_in_order : (i z : ℕ) → is_in_order 0 (shorten_table s m d i z) ≡ true
  unfolding shorten_table
  shorten_in_order i z = refl

  pub link_in_order : (e : ℕ) (name : List ℕ) (i : ℕ) → is_in_order 0 (link_table s m d e name i) ≡ true
  unfolding link_table
  link_in_order e name i = refl

  pub unlink_in_order : (e : ℕ) (name : List ℕ) → is_in_order 0 (unlink_table s m d e name) ≡ true
  unfolding unlink_table
  unlink_in_order e name = refl

  pub rename_in_order : (e : ℕ) (name : List ℕ) (f : ℕ) (other : List ℕ) → is_in_order 0 (rename_table s m d e name f other) ≡ true
  unfolding rename_table
  rename_in_order e name f other = refl

  pub rename_new_in_order : (e : ℕ) (name : List ℕ) (f : ℕ) (other : List ℕ) → is_in_order 0 (rename_new_table s m d e name f other) ≡ true
  unfolding rename_new_table
  rename_new_in_order e name f other = refl

  pub start_in_order : is_in_order 0 (start_table s m d) ≡ true
  unfolding start_table
  start_in_order = refl

  pub step_in_order : is_in_order 0 (step_table s m d) ≡ true
  unfolding step_table
  step_in_order = refl

  pub burst_in_order : (k : ℕ) → is_in_order 0 (burst_table k s m d) ≡ true
  unfolding burst_table step_table
  burst_in_order k = refl

  pub status_in_order : is_in_order 0 (live_rows s m d) ≡ true
  status_in_order = refl
