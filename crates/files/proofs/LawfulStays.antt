-- The laws of an effect that leaves the store as it was: look up, read, and a rename to the same name. n and b are the counts of inodes and blocks.
use Rattle.std.specs.Prelude.{Err, Ok}
use Prim.Native.Nat.{ℕ}
use mathlib.Core.Path.{refl}
use mathlib.Core.Logic.{inl}
use mathlib.Core.List.{List, []}
use lib.ListN.{length}
use Rattle.sound.specs.Sound.{Sound}
use Rattle.sound.specs.declared.Form.TheVariants.{Store}
use Rattle.preservation.proofs.SameLaws.{frame_stays, inode_stays, same_body}
use Rattle.content.specs.Plan.{read_plan}
use Rattle.entries.specs.Plan.{look_up_plan}
use Rattle.files.specs.Effect.{do_look_up, do_read, planned, look_up, read}
use Rattle.files.proofs.Lawful.{SameNaming, Lawful, Each}
use Rattle.answers.specs.Told.{Answer}

-- ---- a store as it was
naming_stays : (s : List ℕ) (n q : ℕ) → SameNaming s s n q
naming_stays s n q = record { stands = refl; names = refl }

pub same_store : (s : List ℕ) (n a : ℕ) (out is : List ℕ) → Sound Store s
    → Lawful s n (record { answer = a; store = s; out = out; touches = is; writes = []; taken = []; made = [] })
same_store s n a out is h = record {
  sound = h;
  frame = frame_stays s;
  stood = tt;
  gone = tt;
  stands = tt;
  bare = tt;
  distinct = tt;
  swaps = tt;
  others = λ q l _ _. naming_stays s n q;
  kinds = λ j _ _ _. inl refl;
  untouched = λ j _ _ _ _. record { inode = inode_stays s n j; bytes = λ k l. refl };
  contents = λ j _ _ _ _ _. record { body = same_body (inode_stays s n j); bytes = λ k l. refl };
  apart = λ j _. (tt, tt);
}

pub lawful_look_up : (s : List ℕ) (n b d : ℕ) (name : List ℕ) → Sound Store s → Each (Lawful s n) (planned (look_up d name) s n b)
lawful_look_up s n b d name h = go (look_up_plan s n d name)
  where
    go : (p : Answer) → Each (Lawful s n) (do_look_up s p)
    go (Ok i) = same_store s n i [] [] h
    go (Err w) = tt

pub lawful_read : (s : List ℕ) (n b i o : ℕ) (out : List ℕ) → Sound Store s → Each (Lawful s n) (planned (read i o out) s n b)
lawful_read s n b i o out h = go (read_plan s n i o (length out))
  where
    go : (p : Answer) → Each (Lawful s n) (do_read s n i o out p)
    go (Ok k) = same_store s n k _ [] h
    go (Err w) = tt
