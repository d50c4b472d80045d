-- The laws of every call's effect. n and b are the counts of inodes and blocks.
use Prim.Native.Nat.{ℕ}
use mathlib.Core.List.{List}
use Rattle.sound.specs.Counted.{SoundStore}
use Rattle.files.specs.Effect.{Call, look_up, read, create, write, shorten, link, unlink, rename, rename_new, planned}
use Rattle.files.proofs.Lawful.{Lawful, Each}
use Rattle.files.proofs.LawfulStays.{lawful_look_up, lawful_read}
use Rattle.files.proofs.LawfulEnter.{lawful_create, lawful_link}
use Rattle.files.proofs.LawfulContent.{lawful_write, lawful_shorten}
use Rattle.files.proofs.LawfulUnlink.{lawful_unlink}
use Rattle.files.proofs.LawfulRename.{lawful_rename, lawful_rename_new}

pub lawful : (c : Call) {s : List ℕ} {n b : ℕ} → SoundStore s n b → Each (Lawful s n) (planned c s n b)
lawful (look_up d name) {b = b} h = lawful_look_up _ _ b d name h.sound
lawful (read i o out) {b = b} h = lawful_read _ _ b i o out h.sound
lawful (create d name k) h = lawful_create _ _ _ d name k h
lawful (write i o xs) h = lawful_write _ _ _ i o xs h
lawful (shorten i z) h = lawful_shorten _ _ _ i z h
lawful (link d name i) h = lawful_link _ _ _ d name i h
lawful (unlink d name) h = lawful_unlink _ _ _ d name h
lawful (rename d name e other) h = lawful_rename _ _ _ d name e other h
lawful (rename_new d name e other) h = lawful_rename_new _ _ _ d name e other h
