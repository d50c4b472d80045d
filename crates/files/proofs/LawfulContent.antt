-- The laws of the effects of write and shorten: file i alone changes. n and b are the counts of inodes and blocks.
use Rattle.std.specs.Prelude.{Err, Ok}
use Prim.Native.Nat.{ℕ, ◌≤◌}
use mathlib.Core.Path.{◌≡◌, refl, sym, ap, ◌∙◌}
use mathlib.Core.Logic.{inl}
use mathlib.Core.List.{List}
use native.Mathlib.Omega.{arith}
use lib.ListN.{length}
use Rattle.layout.specs.Inode.{kind_of, file_kind}
use Rattle.sound.specs.Sound.{Sound}
use Rattle.sound.specs.Counted.{SoundStore}
use Rattle.sound.specs.declared.Form.TheVariants.{Store}
use Rattle.preservation.proofs.SameLaws.{same_body}
use Rattle.layout.proofs.KindLaws.{kind_some, kind_most, kind_is}
use Rattle.preservation.proofs.KeepLaws.{SameTree, file_tree}
use Rattle.growth.proofs.FileFrame.{InFile}
use Rattle.content.specs.Content.{cut_to}
use Rattle.content.specs.Plan.{write_plan, shorten_plan}
use Rattle.content.specs.Apply.{written}
use Rattle.content.proofs.FileLaws.{Holds}
use Rattle.content.proofs.PlanFacts.{writes, shortens}
use Rattle.content.proofs.WriteLaws.{written_file, write_sound}
use Rattle.content.proofs.ShortenLaws.{cut_to_lem, shorten_sound}
use Rattle.files.specs.Effect.{rewrites, do_write, do_shorten, planned, write, shorten}
use Rattle.files.proofs.Lawful.{Lawful, Each}
use Rattle.answers.specs.Told.{Answer}

-- ---- the laws of such an effect
file_lawful : (s t : List ℕ) (n i z : ℕ) → Sound Store t → kind_of s i ≡ file_kind → 1 ≤ i → i ≤ n → InFile s t n i z → Lawful s n (rewrites z t i)
file_lawful s t n i z h f p q g =
    let tree : SameTree s t n = file_tree s t n i g.others g.kind g.links g.parent (λ z. omega arith)
    (λ d k l m z u. g.bytes d k l m (λ y. let w = sym (ap (kind_of s) y) ∙ z in omega arith) u) in
    record {
      sound = h;
      frame = g.frame;
      stood = tt;
      gone = tt;
      stands = tt;
      bare = tt;
      distinct = tt;
      swaps = tt;
      others = λ q l _ _. let p = tree.places q l in record { stands = p.stands; names = p.names };
      kinds = λ j l m _. inl (tree.kinds j l m);
      untouched = λ j l m _ z. record { inode = g.others j l m z.0; bytes = λ k u. g.bytes j k l m z.0 u };
      contents = λ j l m _ _ z. record { body = same_body (g.others j l m z.0); bytes = λ k u. g.bytes j k l m z.0 u };
      apart = λ j _. (tt, tt);
    }

-- ---- write
pub lawful_write : (s : List ℕ) (n b i o : ℕ) (xs : List ℕ) → SoundStore s n b → Each (Lawful s n) (planned (write i o xs) s n b)
lawful_write s n b i o xs h = go (write_plan s n i o (length xs)) refl
  where
    go : (p : Answer) → write_plan s n i o (length xs) ≡ p → Each (Lawful s n) (do_write s n b i o xs p)
    go (Err w) e = tt
    go (Ok z) e =
        let w = writes s n i o (length xs) z e in
        let f = w.file in
        file_lawful s (written s n b i o xs z) n i z (write_sound s n b i o xs z h e) (kind_is s n file_kind i f) (kind_some s n file_kind i f) (kind_most s n file_kind i f) (written_file s n b i o xs z h w)

-- ---- shorten
pub lawful_shorten : (s : List ℕ) (n b i z : ℕ) → SoundStore s n b → Each (Lawful s n) (planned (shorten i z) s n b)
lawful_shorten s n b i z h = go (shorten_plan s n i z) refl
  where
    go : (p : Answer) → shorten_plan s n i z ≡ p → Each (Lawful s n) (do_shorten s n i p)
    go (Err w) e = tt
    go (Ok v) e =
        let w = shortens s n i z v e in
        let f = w.file in
        let m = w.inside in
        let o = w.size in
        let k = kind_is s n file_kind i f in
        let low = kind_some s n file_kind i f in
        let high = kind_most s n file_kind i f in
        let g : Holds s n b i v = record { sound = h; low = low; high = high; kind = k; size = omega arith } in
        file_lawful s (cut_to s n i v) n i v (shorten_sound s n b i z v h e) k low high (cut_to_lem s n b i v g)
