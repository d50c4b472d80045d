-- "a definition gives this paper's number and values for each case of the enum"
use Rattle.std.specs.Prelude.{ℕ, List, [], ◌∷◌, Result, Ok, Err}
use Rattle.answers.specs.declared.Refusal.{Refusal}
use Rattle.answers.specs.Refusal.{refusal_number}

-- what a call answers: the number that the paper names for it, 0 where it names none, or a refusal
abbrev pub Answer : Type 0
Answer = Result ℕ Refusal

-- the number of the refusal, 0 for none, and the values
pub record Told : Type 0 where
  pub number : ℕ
  pub values : List ℕ

abbrev pub told : Answer → Told
told (Ok x) = record { number = 0; values = x ∷ [] }
told (Err e) = record { number = refusal_number e; values = [] }
