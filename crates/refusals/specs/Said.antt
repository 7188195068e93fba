-- What is said of an answer in document 01's numbers: a refusal's number, here 0 where there is none, and values.
-- Assumes nothing.
use Rattle.std.specs.Prelude.{List, [], ◌∷◌, ℕ}
use Rattle.refusals.specs.declared.Refusal.{Refusal}
use Rattle.refusals.specs.Limits.{Limits}
use Rattle.refusals.specs.Refusals.{number_of, place_of}

pub record Said : Type 0 where
  pub number : ℕ
  pub values : List ℕ

abbrev pub said : ℕ → List ℕ → Said
said n vs = record { number = n; values = vs }

-- of a refusal its number and place, and nothing else
abbrev pub said_refusal : Limits → Refusal → Said
said_refusal l r = said (number_of r) (place_of l r ∷ [])
