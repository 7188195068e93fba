-- Numbers at the edges of their rules, and where the first that breaks one stands; by computation on the definitions.
-- Assumes nothing.
use Rattle.std.specs.Prelude.{Option, None, Some, List, [], ◌∷◌, map, ℕ}
use Rattle.std.proofs.Common.{◌≡◌, refl}
use Rattle.refusals.specs.Limits.{document01}
use Rattle.signs.specs.declared.sign.Sign.{Sign}
use Rattle.signs.specs.declared.sign.Sign.TheVariants.{Block, Time, LeftRepeat, RightRepeat}
use Rattle.score.specs.Numbers.{first_break}

-- signs, and the place of the first that breaks its rule
pub record Example : Type 0 where
  pub signs : List Sign
  pub place : Option ℕ

abbrev kept : List Sign → Example
kept s = record { signs = s; place = None }

abbrev broken : List Sign → ℕ → Example
broken s i = record { signs = s; place = Some i }

abbrev table : List Example
table =
    kept []
    ∷ broken (Block 0 0 ∷ []) 0
    ∷ kept (Block 0 1 ∷ [])
    ∷ broken (Block 1 1 ∷ []) 0
    ∷ kept (Block 0 999999 ∷ [])
    ∷ broken (Block 0 1000000 ∷ []) 0
    ∷ kept (Block 0 999998 ∷ Block 999998 1 ∷ [])
    ∷ broken (Block 0 999998 ∷ Block 999998 2 ∷ []) 1
    ∷ kept (Block 0 4 ∷ LeftRepeat ∷ Block 4 4 ∷ RightRepeat ∷ Block 8 4 ∷ [])
    ∷ broken (Block 0 4 ∷ LeftRepeat ∷ Block 5 4 ∷ RightRepeat ∷ Block 9 0 ∷ []) 2
    ∷ broken (Block 0 4 ∷ LeftRepeat ∷ Block 3 4 ∷ RightRepeat ∷ []) 2
    ∷ broken (Time 0 4 ∷ Block 1 4 ∷ []) 0
    ∷ kept (Time 1 1 ∷ [])
    ∷ kept (Time 99 64 ∷ [])
    ∷ broken (Time 100 4 ∷ []) 0
    ∷ broken (Time 4 0 ∷ []) 0
    ∷ broken (Time 4 3 ∷ []) 0
    ∷ broken (Time 4 96 ∷ []) 0
    ∷ broken (Time 4 128 ∷ []) 0
    ∷ []

-- each example's first break is the definition's
pub examples : map (λ x. first_break document01 0 x.signs) table ≡ map (λ x. x.place) table
examples = refl
