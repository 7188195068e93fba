-- The signs by what the grammar makes of them.
-- Assumes nothing.
use mathlib.Core.Path.{◌≡◌, refl}
use mathlib.Core.List.{List, [], ◌∷◌, map}
use Prim.Native.Nat.{ℕ}
use Rattle.signs.specs.declared.sign.Jumped.{Jumped}
use Rattle.signs.specs.declared.sign.Jumped.TheVariants.{Dc, DcCoda, DcFine, Ds, DsCoda, DsFine}
use Rattle.signs.specs.declared.sign.Sign.{Sign}
use Rattle.signs.specs.declared.sign.Sign.TheVariants.{Block, Time, LeftRepeat, RightRepeat, OpenEnding, CloseEnding, Jump, Segno, Coda, ToCoda, Fine}
use Rattle.signs.specs.Words.{Unpacked}
use Rattle.std.specs.Prelude.{Some as Packed, None as Nothing}
use Rattle.score.specs.Trees.{Leaf, block}
use Rattle.score.specs.Spelling.{leaf_sign}

-- the signs that stand between the runs of a shape
pub data Mark : Type 0 where
  to_dc to_dc_coda to_dc_fine to_ds to_ds_coda to_ds_fine at_segno at_coda at_to_coda at_fine : Mark
  deriving Discrete as Mark-discrete

pub data Kind : Type 0 where
  plays : Leaf → Kind
  time : ℕ → ℕ → Kind
  opens closes left right : Kind
  mark : Mark → Kind
  strange : Kind

abbrev pub jump_mark : Jumped → Mark
jump_mark Dc = to_dc
jump_mark DcCoda = to_dc_coda
jump_mark DcFine = to_dc_fine
jump_mark Ds = to_ds
jump_mark DsCoda = to_ds_coda
jump_mark DsFine = to_ds_fine

abbrev pub sign_kind : Sign → Kind
sign_kind (Block k l) = plays (block k l)
sign_kind (Time m n) = time m n
sign_kind LeftRepeat = opens
sign_kind RightRepeat = closes
sign_kind OpenEnding = left
sign_kind CloseEnding = right
sign_kind (Jump j) = mark (jump_mark j)
sign_kind Segno = mark at_segno
sign_kind Coda = mark at_coda
sign_kind ToCoda = mark at_to_coda
sign_kind Fine = mark at_fine

abbrev pub kind_of : Unpacked → Kind
kind_of (Packed x) = sign_kind x
kind_of Nothing = strange

abbrev pub mark_sign : Mark → Sign
mark_sign to_dc = Jump Dc
mark_sign to_dc_coda = Jump DcCoda
mark_sign to_dc_fine = Jump DcFine
mark_sign to_ds = Jump Ds
mark_sign to_ds_coda = Jump DsCoda
mark_sign to_ds_fine = Jump DsFine
mark_sign at_segno = Segno
mark_sign at_coda = Coda
mark_sign at_to_coda = ToCoda
mark_sign at_fine = Fine

-- the sign of a kind, as a list that is empty where there is none
abbrev pub spelt : Kind → List Sign
spelt (plays x) = leaf_sign x ∷ []
spelt (time m n) = Time m n ∷ []
spelt opens = LeftRepeat ∷ []
spelt closes = RightRepeat ∷ []
spelt left = OpenEnding ∷ []
spelt right = CloseEnding ∷ []
spelt (mark j) = mark_sign j ∷ []
spelt strange = []

pub sign_of_kind : (x : Sign) → spelt (sign_kind x) ≡ x ∷ []
sign_of_kind (Block k l) = refl
sign_of_kind (Time m n) = refl
sign_of_kind LeftRepeat = refl
sign_of_kind RightRepeat = refl
sign_of_kind OpenEnding = refl
sign_of_kind CloseEnding = refl
sign_of_kind (Jump Dc) = refl
sign_of_kind (Jump DcCoda) = refl
sign_of_kind (Jump DcFine) = refl
sign_of_kind (Jump Ds) = refl
sign_of_kind (Jump DsCoda) = refl
sign_of_kind (Jump DsFine) = refl
sign_of_kind Segno = refl
sign_of_kind Coda = refl
sign_of_kind ToCoda = refl
sign_of_kind Fine = refl

abbrev pub kinds : List Sign → List Kind
kinds = map sign_kind
