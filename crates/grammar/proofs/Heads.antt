-- The sign at a place, and what the definition's reader does at the first of what is left.
-- Assumes nothing.
use mathlib.Core.Path.{◌≡◌, refl, ap, ◌∙◌}
use mathlib.Core.Bool.{Bool, true, false, cond}
use mathlib.Core.Option.{none, some}
use mathlib.Core.List.{List, [], ◌∷◌}
use Prim.Native.Nat.{ℕ, zero, suc, ◌+◌, ◌≤◌, ◌<◌}
use native.Mathlib.Omega.{arith}
use lib.Dec.{leb-zero, leb-suc-zero, leb-suc-suc}
use lib.ListN.{length, drop}
use Rattle.std.specs.Prelude.{Option, Some, None}
use Rattle.signs.specs.declared.sign.Jumped.TheVariants.{Dc}
use Rattle.signs.specs.declared.sign.Sign.{Sign}
use Rattle.signs.specs.declared.sign.Sign.TheVariants.{Block, LeftRepeat, RightRepeat, OpenEnding, CloseEnding, Jump}
use Rattle.signs.specs.declared.sign.Sign.TheVariants.{Time as TimeSign}
use Rattle.signs.specs.Words.{sign_of}
use Rattle.score.specs.Trees.{block, Left, Run, ◌▸◌, Item, Ends}
use Rattle.score.specs.Readings.{is_group}
use Rattle.score.proofs.Alphabet.{Kind, plays, time, opens, closes, left, right, mark, strange, sign_kind, kind_of, mark_sign}
use Rattle.score.proofs.Reader.{ended, halted_in, Got, read_run, after_run, after_end, after_first, part_end, Ran, halted, past, past_if, continues, continues_left}
use Rattle.grammar.specs.declared.stretch.Last.{Last}
use Rattle.grammar.specs.declared.stretch.Last.TheVariants.{Plain, Group}
use Rattle.grammar.specs.Kinds.{kinds_of, sign_at, halt_by, halt_at, another_ending, goes_on, ends_by, ends_here}

-- the first of what is left, as a sign
abbrev pub kind_sign : Kind → Option Sign
kind_sign (plays (block k n)) = Some (Block k n)
kind_sign (time m n) = Some (TimeSign m n)
kind_sign opens = Some LeftRepeat
kind_sign closes = Some RightRepeat
kind_sign left = Some OpenEnding
kind_sign right = Some CloseEnding
kind_sign (mark j) = Some (mark_sign j)
kind_sign strange = None

abbrev pub head_sign : List Kind → Option Sign
head_sign [] = None
head_sign (x ∷ l) = kind_sign x

sign_again : (o : Option Sign) → o ≡ kind_sign (kind_of o)
sign_again (Some (Jump Dc)) = refl
sign_again _ = refl

pub sign_head : (w : List ℕ) (at : ℕ) → sign_at w at ≡ head_sign (drop at (kinds_of w))
unfolding sign_at
sign_head [] zero = refl
sign_head [] (suc at) = refl
sign_head (x ∷ w) zero = sign_again (sign_of x)
sign_head (x ∷ w) (suc at) = sign_head w at

-- a sign stands at a place
pub stands : (w : List ℕ) (at : ℕ) (s : Sign) → sign_at w at ≡ Some s → (at < length w) × (drop at (kinds_of w) ≡ sign_kind s ∷ drop (at + 1) (kinds_of w))
unfolding sign_at
stands [] at s e = cc
stands (x ∷ w) zero s e = (omega arith, ap (λ o. kind_of o ∷ kinds_of w) e)
stands (x ∷ w) (suc at) s e =
    let h = stands w at s e in
    let n : suc (at + 1) ≡ suc at + 1 = omega arith in
    (omega arith, h.1 ∙ ap (λ q. sign_kind s ∷ drop q (kinds_of (x ∷ w))) n)

-- none stands past the end
pub past_end : (w : List ℕ) (at : ℕ) → length w ≤ at → drop at (kinds_of w) ≡ []
past_end [] zero h = refl
past_end [] (suc at) h = refl
past_end (x ∷ w) zero h = absurd (omega arith)
past_end (x ∷ w) (suc at) h = past_end w at (omega arith)

-- an item begins with a sign; a sign closes what a `|:` opened, or begins its endings; one closes an ending
abbrev pub starts_item : Option Sign → Bool
starts_item (Some (Block k n)) = true
starts_item (Some LeftRepeat) = true
starts_item _ = false

abbrev pub ends_left : Option Sign → Bool
ends_left (Some RightRepeat) = true
ends_left (Some OpenEnding) = true
ends_left _ = false

abbrev pub ends_ending : Option Sign → Bool
ends_ending (Some CloseEnding) = true
ends_ending _ = false

-- a run ends where no item begins
pub run_ends : (n : ℕ) (t : Run) (l : List Kind) → starts_item (head_sign l) ≡ false → read_run (suc n) t l ≡ ended t l
run_ends n t (plays (block k m) ∷ l) e = cc
run_ends n t (opens ∷ l) e = cc
run_ends n t _ e = refl

-- neither `:|` nor `[` stands after the run of a `|:`
pub run_wrong : (f : Run → List Kind → Got) (r : Run) (i : Item) (l : List Kind) → ends_left (head_sign l) ≡ false → after_run f (ended (r ▸ i) l) ≡ halted_in l
run_wrong f r i (closes ∷ l) e = cc
run_wrong f r i (left ∷ l) e = cc
run_wrong f r i _ e = refl

-- what is left is not moved past where no `:|` stands
not_past : (l : List Kind) → (head_sign l ≡ Some RightRepeat → ⊥) → past l ≡ l
not_past (closes ∷ l) h = absurd (h refl)
not_past _ h = refl

abbrev NotClosed : List Kind → Type 0
NotClosed (closes ∷ l) = ⊥
NotClosed _ = Unit {0}

past_if_other : (b : Bool) (l : List Kind) → NotClosed l → l ≡ past_if b l
past_if_other true (closes ∷ l) h = absurd h
past_if_other true _ h = refl
past_if_other false l h = refl

-- no `]` stands after the run of an ending
pub end_wrong : (f : Run → List Kind → Got) (o : Left) (m : Run) (es : Ends) (r : Run) (i : Item) (l : List Kind) → ends_ending (head_sign l) ≡ false
    → after_end f o m es (ended (r ▸ i) l) ≡ halted_in (past_if (is_group i) l)
end_wrong f o m es r i (right ∷ l) h = cc
end_wrong f o m es r i (closes ∷ l) h = refl
end_wrong f o m es r i l h = ap halted_in (past_if_other (is_group i) l tt)

module _ (w : List ℕ) (at : ℕ) where
  abbrev here : List Kind
  here = drop at (kinds_of w)

  -- the place of what is left after a `:|`
  past_is : (o : Option Sign) → sign_at w at ≡ o → past here ≡ drop (halt_by Group o at) (kinds_of w)
  past_is (Some RightRepeat) e = rw (stands w at RightRepeat e).1
  past_is _ e = not_past here (λ h. let k = sign_head w at in cc)

  pub halt_is : (b : Bool) → past_if b here ≡ drop (halt_at w (cond b Group Plain) at).at (kinds_of w)
  halt_is true = past_is (sign_at w at) refl
  halt_is false = refl

  pub halt_within : (last : Last) → at ≤ length w → (halt_at w last at).at ≤ length w
  halt_within last h = go last (sign_at w at) refl
    where
      go : (x : Last) (o : Option Sign) → sign_at w at ≡ o → halt_by x o at ≤ length w
      go Group (Some RightRepeat) e = let i = (stands w at RightRepeat e).0 in omega arith
      go _ _ e = h

  -- whether `:|` `[` stand at a place
  not_left : (l : List Kind) → (head_sign l ≡ Some OpenEnding → ⊥) → continues_left l ≡ none
  not_left (left ∷ l) h = absurd (h refl)
  not_left _ h = refl

  not_close : (l : List Kind) → (head_sign l ≡ Some RightRepeat → ⊥) → continues l ≡ none
  not_close (closes ∷ l) h = absurd (h refl)
  not_close _ h = refl

  pub goes_on_is : continues here ≡ cond (goes_on w at) (some (drop (at + 2) (kinds_of w))) none
  goes_on_is = go (sign_at w at) (sign_at w (at + 1)) refl refl
    where
      go : (o p : Option Sign) → sign_at w at ≡ o → sign_at w (at + 1) ≡ p → continues here ≡ cond (another_ending o p) (some (drop (at + 2) (kinds_of w))) none
      go (Some RightRepeat) (Some OpenEnding) e f =
          let h : at + 2 ≡ at + 1 + 1 = omega arith in
          rw (h, (stands w at RightRepeat e).1, (stands w (at + 1) OpenEnding f).1)
      go (Some RightRepeat) _ e f = rw (stands w at RightRepeat e).1 (not_left (drop (at + 1) (kinds_of w)) (λ h. let k = sign_head w (at + 1) in cc))
      go _ _ e f = not_close here (λ h. let k = sign_head w at in cc)

  pub goes_within : goes_on w at ≡ true → at + 2 ≤ length w
  goes_within = go (sign_at w at) (sign_at w (at + 1)) refl
    where
      go : (o p : Option Sign) → sign_at w (at + 1) ≡ p → another_ending o p ≡ true → at + 2 ≤ length w
      go (Some RightRepeat) (Some OpenEnding) f h = let i = (stands w (at + 1) OpenEnding f).0 in omega arith
      go _ _ f h = cc

-- the last run of a part ends at a sign between runs or at the end, and at no other
abbrev pub ends_list : List Kind → Bool
ends_list [] = true
ends_list (mark j ∷ l) = true
ends_list _ = false

ends_kind : (o : Option Sign) (l : List Kind) → ends_by o false ≡ ends_list (kind_of o ∷ l)
ends_kind (Some (Jump j)) l = refl
ends_kind _ l = refl

pub ends_is : (w : List ℕ) (at : ℕ) → ends_here w at ≡ ends_list (drop at (kinds_of w))
unfolding sign_at
ends_is [] zero = refl
ends_is [] (suc at) = ap (ends_by None) (leb-zero (suc at))
ends_is (x ∷ w) zero = ap (ends_by (sign_of x)) (leb-suc-zero (length w)) ∙ ends_kind (sign_of x) (kinds_of w)
ends_is (x ∷ w) (suc at) = ap (ends_by (sign_at w at)) (leb-suc-suc (length w) at) ∙ ends_is w at

module _ (r : Run) (i : Item) where
  pub first_left : (F : Run → List Kind → Ran) (G : Run → List Kind → Got) (l : List Kind) → ends_list l ≡ true → after_first F G (ended (r ▸ i) l) ≡ ended (r ▸ i) l
  first_left F G [] h = refl
  first_left F G (mark j ∷ l) h = refl
  first_left F G _ h = cc

  pub first_wrong : (F : Run → List Kind → Ran) (G : Run → List Kind → Got) (l : List Kind) → ends_left (head_sign l) ≡ false → ends_list l ≡ false → after_first F G (ended (r ▸ i) l) ≡ halted l
  first_wrong F G [] g h = cc
  first_wrong F G (mark j ∷ l) g h = cc
  first_wrong F G (closes ∷ l) g h = cc
  first_wrong F G (left ∷ l) g h = cc
  first_wrong F G _ g h = refl

  pub part_left : (l : List Kind) → ends_list l ≡ true → part_end (ended (r ▸ i) l) ≡ ended (r ▸ i) l
  part_left [] h = refl
  part_left (mark j ∷ l) h = refl
  part_left _ h = cc

  pub part_wrong : (l : List Kind) → ends_list l ≡ false → part_end (ended (r ▸ i) l) ≡ halted (past_if (is_group i) l)
  part_wrong [] h = cc
  part_wrong (mark j ∷ l) h = cc
  part_wrong (closes ∷ l) h = refl
  part_wrong l h = ap halted (past_if_other (is_group i) l tt)
