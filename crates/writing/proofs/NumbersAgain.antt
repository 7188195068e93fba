-- Numbers that are written are read back.
-- Assumes nothing.
use Rattle.std.specs.Prelude.{Some}
use mathlib.Core.Path.{◌≡◌, refl, sym, ap, ◌∙◌}
use mathlib.Core.Bool.{Bool, true, false, not, ◌&&◌, ◌||◌}
use mathlib.Core.List.{List, [], ◌∷◌, ◌++◌, append_assoc}
use Prim.Native.Nat.{ℕ, ◌+◌, ◌≤◌, ◌<◌}
use native.Mathlib.Nat.{not-suc-le-zero}
use native.Mathlib.Omega.{arith}
use borrow.Author.Tests.{le-leb, ne_eqb, ltb-true, ltb-false}
use lib.Dec.{eqb, leb, ltb}
use lib.ListN.{length, get_or, drop, length-append}
use lib.Seq.{drop_at, get_or_at}
use Rattle.std.proofs.Common.{rules}
use Rattle.std.specs.Fmt.{decimal as shown}
use Rattle.std.proofs.lemmas.Fmt.{decimal_digit, decimal_nonempty, first_decimal, length-decimal-le, digits_decimal, digits_value-decimal}
use Rattle.std.proofs.lemmas.Str.Parse.{IsNumeralModel, numerals_by_fold}
use Rattle.signs.specs.Text.{past}
use Rattle.signs.specs.Numbers.{digit, leading, decimal, numeral, number_of, number_at, pair_at}
use Rattle.signs.proofs.Gaps.{past_here}
use Rattle.signs.proofs.Digits.{digit_range, pair_closed}
use Rattle.writing.proofs.Laying.{digits_written}
use Rattle.writing.specs.Spell.{digits, pair_text}

abbrev AllDigits : List ℕ → Type 0
AllDigits [] = Unit
AllDigits (d ∷ ds) = (digit d ≡ true) × AllDigits ds

leading_all : (ds rest : List ℕ) → AllDigits ds → leading rest ≡ [] → leading (ds ++ rest) ≡ ds
unfolding leading
leading_all [] rest a e = e
leading_all (d ∷ ds) rest a e = rw (a.0, leading_all ds rest a.1 e)

own : IsNumeralModel AllDigits (decimal 0)
unfolding decimal
own = numerals_by_fold AllDigits (search rules) decimal (search rules)

-- what stands at a place, by what stands before it
stands : (text p : List ℕ) (y : ℕ) (ys : List ℕ) (n : ℕ) → text ≡ p ++ y ∷ ys → length p ≡ n → get_or text n 0 ≡ y
stands text p y ys n e l = rw e (get_or_at p y ys 0 n l)

or_true : (b : Bool) → b || true ≡ true
or_true true = refl
or_true false = refl

module _ (n : ℕ) (h : n < 1000000) where
  all : AllDigits (digits n)
  all = rw (digits_written n h) (digits_decimal own n (omega arith))

  some : 1 ≤ length (digits n)
  some = rw (digits_written n h) (decimal_nonempty n (omega arith))

  says : decimal 0 (digits n) ≡ n
  says = rw (digits_written n h) (digits_value-decimal own n (omega arith))

  is_numeral : numeral (digits n) ≡ true
  unfolding numeral
  is_numeral = rw (digits_written n h) (go (ltb n 10) refl)
    where
      go : (t : Bool) → ltb n 10 ≡ t → leb 1 (length (shown n)) && (leb (length (shown n)) 6 && (eqb (length (shown n)) 1 || not (eqb (get_or (shown n) 0 0) 48))) ≡ true
      go true t = rw (decimal_digit n (ltb-true n 10 t))
      go false t =
          let f = first_decimal n (omega (arith, ltb-false n 10 t)) (omega arith) in
          let l = length-decimal-le 6 n (omega arith) (omega arith) (omega arith) in
          rw (le-leb 1 (length (shown n)) (decimal_nonempty n (omega arith)), le-leb (length (shown n)) 6 l, ne_eqb (get_or (shown n) 0 0) 48 (λ e. omega arith), or_true (eqb (length (shown n)) 1))

  number_read : (text p post : List ℕ) (at : ℕ) → text ≡ p ++ (digits n ++ post) → length p ≡ at → leading post ≡ [] → number_at text at ≡ Some (n, (at + length (digits n)))
  number_read text p post at e l z =
      let ds : leading (drop at text) ≡ digits n = ap leading (rw e (drop_at p (digits n ++ post) at l)) ∙ leading_all (digits n) post all z in
      ap (number_of at) ds ∙ rw (is_numeral, says)

  first_digit : (text p ds post : List ℕ) (at : ℕ) → text ≡ p ++ (ds ++ post) → length p ≡ at → AllDigits ds → 1 ≤ length ds → digit (get_or text at 0) ≡ true
  first_digit text p [] post at e l a g = absurd (not-suc-le-zero g)
  first_digit text p (d ∷ ds) post at e l a g = ap digit (stands text p d (ds ++ post) at e l) ∙ a.0

  -- no space stands before a digit
  no_space : (text p post : List ℕ) (at : ℕ) → text ≡ p ++ (digits n ++ post) → length p ≡ at → past true text at ≡ at
  no_space text p post at e l =
      let g = digit_range (get_or text at 0) (first_digit text p (digits n) post at e l all some) in
      past_here true text at (ne_eqb (get_or text at 0) 32 (λ q. omega arith))

  pub number_again : (text p post : List ℕ) (at : ℕ) → text ≡ p ++ (digits n ++ post) → length p ≡ at → leading post ≡ [] → number_at text (past true text at) ≡ Some (n, (at + length (digits n)))
  number_again text p post at e l z = ap (number_at text) (no_space text p post at e l) ∙ number_read text p post at e l z

leading_stop : (b : ℕ) (l : List ℕ) → digit b ≡ false → leading (b ∷ l) ≡ []
unfolding leading
leading_stop b l e = rw e

-- a pair that is written is read back
pub pair_again : (text p post : List ℕ) (k l at : ℕ) → k < 1000000 → l < 1000000 → text ≡ p ++ (pair_text k l ++ post) → length p ≡ at → pair_at text at ≡ Some (k, l, (at + length (pair_text k l)))
pair_again text p post k l at hk hl e lp =
    let p1 = p ++ digits k in
    let p2 = p1 ++ (44 ∷ []) in
    let p3 = p2 ++ digits l in
    let l1 : length p1 ≡ at + length (digits k) = omega (arith, length-append p (digits k)) in
    let l2 : length p2 ≡ at + length (digits k) + 1 = omega (arith, length-append p1 (44 ∷ [])) in
    let l3 : length p3 ≡ at + length (digits k) + 1 + length (digits l) = omega (arith, length-append p2 (digits l)) in
    let e0 : text ≡ p ++ (digits k ++ (44 ∷ (digits l ++ (41 ∷ post)))) = e ∙ simp append_assoc in
    let e1 : text ≡ p1 ++ (44 ∷ (digits l ++ (41 ∷ post))) = e ∙ simp append_assoc in
    let e2 : text ≡ p2 ++ (digits l ++ (41 ∷ post)) = e ∙ simp append_assoc in
    let e3 : text ≡ p3 ++ (41 ∷ post) = e ∙ simp append_assoc in
    let n1 = number_again k hk text p (44 ∷ (digits l ++ (41 ∷ post))) at e0 lp (leading_stop 44 _ refl) in
    let n2 = number_again l hl text p2 (41 ∷ post) (at + length (digits k) + 1) e2 l2 (leading_stop 41 _ refl) in
    let size : at + length (digits k) + 1 + length (digits l) + 1 ≡ at + length (pair_text k l) =
    omega (arith, length-append (digits k) (44 ∷ (digits l ++ (41 ∷ []))), length-append (digits l) (41 ∷ [])) in
    sym (pair_closed text at k (at + length (digits k)) n1 (stands text p1 44 (digits l ++ (41 ∷ post)) _ e1 l1) l (at + length (digits k) + 1 + length (digits l)) n2 (stands text p3 41 post _ e3 l3))
    ∙ ap (λ e. Some (k, l, e)) size
