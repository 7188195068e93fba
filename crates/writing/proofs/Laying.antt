-- Texts laid one behind the other are laid together; the digits of a number.
-- Assumes nothing.
use Rattle.std.proofs.Common.{◌≡◌, refl, sym, ◌∙◌, subst, ℕ, suc, ◌+◌, ◌/◌, ◌%◌, ◌<◌, ◌≤◌, List, [], ◌∷◌, ◌++◌, length, set, T, leb, arith, append-nil, length-append, add-zero, rules}
use Rattle.std.specs.Fmt.{decimal}
use Rattle.std.proofs.lemmas.Fmt.{decimal_digit, decimal_step, decimal_from_appends, length-decimal-le}
use Rattle.std.proofs.lemmas.List.{take-append-drop}
use Rattle.std.proofs.lemmas.List.Edits.{sets, sets-eq}
use lib.Dec.{leb→le}
use Rattle.refusals.specs.Limits.{document01}
use Rattle.signs.proofs.Table.{both_left, both_right}
use Rattle.writing.specs.declared.page.Page.{Page}
use Rattle.writing.specs.Laid.{Laid}
use Rattle.writing.specs.Spell.{digits_in, digits, pair_text}
use Rattle.writing.specs.Writing.{both_small}

sets-append : (xs ys old : List ℕ) (at : ℕ) → sets old at (xs ++ ys) ≡ sets (sets old at xs) (at + length xs) ys
sets-append [] ys old at = rw add-zero
sets-append (x ∷ xs) ys old at = let e : suc at + length xs ≡ at + suc (length xs) = omega arith in sets-append xs ys (set old at x) (suc at) ∙ rw e

pub laid_none : (p : Page) → Laid p [] p
laid_none p = record { same_buffer = refl; same_room = refl; place = λ h. omega arith; content = λ h k. rw (add-zero, append-nil) (sym (take-append-drop p.at p.out.now)) }

pub laid_as : {p q : Page} {xs ys : List ℕ} → xs ≡ ys → Laid p xs q → Laid p ys q
laid_as {p} {q} e a = subst (λ (t : List ℕ). Laid p t q) e a

pub laid_join : {p q r : Page} {xs ys : List ℕ} → Laid p xs q → Laid q ys r → Laid p (xs ++ ys) r
laid_join {p} {q} {r} {xs} {ys} a b =
    let l = length-append xs ys in
    record {
      same_buffer = b.same_buffer ∙ a.same_buffer;
      same_room = b.same_room ∙ a.same_room;
      place = λ h. omega (arith, l, a.place (omega (arith, l)), b.place);
      content = λ h k.
          let m : q.at ≡ p.at + length xs = a.place (omega (arith, l)) in
          let e : q.out.now ≡ sets p.out.now p.at xs = a.content (omega (arith, l)) (omega (arith, l)) ∙ sym (sets-eq xs p.out.now p.at (omega (arith, l))) in
          b.content (omega (arith, l, m)) (omega (arith, l, m, a.same_room)) ∙ sym (sets-eq ys q.out.now q.at (omega (arith, l, m, a.same_room)))
          ∙ rw (e, m) (sym (sets-append xs ys p.out.now p.at)) ∙ sets-eq (xs ++ ys) p.out.now p.at k;
    }

-- the digits of a number of at most six are those that the library writes
pub digits_written : (n : ℕ) → n < 1000000 → digits n ≡ decimal n
unfolding digits_in
digits_written n h = decimal_from_appends digits_in (search rules) 6 n (omega arith) (length-decimal-le 6 n (omega arith) (omega arith) (omega arith))

-- two digits
pub two_digits : (n : ℕ) → 10 ≤ n → n < 100 → (48 + n / 10) ∷ (48 + n % 10) ∷ [] ≡ decimal n
two_digits n low high = rw (decimal_step n low (omega arith), decimal_digit (n / 10) (omega arith)) refl

pub laid_pair : {q r s t u : Page} (k l : ℕ) → T (both_small document01 k l)
    → Laid q (decimal k) r → Laid r (44 ∷ []) s → Laid s (decimal l) t → Laid t (41 ∷ []) u → Laid q (pair_text k l) u
laid_pair {q} {r} {s} {t} {u} k l h b c d e =
    let i = leb→le k 999999 (both_left (leb k 999999) (leb l 999999) h) in
    let j = leb→le l 999999 (both_right (leb k 999999) (leb l 999999) h) in
    let g = laid_join b (laid_join c (laid_join d e)) in
    rw (digits_written k (omega arith), digits_written l (omega arith)) g
