-- A list of words laid as text, word by word.
-- Assumes nothing.
use Rattle.std.specs.Prelude.{None, Ok, Option, Some}
use Rattle.std.specs.List.{position_or_len}
use Rattle.std.proofs.Common.{◌≡◌, refl, sym, ap, ◌∙◌, Bool, true, false, not, cond, ◌&&◌, T, ℕ, zero, suc, ◌+◌, ◌*◌, ◌^◌, ◌<◌, ◌≤◌, List, [], ◌∷◌, ◌++◌, map, length, get_or, drop, arith, append_assoc, length-append, add-one, drop-cons}
use Rattle.std.proofs.lemmas.Bool.Decides.{nat_tests}
use Rattle.std.proofs.lemmas.List.Recursion.{is_position_or_len}
use borrow.Author.Tests.{lt-leb, ltb-true, ltb-false, eq-eqb, ne_eqb}
use lib.Dec.{eqb, leb}
use lib.ListN.{drop_of_length-le}
use Rattle.refusals.specs.Limits.{Limits, document01}
use Rattle.signs.specs.declared.sign.Sign.{Sign}
use Rattle.signs.specs.Text.{front}
use Rattle.signs.specs.Words.{parts_of, word_of, sign_of}
use Rattle.signs.proofs.Packing.{word_parts, sign_again}
use Rattle.words.specs.Words.{fits, parts_in}
use Rattle.writing.specs.declared.page.Page.{Page}
use Rattle.writing.specs.Laid.{Laid}
use Rattle.writing.specs.Spell.{spell, spaced, text_of}
use Rattle.writing.specs.Writing.{both_small, small, small_in, writable, sign_in, signs_in, writing_of}
use Rattle.writing.proofs.Spelling.{spell_length}
use Rattle.writing.proofs.Laying.{laid_none, laid_as, laid_join}

-- what is put before a sign: nothing before the first of all, and else one space
abbrev pub before : Bool → List ℕ
before true = []
before false = 32 ∷ []

abbrev pub entry_of : Bool → ℕ → List ℕ
entry_of first w = before first ++ spell (sign_in (sign_of w))

-- what is still to be written from a word on, which is the first of all or not
abbrev pub later_of : Bool → List ℕ → List ℕ
later_of first [] = 10 ∷ []
later_of first (w ∷ ws) = entry_of first w ++ later_of false ws

spaced_later : (w : ℕ) (ws : List ℕ) → spaced (map spell (signs_in (w ∷ ws))) ++ (10 ∷ []) ≡ spell (sign_in (sign_of w)) ++ later_of false ws
spaced_later w [] = refl
spaced_later w (v ∷ ws) =
    append_assoc (spell (sign_in (sign_of w))) (32 ∷ spaced (map spell (signs_in (v ∷ ws)))) (10 ∷ [])
    ∙ ap (λ r. spell (sign_in (sign_of w)) ++ (32 ∷ r)) (spaced_later v ws)

pub text_later : (ws : List ℕ) → text_of (signs_in ws) ≡ later_of true ws
unfolding text_of
text_later [] = refl
text_later (w ∷ ws) = spaced_later w ws

entry_length : (first : Bool) (w : ℕ) → length (entry_of first w) ≤ 22
entry_length true w = omega (arith, spell_length (sign_in (sign_of w)))
entry_length false w = omega (arith, spell_length (sign_in (sign_of w)))

later_length : (first : Bool) (ws : List ℕ) → length (later_of first ws) ≤ 22 * length ws + 1
later_length first [] = omega arith
later_length first (w ∷ ws) = omega (arith, length-append (entry_of first w) (later_of false ws), entry_length first w, later_length false ws)

text_length : (ws : List ℕ) → length ws ≤ 1024 → length (text_of (signs_in ws)) < 2 ^ 64
text_length ws h = omega (arith, later_length true ws, ap length (text_later ws))

-- a word that can be written: its sign, whose numbers are small and whose parts are the word's
pub record Writes (w : ℕ) : Type 0 where
  pub the : Sign
  pub is : sign_of w ≡ Some the
  pub good : T (small document01 the)
  pub same : parts_in w ≡ parts_of the

pub writes : (w : ℕ) → T (writable document01 w) → Writes w
writes w t = go (sign_of w) refl t
  where
    go : (u : Option Sign) → sign_of w ≡ u → T (small_in document01 u) → Writes w
    go (Some s) e t = record { the = s; is = e; good = t; same = sym (word_parts w s e) }
    go None e t = absurd t

-- where all pass a test, each does
pub all_pass : (f : ℕ → Bool) (l : List ℕ) → length l ≤ front f l → (i : ℕ) → i < length l → T (f (get_or l i 0))
all_pass f [] e i h = absurd (omega arith)
all_pass f (x ∷ l) e i h = go (f x) refl e i h (all_pass f l)
  where
    go : (b : Bool) → f x ≡ b → suc (length l) ≤ cond b (suc (front f l)) 0 → (i : ℕ) → i < suc (length l)
        → (length l ≤ front f l → (j : ℕ) → j < length l → T (f (get_or l j 0))) → T (f (get_or (x ∷ l) i 0))
    go true p e zero h ih = rw p tt
    go true p e (suc i) h ih = ih (omega arith) i (omega arith)
    go false p e i h ih = absurd (omega arith)

-- the first word that can't be written stands behind those that can
pub first_bad : (ws : List ℕ) → front (writable document01) ws ≡ position_or_len (λ w. not (writable document01 w)) ws
first_bad = is_position_or_len (front (writable document01)) (λ w. not (writable document01 w)) refl (λ w ws. go (writable document01 w) (front (writable document01) ws))
  where
    go : (t : Bool) (n : ℕ) → cond t (suc n) 0 ≡ cond (not t) 0 (1 + n)
    go true n = omega arith
    go false n = refl

-- i words are laid
pub record Lining (words : List ℕ) (begin page : Page) (i : ℕ) : Type 0 where
  pub done : List ℕ
  pub laid : Laid begin done page
  pub whole : text_of (signs_in words) ≡ done ++ later_of (eqb i 0) (drop i words)

pub none_lined : (words : List ℕ) (page : Page) → Lining words page page 0
none_lined words page =
    record { done = []; laid = laid_none page; whole = text_later words }

module _ (words : List ℕ) (begin page : Page) (i : ℕ) (k : Lining words begin page i) where
  module _ (h : i < length words) (t : T (writable document01 (get_or words i 0))) where
    one_more : (next : Page) → Laid page (entry_of (eqb i 0) (get_or words i 0)) next → Lining words begin next (i + 1)
    one_more next a =
        let w = get_or words i 0 in
        let c : drop i words ≡ w ∷ drop (i + 1) words = rw add-one (drop-cons words i 0 h) in
        let z : eqb (i + 1) 0 ≡ false = ne_eqb (i + 1) 0 (λ e. omega arith) in
        record {
          done = k.done ++ entry_of (eqb i 0) w;
          laid = laid_join k.laid a;
          whole = k.whole ∙ rw (c, z) (sym (append_assoc k.done (entry_of (eqb i 0) w) (later_of false (drop (i + 1) words))));
        }

    -- a sign is laid by its word's parts
    abbrev Laying : Page → Page → Type 0
    Laying mid next = (s : Sign) → parts_in (get_or words i 0) ≡ parts_of s → Laid mid (spell s) next

    laid_word : (mid next : Page) → Laying mid next → Laid mid (spell (sign_in (sign_of (get_or words i 0)))) next
    laid_word mid next b = let r = writes (get_or words i 0) t in laid_as (ap (λ u. spell (sign_in u)) (sym r.is)) (b r.the r.same)

    pub first_more : i ≤ 0 → (next : Page) → Laying page next → Lining words begin next (i + 1)
    first_more z next b =
        let q : spell (sign_in (sign_of (get_or words i 0))) ≡ entry_of (eqb i 0) (get_or words i 0) = rw (eq-eqb i 0 (omega arith)) refl in
        one_more next (laid_as q (laid_word page next b))

    pub next_more : 0 < i → (mid next : Page) → Laid page (32 ∷ []) mid → Laying mid next → Lining words begin next (i + 1)
    next_more z mid next a b =
        let q : 32 ∷ spell (sign_in (sign_of (get_or words i 0))) ≡ entry_of (eqb i 0) (get_or words i 0) = rw (ne_eqb i 0 (λ e. omega arith)) refl in
        one_more next (laid_as q (laid_join a (laid_word mid next b)))

  -- every word is laid, and the byte 10 behind them
  module _ (h : length words ≤ i) (next : Page) (a : Laid page (10 ∷ []) next) where
    pub all_lined : Laid begin (text_of (signs_in words)) next
    all_lined =
        let e : text_of (signs_in words) ≡ k.done ++ (10 ∷ []) = k.whole ∙ ap (λ r. k.done ++ later_of (eqb i 0) r) (drop_of_length-le words h) in
        laid_as (sym e) (laid_join k.laid a)

    pub all_counted : begin.at ≡ 0 → length words ≤ 1024 → next.at ≡ length (text_of (signs_in words))
    all_counted z f = omega (arith, all_lined.place (omega (arith, text_length words f)), text_length words f)

-- bytes that are written fit the buffer
pub fits_room : (l : Limits) (ws : List ℕ) (room n : ℕ) → writing_of l ws room ≡ Ok n → n ≤ room
unfolding writing_of
fits_room l ws room n e = grind (arith, nat_tests)

both_no : (x : Bool) {y : Bool} → y ≡ false → x && y ≡ false
both_no true e = e
both_no false e = refl

-- the word of a sign can be written exactly where its numbers are small
pub writable_sign : (s : Sign) → writable document01 (word_of s) ≡ small document01 s
writable_sign s = go (fits (parts_of s).first) (fits (parts_of s).second) refl refl
  where
    none : (x y : Bool) → fits (parts_of s).first ≡ x → fits (parts_of s).second ≡ y → x && y ≡ false → both_small document01 (parts_of s).first (parts_of s).second ≡ false → writable document01 (word_of s) ≡ small document01 s
    none x y p q e f = rw (p, q, e, f)

    go : (x y : Bool) → fits (parts_of s).first ≡ x → fits (parts_of s).second ≡ y → writable document01 (word_of s) ≡ small document01 s
    go true true p q = ap (small_in document01) (sign_again s (ltb-true (parts_of s).first 268435456 p) (ltb-true (parts_of s).second 268435456 q))
    go true false p q = none true false p q refl (both_no (leb (parts_of s).first 999999) (lt-leb (parts_of s).second 999999 (omega (arith, ltb-false (parts_of s).second 268435456 q))))
    go false y p q = none false y p q refl (rw (lt-leb (parts_of s).first 999999 (omega (arith, ltb-false (parts_of s).first 268435456 p))))
