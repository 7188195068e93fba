-- What the writer writes reads back as the same words.
-- Assumes nothing.
use Rattle.std.specs.Prelude.{None, Option, Some, Ok, Err}
use mathlib.Core.Path.{◌≡◌, refl, sym, ap, ◌∙◌}
use mathlib.Core.Bool.{Bool, true, false, cond}
use mathlib.Core.List.{List, [], ◌∷◌, ◌++◌, map, append_assoc, append-nil}
use Prim.Native.Nat.{ℕ, suc, ◌+◌, ◌^◌, ◌≤◌, ◌<◌}
use native.Mathlib.Omega.{arith}
use borrow.Author.Tests.{le-ltb}
use lib.Dec.{T, ltb}
use lib.ListN.{length, get_or, drop, length-append, length-map, get_or-eq_default}
use lib.Seq.{get_or-append-add}
use Rattle.std.proofs.lemmas.Bool.Decides.{nat_tests}
use Rattle.refusals.specs.declared.Refusal.TheVariants.{TooManySigns, Unwritable}
use Rattle.refusals.specs.Limits.{Limits, document01}
use Rattle.signs.specs.declared.sign.Sign.{Sign}
use Rattle.signs.specs.Text.{front, separator, past}
use Rattle.signs.specs.Words.{word_of, sign_of}
use Rattle.signs.specs.Next.{sign, nothing, coming}
use Rattle.signs.proofs.Gaps.{past_more, past_here}
use Rattle.signs.proofs.Packing.{word_again}
use Rattle.signs.proofs.Coming.{coming_end}
use Rattle.reading.specs.Reading.{scanned, signs_of, counted, reading_of, buffer_of}
use Rattle.reading.proofs.Scanning.{step, signs_from, by_count}
use Rattle.writing.specs.Spell.{spell, text_of}
use Rattle.writing.specs.Writing.{small, small_in, writable, sign_in, signs_in, fitted_as, writing_of}
use Rattle.writing.proofs.Lining.{before, later_of, text_later}
use Rattle.writing.proofs.SignsAgain.{after, coming_again, begins_here}

-- words of 64 bits, each of which can be written
abbrev pub Words : List ℕ → Type 0
Words [] = Unit
Words (w ∷ ws) = (w < 2 ^ 64) × Words ws

abbrev AllWritable : List ℕ → Type 0
AllWritable [] = Unit
AllWritable (w ∷ ws) = T (writable document01 w) × AllWritable ws

-- the signs from a place on, to the end of the text
abbrev Reads : List ℕ → ℕ → List Sign → Type 0
Reads text from ss = (signs_from text from ≡ ss) × ((scanned text from).stop ≡ nothing)

one_sign : (text : List ℕ) (from at end : ℕ) (s : Sign) (ss : List Sign) → coming text from ≡ sign s at end → Reads text end ss → Reads text from (s ∷ ss)
one_sign text from at end s ss e r =
    let u = step text from (sign s at end) e in
    (ap (λ x. map (λ p. p.the) x.placed) u ∙ ap (λ xs. s ∷ xs) r.0, ap (λ x. x.stop) u ∙ r.1)

no_sign : (text : List ℕ) (from : ℕ) → coming text from ≡ nothing → Reads text from []
no_sign text from e = let u = step text from nothing e in (ap (λ x. map (λ p. p.the) x.placed) u, ap (λ x. x.stop) u)

-- what stands behind a sign is one of the writer's separators
separated : (ws : List ℕ) → (b : Bool) × ((post : List ℕ) × (later_of false ws ≡ after b ∷ post))
separated [] = (false, ([], refl))
separated (w ∷ ws) = (true, (spell (sign_in (sign_of w)) ++ later_of false ws, refl))

byte_at : (text pre : List ℕ) (b : ℕ) (post : List ℕ) → text ≡ pre ++ (b ∷ post) → get_or text (length pre) 0 ≡ b
byte_at text pre b post e = let z : length pre + 0 ≡ length pre = omega arith in rw (e, ← z, get_or-append-add pre (b ∷ post) 0 0)

-- a word that can be written has a sign, whose numbers are small
some_sign : (w : ℕ) → T (writable document01 w) → sign_of w ≡ Some (sign_in (sign_of w))
some_sign w = go (sign_of w)
  where
    go : (u : Option Sign) → T (small_in document01 u) → u ≡ Some (sign_in u)
    go (Some s) t = refl
    go None t = absurd t

small_of : (w : ℕ) → T (writable document01 w) → T (small document01 (sign_in (sign_of w)))
small_of w t = rw (some_sign w t) at t

-- a gap of one byte before a place
past_one : (text pre : List ℕ) (b : ℕ) (post : List ℕ) → separator b ≡ true → text ≡ pre ++ (b ∷ post) → past false text (length pre) ≡ past false text (length pre + 1)
past_one text pre b post s e = past_more false text (length pre) (ap separator (byte_at text pre b post e) ∙ s)

-- what is put before a sign is a gap
passed : (first : Bool) (text pre rest : List ℕ) → text ≡ (pre ++ before first) ++ rest → past false text (length pre) ≡ past false text (length (pre ++ before first))
passed true text pre rest e = rw append-nil
passed false text pre rest e = past_one text pre 32 rest refl (e ∙ append_assoc pre (32 ∷ []) rest) ∙ ap (past false text) (sym (length-append pre (32 ∷ [])))

lined : (ws : List ℕ) → AllWritable ws → (text pre : List ℕ) (first : Bool) → text ≡ pre ++ later_of first ws → Reads text (length pre) (signs_in ws)
lined [] a text pre first e =
    let p = past_one text pre 10 [] refl e in
    let l : length text ≡ length pre + 1 = ap length e ∙ length-append pre (10 ∷ []) in
    let z : past false text (length pre + 1) ≡ length pre + 1 = past_here false text (length pre + 1) (ap separator (get_or-eq_default text 0 (omega arith))) in
    no_sign text (length pre) (coming_end text (length pre) (length pre + 1) (sym (p ∙ z)) (omega arith))
lined (w ∷ ws) a text pre first e =
    let s = sign_in (sign_of w) in
    let t = small_of w a.0 in
    let o = separated ws in
    let pre1 = pre ++ before first in
    let f : text ≡ pre1 ++ (spell s ++ later_of false ws) = e ∙ simp append_assoc in
    let g : text ≡ pre1 ++ (spell s ++ (after o.0 ∷ o.1.0)) = f ∙ ap (λ r. pre1 ++ (spell s ++ r)) o.1.1 in
    let h : text ≡ (pre1 ++ spell s) ++ later_of false ws = f ∙ sym (append_assoc pre1 (spell s) (later_of false ws)) in
    let p : past false text (length pre) ≡ length pre1 = passed first text pre (spell s ++ later_of false ws) f ∙ begins_here s t text pre1 o.1.0 o.0 g in
    let c = coming_again s t text pre1 o.1.0 o.0 g (length pre) p in
    one_sign text (length pre) (length pre1) (length pre1 + length (spell s)) s (signs_in ws) c (rw (length-append pre1 (spell s)) at (lined ws a.1 text (pre1 ++ spell s) false h))

all_writable : (ws : List ℕ) → length ws ≤ front (writable document01) ws → AllWritable ws
all_writable [] h = tt
all_writable (w ∷ ws) h = go (writable document01 w) refl h (all_writable ws)
  where
    go : (b : Bool) → writable document01 w ≡ b → suc (length ws) ≤ cond b (suc (front (writable document01) ws)) 0
        → (length ws ≤ front (writable document01) ws → AllWritable ws) → AllWritable (w ∷ ws)
    go true e h ih = (rw e tt, ih (omega arith))
    go false e h ih = absurd (omega arith)

words_again : (ws : List ℕ) → Words ws → AllWritable ws → map word_of (signs_in ws) ≡ ws
words_again [] b a = refl
words_again (w ∷ ws) b a =
    ap (λ x. x ∷ map word_of (signs_in ws)) (word_again w b.0 (sign_in (sign_of w)) (some_sign w a.0)) ∙ ap (λ xs. w ∷ xs) (words_again ws b.1 a.1)

-- what the writer has tested of a list that it takes
tests : (l : Limits) (words good text room n : ℕ)
    → cond (ltb l.signs words) (Err TooManySigns) (fitted_as l room (cond (ltb good words) (Err (Unwritable good)) (Ok text))) ≡ Ok n
    → (words ≤ l.signs) × (words ≤ good) × (text ≤ l.bytes)
tests l words good text room n e = grind (arith, nat_tests)

taken : (ws : List ℕ) (room n : ℕ) → writing_of document01 ws room ≡ Ok n → (length ws ≤ 1024) × AllWritable ws × (length (text_of (signs_in ws)) ≤ 16384)
unfolding writing_of
taken ws room n e =
    let t = tests document01 (length ws) (front (writable document01) ws) (length (text_of (signs_in ws))) room n e in
    (t.0, all_writable ws t.1, t.2)

-- the signs of a text that is written are those that were written
pub signs_again : (ws : List ℕ) → length ws ≤ front (writable document01) ws → (signs_of (text_of (signs_in ws)) ≡ signs_in ws) × ((scanned (text_of (signs_in ws)) 0).stop ≡ nothing)
signs_again ws h = lined ws (all_writable ws h) (text_of (signs_in ws)) [] true (text_later ws)

-- for every list of words that the writer takes, what it writes is read as these words, into any buffer with room
pub round_trip : (ws : List ℕ) → Words ws → (room n : ℕ) → writing_of document01 ws room ≡ Ok n → (out : List ℕ) → length ws ≤ length out
    → (reading_of document01 (text_of (signs_in ws)) (length out) ≡ Ok (length ws)) × (buffer_of document01 (text_of (signs_in ws)) out ≡ ws ++ drop (length ws) out)
round_trip ws b room n e out h =
    let text = text_of (signs_in ws) in
    let k = taken ws room n e in
    let r = lined ws k.1 text [] true (text_later ws) in
    let size : length (signs_of text) ≡ length ws = ap length r.0 ∙ length-map ws (λ w. sign_in (sign_of w)) in
    let c : counted text ≡ Ok (length ws) = rw (size, r.1) in
    let a = by_count document01 text out k.2 (Ok (length ws)) (Ok (length ws)) c (rw (le-ltb 1024 (length ws) k.0, le-ltb (length out) (length ws) h)) in
    (sym a.0, sym a.1.1 ∙ ap (λ x. x ++ drop (length ws) out) (ap (map word_of) r.0 ∙ words_again ws b k.1))
