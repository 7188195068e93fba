-- The signs of a text, one step at a time: what the loop that reads them knows.
-- Assumes nothing.
use Rattle.std.specs.Prelude.{Err, None, Ok, Option, Some}
use mathlib.Core.Path.{◌≡◌, refl, sym, ap, ◌∙◌}
use mathlib.Core.Bool.{Bool, cond}
use mathlib.Core.List.{List, [], map}
use Prim.Native.Nat.{ℕ, zero, suc, ◌+◌, ◌-◌, ◌≤◌, ◌<◌}
use native.Mathlib.Nat.{not-suc-le-zero}
use native.Mathlib.Numerals.{add-one}
use native.Mathlib.Omega.{arith}
use borrow.Author.Tests.{lt-ltb, le-ltb}
use lib.ListN.{length, take, drop, set, length-set, length-map}
use lib.Dec.{ltb}
use lib.Seq.{sets, sets-eq, take_at}
use Rattle.std.proofs.lemmas.Bool.Decides.{nat_tests}
use Rattle.refusals.specs.declared.Refusal.{Refusal}
use Rattle.refusals.specs.declared.Refusal.TheVariants.{TextTooLong, Unreadable}
use Rattle.refusals.specs.Limits.{Limits}
use Rattle.signs.specs.declared.sign.Sign.{Sign}
use Rattle.signs.specs.Words.{word_of}
use Rattle.signs.specs.Next.{Coming, sign, nothing, unreadable, coming, answered}
use Rattle.signs.proofs.Coming.{coming_reach}
use Rattle.signs.proofs.Gaps.{clash, same_read, same_place}
use Rattle.reading.specs.Reading.{Reading, onward, scan_from, scanned, signs_of, counted_by, counted, room_for, reading_of, said_reading, reading_said, buffer_by, buffer_of}

-- more than the bytes left is enough, and then it does not matter how much
module _ (text : List ℕ) where
  fuel_go : (at f g : ℕ) → length text - at < suc f → length text - at < suc g
      → ((e : ℕ) → length text - e < f → length text - e < g → scan_from f text e ≡ scan_from g text e)
      → (c : Coming) → coming text at ≡ c → onward c (λ e. scan_from f text e) ≡ onward c (λ e. scan_from g text e)
  fuel_go at f g hf hg ih nothing q = refl
  fuel_go at f g hf hg ih (unreadable b) q = refl
  fuel_go at f g hf hg ih (sign s b e) q = let r = coming_reach text at s b e q in rw (ih e (omega arith) (omega arith))

  fuel : (f g at : ℕ) → length text - at < f → length text - at < g → scan_from f text at ≡ scan_from g text at
  unfolding scan_from
  fuel zero g at hf hg = absurd (not-suc-le-zero hf)
  fuel (suc f) zero at hf hg = absurd (not-suc-le-zero hg)
  fuel (suc f) (suc g) at hf hg = fuel_go at f g hf hg (fuel f g) (coming text at) refl

  step_go : (at : ℕ) (c : Coming) → coming text at ≡ c → onward c (λ e. scan_from (length text - at) text e) ≡ onward c (λ e. scanned text e)
  unfolding scanned
  step_go at nothing q = refl
  step_go at (unreadable b) q = refl
  step_go at (sign s b e) q = let r = coming_reach text at s b e q in rw (fuel (length text - at) (suc (length text - e)) e (omega arith) (omega arith))

  -- the signs from a place on are the one that comes and those behind it
  pub step : (at : ℕ) (c : Coming) → coming text at ≡ c → scanned text at ≡ onward c (λ e. scanned text e)
  unfolding scanned scan_from
  step at c q = ap (λ m. onward m (λ e. scan_from (length text - at) text e)) q ∙ step_go at c q

-- the signs from a place on
abbrev pub signs_from : List ℕ → ℕ → List Sign
signs_from text at = map (λ p. p.the) (scanned text at).placed

-- n signs are read, up to at, with words the words kept of them
pub record ReadTo (text words₀ words : List ℕ) (at n : ℕ) : Type 0 where
  pub within : at ≤ length text
  pub few : n ≤ at
  pub sum : length (signs_of text) ≡ n + length (signs_from text at)
  pub stop : (scanned text 0).stop ≡ (scanned text at).stop
  pub long : length words ≡ length words₀
  pub kept : sets words₀ 0 (map word_of (signs_of text)) ≡ sets words n (map word_of (signs_from text at))

module _ (text words₀ words : List ℕ) (at n : ℕ) (k : ReadTo text words₀ words at n) where
  one_more : (s : Sign) (b e : ℕ) → coming text at ≡ sign s b e → ReadTo text words₀ (set words n (word_of s)) e (n + 1)
  one_more s b e q =
      let r = coming_reach text at s b e q in
      let u = step text at (sign s b e) q in
      record {
        within = r.2;
        few = omega arith;
        sum = omega (arith, k.sum, ap (λ x. length (map (λ p. p.the) x.placed)) u);
        stop = k.stop ∙ ap (λ x. x.stop) u;
        long = length-set words n (word_of s) ∙ k.long;
        kept = k.kept ∙ ap (λ x. sets words n (map word_of (map (λ p. p.the) x.placed))) u ∙ rw (add-one n);
      }

  -- no sign comes: the signs read are all there are
  ended : (c : Coming) → coming text at ≡ c → (scanned text at).placed ≡ [] → (length (signs_of text) ≡ n) × (sets words₀ 0 (map word_of (signs_of text)) ≡ words)
  ended c q z =
      (omega (arith, k.sum, ap (λ x. length (map (λ p. p.the) x)) z), k.kept ∙ ap (λ x. sets words n (map word_of (map (λ p. p.the) x))) z)

  -- by what the next sign's answer is
  pub at_found : (s : Sign) (e : ℕ) → answered (coming text at) ≡ Ok (Some (s, e)) → (at < e) × ReadTo text words₀ (set words n (word_of s)) e (n + 1)
  at_found s e a = go (coming text at) refl a
    where
      go : (c : Coming) → coming text at ≡ c → answered c ≡ Ok (Some (s, e)) → (at < e) × ReadTo text words₀ (set words n (word_of s)) e (n + 1)
      go nothing q a = clash (cc)
      go (unreadable b) q a = clash (cc)
      go (sign t b f) q a =
          let m : ◌≡◌ {A = Option (Sign × ℕ)} (Some (t, f)) (Some (s, e)) = cc in
          let u : coming text at ≡ sign s b e = q ∙ rw (same_read t s f e m, same_place t s f e m) refl in
          let r = coming_reach text at s b e u in
          (omega arith, one_more s b e u)

  abbrev Done : Reading → Type 0
  Done r = (r ≡ counted text) × (words ≡ sets words₀ 0 (map word_of (signs_of text)))

  pub at_end : answered (coming text at) ≡ Ok None → Done (Ok n)
  at_end a = go (coming text at) refl a
    where
      go : (c : Coming) → coming text at ≡ c → answered c ≡ Ok None → Done (Ok n)
      go nothing q a =
          let u = step text at nothing q in
          let e = ended nothing q (ap (λ x. x.placed) u) in
          (sym (rw (e.0, k.stop, ap (λ x. x.stop) u)), sym e.1)
      go (unreadable b) q a = clash (cc)
      go (sign t b f) q a = clash (cc)

  pub at_bad : (r : Refusal) → answered (coming text at) ≡ Err r → Done (Err r)
  at_bad r a = go (coming text at) refl a
    where
      go : (c : Coming) → coming text at ≡ c → answered c ≡ Err r → Done (Err r)
      go nothing q a = clash (cc)
      go (unreadable b) q a =
          let v : Unreadable b ≡ r = cc in
          let u = step text at (unreadable b) q in
          let e = ended (unreadable b) q (ap (λ x. x.placed) u) in
          (sym (rw (k.stop, ap (λ x. x.stop) u, v)), sym e.1)
      go (sign t b f) q a = clash (cc)

pub long_text : (l : Limits) (text : List ℕ) (room : ℕ) → l.bytes < length text → reading_of l text room ≡ Err TextTooLong
unfolding reading_of
long_text l text room h = rw (lt-ltb l.bytes (length text) h)

-- the answer and what it leaves in the buffer, by the text's length and by the count
module _ (l : Limits) (text out : List ℕ) where
  abbrev Answers : Reading → Type 0
  Answers r =
      (r ≡ reading_of l text (length out)) × ((said_reading l r ≡ reading_said l text (length out)) × (buffer_by (map word_of (signs_of text)) out r ≡ buffer_of l text out))

  answers : (r : Reading) → r ≡ reading_of l text (length out) → Answers r
  unfolding buffer_of
  answers r e = (e, (ap (said_reading l) e, ap (buffer_by (map word_of (signs_of text)) out) e))

  pub by_count : length text ≤ l.bytes → (k r : Reading) → counted text ≡ k → room_for l (length out) k ≡ r → Answers r
  unfolding reading_of
  by_count h k r e f = answers r (rw (le-ltb l.bytes (length text) h) (sym (ap (room_for l (length out)) e ∙ f)))

-- the words of all signs, where there is room for them
counted_size : (m n : ℕ) (c : Coming) → counted_by m c ≡ Ok n → m ≡ n
counted_size m n nothing e = cc
counted_size m n (unreadable b) e = clash (cc)
counted_size m n (sign s b f) e = cc

pub first_words : (text zs : List ℕ) (n : ℕ) → counted text ≡ Ok n → n ≤ length zs → take n (sets zs 0 (map word_of (signs_of text))) ≡ map word_of (signs_of text)
first_words text zs n e h =
    let ws = map word_of (signs_of text) in
    let k : length ws ≡ n = length-map (signs_of text) word_of ∙ counted_size (length (signs_of text)) n (scanned text 0).stop e in
    rw (sets-eq ws zs 0 (omega arith)) (take_at ws (drop (0 + length ws) zs) n k)

-- signs that are read are all there are, and fit the buffer
pub read_size : (l : Limits) (text : List ℕ) (room n : ℕ) → reading_of l text room ≡ Ok n → (length (signs_of text) ≡ n) × (n ≤ room)
unfolding reading_of
read_size l text room n e = by (length (signs_of text)) (scanned text 0).stop (ltb l.bytes (length text)) e
  where
    by : (m : ℕ) (c : Coming) (t : Bool) → cond t (Err TextTooLong) (room_for l room (counted_by m c)) ≡ Ok n → (m ≡ n) × (n ≤ room)
    by m nothing t e = grind (arith, nat_tests)
    by m (sign s b d) t e = grind (arith, nat_tests)
    by m (unreadable b) t e = grind (arith, nat_tests)

pub fits_room : (l : Limits) (text : List ℕ) (room n : ℕ) → reading_of l text room ≡ Ok n → n ≤ room
fits_room l text room n e = (read_size l text room n e).1
