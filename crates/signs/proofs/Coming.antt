-- What comes next in a text: by where it begins and by what stands there; a sign ends past its beginning, and in the text.
-- Assumes nothing.
use Rattle.std.specs.Prelude.{Err, None, Option, Some}
use mathlib.Core.Path.{◌≡◌, refl}
use mathlib.Core.Bool.{Bool, true, false, cond, ◌&&◌}
use mathlib.Core.List.{List, [], ◌∷◌}
use Prim.Native.Nat.{ℕ, ◌+◌, ◌≤◌, ◌<◌}
use native.Mathlib.Omega.{arith}
use borrow.Author.Tests.{eqb-true, le-ltb, lt-ltb}
use lib.Dec.{T, eqb, leb, ltb, leb→le}
use lib.ListN.{length, get_or, drop, length-drop}
use Rattle.refusals.specs.declared.Refusal.TheVariants.{TextTooLong}
use Rattle.refusals.specs.Limits.{Limits}
use Rattle.signs.specs.declared.sign.Sign.{Sign}
use Rattle.signs.specs.Text.{past, starts}
use Rattle.signs.specs.Numbers.{number_at, closed, parted, pair_at}
use Rattle.signs.specs.Spellings.{Meaning, alone, numbered, Spelling, spellings, made, finished_as, spelled, longest}
use Rattle.signs.specs.Next.{sign, nothing, coming_as, coming, answered, next_sign}
use Rattle.signs.proofs.Gaps.{same_place, same_place_two, clash, starts-length}
use Rattle.signs.proofs.Gaps.{same_place, same_place_two, there as inside}
use Rattle.signs.proofs.Digits.{number_reach}
use Rattle.signs.proofs.Table.{both_left, both_right}
use Rattle.signs.proofs.Longest.{In, here, there, longest_stands}

-- the next sign, by the place where it begins
module _ (text : List ℕ) (at begin : ℕ) (e : begin ≡ past false text at) where
  pub coming_end : length text ≤ begin → coming text at ≡ nothing
  unfolding coming
  coming_end h = rw (← e, le-ltb begin (length text) h)

  pub coming_as_lem : begin < length text → (r : Option (Sign × ℕ)) → longest text begin spellings ≡ r → coming text at ≡ coming_as begin r
  unfolding coming
  coming_as_lem h r f = rw (← e, lt-ltb begin (length text) h, f)

-- the answer, by the text's length and by what comes
module _ (l : Limits) (text : List ℕ) (at : ℕ) where
  pub next_long : l.bytes < length text → next_sign l text at ≡ Err TextTooLong
  unfolding next_sign
  next_long h = rw (lt-ltb l.bytes (length text) h)

  pub next_short : length text ≤ l.bytes → next_sign l text at ≡ answered (coming text at)
  unfolding next_sign
  next_short h = rw (le-ltb l.bytes (length text) h)

module _ (text : List ℕ) where
  closed_reach : (k a : ℕ) (n : Option (ℕ × ℕ)) → number_at text a ≡ n → (k' l' q : ℕ) → closed text k n ≡ Some (k', l', q) → (a < q) × (q ≤ length text)
  closed_reach k a None e k' l' q f = clash (cc)
  closed_reach k a (Some (l, p)) e k' l' q f = go (eqb (get_or text p 0) 41) refl f
    where
      go : (t : Bool) → eqb (get_or text p 0) 41 ≡ t → cond {A = Option (ℕ × ℕ × ℕ)} t (Some (k, l, p + 1)) None ≡ Some (k', l', q) → (a < q) × (q ≤ length text)
      go true t f =
          let e1 : p + 1 ≡ q = same_place_two _ _ _ _ _ _ f in
          let r = number_reach text a l p e in
          let i = inside text p (λ z. omega (arith, eqb-true (get_or text p 0) 41 t)) in
          (omega arith, omega arith)
      go false t f = clash (cc)

  parted_reach : (a : ℕ) (n : Option (ℕ × ℕ)) → number_at text a ≡ n → (k' l' q : ℕ) → parted text n ≡ Some (k', l', q) → (a < q) × (q ≤ length text)
  parted_reach a None e k' l' q f = clash (cc)
  parted_reach a (Some (k, p)) e k' l' q f = go (eqb (get_or text p 0) 44) f
    where
      go : (t : Bool) → cond t (closed text k (number_at text (past true text (p + 1)))) None ≡ Some (k', l', q) → (a < q) × (q ≤ length text)
      go true f =
          let r = number_reach text a k p e in
          let s = closed_reach k (past true text (p + 1)) (number_at text (past true text (p + 1))) refl k' l' q f in
          (omega arith, s.1)
      go false f = clash (cc)

  made_reach : (a : ℕ) (f : ℕ → ℕ → Sign) (r : Option (ℕ × ℕ × ℕ)) → pair_at text a ≡ r → (s : Sign) (q : ℕ) → made f r ≡ Some (s, q) → (a ≤ q) × (q ≤ length text)
  unfolding pair_at
  made_reach a f None e s q g = clash (cc)
  made_reach a f (Some (k, j, p)) e s q g =
      let w : p ≡ q = same_place _ _ _ _ g in
      let r = parted_reach (past true text a) (number_at text (past true text a)) refl k j p e in
      (omega arith, omega arith)

  finished_reach : (a : ℕ) (m : Meaning) (s : Sign) (q : ℕ) → a ≤ length text → finished_as text a m ≡ Some (s, q) → (a ≤ q) × (q ≤ length text)
  finished_reach a (alone t) s q h e = let w : a ≡ q = same_place _ _ _ _ e in (omega arith, omega arith)
  finished_reach a (numbered f) s q h e = made_reach a f (pair_at text a) refl s q e

  abbrev some : List Spelling → Bool
  some [] = true
  some (s ∷ ss) = leb 1 (length s.letters) && some ss

  some_in : (ss : List Spelling) (s : Spelling) → In s ss → T (some ss) → 1 ≤ length s.letters
  some_in [] t m u = elim m [ ]
  some_in (s ∷ ss) t here u = leb→le 1 (length s.letters) (both_left (leb 1 (length s.letters)) (some ss) u)
  some_in (s ∷ ss) t (there m) u = some_in ss t m (both_right (leb 1 (length s.letters)) (some ss) u)

  spelled_reach : (p : ℕ) (w : Spelling) → 1 ≤ length w.letters → (s : Sign) (q : ℕ) → spelled text p w ≡ Some (s, q) → (p < q) × (q ≤ length text)
  spelled_reach p w h s q e = go (starts w.letters (drop p text)) refl e
    where
      go : (t : Bool) → starts w.letters (drop p text) ≡ t → cond t (finished_as text (p + length w.letters) w.means) None ≡ Some (s, q) → (p < q) × (q ≤ length text)
      go true t f =
          let l = starts-length w.letters (drop p text) t in
          let r = finished_reach (p + length w.letters) w.means s q (omega (arith, length-drop p text)) f in
          (omega arith, r.1)
      go false t f = clash (cc)

  longest_reach : (p : ℕ) (s : Sign) (q : ℕ) → longest text p spellings ≡ Some (s, q) → (p < q) × (q ≤ length text)
  unfolding spellings
  longest_reach p s q e =
      let c = longest_stands text p spellings s q e in
      spelled_reach p c.from (some_in spellings c.from c.listed tt) s q c.gives

  coming_as_reach : (at b : ℕ) (r : Option (Sign × ℕ)) → at ≤ b → longest text b spellings ≡ r → (s : Sign) (begin end : ℕ) → coming_as b r ≡ sign s begin end → (at ≤ begin) × (begin < end) × (end ≤ length text)
  coming_as_reach at b None h e s begin end f = clash (cc)
  coming_as_reach at b (Some (t, q)) h e s begin end f =
      let u : b ≡ begin = cc in
      let v : q ≡ end = cc in
      let r = longest_reach b t q e in
      (omega arith, omega arith, omega arith)

  -- a sign that comes begins at the place or later, ends past its beginning, and in the text
  pub coming_reach : (at : ℕ) (s : Sign) (begin end : ℕ) → coming text at ≡ sign s begin end → (at ≤ begin) × (begin < end) × (end ≤ length text)
  unfolding coming
  coming_reach at s begin end e = go (ltb (past false text at) (length text)) e
    where
      go : (t : Bool) → cond t (coming_as (past false text at) (longest text (past false text at) spellings)) nothing ≡ sign s begin end → (at ≤ begin) × (begin < end) × (end ≤ length text)
      go true f = coming_as_reach at (past false text at) (longest text (past false text at) spellings) (omega arith) refl s begin end f
      go false f = clash (cc)
