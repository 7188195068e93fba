-- A word is a sign exactly when it is the packing of one.
-- Assumes nothing.
use Rattle.std.specs.Prelude.{None, Option, Some}
use mathlib.Core.Path.{◌≡◌, refl, sym, ap, ◌∙◌}
use mathlib.Core.Bool.{Bool, true, false, cond, ◌&&◌}
use mathlib.Core.List.{List, [], ◌∷◌}
use mathlib.Core.Logic.{◌↔◌}
use Prim.Native.Nat.{ℕ, zero, suc, ◌+◌, ◌*◌, ◌/◌, ◌%◌, ◌^◌, ◌≤◌, ◌<◌}
use native.Mathlib.Omega.{arith}
use borrow.Author.Tests.{ltb-true, lt-ltb, eqb-true, ne_eqb}
use lib.Dec.{eqb}
use lib.ListN.{get_or}
use Rattle.signs.specs.declared.sign.Jumped.TheVariants.{Dc, DcCoda, DcFine, Ds, DsCoda, DsFine}
use Rattle.signs.specs.declared.sign.Sign.{Sign}
use Rattle.signs.specs.declared.sign.Sign.TheVariants.{Block, Time, LeftRepeat, RightRepeat, OpenEnding, CloseEnding, Jump, Segno, Coda, ToCoda, Fine}
use Rattle.words.specs.Words.{parts, fits, packed}
use Rattle.signs.specs.Words.{parts_of, word_of, plain_signs, plain_sign, unpacked, sign_of}
use Rattle.signs.proofs.Gaps.{clash}

-- each sign of the table has its place as its kind, and no number
abbrev Kinds : ℕ → List (Option Sign) → Type 0
Kinds k [] = Unit
Kinds k (None ∷ us) = Kinds (suc k) us
Kinds k (Some s ∷ us) = (parts_of s ≡ parts k 0 0) × Kinds (suc k) us

kind_at : (us : List (Option Sign)) (k i : ℕ) (s : Sign) → Kinds k us → get_or us i None ≡ Some s → parts_of s ≡ parts (k + i) 0 0
kind_at [] k i s h e = clash (cc)
kind_at (None ∷ us) k zero s h e = clash (cc)
kind_at (Some t ∷ us) k zero s h e = let q : t ≡ s = cc in ap parts_of (sym q) ∙ h.0 ∙ ap (λ n. parts n 0 0) (omega arith)
kind_at (None ∷ us) k (suc i) s h e = kind_at us (suc k) i s h e ∙ ap (λ n. parts n 0 0) (omega arith)
kind_at (Some t ∷ us) k (suc i) s h e = kind_at us (suc k) i s h.1 e ∙ ap (λ n. parts n 0 0) (omega arith)

plain_parts : (kind : ℕ) (s : Sign) → plain_sign kind ≡ Some s → parts_of s ≡ parts kind 0 0
plain_parts kind s e =
    kind_at plain_signs 0 kind s (refl, (refl, (refl, (refl, (refl, (refl, (refl, (refl, (refl, (refl, (refl, (refl, (refl, (refl, tt)))))))))))))) e
    ∙ ap (λ n. parts n 0 0) (omega arith)

unpacked_parts : (kind a b : ℕ) (s : Sign) → unpacked kind a b ≡ Some s → parts_of s ≡ parts kind a b
unpacked_parts kind a b s e = one (eqb kind 1) refl e
  where
    zeros : (x y : Bool) → eqb a 0 ≡ x → eqb b 0 ≡ y → cond (x && y) (plain_sign kind) None ≡ Some s → parts_of s ≡ parts kind a b
    zeros true true p q f = rw (eqb-true a 0 p, eqb-true b 0 q) (plain_parts kind s f)
    zeros true false p q f = clash (cc)
    zeros false y p q f = clash (cc)

    two : (t : Bool) → eqb kind 2 ≡ t → cond t (Some (Time a b)) (cond (eqb a 0 && eqb b 0) (plain_sign kind) None) ≡ Some s → parts_of s ≡ parts kind a b
    two true q f = let u : Time a b ≡ s = cc in ap parts_of (sym u) ∙ ap (λ k. parts k a b) (sym (eqb-true kind 2 q))
    two false q f = zeros (eqb a 0) (eqb b 0) refl refl f

    one : (t : Bool) → eqb kind 1 ≡ t → cond t (Some (Block a b)) (cond (eqb kind 2) (Some (Time a b)) (cond (eqb a 0 && eqb b 0) (plain_sign kind) None)) ≡ Some s → parts_of s ≡ parts kind a b
    one true q f = let u : Block a b ≡ s = cc in ap parts_of (sym u) ∙ ap (λ k. parts k a b) (sym (eqb-true kind 1 q))
    one false q f = two (eqb kind 2) refl f

-- the parts of the sign that a word is
pub word_parts : (w : ℕ) (s : Sign) → sign_of w ≡ Some s → parts_of s ≡ parts (w % 256) (w / 256 % 268435456) (w / 68719476736)
word_parts w s e = unpacked_parts (w % 256) (w / 256 % 268435456) (w / 68719476736) s e

-- a word that is its kind alone is the sign of that kind; with numbers beside it is none
module _ (w : ℕ) (h : w % 256 ≡ 1 → ⊥) (g : w % 256 ≡ 2 → ⊥) where
  pub word_alone : w ≡ w % 256 → plain_sign (w % 256) ≡ sign_of w
  word_alone e =
      let a : w / 256 % 268435456 ≡ 0 = omega arith in
      let b : w / 68719476736 ≡ 0 = omega arith in
      sym (rw (ne_eqb (w % 256) 1 h, ne_eqb (w % 256) 2 g, a, b) refl)

  pub word_with_numbers : (w ≡ w % 256 → ⊥) → None ≡ sign_of w
  word_with_numbers n = sym (rw (ne_eqb (w % 256) 1 h, ne_eqb (w % 256) 2 g) (go (eqb (w / 256 % 268435456) 0) (eqb (w / 68719476736) 0) refl refl))
    where
      go : (x y : Bool) → eqb (w / 256 % 268435456) 0 ≡ x → eqb (w / 68719476736) 0 ≡ y → cond (x && y) (plain_sign (w % 256)) None ≡ None
      go true true p q =
          let a = eqb-true (w / 256 % 268435456) 0 p in
          let b = eqb-true (w / 68719476736) 0 q in
          absurd (n (omega arith))
      go true false p q = refl
      go false y p q = refl

-- the kind of a sign is 1 to 16
pub kind_range : (s : Sign) → (1 ≤ (parts_of s).kind) × ((parts_of s).kind ≤ 16)
kind_range (Block k l) = (omega arith, omega arith)
kind_range (Time m n) = (omega arith, omega arith)
kind_range LeftRepeat = (omega arith, omega arith)
kind_range RightRepeat = (omega arith, omega arith)
kind_range OpenEnding = (omega arith, omega arith)
kind_range CloseEnding = (omega arith, omega arith)
kind_range (Jump DcCoda) = (omega arith, omega arith)
kind_range (Jump DcFine) = (omega arith, omega arith)
kind_range (Jump DsCoda) = (omega arith, omega arith)
kind_range (Jump DsFine) = (omega arith, omega arith)
kind_range (Jump Dc) = (omega arith, omega arith)
kind_range (Jump Ds) = (omega arith, omega arith)
kind_range Segno = (omega arith, omega arith)
kind_range Coda = (omega arith, omega arith)
kind_range ToCoda = (omega arith, omega arith)
kind_range Fine = (omega arith, omega arith)

-- the parts of a sign say which it is
parts_again : (s : Sign) → unpacked (parts_of s).kind (parts_of s).first (parts_of s).second ≡ Some s
parts_again (Block k l) = refl
parts_again (Time m n) = refl
parts_again LeftRepeat = refl
parts_again RightRepeat = refl
parts_again OpenEnding = refl
parts_again CloseEnding = refl
parts_again (Jump DcCoda) = refl
parts_again (Jump DcFine) = refl
parts_again (Jump DsCoda) = refl
parts_again (Jump DsFine) = refl
parts_again (Jump Dc) = refl
parts_again (Jump Ds) = refl
parts_again Segno = refl
parts_again Coda = refl
parts_again ToCoda = refl
parts_again Fine = refl

-- a word of 64 bits that is a sign is that sign's word
pub word_again : (w : ℕ) → w < 2 ^ 64 → (s : Sign) → sign_of w ≡ Some s → word_of s ≡ w
word_again w h s e =
    let a : w / 256 % 268435456 < 268435456 = omega arith in
    let b : w / 68719476736 < 268435456 = omega arith in
    ap packed (word_parts w s e) ∙ rw (lt-ltb (w / 256 % 268435456) 268435456 a, lt-ltb (w / 68719476736) 268435456 b) (omega arith)

low_bits : (k x y : ℕ) → k < 256 → x < 268435456 → (k + 256 * x + 68719476736 * y) / 256 % 268435456 ≡ x
low_bits k x y hk hx = let d : (k + 256 * x + 68719476736 * y) / 256 ≡ x + 268435456 * y = omega arith in rw d (omega arith)

-- a sign whose numbers fit is what its word is
pub sign_again : (s : Sign) → (parts_of s).first < 268435456 → (parts_of s).second < 268435456 → sign_of (word_of s) ≡ Some s
sign_again s ha hb =
    let p = parts_of s in
    let k = kind_range s in
    let w : word_of s ≡ p.kind + 256 * p.first + 68719476736 * p.second = rw (lt-ltb p.first 268435456 ha, lt-ltb p.second 268435456 hb) in
    let e1 : word_of s % 256 ≡ p.kind = omega arith in
    let e2 : word_of s / 256 % 268435456 ≡ p.first = rw w (low_bits p.kind p.first p.second (omega arith) ha) in
    let e3 : word_of s / 68719476736 ≡ p.second = omega arith in
    rw (e1, e2, e3) (parts_again s)

-- the word of a sign is not 0 exactly where its numbers fit
some_word : (s : Sign) → (word_of s ≡ 0 → ⊥) → ((parts_of s).first < 268435456) × ((parts_of s).second < 268435456)
some_word s h = go (fits (parts_of s).first) (fits (parts_of s).second) refl refl h
  where
    go : (x y : Bool) → fits (parts_of s).first ≡ x → fits (parts_of s).second ≡ y
        → (cond (x && y) ((parts_of s).kind + 256 * (parts_of s).first + 68719476736 * (parts_of s).second) 0 ≡ 0 → ⊥)
        → ((parts_of s).first < 268435456) × ((parts_of s).second < 268435456)
    go true true p q n = (ltb-true (parts_of s).first 268435456 p, ltb-true (parts_of s).second 268435456 q)
    go true false p q n = absurd (n refl)
    go false y p q n = absurd (n refl)

-- a word of 64 bits is a sign exactly when it is the packing of that sign, and not 0
pub exactly : (w : ℕ) → w < 2 ^ 64 → (s : Sign) → (sign_of w ≡ Some s) ↔ ((word_of s ≡ w) × (w ≡ 0 → ⊥))
exactly w h s = (
  λ e. (word_again w h s e, λ z. let u : None ≡ Some s = sym (ap sign_of z) ∙ e in clash (cc)),
  λ q. let n = some_word s (λ z. q.1 (sym q.0 ∙ z)) in ap sign_of (sym q.0) ∙ sign_again s n.0 n.1,
)
