-- A spelling's meaning by its number: the signs that carry no number stand at their kinds.
-- Assumes nothing.
use Rattle.std.specs.Prelude.{None, Option, Some}
use mathlib.Core.Path.{◌≡◌, refl, sym, ap, ◌∙◌}
use mathlib.Core.List.{List, [], ◌∷◌, map}
use Prim.Native.Nat.{ℕ, zero, suc, ◌+◌, ◌<◌}
use native.Mathlib.Nat.{not-suc-le-zero, le_of_suc-le-suc}
use native.Mathlib.Numerals.{add-one}
use native.Mathlib.Omega.{arith}
use lib.ListN.{length, get_or}
use Rattle.signs.specs.declared.sign.Sign.{Sign}
use Rattle.signs.specs.declared.sign.Sign.TheVariants.{Block, Time}
use Rattle.signs.specs.Numbers.{pair_at}
use Rattle.signs.specs.Words.{plain_signs, plain_sign}
use Rattle.signs.specs.Spellings.{Meaning, alone, numbered, Spelling, spellings, spelling, made, finished_by}
use Rattle.signs.proofs.Gaps.{clash}
use Rattle.signs.proofs.Scan.{sixteen}

abbrev packed_as : Meaning → Option Sign
packed_as (alone s) = Some s
packed_as (numbered f) = None

at_kinds : plain_signs ≡ None ∷ map (λ s. packed_as s.means) spellings
unfolding spellings
at_kinds = refl

get_d_map : (ss : List Spelling) (d : Spelling) (i : ℕ) → i < length ss → get_or (map (λ s. packed_as s.means) ss) i None ≡ packed_as (get_or ss i d).means
get_d_map [] d i h = absurd (not-suc-le-zero h)
get_d_map (s ∷ ss) d zero h = refl
get_d_map (s ∷ ss) d (suc i) h = get_d_map ss d i (le_of_suc-le-suc h)

plain_at : (i : ℕ) → i < 16 → plain_sign (i + 1) ≡ packed_as (spelling i).means
plain_at i h = ap (λ us. get_or us (i + 1) None) at_kinds ∙ rw add-one (get_d_map spellings _ i (omega (arith, sixteen)))

pub means_alone : (i : ℕ) → i < 16 → (s : Sign) → plain_sign (i + 1) ≡ Some s → (spelling i).means ≡ alone s
means_alone i h s e = go (spelling i).means (sym (plain_at i h) ∙ e)
  where
    go : (m : Meaning) → packed_as m ≡ Some s → m ≡ alone s
    go (alone t) f = let q : t ≡ s = cc in ap alone q
    go (numbered g) f = clash (cc)

module _ (text : List ℕ) (at i : ℕ) where
  pub finish_block : i ≡ 0 → (r : Option (ℕ × ℕ × ℕ)) → pair_at text at ≡ r → made Block r ≡ finished_by text at i
  unfolding spellings
  finish_block e r f = rw (e, f)

  pub finish_time : i ≡ 1 → (r : Option (ℕ × ℕ × ℕ)) → pair_at text at ≡ r → made Time r ≡ finished_by text at i
  unfolding spellings
  finish_time e r f = rw (e, f)

  pub finish_plain : i < 16 → (s : Sign) → plain_sign (i + 1) ≡ Some s → Some (s, at) ≡ finished_by text at i
  finish_plain h s e = rw (means_alone i h s e)
