-- What is read are the words of the text's signs.
-- Assumes nothing.
use Rattle.std.specs.Prelude.{Ok}
use Rattle.std.proofs.Common.{◌≡◌, ◌∙◌, ℕ, ◌≤◌, List, length, take, drop, take_at}
use Rattle.std.proofs.lemmas.List.{length-map}
use Rattle.refusals.specs.Limits.{document01}
use Rattle.signs.specs.Words.{word_of}
use Rattle.reading.specs.Reading.{signs_of, reading_of, buffer_of}
use Rattle.reading.proofs.Scanning.{read_size}
use Rattle.tidy.specs.Tidy.{words_of}

pub record Read (text out new : List ℕ) (n : ℕ) : Type 0 where
  pub within : n ≤ length out
  pub words : take n new ≡ words_of text

pub words_read : (text out new : List ℕ) (n : ℕ) → reading_of document01 text (length out) ≡ Ok n → new ≡ buffer_of document01 text out → Read text out new n
unfolding buffer_of
words_read text out new n a e =
    let s = read_size document01 text (length out) n a in
    record {
      within = s.1;
      words = rw (e, a) (take_at (words_of text) (drop n out) n (length-map (signs_of text) word_of ∙ s.0));
    }
