-- The limits, each in one place by its name: a later edition of them is another record.
-- Assumes nothing.
use Rattle.std.specs.Prelude.{ℕ}

pub record Limits : Type 0 where
  -- the bytes of a sign text
  pub bytes : ℕ
  -- the signs of a text or a list
  pub signs : ℕ
  -- the largest number that a sign or a block carries
  pub number : ℕ
  -- the written left repeats that are open around a sign
  pub depth : ℕ
  -- the loops of a score or a listing, numbered from 0
  pub loops : ℕ
  -- the blocks that a score plays
  pub blocks : ℕ
  -- the instructions of a listing
  pub instructions : ℕ
  -- the labels of a listing, numbered from 0
  pub labels : ℕ
  -- the largest T of a listing
  pub times : ℕ
  -- the largest performed beat of a saved position
  pub beat : ℕ

-- document 01's
abbrev pub document01 : Limits
document01 =
    record {
      bytes = 16384;
      signs = 1024;
      number = 999999;
      depth = 8;
      loops = 64;
      blocks = 65535;
      instructions = 2048;
      labels = 1024;
      times = 1023;
      beat = 1000000000000000000;
    }
