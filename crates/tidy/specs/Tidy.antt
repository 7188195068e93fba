-- What a text is when its signs are written as the writer writes them.
-- Assumes nothing.
use Rattle.std.specs.Prelude.{List, ℕ, map, Ok, Err}
use Rattle.refusals.specs.Limits.{document01}
use Rattle.signs.specs.Words.{word_of}
use Rattle.reading.specs.Reading.{Reading, signs_of, reading_of}
use Rattle.writing.specs.Writing.{Written, writing_of, content_of}

-- the answer for words that were read, or the reader's refusal
abbrev pub answer_after : Reading → List ℕ → ℕ → Written
answer_after (Ok n) words room = writing_of document01 words room
answer_after (Err r) words room = Err r

-- the buffer then
abbrev pub buffer_after : Reading → List ℕ → List ℕ → List ℕ
buffer_after (Ok n) words out = content_of document01 words out
buffer_after (Err r) words out = out

-- the words of a text's signs
abbrev pub words_of : List ℕ → List ℕ
words_of text = map word_of (signs_of text)

-- how many bytes the signs of a text take, or why they can't be read or written
abbrev pub tidied : List ℕ → ℕ → Written
tidied text room = answer_after (reading_of document01 text document01.signs) (words_of text) room

-- these bytes in front of the buffer's old content, which a refusal leaves as it was
abbrev pub tidied_buffer : List ℕ → List ℕ → List ℕ
tidied_buffer text out = buffer_after (reading_of document01 text document01.signs) (words_of text) out
