-- The layout of the input: the word count, the words, the record length, the record.
use Rattle.std.specs.Prelude.{◌≡◌, List, ℕ, ◌+◌, ◌*◌, ◌≤◌, min, length, take, drop, leb, eqb}
use Rattle.refusal.specs.Outcome.{Outcome, accepted, bind, test, Reason, reason, byte}
use Rattle.packed.specs.Packed.{unpack_little_endian, unpack_little_endian_seq}
use Rattle.input.specs.declared.Layout.{Layout}

-- the bytes of the longest input
abbrev pub most_input : ℕ
most_input = 65536

-- the most grammar words
abbrev pub most_words : ℕ
most_words = 1794

-- 19, at the input length; for a longer input at 65,536
abbrev pub not_laid_out : List ℕ → Reason
not_laid_out input = reason 19 (byte (min (length input) most_input))

-- the 4-byte number at an index, 19 where it is not there
unfoldable pub count_at : List ℕ → ℕ → Outcome Reason ℕ
count_at input index = test (leb (index + 4) (length input)) (not_laid_out input) (λ _. accepted (unpack_little_endian 4 (take 4 (drop index input))))

-- behind so many words: the record length and the record, with which the input ends
unfoldable pub record_after : List ℕ → ℕ → Outcome Reason Layout
record_after input words =
    bind (count_at input (4 + 4 * words)) (λ size.
    test (eqb (8 + 4 * words + size) (length input)) (not_laid_out input) (λ _.
    accepted (record { words = words; start = 8 + 4 * words; size = size })))

-- the layout of an input, or 19
unfoldable pub layout_of : List ℕ → Outcome Reason Layout
layout_of input =
    test (leb (length input) most_input) (not_laid_out input) (λ _.
    bind (count_at input 0) (λ words.
    test (leb words most_words) (not_laid_out input) (λ _. record_after input words)))

-- so many words from byte 4 on
abbrev pub words_at : List ℕ → ℕ → List ℕ
words_at input words = unpack_little_endian_seq 4 (take (4 * words) (drop 4 input)) words

-- the grammar words and the record of an input
abbrev pub grammar_of : List ℕ → Layout → List ℕ
grammar_of input p = words_at input p.words

abbrev pub record_of : List ℕ → Layout → List ℕ
record_of input p = take p.size (drop p.start input)

-- when an input is laid out: the four parts one behind the other, and nothing left over (`layout_exactly` of proofs/)
pub record LaidOut (input : List ℕ) (p : Layout) : Type 0 where
  pub short : length input ≤ most_input
  pub counted : unpack_little_endian 4 (take 4 (drop 0 input)) ≡ p.words
  pub few : p.words ≤ most_words
  pub start : p.start ≡ 8 + 4 * p.words
  pub sized : unpack_little_endian 4 (take 4 (drop (4 + 4 * p.words) input)) ≡ p.size
  pub whole : p.start + p.size ≡ length input
