-- An input made of grammar words and a record.
use Rattle.std.proofs.Common.{◌≡◌, refl, ap, sym, ◌∙◌, List, [], ◌++◌, append_assoc, append-nil, ℕ, ◌+◌, ◌*◌, ◌^◌, ◌≤◌, arith, length, take, drop, length-append, take_at, drop_at, drop-drop}
use Rattle.std.proofs.Math.Seq.{take-length}
use Rattle.refusal.specs.Outcome.{Outcome, accepted, bind, Reason}
use Rattle.packed.specs.Packed.{Below, unpack_little_endian, unpack_little_endian_seq, pack_little_endian, pack_little_endian_seq}
use Rattle.packed.proofs.Laws.{length_pack, unpack_packed, length_pack_seq, unpack_seq_pack_seq}
use Rattle.reading.specs.Calls.{demarshall_of}
use Rattle.input.specs.declared.Layout.{Layout}
use Rattle.input.specs.Input.{most_input, most_words, layout_of, grammar_of, record_of}
use Rattle.text.specs.Show.{most_rows, read_input}
use Rattle.input.proofs.Input.{layout_exactly}

-- the input that holds grammar words and a record, and its parts
abbrev pub input_of : List ℕ → List ℕ → List ℕ
input_of ws d = pack_little_endian 4 (length ws) ++ (pack_little_endian_seq 4 ws ++ (pack_little_endian 4 (length d) ++ d))

abbrev pub parts_made : List ℕ → List ℕ → Layout
parts_made ws d = record { words = length ws; start = 8 + 4 * length ws; size = length d }

-- it is accepted, and they are its words and its record
module _ (ws d : List ℕ) (below : Below (2 ^ 32) ws) (few : length ws ≤ most_words) where
  front : length (pack_little_endian 4 (length ws) ++ pack_little_endian_seq 4 ws) ≡ 4 + 4 * length ws
  front = rw (length-append, length_pack 4 (length ws), length_pack_seq 4 ws)

  behind-words : drop (4 + 4 * length ws) (input_of ws d) ≡ pack_little_endian 4 (length d) ++ d
  behind-words =
      ap (drop (4 + 4 * length ws)) (sym (append_assoc (pack_little_endian 4 (length ws)) (pack_little_endian_seq 4 ws) (pack_little_endian 4 (length d) ++ d)))
      ∙ drop_at (pack_little_endian 4 (length ws) ++ pack_little_endian_seq 4 ws) (pack_little_endian 4 (length d) ++ d) (4 + 4 * length ws) front

  length-made : length (input_of ws d) ≡ 8 + 4 * length ws + length d
  length-made = simp (length-append, length_pack, length_pack_seq) (omega arith)

  pub made-words : grammar_of (input_of ws d) (parts_made ws d) ≡ ws
  made-words =
      let e : take (4 * length ws) (drop 4 (input_of ws d)) ≡ pack_little_endian_seq 4 ws =
      ap (take (4 * length ws)) (drop_at (pack_little_endian 4 (length ws)) (pack_little_endian_seq 4 ws ++ (pack_little_endian 4 (length d) ++ d)) 4 (length_pack 4 (length ws)))
      ∙ take_at (pack_little_endian_seq 4 ws) (pack_little_endian 4 (length d) ++ d) (4 * length ws) (length_pack_seq 4 ws) in
      ap (λ (x : List ℕ). unpack_little_endian_seq 4 x (length ws)) (e ∙ sym (append-nil (pack_little_endian_seq 4 ws))) ∙ unpack_seq_pack_seq 4 ws [] below

  pub made_record : record_of (input_of ws d) (parts_made ws d) ≡ d
  made_record =
      let n : 8 + 4 * length ws ≡ 4 + 4 * length ws + 4 = omega arith in
      let e : drop (8 + 4 * length ws) (input_of ws d) ≡ d =
      ap (λ (k : ℕ). drop k (input_of ws d)) n
      ∙ sym (drop-drop 4 (4 + 4 * length ws) (input_of ws d))
      ∙ ap (drop 4) behind-words
      ∙ drop_at (pack_little_endian 4 (length d)) d 4 (length_pack 4 (length d)) in
      ap (take (length d)) e ∙ take-length d

  pub made-accepted : length (input_of ws d) ≤ most_input → layout_of (input_of ws d) ≡ accepted (parts_made ws d)
  made-accepted h =
      (layout_exactly (input_of ws d) (parts_made ws d)).1
      (record {
        short = h;
        counted = ap (unpack_little_endian 4) (take_at (pack_little_endian 4 (length ws)) (pack_little_endian_seq 4 ws ++ (pack_little_endian 4 (length d) ++ d)) 4 (length_pack 4 (length ws))) ∙ unpack_packed 4 (length ws) (omega arith);
        few = few;
        start = refl;
        sized = ap (λ (x : List ℕ). unpack_little_endian 4 (take 4 x)) behind-words ∙ ap (unpack_little_endian 4) (take_at (pack_little_endian 4 (length d)) d 4 (length_pack 4 (length d))) ∙ unpack_packed 4 (length d) (omega (arith, length-made));
        whole = sym length-made;
      })

  -- so every grammar and record of no more words and bytes can be shown
  pub made-read : length (input_of ws d) ≤ most_input → read_input (input_of ws d) ≡ demarshall_of ws d most_rows
  unfolding read_input
  made-read h =
      ap (λ (o : Outcome Reason Layout). bind o (λ p. demarshall_of (grammar_of (input_of ws d) p) (record_of (input_of ws d) p) most_rows)) (made-accepted h)
      ∙ ap (λ (g : List ℕ). demarshall_of g (record_of (input_of ws d) (parts_made ws d)) most_rows) made-words
      ∙ ap (λ (x : List ℕ). demarshall_of ws x most_rows) made_record
