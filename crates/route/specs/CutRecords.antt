-- Document 02's request 04: "Show that every proper front part of a record accepted whole, under the same grammar and capacity, is refused with
-- 9 and with nothing else." It is a statement on the reading as it is, and no contract cites it. proofs/CutRecords.antt proves it.
use Rattle.std.specs.Prelude.{◌≡◌, List, [], ◌∷◌, ℕ, ◌<◌, length, take, Result}
use Rattle.refusal.specs.declared.Refusal.{Refusal}
use Rattle.refusal.specs.Outcome.{Outcome, accepted, refused, map, byte, Reason, reason}
use Rattle.value.specs.Tree.{Val}
use Rattle.value.specs.Step.{Step}
use Rattle.value.specs.Reading.{State}
use Rattle.admission.specs.Admission.{capacity_of}
use Rattle.reading.specs.Meaning.{Counts, parsed_of}
use Rattle.reading.specs.Calls.{parse_val_of, demarshall_of, counts_of, Parses}
use Rattle.reading.specs.declared.Parsed.{Parsed}
use Rattle.answer_c.specs.Answer.{answer_of, count_values}
use Rattle.answer_c.specs.declared.RouteAnswer.{RouteAnswer}
use Rattle.route.specs.Demands.{FrontPart}
use Rattle.route.specs.Bench.{grammar_a, record_a, grammar_d, grammar_of}

-- the first bytes, from none to all but one. The empty record has no such part
pub record ProperFrontPart (part whole : List ℕ) : Type 0 where
  pub front : FrontPart part whole
  pub less : front.count < length whole

-- "with 9 and with nothing else": an outcome is one case, so it is neither accepted nor refused with another number. The place is a byte; the
-- request asks nothing more of it
abbrev pub RefusedWith9 : {A : Type 0} → Outcome Reason A → Type 0
RefusedWith9 o = (place : ℕ) × (o ≡ refused (reason 9 (byte place)))

-- of the definition that the contracts of all whole readings cite
abbrev pub CutReading : Type 0
CutReading =
    (g d part : List ℕ) (capacity : ℕ) (t : Step State Val) → demarshall_of g d capacity ≡ accepted t
    → ProperFrontPart part d → RefusedWith9 (demarshall_of g part capacity)

-- Nothing is asked of the grammar, the bytes or the capacity but that the record is accepted. It would say nothing if no record that has bytes
-- were: case A's is (`cut-A` of proofs/CutRecords.antt), and `bench` has each of its proper front parts with the place
pub record CutRecords : Type 0 where
  pub reading : CutReading
  -- of `check_whole` and `check_whole_with`, at the capacity of their contracts. The answers of `demarshall` are such answers, too (`answers` of
  -- `Parses`), so at one capacity one call may accept the record and the other be given the part
  pub check :
      (g d part : List ℕ) (capacity : ℕ) (r q : Result Parsed Refusal) → parsed_of r ≡ map counts_of (demarshall_of g d capacity) → (k : Counts) → parsed_of r ≡ accepted k
      → ProperFrontPart part d → parsed_of q ≡ map counts_of (demarshall_of g part capacity) → RefusedWith9 (parsed_of q)
  -- of `demarshall`: the same capacity is that of the rows lent, whatever they hold and however many words are left over. Those lent for the
  -- part stay as they are
  pub whole :
      (g d part rows exit rows' exit' : List ℕ) (r q : Result Parsed Refusal) → Parses (demarshall_of g d (capacity_of (length rows))) 0 r rows exit → (k : Counts) → parsed_of r ≡ accepted k
      → ProperFrontPart part d → capacity_of (length rows') ≡ capacity_of (length rows)
      → Parses (demarshall_of g part (capacity_of (length rows'))) 0 q rows' exit' → RefusedWith9 (parsed_of q) × (exit' ≡ rows')
  -- of `route_check_whole`, `route_check_whole_with` and `route_demarshall`, the C calls, where number 0 says accepted (specs/Accepted.antt)
  pub answerC :
      (g d part : List ℕ) (capacity : ℕ) (r q : RouteAnswer) → r ≡ answer_of (map count_values (map counts_of (demarshall_of g d capacity))) → r.number ≡ 0
      → ProperFrontPart part d → q ≡ answer_of (map count_values (map counts_of (demarshall_of g part capacity))) → q.number ≡ 9

-- nine bytes, of which a uint32 takes the first four
abbrev pub nine_bytes : List ℕ
nine_bytes = 1 ∷ 2 ∷ 3 ∷ 4 ∷ 5 ∷ 6 ∷ 7 ∷ 8 ∷ 9 ∷ []

-- What is not claimed: each of these is false, as the instance shows
pub record NotClaimed : Type 0 where
  -- that 9 means a cut record: under the empty union the empty bytes are refused with 9, and no bytes are accepted, at whatever capacity
  pub only_cut : (demarshall_of grammar_d [] 4096 ≡ refused (reason 9 (byte 0))) × ((d : List ℕ) (capacity : ℕ) (t : Step State Val) → ¬ (demarshall_of grammar_d d capacity ≡ accepted t))
  -- the same of a reading from an index, which leaves the bytes behind the value: nine are accepted, and the first five of them
  pub from_index : (t u : Step State Val) × (parse_val_of (grammar_of 1) nine_bytes 0 1 ≡ accepted t) × (parse_val_of (grammar_of 1) (take 5 nine_bytes) 0 1 ≡ accepted u)
  -- the same with fewer rows for the part: case A is accepted where 3 rows are lent, and its first four bytes are refused with 8 where 2 are
  pub fewer_rows : (t : Step State Val) × (demarshall_of grammar_a record_a 3 ≡ accepted t) × (demarshall_of grammar_a (take 4 record_a) 2 ≡ refused (reason 8 (byte 4)))
