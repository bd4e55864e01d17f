-- The refusals at an array of numbers, in the words and the order of document 02's request 08.
use Rattle.std.specs.Prelude.{◌≡◌, List, ℕ, ◌+◌, ◌*◌, ◌≤◌, ◌<◌, length, drop, get_or}
use Rattle.refusal.specs.Outcome.{refused, reason, byte}
use Rattle.big_endian.specs.BigEndian.{unpack_big_endian, unpack_big_endian_seq}
use Rattle.value.specs.Kinds.{Elements, element_width}
use Rattle.value.specs.Tree.{GNumberArray, VNumberArray}
use Rattle.value.specs.Step.{yield}
use Rattle.xdr.specs.Xdr.{padding}
use Rattle.xdr.specs.Import.{Filling, refusal, import_body}

-- the count of the array that starts at s
abbrev pub count_at : List ℕ → Filling → ℕ
count_at d s = unpack_big_endian 4 (drop s.at d)

-- the bytes of its elements, where they end, and where their padding ends
abbrev pub element_bytes : List ℕ → Elements → Filling → ℕ
element_bytes d k s = element_width k * count_at d s

abbrev pub elements_end : List ℕ → Elements → Filling → ℕ
elements_end d k s = s.at + 4 + element_bytes d k s

abbrev pub array_end : List ℕ → Elements → Filling → ℕ
array_end d k s = elements_end d k s + padding (element_bytes d k s)

-- the array of k that starts at s, its row claimed, in the bytes d and with a store of len bytes
pub record AtArray (capacity len : ℕ) (d : List ℕ) (k : Elements) (s : Filling) : Type 0 where
  -- "9 taking XDR's lengths and the padding": bytes of the count, the elements or the padding are missing
  pub missing : length d < array_end d k s → import_body capacity len d (GNumberArray k) s ≡ refused (refusal 9 s)
  -- "at an array 17 follows 9 when the store is too short, its place the store's length"
  pub too_short : array_end d k s ≤ length d → len < s.used + element_bytes d k s → import_body capacity len d (GNumberArray k) s ≡ refused (reason 17 (byte len))
  -- "padding that isn't zero is 23 at the value's start after 17": p is such a byte of it
  pub not_zero : array_end d k s ≤ length d → s.used + element_bytes d k s ≤ len → (p : ℕ) → elements_end d k s ≤ p → p < array_end d k s → (get_or d p 0 ≡ 0 → ⊥) → import_body capacity len d (GNumberArray k) s ≡ refused (refusal 23 s)
  -- else it is imported
  pub imported : array_end d k s ≤ length d → s.used + element_bytes d k s ≤ len → ((p : ℕ) → elements_end d k s ≤ p → p < array_end d k s → get_or d p 0 ≡ 0) → import_body capacity len d (GNumberArray k) s ≡ yield (VNumberArray k (unpack_big_endian_seq (element_width k) (drop (s.at + 4) d) (count_at d s))) (record { at = array_end d k s; begun = s.begun; used = s.used + element_bytes d k s })
