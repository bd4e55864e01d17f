-- The least lengths of a grammar's nodes as the code holds them: 256 entries in four blocks of 64.
use Rattle.std.specs.Prelude.{◌≡◌, List, ◌++◌, ℕ, length}

abbrev pub Blocks : List ℕ → List ℕ → List ℕ → List ℕ → Type 0
Blocks a b c d = (length a ≡ 64) × (length b ≡ 64) × (length c ≡ 64) × (length d ≡ 64)

-- all entries, one block behind the other
unfoldable pub entries : List ℕ → List ℕ → List ℕ → List ℕ → List ℕ
entries a b c d = a ++ (b ++ (c ++ d))
