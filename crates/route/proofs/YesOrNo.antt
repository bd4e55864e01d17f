-- Which records are answered yes (specs/YesOrNo.antt).
use Rattle.std.proofs.Common.{◌≡◌, ap, sym, ◌∙◌, true, List, ℕ, ◌≤◌, arith, length}
use Rattle.refusal.specs.Outcome.{accepted}
use Rattle.packed.specs.Packed.{Bytes}
use Rattle.value.specs.Tree.{Val, row_count}
use Rattle.value.specs.Step.{Step}
use Rattle.value.specs.Reading.{State, start, read_whole, read_to}
use Rattle.value.proofs.Reading.{whole-fits, whole-accepted}
use Rattle.grammar.specs.Tree.{tree_of}
use Rattle.grammar.proofs.Tree.{tree_valid}
use Rattle.reading.specs.Calls.{without_state}
use Rattle.reading.proofs.Calls.{without_state-accepted, checked}
use Rattle.accepting.specs.Accepts.{accepts_of}
use Rattle.accepting.proofs.Rule.{accepts-rule}
use Rattle.route.specs.Demands.{Grammar, RecordOf}
use Rattle.route.specs.YesOrNo.{YesOfRecords}
use Rattle.route.proofs.Reading.{value_of, of-value}

module _ (g d : List ℕ) (w : Grammar g) (b : Bytes d) (s : length d ≤ 1048576) (n : ℕ) where
  yes_record : accepts_of g d ≡ accepted (record { yes = true; begun = n }) → (v : Val) × RecordOf g d v × (row_count v ≡ n) × (n ≤ 4096)
  yes_record h =
      let x = (accepts-rule.yes g d w.words b n).0 h in
      let t = x.0 in
      let r : read_whole 4096 d (tree_of g 0) ≡ accepted t = without_state-accepted (read_whole 4096 d (tree_of g 0)) t (sym (checked g d 4096 w.passes s) ∙ x.1) in
      let y = whole-accepted 4096 d (tree_of g 0) (tree_valid g w.words 0) b t r in
      let q : row_count t.value ≡ n = omega (arith, ap (λ (u : Step State Val). u.state.begun) y.3, x.2) in
      (t.value, record { value = of-value y.0; bytes = y.1 }, q, omega (arith, y.2))

  record_yes : (v : Val) → RecordOf g d v → row_count v ≡ n → n ≤ 4096 → accepts_of g d ≡ accepted (record { yes = true; begun = n })
  record_yes v o q l =
      let r : read_whole 4096 d (tree_of g 0) ≡ accepted (read_to v (start 0)) = rw o.bytes (whole-fits 4096 (tree_of g 0) v (value_of w o.value) (omega arith)) in
      (accepts-rule.yes g d w.words b n).1 (read_to v (start 0), checked g d 4096 w.passes s ∙ ap without_state r, omega arith)

pub yes-of_records : YesOfRecords
yes-of_records g d w b s n = (yes_record g d w b s n, λ x. record_yes g d w b s n x.0 x.1 x.2 x.3)
