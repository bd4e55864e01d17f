-- Demand 3, proved.
use Rattle.std.proofs.Common.{◌≡◌, sym, ap, subst, ◌∙◌, List, ℕ, ◌≤◌, ◌<◌, arith, length}
use Rattle.std.proofs.Math.Decide.{dec_le}
use Rattle.refusal.specs.Outcome.{accepted}
use Rattle.value.specs.Tree.{SizeOfV, row_count}
use Rattle.value.proofs.Laws.{length_bytes_of, front-part, one_value_lem}
use Rattle.grammar.proofs.Rule.{accepted_exactly}
use Rattle.rows.proofs.Rule.{table-accepted}
use Rattle.admission.specs.Admission.{capacity_of}
use Rattle.route.specs.Demands.{PutThere, AcceptsExactly, HandsOut, NeedsMoreRows, NoneFits, WritesBack, WritesBackWhole, NoFrontPart, Demand3}
use Rattle.route.proofs.Reading.{value_of, read_out, read_fits, read_short, exit_layout, exit_kept, exit_length, exit_table}
use Rattle.route.proofs.Writing.{written}

accepts_exactly_lem : AcceptsExactly
accepts_exactly_lem g d rows exit r h = (
  λ a. let x = read_out h a.0 a.1 in (x.0, x.1.of_record, x.1.fits),
  λ b. read_fits h b.0 b.1 b.2,
)

hands_out_lem : HandsOut
hands_out_lem g d rows exit r h k e =
    let y = read_out h k e in
    let v = y.0 in
    let x = y.1 in (
      v,
      record {
        of_record = x.of_record;
        count = x.count;
        layout = exit_layout h.short x;
        walked = table-accepted exit k.rows d v (exit_table h.short x);
        kept = exit_kept h.short x;
        words = exit_length h.short x;
        only = λ u o. one_value_lem (value_of h.grammar o.value) x.valid (sym o.bytes ∙ x.of_record.bytes);
      },
      x.end,
    )

needs_more_rows_lem : NeedsMoreRows
needs_more_rows_lem g d rows exit r h v o l = read_short h v o l

none-fits : NoneFits
none-fits g d rows exit r h e q v o = go (dec_le (row_count v) (capacity_of (length rows)))
  where
    go : Dec (row_count v ≤ capacity_of (length rows)) → capacity_of (length rows) < row_count v
    go (yes l) = let x = sym q ∙ (read_fits h v o l).1 in let z : ◌≡◌ {A = ℕ} 0 1 = cc in absurd (omega arith)
    go (no l) = omega (arith, l)

writes_back_lem : WritesBack
writes_back_lem g d rows exit r h k e out index l w after m =
    let y = read_out h k e in
    let x = y.1 in
    let n : SizeOfV y.0 ≡ length d = sym (length_bytes_of y.0) ∙ ap length (sym x.of_record.bytes) in
    let p = written m y.0 (record { grammar = (accepted_exactly g).0 h.grammar.passes; rows = table-accepted exit k.rows d y.0 (exit_table h.short x); in_grammar = x.of_record.value.in_grammar; small = omega (arith, h.short); room = omega arith }) in
    (p.0 ∙ ap accepted n, subst (λ (b : List ℕ). PutThere b out index after) (sym x.of_record.bytes) p.1)

writes_back_whole_lem : WritesBackWhole
writes_back_whole_lem g d rows exit r h k e out l w after m = writes_back_lem g d rows exit r h k e out 0 (omega arith) w after m

no-front-part : NoFrontPart
no-front-part g w u v o q n = (
  λ f. n (front-part (value_of w o) (value_of w q) f.count f.first),
  λ f. n (sym (front-part (value_of w q) (value_of w o) f.count f.first)),
)

pub demand3 : Demand3
demand3 = record {
  accepts_exactly = accepts_exactly_lem;
  hands_out = hands_out_lem;
  needs_more_rows = needs_more_rows_lem;
  none_fits = none-fits;
  writes_back = writes_back_lem;
  writes_back_whole = writes_back_whole_lem;
  no_front_part = no-front-part;
}
