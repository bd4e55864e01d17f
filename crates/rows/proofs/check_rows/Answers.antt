-- Each way out decides one of the tests; the root, as the only child, decides the rest.
use Rattle.std.proofs.Common.{◌≡◌, ◌*◌, ◌<◌, ◌≤◌, length, true, ap, sym, ◌∙◌, arith}
use Rattle.refusal.specs.Outcome.{refused}
use Rattle.tables.specs.Row.{row_width, row_at}
use Rattle.rows.specs.Walk.{count_holds}
use Rattle.rows.proofs.Laws.{reflects_rows, only_child_lem, store_long, rows-missing, root-short, root-walk}
use Rattle.rows.proofs.check_rows.Goals as goal
use Rattle.rows.proofs.check_rows.Goals.{Else-not-count_holds}

-- behind the test of the count
counted : (c : Else-not-count_holds) → count_holds c.args.rows.now c.args.n ≡ true
counted c = sym c.count_holds.ensures ∙ c.if-not-count_holds.false

there : (c : Else-not-count_holds) → let a = c.args in (0 < a.n) × ((a.n ≤ 4096) × (row_width * a.n ≤ length a.rows.now))
there c = (reflects_rows c.args.rows.now c.args.n).1 (counted c)

pub returns-then-store-gt-MOST_BYTES : goal.returns-then-store-gt-MOST_BYTES
returns-then-store-gt-MOST_BYTES c =
    let a = c.args in
    ap refused c.at_byte.ensures ∙ store_long a.rows.now a.n a.store.now c.if-store-gt-MOST_BYTES.true

pub returns-then-not-count_holds : goal.returns-then-not-count_holds
returns-then-not-count_holds c =
    let a = c.args in
    ap refused c.at_row.ensures ∙ rows-missing a.rows.now a.n a.store.now c.if-store-gt-MOST_BYTES.false (sym c.count_holds.ensures ∙ c.if-not-count_holds.true)

pub returns-then-span_at-n : goal.returns-then-span_at-n
returns-then-span_at-n c =
    let a = c.args in
    ap refused c.at_row-then-span_at-n.ensures ∙ root-short a.rows.now a.n a.store.now c.if-store-gt-MOST_BYTES.false (counted (goal.at.returns-then-span_at-n c).Else-not-count_holds) (λ e. omega (arith, c.if-span_at-n.true, c.span_at.ensures, e))

pub check_children-requires : goal.check_children-requires
check_children-requires c = (omega arith, (there (goal.at.check_children-requires c).Else-not-count_holds).1.0, c.if-store-gt-MOST_BYTES.false)

pub returns : goal.returns
returns c =
    let a = c.args in
    let e : (row_at a.rows.now 0).span ≡ a.n = sym c.span_at.ensures ∙ c.if-span_at-n.false in
    c.check_children.ensures ∙ only_child_lem a.rows.now a.store.now 0 a.n (there (goal.at.returns c).Else-not-count_holds).0 e ∙ root-walk a.rows.now a.n a.store.now c.if-store-gt-MOST_BYTES.false (counted (goal.at.returns c).Else-not-count_holds) e
