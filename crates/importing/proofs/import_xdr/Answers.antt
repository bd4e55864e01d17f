use mathlib.Core.Path.{◌≡◌, refl}
use mathlib.Core.Logic.{inl, inr}
use mathlib.Core.List.{List}
use Prim.Native.Nat.{ℕ, ◌*◌, ◌^◌}
use native.Mathlib.Nat.{le_refl}
use lib.ListN.{length}
use Rattle.refusal.specs.Outcome.{accepted}
use Rattle.std.proofs.lemmas.Result.{err_from_is_err_and}
use Rattle.packed.specs.Packed.{Below, Lent}
use Rattle.tables.specs.Row.{row_width}
use Rattle.admission.specs.Admission.{capacity_of}
use Rattle.importing.specs.Brings.{Admitted}
use Rattle.importing.specs.Calls.{admit_of}
use Rattle.importing.proofs.Root.{admitted, import_refused, import_stopped, import_again, import_filled}
use Rattle.importing.proofs.import_xdr.Goals as goal
use Rattle.importing.proofs.import_xdr.Goals.{In_ok-admit}

-- behind what is decided first: 1 to 6 are not given
ready : (c : In_ok-admit) → let a = c.args in accepted tt ≡ admit_of a.grammar.now a.«record».now (length a.store.now)
ready c = c.in_ok-admit.ensures

words : (c : In_ok-admit) → Below (2 ^ 32) c.args.grammar.now
words c = λ j _. (c.type_inv.grammar j).fits

-- rows and store of any lengths
asked : (c : In_ok-admit) (rows store : List ℕ) → Lent (row_width * c.capacity_of.result) rows → Lent (length c.args.store.now) store → let a = c.args in Admitted a.grammar.now a.«record».now rows store (record { capacity = c.capacity_of.result; room = length a.store.now })
asked c rows store r s =
    let a = c.args in
    let h = admitted a.grammar.now a.«record».now (length a.store.now) (ready c) in
    record {
      table = record { passes = h.0; words = words c };
      short = h.1;
      most = c.capacity_of.ensures.1;
      small = h.2;
      rows_lent = r;
      store_lent = s;
      byte_values = λ j. (c.type_inv.record j).fits;
    }

pub check_root-requires : goal.check_root-requires
check_root-requires c = asked c _ _ (inl refl) (inl refl)

pub import_root-requires : goal.import_root-requires
import_root-requires c = asked (goal.at.import_root-requires c).In_ok-admit _ _ (inr c.capacity_of.ensures.2) (inr (le_refl (length c.args.store.now)))

pub returns-in_err-admit : goal.returns-in_err-admit
returns-in_err-admit c =
    let a = c.args in
    let p = err_from_is_err_and c.from_residual.result c.from_residual.ensures.1 in
    rw (p.1, p.2) (import_refused a.grammar.now a.«record».now a.rows.now a.store.now (capacity_of (length a.rows.now)) c.in_err-admit.field-0.0 c.in_err-admit.ensures)

pub returns-in_err-check_root : goal.returns-in_err-check_root
returns-in_err-check_root c =
    let a = c.args in
    let r = c.from_residual-in_err-check_root in
    let p = err_from_is_err_and r.result r.ensures.1 in
    rw (p.1, p.2, ← c.capacity_of.ensures.0) (import_stopped a.grammar.now a.«record».now a.rows.now a.store.now c.capacity_of.result (ready (goal.at.returns-in_err-check_root c).In_ok-admit) c.in_err-check_root.field-0.0 refl c.in_err-check_root.ensures)

pub returns-in_err-end : goal.returns-in_err-end
returns-in_err-end c =
    let a = c.args in
    absurd (import_again a.grammar.now a.«record».now a.rows.now a.store.now c.capacity_of.result (ready (goal.at.returns-in_err-end c).In_ok-admit) c.in_ok-check_root.ensures c.in_err-end.ensures c.in_err-end.field-0.0 refl)

pub returns : goal.returns
returns c =
    let a = c.args in
    rw (← c.capacity_of.ensures.0) (import_filled a.grammar.now a.«record».now a.rows.now a.store.now c.capacity_of.result (ready (goal.at.returns c).In_ok-admit) c.in_ok-check_root.ensures c.in_ok-end.ensures (words (goal.at.returns c).In_ok-admit) (λ j. (c.type_inv.record j).fits) c.capacity_of.ensures.2 c.in_ok-end.end refl)
