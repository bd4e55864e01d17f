-- The loop's invariant: the bytes looked at are zero, so the others decide.
use Rattle.std.proofs.Common.{◌≡◌, drop}
use Rattle.xdr.specs.Import.{zeros}
use Rattle.importing.proofs.zeros.Given as goal

abbrev pub invariant-loop-b : goal.invariant-loop-b
invariant-loop-b l = zeros l.bytes ≡ zeros (drop l.b-index l.bytes)
