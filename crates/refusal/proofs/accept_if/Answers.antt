use Rattle.std.proofs.Common.{sym}
use Rattle.refusal.specs.Outcome.{accepted}
use Rattle.refusal.specs.Meaning.{reason_of}
use Rattle.refusal.proofs.Outcome.{test-true, test-false}
use Rattle.refusal.proofs.accept_if.Goals as goal

pub returns-then-holds : goal.returns-then-holds
returns-then-holds c = sym (test-true (reason_of c.args.refusal) accepted c.if-holds.true)

pub returns-else-holds : goal.returns-else-holds
returns-else-holds c = sym (test-false (reason_of c.args.refusal) accepted c.if-holds.false)
