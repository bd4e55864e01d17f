use Rattle.std.proofs.Common.{◌≡◌, ◌+◌, ◌-◌, ◌∙◌, length, drop, arith}
use Rattle.previewing.specs.Preview.{differing}
use Rattle.previewing.proofs.Differing.{differing_over}
use Rattle.previewing.proofs.compare_bytes.Goals as goal

pub returns : goal.returns
returns c =
    let a = c.args in
    let e : a.at + length a.bytes.now - a.at ≡ length a.bytes.now = omega arith in
    let n : c.count_differing.result ≡ differing (drop a.at a.out.now) a.bytes.now = (rw e at c.count_differing.ensures) ∙ differing_over (drop a.at a.out.now) a.bytes.now in
    rw n
