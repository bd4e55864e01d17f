use Rattle.std.proofs.Common.{◌≡◌, ◌+◌, ◌≤◌, length, arith, ap, ◌∙◌}
use Rattle.packed.proofs.Put.{length-put}
use Rattle.big_endian.specs.BigEndian.{pack_big_endian}
use Rattle.big_endian.proofs.Laws.{length_pack_big}
use Rattle.value.specs.Kinds.{element_width}
use Rattle.value.specs.Meaning.{elements_named}
use Rattle.value.proofs.KindLaws.{element_width_positive}
use Rattle.exporting.proofs.Exporting.{elements_copied, elements_fit, elements-put}
use Rattle.exporting.proofs.export_elements.Goals as goal
use Rattle.exporting.proofs.export_elements.Goals.{After-export_number-at}

-- behind the count there is room
mid_room : (c : After-export_number-at) → c.export_number-at.result + length c.args.src.now ≤ length c.export_number-at.new.out
mid_room c =
    let a = c.args in
    let u = c.export_number-at in
    let q = length_pack_big 4 a.count in
    let m : length u.new.out ≡ length a.out.now = ap length u.ensures.1 ∙ length-put a.out.now a.index (pack_big_endian 4 a.count) (omega (arith, c.requires.2)) in
    omega (arith, u.ensures.0, c.requires.2)

pub unwrap-requires : goal.unwrap-requires
unwrap-requires c =
    let a = c.args in
    let u = c.export_number-at in
    let e = elements_fit (element_width (elements_named a.elements)) a.src.now u.new.out u.result (element_width_positive (elements_named a.elements)) (mid_room (goal.at.unwrap-requires c).After-export_number-at) c.copy_elements.ensures in
    grind arith

pub returns : goal.returns
returns c =
    let a = c.args in
    let u = c.export_number-at in
    let w = element_width (elements_named a.elements) in
    let positive = element_width_positive (elements_named a.elements) in
    let e = elements_copied w a.src.now u.new.out u.result positive (mid_room (goal.at.returns c).After-export_number-at) c.copy_elements.ensures in
    (omega (arith, u.ensures.0, c.export_padding.ensures.0), elements-put w a.count a.src.now a.out.now a.index positive c.requires.1 c.requires.2 u.ensures.0 u.ensures.1 e c.export_padding.ensures.1)
