use Rattle.refusal.proofs.Outcome.{clash}
use Rattle.text.proofs.Read.{words_read, record_read}
use Rattle.text.proofs.read_record.Goals as goal

pub returns-in_err-unpack_little_endian_uint32_seq : goal.returns-in_err-unpack_little_endian_uint32_seq
returns-in_err-unpack_little_endian_uint32_seq c =
    clash (words_read c.args.input.now c.args.words.now c.requires.0 c.in_err-unpack_little_endian_uint32_seq.ensures).0

pub returns : goal.returns
returns c =
    let a = c.args in
    record_read a.«record».now a.rows.now (words_read a.input.now a.words.now c.requires.0 c.unpack_little_endian_uint32_seq.ensures).1 c.requires.1 c.demarshall.ensures
