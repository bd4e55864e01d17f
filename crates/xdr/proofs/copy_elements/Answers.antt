use Rattle.big_endian.proofs.Laws.{bytes_as_elements}
use Rattle.xdr.proofs.copy_elements.Goals as goal

pub returns-in-Bytes : goal.returns-in-Bytes
returns-in-Bytes c = rw (c.in-Bytes.is, bytes_as_elements c.args.src.now) c.copy_seq_into_array.ensures
