-- `write_bytes` meets its contract: the part of the output is the bytes. Assumes nothing.
use Rattle.std.proofs.Common.{length, refl, arith}
use Rattle.std.proofs.lemmas.Slice.{put_mid-paste}
use Rattle.text.proofs.Putting.{put_pasted}
use Rattle.text.proofs.writing.write_bytes.Goals as goal

pub returns : goal.returns
returns c = put_pasted c.args.bytes.now c.requires (put_mid-paste _ _ _ _ _ (length c.args.bytes.now) c.copy_from_slice.ensures.after (omega arith) refl)
