use Rattle.script_output.proofs.answers.write_first.Goals as goal

pub write_hex-requires : goal.write_hex-requires
write_hex-requires c = rw c.upto-part.ensures c.requires

pub returns : goal.returns
returns c = rw c.upto-part.ensures at c.write_hex.ensures
