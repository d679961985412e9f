use Rattle.script_output.proofs.Sequences.{whole}
use Rattle.script_output.proofs.answers.write_data_line.Goals as goal

pub returns : goal.returns
returns c = search whole
