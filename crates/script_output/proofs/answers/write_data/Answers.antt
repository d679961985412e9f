use Rattle.script_output.proofs.Sequences.{first, second, third, whole}
use Rattle.script_output.proofs.answers.write_data.Goals as goal

pub write_first-after_name-requires : goal.write_first-after_name-requires
write_first-after_name-requires c = search first

pub write_fields-after_fields-requires : goal.write_fields-after_fields-requires
write_fields-after_fields-requires c = search second

pub write_first-requires : goal.write_first-requires
write_first-requires c = search third

pub returns : goal.returns
returns c = search whole
