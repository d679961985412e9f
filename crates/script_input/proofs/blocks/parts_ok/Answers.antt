use Rattle.rules.specs.Written.{numbers_fit}
use Rattle.script_rules.specs.Blocks.{texts_used, parts_ok}
use Rattle.script_input.specs.Read.{lengths_used}
use Rattle.script_input.proofs.BlockLaws.{byte-operation}
use Rattle.script_input.proofs.blocks.parts_ok.Goals as goal

pub returns : goal.returns
unfolding parts_ok numbers_fit texts_used lengths_used
returns c = rw (c.parts_used.ensures, c.bytes_count.ensures, c.text-2.ensures, c.text.ensures, c.uses-u.ensures, c.operation_of.ensures, c.as_byte.ensures, byte-operation)
