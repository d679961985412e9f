use Rattle.std.proofs.Common.{arith, drop}
use lib.ListN.{length-take, length-drop}
use Rattle.std.specs.List.{prefix_len}
use Rattle.script_rules.specs.Text.{not_newline}
use Rattle.script_text.proofs.Spans.{length-span}
use Rattle.console.proofs.words.line_end.Goals as goal

-- a line is at most as long as what is left of the script
pub overflow_add-result : goal.overflow_add-result
overflow_add-result c =
    let rest = drop c.args.at c.args.script.now in
    omega (arith, c.line_length.ensures, length-span not_newline rest, length-take (prefix_len not_newline rest) rest, length-drop c.args.at c.args.script.now)
