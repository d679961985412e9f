-- Opens every definition of the rules of scripts, and of the store, for proofs by computation: `unfolding computing`. Written by tools/computing.py.
use Rattle.std.specs.Prelude.{Bool, true}
use Rattle.rules.specs.Computing.{computing as rules-computing}
use Rattle.script_rules.specs.Text.{not_newline, is_digit, digits_from, leads, length_ok, number_ok, digits, is_letter, is_hex, hex_value, bytes_of, hex_ok, hex_digit, hex_of, little}
use Rattle.script_rules.specs.Blocks.{has_key, text_of, line_ok, after_line, number_line_ok, data_line_ok, texts_used, parts_ok, head_lines_ok, operand_lines_ok, number_lines_ok, text_lines_ok, lines_ok, block_ok, printed_block, printed, blocks, after_blocks}
use Rattle.script_rules.specs.Answers.{stat_bytes, field_bytes, data_of, answer_text}
use Rattle.script_rules.specs.Reasons.{reason_number}
use Rattle.script_rules.specs.Replay.{as_byte, reads_too_much, call_for, room_for, bytes_for, asked_by, run}

unfoldable pub computing : Bool
unfolding rules-computing not_newline is_digit digits_from leads length_ok number_ok digits is_letter is_hex hex_value bytes_of hex_ok hex_digit hex_of little has_key text_of line_ok after_line number_line_ok data_line_ok texts_used parts_ok head_lines_ok operand_lines_ok number_lines_ok text_lines_ok lines_ok block_ok printed_block printed blocks after_blocks stat_bytes field_bytes data_of answer_text reason_number as_byte reads_too_much call_for room_for bytes_for asked_by run
computing = true
