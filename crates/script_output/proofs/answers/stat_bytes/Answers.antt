use mathlib.Core.Path.{refl, ◌∙◌}
use Rattle.script_rules.specs.Text.{little}
use Rattle.script_rules.specs.Answers.{stat_bytes}
use Rattle.script_output.proofs.AnswerLaws.{word-bytes}
use Rattle.script_output.proofs.answers.stat_bytes.Goals as goal

pub returns : goal.returns
unfolding stat_bytes little
returns c =
    rw
    (c.to_le_bytes-kind.ensures ∙ word-bytes _, c.to_le_bytes-owner.ensures ∙ word-bytes _, c.to_le_bytes-group.ensures ∙ word-bytes _, c.to_le_bytes-bits.ensures ∙ word-bytes _, c.to_le_bytes-label.ensures ∙ word-bytes _, c.to_le_bytes-length.ensures ∙ word-bytes _, c.to_le_bytes-links.ensures ∙ word-bytes _, c.to_le_bytes-version.ensures ∙ word-bytes _)
    refl
