use mathlib.Core.Path.{◌≡◌, sym, ◌∙◌}
use borrow.Author.Rules.{rules}
use Rattle.std.specs.Prelude.{Err}
use Rattle.script_rules.specs.declared.replayed.Reason.TheVariants as reason
use Rattle.script_turn.proofs.BlockTurns.{was, ended, spent, unread, goes}
use Rattle.script_turn.proofs.turn.take_turn.Goals as goal

pub returns-then-is_empty : goal.returns-then-is_empty
returns-then-is_empty c = ended _ _ _ _ _ _ _ (sym c.is_empty.ensures ∙ c.if-is_empty.true)

pub returns-then-n-eq0 : goal.returns-then-n-eq0
returns-then-n-eq0 c = spent _ _ _ _ _ _ _ (sym c.is_empty.ensures ∙ c.if-is_empty.false) c.if-n-eq0.true

broken : (c : goal.After-from_residual) → c.from_residual.result ≡ Err reason.Broken
broken c = search rules

pub returns-in_err-numbers : goal.returns-in_err-numbers
returns-in_err-numbers c =
    rw (broken c) (unread _ _ _ _ _ _ _ (sym c.is_empty.ensures ∙ c.if-is_empty.false) c.if-n-eq0.false _ c.read_numbers.ensures (was reason.Broken _ (sym c.ok_or.ensures.value ∙ c.in_err-numbers.was)))

pub returns : goal.returns
returns c =
    goes _ _ _ _ _ _ _ (sym c.is_empty.ensures ∙ c.if-is_empty.false) c.if-n-eq0.false _ c.read_numbers.ensures _ _ _ _ (was reason.Broken _ (sym c.ok_or.ensures.value ∙ c.in_ok-numbers.was)) c.from_path-p.ensures c.after_line-d.ensures c.take_block.ensures
