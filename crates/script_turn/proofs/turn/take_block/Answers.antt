-- A law for each way out: the block is broken, its answer has no room, or it is answered and the script goes on behind it.
use mathlib.Core.Path.{◌≡◌, sym, ◌∙◌}
use borrow.Author.Rules.{rules}
use Rattle.std.specs.Prelude.{Err}
use Rattle.script_rules.specs.declared.replayed.Reason.TheVariants as reason
use Rattle.script_turn.proofs.BlockTurns.{was, broken, full, answered}
use Rattle.script_turn.proofs.turn.take_block.Goals as goal

pub returns-then-not-block_ok : goal.returns-then-not-block_ok
returns-then-not-block_ok c = broken _ _ _ _ _ _ _ _ _ _ c.block_ok.ensures c.if-not-block_ok.true

no_room : (c : goal.After-from_residual) → c.from_residual.result ≡ Err reason.Room
no_room c = search rules

pub returns-in_err-length : goal.returns-in_err-length
returns-in_err-length c =
    rw (no_room c) (full _ _ _ _ _ _ _ _ _ _ c.block_ok.ensures c.if-not-block_ok.false _ _ _ c.serve_block.ensures (was reason.Room _ (sym c.ok_or.ensures.value ∙ c.in_err-length.was)))

pub returns : goal.returns
returns c = answered _ _ _ _ _ _ _ _ _ _ c.block_ok.ensures c.if-not-block_ok.false _ _ _ c.serve_block.ensures (was reason.Room _ (sym c.ok_or.ensures.value ∙ c.in_ok-length.was)) _ c.block_size-size.ensures
