-- The data and the buffer are the first parts of local arrays: `bytes-lent` and `buffer_lent` say that the parts are what the block asks for.
use mathlib.Core.List.{[]}
use borrow.Author.Rules.{rules}
use Rattle.script_turn.proofs.TurnLaws.{room-few, bytes-lent, buffer_lent, block-serves}
use Rattle.script_turn.proofs.turn.serve_block.Goals as goal

pub slice_bounds-buffer-end : goal.slice_bounds-buffer-end
slice_bounds-buffer-end c = search (rules, room-few)

pub returns : goal.returns
returns c = block-serves
    _
    _
    _
    _
    _
    _
    _
    _
    _
    _
    _
    _
    _
    c.request_for.ensures
    c.text-2.ensures
    (bytes-lent c.args.n _ c.upto.ensures c.read_bytes-count.ensures.bytes c.read_bytes-count.ensures.count c.text.ensures)
    (buffer_lent c.args.n [] c.room_for-size.ensures)
    c.serve.ensures
