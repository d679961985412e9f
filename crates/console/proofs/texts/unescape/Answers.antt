use mathlib.Core.Path.{◌≡◌, refl}
use lib.ListN.{length}
use native.Mathlib.Omega.{arith}
use borrow.Author.Rules.{rules}
use Rattle.console.proofs.TextLaws.{start, end, all_read, no_byte, no_room, more}
use Rattle.console.proofs.texts.unescape.Goals as goal

pub loop-n-init : goal.loop-n-init
loop-n-init c = (refl, start c.args.text.now c.args.out.now)

pub returns-then-text-i : goal.returns-then-text-i
returns-then-text-i c = let h = all_read _ _ _ _ _ c.loop-n.invariant.1 c.if-text-i.true in record { count = h.0; bytes = h.1 }

pub returns-in_err-b : goal.returns-in_err-b
returns-in_err-b c = let h = no_byte _ _ _ _ _ c.loop-n.invariant.1 c.loop-n-test.true c.if-text-i.false c.after-rest.ensures (cc (c.in_err-b.was)) in record { count = cc (c.from_residual.ensures, h.0); bytes = h.1 }

pub returns-then-text-i-2 : goal.returns-then-text-i-2
returns-then-text-i-2 c = let h = no_room _ _ _ _ _ c.loop-n.invariant.1 c.loop-n-test.true c.if-text-i.false c.after-rest.ensures {b = c.in_ok-b.b} (cc (c.in_ok-b.was)) c.first_width-w.ensures c.if-text-i-2.true in record { count = h.0; bytes = h.1 }

pub loop-n-preserved : goal.loop-n-preserved
loop-n-preserved c = (search rules, more _ _ _ _ _ c.loop-n.invariant.1 c.loop-n-test.true c.if-text-i.false c.after-rest.ensures {b = c.in_ok-b.b} (cc (c.in_ok-b.was)) c.first_width-w.ensures c.if-text-i-2.false c.put.ensures)

pub returns : goal.returns
returns c = let e : length c.args.text.now ≡ c.loop-n.n = omega arith in let h = end _ _ _ c.loop-n.i _ c.loop-n.invariant.1 c.loop-n-test.false in record { count = rw e h.0; bytes = h.1 }
