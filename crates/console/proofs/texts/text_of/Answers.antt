use Rattle.std.proofs.Common.{rules, ◌≡◌, refl}
use Rattle.std.specs.Prelude.{None}
use Rattle.console.specs.Texts.{text_length, fitting, text_of}
use Rattle.console.proofs.TextLaws.{lent}
use Rattle.console.proofs.texts.text_of.Goals as goal

pub returns-in_err-n : goal.returns-in_err-n
unfolding text_of fitting
returns-in_err-n c = let e : text_length c.args.text.now ≡ None = cc (c.in_err-n.was) in rw (e, c.from_residual.ensures) refl

pub returns : goal.returns
returns c = lent _ _ (search rules) c.unescape.ensures.bytes (cc (c.in_ok-n.was)) _ (c.get.ensures.lookup.0)
