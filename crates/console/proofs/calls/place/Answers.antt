use Rattle.std.proofs.Common.{rules, tests, eqb, ◌≡◌, refl}
use Rattle.std.specs.Prelude.{Some, None}
use Rattle.std.specs.List.{position}
use Rattle.std.proofs.lemmas.Iterator.{YieldsList-from_slice}
use Rattle.std.proofs.lemmas.Iterator.Search.{position_from_yields_List}
use Rattle.console.specs.Calls.{parts_of, place_of}
use Rattle.console.proofs.calls.place.Goals as goal

pub returns-in_err-k : goal.returns-in_err-k
unfolding place_of
returns-in_err-k c =
    let w : c.word-parts.result.now ≡ parts_of c.args.call = cc in
    let e : c.position.result ≡ position (λ p. eqb p c.args.part) (parts_of c.args.call) =
    position_from_yields_List (λ p. eqb p c.args.part) _ _ c.position.result c.position.ensures.ran
    (YieldsList-from_slice (parts_of c.args.call) cc) (λ x b q k. search (rules, tests)) in
    let n : position (λ p. eqb p c.args.part) (parts_of c.args.call) ≡ None = cc (c.in_err-k.was) in
    rw n c.from_residual.ensures

pub returns : goal.returns
unfolding place_of
returns c =
    let w : c.word-parts.result.now ≡ parts_of c.args.call = cc in
    let e : c.position.result ≡ position (λ p. eqb p c.args.part) (parts_of c.args.call) =
    position_from_yields_List (λ p. eqb p c.args.part) _ _ c.position.result c.position.ensures.ran
    (YieldsList-from_slice (parts_of c.args.call) cc) (λ x b q k. search (rules, tests)) in
    let n : position (λ p. eqb p c.args.part) (parts_of c.args.call) ≡ Some c.in_ok-k.k = cc (c.in_ok-k.was) in
    rw n refl
