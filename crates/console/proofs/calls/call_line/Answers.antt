use Rattle.std.proofs.Common.{◌≡◌}
use Rattle.std.specs.Prelude.{Some}
use Rattle.std.specs.Option.{option_copied}
use Rattle.console.specs.Calls.{PATH, DATA, part_text, part_place, request_in}
use Rattle.console.proofs.CallLaws.{call-made}
use Rattle.console.proofs.calls.call_line.Goals as goal

pub returns-in-Some-Some-Some : goal.returns-in-Some-Some-Some
returns-in-Some-Some-Some c =
    let l = c.args.line.now in
    let q : Some c.in-Some-Some-Some.c ≡ request_in l = cc in
    let p : option_copied c.part_text-path.result ≡ part_text l (part_place l PATH) = rw (c.place.ensures, c.call_asked-call.ensures) at c.part_text-path.ensures in
    let d : option_copied c.part_text-data.result ≡ part_text l (part_place l DATA) = rw (c.place-2.ensures, c.call_asked-call.ensures) at c.part_text-data.ensures in
    let h = call-made l c.args.s.now q (rw c.in-Some-Some-Some.is-1 at p) (rw c.in-Some-Some-Some.is-2 at d) c.buffer_size.ensures c.first.ensures c.serve.ensures.tables in
    record { known = h.0; tables = h.1 }
