-- The claims, proved.
use mathlib.Core.List.{[]}
use Rattle.script_claims.specs.Claims.{Claims}
use Rattle.script_claims.proofs.Printed.{round_trip}
use Rattle.script_claims.proofs.Exact.{printed-only}
use Rattle.script_claims.proofs.Caps.{caps-unseen}
use Rattle.script_claims.proofs.Given.{whole_run}
use Rattle.script_claims.proofs.Own.{own}
use Rattle.script_claims.proofs.Cut.{cut, again, roomier, cut-anywhere}

pub claims : Claims
claims = record {
  cut = λ n m K A B at room s e. (cut K B n A at room s e m).1;
  ended-next = λ n K A at room s e. (cut K [] n A at room s e 0).0;
  cut-anywhere = λ k n p q K. cut-anywhere K k n p q;
  allowed-again = λ n m K S at room s e. (again K n S at room s).1 e m;
  room-again = λ n K S at room more s. (roomier K n S at room s).1 more;
  run-calls = λ n K S at room s. (own K n S at room s).calls;
  run-next = λ n K S at room s. (own K n S at room s).next;
  run-text = λ n K S at room s. (own K n S at room s).text;
  run_store = λ n K S at room s. (own K n S at room s).store;
  run-allowed = λ n K S at room s. (own K n S at room s).allowed;
  run_fits = λ n K S at room s. (own K n S at room s).fits;
  whole_run = λ n k K S at room s. whole_run K n S at room s k;
  printed-back = λ n ws h l. (round_trip n ws h l).0;
  printed-whole = λ n ws h l. (round_trip n ws h l).1;
  printed-only = printed-only;
  caps-unseen = caps-unseen;
}
