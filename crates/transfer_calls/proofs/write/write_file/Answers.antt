use Prim.Native.Nat.{ℕ, ◌+◌, ◌%◌, ◌^◌}
use mathlib.Core.Path.{◌≡◌, sym, ◌∙◌}
use mathlib.Core.Bool.{Bool, true, false, not}
use native.Mathlib.Omega.{arith}
use borrow.Author.Tests.{leb-true, not-false}
use lib.Dec.{leb}
use Rattle.rules.specs.Store.{Table}
use Rattle.rules.specs.Checks.{need}
use Rattle.rules.specs.Decide.{write_file}
use Rattle.rules.specs.Decisions.{Decision}
use Rattle.transfer_calls.specs.Stored.{stored}
use Rattle.rules.specs.declared.ids.Ofd.{Ofd}
use Rattle.transfer_calls.proofs.write.write_file.Goals as goal

-- what fits is its own word
stores : (file open_files : Table) (e : Ofd) (at n : ℕ) (r : Bool) (d : Decision) → r ≡ leb (at + n) 512 → not r ≡ false → d ≡ stored file open_files e at (n % 2 ^ 32) n → d ≡ write_file file open_files e at n
unfolding write_file need
stores file open_files e at n r d q f g =
    let fits : leb (at + n) 512 ≡ true = sym q ∙ not-false r f in
    let w : n % 2 ^ 32 ≡ n = omega (arith, leb-true (at + n) 512 fits) in
    rw fits (rw w at g)

pub returns : goal.returns
unfolding write_file
returns c = search stores
