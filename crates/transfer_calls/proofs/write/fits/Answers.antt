use Prim.Native.Nat.{ℕ, ◌+◌, ◌<◌}
use mathlib.Core.Path.{◌≡◌, sym}
use mathlib.Core.Bool.{false}
use native.Mathlib.Omega.{arith}
use borrow.Author.Tests.{lt-leb}
use lib.Dec.{leb}
use Rattle.transfer_calls.proofs.write.fits.Goals as goal

long : (at n : ℕ) → 512 < n → false ≡ leb (at + n) 512
long at n h = sym (lt-leb (at + n) 512 (omega arith))

pub returns-else-n-le-BLOCK : goal.returns-else-n-le-BLOCK
returns-else-n-le-BLOCK c = rw (lt-leb _ _ c.if-n-le-BLOCK.false) (long _ _ c.if-n-le-BLOCK.false)
