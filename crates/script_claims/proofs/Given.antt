-- Given room and allowance, the run of an unbroken script is the rules' own run of all its blocks.
use Prim.Native.Nat.{ℕ, zero, suc, ◌≤◌}
use mathlib.Core.Path.{◌≡◌, refl, ap}
use mathlib.Core.Bool.{false}
use mathlib.Core.List.{List, [], ◌∷◌, map}
use native.Mathlib.Omega.{arith}
use lib.ListN.{length, length-append}
use Rattle.rules.specs.Store.{Fixed}
use Rattle.rules.specs.Step.{Calls, serve, answers}
use Rattle.script_rules.specs.Blocks.{block_ok, blocks, after_blocks}
use Rattle.script_rules.specs.Replay.{next_call}
use Rattle.script_claims.specs.Claims.{Ended, Unbroken, texts, asked}
use Rattle.script_claims.proofs.Lines.{block-kept, no_block}
use Rattle.script_claims.proofs.Runs.{OfRuns, WhereStopped, WhereTaken, Always, ended, spent, broken, full, every-run}

-- what is unbroken and does not begin with a block is empty
none-broken : (k : ℕ) (S : List ℕ) → block_ok S ≡ false → Unbroken k S → length S ≡ 0
unfolding after_blocks
none-broken zero S b u = ap length u
none-broken (suc k) S b u = ap length (rw b at u)

module _ (K : Fixed) where
  abbrev Whole : OfRuns K
  Whole n S at room s r = (k : ℕ) → Unbroken k S → k ≤ n → length (texts (answers K s (map Calls (asked (blocks k S))))) ≤ room → Ended r × (r.calls ≡ asked (blocks k S))

  stops : WhereStopped K Whole
  unfolding after_blocks blocks asked texts answers serve
  stops n S at room s why (ended e) zero u l f = (refl, refl)
  stops n S at room s why (ended e) (suc k) u l f = (refl, rw (e, no_block))
  stops n S at room s why (spent x) zero u l f = absurd (x (ap length u))
  stops n S at room s why (spent x) (suc k) u l f = absurd (omega arith)
  stops n S at room s why (broken x b) k u l f = absurd (x (none-broken k S b u))
  stops n S at room s why (full b x) zero u l f = absurd (omega (arith, ap length u, (block-kept S [] b).shorter))
  stops n S at room s why (full b x) (suc k) u l f = absurd (omega (arith, simp length-append at (rw b at f)))

  takes : WhereTaken K Whole
  unfolding after_blocks blocks asked texts answers serve
  takes n S at room s b h ih zero u l f = absurd (omega (arith, ap length u, (block-kept S [] b).shorter))
  takes n S at room s b h ih (suc k) u l f =
      let r = ih k (rw b at u) (omega arith) (omega (arith, simp length-append at (rw b at f))) in
      (r.0, rw b (ap (λ cs. next_call S ∷ cs) r.1))

  pub whole_run : Always K Whole
  whole_run = every-run K Whole stops takes
