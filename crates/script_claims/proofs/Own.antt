-- A run is the rules' own run of the calls of the script's first blocks.
use Prim.Native.Nat.{ℕ, ◌+◌, ◌≤◌}
use mathlib.Core.Path.{◌≡◌, refl, ap}
use mathlib.Core.List.{List, [], ◌∷◌, ◌++◌, map}
use native.Mathlib.Omega.{arith}
use lib.ListN.{length, length-append}
use Rattle.rules.specs.Store.{Store, Fixed}
use Rattle.rules.specs.Step.{Calls, serve, answers, final}
use Rattle.script_rules.specs.Blocks.{blocks, after_blocks}
use Rattle.script_rules.specs.Replay.{Run, next_call, next_text}
use Rattle.script_claims.specs.Claims.{texts, asked}
use Rattle.script_claims.proofs.Lines.{block-kept}
use Rattle.script_claims.proofs.Runs.{WhereStopped, WhereTaken, Always, every-run}

pub record Own (K : Fixed) (n : ℕ) (S : List ℕ) (at room : ℕ) (s : Store) (r : Run) : Type 0 where
  pub calls : r.calls ≡ asked (blocks (length r.calls) S)
  pub next : r.next + length (after_blocks (length r.calls) S) ≡ at + length S
  pub text : r.text ≡ texts (answers K s (map Calls r.calls))
  pub store : r.store ≡ final K s (map Calls r.calls)
  pub allowed : length r.calls ≤ n
  pub fits : length r.text ≤ room

module _ (K : Fixed) where
  stops : WhereStopped K (Own K)
  unfolding asked blocks after_blocks texts answers final
  stops n S at room s why h = record { calls = refl; next = refl; text = refl; store = refl; allowed = omega arith; fits = omega arith }

  takes : WhereTaken K (Own K)
  unfolding asked blocks after_blocks texts answers final serve
  takes n S at room s b f o = record {
    calls = rw b (ap (λ cs. next_call S ∷ cs) o.calls);
    next = rw b (omega (arith, o.next, (block-kept S [] b).shorter));
    text = ap (λ t. next_text K S s ++ t) o.text;
    store = o.store;
    allowed = omega (arith, o.allowed);
    fits = simp length-append (omega (arith, o.fits));
  }

  pub own : Always K (Own K)
  own = every-run K (Own K) stops takes
