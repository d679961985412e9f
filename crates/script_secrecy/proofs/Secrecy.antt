-- Demand 3 of a script's runs, proved. A run sees nothing of a store but its answers, so on two stores that answer every list alike it is the same.
use mathlib.Core.Path.{◌≡◌, ap}
use mathlib.Core.List.{List, [], ◌∷◌, map}
use borrow.Author.Tests.{ne_eqb}
use lib.ListN.{length, get_or, drop}
use Rattle.rules.specs.Store.{Store, Fixed}
use Rattle.rules.specs.Calls.{Call}
use Rattle.rules.specs.Step.{Reply, step, Action, Calls, serve, answers, final}
use Rattle.script_rules.specs.Replay.{Run, run, took, next_call, next_text, reply_text}
use Rattle.script_claims.proofs.Runs.{OfRuns, WhereStopped, WhereTaken, Always, ended, spent, broken, full, run_none, run-full, run-takes, every-run}
use Rattle.script_claims.proofs.Proved.{claims}
use Rattle.secrecy.specs.Claim.{Claimed}
use Rattle.secrecy.proofs.Secrecy.{secrecy}
use Rattle.script_secrecy.specs.Claim.{ScriptSecrecy}

-- the run r, but with t as its last store: what is claimed of all the rest is one equation
abbrev leaving : Store → Run → Run
leaving t r = record { calls = r.calls; text = r.text; next = r.next; reason = r.reason; store = t }

module _ (K : Fixed) where
  -- every list has the same answers
  abbrev Alike : Store → Store → Type 0
  Alike s s' = (xs : List Action) → answers K s xs ≡ answers K s' xs

  module _ (s s' : Store) (alike : Alike s s') (c : Call) where
    same-reply : (step K s c).reply ≡ (step K s' c).reply
    unfolding answers serve
    same-reply = ap (λ (rs : List Reply). get_or rs 0 (step K s c).reply) (alike (Calls c ∷ []))

    alike-after : Alike (step K s c).store (step K s' c).store
    unfolding answers serve
    alike-after xs = ap (λ (rs : List Reply). drop 1 rs) (alike (Calls c ∷ xs))

  -- the run r on s is the run on a store that is alike
  abbrev SameRun : OfRuns K
  SameRun n S at room s r = (s' t : Store) → Alike s s' → leaving t r ≡ leaving t (run n K S at room s')

  stops : WhereStopped K SameRun
  unfolding run
  stops n S at room s why (ended e) s' t alike = rw (e, run_none K n at room s')
  stops n S at room s why (spent x) s' t alike = rw (ne_eqb (length S) 0 x)
  stops n S at room s why (broken x b) s' t alike = rw (ne_eqb (length S) 0 x, b)
  stops n S at room s why (full {n = m} b x) s' t alike = rw (run-full K m S at room s' b (rw (← same-reply s s' alike (next_call S)) x))

  takes : WhereTaken K SameRun
  takes n S at room s b f ih s' t alike =
      let same : next_text K S s ≡ next_text K S s' = ap reply_text (same-reply s s' alike (next_call S)) in
      let rest = ih (step K s' (next_call S)).store t (alike-after s s' alike (next_call S)) in
      rw (run-takes K n S at room s' b (rw (← same) f), ← same) (ap (took (next_call S) (next_text K S s)) rest)

  same-run : Always K SameRun
  same-run = every-run K SameRun stops takes

-- by demand 3 the answers are the same, so the runs are; their last stores are those of the list of calls (`run_store`), of which demand 3 speaks
pub script-secrecy : ScriptSecrecy
script-secrecy K f s s' h n S at room = record {
  same-calls = calls;
  same_text = ap (λ (x : Run). x.text) same;
  same_next = ap (λ (x : Run). x.next) same;
  same-reason = ap (λ (x : Run). x.reason) same;
  same-stores = rw (store, store') claimed.same-stores;
  equal-once-freed = rw (store, store') claimed.equal-once-freed;
}
  where
    r : Run
    r = run n K S at room s

    r' : Run
    r' = run n K S at room s'

    same : leaving s r ≡ leaving s r'
    same = same-run K n S at room s s' s (λ xs. (secrecy K f s s' h xs).same-answers)

    calls : r.calls ≡ r'.calls
    calls = ap (λ (x : Run). x.calls) same

    claimed : Claimed K f s s' (map Calls r.calls)
    claimed = secrecy K f s s' h (map Calls r.calls)

    store : r.store ≡ final K s (map Calls r.calls)
    store = claims.run_store n K S at room s

    store' : r'.store ≡ final K s' (map Calls r.calls)
    store' = rw calls (claims.run_store n K S at room s')
