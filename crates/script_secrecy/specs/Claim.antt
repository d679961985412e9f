-- Demand 3 of a script, stated: one script is run on each of two stores that differ in the bytes of a hidden file, with the same allowance and room.
-- Where a run stops depends on the length of an answer, so that both take the same calls is claimed too. `script-secrecy` of proofs/Secrecy.antt proves it.
use Rattle.std.specs.Prelude.{ℕ, ◌≡◌, true, ◌⊎◌, List, map}
use Rattle.rules.specs.Store.{Store, Fixed}
use Rattle.rules.specs.Step.{Calls}
use Rattle.script_rules.specs.Replay.{Run, run}
use Rattle.secrecy.specs.Claim.{DifferInBytes, Supposed, freed}

-- r is the run on s, r' the one on the other store. What they take, write and say is the same. The stores left are as demand 3 says of the list of the
-- calls taken: equal, or different in slot f's bytes alone, and equal if one of these calls has freed the slot
pub record SameRuns (K : Fixed) (f : ℕ) (s : Store) (r r' : Run) : Type 0 where
  pub same-calls : r.calls ≡ r'.calls
  pub same_text : r.text ≡ r'.text
  pub same_next : r.next ≡ r'.next
  pub same-reason : r.reason ≡ r'.reason
  pub same-stores : (r.store ≡ r'.store) ⊎ DifferInBytes f r.store r'.store
  pub equal-once-freed : freed K f s (map Calls r.calls) ≡ true → r.store ≡ r'.store

-- n calls are allowed, the script S begins at `at` (`replay` has 0), the output has room for so many bytes. What is supposed is what demand 3 supposes;
-- S may be any bytes
abbrev pub ScriptSecrecy : Type 0
ScriptSecrecy = (K : Fixed) (f : ℕ) (s s' : Store) → Supposed K f s s' → (n : ℕ) (S : List ℕ) (at room : ℕ) → SameRuns K f s (run n K S at room s) (run n K S at room s')
