-- What a run leaves: its result, the output and the store.
use Rattle.std.specs.Prelude.{ℕ, ◌+◌, List, length}
use Rattle.std.proofs.lemmas.List.Edits.{sets}
use Rattle.rules.specs.Store.{Store}
use Rattle.script_rules.specs.Replay.{Run}
use Rattle.script_rules.specs.declared.replayed.Replayed.{Replayed}

pub record Left : Type 0 where
  pub replayed : Replayed
  pub output : List ℕ
  pub store : Store

abbrev pub left : Replayed → List ℕ → Store → Left
left r out s = record { replayed = r; output = out; store = s }

-- a run of the rules, after k calls whose answers end at `at`: "a count equal to the calls taken by the defined run"
unfoldable pub left_by : (k at : ℕ) (out : List ℕ) → Run → Left
left_by k at out r = left (record { calls = k + length r.calls; next = r.next; written = at + length r.text; reason = r.reason }) (sets out at r.text) r.store
