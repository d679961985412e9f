-- A granted write.
use Rattle.std.specs.Prelude.{ℕ}
use Rattle.rules.specs.Layout.{OPEN_SLOT}
use Rattle.rules.specs.Store.{Table, slot}
use Rattle.rules.specs.Checks.{granted}
use Rattle.rules.specs.Decide.{placement}
use Rattle.rules.specs.declared.ids.Ofd.{Ofd}
use Rattle.rules.specs.declared.decision.Effect.TheVariants as effect
use Rattle.rules.specs.Decisions.{Decision}

-- the value is the count of bytes, as a word
abbrev pub stored : (file open_files : Table) → Ofd → (at word n : ℕ) → Decision
stored file open_files e at word n = granted word (effect.Stored (placement file e (slot (open_files e.0 OPEN_SLOT)) at n))
