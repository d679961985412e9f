-- A column of the part's files: one number for prompts, one for /rom, and 0 past it.
use Rattle.std.specs.Prelude.{ℕ, cond, eqb, ltb}
use Rattle.rules.specs.Layout.{ROM}
use Rattle.rules.specs.declared.ids.Slot.{Slot}

unfoldable pub by_number : Slot → (prompt rom : ℕ) → ℕ
by_number s prompt rom = cond (ltb s.0 ROM) prompt (cond (eqb s.0 ROM) rom 0)
