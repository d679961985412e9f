-- A law of a line that makes a borrowing read.
use Prim.Native.Nat.{ℕ}
use mathlib.Core.Path.{◌≡◌, ap}
use mathlib.Core.List.{List}
use Rattle.rules.specs.Store.{store, fixed}
use Rattle.rules.specs.Step.{step_borrow}
use Rattle.rules.specs.declared.request.Request.{Request}
use Rattle.borrow.specs.Lent.{LentBack, lent_back, of_outcome}
use Rattle.console.specs.Settings.{tables, part_of}
use Rattle.console.specs.Borrows.{borrowed_on, borrowed_tables}
use Rattle.console.specs.declared.settings.Console.{Console}

-- ---- the tables after it: of the store, it changes open files alone

pub tables_after : (s : Console) (c : Request) {R : List ℕ} → R ≡ part_of s → {r : ℕ} {b E : List ℕ}
    → lent_back r b (store s.files s.contents E s.processes) ≡ of_outcome (step_borrow (fixed s.policy R) (store s.files s.contents s.open_files s.processes) c.process c.fd c.number)
    → tables s.files s.contents E s.processes s.policy s.rom ≡ borrowed_tables s c
unfolding borrowed_tables
tables_after s c {R} q {r} {b} {E} h =
    let k : lent_back r b (store s.files s.contents E s.processes) ≡ of_outcome (borrowed_on s c) = rw q at h in
    ap (λ (o : LentBack). tables o.store.files o.store.contents o.store.open_files o.store.processes s.policy s.rom) k
