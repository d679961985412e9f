-- A stored borrowing read, made on a part of each table: process and descriptor, a byte each, and the count, four bytes.
use Rattle.std.specs.Prelude.{ℕ, Bool, cond, List, eqb, length, get_or, take, Result, Ok, Err}
use Rattle.rules.specs.Store.{Store, fixed, pid_of, fd_of}
use Rattle.rules.specs.Step.{Outcome, step_borrow}
use Rattle.rules.specs.declared.ids.Pid.{Pid}
use Rattle.rules.specs.declared.ids.Fd.{Fd}
use Rattle.borrow.specs.Lent.{LentBack, lent_back}
use Rattle.recorded.specs.declared.records.Sizes.{Sizes}
use Rattle.recorded.specs.declared.records.Tables.{Tables}
use Rattle.recorded.specs.declared.records.Stop.{Stop}
use Rattle.recorded.specs.declared.records.Stop.TheVariants.{Broken}
use Rattle.recorded.specs.Records.{word_at, rom_of}
use Rattle.recorded.specs.Called.{part_of, put_back, store_of, with_store}

abbrev pub part_lent_back : Sizes → Store → Outcome → LentBack
part_lent_back n s o = lent_back o.reply.refusal o.reply.buffer (put_back n o.store s)

unfoldable pub borrowed_on : Sizes → (Q R : List ℕ) → Store → Pid → Fd → (count : ℕ) → LentBack
borrowed_on n Q R s p i count = part_lent_back n s (step_borrow (fixed (take n.policy Q) R) (part_of n s) p i count)

-- ---- the tables after it

abbrev pub lent_back_of : Tables → Pid → Fd → (count : ℕ) → LentBack
lent_back_of t p i count = borrowed_on t.sizes t.policy (rom_of t.rom) (store_of t) p i count

unfoldable pub borrowed_tables : Tables → Pid → Fd → (count : ℕ) → Tables
borrowed_tables t p i count = with_store t (lent_back_of t p i count).store

-- ---- a record's borrowing read

unfoldable pub is_borrow : List ℕ → Bool
is_borrow body = eqb (length body) 6

unfoldable pub record_borrowed : List ℕ → Tables → Result Tables Stop
record_borrowed body t = cond (is_borrow body) (Ok (borrowed_tables t (pid_of (get_or body 0 0)) (fd_of (get_or body 1 0)) (word_at body 2))) (Err Broken)
