-- A record of any kind, and what it makes of the tables. docs/recorded.md has the kinds.
use Rattle.std.specs.Prelude.{ℕ, cond, List, eqb, ltb, length, Result, Ok, Err}
use Rattle.recorded.specs.declared.kinds.Kind.{Kind}
use Rattle.recorded.specs.declared.kinds.Kind.TheVariants as kind
use Rattle.recorded.specs.declared.records.Tables.{Tables}
use Rattle.recorded.specs.declared.records.Stop.{Stop}
use Rattle.recorded.specs.declared.records.Stop.TheVariants.{Broken}
use Rattle.recorded.specs.Records.{empty_tables, sizes_in, words_set, bytes_set, rom_in}
use Rattle.recorded.specs.Called.{record_called}
use Rattle.recorded.specs.Borrowed.{record_borrowed}

-- the kind that a number names; a record of any other is broken
unfoldable pub kind_of : ℕ → Result Kind Stop
kind_of n =
    cond (eqb n 0) (Ok kind.Sizes)
    (cond (eqb n 1) (Ok kind.Files)
    (cond (eqb n 2) (Ok kind.Contents)
    (cond (eqb n 3) (Ok kind.OpenFiles)
    (cond (eqb n 4) (Ok kind.Processes)
    (cond (eqb n 5) (Ok kind.Policy)
    (cond (eqb n 6) (Ok kind.Call)
    (cond (eqb n 7) (Ok kind.Empty)
    (cond (eqb n 8) (Ok kind.Rom)
    (cond (eqb n 9) (Ok kind.Borrow)
    (Err Broken))))))))))

-- a record of a kind
unfoldable pub kind_taken : Kind → (body : List ℕ) → Tables → Result Tables Stop
kind_taken kind.Sizes body t = Ok (record t { sizes = sizes_in body })
kind_taken kind.Files body t = Ok (record t { files = words_set body t.files })
kind_taken kind.Contents body t = Ok (record t { contents = bytes_set body t.contents })
kind_taken kind.OpenFiles body t = Ok (record t { open_files = words_set body t.open_files })
kind_taken kind.Processes body t = Ok (record t { processes = words_set body t.processes })
kind_taken kind.Policy body t = Ok (record t { policy = bytes_set body t.policy })
kind_taken kind.Call body t = record_called body t
kind_taken kind.Empty body t = Ok empty_tables
kind_taken kind.Rom body t = Ok (record t { rom = rom_in body })
kind_taken kind.Borrow body t = record_borrowed body t

unfoldable pub known_taken : Result Kind Stop → (body : List ℕ) → Tables → Result Tables Stop
known_taken (Ok k) body t = kind_taken k body t
known_taken (Err e) body t = Err e

-- one whose kind has the number k, and that says it has n bytes
unfoldable pub record_taken : (k n : ℕ) (body : List ℕ) → Tables → Result Tables Stop
record_taken k n body t = cond (ltb (length body) n) (Err Broken) (known_taken (kind_of k) body t)
