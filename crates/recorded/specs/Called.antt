-- A stored call, made on a part of each table: what is past the part stays.
use Rattle.std.specs.Prelude.{ℕ, min, Bool, cond, ◌||◌, List, [], ◌++◌, ltb, length, get_or, take, drop, replicate, Result, Ok, Err}
use Rattle.rules.specs.Store.{Store, fixed, store}
use Rattle.rules.specs.Calls.{Call, call_of, operation_of, uses}
use Rattle.rules.specs.declared.request.Request.{Request}
use Rattle.rules.specs.Step.{Outcome, step, answer_of}
use Rattle.store.specs.Lent.{Lent, lent}
use Rattle.recorded.specs.declared.records.Sizes.{Sizes}
use Rattle.recorded.specs.declared.records.Tables.{Tables}
use Rattle.recorded.specs.declared.records.Stop.{Stop}
use Rattle.recorded.specs.declared.records.Stop.TheVariants.{Broken}
use Rattle.recorded.specs.Records.{short_at, rom_of}

-- the parts that are lent
abbrev pub part_of : Sizes → Store → Store
part_of n s = store (take n.files s.files) (take n.contents s.contents) (take n.open_files s.open_files) (take n.processes s.processes)

-- the parts as they come back, before what is past them
abbrev pub put_back : Sizes → (part whole : Store) → Store
put_back n t s =
    store (t.files ++ drop n.files s.files) (t.contents ++ drop n.contents s.contents) (t.open_files ++ drop n.open_files s.open_files)
    (t.processes ++ drop n.processes s.processes)

abbrev pub part_left : Sizes → Store → Outcome → Lent
part_left n s o = lent (answer_of o.reply) o.reply.buffer (put_back n o.store s)

unfoldable pub called_on : Sizes → (Q R : List ℕ) → Store → Call → Lent
called_on n Q R s c = part_left n s (step (fixed (take n.policy Q) R) (part_of n s) c)

-- ---- the tables after a call

abbrev pub store_of : Tables → Store
store_of t = store t.files t.contents t.open_files t.processes

abbrev pub left_of : Tables → Call → Lent
left_of t c = called_on t.sizes t.policy (rom_of t.rom) (store_of t) c

abbrev pub with_store : Tables → Store → Tables
with_store t s = record t { files = s.files; contents = s.contents; open_files = s.open_files; processes = s.processes }

unfoldable pub called_tables : Tables → Call → Tables
called_tables t c = with_store t (left_of t c).store

-- what a read has read of the buffer after the call; other calls have read nothing
unfoldable pub read_of : Request → List ℕ → List ℕ
read_of c buffer = cond (uses (operation_of c.call)).reads buffer []

-- ---- a record's call: the size of the buffer, then the call as it is written down

abbrev pub written : List ℕ → List ℕ
written body = drop 2 body

abbrev pub path_length : List ℕ → ℕ
path_length body = get_or (written body) 5 0

-- the path, then a write's bytes or a second path
abbrev pub texts : List ℕ → List ℕ
texts body = drop 6 (written body)

unfoldable pub request_in : List ℕ → Request
request_in w = record { process = record { 0 = get_or w 0 0 }; call = get_or w 1 0; fd = record { 0 = get_or w 2 0 }; number = short_at w 3 }

-- the buffer's bytes are 170
abbrev pub call_in : List ℕ → Call
call_in body =
    call_of (request_in (written body)) (take (path_length body) (texts body)) (drop (path_length body) (texts body))
    (take (min (short_at body 0) 1024) (replicate 1024 170))

unfoldable pub is_cut : List ℕ → Bool
is_cut body = ltb (length body) 8 || ltb (length (texts body)) (path_length body)

unfoldable pub record_called : List ℕ → Tables → Result Tables Stop
record_called body t = cond (is_cut body) (Err Broken) (Ok (called_tables t (call_in body)))
