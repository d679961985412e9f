-- A line that makes a call: the process, the call, and the call's parts.
use Rattle.std.specs.Prelude.{ℕ, ◌+◌, Bool, false, cond, List, [], ◌∷◌, eqb, ltb, leb, length, replicate, Option, Some, None}
use Rattle.std.specs.List.{position}
use Rattle.std.specs.Option.{option_map}
use Rattle.rules.specs.Choice.{every}
use Rattle.rules.specs.Layout.{BLOCK}
use Rattle.rules.specs.Store.{Store, store, fixed}
use Rattle.rules.specs.Calls.{Call, call_of, operation_of, uses}
use Rattle.rules.specs.Step.{Outcome, step}
use Rattle.rules.specs.declared.request.Request.{Request}
use Rattle.console.specs.Words.{word_of, index_of}
use Rattle.console.specs.Numbers.{number_in, number_at}
use Rattle.console.specs.Texts.{text_of}
use Rattle.console.specs.Settings.{tables, part_of}
use Rattle.console.specs.declared.settings.Console.{Console}

-- ---- the call

-- "open create mkdir unlink rmdir link list chmod stat close read write seek dup fork exit exec symlink readlink rename": calls 1 to 20
abbrev pub CALLS : List ℕ
CALLS =
    111 ∷ 112 ∷ 101 ∷ 110 ∷ 32 ∷ 99 ∷ 114 ∷ 101 ∷ 97 ∷ 116 ∷ 101 ∷ 32 ∷ 109 ∷ 107 ∷ 100 ∷ 105 ∷ 114 ∷ 32 ∷ 117 ∷ 110 ∷ 108 ∷ 105 ∷ 110 ∷ 107 ∷ 32 ∷ 114 ∷ 109 ∷ 100 ∷ 105 ∷ 114 ∷ 32 ∷ 108 ∷ 105 ∷ 110 ∷ 107
    ∷ 32 ∷ 108 ∷ 105 ∷ 115 ∷ 116 ∷ 32 ∷ 99 ∷ 104 ∷ 109 ∷ 111 ∷ 100 ∷ 32 ∷ 115 ∷ 116 ∷ 97 ∷ 116 ∷ 32 ∷ 99 ∷ 108 ∷ 111 ∷ 115 ∷ 101 ∷ 32 ∷ 114 ∷ 101 ∷ 97 ∷ 100 ∷ 32 ∷ 119 ∷ 114 ∷ 105 ∷ 116 ∷ 101 ∷ 32 ∷ 115
    ∷ 101 ∷ 101 ∷ 107 ∷ 32 ∷ 100 ∷ 117 ∷ 112 ∷ 32 ∷ 102 ∷ 111 ∷ 114 ∷ 107 ∷ 32 ∷ 101 ∷ 120 ∷ 105 ∷ 116 ∷ 32 ∷ 101 ∷ 120 ∷ 101 ∷ 99
    ∷ 32 ∷ 115 ∷ 121 ∷ 109 ∷ 108 ∷ 105 ∷ 110 ∷ 107 ∷ 32 ∷ 114 ∷ 101 ∷ 97 ∷ 100 ∷ 108 ∷ 105 ∷ 110 ∷ 107 ∷ 32 ∷ 114 ∷ 101 ∷ 110 ∷ 97 ∷ 109 ∷ 101 ∷ []

-- its number, by its place among the names or as it stands
unfoldable pub number_or : Option ℕ → List ℕ → Option ℕ
number_or (Some k) name = Some (k + 1)
number_or None name = number_in name

abbrev pub call_number : List ℕ → Option ℕ
call_number name = number_or (index_of CALLS name) name

-- ---- its parts: a descriptor, a number, a path, bytes or a second path; then the line's end

abbrev pub FD : ℕ
FD = 102

abbrev pub NUMBER : ℕ
NUMBER = 110

abbrev pub PATH : ℕ
PATH = 112

abbrev pub DATA : ℕ
DATA = 100

abbrev pub END : ℕ
END = 46

-- ". np. np. np. p. p. pd. np. np. p. f. fn. fd. fn. f. . . p. pd. np. pd.": the parts of calls 1 to 20 in their order, after those of any other call
abbrev pub PARTS : List ℕ
PARTS =
    46 ∷ 32 ∷ 110 ∷ 112 ∷ 46 ∷ 32 ∷ 110 ∷ 112 ∷ 46 ∷ 32 ∷ 110 ∷ 112 ∷ 46 ∷ 32 ∷ 112 ∷ 46 ∷ 32 ∷ 112 ∷ 46 ∷ 32 ∷ 112 ∷ 100 ∷ 46 ∷ 32 ∷ 110 ∷ 112 ∷ 46 ∷ 32 ∷ 110 ∷ 112 ∷ 46 ∷ 32 ∷ 112 ∷ 46 ∷ 32 ∷ 102 ∷ 46
    ∷ 32 ∷ 102 ∷ 110 ∷ 46 ∷ 32 ∷ 102 ∷ 100 ∷ 46 ∷ 32 ∷ 102 ∷ 110 ∷ 46 ∷ 32 ∷ 102 ∷ 46 ∷ 32 ∷ 46 ∷ 32 ∷ 46 ∷ 32 ∷ 112 ∷ 46 ∷ 32 ∷ 112 ∷ 100 ∷ 46 ∷ 32 ∷ 110 ∷ 112 ∷ 46 ∷ 32 ∷ 112 ∷ 100 ∷ 46 ∷ []

unfoldable pub row_of : (call : Option ℕ) → ℕ
row_of (Some call) = cond (ltb call 21) call 0
row_of None = 0

abbrev pub parts_of : (call : Option ℕ) → List ℕ
parts_of call = word_of PARTS (row_of call)

-- the word of a line that holds a part, past the process and the call
unfoldable pub place_of : (call : Option ℕ) (part : ℕ) → Option ℕ
place_of call part = option_map (λ k. k + 2) (position (λ p. eqb p part) (parts_of call))

-- that word as a number and as a text; 0 and no bytes where the call has no such part
unfoldable pub part_number : List ℕ → Option ℕ → Option ℕ
part_number l (Some k) = number_at l k
part_number l None = Some 0

unfoldable pub part_text : List ℕ → Option ℕ → Option (List ℕ)
part_text l (Some k) = text_of (word_of l k)
part_text l None = Some []

-- nothing stands there
unfoldable pub part_ends : List ℕ → Option ℕ → Bool
part_ends l (Some k) = eqb (length (word_of l k)) 0
part_ends l None = false

-- ---- the call of a line l

abbrev pub call_asked : List ℕ → Option ℕ
call_asked l = call_number (word_of l 1)

abbrev pub part_place : List ℕ → (part : ℕ) → Option ℕ
part_place l part = place_of (call_asked l) part

abbrev pub fd_in : List ℕ → Option ℕ
fd_in l = part_number l (part_place l FD)

abbrev pub argument_in : List ℕ → Option ℕ
argument_in l = part_number l (part_place l NUMBER)

-- a call's numbers have 8 bits, and the last 16; a line with a larger one makes no call
unfoldable pub in_range : (process call fd n : ℕ) → Bool
in_range p c f n = every (ltb p 256 ∷ ltb c 256 ∷ ltb f 256 ∷ ltb n 65536 ∷ [])

unfoldable pub request_of : (process call fd n : Option ℕ) → Option Request
request_of (Some p) (Some c) (Some f) (Some n) =
    cond (in_range p c f n) (Some (record { process = record { 0 = p }; call = c; fd = record { 0 = f }; number = n })) None
request_of (Some p) (Some c) (Some f) None = None
request_of (Some p) (Some c) None n = None
request_of (Some p) None f n = None
request_of None c f n = None

-- a read's number is the size of its buffer; other calls have none
unfoldable pub buffer_size : Request → ℕ
buffer_size c = cond (uses (operation_of c.call)).reads c.number 0

abbrev pub ends_there : List ℕ → Bool
ends_there l = part_ends l (part_place l END)

unfoldable pub fitting : Option Request → (ended : Bool) → Option Request
fitting (Some c) ended = cond (every (ended ∷ leb (buffer_size c) BLOCK ∷ [])) (Some c) None
fitting None ended = None

-- the call's numbers; none where one is too large, or the line does not end after the call's parts
unfoldable pub request_in : List ℕ → Option Request
request_in l = fitting (request_of (number_at l 0) (call_asked l) (fd_in l) (argument_in l)) (ends_there l)

-- as the rules have it: the buffer's bytes are 0
unfoldable pub call_with : Option Request → (path «data» : Option (List ℕ)) → Option Call
call_with (Some c) (Some p) (Some d) = Some (call_of c p d (replicate (buffer_size c) 0))
call_with (Some c) (Some p) None = None
call_with (Some c) None d = None
call_with None p d = None

abbrev pub call_in : List ℕ → Option Call
call_in l = call_with (request_in l) (part_text l (part_place l PATH)) (part_text l (part_place l DATA))

-- ---- the tables after a call

abbrev pub outcome_on : Console → Call → Outcome
outcome_on s c = step (fixed s.policy (part_of s)) (store s.files s.contents s.open_files s.processes) c

abbrev pub with_store : Console → Store → Console
with_store s t = tables t.files t.contents t.open_files t.processes s.policy s.rom

unfoldable pub called_tables : Console → Call → Console
called_tables s c = with_store s (outcome_on s c).store

-- a line that makes no call changes nothing
unfoldable pub call_made : Option Call → Console → Console
call_made (Some c) s = called_tables s c
call_made None s = s

abbrev pub line_called : List ℕ → Console → Console
line_called l s = call_made (call_in l) s
