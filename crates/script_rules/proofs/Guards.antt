-- What the rules of scripts are held to, by computation: one fact for each way in which a rule could be wrong, named after it. Most have an edit of
-- specs/ in must-fail/ that breaks them. Runs are on a store of no bytes, which answers 1 to every call.
use Prim.Native.Nat.{ℕ}
use Prim.Native.Char.{code}
use Prim.Native.String.{String}
use mathlib.Core.Path.{◌≡◌, refl}
use mathlib.Core.Bool.{Bool, true, false}
use mathlib.Core.List.{List, [], ◌∷◌, ◌++◌}
use lib.ListN.{length, replicate}
use Rattle.rules.specs.Choice.{every, some}
use Rattle.rules.specs.Store.{Store, store, fixed}
use Rattle.rules.specs.Written.{Written}
use Rattle.rules.specs.Step.{Outcome, act}
use Rattle.rules.specs.Console.{console, console_fixed}
use Rattle.rules.specs.declared.answer.Answer.{Answer}
use Rattle.script_rules.specs.Computing.{computing}
use Rattle.script_rules.specs.Text.{number_ok, decimal, hex_of, bytes_of}
use Rattle.script_rules.specs.Blocks.{block_ok, block_of, blocks, after_blocks}
use Rattle.script_rules.specs.Answers.{answer_text}
use Rattle.script_rules.specs.Reasons.{reason_number}
use Rattle.script_rules.specs.Replay.{asked_by, reply_text, Run, run}

-- the bytes of a text
abbrev bytes : String → List ℕ
bytes String.[] = []
bytes (String.◌∷◌ c s) = code c ∷ bytes s

-- ---- numbers and bytes

-- "decimal without leading zeros, at most 65,535"
number : String → Bool
number s = number_ok (bytes s)

largest-number : every (number "0" ∷ number "10" ∷ number "65535" ∷ []) ≡ true
unfolding computing number
largest-number = refl

leading-zero : some (number "00" ∷ number "07" ∷ number "065535" ∷ []) ≡ false
unfolding computing number
leading-zero = refl

number-too-large : some (number "65536" ∷ number "65545" ∷ number "100000" ∷ number "4294967297" ∷ number "" ∷ []) ≡ false
unfolding computing number
number-too-large = refl

number-written : decimal 4294967295 ++ decimal 0 ++ decimal 10 ≡ bytes "4294967295010"
unfolding computing
number-written = refl

hex-written : hex_of (0 ∷ 10 ∷ 171 ∷ 255 ∷ []) ≡ bytes "000aabff"
unfolding computing
hex-written = refl

hex-read : bytes_of (bytes "000aabff") ≡ 0 ∷ 10 ∷ 171 ∷ 255 ∷ []
unfolding computing
hex-read = refl

-- ---- blocks

block : String → Bool
block s = block_ok (bytes s)

-- what a block asks for: its numbers, the path's length, the path, and the data
abbrev said : Written → List ℕ
said w = w.process.0 ∷ w.call ∷ w.fd.0 ∷ w.number ∷ length w.path ∷ (w.path ++ w.«data»)

write_read : said (block_of (bytes "proc=2\ncall=12\nfd=3\narg=0\npath=\ndata=0aff\nproc=")) ≡ 2 ∷ 12 ∷ 3 ∷ 0 ∷ 0 ∷ 10 ∷ 255 ∷ []
unfolding computing
write_read = refl

link-read : said (block_of (bytes "proc=0\ncall=6\nfd=0\narg=0\npath=/=\ndata=2f61\n")) ≡ 0 ∷ 6 ∷ 0 ∷ 0 ∷ 2 ∷ 47 ∷ 61 ∷ 47 ∷ 97 ∷ []
unfolding computing
link-read = refl

symlink-read : said (block_of (bytes "proc=0\ncall=18\nfd=0\narg=0\npath=/=\ndata=2f61\n")) ≡ 0 ∷ 18 ∷ 0 ∷ 0 ∷ 2 ∷ 47 ∷ 61 ∷ 47 ∷ 97 ∷ []
unfolding computing
symlink-read = refl

whole-blocks : every (block "proc=2\ncall=12\nfd=3\narg=0\npath=\ndata=0a\n" ∷ block "proc=9\ncall=15\nfd=0\narg=0\npath=\ndata=\nx" ∷ []) ≡ true
unfolding computing block
whole-blocks = refl

-- "lower-case hex", two digits for a byte
upper-case-hex : some (block "proc=2\ncall=12\nfd=3\narg=0\npath=\ndata=0A\n" ∷ block "proc=2\ncall=12\nfd=3\narg=0\npath=\ndata=0g\n" ∷ []) ≡ false
unfolding computing block
upper-case-hex = refl

half-a-byte : block "proc=2\ncall=12\nfd=3\narg=0\npath=\ndata=0a1\n" ≡ false
unfolding computing block
half-a-byte = refl

-- "Every line ends with byte 10", the last one too
last-line-open : block "proc=2\ncall=12\nfd=3\narg=0\npath=\ndata=0a" ≡ false
unfolding computing block
last-line-open = refl

other-line-ends : some (block "proc=2\r\ncall=12\nfd=3\narg=0\npath=\ndata=0a\n" ∷ block "proc=2 \ncall=12\nfd=3\narg=0\npath=\ndata=0a\n" ∷ block "proc=2\n\ncall=12\nfd=3\narg=0\npath=\ndata=0a\n" ∷ []) ≡ false
unfolding computing block
other-line-ends = refl

-- "six lines in fixed order"
lines-in-another-order : some (block "call=12\nproc=2\nfd=3\narg=0\npath=\ndata=0a\n" ∷ block "proc=2\ncall=12\nfd=3\narg=0\ndata=0a\npath=\n" ∷ block "Proc=2\ncall=12\nfd=3\narg=0\npath=\ndata=0a\n" ∷ []) ≡ false
unfolding computing block
lines-in-another-order = refl

-- "A path with byte 10 cannot be scripted"
path-with-newline : block "proc=2\ncall=9\nfd=0\narg=0\npath=/a\nb\ndata=\n" ≡ false
unfolding computing block
path-with-newline = refl

-- "an unused number is 0, an unused text empty, else the block is broken": the descriptor of an open, the number of a write, the path of a fork, the
-- data of a read
unused-number : some (block "proc=2\ncall=1\nfd=1\narg=1\npath=/a\ndata=\n" ∷ block "proc=2\ncall=12\nfd=3\narg=1\npath=\ndata=0a\n" ∷ []) ≡ false
unfolding computing block
unused-number = refl

unused-text : some (block "proc=2\ncall=15\nfd=0\narg=0\npath=/\ndata=\n" ∷ block "proc=2\ncall=11\nfd=0\narg=16\npath=\ndata=00\n" ∷ []) ≡ false
unfolding computing block
unused-text = refl

-- a link is made with a path and a text, and read with a path and a size
links-whole : every (block "proc=2\ncall=18\nfd=0\narg=0\npath=/a\ndata=2f61\n" ∷ block "proc=2\ncall=19\nfd=0\narg=16\npath=/a\ndata=\n" ∷ []) ≡ true
unfolding computing block
links-whole = refl

unused-of-links : some (block "proc=2\ncall=18\nfd=0\narg=1\npath=/a\ndata=2f61\n" ∷ block "proc=2\ncall=18\nfd=1\narg=0\npath=/a\ndata=2f61\n" ∷ block "proc=2\ncall=19\nfd=0\narg=16\npath=/a\ndata=2f61\n" ∷ block "proc=2\ncall=19\nfd=1\narg=16\npath=/a\ndata=\n" ∷ []) ≡ false
unfolding computing block
unused-of-links = refl

-- a rename has two paths, and no number
rename-whole : block "proc=2\ncall=20\nfd=0\narg=0\npath=/a\ndata=2f62\n" ≡ true
unfolding computing block
rename-whole = refl

unused-of-rename : some (block "proc=2\ncall=20\nfd=0\narg=1\npath=/a\ndata=2f62\n" ∷ block "proc=2\ncall=20\nfd=1\narg=0\npath=/a\ndata=2f62\n" ∷ []) ≡ false
unfolding computing block
unused-of-rename = refl

-- "an unknown call leaves nothing unused"; no call has the number 21 or 257
unknown-call : every (block "proc=2\ncall=0\nfd=9\narg=7\npath=x\ndata=00\n" ∷ block "proc=2\ncall=21\nfd=9\narg=7\npath=x\ndata=00\n" ∷ block "proc=2\ncall=257\nfd=9\narg=7\npath=x\ndata=00\n" ∷ []) ≡ true
unfolding computing block
unknown-call = refl

-- ---- the calls of a script

-- call 15 by process 1
FORK : List ℕ
FORK = bytes "proc=1\ncall=15\nfd=0\narg=0\npath=\ndata=\n"

broken-after-one : length (blocks 3 (FORK ++ bytes "proc=1\n")) ∷ after_blocks 3 (FORK ++ bytes "proc=1\n") ≡ 1 ∷ bytes "proc=1\n"
unfolding computing FORK
broken-after-one = refl

-- process, call and descriptor 258, a read of 512 bytes, of a link too, and of more
abbrev of_block : Written → List ℕ
of_block w = (asked_by w).process.0 ∷ (asked_by w).call ∷ (asked_by w).fd.0 ∷ (asked_by w).number ∷ length (asked_by w).buffer ∷ []

number-modulo-256 : of_block (block_of (bytes "proc=258\ncall=258\nfd=258\narg=258\npath=\ndata=\n")) ≡ 255 ∷ 255 ∷ 255 ∷ 258 ∷ 0 ∷ []
unfolding computing
number-modulo-256 = refl

largest-read : of_block (block_of (bytes "proc=2\ncall=11\nfd=1\narg=512\npath=\ndata=\n")) ≡ 2 ∷ 11 ∷ 1 ∷ 512 ∷ 512 ∷ []
unfolding computing
largest-read = refl

largest-link-read : of_block (block_of (bytes "proc=2\ncall=19\nfd=0\narg=512\npath=/a\ndata=\n")) ≡ 2 ∷ 19 ∷ 0 ∷ 512 ∷ 512 ∷ []
unfolding computing
largest-link-read = refl

-- "read size (at most 512, else 3)", "3, after 2"
asking : Store → String → Outcome
asking s block = act console_fixed s (asked_by (block_of (bytes block)))

answered : String → ℕ
answered block = (asking console block).reply.refusal

larger-read : answered "proc=2\ncall=11\nfd=0\narg=513\npath=\ndata=\n" ∷ answered "proc=9\ncall=11\nfd=0\narg=513\npath=\ndata=\n" ∷ [] ≡ 3 ∷ 2 ∷ []
unfolding computing asking answered
larger-read = refl

larger-link-read : answered "proc=2\ncall=19\nfd=0\narg=513\npath=/a\ndata=\n" ∷ answered "proc=9\ncall=19\nfd=0\narg=513\npath=/a\ndata=\n" ∷ [] ≡ 3 ∷ 2 ∷ []
unfolding computing asking answered
larger-link-read = refl

-- /today is made to lead to /fares/now: stat shows a link, and its text is read
LINKED : Store
LINKED = (asking console "proc=0\ncall=18\nfd=0\narg=0\npath=/today\ndata=2f66617265732f6e6f77\n").store

link-shown : reply_text (asking LINKED "proc=0\ncall=9\nfd=0\narg=0\npath=/today\ndata=\n").reply ≡ bytes "answer=0\nvalue=0\ndata=03000001000000000a00010000000000\n"
unfolding computing asking LINKED
link-shown = refl

link-text : reply_text (asking LINKED "proc=0\ncall=19\nfd=0\narg=64\npath=/today\ndata=\n").reply ≡ bytes "answer=0\nvalue=10\ndata=2f66617265732f6e6f77\n"
unfolding computing asking LINKED
link-text = refl

-- ---- answers

reply : (value names : ℕ) (name fields : List ℕ) → Answer
reply value names name fields = record { refusal = 0; stop = 7; value = value; name_length = names; name = name; fields = fields }

-- "kind 1, owner 2, .. label 1, length 2, names 2, stamp 4 bytes, little end first"; group 2 after owner, bits 2
stat-bytes : answer_text (reply 0 0 (replicate 16 0) (1 ∷ 258 ∷ 515 ∷ 259 ∷ 4 ∷ 512 ∷ 772 ∷ 16909060 ∷ [])) [] ≡ bytes "answer=0\nvalue=0\ndata=01020103020301040002040304030201\n"
unfolding computing reply
stat-bytes = refl

listed-name : answer_text (reply 1 2 (97 ∷ 98 ∷ replicate 14 0) (replicate 8 0)) [] ≡ bytes "answer=0\nvalue=1\ndata=6162\n"
unfolding computing reply
listed-name = refl

-- as many bytes as were read, not all that were lent
bytes_read : answer_text (reply 2 0 (replicate 16 0) (replicate 8 0)) (1 ∷ 2 ∷ 0 ∷ 0 ∷ []) ≡ bytes "answer=0\nvalue=2\ndata=0102\n"
unfolding computing reply
bytes_read = refl

-- ---- a run: how many calls, where the next block begins, why it stopped, and the text

abbrev shown : Run → List ℕ
shown r = length r.calls ∷ r.next ∷ reason_number r.reason ∷ r.text

ran : (allowance : ℕ) → List ℕ → (room : ℕ) → List ℕ
ran n S room = shown (run n (fixed [] []) S 0 room (store [] [] [] []))

-- 23 bytes
REFUSED : List ℕ
REFUSED = bytes "answer=1\nvalue=0\ndata=\n"

-- "never more than the number allowed"
allowance-spent : ran 1 (FORK ++ FORK) 100 ≡ 1 ∷ 38 ∷ 2 ∷ REFUSED
unfolding computing ran FORK REFUSED
allowance-spent = refl

count-of-calls : ran 2 (FORK ++ FORK) 46 ≡ 2 ∷ 76 ∷ 1 ∷ REFUSED ++ REFUSED
unfolding computing ran FORK REFUSED
count-of-calls = refl

-- "script's end, allowance spent, block broken, answer too long for the output": the first that holds
end-before-allowance : ran 0 [] 0 ≡ 0 ∷ 0 ∷ 1 ∷ []
unfolding computing ran
end-before-allowance = refl

allowance-before-broken : ran 0 (bytes "x") 0 ≡ 0 ∷ 0 ∷ 2 ∷ []
unfolding computing ran
allowance-before-broken = refl

broken-before-room : ran 1 (bytes "x") 0 ≡ 0 ∷ 0 ∷ 3 ∷ []
unfolding computing ran
broken-before-room = refl

room-just-enough : ran 1 FORK 23 ≡ 1 ∷ 38 ∷ 1 ∷ REFUSED
unfolding computing ran FORK REFUSED
room-just-enough = refl

room-one-short : ran 2 (FORK ++ FORK) 45 ≡ 1 ∷ 38 ∷ 4 ∷ REFUSED
unfolding computing ran FORK REFUSED
room-one-short = refl

-- a last block without its last byte
last-block-open : ran 1 (bytes "proc=1\ncall=15\nfd=0\narg=0\npath=\ndata=") 100 ≡ 0 ∷ 0 ∷ 3 ∷ []
unfolding computing ran
last-block-open = refl
