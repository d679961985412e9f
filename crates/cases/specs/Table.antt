-- "The test console": the cases marked P, line by line; and the one theorem about them. A line that names no caller is process 0's, and bits given
-- at creation are 7. What a row says is in Rows.antt:
--     file slot kind owner bits label length links version
--     bytes slot from ..
--     open_file number slot mode offset references
--     descriptor process number (open file + 1, or 0)
use Rattle.std.specs.Prelude.{◌≡◌, true, ℕ, List, [], ◌∷◌, ◌++◌}
use Rattle.rules.specs.Layout.{SLASH, FREE, PLAIN, DIRECTORY}
use Rattle.rules.specs.Store.{slot, zeros}
use Rattle.rules.specs.Directories.{dirent}
use Rattle.rules.specs.Console.{FARES, NOW, KEY}
use Rattle.cases.specs.Rows.{Row, file, bytes, open_file, descriptor, grants, grants_bytes, refuses, opens, creates, unlinks, changes-bits, stats, closes, reads, writes, seeks, holds}

-- ---- paths

-- /fares/now
abbrev pub FARES_NOW : List ℕ
FARES_NOW = SLASH ∷ FARES ++ SLASH ∷ NOW

-- //fares///now
abbrev pub SLASHES : List ℕ
SLASHES = SLASH ∷ SLASH ∷ FARES ++ SLASH ∷ SLASH ∷ SLASH ∷ NOW

-- /key
abbrev pub KEY_PATH : List ℕ
KEY_PATH = SLASH ∷ KEY

-- /fares/x, /fares/y, /fares/no, /fares/now/x
abbrev pub X : List ℕ
X = 120 ∷ []

abbrev pub Y : List ℕ
Y = 121 ∷ []

abbrev pub FARES_X : List ℕ
FARES_X = SLASH ∷ FARES ++ SLASH ∷ X

abbrev pub FARES_Y : List ℕ
FARES_Y = SLASH ∷ FARES ++ SLASH ∷ Y

abbrev pub FARES_NO : List ℕ
FARES_NO = SLASH ∷ FARES ++ SLASH ∷ 110 ∷ 111 ∷ []

abbrev pub FARES_NOW_X : List ℕ
FARES_NOW_X = FARES_NOW ++ SLASH ∷ X

-- "2.40" and byte 10; "A"
abbrev pub FARE : List ℕ
FARE = 50 ∷ 46 ∷ 52 ∷ 48 ∷ 10 ∷ []

abbrev pub A : List ℕ
A = 65 ∷ []

-- ---- the lines

-- P: 2 opens /fares/now, mode 1: value 0; read into 16 bytes: value 5.
unfoldable pub line-1 : List Row
line-1 =
    grants (opens 2 FARES_NOW 1) 0 (open_file 0 2 1 0 1 ∷ descriptor 2 0 1 ∷ [])
    ∷ grants_bytes (reads 2 0) 5 FARE (open_file 0 2 1 5 1 ∷ [])
    ∷ []

-- //fares///now is the same.
unfoldable pub line-1-slashes : List Row
line-1-slashes =
    grants (opens 2 SLASHES 1) 0 (open_file 0 2 1 0 1 ∷ descriptor 2 0 1 ∷ [])
    ∷ grants_bytes (reads 2 0) 5 FARE (open_file 0 2 1 5 1 ∷ [])
    ∷ []

-- P: 2 opens it, mode 2: 9. 2 opens /key, mode 2: 9, not 10.
unfoldable pub line-2 : List Row
line-2 =
    refuses (opens 2 FARES_NOW 2) 9 0
    ∷ refuses (opens 2 KEY_PATH 2) 9 0
    ∷ []

-- P: 0 opens /key, mode 1: 10. 1 opens /key: mode 2 granted, mode 1: 10.
unfoldable pub line-3 : List Row
line-3 =
    refuses (opens 0 KEY_PATH 1) 10 0
    ∷ grants (opens 1 KEY_PATH 2) 0 (open_file 0 3 2 0 1 ∷ descriptor 1 0 1 ∷ [])
    ∷ refuses (opens 1 KEY_PATH 1) 10 0
    ∷ []

-- P: 2 creates /fares/x: 9. 1 creates it: slot 4.
unfoldable pub line-4 : List Row
line-4 =
    refuses (creates 2 FARES_X 7) 9 0
    ∷ grants (creates 1 FARES_X 7) 4
    (file 4 PLAIN 10 1 7 0 0 1 0 ∷ file 1 DIRECTORY 10 1 493 0 2 1 1 ∷ bytes 1 16 (dirent X (slot 4)) ∷ [])
    ∷ []

-- P: 2 opens /fares/now to read, 1 unlinks it: still 5 bytes. 1 creates /fares/now: slot 4. 2 closes: slot 2 free, stamp 1. 1 creates /fares/y: slot 2.
unfoldable pub line-5 : List Row
line-5 =
    grants (opens 2 FARES_NOW 1) 0 (open_file 0 2 1 0 1 ∷ descriptor 2 0 1 ∷ [])
    ∷ grants (unlinks 1 FARES_NOW) 0
    (file 1 DIRECTORY 10 1 493 0 0 1 1 ∷ bytes 1 0 (zeros 16) ∷ file 2 PLAIN 10 1 484 0 5 0 0 ∷ [])
    ∷ grants_bytes (reads 2 0) 5 FARE (open_file 0 2 1 5 1 ∷ [])
    ∷ grants (creates 1 FARES_NOW 7) 4
    (file 4 PLAIN 10 1 7 0 0 1 0 ∷ file 1 DIRECTORY 10 1 493 0 1 1 2 ∷ bytes 1 0 (dirent NOW (slot 4)) ∷ [])
    ∷ grants (closes 2 0) 0
    (descriptor 2 0 0 ∷ open_file 0 0 0 0 0 ∷ file 2 FREE 0 0 0 0 0 0 1 ∷ bytes 2 0 (zeros 5) ∷ [])
    ∷ grants (creates 1 FARES_Y 7) 2
    (file 2 PLAIN 10 1 7 0 0 1 1 ∷ file 1 DIRECTORY 10 1 493 0 2 1 3 ∷ bytes 1 16 (dirent Y (slot 2)) ∷ [])
    ∷ []

-- P: 2 changes bits of /fares/now: 9; 0 does: granted.
unfoldable pub line-6 : List Row
line-6 =
    refuses (changes-bits 2 FARES_NOW 6) 9 0
    ∷ grants (changes-bits 0 FARES_NOW 6) 0 (file 2 PLAIN 10 1 6 0 5 1 0 ∷ [])
    ∷ []

-- P: /fares/now/x: 7 at name 3; /fares/no: 6 at name 2. In an open and in a stat.
unfoldable pub line-7 : List Row
line-7 =
    refuses (opens 0 FARES_NOW_X 1) 7 3
    ∷ refuses (opens 0 FARES_NO 1) 6 2
    ∷ refuses (stats 0 FARES_NOW_X) 7 3
    ∷ refuses (stats 0 FARES_NO) 6 2
    ∷ []

-- P: empty file, seek 3, write "A": length 4, bytes 0, 0, 0, 65.
unfoldable pub line-8 : List Row
line-8 =
    grants (creates 0 FARES_X 7) 4
    (file 4 PLAIN 0 1 7 0 0 1 0 ∷ file 1 DIRECTORY 10 1 493 0 2 1 1 ∷ bytes 1 16 (dirent X (slot 4)) ∷ [])
    ∷ grants (opens 0 FARES_X 2) 0 (open_file 0 4 2 0 1 ∷ descriptor 0 0 1 ∷ [])
    ∷ grants (seeks 0 0 3) 3 (open_file 0 4 2 3 1 ∷ [])
    ∷ grants (writes 0 0 A) 1
    (file 4 PLAIN 0 1 7 0 4 1 1 ∷ bytes 4 0 (0 ∷ 0 ∷ 0 ∷ 65 ∷ []) ∷ open_file 0 4 2 4 1 ∷ [])
    ∷ []

-- P: at 511 write 1: granted. At 512 write 1: 14; write none: granted.
unfoldable pub line-9 : List Row
line-9 =
    grants (opens 0 FARES_NOW 2) 0 (open_file 0 2 2 0 1 ∷ descriptor 0 0 1 ∷ [])
    ∷ grants (seeks 0 0 511) 511 (open_file 0 2 2 511 1 ∷ [])
    ∷ grants (writes 0 0 A) 1 (file 2 PLAIN 10 1 484 0 512 1 1 ∷ bytes 2 511 A ∷ open_file 0 2 2 512 1 ∷ [])
    ∷ refuses (writes 0 0 A) 14 0
    ∷ grants (writes 0 0 []) 0 []
    ∷ []

unfoldable pub table : List (List Row)
table = line-1 ∷ line-1-slashes ∷ line-2 ∷ line-3 ∷ line-4 ∷ line-5 ∷ line-6 ∷ line-7 ∷ line-8 ∷ line-9 ∷ []

-- every row holds of `step`: proved in proofs/Cases.antt
abbrev pub AllCases : Type 0
AllCases = holds table ≡ true
